-- The ends of a fresh ring stand for its fresh views.
use Rattle.std.proofs.Common.{◌≡◌, ℕ, ◌+◌, ◌/◌, ◌%◌, ◌≤◌, Bool, Some, None, if◌then◌else◌, List, [], length, slice_index, replicate, refl, sym, ap, ◌∙◌, subst, arith, false}
use Rattle.std.proofs.lemmas.List.{length-replicate, get_or-replicate}
use Rattle.std.proofs.Math.Nat.{mod-eq_of_lt}
use Rattle.vd_ring.specs.declared.frame.Frame.{Frame}
use Rattle.vd_ring.specs.declared.driver.DriverNow.TheVariants as driver
use Rattle.vd_ring.specs.Fresh.{fresh_driver}
use Rattle.vd_ring.specs.History.{upto}
use Rattle.vd_ring.specs.Places.{Places}
use Rattle.vd_ring.proofs.Counts.{one_above, occurs_upto, length_upto}
use Rattle.vd_split_ring.specs.SplitWords.{width, avail_from, kick_at}
use Rattle.vd_split_ring.proofs.Areas.{areas}
use Rattle.vd_split.specs.declared.driver.SplitDriver.{SplitDriver}
use Rattle.vd_split.specs.declared.driver.DriverStep.TheVariants as step
use Rattle.vd_split.specs.DriverEnd.{IsMadeFor, DriverStands, DriverStepStands, DriverSignals, DriverStepArmed, driver_owes}
use Rattle.vd_split.specs.Parts.{Copies}

fresh_places : (f : Frame) → Places f []
fresh_places f = record {
  once = λ p. omega (arith, occurs_upto p f.size);
  sizes = omega (arith, length_upto f.size);
  as_many = λ k h. absurd (omega arith);
  listed = refl;
  is_open = λ k. sym (one_above k 0 (omega arith));
  count = refl;
  fits = λ k d h. absurd (omega arith);
  limited = omega arith;
}

-- words of 0 are a copy of words of 0
pub copies_fresh : (at n w : ℕ) (area : List ℕ) → area ≡ replicate n 0 → at + n ≤ w → Copies area at n (replicate w 0)
copies_fresh at n w area is inside = record {
  as_many = ap (λ (xs : List ℕ). length xs) is ∙ length-replicate n 0;
  same = λ i h. ap (λ (xs : List ℕ). slice_index xs i) is ∙ get_or-replicate n i 0 0 h
      ∙ sym (get_or-replicate w (at + i) 0 0 (omega arith));
}

silent : (e : SplitDriver) (n : ℕ) (f : Frame) → e.doing ≡ step.Idle → e.armed ≡ false → e.heard ≡ 0 → e.bells ≡ 0
    → DriverSignals e.armed e.heard e.bells e.offered e.doing (fresh_driver f n)
silent e n f doing off unheard unrung = record {
  is_armed = sym (ap (λ (b : Bool). if b then Some 0 else None) off);
  hears = unheard;
  rings = unrung;
  few = omega (arith, unrung, ap driver_owes doing);
  awake = subst (λ t. DriverStepArmed t e.armed) (sym doing) tt;
}

pub driver_fresh : (e : SplitDriver) (f : Frame) → IsMadeFor e.size e.features f → e.offered ≡ 0 → e.collected ≡ 0 → e.entry ≡ 0
    → e.used ≡ 0 → e.free.items ≡ upto e.size → e.free.capacity ≡ e.size → length e.slots.items ≡ e.size
    → e.area.items ≡ replicate ((e.size + 6) / 4) 0 → e.shown ≡ false → e.doing ≡ step.Idle → e.kick ≡ kick_at f → e.armed ≡ false
    → e.heard ≡ 0 → e.bells ≡ 0 → DriverStands e (fresh_driver f (width f))
driver_fresh e f made offered collected entry used free capacity slots area shown doing kick off unheard unrung =
    let none : 0 % f.size ≡ 0 = mod-eq_of_lt made.lawful.some_place in record {
      made = made;
      counts = record { offers = offered; collects = collected; entry_at = entry ∙ sym none; used_at = used ∙ sym none };
      holds = record {
        held = fresh_places f;
        queued = free ∙ ap upto made.sized;
        room = capacity ∙ made.sized;
        as_many = slots ∙ made.sized;
        open_chains = λ k d a. absurd (omega arith);
      };
      area = copies_fresh (avail_from f) ((f.size + 6) / 4) (width f) e.area.items
          (area ∙ ap (λ n. replicate ((n + 6) / 4) 0) made.sized) (omega (arith, areas f));
      wide = length-replicate (width f) 0;
      shown = shown;
      kick = kick;
      signals = silent e (width f) f doing off unheard unrung;
      doing = subst (λ t. DriverStepStands t e.pieces.items f [] driver.Idle) (sym doing) refl;
    }
