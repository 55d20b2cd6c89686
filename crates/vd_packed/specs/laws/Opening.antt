-- The driver's end of a fresh ring stands for its fresh view.
use Rattle.std.proofs.Common.{◌≡◌, ℕ, ◌+◌, ◌/◌, ◌%◌, ◌<◌, [], length, Bool, true, false, Some, None, if◌then◌else◌, refl, sym, ap, ◌∙◌, subst, arith}
use native.Mathlib.Nat.{mod-eq_of_lt, div-eq_of_lt}
use Rattle.vd_model.specs.declared.features.Features.{Features}
use Rattle.vd_ring.specs.declared.frame.Frame.{Frame}
use Rattle.vd_ring.specs.declared.driver.DriverNow.TheVariants as driver
use Rattle.vd_ring.specs.Fresh.{fresh_driver}
use Rattle.vd_ring.specs.History.{upto}
use Rattle.vd_ring.specs.Places.{Places}
use Rattle.vd_ring.proofs.Counts.{one_above, occurs_upto, length_upto}
use Rattle.vd_packed_ring.specs.PackedWords.{kick_at, width}
use Rattle.vd_packed.specs.declared.driver.PackedDriver.{PackedDriver}
use Rattle.vd_packed.specs.declared.driver.DriverStep.TheVariants as step
use Rattle.vd_packed.specs.declared.ring_position.RingPosition.{RingPosition}
use Rattle.vd_packed.specs.DriverEnd.{IsMadeFor, DriverStands, DriverStepStands, DriverSignals, DriverStepArmed, driver_owes}
use Rattle.vd_packed.specs.RingPositions.{IsAt, all_words}

fresh_places : (f : Frame) → Places f []
fresh_places f = record {
  once = λ p. omega (arith, occurs_upto p f.size);
  sizes = omega (arith, length_upto f.size);
  as_many = λ k h. absurd (omega arith);
  listed = refl;
  is_open = λ k. sym (one_above k 0 (omega arith));
  count = refl;
  fits = λ k d h. absurd (omega arith);
  limited = omega arith;
}

-- the first ring_position
pub first_at : (s : RingPosition) (n : ℕ) → 0 < n → s ≡ record { place = 0; wrap = true } → IsAt s n 0
first_at s n pos is =
    let m : 0 % n ≡ 0 = mod-eq_of_lt pos in let d : 0 / n ≡ 0 = div-eq_of_lt pos in
    subst (λ (t : RingPosition). IsAt t n 0) (sym is) record { place = sym m; wrap = omega arith }

silent : (e : PackedDriver) (n : ℕ) (f : Frame) → e.doing ≡ step.Idle → e.armed ≡ false → e.heard ≡ 0 → e.bells ≡ 0
    → DriverSignals e.armed e.heard e.bells e.offered e.doing (fresh_driver f n)
silent e n f doing off unheard unrung = record {
  is_armed = sym (ap (λ (b : Bool). if b then Some 0 else None) off);
  hears = unheard;
  rings = unrung;
  few = omega (arith, unrung, ap driver_owes doing);
  awake = subst (λ t. DriverStepArmed t e.armed) (sym doing) tt;
}

-- the place of the driver's bell
pub kick_is : (n k : ℕ) (fs : Features) (control : Bool) (f : Frame) → n ≡ f.size → fs ≡ f.features → f.control ≡ control
    → k + 2 ≡ all_words n fs.indirect control → k ≡ kick_at f
kick_is n k fs control f size features same is =
    let w : all_words n fs.indirect control ≡ width f = ap (λ m. all_words m fs.indirect control) size
    ∙ ap (λ (y : Features). all_words f.size y.indirect control) features
    ∙ ap (λ (b : Bool). all_words f.size f.features.indirect b) (sym same) in
    omega (arith, is, w)

pub driver_fresh : (e : PackedDriver) (f : Frame) → IsMadeFor e.size e.features f → e.offered ≡ 0 → e.collected ≡ 0
    → e.next ≡ record { place = 0; wrap = true } → e.used ≡ record { place = 0; wrap = true } → e.next_position ≡ 0
    → e.used_position ≡ 0 → e.space ≡ e.size
    → e.free.items ≡ upto e.size → e.free.capacity ≡ e.size → length e.slots.items ≡ e.size → e.kick ≡ kick_at f → e.armed ≡ false
    → e.heard ≡ 0 → e.bells ≡ 0 → e.doing ≡ step.Idle → DriverStands e (fresh_driver f (width f))
driver_fresh e f made offered collected next used next_is used_is space free capacity slots kick off unheard unrung doing =
    let some : 0 < f.size = omega (arith, made.lawful.least) in record {
      made = made;
      counts = record {
        offers = offered;
        collects = collected;
        next_at = first_at e.next f.size some next;
        used_at =
            first_at e.used f.size some used;
        next_is = next_is;
        used_is = used_is;
        left = omega (arith, made.sized);
      };
      holds = record {
        held = fresh_places f;
        queued = free ∙ ap upto made.sized;
        room = capacity ∙ made.sized;
        as_many = slots ∙ made.sized;
        open_chains = λ k d a. absurd (omega arith);
      };
      kick = kick;
      signals = silent e (width f) f doing off unheard unrung;
      doing = subst (λ t. DriverStepStands t e.pieces.items e.at f [] driver.Idle) (sym doing) refl;
    }
