-- Lemmas: both parties of a queue on one ring of plain words, as tests have them.
use Rattle.std.proofs.Common.{◌≡◌, ℕ, ◌+◌, ◌≤◌, Bool, true, false, Option, Some, None, List, [], ◌∷◌, length, replicate, if◌then◌else◌, refl, sym, ◌∙◌, ap, subst, arith}
use Rattle.std.specs.List.{All}
use Rattle.vd_model.specs.declared.chain.Piece.{Piece}
use Rattle.vd_model.specs.declared.record.Script.{Script}
use Rattle.std.proofs.lemmas.List.{append-nil}
use Rattle.std.proofs.lemmas.List.Elements.{All-replicate}
use Rattle.std.proofs.lemmas.List.Sums.{sum_by-cons}
use Rattle.vd_model.specs.Chains.{IsChain, total, readable, writable, readable_len, writable_len}
use Rattle.vd_ring.specs.declared.device.DeviceView.{DeviceView}
use Rattle.vd_ring.specs.declared.driver.DriverView.{DriverView}
use Rattle.vd_ring.specs.declared.frame.Frame.{Frame}
use Rattle.vd_ring.specs.Frames.{Fits, AreInBounds}
use Rattle.vd_ring.specs.Fresh.{fresh_driver}
use Rattle.vd_layout.specs.Driver.{DriverModel}
use Rattle.vd_layout.specs.Device.{DeviceModel}
use Rattle.vd_layout.specs.Layout.{LayoutModel, IsLawfulLayout}
use Rattle.vd_bus.specs.Device.{DeviceParty, IsServed}
use Rattle.vd_bus.specs.Guest.{GuestParty, CanBoot}
use Rattle.vd_models.specs.Pairs.{IsBeside, IsAt, IsPair}

piece_total : (b : Bool) (n t r w : ℕ) → t ≡ r + w → n + t ≡ ((if b then 0 else n) + r) + ((if b then n else 0) + w)
piece_total true n t r w is = omega arith
piece_total false n t r w is = omega arith

split_total : (c : List Piece) → total c ≡ readable c + writable c
split_total [] = refl
split_total (p ∷ c) = omega (
  arith,
  sum_by-cons
      (λ (q : Piece). q.len) p c,
  sum_by-cons readable_len p c,
  sum_by-cons writable_len p c,
  piece_total p.write p.len (total c)
      (readable c) (writable c) (split_total c),
)

some_piece : (c : List Piece) → IsChain c → 1 ≤ length c
some_piece c is = is.0

-- a chain of few bytes may stand on a ring without bounds
pub may_stand : (f : Frame) (c : List Piece) → IsChain c → length c ≤ f.size → readable c ≤ 1000000 → writable c ≤ 1000000
    → f.bounds ≡ None → Fits f c
may_stand f c is short r w free = record {
  chain = is;
  size = at f.features.indirect;
  length = omega (arith, split_total c);
  bounds = subst (λ b. AreInBounds b c) (sym free) tt;
}
  where
    at : (b : Bool) → (if b then 1 else length c) ≤ f.size
    at true = omega (arith, some_piece c is, short)
    at false = short

pub can_boot : (l : LayoutModel) (f : Frame) (n : ℕ) (s : Script) (count : ℕ) (c : List Piece)
    → s ≡ record { runs = record { count = count; chain = c } ∷ []; commands = [] } → Fits f c → f.control ≡ false → CanBoot l s
    (fresh_driver f n)
can_boot l f n s count c is fits plain = subst (λ (z : Script). CanBoot l z (fresh_driver f n)) (sym is) record {
  fresh = refl;
  unarmed = refl;
  fits = subst (λ (cs : List (List Piece)). All (Fits f) cs) (sym (append-nil (replicate count c))) (All-replicate (Fits f) count c fits);
  other = λ some. plain;
  sends = λ some. absurd (some refl);
}

module _ {D E G V C : Type 0} (d : DriverModel D) (e : DeviceModel E) (l : LayoutModel) (law : IsLawfulLayout d e l) (g : GuestParty G)
    (m : DeviceParty V C) where
  pub same_words : (guest : G) (x : V) (end : Option E) (ws us : List ℕ) (events chains : ℕ) → us ≡ ws
      → IsPair d e l g m guest x end ws events chains → IsPair d e l g m guest x end us events chains
  same_words guest x end ws us events chains is h = subst (λ (zs : List ℕ). IsPair d e l g m guest x end zs events chains) (sym is) h

  pub guest_moved : (guest guest' : G) (x : V) (end : Option E) (ws us words : List ℕ) (events chains : ℕ) (view : DriverView)
      → (h : IsPair d e l g m guest x end ws events chains) → l.ring words view h.device_view → us ≡ words → g.holds guest' view
      → IsPair d e l g m guest' x end us events chains
  guest_moved guest guest' x end ws us words events chains view h ring is holds =
      let framed : view.frame ≡ h.view.frame = sym (law.wide words view h.device_view ring).1 ∙
      (law.wide ws h.view h.device_view h.ring).1 in
      same_words guest' x end words us events chains is record {
        view = view;
        device_view = h.device_view;
        ring = ring;
        control = ap (λ (f : Frame). f.control) framed ∙ h.control;
        drives = holds;
        at = h.at;
        events = h.events;
        chains = h.chains;
      }

  held_at : (x : V) (end : Option E) (w : DeviceView) → end ≡ None → IsAt e m x end w → m.holds x w
  held_at x end w is h = subst (λ (o : Option E). IsAt e m x o w) is h

  at_held : (x : V) (end : Option E) (w : DeviceView) → end ≡ None → m.holds x w → IsAt e m x end w
  at_held x end w is h = subst (λ (o : Option E). IsAt e m x o w) (sym is) h

  pub holds : (guest : G) (x : V) (end : Option E) (ws : List ℕ) (events chains : ℕ)
      → (h : IsPair d e l g m guest x end ws events chains) → end ≡ None → m.holds x h.device_view
  holds guest x end ws events chains h is = held_at x end h.device_view is h.at

  pub beside : (guest : G) (x : V) (end : Option E) (y : E) (ws : List ℕ) (events chains : ℕ)
      → (h : IsPair d e l g m guest x end ws events chains) → end ≡ Some y → IsBeside e m x y h.device_view
  beside guest x end y ws events chains h is = subst (λ (o : Option E). IsAt e m x o h.device_view) is h.at

  pub device_moved : (guest : G) (x x' : V) (end : Option E) (ws us words : List ℕ) (events chains : ℕ) (view : DeviceView) → end ≡ None
      → (h : IsPair d e l g m guest x end ws events chains) → l.ring words h.view view → us ≡ words → IsServed m x x' → m.holds x' view
      → IsPair d e l g m guest x' end us events chains
  device_moved guest x x' end ws us words events chains view none h ring is served holds =
      same_words guest x' end words us events chains is record {
        view = h.view;
        device_view = view;
        ring = ring;
        control = h.control;
        drives = h.drives;
        at = at_held x' end view none holds;
        events = omega (arith, h.events, served.room);
        chains = omega (arith, h.chains, served.room);
      }

  -- another device or end beside the same views
  pub changed : (guest : G) (x x' : V) (end end' : Option E) (ws : List ℕ) (events chains events' : ℕ)
      → (h : IsPair d e l g m guest x end ws events chains) → IsAt e m x' end' h.device_view → events' ≤ m.event_room x'
      → m.chain_room x ≤ m.chain_room x' → m.begun x' ≡ m.begun x → IsPair d e l g m guest x' end' ws events' chains
  changed guest x x' end end' ws events chains events' h at room more same = record {
    view = h.view;
    device_view = h.device_view;
    ring = h.ring;
    control = h.control;
    drives = h.drives;
    at = at;
    events = room;
    chains = omega (arith, h.chains, ap length same);
  }
