-- An address tree moves each piece that lies in its own mappings, and a short chain may stand on a ring with these bounds.
use Rattle.std.proofs.Common.{◌≡◌, ℕ, ◌<◌, ◌≤◌, ◌&&◌, nat_le, Bool, true, false, Option, Some, None, List, length, find, refl, sym, ◌∙◌, ap, subst, arith}
use Rattle.std.specs.List.{All}
use Rattle.std.specs.Option.{is_some}
use Rattle.std.proofs.lemmas.Bool.Decides.{nat_tests}
use Rattle.vd_model.specs.declared.chain.Piece.{Piece}
use Rattle.vd_model.specs.declared.map.Mapping.{Mapping}
use Rattle.vd_model.specs.Chains.{IsChain, readable, writable}
use Rattle.vd_model.specs.Maps.{to, lies_in, holds_guest}
use Rattle.vd_ring.specs.declared.frame.Frame.{Frame}
use Rattle.vd_ring.specs.Frames.{Fits, AreInBounds}
use Rattle.vd_models.specs.laws.Pairs.{may_stand}
use Rattle.vd_iova.specs.Trees.{Tree, IsKept, IsWithin}
use Rattle.vd_iova.proofs.Members.{found, of_each}
use Rattle.vd_iova.proofs.Translations.{ends_from_holds}
use Rattle.vd_iova.proofs.Laws.{is_some-to}
use Rattle.vd_relay.specs.Pairing.{Covers}

and_left : (a b : Bool) → (a && b) ≡ true → a ≡ true
and_left true b h = refl
and_left false b h = absurd (cc h)

and_right : (a b : Bool) → (a && b) ≡ true → b ≡ true
and_right true b h = h
and_right false b h = absurd (cc h)

some_byte : (len : ℕ) → nat_le 1 len ≡ true → 1 ≤ len
some_byte len h = grind (arith, nat_tests)

module _ (t : Tree) (kept : IsKept t) (p : Piece) (lies : lies_in t.mappings p ≡ true) where
  below : (o : Option Mapping) → find (holds_guest p.addr p.len) t.mappings ≡ o → p.addr < 9223372036854775808
  below None is =
      let no : is_some (to t.mappings p.addr p.len) ≡ false = is_some-to t.mappings p.addr p.len ∙ ap is_some is in
      absurd (cc (no, and_right (nat_le 1 p.len) (is_some (to t.mappings p.addr p.len)) lies))
  below (Some m) is =
      let h = found (holds_guest p.addr p.len) t.mappings m is in
      omega (
        arith,
        ends_from_holds m.guest m.size p.addr p.len h.1,
        (of_each (IsWithin t.first t.last) t.mappings m kept.within h.0).guest_ends,
        some_byte p.len (and_left (nat_le 1 p.len) (is_some (to t.mappings p.addr p.len)) lies),
      )

pub covers_own : (t : Tree) → IsKept t → Covers t.mappings t.mappings
covers_own t kept p lies = (lies, below t kept p lies (find (holds_guest p.addr p.len) t.mappings) refl)

-- the same chain on a ring with bounds
pub may_stand_in : (f : Frame) (ms : List Mapping) (c : List Piece) → IsChain c → length c ≤ f.size → readable c ≤ 1000000
    → writable c ≤ 1000000 → f.bounds ≡ Some ms → All (λ p. lies_in ms p ≡ true) c → Fits f c
may_stand_in f ms c is short read write bounded all =
    let free : Frame =
    record { ring = f.ring; packed = f.packed; size = f.size; features = f.features; control = f.control; bounds = None } in
    let fits : Fits free c = may_stand free c is short read write refl in
    record {
      chain = fits.chain;
      size = fits.size;
      length = fits.length;
      bounds = subst (λ b. AreInBounds b c) (sym bounded) all;
    }
