-- Mappings that have no iova in common may be made one after the other, and taken out again.
use Rattle.std.proofs.Common.{◌≡◌, ℕ, zero, suc, ◌+◌, ◌^◌, ◌<◌, ◌≤◌, ◌==◌, Bool, true, false, not, ◌&&◌, nat_lt, List, [], ◌∷◌, ◌++◌, length, take, drop, filter, slice_get, if◌then◌else◌, Some, None, refl, sym, ◌∙◌, ap, subst, arith, eq-eqb}
use Rattle.std.specs.List.{list_any}
use Rattle.std.proofs.Math.Seq.{drop-nil}
use Rattle.std.proofs.lemmas.List.{length-take}
use Rattle.std.proofs.lemmas.Option.{slice_get_within}
use Rattle.vd_model.specs.declared.map.Mapping.{Mapping}
use Rattle.vd_uapi.specs.declared.message.Msg.{Msg}
use Rattle.std.proofs.lemmas.Bool.{ne_eqb}
use Rattle.std.proofs.lemmas.Bool.Decides.{nat_tests}
use Rattle.vd_iova.specs.Ranges.{meets_iova}
use Rattle.vd_bus.specs.declared.fault.BusFault.{BusFault}
use Rattle.vd_bus.specs.Bus.{BusState}
use Rattle.vd_bus.specs.BusMap.{is_named, can_map, message_fault, after_message}
use Rattle.vd_bus.specs.BusStatus.{is_running}
use Rattle.vd_model.specs.declared.map.TheConstants.Map.{MOST}
use Rattle.vd_machine.specs.File.{Plan}
use Rattle.vd_play.specs.Setup.{last_iova, map_message, with_map, Stands}
use Rattle.vd_play.proofs.Lists.{some_same}

-- it has a byte, and ends at 2^63 at most
abbrev pub Lies : Mapping → Type 0
Lies m = (0 < m.size) × (m.iova + m.size ≤ 2 ^ 63) × (m.guest + m.size ≤ 2 ^ 63)

abbrev pub AllLie : List Mapping → Type 0
AllLie ms = (i : ℕ) (m : Mapping) → slice_get ms i ≡ Some m → Lies m

-- no two have an iova in common
abbrev pub AreApart : List Mapping → Type 0
AreApart ms = (i j : ℕ) (m n : Mapping) → i < j → slice_get ms i ≡ Some m → slice_get ms j ≡ Some n → meets_iova m.iova m.size n ≡ false

-- messages can make this map
pub record CanBeMade (ms : List Mapping) : Type 0 where
  pub few : length ms ≤ MOST
  pub lie : AllLie ms
  pub apart : AreApart ms

turned : (a n c k : ℕ) → (nat_lt a (c + k) && nat_lt c (a + n)) ≡ false → (nat_lt c (a + n) && nat_lt a (c + k)) ≡ false
turned a n c k h = grind (arith, nat_tests)

apart_after : (x : Mapping) (ms : List Mapping) → AreApart (x ∷ ms) → AreApart ms
apart_after x ms h i j m n less at to = h (suc i) (suc j) m n (omega (arith, less)) at to

-- a mapping meets none of those before it
pub meets_none : (ms : List Mapping) (i : ℕ) (m : Mapping) → AreApart ms → slice_get ms i ≡ Some m
    → list_any (meets_iova m.iova m.size) (take i ms) ≡ false
meets_none [] i m h at = absurd (cc)
meets_none (x ∷ ms) zero m h at = refl
meets_none (x ∷ ms) (suc i) m h at =
    rw (turned x.iova x.size m.iova m.size (h 0 (suc i) x m (omega arith) refl at)) (meets_none ms i m (apart_after x ms h) at)

-- ---- the first goes, and none after it

not_named : (a n c k : ℕ) → 0 < n → 0 < k → (nat_lt a (c + k) && nat_lt c (a + n)) ≡ false → ((c == a) && (k == n)) ≡ false
not_named a n c k some one h = grind (arith, nat_tests)

keep_all : (x : Mapping) (ms : List Mapping) → 0 < x.size → AllLie ms
    → ((j : ℕ) (n : Mapping) → slice_get ms j ≡ Some n → meets_iova x.iova x.size n ≡ false)
    → filter (λ k. not (is_named (map_message 3 x) k)) ms ≡ ms
keep_all x [] some lie h = refl
keep_all x (y ∷ ms) some lie h =
    rw (not_named x.iova x.size y.iova y.size some (lie 0 y refl).0 (h 0 y refl))
    (ap (λ (ns : List Mapping). y ∷ ns) (keep_all x ms some (λ i m at. lie (suc i) m at) (λ j n at. h (suc j) n at)))

others_stay : (x : Mapping) (ms : List Mapping) → AllLie (x ∷ ms) → AreApart (x ∷ ms)
    → filter (λ k. not (is_named (map_message 3 x) k)) (x ∷ ms) ≡ ms
others_stay x ms lie h = rw (eq-eqb x.iova x.iova refl) (rw (eq-eqb x.size x.size refl)
    (keep_all x ms (lie 0 x refl).0 (λ i m at. lie (suc i) m at) (λ j n at. h 0 (suc j) x n (omega arith) refl at)))

-- the mappings from the i-th on, of which it is the first
pub from_at : {A : Type 0} (xs : List A) (i : ℕ) (x : A) → slice_get xs i ≡ Some x → drop i xs ≡ x ∷ drop (i + 1) xs
from_at [] i x at = absurd (cc)
from_at (y ∷ xs) zero x at = ap (λ z. z ∷ xs) (some_same y x (Some y) refl at)
from_at (y ∷ xs) (suc i) x at = let e : suc i + 1 ≡ suc (i + 1) = omega arith in rw e (from_at xs i x at)

-- and up to it, of which it is the last
pub up_to : {A : Type 0} (xs : List A) (i : ℕ) (x : A) → slice_get xs i ≡ Some x → take (i + 1) xs ≡ take i xs ++ x ∷ []
up_to [] i x at = absurd (cc)
up_to (y ∷ xs) zero x at = ap (λ z. z ∷ []) (some_same y x (Some y) refl at)
up_to (y ∷ xs) (suc i) x at = let e : suc i + 1 ≡ suc (i + 1) = omega arith in rw e (ap (λ zs. y ∷ zs) (up_to xs i x at))

apart_from : (ms : List Mapping) (i : ℕ) → AreApart ms → AreApart (drop i ms)
apart_from [] i h = rw (drop-nil i) h
apart_from (x ∷ ms) zero h = h
apart_from (x ∷ ms) (suc i) h = apart_from ms i (apart_after x ms h)

lie_from : (ms : List Mapping) (i : ℕ) → AllLie ms → AllLie (drop i ms)
lie_from [] i h = rw (drop-nil i) h
lie_from (x ∷ ms) zero h = h
lie_from (x ∷ ms) (suc i) h = lie_from ms i (λ j m at. h (suc j) m at)

-- ---- messages

granted : (x y : Bool) (f g : BusFault) → x ≡ false → y ≡ true → (if x then Some f else if not y then Some g else None) ≡ None
granted x y f g hx hy = rw hx (rw hy refl)

fits : (iova size guest first last : ℕ) → first ≡ 0 → last ≡ last_iova → 0 < size → iova + size ≤ 2 ^ 63 → guest + size ≤ 2 ^ 63
    → (not (size == 0) && not (nat_lt iova first) && not (nat_lt (last + 1) (iova + size)) && not (nat_lt (2 ^ 63) (guest + size))) ≡ true
fits iova size guest first last zero_first most some low ends = grind (arith, nat_tests)

both : (x y z : Bool) → x ≡ true → y ≡ false → z ≡ false → (x && not y && not z) ≡ true
both x y z hx hy hz = rw hx (rw hy (rw hz refl))

no_update_fault : (plan : Plan) (b : BusState) (m : Mapping) → Stands plan b → Lies m
    → list_any (meets_iova m.iova m.size) b.map ≡ false → length b.map < MOST → message_fault b (map_message 2 m) ≡ None
no_update_fault plan b m s lies apart few =
    granted (is_running b) (can_map b (map_message 2 m)) _ _ s.still
    (both _ (list_any (meets_iova m.iova m.size) b.map) (length b.map == 64)
    (fits m.iova m.size m.guest b.first b.last (ap (λ (c : BusState). c.first) s.is) (ap (λ (c : BusState). c.last) s.is) lies.0 lies.1
    lies.2) apart (ne_eqb (length b.map) 64 (λ e. omega arith)))

module _ (ms : List Mapping) (i : ℕ) (m : Mapping) (at : slice_get ms i ≡ Some m) where
  -- the message that maps the i-th is granted where those before it are mapped, and then it is mapped too
  pub update_granted : (plan : Plan) (b : BusState) (msg : Msg) → Stands plan b → CanBeMade ms → msg ≡ map_message 2 m
      → b.map ≡ take i ms → message_fault b msg ≡ None
  update_granted plan b msg s can is mapped =
      let few : length b.map < MOST = omega (
        arith,
        ap length mapped,
        length-take i ms,
        slice_get_within ms i m at,
        can.few,
      ) in
      subst (λ (z : Msg). message_fault b z ≡ None) (sym is)
      (no_update_fault plan b m s (can.lie i m at)
      (subst (λ (ns : List Mapping). list_any (meets_iova m.iova m.size) ns ≡ false) (sym mapped) (meets_none ms i m can.apart at)) few)

  pub updated : (a b c : BusState) (msg : Msg) → msg ≡ map_message 2 m → b ≡ with_map a (take i ms) → c ≡ after_message b msg
      → c ≡ with_map a (take (i + 1) ms)
  updated a b c msg is mapped sent =
      sent ∙ ap (λ (z : Msg). after_message b z) is ∙ ap (λ (z : BusState). after_message z (map_message 2 m)) mapped
      ∙ ap (λ (ns : List Mapping). with_map a ns) (sym (up_to ms i m at))

  -- the message that takes it out is granted where those from it on are mapped, and then those after it are
  pub invalidate_granted : (plan : Plan) (b : BusState) (msg : Msg) → Stands plan b → msg ≡ map_message 3 m → b.map ≡ drop i ms
      → message_fault b msg ≡ None
  invalidate_granted plan b msg s is mapped =
      let named : list_any (is_named (map_message 3 m)) (m ∷ drop (i + 1) ms) ≡ true =
      rw (eq-eqb m.iova m.iova refl) (rw (eq-eqb m.size m.size refl) refl) in
      subst (λ (z : Msg). message_fault b z ≡ None) (sym is)
      (granted (is_running b) (list_any (is_named (map_message 3 m)) b.map) _ _ s.still
      (subst (λ (ns : List Mapping). list_any (is_named (map_message 3 m)) ns ≡ true) (sym (mapped ∙ from_at ms i m at)) named))

  pub invalidated : (a b c : BusState) (msg : Msg) → CanBeMade ms → msg ≡ map_message 3 m → b ≡ with_map a (drop i ms)
      → c ≡ after_message b msg → c ≡ with_map a (drop (i + 1) ms)
  invalidated a b c msg can is mapped sent =
      let first : drop i ms ≡ m ∷ drop (i + 1) ms = from_at ms i m at in
      let left = ap (λ (ns : List Mapping). filter (λ k. not (is_named (map_message 3 m) k)) ns) first
      ∙ others_stay m (drop (i + 1) ms) (subst AllLie first (lie_from ms i can.lie)) (subst AreApart first (apart_from ms i can.apart)) in
      sent ∙ ap (λ (z : Msg). after_message b z) is ∙ ap (λ (z : BusState). after_message z (map_message 3 m)) mapped
      ∙ ap (λ (ns : List Mapping). with_map a ns) left
