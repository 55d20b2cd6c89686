-- What the ways of a relay have in common: counts, numbers, and chains that stand for each other.
use Rattle.std.proofs.Common.{◌≡◌, None, ℕ, zero, suc, ◌+◌, ◌<◌, ◌≤◌, List, [], ◌∷◌, ◌++◌, length, map, drop, if◌then◌else◌, refl, sym, ◌∙◌, ap, arith, inl, inr}
use Rattle.std.proofs.lemmas.Bool.{cases_eq}
use Rattle.std.proofs.lemmas.List.{map_push, length-map}
use Rattle.std.proofs.Math.ListN.{length-append, get_or-map}
use Rattle.vd_model.specs.declared.chain.Piece.{Piece}
use Rattle.vd_model.specs.declared.features.Features.{Features}
use Rattle.vd_model.specs.Chains.{needs, total}
use Rattle.vd_model.specs.Moved.{moved}
use Rattle.vd_ring.specs.declared.frame.Frame.{Frame}
use Rattle.vd_ring.specs.declared.frame.Used.{Used}
use Rattle.vd_ring.specs.declared.driver.DriverDone.{DriverDone}
use Rattle.vd_ring.specs.declared.driver.DriverDone.TheVariants.{Offer, Collect}
use Rattle.vd_ring.specs.History.{entry, offers, collects, open_at, chain, chain_at, occurs}
use Rattle.vd_ring.proofs.Counts.{one_other, occurs_push, occurs_without}
use Rattle.vd_ring.proofs.Rooms.{sum_map}
use Rattle.vd_relay.specs.Ways.{Way, moving, carrying, Pairs, Carries, Matches, bare, sent, came, numbered_by, shift_by, Follows}
use Rattle.vd_relay.proofs.Shifts.{needs_moved, total_moved, chain_moved}

-- how many chains of the shadow ring came before those that are carried
abbrev pub skips : Way → ℕ
skips (moving ms) = 0
skips (carrying n) = n

-- ---- what holds between two rings, whatever the way

pub record Likes (f g : Frame) : Type 0 where
  pub size : g.size ≡ f.size
  pub features : g.features ≡ f.features
  pub free : g.bounds ≡ None
  pub guest : f.ring < 16
  pub shadow : 16 ≤ g.ring

pub alike : (way : Way) (f g : Frame) → Pairs way f g → Likes f g
alike (moving ms) f g h = record { size = h.size; features = h.features; free = h.free; guest = h.guest; shadow = h.shadow }
alike (carrying n) f g h = record { size = h.size; features = h.features; free = h.free; guest = h.guest; shadow = h.shadow }

-- ---- lists without their first

pub drop_push : {X : Type 0} (n : ℕ) (xs : List X) (x : X) → n ≤ length xs → drop n (xs ++ x ∷ []) ≡ drop n xs ++ x ∷ []
drop_push zero xs x low = refl
drop_push (suc n) [] x low = absurd (omega arith)
drop_push (suc n) (y ∷ xs) x low = drop_push n xs x (omega arith)

pub drop_count : {X : Type 0} (n : ℕ) (xs : List X) → n ≤ length xs → length xs ≡ n + length (drop n xs)
drop_count zero xs low = omega arith
drop_count (suc n) [] low = absurd (omega arith)
drop_count (suc n) (y ∷ xs) low = omega (arith, drop_count n xs (omega arith))

pub drop_at : (n j : ℕ) (xs : List (List Piece)) → chain_at (drop n xs) j ≡ chain_at xs (n + j)
drop_at zero j xs =
    let e : j ≡ 0 + j = omega arith in
    ap (λ i. chain_at xs i) e
drop_at (suc n) j [] = refl
drop_at (suc n) j (y ∷ xs) =
    let e : suc (n + j) ≡ suc n + j = omega arith in
    drop_at n j xs ∙ ap (λ i. chain_at (y ∷ xs) i) e

-- ---- counts and numbers

pub few_skipped : (way : Way) (o : List DriverDone) → Follows way o → skips way ≤ 4105
few_skipped (moving ms) o h = omega arith
few_skipped (carrying n) o h = h.few

pub sent_count : (way : Way) (o : List DriverDone) → Follows way o → length (offers o) ≡ skips way + length (sent way o)
sent_count (moving ms) o h = omega arith
sent_count (carrying n) o h = drop_count n (offers o) h.offered

pub came_count : (way : Way) (o : List DriverDone) → Follows way o → length (collects o) ≡ skips way + length (came way o)
came_count (moving ms) o h = omega arith
came_count (carrying n) o h = drop_count n (collects o) h.collected

-- what is open was carried
pub open_past : (way : Way) (o : List DriverDone) (k : ℕ) → Follows way o → 1 ≤ occurs k (open_at o) → skips way ≤ k
open_past (moving ms) o k h some = omega arith
open_past (carrying n) o k h some = h.closed k some

pub number_at : (way : Way) (b k : ℕ) → skips way ≤ k → numbered_by way b k + skips way ≡ b + k
number_at (moving ms) b k past = omega arith
number_at (carrying n) b k past = omega (arith, past)

pub number_past : (way : Way) (b k : ℕ) → numbered_by way b (skips way + k) ≡ b + k
number_past (moving ms) b k = omega arith
number_past (carrying n) b k = omega arith

pub number_next : (way : Way) (b : ℕ) (o : List DriverDone) → Follows way o
    → numbered_by way b (length (offers o)) ≡ b + length (sent way o)
number_next way b o h = ap (numbered_by way b) (sent_count way o h) ∙ number_past way b (length (sent way o))

-- the numbers of chains that were carried differ
pub number_once : (way : Way) (b j k : ℕ) → skips way ≤ j → skips way ≤ k → numbered_by way b j ≡ numbered_by way b k → j ≡ k
number_once way b j k low high is = omega (arith, number_at way b j low, number_at way b k high, is)

pub shift_entry : (way : Way) (b k n : ℕ) → shift_by way b (entry k n) ≡ entry (numbered_by way b k) n
shift_entry (moving ms) b k n = refl
shift_entry (carrying m) b k n = refl

-- ---- after an act

pub sent_offered : (way : Way) (o : List DriverDone) (c : List Piece) → Follows way o → sent way (Offer c ∷ o) ≡ sent way o ++ c ∷ []
sent_offered (moving ms) o c h = refl
sent_offered (carrying n) o c h = drop_push n (offers o) c h.offered

pub came_offered : (way : Way) (o : List DriverDone) (c : List Piece) → came way (Offer c ∷ o) ≡ came way o
came_offered (moving ms) o c = refl
came_offered (carrying n) o c = refl

pub sent_collected : (way : Way) (o : List DriverDone) (us : List Used) → sent way (Collect us ∷ o) ≡ sent way o
sent_collected (moving ms) o us = refl
sent_collected (carrying n) o us = refl

pub came_collected : (way : Way) (o : List DriverDone) (u : Used) → Follows way o → came way (Collect (u ∷ []) ∷ o) ≡ came way o ++ u ∷ []
came_collected (moving ms) o u h = refl
came_collected (carrying n) o u h = drop_push n (collects o) u h.collected

pub follows_offered : (way : Way) (o : List DriverDone) (c : List Piece) → Follows way o → Follows way (Offer c ∷ o)
follows_offered (moving ms) o c h = h
follows_offered (carrying n) o c h = record {
  few = h.few;
  offered = omega (arith, h.offered, length-append (offers o) (c ∷ []));
  collected = h.collected;
  closed = closed;
}
  where
    closed : (k : ℕ) → 1 ≤ occurs k (open_at o ++ length (offers o) ∷ []) → n ≤ k
    closed k some = elim (cases_eq (length (offers o)) k) [
      | inl e ↦ omega (arith, e, h.offered)
      | inr ne ↦ h.closed k
          (omega (arith, occurs_push k (open_at o) (length (offers o)), one_other (length (offers o)) k ne))
    ]

pub follows_collected : (way : Way) (o : List DriverDone) (k n : ℕ) → 1 ≤ occurs k (open_at o) → Follows way o
    → Follows way (Collect (entry k n ∷ []) ∷ o)
follows_collected (moving ms) o k n some h = h
follows_collected (carrying m) o k n some h = record {
  few = h.few;
  offered = h.offered;
  collected = omega (arith, h.collected, length-append (collects o) (entry k n ∷ []));
  closed = λ j there. h.closed j (omega (arith, occurs_without j k (open_at o) some, there));
}

-- ---- chains that stand for each other

pub matches_more : (way : Way) (cs xs : List (List Piece)) (c x : List Piece) → Matches way cs xs → Carries way c x
    → Matches way (cs ++ c ∷ []) (xs ++ x ∷ [])
matches_more (moving ms) cs xs c x h is = map_push (moved ms) cs c ∙ ap (λ (ys : List (List Piece)). ys ++ moved ms c ∷ []) h
    ∙ ap (λ (y : List Piece). xs ++ y ∷ []) (sym is)
matches_more (carrying n) cs xs c x h is = map_push bare xs x ∙ ap (λ (ys : List (List Piece)). ys ++ bare x ∷ []) h
    ∙ ap (λ (y : List Piece). map bare cs ++ y ∷ []) is ∙ sym (map_push bare cs c)

pub matches_none : (way : Way) (xs : List (List Piece)) → xs ≡ [] → Matches way [] xs
matches_none (moving ms) xs is = sym is
matches_none (carrying n) xs is = ap (map bare) is

pub matches_count : (way : Way) (cs xs : List (List Piece)) → Matches way cs xs → length cs ≡ length xs
matches_count (moving ms) cs xs h = sym (length-map cs (moved ms)) ∙ ap (λ (ys : List (List Piece)). length ys) h
matches_count (carrying n) cs xs h = sym (length-map cs bare) ∙ ap (λ (ys : List (List Piece)). length ys) (sym h) ∙ length-map xs bare

needs_bare : (f : Features) (c : List Piece) → needs f (bare c) ≡ needs f c
needs_bare f c = ap (λ n. if f.indirect then 1 else n) (length-map c (λ (p : Piece). record { addr = 0; len = p.len; write = p.write }))

total_bare : (c : List Piece) → total (bare c) ≡ total c
total_bare c = sum_map (λ (p : Piece). p.len) (λ (p : Piece). record { addr = 0; len = p.len; write = p.write }) c

-- a chain that stands for another takes as many places, and has as many bytes
pub carries_needs : (way : Way) (f : Features) (c x : List Piece) → Carries way c x → needs f x ≡ needs f c
carries_needs (moving ms) f c x is = ap (needs f) is ∙ needs_moved f ms c
carries_needs (carrying n) f c x is = sym (needs_bare f x) ∙ ap (needs f) is ∙ needs_bare f c

pub carries_total : (way : Way) (c x : List Piece) → Carries way c x → total x ≡ total c
carries_total (moving ms) c x is = ap total is ∙ total_moved ms c
carries_total (carrying n) c x is = sym (total_bare x) ∙ ap total is ∙ total_bare c

chain_bare : (cs : List (List Piece)) (k : ℕ) → chain_at (map bare cs) k ≡ bare (chain_at cs k)
chain_bare cs k = get_or-map bare cs k []

pub matches_at : (way : Way) (cs xs : List (List Piece)) (k : ℕ) → Matches way cs xs → Carries way (chain_at cs k) (chain_at xs k)
matches_at (moving ms) cs xs k h = ap (λ (ys : List (List Piece)). chain_at ys k) (sym h) ∙ chain_moved ms cs k
matches_at (carrying n) cs xs k h = sym (chain_bare xs k) ∙ ap (λ (ys : List (List Piece)). chain_at ys k) h ∙ chain_bare cs k

pub sent_at : (way : Way) (o : List DriverDone) (j : ℕ) → chain_at (sent way o) j ≡ chain o (skips way + j)
sent_at (moving ms) o j =
    let e : j ≡ 0 + j = omega arith in
    ap (λ i. chain o i) e
sent_at (carrying n) o j = drop_at n j (offers o)

-- one that stands for a chain
abbrev pub stand_in : Way → List Piece → List Piece
stand_in (moving ms) c = moved ms c
stand_in (carrying n) c = c

pub stands_in : (way : Way) (c : List Piece) → Carries way c (stand_in way c)
stands_in (moving ms) c = refl
stands_in (carrying n) c = refl
