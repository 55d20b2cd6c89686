-- What each act of a relay leaves of the tie between its two rings.
use Rattle.std.proofs.Common.{◌≡◌, ◌≢◌, ℕ, ◌+◌, ◌-◌, ◌<◌, ◌≤◌, true, Option, Some, None, IsSome, List, [], ◌∷◌, ◌++◌, length, map, slice_set, refl, sym, ◌∙◌, ap, subst, arith, inl, inr}
use Rattle.std.specs.List.{sum_by, Contains}
use Rattle.std.proofs.lemmas.Bool.{cases_eq}
use Rattle.std.proofs.lemmas.List.{map_push, length-map, append-nil, append_assoc, get_or-set_same, get_or-set_other}
use Rattle.std.proofs.Math.ListN.{length-set, length-append}
use Rattle.vd_model.specs.declared.chain.Piece.{Piece}
use Rattle.vd_model.specs.declared.features.Features.{Features}
use Rattle.vd_model.specs.Chains.{needs}
use Rattle.vd_ring.specs.declared.frame.Frame.{Frame}
use Rattle.vd_ring.specs.declared.frame.Used.{Used}
use Rattle.vd_ring.specs.declared.driver.DriverDone.{DriverDone}
use Rattle.vd_ring.specs.declared.driver.DriverDone.TheVariants.{Offer, Collect}
use Rattle.vd_ring.specs.declared.device.DeviceDone.{DeviceDone}
use Rattle.vd_ring.specs.declared.device.DeviceDone.TheVariants.{Take, Give}
use Rattle.vd_ring.specs.Frames.{Fits, borrowed}
use Rattle.vd_ring.specs.History.{entry, offers, collects, open_at, takes, gives, running, running_size, without, free, places, head, next_head, occurs, first, chain, chain_at}
use Rattle.vd_ring.specs.Places.{Places}
use Rattle.vd_ring.proofs.Counts.{one_same, one_other, one_small, occurs_push, occurs_without, first_occurs, sum_same, Contains_from}
use Rattle.vd_ring.proofs.HeldPlaces.{open_below, borrowed_some, places_before, places_new, free_apart, free_inside, head_held, head_inside, same_head}
use Rattle.vd_layout.specs.Driver.{HasRoom}
use Rattle.vd_layout.specs.Device.{MayGive}
use Rattle.vd_table.specs.declared.Origin.{Origin}
use Rattle.vd_table.specs.Rows.{row}
use Rattle.vd_relay.specs.Tie.{Course, guests, returned, numbered, origin, HoldsOpen, IsTied}
use Rattle.vd_relay.specs.Ways.{Carries, Matches, sent, came, shift_by}
use Rattle.vd_ring.proofs.Rooms.{first_take, sum_map}
use Rattle.vd_relay.proofs.Shifts.{without_map, occurs_map_front, chain_past}
use Rattle.vd_relay.proofs.Ways.{skips, came_count, open_past, number_at, number_past, number_next, number_once, shift_entry, sent_offered, came_offered, sent_collected, came_collected, follows_offered, follows_collected, matches_more, matches_count, matches_at, carries_needs, sent_at}

-- ---- counts

module _ (z : Course) (table : List (Option Origin)) (s : List DeviceDone) (g : Frame) (o : List DriverDone) where
  -- how many chains were taken, and given
  pub taken_count : (hand : List (List Piece)) (back : List Used) → IsTied z table hand back s g o
      → length (takes s) ≡ length z.gives + length (sent z.way o) + length hand
  taken_count hand back t = omega (
    arith,
    ap (λ (cs : List (List Piece)). length cs) t.takes,
    length-append z.takes t.past,
    t.even,
    matches_count z.way t.past (sent z.way o ++ hand) t.offered,
    length-append (sent z.way o) hand,
  )

  pub given_count : (hand : List (List Piece)) (back : List Used) → IsTied z table hand back s g o
      → length (gives s) + length back ≡ length z.gives + length (came z.way o)
  given_count hand back t = omega (
    arith,
    ap (λ (us : List Used). length us) t.gives,
    length-append z.gives t.got,
    length-map (came z.way o)
        (shift_by z.way (length z.gives)),
    ap (λ (us : List Used). length us) t.given,
    length-append t.got back,
  )

-- ---- a take

pub tied_taken : (z : Course) (table : List (Option Origin)) (s : List DeviceDone) (g : Frame) (o : List DriverDone) (c x : List Piece)
    (h : ℕ) → Carries z.way c x → IsTied z table [] [] s g o → IsTied z table (x ∷ []) [] (Take c h ∷ s) g o
tied_taken z table s g o c x h is t =
    let n : ℕ = length (offers o) in
    let count : length (takes s) ≡ guests z n = omega (arith, taken_count z table s g o [] [] t, number_next z.way (length z.gives) o t.follows) in
    record {
      past = t.past ++ c ∷ [];
      got = t.got;
      takes = ap (λ (cs : List (List Piece)). cs ++ c ∷ []) t.takes ∙ append_assoc z.takes t.past (c ∷ []);
      gives = t.gives;
      even = t.even;
      offered = matches_more z.way t.past (sent z.way o) c x
          (subst (λ (ys : List (List Piece)). Matches z.way t.past ys) (append-nil (sent z.way o)) t.offered) is;
      given = t.given;
      runs = ap (λ (ks : List ℕ). ks ++ length (takes s) ∷ [])
          (t.runs ∙ ap (λ (ks : List ℕ). map (guests z) ks) (append-nil (open_at o)))
          ∙ ap (λ (j : ℕ). map (guests z) (open_at o) ++ j ∷ []) count ∙ sym (map_push (guests z) (open_at o) n);
      holds = t.holds;
      follows = t.follows;
    }

-- ---- an offer

module _ (number : ℕ → ℕ) (table : List (Option Origin)) (g : Frame) (o : List DriverDone) (c : List Piece) (ok : Places g o) (fits : Fits g c)
    (room : borrowed g c ≤ length (free g o)) (t : HoldsOpen table number g o) where
  free_some : 1 ≤ length (free g o)
  free_some = omega (arith, borrowed_some g c fits)

  next_free : 1 ≤ occurs (next_head g o) (free g o)
  next_free = first_occurs (free g o) free_some

  head_new : head g (Offer c ∷ o) (length (offers o)) ≡ next_head g o
  head_new = ap first (places_new g o c ok) ∙ first_take (borrowed g c) (free g o) (borrowed_some g c fits)

  head_old : (k : ℕ) → 1 ≤ occurs k (open_at o) → head g (Offer c ∷ o) k ≡ head g o k
  head_old k some = ap first (places_before g o c k ok (open_below g o k ok some))

  head_other : (k : ℕ) → 1 ≤ occurs k (open_at o) → head g o k ≢ next_head g o
  head_other k some is = absurd (omega (
    arith,
    free_apart g o k (next_head g o) ok some next_free,
    ap
        (λ (q : ℕ). occurs q (places g o k)) is,
    head_held g o k ok some,
  ))

  -- the next head is one of the table's, and nothing is stored there
  pub next_inside : next_head g o < length table
  next_inside = omega (arith, free_inside g o (next_head g o) ok next_free, t.sized)

  none_there : (x : Option Origin) → row table (next_head g o) ≡ x → x ≡ None
  none_there None is = refl
  none_there (Some x) is = let k = t.only (next_head g o) (subst (λ (y : Option Origin). IsSome y) (sym is) refl) in absurd
      (head_other k.0 k.1 k.2)

  pub next_empty : row table (next_head g o) ≡ None
  next_empty = none_there (row table (next_head g o)) refl

  pub holds_offered : HoldsOpen (slice_set table (next_head g o) (Some (origin (number (length (offers o)))))) number g (Offer c ∷ o)
  holds_offered =
      let q : ℕ = next_head g o in
      let x : Option Origin = Some (origin (number (length (offers o)))) in
      record {
        sized = length-set table q x ∙ t.sized;
        stored = λ k some. elim (cases_eq (length (offers o)) k) [
          | inl e ↦ subst (λ (j : ℕ). row (slice_set table q x) (head g (Offer c ∷ o) j) ≡ Some (origin (number j))) e
              (ap (λ (h : ℕ). row (slice_set table q x) h) head_new ∙ get_or-set_same table q x None next_inside)
          | inr ne ↦
              let old : 1 ≤ occurs k (open_at o) = omega (
                arith,
                occurs_push k (open_at o) (length (offers o)),
                one_other
                    (length (offers o)) k ne,
              ) in
              ap (λ (h : ℕ). row (slice_set table q x) h) (head_old k old) ∙ get_or-set_other table q (head g o k) x None (head_other k old)
              ∙ t.stored k old
        ];
        only = λ h some. elim (cases_eq h q) [
          | inl e ↦ (
            length (offers o),
            omega (
              arith,
              occurs_push (length (offers o)) (open_at o) (length (offers o)),
              one_same
                  (length (offers o)) (length (offers o)) refl,
            ),
            head_new ∙ sym e,
          )
          | inr ne ↦
              let k = t.only h (subst (λ (y : Option Origin). IsSome y) (get_or-set_other table q h x None ne) some) in
              (k.0, omega (arith, occurs_push k.0 (open_at o) (length (offers o)), k.1), head_old k.0 k.1 ∙ k.2)
        ];
      }

pub tied_offered : (z : Course) (table : List (Option Origin)) (s : List DeviceDone) (g : Frame) (o : List DriverDone) (c : List Piece)
    → Places g o → Fits g c → borrowed g c ≤ length (free g o) → IsTied z table (c ∷ []) [] s g o
    → IsTied z (slice_set table (next_head g o) (Some (origin (guests z (length (offers o)))))) [] [] s g (Offer c ∷ o)
tied_offered z table s g o c ok fits room t = record {
  past = t.past;
  got = t.got;
  takes = t.takes;
  gives = t.gives;
  even = t.even;
  offered = subst (λ (ys : List (List Piece)). Matches z.way t.past ys)
      (sym (sent_offered z.way o c t.follows) ∙ sym (append-nil (sent z.way (Offer c ∷ o)))) t.offered;
  given = ap (λ (us : List Used). map (shift_by z.way (length z.gives)) us) (came_offered z.way o c) ∙ t.given;
  runs = t.runs ∙ ap (λ (ks : List ℕ). map (guests z) ks) (sym (append-nil (open_at o ++ length (offers o) ∷ [])));
  holds = holds_offered (guests z) table g o c ok fits room t.holds;
  follows = follows_offered z.way o c t.follows;
}

-- ---- a collect

pub nothing : (x : Option Origin) → IsSome x → x ≡ None → ⊥
nothing None some is = cc
nothing (Some x) some is = cc

module _ (number : ℕ → ℕ) (table : List (Option Origin)) (g : Frame) (o : List DriverDone) (k n : ℕ) (ok : Places g o)
    (some : 1 ≤ occurs k (open_at o)) (t : HoldsOpen table number g o) where
  pub head_stored : head g o k < length table
  head_stored = omega (arith, head_inside g o k ok some, t.sized)

  open_once : (j : ℕ) → occurs j (open_at o) ≤ 1
  open_once j = omega (arith, ok.is_open j, one_small (Rattle.std.specs.Prelude.nat_lt j (length (offers o))))

  apart : (j : ℕ) → 1 ≤ occurs j (without k (open_at o)) → (j ≢ k) × (1 ≤ occurs j (open_at o))
  apart j there = (
    λ is. absurd (omega (arith, occurs_without j k (open_at o) some, one_same k j (sym is), open_once j)),
    omega
        (arith, occurs_without j k (open_at o) some),
  )

  pub holds_collected : HoldsOpen (slice_set table (head g o k) None) number g (Collect (entry k n ∷ []) ∷ o)
  holds_collected =
      let q : ℕ = head g o k in
      record {
        sized = length-set table q None ∙ t.sized;
        stored = λ j there.
            let a = apart j there in
            get_or-set_other table q (head g o j) None None (λ is. a.0 (same_head g o j k ok a.1 some is)) ∙ t.stored j a.1;
        only = λ h at. elim (cases_eq h q) [
          | inl e ↦ let none : row (slice_set table q None) h ≡ None = ap (λ (p : ℕ). row (slice_set table q None) p) e
              ∙ get_or-set_same table q None None head_stored in
              absurd (nothing (row (slice_set table q None) h) at none)
          | inr ne ↦
              let j = t.only h (subst (λ (y : Option Origin). IsSome y) (get_or-set_other table q h None None ne) at) in
              let other : k ≢ j.0 = λ is. ne (sym j.2 ∙ ap (head g o) (sym is)) in
              (j.0, omega (arith, occurs_without j.0 k (open_at o) some, one_other k j.0 other, j.1), j.2)
        ];
      }

pub tied_collected : (z : Course) (table : List (Option Origin)) (hand : List (List Piece)) (s : List DeviceDone) (g : Frame)
    (o : List DriverDone) (k n : ℕ) → Places g o → 1 ≤ occurs k (open_at o) → IsTied z table hand [] s g o
    → IsTied z (slice_set table (head g o k) None) hand (entry (guests z k) n ∷ []) s g (Collect (entry k n ∷ []) ∷ o)
tied_collected z table hand s g o k n ok some t =
    let past = open_past z.way o k t.follows some in
    let once : (x : ℕ) → 1 ≤ occurs x (open_at o) → guests z x ≡ guests z k → x ≡ k = λ x there is.
    number_once z.way (length z.gives) x k (open_past z.way o x t.follows there) past is in
    record {
      past = t.past;
      got = t.got;
      takes = t.takes;
      gives = t.gives;
      even = t.even;
      offered = subst (λ (ys : List (List Piece)). Matches z.way t.past (ys ++ hand)) (sym (sent_collected z.way o (entry k n ∷ []))) t.offered;
      given = ap (λ (us : List Used). map (shift_by z.way (length z.gives)) us) (came_collected z.way o (entry k n) t.follows)
          ∙ map_push (shift_by z.way (length z.gives)) (came z.way o) (entry k n)
          ∙ ap (λ (u : Used). returned z o ++ u ∷ []) (shift_entry z.way (length z.gives) k n)
          ∙ ap (λ (us : List Used). us ++ entry (guests z k) n ∷ []) (t.given ∙ append-nil t.got);
      runs = ap (without (guests z k)) t.runs ∙ without_map (guests z) k (open_at o) (numbered (length (offers o)) hand) once some;
      holds = holds_collected (guests z) table g o k n ok some t.holds;
      follows = follows_collected z.way o k n some t.follows;
    }

-- what was collected runs on the guest's ring, and may be given there
pub may_give : (z : Course) (table : List (Option Origin)) (hand : List (List Piece)) (s : List DeviceDone) (f g : Frame)
    (o : List DriverDone) (k : ℕ) → IsTied z table hand [] s g o → 1 ≤ occurs k (open_at o)
    → (g.features.in_order ≡ true → k ≡ length (collects o)) → g.features ≡ f.features
    → MayGive f s (guests z k)
may_give z table hand s f g o k t some ordered same = record {
  runs = Contains_from (guests z k) (running s) (omega (
    arith,
    ap (occurs (guests z k)) t.runs,
    occurs_map_front (guests z) k (open_at o)
        (numbered (length (offers o)) hand) some,
  ));
  in_order = λ on. omega (
    arith,
    given_count z table s g o hand [] t,
    came_count z.way o t.follows,
    number_at z.way (length z.gives) k (open_past z.way o k t.follows some),
    ordered (ap (λ (x : Features). x.in_order) same ∙ on),
  );
}

-- ---- a give

pub tied_given : (z : Course) (table : List (Option Origin)) (hand : List (List Piece)) (s : List DeviceDone) (g : Frame)
    (o : List DriverDone) (k n : ℕ) → IsTied z table hand (entry k n ∷ []) s g o → IsTied z table hand [] (Give (entry k n ∷ []) ∷ s) g o
tied_given z table hand s g o k n t = record {
  past = t.past;
  got = t.got ++ entry k n ∷ [];
  takes = t.takes;
  gives = ap (λ (us : List Used). us ++ entry k n ∷ []) t.gives ∙ append_assoc z.gives t.got (entry k n ∷ []);
  even = t.even;
  offered = t.offered;
  given = t.given ∙ sym (append-nil (t.got ++ entry k n ∷ []));
  runs = t.runs;
  holds = t.holds;
  follows = t.follows;
}

-- ---- room

-- a chain just taken has room on the shadow ring
pub tied_room : (z : Course) (table : List (Option Origin)) (s : List DeviceDone) (f g : Frame) (o : List DriverDone) (c : List Piece)
    → IsTied z table [] [] s g o → g.features ≡ f.features → g.size ≡ f.size → running_size f s + needs f.features c ≤ f.size
    → HasRoom g o c
tied_room z table s f g o c t same size room =
    let size_of : ℕ → ℕ = λ k. needs f.features (chain_at (takes s) k) in
    let runs : running s ≡ map (guests z) (open_at o) = t.runs
    ∙ ap (λ (ks : List ℕ). map (guests z) ks) (append-nil (open_at o)) in
    let all : running_size f s ≡ sum_by (λ k. size_of (guests z k)) (open_at o) = ap (sum_by size_of) runs
    ∙ sum_map size_of (guests z) (open_at o) in
    let stands : Matches z.way t.past (sent z.way o) = subst (λ (ys : List (List Piece)). Matches z.way t.past ys)
    (append-nil (sent z.way o)) t.offered in
    let each : (k : ℕ) → 1 ≤ occurs k (open_at o) → size_of (guests z k) ≡ needs g.features (chain o k) = λ k some.
    same_size k (open_past z.way o k t.follows some) stands in
    omega (
      arith,
      all,
      sum_same (λ k. size_of (guests z k)) (λ k. needs g.features (chain o k))
          (open_at o) each,
      ap (λ (x : Features). needs x c) same,
    )
  where
    same_size : (k : ℕ) → skips z.way ≤ k → Matches z.way t.past (sent z.way o)
        → needs f.features (chain_at (takes s) (guests z k)) ≡ needs g.features (chain o k)
    same_size k past stands =
        let j : ℕ = k - skips z.way in
        let at : k ≡ skips z.way + j = omega (arith, past) in
        let number : guests z k ≡ length z.gives + j = ap (guests z) at ∙ number_past z.way (length z.gives) j in
        ap (λ (i : ℕ). needs f.features (chain_at (takes s) i)) number
        ∙ ap (λ (cs : List (List Piece)). needs f.features (chain_at cs (length z.gives + j))) t.takes
        ∙ ap (needs f.features) (chain_past z.takes t.past (length z.gives) j t.even)
        ∙ sym (carries_needs z.way f.features (chain_at t.past j) (chain_at (sent z.way o) j)
        (matches_at z.way t.past (sent z.way o) j stands))
        ∙ ap (needs f.features) (sent_at z.way o j ∙ ap (chain o) (sym at))
        ∙ ap (λ (x : Features). needs x (chain o k)) (sym same)
