-- Commands and acks: what the device's acts and stores keep.
use Rattle.std.proofs.Common.{◌≡◌, ◌≢◌, ℕ, ◌<◌, ◌≤◌, ◌==◌, Bool, List, [], ◌∷◌, length, take, Some, if◌then◌else◌, nat_lt, slice_index, slice_set, refl, sym, ap, ◌∙◌, subst, arith, inl, inr}
use Rattle.std.proofs.lemmas.Bool.{cases_eq, cases_lt, eq-eqb, ne_eqb, lt-ltb, le-ltb}
use Rattle.std.proofs.lemmas.List.{length_push, length-map, take-map, take-take, get_or_append_left, get_or_push, get_or-set_other, get_or-set_same}
use Rattle.vd_ring.specs.declared.frame.Frame.{Frame}
use Rattle.vd_ring.specs.declared.frame.Used.{Used}
use Rattle.vd_ring.specs.declared.driver.DriverDone.{DriverDone}
use Rattle.vd_ring.specs.declared.driver.DriverDone.TheVariants.{Offer, Collect, StoreCommand, LoadAck}
use Rattle.vd_ring.specs.declared.device.DeviceDone.{DeviceDone}
use Rattle.vd_ring.specs.declared.device.DeviceDone.TheVariants.{Take, Give, Rest, StoreAck, LoadCommand}
use Rattle.vd_model.specs.declared.chain.Piece.{Piece}
use Rattle.vd_ring.specs.History.{offers, collects, takes, gives, running, open_at, held, free, places, places_at, places_back, head, taken_head, chain, numbers, occurs, used_at, last_used, entry}
use Rattle.vd_ring.specs.Control.{last_collected, last_ack, ack_of, command_of, AcksAgree, Acks}
use Rattle.vd_ring.specs.Places.{Places}
use Rattle.vd_ring.specs.Lists.{Lists}
use Rattle.vd_ring.proofs.Counts.{one_same, one_other, one_above, one_below, one_small, occurs-append, occurs_parts, occurs_before, first_occurs}
use Rattle.vd_ring.proofs.HeldPlaces.{borrowed_some, chain_fits, free_apart, free_inside, head_held, head_inside, same_head, numbers_push}
use Rattle.vd_ring.proofs.ListSteps.{some_same, number_in, number_at, given_below}
use Rattle.vd_ring.proofs.ControlSteps.{last_is_collected, last_is_given}
use Rattle.vd_ring.proofs.DeviceLists.{running_below, running_open, running_head}

-- ---- which chains hold a head

back_last : (pl : List (List ℕ)) (u : Used) (us : List Used) (q : ℕ)
    → occurs q (places_at pl (last_used (u ∷ us)).number) ≤ occurs q (places_back pl (u ∷ us))
back_last pl u [] q = omega (arith, occurs-append q (places_at pl u.number) [])
back_last pl u (v ∷ us) q = omega (arith, occurs-append q (places_at pl u.number) (places_back pl (v ∷ us)), back_last pl v us q)

-- the places of the chain collected last are free, as long as nothing was offered since
pub last_places_free : (f : Frame) (o : List DriverDone) (k q : ℕ) → last_collected o ≡ Some k → 1 ≤ occurs q (places f o k)
    → 1 ≤ occurs q (free f o)
last_places_free f [] k q is a = absurd cc
last_places_free f (Offer c ∷ o) k q is a = absurd cc
last_places_free f (Collect [] ∷ o) k q is a = omega (arith, occurs-append q (held f o).0 [], last_places_free f o k q is a)
last_places_free f (Collect (u ∷ us) ∷ o) k q is a =
    let same : (last_used (u ∷ us)).number ≡ k = some_same (last_used (u ∷ us)).number k is in
    let here : 1 ≤ occurs q (places_at (held f o).1 (last_used (u ∷ us)).number) =
    subst (λ (j : ℕ). 1 ≤ occurs q (places_at (held f o).1 j)) (sym same) a in
    omega (arith, occurs-append q (held f o).0 (places_back (held f o).1 (u ∷ us)), back_last (held f o).1 u us q, here)
last_places_free f (StoreCommand g j x ∷ o) k q is a = last_places_free f o k q is a
last_places_free f (LoadAck l x ∷ o) k q is a = last_places_free f o k q is a

pub last_head_free : (f : Frame) (o : List DriverDone) (k : ℕ) → Places f o → last_collected o ≡ Some k → 1 ≤ occurs (head f o k) (free f o)
last_head_free f o k p is =
    let below : k < length (offers o) =
    elim (cases_lt k (length (offers o)))
    [ inl a ↦ a | inr a ↦ absurd (omega (arith, p.is_open k, last_is_collected o k is, one_above k (length (offers o)) a)) ] in
    last_places_free f o k (head f o k) is
    (first_occurs (places f o k) (omega (arith, p.as_many k below, borrowed_some f (chain o k) (chain_fits f o k p below))))

-- a chain given and not collected is open
pub uncollected_open : (f : Frame) (o : List DriverDone) (s : List DeviceDone) (j : ℕ) → Places f o → Lists f o s
    → length (collects o) ≤ j → j < length (gives s) → 1 ≤ occurs (used_at (gives s) j).number (open_at o)
uncollected_open f o s j p l low high =
    let m : ℕ = length (collects o) in let g : List Used = gives s in let k : ℕ = (used_at g j).number in
    let inside = given_below f o s j l high in
    let before : occurs k (numbers (collects o)) ≡ occurs k (take m (numbers g)) =
    ap (λ (us : List Used). occurs k (numbers us)) l.collected ∙ ap (occurs k) (sym (take-map (λ (u : Used). u.number) m g)) in
    let shorter : occurs k (take m (take j (numbers g))) ≡ occurs k (take m (numbers g)) = ap (occurs k) (take-take m j (numbers g) low) in
    let once = occurs_before (numbers g) j k (omega (arith, length-map g (λ (u : Used). u.number))) (number_at g j high) in
    omega (
      arith,
      p.is_open k,
      one_below k (length (offers o)) (omega (arith, l.some)),
      l.given k,
      one_small (nat_lt k (length (takes s))),
      once,
      before,
      shorter,
      occurs_parts k m (take j (numbers g)),
    )

-- ---- what was loaded agrees

pub acks_agree_along : (o : List DriverDone) (s s2 : List DeviceDone)
    → ((k : ℕ) → 1 ≤ occurs k (numbers (gives s)) → (1 ≤ occurs k (numbers (gives s2))) × (ack_of s2 k ≡ ack_of s k)) → AcksAgree o s
    → AcksAgree o s2
acks_agree_along [] s s2 same a = tt
acks_agree_along (Offer c ∷ o) s s2 same a = acks_agree_along o s s2 same a
acks_agree_along (Collect us ∷ o) s s2 same a = acks_agree_along o s s2 same a
acks_agree_along (StoreCommand g j x ∷ o) s s2 same a = acks_agree_along o s s2 same a
acks_agree_along (LoadAck k x ∷ o) s s2 same a = let now = same k a.0 in (now.0, a.1 ∙ sym now.1, acks_agree_along o s s2 same a.2)

-- ---- the acts

pub acks_taken : (f : Frame) (ack : ℕ → ℕ) (o : List DriverDone) (s : List DeviceDone) (c : List Piece) (h : ℕ) (stored : List ℕ)
    → Acks f ack o s stored → Acks f ack o (Take c h ∷ s) stored
acks_taken f ack o s c h stored a = record {
  last = a.last;
  stand = a.stand;
  collected = a.collected;
  commands_agree = a.commands_agree;
  acks_agree = acks_agree_along o s (Take c h ∷ s) (λ k is. (is, refl)) a.acks_agree;
}

pub acks_rested : (f : Frame) (ack : ℕ → ℕ) (o : List DriverDone) (s : List DeviceDone) (stored : List ℕ) → Acks f ack o s stored
    → Acks f ack o (Rest ∷ s) stored
acks_rested f ack o s stored a = record {
  last = a.last;
  stand = a.stand;
  collected = a.collected;
  commands_agree = a.commands_agree;
  acks_agree = acks_agree_along o s (Rest ∷ s) (λ k is. (is, refl)) a.acks_agree;
}

pub acks_commanded : (f : Frame) (ack : ℕ → ℕ) (o : List DriverDone) (s : List DeviceDone) (k i x : ℕ) (stored : List ℕ)
    → k < length (offers o) → x ≡ command_of f o k i → Acks f ack o s stored → Acks f ack o (LoadCommand k i x ∷ s) stored
acks_commanded f ack o s k i x stored below is a = record {
  last = a.last;
  stand = a.stand;
  collected = a.collected;
  commands_agree = (below, is, a.commands_agree);
  acks_agree = acks_agree_along o s (LoadCommand k i x ∷ s) (λ j h. (h, refl)) a.acks_agree;
}

ack_same : (s : List DeviceDone) (u : Used) → ack_of (Give (u ∷ []) ∷ s) u.number ≡ last_ack s (taken_head s u.number)
ack_same s u = ap (λ (b : Bool). if b then last_ack s (taken_head s u.number) else ack_of s u.number)
    (lt-ltb 0 (occurs u.number (u.number ∷ [])) (omega (arith, one_same u.number u.number refl)))

ack_other : (s : List DeviceDone) (u : Used) (k : ℕ) → u.number ≢ k → ack_of (Give (u ∷ []) ∷ s) k ≡ ack_of s k
ack_other s u k ne = ap (λ (b : Bool). if b then last_ack s (taken_head s k) else ack_of s k)
    (le-ltb 0 (occurs k (u.number ∷ [])) (omega (arith, one_other u.number k ne)))

pub acks_given : (f : Frame) (ack : ℕ → ℕ) (o : List DriverDone) (s : List DeviceDone) (u : Used) (stored : List ℕ) → Places f o
    → Lists f o s → 1 ≤ occurs u.number (running s) → Acks f ack o s stored → Acks f ack o (Give (u ∷ []) ∷ s) stored
acks_given f ack o s u stored p l runs a =
    let none = (running_below f o s u.number l runs).1 in
    let hd = running_head f o s u.number p l runs in
    let g : ℕ = length (gives s) in
    let kept : (k : ℕ) → 1 ≤ occurs k (numbers (gives s)) → ack_of (Give (u ∷ []) ∷ s) k ≡ ack_of s k =
    λ k is. ack_other s u k (λ e. omega (arith, ap (λ j. occurs j (numbers (gives s))) e)) in
    record {
      last = a.last;
      stand = λ on j low high. elim (cases_lt j g) [
        | inl h ↦ subst (λ (v : Used). slice_index stored (ack (head f o v.number)) ≡ ack_of (Give (u ∷ []) ∷ s) v.number)
            (sym (get_or_append_left (gives s) (u ∷ []) (entry 0 0) j h))
            (a.stand on j low h ∙ sym (kept (used_at (gives s) j).number (number_in (gives s) j h)))
        | inr h ↦ (
            let e : g ≡ j = omega (arith, length_push (gives s) u) in
            subst (λ (v : Used). slice_index stored (ack (head f o v.number)) ≡ ack_of (Give (u ∷ []) ∷ s) v.number)
            (sym (get_or_push (gives s) u (entry 0 0) j e))
            (ap (λ (h2 : ℕ). slice_index stored (ack h2)) (sym hd.0) ∙ a.last on (taken_head s u.number) hd.1 ∙ sym (ack_same s u))
            )
      ];
      collected = λ on k is. a.collected on k is ∙ sym (kept k (last_is_given f o s k l is));
      commands_agree = a.commands_agree;
      acks_agree = acks_agree_along o s (Give (u ∷ []) ∷ s) (λ k is. (omega (arith, numbers_push (gives s) u k), kept k is)) a.acks_agree;
    }

-- ---- the stores

-- a store of another word
pub acks_elsewhere : (f : Frame) (ack : ℕ → ℕ) (o : List DriverDone) (s : List DeviceDone) (stored : List ℕ) (p x : ℕ) → Places f o
    → Lists f o s → ((h : ℕ) → h < f.size → ack h ≢ p) → Acks f ack o s stored → Acks f ack o s (slice_set stored p x)
acks_elsewhere f ack o s stored p x pl l apart a = record {
  last = λ on h low. get_or-set_other stored p (ack h) x 0 (apart h low) ∙ a.last on h low;
  stand = λ on j low high. let k : ℕ = (used_at (gives s) j).number in
      get_or-set_other stored p (ack (head f o k)) x 0
      (apart (head f o k) (head_inside f o k pl (uncollected_open f o s j pl l low high))) ∙ a.stand on j low high;
  collected = λ on k is. get_or-set_other stored p (ack (head f o k)) x 0
      (apart (head f o k) (free_inside f o (head f o k) pl (last_head_free f o k pl is))) ∙ a.collected on k is;
  commands_agree = a.commands_agree;
  acks_agree = a.acks_agree;
}

-- the store of a running chain's ack word
pub acks_acked : (f : Frame) (ack : ℕ → ℕ) (o : List DriverDone) (s : List DeviceDone) (stored : List ℕ) (number x : ℕ) → Places f o
    → Lists f o s → ((g h : ℕ) → ack g ≡ ack h → g ≡ h) → 1 ≤ occurs number (running s) → ack (taken_head s number) < length stored
    → Acks f ack o s stored → Acks f ack o (StoreAck (taken_head s number) x ∷ s) (slice_set stored (ack (taken_head s number)) x)
acks_acked f ack o s stored number x p l one_word runs inside a =
    let h : ℕ = taken_head s number in
    let q : ℕ = ack h in
    let is : h ≡ head f o number = (running_head f o s number p l runs).0 in
    let is_open = running_open f o s number p l runs in
    let none = (running_below f o s number l runs).1 in
    let elsewhere : (k : ℕ) → head f o k ≢ h → slice_index (slice_set stored q x) (ack (head f o k)) ≡ slice_index stored
    (ack (head f o k)) = λ k ne. get_or-set_other stored q (ack (head f o k)) x 0 (λ e. ne (one_word (head f o k) h e)) in
    record {
      last = λ on g low. elim (cases_eq h g) [
        | inl e ↦ subst (λ (i : ℕ). slice_index (slice_set stored q x) (ack i) ≡ (if h == i then x else last_ack s i)) e
            (get_or-set_same stored q x 0 inside ∙ sym (ap (λ (b : Bool). if b then x else last_ack s h) (eq-eqb h h refl)))
        | inr ne ↦ get_or-set_other stored q (ack g) x 0 (λ e. ne (sym (one_word g h e))) ∙ a.last on g low
            ∙ sym (ap (λ (b : Bool). if b then x else last_ack s g) (ne_eqb h g ne))
      ];
      stand = λ on j low high.
          let k : ℕ = (used_at (gives s) j).number in
          let same : head f o k ≡ h → k ≡ number = λ e. same_head f o k number p (uncollected_open f o s j p l low high) is_open (e ∙ is) in
          elsewhere k (λ e. omega (arith, ap (λ i. occurs i (numbers (gives s))) (same e), number_in (gives s) j high))
          ∙ a.stand on j low high;
      collected = λ on k last. elsewhere k
          (λ e. omega (
            arith,
            free_apart f o number (head f o number) p is_open
                (subst (λ (i : ℕ). 1 ≤ occurs i (free f o)) (e ∙ is) (last_head_free f o k p last)),
            head_held f o number p is_open,
          ))
          ∙ a.collected on k last;
      commands_agree = a.commands_agree;
      acks_agree = acks_agree_along o s (StoreAck h x ∷ s) (λ k g. (g, refl)) a.acks_agree;
    }
