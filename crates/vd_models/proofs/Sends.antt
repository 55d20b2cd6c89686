-- What the offer of a command and its collect leave of a model guest, and the accesses of command and ack words.
use Rattle.std.proofs.Common.{◌≡◌, ◌≢◌, ◌⊎◌, ◌↔◌, ◌&&◌, ◌==◌, ◌%◌, ℕ, zero, suc, ◌+◌, ◌<◌, ◌≤◌, Bool, true, false, Option, Some, None, List, [], ◌∷◌, ◌++◌, length, take, slice_get, slice_index, if◌then◌else◌, refl, sym, ◌∙◌, ap, subst, arith, inl, inr}
use Rattle.std.specs.Option.{option_map}
use Rattle.std.proofs.lemmas.Bool.{cases_eq, cases_lt, eq-eqb, ne_eqb}
use Rattle.std.proofs.lemmas.List.{length_push, length-map, length-take-le, get_or_append_left, get_or-take}
use Rattle.std.proofs.lemmas.Option.{slice_get_within}
use Rattle.vd_model.specs.declared.chain.Piece.{Piece}
use Rattle.vd_model.specs.declared.record.Return.{Return}
use Rattle.vd_model.specs.declared.record.Script.{Script}
use Rattle.vd_ring.specs.declared.driver.DriverDone.{DriverDone}
use Rattle.vd_ring.specs.declared.driver.DriverDone.TheVariants.{Offer, Collect, StoreCommand, LoadAck}
use Rattle.vd_ring.specs.declared.frame.Frame.{Frame}
use Rattle.vd_ring.specs.declared.frame.Used.{Used}
use Rattle.vd_ring.specs.Control.{last_command, command_of}
use Rattle.vd_ring.specs.Frames.{Fits}
use Rattle.vd_ring.specs.History.{offers, collects, open_at, chain, head, next_head, entry, numbers, occurs, used_at}
use Rattle.vd_ring.specs.Places.{Places}
use Rattle.vd_ring.proofs.ControlSteps.{head_new, head_before}
use Rattle.vd_ring.proofs.Counts.{occurs_before, occurs_at, one_small}
use Rattle.vd_ring.proofs.HeldPlaces.{chain_before, chain_new}
use Rattle.vd_ring.proofs.ListSteps.{number_at, number_in}
use Rattle.vd_layout.specs.Control.{ControlWords}
use Rattle.vd_layout.specs.Driver.{HasRoom}
use Rattle.vd_commands.specs.Loads.{ack_load}
use Rattle.vd_commands.specs.Words.{command_word}
use Rattle.vd_bus.specs.GuestCommands.{commands, command_chain, Carries, HasSent, IsAcked, AreAcked}
use Rattle.vd_models.specs.Pending.{IsInHand}

-- ---- lists

pub push_get : {X : Type 0} (xs : List X) (y : X) (j : ℕ) (r : X) → slice_get (xs ++ y ∷ []) j ≡ Some r
    → (slice_get xs j ≡ Some r) ⊎ ((j ≡ length xs) × (y ≡ r))
push_get [] y zero r e = inr (refl, cc e)
push_get [] y (suc j) r e = absurd (cc e)
push_get (x ∷ xs) y zero r e = inl e
push_get (x ∷ xs) y (suc j) r e = elim (push_get xs y j r e) [ inl a ↦ inl a | inr b ↦ inr (omega (arith, b.0), b.1) ]

used_before : (us : List Used) (u : Used) (j : ℕ) → j < length us → used_at (us ++ u ∷ []) j ≡ used_at us j
used_before us u j low = get_or_append_left us (u ∷ []) (entry 0 0) j low

pub used_last : (us : List Used) (u : Used) (j : ℕ) → j ≡ length us → used_at (us ++ u ∷ []) j ≡ u
used_last [] u zero e = refl
used_last [] u (suc j) e = absurd (omega (arith, e))
used_last (x ∷ us) u zero e = absurd (omega (arith, e))
used_last (x ∷ us) u (suc j) e = used_last us u j (omega (arith, e))

-- no two entries collected are of one chain
apart : (f : Frame) (o : List DriverDone) (i j : ℕ) → Places f o → i < j → j < length (collects o)
    → (used_at (collects o) i).number ≡ (used_at (collects o) j).number → ⊥
apart f o i j p less inside same =
    let us = collects o in
    let k : ℕ = (used_at us j).number in
    let xs : List ℕ = numbers us in
    let long : length xs ≡ length us = length-map us (λ u. u.number) in
    let at_j : slice_index xs j ≡ k = number_at us j inside in
    let at_i : slice_index (take j xs) i ≡ k = get_or-take j xs i 0 less ∙ number_at us i (omega arith) ∙ same in
    let before : 1 ≤ occurs (slice_index (take j xs) i) (take j xs) = occurs_at (take j xs) i 0 (omega
    (arith, length-take-le j xs (omega (arith, long)))) in
    let here : 1 ≤ occurs k (take j xs) = subst (λ (n : ℕ). 1 ≤ occurs n (take j xs)) at_i before in
    omega (
      arith,
      occurs_before xs j k (omega (arith, long)) at_j,
      here,
      p.is_open k,
      one_small (Rattle.std.proofs.Common.nat_lt k (length (offers o))),
    )

-- ---- the commands that were offered

carried : (words : ControlWords) (f : Frame) (o o' : List DriverDone) (k : ℕ) (bytes : List ℕ) → chain o' k ≡ chain o k
    → head f o' k ≡ head f o k → ((i : ℕ) → command_of f o' k i ≡ command_of f o k i) → Carries words f o k bytes
    → Carries words f o' k bytes
carried words f o o' k bytes same_chain same_head same_words c = record {
  is = same_chain ∙ c.is ∙ ap (λ h. command_chain words f h bytes) (sym same_head);
  first = same_words 0 ∙ c.first;
  second = same_words 1 ∙ c.second;
}

pub sent_stored : (words : ControlWords) (s : Script) (f : Frame) (o : List DriverDone) (g i x : ℕ) → HasSent words s f o
    → HasSent words s f (StoreCommand g i x ∷ o)
sent_stored words s f o g i x h = record {
  some = h.some;
  each = λ k bytes low is. carried words f o (StoreCommand g i x ∷ o) k bytes refl refl (λ i. refl) (h.each k bytes low is);
}

pub sent_loaded : (words : ControlWords) (s : Script) (f : Frame) (o : List DriverDone) (n x : ℕ) → HasSent words s f o
    → HasSent words s f (LoadAck n x ∷ o)
sent_loaded words s f o n x h = record {
  some = h.some;
  each = λ k bytes low is. carried words f o (LoadAck n x ∷ o) k bytes refl refl (λ i. refl) (h.each k bytes low is);
}

pub sent_collected : (words : ControlWords) (s : Script) (f : Frame) (o : List DriverDone) (u : Used) → HasSent words s f o
    → HasSent words s f (Collect (u ∷ []) ∷ o)
sent_collected words s f o u h = record {
  some = h.some;
  each = λ k bytes low is. carried words f o (Collect (u ∷ []) ∷ o) k bytes refl refl (λ i. refl) (h.each k bytes low is);
}

command_new : (f : Frame) (o : List DriverDone) (c : List Piece) (i : ℕ)
    → command_of f (Offer c ∷ o) (length (offers o)) i ≡ last_command o (next_head f o) i
command_new f o c i = ap (λ (b : Bool). if b then last_command o (next_head f o) i else command_of f o (length (offers o)) i)
    (eq-eqb (length (offers o)) (length (offers o)) refl)

command_before : (f : Frame) (o : List DriverDone) (c : List Piece) (k i : ℕ) → k < length (offers o)
    → command_of f (Offer c ∷ o) k i ≡ command_of f o k i
command_before f o c k i low = ap (λ (b : Bool). if b then last_command o (next_head f o) i else command_of f o k i)
    (ne_eqb (length (offers o)) k (λ e. omega (arith, low, e)))

same_some : (a b : List ℕ) → ◌≡◌ {A = Option (List ℕ)} (Some a) (Some b) → a ≡ b
same_some a b e = cc e

pub sent_offered : (words : ControlWords) (s : Script) (f : Frame) (o : List DriverDone) (c : List Piece) → Places f o → Fits f c
    → (h : IsInHand words s f o 2) → c ≡ command_chain words f (next_head f o) h.bytes → HasSent words s f o
    → HasSent words s f (Offer c ∷ o)
sent_offered words s f o c places fits hand is h =
    let n : ℕ = length (offers o) in
    let inside : n < length (commands s) = slice_get_within (commands s) n hand.bytes hand.next in
    record {
      some = omega (arith, length_push (offers o) c, inside, length-map s.commands (λ b. b.items));
      each = λ k bytes low get. elim (cases_lt k n) [
        | inl below ↦ carried words f o (Offer c ∷ o) k bytes (chain_before o c k below) (head_before f o c k places below)
            (λ i. command_before f o c k i below) (h.each k bytes below get)
        | inr past ↦ (
            let at : n ≡ k = omega (arith, low, past, length_push (offers o) c) in
            let same : hand.bytes ≡ bytes = same_some hand.bytes bytes (sym hand.next ∙ ap (slice_get (commands s)) at ∙ get) in
            subst (λ (j : ℕ). Carries words f (Offer c ∷ o) j bytes) at (subst (λ (b : List ℕ). Carries words f (Offer c ∷ o) n b) same
            (record {
              is = chain_new o c ∙ is ∙ ap (λ h. command_chain words f h hand.bytes) (sym (head_new f o c places fits));
              first = command_new f o c 0 ∙ hand.stored 0 (omega arith);
              second = command_new f o c 1 ∙ hand.stored 1 (omega arith);
            }))
            )
      ];
    }

-- ---- what came back

answered : (o o' : List DriverDone) (u : Used) (r : Return) → ack_load o' u.number ≡ ack_load o u.number → IsAcked o u r → IsAcked o' u r
answered o o' u r same a = record {
  number = a.number;
  len = a.len;
  word = a.word;
  loaded = same ∙ a.loaded;
  ack = a.ack;
}

pub acked_stored : (o : List DriverDone) (rs : List Return) (g i x : ℕ) → AreAcked o rs → AreAcked (StoreCommand g i x ∷ o) rs
acked_stored o rs g i x a = record {
  some = a.some;
  last = a.last;
  each = λ j r get. answered o (StoreCommand g i x ∷ o) (used_at (collects o) j) r refl (a.each j r get);
}

pub acked_offered : (o : List DriverDone) (rs : List Return) (c : List Piece) → AreAcked o rs → AreAcked (Offer c ∷ o) rs
acked_offered o rs c a = record {
  some = a.some;
  last = a.last;
  each = λ j r get. answered o (Offer c ∷ o) (used_at (collects o) j) r refl (a.each j r get);
}

pub acked_collected : (o : List DriverDone) (rs : List Return) (u : Used) → length rs ≡ length (collects o) → AreAcked o rs
    → AreAcked (Collect (u ∷ []) ∷ o) rs
acked_collected o rs u back a = record {
  some = omega (arith, back, length_push (collects o) u);
  last = omega (arith, back, length_push (collects o) u);
  each = λ j r get.
      subst (λ (w : Used). IsAcked (Collect (u ∷ []) ∷ o) w r)
      (sym (used_before (collects o) u j (omega (arith, back, slice_get_within rs j r get))))
      (answered o (Collect (u ∷ []) ∷ o) (used_at (collects o) j) r refl (a.each j r get));
}

ack_same : (o : List DriverDone) (n x : ℕ) → ack_load (LoadAck n x ∷ o) n ≡ Some x
ack_same o n x = ap (λ (b : Bool). if b then Some x else ack_load o n) (eq-eqb n n refl)

ack_other : (o : List DriverDone) (n x k : ℕ) → (n ≡ k → ⊥) → ack_load (LoadAck n x ∷ o) k ≡ ack_load o k
ack_other o n x k other = ap (λ (b : Bool). if b then Some x else ack_load o k) (ne_eqb n k other)

pub acked_loaded : (f : Frame) (o : List DriverDone) (rs : List Return) (n k x : ℕ) → Places f o
    → used_at (collects o) (length rs) ≡ entry n k → length (collects o) ≡ length rs + 1 → AreAcked o rs
    → AreAcked (LoadAck n x ∷ o) (rs ++ record { number = n; len = k; ack = x % 256 } ∷ [])
acked_loaded f o rs n k x places is more a =
    let new : Return = record { number = n; len = k; ack = x % 256 } in
    let one_more : length (rs ++ new ∷ []) ≡ length rs + 1 = length_push rs new in
    let of_n : (used_at (collects o) (length rs)).number ≡ n = ap (λ (u : Used). u.number) is in
    record {
      some = omega (arith, more, one_more);
      last = omega (arith, more, one_more);
      each = λ j r get. elim (push_get rs new j r get) [
        | inl old ↦ (
            let low : j < length rs = slice_get_within rs j r old in
            answered o (LoadAck n x ∷ o) (used_at (collects o) j) r
            (ack_other o n x (used_at (collects o) j).number (λ e. apart f o j (length rs) places low (omega (arith, more))
            (sym e ∙ sym of_n))) (a.each j r old)
            )
        | inr last ↦ subst (λ (z : Return). IsAcked (LoadAck n x ∷ o) (used_at (collects o) j) z) last.1
            (subst (λ (i : ℕ). IsAcked (LoadAck n x ∷ o) (used_at (collects o) i) new) (sym last.0)
            (subst (λ (u : Used). IsAcked (LoadAck n x ∷ o) u new) (sym is)
            (record { number = refl; len = refl; word = x; loaded = ack_same o n x; ack = refl })))
      ];
    }

-- ---- what is in hand

stored_first : (words : ControlWords) (o : List DriverDone) (g x : ℕ) → last_command (StoreCommand g 0 x ∷ o) g 0 ≡ x
stored_first words o g x = ap (λ (b : Bool). if b && (0 == 0) then x else last_command o g 0) (eq-eqb g g refl)

pub hand_first : (words : ControlWords) (s : Script) (f : Frame) (o : List DriverDone) (x : ℕ) → (h : IsInHand words s f o 0)
    → x ≡ command_word h.bytes 0 → IsInHand words s f (StoreCommand (next_head f o) 0 x ∷ o) 1
hand_first words s f o x h is = record {
  bytes = h.bytes;
  next = h.next;
  room = h.room;
  stored = λ half low. at half low;
}
  where
    g : ℕ
    g = next_head f o

    at : (half : ℕ) → half < 1 → last_command (StoreCommand g 0 x ∷ o) g half ≡ command_word h.bytes half
    at zero low = stored_first words o g x ∙ is
    at (suc half) low = absurd (omega (arith, low))

pub hand_both : (words : ControlWords) (s : Script) (f : Frame) (o : List DriverDone) (x : ℕ) → (h : IsInHand words s f o 1)
    → x ≡ command_word h.bytes 1 → IsInHand words s f (StoreCommand (next_head f o) 1 x ∷ o) 2
hand_both words s f o x h is = record {
  bytes = h.bytes;
  next = h.next;
  room = h.room;
  stored = λ half low. at half low;
}
  where
    g : ℕ
    g = next_head f o

    at : (half : ℕ) → half < 2 → last_command (StoreCommand g 1 x ∷ o) g half ≡ command_word h.bytes half
    at zero low = ap (λ (b : Bool). if b && (1 == 0) then x else last_command o g 0) (eq-eqb g g refl) ∙ h.stored 0 (omega arith)
    at (suc zero) low = ap (λ (b : Bool). if b && (1 == 1) then x else last_command o g 1) (eq-eqb g g refl) ∙ is
    at (suc (suc half)) low = absurd (omega (arith, low))
