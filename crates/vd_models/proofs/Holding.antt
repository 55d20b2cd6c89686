-- What a take, a give and a rest do to what a model device holds and has recorded.
use Rattle.std.proofs.Common.{◌≡◌, ℕ, zero, suc, ◌+◌, ◌-◌, ◌<◌, ◌≤◌, Bool, true, false, Some, List, [], ◌∷◌, ◌++◌, length, map, drop, slice_get, slice_index_or, nat_lt, refl, sym, ◌∙◌, ap, subst, arith, inl, inr}
use Rattle.std.specs.List.{All}
use Rattle.std.proofs.lemmas.Bool.{cases_lt}
use Rattle.std.proofs.lemmas.List.{map-append, map_push, length-map, length-append, length_push, take_all, drop-append-le, get_or_append_left, get_or_push, get_or-drop, nil_from_length}
use Rattle.std.proofs.lemmas.List.Elements.{All-push, All-weaker}
use Rattle.std.proofs.lemmas.Option.{slice_get_within, get_or_from_slice_get}
use Rattle.vd_model.specs.declared.chain.Piece.{Piece}
use Rattle.vd_model.specs.declared.record.Begun.{Begun}
use Rattle.vd_ring.specs.declared.device.DeviceDone.{DeviceDone}
use Rattle.vd_ring.specs.declared.device.DeviceDone.TheVariants.{Take, Give, Rest}
use Rattle.vd_ring.specs.declared.frame.Frame.{Frame}
use Rattle.vd_ring.specs.declared.frame.Used.{Used}
use Rattle.vd_ring.specs.History.{entry, takes, gives, running, numbers, occurs, IsWhole}
use Rattle.vd_ring.proofs.Counts.{one, one_more, one_below, one_above, occurs_push, occurs_without, Contains_from}
use Rattle.vd_ring.proofs.HeldPlaces.{numbers_push}
use Rattle.vd_layout.specs.Device.{MayGive}
use Rattle.vd_bus.specs.declared.device.Attached.{Attached}
use Rattle.vd_bus.specs.Device.{IsServing, IsJournalled, IsBegun, chains_of, lens_of}
use Rattle.vd_models.specs.declared.window.Held.{Held}
use Rattle.vd_models.specs.Holding.{HaveLens, given_len, IsHeld, next_held, rest_held, held_numbers, begun_of, held_of}
use Rattle.vd_models.proofs.Lists.{next_is, All-rest_held}

-- ---- the journal

get_more : (xs ys : List ℕ) (k x : ℕ) → slice_get xs k ≡ Some x → slice_get (xs ++ ys) k ≡ Some x
get_more [] ys k x h = absurd (cc)
get_more (y ∷ xs) ys zero x h = h
get_more (y ∷ xs) ys (suc k) x h = get_more xs ys k x h

get_last : (xs : List ℕ) (x : ℕ) → slice_get (xs ++ x ∷ []) (length xs) ≡ Some x
get_last [] x = refl
get_last (y ∷ xs) x = get_last xs x

lens_more : (bs : List Begun) (b : Begun) → lens_of (bs ++ b ∷ []) ≡ lens_of bs ++ b.len ∷ []
lens_more bs b = map_push (λ (z : Begun). z.len) bs b

-- a chain more has its length
pub lens_begun : (bs bs' : List Begun) (c : List Piece) → bs' ≡ bs ++ begun_of c ∷ [] → HaveLens bs → HaveLens bs'
lens_begun bs bs' c is h =
    ap lens_of is ∙ lens_more bs (begun_of c) ∙ ap (λ zs. zs ++ given_len c ∷ []) h ∙ sym
    (ap (map given_len) (ap chains_of is ∙ map_push (λ (z : Begun). z.chain) bs (begun_of c)) ∙ map_push given_len (chains_of bs) c)

still_journalled : (bs : List Begun) (b : Begun) (at from : ℕ) (u : Used) → IsJournalled bs at from u
    → IsJournalled (bs ++ b ∷ []) at from u
still_journalled bs b at from u h = record {
  since = h.since;
  len = ap (λ zs. slice_get zs (u.number - from + at)) (lens_more bs b)
      ∙ get_more (lens_of bs) (b.len ∷ []) (u.number - from + at) u.len h.len;
}

now_journalled : (bs : List Begun) (b : Begun) (by : Attached) (s : List DeviceDone) → IsServing bs by s
    → IsJournalled (bs ++ b ∷ []) by.at by.from (entry (length (takes s)) b.len)
now_journalled bs b by s v =
    let e : length (takes s) - by.from + by.at ≡ length (lens_of bs) = omega (
      arith,
      v.as_many,
      v.after,
      length-map bs
          (λ (z : Begun). z.len),
    ) in
    record {
      since = omega (arith, v.as_many, v.after);
      len = ap (λ zs. slice_get zs (length (takes s) - by.from + by.at)) (lens_more bs b) ∙ ap
          (λ j. slice_get (lens_of bs ++ b.len ∷ []) j) e ∙ get_last (lens_of bs) b.len;
    }

pub serving_taken : (bs : List Begun) (by : Attached) (s : List DeviceDone) (c : List Piece) (h : ℕ) → length bs < by.at + by.count
    → IsServing bs by s → IsServing (bs ++ begun_of c ∷ []) by (Take c h ∷ s)
serving_taken bs by s c h more v =
    let b : Begun = begun_of c in
    let low : by.from ≤ length (takes s) = omega (arith, v.as_many, v.after) in
    record {
      as_many = omega (arith, v.as_many, length_push (takes s) c, length_push bs b);
      after = omega (arith, v.after, length_push bs b);
      before = v.before;
      few = omega (arith, length_push bs b);
      chains = ap chains_of (drop-append-le by.at bs (b ∷ []) v.after) ∙ map_push (λ (z : Begun). z.chain) (drop by.at bs) b ∙ ap
          (λ zs. zs ++ c ∷ []) v.chains ∙ sym (drop-append-le by.from (takes s) (c ∷ []) low);
      each = subst (λ (zs : List Begun). All IsBegun zs) (sym (drop-append-le by.at bs (b ∷ []) v.after)) (All-push IsBegun
          (drop by.at bs) b v.each record { fits = omega arith; plain = refl });
      given = All-weaker (IsJournalled bs by.at by.from) (IsJournalled (bs ++ b ∷ []) by.at by.from)
          (still_journalled bs b by.at by.from) (drop by.from (gives s)) v.given;
    }

pub serving_given : (bs : List Begun) (by : Attached) (s : List DeviceDone) (k n : ℕ) → IsJournalled bs by.at by.from (entry k n)
    → IsServing bs by s → IsServing bs by (Give (entry k n ∷ []) ∷ s)
serving_given bs by s k n j v = record {
  as_many = v.as_many;
  after = v.after;
  before = omega (arith, v.before, length_push (gives s) (entry k n));
  few = v.few;
  chains = v.chains;
  each = v.each;
  given = subst (λ (us : List Used). All (IsJournalled bs by.at by.from) us) (sym
      (drop-append-le by.from (gives s) (entry k n ∷ []) v.before)) (All-push (IsJournalled bs by.at by.from) (drop by.from (gives s))
      (entry k n) v.given j);
}

-- a rest of a device that has given all
pub takes_rested : (s : List DeviceDone) → length (takes s) ≡ length (gives s) → takes (Rest ∷ s) ≡ takes s
takes_rested s e = take_all (length (gives s)) (takes s) (omega arith)

pub serving_rested : (bs : List Begun) (by : Attached) (s : List DeviceDone) → length (takes s) ≡ length (gives s) → IsServing bs by s
    → IsServing bs by (Rest ∷ s)
serving_rested bs by s e v = record {
  as_many = omega (arith, v.as_many, ap length (takes_rested s e));
  after = v.after;
  before = v.before;
  few = v.few;
  chains = v.chains ∙ ap (drop by.from) (sym (takes_rested s e));
  each = v.each;
  given = v.given;
}

-- ---- what is held

pub held_taken : (bs : List Begun) (by : Attached) (hs : List Held) (f : Frame) (s : List DeviceDone) (c : List Piece) (h : ℕ)
    → IsServing bs by s → IsHeld bs by hs f s → IsHeld (bs ++ begun_of c ∷ []) by (hs ++ held_of (length (takes s)) c ∷ []) f (Take c h ∷ s)
held_taken bs by hs f s c h v i =
    let t : ℕ = length (takes s) in
    let x : Held = held_of t c in
    record {
      spread = λ k. omega (
        arith,
        i.spread k,
        occurs_push k (running s) t,
        one_more k t,
        ap (λ n. one (nat_lt k n))
            (length_push (takes s) c),
      );
      hand = map_push (λ (y : Held). y.number) hs x ∙ ap (λ zs. zs ++ t ∷ []) i.hand;
      as_many = omega (arith, i.as_many, length_push (takes s) c, length_push hs x);
      noted = All-push (λ (y : Held). IsJournalled (bs ++ begun_of c ∷ []) by.at by.from (entry y.number y.len)) hs x
          (All-weaker (λ (y : Held). IsJournalled bs by.at by.from (entry y.number y.len)) (λ (y : Held). IsJournalled
          (bs ++ begun_of c ∷ []) by.at by.from (entry y.number y.len)) (λ y. still_journalled bs (begun_of c) by.at by.from
          (entry y.number y.len)) hs i.noted)
          (now_journalled bs (begun_of c) by s v);
      order = λ io j d below. elim (cases_lt j (length hs)) [
        | inl a ↦ ap (λ (y : Held). y.number) (get_or_append_left hs (x ∷ []) d j a) ∙ i.order io j d a
        | inr a ↦ (
            let e : length hs ≡ j = omega (arith, length_push hs x) in
            ap (λ (y : Held). y.number) (get_or_push hs x d j e) ∙ omega (arith, i.as_many)
            )
      ];
    }

one_small : (k n : ℕ) → one (nat_lt k n) ≤ 1
one_small k n = elim (cases_lt k n) [ inl a ↦ omega (arith, one_below k n a) | inr a ↦ omega (arith, one_above k n a) ]

pub held_once : (bs : List Begun) (by : Attached) (hs : List Held) (f : Frame) (s : List DeviceDone) (k : ℕ) → IsHeld bs by hs f s
    → occurs k (held_numbers hs) ≤ 1
held_once bs by hs f s k i = omega (arith, i.spread k, one_small k (length (takes s)), ap (occurs k) i.hand)

pub held_given : (io : Bool) (bs : List Begun) (by : Attached) (hs : List Held) (f : Frame) (s : List DeviceDone) (k n : ℕ)
    → f.features.in_order ≡ io → next_held io hs ≡ Some (record { number = k; len = n }) → IsHeld bs by hs f s → IsHeld bs by
    (rest_held io hs) f (Give (entry k n ∷ []) ∷ s)
held_given io bs by hs f s k n is next i =
    let x : Held = record { number = k; len = n } in
    let r = next_is io hs x next in
    let runs : 1 ≤ occurs k (running s) = omega (arith, r.among, ap (occurs k) i.hand) in
    record {
      spread = λ j. omega (arith, i.spread j, occurs_without j k (running s) runs, numbers_push (gives s) (entry k n) j);
      hand = r.rest (held_once bs by hs f s k i) ∙ ap (Rattle.vd_ring.specs.History.without k) i.hand;
      as_many = omega (arith, i.as_many, r.shorter, length_push (gives s) (entry k n));
      noted = All-rest_held (λ (y : Held). IsJournalled bs by.at by.from (entry y.number y.len)) io hs i.noted;
      order = λ o j d below. first_order io (sym is ∙ o) o j d below;
    }
  where
    first_order : (b : Bool) → b ≡ true → f.features.in_order ≡ true → (j : ℕ) (d : Held) → j < length (rest_held b hs)
        → (slice_index_or (rest_held b hs) j d).number ≡ length (gives s ++ entry k n ∷ []) + j
    first_order true e o j d below =
        ap (λ (y : Held). y.number) (get_or-drop 1 hs j d) ∙ i.order o (1 + j) d
        (omega (arith, Rattle.std.proofs.lemmas.List.length-drop 1 hs)) ∙ omega (arith, length_push (gives s) (entry k n))
    first_order false e o j d below = absurd (cc)

pub held_rested : (bs : List Begun) (by : Attached) (f : Frame) (s : List DeviceDone) → IsHeld bs by [] f s → IsHeld bs by [] f (Rest ∷ s)
held_rested bs by f s i =
    let even : length (takes s) ≡ length (gives s) = omega (arith, i.as_many) in
    record {
      spread = λ k. omega (arith, i.spread k, ap (occurs k) i.hand, ap (λ n. one (nat_lt k n)) (ap length (takes_rested s even)));
      hand = refl;
      as_many = omega (arith, even, ap length (takes_rested s even));
      noted = i.noted;
      order = i.order;
    }

-- ---- what may be given

pub may_give : (bs : List Begun) (by : Attached) (hs : List Held) (f : Frame) (s : List DeviceDone) (io : Bool) (x : Held)
    → f.features.in_order ≡ io → IsHeld bs by hs f s → next_held io hs ≡ Some x → MayGive f s x.number
may_give bs by hs f s io x is i next =
    let r = next_is io hs x next in
    record {
      runs = Contains_from x.number (running s) (omega (arith, r.among, ap (occurs x.number) i.hand));
      in_order = λ o. first io (sym is ∙ o) o next;
    }
  where
    first : (b : Bool) → b ≡ true → f.features.in_order ≡ true → next_held b hs ≡ Some x → x.number ≡ length (gives s)
    first true e o at = sym (ap (λ (y : Held). y.number) (get_or_from_slice_get hs 0 x x at)) ∙ i.order o 0 x
        (slice_get_within hs 0 x at) ∙ omega arith
    first false e o at = absurd (cc)
