-- What an act on the shadow ring makes of the settings, and of which chains are late.
use Rattle.std.proofs.Common.{◌≡◌, ℕ, zero, suc, ◌+◌, ◌-◌, ◌<◌, ◌≤◌, ◌==◌, ◌&&◌, ◌||◌, nat_lt, not, Bool, true, false, List, [], ◌∷◌, ◌++◌, length, map, filter, if◌then◌else◌, All, refl, sym, ◌∙◌, ap, subst, arith, inl, inr}
use Rattle.std.specs.List.{range_with_len, list_any}
use Rattle.std.proofs.lemmas.Bool.{cases_Bool, cases_lt, eqb-true, eq-eqb, ne_eqb, lt-ltb, le-ltb}
use Rattle.std.proofs.lemmas.List.{append-nil}
use Rattle.std.proofs.lemmas.List.Elements.{All-head, All-tail, All-cons, All-nil, All-filter, filter-append}
use Rattle.std.proofs.lemmas.List.Folds.{list_any-append}
use Rattle.std.proofs.Math.ListN.{length-append}
use Rattle.vd_model.specs.declared.chain.Piece.{Piece}
use Rattle.vd_model.specs.Chains.{readable}
use Rattle.vd_ring.specs.declared.frame.Frame.{Frame}
use Rattle.vd_ring.specs.declared.driver.DriverDone.{DriverDone}
use Rattle.vd_ring.specs.declared.driver.DriverDone.TheVariants.{Offer, LoadAck}
use Rattle.vd_ring.specs.History.{offers, chain}
use Rattle.vd_ring.specs.Control.{command_of}
use Rattle.vd_ring.proofs.HeldPlaces.{chain_before}
use Rattle.vd_control.specs.declared.settings.Settings.{Settings}
use Rattle.vd_commands.specs.Words.{word_bytes, set_by}
use Rattle.vd_relay.specs.Settling.{set_same, bytes_of, is_ok, is_acknowledged, chains_from, settled, is_late}
use Rattle.vd_relay.proofs.SettingFolds.{filter_same, any_same, more_late, more_last}

-- ---- ranges

range_all : (P : ℕ → Type 0) (a n : ℕ) → ((j : ℕ) → a ≤ j → j < a + n → P j) → All P (range_with_len a n)
range_all P a zero h = All-nil P
range_all P a (suc n) h = All-cons P a (range_with_len (a + 1) n) (h a (omega arith) (omega arith))
    (range_all P (a + 1) n (λ j low high. h j (omega arith) (omega arith)))

range_split : (a m n : ℕ) → range_with_len a (m + n) ≡ range_with_len a m ++ range_with_len (a + m) n
range_split a zero n = ap (λ (k : ℕ). range_with_len a k) (let e : 0 + n ≡ n = omega arith in e)
    ∙ ap (λ (k : ℕ). range_with_len k n) (let e : a ≡ a + 0 = omega arith in e)
range_split a (suc m) n =
    ap (λ (k : ℕ). range_with_len a k) (let e : suc m + n ≡ suc (m + n) = omega arith in e)
    ∙ ap (λ (ks : List ℕ). a ∷ ks) (range_split (a + 1) m n)
    ∙ ap (λ (k : ℕ). a ∷ range_with_len (a + 1) m ++ range_with_len k n) (let e : (a + 1) + m ≡ a + suc m = omega arith in e)

-- those before k, k, and those after it
range_at : (a k end : ℕ) → a ≤ k → k < end
    → range_with_len a (end - a) ≡ range_with_len a (k - a) ++ k ∷ range_with_len (k + 1) (end - (k + 1))
range_at a k end low high =
    ap (λ (n : ℕ). range_with_len a n) (let e : end - a ≡ (k - a) + suc (end - (k + 1)) = omega arith in e)
    ∙ range_split a (k - a) (suc (end - (k + 1)))
    ∙ ap (λ (j : ℕ). range_with_len a (k - a) ++ j ∷ range_with_len (j + 1) (end - (k + 1)))
    (let e : a + (k - a) ≡ k = omega arith in e)

-- ---- an ack is loaded

acknowledged_here : (o : List DriverDone) (k ack : ℕ) → is_acknowledged (LoadAck k ack ∷ o) k ≡ is_ok ack
acknowledged_here o k ack = rw (eq-eqb k k refl) refl

pub acknowledged_other : (o : List DriverDone) (k j ack : ℕ) → (k ≡ j → ⊥) → is_acknowledged (LoadAck k ack ∷ o) j ≡ is_acknowledged o j
acknowledged_other o k j ack ne = rw (ne_eqb k j ne) refl

module _ (g : Frame) (o : List DriverDone) (k ack : ℕ) (inside : k < length (offers o)) (none : is_acknowledged o k ≡ false) where
  abbrev next : List DriverDone
  next = LoadAck k ack ∷ o

  -- where it isn't OK nothing changes
  kept : is_ok ack ≡ false → (j : ℕ) → is_acknowledged next j ≡ is_acknowledged o j
  kept err j = elim (cases_Bool (k == j)) [
    | inl e ↦ rw e (err ∙ sym (subst (λ (i : ℕ). is_acknowledged o i ≡ false) (eqb-true k j e) none))
    | inr e ↦ rw e refl
  ]

  agree : (a n : ℕ) → ((j : ℕ) → a ≤ j → j < a + n → k ≡ j → ⊥)
      → All (λ j. is_acknowledged next j ≡ is_acknowledged o j) (range_with_len a n)
  agree a n apart = range_all (λ j. is_acknowledged next j ≡ is_acknowledged o j) a n
      (λ j low high. acknowledged_other o k j ack (apart j low high))

  pub settled_more : (x : Settings) (n : ℕ) → n ≤ k
      → settled x n g next ≡ (if is_ok ack && not (is_late g o k) then set_by (settled x n g o) (bytes_of g o k ∷ []) else settled x n g o)
  settled_more x n own =
      let end : ℕ = length (offers o) in
      let split = range_at n k end own inside in
      let before : List ℕ = range_with_len n (k - n) in
      let after : List ℕ = range_with_len (k + 1) (end - (k + 1)) in
      let same_before = agree n (k - n) (λ j low high is. absurd (omega (arith, high, own, is))) in
      let same_after = agree (k + 1) (end - (k + 1)) (λ j low high is. absurd (omega (arith, low, is))) in
      elim (cases_Bool (is_ok ack)) [
        | inl ok ↦ elim (cases_Bool (is_late g o k)) [
          | inl late ↦ rw (ok, late) (ap (λ (ks : List ℕ). set_by x (map (bytes_of g o) (filter (is_acknowledged next) ks))) split
              ∙ more_late x (bytes_of g o) (is_acknowledged next) (is_acknowledged o) k before after (acknowledged_here o k ack ∙ ok) none
              same_before same_after late
              ∙ sym (ap (λ (ks : List ℕ). set_by x (map (bytes_of g o) (filter (is_acknowledged o) ks))) split))
          | inr last ↦ rw (ok, last) (ap (λ (ks : List ℕ). set_by x (map (bytes_of g o) (filter (is_acknowledged next) ks))) split
              ∙ more_last x (bytes_of g o) (is_acknowledged next) (is_acknowledged o) k before after (acknowledged_here o k ack ∙ ok) none
              same_before same_after last
              ∙ sym (ap (λ (ks : List ℕ). set_by (set_by x (map (bytes_of g o) (filter (is_acknowledged o) ks))) (bytes_of g o k ∷ []))
              split))
        ]
        | inr err ↦ rw err (ap (λ (ks : List ℕ). set_by x (map (bytes_of g o) ks)) (filter_same (is_acknowledged next) (is_acknowledged o)
            (chains_from n o) (range_all (λ j. is_acknowledged next j ≡ is_acknowledged o j) n (end - n) (λ j low high. kept err j))))
      ]

  -- a chain before it that sets the same is late then
  pub late_more : (i : ℕ) → is_late g next i
      ≡ (is_late g o i || (is_ok ack && (nat_lt i k && set_same (bytes_of g o i) (bytes_of g o k))))
  late_more i =
      let end : ℕ = length (offers o) in
      let p : ℕ → Bool = λ j. is_acknowledged next j && set_same (bytes_of g o i) (bytes_of g o j) in
      let q : ℕ → Bool = λ j. is_acknowledged o j && set_same (bytes_of g o i) (bytes_of g o j) in
      elim (cases_lt i k) [
        | inl low ↦
            let split = range_at (i + 1) k end (omega (arith, low)) inside in
            let before : List ℕ = range_with_len (i + 1) (k - (i + 1)) in
            let after : List ℕ = range_with_len (k + 1) (end - (k + 1)) in
            let fore : list_any p before ≡ list_any q before = same_any i (i + 1) (k - (i + 1))
            (λ j a b is. absurd (omega (arith, b, low, is))) in
            let aft : list_any p after ≡ list_any q after = same_any i (k + 1) (end - (k + 1))
            (λ j a b is. absurd (omega (arith, a, is))) in
            let here : p k ≡ (is_ok ack && set_same (bytes_of g o i) (bytes_of g o k))
            = ap (λ (b : Bool). b && set_same (bytes_of g o i) (bytes_of g o k)) (acknowledged_here o k ack) in
            let there : q k ≡ false = ap (λ (b : Bool). b && set_same (bytes_of g o i) (bytes_of g o k)) none in
            ap (list_any p) split ∙ list_any-append p before (k ∷ after)
            ∙ ap (λ (b : Bool). b || (p k || list_any p after)) fore
            ∙ ap (λ (b : Bool). list_any q before || (p k || b)) aft
            ∙ ap (λ (b : Bool). list_any q before || (b || list_any q after)) here
            ∙ regroup (list_any q before) (is_ok ack) (set_same (bytes_of g o i) (bytes_of g o k)) (list_any q after) (nat_lt i k)
            (lt-ltb i k low)
            ∙ ap (λ (b : Bool). (list_any q before || (b || list_any q after))
            || (is_ok ack && (nat_lt i k && set_same (bytes_of g o i) (bytes_of g o k)))) (sym there)
            ∙ ap (λ (b : Bool). b || (is_ok ack && (nat_lt i k && set_same (bytes_of g o i) (bytes_of g o k))))
            (sym (ap (list_any q) split ∙ list_any-append q before (k ∷ after)))
        | inr high ↦ same_any i (i + 1) (end - (i + 1)) (λ j a b is. absurd (omega (arith, a, high, is)))
            ∙ never (is_late g o i) (is_ok ack) (set_same (bytes_of g o i) (bytes_of g o k)) (nat_lt i k) (le-ltb i k high)
      ]
    where
      same_any : (i a n : ℕ) → ((j : ℕ) → a ≤ j → j < a + n → k ≡ j → ⊥)
          → list_any (λ j. is_acknowledged next j && set_same (bytes_of g o i) (bytes_of g o j)) (range_with_len a n)
          ≡ list_any (λ j. is_acknowledged o j && set_same (bytes_of g o i) (bytes_of g o j)) (range_with_len a n)
      same_any i a n apart = any_same (λ j. is_acknowledged next j && set_same (bytes_of g o i) (bytes_of g o j))
          (λ j. is_acknowledged o j && set_same (bytes_of g o i) (bytes_of g o j)) (range_with_len a n)
          (range_all (λ j. (is_acknowledged next j && set_same (bytes_of g o i) (bytes_of g o j))
          ≡ (is_acknowledged o j && set_same (bytes_of g o i) (bytes_of g o j))) a n
          (λ j low high. ap (λ (b : Bool). b && set_same (bytes_of g o i) (bytes_of g o j))
          (acknowledged_other o k j ack (apart j low high))))

      regroup : (a b c d e : Bool) → e ≡ true → (a || ((b && c) || d)) ≡ ((a || (false || d)) || (b && (e && c)))
      regroup true b c d e h = refl
      regroup false true true true e h = refl
      regroup false true true false e h = rw h refl
      regroup false true false true e h = refl
      regroup false true false false e h = rw h refl
      regroup false false c true e h = refl
      regroup false false c false e h = refl

      never : (a b c e : Bool) → e ≡ false → a ≡ (a || (b && (e && c)))
      never true b c e h = refl
      never false true c e h = rw h refl
      never false false c e h = refl

-- ---- a chain is offered

module _ (g : Frame) (o : List DriverDone) (c : List Piece) where
  abbrev offered : List DriverDone
  offered = Offer c ∷ o

  count : length (offers offered) ≡ length (offers o) + 1
  count = length-append (offers o) (c ∷ [])

  pub acknowledged_new : is_acknowledged offered (length (offers o)) ≡ false
  acknowledged_new = rw (eq-eqb (length (offers o)) (length (offers o)) refl) refl

  pub acknowledged_old : (j : ℕ) → j < length (offers o) → is_acknowledged offered j ≡ is_acknowledged o j
  acknowledged_old j low = rw (ne_eqb (length (offers o)) j (λ e. absurd (omega (arith, e, low)))) refl

  pub bytes_old : (j : ℕ) → j < length (offers o) → bytes_of g offered j ≡ bytes_of g o j
  bytes_old j low =
      let ne : length (offers o) ≡ j → ⊥ = λ e. absurd (omega (arith, e, low)) in
      ap (λ (n : ℕ). word_bytes n (command_of g offered j 0) (command_of g offered j 1)) (ap readable (chain_before o c j low))
      ∙ ap (λ (n : ℕ). word_bytes (readable (chain o j)) n (command_of g offered j 1)) (words j 0 ne)
      ∙ ap (λ (n : ℕ). word_bytes (readable (chain o j)) (command_of g o j 0) n) (words j 1 ne)
    where
      words : (i half : ℕ) → (length (offers o) ≡ i → ⊥) → command_of g offered i half ≡ command_of g o i half
      words i half ne = rw (ne_eqb (length (offers o)) i ne) refl

  -- the chains from n on are those before, and the new one
  chains_more : (n : ℕ) → n ≤ length (offers o) → chains_from n offered ≡ chains_from n o ++ length (offers o) ∷ []
  chains_more n low =
      let m : ℕ = length (offers o) in
      ap (λ (k : ℕ). range_with_len n (k - n)) count ∙ range_at n m (m + 1) low (omega arith)
      ∙ ap (λ (k : ℕ). range_with_len n (m - n) ++ m ∷ range_with_len (m + 1) k) (let e : (m + 1) - (m + 1) ≡ 0 = omega arith in e)

  chains_none : (o' : List DriverDone) (n : ℕ) → length (offers o') ≤ n → chains_from n o' ≡ []
  chains_none o' n high = ap (λ (k : ℕ). range_with_len n k) (let e : length (offers o') - n ≡ 0 = omega (arith, high) in e)

  chains_low : (P : ℕ → Type 0) (n : ℕ) → n ≤ length (offers o) → ((j : ℕ) → j < length (offers o) → P j) → All P (chains_from n o)
  chains_low P n low each = range_all P n (length (offers o) - n) (λ j a b. each j (omega (arith, b, low)))

  map_old : (ks : List ℕ) → All (λ j. j < length (offers o)) ks → map (bytes_of g offered) ks ≡ map (bytes_of g o) ks
  map_old [] h = refl
  map_old (k ∷ ks) h =
      ap (λ (b : List ℕ). b ∷ map (bytes_of g offered) ks) (bytes_old k (All-head (λ j. j < length (offers o)) k ks h))
      ∙ ap (λ (bs : List (List ℕ)). bytes_of g o k ∷ bs) (map_old ks (All-tail (λ j. j < length (offers o)) k ks h))

  pub settled_offered : (x : Settings) (n : ℕ) → settled x n g offered ≡ settled x n g o
  settled_offered x n = elim (cases_lt (length (offers o)) n) [
    | inl high ↦
        ap (λ (ks : List ℕ). set_by x (map (bytes_of g offered) (filter (is_acknowledged offered) ks)))
        (chains_none offered n (omega (arith, high, count)))
        ∙ sym (ap (λ (ks : List ℕ). set_by x (map (bytes_of g o) (filter (is_acknowledged o) ks))) (chains_none o n (omega (arith, high))))
    | inr low ↦
        let m : ℕ = length (offers o) in
        let ks : List ℕ = chains_from n o in
        let none : filter (is_acknowledged offered) (m ∷ []) ≡ [] = rw acknowledged_new refl in
        let those : filter (is_acknowledged offered) (chains_from n offered) ≡ filter (is_acknowledged o) ks
        = ap (filter (is_acknowledged offered)) (chains_more n low) ∙ filter-append (is_acknowledged offered) ks (m ∷ [])
        ∙ ap (λ (js : List ℕ). filter (is_acknowledged offered) ks ++ js) none ∙ append-nil (filter (is_acknowledged offered) ks)
        ∙ filter_same (is_acknowledged offered) (is_acknowledged o) ks
        (chains_low (λ j. is_acknowledged offered j ≡ is_acknowledged o j) n low (λ j below. acknowledged_old j below)) in
        ap (λ (js : List ℕ). set_by x (map (bytes_of g offered) js)) those
        ∙ ap (set_by x) (map_old (filter (is_acknowledged o) ks)
        (All-filter (is_acknowledged o) (λ j. j < m) ks (chains_low (λ j. j < m) n low (λ j below. below))))
  ]

  pub late_old : (i : ℕ) → i < length (offers o) → is_late g offered i ≡ is_late g o i
  late_old i low =
      let m : ℕ = length (offers o) in
      let ks : List ℕ = chains_from (i + 1) o in
      let p : ℕ → Bool = λ j. is_acknowledged offered j && set_same (bytes_of g offered i) (bytes_of g offered j) in
      let q : ℕ → Bool = λ j. is_acknowledged o j && set_same (bytes_of g o i) (bytes_of g o j) in
      let none : list_any p (m ∷ []) ≡ false
      = ap (λ (b : Bool). (b && set_same (bytes_of g offered i) (bytes_of g offered m)) || false) acknowledged_new in
      ap (list_any p) (chains_more (i + 1) (omega (arith, low))) ∙ list_any-append p ks (m ∷ [])
      ∙ ap (λ (b : Bool). list_any p ks || b) none ∙ or_false (list_any p ks)
      ∙ any_same p q ks (chains_low (λ j. p j ≡ q j) (i + 1) (omega (arith, low)) (λ j below.
      ap (λ (b : Bool). b && set_same (bytes_of g offered i) (bytes_of g offered j)) (acknowledged_old j below)
      ∙ ap (λ (bs : List ℕ). is_acknowledged o j && set_same bs (bytes_of g offered j)) (bytes_old i low)
      ∙ ap (λ (bs : List ℕ). is_acknowledged o j && set_same (bytes_of g o i) bs) (bytes_old j below)))
    where
      or_false : (b : Bool) → (b || false) ≡ b
      or_false true = refl
      or_false false = refl

  pub late_new : is_late g offered (length (offers o)) ≡ false
  late_new = ap (λ (k : ℕ). list_any (λ j. is_acknowledged offered j && set_same (bytes_of g offered (length (offers o))) (bytes_of g offered j))
      (range_with_len (length (offers o) + 1) k))
      (let e : length (offers offered) - (length (offers o) + 1) ≡ 0 = omega (arith, count) in e)
