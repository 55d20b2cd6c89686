-- The replay list sets again what settings hold.
use Rattle.std.proofs.Common.{◌≡◌, ℕ, zero, suc, ◌/◌, ◌%◌, ◌<◌, ◌≤◌, ◌==◌, nat_lt, List, [], ◌∷◌, ◌++◌, length, map, fold, refl, Bool, true, false, ◌&&◌, ◌||◌, ap, sym, ◌∙◌, Option, arith, All, get_or, set, slice_set, replicate, inl, inr, subst, add-one, length-set, get_or-set_same, get_or-set_other}
use Rattle.std.specs.List.{filter_map, cons_option}
use Rattle.std.proofs.lemmas.List.{get_or-replicate, ext_get_or}
use Rattle.std.proofs.lemmas.Nat.Bits.{bit_at-zero}
use Rattle.std.proofs.lemmas.List.Sums.{fold-append}
use Rattle.std.proofs.lemmas.List.Elements.{All-head, All-tail, All-append, All-cons, All-nil, All-map, All-weaker}
use Rattle.std.proofs.lemmas.Bool.{and_parts, eqb-true, lt-ltb, le-ltb, cases_lt, cases_eq, eq-eqb, ne_eqb}
use Rattle.vd_control.specs.declared.command.Command.{Command}
use Rattle.vd_control.specs.declared.command.Command.TheVariants.{Rx, Mac, VlanAdd, Pairs, Offloads}
use Rattle.vd_control.specs.declared.settings.Settings.{Settings}
use Rattle.vd_control.specs.Commands.{IsCommand, command, spelled}
use Rattle.vd_control.specs.Settings.{FoldsComeBack, after, applied, default, folded, has_bit, has_flag, has_vlan, is_zeros, passing, replay, unless, words_of}
use Rattle.vd_control.proofs.Bytes.{read_back}
use Rattle.vd_control.proofs.Lawful.{IsSettings, IsWords-zeros, words_of_agree, folded_lawful}
use Rattle.vd_control.proofs.Passing.{kept, passing-none, passing-more}
use Rattle.vd_control.proofs.Words.{IsWords, words_of_same, has_vlan-words_of}

-- ---- what passes below one more

or-false : (b : Bool) → (b || false) ≡ b
or-false true = refl
or-false false = refl

and-false : (b : Bool) → (b && false) ≡ false
and-false true = refl
and-false false = refl

and-true : (b : Bool) → (b && true) ≡ b
and-true true = refl
and-true false = refl

pub one_more : (p : ℕ → Bool) (n v : ℕ) → (nat_lt v (suc n) && p v) ≡ (((v == n) && p n) || (nat_lt v n && p v))
one_more p n v = elim (cases_eq v n) [
  | inl e ↦ ap (λ (b : Bool). b && p v) (lt-ltb v (suc n) (omega arith)) ∙ ap p e ∙ sym (or-false (p n))
      ∙ sym (ap (λ (b : Bool). (b && p n) || false) (eq-eqb v n e))
      ∙ sym (ap (λ (b : Bool). ((v == n) && p n) || (b && p v)) (le-ltb v n (omega arith)))
  | inr ne ↦ ap (λ (b : Bool). b && p v) (same ne) ∙ sym (ap (λ (b : Bool). (b && p n) || (nat_lt v n && p v)) (ne_eqb v n ne))
]
  where
    same : (v ≡ n → ⊥) → nat_lt v (suc n) ≡ nat_lt v n
    same ne = elim (cases_lt v n) [
      | inl h ↦ lt-ltb v (suc n) (omega arith) ∙ sym (lt-ltb v n h)
      | inr h ↦ (let above : suc n ≤ v = omega arith in le-ltb v (suc n) above ∙ sym (le-ltb v n h))
    ]

-- ---- the flags

abbrev pub with_flags : List Bool → List ℕ → List Bool
with_flags flags on = fold (λ r flag. slice_set r flag true) flags on

after_flags : (s : Settings) (on : List ℕ) → fold applied s (map (λ flag. Rx flag true) on) ≡ record s { rx = with_flags s.rx on }
after_flags s [] = refl
after_flags s (flag ∷ on) = after_flags (record s { rx = slice_set s.rx flag true }) on

length-with_flags : (flags : List Bool) (on : List ℕ) → length (with_flags flags on) ≡ length flags
length-with_flags flags [] = refl
length-with_flags flags (flag ∷ on) = length-with_flags (slice_set flags flag true) on ∙ length-set flags flag true

one_flag : (b : Bool) (old : List Bool) (n k : ℕ) → n < length old
    → get_or (with_flags old (kept b n)) k false ≡ (((k == n) && b) || get_or old k false)
one_flag false old n k h = ap (λ (b : Bool). b || get_or old k false) (sym (and-false (k == n)))
one_flag true old n k h = elim (cases_eq k n) [
  | inl e ↦ ap (λ (j : ℕ). get_or (set old n true) j false) e ∙ get_or-set_same old n true false h
      ∙ sym (ap (λ (b : Bool). (b && true) || get_or old k false) (eq-eqb k n e))
  | inr ne ↦ get_or-set_other old n k true false ne ∙ sym (ap (λ (b : Bool). (b && true) || get_or old k false) (ne_eqb k n ne))
]

-- the flags below n that are on are set, the others off
flags_at : (p : ℕ → Bool) (n k : ℕ) → n ≤ 6 → k < 6 → get_or (with_flags (replicate 6 false) (passing p n)) k false ≡ (nat_lt k n && p k)
flags_at p zero k h below = ap (λ (on : List ℕ). get_or (with_flags (replicate 6 false) on) k false) (passing-none p)
    ∙ get_or-replicate {A = Bool} 6 k false false below ∙ ap (λ (b : Bool). b && p k) (sym (le-ltb k 0 (omega arith)))
flags_at p (suc n) k h below =
    let old = with_flags (replicate 6 false) (passing p n) in
    let long : length old ≡ 6 = length-with_flags (replicate 6 false) (passing p n) in
    let step : with_flags (replicate 6 false) (passing p (suc n)) ≡ with_flags old (kept (p n) n) =
    ap (with_flags (replicate 6 false)) (sym (ap (passing p) (add-one n)) ∙ passing-more p n)
    ∙ fold-append (λ r flag. slice_set r flag true) (replicate 6 false) (passing p n) (kept (p n) n) in
    ap (λ (r : List Bool). get_or r k false) step ∙ one_flag (p n) old n k (omega arith)
    ∙ ap (λ (b : Bool). ((k == n) && p n) || b) (flags_at p n k (omega arith) below) ∙ sym (one_more p n k)

flags_back : (flags : List Bool) → length flags ≡ 6 → with_flags (replicate 6 false) (passing (has_flag flags) 6) ≡ flags
flags_back flags six =
    let long : length (with_flags (replicate 6 false) (passing (has_flag flags) 6)) ≡ 6 =
    length-with_flags (replicate 6 false) (passing (has_flag flags) 6) in
    ext_get_or false (with_flags (replicate 6 false) (passing (has_flag flags) 6)) flags (long ∙ sym six)
    (λ i h. flags_at (has_flag flags) 6 i (omega arith) (omega arith) ∙ ap (λ (b : Bool). b && has_flag flags i)
    (lt-ltb i 6 (omega arith)))

-- ---- the address

zeros_are : (mac : List ℕ) → is_zeros mac ≡ true → mac ≡ replicate (length mac) 0
zeros_are [] e = refl
zeros_are (byte ∷ mac) e =
    let both = and_parts (byte == 0) (is_zeros mac) e in
    ap (λ (x : ℕ). x ∷ mac) (eqb-true byte 0 both.0) ∙ ap (λ (xs : List ℕ). 0 ∷ xs) (zeros_are mac both.1)

-- ---- the VLANs

abbrev pub with_vlans : List ℕ → List ℕ → List ℕ
with_vlans words vlans = fold (λ ws vlan. words_of (λ v. (v == vlan) || has_vlan ws v)) words vlans

after_vlans : (s : Settings) (vlans : List ℕ) → fold applied s (map VlanAdd vlans) ≡ record s { vlans = with_vlans s.vlans vlans }
after_vlans s [] = refl
after_vlans s (vlan ∷ vlans) = after_vlans (record s { vlans = words_of (λ v. (v == vlan) || has_vlan s.vlans v) }) vlans

no_vlan : (v : ℕ) → v < 4096 → has_vlan (replicate 64 0) v ≡ false
no_vlan v h = ap (λ (w : ℕ). has_bit w (v % 64)) (get_or-replicate {A = ℕ} 64 (v / 64) 0 0 (omega arith))
    ∙ ap (λ (x : ℕ). x == 1) (bit_at-zero (v % 64))

one_vlan : (b : Bool) (p : ℕ → Bool) (n : ℕ) → with_vlans (words_of p) (kept b n) ≡ words_of (λ v. ((v == n) && b) || p v)
one_vlan false p n = words_of_agree p (λ v. ((v == n) && false) || p v) (λ v low. ap (λ (b : Bool). b || p v) (sym (and-false (v == n))))
one_vlan true p n = words_of_agree (λ v. (v == n) || has_vlan (words_of p) v) (λ v. ((v == n) && true) || p v) (λ v low.
    ap (λ (b : Bool). (v == n) || b) (has_vlan-words_of p v low) ∙ ap (λ (b : Bool). b || p v) (sym (and-true (v == n))))

-- the VLANs below n that pass are there, and no others
vlans_are : (p : ℕ → Bool) (n : ℕ) → n ≤ 4096 → with_vlans (replicate 64 0) (passing p n) ≡ words_of (λ v. nat_lt v n && p v)
vlans_are p zero h =
    ap (with_vlans (replicate 64 0)) (passing-none p)
    ∙ words_of_same (replicate 64 0) (λ v. nat_lt v 0 && p v) IsWords-zeros
    (λ v low. no_vlan v low ∙ ap (λ (b : Bool). b && p v) (sym (le-ltb v 0 (omega arith))))
vlans_are p (suc n) h =
    ap (with_vlans (replicate 64 0)) (sym (ap (passing p) (add-one n)) ∙ passing-more p n)
    ∙ fold-append (λ ws vlan. words_of (λ v. (v == vlan) || has_vlan ws v)) (replicate 64 0) (passing p n) (kept (p n) n)
    ∙ ap (λ (ws : List ℕ). with_vlans ws (kept (p n) n)) (vlans_are p n (omega arith))
    ∙ one_vlan (p n) (λ v. nat_lt v n && p v) n
    ∙ words_of_agree (λ v. ((v == n) && p n) || (nat_lt v n && p v)) (λ v. nat_lt v (suc n) && p v) (λ v low. sym (one_more p n v))

vlans_back : (words : List ℕ) → IsWords words → with_vlans (replicate 64 0) (passing (has_vlan words) 4096) ≡ words
vlans_back words is =
    vlans_are (has_vlan words) 4096 (omega arith)
    ∙ sym (words_of_same words (λ v. nat_lt v 4096 && has_vlan words v) is
    (λ v h. ap (λ (b : Bool). b && has_vlan words v) (sym (lt-ltb v 4096 h))))

-- ---- the whole list

both_parts : (s t u : Settings) (xs ys : List Command) → fold applied s xs ≡ t → fold applied t ys ≡ u → fold applied s (xs ++ ys) ≡ u
both_parts s t u xs ys a b = fold-append applied s xs ys ∙ ap (λ (x : Settings). fold applied x ys) a ∙ b

abbrev made : List Bool → List ℕ → List ℕ → ℕ → ℕ → Settings
made rx mac vlans pairs offloads = record { rx = rx; mac = mac; vlans = vlans; pairs = pairs; offloads = offloads }

address_back : (b : Bool) (rx : List Bool) (mac old words : List ℕ) (pairs offloads : ℕ) → (b ≡ true → old ≡ mac)
    → fold applied (made rx old words pairs offloads) (unless b (Mac mac)) ≡ made rx mac words pairs offloads
address_back true rx mac old words pairs offloads h = ap (λ (m : List ℕ). made rx m words pairs offloads) (h refl)
address_back false rx mac old words pairs offloads h = refl

pairs_back : (b : Bool) (rx : List Bool) (mac words : List ℕ) (pairs old offloads : ℕ) → (b ≡ true → old ≡ pairs)
    → fold applied (made rx mac words old offloads) (unless b (Pairs pairs)) ≡ made rx mac words pairs offloads
pairs_back true rx mac words pairs old offloads h = ap (λ (n : ℕ). made rx mac words n offloads) (h refl)
pairs_back false rx mac words pairs old offloads h = refl

offloads_back : (b : Bool) (rx : List Bool) (mac words : List ℕ) (pairs offloads old : ℕ) → (b ≡ true → old ≡ offloads)
    → fold applied (made rx mac words pairs old) (unless b (Offloads offloads)) ≡ made rx mac words pairs offloads
offloads_back true rx mac words pairs offloads old h = ap (λ (n : ℕ). made rx mac words pairs n) (h refl)
offloads_back false rx mac words pairs offloads old h = refl

from_made : (s : Settings) → IsSettings s → fold applied (made (replicate 6 false) (replicate 6 0) (replicate 64 0) 1 0) (replay s) ≡ s
unfolding replay
from_made s is =
    let on = passing (has_flag s.rx) 6 in
    let vlans = passing (has_vlan s.vlans) 4096 in
    let last = unless (s.offloads == 0) (Offloads s.offloads) in
    let fourth = unless (s.pairs == 1) (Pairs s.pairs) ++ last in
    let third = map VlanAdd vlans ++ fourth in
    let second = unless (is_zeros s.mac) (Mac s.mac) ++ third in
    let none : List ℕ = replicate 64 0 in
    both_parts (made (replicate 6 false) (replicate 6 0) none 1 0) (made s.rx (replicate 6 0) none 1 0) s
    (map (λ flag. Rx flag true) on) second
    (after_flags (made (replicate 6 false) (replicate 6 0) none 1 0) on ∙ ap (λ (r : List Bool). made r (replicate 6 0) none 1 0)
    (flags_back s.rx is.flags))
    (both_parts (made s.rx (replicate 6 0) none 1 0) (made s.rx s.mac none 1 0) s (unless (is_zeros s.mac) (Mac s.mac)) third
    (address_back (is_zeros s.mac) s.rx s.mac (replicate 6 0) none 1 0 (λ e. ap (λ (n : ℕ). replicate n 0) (sym is.mac)
    ∙ sym (zeros_are s.mac e)))
    (both_parts (made s.rx s.mac none 1 0) (made s.rx s.mac s.vlans 1 0) s (map VlanAdd vlans) fourth
    (after_vlans (made s.rx s.mac none 1 0) vlans ∙ ap (λ (ws : List ℕ). made s.rx s.mac ws 1 0) (vlans_back s.vlans is.vlans))
    (both_parts (made s.rx s.mac s.vlans 1 0) (made s.rx s.mac s.vlans s.pairs 0) s (unless (s.pairs == 1) (Pairs s.pairs)) last
    (pairs_back (s.pairs == 1) s.rx s.mac s.vlans s.pairs 1 0 (λ e. sym (eqb-true s.pairs 1 e)))
    (offloads_back (s.offloads == 0) s.rx s.mac s.vlans s.pairs s.offloads 0 (λ e. sym (eqb-true s.offloads 0 e))))))

-- the replay list of lawful settings sets them from the default
pub commands_come_back : (s : Settings) → IsSettings s → after (replay s) ≡ s
unfolding default
commands_come_back s is = from_made s is

-- ---- over the bytes

last_below : (b : Bool) (n : ℕ) → All (λ v. v < suc n) (kept b n)
last_below true n = All-cons (λ v. v < suc n) n [] (omega arith) (All-nil (λ v. v < suc n))
last_below false n = All-nil (λ v. v < suc n)

numbers_below : (p : ℕ → Bool) (n : ℕ) → All (λ v. v < n) (passing p n)
numbers_below p zero = subst (All (λ v. v < 0)) (sym (passing-none p)) (All-nil (λ v. v < 0))
numbers_below p (suc n) =
    subst (All (λ v. v < suc n)) (sym (passing-more p n) ∙ ap (passing p) (add-one n))
    (All-append (λ v. v < suc n) (passing p n) (kept (p n) n)
    (All-weaker (λ v. v < n) (λ v. v < suc n) (λ v h. omega arith) (passing p n) (numbers_below p n)) (last_below (p n) n))

read_all : (cs : List Command) → All IsCommand cs → filter_map command (map spelled cs) ≡ cs
read_all [] h = refl
read_all (c ∷ cs) h =
    ap (λ (o : Option Command). cons_option o (filter_map command (map spelled cs))) (read_back c (All-head IsCommand c cs h))
    ∙ ap (λ (rest : List Command). c ∷ rest) (read_all cs (All-tail IsCommand c cs h))

unless_lawful : (b : Bool) (c : Command) → IsCommand c → All IsCommand (unless b c)
unless_lawful true c h = All-nil IsCommand
unless_lawful false c h = All-cons IsCommand c [] h (All-nil IsCommand)

replay_lawful : (s : Settings) → IsSettings s → All IsCommand (replay s)
unfolding replay
replay_lawful s is =
    All-append IsCommand (map (λ flag. Rx flag true) (passing (has_flag s.rx) 6)) _
    (All-map IsCommand (λ flag. Rx flag true) (passing (has_flag s.rx) 6) (numbers_below (has_flag s.rx) 6))
    (All-append IsCommand (unless (is_zeros s.mac) (Mac s.mac)) _ (unless_lawful (is_zeros s.mac) (Mac s.mac) is.mac)
    (All-append IsCommand (map VlanAdd (passing (has_vlan s.vlans) 4096)) _
    (All-map IsCommand VlanAdd (passing (has_vlan s.vlans) 4096)
    (All-weaker (λ v. v < 4096) (λ v. v ≤ 4095) (λ v h. omega arith) (passing (has_vlan s.vlans) 4096)
    (numbers_below (has_vlan s.vlans) 4096)))
    (All-append IsCommand (unless (s.pairs == 1) (Pairs s.pairs)) _ (unless_lawful (s.pairs == 1) (Pairs s.pairs) is.pairs)
    (unless_lawful (s.offloads == 0) (Offloads s.offloads) is.offloads))))

pub bytes_come_back : (s : Settings) → IsSettings s → folded (map spelled (replay s)) ≡ s
bytes_come_back s is = ap after (read_all (replay s) (replay_lawful s is)) ∙ commands_come_back s is

pub folds_come_back : FoldsComeBack
folds_come_back strings small = let is = folded_lawful strings small in (is.pairs, bytes_come_back (folded strings) is)
