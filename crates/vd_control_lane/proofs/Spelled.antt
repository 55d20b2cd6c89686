-- The commands of a replay list can be spelled, where commands of bytes have left the settings.
use Rattle.std.proofs.Common.{ℕ, zero, suc, ◌+◌, ◌<◌, ◌≤◌, ◌==◌, ◌≡◌, List, [], ◌∷◌, ◌++◌, map, Bool, true, false, sym, subst, arith, if◌then◌else◌}
use Rattle.std.specs.List.{All}
use Rattle.std.specs.Int.{w16, w64, to_le_bytes, byte_at, bytes_low_first}
use Rattle.std.proofs.lemmas.List.Elements.{All-nil, All-cons, All-head, All-tail, All-append}
use Rattle.vd_control.specs.declared.command.Command.{Command}
use Rattle.vd_control.specs.declared.command.Command.TheVariants.{Rx, Mac, VlanAdd, Pairs, Offloads}
use Rattle.vd_control.specs.declared.settings.Settings.{Settings}
use Rattle.vd_control.specs.Settings.{folded, replay, passing, has_flag, has_vlan, is_zeros, unless}
use Rattle.vd_control.proofs.Lawful.{IsSettings, folded_lawful}
use Rattle.vd_control.proofs.Passing.{passing-none, passing-more, kept}
use Rattle.vd_switch.specs.CommandLanes.{IsSpelled}
use Rattle.vd_control_lane.proofs.Macs.{IsByte, folded_bytes}

map_all : {X Y : Type 0} (P : Y → Type 0) (f : X → Y) (xs : List X) → All (λ x. P (f x)) xs → All P (map f xs)
map_all P f [] h = All-nil P
map_all P f (x ∷ xs) h = All-cons P (f x) (map f xs) (All-head (λ y. P (f y)) x xs h) (map_all P f xs (All-tail (λ y. P (f y)) x xs h))

kept_below : (b : Bool) (n end : ℕ) → n < end → All (λ i. i < end) (kept b n)
kept_below true n end low = All-cons (λ i. i < end) n [] low (All-nil (λ i. i < end))
kept_below false n end low = All-nil (λ i. i < end)

-- what passes below n is below it
passing_below : (p : ℕ → Bool) (n end : ℕ) → n ≤ end → All (λ i. i < end) (passing p n)
passing_below p zero end low = subst (All (λ i. i < end)) (sym (passing-none p)) (All-nil (λ i. i < end))
passing_below p (suc n) end low =
    let next : n + 1 ≡ suc n = omega arith in
    subst (λ (k : ℕ). All (λ i. i < end) (passing p k)) next (subst (All (λ i. i < end)) (sym (passing-more p n))
    (All-append (λ i. i < end) (passing p n) (kept (p n) n) (passing_below p n end (omega (arith, low)))
    (kept_below (p n) n end (omega (arith, low)))))

unless_all : (P : Command → Type 0) (b : Bool) (c : Command) → P c → All P (unless b c)
unless_all P true c h = All-nil P
unless_all P false c h = All-cons P c [] h (All-nil P)

one : (b : Bool) → IsByte (if b then 1 else 0)
one true = omega arith
one false = omega arith

one_low : (i n : ℕ) → IsByte (byte_at i n)
one_low zero n = omega arith
one_low (suc i) n = omega arith

low_bytes : (i count n : ℕ) → All IsByte (bytes_low_first i count n)
low_bytes i zero n = All-nil IsByte
low_bytes i (suc count) n = All-cons IsByte (byte_at i n) (bytes_low_first (suc i) count n) (one_low i n) (low_bytes (suc i) count n)

with_front : (class code : ℕ) (bytes : List ℕ) → IsByte class → IsByte code → All IsByte bytes → All IsByte (class ∷ code ∷ bytes)
with_front class code bytes a b h = All-cons IsByte class (code ∷ bytes) a (All-cons IsByte code bytes b h)

pub replay_spelled : (s : Settings) → IsSettings s → All IsByte s.mac → All IsSpelled (replay s)
unfolding replay
replay_spelled s is mac =
    let flags = passing (has_flag s.rx) 6 in let vlans = passing (has_vlan s.vlans) 4096 in
    let last = unless (s.offloads == 0) (Offloads s.offloads) in
    let fourth = unless (s.pairs == 1) (Pairs s.pairs) ++ last in
    let third = map VlanAdd vlans ++ fourth in
    let second = unless (is_zeros s.mac) (Mac s.mac) ++ third in
    let of_last : All IsSpelled last = unless_all IsSpelled (s.offloads == 0) (Offloads s.offloads)
    (record { lawful = is.offloads; bytes = with_front 5 0 (to_le_bytes w64 s.offloads) (omega arith) (omega arith) (low_bytes 0 8 s.offloads) }) in
    let of_fourth : All IsSpelled fourth = All-append IsSpelled (unless (s.pairs == 1) (Pairs s.pairs)) last
    (unless_all IsSpelled (s.pairs == 1) (Pairs s.pairs)
    (record { lawful = is.pairs; bytes = with_front 4 0 (to_le_bytes w16 s.pairs) (omega arith) (omega arith) (low_bytes 0 2 s.pairs) }))
    of_last in
    let of_third : All IsSpelled third = All-append IsSpelled (map VlanAdd vlans) fourth
    (map_all IsSpelled VlanAdd vlans (λ i d low.
    let below = passing_below (has_vlan s.vlans) 4096 4096 (omega arith) i d low in
    record { lawful = omega (arith, below); bytes = with_front 2 0 (to_le_bytes w16 _) (omega arith) (omega arith) (low_bytes 0 2 _) }))
    of_fourth in
    let of_second : All IsSpelled second = All-append IsSpelled (unless (is_zeros s.mac) (Mac s.mac)) third
    (unless_all IsSpelled (is_zeros s.mac) (Mac s.mac)
    (record { lawful = is.mac; bytes = with_front 1 1 s.mac (omega arith) (omega arith) mac }))
    of_third in
    All-append IsSpelled (map (λ flag. Rx flag true) flags) second
    (map_all IsSpelled (λ flag. Rx flag true) flags (λ i d low.
    let below = passing_below (has_flag s.rx) 6 6 (omega arith) i d low in
    record { lawful = below; bytes = with_front 0 _ (1 ∷ []) (omega arith) (omega (arith, below)) (All-cons IsByte 1 [] (omega arith) (All-nil IsByte)) }))
    of_second

pub folds_spelled : (strings : List (List ℕ)) → All (All IsByte) strings → All IsSpelled (replay (folded strings))
folds_spelled strings small = replay_spelled (folded strings) (folded_lawful strings small) (folded_bytes strings small)
