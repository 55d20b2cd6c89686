-- Where each command stands in the list that sets settings again.
use Rattle.std.proofs.Common.{◌≡◌, ℕ, ◌+◌, ◌<◌, ◌==◌, List, ◌++◌, length, map, refl, Bool, true, false, not, ap, sym, ◌∙◌, Some, slice_get, length-append, arith, ◌≤◌}
use Rattle.std.specs.Int.{from_bool}
use Rattle.std.proofs.lemmas.List.{length-map}
use Rattle.vd_control.specs.declared.command.Command.{Command}
use Rattle.vd_control.specs.declared.command.Command.TheVariants.{Rx, Mac, VlanAdd, Pairs, Offloads}
use Rattle.vd_control.specs.declared.settings.Settings.{Settings}
use Rattle.vd_control.specs.Settings.{has_flag, has_vlan, is_zeros, passing, replay, unless}
use Rattle.vd_control.proofs.Passing.{get_left, get_right, get_map}

length-unless : (b : Bool) (c : Command) → length (unless b c) ≡ from_bool (not b)
length-unless true c = refl
length-unless false c = refl

-- the list from a place on
abbrev last_part : Settings → List Command
last_part s = unless (s.pairs == 1) (Pairs s.pairs) ++ unless (s.offloads == 0) (Offloads s.offloads)

abbrev vlan_part : Settings → List Command
vlan_part s = map VlanAdd (passing (has_vlan s.vlans) 4096) ++ last_part s

abbrev address_part : Settings → List Command
address_part s = unless (is_zeros s.mac) (Mac s.mac) ++ vlan_part s

abbrev pub flags_len : Settings → ℕ
flags_len s = length (passing (has_flag s.rx) 6)

abbrev pub vlans_len : Settings → ℕ
vlans_len s = length (passing (has_vlan s.vlans) 4096)

length-last_part : (s : Settings) → length (last_part s) ≡ from_bool (not (s.pairs == 1)) + from_bool (not (s.offloads == 0))
length-last_part s =
    let a = length-append (unless (s.pairs == 1) (Pairs s.pairs)) (unless (s.offloads == 0) (Offloads s.offloads)) in
    let b = length-unless (s.pairs == 1) (Pairs s.pairs) in
    let c = length-unless (s.offloads == 0) (Offloads s.offloads) in
    omega arith

length-vlan_part : (s : Settings) → length (vlan_part s) ≡ vlans_len s
    + (from_bool (not (s.pairs == 1)) + from_bool (not (s.offloads == 0)))
length-vlan_part s =
    let a = length-append (map VlanAdd (passing (has_vlan s.vlans) 4096)) (last_part s) in
    let b = length-map (passing (has_vlan s.vlans) 4096) VlanAdd in
    let c = length-last_part s in
    omega arith

length-address_part : (s : Settings) → length (address_part s) ≡ from_bool (not (is_zeros s.mac))
    + (vlans_len s + (from_bool (not (s.pairs == 1)) + from_bool (not (s.offloads == 0))))
length-address_part s =
    let a = length-append (unless (is_zeros s.mac) (Mac s.mac)) (vlan_part s) in
    let b = length-unless (is_zeros s.mac) (Mac s.mac) in
    let c = length-vlan_part s in
    omega arith

pub length-replay : (s : Settings)
    → length (replay s) ≡ flags_len s
    + (from_bool (not (is_zeros s.mac)) + (vlans_len s + (from_bool (not (s.pairs == 1)) + from_bool (not (s.offloads == 0)))))
unfolding replay
length-replay s =
    let a = length-append (map (λ flag. Rx flag true) (passing (has_flag s.rx) 6)) (address_part s) in
    let b = length-map (passing (has_flag s.rx) 6) (λ flag. Rx flag true) in
    let c = length-address_part s in
    omega arith

-- past the first part, whose length is known
past : (xs ys : List Command) (n i : ℕ) (c : Command) → length xs ≡ n → slice_get ys i ≡ Some c → slice_get (xs ++ ys) (n + i) ≡ Some c
past xs ys n i c e h = ap (λ (k : ℕ). slice_get (xs ++ ys) (k + i)) (sym e) ∙ get_right xs ys i ∙ h

here : (b : Bool) (c : Command) → b ≡ false → slice_get (unless b c) 0 ≡ Some c
here b c e = ap (λ (x : Bool). slice_get (unless x c) 0) e

flags_past : (s : Settings) (i : ℕ) (c : Command) → slice_get (address_part s) i ≡ Some c → slice_get (replay s) (flags_len s + i) ≡ Some c
unfolding replay
flags_past s i c h = past (map (λ flag. Rx flag true) (passing (has_flag s.rx) 6)) (address_part s) (flags_len s) i c
    (length-map (passing (has_flag s.rx) 6) (λ flag. Rx flag true)) h

vlans_past : (s : Settings) (i : ℕ) (c : Command) → slice_get (last_part s) i ≡ Some c
    → slice_get (replay s) (flags_len s + (from_bool (not (is_zeros s.mac)) + (vlans_len s + i))) ≡ Some c
vlans_past s i c h =
    flags_past s (from_bool (not (is_zeros s.mac)) + (vlans_len s + i)) c
    (past (unless (is_zeros s.mac) (Mac s.mac)) (vlan_part s) (from_bool (not (is_zeros s.mac))) (vlans_len s + i) c
    (length-unless (is_zeros s.mac) (Mac s.mac))
    (past (map VlanAdd (passing (has_vlan s.vlans) 4096)) (last_part s) (vlans_len s) i c
    (length-map (passing (has_vlan s.vlans) 4096) VlanAdd) h))

pub at_flag : (s : Settings) (i flag : ℕ) → slice_get (passing (has_flag s.rx) 6) i ≡ Some flag
    → slice_get (replay s) i ≡ Some (Rx flag true)
unfolding replay
at_flag s i flag h =
    get_left (map (λ f. Rx f true) (passing (has_flag s.rx) 6)) (address_part s) i (Rx flag true)
    (get_map (λ f. Rx f true) (passing (has_flag s.rx) 6) i flag h)

pub at_address : (s : Settings) (i : ℕ) → i ≡ flags_len s + 0 → is_zeros s.mac ≡ false → slice_get (replay s) i ≡ Some (Mac s.mac)
at_address s i e some =
    ap (slice_get (replay s)) e ∙ flags_past s 0 (Mac s.mac) (get_left (unless (is_zeros s.mac) (Mac s.mac)) (vlan_part s) 0 (Mac s.mac)
    (here (is_zeros s.mac) (Mac s.mac) some))

pub at_vlan : (s : Settings) (i j vlan : ℕ) → i ≡ flags_len s + (from_bool (not (is_zeros s.mac)) + j)
    → slice_get (passing (has_vlan s.vlans) 4096) j ≡ Some vlan → slice_get (replay s) i ≡ Some (VlanAdd vlan)
at_vlan s i j vlan e h =
    ap (slice_get (replay s)) e
    ∙ flags_past s (from_bool (not (is_zeros s.mac)) + j) (VlanAdd vlan)
    (past (unless (is_zeros s.mac) (Mac s.mac)) (vlan_part s) (from_bool (not (is_zeros s.mac))) j (VlanAdd vlan)
    (length-unless (is_zeros s.mac) (Mac s.mac))
    (get_left (map VlanAdd (passing (has_vlan s.vlans) 4096)) (last_part s) j (VlanAdd vlan)
    (get_map VlanAdd (passing (has_vlan s.vlans) 4096) j vlan h)))

pub at_pairs : (s : Settings) (i : ℕ) → i ≡ flags_len s + (from_bool (not (is_zeros s.mac)) + (vlans_len s + 0))
    → (s.pairs == 1) ≡ false → slice_get (replay s) i ≡ Some (Pairs s.pairs)
at_pairs s i e some =
    ap (slice_get (replay s)) e
    ∙ vlans_past s 0 (Pairs s.pairs)
    (get_left (unless (s.pairs == 1) (Pairs s.pairs)) (unless (s.offloads == 0) (Offloads s.offloads)) 0 (Pairs s.pairs)
    (here (s.pairs == 1) (Pairs s.pairs) some))

pub at_offloads : (s : Settings) (i : ℕ)
    → i ≡ flags_len s + (from_bool (not (is_zeros s.mac)) + (vlans_len s + (from_bool (not (s.pairs == 1)) + 0)))
    → (s.offloads == 0) ≡ false → slice_get (replay s) i ≡ Some (Offloads s.offloads)
at_offloads s i e some =
    ap (slice_get (replay s)) e
    ∙ vlans_past s (from_bool (not (s.pairs == 1)) + 0) (Offloads s.offloads)
    (past (unless (s.pairs == 1) (Pairs s.pairs)) (unless (s.offloads == 0) (Offloads s.offloads))
    (from_bool (not (s.pairs == 1))) 0 (Offloads s.offloads) (length-unless (s.pairs == 1) (Pairs s.pairs))
    (here (s.offloads == 0) (Offloads s.offloads) some))

-- a command that counts isn't left out
pub counts : (b : Bool) → 0 < from_bool (not b) → b ≡ false
counts true h = absurd (omega arith)
counts false h = refl

pub from_bool-le : (b : Bool) → from_bool b ≤ 1
from_bool-le true = omega arith
from_bool-le false = omega arith
