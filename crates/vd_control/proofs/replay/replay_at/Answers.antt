-- The part that holds place i is told by the lengths of the parts before it.
use Rattle.std.proofs.Common.{◌≡◌, ◌-◌, ◌==◌, Bool, not, ap, ◌∙◌, arith}
use Rattle.std.specs.Int.{from_bool}
use Rattle.vd_control.specs.Settings.{is_zeros}
use Rattle.vd_control.proofs.Places.{length-replay, at_flag, at_address, at_vlan, at_pairs, at_offloads, counts, from_bool-le}
use Rattle.vd_control.proofs.replay.replay_at.Goals as goal

pub returns-then-i-flags-clause-value : goal.returns-then-i-flags-clause-value
returns-then-i-flags-clause-value c = at_flag c.args.s.now c.args.i c.nth.result c.nth.ensures.value

pub returns-then-i-flags-2-clause-value : goal.returns-then-i-flags-2-clause-value
returns-then-i-flags-2-clause-value c =
    let s = c.args.s.now in
    let address : c.from-addresses.result ≡ from_bool (not (is_zeros s.mac)) =
    c.from-addresses.ensures ∙ ap (λ (b : Bool). from_bool (not b)) c.is_zeros.ensures in
    let one = from_bool-le (not (is_zeros s.mac)) in
    at_address s c.args.i (omega arith) (counts (is_zeros s.mac) (omega arith))

pub returns-then-i-flags-3-clause-value : goal.returns-then-i-flags-3-clause-value
returns-then-i-flags-3-clause-value c =
    let s = c.args.s.now in
    let address : c.from-addresses.result ≡ from_bool (not (is_zeros s.mac)) =
    c.from-addresses.ensures ∙ ap (λ (b : Bool). from_bool (not b)) c.is_zeros.ensures in
    at_vlan s c.args.i (c.args.i - c.count-flags.result - c.from-addresses.result) c.nth-then-i-flags-3.result
    (omega arith) c.nth-then-i-flags-3.ensures.value

pub returns-then-i-flags-4-clause-value : goal.returns-then-i-flags-4-clause-value
returns-then-i-flags-4-clause-value c =
    let s = c.args.s.now in
    let address : c.from-addresses.result ≡ from_bool (not (is_zeros s.mac)) =
    c.from-addresses.ensures ∙ ap (λ (b : Bool). from_bool (not b)) c.is_zeros.ensures in
    let one = from_bool-le (not (s.pairs == 1)) in
    at_pairs s c.args.i (omega arith) (counts (s.pairs == 1) (omega arith))

pub returns-clause-value : goal.returns-clause-value
returns-clause-value c =
    let s = c.args.s.now in
    let address : c.from-addresses.result ≡ from_bool (not (is_zeros s.mac)) =
    c.from-addresses.ensures ∙ ap (λ (b : Bool). from_bool (not b)) c.is_zeros.ensures in
    let one = from_bool-le (not (s.offloads == 0)) in
    let whole = length-replay s in
    at_offloads s c.args.i (omega arith) (counts (s.offloads == 0) (omega arith))
