use Rattle.std.proofs.Common.{◌≤◌, ap, arith, length, length-append, Ok}
use Rattle.vd_uapi.specs.Bytes.{vring_state_bytes}
use Rattle.vd_uapi.proofs.Inverses.{length-vring_state, state_is}
use Rattle.vd_uapi.proofs.FaultLaws.{not_short}
use Rattle.vd_uapi.proofs.vring_state.VringState.read.Goals as goal

pub returns-in_err-check_length-clause-inverse : goal.returns-in_err-check_length-clause-inverse
returns-in_err-check_length-clause-inverse c v rest fits spelled =
    let long : 8 ≤ length c.args.bytes.now =
    omega (arith, ap length spelled, length-append (vring_state_bytes v) rest, length-vring_state v) in
    absurd (not_short 8 c.args.bytes.now _ long c.in_err-check_length.ensures)

pub returns-clause-inverse : goal.returns-clause-inverse
returns-clause-inverse c v rest fits spelled =
    ap Ok (state_is v c.args.bytes.now rest c.u32_at.result c.u32_at-2.result fits spelled c.u32_at.ensures.number
    c.u32_at-2.ensures.number)
