use Rattle.std.proofs.Common.{◌≤◌, ap, arith, length, length-append, Ok}
use Rattle.vd_uapi.specs.Bytes.{vring_addr_bytes}
use Rattle.vd_uapi.proofs.Inverses.{length-vring_addr, addr_is}
use Rattle.vd_uapi.proofs.FaultLaws.{not_short}
use Rattle.vd_uapi.proofs.vring_addr.VringAddr.read.Goals as goal

pub returns-in_err-check_length-clause-inverse : goal.returns-in_err-check_length-clause-inverse
returns-in_err-check_length-clause-inverse c v rest fits spelled =
    let long : 40 ≤ length c.args.bytes.now =
    omega (arith, ap length spelled, length-append (vring_addr_bytes v) rest, length-vring_addr v) in
    absurd (not_short 40 c.args.bytes.now _ long c.in_err-check_length.ensures)

pub returns-clause-inverse : goal.returns-clause-inverse
returns-clause-inverse c v rest fits spelled =
    ap Ok (addr_is v c.args.bytes.now rest c.u32_at.result c.u32_at-2.result c.u64_at.result c.u64_at-2.result c.u64_at-3.result
    c.u64_at-4.result
    fits spelled c.u32_at.ensures.number c.u32_at-2.ensures.number c.u64_at.ensures.number c.u64_at-2.ensures.number
    c.u64_at-3.ensures.number
    c.u64_at-4.ensures.number)
