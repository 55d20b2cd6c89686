use Rattle.std.proofs.Common.{◌≡◌, ◌∙◌, arith, refl, sym}
use Rattle.vd_uapi.specs.Faults.{kind_in, perm_in}
use Rattle.vd_uapi.proofs.FaultLaws.{no_fault, version_is, long_enough}
use Rattle.vd_uapi.proofs.MessageLaws.{perm_is, kind_is, numbers_are, spells}
use Rattle.vd_uapi.proofs.message.Msg.read.Goals as goal

pub returns-in_err-check-clause-inverse : goal.returns-in_err-check-clause-inverse
returns-in_err-check-clause-inverse c m rest known long e =
    let bs = c.args.bytes.now in
    let kind : kind_in bs ≡ m.kind = kind_is m bs rest e in
    let perm : perm_in bs ≡ m.perm = perm_is m bs rest e in
    absurd (no_fault bs _ long (numbers_are m bs rest known e).version (
      omega (arith, kind, known.kind.0),
      omega (arith, kind, known.kind.1),
    )
    (λ u. let up = known.update (sym kind ∙ u) in (omega (arith, perm, up.0), omega (arith, perm, up.1))) c.in_err-check.ensures)

pub returns-clause-only : goal.returns-clause-only
returns-clause-only c =
    let bs = c.args.bytes.now in
    spells _ bs (λ k. omega (arith, c.type_inv.bytes k)) (long_enough bs c.in_ok-check.ensures) (version_is bs c.in_ok-check.ensures)
    c.u32_at.ensures.spelled c.u64_at.ensures.spelled c.u64_at-2.ensures.spelled c.u64_at-3.ensures.spelled refl refl

pub returns-clause-inverse : goal.returns-clause-inverse
returns-clause-inverse c m rest known long e =
    let bs = c.args.bytes.now in
    let n = numbers_are m bs rest known e in
    let asid : c.u32_at.result ≡ m.asid = c.u32_at.ensures.number ∙ n.asid in
    let iova : c.u64_at.result ≡ m.iova = c.u64_at.ensures.number ∙ n.iova in
    let size : c.u64_at-2.result ≡ m.size = c.u64_at-2.ensures.number ∙ n.size in
    let uaddr : c.u64_at-3.result ≡ m.uaddr = c.u64_at-3.ensures.number ∙ n.uaddr in
    rw (asid, iova, size, uaddr, perm_is m bs rest e, kind_is m bs rest e) refl
