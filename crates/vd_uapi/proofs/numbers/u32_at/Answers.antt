use Rattle.std.proofs.Common.{arith}
use Rattle.vd_uapi.proofs.ByteLaws.{read_number, read_spelled}
use Rattle.vd_uapi.proofs.numbers.u32_at.Goals as goal

pub returns-clause-number : goal.returns-clause-number
returns-clause-number c = read_number 4 _ _ _ c.read_u32.ensures

pub returns-clause-spelled : goal.returns-clause-spelled
returns-clause-spelled c = read_spelled 4 _ _ _ (λ k. omega (arith, c.type_inv.bytes k)) c.requires c.read_u32.ensures
