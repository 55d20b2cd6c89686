use Rattle.std.proofs.Common.{arith}
use Rattle.vd_commands.proofs.Filled.{bytes_come_back}
use Rattle.vd_commands.proofs.words.words_come_back.Goals as goal

pub returns : goal.returns
returns c = bytes_come_back c.args.bytes.now (omega arith) (λ i. omega (arith, c.type_inv.bytes i))
