use Rattle.std.proofs.Common.{arith}
use Rattle.vd_models.proofs.Lists.{readable_within}
use Rattle.vd_models.proofs.window.len_of.Goals as goal

pub overflow_cast-result : goal.overflow_cast-result
overflow_cast-result c = omega (arith, readable_within c.args.chain.now)
