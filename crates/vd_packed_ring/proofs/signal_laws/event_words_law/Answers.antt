use Rattle.std.proofs.Common.{refl}
use Rattle.vd_packed_ring.proofs.Bells.{arm_word_is}
use Rattle.vd_packed_ring.proofs.signal_laws.event_words_law.Goals as goal

pub returns-clause-armed : goal.returns-clause-armed
returns-clause-armed c = arm_word_is

pub returns-clause-off : goal.returns-clause-off
returns-clause-off c = λ n. refl
