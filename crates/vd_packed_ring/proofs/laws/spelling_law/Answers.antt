use Rattle.vd_packed_ring.proofs.Spelling.{spells, spells_untaken, described_stands}
use Rattle.vd_packed_ring.proofs.laws.spelling_law.Goals as goal

pub returns-clause-untaken : goal.returns-clause-untaken
returns-clause-untaken c = spells_untaken

pub returns-clause-ahead : goal.returns-clause-ahead
returns-clause-ahead c = spells

pub returns-clause-descriptors : goal.returns-clause-descriptors
returns-clause-descriptors c = described_stands
