use Rattle.std.proofs.Common.{rules}
use Rattle.vd_seats.proofs.table.RingTable.close.Goals as goal

pub returns : goal.returns
returns g c = λ v w is is'. record {
  met = c.meet.ensures v w is is';
  offered = search rules;
  taken = search rules;
  given = search rules;
  collected = search rules;
}
