use Rattle.std.proofs.Common.{◌≡◌}
use Rattle.std.specs.Prelude.{flat_map}
use Rattle.vd_control.specs.Settings.{has_vlan, passing}
use Rattle.vd_runner.specs.CommandReport.{vlan_line}
use Rattle.vd_runner.proofs.ControlLines.{vlans_from}
use Rattle.vd_runner.proofs.Midway.{Midway}
use Rattle.vd_runner.proofs.control.put_vlans.Given as goal

abbrev pub invariant-loop-vlan : goal.invariant-loop-vlan
invariant-loop-vlan g l = record {
  midway : Midway (g.K.Sink.held l.fn.sink) (g.K.Sink.held l.sink) (flat_map vlan_line (passing (has_vlan l.vlans) 4096))
      (vlans_from (has_vlan l.vlans) l.vlan 4096);
  same : g.K.Sink.faults l.sink ≡ g.K.Sink.faults l.fn.sink;
}
