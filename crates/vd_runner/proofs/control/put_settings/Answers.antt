use Rattle.std.specs.Prelude.{flat_map}
use Rattle.vd_control.specs.Settings.{has_vlan, passing}
use Rattle.vd_runner.specs.CommandReport.{settings_line, settings_lines, vlan_line}
use Rattle.vd_runner.proofs.Midway.{begin, go_on, broken_off, broken_off_last}
use Rattle.vd_runner.proofs.control.put_settings.Goals as goal

pub returns-in-Err-clause-err : goal.returns-in-Err-clause-err
returns-in-Err-clause-err g c =
    let s = c.args.s.now in
    broken_off _ _ _ (settings_lines s) (settings_line s) (flat_map vlan_line (passing (has_vlan s.vlans) 4096)) (begin _ _)
    (rw c.settings_line.ensures at c.in-Err.ensures.err)

pub returns-in-Err-put_vlans-clause-err : goal.returns-in-Err-put_vlans-clause-err
returns-in-Err-put_vlans-clause-err g c =
    let s = c.args.s.now in
    let rest = flat_map vlan_line (passing (has_vlan s.vlans) 4096) in
    let first = go_on _ _ _ (settings_lines s) (settings_line s) rest (begin _ _) (rw c.settings_line.ensures at c.in-Ok.ensures.ok) in
    broken_off_last _ _ _ (settings_lines s) rest first c.in-Err-put_vlans.ensures.err
