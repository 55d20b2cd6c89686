use Rattle.std.proofs.Common.{[], true}
use Rattle.vd_model.specs.declared.base.Mode.{Mode}
use Rattle.vd_machine.specs.File.{view, Plan}
use Rattle.vd_play.specs.Journal.{map_in}
use Rattle.vd_play.proofs.RingsSet.{rings_kept, rings_mapped, sizes_suspended}
use Rattle.vd_play.proofs.Setups.{rings_sized}
use Rattle.vd_play.proofs.Switches.{ready_later}
use Rattle.vd_play.proofs.setup.switch.Goals as goal

pub set_addrs-requires-clause-sizes : goal.set_addrs-requires-clause-sizes
set_addrs-requires-clause-sizes g c =
    sizes_suspended (view c.args.m.now) true c.args.bus.now c.suspend.new.bus c.suspend.ensures c.requires.sizes

pub set_bases-requires-clause-sizes : goal.set_bases-requires-clause-sizes
set_bases-requires-clause-sizes g c =
    let plan : Plan = view c.args.m.now in
    let m : Mode = c.args.mode in
    let unmapped = rings_mapped plan m c.args.epoch [] c.set_addrs.new.bus c.unmap_regions.new.bus c.unmap_regions.ensures
    c.set_addrs.ensures.rings in
    rings_sized plan m c.args.epoch c.map_regions.new.bus (rings_mapped plan m c.args.epoch (map_in plan m) c.unmap_regions.new.bus
    c.map_regions.new.bus c.map_regions.ensures unmapped)

pub returns : goal.returns
returns g c =
    let plan : Plan = view c.args.m.now in
    let m : Mode = c.args.mode in
    let unmapped = rings_mapped plan m c.args.epoch [] c.set_addrs.new.bus c.unmap_regions.new.bus c.unmap_regions.ensures
    c.set_addrs.ensures.rings in
    let mapped = rings_mapped plan m c.args.epoch (map_in plan m) c.unmap_regions.new.bus c.map_regions.new.bus c.map_regions.ensures
    unmapped in
    let kept = rings_kept plan m c.args.epoch c.map_regions.new.bus c.set_bases.new.bus c.set_bases.ensures.keeps mapped in
    ready_later g.L.Device.DeviceEnd.device g.L.Layout.layout.fresh_base plan c.args.before m c.args.epoch c.args.lanes.now
    c.args.bus.now c.suspend.new.bus c.set_addrs.new.bus c.unmap_regions.new.bus c.map_regions.new.bus c.set_bases.new.bus
    c.resume.new.bus c.requires.up c.suspend.ensures c.set_addrs.ensures.same c.unmap_regions.ensures c.map_regions.ensures
    c.set_bases.ensures.same kept c.set_bases.ensures.bases c.set_bases.ensures.control c.resume.ensures
