use Rattle.std.proofs.Common.{ℕ, List}
use Rattle.vd_model.specs.declared.base.Mode.{Mode}
use Rattle.vd_model.specs.declared.map.Mapping.{Mapping}
use Rattle.vd_machine.proofs.Facts.{size_bounds}
use Rattle.vd_machine.specs.File.{view, Plan}
use Rattle.vd_play.specs.Journal.{map_in}
use Rattle.vd_play.proofs.RingsSet.{rings_kept, rings_mapped}
use Rattle.vd_play.proofs.Setups.{rings_ready, rings_sized, begun_is, driver_ok, ready_first}
use Rattle.vd_play.proofs.setup.begin.Goals as goal

pub set_bases-requires-clause-sizes : goal.set_bases-requires-clause-sizes
set_bases-requires-clause-sizes g c =
    let plan : Plan = view c.args.m.now in
    let m : Mode = c.args.mode in
    let k : ℕ = c.args.epoch in
    rings_sized plan m k c.map_regions.new.bus (rings_mapped plan m k (map_in plan m) c.bring_up.new.bus c.map_regions.new.bus
    c.map_regions.ensures c.bring_up.ensures.rings)

pub set_status-requires : goal.set_status-requires
set_status-requires g c =
    let plan : Plan = view c.args.m.now in
    let m : Mode = c.args.mode in
    let k : ℕ = c.args.epoch in
    let ms : List Mapping = map_in plan m in
    let mapped = rings_mapped plan m k ms c.bring_up.new.bus c.map_regions.new.bus c.map_regions.ensures c.bring_up.ensures.rings in
    let kept = rings_kept plan m k c.map_regions.new.bus c.set_bases.new.bus c.set_bases.ensures.keeps mapped in
    driver_ok plan ms c.set_bases.new.bus
    (begun_is plan ms c.bring_up.new.bus c.map_regions.new.bus c.set_bases.new.bus c.bring_up.ensures.brought c.map_regions.ensures
    c.set_bases.ensures.same)
    (rings_ready plan m k c.set_bases.new.bus (size_bounds c.args.m.now.packed c.args.m.now.size c.args.m.now.sized).0 kept)

pub returns : goal.returns
returns g c =
    let plan : Plan = view c.args.m.now in
    let m : Mode = c.args.mode in
    let k : ℕ = c.args.epoch in
    let ms : List Mapping = map_in plan m in
    let mapped = rings_mapped plan m k ms c.bring_up.new.bus c.map_regions.new.bus c.map_regions.ensures c.bring_up.ensures.rings in
    let kept = rings_kept plan m k c.map_regions.new.bus c.set_bases.new.bus c.set_bases.ensures.keeps mapped in
    ready_first g.L.Device.DeviceEnd.device g.L.Layout.layout.fresh_base plan m k c.args.lanes.now c.set_bases.new.bus
    c.set_status.new.bus
    (begun_is plan ms c.bring_up.new.bus c.map_regions.new.bus c.set_bases.new.bus c.bring_up.ensures.brought c.map_regions.ensures
    c.set_bases.ensures.same) kept c.set_bases.ensures.bases c.set_bases.ensures.control c.set_status.ensures
