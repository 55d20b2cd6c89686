use Rattle.std.proofs.Common.{List, arith, ap, ◌∙◌}
use Rattle.std.proofs.lemmas.List.{drop_all}
use Rattle.vd_model.specs.declared.map.Mapping.{Mapping}
use Rattle.vd_machine.specs.File.{view, Plan}
use Rattle.vd_play.specs.Journal.{map_in}
use Rattle.vd_play.specs.Setup.{with_map}
use Rattle.vd_play.proofs.Buses.{stands_map}
use Rattle.vd_play.proofs.Mapped.{map_made, map_many}
use Rattle.vd_play.proofs.Maps.{invalidate_granted, invalidated}
use Rattle.vd_play.proofs.messages.unmap_regions.Goals as goal

pub send-requires : goal.send-requires
send-requires c =
    let plan : Plan = view c.args.m.now in
    let v = c.loop-i.invariant in
    invalidate_granted (map_in plan c.args.mode) c.loop-i.i c.mapping_of.result c.mapping_of.ensures plan c.loop-i.bus c.message.result
    (stands_map plan c.args.bus.now c.loop-i.bus _ v c.requires.stands) c.message.ensures (ap (λ z. z.map) v)

pub loop-i-preserved : goal.loop-i-preserved
loop-i-preserved c =
    let plan : Plan = view c.args.m.now in
    invalidated (map_in plan c.args.mode) c.loop-i.i c.mapping_of.result c.mapping_of.ensures c.args.bus.now c.loop-i.bus c.send.new.bus
    c.message.result (map_made plan c.args.mode c.args.tree.now.mappings c.args.m.now.placed c.requires.tree)
    c.message.ensures c.loop-i.invariant c.send.ensures

pub returns : goal.returns
returns c =
    let plan : Plan = view c.args.m.now in
    let ms : List Mapping = map_in plan c.args.mode in
    c.loop-i.invariant ∙ ap (with_map c.args.bus.now)
    (drop_all c.loop-i.i ms (omega (arith, map_many plan c.args.mode c.args.tree.now.mappings c.requires.tree)))
