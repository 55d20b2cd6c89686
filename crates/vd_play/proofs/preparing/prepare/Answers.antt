use Rattle.std.proofs.Common.{◌≡◌, ◌+◌, ◌++◌, ◌∷◌, [], Some, length, slice_get, arith, sym, subst, refl, ap, ◌∙◌}
use Rattle.std.specs.Vec.{with_item}
use Rattle.std.proofs.lemmas.Option.{slice_get_read}
use Rattle.std.proofs.lemmas.List.{length_push}
use Rattle.std.proofs.lemmas.List.Elements.{All-nil, All-cons, All-append, All-same}
use Rattle.vd_machine.specs.File.{view}
use Rattle.vd_play.specs.declared.floor.Lane.{Lane}
use Rattle.vd_play.specs.Tree.{IsTreeOf}
use Rattle.vd_play.specs.Played.{KeepsBench}
use Rattle.vd_play.specs.Prepared.{IsEmptyGuest, IsEmptyDevice, IsUntouched}
use Rattle.vd_play.proofs.Benches.{keeps_none, keeps_set, keeps_more, lanes_kept, same_many}
use Rattle.vd_play.proofs.Lists.{All-at}
use Rattle.vd_play.specs.Setting.{setting_of}
use Rattle.vd_play.proofs.Untouched.{untouched_start, untouched_set, idle_of, each_none, each_push}
use Rattle.vd_play.proofs.preparing.prepare.Given.{Over}
use Rattle.vd_play.proofs.preparing.prepare.Goals as goal
use Rattle.vd_play.proofs.preparing.prepare.Goals.{After-index_mut-in-loop-i, After-make_lane}

pub returns-in_err-lanes-clause-untouched : goal.returns-in_err-lanes-clause-untouched
returns-in_err-lanes-clause-untouched g c =
    untouched_start g.L.Driver.DriverEnd.driver g.G.Guest.party g.V.Device.party g.met.G.Guest.lawful c.args.bench.now c.requires.empty

pub returns-in_err-tree-clause-untouched : goal.returns-in_err-tree-clause-untouched
returns-in_err-tree-clause-untouched g c =
    untouched_start g.L.Driver.DriverEnd.driver g.G.Guest.party g.V.Device.party g.met.G.Guest.lawful c.args.bench.now c.requires.empty

pub loop-i-init : goal.loop-i-init
loop-i-init g c = record {
  many = ap length c.in_ok-lanes.ensures.items;
  room = (c.in_ok-lanes.ensures.len, omega (arith, c.in_ok-lanes.ensures.capacity, c.len.ensures));
  parties = c.requires.parties;
  keeps = keeps_none g.V.Device.party 0 c.args.bench.now;
  untouched = untouched_start g.L.Driver.DriverEnd.driver g.G.Guest.party g.V.Device.party g.met.G.Guest.lawful c.args.bench.now
      c.requires.empty;
  each = each_none _ c.in_ok-lanes.lanes.items _ _ c.in_ok-lanes.ensures.items;
  none = All-same (λ (lane : Lane _ _ _). lane.relayed ≡ 0) c.in_ok-lanes.lanes.items [] c.in_ok-lanes.ensures.items (All-nil _);
}

-- ---- the next lane

-- its parties stand where they stood
at_guest : (g : Over) (c : After-index_mut-in-loop-i g)
    → slice_get c.args.bench.now.guests.items c.loop-i.i ≡ Some c.index_mut.result.now
at_guest g c =
    sym (c.loop-i.invariant.keeps.other_guests c.loop-i.i (omega arith)) ∙ slice_get_read c.loop-i.bench.guests.items _ c.loop-i.i
    c.index_mut.result.now refl (omega (arith, c.loop-i.invariant.parties.guests)) c.index_mut.ensures.value

at_device : (g : Over) (c : After-index_mut-in-loop-i g)
    → slice_get c.args.bench.now.devices.items c.loop-i.i ≡ Some c.index_mut-in-loop-i.result.now
at_device g c =
    sym (c.loop-i.invariant.keeps.other_devices c.loop-i.i (omega arith)) ∙ slice_get_read c.loop-i.bench.devices.items _ c.loop-i.i
    c.index_mut-in-loop-i.result.now refl (omega (arith, c.loop-i.invariant.parties.devices)) c.index_mut-in-loop-i.ensures.value

-- and are written
keeps_next : (g : Over) (c : After-make_lane g)
    → slice_get c.args.bench.now.devices.items c.loop-i.i ≡ Some c.index_mut-in-loop-i.result.now
    → KeepsBench g.V.Device.party (c.loop-i.i + 1) c.args.bench.now (record {
      guests = with_item c.loop-i.bench.guests c.loop-i.i c.make_lane.new.guest;
      devices = with_item c.loop-i.bench.devices c.loop-i.i c.make_lane.new.device;
    })
keeps_next g c at =
    let i = c.loop-i.i in
    keeps_set g.V.Device.party (i + 1) c.args.bench.now c.loop-i.bench _ i c.make_lane.new.guest c.index_mut-in-loop-i.result.now
    c.make_lane.new.device (omega arith) (keeps_more g.V.Device.party i (i + 1) _ _ (omega arith) c.loop-i.invariant.keeps) refl refl
    (c.loop-i.invariant.keeps.other_devices i (omega arith) ∙ at) c.make_lane.ensures.device.carried

untouched_next : (g : Over) (c : After-make_lane g)
    → slice_get c.args.bench.now.devices.items c.loop-i.i ≡ Some c.index_mut-in-loop-i.result.now
    → IsUntouched g.G.Guest.party g.V.Device.party c.args.bench.now (record {
      guests = with_item c.loop-i.bench.guests c.loop-i.i c.make_lane.new.guest;
      devices = with_item c.loop-i.bench.devices c.loop-i.i c.make_lane.new.device;
    })
untouched_next g c at =
    untouched_set g.G.Guest.party g.V.Device.party c.args.bench.now c.loop-i.bench _ c.loop-i.i c.make_lane.new.guest
    c.index_mut-in-loop-i.result.now c.make_lane.new.device c.loop-i.invariant.untouched refl refl c.make_lane.ensures.guest at
    c.make_lane.ensures.device

pub make_lane-requires-clause-guest : goal.make_lane-requires-clause-guest
make_lane-requires-clause-guest g c =
    All-at (IsEmptyGuest g.G.Guest.party) c.args.bench.now.guests.items c.loop-i.i c.index_mut.result.now
    (at_guest g (goal.at.make_lane-requires-clause-guest g c).After-index_mut-in-loop-i) c.requires.empty.guests

pub make_lane-requires-clause-device : goal.make_lane-requires-clause-device
make_lane-requires-clause-device g c =
    All-at (IsEmptyDevice g.V.Device.party) c.args.bench.now.devices.items c.loop-i.i c.index_mut-in-loop-i.result.now
    (at_device g (goal.at.make_lane-requires-clause-device g c).After-index_mut-in-loop-i) c.requires.empty.devices

pub returns-in_err-lane-clause-keeps : goal.returns-in_err-lane-clause-keeps
returns-in_err-lane-clause-keeps g c =
    let at = goal.at.returns-in_err-lane-clause-keeps g c in
    keeps_more g.V.Device.party (c.loop-i.i + 1) (length c.args.m.now.queues) c.args.bench.now _ (omega arith)
    (keeps_next g at.After-make_lane (at_device g at.After-index_mut-in-loop-i))

pub returns-in_err-lane-clause-untouched : goal.returns-in_err-lane-clause-untouched
returns-in_err-lane-clause-untouched g c =
    let at = goal.at.returns-in_err-lane-clause-untouched g c in
    untouched_next g at.After-make_lane (at_device g at.After-index_mut-in-loop-i)

pub loop-i-preserved : goal.loop-i-preserved
loop-i-preserved g c =
    let at = goal.at.loop-i-preserved g c in
    let was = at_device g at.After-index_mut-in-loop-i in
    let i = c.loop-i.i in
    let keeps = keeps_next g at.After-make_lane was in
    record {
      many = ap length c.push_reserved.ensures.items ∙ length_push c.loop-i.lanes.items c.in_ok-lane.lane
          ∙ ap (λ k. k + 1) c.loop-i.invariant.many;
      room = (
        omega (arith, c.push_reserved.ensures.len, c.loop-i.invariant.room.0),
        omega (arith, c.push_reserved.ensures.capacity, c.loop-i.invariant.room.1),
      );
      parties = lanes_kept g.V.Device.party (i + 1) c.args.bench.now _ (length c.args.m.now.queues) keeps c.requires.parties;
      keeps = keeps;
      untouched = untouched_next g at.After-make_lane was;
      each = each_push _ i c.loop-i.lanes.items c.push_reserved.new.self.items _ _ c.in_ok-lane.lane c.make_lane.new.guest
          c.make_lane.new.device c.push_reserved.ensures.items c.loop-i.invariant.many c.loop-i.invariant.each c.in_ok-lane.ensures.ok;
      none = All-same (λ (lane : Lane _ _ _). lane.relayed ≡ 0) c.push_reserved.new.self.items
          (c.loop-i.lanes.items ++ c.in_ok-lane.lane ∷ []) c.push_reserved.ensures.items
          (All-append (λ (lane : Lane _ _ _). lane.relayed ≡ 0) c.loop-i.lanes.items (c.in_ok-lane.lane ∷ []) c.loop-i.invariant.none
          (All-cons (λ (lane : Lane _ _ _). lane.relayed ≡ 0) c.in_ok-lane.lane [] c.in_ok-lane.ensures.none (All-nil _)));
    }

pub returns-clause-ok : goal.returns-clause-ok
returns-clause-ok g c =
    let s = setting_of g.L.Driver.DriverEnd.driver g.L.Device.DeviceEnd.device g.L.Layout.layout g.G.Guest.party g.V.Device.party in
    let v = c.loop-i.invariant in
    let end : c.loop-i.i ≡ length c.args.m.now.queues = omega arith in
    record {
      layout = c.requires.layout;
      many = v.many ∙ end;
      parties = v.parties;
      each = v.each;
      idle = idle_of s c.args.bench.now c.loop-i.bench c.requires.empty v.untouched
          (same_many g.V.Device.party c.loop-i.i c.args.bench.now c.loop-i.bench v.keeps);
      none = v.none;
    }

pub make_lane-requires-clause-tree : goal.make_lane-requires-clause-tree
make_lane-requires-clause-tree g c =
    subst (IsTreeOf (view c.args.m.now)) c.in_ok-tree.ensures.mapped c.in_ok-tree.ensures.laid

pub returns-clause-tree : goal.returns-clause-tree
returns-clause-tree g c = record { mapped = c.in_ok-tree.ensures.mapped; tree = c.in_ok-tree.ensures.laid }

pub returns-clause-keeps : goal.returns-clause-keeps
returns-clause-keeps g c =
    keeps_more g.V.Device.party c.loop-i.i (length c.args.m.now.queues) c.args.bench.now c.loop-i.bench (omega arith)
    c.loop-i.invariant.keeps
