use Rattle.std.proofs.Common.{◌<◌, length, arith, sym, refl, ap, ◌∙◌}
use Rattle.std.specs.Option.{option_copied}
use Rattle.std.proofs.lemmas.Option.{slice_get_read}
use Rattle.std.proofs.lemmas.List.{length-set}
use Rattle.vd_model.specs.declared.record.Script.{Script}
use Rattle.vd_bus.specs.Scripts.{run_count}
use Rattle.vd_machine.specs.File.{view}
use Rattle.vd_play.specs.Epochs.{mode_at}
use Rattle.vd_play.specs.Orders.{stop_of}
use Rattle.vd_play.specs.Setting.{setting_of, IsLawful}
use Rattle.vd_play.proofs.Attaches.{IsNext, attached_none, keeps_written, can_attach, has_base, can_relay, is_cut, begins_pass, begins_shadow, attached_more}
use Rattle.vd_play.proofs.Begin.{stop_is}
use Rattle.vd_play.proofs.Benches.{fault_device}
use Rattle.vd_play.proofs.Bounds.{at_index}
use Rattle.vd_play.proofs.Cut.{if_err_any}
use Rattle.vd_play.proofs.Each.{stage_end}
use Rattle.vd_play.proofs.Setups.{rings_sized}
use Rattle.vd_play.proofs.epoch.attach_all.Given.{Over}
use Rattle.vd_play.proofs.epoch.attach_all.Goals as goal
use Rattle.vd_play.proofs.epoch.attach_all.Goals.{After-len, in-Pass+in_ok-attach_pass-in-Pass, in-Shadow+in_ok-attach_shadow-in-Shadow}

lawful : (g : Over)
    → IsLawful (setting_of g.L.Driver.DriverEnd.driver g.L.Device.DeviceEnd.device g.L.Layout.layout g.G.Guest.party g.V.Device.party)
lawful g = record { layout = g.met.L.Layout.lawful; guest = g.met.G.Guest.lawful; party = g.met.V.Device.lawful }

-- lane i is next
next : (g : Over) (c : After-len g) → IsNext
    (setting_of g.L.Driver.DriverEnd.driver g.L.Device.DeviceEnd.device g.L.Layout.layout g.G.Guest.party g.V.Device.party)
    (view c.args.m.now) c.args.epoch c.args.floor.now.lanes.items c.args.bench.now c.loop-i.i c.loop-i.floor.lanes.items c.loop-i.bench
    c.loop-i.bus c.index_mut-device.result.now c.stop_of-stop.result c.len.result
next g c =
    let i = c.loop-i.i in
    let f = c.loop-i.invariant.attached.parties in
    let low : i < length c.args.m.now.queues = omega (arith, c.loop-i.invariant.many, c.requires.many) in
    let hg = at_index c.loop-i.bench.guests.items i (omega (arith, low, f.guests)) in
    let hs = slice_get_read c.as_slice.result.now _ i c.index-as_slice-i.result refl (omega (arith, low, ap length c.as_slice.ensures))
    c.index-as_slice-i.is in
    let chains = c.chain_count.ensures ∙ ap run_count c.as_slice-runs.ensures ∙ ap (λ (z : Script). run_count z.runs)
    (sym c.index-as_slice-i.is) in
    record {
      so_far = c.loop-i.invariant.attached;
      low = low;
      epoch = c.requires.epoch;
      guest = hg.0;
      at_guest = hg.1;
      at_device = slice_get_read c.loop-i.bench.devices.items _ i c.index_mut-device.result.now refl (omega (arith, low, f.devices))
          c.index_mut-device.ensures.value;
      to = stop_is (view c.args.m.now) i c.args.epoch c.chain_count.result c.stop_of-stop.result c.as_slice.result.now
          c.index-as_slice-i.result c.as_slice.ensures hs chains
          (c.stop_of-stop.ensures ∙ ap (λ ss. stop_of ss c.args.epoch c.chain_count.result) c.as_slice-in-loop-i.ensures) c.requires.epoch;
      many = sym (c.len.ensures.value ∙ ap length c.journal.ensures.begun);
    }

-- ---- the loop's begin and end

pub loop-i-init : goal.loop-i-init
loop-i-init g c = record {
  many = refl;
  tree = refl;
  attached = attached_none _ (view c.args.m.now) c.args.epoch c.args.floor.now.lanes.items c.args.bench.now c.args.bus.now
      c.requires.parties c.requires.lanes c.requires.ready;
}

pub returns-clause-counted : goal.returns-clause-counted
returns-clause-counted g c = c.loop-i.invariant.attached.counted

pub returns-clause-up : goal.returns-clause-up
returns-clause-up g c =
    let ready = c.loop-i.invariant.attached.ready in
    (ready.up, rings_sized (view c.args.m.now) (mode_at (view c.args.m.now) c.args.epoch) c.args.epoch c.loop-i.bus ready.rings)

pub returns-clause-lanes : goal.returns-clause-lanes
returns-clause-lanes g c = stage_end _ _ c.loop-i.i _ _ _ (omega arith) c.loop-i.invariant.attached.each

-- ---- before an attach

pub overflow_sub-count : goal.overflow_sub-count
overflow_sub-count g c =
    let p = next g (goal.at.overflow_sub-count g c).After-len in
    let lane = at_index c.loop-i.floor.lanes.items c.loop-i.i (omega (arith, p.low, c.loop-i.invariant.many, c.requires.many)) in
    (can_attach (lawful g) p lane.0 lane.1).0

pub attach_pass-requires-clause-can : goal.attach_pass-requires-clause-can
attach_pass-requires-clause-can g c =
    let hl = slice_get_read c.loop-i.floor.lanes.items _ c.loop-i.i c.index_mut.result.now refl (omega arith) c.index_mut.ensures.value in
    (can_attach (lawful g) (next g (goal.at.attach_pass-requires-clause-can g c).After-len) c.index_mut.result.now hl).1

pub attach_pass-requires-clause-base : goal.attach_pass-requires-clause-base
attach_pass-requires-clause-base g c =
    let hl = slice_get_read c.loop-i.floor.lanes.items _ c.loop-i.i c.index_mut.result.now refl (omega arith) c.index_mut.ensures.value in
    has_base (lawful g) (next g (goal.at.attach_pass-requires-clause-base g c).After-len) c.index_mut.result.now hl
    (sym c.mode_of-mode.ensures ∙ c.in-Pass.is)

pub attach_shadow-requires-clause-can : goal.attach_shadow-requires-clause-can
attach_shadow-requires-clause-can g c =
    let lane = c.index_mut-in-Shadow.result.now in
    let hl = slice_get_read c.loop-i.floor.lanes.items _ c.loop-i.i lane refl (omega arith) c.index_mut-in-Shadow.ensures.value in
    (can_attach (lawful g) (next g (goal.at.attach_shadow-requires-clause-can g c).After-len) lane hl).1

pub attach_shadow-requires-clause-shadow : goal.attach_shadow-requires-clause-shadow
attach_shadow-requires-clause-shadow g c =
    let lane = c.index_mut-in-Shadow.result.now in
    let hl = slice_get_read c.loop-i.floor.lanes.items _ c.loop-i.i lane refl (omega arith) c.index_mut-in-Shadow.ensures.value in
    can_relay (lawful g) (next g (goal.at.attach_shadow-requires-clause-shadow g c).After-len) lane hl
    (sym c.mode_of-mode.ensures ∙ c.in-Shadow.is)

-- ---- a refusal

pub returns-in_err-attach_pass-in-Pass-clause-keeps : goal.returns-in_err-attach_pass-in-Pass-clause-keeps
returns-in_err-attach_pass-in-Pass-clause-keeps g c =
    let p = next g (goal.at.returns-in_err-attach_pass-in-Pass-clause-keeps g c).After-len in
    keeps_written (lawful g) p c.attach_pass.new.device c.attach_pass.ensures.carried

pub returns-in_err-attach_pass-in-Pass-clause-cut : goal.returns-in_err-attach_pass-in-Pass-clause-cut
returns-in_err-attach_pass-in-Pass-clause-cut g c =
    let p = next g (goal.at.returns-in_err-attach_pass-in-Pass-clause-cut g c).After-len in
    let hl = slice_get_read c.loop-i.floor.lanes.items _ c.loop-i.i c.index_mut.result.now refl (omega arith) c.index_mut.ensures.value in
    if_err_any _ _ (λ z. is_cut (lawful g) p c.index_mut.result.now hl c.attach_pass.new.lane c.attach_pass.new.device
    c.in_err-attach_pass-in-Pass.ensures.err.2)

pub returns-in_err-attach_pass-in-Pass-clause-fault : goal.returns-in_err-attach_pass-in-Pass-clause-fault
returns-in_err-attach_pass-in-Pass-clause-fault g c =
    let p = next g (goal.at.returns-in_err-attach_pass-in-Pass-clause-fault g c).After-len in
    let err = c.in_err-attach_pass-in-Pass.ensures.err in
    fault_device g.V.Device.party (length c.args.m.now.queues) c.args.bench.now c.loop-i.bench c.loop-i.i c.index_mut-device.result.now
    c.attach_pass.new.device c.in_err-attach_pass-in-Pass.field-0.0 c.from_residual.result p.low p.so_far.faults p.at_device err.2.rose
    err.0 c.from_residual.ensures.1

pub returns-in_err-attach_shadow-in-Shadow-clause-keeps : goal.returns-in_err-attach_shadow-in-Shadow-clause-keeps
returns-in_err-attach_shadow-in-Shadow-clause-keeps g c =
    let p = next g (goal.at.returns-in_err-attach_shadow-in-Shadow-clause-keeps g c).After-len in
    keeps_written (lawful g) p c.attach_shadow.new.device c.attach_shadow.ensures.carried

pub returns-in_err-attach_shadow-in-Shadow-clause-cut : goal.returns-in_err-attach_shadow-in-Shadow-clause-cut
returns-in_err-attach_shadow-in-Shadow-clause-cut g c =
    let p = next g (goal.at.returns-in_err-attach_shadow-in-Shadow-clause-cut g c).After-len in
    let lane = c.index_mut-in-Shadow.result.now in
    let hl = slice_get_read c.loop-i.floor.lanes.items _ c.loop-i.i lane refl (omega arith) c.index_mut-in-Shadow.ensures.value in
    if_err_any _ _ (λ z. is_cut (lawful g) p lane hl c.attach_shadow.new.lane c.attach_shadow.new.device
    c.in_err-attach_shadow-in-Shadow.ensures.err.3)

pub returns-in_err-attach_shadow-in-Shadow-clause-fault : goal.returns-in_err-attach_shadow-in-Shadow-clause-fault
returns-in_err-attach_shadow-in-Shadow-clause-fault g c =
    let p = next g (goal.at.returns-in_err-attach_shadow-in-Shadow-clause-fault g c).After-len in
    let err = c.in_err-attach_shadow-in-Shadow.ensures.err in
    fault_device g.V.Device.party (length c.args.m.now.queues) c.args.bench.now c.loop-i.bench c.loop-i.i c.index_mut-device.result.now
    c.attach_shadow.new.device c.in_err-attach_shadow-in-Shadow.field-0.0 c.from_residual-in_err-attach_shadow-in-Shadow.result p.low
    p.so_far.faults p.at_device err.3.rose err.0 c.from_residual-in_err-attach_shadow-in-Shadow.ensures.1

-- ---- an attach

pub loop-i-preserved : goal.loop-i-preserved
loop-i-preserved g c =
    let i = c.loop-i.i in
    let lanes = c.loop-i.floor.lanes.items in
    let p = next g (goal.at.loop-i-preserved g c).After-len in
    elim c.match-mode.branch [
      | in-Pass+in_ok-attach_pass-in-Pass w ↦ (
          let hl = slice_get_read lanes _ i w.index_mut.result.now refl (omega arith) w.index_mut.ensures.value in
          let lane' = w.attach_pass.new.lane in
          let device' = w.attach_pass.new.device in
          let ok = w.in_ok-attach_pass-in-Pass.ensures.ok in
          let same = w.attach_pass.ensures.lane in
          let began = begins_pass (lawful g) p w.index_mut.result.now hl lane' device' (option_copied c.args.control) c.requires.settings
          (sym c.mode_of-mode.ensures ∙ w.in-Pass.is) same ok in
          rw (w.bus-is, w.floor-is, w.bench-is) record {
            tree = c.loop-i.invariant.tree;
            many = length-set lanes i lane' ∙ c.loop-i.invariant.many;
            attached = attached_more (lawful g) p w.index_mut.result.now hl lane' device' began same.0 ok.0 w.attach_pass.ensures.carried
                w.in_ok-attach_pass-in-Pass.ensures.faults _ w.attach_pass.ensures.bus;
          }
          )
      | in-Shadow+in_ok-attach_shadow-in-Shadow w ↦ (
          let lane = w.index_mut-in-Shadow.result.now in
          let hl = slice_get_read lanes _ i lane refl (omega arith) w.index_mut-in-Shadow.ensures.value in
          let lane' = w.attach_shadow.new.lane in
          let device' = w.attach_shadow.new.device in
          let ok = w.in_ok-attach_shadow-in-Shadow.ensures.ok in
          let same = w.attach_shadow.ensures.lane in
          let began = begins_shadow (lawful g) p lane hl lane' device' (option_copied c.args.control) c.requires.settings
          (sym c.mode_of-mode.ensures ∙ w.in-Shadow.is) same ok in
          rw (w.bus-is, w.floor-is, w.bench-is) record {
            tree = c.loop-i.invariant.tree;
            many = length-set lanes i lane' ∙ c.loop-i.invariant.many;
            attached = attached_more (lawful g) p lane hl lane' device' began same.0 ok.0 w.attach_shadow.ensures.carried
                w.in_ok-attach_shadow-in-Shadow.ensures.faults _ w.attach_shadow.ensures.bus;
          }
          )
    ]
