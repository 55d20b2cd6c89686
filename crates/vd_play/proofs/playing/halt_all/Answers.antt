use Rattle.std.proofs.Common.{◌<◌, ℕ, false, length, arith, sym, refl}
use Rattle.std.specs.Vec.{with_item}
use Rattle.std.proofs.lemmas.Option.{slice_get_read, slice_get_within}
use Rattle.vd_play.specs.declared.bench.Bench.{Bench}
use Rattle.vd_play.specs.Played.{KeepsBench}
use Rattle.vd_play.specs.Setting.{setting_of}
use Rattle.vd_play.proofs.Benches.{keeps_none, keeps_set, lanes_kept}
use Rattle.vd_play.proofs.Bounds.{at_index}
use Rattle.vd_play.proofs.Each.{stage_start, stage_end, stage_read, stage_halted, set_same}
use Rattle.vd_play.proofs.Ending.{halts}
use Rattle.vd_play.proofs.Held.{can_drive}
use Rattle.vd_play.proofs.Sums.{sum_set}
use Rattle.vd_play.proofs.playing.halt_all.Goals as goal

pub loop-i-init : goal.loop-i-init
loop-i-init g c = record {
  parties = c.requires.parties;
  keeps = keeps_none g.V.Device.party _ c.args.bench.now;
  devices = refl;
  counted = refl;
  each = λ plan k r last start. stage_start _ _ _ _ _
      (record {
        at = λ q a b x ha hb hx. (
          start.at q a b x ha hb hx,
          c.requires.done q b (slice_get_within c.args.floor.lanes.items q a ha) hb,
        );
      });
}

pub halt-requires-clause-done : goal.halt-requires-clause-done
halt-requires-clause-done g c =
    let r = c.requires.lanes in
    let i = c.loop-i.i in
    let f = c.loop-i.invariant.parties in
    let hl = at_index c.args.floor.lanes.items i (omega arith) in
    let hg = slice_get_read c.loop-i.bench.guests.items _ i c.index_mut.result.now refl
    (omega (arith, f.guests)) c.index_mut.ensures.value in
    let hx = at_index c.loop-i.bench.devices.items i (omega (arith, f.devices)) in
    (stage_read _ _ i _ _ _ _ _ _ (c.loop-i.invariant.each r.0 r.1 r.2 r.3 r.4) hl.1 hg hx.1).1

pub halt-requires-clause-held : goal.halt-requires-clause-held
halt-requires-clause-held g c =
    let s = setting_of g.L.Driver.DriverEnd.driver g.L.Device.DeviceEnd.device g.L.Layout.layout g.G.Guest.party g.V.Device.party in
    let r = c.requires.lanes in
    let i = c.loop-i.i in
    let f = c.loop-i.invariant.parties in
    let hl = at_index c.args.floor.lanes.items i (omega arith) in
    let hg = slice_get_read c.loop-i.bench.guests.items _ i c.index_mut.result.now refl
    (omega (arith, f.guests)) c.index_mut.ensures.value in
    let hx = at_index c.loop-i.bench.devices.items i (omega (arith, f.devices)) in
    let p = (stage_read _ _ i _ _ _ _ _ _ (c.loop-i.invariant.each r.0 r.1 r.2 r.3 r.4) hl.1 hg hx.1).0 in
    let d = can_drive s r.0 i false r.1 r.2 hl.0.words hl.0.still hl.0.relaying hl.0.relayed c.index_mut.result.now hx.0 p.held in
    (d.0, d.3)

pub loop-i-preserved : goal.loop-i-preserved
loop-i-preserved g c =
    let s = setting_of g.L.Driver.DriverEnd.driver g.L.Device.DeviceEnd.device g.L.Layout.layout g.G.Guest.party g.V.Device.party in
    let i = c.loop-i.i in
    let n : ℕ = length c.args.floor.lanes.items in
    let m = g.V.Device.party in
    let f = c.loop-i.invariant.parties in
    let below : i < n = omega arith in
    let hl = at_index c.args.floor.lanes.items i below in
    let hg = slice_get_read c.loop-i.bench.guests.items _ i c.index_mut.result.now refl
    (omega (arith, f.guests)) c.index_mut.ensures.value in
    let hx = at_index c.loop-i.bench.devices.items i (omega (arith, f.devices)) in
    let new : Bench _ _ = record { guests = with_item c.loop-i.bench.guests i c.halt.new.self; devices = c.loop-i.bench.devices } in
    let keeps : KeepsBench m n c.args.bench.now new =
    keeps_set m n c.args.bench.now c.loop-i.bench new i c.halt.new.self hx.0 hx.0 below c.loop-i.invariant.keeps refl
    (sym (set_same c.loop-i.bench.devices.items i hx.0 hx.1)) hx.1 refl in
    record {
      parties = lanes_kept m n c.args.bench.now new n keeps c.requires.parties;
      keeps = keeps;
      devices = c.loop-i.invariant.devices;
      counted = omega (
        arith,
        c.loop-i.invariant.counted,
        c.halt.ensures.counts.0,
        sum_set g.G.Guest.party.accesses c.loop-i.bench.guests.items i _ c.halt.new.self hg,
      );
      each = λ plan k r last start.
          let e = c.loop-i.invariant.each plan k r last start in
          let p = stage_read _ _ i _ _ _ _ _ _ e hl.1 hg hx.1 in
          stage_halted _ _ i _ _ _ hl.0 c.halt.new.self hx.0 hl.1 hx.1 e
          (halts s (record { layout = g.met.L.Layout.lawful; guest = g.met.G.Guest.lawful; party = g.met.V.Device.lawful }) plan i k
          r hl.0.words hl.0.still hl.0.relaying hl.0.relayed c.index_mut.result.now c.halt.new.self hx.0 c.halt.result (last i) p.1
          c.halt.ensures p.0.held);
    }

pub returns-clause-halted : goal.returns-clause-halted
returns-clause-halted g c = λ plan k r last start.
    stage_end _ _ c.loop-i.i _ _ _ (omega arith) (c.loop-i.invariant.each plan k r last start)
