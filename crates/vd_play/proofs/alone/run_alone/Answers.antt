use Rattle.std.proofs.Common.{length, set, refl, true, is_some, arith}
use Rattle.std.proofs.lemmas.Option.{slice_get_read}
use Rattle.std.proofs.lemmas.List.{length-set}
use Rattle.std.specs.Vec.{with_item}
use Rattle.vd_play.specs.declared.bench.Bench.{Bench}
use Rattle.vd_play.specs.declared.floor.Lane.{Lane}
use Rattle.vd_play.specs.Progress.{InEpoch, AllInEpoch}
use Rattle.vd_play.specs.Setting.{setting_of}
use Rattle.vd_play.proofs.OneLane.{alone_one, alone_pass, all_one}
use Rattle.vd_play.proofs.Benches.{keeps_none, keeps_set, faults_set}
use Rattle.vd_play.proofs.Each.{stage_start, stage_end, stage_write}
use Rattle.vd_play.proofs.Lasting.{all_still}
use Rattle.vd_play.proofs.Sums.{sum_set}
use Rattle.vd_play.proofs.alone.run_alone.Goals as goal

pub lane_alone-requires : goal.lane_alone-requires
lane_alone-requires g c =
    let r = c.requires.lanes in
    let f = c.requires.parties in
    let one = alone_one c.args.floor.now.lanes.items c.requires.alone in
    let hl = slice_get_read c.args.floor.now.lanes.items _ 0 c.index_mut.result.now refl (omega (arith, one)) c.index_mut.ensures.value in
    let hg = slice_get_read c.args.bench.now.guests.items _ 0 c.index_mut-2.result.now refl (omega (arith, one, f.guests))
    c.index_mut-2.ensures.value in
    let hx = slice_get_read c.args.bench.now.devices.items _ 0 c.index_mut-3.result.now refl (omega (arith, one, f.devices))
    c.index_mut-3.ensures.value in record {
      alone = alone_pass c.args.floor.now.lanes.items _ c.requires.alone hl;
      lane = (r.0, 0, r.1, r.3.at 0 _ _ _ hl hg hx);
    }

pub returns-clause-keeps : goal.returns-clause-keeps
returns-clause-keeps g c =
    let f = c.requires.parties in
    let m = g.V.Device.party in
    let one = alone_one c.args.floor.now.lanes.items c.requires.alone in
    let hx = slice_get_read c.args.bench.now.devices.items _ 0 c.index_mut-3.result.now refl (omega (arith, one, f.devices))
    c.index_mut-3.ensures.value in
    let new : Bench _ _ = record {
      guests = with_item c.args.bench.now.guests 0 c.lane_alone.new.guest;
      devices = with_item c.args.bench.now.devices 0 c.lane_alone.new.device;
    } in
    keeps_set m (length c.args.floor.now.lanes.items) c.args.bench.now c.args.bench.now new 0 c.lane_alone.new.guest _
    c.lane_alone.new.device (omega (arith, one)) (keeps_none m (length c.args.floor.now.lanes.items) c.args.bench.now) refl refl hx
    c.lane_alone.ensures.carried

pub returns-clause-faults : goal.returns-clause-faults
returns-clause-faults g c =
    let f = c.requires.parties in
    let m = g.V.Device.party in
    let one = alone_one c.args.floor.now.lanes.items c.requires.alone in
    let hx = slice_get_read c.args.bench.now.devices.items _ 0 c.index_mut-3.result.now refl (omega (arith, one, f.devices))
    c.index_mut-3.ensures.value in
    let new : Bench _ _ = record {
      guests = with_item c.args.bench.now.guests 0 c.lane_alone.new.guest;
      devices = with_item c.args.bench.now.devices 0 c.lane_alone.new.device;
    } in
    faults_set m c.args.bench.now c.args.bench.now new 0 _ c.lane_alone.new.device refl refl hx c.lane_alone.ensures.faults

pub returns-clause-goes : goal.returns-clause-goes
returns-clause-goes g c = λ plan laid k start.
    let s = setting_of g.L.Driver.DriverEnd.driver g.L.Device.DeviceEnd.device g.L.Layout.layout g.G.Guest.party g.V.Device.party in
    let f = c.requires.parties in
    let lanes : _ = c.args.floor.now.lanes.items in
    let one = alone_one lanes c.requires.alone in
    let hl = slice_get_read lanes _ 0 c.index_mut.result.now refl (omega (arith, one)) c.index_mut.ensures.value in
    let hg = slice_get_read c.args.bench.now.guests.items _ 0 c.index_mut-2.result.now refl (omega (arith, one, f.guests))
    c.index_mut-2.ensures.value in
    let hx = slice_get_read c.args.bench.now.devices.items _ 0 c.index_mut-3.result.now refl (omega (arith, one, f.devices))
    c.index_mut-3.ensures.value in
    let new : Bench _ _ = record {
      guests = with_item c.args.bench.now.guests 0 c.lane_alone.new.guest;
      devices = with_item c.args.bench.now.devices 0 c.lane_alone.new.device;
    } in
    let z = c.lane_alone.ensures.ends plan 0 k (start.at 0 _ _ _ hl hg hx) in
    let old = stage_start (λ q a b x. InEpoch s plan q true k z.0.0 a b x) (λ q a b x. InEpoch s plan q true k 0 a b x) lanes
    c.args.bench.now.guests.items c.args.bench.now.devices.items start in
    let staged = stage_write _ _ 0 _ _ _ c.lane_alone.new.lane c.lane_alone.new.guest c.lane_alone.new.device old z.0.1 in
    let each : AllInEpoch s plan true k z.0.0 (set lanes 0 c.lane_alone.new.lane) new =
    stage_end _ _ 1 _ _ _ (omega (arith, one, length-set lanes 0 c.lane_alone.new.lane)) staged in
    let still = all_one (λ (l : Lane _ _ _). is_some l.still) lanes c.lane_alone.new.lane one c.lane_alone.ensures.still in (
      all_still s plan true k z.0.0 (set lanes 0 c.lane_alone.new.lane) new still each,
      omega (
        arith,
        z.1,
        sum_set g.G.Guest.party.accesses c.args.bench.now.guests.items 0 _ c.lane_alone.new.guest hg,
        sum_set g.V.Device.party.accesses c.args.bench.now.devices.items 0 _ c.lane_alone.new.device hx,
        sum_set (λ (l : Lane _ _ _). l.relayed) lanes 0 _ c.lane_alone.new.lane hl,
      ),
    )

pub index_mut-requires : goal.index_mut-requires
index_mut-requires g c = omega (arith, alone_one c.args.floor.now.lanes.items c.requires.alone)

pub index_mut-requires-2 : goal.index_mut-requires-2
index_mut-requires-2 g c = omega (arith, alone_one c.args.floor.now.lanes.items c.requires.alone, c.requires.parties.guests)

pub index_mut-requires-3 : goal.index_mut-requires-3
index_mut-requires-3 g c = omega (arith, alone_one c.args.floor.now.lanes.items c.requires.alone, c.requires.parties.devices)
