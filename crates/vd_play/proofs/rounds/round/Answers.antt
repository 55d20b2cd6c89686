use Rattle.std.proofs.Common.{◌<◌, ℕ, length, arith, ap, refl, ◌∙◌}
use Rattle.std.proofs.lemmas.Option.{slice_get_read}
use Rattle.std.proofs.lemmas.List.{length-set}
use Rattle.std.specs.Vec.{with_item}
use Rattle.vd_play.specs.declared.bench.Bench.{Bench}
use Rattle.vd_play.specs.declared.floor.Lane.{Lane}
use Rattle.vd_play.specs.Played.{KeepsBench}
use Rattle.vd_play.proofs.Benches.{keeps_none, keeps_set, faults_set, lanes_kept}
use Rattle.vd_play.proofs.Each.{stage_start, stage_end, stage_read, stage_write}
use Rattle.vd_play.proofs.Sums.{sum_set}
use Rattle.vd_play.proofs.rounds.round.Goals as goal

pub loop-i-init : goal.loop-i-init
loop-i-init g c = record {
  many = refl;
  tree = refl;
  parties = c.requires.parties;
  few = omega arith;
  keeps = keeps_none g.V.Device.party _ c.args.bench.now;
  faults = refl;
  each = λ plan on k r laid start. (stage_start _ _ _ _ _ start, omega arith);
}

pub lane_round-made-requires : goal.lane_round-made-requires
lane_round-made-requires g c =
    let r = c.requires.lanes in
    let i = c.loop-i.i in
    let f = c.loop-i.invariant.parties in
    let hl = slice_get_read c.loop-i.floor.lanes.items _ i c.index_mut.result.now refl (omega arith) c.index_mut.ensures.value in
    let hg = slice_get_read c.loop-i.bench.guests.items _ i c.index_mut-in-loop-i.result.now refl
    (omega (arith, f.guests, c.loop-i.invariant.many)) c.index_mut-in-loop-i.ensures.value in
    let hx = slice_get_read c.loop-i.bench.devices.items _ i c.index_mut-in-loop-i-2.result.now refl
    (omega (arith, f.devices, c.loop-i.invariant.many)) c.index_mut-in-loop-i-2.ensures.value in
    let laid = ap (λ t. t.mappings) c.loop-i.invariant.tree ∙ r.4 in record {
      lane = (r.0, i, r.1, r.2, r.3, laid, stage_read _ _ i _ _ _ _ _ _ (c.loop-i.invariant.each r.0 r.1 r.2 r.3 r.4 r.5).0 hl hg hx);
    }

pub loop-i-preserved : goal.loop-i-preserved
loop-i-preserved g c =
    let i = c.loop-i.i in
    let n : ℕ = length c.args.floor.now.lanes.items in
    let m = g.V.Device.party in
    let f = c.loop-i.invariant.parties in
    let below : i < n = omega (arith, c.loop-i.invariant.many) in
    let hl = slice_get_read c.loop-i.floor.lanes.items _ i c.index_mut.result.now refl (omega arith) c.index_mut.ensures.value in
    let hg = slice_get_read c.loop-i.bench.guests.items _ i c.index_mut-in-loop-i.result.now refl
    (omega (arith, f.guests)) c.index_mut-in-loop-i.ensures.value in
    let hx = slice_get_read c.loop-i.bench.devices.items _ i c.index_mut-in-loop-i-2.result.now refl
    (omega (arith, f.devices)) c.index_mut-in-loop-i-2.ensures.value in
    let new : Bench _ _ = record {
      guests = with_item c.loop-i.bench.guests i c.lane_round-made.new.guest;
      devices =
          with_item c.loop-i.bench.devices i c.lane_round-made.new.device;
    } in
    let keeps : KeepsBench m n c.args.bench.now new =
    keeps_set m n c.args.bench.now c.loop-i.bench new i c.lane_round-made.new.guest _ c.lane_round-made.new.device below
    c.loop-i.invariant.keeps refl refl hx c.lane_round-made.ensures.carried in
    record {
      tree = c.loop-i.invariant.tree;
      many = length-set c.loop-i.floor.lanes.items i c.lane_round-made.new.lane ∙ c.loop-i.invariant.many;
      parties = lanes_kept m n c.args.bench.now new n keeps c.requires.parties;
      few = omega (arith, c.loop-i.invariant.few, c.lane_round-made.ensures.few);
      keeps = keeps;
      faults = faults_set m c.args.bench.now c.loop-i.bench new i _ c.lane_round-made.new.device c.loop-i.invariant.faults refl hx
          c.lane_round-made.ensures.faults;
      each = λ plan on k r laid start.
          let e = c.loop-i.invariant.each plan on k r laid start in
          let here = ap (λ t. t.mappings) c.loop-i.invariant.tree ∙ laid in
          let done = c.lane_round-made.ensures.goes plan here i on k r (stage_read _ _ i _ _ _ _ _ _ e.0 hl hg hx) in (
            stage_write _ _ i _ _ _ c.lane_round-made.new.lane c.lane_round-made.new.guest c.lane_round-made.new.device e.0 done.0,
            omega (
              arith,
              e.1,
              done.1,
              sum_set g.G.Guest.party.accesses c.loop-i.bench.guests.items i _ c.lane_round-made.new.guest hg,
              sum_set g.V.Device.party.accesses c.loop-i.bench.devices.items i _ c.lane_round-made.new.device hx,
              sum_set (λ (l : Lane _ _ _). l.relayed) c.loop-i.floor.lanes.items i _ c.lane_round-made.new.lane hl,
            ),
          );
    }

pub returns-clause-goes : goal.returns-clause-goes
returns-clause-goes g c = λ plan laid on k r start.
    let e = c.loop-i.invariant.each plan on k r laid start in
    (stage_end _ _ c.loop-i.i _ _ _ (omega arith) e.0, e.1)
