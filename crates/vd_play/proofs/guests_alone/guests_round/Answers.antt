use Rattle.std.proofs.Common.{◌<◌, ℕ, length, arith, refl, ◌∙◌}
use Rattle.std.proofs.lemmas.Option.{slice_get_read}
use Rattle.std.proofs.lemmas.List.{length-set}
use Rattle.std.specs.Vec.{with_item}
use Rattle.vd_play.specs.declared.bench.Bench.{Bench}
use Rattle.vd_play.specs.declared.floor.Lane.{Lane}
use Rattle.vd_play.specs.Played.{KeepsBench}
use Rattle.vd_play.proofs.Benches.{keeps_none, lanes_kept}
use Rattle.vd_play.proofs.Bounds.{at_index}
use Rattle.vd_play.proofs.Each.{map_set, stage_start, stage_end, stage_read, stage_guest}
use Rattle.vd_play.proofs.GuestsAlone.{keeps_guest}
use Rattle.vd_play.proofs.Sums.{sum_set}
use Rattle.vd_play.proofs.guests_alone.guests_round.Goals as goal

pub loop-i-init : goal.loop-i-init
loop-i-init g c = record {
  many = refl;
  tree = refl;
  parties = c.requires.parties;
  few = omega arith;
  keeps = keeps_none g.V.Device.party _ c.args.bench.now;
  devices = refl;
  ends = refl;
  each = λ plan k n xs many start. stage_start _ _ _ _ _ start;
  counted = omega arith;
}

pub guest_alone-made-requires : goal.guest_alone-made-requires
guest_alone-made-requires g c =
    let r = c.requires.lanes in
    let i = c.loop-i.i in
    let f = c.loop-i.invariant.parties in
    let hl = slice_get_read c.loop-i.floor.lanes.items _ i c.index_mut.result.now refl (omega arith) c.index_mut.ensures.value in
    let hg = slice_get_read c.loop-i.bench.guests.items _ i c.index_mut-in-loop-i.result.now refl
    (omega (arith, f.guests, c.loop-i.invariant.many)) c.index_mut-in-loop-i.ensures.value in
    let hx = at_index r.3 i (omega (arith, r.4, c.loop-i.invariant.many)) in record {
      lane = (r.0, i, r.1, r.2, hx.0, stage_read _ _ i _ _ _ _ _ _ (c.loop-i.invariant.each r.0 r.1 r.2 r.3 r.4 r.5) hl hg hx.1);
    }

pub loop-i-preserved : goal.loop-i-preserved
loop-i-preserved g c =
    let i = c.loop-i.i in
    let n : ℕ = length c.args.floor.now.lanes.items in
    let m = g.V.Device.party in
    let f = c.loop-i.invariant.parties in
    let below : i < n = omega (arith, c.loop-i.invariant.many) in
    let hl = slice_get_read c.loop-i.floor.lanes.items _ i c.index_mut.result.now refl (omega arith) c.index_mut.ensures.value in
    let hg = slice_get_read c.loop-i.bench.guests.items _ i c.index_mut-in-loop-i.result.now refl
    (omega (arith, f.guests)) c.index_mut-in-loop-i.ensures.value in
    let new : Bench _ _ = record {
      guests = with_item c.loop-i.bench.guests i c.guest_alone-made.new.guest;
      devices = c.loop-i.bench.devices;
    } in
    let keeps : KeepsBench m n c.args.bench.now new =
    keeps_guest m n c.args.bench.now c.loop-i.bench new i c.guest_alone-made.new.guest below c.loop-i.invariant.keeps refl refl in
    record {
      tree = c.loop-i.invariant.tree;
      many = length-set c.loop-i.floor.lanes.items i c.guest_alone-made.new.lane ∙ c.loop-i.invariant.many;
      parties = lanes_kept m n c.args.bench.now new n keeps c.requires.parties;
      few = omega (arith, c.loop-i.invariant.few, c.guest_alone-made.ensures.few);
      keeps = keeps;
      devices = c.loop-i.invariant.devices;
      ends = map_set (λ (l : Lane _ _ _). l.still) c.loop-i.floor.lanes.items i _ c.guest_alone-made.new.lane hl
          c.guest_alone-made.ensures.end ∙ c.loop-i.invariant.ends;
      each = λ plan k r xs many start.
          let e = c.loop-i.invariant.each plan k r xs many start in
          let hx = at_index xs i (omega (arith, many, below)) in
          let done = c.guest_alone-made.ensures.goes plan i k r hx.0 (stage_read _ _ i _ _ _ _ _ _ e hl hg hx.1) in
          stage_guest _ _ i _ _ _ c.guest_alone-made.new.lane c.guest_alone-made.new.guest hx.0 hx.1 e done.0;
      counted =
          let r = c.requires.lanes in
          let hx = at_index r.3 i (omega (arith, r.4, below)) in
          let e = c.loop-i.invariant.each r.0 r.1 r.2 r.3 r.4 r.5 in
          let done = c.guest_alone-made.ensures.goes r.0 i r.1 r.2 hx.0 (stage_read _ _ i _ _ _ _ _ _ e hl hg hx.1) in
          omega (
            arith,
            c.loop-i.invariant.counted,
            done.1,
            sum_set g.G.Guest.party.accesses c.loop-i.bench.guests.items i _ c.guest_alone-made.new.guest hg,
            sum_set (λ (l : Lane _ _ _). l.relayed) c.loop-i.floor.lanes.items i _ c.guest_alone-made.new.lane hl,
          );
    }

pub returns-clause-goes : goal.returns-clause-goes
returns-clause-goes g c = record {
  wait = λ plan k r xs many start. stage_end _ _ c.loop-i.i _ _ _ (omega arith) (c.loop-i.invariant.each plan k r xs many start);
  counted = c.loop-i.invariant.counted;
}
