use Rattle.std.proofs.Common.{◌∙◌, ℕ, length, arith, sym, ap, refl, true, subst}
use Rattle.vd_play.specs.Played.{KeepsBench}
use Rattle.vd_play.specs.Setting.{setting_of, IsLawful}
use Rattle.vd_play.proofs.Benches.{keeps_none, keeps_through, lanes_kept}
use Rattle.vd_play.proofs.Lasting.{all_still, all_late}
use Rattle.vd_play.proofs.rounds.run_all.Goals as goal

pub loop-turn-init : goal.loop-turn-init
loop-turn-init g c = record {
  many = refl;
  tree = refl;
  parties = c.requires.parties;
  few = omega arith;
  keeps = keeps_none g.V.Device.party _ c.args.bench.now;
  faults = refl;
  each = λ plan k laid start. (start, omega arith);
}

pub returns-then-is_still-clause-goes : goal.returns-then-is_still-clause-goes
returns-then-is_still-clause-goes g c = λ plan laid k start.
    let s = setting_of g.L.Driver.DriverEnd.driver g.L.Device.DeviceEnd.device g.L.Layout.layout g.G.Guest.party g.V.Device.party in
    let e = c.loop-turn.invariant.each plan k laid start in (
      all_still s plan true k c.loop-turn.turn c.loop-turn.floor.lanes.items c.loop-turn.bench
          (sym c.is_still.ensures ∙ c.if-is_still.true) e.0,
      e.1,
    )

pub round-made-requires-clause-lanes : goal.round-made-requires-clause-lanes
round-made-requires-clause-lanes g c = let r = c.requires.lanes in (
  r.0,
  true,
  r.1,
  c.loop-turn.turn,
  ap (λ t. t.mappings) c.loop-turn.invariant.tree ∙ r.2,
  (c.loop-turn.invariant.each r.0 r.1 r.2 r.3).0,
)

pub loop-turn-preserved : goal.loop-turn-preserved
loop-turn-preserved g c =
    let m = g.V.Device.party in
    let n : ℕ = length c.args.floor.now.lanes.items in
    let one : KeepsBench m n c.loop-turn.bench c.round-made.new.bench =
    subst (λ (j : ℕ). KeepsBench m j c.loop-turn.bench c.round-made.new.bench) c.loop-turn.invariant.many c.round-made.ensures.keeps in
    let keeps : KeepsBench m n c.args.bench.now c.round-made.new.bench =
    keeps_through m n c.args.bench.now c.loop-turn.bench c.round-made.new.bench c.loop-turn.invariant.keeps one in
    record {
      tree = c.round-made.ensures.tree ∙ c.loop-turn.invariant.tree;
      many = c.round-made.ensures.many ∙ c.loop-turn.invariant.many;
      parties = lanes_kept m n c.args.bench.now c.round-made.new.bench n keeps c.requires.parties;
      few = omega (arith, c.loop-turn.invariant.few, c.round-made.ensures.few);
      keeps = keeps;
      faults = c.round-made.ensures.faults ∙ c.loop-turn.invariant.faults;
      each = λ plan k laid start.
          let e = c.loop-turn.invariant.each plan k laid start in
          let here = ap (λ t. t.mappings) c.loop-turn.invariant.tree ∙ laid in
          let f = c.round-made.ensures.goes plan here true k c.loop-turn.turn e.0 in
          (f.0, omega (arith, e.1, f.1));
    }

pub returns-clause-goes : goal.returns-clause-goes
returns-clause-goes g c = λ plan laid k start.
    let s = setting_of g.L.Driver.DriverEnd.driver g.L.Device.DeviceEnd.device g.L.Layout.layout g.G.Guest.party g.V.Device.party in
    let e = c.loop-turn.invariant.each plan k laid start in
    let law : IsLawful s = record { layout = g.met.L.Layout.lawful; guest = g.met.G.Guest.lawful; party = g.met.V.Device.lawful } in
    (all_late s plan law k c.loop-turn.turn c.loop-turn.floor.lanes.items c.loop-turn.bench (omega arith) e.0, e.1)
