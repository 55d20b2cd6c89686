use Rattle.std.proofs.Common.{◌≡◌, ◌∙◌, ◌+◌, ℕ, true, length, arith, sym, ap, refl, subst}
use Rattle.std.proofs.lemmas.Option.{slice_get_read}
use Rattle.std.specs.Vec.{with_item}
use Rattle.vd_play.specs.declared.bench.Bench.{Bench}
use Rattle.vd_play.specs.CommandProgress.Next.{guests}
use Rattle.vd_play.specs.Played.{KeepsBench}
use Rattle.vd_play.specs.Setting.{setting_of, IsLawful}
use Rattle.vd_play.proofs.Benches.{keeps_none, lanes_kept}
use Rattle.vd_play.proofs.CommandBenches.{round_more}
use Rattle.vd_play.proofs.CommandLasting.{command_still, command_late}
use Rattle.vd_play.proofs.CommandWrites.{inside, written_keeps, written_parties, written_faults, written_each, written_commands, written_made}
use Rattle.vd_play.proofs.Lasting.{all_still, all_late}
use Rattle.vd_play.proofs.command_epochs.run_with_commands.Goals as goal

pub loop-turn-init : goal.loop-turn-init
loop-turn-init g c = record {
  many = refl;
  tree = refl;
  parties = c.requires.parties;
  few = omega arith;
  keeps = keeps_none g.V.Device.party _ c.args.bench.now;
  faults = refl;
  each = λ plan k r laid start commands. (
    start,
    round_more _ plan guests true k r _ c.args.lane.now (r + 0) c.args.bench.now (omega arith) commands,
    omega arith,
  );
}

pub round-made-requires-clause-parties : goal.round-made-requires-clause-parties
round-made-requires-clause-parties g c =
    let f = c.loop-turn.invariant.parties in
    record {
      guests = omega (arith, f.guests, c.loop-turn.invariant.many);
      devices = omega (arith, f.devices, c.loop-turn.invariant.many);
    }

pub round-made-requires-clause-lanes : goal.round-made-requires-clause-lanes
round-made-requires-clause-lanes g c = let r = c.requires.lanes in (
  r.0,
  true,
  r.1,
  c.loop-turn.turn,
  ap (λ t. t.mappings) c.loop-turn.invariant.tree ∙ r.3,
  (c.loop-turn.invariant.each r.0 r.1 r.2 r.3 r.4 r.5).0,
)

pub command_round-made-requires : goal.command_round-made-requires
command_round-made-requires g c =
    let s = setting_of g.L.Driver.DriverEnd.driver g.L.Device.DeviceEnd.device g.L.Layout.layout g.G.Guest.party g.V.Device.party in
    let m = g.V.Device.party in
    let n : ℕ = length c.args.floor.now.lanes.items in
    let f = c.loop-turn.invariant in
    let bench1 = c.round-made.new.bench in
    let one : KeepsBench m n c.loop-turn.bench bench1 =
    subst (λ (j : ℕ). KeepsBench m j c.loop-turn.bench bench1) f.many c.round-made.ensures.keeps in
    let there = lanes_kept m n c.loop-turn.bench bench1 (n + 1) one f.parties in
    let hg = slice_get_read bench1.guests.items _ c.len-place.result c.index_mut.result.now refl
    (omega (arith, there.guests, c.len-place.ensures)) c.index_mut.ensures.value in
    let hx = slice_get_read bench1.devices.items _ c.len-place.result c.index_mut-in-loop-turn.result.now refl
    (omega (arith, there.devices, c.len-place.ensures)) c.index_mut-in-loop-turn.ensures.value in
    let new : Bench _ _ = record {
      guests = with_item bench1.guests c.len-place.result c.index_mut.result.now;
      devices = with_item bench1.devices c.len-place.result c.index_mut-in-loop-turn.result.now;
    } in
    let r = c.requires.lanes in record {
      lane = (
        r.0,
        true,
        r.1,
        r.2 + c.loop-turn.turn,
        inside s n c.len-place.result (omega (arith, c.len-place.ensures)) c.args.bench.now c.loop-turn.bench bench1
            c.index_mut.result.now c.index_mut.result.now c.index_mut-in-loop-turn.result.now c.index_mut-in-loop-turn.result.now
            c.requires.parties f.keeps one hg hx new refl refl r.0 guests true r.1 (r.2 + c.loop-turn.turn) c.loop-turn.lane (f.each r.0 r.1 r.2 r.3 r.4 r.5).1,
      );
    }

pub loop-turn-preserved : goal.loop-turn-preserved
loop-turn-preserved g c =
    let s = setting_of g.L.Driver.DriverEnd.driver g.L.Device.DeviceEnd.device g.L.Layout.layout g.G.Guest.party g.V.Device.party in
    let m = g.V.Device.party in
    let n : ℕ = length c.args.floor.now.lanes.items in
    let f = c.loop-turn.invariant in
    let e = c.command_round-made.ensures in
    let place : c.len-place.result ≡ n = omega (arith, c.len-place.ensures) in
    let bench1 = c.round-made.new.bench in
    let lanes1 = c.round-made.new.floor.lanes.items in
    let guest = c.index_mut.result.now in
    let device = c.index_mut-in-loop-turn.result.now in
    let guest' = c.command_round-made.new.guest in
    let device' = c.command_round-made.new.device in
    let one : KeepsBench m n c.loop-turn.bench bench1 =
    subst (λ (j : ℕ). KeepsBench m j c.loop-turn.bench bench1) f.many c.round-made.ensures.keeps in
    let there = lanes_kept m n c.loop-turn.bench bench1 (n + 1) one f.parties in
    let hg = slice_get_read bench1.guests.items _ c.len-place.result guest refl (omega (arith, there.guests, place))
    c.index_mut.ensures.value in
    let hx = slice_get_read bench1.devices.items _ c.len-place.result device refl (omega (arith, there.devices, place))
    c.index_mut-in-loop-turn.ensures.value in
    let new : Bench _ _ = record {
      guests = with_item bench1.guests c.len-place.result guest';
      devices = with_item bench1.devices c.len-place.result device';
    } in
    let many : length lanes1 ≡ n = c.round-made.ensures.many ∙ f.many in
    record {
      tree = c.round-made.ensures.tree ∙ f.tree;
      many = many;
      parties = written_parties s n c.len-place.result place c.args.bench.now c.loop-turn.bench bench1 guest guest' device device'
          c.requires.parties f.keeps one hg hx new refl refl e.carried;
      few = omega (arith, f.few, c.round-made.ensures.few, e.few);
      keeps = written_keeps s n c.len-place.result place c.args.bench.now c.loop-turn.bench bench1 guest guest' device device'
          c.requires.parties f.keeps one hg hx new refl refl e.carried;
      faults = written_faults s n c.len-place.result place c.args.bench.now c.loop-turn.bench bench1 guest guest' device device'
          c.requires.parties f.keeps one hg hx new refl refl f.faults c.round-made.ensures.faults e.faults;
      each = λ plan k r laid start commands.
          let h = f.each plan k r laid start commands in
          let here = ap (λ t. t.mappings) f.tree ∙ laid in
          let went = c.round-made.ensures.goes plan here true k c.loop-turn.turn h.0 in
          let goes = e.goes plan true k (r + c.loop-turn.turn) (inside s n c.len-place.result place c.args.bench.now c.loop-turn.bench
          bench1 guest guest' device device' c.requires.parties f.keeps one hg hx new refl refl plan guests true k (r + c.loop-turn.turn) c.loop-turn.lane
          h.1) in (
            written_each s n c.len-place.result place c.args.bench.now c.loop-turn.bench bench1 guest guest' device device'
                c.requires.parties f.keeps one hg hx new refl refl _ lanes1 many went.0,
            round_more s plan guests true k (r + c.loop-turn.turn + 1) n c.command_round-made.new.lane (r + (c.loop-turn.turn + 1)) new (omega arith)
                (written_commands s n c.len-place.result place c.args.bench.now c.loop-turn.bench bench1 guest guest' device device'
                c.requires.parties f.keeps one hg hx new refl refl plan guests true k (r + c.loop-turn.turn + 1) c.command_round-made.new.lane goes.0),
            omega (
              arith,
              h.2,
              went.1,
              written_made s n c.len-place.result place c.args.bench.now c.loop-turn.bench bench1 guest guest' device device'
                  c.requires.parties f.keeps one hg hx new refl refl lanes1 c.loop-turn.lane c.command_round-made.new.lane
                  c.command_round-made.result goes.1,
            ),
          );
    }

pub returns-then-is_still-2-clause-goes : goal.returns-then-is_still-2-clause-goes
returns-then-is_still-2-clause-goes g c = λ plan laid k r start commands.
    let s = setting_of g.L.Driver.DriverEnd.driver g.L.Device.DeviceEnd.device g.L.Layout.layout g.G.Guest.party g.V.Device.party in
    let law : IsLawful s = record { layout = g.met.L.Layout.lawful; guest = g.met.G.Guest.lawful; party = g.met.V.Device.lawful } in
    let e = c.loop-turn.invariant.each plan k r laid start commands in (
      all_still s plan true k c.loop-turn.turn c.loop-turn.floor.lanes.items c.loop-turn.bench
          (sym c.is_still.ensures ∙ c.if-is_still.true) e.0,
      λ guest device hg hx. command_still s law plan guests true k (r + c.loop-turn.turn) c.loop-turn.lane guest device
          (sym c.is_still-then-is_still.ensures ∙ c.if-is_still-2.true) (e.1 guest device hg hx),
      e.2,
    )

pub returns-clause-goes : goal.returns-clause-goes
returns-clause-goes g c = λ plan laid k r start commands.
    let s = setting_of g.L.Driver.DriverEnd.driver g.L.Device.DeviceEnd.device g.L.Layout.layout g.G.Guest.party g.V.Device.party in
    let e = c.loop-turn.invariant.each plan k r laid start commands in
    let law : IsLawful s = record { layout = g.met.L.Layout.lawful; guest = g.met.G.Guest.lawful; party = g.met.V.Device.lawful } in (
      all_late s plan law k c.loop-turn.turn c.loop-turn.floor.lanes.items c.loop-turn.bench (omega arith) e.0,
      λ guest device hg hx.
          let held = e.1 guest device hg hx in
          command_still s law plan guests true k (r + c.loop-turn.turn) c.loop-turn.lane guest device
          (command_late s law plan k (r + c.loop-turn.turn) c.loop-turn.lane guest device (omega arith) held) held,
      e.2,
    )
