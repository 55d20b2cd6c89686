use Rattle.std.proofs.Common.{◌≡◌, ◌∙◌, ◌+◌, ℕ, false, length, inl, inr, slice_get, arith, sym, ap, refl, subst}
use Rattle.std.proofs.lemmas.Bool.{cases_lt}
use Rattle.std.proofs.lemmas.Option.{slice_get_read}
use Rattle.std.specs.Vec.{with_item}
use Rattle.vd_play.specs.declared.bench.Bench.{Bench}
use Rattle.vd_play.specs.CommandProgress.Next.{guests}
use Rattle.vd_play.specs.Each.{HasLanes}
use Rattle.vd_play.specs.Played.{KeepsBench}
use Rattle.vd_play.specs.Rounds.{AllDone}
use Rattle.vd_play.specs.Setting.{setting_of, IsLawful}
use Rattle.vd_play.proofs.Benches.{keeps_none, lanes_kept}
use Rattle.vd_play.proofs.Bounds.{at_index}
use Rattle.vd_play.proofs.CommandLasting.{command_done}
use Rattle.vd_play.proofs.CommandWrites.{inside, written_keeps, written_parties, written_faults, written_each, written_commands, written_made}
use Rattle.vd_play.proofs.Lasting.{guests_done}
use Rattle.vd_play.proofs.command_epochs.drain_with_commands.Goals as goal

pub loop-turn-init : goal.loop-turn-init
loop-turn-init g c = record {
  many = refl;
  tree = refl;
  parties = c.requires.parties;
  few = omega arith;
  keeps = keeps_none g.V.Device.party _ c.args.bench.now;
  faults = refl;
  each = λ plan k laid start commands. (start, commands, omega arith);
}

pub round-made-requires-clause-parties : goal.round-made-requires-clause-parties
round-made-requires-clause-parties g c =
    let f = c.loop-turn.invariant.parties in
    record {
      guests = omega (arith, f.guests, c.loop-turn.invariant.many);
      devices = omega (arith, f.devices, c.loop-turn.invariant.many);
    }

pub round-made-requires-clause-lanes : goal.round-made-requires-clause-lanes
round-made-requires-clause-lanes g c = let r = c.requires.lanes in (
  r.0,
  false,
  r.1,
  c.loop-turn.turn,
  ap (λ t. t.mappings) c.loop-turn.invariant.tree ∙ r.2,
  (c.loop-turn.invariant.each r.0 r.1 r.2 r.5 r.6).0,
)

pub command_round-made-requires : goal.command_round-made-requires
command_round-made-requires g c =
    let s = setting_of g.L.Driver.DriverEnd.driver g.L.Device.DeviceEnd.device g.L.Layout.layout g.G.Guest.party g.V.Device.party in
    let m = g.V.Device.party in
    let n : ℕ = length c.args.floor.now.lanes.items in
    let f = c.loop-turn.invariant in
    let bench1 = c.round-made.new.bench in
    let one : KeepsBench m n c.loop-turn.bench bench1 =
    subst (λ (j : ℕ). KeepsBench m j c.loop-turn.bench bench1) f.many c.round-made.ensures.keeps in
    let there = lanes_kept m n c.loop-turn.bench bench1 (n + 1) one f.parties in
    let hg = slice_get_read bench1.guests.items _ c.len-place.result c.index_mut.result.now refl
    (omega (arith, there.guests, c.len-place.ensures)) c.index_mut.ensures.value in
    let hx = slice_get_read bench1.devices.items _ c.len-place.result c.index_mut-in-loop-turn.result.now refl
    (omega (arith, there.devices, c.len-place.ensures)) c.index_mut-in-loop-turn.ensures.value in
    let new : Bench _ _ = record {
      guests = with_item bench1.guests c.len-place.result c.index_mut.result.now;
      devices = with_item bench1.devices c.len-place.result c.index_mut-in-loop-turn.result.now;
    } in
    let r = c.requires.lanes in record {
      lane = (
        r.0,
        false,
        r.1,
        c.loop-turn.turn,
        inside s n c.len-place.result (omega (arith, c.len-place.ensures)) c.args.bench.now c.loop-turn.bench bench1
            c.index_mut.result.now c.index_mut.result.now c.index_mut-in-loop-turn.result.now c.index_mut-in-loop-turn.result.now
            c.requires.parties f.keeps one hg hx new refl refl r.0 guests false r.1 c.loop-turn.turn c.loop-turn.lane (f.each r.0 r.1 r.2 r.5 r.6).1,
      );
    }

pub loop-turn-preserved : goal.loop-turn-preserved
loop-turn-preserved g c =
    let s = setting_of g.L.Driver.DriverEnd.driver g.L.Device.DeviceEnd.device g.L.Layout.layout g.G.Guest.party g.V.Device.party in
    let m = g.V.Device.party in
    let n : ℕ = length c.args.floor.now.lanes.items in
    let f = c.loop-turn.invariant in
    let e = c.command_round-made.ensures in
    let place : c.len-place.result ≡ n = omega (arith, c.len-place.ensures) in
    let bench1 = c.round-made.new.bench in
    let lanes1 = c.round-made.new.floor.lanes.items in
    let guest = c.index_mut.result.now in
    let device = c.index_mut-in-loop-turn.result.now in
    let guest' = c.command_round-made.new.guest in
    let device' = c.command_round-made.new.device in
    let one : KeepsBench m n c.loop-turn.bench bench1 =
    subst (λ (j : ℕ). KeepsBench m j c.loop-turn.bench bench1) f.many c.round-made.ensures.keeps in
    let there = lanes_kept m n c.loop-turn.bench bench1 (n + 1) one f.parties in
    let hg = slice_get_read bench1.guests.items _ c.len-place.result guest refl (omega (arith, there.guests, place))
    c.index_mut.ensures.value in
    let hx = slice_get_read bench1.devices.items _ c.len-place.result device refl (omega (arith, there.devices, place))
    c.index_mut-in-loop-turn.ensures.value in
    let new : Bench _ _ = record {
      guests = with_item bench1.guests c.len-place.result guest';
      devices = with_item bench1.devices c.len-place.result device';
    } in
    let many : length lanes1 ≡ n = c.round-made.ensures.many ∙ f.many in
    record {
      tree = c.round-made.ensures.tree ∙ f.tree;
      many = many;
      parties = written_parties s n c.len-place.result place c.args.bench.now c.loop-turn.bench bench1 guest guest' device device'
          c.requires.parties f.keeps one hg hx new refl refl e.carried;
      few = omega (arith, f.few, c.round-made.ensures.few, e.few);
      keeps = written_keeps s n c.len-place.result place c.args.bench.now c.loop-turn.bench bench1 guest guest' device device'
          c.requires.parties f.keeps one hg hx new refl refl e.carried;
      faults = written_faults s n c.len-place.result place c.args.bench.now c.loop-turn.bench bench1 guest guest' device device'
          c.requires.parties f.keeps one hg hx new refl refl f.faults c.round-made.ensures.faults e.faults;
      each = λ plan k laid start commands.
          let h = f.each plan k laid start commands in
          let here = ap (λ t. t.mappings) f.tree ∙ laid in
          let went = c.round-made.ensures.goes plan here false k c.loop-turn.turn h.0 in
          let goes = e.goes plan false k c.loop-turn.turn (inside s n c.len-place.result place c.args.bench.now c.loop-turn.bench
          bench1 guest guest' device device' c.requires.parties f.keeps one hg hx new refl refl plan guests false k c.loop-turn.turn c.loop-turn.lane
          h.1) in (
            written_each s n c.len-place.result place c.args.bench.now c.loop-turn.bench bench1 guest guest' device device'
                c.requires.parties f.keeps one hg hx new refl refl _ lanes1 many went.0,
            written_commands s n c.len-place.result place c.args.bench.now c.loop-turn.bench bench1 guest guest' device device'
                c.requires.parties f.keeps one hg hx new refl refl plan guests false k (c.loop-turn.turn + 1) c.command_round-made.new.lane goes.0,
            omega (
              arith,
              h.2,
              went.1,
              written_made s n c.len-place.result place c.args.bench.now c.loop-turn.bench bench1 guest guest' device device'
                  c.requires.parties f.keeps one hg hx new refl refl lanes1 c.loop-turn.lane c.command_round-made.new.lane
                  c.command_round-made.result goes.1,
            ),
          );
    }

pub returns-then-all_done-clause-goes : goal.returns-then-all_done-clause-goes
returns-then-all_done-clause-goes g c = λ plan laid k start commands.
    let e = c.loop-turn.invariant.each plan k laid start commands in
    ((c.loop-turn.turn, e.0, e.1), e.2)

pub returns-then-all_done-clause-done : goal.returns-then-all_done-clause-done
returns-then-all_done-clause-done g c =
    subst (λ (j : ℕ). AllDone g.G.Guest.party j c.loop-turn.bench) (omega (arith, c.len-place.ensures))
    (c.all_done.ensures c.if-all_done.true)

pub returns-clause-done : goal.returns-clause-done
returns-clause-done g c = λ q guest low hg.
    let s = setting_of g.L.Driver.DriverEnd.driver g.L.Device.DeviceEnd.device g.L.Layout.layout g.G.Guest.party g.V.Device.party in
    let n : ℕ = length c.args.floor.now.lanes.items in
    let r = c.requires.lanes in
    let f = c.loop-turn.invariant in
    let e = f.each r.0 r.1 r.2 r.5 r.6 in
    let law : IsLawful s = record { layout = g.met.L.Layout.lawful; guest = g.met.G.Guest.lawful; party = g.met.V.Device.lawful } in
    let here : HasLanes (length c.loop-turn.floor.lanes.items) c.loop-turn.bench = record {
      guests = omega (arith, f.parties.guests, f.many);
      devices = omega (arith, f.parties.devices, f.many);
    } in
    elim (cases_lt q n) [
      | inl less ↦ guests_done s r.0 law r.1 c.loop-turn.turn c.loop-turn.floor.lanes.items c.loop-turn.bench r.3 here (omega arith) e.0 q
          guest (omega (arith, less, f.many)) hg
      | inr last ↦ (
          let at : q ≡ n = omega (arith, low, last) in
          let x = at_index c.loop-turn.bench.devices.items n (omega (arith, f.parties.devices)) in
          command_done s law r.0 r.1 c.loop-turn.turn c.loop-turn.lane guest x.0 r.4 (omega arith)
          (e.1 guest x.0 (ap (λ (i : ℕ). slice_get c.loop-turn.bench.guests.items i) (sym at) ∙ hg) x.1)
          )
    ]

pub returns-clause-goes : goal.returns-clause-goes
returns-clause-goes g c = λ plan laid k start commands.
    let e = c.loop-turn.invariant.each plan k laid start commands in
    ((c.loop-turn.turn, e.0, e.1), e.2)
