use Rattle.std.proofs.Common.{◌≡◌, ◌∙◌, ◌+◌, ℕ, true, length, map, slice_get, arith, sym, ap, refl, subst}
use Rattle.std.specs.List.{sum_by}
use Rattle.std.specs.Vec.{with_item}
use Rattle.std.proofs.lemmas.Bool.{false≢true}
use Rattle.std.proofs.lemmas.Option.{slice_get_read}
use Rattle.vd_play.specs.declared.bench.Bench.{Bench}
use Rattle.vd_play.specs.CommandProgress.Next.{guests, devices}
use Rattle.vd_play.specs.CommandRounds.{is_replayed}
use Rattle.vd_play.specs.Played.{KeepsBench, HasNoFault}
use Rattle.vd_play.specs.Setting.{setting_of, IsLawful}
use Rattle.vd_play.proofs.Benches.{keeps_none, lanes_kept}
use Rattle.vd_play.proofs.Bounds.{at_index}
use Rattle.vd_play.proofs.CommandBenches.{each_guest_beyond}
use Rattle.vd_play.proofs.CommandLasting.{command_late}
use Rattle.vd_play.proofs.CommandLanes.{still_replayed}
use Rattle.vd_play.proofs.CommandWrites.{inside, written_keeps, written_parties, written_faults, written_commands, written_made}
use Rattle.vd_play.proofs.Each.{get_set_other, set_same}
use Rattle.vd_play.proofs.Lists.{some_same}
use Rattle.vd_play.proofs.command_epochs.replay_rounds.Goals as goal

pub loop-turn-init : goal.loop-turn-init
loop-turn-init g c = record {
  many = refl;
  tree = refl;
  parties = c.requires.parties;
  few = omega arith;
  keeps = keeps_none g.V.Device.party _ c.args.bench.now;
  devices = λ q low. refl;
  ends = refl;
  faults = refl;
  replays = c.requires.replays;
  each = λ plan j k xs many start commands. (start, commands, omega arith);
}

pub guests_round-made-requires-clause-parties : goal.guests_round-made-requires-clause-parties
guests_round-made-requires-clause-parties g c =
    let f = c.loop-turn.invariant.parties in
    record {
      guests = omega (arith, f.guests, c.loop-turn.invariant.many);
      devices = omega (arith, f.devices, c.loop-turn.invariant.many);
    }

pub guests_round-made-requires-clause-lanes : goal.guests_round-made-requires-clause-lanes
guests_round-made-requires-clause-lanes g c =
    let r = c.requires.lanes in
    let f = c.loop-turn.invariant in
    (r.0, r.1, c.loop-turn.turn, r.3, omega (arith, r.4, f.many), (f.each r.0 r.1 r.2 r.3 r.4 r.5 r.6).0)

-- ---- a round, as far as it is made

pub command_guest-made-requires : goal.command_guest-made-requires
command_guest-made-requires g c =
    let s = setting_of g.L.Driver.DriverEnd.driver g.L.Device.DeviceEnd.device g.L.Layout.layout g.G.Guest.party g.V.Device.party in
    let m = g.V.Device.party in
    let n : ℕ = length c.args.floor.now.lanes.items in
    let f = c.loop-turn.invariant in
    let place : c.len-place.result ≡ n = omega (arith, c.len-place.ensures) in
    let bench1 = c.guests_round-made.new.bench in
    let one : KeepsBench m n c.loop-turn.bench bench1 =
    subst (λ (j : ℕ). KeepsBench m j c.loop-turn.bench bench1) f.many c.guests_round-made.ensures.keeps in
    let there = lanes_kept m n c.loop-turn.bench bench1 (n + 1) one f.parties in
    let guest = c.index_mut.result.now in
    let hg = slice_get_read bench1.guests.items _ c.len-place.result guest refl (omega (arith, there.guests, place))
    c.index_mut.ensures.value in
    let x = at_index bench1.devices.items c.len-place.result (omega (arith, there.devices, place)) in
    let device = x.0 in
    let hx = x.1 in
    let new : Bench _ _ = record {
      guests = with_item bench1.guests c.len-place.result guest;
      devices = with_item bench1.devices c.len-place.result device;
    } in
    let r = c.requires.lanes in
    let e = f.each r.0 r.1 r.2 r.3 r.4 r.5 r.6 in
    let at = inside s n c.len-place.result place c.args.bench.now c.loop-turn.bench bench1 guest guest device device c.requires.parties
    f.keeps one hg hx new refl refl r.0 guests true r.2 c.loop-turn.turn c.loop-turn.lane e.1 in
    record { lane = (r.0, true, r.2, c.loop-turn.turn, device, at) }

pub command_relay-made-requires : goal.command_relay-made-requires
command_relay-made-requires g c =
    let s = setting_of g.L.Driver.DriverEnd.driver g.L.Device.DeviceEnd.device g.L.Layout.layout g.G.Guest.party g.V.Device.party in
    let m = g.V.Device.party in
    let n : ℕ = length c.args.floor.now.lanes.items in
    let f = c.loop-turn.invariant in
    let place : c.len-place.result ≡ n = omega (arith, c.len-place.ensures) in
    let bench1 = c.guests_round-made.new.bench in
    let one : KeepsBench m n c.loop-turn.bench bench1 =
    subst (λ (j : ℕ). KeepsBench m j c.loop-turn.bench bench1) f.many c.guests_round-made.ensures.keeps in
    let there = lanes_kept m n c.loop-turn.bench bench1 (n + 1) one f.parties in
    let guest = c.index_mut.result.now in
    let hg = slice_get_read bench1.guests.items _ c.len-place.result guest refl (omega (arith, there.guests, place))
    c.index_mut.ensures.value in
    let x = at_index bench1.devices.items c.len-place.result (omega (arith, there.devices, place)) in
    let device = x.0 in
    let hx = x.1 in
    let new : Bench _ _ = record {
      guests = with_item bench1.guests c.len-place.result guest;
      devices = with_item bench1.devices c.len-place.result device;
    } in
    let r = c.requires.lanes in
    let e = f.each r.0 r.1 r.2 r.3 r.4 r.5 r.6 in
    let at = inside s n c.len-place.result place c.args.bench.now c.loop-turn.bench bench1 guest guest device device c.requires.parties
    f.keeps one hg hx new refl refl r.0 guests true r.2 c.loop-turn.turn c.loop-turn.lane e.1 in
    record {
      lane = (
        r.0,
        true,
        r.2,
        c.loop-turn.turn,
        c.command_guest-made.new.guest,
        device,
        (c.command_guest-made.ensures.goes r.0 true r.2 c.loop-turn.turn device at).0,
      );
    }

pub command_device-made-requires : goal.command_device-made-requires
command_device-made-requires g c =
    let s = setting_of g.L.Driver.DriverEnd.driver g.L.Device.DeviceEnd.device g.L.Layout.layout g.G.Guest.party g.V.Device.party in
    let m = g.V.Device.party in
    let n : ℕ = length c.args.floor.now.lanes.items in
    let f = c.loop-turn.invariant in
    let place : c.len-place.result ≡ n = omega (arith, c.len-place.ensures) in
    let bench1 = c.guests_round-made.new.bench in
    let one : KeepsBench m n c.loop-turn.bench bench1 =
    subst (λ (j : ℕ). KeepsBench m j c.loop-turn.bench bench1) f.many c.guests_round-made.ensures.keeps in
    let there = lanes_kept m n c.loop-turn.bench bench1 (n + 1) one f.parties in
    let guest = c.index_mut.result.now in
    let hg = slice_get_read bench1.guests.items _ c.len-place.result guest refl (omega (arith, there.guests, place))
    c.index_mut.ensures.value in
    let device = c.index_mut-in-loop-turn.result.now in
    let hx = slice_get_read bench1.devices.items _ c.len-place.result device refl (omega (arith, there.devices, place))
    c.index_mut-in-loop-turn.ensures.value in
    let new : Bench _ _ = record {
      guests = with_item bench1.guests c.len-place.result guest;
      devices = with_item bench1.devices c.len-place.result device;
    } in
    let r = c.requires.lanes in
    let e = f.each r.0 r.1 r.2 r.3 r.4 r.5 r.6 in
    let at = inside s n c.len-place.result place c.args.bench.now c.loop-turn.bench bench1 guest guest device device c.requires.parties
    f.keeps one hg hx new refl refl r.0 guests true r.2 c.loop-turn.turn c.loop-turn.lane e.1 in
    let at1 = c.command_guest-made.ensures.goes r.0 true r.2 c.loop-turn.turn device at in
    let at2 = c.command_relay-made.ensures.goes r.0 true r.2 c.loop-turn.turn c.command_guest-made.new.guest device at1.0 in
    record { lane = (r.0, true, r.2, c.loop-turn.turn, c.command_guest-made.new.guest, at2.0) }

pub loop-turn-preserved : goal.loop-turn-preserved
loop-turn-preserved g c =
    let s = setting_of g.L.Driver.DriverEnd.driver g.L.Device.DeviceEnd.device g.L.Layout.layout g.G.Guest.party g.V.Device.party in
    let m = g.V.Device.party in
    let n : ℕ = length c.args.floor.now.lanes.items in
    let f = c.loop-turn.invariant in
    let place : c.len-place.result ≡ n = omega (arith, c.len-place.ensures) in
    let bench1 = c.guests_round-made.new.bench in
    let one : KeepsBench m n c.loop-turn.bench bench1 =
    subst (λ (j : ℕ). KeepsBench m j c.loop-turn.bench bench1) f.many c.guests_round-made.ensures.keeps in
    let there = lanes_kept m n c.loop-turn.bench bench1 (n + 1) one f.parties in
    let guest = c.index_mut.result.now in
    let hg = slice_get_read bench1.guests.items _ c.len-place.result guest refl (omega (arith, there.guests, place))
    c.index_mut.ensures.value in
    let device = c.index_mut-in-loop-turn.result.now in
    let hx = slice_get_read bench1.devices.items _ c.len-place.result device refl (omega (arith, there.devices, place))
    c.index_mut-in-loop-turn.ensures.value in
    let new : Bench _ _ = record {
      guests = with_item bench1.guests c.len-place.result guest;
      devices = with_item bench1.devices c.len-place.result device;
    } in
    let lanes1 = c.guests_round-made.new.floor.lanes.items in
    let many1 : length lanes1 ≡ n = c.guests_round-made.ensures.many ∙ f.many in
    let guest' = c.command_guest-made.new.guest in
    let device' = c.command_device-made.new.device in
    let last : Bench _ _ = record {
      guests = with_item bench1.guests c.len-place.result guest';
      devices = with_item bench1.devices c.len-place.result device';
    } in
    let d = c.command_device-made.ensures in
    let no_fault : HasNoFault m c.loop-turn.bench bench1 = ap (λ v. map m.faults v.items) c.guests_round-made.ensures.devices in
    record {
      many = many1;
      tree = c.guests_round-made.ensures.tree ∙ f.tree;
      parties = written_parties s n c.len-place.result place c.args.bench.now c.loop-turn.bench bench1 guest guest' device device'
          c.requires.parties f.keeps one hg hx last refl refl d.carried;
      few = omega (
        arith,
        f.few,
        c.guests_round-made.ensures.few,
        c.command_guest-made.ensures.few,
        c.command_relay-made.ensures.few,
        d.few,
      );
      keeps = written_keeps s n c.len-place.result place c.args.bench.now c.loop-turn.bench bench1 guest guest' device device'
          c.requires.parties f.keeps one hg hx last refl refl d.carried;
      devices = λ q low. get_set_other bench1.devices.items c.len-place.result q device' (λ same. absurd (omega (arith, same, low, place)))
          ∙ ap (λ v. slice_get v.items q) c.guests_round-made.ensures.devices ∙ f.devices q low;
      ends = c.guests_round-made.ensures.ends ∙ f.ends;
      faults = written_faults s n c.len-place.result place c.args.bench.now c.loop-turn.bench bench1 guest guest' device device'
          c.requires.parties f.keeps one hg hx last refl refl f.faults no_fault d.faults;
      replays = d.replayed ∙ sym c.replayed.ensures ∙ c.if-replayed.false;
      each = λ plan j k xs many start commands.
          let e = f.each plan j k xs many start commands in
          let at = inside s n c.len-place.result place c.args.bench.now c.loop-turn.bench bench1 guest guest device device c.requires.parties
          f.keeps one hg hx new refl refl plan guests true k c.loop-turn.turn c.loop-turn.lane e.1 in
          let at1 = c.command_guest-made.ensures.goes plan true k c.loop-turn.turn device at in
          let at2 = c.command_relay-made.ensures.goes plan true k c.loop-turn.turn guest' device at1.0 in
          let at3 = d.goes plan true k c.loop-turn.turn guest' at2.0 in
          let went = c.guests_round-made.ensures.goes.wait plan j c.loop-turn.turn xs (omega (arith, many, f.many)) e.0 in (
            each_guest_beyond _ lanes1 bench1.guests.items xs c.len-place.result guest' (omega (arith, many1, place)) went,
            written_commands s n c.len-place.result place c.args.bench.now c.loop-turn.bench bench1 guest guest' device device'
                c.requires.parties f.keeps one hg hx last refl refl plan guests true k (c.loop-turn.turn + 1)
                c.command_device-made.new.lane at3.0,
            omega (
              arith,
              e.2,
              c.guests_round-made.ensures.goes.counted,
              ap (λ v. sum_by m.accesses v.items) c.guests_round-made.ensures.devices,
              written_made s n c.len-place.result place c.args.bench.now c.loop-turn.bench bench1 guest guest' device device'
                  c.requires.parties f.keeps one hg hx last refl refl lanes1 c.loop-turn.lane c.command_device-made.new.lane
                  (c.command_guest-made.result + c.command_relay-made.result + c.command_device-made.result)
                  (omega (arith, at1.1, at2.1, at3.1)),
            ),
          );
    }

-- ---- the replay is acknowledged

pub returns-then-replayed-clause-keeps : goal.returns-then-replayed-clause-keeps
returns-then-replayed-clause-keeps g c =
    let s = setting_of g.L.Driver.DriverEnd.driver g.L.Device.DeviceEnd.device g.L.Layout.layout g.G.Guest.party g.V.Device.party in
    let m = g.V.Device.party in
    let n : ℕ = length c.args.floor.now.lanes.items in
    let f = c.loop-turn.invariant in
    let place : c.len-place.result ≡ n = omega (arith, c.len-place.ensures) in
    let bench1 = c.guests_round-made.new.bench in
    let one : KeepsBench m n c.loop-turn.bench bench1 =
    subst (λ (j : ℕ). KeepsBench m j c.loop-turn.bench bench1) f.many c.guests_round-made.ensures.keeps in
    let there = lanes_kept m n c.loop-turn.bench bench1 (n + 1) one f.parties in
    let guest = c.index_mut.result.now in
    let hg = slice_get_read bench1.guests.items _ c.len-place.result guest refl (omega (arith, there.guests, place))
    c.index_mut.ensures.value in
    let x = at_index bench1.devices.items c.len-place.result (omega (arith, there.devices, place)) in
    let device = x.0 in
    let hx = x.1 in
    let guest' = c.command_guest-made.new.guest in
    let last : Bench _ _ = record { guests = with_item bench1.guests c.len-place.result guest'; devices = bench1.devices } in
    written_keeps s n c.len-place.result place c.args.bench.now c.loop-turn.bench bench1 guest guest' device device
    c.requires.parties f.keeps one hg hx last refl (sym (set_same bench1.devices.items c.len-place.result device hx)) refl

pub returns-then-replayed-clause-goes : goal.returns-then-replayed-clause-goes
returns-then-replayed-clause-goes g c = λ plan j k xs many start commands.
    let s = setting_of g.L.Driver.DriverEnd.driver g.L.Device.DeviceEnd.device g.L.Layout.layout g.G.Guest.party g.V.Device.party in
    let m = g.V.Device.party in
    let n : ℕ = length c.args.floor.now.lanes.items in
    let f = c.loop-turn.invariant in
    let place : c.len-place.result ≡ n = omega (arith, c.len-place.ensures) in
    let bench1 = c.guests_round-made.new.bench in
    let one : KeepsBench m n c.loop-turn.bench bench1 =
    subst (λ (j : ℕ). KeepsBench m j c.loop-turn.bench bench1) f.many c.guests_round-made.ensures.keeps in
    let there = lanes_kept m n c.loop-turn.bench bench1 (n + 1) one f.parties in
    let guest = c.index_mut.result.now in
    let hg = slice_get_read bench1.guests.items _ c.len-place.result guest refl (omega (arith, there.guests, place))
    c.index_mut.ensures.value in
    let x = at_index bench1.devices.items c.len-place.result (omega (arith, there.devices, place)) in
    let device = x.0 in
    let hx = x.1 in
    let new : Bench _ _ = record {
      guests = with_item bench1.guests c.len-place.result guest;
      devices = with_item bench1.devices c.len-place.result device;
    } in
    let lanes1 = c.guests_round-made.new.floor.lanes.items in
    let many1 : length lanes1 ≡ n = c.guests_round-made.ensures.many ∙ f.many in
    let guest' = c.command_guest-made.new.guest in
    let last : Bench _ _ = record { guests = with_item bench1.guests c.len-place.result guest'; devices = bench1.devices } in
    let as_it_was = sym (set_same bench1.devices.items c.len-place.result device hx) in
    let e = f.each plan j k xs many start commands in
    let at = inside s n c.len-place.result place c.args.bench.now c.loop-turn.bench bench1 guest guest device device c.requires.parties
    f.keeps one hg hx new refl refl plan guests true k c.loop-turn.turn c.loop-turn.lane e.1 in
    let at1 = c.command_guest-made.ensures.goes plan true k c.loop-turn.turn device at in
    let at2 = c.command_relay-made.ensures.goes plan true k c.loop-turn.turn guest' device at1.0 in
    let went = c.guests_round-made.ensures.goes.wait plan j c.loop-turn.turn xs (omega (arith, many, f.many)) e.0 in
    let set = c.command_relay-made.ensures.replayed plan true k c.loop-turn.turn guest' device at1.0
    (ap is_replayed c.command_guest-made.ensures.relaying ∙ f.replays) (sym c.replayed.ensures ∙ c.if-replayed.true) in (
      record {
        rounds = c.loop-turn.turn;
        few = c.loop-turn-test.true;
        wait = each_guest_beyond _ lanes1 bench1.guests.items xs c.len-place.result guest' (omega (arith, many1, place)) went;
        commands = written_commands s n c.len-place.result place c.args.bench.now c.loop-turn.bench bench1 guest guest' device device
            c.requires.parties f.keeps one hg hx last refl as_it_was plan devices true k c.loop-turn.turn c.command_relay-made.new.lane
            at2.0;
        settings = λ x' at'.
            ap s.party.settings (some_same x' device (slice_get bench1.devices.items n) at'
            (ap (λ (i : ℕ). slice_get bench1.devices.items i) (sym place) ∙ hx)) ∙ set;
      },
      omega (
        arith,
        e.2,
        c.guests_round-made.ensures.goes.counted,
        ap (λ v. sum_by m.accesses v.items) c.guests_round-made.ensures.devices,
        written_made s n c.len-place.result place c.args.bench.now c.loop-turn.bench bench1 guest guest' device device
            c.requires.parties f.keeps one hg hx last refl as_it_was lanes1 c.loop-turn.lane c.command_relay-made.new.lane
            (c.command_guest-made.result + c.command_relay-made.result) (omega (arith, at1.1, at2.1)),
      ),
    )

-- so many rounds are never made
pub unreachable-requires : goal.unreachable-requires
unreachable-requires g c =
    let s = setting_of g.L.Driver.DriverEnd.driver g.L.Device.DeviceEnd.device g.L.Layout.layout g.G.Guest.party g.V.Device.party in
    let n : ℕ = length c.args.floor.now.lanes.items in
    let law : IsLawful s = record { layout = g.met.L.Layout.lawful; guest = g.met.G.Guest.lawful; party = g.met.V.Device.lawful } in
    let f = c.loop-turn.invariant in
    let r = c.requires.lanes in
    let e = f.each r.0 r.1 r.2 r.3 r.4 r.5 r.6 in
    let b = at_index c.loop-turn.bench.guests.items n (omega (arith, f.parties.guests)) in
    let x = at_index c.loop-turn.bench.devices.items n (omega (arith, f.parties.devices)) in
    let held = e.1 b.0 x.0 b.1 x.1 in
    let still = command_late s law r.0 r.2 c.loop-turn.turn c.loop-turn.lane b.0 x.0 (omega arith) held in
    false≢true (sym f.replays ∙ still_replayed s r.0 r.2 c.loop-turn.turn c.loop-turn.lane.words c.loop-turn.lane.relayed b.0 x.0 guests
    true c.loop-turn.lane.still c.loop-turn.lane.relaying still held.held)
