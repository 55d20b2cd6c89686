use Rattle.std.proofs.Common.{rules, ◌+◌, ◌∙◌, refl, arith}
use Rattle.vd_play.specs.Setting.{setting_of, IsLawful}
use Rattle.vd_play.proofs.Going.{goes_on, stops}
use Rattle.vd_play.proofs.Low.{low_few, passing_low}
use Rattle.vd_play.proofs.alone.pass_alone.Goals as goal

pub loop-turn-init : goal.loop-turn-init
loop-turn-init g c = record { each = λ plan q k relayed p. (p, omega arith); carried = refl; faults = refl }

pub guest_once-requires : goal.guest_once-requires
guest_once-requires g c =
    let r = c.requires.passing in
    let p = (c.loop-turn.invariant.each r.0 r.1 r.2 r.3 r.4).0 in record {
      on = (p.view, p.device_view, p.kept.driven.ring, p.kept.driven.part.holds);
    }

pub device_once-requires-clause-live : goal.device_once-requires-clause-live
device_once-requires-clause-live g c =
    let r = c.requires.passing in
    (c.loop-turn.invariant.each r.0 r.1 r.2 r.3 r.4).0.serves.live

pub device_once-requires-clause-on : goal.device_once-requires-clause-on
device_once-requires-clause-on g c =
    let r = c.requires.passing in
    let p = (c.loop-turn.invariant.each r.0 r.1 r.2 r.3 r.4).0 in
    let t = c.guest_once.ensures.turn p.view p.device_view p.kept.driven.ring p.kept.driven.part.holds in
    (t.run.view, p.device_view, t.run.ring, p.serves.holds)

pub suspend-requires-clause-held : goal.suspend-requires-clause-held
suspend-requires-clause-held g c =
    let r = c.requires.passing in
    let p = (c.loop-turn.invariant.each r.0 r.1 r.2 r.3 r.4).0 in
    let t = c.guest_once.ensures.turn p.view p.device_view p.kept.driven.ring p.kept.driven.part.holds in
    let u = c.device_once.ensures.turn t.run.view p.device_view t.run.ring p.serves.holds in
    (u.run.view, u.run.holds)

pub loop-turn-preserved : goal.loop-turn-preserved
loop-turn-preserved g c =
    let s = setting_of g.L.Driver.DriverEnd.driver g.L.Device.DeviceEnd.device g.L.Layout.layout g.G.Guest.party g.V.Device.party in
    let live : g.V.Device.party.is_done c.device_once.new.device → ⊥ = λ x. cc (c.done.ensures.1 x, c.if-done.false) in
    let r = c.requires.passing in
    let p0 = (c.loop-turn.invariant.each r.0 r.1 r.2 r.3 r.4).0 in
    let t0 = c.guest_once.ensures.turn p0.view p0.device_view p0.kept.driven.ring p0.kept.driven.part.holds in
    let served = (c.device_once.ensures.turn t0.run.view p0.device_view t0.run.ring p0.serves.holds).run.served in
    record {
      each = λ plan q k relayed start.
          let e = c.loop-turn.invariant.each plan q k relayed start in
          let p = e.0 in
          let t = c.guest_once.ensures.turn p.view p.device_view p.kept.driven.ring p.kept.driven.part.holds in
          let u = c.device_once.ensures.turn t.run.view p.device_view t.run.ring p.serves.holds in
          let x = goes_on s (record { layout = g.met.L.Layout.lawful; guest = g.met.G.Guest.lawful; party = g.met.V.Device.lawful })
          plan q k c.loop-turn.turn _ _ c.guest_once.ensures.few c.device_once.ensures.few _ _ _ relayed _ _ _ _ p
          c.guest_once.ensures.ring c.device_once.ensures.ring t u live in
          (x.0, omega (arith, e.1, x.1));
      carried = served.carried ∙ c.loop-turn.invariant.carried;
      faults = served.faults ∙ c.loop-turn.invariant.faults;
    }

pub returns-then-done-clause-ends : goal.returns-then-done-clause-ends
returns-then-done-clause-ends g c = λ plan q k relayed start.
    let s = setting_of g.L.Driver.DriverEnd.driver g.L.Device.DeviceEnd.device g.L.Layout.layout g.G.Guest.party g.V.Device.party in
    let e = c.loop-turn.invariant.each plan q k relayed start in
    let p = e.0 in
    let t = c.guest_once.ensures.turn p.view p.device_view p.kept.driven.ring p.kept.driven.part.holds in
    let u = c.device_once.ensures.turn t.run.view p.device_view t.run.ring p.serves.holds in
    let done : g.V.Device.party.is_done c.device_once.new.device = search rules in
    let z = c.suspend.ensures in
    let x = stops s (record { layout = g.met.L.Layout.lawful; guest = g.met.G.Guest.lawful; party = g.met.V.Device.lawful }) plan q k
    c.loop-turn.turn _ _ c.guest_once.ensures.few c.device_once.ensures.few _ _ _ relayed _ _ _ _ _ z.0 p
    c.guest_once.ensures.ring c.device_once.ensures.ring t u done z.2 in
    ((c.loop-turn.turn + 1, z.0, z.1, x.0), omega (arith, e.1, x.1))

pub unreachable-requires : goal.unreachable-requires
unreachable-requires g c =
    let s = setting_of g.L.Driver.DriverEnd.driver g.L.Device.DeviceEnd.device g.L.Layout.layout g.G.Guest.party g.V.Device.party in
    let r = c.requires.passing in
    let p = (c.loop-turn.invariant.each r.0 r.1 r.2 r.3 r.4).0 in
    let law : IsLawful s = record { layout = g.met.L.Layout.lawful; guest = g.met.G.Guest.lawful; party = g.met.V.Device.lawful } in
    let low = low_few s r.0 r.1 r.3 c.loop-turn.guest c.loop-turn.device (passing_low s law r.0 r.1 r.2 c.loop-turn.turn _ r.3 _ _ p) in
    absurd (omega (arith, p.rounds, low))

pub returns-then-done-clause-carried : goal.returns-then-done-clause-carried
returns-then-done-clause-carried g c =
    let r = c.requires.passing in
    let p = (c.loop-turn.invariant.each r.0 r.1 r.2 r.3 r.4).0 in
    let t = c.guest_once.ensures.turn p.view p.device_view p.kept.driven.ring p.kept.driven.part.holds in
    let u = c.device_once.ensures.turn t.run.view p.device_view t.run.ring p.serves.holds in
    c.suspend.ensures.2.noted.carried ∙ u.run.served.carried ∙ c.loop-turn.invariant.carried

pub returns-then-done-clause-faults : goal.returns-then-done-clause-faults
returns-then-done-clause-faults g c =
    let r = c.requires.passing in
    let p = (c.loop-turn.invariant.each r.0 r.1 r.2 r.3 r.4).0 in
    let t = c.guest_once.ensures.turn p.view p.device_view p.kept.driven.ring p.kept.driven.part.holds in
    let u = c.device_once.ensures.turn t.run.view p.device_view t.run.ring p.serves.holds in
    c.suspend.ensures.2.noted.faults ∙ u.run.served.faults ∙ c.loop-turn.invariant.faults
