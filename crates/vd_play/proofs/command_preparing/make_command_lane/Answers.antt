use Rattle.std.proofs.Common.{◌≡◌, length, refl, sym, ap, subst, arith, ◌∙◌, Some, replicate, true}
use Rattle.vd_ring.specs.declared.frame.Frame.{Frame}
use Rattle.vd_ring.specs.Fresh.{fresh_device}
use Rattle.vd_layout.specs.Layout.{CanMake, IsMadeWith}
use Rattle.vd_bus.specs.Scripts.{IsScript}
use Rattle.vd_machine.specs.File.{view, Plan}
use Rattle.vd_play.specs.Commands.{control_queue}
use Rattle.vd_play.specs.ControlRings.{control_frame}
use Rattle.vd_play.specs.Renewing.{renewals}
use Rattle.vd_play.specs.Setting.{setting_of}
use Rattle.vd_play.proofs.Chained.{few_switches}
use Rattle.vd_play.proofs.CommandPrepared.{has_control}
use Rattle.vd_play.proofs.CommandMaking.{script_of, is_script, commands_made}
use Rattle.vd_play.proofs.ControlQueues.{ControlParts, control_lawful, control_queue_is}
use Rattle.vd_play.proofs.Rooms.{renewals_few}
use Rattle.vd_play.proofs.command_preparing.make_command_lane.Goals as goal

pub load-requires-clause-few : goal.load-requires-clause-few
load-requires-clause-few g c =
    subst IsScript (script_of (view c.args.m.now) c.args.script.now c.requires.script)
    (is_script (control_queue (view c.args.m.now)) (control_lawful (view c.args.m.now) c.args.m.now.controlled))

pub boot-requires-clause-unused : goal.boot-requires-clause-unused
boot-requires-clause-unused g c =
    let none = g.met.G.Guest.lawful.unloaded c.args.guest.now c.requires.guest.script in
    (c.load.ensures.offered ∙ none.0, c.load.ensures.returned ∙ none.1)

pub event_count-events-requires-clause-renewals : goal.event_count-events-requires-clause-renewals
event_count-events-requires-clause-renewals g c = omega (
  arith,
  renewals_few c.as_slice.result.now,
  ap length c.as_slice.ensures,
  few_switches c.args.m.now.switches c.args.m.now.switched,
)

pub new-requires-2-clause-ring : goal.new-requires-2-clause-ring
new-requires-2-clause-ring g c =
    let l = g.L.Layout.layout in
    let f : Frame = control_frame l (view c.args.m.now) in (
      fresh_device f (l.width f),
      c.in_ok-driver.ensures.serves f (record { packed = refl; size = refl; features = refl; control = refl }),
      refl,
    )

pub returns-clause-guest : goal.returns-clause-guest
returns-clause-guest g c =
    let none = g.met.G.Guest.lawful.unloaded c.args.guest.now c.requires.guest.script in
    record {
      offered = c.boot.ensures.offered ∙ c.load.ensures.offered ∙ none.0;
      returned = c.boot.ensures.returned ∙ c.load.ensures.returned ∙ none.1;
      idle = (
        c.boot.ensures.counts.0 ∙ c.load.ensures.counts.0 ∙ c.requires.guest.idle.0,
        c.boot.ensures.counts.1 ∙ c.load.ensures.counts.1 ∙ c.requires.guest.idle.1,
      );
    }

pub returns-clause-ok : goal.returns-clause-ok
returns-clause-ok g c =
    let l = g.L.Layout.layout in
    let m = c.args.m.now in
    let plan : Plan = view m in
    let parts : ControlParts (control_queue plan) = control_lawful plan m.controlled in
    let can : CanMake l plan.size plan.features = record { lawful = c.requires.layout.lawful } in
    let queue = control_queue_is l plan m.controlled m.sized m.switched can (has_control plan c.args.script.now c.requires.script) in
    let here : control_queue plan ≡ c.args.script.now = script_of plan c.args.script.now c.requires.script in
    let with : IsMadeWith l plan.size plan.features true (control_frame l plan) =
    record { packed = refl; size = refl; features = refl; control = refl } in
    let words = c.in_ok-words.ensures.1 ∙ ap (λ n. replicate n 0) (c.words-words.ensures (control_frame l plan) with) in
    record {
      held = commands_made
          (setting_of g.L.Driver.DriverEnd.driver g.L.Device.DeviceEnd.device g.L.Layout.layout g.G.Guest.party g.V.Device.party)
          (record { layout = g.met.L.Layout.lawful; guest = g.met.G.Guest.lawful; party = g.met.V.Device.lawful }) plan _
          c.in_ok-driver.driver c.in_ok-driver.end _ _ _ _ _ _ _ _ queue can parts.runs c.in_ok-words.ensures.0 words
          c.in_ok-driver.ensures c.new-2.ensures.end c.new-2.ensures.control c.new-2.ensures.settings c.requires.guest
          (c.in_ok-load.ensures.ok.1 ∙ ap Some (sym here)) c.load.ensures.counts c.boot.ensures c.requires.device c.requires.set
          c.reserve.ensures.same c.in_ok-reserve.ensures.window
          (omega (
            arith,
            c.in_ok-reserve.ensures.room.0,
            c.event_count-events.ensures,
            ap length c.as_slice.ensures,
            ap renewals c.as_slice.ensures,
          ))
          (omega (arith, c.in_ok-reserve.ensures.room.1, c.command_work.ensures));
      kits = c.in_ok-kits.ensures;
    }
