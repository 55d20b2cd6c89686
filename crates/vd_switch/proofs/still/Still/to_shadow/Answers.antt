use Rattle.std.proofs.Common.{None, IsSomeAnd, replicate, ap, sym, ◌∙◌, subst}
use Rattle.vd_control.specs.declared.settings.Settings.{Settings}
use Rattle.vd_relay.specs.ModeEnds.{IsControlOpen, opening}
use Rattle.vd_relay.specs.Modes.{ControlHolds}
use Rattle.vd_relay.specs.Moving.{Holds, start}
use Rattle.vd_relay.specs.Stages.{is_rested}
use Rattle.vd_switch.specs.Stills.{Replays}
use Rattle.vd_switch.proofs.StillEnds.{still_of, both_of}
use Rattle.vd_switch.proofs.still.Still.to_shadow.Goals as goal

pub returns-in-Ok : goal.returns-in-Ok
returns-in-Ok g c = (
  λ off. (
    ap (λ r. r.control) c.new.ensures ∙ c.new-relay.ensures.plain off,
    λ ms w v stands drives paired fresh.
        let e = g.L.Device.DeviceEnd.device in let d = g.L.Driver.DriverEnd.driver in
        let own = c.args.self in
        let even = (g.met.L.Device.DeviceEnd.device_lawful.whole own.end w stands (still_of e own.end own.still)).1 in
        let sized = paired.size ∙ (c.requires.kit.3 w stands).0 in
        subst (λ r. Holds e d (start ms w) r.state r.counts w v) (sym c.new.ensures) (c.new-relay.ensures.holds off ms w v (record {
          serves = c.awake-guest.ensures.stands w stands;
          drives = drives;
          paired = paired;
          outstanding = even;
          fresh = fresh;
          empty = c.requires.kit.2.empty ∙ ap (λ n. replicate n None) (sym sized);
        })),
  ),
  λ on.
      let l = g.L.Layout.layout in let e = g.L.Device.DeviceEnd.device in let d = g.L.Driver.DriverEnd.driver in
      let own = c.args.self in let kit = c.args.kit in let relay = c.new-relay.result in
      subst (λ r. IsSomeAnd r.control (λ k. Replays l e d c.args.replay own.settings own.end kit.driver kit.table r.state k r.counts))
      (sym c.new.ensures)
      (both_of relay.control (c.new-relay.ensures.commands on) (c.new-relay.ensures.over on) (λ k make over w v stands drives ring controls
      fresh.
      let even = (g.met.L.Device.DeviceEnd.device_lawful.whole own.end w stands (still_of e own.end own.still)).1 in
      let sized = controls.size ∙ (c.requires.kit.3 w stands).0 in
      let ends = c.requires.kit.2.ends in
      let opens : IsControlOpen l e d c.awake-guest.result kit.driver kit.table.origins kit.table.commands w v = record {
        serves = c.awake-guest.ensures.stands w stands;
        outstanding = even;
        fresh = record { drives = drives; ring = ring; unused = fresh; idle = ends.driver_idle; unarmed = ends.driver_unarmed };
        paired = controls;
        origins_empty = c.requires.kit.2.empty ∙ ap (λ n. replicate n None) (sym sized);
        commands_empty = c.requires.kit.2.no_commands ∙ ap (λ n. replicate n None) (sym sized);
      } in (
        subst (λ (s : Settings). ControlHolds l e d (opening own.settings c.args.replay w) relay.state k s relay.counts w v)
            c.new-relay.ensures.settings (make w v opens),
        over w v opens,
      ))),
  record {
    counts = ap (λ r. r.counts) c.new.ensures ∙ c.new-relay.ensures.counts;
    winding = ap (λ r. r.state.winding) c.new.ensures ∙ c.new-relay.ensures.winding;
    live = ap (λ r. is_rested r.state.stage) c.new.ensures ∙ c.new-relay.ensures.live;
  },
  ap (λ r. r.settings) c.new.ensures ∙ c.new-relay.ensures.settings,
  c.in-Ok.ensures,
)
