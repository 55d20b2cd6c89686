use Rattle.std.proofs.Common.{arith, rules, ◌≡◌, ◌<◌, false, is_err, refl, sym, ap, ◌∙◌, subst}
use Rattle.circular_buffer.specs.Buffer.{Buffer}
use Rattle.std.specs.Option.{option_copied}
use Rattle.vd_bus.specs.Device.{control_settings}
use Rattle.vd_bus.specs.Pace.{attaches}
use Rattle.vd_models.specs.declared.device.ModelDevice.{ModelDevice}
use Rattle.vd_models.specs.declared.serving.Phase.{Phase}
use Rattle.vd_models.specs.declared.serving.Phase.TheVariants as phase
use Rattle.vd_models.specs.declared.serving.Session.{Session}
use Rattle.vd_models.specs.declared.serving.Stage.TheVariants as stage
use Rattle.vd_models.specs.declared.window.Held.{Held}
use Rattle.vd_models.specs.Holding.{capacity_of}
use Rattle.vd_models.specs.Phases.{phase_at}
use Rattle.vd_models.proofs.Attaching.{attach_holds, at_attached, at_done, at_capacity, at_settings}
use Rattle.vd_models.proofs.Parties.{attaches_more, ok_of, room_most, room_some, room_all}
use Rattle.vd_models.proofs.device.ModelDeviceDevice.attach.Goals.{in-Some, in-None}
use Rattle.vd_models.proofs.device.ModelDeviceDevice.attach.Goals as goal

pub returns : goal.returns
returns g c =
    let e = g.L.Device.DeviceEnd.device in
    let law = g.met.L.Layout.lawful.device_end in
    let m = c.args.self.now in
    let ok : is_err c.resume.result ≡ false = search rules in
    let stands = ok_of c.resume.result _ ok c.resume.ensures.stands in
    let idle = ok_of c.resume.result _ ok c.resume.ensures.begun in
    let events = c.requires.events in
    let is : m.phase ≡ phase.Free c.in-Free.held = sym c.replace.ensures.value ∙ c.in-Free.is in
    let full : 0 < c.in-Free.held.capacity = subst (λ (p : Phase _). 0 < capacity_of p) is (room_some m.phase m.journal.events.room
    (omega arith)) in
    let cleared : c.clear.new.self.capacity ≡ c.in-Free.held.capacity = ap (λ (z : Buffer Held). z.capacity) c.clear.ensures in
    let session : Session g.row.L-Device.Denot =
    record {
      end = c.resume.new.self;
      by = record {
        queue = c.queue.result;
        count = c.count.result;
        at = c.len-at.result;
        from =
            c.taken.result;
      };
      stage = stage.Taking;
      held = c.clear.new.self;
    } in
    let settings : c.match-control.settings ≡ control_settings (λ
    (z : ModelDevice g.row.L.Denot g.row.L-Driver.Denot g.row.L-Device.Denot g.L.Layout g.L.Driver.DriverEnd g.L.Device.DeviceEnd).
    z.settings) (option_copied c.args.control) = elim c.match-control.branch [
      | in-Some w ↦ w.settings-is ∙ sym
          (ap
          (λ o. control_settings {X = ModelDevice g.row.L.Denot g.row.L-Driver.Denot g.row.L-Device.Denot g.L.Layout
          g.L.Driver.DriverEnd g.L.Device.DeviceEnd} (λ z. z.settings) (option_copied o)) w.in-Some.is)
      | in-None w ↦ w.settings-is ∙ w.new-settings.ensures.value ∙ sym
          (ap
          (λ o. control_settings {X = ModelDevice g.row.L.Denot g.row.L-Driver.Denot g.row.L-Device.Denot g.L.Layout
          g.L.Driver.DriverEnd g.L.Device.DeviceEnd} (λ z. z.settings) (option_copied o)) w.in-None.is)
    ] in
    let more = attaches_more m.journal.events.items c.push.new.self.items _ c.push.ensures.items in
    let p = c.phase_of.result in
    let at : p ≡ phase_at session m.settings = c.phase_of.ensures in
    record {
      from = c.taken.result;
      attached = at_attached session m.settings p at ∙ cc (c.queue.ensures, c.count.ensures, c.len-at.ensures.value);
      taken = λ w st. c.taken.ensures w (stands w st);
      holds = λ w st fits. attach_holds e law c.args.end session m.settings p c.push.new.self m.journal.begun m.counts w
          (attaches m.journal.events.items) at refl st c.requires.still (stands w st) idle
          (ok_of c.resume.result _ ok c.resume.ensures.awake) c.len-at.ensures.value
          (c.taken.ensures w (stands w st)) (ap (λ (z : Buffer Held). z.items) c.clear.ensures) (omega arith) (omega
          (arith, c.count.ensures, c.requires.chains)) (omega
          (arith, c.count.ensures, c.requires.few, c.len-at.ensures.value)) m.lens
          (omega (arith, events, room_most m.phase m.journal.events.room, c.push.ensures.room)) more (m.paced c.requires.free)
          ((λ f. c.queue.ensures ∙ fits.0 f), λ q. fits.1 (sym c.queue.ensures ∙ q));
      live = λ d. cc (sym (at_done session m.settings p at) ∙ d);
      noted = record {
        events = cc (
          c.push.ensures.items,
          c.len-at.ensures.value,
          c.ring.ensures,
          c.base-2.ensures,
          c.mode.ensures,
          settings,
          c.map.ensures,
          c.copy.ensures,
        );
        begun = refl;
        faults = refl;
        window = refl;
        carried = refl;
        room = (
          omega (
            arith,
            room_most m.phase m.journal.events.room,
            c.push.ensures.room,
            room_all p c.push.new.self.room (omega (arith, at_capacity session m.settings p at)),
          ),
          omega arith,
        );
        counts = (refl, refl);
      };
      settings = refl;
      attached_with = at_settings session m.settings p at;
    }
