use Rattle.std.proofs.Common.{◌≡◌, ◌≤◌, ℕ, min, arith, refl, ap, sym, ◌∙◌, subst, [], ◌∷◌, ◌++◌, length, Some, IsSome, inl}
use Rattle.vd_bus.specs.declared.event.Event.{Event}
use Rattle.vd_bus.specs.declared.event.Event.TheVariants.{Suspend}
use Rattle.vd_models.specs.declared.serving.Phase.{Phase}
use Rattle.vd_models.specs.declared.serving.Phase.TheVariants as phase
use Rattle.vd_models.specs.Holding.{capacity_of}
use Rattle.vd_models.specs.Phases.{attached_of, session_of}
use Rattle.vd_models.specs.laws.Laws.{held_law, serves_law, commanded_law, gave_law, pace_law}
use Rattle.vd_models.proofs.Attaching.{held_session, held_room, session_done, session_capacity, session_attached, room_kept}
use Rattle.vd_models.proofs.Parties.{attaches_more}
use Rattle.vd_models.proofs.device.ModelDeviceDevice.suspend.Goals as goal

pub session_of-end-requires : goal.session_of-end-requires
session_of-end-requires g c =
    let m = c.args.self.now in
    subst (λ (p : Phase _). IsSome (attached_of p)) (sym c.replace-phase.ensures.value)
    (held_law g.L.Device.DeviceEnd.device m.phase m.journal m.counts m.settings c.requires.held.0 c.requires.held.1)

pub push-requires : goal.push-requires
push-requires g c =
    let m = c.args.self.now in
    held_room g.L.Device.DeviceEnd.device m.phase m.journal m.counts m.settings c.requires.held.0 c.requires.held.1

pub base-base-requires : goal.base-base-requires
base-base-requires g c =
    let m = c.args.self.now in
    let here : session_of m.phase ≡ Some c.session_of-end.result = ap session_of (sym c.replace-phase.ensures.value)
    ∙ c.session_of-end.ensures in
    inl ((held_session c.session_of-end.result g.L.Device.DeviceEnd.device m.phase m.journal m.counts m.settings c.requires.held.0
    c.requires.held.1 here).1 ∙ sym (session_done c.session_of-end.result m.phase here) ∙ c.requires.done)

pub invariant_of-self : goal.invariant_of-self
invariant_of-self g c =
    let m = c.args.self.now in
    let e = g.L.Device.DeviceEnd.device in
    let law = g.met.L.Layout.lawful.device_end in
    let w = c.requires.held.0 in
    let holds = c.requires.held.1 in
    let s = c.session_of-end.result in
    let here : session_of m.phase ≡ Some s = ap session_of (sym c.replace-phase.ensures.value) ∙ c.session_of-end.ensures in
    let is = session_attached s m.phase here in
    record {
      some = m.some;
      sized = omega (arith, session_capacity s m.phase here, m.sized);
      lens = m.lens;
      paced = λ n few fewer. omega (
        arith,
        pace_law e m.phase m.journal m.counts m.settings w s.by holds is few fewer,
        gave_law e law m.phase m.journal m.counts m.settings w s.by holds is c.requires.done,
        attaches_more m.journal.events.items c.push.new.self.items _ c.push.ensures.items,
      );
    }

pub returns : goal.returns
returns g c =
    let m = c.args.self.now in
    let e = g.L.Device.DeviceEnd.device in
    let s = c.session_of-end.result in
    let here : session_of m.phase ≡ Some s = ap session_of (sym c.replace-phase.ensures.value) ∙ c.session_of-end.ensures in
    let r = held_session s e m.phase m.journal m.counts m.settings c.requires.held.0 c.requires.held.1 here in
    record {
      stands = λ w h. (held_session s e m.phase m.journal m.counts m.settings w h here).0;
      rests = r.1 ∙ sym (session_done s m.phase here) ∙ c.requires.done;
      served = λ w by h is d. serves_law e m.phase m.journal m.counts m.settings w by h is d;
      commanded = λ w by h is q. commanded_law e m.phase m.journal m.counts m.settings w by h is q;
      attached = refl;
      noted = record {
        events = c.push.ensures.items ∙ ap (λ (z : Event). m.journal.events.items ++ z ∷ [])
            (ap (λ n. Suspend n c.base-base.result) c.len-at.ensures.value
            ∙ ap (λ (n : ℕ). Suspend (length m.journal.begun.items) (record { 0 = n })) c.base-base.ensures);
        begun = refl;
        faults = refl;
        window = refl;
        carried = refl;
        room = (
          room_kept m.phase (phase.Free s.held) m.journal.events.room c.push.new.self.room (sym (session_capacity s m.phase here))
              c.push.ensures.room,
          omega arith,
        );
        counts = (refl, refl);
      };
      settings = refl;
    }
