-- A step of a relay of a control queue that replays.
use Rattle.std.proofs.Common.{◌≡◌, ◌<◌, ◌≤◌, Bool, false, None, length, replicate, refl, sym, ◌∙◌, ap, subst, arith, inl, inr}
use Rattle.vd_words.specs.Model.{PortModel}
use Rattle.vd_ring.specs.declared.frame.Frame.{Frame}
use Rattle.vd_ring.specs.declared.driver.DriverView.{DriverView}
use Rattle.vd_ring.specs.declared.device.DeviceView.{DeviceView}
use Rattle.vd_layout.specs.Begun.{DeviceOp}
use Rattle.vd_layout.specs.Driver.{DriverModel, IsLawfulDriver}
use Rattle.vd_layout.specs.Device.{DeviceModel}
use Rattle.vd_layout.specs.Layout.{LayoutModel}
use Rattle.vd_layout.specs.declared.moves.Move.{Move}
use Rattle.vd_control.specs.declared.settings.Settings.{Settings}
use Rattle.vd_control.specs.Settings.{replay}
use Rattle.vd_ring.specs.History.{collects}
use Rattle.vd_relay.specs.declared.carry.Carry.TheVariants as carry
use Rattle.vd_relay.specs.declared.control.Control.{Control}
use Rattle.vd_relay.specs.declared.control.Mode.TheVariants.{Replaying}
use Rattle.vd_relay.specs.declared.counts.Counts.{Counts}
use Rattle.vd_relay.specs.declared.counts.Turn.{Turn}
use Rattle.vd_relay.specs.declared.replay.Replay.{Replay}
use Rattle.vd_relay.specs.declared.stage.Stage.TheVariants as stage
use Rattle.vd_relay.specs.declared.state.State.{State}
use Rattle.vd_relay.specs.Pace.{raised, move_of}
use Rattle.vd_relay.specs.Pairing.{AreControls}
use Rattle.vd_relay.specs.Replays.{IsSameReplay, ReplayHolds, ReplayTurn, replay_owes}
use Rattle.vd_relay.specs.Modes.{Opening, IsReplaying, ControlHolds}
use Rattle.vd_relay.specs.ModeEnds.{IsControlOpen, opening}
use Rattle.vd_relay.specs.ModeSteps.{OnShadowControl}
use Rattle.vd_relay.proofs.Steps.{Noted, paces, looked_is, both, is_left_out, left_exact, left_counts}
use Rattle.vd_relay.proofs.Modes.{replaying_of, with_replay}

-- a new one replays
pub opens : {E D : Type 0} (l : LayoutModel) (e : DeviceModel E) (d : DriverModel D) (s : Settings) (replays : Bool) (r : State E D)
    (k : Control) (w : DeviceView) (v : DriverView)
    → IsControlOpen l e d r.guest r.shadow r.table k.commander.commands w v → e.begun r.guest ≡ DeviceOp.idle → e.resting r.guest ≡ false
    → e.armed r.guest ≡ false → (r.stage ≡ stage.Taking) × (r.winding ≡ false) × (r.target ≡ 0) → ReplayHolds l d k.replay r.shadow v
    → k.replay.winding ≡ false → k.replay.target ≡ 0 → k.commander.hand ≡ carry.None
    → replay_owes d k.replay.winding k.replay.stage r.shadow v ≤ 64
    → IsReplaying l e d (opening s replays w) r k s (record { accesses = 0; handled = 0; heard = 0 }) w v
opens l e d s replays r k w v o idle awake unarmed fresh holds off until hand paid = record {
  replays = holds;
  free = record { serves = o.serves; even = o.outstanding; idle = idle; awake = awake; unarmed = unarmed };
  untouched = record { takes = refl; gives = refl };
  paired = o.paired;
  waits = fresh.0;
  winding = fresh.1 ∙ sym off;
  target = fresh.2 ∙ sym until;
  origins = o.origins_empty;
  commands = o.commands_empty;
  hand = hand;
  settings = refl;
  pace = λ i j n. omega (arith, paid);
}

module _ {Q E D : Type 0} (port : PortModel Q) (l : LayoutModel) (e : DeviceModel E) (d : DriverModel D) (ldr : IsLawfulDriver d)
    (z : Opening) (p q : Q) (r : State E D) (x' : D) (k k' : Control) (r' : Replay) (s : Settings) (c c' : Counts) (w : DeviceView)
    (v : DriverView) (t : Turn) (said : Move) where
  abbrev shadow_to : State E D
  shadow_to = record { guest = r.guest; shadow = x'; table = r.table; stage = r.stage; winding = r.winding; target = r.target }

  -- it replays on, or its replay is over
  stepped : IsReplaying l e d z r k s c w v → Noted c c' t → IsSameReplay k.replay r' → (m : ReplayTurn port l d p q k.replay r' r.shadow x' v t)
      → IsReplaying l e d z shadow_to (with_replay k r') s c' w (d.side.after v m.op m.access m.got)
  stepped h n same m =
      let frame = sym (ldr.framed v m.op m.access m.got) in
      record {
        replays = m.holds;
        free = h.free;
        untouched = h.untouched;
        paired = subst (λ (g : Frame). AreControls w.frame g) frame h.paired;
        waits = h.waits;
        winding = h.winding ∙ sym same.2;
        target = h.target ∙ sym same.3;
        origins = h.origins ∙ ap (λ (g : Frame). replicate g.size None) frame;
        commands = h.commands ∙ ap (λ (g : Frame). replicate g.size None) frame;
        hand = h.hand;
        settings = h.settings;
        pace = paces c c' t (replay_owes d k.replay.winding k.replay.stage r.shadow v)
            (replay_owes d r'.winding r'.stage x' (d.side.after v m.op m.access m.got)) n.accesses n.handled n.heard m.paid h.pace;
      }

  pub replay_made : ControlHolds l e d z r k s c w v → k.mode ≡ Replaying → said ≡ move_of t false → Noted c c' t → IsSameReplay k.replay r'
      → k'.replay ≡ r' → ReplayTurn port l d p q k.replay r' r.shadow x' v t
      → ((u : DriverView) → IsReplaying l e d z shadow_to (with_replay k r') s c' w u → ControlHolds l e d z shadow_to k' s c' w u)
      → OnShadowControl port l e d z p q Replaying r shadow_to k' s c c' w v said
  replay_made holds at is n same now m goes =
      let h = (replaying_of l e d z r k s c w v holds at).1 in
      let v' : DriverView = d.side.after v m.op m.access m.got in
      record {
        op = m.op;
        access = m.access;
        got = m.got;
        was_next = m.was_next;
        moved = m.moved;
        holds = goes v' (stepped h n same m);
        acts = m.acts;
        replays = λ by. subst (λ (y : Replay). ReplayHolds l d y x' v') (sym now) m.holds;
        grown = omega (arith, m.grown, m.handled);
        looked = both (looked_is said t false is) m.slept;
        look = λ i.
            let a = m.awake ((looked_is said t false is).0 i) in
            (ap (λ (y : Replay). y.stage) now ∙ a.1, a.2, h.winding ∙ a.0);
        free = λ i. h.free.idle;
        left_out = is_left_out t;
        uncounted = (
          (λ y. elim ((left_exact t).0 y) [
            | inl a ↦ inl ((looked_is said t false is).1 a)
            | inr a ↦ inr ((m.again.0 a).0, h.winding ∙ (m.again.0 a).1, λ by. absurd (cc by))
          ]),
          λ y. (left_exact t).1 (elim y [
            | inl a ↦ inl ((looked_is said t false is).0 a)
            | inr a ↦ inr (m.again.1 (a.0, sym h.winding ∙ a.1))
          ]),
        );
        waits = λ by i on. subst (λ (y : Settings). length (collects v.done) < length (replay y)) holds.again (m.waits (m.again.1 (i, sym h.winding ∙ on)));
        counts = record {
          accesses = n.accesses ∙ ap (λ i. raised i c.accesses) (left_counts t);
          handled = n.handled ∙ ap (λ i. raised i c.handled) m.handled;
          heard = n.heard ∙ ap (λ i. raised i c.heard) m.woke;
        };
      }
