-- A step of a relay of a control queue that leaves the guest's end.
use Rattle.std.proofs.Common.{◌≡◌, ◌≢◌, ℕ, Bool, true, false, length, if◌then◌else◌, refl, sym, ◌∙◌, ap, subst, arith, inl}
use Rattle.vd_words.specs.Model.{PortModel}
use Rattle.vd_ring.specs.declared.act.DeviceAct.TheVariants as device_act
use Rattle.vd_ring.specs.declared.frame.Frame.{Frame}
use Rattle.vd_ring.specs.declared.driver.DriverView.{DriverView}
use Rattle.vd_ring.specs.declared.device.DeviceView.{DeviceView}
use Rattle.vd_ring.specs.History.{takes}
use Rattle.vd_ring.specs.Sleep.{device_woken}
use Rattle.vd_layout.specs.Driver.{DriverModel}
use Rattle.vd_layout.specs.Device.{DeviceModel, IsLawfulDevice}
use Rattle.vd_layout.specs.Layout.{LayoutModel}
use Rattle.vd_layout.specs.declared.moves.Move.{Move}
use Rattle.vd_layout.specs.declared.moves.Move.TheVariants as move
use Rattle.vd_control.specs.declared.settings.Settings.{Settings}
use Rattle.vd_relay.specs.declared.control.Control.{Control}
use Rattle.vd_relay.specs.declared.control.Mode.{Mode}
use Rattle.vd_relay.specs.declared.control.Mode.TheVariants.{Leaving}
use Rattle.vd_relay.specs.declared.counts.Counts.{Counts}
use Rattle.vd_relay.specs.declared.counts.Turn.TheVariants.{Worked}
use Rattle.vd_relay.specs.declared.stage.Stage.{Stage}
use Rattle.vd_relay.specs.declared.state.State.{State}
use Rattle.vd_relay.specs.Pace.{raised}
use Rattle.vd_relay.specs.Pairing.{AreControls}
use Rattle.vd_relay.specs.Stages.{is_rested}
use Rattle.vd_relay.specs.Leaving.{IsLeave, leave_owes}
use Rattle.vd_relay.specs.Modes.{Opening, IsLeaving, ControlHolds, Does}
use Rattle.vd_relay.specs.ModeSteps.{OnGuestControl}
use Rattle.vd_relay.proofs.Steps.{Noted, paces}
use Rattle.vd_relay.proofs.Modes.{leaving_of}

same_side : (b : Bool) (i j : ℕ) → i ≡ j → (if b then i else j) ≡ i
same_side true i j is = refl
same_side false i j is = sym is

module _ {P E D : Type 0} (port : PortModel P) (l : LayoutModel) (e : DeviceModel E) (d : DriverModel D) (law : IsLawfulDevice e)
    (z : Opening) (p q : P) (r : State E D) (a' : E) (st : Stage) (k : Control) (s : Settings) (c c' : Counts) (w : DeviceView)
    (v : DriverView) (rested : Bool) (said : Move) where
  abbrev guest_to : State E D
  guest_to = record { guest = a'; shadow = r.shadow; table = r.table; stage = st; winding = r.winding; target = r.target }

  pub leave_made : ControlHolds l e d z r k s c w v → k.mode ≡ Leaving → said ≢ move.Looked → is_rested st ≡ rested → Noted c c' Worked
      → IsLeave port e p q r.guest a' w rested → OnGuestControl port l e d z p q r guest_to k s c c' w v said
  leave_made holds at awake is n m =
      let h = leaving_of l e d z r k s c w v holds at in
      let w' : DeviceView = e.side.after w m.op m.access m.got in
      let deaf : e.act w m.op m.access m.got ≢ device_act.Asleep =
      λ y. cc (m.rest, ((law.looks.asleep w m.op m.access m.got m.was_next).0 y).0) in
      let now : IsLeaving l e d z guest_to k s c' w' v = record {
        left = m.left;
        untouched = record { takes = m.takes ∙ h.untouched.takes; gives = m.gives ∙ h.untouched.gives };
        paired = subst (λ (f : Frame). AreControls f v.frame) (sym (law.framed w m.op m.access m.got)) h.paired;
        replays = h.replays;
        stage = h.stage;
        one = h.one;
        rests = m.rests ∙ sym is;
        winding = h.winding;
        target = h.target;
        settings = h.settings;
        pace = paces c c' Worked (leave_owes e r.guest) (leave_owes e a') n.accesses n.handled n.heard (omega (arith, m.paid)) h.pace;
      } in
      record {
        op = m.op;
        access = m.access;
        got = m.got;
        was_next = m.was_next;
        moved = m.moved;
        holds = record {
          again = holds.again;
          done = holds.done;
          does = subst (λ (y : Mode). Does y l e d z guest_to k s c' w' v) (sym at) now;
        };
        acts = m.acts;
        bag = inl m.gives;
        grown = omega (
          arith,
          m.handled,
          ap length m.gives,
          same_side (is_rested st) (length (takes w.done)) (length (takes w'.done)) (sym (ap length m.takes)),
        );
        looked = ((λ i. absurd (awake i)), λ i. absurd (deaf i));
        look = λ i. absurd (awake i);
        slept = false;
        asleep = ((λ i. absurd (cc i)), λ i. absurd (awake i));
        counts = record {
          accesses = n.accesses;
          handled = n.handled ∙ ap (λ i. raised i c.handled) (sym m.handled);
          heard = n.heard ∙ ap (λ i. raised i c.heard) (sym (ap (λ o. device_woken o (e.act w m.op m.access m.got)) m.rest));
        };
      }
