-- A step of a relay of a control queue that carries.
use Rattle.std.proofs.Common.{◌≡◌, false, refl, sym, ◌∙◌, subst, inl, inr}
use Rattle.vd_words.specs.Model.{PortModel}
use Rattle.vd_ring.specs.declared.driver.DriverView.{DriverView}
use Rattle.vd_ring.specs.declared.device.DeviceView.{DeviceView}
use Rattle.vd_layout.specs.Driver.{DriverModel}
use Rattle.vd_layout.specs.Device.{DeviceModel}
use Rattle.vd_layout.specs.Layout.{LayoutModel}
use Rattle.vd_layout.specs.declared.moves.Move.{Move}
use Rattle.vd_control.specs.declared.settings.Settings.{Settings}
use Rattle.vd_relay.specs.declared.commander.Commander.{Commander}
use Rattle.vd_relay.specs.declared.control.Control.{Control}
use Rattle.vd_relay.specs.declared.control.Mode.{Mode}
use Rattle.vd_relay.specs.declared.control.Mode.TheVariants.{Replaying, Carrying, Leaving}
use Rattle.vd_relay.specs.declared.counts.Counts.{Counts}
use Rattle.vd_relay.specs.declared.state.State.{State}
use Rattle.vd_relay.specs.Pace.{KeepsPace}
use Rattle.vd_relay.specs.Underway.{owed}
use Rattle.vd_relay.specs.Leaving.{leave_owes}
use Rattle.vd_relay.specs.Replays.{replay_owes}
use Rattle.vd_relay.specs.CommandSteps.{CommandHolds, OnGuestCommand, OnShadowCommand, IsCommandStep}
use Rattle.vd_relay.specs.Modes.{Opening, ControlHolds, Does, carries_from}
use Rattle.vd_relay.specs.ModeSteps.{OnGuestControl, OnShadowControl, IsControlStep, Becomes, GoesOver}
use Rattle.vd_relay.proofs.Steps.{pace_less}

abbrev pub with_commander : Control → Commander → Control
with_commander k x = record { mode = k.mode; replay = k.replay; commander = x }

module _ {E D : Type 0} (l : LayoutModel) (e : DeviceModel E) (d : DriverModel D) (z : Opening) (r : State E D) (k : Control)
    (s : Settings) (c : Counts) (w : DeviceView) (v : DriverView) where
  pace_of : (m : Mode) → Does m l e d z r k s c w v → KeepsPace c 0
  pace_of Replaying h = pace_less c (replay_owes d k.replay.winding k.replay.stage r.shadow v) h.1.pace
  pace_of Carrying h = pace_less c (owed e d r k.commander.hand w v) h.pace
  pace_of Leaving h = pace_less c (leave_owes e r.guest) h.pace

  pub control_pace : ControlHolds l e d z r k s c w v → KeepsPace c 0
  control_pace h = pace_of k.mode h.does

module _ {P Q E D : Type 0} (port : PortModel P) (other : PortModel Q) (l : LayoutModel) (e : DeviceModel E) (d : DriverModel D)
    (z : Opening) (p p' : P) (q q' : Q) (r r' : State E D) (k : Control) (x' : Commander) (s s' : Settings) (c c' : Counts)
    (w : DeviceView) (v : DriverView) (said : Move) where
  -- what it carried stands on
  carried_on : (u : Settings) (w' : DeviceView) (v' : DriverView) → ControlHolds l e d z r k s c w v → k.mode ≡ Carrying
      → CommandHolds l e d (carries_from z k.replay.next) r' x' u c' w' v' → ControlHolds l e d z r' (with_commander k x') u c' w' v'
  carried_on u w' v' h at now = record {
    again = h.again;
    done = h.done;
    does = subst (λ (m : Mode). Does m l e d z r' (with_commander k x') u c' w' v') (sym at) now;
  }

  pub guest_carried : ControlHolds l e d z r k s c w v → k.mode ≡ Carrying
      → OnGuestCommand port l e d (carries_from z k.replay.next) p p' r r' k.commander x' s c c' w v said
      → OnGuestControl port l e d z p p' r r' (with_commander k x') s c c' w v said
  guest_carried h at t = record {
    op = t.0.op;
    access = t.0.access;
    got = t.0.got;
    was_next = t.0.was_next;
    moved = t.0.moved;
    holds = carried_on s (e.side.after w t.0.op t.0.access t.0.got) v h at t.1;
    acts = t.0.acts;
    bag = t.0.bag;
    grown = t.0.grown;
    looked = t.0.looked;
    look = t.0.look;
    slept = t.0.slept;
    asleep = t.0.asleep;
    counts = t.0.counts;
  }

  pub shadow_carried : ControlHolds l e d z r k s c w v → k.mode ≡ Carrying
      → OnShadowCommand other l e d (carries_from z k.replay.next) q q' r r' k.commander x' s' c c' w v said
      → OnShadowControl other l e d z q q' Carrying r r' (with_commander k x') s' c c' w v said
  shadow_carried h at t = record {
    op = t.0.op;
    access = t.0.access;
    got = t.0.got;
    was_next = t.0.was_next;
    moved = t.0.moved;
    holds = carried_on s' w (d.side.after v t.0.op t.0.access t.0.got) h at t.1;
    acts = t.0.acts;
    replays = λ by. absurd (cc by);
    grown = t.0.grown;
    looked = t.0.looked;
    look = t.0.look;
    free = t.0.free;
    left_out = t.0.left_out;
    waits = λ by. absurd (cc by);
    uncounted = (
      (λ y. elim (t.0.uncounted.0 y) [ inl a ↦ inl a | inr a ↦ inr (a.0, a.1, λ by. a.2) ]),
      λ y. t.0.uncounted.1 (elim y [ inl a ↦ inl a | inr a ↦ inr (a.0, a.1, a.2 refl) ]),
    );
    counts = t.0.counts;
  }

  pub carried_step : (old : Control) → ControlHolds l e d z r k s c w v → k.mode ≡ Carrying → Becomes old.mode k.mode
      → (r.winding ≡ false → k.mode ≡ old.mode) → k.replay.next ≡ old.replay.next → GoesOver z r.winding old.mode k v
      → IsCommandStep port other l e d (carries_from z k.replay.next) p p' q q' w v r r' k.commander x' s s' c c' said
      → IsControlStep port other l e d z p p' q q' w v r r' old (with_commander k x') s s' c c' said
  carried_step old h at becomes same next over t = record {
    by = Carrying;
    begins = subst (λ (m : Mode). Becomes old.mode m) at becomes;
    ends = at;
    same = λ off. sym at ∙ same off;
    far = λ n. (at, next);
    over = over;
    made = elim t.made [
      | inl y ↦ inl (
        y.0,
        y.1,
        (λ by. cc by),
        subst (λ (u : Settings). OnGuestControl port l e d z p p' r r' (with_commander k x') u c c' w v said) (sym y.1)
            (guest_carried h at y.2),
      )
      | inr y ↦ inr (y.0, (λ by. cc by), shadow_carried h at y.1)
    ];
    kept = t.kept;
    quiet = t.quiet;
    finished = t.finished;
    still = λ i. ((t.still i).0, (t.still i).2);
    pace = t.pace;
  }
