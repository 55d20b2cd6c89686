-- What a relay of a control queue hands back.
use Rattle.std.proofs.Common.{◌≡◌, ℕ, true, List, refl, sym, ◌∙◌, ap, subst}
use Rattle.vd_ring.specs.declared.device.DeviceDone.{DeviceDone}
use Rattle.vd_ring.specs.declared.driver.DriverView.{DriverView}
use Rattle.vd_ring.specs.declared.device.DeviceView.{DeviceView}
use Rattle.vd_ring.specs.History.{gives}
use Rattle.vd_layout.specs.Driver.{DriverModel, IsLawfulDriver}
use Rattle.vd_layout.specs.Device.{DeviceModel, IsLawfulDevice}
use Rattle.vd_layout.specs.Layout.{LayoutModel}
use Rattle.vd_control.specs.declared.settings.Settings.{Settings}
use Rattle.vd_relay.specs.declared.control.Control.{Control}
use Rattle.vd_relay.specs.declared.control.Mode.{Mode}
use Rattle.vd_relay.specs.declared.control.Mode.TheVariants.{Replaying, Carrying, Leaving}
use Rattle.vd_relay.specs.declared.counts.Counts.{Counts}
use Rattle.vd_relay.specs.declared.stage.Stage.{Stage}
use Rattle.vd_relay.specs.declared.stage.Stage.TheVariants as stage
use Rattle.vd_relay.specs.declared.state.State.{State}
use Rattle.vd_relay.specs.Stages.{is_rested, BeforeRest}
use Rattle.vd_relay.specs.Tie.{Course}
use Rattle.vd_relay.specs.Relay.{HandsBack}
use Rattle.vd_relay.specs.Commanding.{carries}
use Rattle.vd_relay.specs.Modes.{Opening, ControlHolds, Does, carries_from}
use Rattle.vd_relay.specs.ModeEnds.{Answers, HandsBackControl}
use Rattle.vd_relay.proofs.Begins.{handed_back}
use Rattle.vd_relay.proofs.Modes.{course_is}
use Rattle.vd_relay.proofs.ReplayEnds.{hands_back}

-- the acts before a rest are those after it, but for the rest
gives_before : (st : Stage) (s s' : List DeviceDone) → is_rested st ≡ true → BeforeRest st s s' → gives s' ≡ gives s
gives_before stage.Rested s s' i b = ap gives b
gives_before stage.Taking s s' i b = absurd (cc i)
gives_before (stage.Offering n h) s s' i b = absurd (cc i)
gives_before (stage.Collecting n) s s' i b = absurd (cc i)
gives_before stage.Giving s s' i b = absurd (cc i)
gives_before stage.ArmingGuest s s' i b = absurd (cc i)
gives_before stage.ArmingShadow s s' i b = absurd (cc i)
gives_before stage.HearingGuest s s' i b = absurd (cc i)
gives_before stage.HearingShadow s s' i b = absurd (cc i)
gives_before stage.DisarmingGuest s s' i b = absurd (cc i)
gives_before stage.DisarmingShadow s s' i b = absurd (cc i)
gives_before stage.Resting s s' i b = absurd (cc i)

module _ {E D : Type 0} (l : LayoutModel) (e : DeviceModel E) (d : DriverModel D) (law : IsLawfulDevice e) (ldr : IsLawfulDriver d)
    (z : Opening) (r : State E D) (k : Control) (s : Settings) (c : Counts) (w : DeviceView) (v : DriverView) where
  back_by : (m : Mode) → is_rested r.stage ≡ true → Does m l e d z r k s c w v
      → HandsBack e d (carries (carries_from z k.replay.next)) r.guest r.shadow r.target w v × Answers m z k.replay.next s w v
  back_by Replaying rested h = absurd (cc (rested, h.1.waits))
  back_by Carrying rested h = (
    handed_back e d law ldr (carries (carries_from z k.replay.next)) r w v rested h.commands.stands,
    record {
      acts = h.commands.stands.acts;
      rested = gives_before r.stage h.commands.stands.acts w.done rested h.commands.stands.before;
      answered = h.commands.carried.answered;
      settled = h.commands.carried.settled;
    },
  )
  back_by Leaving rested h = (
    subst (λ (n : ℕ). HandsBack e d (carries (carries_from z k.replay.next)) r.guest r.shadow n w v) (sym h.target)
        (subst (λ (y : Course). HandsBack e d y r.guest r.shadow k.replay.target w v)
        (course_is z k.replay.next k.replay.next w h.untouched.takes h.untouched.gives refl)
        (hands_back l e d law ldr k.replay r.shadow v h.replays r.guest w w h.stage h.one h.left (h.rests ∙ rested) refl)),
    (h.untouched, h.settings),
  )

  pub hands_control : is_rested r.stage ≡ true → ControlHolds l e d z r k s c w v
      → HandsBackControl e d z k s r.guest r.shadow r.target w v
  hands_control rested h = back_by k.mode rested h.does
