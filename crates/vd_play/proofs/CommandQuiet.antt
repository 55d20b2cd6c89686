-- A quiet lane of the control queue: not all parties sleep for two rounds while the device has commands to begin.
use Rattle.std.proofs.Common.{◌≡◌, inl, inr, ℕ, ◌+◌, ◌<◌, ◌≤◌, Bool, true, false, if◌then◌else◌, Some, List, [], length, refl, sym, ◌∙◌, ap, subst, arith}
use Rattle.std.proofs.lemmas.Bool.{false≢true}
use Rattle.std.proofs.lemmas.List.{length-map}
use Rattle.vd_model.specs.declared.features.Features.{Features}
use Rattle.vd_model.specs.Chains.{needs}
use Rattle.vd_words.specs.Plain.{RingWords}
use Rattle.vd_ring.specs.declared.driver.DriverView.{DriverView}
use Rattle.vd_ring.specs.declared.device.DeviceView.{DeviceView}
use Rattle.vd_ring.specs.declared.frame.Frame.{Frame}
use Rattle.vd_ring.specs.History.{offers, collects, takes, gives, running, open_at, next_head}
use Rattle.vd_ring.specs.Signals.{nothing}
use Rattle.vd_ring.specs.Sleep.{DriverWaits, DeviceWaits, driver_owed, device_owed}
use Rattle.vd_ring.proofs.Quiet.{quiet_driver}
use Rattle.vd_layout.specs.Begun.{DriverOp, DeviceOp}
use Rattle.vd_layout.specs.Driver.{DriverModel}
use Rattle.vd_layout.specs.Device.{DeviceModel}
use Rattle.vd_layout.specs.Layout.{LayoutModel}
use Rattle.vd_control.specs.declared.settings.Settings.{Settings}
use Rattle.vd_bus.specs.GuestCommands.{control_chain, command_chain}
use Rattle.vd_relay.specs.declared.control.Control.{Control}
use Rattle.vd_relay.specs.declared.control.Mode.{Mode}
use Rattle.vd_relay.specs.declared.control.Mode.TheVariants.{Replaying, Carrying, Leaving}
use Rattle.vd_relay.specs.declared.counts.Counts.{Counts}
use Rattle.vd_relay.specs.declared.replay.ReplayStage.TheVariants.{Hearing}
use Rattle.vd_relay.specs.declared.stage.Stage.{Stage}
use Rattle.vd_relay.specs.declared.stage.Stage.TheVariants as stage
use Rattle.vd_relay.specs.declared.state.State.{State}
use Rattle.vd_relay.specs.Commanding.{carries}
use Rattle.vd_relay.specs.CommandSteps.{CommandHolds}
use Rattle.vd_relay.specs.Modes.{Opening, Does, carries_from}
use Rattle.vd_relay.specs.Replays.{Replays}
use Rattle.vd_relay.specs.Stages.{is_hearing, GuestIs, ShadowIs}
use Rattle.vd_switch.specs.Controlling.{ControlStart, replay_list}
use Rattle.vd_switch.proofs.Asleep.{sleeps}
use Rattle.vd_switch.proofs.AtRest.{control_at_rest}
use Rattle.vd_turns.specs.RelayTurns.{HalfWaits}
use Rattle.vd_control_lane.proofs.Sleeping.{replay_awake}
use Rattle.vd_control_lane.proofs.AnyScripts.{any_sent_all, any_sleeps}
use Rattle.vd_machine.specs.File.{Plan}
use Rattle.vd_play.specs.Commands.{control_queue, control_commands}
use Rattle.vd_play.specs.CommandLane.{IsCommandDriven}
use Rattle.vd_play.specs.CommandProgress.{IsQuietGuest}
use Rattle.vd_play.specs.CommandShadowed.{AreCommandsRelayed}
use Rattle.vd_play.specs.Setting.{Setting, IsLawful}
use Rattle.vd_play.proofs.Bounds.{at_index}
use Rattle.vd_play.proofs.CommandBounds.{epoch_of}
use Rattle.vd_play.proofs.CommandPace.{bounds_of}
use Rattle.vd_play.proofs.CommandReplays.{replays_many}
use Rattle.vd_play.proofs.Quiet.{empty_room}

-- a control chain has two pieces
needs_two : (f : Features) (a b len : ℕ) → needs f (control_chain a b len) ≤ 2
needs_two f a b len = few f.indirect
  where
    few : (y : Bool) → (if y then 1 else 2) ≤ 2
    few true = omega arith
    few false = omega arith

-- ---- the guest

module _ {D E G X C : Type 0} (s : Setting D E G X C) (law : IsLawful s) (plan : Plan) (words : RingWords) (guest : G) (v : DriverView)
    (w : DeviceView) (p : IsCommandDriven s plan words guest v w) where
  many : length (control_commands plan) ≡ length (control_queue plan).commands
  many = length-map (control_queue plan).commands (λ b. b.items)

  -- a guest that is done or sleeps owes nothing
  pub owes_none : IsQuietGuest s guest v w → driver_owed v.doing ≡ nothing
  owes_none (inl done) =
      ap driver_owed ((any_sent_all s.driver s.guest law.guest guest v (control_queue plan) p.part.holds p.part.script p.queue.plain).0 done).idle
  owes_none (inr waits) = ap driver_owed waits.idle

  -- it isn't done, nor does it sleep, while all that it offered was given, and more is left
  pub no_rest : IsQuietGuest s guest v w → device_owed w.doing ≡ nothing → length (offers v.done) ≡ length (gives w.done)
      → length (offers v.done) < length (control_commands plan) → ⊥
  no_rest (inl done) none all more = absurd (omega (
    arith,
    more,
    many,
    ((any_sent_all s.driver s.guest law.guest guest v (control_queue plan) p.part.holds p.part.script p.queue.plain).0 done).offers,
  ))
  no_rest (inr waits) none all more =
      let places = law.layout.places words.words v w p.ring in
      let collected : collects v.done ≡ gives w.done = quiet_driver v w places (law.layout.lists words.words v w p.ring)
      (law.layout.signals words.words v w p.ring) waits none in
      let empty : length (open_at v.done) ≡ 0 = omega (arith, ap length collected, places.count, all) in
      let c = at_index (control_commands plan) (length (offers v.done)) more in
      let at : ℕ = s.driver.words.command v.frame (next_head v.frame v.done) in
      let ack : ℕ = s.driver.words.ack v.frame (next_head v.frame v.done) in
      let size : v.frame.size ≡ plan.size = ap (λ (f : Frame). f.size) p.part.framed in
      any_sleeps s.driver s.guest law.guest guest v (control_queue plan) p.part.holds p.part.script p.queue.plain waits.at waits.armed c.0 c.1
      (empty_room v.frame v.done (command_chain s.driver.words v.frame (next_head v.frame v.done) c.0) (open_at v.done) refl empty
      (omega (arith, needs_two v.frame.features at ack (length c.0), size, p.queue.sized.0)))

-- ---- the relay

pub hears : (st : Stage) (v : DriverView) (w : DeviceView) (sv : DriverView) (sw : DeviceView) → HalfWaits st v w sv sw
    → is_hearing st ≡ true
hears stage.HearingShadow v w sv sw h = refl
hears stage.HearingGuest v w sv sw h = refl
hears stage.Taking v w sv sw h = absurd h
hears (stage.Offering k p) v w sv sw h = absurd h
hears (stage.Collecting none) v w sv sw h = absurd h
hears stage.Giving v w sv sw h = absurd h
hears stage.ArmingGuest v w sv sw h = absurd h
hears stage.ArmingShadow v w sv sw h = absurd h
hears stage.DisarmingGuest v w sv sw h = absurd h
hears stage.DisarmingShadow v w sv sw h = absurd h
hears stage.Resting v w sv sw h = absurd h
hears stage.Rested v w sv sw h = absurd h

-- a relay that hears makes no other operation
guest_op : (st : Stage) (op : DeviceOp) → is_hearing st ≡ true → GuestIs st op → (op ≡ DeviceOp.hear → ⊥) → op ≡ DeviceOp.idle
guest_op st DeviceOp.idle is at other = refl
guest_op st DeviceOp.hear is at other = absurd (other refl)
guest_op stage.HearingGuest DeviceOp.take is at other = absurd at
guest_op stage.HearingShadow DeviceOp.take is at other = absurd at
guest_op stage.HearingGuest (DeviceOp.give k n) is at other = absurd at
guest_op stage.HearingShadow (DeviceOp.give k n) is at other = absurd at
guest_op stage.HearingGuest DeviceOp.rest is at other = absurd at
guest_op stage.HearingShadow DeviceOp.rest is at other = absurd at
guest_op stage.HearingGuest DeviceOp.arm is at other = absurd at
guest_op stage.HearingShadow DeviceOp.arm is at other = absurd at
guest_op stage.HearingGuest DeviceOp.disarm is at other = absurd at
guest_op stage.HearingShadow DeviceOp.disarm is at other = absurd at
guest_op stage.HearingGuest DeviceOp.signal is at other = absurd at
guest_op stage.HearingShadow DeviceOp.signal is at other = absurd at
guest_op _ _ is at other = absurd (cc is)

shadow_op : (st : Stage) (op : DriverOp) → is_hearing st ≡ true → ShadowIs st op → (op ≡ DriverOp.hear → ⊥) → op ≡ DriverOp.idle
shadow_op st DriverOp.idle is at other = refl
shadow_op st DriverOp.hear is at other = absurd (other refl)
shadow_op stage.HearingGuest (DriverOp.offer c) is at other = absurd at
shadow_op stage.HearingShadow (DriverOp.offer c) is at other = absurd at
shadow_op stage.HearingGuest DriverOp.collect is at other = absurd at
shadow_op stage.HearingShadow DriverOp.collect is at other = absurd at
shadow_op stage.HearingGuest DriverOp.arm is at other = absurd at
shadow_op stage.HearingShadow DriverOp.arm is at other = absurd at
shadow_op stage.HearingGuest DriverOp.disarm is at other = absurd at
shadow_op stage.HearingShadow DriverOp.disarm is at other = absurd at
shadow_op stage.HearingGuest DriverOp.signal is at other = absurd at
shadow_op stage.HearingShadow DriverOp.signal is at other = absurd at
shadow_op _ _ is at other = absurd (cc is)

module _ {E D : Type 0} (l : LayoutModel) (e : DeviceModel E) (d : DriverModel D) (z : Opening) (r : State E D) (k : Control)
    (s : Settings) (c : Counts) (w : DeviceView) (v : DriverView) where
  -- one that hears two bells carries
  pub carrying : (m : Mode) → Does m l e d z r k s c w v → is_hearing r.stage ≡ true → r.winding ≡ false → m ≡ Carrying
  carrying Replaying h is off = absurd (false≢true (sym (ap is_hearing h.1.waits) ∙ is))
  carrying Carrying h is off = refl
  carrying Leaving h is off = absurd (false≢true (sym off ∙ h.winding))

  carried : (m : Mode) → m ≡ Carrying → Does m l e d z r k s c w v → CommandHolds l e d (carries_from z k.replay.next) r k.commander s c w v
  carried m is h = subst (λ (x : Mode). Does x l e d z r k s c w v) is h

  replays : (m : Mode) → m ≡ Replaying → Does m l e d z r k s c w v → Replays l d k.replay r.shadow v
  replays m is h = (subst (λ (x : Mode). Does x l e d z r k s c w v) is h).1.replays.replays

module _ {D E G X C : Type 0} (s : Setting D E G X C) (law : IsLawful s) (plan : Plan) (k : ℕ) (words : RingWords) (shadow_words : List ℕ)
    (r : State E D) (control : Control) (settings : Settings) (c : Counts) (guest : G) (device : X) (x : ControlStart) (v : DriverView)
    (w : DeviceView) (sv : DriverView) (sw : DeviceView)
    (p : AreCommandsRelayed s plan k words shadow_words r control settings c guest device x v w sv sw)
    (holds : s.party.holds device sw) (is : s.party.attached device ≡ Some x.by) (off : r.winding ≡ false) (waits : DeviceWaits sv sw) where
  -- a device that sleeps has nothing in hand, and has commands to begin
  few : (running sw.done ≡ []) × (length (s.party.begun device) < x.by.at + x.by.count)
  few = law.party.armed device sw x.by holds is waits.at waits.armed

  -- a replay doesn't sleep beside it
  pub replay_wakes : control.mode ≡ Replaying → control.replay.stage ≡ Hearing → DriverWaits sv sw → ⊥
  replay_wakes mode hearing shadow = replay_awake s.device s.driver s.layout law.layout control.replay r.shadow shadow_words sv sw
      p.lane.controlling.parts.shadow_ring
      (replays s.layout s.device s.driver x.opening r control settings c w sv control.mode mode p.lane.controlling.holds.does) hearing
      shadow waits few.0

  -- nor do all others, where the relay carries
  pub no_sleep : HalfWaits r.stage v w sv sw → IsQuietGuest s guest v w → DeviceWaits v w → DriverWaits sv sw → ⊥
  no_sleep half still guest_end shadow_end =
      let h = p.lane.controlling in
      let hearing : is_hearing r.stage ≡ true = hears r.stage v w sv sw half in
      let mode = carrying s.layout s.device s.driver x.opening r control settings c w sv control.mode h.holds.does hearing off in
      let on = carried s.layout s.device s.driver x.opening r control settings c w sv control.mode mode h.holds.does in
      let y = carries_from x.opening control.replay.next in
      let stands = on.commands.stands in
      let guest_idle : s.device.begun r.guest ≡ DeviceOp.idle =
      guest_op r.stage (s.device.begun r.guest) hearing stands.guest (λ hear. on.hears_guest hear guest_end.idle) in
      let shadow_idle : s.driver.begun r.shadow ≡ DriverOp.idle =
      shadow_op r.stage (s.driver.begun r.shadow) hearing stands.shadow (λ hear. on.hears_shadow hear shadow_end.idle) in
      let asleep = sleeps s.device s.driver law.layout.device_end law.layout.driver_end (carries y) r w sv stands off hearing guest_idle
      shadow_idle in
      let rest = control_at_rest s.device s.driver s.layout law.layout y words.words shadow_words v w sv sw h.parts.ring
      h.parts.shadow_ring asleep stands.tied.follows (owes_none s law plan words guest v w p.driven still) guest_end shadow_end waits in
      let ep = epoch_of s.layout plan p.driven.queue k p.epoch in
      let numbered = p.driven.queue.numbered.at k ep.bound.epoch ep.bound.is in
      let whole : control.replay.next ≡ length (replay_list x) = elim (h.over mode) [
        | inl whole ↦ whole
        | inr cut ↦ absurd (false≢true (sym off ∙ cut.0))
      ] in
      let replayed = replays_many plan k x p.start ep.bound.epoch numbered.0 numbered.2 in
      let b = bounds_of s law plan k words shadow_words r control settings c guest device x v w sv sw p in
      let even : length (takes sw.done) ≡ length (gives sw.done) =
      omega (arith, (law.layout.lists shadow_words sv sw h.parts.shadow_ring).count, ap length few.0) in
      no_rest s law plan words guest v w p.driven still (ap device_owed guest_end.idle)
      (omega (arith, rest.all_begun, rest.all_given, even))
      (omega (
        arith,
        rest.all_begun,
        even,
        b.shadow_given,
        b.begun,
        few.1,
        whole,
        replayed,
        ep.many,
        ep.sent,
        ep.bound.low,
        p.start.given,
        p.start.to,
      ))
