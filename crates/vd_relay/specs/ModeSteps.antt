-- One step of a relay of a control queue.
use Rattle.std.specs.Prelude.{◌<◌, ◌≡◌, ◌⊎◌, ◌↔◌, ℕ, ◌+◌, ◌≤◌, Bool, true, false, IsTrue, length, if◌then◌else◌}
use Rattle.vd_words.specs.declared.access.Access.{Access}
use Rattle.vd_words.specs.declared.access.Op.{Op}
use Rattle.vd_words.specs.Model.{PortModel}
use Rattle.vd_words.specs.Own.{IsOwn}
use Rattle.vd_ring.specs.declared.act.DriverAct.TheVariants as driver_act
use Rattle.vd_ring.specs.declared.act.DeviceAct.TheVariants as device_act
use Rattle.vd_ring.specs.declared.driver.DriverView.{DriverView}
use Rattle.vd_ring.specs.declared.device.DeviceView.{DeviceView}
use Rattle.vd_ring.specs.History.{offers, collects, takes, gives}
use Rattle.vd_ring.specs.Sleep.{driver_woken, device_woken}
use Rattle.vd_layout.specs.Begun.{DriverOp, DeviceOp}
use Rattle.vd_layout.specs.Driver.{DriverModel}
use Rattle.vd_layout.specs.Device.{DeviceModel}
use Rattle.vd_layout.specs.Layout.{LayoutModel}
use Rattle.vd_layout.specs.declared.moves.Move.{Move}
use Rattle.vd_layout.specs.declared.moves.Move.TheVariants as move
use Rattle.vd_control.specs.declared.settings.Settings.{Settings}
use Rattle.vd_control.specs.Settings.{replay}
use Rattle.vd_relay.specs.declared.control.Control.{Control}
use Rattle.vd_relay.specs.declared.control.Mode.{Mode}
use Rattle.vd_relay.specs.declared.control.Mode.TheVariants.{Replaying, Carrying, Leaving}
use Rattle.vd_relay.specs.declared.counts.Counts.{Counts}
use Rattle.vd_relay.specs.declared.replay.ReplayStage.TheVariants.{Hearing}
use Rattle.vd_relay.specs.declared.stage.Stage.TheVariants as stage
use Rattle.vd_relay.specs.declared.state.State.{State}
use Rattle.vd_relay.specs.Acts.{AddsOneAct}
use Rattle.vd_relay.specs.Pace.{guest_handled, shadow_handled, KeepsPace}
use Rattle.vd_relay.specs.Stages.{is_rested}
use Rattle.vd_relay.specs.Tie.{returned}
use Rattle.vd_relay.specs.Relay.{AreCounted, GivesOne, IsFinished, IsKept, IsLook, IsQuiet, unless}
use Rattle.vd_relay.specs.Commanding.{carries}
use Rattle.vd_relay.specs.Replays.{ReplayHolds}
use Rattle.vd_relay.specs.Modes.{Opening, ControlHolds, again, carries_from}

-- what it does changes only from the replay on
abbrev pub Becomes : Mode → Mode → Type 0
Becomes Replaying m = Unit {0}
Becomes Carrying m = m ≡ Carrying
Becomes Leaving m = m ≡ Leaving

-- where it goes over from its replay to carrying, all of the list is replayed, or a wind-up leaves the rest out: no more was offered before
abbrev pub GoesOver : Opening → Bool → Mode → Control → DriverView → Type 0
GoesOver z winding m k' v = m ≡ Replaying → k'.mode ≡ Carrying
    → (k'.replay.next ≡ length (replay (again z))) ⊎ ((winding ≡ true) × (length (offers v.done) ≤ k'.replay.next))

-- a sleeper's look at the shadow ring's bell: a replay hears no other
abbrev pub LooksOn : {E D : Type 0} → Mode → DeviceModel E → DriverModel D → State E D → State E D → Control → Type 0
LooksOn Replaying e d r r' k' = (k'.replay.stage ≡ Hearing) × (d.begun r'.shadow ≡ DriverOp.idle) × (r.winding ≡ false)
LooksOn _ e d r r' k' = IsLook stage.HearingShadow stage.HearingGuest e d r r'

-- an access on the guest's ring, and how it is counted. What was taken and given grows by it; a rest takes back what was not given
pub record OnGuestControl {P E D : Type 0} (port : PortModel P) (l : LayoutModel) (e : DeviceModel E) (d : DriverModel D) (z : Opening)
    (p q : P) (r r' : State E D) (k' : Control) (s' : Settings) (c c' : Counts) (w : DeviceView) (v : DriverView) (said : Move)
    : Type 0 where
  pub op : Op
  pub access : Access
  pub got : ℕ
  pub was_next : e.side.next w op access
  pub moved : port.moves p op access got q
  pub holds : ControlHolds l e d z r' k' s' c' (e.side.after w op access got) v
  pub acts : AddsOneAct w.done (e.side.after w op access got).done
  pub bag : GivesOne (returned (carries (carries_from z k'.replay.next)) v.done) w.done (e.side.after w op access got).done
  pub grown : length (takes w.done) + length (gives w.done) + guest_handled (e.act w op access got)
      ≤ (if is_rested r'.stage then length (takes w.done) else length (takes (e.side.after w op access got).done))
      + length (gives (e.side.after w op access got).done)
  pub looked : (said ≡ move.Looked) ↔ (e.act w op access got ≡ device_act.Asleep)
  pub look : said ≡ move.Looked → IsLook stage.HearingGuest stage.HearingShadow e d r r'
  pub slept : Bool
  pub asleep : IsTrue slept ↔ (said ≡ move.Looked)
  pub counts : AreCounted c c' (unless slept) (guest_handled (e.act w op access got)) (device_woken op (e.act w op access got))

-- an access on the shadow ring: a collect that shows nothing, and that the wind-up makes again, isn't counted
pub record OnShadowControl {P E D : Type 0} (port : PortModel P) (l : LayoutModel) (e : DeviceModel E) (d : DriverModel D) (z : Opening)
    (p q : P) (by : Mode) (r r' : State E D) (k' : Control) (s' : Settings) (c c' : Counts) (w : DeviceView) (v : DriverView) (said : Move)
    : Type 0 where
  pub op : Op
  pub access : Access
  pub got : ℕ
  pub was_next : d.side.next v op access
  pub moved : port.moves p op access got q
  pub holds : ControlHolds l e d z r' k' s' c' w (d.side.after v op access got)
  pub acts : AddsOneAct v.done (d.side.after v op access got).done
  -- the replay's last access leaves it so, too
  pub replays : by ≡ Replaying → ReplayHolds l d k'.replay r'.shadow (d.side.after v op access got)
  pub grown : length (offers v.done) + length (collects v.done) + shadow_handled (d.act v op access got)
      ≤ length (offers (d.side.after v op access got).done) + length (collects (d.side.after v op access got).done)
  pub looked : (said ≡ move.Looked) ↔ (d.act v op access got ≡ driver_act.Asleep)
  pub look : said ≡ move.Looked → LooksOn by e d r r' k'
  pub free : d.act v op access got ≡ driver_act.Nothing → e.begun r.guest ≡ DeviceOp.idle
  pub left_out : Bool
  pub uncounted : IsTrue left_out ↔ ((said ≡ move.Looked)
      ⊎ ((d.act v op access got ≡ driver_act.Nothing) × (r.winding ≡ true) × (by ≡ Carrying → IsFinished r w v → ⊥)))
  -- in a wind-up a replay that finds nothing has a command on the shadow ring
  pub waits : by ≡ Replaying → d.act v op access got ≡ driver_act.Nothing → r.winding ≡ true
      → length (collects v.done) < length (replay (again z))
  pub counts : AreCounted c c' (unless left_out) (shadow_handled (d.act v op access got)) (driver_woken op (d.act v op access got))

-- exactly one access, on one of the two ports. A replay makes none on the guest's, and a relay that leaves none on the shadow's
pub record IsControlStep {P Q E D : Type 0} (p : PortModel P) (q : PortModel Q) (l : LayoutModel) (e : DeviceModel E) (d : DriverModel D)
    (z : Opening) (a a' : P) (b b' : Q) (w : DeviceView) (v : DriverView) (r r' : State E D) (k k' : Control) (s s' : Settings)
    (c c' : Counts) (said : Move) : Type 0 where
  -- what it does, with this access, and whether another than before: only a wind-up leaves a replay between two accesses
  pub by : Mode
  pub begins : Becomes k.mode by
  pub ends : Becomes by k'.mode
  pub same : r.winding ≡ false → by ≡ k.mode
  pub far : (by ≡ Replaying → ⊥) → (k'.mode ≡ by) × (k'.replay.next ≡ k.replay.next)
  pub over : GoesOver z r.winding k.mode k' v
  pub made : ((b' ≡ b) × (s' ≡ s) × (by ≡ Replaying → ⊥) × OnGuestControl p l e d z a a' r r' k' s' c c' w v said)
      ⊎ ((a' ≡ a) × (by ≡ Leaving → ⊥) × OnShadowControl q l e d z b b' by r r' k' s' c c' w v said)
  pub kept : IsKept r r'
  pub quiet : IsQuiet d r r'
  pub finished : (said ≡ move.Finished) ↔ (is_rested r'.stage ≡ true)
  pub still : said ≡ move.Looked → (c' ≡ c) × (s' ≡ s)
  -- a relay that goes on looking in place of sleeping would not keep it
  pub pace : KeepsPace c' 0

-- a relay that may make one
abbrev pub CanControl : {P Q E D : Type 0} → PortModel P → PortModel Q → LayoutModel → DeviceModel E → DriverModel D → P → Q → State E D
    → Control → Settings → Counts → Type 0
CanControl p q l e d a b r k s c = (z : Opening) × (w : DeviceView) × (v : DriverView) × ControlHolds l e d z r k s c w v
    × IsOwn p e.side a w × IsOwn q d.side b v
