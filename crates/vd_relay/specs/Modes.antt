-- What a relay of a control queue does, and what holds then: it replays, it carries the guest's commands, or it leaves the guest's end, of
-- which it took nothing.
use Rattle.std.specs.Prelude.{◌≡◌, ◌⊎◌, ◌↔◌, ℕ, Bool, true, false, IsTrue, Option, Some, None, List, [], ◌∷◌, length, replicate, if◌then◌else◌}
use Rattle.vd_model.specs.declared.chain.Piece.{Piece}
use Rattle.vd_ring.specs.declared.frame.Used.{Used}
use Rattle.vd_ring.specs.declared.driver.DriverView.{DriverView}
use Rattle.vd_ring.specs.declared.device.DeviceView.{DeviceView}
use Rattle.vd_ring.specs.History.{open_at}
use Rattle.vd_layout.specs.Driver.{DriverModel}
use Rattle.vd_layout.specs.Device.{DeviceModel}
use Rattle.vd_layout.specs.Layout.{LayoutModel}
use Rattle.vd_control.specs.declared.settings.Settings.{Settings}
use Rattle.vd_control.specs.Settings.{default, replay}
use Rattle.vd_relay.specs.declared.carry.Carry.TheVariants as carry
use Rattle.vd_relay.specs.declared.control.Control.{Control}
use Rattle.vd_relay.specs.declared.control.Mode.{Mode}
use Rattle.vd_relay.specs.declared.control.Mode.TheVariants.{Replaying, Carrying, Leaving}
use Rattle.vd_relay.specs.declared.counts.Counts.{Counts}
use Rattle.vd_relay.specs.declared.replay.ReplayStage.TheVariants.{Left}
use Rattle.vd_relay.specs.declared.stage.Stage.TheVariants as stage
use Rattle.vd_relay.specs.declared.state.State.{State}
use Rattle.vd_relay.specs.Pace.{KeepsPace}
use Rattle.vd_relay.specs.Pairing.{AreControls}
use Rattle.vd_relay.specs.Stages.{is_rested}
use Rattle.vd_relay.specs.Commanding.{Takeover}
use Rattle.vd_relay.specs.CommandSteps.{CommandHolds}
use Rattle.vd_relay.specs.Leaving.{IsFree, IsLeft, leave_owes}
use Rattle.vd_relay.specs.declared.replay.Replay.{Replay}
use Rattle.vd_relay.specs.Replays.{Replays, ReplayHolds, IsBetween, is_done, is_over, replay_owes}

-- where it takes over: what stood on the guest's ring, the settings, and whether it replays them
pub record Opening : Type 0 where
  pub takes : List (List Piece)
  pub gives : List Used
  pub settings : Settings
  pub replays : Bool

-- without a replay it replays the default settings, whose list is empty
abbrev pub replays_for : Bool → Settings → Settings
replays_for replays s = if replays then s else default

abbrev pub again : Opening → Settings
again z = replays_for z.replays z.settings

-- where it carries from, after so many commands that it replayed
abbrev pub carries_from : Opening → ℕ → Takeover
carries_from z n = record { takes = z.takes; gives = z.gives; replayed = n; settings = z.settings }

-- the guest's ring is as it was
pub record IsUntouched (z : Opening) (w : DeviceView) : Type 0 where
  pub takes : Rattle.vd_ring.specs.History.takes w.done ≡ z.takes
  pub gives : Rattle.vd_ring.specs.History.gives w.done ≡ z.gives

-- a replay that is over: all of its list is replayed, or a wind-up has left the rest out, with no command on the shadow ring
abbrev pub IsOver : Opening → Replay → DriverView → Type 0
IsOver z y v = (y.next ≡ length (replay (again z))) ⊎ ((y.winding ≡ true) × IsBetween v.done y.next)

-- ---- what holds by what it does

-- it replays. The guest's end is free, and nothing else than the replay stands on the shadow ring
pub record IsReplaying {E D : Type 0} (l : LayoutModel) (e : DeviceModel E) (d : DriverModel D) (z : Opening) (r : State E D) (k : Control)
    (s : Settings) (c : Counts) (w : DeviceView) (v : DriverView) : Type 0 where
  pub replays : ReplayHolds l d k.replay r.shadow v
  pub free : IsFree e r.guest w
  pub untouched : IsUntouched z w
  pub paired : AreControls w.frame v.frame
  pub waits : r.stage ≡ stage.Taking
  pub winding : r.winding ≡ k.replay.winding
  pub target : r.target ≡ k.replay.target
  pub origins : r.table ≡ replicate v.frame.size None
  pub commands : k.commander.commands ≡ replicate v.frame.size None
  pub hand : k.commander.hand ≡ carry.None
  pub settings : s ≡ z.settings
  pub pace : KeepsPace c (replay_owes d k.replay.winding k.replay.stage r.shadow v)

-- it leaves. The wind-up left the rest of the replay out, and a command of it stays on the shadow ring: as many are collected as were given
pub record IsLeaving {E D : Type 0} (l : LayoutModel) (e : DeviceModel E) (d : DriverModel D) (z : Opening) (r : State E D) (k : Control)
    (s : Settings) (c : Counts) (w : DeviceView) (v : DriverView) : Type 0 where
  pub left : IsLeft e r.guest w
  pub untouched : IsUntouched z w
  pub paired : AreControls w.frame v.frame
  pub replays : Replays l d k.replay r.shadow v
  pub stage : k.replay.stage ≡ Left
  pub one : open_at v.done ≡ k.replay.next ∷ []
  pub rests : e.resting r.guest ≡ is_rested r.stage
  pub winding : r.winding ≡ true
  pub target : r.target ≡ k.replay.target
  pub settings : s ≡ z.settings
  pub pace : KeepsPace c (leave_owes e r.guest)

-- it carries from where the replay is over
abbrev pub Does : {E D : Type 0} → Mode → LayoutModel → DeviceModel E → DriverModel D → Opening → State E D → Control → Settings → Counts
    → DeviceView → DriverView → Type 0
Does Replaying l e d z r k s c w v = (is_over k.replay.stage ≡ false) × IsReplaying l e d z r k s c w v
Does Carrying l e d z r k s c w v = CommandHolds l e d (carries_from z k.replay.next) r k.commander s c w v
Does Leaving l e d z r k s c w v = IsLeaving l e d z r k s c w v

pub record ControlHolds {E D : Type 0} (l : LayoutModel) (e : DeviceModel E) (d : DriverModel D) (z : Opening) (r : State E D) (k : Control)
    (s : Settings) (c : Counts) (w : DeviceView) (v : DriverView) : Type 0 where
  pub again : k.replay.settings ≡ Rattle.vd_relay.specs.Modes.again z
  -- all of the list was acknowledged, or a part
  pub done : IsTrue (is_done k.replay.stage) ↔ (k.replay.next ≡ length (replay (Rattle.vd_relay.specs.Modes.again z)))
  pub does : Does k.mode l e d z r k s c w v

-- every command of the replay list was acknowledged; at once, where there is none
abbrev pub has_replayed : Option Control → Bool
has_replayed None = true
has_replayed (Some k) = is_done k.replay.stage
