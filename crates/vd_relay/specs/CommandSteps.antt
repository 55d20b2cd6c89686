-- One step of a relay of a control queue that carries: an access of a command or ack word that is due, or one of its rings' operations.
use Rattle.std.specs.Prelude.{◌≡◌, ◌⊎◌, ◌↔◌, true}
use Rattle.vd_words.specs.Model.{PortModel}
use Rattle.vd_ring.specs.declared.device.DeviceNow.TheVariants as device
use Rattle.vd_ring.specs.declared.driver.DriverNow.TheVariants as driver
use Rattle.vd_ring.specs.declared.device.DeviceView.{DeviceView}
use Rattle.vd_ring.specs.declared.driver.DriverView.{DriverView}
use Rattle.vd_layout.specs.Begun.{DriverOp, DeviceOp}
use Rattle.vd_layout.specs.Driver.{DriverModel}
use Rattle.vd_layout.specs.Device.{DeviceModel}
use Rattle.vd_layout.specs.Layout.{LayoutModel}
use Rattle.vd_layout.specs.declared.moves.Move.{Move}
use Rattle.vd_layout.specs.declared.moves.Move.TheVariants as move
use Rattle.vd_control.specs.declared.settings.Settings.{Settings}
use Rattle.vd_relay.specs.declared.commander.Commander.{Commander}
use Rattle.vd_relay.specs.declared.counts.Counts.{Counts}
use Rattle.vd_relay.specs.declared.state.State.{State}
use Rattle.vd_relay.specs.Pace.{KeepsPace}
use Rattle.vd_relay.specs.Stages.{is_rested}
use Rattle.vd_relay.specs.Relay.{HearsNone, IsKept, IsQuiet, OnGuest, OnShadow}
use Rattle.vd_relay.specs.Commanding.{Takeover, carries}
use Rattle.vd_relay.specs.Underway.{Commanding, owed}

-- it keeps its pace, the accesses that are due counted. Between two steps an end that hears is in its disarming store, and a wind-up is to
-- hear no bell
pub record CommandHolds {E D : Type 0} (l : LayoutModel) (e : DeviceModel E) (d : DriverModel D) (z : Takeover) (r : State E D)
    (x : Commander) (settings : Settings) (c : Counts) (w : DeviceView) (v : DriverView) : Type 0 where
  pub commands : Commanding l e d z r x.hand x.commands settings w v
  pub pace : KeepsPace c (owed e d r x.hand w v)
  pub hears_guest : e.begun r.guest ≡ DeviceOp.hear → w.doing ≡ device.Idle → ⊥
  pub hears_shadow : d.begun r.shadow ≡ DriverOp.hear → v.doing ≡ driver.Idle → ⊥
  pub leaves : HearsNone e d r

-- an access on the guest's ring, as one of any relay; what was carried stands after it
abbrev pub OnGuestCommand : {P E D : Type 0} → PortModel P → LayoutModel → DeviceModel E → DriverModel D → Takeover → P → P → State E D
    → State E D → Commander → Commander → Settings → Counts → Counts → DeviceView → DriverView → Move → Type 0
OnGuestCommand port l e d z p q r r' x x' s c c' w v said = (t : OnGuest port e d (carries z) p q r r' c c' w v said)
    × CommandHolds l e d z r' x' s c' (e.side.after w t.op t.access t.got) v

-- on the shadow ring; the load of an ack may change the settings
abbrev pub OnShadowCommand : {P E D : Type 0} → PortModel P → LayoutModel → DeviceModel E → DriverModel D → Takeover → P → P → State E D
    → State E D → Commander → Commander → Settings → Counts → Counts → DeviceView → DriverView → Move → Type 0
OnShadowCommand port l e d z p q r r' x x' s' c c' w v said = (t : OnShadow port e d (carries z) p q r r' c c' w v said)
    × CommandHolds l e d z r' x' s' c' w (d.side.after v t.op t.access t.got)

-- exactly one access, on one of the two ports
pub record IsCommandStep {P Q E D : Type 0} (p : PortModel P) (q : PortModel Q) (l : LayoutModel) (e : DeviceModel E) (d : DriverModel D)
    (z : Takeover) (a a' : P) (b b' : Q) (w : DeviceView) (v : DriverView) (r r' : State E D) (x x' : Commander) (s s' : Settings)
    (c c' : Counts) (said : Move) : Type 0 where
  pub made : ((b' ≡ b) × (s' ≡ s) × OnGuestCommand p l e d z a a' r r' x x' s c c' w v said)
      ⊎ ((a' ≡ a) × OnShadowCommand q l e d z b b' r r' x x' s' c c' w v said)
  pub kept : IsKept r r'
  pub quiet : IsQuiet d r r'
  pub finished : (said ≡ move.Finished) ↔ (is_rested r'.stage ≡ true)
  pub still : said ≡ move.Looked → (c' ≡ c) × (x' ≡ x) × (s' ≡ s)
  pub pace : KeepsPace c' 0

-- a relay that may make one
pub record CanCommand {E D : Type 0} (l : LayoutModel) (e : DeviceModel E) (d : DriverModel D) (r : State E D) (x : Commander)
    (settings : Settings) (c : Counts) (w : DeviceView) (v : DriverView) : Type 0 where
  pub from : Takeover
  pub holds : CommandHolds l e d from r x settings c w v
