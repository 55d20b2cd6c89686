-- One access of a command or ack word, by which a relay of a control queue goes on with the command that it has in hand.
use Rattle.std.specs.Prelude.{◌≡◌, ◌⊎◌, ℕ, ◌+◌, Option, List}
use Rattle.vd_words.specs.declared.access.Access.{Access}
use Rattle.vd_words.specs.declared.access.Op.TheVariants.{Control}
use Rattle.vd_words.specs.Model.{PortModel}
use Rattle.vd_ring.specs.declared.driver.DriverView.{DriverView}
use Rattle.vd_ring.specs.declared.device.DeviceView.{DeviceView}
use Rattle.vd_layout.specs.Driver.{DriverModel}
use Rattle.vd_layout.specs.Device.{DeviceModel}
use Rattle.vd_layout.specs.Layout.{LayoutModel}
use Rattle.vd_control.specs.declared.settings.Settings.{Settings}
use Rattle.vd_table.specs.declared.Command.{Command}
use Rattle.vd_relay.specs.declared.carry.Carry.{Carry}
use Rattle.vd_relay.specs.declared.state.State.{State}
use Rattle.vd_relay.specs.Commanding.{Takeover}
use Rattle.vd_relay.specs.Underway.{Commanding, owed}

-- on the guest's ring: the relay's ends and its settings stay as they are
pub record OnGuestWord {P E D : Type 0} (port : PortModel P) (l : LayoutModel) (e : DeviceModel E) (d : DriverModel D) (z : Takeover)
    (p q : P) (r : State E D) (hand hand' : Carry) (table : List (Option Command)) (settings : Settings) (w : DeviceView) (v : DriverView)
    : Type 0 where
  pub access : Access
  pub got : ℕ
  pub was_next : e.side.next w Control access
  pub moved : port.moves p Control access got q
  pub commands : Commanding l e d z r hand' table settings (e.side.after w Control access got) v
  pub paid : owed e d r hand' (e.side.after w Control access got) v + 1 ≡ owed e d r hand w v

-- on the shadow ring: a load of an ack may change the settings, and which of the commands that stand there are late
pub record OnShadowWord {Q E D : Type 0} (port : PortModel Q) (l : LayoutModel) (e : DeviceModel E) (d : DriverModel D) (z : Takeover)
    (p q : Q) (r : State E D) (hand hand' : Carry) (table table' : List (Option Command)) (settings settings' : Settings) (w : DeviceView)
    (v : DriverView) : Type 0 where
  pub access : Access
  pub got : ℕ
  pub was_next : d.side.next v Control access
  pub moved : port.moves p Control access got q
  pub commands : Commanding l e d z r hand' table' settings' w (d.side.after v Control access got)
  pub paid : owed e d r hand' w (d.side.after v Control access got) + 1 ≡ owed e d r hand w v

-- a relay that may make one
pub record CanAccess {E D : Type 0} (l : LayoutModel) (e : DeviceModel E) (d : DriverModel D) (r : State E D) (hand : Carry)
    (table : List (Option Command)) (settings : Settings) (w : DeviceView) (v : DriverView) : Type 0 where
  pub from : Takeover
  pub commands : Commanding l e d from r hand table settings w v

-- one such access, on one of the two ports
abbrev pub OneWord : {P Q E D : Type 0} → PortModel P → PortModel Q → LayoutModel → DeviceModel E → DriverModel D → Takeover → P → P → Q
    → Q → State E D → Carry → Carry → List (Option Command) → List (Option Command) → Settings → Settings → DeviceView → DriverView → Type 0
OneWord p q l e d z a a' b b' r hand hand' table table' s s' w v =
    ((b' ≡ b) × (table' ≡ table) × (s' ≡ s) × OnGuestWord p l e d z a a' r hand hand' table s w v)
    ⊎ ((a' ≡ a) × OnShadowWord q l e d z b b' r hand hand' table table' s s' w v)
