-- The end that a still lane owns.
use Rattle.std.specs.Prelude.{◌≡◌, ◌||◌, Bool, false, List, [], length, Option}
use Rattle.vd_model.specs.declared.map.Mapping.{Mapping}
use Rattle.vd_ring.specs.declared.driver.DriverView.{DriverView}
use Rattle.vd_ring.specs.declared.device.DeviceView.{DeviceView}
use Rattle.vd_layout.specs.Driver.{DriverModel}
use Rattle.vd_layout.specs.Device.{DeviceModel}
use Rattle.vd_layout.specs.Layout.{LayoutModel}
use Rattle.vd_control.specs.declared.settings.Settings.{Settings}
use Rattle.vd_table.specs.declared.Origin.{Origin}
use Rattle.vd_table.specs.declared.ShadowTable.{ShadowTable}
use Rattle.vd_relay.specs.declared.control.Control.{Control}
use Rattle.vd_relay.specs.declared.control.Mode.TheVariants.{Carrying}
use Rattle.vd_relay.specs.declared.counts.Counts.{Counts}
use Rattle.vd_relay.specs.declared.state.State.{State}
use Rattle.vd_relay.specs.ModeEnds.{opening}
use Rattle.vd_relay.specs.Modes.{ControlHolds}
use Rattle.vd_relay.specs.Moving.{Holds, start}
use Rattle.vd_relay.specs.Pairing.{ArePaired, AreControls}
use Rattle.vd_relay.specs.Replays.{IsShadowRing}
use Rattle.vd_relay.specs.Stages.{is_rested}

-- it rests or is fresh
abbrev pub is_still : {E : Type 0} → DeviceModel E → E → Bool
is_still e end = e.resting end || e.fresh end

-- a relay was made of the lane's end and the kit: for each map and views with which it may be, it holds both rings from there on
abbrev pub Shadows : {E D : Type 0} → DeviceModel E → DriverModel D → E → D → List (Option Origin) → State E D → Counts → Type 0
Shadows e d end shadow table r c = (ms : List Mapping) (w : DeviceView) (v : DriverView) → e.stands end w → d.stands shadow v
    → ArePaired ms w.frame v.frame → v.done ≡ [] → Holds e d (start ms w) r c w v

-- a relay of a control queue was made of them and of the lane's settings, which it replays, or not: from there on it holds both rings. One
-- that carries at once has nothing to replay
abbrev pub Replays : {E D : Type 0} → LayoutModel → DeviceModel E → DriverModel D → Bool → Settings → E → D → ShadowTable → State E D
    → Control → Counts → Type 0
Replays l e d replay s end shadow table r k c = (w : DeviceView) (v : DriverView) → e.stands end w → d.stands shadow v
    → IsShadowRing l v.frame → AreControls w.frame v.frame → v.done ≡ [] → ControlHolds l e d (opening s replay w) r k s c w v
    × (k.mode ≡ Carrying → k.replay.next ≡ length (Rattle.vd_control.specs.Settings.replay k.replay.settings))

-- a new relay has made no step, winds nothing up, and its end doesn't rest
pub record IsNew {E D : Type 0} (r : State E D) (c : Counts) : Type 0 where
  pub counts : c ≡ record { accesses = 0; handled = 0; heard = 0 }
  pub winding : r.winding ≡ false
  pub live : is_rested r.stage ≡ false
