-- A new relay of a control queue, and what it hands back.
use Rattle.std.specs.Prelude.{◌≡◌, ◌≤◌, ℕ, Bool, Option, None, List, length, replicate}
use Rattle.vd_ring.specs.declared.driver.DriverView.{DriverView}
use Rattle.vd_ring.specs.declared.device.DeviceDone.{DeviceDone}
use Rattle.vd_ring.specs.declared.device.DeviceView.{DeviceView}
use Rattle.vd_ring.specs.History.{takes, gives, numbers, occurs}
use Rattle.vd_layout.specs.Driver.{DriverModel}
use Rattle.vd_layout.specs.Device.{DeviceModel}
use Rattle.vd_layout.specs.Layout.{LayoutModel}
use Rattle.vd_control.specs.declared.settings.Settings.{Settings}
use Rattle.vd_table.specs.declared.Origin.{Origin}
use Rattle.vd_table.specs.declared.Command.{Command}
use Rattle.vd_relay.specs.declared.control.Control.{Control}
use Rattle.vd_relay.specs.declared.control.Mode.{Mode}
use Rattle.vd_relay.specs.declared.control.Mode.TheVariants.{Replaying, Carrying, Leaving}
use Rattle.vd_relay.specs.Pairing.{AreControls}
use Rattle.vd_relay.specs.Relay.{HandsBack}
use Rattle.vd_relay.specs.Tie.{guests}
use Rattle.vd_relay.specs.Commanding.{Takeover, IsAnswered, IsCarried, carries}
use Rattle.vd_relay.specs.Settling.{settled}
use Rattle.vd_relay.specs.Replays.{IsFreshShadow}
use Rattle.vd_relay.specs.Modes.{Opening, IsUntouched, carries_from}

-- the ends of a new one are free, and the table is empty
pub record IsControlOpen {E D : Type 0} (l : LayoutModel) (e : DeviceModel E) (d : DriverModel D) (a : E) (b : D)
    (origins : List (Option Origin)) (commands : List (Option Command)) (w : DeviceView) (v : DriverView) : Type 0 where
  pub serves : e.stands a w
  pub outstanding : length (takes w.done) ≡ length (gives w.done)
  pub fresh : IsFreshShadow l d b v
  pub paired : AreControls w.frame v.frame
  pub origins_empty : origins ≡ replicate v.frame.size None
  pub commands_empty : commands ≡ replicate v.frame.size None

-- where it takes over
abbrev pub opening : Settings → Bool → DeviceView → Opening
opening s replays w = record { takes = takes w.done; gives = gives w.done; settings = s; replays = replays }

-- after a relay that carried: before the guest's end rested, each command given back was answered by the ack that was loaded for it; the
-- settings follow the acks
pub record HasAnswered (z : Takeover) (s : Settings) (w : DeviceView) (v : DriverView) : Type 0 where
  pub acts : List DeviceDone
  pub rested : gives w.done ≡ gives acts
  pub answered : (k : ℕ) → IsCarried z v.done k → 1 ≤ occurs (guests (carries z) k) (numbers (gives acts))
      → IsAnswered acts (guests (carries z) k) v.done k
  pub settled : s ≡ Rattle.vd_relay.specs.Settling.settled z.settings z.replayed v.frame v.done

-- a relay that left has taken and given nothing
abbrev pub Answers : Mode → Opening → ℕ → Settings → DeviceView → DriverView → Type 0
Answers Replaying z n s w v = ⊥
Answers Carrying z n s w v = HasAnswered (carries_from z n) s w v
Answers Leaving z n s w v = IsUntouched z w × (s ≡ z.settings)

-- the guest's end rests, and all that was collected for the guest was given, each with its length
abbrev pub HandsBackControl : {E D : Type 0} → DeviceModel E → DriverModel D → Opening → Control → Settings → E → D → ℕ → DeviceView
    → DriverView → Type 0
HandsBackControl e d z k s a b target w v = HandsBack e d (carries (carries_from z k.replay.next)) a b target w v
    × Answers k.mode z k.replay.next s w v
