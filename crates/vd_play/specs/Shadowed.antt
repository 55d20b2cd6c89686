-- What holds of a lane in an epoch of the mode shadow: a relay stands between the guest's ring and the epoch's shadow ring.
use Rattle.std.specs.Prelude.{◌≡◌, ℕ, ◌+◌, ◌*◌, ◌<◌, List, [], ◌∷◌, ◌++◌, length, map, take, Some, None}
use Rattle.vd_model.specs.declared.base.Mode.TheVariants.{Shadow}
use Rattle.vd_model.specs.declared.chain.Piece.{Piece}
use Rattle.vd_words.specs.Plain.{RingWords}
use Rattle.vd_ring.specs.declared.driver.DriverView.{DriverView}
use Rattle.vd_ring.specs.declared.device.DeviceView.{DeviceView}
use Rattle.vd_bus.specs.declared.device.Attached.{Attached}
use Rattle.vd_bus.specs.Device.{lens_of}
use Rattle.vd_bus.specs.Orders.{IsData}
use Rattle.vd_relay.specs.declared.counts.Counts.{Counts}
use Rattle.vd_relay.specs.declared.state.State.{State}
use Rattle.vd_relay.specs.Moving.{Holds}
use Rattle.vd_relay.specs.Tie.{Start, since}
use Rattle.vd_switch.specs.ShadowingLanes as switch
use Rattle.vd_machine.specs.File.{Plan}
use Rattle.vd_play.specs.Before.{events_before, begun_at, resets}
use Rattle.vd_play.specs.Epochs.{mode_at}
use Rattle.vd_play.specs.Journal.{queue_epochs, tree_map, shadow_frame}
use Rattle.vd_play.specs.Lane.{IsDriven, Account, IsReserved, HasRoom}
use Rattle.vd_play.specs.Orders.{shadow_attach}
use Rattle.vd_play.specs.Setting.{Setting}

-- the guest's part, the account, what was reserved, and the parts of relay and device on their two rings. The relay took over where all
-- that was begun was given back; those chains have the lengths that the journal has for them
pub record IsRelayed {D E G X C : Type 0} (s : Setting D E G X C) (plan : Plan) (q k : ℕ) (words : RingWords)
    (shadow_words : List ℕ) (r : State E D) (c : Counts) (guest : G) (device : X) (by : Attached) (v : DriverView) (w : DeviceView)
    (sv : DriverView) (sw : DeviceView) : Type 0 where
  pub epoch : k < length (queue_epochs plan q)
  pub mode : mode_at plan k ≡ Shadow
  pub driven : IsDriven s plan q words guest v w
  pub account : Account plan q k (s.party.begun device)
  pub reserved : IsReserved s plan q device
  pub framed : sv.frame ≡ shadow_frame s.layout plan (16 * (k + 1) + q)
  pub start : Start
  pub old : List (List Piece × ℕ)
  pub lane : switch.IsShadowing s.device s.driver s.layout start old r (s.party.begun device) by words.words shadow_words v w sv sw
  pub holds : Holds s.device s.driver start r c w sv
  pub moves : start.map ≡ tree_map plan
  pub took_over : (since start ≡ begun_at plan q k) × (length start.takes ≡ begun_at plan q k) × (by.at ≡ begun_at plan q k)
  pub lens : map (λ x. x.1) old ≡ take (begun_at plan q k) (lens_of (s.party.begun device))
  pub to : by.at + by.count ≡ begun_at plan q (k + 1)

-- the device's part: it is attached to the shadow ring, to begin the epoch's chains, and not yet done
pub record ServesShadow {D E G X C : Type 0} (s : Setting D E G X C) (plan : Plan) (q k : ℕ) (device : X) (by : Attached)
    (sw : DeviceView) : Type 0 where
  pub holds : s.party.holds device sw
  pub attached : s.party.attached device ≡ Some by
  pub for_data : IsData by.queue
  pub events : s.party.events device ≡ events_before s.device s.layout plan q k
      ++ (resets plan q k ++ shadow_attach s.layout plan q k (begun_at plan q k) ∷ [])
  pub room : HasRoom s plan q device
  pub live : s.party.is_done device → ⊥

-- the device was suspended, once it had begun the epoch's chains
pub record HasServedShadow {D E G X C : Type 0} (s : Setting D E G X C) (plan : Plan) (q k : ℕ) (device : X) : Type 0 where
  pub free : s.party.attached device ≡ None
  pub begun : length (s.party.begun device) ≡ begun_at plan q (k + 1)
  pub events : s.party.events device ≡ events_before s.device s.layout plan q (k + 1)
  pub room : HasRoom s plan q device
