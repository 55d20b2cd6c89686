-- What holds of one queue's lane while a machine is played: of its guest, of its device, and of the ring between them. Each part
-- speaks of its own views alone, and holds after each single access.
use Rattle.std.specs.Prelude.{◌≡◌, ℕ, ◌<◌, ◌≤◌, ◌+◌, List, [], ◌∷◌, ◌++◌, length, take, slice_get, Some, None}
use Rattle.std.specs.List.{All}
use Rattle.vd_model.specs.declared.base.Mode.TheVariants.{Pass}
use Rattle.vd_model.specs.declared.record.Begun.{Begun}
use Rattle.vd_words.specs.Plain.{RingWords}
use Rattle.vd_ring.specs.declared.driver.DriverView.{DriverView}
use Rattle.vd_ring.specs.declared.device.DeviceView.{DeviceView}
use Rattle.vd_ring.specs.declared.frame.Used.{Used}
use Rattle.vd_ring.specs.Frames.{Fits}
use Rattle.vd_ring.specs.History.{takes, gives}
use Rattle.vd_layout.specs.Device.{IsStill}
use Rattle.vd_layout.specs.Layout.{LayoutModel, CanMake}
use Rattle.vd_bus.specs.declared.device.Attached.{Attached}
use Rattle.vd_bus.specs.Device.{IsBegun, chains_of, lens_of}
use Rattle.vd_bus.specs.Orders.{IsData}
use Rattle.vd_machine.specs.File.{Plan}
use Rattle.vd_machine.specs.declared.limits.TheConstants.{MOST_CHAINS}
use Rattle.vd_play.specs.Before.{events_before, chains_before, begun_at, resets}
use Rattle.vd_play.specs.Epochs.{AreChained, AreNumbered, mode_at}
use Rattle.vd_play.specs.Journal.{queue_script, queue_chains, queue_epochs, guest_frame, attach_event, journal_events, tree_map}
use Rattle.vd_play.specs.Setting.{Setting}
use Rattle.vd_play.specs.Tree.{IsTreeOf}

-- what the machine's rules and its ring's size say of a queue
pub record IsQueue (l : LayoutModel) (plan : Plan) (q : ℕ) : Type 0 where
  pub low : q < 8
  pub plain : (queue_script plan q).commands ≡ []
  pub few : length (queue_chains plan q) ≤ MOST_CHAINS
  pub sized : (2 ≤ plan.size) × (plan.size ≤ 32768)
  pub made : CanMake l plan.size plan.features
  pub epochs : length (queue_epochs plan q) ≤ 18
  pub chained : AreChained (length (queue_chains plan q)) (queue_epochs plan q)
  pub numbered : AreNumbered plan (queue_epochs plan q)
  pub tree : IsTreeOf plan (tree_map plan)
  pub fits : All (Fits (guest_frame l plan q)) (queue_chains plan q)

-- the guest's part: it has loaded the queue's script, and holds the driver's end of the queue's ring
pub record Drives {D E G X C : Type 0} (s : Setting D E G X C) (plan : Plan) (q : ℕ) (guest : G) (v : DriverView) : Type 0 where
  pub script : s.guest.script guest ≡ Some (queue_script plan q)
  pub holds : s.guest.holds guest v
  pub framed : v.frame ≡ guest_frame s.layout plan q

-- the guest on its ring, which has the queue's number
pub record IsDriven {D E G X C : Type 0} (s : Setting D E G X C) (plan : Plan) (q : ℕ) (words : RingWords) (guest : G)
    (v : DriverView) (w : DeviceView) : Type 0 where
  pub queue : IsQueue s.layout plan q
  pub numbered : words.ring ≡ q
  pub ring : s.layout.ring words.words v w
  pub part : Drives s plan q guest v

-- the chains that were begun before epoch k are those that the machine orders before it; those of the epoch stand behind them
pub record Account (plan : Plan) (q k : ℕ) (begun : List Begun) : Type 0 where
  pub before : chains_of (take (begun_at plan q k) begun) ≡ chains_before plan q k
  pub many : begun_at plan q k ≤ length begun
  pub each : All IsBegun begun

-- what was reserved: the machine's window, and room for all chains
pub record IsReserved {D E G X C : Type 0} (s : Setting D E G X C) (plan : Plan) (q : ℕ) (device : X) : Type 0 where
  pub window : s.party.window device ≡ plan.window
  pub room : length (queue_chains plan q) ≤ s.party.chain_room device + length (s.party.begun device)

-- the entry has the length that was given for its chain
abbrev pub HasGiven : List ℕ → Used → Type 0
HasGiven lens u = slice_get lens u.number ≡ Some u.len

-- the guest's part, the account up to epoch k and in it, and what was reserved; what was given on the guest's ring has the length that
-- the journal has for it
pub record IsKept {D E G X C : Type 0} (s : Setting D E G X C) (plan : Plan) (q k : ℕ) (words : RingWords) (guest : G) (device : X)
    (v : DriverView) (w : DeviceView) : Type 0 where
  pub driven : IsDriven s plan q words guest v w
  pub account : Account plan q k (s.party.begun device)
  pub given : All (HasGiven (lens_of (s.party.begun device))) (gives w.done)
  pub reserved : IsReserved s plan q device

-- the journal has room for all that the machine orders still
abbrev pub HasRoom : {D E G X C : Type 0} → Setting D E G X C → Plan → ℕ → X → Type 0
HasRoom s plan q device =
    length (journal_events s.device s.layout plan q) ≤ s.party.event_room device + length (s.party.events device)

-- the device's part before epoch k: it isn't attached, and the lane keeps the ring's end
pub record Rests {D E G X C : Type 0} (s : Setting D E G X C) (plan : Plan) (q k : ℕ) (end : E) (device : X) (w : DeviceView) : Type 0 where
  pub stands : s.device.stands end w
  pub still : IsStill s.device end
  pub free : s.party.attached device ≡ None
  pub taken : length (takes w.done) ≡ begun_at plan q k
  pub begun : length (s.party.begun device) ≡ begun_at plan q k
  pub events : s.party.events device ≡ events_before s.device s.layout plan q k
  pub room : HasRoom s plan q device

-- the device's part in epoch k of the mode pass: it is attached to the guest's ring, to begin the epoch's chains, and not yet done
pub record Serves {D E G X C : Type 0} (s : Setting D E G X C) (plan : Plan) (q k : ℕ) (device : X) (w : DeviceView) : Type 0 where
  pub epoch : k < length (queue_epochs plan q)
  pub mode : mode_at plan k ≡ Pass
  pub holds : s.party.holds device w
  pub by : Attached
  pub attached : s.party.attached device ≡ Some by
  pub for_data : IsData by.queue
  pub from : (by.at ≡ begun_at plan q k) × (by.from ≡ begun_at plan q k)
  pub to : by.at + by.count ≡ begun_at plan q (k + 1)
  pub events : s.party.events device ≡ events_before s.device s.layout plan q k
      ++ (resets plan q k ++ attach_event s.device s.layout plan q k (begun_at plan q k) ∷ [])
  pub room : HasRoom s plan q device
  pub live : s.party.is_done device → ⊥
