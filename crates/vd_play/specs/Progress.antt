-- How far a lane is: what it keeps, and apart from it how many steps its parties have made.
use Rattle.std.specs.Prelude.{◌≡◌, ◌⊎◌, ℕ, ◌+◌, ◌*◌, ◌≤◌, Bool, true, false, Option, Some, None, List, length}
use Rattle.std.specs.List.{sum_by}
use Rattle.vd_model.specs.declared.record.Script.{Script}
use Rattle.vd_words.specs.Plain.{RingWords}
use Rattle.vd_ring.specs.declared.driver.DriverView.{DriverView}
use Rattle.vd_ring.specs.declared.device.DeviceView.{DeviceView}
use Rattle.vd_ring.specs.History.{takes}
use Rattle.vd_ring.specs.Sleep.{driver_hearings, device_hearings}
use Rattle.vd_bus.specs.declared.device.Attached.{Attached}
use Rattle.vd_bus.specs.Pace.{attaches}
use Rattle.vd_bus.specs.Scripts.{run_count}
use Rattle.vd_relay.specs.declared.counts.Counts.{Counts}
use Rattle.vd_relay.specs.declared.state.State.{State}
use Rattle.vd_relay.specs.Stages.{is_rested}
use Rattle.vd_machine.specs.File.{Plan}
use Rattle.vd_turns.specs.RelayTurns.{HalfWaits, did}
use Rattle.vd_play.specs.declared.bench.Bench.{Bench}
use Rattle.vd_play.specs.declared.floor.Lane.{Lane}
use Rattle.vd_play.specs.declared.floor.Relaying.{Relaying}
use Rattle.vd_play.specs.Before.{begun_at}
use Rattle.vd_play.specs.Each.{EachLane}
use Rattle.vd_play.specs.Journal.{queue_chains}
use Rattle.vd_play.specs.Kits.{HasKits}
use Rattle.vd_play.specs.Lane.{IsKept, Rests, Serves}
use Rattle.vd_play.specs.Rings.{shadows, shadows_before}
use Rattle.vd_play.specs.Setting.{Setting}
use Rattle.vd_play.specs.Shadowed.{IsRelayed, ServesShadow, HasServedShadow}

-- ---- steps that were no looks of a sleeper

-- of one lane's guest, device and relays
abbrev pub steps : {D E G X C : Type 0} → Setting D E G X C → ℕ → G → X → ℕ
steps s relayed guest device = s.guest.accesses guest + s.party.accesses device + relayed

-- of all guests and devices of a bench
abbrev pub all_steps : {D E G X C : Type 0} → Setting D E G X C → Bench G X → ℕ
all_steps s bench = sum_by s.guest.accesses bench.guests.items + sum_by s.party.accesses bench.devices.items

-- and of all relays
abbrev pub all_made : {L D E G X C : Type 0} → Setting D E G X C → List (Lane L D E) → Bench G X → ℕ
all_made s lanes bench = all_steps s bench + sum_by (λ (l : Lane _ _ _). l.relayed) lanes

-- at most so many, of a guest of n chains, and of a device of n chains that heard so many bells and was attached so many times
abbrev pub guest_bound : ℕ → ℕ
guest_bound n = 64 * (3 * n + 1)

abbrev pub device_bound : ℕ → ℕ → ℕ → ℕ
device_bound n heard times = 64 * (2 * n + heard + times)

-- of a queue's relays before epoch k, which heard so many bells: a relay takes, offers, collects and gives each chain that is begun, and
-- may take and offer as many more as the ring has places
abbrev pub relays_bound : Plan → ℕ → ℕ → ℕ → ℕ
relays_bound plan q k heard = 64 * (4 * begun_at plan q k + (2 * plan.size + 1) * shadows_before plan k + heard)

-- so many bells at most were stored on the shadow rings before epoch k: one for each chain offered there, and one for each given
abbrev pub bells_before : Plan → ℕ → ℕ → ℕ
bells_before plan q k = 2 * begun_at plan q k + plan.size * shadows_before plan k

-- how many chains a machine has in all, how many rings are made for it, and at most how many steps its play has
abbrev pub work : Plan → ℕ
work plan = sum_by (λ (q : Script). run_count q.runs) plan.queues

abbrev pub rings : Plan → ℕ
rings plan = length plan.queues * (1 + shadows plan)

abbrev pub most_steps : Plan → ℕ
most_steps plan = 1024 * (work plan + rings plan * plan.size)

-- ---- a lane

-- the bells that the guest heard are in its view, and guest and device have kept their pace
pub record IsPaced {D E G X C : Type 0} (s : Setting D E G X C) (n most : ℕ) (guest : G) (device : X) (v : DriverView) : Type 0 where
  pub guest_heard : s.guest.heard guest ≤ driver_hearings v
  pub guest_low : s.guest.accesses guest ≤ guest_bound n
  pub device_low : s.party.accesses device ≤ device_bound n (s.party.heard device) (attaches (s.party.events device))
  pub times : attaches (s.party.events device) ≤ most

-- the bells that the device and the relays before epoch k heard, `relays` of them the relays, are in the view of the device's end, or were
-- stored on shadow rings; and those relays have kept their pace
pub record HasHeard {D E G X C : Type 0} (s : Setting D E G X C) (plan : Plan) (q k relayed : ℕ) (device : X) (w : DeviceView)
    : Type 0 where
  pub relays : ℕ
  pub heard : s.party.heard device + relays ≤ device_hearings w + bells_before plan q k
  pub low : relayed ≤ relays_bound plan q k relays

-- before epoch k; where all chains were begun, of two rounds one has made a step that was no look, or the guest is done
pub record IsStopped {D E G X C : Type 0} (s : Setting D E G X C) (plan : Plan) (q k r : ℕ) (words : RingWords) (end : E) (relayed : ℕ)
    (guest : G) (device : X) : Type 0 where
  pub view : DriverView
  pub device_view : DeviceView
  pub kept : IsKept s plan q k words guest device view device_view
  pub rests : Rests s plan q k end device device_view
  pub paced : IsPaced s (length (queue_chains plan q)) k guest device view
  pub heard : HasHeard s plan q k relayed device device_view
  pub early : k ≤ 18
  pub late : length (queue_chains plan q) ≤ length (takes device_view.done)
      → s.guest.is_done guest ⊎ (r ≤ 2 * steps s relayed guest device + 1)

-- in epoch k of the mode pass, the device attached to the guest's ring; each of r rounds has made a step that was no look
pub record IsPassing {D E G X C : Type 0} (s : Setting D E G X C) (plan : Plan) (q k r : ℕ) (words : RingWords) (relayed : ℕ) (guest : G)
    (device : X) : Type 0 where
  pub view : DriverView
  pub device_view : DeviceView
  pub kept : IsKept s plan q k words guest device view device_view
  pub serves : Serves s plan q k device device_view
  pub paced : IsPaced s (length (queue_chains plan q)) (k + 1) guest device view
  pub heard : HasHeard s plan q k relayed device device_view
  pub rounds : r ≤ steps s relayed guest device

-- the bells that the device and all relays heard are in the three views that listen, or were stored on shadow rings before; and the
-- relay has taken, offered, collected and given what stands on its two rings
pub record HasRelayHeard {D E G X C : Type 0} (s : Setting D E G X C) (plan : Plan) (q k relayed : ℕ) (r : State E D) (c : Counts)
    (device : X) (v : DriverView) (w : DeviceView) (sv : DriverView) (sw : DeviceView) : Type 0 where
  pub relays : ℕ
  pub before : ℕ
  pub heard : s.party.heard device + relays + c.heard
      ≤ device_hearings w + driver_hearings sv + device_hearings sw + bells_before plan q k
  pub low : before ≤ relays_bound plan q k relays
  pub counted : relayed ≡ before + c.accesses
  pub handled : c.handled + 2 * begun_at plan q k ≤ did r v w sv
  pub pace : c.accesses ≤ 64 * (c.handled + c.heard + 1)

-- in epoch k of the mode shadow, the device attached to the shadow ring. Of two rounds one has made a step that was no look; in the last
-- one all may have looked
pub record IsShadowing {D E G X C : Type 0} (s : Setting D E G X C) (plan : Plan) (q k n : ℕ) (words : RingWords) (shadow_words : List ℕ)
    (r : State E D) (c : Counts) (relayed : ℕ) (guest : G) (device : X) : Type 0 where
  pub by : Attached
  pub view : DriverView
  pub device_view : DeviceView
  pub shadow_view : DriverView
  pub shadow_device_view : DeviceView
  pub kept : IsRelayed s plan q k words shadow_words r c guest device by view device_view shadow_view shadow_device_view
  pub serves : ServesShadow s plan q k device by shadow_device_view
  pub awake : (r.winding ≡ false) × (is_rested r.stage ≡ false)
  pub paced : IsPaced s (length (queue_chains plan q)) (k + 1) guest device view
  pub heard : HasRelayHeard s plan q k relayed r c device view device_view shadow_view shadow_device_view
  pub rounds : (n ≤ 2 * steps s relayed guest device) ⊎ ((n ≤ 2 * steps s relayed guest device + 1)
      × HalfWaits r.stage view device_view shadow_view shadow_device_view)

-- the device is suspended, and the relay winds up
pub record IsWinding {D E G X C : Type 0} (s : Setting D E G X C) (plan : Plan) (q k n : ℕ) (words : RingWords) (shadow_words : List ℕ)
    (r : State E D) (c : Counts) (relayed : ℕ) (guest : G) (device : X) : Type 0 where
  pub by : Attached
  pub view : DriverView
  pub device_view : DeviceView
  pub shadow_view : DriverView
  pub shadow_device_view : DeviceView
  pub kept : IsRelayed s plan q k words shadow_words r c guest device by view device_view shadow_view shadow_device_view
  pub served : HasServedShadow s plan q k device
  pub winds : (r.winding ≡ true) × (is_rested r.stage ≡ false)
  pub paced : IsPaced s (length (queue_chains plan q)) (k + 1) guest device view
  pub heard : HasRelayHeard s plan q k relayed r c device view device_view shadow_view shadow_device_view
  pub rounds : n ≤ 2 * steps s relayed guest device + 1

-- by whether its relay winds up
abbrev pub RelayingBy : {D E G X C : Type 0} → Bool → Setting D E G X C → Plan → ℕ → ℕ → ℕ → RingWords → List ℕ → State E D → Counts → ℕ
    → G → X → Type 0
RelayingBy false s plan q k n words shadow_words r c relayed guest device =
    IsShadowing s plan q k n words shadow_words r c relayed guest device
RelayingBy true s plan q k n words shadow_words r c relayed guest device =
    IsWinding s plan q k n words shadow_words r c relayed guest device

abbrev pub IsRelaying : {L D E G X C : Type 0} → Setting D E G X C → Plan → ℕ → ℕ → ℕ → RingWords → Relaying L D E → ℕ → G → X → Type 0
IsRelaying s plan q k n words x relayed guest device = RelayingBy x.lane.relay.state.winding s plan q k n words x.words.words
    x.lane.relay.state x.lane.relay.counts relayed guest device

-- before epoch k, the lane holding this end, and no relay
abbrev pub StoppedWith : {L D E G X C : Type 0} → Setting D E G X C → Plan → ℕ → ℕ → RingWords → Option E → Option (Relaying L D E) → ℕ
    → G → X → Type 0
StoppedWith s plan q k words (Some end) None relayed guest device = IsStopped s plan q k 0 words end relayed guest device
StoppedWith s plan q k words _ _ relayed guest device = ⊥

-- where a device may be attached still, the lane is passing or shadowing; else none is
abbrev pub If : Bool → Type 0 → Type 0
If true P = P
If false P = ⊥

-- in epoch k after n rounds, the lane holding this end or none, and this relay or none
abbrev pub InEpochWith : {L D E G X C : Type 0} → Setting D E G X C → Plan → ℕ → Bool → ℕ → ℕ → RingWords → Option E
    → Option (Relaying L D E) → ℕ → G → X → Type 0
InEpochWith s plan q on k n words None None relayed guest device = If on (IsPassing s plan q k n words relayed guest device)
InEpochWith s plan q on k n words None (Some x) relayed guest device = If on (IsRelaying s plan q k n words x relayed guest device)
InEpochWith s plan q on k n words (Some end) None relayed guest device = IsStopped s plan q (k + 1) n words end relayed guest device
InEpochWith s plan q on k n words (Some end) (Some x) relayed guest device = ⊥

-- a relay is one of a data queue
abbrev pub IsPlain : {L D E : Type 0} → Option (Relaying L D E) → Type 0
IsPlain None = Unit {0}
IsPlain (Some x) = x.lane.relay.control ≡ None

-- the lane is still before epoch k, and has the shadow rings from there on
pub record Stopped {L D E G X C : Type 0} (s : Setting D E G X C) (plan : Plan) (q k : ℕ) (lane : Lane L D E) (guest : G) (device : X)
    : Type 0 where
  pub held : StoppedWith s plan q k lane.words lane.still lane.relaying lane.relayed guest device
  pub kits : HasKits s.driver s.device s.layout plan q k lane.kits.items

-- the lane is passing or shadowing in epoch k, unless it is closed, or has come to its end; it has the shadow rings behind that
pub record InEpoch {L D E G X C : Type 0} (s : Setting D E G X C) (plan : Plan) (q : ℕ) (on : Bool) (k n : ℕ) (lane : Lane L D E)
    (guest : G) (device : X) : Type 0 where
  pub held : InEpochWith s plan q on k n lane.words lane.still lane.relaying lane.relayed guest device
  pub kits : HasKits s.driver s.device s.layout plan q (k + 1) lane.kits.items
  pub plain : IsPlain lane.relaying

-- ---- all lanes

abbrev pub AllStopped : {L D E G X C : Type 0} → Setting D E G X C → Plan → ℕ → List (Lane L D E) → Bench G X → Type 0
AllStopped s plan k lanes bench = EachLane (λ q a b x. Stopped s plan q k a b x) lanes bench.guests.items bench.devices.items

abbrev pub AllInEpoch : {L D E G X C : Type 0} → Setting D E G X C → Plan → Bool → ℕ → ℕ → List (Lane L D E) → Bench G X → Type 0
AllInEpoch s plan on k n lanes bench = EachLane (λ q a b x. InEpoch s plan q on k n a b x) lanes bench.guests.items bench.devices.items
