-- What the rounds of a play leave of its lanes.
use Rattle.std.specs.Prelude.{◌≡◌, ℕ, ◌+◌, ◌<◌, Bool, true, false, Option, Some, List, length, slice_get}
use Rattle.vd_layout.specs.Device.{DeviceModel}
use Rattle.vd_bus.specs.Device.{DeviceParty, IsSuspend}
use Rattle.vd_bus.specs.Guest.{GuestParty}
use Rattle.vd_machine.specs.File.{Plan}
use Rattle.vd_play.specs.declared.bench.Bench.{Bench}
use Rattle.vd_play.specs.declared.floor.Lane.{Lane}
use Rattle.vd_play.specs.Each.{EachLane}
use Rattle.vd_play.specs.Journal.{queue_epochs}
use Rattle.vd_play.specs.Played.{IsPlayed}
use Rattle.vd_play.specs.Progress.{InEpoch, AllInEpoch, AllStopped, steps, all_made}
use Rattle.vd_play.specs.Setting.{Setting}

-- a device was suspended, and the end that it handed out is kept
abbrev pub IsSuspended : {E X C : Type 0} → DeviceModel E → DeviceParty X C → X → X → Option E → Type 0
IsSuspended {E} e m x y still = (end : E) × (still ≡ Some end) × IsSuspend e m x y end

-- a lane is one round further, and its parties have made so many steps that were no looks
abbrev pub LaneGoes : {L D E G X C : Type 0} → Setting D E G X C → Plan → Lane L D E → Lane L D E → G → G → X → X → ℕ → Type 0
LaneGoes s plan a a' b b' x x' made = (q : ℕ) (on : Bool) (k n : ℕ) → InEpoch s plan q on k n a b x
    → InEpoch s plan q on k (n + 1) a' b' x' × (steps s a'.relayed b' x' ≡ steps s a.relayed b x + made)

-- all lanes are one round further
abbrev pub RoundGoes : {L D E G X C : Type 0} → Setting D E G X C → Plan → List (Lane L D E) → List (Lane L D E) → Bench G X → Bench G X → ℕ
    → Type 0
RoundGoes s plan lanes lanes' bench bench' made = (on : Bool) (k n : ℕ) → AllInEpoch s plan on k n lanes bench
    → AllInEpoch s plan on k (n + 1) lanes' bench' × (all_made s lanes' bench' ≡ all_made s lanes bench + made)

-- an epoch has come to its end
abbrev pub EpochGoes : {L D E G X C : Type 0} → Setting D E G X C → Plan → List (Lane L D E) → List (Lane L D E) → Bench G X → Bench G X → ℕ
    → Type 0
EpochGoes s plan lanes lanes' bench bench' made = (k : ℕ) → AllInEpoch s plan true k 0 lanes bench
    → AllStopped s plan (k + 1) lanes' bench' × (all_made s lanes' bench' ≡ all_made s lanes bench + made)

-- k is the closing epoch of each queue
abbrev pub IsLast : Plan → ℕ → Type 0
IsLast plan k = (q : ℕ) → length (queue_epochs plan q) ≡ k + 1

-- after the closing epoch, some rounds were made
abbrev pub Drains : {L D E G X C : Type 0} → Setting D E G X C → Plan → List (Lane L D E) → List (Lane L D E) → Bench G X → Bench G X → ℕ
    → Type 0
Drains s plan lanes lanes' bench bench' made = (k : ℕ) → AllInEpoch s plan false k 0 lanes bench
    → ((n : ℕ) × AllInEpoch s plan false k n lanes' bench') × (all_made s lanes' bench' ≡ all_made s lanes bench + made)

-- the guests of the first n queues are done
abbrev pub AllDone : {G X : Type 0} → GuestParty G → ℕ → Bench G X → Type 0
AllDone g n bench = (q : ℕ) (guest : _) → q < n → slice_get bench.guests.items q ≡ Some guest → g.is_done guest

-- each queue whose guest was done was played to its end once it is halted
abbrev pub Halts : {L D E G X C : Type 0} → Setting D E G X C → List (Lane L D E) → Bench G X → Bench G X → Type 0
Halts s lanes bench bench' = (plan : Plan) (k r : ℕ) → IsLast plan k → AllInEpoch s plan false k r lanes bench
    → EachLane (λ q a b x. IsPlayed s plan q b x) lanes bench'.guests.items bench'.devices.items
