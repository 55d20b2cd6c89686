-- What a model guest has in hand of a command between its operations.
use Rattle.std.specs.Prelude.{◌≡◌, ℕ, ◌+◌, ◌<◌, Some, List, length, slice_get}
use Rattle.vd_model.specs.declared.record.Return.{Return}
use Rattle.vd_model.specs.declared.record.Script.{Script}
use Rattle.vd_ring.specs.declared.driver.DriverDone.{DriverDone}
use Rattle.vd_ring.specs.declared.frame.Frame.{Frame}
use Rattle.vd_ring.specs.Control.{last_command, last_collected}
use Rattle.vd_ring.specs.History.{offers, collects, entry, head, next_head, used_at}
use Rattle.vd_layout.specs.Begun.{DriverOp}
use Rattle.vd_layout.specs.Control.{ControlWords}
use Rattle.vd_layout.specs.Driver.{HasRoom}
use Rattle.vd_commands.specs.Words.{command_word}
use Rattle.vd_bus.specs.GuestCommands.{commands, command_chain, HasCommands}
use Rattle.vd_models.specs.declared.driving.GuestStage.{GuestStage}
use Rattle.vd_models.specs.declared.driving.GuestStage.TheVariants as stage
use Rattle.vd_models.specs.declared.pending.Pending.{Pending}
use Rattle.vd_models.specs.declared.pending.Pending.TheVariants as hand

-- the next command has room, and the first so many of its two words are stored
pub record IsInHand (words : ControlWords) (s : Script) (f : Frame) (o : List DriverDone) (n : ℕ) : Type 0 where
  pub bytes : List ℕ
  pub next : slice_get (commands s) (length (offers o)) ≡ Some bytes
  pub room : HasRoom f o (command_chain words f (next_head f o) bytes)
  pub stored : (half : ℕ) → half < n → last_command o (next_head f o) half ≡ command_word bytes half

-- of a script with commands, while an offer is prepared: all that was collected has its ack
pub record IsSending (words : ControlWords) (s : Script) (rs : List Return) (f : Frame) (o : List DriverDone) (st : GuestStage) (n : ℕ)
    : Type 0 where
  pub some : HasCommands s
  pub back : length rs ≡ length (collects o)
  pub stage : st ≡ stage.Offering
  pub held : IsInHand words s f o n

abbrev pub IsTurnToCollect : GuestStage → Type 0
IsTurnToCollect stage.Offering = Unit {0}
IsTurnToCollect stage.Collecting = Unit {0}
IsTurnToCollect _ = ⊥

-- of a script with commands: the entry of chain n with the length k was collected last, and its ack isn't loaded. h is its head
pub record IsToAck (s : Script) (rs : List Return) (f : Frame) (o : List DriverDone) (st : GuestStage) (n k h : ℕ) : Type 0 where
  pub some : HasCommands s
  pub stage : IsTurnToCollect st
  pub last : last_collected o ≡ Some n
  pub is : used_at (collects o) (length rs) ≡ entry n k
  pub more : length (collects o) ≡ length rs + 1
  pub is_head : h ≡ head f o n

-- no other stage has an operation of its own
abbrev pub IsTurnToOffer : GuestStage → Type 0
IsTurnToOffer stage.Offering = Unit {0}
IsTurnToOffer stage.Done = Unit {0}
IsTurnToOffer _ = ⊥

abbrev pub IsNoOffer : DriverOp → Type 0
IsNoOffer (DriverOp.offer c) = ⊥
IsNoOffer _ = Unit {0}

-- idle, or in an offer
abbrev pub IsOffering : DriverOp → Type 0
IsOffering DriverOp.idle = Unit {0}
IsOffering (DriverOp.offer c) = Unit {0}
IsOffering _ = ⊥

-- what is in hand, by the stage and the operation that was begun: only with both words in hand a command is offered
abbrev pub HandIs : ControlWords → Script → List Return → Frame → List DriverDone → GuestStage → DriverOp → Pending → Type 0
HandIs words s rs f o st b hand.Free = (length rs ≡ length (collects o)) × (HasCommands s → IsNoOffer b)
HandIs words s rs f o st b hand.First = IsSending words s rs f o st 1 × (b ≡ DriverOp.idle)
HandIs words s rs f o st b hand.Both = IsSending words s rs f o st 2 × IsOffering b
HandIs words s rs f o st b (hand.Ack n k h) = IsToAck s rs f o st n k h × (b ≡ DriverOp.idle)

-- ---- how many accesses it may make until the next chain is offered, the next entry has its ack, or the next bell is heard, where it
-- may make so many with nothing in hand

abbrev pub offer_owes : DriverOp → ℕ → ℕ
offer_owes DriverOp.idle left = 38
offer_owes _ left = left

abbrev pub hand_owes : Pending → DriverOp → ℕ → ℕ → ℕ
hand_owes hand.Free b left n = n
hand_owes hand.First b left n = 39
hand_owes hand.Both b left n = offer_owes b left
hand_owes (hand.Ack k l h) b left n = 1
