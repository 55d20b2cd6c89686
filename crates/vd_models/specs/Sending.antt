-- The accesses of command and ack words that a model guest makes: which comes next, by what it has in hand.
use Rattle.std.specs.Prelude.{◌≡◌, ℕ, false, true, Option, Some, None}
use Rattle.vd_words.specs.declared.access.Access.{Access}
use Rattle.vd_words.specs.declared.access.Access.TheVariants.{Load}
use Rattle.vd_words.specs.Model.{PortModel}
use Rattle.vd_words.specs.Own.{IsOwn}
use Rattle.vd_ring.specs.declared.driver.DriverView.{DriverView}
use Rattle.vd_layout.specs.Begun.{DriverOp}
use Rattle.vd_layout.specs.Driver.{DriverModel}
use Rattle.vd_layout.specs.Layout.{LayoutModel}
use Rattle.vd_bus.specs.GuestCommands.{CannotSend}
use Rattle.vd_models.specs.declared.counts.Turn.{Turn}
use Rattle.vd_models.specs.declared.driving.GuestStage.TheVariants as stage
use Rattle.vd_models.specs.declared.pending.Pending.{Pending}
use Rattle.vd_models.specs.declared.pending.Pending.TheVariants as hand
use Rattle.vd_models.specs.Pending.{IsInHand}
use Rattle.vd_models.specs.Sent.{next_store}
use Rattle.vd_models.specs.Driving.{Driven, DriveOpens, BeginsDrive, IsDriveTurn}

-- an offer comes next, which has room, and this is the store of its first word
pub record StoresFirst {D : Type 0} (d : DriverModel D) (x : Driven D) (v : DriverView) (a : Access) : Type 0 where
  pub idle : d.begun x.end ≡ DriverOp.idle
  pub stage : x.stage ≡ stage.Offering
  pub held : IsInHand d.words x.script v.frame v.done 0
  pub is : a ≡ next_store d v held.bytes false

-- the first word is stored, and this is the store of the second
pub record StoresSecond {D : Type 0} (d : DriverModel D) (x : Driven D) (v : DriverView) (a : Access) : Type 0 where
  pub held : IsInHand d.words x.script v.frame v.done 1
  pub is : a ≡ next_store d v held.bytes true

-- an offer that comes next can't be begun
abbrev pub CannotStore : {D : Type 0} → DriverModel D → Driven D → DriverView → Type 0
CannotStore d x v = d.begun x.end ≡ DriverOp.idle → x.stage ≡ stage.Offering → CannotSend d.words x.script v.frame v.done

abbrev pub FirstIs : {D : Type 0} → DriverModel D → Driven D → DriverView → Option Access → Type 0
FirstIs d x v (Some a) = StoresFirst d x v a
FirstIs d x v None = CannotStore d x v

-- the control access that comes next, if one does
abbrev pub DueIs : {D : Type 0} → DriverModel D → Driven D → DriverView → Pending → Option Access → Type 0
DueIs d x v hand.Free a = FirstIs d x v a
DueIs d x v hand.First (Some a) = StoresSecond d x v a
DueIs d x v hand.First None = ⊥
DueIs d x v hand.Both (Some a) = ⊥
DueIs d x v hand.Both None = Unit {0}
DueIs d x v (hand.Ack n k h) (Some a) = a ≡ Load (d.words.ack v.frame h)
DueIs d x v (hand.Ack n k h) None = ⊥

abbrev pub IsDue : {D : Type 0} → DriverModel D → Driven D → DriverView → Option Access → Type 0
IsDue d x v a = DueIs d x v x.hand a

-- a guest that may make this access, and the access, for each view
abbrev pub CanControl : {P D : Type 0} → PortModel P → DriverModel D → LayoutModel → P → Driven D → Access → Type 0
CanControl port d l p x a = (v : DriverView) × DriveOpens d l x v × IsOwn port d.side p v × IsDue d x v (Some a)

abbrev pub MakesControlTurn : {P D : Type 0} → PortModel P → DriverModel D → LayoutModel → P → P → Driven D → Driven D → Access → Turn
    → Type 0
MakesControlTurn port d l p q x y a t = (v : DriverView) → DriveOpens d l x v → IsOwn port d.side p v → IsDue d x v (Some a)
    → IsDriveTurn port d l p q v x y t

-- what the begin of its next operation leaves, for each view in which no such access comes next
abbrev pub Begins : {D : Type 0} → DriverModel D → LayoutModel → Driven D → Driven D → Type 0
Begins d l x y = (v : DriverView) → DriveOpens d l x v → IsDue d x v None → BeginsDrive d l v x y

-- one access of an operation, for each view in which no access of a command or ack word comes next
abbrev pub MakesTurn : {P D : Type 0} → PortModel P → DriverModel D → LayoutModel → P → P → Driven D → Driven D → Turn → Type 0
MakesTurn port d l p q x y t = (v : DriverView) → DriveOpens d l x v → IsOwn port d.side p v → IsDue d x v None
    → IsDriveTurn port d l p q v x y t

-- a guest that begins its next operation, and one that may make an access of it
abbrev pub CanBegin : {D : Type 0} → DriverModel D → LayoutModel → Driven D → Type 0
CanBegin d l x = (v : DriverView) × DriveOpens d l x v × IsDue d x v None

abbrev pub CanTurn : {P D : Type 0} → PortModel P → DriverModel D → LayoutModel → P → Driven D → Type 0
CanTurn port d l p x = (v : DriverView) × DriveOpens d l x v × IsOwn port d.side p v × IsDue d x v None
