-- What a driver's end is, as one record, and what one step of it is.
use Rattle.std.specs.Prelude.{◌≡◌, ◌≢◌, ℕ, ◌+◌, ◌<◌, ◌≤◌, Bool, true, false, Some, None, List, ◌∷◌, length}
use Rattle.vd_model.specs.declared.chain.Piece.{Piece}
use Rattle.vd_model.specs.declared.features.Features.{Features}
use Rattle.vd_words.specs.declared.access.Access.{Access}
use Rattle.vd_words.specs.declared.access.Op.{Op}
use Rattle.vd_words.specs.declared.access.Op.TheVariants.{Control, Arm}
use Rattle.vd_words.specs.Model.{PortModel}
use Rattle.vd_words.specs.Own.{SideModel}
use Rattle.vd_ring.specs.declared.act.DriverAct.{DriverAct}
use Rattle.vd_ring.specs.declared.act.DriverAct.TheVariants as act
use Rattle.vd_ring.specs.declared.driver.DriverDone.{DriverDone}
use Rattle.vd_ring.specs.declared.driver.DriverDone.TheVariants.{Offer, Collect}
use Rattle.vd_ring.specs.declared.driver.DriverNow.TheVariants as now
use Rattle.vd_ring.specs.declared.driver.DriverView.{DriverView}
use Rattle.vd_ring.specs.declared.frame.Frame.{Frame}
use Rattle.vd_ring.specs.declared.frame.Used.{Used}
use Rattle.vd_model.specs.Chains.{needs}
use Rattle.vd_ring.specs.Frames.{Fits, limit}
use Rattle.vd_ring.specs.History.{offers, open_size, head, next_head}
use Rattle.vd_ring.specs.Control.{IsControlChain}
use Rattle.vd_ring.specs.ControlLaws.{DriverControls}
use Rattle.vd_ring.specs.Looks.{DriverLooks, DriverStays}
use Rattle.vd_ring.specs.Places.{Places}
use Rattle.vd_layout.specs.Control.{ControlWords}
use Rattle.vd_layout.specs.Pairs.{WereCollected}
use Rattle.vd_layout.specs.Begun.{DriverOp, DriverPublished, DriverGoesOn, MayWake, IsDriverOp}

-- there are as many free places as the chain needs
abbrev pub HasRoom : Frame → List DriverDone → List Piece → Type 0
HasRoom f o c = open_size f o + needs f.features c ≤ f.size

-- the chain may be offered next; on a control ring it is a control chain of the next head
pub record MayOffer (words : ControlWords) (v : DriverView) (c : List Piece) : Type 0 where
  pub fits : Fits v.frame c
  pub room : HasRoom v.frame v.done c
  pub limited : length (offers v.done) < limit v.frame
  pub control : v.frame.control ≡ true
      → IsControlChain (words.command v.frame (next_head v.frame v.done)) (words.ack v.frame (next_head v.frame v.done)) c

-- a driver's end: what its side may do, what its steps answer, whether a word that a look loads shows a further used entry, for which
-- views it stands, the operation that it has begun, whether it is armed, a bound of the steps that this still takes, what it was made
-- with, and where its layout keeps commands and acks
pub record DriverModel (E : Type 0) : Type 1 where
  pub side : SideModel DriverView
  pub act : DriverView → Op → Access → ℕ → DriverAct
  pub shows : DriverView → ℕ → Bool
  pub stands : E → DriverView → Type 0
  pub begun : E → DriverOp
  pub armed : E → Bool
  pub left : E → ℕ
  pub size : E → ℕ
  pub features : E → Features
  pub words : ControlWords

-- what is known of a chain that was offered: it may stand on the ring, and had room there
pub record WasOffered (f : Frame) (o : List DriverDone) (c : List Piece) : Type 0 where
  pub fits : Fits f c
  pub room : HasRoom f o c
  pub limited : length (offers o) < limit f

-- an answer, the operation before and after the step, the frame, and what was done before and after
abbrev pub DriverSays : DriverAct → DriverOp → DriverOp → Frame → List DriverDone → List DriverDone → Type 0
DriverSays act.Moved b b' f o o' = DriverGoesOn b b' × (o' ≡ o)
DriverSays act.Nothing b b' f o o' = (b ≡ DriverOp.collect) × (b' ≡ DriverOp.idle) × (o' ≡ o)
DriverSays (act.Offered k) b b' f o o' = (c : List Piece) × (b ≡ DriverOp.offer c) × DriverPublished b' × (k ≡ length (offers o))
    × (o' ≡ Offer c ∷ o) × WasOffered f o c
DriverSays (act.Collected k n h) b b' f o o' = (us : List Used) × (b ≡ DriverOp.collect) × (b' ≡ DriverOp.idle) × (o' ≡ Collect us ∷ o)
    × WereCollected f o us k n × (h ≡ head f o k)
DriverSays act.Armed b b' f o o' = (b ≡ DriverOp.arm) × (b' ≡ DriverOp.idle) × (o' ≡ o)
DriverSays act.Awake b b' f o o' = MayWake b × (b' ≡ DriverOp.idle) × (o' ≡ o)
DriverSays act.Asleep b b' f o o' = (b ≡ DriverOp.hear) × (b' ≡ DriverOp.idle) × (o' ≡ o)

-- one access of the port was made, of the operation begun, which was next in the view; the end stands for the view after it, answers
-- by it, and is nearer the operation's end
pub record IsDriverStep {P E : Type 0} (port : PortModel P) (m : DriverModel E) (p q : P) (v : DriverView) (e e' : E)
    (answer : DriverAct) : Type 0 where
  pub op : Op
  pub access : Access
  pub got : ℕ
  pub of_it : IsDriverOp (m.begun e) op
  pub was_next : m.side.next v op access
  pub moved : port.moves p op access got q
  pub now_stands : m.stands e' (m.side.after v op access got)
  pub is_answer : answer ≡ m.act v op access got
  pub left : m.left e' < m.left e
  pub says : DriverSays answer (m.begun e) (m.begun e') v.frame v.done (m.side.after v op access got).done

pub record IsLawfulDriver {E : Type 0} (m : DriverModel E) : Type 0 where
  pub sized : (e : E) (v : DriverView) → m.stands e v → (m.size e ≡ v.frame.size) × (m.features e ≡ v.frame.features)
  -- an idle end has no operation in progress
  pub at_rest : (e : E) (v : DriverView) → m.stands e v → m.begun e ≡ DriverOp.idle → v.doing ≡ now.Idle
  -- whether it is armed is what its side knows
  pub armed : (e : E) (v : DriverView) → m.stands e v → m.armed e ≡ true → (s : ℕ) × (v.armed ≡ Some s)
  pub unarmed : (e : E) (v : DriverView) → m.stands e v → m.armed e ≡ false → v.armed ≡ None
  -- an end with no step left is idle
  pub ends : (e : E) → m.left e ≡ 0 → m.begun e ≡ DriverOp.idle
  -- after a control access of its holder the end stands for the view after it
  pub control : (e : E) (v : DriverView) (a : Access) (r : ℕ) → m.stands e v → m.side.next v Control a
      → m.stands e (m.side.after v Control a r)
  -- such an access is no offer and no collect: it answers that the end moved on
  pub control_moves : (v : DriverView) (a : Access) (r : ℕ) → m.side.next v Control a → m.act v Control a r ≡ act.Moved
  -- no access changes what the ring was made with
  pub framed : (v : DriverView) (op : Op) (a : Access) (r : ℕ) → (m.side.after v op a r).frame ≡ v.frame
  -- only an access of an arming arms
  pub stays_unarmed : (v : DriverView) (op : Op) (a : Access) (r : ℕ) → op ≢ Arm → v.armed ≡ None → (m.side.after v op a r).armed ≡ None
  -- when a look finds nothing, and when an arming or a hearing ends asleep or awake
  pub looks : DriverLooks m.side m.act m.shows
  -- what stays from one access to the next: armed, asleep, shown
  pub stays : DriverStays m.side m.act m.shows
  -- each place is free or held by one open chain; each chain offered is open or collected, and only once
  pub places : (e : E) (v : DriverView) → m.stands e v → Places v.frame v.done
  -- when a command word may be stored, and an ack loaded, and the view after it
  pub controls : DriverControls m.side m.words.command m.words.ack
