-- What the laws of a split ring's driver say. Each is the contract of a function in src/driver_laws.rt.
use Rattle.std.specs.Prelude.{◌≡◌, ℕ, ◌%◌, ◌<◌, List, [], ◌∷◌, ◌++◌, length}
use Rattle.vd_bits.specs.Lanes.{lane16}
use Rattle.vd_model.specs.declared.chain.Piece.{Piece}
use Rattle.vd_words.specs.declared.access.Access.{Access}
use Rattle.vd_words.specs.declared.access.Op.{Op}
use Rattle.vd_words.specs.declared.access.Op.TheVariants as op
use Rattle.vd_words.specs.Step.{place_of, answered, written}
use Rattle.vd_ring.specs.declared.act.DriverAct.TheVariants as act
use Rattle.vd_ring.specs.declared.driver.DriverNow.TheVariants.{Idle}
use Rattle.vd_ring.specs.declared.driver.DriverView.{DriverView}
use Rattle.vd_ring.specs.declared.device.DeviceView.{DeviceView}
use Rattle.vd_ring.specs.Lists.{Collects}
use Rattle.vd_ring.specs.History.{offers, collects, gives, head, next_head}
use Rattle.vd_ring.specs.Bag.{State}
use Rattle.vd_ring.specs.Steps.{Keeps, StandsFor, DriverBagStep}
use Rattle.vd_split_ring.specs.SplitWords.{Spells, width}
use Rattle.vd_split_ring.specs.SplitDriver.{CanOffer, driver_side, driver_after, driver_act}
use Rattle.vd_split_ring.specs.SplitRing.{Ring}

-- the access keeps the invariant with the device's view as it was, and its answer tells what the driver's view says
abbrev pub DriverKeeps : List ℕ → DriverView → DeviceView → Op → Access → Type 0
DriverKeeps ws d e op a = Keeps driver_side (λ us v. Ring us v e) ws d op a

-- from the driver's view alone: the access is to one of the ring's words, and leaves the frame
pub record DriverAlone (d : DriverView) (op : Op) (a : Access) : Type 0 where
  pub inside : place_of a < width d.frame
  pub frame : (r : ℕ) → (driver_after d op a r).frame ≡ d.frame

-- from any bag that stands for the two sides, the step's answer makes the bag that stands for them after it
pub record DriverBags (ws : List ℕ) (d : DriverView) (e : DeviceView) (op : Op) (a : Access) (b : List State) : Type 0 where
  pub bag : List State
  pub step : DriverBagStep (driver_act d op a (answered ws a)) b bag
  pub stands : StandsFor (driver_after d op a (answered ws a)).done e.done bag

-- after `Offered(k)` the words spell the chain offered at its head; k is the count of chains offered before
pub record IsOffered (ws : List ℕ) (d : DriverView) (op : Op) (a : Access) (k : ℕ) : Type 0 where
  pub number : k ≡ length (offers d.done)
  pub chain : List Piece
  pub can : CanOffer d.frame d.done chain
  pub offered : offers (driver_after d op a (answered ws a)).done ≡ offers d.done ++ chain ∷ []
  pub is_head : head d.frame (driver_after d op a (answered ws a)).done k ≡ next_head d.frame d.done
  pub spelled : Spells d.frame (written ws a) (next_head d.frame d.done) chain

-- `Collected` has the number and length of the next used entry given, all of whose pairs were collected, and the head of its chain
pub record IsCollected (ws : List ℕ) (d : DriverView) (e : DeviceView) (op : Op) (a : Access) (number len at_head : ℕ) : Type 0 where
  pub did : Collects d.frame d.done e.done (driver_after d op a (answered ws a)).done number len
  pub is_head : at_head ≡ head d.frame d.done number

-- `Nothing` is the answer of a collect's look alone, exactly where the loaded index is the count collected modulo 65,536; then all
-- entries given are collected
pub record CollectsNothing (ws : List ℕ) (d : DriverView) (e : DeviceView) (o : Op) (a : Access) : Type 0 where
  pub only : driver_act d o a (answered ws a) ≡ act.Nothing → (d.doing ≡ Idle) × (o ≡ op.Collect)
  pub says : driver_act d o a (answered ws a) ≡ act.Nothing → lane16 (answered ws a) 1 ≡ length (collects d.done) % 65536
  pub shown : d.doing ≡ Idle → o ≡ op.Collect → lane16 (answered ws a) 1 ≡ length (collects d.done) % 65536
      → driver_act d o a (answered ws a) ≡ act.Nothing
  pub all : driver_act d o a (answered ws a) ≡ act.Nothing → collects d.done ≡ gives e.done
