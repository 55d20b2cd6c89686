-- What an access that is next does to words that meet a ring's invariant, and what an end's answer says of the ring's bag.
use Rattle.std.specs.Prelude.{◌≡◌, ℕ, ◌<◌, Bool, List, length}
use Rattle.vd_words.specs.declared.access.Access.{Access}
use Rattle.vd_words.specs.declared.access.Op.{Op}
use Rattle.vd_words.specs.Own.{SideModel}
use Rattle.vd_words.specs.Step.{place_of, answered, written}
use Rattle.vd_ring.specs.declared.act.DriverAct.{DriverAct}
use Rattle.vd_ring.specs.declared.act.DriverAct.TheVariants as driver
use Rattle.vd_ring.specs.declared.act.DeviceAct.{DeviceAct}
use Rattle.vd_ring.specs.declared.act.DeviceAct.TheVariants as device
use Rattle.vd_ring.specs.declared.driver.DriverDone.{DriverDone}
use Rattle.vd_ring.specs.declared.device.DeviceDone.{DeviceDone}
use Rattle.vd_ring.specs.declared.frame.Used.{Used}
use Rattle.vd_ring.specs.History.{offers, takes, gives, last_used}
use Rattle.vd_ring.specs.Bag.{State, IsOffer, IsBegin, IsEnd, IsTakeBack, Stands}

-- its place is one of the ring's words; words and view meet the invariant after it; its answer tells what the view says
pub record Keeps {V : Type 0} (side : SideModel V) (ring : List ℕ → V → Type 0) (ws : List ℕ) (v : V) (op : Op) (a : Access) : Type 0 where
  pub inside : place_of a < length ws
  pub keeps : ring (written ws a) (side.after v op a (answered ws a))
  pub told : side.tells v op a (answered ws a)

-- the bag of a ring whose sides have these acts: begun are the chains taken
abbrev pub StandsFor : List DriverDone → List DeviceDone → List State → Type 0
StandsFor o s b = Stands (length (offers o)) (length (takes s)) (gives s) b

-- what a driver's answer does to the bag: `Offered` is Offer, every other answer is no step
abbrev pub DriverBagStep : DriverAct → List State → List State → Type 0
DriverBagStep (driver.Offered k) b b' = IsOffer k b b'
DriverBagStep _ b b' = b' ≡ b

-- what a device's answer does, which gave the entries `us`: `Taken` is Begin, `Given` is End with their lengths, `Rested` is take
-- back, every other answer is no step
abbrev pub DeviceBagStep : Bool → List Used → DeviceAct → List State → List State → Type 0
DeviceBagStep in_order us (device.Taken k c) b b' = IsBegin k b b'
DeviceBagStep in_order us (device.Given k) b b' = ((last_used us).number ≡ k) × IsEnd in_order us b b'
DeviceBagStep in_order us device.Rested b b' = IsTakeBack b b'
DeviceBagStep in_order us _ b b' = b' ≡ b
