-- What a layout of a ring is, as one record, and its laws.
use Rattle.std.specs.Prelude.{◌≡◌, ℕ, ◌+◌, ◌<◌, ◌≤◌, Bool, true, false, List, [], ◌∷◌, length, replicate}
use Rattle.vd_model.specs.declared.chain.Piece.{Piece}
use Rattle.vd_model.specs.declared.features.Features.{Features}
use Rattle.vd_words.specs.declared.access.Access.{Access}
use Rattle.vd_words.specs.declared.access.Op.{Op}
use Rattle.vd_words.specs.Step.{place_of, answered, written}
use Rattle.vd_ring.specs.declared.act.DriverAct.TheVariants as driver_act
use Rattle.vd_ring.specs.declared.act.DeviceAct.{DeviceAct}
use Rattle.vd_ring.specs.declared.act.DeviceAct.TheVariants as device_act
use Rattle.vd_ring.specs.declared.driver.DriverDone.{DriverDone}
use Rattle.vd_ring.specs.declared.driver.DriverView.{DriverView}
use Rattle.vd_ring.specs.declared.device.DeviceDone.{DeviceDone}
use Rattle.vd_ring.specs.declared.device.DeviceDone.TheVariants.{Give}
use Rattle.vd_ring.specs.declared.device.DeviceView.{DeviceView}
use Rattle.vd_ring.specs.declared.frame.Frame.{Frame}
use Rattle.vd_ring.specs.declared.frame.Used.{Used}
use Rattle.vd_ring.specs.Bag.{State}
use Rattle.vd_ring.specs.Fresh.{fresh_driver, fresh_device}
use Rattle.vd_ring.specs.History.{offers, collects, takes, gives}
use Rattle.vd_ring.specs.ControlLaws.{ControlStands}
use Rattle.vd_ring.specs.Lists.{Lists, Rested}
use Rattle.vd_ring.specs.Places.{Places}
use Rattle.vd_ring.specs.Sleep.{RingSignals, DriverWaits, DeviceWaits, driver_hearings, device_hearings, driver_woken, device_woken}
use Rattle.vd_ring.specs.Steps.{Keeps, StandsFor, DriverBagStep, DeviceBagStep}
use Rattle.vd_layout.specs.Control.{ControlWords}
use Rattle.vd_layout.specs.Begun.{DriverOp, DeviceOp}
use Rattle.vd_layout.specs.Driver.{DriverModel, IsLawfulDriver}
use Rattle.vd_layout.specs.Device.{DeviceModel, IsLawfulDevice}

pub record LayoutModel : Type 1 where
  pub packed : Bool
  -- a frame of this layout
  pub lawful_frame : Frame → Type 0
  -- the ring invariant of words and of both sides' views
  pub ring : List ℕ → DriverView → DeviceView → Type 0
  pub lawful_size : ℕ → Bool
  pub lawful_base : ℕ → ℕ → Bool
  pub fresh_base : ℕ
  -- how many words a ring has, and where commands and acks stand
  pub width : Frame → ℕ
  pub words : ControlWords
  -- the words spell the chain that the driver offered last
  pub spells_last : Frame → List ℕ → List DriverDone → Type 0
  -- the used entry that the device gave last stands in the words
  pub has_last_used : Frame → List ℕ → List DeviceDone → Type 0

-- a ring of this layout, made with these
pub record IsMadeWith (l : LayoutModel) (n : ℕ) (f : Features) (c : Bool) (g : Frame) : Type 0 where
  pub packed : g.packed ≡ l.packed
  pub size : g.size ≡ n
  pub features : g.features ≡ f
  pub control : g.control ≡ c

-- a ring may have this size; any features will do
pub record CanMake (l : LayoutModel) (size : ℕ) (f : Features) : Type 0 where
  pub lawful : l.lawful_size size ≡ true

-- both ends of a fresh ring
pub record IsFresh {D E : Type 0} (d : DriverModel D) (e : DeviceModel E) (l : LayoutModel) (size : ℕ) (f : Features) (control : Bool)
    (x : D) (y : E) : Type 0 where
  pub drives : (g : Frame) → IsMadeWith l size f control g → d.stands x (fresh_driver g (l.width g))
  pub serves : (g : Frame) → IsMadeWith l size f control g → e.stands y (fresh_device g (l.width g))
  pub driver_idle : d.begun x ≡ DriverOp.idle
  pub device_idle : e.begun y ≡ DeviceOp.idle
  pub driver_sized : (d.size x ≡ size) × (d.features x ≡ f)
  pub device_sized : (e.size y ≡ size) × (e.features y ≡ f)
  pub awake : e.resting y ≡ false
  pub unused : e.fresh y ≡ true
  pub driver_unarmed : d.armed x ≡ false

-- what a device's answer is to the bag; the entries are those of the give that Given made
pub record DeviceBags (in_order : Bool) (answer : DeviceAct) (o : List DriverDone) (s s' : List DeviceDone) (b : List State) : Type 0 where
  pub entries : List Used
  pub gave : (k : ℕ) → answer ≡ device_act.Given k → s' ≡ Give entries ∷ s
  pub bag : List State
  pub step : DeviceBagStep in_order entries answer b bag
  pub stands : StandsFor o s' bag

pub record IsLawfulLayout {D E : Type 0} (d : DriverModel D) (e : DeviceModel E) (l : LayoutModel) : Type 0 where
  pub driver_end : IsLawfulDriver d
  pub device_end : IsLawfulDevice e
  pub driver_keeps : (ws : List ℕ) (v : DriverView) (w : DeviceView) (op : Op) (a : Access) → l.ring ws v w → d.side.next v op a
      → Keeps d.side (λ us x. l.ring us x w) ws v op a
  pub device_keeps : (ws : List ℕ) (v : DriverView) (w : DeviceView) (op : Op) (a : Access) → l.ring ws v w → e.side.next w op a
      → Keeps e.side (λ us x. l.ring us v x) ws w op a
  -- words of 0 and the fresh views meet the invariant
  pub opens : (size : ℕ) (f : Features) (control : Bool) (g : Frame) → CanMake l size f → IsMadeWith l size f control g
      → l.ring (replicate (l.width g) 0) (fresh_driver g (l.width g)) (fresh_device g (l.width g))
  -- the words are as many as the ring has, and both views have the ring's frame
  pub wide : (ws : List ℕ) (v : DriverView) (w : DeviceView) → l.ring ws v w → (length ws ≡ l.width v.frame) × (w.frame ≡ v.frame)
  pub frames : (ws : List ℕ) (v : DriverView) (w : DeviceView) → l.ring ws v w → l.lawful_frame v.frame
  pub framed : (size : ℕ) (f : Features) (control : Bool) (g : Frame) → CanMake l size f → IsMadeWith l size f control g → l.lawful_frame g
  -- a frame tells of which layout it is
  pub of_layout : (g : Frame) → l.lawful_frame g → g.packed ≡ l.packed
  -- an end stands only for views of a lawful frame
  pub driver_framed : (x : D) (v : DriverView) → d.stands x v → l.lawful_frame v.frame
  pub device_framed : (y : E) (w : DeviceView) → e.stands y w → l.lawful_frame w.frame
  -- a ring has a word at least, and the place of each in 32 bits
  pub some_word : (g : Frame) → l.lawful_frame g → 0 < l.width g
  pub narrow : (g : Frame) → l.lawful_frame g → l.width g < 4294967296
  -- the word of an access that is next is one of the ring's, by the view alone
  pub driver_low : (v : DriverView) (op : Op) (a : Access) → l.lawful_frame v.frame → d.side.next v op a → place_of a < l.width v.frame
  pub device_low : (w : DeviceView) (op : Op) (a : Access) → l.lawful_frame w.frame → e.side.next w op a → place_of a < l.width w.frame
  -- who holds the places; what was taken of what was offered, and collected of what was given; a rest leaves nothing running
  pub places : (ws : List ℕ) (v : DriverView) (w : DeviceView) → l.ring ws v w → Places v.frame v.done
  pub lists : (ws : List ℕ) (v : DriverView) (w : DeviceView) → l.ring ws v w → Lists v.frame v.done w.done
  pub rested : (ws : List ℕ) (v : DriverView) (w : DeviceView) → l.ring ws v w → Rested w.done
  -- the command and ack words that stand are those stored for each chain, and what each side loaded is what the other stored
  pub controls : (ws : List ℕ) (v : DriverView) (w : DeviceView) → l.ring ws v w
      → ControlStands v.frame l.words.command l.words.ack v.done w.done ws
  -- where a look shows nothing, all that was offered is taken, and all that was given is collected
  pub driver_nothing : (ws : List ℕ) (v : DriverView) (w : DeviceView) (op : Op) (a : Access) → l.ring ws v w → d.side.next v op a
      → d.act v op a (answered ws a) ≡ driver_act.Nothing → collects v.done ≡ gives w.done
  pub device_nothing : (ws : List ℕ) (v : DriverView) (w : DeviceView) (op : Op) (a : Access) → l.ring ws v w → e.side.next w op a
      → e.act w op a (answered ws a) ≡ device_act.Nothing → takes w.done ≡ offers v.done
  -- bells: what holds between each side that publishes and the other; a sleeper that answers Asleep has no signal, and has changed
  -- nothing; a hearing that ends with Awake has heard a bell more
  pub signals : (ws : List ℕ) (v : DriverView) (w : DeviceView) → l.ring ws v w → RingSignals v w
  pub driver_asleep : (ws : List ℕ) (v : DriverView) (w : DeviceView) (op : Op) (a : Access) → l.ring ws v w → d.side.next v op a
      → d.act v op a (answered ws a) ≡ driver_act.Asleep → (d.side.after v op a (answered ws a) ≡ v) × DriverWaits v w
  pub device_asleep : (ws : List ℕ) (v : DriverView) (w : DeviceView) (op : Op) (a : Access) → l.ring ws v w → e.side.next w op a
      → e.act w op a (answered ws a) ≡ device_act.Asleep → (e.side.after w op a (answered ws a) ≡ w) × DeviceWaits v w
  pub driver_hears : (ws : List ℕ) (v : DriverView) (w : DeviceView) (op : Op) (a : Access) → l.ring ws v w → d.side.next v op a
      → driver_hearings v + driver_woken op (d.act v op a (answered ws a)) ≤ driver_hearings (d.side.after v op a (answered ws a))
  pub device_hears : (ws : List ℕ) (v : DriverView) (w : DeviceView) (op : Op) (a : Access) → l.ring ws v w → e.side.next w op a
      → device_hearings w + device_woken op (e.act w op a (answered ws a)) ≤ device_hearings (e.side.after w op a (answered ws a))
  -- after an offer the words spell the chain; after a give the used entry stands
  pub spells : (ws : List ℕ) (v : DriverView) (w : DeviceView) (op : Op) (a : Access) (k : ℕ) → l.ring ws v w → d.side.next v op a
      → d.act v op a (answered ws a) ≡ driver_act.Offered k
      → l.spells_last v.frame (written ws a) (d.side.after v op a (answered ws a)).done
  pub uses : (ws : List ℕ) (v : DriverView) (w : DeviceView) (op : Op) (a : Access) (k : ℕ) → l.ring ws v w → e.side.next w op a
      → e.act w op a (answered ws a) ≡ device_act.Given k
      → l.has_last_used v.frame (written ws a) (e.side.after w op a (answered ws a)).done
  -- each answer is the one bag step that it names, and every other answer is none
  pub driver_bag : (ws : List ℕ) (v : DriverView) (w : DeviceView) (op : Op) (a : Access) (b : List State) → l.ring ws v w
      → d.side.next v op a → StandsFor v.done w.done b
      → (b' : List State) × DriverBagStep (d.act v op a (answered ws a)) b b'
      × StandsFor (d.side.after v op a (answered ws a)).done w.done b'
  pub device_bag : (ws : List ℕ) (v : DriverView) (w : DeviceView) (op : Op) (a : Access) (b : List State) → l.ring ws v w
      → e.side.next w op a → StandsFor v.done w.done b
      → DeviceBags v.frame.features.in_order (e.act w op a (answered ws a)) v.done w.done (e.side.after w op a (answered ws a)).done b
  -- both ends know where commands and acks stand
  pub worded : (g : Frame) (h : ℕ) → (d.words.command g h ≡ l.words.command g h) × (d.words.ack g h ≡ l.words.ack g h)
      × (e.words.command g h ≡ l.words.command g h) × (e.words.ack g h ≡ l.words.ack g h)
  -- a lawful size has a place, and few enough
  pub sizes : (n : ℕ) → l.lawful_size n ≡ true → (2 ≤ n) × (n ≤ 32768)
  -- the base of a fresh ring, and that of any chains, is a lawful one
  pub fresh_based : (n : ℕ) → l.lawful_size n ≡ true → l.lawful_base n l.fresh_base ≡ true
  pub always_based : (g : Frame) (cs : List (List Piece)) → l.lawful_size g.size ≡ true → l.lawful_base g.size (e.base_of g cs) ≡ true
  -- the base of a fresh ring is that of no chain
  pub based : (g : Frame) → e.base_of g [] ≡ l.fresh_base
