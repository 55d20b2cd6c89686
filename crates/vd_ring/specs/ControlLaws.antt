-- What a layout owes of the accesses of command and ack words: when each is next, and the view after it. `command` and `ack` are
-- the layout's: the place of a head's first command word, and of its ack word.
use Rattle.std.specs.Prelude.{◌≡◌, ◌↔◌, ℕ, ◌<◌, List, ◌∷◌, slice_set}
use Rattle.std.specs.List.{Contains}
use Rattle.vd_words.specs.declared.access.Access.TheVariants.{Load, Store}
use Rattle.vd_words.specs.declared.access.Op.TheVariants.{Control}
use Rattle.vd_words.specs.Own.{SideModel}
use Rattle.vd_ring.specs.declared.frame.Frame.{Frame}
use Rattle.vd_ring.specs.declared.driver.DriverDone.{DriverDone}
use Rattle.vd_ring.specs.declared.driver.DriverDone.TheVariants.{StoreCommand, LoadAck}
use Rattle.vd_ring.specs.declared.driver.DriverNow.TheVariants as driver
use Rattle.vd_ring.specs.declared.driver.DriverView.{DriverView}
use Rattle.vd_ring.specs.declared.device.DeviceDone.{DeviceDone}
use Rattle.vd_ring.specs.declared.device.DeviceDone.TheVariants.{StoreAck, LoadCommand}
use Rattle.vd_ring.specs.declared.device.DeviceNow.TheVariants as device
use Rattle.vd_ring.specs.declared.device.DeviceView.{DeviceView}
use Rattle.vd_ring.specs.History.{next_head, running, taken_head}
use Rattle.vd_ring.specs.Control.{StoresCommand, LoadsAck, LoadsCommand, StoresAck, Commands, Acks}

-- the driver, with no operation in progress: a store in a command word of the next head, or a load of the ack word of the head
-- collected last. Only its acts change, and what it stored
pub record DriverControls (side : SideModel DriverView) (command ack : Frame → ℕ → ℕ) : Type 0 where
  pub stores : (v : DriverView) (p x : ℕ)
      → side.next v Control (Store p x) ↔ ((v.doing ≡ driver.Idle) × StoresCommand v.frame (command v.frame) v.done p)
  pub loads : (v : DriverView) (p : ℕ) → side.next v Control (Load p) ↔ ((v.doing ≡ driver.Idle) × LoadsAck v.frame (ack v.frame) v.done p)
  pub stored : (v : DriverView) (p x r : ℕ) → v.doing ≡ driver.Idle → (n : StoresCommand v.frame (command v.frame) v.done p)
      → side.after v Control (Store p x) r ≡ record v {
        done = StoreCommand (next_head v.frame v.done) n.half x ∷ v.done;
        stored =
            slice_set v.stored p x;
      }
  pub loaded : (v : DriverView) (p r : ℕ) → v.doing ≡ driver.Idle → (n : LoadsAck v.frame (ack v.frame) v.done p)
      → side.after v Control (Load p) r ≡ record v { done = LoadAck n.number r ∷ v.done }

-- no other chain taken and not given has this one's head
abbrev pub HasOwnHead : List DeviceDone → ℕ → Type 0
HasOwnHead s k = (j : ℕ) → Contains (running s) j → taken_head s j ≡ taken_head s k → j ≡ k

-- the device, with no operation in progress: a load of a command word, or a store of the ack word, of a chain taken and not given
pub record DeviceControls (side : SideModel DeviceView) (command ack : Frame → ℕ → ℕ) : Type 0 where
  pub loads : (v : DeviceView) (p : ℕ)
      → side.next v Control (Load p) ↔ ((v.doing ≡ device.Idle) × LoadsCommand v.frame (command v.frame) v.done p)
  pub stores : (v : DeviceView) (p x : ℕ)
      → side.next v Control (Store p x) ↔ ((v.doing ≡ device.Idle) × StoresAck v.frame (ack v.frame) v.done p)
  pub loaded : (v : DeviceView) (p r : ℕ) → v.doing ≡ device.Idle → (n : LoadsCommand v.frame (command v.frame) v.done p)
      → HasOwnHead v.done n.number → side.after v Control (Load p) r ≡ record v { done = LoadCommand n.number n.half r ∷ v.done }
  pub stored : (v : DeviceView) (p x r : ℕ) → v.doing ≡ device.Idle → (n : StoresAck v.frame (ack v.frame) v.done p)
      → side.after v Control (Store p x) r ≡ record v {
        done = StoreAck (taken_head v.done n.number) x ∷ v.done;
        stored =
            slice_set v.stored p x;
      }

-- what is true of them in a ring with these words: each chain taken and not given has a head of the ring, and of no other such
-- chain; the command and ack words that stand are those stored for each chain, and what each side loaded is what the other stored
pub record ControlStands (f : Frame) (command ack : Frame → ℕ → ℕ) (o : List DriverDone) (s : List DeviceDone) (ws : List ℕ) : Type 0 where
  pub inside : (k : ℕ) → Contains (running s) k → taken_head s k < f.size
  pub apart : (k : ℕ) → Contains (running s) k → HasOwnHead s k
  pub commands : Commands f (command f) (ack f) o ws
  pub acks : Acks f (ack f) o s ws
