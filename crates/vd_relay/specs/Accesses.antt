-- The accesses of command and ack words that a relay of a control queue makes, one by one. On each of the two rings no access of an
-- operation in progress is made yet: its end may have begun one.
use Rattle.std.specs.Prelude.{◌≡◌, ℕ, ◌+◌, ◌<◌, ◌≤◌, true, length, Some, [], ◌∷◌, slice_set}
use Rattle.std.specs.List.{Contains}
use Rattle.vd_words.specs.declared.access.Access.TheVariants.{Load, Store}
use Rattle.vd_words.specs.declared.access.Op.TheVariants.{Control}
use Rattle.vd_words.specs.Model.{PortModel}
use Rattle.vd_ring.specs.declared.driver.DriverDone.TheVariants.{StoreCommand, LoadAck}
use Rattle.vd_ring.specs.declared.driver.DriverNow.TheVariants as driver
use Rattle.vd_ring.specs.declared.driver.DriverView.{DriverView}
use Rattle.vd_ring.specs.declared.device.DeviceDone.TheVariants.{StoreAck, LoadCommand}
use Rattle.vd_ring.specs.declared.device.DeviceNow.TheVariants as device
use Rattle.vd_ring.specs.declared.device.DeviceView.{DeviceView}
use Rattle.vd_ring.specs.History.{free, head, next_head, running, taken_head}
use Rattle.vd_ring.specs.Control.{last_collected}
use Rattle.vd_layout.specs.Driver.{DriverModel}
use Rattle.vd_layout.specs.Device.{DeviceModel}
use Rattle.vd_layout.specs.Layout.{LayoutModel}
use Rattle.vd_relay.specs.Replays.{IsShadowRing}

-- ---- on the guest's ring

-- a chain that was taken and not given, on a control ring
pub record HasRunning {E : Type 0} (e : DeviceModel E) (x : E) (w : DeviceView) (number : ℕ) : Type 0 where
  pub serves : e.stands x w
  pub still : w.doing ≡ device.Idle
  pub control : w.frame.control ≡ true
  pub runs : Contains (running w.done) number

-- the place is that of command word `half` of the chain's head
pub record FindsCommand {E : Type 0} (e : DeviceModel E) (x : E) (w : DeviceView) (number half place : ℕ) : Type 0 where
  pub has : HasRunning e x w number
  pub two : half < 2
  pub placed : place ≡ e.words.command w.frame (taken_head w.done number) + half

-- the place is that of the ack word of the chain's head
pub record FindsAck {E : Type 0} (e : DeviceModel E) (x : E) (w : DeviceView) (number place : ℕ) : Type 0 where
  pub has : HasRunning e x w number
  pub placed : place ≡ e.words.ack w.frame (taken_head w.done number)

-- the word was loaded: nothing else changed of what the end knows
pub record LoadsWord {P E : Type 0} (port : PortModel P) (e : DeviceModel E) (p q : P) (x : E) (w : DeviceView)
    (number half place got : ℕ) : Type 0 where
  pub was_next : e.side.next w Control (Load place)
  pub moved : port.moves p Control (Load place) got q
  pub after : e.side.after w Control (Load place) got ≡ record w { done = LoadCommand number half got ∷ w.done }
  pub stands : e.stands x (e.side.after w Control (Load place) got)

-- the ack was stored
pub record StoresAckWord {P E : Type 0} (port : PortModel P) (e : DeviceModel E) (p q : P) (x : E) (w : DeviceView)
    (number place ack : ℕ) : Type 0 where
  pub got : ℕ
  pub was_next : e.side.next w Control (Store place ack)
  pub moved : port.moves p Control (Store place ack) got q
  pub after : e.side.after w Control (Store place ack) got ≡ record w {
    done = StoreAck (taken_head w.done number) ack ∷ w.done;
    stored =
        slice_set w.stored place ack;
  }
  pub stands : e.stands x (e.side.after w Control (Store place ack) got)

-- ---- on the shadow ring

-- an end of such a ring which has a place for a further chain
pub record HasFree {D : Type 0} (l : LayoutModel) (d : DriverModel D) (x : D) (v : DriverView) : Type 0 where
  pub drives : d.stands x v
  pub ring : IsShadowRing l v.frame
  pub room : 1 ≤ length (free v.frame v.done)

-- the place is that of command word `half` of its next head
pub record FindsNext {D : Type 0} (l : LayoutModel) (d : DriverModel D) (x : D) (v : DriverView) (half place : ℕ) : Type 0 where
  pub has : HasFree l d x v
  pub still : v.doing ≡ driver.Idle
  pub two : half < 2
  pub placed : place ≡ d.words.command v.frame (next_head v.frame v.done) + half

-- a command word of the next head was stored
pub record StoresWord {Q D : Type 0} (port : PortModel Q) (d : DriverModel D) (p q : Q) (x : D) (v : DriverView)
    (half place word : ℕ) : Type 0 where
  pub got : ℕ
  pub was_next : d.side.next v Control (Store place word)
  pub moved : port.moves p Control (Store place word) got q
  pub after : d.side.after v Control (Store place word) got ≡ record v {
    done = StoreCommand (next_head v.frame v.done) half word ∷ v.done;
    stored =
        slice_set v.stored place word;
  }
  pub stands : d.stands x (d.side.after v Control (Store place word) got)

-- chain k was collected last, and this is its head
pub record HasCollected {D : Type 0} (l : LayoutModel) (d : DriverModel D) (x : D) (v : DriverView) (k h : ℕ) : Type 0 where
  pub drives : d.stands x v
  pub ring : IsShadowRing l v.frame
  pub still : v.doing ≡ driver.Idle
  pub last : last_collected v.done ≡ Some k
  pub is_head : h ≡ head v.frame v.done k
  pub inside : h < v.frame.size

-- its ack was loaded
pub record LoadsAckWord {Q D : Type 0} (port : PortModel Q) (d : DriverModel D) (p q : Q) (x : D) (v : DriverView) (k h got : ℕ)
    : Type 0 where
  pub was_next : d.side.next v Control (Load (d.words.ack v.frame h))
  pub moved : port.moves p Control (Load (d.words.ack v.frame h)) got q
  pub after : d.side.after v Control (Load (d.words.ack v.frame h)) got ≡ record v { done = LoadAck k got ∷ v.done }
  pub stands : d.stands x (d.side.after v Control (Load (d.words.ack v.frame h)) got)
