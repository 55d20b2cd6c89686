-- The accesses of command and ack words, from a view alone; and the words of a ring that meets the invariant.
use Rattle.std.proofs.Common.{◌≡◌, ℕ, ◌+◌, ◌-◌, ◌/◌, ◌%◌, ◌<◌, List, [], ◌∷◌, slice_set, refl, sym, ap, ◌∙◌, subst, arith}
use Rattle.std.specs.Prelude.{unwrap_or, Option}
use Rattle.vd_words.specs.declared.access.Access.TheVariants.{Load, Store}
use Rattle.vd_words.specs.declared.access.Op.TheVariants.{Control}
use Rattle.vd_ring.specs.declared.frame.Frame.{Frame}
use Rattle.vd_ring.specs.declared.driver.DriverDone.TheVariants.{StoreCommand, LoadAck}
use Rattle.vd_ring.specs.declared.driver.DriverNow.{DriverNow}
use Rattle.vd_ring.specs.declared.driver.DriverNow.TheVariants as driver
use Rattle.vd_ring.specs.declared.driver.DriverView.{DriverView}
use Rattle.vd_ring.specs.declared.device.DeviceDone.{DeviceDone}
use Rattle.vd_ring.specs.declared.device.DeviceDone.TheVariants.{StoreAck, LoadCommand}
use Rattle.vd_ring.specs.declared.device.DeviceNow.{DeviceNow}
use Rattle.vd_ring.specs.declared.device.DeviceNow.TheVariants as device
use Rattle.vd_ring.specs.declared.device.DeviceView.{DeviceView}
use Rattle.vd_ring.specs.History.{next_head, running, taken_head, with_head}
use Rattle.vd_ring.specs.Control.{StoresCommand, LoadsAck, LoadsCommand, StoresAck}
use Rattle.vd_ring.specs.ControlLaws.{DriverControls, DeviceControls, HasOwnHead, ControlStands}
use Rattle.vd_ring.proofs.Counts.{occurs_from, Contains_from, with_head_is}
use Rattle.vd_ring.proofs.ControlWordsStand.{control_stands}
use Rattle.vd_packed_ring.specs.PackedWords.{commands_from, acks_from, command_word, ack_word}
use Rattle.vd_packed_ring.specs.PackedDriver.{DriverNextAt, driver_after_at, driver_side}
use Rattle.vd_packed_ring.specs.PackedDevice.{DeviceNextAt, device_after_at, device_side}
use Rattle.vd_packed_ring.specs.PackedRing.{Ring}
use Rattle.vd_packed_ring.proofs.Areas.{command_drivers, ack_devices}

-- the head and the half that the place of a command word tells
half_of : (f : Frame) (h i p : ℕ) → i < 2 → p ≡ command_word f h + i → ((p - commands_from f) / 2 ≡ h) × ((p - commands_from f) % 2 ≡ i)
half_of f h i p two at = (omega arith, omega arith)

-- ---- the driver

driver_store_only : (now : DriverNow) (v : DriverView) (p x : ℕ) → DriverNextAt now v Control (Store p x)
    → (now ≡ driver.Idle) × StoresCommand v.frame (command_word v.frame) v.done p
driver_store_only driver.Idle v p x n = (refl, n)
driver_store_only _ v p x n = absurd n

driver_load_only : (now : DriverNow) (v : DriverView) (p : ℕ) → DriverNextAt now v Control (Load p)
    → (now ≡ driver.Idle) × LoadsAck v.frame (ack_word v.frame) v.done p
driver_load_only driver.Idle v p n = (refl, n)
driver_load_only _ v p n = absurd n

driver_stored : (v : DriverView) (p x r : ℕ) → (n : StoresCommand v.frame (command_word v.frame) v.done p)
    → driver_after_at driver.Idle v Control (Store p x) r ≡ record v {
      done = StoreCommand (next_head v.frame v.done) n.half x ∷ v.done;
      stored = slice_set v.stored p x;
    }
driver_stored v p x r n =
    let at = half_of v.frame (next_head v.frame v.done) n.half p n.two n.place in
    ap (λ (h : ℕ). record v { done = StoreCommand h ((p - commands_from v.frame) % 2) x ∷ v.done; stored = slice_set v.stored p x }) at.0
    ∙ ap (λ (i : ℕ). record v { done = StoreCommand (next_head v.frame v.done) i x ∷ v.done; stored = slice_set v.stored p x }) at.1

driver_loaded : (v : DriverView) (p r : ℕ) → (n : LoadsAck v.frame (ack_word v.frame) v.done p)
    → driver_after_at driver.Idle v Control (Load p) r ≡ record v { done = LoadAck n.number r ∷ v.done }
driver_loaded v p r n = ap (λ (k : Option ℕ). record v { done = LoadAck (unwrap_or k 0) r ∷ v.done }) n.last

pub driver_controls : DriverControls driver_side command_word ack_word
driver_controls = record {
  stores = λ v p x. (
    driver_store_only v.doing v p x,
    λ n. subst (λ (now : DriverNow). DriverNextAt now v Control (Store p x)) (sym n.0) n.1,
  );
  loads = λ v p. (driver_load_only v.doing v p, λ n. subst (λ (now : DriverNow). DriverNextAt now v Control (Load p)) (sym n.0) n.1);
  stored = λ v p x r idle n. ap (λ (now : DriverNow). driver_after_at now v Control (Store p x) r) idle ∙ driver_stored v p x r n;
  loaded = λ v p r idle n. ap (λ (now : DriverNow). driver_after_at now v Control (Load p) r) idle ∙ driver_loaded v p r n;
}

-- ---- the device

device_load_only : (now : DeviceNow) (v : DeviceView) (p : ℕ) → DeviceNextAt now v Control (Load p)
    → (now ≡ device.Idle) × LoadsCommand v.frame (command_word v.frame) v.done p
device_load_only device.Idle v p n = (refl, n)
device_load_only (device.Taking []) v p n = absurd n
device_load_only (device.Taking (w ∷ ws)) v p n = absurd n
device_load_only _ v p n = absurd n

device_store_only : (now : DeviceNow) (v : DeviceView) (p x : ℕ) → DeviceNextAt now v Control (Store p x)
    → (now ≡ device.Idle) × StoresAck v.frame (ack_word v.frame) v.done p
device_store_only device.Idle v p x n = (refl, n)
device_store_only (device.Taking []) v p x n = absurd n
device_store_only (device.Taking (w ∷ ws)) v p x n = absurd n
device_store_only _ v p x n = absurd n

device_loaded : (v : DeviceView) (p r : ℕ) → (n : LoadsCommand v.frame (command_word v.frame) v.done p) → HasOwnHead v.done n.number
    → device_after_at device.Idle v Control (Load p) r ≡ record v { done = LoadCommand n.number n.half r ∷ v.done }
device_loaded v p r n own =
    let s : List DeviceDone = v.done in
    let at = half_of v.frame (taken_head s n.number) n.half p n.two n.place in
    let number : with_head (taken_head s) (running s) (taken_head s n.number) ≡ n.number =
    with_head_is (taken_head s) (running s) (taken_head s n.number) n.number refl (occurs_from n.number (running s) n.runs)
    (λ j here same. own j (Contains_from j (running s) here) same) in
    ap (λ (h : ℕ). record v { done = LoadCommand (with_head (taken_head s) (running s) h) ((p - commands_from v.frame) % 2) r ∷ s }) at.0
    ∙ (ap (λ (k : ℕ). record v { done = LoadCommand k ((p - commands_from v.frame) % 2) r ∷ s }) number
    ∙ ap (λ (i : ℕ). record v { done = LoadCommand n.number i r ∷ s }) at.1)

device_stored : (v : DeviceView) (p x r : ℕ) → (n : StoresAck v.frame (ack_word v.frame) v.done p)
    → device_after_at device.Idle v Control (Store p x) r ≡ record v {
      done = StoreAck (taken_head v.done n.number) x ∷ v.done;
      stored =
          slice_set v.stored p x;
    }
device_stored v p x r n =
    let at : p ≡ acks_from v.frame + taken_head v.done n.number = n.place in
    let is : p - acks_from v.frame ≡ taken_head v.done n.number = omega arith in
    ap (λ (h : ℕ). record v { done = StoreAck h x ∷ v.done; stored = slice_set v.stored p x }) is

pub device_controls : DeviceControls device_side command_word ack_word
device_controls = record {
  loads = λ v p. (device_load_only v.doing v p, λ n. subst (λ (now : DeviceNow). DeviceNextAt now v Control (Load p)) (sym n.0) n.1);
  stores = λ v p x. (
    device_store_only v.doing v p x,
    λ n. subst (λ (now : DeviceNow). DeviceNextAt now v Control (Store p x)) (sym n.0) n.1,
  );
  loaded = λ v p r idle n own. ap (λ (now : DeviceNow). device_after_at now v Control (Load p) r) idle ∙ device_loaded v p r n own;
  stored = λ v p x r idle n. ap (λ (now : DeviceNow). device_after_at now v Control (Store p x) r) idle ∙ device_stored v p x r n;
}

-- ---- the words

pub controls_stand : (ws : List ℕ) (d : DriverView) (e : DeviceView) → Ring ws d e
    → ControlStands d.frame command_word ack_word d.done e.done ws
controls_stand ws d e r =
    control_stands d.frame command_word ack_word d.done e.done ws d.stored e.stored (omega (arith, r.lawful.least)) r.places r.lists
    (λ on h i low two. r.words.drivers (command_word d.frame h + i) (command_drivers d.frame h i on low two))
    (λ on h low. r.words.devices (ack_word d.frame h) (ack_devices d.frame h on low)) r.commands r.acks
