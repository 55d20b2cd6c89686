-- What the laws of a packed ring's device say. Each is the contract of a function in src/device_laws.rt.
use Rattle.std.specs.Prelude.{◌≡◌, ℕ, ◌<◌, List, [], ◌∷◌, length, false, slice_index}
use Rattle.std.specs.List.{Contains}
use Rattle.vd_model.specs.declared.chain.Piece.{Piece}
use Rattle.vd_words.specs.declared.access.Access.{Access}
use Rattle.vd_words.specs.declared.access.Op.{Op}
use Rattle.vd_words.specs.declared.access.Op.TheVariants as op
use Rattle.vd_words.specs.Step.{answered, written}
use Rattle.vd_ring.specs.declared.act.DeviceAct.{DeviceAct}
use Rattle.vd_ring.specs.declared.act.DeviceAct.TheVariants as act
use Rattle.vd_ring.specs.declared.frame.Frame.{Frame}
use Rattle.vd_ring.specs.declared.frame.Used.{Used}
use Rattle.vd_ring.specs.declared.driver.DriverView.{DriverView}
use Rattle.vd_ring.specs.declared.device.DeviceDone.{DeviceDone}
use Rattle.vd_ring.specs.declared.device.DeviceDone.TheVariants.{Take, Give}
use Rattle.vd_ring.specs.declared.device.DeviceNow.TheVariants.{Idle}
use Rattle.vd_ring.specs.declared.device.DeviceView.{DeviceView}
use Rattle.vd_ring.specs.Bag.{State}
use Rattle.vd_ring.specs.Batches.{IsEntry}
use Rattle.vd_ring.specs.History.{offers, takes, gives, running, taken_head, head, chain, last_used, IsWhole, chain_at}
use Rattle.vd_ring.specs.Steps.{Keeps, StandsFor, DeviceBagStep}
use Rattle.vd_packed_ring.specs.PackedWords.{second_word, used_word, is_available}
use Rattle.vd_packed_ring.specs.PackedPositions.{take_position, give_position}
use Rattle.vd_packed_ring.specs.PackedDevice.{device_side, device_after, device_act}
use Rattle.vd_packed_ring.specs.PackedRing.{Ring}

-- the access keeps the invariant with the driver's view as it was, and its answer tells what the device's view says
abbrev pub DeviceKeeps : List ℕ → DriverView → DeviceView → Op → Access → Type 0
DeviceKeeps ws d e o a = Keeps device_side (λ us v. Ring us d v) ws e o a

-- what the step answers over these words, and the acts after it
abbrev pub device_answer : List ℕ → DeviceView → Op → Access → DeviceAct
device_answer ws e o a = device_act e o a (answered ws a)

abbrev pub device_done : List ℕ → DeviceView → Op → Access → List DeviceDone
device_done ws e o a = (device_after e o a (answered ws a)).done

-- from any bag that stands for the two sides, the step's answer makes the bag that stands for them after it; the entries are those
-- of the give that Given made
pub record DeviceBags (ws : List ℕ) (d : DriverView) (e : DeviceView) (o : Op) (a : Access) (b : List State) : Type 0 where
  pub entries : List Used
  pub gave : (k : ℕ) → device_answer ws e o a ≡ act.Given k → device_done ws e o a ≡ Give entries ∷ e.done
  pub bag : List State
  pub step : DeviceBagStep d.frame.features.in_order entries (device_answer ws e o a) b bag
  pub stands : StandsFor d.done (device_done ws e o a) bag

-- `Taken(k, c)` is the next chain offered, and is taken with its head; k is the count of chains taken before
pub record IsTaken (ws : List ℕ) (d : DriverView) (e : DeviceView) (o : Op) (a : Access) (k : ℕ) (c : List Piece) : Type 0 where
  pub number : k ≡ length (takes e.done)
  pub offered : k < length (offers d.done)
  pub is_chain : c ≡ chain d.done k
  pub took : device_done ws e o a ≡ Take c (head d.frame d.done k) ∷ e.done

-- the used descriptor of these pairs, given after the acts, stands (VIRTIO 1.2, 2.8.8): at the position of what was given before, with
-- the head of the last pair's chain and the last pair's length
abbrev pub EntryStands : Frame → List ℕ → List DeviceDone → List Used → Type 0
EntryStands f ws before us = slice_index ws (second_word f.size (give_position f before)) ≡ used_word f.size (give_position f before)
    (taken_head before (last_used us).number) (last_used us).len

-- the last act is a give, and its used descriptor stands
abbrev pub HasLastUsed : Frame → List ℕ → List DeviceDone → Type 0
HasLastUsed f ws (Give us ∷ s) = EntryStands f ws s us
HasLastUsed f ws _ = ⊥

-- after `Given(k)`, where chain k ran, the used descriptor stands
pub record IsGiven (ws : List ℕ) (d : DriverView) (e : DeviceView) (o : Op) (a : Access) (k : ℕ) : Type 0 where
  pub runs : Contains (running e.done) k
  pub entries : List Used
  pub gave : device_done ws e o a ≡ Give entries ∷ e.done
  pub is_entry : IsEntry d.frame (chain_at (takes e.done)) (length (gives e.done)) entries
  pub last : (last_used entries).number ≡ k
  pub stands : EntryStands d.frame (written ws a) e.done entries

-- Nothing is the answer of a take's look alone, exactly where the loaded word isn't available for the position's wrap; then all
-- chains offered are taken
pub record LooksNothing (ws : List ℕ) (d : DriverView) (e : DeviceView) (o : Op) (a : Access) : Type 0 where
  pub only : device_answer ws e o a ≡ act.Nothing → (e.doing ≡ Idle) × (o ≡ op.Take)
  pub says : device_answer ws e o a ≡ act.Nothing → is_available e.frame.size (take_position e.frame e.done) (answered ws a) ≡ false
  pub shown : e.doing ≡ Idle → o ≡ op.Take → is_available e.frame.size (take_position e.frame e.done) (answered ws a) ≡ false
      → device_answer ws e o a ≡ act.Nothing
  pub all : device_answer ws e o a ≡ act.Nothing → takes e.done ≡ offers d.done

-- nothing runs: as many chains are taken as given, and those given are the ones below that number
pub record HasRested (s : List DeviceDone) : Type 0 where
  pub none : running s ≡ []
  pub even : length (takes s) ≡ length (gives s)
  pub whole : IsWhole s
