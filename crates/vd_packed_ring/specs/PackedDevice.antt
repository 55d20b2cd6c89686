-- The accesses of a packed ring's device: which may be made next, the view after one, what its answer tells, and what the end's step
-- answers.
use Rattle.std.specs.Prelude.{◌≡◌, ◌≢◌, ℕ, ◌+◌, ◌-◌, ◌/◌, ◌%◌, ◌<◌, ◌≤◌, Bool, true, false, List, [], ◌∷◌, ◌++◌, length, take, None, Some, if◌then◌else◌, ◌==◌, slice_index, slice_set}
use Rattle.std.specs.List.{Contains}
use Rattle.vd_model.specs.declared.chain.Piece.{Piece}
use Rattle.vd_model.specs.Chains.{needs}
use Rattle.vd_words.specs.declared.access.Access.{Access}
use Rattle.vd_words.specs.declared.access.Access.TheVariants.{Load, Store}
use Rattle.vd_words.specs.declared.access.Op.{Op}
use Rattle.vd_words.specs.declared.access.Op.TheVariants as op
use Rattle.vd_words.specs.Own.{SideModel}
use Rattle.vd_ring.specs.declared.act.DeviceAct.{DeviceAct}
use Rattle.vd_ring.specs.declared.act.DeviceAct.TheVariants as act
use Rattle.vd_ring.specs.declared.frame.Frame.{Frame}
use Rattle.vd_ring.specs.declared.device.DeviceDone.{DeviceDone}
use Rattle.vd_ring.specs.declared.device.DeviceDone.TheVariants.{Take, Give, Rest, StoreAck, LoadCommand}
use Rattle.vd_ring.specs.declared.device.DeviceNow.{DeviceNow}
use Rattle.vd_ring.specs.declared.device.DeviceNow.TheVariants.{Idle, Taking, Checking, Ringing, Arming, Disarming, Resting}
use Rattle.vd_ring.specs.declared.device.DeviceView.{DeviceView}
use Rattle.vd_ring.specs.Frames.{Fits, limit}
use Rattle.vd_ring.specs.Batches.{MayReturn}
use Rattle.vd_ring.specs.History.{takes, gives, running, running_size, taken_head, with_head, given, last_used, IsWhole, chain_at}
use Rattle.vd_ring.specs.Control.{IsControlChain, LoadsCommand, StoresAck}
use Rattle.vd_packed_ring.specs.PackedWords.{IsDevices, IsDescriptors, driver_event, device_event, commands_from, acks_from, kick_at, call_at, command_word, ack_word, second_word, len_of, id_of, is_available, used_word, words_of}
use Rattle.vd_packed_ring.specs.PackedChains.{reading, loaded_head, is_whole, chain_of, cursor}
use Rattle.vd_packed_ring.specs.PackedSignals.{asks, IsArmed, StoresEvent, StoresDisable, StoresBell, LoadsBell}
use Rattle.vd_packed_ring.specs.PackedPositions.{take_position, give_position, later}

-- ---- the conditions

-- a load of the next word of the chain at position q, of which the words ws are loaded; it is one of the ring's descriptors
pub record LoadsChain (f : Frame) (q : ℕ) (ws : List ℕ) (p : ℕ) : Type 0 where
  pub place : p ≡ cursor f q ws
  pub inside : IsDescriptors f p

-- the store of a used descriptor: the head of a chain taken and not given, whose entry may come next, and a length
pub record Returns (f : Frame) (s : List DeviceDone) (p x : ℕ) : Type 0 where
  pub number : ℕ
  pub runs : Contains (running s) number
  pub next : MayReturn f (chain_at (takes s)) (length (gives s)) number
  pub len : ℕ
  pub small : len < 4294967296
  pub place : p ≡ second_word f.size (give_position f s)
  pub word : x ≡ used_word f.size (give_position f s) (taken_head s number) len

-- ---- next

abbrev pub DeviceNextAt : DeviceNow → DeviceView → Op → Access → Type 0
DeviceNextAt Idle v op.Take (Load p) = (v.armed ≡ None) × (p ≡ second_word v.frame.size (take_position v.frame v.done))
DeviceNextAt (Taking (w ∷ ws)) v op.Take (Load p) = LoadsChain v.frame (take_position v.frame v.done) (w ∷ ws) p
DeviceNextAt Idle v op.Give (Store p x) = (v.armed ≡ None) × Returns v.frame v.done p x
DeviceNextAt (Checking old new) v op.Give (Load p) = p ≡ driver_event v.frame
DeviceNextAt (Ringing old new) v op.Give (Store p x) = StoresBell (call_at v.frame) v.bells p x
DeviceNextAt Idle v op.Arm (Store p x) = (v.armed ≡ None) × StoresEvent v.frame (device_event v.frame) (take_position v.frame v.done) p x
DeviceNextAt Arming v op.Arm (Load p) = p ≡ second_word v.frame.size (take_position v.frame v.done)
DeviceNextAt (Disarming o) v op.Arm (Store p x) = (o ≡ op.Arm) × StoresDisable v.frame (device_event v.frame) p x
DeviceNextAt Idle v op.Hear (Load p) = IsArmed v.armed × (p ≡ kick_at v.frame)
DeviceNextAt (Disarming o) v op.Hear (Store p x) = (o ≡ op.Hear) × StoresDisable v.frame (device_event v.frame) p x
DeviceNextAt Idle v op.Disarm (Store p x) = IsArmed v.armed × StoresDisable v.frame (device_event v.frame) p x
DeviceNextAt Idle v op.Disarm (Load p) = IsArmed v.armed × LoadsBell v.frame (kick_at v.frame) p
DeviceNextAt Idle v op.Rest (Store p x) = IsWhole v.done × StoresDisable v.frame (device_event v.frame) p x
DeviceNextAt Idle v op.Rest (Load p) = IsWhole v.done × LoadsBell v.frame (kick_at v.frame) p
DeviceNextAt Resting v op.Rest (Load p) = p ≡ second_word v.frame.size (take_position v.frame v.done)
DeviceNextAt Idle v op.Control (Load p) = LoadsCommand v.frame (command_word v.frame) v.done p
DeviceNextAt Idle v op.Control (Store p x) = StoresAck v.frame (ack_word v.frame) v.done p
DeviceNextAt _ _ _ _ = ⊥

-- the access may be made now
abbrev pub DeviceNext : DeviceView → Op → Access → Type 0
DeviceNext v op a = DeviceNextAt v.doing v op a

-- ---- after

-- the operation after the publishing store of these positions: the event word is loaded next
abbrev pub device_published : ℕ → ℕ → DeviceNow
device_published old new = Checking old new

-- a chain that is seen has a descriptor at least. A position seen never goes back: after a rest a look is at an earlier one
abbrev pub device_looks : DeviceView → ℕ → DeviceView
device_looks v r =
    if is_available v.frame.size (take_position v.frame v.done) r
    then record v { seen = later v.seen (take_position v.frame v.done + 1); shown = true; doing = Taking (r ∷ []) }
    else record v { seen = later v.seen (take_position v.frame v.done); shown = false }

abbrev pub device_takes : DeviceView → List ℕ → DeviceView
device_takes v ws = record v { done = Take (chain_of v.frame ws) (loaded_head v.frame ws) ∷ v.done; shown = false; doing = Idle }

abbrev pub device_loads : DeviceView → List ℕ → DeviceView
device_loads v ws = if is_whole v.frame ws then device_takes v ws else record v { doing = Taking ws }

-- the used descriptor is stored and published at once
abbrev pub device_gives : DeviceView → ℕ → ℕ → DeviceView
device_gives v p x =
    let s : List DeviceDone = Give (given v.frame v.done (id_of x) (len_of x)) ∷ v.done in
    record v {
      done = s;
      stored = slice_set v.stored p x;
      doing =
          device_published (give_position v.frame v.done) (give_position v.frame s);
    }

-- r is the word with the driver's event word
abbrev pub device_checks : DeviceView → ℕ → ℕ → ℕ → DeviceView
device_checks v old new r = record v { doing = if asks v.frame old new r then Ringing old new else Idle }

abbrev pub device_stores : DeviceView → ℕ → ℕ → DeviceNow → DeviceView
device_stores v p x doing = record v { stored = slice_set v.stored p x; doing = doing }

abbrev pub device_rings : DeviceView → ℕ → ℕ → DeviceView
device_rings v p x = record v { stored = slice_set v.stored p x; bells = v.bells + 1; doing = Idle }

abbrev pub device_arms : DeviceView → ℕ → ℕ → DeviceView
device_arms v p x = record v { stored = slice_set v.stored p x; armed = Some (take_position v.frame v.done); doing = Arming }

-- the operation of a side that is no longer armed: without EVENT_IDX the disarming store is next
abbrev pub device_wakes : Frame → Op → DeviceNow
device_wakes f o = if f.features.event_idx then Idle else Disarming o

-- the second look of an arming
abbrev pub device_looks_again : DeviceView → ℕ → DeviceView
device_looks_again v r =
    if is_available v.frame.size (take_position v.frame v.done) r
    then record v {
      seen = later v.seen (take_position v.frame v.done + 1);
      shown = true;
      armed = None;
      doing =
          device_wakes v.frame op.Arm;
    }
    else record v { seen = later v.seen (take_position v.frame v.done); shown = false; doing = Idle }

-- r is the bell loaded
abbrev pub device_hears : DeviceView → ℕ → DeviceView
device_hears v r = if r == v.heard then v else record v { heard = r; armed = None; doing = device_wakes v.frame op.Hear }

-- up to which position a look shows chains
abbrev pub seen_to : DeviceView → ℕ → ℕ
seen_to v r = if is_available v.frame.size (take_position v.frame v.done) r then take_position v.frame v.done
    + 1 else take_position v.frame v.done

-- the disarming store
abbrev pub device_disarms : DeviceView → ℕ → ℕ → DeviceView
device_disarms v p x = record v { stored = slice_set v.stored p x; armed = None; doing = Idle }

-- its look is no look for a chain: what the last one showed stays, but no later look is before this one
abbrev pub device_rests : DeviceView → ℕ → DeviceView
device_rests v r = record v { done = Rest ∷ v.done; seen = later v.seen (seen_to v r); doing = Idle }

abbrev pub device_commands : DeviceView → ℕ → ℕ → DeviceView
device_commands v p r =
    record v {
      done = LoadCommand (with_head (taken_head v.done) (running v.done) ((p - commands_from v.frame) / 2))
          ((p - commands_from v.frame) % 2) r ∷ v.done;
    }

abbrev pub device_acks : DeviceView → ℕ → ℕ → DeviceView
device_acks v p x = record v { done = StoreAck (p - acks_from v.frame) x ∷ v.done; stored = slice_set v.stored p x }

abbrev pub device_after_at : DeviceNow → DeviceView → Op → Access → ℕ → DeviceView
device_after_at Idle v op.Take (Load p) r = device_looks v r
device_after_at (Taking (w ∷ ws)) v op.Take (Load p) r = device_loads v (w ∷ ws ++ r ∷ [])
device_after_at Idle v op.Give (Store p x) r = device_gives v p x
device_after_at (Checking old new) v op.Give (Load p) r = device_checks v old new r
device_after_at (Ringing old new) v op.Give (Store p x) r = device_rings v p x
device_after_at Idle v op.Arm (Store p x) r = device_arms v p x
device_after_at Arming v op.Arm (Load p) r = device_looks_again v r
device_after_at (Disarming o) v op.Arm (Store p x) r = device_disarms v p x
device_after_at Idle v op.Hear (Load p) r = device_hears v r
device_after_at (Disarming o) v op.Hear (Store p x) r = device_disarms v p x
device_after_at Idle v op.Disarm (Store p x) r = record v { stored = slice_set v.stored p x; armed = None }
device_after_at Idle v op.Disarm (Load p) r = record v { armed = None }
device_after_at Idle v op.Rest (Store p x) r = record v { stored = slice_set v.stored p x; armed = None; doing = Resting }
device_after_at Idle v op.Rest (Load p) r = record v { armed = None; doing = Resting }
device_after_at Resting v op.Rest (Load p) r = device_rests v r
device_after_at Idle v op.Control (Load p) r = device_commands v p r
device_after_at Idle v op.Control (Store p x) r = device_acks v p x
device_after_at _ v _ _ _ = v

-- the view after an access with this answer
abbrev pub device_after : DeviceView → Op → Access → ℕ → DeviceView
device_after v op a r = device_after_at v.doing v op a r

-- ---- tells

-- a loaded chain's id is below the size, and the head of no chain taken and not given
pub record IsNewHead (f : Frame) (s : List DeviceDone) (h : ℕ) : Type 0 where
  pub inside : h < f.size
  pub apart : (k : ℕ) → Contains (running s) k → taken_head s k ≢ h

-- the loaded words are the first words of one chain with the id `head` at the next position
pub record BeginsChain (f : Frame) (s : List DeviceDone) (ws : List ℕ) : Type 0 where
  pub head : ℕ
  pub is_new : IsNewHead f s head
  pub chain : List Piece
  -- it may stand on the ring
  pub fits : Fits f chain
  -- on a control ring it is a control chain of its head
  pub control : f.control ≡ true → IsControlChain (command_word f head) (ack_word f head) chain
  pub words : ws ≡ words_of (take (length ws) (reading f (take_position f s) head chain))
  -- the last load completes it, and no other does; then the last descriptor loaded has the id
  pub left : is_whole f ws ≡ false → length ws < length (reading f (take_position f s) head chain)
  pub complete : is_whole f ws ≡ true → (length ws ≡ length (reading f (take_position f s) head chain)) × (chain_of f ws ≡ chain)
      × (loaded_head f ws ≡ head)
  -- it and the chains taken and not given are no more descriptors than places
  pub room : running_size f s + needs f.features chain ≤ f.size

-- a look shows a chain where the last one did and it is not taken since, and at each position before that seen
abbrev pub ShowsSeen : DeviceView → ℕ → Type 0
ShowsSeen v r =
    (v.shown ≡ true → is_available v.frame.size (take_position v.frame v.done) r ≡ true)
    × (take_position v.frame v.done < v.seen → is_available v.frame.size (take_position v.frame v.done) r ≡ true)

-- a chain that a look shows may be taken
abbrev pub ShowsChains : DeviceView → ℕ → Type 0
ShowsChains v r =
    (is_available v.frame.size (take_position v.frame v.done) r ≡ true → (length (takes v.done) < limit v.frame)
    × BeginsChain v.frame v.done (r ∷ []))
    × ShowsSeen v r

abbrev pub DeviceTellsAt : DeviceNow → DeviceView → Op → Access → ℕ → Type 0
DeviceTellsAt Idle v op.Take (Load p) r = ShowsChains v r
DeviceTellsAt Arming v op.Arm (Load p) r = ShowsChains v r
DeviceTellsAt (Taking (w ∷ ws)) v op.Take (Load p) r = BeginsChain v.frame v.done (w ∷ ws ++ r ∷ [])
DeviceTellsAt Resting v op.Rest (Load p) r = ShowsSeen v r
DeviceTellsAt _ _ _ _ _ = Unit {0}

-- a load of a word that only the device stores answers what it stored there last
abbrev pub DeviceKnows : DeviceView → Access → ℕ → Type 0
DeviceKnows v (Load p) r = IsDevices v.frame p → r ≡ slice_index v.stored p
DeviceKnows v (Store p x) r = Unit {0}

-- what an answer tells, in terms of the device's view alone
abbrev pub DeviceTells : DeviceView → Op → Access → ℕ → Type 0
DeviceTells v op a r = DeviceKnows v a r × DeviceTellsAt v.doing v op a r

-- ---- the step's answer

-- the word that a look loads shows a chain that is not taken
abbrev pub device_shows : DeviceView → ℕ → Bool
device_shows v r = is_available v.frame.size (take_position v.frame v.done) r

abbrev pub take_act : DeviceView → List ℕ → DeviceAct
take_act v ws = if is_whole v.frame ws then act.Taken (length (takes v.done)) (chain_of v.frame ws) else act.Moved

-- without EVENT_IDX a side wakes with its disarming store
abbrev pub woken_act : Frame → DeviceAct
woken_act f = if f.features.event_idx then act.Awake else act.Moved

abbrev pub device_act_at : DeviceNow → DeviceView → Op → Access → ℕ → DeviceAct
device_act_at Idle v op.Take (Load p) r = if is_available v.frame.size (take_position v.frame v.done) r then act.Moved else act.Nothing
device_act_at (Taking (w ∷ ws)) v op.Take (Load p) r = take_act v (w ∷ ws ++ r ∷ [])
device_act_at Idle v op.Give (Store p x) r = act.Given (last_used (given v.frame v.done (id_of x) (len_of x))).number
device_act_at Arming v op.Arm (Load p) r =
    if is_available v.frame.size (take_position v.frame v.done) r then woken_act v.frame else act.Armed
device_act_at (Disarming o) v op.Arm (Store p x) r = act.Awake
device_act_at Idle v op.Hear (Load p) r = if r == v.heard then act.Asleep else woken_act v.frame
device_act_at (Disarming o) v op.Hear (Store p x) r = act.Awake
device_act_at Idle v op.Disarm (Store p x) r = act.Awake
device_act_at Idle v op.Disarm (Load p) r = act.Awake
device_act_at Resting v op.Rest (Load p) r = act.Rested
device_act_at _ v _ _ _ = act.Moved

-- what the end's step answers, by the view before it
abbrev pub device_act : DeviceView → Op → Access → ℕ → DeviceAct
device_act v op a r = device_act_at v.doing v op a r

abbrev pub device_side : SideModel DeviceView
device_side = record { next = DeviceNext; after = device_after; tells = DeviceTells }
