-- The accesses of a split ring's device: which may be made next, the view after one, what its answer tells, and what the end's step
-- answers.
use Rattle.std.specs.Prelude.{Bool, ◌≡◌, ◌≢◌, ℕ, ◌+◌, ◌-◌, ◌/◌, ◌%◌, ◌<◌, ◌≤◌, true, false, not, List, [], ◌∷◌, ◌++◌, length, take, None, Some, if◌then◌else◌, ◌==◌, slice_index, slice_set}
use Rattle.std.specs.List.{All, Contains}
use Rattle.vd_bits.specs.Lanes.{lane16, set_lane16, lane32, set_lane32}
use Rattle.vd_model.specs.declared.chain.Piece.{Piece}
use Rattle.vd_model.specs.Chains.{needs}
use Rattle.vd_words.specs.declared.access.Access.{Access}
use Rattle.vd_words.specs.declared.access.Access.TheVariants.{Load, Store}
use Rattle.vd_words.specs.declared.access.Op.{Op}
use Rattle.vd_words.specs.declared.access.Op.TheVariants as op
use Rattle.vd_words.specs.Own.{SideModel}
use Rattle.vd_ring.specs.declared.act.DeviceAct.{DeviceAct}
use Rattle.vd_ring.specs.declared.act.DeviceAct.TheVariants as act
use Rattle.vd_ring.specs.declared.frame.Frame.{Frame}
use Rattle.vd_ring.specs.declared.device.DeviceDone.{DeviceDone}
use Rattle.vd_ring.specs.declared.device.DeviceDone.TheVariants.{Take, Give, Rest, StoreAck, LoadCommand}
use Rattle.vd_ring.specs.declared.device.DeviceNow.{DeviceNow}
use Rattle.vd_ring.specs.declared.device.DeviceNow.TheVariants.{Idle, Taking, Giving, Checking, Ringing, Arming, Disarming, Resting}
use Rattle.vd_ring.specs.declared.device.DeviceView.{DeviceView}
use Rattle.vd_ring.specs.Frames.{Fits, borrowed, limit}
use Rattle.vd_ring.specs.Batches.{MayReturn}
use Rattle.vd_ring.specs.History.{takes, gives, running, running_size, taken_head, with_head, given, first, occurs, last_used, IsWhole, chain_at}
use Rattle.vd_ring.specs.Control.{IsControlChain, LoadsCommand, StoresAck}
use Rattle.vd_split_ring.specs.SplitWords.{IsDevices, IsDescriptors, kick_at, call_at, driver_event_lane, device_event_word, device_event_lane, armed_value, wants, bell_word, used_from, commands_from, acks_from, command_word, ack_word, id_word, len_word, lane_word, entry_lane, shows, shown_from, ShowsIndex, words_of, reading, is_whole, chain_of, cursor}
use Rattle.vd_split_ring.specs.SplitDriver.{IsArmed}

-- ---- the conditions

-- the head in a loaded word with the entry of chain number k
abbrev pub loaded_head : Frame → ℕ → ℕ → ℕ
loaded_head f k w = lane16 w (entry_lane f k % 4)

-- a load of the next word of the chain at head h, of which the words ws are loaded; it is one of the ring's descriptors
pub record LoadsChain (f : Frame) (h : ℕ) (ws : List ℕ) (p : ℕ) : Type 0 where
  pub place : p ≡ cursor f h ws
  pub inside : IsDescriptors f p

-- the store of a used entry's id: the head of a chain taken and not given, whose entry may come next
pub record Names (f : Frame) (s : List DeviceDone) (stored : List ℕ) (p x : ℕ) : Type 0 where
  pub number : ℕ
  pub runs : Contains (running s) number
  pub next : MayReturn f (chain_at (takes s)) (length (gives s)) number
  pub place : p ≡ id_word f (length (gives s))
  pub word : x ≡ set_lane32 (slice_index stored p) 1 (taken_head s number)

-- the store of its length
pub record Measures (f : Frame) (s : List DeviceDone) (stored : List ℕ) (p x : ℕ) : Type 0 where
  pub len : ℕ
  pub small : len < 4294967296
  pub place : p ≡ len_word f (length (gives s))
  pub word : x ≡ set_lane32 (slice_index stored p) 0 len

-- the store of the index, by which the entry with the words a and b is given
pub record PublishesUsed (f : Frame) (s : List DeviceDone) (stored : List ℕ) (a b p x : ℕ) : Type 0 where
  pub place : p ≡ used_from f
  pub word : x ≡ set_lane16 (slice_index stored p) 1 (length (gives s ++ given f s (lane32 a 1) (lane32 b 0)) % 65536)

-- the store of the bell: how many were stored, this one included
pub record StoresCall (f : Frame) (bells p x : ℕ) : Type 0 where
  pub place : p ≡ call_at f
  pub word : x ≡ bell_word (bells + 1)

-- the store of the event word by which the device waits for the chain of count s
pub record StoresAvailEvent (f : Frame) (stored : List ℕ) (s p x : ℕ) : Type 0 where
  pub place : p ≡ device_event_word f
  pub word : x ≡ set_lane16 (slice_index stored p) (device_event_lane f) (armed_value f s)

-- the disarming store: without EVENT_IDX it sets NO_NOTIFY
pub record StoresNoNotify (f : Frame) (stored : List ℕ) (p x : ℕ) : Type 0 where
  pub flagged : f.features.event_idx ≡ false
  pub place : p ≡ used_from f
  pub word : x ≡ set_lane16 (slice_index stored p) 0 1

-- with EVENT_IDX a side is disarmed by a load of its bell, since no store does it
pub record LoadsKick (f : Frame) (p : ℕ) : Type 0 where
  pub indexed : f.features.event_idx ≡ true
  pub place : p ≡ kick_at f

-- ---- next

abbrev pub DeviceNextAt : DeviceNow → DeviceView → Op → Access → Type 0
DeviceNextAt Idle v op.Take (Load p) = (v.armed ≡ None) × (p ≡ lane_word v.frame 1)
DeviceNextAt (Taking (r ∷ [])) v op.Take (Load p) = p ≡ lane_word v.frame (entry_lane v.frame (length (takes v.done)))
DeviceNextAt (Taking (r ∷ w ∷ ws)) v op.Take (Load p) = LoadsChain v.frame (loaded_head v.frame (length (takes v.done)) w) ws p
DeviceNextAt Idle v op.Give (Store p x) = (v.armed ≡ None) × Names v.frame v.done v.stored p x
DeviceNextAt (Giving (a ∷ [])) v op.Give (Store p x) = Measures v.frame v.done v.stored p x
DeviceNextAt (Giving (a ∷ b ∷ [])) v op.Give (Store p x) = PublishesUsed v.frame v.done v.stored a b p x
DeviceNextAt (Checking old new) v op.Give (Load p) = p ≡ lane_word v.frame (driver_event_lane v.frame)
DeviceNextAt (Ringing old new) v op.Give (Store p x) = StoresCall v.frame v.bells p x
DeviceNextAt Idle v op.Arm (Store p x) = (v.armed ≡ None) × StoresAvailEvent v.frame v.stored (length (takes v.done)) p x
DeviceNextAt Arming v op.Arm (Load p) = p ≡ lane_word v.frame 1
DeviceNextAt (Disarming o) v op.Arm (Store p x) = (o ≡ op.Arm) × StoresNoNotify v.frame v.stored p x
DeviceNextAt Idle v op.Hear (Load p) = IsArmed v.armed × (p ≡ kick_at v.frame)
DeviceNextAt (Disarming o) v op.Hear (Store p x) = (o ≡ op.Hear) × StoresNoNotify v.frame v.stored p x
DeviceNextAt Idle v op.Disarm (Store p x) = IsArmed v.armed × StoresNoNotify v.frame v.stored p x
DeviceNextAt Idle v op.Disarm (Load p) = IsArmed v.armed × LoadsKick v.frame p
DeviceNextAt Idle v op.Rest (Store p x) = IsWhole v.done × StoresNoNotify v.frame v.stored p x
DeviceNextAt Idle v op.Rest (Load p) = IsWhole v.done × LoadsKick v.frame p
DeviceNextAt Resting v op.Rest (Load p) = p ≡ lane_word v.frame 1
DeviceNextAt Idle v op.Control (Load p) = LoadsCommand v.frame (command_word v.frame) v.done p
DeviceNextAt Idle v op.Control (Store p x) = StoresAck v.frame (ack_word v.frame) v.done p
DeviceNextAt _ _ _ _ = ⊥

-- the access may be made now
abbrev pub DeviceNext : DeviceView → Op → Access → Type 0
DeviceNext v op a = DeviceNextAt v.doing v op a

-- ---- after

-- the operation after the publishing store of this range: the event word is loaded next
abbrev pub device_published : ℕ → ℕ → DeviceNow
device_published old new = Checking old new

abbrev pub device_looks : DeviceView → ℕ → DeviceView
device_looks v r =
    if shows r (length (takes v.done))
    then record v { seen = shown_from r (length (takes v.done)); shown = false }
    else record v { seen = shown_from r (length (takes v.done)); shown = true; doing = Taking (r ∷ []) }

-- r is the index word, w the word with the entry, ws the chain's words
abbrev pub device_takes : DeviceView → ℕ → ℕ → List ℕ → DeviceView
device_takes v r w ws = record v {
  done = Take (chain_of v.frame ws) (loaded_head v.frame (length (takes v.done)) w) ∷ v.done;
  shown =
      not (shows r (length (takes v.done) + 1));
  doing = Idle;
}

abbrev pub device_loads : DeviceView → ℕ → ℕ → List ℕ → DeviceView
device_loads v r w ws = if is_whole v.frame ws then device_takes v r w ws else record v { doing = Taking (r ∷ w ∷ ws) }

abbrev pub device_stores : DeviceView → ℕ → ℕ → DeviceNow → DeviceView
device_stores v p x doing = record v { stored = slice_set v.stored p x; doing = doing }

-- a is the word with the id, b the word with the length
abbrev pub device_gives : DeviceView → ℕ → ℕ → ℕ → ℕ → DeviceView
device_gives v a b p x =
    let us = given v.frame v.done (lane32 a 1) (lane32 b 0) in
    record v {
      done = Give us ∷ v.done;
      stored = slice_set v.stored p x;
      doing =
          device_published (length (gives v.done)) (length (gives v.done ++ us));
    }

-- r is the word with the driver's event word
abbrev pub device_checks : DeviceView → ℕ → ℕ → ℕ → DeviceView
device_checks v old new r = record v {
  doing =
      if wants v.frame old new (lane16 r (driver_event_lane v.frame % 4)) then Ringing old new else Idle;
}

abbrev pub device_rings : DeviceView → ℕ → ℕ → DeviceView
device_rings v p x = record v { stored = slice_set v.stored p x; bells = v.bells + 1; doing = Idle }

abbrev pub device_arms : DeviceView → ℕ → ℕ → DeviceView
device_arms v p x = record v { stored = slice_set v.stored p x; armed = Some (length (takes v.done)); doing = Arming }

-- the operation of a side that is no longer armed: without EVENT_IDX the disarming store is next
abbrev pub device_wakes : Frame → Op → DeviceNow
device_wakes f o = if f.features.event_idx then Idle else Disarming o

-- the second look of an arming, at the index word r
abbrev pub device_looks_again : DeviceView → ℕ → DeviceView
device_looks_again v r =
    if shows r (length (takes v.done))
    then record v { seen = shown_from r (length (takes v.done)); shown = false; doing = Idle }
    else record v { seen = shown_from r (length (takes v.done)); shown = true; armed = None; doing = device_wakes v.frame op.Arm }

-- r is the bell loaded
abbrev pub device_hears : DeviceView → ℕ → DeviceView
device_hears v r = if r == v.heard then v else record v { heard = r; armed = None; doing = device_wakes v.frame op.Hear }

-- the disarming store
abbrev pub device_disarms : DeviceView → ℕ → ℕ → DeviceView
device_disarms v p x = record v { stored = slice_set v.stored p x; armed = None; doing = Idle }

-- its look is no look for a chain: what the last one showed stays, but no later index is before this one
abbrev pub device_rests : DeviceView → ℕ → DeviceView
device_rests v r = record v { done = Rest ∷ v.done; seen = shown_from r (length (takes v.done)); doing = Idle }

abbrev pub device_commands : DeviceView → ℕ → ℕ → DeviceView
device_commands v p r =
    record v {
      done = LoadCommand (with_head (taken_head v.done) (running v.done) ((p - commands_from v.frame) / 2))
          ((p - commands_from v.frame) % 2) r ∷ v.done;
    }

abbrev pub device_acks : DeviceView → ℕ → ℕ → DeviceView
device_acks v p x = record v { done = StoreAck (p - acks_from v.frame) x ∷ v.done; stored = slice_set v.stored p x }

abbrev pub device_after_at : DeviceNow → DeviceView → Op → Access → ℕ → DeviceView
device_after_at Idle v op.Take (Load p) r = device_looks v r
device_after_at (Taking (r ∷ [])) v op.Take (Load p) w = record v { doing = Taking (r ∷ w ∷ []) }
device_after_at (Taking (r ∷ w ∷ ws)) v op.Take (Load p) x = device_loads v r w (ws ++ x ∷ [])
device_after_at Idle v op.Give (Store p x) r = device_stores v p x (Giving (x ∷ []))
device_after_at (Giving (a ∷ [])) v op.Give (Store p x) r = device_stores v p x (Giving (a ∷ x ∷ []))
device_after_at (Giving (a ∷ b ∷ [])) v op.Give (Store p x) r = device_gives v a b p x
device_after_at (Checking old new) v op.Give (Load p) r = device_checks v old new r
device_after_at (Ringing old new) v op.Give (Store p x) r = device_rings v p x
device_after_at Idle v op.Arm (Store p x) r = device_arms v p x
device_after_at Arming v op.Arm (Load p) r = device_looks_again v r
device_after_at (Disarming o) v op.Arm (Store p x) r = device_disarms v p x
device_after_at Idle v op.Hear (Load p) r = device_hears v r
device_after_at (Disarming o) v op.Hear (Store p x) r = device_disarms v p x
device_after_at Idle v op.Disarm (Store p x) r = record v { stored = slice_set v.stored p x; armed = None }
device_after_at Idle v op.Disarm (Load p) r = record v { armed = None }
device_after_at Idle v op.Rest (Store p x) r = record v { stored = slice_set v.stored p x; armed = None; doing = Resting }
device_after_at Idle v op.Rest (Load p) r = record v { armed = None; doing = Resting }
device_after_at Resting v op.Rest (Load p) r = device_rests v r
device_after_at Idle v op.Control (Load p) r = device_commands v p r
device_after_at Idle v op.Control (Store p x) r = device_acks v p x
device_after_at _ v _ _ _ = v

-- the view after an access with this answer
abbrev pub device_after : DeviceView → Op → Access → ℕ → DeviceView
device_after v op a r = device_after_at v.doing v op a r

-- ---- tells

-- a loaded head is a place of the ring, and the head of no chain taken and not given
pub record IsNewHead (f : Frame) (s : List DeviceDone) (h : ℕ) : Type 0 where
  pub inside : h < f.size
  pub apart : (k : ℕ) → Contains (running s) k → taken_head s k ≢ h

-- the words loaded after the entry are the first words of one chain at the head h
pub record BeginsChain (f : Frame) (s : List DeviceDone) (h : ℕ) (ws : List ℕ) : Type 0 where
  pub chain : List Piece
  pub places : List ℕ
  -- it may stand on the ring, at as many different places as it needs
  pub fits : Fits f chain
  pub as_many : length places ≡ borrowed f chain
  pub begin : first places ≡ h
  pub differ : (p : ℕ) → occurs p places ≤ 1
  pub inside : All (λ p. p < f.size) places
  -- on a control ring it is a control chain of its head
  pub control : f.control ≡ true → IsControlChain (command_word f h) (ack_word f h) chain
  pub words : ws ≡ words_of (take (length ws) (reading f places chain))
  -- the last load completes it, and no other does
  pub left : is_whole f ws ≡ false → length ws < length (reading f places chain)
  pub complete : is_whole f ws ≡ true → (length ws ≡ length (reading f places chain)) × (chain_of f ws ≡ chain)
  -- it and the chains taken and not given are no more descriptors than places
  pub room : running_size f s + needs f.features chain ≤ f.size

-- a loaded index is past the chains taken by at most the ring's size
abbrev pub ShowsOffers : DeviceView → ℕ → Type 0
ShowsOffers v r = ShowsIndex r v.seen (length (takes v.done)) (length (takes v.done) + v.frame.size)

-- a look that shows a further chain tells that the limit is not reached; where the last one showed a chain that was not taken since,
-- this one shows one too
abbrev pub ShowsChains : DeviceView → ℕ → Type 0
ShowsChains v r =
    ShowsOffers v r
    × (shows r (length (takes v.done)) ≡ false → length (takes v.done) < limit v.frame)
    × (v.shown ≡ true → shows r (length (takes v.done)) ≡ false)

abbrev pub DeviceTellsAt : DeviceNow → DeviceView → Op → Access → ℕ → Type 0
DeviceTellsAt Idle v op.Take (Load p) r = ShowsChains v r
DeviceTellsAt Arming v op.Arm (Load p) r = ShowsChains v r
DeviceTellsAt (Taking (r ∷ [])) v op.Take (Load p) w = IsNewHead v.frame v.done (loaded_head v.frame (length (takes v.done)) w)
DeviceTellsAt (Taking (r ∷ w ∷ ws)) v op.Take (Load p) x = BeginsChain v.frame v.done (loaded_head v.frame (length (takes v.done)) w)
    (ws ++ x ∷ [])
DeviceTellsAt Resting v op.Rest (Load p) r = ShowsOffers v r
DeviceTellsAt _ _ _ _ _ = Unit {0}

-- a load of a word that only the device stores answers what it stored there last
abbrev pub DeviceKnows : DeviceView → Access → ℕ → Type 0
DeviceKnows v (Load p) r = IsDevices v.frame p → r ≡ slice_index v.stored p
DeviceKnows v (Store p x) r = Unit {0}

-- what an answer tells, in terms of the device's view alone
abbrev pub DeviceTells : DeviceView → Op → Access → ℕ → Type 0
DeviceTells v op a r = DeviceKnows v a r × DeviceTellsAt v.doing v op a r

-- ---- the step's answer

-- the index that a look loads shows a chain that is not taken
abbrev pub device_shows : DeviceView → ℕ → Bool
device_shows v r = not (shows r (length (takes v.done)))

abbrev pub take_act : DeviceView → List ℕ → DeviceAct
take_act v ws = if is_whole v.frame ws then act.Taken (length (takes v.done)) (chain_of v.frame ws) else act.Moved

-- without EVENT_IDX a side wakes with its disarming store
abbrev pub woken_act : Frame → DeviceAct
woken_act f = if f.features.event_idx then act.Awake else act.Moved

abbrev pub device_act_at : DeviceNow → DeviceView → Op → Access → ℕ → DeviceAct
device_act_at Idle v op.Take (Load p) r = if shows r (length (takes v.done)) then act.Nothing else act.Moved
device_act_at (Taking (r ∷ w ∷ ws)) v op.Take (Load p) x = take_act v (ws ++ x ∷ [])
device_act_at (Giving (a ∷ b ∷ [])) v op.Give (Store p x) r = act.Given (last_used (given v.frame v.done (lane32 a 1) (lane32 b 0))).number
device_act_at Arming v op.Arm (Load p) r = if shows r (length (takes v.done)) then act.Armed else woken_act v.frame
device_act_at (Disarming o) v op.Arm (Store p x) r = act.Awake
device_act_at Idle v op.Hear (Load p) r = if r == v.heard then act.Asleep else woken_act v.frame
device_act_at (Disarming o) v op.Hear (Store p x) r = act.Awake
device_act_at Idle v op.Disarm (Store p x) r = act.Awake
device_act_at Idle v op.Disarm (Load p) r = act.Awake
device_act_at Resting v op.Rest (Load p) r = act.Rested
device_act_at _ v _ _ _ = act.Moved

-- what the end's step answers, by the view before it
abbrev pub device_act : DeviceView → Op → Access → ℕ → DeviceAct
device_act v op a r = device_act_at v.doing v op a r

abbrev pub device_side : SideModel DeviceView
device_side = record { next = DeviceNext; after = device_after; tells = DeviceTells }
