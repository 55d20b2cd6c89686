-- The accesses of a packed ring's driver: which may be made next, the view after one, what its answer tells, and what the end's step
-- answers.
use Rattle.std.specs.Prelude.{◌≡◌, ℕ, ◌+◌, ◌-◌, ◌/◌, ◌%◌, ◌<◌, ◌≤◌, ◌⊎◌, ◌==◌, Bool, true, false, List, [], ◌∷◌, ◌++◌, length, take, None, Some, if◌then◌else◌, slice_index, slice_set, unwrap_or}
use Rattle.std.specs.List.{Contains}
use Rattle.vd_model.specs.declared.chain.Piece.{Piece}
use Rattle.vd_model.specs.Chains.{needs}
use Rattle.vd_words.specs.declared.access.Access.{Access}
use Rattle.vd_words.specs.declared.access.Access.TheVariants.{Load, Store}
use Rattle.vd_words.specs.declared.access.Op.{Op}
use Rattle.vd_words.specs.declared.access.Op.TheVariants as op
use Rattle.vd_words.specs.Own.{SideModel}
use Rattle.vd_ring.specs.declared.act.DriverAct.{DriverAct}
use Rattle.vd_ring.specs.declared.act.DriverAct.TheVariants as act
use Rattle.vd_ring.specs.declared.frame.Frame.{Frame}
use Rattle.vd_ring.specs.declared.frame.Put.{Put}
use Rattle.vd_ring.specs.declared.frame.Used.{Used}
use Rattle.vd_ring.specs.declared.driver.DriverDone.{DriverDone}
use Rattle.vd_ring.specs.declared.driver.DriverDone.TheVariants.{Offer, Collect, StoreCommand, LoadAck}
use Rattle.vd_ring.specs.declared.driver.DriverNow.{DriverNow}
use Rattle.vd_ring.specs.declared.driver.DriverNow.TheVariants.{Idle, Offering, Checking, Ringing, Arming, Disarming}
use Rattle.vd_ring.specs.declared.driver.DriverView.{DriverView}
use Rattle.vd_ring.specs.Frames.{Fits, limit}
use Rattle.vd_ring.specs.Batches.{MayReturn}
use Rattle.vd_ring.specs.History.{offers, collects, head, next_head, open_at, collected, last_used, chain}
use Rattle.vd_ring.specs.Control.{IsControlChain, StoresCommand, LoadsAck, last_collected}
use Rattle.vd_packed_ring.specs.PackedWords.{IsDrivers, driver_event, device_event, commands_from, kick_at, call_at, command_word, ack_word, second_word, len_of, id_of, is_used, put, words_of}
use Rattle.vd_packed_ring.specs.PackedChains.{descriptors, spelling, publishing, staged_chain}
use Rattle.vd_packed_ring.specs.PackedSignals.{asks, IsArmed, StoresEvent, StoresDisable, StoresBell, LoadsBell}
use Rattle.vd_packed_ring.specs.PackedPositions.{offer_position, collect_position, later}

-- ---- the conditions

-- the chain may be offered now
pub record CanOffer (f : Frame) (o : List DriverDone) (c : List Piece) : Type 0 where
  pub fits : Fits f c
  -- its descriptors and those of the chains offered and not collected are no more than the ring's places
  pub room : offer_position f o + needs f.features c ≤ collect_position f o + f.size
  pub limited : length (offers o) < limit f
  -- on a control ring it is a control chain of the next head
  pub control : f.control ≡ true → IsControlChain (command_word f (next_head f o)) (ack_word f (next_head f o)) c

-- the stores that offer the chain, up to the last: its table's, then its descriptors'
abbrev pub plan : Frame → List DriverDone → List Piece → List Put
plan f o c = spelling f (offer_position f o) (next_head f o) c

-- the last one, with which it is available
abbrev pub last_put : Frame → List DriverDone → List Piece → Put
last_put f o c = publishing f.size (offer_position f o) (descriptors f (next_head f o) c)

-- these are the first stores of a chain that may be offered
pub record Begins (f : Frame) (o : List DriverDone) (puts : List Put) : Type 0 where
  pub chain : List Piece
  pub can : CanOffer f o chain
  pub first : puts ≡ take (length puts) (plan f o chain)

-- the store of the first descriptor's second word, after all others of a chain
pub record Publishes (f : Frame) (o : List DriverDone) (puts : List Put) (p x : ℕ) : Type 0 where
  pub chain : List Piece
  pub can : CanOffer f o chain
  pub whole : puts ≡ plan f o chain
  pub last : put p x ≡ last_put f o chain

-- ---- next

abbrev pub DriverNextAt : DriverNow → DriverView → Op → Access → Type 0
DriverNextAt Idle v op.Offer (Store p x) = (v.armed ≡ None) × Begins v.frame v.done (put p x ∷ [])
DriverNextAt (Offering puts) v op.Offer (Store p x) = Begins v.frame v.done (puts ++ put p x ∷ []) ⊎ Publishes v.frame v.done puts p x
DriverNextAt (Checking old new) v op.Offer (Load p) = p ≡ device_event v.frame
DriverNextAt (Ringing old new) v op.Offer (Store p x) = StoresBell (kick_at v.frame) v.bells p x
DriverNextAt Idle v op.Collect (Load p) = (v.armed ≡ None) × (p ≡ second_word v.frame.size (collect_position v.frame v.done))
DriverNextAt Idle v op.Arm (Store p x) = (v.armed ≡ None) × StoresEvent v.frame (driver_event v.frame) (collect_position v.frame v.done) p x
DriverNextAt Arming v op.Arm (Load p) = p ≡ second_word v.frame.size (collect_position v.frame v.done)
DriverNextAt (Disarming o) v op.Arm (Store p x) = (o ≡ op.Arm) × StoresDisable v.frame (driver_event v.frame) p x
DriverNextAt Idle v op.Hear (Load p) = IsArmed v.armed × (p ≡ call_at v.frame)
DriverNextAt (Disarming o) v op.Hear (Store p x) = (o ≡ op.Hear) × StoresDisable v.frame (driver_event v.frame) p x
DriverNextAt Idle v op.Disarm (Store p x) = IsArmed v.armed × StoresDisable v.frame (driver_event v.frame) p x
DriverNextAt Idle v op.Disarm (Load p) = IsArmed v.armed × LoadsBell v.frame (call_at v.frame) p
DriverNextAt Idle v op.Control (Store p x) = StoresCommand v.frame (command_word v.frame) v.done p
DriverNextAt Idle v op.Control (Load p) = LoadsAck v.frame (ack_word v.frame) v.done p
DriverNextAt _ _ _ _ = ⊥

-- the access may be made now
abbrev pub DriverNext : DriverView → Op → Access → Type 0
DriverNext v op a = DriverNextAt v.doing v op a

-- ---- after

-- the operation after the publishing store of these positions: the event word is loaded next
abbrev pub driver_published : ℕ → ℕ → DriverNow
driver_published old new = Checking old new

abbrev pub stores : DriverView → ℕ → ℕ → DriverNow → DriverView
stores v p x doing = record v { stored = slice_set v.stored p x; doing = doing }

-- the words staged, and the last
abbrev pub driver_offers : DriverView → List Put → ℕ → ℕ → DriverView
driver_offers v puts p x =
    let o : List DriverDone = Offer (staged_chain v.frame (words_of puts) x) ∷ v.done in
    record v {
      done = o;
      stored = slice_set v.stored p x;
      doing =
          driver_published (offer_position v.frame v.done) (offer_position v.frame o);
    }

-- no store of an offer before the last is in the second word at the position where the chain begins
abbrev pub driver_stores : DriverView → List Put → ℕ → ℕ → DriverView
driver_stores v puts p x = if p == second_word v.frame.size (offer_position v.frame v.done) then driver_offers v puts p x else stores v
    p x (Offering (puts ++ put p x ∷ []))

-- r is the word with the device's event word
abbrev pub driver_checks : DriverView → ℕ → ℕ → ℕ → DriverView
driver_checks v old new r = record v { doing = if asks v.frame old new r then Ringing old new else Idle }

abbrev pub driver_rings : DriverView → ℕ → ℕ → DriverView
driver_rings v p x = record v { stored = slice_set v.stored p x; bells = v.bells + 1; doing = Idle }

abbrev pub driver_collects : DriverView → ℕ → DriverView
driver_collects v r =
    let o : List DriverDone = Collect (collected v.frame v.done (id_of r) (len_of r)) ∷ v.done in
    record v { done = o; seen = later v.seen (collect_position v.frame o); shown = false }

-- the look is the collect's only load
abbrev pub driver_looks : DriverView → ℕ → DriverView
driver_looks v r = if is_used v.frame.size (collect_position v.frame v.done) r then driver_collects v r else record v {
  seen =
      later v.seen (collect_position v.frame v.done);
  shown = false;
}

abbrev pub driver_arms : DriverView → ℕ → ℕ → DriverView
driver_arms v p x = record v { stored = slice_set v.stored p x; armed = Some (collect_position v.frame v.done); doing = Arming }

-- the operation of a side that is no longer armed: without EVENT_IDX the disarming store is next
abbrev pub driver_wakes : Frame → Op → DriverNow
driver_wakes f o = if f.features.event_idx then Idle else Disarming o

-- the second look of an arming. A used descriptor is of a chain that has a descriptor at least
abbrev pub driver_looks_again : DriverView → ℕ → DriverView
driver_looks_again v r =
    if is_used v.frame.size (collect_position v.frame v.done) r
    then record v {
      seen = later v.seen (collect_position v.frame v.done + 1);
      shown = true;
      armed = None;
      doing =
          driver_wakes v.frame op.Arm;
    }
    else record v { seen = later v.seen (collect_position v.frame v.done); shown = false; doing = Idle }

-- r is the bell loaded
abbrev pub driver_hears : DriverView → ℕ → DriverView
driver_hears v r = if r == v.heard then v else record v { heard = r; armed = None; doing = driver_wakes v.frame op.Hear }

-- the disarming store
abbrev pub driver_disarms : DriverView → ℕ → ℕ → DriverView
driver_disarms v p x = record v { stored = slice_set v.stored p x; armed = None; doing = Idle }

abbrev pub driver_commands : DriverView → ℕ → ℕ → DriverView
driver_commands v p x =
    record v {
      done = StoreCommand ((p - commands_from v.frame) / 2) ((p - commands_from v.frame) % 2) x ∷ v.done;
      stored =
          slice_set v.stored p x;
    }

abbrev pub driver_acks : DriverView → ℕ → DriverView
driver_acks v r = record v { done = LoadAck (unwrap_or (last_collected v.done) 0) r ∷ v.done }

abbrev pub driver_after_at : DriverNow → DriverView → Op → Access → ℕ → DriverView
driver_after_at Idle v op.Offer (Store p x) r = stores v p x (Offering (put p x ∷ []))
driver_after_at (Offering puts) v op.Offer (Store p x) r = driver_stores v puts p x
driver_after_at (Checking old new) v op.Offer (Load p) r = driver_checks v old new r
driver_after_at (Ringing old new) v op.Offer (Store p x) r = driver_rings v p x
driver_after_at Idle v op.Collect (Load p) r = driver_looks v r
driver_after_at Idle v op.Arm (Store p x) r = driver_arms v p x
driver_after_at Arming v op.Arm (Load p) r = driver_looks_again v r
driver_after_at (Disarming o) v op.Arm (Store p x) r = driver_disarms v p x
driver_after_at Idle v op.Hear (Load p) r = driver_hears v r
driver_after_at (Disarming o) v op.Hear (Store p x) r = driver_disarms v p x
driver_after_at Idle v op.Disarm (Store p x) r = record v { stored = slice_set v.stored p x; armed = None }
driver_after_at Idle v op.Disarm (Load p) r = record v { armed = None }
driver_after_at Idle v op.Control (Store p x) r = driver_commands v p x
driver_after_at Idle v op.Control (Load p) r = driver_acks v r
driver_after_at _ v _ _ _ = v

-- the view after an access with this answer
abbrev pub driver_after : DriverView → Op → Access → ℕ → DriverView
driver_after v op a r = driver_after_at v.doing v op a r

-- ---- tells

-- a used id is the head of a chain offered and not collected, whose entry may come next
pub record NamesOpen (f : Frame) (o : List DriverDone) (id : ℕ) : Type 0 where
  pub number : ℕ
  pub is_open : Contains (open_at o) number
  pub is_head : head f o number ≡ id
  pub next : MayReturn f (chain o) (length (collects o)) number

-- an entry that a look shows may be collected; a look shows one where the last one did and it is not collected since, and at each
-- position before that seen
abbrev pub ShowsGives : DriverView → ℕ → Type 0
ShowsGives v r =
    (is_used v.frame.size (collect_position v.frame v.done) r ≡ true → NamesOpen v.frame v.done (id_of r))
    × (v.shown ≡ true → is_used v.frame.size (collect_position v.frame v.done) r ≡ true)
    × (collect_position v.frame v.done < v.seen → is_used v.frame.size (collect_position v.frame v.done) r ≡ true)

abbrev pub DriverTellsAt : DriverNow → DriverView → Op → Access → ℕ → Type 0
DriverTellsAt Idle v op.Collect (Load p) r = ShowsGives v r
DriverTellsAt Arming v op.Arm (Load p) r = ShowsGives v r
DriverTellsAt _ _ _ _ _ = Unit {0}

-- a load of a word that only the driver stores answers what it stored there last
abbrev pub DriverKnows : DriverView → Access → ℕ → Type 0
DriverKnows v (Load p) r = IsDrivers v.frame p → r ≡ slice_index v.stored p
DriverKnows v (Store p x) r = Unit {0}

-- what an answer tells, in terms of the driver's view alone
abbrev pub DriverTells : DriverView → Op → Access → ℕ → Type 0
DriverTells v op a r = DriverKnows v a r × DriverTellsAt v.doing v op a r

-- ---- the step's answer

-- the word that a look loads shows a used entry that is not collected
abbrev pub driver_shows : DriverView → ℕ → Bool
driver_shows v r = is_used v.frame.size (collect_position v.frame v.done) r

abbrev pub offer_act : DriverView → ℕ → DriverAct
offer_act v p = if p == second_word v.frame.size (offer_position v.frame v.done) then act.Offered (length (offers v.done)) else act.Moved

abbrev pub collect_act : DriverView → ℕ → DriverAct
collect_act v r = let u : Used = last_used (collected v.frame v.done (id_of r) (len_of r)) in act.Collected u.number u.len (id_of r)

-- without EVENT_IDX a side wakes with its disarming store
abbrev pub woken_act : Frame → DriverAct
woken_act f = if f.features.event_idx then act.Awake else act.Moved

abbrev pub driver_act_at : DriverNow → DriverView → Op → Access → ℕ → DriverAct
driver_act_at (Offering puts) v op.Offer (Store p x) r = offer_act v p
driver_act_at Idle v op.Collect (Load p) r =
    if is_used v.frame.size (collect_position v.frame v.done) r then collect_act v r else act.Nothing
driver_act_at Arming v op.Arm (Load p) r = if is_used v.frame.size (collect_position v.frame v.done) r then woken_act v.frame else act.Armed
driver_act_at (Disarming o) v op.Arm (Store p x) r = act.Awake
driver_act_at Idle v op.Hear (Load p) r = if r == v.heard then act.Asleep else woken_act v.frame
driver_act_at (Disarming o) v op.Hear (Store p x) r = act.Awake
driver_act_at Idle v op.Disarm (Store p x) r = act.Awake
driver_act_at Idle v op.Disarm (Load p) r = act.Awake
driver_act_at _ v _ _ _ = act.Moved

-- what the end's step answers, by the view before it
abbrev pub driver_act : DriverView → Op → Access → ℕ → DriverAct
driver_act v op a r = driver_act_at v.doing v op a r

abbrev pub driver_side : SideModel DriverView
driver_side = record { next = DriverNext; after = driver_after; tells = DriverTells }
