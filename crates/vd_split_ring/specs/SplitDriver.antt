-- The accesses of a split ring's driver: which may be made next, the view after one, what its answer tells, and what the end's step
-- answers.
use Rattle.std.specs.Prelude.{◌≡◌, ℕ, ◌+◌, ◌-◌, ◌/◌, ◌%◌, ◌<◌, ◌≤◌, ◌⊎◌, ◌==◌, Bool, true, false, not, List, [], ◌∷◌, ◌++◌, length, take, Option, None, Some, if◌then◌else◌, slice_index, slice_set, unwrap_or}
use Rattle.std.specs.List.{Contains}
use Rattle.vd_bits.specs.Lanes.{lane16, lane32}
use Rattle.vd_model.specs.declared.chain.Piece.{Piece}
use Rattle.vd_model.specs.Chains.{needs}
use Rattle.vd_words.specs.declared.access.Access.{Access}
use Rattle.vd_words.specs.declared.access.Access.TheVariants.{Load, Store}
use Rattle.vd_words.specs.declared.access.Op.{Op}
use Rattle.vd_words.specs.declared.access.Op.TheVariants as op
use Rattle.vd_words.specs.Own.{SideModel}
use Rattle.vd_ring.specs.declared.act.DriverAct.{DriverAct}
use Rattle.vd_ring.specs.declared.act.DriverAct.TheVariants as act
use Rattle.vd_ring.specs.declared.frame.Frame.{Frame}
use Rattle.vd_ring.specs.declared.frame.Put.{Put}
use Rattle.vd_ring.specs.declared.frame.Used.{Used}
use Rattle.vd_ring.specs.declared.driver.DriverDone.{DriverDone}
use Rattle.vd_ring.specs.declared.driver.DriverDone.TheVariants.{Offer, Collect, StoreCommand, LoadAck}
use Rattle.vd_ring.specs.declared.driver.DriverNow.{DriverNow}
use Rattle.vd_ring.specs.declared.driver.DriverNow.TheVariants.{Idle, Offering, Entered, Collecting, Checking, Ringing, Arming, Disarming}
use Rattle.vd_ring.specs.declared.driver.DriverView.{DriverView}
use Rattle.vd_ring.specs.Frames.{Fits, borrowed, limit}
use Rattle.vd_ring.specs.Batches.{MayReturn}
use Rattle.vd_ring.specs.History.{offers, collects, free, head, next_head, open_at, collected, last_used, chain}
use Rattle.vd_ring.specs.Control.{IsControlChain, StoresCommand, LoadsAck, last_collected}
use Rattle.vd_split_ring.specs.SplitWords.{IsDrivers, used_from, commands_from, kick_at, call_at, driver_event_lane, device_event_word, device_event_lane, armed_value, wants, bell_word, command_word, ack_word, id_word, len_word, lane_word, with_lane, entry_lane, shows, shown_from, ShowsIndex, put, words_of, spelling, staged_chain}

-- ---- the conditions

-- the chain may be offered now
pub record CanOffer (f : Frame) (o : List DriverDone) (c : List Piece) : Type 0 where
  pub fits : Fits f c
  -- there are as many free places as it needs
  pub room : needs f.features c ≤ length (free f o)
  pub limited : length (offers o) < limit f
  -- on a control ring it is a control chain of the next head
  pub control : f.control ≡ true → IsControlChain (command_word f (next_head f o)) (ack_word f (next_head f o)) c

-- the stores that offer the chain, up to the ring entry: its table's, then its descriptors'
abbrev pub plan : Frame → List DriverDone → List Piece → List Put
plan f o c = spelling f (take (borrowed f c) (free f o)) c

-- these are the first stores of a chain that may be offered
pub record Begins (f : Frame) (o : List DriverDone) (puts : List Put) : Type 0 where
  pub chain : List Piece
  pub can : CanOffer f o chain
  pub first : puts ≡ take (length puts) (plan f o chain)

-- the store of the ring entry, after all of a chain's
pub record Enters (f : Frame) (o : List DriverDone) (stored : List ℕ) (puts : List Put) (p x : ℕ) : Type 0 where
  pub chain : List Piece
  pub can : CanOffer f o chain
  pub whole : puts ≡ plan f o chain
  pub place : p ≡ lane_word f (entry_lane f (length (offers o)))
  pub word : x ≡ with_lane f stored (entry_lane f (length (offers o))) (next_head f o)

-- the store of the index, by which the chain is offered
pub record Publishes (f : Frame) (o : List DriverDone) (stored : List ℕ) (p x : ℕ) : Type 0 where
  pub place : p ≡ lane_word f 1
  pub word : x ≡ with_lane f stored 1 ((length (offers o) + 1) % 65536)

-- it is armed at some count
abbrev pub IsArmed : Option ℕ → Type 0
IsArmed armed = (s : ℕ) × (armed ≡ Some s)

-- the store of the bell: how many were stored, this one included
pub record StoresKick (f : Frame) (bells p x : ℕ) : Type 0 where
  pub place : p ≡ kick_at f
  pub word : x ≡ bell_word (bells + 1)

-- the store of the event word by which the driver waits for the entry of count s
pub record StoresUsedEvent (f : Frame) (stored : List ℕ) (s p x : ℕ) : Type 0 where
  pub place : p ≡ lane_word f (driver_event_lane f)
  pub word : x ≡ with_lane f stored (driver_event_lane f) (armed_value f s)

-- the disarming store: without EVENT_IDX it sets NO_INTERRUPT
pub record StoresNoInterrupt (f : Frame) (stored : List ℕ) (p x : ℕ) : Type 0 where
  pub flagged : f.features.event_idx ≡ false
  pub place : p ≡ lane_word f 0
  pub word : x ≡ with_lane f stored 0 1

-- with EVENT_IDX a side is disarmed by a load of its bell, since no store does it
pub record LoadsCall (f : Frame) (p : ℕ) : Type 0 where
  pub indexed : f.features.event_idx ≡ true
  pub place : p ≡ call_at f

-- ---- next

abbrev pub DriverNextAt : DriverNow → DriverView → Op → Access → Type 0
DriverNextAt Idle v op.Offer (Store p x) = (v.armed ≡ None) × Begins v.frame v.done (put p x ∷ [])
DriverNextAt (Offering puts) v op.Offer (Store p x) = Begins v.frame v.done (puts ++ put p x ∷ []) ⊎ Enters v.frame v.done v.stored puts p x
DriverNextAt (Entered puts) v op.Offer (Store p x) = Publishes v.frame v.done v.stored p x
DriverNextAt (Checking old new) v op.Offer (Load p) = p ≡ device_event_word v.frame
DriverNextAt (Ringing old new) v op.Offer (Store p x) = StoresKick v.frame v.bells p x
DriverNextAt Idle v op.Collect (Load p) = (v.armed ≡ None) × (p ≡ used_from v.frame)
DriverNextAt (Collecting (r ∷ [])) v op.Collect (Load p) = p ≡ id_word v.frame (length (collects v.done))
DriverNextAt (Collecting (r ∷ w ∷ [])) v op.Collect (Load p) = p ≡ len_word v.frame (length (collects v.done))
DriverNextAt Idle v op.Arm (Store p x) = (v.armed ≡ None) × StoresUsedEvent v.frame v.stored (length (collects v.done)) p x
DriverNextAt Arming v op.Arm (Load p) = p ≡ used_from v.frame
DriverNextAt (Disarming o) v op.Arm (Store p x) = (o ≡ op.Arm) × StoresNoInterrupt v.frame v.stored p x
DriverNextAt Idle v op.Hear (Load p) = IsArmed v.armed × (p ≡ call_at v.frame)
DriverNextAt (Disarming o) v op.Hear (Store p x) = (o ≡ op.Hear) × StoresNoInterrupt v.frame v.stored p x
DriverNextAt Idle v op.Disarm (Store p x) = IsArmed v.armed × StoresNoInterrupt v.frame v.stored p x
DriverNextAt Idle v op.Disarm (Load p) = IsArmed v.armed × LoadsCall v.frame p
DriverNextAt Idle v op.Control (Store p x) = StoresCommand v.frame (command_word v.frame) v.done p
DriverNextAt Idle v op.Control (Load p) = LoadsAck v.frame (ack_word v.frame) v.done p
DriverNextAt _ _ _ _ = ⊥

-- the access may be made now
abbrev pub DriverNext : DriverView → Op → Access → Type 0
DriverNext v op a = DriverNextAt v.doing v op a

-- ---- after

-- the operation after the publishing store of this range: the event word is loaded next
abbrev pub driver_published : ℕ → ℕ → DriverNow
driver_published old new = Checking old new

abbrev pub stores : DriverView → ℕ → ℕ → DriverNow → DriverView
stores v p x doing = record v { stored = slice_set v.stored p x; doing = doing }

-- the operation after a store of an offer: the ring entry's, or another of the chain's
abbrev pub staged : DriverView → List Put → ℕ → ℕ → DriverNow
staged v puts p x = if p == lane_word v.frame (entry_lane v.frame (length (offers v.done))) then Entered puts else Offering
    (puts ++ put p x ∷ [])

abbrev pub driver_offers : DriverView → List Put → ℕ → ℕ → DriverView
driver_offers v puts p x = record v {
  done = Offer (staged_chain v.frame (words_of puts)) ∷ v.done;
  stored = slice_set v.stored p x;
  doing = driver_published (length (offers v.done)) (length (offers v.done) + 1);
}

-- r is the word with the device's event word
abbrev pub driver_checks : DriverView → ℕ → ℕ → ℕ → DriverView
driver_checks v old new r = record v {
  doing =
      if wants v.frame old new (lane16 r (device_event_lane v.frame)) then Ringing old new else Idle;
}

abbrev pub driver_rings : DriverView → ℕ → ℕ → DriverView
driver_rings v p x = record v { stored = slice_set v.stored p x; bells = v.bells + 1; doing = Idle }

abbrev pub driver_looks : DriverView → ℕ → DriverView
driver_looks v r =
    if shows r (length (collects v.done))
    then record v { seen = shown_from r (length (collects v.done)); shown = false }
    else record v { seen = shown_from r (length (collects v.done)); shown = true; doing = Collecting (r ∷ []) }

-- r is the index word, w the word with the id, x the word with the length
abbrev pub driver_collects : DriverView → ℕ → ℕ → ℕ → DriverView
driver_collects v r w x =
    record v {
      done = Collect (collected v.frame v.done (lane32 w 1) (lane32 x 0)) ∷ v.done;
      shown =
          not (shows r (length (collects v.done ++ collected v.frame v.done (lane32 w 1) (lane32 x 0))));
      doing = Idle;
    }

abbrev pub driver_arms : DriverView → ℕ → ℕ → DriverView
driver_arms v p x = record v { stored = slice_set v.stored p x; armed = Some (length (collects v.done)); doing = Arming }

-- the operation of a side that is no longer armed: without EVENT_IDX the disarming store is next
abbrev pub driver_wakes : Frame → Op → DriverNow
driver_wakes f o = if f.features.event_idx then Idle else Disarming o

-- the second look of an arming, at the index word r
abbrev pub driver_looks_again : DriverView → ℕ → DriverView
driver_looks_again v r =
    if shows r (length (collects v.done))
    then record v { seen = shown_from r (length (collects v.done)); shown = false; doing = Idle }
    else record v { seen = shown_from r (length (collects v.done)); shown = true; armed = None; doing = driver_wakes v.frame op.Arm }

-- r is the bell loaded
abbrev pub driver_hears : DriverView → ℕ → DriverView
driver_hears v r = if r == v.heard then v else record v { heard = r; armed = None; doing = driver_wakes v.frame op.Hear }

-- the disarming store
abbrev pub driver_disarms : DriverView → ℕ → ℕ → DriverView
driver_disarms v p x = record v { stored = slice_set v.stored p x; armed = None; doing = Idle }

abbrev pub driver_commands : DriverView → ℕ → ℕ → DriverView
driver_commands v p x =
    record v {
      done = StoreCommand ((p - commands_from v.frame) / 2) ((p - commands_from v.frame) % 2) x ∷ v.done;
      stored =
          slice_set v.stored p x;
    }

abbrev pub driver_acks : DriverView → ℕ → DriverView
driver_acks v r = record v { done = LoadAck (unwrap_or (last_collected v.done) 0) r ∷ v.done }

abbrev pub driver_after_at : DriverNow → DriverView → Op → Access → ℕ → DriverView
driver_after_at Idle v op.Offer (Store p x) r = stores v p x (Offering (put p x ∷ []))
driver_after_at (Offering puts) v op.Offer (Store p x) r = stores v p x (staged v puts p x)
driver_after_at (Entered puts) v op.Offer (Store p x) r = driver_offers v puts p x
driver_after_at (Checking old new) v op.Offer (Load p) r = driver_checks v old new r
driver_after_at (Ringing old new) v op.Offer (Store p x) r = driver_rings v p x
driver_after_at Idle v op.Collect (Load p) r = driver_looks v r
driver_after_at (Collecting (r ∷ [])) v op.Collect (Load p) w = record v { doing = Collecting (r ∷ w ∷ []) }
driver_after_at (Collecting (r ∷ w ∷ [])) v op.Collect (Load p) x = driver_collects v r w x
driver_after_at Idle v op.Arm (Store p x) r = driver_arms v p x
driver_after_at Arming v op.Arm (Load p) r = driver_looks_again v r
driver_after_at (Disarming o) v op.Arm (Store p x) r = driver_disarms v p x
driver_after_at Idle v op.Hear (Load p) r = driver_hears v r
driver_after_at (Disarming o) v op.Hear (Store p x) r = driver_disarms v p x
driver_after_at Idle v op.Disarm (Store p x) r = record v { stored = slice_set v.stored p x; armed = None }
driver_after_at Idle v op.Disarm (Load p) r = record v { armed = None }
driver_after_at Idle v op.Control (Store p x) r = driver_commands v p x
driver_after_at Idle v op.Control (Load p) r = driver_acks v r
driver_after_at _ v _ _ _ = v

-- the view after an access with this answer
abbrev pub driver_after : DriverView → Op → Access → ℕ → DriverView
driver_after v op a r = driver_after_at v.doing v op a r

-- ---- tells

-- a used id is the head of a chain offered and not collected, whose entry may come next
pub record NamesOpen (f : Frame) (o : List DriverDone) (id : ℕ) : Type 0 where
  pub number : ℕ
  pub is_open : Contains (open_at o) number
  pub is_head : head f o number ≡ id
  pub next : MayReturn f (chain o) (length (collects o)) number

-- a look loads an index from the count collected to that of the chains offered; where the last one showed an entry that was not
-- collected since, this one shows one too
abbrev pub ShowsGives : DriverView → ℕ → Type 0
ShowsGives v r =
    ShowsIndex r v.seen (length (collects v.done)) (length (offers v.done))
    × (v.shown ≡ true → shows r (length (collects v.done)) ≡ false)

abbrev pub DriverTellsAt : DriverNow → DriverView → Op → Access → ℕ → Type 0
DriverTellsAt Idle v op.Collect (Load p) r = ShowsGives v r
DriverTellsAt Arming v op.Arm (Load p) r = ShowsGives v r
DriverTellsAt (Collecting (r ∷ [])) v op.Collect (Load p) w = NamesOpen v.frame v.done (lane32 w 1)
DriverTellsAt (Collecting (r ∷ w ∷ [])) v op.Collect (Load p) x = NamesOpen v.frame v.done (lane32 w 1)
DriverTellsAt _ _ _ _ _ = Unit {0}

-- a load of a word that only the driver stores answers what it stored there last
abbrev pub DriverKnows : DriverView → Access → ℕ → Type 0
DriverKnows v (Load p) r = IsDrivers v.frame p → r ≡ slice_index v.stored p
DriverKnows v (Store p x) r = Unit {0}

-- what an answer tells, in terms of the driver's view alone
abbrev pub DriverTells : DriverView → Op → Access → ℕ → Type 0
DriverTells v op a r = DriverKnows v a r × DriverTellsAt v.doing v op a r

-- ---- the step's answer

-- the index that a look loads shows a used entry that is not collected
abbrev pub driver_shows : DriverView → ℕ → Bool
driver_shows v r = not (shows r (length (collects v.done)))

abbrev pub collect_act : DriverView → ℕ → ℕ → DriverAct
collect_act v w x = let u : Used = last_used (collected v.frame v.done (lane32 w 1) (lane32 x 0)) in
    act.Collected u.number u.len (lane32 w 1)

-- without EVENT_IDX a side wakes with its disarming store
abbrev pub woken_act : Frame → DriverAct
woken_act f = if f.features.event_idx then act.Awake else act.Moved

abbrev pub driver_act_at : DriverNow → DriverView → Op → Access → ℕ → DriverAct
driver_act_at (Entered puts) v op.Offer (Store p x) r = act.Offered (length (offers v.done))
driver_act_at Idle v op.Collect (Load p) r = if shows r (length (collects v.done)) then act.Nothing else act.Moved
driver_act_at (Collecting (r ∷ w ∷ [])) v op.Collect (Load p) x = collect_act v w x
driver_act_at Arming v op.Arm (Load p) r = if shows r (length (collects v.done)) then act.Armed else woken_act v.frame
driver_act_at (Disarming o) v op.Arm (Store p x) r = act.Awake
driver_act_at Idle v op.Hear (Load p) r = if r == v.heard then act.Asleep else woken_act v.frame
driver_act_at (Disarming o) v op.Hear (Store p x) r = act.Awake
driver_act_at Idle v op.Disarm (Store p x) r = act.Awake
driver_act_at Idle v op.Disarm (Load p) r = act.Awake
driver_act_at _ v _ _ _ = act.Moved

-- what the end's step answers, by the view before it
abbrev pub driver_act : DriverView → Op → Access → ℕ → DriverAct
driver_act v op a r = driver_act_at v.doing v op a r

abbrev pub driver_side : SideModel DriverView
driver_side = record { next = DriverNext; after = driver_after; tells = DriverTells }
