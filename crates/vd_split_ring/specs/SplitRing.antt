-- The ring invariant of a split ring: what always holds of its words and of what its two sides know.
use Rattle.std.specs.Prelude.{◌≡◌, ℕ, ◌+◌, ◌%◌, ◌<◌, ◌≤◌, true, false, List, [], ◌∷◌, length, take, Option, Some, None, slice_index}
use Rattle.std.specs.List.{Contains}
use Rattle.vd_bits.specs.Lanes.{lane16, lane32}
use Rattle.vd_model.specs.declared.chain.Piece.{Piece}
use Rattle.vd_words.specs.declared.access.Op.{Op}
use Rattle.vd_words.specs.declared.access.Op.TheVariants as op
use Rattle.vd_ring.specs.declared.frame.Frame.{Frame}
use Rattle.vd_ring.specs.declared.frame.Put.{Put}
use Rattle.vd_ring.specs.declared.frame.Used.{Used}
use Rattle.vd_ring.specs.declared.driver.DriverDone.{DriverDone}
use Rattle.vd_ring.specs.declared.driver.DriverNow.{DriverNow}
use Rattle.vd_ring.specs.declared.driver.DriverNow.TheVariants as driver
use Rattle.vd_ring.specs.declared.driver.DriverView.{DriverView}
use Rattle.vd_ring.specs.declared.device.DeviceDone.{DeviceDone}
use Rattle.vd_ring.specs.declared.device.DeviceNow.{DeviceNow}
use Rattle.vd_ring.specs.declared.device.DeviceNow.TheVariants as device
use Rattle.vd_ring.specs.declared.device.DeviceView.{DeviceView}
use Rattle.vd_ring.specs.Batches.{MayReturn}
use Rattle.vd_ring.specs.History.{offers, collects, takes, gives, taken_head, running, open_at, places, head, next_head, chain, chain_at, IsWhole}
use Rattle.vd_ring.specs.Control.{Commands, Acks}
use Rattle.vd_ring.specs.Places.{Places}
use Rattle.vd_ring.specs.Lists.{Lists, Rested, entry_at}
use Rattle.vd_ring.specs.Signals.{Publisher, Listener, Signals}
use Rattle.vd_ring.specs.Sleep.{driver_owed, device_owed, driver_idle, device_idle, gives_made}
use Rattle.vd_split_ring.specs.SplitWords.{IsLawful, IsDrivers, IsDevices, width, command_word, ack_word, kick_at, call_at, used_from, lane_at, entry_lane, event_lane, used_index, used_id, used_len, words_of, Stand, spelling, reading}
use Rattle.vd_split_ring.specs.SplitDriver.{CanOffer, Begins, plan}
use Rattle.vd_split_ring.specs.SplitDevice.{loaded_head}

-- ---- the words

-- each word is what its one writer last stored in it
pub record Words (f : Frame) (ws by_driver by_device : List ℕ) : Type 0 where
  -- the ring and both images have as many words as its areas, control words and bells counted
  pub wide : (length ws ≡ width f) × (length by_driver ≡ width f) × (length by_device ≡ width f)
  pub drivers : (i : ℕ) → IsDrivers f i → slice_index ws i ≡ slice_index by_driver i
  pub devices : (i : ℕ) → IsDevices f i → slice_index ws i ≡ slice_index by_device i

-- what the driver's words say of its chains
pub record DriverWords (f : Frame) (o : List DriverDone) (stored : List ℕ) : Type 0 where
  -- the available index is the count of chains offered
  pub index : lane_at f stored 1 ≡ length (offers o) % 65536
  -- the ring entry of each chain that the driver may still count on is its head
  pub entries : (k : ℕ) → length (collects o) ≤ k → k < length (offers o) → lane_at f stored (entry_lane f k) ≡ head f o k
  -- each chain offered and not collected is spelled at its places
  pub spelled : (k : ℕ) → Contains (open_at o) k → Stand stored (spelling f (places f o k) (chain o k))

-- what the device's words say of what it gave
pub record DeviceWords (f : Frame) (o : List DriverDone) (s : List DeviceDone) (stored : List ℕ) : Type 0 where
  -- the used index is the count of entries given
  pub index : used_index f stored ≡ length (gives s) % 65536
  -- where a give begins that is not collected, its last chain's head and length stand
  pub ids : (j : ℕ) (u : Used) → length (collects o) ≤ j → entry_at s j ≡ Some u → used_id f stored j ≡ head f o u.number
  pub lens : (j : ℕ) (u : Used) → length (collects o) ≤ j → entry_at s j ≡ Some u → used_len f stored j ≡ u.len

-- the driver's flags, used_event and bell, armed or not: with EVENT_IDX the flags stay 0, without it used_event does; where it is
-- armed, the event word stands at its count (VIRTIO 1.2, 2.7.7 and 2.7.10)
pub record DriverSignals (f : Frame) (armed : Option ℕ) (bells : ℕ) (stored : List ℕ) : Type 0 where
  pub no_flags : f.features.event_idx ≡ true → lane_at f stored 0 ≡ 0
  pub no_event : f.features.event_idx ≡ false → lane_at f stored (event_lane f) ≡ 0
  -- bit 0 alone is ever set
  pub bit : lane_at f stored 0 ≤ 1
  pub flags : (s : ℕ) → armed ≡ Some s → f.features.event_idx ≡ false → lane_at f stored 0 ≡ 0
  pub event : (s : ℕ) → armed ≡ Some s → f.features.event_idx ≡ true → lane_at f stored (event_lane f) ≡ s % 65536
  -- the bell is the number of bells stored
  pub bell : slice_index stored (kick_at f) ≡ bells % 18446744073709551616

-- the device's flags, avail_event and bell
pub record DeviceSignals (f : Frame) (armed : Option ℕ) (bells : ℕ) (stored : List ℕ) : Type 0 where
  pub no_flags : f.features.event_idx ≡ true → lane16 (slice_index stored (used_from f)) 0 ≡ 0
  pub no_event : f.features.event_idx ≡ false → lane16 (slice_index stored (used_from f + f.size)) 2 ≡ 0
  pub bit : lane16 (slice_index stored (used_from f)) 0 ≤ 1
  pub flags : (s : ℕ) → armed ≡ Some s → f.features.event_idx ≡ false → lane16 (slice_index stored (used_from f)) 0 ≡ 0
  pub event : (s : ℕ) → armed ≡ Some s → f.features.event_idx ≡ true → lane16 (slice_index stored (used_from f + f.size)) 2 ≡ s % 65536
  pub bell : slice_index stored (call_at f) ≡ bells % 18446744073709551616

-- ---- the operations in progress

-- the stores so far are the first of a chain that may be offered, and they stand
pub record Stages (f : Frame) (o : List DriverDone) (stored : List ℕ) (puts : List Put) : Type 0 where
  pub begins : Begins f o puts
  pub stand : Stand stored puts

-- they are all of a chain's, and the next ring entry is its head
pub record HasEntered (f : Frame) (o : List DriverDone) (stored : List ℕ) (puts : List Put) : Type 0 where
  pub chain : List Piece
  pub can : CanOffer f o chain
  pub whole : puts ≡ plan f o chain
  pub stand : Stand stored puts
  pub entry : lane_at f stored (entry_lane f (length (offers o))) ≡ next_head f o

-- the index loaded in this collect or take is the one seen last, and shows a further entry or chain
pub record HasSeen (r seen low : ℕ) : Type 0 where
  pub lane : lane16 r 1 ≡ seen % 65536
  pub more : low < seen

-- the loaded word has the id of the used entry that begins where the collected ones end
pub record Finds (f : Frame) (o : List DriverDone) (s : List DeviceDone) (w : ℕ) : Type 0 where
  pub used : Used
  pub begins : entry_at s (length (collects o)) ≡ Some used
  pub is_id : lane32 w 1 ≡ head f o used.number

-- what holds of the driver's operation in progress
abbrev pub DriverDoing : DriverNow → Frame → List DriverDone → List ℕ → ℕ → List DeviceDone → Type 0
DriverDoing driver.Idle f o stored seen s = Unit {0}
DriverDoing (driver.Offering puts) f o stored seen s = Stages f o stored puts
DriverDoing (driver.Entered puts) f o stored seen s = HasEntered f o stored puts
DriverDoing (driver.Collecting (r ∷ [])) f o stored seen s = HasSeen r seen (length (collects o))
DriverDoing (driver.Collecting (r ∷ w ∷ [])) f o stored seen s = HasSeen r seen (length (collects o)) × Finds f o s w
DriverDoing (driver.Collecting _) f o stored seen s = ⊥
DriverDoing _ f o stored seen s = Unit {0}

-- w has the head of chain number k of what was offered, and the words loaded after it are the first of that chain's, not all
pub record Loads (f : Frame) (o : List DriverDone) (k w : ℕ) (ws : List ℕ) : Type 0 where
  pub is_head : loaded_head f k w ≡ head f o k
  pub words : ws ≡ words_of (take (length ws) (reading f (places f o k) (chain o k)))
  pub left : length ws < length (reading f (places f o k) (chain o k))

-- the stored id is the head of a chain taken and not given, and it stands in the next used entry
pub record Gives (f : Frame) (s : List DeviceDone) (stored : List ℕ) (a : ℕ) : Type 0 where
  pub number : ℕ
  pub runs : Contains (running s) number
  pub next : MayReturn f (chain_at (takes s)) (length (gives s)) number
  pub is_id : lane32 a 1 ≡ taken_head s number
  pub stands : used_id f stored (length (gives s)) ≡ lane32 a 1

-- what holds of the device's operation in progress; a length stored stands too
abbrev pub DeviceDoing : DeviceNow → Frame → List DriverDone → List DeviceDone → List ℕ → ℕ → Type 0
DeviceDoing device.Idle f o s stored seen = Unit {0}
DeviceDoing (device.Taking (r ∷ [])) f o s stored seen = HasSeen r seen (length (takes s))
DeviceDoing (device.Taking (r ∷ w ∷ ws)) f o s stored seen = HasSeen r seen (length (takes s)) × Loads f o (length (takes s)) w ws
DeviceDoing (device.Giving (a ∷ [])) f o s stored seen = Gives f s stored a
DeviceDoing (device.Giving (a ∷ b ∷ [])) f o s stored seen = Gives f s stored a × (used_len f stored (length (gives s)) ≡ lane32 b 0)
DeviceDoing (device.Taking _) f o s stored seen = ⊥
DeviceDoing (device.Giving _) f o s stored seen = ⊥
DeviceDoing device.Resting f o s stored seen = IsWhole s
DeviceDoing _ f o s stored seen = Unit {0}

-- ---- signals

-- the driver as the one that publishes chains, and as the one that waits for used entries; the device as the one that waits for
-- chains, and as the one that publishes used entries. Positions are counts
abbrev pub chains_out : DriverView → Publisher
chains_out d = record { published = length (offers d.done); owed = driver_owed d.doing; bells = d.bells; ranges = length (offers d.done) }

abbrev pub chains_in : DeviceView → Listener
chains_in e = record { at = length (takes e.done); idle = device_idle e.doing; armed = e.armed; heard = e.heard }

abbrev pub entries_out : DeviceView → Publisher
entries_out e = record { published = length (gives e.done); owed = device_owed e.doing; bells = e.bells; ranges = gives_made e.done }

abbrev pub entries_in : DriverView → Listener
entries_in d = record { at = length (collects d.done); idle = driver_idle d.doing; armed = d.armed; heard = d.heard }

-- a range that may be checked: not empty, and no longer than the ring
pub record IsRange (f : Frame) (old new : ℕ) : Type 0 where
  pub some : old < new
  pub near : new ≤ old + f.size

-- a disarming store is next only without EVENT_IDX, after a look of an arming or after a bell that was heard
abbrev pub Woke : Op → ℕ → Type 0
Woke op.Arm heard = Unit {0}
Woke op.Hear heard = 1 ≤ heard
Woke _ heard = ⊥

-- where a side that has come to count `at` may be armed: while idle; between its arming store and its second look it is, at its
-- count; in all other operations it isn't
abbrev pub DriverArmed : DriverNow → Frame → Option ℕ → ℕ → ℕ → Type 0
DriverArmed driver.Idle f armed at heard = Unit {0}
DriverArmed driver.Arming f armed at heard = armed ≡ Some at
DriverArmed (driver.Disarming o) f armed at heard = (armed ≡ None) × (f.features.event_idx ≡ false) × Woke o heard
DriverArmed (driver.Checking old new) f armed at heard = (armed ≡ None) × IsRange f old new
DriverArmed _ f armed at heard = armed ≡ None

abbrev pub DeviceArmed : DeviceNow → Frame → Option ℕ → ℕ → ℕ → Type 0
DeviceArmed device.Idle f armed at heard = Unit {0}
DeviceArmed device.Arming f armed at heard = armed ≡ Some at
DeviceArmed (device.Disarming o) f armed at heard = (armed ≡ None) × (f.features.event_idx ≡ false) × Woke o heard
DeviceArmed (device.Checking old new) f armed at heard = (armed ≡ None) × IsRange f old new
DeviceArmed _ f armed at heard = armed ≡ None

-- ---- the invariant

-- so many chains given end where a give ends: of any that follow them, a used entry begins there
abbrev pub EndsGive : List DeviceDone → ℕ → Type 0
EndsGive s n = n < length (gives s) → (u : Used) × (entry_at s n ≡ Some u)

pub record Ring (ws : List ℕ) (d : DriverView) (e : DeviceView) : Type 0 where
  -- both sides name the same ring, size, features and bounds
  pub same : e.frame ≡ d.frame
  -- it is a split ring of 1 to 32,768 places
  pub lawful : IsLawful d.frame
  -- each word is what its one writer last stored in it
  pub words : Words d.frame ws d.stored e.stored
  -- each place is free or held by one open chain; no chain was offered past the limit, the size or the bounds
  pub places : Places d.frame d.done
  -- the driver's index, entries and descriptors are those of its chains
  pub driver_words : DriverWords d.frame d.done d.stored
  -- taken is a prefix of offered, and collected of given; each chain is given once
  pub lists : Lists d.frame d.done e.done
  -- the device's index and entries are those of what it gave
  pub device_words : DeviceWords d.frame d.done e.done e.stored
  -- flags, event words and bells are those of where each side is armed and of how many bells it stored
  pub driver_signals : DriverSignals d.frame d.armed d.bells d.stored
  pub device_signals : DeviceSignals d.frame e.armed e.bells e.stored
  -- command and ack words are those stored for each chain, and each side loaded what the other stored
  pub commands : Commands d.frame (command_word d.frame) (ack_word d.frame) d.done d.stored
  pub acks : Acks d.frame (ack_word d.frame) d.done e.done e.stored
  -- what each side has staged stands where no other may look, and what it has loaded is what the other published
  pub driver_doing : DriverDoing d.doing d.frame d.done d.stored d.seen e.done
  pub device_doing : DeviceDoing e.doing d.frame d.done e.done e.stored e.seen
  -- a sleeping side without a signal has nothing before it, or the other side owes it one: of the chains, and of the used entries
  pub kicks : Signals (chains_out d) (chains_in e)
  pub calls : Signals (entries_out e) (entries_in d)
  -- in which operations each side is armed
  pub driver_armed : DriverArmed d.doing d.frame d.armed (length (collects d.done)) d.heard
  pub device_armed : DeviceArmed e.doing d.frame e.armed (length (takes e.done)) e.heard
  -- an index that a side has seen was published
  pub driver_seen : d.seen ≤ length (gives e.done)
  pub device_seen : e.seen ≤ length (offers d.done)
  -- and a used index ends where a give ends, so that no part of an entry's chains is seen
  pub driver_cut : EndsGive e.done d.seen
  -- where its last look showed more than it has collected or taken since, that look's index is past it
  pub driver_shown : d.shown ≡ true → length (collects d.done) < d.seen
  pub device_shown : e.shown ≡ true → length (takes e.done) < e.seen
  -- a device whose last act is a rest has given all that it has taken
  pub rested : Rested e.done
