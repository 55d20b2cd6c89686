-- The ring invariant of a packed ring: what always holds of its words and of what its two sides know.
use Rattle.std.specs.Prelude.{◌≡◌, ◌≢◌, ◌⊎◌, ℕ, ◌+◌, ◌*◌, ◌%◌, ◌<◌, ◌≤◌, true, false, List, [], ◌∷◌, length, take, Option, Some, None, slice_index}
use Rattle.std.specs.List.{All, Contains}
use Rattle.vd_words.specs.declared.access.Op.{Op}
use Rattle.vd_words.specs.declared.access.Op.TheVariants as op
use Rattle.vd_ring.specs.declared.frame.Frame.{Frame}
use Rattle.vd_ring.specs.declared.frame.Put.{Put}
use Rattle.vd_ring.specs.declared.driver.DriverDone.{DriverDone}
use Rattle.vd_ring.specs.declared.driver.DriverNow.{DriverNow}
use Rattle.vd_ring.specs.declared.driver.DriverNow.TheVariants as driver
use Rattle.vd_ring.specs.declared.driver.DriverView.{DriverView}
use Rattle.vd_ring.specs.declared.device.DeviceDone.{DeviceDone}
use Rattle.vd_ring.specs.declared.device.DeviceNow.{DeviceNow}
use Rattle.vd_ring.specs.declared.device.DeviceNow.TheVariants as device
use Rattle.vd_ring.specs.declared.device.DeviceView.{DeviceView}
use Rattle.vd_ring.specs.History.{offers, takes, gives, open_at, head, chain, IsWhole}
use Rattle.vd_ring.specs.Control.{Commands, Acks}
use Rattle.vd_ring.specs.Places.{Places}
use Rattle.vd_ring.specs.Lists.{Lists, Rested}
use Rattle.vd_ring.specs.Signals.{Publisher, Listener, Signals}
use Rattle.vd_ring.specs.Sleep.{driver_owed, device_owed, driver_idle, device_idle, gives_made}
use Rattle.vd_packed_ring.specs.PackedWords.{IsLawful, IsDrivers, IsDevices, width, command_word, ack_word, driver_event, device_event, kick_at, call_at, event_word, words_of, Stand}
use Rattle.vd_packed_ring.specs.PackedChains.{table, reading}
use Rattle.vd_packed_ring.specs.PackedSignals.{disabled, bell_word, IsRange}
use Rattle.vd_packed_ring.specs.PackedPositions.{offer_position, collect_position, take_position, give_position, made_at, second_at}
use Rattle.vd_packed_ring.specs.PackedDriver.{Begins}

-- ---- the words

-- each word with one writer is what that side last stored in it
pub record Words (f : Frame) (ws driven served : List ℕ) : Type 0 where
  pub wide : (length ws ≡ width f) × (length driven ≡ width f) × (length served ≡ width f)
  pub drivers : (i : ℕ) → IsDrivers f i → slice_index ws i ≡ slice_index driven i
  pub devices : (i : ℕ) → IsDevices f i → slice_index ws i ≡ slice_index served i

-- no store that an offer in progress has made is in this word
abbrev pub IsClear : List Put → ℕ → Type 0
IsClear puts i = All (λ s. s.place ≢ i) puts

-- one word of each place, by `half` 0 its address and by 1 its second word: it is what belongs to the greatest position with that place
-- below `top`, and 0 where there is none; but for the words that an offer in progress has stored
pub record Row (n half : ℕ) (ws : List ℕ) (top : ℕ) (puts : List Put) (cur : ℕ → ℕ) : Type 0 where
  pub kept : (q : ℕ) → q < top → top ≤ q + n → IsClear puts (2 * (q % n) + half) → slice_index ws (2 * (q % n) + half) ≡ cur q
  pub fresh : (p : ℕ) → p < n → top ≤ p → IsClear puts (2 * p + half) → slice_index ws (2 * p + half) ≡ 0

-- a side's event word and bell, armed or not: without EVENT_IDX the word is ENABLE 0 or DISABLE, with it 0 or one that names a
-- position; where the side is armed, it enables or names that position (VIRTIO 1.2, 2.8.10)
pub record SideSignals (f : Frame) (event_at bell_at : ℕ) (armed : Option ℕ) (bells : ℕ) (stored : List ℕ) : Type 0 where
  pub flags : f.features.event_idx ≡ false → (slice_index stored event_at ≡ 0) ⊎ (slice_index stored event_at ≡ disabled)
  pub names : f.features.event_idx ≡ true
      → (slice_index stored event_at ≡ 0) ⊎ ((q : ℕ) × (slice_index stored event_at ≡ event_word f.size q))
  pub enable : (q : ℕ) → armed ≡ Some q → f.features.event_idx ≡ false → slice_index stored event_at ≡ 0
  pub event : (q : ℕ) → armed ≡ Some q → f.features.event_idx ≡ true → slice_index stored event_at ≡ event_word f.size q
  -- the bell is the number of bells stored
  pub bell : slice_index stored bell_at ≡ bell_word bells

-- ---- the operations in progress

-- the stores that an offer in progress has made
abbrev pub puts_of : DriverNow → List Put
puts_of (driver.Offering puts) = puts
puts_of _ = []

-- they are the first of a chain that may be offered, and they stand
pub record Stages (f : Frame) (o : List DriverDone) (ws : List ℕ) (puts : List Put) : Type 0 where
  pub begins : Begins f o puts
  pub stand : Stand ws puts

abbrev pub DriverDoing : DriverNow → Frame → List DriverDone → List ℕ → Type 0
DriverDoing driver.Idle f o ws = Unit {0}
DriverDoing (driver.Offering puts) f o ws = Stages f o ws puts
DriverDoing (driver.Entered _) f o ws = ⊥
DriverDoing (driver.Collecting _) f o ws = ⊥
DriverDoing _ f o ws = Unit {0}

-- the loaded words are the first of chain number k of what was offered, which stands at position q, and not all
pub record Loads (f : Frame) (o : List DriverDone) (k q : ℕ) (ws : List ℕ) : Type 0 where
  pub more : k < length (offers o)
  pub words : ws ≡ words_of (take (length ws) (reading f q (head f o k) (chain o k)))
  pub left : length ws < length (reading f q (head f o k) (chain o k))

abbrev pub DeviceDoing : DeviceNow → Frame → List DriverDone → List DeviceDone → Type 0
DeviceDoing device.Idle f o s = Unit {0}
DeviceDoing (device.Taking (w ∷ ws)) f o s = Loads f o (length (takes s)) (take_position f s) (w ∷ ws)
DeviceDoing (device.Taking _) f o s = ⊥
DeviceDoing (device.Giving _) f o s = ⊥
DeviceDoing device.Resting f o s = IsWhole s
DeviceDoing _ f o s = Unit {0}

-- ---- signals

-- the driver as the one that publishes chains, and as the one that waits for used entries; the device as the one that waits for
-- chains, and as the one that publishes used entries. Positions count descriptors
abbrev pub chains_out : DriverView → Publisher
chains_out d = record {
  published = offer_position d.frame d.done;
  owed = driver_owed d.doing;
  bells = d.bells;
  ranges =
      length (offers d.done);
}

abbrev pub chains_in : DeviceView → Listener
chains_in e = record { at = take_position e.frame e.done; idle = device_idle e.doing; armed = e.armed; heard = e.heard }

abbrev pub entries_out : DeviceView → Publisher
entries_out e = record { published = give_position e.frame e.done; owed = device_owed e.doing; bells = e.bells; ranges = gives_made e.done }

abbrev pub entries_in : DriverView → Listener
entries_in d = record { at = collect_position d.frame d.done; idle = driver_idle d.doing; armed = d.armed; heard = d.heard }

-- a disarming store is next only without EVENT_IDX, after a look of an arming or after a bell that was heard
abbrev pub Woke : Op → ℕ → Type 0
Woke op.Arm heard = Unit {0}
Woke op.Hear heard = 1 ≤ heard
Woke _ heard = ⊥

-- where a side that has come to position `at` may be armed: while idle; between its arming store and its second look it is, at its
-- position; in all other operations it isn't
abbrev pub DriverArmed : DriverNow → Frame → Option ℕ → ℕ → ℕ → Type 0
DriverArmed driver.Idle f armed at heard = Unit {0}
DriverArmed driver.Arming f armed at heard = armed ≡ Some at
DriverArmed (driver.Disarming o) f armed at heard = (armed ≡ None) × (f.features.event_idx ≡ false) × Woke o heard
DriverArmed (driver.Checking old new) f armed at heard = (armed ≡ None) × IsRange f old new
DriverArmed _ f armed at heard = armed ≡ None

abbrev pub DeviceArmed : DeviceNow → Frame → Option ℕ → ℕ → ℕ → Type 0
DeviceArmed device.Idle f armed at heard = Unit {0}
DeviceArmed device.Arming f armed at heard = armed ≡ Some at
DeviceArmed (device.Disarming o) f armed at heard = (armed ≡ None) × (f.features.event_idx ≡ false) × Woke o heard
DeviceArmed (device.Checking old new) f armed at heard = (armed ≡ None) × IsRange f old new
DeviceArmed _ f armed at heard = armed ≡ None

-- ---- the invariant

pub record Ring (ws : List ℕ) (d : DriverView) (e : DeviceView) : Type 0 where
  -- both sides name the same ring, size, features and bounds
  pub same : e.frame ≡ d.frame
  pub lawful : IsLawful d.frame
  -- each word with one writer is what that side last stored in it
  pub words : Words d.frame ws d.stored e.stored
  -- each id is free or held by one open chain; no chain was offered past the limit, the size or the bounds
  pub places : Places d.frame d.done
  -- the descriptors of the chains offered and not collected are no more than the ring's places
  pub room : offer_position d.frame d.done ≤ collect_position d.frame d.done + d.frame.size
  -- each address is that of the last descriptor made available at its place
  pub addresses : Row d.frame.size 0 d.stored (offer_position d.frame d.done) (puts_of d.doing) (λ q. (made_at d.frame d.done q).addr)
  -- each second word is that of the last position at its place: a used descriptor where one was given there, else the driver's word
  pub seconds : Row d.frame.size 1 ws (offer_position d.frame d.done) (puts_of d.doing) (second_at d.frame d.done e.done)
  -- the table of each chain offered and not collected stands
  pub tables : (k : ℕ) → Contains (open_at d.done) k → Stand d.stored (table d.frame (head d.frame d.done k) (chain d.done k))
  -- taken is a prefix of offered, and collected of given; each chain is given once
  pub lists : Lists d.frame d.done e.done
  -- each length given fits its lane
  pub short : All (λ u. u.len < 4294967296) (gives e.done)
  -- event words and bells are those of where each side is armed and of how many bells it stored
  pub driver_signals : SideSignals d.frame (driver_event d.frame) (kick_at d.frame) d.armed d.bells d.stored
  pub device_signals : SideSignals d.frame (device_event d.frame) (call_at d.frame) e.armed e.bells e.stored
  -- command and ack words are those stored for each chain, and each side loaded what the other stored
  pub commands : Commands d.frame (command_word d.frame) (ack_word d.frame) d.done d.stored
  pub acks : Acks d.frame (ack_word d.frame) d.done e.done e.stored
  -- what the driver has staged stands, and what the device has loaded is what the driver published
  pub driver_doing : DriverDoing d.doing d.frame d.done ws
  pub device_doing : DeviceDoing e.doing d.frame d.done e.done
  -- a sleeping side without a signal has nothing before it, or the other side owes it one: of the chains, and of the used entries
  pub kicks : Signals (chains_out d) (chains_in e)
  pub calls : Signals (entries_out e) (entries_in d)
  -- in which operations each side is armed
  pub driver_armed : DriverArmed d.doing d.frame d.armed (collect_position d.frame d.done) d.heard
  pub device_armed : DeviceArmed e.doing d.frame e.armed (take_position d.frame e.done) e.heard
  -- a position that a side has seen was published
  pub driver_seen : d.seen ≤ give_position d.frame e.done
  pub device_seen : e.seen ≤ offer_position d.frame d.done
  -- where its last look showed more than it has collected or taken since, that look's position is past it
  pub driver_shown : d.shown ≡ true → collect_position d.frame d.done < d.seen
  pub device_shown : e.shown ≡ true → take_position d.frame e.done < e.seen
  -- a device whose last act is a rest has given all that it has taken
  pub rested : Rested e.done
