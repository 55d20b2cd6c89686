-- What an access of the device leaves of the ring invariant, and what it has to show anew.
use Rattle.std.proofs.Common.{◌≡◌, ◌≢◌, ℕ, ◌+◌, ◌<◌, ◌≤◌, true, List, [], ◌∷◌, length, Option, Some, slice_index, slice_set, ◌∙◌, subst, arith}
use Rattle.vd_bits.specs.Lanes.{lane16}
use Rattle.vd_words.specs.declared.access.Access.{Access}
use Rattle.vd_words.specs.declared.access.Access.TheVariants.{Load, Store}
use Rattle.vd_words.specs.Step.{answered}
use Rattle.vd_ring.specs.declared.frame.Frame.{Frame}
use Rattle.vd_ring.specs.declared.frame.Used.{Used}
use Rattle.vd_ring.specs.declared.driver.DriverDone.{DriverDone}
use Rattle.vd_ring.specs.declared.driver.DriverNow.{DriverNow}
use Rattle.vd_ring.specs.declared.driver.DriverNow.TheVariants as driver
use Rattle.vd_ring.specs.declared.driver.DriverView.{DriverView}
use Rattle.vd_ring.specs.declared.device.DeviceDone.{DeviceDone}
use Rattle.vd_ring.specs.declared.device.DeviceView.{DeviceView}
use Rattle.vd_ring.specs.History.{offers, collects, takes, gives}
use Rattle.vd_ring.specs.Control.{Acks}
use Rattle.vd_ring.specs.Lists.{Lists, Rested, entry_at}
use Rattle.vd_ring.specs.Signals.{Signals}
use Rattle.vd_split_ring.specs.SplitWords.{IsDevices, used_from, call_at, ack_word}
use Rattle.vd_split_ring.specs.SplitDevice.{DeviceKnows}
use Rattle.vd_split_ring.specs.SplitRing.{Words, DeviceWords, DeviceSignals, DriverDoing, DeviceDoing, chains_out, chains_in, entries_out, entries_in, DeviceArmed, Ring, EndsGive}
use Rattle.vd_split_ring.proofs.Areas.{areas, other_word}

-- the parts that speak of the device
pub record DeviceSide (ws : List ℕ) (d : DriverView) (e : DeviceView) : Type 0 where
  pub same : e.frame ≡ d.frame
  pub words : Words d.frame ws d.stored e.stored
  pub lists : Lists d.frame d.done e.done
  pub device_words : DeviceWords d.frame d.done e.done e.stored
  pub signals : DeviceSignals d.frame e.armed e.bells e.stored
  pub acks : Acks d.frame (ack_word d.frame) d.done e.done e.stored
  pub driver_doing : DriverDoing d.doing d.frame d.done d.stored d.seen e.done
  pub device_doing : DeviceDoing e.doing d.frame d.done e.done e.stored e.seen
  pub kicks : Signals (chains_out d) (chains_in e)
  pub calls : Signals (entries_out e) (entries_in d)
  pub armed : DeviceArmed e.doing d.frame e.armed (length (takes e.done)) e.heard
  pub driver_seen : d.seen ≤ length (gives e.done)
  pub driver_cut : EndsGive e.done d.seen
  pub device_seen : e.seen ≤ length (offers d.done)
  pub device_shown : e.shown ≡ true → length (takes e.done) < e.seen
  pub rested : Rested e.done

-- the others stay
pub ring_with : (ws us : List ℕ) (d : DriverView) (e v : DeviceView) → Ring ws d e → DeviceSide us d v → Ring us d v
ring_with ws us d e v r s = record {
  same = s.same;
  lawful = r.lawful;
  words = s.words;
  places = r.places;
  driver_words = r.driver_words;
  lists = s.lists;
  device_words = s.device_words;
  driver_signals = r.driver_signals;
  device_signals = s.signals;
  commands = r.commands;
  acks = s.acks;
  driver_doing = s.driver_doing;
  device_doing = s.device_doing;
  kicks = s.kicks;
  calls = s.calls;
  driver_armed = r.driver_armed;
  device_armed = s.armed;
  driver_seen = s.driver_seen;
  driver_cut = s.driver_cut;
  device_seen = s.device_seen;
  driver_shown = r.driver_shown;
  device_shown = s.device_shown;
  rested = s.rested;
}

-- what the driver's operation in progress reads of the device's acts is the used entry that it collects next
pub doing_along : (doing : DriverNow) (f : Frame) (o : List DriverDone) (st : List ℕ) (seen : ℕ) (s s2 : List DeviceDone)
    → ((u : Used) → entry_at s (length (collects o)) ≡ Some u → entry_at s2 (length (collects o)) ≡ Some u)
    → DriverDoing doing f o st seen s → DriverDoing doing f o st seen s2
doing_along driver.Idle f o st seen s s2 h a = a
doing_along (driver.Offering puts) f o st seen s s2 h a = a
doing_along (driver.Entered puts) f o st seen s s2 h a = a
doing_along (driver.Collecting []) f o st seen s s2 h a = a
doing_along (driver.Collecting (r ∷ [])) f o st seen s s2 h a = a
doing_along (driver.Collecting (r ∷ w ∷ [])) f o st seen s s2 h a =
    (a.0, record { used = a.1.used; begins = h a.1.used a.1.begins; is_id = a.1.is_id })
doing_along (driver.Collecting (r ∷ w ∷ x ∷ ws)) f o st seen s s2 h a = a
doing_along _ f o st seen s s2 h a = a

-- a load of a word that only the device stores answers the device's image of it
pub knows : (ws : List ℕ) (d : DriverView) (e : DeviceView) (a : Access) → Ring ws d e → DeviceKnows e a (answered ws a)
knows ws d e (Load p) r = λ own. r.words.devices p (own_of d.frame e.frame r.same own)
  where
    own_of : (f g : Frame) → g ≡ f → IsDevices g p → IsDevices f p
    own_of f g is own = subst (λ (h : Frame). IsDevices h p) is own
knows ws d e (Store p x) r = tt

-- a store that leaves flags, event lane and bell as they are
pub signals_kept : (f : Frame) (armed : Option ℕ) (bells : ℕ) (st : List ℕ) (p x : ℕ)
    → lane16 (slice_index (slice_set st p x) (used_from f)) 0 ≡ lane16 (slice_index st (used_from f)) 0
    → lane16 (slice_index (slice_set st p x) (used_from f + f.size)) 2 ≡ lane16 (slice_index st (used_from f + f.size)) 2
    → call_at f ≢ p → DeviceSignals f armed bells st → DeviceSignals f armed bells (slice_set st p x)
signals_kept f armed bells st p x flags event bell s = record {
  no_flags = λ on. flags ∙ s.no_flags on;
  no_event = λ off. event ∙ s.no_event off;
  bit = omega (arith, flags, s.bit);
  flags = λ n is off. flags ∙ s.flags n is off;
  event = λ n is on. event ∙ s.event n is on;
  bell = other_word st p (call_at f) x (λ w. w) bell ∙ s.bell;
}

-- the words of the device area, of acks and the bell lie apart
pub used_no_ack : (f : Frame) (p h : ℕ) → p ≤ used_from f + f.size → ack_word f h ≢ p
used_no_ack f p h low = λ e. omega (arith, areas f)

pub used_no_bell : (f : Frame) (p : ℕ) → p ≤ used_from f + f.size → call_at f ≢ p
used_no_bell f p low = λ e. omega (arith, areas f)
