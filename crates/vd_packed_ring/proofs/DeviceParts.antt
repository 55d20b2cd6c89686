-- The parts of the ring invariant that an access of the device touches.
use Rattle.vd_ring.specs.declared.frame.Frame.{Frame}
use Rattle.std.proofs.Common.{subst, ◌≡◌, ℕ, ◌<◌, ◌≤◌, true, List}
use Rattle.std.specs.List.{All}
use Rattle.vd_words.specs.declared.access.Access.{Access}
use Rattle.vd_words.specs.declared.access.Access.TheVariants.{Load, Store}
use Rattle.vd_words.specs.Step.{answered}
use Rattle.vd_ring.specs.declared.driver.DriverView.{DriverView}
use Rattle.vd_ring.specs.declared.device.DeviceView.{DeviceView}
use Rattle.vd_ring.specs.History.{gives}
use Rattle.vd_ring.specs.Control.{Acks}
use Rattle.vd_ring.specs.Lists.{Lists, Rested}
use Rattle.vd_ring.specs.Signals.{Signals}
use Rattle.vd_packed_ring.specs.PackedWords.{IsDevices, ack_word, device_event, call_at}
use Rattle.vd_packed_ring.specs.PackedPositions.{offer_position, take_position, give_position, second_at}
use Rattle.vd_packed_ring.specs.PackedDevice.{DeviceKnows}
use Rattle.vd_packed_ring.specs.PackedRing.{Ring, Words, Row, SideSignals, puts_of, DriverDoing, DeviceDoing, DeviceArmed, chains_out, chains_in, entries_out, entries_in}

pub record Parts (ws : List ℕ) (d : DriverView) (e : DeviceView) : Type 0 where
  pub same : e.frame ≡ d.frame
  pub words : Words d.frame ws d.stored e.stored
  pub seconds : Row d.frame.size 1 ws (offer_position d.frame d.done) (puts_of d.doing) (second_at d.frame d.done e.done)
  pub lists : Lists d.frame d.done e.done
  pub short : All (λ u. u.len < 4294967296) (gives e.done)
  pub signals : SideSignals d.frame (device_event d.frame) (call_at d.frame) e.armed e.bells e.stored
  pub acks : Acks d.frame (ack_word d.frame) d.done e.done e.stored
  pub driver_doing : DriverDoing d.doing d.frame d.done ws
  pub device_doing : DeviceDoing e.doing d.frame d.done e.done
  pub kicks : Signals (chains_out d) (chains_in e)
  pub calls : Signals (entries_out e) (entries_in d)
  pub armed : DeviceArmed e.doing d.frame e.armed (take_position d.frame e.done) e.heard
  pub driver_seen : d.seen ≤ give_position d.frame e.done
  pub device_seen : e.seen ≤ offer_position d.frame d.done
  pub device_shown : e.shown ≡ true → take_position d.frame e.done < e.seen
  pub rested : Rested e.done

pub ring_with : (ws us : List ℕ) (d : DriverView) (e e2 : DeviceView) → Ring ws d e → Parts us d e2 → Ring us d e2
ring_with ws us d e e2 r p = record {
  same = p.same;
  lawful = r.lawful;
  words = p.words;
  places = r.places;
  room = r.room;
  addresses = r.addresses;
  seconds = p.seconds;
  tables = r.tables;
  lists = p.lists;
  short = p.short;
  driver_signals = r.driver_signals;
  device_signals = p.signals;
  commands = r.commands;
  acks = p.acks;
  driver_doing = p.driver_doing;
  device_doing = p.device_doing;
  kicks = p.kicks;
  calls = p.calls;
  driver_armed = r.driver_armed;
  device_armed = p.armed;
  driver_seen = p.driver_seen;
  device_seen = p.device_seen;
  driver_shown = r.driver_shown;
  device_shown = p.device_shown;
  rested = p.rested;
}

pub knows : (ws : List ℕ) (d : DriverView) (e : DeviceView) (a : Access) → Ring ws d e → DeviceKnows e a (answered ws a)
knows ws d e (Load p) r = λ own. r.words.devices p (subst (λ (f : Frame). IsDevices f p) r.same own)
knows ws d e (Store p x) r = tt
