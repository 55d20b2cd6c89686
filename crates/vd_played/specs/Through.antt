-- A party that holds another one and does what that one does.
use Rattle.vd_bus.specs.Device.{DeviceParty}
use Rattle.vd_bus.specs.Guest.{GuestParty}

-- the guest that f finds in it
abbrev pub guest_through : {X Y : Type 0} → (Y → X) → GuestParty X → GuestParty Y
guest_through f m = record {
  script = λ y. m.script (f y);
  is_loaded = λ y. m.is_loaded (f y);
  offered = λ y. m.offered (f y);
  returned = λ y. m.returned (f y);
  holds = λ y v. m.holds (f y) v;
  is_done = λ y. m.is_done (f y);
  accesses = λ y. m.accesses (f y);
  heard = λ y. m.heard (f y);
}

-- the device that f finds in it
abbrev pub device_through : {X Y C : Type 0} → (Y → X) → DeviceParty X C → DeviceParty Y C
device_through f m = record {
  events = λ y. m.events (f y);
  begun = λ y. m.begun (f y);
  event_room = λ y. m.event_room (f y);
  chain_room = λ y. m.chain_room (f y);
  settings = λ y. m.settings (f y);
  attached_with = λ y. m.attached_with (f y);
  faults = λ y. m.faults (f y);
  window = λ y. m.window (f y);
  carried = λ y. m.carried (f y);
  attached = λ y. m.attached (f y);
  holds = λ y w. m.holds (f y) w;
  is_done = λ y. m.is_done (f y);
  accesses = λ y. m.accesses (f y);
  heard = λ y. m.heard (f y);
}
