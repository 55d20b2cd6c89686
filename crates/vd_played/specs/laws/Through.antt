-- Lemmas: a party that holds another one and does what that one does.
use Rattle.std.proofs.Common.{Some, None}
use Rattle.vd_words.specs.Model.{PortModel}
use Rattle.vd_ring.specs.declared.driver.DriverView.{DriverView}
use Rattle.vd_ring.specs.declared.device.DeviceView.{DeviceView}
use Rattle.vd_layout.specs.declared.moves.Move.{Move}
use Rattle.vd_layout.specs.Driver.{DriverModel}
use Rattle.vd_layout.specs.Device.{DeviceModel}
use Rattle.vd_layout.specs.Layout.{LayoutModel}
use Rattle.vd_bus.specs.declared.event.Event.{Event}
use Rattle.vd_bus.specs.Device.{DeviceParty, IsLawfulDeviceParty, IsUnchanged, IsNoted, IsAttach, IsRefused, IsServed, IsDeviceAccess, IsSuspend, IsReset}
use Rattle.vd_bus.specs.Guest.{GuestParty, IsLawfulGuestParty, IsBoot, IsGuestAccess, IsHalt}
use Rattle.vd_bus.specs.Orders.{Terms}
use Rattle.vd_played.specs.Through.{guest_through, device_through}

module _ {D X Y : Type 0} (d : DriverModel D) (f : Y → X) (m : GuestParty X) where
  pub lawful_guest : IsLawfulGuestParty d m → IsLawfulGuestParty d (guest_through f m)
  lawful_guest law = record {
    unloaded = λ y. law.unloaded (f y);
    held = λ y. law.held (f y);
    offered = λ y. law.offered (f y);
    offers = λ y. law.offers (f y);
    returned = λ y. law.returned (f y);
    done = λ y. law.done (f y);
    finishes = λ y. law.finishes (f y);
    armed = λ y. law.armed (f y);
    sent = λ y. law.sent (f y);
    acked = λ y. law.acked (f y);
    sent_all = λ y. law.sent_all (f y);
    sleeps = λ y. law.sleeps (f y);
    listed = λ y. law.listed (f y);
    pace = λ y. law.pace (f y);
  }

  pub boots : (l : LayoutModel) (end : D) (x y : Y) → IsBoot d l m end (f x) (f y) → IsBoot d l (guest_through f m) end x y
  boots l end x y b = record { holds = b.holds; script = b.script; offered = b.offered; returned = b.returned; counts = b.counts }

  pub guest_accesses : {P : Type 0} (port : PortModel P) (p q : P) (v : DriverView) (x y : Y) (answer : Move)
      → IsGuestAccess port d m p q v (f x) (f y) answer → IsGuestAccess port d (guest_through f m) p q v x y answer
  guest_accesses port p q v x y answer a = record {
    op = a.op;
    access = a.access;
    got = a.got;
    was_next = a.was_next;
    moved = a.moved;
    holds = a.holds;
    script = a.script;
    grows = a.grows;
    acts = a.acts;
    finished = a.finished;
    looked = a.looked;
    accesses = a.accesses;
    heard = a.heard;
  }

  pub halts : (x y : Y) (end : D) → IsHalt d m (f x) (f y) end → IsHalt d (guest_through f m) x y end
  halts x y end h = record {
    stands = h.stands;
    idle = h.idle;
    free = h.free;
    script = h.script;
    offered = h.offered;
    returned =
        h.returned;
    counts = h.counts;
  }

module _ {E X Y C : Type 0} (e : DeviceModel E) (f : Y → X) (m : DeviceParty X C) where
  pub lawful_device : IsLawfulDeviceParty e m → IsLawfulDeviceParty e (device_through f m)
  lawful_device law = record {
    held = λ y. law.held (f y);
    serves = λ y. law.serves (f y);
    commanded = λ y. law.commanded (f y);
    done = λ y. law.done (f y);
    armed = λ y. law.armed (f y);
    pace = λ y. law.pace (f y);
    pace_free = λ y. law.pace_free (f y);
  }

  pub unchanged : (x y : Y) → IsUnchanged m (f x) (f y) → IsUnchanged (device_through f m) x y
  unchanged x y u = record {
    events = u.events;
    begun = u.begun;
    settings = u.settings;
    faults = u.faults;
    carried = u.carried;
    attached = u.attached;
    room = u.room;
    counts = u.counts;
  }

  noted : (event : Event) (x y : Y) → IsNoted m event (f x) (f y) → IsNoted (device_through f m) event x y
  noted event x y n = record {
    events = n.events;
    begun = n.begun;
    faults = n.faults;
    window = n.window;
    carried = n.carried;
    room =
        n.room;
    counts = n.counts;
  }

  -- without a control queue's device
  pub attaches : (t : Terms) (end : E) (x y : Y) → IsAttach e m t None end (f x) (f y) → IsAttach e (device_through f m) t None end x y
  attaches t end x y a = record {
    from = a.from;
    attached = a.attached;
    taken = a.taken;
    holds = a.holds;
    live = a.live;
    noted =
        noted _ x y a.noted;
    settings = a.settings;
    attached_with = a.attached_with;
  }

  pub attaches_by : (t : Terms) (control : Y) (end : E) (x y : Y) → IsAttach e m t (Some (f control)) end (f x) (f y)
      → IsAttach e (device_through f m) t (Some control) end x y
  attaches_by t control end x y a = record {
    from = a.from;
    attached = a.attached;
    taken = a.taken;
    holds = a.holds;
    live = a.live;
    noted = noted _ x y a.noted;
    settings = a.settings;
    attached_with = a.attached_with;
  }

  pub refuses : (x y : Y) → IsRefused m (f x) (f y) → IsRefused (device_through f m) x y
  refuses x y r = record {
    rose = r.rose;
    events = r.events;
    begun = r.begun;
    settings = r.settings;
    window = r.window;
    carried =
        r.carried;
    attached = r.attached;
    room = r.room;
    counts = r.counts;
  }

  serves : (x y : Y) → IsServed m (f x) (f y) → IsServed (device_through f m) x y
  serves x y s = record {
    events = s.events;
    grows = s.grows;
    settings = s.settings;
    set = s.set;
    attached_with = s.attached_with;
    faults = s.faults;
    window = s.window;
    carried =
        s.carried;
    attached = s.attached;
    room = s.room;
  }

  pub device_accesses : {P : Type 0} (port : PortModel P) (p q : P) (w : DeviceView) (x y : Y) (answer : Move)
      → IsDeviceAccess port e m p q w (f x) (f y) answer → IsDeviceAccess port e (device_through f m) p q w x y answer
  device_accesses port p q w x y answer a = record {
    op = a.op;
    access = a.access;
    got = a.got;
    was_next = a.was_next;
    moved = a.moved;
    holds = a.holds;
    served = serves x y a.served;
    grows = a.grows;
    acts = a.acts;
    finished = a.finished;
    looked = a.looked;
    rested = a.rested;
    accesses = a.accesses;
    heard = a.heard;
  }

  pub suspends : (x y : Y) (end : E) → IsSuspend e m (f x) (f y) end → IsSuspend e (device_through f m) x y end
  suspends x y end s = record {
    stands = s.stands;
    rests = s.rests;
    served = s.served;
    commanded = s.commanded;
    attached = s.attached;
    noted =
        noted _ x y s.noted;
    settings = s.settings;
  }

  pub resets : (x y : Y) → IsReset m (f x) (f y) → IsReset (device_through f m) x y
  resets x y r = record { attached = r.attached; noted = noted _ x y r.noted; settings = r.settings }
