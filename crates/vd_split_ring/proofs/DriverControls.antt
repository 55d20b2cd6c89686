-- The driver's accesses of command and ack words keep the ring invariant.
use Rattle.std.proofs.Common.{◌≡◌, ℕ, ◌+◌, ◌-◌, ◌/◌, ◌%◌, ◌<◌, ◌≤◌, true, List, [], ◌∷◌, length, Some, slice_index, slice_set, sym, ap, subst, arith}
use Rattle.std.specs.Prelude.{unwrap_or, Option}
use Rattle.vd_ring.specs.declared.frame.Frame.{Frame}
use Rattle.vd_ring.specs.declared.driver.DriverDone.{DriverDone}
use Rattle.vd_ring.specs.declared.driver.DriverDone.TheVariants.{StoreCommand, LoadAck}
use Rattle.vd_ring.specs.declared.driver.DriverNow.TheVariants.{Idle}
use Rattle.vd_ring.specs.declared.driver.DriverView.{DriverView}
use Rattle.vd_ring.specs.declared.device.DeviceDone.{DeviceDone}
use Rattle.vd_ring.specs.declared.device.DeviceNow.{DeviceNow}
use Rattle.vd_ring.specs.declared.device.DeviceNow.TheVariants as device
use Rattle.vd_ring.specs.declared.device.DeviceView.{DeviceView}
use Rattle.vd_ring.specs.History.{head, next_head}
use Rattle.vd_ring.specs.Control.{StoresCommand, last_collected}
use Rattle.vd_ring.specs.Places.{Places}
use Rattle.vd_ring.specs.Lists.{Lists}
use Rattle.vd_ring.proofs.HeldPlaces.{free_inside}
use Rattle.vd_ring.proofs.ControlSteps.{next_free, commands_stored, commands_loaded, acks_stored, acks_loaded}
use Rattle.vd_split_ring.specs.SplitWords.{width, used_from, commands_from, command_word, ack_word}
use Rattle.vd_split_ring.specs.SplitDriver.{driver_commands, driver_acks}
use Rattle.vd_split_ring.specs.SplitRing.{DriverWords, DeviceWords, Ring, DeviceDoing, Loads}
use Rattle.vd_split_ring.proofs.Areas.{areas, acks_follow, driver_stores, drivers_inside, commands_apart, command_drivers}
use Rattle.vd_split_ring.proofs.DriverParts.{driver_words_past, signals_past}

-- ---- an act on control words changes none of the other parts

places_stored : (f : Frame) (o : List DriverDone) (h i x : ℕ) → Places f o → Places f (StoreCommand h i x ∷ o)
places_stored f o h i x p = record {
  once = p.once;
  sizes = p.sizes;
  as_many = p.as_many;
  listed = p.listed;
  is_open = p.is_open;
  count = p.count;
  fits = p.fits;
  limited = p.limited;
}

places_loaded : (f : Frame) (o : List DriverDone) (k x : ℕ) → Places f o → Places f (LoadAck k x ∷ o)
places_loaded f o k x p = record {
  once = p.once;
  sizes = p.sizes;
  as_many = p.as_many;
  listed = p.listed;
  is_open = p.is_open;
  count =
      p.count;
  fits = p.fits;
  limited = p.limited;
}

driver_words_stored : (f : Frame) (o : List DriverDone) (h i x : ℕ) (ws : List ℕ) → DriverWords f o ws
    → DriverWords f (StoreCommand h i x ∷ o) ws
driver_words_stored f o h i x ws d = record { index = d.index; entries = d.entries; spelled = d.spelled }

driver_words_loaded : (f : Frame) (o : List DriverDone) (k x : ℕ) (ws : List ℕ) → DriverWords f o ws → DriverWords f (LoadAck k x ∷ o) ws
driver_words_loaded f o k x ws d = record { index = d.index; entries = d.entries; spelled = d.spelled }

lists_stored : (f : Frame) (o : List DriverDone) (h i x : ℕ) (s : List DeviceDone) → Lists f o s → Lists f (StoreCommand h i x ∷ o) s
lists_stored f o h i x s l = record {
  taken = l.taken;
  some = l.some;
  as_many = l.as_many;
  heads = l.heads;
  ever = l.ever;
  given = l.given;
  count = l.count;
  entries = l.entries;
  collected = l.collected;
  fewer = l.fewer;
  cut = l.cut;
  in_order = l.in_order;
}

lists_loaded : (f : Frame) (o : List DriverDone) (k x : ℕ) (s : List DeviceDone) → Lists f o s → Lists f (LoadAck k x ∷ o) s
lists_loaded f o k x s l = record {
  taken = l.taken;
  some = l.some;
  as_many = l.as_many;
  heads = l.heads;
  ever = l.ever;
  given = l.given;
  count = l.count;
  entries = l.entries;
  collected = l.collected;
  fewer = l.fewer;
  cut = l.cut;
  in_order = l.in_order;
}

device_words_stored : (f : Frame) (o : List DriverDone) (h i x : ℕ) (s : List DeviceDone) (ws : List ℕ) → DeviceWords f o s ws
    → DeviceWords f (StoreCommand h i x ∷ o) s ws
device_words_stored f o h i x s ws r = record { index = r.index; ids = r.ids; lens = r.lens }

device_words_loaded : (f : Frame) (o : List DriverDone) (k x : ℕ) (s : List DeviceDone) (ws : List ℕ) → DeviceWords f o s ws
    → DeviceWords f (LoadAck k x ∷ o) s ws
device_words_loaded f o k x s ws r = record { index = r.index; ids = r.ids; lens = r.lens }

loads_stored : (f : Frame) (o : List DriverDone) (h i x k w : ℕ) (ws : List ℕ) → Loads f o k w ws → Loads f (StoreCommand h i x ∷ o) k w ws
loads_stored f o h i x k w ws l = record { is_head = l.is_head; words = l.words; left = l.left }

loads_loaded : (f : Frame) (o : List DriverDone) (h x k w : ℕ) (ws : List ℕ) → Loads f o k w ws → Loads f (LoadAck h x ∷ o) k w ws
loads_loaded f o h x k w ws l = record { is_head = l.is_head; words = l.words; left = l.left }

doing_stored : (now : DeviceNow) (f : Frame) (o : List DriverDone) (h i x : ℕ) (s : List DeviceDone) (st : List ℕ) (seen : ℕ)
    → DeviceDoing now f o s st seen → DeviceDoing now f (StoreCommand h i x ∷ o) s st seen
doing_stored (device.Taking []) f o h i x s st seen a = a
doing_stored (device.Taking (r ∷ [])) f o h i x s st seen a = a
doing_stored (device.Taking (r ∷ w ∷ ws)) f o h i x s st seen a = (a.0, loads_stored f o h i x _ w ws a.1)
doing_stored (device.Giving []) f o h i x s st seen a = a
doing_stored (device.Giving (b ∷ [])) f o h i x s st seen a = a
doing_stored (device.Giving (b ∷ c ∷ [])) f o h i x s st seen a = a
doing_stored (device.Giving (b ∷ c ∷ y ∷ ws)) f o h i x s st seen a = a
doing_stored _ f o h i x s st seen a = a

doing_loaded : (now : DeviceNow) (f : Frame) (o : List DriverDone) (k x : ℕ) (s : List DeviceDone) (st : List ℕ) (seen : ℕ)
    → DeviceDoing now f o s st seen → DeviceDoing now f (LoadAck k x ∷ o) s st seen
doing_loaded (device.Taking []) f o k x s st seen a = a
doing_loaded (device.Taking (r ∷ [])) f o k x s st seen a = a
doing_loaded (device.Taking (r ∷ w ∷ ws)) f o k x s st seen a = (a.0, loads_loaded f o k x _ w ws a.1)
doing_loaded (device.Giving []) f o k x s st seen a = a
doing_loaded (device.Giving (b ∷ [])) f o k x s st seen a = a
doing_loaded (device.Giving (b ∷ c ∷ [])) f o k x s st seen a = a
doing_loaded (device.Giving (b ∷ c ∷ y ∷ ws)) f o k x s st seen a = a
doing_loaded _ f o k x s st seen a = a

-- ---- the store of a command word

pub stores_command : (ws : List ℕ) (d : DriverView) (e : DeviceView) (p x : ℕ) → Ring ws (record d { doing = Idle }) e
    → StoresCommand d.frame (command_word d.frame) d.done p
    → Ring (slice_set ws p x) (driver_commands (record d { doing = Idle }) p x) e × (p < width d.frame)
stores_command ws d e p x r n =
    let f : Frame = d.frame in let o : List DriverDone = d.done in
    let h : ℕ = next_head f o in
    let i : ℕ = n.half in
    let q : ℕ = command_word f h + i in
    let low : h < f.size = free_inside f o h r.places (next_free f o n.room) in
    let own = command_drivers f h i n.control low n.two in
    let inside : q < width f = drivers_inside f q own in
    let wide : length d.stored ≡ width f = r.words.wide.1 in
    let follow = acks_follow f n.control in
    let past : used_from f ≤ q = omega (arith, areas f) in
    let two : i < 2 = n.two in
    let is_head : (q - commands_from f) / 2 ≡ h = omega arith in
    let is_half : (q - commands_from f) % 2 ≡ i = omega arith in
    subst (λ (z : ℕ). Ring (slice_set ws z x) (driver_commands (record d { doing = Idle }) z x) e × (z < width f)) (sym n.place)
    (subst (λ (g : ℕ). Ring (slice_set ws q x) (record d {
      done = StoreCommand g ((q - commands_from f) % 2) x ∷ o;
      stored =
          slice_set d.stored q x;
      doing = Idle;
    }) e × (q < width f)) (sym is_head)
    (subst (λ (j : ℕ). Ring (slice_set ws q x) (record d {
      done = StoreCommand h j x ∷ o;
      stored = slice_set d.stored q x;
      doing =
          Idle;
    }) e × (q < width f)) (sym is_half) (
      record {
        same = r.same;
        lawful = r.lawful;
        words = driver_stores f ws d.stored e.stored q x r.words own;
        places = places_stored f o h i x r.places;
        driver_words = driver_words_stored f o h i x (slice_set d.stored q x)
            (driver_words_past f o d.stored q x r.lawful r.places r.driver_words (omega arith));
        lists = lists_stored f o h i x e.done r.lists;
        device_words = device_words_stored f o h i x e.done e.stored r.device_words;
        driver_signals = signals_past f d.armed d.bells d.stored q x past (λ a. omega arith) r.driver_signals;
        device_signals = r.device_signals;
        commands = commands_stored f (command_word f) (ack_word f) o i x d.stored r.places (commands_apart f) n.two n.room
            (omega arith) r.commands;
        acks = acks_stored f (ack_word f) o h i x e.done e.stored r.acks;
        driver_doing = tt;
        device_doing = doing_stored e.doing f o h i x e.done e.stored e.seen r.device_doing;
        driver_seen = r.driver_seen;
        driver_cut = r.driver_cut;
        device_seen = r.device_seen;
        driver_shown = r.driver_shown;
        device_shown = r.device_shown;
        kicks = r.kicks;
        calls = r.calls;
        driver_armed = tt;
        device_armed = r.device_armed;
        rested = r.rested;
      },
      inside,
    )))

-- ---- the load of an ack word

pub loads_ack : (ws : List ℕ) (d : DriverView) (e : DeviceView) (y : ℕ) → Ring ws (record d { doing = Idle }) e → (k : ℕ)
    → d.frame.control ≡ true → last_collected d.done ≡ Some k → y ≡ slice_index e.stored (ack_word d.frame (head d.frame d.done k))
    → Ring ws (driver_acks (record d { doing = Idle }) y) e
loads_ack ws d e y r k on last is =
    let f : Frame = d.frame in let o : List DriverDone = d.done in
    subst (λ (j : ℕ). Ring ws (record d { done = LoadAck j y ∷ o; doing = Idle }) e) (sym (ap (λ (z : Option ℕ). unwrap_or z 0) last))
    record {
      same = r.same;
      lawful = r.lawful;
      words = r.words;
      places = places_loaded f o k y r.places;
      driver_words = driver_words_loaded f o k y d.stored r.driver_words;
      lists = lists_loaded f o k y e.done r.lists;
      device_words = device_words_loaded f o k y e.done e.stored r.device_words;
      driver_signals = r.driver_signals;
      device_signals = r.device_signals;
      commands = commands_loaded f (command_word f) (ack_word f) o k y d.stored r.commands;
      acks = acks_loaded f (ack_word f) o k y e.done e.stored r.lists on last is r.acks;
      driver_doing = tt;
      device_doing = doing_loaded e.doing f o k y e.done e.stored e.seen r.device_doing;
      driver_seen = r.driver_seen;
      driver_cut = r.driver_cut;
      device_seen = r.device_seen;
      driver_shown = r.driver_shown;
      device_shown = r.device_shown;
      kicks = r.kicks;
      calls = r.calls;
      driver_armed = tt;
      device_armed = r.device_armed;
      rested = r.rested;
    }
