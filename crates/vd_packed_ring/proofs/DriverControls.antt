-- The driver's accesses of command and ack words keep the ring invariant.
use Rattle.std.proofs.Common.{◌≡◌, ℕ, ◌+◌, ◌-◌, ◌*◌, ◌/◌, ◌%◌, ◌<◌, ◌≤◌, true, List, [], ◌∷◌, length, Some, slice_index, slice_set, refl, sym, ap, subst, arith, inr}
use Rattle.std.specs.Prelude.{unwrap_or, Option}
use Rattle.vd_ring.specs.declared.frame.Frame.{Frame}
use Rattle.vd_ring.specs.declared.driver.DriverDone.{DriverDone}
use Rattle.vd_ring.specs.declared.driver.DriverDone.TheVariants.{StoreCommand, LoadAck}
use Rattle.vd_ring.specs.declared.driver.DriverNow.TheVariants.{Idle}
use Rattle.vd_ring.specs.declared.driver.DriverView.{DriverView}
use Rattle.vd_ring.specs.declared.device.DeviceDone.{DeviceDone}
use Rattle.vd_ring.specs.declared.device.DeviceNow.{DeviceNow}
use Rattle.vd_ring.specs.declared.device.DeviceNow.TheVariants as device
use Rattle.vd_ring.specs.declared.device.DeviceView.{DeviceView}
use Rattle.vd_ring.specs.History.{takes, head, next_head}
use Rattle.vd_ring.specs.Control.{StoresCommand, last_collected}
use Rattle.vd_ring.specs.Places.{Places}
use Rattle.vd_ring.specs.Lists.{Lists}
use Rattle.vd_ring.proofs.HeldPlaces.{free_inside}
use Rattle.vd_ring.proofs.ControlSteps.{next_free, commands_stored, commands_loaded, acks_stored, acks_loaded}
use Rattle.vd_packed_ring.specs.PackedWords.{width, driver_event, kick_at, commands_from, command_word, ack_word}
use Rattle.vd_packed_ring.specs.PackedPositions.{offer_position, take_position, made_at, mark_at, second_at}
use Rattle.vd_packed_ring.specs.PackedDriver.{driver_commands, driver_acks}
use Rattle.vd_packed_ring.specs.PackedRing.{Ring, DeviceDoing, Loads}
use Rattle.vd_packed_ring.proofs.Areas.{areas, acks_follow, driver_stores, drivers_inside, commands_apart, command_drivers}
use Rattle.vd_packed_ring.proofs.Rows.{row_same, row_elsewhere}
use Rattle.vd_packed_ring.proofs.Clear.{signals_elsewhere}
use Rattle.vd_packed_ring.proofs.Kept.{kept_past}
use Rattle.vd_packed_ring.proofs.Collects.{stands_kept}

-- ---- an act on control words changes none of the other parts

places_stored : (f : Frame) (o : List DriverDone) (h i x : ℕ) → Places f o → Places f (StoreCommand h i x ∷ o)
places_stored f o h i x p = record {
  once = p.once;
  sizes = p.sizes;
  as_many = p.as_many;
  listed = p.listed;
  is_open = p.is_open;
  count = p.count;
  fits = p.fits;
  limited = p.limited;
}

places_loaded : (f : Frame) (o : List DriverDone) (k x : ℕ) → Places f o → Places f (LoadAck k x ∷ o)
places_loaded f o k x p = record {
  once = p.once;
  sizes = p.sizes;
  as_many = p.as_many;
  listed = p.listed;
  is_open = p.is_open;
  count =
      p.count;
  fits = p.fits;
  limited = p.limited;
}

lists_stored : (f : Frame) (o : List DriverDone) (h i x : ℕ) (s : List DeviceDone) → Lists f o s → Lists f (StoreCommand h i x ∷ o) s
lists_stored f o h i x s l = record {
  taken = l.taken;
  some = l.some;
  as_many = l.as_many;
  heads = l.heads;
  ever = l.ever;
  given = l.given;
  count = l.count;
  entries = l.entries;
  collected = l.collected;
  fewer = l.fewer;
  cut = l.cut;
  in_order = l.in_order;
}

lists_loaded : (f : Frame) (o : List DriverDone) (k x : ℕ) (s : List DeviceDone) → Lists f o s → Lists f (LoadAck k x ∷ o) s
lists_loaded f o k x s l = record {
  taken = l.taken;
  some = l.some;
  as_many = l.as_many;
  heads = l.heads;
  ever = l.ever;
  given = l.given;
  count = l.count;
  entries = l.entries;
  collected = l.collected;
  fewer = l.fewer;
  cut = l.cut;
  in_order = l.in_order;
}

loads_stored : (f : Frame) (o : List DriverDone) (h i x k q : ℕ) (ws : List ℕ) → Loads f o k q ws → Loads f (StoreCommand h i x ∷ o) k q ws
loads_stored f o h i x k q ws l = record { more = l.more; words = l.words; left = l.left }

loads_loaded : (f : Frame) (o : List DriverDone) (h x k q : ℕ) (ws : List ℕ) → Loads f o k q ws → Loads f (LoadAck h x ∷ o) k q ws
loads_loaded f o h x k q ws l = record { more = l.more; words = l.words; left = l.left }

doing_stored : (now : DeviceNow) (f : Frame) (o : List DriverDone) (h i x : ℕ) (s : List DeviceDone) → DeviceDoing now f o s
    → DeviceDoing now f (StoreCommand h i x ∷ o) s
doing_stored (device.Taking (w ∷ ws)) f o h i x s a = loads_stored f o h i x (length (takes s)) (take_position f s) (w ∷ ws) a
doing_stored (device.Taking []) f o h i x s a = absurd a
doing_stored (device.Giving ws) f o h i x s a = absurd a
doing_stored device.Resting f o h i x s a = a
doing_stored _ f o h i x s a = tt

doing_loaded : (now : DeviceNow) (f : Frame) (o : List DriverDone) (k x : ℕ) (s : List DeviceDone) → DeviceDoing now f o s
    → DeviceDoing now f (LoadAck k x ∷ o) s
doing_loaded (device.Taking (w ∷ ws)) f o k x s a = loads_loaded f o k x (length (takes s)) (take_position f s) (w ∷ ws) a
doing_loaded (device.Taking []) f o k x s a = absurd a
doing_loaded (device.Giving ws) f o k x s a = absurd a
doing_loaded device.Resting f o k x s a = a
doing_loaded _ f o k x s a = tt

-- ---- the store of a command word

pub stores_command : (ws : List ℕ) (d : DriverView) (e : DeviceView) (p x : ℕ) → Ring ws (record d { doing = Idle }) e
    → StoresCommand d.frame (command_word d.frame) d.done p
    → Ring (slice_set ws p x) (driver_commands (record d { doing = Idle }) p x) e × (p < width d.frame)
stores_command ws d e p x r n =
    let f : Frame = d.frame in let o : List DriverDone = d.done in let s : List DeviceDone = e.done in
    let pos : 0 < f.size = omega (arith, r.lawful.least) in
    let h : ℕ = next_head f o in
    let i : ℕ = n.half in
    let q : ℕ = command_word f h + i in
    let low : h < f.size = free_inside f o h r.places (next_free f o n.room) in
    let two : i < 2 = n.two in
    let own = command_drivers f h i n.control low two in
    let inside : q < width f = drivers_inside f q own in
    let wide : length d.stored ≡ width f = r.words.wide.1 in
    let follow = acks_follow f n.control in
    let past : 2 * f.size + 2 ≤ q = omega (arith, areas f) in
    let is_head : (q - commands_from f) / 2 ≡ h = omega arith in
    let is_half : (q - commands_from f) % 2 ≡ i = omega arith in
    let o2 : List DriverDone = StoreCommand h i x ∷ o in
    subst (λ (z : ℕ). Ring (slice_set ws z x) (driver_commands (record d { doing = Idle }) z x) e × (z < width f)) (sym n.place)
    (subst (λ (g : ℕ). Ring (slice_set ws q x) (record d {
      done = StoreCommand g ((q - commands_from f) % 2) x ∷ o;
      stored =
          slice_set d.stored q x;
      doing = Idle;
    }) e × (q < width f)) (sym is_head)
    (subst (λ (j : ℕ). Ring (slice_set ws q x) (record d {
      done = StoreCommand h j x ∷ o;
      stored = slice_set d.stored q x;
      doing =
          Idle;
    }) e × (q < width f)) (sym is_half) (
      record {
        same = r.same;
        lawful = r.lawful;
        words = driver_stores f ws d.stored e.stored q x r.words own;
        places = places_stored f o h i x r.places;
        room = r.room;
        addresses = row_same f.size 0 (slice_set d.stored q x) (offer_position f o) [] (λ j. (made_at f o j).addr)
            (λ j. (made_at f o2 j).addr) (λ j a. refl)
            (row_elsewhere f.size 0 d.stored (offer_position f o) [] (λ j. (made_at f o j).addr) q x pos
            (λ j a e2. omega arith) r.addresses);
        seconds = row_same f.size 1 (slice_set ws q x) (offer_position f o) [] (second_at f o s) (second_at f o2 s)
            (λ j a. stands_kept f o o2 j (made_at f o j) (mark_at f o s j) (λ k. refl))
            (row_elsewhere f.size 1 ws (offer_position f o) [] (second_at f o s) q x pos (λ j a e2. omega arith) r.seconds);
        tables = kept_past f o d.stored q x r.places (inr (omega arith)) r.tables;
        lists = lists_stored f o h i x s r.lists;
        short = r.short;
        driver_signals = signals_elsewhere f (driver_event f) (kick_at f) d.armed d.bells d.stored q x (λ a. omega arith)
            (λ a. omega (arith, follow)) r.driver_signals;
        device_signals = r.device_signals;
        commands = commands_stored f (command_word f) (ack_word f) o i x d.stored r.places (commands_apart f) n.two n.room
            (omega arith) r.commands;
        acks = acks_stored f (ack_word f) o h i x s e.stored r.acks;
        driver_doing = tt;
        device_doing = doing_stored e.doing f o h i x s r.device_doing;
        kicks = r.kicks;
        calls = r.calls;
        driver_armed = tt;
        device_armed = r.device_armed;
        driver_seen = r.driver_seen;
        device_seen = r.device_seen;
        driver_shown = r.driver_shown;
        device_shown = r.device_shown;
        rested = r.rested;
      },
      inside,
    )))

-- ---- the load of an ack word

pub loads_ack : (ws : List ℕ) (d : DriverView) (e : DeviceView) (y : ℕ) → Ring ws (record d { doing = Idle }) e → (k : ℕ)
    → d.frame.control ≡ true → last_collected d.done ≡ Some k → y ≡ slice_index e.stored (ack_word d.frame (head d.frame d.done k))
    → Ring ws (driver_acks (record d { doing = Idle }) y) e
loads_ack ws d e y r k on last is =
    let f : Frame = d.frame in let o : List DriverDone = d.done in let s : List DeviceDone = e.done in
    let o2 : List DriverDone = LoadAck k y ∷ o in
    subst (λ (j : ℕ). Ring ws (record d { done = LoadAck j y ∷ o; doing = Idle }) e) (sym (ap (λ (z : Option ℕ). unwrap_or z 0) last))
    record {
      same = r.same;
      lawful = r.lawful;
      words = r.words;
      places = places_loaded f o k y r.places;
      room = r.room;
      addresses = row_same f.size 0 d.stored (offer_position f o) [] (λ j. (made_at f o j).addr) (λ j. (made_at f o2 j).addr)
          (λ j a. refl) r.addresses;
      seconds = row_same f.size 1 ws (offer_position f o) [] (second_at f o s) (second_at f o2 s)
          (λ j a. stands_kept f o o2 j (made_at f o j) (mark_at f o s j) (λ k. refl)) r.seconds;
      tables = r.tables;
      lists = lists_loaded f o k y s r.lists;
      short = r.short;
      driver_signals = r.driver_signals;
      device_signals = r.device_signals;
      commands = commands_loaded f (command_word f) (ack_word f) o k y d.stored r.commands;
      acks = acks_loaded f (ack_word f) o k y s e.stored r.lists on last is r.acks;
      driver_doing = tt;
      device_doing = doing_loaded e.doing f o k y s r.device_doing;
      kicks = r.kicks;
      calls = r.calls;
      driver_armed = tt;
      device_armed = r.device_armed;
      driver_seen = r.driver_seen;
      device_seen = r.device_seen;
      driver_shown = r.driver_shown;
      device_shown = r.device_shown;
      rested = r.rested;
    }
