-- The accesses of a collect keep the ring invariant.
use Rattle.std.proofs.Common.{◌≡◌, ℕ, ◌+◌, ◌%◌, ◌<◌, ◌≤◌, Bool, true, false, not, None, List, [], ◌∷◌, ◌++◌, length, if◌then◌else◌, refl, sym, ap, ◌∙◌, subst, arith}
use Rattle.std.proofs.lemmas.Bool.{not-true}
use Rattle.std.proofs.lemmas.List.{length_push}
use Rattle.vd_bits.specs.Lanes.{lane16, lane32}
use Rattle.vd_ring.specs.declared.frame.Frame.{Frame}
use Rattle.vd_ring.specs.declared.frame.Used.{Used}
use Rattle.vd_ring.specs.declared.driver.DriverDone.{DriverDone}
use Rattle.vd_ring.specs.declared.driver.DriverDone.TheVariants.{Collect}
use Rattle.vd_ring.specs.declared.driver.DriverNow.TheVariants.{Idle, Collecting}
use Rattle.vd_ring.specs.declared.driver.DriverView.{DriverView}
use Rattle.vd_ring.specs.declared.device.DeviceDone.{DeviceDone}
use Rattle.vd_ring.specs.declared.device.DeviceNow.{DeviceNow}
use Rattle.vd_ring.specs.declared.device.DeviceNow.TheVariants as device
use Rattle.vd_ring.specs.declared.device.DeviceView.{DeviceView}
use Rattle.vd_ring.specs.History.{offers, collects, gives, open_at, head, chain, occurs, used_at, collected, with_head}
use Rattle.vd_ring.specs.Places.{Places}
use Rattle.vd_ring.specs.Lists.{Lists}
use Rattle.vd_ring.proofs.Counts.{occurs_from, Contains_from, occurs_without, with_head_is}
use Rattle.vd_ring.proofs.HeldPlaces.{collect_places, same_head}
use Rattle.vd_ring.proofs.ListSteps.{same_used, batch_one, entry_is, next_open, given_within, lists_collected, may_return}
use Rattle.vd_ring.proofs.ControlSteps.{commands_collected, acks_collected}
use Rattle.vd_split_ring.specs.SplitWords.{command_word, ack_word, shows, shown_from, ShowsIndex, used_id, used_len}
use Rattle.vd_split_ring.specs.SplitDriver.{NamesOpen, driver_looks, driver_collects}
use Rattle.vd_ring.specs.laws.Signals.{moves}
use Rattle.vd_split_ring.specs.SplitRing.{DriverWords, DeviceWords, Ring, DeviceDoing, HasSeen, Finds, Loads, entries_out, entries_in}
use Rattle.vd_split_ring.proofs.Areas.{shows_more, shows_further, shown_is}

-- ---- the look

-- the loaded index is the count of entries given
pub counts_given : (ws : List ℕ) (d : DriverView) (e : DeviceView) (g : ℕ) → lane16 g 1 ≡ length (gives e.done) % 65536 → Ring ws d e
    → shown_from g (length (collects d.done)) ≡ length (gives e.done)
counts_given ws d e g lane r =
    let near = given_within d.frame d.done e.done r.places r.lists in
    shown_is g (length (collects d.done)) (length (gives e.done)) lane r.lists.fewer (omega (arith, near, r.lawful.small))

looks_at : (ws : List ℕ) (d : DriverView) (e : DeviceView) (g : ℕ) (b : Bool) → lane16 g 1 ≡ length (gives e.done) % 65536
    → Ring ws (record d { doing = Idle }) e → d.armed ≡ None → shows g (length (collects d.done)) ≡ b
    → Ring ws (if b then record d { doing = Idle; seen = shown_from g (length (collects d.done)); shown = false } else record d {
      seen =
          shown_from g (length (collects d.done));
      shown = true;
      doing = Collecting (g ∷ []);
    }) e
looks_at ws d e g true lane r unarmed eq = record {
  same = r.same;
  lawful = r.lawful;
  words = r.words;
  places = r.places;
  driver_words = r.driver_words;
  lists = r.lists;
  device_words = r.device_words;
  driver_signals = r.driver_signals;
  device_signals = r.device_signals;
  commands = r.commands;
  acks = r.acks;
  driver_doing = tt;
  device_doing = r.device_doing;
  driver_seen = omega (arith, counts_given ws (record d { doing = Idle }) e g lane r);
  driver_cut = λ h. absurd (omega (arith, counts_given ws (record d { doing = Idle }) e g lane r));
  device_seen = r.device_seen;
  driver_shown = λ h. absurd cc;
  device_shown = r.device_shown;
  kicks = r.kicks;
  calls = r.calls;
  driver_armed = tt;
  device_armed = r.device_armed;
  rested = r.rested;
}
looks_at ws d e g false lane r unarmed eq =
    let is : shown_from g (length (collects d.done)) ≡ length (gives e.done) = counts_given ws (record d { doing = Idle }) e g lane r in
    let more : length (collects d.done) < length (gives e.done) =
    shows_more g (length (collects d.done)) (length (gives e.done)) lane r.lists.fewer eq in record {
      same = r.same;
      lawful = r.lawful;
      words = r.words;
      places = r.places;
      driver_words = r.driver_words;
      lists = r.lists;
      device_words = r.device_words;
      driver_signals = r.driver_signals;
      device_signals = r.device_signals;
      commands = r.commands;
      acks = r.acks;
      driver_doing = record { lane = lane ∙ ap (λ n. n % 65536) (sym is); more = omega (arith, is) };
      device_doing = r.device_doing;
      driver_seen = omega (arith, is);
      driver_cut = λ h. absurd (omega (arith, is));
      device_seen = r.device_seen;
      driver_shown = λ h. omega (arith, is);
      device_shown = r.device_shown;
      kicks = r.kicks;
      calls = moves (entries_out e) (entries_in (record d { doing = Idle })) (length (collects d.done)) false unarmed r.calls;
      driver_armed = unarmed;
      device_armed = r.device_armed;
      rested = r.rested;
    }

pub looks : (ws : List ℕ) (d : DriverView) (e : DeviceView) (g : ℕ) → lane16 g 1 ≡ length (gives e.done) % 65536
    → Ring ws (record d { doing = Idle }) e → d.armed ≡ None → Ring ws (driver_looks (record d { doing = Idle }) g) e
looks ws d e g lane r unarmed = looks_at ws d e g (shows g (length (collects d.done))) lane r unarmed refl

pub look_tells : (ws : List ℕ) (d : DriverView) (e : DeviceView) (g : ℕ) → lane16 g 1 ≡ length (gives e.done) % 65536 → Ring ws d e
    → ShowsIndex g d.seen (length (collects d.done)) (length (offers d.done))
    × (d.shown ≡ true → shows g (length (collects d.done)) ≡ false)
look_tells ws d e g lane r =
    let near = given_within d.frame d.done e.done r.places r.lists in (
      record { index = length (gives e.done); lane = lane; least = r.lists.fewer; most = near.0; forward = r.driver_seen },
      λ h. shows_further g (length (collects d.done)) (length (gives e.done)) lane (omega (arith, r.driver_shown h, r.driver_seen))
          (omega (arith, near, r.lawful.small)),
    )

-- ---- the word with the id

names_open : (f : Frame) (o : List DriverDone) (s : List DeviceDone) (w : ℕ) → Places f o → Lists f o s
    → length (collects o) < length (gives s) → Finds f o s w → NamesOpen f o (lane32 w 1)
names_open f o s w p l below n =
    let is : used_at (gives s) (length (collects o)) ≡ n.used = (entry_is f s (length (collects o)) n.used l.entries n.begins).1 in record {
      number = n.used.number;
      is_open = Contains_from n.used.number (open_at o)
          (subst (λ (u : Used). 1 ≤ occurs u.number (open_at o)) is (next_open f o s p l below));
      is_head = sym n.is_id;
      next = may_return f (chain o) (length (collects o)) n.used.number (λ on. ap (λ (u : Used). u.number) (sym is)
          ∙ l.in_order on (length (collects o)) below);
    }

pub finds : (ws : List ℕ) (d : DriverView) (e : DeviceView) (g w : ℕ) → Ring ws (record d { doing = Collecting (g ∷ []) }) e
    → lane32 w 1 ≡ used_id d.frame e.stored (length (collects d.done))
    → Ring ws (record d { doing = Collecting (g ∷ w ∷ []) }) e × NamesOpen d.frame d.done (lane32 w 1)
finds ws d e g w r is =
    let f = d.frame in let o : List DriverDone = d.done in let s : List DeviceDone = e.done in
    let seen : HasSeen g d.seen (length (collects o)) = r.driver_doing in
    let more : length (collects o) < length (gives s) = omega (arith, seen.more, r.driver_seen) in
    let next = r.lists.cut more in
    let n : Finds f o s w = record {
      used = next.0;
      begins = next.1;
      is_id =
          is ∙ r.device_words.ids (length (collects o)) next.0 (omega arith) next.1;
    } in (
      record {
        same = r.same;
        lawful = r.lawful;
        words = r.words;
        places = r.places;
        driver_words = r.driver_words;
        lists = r.lists;
        device_words = r.device_words;
        driver_signals = r.driver_signals;
        device_signals = r.device_signals;
        commands = r.commands;
        acks = r.acks;
        driver_doing = (seen, n);
        device_doing = r.device_doing;
        driver_seen = r.driver_seen;
        driver_cut = r.driver_cut;
        device_seen = r.device_seen;
        driver_shown = r.driver_shown;
        device_shown = r.device_shown;
        kicks = r.kicks;
        calls = r.calls;
        driver_armed = r.driver_armed;
        device_armed = r.device_armed;
        rested = r.rested;
      },
      names_open f o s w r.places r.lists more n,
    )

-- ---- the last load

driver_words_collected : (f : Frame) (o : List DriverDone) (u : Used) (ws : List ℕ) → 1 ≤ occurs u.number (open_at o)
    → DriverWords f o ws → DriverWords f (Collect (u ∷ []) ∷ o) ws
driver_words_collected f o u ws here d = record {
  index = d.index;
  entries = λ k low high. d.entries k (omega (arith, length_push (collects o) u)) high;
  spelled = λ k a. d.spelled k (Contains_from k (open_at o)
      (omega (arith, occurs_from k (open_at (Collect (u ∷ []) ∷ o)) a, occurs_without k u.number (open_at o) here)));
}

device_words_collected : (f : Frame) (o : List DriverDone) (u : Used) (s : List DeviceDone) (ws : List ℕ) → DeviceWords f o s ws
    → DeviceWords f (Collect (u ∷ []) ∷ o) s ws
device_words_collected f o u s ws r = record {
  index = r.index;
  ids = λ j v low is. r.ids j v (omega (arith, length_push (collects o) u)) is;
  lens = λ j v low is. r.lens j v (omega (arith, length_push (collects o) u)) is;
}

loads_collected : (f : Frame) (o : List DriverDone) (u : Used) (k w : ℕ) (ws : List ℕ) → Loads f o k w ws
    → Loads f (Collect (u ∷ []) ∷ o) k w ws
loads_collected f o u k w ws l = record { is_head = l.is_head; words = l.words; left = l.left }

doing_collected : (now : DeviceNow) (f : Frame) (o : List DriverDone) (u : Used) (s : List DeviceDone) (st : List ℕ) (seen : ℕ)
    → DeviceDoing now f o s st seen → DeviceDoing now f (Collect (u ∷ []) ∷ o) s st seen
doing_collected (device.Taking []) f o u s st seen h = h
doing_collected (device.Taking (r ∷ [])) f o u s st seen h = h
doing_collected (device.Taking (r ∷ w ∷ ws)) f o u s st seen h = (h.0, loads_collected f o u _ w ws h.1)
doing_collected (device.Giving []) f o u s st seen h = h
doing_collected (device.Giving (a ∷ [])) f o u s st seen h = h
doing_collected (device.Giving (a ∷ b ∷ [])) f o u s st seen h = h
doing_collected (device.Giving (a ∷ b ∷ x ∷ ws)) f o u s st seen h = h
doing_collected _ f o u s st seen h = h

-- what is collected is the next entry given
pub collected_is : (ws : List ℕ) (d : DriverView) (e : DeviceView) (g w x : ℕ)
    → Ring ws (record d { doing = Collecting (g ∷ w ∷ []) }) e → lane32 x 0 ≡ used_len d.frame e.stored (length (collects d.done))
    → (collected d.frame d.done (lane32 w 1) (lane32 x 0) ≡ used_at (gives e.done) (length (collects d.done)) ∷ [])
    × (length (collects d.done) < length (gives e.done))
    × (1 ≤ occurs (used_at (gives e.done) (length (collects d.done))).number (open_at d.done))
collected_is ws d e g w x r is =
    let f = d.frame in let o : List DriverDone = d.done in let s : List DeviceDone = e.done in
    let m : ℕ = length (collects o) in
    let u : Used = used_at (gives s) m in
    let seen : HasSeen g d.seen m = r.driver_doing.0 in
    let n : Finds f o s w = r.driver_doing.1 in
    let more : m < length (gives s) = omega (arith, seen.more, r.driver_seen) in
    let same : u ≡ n.used = (entry_is f s m n.used r.lists.entries n.begins).1 in
    let here : 1 ≤ occurs u.number (open_at o) = next_open f o s r.places r.lists more in
    let id : lane32 w 1 ≡ head f o u.number = n.is_id ∙ ap (λ (v : Used). head f o v.number) (sym same) in
    let number : with_head (head f o) (open_at o) (lane32 w 1) ≡ u.number =
    with_head_is (head f o) (open_at o) (lane32 w 1) u.number (sym id) here
    (λ j a e2. same_head f o j u.number r.places a here (e2 ∙ id)) in
    let len : lane32 x 0 ≡ u.len = is ∙ r.device_words.lens m n.used (omega arith) n.begins ∙ ap (λ (v : Used). v.len) (sym same) in (
      batch_one f (chain o) m (with_head (head f o) (open_at o) (lane32 w 1)) (lane32 x 0) (λ on. number ∙ r.lists.in_order on m more)
          ∙ ap (λ (v : Used). v ∷ []) (same_used (with_head (head f o) (open_at o) (lane32 w 1)) (lane32 x 0) u number len),
      more,
      here,
    )

pub collects_last : (ws : List ℕ) (d : DriverView) (e : DeviceView) (g w x : ℕ)
    → Ring ws (record d { doing = Collecting (g ∷ w ∷ []) }) e → lane32 x 0 ≡ used_len d.frame e.stored (length (collects d.done))
    → Ring ws (driver_collects d g w x) e × NamesOpen d.frame d.done (lane32 w 1)
collects_last ws d e g w x r is =
    let f = d.frame in let o : List DriverDone = d.done in let s : List DeviceDone = e.done in
    let m : ℕ = length (collects o) in
    let u : Used = used_at (gives s) m in
    let seen : HasSeen g d.seen m = r.driver_doing.0 in
    let c = collected_is ws d e g w x r is in
    let longer : length (collects o ++ u ∷ []) ≡ m + 1 = length_push (collects o) u in (
      subst (λ (us : List Used). Ring ws (record d {
        done = Collect us ∷ o;
        shown = not (shows g (length (collects o ++ us)));
        doing =
            Idle;
      }) e) (sym c.0) record {
        same = r.same;
        lawful = r.lawful;
        words = r.words;
        places = collect_places f o u r.places c.2;
        driver_words = driver_words_collected f o u d.stored c.2 r.driver_words;
        lists = lists_collected f o s r.lists c.1;
        device_words = device_words_collected f o u s e.stored r.device_words;
        driver_signals = r.driver_signals;
        device_signals = r.device_signals;
        commands = commands_collected f (command_word f) (ack_word f) o u d.stored c.2 r.commands;
        acks = acks_collected f (ack_word f) o s e.stored c.1 r.acks;
        driver_doing = tt;
        device_doing = doing_collected e.doing f o u s e.stored e.seen r.device_doing;
        driver_seen = r.driver_seen;
        driver_cut = r.driver_cut;
        device_seen = r.device_seen;
        driver_shown = λ h. shows_more g (length (collects o ++ u ∷ [])) d.seen seen.lane (omega (arith, seen.more))
            (not-true (shows g (length (collects o ++ u ∷ []))) h);
        device_shown = r.device_shown;
        kicks = r.kicks;
        calls = moves (entries_out e) (entries_in (record d { doing = Collecting (g ∷ w ∷ []) })) (length (collects o ++ u ∷ [])) true
            r.driver_armed r.calls;
        driver_armed = tt;
        device_armed = r.device_armed;
        rested = r.rested;
      },
      names_open f o s w r.places r.lists c.1 r.driver_doing.1,
    )
