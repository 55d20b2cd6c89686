-- The load of a collect keeps the ring invariant, and finds the next entry exactly where there is one.
use Rattle.std.proofs.Common.{◌≡◌, ℕ, ◌+◌, ◌<◌, ◌≤◌, Bool, true, false, List, [], ◌∷◌, length, if◌then◌else◌, slice_index, Option, Some, None, refl, sym, ap, ◌∙◌, subst, arith, inl, inr}
use Rattle.std.specs.List.{All, sum_by}
use Rattle.std.proofs.lemmas.Bool.{cases_lt}
use Rattle.std.proofs.lemmas.List.{take_all}
use Rattle.vd_model.specs.Chains.{needs}
use Rattle.vd_ring.specs.declared.frame.Frame.{Frame}
use Rattle.vd_ring.specs.declared.frame.Put.{Put}
use Rattle.vd_ring.specs.declared.frame.Used.{Used}
use Rattle.vd_ring.specs.declared.driver.DriverDone.{DriverDone}
use Rattle.vd_ring.specs.declared.driver.DriverDone.TheVariants.{Collect}
use Rattle.vd_ring.specs.declared.driver.DriverNow.TheVariants.{Idle}
use Rattle.vd_ring.specs.declared.driver.DriverView.{DriverView}
use Rattle.vd_ring.specs.declared.device.DeviceDone.{DeviceDone}
use Rattle.vd_ring.specs.declared.device.DeviceNow.{DeviceNow}
use Rattle.vd_ring.specs.declared.device.DeviceNow.TheVariants as device
use Rattle.vd_ring.specs.declared.device.DeviceView.{DeviceView}
use Rattle.vd_ring.specs.History.{entry, open_size, offers, collects, takes, gives, open_at, head, chain, occurs, used_at, collected, with_head}
use Rattle.vd_ring.specs.Places.{Places}
use Rattle.vd_ring.specs.laws.Signals.{moves}
use Rattle.vd_ring.specs.Lists.{Lists}
use Rattle.vd_ring.proofs.Counts.{sum_one, Contains_from, with_head_is}
use Rattle.vd_ring.proofs.HeldPlaces.{open_below, chain_fits, collect_places, same_head}
use Rattle.vd_ring.proofs.HeldInside.{head_low}
use Rattle.vd_ring.proofs.ListSteps.{same_used, batch_one, entry_is, next_open, lists_collected, may_return}
use Rattle.vd_ring.proofs.ControlSteps.{commands_collected, acks_collected}
use Rattle.vd_packed_ring.specs.PackedWords.{IsLawful, command_word, ack_word, second_word, len_of, id_of, is_used, is_available, used_word}
use Rattle.vd_packed_ring.specs.PackedChains.{Descriptor}
use Rattle.vd_packed_ring.specs.PackedPositions.{offer_position, collect_position, take_position, give_position, made_at, mark_at, stands, second_at, later}
use Rattle.vd_packed_ring.specs.PackedDriver.{NamesOpen, ShowsGives, driver_looks, driver_collects}
use Rattle.vd_packed_ring.specs.PackedRing.{Ring, Row, Loads, DeviceDoing, puts_of, entries_out, entries_in}
use Rattle.vd_packed_ring.proofs.WordFacts.{Fits, avail_unused, avail_unused_next, avail_next, used_shows, used_next, used_unavailable, zero_unused, used_id, used_len}
use Rattle.vd_packed_ring.proofs.Rows.{nothing_staged, row_same, row_ahead}
use Rattle.vd_packed_ring.proofs.Positions.{needs_some, order, give_position_is, collect_position_is, collect_position_collected, later_within}
use Rattle.vd_packed_ring.proofs.Kept.{kept_collected}
use Rattle.vd_packed_ring.proofs.Made.{at_fits, IsMark, marks_are, mark_past, mark_entry}

-- ---- what stood a turn before is neither used nor available

low_head : (f : Frame) (o : List DriverDone) (k : ℕ) → IsLawful f → head f o k < 65536
low_head f o k l = omega (arith, head_low f o k (omega (arith, l.least)), l.most)

stands_unused : (f : Frame) (o : List DriverDone) (q : ℕ) (d : Descriptor) (m : Option Used) → IsLawful f → Fits d
    → IsMark (λ u. u.len < 4294967296) m → is_used f.size (q + f.size) (stands f o q d m) ≡ false
stands_unused f o q d None l fits h = avail_unused_next f.size q d (omega (arith, l.least)) fits
stands_unused f o q d (Some u) l fits h = used_next f.size q (head f o u.number) u.len (omega (arith, l.least)) (low_head f o u.number l) h

stands_unavailable : (f : Frame) (o : List DriverDone) (q : ℕ) (d : Descriptor) (m : Option Used) → IsLawful f → Fits d
    → IsMark (λ u. u.len < 4294967296) m → is_available f.size (q + f.size) (stands f o q d m) ≡ false
stands_unavailable f o q d None l fits h = avail_next f.size q d (omega (arith, l.least)) fits
stands_unavailable f o q d (Some u) l fits h = used_unavailable f.size q (head f o u.number) u.len (omega (arith, l.least))
    (low_head f o u.number l) h

short_mark : (f : Frame) (o : List DriverDone) (s : List DeviceDone) (q : ℕ) → Lists f o s → All (λ u. u.len < 4294967296) (gives s)
    → IsMark (λ u. u.len < 4294967296) (mark_at f o s q)
short_mark f o s q l short = marks_are (λ u. u.len < 4294967296) f (λ k. needs f.features (chain o k)) s q l.entries short

pub old_unused : (f : Frame) (o : List DriverDone) (s : List DeviceDone) (q : ℕ) → IsLawful f → Places f o → Lists f o s
    → All (λ u. u.len < 4294967296) (gives s) → is_used f.size (q + f.size) (second_at f o s q) ≡ false
old_unused f o s q l p li short = stands_unused f o q (made_at f o q) (mark_at f o s q) l (at_fits f o q l p.fits)
    (short_mark f o s q li short)

pub old_unavailable : (f : Frame) (o : List DriverDone) (s : List DeviceDone) (q : ℕ) → IsLawful f → Places f o → Lists f o s
    → All (λ u. u.len < 4294967296) (gives s) → is_available f.size (q + f.size) (second_at f o s q) ≡ false
old_unavailable f o s q l p li short = stands_unavailable f o q (made_at f o q) (mark_at f o s q) l (at_fits f o q l p.fits)
    (short_mark f o s q li short)

-- ---- the word at the position of the driver's next collect

-- all that was given is collected
pub all_collected : (f : Frame) (o : List DriverDone) (s : List DeviceDone) → Lists f o s → length (gives s) ≤ length (collects o)
    → collect_position f o ≡ give_position f s
all_collected f o s l none = collect_position_is f o s l
    ∙ (ap (sum_by (λ (u : Used). needs f.features (chain o u.number))) (take_all (length (collects o)) (gives s) none)
    ∙ sym (give_position_is f o s l))

-- where nothing is staged
seconds_clear : (ws : List ℕ) (d : DriverView) (e : DeviceView) → puts_of d.doing ≡ [] → Ring ws d e
    → Row d.frame.size 1 ws (offer_position d.frame d.done) [] (second_at d.frame d.done e.done)
seconds_clear ws d e clear r =
    subst (λ (l : List Put). Row d.frame.size 1 ws (offer_position d.frame d.done) l (second_at d.frame d.done e.done)) clear r.seconds

pub shows_none : (ws : List ℕ) (d : DriverView) (e : DeviceView) → puts_of d.doing ≡ [] → Ring ws d e
    → length (gives e.done) ≤ length (collects d.done)
    → is_used d.frame.size (collect_position d.frame d.done)
    (slice_index ws (second_word d.frame.size (collect_position d.frame d.done))) ≡ false
shows_none ws d e clear r none =
    let f : Frame = d.frame in let o : List DriverDone = d.done in let s : List DeviceDone = e.done in
    let n : ℕ = f.size in let c : ℕ = collect_position f o in
    let pos : 0 < n = omega (arith, r.lawful.least) in
    let same : c ≡ give_position f s = all_collected f o s r.lists none in
    let ord = order f o s r.places r.lists in
    elim (cases_lt c (offer_position f o)) [
      | inl low ↦ (
          let word : slice_index ws (second_word n c) ≡ second_at f o s c =
          (seconds_clear ws d e clear r).kept c low r.room (nothing_staged (second_word n c)) in
          let unmarked : mark_at f o s c ≡ None =
          mark_past (λ k. needs f.features (chain o k)) s c (omega (arith, same, give_position_is f o s r.lists)) in
          ap (is_used n c) (word ∙ ap (λ (m : Option Used). stands f o c (made_at f o c) m) unmarked)
          ∙ avail_unused n c (made_at f o c) (at_fits f o c r.lawful r.places.fits)
          )
      | inr high ↦ (
          let top : offer_position f o ≡ c = omega (arith, ord.open_span, ord.given, ord.taken, same) in
          subst (λ (t : ℕ). is_used n t (slice_index ws (second_word n t)) ≡ false) top
          (row_ahead n 1 ws (offer_position f o) [] (second_at f o s) (λ x. is_used n (offer_position f o) x ≡ false) pos
          (nothing_staged (second_word n (offer_position f o))) (λ a. zero_unused n (offer_position f o) a)
          (λ q h. subst (λ (t : ℕ). is_used n t (second_at f o s q) ≡ false) h (old_unused f o s q r.lawful r.places r.lists r.short))
          (seconds_clear ws d e clear r))
          )
    ]

pub record Found (f : Frame) (o : List DriverDone) (s : List DeviceDone) (w : ℕ) : Type 0 where
  pub shows : is_used f.size (collect_position f o) w ≡ true
  pub is : collected f o (id_of w) (len_of w) ≡ used_at (gives s) (length (collects o)) ∷ []
  pub here : 1 ≤ occurs (used_at (gives s) (length (collects o))).number (open_at o)
  pub is_id : id_of w ≡ head f o (used_at (gives s) (length (collects o))).number

pub found : (ws : List ℕ) (d : DriverView) (e : DeviceView) → puts_of d.doing ≡ [] → Ring ws d e
    → length (collects d.done) < length (gives e.done)
    → Found d.frame d.done e.done (slice_index ws (second_word d.frame.size (collect_position d.frame d.done)))
found ws d e clear r more =
    let f : Frame = d.frame in let o : List DriverDone = d.done in let s : List DeviceDone = e.done in
    let n : ℕ = f.size in let c : ℕ = collect_position f o in let m : ℕ = length (collects o) in
    let u : Used = used_at (gives s) m in
    let here : 1 ≤ occurs u.number (open_at o) = next_open f o s r.places r.lists more in
    let below : u.number < length (offers o) = open_below f o u.number r.places here in
    let cut = r.lists.cut more in
    let same : u ≡ cut.0 = (entry_is f s m cut.0 r.lists.entries cut.1).1 in
    let some : 0 < needs f.features (chain o u.number) =
    omega (arith, needs_some f (chain o u.number) (chain_fits f o u.number r.places below)) in
    let marked : mark_at f o s c ≡ Some u = ap (λ (q : ℕ). mark_at f o s q) (collect_position_is f o s r.lists)
    ∙ mark_entry f (λ k. needs f.features (chain o k)) s m u r.lists.entries (cut.1 ∙ ap Some (sym same)) some in
    let ord = order f o s r.places r.lists in
    let held : 1 ≤ open_size f o = omega (arith, sum_one (λ k. needs f.features (chain o k)) u.number (open_at o) here) in
    let word : slice_index ws (second_word n c) ≡ used_word n c (head f o u.number) u.len =
    (seconds_clear ws d e clear r).kept c (omega (arith, ord.open_span)) r.room (nothing_staged (second_word n c))
    ∙ ap (λ (x : Option Used). stands f o c (made_at f o c) x) marked in
    let short : u.len < 4294967296 = r.short m (entry 0 0) more in
    let low = low_head f o u.number r.lawful in
    let w : ℕ = slice_index ws (second_word n c) in
    let id : id_of w ≡ head f o u.number = ap id_of word ∙ used_id n c (head f o u.number) u.len low short in
    let len : len_of w ≡ u.len = ap len_of word ∙ used_len n c (head f o u.number) u.len short in
    let number : with_head (head f o) (open_at o) (id_of w) ≡ u.number =
    with_head_is (head f o) (open_at o) (id_of w) u.number (sym id) here
    (λ j a e2. same_head f o j u.number r.places a here (e2 ∙ id)) in
    record {
      shows = ap (is_used n c) word ∙ used_shows n c (head f o u.number) u.len low short;
      is = batch_one f (chain o) m (with_head (head f o) (open_at o) (id_of w)) (len_of w) (λ on. number ∙ r.lists.in_order on m more)
          ∙ ap (λ (v : Used). v ∷ []) (same_used (with_head (head f o) (open_at o) (id_of w)) (len_of w) u number len);
      here = here;
      is_id = id;
    }

-- an entry given and not collected takes a descriptor at least
pub entry_before : (f : Frame) (o : List DriverDone) (s : List DeviceDone) → Places f o → Lists f o s
    → length (collects o) < length (gives s) → collect_position f o < give_position f s
entry_before f o s p l more =
    let m : ℕ = length (collects o) in let u : Used = used_at (gives s) m in
    let below : u.number < length (offers o) = open_below f o u.number p (next_open f o s p l more) in
    let lists2 = lists_collected f o s l more in
    let ord = order f (Collect (u ∷ []) ∷ o) s (collect_places f o u p (next_open f o s p l more)) lists2 in
    omega (arith, collect_position_collected f o u, ord.collected, needs_some f (chain o u.number) (chain_fits f o u.number p below))

-- ---- the collect

-- acts that offer nothing leave what stands at each position
pub stands_kept : (f : Frame) (o o2 : List DriverDone) (q : ℕ) (d : Descriptor) (m : Option Used) → ((k : ℕ) → head f o2 k ≡ head f o k)
    → stands f o2 q d m ≡ stands f o q d m
stands_kept f o o2 q d None h = refl
stands_kept f o o2 q d (Some u) h = ap (λ (id : ℕ). used_word f.size q id u.len) (h u.number)

loads_collected : (f : Frame) (o : List DriverDone) (us : List Used) (k q : ℕ) (ws : List ℕ) → Loads f o k q ws
    → Loads f (Collect us ∷ o) k q ws
loads_collected f o us k q ws l = record { more = l.more; words = l.words; left = l.left }

doing_collected : (now : DeviceNow) (f : Frame) (o : List DriverDone) (us : List Used) (s : List DeviceDone) → DeviceDoing now f o s
    → DeviceDoing now f (Collect us ∷ o) s
doing_collected (device.Taking (w ∷ ws)) f o us s h = loads_collected f o us (length (takes s)) (take_position f s) (w ∷ ws) h
doing_collected (device.Taking []) f o us s h = absurd h
doing_collected (device.Giving ws) f o us s h = absurd h
doing_collected device.Resting f o us s h = h
doing_collected _ f o us s h = tt

collects_entry : (ws : List ℕ) (d : DriverView) (e : DeviceView) (w : ℕ) → Ring ws (record d { doing = Idle }) e → d.armed ≡ None
    → length (collects d.done) < length (gives e.done) → Found d.frame d.done e.done w
    → Ring ws (driver_collects (record d { doing = Idle }) w) e
collects_entry ws d e w r unarmed more n =
    let f : Frame = d.frame in let o : List DriverDone = d.done in let s : List DeviceDone = e.done in
    let u : Used = used_at (gives s) (length (collects o)) in
    let o2 : List DriverDone = Collect (u ∷ []) ∷ o in
    let places2 = collect_places f o u r.places n.here in
    let lists2 = lists_collected f o s r.lists more in
    let ord = order f o2 s places2 lists2 in
    subst (λ (us : List Used). Ring ws
    (record d { done = Collect us ∷ o; doing = Idle; seen = later d.seen (collect_position f (Collect us ∷ o)); shown = false }) e)
    (sym n.is) record {
      same = r.same;
      lawful = r.lawful;
      words = r.words;
      places = places2;
      room = omega (arith, r.room, collect_position_collected f o u);
      addresses = row_same f.size 0 d.stored (offer_position f o) [] (λ q. (made_at f o q).addr) (λ q. (made_at f o2 q).addr)
          (λ q a. refl) r.addresses;
      seconds = row_same f.size 1 ws (offer_position f o) [] (second_at f o s) (second_at f o2 s)
          (λ q a. stands_kept f o o2 q (made_at f o q) (mark_at f o s q) (λ k. refl)) r.seconds;
      tables = kept_collected f o u d.stored n.here r.tables;
      lists = lists2;
      short = r.short;
      driver_signals = r.driver_signals;
      device_signals = r.device_signals;
      commands = commands_collected f (command_word f) (ack_word f) o u d.stored n.here r.commands;
      acks = acks_collected f (ack_word f) o s e.stored more r.acks;
      driver_doing = tt;
      device_doing = doing_collected e.doing f o (u ∷ []) s r.device_doing;
      kicks = r.kicks;
      calls = moves (entries_out e) (entries_in (record d { doing = Idle })) (collect_position f o2) true unarmed r.calls;
      driver_armed = tt;
      device_armed = r.device_armed;
      driver_seen = later_within _ _ _ r.driver_seen ord.collected;
      device_seen = r.device_seen;
      driver_shown = λ h. absurd cc;
      device_shown = r.device_shown;
      rested = r.rested;
    }

finds_none : (ws : List ℕ) (d : DriverView) (e : DeviceView) → Ring ws (record d { doing = Idle }) e
    → Ring ws (record d { doing = Idle; seen = later d.seen (collect_position d.frame d.done); shown = false }) e
finds_none ws d e r = record {
  same = r.same;
  lawful = r.lawful;
  words = r.words;
  places = r.places;
  room = r.room;
  addresses = r.addresses;
  seconds = r.seconds;
  tables = r.tables;
  lists = r.lists;
  short = r.short;
  driver_signals = r.driver_signals;
  device_signals = r.device_signals;
  commands = r.commands;
  acks = r.acks;
  driver_doing = tt;
  device_doing = r.device_doing;
  kicks = r.kicks;
  calls = r.calls;
  driver_armed = tt;
  device_armed = r.device_armed;
  driver_seen = later_within _ _ _ r.driver_seen (order d.frame d.done e.done r.places r.lists).collected;
  device_seen = r.device_seen;
  driver_shown = λ h. absurd cc;
  device_shown = r.device_shown;
  rested = r.rested;
}

names_open : (f : Frame) (o : List DriverDone) (s : List DeviceDone) (w : ℕ) → Lists f o s → length (collects o) < length (gives s)
    → Found f o s w → NamesOpen f o (id_of w)
names_open f o s w l more n =
    let u : Used = used_at (gives s) (length (collects o)) in
    record {
      number = u.number;
      is_open = Contains_from u.number (open_at o) n.here;
      is_head = sym n.is_id;
      next =
          may_return f (chain o) (length (collects o)) u.number (λ on. l.in_order on (length (collects o)) more);
    }

-- what a look tells, where nothing is staged
pub look_tells : (ws : List ℕ) (d : DriverView) (e : DeviceView) (w : ℕ) → puts_of d.doing ≡ [] → Ring ws d e
    → w ≡ slice_index ws (second_word d.frame.size (collect_position d.frame d.done)) → ShowsGives d w
look_tells ws d e w clear r is =
    let f : Frame = d.frame in let o : List DriverDone = d.done in let s : List DeviceDone = e.done in
    elim (cases_lt (length (collects o)) (length (gives s))) [
      | inl more ↦ (
          let n : Found f o s w = subst (Found f o s) (sym is) (found ws d e clear r more) in
          (λ on. names_open f o s w r.lists more n, λ h. n.shows, λ h. n.shows)
          )
      | inr none ↦ (
          let off : is_used f.size (collect_position f o) w ≡ false = ap (is_used f.size (collect_position f o)) is
          ∙ shows_none ws d e clear r none in (
            λ on. absurd (let x : false ≡ true = sym off ∙ on in cc),
            λ h. absurd (omega (arith, r.driver_shown h, r.driver_seen, all_collected f o s r.lists none)),
            λ h. absurd (omega (arith, r.driver_seen, all_collected f o s r.lists none)),
          )
          )
    ]

pub looks : (ws : List ℕ) (d : DriverView) (e : DeviceView) (w : ℕ) → Ring ws (record d { doing = Idle }) e → d.armed ≡ None
    → w ≡ slice_index ws (second_word d.frame.size (collect_position d.frame d.done))
    → Ring ws (driver_looks (record d { doing = Idle }) w) e
looks ws d e w r unarmed is =
    let f : Frame = d.frame in let o : List DriverDone = d.done in let s : List DeviceDone = e.done in
    let D : DriverView = record d { doing = Idle } in
    let after : Bool → Type 0 = λ b. Ring ws
    (if b then driver_collects D w else record d { doing = Idle; seen = later d.seen (collect_position f o); shown = false }) e in
    elim (cases_lt (length (collects o)) (length (gives s))) [
      | inl more ↦ (let n : Found f o s w = subst (Found f o s) (sym is) (found ws D e refl r more) in
          subst after (sym n.shows) (collects_entry ws d e w r unarmed more n))
      | inr none ↦ subst after (sym (ap (is_used f.size (collect_position f o)) is ∙ shows_none ws D e refl r none)) (finds_none ws d e r)
    ]
