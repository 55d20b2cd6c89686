-- The first two accesses of a take, its look and the ring entry, keep the ring invariant.
use Rattle.std.proofs.Common.{◌≡◌, ℕ, ◌+◌, ◌*◌, ◌%◌, ◌<◌, ◌≤◌, Bool, true, false, None, List, [], ◌∷◌, length, if◌then◌else◌, slice_index, refl, sym, ap, ◌∙◌, subst, arith}
use Rattle.std.proofs.lemmas.List.{take_all}
use Rattle.vd_bits.specs.Lanes.{lane16}
use Rattle.vd_ring.specs.declared.frame.Frame.{Frame}
use Rattle.vd_ring.specs.declared.driver.DriverDone.{DriverDone}
use Rattle.vd_ring.specs.declared.driver.DriverView.{DriverView}
use Rattle.vd_ring.specs.declared.device.DeviceDone.{DeviceDone}
use Rattle.vd_ring.specs.declared.device.DeviceNow.TheVariants.{Idle, Taking}
use Rattle.vd_ring.specs.declared.device.DeviceView.{DeviceView}
use Rattle.vd_ring.specs.Frames.{Fits, limit}
use Rattle.vd_ring.specs.laws.Signals.{moves}
use Rattle.vd_ring.specs.History.{offers, takes, running, open_at, places, head, chain, occurs}
use Rattle.vd_split_ring.specs.SplitWords.{is_tabled, lane_word, entry_lane, shows, shown_from, ShowsIndex, reading}
use Rattle.vd_split_ring.specs.SplitDevice.{loaded_head, IsNewHead, device_looks}
use Rattle.vd_split_ring.specs.SplitRing.{HasSeen, Ring, chains_out, chains_in}
use Rattle.vd_ring.proofs.Counts.{occurs_from}
use Rattle.vd_ring.proofs.HeldPlaces.{head_inside, same_head, chain_fits}
use Rattle.vd_ring.proofs.DeviceLists.{running_below, running_open, next_taken_open, counts}
use Rattle.vd_split_ring.proofs.Areas.{shows_same, shows_more, shows_further, shown_is}
use Rattle.vd_split_ring.proofs.Direct.{borrowed_needs}
use Rattle.vd_split_ring.proofs.Reading.{length_reading}
use Rattle.vd_split_ring.proofs.DeviceParts.{ring_with}

-- ---- the look

-- a loaded index shows how many chains were offered
pub offers_shown : (ws : List ℕ) (d : DriverView) (e : DeviceView) (g : ℕ) → lane16 g 1 ≡ length (offers d.done) % 65536 → Ring ws d e
    → shown_from g (length (takes e.done)) ≡ length (offers d.done)
offers_shown ws d e g lane r =
    let near = counts d.frame d.done e.done r.places r.lists in
    shown_is g (length (takes e.done)) (length (offers d.done)) lane r.lists.some (omega (arith, r.lawful.small, near.1))

pub shows_offers : (ws : List ℕ) (d : DriverView) (e : DeviceView) (g : ℕ) → lane16 g 1 ≡ length (offers d.done) % 65536 → Ring ws d e
    → ShowsIndex g e.seen (length (takes e.done)) (length (takes e.done) + d.frame.size)
shows_offers ws d e g lane r =
    let near = counts d.frame d.done e.done r.places r.lists in
    record { index = length (offers d.done); lane = lane; least = r.lists.some; most = near.1; forward = r.device_seen }

takes_look : (ws : List ℕ) (d : DriverView) (e : DeviceView) (g n : ℕ) (b : Bool) → lane16 g 1 ≡ length (offers d.done) % 65536
    → n ≡ length (offers d.done) → Ring ws d (record e { frame = d.frame; doing = Idle }) → e.armed ≡ None
    → shows g (length (takes e.done)) ≡ b
    → Ring ws d (if b then record e { frame = d.frame; doing = Idle; seen = n; shown = false } else record e {
      frame = d.frame;
      doing =
          Taking (g ∷ []);
      seen = n;
      shown = true;
    })
takes_look ws d e g n true lane is r unarmed eq =
    ring_with ws ws d (record e { frame = d.frame; doing = Idle }) (record e { frame = d.frame; doing = Idle; seen = n; shown = false })
    r record {
      same = refl;
      words = r.words;
      lists = r.lists;
      device_words = r.device_words;
      signals = r.device_signals;
      acks = r.acks;
      driver_doing = r.driver_doing;
      device_doing = tt;
      kicks = r.kicks;
      calls = r.calls;
      armed = tt;
      driver_seen = r.driver_seen;
      driver_cut = r.driver_cut;
      device_seen = omega arith;
      device_shown = λ h. absurd cc;
      rested = r.rested;
    }
takes_look ws d e g n false lane is r unarmed eq =
    let more : length (takes e.done) < length (offers d.done) =
    shows_more g (length (takes e.done)) (length (offers d.done)) lane r.lists.some eq in
    ring_with ws ws d (record e { frame = d.frame; doing = Idle })
    (record e { frame = d.frame; doing = Taking (g ∷ []); seen = n; shown = true }) r record {
      same = refl;
      words = r.words;
      lists = r.lists;
      device_words = r.device_words;
      signals = r.device_signals;
      acks = r.acks;
      driver_doing = r.driver_doing;
      kicks = moves (chains_out d) (chains_in (record e { frame = d.frame; doing = Idle })) (length (takes e.done)) false unarmed r.kicks;
      calls = r.calls;
      armed = unarmed;
      device_doing = record { lane = lane ∙ ap (λ (m : ℕ). m % 65536) (sym is); more = omega arith };
      driver_seen = r.driver_seen;
      driver_cut = r.driver_cut;
      device_seen = omega arith;
      device_shown = λ h. omega arith;
      rested = r.rested;
    }

pub looks : (ws : List ℕ) (d : DriverView) (e : DeviceView) (g : ℕ) → lane16 g 1 ≡ length (offers d.done) % 65536
    → Ring ws d (record e { frame = d.frame; doing = Idle }) → e.armed ≡ None
    → Ring ws d (device_looks (record e { frame = d.frame; doing = Idle }) g)
looks ws d e g lane r unarmed = takes_look ws d e g (shown_from g (length (takes e.done))) (shows g (length (takes e.done))) lane
    (offers_shown ws d (record e { frame = d.frame; doing = Idle }) g lane r) r unarmed refl

pub look_tells : (ws : List ℕ) (d : DriverView) (e : DeviceView) (g : ℕ) → lane16 g 1 ≡ length (offers d.done) % 65536 → Ring ws d e
    → ShowsIndex g e.seen (length (takes e.done)) (length (takes e.done) + d.frame.size) × (shows g (length (takes e.done)) ≡ false
    → length (takes e.done) < limit d.frame) × (e.shown ≡ true → shows g (length (takes e.done)) ≡ false)
look_tells ws d e g lane r =
    let near = counts d.frame d.done e.done r.places r.lists in (
      shows_offers ws d e g lane r,
      λ h. omega (arith, r.places.limited, shows_more g (length (takes e.done)) (length (offers d.done)) lane r.lists.some h),
      λ h. shows_further g (length (takes e.done)) (length (offers d.done)) lane (omega (arith, r.device_shown h, r.device_seen))
          (omega (arith, r.lawful.small, near.1)),
    )

-- a take's Nothing: all chains offered are taken
pub nothing_left : (ws : List ℕ) (d : DriverView) (e : DeviceView) (g : ℕ) → lane16 g 1 ≡ length (offers d.done) % 65536 → Ring ws d e
    → shows g (length (takes e.done)) ≡ true → takes e.done ≡ offers d.done
nothing_left ws d e g lane r on =
    let near = counts d.frame d.done e.done r.places r.lists in
    let all = shows_same g (length (takes e.done)) (length (offers d.done)) lane r.lists.some (omega (arith, r.lawful.small, near.1)) on in
    r.lists.taken ∙ take_all (length (takes e.done)) (offers d.done) (omega arith)

-- ---- the ring entry

-- the chain whose loads are in progress was offered
pub seen_offered : (ws : List ℕ) (d : DriverView) (e : DeviceView) (g : ℕ) → Ring ws d e → HasSeen g e.seen (length (takes e.done))
    → length (takes e.done) < length (offers d.done)
seen_offered ws d e g r seen = omega (arith, r.device_seen, seen.more)

pub finds_head : (ws : List ℕ) (d : DriverView) (e : DeviceView) (g w : ℕ)
    → Ring ws d (record e { frame = d.frame; doing = Taking (g ∷ []) })
    → w ≡ slice_index d.stored (lane_word d.frame (entry_lane d.frame (length (takes e.done))))
    → Ring ws d (record e { frame = d.frame; doing = Taking (g ∷ w ∷ []) })
    × IsNewHead d.frame e.done (loaded_head d.frame (length (takes e.done)) w)
finds_head ws d e g w r is =
    let f : Frame = d.frame in let o : List DriverDone = d.done in let s : List DeviceDone = e.done in
    let E : DeviceView = record e { frame = d.frame; doing = Taking (g ∷ []) } in
    let t : ℕ = length (takes s) in
    let more : t < length (offers o) = seen_offered ws d E g r r.device_doing in
    let low = counts f o s r.places r.lists in
    let is_head : loaded_head f t w ≡ head f o t = ap (λ y. lane16 y (entry_lane f t % 4)) is ∙ r.driver_words.entries t low.0 more in
    let here : 1 ≤ occurs t (open_at o) = next_taken_open f o s r.places r.lists more in
    let fits : Fits f (chain o t) = chain_fits f o t r.places more in
    let long = length_reading f (places f o t) (chain o t) (r.places.as_many t more ∙ borrowed_needs f (chain o t) r.lawful)
    fits.chain.0 in (
      ring_with ws ws d E (record e { frame = d.frame; doing = Taking (g ∷ w ∷ []) }) r record {
        same = refl;
        words = r.words;
        lists = r.lists;
        device_words = r.device_words;
        signals = r.device_signals;
        acks = r.acks;
        driver_doing = r.driver_doing;
        kicks = r.kicks;
        calls = r.calls;
        armed = r.device_armed;
        device_doing = (
          r.device_doing,
          record {
            is_head = is_head;
            words = refl;
            left =
                some (is_tabled f (chain o t)) (length (chain o t)) (length (reading f (places f o t) (chain o t))) fits.chain.0 long;
          },
        );
        driver_seen = r.driver_seen;
        driver_cut = r.driver_cut;
        device_seen = r.device_seen;
        device_shown = r.device_shown;
        rested = r.rested;
      },
      record {
        inside = subst (λ h. h < f.size) (sym is_head) (head_inside f o t r.places here);
        apart = λ k a e'.
            let runs = occurs_from k (running s) a in
            let below = running_below f o s k r.lists runs in
            let same : k ≡ t = same_head f o k t r.places (running_open f o s k r.places r.lists runs) here
            (sym (r.lists.heads k below.0) ∙ e' ∙ is_head) in
            omega arith;
      },
    )
  where
    -- a chain has a word
    some : (tabled : Bool) (n m : ℕ) → 0 < n → m ≡ (if tabled then 2 + 2 * n else 2 * n) → 0 < m
    some true n m h e = omega arith
    some false n m h e = omega arith
