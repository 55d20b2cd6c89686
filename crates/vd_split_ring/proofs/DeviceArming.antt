-- The device's arming, its second look, its disarming and the first access of a rest keep the ring invariant.
use Rattle.std.proofs.Common.{◌≡◌, ℕ, ◌+◌, ◌%◌, ◌<◌, Bool, true, false, Some, None, List, length, if◌then◌else◌, slice_index, slice_set, refl, sym, ap, ◌∙◌, subst, arith}
use Rattle.vd_bits.specs.Lanes.{lane16, set_lane16}
use Rattle.vd_words.specs.declared.access.Op.TheVariants as op
use Rattle.vd_ring.specs.declared.frame.Frame.{Frame}
use Rattle.vd_ring.specs.declared.driver.DriverView.{DriverView}
use Rattle.vd_ring.specs.declared.device.DeviceNow.{DeviceNow}
use Rattle.vd_ring.specs.declared.device.DeviceNow.TheVariants.{Idle, Arming, Disarming, Resting}
use Rattle.vd_ring.specs.declared.device.DeviceView.{DeviceView}
use Rattle.vd_ring.specs.History.{offers, takes, IsWhole}
use Rattle.vd_ring.specs.Signals.{Signals}
use Rattle.vd_ring.specs.laws.Signals as signal
use Rattle.vd_ring.proofs.DeviceLists.{counts}
use Rattle.vd_split_ring.specs.SplitWords.{width, used_from, device_event_word, device_event_lane, armed_value, shows, shown_from}
use Rattle.vd_split_ring.specs.SplitDevice.{StoresAvailEvent, StoresNoNotify, device_arms, device_looks_again}
use Rattle.vd_split_ring.specs.SplitRing.{Ring, DeviceDoing, DeviceArmed, chains_out, chains_in, entries_out, entries_in}
use Rattle.vd_split_ring.proofs.Areas.{areas, shows_same, shows_more}
use Rattle.vd_split_ring.proofs.DeviceLooks.{offers_shown}
use Rattle.vd_split_ring.proofs.DeviceSignalStores.{words_flags, words_event, flags_stored, event_stored, awake, quietly, event_store}

-- ---- arming

arms_at : (ws : List ℕ) (d : DriverView) (e : DeviceView) (b : Bool) → Ring ws d (record e { frame = d.frame; doing = Idle })
    → d.frame.features.event_idx ≡ b
    → let s = length (takes e.done) in let q = if b then used_from d.frame + d.frame.size else used_from d.frame in let y =
    set_lane16 (slice_index e.stored q) (if b then 2 else 0) (if b then s % 65536 else 0) in
    Ring (slice_set ws q y) d (device_arms (record e { frame = d.frame; doing = Idle }) q y)
arms_at ws d e true r on =
    let f : Frame = d.frame in let s : ℕ = length (takes e.done) in let E : DeviceView = record e { frame = d.frame; doing = Idle } in
    let q : ℕ = used_from f + f.size in
    let wide : length e.stored ≡ width f = r.words.wide.2 in
    event_store ws d E q (set_lane16 (slice_index e.stored q) 2 (s % 65536)) Arming (Some s) r (omega arith) (omega arith)
    (words_event f d.done e.done e.stored (s % 65536) r.lawful.some_place (omega arith) (omega (arith, areas f)) r.device_words)
    (event_stored f e.armed e.bells s e.stored on r.lawful.some_place (omega (arith, areas f)) r.device_signals) tt
    (signal.arms (chains_out d) (chains_in E) r.kicks) r.calls refl
arms_at ws d e false r off =
    let f : Frame = d.frame in let s : ℕ = length (takes e.done) in let E : DeviceView = record e { frame = d.frame; doing = Idle } in
    let q : ℕ = used_from f in
    let wide : length e.stored ≡ width f = r.words.wide.2 in
    event_store ws d E q (set_lane16 (slice_index e.stored q) 0 0) Arming (Some s) r (omega arith) (omega arith)
    (words_flags f d.done e.done e.stored 0 r.lawful.some_place (omega arith) (omega (arith, areas f)) r.device_words)
    (flags_stored f e.armed (Some s) e.bells 0 e.stored off r.lawful.some_place (omega arith) (λ t a. refl)
    (omega (arith, areas f)) r.device_signals) tt (signal.arms (chains_out d) (chains_in E) r.kicks) r.calls refl

pub arms : (ws : List ℕ) (d : DriverView) (e : DeviceView) (p x : ℕ) → Ring ws d (record e { frame = d.frame; doing = Idle })
    → StoresAvailEvent d.frame e.stored (length (takes e.done)) p x
    → Ring (slice_set ws p x) d (device_arms (record e { frame = d.frame; doing = Idle }) p x)
arms ws d e p x r n =
    let f : Frame = d.frame in let E : DeviceView = record e { frame = d.frame; doing = Idle } in
    let q : ℕ = device_event_word f in
    let word : ℕ → ℕ = λ i. set_lane16 (slice_index e.stored i) (device_event_lane f) (armed_value f (length (takes e.done))) in
    subst (λ i. Ring (slice_set ws i x) d (device_arms E i x)) (sym n.place)
    (subst (λ z. Ring (slice_set ws q z) d (device_arms E q z)) (sym (n.word ∙ ap word n.place))
    (arms_at ws d e f.features.event_idx r refl))

-- ---- the second look

looks_again_at : (ws : List ℕ) (d : DriverView) (e : DeviceView) (g : ℕ) (b : Bool) → lane16 g 1 ≡ length (offers d.done) % 65536
    → Ring ws d (record e { frame = d.frame; doing = Arming }) → shows g (length (takes e.done)) ≡ b
    → let t = length (takes e.done) in
    Ring ws d (if b then record e { frame = d.frame; seen = shown_from g t; shown = false; doing = Idle } else record e {
      frame =
          d.frame;
      seen = shown_from g t;
      shown = true;
      armed = None;
      doing = if d.frame.features.event_idx then Idle else Disarming op.Arm;
    })
looks_again_at ws d e g true lane r eq =
    let E : DeviceView = record e { frame = d.frame; doing = Arming } in
    let near = counts d.frame d.done e.done r.places r.lists in
    let is : shown_from g (length (takes e.done)) ≡ length (offers d.done) = offers_shown ws d E g lane r in
    let all : length (offers d.done) ≡ length (takes e.done) =
    shows_same g (length (takes e.done)) (length (offers d.done)) lane r.lists.some (omega (arith, r.lawful.small, near.1)) eq in
    quietly ws d E Idle e.armed e.heard (shown_from g (length (takes e.done))) false r r.device_signals tt
    (signal.armed (chains_out d) (chains_in E) (omega arith) r.kicks) r.calls tt (omega arith) (λ h. absurd cc)
looks_again_at ws d e g false lane r eq = woken d.frame.features.event_idx refl
  where
    woken : (k : Bool) → d.frame.features.event_idx ≡ k
        → Ring ws d (record e {
          frame = d.frame;
          seen = shown_from g (length (takes e.done));
          shown = true;
          armed = None;
          doing =
              if k then Idle else Disarming op.Arm;
        })
    woken true on =
        let E : DeviceView = record e { frame = d.frame; doing = Arming } in
        let is : shown_from g (length (takes e.done)) ≡ length (offers d.done) = offers_shown ws d E g lane r in
        let more : length (takes e.done) < length (offers d.done) =
        shows_more g (length (takes e.done)) (length (offers d.done)) lane r.lists.some eq in
        quietly ws d E Idle None e.heard (shown_from g (length (takes e.done))) true r
        (awake d.frame e.armed e.bells e.stored r.device_signals) tt (signal.wakes (chains_out d) (chains_in E) true r.kicks)
        r.calls tt (omega arith) (λ h. omega arith)
    woken false off =
        let E : DeviceView = record e { frame = d.frame; doing = Arming } in
        let is : shown_from g (length (takes e.done)) ≡ length (offers d.done) = offers_shown ws d E g lane r in
        let more : length (takes e.done) < length (offers d.done) =
        shows_more g (length (takes e.done)) (length (offers d.done)) lane r.lists.some eq in
        quietly ws d E (Disarming op.Arm) None e.heard (shown_from g (length (takes e.done))) true r
        (awake d.frame e.armed e.bells e.stored r.device_signals) tt (signal.wakes (chains_out d) (chains_in E) false r.kicks)
        r.calls (refl, off, tt) (omega arith) (λ h. omega arith)

pub looks_again : (ws : List ℕ) (d : DriverView) (e : DeviceView) (g : ℕ) → lane16 g 1 ≡ length (offers d.done) % 65536
    → Ring ws d (record e { frame = d.frame; doing = Arming })
    → Ring ws d (device_looks_again (record e { frame = d.frame; doing = Arming }) g)
looks_again ws d e g lane r = looks_again_at ws d e g (shows g (length (takes e.done))) lane r refl

-- ---- disarming, and the first access of a rest

-- the disarming store, after which it is not armed
pub disarms : (ws : List ℕ) (d : DriverView) (e : DeviceView) (now next : DeviceNow) (p x : ℕ)
    → Ring ws d (record e { frame = d.frame; doing = now }) → ((st : List ℕ) → DeviceDoing next d.frame d.done e.done st e.seen)
    → DeviceArmed next d.frame None (length (takes e.done)) e.heard
    → Signals (chains_out d) (chains_in (record e { frame = d.frame; doing = next; armed = None }))
    → Signals (entries_out (record e { frame = d.frame; doing = next })) (entries_in d) → StoresNoNotify d.frame e.stored p x
    → Ring (slice_set ws p x) d (record e { frame = d.frame; stored = slice_set e.stored p x; armed = None; doing = next })
    × (p < width d.frame)
disarms ws d e now next p x r doing is_armed kicks calls n =
    let f : Frame = d.frame in let E : DeviceView = record e { frame = d.frame; doing = now } in
    let q : ℕ = used_from f in
    let wide : length e.stored ≡ width f = r.words.wide.2 in
    let word : ℕ → ℕ = λ i. set_lane16 (slice_index e.stored i) 0 1 in
    let y : ℕ = word q in
    subst (λ i. Ring (slice_set ws i x) d (record e { frame = d.frame; stored = slice_set e.stored i x; armed = None; doing = next })
    × (i < width f)) (sym n.place)
    (subst (λ z. Ring (slice_set ws q z) d (record e { frame = d.frame; stored = slice_set e.stored q z; armed = None; doing = next })
    × (q < width f)) (sym (n.word ∙ ap word n.place)) (
      event_store ws d E q y next None r (omega arith) (omega arith)
          (words_flags f d.done e.done e.stored 1 r.lawful.some_place (omega arith) (omega (arith, areas f)) r.device_words)
          (flags_stored f e.armed None e.bells 1 e.stored n.flagged r.lawful.some_place (omega arith) (λ s a. absurd cc)
          (omega (arith, areas f)) r.device_signals) (doing (slice_set e.stored q y)) kicks calls is_armed,
      omega (arith, areas f),
    ))

-- it is disarmed by a load
pub disarmed : (ws : List ℕ) (d : DriverView) (e : DeviceView) → Ring ws d (record e { frame = d.frame; doing = Idle })
    → Ring ws d (record e { frame = d.frame; armed = None; doing = Idle })
disarmed ws d e r =
    let E : DeviceView = record e { frame = d.frame; doing = Idle } in
    quietly ws d E Idle None e.heard e.seen e.shown r (awake d.frame e.armed e.bells e.stored r.device_signals) tt
    (signal.wakes (chains_out d) (chains_in E) true r.kicks) r.calls tt r.device_seen r.device_shown

pub begins_rest : (ws : List ℕ) (d : DriverView) (e : DeviceView) → Ring ws d (record e { frame = d.frame; doing = Idle })
    → IsWhole e.done → Ring ws d (record e { frame = d.frame; armed = None; doing = Resting })
begins_rest ws d e r whole =
    let E : DeviceView = record e { frame = d.frame; doing = Idle } in
    quietly ws d E Resting None e.heard e.seen e.shown r (awake d.frame e.armed e.bells e.stored r.device_signals) whole
    (signal.wakes (chains_out d) (chains_in E) false r.kicks) r.calls refl r.device_seen r.device_shown
