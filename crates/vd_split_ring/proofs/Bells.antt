-- What an event word and a bell that stand in the ring's words say.
use Rattle.std.proofs.Common.{◌≡◌, ℕ, ◌+◌, ◌%◌, ◌<◌, ◌≤◌, ◌==◌, Bool, true, false, Option, Some, List, length, if◌then◌else◌, nat_lt, slice_index, refl, ap, ◌∙◌, arith, inr}
use Rattle.std.proofs.lemmas.Bool.Decides.{nat_tests}
use Rattle.vd_bits.specs.Lanes.{lane16}
use Rattle.vd_bits.specs.Event.{need_event}
use Rattle.vd_ring.specs.declared.frame.Frame.{Frame}
use Rattle.vd_ring.specs.declared.driver.DriverView.{DriverView}
use Rattle.vd_ring.specs.declared.device.DeviceView.{DeviceView}
use Rattle.vd_ring.specs.Frames.{limit}
use Rattle.vd_ring.specs.History.{offers}
use Rattle.vd_ring.specs.Sleep.{gives_made}
use Rattle.vd_ring.proofs.Quiet.{few_gives}
use Rattle.vd_split_ring.specs.SplitWords.{IsLawful, used_from, kick_at, call_at, lane_at, event_lane, driver_event_lane, device_event_word, device_event_lane, armed_value, wants}
use Rattle.vd_split_ring.specs.SplitRing.{Ring, DriverSignals, DeviceSignals, IsRange}

-- ---- the check

wants_at : (b : Bool) (n old new s : ℕ) → n ≤ 32768 → new ≤ old + n → old ≤ s → s < new
    → (let event = if b then s % 65536 else 0 in if b then need_event (event % 65536) (new % 65536) (old % 65536) else (event % 2) == 0)
    ≡ true
wants_at true n old new s small near low high = grind (arith, nat_tests)
wants_at false n old new s small near low high = refl

-- the event word of a side that waits for a position of the range asks for a signal
pub wants_armed : (f : Frame) (old new s event : ℕ) → IsLawful f → IsRange f old new → old ≤ s → s < new → event ≡ armed_value f s
    → wants f old new event ≡ true
wants_armed f old new s event l r low high is =
    ap (λ w. wants f old new w) is ∙ wants_at f.features.event_idx f.size old new s l.small r.near low high

-- where a side is armed its event word is that of its count
pub driver_event : (f : Frame) (armed : Option ℕ) (bells s : ℕ) (st : List ℕ) → DriverSignals f armed bells st → armed ≡ Some s
    → lane_at f st (driver_event_lane f) ≡ armed_value f s
driver_event f armed bells s st g is = at f.features.event_idx refl
  where
    at : (b : Bool) → f.features.event_idx ≡ b → lane_at f st (if b then event_lane f else 0) ≡ (if b then s % 65536 else 0)
    at true e = g.event s is e
    at false e = g.flags s is e

pub device_event : (f : Frame) (armed : Option ℕ) (bells s : ℕ) (st : List ℕ) → DeviceSignals f armed bells st → armed ≡ Some s
    → lane16 (slice_index st (device_event_word f)) (device_event_lane f) ≡ armed_value f s
device_event f armed bells s st g is = at f.features.event_idx refl
  where
    at : (b : Bool) → f.features.event_idx ≡ b → lane16 (slice_index st (if b then used_from f + f.size else used_from f))
        (if b then 2 else 0) ≡ (if b then s % 65536 else 0)
    at true e = g.event s is e
    at false e = g.flags s is e

pub driver_event_low : (f : Frame) → driver_event_lane f ≤ f.size + 2
driver_event_low f = at f.features.event_idx
  where
    at : (b : Bool) → (if b then event_lane f else 0) ≤ f.size + 2
    at true = omega arith
    at false = omega arith

pub device_event_inside : (f : Frame) → (used_from f ≤ device_event_word f) × (device_event_word f ≤ used_from f + f.size)
device_event_inside f = at f.features.event_idx
  where
    at : (b : Bool) → (used_from f ≤ (if b then used_from f + f.size else used_from f))
        × ((if b then used_from f + f.size else used_from f) ≤ used_from f + f.size)
    at true = (omega arith, omega arith)
    at false = (omega arith, omega arith)

-- ---- bells: there are far fewer than 2^64

pub limit_low : (f : Frame) → limit f ≤ 4294967295
limit_low f = at (nat_lt f.ring 16)
  where
    at : (b : Bool) → (if b then 4000000000 else 4294967295) ≤ 4294967295
    at true = omega arith
    at false = omega arith

-- the bell that stands is the number of bells stored
pub call_stands : (ws : List ℕ) (d : DriverView) (e : DeviceView) → Ring ws d e → slice_index ws (call_at d.frame) ≡ e.bells
call_stands ws d e r =
    let word : slice_index ws (call_at d.frame) ≡ e.bells % 18446744073709551616 = r.words.devices (call_at d.frame) (inr (inr refl))
    ∙ r.device_signals.bell in
    let few : e.bells ≤ gives_made e.done = omega (arith, r.calls.bells) in
    omega (arith, word, few, few_gives d.frame e.done r.lists.entries, r.lists.count, r.lists.some, r.places.limited, limit_low d.frame)

pub kick_stands : (ws : List ℕ) (d : DriverView) (e : DeviceView) → Ring ws d e → slice_index ws (kick_at d.frame) ≡ d.bells
kick_stands ws d e r =
    let word : slice_index ws (kick_at d.frame) ≡ d.bells % 18446744073709551616 = r.words.drivers (kick_at d.frame) (inr (inr refl))
    ∙ r.driver_signals.bell in
    let few : d.bells ≤ length (offers d.done) = omega (arith, r.kicks.bells) in
    omega (arith, word, few, r.places.limited, limit_low d.frame)
