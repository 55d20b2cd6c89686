-- The laws of the device's end of a packed ring.
use Rattle.std.proofs.Common.{◌≡◌, ℕ, ◌<◌, ◌≤◌, ◌&&◌, ◌==◌, not, nat_lt, List, length, Option, Some, None, sym, ◌∙◌, arith, inl, inr}
use Rattle.std.specs.List.{Contains}
use Rattle.std.proofs.lemmas.Bool.{cases_lt}
use Rattle.std.proofs.lemmas.List.{get_or_past}
use Rattle.vd_ring.specs.declared.frame.Frame.{Frame}
use Rattle.vd_ring.specs.declared.device.DeviceDone.{DeviceDone}
use Rattle.vd_ring.specs.declared.device.DeviceNow.TheVariants as now
use Rattle.vd_ring.specs.declared.device.DeviceView.{DeviceView}
use Rattle.vd_ring.specs.History.{takes, gives, running, taken_head, occurs, IsWhole}
use Rattle.vd_ring.proofs.Counts.{one_below, one_small, occurs_from, Contains_from}
use Rattle.vd_packed_ring.specs.PackedPositions.{take_position}
use Rattle.vd_packed_ring.proofs.ControlFacts.{device_controls}
use Rattle.vd_packed_ring.proofs.DeviceLooking.{device_looks}
use Rattle.vd_packed_ring.proofs.DeviceViews.{device_frame}
use Rattle.vd_packed_ring.proofs.Signalling.{device_unarmed}
use Rattle.vd_layout.proofs.InTable.{runs_in_table}
use Rattle.vd_layout.specs.Begun.{DeviceOp}
use Rattle.vd_layout.specs.Device.{IsLawfulDevice}
use Rattle.vd_packed.specs.declared.device.PackedDevice.{PackedDevice}
use Rattle.vd_packed.specs.declared.device.DeviceStep.{DeviceStep}
use Rattle.vd_packed.specs.DeviceEnd.{HoldsRunning, number_at, DeviceStands, DeviceStepStands, DeviceStepArmed, device_owes, device_begun, is_idle, packed_device}
use Rattle.vd_packed.specs.laws.ControlMoves.{device_moves}
use Rattle.vd_packed.specs.laws.DeviceEnd.{not_armed, is_armed}
use Rattle.vd_packed_ring.proofs.DeviceStaying.{device_stays}
use Rattle.vd_packed.specs.laws.DeviceStill.{rests_at, ends_at, parts, still_idle, still_unarmed, still_whole, is_based, fresh_unused}
use Rattle.vd_packed.specs.laws.DeviceControlled.{control_at}

-- ---- whole

-- a whole device has given all numbers below its count, so each running chain has a greater one
pub whole_from : (table : List (Option ℕ)) (counts : List ℕ) (guesses : ℕ) (f : Frame) (s : List DeviceDone)
    → HoldsRunning table counts guesses f s → ((h k : ℕ) → number_at table h ≡ Some k → length (gives s) ≤ k) → IsWhole s
whole_from table counts guesses f s held none k below = elim (cases_lt 0 (occurs k (running s))) [
  | inl a ↦ absurd (omega (arith, none (taken_head s k) k (held.kept k a)))
  | inr a ↦ omega (arith, held.once.each k, one_below k (length (takes s)) (omega (arith, held.once.count)))
]

pub whole_to : (table : List (Option ℕ)) (counts : List ℕ) (guesses : ℕ) (f : Frame) (s : List DeviceDone)
    → HoldsRunning table counts guesses f s → IsWhole s → (h k : ℕ) → number_at table h ≡ Some k → length (gives s) ≤ k
whole_to table counts guesses f s held whole h k there = elim (cases_lt k (length (gives s))) [
  | inl a ↦ absurd (omega (arith, whole k a, (held.named h k there).0, held.once.each k, one_small (nat_lt k (length (takes s)))))
  | inr a ↦ a
]

pub device_laws : IsLawfulDevice packed_device
device_laws = record {
  sized = λ e v st. (st.made.sized, st.made.featured);
  at_rest = λ e v st idle. rests_at e.doing e.pieces.items e.second e.at v.frame v.done v.doing st.doing idle;
  ends = λ e none. ends_at e.doing (length e.pieces.items) none;
  still = still_idle;
  whole = still_whole;
  based = λ e v st still. is_based e v st;
  unused = λ e v st r. fresh_unused e v st (parts (is_idle e.doing && ((e.taken == 0) && (e.given == 0))) (not e.armed) r).0;
  control = λ e v a r st n. control_at v.doing e v a r st n;
  control_moves = λ v a r n. device_moves v.doing v a r n;
  framed = λ v o a r. device_frame v o a r;
  stays_unarmed = device_unarmed;
  looks = device_looks;
  stays = device_stays;
  armed = λ e v st on. (take_position v.frame v.done, is_armed e v st on);
  not_armed = λ e v st off. not_armed e v st off;
  unarmed_still = still_unarmed;
  unarmed = λ e v st still. not_armed e v st (still_unarmed e v st still);
  runs = λ e v st. runs_in_table e.running.items v.frame v.done st.holds.once.each st.holds.once.count st.holds.once.as_many
      st.holds.places st.holds.kept;
  controls = device_controls;
}

-- the end stands after the beginning of an operation
pub begins : (e : PackedDevice) (v : DeviceView) (t : DeviceStep) → device_begun e.doing ≡ DeviceOp.idle → DeviceStands e v
    → (v.doing ≡ now.Idle → DeviceStepStands t e.pieces.items e.second e.at v.frame v.done v.doing) → DeviceStepArmed t e.armed
    → device_owes t ≡ 0 → DeviceStands (record e { doing = t }) v
begins e v t idle st doing armed none = record {
  made = st.made;
  counts = st.counts;
  holds = st.holds;
  kick = st.kick;
  signals = record {
    is_armed = st.signals.is_armed;
    hears = st.signals.hears;
    rings = st.signals.rings;
    few =
        omega (arith, st.signals.few, none);
    awake = armed;
  };
  doing = doing (rests_at e.doing e.pieces.items e.second e.at v.frame v.done v.doing st.doing idle);
}

-- ---- what a look through the table tells

-- a number found runs, and one not found doesn't
pub found_runs : (e : PackedDevice) (v : DeviceView) (h k : ℕ) → DeviceStands e v → number_at e.running.items h ≡ Some k
    → Contains (running v.done) k
found_runs e v h k st there = Contains_from k (running v.done) (st.holds.named h k there).0

pub runs_found : (e : PackedDevice) (v : DeviceView) (k : ℕ) → DeviceStands e v → Contains (running v.done) k
    → ((h : ℕ) → h < e.size → number_at e.running.items h ≡ Some k → ⊥) → ⊥
runs_found e v k st runs none =
    let there = st.holds.kept k (occurs_from k (running v.done) runs) in
    elim (cases_lt (taken_head v.done k) e.size) [
      | inl a ↦ none (taken_head v.done k) a there
      | inr a ↦ no (sym (get_or_past e.running.items (taken_head v.done k) None (omega (arith, st.holds.places, st.made.sized))) ∙ there)
    ]
  where
    no : None ≡ Some k → ⊥
    no z = cc z
