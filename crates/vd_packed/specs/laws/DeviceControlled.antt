-- A control access leaves what the device's end of a packed ring stands for.
use Rattle.std.proofs.Common.{ℕ, ◌-◌, ◌/◌, ◌%◌, List, [], ◌∷◌, length, Option, slice_set}
use Rattle.vd_model.specs.declared.chain.Piece.{Piece}
use Rattle.vd_words.specs.declared.access.Access.{Access}
use Rattle.vd_words.specs.declared.access.Access.TheVariants.{Load, Store}
use Rattle.vd_words.specs.declared.access.Op.TheVariants as op
use Rattle.vd_ring.specs.declared.frame.Frame.{Frame}
use Rattle.vd_ring.specs.declared.device.DeviceDone.{DeviceDone}
use Rattle.vd_ring.specs.declared.device.DeviceDone.TheVariants.{StoreAck, LoadCommand}
use Rattle.vd_ring.specs.declared.device.DeviceNow.{DeviceNow}
use Rattle.vd_ring.specs.declared.device.DeviceNow.TheVariants as now
use Rattle.vd_ring.specs.declared.device.DeviceView.{DeviceView}
use Rattle.vd_ring.specs.History.{running, taken_head, with_head}
use Rattle.vd_packed_ring.specs.PackedWords.{commands_from, acks_from}
use Rattle.vd_packed_ring.specs.PackedDevice.{DeviceNextAt, device_after_at}
use Rattle.vd_packed.specs.declared.device.PackedDevice.{PackedDevice}
use Rattle.vd_packed.specs.declared.device.DeviceStep.{DeviceStep}
use Rattle.vd_packed.specs.declared.device.DeviceStep.TheVariants as step
use Rattle.vd_packed.specs.declared.ring_position.RingPosition.{RingPosition}
use Rattle.vd_packed.specs.DeviceEnd.{HoldsRunning, IsNext, IsTaking, IsTabling, DeviceStands, DeviceStepStands}

-- ---- acts that neither take nor give leave what the end stands for

running_loaded : (table : List (Option ℕ)) (counts : List ℕ) (guesses : ℕ) (f : Frame) (s : List DeviceDone) (l i y : ℕ)
    → HoldsRunning table counts guesses f s → HoldsRunning table counts guesses f (LoadCommand l i y ∷ s)
running_loaded table counts guesses f s l i y h = record {
  once = record { each = h.once.each; count = h.once.count; as_many = h.once.as_many };
  places = h.places;
  as_many = h.as_many;
  guessed = h.guessed;
  kept = h.kept;
  named = h.named;
  counted = h.counted;
}

next_loaded : (f : Frame) (s : List DeviceDone) (k h n : ℕ) (l i y : ℕ) → IsNext f s k h n → IsNext f (LoadCommand l i y ∷ s) k h n
next_loaded f s k h n l i y x = record { runs = x.runs; in_order = x.in_order; is_head = x.is_head; inside = x.inside; small = x.small }

taking_loaded : (f : Frame) (s : List DeviceDone) (ps : List Piece) (p : RingPosition) (more : List ℕ) (d : DeviceNow) (l i y : ℕ)
    → IsTaking f s ps p more d → IsTaking f (LoadCommand l i y ∷ s) ps p more d
taking_loaded f s ps p more d l i y t = record {
  word = t.word;
  words = t.words;
  whole = t.whole;
  is = t.is;
  parts = t.parts;
  direct = t.direct;
  limited = t.limited;
  spelled = t.spelled;
  even = t.even;
  here = t.here;
}

tabling_loaded : (f : Frame) (s : List DeviceDone) (ps : List Piece) (w : ℕ) (p : RingPosition) (more : List ℕ) (d : DeviceNow)
    (l i y : ℕ) → IsTabling f s ps w p more d → IsTabling f (LoadCommand l i y ∷ s) ps w p more d
tabling_loaded f s ps w p more d l i y t = record {
  addr = t.addr;
  words = t.words;
  whole = t.whole;
  is = t.is;
  parts = t.parts;
  has = t.has;
  limited = t.limited;
  spelled = t.spelled;
  even = t.even;
  here = t.here;
  inside = t.inside;
  left = t.left;
  few = t.few;
}

step_loaded : (t : DeviceStep) (ps : List Piece) (w : ℕ) (p : RingPosition) (f : Frame) (s : List DeviceDone) (d : DeviceNow)
    (l i y : ℕ) → DeviceStepStands t ps w p f s d → DeviceStepStands t ps w p f (LoadCommand l i y ∷ s) d
step_loaded step.Idle ps w p f s d l i y x = x
step_loaded step.Resting ps w p f s d l i y x = x
step_loaded step.Look ps w p f s d l i y x = x
step_loaded step.Address ps w p f s d l i y x = taking_loaded f s ps p (w ∷ []) d l i y x
step_loaded step.Second ps w p f s d l i y x = taking_loaded f s ps p [] d l i y x
step_loaded step.TableAddress ps w p f s d l i y x = tabling_loaded f s ps w p [] d l i y x
step_loaded (step.TableSecond a) ps w p f s d l i y x = tabling_loaded f s ps w p (a ∷ []) d l i y x
step_loaded (step.Give k h n) ps w p f s d l i y x = (x.0, next_loaded f s k h n l i y x.1)
step_loaded step.Rest ps w p f s d l i y x = x
step_loaded (step.Check m) ps w p f s d l i y x = x
step_loaded step.Ring ps w p f s d l i y x = x
step_loaded step.Arm ps w p f s d l i y x = x
step_loaded step.LookAgain ps w p f s d l i y x = x
step_loaded step.Hear ps w p f s d l i y x = x
step_loaded step.WakeArming ps w p f s d l i y x = x
step_loaded step.WakeHearing ps w p f s d l i y x = x
step_loaded step.Disarm ps w p f s d l i y x = x
step_loaded step.RestLook ps w p f s d l i y x = x

running_stored : (table : List (Option ℕ)) (counts : List ℕ) (guesses : ℕ) (f : Frame) (s : List DeviceDone) (l y : ℕ)
    → HoldsRunning table counts guesses f s → HoldsRunning table counts guesses f (StoreAck l y ∷ s)
running_stored table counts guesses f s l y h = record {
  once = record { each = h.once.each; count = h.once.count; as_many = h.once.as_many };
  places = h.places;
  as_many = h.as_many;
  guessed = h.guessed;
  kept = h.kept;
  named = h.named;
  counted = h.counted;
}

next_stored : (f : Frame) (s : List DeviceDone) (k h n : ℕ) (l y : ℕ) → IsNext f s k h n → IsNext f (StoreAck l y ∷ s) k h n
next_stored f s k h n l y x = record { runs = x.runs; in_order = x.in_order; is_head = x.is_head; inside = x.inside; small = x.small }

taking_stored : (f : Frame) (s : List DeviceDone) (ps : List Piece) (p : RingPosition) (more : List ℕ) (d : DeviceNow) (l y : ℕ)
    → IsTaking f s ps p more d → IsTaking f (StoreAck l y ∷ s) ps p more d
taking_stored f s ps p more d l y t = record {
  word = t.word;
  words = t.words;
  whole = t.whole;
  is = t.is;
  parts = t.parts;
  direct = t.direct;
  limited = t.limited;
  spelled = t.spelled;
  even = t.even;
  here = t.here;
}

tabling_stored : (f : Frame) (s : List DeviceDone) (ps : List Piece) (w : ℕ) (p : RingPosition) (more : List ℕ) (d : DeviceNow)
    (l y : ℕ) → IsTabling f s ps w p more d → IsTabling f (StoreAck l y ∷ s) ps w p more d
tabling_stored f s ps w p more d l y t = record {
  addr = t.addr;
  words = t.words;
  whole = t.whole;
  is = t.is;
  parts = t.parts;
  has = t.has;
  limited = t.limited;
  spelled = t.spelled;
  even = t.even;
  here = t.here;
  inside = t.inside;
  left = t.left;
  few = t.few;
}

step_stored : (t : DeviceStep) (ps : List Piece) (w : ℕ) (p : RingPosition) (f : Frame) (s : List DeviceDone) (d : DeviceNow) (l y : ℕ)
    → DeviceStepStands t ps w p f s d → DeviceStepStands t ps w p f (StoreAck l y ∷ s) d
step_stored step.Idle ps w p f s d l y x = x
step_stored step.Resting ps w p f s d l y x = x
step_stored step.Look ps w p f s d l y x = x
step_stored step.Address ps w p f s d l y x = taking_stored f s ps p (w ∷ []) d l y x
step_stored step.Second ps w p f s d l y x = taking_stored f s ps p [] d l y x
step_stored step.TableAddress ps w p f s d l y x = tabling_stored f s ps w p [] d l y x
step_stored (step.TableSecond a) ps w p f s d l y x = tabling_stored f s ps w p (a ∷ []) d l y x
step_stored (step.Give k h n) ps w p f s d l y x = (x.0, next_stored f s k h n l y x.1)
step_stored step.Rest ps w p f s d l y x = x
step_stored (step.Check m) ps w p f s d l y x = x
step_stored step.Ring ps w p f s d l y x = x
step_stored step.Arm ps w p f s d l y x = x
step_stored step.LookAgain ps w p f s d l y x = x
step_stored step.Hear ps w p f s d l y x = x
step_stored step.WakeArming ps w p f s d l y x = x
step_stored step.WakeHearing ps w p f s d l y x = x
step_stored step.Disarm ps w p f s d l y x = x
step_stored step.RestLook ps w p f s d l y x = x

after_command : (e : PackedDevice) (v : DeviceView) (l i y : ℕ) → DeviceStands e v
    → DeviceStands e (record v { done = LoadCommand l i y ∷ v.done })
after_command e v l i y st = record {
  made = st.made;
  counts = record {
    takes = st.counts.takes;
    gives = st.counts.gives;
    next_at = st.counts.next_at;
    used_at = st.counts.used_at;
    next_is = st.counts.next_is;
    used_is = st.counts.used_is;
    few = st.counts.few;
  };
  holds = running_loaded e.running.items e.counts.items (length e.guesses.items) v.frame v.done l i y st.holds;
  kick = st.kick;
  signals = record {
    is_armed = st.signals.is_armed;
    hears = st.signals.hears;
    rings = st.signals.rings;
    few = st.signals.few;
    awake =
        st.signals.awake;
  };
  doing = step_loaded e.doing e.pieces.items e.second e.at v.frame v.done v.doing l i y st.doing;
}

after_ack : (e : PackedDevice) (v : DeviceView) (l x : ℕ) (us : List ℕ) → DeviceStands e v
    → DeviceStands e (record v { done = StoreAck l x ∷ v.done; stored = us })
after_ack e v l x us st = record {
  made = st.made;
  counts = record {
    takes = st.counts.takes;
    gives = st.counts.gives;
    next_at = st.counts.next_at;
    used_at = st.counts.used_at;
    next_is = st.counts.next_is;
    used_is = st.counts.used_is;
    few = st.counts.few;
  };
  holds = running_stored e.running.items e.counts.items (length e.guesses.items) v.frame v.done l x st.holds;
  kick = st.kick;
  signals = record {
    is_armed = st.signals.is_armed;
    hears = st.signals.hears;
    rings = st.signals.rings;
    few = st.signals.few;
    awake =
        st.signals.awake;
  };
  doing = step_stored e.doing e.pieces.items e.second e.at v.frame v.done v.doing l x st.doing;
}

pub control_at : (d : DeviceNow) (e : PackedDevice) (v : DeviceView) (a : Access) (r : ℕ) → DeviceStands e v → DeviceNextAt d v op.Control a
    → DeviceStands e (device_after_at d v op.Control a r)
control_at now.Idle e v (Load p) r st n =
    after_command e v (with_head (taken_head v.done) (running v.done) ((p - commands_from v.frame) / 2))
    ((p - commands_from v.frame) % 2) r st
control_at now.Idle e v (Store p x) r st n = after_ack e v (p - acks_from v.frame) x (slice_set v.stored p x) st
control_at (now.Taking []) e v a r st n = absurd n
control_at (now.Taking (w ∷ ws)) e v a r st n = absurd n
control_at _ e v a r st n = absurd n
