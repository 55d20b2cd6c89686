-- A control access leaves what the device's end of a split ring stands for.
use Rattle.std.proofs.Common.{ℕ, ◌+◌, ◌-◌, ◌/◌, ◌%◌, ◌≤◌, List, [], ◌∷◌, length, Option, slice_set, ◌∙◌, arith}
use Rattle.std.proofs.lemmas.List.{length-set}
use Rattle.vd_model.specs.declared.chain.Piece.{Piece}
use Rattle.vd_words.specs.declared.access.Access.{Access}
use Rattle.vd_words.specs.declared.access.Access.TheVariants.{Load, Store}
use Rattle.vd_words.specs.declared.access.Op.TheVariants as op
use Rattle.vd_ring.specs.declared.frame.Frame.{Frame}
use Rattle.vd_ring.specs.declared.device.DeviceDone.{DeviceDone}
use Rattle.vd_ring.specs.declared.device.DeviceDone.TheVariants.{StoreAck, LoadCommand}
use Rattle.vd_ring.specs.declared.device.DeviceNow.{DeviceNow}
use Rattle.vd_ring.specs.declared.device.DeviceNow.TheVariants as now
use Rattle.vd_ring.specs.declared.device.DeviceView.{DeviceView}
use Rattle.vd_ring.specs.History.{running, taken_head, with_head}
use Rattle.vd_ring.specs.Control.{StoresAck}
use Rattle.vd_split_ring.specs.SplitWords.{used_from, tables_from, commands_from, acks_from, ack_word}
use Rattle.vd_split_ring.specs.SplitDevice.{DeviceNextAt, device_after_at}
use Rattle.vd_split_ring.proofs.Areas.{areas}
use Rattle.vd_split.specs.declared.device.SplitDevice.{SplitDevice}
use Rattle.vd_split.specs.declared.device.DeviceStep.{DeviceStep}
use Rattle.vd_split.specs.declared.device.DeviceStep.TheVariants as step
use Rattle.vd_split.specs.DeviceEnd.{HoldsRunning, IsNext, IsTaking, IsTabling, DeviceStands, DeviceStepStands}
use Rattle.vd_split.specs.laws.Plans.{copies_other}

-- ---- a control access of the end's holder

running_loaded : (table : List (Option ℕ)) (guesses : ℕ) (f : Frame) (s : List DeviceDone) (l i y : ℕ) → HoldsRunning table guesses f s
    → HoldsRunning table guesses f (LoadCommand l i y ∷ s)
running_loaded table guesses f s l i y h = record {
  once = record { each = h.once.each; count = h.once.count; as_many = h.once.as_many };
  places = h.places;
  guessed = h.guessed;
  kept = h.kept;
  named = h.named;
}

next_loaded : (f : Frame) (s : List DeviceDone) (k h n : ℕ) (l i y : ℕ) → IsNext f s k h n → IsNext f (LoadCommand l i y ∷ s) k h n
next_loaded f s k h n l i y x = record { runs = x.runs; in_order = x.in_order; is_head = x.is_head; inside = x.inside; small = x.small }

taking_loaded : (f : Frame) (s : List DeviceDone) (ps : List Piece) (r h p : ℕ) (more : List ℕ) (d : DeviceNow) (l i y : ℕ)
    → IsTaking f s ps r h p more d → IsTaking f (LoadCommand l i y ∷ s) ps r h p more d
taking_loaded f s ps r h p more d l i y t = record {
  word = t.word;
  words = t.words;
  is = t.is;
  loaded = record {
    is_head = t.loaded.is_head;
    new = record { inside = t.loaded.new.inside; apart = t.loaded.new.apart };
    limited = t.loaded.limited;
    spelled = t.loaded.spelled;
    even = t.loaded.even;
    plain = t.loaded.plain;
    at = t.loaded.at;
    low = t.loaded.low;
  };
}

tabling_loaded : (f : Frame) (s : List DeviceDone) (ps : List Piece) (r h m : ℕ) (more : List ℕ) (d : DeviceNow) (l i y : ℕ)
    → IsTabling f s ps r h m more d → IsTabling f (LoadCommand l i y ∷ s) ps r h m more d
tabling_loaded f s ps r h m more d l i y t = record {
  word = t.word;
  addr = t.addr;
  second = t.second;
  words = t.words;
  is = t.is;
  loaded = record {
    is_head = t.loaded.is_head;
    new = record { inside = t.loaded.new.inside; apart = t.loaded.new.apart };
    limited = t.loaded.limited;
    on = t.loaded.on;
    names = t.loaded.names;
    many = t.loaded.many;
    few = t.loaded.few;
    spelled = t.loaded.spelled;
    even = t.loaded.even;
    left = t.loaded.left;
  };
}

step_loaded : (t : DeviceStep) (ps : List Piece) (a : ℕ) (f : Frame) (s : List DeviceDone) (d : DeviceNow) (l i y : ℕ)
    → DeviceStepStands t ps a f s d → DeviceStepStands t ps a f (LoadCommand l i y ∷ s) d
step_loaded step.Idle ps a f s d l i y x = x
step_loaded step.Resting ps a f s d l i y x = x
step_loaded step.Look ps a f s d l i y x = x
step_loaded (step.Entry r) ps a f s d l i y x = x
step_loaded (step.Address r h p) ps a f s d l i y x = taking_loaded f s ps r h p [] d l i y x
step_loaded (step.Second r h p) ps a f s d l i y x = taking_loaded f s ps r h p (a ∷ []) d l i y x
step_loaded (step.TableAddress r h m) ps a f s d l i y x = tabling_loaded f s ps r h m [] d l i y x
step_loaded (step.TableSecond r h m) ps a f s d l i y x = tabling_loaded f s ps r h m (a ∷ []) d l i y x
step_loaded (step.StoreId k h n) ps a f s d l i y x = (x.0, next_loaded f s k h n l i y x.1)
step_loaded (step.StoreLen k h n) ps a f s d l i y x = (x.0, x.1, x.2, next_loaded f s k h n l i y x.3)
step_loaded (step.StoreIndex k h n) ps a f s d l i y x = (x.0, x.1, x.2, x.3, x.4, next_loaded f s k h n l i y x.5)
step_loaded step.Rest ps a f s d l i y x = x
step_loaded (step.Check old new) ps a f s d l i y x = x
step_loaded (step.Ring old new) ps a f s d l i y x = x
step_loaded step.Arm ps a f s d l i y x = x
step_loaded step.LookAgain ps a f s d l i y x = x
step_loaded step.Hear ps a f s d l i y x = x
step_loaded step.WakeArming ps a f s d l i y x = x
step_loaded step.WakeHearing ps a f s d l i y x = x
step_loaded step.Disarm ps a f s d l i y x = x
step_loaded step.RestLook ps a f s d l i y x = x

running_stored : (table : List (Option ℕ)) (guesses : ℕ) (f : Frame) (s : List DeviceDone) (l y : ℕ) → HoldsRunning table guesses f s
    → HoldsRunning table guesses f (StoreAck l y ∷ s)
running_stored table guesses f s l y h = record {
  once = record { each = h.once.each; count = h.once.count; as_many = h.once.as_many };
  places = h.places;
  guessed = h.guessed;
  kept = h.kept;
  named = h.named;
}

next_stored : (f : Frame) (s : List DeviceDone) (k h n : ℕ) (l y : ℕ) → IsNext f s k h n → IsNext f (StoreAck l y ∷ s) k h n
next_stored f s k h n l y x = record { runs = x.runs; in_order = x.in_order; is_head = x.is_head; inside = x.inside; small = x.small }

taking_stored : (f : Frame) (s : List DeviceDone) (ps : List Piece) (r h p : ℕ) (more : List ℕ) (d : DeviceNow) (l y : ℕ)
    → IsTaking f s ps r h p more d → IsTaking f (StoreAck l y ∷ s) ps r h p more d
taking_stored f s ps r h p more d l y t = record {
  word = t.word;
  words = t.words;
  is = t.is;
  loaded = record {
    is_head = t.loaded.is_head;
    new = record { inside = t.loaded.new.inside; apart = t.loaded.new.apart };
    limited = t.loaded.limited;
    spelled = t.loaded.spelled;
    even = t.loaded.even;
    plain = t.loaded.plain;
    at = t.loaded.at;
    low = t.loaded.low;
  };
}

tabling_stored : (f : Frame) (s : List DeviceDone) (ps : List Piece) (r h m : ℕ) (more : List ℕ) (d : DeviceNow) (l y : ℕ)
    → IsTabling f s ps r h m more d → IsTabling f (StoreAck l y ∷ s) ps r h m more d
tabling_stored f s ps r h m more d l y t = record {
  word = t.word;
  addr = t.addr;
  second = t.second;
  words = t.words;
  is = t.is;
  loaded = record {
    is_head = t.loaded.is_head;
    new = record { inside = t.loaded.new.inside; apart = t.loaded.new.apart };
    limited = t.loaded.limited;
    on = t.loaded.on;
    names = t.loaded.names;
    many = t.loaded.many;
    few = t.loaded.few;
    spelled = t.loaded.spelled;
    even = t.loaded.even;
    left = t.loaded.left;
  };
}

step_stored : (t : DeviceStep) (ps : List Piece) (a : ℕ) (f : Frame) (s : List DeviceDone) (d : DeviceNow) (l y : ℕ)
    → DeviceStepStands t ps a f s d → DeviceStepStands t ps a f (StoreAck l y ∷ s) d
step_stored step.Idle ps a f s d l y x = x
step_stored step.Resting ps a f s d l y x = x
step_stored step.Look ps a f s d l y x = x
step_stored (step.Entry r) ps a f s d l y x = x
step_stored (step.Address r h p) ps a f s d l y x = taking_stored f s ps r h p [] d l y x
step_stored (step.Second r h p) ps a f s d l y x = taking_stored f s ps r h p (a ∷ []) d l y x
step_stored (step.TableAddress r h m) ps a f s d l y x = tabling_stored f s ps r h m [] d l y x
step_stored (step.TableSecond r h m) ps a f s d l y x = tabling_stored f s ps r h m (a ∷ []) d l y x
step_stored (step.StoreId k h n) ps a f s d l y x = (x.0, next_stored f s k h n l y x.1)
step_stored (step.StoreLen k h n) ps a f s d l y x = (x.0, x.1, x.2, next_stored f s k h n l y x.3)
step_stored (step.StoreIndex k h n) ps a f s d l y x = (x.0, x.1, x.2, x.3, x.4, next_stored f s k h n l y x.5)
step_stored step.Rest ps a f s d l y x = x
step_stored (step.Check old new) ps a f s d l y x = x
step_stored (step.Ring old new) ps a f s d l y x = x
step_stored step.Arm ps a f s d l y x = x
step_stored step.LookAgain ps a f s d l y x = x
step_stored step.Hear ps a f s d l y x = x
step_stored step.WakeArming ps a f s d l y x = x
step_stored step.WakeHearing ps a f s d l y x = x
step_stored step.Disarm ps a f s d l y x = x
step_stored step.RestLook ps a f s d l y x = x

after_command : (e : SplitDevice) (v : DeviceView) (l i y : ℕ) → DeviceStands e v
    → DeviceStands e (record v { done = LoadCommand l i y ∷ v.done })
after_command e v l i y st = record {
  made = st.made;
  counts = record { takes = st.counts.takes; gives = st.counts.gives; entry_at = st.counts.entry_at; used_at = st.counts.used_at };
  holds = running_loaded e.running.items (length e.guesses.items) v.frame v.done l i y st.holds;
  area = st.area;
  wide = st.wide;
  shown = st.shown;
  kick = st.kick;
  signals = record {
    is_armed = st.signals.is_armed;
    hears = st.signals.hears;
    rings = st.signals.rings;
    few = st.signals.few;
    awake =
        st.signals.awake;
  };
  doing = step_loaded e.doing e.pieces.items e.addr v.frame v.done v.doing l i y st.doing;
}

after_ack : (e : SplitDevice) (v : DeviceView) (l p x : ℕ) → tables_from v.frame ≤ p → DeviceStands e v
    → DeviceStands e (record v { done = StoreAck l x ∷ v.done; stored = slice_set v.stored p x })
after_ack e v l p x past st = record {
  made = st.made;
  counts = record { takes = st.counts.takes; gives = st.counts.gives; entry_at = st.counts.entry_at; used_at = st.counts.used_at };
  holds = running_stored e.running.items (length e.guesses.items) v.frame v.done l x st.holds;
  area = copies_other (used_from v.frame) (v.frame.size + 1) e.area.items v.stored p x st.area (λ k a z. omega arith);
  wide = length-set v.stored p x ∙ st.wide;
  shown = st.shown;
  kick = st.kick;
  signals = record {
    is_armed = st.signals.is_armed;
    hears = st.signals.hears;
    rings = st.signals.rings;
    few = st.signals.few;
    awake =
        st.signals.awake;
  };
  doing = step_stored e.doing e.pieces.items e.addr v.frame v.done v.doing l x st.doing;
}

pub control_at : (d : DeviceNow) (e : SplitDevice) (v : DeviceView) (a : Access) (r : ℕ) → DeviceStands e v → DeviceNextAt d v op.Control a
    → DeviceStands e (device_after_at d v op.Control a r)
control_at now.Idle e v (Load p) r st n =
    after_command e v (with_head (taken_head v.done) (running v.done) ((p - commands_from v.frame) / 2))
    ((p - commands_from v.frame) % 2) r st
control_at now.Idle e v (Store p x) r st n =
    let s : StoresAck v.frame (ack_word v.frame) v.done p = n in
    after_ack e v (p - acks_from v.frame) p x (omega (arith, s.place, areas v.frame)) st
control_at (now.Taking []) e v a r st n = absurd n
control_at (now.Taking (g ∷ [])) e v a r st n = absurd n
control_at (now.Taking (g ∷ w ∷ ws)) e v a r st n = absurd n
control_at (now.Giving []) e v a r st n = absurd n
control_at (now.Giving (g ∷ [])) e v a r st n = absurd n
control_at (now.Giving (g ∷ w ∷ [])) e v a r st n = absurd n
control_at (now.Giving (g ∷ w ∷ x ∷ gs)) e v a r st n = absurd n
control_at _ e v a r st n = absurd n
