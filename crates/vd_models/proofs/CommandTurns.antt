-- What an access of the control queue's device comes to: of the end's own operations, as of a device of a data queue.
use Rattle.std.proofs.Common.{◌≡◌, ◌≢◌, ◌↔◌, ◌⊎◌, ℕ, ◌+◌, ◌-◌, ◌*◌, ◌<◌, ◌≤◌, ◌==◌, Bool, true, false, Some, List, [], ◌∷◌, ◌++◌, length, map, slice_get, nat_lt, refl, sym, ◌∙◌, ap, subst, arith, inl, inr}
use Rattle.std.proofs.lemmas.Bool.{cases_lt}
use Rattle.std.proofs.lemmas.List.{append-nil, length-map, length-append, nil_from_length}
use Rattle.vd_model.specs.declared.chain.Piece.{Piece}
use Rattle.vd_model.specs.declared.record.Begun.{Begun}
use Rattle.vd_words.specs.declared.access.Access.{Access}
use Rattle.vd_words.specs.declared.access.Op.{Op}
use Rattle.vd_words.specs.Model.{PortModel}
use Rattle.vd_ring.specs.declared.act.DeviceAct.{DeviceAct}
use Rattle.vd_ring.specs.declared.act.DeviceAct.TheVariants as act
use Rattle.vd_ring.specs.declared.device.DeviceDone.{DeviceDone}
use Rattle.vd_ring.specs.declared.device.DeviceDone.TheVariants.{Take, Give, Rest}
use Rattle.vd_ring.specs.declared.device.DeviceView.{DeviceView}
use Rattle.vd_ring.specs.declared.frame.Frame.{Frame}
use Rattle.vd_ring.specs.History.{entry, takes, gives, heads, running, occurs, numbers}
use Rattle.vd_ring.proofs.Counts.{one, one_small, one_above}
use Rattle.vd_layout.proofs.OnePair.{says_given}
use Rattle.vd_layout.specs.Begun.{DeviceOp}
use Rattle.vd_layout.specs.Device.{DeviceModel, IsDeviceStep, IsLawfulDevice}
use Rattle.vd_bus.specs.declared.device.Attached.{Attached}
use Rattle.vd_bus.specs.Device.{lens_of}
use Rattle.vd_bus.specs.Entries.{Reserved}
use Rattle.circular_buffer.specs.Buffer.{Buffer, buffer}
use Rattle.vd_models.specs.declared.counts.Turn.{Turn}
use Rattle.vd_models.specs.declared.counts.Turn.TheVariants.{Worked, Slept}
use Rattle.vd_models.specs.declared.hand.Hand.{Hand}
use Rattle.vd_models.specs.declared.hand.Hand.TheVariants.{Free, Taken, Loaded, Executed}
use Rattle.vd_models.specs.declared.serving.Session.{Session}
use Rattle.vd_models.specs.declared.serving.Stage.{Stage}
use Rattle.vd_models.specs.declared.serving.Stage.TheVariants as stage
use Rattle.vd_models.specs.declared.window.Held.{Held}
use Rattle.vd_models.specs.Counting.{counted, woke}
use Rattle.vd_models.specs.Commanding.{seen_begun, seen_state, AloneIs, HandAt, Commands, OpensCommands, hand_owes, command_owes, IsCommandTurn}
use Rattle.vd_models.specs.Hands.{plain, waiting, seen, Executes, IsCommandChain}
use Rattle.vd_models.specs.Holding.{begun_of, held_of, given_len, held_numbers, rest_held, next_held}
use Rattle.vd_models.specs.Serving.{State, state, Opens, Begins, HasMore, IsTurnBy, owes_at, all_of}
use Rattle.vd_models.specs.Stages.{StageIs, taken_stage, given_stage, nothing_stage, woken_stage, waking_turn, is_done}
use Rattle.vd_models.proofs.Executing.{executes_taken, executes_given, executes_rested, control_given_len}
use Rattle.vd_models.proofs.Holding.{takes_rested}
use Rattle.vd_models.proofs.Lists.{prefix_same}
use Rattle.vd_models.proofs.Passing.{put, took, gave, rested}
use Rattle.vd_models.proofs.Sleeps.{found_none, armed_at, slept_at, woken_at}
use Rattle.vd_models.proofs.Stages.{at_take, at_give, at_rest, wakes_at, zero_test}
use Rattle.vd_models.proofs.Turns.{to, went_on, more_is}

-- ---- the journal as seen

pub seen_length : (bs : List Begun) → length (seen bs Free) ≡ length bs
seen_length bs = ap length (append-nil (map plain bs)) ∙ length-map bs plain

pub lens_plain : (bs : List Begun) → lens_of (map plain bs) ≡ lens_of bs
lens_plain [] = refl
lens_plain (b ∷ bs) = ap (λ ns. b.len ∷ ns) (lens_plain bs)

pub seen_lens : (bs : List Begun) → lens_of (seen bs Free) ≡ lens_of bs
seen_lens bs = ap lens_of (append-nil (map plain bs)) ∙ lens_plain bs

pub opens_seen : {E : Type 0} {e : DeviceModel E} (s : Session E) (hand : Hand) (begun : Reserved Begun) (w : DeviceView)
    → OpensCommands e s hand begun w → Opens e (seen_state s hand begun) w
opens_seen s hand begun w o = record { serves = o.commands.serves; live = o.live }

-- the session with another end, at another stage, with other chains held
abbrev pub session_at : {E : Type 0} → E → Attached → Stage → Buffer Held → Session E
session_at y by st held = record { end = y; by = by; stage = st; held = held }

module _ {P E : Type 0} {port : PortModel P} {e : DeviceModel E} (law : IsLawfulDevice e) (from : Session E) (begun : Reserved Begun)
    {p q : P} {w : DeviceView} where
  -- an access of the end, after which no command is in hand or the one that was taken
  of_end : OpensCommands e from Free begun w → (s' : Session E) (hand' : Hand) (t : Turn) (op : Op) (access : Access) (got : ℕ)
      → IsTurnBy port e p q w (seen_state from Free begun) (seen_state s' hand' begun) t op access got
      → AloneIs s'.stage s'.held.items
      → Executes e.words w.frame hand' s'.by begun.items (e.side.after w op access got).done
      → HandAt hand' s'.stage (e.begun s'.end) → length (waiting hand') ≤ begun.room
      → command_owes e s' hand' begun (e.side.after w op access got) + counted t + 64 * (length begun.items + length (gives w.done))
      ≤ command_owes e from Free begun w
      + 64 * (length begun.items + length (gives (e.side.after w op access got).done) + woke t)
      → IsCommandTurn port e p q w from s' Free hand' begun begun t
  of_end opens s' hand' t op access got h alone executes at room paid =
      let w' : DeviceView = e.side.after w op access got in
      let framed : w'.frame ≡ w.frame = law.framed w op access got in
      record {
        op = op;
        access = access;
        got = got;
        was_next = h.was_next;
        moved = h.moved;
        commands = record {
          serves = h.serves;
          control = ap (λ (f : Frame). f.control) framed ∙ opens.commands.control;
          alone = alone;
          executes = subst (λ (f : Frame). Executes e.words f hand' s'.by begun.items w'.done) (sym framed) executes;
          at = at;
          room = room;
        };
        grows = h.grows;
        acts = h.acts;
        begun = prefix_same begun.items begun.items refl;
        room = omega arith;
        capacity = h.capacity;
        looked = h.looked;
        slept = h.slept;
        woken = h.woken;
        rested = h.rested;
        paid = paid;
      }

  -- nothing was taken or given
  same_done : OpensCommands e from Free begun w → {y : E} (answer : DeviceAct)
      → (s : IsDeviceStep port e p q w from.end y answer) (st' : Stage) (t : Turn)
      → (e.side.after w s.op s.access s.got).done ≡ w.done → AloneIs st' from.held.items
      → IsTurnBy port e p q w (seen_state from Free begun) (to (seen_state from Free begun) y st') t s.op s.access s.got
      → IsCommandTurn port e p q w from (session_at y from.by st' from.held) Free Free begun begun t
  same_done opens {y} answer s st' t done alone h = of_end opens (session_at y from.by st' from.held) Free t s.op s.access s.got h alone
      (subst (λ (z : List DeviceDone). Executes e.words w.frame Free from.by begun.items z) (sym done) opens.commands.executes)
      tt (omega arith) (omega (arith, h.paid))

  pub went_free : {y : E} → OpensCommands e from Free begun w → IsDeviceStep port e p q w from.end y act.Moved
      → IsCommandTurn port e p q w from (session_at y from.by from.stage from.held) Free Free begun begun Worked
  went_free opens s = same_done opens act.Moved s from.stage Worked s.says.1 opens.commands.alone
      (went_on law (seen_state from Free begun) (opens_seen from Free begun w opens) s)

  pub none_free : {y : E} (empty : Bool) → OpensCommands e from Free begun w → Rattle.vd_words.specs.Own.IsOwn port e.side p w
      → IsDeviceStep port e p q w from.end y act.Nothing → empty ≡ (length from.held.items == 0)
      → IsCommandTurn port e p q w from (session_at y from.by (nothing_stage empty) from.held) Free Free begun begun Worked
  none_free empty opens own s is = same_done opens act.Nothing s (nothing_stage empty) Worked s.says.2 (alone_nothing empty from.held.items)
      (found_none law (seen_state from Free begun) empty (opens_seen from Free begun w opens) own s is)
    where
      alone_nothing : (b : Bool) (hs : List Held) → AloneIs (nothing_stage b) hs
      alone_nothing true hs = tt
      alone_nothing false hs = tt

  pub armed_free : {y : E} → OpensCommands e from Free begun w → IsDeviceStep port e p q w from.end y act.Armed
      → IsCommandTurn port e p q w from (session_at y from.by stage.Hearing from.held) Free Free begun begun Worked
  armed_free opens s = same_done opens act.Armed s stage.Hearing Worked s.says.2 tt
      (armed_at law (seen_state from Free begun) (opens_seen from Free begun w opens) s)

  pub slept_free : {y : E} → OpensCommands e from Free begun w → IsDeviceStep port e p q w from.end y act.Asleep
      → IsCommandTurn port e p q w from (session_at y from.by from.stage from.held) Free Free begun begun Slept
  slept_free opens s = same_done opens act.Asleep s from.stage Slept s.says.2 opens.commands.alone
      (slept_at law (seen_state from Free begun) (opens_seen from Free begun w opens) s)

  pub woken_free : {y : E} (armed : Bool) → OpensCommands e from Free begun w → IsDeviceStep port e p q w from.end y act.Awake
      → e.armed y ≡ armed
      → IsCommandTurn port e p q w from (session_at y from.by (woken_stage armed) from.held) Free Free begun begun (waking_turn from.stage)
  woken_free armed opens s is =
      let t = wakes_at w.frame.features.in_order from.held.items (length (seen begun.items Free)) (all_of from.by) from.stage
      (e.begun from.end) s.says.0 opens.commands.serves.stage in
      same_done opens act.Awake s (woken_stage armed) (waking_turn from.stage) s.says.2 (alone_woken armed from.held.items t.1)
      (woken_at law (seen_state from Free begun) armed (opens_seen from Free begun w opens) s is)
    where
      alone_woken : (b : Bool) (hs : List Held) → hs ≡ [] → AloneIs (woken_stage b) hs
      alone_woken true hs none = tt
      alone_woken false hs none = none

  pub rested_free : {y : E} → OpensCommands e from Free begun w → IsDeviceStep port e p q w from.end y act.Rested
      → IsCommandTurn port e p q w from (session_at y from.by stage.Done from.held) Free Free begun begun Worked
  rested_free {y} opens s =
      let x = seen_state from Free begun in
      let v = opens.commands.serves in
      let io = w.frame.features.in_order in
      let t = at_rest io from.held.items (length x.begun.items) (all_of from.by) from.stage (subst
      (λ o. StageIs from.stage o io from.held.items (length x.begun.items) (all_of from.by)) s.says.0 v.stage) in
      let even : length (takes w.done) ≡ length (gives w.done) = omega (arith, v.held.as_many, ap length t.1) in
      let h = rested law x (opens_seen from Free begun w opens) s in
      of_end opens (session_at y from.by stage.Done from.held) Free Worked s.op s.access s.got h tt
      (subst (λ (z : List DeviceDone). Executes e.words w.frame Free from.by begun.items z) (sym s.says.2)
      (executes_rested e.words w.frame from.by begun.items w.done (takes_rested w.done even) opens.commands.executes))
      tt (omega arith) (omega (arith, h.paid))

  pub took_free : {y : E} (held' : Buffer Held) (k : ℕ) (c : List Piece) → OpensCommands e from Free begun w
      → (s : IsDeviceStep port e p q w from.end y (act.Taken k c))
      → held' ≡ buffer (from.held.items ++ record { number = k; len = 1 } ∷ []) from.held.capacity
      → IsCommandTurn port e p q w from (session_at y from.by stage.Giving held') Free (Taken c) begun begun Worked
  took_free {y} held' k c opens s is_held =
      let x = seen_state from Free begun in
      let v = opens.commands.serves in
      let io = w.frame.features.in_order in
      let g : ℕ = s.says.0 in
      let t = at_take io from.held.items (length x.begun.items) (all_of from.by) from.stage (subst
      (λ o. StageIs from.stage o io from.held.items (length x.begun.items) (all_of from.by)) s.says.1 v.stage) in
      let none : from.held.items ≡ [] = subst (λ (z : Stage). AloneIs z from.held.items) t.0 opens.commands.alone in
      let idle : running w.done ≡ [] = sym v.held.hand ∙ ap held_numbers none in
      let runs = law.runs from.end w v.stands in
      let chain = s.says.5.control opens.commands.control in
      let many : length (takes w.done) + from.by.at ≡ length begun.items + from.by.from = omega
      (arith, v.serving.as_many, seen_length begun.items) in
      let room : 1 ≤ begun.room = omega (arith, t.1, v.room) in
      let h = took law x held' (seen_begun begun (Taken c)) k c true (opens_seen from Free begun w opens) s
      (is_held ∙ ap (λ n. buffer (from.held.items ++ record { number = k; len = n } ∷ []) from.held.capacity)
      (sym (control_given_len _ _ c chain)))
      (ap (λ (zs : List Begun). zs ++ begun_of c ∷ []) (sym (append-nil (map plain begun.items)))) (omega arith) (λ z. absurd (cc z)) in
      of_end opens (session_at y from.by stage.Giving held') (Taken c) Worked s.op s.access s.got h tt
      (subst (λ (z : List DeviceDone). Executes e.words w.frame (Taken c) from.by begun.items z) (sym s.says.4)
      (executes_taken e.words w.frame from.by begun.items w.done c g many runs.as_many idle chain opens.commands.executes))
      (refl, s.says.2) room
      (omega (arith, ap (λ (z : List DeviceDone). length (gives z)) s.says.4))

  pub gave_free : {y : E} (io : Bool) (held' : Buffer Held) (k : ℕ) (empty : Bool) → w.frame.features.in_order ≡ io
      → OpensCommands e from Free begun w → IsDeviceStep port e p q w from.end y (act.Given k)
      → held' ≡ buffer (rest_held io from.held.items) from.held.capacity → empty ≡ (length held'.items == 0)
      → IsCommandTurn port e p q w from (session_at y from.by (given_stage empty) held') Free Free begun begun Worked
  gave_free {y} io held' k empty is opens s is_held is_empty =
      let x = seen_state from Free begun in
      let v = opens.commands.serves in
      let said = says_given e.words k (e.begun from.end) (e.begun y) w.frame w.done (e.side.after w s.op s.access s.got).done s.says in
      let n : ℕ = s.says.0 in
      let t = at_give w.frame.features.in_order from.held.items (length x.begun.items) (all_of from.by) k n from.stage (subst
      (λ o. StageIs from.stage o w.frame.features.in_order from.held.items (length x.begun.items)
      (all_of from.by)) said.begun v.stage) in
      let next : next_held io from.held.items ≡ Some (record { number = k; len = n }) = ap (λ i. next_held i from.held.items) (sym is)
      ∙ t.1 in
      let nx = Rattle.vd_models.proofs.Lists.next_is io from.held.items (record { number = k; len = n }) next in
      let noted = Rattle.vd_models.proofs.Lists.All-next (λ (z : Held). Rattle.vd_bus.specs.Device.IsJournalled
      (seen begun.items Free) from.by.at from.by.from
      (entry z.number z.len)) io from.held.items (record { number = k; len = n }) next v.held.noted in
      let some : 1 ≤ occurs k (running w.done) = omega (arith, nx.among, ap (occurs k) v.held.hand) in
      let h = gave law x io held' k empty is (opens_seen from Free begun w opens) s is_held is_empty in
      of_end opens (session_at y from.by (given_stage empty) held') Free Worked s.op s.access s.got h
      (alone_given empty held'.items is_empty)
      (subst (λ (z : List DeviceDone). Executes e.words w.frame Free from.by begun.items z) (sym said.done)
      (executes_given e.words w.frame from.by begun.items w.done k n v.serving.before some
      (omega (arith, v.held.spread k, one_small (nat_lt k (length (takes w.done)))))
      (taken_below k (length (takes w.done)) (omega (arith, some, v.held.spread k)))
      (sym (ap (λ ns. slice_get ns (k - from.by.from + from.by.at)) (seen_lens begun.items)) ∙ noted.len) opens.commands.executes))
      tt (omega arith) (omega (arith, h.paid))
    where
      alone_given : (b : Bool) (hs : List Held) → b ≡ (length hs == 0) → AloneIs (given_stage b) hs
      alone_given true hs is = nil_from_length hs (zero_test (length hs) true is refl)
      alone_given false hs is = tt

      taken_below : (j m : ℕ) → 1 ≤ one (nat_lt j m) → j < m
      taken_below j m some = elim (cases_lt j m) [ inl a ↦ a | inr a ↦ absurd (omega (arith, some, one_above j m a)) ]

-- from before the operation was begun
pub command_from_begun : {P E : Type 0} {port : PortModel P} {e : DeviceModel E} {p q : P} {w : DeviceView} {begun begun' : Reserved Begun}
    {y : Session E} {hand : Hand} {t : Turn} (a b : Session E) → b.held ≡ a.held
    → owes_at e (seen_state b Free begun) w ≤ owes_at e (seen_state a Free begun) w
    → IsCommandTurn port e p q w b y Free hand begun begun' t → IsCommandTurn port e p q w a y Free hand begun begun' t
command_from_begun a b held owes h = record {
  op = h.op;
  access = h.access;
  got = h.got;
  was_next = h.was_next;
  moved = h.moved;
  commands = h.commands;
  grows = h.grows;
  acts = h.acts;
  begun = h.begun;
  room = h.room;
  capacity = h.capacity ∙ ap (λ (z : Buffer Held). z.capacity) held;
  looked = h.looked;
  slept = h.slept;
  woken = h.woken;
  rested = h.rested;
  paid = omega (arith, h.paid, owes);
}

module _ {E : Type 0} {e : DeviceModel E} {w : DeviceView} {begun : Reserved Begun} where
  -- the session once its operation is begun
  begun_opens : (a b : Session E) → b.by ≡ a.by → b.stage ≡ a.stage → b.held ≡ a.held → OpensCommands e a Free begun w
      → Opens e (seen_state b Free begun) w → OpensCommands e b Free begun w
  begun_opens a b by st held o go = record {
    commands = record {
      serves = go.serves;
      control = o.commands.control;
      alone = subst (λ (z : Stage). AloneIs z b.held.items) (sym st) (subst (λ (h : Buffer Held). AloneIs a.stage h.items) (sym held)
          o.commands.alone);
      executes = subst (λ (z : Attached). Executes e.words w.frame Free z begun.items w.done) (sym by) o.commands.executes;
      at = tt;
      room = omega arith;
    };
    live = go.live;
  }

  pub opens_begun : (more : Bool) (a b : Session E) → b.by ≡ a.by → b.stage ≡ a.stage → b.held ≡ a.held → Begins e a b more
      → HasMore more a.by (seen begun.items Free) → OpensCommands e a Free begun w → OpensCommands e b Free begun w
  opens_begun more a b by st held begins has o = begun_opens a b by st held o
      (begins (seen_begun begun Free) w (opens_seen a Free begun w o) has).opens

module _ {P E : Type 0} {port : PortModel P} {e : DeviceModel E} {p q : P} {w : DeviceView} {begun : Reserved Begun} where
  pub command_from : {y : Session E} {hand : Hand} {t : Turn} {more : Bool} (a b : Session E) → b.by ≡ a.by → b.stage ≡ a.stage
      → b.held ≡ a.held → Begins e a b more → HasMore more a.by (seen begun.items Free) → OpensCommands e a Free begun w
      → (OpensCommands e b Free begun w → IsCommandTurn port e p q w b y Free hand begun begun t)
      → IsCommandTurn port e p q w a y Free hand begun begun t
  command_from {more = more} a b by st held begins has o f = command_from_begun a b held
      (begins (seen_begun begun Free) w (opens_seen a Free begun w o) has).owes (f (opens_begun more a b by st held begins has o))

pub more_seen : (n m : ℕ) (by : Attached) (bs : List Begun) → n ≡ length bs → m ≡ all_of by → HasMore (nat_lt n m) by (seen bs Free)
more_seen n m by bs a b = more_is n m by (seen bs Free) (a ∙ sym (seen_length bs)) b

-- while it takes, one more may be held
pub take_window : {P E : Type 0} {port : PortModel P} {e : DeviceModel E} (from : Session E) (begun : Reserved Begun) {p q : P}
    {w : DeviceView} {y : E} (k : ℕ) (c : List Piece) → OpensCommands e from Free begun w
    → IsDeviceStep port e p q w from.end y (act.Taken k c) → length from.held.items < from.held.capacity
take_window from begun {w = w} {y = y} k c opens s =
    let v = opens.commands.serves in
    let io = w.frame.features.in_order in
    let n = length (seen begun.items Free) in
    let t = at_take io from.held.items n (all_of from.by) from.stage (subst
    (λ o. StageIs from.stage o io from.held.items n (all_of from.by)) s.says.1 v.stage) in
    subst (λ (z : Stage). Rattle.vd_models.specs.Stages.HasWindow z (length from.held.items) from.held.capacity) t.0 v.window
