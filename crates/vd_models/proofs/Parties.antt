-- From what a model device holds to what its calls do.
use Rattle.std.proofs.Common.{◌≡◌, ◌↔◌, ℕ, ◌+◌, ◌<◌, ◌≤◌, ◌==◌, Bool, true, false, Result, Ok, Err, is_err, OnOk, List, [], ◌∷◌, ◌++◌, length, nat_lt, if◌then◌else◌, refl, sym, ◌∙◌, ap, subst, arith, inl, inr}
use Rattle.std.specs.List.{All}
use Rattle.std.proofs.lemmas.Bool.{cases_eq, cases_lt, eq-eqb, ne_eqb}
use Rattle.std.proofs.lemmas.List.{drop_all, length-map}
use Rattle.std.proofs.lemmas.List.Elements.{All-nil}
use Rattle.vd_model.specs.declared.record.Begun.{Begun}
use Rattle.vd_words.specs.Model.{PortModel}
use Rattle.vd_ring.specs.declared.device.DeviceDone.{DeviceDone}
use Rattle.vd_ring.specs.declared.device.DeviceView.{DeviceView}
use Rattle.vd_ring.specs.declared.frame.Used.{Used}
use Rattle.vd_ring.specs.History.{takes, gives, running, numbers, occurs, entry, IsWhole}
use Rattle.vd_ring.proofs.Counts.{one_below, one_above, occurs_rest}
use Rattle.vd_layout.specs.declared.moves.Move.{Move}
use Rattle.vd_layout.specs.declared.moves.Move.TheVariants as move
use Rattle.vd_layout.specs.Begun.{DeviceOp}
use Rattle.vd_layout.specs.Device.{DeviceModel, IsLawfulDevice, IsStill}
use Rattle.vd_control.specs.declared.settings.Settings.{Settings}
use Rattle.vd_bus.specs.declared.device.Attached.{Attached}
use Rattle.vd_bus.specs.declared.event.Event.{Event}
use Rattle.vd_bus.specs.declared.event.Event.TheVariants.{Attach, Suspend, Reset}
use Rattle.vd_bus.specs.declared.journal.Journal.{Journal}
use Rattle.vd_bus.specs.Device.{IsJournalled, IsBegun, chains_of, gave}
use Rattle.vd_bus.specs.Entries.{Reserved}
use Rattle.vd_bus.specs.Pace.{last_count, raised, worked, attaches, KeepsPace}
use Rattle.vd_models.specs.declared.counts.Counts.{Counts}
use Rattle.vd_models.specs.declared.counts.Turn.{Turn}
use Rattle.vd_models.specs.declared.counts.Turn.TheVariants.{Worked, Woke, Slept}
use Rattle.vd_models.specs.declared.serving.Phase.{Phase}
use Rattle.vd_models.specs.declared.serving.Phase.TheVariants as phase
use Rattle.vd_models.specs.declared.serving.Session.{Session}
use Rattle.vd_models.specs.declared.serving.Stage.{Stage}
use Rattle.vd_models.specs.declared.serving.Stage.TheVariants as stage
use Rattle.vd_models.specs.declared.window.Held.{Held}
use Rattle.vd_models.specs.Counting.{counted, woke, move_of}
use Rattle.vd_models.specs.Holding.{HaveLens, IsHeld, capacity_of, journal_room}
use Rattle.vd_models.specs.Stages.{is_done, owes}
use Rattle.vd_models.specs.Phases.{Holds, IsAttached, IsCommanding, IsPaid, is_done_of}
use Rattle.vd_models.specs.Serving.{State, state, Serves, IsTurn, owes_at, all_of}
use Rattle.vd_models.proofs.Stages.{idle_small, window_most}

-- what it holds, by the name that the code has for its session
pub opened : {E : Type 0} (e : DeviceModel E) (p : Phase E) (s : Session E) (j : Journal) (c : Counts) (now : Settings) (w : DeviceView)
    → Holds e p j c now w → p ≡ phase.Serving s → IsAttached e s j c w
opened e p s j c now w h is = subst (λ (z : Phase _). Holds e z j c now w) is h

pub still_live : (st : Stage) → (is_done st ≡ true → ⊥) → is_done st ≡ false
still_live stage.Taking m = refl
still_live stage.Giving m = refl
still_live stage.Arming m = refl
still_live stage.Hearing m = refl
still_live stage.Done m = absurd (m refl)

pub not_done : {E : Type 0} (p : Phase E) (s : Session E) → p ≡ phase.Serving s → (is_done_of p ≡ true → ⊥) → is_done s.stage ≡ false
not_done p s is n = still_live s.stage (λ d. n (ap is_done_of is ∙ d))

-- ---- the answer

finished_is : (r : Move) (t : Turn) (d : Bool) → r ≡ move_of t d → (t ≡ Slept → d ≡ false) → (r ≡ move.Finished) ↔ (d ≡ true)
finished_is r Slept d is n = ((λ e. absurd (cc (is, e))), λ e. absurd (cc (n refl, e)))
finished_is r Worked true is n = ((λ e. refl), λ e. is)
finished_is r Worked false is n = ((λ e. absurd (cc (is, e))), λ e. absurd (cc e))
finished_is r Woke true is n = ((λ e. refl), λ e. is)
finished_is r Woke false is n = ((λ e. absurd (cc (is, e))), λ e. absurd (cc e))

pub finished_at : (r : Move) (t : Turn) (d b : Bool) → r ≡ move_of t d → d ≡ b → (t ≡ Slept → b ≡ false) → (r ≡ move.Finished) ↔ (b ≡ true)
finished_at r t d b is same n = finished_is r t b (is ∙ ap (move_of t) same) n

looked_is : (r : Move) (t : Turn) (d : Bool) → r ≡ move_of t d → (r ≡ move.Looked) ↔ (t ≡ Slept)
looked_is r Slept d is = ((λ e. refl), λ e. is)
looked_is r Worked true is = ((λ e. absurd (cc (is, e))), λ e. absurd (cc e))
looked_is r Worked false is = ((λ e. absurd (cc (is, e))), λ e. absurd (cc e))
looked_is r Woke true is = ((λ e. absurd (cc (is, e))), λ e. absurd (cc e))
looked_is r Woke false is = ((λ e. absurd (cc (is, e))), λ e. absurd (cc e))

pub looked_at : (r : Move) (t : Turn) (d : Bool) (A : Type 0) → r ≡ move_of t d → (t ≡ Slept) ↔ A → (r ≡ move.Looked) ↔ A
looked_at r t d A is h = let l = looked_is r t d is in ((λ e. h.0 (l.0 e)), λ x. l.1 (h.1 x))

pub counted_at : (r : Move) (t : Turn) (d : Bool) → r ≡ move_of t d → counted t ≡ worked r
counted_at r Slept d is = sym (ap worked is)
counted_at r Worked true is = sym (ap worked is)
counted_at r Worked false is = sym (ap worked is)
counted_at r Woke true is = sym (ap worked is)
counted_at r Woke false is = sym (ap worked is)

-- ---- the pace

pub raised_small : (k n : ℕ) → raised k n < last_count → raised k n ≡ n + k
raised_small k n h = omega arith

pub pays : {P E : Type 0} (port : PortModel P) (e : DeviceModel E) (p q : P) (w : DeviceView) (x y : State E) (t : Turn)
    (by by' : Attached) (n : ℕ) (c d : Counts) → by' ≡ by → (h : IsTurn port e p q w x y t)
    → d.accesses ≡ raised (counted t) c.accesses → d.heard ≡ raised (woke t) c.heard → by.from ≤ length (gives w.done)
    → by'.from ≤ length (gives (e.side.after w h.0 h.1 h.2).done)
    → IsPaid c (owes_at e x w) (length x.begun.items + gave by w + n) → IsPaid d (owes_at e y (e.side.after w h.0 h.1 h.2))
    (length y.begun.items + gave by' (e.side.after w h.0 h.1 h.2) + n)
pays port e p q w x y t by by' n c d same h more heard low low' paid few fewer =
    let a : d.accesses ≡ c.accesses + counted t = more ∙ raised_small (counted t) c.accesses (omega (arith, more)) in
    let b : d.heard ≡ c.heard + woke t = heard ∙ raised_small (woke t) c.heard (omega (arith, heard)) in
    omega (
      arith,
      a,
      b,
      low,
      low',
      ap (λ (z : Attached). z.at) same,
      ap (λ (z : Attached). z.from) same,
      h.3.paid,
      paid (omega (arith, a))
          (omega (arith, b)),
    )

-- ---- an attach

whole_spread : (s : List DeviceDone) → running s ≡ [] → length (takes s) ≡ length (gives s) → IsWhole s → (k : ℕ)
    → occurs k (running s) + occurs k (numbers (gives s)) ≡ (if nat_lt k (length (takes s)) then 1 else 0)
whole_spread s none even whole k = elim (cases_lt k (length (gives s))) [
  | inl a ↦ omega (arith, ap (occurs k) none, whole k a, one_below k (length (takes s)) (omega arith))
  | inr a ↦ (
      let rest = occurs_rest (length (gives s)) k (numbers (gives s)) a (λ j b. omega (arith, whole j b)) in
      omega (arith, ap (occurs k) none, rest, length-map (gives s) (λ (u : Used). u.number), one_above k (length (takes s)) (omega arith))
      )
]

-- an end that was resumed, with an empty window
pub starts : {E : Type 0} (e : DeviceModel E) (law : IsLawfulDevice e) (end : E) (s : Session E) (begun : Reserved Begun)
    (w : DeviceView)
    → s.stage ≡ stage.Taking → e.stands end w → IsStill e end → e.stands s.end w → e.begun s.end ≡ DeviceOp.idle
    → e.resting s.end ≡ false → s.by.at ≡ length begun.items → s.by.from ≡ length (takes w.done) → s.held.items ≡ [] → 0 < s.held.capacity
    → s.by.count ≤ begun.room → all_of s.by < 4294967296 → HaveLens begun.items → Serves e (state s begun) w
starts e law end s begun w taking stands still stands' idle awake is_at is_from none some room small lens =
    let h = law.whole end w stands still in
    let by = s.by in
    let in_order = w.frame.features.in_order in
    let at : Serves e (record { end = s.end; by = by; stage = stage.Taking; held = s.held; begun = begun }) w = record {
      stands = stands';
      serving = record {
        as_many = omega arith;
        after = omega arith;
        before = omega (arith, h.1);
        few = omega arith;
        chains = ap chains_of (drop_all by.at begun.items (omega arith)) ∙ sym (drop_all by.from (takes w.done) (omega arith));
        each = subst (λ (zs : List Begun). All IsBegun zs) (sym (drop_all by.at begun.items (omega arith))) (All-nil IsBegun);
        given = subst (λ (zs : List Used). All (IsJournalled begun.items by.at by.from) zs) (sym
            (drop_all by.from (gives w.done) (omega (arith, h.1)))) (All-nil (IsJournalled begun.items by.at by.from));
      };
      held = subst (λ (hs : List Held). IsHeld begun.items by hs w.frame w.done) (sym none) record {
        spread = whole_spread w.done h.0 h.1 h.2;
        hand = sym h.0;
        as_many = omega (arith, h.1);
        noted = All-nil (λ (y : Held). IsJournalled begun.items by.at by.from (entry y.number y.len));
        order = λ o j d below. absurd (omega arith);
      };
      stage = subst (λ o. Rattle.vd_models.specs.Stages.StageIs stage.Taking o in_order s.held.items (length begun.items) (all_of by))
          (sym idle) (inl none);
      armed = law.unarmed end w stands still;
      op = subst (λ o. Rattle.vd_models.specs.Stages.OpIs o w.doing w.shown (e.left s.end)) (sym idle) tt;
      rests = awake;
      last = λ d. absurd (cc d);
      window = omega (arith, ap length none);
      room = omega arith;
      small = small;
      lens = lens;
    } in
    subst (λ (z : Stage). Serves e (record { end = s.end; by = by; stage = z; held = s.held; begun = begun }) w) (sym taking) at

attaches_push : (es : List Event) (x : Event) → attaches (es ++ x ∷ []) ≡ attaches es + attaches (x ∷ [])
attaches_push [] x = omega arith
attaches_push (Attach at ring base mode settings map ∷ es) x = omega (arith, attaches_push es x)
attaches_push (Suspend at base ∷ es) x = attaches_push es x
attaches_push (Reset at ∷ es) x = attaches_push es x

pub attaches_more : (es es' : List Event) (x : Event) → es' ≡ es ++ x ∷ [] → attaches es' ≡ attaches es + attaches (x ∷ [])
attaches_more es es' x is = ap attaches is ∙ attaches_push es x

-- it owes little when it is attached
pub begins_paid : {E : Type 0} (e : DeviceModel E) (law : IsLawfulDevice e) (end : E) (s : Session E) (begun : Reserved Begun)
    (w : DeviceView) (c : Counts) (n n' : ℕ)
    → e.stands end w → IsStill e end → e.begun s.end ≡ DeviceOp.idle → s.by.at ≡ length begun.items → s.by.from ≡ length (takes w.done)
    → n' ≡ n + 1
    → KeepsPace c.accesses c.heard (length begun.items + length begun.items + c.heard + n) → IsPaid c (owes_at e (state s begun) w)
    (length begun.items + gave s.by w + n')
begins_paid e law end s begun w c n n' stands still idle is_at is_from one paced few fewer =
    let h = law.whole end w stands still in
    omega (arith, paced few fewer, h.1, ap (λ o. owes s.stage o w.doing w.shown (e.left s.end)) idle, idle_small s.stage w.shown)

-- ---- the room for events

room_small : (t : Bool) (r : ℕ) → (if t then 0 else r) ≤ r
room_small true r = omega arith
room_small false r = omega arith

pub room_most : {E : Type 0} (p : Phase E) (r : ℕ) → journal_room p r ≤ r
room_most p r = room_small (capacity_of p == 0) r

pub room_all : {E : Type 0} (p : Phase E) (r : ℕ) → 0 < capacity_of p → journal_room p r ≡ r
room_all p r some = ap {B = ℕ} (λ (t : Bool). if t then 0 else r) (ne_eqb (capacity_of p) 0 (λ z. omega arith))

pub room_some : {E : Type 0} (p : Phase E) (r : ℕ) → 0 < journal_room p r → 0 < capacity_of p
room_some p r some = elim (cases_eq (capacity_of p) 0) [
  | inl z ↦ absurd (let none : journal_room p r ≡ 0 = ap {B = ℕ} (λ (t : Bool). if t then 0 else r) (eq-eqb (capacity_of p) 0 z) in
      omega arith)
  | inr ne ↦ omega arith
]

pub ok_of : {T E : Type 0} (r : Result T E) (P : Type 0) → is_err r ≡ false → OnOk r P → P
ok_of (Ok x) P ok h = h
ok_of (Err x) P ok h = absurd (cc)

-- no more chains run than it has room for
pub running_within : {E : Type 0} (e : DeviceModel E) (p : Phase E) (j : Journal) (c : Counts) (now : Settings) (w : DeviceView)
    → Holds e p j c now w → length (running w.done) ≤ capacity_of p
running_within e phase.Unreserved j c now w h = absurd h
running_within e (phase.Free b) j c now w h = absurd h
running_within e (phase.Serving s) j c now w h =
    let most : length s.held.items ≤ s.held.capacity = window_most s.stage (length s.held.items) s.held.capacity h.serves.window in
    let many : length s.held.items ≡ length (running w.done) = sym (length-map s.held.items (λ (x : Held). x.number))
    ∙ ap length h.serves.held.hand in
    omega (arith, most, many)
running_within e (phase.Commanding k) j c now w h =
    let s = k.session in
    let v = h.commands.serves in
    let most : length s.held.items ≤ s.held.capacity = window_most s.stage (length s.held.items) s.held.capacity v.window in
    let many : length s.held.items ≡ length (running w.done) = sym (length-map s.held.items (λ (x : Held). x.number))
    ∙ ap length v.held.hand in
    omega (arith, most, many)
