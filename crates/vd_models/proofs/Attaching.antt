-- What an attach, a step and a suspension do to what a model device holds, whatever its queue.
use Rattle.std.proofs.Common.{◌≡◌, ◌↔◌, ℕ, ◌+◌, ◌-◌, ◌*◌, ◌<◌, ◌≤◌, ◌==◌, Bool, true, false, Option, Some, None, List, [], ◌∷◌, ◌++◌, length, map, drop, if◌then◌else◌, refl, sym, ◌∙◌, ap, subst, arith, inl, inr}
use Rattle.std.proofs.lemmas.Bool.{cases_eq, eq-eqb, ne_eqb}
use Rattle.std.proofs.lemmas.List.{drop_all, append-nil}
use Rattle.vd_model.specs.declared.record.Begun.{Begun}
use Rattle.vd_words.specs.Model.{PortModel}
use Rattle.vd_ring.specs.declared.device.DeviceView.{DeviceView}
use Rattle.vd_ring.specs.History.{takes, gives}
use Rattle.vd_layout.specs.Begun.{DeviceOp}
use Rattle.vd_layout.specs.Device.{DeviceModel, IsLawfulDevice, IsStill}
use Rattle.vd_control.specs.declared.settings.Settings.{Settings}
use Rattle.vd_bus.specs.declared.device.Attached.{Attached}
use Rattle.vd_bus.specs.declared.event.Event.{Event}
use Rattle.vd_bus.specs.declared.journal.Journal.{Journal}
use Rattle.vd_bus.specs.Device.{chains_of, gave, lens_of}
use Rattle.vd_bus.specs.DeviceCommands.{commands_of}
use Rattle.vd_bus.specs.Entries.{Reserved}
use Rattle.vd_bus.specs.Pace.{last_count, raised, attaches, KeepsPace}
use Rattle.vd_commands.specs.Words.{set_by}
use Rattle.vd_models.specs.declared.commanding.Commanding.{Commanding}
use Rattle.vd_models.specs.declared.counts.Counts.{Counts}
use Rattle.vd_models.specs.declared.counts.Turn.{Turn}
use Rattle.vd_models.specs.declared.hand.Hand.{Hand}
use Rattle.vd_models.specs.declared.hand.Hand.TheVariants.{Free}
use Rattle.vd_models.specs.declared.serving.Phase.{Phase}
use Rattle.vd_models.specs.declared.serving.Phase.TheVariants as phase
use Rattle.vd_models.specs.declared.serving.Session.{Session}
use Rattle.vd_models.specs.declared.serving.Stage.{Stage}
use Rattle.vd_models.specs.declared.serving.Stage.TheVariants as stage
use Rattle.vd_models.specs.Counting.{counted, woke}
use Rattle.vd_models.specs.Commanding.{seen_begun, seen_state, AloneIs, command_owes, IsCommandTurn}
use Rattle.vd_models.specs.Hands.{plain, seen, waiting}
use Rattle.vd_models.specs.Holding.{HaveLens, given_len, capacity_of, journal_room}
use Rattle.vd_models.specs.Phases.{Holds, IsCommanding, IsPaid, PacesFree, attached_of, is_done_of, phase_at, session_of, settings_of}
use Rattle.vd_models.specs.Serving.{state, owes_at, all_of}
use Rattle.vd_models.specs.Stages.{is_done, owes}
use Rattle.vd_models.proofs.CommandTurns.{seen_length, seen_lens, lens_plain}
use Rattle.vd_models.proofs.Executing.{executes_none}
use Rattle.vd_models.proofs.Parties.{starts, begins_paid, raised_small}
use Rattle.vd_models.proofs.Stages.{idle_small}

-- ---- what is held from an attach on

by_queue : {E : Type 0} (Q : Phase E → Type 0) (s : Session E) (settings : Settings) (p : Phase E) → p ≡ phase_at s settings
    → (s.by.queue ≡ 15 → Q (phase.Commanding (record { session = s; hand = Free; at_attach = settings })))
    → ((s.by.queue ≡ 15 → ⊥) → Q (phase.Serving s)) → Q p
by_queue Q s settings p is a b = subst Q (sym is) (elim (cases_eq s.by.queue 15) [
  | inl e ↦ subst (λ (t : Bool). Q (if t then phase.Commanding (record { session = s; hand = Free; at_attach = settings })
      else phase.Serving s)) (sym (eq-eqb s.by.queue 15 e)) (a e)
  | inr ne ↦ subst (λ (t : Bool). Q (if t then phase.Commanding (record { session = s; hand = Free; at_attach = settings })
      else phase.Serving s)) (sym (ne_eqb s.by.queue 15 ne)) (b ne)
])

module _ {E : Type 0} (s : Session E) (settings : Settings) (p : Phase E) (is : p ≡ phase_at s settings) where
  pub at_attached : attached_of p ≡ Some s.by
  at_attached = by_queue (λ z. attached_of z ≡ Some s.by) s settings p is (λ e. refl) (λ e. refl)

  pub at_done : is_done_of p ≡ is_done s.stage
  at_done = by_queue (λ z. is_done_of z ≡ is_done s.stage) s settings p is (λ e. refl) (λ e. refl)

  pub at_capacity : capacity_of p ≡ s.held.capacity
  at_capacity = by_queue (λ z. capacity_of z ≡ s.held.capacity) s settings p is (λ e. refl) (λ e. refl)

  pub at_settings : settings_of p settings ≡ settings
  at_settings = by_queue (λ z. settings_of z settings ≡ settings) s settings p is (λ e. refl) (λ e. refl)

  pub at_paced : (c : Counts) (bs : List Begun) (es : List Event) → PacesFree p c bs es
  at_paced c bs es = by_queue (λ z. PacesFree z c bs es) s settings p is (λ e none. absurd (cc none)) (λ e none. absurd (cc none))

plain_chains : (bs : List Begun) → chains_of (map plain bs) ≡ chains_of bs
plain_chains [] = refl
plain_chains (b ∷ bs) = ap (λ cs. b.chain ∷ cs) (plain_chains bs)

seen_have : (bs : List Begun) → HaveLens bs → HaveLens (seen bs Free)
seen_have bs h = seen_lens bs ∙ h ∙ sym (ap (map given_len) (ap chains_of (append-nil (map plain bs)) ∙ plain_chains bs))

-- an end that was resumed, with an empty window
pub attach_holds : {E : Type 0} (e : DeviceModel E) (law : IsLawfulDevice e) (end : E) (s : Session E) (settings : Settings) (p : Phase E)
    (events : Reserved Event) (begun : Reserved Begun) (c : Counts) (w : DeviceView) (n : ℕ) → p ≡ phase_at s settings
    → s.stage ≡ stage.Taking → e.stands end w → IsStill e end → e.stands s.end w → e.begun s.end ≡ DeviceOp.idle
    → e.resting s.end ≡ false → s.by.at ≡ length begun.items → s.by.from ≡ length (takes w.done) → s.held.items ≡ [] → 0 < s.held.capacity
    → s.by.count ≤ begun.room → all_of s.by < 4294967296 → HaveLens begun.items → 0 < events.room
    → attaches events.items ≡ n + 1
    → KeepsPace c.accesses c.heard (length begun.items + length begun.items + c.heard + n)
    → (w.frame.control ≡ true) ↔ (s.by.queue ≡ 15) → Holds e p (record { events = events; begun = begun }) c settings w
attach_holds e law end s settings p events begun c w n is taking stands still stands' idle awake at from none some room small lens roomy
    more paced fits =
    let whole = law.whole end w stands still in
    by_queue (λ z. Holds e z (record { events = events; begun = begun }) c settings w) s settings p is
    (λ control. record {
      commands = record {
        serves = starts e law end s (seen_begun begun Free) w taking stands still stands' idle awake (at ∙ sym (seen_length begun.items))
            from none some (omega (arith, room)) small (seen_have begun.items lens);
        control = fits.1 control;
        alone = subst (λ (z : Stage). AloneIs z s.held.items) (sym taking) none;
        executes = executes_none e.words w.frame s.by begun.items w.done at (omega (arith, from, whole.1)) whole.0;
        at = tt;
        room = omega arith;
      };
      paid = λ few fewer. omega (
        arith,
        paced few fewer,
        at,
        from,
        more,
        whole.1,
        ap (λ o. owes s.stage o w.doing w.shown (e.left s.end)) idle,
        idle_small s.stage w.shown,
      );
      event = roomy;
      for_control = control;
      set = ap (λ (xs : List Begun). set_by settings (commands_of xs)) (sym (drop_all s.by.at begun.items (omega (arith, at))));
    })
    (λ data_queue. record {
      serves = starts e law end s begun w taking stands still stands' idle awake at from none some room small lens;
      paid = begins_paid e law end s begun w c n (attaches events.items) stands still idle at from more paced;
      event = roomy;
      for_data = data_queue;
    })

-- ---- a step

pub opened_commands : {E : Type 0} (e : DeviceModel E) (p : Phase E) (k : Commanding E) (j : Journal) (c : Counts) (now : Settings)
    (w : DeviceView)
    → Holds e p j c now w → p ≡ phase.Commanding k → IsCommanding e k j c now w
opened_commands e p k j c now w h is = subst (λ (z : Phase _). Holds e z j c now w) is h

pub command_pays : {P E : Type 0} (port : PortModel P) (e : DeviceModel E) (p q : P) (w : DeviceView) (s s' : Session E)
    (hand hand' : Hand) (bs bs' : Reserved Begun) (t : Turn) (n : ℕ) (c d : Counts) → s'.by ≡ s.by
    → (h : IsCommandTurn port e p q w s s' hand hand' bs bs' t)
    → d.accesses ≡ raised (counted t) c.accesses → d.heard ≡ raised (woke t) c.heard → s.by.from ≤ length (gives w.done)
    → s'.by.from ≤ length (gives (e.side.after w h.op h.access h.got).done)
    → IsPaid c (command_owes e s hand bs w) (length bs.items + gave s.by w + n)
    → IsPaid d (command_owes e s' hand' bs' (e.side.after w h.op h.access h.got))
    (length bs'.items + gave s'.by (e.side.after w h.op h.access h.got) + n)
command_pays port e p q w s s' hand hand' bs bs' t n c d same h more heard low low' paid few fewer =
    let a : d.accesses ≡ c.accesses + counted t = more ∙ raised_small (counted t) c.accesses (omega (arith, more)) in
    let b : d.heard ≡ c.heard + woke t = heard ∙ raised_small (woke t) c.heard (omega (arith, heard)) in
    omega (
      arith,
      a,
      b,
      low,
      low',
      ap (λ (z : Attached). z.at) same,
      ap (λ (z : Attached). z.from) same,
      h.paid,
      paid (omega (arith, a)) (omega (arith, b)),
    )

-- ---- a suspension

same_session : {E : Type 0} (s t : Session E) → Some s ≡ Some t → s ≡ t
same_session s t is = Rattle.vd_ring.proofs.ListSteps.some_same s t is

module _ {E : Type 0} (s : Session E) where
  pub held_session : (e : DeviceModel E) (p : Phase E) (j : Journal) (c : Counts) (now : Settings) (w : DeviceView) → Holds e p j c now w
      → session_of p ≡ Some s → (e.stands s.end w) × (e.resting s.end ≡ is_done s.stage)
  held_session e phase.Unreserved j c now w h is = absurd h
  held_session e (phase.Free b) j c now w h is = absurd h
  held_session e (phase.Serving t) j c now w h is = subst (λ (z : Session E). e.stands z.end w × (e.resting z.end ≡ is_done z.stage))
      (same_session t s is) (h.serves.stands, h.serves.rests)
  held_session e (phase.Commanding k) j c now w h is = subst (λ (z : Session E). e.stands z.end w × (e.resting z.end ≡ is_done z.stage))
      (same_session k.session s is) (h.commands.serves.stands, h.commands.serves.rests)

  pub session_done : (p : Phase E) → session_of p ≡ Some s → is_done_of p ≡ is_done s.stage
  session_done phase.Unreserved is = absurd (cc is)
  session_done (phase.Free b) is = absurd (cc is)
  session_done (phase.Serving t) is = ap (λ (z : Session E). is_done z.stage) (same_session t s is)
  session_done (phase.Commanding k) is = ap (λ (z : Session E). is_done z.stage) (same_session k.session s is)

  pub session_capacity : (p : Phase E) → session_of p ≡ Some s → capacity_of p ≡ s.held.capacity
  session_capacity phase.Unreserved is = absurd (cc is)
  session_capacity (phase.Free b) is = absurd (cc is)
  session_capacity (phase.Serving t) is = ap (λ (z : Session E). z.held.capacity) (same_session t s is)
  session_capacity (phase.Commanding k) is = ap (λ (z : Session E). z.held.capacity) (same_session k.session s is)

  pub session_attached : (p : Phase E) → session_of p ≡ Some s → attached_of p ≡ Some s.by
  session_attached phase.Unreserved is = absurd (cc is)
  session_attached (phase.Free b) is = absurd (cc is)
  session_attached (phase.Serving t) is = ap (λ (z : Session E). Some z.by) (same_session t s is)
  session_attached (phase.Commanding k) is = ap (λ (z : Session E). Some z.by) (same_session k.session s is)

pub held_room : {E : Type 0} (e : DeviceModel E) (p : Phase E) (j : Journal) (c : Counts) (now : Settings) (w : DeviceView)
    → Holds e p j c now w
    → 0 < j.events.room
held_room e phase.Unreserved j c now w h = absurd h
held_room e (phase.Free b) j c now w h = absurd h
held_room e (phase.Serving t) j c now w h = h.event
held_room e (phase.Commanding k) j c now w h = h.event

-- ---- the journal's lengths

have_first : (xs ys : List Begun) → HaveLens (xs ++ ys) → HaveLens xs
have_first [] ys h = refl
have_first (x ∷ xs) ys h =
    let here : x.len ≡ given_len x.chain = cc h in
    let rest : HaveLens (xs ++ ys) = cc h in
    ap (λ n. n ∷ lens_of xs) here ∙ ap (λ ns. given_len x.chain ∷ ns) (have_first xs ys rest)

pub seen_lawful : (bs : List Begun) (hand : Hand) → HaveLens (seen bs hand) → HaveLens bs
seen_lawful bs hand h = sym (lens_plain bs) ∙ have_first (map plain bs) (waiting hand) h ∙ ap (map given_len) (plain_chains bs)

-- ---- the room for events

pub room_kept : {E : Type 0} (p p' : Phase E) (r r' : ℕ) → capacity_of p' ≡ capacity_of p → r ≤ r' + 1
    → journal_room p r ≤ journal_room p' r' + 1
room_kept p p' r r' same le = subst (λ n. journal_room p r ≤ (if n == 0 then 0 else r') + 1) (sym same) (at (capacity_of p == 0))
  where
    at : (b : Bool) → (if b then 0 else r) ≤ (if b then 0 else r') + 1
    at true = omega arith
    at false = omega (arith, le)
