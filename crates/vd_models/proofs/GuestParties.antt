-- From what a model guest holds to what its calls do.
use Rattle.std.proofs.Common.{◌≡◌, ℕ, ◌+◌, ◌*◌, ◌<◌, ◌≤◌, ◌==◌, Bool, true, false, Option, Some, List, [], ◌∷◌, length, map, take, drop, vec_capacity, if◌then◌else◌, refl, sym, ◌∙◌, ap, subst, arith, inl, inr}
use Rattle.std.proofs.lemmas.Bool.{cases_eq, eq-eqb, ne_eqb}
use Rattle.std.proofs.lemmas.Option.{slice_get_within}
use Rattle.vd_model.specs.declared.record.Return.{Return}
use Rattle.vd_model.specs.declared.record.Script.{Script}
use Rattle.vd_words.specs.Model.{PortModel}
use Rattle.vd_ring.specs.declared.driver.DriverDone.{DriverDone}
use Rattle.vd_ring.specs.declared.driver.DriverView.{DriverView}
use Rattle.vd_ring.specs.History.{offers, collects, open_at}
use Rattle.vd_layout.specs.Begun.{DriverOp}
use Rattle.vd_layout.specs.Driver.{DriverModel}
use Rattle.vd_layout.specs.Layout.{LayoutModel}
use Rattle.vd_bus.specs.Guest.{CanBoot, as_return}
use Rattle.vd_bus.specs.GuestCommands.{HasSent, AreAcked}
use Rattle.vd_bus.specs.Pace.{raised}
use Rattle.vd_bus.specs.Scripts.{chains, IsScript, most_scripted}
use Rattle.vd_models.specs.declared.counts.Counts.{Counts}
use Rattle.vd_models.specs.declared.counts.Turn.{Turn}
use Rattle.vd_models.specs.declared.cursor.Cursor.{Cursor}
use Rattle.vd_models.specs.declared.driving.Booted.{Booted}
use Rattle.vd_models.specs.declared.driving.Loaded.{Loaded}
use Rattle.vd_models.specs.declared.driving.GuestPhase.{GuestPhase}
use Rattle.vd_models.specs.declared.driving.GuestPhase.TheVariants as phase
use Rattle.vd_models.specs.declared.driving.GuestStage.{GuestStage}
use Rattle.vd_models.specs.declared.driving.GuestStage.TheVariants as stage
use Rattle.vd_models.specs.Counting.{counted, woke}
use Rattle.vd_models.specs.Cursors.{left_at, IsSettled}
use Rattle.vd_models.specs.GuestStages.{BegunIs, ArmedIs, OpIs, DoneIs, is_done, first_stage, owes}
use Rattle.vd_models.specs.Pending.{IsNoOffer}
use Rattle.vd_models.specs.declared.pending.Pending.TheVariants as hand
use Rattle.vd_models.specs.Driving.{GuestHolds, next_of, scripted, IsBooted, IsPlan, IsLoaded, IsFresh, booted_of, Driven, Drives, IsDriveTurn, IsPaid, owes_at, loaded_of, is_done_of}
use Rattle.vd_models.proofs.GuestGoing.{idle_small}
use Rattle.vd_models.proofs.Parties.{raised_small}
use Rattle.vd_models.proofs.Drives.{owes_free}
use Rattle.vd_models.proofs.Scripts.{start_left, chains_count}
use Rattle.vd_models.specs.laws.Scripted.{commands_or, scripted_chains, scripted_commands}

-- what it holds, by the name that the code has for it
pub opened : {D : Type 0} (d : DriverModel D) (l : LayoutModel) (p : GuestPhase D) (b : Booted D) (c : Counts) (v : DriverView)
    → GuestHolds d l p c v → p ≡ phase.Booted b → IsBooted d l b c v
opened d l p b c v h is = subst (λ (z : GuestPhase _). GuestHolds d l z c v) is h

-- a guest that was loaded and not booted has made no access
pub quiet : {D : Type 0} (p : GuestPhase D) (x : Loaded) (c : Counts) → p ≡ phase.Loaded x → IsFresh p c → c.accesses ≡ 0
quiet p x c is h = h (ap (λ (z : GuestPhase _). booted_of z) is)

pub loaded_is : {D : Type 0} (p : GuestPhase D) (y : Loaded) → p ≡ phase.Loaded y → IsLoaded p → IsPlan y
loaded_is p y is h = subst (λ (z : GuestPhase _). IsLoaded z) is h

pub same_script : (x y : Script) → ◌≡◌ {A = Option Script} (Some x) (Some y) → x ≡ y
same_script x y e = cc

pub not_done : {D : Type 0} (p : GuestPhase D) (b : Booted D) → p ≡ phase.Booted b → (is_done_of (loaded_of p) ≡ true → ⊥)
    → is_done b.loaded.stage ≡ false
not_done p b is n = at b.loaded.stage (λ e. n (ap (λ (z : GuestPhase _). is_done_of (loaded_of z)) is ∙ e))
  where
    at : (st : GuestStage) → (is_done st ≡ true → ⊥) → is_done st ≡ false
    at stage.Done m = absurd (m refl)
    at stage.Offering m = refl
    at stage.Collecting m = refl
    at stage.Arming m = refl
    at stage.Hearing m = refl

-- a script's chains or commands are few
pub scripted_few : (s : Script) → IsScript s → scripted s ≤ most_scripted
scripted_few s h = commands_or s (λ none. omega (arith, scripted_chains s none, chains_count s.runs, h.chains))
    (λ some. omega (arith, scripted_commands s some, h.commands))

-- ---- the pace

pub pays : {P D : Type 0} (port : PortModel P) (d : DriverModel D) (l : LayoutModel) (p q : P) (v : DriverView) (x y : Driven D) (t : Turn)
    (c c' : Counts) → (h : IsDriveTurn port d l p q v x y t)
    → c'.accesses ≡ raised (counted t) c.accesses → c'.heard ≡ raised (woke t) c.heard
    → IsPaid c (owes_at d x v) (x.offered + length x.returned) → IsPaid c' (owes_at d y (d.side.after v h.op h.access h.got))
    (y.offered + length y.returned)
pays port d l p q v x y t c c' h more heard paid few fewer =
    let a : c'.accesses ≡ c.accesses + counted t = more ∙ raised_small (counted t) c.accesses (omega (arith, more)) in
    let b : c'.heard ≡ c.heard + woke t = heard ∙ raised_small (woke t) c.heard (omega (arith, heard)) in
    omega (arith, a, b, h.paid, paid (omega (arith, a)) (omega (arith, b)))

pub less_paid : (c : Counts) (owed did : ℕ) → IsPaid c owed did → IsPaid c 0 did
less_paid c owed did h few fewer = omega (arith, h few fewer)

-- ---- a boot

record FirstIs (n : ℕ) (st : GuestStage) : Type 0 where
  done : DoneIs st 0 n
  begun : (next : Option (List Rattle.vd_model.specs.declared.chain.Piece.Piece)) (f : Rattle.vd_ring.specs.declared.frame.Frame.Frame)
      (o : List DriverDone) → BegunIs st DriverOp.idle next f o
  armed : (t : Rattle.vd_ring.specs.declared.driver.DriverNow.DriverNow) (a : Option ℕ) → a ≡ Rattle.std.proofs.Common.None
      → ArmedIs st DriverOp.idle t a

first_is : (n : ℕ) → FirstIs n (first_stage n)
first_is n = at (n == 0) refl
  where
    at : (b : Bool) → b ≡ (n == 0) → FirstIs n (if b then stage.Done else stage.Offering)
    at true e = record { done = sym (zero e); begun = λ x f o. tt; armed = λ t a none. none }
      where
        zero : true ≡ (n == 0) → n ≡ 0
        zero e = elim (cases_eq n 0) [ inl z ↦ z | inr ne ↦ absurd (let f : (n == 0) ≡ false = ne_eqb n 0 ne in cc) ]
    at false e = record { done = some e; begun = λ x f o. tt; armed = λ t a none. none }
      where
        some : false ≡ (n == 0) → 0 < n
        some e = elim (cases_eq n 0) [ inl z ↦ absurd (let f : (n == 0) ≡ true = eq-eqb n 0 z in cc) | inr ne ↦ omega arith ]

no_runs : {A : Type 0} (runs : List A) (b : Bool) → ((runs ≡ [] → ⊥) → b ≡ false) → b ≡ true → runs ≡ []
no_runs [] b other is = refl
no_runs (r ∷ rs) b other is = absurd (let no : b ≡ false = other (λ e. cc e) in cc)

pub boots : {D : Type 0} (d : DriverModel D) (l : LayoutModel) (end : D) (y : Loaded) (at : Cursor) (st : GuestStage) (v : DriverView)
    → d.begun end ≡ DriverOp.idle → IsPlan y → y.offered ≡ 0 → y.returned.items ≡ []
    → left_at y.script.runs at ≡ left_at y.script.runs (record { run = 0; used = 0 }) → IsSettled y.script.runs at
    → st ≡ first_stage y.total → d.stands end v → CanBoot l y.script v
    → Drives d l (record {
      end = end;
      script = y.script;
      at = at;
      offered = y.offered;
      returned = y.returned.items;
      stage = st;
      hand = hand.Free;
    }) v
boots d l end y at st v idle plan none empty left settled is stands can =
    let f : FirstIs (scripted y.script) st = subst (λ (z : GuestStage). FirstIs (scripted y.script) z) (sym (is
    ∙ ap first_stage plan.total)) (first_is (scripted y.script)) in
    record {
      stands = stands;
      settled = settled;
      chained = λ e. record {
        left = left ∙ start_left y.script.runs ∙ ap (λ n. drop n (chains y.script)) (sym none);
        offers = ap offers can.fresh ∙ ap (λ n. take n (chains y.script)) (sym none);
        some = omega arith;
        returned = empty ∙ ap (map as_return) (sym (ap collects can.fresh));
        fits = can.fits;
        control = can.other;
      };
      sent = λ some. record {
        sent = subst (λ (o : List DriverDone). HasSent d.words y.script v.frame o) (sym can.fresh) (record {
          some = omega arith;
          each = λ k bytes low get. absurd (omega (arith, low));
        });
        acked = subst (λ (o : List DriverDone). AreAcked o y.returned.items) (sym can.fresh) (subst (λ (rs : List Return). AreAcked [] rs)
            (sym empty) (record {
              some = omega arith;
              last = omega arith;
              each = λ j r get. absurd (omega (arith, slice_get_within [] j r get));
            }));
        offered = none ∙ sym (ap (λ (o : List DriverDone). length (offers o)) can.fresh);
        ring = can.sends some;
        plain = no_runs y.script.runs v.frame.control can.other (can.sends some).control;
      };
      held = (
        ap length empty ∙ sym (ap (λ (o : List DriverDone). length (collects o)) can.fresh),
        λ some. subst (λ z. IsNoOffer z) (sym idle) tt,
      );
      count = omega (
        arith,
        ap (λ (o : List DriverDone). length (offers o)) can.fresh,
        ap
            (λ (o : List DriverDone). length (collects o)) can.fresh,
        ap (λ (o : List DriverDone). length (open_at o)) can.fresh,
      );
      begun = subst (λ z. BegunIs st z (next_of d.words y.script at v.frame v.done) v.frame v.done) (sym idle) (f.begun
          (next_of d.words y.script at v.frame v.done) v.frame v.done);
      done = subst (λ (n : ℕ). DoneIs st n (scripted y.script)) (sym (ap length empty)) f.done;
      armed = subst (λ z. ArmedIs st z v.doing v.armed) (sym idle) (f.armed v.doing v.armed can.unarmed);
      op = subst (λ z. OpIs z v.doing v.shown (d.left end)) (sym idle) tt;
      few = omega (arith, plan.few, plan.total);
    }

-- before its first access it owes little
pub first_paid : {D : Type 0} (d : DriverModel D) (x : Driven D) (v : DriverView) (c : Counts) (n : ℕ) → x.hand ≡ hand.Free
    → d.begun x.end ≡ DriverOp.idle → c.accesses ≡ 0 → IsPaid c (owes_at d x v) n
first_paid d x v c n free idle none few fewer = omega (
  arith,
  none,
  owes_free x.hand (d.begun x.end) (d.left x.end) (owes x.stage (d.begun x.end) v.doing v.shown (d.left x.end)) free,
  ap
      (λ z. owes x.stage z v.doing v.shown (d.left x.end)) idle,
  idle_small x.stage v.shown,
)
