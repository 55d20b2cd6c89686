-- One step of a relay, from the access that it makes and from how that is counted.
use Rattle.std.proofs.Common.{◌≡◌, ◌≢◌, ◌⊎◌, ◌↔◌, ℕ, ◌+◌, ◌*◌, ◌<◌, ◌≤◌, Bool, true, false, IsTrue, List, [], ◌∷◌, refl, sym, ◌∙◌, ap, subst, arith, inl, inr}
use Rattle.vd_words.specs.Model.{PortModel}
use Rattle.vd_ring.specs.declared.act.DeviceAct.{DeviceAct}
use Rattle.vd_ring.specs.declared.act.DeviceAct.TheVariants as act
use Rattle.vd_ring.specs.declared.device.DeviceDone.{DeviceDone}
use Rattle.vd_ring.specs.declared.device.DeviceDone.TheVariants.{Take, Give, Rest}
use Rattle.vd_ring.specs.declared.driver.DriverNow.TheVariants as driver
use Rattle.vd_ring.specs.declared.driver.DriverView.{DriverView}
use Rattle.vd_ring.specs.declared.device.DeviceNow.TheVariants as device
use Rattle.vd_ring.specs.declared.device.DeviceView.{DeviceView}
use Rattle.vd_ring.specs.History.{entry}
use Rattle.vd_layout.specs.Begun.{DriverOp, DeviceOp}
use Rattle.vd_layout.specs.Driver.{DriverModel, IsLawfulDriver}
use Rattle.vd_layout.specs.Device.{DeviceModel, IsLawfulDevice}
use Rattle.vd_layout.specs.declared.moves.Move.{Move}
use Rattle.vd_layout.specs.declared.moves.Move.TheVariants as move
use Rattle.vd_relay.specs.declared.counts.Counts.{Counts}
use Rattle.vd_relay.specs.declared.counts.Turn.{Turn}
use Rattle.vd_relay.specs.declared.counts.Turn.TheVariants.{Worked, Handled, Woke, Slept, Again}
use Rattle.vd_relay.specs.declared.stage.Stage.{Stage}
use Rattle.vd_relay.specs.declared.stage.Stage.TheVariants as stage
use Rattle.vd_relay.specs.declared.state.State.{State}
use Rattle.vd_relay.specs.Acts.{AddsOneAct}
use Rattle.vd_relay.specs.Pace.{last_count, raised, counted, handled, woke, move_of, guest_handled, shadow_handled, KeepsPace}
use Rattle.vd_relay.specs.Stages.{GuestIs, ShadowIs, is_hearing, is_shadow, is_offering}
use Rattle.vd_relay.specs.Tie.{Course}
use Rattle.vd_relay.specs.Carriers.{CarrierModel, CarrierTurn, CarriesOn}
use Rattle.vd_relay.specs.Tellings.{TellsTurn, TellsOf}
use Rattle.vd_relay.proofs.Ops.{guest_idle, shadow_idle}
use Rattle.vd_relay.proofs.GuestTurns.{TurnsTo}
use Rattle.vd_relay.proofs.ShadowTurns.{TurnsTo as ShadowTo}
use Rattle.vd_relay.proofs.Tellings.{told_from}
use Rattle.vd_relay.proofs.Hearings.{guest_hears, shadow_hears}
use Rattle.vd_relay.specs.Relay.{Holds, IsKept, IsFinished, IsGlance, IsLook, HearsNone, ShadowWaits, GuestWaits, GuestDid, GuestTurn, ShadowTurn, OnGuest, OnShadow, owes, unless}

-- ---- from before the operation was begun

module _ {P E D : Type 0} (port : PortModel P) (e : DeviceModel E) (d : DriverModel D) (z : Course) (p q : P) (r u r' : State E D)
    (w : DeviceView) (v : DriverView) (t : Turn) where
  glanced : (from to : Stage) → is_hearing from ≡ true → (is_hearing u.stage ≡ true → u.stage ≡ r.stage)
      → IsGlance from to e d u r' → IsGlance from to e d r r'
  glanced from to hears same g = record {
    was = sym (same (ap is_hearing g.was ∙ hears)) ∙ g.was;
    is = g.is;
    guest_idle = g.guest_idle;
    shadow_idle = g.shadow_idle;
  }

  did_from : (a b c : E) (s s' : List DeviceDone) (answer : DeviceAct)
      → ((k n : ℕ) → e.begun b ≡ DeviceOp.give k n → e.begun a ≡ DeviceOp.give k n) → GuestDid e answer b c s s' → GuestDid e answer a c s s'
  did_from a b c s s' (act.Given k) gives x = (x.0, gives k x.0 x.1, x.2)
  did_from a b c s s' (act.Taken k y) gives x = x
  did_from a b c s s' act.Moved gives x = x
  did_from a b c s s' act.Nothing gives x = x
  did_from a b c s s' act.Rested gives x = x
  did_from a b c s s' act.Armed gives x = x
  did_from a b c s s' act.Awake gives x = x
  did_from a b c s s' act.Asleep gives x = x

  guest_from_to : owes e d u w v ≤ owes e d r w v → (is_hearing u.stage ≡ true → u.stage ≡ r.stage)
      → ((k n : ℕ) → e.begun u.guest ≡ DeviceOp.give k n → e.begun r.guest ≡ DeviceOp.give k n)
      → (h : GuestTurn port e d z p q u r' w v t)
      → TurnsTo port e d z p q r r' w v t (e.side.after w h.op h.access h.got)
  guest_from_to less same gives h = (
    record {
      op = h.op;
      access = h.access;
      got = h.got;
      was_next = h.was_next;
      moved = h.moved;
      stands = h.stands;
      bag = h.bag;
      handled = h.handled;
      woke = h.woke;
      slept = h.slept;
      once = h.once;
      did = did_from r.guest u.guest r'.guest w.done (e.side.after w h.op h.access h.got).done (e.act w h.op h.access h.got) gives h.did;
      rests = h.rests;
      live = h.live;
      grown = h.grown;
      hears = h.hears;
      look = λ i. glanced stage.HearingGuest stage.HearingShadow refl same (h.look i);
      leaves = h.leaves;
      paid = omega (arith, h.paid, less);
    },
    refl,
  )

  pub guest_from : {C : Type 0} (m : CarrierModel C) (x x' : C) → owes e d u w v ≤ owes e d r w v
      → (is_hearing u.stage ≡ true → u.stage ≡ r.stage)
      → ((k n : ℕ) → e.begun u.guest ≡ DeviceOp.give k n → e.begun r.guest ≡ DeviceOp.give k n) → CarriesOn m port e d z x x' p q u r' w v t
      → CarriesOn m port e d z x x' p q r r' w v t
  guest_from m x x' less same gives h =
      let t = guest_from_to less same gives h.0 in
      (t.0, subst (λ (y : DeviceView). CarrierTurn m e d z.way x x' r' w y v) (sym t.1) h.1)

  same_finished : IsKept r u → IsFinished u w v ↔ IsFinished r w v
  same_finished k = ((λ f. (sym k.0 ∙ f.0, omega (arith, f.1, k.1), f.2)), λ f. (k.0 ∙ f.0, omega (arith, f.1, k.1), f.2))

  shadow_from_to : owes e d u w v ≤ owes e d r w v → IsKept r u → (is_hearing u.stage ≡ true → u.stage ≡ r.stage)
      → (h : ShadowTurn port e d z p q u r' w v t) → ShadowTo port e d z p q r r' w v t (d.side.after v h.op h.access h.got)
  shadow_from_to less k same h = (
    record {
      op = h.op;
      access = h.access;
      got = h.got;
      was_next = h.was_next;
      moved = h.moved;
      stands = h.stands;
      handled = h.handled;
      woke = h.woke;
      slept = h.slept;
      again = (
        (λ i. let x = h.again.0 i in (x.0, sym k.0 ∙ x.1, λ f. x.2 ((same_finished k).1 f))),
        λ x. h.again.1 (x.0, k.0 ∙ x.1, λ f. x.2 ((same_finished k).0 f)),
      );
      same = h.same;
      acts = h.acts;
      live = h.live;
      grown = h.grown;
      hears = h.hears;
      look = λ i. glanced stage.HearingShadow stage.HearingGuest refl same (h.look i);
      leaves = h.leaves;
      paid = omega (arith, h.paid, less);
    },
    refl,
  )

  pub shadow_from : {C : Type 0} (m : CarrierModel C) (x x' : C) → owes e d u w v ≤ owes e d r w v → IsKept r u
      → (is_hearing u.stage ≡ true → u.stage ≡ r.stage) → u.guest ≡ r.guest
      → (is_offering r.stage ≡ true → (u.stage ≡ r.stage) × (d.begun u.shadow ≡ d.begun r.shadow))
      → (is_offering r.stage ≡ false → is_offering u.stage ≡ false) → TellsOf m port e d z x x' p q u r' w v t
      → TellsOf m port e d z x x' p q r r' w v t
  shadow_from m x x' less k same guest offers other h =
      let turn = shadow_from_to less k same h.0 in (
        turn.0,
        subst (λ (y : DriverView). TellsTurn m e d z x x' r r' v y t) (sym turn.1)
            (told_from m e d z x x' r u r' v (d.side.after v h.0.op h.0.access h.0.got) t guest offers other h.1),
      )

-- ---- counts

raised_small : (k n : ℕ) → raised k n < last_count → raised k n ≡ n + k
raised_small k n h = omega arith

pub paces : (c c' : Counts) (t : Turn) (owed owed' : ℕ) → c'.accesses ≡ raised (counted t) c.accesses
    → c'.handled ≡ raised (handled t) c.handled
    → c'.heard ≡ raised (woke t) c.heard → owed' + counted t ≤ owed + 64 * (handled t + woke t) → KeepsPace c owed → KeepsPace c' owed'
paces c c' t owed owed' more handles hears paid pace = λ few less quiet.
    let a : c'.accesses ≡ c.accesses + counted t = more ∙ raised_small (counted t) c.accesses (omega (arith, more)) in
    let b : c'.handled ≡ c.handled + handled t = handles ∙ raised_small (handled t) c.handled (omega (arith, handles)) in
    let h : c'.heard ≡ c.heard + woke t = hears ∙ raised_small (woke t) c.heard (omega (arith, hears)) in
    omega (arith, paid, a, b, h, pace (omega arith) (omega arith) (omega arith))

pub pace_less : (c : Counts) (owed : ℕ) → KeepsPace c owed → KeepsPace c 0
pace_less c owed pace = λ few less quiet. omega (arith, pace few less quiet)

-- ---- what the step was

abbrev is_slept : Turn → Bool
is_slept Slept = true
is_slept Worked = false
is_slept Handled = false
is_slept Woke = false
is_slept Again = false

abbrev pub is_left_out : Turn → Bool
is_left_out Slept = true
is_left_out Again = true
is_left_out Worked = false
is_left_out Handled = false
is_left_out Woke = false

slept_exact : (t : Turn) → IsTrue (is_slept t) ↔ (t ≡ Slept)
slept_exact Slept = ((λ x. refl), λ x. refl)
slept_exact Again = ((λ x. absurd (cc x)), λ x. absurd (cc x))
slept_exact Worked = ((λ x. absurd (cc x)), λ x. absurd (cc x))
slept_exact Handled = ((λ x. absurd (cc x)), λ x. absurd (cc x))
slept_exact Woke = ((λ x. absurd (cc x)), λ x. absurd (cc x))

slept_counts : (t : Turn) → t ≢ Again → counted t ≡ unless (is_slept t)
slept_counts Slept n = refl
slept_counts Again n = absurd (n refl)
slept_counts Worked n = refl
slept_counts Handled n = refl
slept_counts Woke n = refl

pub left_counts : (t : Turn) → counted t ≡ unless (is_left_out t)
left_counts Slept = refl
left_counts Again = refl
left_counts Worked = refl
left_counts Handled = refl
left_counts Woke = refl

pub left_exact : (t : Turn) → IsTrue (is_left_out t) ↔ ((t ≡ Slept) ⊎ (t ≡ Again))
left_exact Slept = ((λ x. inl refl), λ x. refl)
left_exact Again = ((λ x. inr refl), λ x. refl)
left_exact Worked = ((λ x. absurd (cc x)), λ x. elim x [ inl y ↦ absurd (cc y) | inr y ↦ absurd (cc y) ])
left_exact Handled = ((λ x. absurd (cc x)), λ x. elim x [ inl y ↦ absurd (cc y) | inr y ↦ absurd (cc y) ])
left_exact Woke = ((λ x. absurd (cc x)), λ x. elim x [ inl y ↦ absurd (cc y) | inr y ↦ absurd (cc y) ])

pub looked_is : (m : Move) (t : Turn) (b : Bool) → m ≡ move_of t b → (m ≡ move.Looked) ↔ (t ≡ Slept)
looked_is m Slept b is = ((λ x. refl), λ x. is)
looked_is m Again true is = ((λ x. absurd (cc (is, x))), λ x. absurd (cc x))
looked_is m Again false is = ((λ x. absurd (cc (is, x))), λ x. absurd (cc x))
looked_is m Worked true is = ((λ x. absurd (cc (is, x))), λ x. absurd (cc x))
looked_is m Worked false is = ((λ x. absurd (cc (is, x))), λ x. absurd (cc x))
looked_is m Handled true is = ((λ x. absurd (cc (is, x))), λ x. absurd (cc x))
looked_is m Handled false is = ((λ x. absurd (cc (is, x))), λ x. absurd (cc x))
looked_is m Woke true is = ((λ x. absurd (cc (is, x))), λ x. absurd (cc x))
looked_is m Woke false is = ((λ x. absurd (cc (is, x))), λ x. absurd (cc x))

pub finished_is : (m : Move) (t : Turn) (b : Bool) → m ≡ move_of t b → (t ≡ Slept → b ≡ false) → (m ≡ move.Finished) ↔ (b ≡ true)
finished_is m Slept true is live = absurd (cc (live refl))
finished_is m Slept false is live = ((λ x. absurd (cc (is, x))), λ x. absurd (cc x))
finished_is m Again true is live = ((λ x. refl), λ x. is)
finished_is m Again false is live = ((λ x. absurd (cc (is, x))), λ x. absurd (cc x))
finished_is m Worked true is live = ((λ x. refl), λ x. is)
finished_is m Worked false is live = ((λ x. absurd (cc (is, x))), λ x. absurd (cc x))
finished_is m Handled true is live = ((λ x. refl), λ x. is)
finished_is m Handled false is live = ((λ x. absurd (cc (is, x))), λ x. absurd (cc x))
finished_is m Woke true is live = ((λ x. refl), λ x. is)
finished_is m Woke false is live = ((λ x. absurd (cc (is, x))), λ x. absurd (cc x))

pub finished_at : (m : Move) (t : Turn) (b c : Bool) → m ≡ move_of t b → b ≡ c → (t ≡ Slept → c ≡ false) → (m ≡ move.Finished) ↔ (c ≡ true)
finished_at m t b c is same live = subst (λ x. (m ≡ move.Finished) ↔ (x ≡ true)) same (finished_is m t b is (λ s. same ∙ live s))

pub both : {X Y Z : Type 0} → X ↔ Y → Y ↔ Z → X ↔ Z
both f g = ((λ x. g.0 (f.0 x)), λ y. f.1 (g.1 y))

back : {X Y : Type 0} → X ↔ Y → Y ↔ X
back f = (f.1, f.0)

-- ---- looks

module _ {E D : Type 0} (e : DeviceModel E) (d : DriverModel D) (z : Course) (r r' : State E D) (c : Counts) (w : DeviceView)
    (v : DriverView) (h : Holds e d z r c w v) where
  winds_up : (b : Bool) → r.winding ≡ b → (r.winding ≡ true → ⊥) → r.winding ≡ false
  winds_up true is never = absurd (never is)
  winds_up false is never = is

  pub guest_look : w.doing ≡ device.Idle → IsGlance stage.HearingGuest stage.HearingShadow e d r r'
      → IsLook stage.HearingGuest stage.HearingShadow e d r r'
  guest_look idle g =
      let shadow : d.begun r.shadow ≡ DriverOp.idle = shadow_idle r.stage (d.begun r.shadow) (ap is_shadow g.was) h.stands.shadow in
      let guest = guest_hears (e.begun r.guest) (subst (λ (x : Stage). GuestIs x (e.begun r.guest)) g.was h.stands.guest) in
      record {
        was = g.was;
        is = g.is;
        guest_idle = g.guest_idle;
        shadow_idle = g.shadow_idle;
        live = winds_up r.winding refl (λ on. elim guest [
          | inl x ↦ h.leaves on (ap is_hearing g.was) x shadow
          | inr x ↦ h.hears_guest x idle
        ]);
      }

  pub shadow_look : v.doing ≡ driver.Idle → IsGlance stage.HearingShadow stage.HearingGuest e d r r'
      → IsLook stage.HearingShadow stage.HearingGuest e d r r'
  shadow_look idle g =
      let guest : e.begun r.guest ≡ DeviceOp.idle = guest_idle r.stage (e.begun r.guest) (ap is_shadow g.was) h.stands.guest in
      let shadow = shadow_hears (d.begun r.shadow) (subst (λ (x : Stage). ShadowIs x (d.begun r.shadow)) g.was h.stands.shadow) in
      record {
        was = g.was;
        is = g.is;
        guest_idle = g.guest_idle;
        shadow_idle = g.shadow_idle;
        live = winds_up r.winding refl (λ on. elim shadow [
          | inl x ↦ h.leaves on (ap is_hearing g.was) guest x
          | inr x ↦ h.hears_shadow x idle
        ]);
      }

  -- a wind-up goes on so after a look, which it doesn't make, and after anything else
  pub leaves_on : (t : Turn) → (t ≡ Slept → r.winding ≡ false) → r'.winding ≡ r.winding
      → (t ≢ Slept → HearsNone e d r') → HearsNone e d r'
  leaves_on Slept look same leaves = λ on. absurd (cc (look refl, same, on))
  leaves_on Worked look same leaves = leaves (λ i. cc i)
  leaves_on Handled look same leaves = leaves (λ i. cc i)
  leaves_on Woke look same leaves = leaves (λ i. cc i)
  leaves_on Again look same leaves = leaves (λ i. cc i)

-- what an answer says was done on the guest's ring is at most one act
acts_of : {E : Type 0} (e : DeviceModel E) (answer : DeviceAct) (a a' : E) (s s' : List DeviceDone) → GuestDid e answer a a' s s'
    → AddsOneAct s s'
acts_of e (act.Taken k c) a a' s s' did = inr (Take c did.0, did.1)
acts_of e (act.Given k) a a' s s' did = inr (Give (entry k did.0 ∷ []), did.2)
acts_of e act.Rested a a' s s' did = inr (Rest, did.1)
acts_of e act.Moved a a' s s' did = inl did
acts_of e act.Nothing a a' s s' did = inl did
acts_of e act.Armed a a' s s' did = inl did
acts_of e act.Awake a a' s s' did = inl did
acts_of e act.Asleep a a' s s' did = inl did

-- how the counts went up
pub record Noted (c c' : Counts) (t : Turn) : Type 0 where
  pub accesses : c'.accesses ≡ raised (counted t) c.accesses
  pub handled : c'.handled ≡ raised (Rattle.vd_relay.specs.Pace.handled t) c.handled
  pub heard : c'.heard ≡ raised (woke t) c.heard

module _ {P E D : Type 0} (port : PortModel P) (e : DeviceModel E) (d : DriverModel D) (z : Course) (p q : P) (r r' : State E D)
    (c c' : Counts)
    (w : DeviceView) (v : DriverView) (t : Turn) (said : Move) (b : Bool) where
  guest_looks : IsLawfulDevice e → Holds e d z r c w v → GuestTurn port e d z p q r r' w v t → t ≡ Slept
      → IsLook stage.HearingGuest stage.HearingShadow e d r r'
  guest_looks law holds h i = guest_look e d z r r' c w v holds
      ((law.looks.asleep w h.op h.access h.got h.was_next).0 (h.slept.0 i)).1 (h.look i)

  pub on_guest_to : IsLawfulDevice e → said ≡ move_of t b → Noted c c' t → IsKept r r' → ShadowWaits d r r' → Holds e d z r c w v
      → (h : GuestTurn port e d z p q r r' w v t) → (o : OnGuest port e d z p q r r' c c' w v said)
      × (e.side.after w o.op o.access o.got ≡ e.side.after w h.op h.access h.got)
  on_guest_to law is n kept waits holds h = (
    record {
      op = h.op;
      access = h.access;
      got = h.got;
      was_next = h.was_next;
      moved = h.moved;
      holds = record {
        stands = h.stands;
        pace = paces c c' t (owes e d r w v) (owes e d r' (e.side.after w h.op h.access h.got) v) n.accesses n.handled n.heard h.paid
            holds.pace;
        hears_guest = h.hears;
        hears_shadow = λ i idle. waits.1 i;
        leaves = leaves_on e d z r r' c w v holds t (λ i. (guest_looks law holds h i).live) kept.0 h.leaves;
      };
      acts = acts_of e (e.act w h.op h.access h.got) r.guest r'.guest w.done (e.side.after w h.op h.access h.got).done h.did;
      bag = h.bag;
      grown = h.grown;
      looked = both (looked_is said t b is) h.slept;
      look = λ i. guest_looks law holds h ((looked_is said t b is).0 i);
      slept = is_slept t;
      asleep = both (slept_exact t) (back (looked_is said t b is));
      counts = record {
        accesses = n.accesses ∙ ap (λ k. raised k c.accesses) (slept_counts t h.once);
        handled = n.handled ∙ ap (λ k. raised k c.handled) h.handled;
        heard = n.heard ∙ ap (λ k. raised k c.heard) h.woke;
      };
    },
    refl,
  )

  pub on_guest : IsLawfulDevice e → said ≡ move_of t b → Noted c c' t → IsKept r r' → ShadowWaits d r r' → Holds e d z r c w v
      → GuestTurn port e d z p q r r' w v t → OnGuest port e d z p q r r' c c' w v said
  on_guest law is n kept waits holds h = (on_guest_to law is n kept waits holds h).0

  shadow_looks : IsLawfulDriver d → Holds e d z r c w v → ShadowTurn port e d z p q r r' w v t → t ≡ Slept
      → IsLook stage.HearingShadow stage.HearingGuest e d r r'
  shadow_looks law holds h i = shadow_look e d z r r' c w v holds
      ((law.looks.asleep v h.op h.access h.got h.was_next).0 (h.slept.0 i)).1 (h.look i)

  pub on_shadow_to : IsLawfulDriver d → said ≡ move_of t b → Noted c c' t → IsKept r r' → GuestWaits e r r' → Holds e d z r c w v
      → (h : ShadowTurn port e d z p q r r' w v t) → (o : OnShadow port e d z p q r r' c c' w v said)
      × (d.side.after v o.op o.access o.got ≡ d.side.after v h.op h.access h.got)
  on_shadow_to law is n kept waits holds h = (
    record {
      op = h.op;
      access = h.access;
      got = h.got;
      was_next = h.was_next;
      moved = h.moved;
      holds = record {
        stands = h.stands;
        pace = paces c c' t (owes e d r w v) (owes e d r' w (d.side.after v h.op h.access h.got)) n.accesses n.handled n.heard h.paid
            holds.pace;
        hears_guest = λ i idle. waits.1 i;
        hears_shadow = h.hears;
        leaves = leaves_on e d z r r' c w v holds t (λ i. (shadow_looks law holds h i).live) kept.0 h.leaves;
      };
      acts = h.acts;
      grown = h.grown;
      looked = both (looked_is said t b is) h.slept;
      look = λ i. shadow_looks law holds h ((looked_is said t b is).0 i);
      free = λ i. waits.0;
      left_out = is_left_out t;
      uncounted = (
        (λ x. elim ((left_exact t).0 x) [
          | inl y ↦ inl ((looked_is said t b is).1 y)
          | inr y ↦ inr (h.again.0 y)
        ]),
        λ x. (left_exact t).1 (elim x [
          | inl y ↦ inl ((looked_is said t b is).0 y)
          | inr y ↦ inr (h.again.1 y)
        ]),
      );
      counts = record {
        accesses = n.accesses ∙ ap (λ k. raised k c.accesses) (left_counts t);
        handled = n.handled ∙ ap (λ k. raised k c.handled) h.handled;
        heard = n.heard ∙ ap (λ k. raised k c.heard) h.woke;
      };
    },
    refl,
  )

  pub on_shadow : IsLawfulDriver d → said ≡ move_of t b → Noted c c' t → IsKept r r' → GuestWaits e r r' → Holds e d z r c w v
      → ShadowTurn port e d z p q r r' w v t → OnShadow port e d z p q r r' c c' w v said
  on_shadow law is n kept waits holds h = (on_shadow_to law is n kept waits holds h).0
