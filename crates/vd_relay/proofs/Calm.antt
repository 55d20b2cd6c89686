-- A relay between two operations: at which stages it may stand, and what it owes there.
use Rattle.std.proofs.Common.{◌≡◌, ◌≢◌, ℕ, ◌+◌, ◌≤◌, Bool, true, false, None, List, [], length, if◌then◌else◌, refl, sym, ◌∙◌, ap, subst, arith, IsTrue}
use Rattle.vd_model.specs.declared.chain.Piece.{Piece}
use Rattle.vd_ring.specs.declared.frame.Frame.{Frame}
use Rattle.vd_ring.specs.declared.frame.Used.{Used}
use Rattle.vd_ring.specs.declared.driver.DriverDone.{DriverDone}
use Rattle.vd_ring.specs.declared.driver.DriverView.{DriverView}
use Rattle.vd_ring.specs.declared.device.DeviceDone.{DeviceDone}
use Rattle.vd_ring.specs.declared.device.DeviceView.{DeviceView}
use Rattle.vd_layout.specs.Begun.{DriverOp, DeviceOp}
use Rattle.vd_layout.specs.Driver.{DriverModel, IsLawfulDriver}
use Rattle.vd_layout.specs.Device.{DeviceModel, IsLawfulDevice}
use Rattle.vd_layout.specs.laws.Unarmed.{device_unarmed, driver_unarmed}
use Rattle.vd_relay.specs.declared.stage.Stage.{Stage}
use Rattle.vd_relay.specs.declared.stage.Stage.TheVariants as stage
use Rattle.vd_relay.specs.declared.state.State.{State}
use Rattle.vd_relay.specs.Ways.{Pairs}
use Rattle.vd_relay.specs.Pace.{idle_owes, take_owes, guest_owes, shadow_owes}
use Rattle.vd_relay.specs.Stages.{is_rested, is_shadow, is_open, is_hearing, roused, GuestIs, ShadowIs, TakesFrom, OffersHand, InHand, OfferIs, BackIs, EndsIs, BeforeRest, GuestArmed, ShadowArmed, GuestShown, ShadowShown}
use Rattle.vd_relay.specs.Tie.{Course, IsTied, guests}
use Rattle.vd_relay.specs.Relay.{Stands, Stays, owes, IsRoused, IsFinished}

-- nothing is in progress at such a stage
abbrev pub is_calm : Stage → Bool
is_calm (stage.Offering number head) = false
is_calm stage.Giving = false
is_calm stage.Rested = false
is_calm _ = true

abbrev pub FewInHand : Bool → List (List Piece) → Type 0
FewInHand false hand = hand ≡ []
FewInHand true hand = length hand ≤ 1

abbrev pub at_stage : {E D : Type 0} → State E D → Stage → State E D
at_stage r st = record { guest = r.guest; shadow = r.shadow; table = r.table; stage = st; winding = r.winding; target = r.target }

guest_calm : (st : Stage) → is_calm st ≡ true → GuestIs st DeviceOp.idle
guest_calm stage.Taking c = tt
guest_calm (stage.Offering n h) c = tt
guest_calm (stage.Collecting n) c = tt
guest_calm stage.Giving c = absurd (cc)
guest_calm stage.ArmingGuest c = tt
guest_calm stage.ArmingShadow c = tt
guest_calm stage.HearingGuest c = tt
guest_calm stage.HearingShadow c = tt
guest_calm stage.DisarmingGuest c = tt
guest_calm stage.DisarmingShadow c = tt
guest_calm stage.Resting c = tt
guest_calm stage.Rested c = tt

shadow_calm : (st : Stage) → is_calm st ≡ true → ShadowIs st DriverOp.idle
shadow_calm stage.Taking c = tt
shadow_calm (stage.Offering n h) c = absurd (cc)
shadow_calm (stage.Collecting n) c = tt
shadow_calm stage.Giving c = tt
shadow_calm stage.ArmingGuest c = tt
shadow_calm stage.ArmingShadow c = tt
shadow_calm stage.HearingGuest c = tt
shadow_calm stage.HearingShadow c = tt
shadow_calm stage.DisarmingGuest c = tt
shadow_calm stage.DisarmingShadow c = tt
shadow_calm stage.Resting c = tt
shadow_calm stage.Rested c = tt

before_calm : (st : Stage) (s : List DeviceDone) → is_calm st ≡ true → BeforeRest st s s
before_calm stage.Taking s c = refl
before_calm (stage.Offering n h) s c = refl
before_calm (stage.Collecting n) s c = refl
before_calm stage.Giving s c = refl
before_calm stage.ArmingGuest s c = refl
before_calm stage.ArmingShadow s c = refl
before_calm stage.HearingGuest s c = refl
before_calm stage.HearingShadow s c = refl
before_calm stage.DisarmingGuest s c = refl
before_calm stage.DisarmingShadow s c = refl
before_calm stage.Resting s c = refl
before_calm stage.Rested s c = absurd (cc)

live_calm : (st : Stage) → is_calm st ≡ true → is_rested st ≡ false
live_calm stage.Rested c = absurd (cc)
live_calm stage.Taking c = refl
live_calm (stage.Offering n h) c = refl
live_calm (stage.Collecting n) c = refl
live_calm stage.Giving c = refl
live_calm stage.ArmingGuest c = refl
live_calm stage.ArmingShadow c = refl
live_calm stage.HearingGuest c = refl
live_calm stage.HearingShadow c = refl
live_calm stage.DisarmingGuest c = refl
live_calm stage.DisarmingShadow c = refl
live_calm stage.Resting c = refl

pub done_calm : (st : Stage) (s done : List DeviceDone) → is_calm st ≡ true → BeforeRest st s done → s ≡ done
done_calm stage.Rested s done c b = absurd (cc)
done_calm stage.Taking s done c b = sym b
done_calm (stage.Offering n h) s done c b = sym b
done_calm (stage.Collecting n) s done c b = sym b
done_calm stage.Giving s done c b = sym b
done_calm stage.ArmingGuest s done c b = sym b
done_calm stage.ArmingShadow s done c b = sym b
done_calm stage.HearingGuest s done c b = sym b
done_calm stage.HearingShadow s done c b = sym b
done_calm stage.DisarmingGuest s done c b = sym b
done_calm stage.DisarmingShadow s done c b = sym b
done_calm stage.Resting s done c b = sym b

pub not_offering : (st : Stage) → is_calm st ≡ true → (n h : ℕ) → st ≢ stage.Offering n h
not_offering st calm n h is = cc (ap is_calm is, calm)

pub open_calm : (st : Stage) → is_open st ≡ true → is_calm st ≡ true
open_calm stage.Taking o = refl
open_calm (stage.Collecting n) o = refl
open_calm stage.ArmingGuest o = refl
open_calm stage.ArmingShadow o = refl
open_calm (stage.Offering n h) o = absurd (cc)
open_calm stage.Giving o = absurd (cc)
open_calm stage.HearingGuest o = absurd (cc)
open_calm stage.HearingShadow o = absurd (cc)
open_calm stage.DisarmingGuest o = absurd (cc)
open_calm stage.DisarmingShadow o = absurd (cc)
open_calm stage.Resting o = absurd (cc)
open_calm stage.Rested o = absurd (cc)

-- what is in hand, at a stage that offers nothing
pub hand_at : (st : Stage) (winding : Bool) (hand : List (List Piece)) → ((n h : ℕ) → st ≢ stage.Offering n h) → InHand st winding hand
    → FewInHand winding hand
hand_at (stage.Offering n h) winding hand c i = absurd (c n h refl)
hand_at stage.Taking true hand c i = i
hand_at stage.Taking false hand c i = i
hand_at (stage.Collecting n) true hand c i = i
hand_at (stage.Collecting n) false hand c i = i
hand_at stage.Giving true hand c i = i
hand_at stage.Giving false hand c i = i
hand_at stage.ArmingGuest true hand c i = i
hand_at stage.ArmingGuest false hand c i = i
hand_at stage.ArmingShadow true hand c i = i
hand_at stage.ArmingShadow false hand c i = i
hand_at stage.HearingGuest true hand c i = i
hand_at stage.HearingGuest false hand c i = i
hand_at stage.HearingShadow true hand c i = i
hand_at stage.HearingShadow false hand c i = i
hand_at stage.DisarmingGuest true hand c i = i
hand_at stage.DisarmingGuest false hand c i = i
hand_at stage.DisarmingShadow true hand c i = i
hand_at stage.DisarmingShadow false hand c i = i
hand_at stage.Resting true hand c i = i
hand_at stage.Resting false hand c i = i
hand_at stage.Rested true hand c i = i
hand_at stage.Rested false hand c i = i

pub hand_to : (st : Stage) (winding : Bool) (hand : List (List Piece)) → FewInHand winding hand → InHand st winding hand
hand_to (stage.Offering n h) winding hand i = tt
hand_to stage.Taking true hand i = i
hand_to stage.Taking false hand i = i
hand_to (stage.Collecting n) true hand i = i
hand_to (stage.Collecting n) false hand i = i
hand_to stage.Giving true hand i = i
hand_to stage.Giving false hand i = i
hand_to stage.ArmingGuest true hand i = i
hand_to stage.ArmingGuest false hand i = i
hand_to stage.ArmingShadow true hand i = i
hand_to stage.ArmingShadow false hand i = i
hand_to stage.HearingGuest true hand i = i
hand_to stage.HearingGuest false hand i = i
hand_to stage.HearingShadow true hand i = i
hand_to stage.HearingShadow false hand i = i
hand_to stage.DisarmingGuest true hand i = i
hand_to stage.DisarmingGuest false hand i = i
hand_to stage.DisarmingShadow true hand i = i
hand_to stage.DisarmingShadow false hand i = i
hand_to stage.Resting true hand i = i
hand_to stage.Resting false hand i = i
hand_to stage.Rested true hand i = i
hand_to stage.Rested false hand i = i

pub offers_none : (st : Stage) (b : ℕ → ℕ) (g : Frame) (o : List DriverDone) → is_calm st ≡ true → OfferIs st b g o
offers_none (stage.Offering n h) b g o c = absurd (cc)
offers_none stage.Taking b g o c = tt
offers_none (stage.Collecting n) b g o c = tt
offers_none stage.Giving b g o c = tt
offers_none stage.ArmingGuest b g o c = tt
offers_none stage.ArmingShadow b g o c = tt
offers_none stage.HearingGuest b g o c = tt
offers_none stage.HearingShadow b g o c = tt
offers_none stage.DisarmingGuest b g o c = tt
offers_none stage.DisarmingShadow b g o c = tt
offers_none stage.Resting b g o c = tt
offers_none stage.Rested b g o c = tt

-- ---- what it holds, whatever comes next

pub record Free {E D : Type 0} (e : DeviceModel E) (d : DriverModel D) (z : Course) (r : State E D) (w : DeviceView) (v : DriverView)
    : Type 0 where
  pub serves : e.stands r.guest w
  pub drives : d.stands r.shadow v
  pub paired : Pairs z.way w.frame v.frame
  pub awake : e.resting r.guest ≡ false
  pub hand : List (List Piece)
  pub tied : IsTied z r.table hand [] w.done v.frame v.done
  pub few : FewInHand r.winding hand
  pub guest_idle : e.begun r.guest ≡ DeviceOp.idle
  pub shadow_idle : d.begun r.shadow ≡ DriverOp.idle

module _ {E D : Type 0} (e : DeviceModel E) (d : DriverModel D) (law : IsLawfulDevice e) (ldr : IsLawfulDriver d) (z : Course)
    (r : State E D) (w : DeviceView) (v : DriverView) where
  -- it may stand at the stage
  pub settled : (st : Stage) → is_calm st ≡ true → Free e d z r w v → EndsIs st r.winding r.target w.done v.done
      → GuestArmed st DeviceOp.idle w.doing w.armed → ShadowArmed st DriverOp.idle v.doing v.armed
      → Stands e d z (at_stage r st) w v
  settled st calm f ends ga sa = record {
    serves = f.serves;
    drives = f.drives;
    paired = f.paired;
    rests = f.awake ∙ sym (live_calm st calm);
    acts = w.done;
    before = before_calm st w.done calm;
    hand = f.hand;
    back = [];
    tied = f.tied;
    guest = subst (λ o. GuestIs st o) (sym f.guest_idle) (guest_calm st calm);
    shadow = subst (λ o. ShadowIs st o) (sym f.shadow_idle) (shadow_calm st calm);
    takes = subst (λ o. TakesFrom o f.hand) (sym f.guest_idle) tt;
    offers = subst (λ o. OffersHand o f.hand) (sym f.shadow_idle) tt;
    in_hand = hand_to st r.winding f.hand f.few;
    offer = offers_none st (guests z) v.frame v.done calm;
    to_give = subst (λ o. BackIs o []) (sym f.guest_idle) refl;
    ends = ends;
    guest_armed = subst (λ o. GuestArmed st o w.doing w.armed) (sym f.guest_idle) ga;
    shadow_armed = subst (λ o. ShadowArmed st o v.doing v.armed) (sym f.shadow_idle) sa;
    guest_shown = subst (λ o. GuestShown o w.doing w.shown (e.left r.guest)) (sym f.guest_idle) tt;
    shadow_shown = subst (λ o. ShadowShown o v.doing v.shown (d.left r.shadow)) (sym f.shadow_idle) tt;
  }

  -- between two operations
  pub freed : Stands e d z r w v → is_calm r.stage ≡ true → e.begun r.guest ≡ DeviceOp.idle → d.begun r.shadow ≡ DriverOp.idle
      → Free e d z r w v
  freed h calm gi si = record {
    serves = h.serves;
    drives = h.drives;
    paired = h.paired;
    awake = h.rests ∙ live_calm r.stage calm;
    hand = h.hand;
    tied = subst (λ (s : List DeviceDone). IsTied z r.table h.hand [] s v.frame v.done) (done_calm r.stage h.acts w.done calm h.before)
        (subst (λ (us : List Used). IsTied z r.table h.hand us h.acts v.frame v.done) (subst (λ o. BackIs o h.back) gi h.to_give) h.tied);
    few = hand_at r.stage r.winding h.hand (not_offering r.stage calm) h.in_hand;
    guest_idle = gi;
    shadow_idle = si;
  }

  either : {X : Type 0} (b : Bool) (x y u : X) → x ≡ u → y ≡ u → (if b then x else y) ≡ u
  either true x y u p q = p
  either false x y u p q = q

  pub owes_idle : (st : Stage) → Free e d z r w v → owes e d (at_stage r st) w v ≡ idle_owes r.winding st w.shown v.shown
  owes_idle st f = either (is_shadow st) _ _ (idle_owes r.winding st w.shown v.shown)
      (ap (λ o. shadow_owes r.winding st o v.doing w.shown v.shown (d.left r.shadow)) f.shadow_idle)
      (ap (λ o. guest_owes r.winding st o w.doing w.shown v.shown (e.left r.guest)) f.guest_idle)

  -- ---- roused

  to_rouse : (ga sa winding finished : Bool) → e.armed r.guest ≡ ga → d.armed r.shadow ≡ sa → r.winding ≡ winding
      → (IsTrue finished → IsFinished r w v) → Free e d z r w v → Stands e d z (at_stage r (roused ga sa winding finished)) w v
  to_rouse true sa winding finished g s o fin f = settled stage.DisarmingGuest refl f tt (law.armed r.guest w f.serves g) tt
  to_rouse false true winding finished g s o fin f = settled stage.DisarmingShadow refl f tt (law.not_armed r.guest w f.serves g)
      (ldr.armed r.shadow v f.drives s)
  to_rouse false false false finished g s o fin f = settled stage.Taking refl f tt (law.not_armed r.guest w f.serves g)
      (ldr.unarmed r.shadow v f.drives s)
  to_rouse false false true false g s o fin f = settled (stage.Collecting false) refl f tt (law.not_armed r.guest w f.serves g)
      (ldr.unarmed r.shadow v f.drives s)
  to_rouse false false true true g s o fin f = settled stage.Resting refl f (fin refl) (law.not_armed r.guest w f.serves g)
      (ldr.unarmed r.shadow v f.drives s)

  pub stands_roused : (st : Stage) → Free e d z r w v → IsRoused e d r w v st → Stands e d z (at_stage r st) w v
  stands_roused st f a = subst (λ (x : Stage). Stands e d z (at_stage r x) w v) (sym a.is)
      (to_rouse (e.armed r.guest) (d.armed r.shadow) r.winding a.finished refl refl refl a.exact.0 f)

-- ---- what it owes then

unarmed_small : (ga sa finished g s : Bool) → ga ≡ false → sa ≡ false → idle_owes true (roused ga sa true finished) g s ≤ 4
unarmed_small true sa finished g s a b = absurd (cc)
unarmed_small false true finished g s a b = absurd (cc)
unarmed_small false false false g s a b = omega arith
unarmed_small false false true g s a b = omega arith

pub winding_small : (ga sa finished g s : Bool) → idle_owes true (roused ga sa true finished) g s ≤ 6
winding_small true sa finished g s = omega arith
winding_small false true finished g s = omega arith
winding_small false false false g s = omega arith
winding_small false false true g s = omega arith

-- in a wind-up it owes no more than at the stage in whose place it goes on
module _ {E D : Type 0} (e : DeviceModel E) (d : DriverModel D) (law : IsLawfulDevice e) (ldr : IsLawfulDriver d) (z : Course)
    (r : State E D) (w : DeviceView) (v : DriverView) (f : Free e d z r w v) (finished : Bool) where
  abbrev pub next_owes : (g s : Bool) → ℕ
  next_owes g s = idle_owes true (roused (e.armed r.guest) (d.armed r.shadow) true finished) g s

  nothing_armed : (g s : Bool) → w.armed ≡ None → v.armed ≡ None → next_owes g s ≤ 4
  nothing_armed g s a b = unarmed_small (e.armed r.guest) (d.armed r.shadow) finished g s (device_unarmed e law r.guest w f.serves a)
      (driver_unarmed d ldr r.shadow v f.drives b)

  pub turned_owes : (st : Stage) (g s : Bool) → is_open st ≡ true → GuestArmed st DeviceOp.idle w.doing w.armed
      → ShadowArmed st DriverOp.idle v.doing v.armed → next_owes g s ≤ idle_owes true st g s
  turned_owes stage.Taking g s o ga sa = nothing_armed g s ga sa
  turned_owes (stage.Collecting n) g s o ga sa = nothing_armed g s ga sa
  turned_owes stage.ArmingGuest g s o ga sa = nothing_armed g s ga sa
  turned_owes stage.ArmingShadow g s o ga sa = winding_small (e.armed r.guest) (d.armed r.shadow) finished g s
  turned_owes (stage.Offering n h) g s o ga sa = absurd (cc)
  turned_owes stage.Giving g s o ga sa = absurd (cc)
  turned_owes stage.HearingGuest g s o ga sa = absurd (cc)
  turned_owes stage.HearingShadow g s o ga sa = absurd (cc)
  turned_owes stage.DisarmingGuest g s o ga sa = absurd (cc)
  turned_owes stage.DisarmingShadow g s o ga sa = absurd (cc)
  turned_owes stage.Resting g s o ga sa = absurd (cc)
  turned_owes stage.Rested g s o ga sa = absurd (cc)

abbrev pub roused_most : Bool → Bool → Bool → ℕ
roused_most winding g s = if winding then 6 else 2 + take_owes false g s

pub roused_small : (ga sa winding finished g s : Bool) → idle_owes winding (roused ga sa winding finished) g s ≤ roused_most winding g s
roused_small true sa true finished g s = omega arith
roused_small true sa false finished g s = omega arith
roused_small false true true finished g s = omega arith
roused_small false true false finished g s = omega arith
roused_small false false false finished g s = omega arith
roused_small false false true false g s = omega arith
roused_small false false true true g s = omega arith

-- no more than a bell pays for
pub hear_most : (winding g s : Bool) → roused_most winding g s ≤ 49
hear_most true g s = omega arith
hear_most false true s = omega arith
hear_most false false true = omega arith
hear_most false false false = omega arith

pub roused_live : (ga sa winding finished : Bool) → is_rested (roused ga sa winding finished) ≡ false
roused_live true sa winding finished = refl
roused_live false true winding finished = refl
roused_live false false false finished = refl
roused_live false false true false = refl
roused_live false false true true = refl

-- it hears no bell
pub roused_deaf : (ga sa winding finished : Bool) → is_hearing (roused ga sa winding finished) ≡ true → ⊥
roused_deaf true sa winding finished is = cc is
roused_deaf false true winding finished is = cc is
roused_deaf false false false finished is = cc is
roused_deaf false false true false is = cc is
roused_deaf false false true true is = cc is

pub roused_takes : (ga sa winding finished : Bool) → winding ≡ true → roused ga sa winding finished ≡ stage.Taking → ⊥
roused_takes true sa winding finished w is = cc
roused_takes false true winding finished w is = cc
roused_takes false false false finished w is = cc
roused_takes false false true false w is = cc
roused_takes false false true true w is = cc

-- ---- a wind-up between two operations

module _ {E D : Type 0} (e : DeviceModel E) (d : DriverModel D) (law : IsLawfulDevice e) (ldr : IsLawfulDriver d) (z : Course)
    (r : State E D) (w : DeviceView) (v : DriverView) (st : Stage) where
  pub turns : Stands e d z r w v → r.winding ≡ true → is_open r.stage ≡ true → e.begun r.guest ≡ DeviceOp.idle
      → d.begun r.shadow ≡ DriverOp.idle → IsRoused e d r w v st → Stays e d z r (at_stage r st) w v
  turns h on opens gi si a =
      let f = freed e d law ldr z r w v h (open_calm r.stage opens) gi si in
      let ga = subst (λ o. GuestArmed r.stage o w.doing w.armed) gi h.guest_armed in
      let sa = subst (λ o. ShadowArmed r.stage o v.doing v.armed) si h.shadow_armed in
      record {
        stands = stands_roused e d law ldr z r w v st f a;
        owes = omega (
          arith,
          owes_idle e d law ldr z r w v st f,
          owes_idle e d law ldr z r w v r.stage f,
          ap (λ (x : Stage). idle_owes r.winding x w.shown v.shown) a.is,
          ap (λ b. idle_owes b (roused (e.armed r.guest) (d.armed r.shadow) b a.finished) w.shown v.shown) on,
          ap (λ b. idle_owes b r.stage w.shown v.shown) on,
          turned_owes e d law ldr z r w v f a.finished r.stage w.shown v.shown opens ga sa,
        );
      }

-- it doesn't arm
pub roused_arms : (ga sa winding finished : Bool) → (roused ga sa winding finished ≡ stage.ArmingGuest → ⊥)
    × (roused ga sa winding finished ≡ stage.ArmingShadow → ⊥)
roused_arms true sa winding finished = (λ is. cc is, λ is. cc is)
roused_arms false true winding finished = (λ is. cc is, λ is. cc is)
roused_arms false false false finished = (λ is. cc is, λ is. cc is)
roused_arms false false true false = (λ is. cc is, λ is. cc is)
roused_arms false false true true = (λ is. cc is, λ is. cc is)
