-- The end of a replay: the relay goes on over the same shadow end, or it leaves the guest's end as it found it.
use Rattle.std.proofs.Common.{◌≡◌, ◌≢◌, ◌⊎◌, ℕ, ◌≤◌, Bool, true, false, Option, None, List, [], ◌∷◌, ◌++◌, length, drop, map, replicate, if◌then◌else◌, refl, sym, ◌∙◌, ap, subst, arith, inl, inr}
use Rattle.std.proofs.lemmas.List.{append-nil, nil_from_length}
use Rattle.vd_ring.specs.declared.frame.Used.{Used}
use Rattle.vd_ring.specs.declared.driver.DriverView.{DriverView}
use Rattle.vd_ring.specs.declared.device.DeviceView.{DeviceView}
use Rattle.vd_ring.specs.History.{offers, collects, open_at, gives, occurs}
use Rattle.vd_layout.specs.Begun.{DriverOp}
use Rattle.vd_layout.specs.Driver.{DriverModel, IsLawfulDriver}
use Rattle.vd_layout.specs.Device.{DeviceModel, IsLawfulDevice}
use Rattle.vd_layout.specs.Layout.{LayoutModel}
use Rattle.vd_layout.specs.laws.Unarmed.{driver_unarmed}
use Rattle.vd_table.specs.declared.Origin.{Origin}
use Rattle.vd_control.specs.Settings.{replay}
use Rattle.vd_relay.specs.declared.counts.Counts.{Counts}
use Rattle.vd_relay.specs.declared.stage.Stage.TheVariants as stage
use Rattle.vd_relay.specs.declared.replay.Replay.{Replay}
use Rattle.vd_relay.specs.declared.replay.ReplayStage.{ReplayStage}
use Rattle.vd_relay.specs.declared.replay.ReplayStage.TheVariants.{First, Second, Offering, Collecting, Loading, Arming, Hearing, Disarming, Done, Left}
use Rattle.vd_relay.specs.Pace.{take_owes, KeepsPace}
use Rattle.vd_relay.specs.Stages.{ShadowIs, ShadowArmed}
use Rattle.vd_relay.specs.Ways.{carrying, shift_by}
use Rattle.vd_relay.specs.Pairing.{AreControls}
use Rattle.vd_relay.specs.Relay.{Holds, Begins, HandsBack, start}
use Rattle.vd_relay.specs.Leaving.{IsFree, RestIs, IsLeft, rest_owes, leave_owes}
use Rattle.vd_relay.specs.Replays.{Replays, IsBetween, Awaits, IsAt, is_over, as_stage, replay_owes}
use Rattle.vd_relay.proofs.Begins.{begun_at}
use Rattle.vd_relay.proofs.Ops.{shadow_idle}
use Rattle.vd_relay.proofs.Ways.{drop_count}

pub drop_all : {X : Type 0} (n : ℕ) (xs : List X) → length xs ≡ n → drop n xs ≡ []
drop_all n xs is = nil_from_length (drop n xs) (omega (arith, drop_count n xs (omega (arith, is)), is))

over_is : (P : ReplayStage → Type 0) (st : ReplayStage) → is_over st ≡ true → (st ≡ Done → P Done) → (st ≡ Left → P Left) → P st
over_is P Done o f g = f refl
over_is P Left o f g = g refl
over_is P First o f g = absurd (cc o)
over_is P Second o f g = absurd (cc o)
over_is P Offering o f g = absurd (cc o)
over_is P Collecting o f g = absurd (cc o)
over_is P (Loading h) o f g = absurd (cc o)
over_is P Arming o f g = absurd (cc o)
over_is P Hearing o f g = absurd (cc o)
over_is P Disarming o f g = absurd (cc o)

module _ {E D : Type 0} (l : LayoutModel) (e : DeviceModel E) (d : DriverModel D) (law : IsLawfulDevice e) (ldr : IsLawfulDriver d)
    (r : Replay) (x : D) (v : DriverView) (h : Replays l d r x v) where
  -- the shadow end is idle then, and not armed
  giving_at : is_over r.stage ≡ true → as_stage r.stage ≡ stage.Giving
  giving_at o = over_is (λ z. as_stage z ≡ stage.Giving) r.stage o (λ z. refl) (λ z. refl)

  pub over_idle : is_over r.stage ≡ true → d.begun x ≡ DriverOp.idle
  over_idle o = shadow_idle stage.Giving (d.begun x) refl (subst (λ z. ShadowIs z (d.begun x)) (giving_at o) h.op)

  pub over_unarmed : is_over r.stage ≡ true → d.armed x ≡ false
  over_unarmed o = driver_unarmed d ldr x v h.drives (subst (λ z. ShadowArmed z (d.begun x) v.doing v.armed) (giving_at o) h.armed)

  -- no command is on its way
  pub over_between : is_over r.stage ≡ true → open_at v.done ≡ [] → IsBetween v.done r.next
  over_between o none = over_is (λ z. r.stage ≡ z → IsBetween v.done r.next) r.stage o
      (λ i is. (subst (λ (z : ReplayStage). IsAt z (replay r.settings) r.next v.frame v.done) is h.at).1)
      (λ i is. elim (h.left is).1 [ inl b ↦ b | inr b ↦ absurd (cc (b.0.one, none)) ]) refl

  over_few : is_over r.stage ≡ true → r.next ≤ 4105
  over_few o = over_is (λ z. r.stage ≡ z → r.next ≤ 4105) r.stage o
      (λ i is. omega (arith, h.few, h.counted, (subst (λ (z : ReplayStage). IsAt z (replay r.settings) r.next v.frame v.done) is h.at).0))
      (λ i is. omega (arith, h.few, h.counted, (subst (λ (z : ReplayStage). IsAt z (replay r.settings) r.next v.frame v.done) is h.at).0)) refl

  -- it leaves what is owed before the first take
  over_owes : is_over r.stage ≡ true → take_owes r.winding false false ≤ replay_owes d r.winding r.stage x v
  over_owes o = over_is (λ z. r.stage ≡ z → take_owes r.winding false false ≤ replay_owes d r.winding z x v) r.stage o
      (λ i is. most r.winding)
      (λ i is. omega (arith, ap (λ z. take_owes z false false) (h.left is).0)) refl
    where
      most : (y : Bool) → take_owes y false false ≤ 47
      most true = omega arith
      most false = omega arith

  module _ (a : E) (t : List (Option Origin)) (w : DeviceView) (free : IsFree e a w) (paired : AreControls w.frame v.frame)
      (empty : t ≡ replicate v.frame.size None) where
    -- where no chain is open, the relay begins to carry
    pub begins : is_over r.stage ≡ true → open_at v.done ≡ [] → Begins e d (carrying (length (offers v.done))) a x t w v
    begins o none =
        let b = over_between o none in
        record {
          serves = free.serves;
          drives = h.drives;
          paired = paired;
          outstanding = free.even;
          none_open = none;
          none_sent = drop_all (length (offers v.done)) (offers v.done) refl;
          none_came = drop_all (length (offers v.done)) (collects v.done) (omega (arith, b.offered, b.collected));
          follows = record {
            few = omega (arith, b.offered, over_few o);
            offered = omega arith;
            collected = omega (arith, b.offered, b.collected);
            closed = λ k some. absurd (omega (arith, some, ap (λ (ks : List ℕ). occurs k ks) none));
          };
          empty = empty;
        }

    pub goes_on : (c : Counts) → is_over r.stage ≡ true → open_at v.done ≡ [] → KeepsPace c (replay_owes d r.winding r.stage x v)
        → Holds e d (start (carrying (length (offers v.done))) w)
        (record { guest = a; shadow = x; table = t; stage = stage.Taking; winding = r.winding; target = r.target }) c w v
    goes_on c o none pace = begun_at e d law ldr r.winding r.target c a x t (carrying (length (offers v.done))) w v
        (λ i j k. omega (arith, over_owes o, pace i j k)) free.idle free.awake free.unarmed (over_idle o) (over_unarmed o) (begins o none)

  -- whether one is open, by how many are offered and collected
  pub over_even : is_over r.stage ≡ true → length (offers v.done) ≡ length (collects v.done) → open_at v.done ≡ []
  over_even o even = over_is (λ z. r.stage ≡ z → open_at v.done ≡ []) r.stage o
      (λ i is. (subst (λ (z : ReplayStage). IsAt z (replay r.settings) r.next v.frame v.done) is h.at).1.none)
      (λ i is. elim (h.left is).1 [ inl b ↦ b.none | inr b ↦ absurd (omega (arith, even, b.0.offered, b.0.collected)) ]) refl

  pub over_odd : is_over r.stage ≡ true → length (offers v.done) ≢ length (collects v.done)
      → (r.stage ≡ Left) × (open_at v.done ≡ r.next ∷ []) × (r.target ≤ length (collects v.done))
  over_odd o odd = over_is (λ z. r.stage ≡ z → (r.stage ≡ Left) × (open_at v.done ≡ r.next ∷ []) × (r.target ≤ length (collects v.done)))
      r.stage o
      (λ i is.
      let b = (subst (λ (z : ReplayStage). IsAt z (replay r.settings) r.next v.frame v.done) is h.at).1 in
      absurd (odd (b.offered ∙ sym b.collected)))
      (λ i is. elim (h.left is).1 [
        | inl b ↦ absurd (odd (b.offered ∙ sym b.collected))
        | inr b ↦ (is, b.0.one, b.1)
      ]) refl

  -- a guest's end that is free is left next, and what is owed pays for its rest
  pub free_left : (a : E) (w : DeviceView) → IsFree e a w → IsLeft e a w
  free_left a w f = record {
    serves = f.serves;
    even = f.even;
    op = subst (λ y. RestIs y (e.begun a)) (sym f.awake) (subst (λ b. RestIs false b) (sym f.idle) tt);
    unarmed = law.not_armed a w f.serves f.unarmed;
  }

  pub free_owes : (a : E) (w : DeviceView) → r.stage ≡ Left → IsFree e a w → leave_owes e a ≤ replay_owes d r.winding r.stage x v
  free_owes a w is f = omega (
    arith,
    ap {B = ℕ} (λ (y : Bool). if y then 0 else rest_owes (e.begun a) (e.left a)) f.awake,
    ap (λ b. rest_owes b (e.left a)) f.idle,
    ap (λ (z : ReplayStage). replay_owes d r.winding z x v) is,
  )

  -- where one is open, as many are collected as were given: the guest's end is left, and handed back with what stood there before
  pub hands_back : (a : E) (w0 w : DeviceView) → r.stage ≡ Left → open_at v.done ≡ r.next ∷ [] → IsLeft e a w → e.resting a ≡ true
      → gives w.done ≡ gives w0.done → HandsBack e d (start (carrying r.next) w0) a x r.target w v
  hands_back a w0 w is one left rests same =
      let b = awaits_at (h.left is).1 in
      let none : drop r.next (collects v.done) ≡ [] = drop_all r.next (collects v.done) b.0.collected in
      record {
        serves = left.serves;
        drives = h.drives;
        rests = rests;
        given = same ∙ sym (append-nil (gives w0.done)) ∙ ap (λ (us : List Used). gives w0.done ++ us)
            (sym (ap (λ (us : List Used). map (shift_by (carrying r.next) (length (gives w0.done))) us) none));
        collected = b.1;
      }
    where
      awaits_at : (IsBetween v.done r.next ⊎ (Awaits v.done r.next × (r.target ≤ length (collects v.done)))) → Awaits v.done r.next × (r.target ≤ length (collects v.done))
      awaits_at (inl b) = absurd (cc (b.none, one))
      awaits_at (inr b) = (b.0, b.1)
