-- The stages of a replay: which goes with which operation of the shadow end, and what it owes there.
use Rattle.std.proofs.Common.{◌≡◌, ℕ, Bool, true, false, List, [], ◌∷◌, if◌then◌else◌, refl, sym, subst, inl, inr}
use Rattle.std.specs.Prelude.{nat_lt, ◌<◌, ◌≤◌}
use Rattle.std.proofs.lemmas.Bool.{ltb-true, ltb-false}
use Rattle.vd_model.specs.declared.chain.Piece.{Piece}
use Rattle.vd_ring.specs.declared.driver.DriverView.{DriverView}
use Rattle.vd_layout.specs.Begun.{DriverOp, DriverGoesOn}
use Rattle.vd_layout.specs.Driver.{DriverModel}
use Rattle.vd_control.specs.declared.command.Command.{Command}
use Rattle.vd_relay.specs.declared.replay.ReplayStage.{ReplayStage}
use Rattle.vd_relay.specs.declared.replay.ReplayStage.TheVariants.{First, Second, Offering, Collecting, Loading, Arming, Hearing, Disarming, Done, Left}
use Rattle.vd_relay.specs.Pace.{shadow_owes}
use Rattle.vd_relay.specs.Stages.{ShadowIs, OffersHand}
use Rattle.vd_relay.specs.Replays.{is_control, as_stage, replay_owes, OffersIt, after_ack}

pub owes_at : {D : Type 0} (d : DriverModel D) (w : Bool) (st : ReplayStage) (x : D) (v : DriverView) → is_control st ≡ false
    → replay_owes d w st x v ≡ shadow_owes w (as_stage st) (d.begun x) v.doing false v.shown (d.left x)
owes_at d w First x v off = absurd (cc off)
owes_at d w Second x v off = absurd (cc off)
owes_at d w Offering x v off = refl
owes_at d w Collecting x v off = refl
owes_at d w (Loading h) x v off = absurd (cc off)
owes_at d w Arming x v off = refl
owes_at d w Hearing x v off = refl
owes_at d w Disarming x v off = refl
owes_at d w Left x v off = absurd (cc off)
owes_at d w Done x v off = absurd (cc off)

pub at_offering : (c : List Piece) (st : ReplayStage) → ShadowIs (as_stage st) (DriverOp.offer c) → st ≡ Offering
at_offering c First h = absurd h
at_offering c Second h = absurd h
at_offering c Offering h = refl
at_offering c Collecting h = absurd h
at_offering c (Loading n) h = absurd h
at_offering c Arming h = absurd h
at_offering c Hearing h = absurd h
at_offering c Disarming h = absurd h
at_offering c Done h = absurd h
at_offering c Left h = absurd h

pub at_collecting : (st : ReplayStage) → ShadowIs (as_stage st) DriverOp.collect → st ≡ Collecting
at_collecting First h = absurd h
at_collecting Second h = absurd h
at_collecting Offering h = absurd h
at_collecting Collecting h = refl
at_collecting (Loading n) h = absurd h
at_collecting Arming h = absurd h
at_collecting Hearing h = absurd h
at_collecting Disarming h = absurd h
at_collecting Done h = absurd h
at_collecting Left h = absurd h

pub at_arming : (st : ReplayStage) → ShadowIs (as_stage st) DriverOp.arm → st ≡ Arming
at_arming First h = absurd h
at_arming Second h = absurd h
at_arming Offering h = absurd h
at_arming Collecting h = absurd h
at_arming (Loading n) h = absurd h
at_arming Arming h = refl
at_arming Hearing h = absurd h
at_arming Disarming h = absurd h
at_arming Done h = absurd h
at_arming Left h = absurd h

pub at_hearing : (st : ReplayStage) → ShadowIs (as_stage st) DriverOp.hear → st ≡ Hearing
at_hearing First h = absurd h
at_hearing Second h = absurd h
at_hearing Offering h = absurd h
at_hearing Collecting h = absurd h
at_hearing (Loading n) h = absurd h
at_hearing Arming h = absurd h
at_hearing Hearing h = refl
at_hearing Disarming h = absurd h
at_hearing Done h = absurd h
at_hearing Left h = absurd h

pub at_disarming : (st : ReplayStage) → ShadowIs (as_stage st) DriverOp.disarm → st ≡ Disarming
at_disarming First h = absurd h
at_disarming Second h = absurd h
at_disarming Offering h = absurd h
at_disarming Collecting h = absurd h
at_disarming (Loading n) h = absurd h
at_disarming Arming h = absurd h
at_disarming Hearing h = absurd h
at_disarming Disarming h = refl
at_disarming Done h = absurd h
at_disarming Left h = absurd h

-- ---- the chain on offer

abbrev pub hand_of : DriverOp → List (List Piece)
hand_of (DriverOp.offer c) = c ∷ []
hand_of _ = []

pub offers_own : (a : DriverOp) → OffersHand a (hand_of a)
offers_own DriverOp.idle = tt
offers_own (DriverOp.offer c) = refl
offers_own DriverOp.collect = tt
offers_own DriverOp.arm = tt
offers_own DriverOp.hear = tt
offers_own DriverOp.disarm = tt
offers_own DriverOp.signal = tt

pub offer_goes : (a b : DriverOp) (cs : List Command) (n : ℕ) → DriverGoesOn a b → OffersIt a cs n → OffersIt b cs n
offer_goes DriverOp.idle b cs n on h = subst (λ o. OffersIt o cs n) (sym on) h
offer_goes (DriverOp.offer c) b cs n on h = subst (λ o. OffersIt o cs n) (sym on) h
offer_goes DriverOp.collect b cs n on h = subst (λ o. OffersIt o cs n) (sym on) h
offer_goes DriverOp.arm b cs n on h = subst (λ o. OffersIt o cs n) (sym on) h
offer_goes DriverOp.hear b cs n on h = subst (λ o. OffersIt o cs n) (sym on) h
offer_goes DriverOp.disarm b cs n on h = subst (λ o. OffersIt o cs n) (sym on) h
offer_goes DriverOp.signal b cs n (inl e) h = subst (λ o. OffersIt o cs n) (sym e) tt
offer_goes DriverOp.signal b cs n (inr e) h = subst (λ o. OffersIt o cs n) (sym e) tt

-- ---- what comes after an ack

pub next_by : (P : ReplayStage → Type 0) (m count : ℕ) → (m < count → P First) → (count ≤ m → P Done) → P (after_ack m count)
next_by P m count some none = by (nat_lt m count) refl
  where
    by : (c : Bool) → nat_lt m count ≡ c → P (if c then First else Done)
    by true e = some (ltb-true m count e)
    by false e = none (ltb-false m count e)
