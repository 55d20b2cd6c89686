-- Lemmas: how an operation of a driver's end leaves its side armed, from one access to the next.
use Rattle.std.proofs.Common.{◌≡◌, ◌==◌, ℕ, Bool, true, false, Some, refl, sym, ap, ◌∙◌, subst, inl, inr}
use Rattle.std.proofs.lemmas.Bool.{eqb-true, eqb-false}
use Rattle.vd_words.specs.declared.access.Access.{Access}
use Rattle.vd_words.specs.declared.access.Op.{Op}
use Rattle.vd_words.specs.declared.access.Op.TheVariants as op
use Rattle.vd_ring.specs.declared.act.DriverAct.{DriverAct}
use Rattle.vd_ring.specs.declared.act.DriverAct.TheVariants as act
use Rattle.vd_ring.specs.declared.driver.DriverNow.TheVariants as now
use Rattle.vd_ring.specs.declared.driver.DriverView.{DriverView}
use Rattle.vd_ring.specs.Looks.{DriverWakes}
use Rattle.vd_layout.specs.Begun.{DriverOp, IsDriverOp}
use Rattle.vd_layout.specs.Driver.{DriverModel, IsLawfulDriver}
use Rattle.vd_layout.specs.DriverFinish.{DriverLeaves, DriverWay}

is_arm : (b : DriverOp) (o : Op) → IsDriverOp b o → o ≡ op.Arm → b ≡ DriverOp.arm
is_arm DriverOp.idle o is e = absurd is
is_arm (DriverOp.offer c) o is e = absurd (cc (is, e))
is_arm DriverOp.collect o is e = absurd (cc (is, e))
is_arm DriverOp.arm o is e = refl
is_arm DriverOp.hear o is e = absurd (cc (is, e))
is_arm DriverOp.disarm o is e = absurd (cc (is, e))
is_arm DriverOp.signal o is e = absurd (cc (is, e))

is_hear : (b : DriverOp) (o : Op) → IsDriverOp b o → o ≡ op.Hear → b ≡ DriverOp.hear
is_hear DriverOp.idle o is e = absurd is
is_hear (DriverOp.offer c) o is e = absurd (cc (is, e))
is_hear DriverOp.collect o is e = absurd (cc (is, e))
is_hear DriverOp.arm o is e = absurd (cc (is, e))
is_hear DriverOp.hear o is e = refl
is_hear DriverOp.disarm o is e = absurd (cc (is, e))
is_hear DriverOp.signal o is e = absurd (cc (is, e))

pub driver_way : (b : DriverOp) (v : DriverView) → v.doing ≡ now.Idle → DriverWay b v v
driver_way DriverOp.idle v idle = tt
driver_way (DriverOp.offer c) v idle = tt
driver_way DriverOp.collect v idle = tt
driver_way DriverOp.arm v idle = inl idle
driver_way DriverOp.hear v idle = inl refl
driver_way DriverOp.disarm v idle = tt
driver_way DriverOp.signal v idle = tt

module _ {E : Type 0} (m : DriverModel E) (law : IsLawfulDriver m) (v w : DriverView) (o : Op) (a : Access) (r : ℕ)
    (next : m.side.next w o a) where
  -- an access by which the side wakes and that is answered Moved leaves the disarming store
  wakes : DriverWakes m.shows w r o → m.act w o a r ≡ act.Moved → (m.side.after w o a r).doing ≡ now.Disarming o
  wakes woken is = indexed w.frame.features.event_idx refl
    where
      indexed : (x : Bool) → w.frame.features.event_idx ≡ x → (m.side.after w o a r).doing ≡ now.Disarming o
      indexed true x = absurd (cc (is, (law.looks.awake w o a r next).1 (inl (woken, x))))
      indexed false x = (law.looks.disarming w o a r next).1 (woken, x)

  disarmed : w.doing ≡ now.Disarming o → m.act w o a r ≡ act.Moved → ⊥
  disarmed at is = cc (is, (law.looks.awake w o a r next).1 (inr (inl at)))

  again : o ≡ op.Arm → w.doing ≡ now.Arming → m.act w o a r ≡ act.Moved → (m.side.after w o a r).doing ≡ now.Disarming op.Arm
  again arm at is = shown (m.shows w r) refl
    where
      shown : (x : Bool) → m.shows w r ≡ x → (m.side.after w o a r).doing ≡ now.Disarming op.Arm
      shown true x = wakes (inl (arm, at, x)) is ∙ ap now.Disarming arm
      shown false x = absurd (cc (is, (law.looks.armed w o a r next).1 (arm, at, x)))

  heard : o ≡ op.Hear → w.doing ≡ now.Idle → m.act w o a r ≡ act.Moved → (m.side.after w o a r).doing ≡ now.Disarming op.Hear
  heard hear at is = same (r == w.heard) refl
    where
      same : (x : Bool) → (r == w.heard) ≡ x → (m.side.after w o a r).doing ≡ now.Disarming op.Hear
      same true x = absurd (cc (is, (law.looks.asleep w o a r next).1 (hear, at, eqb-true r w.heard x)))
      same false x = wakes (inr (hear, at, eqb-false r w.heard x)) is ∙ ap now.Disarming hear

  pub driver_on : (b : DriverOp) → IsDriverOp b o → v.doing ≡ now.Idle → m.act w o a r ≡ act.Moved → DriverWay b v w
      → DriverWay b v (m.side.after w o a r)
  driver_on DriverOp.arm is idle moved (inl at) = inr (inl (law.stays.arms w o a r next is at))
  driver_on DriverOp.arm is idle moved (inr (inl at)) = inr (inr (again is at.0 moved))
  driver_on DriverOp.arm is idle moved (inr (inr at)) = absurd (disarmed (at ∙ ap now.Disarming (sym is)) moved)
  driver_on DriverOp.hear is idle moved (inl same) = inr (heard is (ap (λ (u : DriverView). u.doing) same ∙ idle) moved)
  driver_on DriverOp.hear is idle moved (inr at) = absurd (disarmed (at ∙ ap now.Disarming (sym is)) moved)
  driver_on DriverOp.idle is idle moved way = tt
  driver_on (DriverOp.offer c) is idle moved way = tt
  driver_on DriverOp.collect is idle moved way = tt
  driver_on DriverOp.disarm is idle moved way = tt
  driver_on DriverOp.signal is idle moved way = tt

  arms : DriverWay DriverOp.arm v w → w.doing ≡ now.Arming → (t : ℕ) × (w.armed ≡ Some t)
  arms (inl at) is = absurd (cc (at, is))
  arms (inr (inl at)) is = (at.1, at.2)
  arms (inr (inr at)) is = absurd (cc (at, is))

  hears : DriverWay DriverOp.hear v w → w.doing ≡ now.Idle → w ≡ v
  hears (inl same) is = same
  hears (inr at) is = absurd (cc (at, is))

  pub driver_leaves : (x : DriverAct) (b : DriverOp) → IsDriverOp b o → x ≡ m.act w o a r → DriverWay b v w
      → DriverLeaves x v.armed (m.side.after w o a r).armed
  driver_leaves act.Armed b of is way =
      let look = (law.looks.armed w o a r next).0 (sym is) in
      let had = arms (subst (λ z. DriverWay z v w) (is_arm b o of look.0) way) look.1 in
      (had.0, law.stays.armed w o a r next (sym is) ∙ had.1)
  driver_leaves act.Asleep b of is way =
      let look = (law.looks.asleep w o a r next).0 (sym is) in
      ap (λ (u : DriverView). u.armed) (law.stays.asleep w o a r next (sym is)
      ∙ hears (subst (λ z. DriverWay z v w) (is_hear b o of look.0) way) look.1)
  driver_leaves act.Awake b of is way = law.stays.awake w o a r next (sym is)
  driver_leaves act.Moved b of is way = tt
  driver_leaves act.Nothing b of is way = tt
  driver_leaves (act.Offered k) b of is way = tt
  driver_leaves (act.Collected k n h) b of is way = tt
