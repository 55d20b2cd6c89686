-- Lemmas: how an operation of a device's end leaves its side armed, from one access to the next.
use Rattle.std.proofs.Common.{◌≡◌, ◌==◌, ℕ, Bool, true, false, Some, refl, sym, ap, ◌∙◌, subst, inl, inr}
use Rattle.std.proofs.lemmas.Bool.{eqb-true, eqb-false}
use Rattle.vd_words.specs.declared.access.Access.{Access}
use Rattle.vd_words.specs.declared.access.Op.{Op}
use Rattle.vd_words.specs.declared.access.Op.TheVariants as op
use Rattle.vd_ring.specs.declared.act.DeviceAct.{DeviceAct}
use Rattle.vd_ring.specs.declared.act.DeviceAct.TheVariants as act
use Rattle.vd_ring.specs.declared.device.DeviceNow.TheVariants as now
use Rattle.vd_ring.specs.declared.device.DeviceView.{DeviceView}
use Rattle.vd_ring.specs.Looks.{DeviceWakes}
use Rattle.vd_layout.specs.Begun.{DeviceOp, IsDeviceOp}
use Rattle.vd_layout.specs.Device.{DeviceModel, IsLawfulDevice}
use Rattle.vd_layout.specs.DeviceFinish.{DeviceLeaves, DeviceWay}

is_arm : (b : DeviceOp) (o : Op) → IsDeviceOp b o → o ≡ op.Arm → b ≡ DeviceOp.arm
is_arm DeviceOp.idle o is e = absurd is
is_arm DeviceOp.take o is e = absurd (cc (is, e))
is_arm (DeviceOp.give k n) o is e = absurd (cc (is, e))
is_arm DeviceOp.rest o is e = absurd (cc (is, e))
is_arm DeviceOp.arm o is e = refl
is_arm DeviceOp.hear o is e = absurd (cc (is, e))
is_arm DeviceOp.disarm o is e = absurd (cc (is, e))
is_arm DeviceOp.signal o is e = absurd (cc (is, e))

is_hear : (b : DeviceOp) (o : Op) → IsDeviceOp b o → o ≡ op.Hear → b ≡ DeviceOp.hear
is_hear DeviceOp.idle o is e = absurd is
is_hear DeviceOp.take o is e = absurd (cc (is, e))
is_hear (DeviceOp.give k n) o is e = absurd (cc (is, e))
is_hear DeviceOp.rest o is e = absurd (cc (is, e))
is_hear DeviceOp.arm o is e = absurd (cc (is, e))
is_hear DeviceOp.hear o is e = refl
is_hear DeviceOp.disarm o is e = absurd (cc (is, e))
is_hear DeviceOp.signal o is e = absurd (cc (is, e))

pub device_way : (b : DeviceOp) (v : DeviceView) → v.doing ≡ now.Idle → DeviceWay b v v
device_way DeviceOp.idle v idle = tt
device_way DeviceOp.take v idle = tt
device_way (DeviceOp.give k n) v idle = tt
device_way DeviceOp.rest v idle = tt
device_way DeviceOp.arm v idle = inl idle
device_way DeviceOp.hear v idle = inl refl
device_way DeviceOp.disarm v idle = tt
device_way DeviceOp.signal v idle = tt

module _ {E : Type 0} (m : DeviceModel E) (law : IsLawfulDevice m) (v w : DeviceView) (o : Op) (a : Access) (r : ℕ)
    (next : m.side.next w o a) where
  -- an access by which the side wakes and that is answered Moved leaves the disarming store
  wakes : DeviceWakes m.shows w r o → m.act w o a r ≡ act.Moved → (m.side.after w o a r).doing ≡ now.Disarming o
  wakes woken is = indexed w.frame.features.event_idx refl
    where
      indexed : (x : Bool) → w.frame.features.event_idx ≡ x → (m.side.after w o a r).doing ≡ now.Disarming o
      indexed true x = absurd (cc (is, (law.looks.awake w o a r next).1 (inl (woken, x))))
      indexed false x = (law.looks.disarming w o a r next).1 (woken, x)

  disarmed : w.doing ≡ now.Disarming o → m.act w o a r ≡ act.Moved → ⊥
  disarmed at is = cc (is, (law.looks.awake w o a r next).1 (inr (inl at)))

  again : o ≡ op.Arm → w.doing ≡ now.Arming → m.act w o a r ≡ act.Moved → (m.side.after w o a r).doing ≡ now.Disarming op.Arm
  again arm at is = shown (m.shows w r) refl
    where
      shown : (x : Bool) → m.shows w r ≡ x → (m.side.after w o a r).doing ≡ now.Disarming op.Arm
      shown true x = wakes (inl (arm, at, x)) is ∙ ap now.Disarming arm
      shown false x = absurd (cc (is, (law.looks.armed w o a r next).1 (arm, at, x)))

  heard : o ≡ op.Hear → w.doing ≡ now.Idle → m.act w o a r ≡ act.Moved → (m.side.after w o a r).doing ≡ now.Disarming op.Hear
  heard hear at is = same (r == w.heard) refl
    where
      same : (x : Bool) → (r == w.heard) ≡ x → (m.side.after w o a r).doing ≡ now.Disarming op.Hear
      same true x = absurd (cc (is, (law.looks.asleep w o a r next).1 (hear, at, eqb-true r w.heard x)))
      same false x = wakes (inr (hear, at, eqb-false r w.heard x)) is ∙ ap now.Disarming hear

  pub device_on : (b : DeviceOp) → IsDeviceOp b o → v.doing ≡ now.Idle → m.act w o a r ≡ act.Moved → DeviceWay b v w
      → DeviceWay b v (m.side.after w o a r)
  device_on DeviceOp.arm is idle moved (inl at) = inr (inl (law.stays.arms w o a r next is at))
  device_on DeviceOp.arm is idle moved (inr (inl at)) = inr (inr (again is at.0 moved))
  device_on DeviceOp.arm is idle moved (inr (inr at)) = absurd (disarmed (at ∙ ap now.Disarming (sym is)) moved)
  device_on DeviceOp.hear is idle moved (inl same) = inr (heard is (ap (λ (u : DeviceView). u.doing) same ∙ idle) moved)
  device_on DeviceOp.hear is idle moved (inr at) = absurd (disarmed (at ∙ ap now.Disarming (sym is)) moved)
  device_on DeviceOp.idle is idle moved way = tt
  device_on DeviceOp.take is idle moved way = tt
  device_on (DeviceOp.give k n) is idle moved way = tt
  device_on DeviceOp.rest is idle moved way = tt
  device_on DeviceOp.disarm is idle moved way = tt
  device_on DeviceOp.signal is idle moved way = tt

  arms : DeviceWay DeviceOp.arm v w → w.doing ≡ now.Arming → (t : ℕ) × (w.armed ≡ Some t)
  arms (inl at) is = absurd (cc (at, is))
  arms (inr (inl at)) is = (at.1, at.2)
  arms (inr (inr at)) is = absurd (cc (at, is))

  hears : DeviceWay DeviceOp.hear v w → w.doing ≡ now.Idle → w ≡ v
  hears (inl same) is = same
  hears (inr at) is = absurd (cc (at, is))

  pub device_leaves : (x : DeviceAct) (b : DeviceOp) → IsDeviceOp b o → x ≡ m.act w o a r → DeviceWay b v w
      → DeviceLeaves x v.armed (m.side.after w o a r).armed
  device_leaves act.Armed b of is way =
      let look = (law.looks.armed w o a r next).0 (sym is) in
      let had = arms (subst (λ z. DeviceWay z v w) (is_arm b o of look.0) way) look.1 in
      (had.0, law.stays.armed w o a r next (sym is) ∙ had.1)
  device_leaves act.Asleep b of is way =
      let look = (law.looks.asleep w o a r next).0 (sym is) in
      ap (λ (u : DeviceView). u.armed) (law.stays.asleep w o a r next (sym is)
      ∙ hears (subst (λ z. DeviceWay z v w) (is_hear b o of look.0) way) look.1)
  device_leaves act.Awake b of is way = law.stays.awake w o a r next (sym is)
  device_leaves act.Moved b of is way = tt
  device_leaves act.Nothing b of is way = tt
  device_leaves (act.Taken k c) b of is way = tt
  device_leaves (act.Given k) b of is way = tt
  device_leaves act.Rested b of is way = tt
