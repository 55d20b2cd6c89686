-- What the device's end of a split ring holds while it rests or is fresh.
use Rattle.std.proofs.Common.{◌≡◌, ℕ, ◌&&◌, ◌==◌, Bool, true, false, not, List, [], ◌∷◌, length, refl, ap, subst, arith, inl, inr}
use Rattle.std.proofs.lemmas.Bool.{eqb-true}
use Rattle.vd_model.specs.declared.chain.Piece.{Piece}
use Rattle.vd_ring.specs.declared.frame.Frame.{Frame}
use Rattle.vd_ring.specs.declared.device.DeviceDone.{DeviceDone}
use Rattle.vd_ring.specs.declared.device.DeviceNow.{DeviceNow}
use Rattle.vd_ring.specs.declared.device.DeviceNow.TheVariants as now
use Rattle.vd_ring.specs.declared.device.DeviceView.{DeviceView}
use Rattle.vd_ring.specs.History.{takes, gives, running, IsWhole}
use Rattle.vd_layout.specs.Begun.{DeviceOp}
use Rattle.vd_layout.specs.Device.{IsStill}
use Rattle.vd_split.specs.declared.device.SplitDevice.{SplitDevice}
use Rattle.vd_split.specs.declared.device.DeviceStep.{DeviceStep}
use Rattle.vd_split.specs.declared.device.DeviceStep.TheVariants as step
use Rattle.vd_split.specs.DeviceEnd.{DeviceStepArmed, DeviceStands, DeviceStepStands, device_begun, device_left, is_resting, is_idle, split_device}

-- ---- resting and fresh

empty_is : (xs : List ℕ) → length xs ≡ 0 → xs ≡ []
empty_is [] h = refl
empty_is (x ∷ xs) h = absurd (omega arith)

pub rests_at : (t : DeviceStep) (ps : List Piece) (a : ℕ) (f : Frame) (s : List DeviceDone) (d : DeviceNow) → DeviceStepStands t ps a f s d
    → device_begun t ≡ DeviceOp.idle → d ≡ now.Idle
rests_at step.Idle ps a f s d h e = h
rests_at step.Resting ps a f s d h e = h.0
rests_at step.Look ps a f s d h e = absurd (cc e)
rests_at (step.Entry r) ps a f s d h e = absurd (cc e)
rests_at (step.Address r k p) ps a f s d h e = absurd (cc e)
rests_at (step.Second r k p) ps a f s d h e = absurd (cc e)
rests_at (step.TableAddress r k p) ps a f s d h e = absurd (cc e)
rests_at (step.TableSecond r k p) ps a f s d h e = absurd (cc e)
rests_at (step.StoreId k h n) ps a f s d x e = absurd (cc e)
rests_at (step.StoreLen k h n) ps a f s d x e = absurd (cc e)
rests_at (step.StoreIndex k h n) ps a f s d x e = absurd (cc e)
rests_at step.Rest ps a f s d h e = absurd (cc e)
rests_at (step.Check old new) ps a f s d h e = absurd (cc e)
rests_at (step.Ring old new) ps a f s d h e = absurd (cc e)
rests_at step.Arm ps a f s d h e = absurd (cc e)
rests_at step.LookAgain ps a f s d h e = absurd (cc e)
rests_at step.Hear ps a f s d h e = absurd (cc e)
rests_at step.WakeArming ps a f s d h e = absurd (cc e)
rests_at step.WakeHearing ps a f s d h e = absurd (cc e)
rests_at step.Disarm ps a f s d h e = absurd (cc e)
rests_at step.RestLook ps a f s d h e = absurd (cc e)

pub ends_at : (t : DeviceStep) (n : ℕ) → device_left t n ≡ 0 → device_begun t ≡ DeviceOp.idle
ends_at step.Idle n h = refl
ends_at step.Resting n h = refl
ends_at step.Look n h = absurd (omega arith)
ends_at (step.Entry r) n h = absurd (omega arith)
ends_at (step.Address r k p) n h = absurd (omega arith)
ends_at (step.Second r k p) n h = absurd (omega arith)
ends_at (step.TableAddress r k p) n h = absurd (omega arith)
ends_at (step.TableSecond r k p) n h = absurd (omega arith)
ends_at (step.StoreId k h l) n x = absurd (omega arith)
ends_at (step.StoreLen k h l) n x = absurd (omega arith)
ends_at (step.StoreIndex k h l) n x = absurd (omega arith)
ends_at step.Rest n h = absurd (omega arith)
ends_at (step.Check old new) n h = absurd (omega arith)
ends_at (step.Ring old new) n h = absurd (omega arith)
ends_at step.Arm n h = absurd (omega arith)
ends_at step.LookAgain n h = absurd (omega arith)
ends_at step.Hear n h = absurd (omega arith)
ends_at step.WakeArming n h = absurd (omega arith)
ends_at step.WakeHearing n h = absurd (omega arith)
ends_at step.Disarm n h = absurd (omega arith)
ends_at step.RestLook n h = absurd (omega arith)

-- what is resting or fresh is idle
resting_idle : (t : DeviceStep) → is_resting t ≡ true → (device_begun t ≡ DeviceOp.idle) × (t ≡ step.Resting)
resting_idle step.Resting e = (refl, refl)
resting_idle step.Idle e = absurd (cc e)
resting_idle step.Look e = absurd (cc e)
resting_idle (step.Entry r) e = absurd (cc e)
resting_idle (step.Address r k p) e = absurd (cc e)
resting_idle (step.Second r k p) e = absurd (cc e)
resting_idle (step.TableAddress r k p) e = absurd (cc e)
resting_idle (step.TableSecond r k p) e = absurd (cc e)
resting_idle (step.StoreId k h l) e = absurd (cc e)
resting_idle (step.StoreLen k h l) e = absurd (cc e)
resting_idle (step.StoreIndex k h l) e = absurd (cc e)
resting_idle step.Rest e = absurd (cc e)
resting_idle (step.Check old new) e = absurd (cc e)
resting_idle (step.Ring old new) e = absurd (cc e)
resting_idle step.Arm e = absurd (cc e)
resting_idle step.LookAgain e = absurd (cc e)
resting_idle step.Hear e = absurd (cc e)
resting_idle step.WakeArming e = absurd (cc e)
resting_idle step.WakeHearing e = absurd (cc e)
resting_idle step.Disarm e = absurd (cc e)
resting_idle step.RestLook e = absurd (cc e)

-- a fresh end is idle, and has taken and given nothing
fresh_idle : (t : DeviceStep) (m n : ℕ) → (is_idle t && ((m == 0) && (n == 0))) ≡ true → (device_begun t ≡ DeviceOp.idle) × (m ≡ 0)
    × (n ≡ 0)
fresh_idle step.Idle m n e = let both = and_both (m == 0) (n == 0) e in (refl, eqb-true m 0 both.0, eqb-true n 0 both.1)
  where
    and_both : (a b : Bool) → (a && b) ≡ true → (a ≡ true) × (b ≡ true)
    and_both true true e = (refl, refl)
    and_both true false e = absurd (cc e)
    and_both false b e = absurd (cc e)
fresh_idle step.Resting m n e = absurd (cc e)
fresh_idle step.Look m n e = absurd (cc e)
fresh_idle (step.Entry r) m n e = absurd (cc e)
fresh_idle (step.Address r k p) m n e = absurd (cc e)
fresh_idle (step.Second r k p) m n e = absurd (cc e)
fresh_idle (step.TableAddress r k p) m n e = absurd (cc e)
fresh_idle (step.TableSecond r k p) m n e = absurd (cc e)
fresh_idle (step.StoreId k h l) m n e = absurd (cc e)
fresh_idle (step.StoreLen k h l) m n e = absurd (cc e)
fresh_idle (step.StoreIndex k h l) m n e = absurd (cc e)
fresh_idle step.Rest m n e = absurd (cc e)
fresh_idle (step.Check old new) m n e = absurd (cc e)
fresh_idle (step.Ring old new) m n e = absurd (cc e)
fresh_idle step.Arm m n e = absurd (cc e)
fresh_idle step.LookAgain m n e = absurd (cc e)
fresh_idle step.Hear m n e = absurd (cc e)
fresh_idle step.WakeArming m n e = absurd (cc e)
fresh_idle step.WakeHearing m n e = absurd (cc e)
fresh_idle step.Disarm m n e = absurd (cc e)
fresh_idle step.RestLook m n e = absurd (cc e)

pub parts : (a b : Bool) → (a && b) ≡ true → (a ≡ true) × (b ≡ true)
parts true true e = (refl, refl)
parts true false e = absurd (cc e)
parts false b e = absurd (cc e)

pub still_idle : (e : SplitDevice) → IsStill split_device e → device_begun e.doing ≡ DeviceOp.idle
still_idle e (inl r) = (resting_idle e.doing r).0
still_idle e (inr r) = (fresh_idle e.doing e.taken e.given
    (parts (is_idle e.doing && ((e.taken == 0) && (e.given == 0))) (not e.armed) r).0).0

pub still_unarmed : (e : SplitDevice) (v : DeviceView) → DeviceStands e v → IsStill split_device e → e.armed ≡ false
still_unarmed e v st (inl r) = subst (λ t. DeviceStepArmed t e.armed) (resting_idle e.doing r).1 st.signals.awake
still_unarmed e v st (inr r) = turned e.armed (parts (is_idle e.doing && ((e.taken == 0) && (e.given == 0))) (not e.armed) r).1
  where
    turned : (b : Bool) → not b ≡ true → b ≡ false
    turned true h = absurd (cc h)
    turned false h = refl

pub still_whole : (e : SplitDevice) (v : DeviceView) → DeviceStands e v → IsStill split_device e
    → (running v.done ≡ []) × (length (takes v.done) ≡ length (gives v.done)) × IsWhole v.done
still_whole e v st (inl r) =
    let n : DeviceStepStands step.Resting e.pieces.items e.addr v.frame v.done v.doing =
    subst (λ t. DeviceStepStands t e.pieces.items e.addr v.frame v.done v.doing) (resting_idle e.doing r).1 st.doing in
    (n.1, omega (arith, st.holds.once.count, ap (λ (xs : List ℕ). length xs) n.1), n.2)
still_whole e v st (inr r) =
    let n = fresh_idle e.doing e.taken e.given (parts (is_idle e.doing && ((e.taken == 0) && (e.given == 0))) (not e.armed) r).0 in
    let none : length (takes v.done) ≡ 0 = omega (arith, st.counts.takes) in (
      empty_is (running v.done) (omega (arith, st.holds.once.count)),
      omega (arith, st.holds.once.count),
      λ k h. absurd (omega (arith, st.holds.once.count)),
    )

pub fresh_unused : (e : SplitDevice) (v : DeviceView) → DeviceStands e v → (is_idle e.doing && ((e.taken == 0) && (e.given == 0))) ≡ true
    → takes v.done ≡ []
fresh_unused e v st r = none (takes v.done) (omega (arith, st.counts.takes, (fresh_idle e.doing e.taken e.given r).1))
  where
    none : (xs : List (List Piece)) → length xs ≡ 0 → xs ≡ []
    none [] h = refl
    none (x ∷ xs) h = absurd (omega arith)
