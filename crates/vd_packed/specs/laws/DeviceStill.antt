-- What the device's end of a packed ring holds while it rests or is fresh.
use Rattle.std.proofs.Common.{◌≡◌, ℕ, ◌&&◌, ◌==◌, not, Bool, true, false, List, [], ◌∷◌, length, refl, ap, subst, arith, inl, inr}
use Rattle.std.proofs.lemmas.Bool.{eqb-true}
use Rattle.vd_model.specs.declared.chain.Piece.{Piece}
use Rattle.vd_ring.specs.declared.frame.Frame.{Frame}
use Rattle.vd_ring.specs.declared.device.DeviceDone.{DeviceDone}
use Rattle.vd_ring.specs.declared.device.DeviceNow.{DeviceNow}
use Rattle.vd_ring.specs.declared.device.DeviceNow.TheVariants as now
use Rattle.vd_ring.specs.declared.device.DeviceView.{DeviceView}
use Rattle.vd_ring.specs.History.{takes, gives, running, IsWhole}
use Rattle.vd_packed_ring.specs.PackedPositions.{take_position, base_of}
use Rattle.vd_layout.specs.Begun.{DeviceOp}
use Rattle.vd_layout.specs.Device.{IsStill}
use Rattle.vd_packed.specs.declared.device.PackedDevice.{PackedDevice}
use Rattle.vd_packed.specs.declared.device.DeviceStep.{DeviceStep}
use Rattle.vd_packed.specs.declared.device.DeviceStep.TheVariants as step
use Rattle.vd_packed.specs.declared.ring_position.RingPosition.{RingPosition}
use Rattle.vd_packed.specs.DeviceEnd.{DeviceStands, DeviceStepStands, DeviceStepArmed, device_begun, device_left, is_resting, is_idle, packed_device}
use Rattle.vd_packed.specs.laws.Places.{base_at_ring_position}
use Rattle.vd_packed.specs.RingPositions.{base_word}

-- ---- resting and fresh

empty_is : (xs : List ℕ) → length xs ≡ 0 → xs ≡ []
empty_is [] h = refl
empty_is (x ∷ xs) h = absurd (omega arith)

pub rests_at : (t : DeviceStep) (ps : List Piece) (w : ℕ) (p : RingPosition) (f : Frame) (s : List DeviceDone) (d : DeviceNow)
    → DeviceStepStands t ps w p f s d → device_begun t ≡ DeviceOp.idle → d ≡ now.Idle
rests_at step.Idle ps w p f s d h e = h
rests_at step.Resting ps w p f s d h e = h.0
rests_at step.Look ps w p f s d h e = absurd (cc e)
rests_at step.Address ps w p f s d h e = absurd (cc e)
rests_at step.Second ps w p f s d h e = absurd (cc e)
rests_at step.TableAddress ps w p f s d h e = absurd (cc e)
rests_at (step.TableSecond a) ps w p f s d h e = absurd (cc e)
rests_at (step.Give k h n) ps w p f s d x e = absurd (cc e)
rests_at step.Rest ps w p f s d h e = absurd (cc e)
rests_at (step.Check m) ps w p f s d h e = absurd (cc e)
rests_at step.Ring ps w p f s d h e = absurd (cc e)
rests_at step.Arm ps w p f s d h e = absurd (cc e)
rests_at step.LookAgain ps w p f s d h e = absurd (cc e)
rests_at step.Hear ps w p f s d h e = absurd (cc e)
rests_at step.WakeArming ps w p f s d h e = absurd (cc e)
rests_at step.WakeHearing ps w p f s d h e = absurd (cc e)
rests_at step.Disarm ps w p f s d h e = absurd (cc e)
rests_at step.RestLook ps w p f s d h e = absurd (cc e)

pub ends_at : (t : DeviceStep) (n : ℕ) → device_left t n ≡ 0 → device_begun t ≡ DeviceOp.idle
ends_at step.Idle n h = refl
ends_at step.Resting n h = refl
ends_at step.Look n h = absurd (omega arith)
ends_at step.Address n h = absurd (omega arith)
ends_at step.Second n h = absurd (omega arith)
ends_at step.TableAddress n h = absurd (omega arith)
ends_at (step.TableSecond a) n h = absurd (omega arith)
ends_at (step.Give k h l) n x = absurd (omega arith)
ends_at step.Rest n h = absurd (omega arith)
ends_at (step.Check m) n h = absurd (omega arith)
ends_at step.Ring n h = absurd (omega arith)
ends_at step.Arm n h = absurd (omega arith)
ends_at step.LookAgain n h = absurd (omega arith)
ends_at step.Hear n h = absurd (omega arith)
ends_at step.WakeArming n h = absurd (omega arith)
ends_at step.WakeHearing n h = absurd (omega arith)
ends_at step.Disarm n h = absurd (omega arith)
ends_at step.RestLook n h = absurd (omega arith)

-- what is resting or fresh is idle
resting_idle : (t : DeviceStep) → is_resting t ≡ true → (device_begun t ≡ DeviceOp.idle) × (t ≡ step.Resting)
resting_idle step.Resting e = (refl, refl)
resting_idle step.Idle e = absurd (cc e)
resting_idle step.Look e = absurd (cc e)
resting_idle step.Address e = absurd (cc e)
resting_idle step.Second e = absurd (cc e)
resting_idle step.TableAddress e = absurd (cc e)
resting_idle (step.TableSecond a) e = absurd (cc e)
resting_idle (step.Give k h l) e = absurd (cc e)
resting_idle step.Rest e = absurd (cc e)
resting_idle (step.Check m) e = absurd (cc e)
resting_idle step.Ring e = absurd (cc e)
resting_idle step.Arm e = absurd (cc e)
resting_idle step.LookAgain e = absurd (cc e)
resting_idle step.Hear e = absurd (cc e)
resting_idle step.WakeArming e = absurd (cc e)
resting_idle step.WakeHearing e = absurd (cc e)
resting_idle step.Disarm e = absurd (cc e)
resting_idle step.RestLook e = absurd (cc e)

-- a fresh end is idle, and has taken and given nothing
fresh_idle : (t : DeviceStep) (m n : ℕ) → (is_idle t && ((m == 0) && (n == 0))) ≡ true → (device_begun t ≡ DeviceOp.idle) × (m ≡ 0)
    × (n ≡ 0)
fresh_idle step.Idle m n e = let both = and_both (m == 0) (n == 0) e in (refl, eqb-true m 0 both.0, eqb-true n 0 both.1)
  where
    and_both : (a b : Bool) → (a && b) ≡ true → (a ≡ true) × (b ≡ true)
    and_both true true e = (refl, refl)
    and_both true false e = absurd (cc e)
    and_both false b e = absurd (cc e)
fresh_idle step.Resting m n e = absurd (cc e)
fresh_idle step.Look m n e = absurd (cc e)
fresh_idle step.Address m n e = absurd (cc e)
fresh_idle step.Second m n e = absurd (cc e)
fresh_idle step.TableAddress m n e = absurd (cc e)
fresh_idle (step.TableSecond a) m n e = absurd (cc e)
fresh_idle (step.Give k h l) m n e = absurd (cc e)
fresh_idle step.Rest m n e = absurd (cc e)
fresh_idle (step.Check k) m n e = absurd (cc e)
fresh_idle step.Ring m n e = absurd (cc e)
fresh_idle step.Arm m n e = absurd (cc e)
fresh_idle step.LookAgain m n e = absurd (cc e)
fresh_idle step.Hear m n e = absurd (cc e)
fresh_idle step.WakeArming m n e = absurd (cc e)
fresh_idle step.WakeHearing m n e = absurd (cc e)
fresh_idle step.Disarm m n e = absurd (cc e)
fresh_idle step.RestLook m n e = absurd (cc e)

pub parts : (a b : Bool) → (a && b) ≡ true → (a ≡ true) × (b ≡ true)
parts true true e = (refl, refl)
parts true false e = absurd (cc e)
parts false b e = absurd (cc e)

pub still_idle : (e : PackedDevice) → IsStill packed_device e → device_begun e.doing ≡ DeviceOp.idle
still_idle e (inl r) = (resting_idle e.doing r).0
still_idle e (inr r) = (fresh_idle e.doing e.taken e.given
    (parts (is_idle e.doing && ((e.taken == 0) && (e.given == 0))) (not e.armed) r).0).0

pub still_unarmed : (e : PackedDevice) (v : DeviceView) → DeviceStands e v → IsStill packed_device e → e.armed ≡ false
still_unarmed e v st (inl r) = subst (λ t. DeviceStepArmed t e.armed) (resting_idle e.doing r).1 st.signals.awake
still_unarmed e v st (inr r) = turned e.armed (parts (is_idle e.doing && ((e.taken == 0) && (e.given == 0))) (not e.armed) r).1
  where
    turned : (b : Bool) → not b ≡ true → b ≡ false
    turned true h = absurd (cc h)
    turned false h = refl

pub still_whole : (e : PackedDevice) (v : DeviceView) → DeviceStands e v → IsStill packed_device e
    → (running v.done ≡ []) × (length (takes v.done) ≡ length (gives v.done)) × IsWhole v.done
still_whole e v st (inl r) =
    let n : DeviceStepStands step.Resting e.pieces.items e.second e.at v.frame v.done v.doing =
    subst (λ t. DeviceStepStands t e.pieces.items e.second e.at v.frame v.done v.doing) (resting_idle e.doing r).1 st.doing in
    (n.1, omega (arith, st.holds.once.count, ap (λ (xs : List ℕ). length xs) n.1), n.2)
still_whole e v st (inr r) =
    let n = fresh_idle e.doing e.taken e.given (parts (is_idle e.doing && ((e.taken == 0) && (e.given == 0))) (not e.armed) r).0 in
    let none : length (takes v.done) ≡ 0 = omega (arith, st.counts.takes) in (
      empty_is (running v.done) (omega (arith, st.holds.once.count)),
      omega (arith, st.holds.once.count),
      λ k h. absurd (omega (arith, st.holds.once.count)),
    )

-- the base is that of the chains taken
pub is_based : (e : PackedDevice) (v : DeviceView) → DeviceStands e v → base_word e.next ≡ base_of v.frame (takes v.done)
is_based e v st = base_at_ring_position e.next v.frame.size (take_position v.frame v.done) (omega (arith, st.made.lawful.least))
    st.made.lawful.most st.counts.next_at

pub fresh_unused : (e : PackedDevice) (v : DeviceView) → DeviceStands e v → (is_idle e.doing && ((e.taken == 0) && (e.given == 0))) ≡ true
    → takes v.done ≡ []
fresh_unused e v st r = none (takes v.done) (omega (arith, st.counts.takes, (fresh_idle e.doing e.taken e.given r).1))
  where
    none : (xs : List (List Piece)) → length xs ≡ 0 → xs ≡ []
    none [] h = refl
    none (x ∷ xs) h = absurd (omega arith)
