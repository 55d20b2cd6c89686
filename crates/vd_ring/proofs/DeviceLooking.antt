-- A device's answers to looks, and what stays from one access to the next, from the kinds of its stages and answers.
use Rattle.std.proofs.Common.{◌≡◌, ◌⊎◌, ℕ, ◌==◌, Bool, true, false, refl, ap, inl, inr, subst}
use Rattle.std.proofs.lemmas.Bool.{eqb-true, eqb-false}
use Rattle.vd_words.specs.declared.access.Access.{Access}
use Rattle.vd_words.specs.declared.access.Op.{Op}
use Rattle.vd_words.specs.declared.access.Op.TheVariants as op
use Rattle.vd_words.specs.Own.{SideModel}
use Rattle.vd_ring.specs.declared.act.DeviceAct.{DeviceAct}
use Rattle.vd_ring.specs.declared.act.DeviceAct.TheVariants as act
use Rattle.vd_ring.specs.declared.device.DeviceNow.{DeviceNow}
use Rattle.vd_ring.specs.declared.device.DeviceNow.TheVariants as now
use Rattle.vd_ring.specs.declared.device.DeviceView.{DeviceView}
use Rattle.vd_ring.specs.Looks.{DeviceLooks, DeviceWakes, DeviceStays, DeviceGoes, DeviceLooksNow}
use Rattle.vd_ring.proofs.Staying.{Kept, LooksNow}
use Rattle.vd_ring.proofs.Looking.{Stage, Told, At, Wakes, idle, arming, disarming, busy, nothing, armed, asleep, awake, other}

-- the kind of an answer, and of what is being done
abbrev pub told : DeviceAct → Told
told act.Nothing = nothing
told act.Armed = armed
told act.Asleep = asleep
told act.Awake = awake
told _ = other

abbrev pub stage : DeviceNow → Stage
stage now.Idle = idle
stage now.Arming = arming
stage (now.Disarming o) = disarming o
stage _ = busy

abbrev IsTold : Told → DeviceAct → Type 0
IsTold nothing x = x ≡ act.Nothing
IsTold armed x = x ≡ act.Armed
IsTold asleep x = x ≡ act.Asleep
IsTold awake x = x ≡ act.Awake
IsTold other x = Unit {0}

is_told : (x : DeviceAct) → IsTold (told x) x
is_told act.Nothing = refl
is_told act.Armed = refl
is_told act.Asleep = refl
is_told act.Awake = refl
is_told act.Moved = tt
is_told (act.Taken k c) = tt
is_told (act.Given k) = tt
is_told act.Rested = tt

abbrev IsStage : Stage → DeviceNow → Type 0
IsStage idle n = n ≡ now.Idle
IsStage arming n = n ≡ now.Arming
IsStage (disarming o) n = n ≡ now.Disarming o
IsStage busy n = Unit {0}

is_stage : (n : DeviceNow) → IsStage (stage n) n
is_stage now.Idle = refl
is_stage now.Arming = refl
is_stage (now.Disarming o) = refl
is_stage (now.Taking ws) = tt
is_stage (now.Giving ws) = tt
is_stage (now.Checking old new) = tt
is_stage (now.Ringing old new) = tt
is_stage now.Resting = tt

told_as : (x : DeviceAct) (t : Told) → told x ≡ t → IsTold t x
told_as x t is = subst (λ s. IsTold s x) is (is_told x)

stage_as : (n : DeviceNow) (s : Stage) → stage n ≡ s → IsStage s n
stage_as n s is = subst (λ t. IsStage t n) is (is_stage n)

-- it wakes the side, in both words
wakes_to : (shows : DeviceView → ℕ → Bool) (w : DeviceView) (o : Op) (r : ℕ) → DeviceWakes shows w r o
    → Wakes (stage w.doing) o (shows w r) (r == w.heard)
wakes_to shows w o r (inl a) = inl (a.0, ap stage a.1, a.2)
wakes_to shows w o r (inr a) = inr (a.0, ap stage a.1, differs (r == w.heard) refl)
  where
    differs : (b : Bool) → (r == w.heard) ≡ b → b ≡ false
    differs true e = absurd (a.2 (eqb-true r w.heard e))
    differs false e = refl

wakes_back : (shows : DeviceView → ℕ → Bool) (w : DeviceView) (o : Op) (r : ℕ)
    → Wakes (stage w.doing) o (shows w r) (r == w.heard) → DeviceWakes shows w r o
wakes_back shows w o r (inl a) = inl (a.0, stage_as w.doing arming a.1, a.2)
wakes_back shows w o r (inr a) = inr (a.0, stage_as w.doing idle a.1, eqb-false r w.heard a.2)

same_bell : (r h : ℕ) → r ≡ h → (r == h) ≡ true
same_bell r h e = differs (r == h) refl
  where
    differs : (b : Bool) → (r == h) ≡ b → b ≡ true
    differs true x = refl
    differs false x = absurd (eqb-false r h x e)

-- so a side's answers to looks follow from the kinds at each access that is next
pub device_looks_by : (side : SideModel DeviceView) (act : DeviceView → Op → Access → ℕ → DeviceAct) (shows : DeviceView → ℕ → Bool)
    → ((w : DeviceView) (o : Op) (a : Access) (r : ℕ) → side.next w o a
    → At false (stage w.doing) o (shows w r) (r == w.heard) w.frame.features.event_idx (told (act w o a r))
    (stage (side.after w o a r).doing))
    → DeviceLooks side act shows
device_looks_by side act shows at = record {
  nothing = λ w o a r n. (
    λ e. let h = (at w o a r n).nothing.0 (ap told e) in (h.0, stage_as w.doing idle h.1, h.2),
    λ h. told_as (act w o a r) nothing ((at w o a r n).nothing.1 (h.0, ap stage h.1, h.2)),
  );
  armed = λ w o a r n. (
    λ e. let h = (at w o a r n).armed.0 (ap told e) in (h.0, stage_as w.doing arming h.1, h.2),
    λ h. told_as (act w o a r) armed ((at w o a r n).armed.1 (h.0, ap stage h.1, h.2)),
  );
  asleep = λ w o a r n. (
    λ e. let h = (at w o a r n).asleep.0 (ap told e) in (h.0, stage_as w.doing idle h.1, eqb-true r w.heard h.2),
    λ h. told_as (act w o a r) asleep ((at w o a r n).asleep.1 (h.0, ap stage h.1, same_bell r w.heard h.2)),
  );
  disarming = λ w o a r n. (
    λ e. let h = (at w o a r n).disarming.0 (ap stage e) in (wakes_back shows w o r h.0, h.1),
    λ h. stage_as (side.after w o a r).doing (disarming o) ((at w o a r n).disarming.1 (wakes_to shows w o r h.0, h.1)),
  );
  awake = λ w o a r n. (
    λ e. back w o r ((at w o a r n).awake.0 (ap told e)),
    λ h. told_as (act w o a r) awake ((at w o a r n).awake.1 (to w o r h)),
  );
}
  where
    back : (w : DeviceView) (o : Op) (r : ℕ) → (Wakes (stage w.doing) o (shows w r) (r == w.heard)
        × (w.frame.features.event_idx ≡ true)) ⊎ (stage w.doing ≡ disarming o) ⊎ (o ≡ op.Disarm)
        → (DeviceWakes shows w r o × (w.frame.features.event_idx ≡ true)) ⊎ (w.doing ≡ now.Disarming o) ⊎ (o ≡ op.Disarm)
    back w o r (inl a) = inl (wakes_back shows w o r a.0, a.1)
    back w o r (inr (inl b)) = inr (inl (stage_as w.doing (disarming o) b))
    back w o r (inr (inr c)) = inr (inr c)

    to : (w : DeviceView) (o : Op) (r : ℕ)
        → (DeviceWakes shows w r o × (w.frame.features.event_idx ≡ true)) ⊎ (w.doing ≡ now.Disarming o) ⊎ (o ≡ op.Disarm)
        → (Wakes (stage w.doing) o (shows w r) (r == w.heard)
        × (w.frame.features.event_idx ≡ true)) ⊎ (stage w.doing ≡ disarming o) ⊎ (o ≡ op.Disarm)
    to w o r (inl a) = inl (wakes_to shows w o r a.0, a.1)
    to w o r (inr (inl b)) = inr (inl (ap stage b))
    to w o r (inr (inr c)) = inr (inr c)

-- ---- what stays

-- the operation goes on, or has ended with Awake
abbrev pub goes : DeviceAct → Bool
goes act.Moved = true
goes act.Awake = true
goes _ = false

goes_on_by : (x : DeviceAct) → DeviceGoes x → goes x ≡ true
goes_on_by act.Moved g = refl
goes_on_by act.Awake g = refl
goes_on_by _ g = absurd g

look_to : (w : DeviceView) (o : Op) → DeviceLooksNow w o → LooksNow false (stage w.doing) o
look_to w o (inl a) = inl (a.0, ap stage a.1)
look_to w o (inr a) = inr (a.0, ap stage a.1)

pub device_stays_by : (side : SideModel DeviceView) (act : DeviceView → Op → Access → ℕ → DeviceAct) (shows : DeviceView → ℕ → Bool)
    → ((w : DeviceView) (o : Op) (a : Access) (r : ℕ) → side.next w o a
    → Kept false (stage w.doing) o (side.tells w o a r) (shows w r) (told (act w o a r)) (goes (act w o a r)) w (side.after w o a r)
    w.armed (side.after w o a r).armed w.shown (side.after w o a r).shown (stage (side.after w o a r).doing))
    → DeviceStays side act shows
device_stays_by side act shows at = record {
  arms = λ w o a r n e f. let h = (at w o a r n).arms e (ap stage f) in
      (stage_as (side.after w o a r).doing arming h.0, h.1, h.2);
  armed = λ w o a r n e. (at w o a r n).armed (ap told e);
  asleep = λ w o a r n e. (at w o a r n).asleep (ap told e);
  awake = λ w o a r n e. (at w o a r n).awake (ap told e);
  shown = λ w o a r n g h. (at w o a r n).shown (goes_on_by (act w o a r) g) (elim h [ inl b ↦ inl b | inr l ↦ inr (look_to w o l) ]);
  again = λ w o a r n t l b. (at w o a r n).again t (look_to w o l) b;
}
