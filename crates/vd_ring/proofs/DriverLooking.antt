-- A driver's answers to looks, and what stays from one access to the next, from the kinds of its stages and answers.
use Rattle.std.proofs.Common.{◌≡◌, ◌⊎◌, ℕ, ◌==◌, Bool, true, false, refl, ap, inl, inr, subst}
use Rattle.std.proofs.lemmas.Bool.{eqb-true, eqb-false}
use Rattle.vd_words.specs.declared.access.Access.{Access}
use Rattle.vd_words.specs.declared.access.Op.{Op}
use Rattle.vd_words.specs.declared.access.Op.TheVariants as op
use Rattle.vd_words.specs.Own.{SideModel}
use Rattle.vd_ring.specs.declared.act.DriverAct.{DriverAct}
use Rattle.vd_ring.specs.declared.act.DriverAct.TheVariants as act
use Rattle.vd_ring.specs.declared.driver.DriverNow.{DriverNow}
use Rattle.vd_ring.specs.declared.driver.DriverNow.TheVariants as now
use Rattle.vd_ring.specs.declared.driver.DriverView.{DriverView}
use Rattle.vd_ring.specs.Looks.{DriverLooks, DriverWakes, DriverStays, DriverGoes, DriverLooksNow}
use Rattle.vd_ring.proofs.Staying.{Kept, LooksNow}
use Rattle.vd_ring.proofs.Looking.{Stage, Told, At, Wakes, idle, arming, disarming, busy, nothing, armed, asleep, awake, other}

-- the kind of an answer, and of what is being done
abbrev pub told : DriverAct → Told
told act.Nothing = nothing
told act.Armed = armed
told act.Asleep = asleep
told act.Awake = awake
told _ = other

abbrev pub stage : DriverNow → Stage
stage now.Idle = idle
stage now.Arming = arming
stage (now.Disarming o) = disarming o
stage _ = busy

abbrev IsTold : Told → DriverAct → Type 0
IsTold nothing x = x ≡ act.Nothing
IsTold armed x = x ≡ act.Armed
IsTold asleep x = x ≡ act.Asleep
IsTold awake x = x ≡ act.Awake
IsTold other x = Unit {0}

is_told : (x : DriverAct) → IsTold (told x) x
is_told act.Nothing = refl
is_told act.Armed = refl
is_told act.Asleep = refl
is_told act.Awake = refl
is_told act.Moved = tt
is_told (act.Offered k) = tt
is_told (act.Collected k n h) = tt

abbrev IsStage : Stage → DriverNow → Type 0
IsStage idle n = n ≡ now.Idle
IsStage arming n = n ≡ now.Arming
IsStage (disarming o) n = n ≡ now.Disarming o
IsStage busy n = Unit {0}

is_stage : (n : DriverNow) → IsStage (stage n) n
is_stage now.Idle = refl
is_stage now.Arming = refl
is_stage (now.Disarming o) = refl
is_stage (now.Offering ps) = tt
is_stage (now.Entered ps) = tt
is_stage (now.Collecting ws) = tt
is_stage (now.Checking old new) = tt
is_stage (now.Ringing old new) = tt

told_as : (x : DriverAct) (t : Told) → told x ≡ t → IsTold t x
told_as x t is = subst (λ s. IsTold s x) is (is_told x)

stage_as : (n : DriverNow) (s : Stage) → stage n ≡ s → IsStage s n
stage_as n s is = subst (λ t. IsStage t n) is (is_stage n)

-- it wakes the side, in both words
wakes_to : (shows : DriverView → ℕ → Bool) (v : DriverView) (o : Op) (r : ℕ) → DriverWakes shows v r o
    → Wakes (stage v.doing) o (shows v r) (r == v.heard)
wakes_to shows v o r (inl a) = inl (a.0, ap stage a.1, a.2)
wakes_to shows v o r (inr a) = inr (a.0, ap stage a.1, differs (r == v.heard) refl)
  where
    differs : (b : Bool) → (r == v.heard) ≡ b → b ≡ false
    differs true e = absurd (a.2 (eqb-true r v.heard e))
    differs false e = refl

wakes_back : (shows : DriverView → ℕ → Bool) (v : DriverView) (o : Op) (r : ℕ)
    → Wakes (stage v.doing) o (shows v r) (r == v.heard) → DriverWakes shows v r o
wakes_back shows v o r (inl a) = inl (a.0, stage_as v.doing arming a.1, a.2)
wakes_back shows v o r (inr a) = inr (a.0, stage_as v.doing idle a.1, eqb-false r v.heard a.2)

same_bell : (r h : ℕ) → r ≡ h → (r == h) ≡ true
same_bell r h e = differs (r == h) refl
  where
    differs : (b : Bool) → (r == h) ≡ b → b ≡ true
    differs true x = refl
    differs false x = absurd (eqb-false r h x e)

-- so a side's answers to looks follow from the kinds at each access that is next
pub driver_looks_by : (side : SideModel DriverView) (act : DriverView → Op → Access → ℕ → DriverAct) (shows : DriverView → ℕ → Bool)
    → ((v : DriverView) (o : Op) (a : Access) (r : ℕ) → side.next v o a
    → At true (stage v.doing) o (shows v r) (r == v.heard) v.frame.features.event_idx (told (act v o a r))
    (stage (side.after v o a r).doing))
    → DriverLooks side act shows
driver_looks_by side act shows at = record {
  nothing = λ v o a r n. (
    λ e. let h = (at v o a r n).nothing.0 (ap told e) in (h.0, stage_as v.doing idle h.1, h.2),
    λ h. told_as (act v o a r) nothing ((at v o a r n).nothing.1 (h.0, ap stage h.1, h.2)),
  );
  armed = λ v o a r n. (
    λ e. let h = (at v o a r n).armed.0 (ap told e) in (h.0, stage_as v.doing arming h.1, h.2),
    λ h. told_as (act v o a r) armed ((at v o a r n).armed.1 (h.0, ap stage h.1, h.2)),
  );
  asleep = λ v o a r n. (
    λ e. let h = (at v o a r n).asleep.0 (ap told e) in (h.0, stage_as v.doing idle h.1, eqb-true r v.heard h.2),
    λ h. told_as (act v o a r) asleep ((at v o a r n).asleep.1 (h.0, ap stage h.1, same_bell r v.heard h.2)),
  );
  disarming = λ v o a r n. (
    λ e. let h = (at v o a r n).disarming.0 (ap stage e) in (wakes_back shows v o r h.0, h.1),
    λ h. stage_as (side.after v o a r).doing (disarming o) ((at v o a r n).disarming.1 (wakes_to shows v o r h.0, h.1)),
  );
  awake = λ v o a r n. (
    λ e. back v o r ((at v o a r n).awake.0 (ap told e)),
    λ h. told_as (act v o a r) awake ((at v o a r n).awake.1 (to v o r h)),
  );
}
  where
    back : (v : DriverView) (o : Op) (r : ℕ) → (Wakes (stage v.doing) o (shows v r) (r == v.heard)
        × (v.frame.features.event_idx ≡ true)) ⊎ (stage v.doing ≡ disarming o) ⊎ (o ≡ op.Disarm)
        → (DriverWakes shows v r o × (v.frame.features.event_idx ≡ true)) ⊎ (v.doing ≡ now.Disarming o) ⊎ (o ≡ op.Disarm)
    back v o r (inl a) = inl (wakes_back shows v o r a.0, a.1)
    back v o r (inr (inl b)) = inr (inl (stage_as v.doing (disarming o) b))
    back v o r (inr (inr c)) = inr (inr c)

    to : (v : DriverView) (o : Op) (r : ℕ)
        → (DriverWakes shows v r o × (v.frame.features.event_idx ≡ true)) ⊎ (v.doing ≡ now.Disarming o) ⊎ (o ≡ op.Disarm)
        → (Wakes (stage v.doing) o (shows v r) (r == v.heard)
        × (v.frame.features.event_idx ≡ true)) ⊎ (stage v.doing ≡ disarming o) ⊎ (o ≡ op.Disarm)
    to v o r (inl a) = inl (wakes_to shows v o r a.0, a.1)
    to v o r (inr (inl b)) = inr (inl (ap stage b))
    to v o r (inr (inr c)) = inr (inr c)

-- ---- what stays

-- the operation goes on, or has ended with Awake
abbrev pub goes : DriverAct → Bool
goes act.Moved = true
goes act.Awake = true
goes _ = false

goes_on_by : (x : DriverAct) → DriverGoes x → goes x ≡ true
goes_on_by act.Moved g = refl
goes_on_by act.Awake g = refl
goes_on_by _ g = absurd g

look_to : (v : DriverView) (o : Op) → DriverLooksNow v o → LooksNow true (stage v.doing) o
look_to v o (inl a) = inl (a.0, ap stage a.1)
look_to v o (inr a) = inr (a.0, ap stage a.1)

pub driver_stays_by : (side : SideModel DriverView) (act : DriverView → Op → Access → ℕ → DriverAct) (shows : DriverView → ℕ → Bool)
    → ((v : DriverView) (o : Op) (a : Access) (r : ℕ) → side.next v o a
    → Kept true (stage v.doing) o (side.tells v o a r) (shows v r) (told (act v o a r)) (goes (act v o a r)) v (side.after v o a r)
    v.armed (side.after v o a r).armed v.shown (side.after v o a r).shown (stage (side.after v o a r).doing))
    → DriverStays side act shows
driver_stays_by side act shows at = record {
  arms = λ v o a r n e f. let h = (at v o a r n).arms e (ap stage f) in
      (stage_as (side.after v o a r).doing arming h.0, h.1, h.2);
  armed = λ v o a r n e. (at v o a r n).armed (ap told e);
  asleep = λ v o a r n e. (at v o a r n).asleep (ap told e);
  awake = λ v o a r n e. (at v o a r n).awake (ap told e);
  shown = λ v o a r n g h. (at v o a r n).shown (goes_on_by (act v o a r) g) (elim h [ inl b ↦ inl b | inr l ↦ inr (look_to v o l) ]);
  again = λ v o a r n t l b. (at v o a r n).again t (look_to v o l) b;
}
