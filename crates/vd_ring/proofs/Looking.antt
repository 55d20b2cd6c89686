-- When an access is answered Nothing, Armed, Asleep or Awake: the same for either side of a ring of any layout, by the stage before the
-- access, the operation that it belongs to, and what its loaded word shows.
use Rattle.std.proofs.Common.{◌≡◌, ◌≢◌, ◌⊎◌, ◌↔◌, Bool, true, false, not, if◌then◌else◌, refl, inl, inr}
use Rattle.vd_words.specs.declared.access.Op.{Op}
use Rattle.vd_words.specs.declared.access.Op.TheVariants as op

-- how far an operation is, as far as looks are concerned
pub data Stage : Type 0 where
  idle : Stage
  arming : Stage
  disarming : Op → Stage
  busy : Stage

-- what an answer tells of a look
pub data Told : Type 0 where
  nothing : Told
  armed : Told
  asleep : Told
  awake : Told
  other : Told

-- the operation whose first access is a look: a driver's collect, a device's take
abbrev pub look_of : Bool → Op
look_of d = if d then op.Collect else op.Take

-- it wakes the side, where `more` says whether the loaded word shows more, and `same` whether it is the bell heard last
abbrev pub Wakes : Stage → Op → Bool → Bool → Type 0
Wakes s o more same = ((o ≡ op.Arm) × (s ≡ arming) × (more ≡ true)) ⊎ ((o ≡ op.Hear) × (s ≡ idle) × (same ≡ false))

-- what is claimed of an access at the stage `s` that is answered `x` and leaves the stage `next`; `idx` is EVENT_IDX
pub record At (d : Bool) (s : Stage) (o : Op) (more same idx : Bool) (x : Told) (next : Stage) : Type 0 where
  pub nothing : (x ≡ Told.nothing) ↔ ((o ≡ look_of d) × (s ≡ idle) × (more ≡ false))
  pub armed : (x ≡ Told.armed) ↔ ((o ≡ op.Arm) × (s ≡ arming) × (more ≡ false))
  pub asleep : (x ≡ Told.asleep) ↔ ((o ≡ op.Hear) × (s ≡ idle) × (same ≡ true))
  pub disarming : (next ≡ Stage.disarming o) ↔ (Wakes s o more same × (idx ≡ false))
  pub awake : (x ≡ Told.awake) ↔ ((Wakes s o more same × (idx ≡ true)) ⊎ (s ≡ Stage.disarming o) ⊎ (o ≡ op.Disarm))

-- an access that is no look, and none of a hearing or of a disarming
abbrev pub is_quiet : Bool → Stage → Op → Bool
is_quiet d busy op.Disarm = false
is_quiet d busy o = true
is_quiet d arming op.Arm = false
is_quiet d arming op.Disarm = false
is_quiet d arming o = true
is_quiet d idle op.Collect = not d
is_quiet d idle op.Take = d
is_quiet d idle op.Hear = false
is_quiet d idle op.Disarm = false
is_quiet d idle o = true
is_quiet d (disarming k) o = false

-- an operation that waits for no disarming store
abbrev pub goes_on : Stage → Bool
goes_on (disarming k) = false
goes_on _ = true

not_look : (d : Bool) → is_quiet d idle (look_of d) ≡ false
not_look true = refl
not_look false = refl

not_disarm : (d : Bool) (s : Stage) → is_quiet d s op.Disarm ≡ false
not_disarm d idle = refl
not_disarm d arming = refl
not_disarm d (disarming k) = refl
not_disarm d busy = refl

quiet_sleeps : (d : Bool) (s : Stage) (o : Op) (more same : Bool) → is_quiet d s o ≡ true → Wakes s o more same → ⊥
quiet_sleeps d s o more same is (inl a) =
    let arm : is_quiet d arming op.Arm ≡ false = refl in cc (is, a.0, a.1, arm)
quiet_sleeps d s o more same is (inr a) =
    let hear : is_quiet d idle op.Hear ≡ false = refl in cc (is, a.0, a.1, hear)

pub quiet : (d : Bool) (s : Stage) (o : Op) (more same idx : Bool) (next : Stage) → is_quiet d s o ≡ true → goes_on next ≡ true
    → At d s o more same idx other next
quiet d s o more same idx next is goes = record {
  nothing = (λ e. absurd (cc e), λ h. absurd (cc (is, h.0, h.1, not_look d)));
  armed = (λ e. absurd (cc e), λ h. absurd (let arm : is_quiet d arming op.Arm ≡ false = refl in cc (is, h.0, h.1, arm)));
  asleep = (λ e. absurd (cc e), λ h. absurd (let hear : is_quiet d idle op.Hear ≡ false = refl in cc (is, h.0, h.1, hear)));
  disarming = (
    λ e. absurd (let off : goes_on (disarming o) ≡ false = refl in cc (goes, e, off)),
    λ h. absurd (quiet_sleeps d s o more same is h.0),
  );
  awake = (λ e. absurd (cc e), λ h. absurd (none h));
}
  where
    none : (Wakes s o more same × (idx ≡ true)) ⊎ (s ≡ disarming o) ⊎ (o ≡ op.Disarm) → ⊥
    none (inl a) = quiet_sleeps d s o more same is a.0
    none (inr (inl b)) = let off : is_quiet d (disarming o) o ≡ false = refl in cc (is, b, off)
    none (inr (inr c)) = cc (is, c, not_disarm d s)

-- ---- the looks

look_hears : (d : Bool) → look_of d ≢ op.Hear
look_hears true e = cc e
look_hears false e = cc e

look_arms : (d : Bool) → look_of d ≢ op.Arm
look_arms true e = cc e
look_arms false e = cc e

look_disarms : (d : Bool) → look_of d ≢ op.Disarm
look_disarms true e = cc e
look_disarms false e = cc e

look_wakes : (d more same : Bool) → Wakes idle (look_of d) more same → ⊥
look_wakes d more same (inl a) = look_arms d a.0
look_wakes d more same (inr a) = look_hears d a.0

look_awake : (d more same idx : Bool)
    → (Wakes idle (look_of d) more same × (idx ≡ true)) ⊎ (idle ≡ disarming (look_of d)) ⊎ (look_of d ≡ op.Disarm) → ⊥
look_awake d more same idx (inl a) = look_wakes d more same a.0
look_awake d more same idx (inr (inl b)) = cc b
look_awake d more same idx (inr (inr c)) = look_disarms d c

-- the first look shows nothing
pub finds_none : (d same idx : Bool) → At d idle (look_of d) false same idx nothing idle
finds_none d same idx = record {
  nothing = (λ e. (refl, refl, refl), λ h. refl);
  armed = (λ e. absurd (cc e), λ h. absurd (look_arms d h.0));
  asleep = (λ e. absurd (cc e), λ h. absurd (look_hears d h.0));
  disarming = (λ e. absurd (cc e), λ h. absurd (look_wakes d false same h.0));
  awake = (λ e. absurd (cc e), λ h. absurd (look_awake d false same idx h));
}

-- it shows something
pub finds_some : (d same idx : Bool) (next : Stage) → goes_on next ≡ true → At d idle (look_of d) true same idx other next
finds_some d same idx next goes = record {
  nothing = (λ e. absurd (cc e), λ h. absurd (cc h.2));
  armed = (λ e. absurd (cc e), λ h. absurd (look_arms d h.0));
  asleep = (λ e. absurd (cc e), λ h. absurd (look_hears d h.0));
  disarming = (
    λ e. absurd (let off : goes_on (disarming (look_of d)) ≡ false = refl in cc (goes, e, off)),
    λ h. absurd (look_wakes d true same h.0),
  );
  awake = (λ e. absurd (cc e), λ h. absurd (look_awake d true same idx h));
}

-- what wakes the side: with EVENT_IDX it is awake at once, else after a disarming store
abbrev pub woken : Bool → Told
woken idx = if idx then awake else other

abbrev pub waking : Bool → Op → Stage
waking idx o = if idx then idle else disarming o

arms_look : (d : Bool) → op.Arm ≢ look_of d
arms_look true e = cc e
arms_look false e = cc e

hears_look : (d : Bool) → op.Hear ≢ look_of d
hears_look true e = cc e
hears_look false e = cc e

disarms_look : (d : Bool) → op.Disarm ≢ look_of d
disarms_look true e = cc e
disarms_look false e = cc e

-- the second look of an arming
pub second_none : (d same idx : Bool) → At d arming op.Arm false same idx armed idle
second_none d same idx = record {
  nothing = (λ e. absurd (cc e), λ h. absurd (cc h.1));
  armed = (λ e. (refl, refl, refl), λ h. refl);
  asleep = (λ e. absurd (cc e), λ h. absurd (cc h.1));
  disarming = (λ e. absurd (cc e), λ h. absurd (sleeps h.0));
  awake = (λ e. absurd (cc e), λ h. absurd (none h));
}
  where
    sleeps : Wakes arming op.Arm false same → ⊥
    sleeps (inl a) = cc a.2
    sleeps (inr b) = cc b.0

    none : (Wakes arming op.Arm false same × (idx ≡ true)) ⊎ (arming ≡ disarming op.Arm) ⊎ (op.Arm ≡ op.Disarm) → ⊥
    none (inl a) = sleeps a.0
    none (inr (inl b)) = cc b
    none (inr (inr c)) = cc c

pub second_some : (d same idx : Bool) → At d arming op.Arm true same idx (woken idx) (waking idx op.Arm)
second_some d same true = record {
  nothing = (λ e. absurd (cc e), λ h. absurd (cc h.1));
  armed = (λ e. absurd (cc e), λ h. absurd (cc h.2));
  asleep = (λ e. absurd (cc e), λ h. absurd (cc h.1));
  disarming = (λ e. absurd (cc e), λ h. absurd (cc h.1));
  awake = (λ e. inl (inl (refl, refl, refl), refl), λ h. refl);
}
second_some d same false = record {
  nothing = (λ e. absurd (cc e), λ h. absurd (cc h.1));
  armed = (λ e. absurd (cc e), λ h. absurd (cc h.2));
  asleep = (λ e. absurd (cc e), λ h. absurd (cc h.1));
  disarming = (λ e. (inl (refl, refl, refl), refl), λ h. refl);
  awake = (λ e. absurd (cc e), λ h. absurd (none h));
}
  where
    none : (Wakes arming op.Arm true same × (false ≡ true)) ⊎ (arming ≡ disarming op.Arm) ⊎ (op.Arm ≡ op.Disarm) → ⊥
    none (inl a) = cc a.1
    none (inr (inl b)) = cc b
    none (inr (inr c)) = cc c

-- the load of the other side's bell
pub hears_same : (d more idx : Bool) → At d idle op.Hear more true idx asleep idle
hears_same d more idx = record {
  nothing = (λ e. absurd (cc e), λ h. absurd (hears_look d h.0));
  armed = (λ e. absurd (cc e), λ h. absurd (cc h.1));
  asleep = (λ e. (refl, refl, refl), λ h. refl);
  disarming = (λ e. absurd (cc e), λ h. absurd (sleeps h.0));
  awake = (λ e. absurd (cc e), λ h. absurd (none h));
}
  where
    sleeps : Wakes idle op.Hear more true → ⊥
    sleeps (inl a) = cc a.0
    sleeps (inr b) = cc b.2

    none : (Wakes idle op.Hear more true × (idx ≡ true)) ⊎ (idle ≡ disarming op.Hear) ⊎ (op.Hear ≡ op.Disarm) → ⊥
    none (inl a) = sleeps a.0
    none (inr (inl b)) = cc b
    none (inr (inr c)) = cc c

pub hears_new : (d more idx : Bool) → At d idle op.Hear more false idx (woken idx) (waking idx op.Hear)
hears_new d more true = record {
  nothing = (λ e. absurd (cc e), λ h. absurd (hears_look d h.0));
  armed = (λ e. absurd (cc e), λ h. absurd (cc h.1));
  asleep = (λ e. absurd (cc e), λ h. absurd (cc h.2));
  disarming = (λ e. absurd (cc e), λ h. absurd (cc h.1));
  awake = (λ e. inl (inr (refl, refl, refl), refl), λ h. refl);
}
hears_new d more false = record {
  nothing = (λ e. absurd (cc e), λ h. absurd (hears_look d h.0));
  armed = (λ e. absurd (cc e), λ h. absurd (cc h.1));
  asleep = (λ e. absurd (cc e), λ h. absurd (cc h.2));
  disarming = (λ e. (inr (refl, refl, refl), refl), λ h. refl);
  awake = (λ e. absurd (cc e), λ h. absurd (none h));
}
  where
    none : (Wakes idle op.Hear more false × (false ≡ true)) ⊎ (idle ≡ disarming op.Hear) ⊎ (op.Hear ≡ op.Disarm) → ⊥
    none (inl a) = cc a.1
    none (inr (inl b)) = cc b
    none (inr (inr c)) = cc c

-- the disarming store that an arming or a hearing ends with
pub wakes : (d : Bool) (k o : Op) (more same idx : Bool) → k ≡ o → At d (disarming k) o more same idx awake idle
wakes d k o more same idx is = record {
  nothing = (λ e. absurd (cc e), λ h. absurd (cc h.1));
  armed = (λ e. absurd (cc e), λ h. absurd (cc h.1));
  asleep = (λ e. absurd (cc e), λ h. absurd (cc h.1));
  disarming = (λ e. absurd (cc e), λ h. absurd (sleeps h.0));
  awake = (λ e. inr (inl (cc is)), λ h. refl);
}
  where
    sleeps : Wakes (disarming k) o more same → ⊥
    sleeps (inl a) = cc a.1
    sleeps (inr b) = cc b.1

-- a disarming alone
pub disarms : (d more same idx : Bool) → At d idle op.Disarm more same idx awake idle
disarms d more same idx = record {
  nothing = (λ e. absurd (cc e), λ h. absurd (disarms_look d h.0));
  armed = (λ e. absurd (cc e), λ h. absurd (cc h.0));
  asleep = (λ e. absurd (cc e), λ h. absurd (cc h.0));
  disarming = (λ e. absurd (cc e), λ h. absurd (sleeps h.0));
  awake = (λ e. inr (inr refl), λ h. refl);
}
  where
    sleeps : Wakes idle op.Disarm more same → ⊥
    sleeps (inl a) = cc a.0
    sleeps (inr b) = cc b.0
