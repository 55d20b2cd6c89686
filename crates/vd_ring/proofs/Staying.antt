-- What stays from one access to the next: armed, asleep, awake, shown. The same for either side of a ring of any layout, by the stage
-- before the access, the operation that it belongs to, and what its loaded word shows.
use Rattle.std.proofs.Common.{◌≡◌, ◌≢◌, ◌⊎◌, ℕ, Bool, true, false, not, Option, None, Some, refl, ◌∙◌, inl, inr}
use Rattle.vd_words.specs.declared.access.Op.{Op}
use Rattle.vd_words.specs.declared.access.Op.TheVariants as op
use Rattle.vd_ring.proofs.Looking.{Stage, Told, look_of, idle, arming, disarming, busy, nothing, armed, asleep, awake, other}

-- a look of a collect or of a take, or of an arming
abbrev pub LooksNow : Bool → Stage → Op → Type 0
LooksNow d s o = ((o ≡ look_of d) × (s ≡ idle)) ⊎ ((o ≡ op.Arm) × (s ≡ arming))

-- what is claimed of an access at the stage `s` that is answered `x`, from the view `v` to `w`; `goes` says that the operation goes on or
-- has ended with Awake; armed and shown stand before the access and after it
pub record Kept {V : Type 0} (d : Bool) (s : Stage) (o : Op) (tells : Type 0) (more : Bool) (x : Told) (goes : Bool) (v w : V)
    (at at' : Option ℕ) (seen seen' : Bool) (next : Stage) : Type 0 where
  pub arms : o ≡ op.Arm → s ≡ idle → (next ≡ arming) × (t : ℕ) × (at' ≡ Some t)
  pub armed : x ≡ Told.armed → at' ≡ at
  pub asleep : x ≡ Told.asleep → w ≡ v
  pub awake : x ≡ Told.awake → at' ≡ None
  pub shown : goes ≡ true → (seen ≡ true) ⊎ LooksNow d s o → seen' ≡ true
  pub again : tells → LooksNow d s o → seen ≡ true → more ≡ true

-- an access that is no look and arms nothing
abbrev pub passes : Bool → Stage → Op → Bool
passes d idle op.Collect = not d
passes d idle op.Take = d
passes d idle op.Arm = false
passes d idle o = true
passes d arming o = false
passes d (disarming k) o = true
passes d busy o = true

-- an answer that tells none of Armed, Asleep and Awake
abbrev pub calm : Told → Bool
calm armed = false
calm asleep = false
calm awake = false
calm _ = true

not_look : (d : Bool) → passes d idle (look_of d) ≡ false
not_look true = refl
not_look false = refl

no_look : (d : Bool) (s : Stage) (o : Op) → passes d s o ≡ true → LooksNow d s o → ⊥
no_look d s o is (inl a) = cc (is, a.0, a.1, not_look d)
no_look d s o is (inr a) = let second : passes d arming op.Arm ≡ false = refl in cc (is, a.0, a.1, second)

pub quiet : {V : Type 0} (d : Bool) (s : Stage) (o : Op) (tells : Type 0) (more : Bool) (x : Told) (goes : Bool) (v w : V)
    (at at' : Option ℕ) (seen seen' : Bool) (next : Stage) → passes d s o ≡ true → calm x ≡ true → (goes ≡ true → seen' ≡ seen)
    → Kept d s o tells more x goes v w at at' seen seen' next
quiet d s o tells more x goes v w at at' seen seen' next is still same = record {
  arms = λ e f. absurd (let begins : passes d idle op.Arm ≡ false = refl in cc (is, e, f, begins));
  armed = λ e. absurd (let told : calm armed ≡ false = refl in cc (still, e, told));
  asleep = λ e. absurd (let told : calm asleep ≡ false = refl in cc (still, e, told));
  awake = λ e. absurd (let told : calm awake ≡ false = refl in cc (still, e, told));
  shown = λ g h. elim h [ inl b ↦ same g ∙ b | inr l ↦ absurd (no_look d s o is l) ];
  again = λ t l b. absurd (no_look d s o is l);
}

-- an access that is no look and by which the side wakes
pub wakes : {V : Type 0} (d : Bool) (s : Stage) (o : Op) (tells : Type 0) (more goes : Bool) (v w : V) (at : Option ℕ)
    (seen : Bool) (next : Stage) → passes d s o ≡ true → Kept d s o tells more awake goes v w at None seen seen next
wakes d s o tells more goes v w at seen next is = record {
  arms = λ e f. absurd (let begins : passes d idle op.Arm ≡ false = refl in cc (is, e, f, begins));
  armed = λ e. absurd (cc e);
  asleep = λ e. absurd (cc e);
  awake = λ e. refl;
  shown = λ g h. elim h [ inl b ↦ b | inr l ↦ absurd (no_look d s o is l) ];
  again = λ t l b. absurd (no_look d s o is l);
}

-- the first look of a collect or of a take, which shows nothing, or something
look_arms : (d : Bool) → look_of d ≢ op.Arm
look_arms true e = cc e
look_arms false e = cc e

pub finds_none : {V : Type 0} (d : Bool) (tells : Type 0) (v w : V) (at at' : Option ℕ) (seen seen' : Bool) (next : Stage)
    → (tells → seen ≡ true → false ≡ true) → Kept d idle (look_of d) tells false nothing false v w at at' seen seen' next
finds_none d tells v w at at' seen seen' next t = record {
  arms = λ e f. absurd (look_arms d e);
  armed = λ e. absurd (cc e);
  asleep = λ e. absurd (cc e);
  awake = λ e. absurd (cc e);
  shown = λ g h. absurd (cc g);
  again = λ x l b. t x b;
}

pub finds_some : {V : Type 0} (d : Bool) (tells : Type 0) (goes : Bool) (v w : V) (at at' : Option ℕ) (seen seen' : Bool) (next : Stage)
    → (goes ≡ true → seen' ≡ true) → Kept d idle (look_of d) tells true other goes v w at at' seen seen' next
finds_some d tells goes v w at at' seen seen' next now = record {
  arms = λ e f. absurd (look_arms d e);
  armed = λ e. absurd (cc e);
  asleep = λ e. absurd (cc e);
  awake = λ e. absurd (cc e);
  shown = λ g h. now g;
  again = λ x l b. refl;
}

-- the second look of an arming
pub second_none : {V : Type 0} (d : Bool) (tells : Type 0) (v w : V) (at : Option ℕ) (seen seen' : Bool) (next : Stage)
    → (tells → seen ≡ true → false ≡ true) → Kept d arming op.Arm tells false armed false v w at at seen seen' next
second_none d tells v w at seen seen' next t = record {
  arms = λ e f. absurd (cc f);
  armed = λ e. refl;
  asleep = λ e. absurd (cc e);
  awake = λ e. absurd (cc e);
  shown = λ g h. absurd (cc g);
  again = λ x l b. t x b;
}

-- it wakes the side at once, or another access ends it
pub second_wakes : {V : Type 0} (d : Bool) (tells : Type 0) (goes : Bool) (v w : V) (at : Option ℕ) (seen : Bool) (next : Stage)
    → Kept d arming op.Arm tells true awake goes v w at None seen true next
second_wakes d tells goes v w at seen next = record {
  arms = λ e f. absurd (cc f);
  armed = λ e. absurd (cc e);
  asleep = λ e. absurd (cc e);
  awake = λ e. refl;
  shown = λ g h. refl;
  again = λ x l b. refl;
}

pub second_some : {V : Type 0} (d : Bool) (tells : Type 0) (goes : Bool) (v w : V) (at at' : Option ℕ) (seen : Bool) (next : Stage)
    → Kept d arming op.Arm tells true other goes v w at at' seen true next
second_some d tells goes v w at at' seen next = record {
  arms = λ e f. absurd (cc f);
  armed = λ e. absurd (cc e);
  asleep = λ e. absurd (cc e);
  awake = λ e. absurd (cc e);
  shown = λ g h. refl;
  again = λ x l b. refl;
}

-- the store of an arming
pub arms_at : {V : Type 0} (d : Bool) (tells : Type 0) (more goes : Bool) (v w : V) (at : Option ℕ) (t : ℕ) (seen : Bool)
    → Kept d idle op.Arm tells more other goes v w at (Some t) seen seen arming
arms_at d tells more goes v w at t seen = record {
  arms = λ e f. (refl, t, refl);
  armed = λ e. absurd (cc e);
  asleep = λ e. absurd (cc e);
  awake = λ e. absurd (cc e);
  shown = λ g h. elim h [ inl b ↦ b | inr (inl a) ↦ absurd (begins a.0) | inr (inr a) ↦ absurd (cc a.1) ];
  again = λ x l b. elim l [ inl a ↦ absurd (begins a.0) | inr a ↦ absurd (cc a.1) ];
}
  where
    begins : op.Arm ≡ look_of d → ⊥
    begins e = look_arms d (cc e)

-- a look at the bell, which is the one heard last
pub hears_same : {V : Type 0} (d : Bool) (tells : Type 0) (more : Bool) (v : V) (at : Option ℕ) (seen : Bool) (next : Stage)
    → Kept d idle op.Hear tells more asleep false v v at at seen seen next
hears_same d tells more v at seen next = record {
  arms = λ e f. absurd (cc e);
  armed = λ e. absurd (cc e);
  asleep = λ e. refl;
  awake = λ e. absurd (cc e);
  shown = λ g h. absurd (cc g);
  again = λ x l b. absurd (let hears : passes d idle op.Hear ≡ true = refl in no_look d idle op.Hear hears l);
}
