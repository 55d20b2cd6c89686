-- The stage of a model device over an operation of its end, and what it owes.
use Rattle.std.proofs.Common.{◌≡◌, ◌≢◌, ◌⊎◌, ℕ, ◌+◌, ◌<◌, ◌≤◌, ◌==◌, ◌||◌, Bool, true, false, Option, Some, None, List, [], refl, sym, subst, arith, inl, inr}
use Rattle.std.proofs.lemmas.Bool.{cases_eq, eq-eqb, ne_eqb}
use Rattle.vd_words.specs.declared.access.Op.{Op}
use Rattle.vd_words.specs.declared.access.Op.TheVariants as op
use Rattle.vd_ring.specs.declared.device.DeviceNow.{DeviceNow}
use Rattle.vd_ring.specs.declared.device.DeviceNow.TheVariants as now
use Rattle.vd_layout.specs.Begun.{DeviceOp, DevicePublished, DeviceGoesOn, DeviceMayWake, IsDeviceOp}
use Rattle.vd_models.specs.declared.window.Held.{Held}
use Rattle.vd_models.specs.declared.serving.Stage.{Stage}
use Rattle.vd_models.specs.declared.serving.Stage.TheVariants as stage
use Rattle.vd_models.specs.Holding.{next_held}
use Rattle.vd_models.specs.Stages.{StageIs, HasWindow, ArmedIs, OpIs, is_done, idle_owes, hear_owes, take_owes, owes, woken_stage}

-- ---- the stage by the operation that was begun

module _ (io : Bool) (hs : List Held) (n all : ℕ) where
  pub at_take : (st : Stage) → StageIs st DeviceOp.take io hs n all → (st ≡ stage.Taking) × (n < all)
  at_take stage.Taking h = (refl, h)
  at_take stage.Giving h = absurd h
  at_take stage.Arming h = absurd h
  at_take stage.Hearing h = absurd h
  at_take stage.Done h = absurd h

  pub at_give : (k len : ℕ) (st : Stage) → StageIs st (DeviceOp.give k len) io hs n all
      → (st ≡ stage.Giving) × (next_held io hs ≡ Some (record { number = k; len = len }))
  at_give k len stage.Giving h = (refl, h)
  at_give k len stage.Taking h = absurd h
  at_give k len stage.Arming h = absurd h
  at_give k len stage.Hearing h = absurd h
  at_give k len stage.Done h = absurd h

  pub at_rest : (st : Stage) → StageIs st DeviceOp.rest io hs n all → (st ≡ stage.Taking) × (hs ≡ []) × (n ≡ all)
  at_rest stage.Taking h = (refl, h.0, h.1)
  at_rest stage.Giving h = absurd h
  at_rest stage.Arming h = absurd h
  at_rest stage.Hearing h = absurd h
  at_rest stage.Done h = absurd h

  pub at_arm : (st : Stage) → StageIs st DeviceOp.arm io hs n all → (st ≡ stage.Arming) × (hs ≡ []) × (n < all)
  at_arm stage.Arming h = (refl, h.0, h.1)
  at_arm stage.Taking h = absurd h
  at_arm stage.Giving h = absurd h
  at_arm stage.Hearing h = absurd h
  at_arm stage.Done h = absurd h

  pub at_hear : (st : Stage) → StageIs st DeviceOp.hear io hs n all → (st ≡ stage.Hearing) × (hs ≡ []) × (n < all)
  at_hear stage.Hearing h = (refl, h.0, h.1)
  at_hear stage.Taking h = absurd h
  at_hear stage.Giving h = absurd h
  at_hear stage.Arming h = absurd h
  at_hear stage.Done h = absurd h

  pub at_disarm : (st : Stage) → StageIs st DeviceOp.disarm io hs n all → ⊥
  at_disarm stage.Hearing h = h
  at_disarm stage.Taking h = h
  at_disarm stage.Giving h = h
  at_disarm stage.Arming h = h
  at_disarm stage.Done h = h

  published_at : (st : Stage) → StageIs st DeviceOp.signal io hs n all → StageIs st DeviceOp.idle io hs n all
  published_at stage.Taking h = h
  published_at stage.Giving h = h
  published_at stage.Arming h = absurd h
  published_at stage.Hearing h = absurd h
  published_at stage.Done h = absurd h

  -- what stays at the stage over an access that ends no operation but a signal
  pub goes_on : (st : Stage) (b b' : DeviceOp) → DeviceGoesOn b b' → StageIs st b io hs n all → StageIs st b' io hs n all
  goes_on st DeviceOp.signal b' (inl e) h = subst (λ o. StageIs st o io hs n all) (sym e) (published_at st h)
  goes_on st DeviceOp.signal b' (inr e) h = subst (λ o. StageIs st o io hs n all) (sym e) h
  goes_on st DeviceOp.idle b' g h = subst (λ o. StageIs st o io hs n all) (sym g) h
  goes_on st DeviceOp.take b' g h = subst (λ o. StageIs st o io hs n all) (sym g) h
  goes_on st DeviceOp.rest b' g h = subst (λ o. StageIs st o io hs n all) (sym g) h
  goes_on st (DeviceOp.give k l) b' g h = subst (λ o. StageIs st o io hs n all) (sym g) h
  goes_on st DeviceOp.arm b' g h = subst (λ o. StageIs st o io hs n all) (sym g) h
  goes_on st DeviceOp.hear b' g h = subst (λ o. StageIs st o io hs n all) (sym g) h
  goes_on st DeviceOp.disarm b' g h = subst (λ o. StageIs st o io hs n all) (sym g) h

  -- it wakes only from an arming or a hearing
  pub wakes_at : (st : Stage) (b : DeviceOp) → DeviceMayWake b → StageIs st b io hs n all
      → (((b ≡ DeviceOp.arm) × (st ≡ stage.Arming)) ⊎ ((b ≡ DeviceOp.hear) × (st ≡ stage.Hearing))) × (hs ≡ []) × (n < all)
  wakes_at st DeviceOp.arm m h = let a = at_arm st h in (inl (refl, a.0), a.1, a.2)
  wakes_at st DeviceOp.hear m h = let a = at_hear st h in (inr (refl, a.0), a.1, a.2)
  wakes_at st DeviceOp.disarm m h = absurd (at_disarm st h)
  wakes_at st DeviceOp.idle m h = absurd m
  wakes_at st DeviceOp.signal m h = absurd m
  wakes_at st DeviceOp.take m h = absurd m
  wakes_at st DeviceOp.rest m h = absurd m
  wakes_at st (DeviceOp.give k l) m h = absurd m

-- ---- armed

-- while it takes, gives or rests it is not armed, and the access is of no arming
pub record IsUnarming (o : Op) (armed : Option ℕ) : Type 0 where
  pub other : o ≢ op.Arm
  pub none : armed ≡ None

pub unarming : (st : Stage) (b : DeviceOp) (d : DeviceNow) (io : Bool) (hs : List Held) (n all : ℕ) (o : Op) (armed : Option ℕ)
    → b ≢ DeviceOp.arm
    → b ≢ DeviceOp.hear → StageIs st b io hs n all → IsDeviceOp b o → ArmedIs st b d armed → IsUnarming o armed
unarming st DeviceOp.take d io hs n all o armed x y h of a = record {
  other = λ z. cc (of, z);
  none = subst (λ
      (s : Stage). ArmedIs s DeviceOp.take d armed) (at_take io hs n all st h).0 a;
}
unarming st DeviceOp.rest d io hs n all o armed x y h of a = record {
  other = λ z. cc (of, z);
  none = subst (λ
      (s : Stage). ArmedIs s DeviceOp.rest d armed) (at_rest io hs n all st h).0 a;
}
unarming st (DeviceOp.give k l) d io hs n all o armed x y h of a = record {
  other = λ z. cc (of, z);
  none = subst
      (λ (s : Stage). ArmedIs s (DeviceOp.give k l) d armed) (at_give io hs n all k l st h).0 a;
}
unarming st DeviceOp.signal d io hs n all o armed x y h of a = record { other = λ z. cc (of, z); none = at st h a }
  where
    at : (s : Stage) → StageIs s DeviceOp.signal io hs n all → ArmedIs s DeviceOp.signal d armed → armed ≡ None
    at stage.Taking h a = a
    at stage.Giving h a = a
    at stage.Arming h a = a
    at stage.Hearing h a = absurd h
    at stage.Done h a = a
unarming st DeviceOp.disarm d io hs n all o armed x y h of a = absurd (at_disarm io hs n all st h)
unarming st DeviceOp.arm d io hs n all o armed x y h of a = absurd (x refl)
unarming st DeviceOp.hear d io hs n all o armed x y h of a = absurd (y refl)
unarming st DeviceOp.idle d io hs n all o armed x y h of a = absurd of

-- an end that isn't armed, at a stage that takes, gives or has ended
pub armed_none : (st : Stage) (b : DeviceOp) (d : DeviceNow) (armed : Option ℕ) → st ≢ stage.Hearing → b ≢ DeviceOp.arm → armed ≡ None
    → ArmedIs st b d armed
armed_none stage.Taking b d armed x y none = none
armed_none stage.Giving b d armed x y none = none
armed_none stage.Done b d armed x y none = none
armed_none stage.Hearing b d armed x y none = absurd (x refl)
armed_none stage.Arming DeviceOp.arm d armed x y none = absurd (y refl)
armed_none stage.Arming DeviceOp.idle d armed x y none = none
armed_none stage.Arming DeviceOp.signal d armed x y none = none
armed_none stage.Arming DeviceOp.take d armed x y none = none
armed_none stage.Arming (DeviceOp.give k l) d armed x y none = none
armed_none stage.Arming DeviceOp.rest d armed x y none = none
armed_none stage.Arming DeviceOp.hear d armed x y none = none
armed_none stage.Arming DeviceOp.disarm d armed x y none = none

-- ---- what it owes

pub idle_small : (st : Stage) (shown : Bool) → idle_owes st shown ≤ 40
idle_small stage.Taking true = omega arith
idle_small stage.Taking false = omega arith
idle_small stage.Giving shown = omega arith
idle_small stage.Arming shown = omega arith
idle_small stage.Hearing shown = omega arith
idle_small stage.Done shown = omega arith

pub nothing_small : (b : Bool) (shown : Bool) → idle_owes (Rattle.vd_models.specs.Stages.nothing_stage b) shown ≤ 39
nothing_small true shown = omega arith
nothing_small false shown = omega arith

pub hear_small : (d : DeviceNow) → 1 ≤ hear_owes d
hear_small now.Idle = omega arith
hear_small (now.Taking ws) = omega arith
hear_small (now.Giving ws) = omega arith
hear_small (now.Checking a b) = omega arith
hear_small (now.Ringing a b) = omega arith
hear_small now.Arming = omega arith
hear_small (now.Disarming o) = omega arith
hear_small now.Resting = omega arith

pub take_small : (shown : Bool) (n : ℕ) → n ≤ 36 → n ≤ take_owes shown n
take_small true n few = omega arith
take_small false n few = omega arith

pub published_owes : (st : Stage) (b : DeviceOp) (d : DeviceNow) (shown : Bool) (n : ℕ) → DevicePublished b → owes st b d shown n ≤ n + 40
published_owes st b d shown n (inl e) = subst (λ o. owes st o d shown n ≤ n + 40) (sym e) (omega (arith, idle_small st shown))
published_owes st b d shown n (inr e) = subst (λ o. owes st o d shown n ≤ n + 40) (sym e) (omega arith)

-- ---- the tests

pub not_first : (a b : Bool) → (a || b) ≡ false → a ≡ false
not_first false b h = refl
not_first true b h = absurd (cc)

pub not_second : (a b : Bool) → (a || b) ≡ false → b ≡ false
not_second false b h = h
not_second true b h = absurd (cc)

pub apart : (n m : ℕ) → (n == m) ≡ false → n ≢ m
apart n m h e = absurd (let t : (n == m) ≡ true = eq-eqb n m e in cc)

pub zero_test : (n : ℕ) (t : Bool) → t ≡ (n == 0) → t ≡ true → n ≡ 0
zero_test n t is e = elim (cases_eq n 0) [ inl z ↦ z | inr ne ↦ absurd (let f : (n == 0) ≡ false = ne_eqb n 0 ne in cc) ]

pub some_test : (n : ℕ) (t : Bool) → t ≡ (n == 0) → t ≡ false → 0 < n
some_test n t is e = elim (cases_eq n 0) [ inl z ↦ absurd (let f : (n == 0) ≡ true = eq-eqb n 0 z in cc) | inr ne ↦ omega arith ]

-- ---- the window

pub window_some : (st : Stage) (n capacity : ℕ) → HasWindow st n capacity → 0 < capacity
window_some stage.Taking n capacity h = omega arith
window_some stage.Giving n capacity h = h.1
window_some stage.Arming n capacity h = h.1
window_some stage.Hearing n capacity h = h.1
window_some stage.Done n capacity h = h.1

pub window_most : (st : Stage) (n capacity : ℕ) → HasWindow st n capacity → n ≤ capacity
window_most stage.Taking n capacity h = omega arith
window_most stage.Giving n capacity h = h.0
window_most stage.Arming n capacity h = h.0
window_most stage.Hearing n capacity h = h.0
window_most stage.Done n capacity h = h.0

-- where nothing is held
pub window_empty : (st st' : Stage) (n capacity : ℕ) → n ≡ 0 → HasWindow st n capacity → HasWindow st' n capacity
window_empty st stage.Taking n capacity none h = omega (arith, window_some st n capacity h)
window_empty st stage.Giving n capacity none h = (omega arith, window_some st n capacity h)
window_empty st stage.Arming n capacity none h = (omega arith, window_some st n capacity h)
window_empty st stage.Hearing n capacity none h = (omega arith, window_some st n capacity h)
window_empty st stage.Done n capacity none h = (omega arith, window_some st n capacity h)

pub published_not : (b : DeviceOp) → DevicePublished b → b ≢ DeviceOp.arm
published_not b (inl e) z = cc (e, z)
published_not b (inr e) z = cc (e, z)
