-- The answer that follows from the bytes of a source and from the numbers of parties, where nothing fails.
use Rattle.std.proofs.Common.{◌≡◌, ℕ, ◌+◌, ◌<◌, ◌≤◌, List, ◌++◌, ◌⊎◌, length, get_or, Option, Some, None, Bool, true, false, ◌&&◌, nat_le, if◌then◌else◌, inl, inr, refl, ap, sym, subst, ◌∙◌, arith, append-nil, length-append}
use Rattle.std.proofs.lemmas.Bool.{lt-ltb, le-ltb, le-leb, lt-leb}
use Rattle.std.proofs.lemmas.Option.{slice_get-get_or, slice_get_cases}
use Rattle.std.specs.Io.KnownBytes.{Consumes, IsAtEnd}
use Rattle.std.specs.Option.{option_map_or}
use Rattle.vd_stream.specs.Causes.{Rose}
use Rattle.vd_stream.specs.declared.reading.TheConstants.{MOST_BYTES}
use Rattle.vd_machine.specs.File.{Plan, first}
use Rattle.vd_machine.specs.declared.machine.MachineFault.{MachineFault}
use Rattle.vd_play.specs.declared.bench.Bench.{Bench}
use Rattle.vd_play.specs.Setting.{Setting}
use Rattle.vd_runner.specs.declared.status.Status.{Status}
use Rattle.vd_runner.specs.declared.status.Status.TheVariants as status
use Rattle.vd_runner.specs.Answers.{expected, verdict, need, IsOrMemory}
use Rattle.vd_runner.specs.Checking.{ChecksTo}
use Rattle.vd_runner.specs.Layouts.{orders_packed}
use Rattle.vd_runner.specs.Outcome.{PlaysTo, IsCutOff, SomeRose}
use Rattle.vd_runner.specs.Reading.{BreaksFirst, ReadsTooMuch, ReadsMachine, RefusesToRead}
use Rattle.vd_runner.proofs.Prepared.{same_devices}

-- a source that tells its bytes and is read to its end had the bytes that were read
whole_is : (bytes bs : List ℕ) (rest : Option (List ℕ)) → Consumes (Some bytes) rest bs → IsAtEnd rest → bytes ≡ bs
whole_is bytes bs None taken end = absurd taken
whole_is bytes bs (Some ys) taken end = taken ∙ ap (λ r. bs ++ r) end ∙ append-nil bs

front_is : (bytes bs : List ℕ) (rest : Option (List ℕ)) → Consumes (Some bytes) rest bs → length bs ≤ length bytes
front_is bytes bs None taken = absurd taken
front_is bytes bs (Some ys) taken = omega (arith, ap length taken, length-append bs ys)

small_expected : (bytes : List ℕ) (n k : ℕ) → length bytes ≤ MOST_BYTES → expected bytes n k ≡ verdict (first bytes) (need bytes) n k
small_expected bytes n k small =
    ap (λ (b : Bool). if b then status.TooLarge (MOST_BYTES + 1) else verdict (first bytes) (need bytes) n k)
    (le-ltb MOST_BYTES (length bytes) small)

expects_rule : (bytes : List ℕ) (n k : ℕ) (rest : Option (List ℕ)) (rule : MachineFault) → BreaksFirst (Some bytes) rest rule
    → expected bytes n k ≡ status.Machine rule
expects_rule bytes n k rest rule h =
    let is : bytes ≡ h.bytes = whole_is bytes h.bytes rest h.read.taken h.read.end in
    ap (λ bs. expected bs n k) is ∙ small_expected h.bytes n k h.read.small ∙ ap (λ r. verdict r (need h.bytes) n k) h.broken

expects_large : (bytes : List ℕ) (n k : ℕ) (rest : Option (List ℕ)) → ReadsTooMuch (Some bytes) rest
    → expected bytes n k ≡ status.TooLarge (MOST_BYTES + 1)
expects_large bytes n k rest h =
    let long : MOST_BYTES < length bytes = omega (arith, front_is bytes h.bytes rest h.taken, h.large) in
    ap (λ (b : Bool). if b then status.TooLarge (MOST_BYTES + 1) else verdict (first bytes) (need bytes) n k)
    (lt-ltb MOST_BYTES (length bytes) long)

expects_parties : (bytes : List ℕ) (n k : ℕ) (rest : Option (List ℕ)) (plan : Plan) → ReadsMachine (Some bytes) rest plan
    → expected bytes n k ≡ verdict None (length plan.queues) n k
expects_parties bytes n k rest plan h =
    let is : bytes ≡ h.bytes = whole_is bytes h.bytes rest h.read.taken h.read.end in
    ap (λ bs. expected bs n k) is ∙ small_expected h.bytes n k h.read.small ∙ ap (λ r. verdict r (need h.bytes) n k) h.unbroken
    ∙ ap (λ (p : Option Plan). verdict None (option_map_or (λ (m : Plan). length m.queues) p 0) n k) h.means

-- a refusal to read is the expected one, where no fault came
pub refusal_expected : (bytes : List ℕ) (n k : ℕ) (rest : Option (List ℕ)) (before now : ℕ) (s : Status) → (Rose before now → ⊥)
    → RefusesToRead (Some bytes) rest before now s → IsOrMemory (expected bytes n k) s
refusal_expected bytes n k rest before now (status.Machine rule) calm h = inl (sym (expects_rule bytes n k rest rule h))
refusal_expected bytes n k rest before now (status.TooLarge m) calm h =
    inl (ap status.TooLarge h.0 ∙ sym (expects_large bytes n k rest h.1))
refusal_expected bytes n k rest before now status.ReadFault calm h = absurd (calm h)
refusal_expected bytes n k rest before now status.Memory calm h = inr refl
refusal_expected bytes n k rest before now status.Ok calm h = absurd h
refusal_expected bytes n k rest before now status.Usage calm h = absurd h
refusal_expected bytes n k rest before now status.WriteFault calm h = absurd h
refusal_expected bytes n k rest before now (status.DeviceFault q) calm h = absurd h
refusal_expected bytes n k rest before now (status.TooFewParties a b c) calm h = absurd h

enough : (q n k : ℕ) → q ≤ n → q ≤ k → verdict None q n k ≡ status.Ok
enough q n k h i = ap (λ (b : Bool). if b && nat_le q k then status.Ok else status.TooFewParties q n k) (le-leb q n h)
    ∙ ap (λ (b : Bool). if b then status.Ok else status.TooFewParties q n k) (le-leb q k i)

no_other : (b : Bool) → (b && false) ≡ false
no_other true = refl
no_other false = refl

-- fewer of the one or of the other
too_few : (q n k : ℕ) → (n < q) ⊎ (k < q) → verdict None q n k ≡ status.TooFewParties q n k
too_few q n k (inl h) = ap (λ (b : Bool). if b && nat_le q k then status.Ok else status.TooFewParties q n k) (lt-leb q n h)
too_few q n k (inr h) = ap (λ (b : Bool). if nat_le q n && b then status.Ok else status.TooFewParties q n k) (lt-leb q k h)
    ∙ ap (λ (b : Bool). if b then status.Ok else status.TooFewParties q n k) (no_other (nat_le q n))

-- what writing the canonical text comes to is the expected answer, where no count rose
need_is : (bytes : List ℕ) (rest : Option (List ℕ)) (plan : Plan) → ReadsMachine (Some bytes) rest plan → need bytes ≡ length plan.queues
need_is bytes rest plan h =
    ap need (whole_is bytes h.bytes rest h.read.taken h.read.end)
    ∙ ap (λ (p : Option Plan). option_map_or (λ (m : Plan). length m.queues) p 0) h.means

pub check_expected : (bytes : List ℕ) (rest : Option (List ℕ)) (before now : ℕ) (held given : Option (List ℕ)) (was is : ℕ) (s : Status)
    → (Rose before now → ⊥) → (Rose was is → ⊥) → ChecksTo (Some bytes) rest before now held given was is s
    → IsOrMemory (expected bytes (need bytes) (need bytes)) s
check_expected bytes rest before now held given was is status.Ok calm quiet h =
    let many = need_is bytes rest h.plan h.read in
    let all : length h.plan.queues ≤ need bytes = omega (arith, many) in
    inl (sym (expects_parties bytes (need bytes) (need bytes) rest h.plan h.read
    ∙ enough (length h.plan.queues) (need bytes) (need bytes) all all))
check_expected bytes rest before now held given was is status.WriteFault calm quiet h = absurd (quiet h.1)
check_expected bytes rest before now held given was is status.Usage calm quiet h =
    refusal_expected bytes (need bytes) (need bytes) rest before now status.Usage calm h.0
check_expected bytes rest before now held given was is (status.Machine rule) calm quiet h =
    refusal_expected bytes (need bytes) (need bytes) rest before now (status.Machine rule) calm h.0
check_expected bytes rest before now held given was is status.ReadFault calm quiet h =
    refusal_expected bytes (need bytes) (need bytes) rest before now status.ReadFault calm h.0
check_expected bytes rest before now held given was is (status.DeviceFault q) calm quiet h =
    refusal_expected bytes (need bytes) (need bytes) rest before now (status.DeviceFault q) calm h.0
check_expected bytes rest before now held given was is (status.TooLarge n) calm quiet h =
    refusal_expected bytes (need bytes) (need bytes) rest before now (status.TooLarge n) calm h.0
check_expected bytes rest before now held given was is (status.TooFewParties a b c) calm quiet h =
    refusal_expected bytes (need bytes) (need bytes) rest before now (status.TooFewParties a b c) calm h.0
check_expected bytes rest before now held given was is status.Memory calm quiet h =
    refusal_expected bytes (need bytes) (need bytes) rest before now status.Memory calm h.0

-- a cut shows whose count rose
cut_rose : {D E G X C : Type 0} (z : Setting D E G X C) (plan : Plan) (q : ℕ) (old new : Bench G X) → IsCutOff z plan q old new
    → SomeRose z.party old new
cut_rose z plan q old new h = elim (slice_get_cases old.devices.items q).1 [
  | inl (x, below, at, is) ↦
      let there = slice_get-get_or new.devices.items q x
      (omega (arith, below, same_devices z.party (length plan.queues) old new h.keeps)) in
      record {
        queue = q;
        before = x;
        after = get_or new.devices.items q x;
        was = at;
        is = there;
        rose =
            omega (arith, h.fault.rose x (get_or new.devices.items q x) at there);
      }
  | inr (past, _) ↦ absurd (none past)
]
  where
    none : length old.devices.items ≤ q → ⊥
    none past = omega (arith, past, h.fault.queue, h.parties.devices)

-- what the play of a machine comes to is the expected answer, where no count rose
pub play_expected : {D E G X C : Type 0} (z : Setting D E G X C) (bytes : List ℕ) (rest : Option (List ℕ)) (plan : Plan) (brief : Bool)
    (old new : Bench G X) (held now : Option (List ℕ)) (before after : ℕ) (s : Status) → (Rose before after → ⊥)
    → (SomeRose z.party old new → ⊥) → ReadsMachine (Some bytes) rest plan → PlaysTo z plan brief old new held now before after s
    → IsOrMemory (expected bytes (length old.guests.items) (length old.devices.items)) s
play_expected z bytes rest plan brief old new held now before after status.Ok calm still h p =
    inl (sym (expects_parties bytes (length old.guests.items) (length old.devices.items) rest plan h
    ∙ enough (length plan.queues) (length old.guests.items) (length old.devices.items) p.0.parties.guests p.0.parties.devices))
play_expected z bytes rest plan brief old new held now before after status.WriteFault calm still h p = absurd (calm p.2)
play_expected z bytes rest plan brief old new held now before after (status.DeviceFault q) calm still h p =
    absurd (still (cut_rose z plan q old new p.0))
play_expected z bytes rest plan brief old new held now before after (status.TooFewParties q n k) calm still h p =
    let t = p.0 in
    inl (ap (λ i. status.TooFewParties i n k) t.need_is ∙ ap (λ i. status.TooFewParties (length plan.queues) i k) t.guests_are
    ∙ ap (λ i. status.TooFewParties (length plan.queues) (length old.guests.items) i) t.devices_are
    ∙ sym (expects_parties bytes (length old.guests.items) (length old.devices.items) rest plan h
    ∙ too_few (length plan.queues) (length old.guests.items) (length old.devices.items)
    (rw (t.need_is, t.guests_are, t.devices_are) at t.few)))
play_expected z bytes rest plan brief old new held now before after status.Memory calm still h p = inr refl
play_expected z bytes rest plan brief old new held now before after status.Usage calm still h p = absurd p
play_expected z bytes rest plan brief old new held now before after (status.Machine rule) calm still h p = absurd p
play_expected z bytes rest plan brief old new held now before after status.ReadFault calm still h p = absurd p
play_expected z bytes rest plan brief old new held now before after (status.TooLarge n) calm still h p = absurd p

-- the layout that the bytes of a whole source order
pub layout_read : (bytes : List ℕ) (rest : Option (List ℕ)) (plan : Plan) → ReadsMachine (Some bytes) rest plan
    → orders_packed bytes ≡ plan.packed
layout_read bytes rest plan h =
    ap (λ bs. orders_packed bs) (whole_is bytes h.bytes rest h.read.taken h.read.end)
    ∙ ap (λ (p : Option Plan). option_map_or (λ (m : Plan). m.packed) p false) h.means

-- by the parties of the layout that is ordered
pub by_layout : (bytes : List ℕ) (b : Bool) (g v h w : ℕ) (s : Status) → orders_packed bytes ≡ b
    → IsOrMemory (expected bytes (if b then h else g) (if b then w else v)) s
    → IsOrMemory (expected bytes (if orders_packed bytes then h else g) (if orders_packed bytes then w else v)) s
by_layout bytes b g v h w s is found = subst (λ (x : Bool). IsOrMemory (expected bytes (if x then h else g) (if x then w else v)) s)
    (sym is) found
