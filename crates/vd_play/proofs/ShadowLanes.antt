-- A lane in an epoch, by what it holds: its ring's end, a relay, or none of the two.
use Rattle.std.proofs.Common.{◌≡◌, ℕ, ◌+◌, Bool, true, false, Option, Some, None, is_some, refl, sym, subst}
use Rattle.std.proofs.lemmas.Bool.{false≢true}
use Rattle.vd_words.specs.Plain.{RingWords}
use Rattle.vd_machine.specs.File.{Plan}
use Rattle.vd_play.specs.declared.floor.Relaying.{Relaying}
use Rattle.vd_play.specs.Progress.{IsStopped, IsRelaying, StoppedWith, InEpochWith, IsPlain}
use Rattle.vd_play.specs.Setting.{Setting}

pub some_in : {A : Type 0} (o : Option A) → is_some o ≡ true → (x : A) × (o ≡ Some x)
some_in None h = absurd (false≢true h)
some_in (Some x) h = (x, refl)

module _ {L D E G X C : Type 0} (s : Setting D E G X C) (plan : Plan) (q k n : ℕ) (words : RingWords) (x : Relaying L D E) (relayed : ℕ)
    (guest : G) (device : X) where
  pub relaying_of : (on : Bool) (still : Option E) (o : Option (Relaying L D E)) → o ≡ Some x
      → InEpochWith s plan q on k n words still o relayed guest device
      → (on ≡ true) × (still ≡ None) × IsRelaying s plan q k n words x relayed guest device
  relaying_of true None (Some y) is h = (
    refl,
    refl,
    subst (λ (z : Relaying L D E). IsRelaying s plan q k n words z relayed guest device)
        (Rattle.std.proofs.lemmas.Option.same_Some y x is) h,
  )
  relaying_of false None (Some y) is h = absurd h
  relaying_of on (Some end) (Some y) is h = absurd h
  relaying_of on still None is h = absurd (cc)

  pub epoch_of : (on : Bool) (still : Option E) (o : Option (Relaying L D E)) → on ≡ true → still ≡ None → o ≡ Some x
      → IsRelaying s plan q k n words x relayed guest device → InEpochWith s plan q on k n words still o relayed guest device
  epoch_of true None (Some y) on none is h =
      subst (λ (z : Relaying L D E). IsRelaying s plan q k n words z relayed guest device)
      (sym (Rattle.std.proofs.lemmas.Option.same_Some y x is)) h
  epoch_of false still o on none is h = absurd (false≢true on)
  epoch_of true (Some end) o on none is h = absurd (cc)
  epoch_of true None None on none is h = absurd (cc)

pub stopped_of : {L D E G X C : Type 0} (s : Setting D E G X C) (plan : Plan) (q k n : ℕ) (words : RingWords) (relayed : ℕ)
    (guest : G) (device : X) (end : E) (on : Bool) (still : Option E) (o : Option (Relaying L D E)) → still ≡ Some end → o ≡ None
    → IsStopped s plan q (k + 1) n words end relayed guest device → InEpochWith s plan q on k n words still o relayed guest device
stopped_of s plan q k n words relayed guest device end on (Some y) None is none h =
    subst (λ z. IsStopped s plan q (k + 1) n words z relayed guest device) (sym (Rattle.std.proofs.lemmas.Option.same_Some y end is)) h
stopped_of s plan q k n words relayed guest device end on None o is none h = absurd (cc)
stopped_of s plan q k n words relayed guest device end on (Some y) (Some x) is none h = absurd (cc)

-- ---- a relay of a data queue

pub plain_of : {L D E : Type 0} (x : Relaying L D E) (o : Option (Relaying L D E)) → o ≡ Some x → IsPlain o → x.lane.relay.control ≡ None
plain_of x None is p = absurd (cc)
plain_of x (Some y) is p =
    subst (λ (z : Relaying _ _ _). z.lane.relay.control ≡ None) (Rattle.std.proofs.lemmas.Option.same_Some y x is) p

pub plain_none : {L D E : Type 0} (o : Option (Relaying L D E)) → o ≡ None → IsPlain o
plain_none None is = tt
plain_none (Some x) is = absurd (cc)

pub plain_stopped : {L D E G X C : Type 0} (s : Setting D E G X C) (plan : Plan) (q k : ℕ) (words : RingWords) (still : Option E)
    (o : Option (Relaying L D E)) (relayed : ℕ) (guest : G) (device : X) → StoppedWith s plan q k words still o relayed guest device
    → IsPlain o
plain_stopped s plan q k words still None relayed guest device p = tt
plain_stopped s plan q k words None (Some x) relayed guest device p = absurd p
plain_stopped s plan q k words (Some end) (Some x) relayed guest device p = absurd p
