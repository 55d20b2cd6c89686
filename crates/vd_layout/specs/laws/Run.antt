-- Lemmas: a run of accesses of one side, each of which was next.
use Rattle.std.proofs.Common.{ℕ, List, [], ◌∷◌, sym, subst}
use Rattle.vd_words.specs.declared.access.Access.{Access}
use Rattle.vd_words.specs.declared.access.Op.{Op}
use Rattle.vd_words.specs.Model.{PortModel, IsLawfulPort}
use Rattle.vd_words.specs.Own.{SideModel, IsOwn, own_after}
use Rattle.vd_words.specs.Step.{written}
use Rattle.vd_ring.specs.Steps.{Keeps}
use Rattle.vd_layout.specs.laws.Plain.{plain_step}
use Rattle.vd_layout.specs.Run.{Made, IsRun, written_by, PlainRun}

pub plain_run : {P V : Type 0} (port : PortModel P) (law : IsLawfulPort port) (side : SideModel V) (ring : List ℕ → V → Type 0)
    → ((us : List ℕ) (x : V) (op : Op) (a : Access) → ring us x → side.next x op a → Keeps side ring us x op a)
    → (ms : List Made) (p q : P) (ws : List ℕ) (v w : V) → port.plain p ws → ring ws v → IsRun port side ms p v q w
    → PlainRun port ring ms p q ws w
plain_run {P} {V} port law side ring keeps [] p q ws v w plain meets run = record {
  plain = subst (λ (x : P). port.plain x ws) (sym run.0) plain;
  meets = subst (λ (x : V). ring ws x) (sym run.1) meets;
  same = subst (λ (x : P). port.same p x) (sym run.0) (law.same_refl p);
}
plain_run {P} {V} port law side ring keeps (m ∷ ms) p q ws v w plain meets run =
    let so_far = plain_run port law side ring keeps ms p run.0 ws v run.1 plain meets run.2 in
    let us : List ℕ = written_by ms ws in
    let step = plain_step port law side ring run.0 q us run.1 m.op m.access m.got
    (keeps us run.1 m.op m.access so_far.meets run.3.was_next) so_far.plain run.3.moved in record {
      plain = step.plain;
      meets = subst (λ (x : V). ring (written us m.access) x) (sym run.3.is_after) step.meets;
      same = law.same_trans p run.0 q so_far.same step.same;
    }

-- at a run's end the port is still the side's own
pub own_run : {P V : Type 0} (port : PortModel P) (side : SideModel V) (ms : List Made) (p q : P) (v w : V) → IsOwn port side p v
    → IsRun port side ms p v q w → IsOwn port side q w
own_run {P} {V} port side [] p q v w own run =
    subst (λ (x : P). IsOwn port side x w) (sym run.0) (subst (λ (x : V). IsOwn port side p x) (sym run.1) own)
own_run {P} {V} port side (m ∷ ms) p q v w own run =
    subst (λ (x : V). IsOwn port side q x) (sym run.3.is_after)
    (own_after port side run.0 q run.1 m.op m.access m.got (own_run port side ms p run.0 v run.1 own run.2) run.3.was_next run.3.moved)
