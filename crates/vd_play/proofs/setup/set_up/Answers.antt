use Rattle.std.proofs.Common.{◌≡◌, ℕ, ◌+◌, ◌-◌, Bool, true, false, nat_eq, sym, subst, ◌∙◌, arith}
use Rattle.std.proofs.lemmas.Bool.{false≢true}
use Rattle.vd_model.specs.declared.base.Mode.{Mode}
use Rattle.vd_machine.specs.File.{view, Plan}
use Rattle.vd_play.specs.Setup.{IsUp}
use Rattle.vd_play.proofs.setup.set_up.Goals as goal
use Rattle.vd_play.proofs.setup.set_up.Goals.{then-epoch-eq0, else-epoch-eq0}

no_first : (k : ℕ) (v : Bool) → v ≡ false → v ≡ nat_eq k 0 → k ≡ 0 → ⊥
no_first k v off is first = false≢true (subst (λ (z : ℕ). false ≡ nat_eq z 0) first (sym off ∙ is))

pub begin-requires-clause-fresh : goal.begin-requires-clause-fresh
begin-requires-clause-fresh g c = elim c.if-epoch-eq0.branch [
  | then-epoch-eq0 w ↦ c.requires.before.first w.if-epoch-eq0.true
  | else-epoch-eq0 w ↦ (
      let yes : w.is_renewed.result ≡ true = cc (w.value-is, c.if-is_renewed.true) in
      c.requires.before.renewed (sym w.is_renewed.ensures ∙ yes)
      )
]

pub switch-requires-clause-up : goal.switch-requires-clause-up
switch-requires-clause-up g c = elim c.if-epoch-eq0.branch [
  | then-epoch-eq0 w ↦ absurd (no_first c.args.epoch _ c.if-is_renewed.false w.value-is w.if-epoch-eq0.true)
  | else-epoch-eq0 w ↦ (
      let plan : Plan = view c.args.m.now in
      let no : w.is_renewed.result ≡ false = cc (w.value-is, c.if-is_renewed.false) in
      let later : c.args.epoch ≡ c.args.epoch - 1 + 1 = omega (arith, w.if-epoch-eq0.false) in
      subst (λ (z : Mode). IsUp plan z c.args.bus.now) (sym c.mode_of-before.ensures)
      (c.requires.before.later (c.args.epoch - 1) later (sym w.is_renewed.ensures ∙ no)).0
      )
]

pub switch-requires-clause-sizes : goal.switch-requires-clause-sizes
switch-requires-clause-sizes g c = elim c.if-epoch-eq0.branch [
  | then-epoch-eq0 w ↦ absurd (no_first c.args.epoch _ c.if-is_renewed.false w.value-is w.if-epoch-eq0.true)
  | else-epoch-eq0 w ↦ (
      let no : w.is_renewed.result ≡ false = cc (w.value-is, c.if-is_renewed.false) in
      let later : c.args.epoch ≡ c.args.epoch - 1 + 1 = omega (arith, w.if-epoch-eq0.false) in
      (c.requires.before.later (c.args.epoch - 1) later (sym w.is_renewed.ensures ∙ no)).1
      )
]
