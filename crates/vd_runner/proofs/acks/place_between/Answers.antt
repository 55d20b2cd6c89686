use Rattle.std.proofs.Common.{◌≡◌, ℕ, Some, inl, inr, subst, arith}
use Rattle.std.specs.Prelude.{slice_get}
use Rattle.std.proofs.lemmas.Bool.{cases_lt}
use Rattle.vd_runner.specs.CommandReport.{entry_numbers}
use Rattle.vd_runner.proofs.ControlLines.{number_is}
use Rattle.vd_runner.proofs.acks.place_between.Goals as goal

pub loop-place-preserved : goal.loop-place-preserved
loop-place-preserved c k from below is =
    elim (cases_lt k c.loop-place.place) [
      | inl h ↦ c.loop-place.invariant k from h is
      | inr h ↦
          let same : k ≡ c.loop-place.place = omega (arith, below, h) in
          c.if-list-place.false (number_is c.args.list.now c.loop-place.place c.args.number (record { number = 0; len = 0; ack = 0 })
          (omega arith)
          (subst (λ (j : ℕ). slice_get (entry_numbers c.args.list.now) j ≡ Some c.args.number) same is))
    ]
