use Rattle.std.proofs.Common.{ℕ, ◌<◌, ◌≤◌, ◌-◌, subst, sym, refl, arith}
use Rattle.vd_event.specs.Words.{reach}
use Rattle.vd_event.specs.Rings.{Rings, Published}
use Rattle.vd_event.proofs.SignalLaws.{quiet_apart, rings_armed}
use Rattle.vd_event.proofs.Among.{as_packed, of_packed}
use Rattle.vd_event.proofs.due.Due.check.Goals as goal

pub returns-then-rings-clause-apart : goal.returns-then-rings-clause-apart
returns-then-rings-clause-apart c s armed low high side =
    let d = c.args.self in
    let Lawful : Published → Type 0 = λ q. (q.old < q.new) × (q.new - q.old ≤ reach q.rule) in
    let lawful = subst Lawful c.self.view_is c.self.invariant in
    let OfRange : Published → Type 0 = λ q. Rings q.rule q.old q.new c.args.word in
    let OfWord : ℕ → Type 0 = λ w. Rings d.rule d.old d.new w in
    let rings = subst OfWord armed.1 (subst OfRange c.self.view_is (c.rings.ensures.0 c.if-rings.true)) in
    absurd (quiet_apart d.rule d.old d.new s armed.0 lawful.0 lawful.1 low high side rings)

pub returns-then-rings-clause-packed : goal.returns-then-rings-clause-packed
returns-then-rings-clause-packed c size is =
    let d = c.args.self in
    let Lawful : Published → Type 0 = λ q. (q.old < q.new) × (q.new - q.old ≤ reach q.rule) in
    let lawful = subst Lawful c.self.view_is c.self.invariant in
    let OfRange : Published → Type 0 = λ q. Rings q.rule q.old q.new c.args.word in (
      λ r. as_packed d.rule size d.old d.new c.args.word is (omega (arith, lawful.0))
          (subst OfRange c.self.view_is (c.rings.ensures.0 c.if-rings.true)),
      λ p. refl,
    )

pub returns-else-rings-clause-packed : goal.returns-else-rings-clause-packed
returns-else-rings-clause-packed c size is =
    let d = c.args.self in
    let OfRange : Published → Type 0 = λ q. Rings q.rule q.old q.new c.args.word in (
      λ r. cc,
      λ p. cc (
        c.if-rings.false,
        c.rings.ensures.1 (subst OfRange (sym c.self.view_is) (of_packed d.rule size d.old d.new c.args.word is p)),
      ),
    )

pub returns-else-rings-clause-armed : goal.returns-else-rings-clause-armed
returns-else-rings-clause-armed c s armed low high =
    let d = c.args.self in
    let Lawful : Published → Type 0 = λ q. (q.old < q.new) × (q.new - q.old ≤ reach q.rule) in
    let lawful = subst Lawful c.self.view_is c.self.invariant in
    let OfRange : Published → Type 0 = λ q. Rings q.rule q.old q.new c.args.word in
    let OfWord : ℕ → Type 0 = λ w. Rings d.rule d.old d.new w in
    let r = subst OfWord (sym armed.1) (rings_armed d.rule d.old d.new s armed.0 lawful.1 low high) in
    cc (c.if-rings.false, c.rings.ensures.1 (subst OfRange (sym c.self.view_is) r))
