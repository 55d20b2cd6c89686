use Rattle.std.proofs.Common.{rules, ◌≡◌, ℕ, subst, arith, refl, ◌∙◌}
use Rattle.vd_turns.proofs.Turning.{guest_starts, guest_goes, guest_looks, guest_over, guest_ends, guest_spent}
use Rattle.vd_turns.specs.Turns.{GuestTurn}
use Rattle.vd_turns.proofs.turn.guest_drawn.Goals as goal

pub returns-then-done-clause-turn : goal.returns-then-done-clause-turn
returns-then-done-clause-turn g c = λ v w ring holds.
    let done : g.G.Guest.party.is_done c.args.guest.now = search rules in
    guest_over g.L.Layout.layout g.G.Guest.party w _ v c.args.guest.now c.args.guest.now 0
    (guest_starts g.L.Layout.layout g.G.Guest.party w _ v c.args.guest.now ring holds) done

pub loop-made-init : goal.loop-made-init
loop-made-init g c = record {
  ring = refl;
  live = λ x. cc (c.done.ensures.1 x, c.if-done.false);
  way = λ v w ring holds. guest_starts g.L.Layout.layout g.G.Guest.party w _ v c.args.guest.now ring holds;
}

pub returns-in-Looked-clause-turn : goal.returns-in-Looked-clause-turn
returns-in-Looked-clause-turn g c = λ v w ring holds.
    let r = c.loop-made.invariant.way v w ring holds in
    let live : g.G.Guest.party.is_done c.args.guest.now → ⊥ = λ x. cc (c.done.ensures.1 x, c.if-done.false) in
    guest_looks g.L.Layout.layout g.G.Guest.party w _ _ v c.args.guest.now c.loop-made.guest c.guest_step.new.guest c.loop-made.made
    c.guest_step.result live r c.in-Looked.is (c.guest_step.ensures.step r.run.view w r.run.ring r.run.holds)

pub returns-in-Finished-clause-turn : goal.returns-in-Finished-clause-turn
returns-in-Finished-clause-turn g c = λ v w ring holds.
    let r = c.loop-made.invariant.way v w ring holds in
    guest_ends g.L.Layout.layout g.G.Guest.party w _ _ v c.args.guest.now c.loop-made.guest c.guest_step.new.guest c.loop-made.made
    c.guest_step.result r c.in-Finished.is (c.guest_step.ensures.step r.run.view w r.run.ring r.run.holds)

pub returns-clause-turn : goal.returns-clause-turn
returns-clause-turn g c = λ v w ring holds.
    let live : g.G.Guest.party.is_done c.args.guest.now → ⊥ = λ x. cc (c.done.ensures.1 x, c.if-done.false) in
    let all : c.loop-made.made ≡ c.steps-most.result = omega arith in
    subst (λ (n : ℕ). GuestTurn g.L.Layout.layout g.G.Guest.party c.loop-made.words.words v w c.args.guest.now c.loop-made.guest n) all
    (guest_spent g.L.Layout.layout g.G.Guest.party w _ v c.args.guest.now c.loop-made.guest _ live
    (c.loop-made.invariant.way v w ring holds) (omega arith))

pub loop-made-preserved : goal.loop-made-preserved
loop-made-preserved g c = record {
  ring = c.guest_step.ensures.ring ∙ c.loop-made.invariant.ring;
  live = λ done.
      let o = c.requires.on in
      let r = c.loop-made.invariant.way o.0 o.1 o.2 o.3 in
      let step = c.guest_step.ensures.step r.run.view o.1 r.run.ring r.run.holds in
      cc (step.finished.1 done, c.in-Worked.is);
  way = λ v w ring holds.
      let r = c.loop-made.invariant.way v w ring holds in
      guest_goes g.L.Layout.layout g.G.Guest.party w _ _ v c.args.guest.now c.loop-made.guest c.guest_step.new.guest c.loop-made.made
      c.guest_step.result r (λ looked. cc (looked, c.in-Worked.is)) (c.guest_step.ensures.step r.run.view w r.run.ring r.run.holds);
}
