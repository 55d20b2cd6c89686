use Rattle.std.proofs.Common.{rules, arith}
use Rattle.vd_turns.proofs.Turning.{guest_starts, guest_goes, guest_looks, guest_over, guest_ends, guest_spent}
use Rattle.vd_turns.proofs.turn.guest_once.Goals as goal

pub returns-then-done-clause-turn : goal.returns-then-done-clause-turn
returns-then-done-clause-turn g c = λ v w ring holds.
    let done : g.G.Guest.party.is_done c.args.guest.now = search rules in
    guest_over g.L.Layout.layout g.G.Guest.party w _ v c.args.guest.now c.args.guest.now 0
    (guest_starts g.L.Layout.layout g.G.Guest.party w _ v c.args.guest.now ring holds) done

pub returns-in-Looked-clause-turn : goal.returns-in-Looked-clause-turn
returns-in-Looked-clause-turn g c = λ v w ring holds.
    let live : g.G.Guest.party.is_done c.args.guest.now → ⊥ = λ x. cc (c.done.ensures.1 x, c.if-done.false) in
    let r = guest_starts g.L.Layout.layout g.G.Guest.party w _ v c.args.guest.now ring holds in
    guest_looks g.L.Layout.layout g.G.Guest.party w _ _ v c.args.guest.now c.args.guest.now c.guest_step.new.guest 0
    c.guest_step.result live r c.in-Looked.is (c.guest_step.ensures.step r.run.view w r.run.ring r.run.holds)

pub returns-in-Finished-clause-turn : goal.returns-in-Finished-clause-turn
returns-in-Finished-clause-turn g c = λ v w ring holds.
    let r = guest_starts g.L.Layout.layout g.G.Guest.party w _ v c.args.guest.now ring holds in
    guest_ends g.L.Layout.layout g.G.Guest.party w _ _ v c.args.guest.now c.args.guest.now c.guest_step.new.guest 0
    c.guest_step.result r c.in-Finished.is (c.guest_step.ensures.step r.run.view w r.run.ring r.run.holds)

pub returns-in-Worked-clause-turn : goal.returns-in-Worked-clause-turn
returns-in-Worked-clause-turn g c = λ v w ring holds.
    let live : g.G.Guest.party.is_done c.args.guest.now → ⊥ = λ x. cc (c.done.ensures.1 x, c.if-done.false) in
    let r = guest_starts g.L.Layout.layout g.G.Guest.party w _ v c.args.guest.now ring holds in
    guest_spent g.L.Layout.layout g.G.Guest.party w _ v c.args.guest.now c.guest_step.new.guest 1 live
    (guest_goes g.L.Layout.layout g.G.Guest.party w _ _ v c.args.guest.now c.args.guest.now c.guest_step.new.guest 0
    c.guest_step.result r (λ looked. cc (looked, c.in-Worked.is)) (c.guest_step.ensures.step r.run.view w r.run.ring r.run.holds))
    (omega arith)
