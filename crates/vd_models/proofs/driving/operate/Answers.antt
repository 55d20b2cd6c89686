use Rattle.std.proofs.Common.{◌≡◌, ◌+◌, true, false, sym, length, subst, List, arith}
use Rattle.std.proofs.lemmas.Bool.{eq-eqb, ne_eqb}
use Rattle.vd_model.specs.declared.record.Run.{Run}
use Rattle.vd_models.specs.Cursors.{left_at, IsSettled}
use Rattle.vd_models.specs.Driving.{scripted}
use Rattle.vd_models.specs.laws.Scripted.{empty_of, full_of}
use Rattle.vd_models.proofs.Drives.{went_on, from_begun}
use Rattle.vd_models.proofs.GuestSleeps.{found_none, armed_at, slept_at, woken_at}
use Rattle.vd_models.proofs.GuestPassing.{offered_at, collected_at, used_fits}
use Rattle.vd_models.proofs.SendTurns.{sent_at, received_at}
use Rattle.vd_models.proofs.driving.operate.Goals as goal

pub returns-in-Moved-clause-turn : goal.returns-in-Moved-clause-turn
returns-in-Moved-clause-turn g c = λ v opens own due.
    from_begun c.args.loaded.now c.args.end.now c.begin_drive.new.end c.begin_drive.ensures.next opens due
    (λ o. went_on g.met.L.Layout.lawful.driver_end _ o (c.in-Moved.ensures v o.drives.stands own))

pub returns-in-Armed-clause-turn : goal.returns-in-Armed-clause-turn
returns-in-Armed-clause-turn g c = λ v opens own due.
    from_begun c.args.loaded.now c.args.end.now c.begin_drive.new.end c.begin_drive.ensures.next opens due
    (λ o. armed_at g.met.L.Layout.lawful.driver_end _ o (c.in-Armed.ensures v o.drives.stands own))

pub returns-in-Asleep-clause-turn : goal.returns-in-Asleep-clause-turn
returns-in-Asleep-clause-turn g c = λ v opens own due.
    from_begun c.args.loaded.now c.args.end.now c.begin_drive.new.end c.begin_drive.ensures.next opens due
    (λ o. slept_at g.met.L.Layout.lawful.driver_end _ o (c.in-Asleep.ensures v o.drives.stands own))

pub returns-in-Nothing-clause-turn : goal.returns-in-Nothing-clause-turn
returns-in-Nothing-clause-turn g c = λ v opens own due.
    from_begun c.args.loaded.now c.args.end.now c.begin_drive.new.end c.begin_drive.ensures.next opens due
    (λ o. rw c.after_nothing-loaded.ensures (found_none g.met.L.Layout.lawful.driver_end _ o own
    (c.in-Nothing.ensures v o.drives.stands own)))

pub returns-in-Awake-clause-turn : goal.returns-in-Awake-clause-turn
returns-in-Awake-clause-turn g c = λ v opens own due.
    from_begun c.args.loaded.now c.args.end.now c.begin_drive.new.end c.begin_drive.ensures.next opens due
    (λ o. rw c.after_waking-loaded.ensures (rw c.waking-turn.ensures (woken_at g.met.L.Layout.lawful.driver_end _ c.armed.result o
    (c.in-Awake.ensures v o.drives.stands own) (sym c.armed.ensures))))

pub returns-in-Both-clause-turn : goal.returns-in-Both-clause-turn
returns-in-Both-clause-turn g c = λ v opens own due.
    from_begun c.args.loaded.now c.args.end.now c.begin_drive.new.end c.begin_drive.ensures.next opens due
    (λ o. rw c.after_offer-loaded.ensures (sent_at g.met.L.Layout.lawful.driver_end _ c.in-Offered.field-0 c.args.turns.now c.in-Both.is o
    (c.in-Offered.ensures v o.drives.stands own)))

pub returns-in_default-clause-turn : goal.returns-in_default-clause-turn
returns-in_default-clause-turn g c = λ v opens own due.
    let l = c.args.loaded.now in
    from_begun c.args.loaded.now c.args.end.now c.begin_drive.new.end c.begin_drive.ensures.next opens due
    (λ o. rw c.after_offer-loaded.ensures (offered_at g.met.L.Layout.lawful.driver_end _ c.settle-loaded.result c.in-Offered.field-0
    c.args.turns.now c.in_default.not-Both o (c.in-Offered.ensures v o.drives.stands own)
    (subst (λ (rs : List Run). left_at rs c.settle-loaded.result ≡ left_at rs
    (record { run = l.at.run; used = l.at.used + 1 })) c.as_slice.ensures c.settle-loaded.ensures.left) (subst
    (λ (rs : List Run). IsSettled rs c.settle-loaded.result) c.as_slice.ensures c.settle-loaded.ensures.settled)))

pub returns-then-len-loaded-clause-turn : goal.returns-then-len-loaded-clause-turn
returns-then-len-loaded-clause-turn g c = λ v opens own due.
    let l = c.args.loaded.now in
    let len : c.len.result ≡ length c.keep_chain.new.list.items = omega (arith, c.len.ensures, c.keep_chain.new.list.ok) in
    let none = empty_of c.as_slice-in-Collected.result.now l.script.commands c.is_empty.result c.as_slice-in-Collected.ensures
    c.is_empty.ensures
    c.if-is_empty.true in
    from_begun c.args.loaded.now c.args.end.now c.begin_drive.new.end c.begin_drive.ensures.next opens due
    (λ o. collected_at g.met.L.Layout.lawful.driver_end _ c.keep_chain.new.list.items
    c.in-Collected.number c.in-Collected.len c.in-Collected.head true none o (c.in-Collected.ensures v o.drives.stands own)
    c.keep_chain.ensures.items
    (sym (eq-eqb (length c.keep_chain.new.list.items) (scripted l.script) (omega (arith, len, c.requires.plan.total, c.if-len-loaded.true)))))

pub returns-else-len-loaded-clause-turn : goal.returns-else-len-loaded-clause-turn
returns-else-len-loaded-clause-turn g c = λ v opens own due.
    let l = c.args.loaded.now in
    let len : c.len.result ≡ length c.keep_chain.new.list.items = omega (arith, c.len.ensures, c.keep_chain.new.list.ok) in
    let none = empty_of c.as_slice-in-Collected.result.now l.script.commands c.is_empty.result c.as_slice-in-Collected.ensures
    c.is_empty.ensures
    c.if-is_empty.true in
    from_begun c.args.loaded.now c.args.end.now c.begin_drive.new.end c.begin_drive.ensures.next opens due
    (λ o. collected_at g.met.L.Layout.lawful.driver_end _ c.keep_chain.new.list.items
    c.in-Collected.number c.in-Collected.len c.in-Collected.head false none o (c.in-Collected.ensures v o.drives.stands own)
    c.keep_chain.ensures.items
    (sym (ne_eqb (length c.keep_chain.new.list.items) (scripted l.script)
    (λ z. c.if-len-loaded.false (omega (arith, len, c.requires.plan.total, z))))))

pub returns-else-is_empty-clause-turn : goal.returns-else-is_empty-clause-turn
returns-else-is_empty-clause-turn g c = λ v opens own due.
    let l = c.args.loaded.now in
    let some = full_of c.as_slice-in-Collected.result.now l.script.commands c.is_empty.result c.as_slice-in-Collected.ensures
    c.is_empty.ensures
    c.if-is_empty.false in
    from_begun c.args.loaded.now c.args.end.now c.begin_drive.new.end c.begin_drive.ensures.next opens due
    (λ o. received_at g.met.L.Layout.lawful.driver_end _ c.in-Collected.number c.in-Collected.len c.in-Collected.head some o
    (c.in-Collected.ensures v o.drives.stands own))

pub overflow_add-next : goal.overflow_add-next
overflow_add-next g c =
    let law = g.met.L.Layout.lawful.driver_end in
    let r = c.requires.own in
    let go = c.begin_drive.ensures.next r.0 r.1 r.3 in
    omega (arith, used_fits law _ c.in-Offered.field-0 c.in_default.not-Both go.opens (c.in-Offered.ensures r.0 go.opens.drives.stands r.2))
