use Rattle.std.proofs.Common.{refl, sym, ap, ◌∙◌}
use Rattle.vd_models.specs.declared.hand.Hand.TheVariants.{Free}
use Rattle.vd_models.proofs.CommandTurns.{went_free, none_free, armed_free, slept_free, woken_free, rested_free, took_free, gave_free, command_from, opens_begun, more_seen, take_window}
use Rattle.vd_models.proofs.commanding.take_or_give.Goals as goal

pub step-requires-clause-own : goal.step-requires-clause-own
step-requires-clause-own g c =
    let r = c.requires.own in
    let o = opens_begun _ c.args.session.now c.begin_next.new.session c.begin_next.ensures.by c.begin_next.ensures.stage
    c.begin_next.ensures.held c.begin_next.ensures.next
    (more_seen _ _ c.args.session.now.by c.args.begun.now.items c.len.ensures.value refl) r.1 in (r.0, o.commands.serves.stands, r.2)

pub hold-requires : goal.hold-requires
hold-requires g c =
    let r = c.requires.own in
    let o = opens_begun _ c.args.session.now c.begin_next.new.session c.begin_next.ensures.by c.begin_next.ensures.stage
    c.begin_next.ensures.held c.begin_next.ensures.next
    (more_seen _ _ c.args.session.now.by c.args.begun.now.items c.len.ensures.value refl) r.1 in
    take_window c.begin_next.new.session c.args.begun.now c.in-Taken.number c.in-Taken.chain o
    (c.in-Taken.ensures r.0 o.commands.serves.stands r.2)

pub returns-in-Moved-clause-turn : goal.returns-in-Moved-clause-turn
returns-in-Moved-clause-turn g c = λ w opens own. command_from c.args.session.now c.begin_next.new.session c.begin_next.ensures.by
    c.begin_next.ensures.stage c.begin_next.ensures.held c.begin_next.ensures.next
    (more_seen _ _ c.args.session.now.by c.args.begun.now.items c.len.ensures.value refl) opens
    (λ o. rw c.requires.free (went_free g.met.L.Layout.lawful.device_end c.begin_next.new.session c.args.begun.now o
    (c.in-Moved.ensures w o.commands.serves.stands own)))

pub returns-in-Armed-clause-turn : goal.returns-in-Armed-clause-turn
returns-in-Armed-clause-turn g c = λ w opens own. command_from c.args.session.now c.begin_next.new.session c.begin_next.ensures.by
    c.begin_next.ensures.stage c.begin_next.ensures.held c.begin_next.ensures.next
    (more_seen _ _ c.args.session.now.by c.args.begun.now.items c.len.ensures.value refl) opens
    (λ o. rw c.requires.free (armed_free g.met.L.Layout.lawful.device_end c.begin_next.new.session c.args.begun.now o
    (c.in-Armed.ensures w o.commands.serves.stands own)))

pub returns-in-Asleep-clause-turn : goal.returns-in-Asleep-clause-turn
returns-in-Asleep-clause-turn g c = λ w opens own. command_from c.args.session.now c.begin_next.new.session c.begin_next.ensures.by
    c.begin_next.ensures.stage c.begin_next.ensures.held c.begin_next.ensures.next
    (more_seen _ _ c.args.session.now.by c.args.begun.now.items c.len.ensures.value refl) opens
    (λ o. rw c.requires.free (slept_free g.met.L.Layout.lawful.device_end c.begin_next.new.session c.args.begun.now o
    (c.in-Asleep.ensures w o.commands.serves.stands own)))

pub returns-in-Rested-clause-turn : goal.returns-in-Rested-clause-turn
returns-in-Rested-clause-turn g c = λ w opens own. command_from c.args.session.now c.begin_next.new.session c.begin_next.ensures.by
    c.begin_next.ensures.stage c.begin_next.ensures.held c.begin_next.ensures.next
    (more_seen _ _ c.args.session.now.by c.args.begun.now.items c.len.ensures.value refl) opens
    (λ o. rw c.requires.free (rested_free g.met.L.Layout.lawful.device_end c.begin_next.new.session c.args.begun.now o
    (c.in-Rested.ensures w o.commands.serves.stands own)))

pub returns-in-Nothing-clause-turn : goal.returns-in-Nothing-clause-turn
returns-in-Nothing-clause-turn g c = λ w opens own. command_from c.args.session.now c.begin_next.new.session c.begin_next.ensures.by
    c.begin_next.ensures.stage c.begin_next.ensures.held c.begin_next.ensures.next
    (more_seen _ _ c.args.session.now.by c.args.begun.now.items c.len.ensures.value refl) opens
    (λ o. rw c.requires.free (rw c.after_nothing-session.ensures
    (none_free g.met.L.Layout.lawful.device_end c.begin_next.new.session c.args.begun.now
    c.is_empty-in-Nothing.result o own (c.in-Nothing.ensures w o.commands.serves.stands own) c.is_empty-in-Nothing.ensures)))

pub returns-in-Awake-clause-turn : goal.returns-in-Awake-clause-turn
returns-in-Awake-clause-turn g c = λ w opens own. command_from c.args.session.now c.begin_next.new.session c.begin_next.ensures.by
    c.begin_next.ensures.stage c.begin_next.ensures.held c.begin_next.ensures.next
    (more_seen _ _ c.args.session.now.by c.args.begun.now.items c.len.ensures.value refl) opens
    (λ o. rw c.requires.free (rw c.after_waking-session.ensures (rw c.waking-turn.ensures (woken_free g.met.L.Layout.lawful.device_end
    c.begin_next.new.session c.args.begun.now c.armed.result o (c.in-Awake.ensures w o.commands.serves.stands own) (sym c.armed.ensures)))))

pub returns-in-Taken-clause-turn : goal.returns-in-Taken-clause-turn
returns-in-Taken-clause-turn g c = λ w opens own. command_from c.args.session.now c.begin_next.new.session c.begin_next.ensures.by
    c.begin_next.ensures.stage c.begin_next.ensures.held c.begin_next.ensures.next
    (more_seen _ _ c.args.session.now.by c.args.begun.now.items c.len.ensures.value refl) opens
    (λ o. took_free g.met.L.Layout.lawful.device_end c.begin_next.new.session c.args.begun.now c.hold.new.held c.in-Taken.number
    c.in-Taken.chain o
    (c.in-Taken.ensures w o.commands.serves.stands own) c.hold.ensures)

pub returns-in-Given-clause-turn : goal.returns-in-Given-clause-turn
returns-in-Given-clause-turn g c = λ w opens own. command_from c.args.session.now c.begin_next.new.session c.begin_next.ensures.by
    c.begin_next.ensures.stage c.begin_next.ensures.held c.begin_next.ensures.next
    (more_seen _ _ c.args.session.now.by c.args.begun.now.items c.len.ensures.value refl) opens
    (λ o. rw c.requires.free (rw c.after_give-session.ensures
    (gave_free g.met.L.Layout.lawful.device_end c.begin_next.new.session c.args.begun.now
    c.features-in_order.result.in_order c.drop_next.new.held c.in-Given.field-0 _ (sym (ap (λ f. f.in_order) (c.features-in_order.ensures
    ∙ (g.met.L.Layout.lawful.device_end.sized c.args.session.now.end w opens.commands.serves.stands).1))) o
    (c.in-Given.ensures w o.commands.serves.stands own) c.drop_next.ensures c.is_empty.ensures)))
