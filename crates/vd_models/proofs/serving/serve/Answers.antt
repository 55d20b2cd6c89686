use Rattle.std.proofs.Common.{refl, sym, ap, ◌∙◌}
use Rattle.vd_models.specs.Serving.{all_of}
use Rattle.vd_models.proofs.Turns.{went_on, from_begun, turned, more_is}
use Rattle.vd_models.proofs.Sleeps.{found_none, armed_at, slept_at, woken_at}
use Rattle.vd_models.proofs.Passing.{took, gave, rested, full_is}
use Rattle.vd_models.proofs.serving.serve.Goals as goal

pub returns-in-Moved-clause-turn : goal.returns-in-Moved-clause-turn
returns-in-Moved-clause-turn g c = λ w opens own. from_begun c.args.session.now c.begin_next.new.session c.begin_next.ensures.next
    c.begin_next.ensures.held (more_is _ _ c.args.session.now.by c.args.begun.now.items c.len.ensures.value refl) opens
    (λ o. turned _ _ _ (went_on g.met.L.Layout.lawful.device_end _ o (c.in-Moved.ensures.did w o.serves.stands own)))

pub returns-in-Armed-clause-turn : goal.returns-in-Armed-clause-turn
returns-in-Armed-clause-turn g c = λ w opens own. from_begun c.args.session.now c.begin_next.new.session c.begin_next.ensures.next
    c.begin_next.ensures.held (more_is _ _ c.args.session.now.by c.args.begun.now.items c.len.ensures.value refl) opens
    (λ o. turned _ _ _ (armed_at g.met.L.Layout.lawful.device_end _ o (c.in-Armed.ensures.did w o.serves.stands own)))

pub returns-in-Asleep-clause-turn : goal.returns-in-Asleep-clause-turn
returns-in-Asleep-clause-turn g c = λ w opens own. from_begun c.args.session.now c.begin_next.new.session c.begin_next.ensures.next
    c.begin_next.ensures.held (more_is _ _ c.args.session.now.by c.args.begun.now.items c.len.ensures.value refl) opens
    (λ o. turned _ _ _ (slept_at g.met.L.Layout.lawful.device_end _ o (c.in-Asleep.ensures.did w o.serves.stands own)))

pub returns-in-Rested-clause-turn : goal.returns-in-Rested-clause-turn
returns-in-Rested-clause-turn g c = λ w opens own. from_begun c.args.session.now c.begin_next.new.session c.begin_next.ensures.next
    c.begin_next.ensures.held (more_is _ _ c.args.session.now.by c.args.begun.now.items c.len.ensures.value refl) opens
    (λ o. turned _ _ _ (rested g.met.L.Layout.lawful.device_end _ o (c.in-Rested.ensures.did w o.serves.stands own)))

pub returns-in-Nothing-clause-turn : goal.returns-in-Nothing-clause-turn
returns-in-Nothing-clause-turn g c = λ w opens own. from_begun c.args.session.now c.begin_next.new.session c.begin_next.ensures.next
    c.begin_next.ensures.held (more_is _ _ c.args.session.now.by c.args.begun.now.items c.len.ensures.value refl) opens
    (λ o. rw c.after_nothing-session.ensures (turned _ _ _ (found_none g.met.L.Layout.lawful.device_end _ c.is_empty-in-Nothing.result o own
    (c.in-Nothing.ensures.did w o.serves.stands own) c.is_empty-in-Nothing.ensures)))

pub returns-in-Awake-clause-turn : goal.returns-in-Awake-clause-turn
returns-in-Awake-clause-turn g c = λ w opens own. from_begun c.args.session.now c.begin_next.new.session c.begin_next.ensures.next
    c.begin_next.ensures.held (more_is _ _ c.args.session.now.by c.args.begun.now.items c.len.ensures.value refl) opens
    (λ o. rw c.after_waking-session.ensures (rw c.waking-turn.ensures (turned _ _ _
    (woken_at g.met.L.Layout.lawful.device_end _ c.armed.result o
    (c.in-Awake.ensures.did w o.serves.stands own) (sym c.armed.ensures)))))

pub returns-in-Taken-clause-turn : goal.returns-in-Taken-clause-turn
returns-in-Taken-clause-turn g c = λ w opens own. from_begun c.args.session.now c.begin_next.new.session c.begin_next.ensures.next
    c.begin_next.ensures.held (more_is _ _ c.args.session.now.by c.args.begun.now.items c.len.ensures.value refl) opens
    (λ o. rw c.after_take-session.ensures (turned _ _ _
    (took g.met.L.Layout.lawful.device_end _ c.note.new.held c.note.new.begun c.in-Taken.number
    c.chain.result _ o (rw c.chain.ensures (c.in-Taken.ensures.did w o.serves.stands own)) c.note.ensures.held c.note.ensures.begun c.note.ensures.room
    (λ z. sym (full_is _ _ _ _ _ _ c.is_full.ensures c.len-in-Taken.ensures.value (ap all_of (sym c.begin_next.ensures.by))) ∙ z))))

pub returns-in-Given-clause-turn : goal.returns-in-Given-clause-turn
returns-in-Given-clause-turn g c = λ w opens own. from_begun c.args.session.now c.begin_next.new.session c.begin_next.ensures.next
    c.begin_next.ensures.held (more_is _ _ c.args.session.now.by c.args.begun.now.items c.len.ensures.value refl) opens
    (λ o. rw c.after_give-session.ensures (turned _ _ _ (gave g.met.L.Layout.lawful.device_end _ c.features-in_order.result.in_order
    c.drop_next.new.held c.in-Given.field-0 _ (sym (ap (λ f. f.in_order) (c.features-in_order.ensures
    ∙ (g.met.L.Layout.lawful.device_end.sized c.args.session.now.end w opens.serves.stands).1))) o
    (c.in-Given.ensures.did w o.serves.stands own) c.drop_next.ensures c.is_empty.ensures)))
