use Rattle.std.proofs.Common.{◌≡◌, true, false, Some, refl, sym, length, subst, arith}
use Rattle.std.proofs.lemmas.Bool.{eq-eqb, ne_eqb}
use Rattle.vd_words.specs.declared.access.Op.TheVariants.{Control}
use Rattle.vd_models.specs.declared.pending.Pending.{Pending}
use Rattle.vd_models.specs.Driving.{drive, scripted}
use Rattle.vd_models.specs.Sending.{DueIs}
use Rattle.vd_models.proofs.SendAccess.{due_next, first_turn, second_turn, acked_turn}
use Rattle.vd_models.proofs.sending.control.Goals as goal

pub access-word-requires : goal.access-word-requires
access-word-requires g c =
    let r = c.requires.own in
    r.2.may Control c.args.access (due_next g.L.Driver.DriverEnd.driver g.L.Device.DeviceEnd.device g.L.Layout.layout g.met.L.Layout.lawful
    (drive c.args.end.now c.args.loaded.now) r.0 r.1 c.args.loaded.now.hand c.args.access refl r.3)

pub returns-in-Free-clause-turn : goal.returns-in-Free-clause-turn
returns-in-Free-clause-turn g c = λ v opens own due.
    let x = drive c.args.end.now c.args.loaded.now in
    first_turn g.L.Driver.DriverEnd.driver g.L.Device.DeviceEnd.device g.L.Layout.layout g.met.L.Layout.lawful x v opens c.args.access
    c.access-word.result c.access-word.ensures c.in-Free.is
    (subst (λ (z : Pending). DueIs g.L.Driver.DriverEnd.driver x v z (Some c.args.access)) c.in-Free.is due)

pub returns-in-First-clause-turn : goal.returns-in-First-clause-turn
returns-in-First-clause-turn g c = λ v opens own due.
    let x = drive c.args.end.now c.args.loaded.now in
    second_turn g.L.Driver.DriverEnd.driver g.L.Device.DeviceEnd.device g.L.Layout.layout g.met.L.Layout.lawful x v opens c.args.access
    c.access-word.result c.access-word.ensures c.in-First.is
    (subst (λ (z : Pending). DueIs g.L.Driver.DriverEnd.driver x v z (Some c.args.access)) c.in-First.is due)

pub returns-then-len-loaded-clause-turn : goal.returns-then-len-loaded-clause-turn
returns-then-len-loaded-clause-turn g c = λ v opens own due.
    let l = c.args.loaded.now in
    let x = drive c.args.end.now l in
    let len : c.len.result ≡ length c.keep.new.list.items = omega (arith, c.len.ensures, c.keep.new.list.ok) in
    acked_turn g.L.Driver.DriverEnd.driver g.L.Device.DeviceEnd.device g.L.Layout.layout g.met.L.Layout.lawful x v opens c.args.access
    c.access-word.result c.access-word.ensures c.in-Ack.number c.in-Ack.len c.in-Ack.head true c.in-Ack.is
    (subst (λ (z : Pending). DueIs g.L.Driver.DriverEnd.driver x v z (Some c.args.access)) c.in-Ack.is due)
    c.keep.new.list.items c.keep.ensures.items
    (sym (eq-eqb (length c.keep.new.list.items) (scripted l.script) (omega (arith, len, c.requires.plan.total, c.if-len-loaded.true))))

pub returns-else-len-loaded-clause-turn : goal.returns-else-len-loaded-clause-turn
returns-else-len-loaded-clause-turn g c = λ v opens own due.
    let l = c.args.loaded.now in
    let x = drive c.args.end.now l in
    let len : c.len.result ≡ length c.keep.new.list.items = omega (arith, c.len.ensures, c.keep.new.list.ok) in
    acked_turn g.L.Driver.DriverEnd.driver g.L.Device.DeviceEnd.device g.L.Layout.layout g.met.L.Layout.lawful x v opens c.args.access
    c.access-word.result c.access-word.ensures c.in-Ack.number c.in-Ack.len c.in-Ack.head false c.in-Ack.is
    (subst (λ (z : Pending). DueIs g.L.Driver.DriverEnd.driver x v z (Some c.args.access)) c.in-Ack.is due)
    c.keep.new.list.items c.keep.ensures.items
    (sym (ne_eqb (length c.keep.new.list.items) (scripted l.script) (λ z. c.if-len-loaded.false
    (omega (arith, len, c.requires.plan.total, z)))))
