use Rattle.std.proofs.Common.{ℕ, List, false, ◌∙◌, ap, subst}
use Rattle.vd_model.specs.declared.chain.Piece.{Piece}
use Rattle.vd_layout.specs.Driver.{HasRoom}
use Rattle.vd_models.specs.Driving.{drive}
use Rattle.vd_models.specs.Sent.{next_store}
use Rattle.vd_models.proofs.SendAccess.{ready_by, held_none, stores_first}
use Rattle.vd_models.proofs.sending.room_store.Goals as goal

pub command_store-requires-clause-ready : goal.command_store-requires-clause-ready
command_store-requires-clause-ready g c =
    let d = g.L.Driver.DriverEnd.driver in
    let e = g.L.Device.DeviceEnd.device in
    let l = g.L.Layout.layout in
    let lay = g.met.L.Layout.lawful in
    let x = drive c.args.end.now c.args.loaded.now in
    let r = c.requires.opens in
    let room = subst (λ (z : List Piece). HasRoom r.0.frame r.0.done z) c.control_chain.ensures
    ((c.room.ensures r.0 r.1.drives.stands).0 c.if-room.true) in (
      r.0,
      ready_by d e l lay x r.0 r.1 0 (held_none d e l lay x r.0 r.1 c.in-Some.command.now c.in-Some.ensures c.len.result
          c.len.ensures.value room) c.requires.idle,
    )

pub returns-in-Some : goal.returns-in-Some
returns-in-Some g c = λ v h.
    let d = g.L.Driver.DriverEnd.driver in
    let e = g.L.Device.DeviceEnd.device in
    let l = g.L.Layout.layout in
    let lay = g.met.L.Layout.lawful in
    let x = drive c.args.end.now c.args.loaded.now in
    let room = subst (λ (z : List Piece). HasRoom v.frame v.done z) c.control_chain.ensures
    ((c.room.ensures v h.drives.stands).0 c.if-room.true) in
    let held = held_none d e l lay x v h c.in-Some.command.now c.in-Some.ensures c.len.result c.len.ensures.value room in
    stores_first d e l lay x v h c.in-Some.command.now c.command_store.result c.in-Some.ensures c.len.result c.len.ensures.value room
    c.requires.idle c.requires.offering
    (c.command_store.ensures v (ready_by d e l lay x v h 0 held c.requires.idle)
    ∙ ap (λ (z : List ℕ). next_store d v z false) c.as_slice.ensures.value)
