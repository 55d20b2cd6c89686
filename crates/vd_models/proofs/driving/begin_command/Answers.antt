use Rattle.std.proofs.Common.{◌∙◌, ap, sym, Some, rules}
use Rattle.vd_model.specs.Chains.{IsChain}
use Rattle.vd_models.specs.Driving.{drive}
use Rattle.vd_models.proofs.Begins.{begins_command}
use Rattle.vd_models.proofs.SendAccess.{begun_both, held_both, chain_both, may_send, next_sent}
use Rattle.vd_models.proofs.driving.begin_command.Goals as goal

pub command_chain-chain-requires-clause-ready : goal.command_chain-chain-requires-clause-ready
command_chain-chain-requires-clause-ready g c =
    let r = c.requires.can in (
      r.0,
      begun_both g.L.Driver.DriverEnd.driver g.L.Device.DeviceEnd.device g.L.Layout.layout g.met.L.Layout.lawful
          (drive c.args.end.now c.args.loaded.now) r.0 r.1 c.requires.both c.requires.idle,
    )

pub begin_offer-requires-clause-may : goal.begin_offer-requires-clause-may
begin_offer-requires-clause-may g c =
    let d = g.L.Driver.DriverEnd.driver in
    let e = g.L.Device.DeviceEnd.device in
    let l = g.L.Layout.layout in
    let lay = g.met.L.Layout.lawful in
    let x = drive c.args.end.now c.args.loaded.now in
    let r = c.requires.can in
    let ready = begun_both d e l lay x r.0 r.1 c.requires.both c.requires.idle in
    let is : IsChain c.command_chain-chain.result = search rules in
    let same = chain_both d e l lay x r.0 r.1 c.requires.both c.in-Some.command.now c.len.result c.command_chain-chain.result
    c.in-Some.ensures c.len.ensures.value (c.command_chain-chain.ensures r.0 ready) in (
      r.0,
      r.1.drives.stands,
      may_send d e l lay x r.0 r.1 c.command_chain-chain.result (held_both d e l lay x r.0 r.1 c.requires.both)
          is same,
    )

pub returns-clause-next : goal.returns-clause-next
returns-clause-next g c = λ v h due.
    let d = g.L.Driver.DriverEnd.driver in
    let e = g.L.Device.DeviceEnd.device in
    let l = g.L.Layout.layout in
    let lay = g.met.L.Layout.lawful in
    let x = drive c.args.end.now c.args.loaded.now in
    let ready = begun_both d e l lay x v h c.requires.both c.requires.idle in
    let is : IsChain c.command_chain-chain.result = search rules in
    let held = held_both d e l lay x v h c.requires.both in
    let same = chain_both d e l lay x v h c.requires.both c.in-Some.command.now c.len.result c.command_chain-chain.result
    c.in-Some.ensures c.len.ensures.value (c.command_chain-chain.ensures v ready) in
    begins_command d l lay.driver_end x c.begin_offer.new.self v h c.requires.idle c.command_chain-chain.result c.requires.both
    (next_sent d e l lay x v h 2 held ∙ ap Some (sym same)) c.begin_offer.ensures.begun
    (c.begin_offer.ensures.stands v h.drives.stands (may_send d e l lay x v h c.command_chain-chain.result held is same))
    c.begin_offer.ensures.left
