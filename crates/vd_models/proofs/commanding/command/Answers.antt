use Rattle.std.proofs.Common.{◌≡◌, ◌+◌, sym, ◌∙◌, subst}
use Rattle.vd_words.specs.declared.access.Access.TheVariants.{Load}
use Rattle.vd_words.specs.declared.access.Op.TheVariants.{Control}
use Rattle.vd_ring.specs.declared.device.DeviceView.{DeviceView}
use Rattle.vd_models.specs.declared.hand.Hand.{Hand}
use Rattle.vd_models.specs.declared.hand.Hand.TheVariants.{Taken, Loaded, Executed}
use Rattle.vd_models.specs.Commanding.{OpensCommands}
use Rattle.vd_models.proofs.CommandAccesses.{taken_command_chain, loaded_command_chain, first_next, second_next, ack_next, first_loaded, second_loaded, ack_stored}
use Rattle.vd_models.proofs.commanding.command.Goals as goal

pub command_place-requires : goal.command_place-requires
command_place-requires g c =
    let r = c.requires.own in
    let is : c.args.hand.now ≡ Taken c.in-Taken.chain = sym c.replace.ensures.value ∙ c.in-Taken.is in
    taken_command_chain g.L.Driver.DriverEnd.driver g.L.Device.DeviceEnd.device g.L.Layout.layout g.met.L.Layout.lawful
    c.args.session.now c.args.begun.now r.0 c.in-Taken.chain
    (subst (λ (h : Hand). OpensCommands g.L.Device.DeviceEnd.device c.args.session.now h c.args.begun.now r.0) is r.1)

pub access-first-requires : goal.access-first-requires
access-first-requires g c =
    let r = c.requires.own in
    let is : c.args.hand.now ≡ Taken c.in-Taken.chain = sym c.replace.ensures.value ∙ c.in-Taken.is in
    subst (λ j. g.P.Port.port.allows c.args.port.now Control (Load j)) (sym c.command_place.ensures.place)
    (r.2.may Control (Load _) (first_next g.met.L.Layout.lawful.device_end c.args.session.now c.args.begun.now c.in-Taken.chain
    (subst (λ (h : Hand). OpensCommands g.L.Device.DeviceEnd.device c.args.session.now h c.args.begun.now r.0) is r.1)))

pub command_place-requires-in-Loaded : goal.command_place-requires-in-Loaded
command_place-requires-in-Loaded g c =
    let r = c.requires.own in
    let is : c.args.hand.now ≡ Loaded c.in-Loaded.chain c.in-Loaded.first = sym c.replace.ensures.value ∙ c.in-Loaded.is in
    loaded_command_chain g.L.Driver.DriverEnd.driver g.L.Device.DeviceEnd.device g.L.Layout.layout g.met.L.Layout.lawful
    c.args.session.now c.args.begun.now r.0 c.in-Loaded.chain c.in-Loaded.first
    (subst (λ (h : Hand). OpensCommands g.L.Device.DeviceEnd.device c.args.session.now h c.args.begun.now r.0) is r.1)

pub execute-requires-clause-chain : goal.execute-requires-clause-chain
execute-requires-clause-chain g c =
    let r = c.requires.own in
    let is : c.args.hand.now ≡ Loaded c.in-Loaded.chain c.in-Loaded.first = sym c.replace.ensures.value ∙ c.in-Loaded.is in
    loaded_command_chain g.L.Driver.DriverEnd.driver g.L.Device.DeviceEnd.device g.L.Layout.layout g.met.L.Layout.lawful
    c.args.session.now c.args.begun.now r.0 c.in-Loaded.chain c.in-Loaded.first
    (subst (λ (h : Hand). OpensCommands g.L.Device.DeviceEnd.device c.args.session.now h c.args.begun.now r.0) is r.1)

pub access-second-requires : goal.access-second-requires
access-second-requires g c =
    let r = c.requires.own in
    let is : c.args.hand.now ≡ Loaded c.in-Loaded.chain c.in-Loaded.first = sym c.replace.ensures.value ∙ c.in-Loaded.is in
    subst (λ j. g.P.Port.port.allows c.args.port.now Control (Load (j + 1))) (sym c.command_place-in-Loaded.ensures.place)
    (r.2.may Control (Load _) (second_next g.met.L.Layout.lawful.device_end c.args.session.now c.args.begun.now
    c.in-Loaded.chain c.in-Loaded.first
    (subst (λ (h : Hand). OpensCommands g.L.Device.DeviceEnd.device c.args.session.now h c.args.begun.now r.0) is r.1)))

pub access-requires : goal.access-requires
access-requires g c =
    let r = c.requires.own in
    let is : c.args.hand.now ≡ Executed c.in-Executed.place c.in-Executed.ack = sym c.replace.ensures.value ∙ c.in-Executed.is in
    r.2.may _ _ (ack_next g.met.L.Layout.lawful.device_end c.args.session.now c.args.begun.now c.in-Executed.place c.in-Executed.ack
    (subst (λ (h : Hand). OpensCommands g.L.Device.DeviceEnd.device c.args.session.now h c.args.begun.now r.0) is r.1))

pub returns-in-Taken-clause-turn : goal.returns-in-Taken-clause-turn
returns-in-Taken-clause-turn g c = λ w opens own.
    let is : c.args.hand.now ≡ Taken c.in-Taken.chain = sym c.replace.ensures.value ∙ c.in-Taken.is in
    rw is (first_loaded g.met.L.Layout.lawful.device_end c.args.session.now c.args.begun.now c.in-Taken.chain c.access-first.result
    (subst (λ (h : Hand). OpensCommands g.L.Device.DeviceEnd.device c.args.session.now h c.args.begun.now w) is opens)
    (subst (λ j. g.P.Port.port.moves c.args.port.now Control (Load j) c.access-first.result c.access-first.new.self)
    c.command_place.ensures.place c.access-first.ensures))

pub returns-in-Loaded-clause-turn : goal.returns-in-Loaded-clause-turn
returns-in-Loaded-clause-turn g c = λ w opens own.
    let is : c.args.hand.now ≡ Loaded c.in-Loaded.chain c.in-Loaded.first = sym c.replace.ensures.value ∙ c.in-Loaded.is in
    rw is (rw c.execute.ensures.hand (second_loaded g.met.L.Layout.lawful.device_end c.args.session.now c.args.begun.now c.execute.new.begun
    c.in-Loaded.chain c.in-Loaded.first c.access-second.result
    (subst (λ (h : Hand). OpensCommands g.L.Device.DeviceEnd.device c.args.session.now h c.args.begun.now w) is opens)
    (subst (λ j. g.P.Port.port.moves c.args.port.now Control (Load (j + 1)) c.access-second.result c.access-second.new.self)
    c.command_place-in-Loaded.ensures.place c.access-second.ensures) c.execute.ensures.begun c.execute.ensures.room))

pub returns-in-Executed-clause-turn : goal.returns-in-Executed-clause-turn
returns-in-Executed-clause-turn g c = λ w opens own.
    let is : c.args.hand.now ≡ Executed c.in-Executed.place c.in-Executed.ack = sym c.replace.ensures.value ∙ c.in-Executed.is in
    rw is (rw c.replace.ensures.after (ack_stored g.met.L.Layout.lawful.device_end c.args.session.now c.args.begun.now
    c.in-Executed.place c.in-Executed.ack c.access.result
    (subst (λ (h : Hand). OpensCommands g.L.Device.DeviceEnd.device c.args.session.now h c.args.begun.now w) is opens) c.access.ensures))
