use Rattle.std.proofs.Common.{refl, false, None}
use Rattle.vd_ring.specs.declared.frame.Frame.{Frame}
use Rattle.vd_layout.specs.Layout.{IsMadeWith}
use Rattle.vd_layout.specs.Both.{plain_frame}
use Rattle.vd_layout.proofs.PlainRings.{fresh_ring}
use Rattle.vd_layout.proofs.ring.PlainRing.make.Goals as goal

pub invariant_of-result : goal.invariant_of-result
invariant_of-result g c =
    let l = g.L.Layout.layout in
    let f : Frame = plain_frame l c.args.ring c.args.size c.args.f false None in
    let with : IsMadeWith l c.args.size c.args.f false f = record { packed = refl; size = refl; features = refl; control = refl } in
    (fresh_ring g.L.Driver.DriverEnd.driver g.L.Device.DeviceEnd.device l g.met.L.Layout.lawful c.args.ring c.args.size c.args.f
    c.in_ok-driver.driver c.in_ok-driver.device c.in_ok-words.words c.new-2.result.lists c.words-count.result c.most_chains.result
    c.requires c.in_ok-driver.ensures c.in_ok-words.ensures.0 c.in_ok-words.ensures.1
    (c.words-count.ensures f with) c.most_chains.ensures c.new-2.ensures).0

pub returns : goal.returns
returns g c =
    let l = g.L.Layout.layout in
    let f : Frame = plain_frame l c.args.ring c.args.size c.args.f false None in
    let with : IsMadeWith l c.args.size c.args.f false f = record { packed = refl; size = refl; features = refl; control = refl } in
    let made = fresh_ring g.L.Driver.DriverEnd.driver g.L.Device.DeviceEnd.device l g.met.L.Layout.lawful c.args.ring c.args.size
    c.args.f c.in_ok-driver.driver c.in_ok-driver.device c.in_ok-words.words c.new-2.result.lists c.words-count.result
    c.most_chains.result c.requires c.in_ok-driver.ensures c.in_ok-words.ensures.0 c.in_ok-words.ensures.1
    (c.words-count.ensures f with) c.most_chains.ensures c.new-2.ensures in
    (made.1, made.2, c.new-2.ensures, c.in_ok-driver.ensures.driver_unarmed, made.3, refl)
