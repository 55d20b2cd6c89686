use Rattle.std.proofs.Common.{refl, sym, subst, List, false}
use Rattle.vd_model.specs.declared.chain.Piece.{Piece}
use Rattle.vd_ring.specs.Frames.{AreInBounds}
use Rattle.vd_layout.specs.laws.Runs.{driver_on, device_on}
use Rattle.vd_seats.specs.laws.Fresh.{starts, waits, driven, served}
use Rattle.vd_seats.proofs.Two.{two_fit}
use Rattle.vd_seats.proofs.tests.kinds.moves.Goals as goal

pub offer_chain-offered-requires : goal.offer_chain-offered-requires
offer_chain-offered-requires g c =
    let d = g.L.Driver.DriverEnd.driver in let e = g.L.Device.DeviceEnd.device in let l = g.L.Layout.layout in let law =
    g.met.L.Layout.lawful in
    let fresh = c.in_ok-driver.ensures in let seats = c.in_ok-table.ensures in (
      _,
      (starts d e l law fresh (record { packed = refl; size = refl; features = refl; control = refl }) seats),
      (record {
        fits = (two_fit l.packed 3 c.args.f false _ c.args.chain.now c.requires.chain c.pieces.ensures.lawful
            (subst (λ (xs : List Piece). AreInBounds c.bounds-bounds.result xs) (sym c.requires.chain) c.bounds-bounds.ensures));
        control =
            λ on. absurd (cc on);
      }),
    )

pub take_one-taken-requires : goal.take_one-taken-requires
take_one-taken-requires g c =
    let d = g.L.Driver.DriverEnd.driver in let e = g.L.Device.DeviceEnd.device in let l = g.L.Layout.layout in let law =
    g.met.L.Layout.lawful in
    let fresh = c.in_ok-driver.ensures in let seats = c.in_ok-table.ensures in
    (_, (waits d e l law fresh (record { packed = refl; size = refl; features = refl; control = refl }) seats))

pub give_one-requires : goal.give_one-requires
give_one-requires g c =
    let d = g.L.Driver.DriverEnd.driver in let e = g.L.Device.DeviceEnd.device in let l = g.L.Layout.layout in let law =
    g.met.L.Layout.lawful in
    let fresh = c.in_ok-driver.ensures in let seats = c.in_ok-table.ensures in
    let t = c.take_one-taken.ensures _
    (waits d e l law fresh (record { packed = refl; size = refl; features = refl; control = refl }) seats) in
    (t.view, t.on)

pub collect_one-collected-requires : goal.collect_one-collected-requires
collect_one-collected-requires g c =
    let d = g.L.Driver.DriverEnd.driver in let e = g.L.Device.DeviceEnd.device in let l = g.L.Layout.layout in let law =
    g.met.L.Layout.lawful in
    let fresh = c.in_ok-driver.ensures in let seats = c.in_ok-table.ensures in
    let o = c.offer_chain-offered.ensures _
    (starts d e l law fresh (record { packed = refl; size = refl; features = refl; control = refl }) seats)
    (record {
      fits = (two_fit l.packed 3 c.args.f false _ c.args.chain.now c.requires.chain c.pieces.ensures.lawful
          (subst (λ (xs : List Piece). AreInBounds c.bounds-bounds.result xs) (sym c.requires.chain) c.bounds-bounds.ensures));
      control =
          λ on. absurd (cc on);
    }) in
    (o.view, o.on)

pub close-counts-requires-clause-table : goal.close-counts-requires-clause-table
close-counts-requires-clause-table g c =
    let d = g.L.Driver.DriverEnd.driver in let e = g.L.Device.DeviceEnd.device in let l = g.L.Layout.layout in let law =
    g.met.L.Layout.lawful in
    let fresh = c.in_ok-driver.ensures in let seats = c.in_ok-table.ensures in
    let o = c.offer_chain-offered.ensures _
    (starts d e l law fresh (record { packed = refl; size = refl; features = refl; control = refl }) seats)
    (record {
      fits = (two_fit l.packed 3 c.args.f false _ c.args.chain.now c.requires.chain c.pieces.ensures.lawful
          (subst (λ (xs : List Piece). AreInBounds c.bounds-bounds.result xs) (sym c.requires.chain) c.bounds-bounds.ensures));
      control =
          λ on. absurd (cc on);
    }) in
    let t = c.take_one-taken.ensures _
    (waits d e l law fresh (record { packed = refl; size = refl; features = refl; control = refl }) seats) in (
      (driven d e l law seats (driver_on _ _ _ _ _ _ _ _ o (c.collect_one-collected.ensures o.view o.on))).1,
      (served d e l law seats (device_on _ _ _ _ _ _ _ _ t (c.give_one.ensures t.view t.on))).1,
    )

pub close-counts-requires-clause-drives : goal.close-counts-requires-clause-drives
close-counts-requires-clause-drives g c =
    let d = g.L.Driver.DriverEnd.driver in let e = g.L.Device.DeviceEnd.device in let l = g.L.Layout.layout in let law =
    g.met.L.Layout.lawful in
    let fresh = c.in_ok-driver.ensures in let seats = c.in_ok-table.ensures in
    let o = c.offer_chain-offered.ensures _
    (starts d e l law fresh (record { packed = refl; size = refl; features = refl; control = refl }) seats)
    (record {
      fits = (two_fit l.packed 3 c.args.f false _ c.args.chain.now c.requires.chain c.pieces.ensures.lawful
          (subst (λ (xs : List Piece). AreInBounds c.bounds-bounds.result xs) (sym c.requires.chain) c.bounds-bounds.ensures));
      control =
          λ on. absurd (cc on);
    }) in
    (driven d e l law seats (driver_on _ _ _ _ _ _ _ _ o (c.collect_one-collected.ensures o.view o.on))).0

pub close-counts-requires-clause-serves : goal.close-counts-requires-clause-serves
close-counts-requires-clause-serves g c =
    let d = g.L.Driver.DriverEnd.driver in let e = g.L.Device.DeviceEnd.device in let l = g.L.Layout.layout in let law =
    g.met.L.Layout.lawful in
    let fresh = c.in_ok-driver.ensures in let seats = c.in_ok-table.ensures in
    let t = c.take_one-taken.ensures _
    (waits d e l law fresh (record { packed = refl; size = refl; features = refl; control = refl }) seats) in
    (served d e l law seats (device_on _ _ _ _ _ _ _ _ t (c.give_one.ensures t.view t.on))).0
