use Rattle.std.proofs.Common.{◌≡◌, ◌+◌, refl, arith}
use Rattle.vd_models.proofs.SendPlaces.{ready_places, command_at, second_fits}
use Rattle.vd_models.proofs.sent.command_store.Goals as goal

pub command_place-place-requires : goal.command_place-place-requires
command_place-place-requires g c =
    let r = c.requires.ready in
    (r.0, ready_places g.met.L.Layout.lawful c.next_head.result r.0 (c.next_head.ensures r.0 r.1.stands) r.1)

pub overflow_add-result : goal.overflow_add-result
overflow_add-result g c =
    let r = c.requires.ready in
    let at = c.next_head.ensures r.0 r.1.stands in
    let p = ready_places g.met.L.Layout.lawful c.next_head.result r.0 at r.1 in
    omega (
      arith,
      second_fits g.met.L.Layout.lawful c.command_place-place.result r.0
          (command_at g.L.Driver.DriverEnd.driver c.next_head.result c.command_place-place.result r.0 at
          (c.command_place-place.ensures r.0 p)) r.1,
    )

pub returns-then-second : goal.returns-then-second
returns-then-second g c = λ v r.
    let at = c.next_head.ensures v r.stands in
    let p = ready_places g.met.L.Layout.lawful c.next_head.result v at r in
    let is = command_at g.L.Driver.DriverEnd.driver c.next_head.result c.command_place-place.result v at
    (c.command_place-place.ensures v p) in
    rw c.if-second.true (rw is (rw c.words_of-words.ensures.second refl))

pub returns-else-second : goal.returns-else-second
returns-else-second g c = λ v r.
    let at = c.next_head.ensures v r.stands in
    let p = ready_places g.met.L.Layout.lawful c.next_head.result v at r in
    let is = command_at g.L.Driver.DriverEnd.driver c.next_head.result c.command_place-place.result v at
    (c.command_place-place.ensures v p) in
    rw c.if-second.false (rw is (rw c.words_of-words.ensures.first refl))
