use Rattle.vd_control_lane.proofs.GuestTurns.{guest_keeps, answers_stay}
use Rattle.vd_control_lane.proofs.turn_laws.guest_turn_law.Goals as goal

pub returns : goal.returns
returns g c = λ x r k s n begun now words words2 shadow_words v w sv sw script y z made h holds has some can t.
    let l = g.L.Layout.layout in let e = g.L.Device.DeviceEnd.device in let d = g.L.Driver.DriverEnd.driver in
    let law = g.met.L.Layout.lawful in let m = g.G.Guest.party in let mlaw = g.met.G.Guest.lawful in (
      guest_keeps l e d law m mlaw x r k s n begun now words words2 shadow_words v w sv sw script y z made h holds has
          (λ b u bu bs. mlaw.sent b u script bu bs some) can t,
      answers_stay l e d law m mlaw x r k s n begun now words words2 shadow_words v w sv sw script y z made h holds has
          (λ b u bu bs. mlaw.sent b u script bu bs some) can t,
    )
