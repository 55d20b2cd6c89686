use Rattle.vd_switch.proofs.CommandAnswers.{all_answers}
use Rattle.vd_switch.proofs.command_laws.answers_law.Goals as goal

pub returns : goal.returns
returns g c = λ y begun words v w ring h old.
    all_answers g.L.Device.DeviceEnd.device g.L.Driver.DriverEnd.driver g.L.Layout.layout g.met.L.Layout.lawful y begun words v w ring h old
