use Rattle.vd_switch.proofs.CommandAnswers.{device_settings}
use Rattle.vd_switch.proofs.command_laws.command_settings_law.Goals as goal

pub returns : goal.returns
returns g c = λ y begun now words shadow_words v w sv sw h k.
    device_settings g.L.Layout.layout y begun now words shadow_words v w sv sw h k
