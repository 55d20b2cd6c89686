use Rattle.vd_switch.proofs.CommandBegins.{starts}
use Rattle.vd_switch.proofs.command_laws.command_start_law.Goals as goal

pub returns : goal.returns
returns g c = λ y begun words shadow_words v w sv sw ring shadow_ring control shadow_control same_takes same_gives even fresh device_fresh at
    from counted spelled old ones. starts g.L.Layout.layout y begun words shadow_words v w sv sw ring shadow_ring control shadow_control same_takes
    same_gives even fresh device_fresh at from counted spelled old ones
