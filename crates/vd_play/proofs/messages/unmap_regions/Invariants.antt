use Rattle.std.proofs.Common.{◌≡◌, drop}
use Rattle.vd_machine.specs.File.{view}
use Rattle.vd_play.specs.Journal.{map_in}
use Rattle.vd_play.specs.Setup.{with_map}
use Rattle.vd_play.proofs.messages.unmap_regions.Given as goal

abbrev pub invariant-loop-i : goal.invariant-loop-i
invariant-loop-i l = l.bus ≡ with_map l.initial.bus (drop l.i (map_in (view l.m) l.mode))
