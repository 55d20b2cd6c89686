use Rattle.std.proofs.Common.{◌≡◌, None, sym, subst}
use Rattle.vd_uapi.specs.declared.vring_addr.VringAddr.{VringAddr}
use Rattle.vd_bus.specs.BusRings.{still_fault}
use Rattle.vd_machine.specs.File.{view}
use Rattle.vd_play.proofs.Buses.{no_num_fault, no_addr_fault}
use Rattle.vd_play.proofs.control_ring.bring_ring.Goals as goal

pub set_num-requires : goal.set_num-requires
set_num-requires c =
    no_num_fault (view c.args.m.now) c.args.bus.now c.requires.brought c.args.queue c.requires.there c.args.m.now.sized

pub set_addr-requires : goal.set_addr-requires
set_addr-requires c = subst (λ (a : VringAddr). still_fault c.set_num.new.bus a.index ≡ None) (sym c.ring_addr.ensures)
    (no_addr_fault (view c.args.m.now) c.args.bus.now c.requires.brought c.args.queue c.requires.there c.set_num.new.bus c.set_num.ensures)
