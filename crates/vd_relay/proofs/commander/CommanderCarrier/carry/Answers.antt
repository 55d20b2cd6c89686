use Rattle.std.proofs.Common.{refl, subst, sym, ap}
use Rattle.vd_relay.specs.declared.carry.Carry.TheVariants as carry
use Rattle.vd_relay.specs.Ways.{Way, Pairs, Carries}
use Rattle.vd_relay.proofs.CarryPlaces.{command_at}
use Rattle.vd_relay.proofs.CarryChains.{has_free, same_bare, is_control, found_is}
use Rattle.vd_relay.proofs.commander.CommanderCarrier.carry.Goals as goal

pub found_of-requires : goal.found_of-requires
found_of-requires g c =
    let w = c.requires.1 in
    let v = c.requires.2 in
    let h = c.requires.3 in
    let paired = subst (λ (y : Way). Pairs y w.frame v.frame) h.goes.1 h.paired in
    command_at g.L.Layout.layout g.L.Driver.DriverEnd.driver g.L.Device.DeviceEnd.device g.met.L.Layout.lawful w h.head h.framed
    paired.guest_control h.taken.inside c.args.chain.now h.taken

pub to_next_head-requires-clause-chain : goal.to_next_head-requires-clause-chain
to_next_head-requires-clause-chain g c =
    let w = c.requires.1 in
    let v = c.requires.2 in
    let h = c.requires.3 in
    let paired = subst (λ (y : Way). Pairs y w.frame v.frame) h.goes.1 h.paired in
    command_at g.L.Layout.layout g.L.Driver.DriverEnd.driver g.L.Device.DeviceEnd.device g.met.L.Layout.lawful w h.head h.framed
    paired.guest_control h.taken.inside c.args.chain.now h.taken

pub returns-clause-carried : goal.returns-clause-carried
returns-clause-carried g c = λ way w v h.
    let l = g.L.Layout.layout in
    let e = g.L.Device.DeviceEnd.device in
    let d = g.L.Driver.DriverEnd.driver in
    let lay = g.met.L.Layout.lawful in
    let paired = subst (λ (y : Way). Pairs y w.frame v.frame) h.goes.1 h.paired in
    let chain = h.taken.control paired.guest_control in
    let is = c.to_next_head.ensures.value v
    (has_free l d e lay c.args.shadow.now w.frame v h.drives paired h.goes.2 h.has_free) in
    record {
      carries = subst (λ (y : Way). Carries y c.args.chain.now c.to_next_head.new.chain) (sym h.goes.1)
          (same_bare _ _ _ _ c.args.chain.now c.to_next_head.new.chain chain is);
      control = λ on. is_control _ _ _ _ c.args.chain.now c.to_next_head.new.chain chain is;
      goes = h.goes;
      took = (
        refl,
        λ a b at. ap carry.First (found_is c.found_of.result c.args.number a b _ c.found_of.ensures.number
            (c.found_of.ensures.places a b at).0 (c.found_of.ensures.places a b at).1 c.found_of.ensures.count),
      );
    }
