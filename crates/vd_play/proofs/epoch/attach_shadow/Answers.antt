use Rattle.std.proofs.Common.{◌≡◌, ◌-◌, Some, Bool, false, length, slice_get, sym, refl, ap, subst, arith, ◌∙◌}
use Rattle.std.specs.Option.{option_copied}
use Rattle.std.proofs.lemmas.Bool.{false≢true}
use Rattle.vd_control.specs.Settings.{HasPairs}
use Rattle.vd_bus.specs.Bus.{BusState}
use Rattle.vd_bus.specs.BusRings.{terms}
use Rattle.vd_bus.specs.Device.{IsAttach}
use Rattle.vd_bus.specs.Orders.{Terms}
use Rattle.vd_switch.specs.Kits.{IsKit}
use Rattle.vd_switch.specs.Stills.{Shadows}
use Rattle.vd_play.specs.declared.floor.ShadowRing.{ShadowRing}
use Rattle.vd_play.specs.Setup.{serving}
use Rattle.vd_play.proofs.KitsTaken.{last_got, kit_base, default_pairs}
use Rattle.vd_play.proofs.Lists.{some_same}
use Rattle.vd_play.proofs.epoch.attach_shadow.Goals as goal

pub to_shadow-requires-clause-pairs : goal.to_shadow-requires-clause-pairs
to_shadow-requires-clause-pairs g c = subst HasPairs (sym c.new.ensures.settings) default_pairs

pub to_shadow-requires-clause-queue : goal.to_shadow-requires-clause-queue
to_shadow-requires-clause-queue g c =
    let ordered : c.order-order.result.queue ≡ c.args.queue = ap (λ (z : Terms). z.queue) c.order-order.ensures in (
      λ on. absurd (false≢true (sym c.new.ensures.control ∙ on)),
      λ of. absurd (omega (arith, of, ordered, c.requires.can.low)),
    )

pub to_shadow-requires-clause-kit : goal.to_shadow-requires-clause-kit
to_shadow-requires-clause-kit g c =
    let d = g.L.Driver.DriverEnd.driver in
    let e = g.L.Device.DeviceEnd.device in
    let l = g.L.Layout.layout in
    let t : Terms = terms (serving c.args.bus.now c.args.queue) c.args.queue c.args.count in
    let kits = c.args.lane.now.kits.items in
    let last : slice_get kits (length kits - 1) ≡ Some c.in-Some-pop.ring =
    last_got kits c.pop.new.self.items c.in-Some-pop.ring c.in-Some-pop.ensures.items in
    let same = some_same c.requires.shadow.ring c.in-Some-pop.ring (slice_get kits (length kits - 1)) c.requires.shadow.next last in (
      t.size,
      t.features,
      subst (λ (b : Bool). IsKit d e l t.size t.features b c.in-Some-pop.ring.kit.driver c.in-Some-pop.ring.kit.device
          c.in-Some-pop.ring.kit.table) (sym c.new.ensures.control)
          (subst (λ (r : ShadowRing _ _ _). IsKit d e l t.size t.features false r.kit.driver r.kit.device r.kit.table) same
          c.requires.shadow.kit),
      λ w stands. c.requires.shadow.framed c.in-Some.end w (sym c.take.ensures.value ∙ c.in-Some.is)
          (subst (λ z. e.stands z w) c.new.ensures.end stands),
    )

pub to_shadow-requires-clause-base : goal.to_shadow-requires-clause-base
to_shadow-requires-clause-base g c =
    let d = g.L.Driver.DriverEnd.driver in
    let e = g.L.Device.DeviceEnd.device in
    let l = g.L.Layout.layout in
    let t : Terms = terms (serving c.args.bus.now c.args.queue) c.args.queue c.args.count in
    let kits = c.args.lane.now.kits.items in
    let last : slice_get kits (length kits - 1) ≡ Some c.in-Some-pop.ring =
    last_got kits c.pop.new.self.items c.in-Some-pop.ring c.in-Some-pop.ensures.items in
    let same = some_same c.requires.shadow.ring c.in-Some-pop.ring (slice_get kits (length kits - 1)) c.requires.shadow.next last in
    let kit = subst (λ (r : ShadowRing _ _ _). IsKit d e l t.size t.features false r.kit.driver r.kit.device r.kit.table) same
    c.requires.shadow.kit in
    let ordered : c.order-order.result ≡ t =
    c.order-order.ensures ∙ ap (λ (b : BusState). terms b c.args.queue c.args.count) c.enable.ensures in
    kit_base d e l t.size t.features _ _ _ g.met.L.Layout.lawful kit ∙ sym (ap (λ b. b.0) c.requires.shadow.base)
    ∙ sym (ap (λ (z : Terms). z.base.0) ordered)

pub returns-in-Ok-clause-ok : goal.returns-in-Ok-clause-ok
returns-in-Ok-clause-ok g c =
    let d = g.L.Driver.DriverEnd.driver in
    let e = g.L.Device.DeviceEnd.device in
    let t : Terms = terms (serving c.args.bus.now c.args.queue) c.args.queue c.args.count in
    let kits = c.args.lane.now.kits.items in
    let last : slice_get kits (length kits - 1) ≡ Some c.in-Some-pop.ring =
    last_got kits c.pop.new.self.items c.in-Some-pop.ring c.in-Some-pop.ensures.items in
    let ordered : c.order-order.result ≡ t =
    c.order-order.ensures ∙ ap (λ (b : BusState). terms b c.args.queue c.args.count) c.enable.ensures in
    let made = c.in-Ok.ensures in
    let kit = c.in-Some-pop.ring.kit in
    let relay = c.in-Ok.shadowing.relay in (
      c.take.ensures.after,
      record {
        end = c.in-Some.end;
        ring = c.in-Some-pop.ring;
        was = sym c.take.ensures.value ∙ c.in-Some.is;
        next = last;
        lane = record { lane = c.in-Ok.shadowing; words = c.in-Some-pop.ring.words };
        is = refl;
        words = refl;
        relays = subst (λ z. Shadows e d z kit.driver kit.table.origins relay.state relay.counts) c.new.ensures.end
            (made.0 c.new.ensures.control).1;
        fresh = made.2;
        plain = (made.0 c.new.ensures.control).0;
        attached = subst (λ (z : Terms). IsAttach e g.V.Device.party z (option_copied c.args.control) kit.device c.args.device.now
            c.to_shadow.new.device) ordered
            made.4;
      },
    )
