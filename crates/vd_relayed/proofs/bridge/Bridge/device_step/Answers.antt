use Rattle.std.proofs.Common.{ℕ, List, sym, subst, ap, ◌∙◌}
use Rattle.vd_words.specs.Plain.{RingWords}
use Rattle.vd_relayed.proofs.bridge.Bridge.device_step.Goals as goal

pub shape_of-self-inside : goal.shape_of-self-inside
shape_of-self-inside g c =
    let i = c.self.invariant.0 in
    let h = c.step_device.ensures c.self.inside.shadow_words.words i.shadow_view i.shadow_device_view
    (ap (λ (x : RingWords). x.words) c.port.ensures.words) i.shadow_ring i.serves in
    sym c.port.ensures.same ∙ sym h.same.0

pub invariant_of-self : goal.invariant_of-self
invariant_of-self g c =
    let i = c.self.invariant.0 in
    let h = c.step_device.ensures c.self.inside.shadow_words.words i.shadow_view i.shadow_device_view
    (ap (λ (x : RingWords). x.words) c.port.ensures.words) i.shadow_ring i.serves in
    let view = g.L.Device.DeviceEnd.device.side.after i.shadow_device_view h.made.op h.made.access h.made.got in (
      record {
        start = i.start;
        view = i.view;
        device_view = i.device_view;
        shadow_view = i.shadow_view;
        shadow_device_view = view;
        ring = i.ring;
        shadow_ring = subst (λ (us : List ℕ). g.L.Layout.layout.ring us i.shadow_view view) (sym h.plain) h.ring;
        drives = i.drives;
        serves = h.made.holds;
        relays = i.relays;
        map = i.map;
      },
      c.self.invariant.1,
    )
