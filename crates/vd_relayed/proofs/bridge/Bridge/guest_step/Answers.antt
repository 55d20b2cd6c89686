use Rattle.std.proofs.Common.{ℕ, List, sym, subst, ap, ◌∙◌}
use Rattle.vd_words.specs.Plain.{RingWords}
use Rattle.vd_relayed.proofs.bridge.Bridge.guest_step.Goals as goal

pub shape_of-self-inside : goal.shape_of-self-inside
shape_of-self-inside g c =
    let i = c.self.invariant.0 in
    let h = c.step_guest.ensures c.self.inside.words.words i.view i.device_view (ap (λ (x : RingWords). x.words) c.port.ensures.words)
    i.ring i.drives in
    sym c.port.ensures.same ∙ sym h.same.0

pub invariant_of-self : goal.invariant_of-self
invariant_of-self g c =
    let i = c.self.invariant.0 in
    let h = c.step_guest.ensures c.self.inside.words.words i.view i.device_view (ap (λ (x : RingWords). x.words) c.port.ensures.words)
    i.ring i.drives in
    let view = g.L.Driver.DriverEnd.driver.side.after i.view h.made.op h.made.access h.made.got in (
      record {
        start = i.start;
        view = view;
        device_view = i.device_view;
        shadow_view = i.shadow_view;
        shadow_device_view = i.shadow_device_view;
        ring = subst (λ (us : List ℕ). g.L.Layout.layout.ring us view i.device_view) (sym h.plain) h.ring;
        shadow_ring = i.shadow_ring;
        drives = h.made.holds;
        serves = i.serves;
        relays = i.relays;
        map = i.map;
      },
      c.self.invariant.1,
    )
