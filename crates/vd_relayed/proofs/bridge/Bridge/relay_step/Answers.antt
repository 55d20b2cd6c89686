use Rattle.std.proofs.Common.{◌≡◌, ℕ, List, sym, subst, ap, refl, ◌∙◌}
use Rattle.vd_words.specs.Plain.{RingWords}
use Rattle.vd_relayed.specs.Bridges.{Parts}
use Rattle.vd_relayed.proofs.OnWords.{relay_steps}
use Rattle.vd_relayed.proofs.bridge.Bridge.relay_step.Goals as goal

pub shape_of-self-inside : goal.shape_of-self-inside
shape_of-self-inside g c =
    let i = c.self.invariant.0 in
    let h = c.step_relay.ensures.step i.start c.self.inside.words.words c.self.inside.shadow_words.words i.view i.device_view i.shadow_view
    i.shadow_device_view (ap (λ (x : RingWords). x.words) c.port.ensures.words) (ap (λ (x : RingWords). x.words) c.port-2.ensures.words)
    i.ring i.shadow_ring i.relays i.map in
    sym c.port-2.ensures.same ∙ sym h.shadow_same.0

pub shape_of-self-inside-2 : goal.shape_of-self-inside-2
shape_of-self-inside-2 g c =
    let i = c.self.invariant.0 in
    let h = c.step_relay.ensures.step i.start c.self.inside.words.words c.self.inside.shadow_words.words i.view i.device_view i.shadow_view
    i.shadow_device_view (ap (λ (x : RingWords). x.words) c.port.ensures.words) (ap (λ (x : RingWords). x.words) c.port-2.ensures.words)
    i.ring i.shadow_ring i.relays i.map in
    sym c.port.ensures.same ∙ sym h.same.0

pub invariant_of-self : goal.invariant_of-self
invariant_of-self g c =
    let i = c.self.invariant.0 in
    let l = g.L.Layout.layout in
    let h = c.step_relay.ensures.step i.start c.self.inside.words.words c.self.inside.shadow_words.words i.view i.device_view i.shadow_view
    i.shadow_device_view (ap (λ (x : RingWords). x.words) c.port.ensures.words) (ap (λ (x : RingWords). x.words) c.port-2.ensures.words)
    i.ring i.shadow_ring i.relays i.map in (
      record {
        start = i.start;
        view = i.view;
        device_view = h.view;
        shadow_view = h.shadow_view;
        shadow_device_view = i.shadow_device_view;
        ring = subst (λ (us : List ℕ). l.ring us i.view h.view) (sym h.plain) h.ring;
        shadow_ring = subst (λ (us : List ℕ). l.ring us h.shadow_view i.shadow_device_view) (sym h.shadow_plain) h.shadow_ring;
        drives = i.drives;
        serves = i.serves;
        relays = h.holds;
        map = i.map;
      },
      c.step_relay.ensures.plain,
    )

pub returns-clause-stands : goal.returns-clause-stands
returns-clause-stands g c = (invariant_of-self g c).0

pub returns-clause-step : goal.returns-clause-step
returns-clause-step g c =
    let words : c.port.result.at.now.words ≡ c.self.inside.words.words = ap (λ (x : RingWords). x.words) c.port.ensures.words in
    let shadow : c.port-2.result.at.now.words ≡ c.self.inside.shadow_words.words = ap (λ (x : RingWords). x.words) c.port-2.ensures.words in
    let after : Parts g.row.L-Device.Denot g.row.L-Driver.Denot g.row.G.Denot g.row.V.Denot = record {
      guest = c.self.inside.guest;
      words = c.step_relay.new.port.at.now;
      state = c.step_relay.new.relay.state;
      counts = c.step_relay.new.relay.counts;
      settings = c.step_relay.new.relay.settings;
      shadow = c.step_relay.new.other.at.now;
      device = c.self.inside.device;
      map = c.self.inside.tree.mappings;
    } in
    relay_steps _ (λ p. p.at.now) (λ p op a r q moved. moved.1) g.L.Driver.DriverEnd.driver g.L.Device.DeviceEnd.device g.L.Layout.layout
    _ c.args.self.now after c.step_relay.result c.port.result c.step_relay.new.port c.port-2.result c.step_relay.new.other c.self.view_is
    c.port.ensures.words refl c.port-2.ensures.words refl
    (λ z v w sv sw ring shadow_ring holds map. c.step_relay.ensures.step z c.self.inside.words.words c.self.inside.shadow_words.words v w
    sv sw words shadow ring shadow_ring holds map)
