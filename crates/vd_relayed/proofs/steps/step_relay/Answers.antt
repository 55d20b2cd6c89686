use Rattle.std.proofs.Common.{sym, subst, inl, inr}
use Rattle.vd_words.specs.Step.{written}
use Rattle.vd_layout.specs.laws.Plain.{plain_step, own_plain_device, own_plain_driver}
use Rattle.vd_relayed.proofs.steps.step_relay.Goals as goal

pub step-requires-clause-own : goal.step-requires-clause-own
step-requires-clause-own g c = λ plain.
    let r = c.requires.on in
    let d = g.L.Driver.DriverEnd.driver in
    let e = g.L.Device.DeviceEnd.device in
    let l = g.L.Layout.layout in
    let law = g.met.L.Layout.lawful in (
      r.0,
      r.4,
      r.5,
      r.11,
      r.12,
      own_plain_device g.P.Port.port g.met.P.Port.lawful d e l law c.args.port.now r.1 r.3 r.4 r.7 r.9,
      own_plain_driver g.Q.Port.port g.met.Q.Port.lawful d e l law c.args.other.now r.2 r.5 r.6 r.8 r.10,
    )

pub returns-clause-step : goal.returns-clause-step
returns-clause-step g c = λ z ws shadow_ws v w sv sw plain shadow_plain ring shadow_ring holds is.
    let d = g.L.Driver.DriverEnd.driver in
    let e = g.L.Device.DeviceEnd.device in
    let l = g.L.Layout.layout in
    let law = g.met.L.Layout.lawful in
    let p = g.P.Port.port in
    let q = g.Q.Port.port in
    let own = own_plain_device p g.met.P.Port.lawful d e l law c.args.port.now ws v w plain ring in
    let other = own_plain_driver q g.met.Q.Port.lawful d e l law c.args.other.now shadow_ws sv sw shadow_plain shadow_ring in
    let s = c.step.ensures.step c.requires.plain z w sv holds is own other in
    elim s.made [
      | inl x ↦ (
          let o = x.1 in
          let m = plain_step p g.met.P.Port.lawful e.side (λ us u. l.ring us v u) c.args.port.now c.step.new.guest_port ws w o.op o.access
          o.got (law.device_keeps ws v w o.op o.access ring o.was_next) plain o.moved in
          record {
            words = written ws o.access;
            shadow_words = shadow_ws;
            view = e.side.after w o.op o.access o.got;
            shadow_view = sv;
            same = m.same;
            plain = m.plain;
            shadow_same = subst (λ y. q.same c.args.other.now y) (sym x.0) (g.met.Q.Port.lawful.same_refl c.args.other.now);
            shadow_plain = subst (λ y. q.plain y shadow_ws) (sym x.0) shadow_plain;
            made = s;
            ring = m.meets;
            shadow_ring = shadow_ring;
            holds = o.holds;
          }
          )
      | inr x ↦ (
          let o = x.1 in
          let m = plain_step q g.met.Q.Port.lawful d.side (λ us u. l.ring us u sw) c.args.other.now c.step.new.shadow_port shadow_ws sv o.op
          o.access o.got (law.driver_keeps shadow_ws sv sw o.op o.access shadow_ring o.was_next) shadow_plain o.moved in
          record {
            words = ws;
            shadow_words = written shadow_ws o.access;
            view = w;
            shadow_view = d.side.after sv o.op o.access o.got;
            same = subst (λ y. p.same c.args.port.now y) (sym x.0) (g.met.P.Port.lawful.same_refl c.args.port.now);
            plain = subst (λ y. p.plain y ws) (sym x.0) plain;
            shadow_same = m.same;
            shadow_plain = m.plain;
            made = s;
            ring = ring;
            shadow_ring = m.meets;
            holds = o.holds;
          }
          )
    ]
