use Rattle.std.proofs.Common.{length, subst, ap, ◌∙◌}
use Rattle.vd_relayed.specs.Bridges.{Parts}
use Rattle.vd_relayed.specs.Steps.{BeginsWindUp}
use Rattle.vd_relayed.proofs.bridge.Bridge.begin_wind_up.Goals as goal

pub invariant_of-self : goal.invariant_of-self
invariant_of-self g c =
    let i = c.self.invariant.0 in (
      record {
        start = i.start;
        view = i.view;
        device_view = i.device_view;
        shadow_view = i.shadow_view;
        shadow_device_view = i.shadow_device_view;
        ring = i.ring;
        shadow_ring = i.shadow_ring;
        drives = i.drives;
        serves = i.serves;
        relays = c.begin_wind_up.ensures.holds c.self.invariant.1 i.start i.device_view i.shadow_view i.relays;
        map = i.map;
      },
      c.begin_wind_up.ensures.plain c.self.invariant.1,
    )

pub returns-clause-stands : goal.returns-clause-stands
returns-clause-stands g c = (invariant_of-self g c).0

pub returns-clause-begun : goal.returns-clause-begun
returns-clause-begun g c =
    let after : Parts g.row.L-Device.Denot g.row.L-Driver.Denot g.row.G.Denot g.row.V.Denot = record {
      guest = c.self.inside.guest;
      words = c.self.inside.words;
      state = c.begin_wind_up.new.self.state;
      counts = c.begin_wind_up.new.self.counts;
      settings = c.begin_wind_up.new.self.settings;
      shadow = c.self.inside.shadow_words;
      device = c.self.inside.device;
      map = c.self.inside.tree.mappings;
    } in
    λ begun. subst (λ b. BeginsWindUp g.L.Driver.DriverEnd.driver g.L.Device.DeviceEnd.device g.V.Device.party b after) c.self.view_is
    record {
      winding = c.begin_wind_up.ensures.winding;
      target = c.begin_wind_up.ensures.target ∙ c.len-begun.ensures.value ∙ ap length c.journal.ensures.begun;
      live = c.begin_wind_up.ensures.live;
      holds = c.begin_wind_up.ensures.holds c.self.invariant.1;
    }
