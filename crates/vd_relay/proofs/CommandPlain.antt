-- A relay of a control queue that carries is a relay: it holds, with what is due left out, and its turns are those of any relay.
use Rattle.std.proofs.Common.{◌≡◌, ℕ, ◌+◌, Bool, false, sym, subst, arith}
use Rattle.vd_words.specs.Model.{PortModel}
use Rattle.vd_ring.specs.declared.device.DeviceView.{DeviceView}
use Rattle.vd_ring.specs.declared.driver.DriverView.{DriverView}
use Rattle.vd_layout.specs.Driver.{DriverModel}
use Rattle.vd_layout.specs.Device.{DeviceModel}
use Rattle.vd_layout.specs.Layout.{LayoutModel, IsLawfulLayout}
use Rattle.vd_layout.specs.declared.moves.Move.{Move}
use Rattle.vd_control.specs.declared.settings.Settings.{Settings}
use Rattle.vd_relay.specs.declared.commander.Commander.{Commander}
use Rattle.vd_relay.specs.declared.counts.Counts.{Counts}
use Rattle.vd_relay.specs.declared.counts.Turn.{Turn}
use Rattle.vd_relay.specs.declared.state.State.{State}
use Rattle.vd_relay.specs.Pace.{KeepsPace, move_of}
use Rattle.vd_relay.specs.Stages.{is_rested}
use Rattle.vd_relay.specs.Relay.{Holds, IsKept, ShadowWaits, GuestWaits, owes}
use Rattle.vd_relay.specs.Carriers.{CarriesOn}
use Rattle.vd_relay.specs.Tellings.{TellsOf}
use Rattle.vd_relay.specs.Commanders.{commander}
use Rattle.vd_relay.specs.Commanding.{Takeover, carries}
use Rattle.vd_relay.specs.Underway.{due, owed}
use Rattle.vd_relay.specs.CommandSteps.{CommandHolds, OnGuestCommand, OnShadowCommand}
use Rattle.vd_relay.proofs.Steps.{Noted, on_guest_to, on_shadow_to, paces}
use Rattle.vd_relay.proofs.CommandTurns.{guest_leaves, shadow_leaves}

pub pace_part : (c : Counts) (i j : ℕ) → KeepsPace c (i + j) → KeepsPace c j
pace_part c i j pace = λ a b q. omega (arith, pace a b q)

module _ {E D : Type 0} (l : LayoutModel) (e : DeviceModel E) (d : DriverModel D) (z : Takeover) (r : State E D) (x : Commander)
    (s : Settings) (c : Counts) (w : DeviceView) (v : DriverView) (h : CommandHolds l e d z r x s c w v) where
  -- as any relay's
  pub plain : Holds e d (carries z) r c w v
  plain = record {
    stands = h.commands.stands;
    pace = pace_part c (due x.hand) (owes e d r w v) h.pace;
    hears_guest = h.hears_guest;
    hears_shadow = h.hears_shadow;
    leaves = h.leaves;
  }

  module _ {P : Type 0} (port : PortModel P) (lay : IsLawfulLayout d e l) (p q : P) (r' : State E D) (x' : Commander) (c' : Counts)
      (turn : Turn) (said : Move) (b : Bool) (live : is_rested r.stage ≡ false) (none : due x.hand ≡ 0) (is : said ≡ move_of turn b)
      (n : Noted c c' turn) (kept : IsKept r r') where
    -- a turn of the rings
    pub on_guest_command : ShadowWaits d r r' → CarriesOn (commander l) port e d (carries z) x x' p q r r' w v turn
        → OnGuestCommand port l e d z p q r r' x x' s c c' w v said
    on_guest_command waits t =
        let o = on_guest_to port e d (carries z) p q r r' c c' w v turn said b lay.device_end is n kept waits plain t.0 in
        let g = guest_leaves port l e d lay z p q r r' x x' s w v turn h.commands live none waits t in
        let w' : DeviceView = e.side.after w t.0.op t.0.access t.0.got in (
          o.0,
          subst (λ (y : DeviceView). CommandHolds l e d z r' x' s c' y v) (sym o.1) (record {
            commands = g.commands;
            pace = paces c c' turn (owed e d r x.hand w v) (owed e d r' x'.hand w' v) n.accesses n.handled n.heard g.paid h.pace;
            hears_guest = λ i idle. t.0.hears i idle;
            hears_shadow = o.0.holds.hears_shadow;
            leaves = o.0.holds.leaves;
          }),
        )

    pub on_shadow_command : GuestWaits e r r' → TellsOf (commander l) port e d (carries z) x x' p q r r' w v turn
        → OnShadowCommand port l e d z p q r r' x x' s c c' w v said
    on_shadow_command waits t =
        let o = on_shadow_to port e d (carries z) p q r r' c c' w v turn said b lay.driver_end is n kept waits plain t.0 in
        let g = shadow_leaves port l e d lay z p q r r' x x' s w v turn h.commands live none waits t in
        let v' : DriverView = d.side.after v t.0.op t.0.access t.0.got in (
          o.0,
          subst (λ (y : DriverView). CommandHolds l e d z r' x' s c' w y) (sym o.1) (record {
            commands = g.commands;
            pace = paces c c' turn (owed e d r x.hand w v) (owed e d r' x'.hand w v') n.accesses n.handled n.heard g.paid h.pace;
            hears_guest = o.0.holds.hears_guest;
            hears_shadow = λ i idle. t.0.hears i idle;
            leaves = o.0.holds.leaves;
          }),
        )
