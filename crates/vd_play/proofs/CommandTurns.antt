-- The device's turn in a round of the control queue's lane, by what the calls promise.
use Rattle.std.proofs.Common.{◌≡◌, ℕ, ◌+◌, ◌≤◌, Bool, true, false, Option, Some, None, IsSomeAnd, length, refl, sym, ap, ◌∙◌, subst}
use Rattle.vd_words.specs.Plain.{RingWords}
use Rattle.vd_ring.specs.declared.driver.DriverView.{DriverView}
use Rattle.vd_ring.specs.declared.device.DeviceView.{DeviceView}
use Rattle.vd_ring.specs.History.{gives}
use Rattle.vd_layout.specs.declared.device.DeviceEnd as device_end
use Rattle.vd_layout.specs.declared.driver.DriverEnd as driver_end
use Rattle.vd_layout.specs.declared.layout.Layout as layout
use Rattle.vd_bus.specs.Device.{IsSuspend}
use Rattle.vd_relay.specs.declared.control.Control.{Control}
use Rattle.vd_relay.specs.Modes.{Opening, ControlHolds, has_replayed}
use Rattle.vd_relay.specs.Stages.{is_rested}
use Rattle.vd_switch.specs.declared.shadowing.Shadowing.{Shadowing}
use Rattle.vd_switch.specs.declared.still.Still.{Still}
use Rattle.vd_turns.specs.Turns.{DeviceTurn, DeviceTurns, CanServe}
use Rattle.vd_machine.specs.File.{Plan}
use Rattle.vd_play.specs.declared.floor.Relaying.{Relaying}
use Rattle.vd_play.specs.CommandProgress.{IsCommandShadowing, CommandRelayingBy, IsCommandRelaying, InCommandRoundWith}
use Rattle.vd_play.specs.CommandProgress.Next.{guests, devices}
use Rattle.vd_play.specs.CommandRounds.{is_replayed}
use Rattle.vd_play.specs.Progress.{steps}
use Rattle.vd_play.specs.Setting.{Setting, IsLawful}
use Rattle.vd_play.proofs.CommandDevices.{device_shadows, device_winds}
use Rattle.vd_play.proofs.CommandLanes.{relaying_of, round_of, control_of, shadowing_of}
use Rattle.vd_play.proofs.CommandReplays.{same_done}

-- what a relay's control is after the call, with both facts of it
both_of : (P Q : Control → Type 0) (o : Option Control) → IsSomeAnd o P → IsSomeAnd o Q → (y : Control) × (o ≡ Some y) × P y × Q y
both_of P Q None p q = absurd p
both_of P Q (Some y) p q = (y, refl, p, q)

module _ {L D E G X C : Type 0} {i : layout.Ghosts L D E} {j : driver_end.Ghosts D} {h : device_end.Ghosts E} (s : Setting D E G X C)
    (plan : Plan) (k n : ℕ) (words : RingWords) (relayed : ℕ) (guest : G) (device : X) (on : Bool)
    (still : Option (Still L D E i j h)) where
  module _ (x : Relaying L D E) (o : Option (Relaying L D E)) (is : o ≡ Some x)
      (p : InCommandRoundWith s plan devices on k n words still o relayed guest device) where
    at : (on ≡ true) × (still ≡ None) × IsCommandRelaying s plan devices k n words x relayed guest device
    at = relaying_of s plan k n words relayed guest device devices on still o x is p

    pub controls : (y : Control) × (x.lane.relay.control ≡ Some y)
    controls = control_of s plan k n words relayed guest device devices x.lane.relay.control x.lane.relay.state.winding x.words.words
        x.lane.relay.state x.lane.relay.settings x.lane.relay.counts at.2

    module _ (off : x.lane.relay.state.winding ≡ false) where
      pub shadows : IsCommandShadowing s plan devices k n words x.words.words x.lane.relay.state controls.0 x.lane.relay.settings
          x.lane.relay.counts relayed guest device
      shadows = shadowing_of s plan k n words relayed guest device devices x.lane.relay.control x.lane.relay.state.winding controls.0
          x.words.words x.lane.relay.state x.lane.relay.settings x.lane.relay.counts controls.1 off at.2

      pub is_live : s.party.is_done device → ⊥
      is_live = shadows.serves.live

      pub can_serve : CanServe s.layout s.party x.words.words device
      can_serve = (
        shadows.shadow_view,
        shadows.shadow_device_view,
        shadows.kept.lane.controlling.parts.shadow_ring,
        shadows.serves.holds,
      )

      pub live_relay : is_rested x.lane.relay.state.stage ≡ false
      live_relay = shadows.awake.1

      pub holds_control : (y : Control) → x.lane.relay.control ≡ Some y → (z : Opening) × (w : DeviceView) × (v : DriverView)
          × ControlHolds s.layout s.device s.driver z x.lane.relay.state y x.lane.relay.settings x.lane.relay.counts w v
      holds_control y same =
          let p = shadowing_of s plan k n words relayed guest device devices x.lane.relay.control x.lane.relay.state.winding y
          x.words.words x.lane.relay.state x.lane.relay.settings x.lane.relay.counts same off at.2 in
          (p.start.opening, p.device_view, p.shadow_view, p.kept.lane.controlling.holds)

      -- a relay that begins to wind up has replayed as much as before
      pub winds_same : (lane2 : Shadowing L D E) → IsSomeAnd lane2.relay.control (λ y'. (z : Opening) (w : DeviceView) (v : DriverView)
          → ControlHolds s.layout s.device s.driver z x.lane.relay.state controls.0 x.lane.relay.settings x.lane.relay.counts w v
          → ControlHolds s.layout s.device s.driver z lane2.relay.state y' lane2.relay.settings lane2.relay.counts w v)
          → IsSomeAnd lane2.relay.control (λ y'. (y'.mode ≡ controls.0.mode) × (y'.replay.next ≡ controls.0.replay.next))
          → has_replayed lane2.relay.control ≡ is_replayed o
      winds_same lane2 holds far =
          let y = both_of _ _ lane2.relay.control holds far in
          let p = holds_control controls.0 controls.1 in
          ap has_replayed y.1
          ∙ same_done s.layout s.device s.driver p.0 x.lane.relay.state lane2.relay.state controls.0 y.0 x.lane.relay.settings
          lane2.relay.settings x.lane.relay.counts lane2.relay.counts p.1 p.2 p.3 (y.2 p.0 p.1 p.2 p.3) y.3.1
          ∙ ap has_replayed (sym controls.1) ∙ ap is_replayed (sym is)

      module _ (law : IsLawful s) (shadow2 : RingWords) (device1 : X) (d : ℕ) (few : d ≤ 4)
          (turns : DeviceTurns s.layout s.party x.words.words shadow2.words device device1 d) where
        device_at : DeviceTurn s.layout s.party shadow2.words shadows.shadow_view shadows.shadow_device_view device device1 d
        device_at = turns shadows.shadow_view shadows.shadow_device_view shadows.kept.lane.controlling.parts.shadow_ring
            shadows.serves.holds

        pub device_holds : (w : DeviceView) × s.party.holds device1 w
        device_holds = (device_at.run.view, device_at.run.holds)

        -- a lane that goes on with a relay
        with_relay : (x2 : Relaying L D E) (y2 : Control) (w : Bool) (device2 : X) → x2.lane.relay.control ≡ Some y2
            → x2.lane.relay.state.winding ≡ w
            → CommandRelayingBy (Some y2) w s plan guests k (n + 1) words x2.words.words x2.lane.relay.state x2.lane.relay.settings
            x2.lane.relay.counts relayed guest device2
            → InCommandRoundWith s plan guests on k (n + 1) words still (Some x2) relayed guest device2
        with_relay x2 y2 w device2 same winding q = round_of s plan k (n + 1) words relayed guest device2 guests on still x2 at.0 at.1
            (subst (λ (z : Option Control). CommandRelayingBy z x2.lane.relay.state.winding s plan guests k (n + 1) words x2.words.words
            x2.lane.relay.state x2.lane.relay.settings x2.lane.relay.counts relayed guest device2) (sym same)
            (subst (λ (z : Bool). CommandRelayingBy (Some y2) z s plan guests k (n + 1) words x2.words.words x2.lane.relay.state
            x2.lane.relay.settings x2.lane.relay.counts relayed guest device2) (sym winding) q))

        -- the device isn't done
        pub goes_on : (s.party.is_done device1 → ⊥) → InCommandRoundWith s plan guests on k (n + 1) words still
            (Some (record { lane = x.lane; words = shadow2 })) relayed guest device1
            × (steps s relayed guest device1 ≡ steps s relayed guest device + d)
        goes_on live =
            let y = device_shadows s law plan k n d few words x.words.words shadow2.words x.lane.relay.state controls.0
            x.lane.relay.settings x.lane.relay.counts relayed guest device device1 shadows device_at live in
            (with_relay (record { lane = x.lane; words = shadow2 }) controls.0 false device1 controls.1 off y.0, y.1)

        -- it is done, and suspended; its relay begins to wind up
        pub goes_done : (lane2 : Shadowing L D E) (device2 : X) → s.party.is_done device1
            → ((end : E) × IsSuspend s.device s.party device1 device2 end)
            → IsSomeAnd lane2.relay.control (λ y'. (z : Opening) (w : DeviceView) (v : DriverView)
            → ControlHolds s.layout s.device s.driver z x.lane.relay.state controls.0 x.lane.relay.settings x.lane.relay.counts w v
            → ControlHolds s.layout s.device s.driver z lane2.relay.state y' lane2.relay.settings lane2.relay.counts w v)
            → IsSomeAnd lane2.relay.control (λ y'. (y'.mode ≡ controls.0.mode) × (y'.replay.next ≡ controls.0.replay.next))
            → is_rested lane2.relay.state.stage ≡ false → lane2.relay.state.winding ≡ true
            → ((sw : DeviceView) → s.party.holds device1 sw → lane2.relay.state.target ≡ length (gives sw.done))
            → lane2.relay.counts ≡ x.lane.relay.counts → lane2.relay.settings ≡ x.lane.relay.settings
            → InCommandRoundWith s plan guests on k (n + 1) words still (Some (record { lane = lane2; words = shadow2 })) relayed guest
            device2 × (steps s relayed guest device2 ≡ steps s relayed guest device + d)
        goes_done lane2 device2 done suspended holds far live winding target counts settings =
            let y2 = both_of _ _ lane2.relay.control holds far in
            let y = device_winds s law plan k n d few words x.words.words shadow2.words x.lane.relay.state controls.0
            x.lane.relay.settings x.lane.relay.counts relayed guest device device1 shadows device_at done device2 suspended.0 suspended.1
            lane2.relay.state y2.0 lane2.relay.settings lane2.relay.counts y2.2 y2.3.0 y2.3.1 live winding target counts settings in
            (with_relay (record { lane = lane2; words = shadow2 }) y2.0 true device2 y2.1 winding y.0, y.1)
