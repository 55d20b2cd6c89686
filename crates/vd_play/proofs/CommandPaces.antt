-- What each turn leaves of the pace of the control queue's lane.
use Rattle.std.proofs.Common.{◌≡◌, ℕ, ◌+◌, ◌*◌, ◌<◌, ◌≤◌, Some, List, length, ◌∙◌, ap, arith}
use Rattle.vd_words.specs.Plain.{RingWords}
use Rattle.vd_ring.specs.declared.driver.DriverView.{DriverView}
use Rattle.vd_ring.specs.declared.device.DeviceView.{DeviceView}
use Rattle.vd_ring.specs.History.{offers, collects, takes, gives}
use Rattle.vd_ring.specs.Lists.{Lists}
use Rattle.vd_ring.specs.Sleep.{RingSignals, driver_hearings, device_hearings}
use Rattle.vd_ring.proofs.Quiet.{few_gives}
use Rattle.vd_layout.specs.Driver.{DriverModel}
use Rattle.vd_layout.specs.Device.{DeviceModel}
use Rattle.vd_layout.specs.Layout.{LayoutModel}
use Rattle.vd_control.specs.declared.settings.Settings.{Settings}
use Rattle.vd_bus.specs.Pace.{attaches, last_count}
use Rattle.vd_relay.specs.declared.control.Control.{Control}
use Rattle.vd_relay.specs.declared.control.Mode.{Mode}
use Rattle.vd_relay.specs.declared.control.Mode.TheVariants.{Replaying, Carrying, Leaving}
use Rattle.vd_relay.specs.declared.counts.Counts.{Counts}
use Rattle.vd_relay.specs.declared.state.State.{State}
use Rattle.vd_relay.specs.Modes.{Opening, Does}
use Rattle.vd_relay.specs.Stages.{is_rested}
use Rattle.vd_switch.specs.Controlling.{ControlStart}
use Rattle.vd_turns.specs.RelayTurns.{reached, did}
use Rattle.vd_turns.specs.Turns.{GuestRun, DeviceRun}
use Rattle.vd_control_lane.proofs.AnyScripts.{any_acked}
use Rattle.vd_machine.specs.File.{Plan}
use Rattle.vd_play.specs.Commands.{control_queue, control_commands, sent_at}
use Rattle.vd_play.specs.CommandLane.{IsCommandDriven}
use Rattle.vd_play.specs.CommandProgress.{AreCommandsPaced, HasCommandRelayHeard, command_bells_before}
use Rattle.vd_play.specs.CommandShadowed.{AreCommandsRelayed}
use Rattle.vd_play.specs.Progress.{guest_bound}
use Rattle.vd_play.specs.Setting.{Setting, IsLawful}
use Rattle.vd_play.proofs.CommandPace.{offers_few, Bounds, bounds_of, bells_few, low_of}
use Rattle.vd_play.proofs.Lists.{length_le}
use Rattle.vd_play.proofs.ShadowPace.{both_grow}

-- ---- a guest's

module _ {D E G X C : Type 0} (s : Setting D E G X C) (law : IsLawful s) (plan : Plan) where
  pub record GuestPaced (guest guest' : G) (made : ℕ) (v : DriverView) : Type 0 where
    pub heard : s.guest.heard guest' ≤ driver_hearings v
    pub low : s.guest.accesses guest' ≤ guest_bound (length (control_commands plan))
    pub counted : s.guest.accesses guest' ≡ s.guest.accesses guest + made

  pub guest_paced : (made : ℕ) (words' : RingWords) (guest guest' : G) (v : DriverView) (w : DeviceView)
      → s.guest.heard guest ≤ driver_hearings v → s.guest.accesses guest ≤ guest_bound (length (control_commands plan))
      → (t : GuestRun s.layout s.guest words'.words v w guest guest' made) → IsCommandDriven s plan words' guest' t.view w → made ≤ 4
      → GuestPaced guest guest' made t.view
  guest_paced made words' guest guest' v w before low t p few =
      let n : ℕ = length (control_commands plan) in
      let signals : RingSignals t.view w = law.layout.signals words'.words t.view w t.ring in
      let lists : Lists t.view.frame t.view.done w.done = law.layout.lists words'.words t.view w t.ring in
      let offered : s.guest.offered guest' ≡ length (offers t.view.done) = law.guest.offered guest' t.view t.holds in
      let most : length (offers t.view.done) ≤ n = offers_few s law plan words' guest' t.view w p in
      let returned : length (s.guest.returned guest') ≤ length (collects t.view.done) =
      (any_acked s.driver s.guest law.guest guest' t.view (control_queue plan) t.holds p.part.script p.queue.plain
      (omega (arith, lists.fewer, lists.count, lists.some))).some in
      let short : n ≤ 4096 = p.queue.few in
      let counted : s.guest.accesses guest' ≡ s.guest.accesses guest + made = t.accesses (omega (arith, low, short, few)) in
      let heard : s.guest.heard guest' ≤ driver_hearings t.view = omega (arith, t.heard, before) in
      let bells : t.view.heard ≤ length (gives w.done) =
      omega (arith, signals.calls.heard, signals.calls.bells, few_gives t.view.frame w.done lists.entries) in
      let pace : s.guest.accesses guest' ≤ 64 * (s.guest.offered guest' + length (s.guest.returned guest') + s.guest.heard guest' + 1) =
      law.guest.pace guest' (omega (arith, low, short, counted, few))
      (omega (arith, heard, bells, lists.some, lists.count, most, short)) in
      record {
        heard = heard;
        low = omega (arith, pace, offered, returned, heard, bells, lists.some, lists.count, lists.fewer, most);
        counted = counted;
      }

  module _ (k : ℕ) where
    pub record GuestPaces (relayed made : ℕ) (r : State E D) (c : Counts) (guest guest' : G) (device : X) (v : DriverView)
        (w : DeviceView) (sv : DriverView) (sw : DeviceView) : Type 0 where
      pub paced : AreCommandsPaced s plan (k + 1) guest' device v
      pub heard : HasCommandRelayHeard s plan k relayed r c device v w sv sw
      pub counted : s.guest.accesses guest' ≡ s.guest.accesses guest + made

    pub paces_guest : (made relayed : ℕ) (words' : RingWords) (r : State E D) (c : Counts) (guest guest' : G) (device : X)
        (v : DriverView) (w : DeviceView) (sv : DriverView) (sw : DeviceView) → made ≤ 4
        → (t : GuestRun s.layout s.guest words'.words v w guest guest' made) → IsCommandDriven s plan words' guest' t.view w
        → AreCommandsPaced s plan (k + 1) guest device v → HasCommandRelayHeard s plan k relayed r c device v w sv sw
        → GuestPaces relayed made r c guest guest' device t.view w sv sw
    paces_guest made relayed words' r c guest guest' device v w sv sw few t p paced h =
        let by_guest = guest_paced made words' guest guest' v w paced.guest_heard paced.guest_low t p few in
        let more : reached r v w ≤ reached r t.view w =
        both_grow (is_rested r.stage) (length (offers v.done)) (length (takes w.done)) (length (offers t.view.done))
        (length (takes w.done)) (length_le (offers v.done) (offers t.view.done) t.grows.offers) (omega arith) in
        record {
          paced = record {
            guest_heard = by_guest.heard;
            guest_low = by_guest.low;
            device_low = paced.device_low;
            times = paced.times;
          };
          heard = record {
            relays = h.relays;
            before = h.before;
            heard = h.heard;
            low = h.low;
            counted = h.counted;
            handled = omega (arith, h.handled, more);
            pace = h.pace;
          };
          counted = by_guest.counted;
        }

-- ---- a relay's

-- whatever it does it keeps its pace
pace_by : {E D : Type 0} (m : Mode) (l : LayoutModel) (e : DeviceModel E) (d : DriverModel D) (z : Opening) (r : State E D) (k : Control)
    (s : Settings) (c : Counts) (w : DeviceView) (v : DriverView) → Does m l e d z r k s c w v → c.accesses < last_count
    → c.handled < last_count → c.heard < last_count → c.accesses ≤ 64 * (c.handled + c.heard + 1)
pace_by Replaying l e d z r k s c w v h a b g = omega (arith, h.1.pace a b g)
pace_by Carrying l e d z r k s c w v h a b g = omega (arith, h.pace a b g)
pace_by Leaving l e d z r k s c w v h a b g = omega (arith, h.pace a b g)

module _ {D E G X C : Type 0} (s : Setting D E G X C) (law : IsLawful s) (plan : Plan) (k : ℕ) where
  pub paces_relay : (made relayed : ℕ) (words' : RingWords) (shadow_words' : List ℕ) (r r' : State E D) (control' : Control)
      (settings' : Settings) (c c' : Counts) (guest : G) (device : X) (x : ControlStart) (v : DriverView) (w w' : DeviceView)
      (sv sv' : DriverView) (sw : DeviceView) → made ≤ 4 → Bounds s law plan k r device x v w sv sw
      → HasCommandRelayHeard s plan k relayed r c device v w sv sw
      → (c.accesses + made ≤ last_count → c'.accesses ≡ c.accesses + made)
      → c'.heard + device_hearings w + driver_hearings sv ≤ c.heard + device_hearings w' + driver_hearings sv'
      → c'.handled + did r v w sv ≤ c.handled + did r' v w' sv'
      → AreCommandsRelayed s plan k words' shadow_words' r' control' settings' c' guest device x v w' sv' sw
      → HasCommandRelayHeard s plan k (relayed + made) r' c' device v w' sv' sw
  paces_relay made relayed words' shadow_words' r r' control' settings' c c' guest device x v w w' sv sv' sw few b h accesses heard_more
      handled_more p =
      let b' = bounds_of s law plan k words' shadow_words' r' control' settings' c' guest device x v w' sv' sw p in
      let was = low_of s law plan k relayed r c device x v w sv sw b h in
      let counted : c'.accesses ≡ c.accesses + made = accesses (omega (arith, was.accesses, few)) in
      let heard : s.party.heard device + h.relays + c'.heard
      ≤ device_hearings w' + driver_hearings sv' + device_hearings sw + command_bells_before plan k =
      omega (arith, h.heard, heard_more) in
      let handled : c'.handled + 2 * sent_at plan k ≤ did r' v w' sv' = omega (arith, h.handled, handled_more) in
      let heard_low : c'.heard ≤ 1000000 = omega (arith, heard, bells_few s law plan k r' device x v w' sv' sw b') in
      let pace = pace_by control'.mode s.layout s.device s.driver x.opening r' control' settings' c' w' sv' p.lane.controlling.holds.does
      (omega (arith, counted, was.accesses, few)) (omega (arith, handled, b'.did_low)) (omega (arith, heard_low)) in
      record {
        relays = h.relays;
        before = h.before;
        heard = heard;
        low = h.low;
        counted = omega (arith, h.counted, counted);
        handled = handled;
        pace = pace;
      }

  -- ---- a device's

  pub record DevicePaces (relayed made : ℕ) (r : State E D) (c : Counts) (guest : G) (device device' : X) (v : DriverView)
      (w : DeviceView) (sv : DriverView) (sw : DeviceView) : Type 0 where
    pub paced : AreCommandsPaced s plan (k + 1) guest device' v
    pub heard : HasCommandRelayHeard s plan k relayed r c device' v w sv sw
    pub counted : s.party.accesses device' ≡ s.party.accesses device + made

  pub paces_device : (made relayed : ℕ) (words : RingWords) (shadow_words' : List ℕ) (r : State E D) (control : Control)
      (settings : Settings) (c : Counts) (guest : G) (device device' : X) (x : ControlStart) (v : DriverView) (w : DeviceView)
      (sv : DriverView) (sw : DeviceView) → made ≤ 4 → s.party.attached device ≡ Some x.by → Bounds s law plan k r device x v w sv sw
      → (t : DeviceRun s.layout s.party shadow_words' sv sw device device' made)
      → AreCommandsRelayed s plan k words shadow_words' r control settings c guest device' x v w sv t.view
      → AreCommandsPaced s plan (k + 1) guest device v → HasCommandRelayHeard s plan k relayed r c device v w sv sw
      → DevicePaces relayed made r c guest device device' v w sv t.view
  paces_device made relayed words shadow_words' r control settings c guest device device' x v w sv sw few is b t p paced h =
      let b' = bounds_of s law plan k words shadow_words' r control settings c guest device' x v w sv t.view p in
      let was = low_of s law plan k relayed r c device x v w sv sw b h in
      let heard : s.party.heard device' + h.relays + c.heard
      ≤ device_hearings w + driver_hearings sv + device_hearings t.view + command_bells_before plan k = omega (arith, h.heard, t.heard) in
      let after : HasCommandRelayHeard s plan k relayed r c device' v w sv t.view = record {
        relays = h.relays;
        before = h.before;
        heard = heard;
        low = h.low;
        counted = h.counted;
        handled = h.handled;
        pace = h.pace;
      } in
      let now = low_of s law plan k relayed r c device' x v w sv t.view b' after in
      let counted : s.party.accesses device' ≡ s.party.accesses device + made =
      t.accesses (omega (arith, paced.device_low, was.heard, paced.times, b.epoch, b.work, few)) in
      let pace = law.party.pace device' t.view x.by t.holds (t.served.attached ∙ is)
      (omega (arith, counted, paced.device_low, was.heard, paced.times, b.epoch, b.work, few)) (omega (arith, now.heard)) in
      record {
        paced = record {
          guest_heard = paced.guest_heard;
          guest_low = paced.guest_low;
          device_low = omega (arith, pace, b'.shadow_given, b'.most, b'.low, p.start.at, p.lane.controlling.parts.from_first);
          times = omega (arith, paced.times, ap attaches t.served.events);
        };
        heard = after;
        counted = counted;
      }
