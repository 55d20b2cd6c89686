-- The pace of a lane in a shadow epoch, by what stands on its two rings.
use Rattle.std.proofs.Common.{◌≡◌, ℕ, ◌+◌, ◌*◌, ◌≤◌, Bool, true, false, if◌then◌else◌, Some, List, length, ◌∙◌, ap, arith}
use Rattle.std.proofs.lemmas.Nat.{row_fits}
use Rattle.vd_words.specs.Plain.{RingWords}
use Rattle.vd_ring.specs.declared.driver.DriverView.{DriverView}
use Rattle.vd_ring.specs.declared.device.DeviceView.{DeviceView}
use Rattle.vd_ring.specs.declared.frame.Frame.{Frame}
use Rattle.vd_ring.specs.History.{offers, collects, takes, gives, open_at}
use Rattle.vd_ring.specs.Lists.{Lists}
use Rattle.vd_ring.specs.Places.{Places}
use Rattle.vd_ring.specs.Sleep.{RingSignals, driver_hearings, device_hearings}
use Rattle.vd_ring.proofs.HeldPlaces.{few_open}
use Rattle.vd_ring.proofs.Quiet.{few_gives}
use Rattle.vd_bus.specs.declared.device.Attached.{Attached}
use Rattle.vd_bus.specs.Device.{IsServing}
use Rattle.vd_bus.specs.Orders.{IsData}
use Rattle.vd_bus.specs.Pace.{attaches}
use Rattle.vd_relay.specs.declared.counts.Counts.{Counts}
use Rattle.vd_relay.specs.declared.state.State.{State}
use Rattle.vd_relay.specs.Stages.{is_rested}
use Rattle.vd_machine.specs.File.{Plan}
use Rattle.vd_play.specs.Before.{begun_at}
use Rattle.vd_play.specs.Journal.{queue_chains, queue_epochs}
use Rattle.vd_play.specs.Progress.{IsPaced, HasRelayHeard, bells_before}
use Rattle.vd_play.specs.Rings.{shadows_before}
use Rattle.vd_play.specs.Setting.{Setting, IsLawful}
use Rattle.vd_play.specs.Shadowed.{IsRelayed}
use Rattle.vd_turns.specs.RelayTurns.{RelayRun, reached, did}
use Rattle.vd_turns.specs.Turns.{GuestRun, DeviceRun}
use Rattle.vd_play.proofs.Bounds.{bounded, many_epochs}
use Rattle.vd_play.proofs.Lists.{length_le}
use Rattle.vd_play.proofs.Pace.{guest_paced}
use Rattle.vd_play.proofs.Quiet.{offers_le}
use Rattle.vd_play.proofs.Rings.{shadows_before_fewer, shadows_few}

pub one_of : (b : Bool) (x y m : ℕ) → x ≤ m → y ≤ m → (if b then x else y) ≤ m
one_of true x y m low high = low
one_of false x y m low high = high

pub both_grow : (b : Bool) (x y x' y' : ℕ) → x ≤ x' → y ≤ y' → (if b then x else y) ≤ (if b then x' else y')
both_grow true x y x' y' first second = first
both_grow false x y x' y' first second = second

module _ {D E G X C : Type 0} (s : Setting D E G X C) (law : IsLawful s) (plan : Plan) (q k : ℕ) where
  -- how much stands on the two rings
  pub record Bounds (r : State E D) (device : X) (by : Attached) (v : DriverView) (w : DeviceView) (sv : DriverView) (sw : DeviceView)
      : Type 0 where
    pub few : length (queue_chains plan q) ≤ 200000
    pub size : plan.size ≤ 32768
    pub epoch : k ≤ 17
    pub offered : length (offers v.done) ≤ length (queue_chains plan q)
    pub taken : length (takes w.done) ≤ length (offers v.done)
    pub given : length (gives w.done) ≤ length (takes w.done)
    pub shadow_offered : length (offers sv.done) ≤ length (collects sv.done) + plan.size
    pub shadow_taken : length (takes sw.done) ≤ length (offers sv.done)
    pub shadow_given : length (gives sw.done) ≤ length (takes sw.done)
    pub shadow_collected : length (collects sv.done) ≤ length (gives sw.done)
    pub begun : length (takes sw.done) + by.at ≡ length (s.party.begun device)
    pub most : length (s.party.begun device) ≤ begun_at plan q (k + 1)
    pub at : by.at ≡ begun_at plan q k
    pub rises : begun_at plan q k ≤ begun_at plan q (k + 1)
    pub low : begun_at plan q (k + 1) ≤ length (queue_chains plan q)
    pub guest_bells : device_hearings w ≤ length (offers v.done)
    pub shadow_bells : driver_hearings sv ≤ length (gives sw.done)
    pub device_bells : device_hearings sw ≤ length (offers sv.done)
    pub before : bells_before plan q k ≤ 1000000
    pub rings : (2 * plan.size + 1) * shadows_before plan k ≤ 1200000
    pub did_low : did r v w sv ≤ 900000

  pub bounds_of : (words : RingWords) (shadow_words : List ℕ) (r : State E D) (c : Counts) (guest : G) (device : X) (by : Attached)
      (v : DriverView) (w : DeviceView) (sv : DriverView) (sw : DeviceView)
      → IsRelayed s plan q k words shadow_words r c guest device by v w sv sw → Bounds r device by v w sv sw
  bounds_of words shadow_words r c guest device by v w sv sw p =
      let n : ℕ = length (queue_chains plan q) in
      let few : n ≤ 200000 = p.driven.queue.few in
      let size : plan.size ≤ 32768 = p.driven.queue.sized.1 in
      let b = bounded n (queue_epochs plan q) k p.driven.queue.chained p.epoch in
      let outer : Lists v.frame v.done w.done = law.layout.lists words.words v w p.lane.ring in
      let inner : Lists sv.frame sv.done sw.done = law.layout.lists shadow_words sv sw p.lane.shadow_ring in
      let places : Places sv.frame sv.done = law.layout.places shadow_words sv sw p.lane.shadow_ring in
      let signals : RingSignals v w = law.layout.signals words.words v w p.lane.ring in
      let shadow_signals : RingSignals sv sw = law.layout.signals shadow_words sv sw p.lane.shadow_ring in
      let offered : length (offers v.done) ≤ n = offers_le s law plan q words guest v w p.driven in
      let same_size : sv.frame.size ≡ plan.size = ap (λ (f : Frame). f.size) p.framed in
      let opened : length (open_at sv.done) ≤ plan.size = omega (arith, few_open sv.frame sv.done places, same_size) in
      let shadow_offered : length (offers sv.done) ≤ length (collects sv.done) + plan.size = omega (arith, places.count, opened) in
      let serves : IsServing (s.party.begun device) by sw.done = p.lane.serves in
      let begun : length (takes sw.done) + by.at ≡ length (s.party.begun device) = omega (arith, serves.as_many, p.lane.from) in
      let most : length (s.party.begun device) ≤ begun_at plan q (k + 1) = omega (arith, serves.few, p.to) in
      let many = many_epochs plan n in
      let fewer = shadows_before_fewer plan k (omega (arith, p.epoch, many)) p.mode in
      let shadows_low : shadows_before plan k ≤ 17 = omega (arith, fewer, shadows_few plan, many, p.driven.queue.epochs) in
      let rows = row_fits plan.size (shadows_before plan k) 32769 17 (omega (arith, size)) shadows_low in
      let twice = row_fits (2 * plan.size + 1) (shadows_before plan k) 65538 17 (omega (arith, size)) shadows_low in
      let far : reached r v w ≤ length (offers v.done) =
      one_of (is_rested r.stage) (length (offers v.done)) (length (takes w.done)) (length (offers v.done)) (omega arith) outer.some in
      record {
        few = few;
        size = size;
        epoch = omega (arith, p.epoch, p.driven.queue.epochs);
        offered = offered;
        taken = outer.some;
        given = omega (arith, outer.count);
        shadow_offered = shadow_offered;
        shadow_taken = inner.some;
        shadow_given = omega (arith, inner.count);
        shadow_collected = inner.fewer;
        begun = begun;
        most = most;
        at = p.took_over.2;
        rises = b.rises;
        low = b.low;
        guest_bells = omega (arith, signals.kicks.heard, signals.kicks.bells);
        shadow_bells = omega (
          arith,
          shadow_signals.calls.heard,
          shadow_signals.calls.bells,
          few_gives sv.frame sw.done inner.entries,
        );
        device_bells = omega (arith, shadow_signals.kicks.heard, shadow_signals.kicks.bells);
        before = omega (arith, rows, b.rises, b.low, few);
        rings = omega (arith, twice);
        did_low = omega (
          arith,
          far,
          offered,
          few,
          outer.some,
          outer.count,
          inner.fewer,
          inner.count,
          begun,
          most,
          b.low,
          shadow_offered,
          size,
        );
      }

  -- ---- what each turn leaves of the pace

  pub record GuestPaces (relayed made : ℕ) (r : State E D) (c : Counts) (guest guest' : G) (device : X) (v : DriverView) (w : DeviceView)
      (sv : DriverView) (sw : DeviceView) : Type 0 where
    pub paced : IsPaced s (length (queue_chains plan q)) (k + 1) guest' device v
    pub heard : HasRelayHeard s plan q k relayed r c device v w sv sw
    pub counted : s.guest.accesses guest' ≡ s.guest.accesses guest + made

  pub paces_guest : (made relayed : ℕ) (words words' : RingWords) (shadow_words : List ℕ) (r : State E D) (c : Counts) (guest guest' : G)
      (device : X) (by : Attached) (v : DriverView) (w : DeviceView) (sv : DriverView) (sw : DeviceView) → made ≤ 4
      → (t : GuestRun s.layout s.guest words'.words v w guest guest' made)
      → IsRelayed s plan q k words' shadow_words r c guest' device by t.view w sv sw
      → IsPaced s (length (queue_chains plan q)) (k + 1) guest device v → HasRelayHeard s plan q k relayed r c device v w sv sw
      → GuestPaces relayed made r c guest guest' device t.view w sv sw
  paces_guest made relayed words words' shadow_words r c guest guest' device by v w sv sw few t p paced h =
      let by_guest = guest_paced s law plan q made words' guest guest' v w paced.guest_heard paced.guest_low t p.driven few in
      let more : reached r v w ≤ reached r t.view w =
      both_grow (is_rested r.stage) (length (offers v.done)) (length (takes w.done)) (length (offers t.view.done))
      (length (takes w.done)) (length_le (offers v.done) (offers t.view.done) t.grows.offers) (omega arith) in
      record {
        paced = record {
          guest_heard = by_guest.heard;
          guest_low = by_guest.low;
          device_low = paced.device_low;
          times = paced.times;
        };
        heard = record {
          relays = h.relays;
          before = h.before;
          heard = h.heard;
          low = h.low;
          counted = h.counted;
          handled = omega (arith, h.handled, more);
          pace = h.pace;
        };
        counted = by_guest.counted;
      }

  -- the counts of a relay and of all are far below the last
  pub record Low (relayed : ℕ) (c : Counts) (device : X) : Type 0 where
    pub heard : s.party.heard device + c.heard ≤ 2000000
    pub handled : c.handled ≤ 900000
    pub accesses : c.accesses ≤ 200000000
    pub relayed_low : relayed ≤ 600000000

  pub low_of : (relayed : ℕ) (r : State E D) (c : Counts) (device : X) (by : Attached) (v : DriverView) (w : DeviceView)
      (sv : DriverView) (sw : DeviceView) → Bounds r device by v w sv sw → HasRelayHeard s plan q k relayed r c device v w sv sw
      → Low relayed c device
  low_of relayed r c device by v w sv sw b h =
      let offered : length (offers sv.done) ≤ 300000 =
      omega (arith, b.shadow_offered, b.shadow_collected, b.shadow_given, b.begun, b.most, b.low, b.few, b.size) in
      let heard : s.party.heard device + h.relays + c.heard ≤ 2000000 =
      omega (
        arith,
        h.heard,
        b.guest_bells,
        b.offered,
        b.few,
        b.shadow_bells,
        b.shadow_given,
        b.begun,
        b.most,
        b.low,
        b.device_bells,
        offered,
        b.before,
      ) in
      let handled : c.handled ≤ 900000 = omega (arith, h.handled, b.did_low) in
      let accesses : c.accesses ≤ 200000000 = omega (arith, h.pace, handled, heard) in
      record {
        heard = omega (arith, heard);
        handled = handled;
        accesses = accesses;
        relayed_low = omega (arith, h.counted, h.low, accesses, b.rings, heard, b.rises, b.low, b.few);
      }

  pub paces_relay : (made relayed : ℕ) (words' : RingWords) (shadow_words' : List ℕ) (r r' : State E D) (c c' : Counts) (guest : G)
      (device : X) (by : Attached) (v : DriverView) (w : DeviceView) (sv : DriverView) (sw : DeviceView) → made ≤ 4
      → Bounds r device by v w sv sw → HasRelayHeard s plan q k relayed r c device v w sv sw
      → (z : Rattle.vd_relay.specs.Tie.Start) (old : List (List Rattle.vd_model.specs.declared.chain.Piece.Piece × ℕ))
      → (u : RelayRun s.layout s.device s.driver z old (s.party.begun device) by words'.words shadow_words' v w sv sw r r' c c' made)
      → IsRelayed s plan q k words' shadow_words' r' c' guest device by v u.view u.shadow_view sw
      → HasRelayHeard s plan q k (relayed + made) r' c' device v u.view u.shadow_view sw
  paces_relay made relayed words' shadow_words' r r' c c' guest device by v w sv sw few b h z old u p =
      let b' = bounds_of words' shadow_words' r' c' guest device by v u.view u.shadow_view sw p in
      let was = low_of relayed r c device by v w sv sw b h in
      let counted : c'.accesses ≡ c.accesses + made = u.accesses (omega (arith, was.accesses, few)) in
      let heard : s.party.heard device + h.relays + c'.heard
      ≤ device_hearings u.view + driver_hearings u.shadow_view + device_hearings sw + bells_before plan q k =
      omega (arith, h.heard, u.heard) in
      let handled : c'.handled + 2 * begun_at plan q k ≤ did r' v u.view u.shadow_view = omega (arith, h.handled, u.handled) in
      let offered : length (offers u.shadow_view.done) ≤ 300000 =
      omega (arith, b'.shadow_offered, b'.shadow_collected, b'.shadow_given, b'.begun, b'.most, b'.low, b'.few, b'.size) in
      let heard_low : c'.heard ≤ 2000000 =
      omega (
        arith,
        heard,
        b'.guest_bells,
        b'.offered,
        b'.few,
        b'.shadow_bells,
        b'.shadow_given,
        b'.begun,
        b'.most,
        b'.low,
        b'.device_bells,
        offered,
        b'.before,
      ) in
      let pace = p.holds.pace (omega (arith, counted, was.accesses, few)) (omega (arith, handled, b'.did_low)) (omega (arith, heard_low)) in
      record {
        relays = h.relays;
        before = h.before;
        heard = heard;
        low = h.low;
        counted = omega (arith, h.counted, counted);
        handled = handled;
        pace = omega (arith, pace);
      }

  pub record DevicePaces (relayed made : ℕ) (r : State E D) (c : Counts) (guest : G) (device device' : X) (v : DriverView)
      (w : DeviceView) (sv : DriverView) (sw : DeviceView) : Type 0 where
    pub paced : IsPaced s (length (queue_chains plan q)) (k + 1) guest device' v
    pub heard : HasRelayHeard s plan q k relayed r c device' v w sv sw
    pub counted : s.party.accesses device' ≡ s.party.accesses device + made

  pub paces_device : (made relayed : ℕ) (words : RingWords) (shadow_words' : List ℕ) (r : State E D) (c : Counts) (guest : G)
      (device device' : X) (by : Attached) (v : DriverView) (w : DeviceView) (sv : DriverView) (sw : DeviceView) → made ≤ 4
      → s.party.attached device ≡ Some by → IsData by.queue → Bounds r device by v w sv sw
      → (x : DeviceRun s.layout s.party shadow_words' sv sw device device' made)
      → IsRelayed s plan q k words shadow_words' r c guest device' by v w sv x.view
      → IsPaced s (length (queue_chains plan q)) (k + 1) guest device v → HasRelayHeard s plan q k relayed r c device v w sv sw
      → DevicePaces relayed made r c guest device device' v w sv x.view
  paces_device made relayed words shadow_words' r c guest device device' by v w sv sw few is for b x p paced h =
      let b' = bounds_of words shadow_words' r c guest device' by v w sv x.view p in
      let was = low_of relayed r c device by v w sv sw b h in
      let heard : s.party.heard device' + h.relays + c.heard
      ≤ device_hearings w + driver_hearings sv + device_hearings x.view + bells_before plan q k = omega (arith, h.heard, x.heard) in
      let after : HasRelayHeard s plan q k relayed r c device' v w sv x.view = record {
        relays = h.relays;
        before = h.before;
        heard = heard;
        low = h.low;
        counted = h.counted;
        handled = h.handled;
        pace = h.pace;
      } in
      let now = low_of relayed r c device' by v w sv x.view b' after in
      let counted : s.party.accesses device' ≡ s.party.accesses device + made =
      x.accesses (omega (arith, paced.device_low, was.heard, paced.times, b.epoch, b.few, few)) in
      let pace = law.party.pace device' x.view by x.holds (x.served.attached ∙ is)
      (omega (arith, counted, paced.device_low, was.heard, paced.times, b.epoch, b.few, few)) (omega (arith, now.heard)) in
      record {
        paced = record {
          guest_heard = paced.guest_heard;
          guest_low = paced.guest_low;
          device_low = omega (arith, pace, b'.begun, b'.most, b'.low, b'.shadow_given);
          times = omega (arith, paced.times, ap attaches x.served.events);
        };
        heard = after;
        counted = counted;
      }
