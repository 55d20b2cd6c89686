-- At most how many steps the parties of the control queue's lane have made.
use Rattle.std.proofs.Common.{◌≡◌, inl, inr, ℕ, ◌+◌, ◌*◌, ◌≤◌, Bool, true, false, Option, Some, None, List, length, ◌∙◌, ap, arith}
use Rattle.std.proofs.Math.Nat.{mul-le-mul_right}
use Rattle.std.proofs.lemmas.Nat.{mul-le}
use Rattle.vd_words.specs.Plain.{RingWords}
use Rattle.vd_ring.specs.declared.driver.DriverView.{DriverView}
use Rattle.vd_ring.specs.declared.device.DeviceView.{DeviceView}
use Rattle.vd_ring.specs.History.{offers, takes, gives}
use Rattle.vd_ring.specs.Sleep.{RingSignals, device_hearings}
use Rattle.vd_control.specs.declared.settings.Settings.{Settings}
use Rattle.vd_relay.specs.declared.control.Control.{Control}
use Rattle.vd_relay.specs.declared.counts.Counts.{Counts}
use Rattle.vd_relay.specs.declared.state.State.{State}
use Rattle.vd_relay.specs.Stages.{is_rested}
use Rattle.vd_switch.specs.Controlling.{ControlStart}
use Rattle.vd_turns.specs.RelayTurns.{reached}
use Rattle.vd_machine.specs.File.{Plan}
use Rattle.vd_machine.specs.Words.{control_count}
use Rattle.vd_play.specs.AllWork.{command_work, command_rings}
use Rattle.vd_play.specs.Commands.{control_commands, control_epochs}
use Rattle.vd_play.specs.CommandLane.{IsCommandQueue}
use Rattle.vd_play.specs.CommandProgress.{Next, AreCommandsPaced, HasCommandRelayHeard, IsCommandStopped, CommandRelayingBy, command_bells_before}
use Rattle.vd_play.specs.CommandProgress.Next.{guests}
use Rattle.vd_play.specs.CommandShadowed.{AreCommandsRelayed}
use Rattle.vd_play.specs.ControlJournal.{journalled_at}
use Rattle.vd_play.specs.Places.{HasControl}
use Rattle.vd_play.specs.Progress.{steps}
use Rattle.vd_play.specs.Setting.{Setting, IsLawful}
use Rattle.vd_play.proofs.Bounds.{many_epochs}
use Rattle.vd_play.proofs.CommandBounds.{before_low, work_few}
use Rattle.vd_play.proofs.CommandPace.{bounds_of, offers_few}
use Rattle.vd_play.proofs.ShadowPace.{one_of}

-- so many at most, for each command begun and each place of the lane's rings
pub record IsCommandLow {D E G X C : Type 0} (s : Setting D E G X C) (plan : Plan) (relayed : ℕ) (guest : G) (device : X) : Type 0 where
  pub low : steps s relayed guest device ≤ 1024 * (command_work plan + command_rings plan * plan.size)
  pub queue : IsCommandQueue s.layout plan

-- there are a guest's ring and one for each epoch
rings_are : (plan : Plan) → HasControl plan → command_rings plan ≡ length (control_epochs plan) + 1
rings_are plan there =
    let e : control_count true plan.switches ≡ length (control_epochs plan) + 1 =
    omega (arith, many_epochs plan (length (control_commands plan))) in
    ap (λ (b : Bool). control_count b plan.switches) there ∙ e

-- fewer than the rounds that are made at most
pub low_few : {D E G X C : Type 0} (s : Setting D E G X C) (plan : Plan) (relayed : ℕ) (guest : G) (device : X)
    → IsCommandLow s plan relayed guest device → steps s relayed guest device ≤ 1000000000
low_few s plan relayed guest device h =
    let few : command_rings plan ≤ 19 = omega (arith, rings_are plan h.queue.there, h.queue.epochs) in
    omega (
      arith,
      h.low,
      work_few s.layout plan h.queue,
      mul-le (command_rings plan) plan.size 19 32768 few h.queue.sized.1,
    )

-- the places of the shadow rings of the first k epochs, against all
record Rooms (size k rings : ℕ) : Type 0 where
  some : 2 * k ≤ size * k
  few : size * k + size ≤ rings * size
  twice : (2 * size + 1) * k ≡ 2 * (size * k) + k

rooms_of : (size k all rings : ℕ) → 2 ≤ size → k ≤ all → rings ≡ all + 1 → Rooms size k rings
rooms_of size k all rings least le is =
    let more : k + 1 ≤ rings = omega (arith, le, is) in record {
      some = omega (arith, mul-le-mul_right k least);
      few = omega (arith, mul-le-mul_right size more);
      twice = omega arith;
    }

module _ {D E G X C : Type 0} (s : Setting D E G X C) (law : IsLawful s) (plan : Plan) where
  pub stopped_low : (k r : ℕ) (words : RingWords) (end : E) (control : Bool) (settings : Settings) (relayed : ℕ) (guest : G) (device : X)
      → k ≤ length (control_epochs plan) → IsCommandStopped s plan k r words end control settings relayed guest device
      → IsCommandLow s plan relayed guest device
  stopped_low k r words end control settings relayed guest device within p =
      let v = p.view in
      let w = p.device_view in
      let d = p.kept.driven in
      let signals : RingSignals v w = law.layout.signals words.words v w d.ring in
      let bells : device_hearings w ≤ length (offers v.done) = omega (arith, signals.kicks.heard, signals.kicks.bells) in
      let rooms = rooms_of plan.size k (length (control_epochs plan)) (command_rings plan) d.queue.sized.0 within
      (rings_are plan d.queue.there) in
      let hears : s.party.heard device + p.heard.relays ≤ length (control_commands plan) + command_bells_before plan k =
      omega (arith, p.heard.heard, bells, offers_few s law plan words guest v w d) in
      record {
        low = omega (
          arith,
          p.paced.guest_low,
          p.paced.device_low,
          p.paced.times,
          p.heard.low,
          hears,
          before_low s.layout plan d.queue k,
          rooms.some,
          rooms.few,
          rooms.twice,
          d.queue.sized.0,
        );
        queue = d.queue;
      }

  -- ---- beside a relay

  relayed_low : (k : ℕ) (words : RingWords) (shadow_words : List ℕ) (r : State E D) (control : Control) (settings : Settings) (c : Counts)
      (relayed : ℕ) (guest : G) (device : X) (x : ControlStart) (v : DriverView) (w : DeviceView) (sv : DriverView) (sw : DeviceView)
      → AreCommandsRelayed s plan k words shadow_words r control settings c guest device x v w sv sw
      → AreCommandsPaced s plan (k + 1) guest device v → HasCommandRelayHeard s plan k relayed r c device v w sv sw
      → IsCommandLow s plan relayed guest device
  relayed_low k words shadow_words r control settings c relayed guest device x v w sv sw p paced heard =
      let b = bounds_of s law plan k words shadow_words r control settings c guest device x v w sv sw p in
      let q = p.driven.queue in
      let n : ℕ = length (control_commands plan) in
      let j : ℕ = journalled_at plan k in
      let work : ℕ = command_work plan in
      let rooms = rooms_of plan.size k (length (control_epochs plan)) (command_rings plan) q.sized.0 (omega (arith, p.epoch))
      (rings_are plan q.there) in
      let far : reached r v w ≤ n =
      one_of (is_rested r.stage) (length (offers v.done)) (length (takes w.done)) n b.offered (omega (arith, b.taken, b.offered)) in
      let begun : length (s.party.begun device) ≤ work = omega (arith, b.most, b.low) in
      let given : length (gives w.done) ≤ n = omega (arith, b.given, b.taken, b.offered) in
      let hears : s.party.heard device + heard.relays + c.heard ≤ n + 2 * work + plan.size + plan.size * k =
      omega (
        arith,
        heard.heard,
        b.guest_bells,
        b.offered,
        b.shadow_bells,
        b.shadow_given,
        b.device_bells,
        b.shadow_offered,
        b.shadow_collected,
        begun,
      ) in
      let handled : c.handled + 2 * j ≤ 2 * n + 2 * work + plan.size =
      omega (arith, heard.handled, far, given, b.shadow_offered, b.shadow_collected, b.shadow_given, begun) in
      let before : j ≤ work = before_low s.layout plan q k in
      let own : n ≤ work = omega arith in
      let made : steps s relayed guest device
      ≤ 64 * (6 * n + 6 * work + 2 * j + 4 + 2 * plan.size + plan.size * k + k + (2 * plan.size + 1) * k) =
      omega (arith, paced.guest_low, paced.device_low, paced.times, heard.low, heard.counted, heard.pace, hears, handled) in
      record {
        low = omega (arith, made, before, own, rooms.some, rooms.few, rooms.twice, q.sized.0);
        queue = q;
      }

  module _ (k n : ℕ) (words : RingWords) (relayed : ℕ) (guest : G) (device : X) where
    pub relaying_low : (next : Next) (o : Option Control) (winding : Bool) (shadow_words : List ℕ) (r : State E D) (settings : Settings)
        (c : Counts) → CommandRelayingBy o winding s plan next k n words shadow_words r settings c relayed guest device
        → IsCommandLow s plan relayed guest device
    relaying_low next (Some y) false shadow_words r settings c p =
        relayed_low k words shadow_words r y settings c relayed guest device p.start p.view p.device_view p.shadow_view
        p.shadow_device_view p.kept p.paced p.heard
    relaying_low next (Some y) true shadow_words r settings c p =
        relayed_low k words shadow_words r y settings c relayed guest device p.start p.view p.device_view p.shadow_view
        p.shadow_device_view p.kept p.paced p.heard
    relaying_low next None winding shadow_words r settings c p = absurd p

    -- of two rounds one has made a step
    pub relaying_rounds : (o : Option Control) (winding : Bool) (shadow_words : List ℕ) (r : State E D) (settings : Settings) (c : Counts)
        → CommandRelayingBy o winding s plan guests k n words shadow_words r settings c relayed guest device
        → n ≤ 2 * steps s relayed guest device + 1
    relaying_rounds (Some y) false shadow_words r settings c p = elim p.rounds [
      | inl all ↦ omega (arith, all)
      | inr half ↦ half.0
    ]
    relaying_rounds (Some y) true shadow_words r settings c p = p.rounds
    relaying_rounds None winding shadow_words r settings c p = absurd p
