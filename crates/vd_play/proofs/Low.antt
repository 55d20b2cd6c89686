-- At most how many steps a lane's parties have made.
use Rattle.std.proofs.Common.{◌≡◌, inl, inr, ℕ, ◌+◌, ◌*◌, ◌-◌, ◌<◌, ◌≤◌, Bool, true, false, if◌then◌else◌, List, length, map, ap, arith}
use Rattle.std.proofs.lemmas.Bool.{cases_lt}
use Rattle.std.proofs.Math.Nat.{mul-le-mul_left, mul-le-mul_right}
use Rattle.std.proofs.lemmas.Nat.{mul-le}
use Rattle.std.proofs.lemmas.List.{length-map}
use Rattle.vd_model.specs.declared.chain.Piece.{Piece}
use Rattle.vd_words.specs.Plain.{RingWords}
use Rattle.vd_ring.specs.declared.driver.DriverView.{DriverView}
use Rattle.vd_ring.specs.declared.device.DeviceView.{DeviceView}
use Rattle.vd_ring.specs.History.{offers, collects, takes, gives}
use Rattle.vd_ring.specs.Lists.{Lists}
use Rattle.vd_ring.specs.Sleep.{RingSignals}
use Rattle.vd_ring.proofs.Quiet.{few_gives}
use Rattle.vd_bus.specs.declared.device.Attached.{Attached}
use Rattle.vd_relay.specs.declared.counts.Counts.{Counts}
use Rattle.vd_relay.specs.declared.state.State.{State}
use Rattle.vd_relay.specs.Stages.{is_rested}
use Rattle.vd_relay.specs.Tie.{since}
use Rattle.vd_switch.specs.ShadowingLanes.{KeepsShadowing, lane_begun}
use Rattle.vd_switch.proofs.ShadowingLanes.{keeps, begun_count}
use Rattle.vd_turns.specs.RelayTurns.{reached}
use Rattle.vd_machine.specs.File.{Plan}
use Rattle.vd_play.specs.Before.{begun_at}
use Rattle.vd_play.specs.Journal.{queue_chains, queue_epochs}
use Rattle.vd_play.specs.Lane.{IsQueue}
use Rattle.vd_play.specs.Progress.{IsPaced, IsStopped, IsPassing, HasRelayHeard, RelayingBy, steps}
use Rattle.vd_play.specs.Rings.{shadows, shadows_before}
use Rattle.vd_play.specs.Setting.{Setting, IsLawful}
use Rattle.vd_play.specs.Shadowed.{IsRelayed}
use Rattle.vd_play.proofs.Bounds.{bounded, many_epochs}
use Rattle.vd_play.proofs.Lists.{length_le, prefix_take}
use Rattle.vd_play.proofs.Pace.{device_bells}
use Rattle.vd_play.proofs.Quiet.{offers_le}
use Rattle.vd_play.proofs.Rings.{shadows_few, shadows_before_most}

-- so many at most, for each chain and each place of the lane's rings
pub record IsLow {D E G X C : Type 0} (s : Setting D E G X C) (plan : Plan) (q relayed : ℕ) (guest : G) (device : X) : Type 0 where
  pub low : steps s relayed guest device ≤ 1024 * (length (queue_chains plan q) + (1 + shadows plan) * plan.size)
  pub queue : IsQueue s.layout plan q

-- fewer than the rounds that are made at most
pub low_few : {D E G X C : Type 0} (s : Setting D E G X C) (plan : Plan) (q relayed : ℕ) (guest : G) (device : X)
    → IsLow s plan q relayed guest device → steps s relayed guest device ≤ 1000000000
low_few s plan q relayed guest device h =
    let few : 1 + shadows plan ≤ 19 =
    omega (arith, shadows_few plan, many_epochs plan (length (queue_chains plan q)), h.queue.epochs) in
    omega (arith, h.low, h.queue.few, mul-le (1 + shadows plan) plan.size 19 32768 few h.queue.sized.1)

-- what the rings of the epochs before have, against all
record Rooms (size before all : ℕ) : Type 0 where
  some : before ≤ size * before
  few : size * before ≤ size * all

rooms_of : (size before all : ℕ) → 2 ≤ size → before ≤ all → Rooms size before all
rooms_of size before all least le =
    let one : 1 ≤ size = omega (arith, least) in record {
      some = omega (arith, mul-le-mul_right before one);
      few = mul-le-mul_left size le;
    }

module _ {D E G X C : Type 0} (s : Setting D E G X C) (law : IsLawful s) (plan : Plan) (q : ℕ) where
  pub stopped_low : (k r : ℕ) (words : RingWords) (end : E) (relayed : ℕ) (guest : G) (device : X)
      → IsStopped s plan q k r words end relayed guest device → IsLow s plan q relayed guest device
  stopped_low k r words end relayed guest device p =
      let v = p.view in
      let w = p.device_view in
      let d = p.kept.driven in
      let lists : Lists v.frame v.done w.done = law.layout.lists words.words v w d.ring in
      let rooms = rooms_of plan.size (shadows_before plan k) (shadows plan) d.queue.sized.0 (shadows_before_most plan k) in
      record {
        low = omega (
          arith,
          p.paced.guest_low,
          p.paced.device_low,
          p.paced.times,
          p.early,
          p.heard.low,
          p.heard.heard,
          device_bells s law plan q words.words v w d.ring,
          offers_le s law plan q words guest v w d,
          lists.some,
          p.rests.taken,
          rooms.some,
          rooms.few,
          d.queue.sized.0,
        );
        queue = d.queue;
      }

  pub passing_low : (k r : ℕ) (words : RingWords) (relayed : ℕ) (guest : G) (device : X)
      → IsPassing s plan q k r words relayed guest device → IsLow s plan q relayed guest device
  passing_low k r words relayed guest device p =
      let v = p.view in
      let w = p.device_view in
      let d = p.kept.driven in
      let bound = bounded (length (queue_chains plan q)) (queue_epochs plan q) k d.queue.chained p.serves.epoch in
      let rooms = rooms_of plan.size (shadows_before plan k) (shadows plan) d.queue.sized.0 (shadows_before_most plan k) in
      record {
        low = omega (
          arith,
          p.paced.guest_low,
          p.paced.device_low,
          p.paced.times,
          p.serves.epoch,
          d.queue.epochs,
          p.heard.low,
          p.heard.heard,
          device_bells s law plan q words.words v w d.ring,
          offers_le s law plan q words guest v w d,
          bound.rises,
          bound.low,
          rooms.some,
          rooms.few,
          d.queue.sized.0,
        );
        queue = d.queue;
      }

  -- ---- beside a relay

  -- what stands on the two rings, while the guest's end doesn't rest
  record Stand (k : ℕ) (r : State E D) (v : DriverView) (w : DeviceView) (sv : DriverView) (sw : DeviceView) : Type 0 where
    offered : length (offers v.done) ≤ length (queue_chains plan q)
    taken : length (takes w.done) ≤ length (offers v.done)
    given : length (gives w.done) ≤ length (takes w.done)
    shadow_taken : length (takes sw.done) + begun_at plan q k ≤ length (queue_chains plan q)
    shadow_given : length (gives sw.done) ≤ length (takes sw.done)
    shadow_collected : length (collects sv.done) ≤ length (gives sw.done)
    shadow_offered : length (offers sv.done) + begun_at plan q k ≤ length (queue_chains plan q)
    reaches : reached r v w ≡ length (takes w.done)
    bells : w.heard ≤ length (offers v.done)
    shadow_calls : sv.heard ≤ length (gives sw.done)
    shadow_bells : sw.heard ≤ length (offers sv.done)
    before : begun_at plan q k ≤ length (queue_chains plan q)

  -- each chain offered on the shadow ring is one that was taken from the guest's ring since then
  offered_low : (first many taken : ℕ) → ((i : ℕ) → i < many → first + i < taken) → first ≤ taken → many + first ≤ taken
  offered_low first many taken each le = elim (cases_lt 0 many) [
    | inl some ↦ omega (arith, each (many - 1) (omega arith))
    | inr none ↦ omega (arith, le)
  ]

  stand : (k : ℕ) (words : RingWords) (shadow_words : List ℕ) (r : State E D) (c : Counts) (guest : G) (device : X) (by : Attached)
      (v : DriverView) (w : DeviceView) (sv : DriverView) (sw : DeviceView)
      → IsRelayed s plan q k words shadow_words r c guest device by v w sv sw → is_rested r.stage ≡ false → Stand k r v w sv sw
  stand k words shadow_words r c guest device by v w sv sw h live =
      let x = h.lane in
      let z = h.start in
      let d = h.driven in
      let bound = bounded (length (queue_chains plan q)) (queue_epochs plan q) k d.queue.chained h.epoch in
      let outer : Lists v.frame v.done w.done = law.layout.lists words.words v w x.ring in
      let inner : Lists sv.frame sv.done sw.done = law.layout.lists shadow_words sv sw x.shadow_ring in
      let signals : RingSignals sv sw = law.layout.signals shadow_words sv sw x.shadow_ring in
      let kept : KeepsShadowing z h.old r (s.party.begun device) by v w sv sw =
      keeps s.device s.driver s.layout law.layout z h.old r (s.party.begun device) by words.words shadow_words v w sv sw x in
      let offered : length (offers v.done) ≤ length (queue_chains plan q) = offers_le s law plan q words guest v w d in
      let chains : List (List Piece × ℕ) = lane_begun z h.old (s.party.begun device) by in
      let count = begun_count s.device s.driver s.layout law.layout z h.old r (s.party.begun device) by words.words shadow_words v w sv
      sw x in
      let front = length_le (map (λ (x : List Piece × ℕ). x.0) chains) (takes w.done)
      (prefix_take (map (λ (x : List Piece × ℕ). x.0) chains) (takes w.done) (length chains) kept.chains) in
      let back : since z ≤ length (takes w.done) =
      omega (arith, count, front, length-map chains (λ (x : List Piece × ℕ). x.0)) in
      let ahead : length (offers sv.done) + since z ≤ length (takes w.done) =
      offered_low (since z) (length (offers sv.done)) (length (takes w.done)) (λ i less. (kept.offered live i less).0) back in
      record {
        offered = offered;
        taken = outer.some;
        given = omega (arith, outer.count);
        shadow_taken = omega (arith, x.serves.as_many, x.from, x.serves.few, h.to, h.took_over.2, bound.low);
        shadow_given = omega (arith, inner.count);
        shadow_collected = inner.fewer;
        shadow_offered = omega (arith, ahead, h.took_over.0, outer.some, offered);
        reaches = ap (λ (b : Bool). if b then length (offers v.done) else length (takes w.done)) live;
        bells = device_bells s law plan q words.words v w x.ring;
        shadow_calls = omega (arith, signals.calls.heard, signals.calls.bells, few_gives sv.frame sw.done inner.entries);
        shadow_bells = omega (arith, signals.kicks.heard, signals.kicks.bells);
        before = omega (arith, bound.rises, bound.low);
      }

  relayed_low : (k : ℕ) (words : RingWords) (shadow_words : List ℕ) (r : State E D) (c : Counts) (relayed : ℕ) (guest : G) (device : X)
      (by : Attached) (v : DriverView) (w : DeviceView) (sv : DriverView) (sw : DeviceView)
      → IsRelayed s plan q k words shadow_words r c guest device by v w sv sw → is_rested r.stage ≡ false
      → IsPaced s (length (queue_chains plan q)) (k + 1) guest device v → HasRelayHeard s plan q k relayed r c device v w sv sw
      → IsLow s plan q relayed guest device
  relayed_low k words shadow_words r c relayed guest device by v w sv sw h live paced heard =
      let t = stand k words shadow_words r c guest device by v w sv sw h live in
      let d = h.driven.queue in
      let rooms = rooms_of plan.size (shadows_before plan k) (shadows plan) d.sized.0 (shadows_before_most plan k) in
      let hears : s.party.heard device + heard.relays + c.heard ≤ 3 * length (queue_chains plan q)
      + plan.size * shadows_before plan k =
      omega (
        arith,
        heard.heard,
        t.bells,
        t.offered,
        t.shadow_calls,
        t.shadow_given,
        t.shadow_taken,
        t.shadow_bells,
        t.shadow_offered,
      ) in
      let handled : c.handled + 4 * begun_at plan q k ≤ 4 * length (queue_chains plan q) =
      omega (
        arith,
        heard.handled,
        t.reaches,
        t.offered,
        t.taken,
        t.given,
        t.shadow_offered,
        t.shadow_collected,
        t.shadow_given,
        t.shadow_taken,
      ) in
      record {
        low = omega (
          arith,
          paced.guest_low,
          paced.device_low,
          paced.times,
          h.epoch,
          d.epochs,
          heard.low,
          heard.counted,
          heard.pace,
          hears,
          handled,
          t.before,
          rooms.some,
          rooms.few,
          d.sized.0,
        );
        queue = d;
      }

  pub relaying_low : (winding : Bool) (k r : ℕ) (words : RingWords) (shadow_words : List ℕ) (state : State E D) (counts : Counts)
      (relayed : ℕ) (guest : G) (device : X) → RelayingBy winding s plan q k r words shadow_words state counts relayed guest device
      → IsLow s plan q relayed guest device
  relaying_low false k r words shadow_words state counts relayed guest device p =
      relayed_low k words shadow_words state counts relayed guest device p.by p.view p.device_view p.shadow_view p.shadow_device_view
      p.kept p.awake.1 p.paced p.heard
  relaying_low true k r words shadow_words state counts relayed guest device p =
      relayed_low k words shadow_words state counts relayed guest device p.by p.view p.device_view p.shadow_view p.shadow_device_view
      p.kept p.winds.1 p.paced p.heard

  -- of two rounds one has made a step
  pub relaying_rounds : (winding : Bool) (k r : ℕ) (words : RingWords) (shadow_words : List ℕ) (state : State E D) (counts : Counts)
      (relayed : ℕ) (guest : G) (device : X) → RelayingBy winding s plan q k r words shadow_words state counts relayed guest device
      → r ≤ 2 * steps s relayed guest device + 1
  relaying_rounds false k r words shadow_words state counts relayed guest device p = elim p.rounds [
    | inl all ↦ omega (arith, all)
    | inr half ↦ half.0
  ]
  relaying_rounds true k r words shadow_words state counts relayed guest device p = p.rounds
