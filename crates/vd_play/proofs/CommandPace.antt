-- The pace of the control queue's lane in an epoch, by what stands on its two rings.
use Rattle.std.proofs.Common.{◌≡◌, ℕ, ◌+◌, ◌*◌, ◌≤◌, List, length, drop, ap, arith, inl, inr}
use Rattle.std.proofs.lemmas.Bool.{cases_lt}
use Rattle.std.proofs.lemmas.List.{length-map, length-drop}
use Rattle.std.proofs.lemmas.Nat.{row_fits}
use Rattle.vd_words.specs.Plain.{RingWords}
use Rattle.vd_ring.specs.declared.driver.DriverView.{DriverView}
use Rattle.vd_ring.specs.declared.device.DeviceView.{DeviceView}
use Rattle.vd_ring.specs.declared.frame.Frame.{Frame}
use Rattle.vd_ring.specs.History.{offers, collects, takes, gives, running, open_at, numbers, occurs}
use Rattle.vd_ring.specs.Lists.{Lists}
use Rattle.vd_ring.specs.Places.{Places}
use Rattle.vd_ring.specs.Sleep.{RingSignals, driver_hearings, device_hearings}
use Rattle.vd_ring.proofs.Counts.{one_below, occurs_some}
use Rattle.vd_ring.proofs.HeldPlaces.{few_open}
use Rattle.vd_ring.proofs.Quiet.{few_gives}
use Rattle.vd_layout.specs.Driver.{DriverModel}
use Rattle.vd_layout.specs.Device.{DeviceModel}
use Rattle.vd_layout.specs.Layout.{LayoutModel, IsLawfulLayout}
use Rattle.vd_model.specs.declared.record.Begun.{Begun}
use Rattle.vd_control.specs.declared.settings.Settings.{Settings}
use Rattle.vd_relay.specs.declared.control.Control.{Control}
use Rattle.vd_relay.specs.declared.counts.Counts.{Counts}
use Rattle.vd_relay.specs.declared.state.State.{State}
use Rattle.vd_relay.specs.Stages.{is_rested}
use Rattle.vd_switch.specs.CommandLanes.{CommandStart, CommandParts}
use Rattle.vd_switch.specs.Controlling.{ControlStart, start_of}
use Rattle.vd_switch.proofs.CommandJournal.{begun_taken, was_given}
use Rattle.vd_turns.specs.RelayTurns.{reached, did}
use Rattle.vd_control_lane.proofs.AnyScripts.{any_sent}
use Rattle.vd_machine.specs.File.{Plan}
use Rattle.vd_play.specs.AllWork.{command_work}
use Rattle.vd_play.specs.Commands.{control_queue, control_commands}
use Rattle.vd_play.specs.CommandLane.{IsCommandDriven}
use Rattle.vd_play.specs.CommandProgress.{HasCommandRelayHeard, command_bells_before}
use Rattle.vd_play.specs.CommandShadowed.{AreCommandsRelayed}
use Rattle.vd_play.specs.ControlJournal.{journalled_at}
use Rattle.vd_play.specs.Setting.{Setting, IsLawful}
use Rattle.vd_play.proofs.CommandBounds.{epoch_of, work_few}
use Rattle.vd_play.proofs.ShadowPace.{one_of}

-- a device of a control ring has given no more than it has begun
module _ {E D : Type 0} (e : DeviceModel E) (d : DriverModel D) (l : LayoutModel) (law : IsLawfulLayout d e l) (y : CommandStart)
    (begun : List Begun) (now : Settings) (words shadow_words : List ℕ) (v : DriverView) (w : DeviceView) (sv : DriverView)
    (sw : DeviceView) (h : CommandParts l y begun now words shadow_words v w sv sw) where
  lists : Lists sv.frame sv.done sw.done
  lists = law.lists shadow_words sv sw h.shadow_ring

  begun_many : length (drop y.by.at begun) + y.by.at ≡ length begun
  begun_many = omega (arith, length-drop y.by.at begun, h.commanded.after)

  pub given_few : length (gives sw.done) + y.by.at ≤ length begun
  given_few = elim (cases_lt (length (drop y.by.at begun)) (length (takes sw.done))) [
    | inr all ↦ omega (arith, all, lists.count, begun_many)
    | inl more ↦ (
        let k : ℕ = length (drop y.by.at begun) in
        let once = lists.given k in
        elim (cases_lt 0 (occurs k (numbers (gives sw.done)))) [
          | inl some ↦ absurd (omega (
            arith,
            (was_given e d l law y begun now words shadow_words v w sv sw h k (omega (arith, some))).low,
          ))
          | inr none ↦ (
              let runs : 1 ≤ occurs k (running sw.done) = omega (arith, once, none, one_below k (length (takes sw.done)) more) in
              omega (
                arith,
                occurs_some k (running sw.done) runs,
                lists.count,
                begun_many,
                h.commanded.in_hand,
                h.from_first,
              )
              )
        ]
        )
  ]

-- a guest of the control queue has offered no more than its commands
pub offers_few : {D E G X C : Type 0} (s : Setting D E G X C) (law : IsLawful s) (plan : Plan) (words : RingWords) (guest : G)
    (v : DriverView) (w : DeviceView) → IsCommandDriven s plan words guest v w → length (offers v.done) ≤ length (control_commands plan)
offers_few s law plan words guest v w p = omega (
  arith,
  (any_sent s.driver s.guest law.guest guest v (control_queue plan) p.part.holds p.part.script p.queue.plain).some,
  length-map (control_queue plan).commands (λ b. b.items),
)

module _ {D E G X C : Type 0} (s : Setting D E G X C) (law : IsLawful s) (plan : Plan) (k : ℕ) where
  -- how much stands on the two rings
  pub record Bounds (r : State E D) (device : X) (x : ControlStart) (v : DriverView) (w : DeviceView) (sv : DriverView)
      (sw : DeviceView) : Type 0 where
    pub few : length (control_commands plan) ≤ 4096
    pub work : command_work plan ≤ 77986
    pub size : plan.size ≤ 32768
    pub epoch : k ≤ 17
    pub offered : length (offers v.done) ≤ length (control_commands plan)
    pub taken : length (takes w.done) ≤ length (offers v.done)
    pub given : length (gives w.done) ≤ length (takes w.done)
    pub shadow_offered : length (offers sv.done) ≤ length (collects sv.done) + plan.size
    pub shadow_taken : length (takes sw.done) ≤ length (offers sv.done)
    pub shadow_given : length (gives sw.done) + journalled_at plan k ≤ length (s.party.begun device)
    pub shadow_collected : length (collects sv.done) ≤ length (gives sw.done)
    pub begun : length (s.party.begun device) ≤ length (takes sw.done) + journalled_at plan k
    pub most : length (s.party.begun device) ≤ journalled_at plan (k + 1)
    pub low : journalled_at plan (k + 1) ≤ command_work plan
    pub guest_bells : device_hearings w ≤ length (offers v.done)
    pub shadow_bells : driver_hearings sv ≤ length (gives sw.done)
    pub device_bells : device_hearings sw ≤ length (offers sv.done)
    pub before : command_bells_before plan k ≤ 720000
    pub rings : (2 * plan.size + 1) * k ≤ 1200000
    pub did_low : did r v w sv ≤ 200000

  pub bounds_of : (words : RingWords) (shadow_words : List ℕ) (r : State E D) (control : Control) (settings : Settings) (c : Counts)
      (guest : G) (device : X) (x : ControlStart) (v : DriverView) (w : DeviceView) (sv : DriverView) (sw : DeviceView)
      → AreCommandsRelayed s plan k words shadow_words r control settings c guest device x v w sv sw → Bounds r device x v w sv sw
  bounds_of words shadow_words r control settings c guest device x v w sv sw p =
      let h = p.lane.controlling in
      let n : ℕ = length (control_commands plan) in
      let queue = p.driven.queue in
      let few : n ≤ 4096 = queue.few in
      let work : command_work plan ≤ 77986 = work_few s.layout plan queue in
      let size : plan.size ≤ 32768 = queue.sized.1 in
      let ep = epoch_of s.layout plan queue k p.epoch in
      let outer : Lists v.frame v.done w.done = law.layout.lists words.words v w h.parts.ring in
      let inner : Lists sv.frame sv.done sw.done = law.layout.lists shadow_words sv sw h.parts.shadow_ring in
      let places : Places sv.frame sv.done = law.layout.places shadow_words sv sw h.parts.shadow_ring in
      let signals : RingSignals v w = law.layout.signals words.words v w h.parts.ring in
      let shadow_signals : RingSignals sv sw = law.layout.signals shadow_words sv sw h.parts.shadow_ring in
      let offered : length (offers v.done) ≤ n = offers_few s law plan words guest v w p.driven in
      let same_size : sv.frame.size ≡ plan.size = ap (λ (f : Frame). f.size) p.framed in
      let opened : length (open_at sv.done) ≤ plan.size = omega (arith, few_open sv.frame sv.done places, same_size) in
      let shadow_offered : length (offers sv.done) ≤ length (collects sv.done) + plan.size = omega (arith, places.count, opened) in
      let begun : length (s.party.begun device) ≤ length (takes sw.done) + journalled_at plan k = omega (
        arith,
        begun_taken s.device s.driver s.layout law.layout (start_of x control) (s.party.begun device) (s.party.settings device) words.words
            shadow_words v w sv sw h.parts,
        begun_many s.device s.driver s.layout law.layout (start_of x control) (s.party.begun device) (s.party.settings device) words.words
            shadow_words v w sv sw h.parts,
        p.start.at,
      ) in
      let most : length (s.party.begun device) ≤ journalled_at plan (k + 1) = omega (arith, h.parts.commanded.few, p.start.to) in
      let given = given_few s.device s.driver s.layout law.layout (start_of x control) (s.party.begun device) (s.party.settings device)
      words.words shadow_words v w sv sw h.parts in
      let epoch : k ≤ 17 = omega (arith, p.epoch, queue.epochs) in
      let rows = row_fits plan.size k 32769 17 (omega (arith, size)) epoch in
      let twice = row_fits (2 * plan.size + 1) k 65538 17 (omega (arith, size)) epoch in
      let far : reached r v w ≤ length (offers v.done) =
      one_of (is_rested r.stage) (length (offers v.done)) (length (takes w.done)) (length (offers v.done)) (omega arith) outer.some in
      record {
        few = few;
        work = work;
        size = size;
        epoch = epoch;
        offered = offered;
        taken = outer.some;
        given = omega (arith, outer.count);
        shadow_offered = shadow_offered;
        shadow_taken = inner.some;
        shadow_given = omega (arith, given, p.start.at);
        shadow_collected = inner.fewer;
        begun = begun;
        most = most;
        low = ep.low;
        guest_bells = omega (arith, signals.kicks.heard, signals.kicks.bells);
        shadow_bells = omega (
          arith,
          shadow_signals.calls.heard,
          shadow_signals.calls.bells,
          few_gives sv.frame sw.done inner.entries,
        );
        device_bells = omega (arith, shadow_signals.kicks.heard, shadow_signals.kicks.bells);
        before = omega (arith, rows, ep.many, ep.low, work);
        rings = omega (arith, twice);
        did_low = omega (arith, far, offered, few, outer.some, outer.count, inner.fewer, given, most, ep.low, work, shadow_offered, size);
      }

  -- the counts of a relay and of all are far below the last
  pub record Low (relayed : ℕ) (c : Counts) (device : X) : Type 0 where
    pub heard : s.party.heard device + c.heard ≤ 1000000
    pub handled : c.handled ≤ 200000
    pub accesses : c.accesses ≤ 80000000
    pub relayed_low : relayed ≤ 250000000

  -- so many bells at most were heard on the three views, and before
  pub bells_few : (r : State E D) (device : X) (x : ControlStart) (v : DriverView) (w : DeviceView) (sv : DriverView) (sw : DeviceView)
      → Bounds r device x v w sv sw
      → device_hearings w + driver_hearings sv + device_hearings sw + command_bells_before plan k ≤ 1000000
  bells_few r device x v w sv sw b = omega (
    arith,
    b.guest_bells,
    b.offered,
    b.few,
    b.shadow_bells,
    b.shadow_given,
    b.most,
    b.low,
    b.work,
    b.device_bells,
    b.shadow_offered,
    b.shadow_collected,
    b.size,
    b.before,
  )

  pub low_of : (relayed : ℕ) (r : State E D) (c : Counts) (device : X) (x : ControlStart) (v : DriverView) (w : DeviceView)
      (sv : DriverView) (sw : DeviceView) → Bounds r device x v w sv sw → HasCommandRelayHeard s plan k relayed r c device v w sv sw
      → Low relayed c device
  low_of relayed r c device x v w sv sw b h =
      let heard : s.party.heard device + h.relays + c.heard ≤ 1000000 = omega (arith, h.heard, bells_few r device x v w sv sw b) in
      let handled : c.handled ≤ 200000 = omega (arith, h.handled, b.did_low) in
      let accesses : c.accesses ≤ 80000000 = omega (arith, h.pace, handled, heard) in
      record {
        heard = omega (arith, heard);
        handled = handled;
        accesses = accesses;
        relayed_low = omega (arith, h.counted, h.low, accesses, b.rings, heard, b.shadow_given, b.most, b.low, b.work);
      }
