-- One access of the shadow ring's device keeps a control lane.
use Rattle.std.proofs.Common.{◌≡◌, ℕ, ◌+◌, ◌-◌, ◌≤◌, true, false, Option, Some, List, length, drop, refl, sym, ◌∙◌, ap, subst, arith, inl, inr}
use Rattle.std.proofs.lemmas.List.{length-append, length-drop}
use Rattle.vd_model.specs.declared.record.Begun.{Begun}
use Rattle.vd_words.specs.Model.{PortModel, IsLawfulPort}
use Rattle.vd_words.specs.Step.{written}
use Rattle.vd_ring.specs.declared.driver.DriverView.{DriverView}
use Rattle.vd_ring.specs.declared.device.DeviceView.{DeviceView}
use Rattle.vd_ring.specs.Account.{Lawful}
use Rattle.vd_ring.specs.History.{gives}
use Rattle.vd_layout.specs.declared.moves.Move.{Move}
use Rattle.vd_layout.specs.Driver.{DriverModel}
use Rattle.vd_layout.specs.Device.{DeviceModel}
use Rattle.vd_layout.specs.Layout.{LayoutModel, IsLawfulLayout}
use Rattle.vd_layout.specs.laws.Plain.{plain_step}
use Rattle.vd_bus.specs.Device.{DeviceParty, IsLawfulDeviceParty, IsDeviceAccess, IsCommanded}
use Rattle.vd_bus.specs.Orders.{IsControl}
use Rattle.vd_control.specs.declared.settings.Settings.{Settings}
use Rattle.vd_table.specs.declared.Command as kept
use Rattle.vd_relay.specs.declared.state.State.{State}
use Rattle.vd_switch.specs.LaneBag.{MayBeginOne}
use Rattle.vd_switch.specs.CommandLanes.{CommandStart, CommandParts, IsReplaying, IsCommandLane, before, lane_commands, command_account}
use Rattle.vd_switch.specs.CommandLaneSteps.{DeviceCommanded}
use Rattle.vd_switch.proofs.CommandKept.{AreLinked, begun_count, lawful}
use Rattle.vd_switch.proofs.CommandLanes.{replay_links, command_links}
use Rattle.vd_switch.proofs.CommandLists.{commands_count}
use Rattle.vd_switch.proofs.CommandLoads.{AreBegun, begun_of, rises, rises_by, rises_to}
use Rattle.vd_switch.proofs.LaneBag.{may_begin}

module _ {Q E D X C : Type 0} (q : PortModel Q) (qlaw : IsLawfulPort q) (e : DeviceModel E) (d : DriverModel D) (l : LayoutModel)
    (law : IsLawfulLayout d e l) (m : DeviceParty X C) (mlaw : IsLawfulDeviceParty e m) (y : CommandStart) (words shadow_words : List ℕ)
    (v : DriverView) (w : DeviceView) (sv : DriverView) (sw : DeviceView) (x x' : X) (b b' : Q) (said : Move)
    (attached : m.attached x ≡ Some y.by) (for_control : IsControl y.by.queue) (from : m.attached_with x ≡ y.settings)
    (plain : q.plain b shadow_words) (s : IsDeviceAccess q e m b b' sw x x' said) where
  abbrev sw' : DeviceView
  sw' = e.side.after sw s.op s.access s.got

  abbrev words' : List ℕ
  words' = written shadow_words s.access

  module _ (h : CommandParts l y (m.begun x) (m.settings x) words shadow_words v w sv sw) where
    pub served_parts : CommandParts l y (m.begun x') (m.settings x') words words' v w sv sw'
    served_parts = record {
      ring = h.ring;
      shadow_ring = (plain_step q qlaw e.side (λ us u. l.ring us sv u) b b' shadow_words sw s.op s.access s.got
          (law.device_keeps shadow_words sv sw s.op s.access h.shadow_ring s.was_next) plain s.moved).meets;
      control = h.control;
      commanded = subst (λ (z : Settings). IsCommanded (m.begun x') y.by z (m.settings x') sw'.done) (s.served.attached_with ∙ from)
          (mlaw.commanded x' sw' y.by s.holds (s.served.attached ∙ attached) for_control);
      from_first = h.from_first;
      counted = h.counted;
      are_spelled = h.are_spelled;
      begun_before = h.begun_before;
      ones = h.ones;
    }

    pub commanded : (Lane : List ℕ → Type 0) → Lane words' → AreLinked y v w sv sw → AreLinked y v w sv sw'
        → DeviceCommanded q y Lane (m.begun x) (m.begun x') b' v w sw sw'
    commanded Lane lane t t' =
        let after = served_parts in
        let was : length (lane_commands y (m.begun x)) ≡ before y + (length (drop y.by.at (m.begun x)) - y.from.replayed) =
        begun_count e d l law y (m.begun x) (m.settings x) words shadow_words v w sv sw h t in
        let is : length (lane_commands y (m.begun x')) ≡ before y + (length (drop y.by.at (m.begun x')) - y.from.replayed) =
        begun_count e d l law y (m.begun x') (m.settings x') words words' v w sv sw' after t' in
        let n : ℕ = length (drop y.by.at (m.begun x)) in
        let k : ℕ = length (drop y.by.at (m.begun x')) in
        let begun : AreBegun sw.done n = begun_of (m.begun x) y.by y.settings (m.settings x) sw.done h.commanded h.from_first in
        let begun' : AreBegun sw'.done k = begun_of (m.begun x') y.by y.settings (m.settings x') sw'.done after.commanded h.from_first in
        let low : n ≤ k = omega (
          arith,
          length-drop y.by.at (m.begun x),
          length-drop y.by.at (m.begun x'),
          length-append (m.begun x) s.served.grows.0,
          ap (λ (bs : List Begun). length bs) s.served.grows.1,
        ) in
        let account = command_account v (lane_commands y (m.begun x)) w in
        let account' = command_account v (lane_commands y (m.begun x')) w in
        let lawful_was : Lawful account = lawful e d l law y (m.begun x) (m.settings x) words shadow_words v w sv sw h t in
        let lawful_is : Lawful account' = lawful e d l law y (m.begun x') (m.settings x') words words' v w sv sw' after t' in
        record {
          shadow_words = words';
          plain = (plain_step q qlaw e.side (λ us u. l.ring us sv u) b b' shadow_words sw s.op s.access s.got
              (law.device_keeps shadow_words sv sw s.op s.access h.shadow_ring s.was_next) plain s.moved).plain;
          lane = lane;
          began = subst (λ (j : ℕ). MayBeginOne j (length (lane_commands y (m.begun x))) (gives w.done) (length (lane_commands y (m.begun x'))))
              (commands_count v)
              (may_begin account account' lawful_was lawful_is refl (elim (rises sw.done sw'.done n k y.from.replayed (before y) begun begun' low s.acts) [
                | inl same ↦ inl (is ∙ same ∙ sym was)
                | inr up ↦ inr (is ∙ up ∙ ap (λ (j : ℕ). j + 1) (sym was))
              ]));
          exact = (
            λ up. rises_by sw.done sw'.done n k y.from.replayed (before y) begun begun' low s.acts
                (sym is ∙ up ∙ ap (λ (j : ℕ). j + 1) was),
            λ load. is ∙ rises_to sw.done sw'.done n k y.from.replayed (before y) begun begun' low load
                ∙ ap (λ (j : ℕ). j + 1) (sym was),
          );
        }

  pub replay_commanded : IsReplaying l y (m.begun x) (m.settings x) words shadow_words v w sv sw
      → DeviceCommanded q y (λ us. IsReplaying l y (m.begun x') (m.settings x') words us v w sv sw') (m.begun x) (m.begun x') b' v w sw sw'
  replay_commanded h =
      let lane : IsReplaying l y (m.begun x') (m.settings x') words words' v w sv sw' = record {
        parts = served_parts h.parts;
        same_takes = h.same_takes;
        same_gives = h.same_gives;
        even = h.even;
        few = h.few;
        replayed = h.replayed;
      } in
      commanded h.parts (λ us. IsReplaying l y (m.begun x') (m.settings x') words us v w sv sw') lane
      (replay_links e d l law y (m.begun x) (m.settings x) words shadow_words v w sv sw h)
      (replay_links e d l law y (m.begun x') (m.settings x') words words' v w sv sw' lane)

  pub lane_commanded : (r : State E D) (table : List (Option kept.Command)) (settings : Settings) → r.winding ≡ false
      → IsCommandLane e d l y r table settings (m.begun x) (m.settings x) words shadow_words v w sv sw
      → DeviceCommanded q y (λ us. IsCommandLane e d l y r table settings (m.begun x') (m.settings x') words us v w sv sw')
      (m.begun x) (m.begun x') b' v w sw sw'
  lane_commanded r table settings off h =
      let lane : IsCommandLane e d l y r table settings (m.begun x') (m.settings x') words words' v w sv sw' = record {
        parts = served_parts h.parts;
        relays = h.relays;
        carried = h.carried;
        replayed = h.replayed;
        winds = λ on. let no_winding : true ≡ false = sym on ∙ off in absurd (cc);
      } in
      commanded h.parts (λ us. IsCommandLane e d l y r table settings (m.begun x') (m.settings x') words us v w sv sw') lane
      (command_links e d l law y r table settings (m.begun x) (m.settings x) words shadow_words v w sv sw h)
      (command_links e d l law y r table settings (m.begun x') (m.settings x') words words' v w sv sw' lane)
