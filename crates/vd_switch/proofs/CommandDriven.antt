-- One access of the guest keeps a control lane.
use Rattle.std.proofs.Common.{◌≡◌, ℕ, Option, List, sym, ◌∙◌, ap}
use Rattle.vd_model.specs.declared.record.Begun.{Begun}
use Rattle.vd_words.specs.Model.{PortModel, IsLawfulPort}
use Rattle.vd_words.specs.Step.{written}
use Rattle.vd_ring.specs.declared.driver.DriverView.{DriverView}
use Rattle.vd_ring.specs.declared.device.DeviceView.{DeviceView}
use Rattle.vd_ring.specs.declared.frame.Frame.{Frame}
use Rattle.vd_layout.specs.declared.moves.Move.{Move}
use Rattle.vd_layout.specs.Driver.{DriverModel}
use Rattle.vd_layout.specs.Device.{DeviceModel}
use Rattle.vd_layout.specs.Layout.{LayoutModel, IsLawfulLayout}
use Rattle.vd_layout.specs.laws.Plain.{plain_step}
use Rattle.vd_bus.specs.Guest.{GuestParty, IsGuestAccess}
use Rattle.vd_control.specs.declared.settings.Settings.{Settings}
use Rattle.vd_table.specs.declared.Command as kept
use Rattle.vd_relay.specs.declared.state.State.{State}
use Rattle.vd_switch.specs.CommandLanes.{CommandStart, CommandParts, IsReplaying, IsCommandLane, before, lane_commands, command_account}
use Rattle.vd_switch.specs.CommandLaneSteps.{GuestCommanded}
use Rattle.vd_switch.proofs.CommandGuest.{commands_stay, answers_stay}
use Rattle.vd_switch.proofs.CommandKept.{AreLinked, lawful}
use Rattle.vd_switch.proofs.CommandLanes.{replay_links, command_links}
use Rattle.vd_switch.proofs.CommandLists.{commands_count}
use Rattle.vd_switch.proofs.LaneBag.{may_offer}

module _ {P E D G : Type 0} (p : PortModel P) (plaw : IsLawfulPort p) (e : DeviceModel E) (d : DriverModel D) (l : LayoutModel)
    (law : IsLawfulLayout d e l) (m : GuestParty G) (y : CommandStart) (begun : List Begun) (now : Settings) (words shadow_words : List ℕ)
    (v : DriverView) (w : DeviceView) (sv : DriverView) (sw : DeviceView) (g g' : G) (a a' : P) (said : Move) (plain : p.plain a words)
    (s : IsGuestAccess p d m a a' v g g' said) where
  abbrev v' : DriverView
  v' = d.side.after v s.op s.access s.got

  abbrev after_words : List ℕ
  after_words = written words s.access

  module _ (h : CommandParts l y begun now words shadow_words v w sv sw) (t : AreLinked y v w sv sw) where
    same_frame : v'.frame ≡ v.frame
    same_frame = law.driver_end.framed v s.op s.access s.got

    pub driven_parts : CommandParts l y begun now after_words shadow_words v' w sv sw
    driven_parts = record {
      ring = (plain_step p plaw d.side (λ us u. l.ring us u w) a a' words v s.op s.access s.got
          (law.driver_keeps words v w s.op s.access h.ring s.was_next) plain s.moved).meets;
      shadow_ring = h.shadow_ring;
      control = (ap (λ (f : Frame). f.control) same_frame ∙ h.control.0, h.control.1);
      commanded = h.commanded;
      from_first = h.from_first;
      counted = h.counted;
      are_spelled = h.are_spelled;
      begun_before = record {
        chains = h.begun_before.chains ∙ sym (commands_stay v v' same_frame s.acts (before y) t.some);
        inside = h.begun_before.inside;
        lens = h.begun_before.lens;
      };
      ones = h.ones;
    }

    pub driven : (Lane : List ℕ → Type 0) → Lane after_words → GuestCommanded p y Lane begun a' v v' w
    driven Lane lane = record {
      words = after_words;
      plain = (plain_step p plaw d.side (λ us u. l.ring us u w) a a' words v s.op s.access s.got
          (law.driver_keeps words v w s.op s.access h.ring s.was_next) plain s.moved).plain;
      lane = lane;
      offered = may_offer (command_account v (lane_commands y begun) w) v.done v'.done
          (lawful e d l law y begun now words shadow_words v w sv sw h t) (commands_count v) s.acts;
      answers = answers_stay v v' same_frame s.acts w (before y) t.some;
    }

  pub replay_driven : IsReplaying l y begun now words shadow_words v w sv sw
      → GuestCommanded p y (λ us. IsReplaying l y begun now us shadow_words v' w sv sw) begun a' v v' w
  replay_driven h =
      let t = replay_links e d l law y begun now words shadow_words v w sv sw h in
      driven h.parts t (λ us. IsReplaying l y begun now us shadow_words v' w sv sw) record {
        parts = driven_parts h.parts t;
        same_takes = h.same_takes;
        same_gives = h.same_gives;
        even = h.even;
        few = h.few;
        replayed = h.replayed;
      }

  pub lane_driven : (r : State E D) (table : List (Option kept.Command)) (settings : Settings)
      → IsCommandLane e d l y r table settings begun now words shadow_words v w sv sw
      → GuestCommanded p y (λ us. IsCommandLane e d l y r table settings begun now us shadow_words v' w sv sw) begun a' v v' w
  lane_driven r table settings h =
      let t = command_links e d l law y r table settings begun now words shadow_words v w sv sw h in
      driven h.parts t (λ us. IsCommandLane e d l y r table settings begun now us shadow_words v' w sv sw) record {
        parts = driven_parts h.parts t;
        relays = h.relays;
        carried = h.carried;
        replayed = h.replayed;
        winds = h.winds;
      }
