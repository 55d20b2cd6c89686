-- What the turns of guest, relay and device keep of the control queue's lane.
use Rattle.std.proofs.Common.{◌≡◌, ℕ, ◌≤◌, false, Some, List, ◌++◌, length, take, drop, sym, ◌∙◌, ap, arith}
use Rattle.std.specs.List.{All}
use Rattle.std.proofs.lemmas.Bool.{false≢true}
use Rattle.std.proofs.lemmas.List.{take-append-drop}
use Rattle.std.proofs.lemmas.List.Elements.{All-append, All-take, All-same}
use mathlib.Core.List.{IsPrefix}
use Rattle.vd_model.specs.declared.record.Begun.{Begun}
use Rattle.vd_words.specs.Plain.{RingWords}
use Rattle.vd_ring.specs.declared.driver.DriverView.{DriverView}
use Rattle.vd_ring.specs.declared.device.DeviceView.{DeviceView}
use Rattle.vd_bus.specs.Orders.{IsControl}
use Rattle.vd_control.specs.declared.settings.Settings.{Settings}
use Rattle.vd_relay.specs.declared.control.Control.{Control}
use Rattle.vd_relay.specs.declared.counts.Counts.{Counts}
use Rattle.vd_relay.specs.declared.state.State.{State}
use Rattle.vd_switch.specs.Controlling.{ControlStart}
use Rattle.vd_switch.proofs.ControllingBegins.{control_keeps}
use Rattle.vd_turns.specs.ControlTurns.{IsControlLane}
use Rattle.vd_turns.specs.Turns.{GuestRun, DeviceRun}
use Rattle.vd_control_lane.proofs.GuestTurns.{guest_keeps, answers_stay}
use Rattle.vd_control_lane.proofs.DeviceTurns.{device_keeps}
use Rattle.vd_control_lane.proofs.AnyScripts.{any_sent}
use Rattle.vd_machine.specs.File.{Plan}
use Rattle.vd_play.specs.Commands.{control_queue}
use Rattle.vd_play.specs.CommandLane.{IsCommandDriven, IsCommandAccount, AreCommandsKept}
use Rattle.vd_play.specs.CommandShadowed.{AreCommandsRelayed}
use Rattle.vd_play.specs.CommandsPlayed.{bytes_of, HasAckLength}
use Rattle.vd_play.specs.ControlJournal.{journalled_at}
use Rattle.vd_play.specs.Setting.{Setting, IsLawful}
use Rattle.vd_play.proofs.Lists.{same_front, length_le}

-- what was begun first had the length of its ack, and so has what came behind it
acks_joined : (bs bs' : List Begun) (at : ℕ) → IsPrefix bs bs' → at ≤ length bs → All HasAckLength bs → All HasAckLength (drop at bs')
    → All HasAckLength bs'
acks_joined bs bs' at p le old new =
    let front : All HasAckLength (take at bs') =
    All-same HasAckLength (take at bs') (take at bs) (same_front at bs bs' p le) (All-take HasAckLength at bs old) in
    All-same HasAckLength bs' (take at bs' ++ drop at bs') (sym (take-append-drop at bs'))
    (All-append HasAckLength (take at bs') (drop at bs') front new)

module _ {D E G X C : Type 0} (s : Setting D E G X C) (law : IsLawful s) (plan : Plan) where
  -- after some steps of the guest
  pub driven_guest : (made : ℕ) (words words' : RingWords) (guest guest' : G) (v : DriverView) (w : DeviceView)
      → words'.ring ≡ words.ring → IsCommandDriven s plan words guest v w
      → (t : GuestRun s.layout s.guest words'.words v w guest guest' made) → IsCommandDriven s plan words' guest' t.view w
  driven_guest made words words' guest guest' v w same p t = record {
    queue = p.queue;
    numbered = same ∙ p.numbered;
    ring = t.ring;
    part = record {
      script = t.script ∙ p.part.script;
      holds = t.holds;
      framed = sym (law.layout.wide words'.words t.view w t.ring).1 ∙ (law.layout.wide words.words v w p.ring).1 ∙ p.part.framed;
    };
  }

  -- after some steps of the other side
  pub driven_relay : (words words' : RingWords) (guest : G) (v : DriverView) (w w' : DeviceView) → words'.ring ≡ words.ring
      → s.layout.ring words'.words v w' → IsCommandDriven s plan words guest v w → IsCommandDriven s plan words' guest v w'
  driven_relay words words' guest v w w' same ring p =
      record { queue = p.queue; numbered = same ∙ p.numbered; ring = ring; part = p.part }

  pub kept_guest : (k made : ℕ) (words words' : RingWords) (guest guest' : G) (device : X) (v : DriverView) (w : DeviceView)
      → words'.ring ≡ words.ring → AreCommandsKept s plan k words guest device v w
      → (t : GuestRun s.layout s.guest words'.words v w guest guest' made) → AreCommandsKept s plan k words' guest' device t.view w
  kept_guest k made words words' guest guest' device v w same p t = record {
    driven = driven_guest made words words' guest guest' v w same p.driven t;
    account = p.account;
    reserved = p.reserved;
  }

  -- more was begun behind what the account has
  pub account_grows : (k at : ℕ) (begun begun' : List Begun) → IsCommandAccount plan k begun → IsPrefix begun begun' → at ≤ length begun
      → All HasAckLength (drop at begun') → IsCommandAccount plan k begun'
  account_grows k at begun begun' a grows le new = record {
    before = ap bytes_of (same_front (journalled_at plan k) begun begun' grows a.many) ∙ a.before;
    many = omega (arith, a.many, length_le begun begun' grows);
    each = acks_joined begun begun' at grows le a.each new;
  }

  module _ (k made : ℕ) where
    pub keeps_guest : (words words' : RingWords) (shadow_words : List ℕ) (r : State E D) (control : Control) (settings : Settings)
        (c : Counts) (guest guest' : G) (device : X) (x : ControlStart) (v : DriverView) (w : DeviceView) (sv : DriverView)
        (sw : DeviceView) → words'.ring ≡ words.ring
        → AreCommandsRelayed s plan k words shadow_words r control settings c guest device x v w sv sw
        → (t : GuestRun s.layout s.guest words'.words v w guest guest' made)
        → AreCommandsRelayed s plan k words' shadow_words r control settings c guest' device x t.view w sv sw
    keeps_guest words words' shadow_words r control settings c guest guest' device x v w sv sw same p t =
        let q = p.driven.queue in
        let part = p.driven.part in
        record {
          epoch = p.epoch;
          driven = driven_guest made words words' guest guest' v w same p.driven t;
          account = p.account;
          reserved = p.reserved;
          framed = p.framed;
          start = p.start;
          lane = record {
            controlling = guest_keeps s.layout s.device s.driver law.layout s.guest law.guest x r control settings c
                (s.party.begun device) (s.party.settings device) words.words words'.words shadow_words v w sv sw (control_queue plan)
                guest guest' made p.lane.controlling part.holds part.script
                (λ b u bu bs. any_sent s.driver s.guest law.guest b u (control_queue plan) bu bs q.plain) q.sendable t;
            answers = answers_stay s.layout s.device s.driver law.layout s.guest law.guest x r control settings c
                (s.party.begun device) (s.party.settings device) words.words words'.words shadow_words v w sv sw (control_queue plan)
                guest guest' made p.lane.controlling part.holds part.script
                (λ b u bu bs. any_sent s.driver s.guest law.guest b u (control_queue plan) bu bs q.plain) q.sendable t p.lane.answers;
            acks = p.lane.acks;
            covered = p.lane.covered;
          };
        }

    pub keeps_relay : (words words' : RingWords) (shadow_words shadow_words' : List ℕ) (r r' : State E D) (control control' : Control)
        (settings settings' : Settings) (c c' : Counts) (guest : G) (device : X) (x : ControlStart) (v : DriverView) (w w' : DeviceView)
        (sv sv' : DriverView) (sw : DeviceView) → words'.ring ≡ words.ring
        → AreCommandsRelayed s plan k words shadow_words r control settings c guest device x v w sv sw
        → IsControlLane s.layout s.device s.driver x (s.party.begun device) (s.party.settings device) words'.words shadow_words' v w' sv' sw
        r' control' settings' c'
        → AreCommandsRelayed s plan k words' shadow_words' r' control' settings' c' guest device x v w' sv' sw
    keeps_relay words words' shadow_words shadow_words' r r' control control' settings settings' c c' guest device x v w w' sv sv' sw
        same p u = record {
          epoch = p.epoch;
          driven = driven_relay words words' guest v w w' same u.controlling.parts.ring p.driven;
          account = p.account;
          reserved = p.reserved;
          framed = sym (law.layout.wide shadow_words' sv' sw u.controlling.parts.shadow_ring).1
              ∙ (law.layout.wide shadow_words sv sw p.lane.controlling.parts.shadow_ring).1 ∙ p.framed;
          start = p.start;
          lane = u;
        }

    -- while the relay doesn't wind up
    pub keeps_device : (words : RingWords) (shadow_words shadow_words' : List ℕ) (r : State E D) (control : Control) (settings : Settings)
        (c : Counts) (guest : G) (device device' : X) (x : ControlStart) (v : DriverView) (w : DeviceView) (sv : DriverView)
        (sw : DeviceView) → r.winding ≡ false → s.party.attached device ≡ Some x.by → IsControl x.by.queue
        → s.party.attached_with device ≡ x.settings
        → AreCommandsRelayed s plan k words shadow_words r control settings c guest device x v w sv sw
        → (t : DeviceRun s.layout s.party shadow_words' sv sw device device' made)
        → AreCommandsRelayed s plan k words shadow_words' r control settings c guest device' x v w sv t.view
    keeps_device words shadow_words shadow_words' r control settings c guest device device' x v w sv sw off is for from p t =
        let old : List Begun = s.party.begun device in
        let new : List Begun = s.party.begun device' in
        let lane = device_keeps s.layout s.device s.driver s.party law.party x r control settings c words.words shadow_words shadow_words'
        v w sv sw device device' made p.lane.controlling off is for from t in
        let keeps = control_keeps s.layout s.device s.driver law.layout x r control settings c new (s.party.settings device') words.words
        shadow_words' v w sv t.view lane in
        record {
          epoch = p.epoch;
          driven = p.driven;
          account = account_grows k x.by.at old new p.account t.served.grows p.lane.controlling.parts.commanded.after keeps.lens;
          reserved = record {
            window = t.served.window ∙ p.reserved.window;
            room = omega (arith, p.reserved.room, t.served.room.1);
          };
          framed = p.framed;
          start = p.start;
          lane = record {
            controlling = lane;
            answers = p.lane.answers;
            acks = p.lane.acks;
            covered = λ on. absurd (false≢true (sym off ∙ on));
          };
        }
