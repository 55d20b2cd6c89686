-- One access of a relay that replays, or that leaves the guest's end after it, keeps its control lane.
use Rattle.std.proofs.Common.{◌≡◌, ℕ, ◌≤◌, Bool, List, length, sym, ◌∙◌, subst, arith, inl, inr}
use Rattle.vd_model.specs.declared.record.Begun.{Begun}
use Rattle.vd_words.specs.Model.{PortModel, IsLawfulPort}
use Rattle.vd_words.specs.Step.{written}
use Rattle.vd_ring.specs.declared.driver.DriverDone.{DriverDone}
use Rattle.vd_ring.specs.declared.driver.DriverView.{DriverView}
use Rattle.vd_ring.specs.declared.device.DeviceView.{DeviceView}
use Rattle.vd_ring.specs.declared.frame.Frame.{Frame}
use Rattle.vd_ring.specs.History.{offers}
use Rattle.vd_layout.specs.Driver.{DriverModel}
use Rattle.vd_layout.specs.Device.{DeviceModel}
use Rattle.vd_layout.specs.Layout.{LayoutModel, IsLawfulLayout}
use Rattle.vd_layout.specs.laws.Plain.{plain_step}
use Rattle.vd_control.specs.declared.command.Command.{Command}
use Rattle.vd_control.specs.declared.settings.Settings.{Settings}
use Rattle.vd_control.specs.Settings.{replay}
use Rattle.vd_relay.specs.declared.counts.Turn.{Turn}
use Rattle.vd_relay.specs.declared.replay.Replay.{Replay}
use Rattle.vd_relay.specs.declared.replay.ReplayStage.{ReplayStage}
use Rattle.vd_relay.specs.declared.replay.ReplayStage.TheVariants.{First, Second, Offering, Collecting, Loading, Arming, Hearing, Disarming, Done, Left}
use Rattle.vd_relay.specs.Leaving.{IsLeave}
use Rattle.vd_relay.specs.Replays.{IsAt, ReplayTurn, AreCarried}
use Rattle.vd_switch.specs.CommandLanes.{CommandStart, IsReplaying}
use Rattle.vd_switch.specs.CommandLaneSteps.{ReplayCommanded}

-- no more chains are offered than there are commands
pub few_offers : (st : ReplayStage) (cs : List Command) (n : ℕ) (g : Frame) (o : List DriverDone) → IsAt st cs n g o
    → length (offers o) ≤ length cs
few_offers First cs n g o h = omega (arith, h.0, h.1.offered)
few_offers Second cs n g o h = omega (arith, h.0, h.1.offered)
few_offers Offering cs n g o h = omega (arith, h.0, h.1.offered)
few_offers Collecting cs n g o h = omega (arith, h.0, h.1.offered)
few_offers (Loading q) cs n g o h = omega (arith, h.0, h.1.offered)
few_offers Arming cs n g o h = omega (arith, h.0, h.1.offered)
few_offers Hearing cs n g o h = omega (arith, h.0, h.1.offered)
few_offers Disarming cs n g o h = omega (arith, h.0, h.1.offered)
few_offers Done cs n g o h = omega (arith, h.0, h.1.offered)
few_offers Left cs n g o h = elim h.1 as (λ _. length (offers o) ≤ length cs) [
  | inl b ↦ omega (arith, h.0, b.offered)
  | inr b ↦ omega (arith, h.0, b.offered)
]

pub replay_stepped : {Q E D : Type 0} (q : PortModel Q) (qlaw : IsLawfulPort q) (e : DeviceModel E) (d : DriverModel D) (l : LayoutModel)
    (law : IsLawfulLayout d e l) (y : CommandStart) (begun : List Begun) (now : Settings) (words shadow_words : List ℕ) (v : DriverView)
    (w : DeviceView) (sv : DriverView) (sw : DeviceView) (r r' : Replay) (x x' : D) (b b' : Q) (turn : Turn)
    → IsReplaying l y begun now words shadow_words v w sv sw → q.plain b shadow_words → (t : ReplayTurn q l d b b' r r' x x' sv turn)
    → y.replays ≡ replay r'.settings
    → ReplayCommanded q (λ us. IsReplaying l y begun now words us v w (d.side.after sv t.op t.access t.got) sw) b'
replay_stepped q qlaw e d l law y begun now words shadow_words v w sv sw r r' x x' b b' turn h plain t same =
    let u : DriverView = d.side.after sv t.op t.access t.got in
    let s = plain_step q qlaw d.side (λ us z. l.ring us z sw) b b' shadow_words sv t.op t.access t.got
    (law.driver_keeps shadow_words sv sw t.op t.access h.parts.shadow_ring t.was_next) plain t.moved in
    let on = t.holds.replays in
    record {
      words = written shadow_words t.access;
      plain = s.plain;
      lane = record {
        parts = record {
          ring = h.parts.ring;
          shadow_ring = s.meets;
          control = (h.parts.control.0, on.ring.control);
          commanded = h.parts.commanded;
          from_first = h.parts.from_first;
          counted = h.parts.counted;
          are_spelled = h.parts.are_spelled;
          begun_before = h.parts.begun_before;
          ones = h.parts.ones;
        };
        same_takes = h.same_takes;
        same_gives = h.same_gives;
        even = h.even;
        few = subst (λ (cs : List Command). length (offers u.done) ≤ length cs) (sym same)
            (few_offers r'.stage (replay r'.settings) r'.next u.frame u.done on.at);
        replayed = subst (λ (cs : List Command). AreCarried cs u.frame u.done) (sym same) on.carried;
      };
    }

pub replay_left : {P E D : Type 0} (p : PortModel P) (plaw : IsLawfulPort p) (e : DeviceModel E) (d : DriverModel D) (l : LayoutModel)
    (law : IsLawfulLayout d e l) (y : CommandStart) (begun : List Begun) (now : Settings) (words shadow_words : List ℕ) (v : DriverView)
    (w : DeviceView) (sv : DriverView) (sw : DeviceView) (end end' : E) (a a' : P) (rested : Bool)
    → IsReplaying l y begun now words shadow_words v w sv sw → p.plain a words → (t : IsLeave p e a a' end end' w rested)
    → ReplayCommanded p (λ us. IsReplaying l y begun now us shadow_words v (e.side.after w t.op t.access t.got) sv sw) a'
replay_left p plaw e d l law y begun now words shadow_words v w sv sw end end' a a' rested h plain t =
    let s = plain_step p plaw e.side (λ us z. l.ring us v z) a a' words w t.op t.access t.got
    (law.device_keeps words v w t.op t.access h.parts.ring t.was_next) plain t.moved in
    record {
      words = written words t.access;
      plain = s.plain;
      lane = record {
        parts = record {
          ring = s.meets;
          shadow_ring = h.parts.shadow_ring;
          control = h.parts.control;
          commanded = h.parts.commanded;
          from_first = h.parts.from_first;
          counted = h.parts.counted;
          are_spelled = h.parts.are_spelled;
          begun_before = h.parts.begun_before;
          ones = h.parts.ones;
        };
        same_takes = t.takes ∙ h.same_takes;
        same_gives = t.gives ∙ h.same_gives;
        even = h.even;
        few = h.few;
        replayed = h.replayed;
      };
    }
