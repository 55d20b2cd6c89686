-- What a relay of the control queue replays in an epoch, by the machine's order.
use Rattle.std.proofs.Common.{◌≡◌, inl, inr, ℕ, ◌≤◌, Bool, true, false, IsTrue, Some, List, [], if◌then◌else◌, length, map, refl, sym, ◌∙◌, ap, arith}
use Rattle.std.proofs.lemmas.List.{length-map}
use Rattle.vd_model.specs.declared.record.Begun.{Begun}
use Rattle.vd_ring.specs.declared.driver.DriverDone.{DriverDone}
use Rattle.vd_ring.specs.declared.driver.DriverView.{DriverView}
use Rattle.vd_ring.specs.declared.device.DeviceView.{DeviceView}
use Rattle.vd_ring.specs.declared.frame.Frame.{Frame}
use Rattle.vd_ring.specs.History.{collects}
use Rattle.vd_layout.specs.Driver.{DriverModel}
use Rattle.vd_layout.specs.Device.{DeviceModel}
use Rattle.vd_layout.specs.Layout.{LayoutModel}
use Rattle.vd_control.specs.declared.command.Command.{Command}
use Rattle.vd_control.specs.declared.settings.Settings.{Settings}
use Rattle.vd_control.specs.Commands.{spelled}
use Rattle.vd_control.specs.Settings.{default, replay}
use Rattle.vd_commands.specs.Words.{set_by}
use Rattle.vd_relay.specs.declared.control.Control.{Control}
use Rattle.vd_relay.specs.declared.counts.Counts.{Counts}
use Rattle.vd_relay.specs.declared.replay.ReplayStage.{ReplayStage}
use Rattle.vd_relay.specs.declared.replay.ReplayStage.TheVariants as stage
use Rattle.vd_relay.specs.declared.state.State.{State}
use Rattle.vd_relay.specs.Modes.{Opening, ControlHolds, has_replayed, replays_for}
use Rattle.vd_relay.specs.Replays.{IsAt, is_done}
use Rattle.vd_switch.specs.Controlling.{ControlStart, IsControlling, replay_list}
use Rattle.vd_switch.proofs.Controlling.{is_carrying, carries_by, list_by}
use Rattle.vd_machine.specs.File.{Plan}
use Rattle.vd_play.specs.Commands.{settings_at, replayed_commands}
use Rattle.vd_play.specs.CommandShadowed.{IsCommandStart}
use Rattle.vd_play.specs.Epochs.{Epoch, renewed_at}
use Rattle.vd_play.proofs.NoCommands.{replay_default}

by_renewal : (renewed : Bool) (s : Settings)
    → map spelled (replay (replays_for renewed s)) ≡ (if renewed then map spelled (replay s) else [])
by_renewal true s = refl
by_renewal false s = ap (map spelled) replay_default

module _ (plan : Plan) (k : ℕ) (x : ControlStart) (start : IsCommandStart plan k x) (ep : Epoch) (number : ep.number ≡ k)
    (renewed : ep.renewed ≡ renewed_at plan k) where
  pub replays_are : map spelled (replay_list x) ≡ replayed_commands plan ep
  replays_are = ap (λ (b : Bool). map spelled (replay (replays_for b x.opening.settings))) (start.replays ∙ sym renewed)
      ∙ by_renewal ep.renewed x.opening.settings
      ∙ ap (λ (z : Settings). if ep.renewed then map spelled (replay z) else [])
      (start.settings ∙ ap (settings_at plan) (sym number))

  pub replays_many : length (replay_list x) ≡ length (replayed_commands plan ep)
  replays_many = sym (length-map (replay_list x) spelled) ∙ ap length replays_are

module _ (plan : Plan) (k : ℕ) (x : ControlStart) (start : IsCommandStart plan k x) where
  pub replays_list : map spelled (replay_list x) ≡ (if renewed_at plan k then map spelled (replay (settings_at plan k)) else [])
  replays_list = ap (λ (b : Bool). map spelled (replay (replays_for b x.opening.settings))) start.replays
      ∙ by_renewal (renewed_at plan k) x.opening.settings
      ∙ ap (λ (z : Settings). if renewed_at plan k then map spelled (replay z) else []) start.settings

-- ---- a relay that has replayed all has collected all

collected_at : (st : ReplayStage) (cs : List Command) (n : ℕ) (g : Frame) (o : List DriverDone) → is_done st ≡ true → IsAt st cs n g o
    → length cs ≤ length (collects o)
collected_at stage.Done cs n g o done at = omega (arith, at.0, at.1.collected)
collected_at stage.Left cs n g o done at = cc done
collected_at stage.First cs n g o done at = cc done
collected_at stage.Second cs n g o done at = cc done
collected_at stage.Offering cs n g o done at = cc done
collected_at stage.Collecting cs n g o done at = cc done
collected_at (stage.Loading h) cs n g o done at = cc done
collected_at stage.Arming cs n g o done at = cc done
collected_at stage.Hearing cs n g o done at = cc done
collected_at stage.Disarming cs n g o done at = cc done

pub replay_collected : {E D : Type 0} (l : LayoutModel) (e : DeviceModel E) (d : DriverModel D) (x : ControlStart) (r : State E D)
    (k : Control) (s : Settings) (c : Counts) (begun : List Begun) (now : Settings) (words shadow_words : List ℕ) (v : DriverView)
    (w : DeviceView) (sv : DriverView) (sw : DeviceView) → IsControlling l e d x r k s c begun now words shadow_words v w sv sw
    → is_done k.replay.stage ≡ true → length (replay_list x) ≤ length (collects sv.done)
replay_collected l e d x r k s c begun now words shadow_words v w sv sw h done = elim (is_carrying k.mode) [
  | inl is ↦ (
      let whole : k.replay.next ≡ length (replay_list x) = h.holds.done.0 done in
      omega (arith, whole, (carries_by l e d x r k s c w sv is h.holds.does).commands.stands.tied.follows.collected)
      )
  | inr never ↦ (
      let list = list_by l e d x r k s c w sv k.mode never h.holds.does in
      let low = collected_at k.replay.stage (replay k.replay.settings) k.replay.next sv.frame sv.done done list.at in
      omega (arith, low, ap (λ (z : Settings). length (replay z)) h.holds.again)
      )
]

-- ---- what the device has set

-- a device that was reset sets again what was set, and any other has it still
pub set_again : (renewed : Bool) (was : Settings) → set_by default (map spelled (replay was)) ≡ was
    → set_by (if renewed then default else was) (if renewed then map spelled (replay was) else []) ≡ was
set_again true was back = back
set_again false was back = refl

-- ---- a wind-up replays no more and no less

same_truth : (a b : Bool) → (IsTrue a → IsTrue b) → (IsTrue b → IsTrue a) → b ≡ a
same_truth true true there back = refl
same_truth false false there back = refl
same_truth true false there back = there refl
same_truth false true there back = sym (back refl)

-- all of the list is acknowledged or it is not, by how many of it are
pub same_done : {E D : Type 0} (l : LayoutModel) (e : DeviceModel E) (d : DriverModel D) (z : Opening) (r r' : State E D) (k k' : Control)
    (s s' : Settings) (c c' : Counts) (w : DeviceView) (v : DriverView) → ControlHolds l e d z r k s c w v
    → ControlHolds l e d z r' k' s' c' w v → k'.replay.next ≡ k.replay.next → has_replayed (Some k') ≡ has_replayed (Some k)
same_done l e d z r r' k k' s s' c c' w v p q next = same_truth (has_replayed (Some k)) (has_replayed (Some k'))
    (λ is. q.done.1 (next ∙ p.done.0 is)) (λ is. p.done.1 (sym next ∙ q.done.0 is))
