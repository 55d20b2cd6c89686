-- A control lane begins, is kept, goes on to wind up, and leaves the guest's end at rest.
use Rattle.std.proofs.Common.{◌≡◌, ℕ, true, false, List, [], length, take, refl, sym, ◌∙◌, ap, subst, arith, inl, inr}
use Rattle.std.specs.List.{All}
use Rattle.std.proofs.lemmas.Bool.{false≢true}
use Rattle.std.proofs.lemmas.List.{length-take-le}
use Rattle.std.proofs.lemmas.List.Elements.{All-take}
use Rattle.vd_model.specs.declared.record.Begun.{Begun}
use Rattle.vd_ring.specs.declared.driver.DriverView.{DriverView}
use Rattle.vd_ring.specs.declared.device.DeviceView.{DeviceView}
use Rattle.vd_ring.specs.declared.frame.Used.{Used}
use Rattle.vd_ring.specs.History.{takes, gives}
use Rattle.vd_layout.specs.Driver.{DriverModel}
use Rattle.vd_layout.specs.Device.{DeviceModel}
use Rattle.vd_layout.specs.Layout.{LayoutModel, IsLawfulLayout}
use Rattle.vd_control.specs.declared.settings.Settings.{Settings}
use Rattle.vd_relay.specs.declared.control.Control.{Control}
use Rattle.vd_relay.specs.declared.control.Mode.{Mode}
use Rattle.vd_relay.specs.declared.control.Mode.TheVariants.{Replaying, Carrying, Leaving}
use Rattle.vd_relay.specs.declared.counts.Counts.{Counts}
use Rattle.vd_relay.specs.declared.stage.Stage.{Stage}
use Rattle.vd_relay.specs.declared.stage.Stage.TheVariants as stage
use Rattle.vd_relay.specs.declared.state.State.{State}
use Rattle.vd_relay.specs.Modes.{ControlHolds, Does}
use Rattle.vd_relay.specs.Replays as replays
use Rattle.vd_relay.specs.Stages.{is_rested}
use Rattle.vd_switch.specs.Account.{IsBegunBefore}
use Rattle.vd_switch.specs.ShadowingLanes.{IsWinding}
use Rattle.vd_switch.specs.CommandLanes.{CommandParts, KeepsCommands, IsSpelled, AreAnsweredTo, guest_commands, lane_commands}
use Rattle.vd_switch.specs.CommandLaneSteps.{LeavesCommands}
use Rattle.vd_switch.specs.Controlling.{ControlStart, IsControlling, replay_list, start_after, start_of, replayed_by}
use Rattle.vd_switch.proofs.CommandBegins.{starts}
use Rattle.vd_switch.proofs.CommandLanes.{replay_keeps, command_keeps}
use Rattle.vd_switch.proofs.CommandRests.{command_leaves, all_answered, replay_leaves}
use Rattle.vd_switch.proofs.Controlling.{is_carrying, all_of, some_by, untouched_by, carrying, replaying}

pub rested_stage : (s : Stage) → is_rested s ≡ true → s ≡ stage.Rested
rested_stage stage.Rested is = refl
rested_stage (stage.Offering n head) is = absurd (cc is)
rested_stage stage.Taking is = absurd (cc is)
rested_stage (stage.Collecting none) is = absurd (cc is)
rested_stage stage.Giving is = absurd (cc is)
rested_stage stage.ArmingGuest is = absurd (cc is)
rested_stage stage.ArmingShadow is = absurd (cc is)
rested_stage stage.HearingGuest is = absurd (cc is)
rested_stage stage.HearingShadow is = absurd (cc is)
rested_stage stage.DisarmingGuest is = absurd (cc is)
rested_stage stage.DisarmingShadow is = absurd (cc is)
rested_stage stage.Resting is = absurd (cc is)

module _ {E D : Type 0} (l : LayoutModel) (e : DeviceModel E) (d : DriverModel D) (x : ControlStart) (r : State E D) (k : Control)
    (s : Settings) (c : Counts) (begun : List Begun) (words shadow_words : List ℕ) (v : DriverView) (w : DeviceView) (sv : DriverView)
    (sw : DeviceView) where
  pub control_starts : ControlHolds l e d x.opening r k s c w sv → r.winding ≡ false
      → (k.mode ≡ Carrying → k.replay.next ≡ length (replay_list x)) → l.ring words v w → l.ring shadow_words sv sw
      → v.frame.control ≡ true → sv.frame.control ≡ true → takes w.done ≡ x.opening.takes → gives w.done ≡ x.opening.gives
      → length x.opening.takes ≡ length x.opening.gives → sv.done ≡ [] → sw.done ≡ [] → x.by.at ≡ length begun → x.by.from ≡ 0
      → All IsSpelled (replay_list x) → IsBegunBefore x.old (take (length x.opening.gives) (guest_commands v)) x.opening.gives
      → All (λ y. y.1 ≡ 1) x.old → IsControlling l e d x r k s c begun x.settings words shadow_words v w sv sw
  control_starts holds off whole ring shadow_ring control shadow_control same_takes same_gives even fresh device_fresh at from spelled old
      ones =
      let all : ℕ = length (replay_list x) in
      let n : ℕ = replayed_by k.mode k.replay.next all in
      let here : n ≡ all = elim (is_carrying k.mode) [
        | inl is ↦ some_by k.mode k.replay.next all is ∙ whole is
        | inr never ↦ all_of k.mode k.replay.next all never
      ] in
      let y = starts l (start_after x n) begun words shadow_words v w sv sw ring shadow_ring control shadow_control same_takes same_gives
      even fresh device_fresh at from (sym (length-take-le n (replay_list x) (omega (arith, here))))
      (All-take IsSpelled n (replay_list x) spelled) old ones in
      record {
        holds = holds;
        parts = y.parts;
        even = even;
        are_spelled = spelled;
        carried = y.replayed;
        winds = λ on. absurd (false≢true (sym off ∙ on));
        over = λ is. inl (whole is);
      }

module _ {E D : Type 0} (l : LayoutModel) (e : DeviceModel E) (d : DriverModel D) (law : IsLawfulLayout d e l) (x : ControlStart)
    (r : State E D) (k : Control) (s : Settings) (c : Counts) (begun : List Begun) (now : Settings) (words shadow_words : List ℕ)
    (v : DriverView) (w : DeviceView) (sv : DriverView) (sw : DeviceView)
    (h : IsControlling l e d x r k s c begun now words shadow_words v w sv sw) where
  pub control_keeps : KeepsCommands (start_of x k) begun v w
  control_keeps = elim (is_carrying k.mode) [
    | inl is ↦ command_keeps e d l law (start_of x k) r k.commander.commands s begun now words shadow_words v w sv sw
        (carrying l e d x r k s c begun now words shadow_words v w sv sw h is)
    | inr never ↦ replay_keeps e d l law (start_of x k) begun now words shadow_words v w sv sw
        (replaying l e d x r k s c begun now words shadow_words v w sv sw h never)
  ]

  -- ---- the wind-up

  pub control_winds : (r' : State E D) (k' : Control) → r.winding ≡ false → ControlHolds l e d x.opening r' k' s c w sv → k'.mode ≡ k.mode
      → k'.replay.next ≡ k.replay.next → IsWinding r' sw
      → IsControlling l e d x r' k' s c begun now words shadow_words v w sv sw
      × (lane_commands (start_of x k') begun ≡ lane_commands (start_of x k) begun)
  control_winds r' k' off holds mode next winding =
      let all : ℕ = length (replay_list x) in
      let same : replayed_by k'.mode k'.replay.next all ≡ replayed_by k.mode k.replay.next all =
      ap (λ (m : Mode). replayed_by m k'.replay.next all) mode ∙ ap (λ (n : ℕ). replayed_by k.mode n all) next in (
        record {
          holds = holds;
          parts = subst (λ (n : ℕ). CommandParts l (start_after x n) begun now words shadow_words v w sv sw) (sym same) h.parts;
          even = h.even;
          are_spelled = h.are_spelled;
          carried = subst (λ (n : ℕ). replays.AreCarried (take n (replay_list x)) sv.frame sv.done) (sym same) h.carried;
          winds = λ on. winding;
          over = λ is. elim (h.over (sym mode ∙ is)) [
            | inl whole ↦ inl (next ∙ whole)
            | inr cut ↦ absurd (false≢true (sym off ∙ cut.0))
          ];
        },
        ap (λ (n : ℕ). lane_commands (start_after x n) begun) same,
      )

  -- ---- the rest

  not_at_rest : (m : Mode) → (m ≡ Carrying → ⊥) → Does m l e d x.opening r k s c w sv → is_rested r.stage ≡ true
      → (e.stands r.guest w) × (e.resting r.guest ≡ true)
  not_at_rest Replaying never p rests = absurd (false≢true (sym (ap is_rested p.1.waits) ∙ rests))
  not_at_rest Carrying never p rests = absurd (never refl)
  not_at_rest Leaving never p rests = (p.left.serves, p.rests ∙ rests)

  pub control_leaves : is_rested r.stage ≡ true → LeavesCommands e r.guest (lane_commands (start_of x k) begun) v w
      × (AreAnsweredTo (length x.opening.gives) v w → AreAnsweredTo (length (gives w.done)) v w)
  control_leaves rests = elim (is_carrying k.mode) [
    | inl is ↦ (
        let lane = carrying l e d x r k s c begun now words shadow_words v w sv sw h is in
        let at = rested_stage r.stage rests in (
          command_leaves e d l law (start_of x k) r k.commander.commands s begun now words shadow_words v w sv sw lane at,
          all_answered e d l law (start_of x k) r k.commander.commands s begun now words shadow_words v w sv sw lane at,
        )
        )
    | inr never ↦ (
        let end = not_at_rest k.mode never h.holds.does rests in
        let same = (untouched_by l e d x r k s c w sv k.mode never h.holds.does).gives in (
          replay_leaves e d l law (start_of x k) begun now words shadow_words v w sv sw r.guest
              (replaying l e d x r k s c begun now words shadow_words v w sv sw h never) end.0 end.1,
          λ old. subst (λ (us : List Used). AreAnsweredTo (length us) v w) (sym same) old,
        )
        )
  ]
