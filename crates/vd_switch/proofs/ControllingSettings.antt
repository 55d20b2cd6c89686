-- The settings of a control lane: those that its relay hands back, and those of the shadow ring's device.
use Rattle.std.proofs.Common.{◌≡◌, ℕ, ◌-◌, ◌≤◌, true, List, ◌++◌, length, map, take, drop, refl, sym, ◌∙◌, ap, arith, inl, inr}
use Rattle.std.proofs.lemmas.Bool.{false≢true, cases_lt}
use Rattle.std.proofs.lemmas.List.{length-map, length-append, length-drop, take_at, take_all}
use Rattle.vd_model.specs.declared.record.Begun.{Begun}
use Rattle.vd_ring.specs.declared.driver.DriverView.{DriverView}
use Rattle.vd_ring.specs.declared.device.DeviceView.{DeviceView}
use Rattle.vd_ring.specs.declared.frame.Used.{Used}
use Rattle.vd_ring.specs.History.{gives}
use Rattle.vd_layout.specs.Driver.{DriverModel}
use Rattle.vd_layout.specs.Device.{DeviceModel}
use Rattle.vd_layout.specs.Layout.{LayoutModel, IsLawfulLayout}
use Rattle.vd_control.specs.declared.command.Command.{Command}
use Rattle.vd_control.specs.declared.settings.Settings.{Settings}
use Rattle.vd_control.specs.Commands.{spelled}
use Rattle.vd_control.specs.Settings.{default}
use Rattle.vd_commands.specs.Words.{set_by}
use Rattle.vd_relay.specs.declared.control.Control.{Control}
use Rattle.vd_relay.specs.declared.control.Mode.{Mode}
use Rattle.vd_relay.specs.declared.control.Mode.TheVariants.{Replaying, Carrying, Leaving}
use Rattle.vd_relay.specs.declared.counts.Counts.{Counts}
use Rattle.vd_relay.specs.declared.replay.ReplayStage.{ReplayStage}
use Rattle.vd_relay.specs.declared.replay.ReplayStage.TheVariants.{First, Second, Offering, Collecting, Loading, Arming, Hearing, Disarming, Done, Left}
use Rattle.vd_relay.specs.declared.state.State.{State}
use Rattle.vd_relay.specs.Modes.{Does}
use Rattle.vd_relay.specs.Replays.{is_done, is_over}
use Rattle.vd_relay.specs.Stages.{is_rested}
use Rattle.vd_switch.specs.CommandLanes.{guest_commands, with_bytes, lane_commands}
use Rattle.vd_switch.specs.CommandSettling.{AcksCount}
use Rattle.vd_switch.specs.Controlling.{ControlStart, IsControlling, replay_list, start_of, replayed_by}
use Rattle.vd_switch.proofs.CommandAnswers.{device_settings}
use Rattle.vd_switch.proofs.CommandRests.{given_all}
use Rattle.vd_switch.proofs.CommandStays.{is_begun}
use Rattle.vd_switch.proofs.Controlling.{is_carrying, some_by, untouched_by, carrying}
use Rattle.vd_switch.proofs.ControllingBegins.{rested_stage, control_keeps}
use Rattle.vd_switch.proofs.ControllingSettles.{settles, set_more}

done_over : (st : ReplayStage) → is_done st ≡ true → is_over st ≡ true
done_over Done is = refl
done_over Left is = refl
done_over First is = absurd (cc is)
done_over Second is = absurd (cc is)
done_over Offering is = absurd (cc is)
done_over Collecting is = absurd (cc is)
done_over (Loading q) is = absurd (cc is)
done_over Arming is = absurd (cc is)
done_over Hearing is = absurd (cc is)
done_over Disarming is = absurd (cc is)

module _ {E D : Type 0} (l : LayoutModel) (e : DeviceModel E) (d : DriverModel D) (law : IsLawfulLayout d e l) (x : ControlStart)
    (r : State E D) (k : Control) (s : Settings) (c : Counts) (begun : List Begun) (now : Settings) (words shadow_words : List ℕ)
    (v : DriverView) (w : DeviceView) (sv : DriverView) (sw : DeviceView)
    (h : IsControlling l e d x r k s c begun now words shadow_words v w sv sw) where
  abbrev before : ℕ
  before = length x.opening.gives

  -- ---- the relay's

  same_settings : (m : Mode) → (m ≡ Carrying → ⊥) → Does m l e d x.opening r k s c w sv → s ≡ x.opening.settings
  same_settings Replaying never p = p.1.settings
  same_settings Carrying never p = absurd (never refl)
  same_settings Leaving never p = p.settings

  same_count : (k.mode ≡ Carrying → ⊥) → length (gives w.done) ≡ before
  same_count never = ap (λ (us : List Used). length us) (untouched_by l e d x r k s c w sv k.mode never h.holds.does).gives

  more_given : is_rested r.stage ≡ true → before ≤ length (gives w.done)
  more_given rests = elim (is_carrying k.mode) [
    | inl is ↦ (
        let many = given_all e d l law (start_of x k) r k.commander.commands s begun now words shadow_words v w sv sw
        (carrying l e d x r k s c begun now words shadow_words v w sv sw h is) (rested_stage r.stage rests) in
        omega (arith, many)
        )
    | inr never ↦ omega (arith, same_count never)
  ]

  pub control_settles : is_rested r.stage ≡ true → AcksCount sv.done
      → s ≡ set_by x.opening.settings (take (length (gives w.done) - before) (drop before (guest_commands v)))
  control_settles rests acks = elim (is_carrying k.mode) [
    | inl is ↦ settles e d l law (start_of x k) r k.commander.commands s begun now words shadow_words v w sv sw
        (carrying l e d x r k s c begun now words shadow_words v w sv sw h is) (rested_stage r.stage rests) acks
    | inr never ↦ (
        let none : length (gives w.done) - before ≡ 0 = omega (arith, same_count never) in
        same_settings k.mode never h.holds.does
        ∙ ap (λ (i : ℕ). set_by x.opening.settings (take i (drop before (guest_commands v)))) (sym none)
        )
  ]

  -- where they were before those of all commands given back, they are so still
  pub control_settled : is_rested r.stage ≡ true → AcksCount sv.done
      → x.opening.settings ≡ set_by default (take before (guest_commands v))
      → s ≡ set_by default (take (length (gives w.done)) (guest_commands v))
  control_settled rests acks was =
      let gs : List (List ℕ) = guest_commands v in
      let more : List (List ℕ) = take (length (gives w.done) - before) (drop before gs) in
      control_settles rests acks ∙ ap (λ (z : Settings). set_by z more) was
      ∙ set_more default before (length (gives w.done)) gs (more_given rests)

  -- ---- the device's

  pub device_sets : now ≡ set_by x.settings (take (length (drop x.by.at begun))
      (map spelled (start_of x k).replays ++ drop before (guest_commands v)))
  device_sets = device_settings l (start_of x k) begun now words shadow_words v w sv sw h.parts
      (control_keeps l e d law x r k s c begun now words shadow_words v w sv sw h)

  only_carrying : (m : Mode) → (m ≡ Carrying → ⊥) → Does m l e d x.opening r k s c w sv → is_done k.replay.stage ≡ true → ⊥
  only_carrying Replaying never p is = false≢true (sym p.0 ∙ done_over k.replay.stage is)
  only_carrying Carrying never p is = never refl
  only_carrying Leaving never p is = false≢true (sym (ap is_done p.stage) ∙ is)

  -- once all of the list was acknowledged, and before a command of the guest's is begun, they are those that the list sets
  pub device_replayed : is_done k.replay.stage ≡ true → lane_commands (start_of x k) begun ≡ x.old
      → now ≡ set_by x.settings (map spelled (replay_list x))
  device_replayed is none = elim (is_carrying k.mode) [
    | inr never ↦ absurd (only_carrying k.mode never h.holds.does is)
    | inl on ↦ (
        let all : ℕ = length (replay_list x) in
        let n : ℕ = replayed_by k.mode k.replay.next all in
        let whole : n ≡ all = some_by k.mode k.replay.next all on ∙ h.holds.done.0 is in
        let lane = carrying l e d x r k s c begun now words shadow_words v w sv sw h on in
        let ds : List Begun = drop x.by.at begun in
        let bs : List (List ℕ × ℕ) = map with_bytes ds in
        let high : n ≤ length ds = elim (cases_lt (length ds) n) [
          | inl low ↦ absurd (omega (
            arith,
            is_begun e d l law (start_of x k) begun now v w words shadow_words shadow_words sv sv sw h.parts h.parts
                lane.relays.tied.follows (length ds) low,
          ))
          | inr ok ↦ omega (arith, ok)
        ] in
        let low : length ds ≤ n = omega (
          arith,
          ap (λ (xs : List (List ℕ × ℕ)). length xs) none,
          length-append x.old (drop n bs),
          length-drop n bs,
          length-map ds with_bytes,
        ) in
        let here : length ds ≡ n = omega (arith, high, low) in
        let list : take n (replay_list x) ≡ replay_list x = take_all n (replay_list x) (omega (arith, whole)) in
        let strings : List (List ℕ) = map spelled (replay_list x) in
        let many : length strings ≡ n = length-map (replay_list x) spelled ∙ sym whole in
        device_sets
        ∙ ap (λ (i : ℕ). set_by x.settings (take i (map spelled (take n (replay_list x)) ++ drop before (guest_commands v)))) here
        ∙ ap (λ (cs : List Command). set_by x.settings (take n (map spelled cs ++ drop before (guest_commands v)))) list
        ∙ ap (set_by x.settings) (take_at strings (drop before (guest_commands v)) n many)
        )
  ]
