-- What a stop leaves of a control lane.
use Rattle.std.proofs.Common.{◌≡◌, ℕ, ◌+◌, ◌-◌, ◌≤◌, true, Option, List, length, take, drop, sym, ◌∙◌, ap, subst, arith, inl, inr}
use Rattle.std.proofs.lemmas.Bool.{cases_lt}
use Rattle.std.proofs.lemmas.List.{length-drop}
use Rattle.vd_model.specs.declared.record.Begun.{Begun}
use Rattle.vd_ring.specs.declared.driver.DriverView.{DriverView}
use Rattle.vd_ring.specs.declared.device.DeviceView.{DeviceView}
use Rattle.vd_ring.specs.declared.frame.Used.{Used}
use Rattle.vd_ring.specs.History.{collects, gives, numbers, occurs}
use Rattle.vd_ring.specs.Lists.{Lists}
use Rattle.vd_layout.specs.Driver.{DriverModel}
use Rattle.vd_layout.specs.Device.{DeviceModel}
use Rattle.vd_layout.specs.Layout.{LayoutModel, IsLawfulLayout}
use Rattle.vd_control.specs.declared.settings.Settings.{Settings}
use Rattle.vd_table.specs.declared.Command as kept
use Rattle.vd_relay.specs.declared.stage.Stage.{Stage}
use Rattle.vd_relay.specs.declared.stage.Stage.TheVariants as stage
use Rattle.vd_relay.specs.declared.state.State.{State}
use Rattle.vd_relay.specs.Commanding.{carries}
use Rattle.vd_relay.specs.Stages.{EndsIs, is_rested}
use Rattle.vd_relay.proofs.Ties.{given_count}
use Rattle.vd_switch.specs.CommandLanes.{CommandStart, CommandParts, IsReplaying, IsCommandLane, AreAnsweredTo, before, guest_commands, lane_commands}
use Rattle.vd_switch.specs.CommandLaneSteps.{LeavesCommands}
use Rattle.vd_switch.proofs.ShadowingLanes.{rested_back}
use Rattle.vd_switch.proofs.CommandJournal.{begun_taken, begun_offered, was_given}
use Rattle.vd_switch.proofs.CommandKept.{AreLinked, begun_count, begun_front, inside, lengths, ones, lawful, answered}
use Rattle.vd_switch.proofs.CommandLanes.{replay_links, command_links, gives_before}

module _ {E D : Type 0} (e : DeviceModel E) (d : DriverModel D) (l : LayoutModel) (law : IsLawfulLayout d e l) (y : CommandStart)
    (begun : List Begun) (now : Settings) (words shadow_words : List ℕ) (v : DriverView) (w : DeviceView) (sv : DriverView)
    (sw : DeviceView) (h : CommandParts l y begun now words shadow_words v w sv sw) (t : AreLinked y v w sv sw) (end : E)
    (stands : e.stands end w) (rests : e.resting end ≡ true) where
  leaves : length (gives w.done) ≡ before y + (length (drop y.by.at begun) - y.from.replayed)
      → LeavesCommands e end (lane_commands y begun) v w
  leaves given =
      let whole = law.device_end.whole end w stands (inl rests) in
      let many : length (lane_commands y begun) ≡ before y + (length (drop y.by.at begun) - y.from.replayed) =
      begun_count e d l law y begun now words shadow_words v w sv sw h t in
      record {
        rests = rests;
        lawful = lawful e d l law y begun now words shadow_words v w sv sw h t;
        even = given ∙ sym many;
        taken = whole.1 ∙ given ∙ sym many;
        whole = whole.2;
        base = law.device_end.based end w stands (inl rests);
        next = record {
          chains = begun_front e d l law y begun now words shadow_words v w sv sw h t
              ∙ ap (λ (n : ℕ). take n (guest_commands v)) (many ∙ sym given);
          inside = inside e d l law y begun now words shadow_words v w sv sw h t;
          lens = lengths e d l law y begun now words shadow_words v w sv sw h t;
        };
        ones = ones e d l law y begun now words shadow_words v w sv sw h t;
      }

-- the relay never came to carry
pub replay_leaves : {E D : Type 0} (e : DeviceModel E) (d : DriverModel D) (l : LayoutModel) (law : IsLawfulLayout d e l)
    (y : CommandStart) (begun : List Begun) (now : Settings) (words shadow_words : List ℕ) (v : DriverView) (w : DeviceView)
    (sv : DriverView) (sw : DeviceView) (end : E) → IsReplaying l y begun now words shadow_words v w sv sw → e.stands end w
    → e.resting end ≡ true → LeavesCommands e end (lane_commands y begun) v w
replay_leaves e d l law y begun now words shadow_words v w sv sw end h stands rests =
    let t = replay_links e d l law y begun now words shadow_words v w sv sw h in
    leaves e d l law y begun now words shadow_words v w sv sw h.parts t end stands rests (omega (
      arith,
      ap (λ (us : List Used). length us) h.same_gives,
      begun_offered e d l law y begun now words shadow_words v w sv sw h.parts,
      h.few,
      h.parts.counted,
    ))

module _ {E D : Type 0} (e : DeviceModel E) (d : DriverModel D) (l : LayoutModel) (law : IsLawfulLayout d e l) (y : CommandStart)
    (r : State E D) (table : List (Option kept.Command)) (settings : Settings) (begun : List Begun) (now : Settings)
    (words shadow_words : List ℕ) (v : DriverView) (w : DeviceView) (sv : DriverView) (sw : DeviceView)
    (h : IsCommandLane e d l y r table settings begun now words shadow_words v w sv sw) (is : r.stage ≡ stage.Rested) where
  at_rest : EndsIs stage.Rested r.winding r.target h.relays.acts sv.done
  at_rest = subst (λ (s : Stage). EndsIs s r.winding r.target h.relays.acts sv.done) is h.relays.ends

  resting : e.resting r.guest ≡ true
  resting = h.relays.rests ∙ ap is_rested is

  -- the device of the shadow ring has begun all that it took: each chain of it was given
  all_begun : length (drop y.by.at begun) ≡ length (gives sw.done)
  all_begun =
      let winding = h.winds at_rest.0 in
      let low = begun_taken e d l law y begun now words shadow_words v w sv sw h.parts in
      elim (cases_lt (length (drop y.by.at begun)) (length (gives sw.done))) [
        | inl few ↦ (
            let k : ℕ = length (drop y.by.at begun) in
            let given : 1 ≤ occurs k (numbers (gives sw.done)) = omega (arith, winding.whole k few) in
            absurd (omega (arith, (was_given e d l law y begun now words shadow_words v w sv sw h.parts k given).low))
            )
        | inr many ↦ omega (arith, low, winding.even, many)
      ]

  pub given_all : length (gives w.done) ≡ before y + (length (drop y.by.at begun) - y.from.replayed)
  given_all =
      let winding = h.winds at_rest.0 in
      let lists : Lists sv.frame sv.done sw.done = law.lists shadow_words sv sw h.parts.shadow_ring in
      let none : length h.relays.back ≡ 0 = ap (λ (us : List Used). length us)
      (rested_back r.stage (e.begun r.guest) h.relays.back is h.relays.guest h.relays.to_give) in
      omega (
        arith,
        ap (λ (us : List Used). length us)
            (gives_before e d l law y r table settings begun now words shadow_words v w sv sw h),
        given_count (carries y.from) r.table h.relays.acts sv.frame sv.done h.relays.hand h.relays.back h.relays.tied,
        length-drop y.from.replayed (collects sv.done),
        none,
        at_rest.1,
        winding.target,
        lists.fewer,
        all_begun,
      )

  pub command_leaves : LeavesCommands e r.guest (lane_commands y begun) v w
  command_leaves = leaves e d l law y begun now words shadow_words v w sv sw h.parts
      (command_links e d l law y r table settings begun now words shadow_words v w sv sw h) r.guest h.relays.serves resting given_all

  -- and each was answered
  pub all_answered : AreAnsweredTo (before y) v w → AreAnsweredTo (length (gives w.done)) v w
  all_answered old = λ k low. elim (cases_lt k (before y)) [
    | inl early ↦ old k early
    | inr late ↦ answered e d l law y begun now words shadow_words v w sv sw h.parts
        (command_links e d l law y r table settings begun now words shadow_words v w sv sw h) k late
        (omega (arith, (law.device_end.whole r.guest w h.relays.serves (inl resting)).2 k low))
  ]
