-- What one access of a relay leaves of its control lane: the commands replayed stay, whatever it does, and what was answered is so still.
use Rattle.std.proofs.Common.{◌≡◌, ◌⊎◌, ℕ, ◌+◌, ◌<◌, ◌≤◌, Some, List, [], ◌∷◌, ◌++◌, length, drop, slice_get, slice_index_or, sym, ◌∙◌, ap, subst, arith, inl, inr}
use Rattle.std.specs.List.{Contains}
use Rattle.std.proofs.lemmas.Bool.{cases_lt}
use Rattle.std.proofs.lemmas.Option.{slice_get-get_or, slice_get_within}
use Rattle.std.proofs.lemmas.List.{length-map, get_or-map}
use Rattle.vd_model.specs.declared.record.Begun.{Begun}
use Rattle.vd_model.specs.Chains.{readable}
use Rattle.vd_ring.specs.declared.driver.DriverView.{DriverView}
use Rattle.vd_ring.specs.declared.device.DeviceView.{DeviceView}
use Rattle.vd_ring.specs.declared.frame.Used.{Used}
use Rattle.vd_ring.specs.Account.{Lawful}
use Rattle.vd_ring.specs.Bag.{Stands}
use Rattle.vd_ring.specs.History.{entry, offers, collects, gives, open_at, numbers, occurs}
use Rattle.vd_ring.specs.Lists.{Lists}
use Rattle.vd_ring.specs.OneEnd.{EndsOne}
use Rattle.vd_ring.specs.Places.{Places}
use Rattle.vd_ring.proofs.Counts.{one_below}
use Rattle.vd_ring.proofs.ListSteps.{collected_given}
use Rattle.vd_ring.proofs.OneEnd.{ends_one}
use Rattle.vd_layout.specs.Driver.{DriverModel}
use Rattle.vd_layout.specs.Device.{DeviceModel}
use Rattle.vd_layout.specs.Layout.{LayoutModel, IsLawfulLayout}
use Rattle.vd_bus.specs.Acts.{IsOneActMore}
use Rattle.vd_bus.specs.DeviceCommands.{IsExecuted}
use Rattle.vd_control.specs.declared.settings.Settings.{Settings}
use Rattle.vd_relay.specs.Commanding.{carries}
use Rattle.vd_relay.specs.Relay.{GivesOne}
use Rattle.vd_relay.specs.Replays as replay
use Rattle.vd_relay.specs.Tie.{returned}
use Rattle.vd_relay.specs.Ways.{IsReplayed, carrying, shift_by}
use Rattle.vd_switch.specs.LaneBag.{MayEndOne}
use Rattle.vd_switch.specs.CommandLanes.{CommandStart, CommandParts, AreAnsweredTo, before, guest_commands, lane_commands}
use Rattle.vd_switch.proofs.CommandGuest.{acks_stay}
use Rattle.vd_switch.proofs.CommandJournal.{no_begun, chain_is, word_is, was_given, begun_offered}
use Rattle.vd_switch.proofs.CommandKept.{AreLinked, lawful}
use Rattle.vd_switch.proofs.CommandLists.{commands_count}

module _ {E D : Type 0} (e : DeviceModel E) (d : DriverModel D) (l : LayoutModel) (law : IsLawfulLayout d e l) (y : CommandStart)
    (begun : List Begun) (now : Settings) (v : DriverView) (w : DeviceView) where
  -- ---- the commands replayed: once all are collected the device has begun them, and so they stay

  module _ (words shadow_words shadow_words' : List ℕ) (sv sv' : DriverView) (sw : DeviceView)
      (h : CommandParts l y begun now words shadow_words v w sv sw)
      (after : CommandParts l y begun now words shadow_words' v w sv' sw)
      (follows : IsReplayed y.from.replayed sv'.done) where
    pub is_begun : (k : ℕ) → k < y.from.replayed → k < length (drop y.by.at begun)
    is_begun k low =
        let places : Places sv'.frame sv'.done = law.places shadow_words' sv' sw after.shadow_ring in
        let lists : Lists sv'.frame sv'.done sw.done = law.lists shadow_words' sv' sw after.shadow_ring in
        let offered : k < length (offers sv'.done) = omega (arith, follows.offered) in
        let closed : occurs k (open_at sv'.done) ≡ 0 =
        none_open (occurs k (open_at sv'.done)) (λ some. absurd (omega (arith, follows.closed k some))) in
        let given : 1 ≤ occurs k (numbers (gives sw.done)) = omega (
          arith,
          places.is_open k,
          closed,
          one_below k (length (offers sv'.done)) offered,
          collected_given sv'.frame sv'.done sw.done k lists,
        ) in
        (was_given e d l law y begun now words shadow_words' v w sv' sw after k given).low
      where
        none_open : (n : ℕ) → (1 ≤ n → ⊥) → n ≡ 0
        none_open n none = elim (cases_lt 0 n) [
          | inl some ↦ absurd (none some)
          | inr zero ↦ omega arith
        ]

    pub carried_stays : replay.AreCarried y.replays sv.frame sv.done → replay.AreCarried y.replays sv'.frame sv'.done
    carried_stays carried = λ k c offered at.
        let low : k < y.from.replayed = omega (arith, h.counted, slice_get_within y.replays k c at) in
        let b : Begun = slice_index_or (drop y.by.at begun) k no_begun in
        let there : slice_get (drop y.by.at begun) k ≡ Some b = slice_get-get_or (drop y.by.at begun) k no_begun (is_begun k low) in
        let zero : y.by.from + k ≡ k = omega (arith, h.from_first) in
        let x : IsExecuted sw.done k b = subst (λ (i : ℕ). IsExecuted sw.done i b) zero (h.commanded.each k b there) in
        let was = word_is e d l law y begun now words shadow_words v w sv sw h k b x in
        let is = word_is e d l law y begun now words shadow_words' v w sv' sw after k b x in
        let old = carried k c (omega (arith, is_begun k low, begun_offered e d l law y begun now words shadow_words v w sv sw h)) at in
        record {
          bytes = ap readable (sym (chain_is e d l law y begun now words shadow_words' v w sv' sw after k b there)
              ∙ chain_is e d l law y begun now words shadow_words v w sv sw h k b there) ∙ old.bytes;
          first = sym is.0 ∙ was.0 ∙ old.first;
          second = sym is.1 ∙ was.1 ∙ old.second;
        }

  -- ---- what is given

  module _ (sv : DriverView) (x : DeviceView) (bag : GivesOne (returned (carries y.from) sv.done) w.done x.done) where
    -- an entry that comes back from the shadow ring has none of the numbers of before
    late : (u : Used) → Contains (returned (carries y.from) sv.done) u → before y ≤ u.number
    late u c =
        let f : Used → Used = shift_by (carrying y.from.replayed) (before y) in
        let us : List Used = drop y.from.replayed (collects sv.done) in
        let inside : c.0 < length us = omega (arith, c.1, length-map us f) in
        omega (arith, ap (λ (z : Used). z.number) (sym c.2 ∙ get_or-map f us c.0 (entry 0 0) u inside))

    pub answers_kept : IsOneActMore w.done x.done → AreAnsweredTo (before y) v w → AreAnsweredTo (before y) v x
    answers_kept acts old = λ k low. acks_stay w.done x.done k acts (elim bag as (λ _. (gives x.done ≡ gives w.done)
        ⊎ ((u : Used) × (gives x.done ≡ gives w.done ++ u ∷ []) × (u.number ≡ k → ⊥))) [
          | inl same ↦ inl same
          | inr one ↦ inr (one.0, one.1, λ is. absurd (omega (arith, late one.0 one.3)))
        ]) ∙ old k low

    pub gave_one : (words shadow_words : List ℕ) (sw : DeviceView) → CommandParts l y begun now words shadow_words v x sv sw
        → AreLinked y v x sv sw → MayEndOne (length (offers v.done)) (length (lane_commands y begun)) (gives w.done) (gives x.done)
    gave_one words shadow_words sw parts links = by_bag bag
      where
        account : Lawful (Rattle.vd_switch.specs.CommandLanes.command_account v (lane_commands y begun) x)
        account = lawful e d l law y begun now words shadow_words v x sv sw parts links

        by_bag : GivesOne (returned (carries y.from) sv.done) w.done x.done
            → MayEndOne (length (offers v.done)) (length (lane_commands y begun)) (gives w.done) (gives x.done)
        by_bag (inl same) = inl same
        by_bag (inr one) =
            let with_one : Lawful (record {
              offers = guest_commands v;
              begun = lane_commands y begun;
              given = gives w.done ++ one.0 ∷ [];
              collected = collects v.done;
            }) =
            subst (λ (us : List Used). Lawful
            (record { offers = guest_commands v; begun = lane_commands y begun; given = us; collected = collects v.done })) one.1 account in
            inr (
              one.0,
              one.1,
              λ in_order b stands. subst (λ (n : ℕ). EndsOne in_order n (length (lane_commands y begun)) (gives w.done) one.0 b)
                  (commands_count v) (ends_one in_order (guest_commands v) (lane_commands y begun) (gives w.done) (collects v.done) one.0 b
                  with_one (subst (λ (n : ℕ). Stands n (length (lane_commands y begun)) (gives w.done) b) (sym (commands_count v)) stands)),
            )
