-- One access of a relay that carries keeps its control lane.
use Rattle.std.proofs.Common.{◌≡◌, ◌⊎◌, ℕ, ◌+◌, ◌<◌, ◌≤◌, true, Option, Some, List, [], ◌∷◌, ◌++◌, length, drop, slice_get, slice_index_or, refl, sym, ◌∙◌, ap, subst, arith, inl, inr}
use Rattle.std.specs.List.{Contains}
use Rattle.std.proofs.lemmas.Bool.{cases_lt}
use Rattle.std.proofs.lemmas.Option.{slice_get-get_or, slice_get_within}
use Rattle.std.proofs.lemmas.List.{length-map, get_or-map}
use Rattle.vd_model.specs.declared.record.Begun.{Begun}
use Rattle.vd_model.specs.Chains.{readable}
use Rattle.vd_words.specs.Model.{PortModel, IsLawfulPort}
use Rattle.vd_words.specs.Step.{written}
use Rattle.vd_ring.specs.declared.driver.DriverView.{DriverView}
use Rattle.vd_ring.specs.declared.device.DeviceView.{DeviceView}
use Rattle.vd_ring.specs.declared.frame.Frame.{Frame}
use Rattle.vd_ring.specs.declared.frame.Used.{Used}
use Rattle.vd_ring.specs.Account.{Lawful}
use Rattle.vd_ring.specs.Bag.{Stands}
use Rattle.vd_ring.specs.History.{entry, offers, collects, gives, open_at, numbers, occurs}
use Rattle.vd_ring.specs.Lists.{Lists}
use Rattle.vd_ring.specs.OneEnd.{EndsOne}
use Rattle.vd_ring.specs.Places.{Places}
use Rattle.vd_ring.proofs.Counts.{one_below}
use Rattle.vd_ring.proofs.ListSteps.{collected_given}
use Rattle.vd_ring.proofs.OneEnd.{ends_one}
use Rattle.vd_layout.specs.declared.moves.Move.{Move}
use Rattle.vd_layout.specs.Driver.{DriverModel}
use Rattle.vd_layout.specs.Device.{DeviceModel}
use Rattle.vd_layout.specs.Layout.{LayoutModel, IsLawfulLayout}
use Rattle.vd_layout.specs.laws.Plain.{plain_step}
use Rattle.vd_bus.specs.Acts.{IsOneActMore}
use Rattle.vd_bus.specs.DeviceCommands.{IsExecuted}
use Rattle.vd_control.specs.declared.command.Command.{Command}
use Rattle.vd_control.specs.declared.settings.Settings.{Settings}
use Rattle.vd_table.specs.declared.Command as kept
use Rattle.vd_relay.specs.declared.carry.Carry.{Carry}
use Rattle.vd_relay.specs.declared.counts.Counts.{Counts}
use Rattle.vd_relay.specs.declared.state.State.{State}
use Rattle.vd_relay.specs.Commanding.{carries}
use Rattle.vd_relay.specs.Relay.{IsKept, OnGuest, OnShadow, GivesOne}
use Rattle.vd_relay.specs.Replays as replay
use Rattle.vd_relay.specs.Tie.{returned}
use Rattle.vd_relay.specs.Underway.{Commanding}
use Rattle.vd_relay.specs.Ways.{carrying, shift_by}
use Rattle.vd_switch.specs.LaneBag.{MayEndOne}
use Rattle.vd_switch.specs.ShadowingLanes.{IsWinding}
use Rattle.vd_switch.specs.CommandLanes.{CommandStart, CommandParts, IsCommandLane, AreAnsweredTo, before, guest_commands, lane_commands}
use Rattle.vd_switch.specs.CommandLaneSteps.{RelayCommanded, IsCarryingStep}
use Rattle.vd_switch.proofs.CommandGuest.{acks_stay}
use Rattle.vd_switch.proofs.CommandJournal.{no_begun, chain_is, word_is, was_given}
use Rattle.vd_switch.proofs.CommandKept.{lawful}
use Rattle.vd_switch.proofs.CommandLanes.{command_links}
use Rattle.vd_switch.proofs.CommandLists.{commands_count}

module _ {P Q E D : Type 0} (p : PortModel P) (q : PortModel Q) (plaw : IsLawfulPort p) (qlaw : IsLawfulPort q) (e : DeviceModel E)
    (d : DriverModel D) (l : LayoutModel) (law : IsLawfulLayout d e l) (y : CommandStart) (r r' : State E D)
    (table table' : List (Option kept.Command)) (settings settings' : Settings) (hand : Carry) (begun : List Begun) (now : Settings)
    (words shadow_words : List ℕ) (v : DriverView) (w : DeviceView) (sv : DriverView) (sw : DeviceView)
    (h : IsCommandLane e d l y r table settings begun now words shadow_words v w sv sw) where
  winds : IsKept r r' → r'.winding ≡ true → IsWinding r' sw
  winds same on = let was = h.winds (sym same.0 ∙ on) in record { target = same.1 ∙ was.target; even = was.even; whole = was.whole }

  -- ---- the commands replayed: the device has begun them all, and so they stay whatever the relay does

  replayed_begun : (k : ℕ) → k < y.from.replayed → k < length (drop y.by.at begun)
  replayed_begun k low =
      let follows = h.relays.tied.follows in
      let places : Places sv.frame sv.done = law.places shadow_words sv sw h.parts.shadow_ring in
      let lists : Lists sv.frame sv.done sw.done = law.lists shadow_words sv sw h.parts.shadow_ring in
      let offered : k < length (offers sv.done) = omega (arith, follows.offered) in
      let closed : occurs k (open_at sv.done) ≡ 0 = none_open (occurs k (open_at sv.done)) (λ some. absurd (omega (arith, follows.closed k some))) in
      let given : 1 ≤ occurs k (numbers (gives sw.done)) = omega (
        arith,
        places.is_open k,
        closed,
        one_below k (length (offers sv.done)) offered,
        collected_given sv.frame sv.done sw.done k lists,
      ) in
      (was_given e d l law y begun now words shadow_words v w sv sw h.parts k given).low
    where
      none_open : (n : ℕ) → (1 ≤ n → ⊥) → n ≡ 0
      none_open n none = elim (cases_lt 0 n) [
        | inl some ↦ absurd (none some)
        | inr zero ↦ omega arith
      ]

  replayed_stays : (sv' : DriverView) (words' : List ℕ) → CommandParts l y begun now words words' v w sv' sw → (k : ℕ) (c : Command)
      → slice_get y.replays k ≡ Some c → replay.IsCarried sv'.frame c sv'.done k
  replayed_stays sv' words' parts k c at =
      let low : k < y.from.replayed = omega (arith, h.parts.counted, slice_get_within y.replays k c at) in
      let b : Begun = slice_index_or (drop y.by.at begun) k no_begun in
      let there : slice_get (drop y.by.at begun) k ≡ Some b = slice_get-get_or (drop y.by.at begun) k no_begun (replayed_begun k low) in
      let zero : y.by.from + k ≡ k = omega (arith, h.parts.from_first) in
      let x : IsExecuted sw.done k b = subst (λ (i : ℕ). IsExecuted sw.done i b) zero (h.parts.commanded.each k b there) in
      let was = word_is e d l law y begun now words shadow_words v w sv sw h.parts k b x in
      let is = word_is e d l law y begun now words words' v w sv' sw parts k b x in
      let old = h.replayed k c at in
      record {
        bytes = ap readable (sym (chain_is e d l law y begun now words words' v w sv' sw parts k b there)
            ∙ chain_is e d l law y begun now words shadow_words v w sv sw h.parts k b there) ∙ old.bytes;
        first = sym is.0 ∙ was.0 ∙ old.first;
        second = sym is.1 ∙ was.1 ∙ old.second;
      }

  -- ---- what is given

  -- an entry that comes back from the shadow ring has none of the numbers of before
  late : (u : Used) → Contains (returned (carries y.from) sv.done) u → before y ≤ u.number
  late u c =
      let f : Used → Used = shift_by (carrying y.from.replayed) (before y) in
      let us : List Used = drop y.from.replayed (collects sv.done) in
      let inside : c.0 < length us = omega (arith, c.1, length-map us f) in
      omega (arith, ap (λ (x : Used). x.number) (sym c.2 ∙ get_or-map f us c.0 (entry 0 0) u inside))

  answers_stay : (x : DeviceView) → GivesOne (returned (carries y.from) sv.done) w.done x.done → IsOneActMore w.done x.done
      → AreAnsweredTo (before y) v w → AreAnsweredTo (before y) v x
  answers_stay x gave acts old = λ k low. acks_stay w.done x.done k acts (elim gave as (λ _. (gives x.done ≡ gives w.done)
      ⊎ ((u : Used) × (gives x.done ≡ gives w.done ++ u ∷ []) × (u.number ≡ k → ⊥))) [
        | inl same ↦ inl same
        | inr one ↦ inr (one.0, one.1, λ is. absurd (omega (arith, late one.0 one.3)))
      ]) ∙ old k low

  ends_at : (x : DeviceView) (words' : List ℕ)
      → IsCommandLane e d l y r' table' settings' begun now words' shadow_words v x sv sw
      → GivesOne (returned (carries y.from) sv.done) w.done x.done
      → MayEndOne (length (offers v.done)) (length (lane_commands y begun)) (gives w.done) (gives x.done)
  ends_at x words' lane (inl same) = inl same
  ends_at x words' lane (inr one) =
      let account = lawful e d l law y begun now words' shadow_words v x sv sw lane.parts
      (command_links e d l law y r' table' settings' begun now words' shadow_words v x sv sw lane) in
      let with_one : Lawful (record {
        offers = guest_commands v;
        begun = lane_commands y begun;
        given = gives w.done ++ one.0 ∷ [];
        collected =
            collects v.done;
      }) =
      subst (λ (us : List Used). Lawful
      (record { offers = guest_commands v; begun = lane_commands y begun; given = us; collected = collects v.done })) one.1 account in
      inr (
        one.0,
        one.1,
        λ in_order b stands. subst (λ (n : ℕ). EndsOne in_order n (length (lane_commands y begun)) (gives w.done) one.0 b) (commands_count v)
            (ends_one in_order (guest_commands v) (lane_commands y begun) (gives w.done) (collects v.done) one.0 b with_one
            (subst (λ (n : ℕ). Stands n (length (lane_commands y begun)) (gives w.done) b) (sym (commands_count v)) stands)),
      )

  -- ---- the access

  pub relay_commanded : (a a' : P) (b b' : Q) (c c' : Counts) (said : Move) → p.plain a words → q.plain b shadow_words
      → IsCarryingStep p q l e d y.from a a' b b' w sv r r' hand table' settings' c c' said
      → RelayCommanded p q e d l y r' table' settings' begun now a' b' v w sw
  relay_commanded a a' b b' c c' said plain shadow_plain step = stepped step.made
    where
      stepped : ((b' ≡ b) × (t : OnGuest p e d (carries y.from) a a' r r' c c' w sv said)
          × Commanding l e d y.from r' hand table' settings' (e.side.after w t.op t.access t.got) sv)
          ⊎ ((a' ≡ a) × (t : OnShadow q e d (carries y.from) b b' r r' c c' w sv said)
          × Commanding l e d y.from r' hand table' settings' w (d.side.after sv t.op t.access t.got))
          → RelayCommanded p q e d l y r' table' settings' begun now a' b' v w sw
      stepped (inl (stays, t, k)) =
          let x : DeviceView = e.side.after w t.op t.access t.got in
          let s = plain_step p plaw e.side (λ us x. l.ring us v x) a a' words w t.op t.access t.got
          (law.device_keeps words v w t.op t.access h.parts.ring t.was_next) plain t.moved in
          let lane : IsCommandLane e d l y r' table' settings' begun now (written words t.access) shadow_words v x sv sw = record {
            parts = record {
              ring = s.meets;
              shadow_ring = h.parts.shadow_ring;
              control = h.parts.control;
              commanded = h.parts.commanded;
              from_first = h.parts.from_first;
              counted = h.parts.counted;
              are_spelled = h.parts.are_spelled;
              begun_before = h.parts.begun_before;
              ones = h.parts.ones;
            };
            relays = k.stands;
            carried = k.carried;
            replayed = h.replayed;
            winds = winds step.kept;
          } in
          record {
            words = written words t.access;
            shadow_words = shadow_words;
            view = x;
            shadow_view = sv;
            plain = s.plain;
            shadow_plain = subst (λ (z : Q). q.plain z shadow_words) (sym stays) shadow_plain;
            seen = inr (t.op, t.access, t.got, t.was_next, refl);
            lane = lane;
            gave = ends_at x (written words t.access) lane t.bag;
            answers = answers_stay x t.bag;
          }
      stepped (inr (stays, t, k)) =
          let x : DriverView = d.side.after sv t.op t.access t.got in
          let s = plain_step q qlaw d.side (λ us x. l.ring us x sw) b b' shadow_words sv t.op t.access t.got
          (law.driver_keeps shadow_words sv sw t.op t.access h.parts.shadow_ring t.was_next) shadow_plain t.moved in
          let parts : CommandParts l y begun now words (written shadow_words t.access) v w x sw = record {
            ring = h.parts.ring;
            shadow_ring = s.meets;
            control = (h.parts.control.0, ap (λ (f : Frame). f.control) (law.driver_end.framed sv t.op t.access t.got) ∙ h.parts.control.1);
            commanded = h.parts.commanded;
            from_first = h.parts.from_first;
            counted = h.parts.counted;
            are_spelled = h.parts.are_spelled;
            begun_before = h.parts.begun_before;
            ones = h.parts.ones;
          } in
          record {
            words = words;
            shadow_words = written shadow_words t.access;
            view = w;
            shadow_view = x;
            plain = subst (λ (z : P). p.plain z words) (sym stays) plain;
            shadow_plain = s.plain;
            seen = inl refl;
            lane = record {
              parts = parts;
              relays = k.stands;
              carried = k.carried;
              replayed = replayed_stays x (written shadow_words t.access) parts;
              winds = winds step.kept;
            };
            gave = inl refl;
            answers = λ acts old. old;
          }
