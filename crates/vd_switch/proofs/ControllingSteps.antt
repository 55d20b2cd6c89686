-- One access of the relay keeps a control lane, whatever the relay does.
use Rattle.std.proofs.Common.{◌≡◌, ◌⊎◌, ℕ, ◌≤◌, true, List, ◌++◌, length, map, take, drop, refl, sym, ◌∙◌, ap, subst, arith, inl, inr}
use Rattle.std.proofs.lemmas.List.{length-map, drop_all}
use Rattle.vd_model.specs.declared.record.Begun.{Begun}
use Rattle.vd_words.specs.Model.{PortModel, IsLawfulPort}
use Rattle.vd_words.specs.Step.{written}
use Rattle.vd_ring.specs.declared.driver.DriverDone.{DriverDone}
use Rattle.vd_ring.specs.declared.driver.DriverView.{DriverView}
use Rattle.vd_ring.specs.declared.device.DeviceView.{DeviceView}
use Rattle.vd_ring.specs.declared.frame.Frame.{Frame}
use Rattle.vd_ring.specs.History.{offers, takes, gives}
use Rattle.vd_ring.specs.Lists.{Lists}
use Rattle.vd_layout.specs.declared.moves.Move.{Move}
use Rattle.vd_layout.specs.Driver.{DriverModel}
use Rattle.vd_layout.specs.Device.{DeviceModel}
use Rattle.vd_layout.specs.Layout.{LayoutModel, IsLawfulLayout}
use Rattle.vd_layout.specs.laws.Plain.{plain_step}
use Rattle.vd_bus.specs.Acts.{IsOneActMore}
use Rattle.vd_control.specs.declared.command.Command.{Command}
use Rattle.vd_control.specs.declared.settings.Settings.{Settings}
use Rattle.vd_control.specs.Settings.{replay}
use Rattle.vd_relay.specs.declared.control.Control.{Control}
use Rattle.vd_relay.specs.declared.control.Mode.{Mode}
use Rattle.vd_relay.specs.declared.control.Mode.TheVariants.{Replaying, Carrying, Leaving}
use Rattle.vd_relay.specs.declared.counts.Counts.{Counts}
use Rattle.vd_relay.specs.declared.replay.ReplayStage.{ReplayStage}
use Rattle.vd_relay.specs.declared.replay.ReplayStage.TheVariants.{First, Second, Offering, Collecting, Loading, Arming, Hearing, Disarming, Done, Left}
use Rattle.vd_relay.specs.declared.state.State.{State}
use Rattle.vd_relay.specs.Commanding.{carries}
use Rattle.vd_relay.specs.Modes.{carries_from}
use Rattle.vd_relay.specs.ModeSteps.{Becomes, IsControlStep, OnGuestControl, OnShadowControl}
use Rattle.vd_relay.specs.Relay.{GivesOne}
use Rattle.vd_relay.specs.Replays as replays
use Rattle.vd_relay.specs.Tie.{returned}
use Rattle.vd_switch.specs.CommandSettling.{AcksCount}
use Rattle.vd_switch.specs.CommandLanes.{CommandParts, AreAnsweredTo, before, with_bytes, lane_commands}
use Rattle.vd_switch.specs.Controlling.{ControlStart, IsControlling, replay_list, start_after, start_of, replayed_by}
use Rattle.vd_switch.specs.ControllingSteps.{RelayControlled}
use Rattle.vd_switch.specs.LaneBag.{MayEndOne}
use Rattle.vd_switch.specs.ShadowingLanes.{IsWinding}
use Rattle.vd_switch.proofs.CommandGuest.{acks_stay}
use Rattle.vd_switch.proofs.CommandJournal.{begun_taken}
use Rattle.vd_switch.proofs.CommandLanes.{command_links}
use Rattle.vd_switch.proofs.CommandAcks.{acks_kept}
use Rattle.vd_switch.proofs.CommandStays.{carried_stays, answers_kept, gave_one}
use Rattle.vd_switch.proofs.Controlling.{kind, is_carrying, all_of, some_by, carried_less, carried_first, parts_at, few_of, untouched_by, list_by, carries_by, carrying}

-- no more commands are acknowledged than there are
next_within : (st : ReplayStage) (cs : List Command) (n : ℕ) (g : Frame) (o : List DriverDone) → replays.IsAt st cs n g o → n ≤ length cs
next_within First cs n g o h = omega (arith, h.0)
next_within Second cs n g o h = omega (arith, h.0)
next_within Offering cs n g o h = omega (arith, h.0)
next_within Collecting cs n g o h = omega (arith, h.0)
next_within (Loading q) cs n g o h = omega (arith, h.0)
next_within Arming cs n g o h = omega (arith, h.0)
next_within Hearing cs n g o h = omega (arith, h.0)
next_within Disarming cs n g o h = omega (arith, h.0)
next_within Done cs n g o h = omega (arith, h.0)
next_within Left cs n g o h = omega (arith, h.0)

-- so many of the list, or none begun of the rest: the guest's commands begun are the same
same_commands : (x : ControlStart) (n m : ℕ) (begun : List Begun) → (n ≡ m)
    ⊎ ((length (drop x.by.at begun) ≤ n) × (length (drop x.by.at begun) ≤ m))
    → lane_commands (start_after x n) begun ≡ lane_commands (start_after x m) begun
same_commands x n m begun (inl same) = ap (λ (i : ℕ). lane_commands (start_after x i) begun) same
same_commands x n m begun (inr few) =
    let bs : List (List ℕ × ℕ) = map with_bytes (drop x.by.at begun) in
    let many : length bs ≡ length (drop x.by.at begun) = length-map (drop x.by.at begun) with_bytes in
    ap (λ (cs : List (List ℕ × ℕ)). x.old ++ cs)
    (drop_all n bs (omega (arith, many, few.0)) ∙ sym (drop_all m bs (omega (arith, many, few.1))))

module _ {P Q E D : Type 0} (p : PortModel P) (q : PortModel Q) (plaw : IsLawfulPort p) (qlaw : IsLawfulPort q) (l : LayoutModel)
    (e : DeviceModel E) (d : DriverModel D) (law : IsLawfulLayout d e l) (x : ControlStart) (a a' : P) (b b' : Q) (r r' : State E D)
    (k k' : Control) (s s' : Settings) (c c' : Counts) (begun : List Begun) (now : Settings) (words shadow_words : List ℕ) (v : DriverView)
    (w : DeviceView) (sv : DriverView) (sw : DeviceView) (said : Move)
    (h : IsControlling l e d x r k s c begun now words shadow_words v w sv sw)
    (step : IsControlStep p q l e d x.opening a a' b b' w sv r r' k k' s s' c c' said) where
  abbrev all : ℕ
  all = length (replay_list x)

  abbrev n : ℕ
  n = replayed_by k.mode k.replay.next all

  abbrev n' : ℕ
  n' = replayed_by k'.mode k'.replay.next all

  -- ---- what it does, and after how many commands

  carries_on : k.mode ≡ Carrying → step.by ≡ Carrying
  carries_on is = subst (λ (m : Mode). Becomes m step.by) is step.begins

  not_replaying : step.by ≡ Carrying → step.by ≡ Replaying → ⊥
  not_replaying is other = let never : Carrying ≡ Replaying = sym is ∙ other in cc

  far : step.by ≡ Carrying → (k'.mode ≡ Carrying) × (k'.replay.next ≡ k.replay.next)
  far is = let f = step.far (not_replaying is) in (f.0 ∙ is, f.1)

  leaves_on : k.mode ≡ Leaving → k'.mode ≡ Leaving
  leaves_on is =
      let by : step.by ≡ Leaving = subst (λ (m : Mode). Becomes m step.by) is step.begins in
      subst (λ (m : Mode). Becomes m k'.mode) by step.ends

  -- a replay's access is one of the shadow ring
  listed : step.by ≡ Replaying → k'.replay.next ≤ all
  listed is = by_made step.made
    where
      by_made : ((b' ≡ b) × (s' ≡ s) × (step.by ≡ Replaying → ⊥) × OnGuestControl p l e d x.opening a a' r r' k' s' c c' w sv said)
          ⊎ ((a' ≡ a) × (step.by ≡ Leaving → ⊥) × OnShadowControl q l e d x.opening b b' step.by r r' k' s' c c' w sv said)
          → k'.replay.next ≤ all
      by_made (inl t) = absurd (t.2 is)
      by_made (inr t) =
          let low = next_within k'.replay.stage (replay k'.replay.settings) k'.replay.next _ _ (t.2.replays is).replays.at in
          omega (arith, low, ap (λ (z : Settings). length (replay z)) t.2.holds.again)

  was_listed : k.mode ≡ Replaying → k.replay.next ≤ all
  was_listed is =
      let never : k.mode ≡ Carrying → ⊥ = λ on. (let never : Replaying ≡ Carrying = sym is ∙ on in cc) in
      let list = list_by l e d x r k s c w sv k.mode never h.holds.does in
      let low = next_within k.replay.stage (replay k.replay.settings) k.replay.next sv.frame sv.done list.at in
      omega (arith, low, ap (λ (z : Settings). length (replay z)) h.holds.again)

  -- it carries as before, or comes to carry
  data Way : Type 0 where
    stays : k.mode ≡ Carrying → k'.mode ≡ Carrying → k'.replay.next ≡ k.replay.next → Way
    comes : k.mode ≡ Replaying → k'.mode ≡ Carrying → k'.replay.next ≤ all → Way
    not_yet : (k.mode ≡ Carrying → ⊥) → (k'.mode ≡ Carrying → ⊥) → Way

  way : Way
  way = elim (kind k.mode) [
    | inl replaying ↦ elim (is_carrying k'.mode) [
      | inl on ↦ comes replaying on (elim (kind step.by) [
        | inl by ↦ listed by
        | inr (inl by) ↦ omega (arith, (far by).1, was_listed replaying)
        | inr (inr by) ↦ (
            let left : k'.mode ≡ Leaving = subst (λ (m : Mode). Becomes m k'.mode) by step.ends in
            let never : Leaving ≡ Carrying = sym left ∙ on in
            absurd (cc)
            )
      ])
      | inr off ↦ not_yet (λ on. (let never : Replaying ≡ Carrying = sym replaying ∙ on in cc)) off
    ]
    | inr (inl carrying) ↦ (let f = far (carries_on carrying) in stays carrying f.0 f.1)
    | inr (inr leaving) ↦ not_yet (λ on. (let never : Leaving ≡ Carrying = sym leaving ∙ on in cc))
        (λ on. (let never : Leaving ≡ Carrying = sym (leaves_on leaving) ∙ on in cc))
  ]

  fewer : n' ≤ n
  fewer = by_way way
    where
      by_way : Way → n' ≤ n
      by_way (stays was is same) = omega (arith, some_by k'.mode k'.replay.next all is, some_by k.mode k.replay.next all was, same)
      by_way (comes was is low) = omega (
        arith,
        some_by k'.mode k'.replay.next all is,
        all_of k.mode k.replay.next all (λ on. (let never : Replaying ≡ Carrying = sym was ∙ on in cc)),
        low,
      )
      by_way (not_yet was is) = omega (arith, all_of k'.mode k'.replay.next all is, all_of k.mode k.replay.next all was)

  within : n' ≤ all
  within = omega (arith, fewer, few_of l e d x n begun now words shadow_words v w sv sw h.parts)

  winds : r'.winding ≡ true → IsWinding r' sw
  winds on =
      let was = h.winds (sym step.kept.0 ∙ on) in
      record { target = step.kept.1 ∙ was.target; even = was.even; whole = was.whole }

  over : k'.mode ≡ Carrying → (k'.replay.next ≡ all) ⊎ ((r'.winding ≡ true) × (length (takes sw.done) ≤ k'.replay.next))
  over on = by_way way
    where
      by_way : Way → (k'.replay.next ≡ all) ⊎ ((r'.winding ≡ true) × (length (takes sw.done) ≤ k'.replay.next))
      by_way (stays was is same) = elim (h.over was) [
        | inl whole ↦ inl (same ∙ whole)
        | inr cut ↦ inr (step.kept.0 ∙ cut.0, omega (arith, same, cut.1))
      ]
      by_way (comes was is low) = elim (step.over was is) [
        | inl whole ↦ inl whole
        | inr cut ↦ (
            let lists : Lists sv.frame sv.done sw.done = law.lists shadow_words sv sw h.parts.shadow_ring in
            inr (step.kept.0 ∙ cut.0, omega (arith, cut.1, lists.some))
            )
      ]
      by_way (not_yet was is) = absurd (is on)

  pub account : lane_commands (start_of x k') begun ≡ lane_commands (start_of x k) begun
  account = same_commands x n' n begun (by_way way)
    where
      by_way : Way → (n' ≡ n) ⊎ ((length (drop x.by.at begun) ≤ n') × (length (drop x.by.at begun) ≤ n))
      by_way (stays was is same) = inl (some_by k'.mode k'.replay.next all is ∙ same ∙ sym (some_by k.mode k.replay.next all was))
      by_way (comes was is low) =
          let here : n' ≡ k'.replay.next = some_by k'.mode k'.replay.next all is in
          let there : n ≡ all = all_of k.mode k.replay.next all (λ on. (let never : Replaying ≡ Carrying = sym was ∙ on in cc)) in
          elim (over is) [
            | inl whole ↦ inl (here ∙ whole ∙ sym there)
            | inr cut ↦ (
                let few = begun_taken e d l law (start_after x n) begun now words shadow_words v w sv sw h.parts in
                inr (omega (arith, few, cut.1, here), omega (arith, few, cut.1, low, there))
                )
          ]
      by_way (not_yet was is) = inl (all_of k'.mode k'.replay.next all is ∙ sym (all_of k.mode k.replay.next all was))

  -- ---- an access on the guest's ring

  module _ (t : OnGuestControl p l e d x.opening a a' r r' k' s' c c' w sv said) (plain : p.plain a words) where
    abbrev view : DeviceView
    view = e.side.after w t.op t.access t.got

    pub on_guest : IsControlling l e d x r' k' s' c' begun now (written words t.access) shadow_words v view sv sw
    on_guest = record {
      holds = t.holds;
      parts = parts_at l e d x n n' begun now (written words t.access) shadow_words v view sv sw within h.are_spelled (record {
        ring = (plain_step p plaw e.side (λ us z. l.ring us v z) a a' words w t.op t.access t.got
            (law.device_keeps words v w t.op t.access h.parts.ring t.was_next) plain t.moved).meets;
        shadow_ring = h.parts.shadow_ring;
        control = h.parts.control;
        commanded = h.parts.commanded;
        from_first = h.parts.from_first;
        counted = h.parts.counted;
        are_spelled = h.parts.are_spelled;
        begun_before = h.parts.begun_before;
        ones = h.parts.ones;
      });
      even = h.even;
      are_spelled = h.are_spelled;
      carried = carried_less n n' (replay_list x) sv.frame sv.done fewer h.carried;
      winds = winds;
      over = over;
    }

    bag_at : k'.mode ≡ Carrying → GivesOne (returned (carries (start_of x k').from) sv.done) w.done view.done
    bag_at is = subst (λ (i : ℕ). GivesOne (returned (carries (carries_from x.opening i)) sv.done) w.done view.done)
        (sym (some_by k'.mode k'.replay.next all is)) t.bag

    same_gives : (k'.mode ≡ Carrying → ⊥) → gives view.done ≡ gives w.done
    same_gives off =
        let was : k.mode ≡ Carrying → ⊥ = λ on. off (far (carries_on on)).0 in
        (untouched_by l e d x r' k' s' c' view sv k'.mode off t.holds.does).gives
        ∙ sym (untouched_by l e d x r k s c w sv k.mode was h.holds.does).gives

    gave : MayEndOne (length (offers v.done)) (length (lane_commands (start_of x k') begun)) (gives w.done) (gives view.done)
    gave = elim (is_carrying k'.mode) [
      | inl is ↦ gave_one e d l law (start_of x k') begun now v w sv view (bag_at is) (written words t.access) shadow_words sw
          on_guest.parts (command_links e d l law (start_of x k') r' k'.commander.commands s' begun now (written words t.access)
          shadow_words v view sv sw
          (carrying l e d x r' k' s' c' begun now (written words t.access) shadow_words v view sv sw on_guest is))
      | inr off ↦ inl (same_gives off)
    ]

    pub answers : IsOneActMore w.done view.done → AreAnsweredTo (before (start_of x k')) v w → AreAnsweredTo (before (start_of x k')) v view
    answers acts old = elim (is_carrying k'.mode) [
      | inl is ↦ answers_kept e d l law (start_of x k') begun now v w sv view (bag_at is) acts old
      | inr off ↦ λ i low. acks_stay w.done view.done i acts (inl (same_gives off)) ∙ old i low
    ]

  -- ---- an access on the shadow ring

  module _ (t : OnShadowControl q l e d x.opening b b' step.by r r' k' s' c c' w sv said) (leaves : step.by ≡ Leaving → ⊥)
      (plain : q.plain b shadow_words) where
    abbrev shadow_view : DriverView
    shadow_view = d.side.after sv t.op t.access t.got

    parts_after : CommandParts l (start_after x n') begun now words (written shadow_words t.access) v w shadow_view sw
    parts_after = parts_at l e d x n n' begun now words (written shadow_words t.access) v w shadow_view sw within h.are_spelled (record {
      ring = h.parts.ring;
      shadow_ring = (plain_step q qlaw d.side (λ us z. l.ring us z sw) b b' shadow_words sv t.op t.access t.got
          (law.driver_keeps shadow_words sv sw t.op t.access h.parts.shadow_ring t.was_next) plain t.moved).meets;
      control = (h.parts.control.0, ap (λ (f : Frame). f.control) (law.driver_end.framed sv t.op t.access t.got) ∙ h.parts.control.1);
      commanded = h.parts.commanded;
      from_first = h.parts.from_first;
      counted = h.parts.counted;
      are_spelled = h.parts.are_spelled;
      begun_before = h.parts.begun_before;
      ones = h.parts.ones;
    })

    carried_by : (m : Mode) → step.by ≡ m → replays.AreCarried (take n' (replay_list x)) shadow_view.frame shadow_view.done
    carried_by Replaying by = carried_first n' (replay_list x) shadow_view.frame shadow_view.done
        (subst (λ (z : Settings). replays.AreCarried (replay z) shadow_view.frame shadow_view.done) t.holds.again
        (t.replays by).replays.carried)
    carried_by Carrying by =
        let is : k'.mode ≡ Carrying = (far by).0 in
        let on = carries_by l e d x r' k' s' c' w shadow_view is t.holds.does in
        carried_stays e d l law (start_after x n') begun now v w words shadow_words (written shadow_words t.access) sv shadow_view sw
        (parts_at l e d x n n' begun now words shadow_words v w sv sw within h.are_spelled h.parts) parts_after
        (subst (λ (i : ℕ). Rattle.vd_relay.specs.Ways.IsReplayed i shadow_view.done) (sym (some_by k'.mode k'.replay.next all is))
        on.commands.stands.tied.follows) (carried_less n n' (replay_list x) sv.frame sv.done fewer h.carried)
    carried_by Leaving by = absurd (leaves by)

    pub on_shadow : IsControlling l e d x r' k' s' c' begun now words (written shadow_words t.access) v w shadow_view sw
    on_shadow = record {
      holds = t.holds;
      parts = parts_after;
      even = h.even;
      are_spelled = h.are_spelled;
      carried = carried_by step.by refl;
      winds = winds;
      over = over;
    }

    pub acks : AcksCount sv.done → AcksCount shadow_view.done
    acks = acks_kept e d l law (start_of x k) begun now words shadow_words v w sv sw h.parts shadow_view.done t.acts

  -- ---- both

  pub relay_controlled : p.plain a words → q.plain b shadow_words
      → RelayControlled p q l e d x a a' b b' step.by r r' k k' s' c c' begun now v w sv sw said
  relay_controlled plain shadow_plain = by_made step.made
    where
      by_made : ((b' ≡ b) × (s' ≡ s) × (step.by ≡ Replaying → ⊥) × OnGuestControl p l e d x.opening a a' r r' k' s' c c' w sv said)
          ⊎ ((a' ≡ a) × (step.by ≡ Leaving → ⊥) × OnShadowControl q l e d x.opening b b' step.by r r' k' s' c c' w sv said)
          → RelayControlled p q l e d x a a' b b' step.by r r' k k' s' c c' begun now v w sv sw said
      by_made (inl (stay, none, other, t)) = record {
        words = written words t.access;
        shadow_words = shadow_words;
        view = view t plain;
        shadow_view = sv;
        plain = (plain_step p plaw e.side (λ us z. l.ring us v z) a a' words w t.op t.access t.got
            (law.device_keeps words v w t.op t.access h.parts.ring t.was_next) plain t.moved).plain;
        shadow_plain = subst (λ (z : Q). q.plain z shadow_words) (sym stay) shadow_plain;
        seen = inl (t, refl, refl);
        lane = on_guest t plain;
        account = account;
        gave = gave t plain;
        answers = answers t plain t.acts;
        acks = λ old. old;
      }
      by_made (inr (stay, leaves, t)) = record {
        words = words;
        shadow_words = written shadow_words t.access;
        view = w;
        shadow_view = shadow_view t leaves shadow_plain;
        plain = subst (λ (z : P). p.plain z words) (sym stay) plain;
        shadow_plain = (plain_step q qlaw d.side (λ us z. l.ring us z sw) b b' shadow_words sv t.op t.access t.got
            (law.driver_keeps shadow_words sv sw t.op t.access h.parts.shadow_ring t.was_next) shadow_plain t.moved).plain;
        seen = inr (t, refl, refl);
        lane = on_shadow t leaves shadow_plain;
        account = account;
        gave = inl refl;
        answers = λ old. old;
        acks = acks t leaves shadow_plain;
      }
