-- The settings that a relay of a control queue hands back are those at its takeover, changed by the guest's commands that it gave back.
use Rattle.std.proofs.Common.{◌≡◌, ℕ, zero, suc, ◌+◌, ◌-◌, ◌%◌, ◌<◌, ◌≤◌, Bool, true, false, cond, Option, Some, None, List, ◌∷◌, ◌++◌, length, map, take, drop, fold, refl, sym, ◌∙◌, ap, subst, arith, inl}
use Rattle.std.specs.Prelude.{◌==◌, filter}
use Rattle.std.specs.List.{filter_map, range_with_len}
use Rattle.std.specs.Option.{is_some}
use Rattle.std.proofs.lemmas.List.{length-drop, get_or-drop, take_at, take-append-drop, length-take-le, drop-take}
use Rattle.std.proofs.lemmas.List.Elements.{filter_map-append}
use Rattle.std.proofs.lemmas.List.Sums.{fold-append}
use Rattle.std.proofs.lemmas.List.FromFn.{get_or-map-range_with_len, length-map-range_with_len}
use Rattle.vd_model.specs.declared.record.Begun.{Begun}
use Rattle.vd_ring.specs.declared.driver.DriverView.{DriverView}
use Rattle.vd_ring.specs.declared.device.DeviceView.{DeviceView}
use Rattle.vd_ring.specs.declared.frame.Used.{Used}
use Rattle.vd_ring.specs.Control.{AcksAgree, ack_of}
use Rattle.vd_ring.specs.History.{offers, gives, numbers, occurs}
use Rattle.vd_layout.specs.Driver.{DriverModel}
use Rattle.vd_layout.specs.Device.{DeviceModel}
use Rattle.vd_layout.specs.Layout.{LayoutModel, IsLawfulLayout}
use Rattle.vd_control.specs.declared.command.Command.{Command}
use Rattle.vd_control.specs.declared.settings.Settings.{Settings}
use Rattle.vd_control.specs.Commands.{command}
use Rattle.vd_control.specs.Settings.{applied}
use Rattle.vd_commands.specs.Loads.{ack_load}
use Rattle.vd_commands.specs.Words.{set_by}
use Rattle.vd_commands.proofs.Agreeing.{load_agrees}
use Rattle.vd_table.specs.declared.Command as kept
use Rattle.vd_relay.specs.declared.stage.Stage.TheVariants as stage
use Rattle.vd_relay.specs.declared.state.State.{State}
use Rattle.vd_relay.specs.Settling.{bytes_of, is_acknowledged}
use Rattle.vd_relay.specs.Stages.{is_rested}
use Rattle.vd_switch.specs.CommandLanes.{CommandStart, IsCommandLane, before, guest_commands}
use Rattle.vd_switch.specs.CommandSettling.{AcksCount}
use Rattle.vd_switch.proofs.CommandAcks.{none_acknowledged, load_begun}
use Rattle.vd_switch.proofs.CommandJournal.{was_given, begun_offered}
use Rattle.vd_switch.proofs.CommandKept.{AreLinked}
use Rattle.vd_switch.proofs.CommandLanes.{command_links, gives_before}
use Rattle.vd_switch.proofs.CommandLists.{front, commands_count, command_at}
use Rattle.vd_switch.proofs.CommandRests.{given_all}
use Rattle.vd_switch.proofs.CommandSettled.{one_more, ok_at}
use Rattle.vd_switch.proofs.CommandWords.{load_given}

-- only what is no command is left out of the first m, and all of what comes after them
cut_commands : (bytes : ℕ → List ℕ) (passes : ℕ → Bool) (a n m : ℕ) → m ≤ n
    → ((k : ℕ) → a ≤ k → k < a + m → passes k ≡ is_some (command (bytes k)))
    → ((k : ℕ) → a + m ≤ k → k < a + n → passes k ≡ false)
    → filter_map command (map bytes (filter passes (range_with_len a n))) ≡ filter_map command (map bytes (range_with_len a m))
cut_commands bytes passes a zero zero le h none = refl
cut_commands bytes passes a zero (suc m) le h none = absurd (omega (arith, le))
cut_commands bytes passes a (suc n) zero le h none =
    let ks : List ℕ = filter passes (range_with_len (a + 1) n) in
    ap (λ (b : Bool). filter_map command (map bytes (cond b (a ∷ ks) ks))) (none a (omega arith) (omega arith))
    ∙ cut_commands bytes passes (a + 1) n zero (omega arith) (λ k low high. absurd (omega (arith, low, high)))
    (λ k low high. none k (omega (arith, low)) (omega (arith, high)))
cut_commands bytes passes a (suc n) (suc m) le h none = one_more bytes passes a (filter passes (range_with_len (a + 1) n))
    (range_with_len (a + 1) m) (command (bytes a)) refl (h a (omega arith) (omega arith))
    (cut_commands bytes passes (a + 1) n m (omega (arith, le)) (λ k low high. h k (omega (arith, low)) (omega (arith, high)))
    (λ k low high. none k (omega (arith, low)) (omega (arith, high))))

-- what is set by some commands, and then by more
pub set_more : (s : Settings) (n m : ℕ) (cs : List (List ℕ)) → n ≤ m
    → set_by (set_by s (take n cs)) (take (m - n) (drop n cs)) ≡ set_by s (take m cs)
set_more s n m cs le =
    let more : n + (m - n) ≡ m = omega (arith, le) in
    let xs : List (List ℕ) = take m cs in
    let first : take n xs ≡ take n cs = Rattle.std.proofs.lemmas.List.take-take n m cs le in
    let rest : drop n xs ≡ take (m - n) (drop n cs) = ap (λ (i : ℕ). drop n (take i cs)) (sym more) ∙ drop-take n (m - n) cs in
    sym (fold-append applied s (filter_map command (take n cs)) (filter_map command (take (m - n) (drop n cs))))
    ∙ ap (λ (ys : List Command). fold applied s ys) (sym (filter_map-append command (take n cs) (take (m - n) (drop n cs))))
    ∙ ap (λ (ys : List (List ℕ)). set_by s ys)
    (ap (λ (zs : List (List ℕ)). zs ++ take (m - n) (drop n cs)) (sym first) ∙ ap (λ (zs : List (List ℕ)). take n xs ++ zs) (sym rest)
    ∙ take-append-drop n xs)

module _ {E D : Type 0} (e : DeviceModel E) (d : DriverModel D) (l : LayoutModel) (law : IsLawfulLayout d e l) (y : CommandStart)
    (r : State E D) (table : List (Option kept.Command)) (settings : Settings) (begun : List Begun) (now : Settings)
    (words shadow_words : List ℕ) (v : DriverView) (w : DeviceView) (sv : DriverView) (sw : DeviceView)
    (h : IsCommandLane e d l y r table settings begun now words shadow_words v w sv sw) (is : r.stage ≡ stage.Rested)
    (acks : AcksCount sv.done) where
  abbrev n : ℕ
  n = y.from.replayed

  -- so many of the guest's commands were given back since the takeover
  abbrev many : ℕ
  many = length (gives w.done) - before y

  links : AreLinked y v w sv sw
  links = command_links e d l law y r table settings begun now words shadow_words v w sv sw h

  begun_many : length (gives w.done) ≡ before y + (length (drop y.by.at begun) - n)
  begun_many = given_all e d l law y r table settings begun now words shadow_words v w sv sw h is

  few : many ≤ length (offers sv.done) - n
  few = omega (arith, begun_many, begun_offered e d l law y begun now words shadow_words v w sv sw h.parts)

  -- each of them was answered by the ack that was loaded
  loaded : (k : ℕ) → n ≤ k → k < n + many → (x : ℕ) × (ack_load sv.done k ≡ Some x)
  loaded k past low =
      let j : ℕ = before y + (k - n) in
      let resting : e.resting r.guest ≡ true = h.relays.rests ∙ ap is_rested is in
      let whole = (law.device_end.whole r.guest w h.relays.serves (inl resting)).2 in
      let some : 1 ≤ occurs j (numbers (gives w.done)) = omega (arith, whole j (omega (arith, past, low, begun_many))) in
      let same : gives w.done ≡ gives h.relays.acts = gives_before e d l law y r table settings begun now words shadow_words v w sv sw h in
      let given : 1 ≤ occurs j (numbers (gives h.relays.acts)) = subst (λ (us : List Used). 1 ≤ occurs j (numbers us)) same some in (
        ack_of h.relays.acts j,
        h.carried.answered k (record { not_replayed = past; offered = omega (arith, past, low, few) }) given,
      )

  passes_at : (k : ℕ) → n ≤ k → k < n + many → is_acknowledged sv.done k ≡ is_some (command (bytes_of sv.frame sv.done k))
  passes_at k past low =
      let a = loaded k past low in
      let agree : AcksAgree sv.done sw.done = (law.controls shadow_words sv sw h.parts.shadow_ring).acks.acks_agree in
      let given = was_given e d l law y begun now words shadow_words v w sv sw h.parts k (load_given sv.done sw.done k a.0 agree a.1) in
      acks k a.0 a.1 ∙ ap (λ (x : ℕ). x % 256 == 0) (load_agrees sv.done sw.done k a.0 agree a.1 ∙ given.ack)
      ∙ ok_at (command (bytes_of sv.frame sv.done k))

  -- no other is acknowledged
  none_at : (k : ℕ) → n + many ≤ k → is_acknowledged sv.done k ≡ false
  none_at k past = by_load (ack_load sv.done k) refl
    where
      by_load : (o : Option ℕ) → ack_load sv.done k ≡ o → is_acknowledged sv.done k ≡ false
      by_load None none = none_acknowledged sv.done k none
      by_load (Some x) some = absurd (omega (
        arith,
        past,
        begun_many,
        load_begun e d l law y begun now words shadow_words v w sv sw h.parts k x some,
      ))

  carried_many : map (bytes_of sv.frame sv.done) (range_with_len n many) ≡ take many (drop (before y) (guest_commands v))
  carried_many =
      let f : ℕ → List ℕ = bytes_of sv.frame sv.done in
      let rest : List (List ℕ) = drop (before y) (guest_commands v) in
      let count : length (map f (range_with_len n many)) ≡ many = length-map-range_with_len f n many in
      let is = front (map f (range_with_len n many)) rest
      (omega (arith, count, few, links.few, links.some, length-drop (before y) (guest_commands v), commands_count v))
      (λ i x below.
      let low : i < many = omega (arith, below, count) in
      let same : before y + (n + i - n) ≡ before y + i = omega arith in
      get_or-map-range_with_len f n many i (n + i) x low refl ∙ links.carried (n + i) (omega arith) (omega (arith, low, few))
      ∙ ap (bytes_of v.frame v.done) same
      ∙ sym (command_at v (before y + i) x (omega (arith, low, few, links.few)))
      ∙ sym (get_or-drop (before y) (guest_commands v) i x)) in
      sym (take_at (map f (range_with_len n many)) is.0 many count) ∙ ap (take many) is.1

  pub settles : settings ≡ set_by y.from.settings (take many (drop (before y) (guest_commands v)))
  settles = h.carried.settled
      ∙ ap (λ (cs : List Command). fold applied y.from.settings cs) (cut_commands (bytes_of sv.frame sv.done) (is_acknowledged sv.done) n
      (length (offers sv.done) - n) many few passes_at (λ k past high. none_at k past))
      ∙ ap (set_by y.from.settings) carried_many
