-- The settings of a relay that has all acks are those after the guest's commands.
use Rattle.std.proofs.Common.{◌≡◌, ℕ, zero, suc, ◌+◌, ◌-◌, ◌%◌, ◌<◌, ◌≤◌, Bool, true, false, cond, Option, Some, None, List, ◌∷◌, length, map, take, drop, fold, refl, sym, ◌∙◌, ap, arith}
use Rattle.std.specs.Prelude.{◌==◌, filter}
use Rattle.std.specs.List.{filter_map, range_with_len, cons_option}
use Rattle.std.specs.Option.{is_some}
use Rattle.std.proofs.lemmas.List.{length-drop, get_or-drop, take_at}
use Rattle.std.proofs.lemmas.List.FromFn.{get_or-map-range_with_len, length-map-range_with_len}
use Rattle.vd_model.specs.declared.record.Begun.{Begun}
use Rattle.vd_ring.specs.declared.driver.DriverView.{DriverView}
use Rattle.vd_ring.specs.declared.device.DeviceView.{DeviceView}
use Rattle.vd_ring.specs.Control.{AcksAgree}
use Rattle.vd_ring.specs.History.{offers}
use Rattle.vd_layout.specs.Driver.{DriverModel}
use Rattle.vd_layout.specs.Device.{DeviceModel}
use Rattle.vd_layout.specs.Layout.{LayoutModel, IsLawfulLayout}
use Rattle.vd_control.specs.declared.command.Command.{Command}
use Rattle.vd_control.specs.declared.settings.Settings.{Settings}
use Rattle.vd_control.specs.Commands.{command}
use Rattle.vd_control.specs.Settings.{applied}
use Rattle.vd_commands.specs.Words.{ack_for, set_by}
use Rattle.vd_commands.proofs.Agreeing.{load_agrees}
use Rattle.vd_table.specs.declared.Command as kept
use Rattle.vd_relay.specs.declared.state.State.{State}
use Rattle.vd_relay.specs.Settling.{bytes_of}
use Rattle.vd_switch.specs.CommandLanes.{CommandStart, IsCommandLane, before, guest_commands}
use Rattle.vd_switch.specs.CommandSettling.{settled_by, PassWhereOk}
use Rattle.vd_switch.proofs.CommandJournal.{was_given}
use Rattle.vd_switch.proofs.CommandKept.{AreLinked}
use Rattle.vd_switch.proofs.CommandLanes.{command_links}
use Rattle.vd_switch.proofs.CommandLists.{front, commands_count, command_at}
use Rattle.vd_switch.proofs.CommandWords.{load_given}

-- one more: it passes where it is a command
pub one_more : (bytes : ℕ → List ℕ) (passes : ℕ → Bool) (a : ℕ) (xs ys : List ℕ) (c : Option Command) → command (bytes a) ≡ c
    → passes a ≡ is_some (command (bytes a)) → filter_map command (map bytes xs) ≡ filter_map command (map bytes ys)
    → filter_map command (map bytes (cond (passes a) (a ∷ xs) xs)) ≡ cons_option (command (bytes a)) (filter_map command (map bytes ys))
one_more bytes passes a xs ys (Some c) is pass more =
    let yes : passes a ≡ true = pass ∙ ap (λ (o : Option Command). is_some o) is in
    ap (λ (b : Bool). filter_map command (map bytes (cond b (a ∷ xs) xs))) yes
    ∙ ap (λ (cs : List Command). cons_option (command (bytes a)) cs) more
one_more bytes passes a xs ys None is pass more =
    let no : passes a ≡ false = pass ∙ ap (λ (o : Option Command). is_some o) is in
    ap (λ (b : Bool). filter_map command (map bytes (cond b (a ∷ xs) xs))) no ∙ more
    ∙ ap (λ (o : Option Command). cons_option o (filter_map command (map bytes ys))) (sym is)

-- only what is no command is left out
all_commands : (bytes : ℕ → List ℕ) (passes : ℕ → Bool) (a n : ℕ)
    → ((k : ℕ) → a ≤ k → k < a + n → passes k ≡ is_some (command (bytes k)))
    → filter_map command (map bytes (filter passes (range_with_len a n))) ≡ filter_map command (map bytes (range_with_len a n))
all_commands bytes passes a zero h = refl
all_commands bytes passes a (suc n) h = one_more bytes passes a (filter passes (range_with_len (a + 1) n)) (range_with_len (a + 1) n)
    (command (bytes a)) refl (h a (omega arith) (omega arith))
    (all_commands bytes passes (a + 1) n (λ k low high. h k (omega arith) (omega arith)))

pub ok_at : (c : Option Command) → (ack_for c % 256 == 0) ≡ is_some c
ok_at (Some c) = refl
ok_at None = refl

module _ {E D : Type 0} (e : DeviceModel E) (d : DriverModel D) (l : LayoutModel) (law : IsLawfulLayout d e l) (y : CommandStart)
    (r : State E D) (table : List (Option kept.Command)) (settings : Settings) (begun : List Begun) (now : Settings)
    (words shadow_words : List ℕ) (v : DriverView) (w : DeviceView) (sv : DriverView) (sw : DeviceView)
    (h : IsCommandLane e d l y r table settings begun now words shadow_words v w sv sw) (passes : ℕ → Bool)
    (acked : PassWhereOk y.from passes sv.done) where
  abbrev n : ℕ
  n = y.from.replayed

  abbrev many : ℕ
  many = length (offers sv.done) - n

  links : AreLinked y v w sv sw
  links = command_links e d l law y r table settings begun now words shadow_words v w sv sw h

  passes_at : (k : ℕ) → n ≤ k → k < length (offers sv.done) → passes k ≡ is_some (command (bytes_of sv.frame sv.done k))
  passes_at k past low =
      let a = acked k past low in
      let agree : AcksAgree sv.done sw.done = (law.controls shadow_words sv sw h.parts.shadow_ring).acks.acks_agree in
      let given = was_given e d l law y begun now words shadow_words v w sv sw h.parts k (load_given sv.done sw.done k a.0 agree a.1) in
      a.2 ∙ ap (λ (x : ℕ). x % 256 == 0) (load_agrees sv.done sw.done k a.0 agree a.1 ∙ given.ack)
      ∙ ok_at (command (bytes_of sv.frame sv.done k))

  carried_all : map (bytes_of sv.frame sv.done) (range_with_len n many) ≡ take many (drop (before y) (guest_commands v))
  carried_all =
      let f : ℕ → List ℕ = bytes_of sv.frame sv.done in
      let rest : List (List ℕ) = drop (before y) (guest_commands v) in
      let count : length (map f (range_with_len n many)) ≡ many = length-map-range_with_len f n many in
      let is = front (map f (range_with_len n many)) rest
      (omega (arith, count, links.few, links.some, length-drop (before y) (guest_commands v), commands_count v))
      (λ i x below.
      let low : i < many = omega (arith, below, count) in
      let same : before y + (n + i - n) ≡ before y + i = omega arith in
      get_or-map-range_with_len f n many i (n + i) x low refl ∙ links.carried (n + i) (omega arith) (omega (arith, low))
      ∙ ap (bytes_of v.frame v.done) same
      ∙ sym (command_at v (before y + i) x (omega (arith, low, links.few)))
      ∙ sym (get_or-drop (before y) (guest_commands v) i x)) in
      sym (take_at (map f (range_with_len n many)) is.0 many count) ∙ ap (take many) is.1

  pub settled_all : settings ≡ settled_by y.from passes sv.frame sv.done
      → settings ≡ set_by y.from.settings (take many (drop (before y) (guest_commands v)))
  settled_all is = is
      ∙ ap (λ (cs : List Command). fold applied y.from.settings cs) (all_commands (bytes_of sv.frame sv.done) passes n many
      (λ k past low. passes_at k past (omega (arith, past, low))))
      ∙ ap (set_by y.from.settings) carried_all
