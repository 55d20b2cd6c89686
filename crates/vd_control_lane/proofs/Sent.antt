-- The commands that a guest has offered are the first of its script.
use Rattle.std.proofs.Common.{◌≡◌, ℕ, ◌<◌, ◌≤◌, List, length, take, slice_index_or, sym, ◌∙◌, ap, arith, inl, inr}
use Rattle.std.specs.List.{All}
use Rattle.std.proofs.lemmas.Bool.{cases_lt}
use Rattle.std.proofs.lemmas.List.{length-map, get_or-take, get_or_past, same_lists, length-take-le}
use Rattle.std.proofs.lemmas.Option.{slice_get-get_or}
use Rattle.vd_model.specs.declared.record.Script.{Script}
use Rattle.vd_model.specs.Chains.{readable}
use Rattle.vd_ring.specs.declared.driver.DriverView.{DriverView}
use Rattle.vd_ring.specs.Control.{command_of}
use Rattle.vd_ring.specs.History.{offers, chain}
use Rattle.vd_layout.specs.Control.{ControlWords}
use Rattle.vd_bus.specs.GuestCommands.{commands, HasSent, Carries}
use Rattle.vd_commands.specs.Words.{command_word, word_bytes}
use Rattle.vd_commands.proofs.Filled.{bytes_come_back}
use Rattle.vd_relay.specs.Settling.{bytes_of}
use Rattle.vd_switch.specs.CommandLanes.{guest_commands}
use Rattle.vd_switch.proofs.CommandLists.{commands_count, command_at}
use Rattle.vd_switch.proofs.CommandWords.{same_bytes}
use Rattle.vd_control_lane.specs.Scripts.{AreSendable}

-- a string's bytes come back from its words
string_back : (bytes : List ℕ) → length bytes ≤ 16 → All (λ (byte : ℕ). byte < 256) bytes
    → word_bytes (length bytes) (command_word bytes 0) (command_word bytes 1) ≡ bytes
string_back bytes most are = bytes_come_back bytes most (λ i. elim (cases_lt i (length bytes)) [
  | inl low ↦ are i 0 low
  | inr past ↦ omega (arith, get_or_past {X = ℕ} bytes i 0 past)
])

module _ (words : ControlWords) (s : Script) (v : DriverView) (sent : HasSent words s v.frame v.done) (can : AreSendable (commands s)) where
  pub few : length (offers v.done) ≤ length (commands s)
  few = omega (arith, sent.some, length-map s.commands (λ b. b.items))

  pub carried : (k : ℕ) (d : List ℕ) → k < length (offers v.done) → bytes_of v.frame v.done k ≡ slice_index_or (commands s) k d
  carried k d low =
      let bytes : List ℕ = slice_index_or (commands s) k d in
      let inside : k < length (commands s) = omega (arith, low, few) in
      let is : Carries words v.frame v.done k bytes = sent.each k bytes low (slice_get-get_or (commands s) k d inside) in
      let long : length bytes ≤ 16 = omega (arith, (can.lengths k d inside).1) in
      let count : readable (chain v.done k) ≡ length bytes = ap readable is.is ∙ omega arith in
      same_bytes (readable (chain v.done k)) (length bytes) (command_of v.frame v.done k 0) (command_word bytes 0)
      (command_of v.frame v.done k 1) (command_word bytes 1) count is.first is.second
      ∙ string_back bytes long (can.bytes k d inside)

  pub script_sent : guest_commands v ≡ take (length (offers v.done)) (commands s)
  script_sent =
      let n : ℕ = length (offers v.done) in
      same_lists (guest_commands v) (take n (commands s)) (commands_count v ∙ sym (length-take-le n (commands s) few))
      (λ k d below.
      let low : k < n = omega (arith, below, commands_count v) in
      command_at v k d low ∙ carried k d low ∙ sym (get_or-take n (commands s) k d low))
