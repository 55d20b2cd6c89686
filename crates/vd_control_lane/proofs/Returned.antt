-- What came back to a guest of the control queue are commands of its script with their acks.
use Rattle.std.proofs.Common.{◌≡◌, ℕ, ◌<◌, ◌%◌, Option, Some, None, List, [], length, slice_get, slice_index_or, refl, ◌∙◌, ap, arith}
use Rattle.std.specs.List.{All}
use Rattle.std.proofs.lemmas.List.{get_or-take}
use Rattle.std.proofs.lemmas.Option.{slice_get_within, slice_get-get_or}
use Rattle.vd_model.specs.declared.record.Return.{Return}
use Rattle.vd_model.specs.declared.record.Script.{Script}
use Rattle.vd_ring.specs.declared.driver.DriverView.{DriverView}
use Rattle.vd_ring.specs.declared.device.DeviceDone.{DeviceDone}
use Rattle.vd_ring.specs.declared.frame.Used.{Used}
use Rattle.vd_ring.specs.History.{offers, collects, gives, used_at, entry}
use Rattle.vd_ring.specs.Lists.{Lists}
use Rattle.vd_ring.proofs.ListSteps.{given_below}
use Rattle.vd_layout.specs.Control.{ControlWords}
use Rattle.vd_bus.specs.GuestCommands.{commands, HasSent, IsAcked, AreAcked}
use Rattle.vd_control.specs.Commands.{command}
use Rattle.vd_control.specs.declared.command.Command.{Command}
use Rattle.vd_commands.specs.Loads.{ack_load}
use Rattle.vd_commands.specs.Words.{ack_byte, ack_for}
use Rattle.vd_relay.specs.Settling.{bytes_of}
use Rattle.vd_control_lane.specs.Scripts.{AreSendable, IsReturned}
use Rattle.vd_control_lane.proofs.Sent.{few, carried}

one_byte : (o : Option Command) → ack_for o % 256 ≡ ack_for o
one_byte (Some c) = refl
one_byte None = refl

module _ (words : ControlWords) (s : Script) (v : DriverView) (sent : HasSent words s v.frame v.done) (can : AreSendable (commands s))
    (rs : List Return) (acked : AreAcked v.done rs) (done : List DeviceDone) (lists : Lists v.frame v.done done)
    (right : (k ack : ℕ) → ack_load v.done k ≡ Some ack → ack ≡ ack_byte (bytes_of v.frame v.done k))
    (ones : (j : ℕ) → j < length (gives done) → (used_at (gives done) j).len ≡ 1) where
  -- an entry collected is the one given
  collected_is : (j : ℕ) → j < length (collects v.done) → used_at (collects v.done) j ≡ used_at (gives done) j
  collected_is j low =
      ap (λ (us : List Used). used_at us j) lists.collected ∙ get_or-take (length (collects v.done)) (gives done) j (entry 0 0) low

  one : (j : ℕ) (r : Return) → slice_get rs j ≡ Some r → IsReturned (commands s) r
  one j r at =
      let u : Used = used_at (collects v.done) j in
      let is : IsAcked v.done u r = acked.each j r at in
      let low : j < length (collects v.done) = omega (arith, slice_get_within rs j r at, acked.some) in
      let given : j < length (gives done) = omega (arith, low, lists.fewer) in
      let same : u ≡ used_at (gives done) j = collected_is j low in
      let of : u.number < length (offers v.done) =
      omega (arith, given_below v.frame v.done done j lists given, lists.some, ap (λ (x : Used). x.number) same) in
      let within : u.number < length (commands s) = omega (arith, of, few words s v sent can) in
      let bytes : List ℕ = slice_index_or (commands s) u.number [] in
      let ack : is.word ≡ ack_byte bytes = right u.number is.word is.loaded ∙ ap ack_byte (carried words s v sent can u.number [] of) in
      record {
        len = is.len ∙ ap (λ (x : Used). x.len) same ∙ ones j given;
        bytes = bytes;
        is = ap (slice_get (commands s)) is.number ∙ slice_get-get_or (commands s) u.number [] within;
        ack = is.ack ∙ ap (λ (x : ℕ). x % 256) ack ∙ one_byte (command bytes);
      }

  pub all_returned : All (IsReturned (commands s)) rs
  all_returned j d low = one j (slice_index_or rs j d) (slice_get-get_or rs j d low)
