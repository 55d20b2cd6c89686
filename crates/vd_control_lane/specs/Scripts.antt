-- What a guest of the control queue offers and gets back, by its script.
use Rattle.std.specs.Prelude.{◌≡◌, ℕ, ◌<◌, List, length, slice_get, Some}
use Rattle.std.specs.List.{All}
use Rattle.vd_model.specs.declared.record.Return.{Return}
use Rattle.vd_bus.specs.GuestCommands.{IsCommandLength}
use Rattle.vd_commands.specs.Words.{ack_byte}

-- byte strings that a guest can send: of 3 to 10 bytes each
pub record AreSendable (sent : List (List ℕ)) : Type 0 where
  pub lengths : All (λ bytes. IsCommandLength (length bytes)) sent
  pub bytes : All (All (λ byte. byte < 256)) sent

-- one of them came back with the one byte that its device wrote: OK for a command, ERR for any other bytes
pub record IsReturned (sent : List (List ℕ)) (r : Return) : Type 0 where
  pub len : r.len ≡ 1
  pub bytes : List ℕ
  pub is : slice_get sent r.number ≡ Some bytes
  pub ack : r.ack ≡ ack_byte bytes
