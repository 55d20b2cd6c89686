-- What a command text means, and the canonical text of a command.
use Rattle.std.specs.Prelude.{ℕ, Bool, ◌&&◌, nat_le, if◌then◌else◌, List, length, Option, None}
use Rattle.std.specs.List.{list_all}
use Rattle.std.specs.Result.{result_ok}
use Rattle.hex.specs.Hex.{decode_of, encode_lower}

-- 6 to 20 digits
abbrev pub has_command_length : List ℕ → Bool
has_command_length text = nat_le 6 (length text) && nat_le (length text) 20

-- what a command text means: each two hexadecimal digits, of either case, a byte; an odd number of them has no meaning
unfoldable pub command : List ℕ → Option (List ℕ)
command text = if has_command_length text then result_ok (decode_of text) else None

-- a number of 8 bits
abbrev pub is_byte : ℕ → Bool
is_byte b = nat_le b 255

-- 3 to 10 bytes
abbrev pub is_command : List ℕ → Bool
is_command bytes = (nat_le 3 (length bytes) && nat_le (length bytes) 10) && list_all is_byte bytes

-- the canonical text: each byte two digits, in lower case
abbrev pub command_text : List ℕ → List ℕ
command_text bytes = encode_lower bytes
