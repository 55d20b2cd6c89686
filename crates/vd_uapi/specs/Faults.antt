-- Why bytes are refused, and None where they aren't.
use Rattle.std.specs.Prelude.{ℕ, ◌==◌, nat_lt, nat_le, not, ◌&&◌, Bool, List, length, slice_index, Option, Some, None, if◌then◌else◌}
use Rattle.vd_uapi.specs.Bytes.{number_at}
use Rattle.vd_uapi.specs.declared.fault.UapiFault.{UapiFault}
use Rattle.vd_uapi.specs.declared.fault.UapiFault.TheVariants.{Short, BadVersion, BadType, BadPerm}

-- fewer bytes than the structure needs
abbrev pub short_fault : ℕ → List ℕ → Option UapiFault
short_fault need bytes = if nat_lt (length bytes) need then Some (Short (length bytes) need) else None

-- the permission and the kind stand at bytes 32 and 33 of a message; which values of them are known
abbrev pub perm_in : List ℕ → ℕ
perm_in bytes = slice_index bytes 32

abbrev pub kind_in : List ℕ → ℕ
kind_in bytes = slice_index bytes 33

abbrev pub is_perm : ℕ → Bool
is_perm n = nat_le 1 n && nat_le n 3

abbrev pub is_kind : ℕ → Bool
is_kind n = nat_le 1 n && nat_le n 6

-- the first of: fewer than 72 bytes; another version than 2; a kind that isn't 1 to 6; an update whose permission isn't 1 to 3
abbrev pub msg_fault : List ℕ → Option UapiFault
msg_fault bytes =
    if nat_lt (length bytes) 72 then Some (Short (length bytes) 72)
    else (if not (number_at 4 0 bytes == 2) then Some (BadVersion (number_at 4 0 bytes))
    else (if not (is_kind (kind_in bytes)) then Some (BadType (kind_in bytes))
    else (if kind_in bytes == 2 && not (is_perm (perm_in bytes)) then Some (BadPerm (perm_in bytes)) else None)))
