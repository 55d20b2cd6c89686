-- A command is read from the bytes that it is written as.
use Rattle.std.proofs.Common.{◌≡◌, ℕ, ◌<◌, ◌^◌, List, Some, arith, refl, true, false, ap, ◌∙◌}
use Rattle.std.proofs.lemmas.Nat.{from_le_bytes-to_le_bytes_2, from_le_bytes-to_le_bytes_8}
use Rattle.std.proofs.lemmas.Bool.Decides.{nat_tests}
use Rattle.vd_control.specs.declared.command.Command.{Command}
use Rattle.vd_control.specs.declared.command.Command.TheVariants.{Rx, Mac, VlanAdd, VlanDel, Pairs, Offloads}
use Rattle.vd_control.specs.Commands.{IsCommand, command, spelled}

pub read_back : (c : Command) → IsCommand c → command (spelled c) ≡ Some c
unfolding command
read_back (Rx flag true) h = grind (arith, nat_tests)
read_back (Rx flag false) h = grind (arith, nat_tests)
read_back (Mac mac) h = grind (arith, nat_tests)
read_back (VlanAdd vlan) h = let small : vlan < 2 ^ 16 = omega arith in
    rw (from_le_bytes-to_le_bytes_2 vlan small) (grind (arith, nat_tests))
read_back (VlanDel vlan) h = let small : vlan < 2 ^ 16 = omega arith in
    rw (from_le_bytes-to_le_bytes_2 vlan small) (grind (arith, nat_tests))
read_back (Pairs pairs) h = let small : pairs < 2 ^ 16 = omega arith in
    rw (from_le_bytes-to_le_bytes_2 pairs small) (grind (arith, nat_tests))
read_back (Offloads offloads) h = rw (from_le_bytes-to_le_bytes_8 offloads h) refl

pub reads_back : (bytes : List ℕ) (c : Command) → bytes ≡ spelled c → IsCommand c → command bytes ≡ Some c
reads_back bytes c e h = ap command e ∙ read_back c h
