-- The two regions of a machine that is made find their places in the range of iovas.
use Rattle.std.proofs.Common.{◌≡◌, ℕ, true, [], ◌∷◌, Some, refl, arith, lit≤}
use Rattle.vd_model.specs.declared.map.Mapping.{Mapping}
use Rattle.vd_iova.specs.Holes.{hole, range_at}
use Rattle.vd_iova.specs.Trees.{Tree, IsKept, added}
use Rattle.vd_iova.proofs.Holes.{walk_answers, hole_from}
use Rattle.vd_machine.specs.Iovas.{are_laid}
use Rattle.vd_machine.specs.Made.{made_regions}

abbrev empty : Tree
empty = record { first = 4096; last = 281474976710655; mappings = [] }

abbrev one_mapped : Tree
one_mapped = added empty (range_at (1048576, 1048576) 4096)

empty_is_kept : IsKept empty
empty_is_kept = record { range = (omega arith, omega arith); within = tt; apart = tt }

one_is_kept : IsKept one_mapped
one_is_kept = record {
  range = (omega arith, omega arith);
  within = (record { has_byte = omega arith; begins = omega arith; ends = omega arith; guest_ends = omega arith }, tt);
  apart = (tt, tt);
}

first_hole : hole empty 1048576 ≡ Some 4096
first_hole = hole_from empty 1048576 (Some 4096) (omega arith) (walk_answers empty 1048576 (omega arith) empty_is_kept)

second_hole : hole one_mapped 2097152 ≡ Some 1052672
second_hole = hole_from one_mapped 2097152 (Some 1052672) (omega arith) (walk_answers one_mapped 2097152 (omega arith) one_is_kept)

pub regions_are_laid : are_laid 4096 281474976710655 made_regions ≡ true
regions_are_laid = rw (first_hole, second_hole) refl
