-- What the private steps of the walk give, in the words of the walk as a whole.
use Rattle.std.specs.Prelude.{ℕ, suc, not, ◌&&◌, Bool, List, Option, Some, None, Result, Ok, Err, if◌then◌else◌}
use Rattle.vd_indirect.specs.declared.descriptor.TableKind.{TableKind}
use Rattle.vd_indirect.specs.declared.read.TableFault.{TableFault}
use Rattle.vd_indirect.specs.declared.read.TableFault.TheVariants.{Link, Nested, Order}
use Rattle.vd_indirect.specs.Tables.{flags_of, goes_on, has, is_unlinked, piece_at, visited}

-- where the walk goes on from the place visited after `count` others, if it does
abbrev pub following : TableKind → List ℕ → ℕ → ℕ → Result (Option ℕ) TableFault
following kind words places count =
    if not (goes_on kind words places count) then Ok None
    else (if is_unlinked kind words places count then Err (Link (visited kind words count))
    else Ok (Some (visited kind words (suc count))))

-- what is wrong with a place, after a piece that is writable or not
abbrev pub appending : TableKind → List ℕ → ℕ → Bool → Result (Unit {0}) TableFault
appending kind words place writable =
    if has (flags_of kind words place) 2 then Err (Nested place)
    else (if writable && not (piece_at kind words place).write then Err (Order place)
    else Ok tt)
