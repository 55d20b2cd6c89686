-- What was given by the words so far, and what it means with those that follow.
use Rattle.std.specs.Prelude.{ℕ, suc, Bool, true, false, if◌then◌else◌, List, [], ◌∷◌, ◌++◌, Option, Some, None, option_and_then}
use Rattle.vd_runner.specs.Command.{parts, seeded, modes, seeds, briefs, chosen}
use Rattle.vd_runner.specs.declared.words.Given.{Given}
use Rattle.vd_runner.specs.declared.chosen.Options.{Options}
use Rattle.vd_runner.specs.declared.words.Part.{Part}

abbrev pub listed : {A : Type 0} → Option A → List A
listed None = []
listed (Some x) = x ∷ []

abbrev pub counted : Bool → ℕ → ℕ
counted true n = suc n
counted false n = n

-- with the parts that follow
abbrev pub with_parts : Given → List Part → Option Options
with_parts g ps = chosen (listed g.mode ++ modes ps) (listed g.seed ++ seeds ps) (counted g.brief (briefs ps))

-- with the words that follow, the first of which is a number where one is awaited
abbrev pub left : Given → List (List ℕ) → Option Options
left g words = option_and_then (with_parts g) (if g.awaits then seeded words else parts words)
