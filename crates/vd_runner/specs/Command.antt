-- What the words of a command line mean.
use Rattle.std.specs.Prelude.{◌≡◌, ℕ, zero, suc, ◌==◌, if◌then◌else◌, Bool, true, false, List, [], ◌∷◌, codes, Option, Some, None, option_map, option_and_then, IsSomeAnd}
use Rattle.std.specs.Str.{bytes_eq}
use Rattle.vd_text.specs.Grammar.{number}
use Rattle.vd_runner.specs.declared.chosen.ModeWord.{ModeWord}
use Rattle.vd_runner.specs.declared.chosen.ModeWord.TheVariants.{Play, Check}
use Rattle.vd_runner.specs.declared.chosen.Options.{Options}
use Rattle.vd_runner.specs.declared.words.Part.{Part}
use Rattle.vd_runner.specs.declared.words.Part.TheVariants.{Mode, Seed, Brief}

-- 1 to 20 decimal digits, whose value is below 2 ^ 64
abbrev pub seed_of : List ℕ → Option ℕ
seed_of = number 0 0xffff_ffff_ffff_ffff

-- what stands behind a front
abbrev pub behind : List ℕ → List ℕ → Option (List ℕ)
behind [] text = Some text
behind (c ∷ front) [] = None
behind (c ∷ front) (x ∷ text) = if x == c then behind front text else None

-- what a word says alone: a command, `--brief`, or a number behind `--seed=`
abbrev pub part : List ℕ → Option Part
part word =
    if bytes_eq word (codes "play") then Some (Mode Play) else if bytes_eq word (codes "check") then Some (Mode Check)
    else if bytes_eq word (codes "--brief") then Some Brief
    else option_map Seed (option_and_then seed_of (behind (codes "--seed=") word))

-- what the words say one after the other; `--seed` and the number behind it are two words
abbrev mutual
  pub parts : List (List ℕ) → Option (List Part)
  parts [] = Some []
  parts (word ∷ words) =
      if bytes_eq word (codes "--seed") then seeded words
      else option_and_then (λ p. option_map (λ ps. p ∷ ps) (parts words)) (part word)

  pub seeded : List (List ℕ) → Option (List Part)
  seeded [] = None
  seeded (word ∷ words) = option_and_then (λ n. option_map (λ ps. Seed n ∷ ps) (parts words)) (seed_of word)

-- the commands, the seeds, and how often `--brief` is said
abbrev pub modes : List Part → List ModeWord
modes [] = []
modes (Mode m ∷ ps) = m ∷ modes ps
modes (Seed n ∷ ps) = modes ps
modes (Brief ∷ ps) = modes ps

abbrev pub seeds : List Part → List ℕ
seeds [] = []
seeds (Mode m ∷ ps) = seeds ps
seeds (Seed n ∷ ps) = n ∷ seeds ps
seeds (Brief ∷ ps) = seeds ps

abbrev pub briefs : List Part → ℕ
briefs [] = 0
briefs (Mode m ∷ ps) = briefs ps
briefs (Seed n ∷ ps) = briefs ps
briefs (Brief ∷ ps) = suc (briefs ps)

-- one command; with `play` at most one seed and `--brief` once at most, with `check` nothing else
abbrev pub chosen : List ModeWord → List ℕ → ℕ → Option Options
chosen (Play ∷ []) [] zero = Some (record { mode = Play; seed = None; brief = false })
chosen (Play ∷ []) [] (suc zero) = Some (record { mode = Play; seed = None; brief = true })
chosen (Play ∷ []) (n ∷ []) zero = Some (record { mode = Play; seed = Some n; brief = false })
chosen (Play ∷ []) (n ∷ []) (suc zero) = Some (record { mode = Play; seed = Some n; brief = true })
chosen (Check ∷ []) [] zero = Some (record { mode = Check; seed = None; brief = false })
chosen _ _ _ = None

-- what the words of a command line order, if they mean a command
unfoldable pub command : List (List ℕ) → Option Options
command words = option_and_then (λ ps. chosen (modes ps) (seeds ps) (briefs ps)) (parts words)

-- the words mean a command of this mode
abbrev pub IsMode : ModeWord → Option Options → Type 0
IsMode m wanted = IsSomeAnd wanted (λ o. o.mode ≡ m)

-- a play by this seed, where there is one, and with such a report
abbrev pub playing : Option ℕ → Bool → Options
playing seed brief = record { mode = Play; seed = seed; brief = brief }
