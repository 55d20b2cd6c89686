-- What can't be said twice, and one word more.
use Rattle.std.proofs.Common.{◌≡◌, ℕ, suc, List, [], ◌∷◌, Option, Some, None, option_map, option_and_then, refl, subst, sym}
use Rattle.vd_runner.specs.Command.{chosen, IsMode}
use Rattle.vd_runner.specs.Given.{with_parts}
use Rattle.vd_runner.specs.declared.words.Given.{Given}
use Rattle.vd_runner.specs.declared.chosen.ModeWord.{ModeWord}
use Rattle.vd_runner.specs.declared.chosen.ModeWord.TheVariants.{Play, Check}
use Rattle.vd_runner.specs.declared.chosen.Options.{Options}
use Rattle.vd_runner.specs.declared.words.Part.{Part}

pub two_modes : (m n : ModeWord) (ms : List ModeWord) (ss : List ℕ) (b : ℕ) → chosen (m ∷ n ∷ ms) ss b ≡ None
two_modes Play n ms ss b = refl
two_modes Check n ms ss b = refl

pub two_seeds : (ms : List ModeWord) (n k : ℕ) (ss : List ℕ) (b : ℕ) → chosen ms (n ∷ k ∷ ss) b ≡ None
two_seeds [] n k ss b = refl
two_seeds (Play ∷ []) n k ss b = refl
two_seeds (Check ∷ []) n k ss b = refl
two_seeds (m ∷ o ∷ ms) n k ss b = two_modes m o ms (n ∷ k ∷ ss) b

pub two_briefs : (ms : List ModeWord) (ss : List ℕ) (b : ℕ) → chosen ms ss (suc (suc b)) ≡ None
two_briefs [] ss b = refl
two_briefs (Play ∷ []) [] b = refl
two_briefs (Play ∷ []) (n ∷ []) b = refl
two_briefs (Play ∷ []) (n ∷ k ∷ ss) b = refl
two_briefs (Check ∷ []) [] b = refl
two_briefs (Check ∷ []) (n ∷ ss) b = refl
two_briefs (m ∷ o ∷ ms) ss b = two_modes m o ms ss (suc (suc b))

-- a part is said, and the others follow
pub part_more : (given now : Given) (part : Part) → ((ps : List Part) → with_parts given (part ∷ ps) ≡ with_parts now ps)
    → (o : Option (List Part)) → option_and_then (with_parts given) (option_map (λ ps. part ∷ ps) o) ≡ option_and_then (with_parts now) o
part_more given now part h None = refl
part_more given now part h (Some ps) = h ps

pub part_none : (given : Given) (part : Part) → ((ps : List Part) → with_parts given (part ∷ ps) ≡ None)
    → (o : Option (List Part)) → option_and_then (with_parts given) (option_map (λ ps. part ∷ ps) o) ≡ None
part_none given part h None = refl
part_none given part h (Some ps) = h ps

pub mode_is : (wanted : Option Options) (o : Options) (m : ModeWord) → wanted ≡ Some o → o.mode ≡ m → IsMode m wanted
mode_is wanted o m e h = subst (IsMode m) (sym e) h
