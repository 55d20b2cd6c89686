use Rattle.std.proofs.Common.{◌≡◌, ◌<◌, ℕ, List, Option, Some, None, ap, ◌∙◌, subst}
use Rattle.std.specs.Prelude.{MatchOption}
use Rattle.vd_split.specs.DeviceEnd.{number_at}
use Rattle.vd_split.specs.laws.DeviceLaws.{runs_found}
use Rattle.vd_split.specs.declared.device.SplitDevice.{SplitDevice}
use Rattle.vd_split.proofs.device.end.SplitDeviceDeviceEnd.begin_give.Goals as goal

none_found : (size k : ℕ) (xs : List (Option ℕ)) (r : Option ℕ) → r ≡ None
    → MatchOption r ((h : ℕ) → h < size → number_at xs h ≡ Some k → ⊥) (λ h. number_at xs h ≡ Some k) → (h : ℕ) → h < size
    → number_at xs h ≡ Some k → ⊥
none_found size k xs r is m = subst (λ (o : Option ℕ). MatchOption o ((h : ℕ) → h < size → number_at xs h ≡ Some k → ⊥)
    (λ h. number_at xs h ≡ Some k)) is m

pub unreachable-requires : goal.unreachable-requires
unreachable-requires c =
    let e : SplitDevice = c.args.self.now in let may = c.requires.may in
    runs_found e may.0 c.args.k may.1 may.2.runs (λ h a there.
    none_found e.size c.args.k c.deref.result.now c.find_head.result c.in-None.is c.find_head.ensures h a
    (ap (λ (ys : List (Option ℕ)). number_at ys h) c.deref.ensures.value ∙ there))
