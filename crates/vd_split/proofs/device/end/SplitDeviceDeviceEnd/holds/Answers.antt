use Rattle.std.proofs.Common.{◌≡◌, ◌<◌, ℕ, List, Option, Some, None, refl, ap, sym, ◌∙◌, subst}
use Rattle.std.specs.Prelude.{IsTrue, is_some, MatchOption}
use Rattle.std.specs.List.{Contains}
use Rattle.vd_ring.specs.declared.device.DeviceView.{DeviceView}
use Rattle.vd_ring.specs.History.{running}
use Rattle.vd_split.specs.DeviceEnd.{number_at, DeviceStands}
use Rattle.vd_split.specs.laws.DeviceLaws.{found_runs, runs_found}
use Rattle.vd_split.specs.declared.device.SplitDevice.{SplitDevice}
use Rattle.vd_split.proofs.device.end.SplitDeviceDeviceEnd.holds.Goals as goal

-- a look through the table finds exactly the running chains
exact : (e : SplitDevice) (w : DeviceView) (k : ℕ) (xs : List (Option ℕ)) (r : Option ℕ) → DeviceStands e w → xs ≡ e.running.items
    → MatchOption r ((h : ℕ) → h < e.size → number_at xs h ≡ Some k → ⊥) (λ h. number_at xs h ≡ Some k)
    → (IsTrue (is_some r) → Contains (running w.done) k) × (Contains (running w.done) k → IsTrue (is_some r))
exact e w k xs None st is m = (
  λ t. absurd (cc t),
  λ runs. absurd (runs_found e w k st runs (λ h a there. m h a (ap (λ (ys : List (Option ℕ)). number_at ys h) is ∙ there))),
)
exact e w k xs (Some h) st is m = (λ t. found_runs e w h k st (sym (ap (λ (ys : List (Option ℕ)). number_at ys h) is) ∙ m), λ runs. refl)

pub returns : goal.returns
returns c = λ w st.
    subst (λ b. (IsTrue b → Contains (running w.done) c.args.k) × (Contains (running w.done) c.args.k → IsTrue b)) (sym c.is_some.ensures)
    (exact c.args.self.now w c.args.k c.deref.result.now c.find_head.result st c.deref.ensures.value c.find_head.ensures)
