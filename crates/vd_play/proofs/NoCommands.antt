-- Where there is no control queue nothing is replayed, and the work of a machine is that of its data queues.
use Rattle.std.proofs.Common.{◌≡◌, ℕ, zero, suc, add-one, ◌+◌, ◌*◌, ◌/◌, ◌%◌, ◌<◌, ◌==◌, Bool, true, false, Option, None, is_some, if◌then◌else◌, List, [], ◌∷◌, ◌++◌, length, map, replicate, flat_map, refl, sym, ◌∙◌, ap, arith}
use Rattle.std.proofs.lemmas.List.{get_or-replicate}
use Rattle.std.proofs.lemmas.Nat.Bits.{bit_at-zero}
use Rattle.vd_control.specs.declared.settings.Settings.{Settings}
use Rattle.vd_control.specs.Commands.{spelled}
use Rattle.vd_control.specs.Settings.{default, has_bit, has_flag, has_vlan, passing, replay}
use Rattle.vd_control.proofs.Passing.{kept, passing-none, passing-more}
use Rattle.vd_model.specs.declared.record.Script.{Script}
use Rattle.vd_machine.specs.File.{Plan}
use Rattle.vd_machine.specs.Words.{control_count}
use Rattle.vd_play.specs.AllWork.{command_work, command_rings, all_work, all_rings, most_steps_of_all}
use Rattle.vd_play.specs.Commands.{control_epochs, settings_at, replayed_commands}
use Rattle.vd_play.specs.Epochs.{Epoch}
use Rattle.vd_play.specs.Progress.{work, rings, most_steps}
use Rattle.vd_play.proofs.ControlSettings.{commands_none, settings_none}

-- ---- the default needs no replay

none_passes : (p : ℕ → Bool) (n : ℕ) → ((i : ℕ) → i < n → p i ≡ false) → passing p n ≡ []
none_passes p zero never = passing-none p
none_passes p (suc n) never =
    sym (ap (passing p) (add-one n)) ∙ passing-more p n
    ∙ ap (λ (xs : List ℕ). xs ++ kept (p n) n) (none_passes p n (λ i h. never i (omega arith)))
    ∙ ap (λ (b : Bool). kept b n) (never n (omega arith))

no_flags : passing (has_flag (replicate 6 false)) 6 ≡ []
no_flags = none_passes (has_flag (replicate 6 false)) 6 (λ i h. get_or-replicate {A = Bool} 6 i false false h)

no_vlans : passing (has_vlan (replicate 64 0)) 4096 ≡ []
no_vlans = none_passes (has_vlan (replicate 64 0)) 4096
    (λ v h. ap (λ (w : ℕ). has_bit w (v % 64)) (get_or-replicate {A = ℕ} 64 (v / 64) 0 0 (omega arith))
    ∙ ap (λ (x : ℕ). x == 1) (bit_at-zero (v % 64)))

pub replay_default : replay default ≡ []
unfolding replay default
replay_default = rw (no_flags, no_vlans) refl

-- ---- nothing is replayed

nothing_if : (b : Bool) (xs : List (List ℕ)) → xs ≡ [] → (if b then xs else []) ≡ []
nothing_if true xs h = h
nothing_if false xs h = refl

none_replayed : (plan : Plan) → plan.control ≡ None → (ep : Epoch) → replayed_commands plan ep ≡ []
none_replayed plan none ep = nothing_if ep.renewed (map spelled (replay (settings_at plan ep.number)))
    (ap (λ (s : Settings). map spelled (replay s)) (settings_none plan ep.number none) ∙ ap (map spelled) replay_default)

flat_none : {A B : Type 0} (f : A → List B) → ((x : A) → f x ≡ []) → (xs : List A) → flat_map f xs ≡ []
flat_none f none [] = refl
flat_none f none (x ∷ xs) = ap (λ ys. ys ++ flat_map f xs) (none x) ∙ flat_none f none xs

pub no_command_work : (plan : Plan) → plan.control ≡ None → command_work plan ≡ 0
no_command_work plan none = omega (
  arith,
  ap length (commands_none plan none),
  ap length (flat_none (replayed_commands plan) (none_replayed plan none) (control_epochs plan)),
)

no_command_rings : (plan : Plan) → plan.control ≡ None → command_rings plan ≡ 0
no_command_rings plan none = ap (λ (o : Option Script). control_count (is_some o) plan.switches) none

-- ---- the work of all is that of the data queues

pub same_work : (plan : Plan) → plan.control ≡ None → all_work plan ≡ work plan
same_work plan none = omega (arith, no_command_work plan none)

pub same_rings : (plan : Plan) → plan.control ≡ None → all_rings plan ≡ rings plan
same_rings plan none = omega (arith, no_command_rings plan none)

pub same_most_steps : (plan : Plan) → plan.control ≡ None → most_steps_of_all plan ≡ most_steps plan
same_most_steps plan none = ap (λ j. 1024 * (j + all_rings plan * plan.size)) (same_work plan none)
    ∙ ap (λ j. 1024 * (work plan + j * plan.size)) (same_rings plan none)
