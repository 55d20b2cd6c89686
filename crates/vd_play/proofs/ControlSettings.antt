-- What the commands of the control queue have set as an epoch begins.
use Rattle.std.proofs.Common.{◌≡◌, ℕ, zero, suc, Option, None, unwrap_or, List, [], take, refl, ap}
use Rattle.vd_model.specs.declared.record.Script.{Script}
use Rattle.vd_control.specs.Settings.{default, folded}
use Rattle.vd_bus.specs.GuestCommands.{commands}
use Rattle.vd_machine.specs.File.{Plan}
use Rattle.vd_machine.specs.Queues.{script}
use Rattle.vd_play.specs.Commands.{control_commands, sent_at, settings_at}

take_none : {A : Type 0} (n : ℕ) (xs : List A) → xs ≡ [] → take n xs ≡ []
take_none zero xs h = refl
take_none (suc n) xs h = ap (take (suc n)) h

pub commands_none : (plan : Plan) → plan.control ≡ None → control_commands plan ≡ []
commands_none plan none = ap (λ (c : Option Script). commands (unwrap_or c (script []))) none

-- where there is no control queue the settings are the default in each epoch
pub settings_none : (plan : Plan) (k : ℕ) → plan.control ≡ None → settings_at plan k ≡ default
settings_none plan k none =
    ap folded (take_none (sent_at plan k) (control_commands plan) (commands_none plan none))
