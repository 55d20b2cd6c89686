use Rattle.std.proofs.Common.{◌≡◌, Bool, not, ap, ◌∙◌, arith}
use Rattle.std.specs.Int.{from_bool}
use Rattle.vd_control.specs.Settings.{is_zeros}
use Rattle.vd_control.proofs.Places.{length-replay}
use Rattle.vd_control.proofs.replay.replay_len.Goals as goal

pub returns-clause-value : goal.returns-clause-value
returns-clause-value c =
    let address : c.from.result ≡ from_bool (not (is_zeros c.args.s.now.mac)) =
    c.from.ensures ∙ ap (λ (b : Bool). from_bool (not b)) c.is_zeros.ensures in
    omega (arith, length-replay c.args.s.now)
