use Rattle.std.proofs.Common.{◌≡◌, length, sym, ◌∙◌, ap, arith, inl, inr, false}
use Rattle.std.proofs.lemmas.Bool.{false≢true}
use Rattle.vd_control.specs.declared.settings.Settings.{Settings}
use Rattle.vd_control.specs.Settings.{replay}
use Rattle.vd_relay.specs.declared.replay.Replay.{Replay}
use Rattle.vd_relay.specs.ModeEnds.{opening}
use Rattle.vd_relay.proofs.ModeReplays.{opens}
use Rattle.vd_relay.proofs.relay.first_control.Goals as goal

pub returns-clause-holds : goal.returns-clause-holds
returns-clause-holds g c = λ w v o.
    let n = c.new-control in
    c.go_on.ensures.holds (opening c.args.settings c.args.replay w) c.args.settings (record { accesses = 0; handled = 0; heard = 0 }) w v
    n.ensures.settings
    (opens g.L.Layout.layout g.L.Device.DeviceEnd.device g.L.Driver.DriverEnd.driver c.args.settings c.args.replay c.args.state.now n.result
    w v (rw n.ensures.commands o) c.requires.idle c.requires.awake c.requires.unarmed c.requires.fresh (n.ensures.holds v o.fresh)
    n.ensures.winding n.ensures.target n.ensures.hand (n.ensures.paid v))

pub returns-clause-over : goal.returns-clause-over
returns-clause-over g c = λ w v o on.
    let n = c.new-control in
    let y : Replay = n.result.replay in
    let kept = c.go_on.ensures.replay in
    elim (c.go_on.ensures.over (opening c.args.settings c.args.replay w) v n.ensures.settings (n.ensures.holds v o.fresh).replays on) [
      | inl all ↦ ap (λ (x : Replay). x.next) kept ∙ all
          ∙ sym (ap (λ (x : Replay). length (replay x.settings)) kept ∙ ap (λ (x : Settings). length (replay x)) n.ensures.settings)
      | inr cut ↦ absurd (false≢true (sym n.ensures.winding ∙ cut.0))
    ]
