use Rattle.std.proofs.Common.{◌≡◌, Some, ap, sym, ◌∙◌, subst, arith}
use Rattle.vd_model.specs.declared.record.Script.{Script}
use Rattle.vd_bus.specs.Scripts.{IsScript}
use Rattle.vd_models.specs.Driving.{scripted}
use Rattle.vd_models.proofs.GuestParties.{scripted_few}
use Rattle.vd_models.proofs.guest.ModelGuestGuest.load.Goals as goal

pub returns-clause-ok : goal.returns-clause-ok
returns-clause-ok g c =
    let s : Script = c.in_ok-script.script in
    let same : s ≡ c.args.script.now = c.in_ok-script.ensures in
    let total : c.total-total.result ≡ scripted s = c.total-total.ensures in
    let few = scripted_few s (subst (λ (z : Script). IsScript z) (sym same) c.requires.few) in
    (record { total = total; few = omega (arith, total, few); room = omega (arith, c.in_ok-returned.ensures.capacity) }, ap Some same)
