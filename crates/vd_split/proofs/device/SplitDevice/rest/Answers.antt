use Rattle.std.proofs.Common.{◌≡◌, ℕ, ◌*◌, List, length, drop, Option, ap, ◌∙◌, arith}
use Rattle.std.proofs.lemmas.List.{take-append-le, take_all}
use Rattle.std.specs.Vec.{with_items}
use Rattle.vd_words.specs.declared.access.Access.TheVariants.{Load}
use Rattle.vd_words.specs.declared.access.Op.TheVariants as op
use Rattle.vd_ring.specs.declared.act.DeviceAct.TheVariants as act
use Rattle.vd_split.specs.declared.device.SplitDevice.{SplitDevice}
use Rattle.vd_split.specs.declared.device.DeviceStep.TheVariants as step
use Rattle.vd_split.specs.DeviceEnd.{number_at}
use Rattle.vd_split.specs.laws.DeviceSteps.{made}
use Rattle.vd_split.specs.laws.DeviceResting.{rest_goes}
use Rattle.vd_split.proofs.device.SplitDevice.rest.Goals as goal

-- the table with other numbers, as many as before
filled : (e : SplitDevice) (ws : List (Option ℕ)) → length ws ≡ length e.running.items → (with_items e.running ws).items ≡ ws
filled e ws many = take-append-le e.running.len ws (drop (length ws) e.running.items) (omega (arith, e.running.ok))
    ∙ take_all e.running.len ws (omega (arith, e.running.ok))

pub returns : goal.returns
returns g c = λ v st own.
    let e : SplitDevice = c.args.self.now in
    let ws : List (Option ℕ) = c.clear.new.running in
    let e2 : SplitDevice = record e { running = with_items e.running ws } in
    let many : length ws ≡ length e.running.items =
    c.clear.ensures.kept ∙ ap (λ (xs : List (Option ℕ)). length xs) c.deref_mut.ensures.value in
    let same = filled e ws many in
    made g.P.Port.port c.args.port.now c.access.new.self e
    (record e { taken = e.given; entry = e.used; running = e2.running; doing = step.Resting }) v op.Rest
    (Load (2 * e.size)) c.access.result act.Rested
    (rest_goes e e2 v c.access.result c.requires.now st (ap (λ (xs : List (Option ℕ)). length xs) same ∙ many)
    (λ h. ap (λ (xs : List (Option ℕ)). number_at xs h) same ∙ c.clear.ensures.none h))
    c.access.ensures
