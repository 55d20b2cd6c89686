use Rattle.std.proofs.Common.{◌≡◌, ℕ, ◌+◌, ◌*◌, length, ap, ◌∙◌}
use Rattle.vd_words.specs.declared.access.Access.TheVariants.{Load}
use Rattle.vd_words.specs.declared.access.Op.TheVariants as op
use Rattle.vd_ring.specs.declared.act.DeviceAct.TheVariants as act
use Rattle.vd_split.specs.declared.device.SplitDevice.{SplitDevice}
use Rattle.vd_split.specs.declared.device.DeviceStep.TheVariants as step
use Rattle.vd_split.specs.laws.DeviceSteps.{made}
use Rattle.vd_split.specs.laws.DeviceTabling.{table_address_goes}
use Rattle.vd_split.specs.Parts.{table_place}
use Rattle.vd_split.proofs.device.SplitDevice.table_address.Goals as goal

-- the place as the body computes it
place_is : (t u n m : ℕ) → t ≡ u → n ≡ m → t + 2 * n ≡ u + 2 * m
place_is t u n m a b = ap (λ k. k + 2 * n) a ∙ ap (λ k. u + 2 * k) b

pub access-self-requires : goal.access-self-requires
access-self-requires g c =
    let e : SplitDevice = c.args.self.now in let h : ℕ = c.args.head in let p : ℕ = c.table_place.result + 2 * c.len.result in
    c.requires.own.2.may op.Take (Load p)
    (table_address_goes e c.requires.own.0 c.args.word h c.args.count p 0 c.requires.now c.requires.own.1
    (place_is c.table_place.result (table_place e.size h) c.len.result (length e.pieces.items) c.table_place.ensures
    c.len.ensures.value)).next

pub returns : goal.returns
returns g c = λ v st own.
    let e : SplitDevice = c.args.self.now in let h : ℕ = c.args.head in let p : ℕ = c.table_place.result + 2 * c.len.result in
    let x : ℕ = c.access-self.result in
    made g.P.Port.port c.args.port.now c.access-self.new.self e
    (record e { addr = x; doing = step.TableSecond c.args.word h c.args.count }) v op.Take (Load p) x act.Moved
    (table_address_goes e v c.args.word h c.args.count p x c.requires.now st
    (place_is c.table_place.result (table_place e.size h) c.len.result (length e.pieces.items) c.table_place.ensures
    c.len.ensures.value)) c.access-self.ensures
