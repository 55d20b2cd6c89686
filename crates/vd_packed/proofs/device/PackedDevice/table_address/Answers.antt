use Rattle.std.proofs.Common.{◌≡◌, ℕ, ◌+◌, ◌*◌, sym, subst, arith}
use Rattle.vd_words.specs.declared.access.Access.TheVariants.{Load}
use Rattle.vd_words.specs.declared.access.Op.TheVariants as op
use Rattle.vd_ring.specs.declared.act.DeviceAct.TheVariants as act
use Rattle.vd_packed_ring.specs.PackedDevice.{DeviceNext}
use Rattle.vd_ring.specs.declared.device.DeviceView.{DeviceView}
use Rattle.vd_packed.specs.DeviceEnd.{DeviceStands}
use Rattle.vd_packed.specs.declared.device.DeviceStep.TheVariants as step
use Rattle.vd_packed.specs.declared.device.PackedDevice.{PackedDevice}
use Rattle.vd_layout.specs.Telling.{act_of}
use Rattle.vd_packed.specs.laws.DeviceGiving.{Goes, made}
use Rattle.vd_packed.specs.laws.DeviceTabling.{addr_place, address_at, table_address_goes}
use Rattle.vd_packed.proofs.device.PackedDevice.table_address.Goals as goal

-- the step at the place that the body computed
goes : (e e' : PackedDevice) (v : DeviceView) (p x : ℕ) → e.doing ≡ step.TableAddress → DeviceStands e v → p ≡ addr_place e
    → e' ≡ record e { doing = step.TableSecond x } → Goes e e' v op.Take (Load p) x act.Moved
goes e e' v p x is st at is_new =
    subst (λ q. Goes e e' v op.Take (Load q) x act.Moved) (sym at)
    (subst (λ (h : PackedDevice). Goes e h v op.Take (Load (addr_place e)) x act.Moved) (sym is_new) (table_address_goes e v x is st))

pub access-addr-requires : goal.access-addr-requires
access-addr-requires g c =
    let e : PackedDevice = c.args.self.now in let p : ℕ = c.table.result + 2 * c.len.result in
    let at : p ≡ addr_place e = omega (arith, c.table.ensures, c.len.ensures.value) in
    c.requires.own.2.may op.Take (Load p)
    (subst (λ q. DeviceNext c.requires.own.0 op.Take (Load q)) (sym at)
    (address_at e c.requires.own.0 c.requires.now c.requires.own.1).0)

pub returns-clause-did : goal.returns-clause-did
returns-clause-did g c = λ v st own.
    let e : PackedDevice = c.args.self.now in let x : ℕ = c.access-addr.result in let s = c.loaded_table_address in let p : ℕ =
    c.table.result + 2 * c.len.result in
    let at : p ≡ addr_place e = omega (arith, c.table.ensures, c.len.ensures.value) in
    made g.P.Port.port c.args.port.now c.access-addr.new.self e s.new.self v op.Take (Load p) x (act_of s.result s.new.self.pieces.items)
    (subst (λ t. Goes e s.new.self v op.Take (Load p) x (act_of t s.new.self.pieces.items)) (sym s.ensures.moved)
    (goes e s.new.self v p x c.requires.now st at s.ensures.address)) c.access-addr.ensures
