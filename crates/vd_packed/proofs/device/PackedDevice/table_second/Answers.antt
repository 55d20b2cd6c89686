use Rattle.std.proofs.Common.{◌≡◌, ℕ, ◌+◌, ◌*◌, sym, subst, arith}
use Rattle.vd_words.specs.declared.access.Access.TheVariants.{Load}
use Rattle.vd_words.specs.declared.access.Op.TheVariants as op
use Rattle.vd_words.specs.Model.{PortModel}
use Rattle.vd_words.specs.Own.{IsOwn}
use Rattle.vd_ring.specs.declared.device.DeviceView.{DeviceView}
use Rattle.vd_packed_ring.specs.PackedDevice.{device_side, DeviceNext}
use Rattle.vd_packed.specs.declared.device.DeviceStep.TheVariants as step
use Rattle.vd_packed.specs.declared.device.PackedDevice.{PackedDevice}
use Rattle.vd_layout.specs.Telling.{act_of}
use Rattle.vd_packed.specs.DeviceEnd.{DeviceStands}
use Rattle.vd_packed.specs.laws.DeviceGiving.{Goes, made}
use Rattle.vd_packed.specs.laws.DeviceTabling.{addr_place, second_at, Tabled, tabled_of, table_second_goes, tabled_chain, may_take_tabled}
use Rattle.vd_packed.proofs.device.PackedDevice.table_second.Goals as goal

-- the access at the place that the body computed
next_at : (e : PackedDevice) (v : DeviceView) (a p : ℕ) → e.doing ≡ step.TableSecond a → DeviceStands e v → p ≡ addr_place e + 1
    → DeviceNext v op.Take (Load p)
next_at e v a p is st at = subst (λ q. DeviceNext v op.Take (Load q)) (sym at) (second_at e v a is st).0

-- what the load tells, over the port
tabled_at : {P : Type 0} (port : PortModel P) (p q : P) (e : PackedDevice) (v : DeviceView) (a i x : ℕ) → e.doing ≡ step.TableSecond a
    → DeviceStands e v → IsOwn port device_side p v → i ≡ addr_place e + 1 → port.moves p op.Take (Load i) x q → Tabled e v a x
tabled_at port p q e v a i x is st own at moved =
    tabled_of e v a x is st (own.told op.Take (Load (addr_place e + 1)) (second_at e v a is st).0 x q
    (subst (λ j. port.moves p op.Take (Load j) x q) at moved))

pub access-word-requires : goal.access-word-requires
access-word-requires g c =
    let e : PackedDevice = c.args.self.now in let p : ℕ = c.table.result + 2 * c.len.result + 1 in
    let at : p ≡ addr_place e + 1 = omega (arith, c.table.ensures, c.len.ensures.value) in
    c.requires.own.2.may op.Take (Load p) (next_at e c.requires.own.0 c.args.addr p c.requires.now c.requires.own.1 at)

pub loaded_table_second-requires-clause-may : goal.loaded_table_second-requires-clause-may
loaded_table_second-requires-clause-may g c = λ last.
    let e : PackedDevice = c.args.self.now in let v : DeviceView = c.requires.own.0 in let a = c.access-word in let p : ℕ =
    c.table.result + 2 * c.len.result + 1 in
    let at : p ≡ addr_place e + 1 = omega (arith, c.table.ensures, c.len.ensures.value) in
    may_take_tabled e v c.args.addr a.result
    (tabled_at g.P.Port.port c.args.port.now a.new.self e v c.args.addr p a.result c.requires.now c.requires.own.1 c.requires.own.2
    at a.ensures) c.requires.own.1

pub returns-clause-did : goal.returns-clause-did
returns-clause-did g c = λ v st own.
    let e : PackedDevice = c.args.self.now in let a = c.access-word in let x : ℕ = a.result in let s = c.loaded_table_second in
    let p : ℕ = c.table.result + 2 * c.len.result + 1 in
    let at : p ≡ addr_place e + 1 = omega (arith, c.table.ensures, c.len.ensures.value) in
    let l = tabled_at g.P.Port.port c.args.port.now a.new.self e v c.args.addr p x c.requires.now st own at a.ensures in
    made g.P.Port.port c.args.port.now a.new.self e s.new.self v op.Take (Load p) x (act_of s.result s.new.self.pieces.items)
    (subst (λ q. Goes e s.new.self v op.Take (Load q) x (act_of s.result s.new.self.pieces.items)) (sym at)
    (table_second_goes e s.new.self v c.args.addr x s.result l st c.requires.now s.ensures.more s.ensures.whole)) a.ensures

pub returns-clause-chain : goal.returns-clause-chain
returns-clause-chain g c = λ k is.
    let e : PackedDevice = c.args.self.now in let v : DeviceView = c.requires.own.0 in let a = c.access-word in let s =
    c.loaded_table_second in let p : ℕ = c.table.result + 2 * c.len.result + 1 in
    let at : p ≡ addr_place e + 1 = omega (arith, c.table.ensures, c.len.ensures.value) in
    let l = tabled_at g.P.Port.port c.args.port.now a.new.self e v c.args.addr p a.result c.requires.now c.requires.own.1
    c.requires.own.2 at a.ensures in
    tabled_chain e s.new.self v c.args.addr a.result k s.result l c.requires.own.1 s.ensures.more s.ensures.whole is
