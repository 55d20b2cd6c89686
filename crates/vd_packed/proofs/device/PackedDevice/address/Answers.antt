use Rattle.std.proofs.Common.{◌≡◌, ℕ, ◌*◌, false, sym, ◌∙◌, subst}
use Rattle.vd_words.specs.declared.access.Access.TheVariants.{Load}
use Rattle.vd_words.specs.declared.access.Op.TheVariants as op
use Rattle.vd_words.specs.Model.{PortModel}
use Rattle.vd_words.specs.Own.{IsOwn}
use Rattle.vd_ring.specs.declared.act.DeviceAct.TheVariants as act
use Rattle.vd_ring.specs.declared.device.DeviceView.{DeviceView}
use Rattle.vd_packed_ring.specs.PackedDevice.{device_side, DeviceTells}
use Rattle.vd_packed.specs.declared.device.DeviceStep.TheVariants as step
use Rattle.vd_packed.specs.declared.device.PackedDevice.{PackedDevice}
use Rattle.vd_layout.specs.Telling.{act_of}
use Rattle.vd_packed.specs.DeviceEnd.{DeviceStands}
use Rattle.vd_packed.specs.laws.DeviceGiving.{Goes, made}
use Rattle.vd_packed.specs.laws.DeviceTabling.{pointer_goes}
use Rattle.vd_packed.specs.laws.DeviceTaken.{loaded_goes, loaded_chain, may_take}
use Rattle.vd_packed.specs.laws.DeviceTaking.{Loaded, loaded_of, address_next, few_pieces}
use Rattle.vd_packed.specs.Loaded.{names_its_table}
use Rattle.vd_packed.proofs.device.PackedDevice.address.Goals as goal

-- what the load tells, over the port
tells_at : {P : Type 0} (port : PortModel P) (p q : P) (e : PackedDevice) (v : DeviceView) (x : ℕ) → e.doing ≡ step.Address
    → DeviceStands e v → IsOwn port device_side p v → port.moves p op.Take (Load (2 * e.at.place)) x q
    → DeviceTells v op.Take (Load (2 * e.at.place)) x
tells_at port p q e v x is st own moved = own.told op.Take (Load (2 * e.at.place)) (address_next e v is st).0 x q moved

loaded_at : {P : Type 0} (port : PortModel P) (p q : P) (e : PackedDevice) (v : DeviceView) (x : ℕ) → e.doing ≡ step.Address
    → DeviceStands e v → names_its_table e ≡ false → IsOwn port device_side p v → port.moves p op.Take (Load (2 * e.at.place)) x q
    → Loaded e v x
loaded_at port p q e v x is st off own moved = loaded_of e v x is st off (tells_at port p q e v x is st own moved)

pub access-addr-requires : goal.access-addr-requires
access-addr-requires g c = let e : PackedDevice = c.args.self.now in
    c.requires.own.2.may op.Take (Load (2 * e.at.place)) (address_next e c.requires.own.0 c.requires.now c.requires.own.1).0

pub returns-then-names_its_table-clause-did : goal.returns-then-names_its_table-clause-did
returns-then-names_its_table-clause-did g c = λ v st own.
    let e : PackedDevice = c.args.self.now in let a = c.access-addr in let x : ℕ = a.result in let s = c.loaded_pointer in
    let tell = tells_at g.P.Port.port c.args.port.now a.new.self e v x c.requires.now st own a.ensures in
    let on = sym c.names_its_table.ensures ∙ c.if-names_its_table.true in
    made g.P.Port.port c.args.port.now a.new.self e s.new.self v op.Take (Load (2 * e.at.place)) x (act_of s.result s.new.self.pieces.items)
    (subst (λ t. Goes e s.new.self v op.Take (Load (2 * e.at.place)) x (act_of t s.new.self.pieces.items)) (sym s.ensures.moved)
    (subst (λ (h : PackedDevice). Goes e h v op.Take (Load (2 * e.at.place)) x act.Moved) (sym s.ensures.table)
    (pointer_goes e v x c.requires.now st on tell))) a.ensures

pub loaded_address-requires-clause-some : goal.loaded_address-requires-clause-some
loaded_address-requires-clause-some g c =
    let e : PackedDevice = c.args.self.now in let v : DeviceView = c.requires.own.0 in let a = c.access-addr in
    let off = sym c.names_its_table.ensures ∙ c.if-names_its_table.false in
    let l = loaded_at g.P.Port.port c.args.port.now a.new.self e v a.result c.requires.now c.requires.own.1 off c.requires.own.2
    a.ensures in
    let n = address_next e v c.requires.now c.requires.own.1 in
    (few_pieces e v a.result c.requires.own.1 l, n.1, n.2)

pub loaded_address-requires-clause-may : goal.loaded_address-requires-clause-may
loaded_address-requires-clause-may g c =
    let e : PackedDevice = c.args.self.now in let v : DeviceView = c.requires.own.0 in let a = c.access-addr in
    let off = sym c.names_its_table.ensures ∙ c.if-names_its_table.false in
    λ ends. may_take e v a.result (loaded_at g.P.Port.port c.args.port.now a.new.self e v a.result c.requires.now c.requires.own.1 off
    c.requires.own.2 a.ensures) c.requires.own.1 ends

pub returns-clause-did : goal.returns-clause-did
returns-clause-did g c = λ v st own.
    let e : PackedDevice = c.args.self.now in let a = c.access-addr in let x : ℕ = a.result in let s = c.loaded_address in
    let off = sym c.names_its_table.ensures ∙ c.if-names_its_table.false in
    let l = loaded_at g.P.Port.port c.args.port.now a.new.self e v x c.requires.now st off own a.ensures in
    made g.P.Port.port c.args.port.now a.new.self e s.new.self v op.Take (Load (2 * e.at.place)) x (act_of s.result s.new.self.pieces.items)
    (loaded_goes e s.new.self v x s.result l st c.requires.now s.ensures.more s.ensures.whole) a.ensures

pub returns-clause-chain : goal.returns-clause-chain
returns-clause-chain g c = λ k is.
    let e : PackedDevice = c.args.self.now in let v : DeviceView = c.requires.own.0 in let a = c.access-addr in let s = c.loaded_address in
    let off = sym c.names_its_table.ensures ∙ c.if-names_its_table.false in
    loaded_chain e s.new.self v a.result k s.result
    (loaded_at g.P.Port.port c.args.port.now a.new.self e v a.result c.requires.now c.requires.own.1 off c.requires.own.2 a.ensures)
    c.requires.own.1 s.ensures.more s.ensures.whole is
