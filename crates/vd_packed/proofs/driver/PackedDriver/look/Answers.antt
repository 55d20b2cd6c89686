use Rattle.std.proofs.Common.{◌≡◌, ◌+◌, ◌*◌, ◌<◌, ◌≤◌, ◌++◌, ◌∷◌, [], ℕ, slice_index_or, Bool, true, refl, ap, sym, ◌∙◌, subst, arith}
use Rattle.vd_words.specs.declared.access.Access.TheVariants.{Load}
use Rattle.vd_words.specs.declared.access.Op.TheVariants as op
use Rattle.vd_words.specs.Model.{PortModel}
use Rattle.vd_words.specs.Own.{IsOwn}
use Rattle.vd_ring.specs.declared.act.DriverAct.TheVariants as act
use Rattle.vd_ring.specs.declared.driver.DriverView.{DriverView}
use Rattle.vd_packed_ring.specs.PackedWords.{id_of, len_of}
use Rattle.vd_packed_ring.specs.PackedDriver.{DriverTells, driver_side}
use Rattle.vd_packed_ring.specs.PackedPositions.{collect_position}
use Rattle.vd_packed.specs.declared.driver.DriverStep.TheVariants as step
use Rattle.vd_packed.specs.declared.driver.PackedDriver.{PackedDriver}
use Rattle.vd_packed.specs.declared.driver.Slot.{Slot}
use Rattle.vd_packed.specs.declared.ring_position.RingPosition.{RingPosition}
use Rattle.vd_packed.specs.DriverEnd.{DriverStands}
use Rattle.vd_packed.specs.laws.DriverSteps.{Goes, made, size_facts}
use Rattle.vd_packed.specs.laws.DriverCollecting.{used_small, Found, found, look_next, look_names, collect_goes}
use Rattle.vd_packed.specs.laws.Places.{ring_position_below}
use Rattle.vd_packed.specs.Seconds.{shows_used}
use Rattle.vd_packed.specs.RingPositions.{forward}
use Rattle.vd_packed.proofs.driver.PackedDriver.look.Goals as goal

-- the slot that the id names
hit : (e : PackedDriver) (v : DriverView) (w id : ℕ) → e.doing ≡ step.Look → DriverStands e v → shows_used e.used.wrap w ≡ true
    → id ≡ id_of w → DriverTells v op.Collect (Load (2 * e.used.place + 1)) w
    → Found e.free.items e.free.capacity e.slots.items e.space v.frame v.done id
hit e v w id is st on same told = subst (λ k. Found e.free.items e.free.capacity e.slots.items e.space v.frame v.done k) (sym same)
    (found e v (id_of w) st (look_names e v w is st on told))

-- what the look tells of the slot, over the port
hits : {P : Type 0} (port : PortModel P) (p q : P) (e : PackedDriver) (v : DriverView) (w id : ℕ) (b : Bool) → e.doing ≡ step.Look
    → DriverStands e v → IsOwn port driver_side p v → port.moves p op.Collect (Load (2 * e.used.place + 1)) w q
    → b ≡ shows_used e.used.wrap w → b ≡ true → id ≡ id_of w
    → Found e.free.items e.free.capacity e.slots.items e.space v.frame v.done id
hits port p q e v w id b is st own moved shows on same =
    hit e v w id is st (sym shows ∙ on) same (own.told op.Collect (Load (2 * e.used.place + 1)) (look_next e v is st).1 w q moved)

pub index-slot-requires : goal.index-slot-requires
index-slot-requires g c =
    let e : PackedDriver = c.args.self.now in let a = c.access-word in
    let found = hits g.P.Port.port c.args.port.now a.new.self e c.requires.own.0 a.result c.lane16-head.result c.shows_used.result
    c.requires.now c.requires.own.1 c.requires.own.2 a.ensures c.shows_used.ensures c.if-not-shows_used.false c.lane16-head.ensures in
    omega (arith, found.inside, e.slots.ok)

-- the slot's count leaves room
bounded : (e : PackedDriver) (v : DriverView) (id : ℕ) (s : Slot) → DriverStands e v
    → Found e.free.items e.free.capacity e.slots.items e.space v.frame v.done id → s ≡ slice_index_or e.slots.items id s
    → (e.space + s.count ≤ e.size) × (e.size ≤ 32768) × (e.used.place < e.size)
bounded e v id s st found is =
    let count = ap (λ (t : Slot). t.count) is ∙ (found.kept s).1 in
    let small = size_facts e v st in (
      omega (arith, found.few, count, small.2),
      small.1,
      omega (
        arith,
        ring_position_below e.used v.frame.size (collect_position v.frame v.done)
            (omega (arith, small.0, small.2)) st.counts.used_at,
        small.2,
      ),
    )

pub overflow_add-self-3 : goal.overflow_add-self-3
overflow_add-self-3 g c =
    let e : PackedDriver = c.args.self.now in let a = c.access-word in
    let found = hits g.P.Port.port c.args.port.now a.new.self e c.requires.own.0 a.result c.lane16-head.result c.shows_used.result
    c.requires.now c.requires.own.1 c.requires.own.2 a.ensures c.shows_used.ensures c.if-not-shows_used.false c.lane16-head.ensures in
    let b = bounded e c.requires.own.0 c.lane16-head.result c.index-slot.result.now c.requires.own.1 found c.index-slot.ensures in
    omega (arith, b.0, b.1)

-- and its position small
positioned : (e : PackedDriver) (v : DriverView) (id : ℕ) (s : Slot) → DriverStands e v
    → Found e.free.items e.free.capacity e.slots.items e.space v.frame v.done id → s ≡ slice_index_or e.slots.items id s
    → e.used_position + s.count < 1000000000000
positioned e v id s st found is =
    omega (arith, used_small e v found.number st found.is_open, ap (λ (t : Slot). t.count) is ∙ (found.kept s).1)

pub overflow_add-self-4 : goal.overflow_add-self-4
overflow_add-self-4 g c =
    let e : PackedDriver = c.args.self.now in let a = c.access-word in
    let found = hits g.P.Port.port c.args.port.now a.new.self e c.requires.own.0 a.result c.lane16-head.result c.shows_used.result
    c.requires.now c.requires.own.1 c.requires.own.2 a.ensures c.shows_used.ensures c.if-not-shows_used.false c.lane16-head.ensures in
    omega (arith, positioned e c.requires.own.0 c.lane16-head.result c.index-slot.result.now c.requires.own.1 found c.index-slot.ensures)

pub forward-ring_position-requires : goal.forward-ring_position-requires
forward-ring_position-requires g c =
    let e : PackedDriver = c.args.self.now in let a = c.access-word in
    let found = hits g.P.Port.port c.args.port.now a.new.self e c.requires.own.0 a.result c.lane16-head.result c.shows_used.result
    c.requires.now c.requires.own.1 c.requires.own.2 a.ensures c.shows_used.ensures c.if-not-shows_used.false c.lane16-head.ensures in
    let b = bounded e c.requires.own.0 c.lane16-head.result c.index-slot.result.now c.requires.own.1 found c.index-slot.ensures in
    (b.2, omega (arith, b.0), b.1)

pub returns : goal.returns
returns g c = λ v st own.
    let e : PackedDriver = c.args.self.now in let a = c.access-word in let w : ℕ = a.result in let id : ℕ = c.lane16-head.result in
    let s : Slot = c.index-slot.result.now in
    let on = sym c.shows_used.ensures ∙ c.if-not-shows_used.false in
    let found = hits g.P.Port.port c.args.port.now a.new.self e v w (id_of w) c.shows_used.result c.requires.now st own a.ensures
    c.shows_used.ensures c.if-not-shows_used.false refl in
    let slot : s ≡ slice_index_or e.slots.items (id_of w) s =
    c.index-slot.ensures ∙ ap (λ k. slice_index_or e.slots.items k s) c.lane16-head.ensures in
    let go = collect_goes e v w s.number s.count (record e { free = c.give_back.new.free }) c.requires.now st on found
    (ap (λ (t : Slot). t.number) slot ∙ (found.kept s).0) (ap (λ (t : Slot). t.count) slot ∙ (found.kept s).1)
    (c.give_back.ensures.items ∙ ap (λ k. e.free.items ++ k ∷ []) c.lane16-head.ensures) c.give_back.ensures.capacity in
    made g.P.Port.port c.args.port.now a.new.self e (record e {
      collected = e.collected + 1;
      used = c.forward-ring_position.result;
      used_position = e.used_position + s.count;
      space = e.space + s.count;
      free = c.give_back.new.free;
      doing = step.Idle;
    }) v
    op.Collect (Load (2 * e.used.place + 1)) w (act.Collected s.number c.lane32-len.result id)
    (subst (λ (u : RingPosition). Goes e (record e {
      collected = e.collected + 1;
      used = u;
      used_position = e.used_position + s.count;
      space = e.space + s.count;
      free = c.give_back.new.free;
      doing = step.Idle;
    }) v op.Collect (Load (2 * e.used.place + 1)) w
    (act.Collected s.number c.lane32-len.result id)) (sym c.forward-ring_position.ensures)
    (subst (λ k. Goes e (record e {
      collected = e.collected + 1;
      used = forward e.used s.count e.size;
      used_position =
          e.used_position + s.count;
      space = e.space + s.count;
      free = c.give_back.new.free;
      doing = step.Idle;
    }) v op.Collect
    (Load (2 * e.used.place + 1)) w (act.Collected s.number k id)) (sym c.lane32-len.ensures)
    (subst (λ k. Goes e (record e {
      collected = e.collected + 1;
      used = forward e.used s.count e.size;
      used_position =
          e.used_position + s.count;
      space = e.space + s.count;
      free = c.give_back.new.free;
      doing = step.Idle;
    }) v op.Collect
    (Load (2 * e.used.place + 1)) w (act.Collected s.number (len_of w) k)) (sym c.lane16-head.ensures) go)))
    a.ensures
