use Rattle.std.proofs.Common.{◌≡◌, ◌+◌, ◌*◌, ◌-◌, ℕ, List, length, drop, slice_index, refl, ap, ◌∙◌, arith}
use Rattle.std.specs.Vec.{with_item}
use Rattle.vd_model.specs.declared.chain.Piece.{Piece}
use Rattle.vd_words.specs.declared.access.Access.TheVariants.{Store}
use Rattle.vd_words.specs.declared.access.Op.TheVariants as op
use Rattle.vd_ring.specs.declared.act.DriverAct.TheVariants as act
use Rattle.vd_ring.specs.declared.driver.DriverView.{DriverView}
use Rattle.vd_packed.specs.declared.driver.DriverStep.TheVariants as step
use Rattle.vd_packed.specs.declared.driver.PackedDriver.{PackedDriver}
use Rattle.vd_packed.specs.DriverEnd.{DriverStands}
use Rattle.vd_packed.specs.laws.DriverSteps.{Goes, made}
use Rattle.vd_packed.specs.laws.DriverPublishing.{publish_goes, publish_facts, position_small}
use Rattle.vd_packed.specs.Tabled.{needed, published_word}
use Rattle.vd_packed.proofs.driver.PackedDriver.publish.Goals as goal

-- the step with what the body computed: the chain's pieces, its id, the first second word and how many places it takes
goes : (e : PackedDriver) (v : DriverView) (r id x k : ℕ) (cs : List Piece) (e' : PackedDriver) → e.doing ≡ step.Publish
    → DriverStands e v → cs ≡ e.pieces.items → id ≡ slice_index e.free.items 0
    → x ≡ published_word e.features.indirect e.next.wrap id cs → k ≡ needed e.features.indirect (length cs)
    → e'.free.items ≡ drop 1 e.free.items → e'.free.capacity ≡ e.free.capacity
    → Goes e (record e {
      offered = e.offered + 1;
      next = e.at;
      next_position = e.next_position + k;
      space = e.space - k;
      free = e'.free;
      slots = with_item e.slots id (record { number = e.offered; count = k });
      doing = step.Check k;
    }) v op.Offer
    (Store (2 * e.next.place + 1) x) r (act.Offered e.offered)
goes e v r id x k cs e' is st same first word many left capacity =
    publish_goes e v r x id k e' (record { number = e.offered; count = k }) is st first
    (word ∙ ap (published_word e.features.indirect e.next.wrap id) same)
    (many ∙ ap (λ (ps : List Piece). needed e.features.indirect (length ps)) same) left capacity refl refl

pub next_id-id-requires : goal.next_id-id-requires
next_id-id-requires g c = (publish_facts c.args.self.now c.requires.own.0 c.requires.now c.requires.own.1).0

pub published_word-word-requires : goal.published_word-word-requires
published_word-word-requires g c =
    let facts = publish_facts c.args.self.now c.requires.own.0 c.requires.now c.requires.own.1 in
    let same = ap (λ (ps : List Piece). length ps) c.as_slice-pieces.ensures.value in
    (omega (arith, facts.2, same), omega (arith, facts.3, same), omega (arith, facts.1, c.next_id-id.ensures))

pub take_id-requires : goal.take_id-requires
take_id-requires g c = (publish_facts c.args.self.now c.requires.own.0 c.requires.now c.requires.own.1).0

pub index_mut-requires : goal.index_mut-requires
index_mut-requires g c =
    let e : PackedDriver = c.args.self.now in
    omega (arith, (publish_facts e c.requires.own.0 c.requires.now c.requires.own.1).5, c.next_id-id.ensures, e.slots.ok)

pub overflow_sub-self : goal.overflow_sub-self
overflow_sub-self g c =
    let e : PackedDriver = c.args.self.now in
    let many = c.needed-count.ensures
    ∙ ap (needed e.features.indirect) (ap (λ (ps : List Piece). length ps) c.as_slice-pieces.ensures.value) in
    omega (arith, (publish_facts e c.requires.own.0 c.requires.now c.requires.own.1).6, many)

pub overflow_add-self-3 : goal.overflow_add-self-3
overflow_add-self-3 g c =
    let e : PackedDriver = c.args.self.now in
    let many = c.needed-count.ensures
    ∙ ap (needed e.features.indirect) (ap (λ (ps : List Piece). length ps) c.as_slice-pieces.ensures.value) in
    omega (arith, position_small e c.requires.own.0 c.requires.now c.requires.own.1, many)

pub access-requires : goal.access-requires
access-requires g c =
    let e : PackedDriver = c.args.self.now in let x : ℕ = c.published_word-word.result in let v : DriverView = c.requires.own.0 in
    let cs : List Piece = c.as_slice-pieces.result.now in
    c.requires.own.2.may op.Offer (Store (2 * e.next.place + 1) x)
    (goes e v 0 c.next_id-id.result x (needed e.features.indirect (length cs)) cs
    (record e { free = Rattle.circular_buffer.specs.Buffer.buffer (drop 1 e.free.items) e.free.capacity }) c.requires.now
    c.requires.own.1 c.as_slice-pieces.ensures.value c.next_id-id.ensures
    c.published_word-word.ensures refl refl refl).next

pub returns : goal.returns
returns g c = λ v st own.
    let e : PackedDriver = c.args.self.now in let x : ℕ = c.published_word-word.result in let cs : List Piece =
    c.as_slice-pieces.result.now in let k : ℕ = c.needed-count.result in
    let go = goes e v c.access.result c.next_id-id.result x k cs (record e { free = c.take_id.new.free }) c.requires.now st
    c.as_slice-pieces.ensures.value c.next_id-id.ensures c.published_word-word.ensures c.needed-count.ensures c.take_id.ensures.left
    c.take_id.ensures.capacity in
    made g.P.Port.port c.args.port.now c.access.new.self e
    (record e {
      offered = e.offered + 1;
      next = e.at;
      next_position = e.next_position + k;
      space = e.space - k;
      free =
          c.take_id.new.free;
      slots = with_item e.slots c.next_id-id.result (record { number = e.offered; count = k });
      doing =
          step.Check k;
    }) v op.Offer (Store (2 * e.next.place + 1) x) c.access.result (act.Offered e.offered) go c.access.ensures
