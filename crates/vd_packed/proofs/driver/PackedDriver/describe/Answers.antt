use Rattle.std.proofs.Common.{◌≡◌, ◌+◌, ◌/◌, ℕ, List, length, slice_index, slice_index_or, ap, sym, ◌∙◌, subst, arith}
use Rattle.vd_model.specs.declared.chain.Piece.{Piece}
use Rattle.vd_words.specs.declared.access.Access.TheVariants.{Store}
use Rattle.vd_words.specs.declared.access.Op.TheVariants as op
use Rattle.vd_ring.specs.declared.act.DriverAct.TheVariants as act
use Rattle.vd_ring.specs.declared.driver.DriverView.{DriverView}
use Rattle.vd_packed_ring.specs.PackedWords.{put}
use Rattle.vd_packed_ring.specs.PackedChains.{direct, staged}
use Rattle.vd_packed.specs.declared.driver.DriverStep.TheVariants as step
use Rattle.vd_packed.specs.declared.driver.PackedDriver.{PackedDriver}
use Rattle.vd_packed.specs.DriverEnd.{DriverStands}
use Rattle.vd_packed.specs.laws.DriverSteps.{Goes, made}
use Rattle.vd_packed.specs.laws.DriverDescribing.{describe_goes_at, describe_facts}
use Rattle.vd_packed.specs.Seconds.{described_step, ring_position_after}
use Rattle.vd_packed.specs.RingPositions.{IsAt}
use Rattle.vd_packed.proofs.driver.PackedDriver.describe.Goals as goal

-- the step with what the body computed: the chain's pieces, its id, and the word of the store
goes : (e : PackedDriver) (v : DriverView) (j r id p x : ℕ) (cs : List Piece) → e.doing ≡ step.Describe j → DriverStands e v
    → cs ≡ e.pieces.items → id ≡ slice_index e.free.items 0
    → ((n q : ℕ) → IsAt e.at n (q + (j + 1) / 2) → p ≡ (slice_index_or (staged n q (direct id cs)) j (put 0 0)).place)
    → ((n q : ℕ) → IsAt e.at n (q + (j + 1) / 2) → x ≡ (slice_index_or (staged n q (direct id cs)) j (put 0 0)).word)
    → Goes e (record e { at = ring_position_after e.at j e.size; doing = described_step j (length cs) }) v op.Offer (Store p x) r act.Moved
goes e v j r id p x cs is st same first place word =
    subst (λ (ps : List Piece). Goes e (record e { at = ring_position_after e.at j e.size; doing = described_step j (length ps) }) v
    op.Offer (Store p x) r act.Moved) (sym same)
    (describe_goes_at e v j r id p x is st first
    (λ n q at. place n q at ∙ ap (λ (ps : List Piece). (slice_index_or (staged n q (direct id ps)) j (put 0 0)).place) same)
    (λ n q at. word n q at ∙ ap (λ (ps : List Piece). (slice_index_or (staged n q (direct id ps)) j (put 0 0)).word) same))

pub next_id-id-requires : goal.next_id-id-requires
next_id-id-requires g c = (describe_facts c.args.self.now c.requires.own.0 c.args.at c.requires.now c.requires.own.1).0

pub descriptor_word-place-requires : goal.descriptor_word-place-requires
descriptor_word-place-requires g c =
    let facts = describe_facts c.args.self.now c.requires.own.0 c.args.at c.requires.now c.requires.own.1 in
    let same = ap (λ (ps : List Piece). length ps) c.as_slice-pieces.ensures.value in (
      omega (arith, facts.2, same),
      omega (arith, facts.3, same),
      omega (arith, facts.1, c.next_id-id.ensures),
      omega (arith, facts.4, facts.5),
    )

pub access-requires : goal.access-requires
access-requires g c =
    let w = c.descriptor_word-place in
    c.requires.own.2.may op.Offer (Store w.result.0 w.result.1)
    (goes c.args.self.now c.requires.own.0 c.args.at 0 c.next_id-id.result w.result.0 w.result.1 c.as_slice-pieces.result.now
    c.requires.now c.requires.own.1 c.as_slice-pieces.ensures.value c.next_id-id.ensures w.ensures.place w.ensures.word).next

pub returns : goal.returns
returns g c = λ v st own.
    let e : PackedDriver = c.args.self.now in let w = c.descriptor_word-place in let p : ℕ = w.result.0 in let x : ℕ = w.result.1 in
    let r : ℕ = c.access.result in
    let go = goes e v c.args.at r c.next_id-id.result p x c.as_slice-pieces.result.now c.requires.now st c.as_slice-pieces.ensures.value
    c.next_id-id.ensures w.ensures.place w.ensures.word in
    made g.P.Port.port c.args.port.now c.access.new.self e
    (record e { at = c.ring_position_after-ring_position.result; doing = c.after_word-self.result }) v op.Offer (Store p x) r act.Moved
    (subst (λ s. Goes e (record e { at = s; doing = c.after_word-self.result }) v op.Offer (Store p x) r act.Moved)
    (sym c.ring_position_after-ring_position.ensures)
    (subst (λ t. Goes e (record e { at = ring_position_after e.at c.args.at e.size; doing = t }) v op.Offer (Store p x) r act.Moved)
    (sym c.after_word-self.ensures) go)) c.access.ensures
