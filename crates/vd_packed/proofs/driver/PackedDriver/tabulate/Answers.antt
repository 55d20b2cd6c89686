use Rattle.std.proofs.Common.{◌≡◌, ℕ, List, length, slice_index, slice_index_or, ap, sym, ◌∙◌, subst, arith}
use Rattle.vd_model.specs.declared.chain.Piece.{Piece}
use Rattle.vd_words.specs.declared.access.Access.TheVariants.{Store}
use Rattle.vd_words.specs.declared.access.Op.TheVariants as op
use Rattle.vd_ring.specs.declared.act.DriverAct.TheVariants as act
use Rattle.vd_ring.specs.declared.driver.DriverView.{DriverView}
use Rattle.vd_packed_ring.specs.PackedWords.{put}
use Rattle.vd_packed.specs.declared.driver.DriverStep.TheVariants as step
use Rattle.vd_packed.specs.declared.driver.PackedDriver.{PackedDriver}
use Rattle.vd_packed.specs.DriverEnd.{DriverStands}
use Rattle.vd_packed.specs.laws.DriverSteps.{Goes, made}
use Rattle.vd_packed.specs.Tabled.{table_place, tabled, tabled_step}
use Rattle.vd_packed.specs.laws.TabledSteps.{table_goes_at, table_facts}
use Rattle.vd_packed.proofs.driver.PackedDriver.tabulate.Goals as goal

-- the step with what the body computed: the chain's pieces, its id, and the word of the store
goes : (e : PackedDriver) (v : DriverView) (j r id p x : ℕ) (cs : List Piece) → e.doing ≡ step.Table j → DriverStands e v
    → cs ≡ e.pieces.items → id ≡ slice_index e.free.items 0
    → p ≡ (slice_index_or (tabled (table_place e.size id) e.next.place cs) j (put 0 0)).place
    → x ≡ (slice_index_or (tabled (table_place e.size id) e.next.place cs) j (put 0 0)).word
    → Goes e (record e { doing = tabled_step j (length cs) }) v op.Offer (Store p x) r act.Moved
goes e v j r id p x cs is st same first place word =
    subst (λ (ps : List Piece). Goes e (record e { doing = tabled_step j (length ps) }) v op.Offer (Store p x) r act.Moved) (sym same)
    (table_goes_at e v j r id p x is st first
    (place ∙ ap (λ (ps : List Piece). (slice_index_or (tabled (table_place e.size id) e.next.place ps) j (put 0 0)).place) same)
    (word ∙ ap (λ (ps : List Piece). (slice_index_or (tabled (table_place e.size id) e.next.place ps) j (put 0 0)).word) same))

pub next_id-id-requires : goal.next_id-id-requires
next_id-id-requires g c = (table_facts c.args.self.now c.requires.own.0 c.args.at c.requires.now c.requires.own.1).0

pub tabled_word-place-requires-clause-room : goal.tabled_word-place-requires-clause-room
tabled_word-place-requires-clause-room g c =
    let facts = table_facts c.args.self.now c.requires.own.0 c.args.at c.requires.now c.requires.own.1 in
    (facts.5, omega (arith, facts.1, c.next_id-id.ensures), facts.4)

pub access-requires : goal.access-requires
access-requires g c =
    let w = c.tabled_word-place in
    c.requires.own.2.may op.Offer (Store w.result.0 w.result.1)
    (goes c.args.self.now c.requires.own.0 c.args.at 0 c.next_id-id.result w.result.0 w.result.1 c.as_slice-pieces.result.now
    c.requires.now c.requires.own.1 c.as_slice-pieces.ensures.value c.next_id-id.ensures w.ensures.place w.ensures.word).next

pub returns : goal.returns
returns g c = λ v st own.
    let e : PackedDriver = c.args.self.now in let w = c.tabled_word-place in let p : ℕ = w.result.0 in let x : ℕ = w.result.1 in
    let r : ℕ = c.access.result in
    let go = goes e v c.args.at r c.next_id-id.result p x c.as_slice-pieces.result.now c.requires.now st c.as_slice-pieces.ensures.value
    c.next_id-id.ensures w.ensures.place w.ensures.word in
    made g.P.Port.port c.args.port.now c.access.new.self e (record e { doing = c.after_tabled-self.result }) v op.Offer
    (Store p x) r act.Moved
    (subst (λ t. Goes e (record e { doing = t }) v op.Offer (Store p x) r act.Moved) (sym c.after_tabled-self.ensures) go) c.access.ensures
