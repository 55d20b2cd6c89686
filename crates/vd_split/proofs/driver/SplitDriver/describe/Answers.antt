use Rattle.std.proofs.Common.{ℕ, List, length, take, slice_index_or, ap, sym, ◌∙◌, subst}
use Rattle.vd_model.specs.declared.chain.Piece.{Piece}
use Rattle.vd_words.specs.declared.access.Access.TheVariants.{Store}
use Rattle.vd_words.specs.declared.access.Op.TheVariants as op
use Rattle.vd_ring.specs.declared.act.DriverAct.TheVariants as act
use Rattle.vd_split_ring.specs.SplitWords.{described, put}
use Rattle.vd_split.specs.declared.driver.SplitDriver.{SplitDriver}
use Rattle.vd_split.specs.laws.DriverSteps.{Goes, made, small_places}
use Rattle.vd_split.specs.laws.DriverDescribing.{describe_goes}
use Rattle.vd_split.specs.Parts.{described_step}
use Rattle.vd_split.proofs.driver.SplitDriver.describe.Goals as goal

pub descriptor_word-place-requires-clause-small : goal.descriptor_word-place-requires-clause-small
descriptor_word-place-requires-clause-small g c =
    let e : SplitDriver = c.args.self.now in let st = c.requires.own.1 in
    small_places e.free.items e.free.capacity e.slots.items c.requires.own.0.frame c.requires.own.0.done st.holds st.made.lawful

pub access-requires : goal.access-requires
access-requires g c =
    let e : SplitDriver = c.args.self.now in let w = c.descriptor_word-place in let cs = c.as_slice-pieces.ensures.value in
    c.requires.own.2.may op.Offer (Store w.result.0 w.result.1)
    (describe_goes e c.requires.own.0 c.args.at 0 w.result.0 w.result.1 c.requires.now c.requires.own.1
    (w.ensures.place ∙ ap (λ (ps : List Piece).
    (slice_index_or (described 0 (take (length ps) e.free.items) ps) c.args.at (put 0 0)).place) cs)
    (w.ensures.word ∙ ap (λ (ps : List Piece).
    (slice_index_or (described 0 (take (length ps) e.free.items) ps) c.args.at (put 0 0)).word) cs)).next

pub returns : goal.returns
returns g c = λ v st own.
    let e : SplitDriver = c.args.self.now in let w = c.descriptor_word-place in let cs = c.as_slice-pieces.ensures.value in
    let p : ℕ = w.result.0 in let x : ℕ = w.result.1 in let r : ℕ = c.access.result in
    let go = describe_goes e v c.args.at r p x c.requires.now st
    (w.ensures.place ∙ ap (λ (ps : List Piece).
    (slice_index_or (described 0 (take (length ps) e.free.items) ps) c.args.at (put 0 0)).place) cs)
    (w.ensures.word ∙ ap (λ (ps : List Piece).
    (slice_index_or (described 0 (take (length ps) e.free.items) ps) c.args.at (put 0 0)).word) cs) in
    let is_step = c.after_word-self.ensures ∙ ap (λ (ps : List Piece). described_step c.args.at (length ps)) cs in
    made g.P.Port.port c.args.port.now c.access.new.self e (record e { doing = c.after_word-self.result }) v op.Offer
    (Store p x) r act.Moved
    (subst (λ t. Goes e (record e { doing = t }) v op.Offer (Store p x) r act.Moved) (sym is_step) go) c.access.ensures
