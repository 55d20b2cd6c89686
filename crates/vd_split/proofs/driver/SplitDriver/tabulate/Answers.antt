use Rattle.std.proofs.Common.{◌<◌, ℕ, List, length, slice_index_or, ap, sym, ◌∙◌, subst}
use Rattle.vd_model.specs.declared.chain.Piece.{Piece}
use Rattle.vd_words.specs.declared.access.Access.TheVariants.{Store}
use Rattle.vd_words.specs.declared.access.Op.TheVariants as op
use Rattle.vd_ring.specs.declared.act.DriverAct.TheVariants as act
use Rattle.vd_split_ring.specs.SplitWords.{put}
use Rattle.vd_split.specs.declared.driver.SplitDriver.{SplitDriver}
use Rattle.vd_split.specs.laws.DriverSteps.{Goes, made}
use Rattle.vd_split.specs.laws.DriverDescribing.{table_room, table_goes}
use Rattle.vd_split.specs.Parts.{table_place, tabled, tabled_step}
use Rattle.vd_split.proofs.driver.SplitDriver.tabulate.Goals as goal

pub tabled_word-place-requires-clause-room : goal.tabled_word-place-requires-clause-room
tabled_word-place-requires-clause-room g c =
    let e : SplitDriver = c.args.self.now in
    let room = table_room e c.requires.own.0 c.args.at c.requires.now c.requires.own.1 in
    (room.2, subst (λ k. k < e.size) (sym c.place_at-head.ensures) room.1)

pub access-requires : goal.access-requires
access-requires g c =
    let e : SplitDriver = c.args.self.now in let w = c.tabled_word-place in let cs = c.as_slice-pieces.ensures.value in let h : ℕ =
    c.place_at-head.result in
    c.requires.own.2.may op.Offer (Store w.result.0 w.result.1)
    (table_goes e c.requires.own.0 c.args.at h 0 w.result.0 w.result.1 c.requires.now c.requires.own.1 c.place_at-head.ensures
    (w.ensures.place ∙ ap (λ (ps : List Piece). (slice_index_or (tabled (table_place e.size h) h ps) c.args.at (put 0 0)).place) cs)
    (w.ensures.word ∙ ap (λ (ps : List Piece). (slice_index_or (tabled (table_place e.size h) h ps) c.args.at (put 0 0)).word) cs)).next

pub returns : goal.returns
returns g c = λ v st own.
    let e : SplitDriver = c.args.self.now in let w = c.tabled_word-place in let cs = c.as_slice-pieces.ensures.value in let h : ℕ =
    c.place_at-head.result in
    let p : ℕ = w.result.0 in let x : ℕ = w.result.1 in let r : ℕ = c.access.result in
    let go = table_goes e v c.args.at h r p x c.requires.now st c.place_at-head.ensures
    (w.ensures.place ∙ ap (λ (ps : List Piece). (slice_index_or (tabled (table_place e.size h) h ps) c.args.at (put 0 0)).place) cs)
    (w.ensures.word ∙ ap (λ (ps : List Piece). (slice_index_or (tabled (table_place e.size h) h ps) c.args.at (put 0 0)).word) cs) in
    let is_step = c.after_tabled-self.ensures ∙ ap (λ (ps : List Piece). tabled_step c.args.at (length ps)) cs in
    made g.P.Port.port c.args.port.now c.access.new.self e (record e { doing = c.after_tabled-self.result }) v op.Offer
    (Store p x) r act.Moved
    (subst (λ t. Goes e (record e { doing = t }) v op.Offer (Store p x) r act.Moved) (sym is_step) go) c.access.ensures
