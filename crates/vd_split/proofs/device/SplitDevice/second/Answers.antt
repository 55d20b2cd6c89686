use Rattle.std.proofs.Common.{ℕ, Bool, false, ◌≡◌, ◌&&◌, ◌+◌, ◌*◌, ◌++◌, ◌∷◌, [], not, Some, sym, ap, ◌∙◌, subst}
use Rattle.std.specs.Vec.{with_item}
use Rattle.vd_model.specs.declared.chain.Piece.{Piece}
use Rattle.vd_model.specs.Chains.{IsChain}
use Rattle.vd_words.specs.declared.access.Access.TheVariants.{Load}
use Rattle.vd_words.specs.declared.access.Op.TheVariants as op
use Rattle.vd_ring.specs.declared.act.DeviceAct.TheVariants as act
use Rattle.vd_ring.specs.declared.device.DeviceView.{DeviceView}
use Rattle.vd_split.specs.declared.device.SplitDevice.{SplitDevice}
use Rattle.vd_split.specs.declared.device.DeviceStep.TheVariants as step
use Rattle.vd_split.specs.laws.DeviceSteps.{Goes, made}
use Rattle.vd_split.specs.laws.DeviceLoaded.{direct, loaded, few_pieces, whole_chain}
use Rattle.vd_split.specs.laws.DeviceSeconds.{second_table, second_next, second_more, second_last}
use Rattle.vd_split_ring.specs.SplitWords.{names_table}
use Rattle.vd_model.specs.declared.features.Features.{Features}
use Rattle.vd_split.specs.DeviceEnd.{DeviceStands}
use Rattle.vd_split.specs.Parts.{next_place}
use Rattle.vd_split.proofs.device.SplitDevice.second.Goals as goal

-- the test by the end's features is that by the frame's
tests : (e : SplitDevice) (v : DeviceView) (x : ℕ) (b : Bool) → DeviceStands e v → b ≡ (e.features.indirect && names_table x)
    → b ≡ (v.frame.features.indirect && names_table x)
tests e v x b st is = is ∙ ap (λ (y : Features). y.indirect && names_table x) st.made.featured

bare : (e : SplitDevice) (v : DeviceView) (x : ℕ) (b : Bool) → DeviceStands e v → b ≡ (e.features.indirect && names_table x) → b ≡ false
    → v.frame.features.indirect && names_table x ≡ false
bare e v x b st is off = sym (tests e v x b st is) ∙ off

pub returns-then-has_table-clause-did : goal.returns-then-has_table-clause-did
returns-then-has_table-clause-did g c = λ v st own.
    let e : SplitDevice = c.args.self.now in let x : ℕ = c.access-second.result in let r : ℕ = c.args.word in let h : ℕ = c.args.head in
    let p : ℕ = c.args.place in
    let next = second_next e v r h p c.requires.now st in
    let l = loaded e v r h p x c.requires.now st
    (own.told op.Take (Load (2 * p + 1)) next x c.access-second.new.self c.access-second.ensures) in
    let go = second_table e v r h p x c.table_pieces.result l st next (sym (tests e v x c.has_table.result st c.has_table.ensures)
    ∙ c.if-has_table.true) c.table_pieces.ensures c.requires.now in
    made g.P.Port.port c.args.port.now c.access-second.new.self e (record e { doing = step.TableAddress r h c.table_pieces.result }) v
    op.Take (Load (2 * p + 1)) x act.Moved go c.access-second.ensures

pub access-second-requires : goal.access-second-requires
access-second-requires g c = c.requires.own.2.may op.Take (Load (2 * c.args.place + 1))
    (second_next c.args.self.now c.requires.own.0 c.args.word c.args.head c.args.place c.requires.now c.requires.own.1)

pub push-requires : goal.push-requires
push-requires g c =
    let e : SplitDevice = c.args.self.now in let v : DeviceView = c.requires.own.0 in let x : ℕ = c.access-second.result in
    let next = second_next e v c.args.word c.args.head c.args.place c.requires.now c.requires.own.1 in
    let l = loaded e v c.args.word c.args.head c.args.place x c.requires.now c.requires.own.1
    (c.requires.own.2.told op.Take (Load (2 * c.args.place + 1)) next x c.access-second.new.self c.access-second.ensures) in
    few_pieces e v c.args.word c.args.head c.args.place x l
    (direct e v c.args.word c.args.head c.args.place x l c.requires.own.1
    (bare e v x c.has_table.result c.requires.own.1 c.has_table.ensures c.if-has_table.false))

pub returns-then-has_next-clause-did : goal.returns-then-has_next-clause-did
returns-then-has_next-clause-did g c = λ v st own.
    let e : SplitDevice = c.args.self.now in let x : ℕ = c.access-second.result in let r : ℕ = c.args.word in let h : ℕ = c.args.head in
    let p : ℕ = c.args.place in
    let next = second_next e v r h p c.requires.now st in
    let l = loaded e v r h p x c.requires.now st
    (own.told op.Take (Load (2 * p + 1)) next x c.access-second.new.self c.access-second.ensures) in
    let go = second_more e (record e { pieces = c.push.new.self }) v r h p x l
    (direct e v r h p x l st (bare e v x c.has_table.result st c.has_table.ensures c.if-has_table.false)) st next
    (sym c.has_next.ensures ∙ c.if-has_next.true)
    (c.push.ensures ∙ ap (λ (q : Piece). e.pieces.items ++ q ∷ []) c.piece_from.ensures) c.requires.now in
    made g.P.Port.port c.args.port.now c.access-second.new.self e
    (record e { pieces = c.push.new.self; doing = step.Address r h c.following.result }) v op.Take (Load (2 * p + 1)) x act.Moved
    (subst (λ k. Goes e (record e { pieces = c.push.new.self; doing = step.Address r h k }) v op.Take (Load (2 * p + 1)) x act.Moved)
    (sym c.following.ensures) go)
    c.access-second.ensures

pub returns-clause-did : goal.returns-clause-did
returns-clause-did g c = λ v st own.
    let e : SplitDevice = c.args.self.now in let x : ℕ = c.access-second.result in let r : ℕ = c.args.word in let h : ℕ = c.args.head in
    let p : ℕ = c.args.place in
    let next = second_next e v r h p c.requires.now st in
    let l = loaded e v r h p x c.requires.now st
    (own.told op.Take (Load (2 * p + 1)) next x c.access-second.new.self c.access-second.ensures) in
    let same = c.push.ensures ∙ ap (λ (q : Piece). e.pieces.items ++ q ∷ []) c.piece_from.ensures in
    let e2 : SplitDevice = record e { guesses = c.remember.new.guesses; pieces = c.push.new.self } in
    let go = second_last e e2 v r h p x c.push.new.self.items l
    (direct e v r h p x l st (bare e v x c.has_table.result st c.has_table.ensures c.if-has_table.false)) st next
    (sym c.has_next.ensures ∙ c.if-has_next.false) c.requires.now same c.remember.ensures in
    made g.P.Port.port c.args.port.now c.access-second.new.self e
    (record e {
      taken = e.taken + 1;
      entry = c.next_place-self.result;
      running = with_item e.running h (Some e.taken);
      guesses =
          c.remember.new.guesses;
      shown = not c.shows_count.result;
      pieces = c.push.new.self;
      doing = step.Idle;
    }) v op.Take
    (Load (2 * p + 1)) x (act.Taken e.taken c.push.new.self.items)
    (subst (λ k. Goes e (record e {
      taken = e.taken + 1;
      entry = k;
      running = with_item e.running h (Some e.taken);
      guesses =
          c.remember.new.guesses;
      shown = not c.shows_count.result;
      pieces = c.push.new.self;
      doing = step.Idle;
    }) v op.Take
    (Load (2 * p + 1)) x (act.Taken e.taken c.push.new.self.items)) (sym c.next_place-self.ensures)
    (subst (λ b. Goes e (record e {
      taken = e.taken + 1;
      entry = next_place e.entry e.size;
      running =
          with_item e.running h (Some e.taken);
      guesses = c.remember.new.guesses;
      shown = not b;
      pieces = c.push.new.self;
      doing =
          step.Idle;
    }) v op.Take (Load (2 * p + 1)) x (act.Taken e.taken c.push.new.self.items)) (sym c.shows_count.ensures) go))
    c.access-second.ensures

pub returns-clause-chain : goal.returns-clause-chain
returns-clause-chain g c = λ k is.
    let e : SplitDevice = c.args.self.now in let v : DeviceView = c.requires.own.0 in let x : ℕ = c.access-second.result in
    let next = second_next e v c.args.word c.args.head c.args.place c.requires.now c.requires.own.1 in
    let l = loaded e v c.args.word c.args.head c.args.place x c.requires.now c.requires.own.1
    (c.requires.own.2.told op.Take (Load (2 * c.args.place + 1)) next x c.access-second.new.self c.access-second.ensures) in
    let same = c.push.ensures ∙ ap (λ (q : Piece). e.pieces.items ++ q ∷ []) c.piece_from.ensures
    ∙ whole_chain e v c.args.word c.args.head c.args.place x (sym c.has_next.ensures ∙ c.if-has_next.false) l
    (direct e v c.args.word c.args.head c.args.place x l c.requires.own.1
    (bare e v x c.has_table.result c.requires.own.1 c.has_table.ensures c.if-has_table.false)) in
    subst IsChain (sym same) l.told.fits.chain
