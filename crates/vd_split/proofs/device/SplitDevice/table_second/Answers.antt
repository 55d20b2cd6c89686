use Rattle.std.proofs.Common.{◌≡◌, ℕ, ◌+◌, ◌*◌, ◌++◌, ◌∷◌, [], length, not, Some, sym, ap, ◌∙◌, subst}
use Rattle.std.specs.Vec.{with_item}
use Rattle.vd_model.specs.declared.chain.Piece.{Piece}
use Rattle.vd_model.specs.Chains.{IsChain}
use Rattle.vd_words.specs.declared.access.Access.TheVariants.{Load}
use Rattle.vd_words.specs.declared.access.Op.TheVariants as op
use Rattle.vd_ring.specs.declared.act.DeviceAct.TheVariants as act
use Rattle.vd_ring.specs.declared.device.DeviceView.{DeviceView}
use Rattle.vd_split.specs.declared.device.SplitDevice.{SplitDevice}
use Rattle.vd_split.specs.declared.device.DeviceStep.TheVariants as step
use Rattle.vd_split.specs.laws.DeviceSteps.{Goes, made}
use Rattle.vd_split.specs.laws.DeviceTabling.{table_second_next, loaded_table, table_few, table_more, table_last, tabled_chain}
use Rattle.vd_split.specs.Parts.{next_place, table_place}
use Rattle.vd_split.proofs.device.SplitDevice.table_second.Goals as goal

-- the place as the body computes it
place_is : (t u n m : ℕ) → t ≡ u → n ≡ m → t + 2 * n + 1 ≡ u + 2 * m + 1
place_is t u n m a b = ap (λ k. k + 2 * n + 1) a ∙ ap (λ k. u + 2 * k + 1) b

pub access-second-requires : goal.access-second-requires
access-second-requires g c =
    let e : SplitDevice = c.args.self.now in let h : ℕ = c.args.head in let p : ℕ = c.table_place.result + 2 * c.len-loaded.result + 1 in
    c.requires.own.2.may op.Take (Load p)
    (table_second_next e c.requires.own.0 c.args.word h c.args.count p c.requires.now c.requires.own.1
    (place_is c.table_place.result (table_place e.size h) c.len-loaded.result (length e.pieces.items) c.table_place.ensures
    c.len-loaded.ensures.value))

pub push-requires : goal.push-requires
push-requires g c =
    let e : SplitDevice = c.args.self.now in let v : DeviceView = c.requires.own.0 in let r : ℕ = c.args.word in let h : ℕ =
    c.args.head in let m : ℕ = c.args.count in
    let p : ℕ = c.table_place.result + 2 * c.len-loaded.result + 1 in let x : ℕ = c.access-second.result in
    let next = table_second_next e v r h m p c.requires.now c.requires.own.1
    (place_is c.table_place.result (table_place e.size h) c.len-loaded.result (length e.pieces.items) c.table_place.ensures
    c.len-loaded.ensures.value) in
    let l = loaded_table e v r h m p x c.requires.now c.requires.own.1
    (c.requires.own.2.told op.Take (Load p) next x c.access-second.new.self c.access-second.ensures) in
    table_few e v r h m x l

pub returns-then-loaded-count-clause-did : goal.returns-then-loaded-count-clause-did
returns-then-loaded-count-clause-did g c = λ v st own.
    let e : SplitDevice = c.args.self.now in let r : ℕ = c.args.word in let h : ℕ = c.args.head in let m : ℕ = c.args.count in
    let p : ℕ = c.table_place.result + 2 * c.len-loaded.result + 1 in let x : ℕ = c.access-second.result in
    let next = table_second_next e v r h m p c.requires.now st
    (place_is c.table_place.result (table_place e.size h) c.len-loaded.result (length e.pieces.items) c.table_place.ensures
    c.len-loaded.ensures.value) in
    let l = loaded_table e v r h m p x c.requires.now st
    (own.told op.Take (Load p) next x c.access-second.new.self c.access-second.ensures) in
    let go = table_more e (record e { pieces = c.push.new.self }) v r h m p x l st next
    (λ z. c.if-loaded-count.true (ap (λ k. k + 1) c.len-loaded.ensures.value ∙ z))
    (c.push.ensures ∙ ap (λ (q : Piece). e.pieces.items ++ q ∷ []) c.piece_from.ensures) c.requires.now in
    made g.P.Port.port c.args.port.now c.access-second.new.self e
    (record e { pieces = c.push.new.self; doing = step.TableAddress r h m }) v op.Take (Load p) x act.Moved go c.access-second.ensures

pub returns-clause-did : goal.returns-clause-did
returns-clause-did g c = λ v st own.
    let e : SplitDevice = c.args.self.now in let r : ℕ = c.args.word in let h : ℕ = c.args.head in let m : ℕ = c.args.count in
    let p : ℕ = c.table_place.result + 2 * c.len-loaded.result + 1 in let x : ℕ = c.access-second.result in
    let next = table_second_next e v r h m p c.requires.now st
    (place_is c.table_place.result (table_place e.size h) c.len-loaded.result (length e.pieces.items) c.table_place.ensures
    c.len-loaded.ensures.value) in
    let l = loaded_table e v r h m p x c.requires.now st
    (own.told op.Take (Load p) next x c.access-second.new.self c.access-second.ensures) in
    let same = c.push.ensures ∙ ap (λ (q : Piece). e.pieces.items ++ q ∷ []) c.piece_from.ensures in
    let e2 : SplitDevice = record e { guesses = c.remember.new.guesses; pieces = c.push.new.self } in
    let go = table_last e e2 v r h m p x c.push.new.self.items l st next (sym (ap (λ k. k + 1) c.len-loaded.ensures.value)
    ∙ c.if-loaded-count.false) c.requires.now same c.remember.ensures in
    made g.P.Port.port c.args.port.now c.access-second.new.self e
    (record e {
      taken = e.taken + 1;
      entry = c.next_place-self.result;
      running = with_item e.running h (Some e.taken);
      guesses =
          c.remember.new.guesses;
      shown = not c.shows_count.result;
      pieces = c.push.new.self;
      doing = step.Idle;
    }) v op.Take (Load p) x
    (act.Taken e.taken c.push.new.self.items)
    (subst (λ k. Goes e (record e {
      taken = e.taken + 1;
      entry = k;
      running = with_item e.running h (Some e.taken);
      guesses =
          c.remember.new.guesses;
      shown = not c.shows_count.result;
      pieces = c.push.new.self;
      doing = step.Idle;
    }) v op.Take (Load p) x
    (act.Taken e.taken c.push.new.self.items)) (sym c.next_place-self.ensures)
    (subst (λ b. Goes e (record e {
      taken = e.taken + 1;
      entry = next_place e.entry e.size;
      running =
          with_item e.running h (Some e.taken);
      guesses = c.remember.new.guesses;
      shown = not b;
      pieces = c.push.new.self;
      doing =
          step.Idle;
    }) v op.Take (Load p) x (act.Taken e.taken c.push.new.self.items)) (sym c.shows_count.ensures) go))
    c.access-second.ensures

pub returns-clause-chain : goal.returns-clause-chain
returns-clause-chain g c = λ k is.
    let e : SplitDevice = c.args.self.now in let v : DeviceView = c.requires.own.0 in let r : ℕ = c.args.word in let h : ℕ =
    c.args.head in let m : ℕ = c.args.count in
    let p : ℕ = c.table_place.result + 2 * c.len-loaded.result + 1 in let x : ℕ = c.access-second.result in
    let next = table_second_next e v r h m p c.requires.now c.requires.own.1
    (place_is c.table_place.result (table_place e.size h) c.len-loaded.result (length e.pieces.items) c.table_place.ensures
    c.len-loaded.ensures.value) in
    let l = loaded_table e v r h m p x c.requires.now c.requires.own.1
    (c.requires.own.2.told op.Take (Load p) next x c.access-second.new.self c.access-second.ensures) in
    let same = c.push.ensures ∙ ap (λ (q : Piece). e.pieces.items ++ q ∷ []) c.piece_from.ensures
    ∙ tabled_chain e v r h m x l (sym (ap (λ k. k + 1) c.len-loaded.ensures.value) ∙ c.if-loaded-count.false) in
    subst IsChain (sym same) l.told.fits.chain
