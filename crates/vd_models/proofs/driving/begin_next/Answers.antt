use Rattle.std.proofs.Common.{◌≡◌, true, Option, Some, None, List, sym, ◌∙◌, ap, subst}
use Rattle.std.specs.Option.{option_copied}
use Rattle.vd_model.specs.declared.chain.Piece.{Piece}
use Rattle.vd_model.specs.declared.record.Run.{Run}
use Rattle.vd_layout.specs.Driver.{HasRoom}
use Rattle.vd_models.specs.declared.pending.Pending.{Pending}
use Rattle.vd_models.specs.Cursors.{next_at}
use Rattle.vd_models.specs.GuestStages.{IsStuck}
use Rattle.vd_models.specs.Driving.{drive, next_of}
use Rattle.vd_models.specs.Sending.{DueIs}
use Rattle.vd_models.specs.laws.Scripted.{commands_or, next_is_chain, next_is_command}
use Rattle.vd_models.proofs.Begins.{begins_chain, begins_collect, free_now, stuck_chain, stuck_command}
use Rattle.vd_models.proofs.Offering.{may_offer, offers_at, some_runs, chains_by}
use Rattle.vd_models.proofs.driving.begin_next.Goals as goal
use Rattle.vd_models.proofs.driving.begin_next.Goals.{in_default-next_chain-via-in-Some+else-room, in_default-next_chain-via-in_default-next_chain}

some_same : (a b : List Piece) → ◌≡◌ {A = Option (List Piece)} (Some a) (Some b) → a ≡ b
some_same a b e = cc e

pub begin_offer-requires-clause-may : goal.begin_offer-requires-clause-may
begin_offer-requires-clause-may g c =
    let d = g.L.Driver.DriverEnd.driver in
    let l = g.L.Layout.layout in
    let x = drive c.args.end.now c.args.loaded.now in
    let r = c.requires.can in
    let next : next_at x.script.runs x.at ≡ Some c.in-Some.chain.now = sym (c.in-Some.ensures ∙ ap
    (λ (rs : List Run). next_at rs x.at) c.as_slice.ensures) in (
      r.0,
      r.1.drives.stands,
      may_offer d l x r.0 c.in-Some.chain.now r.1.drives (chains_by d l x r.0 c.in-Some.chain.now r.1 next) next
          ((c.room.ensures r.0 r.1.drives.stands).0 c.if-room.true),
    )

pub returns-in-Some-clause-next : goal.returns-in-Some-clause-next
returns-in-Some-clause-next g c = λ v h due.
    let d = g.L.Driver.DriverEnd.driver in
    let l = g.L.Layout.layout in
    let x = drive c.args.end.now c.args.loaded.now in
    let next : next_at x.script.runs x.at ≡ Some c.in-Some.chain.now = sym (c.in-Some.ensures ∙ ap
    (λ (rs : List Run). next_at rs x.at) c.as_slice.ensures) in
    let none = chains_by d l x v c.in-Some.chain.now h next in
    begins_chain d l g.met.L.Layout.lawful.driver_end x c.begin_offer.new.self v h c.requires.idle c.in-Some.chain.now
    (offers_at x.stage c.requires.stage h.live) none next c.begin_offer.ensures.begun
    (c.begin_offer.ensures.stands v h.drives.stands (may_offer d l x v c.in-Some.chain.now h.drives none next
    ((c.room.ensures v h.drives.stands).0 c.if-room.true))) c.begin_offer.ensures.left

pub returns-in_default-next_chain-clause-next : goal.returns-in_default-next_chain-clause-next
returns-in_default-next_chain-clause-next g c = λ v h due.
    let d = g.L.Driver.DriverEnd.driver in
    let l = g.L.Layout.layout in
    let x = drive c.args.end.now c.args.loaded.now in
    let offering = offers_at x.stage c.requires.stage h.live in
    let free = free_now d x v x.hand due c.in_default.not-Both in
    let cannot : (p : List Piece) → next_at x.script.runs x.at ≡ Some p → HasRoom v.frame v.done p → ⊥ =
    λ p next room. elim c.in_default-next_chain.branch [
      | in_default-next_chain-via-in-Some+else-room w ↦ (
          let same : p ≡ w.in-Some.chain.now = some_same p w.in-Some.chain.now (sym next ∙ sym (w.in-Some.ensures ∙ ap
          (λ (rs : List Run). next_at rs x.at) c.as_slice.ensures)) in
          let has : w.room.result ≡ true = (w.room.ensures v h.drives.stands).1 (subst
          (λ (z : List Piece). HasRoom v.frame v.done z) same room) in
          cc (has, w.if-room.false)
          )
      | in_default-next_chain-via-in_default-next_chain w ↦ (
          let none : next_at x.script.runs x.at ≡ None = sym (ap (λ (rs : List Run). next_at rs x.at) c.as_slice.ensures)
          ∙ sym c.next_chain.ensures ∙ ap option_copied w.in_default-next_chain.is in
          cc (none, next)
          )
    ] in
    let stuck : IsStuck (next_of d.words x.script x.at v.frame v.done) v.frame v.done = commands_or x.script
    (λ none. subst (λ z. IsStuck z v.frame v.done) (sym (next_is_chain d.words x.script x.at v.frame v.done none))
    (stuck_chain (next_at x.script.runs x.at) v.frame v.done cannot))
    (λ some. subst (λ z. IsStuck z v.frame v.done) (sym (next_is_command d.words x.script x.at v.frame v.done some))
    (stuck_command d.words x.script v.frame v.done (subst (λ (z : Pending). DueIs d x v z None) free due c.requires.idle offering))) in
    begins_collect d l g.met.L.Layout.lawful.driver_end x c.begin_collect.new.self v h c.requires.idle offering free stuck
    c.begin_collect.ensures.begun (c.begin_collect.ensures.stands v h.drives.stands) c.begin_collect.ensures.left
