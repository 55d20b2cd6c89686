use Rattle.std.proofs.Common.{◌≡◌, ℕ, length, arith, sym, refl, ap, subst, ◌∙◌, List, [], replicate, false, Some}
use Rattle.std.specs.List.{All}
use Rattle.std.proofs.lemmas.Option.{slice_get_read, get_or_from_slice_get}
use Rattle.vd_model.specs.Chains.{IsChain}
use Rattle.vd_model.specs.declared.record.Run.{Run}
use Rattle.vd_model.specs.declared.record.Script.{Script}
use Rattle.vd_bus.specs.Scripts.{run_count}
use Rattle.vd_layout.specs.Layout.{CanMake, IsMadeWith}
use Rattle.vd_machine.specs.File.{view, Plan}
use Rattle.vd_machine.specs.Queues.{script}
use Rattle.vd_play.specs.Journal.{queue_script, queue_chains, guest_frame}
use Rattle.vd_play.specs.Setting.{setting_of}
use Rattle.vd_play.specs.Renewing.{renewals}
use Rattle.vd_play.proofs.Bounds.{chains_count}
use Rattle.vd_play.proofs.Chained.{few_switches}
use Rattle.vd_play.proofs.Making.{Keeps, queue_is, made}
use Rattle.vd_play.proofs.Rooms.{renewals_few}
use Rattle.vd_play.proofs.preparing.make_lane.Goals as goal

pub boot-requires-clause-unused : goal.boot-requires-clause-unused
boot-requires-clause-unused g c =
    let none = g.met.G.Guest.lawful.unloaded c.args.guest.now c.requires.guest.script in
    (c.load.ensures.offered ∙ none.0, c.load.ensures.returned ∙ none.1)

pub event_count-events-requires-clause-renewals : goal.event_count-events-requires-clause-renewals
event_count-events-requires-clause-renewals g c = omega (
  arith,
  renewals_few c.as_slice-3.result.now,
  ap length c.as_slice-3.ensures,
  few_switches c.args.m.now.switches c.args.m.now.switched,
)

pub returns-clause-guest : goal.returns-clause-guest
returns-clause-guest g c =
    let none = g.met.G.Guest.lawful.unloaded c.args.guest.now c.requires.guest.script in
    record {
      offered = c.boot.ensures.offered ∙ c.load.ensures.offered ∙ none.0;
      returned = c.boot.ensures.returned ∙ c.load.ensures.returned ∙ none.1;
      idle = (
        c.boot.ensures.counts.0 ∙ c.load.ensures.counts.0 ∙ c.requires.guest.idle.0,
        c.boot.ensures.counts.1 ∙ c.load.ensures.counts.1 ∙ c.requires.guest.idle.1,
      );
    }

pub returns-clause-ok : goal.returns-clause-ok
returns-clause-ok g c =
    let l = g.L.Layout.layout in
    let m = c.args.m.now in
    let plan : Plan = view m in
    let q : ℕ = c.args.queue in
    let s : Script = c.index-as_slice-queue.result in
    let rules : Keeps plan = record {
      sized = m.sized;
      fitted = m.fitted;
      inside = m.inside;
      counted = m.counted;
      switched = m.switched;
    } in
    let at = slice_get_read c.as_slice.result.now _ q s refl (omega (arith, ap length c.as_slice.ensures, c.requires.queue))
    c.index-as_slice-queue.is in
    let here : queue_script plan q ≡ s = ap (λ (qs : List Script). Rattle.std.proofs.Common.slice_index_or qs q (script []))
    (sym c.as_slice.ensures) ∙ get_or_from_slice_get c.as_slice.result.now q s (script []) at in
    let runs : c.as_slice-2.result.now ≡ (queue_script plan q).runs = c.as_slice-2.ensures ∙ ap (λ (z : Script). z.runs) (sym here) in
    let can : CanMake l plan.size plan.features = record { lawful = c.requires.layout.lawful } in
    let queue = queue_is l plan q rules can c.requires.tree c.requires.queue
    (subst (λ (rs : List Run). All (λ (r : Run). IsChain r.chain) rs) runs c.tell_chains.ensures) in
    let with : IsMadeWith l plan.size plan.features false (guest_frame l plan q) =
    record { packed = refl; size = refl; features = refl; control = refl } in
    let words = c.in_ok-words.ensures.1 ∙ ap (λ n. replicate n 0) (c.words-words.ensures (guest_frame l plan q) with) in
    let many : length (queue_chains plan q) ≡ c.chain_count.result = chains_count (queue_script plan q).runs
    ∙ sym (c.chain_count.ensures ∙ ap run_count (c.as_slice-4.ensures ∙ ap (λ (z : Script). z.runs) (sym here))) in
    record {
      held = made
          (setting_of g.L.Driver.DriverEnd.driver g.L.Device.DeviceEnd.device g.L.Layout.layout g.G.Guest.party g.V.Device.party)
          (record { layout = g.met.L.Layout.lawful; guest = g.met.G.Guest.lawful; party = g.met.V.Device.lawful }) plan q _
          c.in_ok-driver.driver c.in_ok-driver.end _ _ _ _ _ queue can c.in_ok-words.ensures.0 words c.in_ok-driver.ensures
          c.requires.guest (c.in_ok-load.ensures.ok.1 ∙ ap Some (sym here)) c.load.ensures.counts c.boot.ensures c.requires.device
          c.reserve.ensures.same c.in_ok-reserve.ensures.window
          (omega (
            arith,
            c.in_ok-reserve.ensures.room.0,
            c.event_count-events.ensures,
            ap length c.as_slice-3.ensures,
            ap renewals c.as_slice-3.ensures,
          ))
          (omega (arith, c.in_ok-reserve.ensures.room.1, many));
      kits = c.in_ok-kits.ensures;
    }
