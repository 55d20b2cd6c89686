use Rattle.std.proofs.Common.{ℕ, ◌+◌, ◌*◌, ◌%◌, take, drop, ap, sym, ◌∙◌, arith, subst}
use Rattle.std.proofs.lemmas.List.{get_or_read}
use Rattle.std.specs.Vec.{with_item}
use Rattle.vd_bits.specs.Lanes.{set_lane16}
use Rattle.vd_words.specs.declared.access.Access.TheVariants.{Store}
use Rattle.vd_words.specs.declared.access.Op.TheVariants as op
use Rattle.vd_ring.specs.declared.act.DriverAct.TheVariants as act
use Rattle.vd_split.specs.declared.driver.SplitDriver.{SplitDriver}
use Rattle.vd_split.specs.declared.driver.DriverStep.TheVariants as step
use Rattle.vd_split.specs.laws.DriverSteps.{Goes, made}
use Rattle.vd_split.specs.laws.DriverPublishing.{publish_goes, publish_head, entry_below}
use Rattle.vd_split.specs.Parts.{needed, next_place}
use Rattle.vd_split.proofs.driver.SplitDriver.publish.Goals as goal

pub index_mut-requires-2 : goal.index_mut-requires-2
index_mut-requires-2 g c =
    let e : SplitDriver = c.args.self.now in
    omega (arith, (publish_head e c.requires.own.0 c.requires.now c.requires.own.1).2, c.place_at-head.ensures, e.slots.ok)

pub returns : goal.returns
returns g c = λ v st own.
    let e : SplitDriver = c.args.self.now in let x : ℕ = c.set_lane16-word.result in let t = c.fill_slot in let h : ℕ =
    c.place_at-head.result in
    let many = c.needed-count.ensures ∙ ap (needed e.features.indirect) c.len.ensures.value in
    let go = publish_goes e v c.access.result x (record e { free = t.new.free }) t.new.slot c.requires.now st
    (c.set_lane16-word.ensures ∙ ap (λ w. set_lane16 w 1 ((e.offered + 1) % 65536))
    (get_or_read e.area.items 0 c.index.result.now (entry_below e v st).1 c.index.ensures 0))
    (t.ensures.left ∙ ap (λ n. drop n e.free.items) many) t.ensures.capacity t.ensures.number
    (t.ensures.places ∙ ap (λ n. take n e.free.items) many) in
    made g.P.Port.port c.args.port.now c.access.new.self e
    (record e {
      offered = e.offered + 1;
      entry = c.next_place-self.result;
      free = t.new.free;
      slots = with_item e.slots h t.new.slot;
      area = with_item e.area 0 x;
      doing = step.Check e.offered (e.offered + 1);
    }) v op.Offer (Store (2 * e.size) x) c.access.result
    (act.Offered e.offered)
    (subst (λ k. Goes e (record e {
      offered = e.offered + 1;
      entry = k;
      free = t.new.free;
      slots = with_item e.slots h t.new.slot;
      area = with_item e.area 0 x;
      doing = step.Check e.offered (e.offered + 1);
    }) v op.Offer (Store (2 * e.size) x) c.access.result
    (act.Offered e.offered)) (sym c.next_place-self.ensures)
    (subst (λ k. Goes e (record e {
      offered = e.offered + 1;
      entry = next_place e.entry e.size;
      free = t.new.free;
      slots =
          with_item e.slots k t.new.slot;
      area = with_item e.area 0 x;
      doing = step.Check e.offered (e.offered + 1);
    }) v op.Offer
    (Store (2 * e.size) x) c.access.result (act.Offered e.offered)) (sym c.place_at-head.ensures) go))
    c.access.ensures
