use Rattle.std.proofs.Common.{◌≡◌, ℕ, ◌+◌, ◌++◌, List, length, not, slice_index_or, ap, sym, ◌∙◌, arith, subst}
use Rattle.vd_bits.specs.Lanes.{lane32}
use Rattle.vd_words.specs.declared.access.Access.TheVariants.{Load}
use Rattle.vd_words.specs.declared.access.Op.TheVariants as op
use Rattle.vd_ring.specs.declared.act.DriverAct.{DriverAct}
use Rattle.vd_ring.specs.declared.act.DriverAct.TheVariants as act
use Rattle.vd_ring.specs.declared.driver.DriverView.{DriverView}
use Rattle.vd_split.specs.declared.driver.SplitDriver.{SplitDriver}
use Rattle.vd_split.specs.declared.driver.Slot.{Slot}
use Rattle.vd_split.specs.declared.driver.Collected.{Collected}
use Rattle.vd_split.specs.declared.driver.DriverStep.TheVariants as step
use Rattle.vd_split.specs.DriverEnd.{DriverStands}
use Rattle.vd_split.specs.laws.DriverSteps.{Goes, made}
use Rattle.vd_split.specs.laws.DriverCollecting.{Found, found, finish_next, finish_goes}
use Rattle.vd_split_ring.specs.SplitWords.{shows}
use Rattle.vd_split.specs.Parts.{next_place, used_area}
use Rattle.vd_split.proofs.driver.SplitDriver.finish.Goals as goal

-- the slot that the id names
hit_of : (e : SplitDriver) (v : DriverView) (r w h : ℕ) → e.doing ≡ step.Finish r w → DriverStands e v → h ≡ lane32 w 1
    → Found e.free.items e.free.capacity e.slots.items v.frame v.done h
hit_of e v r w h is st same = subst (λ k. Found e.free.items e.free.capacity e.slots.items v.frame v.done k) (sym same)
    (found e.free.items e.free.capacity e.slots.items v.frame v.done (lane32 w 1) st.holds (finish_next e v r w is st).1)

pub index-slot-requires : goal.index-slot-requires
index-slot-requires g c =
    let e : SplitDriver = c.args.self.now in
    omega (
      arith,
      (hit_of e c.requires.own.0 c.args.word c.args.found c.lane32-head.result c.requires.now c.requires.own.1
          c.lane32-head.ensures).inside,
      e.slots.ok,
    )

pub give_back-requires : goal.give_back-requires
give_back-requires g c =
    let e : SplitDriver = c.args.self.now in
    let hit = hit_of e c.requires.own.0 c.args.word c.args.found c.lane32-head.result c.requires.now c.requires.own.1
    c.lane32-head.ensures in
    let same = c.as_slice.ensures.value ∙ ap (λ (s : Slot). s.places.items) c.index-slot.ensures ∙ (hit.kept c.index-slot.result.now).1 in
    omega (arith, hit.room, ap (λ (l : List ℕ). length l) same)

pub returns : goal.returns
returns g c = λ v st own.
    let e : SplitDriver = c.args.self.now in let x : ℕ = c.access-last.result in
    let r : ℕ = c.args.word in let w : ℕ = c.args.found in
    let n = finish_next e v r w c.requires.now st in
    let hit = found e.free.items e.free.capacity e.slots.items v.frame v.done (lane32 w 1) st.holds n.1 in
    let slot = c.index-slot.ensures ∙ ap (λ k. slice_index_or e.slots.items k c.index-slot.result.now) c.lane32-head.ensures in
    let places_are = c.as_slice.ensures.value ∙ ap (λ (s : Slot). s.places.items) slot ∙ (hit.kept c.index-slot.result.now).1 in
    let number_is = ap (λ (s : Slot). s.number) slot ∙ (hit.kept c.index-slot.result.now).0 in
    let got : Collected = record { number = c.index-slot.result.now.number; len = c.lane32-len.result; head = c.lane32-head.result } in
    let go = finish_goes e v r w x (record e { free = c.give_back.new.free; got = got }) c.index-slot.result.now.number c.requires.now
    st hit number_is (c.give_back.ensures.items ∙ ap (λ (l : List ℕ). e.free.items ++ l) places_are) c.give_back.ensures.capacity in
    made g.P.Port.port c.args.port.now c.access-last.new.self e
    (record e {
      collected = e.collected + 1;
      used = c.next_place-self.result;
      free = c.give_back.new.free;
      shown =
          not c.shows_count.result;
      got = got;
      doing = step.Idle;
    }) v op.Collect (Load (c.used_area.result + e.used + 1)) x
    (act.Collected c.index-slot.result.now.number c.lane32-len.result c.lane32-head.result)
    (subst (λ k. Goes e (record e {
      collected = e.collected + 1;
      used = k;
      free = c.give_back.new.free;
      shown =
          not c.shows_count.result;
      got = got;
      doing = step.Idle;
    }) v op.Collect (Load (c.used_area.result + e.used + 1)) x
    (act.Collected c.index-slot.result.now.number c.lane32-len.result c.lane32-head.result)) (sym c.next_place-self.ensures)
    (subst (λ b. Goes e (record e {
      collected = e.collected + 1;
      used = next_place e.used e.size;
      free = c.give_back.new.free;
      shown =
          not b;
      got = got;
      doing = step.Idle;
    }) v op.Collect (Load (c.used_area.result + e.used + 1)) x
    (act.Collected c.index-slot.result.now.number c.lane32-len.result c.lane32-head.result)) (sym c.shows_count.ensures)
    (subst (λ k. Goes e (record e {
      collected = e.collected + 1;
      used = next_place e.used e.size;
      free = c.give_back.new.free;
      shown =
          not (shows r (e.collected + 1));
      got = got;
      doing = step.Idle;
    }) v op.Collect (Load (k + e.used + 1)) x
    (act.Collected c.index-slot.result.now.number c.lane32-len.result c.lane32-head.result)) (sym c.used_area.ensures)
    (subst (λ (a : DriverAct). Goes e (record e {
      collected = e.collected + 1;
      used = next_place e.used e.size;
      free =
          c.give_back.new.free;
      shown = not (shows r (e.collected + 1));
      got = got;
      doing = step.Idle;
    }) v op.Collect
    (Load (used_area e.size + e.used + 1)) x a)
    (sym (ap (λ k. act.Collected c.index-slot.result.now.number k c.lane32-head.result) c.lane32-len.ensures
    ∙ ap (λ k. act.Collected c.index-slot.result.now.number (lane32 x 0) k) c.lane32-head.ensures)) go))))
    c.access-last.ensures
