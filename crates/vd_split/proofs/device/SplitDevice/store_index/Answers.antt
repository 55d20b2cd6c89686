use Rattle.std.proofs.Common.{◌≡◌, ℕ, slice_index_or, ◌+◌, ◌%◌, None, refl, ap, sym, subst, ◌∙◌, arith}
use Rattle.std.proofs.lemmas.List.{get_or_read}
use Rattle.std.specs.Vec.{with_item}
use Rattle.vd_bits.specs.Lanes.{set_lane16}
use Rattle.vd_words.specs.declared.access.Access.TheVariants.{Store}
use Rattle.vd_words.specs.declared.access.Op.TheVariants as op
use Rattle.vd_ring.specs.declared.act.DeviceAct.TheVariants as act
use Rattle.vd_ring.specs.declared.device.DeviceView.{DeviceView}
use Rattle.vd_split.specs.declared.device.SplitDevice.{SplitDevice}
use Rattle.vd_split.specs.declared.device.DeviceStep.TheVariants as step
use Rattle.vd_split.specs.DeviceEnd.{DeviceStands}
use Rattle.vd_split.specs.laws.DeviceSteps.{Goes, made, used_below}
use Rattle.vd_split.specs.laws.DeviceGiven.{publish_goes}
use Rattle.vd_split.specs.Parts.{next_place, used_area}
use Rattle.vd_split.proofs.device.SplitDevice.store_index.Goals as goal

-- the step, with the places as the body computes them
goes : (e : SplitDevice) (v : DeviceView) (r number head len x old area used : ℕ) → e.doing ≡ step.StoreIndex number head len
    → DeviceStands e v → x ≡ set_lane16 old 1 ((e.given + 1) % 65536) → old ≡ slice_index_or e.area.items 0 old
    → area ≡ used_area e.size → used ≡ next_place e.used e.size
    → Goes e (record e {
      given = e.given + 1;
      used = used;
      running = with_item e.running head None;
      area = with_item e.area 0 x;
      doing =
          step.Check e.given (e.given + 1);
    }) v op.Give (Store area x) r (act.Given number)
goes e v r number head len x old area used is st word read place next =
    subst (λ k. Goes e (record e {
      given = e.given + 1;
      used = used;
      running = with_item e.running head None;
      area =
          with_item e.area 0 x;
      doing = step.Check e.given (e.given + 1);
    }) v op.Give (Store k x) r (act.Given number)) (sym place)
    (subst (λ u. Goes e (record e {
      given = e.given + 1;
      used = u;
      running = with_item e.running head None;
      area = with_item e.area 0 x;
      doing = step.Check e.given (e.given + 1);
    }) v op.Give (Store (used_area e.size) x) r (act.Given number)) (sym next)
    (let below = used_below e v st in
    publish_goes e v r number head len x is st
    (word ∙ ap (λ w. set_lane16 w 1 ((e.given + 1) % 65536)) (get_or_read e.area.items 0 old (omega arith) read 0))))

pub access-requires : goal.access-requires
access-requires g c =
    let e : SplitDevice = c.args.self.now in let x : ℕ = c.set_lane16-word.result in
    c.requires.own.2.may op.Give (Store c.used_area.result x)
    (goes e c.requires.own.0 0 c.args.number c.args.head c.args.len x c.index.result.now c.used_area.result
    (next_place e.used e.size) c.requires.now c.requires.own.1 c.set_lane16-word.ensures c.index.ensures c.used_area.ensures refl).next

pub returns : goal.returns
returns g c = λ v st own.
    let e : SplitDevice = c.args.self.now in let x : ℕ = c.set_lane16-word.result in
    made g.P.Port.port c.args.port.now c.access.new.self e
    (record e {
      given = e.given + 1;
      used = c.next_place-self.result;
      running = with_item e.running c.args.head None;
      area =
          with_item e.area 0 x;
      doing = step.Check e.given (e.given + 1);
    }) v op.Give (Store c.used_area.result x) c.access.result
    (act.Given c.args.number)
    (goes e v c.access.result c.args.number c.args.head c.args.len x c.index.result.now c.used_area.result c.next_place-self.result
    c.requires.now st c.set_lane16-word.ensures c.index.ensures c.used_area.ensures c.next_place-self.ensures)
    c.access.ensures
