use Rattle.std.proofs.Common.{◌≡◌, ℕ, slice_index_or, ◌+◌, ap, sym, subst, ◌∙◌, arith}
use Rattle.std.proofs.lemmas.List.{get_or_read}
use Rattle.std.specs.Vec.{with_item}
use Rattle.vd_bits.specs.Lanes.{set_lane32}
use Rattle.vd_words.specs.declared.access.Access.TheVariants.{Store}
use Rattle.vd_words.specs.declared.access.Op.TheVariants as op
use Rattle.vd_ring.specs.declared.act.DeviceAct.TheVariants as act
use Rattle.vd_ring.specs.declared.device.DeviceView.{DeviceView}
use Rattle.vd_split.specs.declared.device.SplitDevice.{SplitDevice}
use Rattle.vd_split.specs.declared.device.DeviceStep.TheVariants as step
use Rattle.vd_split.specs.DeviceEnd.{DeviceStands}
use Rattle.vd_split.specs.laws.DeviceSteps.{Goes, made, used_below}
use Rattle.vd_split.specs.laws.DeviceGiving.{store_len_goes}
use Rattle.vd_split.specs.Parts.{used_area}
use Rattle.vd_split.proofs.device.SplitDevice.store_len.Goals as goal

-- the step, with the place as the body computes it
goes : (e : SplitDevice) (v : DeviceView) (r number head len x old area : ℕ) → e.doing ≡ step.StoreLen number head len
    → DeviceStands e v → x ≡ set_lane32 old 0 len → old ≡ slice_index_or e.area.items (e.used + 1) old → area ≡ used_area e.size
    → Goes e (record e { area = with_item e.area (e.used + 1) x; doing = step.StoreIndex number head len }) v op.Give
    (Store (area + (e.used + 1)) x) r act.Moved
goes e v r number head len x old area is st word read place =
    subst (λ k. Goes e (record e { area = with_item e.area (e.used + 1) x; doing = step.StoreIndex number head len }) v op.Give
    (Store (k + (e.used + 1)) x) r act.Moved) (sym place)
    (let below = used_below e v st in
    store_len_goes e v r number head len x is st
    (word ∙ ap (λ w. set_lane32 w 0 len) (get_or_read e.area.items (e.used + 1) old (omega arith) read 0)))

pub access-requires : goal.access-requires
access-requires g c =
    let e : SplitDevice = c.args.self.now in let x : ℕ = c.set_lane32-word.result in
    c.requires.own.2.may op.Give (Store (c.used_area.result + (e.used + 1)) x)
    (goes e c.requires.own.0 0 c.args.number c.args.head c.args.len x c.index.result.now c.used_area.result c.requires.now
    c.requires.own.1 c.set_lane32-word.ensures c.index.ensures c.used_area.ensures).next

pub returns : goal.returns
returns g c = λ v st own.
    let e : SplitDevice = c.args.self.now in let x : ℕ = c.set_lane32-word.result in
    made g.P.Port.port c.args.port.now c.access.new.self e
    (record e { area = with_item e.area (e.used + 1) x; doing = step.StoreIndex c.args.number c.args.head c.args.len }) v op.Give
    (Store (c.used_area.result + (e.used + 1)) x) c.access.result act.Moved
    (goes e v c.access.result c.args.number c.args.head c.args.len x c.index.result.now c.used_area.result c.requires.now st
    c.set_lane32-word.ensures c.index.ensures c.used_area.ensures)
    c.access.ensures
