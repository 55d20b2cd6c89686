use Rattle.std.proofs.Common.{◌≡◌, ◌<◌, ℕ, slice_index_or, ◌+◌, ap, sym, subst, ◌∙◌, arith}
use Rattle.std.proofs.lemmas.List.{get_or_read}
use Rattle.std.specs.Vec.{with_item}
use Rattle.vd_bits.specs.Lanes.{set_lane32}
use Rattle.vd_words.specs.declared.access.Access.TheVariants.{Store}
use Rattle.vd_words.specs.declared.access.Op.TheVariants as op
use Rattle.vd_ring.specs.declared.act.DeviceAct.TheVariants as act
use Rattle.vd_ring.specs.declared.device.DeviceView.{DeviceView}
use Rattle.vd_split.specs.declared.device.SplitDevice.{SplitDevice}
use Rattle.vd_split.specs.declared.device.DeviceStep.TheVariants as step
use Rattle.vd_split.specs.DeviceEnd.{DeviceStands}
use Rattle.vd_split.specs.laws.DeviceSteps.{Goes, made, used_below}
use Rattle.vd_split.specs.laws.DeviceGiving.{store_id_goes}
use Rattle.vd_split.specs.Parts.{used_area}
use Rattle.vd_split.proofs.device.SplitDevice.store_id.Goals as goal

-- the step, with the place as the body computes it
goes : (e : SplitDevice) (v : DeviceView) (r number head len x old area : ℕ) → e.doing ≡ step.StoreId number head len
    → head < 4294967296 → DeviceStands e v → x ≡ set_lane32 old 1 head → old ≡ slice_index_or e.area.items e.used old
    → area ≡ used_area e.size
    → Goes e (record e { area = with_item e.area e.used x; doing = step.StoreLen number head len }) v op.Give
    (Store (area + e.used) x) r act.Moved
goes e v r number head len x old area is small st word read place =
    subst (λ k. Goes e (record e { area = with_item e.area e.used x; doing = step.StoreLen number head len }) v op.Give
    (Store (k + e.used) x) r act.Moved) (sym place)
    (let below = used_below e v st in
    store_id_goes e v r number head len x is small st
    (word ∙ ap (λ w. set_lane32 w 1 head) (get_or_read e.area.items e.used old (omega arith) read 0)))

pub access-requires : goal.access-requires
access-requires g c =
    let e : SplitDevice = c.args.self.now in let x : ℕ = c.set_lane32-word.result in
    c.requires.own.2.may op.Give (Store (c.used_area.result + e.used) x)
    (goes e c.requires.own.0 0 c.args.number c.args.head c.args.len x c.index.result.now c.used_area.result c.requires.now
    (omega (arith, c.ranges.head)) c.requires.own.1 c.set_lane32-word.ensures c.index.ensures c.used_area.ensures).next

pub returns : goal.returns
returns g c = λ v st own.
    let e : SplitDevice = c.args.self.now in let x : ℕ = c.set_lane32-word.result in
    made g.P.Port.port c.args.port.now c.access.new.self e
    (record e { area = with_item e.area e.used x; doing = step.StoreLen c.args.number c.args.head c.args.len }) v op.Give
    (Store (c.used_area.result + e.used) x) c.access.result act.Moved
    (goes e v c.access.result c.args.number c.args.head c.args.len x c.index.result.now c.used_area.result c.requires.now
    (omega (arith, c.ranges.head)) st c.set_lane32-word.ensures c.index.ensures c.used_area.ensures)
    c.access.ensures
