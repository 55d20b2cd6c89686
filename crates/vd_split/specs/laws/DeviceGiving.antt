-- The stores of a used entry's id and length are steps of the device's end.
use Rattle.std.proofs.Common.{◌≡◌, ℕ, ◌+◌, ◌<◌, ◌≤◌, List, length, slice_index, refl, sym, ap, ◌∙◌, subst, arith, false}
use Rattle.std.specs.Vec.{with_item}
use Rattle.std.proofs.lemmas.List.{length-set}
use Rattle.vd_bits.specs.Lanes.{lane32, set_lane32}
use Rattle.vd_bits.proofs.LaneLaws.{half_same}
use Rattle.vd_words.specs.declared.access.Access.TheVariants.{Store}
use Rattle.vd_words.specs.declared.access.Op.TheVariants as op
use Rattle.vd_ring.specs.declared.act.DeviceAct.TheVariants as act
use Rattle.vd_ring.specs.declared.frame.Frame.{Frame}
use Rattle.vd_ring.specs.declared.device.DeviceDone.{DeviceDone}
use Rattle.vd_ring.specs.declared.device.DeviceView.{DeviceView}
use Rattle.vd_ring.specs.History.{takes, gives, running, taken_head, chain_at}
use Rattle.vd_ring.proofs.Counts.{Contains_from}
use Rattle.vd_ring.proofs.ListSteps.{may_return}
use Rattle.vd_split_ring.specs.SplitWords.{used_from}
use Rattle.vd_split_ring.specs.SplitDevice.{DeviceNextAt, device_after_at, device_after, device_act_at}
use Rattle.vd_split_ring.proofs.Areas.{areas}
use Rattle.vd_layout.specs.Begun.{IsDeviceOp, DeviceOp}
use Rattle.vd_layout.specs.Device.{DeviceSays}
use Rattle.vd_split.specs.declared.device.SplitDevice.{SplitDevice}
use Rattle.vd_split.specs.declared.device.DeviceStep.TheVariants as step
use Rattle.vd_split.specs.DriverEnd.{split_words}
use Rattle.vd_split.specs.DeviceEnd.{DeviceStepArmed, device_owes, DeviceStands, DeviceStepStands, device_begun, device_left}
use Rattle.vd_split.specs.laws.DeviceEnd.{not_armed}
use Rattle.vd_split.specs.Parts.{used_area}
use Rattle.vd_split.specs.laws.Plans.{copies_set}
use Rattle.vd_split.specs.laws.DeviceSteps.{Goes, used_below}

-- ---- the store of the id

pub store_id_goes : (e : SplitDevice) (v : DeviceView) (r number head len x : ℕ) → e.doing ≡ step.StoreId number head len
    → head < 4294967296
    → DeviceStands e v
    → x ≡ set_lane32 (slice_index e.area.items e.used) 1 head
    → Goes e (record e { area = with_item e.area e.used x; doing = step.StoreLen number head len }) v op.Give
    (Store (used_area e.size + e.used) x) r act.Moved
store_id_goes e v r number head len x is small st word =
    let f : Frame = v.frame in let s : List DeviceDone = v.done in
    let n : DeviceStepStands (step.StoreId number head len) e.pieces.items e.addr f s v.doing =
    subst (λ t. DeviceStepStands t e.pieces.items e.addr f s v.doing) is st.doing in
    let i : ℕ = e.used in
    let off : e.armed ≡ false = subst (λ t. DeviceStepArmed t e.armed) is st.signals.awake in
    let below = used_below e v st in
    let p : ℕ = used_from f + i in
    let value : x ≡ set_lane32 (slice_index v.stored p) 1 (taken_head s number) =
    word ∙ ap (λ w. set_lane32 w 1 head) (st.area.same i (omega (arith, st.area.as_many)))
    ∙ ap (set_lane32 (slice_index v.stored p) 1) (sym n.1.is_head) in
    let e' : SplitDevice = record e { area = with_item e.area i x; doing = step.StoreLen number head len } in
    subst (λ k. Goes e e' v op.Give (Store (used_area k + i) x) r act.Moved) (sym st.made.sized) record {
      next = subst (λ t. DeviceNextAt t v op.Give (Store p x)) (sym n.0) (
        not_armed e v st off,
        record {
          number = number;
          runs = Contains_from number (running s) n.1.runs;
          next =
              may_return f (chain_at (takes s)) (length (gives s)) number n.1.in_order;
          place = ap (λ k. used_from f + k) st.counts.used_at;
          word = value;
        },
      );
      stands = subst (λ t. DeviceStands e' t) (sym (ap (λ t. device_after_at t v op.Give (Store p x) r) n.0)) record {
        made = st.made;
        counts = st.counts;
        holds = st.holds;
        area = copies_set (used_from f) (f.size + 1) e.area.items v.stored i x st.area (omega (arith, st.area.as_many))
            (omega (arith, st.area.as_many, st.wide, areas f));
        wide = length-set v.stored p x ∙ st.wide;
        shown = st.shown;
        kick = st.kick;
        signals = record {
          is_armed = st.signals.is_armed;
          hears = st.signals.hears;
          rings = st.signals.rings;
          few =
              omega (arith, subst (λ t. e.bells + device_owes t ≤ e.given) is st.signals.few);
          awake = off;
        };
        doing = (x, refl, ap (λ y. lane32 y 1) word ∙ half_same (slice_index e.area.items i) 1 head small, n.1);
      };
      is = sym (ap (λ t. device_act_at t v op.Give (Store p x) r) n.0);
      of_it = subst (λ t. IsDeviceOp (device_begun t) op.Give) (sym is) refl;
      left = subst (λ t. 4 < device_left t (length e.pieces.items)) (sym is) (let z : 4 < 5 = omega arith in z);
      says = subst (λ t. DeviceSays split_words act.Moved (device_begun t) (DeviceOp.give number len) f s
          (device_after v op.Give (Store p x) r).done) (sym is) (refl, ap (λ t. (device_after_at t v op.Give (Store p x) r).done) n.0);
      rests = refl;
    }

-- ---- the store of the length

pub store_len_goes : (e : SplitDevice) (v : DeviceView) (r number head len x : ℕ) → e.doing ≡ step.StoreLen number head len
    → DeviceStands e v
    → x ≡ set_lane32 (slice_index e.area.items (e.used + 1)) 0 len
    → Goes e (record e { area = with_item e.area (e.used + 1) x; doing = step.StoreIndex number head len }) v op.Give
    (Store (used_area e.size + (e.used + 1)) x) r act.Moved
store_len_goes e v r number head len x is st word =
    let f : Frame = v.frame in let s : List DeviceDone = v.done in
    let n : DeviceStepStands (step.StoreLen number head len) e.pieces.items e.addr f s v.doing =
    subst (λ t. DeviceStepStands t e.pieces.items e.addr f s v.doing) is st.doing in
    let i : ℕ = e.used + 1 in
    let off : e.armed ≡ false = subst (λ t. DeviceStepArmed t e.armed) is st.signals.awake in
    let below = used_below e v st in
    let p : ℕ = used_from f + i in
    let value : x ≡ set_lane32 (slice_index v.stored p) 0 len =
    word ∙ ap (λ w. set_lane32 w 0 len) (st.area.same i (omega (arith, st.area.as_many))) in
    let e' : SplitDevice = record e { area = with_item e.area i x; doing = step.StoreIndex number head len } in
    subst (λ k. Goes e e' v op.Give (Store (used_area k + i) x) r act.Moved) (sym st.made.sized) record {
      next = subst (λ t. DeviceNextAt t v op.Give (Store p x)) (sym n.1) record {
        len = len;
        small = n.3.small;
        place =
            omega (arith, st.counts.used_at);
        word = value;
      };
      stands = subst (λ t. DeviceStands e' t) (sym (ap (λ t. device_after_at t v op.Give (Store p x) r) n.1)) record {
        made = st.made;
        counts = st.counts;
        holds = st.holds;
        area = copies_set (used_from f) (f.size + 1) e.area.items v.stored i x st.area (omega (arith, st.area.as_many))
            (omega (arith, st.area.as_many, st.wide, areas f));
        wide = length-set v.stored p x ∙ st.wide;
        shown = st.shown;
        kick = st.kick;
        signals = record {
          is_armed = st.signals.is_armed;
          hears = st.signals.hears;
          rings = st.signals.rings;
          few =
              omega (arith, subst (λ t. e.bells + device_owes t ≤ e.given) is st.signals.few);
          awake = off;
        };
        doing = (n.0, x, refl, n.2, ap (λ y. lane32 y 0) word ∙ half_same (slice_index e.area.items i) 0 len n.3.small, n.3);
      };
      is = sym (ap (λ t. device_act_at t v op.Give (Store p x) r) n.1);
      of_it = subst (λ t. IsDeviceOp (device_begun t) op.Give) (sym is) refl;
      left = subst (λ t. 3 < device_left t (length e.pieces.items)) (sym is) (let z : 3 < 4 = omega arith in z);
      says = subst (λ t. DeviceSays split_words act.Moved (device_begun t) (DeviceOp.give number len) f s
          (device_after v op.Give (Store p x) r).done) (sym is) (refl, ap (λ t. (device_after_at t v op.Give (Store p x) r).done) n.1);
      rests = refl;
    }
