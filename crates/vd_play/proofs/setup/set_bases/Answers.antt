use Rattle.std.proofs.Common.{◌≡◌, ◌<◌, ℕ, Some, slice_get, length, ◌+◌, inl, inr, refl, arith, sym, ◌∙◌, ap, subst}
use Rattle.std.specs.Option.{option_map}
use Rattle.std.proofs.lemmas.Bool.{cases_eq}
use Rattle.std.proofs.lemmas.Option.{slice_get_read, slice_get_within}
use Rattle.vd_model.specs.declared.base.Base.{Base}
use Rattle.vd_bus.specs.Bus.{BusState}
use Rattle.vd_bus.specs.BusRings.{after_base}
use Rattle.vd_layout.specs.Device.{IsStill}
use Rattle.vd_machine.proofs.Facts.{few_queues}
use Rattle.vd_machine.specs.File.{view, Plan}
use Rattle.vd_play.specs.declared.floor.Lane.{Lane}
use Rattle.vd_play.specs.Setup.{Stands, HasSizes, KeepsRings, with_vrings, vring_at, base_in}
use Rattle.vd_play.proofs.Buses.{stands_vrings, same_put}
use Rattle.vd_play.proofs.Lists.{some_same, found_by}
use Rattle.vd_play.proofs.ControlRings.{control_based_is, control_based_keeps, control_based_other, control_based_here}
use Rattle.vd_play.proofs.Places.{data_at}
use Rattle.vd_play.proofs.RingsSet.{if_some, keeps_through, sizes_kept, base_lawful, no_fault_of_base, based_is, based_keeps, based_here, based_other}
use Rattle.vd_play.proofs.setup.set_bases.Goals as goal
use Rattle.vd_play.proofs.setup.set_bases.Goals.{in-Some, in_default}

pub base_in-requires : goal.base_in-requires
base_in-requires g c =
    let q : ℕ = c.loop-q.q in
    let low : q < length c.args.m.now.queues = omega (arith, c.loop-q-test.true, c.len-q-end.ensures) in
    let at = slice_get_read c.args.lanes.now _ q c.index-lanes-q.result refl (omega (arith, low, c.requires.many)) c.index-lanes-q.is in
    record {
      end = if_some c.index-lanes-q.result.still (IsStill g.L.Device.DeviceEnd.device)
          (λ end is. (c.requires.ends q c.index-lanes-q.result end at is).still);
    }

pub overflow_cast-v : goal.overflow_cast-v
overflow_cast-v g c =
    let q : ℕ = c.loop-q.q in
    let low : q < length c.args.m.now.queues = omega (arith, c.loop-q-test.true, c.len-q-end.ensures) in
    omega (arith, low, few_queues c.args.m.now.queues c.args.m.now.counted)

pub set_base-requires : goal.set_base-requires
set_base-requires g c =
    let plan : Plan = view c.args.m.now in
    let v = c.loop-q.invariant in
    let b : BusState = c.loop-q.bus in
    let q : ℕ = c.loop-q.q in
    let fresh : ℕ = g.L.Layout.layout.fresh_base in
    let low : q < length c.args.m.now.queues = omega (arith, c.loop-q-test.true, c.len-q-end.ensures) in
    let s : Stands plan b = stands_vrings plan c.args.bus.now b b.vrings v.same c.requires.stands in
    let at = slice_get_read c.args.lanes.now _ q c.index-lanes-q.result refl (omega (arith, low, c.requires.many)) c.index-lanes-q.is in
    let lawful = base_lawful g.L.Device.DeviceEnd.device fresh c.args.mode c.index-lanes-q.result.still plan.packed plan.size
    c.in-Some.base.0 (c.base_in.ensures ∙ ap (option_map (λ (z : Base). z.0)) c.in-Some.is)
    (sym (c.requires.layout.based fresh) ∙ g.met.L.Layout.lawful.fresh_based plan.size c.requires.layout.lawful)
    (λ end is. (c.requires.ends q c.index-lanes-q.result end at is).lawful) in
    let sizes = sizes_kept plan c.args.bus.now b v.keeps c.requires.sizes in
    let there = data_at plan q low in
    no_fault_of_base plan b s.is sizes.many q q there c.in-Some.base.0 s.still (sizes.each q there.within) lawful

pub loop-q-preserved : goal.loop-q-preserved
loop-q-preserved g c =
    let plan : Plan = view c.args.m.now in
    let v = c.loop-q.invariant in
    let b : BusState = c.loop-q.bus in
    let n : BusState = c.match-base_in.bus in
    let q : ℕ = c.loop-q.q in
    let low : q < length c.args.m.now.queues = omega (arith, c.loop-q-test.true, c.len-q-end.ensures) in
    let s : Stands plan b = stands_vrings plan c.args.bus.now b b.vrings v.same c.requires.stands in
    let sizes : HasSizes plan b = sizes_kept plan c.args.bus.now b v.keeps c.requires.sizes in
    let at = slice_get_read c.args.lanes.now _ q c.index-lanes-q.result refl (omega (arith, low, c.requires.many)) c.index-lanes-q.is in
    -- what is asked of the lane that the queue has
    let mine : (k z : ℕ) (lane : Lane _ _ _) → k ≡ q → slice_get c.args.lanes.now k ≡ Some lane
    → base_in g.L.Device.DeviceEnd.device g.L.Layout.layout.fresh_base c.args.mode lane.still ≡ Some z
    → option_map (λ (y : Base). y.0) c.base_in.result ≡ Some z =
    λ k z lane e there is. sym c.base_in.ensures
    ∙ ap (λ (l : Lane _ _ _). base_in g.L.Device.DeviceEnd.device g.L.Layout.layout.fresh_base c.args.mode l.still)
    (some_same c.index-lanes-q.result lane (slice_get c.args.lanes.now q) at (ap (λ (j : ℕ). slice_get c.args.lanes.now j) (sym e) ∙ there))
    ∙ is in
    elim c.match-base_in.branch [
      | in-Some w ↦
          let base : ℕ = w.in-Some.base.0 in
          let made : n ≡ after_base b (record { index = q; num = base }) = w.bus-is ∙ w.set_base.ensures in
          record {
            same = same_put c.args.bus.now b n _ v.same (based_is plan b s.is sizes.many q q (data_at plan q low) base n made);
            keeps = keeps_through plan c.args.bus.now b n v.keeps (based_keeps plan b s.is sizes.many q q (data_at plan q low) base n made);
            bases = λ k z lane less there is. elim (cases_eq k q) [
              | inl e ↦ subst (λ (j : ℕ). (vring_at plan n j).base ≡ z) (sym e) (based_here plan b s.is sizes.many q q (data_at plan q low) base n made
                  ∙ some_same base z (Some base) refl
                  (sym (ap (option_map (λ (y : Base). y.0)) w.in-Some.is) ∙ mine k z lane e there is))
              | inr other ↦ based_other plan b s.is sizes.many q q (data_at plan q low) base n made k other
                  ∙ v.bases k z lane (omega (arith, less, other)) there is
            ];
          }
      | in_default w ↦ subst (λ (z : BusState). record {
        same : z ≡ with_vrings c.args.bus.now z.vrings;
        keeps : KeepsRings plan c.args.bus.now z;
        bases : (k m : ℕ) (lane : Lane _ _ _) → k < q + 1 → slice_get c.args.lanes.now k ≡ Some lane
            → base_in g.L.Device.DeviceEnd.device g.L.Layout.layout.fresh_base c.args.mode lane.still ≡ Some m
            → (vring_at plan z k).base ≡ m;
      }) (sym w.bus-is) (record {
        same = v.same;
        keeps = v.keeps;
        bases = λ k z lane less there is. elim (cases_eq k q) [
          | inl e ↦
              let got = found_by (λ (y : Base). y.0) c.base_in.result z (mine k z lane e there is) in
              absurd (w.in_default.not-Some got.0 got.1)
          | inr other ↦ v.bases k z lane (omega (arith, less, other)) there is
        ];
      })
    ]

-- ---- the control queue

pub set_control_base-requires-clause-stands : goal.set_control_base-requires-clause-stands
set_control_base-requires-clause-stands g c =
    stands_vrings (view c.args.m.now) c.args.bus.now c.loop-q.bus c.loop-q.bus.vrings c.loop-q.invariant.same c.requires.stands

pub set_control_base-requires-clause-sizes : goal.set_control_base-requires-clause-sizes
set_control_base-requires-clause-sizes g c =
    sizes_kept (view c.args.m.now) c.args.bus.now c.loop-q.bus c.loop-q.invariant.keeps c.requires.sizes

pub returns-clause-same : goal.returns-clause-same
returns-clause-same g c =
    let plan : Plan = view c.args.m.now in
    let b : BusState = c.loop-q.bus in
    let n : BusState = c.set_control_base.new.bus in
    let fresh : ℕ = g.L.Layout.layout.fresh_base in
    let few = few_queues c.args.m.now.queues c.args.m.now.counted in
    let s : Stands plan b = stands_vrings plan c.args.bus.now b b.vrings c.loop-q.invariant.same c.requires.stands in
    let sizes : HasSizes plan b = sizes_kept plan c.args.bus.now b c.loop-q.invariant.keeps c.requires.sizes in
    same_put c.args.bus.now b n _ c.loop-q.invariant.same
    (control_based_is plan (omega (arith, few)) c.args.mode 0 b n fresh s sizes c.set_control_base.ensures)

pub returns-clause-keeps : goal.returns-clause-keeps
returns-clause-keeps g c =
    let plan : Plan = view c.args.m.now in
    let b : BusState = c.loop-q.bus in
    let n : BusState = c.set_control_base.new.bus in
    let fresh : ℕ = g.L.Layout.layout.fresh_base in
    let few = few_queues c.args.m.now.queues c.args.m.now.counted in
    let s : Stands plan b = stands_vrings plan c.args.bus.now b b.vrings c.loop-q.invariant.same c.requires.stands in
    let sizes : HasSizes plan b = sizes_kept plan c.args.bus.now b c.loop-q.invariant.keeps c.requires.sizes in
    keeps_through plan c.args.bus.now b n c.loop-q.invariant.keeps
    (control_based_keeps plan (omega (arith, few)) c.args.mode 0 b n fresh s sizes c.set_control_base.ensures)

pub returns-clause-bases : goal.returns-clause-bases
returns-clause-bases g c =
    let plan : Plan = view c.args.m.now in
    let b : BusState = c.loop-q.bus in
    let n : BusState = c.set_control_base.new.bus in
    let fresh : ℕ = g.L.Layout.layout.fresh_base in
    let few = few_queues c.args.m.now.queues c.args.m.now.counted in
    let s : Stands plan b = stands_vrings plan c.args.bus.now b b.vrings c.loop-q.invariant.same c.requires.stands in
    let sizes : HasSizes plan b = sizes_kept plan c.args.bus.now b c.loop-q.invariant.keeps c.requires.sizes in
    λ q z lane at is.
    let low : q < length c.args.m.now.queues = omega (arith, slice_get_within c.args.lanes.now q lane at, c.requires.many) in
    control_based_other plan (omega (arith, few)) c.args.mode 0 b n fresh s sizes c.set_control_base.ensures q low
    ∙ c.loop-q.invariant.bases q z lane (omega (arith, low, c.loop-q-test.false, c.len-q-end.ensures)) at is

pub returns-clause-control : goal.returns-clause-control
returns-clause-control g c =
    let plan : Plan = view c.args.m.now in
    let b : BusState = c.loop-q.bus in
    let n : BusState = c.set_control_base.new.bus in
    let fresh : ℕ = g.L.Layout.layout.fresh_base in
    let few = few_queues c.args.m.now.queues c.args.m.now.counted in
    let s : Stands plan b = stands_vrings plan c.args.bus.now b b.vrings c.loop-q.invariant.same c.requires.stands in
    let sizes : HasSizes plan b = sizes_kept plan c.args.bus.now b c.loop-q.invariant.keeps c.requires.sizes in
    control_based_here plan (omega (arith, few)) c.args.mode 0 b n fresh s sizes c.set_control_base.ensures
