-- The bus between two epochs: suspended, set up again, and resumed.
use Rattle.std.proofs.Common.{◌≡◌, ℕ, true, false, List, [], length, slice_index_or, sym, ap, ◌∙◌, subst}
use Rattle.vd_model.specs.declared.base.Mode.{Mode}
use Rattle.vd_layout.specs.Device.{DeviceModel}
use Rattle.vd_machine.specs.File.{Plan}
use Rattle.vd_bus.specs.declared.bus.vring.Vring.{Vring}
use Rattle.vd_bus.specs.Bus.{BusState, control_queue, fresh_vring}
use Rattle.vd_bus.specs.BusStatus.{with_suspended}
use Rattle.vd_play.specs.declared.floor.Lane.{Lane}
use Rattle.vd_play.specs.Journal.{map_in, ring_in}
use Rattle.vd_play.specs.Places.{control_place, control_ring}
use Rattle.vd_play.specs.Setup.{set_up, with_vrings, with_map, IsUp, HasRings, IsRing, HasBases, HasControlBase, IsReady}

pub ready_later : {L D E : Type 0} (e : DeviceModel E) (base : ℕ) (plan : Plan) (before m : Mode) (k : ℕ) (lanes : List (Lane L D E))
    (a b c d f h i : BusState) → IsUp plan before a
    → b ≡ with_suspended a true → c ≡ with_vrings b c.vrings → d ≡ with_map c [] → f ≡ with_map d (map_in plan m)
    → h ≡ with_vrings f h.vrings → HasRings plan m k h → HasBases e base plan m lanes h → HasControlBase base plan h
    → i ≡ with_suspended h false
    → IsReady e base plan m k lanes i
ready_later e base plan before m k lanes a b c d f h i up suspended addressed unmapped mapped based rings bases control resumed =
    let at_b : b ≡ set_up plan 15 true a.vrings (map_in plan before) = suspended ∙ ap (λ x. with_suspended x true) up in
    let at_c : c ≡ set_up plan 15 true c.vrings (map_in plan before) = addressed ∙ ap (λ x. with_vrings x c.vrings) at_b in
    let at_d : d ≡ set_up plan 15 true c.vrings [] = unmapped ∙ ap (λ x. with_map x []) at_c in
    let at_f : f ≡ set_up plan 15 true c.vrings (map_in plan m) = mapped ∙ ap (λ x. with_map x (map_in plan m)) at_d in
    let at_h : h ≡ set_up plan 15 true h.vrings (map_in plan m) = based ∙ ap (λ x. with_vrings x h.vrings) at_f in
    let at_i : i ≡ set_up plan 15 false h.vrings (map_in plan m) = resumed ∙ ap (λ x. with_suspended x false) at_h in
    let same : i.vrings ≡ h.vrings = ap (λ (x : BusState). x.vrings) resumed in
    record {
      up = at_i ∙ ap (λ vs. set_up plan 15 false vs (map_in plan m)) (sym same);
      rings = record {
        many = ap (λ (vs : List Vring). length vs) same ∙ rings.many;
        each = λ q low. subst (λ (vs : List Vring). IsRing plan (ring_in m k q) q (slice_index_or vs q (fresh_vring plan.packed)))
            (sym same) (rings.each q low);
        control = λ has. subst (λ (vs : List Vring). IsRing plan (control_ring k) control_queue
            (slice_index_or vs (control_place plan) (fresh_vring plan.packed))) (sym same) (rings.control has);
      };
      bases = λ q n lane at is. subst (λ (vs : List Vring). (slice_index_or vs q (fresh_vring plan.packed)).base ≡ n) (sym same)
          (bases q n lane at is);
      control = λ has. subst (λ (vs : List Vring). (slice_index_or vs (control_place plan) (fresh_vring plan.packed)).base ≡ base)
          (sym same) (control has);
    }
