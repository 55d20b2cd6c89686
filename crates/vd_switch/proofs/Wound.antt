-- A shadowing lane begins, and comes to where its relay can rest.
use Rattle.std.proofs.Common.{◌≡◌, ℕ, Bool, true, false, List, [], ◌∷◌, length, drop, refl, sym, ◌∙◌, ap, subst, arith}
use Rattle.std.specs.List.{All}
use Rattle.vd_model.specs.declared.chain.Piece.{Piece}
use Rattle.vd_model.specs.declared.record.Begun.{Begun}
use Rattle.vd_ring.specs.declared.driver.DriverView.{DriverView}
use Rattle.vd_ring.specs.declared.device.DeviceView.{DeviceView}
use Rattle.vd_ring.specs.declared.device.DeviceDone.{DeviceDone}
use Rattle.vd_ring.specs.declared.frame.Used.{Used}
use Rattle.vd_ring.specs.History.{collects, takes, gives, IsWhole}
use Rattle.vd_layout.specs.Driver.{DriverModel}
use Rattle.vd_layout.specs.Device.{DeviceModel}
use Rattle.vd_layout.specs.Layout.{LayoutModel, IsLawfulLayout}
use Rattle.vd_bus.specs.declared.device.Attached.{Attached}
use Rattle.vd_bus.specs.Device.{IsServing, IsBegun, IsJournalled, chains_of}
use Rattle.vd_relay.specs.declared.stage.Stage.{Stage}
use Rattle.vd_relay.specs.declared.stage.Stage.TheVariants as stage
use Rattle.vd_relay.specs.Tie.{Start, moves}
use Rattle.vd_relay.specs.declared.state.State.{State}
use Rattle.vd_relay.specs.Moving.{Stands}
use Rattle.vd_relay.specs.Stages.{BeforeRest, GuestIs, BackIs}
use Rattle.vd_layout.specs.Begun.{DeviceOp}
use Rattle.vd_iova.specs.Trees.{Tree, IsKept}
use Rattle.vd_iova.proofs.Translations.{single_iova, back_undoes}
use Rattle.vd_switch.proofs.WoundCourse.{whole_by}
use Rattle.vd_switch.specs.Account.{IsBegunBefore}
use Rattle.vd_switch.specs.ShadowingLanes.{IsShadowing, IsWinding, IsUndone}

module _ {E D : Type 0} (e : DeviceModel E) (d : DriverModel D) (l : LayoutModel) (law : IsLawfulLayout d e l) (z : Start)
    (old : List (List Piece × ℕ)) (r : State E D) (begun : List Begun) (by : Attached) (words shadow_words : List ℕ) (v : DriverView)
    (w : DeviceView) (sv : DriverView) (sw : DeviceView) where
  -- where all that the shadow ring's device gave is collected and given, the guest's end is whole
  module _ (h : IsShadowing e d l z old r begun by words shadow_words v w sv sw) (on : r.winding ≡ true) (acts : w.done ≡ h.relays.acts)
      (back : h.relays.back ≡ []) (all : length (collects sv.done) ≡ r.target) where
    pub whole : IsWhole w.done
    whole = whole_by e d l law (moves z) r words shadow_words v w sv sw h.ring h.shadow_ring h.relays (h.winds on) acts back all

  -- the guest's end may rest
  module _ (h : IsShadowing e d l z old r begun by words shadow_words v w sv sw) (on : r.winding ≡ true) (none : Bool)
      (here : r.stage ≡ stage.Collecting none) (all : length (collects sv.done) ≡ r.target) where
    no_back : (a : DeviceOp) (back : List Used) → GuestIs (stage.Collecting none) a → BackIs a back → back ≡ []
    no_back DeviceOp.idle back at h = h
    no_back (DeviceOp.give k n) back at h = absurd at
    no_back DeviceOp.take back at h = absurd at
    no_back DeviceOp.signal back at h = absurd at
    no_back DeviceOp.arm back at h = absurd at
    no_back DeviceOp.hear back at h = absurd at
    no_back DeviceOp.disarm back at h = absurd at
    no_back DeviceOp.rest back at h = absurd at

    pub may_rest : IsWhole w.done
    may_rest = whole h on (subst (λ (s : Stage). BeforeRest s h.relays.acts w.done) here h.relays.before)
        (no_back (e.begun r.guest) h.relays.back (subst (λ (s : Stage). GuestIs s (e.begun r.guest)) here h.relays.guest) h.relays.to_give)
        all

  -- ---- the beginning

  serves_none : by.at ≡ length begun → by.from ≡ 0 → sw.done ≡ [] → IsServing begun by sw.done
  serves_none at from fresh = subst (λ (s : List DeviceDone). IsServing begun by s) (sym fresh) record {
    as_many = omega arith;
    after = omega arith;
    before = omega arith;
    few = omega arith;
    chains = ap (λ (n : ℕ). chains_of (drop n begun)) at ∙ none begun ∙ ap (λ (n : ℕ). drop n (takes [])) (sym from);
    each = subst (λ (n : ℕ). All IsBegun (drop n begun)) (sym at) (nothing begun);
    given = subst (λ (n : ℕ). All (IsJournalled begun by.at by.from) (drop n (gives []))) (sym from) (λ k x low. absurd (omega arith));
  }
    where
      none : (bs : List Begun) → chains_of (drop (length bs) bs) ≡ []
      none [] = refl
      none (b ∷ bs) = none bs

      nothing : (bs : List Begun) → All IsBegun (drop (length bs) bs)
      nothing [] = λ k x low. absurd (omega arith)
      nothing (b ∷ bs) = nothing bs

  pub starts : l.ring words v w → l.ring shadow_words sv sw → Stands e d z r w sv → r.winding ≡ false → by.at ≡ length begun → by.from ≡ 0
      → sw.done ≡ [] → IsBegunBefore old z.takes z.gives → IsUndone z.map
      → IsShadowing e d l z old r begun by words shadow_words v w sv sw
  starts ring shadow_ring holds off at from fresh before undone = record {
    ring = ring;
    shadow_ring = shadow_ring;
    relays = holds;
    serves = serves_none at from fresh;
    from = from;
    winds = λ on. let no_winding : true ≡ false = sym on ∙ off in absurd (cc);
    before = before;
    undone = undone;
  }

-- the relay begins to wind up once the shadow ring's device is done
pub winds_up : {E D : Type 0} (e : DeviceModel E) (d : DriverModel D) (l : LayoutModel) (z : Start) (old : List (List Piece × ℕ))
    (r r' : State E D) (begun : List Begun) (by : Attached) (words shadow_words : List ℕ) (v : DriverView) (w : DeviceView)
    (sv : DriverView) (sw : DeviceView)
    → IsShadowing e d l z old r begun by words shadow_words v w sv sw → Stands e d z r' w sv → IsWinding r' sw
    → IsShadowing e d l z old r' begun by words shadow_words v w sv sw
winds_up e d l z old r r' begun by words shadow_words v w sv sw h holds winding = record {
  ring = h.ring;
  shadow_ring = h.shadow_ring;
  relays = holds;
  serves = h.serves;
  from = h.from;
  winds = λ _. winding;
  before = h.before;
  undone = h.undone;
}

-- an address tree's map brings each range back
pub tree_undone : (t : Tree) → IsKept t → IsUndone t.mappings
tree_undone t kept addr len iova some is = back_undoes t.mappings addr len iova
    (single_iova t.first t.last t.mappings kept.apart kept.within) some is
