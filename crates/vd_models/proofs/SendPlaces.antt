-- Where the command and ack words of a control ring's heads stand.
use Rattle.std.proofs.Common.{◌≡◌, ℕ, ◌+◌, ◌<◌, ◌≤◌, true, List, length, sym, ◌∙◌, ap, subst, arith}
use Rattle.vd_model.specs.declared.features.Features.{Features}
use Rattle.vd_model.specs.declared.chain.Piece.{Piece}
use Rattle.vd_words.specs.declared.access.Access.TheVariants.{Store}
use Rattle.vd_words.specs.declared.access.Op.TheVariants as op
use Rattle.vd_ring.specs.declared.driver.DriverView.{DriverView}
use Rattle.vd_ring.specs.Control.{StoresCommand}
use Rattle.vd_ring.specs.History.{next_head}
use Rattle.vd_ring.proofs.HeldInside.{next_low}
use Rattle.vd_layout.specs.Device.{DeviceModel}
use Rattle.vd_layout.specs.Driver.{DriverModel}
use Rattle.vd_layout.specs.Layout.{LayoutModel, IsMadeWith, IsLawfulLayout}
use Rattle.vd_bus.specs.GuestCommands.{control_chain}
use Rattle.vd_models.specs.Sent.{HasPlaces, IsReady, command_is, ack_is, chain_is}

module _ {D E : Type 0} {d : DriverModel D} {e : DeviceModel E} {l : LayoutModel} (lay : IsLawfulLayout d e l) {x : D} where
  pub sized_at : (h n : ℕ) (v : DriverView) → n ≡ d.size x → HasPlaces d l x h v → n ≡ v.frame.size
  sized_at h n v is p = is ∙ (lay.driver_end.sized x v p.stands).0

  pub lawful_at : (h n : ℕ) (v : DriverView) → n ≡ d.size x → HasPlaces d l x h v → l.lawful_size n ≡ true
  lawful_at h n v is p = ap l.lawful_size (sized_at h n v is p) ∙ p.sized

  pub inside_at : (h n : ℕ) (v : DriverView) → n ≡ d.size x → HasPlaces d l x h v → h < n
  inside_at h n v is p = omega (arith, sized_at h n v is p, p.inside)

  pub made_at : (h n : ℕ) (f : Features) (v : DriverView) → n ≡ d.size x → f ≡ d.features x → HasPlaces d l x h v
      → IsMadeWith l n f true v.frame
  made_at h n f v is with p = record {
    packed = lay.of_layout v.frame (lay.driver_framed x v p.stands);
    size = sym (sized_at h n v is p);
    features = sym (with ∙ (lay.driver_end.sized x v p.stands).1);
    control = p.control;
  }

  -- of the next head
  pub ready_places : (h : ℕ) (v : DriverView) → h ≡ next_head v.frame v.done → IsReady d l x v → HasPlaces d l x h v
  ready_places h v is r = record {
    stands = r.stands;
    control = r.control;
    sized = r.sized;
    inside = subst (λ (z : ℕ). z < v.frame.size) (sym is)
        (next_low v.frame v.done (omega (arith, (lay.sizes v.frame.size r.sized).0)));
  }

  -- the second word's place has 32 bits too
  pub second_fits : (place : ℕ) (v : DriverView) → place ≡ d.words.command v.frame (next_head v.frame v.done) → IsReady d l x v
      → place + 1 < 4294967296
  second_fits place v is r =
      let lawful = lay.driver_framed x v r.stands in
      let s : StoresCommand v.frame (d.words.command v.frame) v.done (place + 1) = record {
        control = r.control;
        room = r.some;
        half = 1;
        two = omega arith;
        place = ap (λ (n : ℕ). n + 1) is;
      } in
      omega (
        arith,
        lay.narrow v.frame lawful,
        lay.driver_low v op.Control (Store (place + 1) 0) lawful ((lay.driver_end.controls.stores v (place + 1) 0).1 (r.idle, s)),
      )

-- ---- by the next head's number

pub command_at : {D : Type 0} (d : DriverModel D) (h place : ℕ) (v : DriverView) → h ≡ next_head v.frame v.done → command_is d v h place
    → place ≡ d.words.command v.frame (next_head v.frame v.done)
command_at d h place v is at = at ∙ ap (d.words.command v.frame) is

pub chain_at : {D : Type 0} (d : DriverModel D) (h a b len : ℕ) (c : List Piece) (v : DriverView) → h ≡ next_head v.frame v.done
    → command_is d v h a → ack_is d v h b → c ≡ control_chain a b len → chain_is d v len c
chain_at d h a b len c v is at_a at_b same = same
    ∙ ap (λ z. control_chain z b len) (at_a ∙ ap (d.words.command v.frame) is)
    ∙ ap (λ z. control_chain (d.words.command v.frame (next_head v.frame v.done)) z len) (at_b ∙ ap (d.words.ack v.frame) is)
