-- The places of the next head's command words, and of its ack word, on a shadow ring of a control queue.
use Rattle.std.proofs.Common.{◌≡◌, ℕ, ◌+◌, ◌<◌, true, refl, sym, ◌∙◌, arith}
use Rattle.vd_model.specs.declared.features.Features.{Features}
use Rattle.vd_words.specs.declared.access.Access.TheVariants.{Store}
use Rattle.vd_words.specs.declared.access.Op.TheVariants.{Control}
use Rattle.vd_ring.specs.declared.frame.Frame.{Frame}
use Rattle.vd_ring.specs.declared.driver.DriverNow.TheVariants as now
use Rattle.vd_ring.specs.declared.driver.DriverView.{DriverView}
use Rattle.vd_ring.specs.History.{next_head}
use Rattle.vd_ring.specs.Control.{StoresCommand}
use Rattle.vd_ring.proofs.HeldPlaces.{free_inside}
use Rattle.vd_ring.proofs.ControlSteps.{next_free}
use Rattle.vd_layout.specs.Driver.{DriverModel}
use Rattle.vd_layout.specs.Device.{DeviceModel}
use Rattle.vd_layout.specs.Layout.{LayoutModel, IsLawfulLayout, IsMadeWith}
use Rattle.vd_relay.specs.Replays.{IsShadowRing, HasNext}

module _ {D E : Type 0} (l : LayoutModel) (d : DriverModel D) (e : DeviceModel E) (lay : IsLawfulLayout d e l) (x : D)
    (v : DriverView) where
  pub made_with : (n : ℕ) (f : Features) → d.stands x v → IsShadowRing l v.frame → n ≡ d.size x → f ≡ d.features x
      → IsMadeWith l n f true v.frame
  made_with n f drives ring sized featured =
      let k = lay.driver_end.sized x v drives in
      record {
        packed = ring.packed;
        size = sym (sized ∙ k.0);
        features = sym (featured ∙ k.1);
        control = ring.control;
      }

  -- the place that the layout tells is the one that the end knows
  pub command_is : (n h p : ℕ) (f : Features) → d.stands x v → IsShadowRing l v.frame → n ≡ d.size x → f ≡ d.features x
      → ((g : Frame) → IsMadeWith l n f true g → p ≡ l.words.command g h) → p ≡ d.words.command v.frame h
  command_is n h p f drives ring sized featured told =
      told v.frame (made_with n f drives ring sized featured) ∙ sym (lay.worded v.frame h).0

  pub ack_is : (n h p : ℕ) (f : Features) → d.stands x v → IsShadowRing l v.frame → n ≡ d.size x → f ≡ d.features x
      → ((g : Frame) → IsMadeWith l n f true g → p ≡ l.words.ack g h) → p ≡ d.words.ack v.frame h
  ack_is n h p f drives ring sized featured told =
      told v.frame (made_with n f drives ring sized featured) ∙ sym (lay.worded v.frame h).1

  module _ (h : HasNext l d x v) where
    pub next_inside : next_head v.frame v.done < v.frame.size
    next_inside = free_inside v.frame v.done (next_head v.frame v.done) (lay.driver_end.places x v h.drives)
        (next_free v.frame v.done h.room)

    pub head_inside_size : (n k : ℕ) → n ≡ d.size x → k ≡ next_head v.frame v.done → k < n
    head_inside_size n k sized is = omega (arith, sized, (lay.driver_end.sized x v h.drives).0, is, next_inside)

    pub is_idle : v.doing ≡ now.Idle
    is_idle = lay.driver_end.at_rest x v h.drives h.idle

    -- a store in a command word is next
    abbrev pub stores : (half p : ℕ) → half < 2 → p ≡ d.words.command v.frame (next_head v.frame v.done) + half
        → StoresCommand v.frame (d.words.command v.frame) v.done p
    stores half p two is = record { control = h.ring.control; room = h.room; half = half; two = two; place = is }

    pub may_store : (half p w : ℕ) → half < 2 → p ≡ d.words.command v.frame (next_head v.frame v.done) + half
        → d.side.next v Control (Store p w)
    may_store half p w two is = (lay.driver_end.controls.stores v p w).1 (is_idle, stores half p two is)

    pub narrow : d.words.command v.frame (next_head v.frame v.done) + 1 < 4294967296
    narrow =
        let framed = lay.driver_framed x v h.drives in
        let q : ℕ = d.words.command v.frame (next_head v.frame v.done) + 1 in
        omega (arith, lay.narrow v.frame framed, lay.driver_low v Control (Store q 0) framed (may_store 1 q 0 (omega arith) refl))
