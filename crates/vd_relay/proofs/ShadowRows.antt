-- The row of the chain that the shadow end offered is in the table, and free.
use Rattle.std.proofs.Common.{◌≡◌, ℕ, ◌<◌, ◌≤◌, None, List, [], ◌∷◌, length, refl, ◌∙◌, ap, subst, arith}
use Rattle.vd_model.specs.declared.chain.Piece.{Piece}
use Rattle.vd_words.specs.Model.{PortModel}
use Rattle.vd_ring.specs.declared.act.DriverAct.TheVariants as act
use Rattle.vd_ring.specs.declared.frame.Used.{Used}
use Rattle.vd_ring.specs.declared.driver.DriverView.{DriverView}
use Rattle.vd_ring.specs.declared.device.DeviceView.{DeviceView}
use Rattle.vd_ring.specs.Frames.{Fits, borrowed}
use Rattle.vd_ring.specs.History.{free}
use Rattle.vd_ring.specs.Places.{Places}
use Rattle.vd_ring.proofs.Rooms.{room_free}
use Rattle.vd_layout.specs.Driver.{DriverModel, IsLawfulDriver, IsDriverStep}
use Rattle.vd_layout.specs.Device.{DeviceModel, IsLawfulDevice}
use Rattle.vd_table.specs.Rows.{row}
use Rattle.vd_relay.specs.declared.stage.Stage.{Stage}
use Rattle.vd_relay.specs.declared.stage.Stage.TheVariants as stage
use Rattle.vd_relay.specs.declared.state.State.{State}
use Rattle.vd_relay.specs.Stages.{OffersHand}
use Rattle.vd_relay.specs.Tie.{Course, IsTied, guests}
use Rattle.vd_relay.specs.Relay.{Stands}
use Rattle.vd_relay.proofs.Ties.{next_inside, next_empty}
use Rattle.vd_relay.proofs.Calm.{at_stage}
use Rattle.vd_relay.proofs.ShadowFree.{none_back}

module _ {P E D : Type 0} (port : PortModel P) (e : DeviceModel E) (d : DriverModel D) (law : IsLawfulDevice e) (ldr : IsLawfulDriver d)
    (z : Course) (p q : P) (r : State E D) (w : DeviceView) (v : DriverView) (b : D) where
  module _ (number head : ℕ) (h : Stands e d z (at_stage r (stage.Offering number head)) w v) (k : ℕ)
      (s : IsDriverStep port d p q v r.shadow b (act.Offered k)) where
    pub ok : Places v.frame v.done
    ok = ldr.places r.shadow v h.drives

    pub fits : Fits v.frame s.says.0
    fits = s.says.5.fits

    pub room : borrowed v.frame s.says.0 ≤ length (free v.frame v.done)
    room = room_free v.frame v.done s.says.0 ok s.says.5.fits s.says.5.room

    pub tied_now : IsTied z r.table (s.says.0 ∷ []) [] h.acts v.frame v.done
    tied_now = subst (λ (us : List Used). IsTied z r.table (s.says.0 ∷ []) us h.acts v.frame v.done)
        (none_back port e d law ldr z p q r w v b (stage.Offering number head) refl h)
        (subst (λ (cs : List (List Piece)). IsTied z r.table cs h.back h.acts v.frame v.done)
        (subst (λ o. OffersHand o h.hand) s.says.1 h.offers) h.tied)

    put_inside_at : head < length r.table
    put_inside_at = omega (arith, h.offer.1, next_inside (guests z) r.table v.frame v.done s.says.0 ok fits room tied_now.holds)

    put_free_at : row r.table head ≡ None
    put_free_at = ap (row r.table) h.offer.1 ∙ next_empty (guests z) r.table v.frame v.done s.says.0 ok fits room tied_now.holds

  pub at_offering : (number head : ℕ) → r.stage ≡ stage.Offering number head → Stands e d z r w v
      → Stands e d z (at_stage r (stage.Offering number head)) w v
  at_offering number head is h = subst (λ (x : Stage). Stands e d z (at_stage r x) w v) is h

  pub put_inside : (number head k : ℕ) → r.stage ≡ stage.Offering number head → Stands e d z r w v
      → IsDriverStep port d p q v r.shadow b (act.Offered k) → head < length r.table
  put_inside number head k is h s = put_inside_at number head (at_offering number head is h) k s

  pub put_free : (number head k : ℕ) → r.stage ≡ stage.Offering number head → Stands e d z r w v
      → IsDriverStep port d p q v r.shadow b (act.Offered k) → row r.table head ≡ None
  put_free number head k is h s = put_free_at number head (at_offering number head is h) k s
