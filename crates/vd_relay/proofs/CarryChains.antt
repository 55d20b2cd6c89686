-- What a control queue's carrier makes of a command that was taken.
use Rattle.std.proofs.Common.{◌≡◌, ℕ, ◌≤◌, true, List, length, sym, ◌∙◌, ap, arith}
use Rattle.vd_model.specs.declared.chain.Piece.{Piece}
use Rattle.vd_model.specs.Chains.{readable}
use Rattle.vd_ring.specs.declared.frame.Frame.{Frame}
use Rattle.vd_ring.specs.declared.driver.DriverView.{DriverView}
use Rattle.vd_ring.specs.History.{free}
use Rattle.vd_ring.specs.Control.{IsControlChain}
use Rattle.vd_layout.specs.Driver.{DriverModel}
use Rattle.vd_layout.specs.Device.{DeviceModel}
use Rattle.vd_layout.specs.Layout.{LayoutModel, IsLawfulLayout}
use Rattle.vd_relay.specs.declared.carry.Found.{Found}
use Rattle.vd_relay.specs.Pairing.{AreControls}
use Rattle.vd_relay.specs.Ways.{bare}
use Rattle.vd_relay.specs.Replays.{IsShadowRing, control_chain}
use Rattle.vd_relay.specs.Accesses.{HasFree}

-- the shadow ring of a control queue
pub shadow_ring : {E D : Type 0} (l : LayoutModel) (d : DriverModel D) (e : DeviceModel E) → IsLawfulLayout d e l → (x : D) (f : Frame)
    (v : DriverView) → d.stands x v → AreControls f v.frame → l.lawful_size v.frame.size ≡ true → IsShadowRing l v.frame
shadow_ring l d e lay x f v drives paired sized = record {
  size = sized;
  packed = lay.of_layout v.frame (lay.driver_framed x v drives);
  control = paired.shadow_control;
  bounds = paired.free;
  number = paired.shadow;
}

pub has_free : {E D : Type 0} (l : LayoutModel) (d : DriverModel D) (e : DeviceModel E) → IsLawfulLayout d e l → (x : D) (f : Frame)
    (v : DriverView) → d.stands x v → AreControls f v.frame → l.lawful_size v.frame.size ≡ true → 1 ≤ length (free v.frame v.done)
    → HasFree l d x v
has_free l d e lay x f v drives paired sized room =
    record { drives = drives; ring = shadow_ring l d e lay x f v drives paired sized; room = room }

pub readable_is : (at_command at_ack : ℕ) (c : List Piece) (h : IsControlChain at_command at_ack c) → readable c ≡ h.len
readable_is at_command at_ack c h = ap (λ (x : List Piece). readable x) h.is ∙ count at_command at_ack h.len
  where
    count : (a b n : ℕ) → readable (control_chain a b n) ≡ n
    count a b n = omega arith

-- its lengths stay
pub same_bare : (a b p q : ℕ) (c x : List Piece) → IsControlChain a b c → x ≡ control_chain p q (readable c) → bare x ≡ bare c
same_bare a b p q c x h is =
    ap (λ (y : List Piece). bare y) (is ∙ ap (λ (n : ℕ). control_chain p q n) (readable_is a b c h))
    ∙ ap (λ (y : List Piece). bare y) (sym h.is)

-- and it is a control chain of its head
pub is_control : (a b p q : ℕ) (c x : List Piece) → IsControlChain a b c → x ≡ control_chain p q (readable c) → IsControlChain p q x
is_control a b p q c x h is = record {
  len = readable c;
  least = omega (arith, readable_is a b c h, h.least);
  most = omega (arith, readable_is a b c h, h.most);
  is = is;
}

pub found_is : (f : Found) (number place ack count : ℕ) → f.number ≡ number → f.place ≡ place → f.ack_place ≡ ack → f.count ≡ count
    → f ≡ record { number = number; place = place; ack_place = ack; count = count }
found_is f number place ack count a b c d =
    ap (λ (y : ℕ). made y f.place f.ack_place f.count) a ∙ ap (λ (y : ℕ). made number y f.ack_place f.count) b
    ∙ ap (λ (y : ℕ). made number place y f.count) c ∙ ap (λ (y : ℕ). made number place ack y) d
  where
    made : ℕ → ℕ → ℕ → ℕ → Found
    made n p q k = record { number = n; place = p; ack_place = q; count = k }
