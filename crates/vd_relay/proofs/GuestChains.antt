-- A chain taken from the guest's ring may be offered on the shadow ring.
use Rattle.std.proofs.Common.{◌≡◌, ℕ, ◌+◌, ◌<◌, ◌≤◌, Bool, true, Option, List, [], length, slice_index_or, if◌then◌else◌, sym, ap, subst, arith}
use Rattle.std.specs.List.{All}
use Rattle.std.proofs.lemmas.Bool.{lt-ltb, le-ltb}
use Rattle.vd_model.specs.declared.chain.Piece.{Piece}
use Rattle.vd_model.specs.declared.features.Features.{Features}
use Rattle.vd_model.specs.declared.map.Mapping.{Mapping}
use Rattle.vd_model.specs.Chains.{IsChain, needs}
use Rattle.vd_model.specs.Maps.{lies_in}
use Rattle.vd_words.specs.Model.{PortModel}
use Rattle.vd_ring.specs.declared.act.DeviceAct.TheVariants as act
use Rattle.vd_ring.specs.declared.frame.Frame.{Frame}
use Rattle.vd_ring.specs.declared.frame.Used.{Used}
use Rattle.vd_ring.specs.declared.driver.DriverView.{DriverView}
use Rattle.vd_ring.specs.declared.device.DeviceDone.{DeviceDone}
use Rattle.vd_ring.specs.declared.device.DeviceView.{DeviceView}
use Rattle.vd_ring.specs.Frames.{Fits, AreInBounds, limit}
use Rattle.vd_ring.specs.History.{takes, running_size, free, next_head}
use Rattle.vd_ring.specs.Control.{IsControlChain}
use Rattle.vd_ring.proofs.HeldPlaces.{borrowed_some}
use Rattle.vd_ring.proofs.Rooms.{room_free}
use Rattle.vd_layout.specs.Driver.{DriverModel, IsLawfulDriver, MayOffer, HasRoom}
use Rattle.vd_layout.specs.Layout.{LayoutModel}
use Rattle.vd_layout.specs.Device.{DeviceModel, IsLawfulDevice, IsDeviceStep, IsTaken}
use Rattle.vd_relay.specs.declared.stage.Stage.{Stage}
use Rattle.vd_relay.specs.declared.stage.Stage.TheVariants as stage
use Rattle.vd_relay.specs.declared.state.State.{State}
use Rattle.vd_relay.specs.Pairing.{ArePaired}
use Rattle.vd_relay.specs.Stages.{GuestIs, TakesFrom, BackIs}
use Rattle.vd_relay.specs.Tie.{Course, IsTied}
use Rattle.vd_relay.specs.Ways.{Way, Pairs, Carries}
use Rattle.vd_relay.specs.Carriers.{CarrierModel, MayCarry}
use Rattle.vd_relay.specs.Relay.{Stands}
use Rattle.vd_relay.proofs.Ways.{alike, sent_count, few_skipped, carries_needs, carries_total}
use Rattle.vd_relay.proofs.Ties.{taken_count, tied_room}
use Rattle.vd_relay.proofs.Calm.{at_stage}
use Rattle.vd_relay.proofs.Ops.{at_take}

-- a piece in the bounds is one that the map moves
pub all_covered : (ms : List Mapping) (f g : Frame) (x : List Piece) → ArePaired ms f g → Fits f x
    → All (λ (p : Piece). (lies_in ms p ≡ true) × (p.addr < 9223372036854775808)) x
all_covered ms f g x paired fits = λ k d below. paired.covers (slice_index_or x k d)
    (subst (λ (b : Option (List Mapping)). AreInBounds b x) paired.bounded fits.bounds k d below)

-- what stands for a chain may stand on the shadow ring
pub fits_carried : (way : Way) (f g : Frame) (x y : List Piece) → Pairs way f g → Fits f x → Carries way x y → IsChain y → Fits g y
fits_carried way f g x y paired fits is lawful =
    let a = alike way f g paired in
    record {
      chain = lawful;
      size = omega (arith, carries_needs way g.features x y is, ap (λ (u : Features). needs u x) a.features, fits.size, a.size);
      length = omega (arith, carries_total way x y is, fits.length);
      bounds = subst (λ (b : Option (List Mapping)). AreInBounds b y) (sym a.free) tt;
    }

-- and so may the chain itself
pub fits_itself : (way : Way) (f g : Frame) (x : List Piece) → Pairs way f g → Fits f x → Fits g x
fits_itself way f g x paired fits =
    let a = alike way f g paired in
    record {
      chain = fits.chain;
      size = omega (arith, ap (λ (u : Features). needs u x) a.features, fits.size, a.size);
      length = fits.length;
      bounds = subst (λ (b : Option (List Mapping)). AreInBounds b x) (sym a.free) tt;
    }

limit_guest : (f : Frame) → f.ring < 16 → limit f ≡ 4000000000
limit_guest f low = ap {B = ℕ} (λ (b : Bool). if b then 4000000000 else 4294967295) (lt-ltb f.ring 16 low)

limit_shadow : (g : Frame) → 16 ≤ g.ring → limit g ≡ 4294967295
limit_shadow g high = ap {B = ℕ} (λ (b : Bool). if b then 4000000000 else 4294967295) (le-ltb g.ring 16 high)

module _ {P E D : Type 0} (port : PortModel P) (e : DeviceModel E) (d : DriverModel D) (law : IsLawfulDevice e) (ldr : IsLawfulDriver d)
    (z : Course) (p q : P) (r : State E D) (w : DeviceView) (v : DriverView) (b : E) where
  -- before a take nothing is in hand, and nothing to be given
  pub tied_at : (k : ℕ) (x : List Piece) → (h : Stands e d z (at_stage r stage.Taking) w v)
      → (s : IsDeviceStep port e p q w r.guest b (act.Taken k x)) → IsTied z r.table [] [] h.acts v.frame v.done
  tied_at k x h s = subst (λ (us : List Used). IsTied z r.table [] us h.acts v.frame v.done)
      (subst (λ o. BackIs o h.back) s.says.1 h.to_give)
      (subst (λ (cs : List (List Piece)). IsTied z r.table cs h.back h.acts v.frame v.done)
      (subst (λ o. TakesFrom o h.hand) s.says.1 h.takes) h.tied)

  pub takes_at : (k : ℕ) (x : List Piece) → Stands e d z r w v → IsDeviceStep port e p q w r.guest b (act.Taken k x)
      → r.stage ≡ stage.Taking
  takes_at k x h s = at_take r.stage (subst (λ o. GuestIs r.stage o) s.says.1 h.guest)

  at_taking : (k : ℕ) (x : List Piece) → Stands e d z r w v → IsDeviceStep port e p q w r.guest b (act.Taken k x)
      → Stands e d z (at_stage r stage.Taking) w v
  at_taking k x h s = subst (λ (y : Stage). Stands e d z (at_stage r y) w v) (takes_at k x h s) h

  room_at : (k : ℕ) (x : List Piece) → (h : Stands e d z (at_stage r stage.Taking) w v)
      → IsDeviceStep port e p q w r.guest b (act.Taken k x) → HasRoom v.frame v.done x
  room_at k x h s =
      let known : IsTaken e.words w.frame w.done x s.says.0 = s.says.5 in
      let a = alike z.way w.frame v.frame h.paired in
      tied_room z r.table h.acts w.frame v.frame v.done x (tied_at k x h s) a.features a.size
      (subst (λ (y : List DeviceDone). running_size w.frame y + needs w.frame.features x ≤ w.frame.size) h.before known.room)

  -- there is a head for a chain just taken
  has_head : (k : ℕ) (x : List Piece) → (h : Stands e d z (at_stage r stage.Taking) w v)
      → IsDeviceStep port e p q w r.guest b (act.Taken k x) → 0 < length (free v.frame v.done)
  has_head k x h s =
      let known : IsTaken e.words w.frame w.done x s.says.0 = s.says.5 in
      let fits : Fits v.frame x = fits_itself z.way w.frame v.frame x h.paired known.fits in
      omega (
        arith,
        room_free v.frame v.done x
            (ldr.places r.shadow v h.drives) fits (room_at k x h s),
        borrowed_some v.frame x fits,
      )

  may_offer_at : (k : ℕ) (x y : List Piece) → (h : Stands e d z (at_stage r stage.Taking) w v)
      → IsDeviceStep port e p q w r.guest b (act.Taken k x) → Carries z.way x y → IsChain y
      → (v.frame.control ≡ true → IsControlChain (d.words.command v.frame (next_head v.frame v.done))
      (d.words.ack v.frame (next_head v.frame v.done)) y) → MayOffer d.words v y
  may_offer_at k x y h s is lawful control =
      let tied = tied_at k x h s in
      let known : IsTaken e.words w.frame w.done x s.says.0 = s.says.5 in
      let a = alike z.way w.frame v.frame h.paired in
      let same : takes w.done ≡ takes h.acts = ap takes h.before in
      let few : length (takes h.acts) < limit w.frame = omega (arith, known.limited, ap (λ (cs : List (List Piece)). length cs) same) in
      let room : HasRoom v.frame v.done x = room_at k x h s in
      record {
        fits = fits_carried z.way w.frame v.frame x y h.paired known.fits is lawful;
        room = omega (arith, room, carries_needs z.way v.frame.features x y is);
        limited = omega (
          arith,
          few,
          taken_count z r.table h.acts v.frame v.done [] [] tied,
          sent_count z.way v.done tied.follows,
          few_skipped z.way v.done tied.follows,
          limit_guest w.frame a.guest,
          limit_shadow v.frame a.shadow,
        );
        control = control;
      }

  -- what stands for the chain just taken may be offered on the shadow ring
  pub may_offer : (k : ℕ) (x y : List Piece) → Stands e d z r w v → IsDeviceStep port e p q w r.guest b (act.Taken k x)
      → Carries z.way x y → IsChain y → (v.frame.control ≡ true → IsControlChain (d.words.command v.frame (next_head v.frame v.done))
      (d.words.ack v.frame (next_head v.frame v.done)) y) → MayOffer d.words v y
  may_offer k x y h s is lawful control = may_offer_at k x y (at_taking k x h s) s is lawful control

  pub has_next : (k : ℕ) (x : List Piece) → Stands e d z r w v → IsDeviceStep port e p q w r.guest b (act.Taken k x)
      → 0 < length (free v.frame v.done)
  has_next k x h s = has_head k x (at_taking k x h s) s

  -- the carrier may carry it
  pub may_carry : {C : Type 0} (m : CarrierModel C) (l : LayoutModel) (c : C) (k : ℕ) (x : List Piece) → l.lawful_frame w.frame
      → m.by c z.way v.frame → Stands e d z r w v → IsDeviceStep port e p q w r.guest b (act.Taken k x)
      → MayCarry m l e d z.way c k x r.shadow w v
  may_carry m l c k x framed goes h s = record {
    goes = goes;
    paired = h.paired;
    framed = framed;
    head = s.says.0;
    taken = s.says.5;
    numbered = s.says.3;
    drives = h.drives;
    has_free = has_next k x h s;
  }
