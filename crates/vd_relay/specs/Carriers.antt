-- A carrier of a relay: it makes of each chain that was taken from the guest's ring the one that is offered on the shadow ring.
use Rattle.std.specs.Prelude.{◌≡◌, ◌⊎◌, ℕ, ◌<◌, ◌≤◌, true, false, List, ◌∷◌, length}
use Rattle.vd_model.specs.declared.chain.Piece.{Piece}
use Rattle.vd_words.specs.Model.{PortModel}
use Rattle.vd_ring.specs.declared.frame.Frame.{Frame}
use Rattle.vd_ring.specs.declared.driver.DriverView.{DriverView}
use Rattle.vd_ring.specs.declared.device.DeviceDone.TheVariants.{Take}
use Rattle.vd_ring.specs.declared.device.DeviceView.{DeviceView}
use Rattle.vd_ring.specs.History.{takes, free, next_head}
use Rattle.vd_ring.specs.Control.{IsControlChain}
use Rattle.vd_layout.specs.Begun.{DriverOp}
use Rattle.vd_layout.specs.Driver.{DriverModel}
use Rattle.vd_layout.specs.Device.{DeviceModel, IsTaken}
use Rattle.vd_layout.specs.Layout.{LayoutModel}
use Rattle.vd_relay.specs.declared.stage.Stage.TheVariants as stage
use Rattle.vd_relay.specs.declared.state.State.{State}
use Rattle.vd_relay.specs.Stages.{is_offering}
use Rattle.vd_relay.specs.Tie.{Course}
use Rattle.vd_relay.specs.Ways.{Way, Pairs, Carries}
use Rattle.vd_relay.specs.declared.counts.Turn.{Turn}
use Rattle.vd_relay.specs.Relay.{GuestTurn}

-- by which way it carries to a shadow ring of a frame, and what it keeps of a chain of a number on the guest's ring: before, and after.
-- When it may be told that the chain was offered at a head of the shadow ring, and that it was collected there, and what it makes of that
pub record CarrierModel (C : Type 0) : Type 1 where
  pub by : C → Way → Frame → Type 0
  pub took : C → ℕ → List Piece → C → Type 0
  pub may_offer : C → ℕ → Type 0
  pub offered : C → ℕ → C → Type 0
  pub may_collect : C → ℕ → Type 0
  pub collected : C → ℕ → C → Type 0

-- the chain was taken last from the guest's ring, of which w is the view before, and it is to be offered next on the shadow ring
pub record MayCarry {C E D : Type 0} (m : CarrierModel C) (l : LayoutModel) (e : DeviceModel E) (d : DriverModel D) (way : Way) (x : C)
    (number : ℕ) (c : List Piece) (shadow : D) (w : DeviceView) (v : DriverView) : Type 0 where
  pub goes : m.by x way v.frame
  pub paired : Pairs way w.frame v.frame
  pub framed : l.lawful_frame w.frame
  pub head : ℕ
  pub taken : IsTaken e.words w.frame w.done c head
  pub numbered : number ≡ length (takes w.done)
  pub drives : d.stands shadow v
  pub has_free : 0 < length (free v.frame v.done)

-- what is offered stands for what was taken; on a control ring it is a control chain of the next head
pub record HasCarried {C D : Type 0} (m : CarrierModel C) (d : DriverModel D) (way : Way) (x x' : C) (number : ℕ) (c c' : List Piece)
    (v : DriverView) : Type 0 where
  pub carries : Carries way c c'
  pub control : v.frame.control ≡ true
      → IsControlChain (d.words.command v.frame (next_head v.frame v.done)) (d.words.ack v.frame (next_head v.frame v.done)) c'
  pub goes : m.by x' way v.frame
  pub took : m.took x number c x'

-- ---- what became of it by a turn

-- a chain was taken, from view w to view w', and was carried: its offer is begun
pub record IsHanded {C E D : Type 0} (m : CarrierModel C) (e : DeviceModel E) (d : DriverModel D) (way : Way) (x x' : C) (r' : State E D)
    (w w' : DeviceView) (v : DriverView) : Type 0 where
  pub number : ℕ
  pub chain : List Piece
  pub head : ℕ
  pub taken : IsTaken e.words w.frame w.done chain head
  pub done : w'.done ≡ Take chain head ∷ w.done
  pub numbered : number ≡ length (takes w.done)
  pub offered : List Piece
  pub next : r'.stage ≡ stage.Offering number (next_head v.frame v.done)
  pub begun : d.begun r'.shadow ≡ DriverOp.offer offered
  pub carried : HasCarried m d way x x' number chain offered v
  pub has_free : 0 < length (free v.frame v.done)
  pub short : d.left r'.shadow ≤ 38

-- it is as it was, or it was handed a chain
abbrev pub CarrierTurn : {C E D : Type 0} → CarrierModel C → DeviceModel E → DriverModel D → Way → C → C → State E D → DeviceView
    → DeviceView → DriverView → Type 0
CarrierTurn m e d way x x' r' w w' v = ((x' ≡ x) × (is_offering r'.stage ≡ false)) ⊎ IsHanded m e d way x x' r' w w' v

-- an access on the guest's ring, and what became of the carrier
abbrev pub CarriesOn : {C P E D : Type 0} → CarrierModel C → PortModel P → DeviceModel E → DriverModel D → Course → C → C → P → P
    → State E D → State E D → DeviceView → DriverView → Turn → Type 0
CarriesOn m port e d z x x' p q r r' w v turn = (t : GuestTurn port e d z p q r r' w v turn)
    × CarrierTurn m e d z.way x x' r' w (e.side.after w t.op t.access t.got) v
