-- What a carrier of a relay is told: that the chain on offer was offered on the shadow ring, and that one came back.
use Rattle.std.specs.Prelude.{◌≡◌, ◌⊎◌, ℕ, ◌≤◌, true, false, List, [], ◌∷◌}
use Rattle.vd_model.specs.declared.chain.Piece.{Piece}
use Rattle.vd_words.specs.Model.{PortModel}
use Rattle.vd_words.specs.Own.{IsOwn}
use Rattle.vd_ring.specs.declared.driver.DriverDone.TheVariants.{Offer, Collect}
use Rattle.vd_ring.specs.declared.driver.DriverView.{DriverView}
use Rattle.vd_ring.specs.declared.device.DeviceView.{DeviceView}
use Rattle.vd_ring.specs.History.{entry, open_at, head, next_head, occurs}
use Rattle.vd_layout.specs.Begun.{DriverOp, DeviceOp}
use Rattle.vd_layout.specs.Driver.{DriverModel, WasOffered}
use Rattle.vd_layout.specs.Device.{DeviceModel}
use Rattle.vd_relay.specs.declared.counts.Turn.{Turn}
use Rattle.vd_relay.specs.declared.stage.Stage.TheVariants as stage
use Rattle.vd_relay.specs.declared.state.State.{State}
use Rattle.vd_relay.specs.Stages.{is_offering}
use Rattle.vd_relay.specs.Pace.{handled}
use Rattle.vd_relay.specs.Tie.{Course, guests}
use Rattle.vd_relay.specs.Relay.{Stands, ShadowTurn, ShadowWaits, GuestWaits}
use Rattle.vd_relay.specs.Carriers.{CarrierModel, CarriesOn}

-- it may be told of the chain on offer, at its head, that it was offered, and of each one that stands on the shadow ring that it came back
pub record MayTell {C E D : Type 0} (m : CarrierModel C) (x : C) (r : State E D) (v : DriverView) : Type 0 where
  pub offer : (number head : ℕ) → r.stage ≡ stage.Offering number head → m.may_offer x head
  pub collect : (k : ℕ) → 1 ≤ occurs k (open_at v.done) → m.may_collect x (head v.frame v.done k)

-- no chain was offered or collected, and one on offer still is
pub record GoesOn {E D : Type 0} (d : DriverModel D) (r r' : State E D) (turn : Turn) : Type 0 where
  pub none : handled turn ≡ 0
  pub guest : r'.guest ≡ r.guest
  pub offers : is_offering r.stage ≡ true → (r'.stage ≡ r.stage) × (d.begun r'.shadow ≡ d.begun r.shadow)
  pub other : is_offering r.stage ≡ false → is_offering r'.stage ≡ false

-- the chain on offer was offered, from view v to view v', and it was told so
pub record IsOffered {C E D : Type 0} (m : CarrierModel C) (d : DriverModel D) (x x' : C) (r r' : State E D) (v v' : DriverView)
    : Type 0 where
  pub chain : List Piece
  pub at : is_offering r.stage ≡ true
  pub begun : d.begun r.shadow ≡ DriverOp.offer chain
  pub was : WasOffered v.frame v.done chain
  pub done : v'.done ≡ Offer chain ∷ v.done
  pub next : is_offering r'.stage ≡ false
  pub guest : r'.guest ≡ r.guest
  pub told : m.offered x (next_head v.frame v.done) x'

-- chain k came back, and it was told so: its give is begun
pub record IsCollected {C E D : Type 0} (m : CarrierModel C) (e : DeviceModel E) (d : DriverModel D) (z : Course) (x x' : C)
    (r r' : State E D) (v v' : DriverView) : Type 0 where
  pub other : is_offering r.stage ≡ false
  pub k : ℕ
  pub len : ℕ
  pub was_open : 1 ≤ occurs k (open_at v.done)
  pub done : v'.done ≡ Collect (entry k len ∷ []) ∷ v.done
  pub next : r'.stage ≡ stage.Giving
  pub begun : e.begun r'.guest ≡ DeviceOp.give (guests z k) len
  pub short : e.left r'.guest ≤ 5
  pub idle : d.begun r'.shadow ≡ DriverOp.idle
  pub told : m.collected x (head v.frame v.done k) x'

abbrev pub TellsTurn : {C E D : Type 0} → CarrierModel C → DeviceModel E → DriverModel D → Course → C → C → State E D → State E D
    → DriverView → DriverView → Turn → Type 0
TellsTurn m e d z x x' r r' v v' turn = ((x' ≡ x) × GoesOn d r r' turn) ⊎ IsOffered m d x x' r r' v v' ⊎ IsCollected m e d z x x' r r' v v'

-- an access on the shadow ring, and what the carrier was told of it
abbrev pub TellsOf : {C Q E D : Type 0} → CarrierModel C → PortModel Q → DeviceModel E → DriverModel D → Course → C → C → Q → Q
    → State E D → State E D → DeviceView → DriverView → Turn → Type 0
TellsOf m port e d z x x' p q r r' w v turn = (t : ShadowTurn port e d z p q r r' w v turn)
    × TellsTurn m e d z x x' r r' v (d.side.after v t.op t.access t.got) turn

-- one access, on one of the two ports, and what became of the carrier
abbrev pub CarriesOne : {C P Q E D : Type 0} → CarrierModel C → PortModel P → PortModel Q → DeviceModel E → DriverModel D → Course → C → C
    → P → P → Q → Q → State E D → State E D → DeviceView → DriverView → Turn → Type 0
CarriesOne m p q e d z x x' a a' b b' r r' w v turn = ((b' ≡ b) × ShadowWaits d r r' × CarriesOn m p e d z x x' a a' r r' w v turn)
    ⊎ ((a' ≡ a) × GuestWaits e r r' × TellsOf m q e d z x x' b b' r r' w v turn)

-- a relay and a carrier that may make one
abbrev pub CanTurn : {C P Q E D : Type 0} → CarrierModel C → PortModel P → PortModel Q → DeviceModel E → DriverModel D → C → P → Q
    → State E D → Type 0
CanTurn m p q e d x a b r = (z : Course) × (w : DeviceView) × (v : DriverView) × Stands e d z r w v × m.by x z.way v.frame
    × MayTell m x r v × IsOwn p e.side a w × IsOwn q d.side b v
