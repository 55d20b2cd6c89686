-- What a guest is, as one record, and what each of its calls does.
use Rattle.std.specs.Prelude.{◌≡◌, ◌↔◌, ℕ, ◌+◌, false, Option, Some, None, IsSome, List, [], length, map, slice_get}
use Rattle.std.specs.List.{All}
use mathlib.Core.List.{IsPrefix}
use Rattle.vd_model.specs.declared.chain.Piece.{Piece}
use Rattle.vd_model.specs.declared.record.Return.{Return}
use Rattle.vd_model.specs.declared.record.Script.{Script}
use Rattle.vd_words.specs.declared.access.Access.{Access}
use Rattle.vd_words.specs.declared.access.Op.{Op}
use Rattle.vd_words.specs.Model.{PortModel}
use Rattle.vd_ring.specs.declared.act.DriverAct.TheVariants as act
use Rattle.vd_ring.specs.declared.driver.DriverNow.TheVariants as now
use Rattle.vd_ring.specs.declared.driver.DriverView.{DriverView}
use Rattle.vd_ring.specs.declared.frame.Used.{Used}
use Rattle.vd_ring.specs.Frames.{Fits}
use Rattle.vd_ring.specs.History.{offers, collects}
use Rattle.vd_ring.specs.Sleep.{driver_woken}
use Rattle.vd_words.specs.Own.{IsOwn}
use Rattle.vd_layout.specs.Begun.{DriverOp}
use Rattle.vd_layout.specs.declared.moves.Move.{Move}
use Rattle.vd_layout.specs.declared.moves.Move.TheVariants as move
use Rattle.vd_layout.specs.Driver.{DriverModel, HasRoom}
use Rattle.vd_layout.specs.Layout.{LayoutModel}
use Rattle.vd_bus.specs.Acts.{IsOneActMore}
use Rattle.vd_bus.specs.GuestCommands.{HasCommands, HasSent, AreAcked, HasSentAll, CannotSend, CanSend}
use Rattle.vd_bus.specs.Pace.{KeepsPace, raised, worked}
use Rattle.vd_bus.specs.Scripts.{chains}

-- the script; whether it was loaded, with room for all that will come back, and may be booted; how many chains were offered; what came back, in order;
-- for which views of a ring the end stands that it holds; whether all chains of the script were offered and returned, and the end is
-- idle; how many of its steps did not answer Looked, and how many of its hearings ended with Awake
pub record GuestParty (X : Type 0) : Type 1 where
  pub script : X → Option Script
  pub is_loaded : X → Type 0
  pub offered : X → ℕ
  pub returned : X → List Return
  pub holds : X → DriverView → Type 0
  pub is_done : X → Type 0
  pub accesses : X → ℕ
  pub heard : X → ℕ

-- a chain as it comes back on a data queue
abbrev pub as_return : Used → Return
as_return u = record { number = u.number; len = u.len; ack = 0 }

-- all chains were offered and came back, and the end is idle
pub record HasDrivenAll (s : Script) (v : DriverView) : Type 0 where
  pub offers : Rattle.vd_ring.specs.History.offers v.done ≡ chains s
  pub collects : length (Rattle.vd_ring.specs.History.collects v.done) ≡ length (chains s)
  pub idle : v.doing ≡ now.Idle

-- no chain of the script is left, or the next has no room
abbrev pub CannotOffer : Script → DriverView → Type 0
CannotOffer s v = (c : List Piece) → slice_get (chains s) (length (offers v.done)) ≡ Some c → HasRoom v.frame v.done c → ⊥

pub record IsLawfulGuestParty {D X : Type 0} (d : DriverModel D) (m : GuestParty X) : Type 0 where
  -- a guest that isn't loaded has offered nothing, nothing came back, and it holds no end
  pub unloaded : (x : X) → m.script x ≡ None → (m.offered x ≡ 0) × (m.returned x ≡ [])
  pub held : (x : X) (v : DriverView) → m.holds x v → IsSome (m.script x)
  pub offered : (x : X) (v : DriverView) → m.holds x v → m.offered x ≡ length (offers v.done)
  -- the chains of a script without commands are offered in order, each once, and what was collected is in the list
  pub offers : (x : X) (v : DriverView) (s : Script) → m.holds x v → m.script x ≡ Some s → s.commands ≡ []
      → IsPrefix (Rattle.vd_ring.specs.History.offers v.done) (chains s)
  pub returned : (x : X) (v : DriverView) (s : Script) → m.holds x v → m.script x ≡ Some s → s.commands ≡ []
      → m.returned x ≡ map as_return (collects v.done)
  pub done : (x : X) (v : DriverView) (s : Script) → m.holds x v → m.script x ≡ Some s → s.commands ≡ [] → m.is_done x → HasDrivenAll s v
  -- it is done as soon as all came back and its end is idle
  pub finishes : (x : X) (v : DriverView) (s : Script) → m.holds x v → m.script x ≡ Some s → s.commands ≡ [] → HasDrivenAll s v
      → m.is_done x
  -- it is armed only where it can't offer
  pub armed : (x : X) (v : DriverView) (s : Script) (at : ℕ) → m.holds x v → m.script x ≡ Some s → s.commands ≡ [] → v.armed ≡ Some at
      → CannotOffer s v
  -- the same of a script with commands: they are offered in order, each once, and what was collected is in the list, with its ack
  pub sent : (x : X) (v : DriverView) (s : Script) → m.holds x v → m.script x ≡ Some s → HasCommands s → HasSent d.words s v.frame v.done
  pub acked : (x : X) (v : DriverView) (s : Script) → m.holds x v → m.script x ≡ Some s → HasCommands s → AreAcked v.done (m.returned x)
  -- it is done exactly where all came back with their acks and its end is idle
  pub sent_all : (x : X) (v : DriverView) (s : Script) → m.holds x v → m.script x ≡ Some s → HasCommands s
      → m.is_done x ↔ HasSentAll s v (m.returned x)
  pub sleeps : (x : X) (v : DriverView) (s : Script) (at : ℕ) → m.holds x v → m.script x ≡ Some s → HasCommands s → v.armed ≡ Some at
      → CannotSend d.words s v.frame v.done
  -- and each entry that it collected is in the list
  pub listed : (x : X) (v : DriverView) (s : Script) (at : ℕ) → m.holds x v → m.script x ≡ Some s → HasCommands s → v.armed ≡ Some at
      → length (m.returned x) ≡ length (Rattle.vd_ring.specs.History.collects v.done)
  pub pace : (x : X) → KeepsPace (m.accesses x) (m.heard x) (m.offered x + length (m.returned x) + m.heard x + 1)

-- it holds no end
abbrev pub HoldsNone : {X : Type 0} → GuestParty X → X → Type 0
HoldsNone m x = (v : DriverView) → m.holds x v → ⊥

-- a fresh end's view with which a guest of this script can be booted
pub record CanBoot (l : LayoutModel) (s : Script) (v : DriverView) : Type 0 where
  pub fresh : v.done ≡ []
  pub unarmed : v.armed ≡ None
  pub fits : All (Fits v.frame) (chains s)
  -- commands go to a control ring, chains to another ring
  pub other : (s.runs ≡ [] → ⊥) → v.frame.control ≡ false
  pub sends : HasCommands s → CanSend l s v.frame

-- the guest holds the end
pub record IsBoot {D X : Type 0} (d : DriverModel D) (l : LayoutModel) (m : GuestParty X) (end : D) (x y : X) : Type 0 where
  pub holds : (v : DriverView) (s : Script) → m.script x ≡ Some s → d.stands end v → CanBoot l s v → m.holds y v
  pub script : m.script y ≡ m.script x
  pub offered : m.offered y ≡ m.offered x
  pub returned : m.returned y ≡ m.returned x
  pub counts : (m.accesses y ≡ m.accesses x) × (m.heard y ≡ m.heard x)

-- what was offered and collected on the ring is there still
pub record HasDriven (v v' : DriverView) : Type 0 where
  pub offers : IsPrefix (Rattle.vd_ring.specs.History.offers v.done) (Rattle.vd_ring.specs.History.offers v'.done)
  pub collects : IsPrefix (Rattle.vd_ring.specs.History.collects v.done) (Rattle.vd_ring.specs.History.collects v'.done)

-- one access of the port was made, which was next in the view, and added at most one act; the guest holds an end for the view after
-- it. It finishes exactly where it is done after it, and looked exactly where the end is asleep
pub record IsGuestAccess {P D X : Type 0} (port : PortModel P) (d : DriverModel D) (m : GuestParty X) (p q : P) (v : DriverView)
    (x y : X) (answer : Move) : Type 0 where
  pub op : Op
  pub access : Access
  pub got : ℕ
  pub was_next : d.side.next v op access
  pub moved : port.moves p op access got q
  pub holds : m.holds y (d.side.after v op access got)
  pub script : m.script y ≡ m.script x
  pub grows : HasDriven v (d.side.after v op access got)
  pub acts : IsOneActMore v.done (d.side.after v op access got).done
  pub finished : (answer ≡ move.Finished) ↔ m.is_done y
  pub looked : (answer ≡ move.Looked) ↔ (d.act v op access got ≡ act.Asleep)
  pub accesses : m.accesses y ≡ raised (worked answer) (m.accesses x)
  pub heard : m.heard y ≡ raised (driver_woken op (d.act v op access got)) (m.heard x)

-- the guest holds an end of the port's ring
abbrev pub OwnsAsGuest : {P D X : Type 0} → PortModel P → DriverModel D → GuestParty X → P → X → Type 0
OwnsAsGuest port d m p x = (v : DriverView) × m.holds x v × IsOwn port d.side p v

-- one access, for each view for which the guest holds an end of the port's ring
abbrev pub MakesGuestAccess : {P D X : Type 0} → PortModel P → DriverModel D → GuestParty X → P → P → X → X → Move → Type 0
MakesGuestAccess port d m p q x y answer = (v : DriverView) → m.holds x v → IsOwn port d.side p v
    → IsGuestAccess port d m p q v x y answer

-- the guest has handed out the end that it held, which is idle, and holds none any more
pub record IsHalt {D X : Type 0} (d : DriverModel D) (m : GuestParty X) (x y : X) (end : D) : Type 0 where
  pub stands : (v : DriverView) → m.holds x v → d.stands end v
  pub idle : d.begun end ≡ DriverOp.idle
  pub free : HoldsNone m y
  pub script : m.script y ≡ m.script x
  pub offered : m.offered y ≡ m.offered x
  pub returned : m.returned y ≡ m.returned x
  pub counts : (m.accesses y ≡ m.accesses x) × (m.heard y ≡ m.heard x)
