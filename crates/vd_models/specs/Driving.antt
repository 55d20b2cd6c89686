-- What a model guest holds from its boot on.
use Rattle.std.specs.Prelude.{◌≡◌, ◌↔◌, ℕ, ◌+◌, ◌*◌, ◌<◌, ◌≤◌, Bool, true, false, Option, Some, None, List, [], ◌∷◌, length, map, take, drop, slice_get, vec_capacity}
use Rattle.std.specs.List.{All}
use Rattle.std.specs.Option.{option_map}
use Rattle.vd_model.specs.declared.chain.Piece.{Piece}
use Rattle.vd_model.specs.declared.record.Return.{Return}
use Rattle.vd_model.specs.declared.record.Script.{Script}
use Rattle.vd_words.specs.declared.access.Access.{Access}
use Rattle.vd_words.specs.declared.access.Op.{Op}
use Rattle.vd_words.specs.Model.{PortModel}
use Rattle.vd_words.specs.Own.{IsOwn}
use Rattle.vd_ring.specs.declared.act.DriverAct.TheVariants as act
use Rattle.vd_ring.specs.declared.driver.DriverDone.{DriverDone}
use Rattle.vd_ring.specs.declared.driver.DriverView.{DriverView}
use Rattle.vd_ring.specs.declared.frame.Frame.{Frame}
use Rattle.vd_ring.specs.Frames.{Fits}
use Rattle.vd_ring.specs.History.{offers, collects, open_at, next_head}
use Rattle.vd_ring.specs.Sleep.{driver_woken}
use Rattle.vd_layout.specs.Control.{ControlWords}
use Rattle.vd_layout.specs.Driver.{DriverModel}
use Rattle.vd_layout.specs.Layout.{LayoutModel}
use Rattle.vd_bus.specs.Acts.{IsOneActMore}
use Rattle.vd_bus.specs.Guest.{HasDriven, as_return}
use Rattle.vd_bus.specs.GuestCommands.{commands, command_chain, HasCommands, HasSent, AreAcked, CanSend}
use Rattle.vd_bus.specs.Pace.{last_count}
use Rattle.vd_bus.specs.Scripts.{chains, most_scripted}
use Rattle.vd_models.specs.declared.counts.Counts.{Counts}
use Rattle.vd_models.specs.declared.counts.Turn.{Turn}
use Rattle.vd_models.specs.declared.counts.Turn.TheVariants.{Slept}
use Rattle.vd_models.specs.declared.cursor.Cursor.{Cursor}
use Rattle.vd_models.specs.declared.driving.Booted.{Booted}
use Rattle.vd_models.specs.declared.driving.Loaded.{Loaded}
use Rattle.vd_models.specs.declared.driving.GuestPhase.{GuestPhase}
use Rattle.vd_models.specs.declared.driving.GuestPhase.TheVariants as phase
use Rattle.vd_models.specs.declared.driving.GuestStage.{GuestStage}
use Rattle.vd_models.specs.declared.pending.Pending.{Pending}
use Rattle.vd_models.specs.Counting.{counted, woke}
use Rattle.vd_models.specs.Cursors.{left_at, next_at, IsSettled}
use Rattle.vd_models.specs.GuestStages.{BegunIs, DoneIs, ArmedIs, OpIs, is_done, owes}
use Rattle.vd_models.specs.Pending.{HandIs, hand_owes}

-- the end; the script and the place in it; how many chains were offered; what came back; what comes next; and what is in hand
pub record Driven (D : Type 0) : Type 0 where
  pub end : D
  pub script : Script
  pub at : Cursor
  pub offered : ℕ
  pub returned : List Return
  pub stage : GuestStage
  pub hand : Pending

abbrev pub drive : {D : Type 0} → D → Loaded → Driven D
drive e x = record {
  end = e;
  script = x.script;
  at = x.at;
  offered = x.offered;
  returned = x.returned.items;
  stage = x.stage;
  hand = x.hand;
}

-- ---- the script: of chains where it has no commands

abbrev pub by_commands : {B X : Type 0} → List B → X → X → X
by_commands [] a b = a
by_commands (c ∷ cs) a b = b

-- how many chains or commands it has
abbrev pub scripted : Script → ℕ
scripted s = by_commands s.commands (length (chains s)) (length s.commands)

-- the control chain of the next command, if one is left, at the next head
abbrev pub command_next : ControlWords → Script → Frame → List DriverDone → Option (List Piece)
command_next words s f o = option_map (command_chain words f (next_head f o)) (slice_get (commands s) (length (offers o)))

-- the next chain, if one is left
abbrev pub next_of : ControlWords → Script → Cursor → Frame → List DriverDone → Option (List Piece)
next_of words s at f o = by_commands s.commands (next_at s.runs at) (command_next words s f o)

-- the first so many chains were offered, and what was collected came back
pub record HasOffered (s : Script) (at : Cursor) (n : ℕ) (rs : List Return) (f : Frame) (o : List DriverDone) : Type 0 where
  pub left : left_at s.runs at ≡ drop n (chains s)
  pub offers : Rattle.vd_ring.specs.History.offers o ≡ take n (chains s)
  pub some : n ≤ length (chains s)
  pub returned : rs ≡ map as_return (collects o)
  pub fits : All (Fits f) (chains s)
  pub control : (s.runs ≡ [] → ⊥) → f.control ≡ false

-- the first so many commands were offered, and what was collected came back, each with its ack
pub record IsSent (words : ControlWords) (l : LayoutModel) (s : Script) (n : ℕ) (rs : List Return) (f : Frame) (o : List DriverDone)
    : Type 0 where
  pub sent : HasSent words s f o
  pub acked : AreAcked o rs
  pub offered : n ≡ length (offers o)
  pub ring : CanSend l s f
  pub plain : s.runs ≡ []

pub record Drives {D : Type 0} (d : DriverModel D) (l : LayoutModel) (x : Driven D) (v : DriverView) : Type 0 where
  pub stands : d.stands x.end v
  pub settled : IsSettled x.script.runs x.at
  pub chained : x.script.commands ≡ [] → HasOffered x.script x.at x.offered x.returned v.frame v.done
  pub sent : HasCommands x.script → IsSent d.words l x.script x.offered x.returned v.frame v.done
  pub held : HandIs d.words x.script x.returned v.frame v.done x.stage (d.begun x.end) x.hand
  pub count : length (Rattle.vd_ring.specs.History.offers v.done) ≡ length (collects v.done) + length (open_at v.done)
  pub begun : BegunIs x.stage (d.begun x.end) (next_of d.words x.script x.at v.frame v.done) v.frame v.done
  pub done : DoneIs x.stage (length x.returned) (scripted x.script)
  pub armed : ArmedIs x.stage (d.begun x.end) v.doing v.armed
  pub op : OpIs (d.begun x.end) v.doing v.shown (d.left x.end)
  pub few : scripted x.script ≤ most_scripted

-- the script's chains or commands are counted, and there is room for all that will come back
pub record IsPlan (x : Loaded) : Type 0 where
  pub total : x.total ≡ scripted x.script
  pub few : x.total ≤ most_scripted
  pub room : x.total ≤ vec_capacity x.returned

-- and it isn't done
pub record DriveOpens {D : Type 0} (d : DriverModel D) (l : LayoutModel) (x : Driven D) (v : DriverView) : Type 0 where
  pub drives : Drives d l x v
  pub live : is_done x.stage ≡ false

abbrev pub owes_at : {D : Type 0} → DriverModel D → Driven D → DriverView → ℕ
owes_at d x v = hand_owes x.hand (d.begun x.end) (d.left x.end) (owes x.stage (d.begun x.end) v.doing v.shown (d.left x.end))

-- an operation is in progress, which owes no more accesses than the guest did before it was begun
pub record BeginsDrive {D : Type 0} (d : DriverModel D) (l : LayoutModel) (v : DriverView) (x y : Driven D) : Type 0 where
  pub opens : DriveOpens d l y v
  pub owes : owes_at d y v ≤ owes_at d x v

-- what a step keeps
pub record IsKept (x y : Loaded) : Type 0 where
  pub plan : IsPlan y
  pub script : y.script ≡ x.script

-- one access of the port was made, which was next in the view, and the guest drives on at the view after it. It is paid for: by one
-- that it owed, or by a chain offered or collected, or a bell heard
pub record IsDriveTurn {P D : Type 0} (port : PortModel P) (d : DriverModel D) (l : LayoutModel) (p q : P) (v : DriverView) (x y : Driven D)
    (answer : Turn) : Type 0 where
  pub op : Op
  pub access : Access
  pub got : ℕ
  pub was_next : d.side.next v op access
  pub moved : port.moves p op access got q
  pub drives : Drives d l y (d.side.after v op access got)
  pub grows : HasDriven v (d.side.after v op access got)
  pub acts : IsOneActMore v.done (d.side.after v op access got).done
  pub looked : (answer ≡ Slept) ↔ (d.act v op access got ≡ act.Asleep)
  pub slept : answer ≡ Slept → is_done y.stage ≡ false
  pub woken : woke answer ≡ driver_woken op (d.act v op access got)
  pub paid : owes_at d y (d.side.after v op access got) + counted answer + 64 * (x.offered + length x.returned)
      ≤ owes_at d x v + 64 * (y.offered + length y.returned + woke answer)

-- a guest that may make an access of the port, and one access, for each view
abbrev pub CanDrive : {P D : Type 0} → PortModel P → DriverModel D → LayoutModel → P → Driven D → Type 0
CanDrive port d l p x = (v : DriverView) × DriveOpens d l x v × IsOwn port d.side p v

abbrev pub MakesDriveTurn : {P D : Type 0} → PortModel P → DriverModel D → LayoutModel → P → P → Driven D → Driven D → Turn → Type 0
MakesDriveTurn port d l p q x y t = (v : DriverView) → DriveOpens d l x v → IsOwn port d.side p v → IsDriveTurn port d l p q v x y t

-- ---- the guest

abbrev pub loaded_of : {D : Type 0} → GuestPhase D → Option Loaded
loaded_of phase.Unloaded = None
loaded_of (phase.Loaded x) = Some x
loaded_of (phase.Booted b) = Some b.loaded
loaded_of (phase.Halted x) = Some x

abbrev pub script_of : Option Loaded → Option Script
script_of None = None
script_of (Some x) = Some x.script

abbrev pub offered_of : Option Loaded → ℕ
offered_of None = 0
offered_of (Some x) = x.offered

abbrev pub returned_of : Option Loaded → List Return
returned_of None = []
returned_of (Some x) = x.returned.items

abbrev pub is_done_of : Option Loaded → Bool
is_done_of None = false
is_done_of (Some x) = is_done x.stage

-- it is loaded, and was not booted
abbrev pub IsLoaded : {D : Type 0} → GuestPhase D → Type 0
IsLoaded (phase.Loaded x) = IsPlan x
IsLoaded _ = ⊥

-- the accesses made and those owed are within the pace, for counts below the last
abbrev pub IsPaid : Counts → ℕ → ℕ → Type 0
IsPaid c owed did = c.accesses < last_count → c.heard < last_count → c.accesses + owed ≤ 64 * (did + c.heard + 1)

abbrev pub booted_of : {D : Type 0} → GuestPhase D → Bool
booted_of (phase.Booted b) = true
booted_of (phase.Halted x) = true
booted_of _ = false

-- a guest that was not booted has made no access
abbrev pub IsFresh : {D : Type 0} → GuestPhase D → Counts → Type 0
IsFresh p c = booted_of p ≡ false → c.accesses ≡ 0

-- it keeps the pace
abbrev pub Paces : Option Loaded → Counts → Type 0
Paces x c = IsPaid c 0 (offered_of x + length (returned_of x))

-- it was booted, and its end stands for the view
pub record IsBooted {D : Type 0} (d : DriverModel D) (l : LayoutModel) (b : Booted D) (counts : Counts) (v : DriverView) : Type 0 where
  pub plan : IsPlan b.loaded
  pub drives : Drives d l (drive b.end b.loaded) v
  pub paid : IsPaid counts (owes_at d (drive b.end b.loaded) v) (b.loaded.offered + length b.loaded.returned.items)

abbrev pub GuestHolds : {D : Type 0} → DriverModel D → LayoutModel → GuestPhase D → Counts → DriverView → Type 0
GuestHolds d l (phase.Booted b) counts v = IsBooted d l b counts v
GuestHolds d l _ counts v = ⊥
