-- A replay on a fresh shadow ring of a control queue: the commands of a list, one after the other, each offered, collected and its ack
-- loaded before the next. Lists of acts have the newest first.
use Rattle.std.specs.Prelude.{◌≡◌, ◌↔◌, ◌⊎◌, ℕ, ◌+◌, ◌*◌, ◌<◌, ◌≤◌, Bool, true, false, IsTrue, Some, None, IsSome, List, [], ◌∷◌, length, slice_get, nat_lt, if◌then◌else◌}
use Rattle.vd_model.specs.declared.chain.Piece.{Piece}
use Rattle.vd_model.specs.Chains.{readable}
use Rattle.vd_words.specs.declared.access.Access.{Access}
use Rattle.vd_words.specs.declared.access.Op.{Op}
use Rattle.vd_words.specs.Model.{PortModel}
use Rattle.vd_ring.specs.declared.act.DriverAct.TheVariants as act
use Rattle.vd_ring.specs.declared.driver.DriverDone.{DriverDone}
use Rattle.vd_ring.specs.declared.driver.DriverNow.TheVariants as driver
use Rattle.vd_ring.specs.declared.driver.DriverView.{DriverView}
use Rattle.vd_ring.specs.declared.frame.Frame.{Frame}
use Rattle.vd_ring.specs.History.{offers, collects, open_at, chain, head, next_head, free}
use Rattle.vd_ring.specs.Sleep.{driver_woken}
use Rattle.vd_ring.specs.Control.{last_command, command_of, last_collected}
use Rattle.vd_layout.specs.Begun.{DriverOp}
use Rattle.vd_layout.specs.Driver.{DriverModel}
use Rattle.vd_layout.specs.Layout.{LayoutModel}
use Rattle.vd_control.specs.declared.command.Command.{Command}
use Rattle.vd_control.specs.Commands.{spelled}
use Rattle.vd_control.specs.Settings.{HasPairs, replay}
use Rattle.vd_commands.specs.Words.{command_word}
use Rattle.vd_commands.specs.Loads.{ack_load}
use Rattle.vd_relay.specs.Acts.{AddsOneAct}
use Rattle.vd_relay.specs.declared.counts.Turn.{Turn}
use Rattle.vd_relay.specs.declared.counts.Turn.TheVariants.{Slept, Woke, Worked, Again}
use Rattle.vd_relay.specs.declared.stage.Stage.{Stage}
use Rattle.vd_relay.specs.declared.stage.Stage.TheVariants as stage
use Rattle.vd_relay.specs.declared.replay.Replay.{Replay}
use Rattle.vd_relay.specs.declared.replay.ReplayStage.{ReplayStage}
use Rattle.vd_relay.specs.declared.replay.ReplayStage.TheVariants.{First, Second, Offering, Collecting, Loading, Arming, Hearing, Disarming, Done, Left}
use Rattle.vd_relay.specs.Pace.{counted, shadow_handled, take_owes, shadow_owes}
use Rattle.vd_relay.specs.Stages.{ShadowIs, ShadowArmed, ShadowShown}

abbrev pub is_done : ReplayStage → Bool
is_done Done = true
is_done _ = false

-- nothing more is done: every command was acknowledged, or the wind-up left the rest out
abbrev pub is_over : ReplayStage → Bool
is_over Done = true
is_over Left = true
is_over _ = false

-- no operation of the shadow end is made there
abbrev pub is_control : ReplayStage → Bool
is_control First = true
is_control Second = true
is_control (Loading h) = true
is_control Done = true
is_control Left = true
is_control _ = false

-- what Awake ended: a hearing, or an arming
abbrev pub replay_waking : ReplayStage → Turn
replay_waking Hearing = Woke
replay_waking _ = Worked

-- a shadow ring of a control queue
pub record IsShadowRing (l : LayoutModel) (g : Frame) : Type 0 where
  pub size : l.lawful_size g.size ≡ true
  pub packed : g.packed ≡ l.packed
  pub control : g.control ≡ true
  pub bounds : g.bounds ≡ None
  pub number : 16 ≤ g.ring

-- ---- what was sent

-- chain k carries the command: as many bytes, and its two words
pub record IsCarried (g : Frame) (b : Command) (o : List DriverDone) (k : ℕ) : Type 0 where
  pub bytes : readable (chain o k) ≡ length (spelled b)
  pub first : command_of g o k 0 ≡ command_word (spelled b) 0
  pub second : command_of g o k 1 ≡ command_word (spelled b) 1

-- the chains offered carry the first commands of the list, one each and in order
abbrev pub AreCarried : List Command → Frame → List DriverDone → Type 0
AreCarried cs g o = (k : ℕ) (b : Command) → k < length (offers o) → slice_get cs k ≡ Some b → IsCarried g b o k

-- an ack was loaded for exactly the first n chains
abbrev pub AreAcked : ℕ → List DriverDone → Type 0
AreAcked n o = (k : ℕ) → IsSome (ack_load o k) ↔ (k < n)

-- ---- where it stands

-- n chains were offered, and all collected
pub record IsBetween (o : List DriverDone) (n : ℕ) : Type 0 where
  pub offered : length (offers o) ≡ n
  pub collected : length (collects o) ≡ n
  pub none : open_at o ≡ []

-- chain n was offered, and all before it collected
pub record Awaits (o : List DriverDone) (n : ℕ) : Type 0 where
  pub offered : length (offers o) ≡ n + 1
  pub collected : length (collects o) ≡ n
  pub one : open_at o ≡ n ∷ []

-- word i of command n stands in the next head
abbrev pub IsStored : List Command → ℕ → Frame → List DriverDone → ℕ → Type 0
IsStored cs n g o i = (b : Command) → slice_get cs n ≡ Some b → last_command o (next_head g o) i ≡ command_word (spelled b) i

-- by the stage, with n commands acknowledged
abbrev pub IsAt : ReplayStage → List Command → ℕ → Frame → List DriverDone → Type 0
IsAt First cs n g o = (n < length cs) × IsBetween o n
IsAt Second cs n g o = (n < length cs) × IsBetween o n × IsStored cs n g o 0
IsAt Offering cs n g o = (n < length cs) × IsBetween o n × IsStored cs n g o 0 × IsStored cs n g o 1
IsAt Collecting cs n g o = (n < length cs) × Awaits o n
IsAt (Loading h) cs n g o = (n < length cs) × IsBetween o (n + 1) × (last_collected o ≡ Some n) × (h ≡ head g o n) × (h < g.size)
IsAt Arming cs n g o = (n < length cs) × Awaits o n
IsAt Hearing cs n g o = (n < length cs) × Awaits o n
IsAt Disarming cs n g o = (n < length cs) × Awaits o n
IsAt Done cs n g o = (n ≡ length cs) × IsBetween o n
IsAt Left cs n g o = (n < length cs) × (IsBetween o n ⊎ Awaits o n)

-- in the wind-up, and where nothing more can come: no chain is open, or as many are collected as were given
abbrev pub LeavesOut : Replay → List DriverDone → Type 0
LeavesOut r o = (r.winding ≡ true) × (IsBetween o r.next ⊎ (Awaits o r.next × (r.target ≤ length (collects o))))

-- the chain on offer has as many readable bytes as the command
abbrev pub OffersIt : DriverOp → List Command → ℕ → Type 0
OffersIt (DriverOp.offer c) cs n = (b : Command) → slice_get cs n ≡ Some b → readable c ≡ length (spelled b)
OffersIt _ cs n = Unit {0}

-- the stage of a relay at which its shadow end does the same
abbrev pub as_stage : ReplayStage → Stage
as_stage Offering = stage.Offering 0 0
as_stage Collecting = stage.Collecting false
as_stage Arming = stage.ArmingShadow
as_stage Hearing = stage.HearingShadow
as_stage Disarming = stage.DisarmingShadow
as_stage _ = stage.Giving

pub record Replays {D : Type 0} (l : LayoutModel) (d : DriverModel D) (r : Replay) (x : D) (v : DriverView) : Type 0 where
  pub drives : d.stands x v
  pub ring : IsShadowRing l v.frame
  pub pairs : HasPairs r.settings
  pub counted : r.count ≡ length (replay r.settings)
  pub few : r.count ≤ 4105
  pub at : IsAt r.stage (replay r.settings) r.next v.frame v.done
  pub carried : AreCarried (replay r.settings) v.frame v.done
  pub acked : AreAcked r.next v.done
  pub op : ShadowIs (as_stage r.stage) (d.begun x)
  pub offer : OffersIt (d.begun x) (replay r.settings) r.next
  pub armed : ShadowArmed (as_stage r.stage) (d.begun x) v.doing v.armed
  pub shown : ShadowShown (d.begun x) v.doing v.shown (d.left x)
  -- only in a wind-up it disarms
  pub disarms : r.stage ≡ Disarming → r.winding ≡ true
  -- only a wind-up leaves the rest out
  pub left : r.stage ≡ Left → LeavesOut r v.done

-- a wind-up that is to hear the bell next has begun to
abbrev pub HearsNone : {D : Type 0} → DriverModel D → Replay → D → Type 0
HearsNone d r x = r.winding ≡ true → r.stage ≡ Hearing → d.begun x ≡ DriverOp.idle → ⊥

-- between two steps an end that hears is in its disarming store, and a wind-up is to hear no bell
pub record ReplayHolds {D : Type 0} (l : LayoutModel) (d : DriverModel D) (r : Replay) (x : D) (v : DriverView) : Type 0 where
  pub replays : Replays l d r x v
  pub hears : d.begun x ≡ DriverOp.hear → v.doing ≡ driver.Idle → ⊥
  pub leaves : HearsNone d r x

-- a fresh end of such a ring
pub record IsFreshShadow {D : Type 0} (l : LayoutModel) (d : DriverModel D) (x : D) (v : DriverView) : Type 0 where
  pub drives : d.stands x v
  pub ring : IsShadowRing l v.frame
  pub unused : v.done ≡ []
  pub idle : d.begun x ≡ DriverOp.idle
  pub unarmed : d.armed x ≡ false

-- how many accesses it may make until the next chain is offered or collected, or the next bell heard; after the last ack, as many as
-- a relay that begins to take
abbrev pub replay_owes : {D : Type 0} → DriverModel D → Bool → ReplayStage → D → DriverView → ℕ
replay_owes d winding First x v = 40
replay_owes d winding Second x v = 39
replay_owes d winding (Loading h) x v = 48
replay_owes d winding Done x v = take_owes false false false
replay_owes d winding Left x v = take_owes true false false
replay_owes d winding st x v = shadow_owes winding (as_stage st) (d.begun x) v.doing false v.shown (d.left x)

-- what comes where n of so many commands were acknowledged
abbrev pub after_ack : ℕ → ℕ → ReplayStage
after_ack n count = if nat_lt n count then First else Done

-- the two pieces of a control chain, by the places of its first command word and of its ack word
abbrev pub control_chain : ℕ → ℕ → ℕ → List Piece
control_chain at_command at_ack len = record { addr = 8 * at_command; len = len; write = false }
    ∷ record { addr = 8 * at_ack; len = 1; write = true } ∷ []

-- an end of a shadow ring between two operations, which has a place for a further chain
pub record HasNext {D : Type 0} (l : LayoutModel) (d : DriverModel D) (x : D) (v : DriverView) : Type 0 where
  pub drives : d.stands x v
  pub ring : IsShadowRing l v.frame
  pub idle : d.begun x ≡ DriverOp.idle
  pub room : 1 ≤ length (free v.frame v.done)

-- ---- a step

-- it stands on between two accesses, and owes no more
pub record Winds {D : Type 0} (l : LayoutModel) (d : DriverModel D) (r r' : Replay) (x : D) (v : DriverView) : Type 0 where
  pub holds : ReplayHolds l d r' x v
  pub owes : replay_owes d r'.winding r'.stage x v ≤ replay_owes d r.winding r.stage x v

-- the stage between two operations of a wind-up: a command that isn't offered is left out, and one that is on the ring is collected,
-- unless so many are collected
abbrev pub wound : ReplayStage → Bool → ReplayStage
wound First enough = Left
wound Second enough = Left
wound Collecting enough = if enough then Left else Collecting
wound Arming enough = if enough then Left else Collecting
wound st enough = st

-- what comes next, by whether as many are collected as were given
abbrev pub IsWound : Replay → Replay → DriverView → Type 0
IsWound r r' v = (enough : Bool) × (IsTrue enough ↔ (r.target ≤ length (collects v.done))) × (r'.stage ≡ wound r.stage enough)

-- its end has begun an operation; it owes no more
pub record Goes {D : Type 0} (l : LayoutModel) (d : DriverModel D) (r : Replay) (x x' : D) (v : DriverView) : Type 0 where
  pub replays : Replays l d r x' v
  pub owes : replay_owes d r.winding r.stage x' v ≤ replay_owes d r.winding r.stage x v

-- an offer is begun only with the second word
abbrev pub BeginsOffer : {D : Type 0} → DriverModel D → ReplayStage → D → D → Type 0
BeginsOffer d st x x' = (c : List Piece) → d.begun x' ≡ DriverOp.offer c → (st ≡ Second) ⊎ (d.begun x ≡ DriverOp.offer c)

-- how much of it was acknowledged
abbrev pub IsAsFar : Replay → Replay → Type 0
IsAsFar r r' = (r'.settings ≡ r.settings) × (r'.count ≡ r.count) × (r'.next ≡ r.next)

-- what is replayed, and how much of it
abbrev pub IsSameReplay : Replay → Replay → Type 0
IsSameReplay r r' = (r'.settings ≡ r.settings) × (r'.count ≡ r.count) × (r'.winding ≡ r.winding) × (r'.target ≡ r.target)

-- one access of the shadow ring, which was next
pub record ReplayTurn {Q D : Type 0} (port : PortModel Q) (l : LayoutModel) (d : DriverModel D) (p q : Q) (r r' : Replay) (x x' : D)
    (v : DriverView) (t : Turn) : Type 0 where
  pub op : Op
  pub access : Access
  pub got : ℕ
  pub was_next : d.side.next v op access
  pub moved : port.moves p op access got q
  pub holds : ReplayHolds l d r' x' (d.side.after v op access got)
  pub acts : AddsOneAct v.done (d.side.after v op access got).done
  pub grown : length (offers (d.side.after v op access got).done) + length (collects (d.side.after v op access got).done)
      ≡ length (offers v.done) + length (collects v.done) + Rattle.vd_relay.specs.Pace.handled t
  pub slept : (t ≡ Slept) ↔ (d.act v op access got ≡ act.Asleep)
  pub handled : Rattle.vd_relay.specs.Pace.handled t ≡ shadow_handled (d.act v op access got)
  -- it sleeps only while it waits for a command, and not in a wind-up
  pub awake : t ≡ Slept → (r.winding ≡ false) × (r'.stage ≡ Hearing) × (d.begun x' ≡ DriverOp.idle)
  -- a collect of the wind-up that shows nothing is made again, and isn't counted
  pub again : (t ≡ Again) ↔ ((d.act v op access got ≡ act.Nothing) × (r.winding ≡ true))
  -- a command is on the shadow ring then
  pub waits : t ≡ Again → length (collects v.done) < length (replay r.settings)
  pub woke : Rattle.vd_relay.specs.Pace.woke t ≡ driver_woken op (d.act v op access got)
  pub paid : replay_owes d r'.winding r'.stage x' (d.side.after v op access got) + counted t
      ≤ replay_owes d r.winding r.stage x v + 64 * (Rattle.vd_relay.specs.Pace.handled t + Rattle.vd_relay.specs.Pace.woke t)
