-- What a relay holds at each stage, and what one step of it is.
use Rattle.std.specs.Prelude.{◌≡◌, ◌⊎◌, ◌↔◌, ℕ, ◌+◌, ◌*◌, ◌≤◌, Bool, true, false, List, [], ◌∷◌, ◌++◌, length, IsTrue, if◌then◌else◌, Option, None, replicate}
use Rattle.std.specs.List.{Contains}
use Rattle.vd_model.specs.declared.chain.Piece.{Piece}
use Rattle.vd_words.specs.declared.access.Access.{Access}
use Rattle.vd_words.specs.declared.access.Op.{Op}
use Rattle.vd_words.specs.Model.{PortModel}
use Rattle.vd_ring.specs.declared.act.DriverAct.TheVariants as driver_act
use Rattle.vd_ring.specs.declared.act.DeviceAct.{DeviceAct}
use Rattle.vd_ring.specs.declared.act.DeviceAct.TheVariants as device_act
use Rattle.vd_ring.specs.declared.device.DeviceNow.TheVariants as device
use Rattle.vd_ring.specs.declared.driver.DriverNow.TheVariants as driver
use Rattle.vd_ring.specs.declared.frame.Used.{Used}
use Rattle.vd_ring.specs.declared.driver.DriverView.{DriverView}
use Rattle.vd_ring.specs.declared.device.DeviceDone.{DeviceDone}
use Rattle.vd_ring.specs.declared.device.DeviceDone.TheVariants.{Take, Give, Rest}
use Rattle.vd_ring.specs.declared.device.DeviceView.{DeviceView}
use Rattle.vd_ring.specs.History.{entry, offers, collects, open_at, takes, gives, running, occurs, IsWhole}
use Rattle.vd_ring.specs.Sleep.{driver_woken, device_woken}
use Rattle.vd_layout.specs.Begun.{DriverOp, DeviceOp}
use Rattle.vd_layout.specs.Driver.{DriverModel}
use Rattle.vd_layout.specs.Device.{DeviceModel, is_rested as is_rested_act}
use Rattle.vd_layout.specs.declared.moves.Move.{Move}
use Rattle.vd_layout.specs.declared.moves.Move.TheVariants as move
use Rattle.vd_table.specs.declared.Origin.{Origin}
use Rattle.vd_relay.specs.declared.counts.Counts.{Counts}
use Rattle.vd_relay.specs.declared.counts.Turn.{Turn}
use Rattle.vd_relay.specs.declared.counts.Turn.TheVariants.{Slept, Again}
use Rattle.vd_relay.specs.declared.stage.Stage.{Stage}
use Rattle.vd_relay.specs.declared.stage.Stage.TheVariants as stage
use Rattle.vd_relay.specs.declared.state.State.{State}
use Rattle.vd_relay.specs.Acts.{AddsOneAct}
use Rattle.vd_relay.specs.Pace.{raised, counted, handled, woke, guest_handled, shadow_handled, guest_owes, shadow_owes, KeepsPace}
use Rattle.vd_relay.specs.Stages.{is_rested, is_shadow, is_hearing, roused, GuestIs, ShadowIs, TakesFrom, OffersHand, InHand, OfferIs, BackIs, EndsIs, BeforeRest, GuestArmed, ShadowArmed, GuestShown, ShadowShown}
use Rattle.vd_relay.specs.Tie.{Course, IsTied, guests, returned}
use Rattle.vd_relay.specs.Ways.{Way, Pairs, Follows, sent, came}

-- the relay's ends stand for these views, and its acts on the two rings are tied
pub record Stands {E D : Type 0} (e : DeviceModel E) (d : DriverModel D) (z : Course) (r : State E D) (w : DeviceView) (v : DriverView)
    : Type 0 where
  pub serves : e.stands r.guest w
  pub drives : d.stands r.shadow v
  pub paired : Pairs z.way w.frame v.frame
  pub rests : e.resting r.guest ≡ is_rested r.stage
  pub acts : List DeviceDone
  pub before : BeforeRest r.stage acts w.done
  pub hand : List (List Piece)
  pub back : List Used
  pub tied : IsTied z r.table hand back acts v.frame v.done
  pub guest : GuestIs r.stage (e.begun r.guest)
  pub shadow : ShadowIs r.stage (d.begun r.shadow)
  pub takes : TakesFrom (e.begun r.guest) hand
  pub offers : OffersHand (d.begun r.shadow) hand
  pub in_hand : InHand r.stage r.winding hand
  pub offer : OfferIs r.stage (guests z) v.frame v.done
  pub to_give : BackIs (e.begun r.guest) back
  pub ends : EndsIs r.stage r.winding r.target acts v.done
  pub guest_armed : GuestArmed r.stage (e.begun r.guest) w.doing w.armed
  pub shadow_armed : ShadowArmed r.stage (d.begun r.shadow) v.doing v.armed
  pub guest_shown : GuestShown (e.begun r.guest) w.doing w.shown (e.left r.guest)
  pub shadow_shown : ShadowShown (d.begun r.shadow) v.doing v.shown (d.left r.shadow)

-- how many accesses it may make until the next chain or bell
abbrev pub owes : {E D : Type 0} → DeviceModel E → DriverModel D → State E D → DeviceView → DriverView → ℕ
owes e d r w v = if is_shadow r.stage
    then shadow_owes r.winding r.stage (d.begun r.shadow) v.doing w.shown v.shown (d.left r.shadow)
    else guest_owes r.winding r.stage (e.begun r.guest) w.doing w.shown v.shown (e.left r.guest)

-- a wind-up that is to hear a bell next has begun to
abbrev pub HearsNone : {E D : Type 0} → DeviceModel E → DriverModel D → State E D → Type 0
HearsNone e d r = r.winding ≡ true → is_hearing r.stage ≡ true → e.begun r.guest ≡ DeviceOp.idle → d.begun r.shadow ≡ DriverOp.idle → ⊥

-- it keeps its pace. Between two steps an end that hears is in its disarming store, and a wind-up is to hear no bell
pub record Holds {E D : Type 0} (e : DeviceModel E) (d : DriverModel D) (z : Course) (r : State E D) (c : Counts) (w : DeviceView)
    (v : DriverView) : Type 0 where
  pub stands : Stands e d z r w v
  pub pace : KeepsPace c (owes e d r w v)
  pub hears_guest : e.begun r.guest ≡ DeviceOp.hear → w.doing ≡ device.Idle → ⊥
  pub hears_shadow : d.begun r.shadow ≡ DriverOp.hear → v.doing ≡ driver.Idle → ⊥
  pub leaves : HearsNone e d r

-- ---- what a call leaves

-- nothing is to be given or offered: so much is collected, and all of it given
abbrev pub IsFinished : {E D : Type 0} → State E D → DeviceView → DriverView → Type 0
IsFinished r w v = (r.winding ≡ true) × (r.target ≤ length (collects v.done)) × IsWhole w.done

-- what comes next where it sleeps no more
pub record IsRoused {E D : Type 0} (e : DeviceModel E) (d : DriverModel D) (r : State E D) (w : DeviceView) (v : DriverView)
    (st : Stage) : Type 0 where
  pub finished : Bool
  pub is : st ≡ roused (e.armed r.guest) (d.armed r.shadow) r.winding finished
  pub exact : IsTrue finished ↔ IsFinished r w v

-- it stands on between the same views, and owes no more
pub record Stays {E D : Type 0} (e : DeviceModel E) (d : DriverModel D) (z : Course) (r r' : State E D) (w : DeviceView) (v : DriverView)
    : Type 0 where
  pub stands : Stands e d z r' w v
  pub owes : owes e d r' w v ≤ owes e d r w v

-- whether it winds up, and until how many are collected, is as it was
abbrev pub IsKept : {E D : Type 0} → State E D → State E D → Type 0
IsKept r r' = (r'.winding ≡ r.winding) × (r'.target ≡ r.target)

-- in the wind-up no offer is begun
abbrev pub IsQuiet : {E D : Type 0} → DriverModel D → State E D → State E D → Type 0
IsQuiet d r r' = r.winding ≡ true → (x : List Piece) → d.begun r'.shadow ≡ DriverOp.offer x → d.begun r.shadow ≡ DriverOp.offer x

-- on the guest's ring nothing is given, or one chain that runs, with the number and length of one collected on the shadow ring
abbrev pub GivesOne : List Used → List DeviceDone → List DeviceDone → Type 0
GivesOne returned s s' = (gives s' ≡ gives s)
    ⊎ ((u : Used) × (gives s' ≡ gives s ++ u ∷ []) × (1 ≤ occurs u.number (running s)) × Contains returned u)

-- a look at the one bell, after which the other's is next: no operation is in progress
pub record IsGlance {E D : Type 0} (from to : Stage) (e : DeviceModel E) (d : DriverModel D) (r r' : State E D) : Type 0 where
  pub was : r.stage ≡ from
  pub is : r'.stage ≡ to
  pub guest_idle : e.begun r'.guest ≡ DeviceOp.idle
  pub shadow_idle : d.begun r'.shadow ≡ DriverOp.idle

-- what an answer says was done on the guest's ring: a take, the give that was begun, a rest, or nothing
abbrev pub GuestDid : {E : Type 0} → DeviceModel E → DeviceAct → E → E → List DeviceDone → List DeviceDone → Type 0
GuestDid e (device_act.Taken k c) a a' s s' = (h : ℕ) × (s' ≡ Take c h ∷ s)
GuestDid e (device_act.Given k) a a' s s' = (n : ℕ) × (e.begun a ≡ DeviceOp.give k n) × (s' ≡ Give (entry k n ∷ []) ∷ s)
GuestDid e device_act.Rested a a' s s' = (e.begun a' ≡ DeviceOp.idle) × (s' ≡ Rest ∷ s)
GuestDid e _ a a' s s' = s' ≡ s

-- an access on the guest's ring
pub record GuestTurn {P E D : Type 0} (port : PortModel P) (e : DeviceModel E) (d : DriverModel D) (z : Course) (p q : P)
    (r r' : State E D) (w : DeviceView) (v : DriverView) (t : Turn) : Type 0 where
  pub op : Op
  pub access : Access
  pub got : ℕ
  pub was_next : e.side.next w op access
  pub moved : port.moves p op access got q
  pub stands : Stands e d z r' (e.side.after w op access got) v
  pub bag : GivesOne (returned z v.done) w.done (e.side.after w op access got).done
  pub handled : Rattle.vd_relay.specs.Pace.handled t ≡ guest_handled (e.act w op access got)
  pub woke : Rattle.vd_relay.specs.Pace.woke t ≡ device_woken op (e.act w op access got)
  pub slept : (t ≡ Slept) ↔ (e.act w op access got ≡ device_act.Asleep)
  pub once : t ≡ Again → ⊥
  pub did : GuestDid e (e.act w op access got) r.guest r'.guest w.done (e.side.after w op access got).done
  pub rests : is_rested r'.stage ≡ is_rested_act (e.act w op access got)
  pub live : t ≡ Slept → is_rested r'.stage ≡ false
  pub grown : length (takes w.done) + length (gives w.done) + guest_handled (e.act w op access got)
      ≤ (if is_rested r'.stage then length (takes w.done) else length (takes (e.side.after w op access got).done))
      + length (gives (e.side.after w op access got).done)
  pub hears : e.begun r'.guest ≡ DeviceOp.hear → (e.side.after w op access got).doing ≡ device.Idle → ⊥
  pub look : t ≡ Slept → IsGlance stage.HearingGuest stage.HearingShadow e d r r'
  pub leaves : (t ≡ Slept → ⊥) → HearsNone e d r'
  pub paid : owes e d r' (e.side.after w op access got) v + counted t
      ≤ owes e d r w v + 64 * (Rattle.vd_relay.specs.Pace.handled t + Rattle.vd_relay.specs.Pace.woke t)

-- an access on the shadow ring
pub record ShadowTurn {P E D : Type 0} (port : PortModel P) (e : DeviceModel E) (d : DriverModel D) (z : Course) (p q : P)
    (r r' : State E D) (w : DeviceView) (v : DriverView) (t : Turn) : Type 0 where
  pub op : Op
  pub access : Access
  pub got : ℕ
  pub was_next : d.side.next v op access
  pub moved : port.moves p op access got q
  pub stands : Stands e d z r' w (d.side.after v op access got)
  pub handled : Rattle.vd_relay.specs.Pace.handled t ≡ shadow_handled (d.act v op access got)
  pub woke : Rattle.vd_relay.specs.Pace.woke t ≡ driver_woken op (d.act v op access got)
  pub slept : (t ≡ Slept) ↔ (d.act v op access got ≡ driver_act.Asleep)
  pub again : (t ≡ Again) ↔ ((d.act v op access got ≡ driver_act.Nothing) × (r.winding ≡ true) × (IsFinished r w v → ⊥))
  -- where no chain was offered or collected, nothing was
  pub same : Rattle.vd_relay.specs.Pace.handled t ≡ 0 → (d.side.after v op access got).done ≡ v.done
  pub acts : AddsOneAct v.done (d.side.after v op access got).done
  pub live : is_rested r'.stage ≡ false
  pub grown : length (offers v.done) + length (collects v.done) + shadow_handled (d.act v op access got)
      ≤ length (offers (d.side.after v op access got).done) + length (collects (d.side.after v op access got).done)
  pub hears : d.begun r'.shadow ≡ DriverOp.hear → (d.side.after v op access got).doing ≡ driver.Idle → ⊥
  pub look : t ≡ Slept → IsGlance stage.HearingShadow stage.HearingGuest e d r r'
  pub leaves : (t ≡ Slept → ⊥) → HearsNone e d r'
  pub paid : owes e d r' w (d.side.after v op access got) + counted t
      ≤ owes e d r w v + 64 * (Rattle.vd_relay.specs.Pace.handled t + Rattle.vd_relay.specs.Pace.woke t)

-- meanwhile the other end has no operation in progress, and begins no hearing
abbrev pub ShadowWaits : {E D : Type 0} → DriverModel D → State E D → State E D → Type 0
ShadowWaits d r r' = (d.begun r.shadow ≡ DriverOp.idle) × (d.begun r'.shadow ≡ DriverOp.hear → ⊥)

abbrev pub GuestWaits : {E D : Type 0} → DeviceModel E → State E D → State E D → Type 0
GuestWaits e r r' = (e.begun r.guest ≡ DeviceOp.idle) × (e.begun r'.guest ≡ DeviceOp.hear → ⊥)

-- one access, on one of the two ports
abbrev pub OneTurn : {P Q E D : Type 0} → PortModel P → PortModel Q → DeviceModel E → DriverModel D → Course → P → P → Q → Q → State E D
    → State E D → DeviceView → DriverView → Turn → Type 0
OneTurn p q e d z a a' b b' r r' w v t = ((b' ≡ b) × ShadowWaits d r r' × GuestTurn p e d z a a' r r' w v t)
    ⊎ ((a' ≡ a) × GuestWaits e r r' × ShadowTurn q e d z b b' r r' w v t)

-- ---- a step

-- the counts after an access that did so much: each stays at the last
pub record AreCounted (c c' : Counts) (i j k : ℕ) : Type 0 where
  pub accesses : c'.accesses ≡ raised i c.accesses
  pub handled : c'.handled ≡ raised j c.handled
  pub heard : c'.heard ≡ raised k c.heard

abbrev pub unless : Bool → ℕ
unless b = if b then 0 else 1

-- a relay that sleeps looks at its two bells in turn: the one, and then the other. In a wind-up it doesn't sleep
pub record IsLook {E D : Type 0} (from to : Stage) (e : DeviceModel E) (d : DriverModel D) (r r' : State E D) : Type 0 where
  pub was : r.stage ≡ from
  pub is : r'.stage ≡ to
  pub guest_idle : e.begun r'.guest ≡ DeviceOp.idle
  pub shadow_idle : d.begun r'.shadow ≡ DriverOp.idle
  pub live : r.winding ≡ false

-- an access on the guest's ring, and how it is counted. What was taken and given grows by it; a rest takes back what was not given
pub record OnGuest {P E D : Type 0} (port : PortModel P) (e : DeviceModel E) (d : DriverModel D) (z : Course) (p q : P)
    (r r' : State E D) (c c' : Counts) (w : DeviceView) (v : DriverView) (said : Move) : Type 0 where
  pub op : Op
  pub access : Access
  pub got : ℕ
  pub was_next : e.side.next w op access
  pub moved : port.moves p op access got q
  pub holds : Holds e d z r' c' (e.side.after w op access got) v
  pub acts : AddsOneAct w.done (e.side.after w op access got).done
  pub bag : GivesOne (returned z v.done) w.done (e.side.after w op access got).done
  pub grown : length (takes w.done) + length (gives w.done) + guest_handled (e.act w op access got)
      ≤ (if is_rested r'.stage then length (takes w.done) else length (takes (e.side.after w op access got).done))
      + length (gives (e.side.after w op access got).done)
  pub looked : (said ≡ move.Looked) ↔ (e.act w op access got ≡ device_act.Asleep)
  pub look : said ≡ move.Looked → IsLook stage.HearingGuest stage.HearingShadow e d r r'
  pub slept : Bool
  pub asleep : IsTrue slept ↔ (said ≡ move.Looked)
  pub counts : AreCounted c c' (unless slept) (guest_handled (e.act w op access got)) (device_woken op (e.act w op access got))

-- an access on the shadow ring: a collect that shows nothing, and that the wind-up makes again, isn't counted
pub record OnShadow {P E D : Type 0} (port : PortModel P) (e : DeviceModel E) (d : DriverModel D) (z : Course) (p q : P)
    (r r' : State E D) (c c' : Counts) (w : DeviceView) (v : DriverView) (said : Move) : Type 0 where
  pub op : Op
  pub access : Access
  pub got : ℕ
  pub was_next : d.side.next v op access
  pub moved : port.moves p op access got q
  pub holds : Holds e d z r' c' w (d.side.after v op access got)
  pub acts : AddsOneAct v.done (d.side.after v op access got).done
  pub grown : length (offers v.done) + length (collects v.done) + shadow_handled (d.act v op access got)
      ≤ length (offers (d.side.after v op access got).done) + length (collects (d.side.after v op access got).done)
  pub looked : (said ≡ move.Looked) ↔ (d.act v op access got ≡ driver_act.Asleep)
  pub look : said ≡ move.Looked → IsLook stage.HearingShadow stage.HearingGuest e d r r'
  pub free : d.act v op access got ≡ driver_act.Nothing → e.begun r.guest ≡ DeviceOp.idle
  pub left_out : Bool
  pub uncounted : IsTrue left_out ↔ ((said ≡ move.Looked)
      ⊎ ((d.act v op access got ≡ driver_act.Nothing) × (r.winding ≡ true) × (IsFinished r w v → ⊥)))
  pub counts : AreCounted c c' (unless left_out) (shadow_handled (d.act v op access got)) (driver_woken op (d.act v op access got))

-- exactly one access, on one of the two ports
pub record IsRelayStep {P Q E D : Type 0} (p : PortModel P) (q : PortModel Q) (e : DeviceModel E) (d : DriverModel D) (z : Course)
    (a a' : P) (b b' : Q) (w : DeviceView) (v : DriverView) (r r' : State E D) (c c' : Counts) (said : Move) : Type 0 where
  pub made : ((b' ≡ b) × OnGuest p e d z a a' r r' c c' w v said) ⊎ ((a' ≡ a) × OnShadow q e d z b b' r r' c c' w v said)
  pub kept : IsKept r r'
  pub quiet : IsQuiet d r r'
  pub finished : (said ≡ move.Finished) ↔ (is_rested r'.stage ≡ true)
  pub still : said ≡ move.Looked → c' ≡ c
  -- a relay that goes on looking in place of sleeping would not keep it
  pub pace : KeepsPace c' 0

-- ---- the first, and the last

-- where it takes over
abbrev pub start : Way → DeviceView → Course
start way w = record { takes = takes w.done; gives = gives w.done; way = way }

-- the guest's end of a relay that begins to carry is free, no chain stands on the shadow ring but what was replayed, and the table is
-- empty
pub record Begins {E D : Type 0} (e : DeviceModel E) (d : DriverModel D) (way : Way) (a : E) (c : D) (table : List (Option Origin))
    (w : DeviceView) (v : DriverView) : Type 0 where
  pub serves : e.stands a w
  pub drives : d.stands c v
  pub paired : Pairs way w.frame v.frame
  pub outstanding : length (takes w.done) ≡ length (gives w.done)
  pub none_open : open_at v.done ≡ []
  pub none_sent : sent way v.done ≡ []
  pub none_came : came way v.done ≡ []
  pub follows : Follows way v.done
  pub empty : table ≡ replicate v.frame.size None

-- the guest's end rests, and all that was collected on the shadow ring was given on the guest's
pub record HandsBack {E D : Type 0} (e : DeviceModel E) (d : DriverModel D) (z : Course) (a : E) (c : D) (target : ℕ) (w : DeviceView)
    (v : DriverView) : Type 0 where
  pub serves : e.stands a w
  pub drives : d.stands c v
  pub rests : e.resting a ≡ true
  pub given : gives w.done ≡ z.gives ++ returned z v.done
  pub collected : target ≤ length (collects v.done)
