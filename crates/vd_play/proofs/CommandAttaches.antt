-- The control queue's lane begins an epoch once its device is attached, by what it holds.
use Rattle.std.proofs.Common.{◌≡◌, ℕ, ◌+◌, ◌<◌, ◌≤◌, Bool, true, false, if◌then◌else◌, Option, Some, None, IsSomeAnd, List, [], ◌∷◌, ◌++◌, zero, suc, length, slice_get, refl, sym, ◌∙◌, ap, subst, inr, arith, length-append}
use Rattle.vd_words.specs.Plain.{RingWords}
use Rattle.vd_ring.specs.declared.device.DeviceView.{DeviceView}
use Rattle.vd_ring.specs.declared.frame.Frame.{Frame}
use Rattle.vd_ring.specs.Fresh.{fresh_device}
use Rattle.vd_layout.specs.Driver.{DriverModel}
use Rattle.vd_layout.specs.Device.{DeviceModel}
use Rattle.vd_layout.specs.Layout.{LayoutModel, IsLawfulLayout}
use Rattle.vd_layout.specs.declared.device.DeviceEnd as device_end
use Rattle.vd_layout.specs.declared.driver.DriverEnd as driver_end
use Rattle.vd_layout.specs.declared.layout.Layout as layout
use Rattle.vd_bus.specs.Device.{IsAttach}
use Rattle.vd_control.specs.declared.settings.Settings.{Settings}
use Rattle.vd_control.specs.Settings.{default, HasPairs}
use Rattle.vd_relay.specs.declared.control.Control.{Control}
use Rattle.vd_relay.specs.declared.counts.Counts.{Counts}
use Rattle.vd_relay.specs.declared.state.State.{State}
use Rattle.vd_relay.specs.Modes.{has_replayed}
use Rattle.vd_switch.specs.declared.still.Still.{Still}
use Rattle.vd_switch.specs.Stills.{Replays, IsNew}
use Rattle.vd_machine.specs.File.{Plan}
use Rattle.vd_play.specs.declared.command_lane.CommandLane.{CommandLane}
use Rattle.vd_play.specs.declared.floor.Relaying.{Relaying}
use Rattle.vd_play.specs.declared.floor.ShadowRing.{ShadowRing}
use Rattle.vd_play.specs.CommandLane.{command_resets}
use Rattle.vd_play.specs.CommandProgress.{CommandRelayingBy, CommandStoppedWith, IsCommandStopped}
use Rattle.vd_play.specs.CommandProgress.Next.{guests}
use Rattle.vd_play.specs.CommandRenewing.{CommandRenewed}
use Rattle.vd_play.specs.Commands.{settings_at}
use Rattle.vd_play.specs.ControlJournal.{journalled_at}
use Rattle.vd_play.specs.ControlRing.{control_order}
use Rattle.vd_play.specs.ControlRings.{control_frame, control_shadow_frame, IsControlRing, HasControlKits}
use Rattle.vd_play.specs.Epochs.{mode_at, renewed_at}
use Rattle.vd_play.specs.Setting.{Setting, IsLawful}
use Rattle.vd_play.proofs.CommandBegin.{IsCount, set_renewed}
use Rattle.vd_play.proofs.CommandBegins.{commands_start, commands_set}
use Rattle.vd_play.proofs.ControlEpochs.{pairs_at}
use Rattle.vd_play.proofs.Lists.{some_same}
use Rattle.vd_play.proofs.Renewals.{Renews, renews}

-- ---- the shadow rings

got_more : {A : Type 0} (xs ys : List A) (i : ℕ) (x : A) → slice_get xs i ≡ Some x → slice_get (xs ++ ys) i ≡ Some x
got_more [] ys i x is = absurd (cc)
got_more (y ∷ xs) ys zero x is = is
got_more (y ∷ xs) ys (suc i) x is = got_more xs ys i x is

got_end : {A : Type 0} (xs : List A) (x : A) → slice_get (xs ++ x ∷ []) (length xs) ≡ Some x
got_end [] x = refl
got_end (y ∷ xs) x = got_end xs x

module _ {L D E : Type 0} (d : DriverModel D) (e : DeviceModel E) (l : LayoutModel) (plan : Plan) (k : ℕ)
    (kits : List (ShadowRing L D E)) (h : HasControlKits d e l plan k kits) where
  -- there is one for the epoch
  pub some_ring : k < length plan.switches + 2 → 1 ≤ length kits
  some_ring less = omega (arith, h.many, less)

  module _ (rest : List (ShadowRing L D E)) (ring : ShadowRing L D E) (is : kits ≡ rest ++ ring ∷ []) where
    one_more : length kits ≡ length rest + 1
    one_more = ap length is ∙ length-append rest (ring ∷ [])

    pub ring_is : IsControlRing d e l plan k ring
    ring_is = h.each k (length rest) ring (omega (arith, h.many, one_more))
        (ap (λ (xs : List (ShadowRing L D E)). slice_get xs (length rest)) is ∙ got_end rest ring)

    -- and the others are for those behind it
    pub rings_left : HasControlKits d e l plan (k + 1) rest
    rings_left = record {
      many = omega (arith, h.many, one_more);
      each = λ j i x at got. h.each j i x at (ap (λ (xs : List (ShadowRing L D E)). slice_get xs i) is ∙ got_more rest (ring ∷ []) i x got);
    }

-- its device's end is at the base of a fresh ring
pub control_kit_base : {D E : Type 0} (d : DriverModel D) (e : DeviceModel E) (l : LayoutModel) (plan : Plan) (k : ℕ) {L : Type 0}
    (ring : ShadowRing L D E) → IsLawfulLayout d e l → IsControlRing d e l plan k ring → e.base ring.kit.device ≡ l.fresh_base
control_kit_base d e l plan k ring law is =
    let frame : Frame = control_shadow_frame l plan k in
    let stands = is.kit.ends.serves frame (record { packed = refl; size = refl; features = refl; control = refl }) in
    law.device_end.based ring.kit.device (fresh_device frame (l.width frame)) stands (inr is.kit.ends.unused) ∙ law.based frame

-- ---- before the attach

module _ {L D E G X C : Type 0} {i : layout.Ghosts L D E} {j : driver_end.Ghosts D} {h : device_end.Ghosts E} (s : Setting D E G X C)
    (plan : Plan) (k : ℕ) where
  -- the lane holds what a stop left, and no relay
  pub still_held : (words : RingWords) (still : Option (Still L D E i j h)) (o : Option (Relaying L D E)) (relayed : ℕ) (guest : G)
      (device : X) → CommandStoppedWith s plan k words still o relayed guest device
      → (x : Still L D E i j h) × (still ≡ Some x)
      × IsCommandStopped s plan k 0 words x.end x.control x.settings relayed guest device
  still_held words (Some x) None relayed guest device p = (x, refl, p)
  still_held words None o relayed guest device p = absurd p
  still_held words (Some x) (Some y) relayed guest device p = absurd p

  -- so it is still, and its device was reset or not
  pub record StandsStill (lane : CommandLane L D E i j h) (still : Still L D E i j h) (guest : G) (device : X) : Type 0 where
    pub before : X
    pub stopped : IsCommandStopped s plan k 0 lane.words still.end still.control still.settings lane.relayed guest before
    pub renewed : Renews s.party (command_resets plan k) before device
    pub set : s.party.settings device ≡ (if renewed_at plan k then default else settings_at plan k)
    pub kits : HasControlKits s.driver s.device s.layout plan k lane.kits.items

  pub stands_still : (lane : CommandLane L D E i j h) (still : Still L D E i j h) (guest : G) (device : X) → lane.still ≡ Some still
      → CommandRenewed s plan k lane guest device → StandsStill lane still guest device
  stands_still lane still guest device is p =
      let held = still_held lane.words lane.still lane.relaying lane.relayed guest p.before p.stopped.held in
      let stopped : IsCommandStopped s plan k 0 lane.words still.end still.control still.settings lane.relayed guest p.before =
      subst (λ (z : Still L D E i j h). IsCommandStopped s plan k 0 lane.words z.end z.control z.settings lane.relayed guest p.before)
      (some_same held.0 still lane.still held.1 is) held.2 in
      record {
        before = p.before;
        stopped = stopped;
        renewed = renews s.party (renewed_at plan k) (journalled_at plan k) p.before device stopped.rests.begun p.renewed;
        set = set_renewed s.party (renewed_at plan k) (settings_at plan k) p.before device stopped.rests.set p.renewed;
        kits = p.stopped.kits;
      }

  -- its settings are lawful
  pub still_pairs : (lane : CommandLane L D E i j h) (still : Still L D E i j h) (guest : G) (device : X)
      → StandsStill lane still guest device → HasPairs still.settings
  still_pairs lane still guest device b =
      subst HasPairs (sym b.stopped.rests.kept) (pairs_at plan k b.stopped.kept.driven.queue.sendable.bytes)

-- the end that rests has the machine's size and features
pub end_sized : {D E G X C : Type 0} (s : Setting D E G X C) (law : IsLawful s) (plan : Plan) (k : ℕ) (words : RingWords) (end : E)
    (control : Bool) (settings : Settings) (relayed : ℕ) (guest : G) (device : X)
    → IsCommandStopped s plan k 0 words end control settings relayed guest device → (w : DeviceView) → s.device.stands end w
    → (w.frame.size ≡ plan.size) × (w.frame.features ≡ plan.features)
end_sized s law plan k words end control settings relayed guest device p w stands =
    let framed : p.device_view.frame ≡ control_frame s.layout plan =
    (law.layout.wide words.words p.view p.device_view p.kept.driven.ring).1 ∙ p.kept.driven.part.framed in
    let own = law.layout.device_end.sized end p.device_view p.rests.stands in
    let here = law.layout.device_end.sized end w stands in (
      sym here.0 ∙ own.0 ∙ ap (λ (f : Frame). f.size) framed,
      sym here.1 ∙ own.1 ∙ ap (λ (f : Frame). f.features) framed,
    )

-- ---- the attach

module _ {L D E G X C : Type 0} (s : Setting D E G X C) (law : IsLawful s) (plan : Plan) (k : ℕ) (words : RingWords) (end : E)
    (of_control : Bool) (settings : Settings) (relayed : ℕ) (guest : G) (device device1 device' : X) (ring : ShadowRing L D E)
    (r : State E D) (c : Counts) (count : ℕ) (less : k < length plan.switches + 2)
    (p : IsCommandStopped s plan k 0 words end of_control settings relayed guest device)
    (n : Renews s.party (command_resets plan k) device device1)
    (set : s.party.settings device1 ≡ (if renewed_at plan k then default else settings_at plan k))
    (many : IsCount plan k count)
    (kit : IsControlRing s.driver s.device s.layout plan k ring)
    (fresh : IsNew r c)
    (a : IsAttach s.device s.party (control_order s.layout plan (mode_at plan k) k count) None ring.kit.device device1 device')
  where
    -- a relay of a control queue was made
    abbrev pub IsMade : Option Control → Type 0
    IsMade o = IsSomeAnd o (λ y. Replays s.layout s.device s.driver (renewed_at plan k) settings end ring.kit.driver ring.kit.table r y c)

    starts_by : (o : Option Control) (w : Bool) → w ≡ false → IsMade o
        → CommandRelayingBy o w s plan guests k 0 words ring.words.words r settings c relayed guest device'
    starts_by (Some y) false off of =
        commands_start s law plan k words end of_control settings relayed guest device device1 device' ring r y c count less p n set many
        kit of fresh a
    starts_by (Some y) true off of = absurd (cc)
    starts_by None w off of = absurd of

    pub begins_by : (o : Option Control) → IsMade o
        → CommandRelayingBy o r.winding s plan guests k 0 words ring.words.words r settings c relayed guest device'
    begins_by o of = starts_by o r.winding fresh.winding of

    -- where nothing is replayed its device has set all at once
    pub set_by : (o : Option Control) → IsMade o → has_replayed o ≡ true → s.party.settings device' ≡ settings_at plan k
    set_by (Some y) of all =
        commands_set s law plan k words end of_control settings relayed guest device device1 device' ring r y c count less p n set many
        kit of fresh a all
    set_by None of all = absurd of
