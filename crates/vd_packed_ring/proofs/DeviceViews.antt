-- What holds of the device's view alone: the place of an access that is next, the frame, and what an answer says.
use Rattle.std.proofs.Common.{◌≡◌, ℕ, ◌+◌, ◌-◌, ◌/◌, ◌%◌, ◌<◌, ◌≤◌, ◌==◌, Bool, true, false, None, List, [], ◌∷◌, ◌++◌, length, if◌then◌else◌, refl, arith, inl, inr}
use Rattle.vd_words.specs.declared.access.Access.{Access}
use Rattle.vd_words.specs.declared.access.Access.TheVariants.{Load, Store}
use Rattle.vd_words.specs.declared.access.Op.{Op}
use Rattle.vd_words.specs.declared.access.Op.TheVariants as op
use Rattle.vd_words.specs.Step.{place_of}
use Rattle.vd_ring.specs.declared.act.DeviceAct.{DeviceAct}
use Rattle.vd_ring.specs.declared.act.DeviceAct.TheVariants as act
use Rattle.vd_ring.specs.declared.frame.Frame.{Frame}
use Rattle.vd_ring.specs.declared.device.DeviceNow.{DeviceNow}
use Rattle.vd_ring.specs.declared.device.DeviceNow.TheVariants.{Idle, Taking, Checking, Ringing, Arming, Disarming, Resting}
use Rattle.vd_ring.specs.declared.device.DeviceView.{DeviceView}
use Rattle.vd_ring.specs.Control.{LoadsCommand, StoresAck}
use Rattle.vd_ring.specs.DeviceSteps.{Did}
use Rattle.vd_ring.specs.History.{takes, running, taken_head, with_head, given}
use Rattle.vd_packed_ring.specs.PackedWords.{IsLawful, width, driver_event, device_event, kick_at, call_at, commands_from, acks_from, command_word, ack_word, len_of, id_of, is_available}
use Rattle.vd_packed_ring.specs.PackedChains.{loaded_head, is_whole, chain_of}
use Rattle.vd_packed_ring.specs.PackedSignals.{StoresEvent, StoresDisable, StoresBell, LoadsBell}
use Rattle.vd_packed_ring.specs.PackedPositions.{take_position, give_position, later}
use Rattle.vd_packed_ring.specs.PackedDevice.{DeviceNextAt, DeviceNext, Returns, LoadsChain, device_after_at, device_after, device_takes, device_wakes, device_act_at, device_act}
use Rattle.vd_packed_ring.proofs.Areas.{areas, acks_follow, drivers_inside, devices_inside, second_inside}
use Rattle.vd_packed_ring.proofs.DeviceKeeping.{descriptors_inside}

-- ---- the place

event_inside : (f : Frame) → device_event f < width f
event_inside f = devices_inside f (device_event f) (inl refl)

inside_at : (e : DeviceView) (doing : DeviceNow) (o : Op) (a : Access) → 2 ≤ e.frame.size → DeviceNextAt doing e o a
    → place_of a < width e.frame
inside_at e Idle op.Take (Load p) pos h = omega (arith, h.1, second_inside e.frame (take_position e.frame e.done) pos)
inside_at e (Taking (w ∷ us)) op.Take (Load p) pos h = let n : LoadsChain e.frame (take_position e.frame e.done) (w ∷ us) p = h in
    descriptors_inside e.frame p n.inside
inside_at e Idle op.Give (Store p x) pos h = let n : Returns e.frame e.done p x = h.1 in
    omega (arith, n.place, second_inside e.frame (give_position e.frame e.done) pos)
inside_at e (Checking old new) op.Give (Load p) pos h = omega (arith, h, drivers_inside e.frame (driver_event e.frame) (inr (inl refl)))
inside_at e (Ringing old new) op.Give (Store p x) pos h = let n : StoresBell (call_at e.frame) e.bells p x = h in omega (arith, n.place)
inside_at e Idle op.Arm (Store p x) pos h = let n : StoresEvent e.frame (device_event e.frame) (take_position e.frame e.done) p x =
    h.1 in omega (arith, n.place, event_inside e.frame)
inside_at e Arming op.Arm (Load p) pos h = omega (arith, h, second_inside e.frame (take_position e.frame e.done) pos)
inside_at e (Disarming k) op.Arm (Store p x) pos h = let n : StoresDisable e.frame (device_event e.frame) p x = h.1 in
    omega (arith, n.place, event_inside e.frame)
inside_at e (Disarming k) op.Hear (Store p x) pos h = let n : StoresDisable e.frame (device_event e.frame) p x = h.1 in
    omega (arith, n.place, event_inside e.frame)
inside_at e Idle op.Hear (Load p) pos h = omega (arith, h.1)
inside_at e Idle op.Disarm (Store p x) pos h = let n : StoresDisable e.frame (device_event e.frame) p x = h.1 in
    omega (arith, n.place, event_inside e.frame)
inside_at e Idle op.Disarm (Load p) pos h = let n : LoadsBell e.frame (kick_at e.frame) p = h.1 in omega (arith, n.place)
inside_at e Idle op.Rest (Store p x) pos h = let n : StoresDisable e.frame (device_event e.frame) p x = h.1 in
    omega (arith, n.place, event_inside e.frame)
inside_at e Idle op.Rest (Load p) pos h = let n : LoadsBell e.frame (kick_at e.frame) p = h.1 in omega (arith, n.place)
inside_at e Resting op.Rest (Load p) pos h = omega (arith, h, second_inside e.frame (take_position e.frame e.done) pos)
inside_at e Idle op.Control (Load p) pos h = let n : LoadsCommand e.frame (command_word e.frame) e.done p = h in
    omega (arith, areas e.frame, acks_follow e.frame n.control, n.place, n.inside, n.two)
inside_at e Idle op.Control (Store p x) pos h = let n : StoresAck e.frame (ack_word e.frame) e.done p = h in
    omega (arith, areas e.frame, acks_follow e.frame n.control, n.place, n.inside)
inside_at e _ _ _ pos h = absurd h

pub device_inside : (e : DeviceView) (o : Op) (a : Access) → IsLawful e.frame → DeviceNext e o a → place_of a < width e.frame
device_inside e o a l h = inside_at e e.doing o a l.least h

-- ---- the frame

either_frame : (v w : DeviceView) (b : Bool) → v.frame ≡ w.frame → (if b then v else w).frame ≡ w.frame
either_frame v w true e = e
either_frame v w false e = refl

both_frame : (e v w : DeviceView) (b : Bool) → v.frame ≡ e.frame → w.frame ≡ e.frame → (if b then v else w).frame ≡ e.frame
both_frame e v w true a b = a
both_frame e v w false a b = b

abbrev pub saw : DeviceView → ℕ → DeviceView
saw e r = record e { seen = later e.seen (take_position e.frame e.done + 1); shown = true; doing = Taking (r ∷ []) }

abbrev pub saw_none : DeviceView → DeviceView
saw_none e = record e { seen = later e.seen (take_position e.frame e.done); shown = false }

-- after the second look of an arming, and after a bell that was heard
abbrev pub saw_again : DeviceView → DeviceView
saw_again e = record e {
  seen = later e.seen (take_position e.frame e.done + 1);
  shown = true;
  armed = None;
  doing =
      device_wakes e.frame op.Arm;
}

abbrev pub sleeps : DeviceView → DeviceView
sleeps e = record e { seen = later e.seen (take_position e.frame e.done); shown = false; doing = Idle }

abbrev pub heard : DeviceView → ℕ → DeviceView
heard e r = record e { heard = r; armed = None; doing = device_wakes e.frame op.Hear }

frame_at : (doing : DeviceNow) (e : DeviceView) (o : Op) (a : Access) (r : ℕ) → (device_after_at doing e o a r).frame ≡ e.frame
frame_at Idle e op.Take (Load p) r = either_frame (saw e r) (saw_none e) (is_available e.frame.size (take_position e.frame e.done) r) refl
frame_at (Taking (w ∷ us)) e op.Take (Load p) r =
    either_frame (device_takes e (w ∷ us ++ r ∷ [])) (record e { doing = Taking (w ∷ us ++ r ∷ []) })
    (is_whole e.frame (w ∷ us ++ r ∷ [])) refl
frame_at Idle e op.Give (Store p x) r = refl
frame_at (Checking old new) e op.Give (Load p) r = refl
frame_at (Ringing old new) e op.Give (Store p x) r = refl
frame_at Idle e op.Arm (Store p x) r = refl
frame_at Arming e op.Arm (Load p) r =
    both_frame e (saw_again e) (sleeps e) (is_available e.frame.size (take_position e.frame e.done) r) refl refl
frame_at (Disarming k) e op.Arm (Store p x) r = refl
frame_at (Disarming k) e op.Hear (Store p x) r = refl
frame_at Idle e op.Hear (Load p) r = both_frame e e (heard e r) (r == e.heard) refl refl
frame_at Idle e op.Disarm (Store p x) r = refl
frame_at Idle e op.Disarm (Load p) r = refl
frame_at Idle e op.Rest (Store p x) r = refl
frame_at Idle e op.Rest (Load p) r = refl
frame_at Resting e op.Rest (Load p) r = refl
frame_at Idle e op.Control (Load p) r = refl
frame_at Idle e op.Control (Store p x) r = refl
frame_at _ e _ _ r = refl

pub device_frame : (e : DeviceView) (o : Op) (a : Access) (r : ℕ) → (device_after e o a r).frame ≡ e.frame
device_frame e o a r = frame_at e.doing e o a r

-- ---- the acts

looks_did : (e v w : DeviceView) (b : Bool) → v.done ≡ e.done → w.done ≡ e.done
    → Did (if b then act.Moved else act.Nothing) e.done (if b then v else w).done
looks_did e v w true a b = inl a
looks_did e v w false a b = b

loads_did : (e : DeviceView) (us : List ℕ) (b : Bool)
    → Did (if b then act.Taken (length (takes e.done)) (chain_of e.frame us) else act.Moved) e.done
    (if b then device_takes e us else record e { doing = Taking us }).done
loads_did e us true = (refl, (loaded_head e.frame us, refl))
loads_did e us false = inl refl

-- a look or a hearing that may wake
wakes_did : (e v w : DeviceView) (quiet : DeviceAct) (b c : Bool) → v.done ≡ e.done → Did quiet e.done w.done
    → Did (if b then (if c then act.Awake else act.Moved) else quiet) e.done (if b then v else w).done
wakes_did e v w quiet true true a is = a
wakes_did e v w quiet true false a is = inl a
wakes_did e v w quiet false c a is = is

hears_did : (e v w : DeviceView) (b c : Bool) → v.done ≡ e.done → w.done ≡ e.done
    → Did (if b then act.Asleep else (if c then act.Awake else act.Moved)) e.done (if b then v else w).done
hears_did e v w true c a b = a
hears_did e v w false true a b = b
hears_did e v w false false a b = inl b

did_at : (doing : DeviceNow) (e : DeviceView) (o : Op) (a : Access) (r : ℕ)
    → Did (device_act_at doing e o a r) e.done (device_after_at doing e o a r).done
did_at Idle e op.Take (Load p) r = looks_did e (saw e r) (saw_none e) (is_available e.frame.size (take_position e.frame e.done) r) refl refl
did_at (Taking (w ∷ us)) e op.Take (Load p) r = loads_did e (w ∷ us ++ r ∷ []) (is_whole e.frame (w ∷ us ++ r ∷ []))
did_at Idle e op.Give (Store p x) r = (given e.frame e.done (id_of x) (len_of x), refl, refl)
did_at (Checking old new) e op.Give (Load p) r = inl refl
did_at (Ringing old new) e op.Give (Store p x) r = inl refl
did_at Idle e op.Arm (Store p x) r = inl refl
did_at Arming e op.Arm (Load p) r =
    wakes_did e (saw_again e) (sleeps e) act.Armed (is_available e.frame.size (take_position e.frame e.done) r)
    e.frame.features.event_idx refl refl
did_at (Disarming k) e op.Arm (Store p x) r = refl
did_at (Disarming k) e op.Hear (Store p x) r = refl
did_at Idle e op.Hear (Load p) r = hears_did e e (heard e r) (r == e.heard) e.frame.features.event_idx refl refl
did_at Idle e op.Disarm (Store p x) r = refl
did_at Idle e op.Disarm (Load p) r = refl
did_at Idle e op.Rest (Store p x) r = inl refl
did_at Idle e op.Rest (Load p) r = inl refl
did_at Resting e op.Rest (Load p) r = refl
did_at Idle e op.Control (Load p) r =
    inr (inl (with_head (taken_head e.done) (running e.done) ((p - commands_from e.frame) / 2), (p - commands_from e.frame) % 2, r, refl))
did_at Idle e op.Control (Store p x) r = inr (inr (p - acks_from e.frame, x, refl))
did_at _ e _ _ r = inl refl

pub device_did : (e : DeviceView) (o : Op) (a : Access) (r : ℕ) → Did (device_act e o a r) e.done (device_after e o a r).done
device_did e o a r = did_at e.doing e o a r
