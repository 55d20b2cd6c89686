-- What holds of the device's view alone: the place of an access that is next, the frame, and what an answer says.
use Rattle.std.proofs.Common.{◌≡◌, ℕ, ◌-◌, ◌/◌, ◌%◌, ◌<◌, ◌==◌, Bool, true, false, None, List, [], ◌∷◌, ◌++◌, length, if◌then◌else◌, refl, arith, inl, inr}
use Rattle.std.proofs.lemmas.Nat.{mod_below}
use Rattle.vd_bits.specs.Lanes.{lane32}
use Rattle.vd_words.specs.declared.access.Access.{Access}
use Rattle.vd_words.specs.declared.access.Access.TheVariants.{Load, Store}
use Rattle.vd_words.specs.declared.access.Op.{Op}
use Rattle.vd_words.specs.declared.access.Op.TheVariants as op
use Rattle.vd_words.specs.Step.{place_of}
use Rattle.vd_ring.specs.declared.act.DeviceAct.{DeviceAct}
use Rattle.vd_ring.specs.declared.act.DeviceAct.TheVariants as act
use Rattle.vd_ring.specs.declared.frame.Frame.{Frame}
use Rattle.vd_ring.specs.declared.device.DeviceNow.{DeviceNow}
use Rattle.vd_ring.specs.declared.device.DeviceNow.TheVariants.{Idle, Taking, Giving, Checking, Ringing, Arming, Disarming, Resting}
use Rattle.vd_ring.specs.declared.device.DeviceView.{DeviceView}
use Rattle.vd_ring.specs.Control.{LoadsCommand, StoresAck}
use Rattle.vd_ring.specs.DeviceSteps.{Did}
use Rattle.vd_ring.specs.History.{takes, gives, running, taken_head, with_head, given}
use Rattle.vd_split_ring.specs.SplitWords.{IsLawful, IsDescriptors, width, commands_from, acks_from, entry_lane, driver_event_lane, shows, shown_from, is_whole, chain_of, command_word, ack_word}
use Rattle.vd_split_ring.specs.SplitDevice.{DeviceNextAt, DeviceNext, Names, Measures, PublishesUsed, StoresCall, StoresAvailEvent, StoresNoNotify, LoadsKick, device_wakes, LoadsChain, loaded_head, device_after_at, device_after, device_takes, device_act_at, device_act}
use Rattle.vd_split_ring.proofs.Areas.{areas, lane_inside, entry_inside, acks_follow}
use Rattle.vd_split_ring.proofs.Bells.{device_event_inside, driver_event_low}

-- ---- the place

descriptor_inside : (f : Frame) (p : ℕ) → IsDescriptors f p → p < width f
descriptor_inside f p (inl a) = omega (arith, areas f)
descriptor_inside f p (inr a) = omega (arith, areas f)

inside_at : (e : DeviceView) (doing : DeviceNow) (o : Op) (a : Access) → 0 < e.frame.size → DeviceNextAt doing e o a
    → place_of a < width e.frame
inside_at e Idle op.Take (Load p) pos h = omega (arith, areas e.frame, h.1, lane_inside e.frame 1 (omega arith))
inside_at e (Taking (r ∷ [])) op.Take (Load p) pos h =
    omega (
      arith,
      areas e.frame,
      h,
      lane_inside e.frame (entry_lane e.frame (length (takes e.done))) (entry_inside e.frame (length (takes e.done)) pos),
    )
inside_at e (Taking (r ∷ w ∷ ss)) op.Take (Load p) pos h =
    let n : LoadsChain e.frame (loaded_head e.frame (length (takes e.done)) w) ss p = h in descriptor_inside e.frame p n.inside
inside_at e Idle op.Give (Store p x) pos h = let n : Names e.frame e.done e.stored p x = h.1 in
    omega (arith, areas e.frame, n.place, mod_below (length (gives e.done)) e.frame.size pos)
inside_at e (Giving (a ∷ [])) op.Give (Store p x) pos h = let n : Measures e.frame e.done e.stored p x = h in
    omega (arith, areas e.frame, n.place, mod_below (length (gives e.done)) e.frame.size pos)
inside_at e (Giving (a ∷ b ∷ [])) op.Give (Store p x) pos h = let n : PublishesUsed e.frame e.done e.stored a b p x = h in
    omega (arith, areas e.frame, n.place)
inside_at e (Checking old new) op.Give (Load p) pos h =
    omega (arith, areas e.frame, h, lane_inside e.frame (driver_event_lane e.frame) (driver_event_low e.frame))
inside_at e (Ringing old new) op.Give (Store p x) pos h = let n : StoresCall e.frame e.bells p x = h in omega (arith, n.place)
inside_at e Idle op.Arm (Store p x) pos h = let n : StoresAvailEvent e.frame e.stored (length (takes e.done)) p x = h.1 in
    omega (arith, areas e.frame, n.place, device_event_inside e.frame)
inside_at e Arming op.Arm (Load p) pos h = omega (arith, areas e.frame, h, lane_inside e.frame 1 (omega arith))
inside_at e (Disarming k) op.Arm (Store p x) pos h = let n : StoresNoNotify e.frame e.stored p x = h.1 in
    omega (arith, areas e.frame, n.place)
inside_at e (Disarming k) op.Hear (Store p x) pos h = let n : StoresNoNotify e.frame e.stored p x = h.1 in
    omega (arith, areas e.frame, n.place)
inside_at e Idle op.Hear (Load p) pos h = omega (arith, h.1)
inside_at e Idle op.Disarm (Store p x) pos h = let n : StoresNoNotify e.frame e.stored p x = h.1 in omega (arith, areas e.frame, n.place)
inside_at e Idle op.Disarm (Load p) pos h = let n : LoadsKick e.frame p = h.1 in omega (arith, n.place)
inside_at e Idle op.Rest (Store p x) pos h = let n : StoresNoNotify e.frame e.stored p x = h.1 in omega (arith, areas e.frame, n.place)
inside_at e Idle op.Rest (Load p) pos h = let n : LoadsKick e.frame p = h.1 in omega (arith, n.place)
inside_at e Resting op.Rest (Load p) pos h = omega (arith, areas e.frame, h, lane_inside e.frame 1 (omega arith))
inside_at e Idle op.Control (Load p) pos h = let n : LoadsCommand e.frame (command_word e.frame) e.done p = h in
    omega (arith, areas e.frame, acks_follow e.frame n.control, n.place, n.inside, n.two)
inside_at e Idle op.Control (Store p x) pos h = let n : StoresAck e.frame (ack_word e.frame) e.done p = h in
    omega (arith, areas e.frame, acks_follow e.frame n.control, n.place, n.inside)
inside_at e _ _ _ pos h = absurd h

pub device_inside : (e : DeviceView) (o : Op) (a : Access) → IsLawful e.frame → DeviceNext e o a → place_of a < width e.frame
device_inside e o a l h = inside_at e e.doing o a l.some_place h

-- ---- the frame

looks_frame : (v w : DeviceView) (b : Bool) → v.frame ≡ w.frame → (if b then v else w).frame ≡ w.frame
looks_frame v w true e = e
looks_frame v w false e = refl

either_frame : (e v w : DeviceView) (b : Bool) → v.frame ≡ e.frame → w.frame ≡ e.frame → (if b then v else w).frame ≡ e.frame
either_frame e v w true a b = a
either_frame e v w false a b = b

frame_at : (doing : DeviceNow) (e : DeviceView) (o : Op) (a : Access) (r : ℕ) → (device_after_at doing e o a r).frame ≡ e.frame
frame_at Idle e op.Take (Load p) r = looks_frame (record e { seen = shown_from r (length (takes e.done)); shown = false })
    (record e { seen = shown_from r (length (takes e.done)); shown = true; doing = Taking (r ∷ []) }) (shows r (length (takes e.done))) refl
frame_at (Taking (g ∷ w ∷ ss)) e op.Take (Load p) r =
    looks_frame (device_takes e g w (ss ++ r ∷ [])) (record e { doing = Taking (g ∷ w ∷ (ss ++ r ∷ [])) })
    (is_whole e.frame (ss ++ r ∷ [])) refl
frame_at (Taking (g ∷ [])) e op.Take (Load p) r = refl
frame_at Idle e op.Give (Store p x) r = refl
frame_at (Giving (a ∷ [])) e op.Give (Store p x) r = refl
frame_at (Giving (a ∷ b ∷ [])) e op.Give (Store p x) r = refl
frame_at (Checking old new) e op.Give (Load p) r = refl
frame_at (Ringing old new) e op.Give (Store p x) r = refl
frame_at Idle e op.Arm (Store p x) r = refl
frame_at Arming e op.Arm (Load p) r =
    let t : ℕ = length (takes e.done) in
    either_frame e (record e { seen = shown_from r t; shown = false; doing = Idle })
    (record e { seen = shown_from r t; shown = true; armed = None; doing = device_wakes e.frame op.Arm }) (shows r t) refl refl
frame_at (Disarming k) e op.Arm (Store p x) r = refl
frame_at (Disarming k) e op.Hear (Store p x) r = refl
frame_at Idle e op.Hear (Load p) r = either_frame e e (record e { heard = r; armed = None; doing = device_wakes e.frame op.Hear })
    (r == e.heard) refl refl
frame_at Idle e op.Disarm (Store p x) r = refl
frame_at Idle e op.Disarm (Load p) r = refl
frame_at Idle e op.Rest (Store p x) r = refl
frame_at Idle e op.Rest (Load p) r = refl
frame_at Resting e op.Rest (Load p) r = refl
frame_at Idle e op.Control (Load p) r = refl
frame_at Idle e op.Control (Store p x) r = refl
frame_at _ e _ _ r = refl

pub device_frame : (e : DeviceView) (o : Op) (a : Access) (r : ℕ) → (device_after e o a r).frame ≡ e.frame
device_frame e o a r = frame_at e.doing e o a r

-- ---- the acts

looks_did : (e v w : DeviceView) (b : Bool) → v.done ≡ e.done → w.done ≡ e.done
    → Did (if b then act.Nothing else act.Moved) e.done (if b then v else w).done
looks_did e v w true a b = a
looks_did e v w false a b = inl b

loads_did : (e : DeviceView) (g w : ℕ) (us : List ℕ) (b : Bool)
    → Did (if b then act.Taken (length (takes e.done)) (chain_of e.frame us) else act.Moved) e.done
    (if b then device_takes e g w us else record e { doing = Taking (g ∷ w ∷ us) }).done
loads_did e g w us true = (refl, (loaded_head e.frame (length (takes e.done)) w, refl))
loads_did e g w us false = inl refl

again_did : (e v w : DeviceView) (quiet : DeviceAct) (b c : Bool) → Did quiet e.done v.done → w.done ≡ e.done
    → Did (if b then quiet else (if c then act.Awake else act.Moved)) e.done (if b then v else w).done
again_did e v w quiet true c is b = is
again_did e v w quiet false true is b = b
again_did e v w quiet false false is b = inl b

did_at : (doing : DeviceNow) (e : DeviceView) (o : Op) (a : Access) (r : ℕ)
    → Did (device_act_at doing e o a r) e.done (device_after_at doing e o a r).done
did_at Idle e op.Take (Load p) r = looks_did e (record e { seen = shown_from r (length (takes e.done)); shown = false })
    (record e { seen = shown_from r (length (takes e.done)); shown = true; doing = Taking (r ∷ []) })
    (shows r (length (takes e.done))) refl refl
did_at (Taking (g ∷ w ∷ ss)) e op.Take (Load p) r = loads_did e g w (ss ++ r ∷ []) (is_whole e.frame (ss ++ r ∷ []))
did_at (Taking (g ∷ [])) e op.Take (Load p) r = inl refl
did_at Idle e op.Give (Store p x) r = inl refl
did_at (Giving (a ∷ [])) e op.Give (Store p x) r = inl refl
did_at (Giving (a ∷ b ∷ [])) e op.Give (Store p x) r = (given e.frame e.done (lane32 a 1) (lane32 b 0), refl, refl)
did_at (Checking old new) e op.Give (Load p) r = inl refl
did_at (Ringing old new) e op.Give (Store p x) r = inl refl
did_at Idle e op.Arm (Store p x) r = inl refl
did_at Arming e op.Arm (Load p) r =
    let t : ℕ = length (takes e.done) in
    again_did e (record e { seen = shown_from r t; shown = false; doing = Idle })
    (record e { seen = shown_from r t; shown = true; armed = None; doing = device_wakes e.frame op.Arm }) act.Armed
    (shows r t) e.frame.features.event_idx refl refl
did_at (Disarming k) e op.Arm (Store p x) r = refl
did_at (Disarming k) e op.Hear (Store p x) r = refl
did_at Idle e op.Hear (Load p) r = again_did e e (record e { heard = r; armed = None; doing = device_wakes e.frame op.Hear }) act.Asleep
    (r == e.heard) e.frame.features.event_idx refl refl
did_at Idle e op.Disarm (Store p x) r = refl
did_at Idle e op.Disarm (Load p) r = refl
did_at Idle e op.Rest (Store p x) r = inl refl
did_at Idle e op.Rest (Load p) r = inl refl
did_at Resting e op.Rest (Load p) r = refl
did_at Idle e op.Control (Load p) r =
    inr (inl (with_head (taken_head e.done) (running e.done) ((p - commands_from e.frame) / 2), (p - commands_from e.frame) % 2, r, refl))
did_at Idle e op.Control (Store p x) r = inr (inr (p - acks_from e.frame, x, refl))
did_at _ e _ _ r = inl refl

pub device_did : (e : DeviceView) (o : Op) (a : Access) (r : ℕ) → Did (device_act e o a r) e.done (device_after e o a r).done
device_did e o a r = did_at e.doing e o a r
