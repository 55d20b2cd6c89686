-- What holds of the driver's view alone: each access that is next is to one of the ring's words, and no access changes the frame.
use Rattle.std.proofs.Common.{◌≡◌, ℕ, ◌+◌, ◌<◌, ◌==◌, Bool, true, false, None, List, [], ◌∷◌, ◌++◌, length, take, if◌then◌else◌, refl, sym, ap, subst, arith, inl, inr}
use Rattle.std.proofs.lemmas.Nat.{mod_below}
use Rattle.vd_model.specs.declared.chain.Piece.{Piece}
use Rattle.vd_words.specs.declared.access.Access.{Access}
use Rattle.vd_words.specs.declared.access.Access.TheVariants.{Load, Store}
use Rattle.vd_words.specs.declared.access.Op.{Op}
use Rattle.vd_words.specs.declared.access.Op.TheVariants as op
use Rattle.vd_words.specs.Step.{place_of}
use Rattle.vd_ring.specs.declared.act.DriverAct.{DriverAct}
use Rattle.vd_ring.specs.declared.act.DriverAct.TheVariants as act
use Rattle.vd_ring.specs.DriverSteps.{DriverDid}
use Rattle.std.specs.Prelude.{◌-◌, ◌/◌, ◌%◌, unwrap_or}
use Rattle.vd_bits.specs.Lanes.{lane32}
use Rattle.vd_ring.specs.declared.frame.Frame.{Frame}
use Rattle.vd_ring.specs.declared.frame.Put.{Put}
use Rattle.vd_ring.specs.declared.driver.DriverDone.{DriverDone}
use Rattle.vd_ring.specs.declared.driver.DriverNow.{DriverNow}
use Rattle.vd_ring.specs.declared.driver.DriverNow.TheVariants.{Idle, Offering, Entered, Collecting, Checking, Ringing, Arming, Disarming}
use Rattle.vd_ring.specs.declared.driver.DriverView.{DriverView}
use Rattle.vd_ring.specs.Frames.{borrowed}
use Rattle.vd_ring.specs.History.{offers, collected, collects, free, head, next_head}
use Rattle.vd_ring.specs.Control.{StoresCommand, LoadsAck, last_collected}
use Rattle.vd_ring.proofs.HeldInside.{inside, head_low, next_low}
use Rattle.vd_split_ring.specs.SplitWords.{IsLawful, commands_from, words_of, staged_chain, width, put, spelling, command_word, ack_word, id_word, len_word, entry_lane, driver_event_lane, shows, shown_from}
use Rattle.vd_split_ring.specs.SplitDriver.{Begins, Publishes, StoresKick, StoresUsedEvent, StoresNoInterrupt, LoadsCall, driver_wakes, DriverNextAt, DriverNext, driver_after_at, driver_after, driver_act_at, driver_act}
use Rattle.vd_split_ring.specs.SplitDriverLaws.{DriverAlone}
use Rattle.vd_split_ring.proofs.Tables.{IsWord, spelling_within}
use Rattle.vd_split_ring.proofs.DriverParts.{next_chain, next_free_place, needs_some, word_descriptor}
use Rattle.vd_split_ring.proofs.Direct.{IsNext, is_next}
use Rattle.vd_split_ring.proofs.Bells.{device_event_inside, driver_event_low}
use Rattle.vd_split_ring.proofs.Areas.{descriptor_low, areas, lane_inside, entry_inside, drivers_inside, devices_inside, command_drivers, ack_devices}

begins_inside : (f : Frame) (o : List DriverDone) (puts : List Put) (p x : ℕ) → IsLawful f → Begins f o (puts ++ put p x ∷ []) → p < width f
begins_inside f o puts p x l n =
    let c : List Piece = n.chain in
    let ps : List ℕ = take (borrowed f c) (free f o) in
    let pl : List Put = spelling f ps c in
    let next = next_chain f o c l n.can in
    let m : IsNext puts (put p x) pl = is_next puts (put p x) pl n.first in
    let w : IsWord f ps p = subst (λ (q : ℕ). IsWord f ps q) (sym (ap (λ (s : Put). s.place) m.is))
    (spelling_within f ps c next.0 next.1 (length puts) (put 0 0) m.left) in
    let own = word_descriptor f ps p (omega (arith, next.0, needs_some f c next.1))
    (λ q a. (inside f o).free q (next_free_place f o c q a)) w in
    omega (arith, areas f, descriptor_low f p own)

inside_at : (d : DriverView) (now : DriverNow) (op : Op) (a : Access) → IsLawful d.frame
    → DriverNextAt now (record d { doing = now }) op a → place_of a < width d.frame
inside_at d Idle op.Offer (Store p x) l h = begins_inside d.frame d.done [] p x l h.1
inside_at d (Offering puts) op.Offer (Store p x) l (inl h) = begins_inside d.frame d.done puts p x l h
inside_at d (Offering puts) op.Offer (Store p x) l (inr h) =
    omega (
      arith,
      areas d.frame,
      h.place,
      lane_inside d.frame (entry_lane d.frame (length (offers d.done))) (entry_inside d.frame (length (offers d.done)) l.some_place),
    )
inside_at d (Entered puts) op.Offer (Store p x) l h =
    let n : Publishes d.frame d.done d.stored p x = h in omega (arith, areas d.frame, n.place, lane_inside d.frame 1 (omega arith))
inside_at d Idle op.Collect (Load p) l h = omega (arith, areas d.frame, h.1)
inside_at d (Collecting (r ∷ [])) op.Collect (Load p) l h = let at : p ≡ id_word d.frame (length (collects d.done)) = h in
    omega (arith, areas d.frame, mod_below (length (collects d.done)) d.frame.size l.some_place)
inside_at d (Collecting (r ∷ w ∷ [])) op.Collect (Load p) l h = let at : p ≡ len_word d.frame (length (collects d.done)) = h in
    omega (arith, areas d.frame, mod_below (length (collects d.done)) d.frame.size l.some_place)
inside_at d Idle op.Control (Store p x) l h =
    let n : StoresCommand d.frame (command_word d.frame) d.done p = h in
    omega (
      arith,
      n.place,
      drivers_inside d.frame (command_word d.frame (next_head d.frame d.done) + n.half)
          (command_drivers d.frame (next_head d.frame d.done) n.half n.control (next_low d.frame d.done l.some_place) n.two),
    )
inside_at d Idle op.Control (Load p) l h =
    let n : LoadsAck d.frame (ack_word d.frame) d.done p = h in
    omega (
      arith,
      n.place,
      devices_inside d.frame (ack_word d.frame (head d.frame d.done n.number))
          (ack_devices d.frame (head d.frame d.done n.number) n.control (head_low d.frame d.done n.number l.some_place)),
    )
inside_at d (Checking old new) op.Offer (Load p) l h = omega (arith, areas d.frame, h, device_event_inside d.frame)
inside_at d (Ringing old new) op.Offer (Store p x) l h = let n : StoresKick d.frame d.bells p x = h in omega (arith, n.place)
inside_at d Idle op.Arm (Store p x) l h =
    let n : StoresUsedEvent d.frame d.stored (length (collects d.done)) p x = h.1 in
    omega (arith, areas d.frame, n.place, lane_inside d.frame (driver_event_lane d.frame) (driver_event_low d.frame))
inside_at d Arming op.Arm (Load p) l h = omega (arith, areas d.frame, h)
inside_at d (Disarming o) op.Arm (Store p x) l h = let n : StoresNoInterrupt d.frame d.stored p x = h.1 in
    omega (arith, areas d.frame, n.place, lane_inside d.frame 0 (omega arith))
inside_at d (Disarming o) op.Hear (Store p x) l h = let n : StoresNoInterrupt d.frame d.stored p x = h.1 in
    omega (arith, areas d.frame, n.place, lane_inside d.frame 0 (omega arith))
inside_at d Idle op.Hear (Load p) l h = omega (arith, h.1)
inside_at d Idle op.Disarm (Store p x) l h = let n : StoresNoInterrupt d.frame d.stored p x = h.1 in
    omega (arith, areas d.frame, n.place, lane_inside d.frame 0 (omega arith))
inside_at d Idle op.Disarm (Load p) l h = let n : LoadsCall d.frame p = h.1 in omega (arith, n.place)
inside_at d _ _ _ l h = absurd h

either_frame : (d v w : DriverView) (b : Bool) → v.frame ≡ d.frame → w.frame ≡ d.frame → (if b then v else w).frame ≡ d.frame
either_frame d v w true a b = a
either_frame d v w false a b = b

frame_at : (d : DriverView) (now : DriverNow) (op : Op) (a : Access) (r : ℕ)
    → (driver_after_at now (record d { doing = now }) op a r).frame ≡ d.frame
frame_at d Idle op.Collect (Load p) r = either (shows r (length (collects d.done)))
  where
    either : (b : Bool)
        → (if b then record d { doing = Idle; seen = shown_from r (length (collects d.done)); shown = false } else record d {
          seen =
              shown_from r (length (collects d.done));
          shown = true;
          doing = Collecting (r ∷ []);
        }).frame ≡ d.frame
    either true = refl
    either false = refl
frame_at d Idle op.Offer (Store p x) r = refl
frame_at d (Offering puts) op.Offer (Store p x) r = refl
frame_at d (Entered puts) op.Offer (Store p x) r = refl
frame_at d (Collecting (g ∷ [])) op.Collect (Load p) r = refl
frame_at d (Collecting (g ∷ w ∷ [])) op.Collect (Load p) r = refl
frame_at d Idle op.Control (Store p x) r = refl
frame_at d Idle op.Control (Load p) r = refl
frame_at d (Checking old new) op.Offer (Load p) r = refl
frame_at d (Ringing old new) op.Offer (Store p x) r = refl
frame_at d Idle op.Arm (Store p x) r = refl
frame_at d Arming op.Arm (Load p) r =
    let v : DriverView = record d { doing = Arming } in let m : ℕ = length (collects d.done) in
    either_frame d (record v { seen = shown_from r m; shown = false; doing = Idle })
    (record v { seen = shown_from r m; shown = true; armed = None; doing = driver_wakes d.frame op.Arm }) (shows r m) refl refl
frame_at d (Disarming o) op.Arm (Store p x) r = refl
frame_at d (Disarming o) op.Hear (Store p x) r = refl
frame_at d Idle op.Hear (Load p) r =
    let v : DriverView = record d { doing = Idle } in
    either_frame d v (record v { heard = r; armed = None; doing = driver_wakes d.frame op.Hear }) (r == d.heard) refl refl
frame_at d Idle op.Disarm (Store p x) r = refl
frame_at d Idle op.Disarm (Load p) r = refl
frame_at d _ _ _ r = refl

pub driver_alone : (d : DriverView) (op : Op) (a : Access) → IsLawful d.frame → DriverNext d op a → DriverAlone d op a
driver_alone d op a l h = record { inside = inside_at d d.doing op a l h; frame = λ r. frame_at d d.doing op a r }

pub driver_frame : (d : DriverView) (op : Op) (a : Access) (r : ℕ) → (driver_after d op a r).frame ≡ d.frame
driver_frame d op a r = frame_at d d.doing op a r

-- ---- the acts

looks_did : (d v w : DriverView) (b : Bool) → v.done ≡ d.done → w.done ≡ d.done
    → DriverDid (if b then act.Nothing else act.Moved) d.done (if b then v else w).done
looks_did d v w true a b = a
looks_did d v w false a b = inl b

again_did : (d v w : DriverView) (quiet : DriverAct) (b c : Bool) → DriverDid quiet d.done v.done → w.done ≡ d.done
    → DriverDid (if b then quiet else (if c then act.Awake else act.Moved)) d.done (if b then v else w).done
again_did d v w quiet true c is b = is
again_did d v w quiet false true is b = b
again_did d v w quiet false false is b = inl b

did_at : (now : DriverNow) (d : DriverView) (op : Op) (a : Access) (r : ℕ)
    → DriverDid (driver_act_at now d op a r) d.done (driver_after_at now d op a r).done
did_at Idle d op.Collect (Load p) r = looks_did d (record d { seen = shown_from r (length (collects d.done)); shown = false })
    (record d { seen = shown_from r (length (collects d.done)); shown = true; doing = Collecting (r ∷ []) })
    (shows r (length (collects d.done))) refl refl
did_at Idle d op.Offer (Store p x) r = inl refl
did_at (Offering puts) d op.Offer (Store p x) r = inl refl
did_at (Entered puts) d op.Offer (Store p x) r = (refl, (staged_chain d.frame (words_of puts), refl))
did_at (Collecting (g ∷ [])) d op.Collect (Load p) r = inl refl
did_at (Collecting (g ∷ w ∷ [])) d op.Collect (Load p) r = (collected d.frame d.done (lane32 w 1) (lane32 r 0), refl, refl)
did_at Idle d op.Control (Store p x) r = inr (inl ((p - commands_from d.frame) / 2, (p - commands_from d.frame) % 2, x, refl))
did_at Idle d op.Control (Load p) r = inr (inr (unwrap_or (last_collected d.done) 0, r, refl))
did_at (Checking old new) d op.Offer (Load p) r = inl refl
did_at (Ringing old new) d op.Offer (Store p x) r = inl refl
did_at Idle d op.Arm (Store p x) r = inl refl
did_at Arming d op.Arm (Load p) r =
    let m : ℕ = length (collects d.done) in
    again_did d (record d { seen = shown_from r m; shown = false; doing = Idle })
    (record d { seen = shown_from r m; shown = true; armed = None; doing = driver_wakes d.frame op.Arm }) act.Armed
    (shows r m) d.frame.features.event_idx refl refl
did_at (Disarming o) d op.Arm (Store p x) r = refl
did_at (Disarming o) d op.Hear (Store p x) r = refl
did_at Idle d op.Hear (Load p) r = again_did d d (record d { heard = r; armed = None; doing = driver_wakes d.frame op.Hear }) act.Asleep
    (r == d.heard) d.frame.features.event_idx refl refl
did_at Idle d op.Disarm (Store p x) r = refl
did_at Idle d op.Disarm (Load p) r = refl
did_at _ d _ _ r = inl refl

pub driver_did : (d : DriverView) (op : Op) (a : Access) (r : ℕ) → DriverDid (driver_act d op a r) d.done (driver_after d op a r).done
driver_did d op a r = did_at d.doing d op a r
