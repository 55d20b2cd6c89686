-- What holds of the driver's view alone: the place of an access that is next, and the frame.
use Rattle.std.proofs.Common.{length, ◌==◌, ◌≡◌, ℕ, ◌+◌, ◌<◌, Bool, true, false, List, [], ◌∷◌, ◌++◌, if◌then◌else◌, None, refl, sym, subst, arith, inl, inr}
use Rattle.std.proofs.lemmas.Nat.{mod_below}
use Rattle.std.specs.Prelude.{unwrap_or, ◌-◌, ◌/◌, ◌%◌}
use Rattle.vd_ring.specs.declared.act.DriverAct.{DriverAct}
use Rattle.vd_ring.specs.declared.act.DriverAct.TheVariants as act
use Rattle.vd_ring.specs.DriverSteps.{DriverDid}
use Rattle.vd_words.specs.declared.access.Access.{Access}
use Rattle.vd_words.specs.declared.access.Access.TheVariants.{Load, Store}
use Rattle.vd_words.specs.declared.access.Op.{Op}
use Rattle.vd_words.specs.declared.access.Op.TheVariants as op
use Rattle.vd_words.specs.Step.{place_of}
use Rattle.vd_ring.specs.declared.frame.Frame.{Frame}
use Rattle.vd_ring.specs.declared.frame.Put.{Put}
use Rattle.vd_ring.specs.declared.driver.DriverDone.{DriverDone}
use Rattle.vd_ring.specs.declared.driver.DriverNow.{DriverNow}
use Rattle.vd_ring.specs.declared.driver.DriverNow.TheVariants.{Idle, Offering, Checking, Ringing, Arming, Disarming}
use Rattle.vd_ring.specs.declared.driver.DriverView.{DriverView}
use Rattle.vd_ring.specs.History.{offers, collected, head, next_head}
use Rattle.vd_ring.specs.Control.{last_collected, StoresCommand, LoadsAck}
use Rattle.vd_ring.proofs.HeldInside.{head_low, next_low}
use Rattle.vd_packed_ring.specs.PackedWords.{words_of, len_of, id_of, commands_from, IsLawful, width, driver_event, kick_at, call_at, command_word, ack_word, second_word, put, is_used}
use Rattle.vd_packed_ring.specs.PackedChains.{staged_chain}
use Rattle.vd_packed_ring.specs.PackedSignals.{StoresEvent, StoresDisable, StoresBell, LoadsBell}
use Rattle.vd_packed_ring.specs.PackedPositions.{offer_position, collect_position, later}
use Rattle.vd_model.specs.Chains.{needs}
use Rattle.vd_packed_ring.specs.PackedDriver.{Begins, driver_act, driver_after, driver_act_at, collect_act, DriverNextAt, DriverNext, driver_after_at, driver_collects, driver_offers, driver_wakes, woken_act, stores}
use Rattle.vd_packed_ring.specs.PackedDriverLaws.{DriverAlone, StoresAhead}
use Rattle.vd_packed_ring.proofs.Areas.{areas, second_inside, drivers_inside, devices_inside, command_drivers, ack_devices}
use Rattle.vd_packed_ring.proofs.Clear.{staged_past}
use Rattle.vd_packed_ring.proofs.Agreement.{stored_at, last_ahead}

ahead_inside : (f : Frame) (o : List DriverDone) (p : ℕ) → IsLawful f → StoresAhead f o p → p < width f
ahead_inside f o p l n = elim n.place [
  | inl a ↦ omega (arith, areas f, a, mod_below n.position f.size (omega (arith, l.least)))
  | inr a ↦ omega (arith, a, second_inside f n.position l.least)
]

staged_inside : (f : Frame) (o : List DriverDone) (puts : List Put) (p x : ℕ) → IsLawful f → Begins f o (puts ++ put p x ∷ []) → p < width f
staged_inside f o puts p x l n =
    let past = staged_past f (next_head f o) (offer_position f o) (needs f.features n.chain) p l.least
    (next_low f o (omega (arith, l.least))) (stored_at f o puts p x n) in
    omega (arith, past.1, areas f)

inside_at : (d : DriverView) (now : DriverNow) (op : Op) (a : Access) → IsLawful d.frame
    → DriverNextAt now (record d { doing = now }) op a → place_of a < width d.frame
inside_at d Idle op.Offer (Store p x) l h = staged_inside d.frame d.done [] p x l h.1
inside_at d (Offering puts) op.Offer (Store p x) l (inl h) = staged_inside d.frame d.done puts p x l h
inside_at d (Offering puts) op.Offer (Store p x) l (inr h) = ahead_inside d.frame d.done p l (last_ahead d.frame d.done puts p x h)
inside_at d Idle op.Collect (Load p) l h = omega (arith, h.1, second_inside d.frame (collect_position d.frame d.done) l.least)
inside_at d Idle op.Control (Store p x) l h =
    let n : StoresCommand d.frame (command_word d.frame) d.done p = h in
    omega (
      arith,
      n.place,
      drivers_inside d.frame (command_word d.frame (next_head d.frame d.done) + n.half)
          (command_drivers d.frame (next_head d.frame d.done) n.half n.control (next_low d.frame d.done (omega (arith, l.least))) n.two),
    )
inside_at d Idle op.Control (Load p) l h =
    let n : LoadsAck d.frame (ack_word d.frame) d.done p = h in
    omega (
      arith,
      n.place,
      devices_inside d.frame (ack_word d.frame (head d.frame d.done n.number))
          (ack_devices d.frame (head d.frame d.done n.number) n.control (head_low d.frame d.done n.number (omega (arith, l.least)))),
    )
inside_at d (Checking old new) op.Offer (Load p) l h = omega (arith, h, areas d.frame)
inside_at d (Ringing old new) op.Offer (Store p x) l h = let n : StoresBell (kick_at d.frame) d.bells p x = h in omega (arith, n.place)
inside_at d Idle op.Arm (Store p x) l h = let n : StoresEvent d.frame (driver_event d.frame) (collect_position d.frame d.done) p x =
    h.1 in omega (arith, n.place, areas d.frame)
inside_at d Arming op.Arm (Load p) l h = omega (arith, h, second_inside d.frame (collect_position d.frame d.done) l.least)
inside_at d (Disarming o) op.Arm (Store p x) l h = let n : StoresDisable d.frame (driver_event d.frame) p x = h.1 in
    omega (arith, n.place, areas d.frame)
inside_at d (Disarming o) op.Hear (Store p x) l h = let n : StoresDisable d.frame (driver_event d.frame) p x = h.1 in
    omega (arith, n.place, areas d.frame)
inside_at d Idle op.Hear (Load p) l h = omega (arith, h.1)
inside_at d Idle op.Disarm (Store p x) l h = let n : StoresDisable d.frame (driver_event d.frame) p x = h.1 in
    omega (arith, n.place, areas d.frame)
inside_at d Idle op.Disarm (Load p) l h = let n : LoadsBell d.frame (call_at d.frame) p = h.1 in omega (arith, n.place)
inside_at d _ _ _ l h = absurd h

either_frame : (v w : DriverView) (b : Bool) (f : Frame) → v.frame ≡ f → w.frame ≡ f → (if b then v else w).frame ≡ f
either_frame v w true f x y = x
either_frame v w false f x y = y

frame_at : (d : DriverView) (now : DriverNow) (op : Op) (a : Access) (r : ℕ)
    → (driver_after_at now (record d { doing = now }) op a r).frame ≡ d.frame
frame_at d Idle op.Collect (Load p) r =
    let v : DriverView = record d { doing = Idle } in
    either_frame (driver_collects v r) (record v { seen = later d.seen (collect_position d.frame d.done); shown = false })
    (is_used d.frame.size (collect_position d.frame d.done) r) d.frame refl refl
frame_at d Idle op.Offer (Store p x) r = refl
frame_at d (Offering puts) op.Offer (Store p x) r =
    let v : DriverView = record d { doing = Offering puts } in
    either_frame (driver_offers v puts p x) (stores v p x (Offering (puts ++ put p x ∷ [])))
    (p == (second_word d.frame.size (offer_position d.frame d.done))) d.frame refl refl
frame_at d Idle op.Control (Store p x) r = refl
frame_at d Idle op.Control (Load p) r = refl
frame_at d (Checking old new) op.Offer (Load p) r = refl
frame_at d (Ringing old new) op.Offer (Store p x) r = refl
frame_at d Idle op.Arm (Store p x) r = refl
frame_at d Arming op.Arm (Load p) r =
    let q : ℕ = collect_position d.frame d.done in
    either_frame (record d { seen = later d.seen (q + 1); shown = true; armed = None; doing = driver_wakes d.frame op.Arm })
    (record d { seen = later d.seen q; shown = false; doing = Idle }) (is_used d.frame.size q r) d.frame refl refl
frame_at d (Disarming o) op.Arm (Store p x) r = refl
frame_at d (Disarming o) op.Hear (Store p x) r = refl
frame_at d Idle op.Hear (Load p) r =
    either_frame (record d { doing = Idle }) (record d { heard = r; armed = None; doing = driver_wakes d.frame op.Hear })
    (r == d.heard) d.frame refl refl
frame_at d Idle op.Disarm (Store p x) r = refl
frame_at d Idle op.Disarm (Load p) r = refl
frame_at d _ _ _ r = refl

pub driver_frame : (d : DriverView) (op : Op) (a : Access) (r : ℕ) → (driver_after d op a r).frame ≡ d.frame
driver_frame d op a r = frame_at d d.doing op a r

pub driver_alone : (d : DriverView) (op : Op) (a : Access) → IsLawful d.frame → DriverNext d op a → DriverAlone d op a
driver_alone d op a l h = record { inside = inside_at d d.doing op a l h; frame = λ r. frame_at d d.doing op a r }

-- ---- the acts

looks_did : (v : DriverView) (r : ℕ) (b : Bool)
    → DriverDid (if b then collect_act v r else act.Nothing) v.done
    (if b then driver_collects v r else record v { seen = later v.seen (collect_position v.frame v.done); shown = false }).done
looks_did v r true = (collected v.frame v.done (id_of r) (len_of r), refl, refl)
looks_did v r false = refl

stores_did : (v : DriverView) (puts : List Put) (p x : ℕ) (b : Bool)
    → DriverDid (if b then act.Offered (length (offers v.done)) else act.Moved) v.done
    (if b then driver_offers v puts p x else stores v p x (Offering (puts ++ put p x ∷ []))).done
stores_did v puts p x true = (refl, (staged_chain v.frame (words_of puts) x, refl))
stores_did v puts p x false = inl refl

woken_did : (c : Bool) (o : List DriverDone) → DriverDid (if c then act.Awake else act.Moved) o o
woken_did true o = refl
woken_did false o = inl refl

either_did : (d : DriverView) (b : Bool) (v w : DriverView) (x y : DriverAct) → DriverDid x d.done d.done → DriverDid y d.done d.done
    → v.done ≡ d.done → w.done ≡ d.done → DriverDid (if b then x else y) d.done (if b then v else w).done
either_did d true v w x y p q is other = subst (λ (o : List DriverDone). DriverDid x d.done o) (sym is) p
either_did d false v w x y p q is other = subst (λ (o : List DriverDone). DriverDid y d.done o) (sym other) q

did_at : (now : DriverNow) (d : DriverView) (op : Op) (a : Access) (r : ℕ)
    → DriverDid (driver_act_at now d op a r) d.done (driver_after_at now d op a r).done
did_at Idle d op.Collect (Load p) r = looks_did d r (is_used d.frame.size (collect_position d.frame d.done) r)
did_at Idle d op.Offer (Store p x) r = inl refl
did_at (Offering puts) d op.Offer (Store p x) r = stores_did d puts p x (p == second_word d.frame.size (offer_position d.frame d.done))
did_at Idle d op.Control (Store p x) r = inr (inl ((p - commands_from d.frame) / 2, (p - commands_from d.frame) % 2, x, refl))
did_at Idle d op.Control (Load p) r = inr (inr (unwrap_or (last_collected d.done) 0, r, refl))
did_at (Checking old new) d op.Offer (Load p) r = inl refl
did_at (Ringing old new) d op.Offer (Store p x) r = inl refl
did_at Idle d op.Arm (Store p x) r = inl refl
did_at Arming d op.Arm (Load p) r =
    let q : ℕ = collect_position d.frame d.done in
    either_did d (is_used d.frame.size q r) (record d {
      seen = later d.seen (q + 1);
      shown = true;
      armed = None;
      doing =
          driver_wakes d.frame op.Arm;
    }) (record d { seen = later d.seen q; shown = false; doing = Idle }) (woken_act d.frame) act.Armed
    (woken_did d.frame.features.event_idx d.done) refl refl refl
did_at (Disarming o) d op.Arm (Store p x) r = refl
did_at (Disarming o) d op.Hear (Store p x) r = refl
did_at Idle d op.Hear (Load p) r =
    either_did d (r == d.heard) d (record d { heard = r; armed = None; doing = driver_wakes d.frame op.Hear }) act.Asleep
    (woken_act d.frame) refl (woken_did d.frame.features.event_idx d.done) refl refl
did_at Idle d op.Disarm (Store p x) r = refl
did_at Idle d op.Disarm (Load p) r = refl
did_at _ d _ _ r = inl refl

pub driver_did : (d : DriverView) (op : Op) (a : Access) (r : ℕ) → DriverDid (driver_act d op a r) d.done (driver_after d op a r).done
driver_did d op a r = did_at d.doing d op a r
