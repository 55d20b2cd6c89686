-- Each access of the driver that is next keeps the ring invariant, and its answer tells what the view says.
use Rattle.std.proofs.Common.{◌≡◌, ℕ, ◌+◌, ◌%◌, ◌≤◌, Bool, List, [], ◌∷◌, ◌++◌, length, if◌then◌else◌, slice_index, slice_set, sym, ap, ◌∙◌, subst, arith, inl, inr}
use Rattle.std.proofs.lemmas.Bool.{eq-eqb, ne_eqb}
use Rattle.std.proofs.lemmas.Nat.{mod_below}
use Rattle.std.proofs.lemmas.List.Elements.{All-nil}
use Rattle.vd_bits.specs.Lanes.{lane16, lane32}
use Rattle.vd_words.specs.declared.access.Access.{Access}
use Rattle.vd_words.specs.declared.access.Access.TheVariants.{Load, Store}
use Rattle.vd_words.specs.declared.access.Op.{Op}
use Rattle.vd_words.specs.declared.access.Op.TheVariants as op
use Rattle.vd_ring.specs.declared.frame.Put.{Put}
use Rattle.vd_ring.specs.declared.driver.DriverNow.{DriverNow}
use Rattle.vd_ring.specs.declared.driver.DriverNow.TheVariants.{Idle, Offering, Entered, Collecting, Checking, Ringing, Arming, Disarming}
use Rattle.vd_ring.specs.declared.driver.DriverView.{DriverView}
use Rattle.vd_ring.specs.declared.device.DeviceView.{DeviceView}
use Rattle.vd_ring.specs.History.{offers, collects, gives, head}
use Rattle.vd_ring.specs.Control.{LoadsAck}
use Rattle.vd_ring.proofs.HeldInside.{head_low}
use Rattle.vd_split_ring.specs.SplitWords.{IsLawful, IsDescriptors, used_from, call_at, ack_word, id_word, len_word, lane_word, entry_lane, put}
use Rattle.vd_split_ring.specs.SplitDriver.{DriverNextAt, DriverNext, DriverKnows, stores, Publishes, StoresKick, LoadsCall}
use Rattle.vd_split_ring.specs.SplitRing.{Ring, Stages}
use Rattle.vd_split_ring.specs.SplitDriverLaws.{DriverKeeps}
use Rattle.vd_split_ring.proofs.Areas.{areas, area_no_descriptor, descriptor_low, entry_inside, lane_inside, devices_inside, ack_devices}
use Rattle.vd_split_ring.proofs.Descriptors.{Stands}
use Rattle.vd_split_ring.proofs.DriverOffers.{describes, enters, publishes}
use Rattle.vd_split_ring.proofs.DriverCollects.{looks, look_tells, finds, collects_last}
use Rattle.vd_split_ring.proofs.DriverControls.{stores_command, loads_ack}
use Rattle.vd_split_ring.proofs.Bells.{device_event_inside, call_stands}
use Rattle.vd_split_ring.proofs.DriverBells.{checks, rings_bell, hears}
use Rattle.vd_split_ring.proofs.DriverArming.{arms, looks_again, disarms, disarmed}

-- a word of the device's area, as the driver loads it
pub used_word : (ws : List ℕ) (d : DriverView) (e : DeviceView) (p : ℕ) → Ring ws d e → used_from d.frame ≤ p
    → p ≤ used_from d.frame + d.frame.size → slice_index ws p ≡ slice_index e.stored p
used_word ws d e p r low high = r.words.devices p (inl (low, omega arith))

knows : (ws : List ℕ) (d : DriverView) (e : DeviceView) (a : Access) → Ring ws d e
    → DriverKnows d a (Rattle.vd_words.specs.Step.answered ws a)
knows ws d e (Load p) r = λ own. r.words.drivers p own
knows ws d e (Store p x) r = tt

-- the next ring entry is no descriptor
no_entry : (d : DriverView) (p : ℕ) → IsLawful d.frame → p ≡ lane_word d.frame (entry_lane d.frame (length (offers d.done)))
    → IsDescriptors d.frame p → ⊥
no_entry d p l is = area_no_descriptor d.frame p (omega arith)
    (omega (
      arith,
      lane_inside d.frame (entry_lane d.frame (length (offers d.done)))
          (entry_inside d.frame (length (offers d.done)) l.some_place),
    ))

offering : (ws : List ℕ) (d : DriverView) (e : DeviceView) (puts : List Put) (p x : ℕ) → Ring ws (record d { doing = Offering puts }) e
    → DriverNextAt (Offering puts) (record d { doing = Offering puts }) op.Offer (Store p x)
    → DriverKeeps ws (record d { doing = Offering puts }) e op.Offer (Store p x)
offering ws d e puts p x r (inl h) =
    let doing : Stages d.frame d.done d.stored puts = r.driver_doing in
    let did = describes ws d e (Offering puts) puts p x r r.driver_armed r.kicks doing.stand h in
    let q : ℕ = lane_word d.frame (entry_lane d.frame (length (offers d.done))) in
    record {
      inside = omega (arith, r.words.wide, areas d.frame, descriptor_low d.frame p did.1);
      keeps = subst (λ (b : Bool). Ring (slice_set ws p x) (stores d p x (if b then Entered puts else Offering (puts ++ put p x ∷ [])))
          e) (sym (ne_eqb p q (λ is. no_entry d p r.lawful is did.1))) did.0;
      told = (tt, tt);
    }
offering ws d e puts p x r (inr h) =
    let did = enters ws d e puts p x r h in
    let q : ℕ = lane_word d.frame (entry_lane d.frame (length (offers d.done))) in
    record {
      inside = omega (arith, r.words.wide, areas d.frame, did.1);
      keeps = subst (λ (b : Bool). Ring (slice_set ws p x) (stores d p x (if b then Entered puts else Offering (puts ++ put p x ∷ [])))
          e) (sym (eq-eqb p q h.place)) did.0;
      told = (tt, tt);
    }

pub driver_keeps_at : (ws : List ℕ) (d : DriverView) (e : DeviceView) (now : DriverNow) (op : Op) (a : Access)
    → Ring ws (record d { doing = now }) e → DriverNextAt now (record d { doing = now }) op a
    → DriverKeeps ws (record d { doing = now }) e op a
driver_keeps_at ws d e Idle op.Offer (Store p x) r h =
    let did = describes ws d e Idle [] p x r h.0 r.kicks (All-nil (Stands d.stored)) h.1 in
    record { inside = omega (arith, r.words.wide, areas d.frame, descriptor_low d.frame p did.1); keeps = did.0; told = (tt, tt) }
driver_keeps_at ws d e (Offering puts) op.Offer (Store p x) r h = offering ws d e puts p x r h
driver_keeps_at ws d e (Entered puts) op.Offer (Store p x) r h =
    let n : Publishes d.frame d.done d.stored p x = h in record {
      inside = omega (arith, r.words.wide, areas d.frame, n.place, lane_inside d.frame 1 (omega arith));
      keeps = publishes ws d e puts p x r n;
      told = (tt, tt);
    }
driver_keeps_at ws d e Idle op.Collect (Load p) r h =
    let v : DriverView = record d { doing = Idle } in
    let g : ℕ = slice_index ws p in
    let lane : lane16 g 1 ≡ length (gives e.done) % 65536 =
    ap (λ y. lane16 y 1) (used_word ws v e p r (omega (arith, h.1)) (omega (arith, h.1)) ∙ ap (λ q. slice_index e.stored q) h.1)
    ∙ r.device_words.index in
    record {
      inside = omega (arith, r.words.wide, areas d.frame, h.1);
      keeps = looks ws d e g lane r h.0;
      told = (knows ws v e (Load p) r, look_tells ws v e g lane r);
    }
driver_keeps_at ws d e (Collecting (g ∷ [])) op.Collect (Load p) r h =
    let v : DriverView = record d { doing = Collecting (g ∷ []) } in
    let slot = mod_below (length (collects d.done)) d.frame.size r.lawful.some_place in
    let at : p ≡ id_word d.frame (length (collects d.done)) = h in
    let did = finds ws d e g (slice_index ws p) r
    (ap (λ y. lane32 y 1) (used_word ws v e p r (omega arith) (omega arith) ∙ ap (λ q. slice_index e.stored q) at)) in
    record { inside = omega (arith, r.words.wide, areas d.frame); keeps = did.0; told = (knows ws v e (Load p) r, did.1) }
driver_keeps_at ws d e (Collecting (g ∷ w ∷ [])) op.Collect (Load p) r h =
    let v : DriverView = record d { doing = Collecting (g ∷ w ∷ []) } in
    let slot = mod_below (length (collects d.done)) d.frame.size r.lawful.some_place in
    let at : p ≡ len_word d.frame (length (collects d.done)) = h in
    let did = collects_last ws d e g w (slice_index ws p) r
    (ap (λ y. lane32 y 0) (used_word ws v e p r (omega arith) (omega arith) ∙ ap (λ q. slice_index e.stored q) at)) in
    record { inside = omega (arith, r.words.wide, areas d.frame); keeps = did.0; told = (knows ws v e (Load p) r, did.1) }
driver_keeps_at ws d e (Checking old new) op.Offer (Load p) r h =
    let place = device_event_inside d.frame in record {
      inside = omega (arith, r.words.wide, areas d.frame, h, place);
      keeps = checks ws d e old new p r h;
      told = (knows ws (record d { doing = Checking old new }) e (Load p) r, tt);
    }
driver_keeps_at ws d e (Ringing old new) op.Offer (Store p x) r h =
    let n : StoresKick d.frame d.bells p x = h in
    record { inside = omega (arith, r.words.wide, n.place); keeps = rings_bell ws d e old new p x r n; told = (tt, tt) }
driver_keeps_at ws d e Idle op.Arm (Store p x) r h =
    let did = arms ws d e p x r h.0 h.1 in record {
      inside = omega (arith, r.words.wide, areas d.frame, did.1);
      keeps = did.0;
      told =
          (tt, tt);
    }
driver_keeps_at ws d e Arming op.Arm (Load p) r h =
    let v : DriverView = record d { doing = Arming } in
    let g : ℕ = slice_index ws p in
    let at : p ≡ used_from d.frame = h in
    let lane : lane16 g 1 ≡ length (gives e.done) % 65536 =
    ap (λ y. lane16 y 1) (used_word ws v e p r (omega arith) (omega arith) ∙ ap (λ q. slice_index e.stored q) at)
    ∙ r.device_words.index in
    record {
      inside = omega (arith, r.words.wide, areas d.frame);
      keeps = looks_again ws d e g lane r;
      told = (knows ws v e (Load p) r, look_tells ws v e g lane r);
    }
driver_keeps_at ws d e (Disarming o) op.Arm (Store p x) r h =
    let did = disarms ws d e (Disarming o) p x r r.kicks h.1 in
    record {
      inside = omega (arith, r.words.wide, areas d.frame, did.1);
      keeps = did.0;
      told = (tt, tt);
    }
driver_keeps_at ws d e (Disarming o) op.Hear (Store p x) r h =
    let did = disarms ws d e (Disarming o) p x r r.kicks h.1 in
    record {
      inside = omega (arith, r.words.wide, areas d.frame, did.1);
      keeps = did.0;
      told = (tt, tt);
    }
driver_keeps_at ws d e Idle op.Hear (Load p) r h =
    let at : p ≡ call_at d.frame = h.1 in
    record {
      inside = omega (arith, r.words.wide);
      keeps = hears ws d e (slice_index ws p) (ap (λ q. slice_index ws q) at ∙ call_stands ws (record d { doing = Idle }) e r) r;
      told = (knows ws (record d { doing = Idle }) e (Load p) r, tt);
    }
driver_keeps_at ws d e Idle op.Disarm (Store p x) r h =
    let did = disarms ws d e Idle p x r r.kicks h.1 in record {
      inside = omega (arith, r.words.wide, areas d.frame, did.1);
      keeps =
          did.0;
      told = (tt, tt);
    }
driver_keeps_at ws d e Idle op.Disarm (Load p) r h =
    let n : LoadsCall d.frame p = h.1 in
    record {
      inside = omega (arith, r.words.wide, n.place);
      keeps = disarmed ws d e r;
      told =
          (knows ws (record d { doing = Idle }) e (Load p) r, tt);
    }
driver_keeps_at ws d e Idle op.Control (Store p x) r h =
    let did = stores_command ws d e p x r h in record { inside = omega (arith, r.words.wide, did.1); keeps = did.0; told = (tt, tt) }
driver_keeps_at ws d e Idle op.Control (Load p) r h =
    let n : LoadsAck d.frame (ack_word d.frame) d.done p = h in
    let own = ack_devices d.frame (head d.frame d.done n.number) n.control (head_low d.frame d.done n.number r.lawful.some_place) in
    let word : slice_index ws p ≡ slice_index e.stored (ack_word d.frame (head d.frame d.done n.number)) =
    ap (λ q. slice_index ws q) n.place ∙ r.words.devices (ack_word d.frame (head d.frame d.done n.number)) own in
    record {
      inside = omega (arith, r.words.wide, n.place, devices_inside d.frame (ack_word d.frame (head d.frame d.done n.number)) own);
      keeps = loads_ack ws d e (slice_index ws p) r n.number n.control n.last word;
      told = (knows ws (record d { doing = Idle }) e (Load p) r, tt);
    }
driver_keeps_at ws d e _ _ _ r h = absurd h

-- the driver's law
pub driver_keeps : (ws : List ℕ) (d : DriverView) (e : DeviceView) (op : Op) (a : Access) → Ring ws d e → DriverNext d op a
    → DriverKeeps ws d e op a
driver_keeps ws d e op a r h = driver_keeps_at ws d e d.doing op a r h
