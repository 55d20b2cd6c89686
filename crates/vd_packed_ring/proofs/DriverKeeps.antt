-- Each access of the driver that is next keeps the ring invariant, and its answer tells what the view says.
use Rattle.std.proofs.Common.{◌≡◌, ℕ, ◌<◌, Bool, None, length, List, [], ◌∷◌, ◌++◌, if◌then◌else◌, slice_index, slice_set, refl, sym, ap, ◌∙◌, subst, arith, inl, inr}
use Rattle.std.proofs.lemmas.Bool.{eq-eqb, ne_eqb}
use Rattle.std.proofs.lemmas.List.Elements.{All-nil}
use Rattle.vd_words.specs.declared.access.Access.{Access}
use Rattle.vd_words.specs.declared.access.Access.TheVariants.{Load, Store}
use Rattle.vd_words.specs.Step.{answered}
use Rattle.vd_words.specs.declared.access.Op.{Op}
use Rattle.vd_words.specs.declared.access.Op.TheVariants as op
use Rattle.vd_ring.specs.declared.frame.Put.{Put}
use Rattle.vd_ring.specs.declared.driver.DriverNow.{DriverNow}
use Rattle.vd_ring.specs.declared.driver.DriverNow.TheVariants.{Idle, Offering, Checking, Ringing, Arming, Disarming}
use Rattle.vd_ring.specs.declared.driver.DriverView.{DriverView}
use Rattle.vd_ring.specs.declared.device.DeviceView.{DeviceView}
use Rattle.vd_ring.specs.History.{head}
use Rattle.vd_ring.specs.Control.{LoadsAck}
use Rattle.vd_ring.proofs.HeldInside.{head_low}
use Rattle.vd_packed_ring.specs.PackedWords.{driver_event, kick_at, call_at, ack_word, second_word, put}
use Rattle.vd_packed_ring.specs.PackedSignals.{StoresEvent, StoresDisable, StoresBell, LoadsBell}
use Rattle.vd_packed_ring.specs.PackedPositions.{offer_position, collect_position}
use Rattle.vd_packed_ring.specs.PackedDriver.{DriverNextAt, DriverNext, DriverKnows, stores, driver_offers}
use Rattle.vd_packed_ring.specs.PackedDriverLaws.{DriverKeeps}
use Rattle.vd_packed_ring.specs.PackedRing.{Ring, Stages}
use Rattle.vd_packed_ring.proofs.Areas.{areas, devices_inside, ack_devices, second_inside}
use Rattle.vd_packed_ring.proofs.Plans.{Stands}
use Rattle.vd_packed_ring.proofs.Offers.{describes, publishes}
use Rattle.vd_packed_ring.proofs.Collects.{looks, look_tells}
use Rattle.vd_packed_ring.proofs.Bells.{call_stands}
use Rattle.vd_packed_ring.proofs.DriverBells.{checks, rings_bell, arms, looks_again, hears, disarms, disarmed}
use Rattle.vd_packed_ring.proofs.DriverControls.{stores_command, loads_ack}

knows : (ws : List ℕ) (d : DriverView) (e : DeviceView) (a : Access) → Ring ws d e → DriverKnows d a (answered ws a)
knows ws d e (Load p) r = λ own. r.words.drivers p own
knows ws d e (Store p x) r = tt

abbrev store_after : DriverView → List Put → ℕ → ℕ → Bool → DriverView
store_after d puts p x b = if b then driver_offers d puts p x else stores d p x (Offering (puts ++ put p x ∷ []))

offering : (ws : List ℕ) (d : DriverView) (e : DeviceView) (puts : List Put) (p x : ℕ) → Ring ws (record d { doing = Offering puts }) e
    → DriverNextAt (Offering puts) (record d { doing = Offering puts }) op.Offer (Store p x)
    → DriverKeeps ws (record d { doing = Offering puts }) e op.Offer (Store p x)
offering ws d e puts p x r (inl h) =
    let doing : Stages d.frame d.done ws puts = r.driver_doing in
    let did = describes ws d e (Offering puts) puts p x r refl r.driver_armed r.kicks doing.stand h in
    record {
      inside = omega (arith, r.words.wide, did.1);
      keeps = subst (λ (b : Bool). Ring (slice_set ws p x) (store_after (record d { doing = Offering puts }) puts p x b) e)
          (sym (ne_eqb p (second_word d.frame.size (offer_position d.frame d.done)) did.2)) did.0;
      told = (tt, tt);
    }
offering ws d e puts p x r (inr h) =
    let did = publishes ws d e puts p x r h in
    record {
      inside = omega (arith, r.words.wide, second_inside d.frame (offer_position d.frame d.done) r.lawful.least, did.1);
      keeps = subst (λ (b : Bool). Ring (slice_set ws p x) (store_after (record d { doing = Offering puts }) puts p x b) e)
          (sym (eq-eqb p (second_word d.frame.size (offer_position d.frame d.done)) did.1)) did.0;
      told = (tt, tt);
    }

-- the disarming store that ends an arming or a hearing
after_waking : (ws : List ℕ) (d : DriverView) (e : DeviceView) (o : Op) (p x : ℕ) → Ring ws (record d { doing = Disarming o }) e
    → StoresDisable d.frame (driver_event d.frame) p x
    → (p < length ws) × Ring (slice_set ws p x) (record d { stored = slice_set d.stored p x; armed = None; doing = Idle }) e
after_waking ws d e o p x r n = (
  omega (arith, r.words.wide, areas d.frame, n.place),
  disarms ws d e (Disarming o) p x refl r r.kicks n,
)

pub driver_keeps_at : (ws : List ℕ) (d : DriverView) (e : DeviceView) (now : DriverNow) (op : Op) (a : Access)
    → Ring ws (record d { doing = now }) e → DriverNextAt now (record d { doing = now }) op a
    → DriverKeeps ws (record d { doing = now }) e op a
driver_keeps_at ws d e Idle op.Offer (Store p x) r h =
    let did = describes ws d e Idle [] p x r refl h.0 r.kicks (All-nil (Stands ws)) h.1 in
    record { inside = omega (arith, r.words.wide, did.1); keeps = did.0; told = (tt, tt) }
driver_keeps_at ws d e (Offering puts) op.Offer (Store p x) r h = offering ws d e puts p x r h
driver_keeps_at ws d e Idle op.Collect (Load p) r h =
    let v : DriverView = record d { doing = Idle } in
    let is : slice_index ws p ≡ slice_index ws (second_word d.frame.size (collect_position d.frame d.done)) =
    ap (λ (q : ℕ). slice_index ws q) h.1 in
    record {
      inside = omega (arith, r.words.wide, second_inside d.frame (collect_position d.frame d.done) r.lawful.least, h.1);
      keeps = looks ws d e (slice_index ws p) r h.0 is;
      told = (knows ws v e (Load p) r, look_tells ws v e (slice_index ws p) refl r is);
    }
driver_keeps_at ws d e (Checking old new) op.Offer (Load p) r h = record {
  inside = omega (arith, r.words.wide, areas d.frame, h);
  keeps = checks ws d e old new p r h;
  told = (knows ws (record d { doing = Checking old new }) e (Load p) r, tt);
}
driver_keeps_at ws d e (Ringing old new) op.Offer (Store p x) r h =
    let n : StoresBell (kick_at d.frame) d.bells p x = h in
    record { inside = omega (arith, r.words.wide, n.place); keeps = rings_bell ws d e old new p x r n; told = (tt, tt) }
driver_keeps_at ws d e Idle op.Arm (Store p x) r h =
    let n : StoresEvent d.frame (driver_event d.frame) (collect_position d.frame d.done) p x = h.1 in
    record { inside = omega (arith, r.words.wide, areas d.frame, n.place); keeps = arms ws d e p x r h.0 n; told = (tt, tt) }
driver_keeps_at ws d e Arming op.Arm (Load p) r h =
    let v : DriverView = record d { doing = Arming } in
    let at : p ≡ second_word d.frame.size (collect_position d.frame d.done) = h in
    let is : slice_index ws p ≡ slice_index ws (second_word d.frame.size (collect_position d.frame d.done)) =
    ap (λ (q : ℕ). slice_index ws q) at in
    record {
      inside = omega (arith, r.words.wide, second_inside d.frame (collect_position d.frame d.done) r.lawful.least, at);
      keeps = looks_again ws d e (slice_index ws p) r is;
      told = (knows ws v e (Load p) r, look_tells ws v e (slice_index ws p) refl r is);
    }
driver_keeps_at ws d e (Disarming o) op.Arm (Store p x) r h = let did = after_waking ws d e o p x r h.1 in
    record { inside = did.0; keeps = did.1; told = (tt, tt) }
driver_keeps_at ws d e (Disarming o) op.Hear (Store p x) r h = let did = after_waking ws d e o p x r h.1 in
    record { inside = did.0; keeps = did.1; told = (tt, tt) }
driver_keeps_at ws d e Idle op.Hear (Load p) r h =
    let at : p ≡ call_at d.frame = h.1 in
    record {
      inside = omega (arith, r.words.wide);
      keeps = hears ws d e (slice_index ws p) (ap (λ q. slice_index ws q) at ∙ call_stands ws (record d { doing = Idle }) e r) r;
      told = (knows ws (record d { doing = Idle }) e (Load p) r, tt);
    }
driver_keeps_at ws d e Idle op.Disarm (Store p x) r h =
    let n : StoresDisable d.frame (driver_event d.frame) p x = h.1 in
    record {
      inside = omega (arith, r.words.wide, areas d.frame, n.place);
      keeps = disarms ws d e Idle p x refl r r.kicks n;
      told =
          (tt, tt);
    }
driver_keeps_at ws d e Idle op.Disarm (Load p) r h =
    let n : LoadsBell d.frame (call_at d.frame) p = h.1 in
    record {
      inside = omega (arith, r.words.wide, n.place);
      keeps = disarmed ws d e r;
      told =
          (knows ws (record d { doing = Idle }) e (Load p) r, tt);
    }
driver_keeps_at ws d e Idle op.Control (Store p x) r h =
    let did = stores_command ws d e p x r h in record { inside = omega (arith, r.words.wide, did.1); keeps = did.0; told = (tt, tt) }
driver_keeps_at ws d e Idle op.Control (Load p) r h =
    let n : LoadsAck d.frame (ack_word d.frame) d.done p = h in
    let own = ack_devices d.frame (head d.frame d.done n.number) n.control
    (head_low d.frame d.done n.number (omega (arith, r.lawful.least))) in
    let word : slice_index ws p ≡ slice_index e.stored (ack_word d.frame (head d.frame d.done n.number)) =
    ap (λ q. slice_index ws q) n.place ∙ r.words.devices (ack_word d.frame (head d.frame d.done n.number)) own in
    record {
      inside = omega (arith, r.words.wide, n.place, devices_inside d.frame (ack_word d.frame (head d.frame d.done n.number)) own);
      keeps = loads_ack ws d e (slice_index ws p) r n.number n.control n.last word;
      told = (knows ws (record d { doing = Idle }) e (Load p) r, tt);
    }
driver_keeps_at ws d e _ _ _ r h = absurd h

-- the driver's law
pub driver_keeps : (ws : List ℕ) (d : DriverView) (e : DeviceView) (op : Op) (a : Access) → Ring ws d e → DriverNext d op a
    → DriverKeeps ws d e op a
driver_keeps ws d e op a r h = driver_keeps_at ws d e d.doing op a r h
