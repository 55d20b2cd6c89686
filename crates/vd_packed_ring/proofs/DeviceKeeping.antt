-- Each access of the device that is next keeps the ring invariant, and its answer tells what the view says.
use Rattle.std.proofs.Common.{◌≡◌, ℕ, ◌<◌, true, false, List, ◌∷◌, slice_index, slice_set, refl, sym, ap, ◌∙◌, subst, arith, inl, inr}
use Rattle.vd_words.specs.declared.access.Access.{Access}
use Rattle.vd_words.specs.declared.access.Access.TheVariants.{Load, Store}
use Rattle.vd_words.specs.declared.access.Op.{Op}
use Rattle.vd_words.specs.declared.access.Op.TheVariants as op
use Rattle.vd_ring.specs.declared.frame.Frame.{Frame}
use Rattle.vd_ring.specs.declared.driver.DriverView.{DriverView}
use Rattle.vd_ring.specs.declared.device.DeviceNow.{DeviceNow}
use Rattle.vd_ring.specs.declared.device.DeviceNow.TheVariants.{Idle, Taking, Checking, Ringing, Arming, Disarming, Resting}
use Rattle.vd_ring.specs.declared.device.DeviceView.{DeviceView}
use Rattle.vd_ring.specs.laws.Signals.{wakes}
use Rattle.vd_packed_ring.specs.PackedWords.{IsDescriptors, driver_event, device_event, kick_at, call_at, second_word, width}
use Rattle.vd_packed_ring.specs.PackedSignals.{StoresEvent, StoresBell, LoadsBell}
use Rattle.vd_packed_ring.specs.PackedPositions.{take_position}
use Rattle.vd_packed_ring.specs.PackedDevice.{DeviceNextAt, DeviceNext}
use Rattle.vd_packed_ring.specs.PackedDeviceLaws.{DeviceKeeps}
use Rattle.vd_packed_ring.specs.PackedRing.{Ring, chains_out, chains_in}
use Rattle.vd_packed_ring.proofs.Areas.{areas, drivers_inside, devices_inside, second_inside}
use Rattle.vd_packed_ring.proofs.Bells.{kick_stands}
use Rattle.vd_packed_ring.proofs.DeviceParts.{knows}
use Rattle.vd_packed_ring.proofs.Takes.{look_tells, looks, loads}
use Rattle.vd_packed_ring.proofs.Gives.{returns, rests}
use Rattle.vd_packed_ring.proofs.DeviceControls.{commands, acks}
use Rattle.vd_packed_ring.proofs.DeviceBells.{checks, rings_bell, arms, looks_again, hears, disarms, disarmed, begins_rest}

pub descriptors_inside : (f : Frame) (p : ℕ) → IsDescriptors f p → p < width f
descriptors_inside f p (inl a) = omega (arith, areas f)
descriptors_inside f p (inr a) = omega (arith, areas f, a.1)

pub device_keeps_at : (ws : List ℕ) (d : DriverView) (e : DeviceView) (doing : DeviceNow) (o : Op) (a : Access)
    → Ring ws d (record e { frame = d.frame; doing = doing }) → DeviceNextAt doing (record e { frame = d.frame; doing = doing }) o a
    → DeviceKeeps ws d (record e { frame = d.frame; doing = doing }) o a
device_keeps_at ws d e Idle op.Take (Load p) r h =
    let E : DeviceView = record e { frame = d.frame; doing = Idle } in
    let is : slice_index ws p ≡ slice_index ws (second_word d.frame.size (take_position d.frame e.done)) =
    ap (λ (q : ℕ). slice_index ws q) h.1 in
    record {
      inside = omega (arith, r.words.wide, second_inside d.frame (take_position d.frame e.done) r.lawful.least, h.1);
      keeps = looks ws d e (slice_index ws p) r h.0 is;
      told = (knows ws d E (Load p) r, look_tells ws d E (slice_index ws p) r is);
    }
device_keeps_at ws d e (Taking (w ∷ us)) op.Take (Load p) r h =
    let E : DeviceView = record e { frame = d.frame; doing = Taking (w ∷ us) } in
    let did = loads ws d e w us p r h.place in
    record {
      inside = omega (arith, r.words.wide, descriptors_inside d.frame p h.inside);
      keeps = did.0;
      told =
          (knows ws d E (Load p) r, did.1);
    }
device_keeps_at ws d e Idle op.Give (Store p x) r h =
    let did = returns ws d e p x r h.0 h.1 in record { inside = omega (arith, r.words.wide, did.1); keeps = did.0; told = (tt, tt) }
device_keeps_at ws d e (Checking old new) op.Give (Load p) r h =
    let at : p ≡ driver_event d.frame = h in
    record {
      inside = omega (arith, r.words.wide, drivers_inside d.frame (driver_event d.frame) (inr (inl refl)));
      keeps = checks ws d e old new p r h;
      told = (knows ws d (record e { frame = d.frame; doing = Checking old new }) (Load p) r, tt);
    }
device_keeps_at ws d e (Ringing old new) op.Give (Store p x) r h =
    let n : StoresBell (call_at d.frame) e.bells p x = h in
    record { inside = omega (arith, r.words.wide, n.place); keeps = rings_bell ws d e old new p x r n; told = (tt, tt) }
device_keeps_at ws d e Idle op.Arm (Store p x) r h =
    let n : StoresEvent d.frame (device_event d.frame) (take_position d.frame e.done) p x = h.1 in
    record {
      inside = omega (arith, r.words.wide, n.place, devices_inside d.frame (device_event d.frame) (inl refl));
      keeps =
          arms ws d e p x r n;
      told = (tt, tt);
    }
device_keeps_at ws d e Arming op.Arm (Load p) r h =
    let E : DeviceView = record e { frame = d.frame; doing = Arming } in
    let at : p ≡ second_word d.frame.size (take_position d.frame e.done) = h in
    let is : slice_index ws p ≡ slice_index ws (second_word d.frame.size (take_position d.frame e.done)) =
    ap (λ (q : ℕ). slice_index ws q) at in
    record {
      inside = omega (arith, r.words.wide, second_inside d.frame (take_position d.frame e.done) r.lawful.least);
      keeps = looks_again ws d e (slice_index ws p) r is;
      told = (knows ws d E (Load p) r, look_tells ws d E (slice_index ws p) r is);
    }
device_keeps_at ws d e (Disarming o) op.Arm (Store p x) r h =
    let did = disarms ws d e (Disarming o) Idle p x r tt tt
    (wakes (chains_out d) (chains_in (record e { frame = d.frame; doing = Disarming o })) true r.kicks) r.calls h.1 in
    record {
      inside = omega (arith, r.words.wide, did.1);
      keeps = did.0;
      told = (tt, tt);
    }
device_keeps_at ws d e (Disarming o) op.Hear (Store p x) r h =
    let did = disarms ws d e (Disarming o) Idle p x r tt tt
    (wakes (chains_out d) (chains_in (record e { frame = d.frame; doing = Disarming o })) true r.kicks) r.calls h.1 in
    record {
      inside = omega (arith, r.words.wide, did.1);
      keeps = did.0;
      told = (tt, tt);
    }
device_keeps_at ws d e Idle op.Hear (Load p) r h =
    let E : DeviceView = record e { frame = d.frame; doing = Idle } in
    let at : p ≡ kick_at d.frame = h.1 in
    record {
      inside = omega (arith, r.words.wide);
      keeps =
          hears ws d e (slice_index ws p) (ap (λ (q : ℕ). slice_index ws q) at ∙ kick_stands ws d E r) r;
      told =
          (knows ws d E (Load p) r, tt);
    }
device_keeps_at ws d e Idle op.Disarm (Store p x) r h =
    let did = disarms ws d e Idle Idle p x r tt tt
    (wakes (chains_out d) (chains_in (record e { frame = d.frame; doing = Idle })) true r.kicks) r.calls h.1 in
    record { inside = omega (arith, r.words.wide, did.1); keeps = did.0; told = (tt, tt) }
device_keeps_at ws d e Idle op.Disarm (Load p) r h =
    let n : LoadsBell d.frame (kick_at d.frame) p = h.1 in
    record {
      inside = omega (arith, r.words.wide, n.place);
      keeps = disarmed ws d e r;
      told =
          (knows ws d (record e { frame = d.frame; doing = Idle }) (Load p) r, tt);
    }
device_keeps_at ws d e Idle op.Rest (Store p x) r h =
    let did = disarms ws d e Idle Resting p x r h.0 refl
    (wakes (chains_out d) (chains_in (record e { frame = d.frame; doing = Idle })) false r.kicks) r.calls h.1 in
    record { inside = omega (arith, r.words.wide, did.1); keeps = did.0; told = (tt, tt) }
device_keeps_at ws d e Idle op.Rest (Load p) r h =
    let n : LoadsBell d.frame (kick_at d.frame) p = h.1 in
    record {
      inside = omega (arith, r.words.wide, n.place);
      keeps = begins_rest ws d e r h.0;
      told =
          (knows ws d (record e { frame = d.frame; doing = Idle }) (Load p) r, tt);
    }
device_keeps_at ws d e Resting op.Rest (Load p) r h =
    let E : DeviceView = record e { frame = d.frame; doing = Resting } in
    let at : p ≡ second_word d.frame.size (take_position d.frame e.done) = h in
    let is : slice_index ws p ≡ slice_index ws (second_word d.frame.size (take_position d.frame e.done)) =
    ap (λ (q : ℕ). slice_index ws q) at in
    record {
      inside = omega (arith, r.words.wide, second_inside d.frame (take_position d.frame e.done) r.lawful.least);
      keeps = rests ws d e (slice_index ws p) r is;
      told = (knows ws d E (Load p) r, (look_tells ws d E (slice_index ws p) r is).1);
    }
device_keeps_at ws d e Idle op.Control (Load p) r h =
    let did = commands ws d e p r h in record {
      inside = omega (arith, r.words.wide, did.1);
      keeps = did.0;
      told =
          (knows ws d (record e { frame = d.frame; doing = Idle }) (Load p) r, tt);
    }
device_keeps_at ws d e Idle op.Control (Store p x) r h =
    let did = acks ws d e p x r h in record { inside = omega (arith, r.words.wide, did.1); keeps = did.0; told = (tt, tt) }
device_keeps_at ws d e _ _ _ r h = absurd h

-- the device's law
pub device_keeps : (ws : List ℕ) (d : DriverView) (e : DeviceView) (o : Op) (a : Access) → Ring ws d e → DeviceNext e o a
    → DeviceKeeps ws d e o a
device_keeps ws d e o a r h =
    subst (λ (f : Frame). Ring ws d (record e { frame = f }) → DeviceNext (record e { frame = f }) o a
    → DeviceKeeps ws d (record e { frame = f }) o a) (sym r.same) (device_keeps_at ws d e e.doing o a) r h
