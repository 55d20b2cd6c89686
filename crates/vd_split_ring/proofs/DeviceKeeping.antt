-- Each access of the device that is next keeps the ring invariant, and what it tells.
use Rattle.std.proofs.Common.{◌≡◌, ℕ, ◌%◌, ◌<◌, true, false, List, [], ◌∷◌, ◌++◌, length, slice_index, refl, sym, ap, ◌∙◌, subst, arith, inl, inr}
use Rattle.vd_bits.specs.Lanes.{lane16}
use Rattle.vd_words.specs.declared.access.Access.{Access}
use Rattle.vd_words.specs.declared.access.Access.TheVariants.{Load, Store}
use Rattle.vd_words.specs.declared.access.Op.{Op}
use Rattle.vd_words.specs.declared.access.Op.TheVariants as op
use Rattle.vd_ring.specs.declared.frame.Frame.{Frame}
use Rattle.vd_ring.specs.declared.driver.DriverView.{DriverView}
use Rattle.vd_ring.specs.declared.device.DeviceNow.{DeviceNow}
use Rattle.vd_ring.specs.declared.device.DeviceNow.TheVariants.{Idle, Taking, Giving, Checking, Ringing, Arming, Disarming, Resting}
use Rattle.vd_ring.specs.declared.device.DeviceView.{DeviceView}
use Rattle.vd_ring.specs.History.{offers, takes}
use Rattle.vd_split_ring.specs.SplitWords.{IsDrivers, IsDescriptors, used_from, kick_at, lane_word, entry_lane, driver_event_lane}
use Rattle.vd_split_ring.specs.SplitDevice.{DeviceNextAt, DeviceNext, StoresCall, StoresAvailEvent, LoadsKick, device_loads, loaded_head, BeginsChain}
use Rattle.vd_split_ring.specs.SplitDeviceLaws.{DeviceKeeps}
use Rattle.vd_split_ring.specs.SplitRing.{Ring, chains_out, chains_in}
use Rattle.vd_split_ring.proofs.Areas.{areas, lane_inside, entry_inside, drivers_inside}
use Rattle.vd_split_ring.proofs.DeviceParts.{knows}
use Rattle.vd_split_ring.proofs.DeviceLooks.{offers_shown, looks, look_tells, shows_offers, finds_head}
use Rattle.vd_split_ring.proofs.DeviceTakes.{loads}
use Rattle.vd_split_ring.proofs.DeviceGives.{names, measures, publishes, rests}
use Rattle.vd_split_ring.proofs.DeviceControl.{commands, acks}
use Rattle.vd_ring.specs.laws.Signals.{wakes}
use Rattle.vd_split_ring.proofs.Bells.{device_event_inside, driver_event_low, kick_stands}
use Rattle.vd_split_ring.proofs.DeviceBells.{checks, rings_bell, hears}
use Rattle.vd_split_ring.proofs.DeviceArming.{arms, looks_again, disarms, disarmed, begins_rest}

-- the index word that the driver stored
pub index_shown : (ws : List ℕ) (d : DriverView) (e : DeviceView) (p : ℕ) → Ring ws d e → p ≡ lane_word d.frame 1
    → lane16 (slice_index ws p) 1 ≡ length (offers d.done) % 65536
index_shown ws d e p r at =
    let low : p < used_from d.frame = omega (arith, lane_inside d.frame 1 (omega arith)) in
    ap (λ y. lane16 y 1) (r.words.drivers p (inl low) ∙ ap (λ q. slice_index d.stored q) at) ∙ r.driver_words.index

-- descriptors are the driver's words
drivers_descriptor : (f : Frame) (p : ℕ) → IsDescriptors f p → IsDrivers f p
drivers_descriptor f p (inl a) = inl (omega arith)
drivers_descriptor f p (inr a) = inr (inl (a.0, omega (arith, areas f)))

pub device_keeps_at : (ws : List ℕ) (d : DriverView) (e : DeviceView) (doing : DeviceNow) (o : Op) (a : Access)
    → Ring ws d (record e { frame = d.frame; doing = doing }) → DeviceNextAt doing (record e { frame = d.frame; doing = doing }) o a
    → DeviceKeeps ws d (record e { frame = d.frame; doing = doing }) o a
device_keeps_at ws d e Idle op.Take (Load p) r h =
    let E : DeviceView = record e { frame = d.frame; doing = Idle } in
    let lane = index_shown ws d E p r h.1 in
    record {
      inside = omega (arith, r.words.wide, areas d.frame, h.1, lane_inside d.frame 1 (omega arith));
      keeps = looks ws d e (slice_index ws p) lane r h.0;
      told = (knows ws d E (Load p) r, look_tells ws d E (slice_index ws p) lane r);
    }
device_keeps_at ws d e (Taking (g ∷ [])) op.Take (Load p) r h =
    let E : DeviceView = record e { frame = d.frame; doing = Taking (g ∷ []) } in
    let low : p < used_from d.frame =
    omega (
      arith,
      h,
      lane_inside d.frame (entry_lane d.frame (length (takes e.done)))
          (entry_inside d.frame (length (takes e.done)) r.lawful.some_place),
    ) in
    let did = finds_head ws d e g (slice_index ws p) r (r.words.drivers p (inl low) ∙ ap (λ q. slice_index d.stored q) h) in
    record { inside = omega (arith, r.words.wide, areas d.frame, low); keeps = did.0; told = (knows ws d E (Load p) r, did.1) }
device_keeps_at ws d e (Taking (g ∷ w ∷ ss)) op.Take (Load p) r h =
    let E : DeviceView = record e { frame = d.frame; doing = Taking (g ∷ w ∷ ss) } in
    let own : IsDrivers d.frame p = drivers_descriptor d.frame p h.inside in
    let did = loads ws d e g w ss p r h.place in
    let is : slice_index d.stored p ≡ slice_index ws p = sym (r.words.drivers p own) in
    let both = subst (λ (x : ℕ). Ring ws d (device_loads E g w (ss ++ x ∷ []))
    × BeginsChain d.frame e.done (loaded_head d.frame (length (takes e.done)) w) (ss ++ x ∷ [])) is did in
    record { inside = omega (arith, r.words.wide, drivers_inside d.frame p own); keeps = both.0; told = (knows ws d E (Load p) r, both.1) }
device_keeps_at ws d e Idle op.Give (Store p x) r h =
    let did = names ws d e p x r h.0 h.1 in record { inside = omega (arith, r.words.wide, did.1); keeps = did.0; told = (tt, tt) }
device_keeps_at ws d e (Giving (a ∷ [])) op.Give (Store p x) r h =
    let did = measures ws d e a p x r h in record { inside = omega (arith, r.words.wide, did.1); keeps = did.0; told = (tt, tt) }
device_keeps_at ws d e (Giving (a ∷ b ∷ [])) op.Give (Store p x) r h = record {
  inside = omega (arith, r.words.wide, areas d.frame, h.place);
  keeps = publishes ws d e a b p x r h;
  told = (tt, tt);
}
device_keeps_at ws d e (Checking old new) op.Give (Load p) r h =
    let at : p ≡ lane_word d.frame (driver_event_lane d.frame) = h in
    record {
      inside = omega (arith, r.words.wide, areas d.frame, lane_inside d.frame (driver_event_lane d.frame) (driver_event_low d.frame));
      keeps = checks ws d e old new p r h;
      told = (knows ws d (record e { frame = d.frame; doing = Checking old new }) (Load p) r, tt);
    }
device_keeps_at ws d e (Ringing old new) op.Give (Store p x) r h =
    let n : StoresCall d.frame e.bells p x = h in
    record { inside = omega (arith, r.words.wide, n.place); keeps = rings_bell ws d e old new p x r n; told = (tt, tt) }
device_keeps_at ws d e Idle op.Arm (Store p x) r h =
    let n : StoresAvailEvent d.frame e.stored (length (takes e.done)) p x = h.1 in
    record {
      inside = omega (arith, r.words.wide, areas d.frame, n.place, device_event_inside d.frame);
      keeps = arms ws d e p x r n;
      told = (tt, tt);
    }
device_keeps_at ws d e Arming op.Arm (Load p) r h =
    let E : DeviceView = record e { frame = d.frame; doing = Arming } in
    let lane = index_shown ws d E p r h in
    record {
      inside = omega (arith, r.words.wide, areas d.frame, h, lane_inside d.frame 1 (omega arith));
      keeps = looks_again ws d e (slice_index ws p) lane r;
      told = (knows ws d E (Load p) r, look_tells ws d E (slice_index ws p) lane r);
    }
device_keeps_at ws d e (Disarming o) op.Arm (Store p x) r h =
    let did = disarms ws d e (Disarming o) Idle p x r (λ st. tt) tt
    (wakes (chains_out d) (chains_in (record e { frame = d.frame; doing = Disarming o })) true r.kicks) r.calls h.1 in
    record {
      inside = omega (arith, r.words.wide, did.1);
      keeps = did.0;
      told = (tt, tt);
    }
device_keeps_at ws d e (Disarming o) op.Hear (Store p x) r h =
    let did = disarms ws d e (Disarming o) Idle p x r (λ st. tt) tt
    (wakes (chains_out d) (chains_in (record e { frame = d.frame; doing = Disarming o })) true r.kicks) r.calls h.1 in
    record {
      inside = omega (arith, r.words.wide, did.1);
      keeps = did.0;
      told = (tt, tt);
    }
device_keeps_at ws d e Idle op.Hear (Load p) r h =
    let E : DeviceView = record e { frame = d.frame; doing = Idle } in
    let at : p ≡ kick_at d.frame = h.1 in
    record {
      inside = omega (arith, r.words.wide);
      keeps =
          hears ws d e (slice_index ws p) (ap (λ q. slice_index ws q) at ∙ kick_stands ws d E r) r;
      told = (knows ws d E (Load p) r, tt);
    }
device_keeps_at ws d e Idle op.Disarm (Store p x) r h =
    let did = disarms ws d e Idle Idle p x r (λ st. tt) tt
    (wakes (chains_out d) (chains_in (record e { frame = d.frame; doing = Idle })) true r.kicks) r.calls h.1 in
    record { inside = omega (arith, r.words.wide, did.1); keeps = did.0; told = (tt, tt) }
device_keeps_at ws d e Idle op.Disarm (Load p) r h =
    let n : LoadsKick d.frame p = h.1 in
    record {
      inside = omega (arith, r.words.wide, n.place);
      keeps = disarmed ws d e r;
      told =
          (knows ws d (record e { frame = d.frame; doing = Idle }) (Load p) r, tt);
    }
device_keeps_at ws d e Idle op.Rest (Store p x) r h =
    let did = disarms ws d e Idle Resting p x r (λ st. h.0) refl
    (wakes (chains_out d) (chains_in (record e { frame = d.frame; doing = Idle })) false r.kicks) r.calls h.1 in
    record { inside = omega (arith, r.words.wide, did.1); keeps = did.0; told = (tt, tt) }
device_keeps_at ws d e Idle op.Rest (Load p) r h =
    let n : LoadsKick d.frame p = h.1 in
    record {
      inside = omega (arith, r.words.wide, n.place);
      keeps = begins_rest ws d e r h.0;
      told =
          (knows ws d (record e { frame = d.frame; doing = Idle }) (Load p) r, tt);
    }
device_keeps_at ws d e Resting op.Rest (Load p) r h =
    let E : DeviceView = record e { frame = d.frame; doing = Resting } in
    record {
      inside = omega (arith, r.words.wide, areas d.frame, h, lane_inside d.frame 1 (omega arith));
      keeps = rests ws d e (slice_index ws p) r (offers_shown ws d E (slice_index ws p) (index_shown ws d E p r h) r);
      told = (knows ws d E (Load p) r, shows_offers ws d E (slice_index ws p) (index_shown ws d E p r h) r);
    }
device_keeps_at ws d e Idle op.Control (Load p) r h =
    let did = commands ws d e p r h in record {
      inside = omega (arith, r.words.wide, did.1);
      keeps = did.0;
      told =
          (knows ws d (record e { frame = d.frame; doing = Idle }) (Load p) r, tt);
    }
device_keeps_at ws d e Idle op.Control (Store p x) r h =
    let did = acks ws d e p x r h in record { inside = omega (arith, r.words.wide, did.1); keeps = did.0; told = (tt, tt) }
device_keeps_at ws d e _ _ _ r h = absurd h

-- the device's law
pub device_keeps : (ws : List ℕ) (d : DriverView) (e : DeviceView) (o : Op) (a : Access) → Ring ws d e → DeviceNext e o a
    → DeviceKeeps ws d e o a
device_keeps ws d e o a r h =
    subst (λ (f : Frame). Ring ws d (record e { frame = f }) → DeviceNext (record e { frame = f }) o a
    → DeviceKeeps ws d (record e { frame = f }) o a) (sym r.same) (device_keeps_at ws d e e.doing o a) r h
