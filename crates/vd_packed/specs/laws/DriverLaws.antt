-- The laws of the driver's end of a packed ring.
use Rattle.std.proofs.Common.{◌≡◌, ℕ, ◌+◌, ◌-◌, ◌/◌, ◌%◌, ◌<◌, ◌≤◌, Bool, true, false, if◌then◌else◌, List, ◌∷◌, length, slice_set, refl, sym, ap, subst, arith}
use Rattle.std.specs.Prelude.{unwrap_or}
use Rattle.vd_model.specs.declared.chain.Piece.{Piece}
use Rattle.vd_model.specs.declared.features.Features.{Features}
use Rattle.vd_words.specs.declared.access.Access.{Access}
use Rattle.vd_words.specs.declared.access.Access.TheVariants.{Load, Store}
use Rattle.vd_words.specs.declared.access.Op.TheVariants as op
use Rattle.vd_ring.specs.declared.frame.Frame.{Frame}
use Rattle.vd_ring.specs.declared.driver.DriverDone.{DriverDone}
use Rattle.vd_ring.specs.declared.driver.DriverDone.TheVariants.{StoreCommand, LoadAck}
use Rattle.vd_ring.specs.declared.driver.DriverNow.{DriverNow}
use Rattle.vd_ring.specs.declared.driver.DriverNow.TheVariants as now
use Rattle.vd_ring.specs.declared.driver.DriverView.{DriverView}
use Rattle.vd_ring.specs.Control.{last_collected}
use Rattle.vd_ring.specs.Places.{Places}
use Rattle.vd_packed_ring.specs.PackedWords.{commands_from}
use Rattle.vd_packed_ring.specs.PackedChains.{is_tabled}
use Rattle.vd_packed_ring.specs.PackedPositions.{offer_position, collect_position}
use Rattle.vd_packed_ring.specs.PackedDriver.{CanOffer, DriverNextAt, driver_after_at}
use Rattle.vd_packed_ring.proofs.ControlFacts.{driver_controls}
use Rattle.vd_packed_ring.proofs.DriverViews.{driver_frame}
use Rattle.vd_packed_ring.proofs.DriverLooking.{driver_looks}
use Rattle.vd_packed_ring.proofs.Positions.{driver_span}
use Rattle.vd_packed_ring.proofs.Signalling.{driver_unarmed}
use Rattle.vd_layout.specs.Begun.{DriverOp}
use Rattle.vd_layout.specs.Driver.{HasRoom, MayOffer, IsLawfulDriver}
use Rattle.vd_packed.specs.declared.driver.PackedDriver.{PackedDriver}
use Rattle.vd_packed.specs.declared.driver.DriverStep.{DriverStep}
use Rattle.vd_packed.specs.declared.driver.DriverStep.TheVariants as step
use Rattle.vd_packed.specs.declared.ring_position.RingPosition.{RingPosition}
use Rattle.vd_packed.specs.DriverEnd.{DriverStands, DriverStepStands, DriverStepArmed, driver_owes, driver_begun, driver_left, packed_driver, packed_words}
use Rattle.vd_packed.specs.laws.ControlMoves.{driver_moves}
use Rattle.vd_packed.specs.laws.DriverEnd.{not_armed, is_armed}
use Rattle.vd_packed_ring.proofs.DriverStaying.{driver_stays}
use Rattle.vd_packed.specs.laws.DriverSteps.{needed_is}
use Rattle.vd_packed.specs.laws.Places.{same_at, forward_at}
use Rattle.vd_packed.specs.RingPositions.{IsAt, forward}
use Rattle.vd_packed.specs.Tabled.{needed, first_at, first_store}
use Rattle.vd_packed.specs.Tabled.{is_tabled as tabled_by}

pub room_from : (e : PackedDriver) (v : DriverView) (c : List Piece) → DriverStands e v
    → needed e.features.indirect (length c) ≤ e.space → HasRoom v.frame v.done c
room_from e v c st h = omega (arith, st.counts.left, needed_is e v c st)

pub room_to : (e : PackedDriver) (v : DriverView) (c : List Piece) → DriverStands e v → HasRoom v.frame v.done c
    → needed e.features.indirect (length c) ≤ e.space
room_to e v c st h = omega (arith, st.counts.left, needed_is e v c st)

pub can_offer : (e : PackedDriver) (v : DriverView) (c : List Piece) → DriverStands e v → MayOffer packed_words v c
    → CanOffer v.frame v.done c
can_offer e v c st m = record {
  fits = m.fits;
  room = omega (arith, m.room, driver_span v.frame v.done st.holds.held.is_open);
  limited = m.limited;
  control = m.control;
}

rests_at : (t : DriverStep) (c : List Piece) (s : RingPosition) (f : Frame) (o : List DriverDone) (d : DriverNow)
    → DriverStepStands t c s f o d → driver_begun t c ≡ DriverOp.idle → d ≡ now.Idle
rests_at step.Idle c s f o d h e = h
rests_at (step.Describe at) c s f o d h e = absurd (cc e)
rests_at (step.Table at) c s f o d h e = absurd (cc e)
rests_at step.Publish c s f o d h e = absurd (cc e)
rests_at step.Look c s f o d h e = absurd (cc e)
rests_at (step.Check n) c s f o d h e = absurd (cc e)
rests_at step.Ring c s f o d h e = absurd (cc e)
rests_at step.Arm c s f o d h e = absurd (cc e)
rests_at step.LookAgain c s f o d h e = absurd (cc e)
rests_at step.Hear c s f o d h e = absurd (cc e)
rests_at step.WakeArming c s f o d h e = absurd (cc e)
rests_at step.WakeHearing c s f o d h e = absurd (cc e)
rests_at step.Disarm c s f o d h e = absurd (cc e)

-- an idle end owes no bell
idle_few : (t : DriverStep) (c : List Piece) (m n : ℕ) → driver_begun t c ≡ DriverOp.idle → m + driver_owes t ≤ n → m + 0 ≤ n
idle_few t c m n idle few = omega (arith, few)

-- the end stands after the beginning of an offer that may be made
begun_stands : (b : Bool) (e : PackedDriver) (v : DriverView) (c : List Piece) → DriverStands e v → CanOffer v.frame v.done c
    → is_tabled v.frame c ≡ b → v.doing ≡ now.Idle
    → DriverStepStands (if b then step.Table 0 else step.Describe 0) c (if b then forward e.next 1 e.size else e.next) v.frame v.done
    v.doing
begun_stands true e v c st can on idle =
    let f : Frame = v.frame in
    let ring_position : IsAt (forward e.next 1 e.size) f.size (offer_position f v.done + 1) =
    subst (λ (k : ℕ). IsAt (forward e.next 1 k) f.size (offer_position f v.done + 1)) (sym st.made.sized)
    (forward_at e.next f.size (offer_position f v.done) 1 (omega (arith, st.made.lawful.least))
    (omega (arith, st.made.lawful.least)) st.counts.next_at) in
    (can, omega arith, ring_position, idle, on)
begun_stands false e v c st can off idle =
    let some : 0 < length c = can.fits.chain.0 in (
      can,
      omega arith,
      same_at e.next v.frame.size (offer_position v.frame v.done) (offer_position v.frame v.done + (0 + 1) / 2)
          (omega arith) st.counts.next_at,
      idle,
      off,
    )

begun_armed : (b armed : Bool) → armed ≡ false → DriverStepArmed (if b then step.Table 0 else step.Describe 0) armed
begun_armed true armed off = off
begun_armed false armed off = off

begun_owes : (b : Bool) (m n : ℕ) → m + 0 ≤ n → m + driver_owes (if b then step.Table 0 else step.Describe 0) ≤ n
begun_owes true m n h = h
begun_owes false m n h = h

pub begins_offer : (e e' : PackedDriver) (v : DriverView) (c : List Piece) → driver_begun e.doing e.pieces.items ≡ DriverOp.idle
    → e.armed ≡ false → DriverStands e v → MayOffer packed_words v c → e'.pieces.items ≡ c
    → DriverStands (record e {
      pieces = e'.pieces;
      at = first_at e.features.indirect (length c) e.next e.size;
      doing =
          first_store e.features.indirect (length c);
    }) v
begins_offer e e' v c idle off st may same =
    let f : Frame = v.frame in
    let b : Bool = tabled_by e.features.indirect (length c) in
    let is : is_tabled f c ≡ b = ap (λ (x : Features). tabled_by x.indirect (length c)) (sym st.made.featured) in
    record {
      made = st.made;
      counts = st.counts;
      holds = st.holds;
      kick = st.kick;
      signals = record {
        is_armed = st.signals.is_armed;
        hears = st.signals.hears;
        rings = st.signals.rings;
        few =
            begun_owes b e.bells e.offered (idle_few e.doing e.pieces.items e.bells e.offered idle st.signals.few);
        awake =
            begun_armed b e.armed off;
      };
      doing = subst (λ (ps : List Piece). DriverStepStands (first_store e.features.indirect (length c)) ps
          (first_at e.features.indirect (length c) e.next e.size) f v.done v.doing) (sym same)
          (begun_stands b e v c st (can_offer e v c st may) is (rests_at e.doing e.pieces.items e.at f v.done v.doing st.doing idle));
    }

-- and takes no more steps than a table of 16 places
pub begun_left : (e : PackedDriver) (c : List Piece) → length c ≤ 16 → driver_left (first_store e.features.indirect (length c)) c ≤ 38
begun_left e c few = at (tabled_by e.features.indirect (length c))
  where
    at : (b : Bool) → driver_left (if b then step.Table 0 else step.Describe 0) c ≤ 38
    at true = omega arith
    at false = omega arith

pub begun_offer : (e : PackedDriver) (c : List Piece) → driver_begun (first_store e.features.indirect (length c)) c ≡ DriverOp.offer c
begun_offer e c = at (tabled_by e.features.indirect (length c))
  where
    at : (b : Bool) → driver_begun (if b then step.Table 0 else step.Describe 0) c ≡ DriverOp.offer c
    at true = refl
    at false = refl

-- the end stands after the beginning of another operation
pub begins : (e : PackedDriver) (v : DriverView) (t : DriverStep) → driver_begun e.doing e.pieces.items ≡ DriverOp.idle
    → DriverStands e v → (v.doing ≡ now.Idle → DriverStepStands t e.pieces.items e.at v.frame v.done v.doing)
    → DriverStepArmed t e.armed → driver_owes t ≡ 0 → DriverStands (record e { doing = t }) v
begins e v t idle st doing armed none = record {
  made = st.made;
  counts = st.counts;
  holds = st.holds;
  kick = st.kick;
  signals = record {
    is_armed = st.signals.is_armed;
    hears = st.signals.hears;
    rings = st.signals.rings;
    few =
        omega (arith, st.signals.few, none);
    awake = armed;
  };
  doing = doing (rests_at e.doing e.pieces.items e.at v.frame v.done v.doing st.doing idle);
}

-- ---- the laws

ends_at : (t : DriverStep) (c : List Piece) → driver_left t c ≡ 0 → driver_begun t c ≡ DriverOp.idle
ends_at step.Idle c h = refl
ends_at (step.Describe at) c h = absurd (omega arith)
ends_at (step.Table at) c h = absurd (omega arith)
ends_at step.Publish c h = absurd (omega arith)
ends_at step.Look c h = absurd (omega arith)
ends_at (step.Check n) c h = absurd (omega arith)
ends_at step.Ring c h = absurd (omega arith)
ends_at step.Arm c h = absurd (omega arith)
ends_at step.LookAgain c h = absurd (omega arith)
ends_at step.Hear c h = absurd (omega arith)
ends_at step.WakeArming c h = absurd (omega arith)
ends_at step.WakeHearing c h = absurd (omega arith)
ends_at step.Disarm c h = absurd (omega arith)

-- ---- acts that neither offer nor collect leave what the end stands for

places_loaded : (f : Frame) (o : List DriverDone) (l y : ℕ) → Places f o → Places f (LoadAck l y ∷ o)
places_loaded f o l y p = record {
  once = p.once;
  sizes = p.sizes;
  as_many = p.as_many;
  listed = p.listed;
  is_open = p.is_open;
  count =
      p.count;
  fits = p.fits;
  limited = p.limited;
}

can_loaded : (f : Frame) (o : List DriverDone) (c : List Piece) (l y : ℕ) → CanOffer f o c → CanOffer f (LoadAck l y ∷ o) c
can_loaded f o c l y can = record { fits = can.fits; room = can.room; limited = can.limited; control = can.control }

step_loaded : (t : DriverStep) (c : List Piece) (s : RingPosition) (f : Frame) (o : List DriverDone) (d : DriverNow) (l y : ℕ)
    → DriverStepStands t c s f o d → DriverStepStands t c s f (LoadAck l y ∷ o) d
step_loaded step.Idle c s f o d l y h = h
step_loaded (step.Describe at) c s f o d l y h = (can_loaded f o c l y h.0, h.1, h.2, h.3, h.4)
step_loaded (step.Table at) c s f o d l y h = (can_loaded f o c l y h.0, h.1, h.2, h.3, h.4)
step_loaded step.Publish c s f o d l y h = (can_loaded f o c l y h.0, h.1, h.2)
step_loaded step.Look c s f o d l y h = h
step_loaded (step.Check n) c s f o d l y h = h
step_loaded step.Ring c s f o d l y h = h
step_loaded step.Arm c s f o d l y h = h
step_loaded step.LookAgain c s f o d l y h = h
step_loaded step.Hear c s f o d l y h = h
step_loaded step.WakeArming c s f o d l y h = h
step_loaded step.WakeHearing c s f o d l y h = h
step_loaded step.Disarm c s f o d l y h = h

places_stored : (f : Frame) (o : List DriverDone) (h i y : ℕ) → Places f o → Places f (StoreCommand h i y ∷ o)
places_stored f o h i y p = record {
  once = p.once;
  sizes = p.sizes;
  as_many = p.as_many;
  listed = p.listed;
  is_open = p.is_open;
  count = p.count;
  fits = p.fits;
  limited = p.limited;
}

can_stored : (f : Frame) (o : List DriverDone) (c : List Piece) (h i y : ℕ) → CanOffer f o c → CanOffer f (StoreCommand h i y ∷ o) c
can_stored f o c h i y can = record { fits = can.fits; room = can.room; limited = can.limited; control = can.control }

step_stored : (t : DriverStep) (c : List Piece) (s : RingPosition) (f : Frame) (o : List DriverDone) (d : DriverNow) (i j y : ℕ)
    → DriverStepStands t c s f o d → DriverStepStands t c s f (StoreCommand i j y ∷ o) d
step_stored step.Idle c s f o d i j y h = h
step_stored (step.Describe at) c s f o d i j y h = (can_stored f o c i j y h.0, h.1, h.2, h.3, h.4)
step_stored (step.Table at) c s f o d i j y h = (can_stored f o c i j y h.0, h.1, h.2, h.3, h.4)
step_stored step.Publish c s f o d i j y h = (can_stored f o c i j y h.0, h.1, h.2)
step_stored step.Look c s f o d i j y h = h
step_stored (step.Check n) c s f o d i j y h = h
step_stored step.Ring c s f o d i j y h = h
step_stored step.Arm c s f o d i j y h = h
step_stored step.LookAgain c s f o d i j y h = h
step_stored step.Hear c s f o d i j y h = h
step_stored step.WakeArming c s f o d i j y h = h
step_stored step.WakeHearing c s f o d i j y h = h
step_stored step.Disarm c s f o d i j y h = h

after_ack : (e : PackedDriver) (v : DriverView) (l y : ℕ) → DriverStands e v → DriverStands e (record v { done = LoadAck l y ∷ v.done })
after_ack e v l y st = record {
  made = st.made;
  counts = record {
    offers = st.counts.offers;
    collects = st.counts.collects;
    next_at = st.counts.next_at;
    used_at = st.counts.used_at;
    next_is = st.counts.next_is;
    used_is = st.counts.used_is;
    left = st.counts.left;
  };
  holds = record {
    held = places_loaded v.frame v.done l y st.holds.held;
    queued = st.holds.queued;
    room = st.holds.room;
    as_many =
        st.holds.as_many;
    open_chains = st.holds.open_chains;
  };
  kick = st.kick;
  signals = record {
    is_armed = st.signals.is_armed;
    hears = st.signals.hears;
    rings = st.signals.rings;
    few = st.signals.few;
    awake =
        st.signals.awake;
  };
  doing = step_loaded e.doing e.pieces.items e.at v.frame v.done v.doing l y st.doing;
}

after_command : (e : PackedDriver) (v : DriverView) (h i y : ℕ) (us : List ℕ) → DriverStands e v
    → DriverStands e (record v { done = StoreCommand h i y ∷ v.done; stored = us })
after_command e v h i y us st = record {
  made = st.made;
  counts = record {
    offers = st.counts.offers;
    collects = st.counts.collects;
    next_at = st.counts.next_at;
    used_at = st.counts.used_at;
    next_is = st.counts.next_is;
    used_is = st.counts.used_is;
    left = st.counts.left;
  };
  holds = record {
    held = places_stored v.frame v.done h i y st.holds.held;
    queued = st.holds.queued;
    room = st.holds.room;
    as_many =
        st.holds.as_many;
    open_chains = st.holds.open_chains;
  };
  kick = st.kick;
  signals = record {
    is_armed = st.signals.is_armed;
    hears = st.signals.hears;
    rings = st.signals.rings;
    few = st.signals.few;
    awake =
        st.signals.awake;
  };
  doing = step_stored e.doing e.pieces.items e.at v.frame v.done v.doing h i y st.doing;
}

control_at : (d : DriverNow) (e : PackedDriver) (v : DriverView) (a : Access) (r : ℕ) → DriverStands e v → DriverNextAt d v op.Control a
    → DriverStands e (driver_after_at d v op.Control a r)
control_at now.Idle e v (Load p) r st n = after_ack e v (unwrap_or (last_collected v.done) 0) r st
control_at now.Idle e v (Store p x) r st n = after_command e v ((p - commands_from v.frame) / 2) ((p - commands_from v.frame) % 2) x
    (slice_set v.stored p x) st
control_at _ e v a r st n = absurd n

pub driver_laws : IsLawfulDriver packed_driver
driver_laws = record {
  sized = λ e v st. (st.made.sized, st.made.featured);
  at_rest = λ e v st idle. rests_at e.doing e.pieces.items e.at v.frame v.done v.doing st.doing idle;
  ends = λ e none. ends_at e.doing e.pieces.items none;
  control = λ e v a r st n. control_at v.doing e v a r st n;
  control_moves = λ v a r n. driver_moves v.doing v a r n;
  armed = λ e v st on. (collect_position v.frame v.done, is_armed e v st on);
  unarmed = λ e v st off. not_armed e v st off;
  framed = λ v o a r. driver_frame v o a r;
  stays_unarmed = driver_unarmed;
  looks = driver_looks;
  stays = driver_stays;
  places = λ e v st. st.holds.held;
  controls = driver_controls;
}
