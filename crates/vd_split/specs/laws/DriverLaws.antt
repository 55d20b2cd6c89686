-- The laws of the driver's end of a split ring.
use Rattle.std.proofs.Common.{◌≡◌, ℕ, ◌+◌, ◌-◌, ◌/◌, ◌%◌, ◌≤◌, Bool, true, false, if◌then◌else◌, ◌&&◌, nat_lt, List, [], ◌∷◌, length, slice_set, refl, sym, ap, ◌∙◌, subst, arith}
use Rattle.std.specs.Prelude.{unwrap_or}
use Rattle.std.proofs.lemmas.List.{length-set}
use Rattle.vd_model.specs.declared.chain.Piece.{Piece}
use Rattle.vd_model.specs.declared.features.Features.{Features}
use Rattle.vd_model.specs.Chains.{needs}
use Rattle.vd_words.specs.declared.access.Access.{Access}
use Rattle.vd_words.specs.declared.access.Access.TheVariants.{Load, Store}
use Rattle.vd_words.specs.declared.access.Op.TheVariants as op
use Rattle.vd_ring.specs.declared.frame.Frame.{Frame}
use Rattle.vd_ring.specs.declared.driver.DriverDone.{DriverDone}
use Rattle.vd_ring.specs.declared.driver.DriverDone.TheVariants.{StoreCommand, LoadAck}
use Rattle.vd_ring.specs.declared.driver.DriverNow.{DriverNow}
use Rattle.vd_ring.specs.declared.driver.DriverNow.TheVariants as now
use Rattle.vd_ring.specs.declared.driver.DriverView.{DriverView}
use Rattle.vd_ring.specs.Frames.{borrowed}
use Rattle.vd_ring.specs.History.{collects, open_at, open_size, chain}
use Rattle.vd_ring.specs.Control.{StoresCommand, last_collected}
use Rattle.vd_ring.specs.Places.{Places}
use Rattle.vd_ring.proofs.Counts.{sum_same}
use Rattle.vd_split_ring.specs.SplitWords.{is_tabled, avail_from, tables_from, commands_from, command_word}
use Rattle.vd_split_ring.specs.SplitDriver.{CanOffer, DriverNextAt, driver_after_at}
use Rattle.vd_split_ring.proofs.Areas.{areas}
use Rattle.vd_split_ring.proofs.ControlFacts.{driver_controls}
use Rattle.vd_split_ring.proofs.DriverViews.{driver_frame}
use Rattle.vd_split_ring.proofs.Signalling.{driver_unarmed}
use Rattle.vd_split_ring.proofs.DriverLooking.{driver_looks}
use Rattle.vd_split_ring.proofs.DriverStaying.{driver_stays}
use Rattle.vd_split_ring.proofs.Direct.{borrowed_needs}
use Rattle.vd_layout.specs.Begun.{DriverOp}
use Rattle.vd_layout.specs.Driver.{HasRoom, MayOffer, IsLawfulDriver}
use Rattle.vd_split.specs.declared.driver.SplitDriver.{SplitDriver}
use Rattle.vd_split.specs.declared.driver.DriverStep.{DriverStep}
use Rattle.vd_split.specs.declared.driver.DriverStep.TheVariants as step
use Rattle.vd_split.specs.DriverEnd.{DriverStands, DriverStepStands, DriverStepArmed, driver_owes, driver_begun, driver_left, split_driver, split_words}
use Rattle.vd_split.specs.laws.ControlMoves.{driver_moves}
use Rattle.vd_split.specs.laws.DriverEnd.{is_armed, not_armed}
use Rattle.vd_split.specs.Parts.{needed, first_store}
use Rattle.vd_split.specs.laws.Plans.{copies_other}

-- the free places are those that the open chains leave
pub free_rest : (e : SplitDriver) (v : DriverView) → DriverStands e v → open_size v.frame v.done + length e.free.items ≡ v.frame.size
free_rest e v st =
    omega (
      arith,
      st.holds.held.sizes,
      sum_same (λ k. borrowed v.frame (chain v.done k)) (λ k. needs v.frame.features (chain v.done k))
          (open_at v.done) (λ k a. borrowed_needs v.frame (chain v.done k) st.made.lawful),
      ap (λ (l : List ℕ). length l) st.holds.queued,
    )

-- how many places a chain takes, by the end's features
needs_is : (e : SplitDriver) (v : DriverView) (c : List Piece) → DriverStands e v
    → needed e.features.indirect (length c) ≡ needs v.frame.features c
needs_is e v c st = ap (λ (y : Features). needed y.indirect (length c)) st.made.featured

pub room_from : (e : SplitDriver) (v : DriverView) (c : List Piece) → DriverStands e v
    → needed e.features.indirect (length c) ≤ length e.free.items → HasRoom v.frame v.done c
room_from e v c st h = omega (arith, free_rest e v st, needs_is e v c st)

pub room_to : (e : SplitDriver) (v : DriverView) (c : List Piece) → DriverStands e v → HasRoom v.frame v.done c
    → needed e.features.indirect (length c) ≤ length e.free.items
room_to e v c st h = omega (arith, free_rest e v st, needs_is e v c st)

pub can_offer : (e : SplitDriver) (v : DriverView) (c : List Piece) → DriverStands e v → MayOffer split_words v c
    → CanOffer v.frame v.done c
can_offer e v c st m = record {
  fits = m.fits;
  room = omega (arith, room_to e v c st m.room, needs_is e v c st, ap (λ (l : List ℕ). length l) st.holds.queued);
  limited = m.limited;
  control = m.control;
}

rests_at : (t : DriverStep) (c : List Piece) (f : Frame) (o : List DriverDone) (d : DriverNow) → DriverStepStands t c f o d
    → driver_begun t c ≡ DriverOp.idle → d ≡ now.Idle
rests_at step.Idle c f o d h e = h
rests_at (step.Describe at) c f o d h e = absurd (cc e)
rests_at (step.Table at) c f o d h e = absurd (cc e)
rests_at step.Enter c f o d h e = absurd (cc e)
rests_at step.Publish c f o d h e = absurd (cc e)
rests_at step.Look c f o d h e = absurd (cc e)
rests_at (step.Find r) c f o d h e = absurd (cc e)
rests_at (step.Finish r w) c f o d h e = absurd (cc e)
rests_at (step.Check old new) c f o d h e = absurd (cc e)
rests_at (step.Ring old new) c f o d h e = absurd (cc e)
rests_at step.Arm c f o d h e = absurd (cc e)
rests_at step.LookAgain c f o d h e = absurd (cc e)
rests_at step.Hear c f o d h e = absurd (cc e)
rests_at step.WakeArming c f o d h e = absurd (cc e)
rests_at step.WakeHearing c f o d h e = absurd (cc e)
rests_at step.Disarm c f o d h e = absurd (cc e)

-- the first step of an offer, by a table or not
first_stands : (b : Bool) (f : Frame) (o : List DriverDone) (c : List Piece) (d : DriverNow) → is_tabled f c ≡ b → CanOffer f o c
    → d ≡ now.Idle → DriverStepStands (if b then step.Table 0 else step.Describe 0) c f o d
first_stands true f o c d eq can idle = (can, eq, omega arith, idle)
first_stands false f o c d eq can idle = (can, eq, omega (arith, can.fits.chain.0), idle)

first_owes : (b : Bool) → driver_owes (if b then step.Table 0 else step.Describe 0) ≡ 0
first_owes true = refl
first_owes false = refl

first_armed : (b a : Bool) → a ≡ false → DriverStepArmed (if b then step.Table 0 else step.Describe 0) a
first_armed true a h = h
first_armed false a h = h

pub first_begun : (b : Bool) (c : List Piece) → driver_begun (if b then step.Table 0 else step.Describe 0) c ≡ DriverOp.offer c
first_begun true c = refl
first_begun false c = refl

-- with the check and the bell
pub first_left : (b : Bool) (c : List Piece) → length c ≤ 16 → driver_left (if b then step.Table 0 else step.Describe 0) c ≤ 38
first_left true c h = omega arith
first_left false c h = omega arith

-- the end stands after the beginning of an offer that may be made
pub begins_offer : (e e' : SplitDriver) (v : DriverView) (c : List Piece) → driver_begun e.doing e.pieces.items ≡ DriverOp.idle
    → e.armed ≡ false → DriverStands e v → MayOffer split_words v c → e'.pieces.items ≡ c
    → DriverStands (record e { pieces = e'.pieces; doing = first_store e.features.indirect (length c) }) v
begins_offer e e' v c idle off st may same =
    let b : Bool = e.features.indirect && nat_lt 1 (length c) in
    let tabled : is_tabled v.frame c ≡ b = ap (λ (y : Features). y.indirect && nat_lt 1 (length c)) (sym st.made.featured) in
    record {
      made = st.made;
      counts = st.counts;
      holds = st.holds;
      area = st.area;
      wide = st.wide;
      shown = st.shown;
      kick = st.kick;
      signals = record {
        is_armed = st.signals.is_armed;
        hears = st.signals.hears;
        rings = st.signals.rings;
        few =
            omega (arith, st.signals.few, first_owes b);
        awake = first_armed b e.armed off;
      };
      doing = subst (λ (ps : List Piece). DriverStepStands (first_store e.features.indirect (length c)) ps v.frame v.done v.doing)
          (sym same)
          (first_stands b v.frame v.done c v.doing tabled (can_offer e v c st may)
          (rests_at e.doing e.pieces.items v.frame v.done v.doing st.doing idle));
    }

-- and after the beginning of another operation
pub begins : (e : SplitDriver) (v : DriverView) (t : DriverStep) → driver_begun e.doing e.pieces.items ≡ DriverOp.idle
    → DriverStands e v → (v.doing ≡ now.Idle → DriverStepStands t e.pieces.items v.frame v.done v.doing) → DriverStepArmed t e.armed
    → driver_owes t ≡ 0 → DriverStands (record e { doing = t }) v
begins e v t idle st doing armed none = record {
  made = st.made;
  counts = st.counts;
  holds = st.holds;
  area = st.area;
  wide = st.wide;
  shown = st.shown;
  kick = st.kick;
  signals = record {
    is_armed = st.signals.is_armed;
    hears = st.signals.hears;
    rings = st.signals.rings;
    few =
        omega (arith, st.signals.few, none);
    awake = armed;
  };
  doing = doing (rests_at e.doing e.pieces.items v.frame v.done v.doing st.doing idle);
}

-- ---- the laws

ends_at : (t : DriverStep) (c : List Piece) → driver_left t c ≡ 0 → driver_begun t c ≡ DriverOp.idle
ends_at step.Idle c h = refl
ends_at (step.Describe at) c h = absurd (omega arith)
ends_at (step.Table at) c h = absurd (omega arith)
ends_at step.Enter c h = absurd (omega arith)
ends_at step.Publish c h = absurd (omega arith)
ends_at step.Look c h = absurd (omega arith)
ends_at (step.Find r) c h = absurd (omega arith)
ends_at (step.Finish r w) c h = absurd (omega arith)
ends_at (step.Check old new) c h = absurd (omega arith)
ends_at (step.Ring old new) c h = absurd (omega arith)
ends_at step.Arm c h = absurd (omega arith)
ends_at step.LookAgain c h = absurd (omega arith)
ends_at step.Hear c h = absurd (omega arith)
ends_at step.WakeArming c h = absurd (omega arith)
ends_at step.WakeHearing c h = absurd (omega arith)
ends_at step.Disarm c h = absurd (omega arith)

-- ---- a control access of the end's holder

places_loaded : (f : Frame) (o : List DriverDone) (l y : ℕ) → Places f o → Places f (LoadAck l y ∷ o)
places_loaded f o l y p = record {
  once = p.once;
  sizes = p.sizes;
  as_many = p.as_many;
  listed = p.listed;
  is_open = p.is_open;
  count =
      p.count;
  fits = p.fits;
  limited = p.limited;
}

can_loaded : (f : Frame) (o : List DriverDone) (c : List Piece) (l y : ℕ) → CanOffer f o c → CanOffer f (LoadAck l y ∷ o) c
can_loaded f o c l y can = record { fits = can.fits; room = can.room; limited = can.limited; control = can.control }

step_loaded : (t : DriverStep) (c : List Piece) (f : Frame) (o : List DriverDone) (d : DriverNow) (l y : ℕ) → DriverStepStands t c f o d
    → DriverStepStands t c f (LoadAck l y ∷ o) d
step_loaded step.Idle c f o d l y s = s
step_loaded (step.Describe at) c f o d l y s = (can_loaded f o c l y s.0, s.1, s.2, s.3)
step_loaded (step.Table at) c f o d l y s = (can_loaded f o c l y s.0, s.1, s.2, s.3)
step_loaded step.Enter c f o d l y s = (can_loaded f o c l y s.0, s.1)
step_loaded step.Publish c f o d l y s = (can_loaded f o c l y s.0, s.1)
step_loaded step.Look c f o d l y s = s
step_loaded (step.Find r) c f o d l y s = s
step_loaded (step.Finish r w) c f o d l y s =
    (s.0, record { number = s.1.number; is_open = s.1.is_open; is_head = s.1.is_head; next = s.1.next })
step_loaded (step.Check old new) c f o d l y s = s
step_loaded (step.Ring old new) c f o d l y s = s
step_loaded step.Arm c f o d l y s = s
step_loaded step.LookAgain c f o d l y s = s
step_loaded step.Hear c f o d l y s = s
step_loaded step.WakeArming c f o d l y s = s
step_loaded step.WakeHearing c f o d l y s = s
step_loaded step.Disarm c f o d l y s = s

places_stored : (f : Frame) (o : List DriverDone) (h i y : ℕ) → Places f o → Places f (StoreCommand h i y ∷ o)
places_stored f o h i y p = record {
  once = p.once;
  sizes = p.sizes;
  as_many = p.as_many;
  listed = p.listed;
  is_open = p.is_open;
  count = p.count;
  fits = p.fits;
  limited = p.limited;
}

can_stored : (f : Frame) (o : List DriverDone) (c : List Piece) (h i y : ℕ) → CanOffer f o c → CanOffer f (StoreCommand h i y ∷ o) c
can_stored f o c h i y can = record { fits = can.fits; room = can.room; limited = can.limited; control = can.control }

step_stored : (t : DriverStep) (c : List Piece) (f : Frame) (o : List DriverDone) (d : DriverNow) (h i y : ℕ)
    → DriverStepStands t c f o d → DriverStepStands t c f (StoreCommand h i y ∷ o) d
step_stored step.Idle c f o d h i y s = s
step_stored (step.Describe at) c f o d h i y s = (can_stored f o c h i y s.0, s.1, s.2, s.3)
step_stored (step.Table at) c f o d h i y s = (can_stored f o c h i y s.0, s.1, s.2, s.3)
step_stored step.Enter c f o d h i y s = (can_stored f o c h i y s.0, s.1)
step_stored step.Publish c f o d h i y s = (can_stored f o c h i y s.0, s.1)
step_stored step.Look c f o d h i y s = s
step_stored (step.Find r) c f o d h i y s = s
step_stored (step.Finish r w) c f o d h i y s =
    (s.0, record { number = s.1.number; is_open = s.1.is_open; is_head = s.1.is_head; next = s.1.next })
step_stored (step.Check old new) c f o d h i y s = s
step_stored (step.Ring old new) c f o d h i y s = s
step_stored step.Arm c f o d h i y s = s
step_stored step.LookAgain c f o d h i y s = s
step_stored step.Hear c f o d h i y s = s
step_stored step.WakeArming c f o d h i y s = s
step_stored step.WakeHearing c f o d h i y s = s
step_stored step.Disarm c f o d h i y s = s

-- the end stands after an act that neither offers nor collects, and a store past its area
after_ack : (e : SplitDriver) (v : DriverView) (l y : ℕ) → DriverStands e v → DriverStands e (record v { done = LoadAck l y ∷ v.done })
after_ack e v l y st = record {
  made = st.made;
  counts = record { offers = st.counts.offers; collects = st.counts.collects; entry_at = st.counts.entry_at; used_at = st.counts.used_at };
  holds = record {
    held = places_loaded v.frame v.done l y st.holds.held;
    queued = st.holds.queued;
    room = st.holds.room;
    as_many =
        st.holds.as_many;
    open_chains = st.holds.open_chains;
  };
  area = st.area;
  wide = st.wide;
  shown = st.shown;
  kick = st.kick;
  signals = record {
    is_armed = st.signals.is_armed;
    hears = st.signals.hears;
    rings = st.signals.rings;
    few = st.signals.few;
    awake =
        st.signals.awake;
  };
  doing = step_loaded e.doing e.pieces.items v.frame v.done v.doing l y st.doing;
}

after_command : (e : SplitDriver) (v : DriverView) (h i p x y : ℕ) → tables_from v.frame ≤ p → DriverStands e v
    → DriverStands e (record v { done = StoreCommand h i y ∷ v.done; stored = slice_set v.stored p x })
after_command e v h i p x y past st = record {
  made = st.made;
  counts = record { offers = st.counts.offers; collects = st.counts.collects; entry_at = st.counts.entry_at; used_at = st.counts.used_at };
  holds = record {
    held = places_stored v.frame v.done h i y st.holds.held;
    queued = st.holds.queued;
    room = st.holds.room;
    as_many =
        st.holds.as_many;
    open_chains = st.holds.open_chains;
  };
  area = copies_other (avail_from v.frame) ((v.frame.size + 6) / 4) e.area.items v.stored p x st.area (λ k a z. omega arith);
  wide = length-set v.stored p x ∙ st.wide;
  shown = st.shown;
  kick = st.kick;
  signals = record {
    is_armed = st.signals.is_armed;
    hears = st.signals.hears;
    rings = st.signals.rings;
    few = st.signals.few;
    awake =
        st.signals.awake;
  };
  doing = step_stored e.doing e.pieces.items v.frame v.done v.doing h i y st.doing;
}

control_at : (d : DriverNow) (e : SplitDriver) (v : DriverView) (a : Access) (r : ℕ) → DriverStands e v → DriverNextAt d v op.Control a
    → DriverStands e (driver_after_at d v op.Control a r)
control_at now.Idle e v (Load p) r st n = after_ack e v (unwrap_or (last_collected v.done) 0) r st
control_at now.Idle e v (Store p x) r st n =
    let s : StoresCommand v.frame (command_word v.frame) v.done p = n in
    after_command e v ((p - commands_from v.frame) / 2) ((p - commands_from v.frame) % 2) p x x (omega (arith, s.place, areas v.frame)) st
control_at (now.Collecting []) e v a r st n = absurd n
control_at (now.Collecting (g ∷ [])) e v a r st n = absurd n
control_at (now.Collecting (g ∷ w ∷ [])) e v a r st n = absurd n
control_at (now.Collecting (g ∷ w ∷ x ∷ gs)) e v a r st n = absurd n
control_at _ e v a r st n = absurd n

-- ---- no access changes what the ring was made with

pub driver_laws : IsLawfulDriver split_driver
driver_laws = record {
  sized = λ e v st. (st.made.sized, st.made.featured);
  at_rest = λ e v st idle. rests_at e.doing e.pieces.items v.frame v.done v.doing st.doing idle;
  ends = λ e none. ends_at e.doing e.pieces.items none;
  control = λ e v a r st n. control_at v.doing e v a r st n;
  control_moves = λ v a r n. driver_moves v.doing v a r n;
  framed = λ v o a r. driver_frame v o a r;
  stays_unarmed = λ v o a r other none. driver_unarmed v o a r other none;
  looks = driver_looks;
  stays = driver_stays;
  armed = λ e v st on. (length (collects v.done), is_armed e v st on);
  unarmed = λ e v st off. not_armed e v st off;
  places = λ e v st. st.holds.held;
  controls = driver_controls;
}
