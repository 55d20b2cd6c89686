-- The bus of a machine is set up for an epoch.
use Rattle.std.proofs.Common.{◌≡◌, ℕ, zero, suc, ◌<◌, ◌≤◌, true, false, List, [], ◌∷◌, length, slice_get, slice_index_or, slice_set, set, take, ◌*◌, ◌/◌, ◌^◌, Option, Some, None, refl, sym, ◌∙◌, ap, subst, arith}
use Rattle.std.specs.List.{list_all}
use Rattle.std.specs.Option.{option_map}
use Rattle.std.proofs.lemmas.Bool.{ne_eqb, false≢true}
use Rattle.std.proofs.lemmas.Option.{slice_get_within}
use Rattle.std.proofs.lemmas.List.{length-set}
use Rattle.vd_model.specs.declared.base.Base.{Base}
use Rattle.vd_model.specs.declared.base.Mode.{Mode}
use Rattle.vd_model.specs.declared.base.Mode.TheVariants.{Pass, Shadow}
use Rattle.vd_model.specs.declared.features.Features.{Features}
use Rattle.vd_model.specs.declared.map.Mapping.{Mapping}
use Rattle.vd_layout.specs.Device.{DeviceModel}
use Rattle.vd_layout.specs.Layout.{LayoutModel}
use Rattle.vd_bus.specs.declared.bus.vring.Vring.{Vring}
use Rattle.vd_bus.specs.Bus.{BusState, control_queue, fresh_vring, vring_of}
use Rattle.vd_bus.specs.Orders.{Terms}
use Rattle.vd_bus.specs.BusRings.{enable_fault, order_fault, ring_at, terms}
use Rattle.vd_bus.specs.BusStatus.{is_ready, status_fault, after_status, features_accepted}
use Rattle.vd_machine.specs.File.{Plan}
use Rattle.vd_words.specs.Plain.{RingWords}
use Rattle.vd_play.specs.declared.floor.Lane.{Lane}
use Rattle.vd_play.specs.declared.floor.Relaying.{Relaying}
use Rattle.vd_play.specs.declared.bench.Bench.{Bench}
use Rattle.vd_play.specs.Each.{HasLanes}
use Rattle.vd_play.specs.Journal.{map_in, ring_in, guest_frame, queue_chains}
use Rattle.vd_play.specs.Before.{begun_at}
use Rattle.vd_play.specs.Epochs.{renewed_at}
use Rattle.vd_play.specs.Orders.{pass_order, shadow_order}
use Rattle.vd_play.specs.ControlRing.{control_order}
use Rattle.vd_play.specs.Places.{HasControl, control_place, control_ring}
use Rattle.vd_play.specs.Prepared.{IsOfLayout}
use Rattle.vd_play.specs.Progress.{AllStopped, IsStopped, StoppedWith}
use Rattle.vd_play.specs.Setting.{Setting, IsLawful}
use Rattle.vd_play.specs.Setup.{set_up, on, serving, with_vrings, with_map, IsBrought, IsBefore, CanSetUp, IsRing, HasRings, HasSizes, IsUp, vring_at, base_in, AllServe, HasBase, HasBases, HasControlBase, IsReady}
use Rattle.vd_play.proofs.Bounds.{at_index}
use Rattle.vd_play.proofs.Buses.{ring_got, ring_new, serving_is, no_enable_fault, no_order_fault, offer_back, own, own_all}
use Rattle.vd_play.proofs.Places.{IsAt, data_at, control_at, each_place}
use Rattle.vd_play.proofs.RingsSet.{rings_kept, enabled_keeps, enabled_base}
use Rattle.vd_play.proofs.Each.{get_set}
use Rattle.vd_play.proofs.Keep.{base_of}
use Rattle.vd_play.proofs.Lists.{some_same}

-- ---- an epoch

ready_all : (vs : List Vring) (d : Vring) → ((k : ℕ) → k < length vs → is_ready (slice_index_or vs k d) ≡ true)
    → list_all is_ready vs ≡ true
ready_all [] d h = refl
ready_all (v ∷ vs) d h = rw (h 0 (omega arith)) (ready_all vs d (λ k below. h (suc k) (omega (arith, below))))

ring_ready : (plan : Plan) (ring n : ℕ) (v : Vring) → 2 ≤ plan.size → IsRing plan ring n v → is_ready v ≡ true
ring_ready plan ring n v sized at = rw at.num (rw at.addr (rw (ne_eqb plan.size 0 (λ e. omega (arith, e, sized))) refl))

pub rings_ready : (plan : Plan) (m : Mode) (k : ℕ) (b : BusState) → 2 ≤ plan.size → HasRings plan m k b
    → list_all is_ready b.vrings ≡ true
rings_ready plan m k b sized r = ready_all b.vrings (fresh_vring plan.packed) (λ j below.
    each_place plan (λ p. is_ready (vring_at plan b p) ≡ true)
    (λ q low. ring_ready plan (ring_in m k q) q (vring_at plan b q) sized (r.each q low))
    (λ has. ring_ready plan (control_ring k) control_queue (vring_at plan b (control_place plan)) sized (r.control has))
    j (subst (λ (z : ℕ). j < z) r.many below))

-- the rings are sized
pub rings_sized : (plan : Plan) (m : Mode) (k : ℕ) (b : BusState) → HasRings plan m k b → HasSizes plan b
rings_sized plan m k b r = record {
  many = r.many;
  each = each_place plan (λ p. (vring_at plan b p).num ≡ plan.size) (λ q low. (r.each q low).num) (λ has. (r.control has).num);
}

-- before the first epoch
pub begun_is : (plan : Plan) (ms : List Mapping) (a b c : BusState) → IsBrought plan a → b ≡ with_map a ms → c ≡ with_vrings b c.vrings
    → c ≡ set_up plan 11 false c.vrings ms
begun_is plan ms a b c brought mapped based =
    based ∙ ap (λ (z : BusState). with_vrings z c.vrings) mapped
    ∙ ap (λ (z : BusState). with_vrings (with_map z ms) c.vrings) brought

pub driver_ok : (plan : Plan) (ms : List Mapping) (b : BusState) → b ≡ set_up plan 11 false b.vrings ms
    → list_all is_ready b.vrings ≡ true → status_fault b 15 ≡ None
driver_ok plan ms b is ready = subst (λ (c : BusState). status_fault c 15 ≡ None) (sym is) (rw ready refl)

pub ready_first : {L D E : Type 0} (e : DeviceModel E) (base : ℕ) (plan : Plan) (m : Mode) (k : ℕ) (lanes : List (Lane L D E))
    (b c : BusState) → b ≡ set_up plan 11 false b.vrings (map_in plan m) → HasRings plan m k b → HasBases e base plan m lanes b
    → HasControlBase base plan b → c ≡ after_status b 15 → IsReady e base plan m k lanes c
ready_first e base plan m k lanes b c is rings bases control set = subst (λ (z : BusState). IsReady e base plan m k lanes z) (sym set) (record {
  up = ap (λ (z : BusState). after_status z 15) is;
  rings = record { many = rings.many; each = rings.each; control = rings.control };
  bases = bases;
  control = control;
})

-- ---- a renewal

-- the bus is at status 0
pub set_anew : (plan : Plan) (k : ℕ) (b c : BusState) → IsBefore plan k b → renewed_at plan k ≡ true → c ≡ after_status b 0
    → CanSetUp plan k c
set_anew plan zero b c before is set = absurd (false≢true is)
set_anew plan (suc j) b c before is set = record {
  first = λ e. absurd (omega (arith, e));
  renewed = λ yes. set ∙ ap (λ (z : BusState). after_status z 0) (before.later j (omega arith)).0;
  later = λ i e no. absurd (false≢true (sym no ∙ is));
}

-- the bus stands where there is none
pub set_on : (plan : Plan) (k : ℕ) (b : BusState) → IsBefore plan k b → renewed_at plan k ≡ false → CanSetUp plan k b
set_on plan k b before is =
    record { first = before.first; renewed = λ yes. absurd (false≢true (sym is ∙ yes)); later = λ j e no. before.later j e }

-- ---- an order

abbrev order_of : ℕ → ℕ → ℕ → Base → ℕ → Features → List Mapping → Terms
order_of queue count ring base size features map = record {
  queue = queue;
  ring = ring;
  base = base;
  count = count;
  size = size;
  features = features;
  map = map;
}

same_order : (queue count : ℕ) (r r' : ℕ) (b b' : Base) (n n' : ℕ) (f f' : Features) (m m' : List Mapping) → r ≡ r' → b ≡ b' → n ≡ n'
    → f ≡ f' → m ≡ m' → order_of queue count r b n f m ≡ order_of queue count r' b' n' f' m'
same_order queue count r r' b b' n n' f f' m m' hr hb hn hf hm =
    ap (λ (z : ℕ). order_of queue count z b n f m) hr ∙ ap (λ (z : Base). order_of queue count r' z n f m) hb
    ∙ ap (λ (z : ℕ). order_of queue count r' b' z f m) hn ∙ ap (λ (z : Features). order_of queue count r' b' n' z m) hf
    ∙ ap (λ (z : List Mapping). order_of queue count r' b' n' f' z) hm

-- a ring lies at its number
numbered : (q : ℕ) → q * 2 ^ 32 / 2 ^ 32 ≡ q
numbered q = omega arith

next_base : {E : Type 0} (e : DeviceModel E) (base : ℕ) (m : Mode) (still : Option E) (n : ℕ) → (m ≡ Pass → still ≡ None)
    → base_in e base m still ≡ Some n → (still' : Option E) → base_in e base m still' ≡ Some n
next_base e base Pass still n none h still' = let is = none refl in absurd (cc (h, ap (option_map e.base) is))
next_base e base Shadow still n none h still' = h

module _ {L D E : Type 0} (e : DeviceModel E) (base : ℕ) (plan : Plan) (m : Mode) (k : ℕ) (lanes : List (Lane L D E)) (b : BusState)
    (r : IsReady e base plan m k lanes b) where
  -- ---- any queue of the bus
  module _ (n p : ℕ) (at : IsAt plan n p) where
    -- the ring of the queue, once it is enabled
    served : vring_of (serving b n) n ≡ record (vring_at plan b p) { enabled = true }
    served = ring_new plan 15 false b.vrings (map_in plan m) b r.up n p at (record (vring_of b n) { enabled = true }) r.rings.many
        ∙ ap (λ (z : Vring). record z { enabled = true }) (ring_got plan 15 false b.vrings (map_in plan m) b r.up n p at)

    now : serving b n ≡ set_up plan 15 false (slice_set b.vrings p (record (vring_of b n) { enabled = true })) (map_in plan m)
    now = serving_is plan 15 false b.vrings (map_in plan m) b r.up n p at

    enables : enable_fault b (on n) ≡ None
    enables = no_enable_fault plan 15 false b.vrings (map_in plan m) b r.up n p at refl

    orders : order_fault (serving b n) n ≡ None
    orders = no_order_fault plan 15 false b.vrings (map_in plan m) b r.up n p at refl refl r.rings.many

    served_base : (vring_of (serving b n) n).base ≡ (vring_at plan b p).base
    served_base = ap (λ (z : Vring). z.base) served

    order_is : (ring : ℕ) → IsRing plan ring n (vring_at plan b p) → (count z : ℕ) → (vring_of (serving b n) n).base ≡ z
        → terms (serving b n) n count ≡ order_of n count ring (record { 0 = z }) plan.size plan.features (map_in plan m)
    order_is ring is_ring count z is =
        same_order n count _ ring _ (record { 0 = z }) _ plan.size _ plan.features _ (map_in plan m)
        (ap (λ (x : Vring). ring_at x.addr) served ∙ ap ring_at is_ring.addr ∙ numbered ring)
        (ap (λ (x : ℕ). let there : Base = record { 0 = x } in there) is)
        (ap (λ (x : Vring). x.num) served ∙ is_ring.num)
        (ap features_accepted now ∙ offer_back plan.packed plan.features)
        (ap (λ (x : BusState). x.map) now)

    up_on : IsUp plan m (serving b n)
    up_on = own plan 15 false _ (map_in plan m) (serving b n) now

    rings_on : HasRings plan m k (serving b n)
    rings_on = rings_kept plan m k b (serving b n) (enabled_keeps plan b (own_all plan 15 false b.vrings (map_in plan m) b r.up)
        r.rings.many n p at) r.rings

    base_on : (i : ℕ) → (vring_at plan (serving b n) i).base ≡ (vring_at plan b i).base
    base_on = enabled_base plan b (own_all plan 15 false b.vrings (map_in plan m) b r.up) r.rings.many n p at

  -- ---- a data queue
  module _ (q : ℕ) (low : q < length plan.queues) where
    pub can_enable : enable_fault b (on q) ≡ None
    can_enable = enables q q (data_at plan q low)

    pub can_order : order_fault (serving b q) q ≡ None
    can_order = orders q q (data_at plan q low)

    -- in an epoch of the mode pass the ring is served from where the lane's end rests
    pub base_kept : m ≡ Pass → (lane : Lane L D E) → slice_get lanes q ≡ Some lane → HasBase e lane.still (vring_of (serving b q) q)
    base_kept is_pass lane at end is = served_base q q (data_at plan q low) ∙ r.bases q (e.base end) lane at
        (ap (λ (z : Mode). base_in e base z lane.still) is_pass ∙ ap (option_map e.base) is)

    -- in a shadow epoch from the base of a fresh ring
    pub base_fresh : m ≡ Shadow → (lane : Lane L D E) → slice_get lanes q ≡ Some lane → (vring_of (serving b q) q).base ≡ base
    base_fresh is_shadow lane at = served_base q q (data_at plan q low) ∙ r.bases q base lane at
        (ap (λ (z : Mode). base_in e base z lane.still) is_shadow)

    terms_are : (count n : ℕ) → (vring_of (serving b q) q).base ≡ n → terms (serving b q) q count
        ≡ order_of q count (ring_in m k q) (record { 0 = n }) plan.size plan.features (map_in plan m)
    terms_are count n is = order_is q q (data_at plan q low) (ring_in m k q) (r.rings.each q low) count n is

    -- the order is the one that the machine orders
    pub ordered_is : m ≡ Pass → (count : ℕ) (lane : Lane L D E) (end : E) → slice_get lanes q ≡ Some lane → lane.still ≡ Some end
        → terms (serving b q) q count ≡ pass_order e plan q count end
    ordered_is is_pass count lane end at is = terms_are count (e.base end) (base_kept is_pass lane at end is)
        ∙ ap (λ (z : Mode). order_of q count (ring_in z k q) (record { 0 = e.base end }) plan.size plan.features (map_in plan z)) is_pass

    pub ordered_shadow : (l : LayoutModel) → base ≡ l.fresh_base → m ≡ Shadow → (count : ℕ) (lane : Lane L D E)
        → slice_get lanes q ≡ Some lane → terms (serving b q) q count ≡ shadow_order l plan k q count
    ordered_shadow l fresh is_shadow count lane at = terms_are count l.fresh_base (base_fresh is_shadow lane at ∙ fresh)
        ∙ ap (λ (z : Mode). order_of q count (ring_in z k q) (record { 0 = l.fresh_base }) plan.size plan.features (map_in plan z)) is_shadow

    -- and the bus is ready for the queues after it
    pub ready_next : (lane : Lane L D E) → (m ≡ Pass → lane.still ≡ None) → IsReady e base plan m k (set lanes q lane) (serving b q)
    ready_next lane none =
        record {
          up = up_on q q (data_at plan q low);
          rings = rings_on q q (data_at plan q low);
          bases = λ j n z at is. base_on q q (data_at plan q low) j ∙ get_set lanes q j lane z at
              (λ here same.
              let old = at_index lanes q (omega (arith, slice_get_within (set lanes q lane) j z at, length-set lanes q lane, here)) in
              let mine = next_base e base m lane.still n none
              (subst (λ (w : Lane L D E). base_in e base m w.still ≡ Some n) (sym same) is) old.0.still in
              subst (λ (i : ℕ). (vring_at plan b i).base ≡ n) (sym here) (r.bases q n old.0 old.1 mine))
              (λ other old. r.bases j n z old is);
          control = λ has. base_on q q (data_at plan q low) (control_place plan) ∙ r.control has;
        }

  -- ---- the control queue
  module _ (few : length plan.queues ≤ control_queue) (has : HasControl plan) where
    pub can_enable_control : enable_fault b (on control_queue) ≡ None
    can_enable_control = enables control_queue (control_place plan) (control_at plan few has)

    pub can_order_control : order_fault (serving b control_queue) control_queue ≡ None
    can_order_control = orders control_queue (control_place plan) (control_at plan few has)

    -- the order is the one that the machine orders
    pub ordered_control : (l : LayoutModel) → base ≡ l.fresh_base → (count : ℕ)
        → terms (serving b control_queue) control_queue count ≡ control_order l plan m k count
    ordered_control l fresh count = order_is control_queue (control_place plan) (control_at plan few has) (control_ring k)
        (r.rings.control has) count l.fresh_base
        (served_base control_queue (control_place plan) (control_at plan few has) ∙ r.control has ∙ fresh)

    -- and the bus is ready for the data queues
    pub ready_data : IsReady e base plan m k lanes (serving b control_queue)
    ready_data = record {
      up = up_on control_queue (control_place plan) (control_at plan few has);
      rings = rings_on control_queue (control_place plan) (control_at plan few has);
      bases = λ j n z at is. base_on control_queue (control_place plan) (control_at plan few has) j ∙ r.bases j n z at is;
      control = λ yes. base_on control_queue (control_place plan) (control_at plan few has) (control_place plan) ∙ r.control yes;
    }

-- ---- the lanes

-- a still lane holds its end, and no relay
pub stopped_of : {L D E G X C : Type 0} (s : Setting D E G X C) (plan : Plan) (q k : ℕ) (words : RingWords) (still : Option E)
    (relaying : Option (Relaying L D E)) (relayed : ℕ) (end : E) (guest : G) (device : X) → still ≡ Some end
    → StoppedWith s plan q k words still relaying relayed guest device → IsStopped s plan q k 0 words end relayed guest device
stopped_of s plan q k words None relaying relayed end guest device is p = absurd (cc)
stopped_of s plan q k words (Some x) None relayed end guest device is p =
    subst (λ (z : _). IsStopped s plan q k 0 words z relayed guest device) (some_same x end (Some x) refl is) p
stopped_of s plan q k words (Some x) (Some y) relayed end guest device is p = absurd p

-- each end that a still lane keeps can serve
pub still_serve : {L D E G X C : Type 0} (s : Setting D E G X C) (law : IsLawful s) (plan : Plan) (k n : ℕ) (lanes : List (Lane L D E))
    (bench : Bench G X) → IsOfLayout s.layout plan → length lanes ≡ n → HasLanes n bench → AllStopped s plan k lanes bench
    → AllServe s.device plan lanes
still_serve s law plan k n lanes bench of many parties stopped q lane end at is =
    let below : q < n = omega (arith, slice_get_within lanes q lane at, many) in
    let hg = at_index bench.guests.items q (omega (arith, below, parties.guests)) in
    let hx = at_index bench.devices.items q (omega (arith, below, parties.devices)) in
    let p : IsStopped s plan q k 0 lane.words end lane.relayed hg.0 hx.0 =
    stopped_of s plan q k lane.words lane.still lane.relaying lane.relayed end hg.0 hx.0 is
    (stopped.at q lane hg.0 hx.0 at hg.1 hx.1).held in
    let base = base_of s law plan q lane.words end hg.0 p.view p.device_view (begun_at plan q k) p.kept.driven p.rests.stands
    p.rests.still p.rests.taken in
    record {
      still = p.rests.still;
      lawful = sym (of.based (s.device.base end)) ∙ ap (λ (z : Base). s.layout.lawful_base plan.size z.0) base
          ∙ law.layout.always_based (guest_frame s.layout plan q) (take (begun_at plan q k) (queue_chains plan q)) of.lawful;
    }
