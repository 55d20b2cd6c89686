-- A device that was reset where its epoch begins with a renewal.
use Rattle.std.proofs.Common.{◌≡◌, ℕ, ◌+◌, ◌<◌, ◌≤◌, Bool, true, false, Option, Some, None, List, [], ◌∷◌, ◌++◌, if◌then◌else◌, length, length-append, slice_get, ◌∙◌, ap, sym, arith}
use Rattle.std.specs.List.{sum_by}
use Rattle.std.proofs.lemmas.Bool.{false≢true}
use Rattle.std.proofs.lemmas.List.{append-nil, append_assoc}
use Rattle.std.proofs.lemmas.Option.{slice_get_within}
use Rattle.vd_bus.specs.declared.event.Event.{Event}
use Rattle.vd_bus.specs.declared.event.Event.TheVariants.{Reset}
use Rattle.vd_bus.specs.Device.{DeviceParty}
use Rattle.vd_bus.specs.Pace.{attaches}
use Rattle.vd_machine.specs.File.{Plan}
use Rattle.vd_words.specs.Plain.{RingWords}
use Rattle.vd_play.specs.declared.bench.Bench.{Bench}
use Rattle.vd_play.specs.declared.floor.Lane.{Lane}
use Rattle.vd_play.specs.declared.floor.Relaying.{Relaying}
use Rattle.vd_play.specs.Before.{begun_at, resets}
use Rattle.vd_play.specs.Each.{HasLanes}
use Rattle.vd_play.specs.Epochs.{renewed_at}
use Rattle.vd_play.specs.Journal.{queue_chains, queue_epochs}
use Rattle.vd_play.specs.Lane.{HasRoom}
use Rattle.vd_play.specs.Played.{KeepsBench}
use Rattle.vd_play.specs.Progress.{IsStopped, StoppedWith, AllStopped, all_made}
use Rattle.vd_play.specs.Renewing.{IsRenewed, CanReset, AreRenewed, Renewed, AllRenewed}
use Rattle.vd_play.specs.Setting.{Setting}
use Rattle.vd_play.proofs.Benches.{same_many}
use Rattle.vd_play.proofs.Bounds.{at_index, bounded, many_epochs}
use Rattle.vd_play.proofs.Lists.{some_same}
use Rattle.vd_play.proofs.Pace.{attaches_more}
use Rattle.vd_play.proofs.Rooms.{journal_long}

-- these events were appended into the room that was there, and nothing else has changed but the settings
pub record Renews {X C : Type 0} (m : DeviceParty X C) (added : List Event) (x y : X) : Type 0 where
  pub events : m.events y ≡ m.events x ++ added
  pub begun : m.begun y ≡ m.begun x
  pub faults : m.faults y ≡ m.faults x
  pub window : m.window y ≡ m.window x
  pub carried : m.carried y ≡ m.carried x
  pub attached : m.attached y ≡ m.attached x
  pub event_room : m.event_room x ≤ m.event_room y + length added
  pub chain_room : m.chain_room x ≤ m.chain_room y
  pub counts : (m.accesses y ≡ m.accesses x) × (m.heard y ≡ m.heard x)
  pub attaches_same : attaches (m.events y) ≡ attaches (m.events x)

pub renews : {X C : Type 0} (m : DeviceParty X C) (b : Bool) (n : ℕ) (x y : X) → length (m.begun x) ≡ n → IsRenewed m b x y
    → Renews m (if b then Reset n ∷ [] else []) x y
renews m true n x y is h = record {
  events = h.noted.events ∙ ap (λ j. m.events x ++ Reset j ∷ []) is;
  begun = h.noted.begun;
  faults = h.noted.faults;
  window = h.noted.window;
  carried = h.noted.carried;
  attached = h.attached;
  event_room = omega (arith, h.noted.room.0);
  chain_room = h.noted.room.1;
  counts = h.noted.counts;
  attaches_same = ap attaches h.noted.events ∙ attaches_more (m.events x) (Reset (length (m.begun x)) ∷ [])
      ∙ (let e : attaches (m.events x) + 0 ≡ attaches (m.events x) = omega arith in e);
}
renews m false n x y is h = record {
  events = ap m.events h ∙ sym (append-nil (m.events x));
  begun = ap m.begun h;
  faults = ap m.faults h;
  window = ap m.window h;
  carried = ap m.carried h;
  attached = ap m.attached h;
  event_room = omega (arith, ap m.event_room h);
  chain_room = omega (arith, ap m.chain_room h);
  counts = (ap m.accesses h, ap m.heard h);
  attaches_same = ap (λ z. attaches (m.events z)) h;
}

-- a device was attached after that
pub events_attached : (es es1 es2 old front : List Event) (a b : Event) → es ≡ old → es1 ≡ es ++ front → es2 ≡ es1 ++ a ∷ [] → a ≡ b
    → es2 ≡ old ++ (front ++ b ∷ [])
events_attached es es1 es2 old front a b first second third same =
    third ∙ ap (λ zs. zs ++ a ∷ []) (second ∙ ap (λ zs. zs ++ front) first) ∙ append_assoc old front (a ∷ [])
    ∙ ap (λ z. old ++ (front ++ z ∷ [])) same

pub room_renewed : {D E G X C : Type 0} (s : Setting D E G X C) (plan : Plan) (q : ℕ) (added : List Event) (x y : X)
    → Renews s.party added x y → HasRoom s plan q x → HasRoom s plan q y
room_renewed s plan q added x y n h = omega (arith, n.event_room, ap length n.events, length-append (s.party.events x) added, h)

module _ {D E G X C : Type 0} (s : Setting D E G X C) (plan : Plan) (q k r : ℕ) (words : RingWords) (end : E) (relayed : ℕ) (guest : G)
    (device : X) (p : IsStopped s plan q k r words end relayed guest device) where
  -- the room for the epoch's events
  pub room_before : k < length (queue_epochs plan q) → length (resets plan q k) + 2 ≤ s.party.event_room device
  room_before more =
      let b = bounded (length (queue_chains plan q)) (queue_epochs plan q) k p.kept.driven.queue.chained more in
      omega (
        arith,
        p.rests.room,
        ap length p.rests.events,
        journal_long s.device s.layout plan q k b.epoch b.is (p.kept.driven.queue.numbered.at k b.epoch b.is).2 b.first,
      )

module _ {L D E G X C : Type 0} (s : Setting D E G X C) (plan : Plan) (q k : ℕ) where
  held_begun : (words : RingWords) (still : Option E) (relaying : Option (Relaying L D E)) (relayed : ℕ) (guest : G) (device : X)
      → StoppedWith s plan q k words still relaying relayed guest device → length (s.party.begun device) ≡ begun_at plan q k
  held_begun words None relaying relayed guest device p = absurd p
  held_begun words (Some end) (Some x) relayed guest device p = absurd p
  held_begun words (Some end) None relayed guest device p = p.rests.begun

  pub renews_stopped : (lane : Lane L D E) (guest : G) (device : X) → (p : Renewed s plan q k lane guest device)
      → Renews s.party (resets plan q k) p.before device
  renews_stopped lane guest device p = renews s.party (renewed_at plan k) (begun_at plan q k) p.before device
      (held_begun lane.words lane.still lane.relaying lane.relayed guest p.before p.stopped.held) p.renewed

  -- a lane whose epoch begins with a renewal has a device that can be reset
  pub can_reset : (words : RingWords) (still : Option E) (relaying : Option (Relaying L D E)) (relayed : ℕ) (guest : G) (device : X)
      → k < length (queue_epochs plan q) → renewed_at plan k ≡ true → StoppedWith s plan q k words still relaying relayed guest device
      → (s.party.attached device ≡ None) × (1 ≤ s.party.event_room device)
  can_reset words None relaying relayed guest device more is p = absurd p
  can_reset words (Some end) (Some x) relayed guest device more is p = absurd p
  can_reset words (Some end) None relayed guest device more is p =
      (p.rests.free, omega (arith, room_before s plan q k 0 words end relayed guest device p more))

-- ---- a bench

-- without a renewal each device is as it was
pub are_same : {G X C : Type 0} (m : DeviceParty X C) (b : Bool) (n : ℕ) (bench : Bench G X) → b ≡ false → AreRenewed m b n bench bench
are_same m false n bench is = λ q x y below hx hy. some_same y x (slice_get bench.devices.items q) hy hx
are_same m true n bench is = absurd (false≢true (sym is))

module _ {L D E G X C : Type 0} (s : Setting D E G X C) (plan : Plan) (k n : ℕ) (lanes : List (Lane L D E)) (old new : Bench G X)
    (many : length lanes ≡ n) (stopped : AllStopped s plan k lanes old) where
  pub all_can_reset : HasLanes n old → k < length plan.switches + 2 → renewed_at plan k ≡ true → CanReset s.party n old
  all_can_reset parties less is q x below hx =
      let a = at_index lanes q (omega (arith, below, many)) in
      let g = at_index old.guests.items q (omega (arith, below, parties.guests)) in
      can_reset s plan q k a.0.words a.0.still a.0.relaying a.0.relayed g.0 x
      (omega (arith, less, many_epochs plan (length (queue_chains plan q)))) is (stopped.at q a.0 g.0 x a.1 g.1 hx).held

  module _ (guests : new.guests ≡ old.guests) where
    pub all_renewed : KeepsBench s.party n old new → AreRenewed s.party (renewed_at plan k) n old new → AllRenewed s plan k lanes new
    all_renewed keeps are = record {
      at = λ q a g y ha hg hy.
          let x = at_index old.devices.items q
          (omega (arith, slice_get_within new.devices.items q y hy, same_many s.party n old new keeps)) in
          record {
            before = x.0;
            stopped = stopped.at q a g x.0 ha (ap (λ (z : _). slice_get z.items q) (sym guests) ∙ hg) x.1;
            renewed = are q x.0 y (omega (arith, slice_get_within lanes q a ha, many)) x.1 hy;
          };
    }

    pub made_renewed : sum_by s.party.accesses new.devices.items ≡ sum_by s.party.accesses old.devices.items
        → all_made s lanes new ≡ all_made s lanes old
    made_renewed same = omega (arith, same, ap (λ (z : _). sum_by s.guest.accesses z.items) guests)
