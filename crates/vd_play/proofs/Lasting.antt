-- When the rounds of an epoch end, and how many steps they have.
use Rattle.std.proofs.Common.{◌≡◌, inl, inr, ℕ, suc, zero, ◌+◌, ◌*◌, ◌≤◌, Bool, true, false, Option, Some, None, is_some, List, [], ◌∷◌, length, slice_get, sym, ◌∙◌, ap, arith}
use Rattle.std.specs.List.{list_all}
use Rattle.std.proofs.lemmas.Option.{get_or_from_slice_get}
use Rattle.vd_model.specs.declared.record.Script.{Script}
use Rattle.vd_words.specs.Plain.{RingWords}
use Rattle.vd_ring.specs.History.{takes}
use Rattle.vd_bus.specs.Scripts.{run_count}
use Rattle.vd_machine.specs.File.{Plan}
use Rattle.vd_machine.specs.Queues.{script}
use Rattle.vd_play.specs.declared.bench.Bench.{Bench}
use Rattle.vd_play.specs.declared.floor.Lane.{Lane}
use Rattle.vd_play.specs.declared.floor.Relaying.{Relaying}
use Rattle.vd_play.specs.Each.{HasLanes}
use Rattle.vd_play.specs.Journal.{queue_script, queue_chains, queue_epochs}
use Rattle.vd_play.specs.Before.{begun_at}
use Rattle.vd_play.specs.Prepared.{IsIdle}
use Rattle.vd_play.specs.Played.{KeepsBench}
use Rattle.vd_play.specs.Progress.{IsStopped, StoppedWith, InEpochWith, AllInEpoch, AllStopped, all_made, most_steps}
use Rattle.vd_play.specs.Rings.{shadows}
use Rattle.vd_play.specs.Rounds.{IsLast, AllDone}
use Rattle.vd_play.specs.Setting.{Setting, IsLawful}
use Rattle.vd_play.proofs.ShadowLanes.{plain_stopped}
use Rattle.vd_play.proofs.Bounds.{at_index, many_epochs, chains_count}
use Rattle.vd_play.proofs.Lists.{All-at}
use Rattle.vd_play.proofs.Low.{IsLow, low_few, stopped_low, passing_low, relaying_low, relaying_rounds}
use Rattle.vd_play.proofs.Sums.{sums_low, sum_more}

pub all_at : {A : Type 0} (p : A → Bool) (xs : List A) (q : ℕ) (x : A) → list_all p xs ≡ true → slice_get xs q ≡ Some x → p x ≡ true
all_at p [] q x h g = absurd (cc)
all_at p (y ∷ xs) zero x h g = grind arith
all_at p (y ∷ xs) (suc q) x h g = all_at p xs q x (grind arith) g

-- a new count of rounds begins
anew : {D E G X C : Type 0} (s : Setting D E G X C) (plan : Plan) (q k r : ℕ) (words : RingWords) (end : E) (relayed : ℕ) (guest : G)
    (device : X) → IsStopped s plan q k r words end relayed guest device → IsStopped s plan q k 0 words end relayed guest device
anew s plan q k r words end relayed guest device p = record {
  view = p.view;
  device_view = p.device_view;
  kept = p.kept;
  rests = p.rests;
  paced = p.paced;
  heard = p.heard;
  early = p.early;
  late = λ every. inr (omega arith);
}

module _ {L D E G X C : Type 0} (s : Setting D E G X C) (plan : Plan) (q : ℕ) where
  stopped_some : (on : Bool) (k r : ℕ) (words : RingWords) (still : Option E) (relaying : Option (Relaying L D E)) (relayed : ℕ)
      (guest : G) (device : X) → is_some still ≡ true → InEpochWith s plan q on k r words still relaying relayed guest device
      → StoppedWith s plan q (k + 1) words still relaying relayed guest device
  stopped_some on k r words None relaying relayed guest device is p = absurd (cc)
  stopped_some on k r words (Some end) None relayed guest device is p = anew s plan q (k + 1) r words end relayed guest device p
  stopped_some on k r words (Some end) (Some x) relayed guest device is p = absurd p

  -- the pace of a lane's parties
  lane_low : (law : IsLawful s) (on : Bool) (k r : ℕ) (words : RingWords) (still : Option E) (relaying : Option (Relaying L D E))
      (relayed : ℕ) (guest : G) (device : X) → InEpochWith s plan q on k r words still relaying relayed guest device
      → IsLow s plan q relayed guest device
  lane_low law true k r words None None relayed guest device p = passing_low s law plan q k r words relayed guest device p
  lane_low law false k r words None None relayed guest device p = absurd p
  lane_low law true k r words None (Some x) relayed guest device p =
      relaying_low s law plan q x.lane.relay.state.winding k r words x.words.words x.lane.relay.state x.lane.relay.counts relayed guest
      device p
  lane_low law false k r words None (Some x) relayed guest device p = absurd p
  lane_low law on k r words (Some end) None relayed guest device p =
      stopped_low s law plan q (k + 1) r words end relayed guest device p
  lane_low law on k r words (Some end) (Some x) relayed guest device p = absurd p

  -- no lane has so many rounds
  stopped_late : (law : IsLawful s) (k r : ℕ) (words : RingWords) (still : Option E) (relaying : Option (Relaying L D E)) (relayed : ℕ)
      (guest : G) (device : X) → 4294967296 ≤ r → InEpochWith s plan q true k r words still relaying relayed guest device
      → StoppedWith s plan q (k + 1) words still relaying relayed guest device
  stopped_late law k r words (Some end) None relayed guest device late p = anew s plan q (k + 1) r words end relayed guest device p
  stopped_late law k r words (Some end) (Some x) relayed guest device late p = absurd p
  stopped_late law k r words None None relayed guest device late p =
      let low = low_few s plan q relayed guest device (passing_low s law plan q k r words relayed guest device p) in
      absurd (omega (arith, p.rounds, low))
  stopped_late law k r words None (Some x) relayed guest device late p =
      let low = low_few s plan q relayed guest device (lane_low law true k r words None (Some x) relayed guest device p) in
      let rounds = relaying_rounds s law plan q x.lane.relay.state.winding k r words x.words.words x.lane.relay.state
      x.lane.relay.counts relayed guest device p in
      absurd (omega (arith, rounds, low))

  -- after the last epoch
  closed : (k : ℕ) (words : RingWords) (still : Option E) (relaying : Option (Relaying L D E)) (relayed : ℕ) (guest : G) (device : X)
      → StoppedWith s plan q (k + 1) words still relaying relayed guest device
      → InEpochWith s plan q false k 0 words still relaying relayed guest device
  closed k words None None relayed guest device p = absurd p
  closed k words None (Some x) relayed guest device p = absurd p
  closed k words (Some end) None relayed guest device p = p
  closed k words (Some end) (Some x) relayed guest device p = absurd p

  done_late : (law : IsLawful s) (k r : ℕ) (words : RingWords) (still : Option E) (relaying : Option (Relaying L D E)) (relayed : ℕ)
      (guest : G) (device : X) → length (queue_epochs plan q) ≡ k + 1 → 4294967296 ≤ r
      → InEpochWith s plan q false k r words still relaying relayed guest device → s.guest.is_done guest
  done_late law k r words None None relayed guest device last late p = absurd p
  done_late law k r words None (Some x) relayed guest device last late p = absurd p
  done_late law k r words (Some end) (Some x) relayed guest device last late p = absurd p
  done_late law k r words (Some end) None relayed guest device last late p =
      let low = low_few s plan q relayed guest device (stopped_low s law plan q (k + 1) r words end relayed guest device p) in
      let taken : length (takes p.device_view.done) ≡ length (queue_chains plan q) = p.rests.taken ∙ ap (begun_at plan q) (sym last)
      ∙ p.kept.driven.queue.chained.whole in
      elim (p.late (omega arith)) [
        | inl done ↦ done
        | inr pace ↦ absurd (omega (arith, pace, low))
      ]

-- ---- all lanes

module _ {L D E G X C : Type 0} (s : Setting D E G X C) (plan : Plan) where
  pub all_closed : (k : ℕ) (lanes : List (Lane L D E)) (bench : Bench G X) → AllStopped s plan (k + 1) lanes bench
      → AllInEpoch s plan false k 0 lanes bench
  all_closed k lanes bench each = record {
    at = λ q a b x ha hb hx.
        let h = each.at q a b x ha hb hx in
        record {
          held = closed s plan q k a.words a.still a.relaying a.relayed b x h.held;
          kits = h.kits;
          plain = plain_stopped s plan q (k + 1) a.words a.still a.relaying a.relayed b x h.held;
        };
  }

  pub all_late : (law : IsLawful s) (k r : ℕ) (lanes : List (Lane L D E)) (bench : Bench G X) → 4294967296 ≤ r
      → AllInEpoch s plan true k r lanes bench → AllStopped s plan (k + 1) lanes bench
  all_late law k r lanes bench late each = record {
    at = λ q a b x ha hb hx.
        let h = each.at q a b x ha hb hx in
        record { held = stopped_late s plan q law k r a.words a.still a.relaying a.relayed b x late h.held; kits = h.kits };
  }

  pub all_still : (on : Bool) (k r : ℕ) (lanes : List (Lane L D E)) (bench : Bench G X)
      → list_all (λ (l : Lane L D E). is_some l.still) lanes ≡ true → AllInEpoch s plan on k r lanes bench
      → AllStopped s plan (k + 1) lanes bench
  all_still on k r lanes bench still each = record {
    at = λ q a b x ha hb hx.
        let h = each.at q a b x ha hb hx in
        let is : is_some a.still ≡ true = all_at (λ (l : Lane L D E). is_some l.still) lanes q a still ha in
        record { held = stopped_some s plan q on k r a.words a.still a.relaying a.relayed b x is h.held; kits = h.kits };
  }

  pub guests_done : (law : IsLawful s) (k r : ℕ) (lanes : List (Lane L D E)) (bench : Bench G X) → IsLast plan k
      → HasLanes (length lanes) bench → 4294967296 ≤ r → AllInEpoch s plan false k r lanes bench
      → AllDone s.guest (length lanes) bench
  guests_done law k r lanes bench last h late each = λ q b below hb.
      let a = at_index lanes q below in
      let x = at_index bench.devices.items q (omega (arith, h.devices, below)) in
      done_late s plan q law k r a.0.words a.0.still a.0.relaying a.0.relayed b x.0 (last q) late (each.at q a.0 b x.0 a.1 hb x.1).held

  -- the sum of all steps, where the parties beyond the queues have made none
  pub all_low : (law : IsLawful s) (on : Bool) (k r : ℕ) (lanes : List (Lane L D E)) (old bench : Bench G X)
      → length lanes ≡ length plan.queues → HasLanes (length plan.queues) bench → IsIdle s old
      → KeepsBench s.party (length plan.queues) old bench → AllInEpoch s plan on k r lanes bench
      → all_made s lanes bench ≤ most_steps plan
  all_low law on k r lanes old bench many h idle keeps each =
      let count : Script → ℕ = λ z. run_count z.runs in
      let room : ℕ = (1 + shadows plan) * plan.size in
      let relayed : Lane L D E → ℕ = λ l. l.relayed in
      let low = sums_low (λ z. 1024 * (count z + room)) s.guest.accesses s.party.accesses relayed plan.queues bench.guests.items
      bench.devices.items lanes h.guests h.devices many
      (λ q z b x a hz hb hx ha.
      let l = lane_low s plan q law on k r a.words a.still a.relaying a.relayed b x (each.at q a b x ha hb hx).held in
      let here : queue_script plan q ≡ z = get_or_from_slice_get plan.queues q z (script []) hz in
      let n : length (queue_chains plan q) ≡ count z = chains_count (queue_script plan q).runs ∙ ap count here in
      omega (arith, l.low, n))
      (λ q b le hb. All-at (λ y. s.guest.accesses y ≡ 0) old.guests.items q b (sym (keeps.other_guests q le) ∙ hb) idle.guests)
      (λ q x le hx. All-at (λ y. s.party.accesses y ≡ 0) old.devices.items q x (sym (keeps.other_devices q le) ∙ hx) idle.devices) in
      omega (arith, low, sum_more count room plan.queues)

pub last_epoch : (plan : Plan) → IsLast plan (length plan.switches + 1)
last_epoch plan q = many_epochs plan (length (queue_chains plan q)) ∙ (let e : length plan.switches + 2 ≡ length plan.switches + 1 + 1 =
    omega arith in e)
