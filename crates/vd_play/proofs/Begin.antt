-- A lane that is still, and its device's attach.
use Rattle.std.proofs.Common.{◌≡◌, ℕ, ◌+◌, ◌-◌, ◌<◌, ◌≤◌, Option, Some, None, true, false, List, [], length, slice_get, refl, sym, ◌∙◌, ap, arith}
use Rattle.std.proofs.lemmas.Bool.{lt-ltb}
use Rattle.std.proofs.lemmas.Option.{get_or_from_slice_get}
use Rattle.vd_model.specs.declared.record.Script.{Script}
use Rattle.vd_bus.specs.Scripts.{run_count, run_chains}
use Rattle.vd_machine.specs.Queues.{script}
use Rattle.vd_model.specs.declared.base.Mode.TheVariants.{Pass}
use Rattle.vd_control.specs.declared.settings.Settings.{Settings}
use Rattle.vd_words.specs.Plain.{RingWords}
use Rattle.vd_bus.specs.declared.event.Event.TheVariants.{Attach}
use Rattle.vd_bus.specs.Device.{IsAttach, control_settings}
use Rattle.vd_bus.specs.Orders.{Terms, FitsQueue, mode_of}
use Rattle.vd_bus.specs.Pace.{attaches}
use Rattle.vd_machine.specs.File.{Plan}
use Rattle.vd_ring.specs.declared.driver.DriverView.{DriverView}
use Rattle.vd_ring.specs.declared.frame.Frame.{Frame}
use Rattle.vd_play.specs.declared.floor.Relaying.{Relaying}
use Rattle.vd_play.specs.Journal.{queue_script, queue_chains, queue_epochs, guest_frame, attach_event, base_at, pass_map}
use Rattle.vd_play.specs.Before.{events_before, begun_at, resets}
use Rattle.vd_play.specs.Commands.{settings_at}
use Rattle.vd_play.specs.Orders.{pass_order, stop_of, CanAttach}
use Rattle.vd_play.specs.Epochs.{mode_at}
use Rattle.vd_play.specs.Progress.{IsPaced, IsStopped, IsPassing, StoppedWith, InEpochWith}
use Rattle.vd_play.specs.Setting.{Setting, IsLawful}
use Rattle.vd_play.proofs.Bounds.{bounded, stops_at, many_epochs, chains_count}
use Rattle.vd_play.proofs.Keep.{kept_still, base_of}
use Rattle.vd_play.proofs.Pace.{attaches_more}
use Rattle.vd_play.proofs.Renewals.{Renews, events_attached, room_renewed, room_before}
use Rattle.vd_play.proofs.Rooms.{room_noted}

passes : (q : ℕ) → q < 8 → mode_of q ≡ Pass
passes q low = rw (lt-ltb q 16 (omega arith)) refl

-- a ring of a data queue is no control ring
pub fits : (t : Terms) (f g : Frame) → f ≡ g → g.control ≡ false → (t.queue ≡ 15 → ⊥) → FitsQueue t f
fits t f g is plain other = (λ h. absurd (cc (h, ap (λ (z : Frame). z.control) is, plain)), λ h. absurd (other h))

-- a device that is attached has kept its pace
pub paced_attached : {D E G X C : Type 0} (s : Setting D E G X C) (plan : Plan) (q k : ℕ) (guest : G) (device device' : X) (v : DriverView)
    → IsPaced s (length (queue_chains plan q)) k guest device v
    → (s.party.accesses device' ≡ s.party.accesses device) × (s.party.heard device' ≡ s.party.heard device)
    → attaches (s.party.events device') ≡ attaches (s.party.events device) + 1
    → IsPaced s (length (queue_chains plan q)) (k + 1) guest device' v
paced_attached s plan q k guest device device' v p same counted = record {
  guest_heard = p.guest_heard;
  guest_low = p.guest_low;
  device_low = omega (arith, p.device_low, same.0, same.1, counted);
  times = omega (arith, p.times, counted);
}

module _ {D E G X C : Type 0} (s : Setting D E G X C) (law : IsLawful s) (plan : Plan) (q k : ℕ) where
  -- by the machine's order for an epoch of the mode pass
  pub pass_starts : (control : Option X) → control_settings s.party.settings control ≡ settings_at plan k
      → (to : ℕ) (words : RingWords) (end : E) (relayed : ℕ) (guest : G) (device device1 device' : X)
      → to ≡ begun_at plan q (k + 1) → k < length (queue_epochs plan q) → mode_at plan k ≡ Pass
      → IsStopped s plan q k 0 words end relayed guest device → Renews s.party (resets plan q k) device device1
      → IsAttach s.device s.party (pass_order s.device plan q (to - length (s.party.begun device1)) end) control end device1 device'
      → IsPassing s plan q k 0 words relayed guest device'
  pass_starts control set to words end relayed guest device device1 device' is more mode p n a =
      let order : Terms = pass_order s.device plan q (to - length (s.party.begun device1)) end in
      let b = bounded (length (queue_chains plan q)) (queue_epochs plan q) k p.kept.driven.queue.chained more in
      let many : length (s.party.begun device1) ≡ begun_at plan q k = ap length n.begun ∙ p.rests.begun in
      let framed : p.device_view.frame ≡ guest_frame s.layout plan q =
      (law.layout.wide words.words p.view p.device_view p.kept.driven.ring).1 ∙ p.kept.driven.part.framed in
      let other : q ≡ 15 → ⊥ = λ h. omega (arith, h, p.kept.driven.queue.low) in
      let base = base_of s law plan q words end guest p.view p.device_view (begun_at plan q k) p.kept.driven p.rests.stands
      p.rests.still p.rests.taken in
      let own : Settings = control_settings s.party.settings control in
      let last : Attach (length (s.party.begun device1)) q (record { 0 = s.device.base end }) (mode_of q) own (pass_map plan)
      ≡ attach_event s.device s.layout plan q k (begun_at plan q k) =
      ap (λ z. Attach z q (record { 0 = s.device.base end }) (mode_of q) own (pass_map plan)) many
      ∙ ap (λ z. Attach (begun_at plan q k) q z (mode_of q) own (pass_map plan)) base
      ∙ ap (λ z. Attach (begun_at plan q k) q (base_at s.device s.layout plan q (begun_at plan q k)) z own (pass_map plan))
      (passes q p.kept.driven.queue.low)
      ∙ ap (λ z. Attach (begun_at plan q k) q (base_at s.device s.layout plan q (begun_at plan q k)) Pass z (pass_map plan)) set in
      let counted : attaches (s.party.events device') ≡ attaches (s.party.events device) + 1 =
      ap attaches a.noted.events ∙ attaches_more (s.party.events device1) _ ∙ ap (λ j. j + 1) n.attaches_same in
      record {
        view = p.view;
        device_view = p.device_view;
        kept = kept_still s law plan q k words guest device device' p.view p.device_view (a.noted.begun ∙ n.begun)
            (a.noted.window ∙ n.window) (omega (arith, n.chain_room, a.noted.room.1)) p.kept;
        serves = record {
          epoch = more;
          mode = mode;
          holds = a.holds p.device_view p.rests.stands (fits order p.device_view.frame (guest_frame s.layout plan q) framed refl other);
          by = record { queue = q; count = to - length (s.party.begun device1); at = length (s.party.begun device1); from = a.from };
          attached = a.attached;
          for_data = other;
          from = (many, a.taken p.device_view p.rests.stands ∙ p.rests.taken);
          to = omega (arith, many, is, b.rises);
          events = events_attached (s.party.events device) (s.party.events device1) (s.party.events device')
              (events_before s.device s.layout plan q k) (resets plan q k) _ _ p.rests.events n.events a.noted.events last;
          room = room_noted s plan q device1 device' _ a.noted.events a.noted.room.0
              (room_renewed s plan q (resets plan q k) device device1 n p.rests.room);
          live = a.live;
        };
        paced = paced_attached s plan q k guest device device' p.view p.paced
            (a.noted.counts.0 ∙ n.counts.0, a.noted.counts.1 ∙ n.counts.1) counted;
        heard = record {
          relays = p.heard.relays;
          heard = omega (arith, p.heard.heard, a.noted.counts.1, n.counts.1);
          low = p.heard.low;
        };
        rounds = omega arith;
      }

module _ {L D E G X C : Type 0} (s : Setting D E G X C) (law : IsLawful s) (plan : Plan) (q k : ℕ) where
  pub asks : (to : ℕ) (words : RingWords) (still : Option E) (relaying : Option (Relaying L D E)) (relayed : ℕ) (guest : G)
      (device device1 : X) → to ≡ begun_at plan q (k + 1) → k < length (queue_epochs plan q)
      → StoppedWith s plan q k words still relaying relayed guest device → Renews s.party (resets plan q k) device device1
      → (length (s.party.begun device1) ≤ to) × CanAttach s.device s.party q (to - length (s.party.begun device1)) still device1
  asks to words None relaying relayed guest device device1 is more p n = absurd p
  asks to words (Some end) (Some x) relayed guest device device1 is more p n = absurd p
  asks to words (Some end) None relayed guest device device1 is more p n =
      let many : length (s.party.begun device1) ≡ length (s.party.begun device) = ap length n.begun in
      let b = bounded (length (queue_chains plan q)) (queue_epochs plan q) k p.kept.driven.queue.chained more in (
        omega (arith, is, b.rises, p.rests.begun, many),
        record {
          low = p.kept.driven.queue.low;
          still_end = p.rests.still;
          free = n.attached ∙ p.rests.free;
          events = omega (arith, room_before s plan q k 0 words end relayed guest device p more, n.event_room);
          chains = omega (arith, is, b.low, p.kept.reserved.room, n.chain_room, many);
          few = omega (arith, is, b.low, b.rises, p.rests.begun, p.kept.driven.queue.few, many);
        },
      )

  -- the lane and its device begin the epoch
  pub pass_begins : (control : Option X) → control_settings s.party.settings control ≡ settings_at plan k
      → (to : ℕ) (words words' : RingWords) (still still' : Option E) (relaying relaying' : Option (Relaying L D E))
      (relayed relayed' : ℕ) (guest : G) (device device1 device' : X) → to ≡ begun_at plan q (k + 1) → k < length (queue_epochs plan q)
      → mode_at plan k ≡ Pass → (words' ≡ words) × (relayed' ≡ relayed) → still' ≡ None → relaying' ≡ relaying
      → ((end : E) → still ≡ Some end
      → IsAttach s.device s.party (pass_order s.device plan q (to - length (s.party.begun device1)) end) control end device1 device')
      → StoppedWith s plan q k words still relaying relayed guest device → Renews s.party (resets plan q k) device device1
      → InEpochWith s plan q true k 0 words' still' relaying' relayed' guest device'
      × (s.party.accesses device' ≡ s.party.accesses device1)
  pass_begins control set to words words' None still' relaying relaying' relayed relayed' guest device device1 device' is more mode same
      none
      as_before a p n = absurd p
  pass_begins control set to words words' (Some end) still' (Some x) relaying' relayed relayed' guest device device1 device' is more mode
      same none
      as_before a p n = absurd p
  pass_begins control set to words words' (Some end) still' None relaying' relayed relayed' guest device device1 device' is more mode same
      none
      as_before a p n =
      let begun : IsPassing s plan q k 0 words relayed guest device' =
      pass_starts s law plan q k control set to words end relayed guest device device1 device' is more mode p n (a end refl) in (
        rw (same.0, none, as_before, same.1) begun,
        (a end refl).noted.counts.0,
      )

-- where the next epoch of a queue ends, as the code finds it
pub stop_is : (plan : Plan) (q k n to : ℕ) (qs : List Script) (s : Script) → qs ≡ plan.queues → slice_get qs q ≡ Some s
    → n ≡ run_count s.runs → to ≡ stop_of plan.switches k n → k < length plan.switches + 2
    → (to ≡ begun_at plan q (k + 1)) × (k < length (queue_epochs plan q))
stop_is plan q k n to qs s same at count is less =
    let here : queue_script plan q ≡ s = get_or_from_slice_get plan.queues q s (script []) (ap (λ zs. slice_get zs q) (sym same) ∙ at) in
    let many : n ≡ length (queue_chains plan q) = count ∙ sym (chains_count s.runs) ∙ ap (λ (z : Script). length (run_chains z.runs))
    (sym here) in (
      is ∙ ap (stop_of plan.switches k) many ∙ stops_at plan (length (queue_chains plan q)) k less,
      omega (arith, many_epochs plan (length (queue_chains plan q))),
    )
