-- The control queue's lane in the course of a play has the beginning of its journal.
use Rattle.std.proofs.Common.{◌≡◌, ℕ, ◌+◌, ◌<◌, ◌≤◌, Bool, true, false, Option, Some, None, List, [], ◌++◌, length, refl, sym, ◌∙◌, ap, subst, arith}
use Rattle.std.specs.List.{All}
use Rattle.std.proofs.lemmas.List.{append-nil, take_all}
use mathlib.Core.List.{IsPrefix}
use Rattle.vd_model.specs.declared.record.Begun.{Begun}
use Rattle.vd_words.specs.Plain.{RingWords}
use Rattle.vd_ring.specs.declared.driver.DriverView.{DriverView}
use Rattle.vd_ring.specs.declared.device.DeviceView.{DeviceView}
use Rattle.vd_ring.proofs.ListSteps.{given_below}
use Rattle.vd_layout.specs.declared.device.DeviceEnd as device_end
use Rattle.vd_layout.specs.declared.driver.DriverEnd as driver_end
use Rattle.vd_layout.specs.declared.layout.Layout as layout
use Rattle.vd_bus.specs.declared.event.Event.{Event}
use Rattle.vd_bus.specs.Device.{IsRefused}
use Rattle.vd_control.specs.declared.settings.Settings.{Settings}
use Rattle.vd_relay.specs.declared.control.Control.{Control}
use Rattle.vd_relay.specs.declared.counts.Counts.{Counts}
use Rattle.vd_relay.specs.declared.state.State.{State}
use Rattle.vd_switch.specs.declared.still.Still.{Still}
use Rattle.vd_switch.specs.Controlling.{ControlStart, start_of}
use Rattle.vd_switch.proofs.CommandAnswers.{all_answers}
use Rattle.vd_machine.specs.File.{Plan}
use Rattle.vd_play.specs.declared.command_lane.CommandLane.{CommandLane}
use Rattle.vd_play.specs.declared.floor.Relaying.{Relaying}
use Rattle.vd_play.specs.Commands.{control_commands, control_epochs, sent_at}
use Rattle.vd_play.specs.CommandLane.{command_resets, command_attached}
use Rattle.vd_play.specs.CommandProgress.{Next, IsCommandStopped, IsCommandShadowing, IsCommandWinding, CommandRelayingBy, CommandStoppedWith, InCommandRoundWith, InCommandRound}
use Rattle.vd_play.specs.CommandProgress.Next.{guests}
use Rattle.vd_play.specs.CommandRenewing.{CommandRenewed}
use Rattle.vd_play.specs.CommandShadowed.{AreCommandsRelayed}
use Rattle.vd_play.specs.CommandsPlayed.{bytes_of, HasAckLength, AreBegunUpTo, AreCommandsCut}
use Rattle.vd_play.specs.ControlJournal.{journalled_at, control_events}
use Rattle.vd_play.specs.Epochs.{renewed_at}
use Rattle.vd_play.specs.Renewing.{IsRenewed}
use Rattle.vd_play.specs.Setting.{Setting, IsLawful}
use Rattle.vd_play.proofs.Bounds.{many_epochs}
use Rattle.vd_play.proofs.CommandBases.{BeginControlEvents, begin_before, begin_within}
use Rattle.vd_play.proofs.CommandBefore.{begun_before}
use Rattle.vd_play.proofs.CommandBegun.{keeps_now, own_begun, begun_up_to, given_low}
use Rattle.vd_play.proofs.CommandBounds.{epoch_of}
use Rattle.vd_play.proofs.CommandReturns.{returned_once, returned_begun, loads_right}
use Rattle.vd_play.proofs.Renewals.{renews}

module _ {D E G X C : Type 0} (s : Setting D E G X C) (law : IsLawful s) (plan : Plan) where
  -- a refused attach has changed nothing of it
  pub cut_refused : (guest : G) (device device' : X) → IsRefused s.party device device' → AreCommandsCut s plan guest device
      → AreCommandsCut s plan guest device'
  cut_refused guest device device' r c = record {
    bases = c.bases;
    based = c.based;
    events = subst (λ (zs : List Event). IsPrefix zs (control_events s.layout plan c.bases)) (sym r.events) c.events;
    own = c.own;
    commands = subst (λ (bs : List Begun). AreBegunUpTo plan bs c.own) (sym r.begun) c.commands;
    each = subst (λ (bs : List Begun). All HasAckLength bs) (sym r.begun) c.each;
    once = c.once;
    returned = c.returned;
  }

  -- ---- between two epochs

  -- by a device that has begun as much
  cut_rests : (k r : ℕ) (words : RingWords) (end : E) (control : Bool) (settings : Settings) (relayed : ℕ) (guest : G) (device device' : X)
      → k ≤ length (control_epochs plan) → IsCommandStopped s plan k r words end control settings relayed guest device
      → s.party.begun device' ≡ s.party.begun device → BeginControlEvents s.device s.layout plan (s.party.events device')
      → AreCommandsCut s plan guest device'
  cut_rests k r words end control settings relayed guest device device' within p same events =
      let v = p.view in
      let w = p.device_view in
      let d = p.kept.driven in
      let bs : List Begun = s.party.begun device in
      let lists = law.layout.lists words.words v w d.ring in
      let all : bytes_of bs ≡ _ =
      ap bytes_of (sym (take_all (journalled_at plan k) bs (omega (arith, p.rests.begun)))) ∙ p.kept.account.before in
      record {
        bases = events.bases;
        based = events.based;
        events = events.begins;
        own = sent_at plan k;
        commands = begun_before s.layout plan d.queue k (s.party.begun device') within
            (omega (arith, many_epochs plan (length (control_commands plan)))) (ap bytes_of same ∙ all);
        each = subst (λ (zs : List Begun). All HasAckLength zs) (sym same) p.kept.account.each;
        once = returned_once s law plan words guest v w d;
        returned = returned_begun s law plan words guest v w d
            (loads_right s law plan words guest v w d (sent_at plan k) p.rests.taken p.rests.answers) p.rests.ones (sent_at plan k)
            (λ j below. omega (arith, given_below v.frame v.done w.done j lists below, p.rests.taken));
      }

  cut_stopped : (k r : ℕ) (words : RingWords) (end : E) (control : Bool) (settings : Settings) (relayed : ℕ) (guest : G) (device : X)
      → k ≤ length (control_epochs plan) → IsCommandStopped s plan k r words end control settings relayed guest device
      → AreCommandsCut s plan guest device
  cut_stopped k r words end control settings relayed guest device within p =
      let noted = p.rests.events in
      cut_rests k r words end control settings relayed guest device device within p refl
      (begin_before s.device s.layout plan p.kept.driven.queue.numbered k (s.party.events device) noted.bases noted.based noted.events)

  -- its device was reset where its epoch begins with a renewal
  cut_reset : (k : ℕ) (words : RingWords) (end : E) (control : Bool) (settings : Settings) (relayed : ℕ) (guest : G) (device device' : X)
      → k < length (control_epochs plan) → IsCommandStopped s plan k 0 words end control settings relayed guest device
      → IsRenewed s.party (renewed_at plan k) device device' → AreCommandsCut s plan guest device'
  cut_reset k words end control settings relayed guest device device' low p renewed =
      let q = p.kept.driven.queue in
      let noted = p.rests.events in
      let n = renews s.party (renewed_at plan k) (journalled_at plan k) device device' p.rests.begun renewed in
      let ep = epoch_of s.layout plan q k low in
      cut_rests k 0 words end control settings relayed guest device device' (omega (arith, low)) p n.begun
      (begin_within s.device s.layout plan q.numbered k (s.party.events device') noted.bases noted.based ep.bound.epoch
      (command_resets plan k) _ ep.bound.is refl
      (n.events ∙ ap (λ (zs : List Event). zs ++ command_resets plan k) (noted.events ∙ append-nil _)))

  -- ---- with a relay

  cut_relayed : (k : ℕ) (words : RingWords) (shadow_words : List ℕ) (r : State E D) (control : Control) (settings : Settings) (c : Counts)
      (guest : G) (device : X) (x : ControlStart) (v : DriverView) (w : DeviceView) (sv : DriverView) (sw : DeviceView)
      → AreCommandsRelayed s plan k words shadow_words r control settings c guest device x v w sv sw
      → BeginControlEvents s.device s.layout plan (s.party.events device) → AreCommandsCut s plan guest device
  cut_relayed k words shadow_words r control settings c guest device x v w sv sw p events =
      let keeps = keeps_now s law plan k words shadow_words r control settings c guest device x v w sv sw p in
      let own : ℕ = own_begun s law plan k words shadow_words r control settings c guest device x v w sv sw p in
      let answers = all_answers s.device s.driver s.layout law.layout (start_of x control) (s.party.begun device) words.words v w
      p.driven.ring keeps p.lane.answers in
      record {
        bases = events.bases;
        based = events.based;
        events = events.begins;
        own = own;
        commands = begun_up_to s law plan k words shadow_words r control settings c guest device x v w sv sw p;
        each = p.account.each;
        once = returned_once s law plan words guest v w p.driven;
        returned = returned_begun s law plan words guest v w p.driven answers.1 keeps.given_ones own
            (given_low s law plan k words shadow_words r control settings c guest device x v w sv sw p);
      }

  cut_shadowing : (next : Next) (k n : ℕ) (words : RingWords) (shadow_words : List ℕ) (r : State E D) (control : Control)
      (settings : Settings) (c : Counts) (relayed : ℕ) (guest : G) (device : X)
      → IsCommandShadowing s plan next k n words shadow_words r control settings c relayed guest device
      → AreCommandsCut s plan guest device
  cut_shadowing next k n words shadow_words r control settings c relayed guest device p =
      let q = p.kept.driven.queue in
      let noted = p.serves.events in
      let ep = epoch_of s.layout plan q k p.kept.epoch in
      cut_relayed k words shadow_words r control settings c guest device p.start p.view p.device_view p.shadow_view p.shadow_device_view
      p.kept
      (begin_within s.device s.layout plan q.numbered k (s.party.events device) noted.bases noted.based ep.bound.epoch
      (command_attached s.layout plan k) [] ep.bound.is (append-nil (command_attached s.layout plan k)) noted.events)

  cut_winding : (next : Next) (k n : ℕ) (words : RingWords) (shadow_words : List ℕ) (r : State E D) (control : Control)
      (settings : Settings) (c : Counts) (relayed : ℕ) (guest : G) (device : X)
      → IsCommandWinding s plan next k n words shadow_words r control settings c relayed guest device
      → AreCommandsCut s plan guest device
  cut_winding next k n words shadow_words r control settings c relayed guest device p =
      let noted = p.served.events in
      cut_relayed k words shadow_words r control settings c guest device p.start p.view p.device_view p.shadow_view p.shadow_device_view
      p.kept
      (begin_before s.device s.layout plan p.kept.driven.queue.numbered (k + 1) (s.party.events device) noted.bases noted.based
      noted.events)

  cut_relaying : (next : Next) (o : Option Control) (winding : Bool) (k n : ℕ) (words : RingWords) (shadow_words : List ℕ) (r : State E D)
      (settings : Settings) (c : Counts) (relayed : ℕ) (guest : G) (device : X)
      → CommandRelayingBy o winding s plan next k n words shadow_words r settings c relayed guest device
      → AreCommandsCut s plan guest device
  cut_relaying next (Some y) false k n words shadow_words r settings c relayed guest device p =
      cut_shadowing next k n words shadow_words r y settings c relayed guest device p
  cut_relaying next (Some y) true k n words shadow_words r settings c relayed guest device p =
      cut_winding next k n words shadow_words r y settings c relayed guest device p
  cut_relaying next None winding k n words shadow_words r settings c relayed guest device p = absurd p

-- ---- the lane

module _ {L D E G X C : Type 0} {i : layout.Ghosts L D E} {j : driver_end.Ghosts D} {h : device_end.Ghosts E} (s : Setting D E G X C)
    (law : IsLawful s) (plan : Plan) where
  renewed_with : (k : ℕ) (words : RingWords) (still : Option (Still L D E i j h)) (o : Option (Relaying L D E)) (relayed : ℕ) (guest : G)
      (device device' : X) → k < length (control_epochs plan) → CommandStoppedWith s plan k words still o relayed guest device
      → IsRenewed s.party (renewed_at plan k) device device' → AreCommandsCut s plan guest device'
  renewed_with k words None o relayed guest device device' low p renewed = absurd p
  renewed_with k words (Some y) (Some x) relayed guest device device' low p renewed = absurd p
  renewed_with k words (Some y) None relayed guest device device' low p renewed =
      cut_reset s law plan k words y.end y.control y.settings relayed guest device device' low p renewed

  round_with : (next : Next) (on : Bool) (k n : ℕ) (words : RingWords) (still : Option (Still L D E i j h)) (o : Option (Relaying L D E))
      (relayed : ℕ) (guest : G) (device : X) → k + 1 ≤ length (control_epochs plan)
      → InCommandRoundWith s plan next on k n words still o relayed guest device → AreCommandsCut s plan guest device
  round_with next true k n words None (Some x) relayed guest device within p =
      cut_relaying s law plan next x.lane.relay.control x.lane.relay.state.winding k n words x.words.words x.lane.relay.state
      x.lane.relay.settings x.lane.relay.counts relayed guest device p
  round_with next false k n words None (Some x) relayed guest device within p = absurd p
  round_with next on k n words None None relayed guest device within p = absurd p
  round_with next on k n words (Some y) (Some x) relayed guest device within p = absurd p
  round_with guests on k n words (Some y) None relayed guest device within p =
      cut_stopped s law plan (k + 1) n words y.end y.control y.settings relayed guest device within p
  round_with Next.relays on k n words (Some y) None relayed guest device within p =
      cut_stopped s law plan (k + 1) (n + 1) words y.end y.control y.settings relayed guest device within p
  round_with Next.devices on k n words (Some y) None relayed guest device within p =
      cut_stopped s law plan (k + 1) (n + 1) words y.end y.control y.settings relayed guest device within p

  -- a still lane, whose device was reset where the epoch begins with a renewal
  pub command_cut_renewed : (k : ℕ) (lane : CommandLane L D E i j h) (guest : G) (device : X) → k < length (control_epochs plan)
      → CommandRenewed s plan k lane guest device → AreCommandsCut s plan guest device
  command_cut_renewed k lane guest device low p =
      renewed_with k lane.words lane.still lane.relaying lane.relayed guest p.before device low p.stopped.held p.renewed

  -- and whose attach was refused
  pub command_cut_refused : (k : ℕ) (lane : CommandLane L D E i j h) (guest : G) (device device' : X) → k < length (control_epochs plan)
      → CommandRenewed s plan k lane guest device → IsRefused s.party device device' → AreCommandsCut s plan guest device'
  command_cut_refused k lane guest device device' low p refused =
      cut_refused s law plan guest device device' refused (command_cut_renewed k lane guest device low p)

  -- a lane in an epoch
  pub command_cut : (next : Next) (on : Bool) (k n : ℕ) (lane : CommandLane L D E i j h) (guest : G) (device : X)
      → InCommandRound s plan next on k n lane guest device → AreCommandsCut s plan guest device
  command_cut next on k n lane guest device p =
      round_with next on k n lane.words lane.still lane.relaying lane.relayed guest device
      (omega (arith, p.kits.many, many_epochs plan (length (control_commands plan)))) p.held
