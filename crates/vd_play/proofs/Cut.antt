-- A lane in the course of a play has the beginning of its journal.
use Rattle.std.proofs.Common.{◌≡◌, ℕ, ◌+◌, ◌-◌, ◌<◌, ◌≤◌, Option, Some, None, Result, Ok, Err, IfErr, IsErrAnd, List, [], ◌∷◌, ◌++◌, length, slice_get, set, true, false, Bool, take, drop, sym, ◌∙◌, ap, subst, arith}
use Rattle.std.specs.List.{All}
use Rattle.std.proofs.lemmas.List.{append_assoc, length-drop, length-map, take_all}
use mathlib.Core.List.{IsPrefix}
use Rattle.vd_model.specs.declared.chain.Piece.{Piece}
use Rattle.vd_model.specs.declared.record.Begun.{Begun}
use Rattle.vd_words.specs.Plain.{RingWords}
use Rattle.vd_ring.specs.declared.driver.DriverView.{DriverView}
use Rattle.vd_ring.specs.declared.device.DeviceView.{DeviceView}
use Rattle.vd_ring.specs.History.{takes, gives}
use Rattle.vd_bus.specs.declared.device.Attached.{Attached}
use Rattle.vd_bus.specs.declared.event.Event.{Event}
use Rattle.vd_bus.specs.Device.{IsRefused, IsServing, IsBegun, chains_of, lens_of}
use Rattle.vd_layout.specs.Device.{DeviceModel}
use Rattle.vd_layout.specs.Layout.{LayoutModel}
use Rattle.vd_machine.specs.File.{Plan}
use Rattle.vd_relay.specs.declared.counts.Counts.{Counts}
use Rattle.vd_relay.specs.declared.state.State.{State}
use Rattle.vd_play.specs.declared.bench.Bench.{Bench}
use Rattle.vd_play.specs.declared.floor.Lane.{Lane}
use Rattle.vd_play.specs.declared.floor.Relaying.{Relaying}
use Rattle.vd_play.specs.Journal.{queue_script, queue_chains, queue_epochs, epoch_chains, epoch_events, attach_event, suspend_event, journal_events, journal_chains, HasLen}
use Rattle.vd_play.specs.Before.{events_before, begun_at, chains_before, resets}
use Rattle.vd_play.specs.Each.{EachLane, Stage}
use Rattle.vd_play.specs.Epochs.{Epoch}
use Rattle.vd_play.specs.Lane.{HasGiven, IsDriven, Serves, IsKept}
use Rattle.vd_play.specs.Orders.{shadow_attach}
use Rattle.vd_play.specs.Played.{IsCut}
use Rattle.vd_play.specs.Progress.{IsStopped, IsPassing, IsShadowing, IsWinding, RelayingBy, StoppedWith, InEpochWith, InEpoch}
use Rattle.vd_play.specs.Renewing.{Renewed}
use Rattle.vd_play.specs.Setting.{Setting, IsLawful}
use Rattle.vd_play.specs.Shadowed.{IsRelayed}
use Rattle.vd_play.proofs.Bounds.{at_index, bounded, flat_more, many_epochs}
use Rattle.vd_play.proofs.Each.{stage_read, all_but_one}
use Rattle.vd_play.proofs.Keep.{prefix_of}
use Rattle.vd_play.proofs.Lists.{prefix_through}
use Rattle.vd_play.proofs.Moves.{before_prefix, within_prefix}
use Rattle.vd_play.proofs.Parts.{drop_prefix, own_part, begun_within}
use Rattle.vd_play.proofs.Passed.{events_split, pass_events, pass_chains}
use Rattle.vd_play.proofs.Renewals.{renews_stopped}
use Rattle.vd_play.proofs.Returns.{some_returned}
use Rattle.vd_play.proofs.Rooms.{front_of}
use Rattle.vd_play.proofs.ShadowChains.{shadow_events, shadow_suspend}
use Rattle.vd_play.proofs.ShadowCut.{given_shadowing, shadow_prefix}

-- the events of the epochs before, and the first ones of the epoch's
begun_front : {E : Type 0} (e : DeviceModel E) (l : LayoutModel) (plan : Plan) (q k : ℕ) (ep : Epoch) (front back : List Event)
    → slice_get (queue_epochs plan q) k ≡ Some ep → epoch_events e l plan q ep ≡ front ++ back
    → IsPrefix (events_before e l plan q k ++ front) (journal_events e l plan q)
begun_front e l plan q k ep front back is parts =
    let old : List Event = events_before e l plan q k in
    let more : events_before e l plan q (k + 1) ≡ old ++ (front ++ back) =
    flat_more (epoch_events e l plan q) (queue_epochs plan q) k ep is ∙ ap (λ zs. old ++ zs) parts in
    prefix_through (old ++ front) (events_before e l plan q (k + 1)) (journal_events e l plan q)
    (back, append_assoc old front back ∙ sym more)
    (front_of (epoch_events e l plan q) (queue_epochs plan q) (k + 1))

module _ {D E G X C : Type 0} (s : Setting D E G X C) (law : IsLawful s) (plan : Plan) (q : ℕ) where
  cut_driven : (words : RingWords) (guest : G) (device : X) (v : DriverView) (w : DeviceView) → IsDriven s plan q words guest v w
      → All (HasGiven (lens_of (s.party.begun device))) (gives w.done) → All IsBegun (s.party.begun device)
      → IsPrefix (s.party.events device) (journal_events s.device s.layout plan q)
      → IsPrefix (chains_of (s.party.begun device)) (journal_chains plan q) → IsCut s plan q guest device
  cut_driven words guest device v w k given each events chains =
      let back = some_returned v.frame v.done w.done (lens_of (s.party.begun device)) (s.guest.returned guest)
      (law.layout.lists words.words v w k.ring) given
      (law.guest.returned guest v (queue_script plan q) k.part.holds k.part.script k.queue.plain) in
      record { events = events; chains = chains; each = each; once = back.0; returned = back.1 }

  pub cut_stopped : (k r : ℕ) (words : RingWords) (end : E) (relayed : ℕ) (guest : G) (device : X)
      → IsStopped s plan q k r words end relayed guest device → IsCut s plan q guest device
  cut_stopped k r words end relayed guest device p =
      let begun : List Begun = s.party.begun device in
      let all : chains_of begun ≡ chains_before plan q k =
      ap chains_of (sym (take_all (begun_at plan q k) begun (omega (arith, p.rests.begun)))) ∙ p.kept.account.before in
      cut_driven words guest device p.view p.device_view p.kept.driven p.kept.given p.kept.account.each
      (subst (λ zs. IsPrefix zs (journal_events s.device s.layout plan q)) (sym p.rests.events)
      (front_of (epoch_events s.device s.layout plan q) (queue_epochs plan q) k))
      (subst (λ zs. IsPrefix zs (journal_chains plan q)) (sym all) (before_prefix plan q k))

  -- in an epoch of the mode pass its device has begun those before the epoch, and the first ones of the epoch's
  pass_prefix : (k : ℕ) (words : RingWords) (guest : G) (device : X) (v : DriverView) (w : DeviceView)
      → IsKept s plan q k words guest device v w → Serves s plan q k device w
      → IsPrefix (chains_of (s.party.begun device)) (journal_chains plan q)
  pass_prefix k words guest device v w p serves =
      let begun : List Begun = s.party.begun device in
      let n : ℕ = begun_at plan q k in
      let b = bounded (length (queue_chains plan q)) (queue_epochs plan q) k p.driven.queue.chained serves.epoch in
      let mode = (p.driven.queue.numbered.at k b.epoch b.is).1 ∙ serves.mode in
      let on : IsServing begun serves.by w.done = law.party.serves device w serves.by serves.holds serves.attached serves.for_data in
      let xs : List (List Piece) = drop n (takes w.done) in
      let taken : chains_of (drop n begun) ≡ xs =
      ap (λ j. chains_of (drop j begun)) (sym serves.from.0) ∙ on.chains ∙ ap (λ j. drop j (takes w.done)) serves.from.1 in
      let many : length xs ≡ length begun - n =
      sym (ap length taken) ∙ length-map (drop n begun) (λ (z : Begun). z.chain) ∙ length-drop n begun in
      let low : n ≤ length (takes w.done) = omega (arith, on.as_many, on.after, serves.from.0, serves.from.1) in
      let front : IsPrefix xs (drop n (queue_chains plan q)) =
      drop_prefix n (takes w.done) (queue_chains plan q) (prefix_of s law plan q words guest v w p.driven) low in
      let own = own_part plan q n b.epoch xs (sym b.first) front
      (omega (arith, many, on.few, serves.from.0, serves.to, b.first, b.end)) in
      let here : chains_of (drop n begun) ≡ take (length xs) (epoch_chains plan q b.epoch) =
      taken ∙ own ∙ ap (take (length xs)) (sym (pass_chains plan q b.epoch mode)) in
      subst (λ zs. IsPrefix zs (journal_chains plan q)) (sym (begun_within plan q k n (length xs) b.epoch begun p.account.before here))
      (within_prefix plan q k (length xs) b.epoch b.is)

  cut_passing : (k r : ℕ) (words : RingWords) (relayed : ℕ) (guest : G) (device : X)
      → IsPassing s plan q k r words relayed guest device → IsCut s plan q guest device
  cut_passing k r words relayed guest device p =
      let e = s.device in
      let l = s.layout in
      let b = bounded (length (queue_chains plan q)) (queue_epochs plan q) k p.kept.driven.queue.chained p.serves.epoch in
      let at = p.kept.driven.queue.numbered.at k b.epoch b.is in
      let attach : Event = attach_event e l plan q k (begun_at plan q k) in
      let suspend : Event = suspend_event e l plan q (begun_at plan q (k + 1)) in
      let parts : epoch_events e l plan q b.epoch ≡ (resets plan q k ++ attach ∷ []) ++ suspend ∷ [] =
      pass_events e l plan q k b.epoch at.2 b.first (at.1 ∙ p.serves.mode) at.0 b.end
      ∙ sym (append_assoc (resets plan q k) (attach ∷ []) (suspend ∷ [])) in
      cut_driven words guest device p.view p.device_view p.kept.driven p.kept.given p.kept.account.each
      (subst (λ zs. IsPrefix zs (journal_events e l plan q)) (sym p.serves.events)
      (begun_front e l plan q k b.epoch (resets plan q k ++ attach ∷ []) (suspend ∷ []) b.is parts))
      (pass_prefix k words guest device p.view p.device_view p.kept p.serves)

  -- ---- with a relay

  cut_relayed : (k : ℕ) (words : RingWords) (shadow_words : List ℕ) (r : State E D) (c : Counts) (guest : G) (device : X) (by : Attached)
      (v : DriverView) (w : DeviceView) (sv : DriverView) (sw : DeviceView)
      → IsRelayed s plan q k words shadow_words r c guest device by v w sv sw
      → IsPrefix (s.party.events device) (journal_events s.device s.layout plan q) → IsCut s plan q guest device
  cut_relayed k words shadow_words r c guest device by v w sv sw p events =
      cut_driven words guest device v w p.driven (given_shadowing s law plan q k words shadow_words r c guest device by v w sv sw p)
      p.account.each events (shadow_prefix s law plan q k words shadow_words r c guest device by v w sv sw p)

  cut_shadowing : (k n : ℕ) (words : RingWords) (shadow_words : List ℕ) (r : State E D) (c : Counts) (relayed : ℕ) (guest : G) (device : X)
      → IsShadowing s plan q k n words shadow_words r c relayed guest device → IsCut s plan q guest device
  cut_shadowing k n words shadow_words r c relayed guest device p =
      let e = s.device in
      let l = s.layout in
      let b = bounded (length (queue_chains plan q)) (queue_epochs plan q) k p.kept.driven.queue.chained p.kept.epoch in
      let at = p.kept.driven.queue.numbered.at k b.epoch b.is in
      let attach : Event = shadow_attach l plan q k (begun_at plan q k) in
      let suspend : Event = shadow_suspend e l plan q k b.epoch in
      let parts : epoch_events e l plan q b.epoch ≡ (resets plan q k ++ attach ∷ []) ++ suspend ∷ [] =
      shadow_events e l plan q k b.epoch (at.1 ∙ p.kept.mode) at.2 at.0 b.first
      ∙ sym (append_assoc (resets plan q k) (attach ∷ []) (suspend ∷ [])) in
      cut_relayed k words shadow_words r c guest device p.by p.view p.device_view p.shadow_view p.shadow_device_view p.kept
      (subst (λ zs. IsPrefix zs (journal_events e l plan q)) (sym p.serves.events)
      (begun_front e l plan q k b.epoch (resets plan q k ++ attach ∷ []) (suspend ∷ []) b.is parts))

  cut_winding : (k n : ℕ) (words : RingWords) (shadow_words : List ℕ) (r : State E D) (c : Counts) (relayed : ℕ) (guest : G) (device : X)
      → IsWinding s plan q k n words shadow_words r c relayed guest device → IsCut s plan q guest device
  cut_winding k n words shadow_words r c relayed guest device p =
      cut_relayed k words shadow_words r c guest device p.by p.view p.device_view p.shadow_view p.shadow_device_view p.kept
      (subst (λ zs. IsPrefix zs (journal_events s.device s.layout plan q)) (sym p.served.events)
      (front_of (epoch_events s.device s.layout plan q) (queue_epochs plan q) (k + 1)))

  cut_relaying : (on : Bool) (k n : ℕ) (words : RingWords) (shadow_words : List ℕ) (r : State E D) (c : Counts) (relayed : ℕ) (guest : G)
      (device : X) → RelayingBy on s plan q k n words shadow_words r c relayed guest device → IsCut s plan q guest device
  cut_relaying false k n words shadow_words r c relayed guest device p =
      cut_shadowing k n words shadow_words r c relayed guest device p
  cut_relaying true k n words shadow_words r c relayed guest device p = cut_winding k n words shadow_words r c relayed guest device p

  -- a refused attach has changed nothing of it
  pub cut_refused : (guest : G) (device device' : X) → IsRefused s.party device device' → IsCut s plan q guest device
      → IsCut s plan q guest device'
  cut_refused guest device device' r c =
      record {
        events = subst (λ zs. IsPrefix zs (journal_events s.device s.layout plan q)) (sym r.events) c.events;
        chains = subst (λ (bs : List Begun). IsPrefix (chains_of bs) (journal_chains plan q)) (sym r.begun) c.chains;
        each = subst (λ (bs : List Begun). All IsBegun bs) (sym r.begun) c.each;
        once = c.once;
        returned = subst (λ (bs : List Begun). All (HasLen (lens_of bs)) (s.guest.returned guest)) (sym r.begun) c.returned;
      }

-- ---- a lane

module _ {L D E G X C : Type 0} (s : Setting D E G X C) (law : IsLawful s) (plan : Plan) (q : ℕ) where
  pub cut_still : (k : ℕ) (words : RingWords) (still : Option E) (relaying : Option (Relaying L D E)) (relayed : ℕ) (guest : G) (device : X)
      → StoppedWith s plan q k words still relaying relayed guest device → IsCut s plan q guest device
  cut_still k words None relaying relayed guest device p = absurd p
  cut_still k words (Some end) (Some x) relayed guest device p = absurd p
  cut_still k words (Some end) None relayed guest device p = cut_stopped s law plan q k 0 words end relayed guest device p

  -- the events of the epochs before, and the reset
  reset_front : (k : ℕ) (words : RingWords) (still : Option E) (relaying : Option (Relaying L D E)) (relayed : ℕ) (guest : G) (device : X)
      → k < length plan.switches + 2 → StoppedWith s plan q k words still relaying relayed guest device
      → IsPrefix (s.party.events device ++ resets plan q k) (journal_events s.device s.layout plan q)
  reset_front k words None relaying relayed guest device less p = absurd p
  reset_front k words (Some end) (Some x) relayed guest device less p = absurd p
  reset_front k words (Some end) None relayed guest device less p =
      let n : ℕ = length (queue_chains plan q) in
      let b = bounded n (queue_epochs plan q) k p.kept.driven.queue.chained (omega (arith, less, many_epochs plan n)) in
      let at = p.kept.driven.queue.numbered.at k b.epoch b.is in
      subst (λ zs. IsPrefix (zs ++ resets plan q k) (journal_events s.device s.layout plan q)) (sym p.rests.events)
      (begun_front s.device s.layout plan q k b.epoch (resets plan q k) _ b.is
      (events_split s.device s.layout plan q k b.epoch at.2 b.first))

  -- its device was reset where its epoch begins with a renewal
  pub cut_renewed : (k : ℕ) (a : Lane L D E) (guest : G) (device : X) → k < length plan.switches + 2 → Renewed s plan q k a guest device
      → IsCut s plan q guest device
  cut_renewed k a guest device less p =
      let n = renews_stopped s plan q k a guest device p in
      let c : IsCut s plan q guest p.before =
      cut_still k a.words a.still a.relaying a.relayed guest p.before p.stopped.held in
      record {
        events = subst (λ zs. IsPrefix zs (journal_events s.device s.layout plan q)) (sym n.events)
            (reset_front k a.words a.still a.relaying a.relayed guest p.before less p.stopped.held);
        chains = subst (λ (bs : List Begun). IsPrefix (chains_of bs) (journal_chains plan q)) (sym n.begun) c.chains;
        each = subst (λ (bs : List Begun). All IsBegun bs) (sym n.begun) c.each;
        once = c.once;
        returned = subst (λ (bs : List Begun). All (HasLen (lens_of bs)) (s.guest.returned guest)) (sym n.begun) c.returned;
      }

  pub cut_epoch : (on : Bool) (k r : ℕ) (words : RingWords) (still : Option E) (relaying : Option (Relaying L D E)) (relayed : ℕ)
      (guest : G) (device : X) → InEpochWith s plan q on k r words still relaying relayed guest device → IsCut s plan q guest device
  cut_epoch true k r words None None relayed guest device p = cut_passing s law plan q k r words relayed guest device p
  cut_epoch true k r words None (Some x) relayed guest device p =
      cut_relaying s law plan q x.lane.relay.state.winding k r words x.words.words x.lane.relay.state x.lane.relay.counts relayed guest
      device p
  cut_epoch false k r words None None relayed guest device p = absurd p
  cut_epoch false k r words None (Some x) relayed guest device p = absurd p
  cut_epoch on k r words (Some end) None relayed guest device p = cut_stopped s law plan q (k + 1) r words end relayed guest device p
  cut_epoch on k r words (Some end) (Some x) relayed guest device p = absurd p

-- the attach of lane i was refused, behind those that have begun the epoch
pub cut_bench : {L D E G X C : Type 0} (s : Setting D E G X C) (law : IsLawful s) (plan : Plan) (k i : ℕ) (lanes : List (Lane L D E))
    (bench : Bench G X) (lane lane' : Lane L D E) (device device' : X) → k < length plan.switches + 2 → i < length bench.guests.items
    → EachLane (Stage i (λ q a b x. InEpoch s plan q true k 0 a b x) (λ q a b x. Renewed s plan q k a b x)) lanes bench.guests.items
    bench.devices.items → slice_get lanes i ≡ Some lane → slice_get bench.devices.items i ≡ Some device → IsRefused s.party device device'
    → EachLane (λ q a b x. IsCut s plan q b x) (set lanes i lane') bench.guests.items (set bench.devices.items i device')
cut_bench s law plan k i lanes bench lane lane' device device' less there each hl hx refused =
    let g = at_index bench.guests.items i there in
    all_but_one (λ q a b x. InEpoch s plan q true k 0 a b x) (λ q a b x. Renewed s plan q k a b x) (λ q a b x. IsCut s plan q b x) i
    lanes bench.guests.items bench.devices.items lane' g.0 device' g.1 each
    (λ q a b x p. cut_epoch s law plan q true k 0 a.words a.still a.relaying a.relayed b x p.held)
    (λ q a b x p. cut_renewed s law plan q k a b x less p)
    (cut_refused s law plan i g.0 device device' refused (cut_renewed s law plan i k lane g.0 device less
    (stage_read (λ q a b x. InEpoch s plan q true k 0 a b x) (λ q a b x. Renewed s plan q k a b x) i lanes bench.guests.items
    bench.devices.items lane g.0 device each hl g.1 hx)))

pub if_err_by : {T F : Type 0} (r : Result T F) (P Q : F → Type 0) → IsErrAnd r P → ((f : F) → P f → Q f) → IfErr r Q
if_err_by (Ok x) P Q is h = tt
if_err_by (Err f) P Q is h = h f is

pub if_err_any : {T F : Type 0} (r : Result T F) (P : F → Type 0) → ((f : F) → P f) → IfErr r P
if_err_any (Ok x) P h = tt
if_err_any (Err f) P h = h f
