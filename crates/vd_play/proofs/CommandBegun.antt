-- What the control queue's device has begun in an epoch so far, by the machine's order.
use Rattle.std.proofs.Common.{◌≡◌, ◌⊎◌, inl, inr, ℕ, ◌+◌, ◌-◌, ◌<◌, ◌≤◌, List, ◌++◌, length, map, take, drop, refl, sym, ◌∙◌, ap, arith, length-append}
use Rattle.std.proofs.lemmas.List.{length-map, length-drop, length-take, length-take-le, take-take, take-map, drop-take, take-append-drop, map-append}
use Rattle.vd_model.specs.declared.record.Begun.{Begun}
use Rattle.vd_words.specs.Plain.{RingWords}
use Rattle.vd_ring.specs.declared.driver.DriverView.{DriverView}
use Rattle.vd_ring.specs.declared.device.DeviceView.{DeviceView}
use Rattle.vd_ring.specs.History.{offers, gives, used_at}
use Rattle.vd_control.specs.declared.settings.Settings.{Settings}
use Rattle.vd_control.specs.Commands.{spelled}
use Rattle.vd_bus.specs.DeviceCommands.{commands_of}
use Rattle.vd_relay.specs.declared.control.Control.{Control}
use Rattle.vd_relay.specs.declared.counts.Counts.{Counts}
use Rattle.vd_relay.specs.declared.state.State.{State}
use Rattle.vd_switch.specs.CommandLanes.{CommandStart, KeepsCommands, guest_commands, lane_commands, with_bytes}
use Rattle.vd_switch.specs.Controlling.{ControlStart, replay_list, start_of, replayed_by}
use Rattle.vd_switch.proofs.CommandJournal.{begun_taken}
use Rattle.vd_switch.proofs.CommandLists.{commands_count}
use Rattle.vd_switch.proofs.Controlling.{is_carrying, all_of, some_by}
use Rattle.vd_switch.proofs.ControllingBegins.{control_keeps}
use Rattle.vd_control_lane.proofs.Sent.{script_sent}
use Rattle.vd_control_lane.proofs.AnyScripts.{any_sent}
use Rattle.vd_machine.specs.File.{Plan}
use Rattle.vd_play.specs.Commands.{control_queue, control_commands, sent_at, own_commands, replayed_commands}
use Rattle.vd_play.specs.CommandShadowed.{AreCommandsRelayed}
use Rattle.vd_play.specs.CommandsPlayed.{bytes_of, AreBegunUpTo}
use Rattle.vd_play.specs.ControlJournal.{epoch_commands, commands_before, journalled_at}
use Rattle.vd_play.specs.Setting.{Setting, IsLawful}
use Rattle.vd_play.proofs.CommandBefore.{few_replayed, same_behind}
use Rattle.vd_play.proofs.CommandBounds.{IsEpochOf, epoch_of}
use Rattle.vd_play.proofs.CommandPace.{bounds_of}
use Rattle.vd_play.proofs.CommandReplays.{replays_are, replays_many}
use Rattle.vd_play.proofs.Lists.{length_le, prefix_at}

module _ {D E G X C : Type 0} (s : Setting D E G X C) (law : IsLawful s) (plan : Plan) (k : ℕ) (words : RingWords)
    (shadow_words : List ℕ) (r : State E D) (control : Control) (settings : Settings) (c : Counts) (guest : G) (device : X)
    (x : ControlStart) (v : DriverView) (w : DeviceView) (sv : DriverView) (sw : DeviceView)
    (p : AreCommandsRelayed s plan k words shadow_words r control settings c guest device x v w sv sw) where
  abbrev begun : List Begun
  begun = s.party.begun device

  abbrev ds : List Begun
  ds = drop x.by.at begun

  abbrev y : CommandStart
  y = start_of x control

  -- how many of the list are replayed before the guest's own
  abbrev n : ℕ
  n = replayed_by control.mode control.replay.next (length (replay_list x))

  abbrev from : ℕ
  from = length x.opening.gives

  ep : IsEpochOf s.layout plan p.driven.queue k
  ep = epoch_of s.layout plan p.driven.queue k p.epoch

  abbrev rep : List (List ℕ)
  rep = replayed_commands plan ep.bound.epoch

  abbrev own : List (List ℕ)
  own = own_commands plan ep.bound.epoch

  pub keeps_now : KeepsCommands y begun v w
  keeps_now = control_keeps s.layout s.device s.driver law.layout x r control settings c begun (s.party.settings device) words.words
      shadow_words v w sv sw p.lane.controlling

  list_is : map spelled (replay_list x) ≡ rep
  list_is =
      let at = p.driven.queue.numbered.at k ep.bound.epoch ep.bound.is in
      replays_are plan k x p.start ep.bound.epoch at.0 at.2

  list_many : length (replay_list x) ≡ length rep
  list_many =
      let at = p.driven.queue.numbered.at k ep.bound.epoch ep.bound.is in
      replays_many plan k x p.start ep.bound.epoch at.0 at.2

  replayed_low : n ≤ length rep
  replayed_low =
      let counted : n ≡ length (take n (replay_list x)) = p.lane.controlling.parts.counted in
      omega (arith, counted, length-take n (replay_list x), list_many)

  -- the guest's own stand behind all of the list, or none was begun
  replayed_all : (n ≡ length rep) ⊎ (length ds ≤ n)
  replayed_all =
      let h = p.lane.controlling in
      let all : ℕ = length (replay_list x) in
      let next : ℕ = control.replay.next in
      elim (is_carrying control.mode) [
        | inr never ↦ inl (all_of control.mode next all never ∙ list_many)
        | inl is ↦ elim (h.over is) [
          | inl done ↦ inl (some_by control.mode next all is ∙ done ∙ list_many)
          | inr cut ↦ inr (omega (
            arith,
            some_by control.mode next all is,
            cut.1,
            begun_taken s.device s.driver s.layout law.layout y begun (s.party.settings device) words.words shadow_words v w sv sw
                h.parts,
          ))
        ]
      ]

  -- no more than the epoch's commands
  begun_few : length ds ≤ length rep + length own
  begun_few = omega (
    arith,
    length-drop x.by.at begun,
    p.start.at,
    (bounds_of s law plan k words shadow_words r control settings c guest device x v w sv sw p).most,
    ep.many,
  )

  sent : guest_commands v ≡ take (length (offers v.done)) (control_commands plan)
  sent = script_sent s.driver.words (control_queue plan) v
      (any_sent s.driver s.guest law.guest guest v (control_queue plan) p.driven.part.holds p.driven.part.script p.driven.queue.plain) p.driven.queue.sendable

  old_many : length x.old ≡ sent_at plan k
  old_many = ap length p.start.old
      ∙ length-map (take (sent_at plan k) (control_commands plan)) (λ z. (z, 1))
      ∙ length-take-le (sent_at plan k) (control_commands plan) (omega (arith, ep.bound.rises, ep.bound.low))

  -- what was given before was offered
  offered : from ≤ length (offers v.done)
  offered = omega (
    arith,
    ap length p.lane.controlling.parts.begun_before.chains,
    length-map x.old (λ z. z.0),
    old_many,
    p.start.given,
    length-take from (guest_commands v),
    commands_count v,
  )

  -- the guest's next commands are the epoch's own
  behind : (i : ℕ) → length rep + i ≡ length ds → i ≤ length (drop from (guest_commands v))
      → take i (drop from (guest_commands v)) ≡ take i own
  behind i many short =
      let cs : List (List ℕ) = control_commands plan in
      let d : ℕ = length (offers v.done) - from in
      let far : from + d ≡ length (offers v.done) = omega (arith, offered) in
      let epoch = ep.bound.epoch in
      let low : i ≤ d = omega (arith, short, length-drop from (guest_commands v), commands_count v) in
      let few : i ≤ epoch.end - epoch.first =
      omega (arith, many, begun_few, ep.sent, ep.bound.first, ep.bound.end) in
      ap (λ (zs : List (List ℕ)). take i (drop from zs)) (sent ∙ ap (λ (j : ℕ). take j cs) (sym far))
      ∙ ap (take i) (drop-take from d cs) ∙ take-take i d (drop from cs) low
      ∙ ap (λ (j : ℕ). take i (drop j cs)) (p.start.given ∙ sym ep.bound.first)
      ∙ sym (take-take i (epoch.end - epoch.first) (drop epoch.first cs) few)

  -- what the device has begun since its attach are the epoch's first commands
  begun_is : commands_of ds ≡ take (length ds) (epoch_commands plan ep.bound.epoch)
  begun_is =
      let m : ℕ = length ds in
      let rest : List (List ℕ) = drop from (guest_commands v) in
      let list : List (List ℕ) = map spelled y.replays ++ rest in
      let first : map spelled y.replays ≡ take n rep =
      sym (take-map spelled n (replay_list x)) ∙ ap (take n) list_is in
      let count : length (commands_of ds) ≡ m = length-map ds (λ (z : Begun). z.bytes.items) in
      let inside : m ≤ n + length rest =
      omega (
        arith,
        count,
        length_le (commands_of ds) list keeps_now.journal,
        length-append (map spelled y.replays) rest,
        ap length first,
        length-take n rep,
      ) in
      let short : (i : ℕ) → length rep + i ≡ m → i ≤ length rest = λ i is. elim replayed_all [
        | inl all ↦ omega (arith, is, inside, all)
        | inr few ↦ omega (arith, is, few, replayed_low)
      ] in
      prefix_at (commands_of ds) list m keeps_now.journal count
      ∙ ap (λ (zs : List (List ℕ)). take m (zs ++ rest)) first
      ∙ few_replayed m n rep rest replayed_low replayed_all
      ∙ same_behind m rep rest own (λ i is. behind i is (short i is))

  -- how many of the guest's own were begun
  pub own_begun : ℕ
  own_begun = sent_at plan k + (length ds - length rep)

  pub begun_up_to : AreBegunUpTo plan begun own_begun
  unfolding own_begun
  begun_up_to =
      let at : ℕ = journalled_at plan k in
      let old : List Begun = take at begun in
      let here : drop at begun ≡ ds = ap (λ (i : ℕ). drop i begun) (sym p.start.at) in
      let f : Begun → List ℕ = λ z. z.bytes.items in
      record {
        k = k;
        epoch = ep.bound.epoch;
        is = ep.bound.is;
        within = length ds;
        commands = ap bytes_of (sym (take-append-drop at begun)) ∙ map-append f old (drop at begun)
            ∙ ap (λ (zs : List (List ℕ)). zs ++ bytes_of (drop at begun)) p.account.before
            ∙ ap (λ (zs : List Begun). commands_before plan k ++ bytes_of zs) here
            ∙ ap (λ (zs : List (List ℕ)). commands_before plan k ++ zs) begun_is;
        inside = omega (arith, begun_few, length-append rep own);
        sent = refl;
      }

  -- what was given on the guest's ring are some of these
  pub given_low : (j : ℕ) → j < length (gives w.done) → (used_at (gives w.done) j).number < own_begun
  unfolding own_begun
  given_low j below =
      let bs : List (List ℕ × ℕ) = map with_bytes ds in
      let many : length (lane_commands y begun) ≡ sent_at plan k + (length ds - n) =
      omega (arith, length-append x.old (drop n bs), length-drop n bs, length-map ds with_bytes, old_many) in
      let low : (used_at (gives w.done) j).number < length (lane_commands y begun) = keeps_now.lawful.inside j below in
      elim replayed_all [
        | inl all ↦ omega (arith, low, many, all)
        | inr few ↦ omega (arith, low, many, few, replayed_low)
      ]
