-- An epoch's last round of the control queue's lane: its relay rests, and hands back the end of the guest's ring and the settings.
use Rattle.std.proofs.Common.{◌≡◌, inl, inr, ℕ, suc, ◌+◌, ◌-◌, ◌*◌, ◌≤◌, Bool, true, false, if◌then◌else◌, List, [], ◌∷◌, ◌++◌, length, map, take, drop, refl, sym, ◌∙◌, ap, subst, arith, length-append}
use Rattle.std.proofs.lemmas.List.{length-map, length-drop, length-take, length-take-le, take_all, take-take, drop-take, take-append-drop, map-append}
use Rattle.vd_model.specs.declared.record.Begun.{Begun}
use Rattle.vd_words.specs.Plain.{RingWords}
use Rattle.vd_ring.specs.declared.driver.DriverView.{DriverView}
use Rattle.vd_ring.specs.declared.device.DeviceView.{DeviceView}
use Rattle.vd_ring.specs.declared.frame.Frame.{Frame}
use Rattle.vd_ring.specs.History.{offers, takes, gives}
use Rattle.vd_ring.proofs.HeldPlaces.{few_open}
use Rattle.vd_layout.specs.Driver.{DriverModel}
use Rattle.vd_layout.specs.Device.{DeviceModel}
use Rattle.vd_layout.specs.Layout.{LayoutModel}
use Rattle.vd_control.specs.declared.command.Command.{Command}
use Rattle.vd_control.specs.declared.settings.Settings.{Settings}
use Rattle.vd_control.specs.Commands.{spelled}
use Rattle.vd_control.specs.Settings.{default}
use Rattle.vd_commands.specs.Words.{set_by}
use Rattle.vd_bus.specs.DeviceCommands.{commands_of}
use Rattle.vd_relay.specs.declared.control.Control.{Control}
use Rattle.vd_relay.specs.declared.control.Mode.{Mode}
use Rattle.vd_relay.specs.declared.control.Mode.TheVariants.{Replaying, Carrying, Leaving}
use Rattle.vd_relay.specs.declared.counts.Counts.{Counts}
use Rattle.vd_relay.specs.declared.state.State.{State}
use Rattle.vd_relay.specs.Modes.{Opening, Does}
use Rattle.vd_relay.specs.Stages.{is_rested}
use Rattle.vd_switch.specs.CommandLanes.{AreAnsweredTo, guest_commands, lane_commands, with_bytes}
use Rattle.vd_switch.specs.CommandLaneSteps.{LeavesCommands}
use Rattle.vd_switch.specs.Controlling.{ControlStart, replay_list, start_of, replayed_by}
use Rattle.vd_switch.proofs.Controlling.{is_carrying, all_of, some_by}
use Rattle.vd_switch.proofs.ControllingBegins.{control_keeps, control_leaves}
use Rattle.vd_switch.proofs.ControllingSettings.{control_settled}
use Rattle.vd_turns.specs.RelayTurns.{reached}
use Rattle.vd_control_lane.proofs.Sent.{script_sent}
use Rattle.vd_control_lane.proofs.AnyScripts.{any_sent}
use Rattle.vd_machine.specs.File.{Plan}
use Rattle.vd_play.specs.Commands.{control_queue, control_commands, sent_at, settings_at, own_commands, replayed_commands}
use Rattle.vd_play.specs.CommandLane.{IsCommandAccount, CommandRests}
use Rattle.vd_play.specs.CommandProgress.{AreCommandsHeard, HasCommandRelayHeard}
use Rattle.vd_play.specs.CommandShadowed.{AreCommandsRelayed, HasServedCommands}
use Rattle.vd_play.specs.CommandsPlayed.{bytes_of}
use Rattle.vd_play.specs.ControlJournal.{epoch_commands, commands_before, journalled_at}
use Rattle.vd_play.specs.Epochs.{renewed_at}
use Rattle.vd_play.specs.Setting.{Setting, IsLawful}
use Rattle.vd_play.proofs.CommandBounds.{IsEpochOf, epoch_of}
use Rattle.vd_play.proofs.CommandPace.{bounds_of}
use Rattle.vd_play.proofs.CommandReplays.{replays_are, replays_many}
use Rattle.vd_play.proofs.ControlEpochs.{renewed_sets, kept_sets}
use Rattle.vd_play.proofs.Lists.{prefix_at}
use Rattle.vd_play.proofs.ShadowEnds.{taken_first}

-- what an epoch sets, from the default on after a renewal
sets_by : (renewed : Bool) (was : Settings) (cs : List (List ℕ)) (now : Settings) → (renewed ≡ true → set_by default cs ≡ now)
    → (renewed ≡ false → set_by was cs ≡ now) → set_by (if renewed then default else was) cs ≡ now
sets_by true was cs now on off = on refl
sets_by false was cs now on off = off refl

take_past : (xs ys : List (List ℕ)) (m : ℕ) → take (length xs + m) (xs ++ ys) ≡ xs ++ take m ys
take_past [] ys m = ap (λ (i : ℕ). take i ys) (let e : 0 + m ≡ m = omega arith in e)
take_past (x ∷ xs) ys m =
    let more : length (x ∷ xs) + m ≡ suc (length xs + m) = omega arith in
    ap (λ (i : ℕ). take i (x ∷ (xs ++ ys))) more ∙ ap (λ (zs : List (List ℕ)). x ∷ zs) (take_past xs ys m)

-- the end of the guest's ring stands, whatever the relay does
stands_by : {E D : Type 0} (m : Mode) (l : LayoutModel) (e : DeviceModel E) (d : DriverModel D) (z : Opening) (r : State E D) (k : Control)
    (s : Settings) (c : Counts) (w : DeviceView) (v : DriverView) → Does m l e d z r k s c w v → e.stands r.guest w
stands_by Replaying l e d z r k s c w v h = h.1.free.serves
stands_by Carrying l e d z r k s c w v h = h.commands.stands.serves
stands_by Leaving l e d z r k s c w v h = h.left.serves

module _ {D E G X C : Type 0} (s : Setting D E G X C) (law : IsLawful s) (plan : Plan) (k : ℕ) (words : RingWords)
    (shadow_words : List ℕ) (r : State E D) (control : Control) (settings : Settings) (c : Counts) (guest : G) (device : X)
    (x : ControlStart) (v : DriverView) (w : DeviceView) (sv : DriverView) (sw : DeviceView)
    (p : AreCommandsRelayed s plan k words shadow_words r control settings c guest device x v w sv sw)
    (served : HasServedCommands s plan k device) (rests : is_rested r.stage ≡ true) where
  abbrev begun : List Begun
  begun = s.party.begun device

  abbrev ds : List Begun
  ds = drop x.by.at begun

  ep : IsEpochOf s.layout plan p.driven.queue k
  ep = epoch_of s.layout plan p.driven.queue k p.epoch

  replays : length (replay_list x) ≡ length (replayed_commands plan ep.bound.epoch)
  replays =
      let at = p.driven.queue.numbered.at k ep.bound.epoch ep.bound.is in
      replays_many plan k x p.start ep.bound.epoch at.0 at.2

  -- all of the epoch's commands were begun
  many : length ds ≡ length (replay_list x) + length (own_commands plan ep.bound.epoch)
  many = omega (arith, length-drop x.by.at begun, served.begun, p.start.at, ep.many, replays)

  -- and all of the list replayed
  whole : (start_of x control).from.replayed ≡ length (replay_list x)
  whole =
      let h = p.lane.controlling in
      let all : ℕ = length (replay_list x) in
      let next : ℕ = control.replay.next in
      let low : (start_of x control).from.replayed ≤ all =
      omega (arith, h.parts.counted, length-take (replayed_by control.mode next all) (replay_list x)) in
      elim (is_carrying control.mode) [
        | inr never ↦ all_of control.mode next all never
        | inl is ↦ elim (h.over is) [
          | inl done ↦ some_by control.mode next all is ∙ done
          | inr cut ↦ omega (
            arith,
            low,
            some_by control.mode next all is,
            cut.1,
            (bounds_of s law plan k words shadow_words r control settings c guest device x v w sv sw p).begun,
            served.begun,
            ep.many,
            replays,
          )
        ]
      ]

  -- ---- what the guest's ring has

  old_many : length x.old ≡ sent_at plan k
  old_many = ap length p.start.old
      ∙ length-map (take (sent_at plan k) (control_commands plan)) (λ y. (y, 1))
      ∙ length-take-le (sent_at plan k) (control_commands plan) (omega (arith, ep.bound.rises, ep.bound.low))

  lane_many : length (lane_commands (start_of x control) begun) ≡ sent_at plan (k + 1)
  lane_many =
      let n : ℕ = (start_of x control).from.replayed in
      let bs : List (List ℕ × ℕ) = map with_bytes ds in
      omega (
        arith,
        length-append x.old (drop n bs),
        length-drop n bs,
        length-map ds with_bytes,
        old_many,
        many,
        whole,
        ep.sent,
      )

  left : LeavesCommands s.device r.guest (lane_commands (start_of x control) begun) v w
      × (AreAnsweredTo (length x.opening.gives) v w → AreAnsweredTo (length (gives w.done)) v w)
  left = control_leaves s.layout s.device s.driver law.layout x r control settings c begun (s.party.settings device) words.words
      shadow_words v w sv sw p.lane.controlling rests

  pub given : length (gives w.done) ≡ sent_at plan (k + 1)
  given = left.0.even ∙ lane_many

  pub taken : length (takes w.done) ≡ sent_at plan (k + 1)
  taken = left.0.taken ∙ lane_many

  sent : guest_commands v ≡ take (length (offers v.done)) (control_commands plan)
  sent = script_sent s.driver.words (control_queue plan) v
      (any_sent s.driver s.guest law.guest guest v (control_queue plan) p.driven.part.holds p.driven.part.script p.driven.queue.plain) p.driven.queue.sendable

  offered : sent_at plan (k + 1) ≤ length (offers v.done)
  offered = omega (arith, taken, (law.layout.lists words.words v w p.driven.ring).some)

  -- the guest's first commands are the script's
  first_sent : (n : ℕ) → n ≤ sent_at plan (k + 1) → take n (guest_commands v) ≡ take n (control_commands plan)
  first_sent n low = ap (take n) sent ∙ take-take n (length (offers v.done)) (control_commands plan) (omega (arith, low, offered))

  -- ---- what the device has begun

  begun_is : commands_of ds ≡ epoch_commands plan ep.bound.epoch
  begun_is =
      let cs : List (List ℕ) = control_commands plan in
      let own : List (List ℕ) = own_commands plan ep.bound.epoch in
      let from : ℕ = length x.opening.gives in
      let o : ℕ = length own in
      let at = p.driven.queue.numbered.at k ep.bound.epoch ep.bound.is in
      let list : List Command = replay_list x in
      let rep : List (List ℕ) = replayed_commands plan ep.bound.epoch in
      let keeps = control_keeps s.layout s.device s.driver law.layout x r control settings c begun (s.party.settings device) words.words
      shadow_words v w sv sw p.lane.controlling in
      let count : length (commands_of ds) ≡ length rep + o =
      omega (arith, length-map ds (λ (y : Begun). y.bytes.items), many, replays) in
      let first : map spelled (start_of x control).replays ≡ rep =
      ap (λ (i : ℕ). map spelled (take i list)) whole ∙ ap (map spelled) (take_all (length list) list (omega arith))
      ∙ replays_are plan k x p.start ep.bound.epoch at.0 at.2 in
      let rest : List (List ℕ) = drop from (guest_commands v) in
      let d : ℕ = length (offers v.done) - from in
      let far : from + d ≡ length (offers v.done) = omega (arith, offered, p.start.given, ep.sent) in
      let behind : take o rest ≡ own =
      ap (λ (zs : List (List ℕ)). take o (drop from zs)) (sent ∙ ap (λ (i : ℕ). take i cs) (sym far))
      ∙ ap (take o) (drop-take from d cs)
      ∙ take-take o d (drop from cs) (omega (arith, offered, p.start.given, ep.sent))
      ∙ ap (λ (i : ℕ). take o (drop i cs)) (p.start.given ∙ sym ep.bound.first)
      ∙ ap (λ (i : ℕ). take i (drop ep.bound.epoch.first cs)) (omega (arith, ep.sent, ep.bound.first, ep.bound.end)) in
      prefix_at (commands_of ds) (map spelled (start_of x control).replays ++ rest) (length rep + o) keeps.journal count
      ∙ ap (λ (zs : List (List ℕ)). take (length rep + o) (zs ++ rest)) first ∙ take_past rep rest o
      ∙ ap (λ (zs : List (List ℕ)). rep ++ zs) behind

  pub account : IsCommandAccount plan (k + 1) begun
  account =
      let old : List Begun = take (journalled_at plan k) begun in
      let here : drop (journalled_at plan k) begun ≡ ds = ap (λ (i : ℕ). drop i begun) (sym p.start.at) in
      let f : Begun → List ℕ = λ y. y.bytes.items in
      record {
        before = ap bytes_of (take_all (journalled_at plan (k + 1)) begun (omega (arith, served.begun)))
            ∙ ap bytes_of (sym (take-append-drop (journalled_at plan k) begun))
            ∙ map-append f old (drop (journalled_at plan k) begun)
            ∙ ap (λ (zs : List (List ℕ)). zs ++ bytes_of (drop (journalled_at plan k) begun)) p.account.before
            ∙ ap (λ (zs : List Begun). commands_before plan k ++ bytes_of zs) here
            ∙ ap (λ (zs : List (List ℕ)). commands_before plan k ++ zs) begun_is ∙ sym ep.begun;
        many = omega (arith, served.begun);
        each = p.account.each;
      }

  -- ---- the settings

  relay_sets : settings ≡ settings_at plan (k + 1)
  relay_sets =
      let was : x.opening.settings ≡ set_by default (take (length x.opening.gives) (guest_commands v)) =
      p.start.settings
      ∙ ap (set_by default) (sym (first_sent (sent_at plan k) ep.bound.rises)
      ∙ ap (λ (i : ℕ). take i (guest_commands v)) (sym p.start.given)) in
      control_settled s.layout s.device s.driver law.layout x r control settings c begun (s.party.settings device) words.words
      shadow_words v w sv sw p.lane.controlling rests p.lane.acks was
      ∙ ap (λ (i : ℕ). set_by default (take i (guest_commands v))) given
      ∙ ap (set_by default) (first_sent (sent_at plan (k + 1)) (omega arith))

  device_sets : s.party.settings device ≡ settings_at plan (k + 1)
  device_sets =
      let cs : List (List ℕ) = epoch_commands plan ep.bound.epoch in
      let at = p.driven.queue.numbered.at k ep.bound.epoch ep.bound.is in
      p.lane.controlling.parts.commanded.settings ∙ ap (set_by x.settings) begun_is
      ∙ ap (λ (z : Settings). set_by z cs) p.start.set
      ∙ sets_by (renewed_at plan k) (settings_at plan k) cs (settings_at plan (k + 1))
      (λ on. renewed_sets plan k ep.bound p.driven.queue.sendable.bytes at.0 (at.2 ∙ on))
      (λ off. kept_sets plan k ep.bound (at.2 ∙ off))

  pub rests_now : CommandRests s plan (k + 1) r.guest true settings device v w
  rests_now =
      let keeps = control_keeps s.layout s.device s.driver law.layout x r control settings c begun (s.party.settings device) words.words
      shadow_words v w sv sw p.lane.controlling in
      record {
        stands = stands_by control.mode s.layout s.device s.driver x.opening r control settings c w sv p.lane.controlling.holds.does;
        still = inl left.0.rests;
        of_control = refl;
        kept = relay_sets;
        set = device_sets;
        free = served.free;
        taken = taken;
        given = given;
        ones = keeps.given_ones;
        answers = subst (λ (i : ℕ). AreAnsweredTo i v w) given (left.1 p.lane.answers);
        begun = served.begun;
        events = served.events;
        room = served.room;
      }

  -- ---- the pace

  pub heard_now : (relayed : ℕ) → HasCommandRelayHeard s plan k relayed r c device v w sv sw
      → AreCommandsHeard s plan (k + 1) relayed device w
  heard_now relayed heard =
      let low = bounds_of s law plan k words shadow_words r control settings c guest device x v w sv sw p in
      let outer = law.layout.lists words.words v w p.driven.ring in
      let places = law.layout.places words.words v w p.driven.ring in
      let same_size : v.frame.size ≡ plan.size = ap (λ (f : Frame). f.size) p.driven.part.framed in
      let ahead : length (offers v.done) ≤ length (gives w.done) + plan.size =
      omega (arith, places.count, few_open v.frame v.done places, same_size, outer.fewer) in
      let far : reached r v w ≡ length (offers v.done) = taken_first (is_rested r.stage) _ _ rests in
      let rings : plan.size * (k + 1) ≡ plan.size * k + plan.size = omega arith in
      let rows : (2 * plan.size + 1) * (k + 1) ≡ (2 * plan.size + 1) * k + (2 * plan.size + 1) = omega arith in
      let handled : c.handled + 4 * journalled_at plan k ≤ 4 * journalled_at plan (k + 1) + 2 * plan.size =
      omega (
        arith,
        heard.handled,
        far,
        ahead,
        given,
        ep.sent,
        ep.many,
        low.shadow_offered,
        low.shadow_collected,
        low.shadow_given,
        served.begun,
      ) in
      record {
        relays = heard.relays + c.heard;
        heard = omega (
          arith,
          heard.heard,
          low.shadow_bells,
          low.device_bells,
          low.shadow_offered,
          low.shadow_collected,
          low.shadow_given,
          served.begun,
          ep.many,
          rings,
        );
        low = omega (arith, heard.counted, heard.low, heard.pace, handled, rows, ep.many);
      }
