-- A control lane, whatever its relay does, is one whose relay replays or one whose relay carries.
use Rattle.std.proofs.Common.{◌≡◌, ◌⊎◌, ℕ, ◌<◌, ◌≤◌, Some, List, length, take, slice_get, refl, sym, ◌∙◌, ap, subst, arith, inl, inr}
use Rattle.std.specs.List.{All}
use Rattle.std.proofs.lemmas.Option.{slice_get_within, slice_get-get_or, get_or_from_slice_get}
use Rattle.std.proofs.lemmas.List.{length-take, length-take-le, get_or-take}
use Rattle.std.proofs.lemmas.List.Elements.{All-take}
use Rattle.vd_model.specs.declared.record.Begun.{Begun}
use Rattle.vd_ring.specs.declared.driver.DriverDone.{DriverDone}
use Rattle.vd_ring.specs.declared.driver.DriverView.{DriverView}
use Rattle.vd_ring.specs.declared.device.DeviceView.{DeviceView}
use Rattle.vd_ring.specs.declared.frame.Frame.{Frame}
use Rattle.vd_layout.specs.Driver.{DriverModel}
use Rattle.vd_layout.specs.Device.{DeviceModel}
use Rattle.vd_layout.specs.Layout.{LayoutModel}
use Rattle.vd_control.specs.declared.command.Command.{Command}
use Rattle.vd_control.specs.declared.settings.Settings.{Settings}
use Rattle.vd_control.specs.Settings.{replay}
use Rattle.vd_relay.specs.declared.control.Control.{Control}
use Rattle.vd_relay.specs.declared.control.Mode.{Mode}
use Rattle.vd_relay.specs.declared.control.Mode.TheVariants.{Replaying, Carrying, Leaving}
use Rattle.vd_relay.specs.declared.counts.Counts.{Counts}
use Rattle.vd_relay.specs.declared.state.State.{State}
use Rattle.vd_relay.specs.CommandSteps.{CommandHolds}
use Rattle.vd_relay.specs.Modes.{IsUntouched, Does, carries_from}
use Rattle.vd_relay.specs.Replays as replays
use Rattle.vd_switch.specs.CommandLanes.{CommandParts, IsReplaying, IsCommandLane, IsSpelled}
use Rattle.vd_switch.specs.Controlling.{ControlStart, IsControlling, replay_list, start_after, start_of, replayed_by}
use Rattle.vd_switch.proofs.CommandReplays.{few_offers}

-- ---- the first n of a list

pub taken_more : {A : Type 0} (n m k : ℕ) (xs : List A) (b : A) → n ≤ m → slice_get (take n xs) k ≡ Some b
    → slice_get (take m xs) k ≡ Some b
taken_more n m k xs b le at =
    let low : k < length (take n xs) = slice_get_within (take n xs) k b at in
    let below : k < n = omega (arith, low, length-take n xs) in
    let inside : k < length (take m xs) = omega (arith, low, le, length-take n xs, length-take m xs) in
    slice_get-get_or (take m xs) k b inside
    ∙ ap (λ (x : _). Some x)
    (get_or-take m xs k b (omega (arith, below, le)) ∙ sym (get_or-take n xs k b below) ∙ get_or_from_slice_get (take n xs) k b b at)

pub taken_whole : {A : Type 0} (n k : ℕ) (xs : List A) (b : A) → slice_get (take n xs) k ≡ Some b → slice_get xs k ≡ Some b
taken_whole n k xs b at =
    let low : k < length (take n xs) = slice_get_within (take n xs) k b at in
    let below : k < n = omega (arith, low, length-take n xs) in
    let inside : k < length xs = omega (arith, low, length-take n xs) in
    slice_get-get_or xs k b inside
    ∙ ap (λ (x : _). Some x) (sym (get_or-take n xs k b below) ∙ get_or_from_slice_get (take n xs) k b b at)

pub carried_less : (n m : ℕ) (cs : List Command) (g : Frame) (o : List DriverDone) → m ≤ n → replays.AreCarried (take n cs) g o
    → replays.AreCarried (take m cs) g o
carried_less n m cs g o le h = λ k b low at. h k b low (taken_more m n k cs b le at)

pub carried_first : (m : ℕ) (cs : List Command) (g : Frame) (o : List DriverDone) → replays.AreCarried cs g o
    → replays.AreCarried (take m cs) g o
carried_first m cs g o h = λ k b low at. h k b low (taken_whole m k cs b at)

-- ---- by what it does

pub kind : (m : Mode) → (m ≡ Replaying) ⊎ ((m ≡ Carrying) ⊎ (m ≡ Leaving))
kind Replaying = inl refl
kind Carrying = inr (inl refl)
kind Leaving = inr (inr refl)

pub is_carrying : (m : Mode) → (m ≡ Carrying) ⊎ (m ≡ Carrying → ⊥)
is_carrying Replaying = inr (λ is. cc)
is_carrying Carrying = inl refl
is_carrying Leaving = inr (λ is. cc)

pub all_of : (m : Mode) (n all : ℕ) → (m ≡ Carrying → ⊥) → replayed_by m n all ≡ all
all_of Replaying n all never = refl
all_of Carrying n all never = absurd (never refl)
all_of Leaving n all never = refl

pub some_by : (m : Mode) (n all : ℕ) → m ≡ Carrying → replayed_by m n all ≡ n
some_by m n all is = ap (λ (x : Mode). replayed_by x n all) is

module _ {E D : Type 0} (l : LayoutModel) (e : DeviceModel E) (d : DriverModel D) (x : ControlStart) where
  -- the parts are those with fewer or more of the list
  pub parts_at : (n m : ℕ) (begun : List Begun) (now : Settings) (words shadow_words : List ℕ) (v : DriverView) (w : DeviceView)
      (sv : DriverView) (sw : DeviceView) → m ≤ length (replay_list x) → All IsSpelled (replay_list x)
      → CommandParts l (start_after x n) begun now words shadow_words v w sv sw
      → CommandParts l (start_after x m) begun now words shadow_words v w sv sw
  parts_at n m begun now words shadow_words v w sv sw low spelled h = record {
    ring = h.ring;
    shadow_ring = h.shadow_ring;
    control = h.control;
    commanded = h.commanded;
    from_first = h.from_first;
    counted = sym (length-take-le m (replay_list x) low);
    are_spelled = All-take IsSpelled m (replay_list x) spelled;
    begun_before = h.begun_before;
    ones = h.ones;
  }

  pub few_of : (n : ℕ) (begun : List Begun) (now : Settings) (words shadow_words : List ℕ) (v : DriverView) (w : DeviceView)
      (sv : DriverView) (sw : DeviceView) → CommandParts l (start_after x n) begun now words shadow_words v w sv sw
      → n ≤ length (replay_list x)
  few_of n begun now words shadow_words v w sv sw h =
      let counted : n ≡ length (take n (replay_list x)) = h.counted in
      omega (arith, counted, length-take n (replay_list x))

  module _ (r : State E D) (k : Control) (s : Settings) (c : Counts) (w : DeviceView) (sv : DriverView) where
    pub untouched_by : (m : Mode) → (m ≡ Carrying → ⊥) → Does m l e d x.opening r k s c w sv → IsUntouched x.opening w
    untouched_by Replaying never p = p.1.untouched
    untouched_by Carrying never p = absurd (never refl)
    untouched_by Leaving never p = p.untouched

    pub list_by : (m : Mode) → (m ≡ Carrying → ⊥) → Does m l e d x.opening r k s c w sv → replays.Replays l d k.replay r.shadow sv
    list_by Replaying never p = p.1.replays.replays
    list_by Carrying never p = absurd (never refl)
    list_by Leaving never p = p.replays

    pub carries_by : k.mode ≡ Carrying → Does k.mode l e d x.opening r k s c w sv
        → CommandHolds l e d (carries_from x.opening k.replay.next) r k.commander s c w sv
    carries_by is p = subst (λ (m : Mode). Does m l e d x.opening r k s c w sv) is p

  module _ (r : State E D) (k : Control) (s : Settings) (c : Counts) (begun : List Begun) (now : Settings)
      (words shadow_words : List ℕ) (v : DriverView) (w : DeviceView) (sv : DriverView) (sw : DeviceView)
      (h : IsControlling l e d x r k s c begun now words shadow_words v w sv sw) where
    pub carrying : k.mode ≡ Carrying
        → IsCommandLane e d l (start_of x k) r k.commander.commands s begun now words shadow_words v w sv sw
    carrying is =
        let n : ℕ = k.replay.next in
        let eq : replayed_by k.mode n (length (replay_list x)) ≡ n = some_by k.mode n (length (replay_list x)) is in
        let on = carries_by r k s c w sv is h.holds.does in
        let parts : CommandParts l (start_after x n) begun now words shadow_words v w sv sw =
        subst (λ (i : ℕ). CommandParts l (start_after x i) begun now words shadow_words v w sv sw) eq h.parts in
        let carried : replays.AreCarried (take n (replay_list x)) sv.frame sv.done =
        subst (λ (i : ℕ). replays.AreCarried (take i (replay_list x)) sv.frame sv.done) eq h.carried in
        let counted : n ≡ length (take n (replay_list x)) = parts.counted in
        subst (λ (i : ℕ). IsCommandLane e d l (start_after x i) r k.commander.commands s begun now words shadow_words v w sv sw) (sym eq)
        (record {
          parts = parts;
          relays = on.commands.stands;
          carried = on.commands.carried;
          replayed = λ i b at. carried i b
              (omega (arith, slice_get_within (take n (replay_list x)) i b at, counted, on.commands.stands.tied.follows.offered)) at;
          winds = h.winds;
        })

    pub replaying : (k.mode ≡ Carrying → ⊥) → IsReplaying l (start_of x k) begun now words shadow_words v w sv sw
    replaying never =
        let list = list_by r k s c w sv k.mode never h.holds.does in
        let was = untouched_by r k s c w sv k.mode never h.holds.does in
        let all : ℕ = length (replay_list x) in
        let counted : replayed_by k.mode k.replay.next all ≡ length (start_of x k).replays = h.parts.counted in
        let low = few_offers k.replay.stage (replay k.replay.settings) k.replay.next sv.frame sv.done list.at in
        record {
          parts = h.parts;
          same_takes = was.takes;
          same_gives = was.gives;
          even = h.even;
          few = omega (arith, low, ap (λ (z : Settings). length (replay z)) h.holds.again, counted, all_of k.mode k.replay.next all never);
          replayed = h.carried;
        }
