-- How the two rings of a control lane hang together, while its relay replays and while it carries.
use Rattle.std.proofs.Common.{◌≡◌, ℕ, ◌+◌, ◌-◌, ◌<◌, ◌≤◌, List, [], ◌∷◌, ◌++◌, length, drop, refl, sym, ◌∙◌, ap, subst, arith, inl, inr, Option}
use Rattle.std.proofs.lemmas.Bool.{cases_lt}
use Rattle.std.proofs.lemmas.List.{length-map, length-append, get_or-map, get_or-drop, get_or-take, get_or_append_left, get_or-append-add, append-nil}
use Rattle.vd_model.specs.declared.chain.Piece.{Piece}
use Rattle.vd_model.specs.declared.record.Begun.{Begun}
use Rattle.vd_model.specs.Chains.{readable}
use Rattle.vd_ring.specs.declared.driver.DriverView.{DriverView}
use Rattle.vd_ring.specs.declared.device.DeviceDone.{DeviceDone}
use Rattle.vd_ring.specs.declared.device.DeviceDone.TheVariants.{Rest}
use Rattle.vd_ring.specs.declared.device.DeviceView.{DeviceView}
use Rattle.vd_ring.specs.declared.frame.Used.{Used}
use Rattle.vd_ring.specs.Control.{ack_of, command_of, CommandsAgree}
use Rattle.vd_ring.specs.ControlLaws.{ControlStands}
use Rattle.vd_ring.specs.History.{entry, offers, collects, takes, gives, held, chain, chain_at, used_at, numbers, occurs}
use Rattle.vd_ring.specs.Lists.{Lists, AreTakes}
use Rattle.vd_ring.specs.Places.{Places}
use Rattle.vd_ring.proofs.ListSteps.{given_below, number_in}
use Rattle.vd_layout.specs.Driver.{DriverModel}
use Rattle.vd_layout.specs.Device.{DeviceModel}
use Rattle.vd_layout.specs.Layout.{LayoutModel, IsLawfulLayout}
use Rattle.vd_control.specs.declared.settings.Settings.{Settings}
use Rattle.vd_commands.proofs.Agreeing.{loaded_agree, load_agrees}
use Rattle.vd_table.specs.declared.Command as kept
use Rattle.vd_relay.specs.declared.state.State.{State}
use Rattle.vd_relay.specs.Commanding.{carries, IsCarried, IsAnswered}
use Rattle.vd_relay.specs.Settling.{bytes_of}
use Rattle.vd_relay.specs.Tie.{guests}
use Rattle.vd_relay.specs.Ways.{carrying, shift_by, IsReplayed}
use Rattle.vd_relay.proofs.Ties.{taken_count}
use Rattle.vd_relay.proofs.Ways.{sent_count, came_count}
use Rattle.vd_switch.specs.CommandLanes.{CommandStart, IsReplaying, IsCommandLane, KeepsCommands, before}
use Rattle.vd_switch.proofs.ShadowingLanes.{which}
use Rattle.vd_switch.proofs.CommandWords.{ever_at, load_given, same_bytes}
use Rattle.vd_switch.proofs.CommandKept.{AreLinked, IsReturned, keeps}

-- ---- while it replays

module _ {E D : Type 0} (e : DeviceModel E) (d : DriverModel D) (l : LayoutModel) (law : IsLawfulLayout d e l) (y : CommandStart)
    (begun : List Begun) (now : Settings) (words shadow_words : List ℕ) (v : DriverView) (w : DeviceView) (sv : DriverView)
    (sw : DeviceView) (h : IsReplaying l y begun now words shadow_words v w sv sw) where
  replay_outer : Lists v.frame v.done w.done
  replay_outer = law.lists words v w h.parts.ring

  pub replay_links : AreLinked y v w sv sw
  replay_links = record {
    some = omega (arith, replay_outer.some, ap (λ (cs : List (List Piece)). length cs) h.same_takes, h.even);
    few = omega (arith, replay_outer.some, ap (λ (cs : List (List Piece)). length cs) h.same_takes, h.even, h.few, h.parts.counted);
    replayed = λ k c low at. h.replayed k c low at;
    carried = λ k past low. absurd (omega (arith, h.few, h.parts.counted));
    got = [];
    gave = h.same_gives ∙ sym (append-nil y.from.gives);
    each = λ j low. absurd (omega arith);
  }

  pub replay_keeps : KeepsCommands y begun v w
  replay_keeps = keeps e d l law y begun now words shadow_words v w sv sw h.parts replay_links

-- ---- while it carries

module _ {E D : Type 0} (e : DeviceModel E) (d : DriverModel D) (l : LayoutModel) (law : IsLawfulLayout d e l) (y : CommandStart)
    (r : State E D) (table : List (Option kept.Command)) (settings : Settings) (begun : List Begun) (now : Settings)
    (words shadow_words : List ℕ) (v : DriverView) (w : DeviceView) (sv : DriverView) (sw : DeviceView)
    (h : IsCommandLane e d l y r table settings begun now words shadow_words v w sv sw) where
  abbrev n : ℕ
  n = y.from.replayed

  abbrev acts : List DeviceDone
  acts = h.relays.acts

  outer : Lists v.frame v.done w.done
  outer = law.lists words v w h.parts.ring

  inner : Lists sv.frame sv.done sw.done
  inner = law.lists shadow_words sv sw h.parts.shadow_ring

  opened : Places sv.frame sv.done
  opened = law.places shadow_words sv sw h.parts.shadow_ring

  outer_controls : ControlStands v.frame l.words.command l.words.ack v.done w.done words
  outer_controls = law.controls words v w h.parts.ring

  inner_controls : ControlStands sv.frame l.words.command l.words.ack sv.done sw.done shadow_words
  inner_controls = law.controls shadow_words sv sw h.parts.shadow_ring

  follows : IsReplayed n sv.done
  follows = h.relays.tied.follows

  -- what is so of the acts on the guest's ring, and of those before a rest, is so before it
  before_rest : (P : List DeviceDone → Type 0) → ((s : List DeviceDone) → P (Rest ∷ s) → P s) → P w.done → P acts
  before_rest P down at = elim (which r.stage acts w.done h.relays.before) [
    | inl is ↦ subst P is at
    | inr is ↦ down acts (subst P is.1 at)
  ]

  agree_before : CommandsAgree v.frame v.done acts
  agree_before = before_rest (λ s. CommandsAgree v.frame v.done s) (λ s a. a) outer_controls.acks.commands_agree

  takes_before : AreTakes (offers v.done) ((held v.frame v.done).1) acts
  takes_before = before_rest (λ s. AreTakes (offers v.done) ((held v.frame v.done).1) s) (λ s a. a) outer.ever

  pub gives_before : gives w.done ≡ gives acts
  gives_before = before_rest (λ s. gives w.done ≡ gives s) (λ s a. a) refl

  ack_before : (k : ℕ) → ack_of w.done k ≡ ack_of acts k
  ack_before k = before_rest (λ s. ack_of w.done k ≡ ack_of s k) (λ s a. a) refl

  -- ---- what was carried

  taken : length (takes acts) ≡ before y + length (drop n (offers sv.done)) + length h.relays.hand
  taken = taken_count (carries y.from) r.table acts sv.frame sv.done h.relays.hand h.relays.back h.relays.tied

  sent_many : length (offers sv.done) ≡ n + length (drop n (offers sv.done))
  sent_many = sent_count (carrying n) sv.done follows

  -- a chain taken from the guest's ring is one that the guest offered
  taken_at : (k : ℕ) → k < length (takes acts) → (k < length (offers v.done)) × (chain_at (takes acts) k ≡ chain v.done k)
  taken_at k low = ever_at (offers v.done) ((held v.frame v.done).1) acts takes_before k low

  pub carried_bytes : (k : ℕ) → IsCarried y.from sv.done k
      → bytes_of sv.frame sv.done k ≡ bytes_of v.frame v.done (guests (carries y.from) k)
  carried_bytes k c =
      let number : ℕ = guests (carries y.from) k in
      let p = h.carried.passed k c in
      let low : number < length (takes acts) = omega (arith, taken, sent_many, c.not_replayed, c.offered) in
      let same = loaded_agree v.frame v.done acts number (command_of sv.frame sv.done k 0) (command_of sv.frame sv.done k 1) agree_before
      p.words in
      same_bytes (readable (chain sv.done k)) (readable (chain v.done number)) (command_of sv.frame sv.done k 0)
      (command_of v.frame v.done number 0) (command_of sv.frame sv.done k 1) (command_of v.frame v.done number 1)
      (p.bytes ∙ ap readable (taken_at number low).1) same.0 same.1

  -- ---- what was given

  gave : gives w.done ≡ y.from.gives ++ h.relays.tied.got
  gave = gives_before ∙ h.relays.tied.gives

  came_many : length (collects sv.done) ≡ n + length (drop n (collects sv.done))
  came_many = came_count (carrying n) sv.done follows

  got_few : length h.relays.tied.got ≤ length (drop n (collects sv.done))
  got_few = omega (
    arith,
    length-map (drop n (collects sv.done)) (shift_by (carrying n) (before y)),
    ap (λ (us : List Used). length us) h.relays.tied.given,
    length-append h.relays.tied.got h.relays.back,
  )

  got_at : (j : ℕ) → j < length h.relays.tied.got
      → used_at h.relays.tied.got j ≡ shift_by (carrying n) (before y) (used_at (gives sw.done) (n + j))
  got_at j low =
      let some : n + j < length (collects sv.done) = omega (arith, came_many, got_few) in
      sym (get_or_append_left h.relays.tied.got h.relays.back (entry 0 0) j low)
      ∙ ap (λ (us : List Used). used_at us j) (sym h.relays.tied.given)
      ∙ get_or-map (shift_by (carrying n) (before y)) (drop n (collects sv.done)) j (entry 0 0) (entry 0 0) (omega (arith, got_few))
      ∙ ap (shift_by (carrying n) (before y)) (get_or-drop n (collects sv.done) j (entry 0 0)
      ∙ ap (λ (us : List Used). used_at us (n + j)) inner.collected
      ∙ get_or-take (length (collects sv.done)) (gives sw.done) (n + j) (entry 0 0) some)

  -- the chain of the shadow ring for which the entry's own stands
  abbrev chain_number : ℕ → ℕ
  chain_number j = n + ((used_at (gives sw.done) (n + j)).number - n)

  is_carried : (j : ℕ) → j < length h.relays.tied.got → IsCarried y.from sv.done (chain_number j)
  is_carried j low =
      let some : n + j < length (collects sv.done) = omega (arith, came_many, got_few) in
      let there : n + j < length (gives sw.done) = omega (arith, some, inner.fewer) in
      let taken = given_below sv.frame sv.done sw.done (n + j) inner there in
      record {
        not_replayed = omega arith;
        offered = elim (cases_lt (used_at (gives sw.done) (n + j)).number n) [
          | inl a ↦ omega (arith, some, opened.count)
          | inr past ↦ omega (arith, taken, inner.some)
        ];
      }

  number_is : (j : ℕ) → j < length h.relays.tied.got
      → (used_at h.relays.tied.got j).number ≡ before y + (chain_number j - n)
  number_is j low = omega (arith, ap (λ (u : Used). u.number) (got_at j low))

  given_there : (j : ℕ) → j < length h.relays.tied.got → 1 ≤ occurs (guests (carries y.from) (chain_number j)) (numbers (gives acts))
  given_there j low =
      let at : used_at (gives acts) (before y + j) ≡ used_at h.relays.tied.got j = ap (λ (us : List Used). used_at us (before y + j))
      h.relays.tied.gives ∙ get_or-append-add y.from.gives h.relays.tied.got j (entry 0 0) in
      let inside : before y + j < length (gives acts) = omega
      (arith, low, ap (λ (us : List Used). length us) h.relays.tied.gives, length-append y.from.gives h.relays.tied.got) in
      subst (λ (k : ℕ). 1 ≤ occurs k (numbers (gives acts))) (ap (λ (u : Used). u.number) at ∙ number_is j low)
      (number_in (gives acts) (before y + j) inside)

  returned_at : (j : ℕ) → j < length h.relays.tied.got → IsReturned y w sw (used_at h.relays.tied.got j)
  returned_at j low =
      let k : ℕ = chain_number j in
      let number : ℕ = guests (carries y.from) k in
      let is : IsAnswered acts number sv.done k = h.carried.answered k (is_carried j low) (given_there j low) in
      let agree = inner_controls.acks.acks_agree in
      record {
        of = n + j;
        low = omega (arith, came_many, got_few, inner.fewer);
        len = ap (λ (u : Used). u.len) (got_at j low);
        chain = k;
        past = omega arith;
        number = number_is j low;
        given = load_given sv.done sw.done k (ack_of acts number) agree is;
        ack = ap (ack_of w.done) (number_is j low) ∙ ack_before number ∙ load_agrees sv.done sw.done k (ack_of acts number) agree is;
      }

  -- ---- so the rings are linked

  pub command_links : AreLinked y v w sv sw
  command_links = record {
    some = below_all (before y) (omega (arith, taken));
    few = omega (arith, below_all (length (takes acts)) (omega arith), taken, sent_many);
    replayed = λ k c low at. h.replayed k c at;
    carried = λ k past low. carried_bytes k (record { not_replayed = past; offered = low });
    got = h.relays.tied.got;
    gave = gave;
    each = returned_at;
  }
    where
      -- no more were taken than offered
      below_all : (k : ℕ) → k ≤ length (takes acts) → k ≤ length (offers v.done)
      below_all k low = elim (cases_lt 0 k) [
        | inl some ↦ omega (arith, (taken_at (k - 1) (omega arith)).0)
        | inr none ↦ omega arith
      ]

  pub command_keeps : KeepsCommands y begun v w
  command_keeps = keeps e d l law y begun now words shadow_words v w sv sw h.parts command_links
