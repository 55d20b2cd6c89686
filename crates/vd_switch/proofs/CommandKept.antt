-- What follows of a control lane, once it is known how its two rings hang together.
use Rattle.std.proofs.Common.{◌≡◌, ℕ, ◌+◌, ◌-◌, ◌<◌, ◌≤◌, true, Some, List, [], ◌++◌, length, map, take, drop, slice_get, slice_index_or, refl, sym, ◌∙◌, ap, subst, arith, inl, inr}
use Rattle.std.specs.List.{All}
use mathlib.Core.List.{IsPrefix}
use Rattle.std.proofs.lemmas.Bool.{cases_lt}
use Rattle.std.proofs.lemmas.List.{length-map, length-append, length-drop, length-take-le, get_or-map, get_or-drop, get_or-take, get_or_append_left, get_or-append_right, map-append, take_at}
use Rattle.std.proofs.lemmas.List.Elements.{All-append, All-drop, All-map}
use Rattle.std.proofs.lemmas.Option.{slice_get-get_or}
use Rattle.vd_model.specs.declared.record.Begun.{Begun}
use Rattle.vd_model.specs.Chains.{readable}
use Rattle.vd_ring.specs.declared.driver.DriverView.{DriverView}
use Rattle.vd_ring.specs.declared.device.DeviceView.{DeviceView}
use Rattle.vd_ring.specs.declared.frame.Used.{Used}
use Rattle.vd_ring.specs.Account.{Lawful}
use Rattle.vd_ring.specs.Control.{ack_of, command_of}
use Rattle.vd_ring.specs.History.{entry, offers, takes, gives, chain, used_at, numbers, occurs}
use Rattle.vd_ring.specs.Lists.{Lists}
use Rattle.vd_ring.proofs.Counts.{one_small}
use Rattle.vd_layout.specs.Driver.{DriverModel}
use Rattle.vd_layout.specs.Device.{DeviceModel}
use Rattle.vd_layout.specs.Layout.{LayoutModel, IsLawfulLayout}
use Rattle.vd_bus.specs.DeviceCommands.{commands_of}
use Rattle.vd_control.specs.declared.command.Command.{Command}
use Rattle.vd_control.specs.declared.command.Command.TheVariants.{Rx}
use Rattle.vd_control.specs.declared.settings.Settings.{Settings}
use Rattle.vd_control.specs.Commands.{spelled}
use Rattle.vd_commands.specs.Loads.{ack_load}
use Rattle.vd_commands.specs.Words.{ack_byte, command_word}
use Rattle.vd_commands.proofs.Agreeing.{load_agrees}
use Rattle.vd_relay.specs.Settling.{bytes_of}
use Rattle.vd_relay.specs.Replays as replay
use Rattle.vd_switch.specs.CommandLanes.{CommandStart, CommandParts, KeepsCommands, IsAnsweredTo, before, guest_commands, with_bytes, lane_commands, command_account}
use Rattle.vd_switch.proofs.CommandJournal.{no_begun, begun_offered, entry_bytes, entry_one, given_one, was_given}
use Rattle.vd_switch.proofs.CommandLists.{front, number_found, commands_count, command_at}
use Rattle.vd_switch.proofs.CommandWords.{load_given, same_bytes, spelled_back}

-- an entry given on the guest's ring has the length of one given on the shadow ring, and the ack of the chain for which its own stands
pub record IsReturned (y : CommandStart) (w sw : DeviceView) (u : Used) : Type 0 where
  pub of : ℕ
  pub low : of < length (gives sw.done)
  pub len : u.len ≡ (used_at (gives sw.done) of).len
  pub chain : ℕ
  pub past : y.from.replayed ≤ chain
  pub number : u.number ≡ before y + (chain - y.from.replayed)
  pub given : 1 ≤ occurs chain (numbers (gives sw.done))
  pub ack : ack_of w.done u.number ≡ ack_of sw.done chain

-- the chains of the shadow ring are those replayed, and then those of the guest, from the first on that was not given before
pub record AreLinked (y : CommandStart) (v : DriverView) (w : DeviceView) (sv : DriverView) (sw : DeviceView) : Type 0 where
  pub some : before y ≤ length (offers v.done)
  pub few : length (offers sv.done) + before y ≤ y.from.replayed + length (offers v.done)
  pub replayed : (k : ℕ) (c : Command) → k < length (offers sv.done) → slice_get y.replays k ≡ Some c
      → replay.IsCarried sv.frame c sv.done k
  pub carried : (k : ℕ) → y.from.replayed ≤ k → k < length (offers sv.done)
      → bytes_of sv.frame sv.done k ≡ bytes_of v.frame v.done (before y + (k - y.from.replayed))
  pub got : List Used
  pub gave : gives w.done ≡ y.from.gives ++ got
  pub each : (j : ℕ) → j < length got → IsReturned y w sw (used_at got j)

module _ {E D : Type 0} (e : DeviceModel E) (d : DriverModel D) (l : LayoutModel) (law : IsLawfulLayout d e l) (y : CommandStart)
    (begun : List Begun) (now : Settings) (words shadow_words : List ℕ) (v : DriverView) (w : DeviceView) (sv : DriverView)
    (sw : DeviceView) (h : CommandParts l y begun now words shadow_words v w sv sw) (t : AreLinked y v w sv sw) where
  abbrev ds : List Begun
  ds = drop y.by.at begun

  abbrev n : ℕ
  n = y.from.replayed

  abbrev own : List (List ℕ × ℕ)
  own = drop n (map with_bytes ds)

  outer : Lists v.frame v.done w.done
  outer = law.lists words v w h.ring

  begun_few : length ds ≤ length (offers sv.done)
  begun_few = begun_offered e d l law y begun now words shadow_words v w sv sw h

  bytes_at : (i : ℕ) (b : Begun) → slice_get ds i ≡ Some b → b.bytes.items ≡ bytes_of sv.frame sv.done i
  bytes_at = entry_bytes e d l law y begun now words shadow_words v w sv sw h

  -- the bytes of the i-th chain begun
  bytes_begun : (i : ℕ) → i < length ds → (slice_index_or ds i no_begun).bytes.items ≡ bytes_of sv.frame sv.done i
  bytes_begun i low = bytes_at i (slice_index_or ds i no_begun) (slice_get-get_or ds i no_begun low)

  -- ---- the journal

  replayed_at : (i : ℕ) (x : List ℕ) → i < n → i < length (offers sv.done)
      → bytes_of sv.frame sv.done i ≡ slice_index_or (map spelled y.replays) i x
  replayed_at i x own_low low =
      let c : Command = slice_index_or y.replays i (Rx 0 true) in
      let inside : i < length y.replays = omega (arith, h.counted) in
      let k = t.replayed i c low (slice_get-get_or y.replays i (Rx 0 true) inside) in
      same_bytes (readable (chain sv.done i)) (length (spelled c)) (command_of sv.frame sv.done i 0) (command_word (spelled c) 0)
      (command_of sv.frame sv.done i 1) (command_word (spelled c) 1) k.bytes k.first k.second
      ∙ spelled_back c (h.are_spelled i (Rx 0 true) inside)
      ∙ sym (get_or-map spelled y.replays i (Rx 0 true) x inside)

  pub journal : IsPrefix (commands_of ds) (map spelled y.replays ++ drop (before y) (guest_commands v))
  journal =
      let first : List (List ℕ) = map spelled y.replays in
      let rest : List (List ℕ) = drop (before y) (guest_commands v) in
      let many : length (commands_of ds) ≡ length ds = length-map ds (λ (b : Begun). b.bytes.items) in
      let first_many : length first ≡ n = length-map y.replays spelled ∙ sym h.counted in
      front (commands_of ds) (first ++ rest)
      (omega (
        arith,
        many,
        begun_few,
        t.few,
        t.some,
        length-append first rest,
        first_many,
        length-drop (before y) (guest_commands v),
        commands_count v,
      ))
      (λ i x below.
      let low : i < length ds = omega (arith, below, many) in
      get_or-map (λ (b : Begun). b.bytes.items) ds i no_begun x low ∙ bytes_begun i low ∙ elim (cases_lt i n) [
        | inl a ↦ replayed_at i x a (omega (arith, low, begun_few)) ∙ sym (get_or_append_left first rest x i (omega (arith, first_many)))
        | inr past ↦ t.carried i past (omega (arith, low, begun_few))
            ∙ sym (command_at v (before y + (i - n)) x (omega (arith, low, begun_few, t.few)))
            ∙ sym (get_or-drop (before y) (guest_commands v) (i - n) x)
            ∙ sym (get_or-append_right first rest n i x first_many past)
      ])

  pub lens : All (λ b. b.len ≡ 1) ds
  lens = λ i x low. entry_one e d l law y begun now words shadow_words v w sv sw h i (slice_index_or ds i x) (slice_get-get_or ds i x low)

  -- ---- the account

  old_count : length y.old ≡ before y
  old_count = sym (length-map y.old (λ (x : List ℕ × ℕ). x.0)) ∙ ap (λ (cs : List (List ℕ)). length cs) h.begun_before.chains
      ∙ length-take-le (before y) (guest_commands v) (omega (arith, t.some, commands_count v))

  own_count : length own ≡ length ds - n
  own_count = length-drop n (map with_bytes ds) ∙ ap (λ (k : ℕ). k - n) (length-map ds with_bytes)

  pub begun_count : length (lane_commands y begun) ≡ before y + (length ds - n)
  begun_count = omega (arith, length-append y.old own, old_count, own_count)

  own_at : (i : ℕ) (x : List ℕ) → i < length own → slice_index_or (map (λ (b : List ℕ × ℕ). b.0) own) i x
      ≡ bytes_of v.frame v.done (before y + i)
  own_at i x low =
      let j : ℕ = n + i in
      let inside : j < length ds = omega (arith, own_count) in
      let same : before y + (j - n) ≡ before y + i = omega arith in
      get_or-map (λ (b : List ℕ × ℕ). b.0) own i (with_bytes no_begun) x low
      ∙ ap (λ (b : List ℕ × ℕ). b.0) (get_or-drop n (map with_bytes ds) i (with_bytes no_begun)
      ∙ get_or-map with_bytes ds j no_begun (with_bytes no_begun) inside)
      ∙ bytes_begun j inside ∙ t.carried j (omega arith) (omega (arith, inside, begun_few)) ∙ ap (bytes_of v.frame v.done) same

  begun_offers : IsPrefix (map (λ (b : List ℕ × ℕ). b.0) (lane_commands y begun)) (guest_commands v)
  begun_offers =
      let of_old : List (List ℕ) = map (λ (b : List ℕ × ℕ). b.0) y.old in
      let of_own : List (List ℕ) = map (λ (b : List ℕ × ℕ). b.0) own in
      let parts = map-append (λ (b : List ℕ × ℕ). b.0) y.old own in
      let many : length (map (λ (b : List ℕ × ℕ). b.0) (lane_commands y begun)) ≡ before y + (length ds - n) =
      length-map (lane_commands y begun) (λ (b : List ℕ × ℕ). b.0) ∙ begun_count in
      let old_many : length of_old ≡ before y = length-map y.old (λ (b : List ℕ × ℕ). b.0) ∙ old_count in
      front (map (λ (b : List ℕ × ℕ). b.0) (lane_commands y begun)) (guest_commands v)
      (omega (arith, many, begun_few, t.few, t.some, commands_count v))
      (λ i x below. ap (λ (cs : List (List ℕ)). slice_index_or cs i x) parts ∙ elim (cases_lt i (before y)) [
        | inl a ↦ get_or_append_left of_old of_own x i (omega (arith, old_many))
            ∙ ap (λ (cs : List (List ℕ)). slice_index_or cs i x) h.begun_before.chains
            ∙ get_or-take (before y) (guest_commands v) i x a
        | inr past ↦ (
            let j : ℕ = i - before y in
            let is : before y + j ≡ i = omega arith in
            get_or-append_right of_old of_own (before y) i x old_many past
            ∙ own_at j x (omega (arith, below, many, own_count))
            ∙ ap (bytes_of v.frame v.done) is
            ∙ sym (command_at v i x (omega (arith, below, many, begun_few, t.few, t.some)))
            )
      ])

  pub begun_front : map (λ (b : List ℕ × ℕ). b.0) (lane_commands y begun) ≡ take (length (lane_commands y begun)) (guest_commands v)
  begun_front = sym (take_at (map (λ (b : List ℕ × ℕ). b.0) (lane_commands y begun)) begun_offers.0 (length (lane_commands y begun))
      (length-map (lane_commands y begun) (λ (b : List ℕ × ℕ). b.0))) ∙ ap (take (length (lane_commands y begun))) begun_offers.1

  pub ones : All (λ x. x.1 ≡ 1) (lane_commands y begun)
  ones = All-append (λ x. x.1 ≡ 1) y.old own h.ones
      (All-drop (λ x. x.1 ≡ 1) n (map with_bytes ds) (All-map (λ x. x.1 ≡ 1) with_bytes ds lens))

  -- ---- what was given, before or since then

  gives_count : length (gives w.done) ≡ before y + length t.got
  gives_count = ap (λ (us : List Used). length us) t.gave ∙ length-append y.from.gives t.got

  entry_old : (j : ℕ) → j < before y → used_at (gives w.done) j ≡ used_at y.from.gives j
  entry_old j low = ap (λ (us : List Used). used_at us j) t.gave ∙ get_or_append_left y.from.gives t.got (entry 0 0) j low

  entry_new : (j : ℕ) → before y ≤ j → used_at (gives w.done) j ≡ used_at t.got (j - before y)
  entry_new j past = ap (λ (us : List Used). used_at us j) t.gave
      ∙ get_or-append_right y.from.gives t.got (before y) j (entry 0 0) refl past

  returned_at : (j : ℕ) → before y ≤ j → j < length (gives w.done) → IsReturned y w sw (used_at (gives w.done) j)
  returned_at j past low = subst (λ (u : Used). IsReturned y w sw u) (sym (entry_new j past))
      (t.each (j - before y) (omega (arith, gives_count)))

  pub inside : (j : ℕ) → j < length (gives w.done) → (used_at (gives w.done) j).number < length (lane_commands y begun)
  inside j low = elim (cases_lt j (before y)) [
    | inl a ↦ omega (
      arith,
      ap (λ (u : Used). u.number) (entry_old j a),
      h.begun_before.inside j a,
      old_count,
      begun_count,
    )
    | inr past ↦ (
        let r = returned_at j past low in
        let k = was_given e d l law y begun now words shadow_words v w sv sw h r.chain r.given in
        omega (arith, r.number, r.past, k.low, begun_count)
        )
  ]

  pub given_ones : (j : ℕ) → j < length (gives w.done) → (used_at (gives w.done) j).len ≡ 1
  given_ones j low = elim (cases_lt j (before y)) [
    | inl a ↦ ap (λ (u : Used). u.len) (entry_old j a) ∙ sym (h.begun_before.lens j ([], 1) a)
        ∙ h.ones (used_at y.from.gives j).number ([], 1) (h.begun_before.inside j a)
    | inr past ↦ (
        let r = returned_at j past low in
        r.len ∙ given_one e d l law y begun now words shadow_words v w sv sw h r.of r.low
        )
  ]

  pub lengths : (j : ℕ) (x : List ℕ × ℕ) → j < length (gives w.done)
      → (slice_index_or (lane_commands y begun) (used_at (gives w.done) j).number x).1 ≡ (used_at (gives w.done) j).len
  lengths j x low = ones (used_at (gives w.done) j).number x (inside j low) ∙ sym (given_ones j low)

  pub lawful : Lawful (command_account v (lane_commands y begun) w)
  lawful = record {
    begun = begun_front;
    differ = λ k. omega (arith, outer.given k, one_small (Rattle.std.specs.Prelude.nat_lt k (length (takes w.done))));
    inside = inside;
    lengths = lengths;
    collected = outer.collected;
  }

  -- ---- the acks

  answer : (u : Used) → IsReturned y w sw u → IsAnsweredTo v w u.number
  answer u r =
      let k = was_given e d l law y begun now words shadow_words v w sv sw h r.chain r.given in
      r.ack ∙ k.ack ∙ ap ack_byte (t.carried r.chain r.past (omega (arith, k.low, begun_few)) ∙ ap (bytes_of v.frame v.done) (sym r.number))

  pub answered : (k : ℕ) → before y ≤ k → 1 ≤ occurs k (numbers (gives w.done)) → IsAnsweredTo v w k
  answered k past some =
      let j = number_found (gives w.done) k some in
      elim (cases_lt j.0 (before y)) [
        | inl a ↦ absurd (omega (
          arith,
          j.2,
          ap (λ (u : Used). u.number) (entry_old j.0 a),
          h.begun_before.inside j.0 a,
          old_count,
        ))
        | inr late ↦ subst (λ (i : ℕ). IsAnsweredTo v w i) j.2 (answer (used_at (gives w.done) j.0) (returned_at j.0 late j.1))
      ]

  pub loaded : (k x : ℕ) → before y ≤ k → ack_load v.done k ≡ Some x → x ≡ ack_byte (bytes_of v.frame v.done k)
  loaded k x past is =
      let agree = (law.controls words v w h.ring).acks.acks_agree in
      load_agrees v.done w.done k x agree is ∙ answered k past (load_given v.done w.done k x agree is)

  pub keeps : KeepsCommands y begun v w
  keeps = record {
    journal = journal;
    lens = lens;
    lawful = lawful;
    given_ones = given_ones;
    answered = answered;
    loaded = loaded;
  }
