-- What the device of a control lane's shadow ring has journalled: the commands of the chains that were offered to it.
use Rattle.std.proofs.Common.{◌≡◌, ℕ, ◌+◌, ◌-◌, ◌<◌, ◌≤◌, Some, List, [], length, drop, slice_get, sym, ◌∙◌, ap, subst, arith}
use Rattle.std.specs.List.{All}
use Rattle.std.proofs.lemmas.List.{length-map, length-append, length-drop, get_or-map, get_or-drop, get_or_append_left}
use Rattle.std.proofs.lemmas.Option.{get_or_from_slice_get, slice_get_within}
use Rattle.vd_model.specs.declared.chain.Piece.{Piece}
use Rattle.vd_model.specs.declared.record.Begun.{Begun}
use Rattle.vd_model.specs.Chains.{readable}
use Rattle.vd_ring.specs.declared.driver.DriverView.{DriverView}
use Rattle.vd_ring.specs.declared.device.DeviceView.{DeviceView}
use Rattle.vd_ring.specs.declared.frame.Used.{Used}
use Rattle.vd_ring.specs.Control.{ack_of, command_of}
use Rattle.vd_ring.specs.ControlLaws.{ControlStands}
use Rattle.vd_ring.specs.History.{entry, offers, takes, gives, held, chain, chain_at, used_at, numbers, occurs}
use Rattle.vd_ring.specs.Lists.{Lists}
use Rattle.vd_layout.specs.Driver.{DriverModel}
use Rattle.vd_layout.specs.Device.{DeviceModel}
use Rattle.vd_layout.specs.Layout.{LayoutModel, IsLawfulLayout}
use Rattle.vd_bus.specs.Device.{chains_of}
use Rattle.vd_bus.specs.DeviceCommands.{IsExecuted, IsAnswered}
use Rattle.vd_control.specs.declared.settings.Settings.{Settings}
use Rattle.vd_commands.specs.Words.{ack_byte}
use Rattle.vd_commands.proofs.Agreeing.{loaded_agree}
use Rattle.vd_relay.specs.Settling.{bytes_of}
use Rattle.vd_switch.specs.CommandLanes.{CommandStart, CommandParts}
use Rattle.vd_switch.proofs.CommandLists.{get_dropped, number_found}
use Rattle.vd_switch.proofs.CommandWords.{ever_at, same_bytes}

pub no_begun : Begun
no_begun = record { chain = []; len = 0; bytes = record { items = [] } }

module _ {E D : Type 0} (e : DeviceModel E) (d : DriverModel D) (l : LayoutModel) (law : IsLawfulLayout d e l) (y : CommandStart)
    (begun : List Begun) (now : Settings) (words shadow_words : List ℕ) (v : DriverView) (w : DeviceView) (sv : DriverView)
    (sw : DeviceView) (h : CommandParts l y begun now words shadow_words v w sv sw) where
  abbrev ds : List Begun
  ds = drop y.by.at begun

  pub inner : Lists sv.frame sv.done sw.done
  inner = law.lists shadow_words sv sw h.shadow_ring

  pub inner_controls : ControlStands sv.frame l.words.command l.words.ack sv.done sw.done shadow_words
  inner_controls = law.controls shadow_words sv sw h.shadow_ring

  -- no more are begun than were taken, nor more taken than offered
  pub begun_taken : length ds ≤ length (takes sw.done)
  begun_taken = omega (
    arith,
    length-map ds (λ (b : Begun). b.chain),
    length-append (chains_of ds) h.commanded.chains.0,
    ap (λ (cs : List (List Piece)). length cs) h.commanded.chains.1,
    length-drop y.by.from (takes sw.done),
  )

  pub begun_offered : length ds ≤ length (offers sv.done)
  begun_offered = omega (arith, begun_taken, inner.some)

  pub chain_is : (i : ℕ) (b : Begun) → slice_get ds i ≡ Some b → b.chain ≡ chain sv.done i
  chain_is i b at =
      let low : i < length ds = slice_get_within ds i b at in
      let from : y.by.from + i ≡ i = omega (arith, h.from_first) in
      sym (ap (λ (x : Begun). x.chain) (get_or_from_slice_get ds i b b at))
      ∙ sym (get_or-map (λ (x : Begun). x.chain) ds i b [] low)
      ∙ sym (get_or_append_left (chains_of ds) h.commanded.chains.0 [] i (omega (arith, low, length-map ds (λ (x : Begun). x.chain))))
      ∙ ap (λ (cs : List (List Piece)). chain_at cs i) h.commanded.chains.1
      ∙ get_or-drop y.by.from (takes sw.done) i []
      ∙ ap (chain_at (takes sw.done)) from
      ∙ (ever_at (offers sv.done) ((held sv.frame sv.done).1) sw.done inner.ever i (omega (arith, low, begun_taken))).1

  -- the words that were loaded for it are those that were stored
  pub word_is : (i : ℕ) (b : Begun) (x : IsExecuted sw.done i b)
      → (x.first ≡ command_of sv.frame sv.done i 0) × (x.second ≡ command_of sv.frame sv.done i 1)
  word_is i b x = loaded_agree sv.frame sv.done sw.done i x.first x.second inner_controls.acks.commands_agree x.are_loaded

  -- a chain begun has the bytes that were stored for it, and one byte is written
  pub entry_bytes : (i : ℕ) (b : Begun) → slice_get ds i ≡ Some b → b.bytes.items ≡ bytes_of sv.frame sv.done i
  entry_bytes i b at =
      let from : y.by.from + i ≡ i = omega (arith, h.from_first) in
      let x : IsExecuted sw.done i b = subst (λ (k : ℕ). IsExecuted sw.done k b) from (h.commanded.each i b at) in
      let same = word_is i b x in
      x.bytes ∙ same_bytes (readable b.chain) (readable (chain sv.done i)) x.first (command_of sv.frame sv.done i 0) x.second
      (command_of sv.frame sv.done i 1) (ap readable (chain_is i b at)) same.0 same.1

  pub entry_one : (i : ℕ) (b : Begun) → slice_get ds i ≡ Some b → b.len ≡ 1
  entry_one i b at = (h.commanded.each i b at).one

  -- ---- what it gave

  given_all : All (IsAnswered begun y.by.at 0 sw.done) (gives sw.done)
  given_all = subst (λ (k : ℕ). All (IsAnswered begun y.by.at k sw.done) (drop k (gives sw.done))) h.from_first h.commanded.given

  begun_at : (u : Used) (a : IsAnswered begun y.by.at 0 sw.done u) → slice_get ds u.number ≡ Some a.chain
  begun_at u a =
      let at : y.by.at + u.number ≡ u.number - 0 + y.by.at = omega arith in
      get_dropped y.by.at u.number begun ∙ ap (slice_get begun) at ∙ a.is

  pub given_one : (j : ℕ) → j < length (gives sw.done) → (used_at (gives sw.done) j).len ≡ 1
  given_one j low =
      let u : Used = used_at (gives sw.done) j in
      let a : IsAnswered begun y.by.at 0 sw.done u = given_all j (entry 0 0) low in
      a.len ∙ entry_one u.number a.chain (begun_at u a)

  -- it was begun, and its ack is that of the bytes that were stored for it
  pub record IsGiven (k : ℕ) : Type 0 where
    pub low : k < length ds
    pub ack : ack_of sw.done k ≡ ack_byte (bytes_of sv.frame sv.done k)

  given_at : (u : Used) → IsAnswered begun y.by.at 0 sw.done u → IsGiven u.number
  given_at u a = record {
    low = slice_get_within ds u.number a.chain (begun_at u a);
    ack = a.stands ∙ ap ack_byte (entry_bytes u.number a.chain (begun_at u a));
  }

  pub was_given : (k : ℕ) → 1 ≤ occurs k (numbers (gives sw.done)) → IsGiven k
  was_given k some =
      let j = number_found (gives sw.done) k some in
      subst (λ (i : ℕ). IsGiven i) j.2 (given_at (used_at (gives sw.done) j.0) (given_all j.0 (entry 0 0) j.1))
