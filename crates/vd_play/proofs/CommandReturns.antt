-- What came back to the guest of the control queue, by what was given on its ring.
use Rattle.std.proofs.Common.{◌≡◌, inl, inr, ℕ, ◌<◌, ◌≤◌, Some, List, length, take, drop, slice_get, slice_index_or, nat_lt, sym, ◌∙◌, ap, arith}
use Rattle.std.specs.List.{All}
use Rattle.std.proofs.lemmas.Bool.{cases_lt}
use Rattle.std.proofs.lemmas.List.{length-map, length-take-le, get_or-map, get_or-take, same_lists, take-append-drop}
use Rattle.std.proofs.lemmas.List.Elements.{All-weaker}
use Rattle.std.proofs.lemmas.Option.{slice_get-get_or, slice_get_within}
use Rattle.vd_model.specs.declared.record.Return.{Return}
use Rattle.vd_words.specs.Plain.{RingWords}
use Rattle.vd_ring.specs.declared.driver.DriverDone.{DriverDone}
use Rattle.vd_ring.specs.declared.driver.DriverView.{DriverView}
use Rattle.vd_ring.specs.declared.device.DeviceView.{DeviceView}
use Rattle.vd_ring.specs.declared.frame.Used.{Used}
use Rattle.vd_ring.specs.Control.{AcksAgree}
use Rattle.vd_ring.specs.History.{collects, takes, gives, numbers, occurs, used_at, entry}
use Rattle.vd_ring.specs.Lists.{Lists}
use Rattle.vd_ring.proofs.Counts.{one_small, one_above, occurs-append}
use Rattle.vd_ring.proofs.ListSteps.{collected_given}
use Rattle.vd_bus.specs.GuestCommands.{AreAcked}
use Rattle.vd_commands.specs.Loads.{ack_load}
use Rattle.vd_commands.specs.Words.{ack_byte}
use Rattle.vd_commands.proofs.Agreeing.{load_agrees}
use Rattle.vd_relay.specs.Settling.{bytes_of}
use Rattle.vd_switch.specs.CommandLanes.{AreAnsweredTo}
use Rattle.vd_switch.proofs.CommandWords.{load_given}
use Rattle.vd_control_lane.specs.Scripts.{IsReturned}
use Rattle.vd_control_lane.proofs.Returned.{all_returned}
use Rattle.vd_control_lane.proofs.AnyScripts.{any_acked, any_sent}
use Rattle.vd_machine.specs.File.{Plan}
use Rattle.vd_play.specs.Commands.{control_queue, control_commands, IsAnswered}
use Rattle.vd_play.specs.CommandLane.{IsCommandDriven}
use Rattle.vd_play.specs.CommandsPlayed.{IsAnsweredBegun}
use Rattle.vd_play.specs.Returned.{returned_numbers}
use Rattle.vd_play.specs.Setting.{Setting, IsLawful}

no_return : Return
no_return = record { number = 0; len = 0; ack = 0 }

-- the numbers of what came back are the first ones collected
pub returned_first : (o : List DriverDone) (rs : List Return) → AreAcked o rs
    → returned_numbers rs ≡ take (length rs) (numbers (collects o))
returned_first o rs acked =
    let n : ℕ = length rs in
    let of : Return → ℕ = λ r. r.number in
    let by : Used → ℕ = λ u. u.number in
    let many : length (numbers (collects o)) ≡ length (collects o) = length-map (collects o) by in
    same_lists (returned_numbers rs) (take n (numbers (collects o)))
    (length-map rs of ∙ sym (length-take-le n (numbers (collects o)) (omega (arith, many, acked.some))))
    (λ k d below.
    let low : k < n = omega (arith, below, length-map rs of) in
    let inside : k < length (collects o) = omega (arith, low, acked.some) in
    let r : Return = slice_index_or rs k no_return in
    get_or-map of rs k no_return d low
    ∙ (acked.each k r (slice_get-get_or rs k no_return low)).number
    ∙ sym (get_or-take n (numbers (collects o)) k d low ∙ get_or-map by (collects o) k (entry 0 0) d inside))

first_occurs : (k n : ℕ) (xs : List ℕ) → occurs k (take n xs) ≤ occurs k xs
first_occurs k n xs = omega (arith, ap (occurs k) (take-append-drop n xs), occurs-append k (take n xs) (drop n xs))

module _ {D E G X C : Type 0} (s : Setting D E G X C) (law : IsLawful s) (plan : Plan) (words : RingWords) (guest : G) (v : DriverView)
    (w : DeviceView) (p : IsCommandDriven s plan words guest v w) where
  abbrev rs : List Return
  rs = s.guest.returned guest

  lists : Lists v.frame v.done w.done
  lists = law.layout.lists words.words v w p.ring

  pub returns_acked : AreAcked v.done rs
  returns_acked = any_acked s.driver s.guest law.guest guest v (control_queue plan) p.part.holds p.part.script p.queue.plain
      (omega (arith, lists.fewer, lists.count, lists.some))

  -- each at most once
  pub returned_once : (k : ℕ) → occurs k (returned_numbers rs) ≤ 1
  returned_once k = omega (
    arith,
    ap (occurs k) (returned_first v.done rs returns_acked),
    first_occurs k (length rs) (numbers (collects v.done)),
    collected_given v.frame v.done w.done k lists,
    lists.given k,
    one_small (nat_lt k (length (takes w.done))),
  )

  -- it is a number that was given
  returned_given : (j : ℕ) (r : Return) → slice_get rs j ≡ Some r
      → (j < length (gives w.done)) × (r.number ≡ (used_at (gives w.done) j).number)
  returned_given j r at =
      let low : j < length (collects v.done) = omega (arith, slice_get_within rs j r at, returns_acked.some) in
      let same : used_at (collects v.done) j ≡ used_at (gives w.done) j =
      ap (λ (us : List Used). used_at us j) lists.collected
      ∙ get_or-take (length (collects v.done)) (gives w.done) j (entry 0 0) low in (
        omega (arith, low, lists.fewer),
        (returns_acked.each j r at).number ∙ ap (λ (u : Used). u.number) same,
      )

  -- where the device has answered all that it took, each ack loaded is right
  pub loads_right : (n : ℕ) → length (takes w.done) ≡ n → AreAnsweredTo n v w → (k ack : ℕ) → ack_load v.done k ≡ Some ack
      → ack ≡ ack_byte (bytes_of v.frame v.done k)
  loads_right n taken old k ack is =
      let agree : AcksAgree v.done w.done = (law.layout.controls words.words v w p.ring).acks.acks_agree in
      let given : 1 ≤ occurs k (numbers (gives w.done)) = load_given v.done w.done k ack agree is in
      let low : k < n = elim (cases_lt k (length (takes w.done))) [
        | inl low ↦ omega (arith, low, taken)
        | inr high ↦ absurd (omega (arith, given, lists.given k, one_above k (length (takes w.done)) high))
      ] in
      load_agrees v.done w.done k ack agree is ∙ old k low

  answered : (r : Return) → IsReturned (control_commands plan) r → IsAnswered (control_commands plan) r
  answered r is = record { len = is.len; bytes = is.bytes; is = is.is; ack = is.ack }

  module _ (right : (k ack : ℕ) → ack_load v.done k ≡ Some ack → ack ≡ ack_byte (bytes_of v.frame v.done k))
      (ones : (j : ℕ) → j < length (gives w.done) → (used_at (gives w.done) j).len ≡ 1) where
    -- each with its ack
    pub returned_answered : All (IsAnswered (control_commands plan)) rs
    returned_answered = All-weaker (IsReturned (control_commands plan)) (IsAnswered (control_commands plan)) answered rs
        (all_returned s.driver.words (control_queue plan) v
        (any_sent s.driver s.guest law.guest guest v (control_queue plan) p.part.holds p.part.script p.queue.plain) p.queue.sendable rs returns_acked w.done
        lists right ones)

    -- where what was given are among the first n, those that came back are
    pub returned_begun : (n : ℕ) → ((j : ℕ) → j < length (gives w.done) → (used_at (gives w.done) j).number < n)
        → All (IsAnsweredBegun plan n) rs
    returned_begun n low j d below =
        let r : Return = slice_index_or rs j d in
        let given = returned_given j r (slice_get-get_or rs j d below) in
        record {
          begun = omega (arith, given.1, low j given.0);
          answered = returned_answered j d below;
        }
