-- How many events a journal has, and the room for them.
use Rattle.std.proofs.Common.{◌≡◌, ℕ, ◌+◌, ◌*◌, ◌≤◌, min, Bool, true, false, List, [], ◌∷◌, ◌++◌, if◌then◌else◌, length, length-append, take, drop, flat_map, slice_get, Some, refl, sym, ◌∙◌, ap, arith}
use Rattle.std.proofs.lemmas.Grind.{flat_map-append}
use Rattle.std.proofs.lemmas.List.{take-append-drop}
use Rattle.std.proofs.lemmas.List.Sums.{sum_by-cons}
use mathlib.Core.List.{IsPrefix}
use Rattle.vd_model.specs.declared.base.Mode.{Mode}
use Rattle.vd_layout.specs.Device.{DeviceModel}
use Rattle.vd_layout.specs.Layout.{LayoutModel}
use Rattle.vd_bus.specs.declared.event.Event.{Event}
use Rattle.vd_bus.specs.declared.event.Event.TheVariants.{Reset}
use Rattle.vd_machine.specs.File.{Plan}
use Rattle.vd_machine.specs.declared.machine.Switch.{Switch}
use Rattle.vd_machine.specs.declared.machine.To.{To}
use Rattle.vd_machine.specs.declared.machine.To.TheVariants as to
use Rattle.vd_play.specs.Before.{events_before, begun_at, resets}
use Rattle.vd_play.specs.Epochs.{Epoch, epochs_from, closing, mode_after, is_renewal, renewed_at}
use Rattle.vd_play.specs.Journal.{queue_chains, queue_epochs, epoch_events, epoch_attach, epoch_suspend, journal_events}
use Rattle.vd_play.specs.Lane.{HasRoom}
use Rattle.vd_play.specs.Renewing.{renewal_count, renewals}
use Rattle.vd_play.specs.Setting.{Setting}
use Rattle.vd_play.proofs.Bounds.{flat_more}
use Rattle.vd_play.proofs.Lists.{length_le}
use Rattle.vd_play.proofs.Passed.{events_split}

pub front_of : {A B : Type 0} (f : A → List B) (xs : List A) (k : ℕ) → IsPrefix (flat_map f (take k xs)) (flat_map f xs)
front_of f xs k = (flat_map f (drop k xs), sym (flat_map-append f (take k xs) (drop k xs)) ∙ ap (flat_map f) (take-append-drop k xs))

-- ---- the room

pub room_noted : {D E G X C : Type 0} (s : Setting D E G X C) (plan : Plan) (q : ℕ) (x y : X) (event : Event)
    → s.party.events y ≡ s.party.events x ++ event ∷ [] → s.party.event_room x ≤ s.party.event_room y + 1 → HasRoom s plan q x
    → HasRoom s plan q y
room_noted s plan q x y event is room h =
    omega (arith, ap length is, length-append (s.party.events x) (event ∷ []), room, h)

pub room_same : {D E G X C : Type 0} (s : Setting D E G X C) (plan : Plan) (q : ℕ) (x y : X) → s.party.events y ≡ s.party.events x
    → s.party.event_room x ≤ s.party.event_room y → HasRoom s plan q x → HasRoom s plan q y
room_same s plan q x y is room h = omega (arith, ap length is, room, h)

-- epoch k has its reset, its attach and its suspension
pub journal_long : {E : Type 0} (e : DeviceModel E) (l : LayoutModel) (plan : Plan) (q k : ℕ) (ep : Epoch)
    → slice_get (queue_epochs plan q) k ≡ Some ep → ep.renewed ≡ renewed_at plan k → ep.first ≡ begun_at plan q k
    → length (events_before e l plan q k) + length (resets plan q k) + 2 ≤ length (journal_events e l plan q)
journal_long e l plan q k ep is renewed first =
    let f : Epoch → List Event = epoch_events e l plan q in
    omega (
      arith,
      length_le (events_before e l plan q (k + 1)) (journal_events e l plan q) (front_of f (queue_epochs plan q) (k + 1)),
      ap length (flat_more f (queue_epochs plan q) k ep is),
      length-append (events_before e l plan q k) (f ep),
      ap length (events_split e l plan q k ep renewed first),
      length-append (resets plan q k) (epoch_attach e l plan q ep ∷ epoch_suspend e l plan q ep ∷ []),
    )

-- ---- how many events there are

abbrev count : Bool → ℕ
count true = 1
count false = 0

count_is : (t : To) → count (is_renewal t) ≡ renewal_count t
count_is to.Pass = refl
count_is to.Shadow = refl
count_is to.Renew = refl

three_or_two : (b : Bool) (n : ℕ) (x y : Event) → length ((if b then Reset n ∷ [] else []) ++ x ∷ y ∷ []) ≡ count b + 2
three_or_two true n x y = refl
three_or_two false n x y = refl

module _ {E : Type 0} (e : DeviceModel E) (l : LayoutModel) (plan : Plan) (q : ℕ) where
  events_of : (ep : Epoch) → length (epoch_events e l plan q ep) ≡ count ep.renewed + 2
  events_of ep = three_or_two ep.renewed ep.first (epoch_attach e l plan q ep) (epoch_suspend e l plan q ep)

  events_from : (i : ℕ) (ss : List Switch) (m : Mode) (renewed : Bool) (first n j : ℕ)
      → length (flat_map (epoch_events e l plan q) (epochs_from i ss m renewed first n ++ closing j n ∷ []))
      ≡ count renewed + 2 * (length ss + 2) + renewals ss
  events_from i [] m renewed first n j =
      let f : Epoch → List Event = epoch_events e l plan q in
      let x : Epoch = record { number = i; mode = m; renewed = renewed; first = first; end = n } in
      let c : Epoch = closing j n in
      let here : length (f x) ≡ count renewed + 2 = events_of x in
      let last : length (f c) ≡ 0 + 2 = events_of c in
      let all : length (f x ++ (f c ++ [])) ≡ count renewed + 2 * (0 + 2) + 0 =
      omega (arith, length-append (f x) (f c ++ []), length-append (f c) [], here, last) in
      all
  events_from i (s ∷ ss) m renewed first n j =
      let f : Epoch → List Event = epoch_events e l plan q in
      let x : Epoch = record { number = i; mode = m; renewed = renewed; first = first; end = min s.after n } in
      let rest : List Epoch =
      epochs_from (i + 1) ss (mode_after m s.to) (is_renewal s.to) (min s.after n) n ++ closing j n ∷ [] in
      let here : length (f x) ≡ count renewed + 2 = events_of x in
      let all : length (f x ++ flat_map f rest) ≡ count renewed + 2 * (length (s ∷ ss) + 2) + renewals (s ∷ ss) =
      omega (
        arith,
        length-append (f x) (flat_map f rest),
        here,
        events_from (i + 1) ss (mode_after m s.to) (is_renewal s.to) (min s.after n) n j,
        sum_by-cons (λ (z : Switch). renewal_count z.to) s ss,
        count_is s.to,
      ) in
      all

  pub journal_length : length (journal_events e l plan q) ≡ 2 * (length plan.switches + 2) + renewals plan.switches
  journal_length =
      let all : length (journal_events e l plan q) ≡ 0 + 2 * (length plan.switches + 2) + renewals plan.switches =
      events_from 0 plan.switches plan.start false 0 (length (queue_chains plan q)) (length plan.switches + 1) in
      omega (arith, all)

renewal_few : (t : To) → renewal_count t ≤ 1
renewal_few to.Pass = omega arith
renewal_few to.Shadow = omega arith
renewal_few to.Renew = omega arith

pub renewals_few : (ss : List Switch) → renewals ss ≤ length ss
renewals_few [] = omega arith
renewals_few (s ∷ ss) =
    omega (arith, sum_by-cons (λ (z : Switch). renewal_count z.to) s ss, renewal_few s.to, renewals_few ss)
