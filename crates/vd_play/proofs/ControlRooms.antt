-- How many events the journal of the control queue's device has.
use Rattle.std.proofs.Common.{◌≡◌, ℕ, ◌+◌, ◌*◌, min, Bool, true, false, List, [], ◌∷◌, ◌++◌, if◌then◌else◌, length, length-append, flat_map, refl, arith}
use Rattle.std.proofs.lemmas.List.Sums.{sum_by-cons}
use Rattle.vd_model.specs.declared.base.Base.{Base}
use Rattle.vd_model.specs.declared.base.Mode.{Mode}
use Rattle.vd_layout.specs.Layout.{LayoutModel}
use Rattle.vd_bus.specs.declared.event.Event.{Event}
use Rattle.vd_bus.specs.declared.event.Event.TheVariants.{Reset}
use Rattle.vd_machine.specs.File.{Plan}
use Rattle.vd_machine.specs.declared.machine.Switch.{Switch}
use Rattle.vd_machine.specs.declared.machine.To.{To}
use Rattle.vd_machine.specs.declared.machine.To.TheVariants as to
use Rattle.vd_play.specs.AllWork.{command_events_room}
use Rattle.vd_play.specs.Commands.{control_commands}
use Rattle.vd_play.specs.ControlJournal.{journalled_at, command_attach, command_suspend, command_events, control_events}
use Rattle.vd_play.specs.Epochs.{Epoch, epochs_from, closing, mode_after, is_renewal}
use Rattle.vd_play.specs.Renewing.{renewal_count, renewals}

abbrev count : Bool → ℕ
count true = 1
count false = 0

count_is : (t : To) → count (is_renewal t) ≡ renewal_count t
count_is to.Pass = refl
count_is to.Shadow = refl
count_is to.Renew = refl

three_or_two : (b : Bool) (n : ℕ) (x y : Event) → length ((if b then Reset n ∷ [] else []) ++ x ∷ y ∷ []) ≡ count b + 2
three_or_two true n x y = refl
three_or_two false n x y = refl

-- where an epoch has its attach and its suspension, and its reset where it begins with a renewal
many_from : (f : Epoch → List Event) → ((ep : Epoch) → length (f ep) ≡ count ep.renewed + 2) → (i : ℕ) (ss : List Switch) (m : Mode)
    (renewed : Bool) (first n j : ℕ) → length (flat_map f (epochs_from i ss m renewed first n ++ closing j n ∷ []))
    ≡ count renewed + 2 * (length ss + 2) + renewals ss
many_from f of i [] m renewed first n j =
    let x : Epoch = record { number = i; mode = m; renewed = renewed; first = first; end = n } in
    let c : Epoch = closing j n in
    let here : length (f x) ≡ count renewed + 2 = of x in
    let last : length (f c) ≡ 0 + 2 = of c in
    let all : length (f x ++ (f c ++ [])) ≡ count renewed + 2 * (0 + 2) + 0 =
    omega (arith, length-append (f x) (f c ++ []), length-append (f c) [], here, last) in
    all
many_from f of i (s ∷ ss) m renewed first n j =
    let x : Epoch = record { number = i; mode = m; renewed = renewed; first = first; end = min s.after n } in
    let rest : List Epoch = epochs_from (i + 1) ss (mode_after m s.to) (is_renewal s.to) (min s.after n) n ++ closing j n ∷ [] in
    let here : length (f x) ≡ count renewed + 2 = of x in
    let all : length (f x ++ flat_map f rest) ≡ count renewed + 2 * (length (s ∷ ss) + 2) + renewals (s ∷ ss) =
    omega (
      arith,
      length-append (f x) (flat_map f rest),
      here,
      many_from f of (i + 1) ss (mode_after m s.to) (is_renewal s.to) (min s.after n) n j,
      sum_by-cons (λ (z : Switch). renewal_count z.to) s ss,
      count_is s.to,
    ) in
    all

-- the journal has room for all of them
pub control_events_many : (l : LayoutModel) (plan : Plan) (bases : ℕ → Base)
    → length (control_events l plan bases) ≡ command_events_room plan
control_events_many l plan bases =
    let of : (ep : Epoch) → length (command_events l plan bases ep) ≡ count ep.renewed + 2 =
    λ ep. three_or_two ep.renewed (journalled_at plan ep.number) (command_attach l plan ep) (command_suspend plan bases ep) in
    let all : length (control_events l plan bases) ≡ 0 + 2 * (length plan.switches + 2) + renewals plan.switches =
    many_from (command_events l plan bases) of 0 plan.switches plan.start false 0 (length (control_commands plan))
    (length plan.switches + 1) in
    omega (arith, all)
