-- The next queue of the report, and the queues after it.
use Rattle.std.proofs.Common.{◌≡◌, ℕ, ◌+◌, ◌<◌, ◌≤◌, Bool, List, [], ◌∷◌, ◌++◌, length, get_or, take, drop, refl, ap, sym, ◌∙◌, arith, append_assoc}
use Rattle.std.proofs.lemmas.List.{drop_more, drop_all, take_more, get_or-map, get_or-take, length-map, length-take-le}
use Rattle.std.proofs.lemmas.List.Sums.{sum_by-append, sum_by-cons}
use Rattle.std.proofs.lemmas.Option.{slice_get_read}
use Rattle.vd_bus.specs.Device.{DeviceParty, lens_of}
use Rattle.vd_machine.specs.File.{Plan}
use Rattle.vd_play.specs.Each.{HasLanes}
use Rattle.vd_play.specs.Played.{AllPlayed}
use Rattle.vd_play.specs.Setting.{Setting}
use Rattle.vd_play.specs.declared.bench.Bench.{Bench}
use Rattle.vd_runner.specs.Report.{queue_lines, all_queue_lines, drained, all_lens}

pub queue_at : (plan : Plan) (brief : Bool) (all : List (List ℕ)) (k : ℕ) (lens rest : List ℕ) → k < length all → get_or all k [] ≡ lens
    → all_queue_lines plan brief k (drop k all) ++ rest ≡ queue_lines plan brief k lens
    ++ (all_queue_lines plan brief (k + 1) (drop (k + 1) all) ++ rest)
queue_at plan brief all k lens rest h is =
    ap (λ xs. all_queue_lines plan brief k xs ++ rest) (drop_more all k [] h)
    ∙ ap (λ ls. (queue_lines plan brief k ls ++ all_queue_lines plan brief (k + 1) (drop (k + 1) all)) ++ rest) is
    ∙ append_assoc (queue_lines plan brief k lens) (all_queue_lines plan brief (k + 1) (drop (k + 1) all)) rest

pub last_queue : (plan : Plan) (brief : Bool) (all : List (List ℕ)) (k : ℕ) (rest : List ℕ) → length all ≤ k
    → all_queue_lines plan brief k (drop k all) ++ rest ≡ rest
last_queue plan brief all k rest h = ap (λ xs. all_queue_lines plan brief k xs ++ rest) (drop_all k all h)

pub drained_at : (all : List (List ℕ)) (k : ℕ) → k < length all → drained (take (k + 1) all) ≡ drained (take k all)
    + length (get_or all k [])
drained_at all k h =
    let e : drained (take (k + 1) all) ≡ drained (take k all ++ get_or all k [] ∷ []) = ap drained (take_more all k [] h) in
    omega (
      arith,
      e,
      sum_by-append (λ (lens : List ℕ). length lens) (take k all) (get_or all k [] ∷ []),
      sum_by-cons (λ (lens : List ℕ). length lens) (get_or all k []) [],
    )

pub many_lens : {G X C : Type 0} (m : DeviceParty X C) (plan : Plan) (bench : Bench G X)
    → length plan.queues ≤ length bench.devices.items → length (all_lens m plan bench) ≡ length plan.queues
many_lens m plan bench h = length-map (take (length plan.queues) bench.devices.items) (λ x. lens_of (m.begun x))
    ∙ length-take-le (length plan.queues) bench.devices.items h

pub lens_at : {G X C : Type 0} (m : DeviceParty X C) (plan : Plan) (bench : Bench G X) (k : ℕ) (x : X)
    → length plan.queues ≤ length bench.devices.items → k < length plan.queues → x ≡ get_or bench.devices.items k x
    → get_or (all_lens m plan bench) k [] ≡ lens_of (m.begun x)
lens_at m plan bench k x h below is =
    let n = length plan.queues in
    let xs = bench.devices.items in
    let many = length-take-le n xs h in
    get_or-map (λ y. lens_of (m.begun y)) (take n xs) k x [] (omega arith)
    ∙ ap (λ y. lens_of (m.begun y)) (get_or-take n xs k x below ∙ sym is)

-- each chain of a queue that was played came back
pub back : {D E G X C : Type 0} (s : Setting D E G X C) (plan : Plan) (bench : Bench G X) (k : ℕ) (guest : G) (x : X)
    → HasLanes (length plan.queues) bench → AllPlayed s plan bench → k < length plan.queues → guest ≡ get_or bench.guests.items k guest
    → x ≡ get_or bench.devices.items k x → length (s.guest.returned guest) ≡ length (lens_of (s.party.begun x))
back s plan bench k guest x parties played below has_guest has_device =
    let one = slice_get_read bench.guests.items (length bench.guests.items) k guest refl (omega (arith, parties.guests)) has_guest in
    let other = slice_get_read bench.devices.items (length bench.devices.items) k x refl (omega (arith, parties.devices)) has_device in
    (played k guest x below one other).returned.as_many
