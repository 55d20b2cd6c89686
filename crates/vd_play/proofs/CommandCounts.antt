-- How many commands are begun in an epoch of the control queue, and what they set one by one.
use Rattle.std.proofs.Common.{◌≡◌, ℕ, add-one, ◌+◌, ◌-◌, ◌<◌, ◌≤◌, Bool, true, false, if◌then◌else◌, Some, None, List, [], ◌∷◌, ◌++◌, length, map, take, flat_map, slice_get, slice_index_or, refl, sym, ◌∙◌, ap, arith, length-append}
use Rattle.std.proofs.Math.Seq.{take-suc}
use Rattle.std.proofs.lemmas.List.{length-map}
use Rattle.vd_control.specs.declared.command.Command.{Command}
use Rattle.vd_control.specs.declared.settings.Settings.{Settings}
use Rattle.vd_control.specs.Commands.{command, spelled}
use Rattle.vd_control.specs.Settings.{applied, folded, replay}
use Rattle.vd_machine.specs.File.{Plan}
use Rattle.vd_play.specs.Commands.{control_commands, control_epochs, sent_at, settings_at, own_commands, replayed_commands}
use Rattle.vd_play.specs.ControlJournal.{epoch_commands}
use Rattle.vd_play.specs.Epochs.{Epoch, renewed_at}
use Rattle.vd_play.specs.Orders.{stop_of}
use Rattle.vd_play.specs.Switching.{IsSwitched}
use Rattle.vd_play.proofs.Bounds.{Bounded, bounded, many_epochs, stops_at, flat_more}
use Rattle.vd_play.proofs.ControlEpochs.{control_chained, control_numbered, folds_on, own_length}
use Rattle.vd_play.proofs.Lists.{some_same}

-- an epoch ends where its switch, or the last command, says
pub sent_stop : (plan : Plan) (k : ℕ) → 1 ≤ k → k ≤ length plan.switches + 2
    → stop_of plan.switches (k - 1) (length (control_commands plan)) ≡ sent_at plan k
sent_stop plan k some low = stops_at plan (length (control_commands plan)) (k - 1) (omega (arith, some, low))
    ∙ ap (sent_at plan) (omega (arith, some))

abbrev IsBounded : Plan → ℕ → Type 0
IsBounded plan k = Bounded (length (control_commands plan)) (control_epochs plan) k

pub epoch_bounded : (plan : Plan) → IsSwitched plan → (k : ℕ) → k < length plan.switches + 2 → IsBounded plan k
epoch_bounded plan s k low = bounded (length (control_commands plan)) (control_epochs plan) k (control_chained plan s)
    (omega (arith, low, many_epochs plan (length (control_commands plan))))

-- ---- what is replayed

chosen : (b : Bool) (xs : List (List ℕ)) → b ≡ true → (if b then xs else []) ≡ xs
chosen b xs h = rw h refl

left_out : (b : Bool) (xs : List (List ℕ)) → b ≡ false → (if b then xs else []) ≡ []
left_out b xs h = rw h refl

pub replayed_many : (plan : Plan) (k : ℕ) (s : Settings) → s ≡ settings_at plan k → renewed_at plan k ≡ true → (ep : Epoch)
    → slice_get (control_epochs plan) k ≡ Some ep → length (replay s) ≡ length (replayed_commands plan ep)
replayed_many plan k s set on ep is =
    let x = (control_numbered plan).at k ep is in
    let own : List (List ℕ) = map spelled (replay (settings_at plan ep.number)) in
    ap (λ (z : Settings). length (replay z)) (set ∙ ap (settings_at plan) (sym x.0))
    ∙ sym (length-map (replay (settings_at plan ep.number)) spelled)
    ∙ ap (λ (xs : List (List ℕ)). length xs) (sym (chosen ep.renewed own (x.2 ∙ on)))

pub replayed_no : (plan : Plan) (k : ℕ) → renewed_at plan k ≡ false → (ep : Epoch) → slice_get (control_epochs plan) k ≡ Some ep
    → 0 ≡ length (replayed_commands plan ep)
replayed_no plan k off ep is =
    let x = (control_numbered plan).at k ep is in
    let own : List (List ℕ) = map spelled (replay (settings_at plan ep.number)) in
    ap (λ (xs : List (List ℕ)). length xs) (sym (left_out ep.renewed own (x.2 ∙ off)))

-- ---- what is begun

pub epoch_many : (plan : Plan) → IsSwitched plan → (k : ℕ) → k < length plan.switches + 2 → (replays from to : ℕ) (ep : Epoch)
    → slice_get (control_epochs plan) k ≡ Some ep → replays ≡ length (replayed_commands plan ep) → from ≡ sent_at plan k
    → to ≡ sent_at plan (k + 1) → replays + (to - from) ≡ length (epoch_commands plan ep)
epoch_many plan s k low replays from to ep is many at till =
    let b : IsBounded plan k = epoch_bounded plan s k low in
    let same : ep ≡ b.epoch = some_same ep b.epoch (slice_get (control_epochs plan) k) is b.is in
    omega (
      arith,
      length-append (replayed_commands plan ep) (own_commands plan ep),
      ap (λ (z : Epoch). length (own_commands plan z)) same,
      own_length plan k b,
      many,
      at,
      till,
    )

-- ---- one command more

more_taken : (cs : List (List ℕ)) (i : ℕ) → i < length cs → take (i + 1) cs ≡ take i cs ++ slice_index_or cs i [] ∷ []
more_taken cs i low = ap (λ j. take j cs) (add-one i) ∙ take-suc cs i [] low

pub folds_one : (cs : List (List ℕ)) (i : ℕ) (c : Command) → i < length cs → command (slice_index_or cs i []) ≡ Some c
    → folded (take (i + 1) cs) ≡ applied (folded (take i cs)) c
folds_one cs i c low is =
    ap folded (more_taken cs i low) ∙ folds_on (take i cs) (slice_index_or cs i [] ∷ []) ∙ (rw is refl)

pub folds_none : (cs : List (List ℕ)) (i : ℕ) → i < length cs → command (slice_index_or cs i []) ≡ None
    → folded (take (i + 1) cs) ≡ folded (take i cs)
folds_none cs i low is =
    ap folded (more_taken cs i low) ∙ folds_on (take i cs) (slice_index_or cs i [] ∷ []) ∙ (rw is refl)

-- ---- all of them

pub replays_more : (plan : Plan) → IsSwitched plan → (k : ℕ) → k < length plan.switches + 2 → (n : ℕ)
    → ((ep : Epoch) → slice_get (control_epochs plan) k ≡ Some ep → n ≡ length (replayed_commands plan ep))
    → length (flat_map (replayed_commands plan) (take (k + 1) (control_epochs plan)))
    ≡ length (flat_map (replayed_commands plan) (take k (control_epochs plan))) + n
replays_more plan s k low n of =
    let b : IsBounded plan k = epoch_bounded plan s k low in
    let es : List Epoch = control_epochs plan in
    omega (
      arith,
      ap (λ (xs : List (List ℕ)). length xs) (flat_more (replayed_commands plan) es k b.epoch b.is),
      length-append (flat_map (replayed_commands plan) (take k es)) (replayed_commands plan b.epoch),
      of b.epoch b.is,
    )
