-- The control queue's epochs: what its commands have set as each begins, and what a replay sets again.
use Rattle.std.proofs.Common.{◌≡◌, ℕ, zero, suc, add-one, ◌+◌, ◌-◌, ◌<◌, ◌≤◌, ◌==◌, not, if◌then◌else◌, Bool, true, false, All, List, [], ◌++◌, length, map, fold, take, drop, flat_map, refl, sym, ◌∙◌, ap, subst, length-append, arith}
use Rattle.std.specs.List.{filter_map}
use Rattle.std.proofs.lemmas.List.{take-append-drop, take-take, drop-take, take_all, length-map, length-drop, length-take-le}
use Rattle.std.proofs.lemmas.List.Elements.{All-take, filter_map-append}
use Rattle.std.proofs.lemmas.List.Sums.{fold-append}
use Rattle.vd_control.specs.declared.settings.Settings.{Settings}
use Rattle.vd_control.specs.Commands.{command, spelled}
use Rattle.vd_control.specs.Settings.{HasPairs, applied, default, folded, replay, has_flag, has_vlan, is_zeros}
use Rattle.vd_control.proofs.ComesBack.{folds_come_back}
use Rattle.vd_control.proofs.Passing.{length-passing}
use Rattle.vd_control.proofs.Places.{length-replay, from_bool-le}
use Rattle.vd_commands.specs.Words.{set_by}
use Rattle.vd_machine.specs.File.{Plan}
use Rattle.vd_play.specs.Commands.{control_commands, control_epochs, sent_at, settings_at, settings_of, own_commands, replayed_commands}
use Rattle.vd_play.specs.ControlJournal.{epoch_commands, journalled_at, journal_commands}
use Rattle.vd_play.specs.Epochs.{Epoch, AreChained, AreNumbered}
use Rattle.vd_play.specs.Switching.{IsSwitched}
use Rattle.vd_play.specs.AllWork.{command_work}
use Rattle.vd_play.proofs.Bounds.{Bounded, bounded, flat_more}
use Rattle.vd_play.proofs.Chained.{chained, numbered}

pub control_chained : (plan : Plan) → IsSwitched plan → AreChained (length (control_commands plan)) (control_epochs plan)
control_chained plan s = chained plan (length (control_commands plan)) s

pub control_numbered : (plan : Plan) → AreNumbered plan (control_epochs plan)
control_numbered plan = numbered plan (length (control_commands plan))

-- ---- settings

parts : {A : Type 0} (n d : ℕ) (xs : List A) → take (n + d) xs ≡ take n xs ++ take d (drop n xs)
parts n d xs =
    sym (take-append-drop n (take (n + d) xs))
    ∙ ap (λ zs. zs ++ drop n (take (n + d) xs)) (take-take n (n + d) xs (omega arith))
    ∙ ap (λ zs. take n xs ++ zs) (drop-take n d xs)

pub folds_on : (xs ys : List (List ℕ)) → folded (xs ++ ys) ≡ set_by (folded xs) ys
folds_on xs ys = ap (fold applied default) (filter_map-append command xs ys)
    ∙ fold-append applied default (filter_map command xs) (filter_map command ys)

-- the first epoch begins with the default
pub settings_first : (plan : Plan) → settings_at plan 0 ≡ default
settings_first plan = refl

abbrev IsBounded : Plan → ℕ → Type 0
IsBounded plan k = Bounded (length (control_commands plan)) (control_epochs plan) k

commands_more : (plan : Plan) (k : ℕ) (b : IsBounded plan k) → take (sent_at plan (k + 1)) (control_commands plan)
    ≡ take (sent_at plan k) (control_commands plan) ++ own_commands plan b.epoch
commands_more plan k b =
    let cs : List (List ℕ) = control_commands plan in
    let d : ℕ = b.epoch.end - b.epoch.first in
    let to : sent_at plan (k + 1) ≡ b.epoch.first + d = omega (arith, b.first, b.end, b.rises) in
    ap (λ j. take j cs) to ∙ parts b.epoch.first d cs ∙ ap (λ j. take j cs ++ own_commands plan b.epoch) b.first

-- the next begins with what its own commands make of it
pub settings_more : (plan : Plan) (k : ℕ) (b : IsBounded plan k)
    → settings_at plan (k + 1) ≡ set_by (settings_at plan k) (own_commands plan b.epoch)
settings_more plan k b = ap folded (commands_more plan k b)
    ∙ folds_on (take (sent_at plan k) (control_commands plan)) (own_commands plan b.epoch)

-- behind the last all commands have set
pub settings_last : (plan : Plan) → IsSwitched plan → settings_at plan (length (control_epochs plan)) ≡ settings_of plan
settings_last plan s =
    let last = (control_chained plan s).whole in
    ap folded (take_all (sent_at plan (length (control_epochs plan))) (control_commands plan) (omega (arith, last)))

-- ---- replays

-- the bytes of commands are bytes
abbrev pub AreBytes : Plan → Type 0
AreBytes plan = All (All (λ byte. byte < 256)) (control_commands plan)

pub pairs_at : (plan : Plan) (k : ℕ) → AreBytes plan → HasPairs (settings_at plan k)
pairs_at plan k bytes = (folds_come_back (take (sent_at plan k) (control_commands plan))
    (All-take (All (λ byte. byte < 256)) (sent_at plan k) (control_commands plan) bytes)).0

-- from the default on a replay sets again what was set
pub replay_back : (plan : Plan) (k : ℕ) → AreBytes plan → folded (map spelled (replay (settings_at plan k))) ≡ settings_at plan k
replay_back plan k bytes = (folds_come_back (take (sent_at plan k) (control_commands plan))
    (All-take (All (λ byte. byte < 256)) (sent_at plan k) (control_commands plan) bytes)).1

replayed_is : (plan : Plan) (ep : Epoch) → ep.renewed ≡ true
    → replayed_commands plan ep ≡ map spelled (replay (settings_at plan ep.number))
replayed_is plan ep h = rw h refl

replayed_none : (plan : Plan) (ep : Epoch) → ep.renewed ≡ false → replayed_commands plan ep ≡ []
replayed_none plan ep h = rw h refl

-- a device that was reset has at the epoch's end what the next begins with
pub renewed_sets : (plan : Plan) (k : ℕ) (b : IsBounded plan k) → AreBytes plan → b.epoch.number ≡ k → b.epoch.renewed ≡ true
    → folded (epoch_commands plan b.epoch) ≡ settings_at plan (k + 1)
renewed_sets plan k b bytes number h =
    let own : List (List ℕ) = own_commands plan b.epoch in
    folds_on (replayed_commands plan b.epoch) own
    ∙ ap (λ zs. set_by (folded zs) own) (replayed_is plan b.epoch h)
    ∙ ap (λ j. set_by (folded (map spelled (replay (settings_at plan j)))) own) number
    ∙ ap (λ z. set_by z own) (replay_back plan k bytes) ∙ sym (settings_more plan k b)

-- and so has one that was not
pub kept_sets : (plan : Plan) (k : ℕ) (b : IsBounded plan k) → b.epoch.renewed ≡ false
    → set_by (settings_at plan k) (epoch_commands plan b.epoch) ≡ settings_at plan (k + 1)
kept_sets plan k b h = ap (λ zs. set_by (settings_at plan k) (zs ++ own_commands plan b.epoch)) (replayed_none plan b.epoch h)
    ∙ sym (settings_more plan k b)

-- ---- how many there are

replay_few : (s : Settings) → length (replay s) ≤ 4105
replay_few s = omega (
  arith,
  length-replay s,
  length-passing (has_flag s.rx) 6,
  length-passing (has_vlan s.vlans) 4096,
  from_bool-le (not (is_zeros s.mac)),
  from_bool-le (not (s.pairs == 1)),
  from_bool-le (not (s.offloads == 0)),
)

few_if : (b : Bool) (xs : List (List ℕ)) → length xs ≤ 4105 → length (if b then xs else []) ≤ 4105
few_if true xs h = h
few_if false xs h = omega arith

-- a replay has at most 4,105 commands: 6 flags, the address, 4,096 VLANs, the pairs and the offloads
pub replayed_few : (plan : Plan) (ep : Epoch) → length (replayed_commands plan ep) ≤ 4105
replayed_few plan ep =
    let s : Settings = settings_at plan ep.number in
    few_if ep.renewed (map spelled (replay s)) (omega (arith, length-map (replay s) spelled, replay_few s))

pub own_length : (plan : Plan) (k : ℕ) (b : IsBounded plan k) → length (own_commands plan b.epoch) + sent_at plan k ≡ sent_at plan (k + 1)
own_length plan k b =
    let cs : List (List ℕ) = control_commands plan in
    let d : ℕ = b.epoch.end - b.epoch.first in
    let left : length (drop b.epoch.first cs) ≡ length cs - b.epoch.first = length-drop b.epoch.first cs in
    let long : length (own_commands plan b.epoch) ≡ d =
    length-take-le d (drop b.epoch.first cs) (omega (arith, left, b.first, b.end, b.low)) in
    omega (arith, long, b.first, b.end, b.rises)

-- the journal has before epoch k what was replayed until then, and the guest's own
abbrev pub IsJournalledAt : Plan → ℕ → Type 0
IsJournalledAt plan k =
    journalled_at plan k ≡ length (flat_map (replayed_commands plan) (take k (control_epochs plan))) + sent_at plan k

journalled_more : (plan : Plan) (k : ℕ) → IsBounded plan k → IsJournalledAt plan k → IsJournalledAt plan (k + 1)
journalled_more plan k b before =
    let es : List Epoch = control_epochs plan in
    let replayed : List (List ℕ) = replayed_commands plan b.epoch in
    omega (
      arith,
      ap length (flat_more (epoch_commands plan) es k b.epoch b.is),
      length-append (flat_map (epoch_commands plan) (take k es)) (epoch_commands plan b.epoch),
      length-append replayed (own_commands plan b.epoch),
      ap length (flat_more (replayed_commands plan) es k b.epoch b.is),
      length-append (flat_map (replayed_commands plan) (take k es)) replayed,
      before,
      own_length plan k b,
    )

pub journalled_chained : (plan : Plan) → AreChained (length (control_commands plan)) (control_epochs plan) → (k : ℕ)
    → k ≤ length (control_epochs plan) → IsJournalledAt plan k
journalled_chained plan c zero low = refl
journalled_chained plan c (suc k) low =
    let b : IsBounded plan k = bounded (length (control_commands plan)) (control_epochs plan) k c (omega (arith, low)) in
    subst (IsJournalledAt plan) (add-one k) (journalled_more plan k b (journalled_chained plan c k (omega (arith, low))))

-- in all the device begins the guest's commands and those of each replay
pub journal_chained : (plan : Plan) → AreChained (length (control_commands plan)) (control_epochs plan)
    → length (journal_commands plan) ≡ command_work plan
journal_chained plan c =
    let es : List Epoch = control_epochs plan in
    let every : take (length es) es ≡ es = take_all (length es) es (omega arith) in
    omega (
      arith,
      journalled_chained plan c (length es) (omega arith),
      ap (λ zs. length (flat_map (epoch_commands plan) zs)) every,
      ap (λ zs. length (flat_map (replayed_commands plan) zs)) every,
      c.whole,
    )

pub journalled_is : (plan : Plan) → IsSwitched plan → (k : ℕ) → k ≤ length (control_epochs plan) → IsJournalledAt plan k
journalled_is plan s k low = journalled_chained plan (control_chained plan s) k low

pub journal_many : (plan : Plan) → IsSwitched plan → length (journal_commands plan) ≡ command_work plan
journal_many plan s = journal_chained plan (control_chained plan s)
