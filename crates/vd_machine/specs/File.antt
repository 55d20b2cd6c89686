-- The machine that a file means, and the first rule that it breaks.
use Rattle.std.specs.Prelude.{◌≡◌, ℕ, Bool, true, false, not, ◌==◌, if◌then◌else◌, List, [], ◌∷◌, length, Option, Some, None, option_map, unwrap_or, is_none, is_some, ◌&&◌, ◌||◌, find, ⊤}
use Rattle.std.specs.Str.Lossy.{utf8_valid_len}
use Rattle.toml.specs.Data.{Members}
use Rattle.toml.specs.Parse.{parse_document}
use Rattle.vd_model.specs.declared.base.Mode.{Mode}
use Rattle.vd_model.specs.declared.base.Mode.TheVariants.{Pass}
use Rattle.vd_model.specs.declared.features.Features.{Features}
use Rattle.vd_model.specs.declared.record.Script.{Script}
use Rattle.vd_machine.specs.Commands.{control_of, has_few_commands}
use Rattle.vd_machine.specs.Iovas.{range_of, are_laid}
use Rattle.vd_machine.specs.Keys.{known_keys, complete}
use Rattle.vd_machine.specs.Queues.{most_pieces, all_write_chains, scripts_of, all_lie, few}
use Rattle.vd_machine.specs.Regions.{regions_of}
use Rattle.vd_machine.specs.Rings.{layout_of, size_of, features_of, features_in, window_of}
use Rattle.vd_machine.specs.Switches.{start_of, switches_of}
use Rattle.vd_machine.specs.Types.{typed}
use Rattle.vd_machine.specs.Words.{ring_count, control_count, all_words, are_few_words}
use Rattle.vd_machine.specs.declared.iovas.Iovas.{Iovas}
use Rattle.vd_machine.specs.declared.regions.Region.{Region}
use Rattle.vd_machine.specs.declared.machine.Machine.{Machine}
use Rattle.vd_machine.specs.declared.machine.Switch.{Switch}
use Rattle.vd_machine.specs.declared.machine.MachineFault.{MachineFault}
use Rattle.vd_machine.specs.declared.machine.MachineFault.TheVariants.{M1, M2, M3, M4, M5, M6, M7, M8, M9, M10, M11, M12, M13, M14, M15, M16, M17}
use Rattle.vd_machine.specs.declared.machine.ReadRefusal.{ReadRefusal}
use Rattle.vd_machine.specs.declared.machine.ReadRefusal.TheVariants.{Fault, Memory}

-- the document that bytes write, which are UTF-8 and a text of the grammar of TOML
unfoldable pub document : List ℕ → Option Members
document bytes = if utf8_valid_len bytes == length bytes then parse_document bytes else None

-- a machine as plain data
pub record Plan : Type 0 where
  pub packed : Bool
  pub size : ℕ
  pub features : Features
  pub window : ℕ
  pub start : Mode
  pub first : ℕ
  pub last : ℕ
  pub regions : List Region
  pub queues : List Script
  pub switches : List Switch
  pub control : Option Script

-- what a machine holds
abbrev pub view : Machine → Plan
view m = record {
  packed = m.packed;
  size = m.size;
  features = m.features;
  window = m.window;
  start = m.start;
  first = m.first;
  last = m.last;
  regions = m.regions;
  queues = m.queues;
  switches = m.switches;
  control = m.control;
}

-- the parts of the machine that a document means, where it keeps the rules; else they mean nothing

-- whether the layout is packed
abbrev pub packed_in : Members → Bool
packed_in ms = unwrap_or (layout_of ms) false

-- the size
abbrev pub size_in : Members → ℕ
size_in ms = unwrap_or (size_of (packed_in ms) ms) 0

-- the features
abbrev pub features_or_none : Members → Features
features_or_none ms = unwrap_or (features_of ms) (features_in [])

-- how many pieces a chain may have
abbrev pub most_in : Members → ℕ
most_in ms = most_pieces (features_or_none ms) (size_in ms)

-- the mode at the start
abbrev pub start_in : Members → Mode
start_in ms = unwrap_or (start_of ms) Pass

-- the regions
abbrev pub regions_in : Members → List Region
regions_in ms = unwrap_or (regions_of ms) []

-- the scripts
abbrev pub scripts_in : Members → List Script
scripts_in ms = unwrap_or (scripts_of (most_in ms) ms) []

-- the switches
abbrev pub switches_in : Members → List Switch
switches_in ms = unwrap_or (switches_of ms) []

-- the control queue, where there is one
abbrev pub control_in : Members → Option Script
control_in ms = unwrap_or (control_of ms) None

-- the range of iovas
abbrev pub iovas_in : Members → Iovas
iovas_in ms = unwrap_or (range_of ms) (record { first = 0; last = 0 })

-- it is lawful, and each region finds a place in it
abbrev pub has_iovas : Members → Bool
has_iovas ms = is_some (range_of ms) && are_laid (iovas_in ms).first (iovas_in ms).last (regions_in ms)

-- its rings have no more words than there may be
abbrev pub has_few_words : Members → Bool
has_few_words ms = are_few_words (all_words (packed_in ms) (size_in ms) (features_or_none ms)
    (ring_count (start_in ms) (switches_in ms) (length (scripts_in ms)))
    (control_count (is_some (control_in ms)) (switches_in ms)))

-- the machine that a document means
unfoldable pub plan : Members → Plan
plan ms = record {
  packed = packed_in ms;
  size = size_in ms;
  features = features_or_none ms;
  window = unwrap_or (window_of ms) 0;
  start = start_in ms;
  first = (iovas_in ms).first;
  last = (iovas_in ms).last;
  regions = regions_in ms;
  queues = scripts_in ms;
  switches = switches_in ms;
  control = control_in ms;
}

-- whether a document breaks a rule
abbrev pub breaks : Members → MachineFault → Bool
breaks ms M1 = false
breaks ms M2 = not (known_keys ms)
breaks ms M3 = not (complete ms)
breaks ms M4 = not (typed ms)
breaks ms M5 = is_none (layout_of ms) || is_none (start_of ms)
breaks ms M6 = is_none (size_of (packed_in ms) ms)
breaks ms M7 = is_none (features_of ms)
breaks ms M8 = is_none (window_of ms)
breaks ms M9 = is_none (regions_of ms)
breaks ms M10 = not (all_write_chains ms)
breaks ms M11 = is_none (scripts_of (most_in ms) ms)
breaks ms M12 = not (all_lie (regions_in ms) (scripts_in ms))
breaks ms M13 = not (few (scripts_in ms) && has_few_commands ms)
breaks ms M14 = is_none (switches_of ms)
breaks ms M15 = is_none (control_of ms)
breaks ms M16 = not (has_iovas ms)
breaks ms M17 = not (has_few_words ms)

-- the rules in their order
abbrev pub rules : List MachineFault
rules = M1 ∷ M2 ∷ M3 ∷ M4 ∷ M5 ∷ M6 ∷ M7 ∷ M8 ∷ M9 ∷ M10 ∷ M11 ∷ M12 ∷ M13 ∷ M14 ∷ M15 ∷ M16 ∷ M17 ∷ []

-- the first rule that a document breaks
unfoldable pub first_in : Members → Option MachineFault
first_in ms = find (breaks ms) rules

-- the first rule is broken where there is no document
abbrev pub is_broken_in : Option Members → MachineFault → Bool
is_broken_in None M1 = true
is_broken_in None _ = false
is_broken_in (Some ms) rule = breaks ms rule

-- the first rule that the bytes break
unfoldable pub first : List ℕ → Option MachineFault
first bytes = find (is_broken_in (document bytes)) rules

-- the machine that the bytes mean
unfoldable pub means : List ℕ → Option Plan
means bytes = option_map plan (document bytes)

-- the rule that a machine's own text breaks: none, but until a play takes commands a file has no key for a control queue
abbrev pub broken_by_key : Option Script → Option MachineFault
broken_by_key None = None
broken_by_key (Some q) = Some M2

-- why no machine was read: the first broken rule, or want of memory
abbrev pub Refuses : Option MachineFault → ReadRefusal → Type 0
Refuses broken (Fault rule) = broken ≡ Some rule
Refuses broken Memory = ⊤

-- why no document was read
abbrev pub ReadsTable : Option Members → ReadRefusal → Type 0
ReadsTable doc (Fault M1) = doc ≡ None
ReadsTable doc (Fault _) = ⊥
ReadsTable doc Memory = ⊤
