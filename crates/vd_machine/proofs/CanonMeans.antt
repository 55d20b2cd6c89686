-- The document of a machine is read as that machine.
use Rattle.std.proofs.Common.{◌≡◌, ℕ, Bool, true, false, List, [], ◌∷◌, length, map, Option, Some, None, is_some, refl, ap, sym, ◌∙◌}
use Rattle.std.specs.List.{list_all}
use Rattle.std.proofs.lemmas.Bool.{and_parts}
use Rattle.toml.specs.Data.{string}
use Rattle.vd_model.specs.declared.base.Mode.{Mode}
use Rattle.vd_model.specs.declared.base.Mode.TheVariants as mode
use Rattle.vd_model.specs.declared.record.Run.{Run}
use Rattle.vd_model.specs.declared.record.Script.{Script}
use Rattle.vd_text.proofs.Canonical.{run_back, run_within_back}
use Rattle.vd_machine.specs.Canon.{feature_names}
use Rattle.vd_machine.specs.Commands.{is_lawful_control}
use Rattle.vd_machine.specs.File.{Plan}
use Rattle.vd_machine.specs.Iovas.{is_range, range_of, are_laid}
use Rattle.vd_machine.specs.Keys.{known_keys, complete, if_table, region_has_known_keys, region_is_complete, switch_has_known_keys, switch_is_complete}
use Rattle.vd_machine.specs.Queues.{most_pieces, writes_chain, queue_writes_chains, all_write_chains, run_of, script_of, scripts_of, all_lie, few}
use Rattle.vd_machine.specs.Regions.{are_regions, region_of, regions_of}
use Rattle.vd_machine.specs.Rings.{is_lawful_size, is_window, layout_of, size_of, features_of, if_features, window_of}
use Rattle.vd_machine.specs.Switches.{start_of, switch_of, is_switch, are_in_order, are_switches, switches_of}
use Rattle.vd_machine.specs.Types.{is_text, queue_is_typed, region_is_typed, switch_is_typed, typed}
use Rattle.vd_machine.specs.Words.{ring_count, control_count, all_words, are_few_words}
use Rattle.vd_machine.specs.declared.regions.Region.{Region}
use Rattle.vd_machine.proofs.CanonBack.{run_data, queue_data, uncontrolled, sorted}
use Rattle.vd_machine.proofs.CanonControl.{command_data, with_control, unseen, control_back, few_back}
use Rattle.vd_machine.proofs.CanonSwitches.{switch_data, switch_back}
use Rattle.vd_machine.proofs.CanonValues.{list_from, all_pass, all_pass_where, each_back, nothing_in, region_data}
use Rattle.vd_machine.proofs.Rules.{IsRead}
use Rattle.vd_machine.proofs.Fitting.{fits_run, fits_script, run_parts, script_parts}

-- the facts that a machine keeps
pub record Keeps (p : Plan) : Type 0 where
  pub sized : is_lawful_size p.packed p.size ≡ true
  pub windowed : is_window p.window ≡ true
  pub placed : are_regions p.regions ≡ true
  pub fitted : list_all (fits_script (most_pieces p.features p.size)) p.queues ≡ true
  pub inside : all_lie p.regions p.queues ≡ true
  pub counted : few p.queues ≡ true
  pub ranged : is_range p.first p.last ≡ true
  pub laid : are_laid p.first p.last p.regions ≡ true
  pub switched : are_switches p.switches ≡ true
  pub controlled : is_lawful_control p.control ≡ true
  pub worded : are_few_words (all_words p.packed p.size p.features (ring_count p.start p.switches (length p.queues))
      (control_count (is_some p.control) p.switches)) ≡ true

-- the parts of the machine

layout_back : (p : Plan) (b : Bool) → p.packed ≡ b → layout_of (sorted p) ≡ Some p.packed
unfolding layout_of
layout_back p true e = unseen layout_of (λ d ms. refl) p.control (uncontrolled p) ∙ rw e refl
layout_back p false e = unseen layout_of (λ d ms. refl) p.control (uncontrolled p) ∙ rw e refl

size_back : (p : Plan) → Keeps p → size_of p.packed (sorted p) ≡ Some p.size
unfolding size_of
size_back p h = unseen (size_of p.packed) (λ d ms. refl) p.control (uncontrolled p) ∙ rw h.sized refl

features_back_by : (a b c : Bool) → if_features (map string (feature_names (record { indirect = a; event_idx = b; in_order = c })))
    ≡ Some (record { indirect = a; event_idx = b; in_order = c })
features_back_by true true true = refl
features_back_by true true false = refl
features_back_by true false true = refl
features_back_by true false false = refl
features_back_by false true true = refl
features_back_by false true false = refl
features_back_by false false true = refl
features_back_by false false false = refl

features_back : (p : Plan) → features_of (sorted p) ≡ Some p.features
unfolding features_of
features_back p =
    unseen features_of (λ d ms. refl) p.control (uncontrolled p)
    ∙ rw (list_from (map string (feature_names p.features))) (features_back_by p.features.indirect p.features.event_idx p.features.in_order)

window_back : (p : Plan) → Keeps p → window_of (sorted p) ≡ Some p.window
unfolding window_of
window_back p h = unseen window_of (λ d ms. refl) p.control (uncontrolled p) ∙ rw h.windowed refl

start_back : (p : Plan) (m : Mode) → p.start ≡ m → start_of (sorted p) ≡ Some p.start
unfolding start_of
start_back p mode.Pass e = unseen start_of (λ d ms. refl) p.control (uncontrolled p) ∙ rw e refl
start_back p mode.Shadow e = unseen start_of (λ d ms. refl) p.control (uncontrolled p) ∙ rw e refl

range_back : (p : Plan) → Keeps p → range_of (sorted p) ≡ Some (record { first = p.first; last = p.last })
unfolding range_of
range_back p h = unseen range_of (λ d ms. refl) p.control (uncontrolled p) ∙ rw h.ranged refl

region_back : (r : Region) → true ≡ true → region_of (region_data r) ≡ Some r
region_back r h = refl

always : {A : Type 0} (xs : List A) → list_all (λ x. true) xs ≡ true
always [] = refl
always (x ∷ xs) = always xs

regions_back : (p : Plan) → Keeps p → regions_of (sorted p) ≡ Some p.regions
unfolding regions_of
regions_back p h =
    unseen regions_of (λ d ms. refl) p.control (uncontrolled p) ∙ rw (
      list_from (map region_data p.regions),
      each_back region_of region_data (λ r. true) region_back p.regions (always p.regions),
      h.placed,
    ) refl

switches_back : (p : Plan) → Keeps p → switches_of (sorted p) ≡ Some p.switches
unfolding switches_of
switches_back p h =
    let parts = and_parts (are_in_order p.switches) (list_all is_switch p.switches) h.switched in
    unseen switches_of (λ d ms. refl) p.control (uncontrolled p) ∙ rw (
      list_from (map switch_data p.switches),
      each_back switch_of switch_data is_switch switch_back p.switches parts.1,
      parts.0,
    ) refl

run_data_back : (most : ℕ) (r : Run) → fits_run most r ≡ true → run_of most (run_data r) ≡ Some r
run_data_back most r h =
    let parts = run_parts most r h in run_within_back most r parts.once parts.count parts.some parts.pieces parts.first parts.within

queue_data_back : (most : ℕ) (q : Script) → fits_script most q ≡ true → script_of most (queue_data q) ≡ Some q
queue_data_back most q h =
    let parts = script_parts most q h in
    rw (list_from (map run_data q.runs), each_back (run_of most) run_data (fits_run most) (run_data_back most) q.runs parts.1)
    (ap (λ cs. Some (record { runs = q.runs; commands = cs })) (sym (nothing_in q.commands parts.0)))

scripts_back : (most : ℕ) (p : Plan) → list_all (fits_script most) p.queues ≡ true → scripts_of most (sorted p) ≡ Some p.queues
unfolding scripts_of
scripts_back most p h =
    unseen (scripts_of most) (λ d ms. refl) p.control (uncontrolled p)
    ∙ rw (list_from (map queue_data p.queues))
    (each_back (script_of most) queue_data (fits_script most) (queue_data_back most) p.queues h)

-- the rules

pub known : (p : Plan) → p.control ≡ None → known_keys (sorted p) ≡ true
unfolding known_keys
known p none =
    rw (
      none,
      list_from (map region_data p.regions),
      all_pass region_data (if_table region_has_known_keys) (λ r. refl) p.regions,
      list_from (map switch_data p.switches),
      all_pass switch_data (if_table switch_has_known_keys) (λ s. refl) p.switches,
    ) refl

pub unknown : (p : Plan) (q : Script) → p.control ≡ Some q → known_keys (sorted p) ≡ false
unfolding known_keys
unknown p q is = rw is refl

is_complete : (p : Plan) → complete (sorted p) ≡ true
unfolding complete
is_complete p =
    unseen complete (λ d ms. refl) p.control (uncontrolled p) ∙ rw (
      list_from (map region_data p.regions),
      all_pass region_data (if_table region_is_complete) (λ r. refl) p.regions,
      list_from (map switch_data p.switches),
      all_pass switch_data (if_table switch_is_complete) (λ s. refl) p.switches,
    ) refl

queue_typed : (q : Script) → queue_is_typed (queue_data q) ≡ true
queue_typed q = rw (list_from (map run_data q.runs)) (all_pass run_data is_text (λ r. refl) q.runs)

is_typed : (p : Plan) (o : Option Script) → typed (with_control o (uncontrolled p)) ≡ true
unfolding typed
is_typed p None =
    rw (
      list_from (map string (feature_names p.features)),
      all_pass string is_text (λ s. refl) (feature_names p.features),
      list_from (map region_data p.regions),
      all_pass region_data region_is_typed (λ r. refl) p.regions,
      list_from (map queue_data p.queues),
      all_pass queue_data queue_is_typed queue_typed p.queues,
      list_from (map switch_data p.switches),
      all_pass switch_data switch_is_typed (λ s. refl) p.switches,
    ) refl
is_typed p (Some q) =
    rw (
      list_from (map string (feature_names p.features)),
      all_pass string is_text (λ s. refl) (feature_names p.features),
      list_from (map region_data p.regions),
      all_pass region_data region_is_typed (λ r. refl) p.regions,
      list_from (map queue_data p.queues),
      all_pass queue_data queue_is_typed queue_typed p.queues,
      list_from (map switch_data p.switches),
      all_pass switch_data switch_is_typed (λ s. refl) p.switches,
      list_from (map command_data q.commands),
      all_pass command_data is_text (λ c. refl) q.commands,
    ) refl

run_writes : (most : ℕ) (r : Run) → fits_run most r ≡ true → writes_chain (run_data r) ≡ true
run_writes most r h =
    let parts = run_parts most r h in
    ap is_some (run_back r parts.once parts.count parts.some parts.pieces parts.first)

queue_writes : (most : ℕ) (q : Script) → fits_script most q ≡ true → queue_writes_chains (queue_data q) ≡ true
queue_writes most q h =
    rw (list_from (map run_data q.runs))
    (all_pass_where run_data writes_chain (fits_run most) (run_writes most) q.runs (script_parts most q h).1)

all_write : (most : ℕ) (p : Plan) → list_all (fits_script most) p.queues ≡ true → all_write_chains (sorted p) ≡ true
unfolding all_write_chains
all_write most p h =
    unseen all_write_chains (λ d ms. refl) p.control (uncontrolled p) ∙ rw (list_from (map queue_data p.queues))
    (all_pass_where queue_data queue_writes_chains (fits_script most) (queue_writes most) p.queues h)

pub sorted_is_read : (p : Plan) → Keeps p → IsRead (sorted p) p
sorted_is_read p h = record {
  whole = is_complete p;
  types = is_typed p p.control;
  layout = layout_back p p.packed refl;
  start = start_back p p.start refl;
  size = size_back p h;
  features = features_back p;
  window = window_back p h;
  regions = regions_back p h;
  chains = all_write (most_pieces p.features p.size) p h.fitted;
  queues = scripts_back (most_pieces p.features p.size) p h.fitted;
  inside = h.inside;
  counted = h.counted;
  commands = few_back p.control (uncontrolled p) refl h.controlled;
  switches = switches_back p h;
  control = control_back p.control (uncontrolled p) refl h.controlled;
  range = range_back p h;
  laid = h.laid;
  worded = h.worded;
}
