-- The canonical text is read as the document of its machine.
use Rattle.std.proofs.Common.{◌≡◌, ℕ, suc, ◌^◌, ◌<◌, Bool, true, false, List, [], ◌∷◌, ◌++◌, length, map, codes, pos, Option, Some, None, option_map, refl, ap, sym, ◌∙◌, arith, FitsSigned}
use Rattle.std.specs.Int.{w64}
use Rattle.std.specs.List.{list_all}
use Rattle.std.proofs.lemmas.Int.{fits_signed_from_abs}
use Rattle.toml.specs.Data.{Data, string, integer, array, Members, no_members, member}
use Rattle.toml.specs.Tables.{Expression, key_value, Document, no_nodes, close, define, along_header, along_dots, at_key}
use Rattle.toml.specs.Text.{IsLinesText, IsValueText}
use Rattle.toml.specs.Parse.{parse_document, skip_bom}
use Rattle.toml.proofs.ReadLines.{read_lines, run, AllPrinted}
use Rattle.toml_writer.specs.Text.{key_text}
use Rattle.vd_model.specs.declared.features.Features.{Features}
use Rattle.vd_model.specs.declared.record.Run.{Run}
use Rattle.vd_model.specs.declared.record.Script.{Script}
use Rattle.vd_text.specs.Canonical.{run_text}
use Rattle.vd_text.specs.Commands.{command_text}
use Rattle.vd_machine.specs.Canon.{quoted, list_text, layout_name, feature_names, region_text, queue_text, mode_name, switch_text, line, lines_text, control_entries, entries, canon}
use Rattle.vd_machine.specs.Commands.{is_lawful_control}
use Rattle.vd_machine.specs.File.{Plan}
use Rattle.vd_machine.specs.declared.regions.Region.{Region}
use Rattle.vd_machine.proofs.CanonControl.{command_data, control_values, with_control, commands_value}
use Rattle.vd_machine.proofs.CanonStrings.{is_plain, run_is_plain}
use Rattle.vd_machine.proofs.Fitting.{fits_run, fits_script, run_parts, script_parts, region_fits}
use Rattle.vd_machine.specs.Queues.{most_pieces}
use Rattle.vd_machine.specs.Regions.{is_region}
use Rattle.vd_machine.specs.Switches.{is_switch}
use Rattle.vd_machine.proofs.CanonSwitches.{switch_data, switch_value, shallow_switch, mode_value}
use Rattle.vd_machine.proofs.CanonValues.{items_from, string_value, number_value, list_value, IsShallow, shallow_list, region_data, region_value}

abbrev pub features_data : Features → Data
features_data f = array (items_from (map string (feature_names f)))

abbrev pub run_data : Run → Data
run_data r = string (run_text r)

abbrev pub queue_data : Script → Data
queue_data q = array (items_from (map run_data q.runs))

-- the keys of a machine and their values, in the order of the text
abbrev values_with : Plan → Option Script → List (List ℕ × Data)
values_with p o =
    (codes "layout", string (layout_name p.packed)) ∷ (codes "size", integer (pos p.size)) ∷ (codes "features", features_data p.features)
    ∷ (codes "window", integer (pos p.window)) ∷ (codes "start", string (mode_name p.start)) ∷ (codes "iova_first", integer (pos p.first))
    ∷ (codes "iova_last", integer (pos p.last)) ∷ (codes "regions", array (items_from (map region_data p.regions)))
    ∷ (codes "queues", array (items_from (map queue_data p.queues)))
    ∷ (codes "switches", array (items_from (map switch_data p.switches))) ∷ control_values o

abbrev values : Plan → List (List ℕ × Data)
values p = values_with p p.control

-- the keys but that of the control queue, in the order of a table
abbrev pub uncontrolled : Plan → Members
uncontrolled p =
    member (codes "features") (features_data p.features) (member (codes "iova_first") (integer (pos p.first))
    (member (codes "iova_last") (integer (pos p.last)) (member (codes "layout") (string (layout_name p.packed))
    (member (codes "queues") (array (items_from (map queue_data p.queues)))
    (member (codes "regions") (array (items_from (map region_data p.regions)))
    (member (codes "size") (integer (pos p.size)) (member (codes "start") (string (mode_name p.start))
    (member (codes "switches") (array (items_from (map switch_data p.switches)))
    (member (codes "window") (integer (pos p.window)) no_members)))))))))

-- its document, the keys in the order of a table
abbrev pub sorted : Plan → Members
sorted p = with_control p.control (uncontrolled p)

-- what a machine that is written keeps
pub record Fits (p : Plan) : Type 0 where
  pub size : p.size < 2 ^ 63
  pub window : p.window < 2 ^ 63
  pub first : p.first < 2 ^ 63
  pub last : p.last < 2 ^ 63
  pub regions : list_all is_region p.regions ≡ true
  pub queues : list_all (fits_script (most_pieces p.features p.size)) p.queues ≡ true
  pub switches : list_all is_switch p.switches ≡ true
  pub control : is_lawful_control p.control ≡ true

fits : (n : ℕ) → n < 2 ^ 63 → FitsSigned w64 (pos n)
fits n h = fits_signed_from_abs w64 (pos n) h

layout_value : (b : Bool) → IsValueText false (string (layout_name b)) (quoted (layout_name b))
layout_value true = string_value (codes "packed") refl
layout_value false = string_value (codes "split") refl

all_plain : (a b c : Bool) → list_all (list_all is_plain) (feature_names (record { indirect = a; event_idx = b; in_order = c })) ≡ true
all_plain true true true = refl
all_plain true true false = refl
all_plain true false true = refl
all_plain true false false = refl
all_plain false true true = refl
all_plain false true false = refl
all_plain false false true = refl
all_plain false false false = refl

features_value : (f : Features) → IsValueText false (features_data f) (list_text (map quoted (feature_names f)))
features_value f = list_value string quoted (list_all is_plain) string_value (feature_names f) (all_plain f.indirect f.event_idx f.in_order)

region_is_text : (r : Region) → is_region r ≡ true → IsValueText false (region_data r) (region_text r)
region_is_text r h =
    let parts = region_fits r h in
    region_value r (fits r.addr (omega (arith, parts.0, parts.1))) (fits r.size (omega (arith, parts.2)))

run_is_text : (most : ℕ) (r : Run) → fits_run most r ≡ true → IsValueText false (run_data r) (quoted (run_text r))
run_is_text most r h =
    let parts = run_parts most r h in
    string_value (run_text r) (run_is_plain r parts.count parts.pieces)

queue_is_text : (most : ℕ) (q : Script) → fits_script most q ≡ true → IsValueText false (queue_data q) (queue_text q)
queue_is_text most q h =
    list_value run_data (λ (r : Run). quoted (run_text r)) (fits_run most) (run_is_text most) q.runs (script_parts most q h).1

abbrev expressions_of : List (List ℕ × Data) → List Expression
expressions_of [] = []
expressions_of (e ∷ es) = (([], e.0), key_value e.1) ∷ expressions_of es

-- each key is bare, and each text writes its value
abbrev AreTexts : List (List ℕ × Data) → List (List ℕ × List ℕ) → Type 0
AreTexts [] [] = Unit {0}
AreTexts (v ∷ vs) (e ∷ es) = (key_text v.0 ≡ e.0) × IsValueText false v.1 e.1 × AreTexts vs es
AreTexts _ _ = ⊥

lines_by : (start : Bool) (vs : List (List ℕ × Data)) (es : List (List ℕ × List ℕ)) → AreTexts vs es
    → IsLinesText false start (expressions_of vs) (lines_text es)
lines_by start [] [] h = refl
lines_by start (v ∷ vs) [] h = absurd h
lines_by start [] (e ∷ es) h = absurd h
lines_by start (v ∷ vs) (e ∷ es) h =
    let bare = ap (λ (k : List ℕ). k ++ (codes " = " ++ (e.1 ++ 10 ∷ []))) (sym h.0) in
    (line e.0 e.1, lines_text es, refl, (e.1, bare, h.1), lines_by true vs es h.2)

control_is_text : (o : Option Script) → is_lawful_control o ≡ true → AreTexts (control_values o) (control_entries o)
unfolding key_text
control_is_text None h = tt
control_is_text (Some q) h = (refl, commands_value q h, tt)

lines_are_text : (p : Plan) → Fits p → IsLinesText false false (expressions_of (values p)) (canon p)
unfolding canon key_text
lines_are_text p h =
    lines_by false (values p) (entries p) (
      refl,
      layout_value p.packed,
      (
        refl,
        number_value p.size (fits p.size h.size),
        (
          refl,
          features_value p.features,
          (
            refl,
            number_value p.window (fits p.window h.window),
            (
              refl,
              mode_value p.start,
              (
                refl,
                number_value p.first (fits p.first h.first),
                (
                  refl,
                  number_value p.last (fits p.last h.last),
                  (
                    refl,
                    list_value region_data region_text is_region region_is_text p.regions h.regions,
                    (
                      refl,
                      list_value queue_data queue_text (fits_script most) (queue_is_text most) p.queues h.queues,
                      (
                        refl,
                        list_value switch_data switch_text is_switch switch_value p.switches h.switches,
                        control_is_text p.control h.control,
                      ),
                    ),
                  ),
                ),
              ),
            ),
          ),
        ),
      ),
    )
  where
    most : ℕ
    most = most_pieces p.features p.size

-- no value is deeper than lists of lists, and none is a date

shallow_string : (s : List ℕ) → IsShallow 0 (string s)
shallow_string s = record { depth = omega arith; dates = refl }

shallow_region : (r : Region) → IsShallow 1 (region_data r)
shallow_region r = record { depth = omega arith; dates = refl }

shallow_queue : (q : Script) → IsShallow 1 (queue_data q)
shallow_queue q = shallow_list run_data 0 (λ r. shallow_string (run_text r)) q.runs

control_printed : (o : Option Script) → AllPrinted (expressions_of (control_values o))
control_printed None = tt
control_printed (Some q) =
    let commands = shallow_list command_data 0 (λ c. shallow_string (command_text c.items)) q.commands in
    ((refl, omega (arith, commands.depth), commands.dates), tt)

all_printed : (p : Plan) → AllPrinted (expressions_of (values p))
all_printed p =
    let features = shallow_list string 0 shallow_string (feature_names p.features) in
    let regions = shallow_list region_data 1 shallow_region p.regions in
    let queues = shallow_list queue_data 1 shallow_queue p.queues in
    let switches = shallow_list switch_data 1 shallow_switch p.switches in (
      (refl, omega arith, refl),
      (
        (refl, omega arith, refl),
        (
          (refl, omega (arith, features.depth), features.dates),
          (
            (refl, omega arith, refl),
            (
              (refl, omega arith, refl),
              (
                (refl, omega arith, refl),
                (
                  (refl, omega arith, refl),
                  (
                    (refl, omega (arith, regions.depth), regions.dates),
                    (
                      (refl, omega (arith, queues.depth), queues.dates),
                      ((refl, omega (arith, switches.depth), switches.dates), control_printed p.control),
                    ),
                  ),
                ),
              ),
            ),
          ),
        ),
      ),
    )

run_entries : (p : Plan) (o : Option Script)
    → option_map (λ (doc : Document). close doc.0) (run (no_nodes, []) (expressions_of (values_with p o))) ≡ Some (with_control o (uncontrolled p))
unfolding define along_header along_dots at_key
run_entries p None = refl
run_entries p (Some q) = refl

no_bom : (p : Plan) → skip_bom (canon p) ≡ canon p
unfolding skip_bom canon
no_bom p = refl

pub reads : (p : Plan) → Fits p → parse_document (canon p) ≡ Some (sorted p)
unfolding parse_document
reads p h =
    rw (no_bom p)
    (ap (option_map (λ (doc : Document). close doc.0))
    (read_lines false false (expressions_of (values p)) (canon p) (canon p) (no_nodes, []) (suc (length (canon p))) (lines_are_text p h)
    (all_printed p) refl (omega arith)) ∙ run_entries p p.control)
