-- The canonical text of a machine: one line for each key, in this order.
use Rattle.std.specs.Prelude.{ℕ, Bool, if◌then◌else◌, Option, Some, None, List, [], ◌∷◌, ◌++◌, map, codes, decimal}
use Rattle.arrayvec.specs.ArrayVec.{ArrayVec}
use Rattle.vd_model.specs.declared.base.Mode.{Mode}
use Rattle.vd_model.specs.declared.base.Mode.TheVariants as mode
use Rattle.vd_model.specs.declared.features.Features.{Features}
use Rattle.vd_model.specs.declared.record.Run.{Run}
use Rattle.vd_model.specs.declared.record.Script.{Script}
use Rattle.vd_text.specs.Canonical.{run_text}
use Rattle.vd_text.specs.Commands.{command_text}
use Rattle.vd_machine.specs.File.{Plan}
use Rattle.vd_machine.specs.declared.machine.Switch.{Switch}
use Rattle.vd_machine.specs.declared.machine.To.{To}
use Rattle.vd_machine.specs.declared.machine.To.TheVariants as to
use Rattle.vd_machine.specs.declared.regions.Region.{Region}

-- a text in quotes
abbrev pub quoted : List ℕ → List ℕ
quoted t = 34 ∷ (t ++ 34 ∷ [])

-- the items behind the first, each with `, ` before it
abbrev pub more_items : List (List ℕ) → List ℕ
more_items [] = []
more_items (t ∷ ts) = codes ", " ++ (t ++ more_items ts)

-- items with `, ` between
abbrev pub items_text : List (List ℕ) → List ℕ
items_text [] = []
items_text (t ∷ ts) = t ++ more_items ts

-- a list in brackets
abbrev pub list_text : List (List ℕ) → List ℕ
list_text ts = codes "[" ++ (items_text ts ++ codes "]")

-- the name of a layout
abbrev pub layout_name : Bool → List ℕ
layout_name packed = if packed then codes "packed" else codes "split"

-- the name of a mode
abbrev pub mode_name : Mode → List ℕ
mode_name mode.Pass = codes "pass"
mode_name mode.Shadow = codes "shadow"

-- the name of a switch's end
abbrev pub to_name : To → List ℕ
to_name to.Pass = codes "pass"
to_name to.Shadow = codes "shadow"
to_name to.Renew = codes "renew"

-- a name where it is on
abbrev pub if_on : Bool → List ℕ → List (List ℕ)
if_on on name = if on then name ∷ [] else []

-- the names of the features that are on
abbrev pub feature_names : Features → List (List ℕ)
feature_names f = if_on f.indirect (codes "indirect") ++ (if_on f.event_idx (codes "event_idx") ++ if_on f.in_order (codes "in_order"))

-- a region with its address and its size
abbrev pub region_text : Region → List ℕ
region_text r = codes "{ addr = " ++ (decimal r.addr ++ (codes ", size = " ++ (decimal r.size ++ codes " }")))

-- the chain texts of a queue
abbrev pub queue_text : Script → List ℕ
queue_text q = list_text (map (λ (r : Run). quoted (run_text r)) q.runs)

-- the text of a command
abbrev pub command_item : ArrayVec ℕ → List ℕ
command_item c = quoted (command_text c.items)

-- a switch with its count and its name
abbrev pub switch_text : Switch → List ℕ
switch_text s = codes "{ after = " ++ (decimal s.after ++ (codes ", to = " ++ (quoted (to_name s.to) ++ codes " }")))

-- a key and its value
abbrev pub line : List ℕ → List ℕ → List ℕ
line key value = key ++ (codes " = " ++ (value ++ codes "\n"))

-- a line for each key
abbrev pub lines_text : List (List ℕ × List ℕ) → List ℕ
lines_text [] = []
lines_text (e ∷ es) = line e.0 e.1 ++ lines_text es

-- the key of the control queue, where there is one
abbrev pub control_entries : Option Script → List (List ℕ × List ℕ)
control_entries None = []
control_entries (Some q) = (codes "commands", list_text (map command_item q.commands)) ∷ []

-- the keys and their values
abbrev pub entries : Plan → List (List ℕ × List ℕ)
entries p =
    (codes "layout", quoted (layout_name p.packed)) ∷ (codes "size", decimal p.size)
    ∷ (codes "features", list_text (map quoted (feature_names p.features))) ∷ (codes "window", decimal p.window)
    ∷ (codes "start", quoted (mode_name p.start)) ∷ (codes "iova_first", decimal p.first) ∷ (codes "iova_last", decimal p.last)
    ∷ (codes "regions", list_text (map region_text p.regions)) ∷ (codes "queues", list_text (map queue_text p.queues))
    ∷ (codes "switches", list_text (map switch_text p.switches)) ∷ control_entries p.control

-- the canonical text
unfoldable pub canon : Plan → List ℕ
canon p = lines_text (entries p)
