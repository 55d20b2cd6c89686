-- Of which types the values of a machine file are.
use Rattle.std.specs.Prelude.{ℕ, Bool, true, false, ◌&&◌, List, codes, is_some}
use Rattle.std.specs.List.{list_all}
use Rattle.std.specs.Option.{option_map_or}
use Rattle.toml.specs.Data.{Data, Members, get_member, as_integer, as_str, as_array, as_table}
use Rattle.vd_machine.specs.Lookup.{items_at, list_in}

-- what stands at a key, if anything does, is a whole number
abbrev pub is_number_at : List ℕ → Members → Bool
is_number_at key ms = option_map_or (λ d. is_some (as_integer d)) (get_member key ms) true

-- or a text
abbrev pub is_text_at : List ℕ → Members → Bool
is_text_at key ms = option_map_or (λ d. is_some (as_str d)) (get_member key ms) true

-- or a list
abbrev pub is_list_at : List ℕ → Members → Bool
is_list_at key ms = option_map_or (λ d. is_some (as_array d)) (get_member key ms) true

-- a table of whole numbers
abbrev pub region_is_typed : Data → Bool
region_is_typed d = option_map_or (λ t. is_number_at (codes "addr") t && is_number_at (codes "size") t) (as_table d) false

-- a table of a whole number and a text
abbrev pub switch_is_typed : Data → Bool
switch_is_typed d = option_map_or (λ t. is_number_at (codes "after") t && is_text_at (codes "to") t) (as_table d) false

-- a value is a text
abbrev pub is_text : Data → Bool
is_text d = is_some (as_str d)

-- a list of texts
abbrev pub queue_is_typed : Data → Bool
queue_is_typed d = option_map_or (list_all is_text) (list_in d) false

-- the values of the file itself
abbrev pub file_is_typed : Members → Bool
file_is_typed ms = (((((((((is_text_at (codes "layout") ms && is_number_at (codes "size") ms) && is_list_at (codes "features") ms)
    && is_number_at (codes "window") ms) && is_text_at (codes "start") ms) && is_number_at (codes "iova_first") ms)
    && is_number_at (codes "iova_last") ms) && is_list_at (codes "regions") ms) && is_list_at (codes "queues") ms)
    && is_list_at (codes "switches") ms) && is_list_at (codes "commands") ms

-- each feature is a text
abbrev pub features_are_typed : Members → Bool
features_are_typed ms = list_all is_text (items_at (codes "features") ms)

-- each region is such a table
abbrev pub regions_are_typed : Members → Bool
regions_are_typed ms = list_all region_is_typed (items_at (codes "regions") ms)

-- each queue is such a list
abbrev pub queues_are_typed : Members → Bool
queues_are_typed ms = list_all queue_is_typed (items_at (codes "queues") ms)

-- each switch is such a table
abbrev pub switches_are_typed : Members → Bool
switches_are_typed ms = list_all switch_is_typed (items_at (codes "switches") ms)

-- each command is a text
abbrev pub commands_are_typed : Members → Bool
commands_are_typed ms = list_all is_text (items_at (codes "commands") ms)

-- each value has its type
unfoldable pub typed : Members → Bool
typed ms = ((((file_is_typed ms && features_are_typed ms) && regions_are_typed ms) && queues_are_typed ms) && switches_are_typed ms)
    && commands_are_typed ms
