-- What stands where in a document of TOML.
use Rattle.std.specs.Prelude.{ℕ, ℤ, pos, negsuc, Bool, List, [], ◌∷◌, Option, Some, None, option_and_then, option_map, unwrap_or, is_some, if◌then◌else◌}
use Rattle.toml.specs.Data.{Data, Items, no_items, item, Members, no_members, member, get_member, as_integer, as_str, as_array}

-- the items of an array in order
abbrev pub list_of : Items → List Data
list_of no_items = []
list_of (item d ds) = d ∷ list_of ds

-- the keys of a table
abbrev pub names_of : Members → List (List ℕ)
names_of no_members = []
names_of (member k d ms) = k ∷ names_of ms

-- a whole number that is not negative
abbrev pub natural : ℤ → Option ℕ
natural (pos n) = Some n
natural (negsuc n) = None

-- that number at a key
abbrev pub natural_at : List ℕ → Members → Option ℕ
natural_at key ms = option_and_then natural (option_and_then as_integer (get_member key ms))

-- the text at a key
abbrev pub text_at : List ℕ → Members → Option (List ℕ)
text_at key ms = option_and_then as_str (get_member key ms)

-- the items of a value that is an array
abbrev pub list_in : Data → Option (List Data)
list_in d = option_map list_of (as_array d)

-- the items of the array at a key, and none where no array is there
abbrev pub items_at : List ℕ → Members → List Data
items_at key ms = unwrap_or (option_and_then list_in (get_member key ms)) []

-- the key is there
abbrev pub has : List ℕ → Members → Bool
has key ms = is_some (get_member key ms)

-- the whole number at a key, and this one where the key is missing
abbrev pub natural_or : ℕ → List ℕ → Members → Option ℕ
natural_or default key ms = if has key ms then natural_at key ms else Some default
