-- The layout and the size of the rings, their features and the window.
use Rattle.std.specs.Prelude.{ℕ, Bool, true, false, ◌&&◌, ◌||◌, ◌==◌, nat_le, if◌then◌else◌, List, [], ◌∷◌, codes, count_by, Option, Some, None, option_and_then}
use Rattle.std.specs.List.{list_all, list_any}
use Rattle.std.specs.Option.{option_map_or}
use Rattle.std.specs.Str.{bytes_eq}
use Rattle.toml.specs.Data.{Data, Members, as_str}
use Rattle.vd_model.specs.declared.features.Features.{Features}
use Rattle.vd_machine.specs.declared.rings.TheConstants.{MOST_PLACES, MOST_WINDOW}
use Rattle.vd_machine.specs.Lookup.{natural_at, natural_or, text_at, items_at}

-- whether the layout of this name is packed (VIRTIO 1.2, 2.7 and 2.8)
abbrev pub layout : List ℕ → Option Bool
layout text = if bytes_eq text (codes "split") then Some false else if bytes_eq text (codes "packed") then Some true else None

-- the layout of the file, where there is such a layout
unfoldable pub layout_of : Members → Option Bool
layout_of ms = option_and_then layout (text_at (codes "layout") ms)

-- a power of two from 2 to the most places
abbrev pub is_power : ℕ → Bool
is_power n = list_any (λ p. p == n) (2 ∷ 4 ∷ 8 ∷ 16 ∷ 32 ∷ 64 ∷ 128 ∷ 256 ∷ 512 ∷ MOST_PLACES ∷ [])

-- a size that a ring of the layout may have
abbrev pub is_lawful_size : Bool → ℕ → Bool
is_lawful_size true n = nat_le 2 n && nat_le n MOST_PLACES
is_lawful_size false n = is_power n

-- the size, where it is lawful
abbrev pub if_lawful_size : Bool → ℕ → Option ℕ
if_lawful_size packed n = if is_lawful_size packed n then Some n else None

-- the size of the file, where a ring of the layout may have it
unfoldable pub size_of : Bool → Members → Option ℕ
size_of packed ms = option_and_then (if_lawful_size packed) (natural_at (codes "size") ms)

-- the value is the text of this name
abbrev pub is_named : List ℕ → Data → Bool
is_named name d = option_map_or (λ t. bytes_eq t name) (as_str d) false

-- how often a name stands among the features
abbrev pub times_of : List ℕ → List Data → ℕ
times_of name ds = count_by (is_named name) ds

-- the name of a feature
abbrev pub is_feature : Data → Bool
is_feature d = (is_named (codes "indirect") d || is_named (codes "event_idx") d) || is_named (codes "in_order") d

-- each is a feature's name, and none stands twice
abbrev pub are_features : List Data → Bool
are_features ds =
    ((list_all is_feature ds && nat_le (times_of (codes "indirect") ds) 1) && nat_le (times_of (codes "event_idx") ds) 1) && nat_le
    (times_of (codes "in_order") ds) 1

-- the features that the list names (VIRTIO 1.2, 6)
abbrev pub features_in : List Data → Features
features_in ds = record {
  indirect = nat_le 1 (times_of (codes "indirect") ds);
  event_idx = nat_le 1 (times_of (codes "event_idx") ds);
  in_order = nat_le 1 (times_of (codes "in_order") ds);
}

-- the features, where the list is lawful
abbrev pub if_features : List Data → Option Features
if_features ds = if are_features ds then Some (features_in ds) else None

-- the features of the file, where its list is lawful; a missing list is empty
unfoldable pub features_of : Members → Option Features
features_of ms = if_features (items_at (codes "features") ms)

-- how many chains a device may hold at once
abbrev pub is_window : ℕ → Bool
is_window n = nat_le 1 n && nat_le n MOST_WINDOW

-- the window, where it is lawful
abbrev pub if_window : ℕ → Option ℕ
if_window n = if is_window n then Some n else None

-- the window of the file, where it is lawful; a missing one is 1
unfoldable pub window_of : Members → Option ℕ
window_of ms = option_and_then if_window (natural_or 1 (codes "window") ms)
