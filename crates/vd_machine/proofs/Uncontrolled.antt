-- The key of the commands is none that a file may have, so a document of known keys has no control queue.
use Rattle.std.proofs.Common.{◌≡◌, ℕ, true, ◌&&◌, List, codes, Option, Some, None, unwrap_or, Ordering, Less, Equal, Greater, refl, ap, sym, ◌∙◌}
use Rattle.std.specs.List.{list_all}
use Rattle.std.specs.Cmp.Lexicographic.{slice_cmp}
use Rattle.std.specs.Ordering.{nat_cmp, match_ordering}
use Rattle.std.proofs.lemmas.Bool.{and_parts, false≢true}
use Rattle.std.proofs.lemmas.Map.Lookups.{exact_bytes}
use Rattle.toml.specs.Data.{Data, Members, no_members, member, get_member}
use Rattle.vd_model.specs.declared.record.Script.{Script}
use Rattle.vd_machine.specs.Commands.{control_of}
use Rattle.vd_machine.specs.Keys.{is_file_key, if_table, region_has_known_keys, switch_has_known_keys, known_keys}
use Rattle.vd_machine.specs.Lookup.{items_at, names_of}

another : (l : List ℕ) → is_file_key l ≡ true → (o : Ordering) → slice_cmp nat_cmp (codes "commands") l ≡ o → (d : Data)
    (rest : Option Data) → rest ≡ None → match_ordering o rest (Some d) rest ≡ None
another l known Less is d rest none = none
another l known Equal is d rest none = absurd (false≢true (ap is_file_key (exact_bytes (codes "commands") l is) ∙ known))
another l known Greater is d rest none = none

no_commands_in : (ms : Members) → list_all is_file_key (names_of ms) ≡ true → get_member (codes "commands") ms ≡ None
no_commands_in no_members h = refl
no_commands_in (member l d ms) h =
    let parts = and_parts (is_file_key l) (list_all is_file_key (names_of ms)) h in
    another l parts.0 (slice_cmp nat_cmp (codes "commands") l) refl d (get_member (codes "commands") ms) (no_commands_in ms parts.1)

uncontrolled_by : (ms : Members) → known_keys ms ≡ true → control_of ms ≡ Some None
unfolding known_keys control_of
uncontrolled_by ms h =
    let all = list_all is_file_key (names_of ms) in
    let regions = list_all (if_table region_has_known_keys) (items_at (codes "regions") ms) in
    let switches = list_all (if_table switch_has_known_keys) (items_at (codes "switches") ms) in
    rw (no_commands_in ms (and_parts all regions (and_parts (all && regions) switches h).0).0) refl

-- what was read of such a document
pub none_read : (ms : Members) (o : Option (Option Script)) (control : Option Script) → known_keys ms ≡ true → o ≡ control_of ms
    → o ≡ Some control → control ≡ None
none_read ms o control known is some = ap (λ p. unwrap_or p None) (sym some ∙ is ∙ uncontrolled_by ms known)
