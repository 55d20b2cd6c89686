-- The mode at the start and the switches in the canonical text: their values, and that these mean them.
use Rattle.std.proofs.Common.{◌≡◌, ℕ, ◌<◌, ◌≤◌, true, false, List, ◌++◌, length, get_or, drop, map, codes, pos, decimal, Some, refl, ap, sym, ◌∙◌, ◌+◌, arith, append_assoc, FitsSigned}
use Rattle.std.specs.Int.{w64}
use Rattle.std.proofs.lemmas.Bool.{leb-true}
use Rattle.std.proofs.lemmas.Int.{fits_signed_from_abs}
use Rattle.std.proofs.lemmas.List.{drop_more}
use Rattle.toml_writer.specs.Text.{key_text}
use Rattle.toml.specs.Data.{Data, string, integer, table, no_members, member}
use Rattle.toml.specs.Text.{IsValueText}
use Rattle.vd_model.specs.declared.base.Mode.{Mode}
use Rattle.vd_model.specs.declared.base.Mode.TheVariants as mode
use Rattle.vd_machine.specs.Canon.{quoted, more_items, mode_name, to_name, switch_text}
use Rattle.vd_machine.specs.Switches.{is_switch, to_of, switch_of}
use Rattle.vd_machine.specs.declared.machine.Switch.{Switch}
use Rattle.vd_machine.specs.declared.machine.To.{To}
use Rattle.vd_machine.specs.declared.machine.To.TheVariants as to
use Rattle.vd_machine.proofs.CanonValues.{string_value, IsShallow}

abbrev pub switch_data : Switch → Data
switch_data s = table (member (codes "after") (integer (pos s.after)) (member (codes "to") (string (to_name s.to)) no_members))

pub switch_after : (s : Switch) → is_switch s ≡ true → s.after ≤ 0xffff_ffff
switch_after s h = leb-true s.after 0xffff_ffff h

pub mode_value : (m : Mode) → IsValueText false (string (mode_name m)) (quoted (mode_name m))
mode_value mode.Pass = string_value (codes "pass") refl
mode_value mode.Shadow = string_value (codes "shadow") refl

to_value : (t : To) → IsValueText false (string (to_name t)) (quoted (to_name t))
to_value to.Pass = string_value (codes "pass") refl
to_value to.Shadow = string_value (codes "shadow") refl
to_value to.Renew = string_value (codes "renew") refl

pub switch_value : (s : Switch) → is_switch s ≡ true → IsValueText false (switch_data s) (switch_text s)
unfolding key_text
switch_value s h =
    let fits : FitsSigned w64 (pos s.after) = fits_signed_from_abs w64 (pos s.after) (omega (arith, switch_after s h)) in
    let name = quoted (to_name s.to) ++ codes " }" in
    let rest = codes ", to = " ++ name in (
      codes " after = " ++ (decimal s.after ++ rest),
      refl,
      (decimal s.after, rest, refl, (refl, fits), (quoted (to_name s.to), codes " }", refl, to_value s.to, refl, refl), refl),
    )

pub shallow_switch : (s : Switch) → IsShallow 1 (switch_data s)
shallow_switch s = record { depth = omega arith; dates = refl }

-- the switch that the value writes

to_back : (t : To) → to_of (to_name t) ≡ Some t
to_back to.Pass = refl
to_back to.Shadow = refl
to_back to.Renew = refl

pub switch_back : (s : Switch) → is_switch s ≡ true → switch_of (switch_data s) ≡ Some s
switch_back s h = rw (h, to_back s.to) refl

-- one switch more is appended
pub more_switch : (out mid new : List ℕ) (ss : List Switch) (i : ℕ) (d : Switch) → i < length ss → mid ≡ out ++ codes ", "
    → new ≡ mid ++ switch_text (get_or ss i d)
    → new ++ more_items (map switch_text (drop (i + 1) ss)) ≡ out ++ more_items (map switch_text (drop i ss))
more_switch out mid new ss i d h first second =
    let s = get_or ss i d in
    let rest = more_items (map switch_text (drop (i + 1) ss)) in
    ap (λ (xs : List ℕ). xs ++ rest) second ∙ append_assoc mid (switch_text s) rest
    ∙ ap (λ (xs : List ℕ). xs ++ (switch_text s ++ rest)) first ∙ append_assoc out (codes ", ") (switch_text s ++ rest)
    ∙ ap (λ l. out ++ more_items (map switch_text l)) (sym (drop_more ss i d h))
