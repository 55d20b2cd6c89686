-- The canonical text is ASCII, and so UTF-8.
use Rattle.std.proofs.Common.{◌≡◌, ℕ, zero, suc, ◌^◌, ◌<◌, Bool, true, false, nat_lt, List, [], ◌∷◌, ◌++◌, map, codes, Option, Some, None, decimal, IsUtf8, refl, ◌∙◌, arith}
use Rattle.std.specs.List.{list_all}
use Rattle.std.specs.Char.{is_ascii_digit}
use Rattle.std.specs.Str.{IsAscii}
use Rattle.std.proofs.lemmas.Bool.{and_parts, ltb-true}
use Rattle.std.proofs.lemmas.Bool.Decides.{nat_tests}
use Rattle.std.proofs.lemmas.List.Folds.{list_all-append}
use Rattle.std.proofs.lemmas.Str.{IsUtf8-from_ascii}
use Rattle.arrayvec.specs.ArrayVec.{ArrayVec}
use Rattle.vd_model.specs.declared.base.Mode.{Mode}
use Rattle.vd_model.specs.declared.base.Mode.TheVariants as mode
use Rattle.vd_model.specs.declared.record.Run.{Run}
use Rattle.vd_model.specs.declared.record.Script.{Script}
use Rattle.vd_text.specs.Canonical.{run_text}
use Rattle.vd_text.specs.Commands.{command_text}
use Rattle.vd_text.proofs.Canonical.{decimal_digits}
use Rattle.vd_text.proofs.CommandTexts.{command_text_passes}
use Rattle.vd_machine.specs.Canon.{quoted, more_items, items_text, list_text, layout_name, feature_names, region_text, queue_text, mode_name, to_name, switch_text, command_item, line, lines_text, control_entries, entries, canon}
use Rattle.vd_machine.specs.Commands.{is_lawful_command, is_lawful_control}
use Rattle.vd_machine.specs.File.{Plan}
use Rattle.vd_machine.specs.Queues.{most_pieces}
use Rattle.vd_machine.specs.Regions.{is_region}
use Rattle.vd_machine.specs.Switches.{is_switch}
use Rattle.vd_machine.specs.declared.machine.Switch.{Switch}
use Rattle.vd_machine.specs.declared.machine.To.{To}
use Rattle.vd_machine.specs.declared.machine.To.TheVariants as to
use Rattle.vd_machine.specs.declared.regions.Region.{Region}
use Rattle.vd_machine.proofs.CanonBack.{Fits}
use Rattle.vd_machine.proofs.CanonControl.{each_command}
use Rattle.vd_machine.proofs.CanonSwitches.{switch_after}
use Rattle.vd_machine.proofs.CanonStrings.{is_plain, run_is_plain}
use Rattle.vd_machine.proofs.Fitting.{fits_run, fits_script, run_parts, script_parts, region_fits}

abbrev is_low : ℕ → Bool
is_low c = nat_lt c 128

abbrev AreLow : List ℕ → Type 0
AreLow bs = list_all is_low bs ≡ true

ascii_from : (bs : List ℕ) → AreLow bs → IsAscii bs
ascii_from [] h i = omega arith
ascii_from (b ∷ bs) h zero = ltb-true b 128 (and_parts (is_low b) (list_all is_low bs) h).0
ascii_from (b ∷ bs) h (suc i) = ascii_from bs (and_parts (is_low b) (list_all is_low bs) h).1 i

low_append : (xs ys : List ℕ) → AreLow xs → AreLow ys → AreLow (xs ++ ys)
low_append xs ys h i = list_all-append is_low xs ys ∙ rw (h, i) refl

-- what passes a test that only characters of ASCII pass
low_where : (t : ℕ → Bool) → ((c : ℕ) → t c ≡ true → is_low c ≡ true) → (cs : List ℕ) → list_all t cs ≡ true → AreLow cs
low_where t each [] h = refl
low_where t each (c ∷ cs) h =
    let parts = and_parts (t c) (list_all t cs) h in
    rw (each c parts.0) (low_where t each cs parts.1)

digit_is_low : (c : ℕ) → is_ascii_digit c ≡ true → is_low c ≡ true
digit_is_low c h = grind (arith, nat_tests)

plain_is_low : (c : ℕ) → is_plain c ≡ true → is_low c ≡ true
plain_is_low c h = grind (arith, nat_tests)

low_decimal : (n : ℕ) → n < 2 ^ 64 → AreLow (decimal n)
low_decimal n h = low_where is_ascii_digit digit_is_low (decimal n) (decimal_digits n h)

low_quoted : (t : List ℕ) → AreLow t → AreLow (quoted t)
low_quoted t h = low_append t (34 ∷ []) h refl

-- a list of texts
module _ {A : Type 0} (g : A → List ℕ) (p : A → Bool) (each : (x : A) → p x ≡ true → AreLow (g x)) where
  low_more : (xs : List A) → list_all p xs ≡ true → AreLow (more_items (map g xs))
  low_more [] h = refl
  low_more (x ∷ xs) h =
      let parts = and_parts (p x) (list_all p xs) h in
      low_append (g x) (more_items (map g xs)) (each x parts.0) (low_more xs parts.1)

  low_items : (xs : List A) → list_all p xs ≡ true → AreLow (items_text (map g xs))
  low_items [] h = refl
  low_items (x ∷ xs) h =
      let parts = and_parts (p x) (list_all p xs) h in
      low_append (g x) (more_items (map g xs)) (each x parts.0) (low_more xs parts.1)

  low_list : (xs : List A) → list_all p xs ≡ true → AreLow (list_text (map g xs))
  low_list xs h = low_append (items_text (map g xs)) (codes "]") (low_items xs h) refl

low_layout : (b : Bool) → AreLow (quoted (layout_name b))
low_layout true = refl
low_layout false = refl

low_mode : (m : Mode) → AreLow (quoted (mode_name m))
low_mode mode.Pass = refl
low_mode mode.Shadow = refl

low_to : (t : To) → AreLow (quoted (to_name t) ++ codes " }")
low_to to.Pass = refl
low_to to.Shadow = refl
low_to to.Renew = refl

low_features : (a b c : Bool) → AreLow (list_text (map quoted (feature_names (record { indirect = a; event_idx = b; in_order = c }))))
low_features true true true = refl
low_features true true false = refl
low_features true false true = refl
low_features true false false = refl
low_features false true true = refl
low_features false true false = refl
low_features false false true = refl
low_features false false false = refl

low_region : (r : Region) → is_region r ≡ true → AreLow (region_text r)
low_region r h =
    let parts = region_fits r h in
    low_append (decimal r.addr) (codes ", size = " ++ (decimal r.size ++ codes " }")) (low_decimal r.addr (omega (arith, parts.0, parts.1)))
    (low_append (decimal r.size) (codes " }") (low_decimal r.size (omega (arith, parts.2))) refl)

low_switch : (s : Switch) → is_switch s ≡ true → AreLow (switch_text s)
low_switch s h =
    low_append (decimal s.after) (codes ", to = " ++ (quoted (to_name s.to) ++ codes " }"))
    (low_decimal s.after (omega (arith, switch_after s h))) (low_to s.to)

low_run : (most : ℕ) (r : Run) → fits_run most r ≡ true → AreLow (quoted (run_text r))
low_run most r h =
    let parts = run_parts most r h in
    low_quoted (run_text r) (low_where is_plain plain_is_low (run_text r) (run_is_plain r parts.count parts.pieces))

low_queue : (most : ℕ) (q : Script) → fits_script most q ≡ true → AreLow (queue_text q)
low_queue most q h = low_list (λ (r : Run). quoted (run_text r)) (fits_run most) (low_run most) q.runs (script_parts most q h).1

-- each key and each value
abbrev AllLow : List (List ℕ × List ℕ) → Type 0
AllLow [] = Unit {0}
AllLow (e ∷ es) = AreLow e.0 × AreLow e.1 × AllLow es

low_lines : (es : List (List ℕ × List ℕ)) → AllLow es → AreLow (lines_text es)
low_lines [] h = refl
low_lines (e ∷ es) h =
    low_append (line e.0 e.1) (lines_text es)
    (low_append e.0 (codes " = " ++ (e.1 ++ codes "\n")) h.0 (low_append e.1 (codes "\n") h.1 refl)) (low_lines es h.2)

low_command : (c : ArrayVec ℕ) → is_lawful_command c ≡ true → AreLow (command_item c)
low_command c h = low_quoted (command_text c.items) (command_text_passes is_low refl c.items h)

low_control : (o : Option Script) → is_lawful_control o ≡ true → AllLow (control_entries o)
low_control None h = tt
low_control (Some q) h = (refl, low_list command_item is_lawful_command low_command q.commands (each_command q h), tt)

low_canon : (p : Plan) → Fits p → AreLow (canon p)
unfolding canon
low_canon p h =
    low_lines (entries p) (
      refl,
      low_layout p.packed,
      (
        refl,
        low_decimal p.size (omega (arith, h.size)),
        (
          refl,
          low_features p.features.indirect p.features.event_idx p.features.in_order,
          (
            refl,
            low_decimal p.window (omega (arith, h.window)),
            (
              refl,
              low_mode p.start,
              (
                refl,
                low_decimal p.first (omega (arith, h.first)),
                (
                  refl,
                  low_decimal p.last (omega (arith, h.last)),
                  (
                    refl,
                    low_list region_text is_region low_region p.regions h.regions,
                    (
                      refl,
                      low_list queue_text (fits_script most) (low_queue most) p.queues h.queues,
                      (refl, low_list switch_text is_switch low_switch p.switches h.switches, low_control p.control h.control),
                    ),
                  ),
                ),
              ),
            ),
          ),
        ),
      ),
    )
  where
    most : ℕ
    most = most_pieces p.features p.size

pub canon_is_utf8 : (p : Plan) → Fits p → IsUtf8 (canon p)
canon_is_utf8 p h = IsUtf8-from_ascii (canon p) (ascii_from (canon p) (low_canon p h))
