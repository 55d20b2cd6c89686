-- The canonical text of a machine breaks no rule and means that machine.
use Rattle.std.proofs.Common.{◌≡◌, ℕ, true, List, ◌++◌, Option, Some, None, refl, ap, ◌∙◌, arith, append_assoc}
use Rattle.std.specs.List.{list_all}
use Rattle.std.proofs.lemmas.Bool.{and_parts}
use Rattle.vd_machine.specs.Canon.{canon}
use Rattle.vd_machine.specs.File.{Plan, view, document, first, first_in, means, broken_by_key}
use Rattle.vd_machine.specs.Queues.{most_pieces}
use Rattle.vd_machine.specs.Switches.{is_switch, are_in_order}
use Rattle.vd_model.specs.declared.record.Script.{Script}
use Rattle.vd_machine.specs.declared.machine.Machine.{Machine}
use Rattle.vd_machine.proofs.CanonAscii.{canon_is_utf8}
use Rattle.vd_machine.proofs.CanonBack.{Fits, reads, sorted}
use Rattle.vd_machine.proofs.CanonMeans.{Keeps, known, unknown, sorted_is_read}
use Rattle.vd_machine.proofs.Document.{document_text}
use Rattle.vd_machine.proofs.Facts.{size_bounds, window_bounds, region_parts, range_bounds, few_parts}
use Rattle.vd_machine.proofs.Fitting.{scripts_fit}
use Rattle.vd_machine.proofs.Rules.{breaks_none, means_it}

pub machine_keeps : (m : Machine) → Keeps (view m)
machine_keeps m = record {
  sized = m.sized;
  windowed = m.windowed;
  placed = m.placed;
  fitted = scripts_fit (most_pieces m.features m.size) m.regions m.queues m.placed m.fitted m.inside (few_parts m.queues m.counted).2;
  inside = m.inside;
  counted = m.counted;
  ranged = m.ranged;
  laid = m.laid;
  switched = m.switched;
  controlled = m.controlled;
  worded = m.worded;
}

keeps_fit : (p : Plan) → Keeps p → Fits p
keeps_fit p h =
    let size = size_bounds p.packed p.size h.sized in
    let window = window_bounds p.window h.windowed in
    let range = range_bounds p.first p.last h.ranged in record {
      size = omega (arith, size.1);
      window = omega (arith, window.1);
      first = omega (arith, range.0, range.1);
      last = range.1;
      regions = (region_parts p.regions h.placed).1;
      queues = h.fitted;
      switches = (and_parts (are_in_order p.switches) (list_all is_switch p.switches) h.switched).1;
      control = h.controlled;
    }

document_is : (p : Plan) → Keeps p → document (canon p) ≡ Some (sorted p)
document_is p h = document_text (canon p) (canon_is_utf8 p (keeps_fit p h)) ∙ reads p (keeps_fit p h)

pub means_canon : (p : Plan) → Keeps p → means (canon p) ≡ Some p
unfolding means
means_canon p h = rw (document_is p h) (ap Some (means_it (sorted p) p (sorted_is_read p h)))

-- while the key of the commands is none that a file may have, it breaks no rule where there is no control queue, and else that one
first_broken : (p : Plan) (o : Option Script) → p.control ≡ o → Keeps p → first (canon p) ≡ broken_by_key o
unfolding first first_in
first_broken p None is h = rw (document_is p h) (breaks_none (sorted p) p (known p is) (sorted_is_read p h))
first_broken p (Some q) is h = rw (document_is p h, unknown p q is) refl

pub printed_back : (m : Machine) → (first (canon (view m)) ≡ broken_by_key m.control) × (means (canon (view m)) ≡ Some (view m))
printed_back m = (first_broken (view m) m.control refl (machine_keeps m), means_canon (view m) (machine_keeps m))

-- what is appended in two steps
pub then : (old mid new front rest : List ℕ) → mid ≡ old ++ front → new ≡ mid ++ rest → new ≡ old ++ (front ++ rest)
then old mid new front rest h i = i ∙ ap (λ (xs : List ℕ). xs ++ rest) h ∙ append_assoc old front rest
