-- A document of which each part was read means the machine of these parts, and breaks no rule where its keys are known.
use Rattle.std.proofs.Common.{◌≡◌, ℕ, Bool, true, length, Option, Some, None, IfSome, is_some, refl, ap, sym, ◌∙◌}
use Rattle.toml.specs.Data.{Members}
use Rattle.vd_model.specs.declared.features.Features.{Features}
use Rattle.vd_machine.specs.Commands.{control_of, has_few_commands}
use Rattle.vd_machine.specs.File.{Plan, plan, first_in}
use Rattle.vd_machine.specs.Iovas.{range_of, are_laid}
use Rattle.vd_machine.specs.Keys.{known_keys, complete}
use Rattle.vd_machine.specs.Queues.{most_pieces, all_write_chains, scripts_of, all_lie, few}
use Rattle.vd_machine.specs.Regions.{regions_of}
use Rattle.vd_machine.specs.Rings.{layout_of, size_of, features_of, window_of}
use Rattle.vd_machine.specs.Switches.{start_of, switches_of}
use Rattle.vd_machine.specs.Types.{typed}
use Rattle.vd_machine.specs.Words.{ring_count, control_count, all_words, are_few_words}

-- the document's parts are those of the machine, which keeps the rules
pub record IsRead (ms : Members) (p : Plan) : Type 0 where
  pub whole : complete ms ≡ true
  pub types : typed ms ≡ true
  pub layout : layout_of ms ≡ Some p.packed
  pub start : start_of ms ≡ Some p.start
  pub size : size_of p.packed ms ≡ Some p.size
  pub features : features_of ms ≡ Some p.features
  pub window : window_of ms ≡ Some p.window
  pub regions : regions_of ms ≡ Some p.regions
  pub chains : all_write_chains ms ≡ true
  pub queues : scripts_of (most_pieces p.features p.size) ms ≡ Some p.queues
  pub inside : all_lie p.regions p.queues ≡ true
  pub counted : few p.queues ≡ true
  pub commands : has_few_commands ms ≡ true
  pub switches : switches_of ms ≡ Some p.switches
  pub control : control_of ms ≡ Some p.control
  pub range : range_of ms ≡ Some (record { first = p.first; last = p.last })
  pub laid : are_laid p.first p.last p.regions ≡ true
  pub worded : are_few_words (all_words p.packed p.size p.features (ring_count p.start p.switches (length p.queues))
      (control_count (is_some p.control) p.switches)) ≡ true

pub breaks_none : (ms : Members) (p : Plan) → known_keys ms ≡ true → IsRead ms p → first_in ms ≡ None
unfolding first_in
breaks_none ms p known h =
    rw (
      known,
      h.whole,
      h.types,
      h.layout,
      h.start,
      h.size,
      h.features,
      h.window,
      h.regions,
      h.chains,
      h.queues,
      h.inside,
      h.counted,
      h.commands,
      h.switches,
      h.control,
      h.range,
      h.laid,
      h.worded,
    ) refl

pub means_it : (ms : Members) (p : Plan) → IsRead ms p → plan ms ≡ p
unfolding plan
means_it ms p h =
    rw (h.layout, h.size, h.features, h.window, h.range, h.regions, h.queues, h.start, h.switches, h.control) refl

-- what was read keeps its law
pub lawful_if : {A : Type 0} (o : Option A) (x : A) (P : A → Type 0) → IfSome o P → o ≡ Some x → P x
lawful_if o x P h e = rw e at h

-- so many words
pub few_words : (packed : Bool) (n : ℕ) (f : Features) (rings rings' controls controls' words : ℕ) (within : Bool) → rings ≡ rings'
    → controls ≡ controls' → words ≡ all_words packed n f rings controls → within ≡ are_few_words words → within ≡ true
    → are_few_words (all_words packed n f rings' controls') ≡ true
few_words packed n f rings rings' controls controls' words within r c w is h =
    ap (λ k. are_few_words (all_words packed n f k controls')) (sym r)
    ∙ ap (λ k. are_few_words (all_words packed n f rings k)) (sym c) ∙ ap are_few_words (sym w) ∙ sym is ∙ h
