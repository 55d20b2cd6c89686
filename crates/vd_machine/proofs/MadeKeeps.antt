-- The machine that is made keeps the rules.
use Rattle.std.proofs.Common.{◌≡◌, ℕ, ◌+◌, ◌%◌, ◌==◌, Bool, true, false, List, [], ◌∷◌, length, refl, arith}
use Rattle.std.proofs.lemmas.Bool.{le-leb}
use Rattle.vd_model.specs.declared.base.Mode.TheVariants.{Pass}
use Rattle.vd_model.specs.declared.record.Script.{Script}
use Rattle.vd_machine.specs.Draws.{next_number, draw}
use Rattle.vd_machine.specs.File.{Plan}
use Rattle.vd_machine.specs.Made.{made_runs, all_features, made_regions, made_switches, made}
use Rattle.vd_machine.specs.Queues.{script, most_pieces, are_scripts, all_lie, few}
use Rattle.vd_machine.specs.Rings.{is_lawful_size, is_window}
use Rattle.vd_machine.specs.Words.{ring_count, control_count, all_words, are_few_words}
use Rattle.vd_machine.proofs.CanonMeans.{Keeps}
use Rattle.vd_machine.proofs.Facts.{few_parts}
use Rattle.vd_machine.proofs.Fitting.{scripts_fit}
use Rattle.vd_machine.proofs.Made.{runs_are_lawful, runs_lie, runs_count}
use Rattle.vd_machine.proofs.MadeLaid.{regions_are_laid}

pub size_is : (b : Bool) → is_lawful_size b 256 ≡ true
size_is true = refl
size_is false = refl

pub window_is : (d : ℕ) → is_window (1 + d % 16) ≡ true
window_is d = rw (le-leb 1 (1 + d % 16) (omega arith), le-leb (1 + d % 16) 64 (omega arith)) refl

-- the queue of what is drawn
abbrev pub queues : ℕ → List Script
queues x = script (made_runs x).0 ∷ []

pub queues_fit : (x : ℕ) → are_scripts (most_pieces all_features 256) (queues x) ≡ true
queues_fit x = rw (runs_are_lawful x) refl

pub queues_lie : (x : ℕ) → all_lie made_regions (queues x) ≡ true
queues_lie x = rw (runs_lie x) refl

pub queues_are_few : (x : ℕ) → few (queues x) ≡ true
queues_are_few x = rw (runs_count x) refl

pub words_are_few : (b : Bool)
    → are_few_words (all_words b 256 all_features (ring_count Pass made_switches 1) (control_count true made_switches)) ≡ true
words_are_few true = refl
words_are_few false = refl

pub made_keeps : (seed : ℕ) → Keeps (made seed)
unfolding made
made_keeps seed =
    let x = next_number (next_number seed) in record {
      sized = size_is (draw seed % 2 == 1);
      windowed = window_is (draw (next_number seed));
      placed = refl;
      fitted = scripts_fit (most_pieces all_features 256) made_regions (queues x) refl (queues_fit x) (queues_lie x)
          (few_parts (queues x) (queues_are_few x)).2;
      inside = queues_lie x;
      counted = queues_are_few x;
      ranged = refl;
      laid = regions_are_laid;
      switched = refl;
      controlled = refl;
      worded = words_are_few (draw seed % 2 == 1);
    }
