-- A guest of the control queue, whether its script has commands or none: a script without chains that has no commands either is of both
-- kinds, and the one law gives what the other says.
use Rattle.std.proofs.Common.{◌≡◌, ◌↔◌, ℕ, ◌≤◌, Some, None, List, [], ◌∷◌, ◌++◌, length, length-append, map, slice_get, refl, sym, ap, ◌∙◌, subst, arith}
use Rattle.std.proofs.lemmas.List.{length-map}
use mathlib.Core.List.{IsPrefix}
use Rattle.vd_model.specs.declared.chain.Piece.{Piece}
use Rattle.vd_model.specs.declared.record.Return.{Return}
use Rattle.vd_model.specs.declared.record.Run.{Run}
use Rattle.vd_model.specs.declared.record.Script.{Script}
use Rattle.vd_ring.specs.declared.driver.DriverView.{DriverView}
use Rattle.vd_ring.specs.declared.frame.Used.{Used}
use Rattle.vd_ring.specs.History.{offers, collects}
use Rattle.vd_layout.specs.Driver.{DriverModel}
use Rattle.vd_bus.specs.Guest.{GuestParty, IsLawfulGuestParty, as_return}
use Rattle.vd_bus.specs.GuestCommands.{HasCommands, HasSent, HasSentAll, AreAcked, CannotSend, commands}
use Rattle.vd_bus.specs.Scripts.{run_chains}

-- with commands or without
commands_or : {A : Type 0} (s : Script) → (s.commands ≡ [] → A) → (HasCommands s → A) → A
commands_or {A} s a b = at s.commands refl
  where
    at : (cs : List _) → s.commands ≡ cs → A
    at [] e = a e
    at (c ∷ cs) e = b (λ z. cc (z, e))

none_left : {A : Type 0} (xs : List A) → length xs ≤ 0 → xs ≡ []
none_left [] h = refl
none_left (x ∷ xs) h = absurd (omega arith)

none_there : {A : Type 0} (xs : List A) (k : ℕ) (x : A) → xs ≡ [] → slice_get xs k ≡ Some x → ⊥
none_there [] k x none is = cc
none_there (y ∷ xs) k x none is = cc none

module _ {D G : Type 0} (d : DriverModel D) (m : GuestParty G) (law : IsLawfulGuestParty d m) (x : G) (v : DriverView) (s : Script)
    (holds : m.holds x v) (has : m.script x ≡ Some s) (no_runs : s.runs ≡ []) where
  none_offered : s.commands ≡ [] → offers v.done ≡ []
  none_offered none =
      let p : IsPrefix (offers v.done) (run_chains s.runs) = law.offers x v s holds has none in
      let all : [] ≡ offers v.done ++ p.0 = ap run_chains (sym no_runs) ∙ sym p.1 in
      none_left (offers v.done) (omega (arith, ap length all, length-append (offers v.done) p.0))

  no_command : s.commands ≡ [] → commands s ≡ []
  no_command none = ap (map (λ b. b.items)) none

  pub any_sent : HasSent d.words s v.frame v.done
  any_sent = commands_or s
      (λ none. record {
        some = omega (arith, ap length (none_offered none));
        each = λ k bytes low is. absurd (none_there (commands s) k bytes (no_command none) is);
      })
      (λ some. law.sent x v s holds has some)

  pub any_sleeps : (at : ℕ) → v.armed ≡ Some at → CannotSend d.words s v.frame v.done
  any_sleeps at armed = commands_or s
      (λ none. λ bytes is room. none_there (commands s) (length (offers v.done)) bytes (no_command none) is)
      (λ some. law.sleeps x v s at holds has some armed)

  pub any_listed : (at : ℕ) → v.armed ≡ Some at → length (m.returned x) ≡ length (collects v.done)
  any_listed at armed = commands_or s
      (λ none. ap length (law.returned x v s holds has none) ∙ length-map (collects v.done) as_return)
      (λ some. law.listed x v s at holds has some armed)

  -- on a ring whose driver has collected no more than it has offered
  pub any_acked : length (collects v.done) ≤ length (offers v.done) → AreAcked v.done (m.returned x)
  any_acked fewer = commands_or s
      (λ none.
      let many : length (m.returned x) ≡ length (collects v.done) =
      ap length (law.returned x v s holds has none) ∙ length-map (collects v.done) as_return in
      let nothing : length (m.returned x) ≤ 0 = omega (arith, many, fewer, ap length (none_offered none)) in
      record {
        some = omega (arith, many);
        last = omega (arith, many);
        each = λ j r is. absurd (none_there (m.returned x) j r (none_left (m.returned x) nothing) is);
      })
      (λ some. law.acked x v s holds has some)

  pub any_sent_all : m.is_done x ↔ HasSentAll s v (m.returned x)
  any_sent_all = commands_or s
      (λ none.
      let no_chains : run_chains s.runs ≡ [] = ap run_chains no_runs in
      let many : length (m.returned x) ≡ length (collects v.done) =
      ap length (law.returned x v s holds has none) ∙ length-map (collects v.done) as_return in
      let zero : length s.commands ≡ 0 = ap length none in (
        λ done.
            let all = law.done x v s holds has none done in
            record {
              offers = omega (arith, ap length all.offers, ap length no_chains, zero);
              collects = omega (arith, all.collects, ap length no_chains, zero);
              returned = omega (arith, many, all.collects, ap length no_chains, zero);
              idle = all.idle;
            },
        λ all. law.finishes x v s holds has none (record {
          offers = none_offered none ∙ sym no_chains;
          collects = omega (arith, all.collects, ap length no_chains, zero);
          idle = all.idle;
        }),
      ))
      (λ some. law.sent_all x v s holds has some)
