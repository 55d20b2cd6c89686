-- Scripts of chains and of commands.
use Rattle.std.proofs.Common.{◌≡◌, ◌==◌, ℕ, Bool, true, false, Option, List, [], ◌∷◌, length, refl, sym, ◌∙◌, ap, arith}
use Rattle.std.proofs.lemmas.Bool.{ne_eqb}
use Rattle.vd_model.specs.declared.record.Script.{Script}
use Rattle.vd_ring.specs.declared.driver.DriverDone.{DriverDone}
use Rattle.vd_ring.specs.declared.frame.Frame.{Frame}
use Rattle.vd_layout.specs.Control.{ControlWords}
use Rattle.vd_bus.specs.GuestCommands.{HasCommands}
use Rattle.vd_bus.specs.Scripts.{chains}
use Rattle.vd_models.specs.declared.cursor.Cursor.{Cursor}
use Rattle.vd_models.specs.Cursors.{next_at}
use Rattle.vd_models.specs.Driving.{by_commands, command_next, next_of, scripted}

-- a script of chains or of commands
pub commands_or : {A : Type 0} (s : Script) → (s.commands ≡ [] → A) → (HasCommands s → A) → A
commands_or {A} s a b = at s.commands refl
  where
    at : (cs : List _) → s.commands ≡ cs → A
    at [] e = a e
    at (c ∷ cs) e = b (λ z. cc (z, e))

by_none : {B X : Type 0} (cs : List B) (a b : X) → cs ≡ [] → by_commands cs a b ≡ a
by_none cs a b none = ap (λ z. by_commands z a b) none

by_some : {B X : Type 0} (cs : List B) (a b : X) → (cs ≡ [] → ⊥) → by_commands cs a b ≡ b
by_some [] a b some = absurd (some refl)
by_some (c ∷ cs) a b some = refl

pub scripted_chains : (s : Script) → s.commands ≡ [] → scripted s ≡ length (chains s)
scripted_chains s none = by_none s.commands (length (chains s)) (length s.commands) none

pub scripted_commands : (s : Script) → HasCommands s → scripted s ≡ length s.commands
scripted_commands s some = by_some s.commands (length (chains s)) (length s.commands) some

pub next_is_chain : (words : ControlWords) (s : Script) (at : Cursor) (f : Frame) (o : List DriverDone) → s.commands ≡ []
    → next_of words s at f o ≡ next_at s.runs at
next_is_chain words s at f o none = by_none s.commands (next_at s.runs at) (command_next words s f o) none

pub next_is_command : (words : ControlWords) (s : Script) (at : Cursor) (f : Frame) (o : List DriverDone) → HasCommands s
    → next_of words s at f o ≡ command_next words s f o
next_is_command words s at f o some = by_some s.commands (next_at s.runs at) (command_next words s f o) some

-- what the code tests for commands
pub empty_of : {X : Type 0} (xs ys : List X) (b : Bool) → xs ≡ ys → b ≡ (length xs == 0) → b ≡ true → ys ≡ []
empty_of [] ys b same is on = sym same
empty_of (x ∷ xs) ys b same is on = absurd
    (let other : (length (x ∷ xs) == 0) ≡ false = ne_eqb (length (x ∷ xs)) 0 (λ z. omega (arith, z)) in cc)

pub full_of : {X : Type 0} (xs ys : List X) (b : Bool) → xs ≡ ys → b ≡ (length xs == 0) → b ≡ false → ys ≡ [] → ⊥
full_of xs ys b same is off none = absurd
    (let here : (length xs == 0) ≡ true = ap (λ (z : List _). length z == 0) (same ∙ none) in cc)
