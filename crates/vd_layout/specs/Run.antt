-- A run of accesses of one side, each of which was next.
use Rattle.std.specs.Prelude.{◌≡◌, ℕ, List, [], ◌∷◌}
use Rattle.vd_words.specs.declared.access.Access.{Access}
use Rattle.vd_words.specs.declared.access.Op.{Op}
use Rattle.vd_words.specs.Model.{PortModel}
use Rattle.vd_words.specs.Own.{SideModel}
use Rattle.vd_words.specs.Step.{written}

pub record Made : Type 0 where
  pub op : Op
  pub access : Access
  pub got : ℕ

-- one access more, from a port and view to a port and view
pub record OneMore {P V : Type 0} (port : PortModel P) (side : SideModel V) (m : Made) (p : P) (v : V) (q : P) (w : V) : Type 0 where
  pub was_next : side.next v m.op m.access
  pub moved : port.moves p m.op m.access m.got q
  pub is_after : w ≡ side.after v m.op m.access m.got

-- from one port and view to another, by these accesses, the newest first
abbrev pub IsRun : {P V : Type 0} → PortModel P → SideModel V → List Made → P → V → P → V → Type 0
IsRun port side [] p v q w = (q ≡ p) × (w ≡ v)
IsRun {P} {V} port side (m ∷ ms) p v q w = (mid : P) × (u : V) × IsRun port side ms p v mid u × OneMore port side m mid u q w

-- the words after these accesses, the newest first
abbrev pub written_by : List Made → List ℕ → List ℕ
written_by [] ws = ws
written_by (m ∷ ms) ws = written (written_by ms ws) m.access

-- an answer was told by one access after such a run, at a view that meets R
pub record IsToldAt {P V A : Type 0} (port : PortModel P) (side : SideModel V) (act : V → Op → Access → ℕ → A) (R : V → Type 0) (p : P)
    (v : V) (answer : A) : Type 0 where
  pub made : List Made
  pub mid : P
  pub view : V
  pub run : IsRun port side made p v mid view
  pub meets : R view
  pub next : P
  pub op : Op
  pub access : Access
  pub got : ℕ
  pub was_next : side.next view op access
  pub moved : port.moves mid op access got next
  pub is_answer : answer ≡ act view op access got

-- ---- lemmas

-- on plain words a run keeps whatever each next access keeps
pub record PlainRun {P V : Type 0} (port : PortModel P) (ring : List ℕ → V → Type 0) (ms : List Made) (p q : P) (ws : List ℕ)
    (w : V) : Type 0 where
  pub plain : port.plain q (written_by ms ws)
  pub meets : ring (written_by ms ws) w
  pub same : port.same p q
