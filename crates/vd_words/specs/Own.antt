-- When a port is a side's own ring: what the side may do next is allowed, and what its answers tell is true, now and after
-- each access that it makes.
use Rattle.std.specs.Prelude.{ℕ, zero, suc}
use Rattle.vd_words.specs.declared.access.Op.{Op}
use Rattle.vd_words.specs.declared.access.Access.{Access}
use Rattle.vd_words.specs.Model.{PortModel}

-- what a side's view allows next, the view after an access, and what its answer tells of the view
pub record SideModel (V : Type 0) : Type 1 where
  pub next : V → Op → Access → Type 0
  pub after : V → Op → Access → ℕ → V
  pub tells : V → Op → Access → ℕ → Type 0

-- for n accesses: each that is next is allowed, what its answer tells holds, and the port is own for one access less after it
abbrev pub IsOwnFor : {P V : Type 0} → PortModel P → SideModel V → ℕ → P → V → Type 0
IsOwnFor port side zero p v = Unit {0}
IsOwnFor port side (suc n) p v = (op : Op) (a : Access) → side.next v op a
    → port.allows p op a × ((r : ℕ) (q : _) → port.moves p op a r q → side.tells v op a r × IsOwnFor port side n q (side.after v op a r))

-- for any number of accesses; the first two say it of the next one
pub record IsOwn {P V : Type 0} (port : PortModel P) (side : SideModel V) (p : P) (v : V) : Type 0 where
  pub may : (op : Op) (a : Access) → side.next v op a → port.allows p op a
  pub told : (op : Op) (a : Access) → side.next v op a → (r : ℕ) (q : P) → port.moves p op a r q → side.tells v op a r
  pub always : (n : ℕ) → IsOwnFor port side n p v

-- ---- lemmas

pub own_from : {P V : Type 0} (port : PortModel P) (side : SideModel V) (p : P) (v : V) → ((n : ℕ) → IsOwnFor port side n p v)
    → IsOwn port side p v
own_from port side p v all = record {
  may = λ op a next. (all (suc zero) op a next).0;
  told = λ op a next r q moved. ((all (suc zero) op a next).1 r q moved).0;
  always = all;
}

-- the port is still own after an access that was next
pub own_after : {P V : Type 0} (port : PortModel P) (side : SideModel V) (p q : P) (v : V) (op : Op) (a : Access) (r : ℕ)
    → IsOwn port side p v → side.next v op a → port.moves p op a r q → IsOwn port side q (side.after v op a r)
own_after port side p q v op a r own next moved =
    own_from port side q (side.after v op a r) (λ n. ((own.always (suc n) op a next).1 r q moved).1)

-- a relation of port and view that each next access keeps
abbrev pub Keeps : {P V : Type 0} → PortModel P → SideModel V → (P → V → Type 0) → Type 0
Keeps port side R = (p : _) (v : _) (op : Op) (a : Access) → R p v → side.next v op a
    → port.allows p op a × ((r : ℕ) (q : _) → port.moves p op a r q → side.tells v op a r × R q (side.after v op a r))

own_for : {P V : Type 0} (port : PortModel P) (side : SideModel V) (R : P → V → Type 0) → Keeps port side R → (n : ℕ) (p : P) (v : V)
    → R p v → IsOwnFor port side n p v
own_for port side R keeps zero p v h = tt
own_for port side R keeps (suc n) p v h = λ op a next. let k = keeps p v op a h next in
    (k.0, λ r q moved. let m = k.1 r q moved in (m.0, own_for port side R keeps n q (side.after v op a r) m.1))

-- such a relation makes the port own
pub own_by : {P V : Type 0} (port : PortModel P) (side : SideModel V) (R : P → V → Type 0) → Keeps port side R → (p : P) (v : V) → R p v
    → IsOwn port side p v
own_by port side R keeps p v h = own_from port side p v (λ n. own_for port side R keeps n p v h)
