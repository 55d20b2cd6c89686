-- What rounds of the guests alone leave of still lanes: devices have no part in them, so this holds whatever they have done.
use Rattle.std.specs.Prelude.{◌≡◌, ℕ, ◌+◌, ◌≤◌, false, List, length}
use Rattle.std.specs.List.{sum_by}
use Rattle.vd_machine.specs.File.{Plan}
use Rattle.vd_play.specs.declared.floor.Lane.{Lane}
use Rattle.vd_play.specs.Each.{EachLane}
use Rattle.vd_play.specs.Progress.{InEpoch, steps}
use Rattle.vd_play.specs.Setting.{Setting}

-- so it is with each lane, still and one or more rounds after epoch k
abbrev pub AllWait : {L D E G X C : Type 0} → Setting D E G X C → Plan → ℕ → ℕ → List (Lane L D E) → List G → List X → Type 0
AllWait s plan k n lanes guests devices = EachLane (λ q a b x. InEpoch s plan q false k n a b x) lanes guests devices

-- a still lane is one round further, and its guest has made so many steps that were no looks
abbrev pub GuestGoes : {L D E G X C : Type 0} → Setting D E G X C → Lane L D E → Lane L D E → G → G → ℕ → Type 0
GuestGoes {L} {D} {E} {G} {X} s a a' b b' made = (plan : Plan) (q k n : ℕ) (x : X) → InEpoch s plan q false k n a b x
    → InEpoch s plan q false k (n + 1) a' b' x × (steps s a'.relayed b' x ≡ steps s a.relayed b x + made)

-- all lanes are one round further
pub record GuestsGo {L D E G X C : Type 0} (s : Setting D E G X C) (lanes lanes' : List (Lane L D E)) (guests guests' : List G) (made : ℕ)
    : Type 0 where
  pub wait : (plan : Plan) (k n : ℕ) (devices : List X) → length lanes ≤ length devices → AllWait s plan k n lanes guests devices
      → AllWait s plan k (n + 1) lanes' guests' devices
  pub counted : sum_by s.guest.accesses guests' + sum_by (λ (l : Lane L D E). l.relayed) lanes'
      ≡ sum_by s.guest.accesses guests + sum_by (λ (l : Lane L D E). l.relayed) lanes + made
