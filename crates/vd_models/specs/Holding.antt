-- The chains that a model device has begun and not given.
use Rattle.std.specs.Prelude.{◌≡◌, ℕ, ◌+◌, ◌-◌, ◌<◌, ◌==◌, Bool, true, false, Option, List, [], length, map, take, drop, slice_get, slice_index_or, nat_lt, min, if◌then◌else◌}
use Rattle.std.specs.List.{All}
use Rattle.vd_model.specs.declared.chain.Piece.{Piece}
use Rattle.vd_model.specs.declared.record.Begun.{Begun}
use Rattle.vd_model.specs.Chains.{readable, writable}
use Rattle.vd_ring.specs.declared.device.DeviceDone.{DeviceDone}
use Rattle.vd_ring.specs.declared.frame.Frame.{Frame}
use Rattle.vd_ring.specs.History.{entry, takes, gives, running, numbers, occurs}
use Rattle.vd_bus.specs.declared.device.Attached.{Attached}
use Rattle.vd_bus.specs.Device.{IsJournalled, chains_of, lens_of}
use Rattle.circular_buffer.specs.Buffer.{last_item}
use Rattle.vd_models.specs.declared.serving.Phase.{Phase}
use Rattle.vd_models.specs.declared.serving.Phase.TheVariants as phase
use Rattle.vd_models.specs.declared.window.Held.{Held}

-- the chain that is given next, and those that are left then
abbrev pub next_held : Bool → List Held → Option Held
next_held true hs = slice_get hs 0
next_held false hs = last_item hs

abbrev pub rest_held : Bool → List Held → List Held
rest_held true hs = drop 1 hs
rest_held false hs = take (length hs - 1) hs

abbrev pub held_numbers : List Held → List ℕ
held_numbers hs = map (λ h. h.number) hs

-- each chain taken runs or is given, and only once
abbrev pub IsSpread : List DeviceDone → Type 0
IsSpread s = (k : ℕ) → occurs k (running s) + occurs k (numbers (gives s)) ≡ (if nat_lt k (length (takes s)) then 1 else 0)

-- the chains held are those that run, each with the length that the journal has for it; under IN_ORDER they are the next to give
pub record IsHeld (begun : List Begun) (by : Attached) (hs : List Held) (f : Frame) (s : List DeviceDone) : Type 0 where
  pub spread : IsSpread s
  pub hand : held_numbers hs ≡ running s
  pub as_many : length (takes s) ≡ length (gives s) + length hs
  pub noted : All (λ h. IsJournalled begun by.at by.from (entry h.number h.len)) hs
  pub order : f.features.in_order ≡ true → (j : ℕ) (d : Held) → j < length hs → (slice_index_or hs j d).number ≡ length (gives s) + j

-- the length that a chain is given with: the smaller of what may be read and written
abbrev pub given_len : List Piece → ℕ
given_len c = min (readable c) (writable c)

-- each chain that was begun has that length
abbrev pub HaveLens : List Begun → Type 0
HaveLens bs = lens_of bs ≡ map given_len (chains_of bs)

abbrev pub begun_of : List Piece → Begun
begun_of c = record { chain = c; len = given_len c; bytes = record { items = [] } }

abbrev pub held_of : ℕ → List Piece → Held
held_of k c = record { number = k; len = given_len c }

-- ---- the room

abbrev pub capacity_of : {E : Type 0} → Phase E → ℕ
capacity_of phase.Unreserved = 0
capacity_of (phase.Free held) = held.capacity
capacity_of (phase.Serving s) = s.held.capacity
capacity_of (phase.Commanding c) = c.session.held.capacity

abbrev pub journal_room : {E : Type 0} → Phase E → ℕ → ℕ
journal_room p room = if capacity_of p == 0 then 0 else room
