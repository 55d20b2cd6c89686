-- A relay of a data queue: it moves each address by its map.
use Rattle.std.specs.Prelude.{◌≡◌, ℕ, List, [], map, Option, None, length, replicate}
use Rattle.vd_model.specs.declared.map.Mapping.{Mapping}
use Rattle.vd_words.specs.Model.{PortModel}
use Rattle.vd_words.specs.Own.{IsOwn}
use Rattle.vd_ring.specs.declared.driver.DriverDone.{DriverDone}
use Rattle.vd_ring.specs.declared.driver.DriverView.{DriverView}
use Rattle.vd_ring.specs.declared.device.DeviceDone.{DeviceDone}
use Rattle.vd_ring.specs.declared.device.DeviceView.{DeviceView}
use Rattle.vd_ring.specs.History.{collects, takes, gives}
use Rattle.vd_layout.specs.Driver.{DriverModel}
use Rattle.vd_layout.specs.Device.{DeviceModel}
use Rattle.vd_layout.specs.declared.moves.Move.{Move}
use Rattle.vd_table.specs.declared.Origin.{Origin}
use Rattle.vd_relay.specs.declared.counts.Counts.{Counts}
use Rattle.vd_relay.specs.declared.state.State.{State}
use Rattle.vd_relay.specs.Pairing.{ArePaired}
use Rattle.vd_relay.specs.Tie.{Start, moves, shift}
use Rattle.vd_relay.specs.Relay as any

abbrev pub Stands : {E D : Type 0} → DeviceModel E → DriverModel D → Start → State E D → DeviceView → DriverView → Type 0
Stands e d z r w v = any.Stands e d (moves z) r w v

abbrev pub Holds : {E D : Type 0} → DeviceModel E → DriverModel D → Start → State E D → Counts → DeviceView → DriverView → Type 0
Holds e d z r c w v = any.Holds e d (moves z) r c w v

-- on the guest's ring nothing is given, or one chain that runs, with the number and length of one collected on the shadow ring
abbrev pub GivesOne : ℕ → List DeviceDone → List DriverDone → List DeviceDone → Type 0
GivesOne b s o s' = any.GivesOne (map (shift b) (collects o)) s s'

abbrev pub OnGuest : {P E D : Type 0} → PortModel P → DeviceModel E → DriverModel D → Start → P → P → State E D → State E D → Counts
    → Counts → DeviceView → DriverView → Move → Type 0
OnGuest port e d z p q r r' c c' w v said = any.OnGuest port e d (moves z) p q r r' c c' w v said

abbrev pub OnShadow : {P E D : Type 0} → PortModel P → DeviceModel E → DriverModel D → Start → P → P → State E D → State E D → Counts
    → Counts → DeviceView → DriverView → Move → Type 0
OnShadow port e d z p q r r' c c' w v said = any.OnShadow port e d (moves z) p q r r' c c' w v said

abbrev pub IsRelayStep : {P Q E D : Type 0} → PortModel P → PortModel Q → DeviceModel E → DriverModel D → Start → P → P → Q → Q
    → DeviceView → DriverView → State E D → State E D → Counts → Counts → Move → Type 0
IsRelayStep p q e d z a a' b b' w v r r' c c' said = any.IsRelayStep p q e d (moves z) a a' b b' w v r r' c c' said

-- ---- the first, and the last

-- the ends of a new relay are free, and the table empty
pub record IsOpen {E D : Type 0} (e : DeviceModel E) (d : DriverModel D) (ms : List Mapping) (a : E) (c : D) (table : List (Option Origin))
    (w : DeviceView) (v : DriverView) : Type 0 where
  pub serves : e.stands a w
  pub drives : d.stands c v
  pub paired : ArePaired ms w.frame v.frame
  pub outstanding : length (takes w.done) ≡ length (gives w.done)
  pub fresh : v.done ≡ []
  pub empty : table ≡ replicate v.frame.size None

-- where it takes over
abbrev pub start : List Mapping → DeviceView → Start
start ms w = record { takes = takes w.done; gives = gives w.done; map = ms }

abbrev pub HandsBack : {E D : Type 0} → DeviceModel E → DriverModel D → Start → E → D → ℕ → DeviceView → DriverView → Type 0
HandsBack e d z a c target w v = any.HandsBack e d (moves z) a c target w v

-- ---- a relay that may make a step

abbrev pub CanStep : {P Q E D : Type 0} → PortModel P → PortModel Q → DeviceModel E → DriverModel D → List Mapping → P → Q → State E D
    → Counts → Type 0
CanStep p q e d ms a b r c = (z : Start) × (w : DeviceView) × (v : DriverView) × Holds e d z r c w v × (ms ≡ z.map)
    × IsOwn p e.side a w × IsOwn q d.side b v
