-- What a side of a control ring has loaded of a chain's command and ack words. Lists of acts have the newest first.
use Rattle.std.specs.Prelude.{◌≡◌, ℕ, ◌==◌, List, [], ◌∷◌, length, Option, Some, None, if◌then◌else◌}
use Rattle.vd_ring.specs.declared.driver.DriverDone.{DriverDone}
use Rattle.vd_ring.specs.declared.driver.DriverDone.TheVariants.{Offer, Collect, StoreCommand, LoadAck}
use Rattle.vd_ring.specs.declared.device.DeviceDone.{DeviceDone}
use Rattle.vd_ring.specs.declared.device.DeviceDone.TheVariants.{Take, Give, Rest, StoreAck, LoadCommand}
use Rattle.vd_ring.specs.History.{takes}

-- one load: which of the two command words, and what stood there
pub record CommandLoad : Type 0 where
  pub half : ℕ
  pub word : ℕ

abbrev pub loaded : ℕ → ℕ → CommandLoad
loaded half word = record { half = half; word = word }

-- the loads of a chain's command words since it was taken, the newest first
abbrev pub command_loads : List DeviceDone → ℕ → List CommandLoad
command_loads [] k = []
command_loads (Take c h ∷ s) k = if length (takes s) == k then [] else command_loads s k
command_loads (Give us ∷ s) k = command_loads s k
command_loads (Rest ∷ s) k = command_loads s k
command_loads (StoreAck h x ∷ s) k = command_loads s k
command_loads (LoadCommand l half x ∷ s) k = if l == k then loaded half x ∷ command_loads s k else command_loads s k

-- both words were loaded, each once, the first before the second
abbrev pub AreLoaded : List CommandLoad → ℕ → ℕ → Type 0
AreLoaded loads first second = loads ≡ loaded 1 second ∷ loaded 0 first ∷ []

-- the ack word that was loaded last for a chain, if one was
abbrev pub ack_load : List DriverDone → ℕ → Option ℕ
ack_load [] k = None
ack_load (Offer c ∷ o) k = ack_load o k
ack_load (Collect us ∷ o) k = ack_load o k
ack_load (StoreCommand h i x ∷ o) k = ack_load o k
ack_load (LoadAck l x ∷ o) k = if l == k then Some x else ack_load o k
