-- What an answer of a device's step says of its acts.
use Rattle.std.specs.Prelude.{◌≡◌, ◌⊎◌, ℕ, List, ◌∷◌, length}
use Rattle.vd_ring.specs.declared.act.DeviceAct.{DeviceAct}
use Rattle.vd_ring.specs.declared.act.DeviceAct.TheVariants as act
use Rattle.vd_ring.specs.declared.frame.Used.{Used}
use Rattle.vd_ring.specs.declared.device.DeviceDone.{DeviceDone}
use Rattle.vd_ring.specs.declared.device.DeviceDone.TheVariants.{Take, Give, Rest, StoreAck, LoadCommand}
use Rattle.vd_ring.specs.History.{takes, last_used}

-- a control access was made
abbrev pub IsControlAct : List DeviceDone → List DeviceDone → Type 0
IsControlAct s s' = ((k i x : ℕ) × (s' ≡ LoadCommand k i x ∷ s)) ⊎ ((h x : ℕ) × (s' ≡ StoreAck h x ∷ s))

-- the acts before an access and after it, where it answers so: Taken takes its chain, whose number is the count of chains taken,
-- Given gives entries whose last is of its chain, Rested rests; a control access and no other moves and adds an act of its own
abbrev pub Did : DeviceAct → List DeviceDone → List DeviceDone → Type 0
Did (act.Taken k c) s s' = (k ≡ length (takes s)) × ((h : ℕ) × (s' ≡ Take c h ∷ s))
Did (act.Given k) s s' = (us : List Used) × (s' ≡ Give us ∷ s) × ((last_used us).number ≡ k)
Did act.Rested s s' = s' ≡ Rest ∷ s
Did act.Moved s s' = (s' ≡ s) ⊎ IsControlAct s s'
Did _ s s' = s' ≡ s
