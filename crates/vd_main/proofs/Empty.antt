-- Parties that have done nothing, one by one and in a list.
use Rattle.std.proofs.Common.{◌≡◌, List, [], None}
use Rattle.std.proofs.lemmas.List.Elements.{All-weaker}
use Rattle.std.specs.List.{All}
use Rattle.vd_bus.specs.Device.{DeviceParty}
use Rattle.vd_bus.specs.Guest.{GuestParty}
use Rattle.vd_play.specs.Prepared.{IsEmptyDevice, IsEmptyGuest}

pub empty_guests : {X : Type 0} (g : GuestParty X) (xs : List X)
    → All (λ x. (g.script x ≡ None) × (g.accesses x ≡ 0) × (g.heard x ≡ 0)) xs → All (IsEmptyGuest g) xs
empty_guests g xs h = All-weaker (λ x. (g.script x ≡ None) × (g.accesses x ≡ 0) × (g.heard x ≡ 0)) (IsEmptyGuest g)
    (λ x i. record { script = i.0; idle = (i.1, i.2) }) xs h

pub empty_devices : {X C : Type 0} (m : DeviceParty X C) (xs : List X)
    → All (λ x. (m.attached x ≡ None) × (m.events x ≡ []) × (m.begun x ≡ []) × (m.accesses x ≡ 0) × (m.heard x ≡ 0)) xs
    → All (IsEmptyDevice m) xs
empty_devices m xs h = All-weaker (λ x. (m.attached x ≡ None) × (m.events x ≡ []) × (m.begun x ≡ []) × (m.accesses x ≡ 0)
    × (m.heard x ≡ 0)) (IsEmptyDevice m) (λ x i. record { free = i.0; events = i.1; begun = i.2; idle = (i.3, i.4) }) xs h
