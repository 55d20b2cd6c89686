-- An access of the shadow ring's driver adds at most one act.
use Rattle.std.proofs.Common.{◌≡◌, ℕ, List, ◌∷◌, ap, inl, inr}
use Rattle.vd_words.specs.declared.access.Access.{Access}
use Rattle.vd_words.specs.declared.access.Access.TheVariants.{Load, Store}
use Rattle.vd_words.specs.declared.access.Op.TheVariants.{Control}
use Rattle.vd_ring.specs.declared.act.DriverAct.{DriverAct}
use Rattle.vd_ring.specs.declared.act.DriverAct.TheVariants.{Moved, Nothing, Offered, Collected, Armed, Awake, Asleep}
use Rattle.vd_ring.specs.declared.driver.DriverDone.{DriverDone}
use Rattle.vd_ring.specs.declared.driver.DriverDone.TheVariants.{Offer, Collect, StoreCommand, LoadAck}
use Rattle.vd_ring.specs.declared.driver.DriverView.{DriverView}
use Rattle.vd_ring.specs.declared.frame.Frame.{Frame}
use Rattle.vd_ring.specs.History.{next_head}
use Rattle.vd_layout.specs.Begun.{DriverOp}
use Rattle.vd_layout.specs.Driver.{DriverModel, DriverSays, IsLawfulDriver}
use Rattle.vd_relay.specs.Acts.{AddsOneAct}

-- of an operation, by its answer
pub says_acts : (answer : DriverAct) (a a' : DriverOp) (f : Frame) (o o' : List DriverDone) → DriverSays answer a a' f o o'
    → AddsOneAct o o'
says_acts Moved a a' f o o' says = inl says.1
says_acts Nothing a a' f o o' says = inl says.2
says_acts (Offered k) a a' f o o' says = inr (Offer says.0, says.4)
says_acts (Collected k n h) a a' f o o' says = inr (Collect says.0, says.3)
says_acts Armed a a' f o o' says = inl says.2
says_acts Awake a a' f o o' says = inl says.2
says_acts Asleep a a' f o o' says = inl says.2

-- of a command word or an ack
pub shadow_word_acts : {D : Type 0} (d : DriverModel D) → IsLawfulDriver d → (v : DriverView) (x : Access) (got : ℕ)
    → d.side.next v Control x → AddsOneAct v.done (d.side.after v Control x got).done
shadow_word_acts d law v (Load p) got next =
    let n = (law.controls.loads v p).0 next in
    inr (LoadAck n.1.number got, ap (λ (y : DriverView). y.done) (law.controls.loaded v p got n.0 n.1))
shadow_word_acts d law v (Store p x) got next =
    let n = (law.controls.stores v p x).0 next in
    inr (StoreCommand (next_head v.frame v.done) n.1.half x, ap (λ (y : DriverView). y.done) (law.controls.stored v p x got n.0 n.1))
