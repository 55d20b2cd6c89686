-- A replay that sleeps waits for one command, which lies before the shadow ring's device or before the relay.
use Rattle.std.proofs.Common.{◌≡◌, ℕ, List, [], length, ap, subst, arith}
use Rattle.vd_model.specs.declared.chain.Piece.{Piece}
use Rattle.vd_ring.specs.declared.driver.DriverView.{DriverView}
use Rattle.vd_ring.specs.declared.device.DeviceView.{DeviceView}
use Rattle.vd_ring.specs.declared.frame.Used.{Used}
use Rattle.vd_ring.specs.History.{offers, collects, takes, gives, running}
use Rattle.vd_ring.specs.Sleep.{DriverWaits, DeviceWaits, driver_owed, device_owed}
use Rattle.vd_ring.proofs.Quiet.{quiet_device, quiet_driver}
use Rattle.vd_layout.specs.Driver.{DriverModel}
use Rattle.vd_layout.specs.Device.{DeviceModel}
use Rattle.vd_layout.specs.Layout.{LayoutModel, IsLawfulLayout}
use Rattle.vd_control.specs.Settings.{replay}
use Rattle.vd_relay.specs.declared.replay.Replay.{Replay}
use Rattle.vd_relay.specs.declared.replay.ReplayStage.{ReplayStage}
use Rattle.vd_relay.specs.declared.replay.ReplayStage.TheVariants.{Hearing}
use Rattle.vd_relay.specs.Replays.{Replays, IsAt}

pub replay_awake : {E D : Type 0} (e : DeviceModel E) (d : DriverModel D) (l : LayoutModel) → IsLawfulLayout d e l → (k : Replay)
    (shadow : D) (shadow_words : List ℕ) (sv : DriverView) (sw : DeviceView) → l.ring shadow_words sv sw → Replays l d k shadow sv
    → k.stage ≡ Hearing → DriverWaits sv sw → DeviceWaits sv sw → running sw.done ≡ [] → ⊥
replay_awake e d l law k shadow shadow_words sv sw ring h is driver device none =
    let places = law.places shadow_words sv sw ring in
    let lists = law.lists shadow_words sv sw ring in
    let signals = law.signals shadow_words sv sw ring in
    let begun : takes sw.done ≡ offers sv.done = quiet_device sv sw places lists signals device (ap driver_owed driver.idle) in
    let finished : collects sv.done ≡ gives sw.done = quiet_driver sv sw places lists signals driver (ap device_owed device.idle) in
    let at : IsAt Hearing (replay k.settings) k.next sv.frame sv.done =
    subst (λ (x : ReplayStage). IsAt x (replay k.settings) k.next sv.frame sv.done) is h.at in
    absurd (omega (
      arith,
      at.1.offered,
      at.1.collected,
      lists.count,
      ap (λ (cs : List (List Piece)). length cs) begun,
      ap (λ (us : List Used). length us) finished,
      ap (λ (ks : List ℕ). length ks) none,
    ))
