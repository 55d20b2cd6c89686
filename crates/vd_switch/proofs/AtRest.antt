-- A shadowing lane of which every party sleeps without a signal.
use Rattle.std.proofs.Common.{◌≡◌, ℕ, List, length, ap, arith}
use Rattle.std.proofs.lemmas.List.{length-drop}
use Rattle.vd_model.specs.declared.chain.Piece.{Piece}
use Rattle.vd_ring.specs.declared.driver.DriverView.{DriverView}
use Rattle.vd_ring.specs.declared.device.DeviceView.{DeviceView}
use Rattle.vd_ring.specs.declared.frame.Used.{Used}
use Rattle.vd_ring.specs.History.{offers, collects, takes, gives}
use Rattle.vd_ring.specs.Signals.{nothing}
use Rattle.vd_ring.specs.Sleep.{DriverWaits, DeviceWaits, driver_owed, device_owed}
use Rattle.vd_ring.proofs.Quiet.{quiet_device, quiet_driver}
use Rattle.vd_layout.specs.Driver.{DriverModel}
use Rattle.vd_layout.specs.Device.{DeviceModel}
use Rattle.vd_layout.specs.Layout.{LayoutModel, IsLawfulLayout}
use Rattle.vd_relay.specs.Tie.{Start}
use Rattle.vd_relay.specs.Commanding.{Takeover, carries}
use Rattle.vd_relay.specs.Ways.{IsReplayed}
use Rattle.vd_switch.specs.Sleeping.{Sleeps, SleepsOn, IsAtRest, IsControlAtRest}

pub at_rest : {E D : Type 0} (e : DeviceModel E) (d : DriverModel D) (l : LayoutModel) → IsLawfulLayout d e l → (z : Start)
    (words shadow_words : List ℕ) (v : DriverView) (w : DeviceView) (sv : DriverView) (sw : DeviceView) → l.ring words v w
    → l.ring shadow_words sv sw → Sleeps z w sv → driver_owed v.doing ≡ nothing → DeviceWaits v w → DriverWaits sv sw → DeviceWaits sv sw
    → IsAtRest z v w sv sw
at_rest e d l law z words shadow_words v w sv sw ring shadow_ring sleeps none guest shadow device =
    let places = law.places words v w ring in
    let lists = law.lists words v w ring in
    let signals = law.signals words v w ring in
    let inner_places = law.places shadow_words sv sw shadow_ring in
    let inner_lists = law.lists shadow_words sv sw shadow_ring in
    let inner_signals = law.signals shadow_words sv sw shadow_ring in
    let taken : takes w.done ≡ offers v.done = quiet_device v w places lists signals guest none in
    let begun : takes sw.done ≡ offers sv.done =
    quiet_device sv sw inner_places inner_lists inner_signals device (ap driver_owed shadow.idle) in
    let finished : collects sv.done ≡ gives sw.done =
    quiet_driver sv sw inner_places inner_lists inner_signals shadow (ap device_owed device.idle) in record {
      taken = taken;
      begun = begun;
      finished = finished;
      all_begun = omega (
        arith,
        sleeps.offered,
        ap (λ (cs : List (List Piece)). length cs) taken,
        ap (λ (cs : List (List Piece)). length cs) begun,
      );
      all_given = omega (arith, sleeps.given, ap (λ (us : List Used). length us) finished);
      collected = λ waits. quiet_driver v w places lists signals waits (ap device_owed guest.idle);
    }

pub control_at_rest : {E D : Type 0} (e : DeviceModel E) (d : DriverModel D) (l : LayoutModel) → IsLawfulLayout d e l → (y : Takeover)
    (words shadow_words : List ℕ) (v : DriverView) (w : DeviceView) (sv : DriverView) (sw : DeviceView) → l.ring words v w
    → l.ring shadow_words sv sw → SleepsOn (carries y) w sv → IsReplayed y.replayed sv.done → driver_owed v.doing ≡ nothing
    → DeviceWaits v w → DriverWaits sv sw → DeviceWaits sv sw → IsControlAtRest y v w sv sw
control_at_rest e d l law y words shadow_words v w sv sw ring shadow_ring sleeps follows none guest shadow device =
    let places = law.places words v w ring in
    let lists = law.lists words v w ring in
    let signals = law.signals words v w ring in
    let inner_places = law.places shadow_words sv sw shadow_ring in
    let inner_lists = law.lists shadow_words sv sw shadow_ring in
    let inner_signals = law.signals shadow_words sv sw shadow_ring in
    let taken : takes w.done ≡ offers v.done = quiet_device v w places lists signals guest none in
    let begun : takes sw.done ≡ offers sv.done =
    quiet_device sv sw inner_places inner_lists inner_signals device (ap driver_owed shadow.idle) in
    let finished : collects sv.done ≡ gives sw.done =
    quiet_driver sv sw inner_places inner_lists inner_signals shadow (ap device_owed device.idle) in record {
      taken = taken;
      begun = begun;
      finished = finished;
      all_begun = omega (
        arith,
        sleeps.offered,
        length-drop y.replayed (offers sv.done),
        follows.offered,
        ap (λ (cs : List (List Piece)). length cs) taken,
        ap (λ (cs : List (List Piece)). length cs) begun,
      );
      all_given = omega (
        arith,
        sleeps.given,
        length-drop y.replayed (collects sv.done),
        follows.collected,
        ap (λ (us : List Used). length us) finished,
      );
      collected = λ waits. quiet_driver v w places lists signals waits (ap device_owed guest.idle);
    }
