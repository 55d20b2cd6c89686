-- The places of the words of a command that was taken have 32 bits.
use Rattle.std.proofs.Common.{◌≡◌, ℕ, ◌<◌, true, List, [], ◌∷◌, refl, arith}
use Rattle.vd_model.specs.declared.chain.Piece.{Piece}
use Rattle.vd_words.specs.declared.access.Access.TheVariants.{Load, Store}
use Rattle.vd_words.specs.declared.access.Op.TheVariants.{Control}
use Rattle.vd_ring.specs.declared.device.DeviceDone.TheVariants.{Take}
use Rattle.vd_ring.specs.declared.device.DeviceNow.TheVariants as now
use Rattle.vd_ring.specs.declared.device.DeviceView.{DeviceView}
use Rattle.vd_layout.specs.Driver.{DriverModel}
use Rattle.vd_layout.specs.Device.{DeviceModel, IsTaken}
use Rattle.vd_layout.specs.Layout.{LayoutModel, IsLawfulLayout}
use Rattle.vd_relay.specs.Carrying.{IsCommandAt}

module _ {E D : Type 0} (l : LayoutModel) (d : DriverModel D) (e : DeviceModel E) (lay : IsLawfulLayout d e l) (w : DeviceView)
    (head : ℕ) (framed : l.lawful_frame w.frame) (control : w.frame.control ≡ true) (inside : head < w.frame.size) where
  command_low : e.words.command w.frame head < 4294967296
  command_low =
      let u : DeviceView = record w { doing = now.Idle; done = Take [] head ∷ [] } in
      let p : ℕ = e.words.command w.frame head in
      omega (
        arith,
        lay.narrow w.frame framed,
        lay.device_low u Control (Load p) framed ((lay.device_end.controls.loads u p).1 (
          refl,
          record {
            control = control;
            number = 0;
            runs = (0, omega arith, refl);
            inside = inside;
            half = 0;
            two = omega arith;
            place = omega arith;
          },
        )),
      )

  ack_low : e.words.ack w.frame head < 4294967296
  ack_low =
      let u : DeviceView = record w { doing = now.Idle; done = Take [] head ∷ [] } in
      let p : ℕ = e.words.ack w.frame head in
      omega (
        arith,
        lay.narrow w.frame framed,
        lay.device_low u Control (Store p 0) framed ((lay.device_end.controls.stores u p 0).1 (
          refl,
          record {
            control = control;
            number = 0;
            runs = (0, omega arith, refl);
            inside = inside;
            place = refl;
          },
        )),
      )

  pub is_command_at : (c : List Piece) → IsTaken e.words w.frame w.done c head
      → IsCommandAt (e.words.command w.frame head) (e.words.ack w.frame head) c
  is_command_at c t = record { chain = t.control control; low = command_low; ack_low = ack_low }

  pub command_at : (c : List Piece) → IsTaken e.words w.frame w.done c head → (a : ℕ) × (b : ℕ) × IsCommandAt a b c
  command_at c t = (e.words.command w.frame head, e.words.ack w.frame head, is_command_at c t)
