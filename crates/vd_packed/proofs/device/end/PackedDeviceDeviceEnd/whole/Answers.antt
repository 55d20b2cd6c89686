use Rattle.std.proofs.Common.{ℕ, List, length, Option, ap, sym, ◌∙◌, arith}
use Rattle.vd_packed.specs.DeviceEnd.{number_at}
use Rattle.vd_packed.specs.laws.DeviceLaws.{whole_from, whole_to}
use Rattle.vd_packed.specs.declared.device.PackedDevice.{PackedDevice}
use Rattle.vd_packed.proofs.device.end.PackedDeviceDeviceEnd.whole.Goals as goal

pub returns : goal.returns
returns c = λ w st.
    let e : PackedDevice = c.args.self.now in let is = c.deref.ensures.value in (
      λ t. whole_from e.running.items e.counts.items (length e.guesses.items) w.frame w.done st.holds (λ h k there.
          let below = (c.none_below.ensures).0 t h k (ap (λ (xs : List (Option ℕ)). number_at xs h) is ∙ there) in
          omega (arith, st.counts.gives)),
      λ whole. (c.none_below.ensures).1 (λ h k there.
          let below = whole_to e.running.items e.counts.items (length e.guesses.items) w.frame w.done st.holds whole h k
          (sym (ap (λ (xs : List (Option ℕ)). number_at xs h) is) ∙ there) in omega (arith, st.counts.gives)),
    )
