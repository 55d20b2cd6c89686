use Rattle.std.proofs.Common.{ℕ, ◌+◌, Some, ap}
use Rattle.std.specs.Vec.{with_item}
use Rattle.vd_packed.specs.declared.device.PackedDevice.{PackedDevice}
use Rattle.vd_packed.specs.declared.device.DeviceStep.TheVariants as step
use Rattle.vd_packed.proofs.device.PackedDevice.take_in.Goals as goal

-- the end after a chain with this id was counted
abbrev counted : PackedDevice → PackedDevice → ℕ → ℕ → PackedDevice
counted e e2 id n = record e {
  taken = e.taken + 1;
  next = e.at;
  next_position = e.next_position + n;
  running =
      with_item e.running id (Some e.taken);
  counts = with_item e.counts id n;
  guesses = e2.guesses;
  doing = step.Idle;
}

pub returns-clause-counted : goal.returns-clause-counted
returns-clause-counted c =
    let e : PackedDevice = c.args.self.now in
    record {
      guesses = c.remember.ensures;
      kept =
          ap (λ k. counted e (record e { guesses = c.remember.new.guesses }) k c.args.count) c.lane16-head.ensures;
    }
