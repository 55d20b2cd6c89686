use Rattle.std.proofs.Common.{◌≡◌, ◌<◌, ℕ}
use Rattle.vd_machine.specs.File.{view}
use Rattle.vd_play.specs.Journal.{ring_in}
use Rattle.vd_play.specs.Setup.{with_vrings, vring_at, HasSizes, IsRing}
use Rattle.vd_play.proofs.setup.set_addrs.Given as goal

abbrev pub invariant-loop-q : goal.invariant-loop-q
invariant-loop-q l = record {
  same : l.bus ≡ with_vrings l.initial.bus l.bus.vrings;
  sizes : HasSizes (view l.m) l.bus;
  each : (k : ℕ) → k < l.q → IsRing (view l.m) (ring_in l.mode l.epoch k) k (vring_at (view l.m) l.bus k);
}
