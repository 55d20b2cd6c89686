use Rattle.std.proofs.Common.{◌≡◌, ◌<◌, ℕ, length}
use Rattle.vd_machine.specs.File.{view}
use Rattle.vd_play.specs.Journal.{ring_in}
use Rattle.vd_play.specs.Places.{queue_total}
use Rattle.vd_play.specs.Setup.{IsBrought, IsRing, vring_at}
use Rattle.vd_play.proofs.setup.bring_up.Given as goal

abbrev pub invariant-loop-q : goal.invariant-loop-q
invariant-loop-q l = record {
  brought : IsBrought (view l.m) l.bus;
  many : length l.bus.vrings ≡ queue_total (view l.m);
  each : (k : ℕ) → k < l.q → IsRing (view l.m) (ring_in l.mode l.epoch k) k (vring_at (view l.m) l.bus k);
}
