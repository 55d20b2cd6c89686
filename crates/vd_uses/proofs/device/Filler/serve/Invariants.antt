use Rattle.vd_layout.specs.PlainRing.{IsDeviceMove}
use Rattle.vd_uses.specs.Filling.{IsReady, IsServed}
use Rattle.vd_uses.proofs.device.Filler.serve.Given as goal

abbrev pub invariant-loop-served : goal.invariant-loop-served
invariant-loop-served g l = record {
  ready : IsReady l.ring;
  served : IsServed l.self.most l.fn.ring.lists l.ring.lists l.served;
  same : IsDeviceMove l.fn.ring l.ring;
}
