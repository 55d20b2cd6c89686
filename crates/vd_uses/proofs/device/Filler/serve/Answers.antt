use Rattle.std.proofs.Common.{◌∙◌}
use Rattle.vd_uses.proofs.Serving.{served_more}
use Rattle.vd_uses.proofs.device.Filler.serve.Goals as goal

pub loop-served-preserved : goal.loop-served-preserved
loop-served-preserved g c =
    let most = c.args.self.now.most in
    let a = c.args.ring.now in
    let b = c.loop-served.ring in
    let d = c.serve_next.new.ring in
    let i = c.loop-served.invariant in
    record {
      ready = c.serve_next.ensures.ready;
      served = served_more most a.lists b.lists d.lists c.loop-served.served 1 i.served
          c.if-not-serve_next.ensures.served;
      same = record {
        frame = c.serve_next.ensures.same.frame ∙ i.same.frame;
        wide = c.serve_next.ensures.same.wide ∙ i.same.wide;
        driver_armed = c.serve_next.ensures.same.driver_armed ∙ i.same.driver_armed;
      };
    }
