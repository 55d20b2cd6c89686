use Rattle.std.proofs.Common.{◌∙◌, arith, sym, take, drop, take-append-drop}
use Rattle.std.proofs.lemmas.List.{take_rest}
use Rattle.vd_stream.proofs.Steps.{appends_more, appends_kept}
use Rattle.vd_stream.proofs.sink.put_all.Goals as goal

pub loop-at-preserved : goal.loop-at-preserved
loop-at-preserved g c = record {
  held = appends_more _ _ _ c.args.bytes.now c.loop-at.at c.in-Ok.count c.loop-at.invariant.held
      (rw (take_rest c.args.bytes.now c.loop-at.at) at c.in-Ok.ensures.bytes);
  same = c.in-Ok.ensures.cause.ok ∙ c.loop-at.invariant.same;
  within = omega (arith, c.in-Ok.ensures.bound);
}

pub returns-in-Err-clause-err : goal.returns-in-Err-clause-err
returns-in-Err-clause-err g c = record {
  front = take c.loop-at.at c.args.bytes.now;
  rest = drop c.loop-at.at c.args.bytes.now;
  parts = sym (take-append-drop c.loop-at.at c.args.bytes.now);
  held = appends_kept _ _ _ _ c.loop-at.invariant.held c.in-Err.ensures.bytes;
}
