use Rattle.std.proofs.Common.{◌∙◌, [], replicate, refl, arith}
use Rattle.std.proofs.lemmas.List.{append-nil}
use Rattle.vd_uapi.proofs.ByteLaws.{Written, put_next}
use Rattle.vd_uapi.proofs.vring_state.VringState.write.Goals as goal

pub returns : goal.returns
returns c =
    let w0 : Written (replicate 8 0) [] 0 8 = record { is = refl; len = refl } in
    let w1 = put_next 4 c.args.self.now.index w0 (omega arith) c.put_u32.ensures in
    let w2 = put_next 4 c.args.self.now.num w1 (omega arith) c.put_u32-2.ensures in
    w2.is ∙ append-nil _
