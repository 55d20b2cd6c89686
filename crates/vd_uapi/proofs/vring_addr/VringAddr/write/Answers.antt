use Rattle.std.proofs.Common.{◌∙◌, [], replicate, refl, arith}
use Rattle.std.proofs.lemmas.List.{append-nil}
use Rattle.vd_uapi.proofs.ByteLaws.{Written, put_next}
use Rattle.vd_uapi.proofs.vring_addr.VringAddr.write.Goals as goal

pub returns : goal.returns
returns c =
    let v = c.args.self.now in
    let w0 : Written (replicate 40 0) [] 0 40 = record { is = refl; len = refl } in
    let w1 = put_next 4 v.index w0 (omega arith) c.put_u32.ensures in
    let w2 = put_next 4 v.flags w1 (omega arith) c.put_u32-2.ensures in
    let w3 = put_next 8 v.desc w2 (omega arith) c.put_u64.ensures in
    let w4 = put_next 8 v.used w3 (omega arith) c.put_u64-2.ensures in
    let w5 = put_next 8 v.avail w4 (omega arith) c.put_u64-3.ensures in
    let w6 = put_next 8 v.log w5 (omega arith) c.put_u64-4.ensures in
    w6.is ∙ append-nil _
