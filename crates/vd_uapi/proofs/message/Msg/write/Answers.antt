use Rattle.std.proofs.Common.{◌∙◌, ap, [], ◌∷◌, ◌++◌, List, ℕ, replicate, refl, arith, append_assoc}
use Rattle.vd_uapi.proofs.ByteLaws.{Written, put_next, set_next}
use Rattle.vd_uapi.proofs.message.Msg.write.Goals as goal

pub returns : goal.returns
returns c =
    let m = c.args.self.now in
    let w0 : Written (replicate 72 0) [] 0 72 = record { is = refl; len = refl } in
    let w1 = put_next 4 2 w0 (omega arith) c.put_u32.ensures in
    let w2 = put_next 4 m.asid w1 (omega arith) c.put_u32-2.ensures in
    let w3 = put_next 8 m.iova w2 (omega arith) c.put_u64.ensures in
    let w4 = put_next 8 m.size w3 (omega arith) c.put_u64-2.ensures in
    let w5 = put_next 8 m.uaddr w4 (omega arith) c.put_u64-3.ensures in
    let w6 = set_next m.perm w5 in
    let w7 = set_next m.kind w6 in
    w7.is ∙ ap (λ (q : List ℕ). q ++ replicate 38 0) (append_assoc _ (m.perm ∷ []) (m.kind ∷ []))
