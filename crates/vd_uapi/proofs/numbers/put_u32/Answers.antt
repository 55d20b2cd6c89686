use Rattle.vd_uapi.proofs.ByteLaws.{put_at}
use Rattle.vd_uapi.proofs.numbers.put_u32.Goals as goal

pub returns : goal.returns
returns c = put_at 4 _ _ _ _ c.write_u32.ensures
