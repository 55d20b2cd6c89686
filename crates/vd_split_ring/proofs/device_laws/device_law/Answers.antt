use Rattle.vd_split_ring.proofs.DeviceKeeping.{device_keeps}
use Rattle.vd_split_ring.proofs.device_laws.device_law.Goals as goal

pub returns : goal.returns
returns c = device_keeps
