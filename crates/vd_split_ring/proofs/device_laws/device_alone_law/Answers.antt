use Rattle.vd_split_ring.proofs.DeviceViews.{device_inside, device_frame, device_did}
use Rattle.vd_split_ring.proofs.device_laws.device_alone_law.Goals as goal

pub returns-clause-inside : goal.returns-clause-inside
returns-clause-inside c = device_inside

pub returns-clause-frame : goal.returns-clause-frame
returns-clause-frame c = device_frame

pub returns-clause-did : goal.returns-clause-did
returns-clause-did c = device_did
