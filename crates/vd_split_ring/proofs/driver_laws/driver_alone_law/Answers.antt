use Rattle.vd_split_ring.proofs.DriverViews.{driver_alone, driver_frame, driver_did}
use Rattle.vd_split_ring.proofs.driver_laws.driver_alone_law.Goals as goal

pub returns-clause-inside : goal.returns-clause-inside
returns-clause-inside c = driver_alone

pub returns-clause-frame : goal.returns-clause-frame
returns-clause-frame c = driver_frame

pub returns-clause-did : goal.returns-clause-did
returns-clause-did c = driver_did
