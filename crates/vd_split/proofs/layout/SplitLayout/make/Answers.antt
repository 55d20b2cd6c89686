use Rattle.vd_split.specs.laws.SplitLayout.{fresh_ends}
use Rattle.vd_split.proofs.layout.SplitLayout.make.Goals as goal

pub returns : goal.returns
returns c = fresh_ends c.args.size c.args.f c.args.control c.in_ok-driver.driver c.in_ok-device.device c.requires
    c.in_ok-driver.ensures.stands c.in_ok-device.ensures.stands c.in_ok-driver.ensures.idle c.in_ok-device.ensures.idle
