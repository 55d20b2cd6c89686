use Rattle.std.proofs.Common.{◌∙◌, refl}
use Rattle.vd_machine.specs.Rings.{is_feature}
use Rattle.vd_machine.proofs.Lists.{all_viewed}
use Rattle.vd_machine.proofs.rings.each_is_feature.Goals as goal

pub returns : goal.returns
returns c = c.all_features.ensures ∙ all_viewed is_feature c.args.values.now _ refl
