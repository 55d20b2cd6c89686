use Rattle.std.proofs.Common.{refl, sym}
use Rattle.vd_control.specs.Settings.{has_vlan}
use Rattle.vd_control.proofs.Words.{IsWords, words_of_same}
use Rattle.vd_control.proofs.vlans.words_come_back.Goals as goal

pub returns : goal.returns
returns c =
    let is : IsWords c.args.words.now = record { many = c.told-words; small = λ k h. c.fits-words k } in
    sym (words_of_same c.args.words.now (has_vlan c.args.words.now) is (λ v h. refl))
