use Rattle.std.proofs.Common.{arith}
use Rattle.vd_control.proofs.Words.{IsWords, words_without}
use Rattle.vd_control.proofs.vlans.remove.Goals as goal

pub returns : goal.returns
returns c =
    let is : IsWords c.args.words.now = record { many = c.told-words; small = λ k h. c.fits-words k } in
    rw (c.word_of.ensures, c.mask_of.ensures) (words_without c.args.words.now c.args.vlan is (omega arith))
