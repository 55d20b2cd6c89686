use Rattle.std.proofs.Common.{ℕ, ◌<◌, ◌^◌, arith, subst}
use Rattle.vd_control.proofs.Words.{IsWords, words_with}
use Rattle.vd_control.proofs.vlans.add.Goals as goal

pub returns : goal.returns
returns c =
    let is : IsWords c.args.words.now = record { many = c.told-words; small = λ k h. c.fits-words k } in
    rw (c.word_of.ensures, c.mask_of.ensures)
    (words_with c.args.words.now c.args.vlan is (omega arith) (subst (λ (m : ℕ). m < 2 ^ 64) c.mask_of.ensures c.mask_of.type_inv))
