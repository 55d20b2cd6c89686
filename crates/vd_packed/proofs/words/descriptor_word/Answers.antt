use Rattle.std.proofs.Common.{◌≡◌, ℕ, ◌%◌, Bool, true, false, ◌∙◌, inl, inr}
use Rattle.std.specs.Prelude.{◌⊎◌, ◌↔◌, IsTrue}
use Rattle.vd_packed.specs.laws.Offers.{addr_store, word_store}
use Rattle.vd_packed.proofs.words.descriptor_word.Goals as goal

untold : (b : Bool) (at : ℕ) → b ≡ false → (IsTrue b ↔ ((at ≡ 0) ⊎ (at % 2 ≡ 1))) → ((at ≡ 0) ⊎ (at % 2 ≡ 1)) → ⊥
untold b at e h k = let on : b ≡ true = h.1 k in cc (e, on)

pub returns-then-stores_address-clause-place : goal.returns-then-stores_address-clause-place
returns-then-stores_address-clause-place c =
    λ n q at. (addr_store c.args.ring_position c.args.id c.args.pieces.now c.args.at n q
    (c.stores_address.ensures.0 c.if-stores_address.true) c.requires.0 at).0

pub returns-then-stores_address-clause-word : goal.returns-then-stores_address-clause-word
returns-then-stores_address-clause-word c =
    λ n q at. (addr_store c.args.ring_position c.args.id c.args.pieces.now c.args.at n q
    (c.stores_address.ensures.0 c.if-stores_address.true) c.requires.0 at).1

pub returns-clause-place : goal.returns-clause-place
returns-clause-place c = λ n q at.
    let no = untold c.stores_address.result c.args.at c.if-stores_address.false c.stores_address.ensures in
    (word_store c.args.ring_position c.args.id c.args.pieces.now c.args.at n q (λ e. no (inl e)) (λ e. no (inr e)) c.requires.0 at).0

pub returns-clause-word : goal.returns-clause-word
returns-clause-word c = λ n q at.
    let no = untold c.stores_address.result c.args.at c.if-stores_address.false c.stores_address.ensures in
    c.available_word-word.ensures ∙ (word_store c.args.ring_position c.args.id c.args.pieces.now c.args.at n q (λ e. no (inl e))
    (λ e. no (inr e)) c.requires.0 at).1
