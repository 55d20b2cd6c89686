use Rattle.std.proofs.Common.{◌≡◌, ◌≢◌, ℕ, ◌+◌, ◌*◌, ◌/◌, ◌%◌, ◌<◌, ◌≤◌, List, length, take, drop, if◌then◌else◌, slice_index, slice_index_or, refl, sym, ap, ◌∙◌, arith}
use Rattle.std.proofs.lemmas.List.{length-take-le, get_or-take, get_or_past}
use Rattle.vd_model.specs.declared.chain.Piece.{Piece}
use Rattle.vd_model.specs.Chains.{blank}
use Rattle.vd_ring.specs.declared.frame.Put.{Put}
use Rattle.vd_split_ring.specs.SplitWords.{described, put, second, more}
use Rattle.vd_split_ring.proofs.Descriptors.{described_first, described_second, more_some, more_none}
use Rattle.vd_split.proofs.descriptors.descriptor_word.Goals as goal

-- word number `at` of the descriptors at the first places of the queue
word_at : List ℕ → List Piece → ℕ → Put
word_at fr c at = slice_index_or (described 0 (take (length c) fr) c) at (put 0 0)

even : (fr : List ℕ) (c : List Piece) (at : ℕ) → length c ≤ length fr → at < 2 * length c → at % 2 ≡ 0
    → (2 * slice_index fr (at / 2) ≡ (word_at fr c at).place) × ((slice_index_or c (at / 2) blank).addr ≡ (word_at fr c at).word)
unfolding word_at
even fr c at room below e =
    let r = described_first 0 (take (length c) fr) c at (at / 2) (length-take-le (length c) fr room) (omega arith) (omega arith) in
    let same = get_or-take (length c) fr (at / 2) 0 (omega arith) in
    (omega arith, sym r.1)

odd : (fr : List ℕ) (c : List Piece) (at : ℕ) → length c ≤ length fr → at < 2 * length c → at % 2 ≢ 0
    → (2 * slice_index fr (at / 2) + 1 ≡ (word_at fr c at).place)
    × ((word_at fr c at).word ≡ second (slice_index_or c (at / 2) blank) (drop (at / 2 + 1) c)
    (slice_index (take (length c) fr) (at / 2 + 1)))
unfolding word_at
odd fr c at room below e =
    let r = described_second 0 (take (length c) fr) c at (at / 2) (at / 2 + 1) (length-take-le (length c) fr room) (omega arith)
    (omega arith) refl in
    let same = get_or-take (length c) fr (at / 2) 0 (omega arith) in
    (omega arith, r.1)

word_is : (x : Piece) (m n q : ℕ) (cs : List Piece) → m ≡ more cs → n ≡ q → x.len + (m + (if x.write then 2 else 0)) * 4294967296
    + n * 281474976710656 ≡ second x cs q
word_is x m n q cs h k = ap (λ i. x.len + (i + (if x.write then 2 else 0)) * 4294967296 + n * 281474976710656) h
    ∙ ap (λ i. x.len + (more cs + (if x.write then 2 else 0)) * 4294967296 + i * 281474976710656) k

pub returns-then-at-eq0-clause-place : goal.returns-then-at-eq0-clause-place
unfolding word_at
returns-then-at-eq0-clause-place c = ap (λ n. 2 * n) c.place_at-place.ensures
    ∙ (even c.args.free.now.items c.args.pieces.now c.args.at c.requires.room c.requires.within c.if-at-eq0.true).0

pub returns-then-at-eq0-clause-word : goal.returns-then-at-eq0-clause-word
unfolding word_at
returns-then-at-eq0-clause-word c =
    (even c.args.free.now.items c.args.pieces.now c.args.at c.requires.room c.requires.within c.if-at-eq0.true).1

pub returns-then-i-pieces-clause-place : goal.returns-then-i-pieces-clause-place
unfolding word_at
returns-then-i-pieces-clause-place c = ap (λ n. 2 * n + 1) c.place_at-place.ensures
    ∙ (odd c.args.free.now.items c.args.pieces.now c.args.at c.requires.room c.requires.within c.if-at-eq0.false).0

pub returns-then-i-pieces-clause-word : goal.returns-then-i-pieces-clause-word
unfolding word_at
returns-then-i-pieces-clause-word c =
    let fr : List ℕ = c.args.free.now.items in let ch : List Piece = c.args.pieces.now in let j : ℕ = c.args.at / 2 + 1 in
    let more_in : j < length ch = omega (arith, c.if-i-pieces.true) in
    c.second.ensures ∙ word_is (slice_index_or ch (c.args.at / 2) blank) 1 c.place_at-next.result (slice_index (take (length ch) fr) j)
    (drop j ch) (sym (more_some ch j more_in)) (c.place_at-next.ensures ∙ sym (get_or-take (length ch) fr j 0 more_in))
    ∙ sym (odd fr ch c.args.at c.requires.room c.requires.within c.if-at-eq0.false).1

pub returns-clause-place : goal.returns-clause-place
unfolding word_at
returns-clause-place c = ap (λ n. 2 * n + 1) c.place_at-place.ensures
    ∙ (odd c.args.free.now.items c.args.pieces.now c.args.at c.requires.room c.requires.within c.if-at-eq0.false).0

pub returns-clause-word : goal.returns-clause-word
unfolding word_at
returns-clause-word c =
    let fr : List ℕ = c.args.free.now.items in let ch : List Piece = c.args.pieces.now in let j : ℕ = c.args.at / 2 + 1 in
    let past : length ch ≤ j = omega (arith, c.if-i-pieces.false) in
    c.second-2.ensures ∙ word_is (slice_index_or ch (c.args.at / 2) blank) 0 0 (slice_index (take (length ch) fr) j) (drop j ch)
    (sym (more_none ch j past)) (sym
    (get_or_past (take (length ch) fr) j 0 (omega (arith, length-take-le (length ch) fr c.requires.room))))
    ∙ sym (odd fr ch c.args.at c.requires.room c.requires.within c.if-at-eq0.false).1
