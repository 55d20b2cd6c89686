use Rattle.std.proofs.Common.{◌≡◌, ℕ, ◌+◌, ◌-◌, ◌<◌, List, [], ◌∷◌, ◌++◌, length, drop, ap, ◌∙◌, arith}
use Rattle.std.proofs.lemmas.List.{length_push}
use Rattle.circular_buffer.specs.Buffer.{Buffer, buffer, keep_last}
use Rattle.vd_ring.specs.History.{upto}
use Rattle.vd_ring.proofs.Counts.{length_upto}
use Rattle.vd_split.proofs.driver.make.all_places.Goals as goal

pushed : (xs : List ℕ) (n cap size : ℕ) (b : Buffer ℕ) → xs ≡ upto n → cap ≡ size → n < size
    → b ≡ buffer (keep_last cap (xs ++ n ∷ [])) cap → (b.items ≡ upto (n + 1)) × (b.capacity ≡ size)
pushed xs n cap size b is at low e =
    let len : length (xs ++ n ∷ []) ≡ n + 1 = length_push xs n ∙ ap (λ (l : List ℕ). length l + 1) is ∙ ap (λ k. k + 1) (length_upto n) in
    let none : length (xs ++ n ∷ []) - cap ≡ 0 = omega arith in (
      ap (λ (c : Buffer ℕ). c.items) e ∙ ap (λ k. drop k (xs ++ n ∷ [])) none ∙ ap (λ (l : List ℕ). l ++ n ∷ []) is
          ∙ ap upto (let z : Prim.Native.Nat.suc n ≡ n + 1 = omega arith in z),
      ap (λ (c : Buffer ℕ). c.capacity) e ∙ at,
    )

pub loop-place-preserved : goal.loop-place-preserved
loop-place-preserved c = pushed c.loop-place.free.items c.loop-place.place c.loop-place.free.capacity c.args.size c.push_back.new.self
    c.loop-place.invariant.0 c.loop-place.invariant.1 c.loop-place-test.true c.push_back.ensures.items
