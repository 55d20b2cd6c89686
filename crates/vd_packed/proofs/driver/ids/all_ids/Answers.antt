use Rattle.std.proofs.Common.{◌≡◌, ℕ, ◌+◌, ◌-◌, ◌<◌, List, [], ◌∷◌, ◌++◌, length, drop, ap, ◌∙◌, arith}
use Rattle.std.proofs.lemmas.List.{length_push}
use Rattle.circular_buffer.specs.Buffer.{Buffer, buffer, keep_last}
use Rattle.vd_ring.specs.History.{upto}
use Rattle.vd_ring.proofs.Counts.{length_upto}
use Rattle.vd_packed.proofs.driver.ids.all_ids.Goals as goal

pushed : (xs : List ℕ) (n cap size : ℕ) (b : Buffer ℕ) → xs ≡ upto n → cap ≡ size → n < size
    → b ≡ buffer (keep_last cap (xs ++ n ∷ [])) cap → (b.items ≡ upto (n + 1)) × (b.capacity ≡ size)
pushed xs n cap size b is at low e =
    let len : length (xs ++ n ∷ []) ≡ n + 1 = length_push xs n ∙ ap (λ (l : List ℕ). length l + 1) is ∙ ap (λ k. k + 1) (length_upto n) in
    let none : length (xs ++ n ∷ []) - cap ≡ 0 = omega arith in (
      ap (λ (c : Buffer ℕ). c.items) e ∙ ap (λ k. drop k (xs ++ n ∷ [])) none ∙ ap (λ (l : List ℕ). l ++ n ∷ []) is
          ∙ ap upto (let z : Prim.Native.Nat.suc n ≡ n + 1 = omega arith in z),
      ap (λ (c : Buffer ℕ). c.capacity) e ∙ at,
    )

pub loop-id-preserved : goal.loop-id-preserved
loop-id-preserved c = pushed c.loop-id.free.items c.loop-id.id c.loop-id.free.capacity c.args.size c.push_back.new.self
    c.loop-id.invariant.0 c.loop-id.invariant.1 c.loop-id-test.true c.push_back.ensures.items
