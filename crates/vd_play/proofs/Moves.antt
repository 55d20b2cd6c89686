-- The chains of the first epochs, one epoch after the other: how many they are, and that the journal begins with them.
use Rattle.std.proofs.Common.{◌≡◌, ℕ, zero, suc, add-one, ◌+◌, ◌-◌, ◌≤◌, Some, List, ◌++◌, length, map, take, drop, flat_map, slice_get, refl, sym, ◌∙◌, ap, arith, length-append}
use mathlib.Core.List.{IsPrefix}
use Rattle.std.proofs.Math.Seq.{take-length}
use Rattle.std.proofs.lemmas.Grind.{flat_map-append}
use Rattle.std.proofs.lemmas.List.{append_assoc, length-drop, length-map, length-take-le, take_all, take-append-drop}
use Rattle.std.proofs.lemmas.Option.{slice_get_within}
use Rattle.vd_model.specs.declared.base.Mode.{Mode}
use Rattle.vd_model.specs.declared.base.Mode.TheVariants.{Pass, Shadow}
use Rattle.vd_model.specs.declared.chain.Piece.{Piece}
use Rattle.vd_model.specs.Moved.{moved}
use Rattle.vd_machine.specs.File.{Plan}
use Rattle.vd_play.specs.Before.{chains_before, chains_within}
use Rattle.vd_play.specs.Epochs.{Epoch, AreChained, begun_before}
use Rattle.vd_play.specs.Journal.{by_mode, queue_chains, queue_epochs, own_chains, epoch_chains, shadow_map, journal_chains}
use Rattle.vd_play.proofs.Bounds.{bounded, flat_more}
use Rattle.vd_play.proofs.Lists.{prefix_at, prefix_through}

-- ---- how many

by_mode_length : (m : Mode) (a b : List (List Piece)) (n : ℕ) → length a ≡ n → length b ≡ n → length (by_mode m a b) ≡ n
by_mode_length Pass a b n h k = h
by_mode_length Shadow a b n h k = k

-- an epoch has as many chains as are begun in it
pub epoch_length : (plan : Plan) (q : ℕ) (ep : Epoch) → ep.end ≤ length (queue_chains plan q)
    → length (epoch_chains plan q ep) ≡ ep.end - ep.first
epoch_length plan q ep low =
    let cs : List (List Piece) = queue_chains plan q in
    let mine : length (own_chains plan q ep) ≡ ep.end - ep.first =
    length-take-le (ep.end - ep.first) (drop ep.first cs) (omega (arith, length-drop ep.first cs)) in
    by_mode_length ep.mode (own_chains plan q ep) (map (moved (shadow_map plan)) (own_chains plan q ep)) (ep.end - ep.first) mine
    (length-map (own_chains plan q ep) (moved (shadow_map plan)) ∙ mine)

-- the chains of an epoch more
pub before_more : (plan : Plan) (q k : ℕ) (ep : Epoch) → slice_get (queue_epochs plan q) k ≡ Some ep
    → chains_before plan q (k + 1) ≡ chains_before plan q k ++ epoch_chains plan q ep
before_more plan q k ep is = flat_more (epoch_chains plan q) (queue_epochs plan q) k ep is

-- they are as many as are begun before the next epoch
pub before_length : (plan : Plan) (q k : ℕ) → AreChained (length (queue_chains plan q)) (queue_epochs plan q)
    → k ≤ length (queue_epochs plan q) → length (chains_before plan q k) ≡ begun_before (queue_epochs plan q) k
before_length plan q zero c le = refl
before_length plan q (suc k) c le =
    let cs : List (List Piece) = queue_chains plan q in
    let es : List Epoch = queue_epochs plan q in
    let b = bounded (length cs) es k c (omega arith) in
    let more : length (chains_before plan q (k + 1)) ≡ length (chains_before plan q k) + length (epoch_chains plan q b.epoch) =
    ap length (before_more plan q k b.epoch b.is) ∙ length-append (chains_before plan q k) (epoch_chains plan q b.epoch) in
    let sum : length (chains_before plan q (k + 1)) ≡ begun_before es (k + 1) =
    omega (
      arith,
      more,
      before_length plan q k c (omega arith),
      epoch_length plan q b.epoch (omega (arith, b.end, b.low)),
      b.first,
      b.end,
      b.rises,
    ) in
    ap (λ j. length (chains_before plan q j)) (sym (add-one k)) ∙ sum ∙ ap (begun_before es) (add-one k)

-- ---- the journal begins with them

-- those of all epochs are the journal's
pub before_all : (plan : Plan) (q : ℕ) → chains_before plan q (length (queue_epochs plan q)) ≡ journal_chains plan q
before_all plan q = ap (flat_map (epoch_chains plan q)) (take-length (queue_epochs plan q))

pub before_prefix : (plan : Plan) (q k : ℕ) → IsPrefix (chains_before plan q k) (journal_chains plan q)
before_prefix plan q k =
    let f : Epoch → List (List Piece) = epoch_chains plan q in
    let es : List Epoch = queue_epochs plan q in
    (flat_map f (drop k es), sym (flat_map-append f (take k es) (drop k es)) ∙ ap (flat_map f) (take-append-drop k es))

-- with the first ones of the next epoch's too
pub within_prefix : (plan : Plan) (q k m : ℕ) (ep : Epoch) → slice_get (queue_epochs plan q) k ≡ Some ep
    → IsPrefix (chains_within plan q k ep m) (journal_chains plan q)
within_prefix plan q k m ep is =
    let own : List (List Piece) = epoch_chains plan q ep in
    let old : List (List Piece) = chains_before plan q k in
    let here : chains_within plan q k ep m ++ drop m own ≡ chains_before plan q (k + 1) =
    append_assoc old (take m own) (drop m own) ∙ ap (λ xs. old ++ xs) (take-append-drop m own) ∙ sym (before_more plan q k ep is) in
    prefix_through (chains_within plan q k ep m) (chains_before plan q (k + 1)) (journal_chains plan q) (drop m own, here)
    (before_prefix plan q (k + 1))

-- ---- as the first ones of the journal's

pub before_first : (plan : Plan) (q k : ℕ) → AreChained (length (queue_chains plan q)) (queue_epochs plan q)
    → k ≤ length (queue_epochs plan q)
    → chains_before plan q k ≡ take (begun_before (queue_epochs plan q) k) (journal_chains plan q)
before_first plan q k c le =
    prefix_at (chains_before plan q k) (journal_chains plan q) (begun_before (queue_epochs plan q) k) (before_prefix plan q k)
    (before_length plan q k c le)

pub within_length : (plan : Plan) (q k m : ℕ) (ep : Epoch) → AreChained (length (queue_chains plan q)) (queue_epochs plan q)
    → slice_get (queue_epochs plan q) k ≡ Some ep → m ≤ ep.end - ep.first → length (chains_within plan q k ep m) ≡ ep.first + m
within_length plan q k m ep c is le =
    let own : List (List Piece) = epoch_chains plan q ep in
    let at = c.at k ep is in
    let below = slice_get_within (queue_epochs plan q) k ep is in
    omega (
      arith,
      length-append (chains_before plan q k) (take m own),
      before_length plan q k c (omega (arith, below)),
      at.0,
      length-take-le m own (omega (arith, epoch_length plan q ep at.2)),
    )

pub within_first : (plan : Plan) (q k m : ℕ) (ep : Epoch) → AreChained (length (queue_chains plan q)) (queue_epochs plan q)
    → slice_get (queue_epochs plan q) k ≡ Some ep → m ≤ ep.end - ep.first
    → chains_within plan q k ep m ≡ take (ep.first + m) (journal_chains plan q)
within_first plan q k m ep c is le =
    prefix_at (chains_within plan q k ep m) (journal_chains plan q) (ep.first + m) (within_prefix plan q k m ep is)
    (within_length plan q k m ep c is le)

-- at the epoch's end they are those before the next
pub within_end : (plan : Plan) (q k : ℕ) (ep : Epoch) → AreChained (length (queue_chains plan q)) (queue_epochs plan q)
    → slice_get (queue_epochs plan q) k ≡ Some ep → chains_within plan q k ep (ep.end - ep.first) ≡ chains_before plan q (k + 1)
within_end plan q k ep c is =
    let own : List (List Piece) = epoch_chains plan q ep in
    let at = c.at k ep is in
    ap (λ xs. chains_before plan q k ++ xs) (take_all (ep.end - ep.first) own (omega (arith, epoch_length plan q ep at.2)))
    ∙ sym (before_more plan q k ep is)

-- the journal has as many chains as the script
pub journal_length : (plan : Plan) (q : ℕ) → AreChained (length (queue_chains plan q)) (queue_epochs plan q)
    → length (journal_chains plan q) ≡ length (queue_chains plan q)
journal_length plan q c =
    let es : List Epoch = queue_epochs plan q in
    ap length (sym (before_all plan q)) ∙ before_length plan q (length es) c (omega arith) ∙ c.whole
