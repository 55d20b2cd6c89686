-- The chains of an epoch that were begun so far.
use Rattle.std.proofs.Common.{◌≡◌, ℕ, ◌-◌, ◌≤◌, List, [], ◌∷◌, ◌++◌, length, map, take, drop, refl, sym, ◌∙◌, ap}
use Rattle.std.specs.List.{All}
use Rattle.std.proofs.lemmas.Bool.{and_parts, leb-true}
use Rattle.std.proofs.lemmas.List.{map-append, take-append-drop, drop-append-le, take-map}
use Rattle.std.proofs.lemmas.List.Elements.{All-head, All-tail, All-take, All-drop, All-weaker}
use Rattle.std.specs.Option.{is_some}
use mathlib.Core.List.{IsPrefix}
use Rattle.vd_model.specs.declared.base.Mode.TheVariants.{Shadow}
use Rattle.vd_model.specs.declared.chain.Piece.{Piece}
use Rattle.vd_model.specs.declared.record.Begun.{Begun}
use Rattle.vd_model.specs.Maps.{to}
use Rattle.vd_model.specs.Moved.{moved}
use Rattle.vd_ring.specs.Frames.{Fits}
use Rattle.vd_layout.specs.Layout.{LayoutModel}
use Rattle.vd_bus.specs.Device.{chains_of}
use Rattle.vd_machine.specs.File.{Plan}
use Rattle.vd_switch.proofs.Undo.{take_take}
use Rattle.vd_play.specs.Before.{chains_before, chains_within}
use Rattle.vd_play.specs.Epochs.{Epoch}
use Rattle.vd_play.specs.Journal.{queue_chains, own_chains, epoch_chains, guest_frame, pass_map, shadow_map, tree_map}
use Rattle.vd_play.specs.Tree.{IsTreeOf}
use Rattle.vd_play.proofs.Lists.{prefix_at}
use Rattle.vd_play.proofs.Trees.{moved_same}

pub drop_prefix : {A : Type 0} (n : ℕ) (xs ys : List A) → IsPrefix xs ys → n ≤ length xs → IsPrefix (drop n xs) (drop n ys)
drop_prefix n xs ys p le = (p.0, sym (drop-append-le n xs p.0 le) ∙ ap (λ zs. drop n zs) p.1)

-- chains that follow those before the epoch are the first ones of the epoch's
pub own_part : (plan : Plan) (q n : ℕ) (ep : Epoch) (xs : List (List Piece)) → n ≡ ep.first → IsPrefix xs (drop n (queue_chains plan q))
    → length xs ≤ ep.end - ep.first → xs ≡ take (length xs) (own_chains plan q ep)
own_part plan q n ep xs at p le =
    let cs : List (List Piece) = queue_chains plan q in
    prefix_at xs (drop n cs) (length xs) p refl ∙ ap (λ j. take (length xs) (drop j cs)) at
    ∙ sym (take_take (length xs) (ep.end - ep.first) (drop ep.first cs) le)

-- ---- where the device finds them

abbrev HasBytes : List Piece → Type 0
HasBytes c = All (λ p. 1 ≤ p.len) c

has_bytes : (l : LayoutModel) (plan : Plan) (q : ℕ) (c : List Piece) → Fits (guest_frame l plan q) c → HasBytes c
has_bytes l plan q c fits k d below =
    let p : Piece = Rattle.std.specs.Prelude.slice_index_or c k d in
    leb-true 1 p.len (and_parts (Rattle.std.specs.Prelude.nat_le 1 p.len) (is_some (to (pass_map plan) p.addr p.len))
    (fits.bounds k d below)).0

moved_all : (plan : Plan) (cs : List (List Piece)) → IsTreeOf plan (tree_map plan) → All HasBytes cs
    → map (moved (tree_map plan)) cs ≡ map (moved (shadow_map plan)) cs
moved_all plan [] tree some = refl
moved_all plan (c ∷ cs) tree some =
    ap (λ x. x ∷ map (moved (tree_map plan)) cs) (moved_same plan (tree_map plan) c tree (All-head HasBytes c cs some))
    ∙ ap (λ xs. moved (shadow_map plan) c ∷ xs) (moved_all plan cs tree (All-tail HasBytes c cs some))

pub by_shadow : (plan : Plan) (q : ℕ) (ep : Epoch) → ep.mode ≡ Shadow
    → epoch_chains plan q ep ≡ map (moved (shadow_map plan)) (own_chains plan q ep)
by_shadow plan q ep m = rw m refl

pub shadow_part : (l : LayoutModel) (plan : Plan) (q m : ℕ) (ep : Epoch) → ep.mode ≡ Shadow → IsTreeOf plan (tree_map plan)
    → All (Fits (guest_frame l plan q)) (queue_chains plan q)
    → map (moved (tree_map plan)) (take m (own_chains plan q ep)) ≡ take m (epoch_chains plan q ep)
shadow_part l plan q m ep mode tree fits =
    let own : List (List Piece) = own_chains plan q ep in
    let P : List Piece → Type 0 = Fits (guest_frame l plan q) in
    let mine : All P (take m own) = All-take P m own (All-take P (ep.end - ep.first) (drop ep.first (queue_chains plan q))
    (All-drop P ep.first (queue_chains plan q) fits)) in
    moved_all plan (take m own) tree (All-weaker P HasBytes (has_bytes l plan q) (take m own) mine)
    ∙ sym (take-map (moved (shadow_map plan)) m own) ∙ ap (λ xs. take m xs) (sym (by_shadow plan q ep mode))

-- ---- those before the epoch, and its first ones

pub begun_within : (plan : Plan) (q k n m : ℕ) (ep : Epoch) (bs : List Begun) → chains_of (take n bs) ≡ chains_before plan q k
    → chains_of (drop n bs) ≡ take m (epoch_chains plan q ep) → chains_of bs ≡ chains_within plan q k ep m
begun_within plan q k n m ep bs before rest =
    ap chains_of (sym (take-append-drop n bs)) ∙ map-append (λ (b : Begun). b.chain) (take n bs) (drop n bs)
    ∙ ap (λ xs. xs ++ chains_of (drop n bs)) before ∙ ap (λ xs. chains_before plan q k ++ xs) rest
