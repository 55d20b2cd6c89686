-- What the words loaded of a chain tell of its table.
use Rattle.std.proofs.Common.{◌≡◌, ℕ, ◌*◌, ◌/◌, ◌<◌, ◌≤◌, ◌==◌, ◌&&◌, Bool, true, false, List, [], ◌∷◌, ◌++◌, length, take, slice_index, refl, sym, ap, ap₂, ◌∙◌, arith}
use Rattle.std.proofs.lemmas.Bool.{eq-eqb}
use Rattle.std.proofs.lemmas.List.{append-nil}
use Rattle.vd_model.specs.declared.chain.Piece.{Piece}
use Rattle.vd_ring.specs.declared.frame.Frame.{Frame}
use Rattle.vd_ring.specs.declared.frame.Put.{Put}
use Rattle.vd_ring.specs.declared.device.DeviceDone.{DeviceDone}
use Rattle.vd_packed_ring.specs.PackedWords.{IsLawful, id_of, len_of, names_table, words_of}
use Rattle.vd_packed_ring.specs.PackedChains.{Descriptor, avail_word, direct, pointer, is_tabled, has_table, loaded, reading}
use Rattle.vd_packed_ring.specs.PackedPositions.{take_position}
use Rattle.vd_packed_ring.specs.PackedDevice.{BeginsChain}
use Rattle.vd_packed_ring.proofs.Spelled.{length_direct, length_loaded}
use Rattle.vd_packed_ring.proofs.Tables.{Kind, kind, by_table, in_ring, tabled_is, direct_is, pointer_names, pointer_len, pointer_id, no_table_yet}

-- the words of a chain by a table begin with those of the descriptor that names it
pointer_first : (f : Frame) (q id : ℕ) (c : List Piece) (w a : ℕ) (ws : List ℕ) → is_tabled f c ≡ true
    → w ∷ a ∷ ws ≡ words_of (take (length (w ∷ a ∷ ws)) (reading f q id c)) → w ≡ avail_word f.size q (pointer f id c)
pointer_first f q id c w a ws on is =
    let e = tabled_is f id c on in
    ap (λ (us : List ℕ). slice_index us 0)
    (is ∙ ap₂ (λ (ds : List Descriptor) (l : List Put). words_of (take (length (w ∷ a ∷ ws)) (loaded f.size q ds ++ l))) e.0 e.1)

-- and those of another chain have no table
direct_none : (f : Frame) (q id : ℕ) (c : List Piece) (ws : List ℕ) (k : Kind f c) → is_tabled f c ≡ false → id < 65536
    → Rattle.std.specs.List.All Rattle.vd_model.specs.Chains.IsPiece c → ws ≡ words_of (take (length ws) (reading f q id c))
    → has_table f ws ≡ false
direct_none f q id c ws (by_table t on m) off low ok is = absurd (let e : true ≡ false = sym t ∙ off in cc)
direct_none f q id c ws (in_ring t h) off low ok is =
    let e = direct_is f id c off in
    let read : reading f q id c ≡ loaded f.size q (direct id c) =
    ap₂ (λ (ds : List Descriptor) (l : List Put). loaded f.size q ds ++ l) e.0 e.1 ∙ append-nil (loaded f.size q (direct id c)) in
    ap (has_table f) (is ∙ ap (λ (l : List Put). words_of (take (length ws) l)) read) ∙ no_table_yet f q id c (length ws) h low ok

head_small : (f : Frame) (s : List DeviceDone) (ws : List ℕ) → IsLawful f → (b : BeginsChain f s ws) → b.head < 65536
head_small f s ws l b = omega (arith, b.is_new.inside, l.most)

-- where the first descriptor names a table, the chain stands there, and the word has its id and length
pub record Told (f : Frame) (s : List DeviceDone) (w : ℕ) (ws : List ℕ) (b : BeginsChain f s ws) : Type 0 where
  pub tabled : is_tabled f b.chain ≡ true
  pub is_head : id_of w ≡ b.head
  pub inside : id_of w < f.size
  pub places : len_of w / 16 ≡ length b.chain
  pub some : 1 < length b.chain

pub told_tabled : (f : Frame) (s : List DeviceDone) (w a : ℕ) (ws : List ℕ) → IsLawful f → (b : BeginsChain f s (w ∷ a ∷ ws))
    → (f.features.indirect && names_table w) ≡ true → Told f s w (w ∷ a ∷ ws) b
told_tabled f s w a ws l b has = by_kind (kind f b.chain)
  where
    by_kind : Kind f b.chain → Told f s w (w ∷ a ∷ ws) b
    by_kind (by_table t on m) =
        let low = head_small f s (w ∷ a ∷ ws) l b in
        let few = b.fits.chain.1 in
        let word = pointer_first f (take_position f s) b.head b.chain w a ws t b.words in
        let id : id_of w ≡ b.head = ap id_of word ∙ pointer_id f.size (take_position f s) f b.head b.chain low few in
        let len : len_of w ≡ 16 * length b.chain = ap len_of word ∙ pointer_len f.size (take_position f s) f b.head b.chain low few in
        record { tabled = t; is_head = id; inside = omega (arith, b.is_new.inside); places = omega (arith, len); some = m }
    by_kind (in_ring t h) = absurd (let e : true ≡ false =
        sym has ∙ direct_none f (take_position f s) b.head b.chain (w ∷ a ∷ ws) (in_ring t h) t
        (head_small f s (w ∷ a ∷ ws) l b) b.fits.chain.3 b.words in cc)

-- where it names none, the chain stands in the ring
pub told_direct : (f : Frame) (s : List DeviceDone) (ws : List ℕ) → IsLawful f → (b : BeginsChain f s ws) → 2 ≤ length ws
    → has_table f ws ≡ false → is_tabled f b.chain ≡ false
told_direct f s [] l b two none = absurd (omega arith)
told_direct f s (w ∷ []) l b two none = absurd (omega arith)
told_direct f s (w ∷ a ∷ ws) l b two none = by_kind (kind f b.chain)
  where
    by_kind : Kind f b.chain → is_tabled f b.chain ≡ false
    by_kind (by_table t on m) =
        let word = pointer_first f (take_position f s) b.head b.chain w a ws t b.words in
        let names = ap names_table word
        ∙ (pointer_names f.size (take_position f s) f b.head b.chain (head_small f s (w ∷ a ∷ ws) l b) b.fits.chain.1).0 in
        absurd (let e : true ≡ false = sym (ap₂ (λ (x y : Bool). x && y) on names) ∙ none in cc)
    by_kind (in_ring t h) = t

-- then its words are two a piece
pub two_each : (f : Frame) (q id : ℕ) (c : List Piece) → is_tabled f c ≡ false → length (reading f q id c) ≡ 2 * length c
two_each f q id c off =
    let e = direct_is f id c off in
    ap₂ (λ (ds : List Descriptor) (l : List Put). length (loaded f.size q ds ++ l)) e.0 e.1
    ∙ (ap (λ (l : List Put). length l) (append-nil (loaded f.size q (direct id c)))
    ∙ (length_loaded f.size q (direct id c) ∙ ap (λ (k : ℕ). 2 * k) (length_direct id c)))

-- ---- a word more

-- words that begin with no table go on so
pub direct_more : (f : Frame) (w x i : ℕ) (ws : List ℕ) → length (w ∷ ws) ≡ 2 * i → has_table f (w ∷ ws) ≡ false
    → has_table f (w ∷ ws ++ x ∷ []) ≡ false
direct_more f w x i [] e off = absurd (omega arith)
direct_more f w x i (a ∷ ws) e off = off

-- so do those to which an address is added, where the second word before it names no table or is not the first
pub direct_address : (f : Frame) (second x : ℕ) (ps : List Piece) (whole us : List ℕ) → us ≡ whole ++ second ∷ []
    → length whole ≡ 2 * length ps → has_table f us ≡ false → ((f.features.indirect && (length ps == 0)) && names_table second) ≡ false
    → has_table f (us ++ x ∷ []) ≡ false
direct_address f second x ps [] us parts even off nothing =
    let none : (length ps == 0) ≡ true = eq-eqb (length ps) 0 (omega arith) in
    let with : (f.features.indirect && true) ≡ f.features.indirect = and_true f.features.indirect in
    ap (λ (zs : List ℕ). has_table f (zs ++ x ∷ [])) parts
    ∙ (sym (ap (λ (b : Bool). (f.features.indirect && b) && names_table second) none
    ∙ ap (λ (b : Bool). b && names_table second) with) ∙ nothing)
  where
    and_true : (b : Bool) → (b && true) ≡ b
    and_true true = refl
    and_true false = refl
direct_address f second x ps (u ∷ []) us parts even off nothing = absurd (omega arith)
direct_address f second x ps (u ∷ a ∷ whole) us parts even off nothing = ap (λ (zs : List ℕ). has_table f (zs ++ x ∷ [])) parts
    ∙ (sym (ap (has_table f) parts) ∙ off)
