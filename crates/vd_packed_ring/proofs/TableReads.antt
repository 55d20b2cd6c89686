-- A reader of tables finds the chains that stand in tables.
use Rattle.std.proofs.Common.{◌≡◌, ℕ, ◌+◌, ◌*◌, ◌/◌, ◌<◌, ◌≤◌, Bool, true, false, if◌then◌else◌, List, [], ◌∷◌, ◌++◌, length, take, drop, slice_index, sym, ap, ap₂, ◌∙◌, subst, arith}
use Rattle.std.specs.List.{Contains}
use Rattle.std.proofs.lemmas.List.{take_all}
use Rattle.vd_model.specs.declared.chain.Piece.{Piece}
use Rattle.vd_model.specs.Chains.{IsChain}
use Rattle.vd_words.specs.declared.access.Access.{Access}
use Rattle.vd_words.specs.declared.access.Access.TheVariants.{Load, Store}
use Rattle.vd_words.specs.declared.access.Op.TheVariants as op
use Rattle.vd_words.specs.Step.{answered}
use Rattle.vd_indirect.specs.declared.descriptor.TableKind.TheVariants.{Packed}
use Rattle.vd_indirect.specs.Tables.{read, table_words}
use Rattle.vd_indirect.proofs.Written.{length-words_from, reads_back}
use Rattle.vd_ring.specs.declared.act.DeviceAct.TheVariants as act
use Rattle.vd_ring.specs.declared.device.DeviceDone.{DeviceDone}
use Rattle.vd_ring.specs.declared.device.DeviceNow.{DeviceNow}
use Rattle.vd_ring.specs.declared.device.DeviceNow.TheVariants.{Taking}
use Rattle.vd_ring.specs.declared.device.DeviceView.{DeviceView}
use Rattle.vd_ring.specs.declared.driver.DriverView.{DriverView}
use Rattle.vd_ring.specs.declared.frame.Frame.{Frame}
use Rattle.vd_ring.specs.declared.frame.Put.{Put}
use Rattle.vd_ring.specs.History.{open_at, takes, head, chain}
use Rattle.vd_ring.proofs.Counts.{occurs_from}
use Rattle.vd_ring.proofs.HeldInside.{head_low}
use Rattle.vd_ring.proofs.HeldPlaces.{open_below, chain_fits}
use Rattle.vd_packed_ring.specs.PackedWords.{IsLawful, width, tables_from, commands_from, put, table_of, addr_word, second_word, len_of, names_table, words_of, Stand}
use Rattle.vd_packed_ring.specs.PackedChains.{Descriptor, described, standing, pointer, is_tabled, avail_word, reading, has_table, is_whole, chain_of, loaded}
use Rattle.vd_packed_ring.specs.PackedDevice.{BeginsChain, DeviceNext, DeviceNextAt, device_act, device_act_at}
use Rattle.vd_packed_ring.specs.PackedPositions.{give_position, take_position, start}
use Rattle.vd_packed_ring.specs.PackedRing.{Ring}
use Rattle.vd_packed_ring.specs.PackedTableLaws.{ReadsHead, table_len, named_table, ReadsTable, ReadsLoaded}
use Rattle.vd_packed_ring.proofs.Areas.{areas}
use Rattle.vd_packed_ring.proofs.DeviceAnswers.{is_taken}
use Rattle.vd_packed_ring.proofs.Spelling.{described_stands, open_stands}
use Rattle.vd_packed_ring.proofs.Standing.{standing_stands, words_standing}
use Rattle.vd_packed_ring.proofs.Tables.{Kind, kind, by_table, in_ring, tabled_is, direct_is, pointer_names, pointer_len, no_table}

-- the words from its table's first on are those of its chain's table
table_taken : (f : Frame) (ws : List ℕ) (h : ℕ) (c : List Piece) → length ws ≡ width f → f.features.indirect ≡ true → h < f.size
    → length c ≤ 16 → Stand ws (standing (table_of f h) (table_words Packed c))
    → take (2 * length c) (drop (table_of f h) ws) ≡ table_words Packed c
table_taken f ws h c wide on low few stand =
    let many : length (table_words Packed c) ≡ 2 * length c = length-words_from Packed 0 c in
    let last : commands_from f ≡ tables_from f + 32 * f.size = ap (λ (b : Bool). tables_from f + (if b then 32 * f.size else 0)) on in
    let inside : table_of f h + length (table_words Packed c) ≤ length ws = omega (arith, areas f) in
    ap (λ n. take n (drop (table_of f h) ws)) (sym many) ∙ standing_stands ws (table_of f h) (table_words Packed c) inside stand

reads_taken : (f : Frame) (ws : List ℕ) (h : ℕ) (c : List Piece) → length ws ≡ width f → f.features.indirect ≡ true → h < f.size
    → IsChain c → Stand ws (standing (table_of f h) (table_words Packed c)) → ReadsHead f ws h c
reads_taken f ws h c wide on low is stand = ap (λ us. read Packed us (16 * length c)) (table_taken f ws h c wide on low is.1 stand)
    ∙ reads_back Packed c is

record Tabled (ws : List ℕ) (f : Frame) (h : ℕ) (c : List Piece) : Type 0 where
  is : IsChain c
  low : h < f.size
  on : f.features.indirect ≡ true
  stand : Stand ws (standing (table_of f h) (table_words Packed c))

open_tabled : (ws : List ℕ) (d : DriverView) (e : DeviceView) (k : ℕ) → Ring ws d e → Contains (open_at d.done) k
    → is_tabled d.frame (chain d.done k) ≡ true → Tabled ws d.frame (head d.frame d.done k) (chain d.done k)
open_tabled ws d e k r here on =
    let f : Frame = d.frame in let h : ℕ = head f d.done k in let c : List Piece = chain d.done k in
    record {
      is = (chain_fits f d.done k r.places (open_below f d.done k r.places (occurs_from k (open_at d.done) here))).chain;
      low = head_low f d.done k (omega (arith, r.lawful.least));
      on = by_kind f c on (kind f c);
      stand = subst (λ (l : List Put). Stand ws l) (tabled_is f h c on).1 (open_stands ws d e k r here);
    }
  where
    by_kind : (f : Frame) (c : List Piece) → is_tabled f c ≡ true → Kind f c → f.features.indirect ≡ true
    by_kind f c on (by_table t i m) = i
    by_kind f c on (in_ring t m) = absurd (let e : true ≡ false = sym on ∙ t in cc)

pub head_read : (ws : List ℕ) (d : DriverView) (e : DeviceView) (k : ℕ) → Ring ws d e → Contains (open_at d.done) k
    → is_tabled d.frame (chain d.done k) ≡ true → ReadsHead d.frame ws (head d.frame d.done k) (chain d.done k)
head_read ws d e k r here on = let t = open_tabled ws d e k r here on in
    reads_taken d.frame ws (head d.frame d.done k) (chain d.done k) r.words.wide.0 t.on t.low t.is t.stand

pub named_read : (ws : List ℕ) (d : DriverView) (e : DeviceView) (k : ℕ) → Ring ws d e → Contains (open_at d.done) k
    → give_position d.frame e.done ≤ start d.frame d.done k → is_tabled d.frame (chain d.done k) ≡ true
    → ReadsTable d.frame.size ws (start d.frame d.done k) (chain d.done k)
named_read ws d e k r here past on =
    let f : Frame = d.frame in let o = d.done in let h : ℕ = head f o k in let c : List Piece = chain o k in let q : ℕ = start f o k in
    let n : ℕ = f.size in let m : ℕ = length c in
    let t = open_tabled ws d e k r here on in
    let more = open_below f o k r.places (occurs_from k (open_at o) here) in
    let stand : Stand ws (described n q (pointer f h c ∷ [])) =
    subst (λ (ds : List Descriptor). Stand ws (described n q ds)) (tabled_is f h c on).0 (described_stands ws d e k r more past) in
    let addr : slice_index ws (addr_word n q) ≡ 8 * table_of f h = stand 0 (put 0 0) (omega arith) in
    let second : slice_index ws (second_word n q) ≡ avail_word n q (pointer f h c) = stand 1 (put 0 0) (omega arith) in
    let small : h < 65536 = omega (arith, t.low, r.lawful.most) in
    let len : table_len n ws q ≡ 16 * m = ap len_of second ∙ pointer_len n q f h c small t.is.1 in
    let words : table_len n ws q / 8 ≡ 2 * m = omega arith in
    let begin : slice_index ws (addr_word n q) / 8 ≡ table_of f h = omega arith in
    let same : named_table n ws q ≡ take (2 * m) (drop (table_of f h) ws) = ap₂ (λ i j. take i (drop j ws)) words begin in
    record {
      names = ap names_table second ∙ (pointer_names n q f h c small t.is.1).0;
      reads = ap₂ (λ us l. read Packed us l) same len ∙ reads_taken f ws h c r.words.wide.0 t.on t.low t.is t.stand;
    }

-- ---- the words of a take

loaded_tabled : (f : Frame) (q h : ℕ) (c : List Piece) (ws : List ℕ) → h < 65536 → IsChain c
    → ws ≡ words_of (loaded f.size q (pointer f h c ∷ []) ++ standing (table_of f h) (table_words Packed c)) → ReadsLoaded ws c
loaded_tabled f q h c ws small is e =
    ap (λ us. read Packed (drop 2 us) (len_of (slice_index us 0))) e
    ∙ ap₂ (λ us l. read Packed us l) (words_standing (table_of f h) (table_words Packed c)) (pointer_len f.size q f h c small is.1)
    ∙ reads_back Packed c is

pub loaded_read : (f : Frame) (s : List DeviceDone) (ws : List ℕ) → IsLawful f → BeginsChain f s ws → is_whole f ws ≡ true
    → has_table f ws ≡ true → ReadsLoaded ws (chain_of f ws)
loaded_read f s ws l b whole has =
    let c : List Piece = b.chain in let h : ℕ = b.head in let q : ℕ = take_position f s in
    let small : h < 65536 = omega (arith, b.is_new.inside, l.most) in
    let all : ws ≡ words_of (reading f q h c) =
    b.words ∙ ap words_of (take_all (length ws) (reading f q h c) (omega (arith, (b.complete whole).0))) in
    subst (ReadsLoaded ws) (sym (b.complete whole).1) (at f s ws q h c small b.fits.chain all has (kind f c))
  where
    at : (f : Frame) (s : List DeviceDone) (ws : List ℕ) (q h : ℕ) (c : List Piece) → h < 65536 → IsChain c
        → ws ≡ words_of (reading f q h c) → has_table f ws ≡ true → Kind f c → ReadsLoaded ws c
    at f s ws q h c small is all has (by_table t on m) =
        let e = tabled_is f h c t in
        loaded_tabled f q h c ws small is (all ∙ ap₂ (λ (ds : List Descriptor) (l : List Put). words_of (loaded f.size q ds ++ l)) e.0 e.1)
    at f s ws q h c small is all has (in_ring t m) =
        let e = direct_is f h c t in
        let none : has_table f ws ≡ false =
        ap (has_table f) (all ∙ ap₂ (λ (ds : List Descriptor) (l : List Put). words_of (loaded f.size q ds ++ l)) e.0 e.1)
        ∙ no_table f q h c m small is.3 in
        absurd (let both : true ≡ false = sym has ∙ none in cc)

pub chain_loaded : (ws : List ℕ) (d : DriverView) (e : DeviceView) (w : ℕ) (us : List ℕ) (a : Access) → Ring ws d e
    → e.doing ≡ Taking (w ∷ us) → DeviceNext e op.Take a → is_whole e.frame (w ∷ us ++ answered ws a ∷ []) ≡ true
    → chain_of e.frame (w ∷ us ++ answered ws a ∷ []) ≡ chain d.done (length (takes e.done))
chain_loaded ws d e w us (Load p) ring doing next whole =
    let t : ℕ = length (takes e.done) in
    let all : List ℕ = w ∷ us ++ slice_index ws p ∷ [] in
    let answer : device_act e op.Take (Load p) (slice_index ws p) ≡ act.Taken t (chain_of e.frame all) =
    ap (λ (n : DeviceNow). device_act_at n e op.Take (Load p) (slice_index ws p)) doing
    ∙ ap (λ (b : Bool). if b then act.Taken t (chain_of e.frame all) else act.Moved) whole in
    (is_taken ws d e op.Take (Load p) t (chain_of e.frame all) ring next answer).is_chain
chain_loaded ws d e w us (Store p x) ring doing next whole =
    absurd (subst (λ (n : DeviceNow). DeviceNextAt n e op.Take (Store p x)) doing next)
