-- A reader of tables finds the chains that stand in tables.
use Rattle.std.proofs.Common.{◌≡◌, ℕ, ◌+◌, ◌*◌, ◌/◌, ◌≤◌, Bool, true, false, if◌then◌else◌, List, [], ◌∷◌, ◌++◌, length, take, drop, slice_index, refl, sym, ap, ◌∙◌, subst, arith, inl, inr}
use Rattle.std.specs.List.{Contains}
use Rattle.std.proofs.lemmas.List.{take_all}
use Rattle.vd_bits.specs.Lanes.{lane32}
use Rattle.vd_model.specs.declared.chain.Piece.{Piece}
use Rattle.vd_model.specs.Chains.{IsChain}
use Rattle.vd_words.specs.declared.access.Access.{Access}
use Rattle.vd_words.specs.declared.access.Access.TheVariants.{Load, Store}
use Rattle.vd_words.specs.declared.access.Op.TheVariants as op
use Rattle.vd_words.specs.Step.{answered}
use Rattle.vd_indirect.specs.declared.descriptor.TableKind.TheVariants.{Split}
use Rattle.vd_indirect.specs.Tables.{read, table_words}
use Rattle.vd_indirect.proofs.Written.{length-words_from, reads_back}
use Rattle.vd_ring.specs.declared.act.DeviceAct.TheVariants as act
use Rattle.vd_ring.specs.declared.device.DeviceDone.{DeviceDone}
use Rattle.vd_ring.specs.declared.device.DeviceNow.{DeviceNow}
use Rattle.vd_ring.specs.declared.device.DeviceNow.TheVariants.{Taking}
use Rattle.vd_ring.specs.declared.device.DeviceView.{DeviceView}
use Rattle.vd_ring.specs.declared.driver.DriverView.{DriverView}
use Rattle.vd_ring.specs.declared.frame.Frame.{Frame}
use Rattle.vd_ring.specs.History.{open_at, takes, head, chain, first}
use Rattle.vd_split_ring.specs.SplitWords.{IsLawful, width, put, table_of, table, pointer, is_tabled, reading, SpellsTable, words_of, has_table, names_table, is_whole, chain_of}
use Rattle.vd_split_ring.specs.SplitDevice.{BeginsChain, DeviceNext, DeviceNextAt, device_act, device_act_at}
use Rattle.vd_split_ring.specs.SplitRing.{Ring}
use Rattle.vd_split_ring.specs.SplitTableLaws.{table_len, named_table, ReadsTable, ReadsLoaded}
use Rattle.vd_split_ring.proofs.Areas.{areas, tables_follow}
use Rattle.vd_split_ring.proofs.DeviceAnswers.{is_taken}
use Rattle.vd_split_ring.proofs.DriverParts.{open_chain}
use Rattle.vd_split_ring.proofs.Direct.{borrowed_needs}
use Rattle.vd_split_ring.proofs.Reading.{names_it, none_read}
use Rattle.vd_split_ring.proofs.Rows.{row_stands, words_row}
use Rattle.vd_split_ring.proofs.Spelling.{spells}
use Rattle.vd_split_ring.proofs.Tables.{is_either, tabled_is, reading_tabled}

-- the second word of a table's descriptor has the table's length
len_named : (m s : ℕ) → m ≤ 16 → s ≡ 16 * m + 17179869184 → lane32 s 0 ≡ 16 * m
len_named m s few is = omega arith

reads_named : (f : Frame) (ws : List ℕ) (h : ℕ) (c : List Piece) → length ws ≡ width f → f.features.indirect ≡ true → IsChain c
    → SpellsTable f ws h c → ReadsTable ws h c
reads_named f ws h c wide on is s =
    let m : ℕ = length c in
    let addr : slice_index ws (2 * h) ≡ 8 * table_of f h = s.pointer 0 (put 0 0) (omega arith) in
    let second : slice_index ws (2 * h + 1) ≡ 16 * m + 17179869184 = s.pointer 1 (put 0 0) (omega arith) in
    let len : table_len ws h ≡ 16 * m = len_named m (slice_index ws (2 * h + 1)) is.1 second in
    let many : length (table_words Split c) ≡ 2 * m = length-words_from Split 0 c in
    let words : table_len ws h / 8 ≡ length (table_words Split c) = omega arith in
    let begin : slice_index ws (2 * h) / 8 ≡ table_of f h = omega arith in
    let inside : table_of f h + length (table_words Split c) ≤ length ws = omega (arith, tables_follow f on, areas f, s.inside, is.1) in
    let same : named_table ws h ≡ table_words Split c =
    ap (λ n. take n (drop (slice_index ws (2 * h) / 8) ws)) words ∙ ap (λ n. take (length (table_words Split c)) (drop n ws)) begin
    ∙ row_stands ws (table_of f h) (table_words Split c) inside s.table in
    record {
      names = ap names_table second ∙ names_it c is.1;
      reads = ap (λ us. read Split us (table_len ws h)) same ∙ ap (read Split (table_words Split c)) len ∙ reads_back Split c is;
    }

pub table_read : (ws : List ℕ) (d : DriverView) (e : DeviceView) (k : ℕ) → Ring ws d e → Contains (open_at d.done) k
    → is_tabled d.frame (chain d.done k) ≡ true → ReadsTable ws (head d.frame d.done k) (chain d.done k)
table_read ws d e k r here on =
    let f : Frame = d.frame in let c : List Piece = chain d.done k in
    reads_named f ws (head f d.done k) c r.words.wide.0 (tabled_is f c on).0 (open_chain f d.done k r.lawful r.places here).1
    ((spells ws d e k r here).indirect on)

-- ---- the words of a take

loaded_tabled : (f : Frame) (h : ℕ) (c : List Piece) (ws : List ℕ) → IsChain c → ws ≡ words_of (pointer f h c ++ table f h c)
    → ReadsLoaded ws c
loaded_tabled f h c ws is e =
    let m : ℕ = length c in
    ap (λ us. read Split (drop 2 us) (lane32 (slice_index us 1) 0)) e
    ∙ ap (λ us. read Split us (lane32 (16 * m + 17179869184) 0)) (words_row (table_of f h) (table_words Split c))
    ∙ ap (read Split (table_words Split c)) (len_named m (16 * m + 17179869184) is.1 refl) ∙ reads_back Split c is

pub loaded_read : (f : Frame) (s : List DeviceDone) (h : ℕ) (ws : List ℕ) → IsLawful f → BeginsChain f s h ws → is_whole f ws ≡ true
    → has_table f ws ≡ true → ReadsLoaded ws (chain_of f ws)
loaded_read f s h ws l b whole has =
    let c : List Piece = b.chain in let ps : List ℕ = b.places in
    let all : ws ≡ words_of (reading f ps c) =
    b.words ∙ ap words_of (take_all (length ws) (reading f ps c) (omega (arith, (b.complete whole).0))) in
    subst (ReadsLoaded ws) (sym (b.complete whole).1) (elim (is_either (is_tabled f c)) [
      | inl on ↦ loaded_tabled f (first ps) c ws b.fits.chain (all ∙ ap words_of (reading_tabled f ps c on))
      | inr off ↦ absurd (let none : has_table f ws ≡ false =
          none_read f ws ps c off (b.as_many ∙ borrowed_needs f c l) b.fits.chain b.words in let both : true ≡ false = sym has ∙ none in cc)
    ])

pub chain_loaded : (ws : List ℕ) (d : DriverView) (e : DeviceView) (r w : ℕ) (us : List ℕ) (a : Access) → Ring ws d e
    → e.doing ≡ Taking (r ∷ w ∷ us) → DeviceNext e op.Take a → is_whole e.frame (us ++ answered ws a ∷ []) ≡ true
    → chain_of e.frame (us ++ answered ws a ∷ []) ≡ chain d.done (length (takes e.done))
chain_loaded ws d e r w us (Load p) ring doing next whole =
    let t : ℕ = length (takes e.done) in
    let all : List ℕ = us ++ slice_index ws p ∷ [] in
    let answer : device_act e op.Take (Load p) (slice_index ws p) ≡ act.Taken t (chain_of e.frame all) =
    ap (λ (n : DeviceNow). device_act_at n e op.Take (Load p) (slice_index ws p)) doing
    ∙ ap (λ (b : Bool). if b then act.Taken t (chain_of e.frame all) else act.Moved) whole in
    (is_taken ws d e op.Take (Load p) t (chain_of e.frame all) ring next answer).is_chain
chain_loaded ws d e r w us (Store p x) ring doing next whole =
    absurd (subst (λ (n : DeviceNow). DeviceNextAt n e op.Take (Store p x)) doing next)
