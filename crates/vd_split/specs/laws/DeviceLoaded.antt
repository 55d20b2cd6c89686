-- What the words that a take has loaded tell of the chain.
use Rattle.std.proofs.Common.{◌≡◌, ℕ, ◌+◌, ◌*◌, ◌<◌, ◌≤◌, Bool, true, false, not, ◌&&◌, List, [], ◌∷◌, ◌++◌, length, take, if◌then◌else◌, nat_lt, slice_index_or, refl, sym, ap, ◌∙◌, subst, arith}
use Rattle.std.proofs.lemmas.List.{length_push}
use Rattle.std.proofs.lemmas.List.Elements.{All-contains}
use Rattle.std.proofs.lemmas.Nat.{mod_below}
use Rattle.vd_model.specs.declared.chain.Piece.{Piece}
use Rattle.vd_model.specs.Chains.{needs}
use Rattle.vd_words.specs.declared.access.Access.TheVariants.{Load}
use Rattle.vd_words.specs.declared.access.Op.TheVariants as op
use Rattle.vd_ring.specs.declared.frame.Frame.{Frame}
use Rattle.vd_ring.specs.declared.frame.Put.{Put}
use Rattle.vd_ring.specs.declared.device.DeviceDone.{DeviceDone}
use Rattle.vd_ring.specs.declared.device.DeviceNow.TheVariants as now
use Rattle.vd_ring.specs.declared.device.DeviceView.{DeviceView}
use Rattle.vd_ring.specs.History.{takes, occurs, first}
use Rattle.vd_ring.proofs.Counts.{Contains_from}
use Rattle.vd_split_ring.specs.SplitWords.{put, described, words_of, pieces_of, piece_of, goes_on, next_of, names_table, has_table, is_tabled, is_whole, chain_of, linked, reading}
use Rattle.vd_split_ring.specs.SplitDevice.{DeviceTells, DeviceTellsAt, BeginsChain}
use Rattle.vd_split_ring.proofs.Descriptors.{IsAt, length-described, described_at, whole_last, pieces_last, linked_last, linked_at}
use Rattle.vd_split_ring.proofs.Direct.{borrowed_needs}
use Rattle.vd_split_ring.proofs.Reading.{whole_off, chain_off, plain_more, told_direct}
use Rattle.vd_split_ring.proofs.Tables.{direct_needs, reading_direct}
use Rattle.vd_split.specs.declared.device.SplitDevice.{SplitDevice}
use Rattle.vd_split.specs.declared.device.DeviceStep.TheVariants as step
use Rattle.vd_split.specs.DeviceEnd.{HasLoaded, DeviceStands, DeviceStepStands}

-- what the loads so far tell of the chain
pub record Loaded (e : SplitDevice) (v : DeviceView) (r h p x : ℕ) : Type 0 where
  pub word : ℕ
  pub words : List ℕ
  pub was : v.doing ≡ now.Taking (r ∷ word ∷ (words ++ e.addr ∷ []))
  pub had : HasLoaded v.frame v.done e.pieces.items word h p words
  pub told : BeginsChain v.frame v.done h ((words ++ e.addr ∷ []) ++ x ∷ [])

pub loaded : (e : SplitDevice) (v : DeviceView) (r h p x : ℕ) → e.doing ≡ step.Second r h p → DeviceStands e v
    → DeviceTells v op.Take (Load (2 * p + 1)) x → Loaded e v r h p x
loaded e v r h p x is st told =
    let n : DeviceStepStands (step.Second r h p) e.pieces.items e.addr v.frame v.done v.doing =
    subst (λ t. DeviceStepStands t e.pieces.items e.addr v.frame v.done v.doing) is st.doing in
    record {
      word = n.word;
      words = n.words;
      was = n.is;
      had = n.loaded;
      told =
          subst (λ k. BeginsChain v.frame v.done k ((n.words ++ e.addr ∷ []) ++ x ∷ [])) n.loaded.is_head
          (subst (λ t. DeviceTellsAt t v op.Take (Load (2 * p + 1)) x) n.is told.1);
    }

-- no more words are loaded than the chain has
pub told_low : (f : Frame) (s : List DeviceDone) (h : ℕ) (ws : List ℕ) (b : Bool) → (t : BeginsChain f s h ws) → is_whole f ws ≡ b
    → length ws ≤ length (reading f t.places t.chain)
told_low f s h ws true t eq = omega (arith, (t.complete eq).0)
told_low f s h ws false t eq = omega (arith, t.left eq)

pub loaded_length : (e : SplitDevice) (v : DeviceView) (r h p x : ℕ) → (l : Loaded e v r h p x)
    → length ((l.words ++ e.addr ∷ []) ++ x ∷ []) ≡ 2 * (length e.pieces.items + 1)
loaded_length e v r h p x l = omega (arith, length_push (l.words ++ e.addr ∷ []) x, length_push l.words e.addr, l.had.even)

pub told_many : (e : SplitDevice) (v : DeviceView) (r h p x : ℕ) → DeviceStands e v → (l : Loaded e v r h p x)
    → length l.told.places ≡ needs v.frame.features l.told.chain
told_many e v r h p x st l = l.told.as_many ∙ borrowed_needs v.frame l.told.chain st.made.lawful

pub spelled_more : (e : SplitDevice) (v : DeviceView) (r h p x : ℕ) → (l : Loaded e v r h p x)
    → pieces_of ((l.words ++ e.addr ∷ []) ++ x ∷ []) ≡ e.pieces.items ++ piece_of e.addr x ∷ []
spelled_more e v r h p x l = pieces_last l.words e.addr x (length e.pieces.items) l.had.even
    ∙ ap (λ (ps : List Piece). ps ++ piece_of e.addr x ∷ []) l.had.spelled

-- the loaded descriptor names no table: the chain stands in descriptors of the ring, and this one says whether it goes on
pub record IsDirect (e : SplitDevice) (v : DeviceView) (r h p x : ℕ) (l : Loaded e v r h p x) : Type 0 where
  pub plain : has_table v.frame ((l.words ++ e.addr ∷ []) ++ x ∷ []) ≡ false
  pub many : length l.told.places ≡ length l.told.chain
  pub words : reading v.frame l.told.places l.told.chain ≡ described 0 l.told.places l.told.chain
  pub two_each : length (reading v.frame l.told.places l.told.chain) ≡ 2 * length l.told.chain
  pub ended : is_whole v.frame ((l.words ++ e.addr ∷ []) ++ x ∷ []) ≡ not (goes_on x)

pub direct : (e : SplitDevice) (v : DeviceView) (r h p x : ℕ) → (l : Loaded e v r h p x) → DeviceStands e v
    → v.frame.features.indirect && names_table x ≡ false → IsDirect e v r h p x l
direct e v r h p x l st bare =
    let f : Frame = v.frame in let c : List Piece = l.told.chain in let ps : List ℕ = l.told.places in
    let all : List ℕ = (l.words ++ e.addr ∷ []) ++ x ∷ [] in
    let plain : has_table f all ≡ false = plain_more f l.words e.addr x (length e.pieces.items) l.had.even l.had.plain bare in
    let off : is_tabled f c ≡ false =
    told_direct f all ps c l.told.fits.chain (omega (arith, loaded_length e v r h p x l)) plain l.told.words in
    let many : length ps ≡ length c = told_many e v r h p x st l ∙ direct_needs f c l.told.fits.chain.0 off in
    let words : reading f ps c ≡ described 0 ps c = reading_direct f ps c off in
    record {
      plain = plain;
      many = many;
      words = words;
      two_each = ap (λ (pl : List Put). length pl) words ∙ length-described 0 ps c many;
      ended = whole_off f all plain ∙ whole_last l.words e.addr x (length e.pieces.items) l.had.even;
    }

pub few_pieces : (e : SplitDevice) (v : DeviceView) (r h p x : ℕ) → (l : Loaded e v r h p x) → IsDirect e v r h p x l
    → length e.pieces.items < 16
few_pieces e v r h p x l d = omega (
  arith,
  loaded_length e v r h p x l,
  told_low v.frame v.done h ((l.words ++ e.addr ∷ []) ++ x ∷ []) (is_whole v.frame ((l.words ++ e.addr ∷ []) ++ x ∷ [])) l.told refl,
  d.two_each,
  l.told.fits.chain.1,
)

-- where another descriptor follows, its place is one of the ring's
pub next_inside : (e : SplitDevice) (v : DeviceView) (r h p x : ℕ) → goes_on x ≡ true → (l : Loaded e v r h p x) → IsDirect e v r h p x l
    → next_of x < v.frame.size
next_inside e v r h p x on l d =
    let t = l.told in
    let ws : List ℕ = (l.words ++ e.addr ∷ []) ++ x ∷ [] in
    let below : length ws < 2 * length t.chain = omega (arith, t.left (d.ended ∙ ap not on), d.two_each) in
    let words : ws ≡ words_of (take (length ws) (described 0 t.places t.chain)) =
    t.words ∙ ap (λ (ps : List Put). words_of (take (length ws) ps)) d.words in
    let place : 2 * next_of x ≡ (slice_index_or (described 0 t.places t.chain) (length ws) (put 0 0)).place =
    sym (linked_last (first t.places) l.words e.addr x (length e.pieces.items) l.had.even) ∙ ap (linked (first t.places)) words
    ∙ linked_at t.places t.chain (length ws) d.many t.fits.chain.3 below in
    let here : IsAt 0 t.places (slice_index_or (described 0 t.places t.chain) (length ws) (put 0 0)).place =
    described_at 0 t.places t.chain (length ws) (omega (arith, length-described 0 t.places t.chain d.many)) in
    let half : here.place ≡ next_of x = omega (arith, place, here.low, here.high) in
    All-contains (λ q. q < v.frame.size) t.places (next_of x) t.inside
    (Contains_from (next_of x) t.places (subst (λ q. 1 ≤ occurs q t.places) half here.here))

-- else the pieces are a chain that fits
pub whole_spelled : (e : SplitDevice) (v : DeviceView) (r h p x : ℕ) → (l : Loaded e v r h p x) → IsDirect e v r h p x l
    → chain_of v.frame ((l.words ++ e.addr ∷ []) ++ x ∷ []) ≡ e.pieces.items ++ piece_of e.addr x ∷ []
whole_spelled e v r h p x l d = chain_off v.frame ((l.words ++ e.addr ∷ []) ++ x ∷ []) d.plain ∙ spelled_more e v r h p x l

pub whole_chain : (e : SplitDevice) (v : DeviceView) (r h p x : ℕ) → goes_on x ≡ false → (l : Loaded e v r h p x)
    → IsDirect e v r h p x l → e.pieces.items ++ piece_of e.addr x ∷ [] ≡ l.told.chain
whole_chain e v r h p x off l d = sym (whole_spelled e v r h p x l d) ∙ (l.told.complete (d.ended ∙ ap not off)).1

pub entry_below : (e : SplitDevice) (v : DeviceView) (r h p : ℕ) → e.doing ≡ step.Second r h p → DeviceStands e v
    → (h < length e.running.items) × (0 < length e.guesses.items) × (e.entry < e.size)
entry_below e v r h p is st =
    let n : DeviceStepStands (step.Second r h p) e.pieces.items e.addr v.frame v.done v.doing =
    subst (λ t. DeviceStepStands t e.pieces.items e.addr v.frame v.done v.doing) is st.doing in (
      omega (arith, n.loaded.new.inside, st.holds.places),
      omega (arith, st.holds.guessed, st.made.lawful.some_place),
      omega (arith, st.counts.entry_at, st.made.sized, mod_below (length (takes v.done)) v.frame.size st.made.lawful.some_place),
    )

-- a chain that was taken will be counted in 32 bits
pub taken_small : (e : SplitDevice) (v : DeviceView) (r h p x : ℕ) → DeviceStands e v → Loaded e v r h p x → e.taken < 4294967295
taken_small e v r h p x st l = omega (arith, l.had.limited, st.counts.takes, least v.frame.ring)
  where
    either : (b : Bool) → (if b then 4000000000 else 4294967295) ≤ 4294967295
    either true = omega arith
    either false = omega arith

    least : (n : ℕ) → (if nat_lt n 16 then 4000000000 else 4294967295) ≤ 4294967295
    least n = either (nat_lt n 16)
