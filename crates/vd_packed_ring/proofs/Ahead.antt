-- The chain that a device takes next, and the words of it that are loaded.
use Rattle.std.proofs.Common.{◌≡◌, ℕ, ◌+◌, ◌<◌, ◌≤◌, true, false, List, [], ◌∷◌, ◌++◌, length, take, slice_index, sym, ap, ◌∙◌, subst, arith, inl, inr}
use Rattle.std.specs.List.{All, sum_by}
use Rattle.std.proofs.lemmas.Bool.{cases_lt}
use Rattle.std.proofs.lemmas.List.{length-append, take_all}
use Rattle.std.proofs.lemmas.List.Elements.{All-append, All-head}
use Rattle.vd_model.specs.declared.chain.Piece.{Piece}
use Rattle.vd_model.specs.Chains.{needs, IsChain}
use Rattle.vd_ring.specs.declared.frame.Frame.{Frame}
use Rattle.vd_ring.specs.declared.frame.Put.{Put}
use Rattle.vd_ring.specs.declared.driver.DriverDone.{DriverDone}
use Rattle.vd_ring.specs.declared.driver.DriverView.{DriverView}
use Rattle.vd_ring.specs.declared.device.DeviceDone.{DeviceDone}
use Rattle.vd_ring.specs.declared.device.DeviceView.{DeviceView}
use Rattle.vd_ring.specs.Frames.{Fits}
use Rattle.vd_ring.specs.History.{offers, takes, running, open_at, head, chain}
use Rattle.vd_ring.proofs.Counts.{occurs_from, Contains_from}
use Rattle.vd_ring.proofs.HeldPlaces.{chain_fits, head_inside, same_head}
use Rattle.vd_ring.proofs.DeviceLists.{next_taken_open, running_below, running_open, running_head, room_left}
use Rattle.vd_packed_ring.specs.PackedWords.{second_word, words_of, is_available, Stand}
use Rattle.vd_packed_ring.specs.PackedChains.{Descriptor, avail_word, descriptors, table, loaded, reading, loaded_head, is_whole, chain_of}
use Rattle.vd_packed_ring.specs.PackedPositions.{start, offer_position, take_position, second_at}
use Rattle.vd_packed_ring.specs.PackedDevice.{BeginsChain}
use Rattle.vd_packed_ring.specs.PackedRing.{puts_of, Ring}
use Rattle.vd_packed_ring.proofs.WordFacts.{avail_shows, zero_unavailable}
use Rattle.vd_packed_ring.proofs.WordFacts.{Fits as FitsWord}
use Rattle.vd_packed_ring.proofs.Plans.{Stands}
use Rattle.vd_packed_ring.proofs.Rows.{row_ahead}
use Rattle.vd_packed_ring.proofs.Spelled.{length_loaded, loaded_stand}
use Rattle.vd_packed_ring.proofs.Tables.{length_needs, descriptors_some, descriptors_fit, reads}
use Rattle.vd_packed_ring.proofs.Positions.{needs_some, order, take_position_is, takes_below}
use Rattle.vd_packed_ring.proofs.Clear.{doing_ahead}
use Rattle.vd_packed_ring.proofs.Spelling.{words_stand, open_stands}
use Rattle.vd_packed_ring.proofs.Collects.{old_unavailable}

-- ---- the next chain

-- its words in the order of a take
abbrev pub next_words : Frame → List DriverDone → List DeviceDone → List Put
next_words f o s = reading f (take_position f s) (head f o (length (takes s))) (chain o (length (takes s)))

pub record Ahead (ws : List ℕ) (f : Frame) (o : List DriverDone) (s : List DeviceDone) : Type 0 where
  pub fits : Fits f (chain o (length (takes s)))
  pub inside : head f o (length (takes s)) < f.size
  pub small : head f o (length (takes s)) < 65536
  pub long : 2 ≤ length (next_words f o s)
  pub stand : Stand ws (next_words f o s)
  pub fewer : take_position f s + 1 ≤ offer_position f o

pub ahead : (ws : List ℕ) (d : DriverView) (e : DeviceView) → Ring ws d e → length (takes e.done) < length (offers d.done)
    → Ahead ws d.frame d.done e.done
ahead ws d e r more =
    let f : Frame = d.frame in let o : List DriverDone = d.done in let s : List DeviceDone = e.done in
    let n : ℕ = f.size in let k : ℕ = length (takes s) in let c : List Piece = chain o k in
    let ds : List Descriptor = descriptors f (head f o k) c in
    let t : List Put = table f (head f o k) c in
    let fits = chain_fits f o k r.places more in
    let is_open = next_taken_open f o s r.places r.lists more in
    let inside = head_inside f o k r.places is_open in
    let ord = order f o s r.places r.lists in
    let len : length ds ≡ needs f.features c = length_needs f (head f o k) c fits.chain.0 in
    let some : 1 ≤ needs f.features c = needs_some f c fits in
    let begins : start f o k ≡ take_position f s = sym (take_position_is f o s r.lists) in
    record {
      fits = fits;
      inside = inside;
      small = omega (arith, inside, r.lawful.most);
      long = omega (arith, length-append (loaded n (take_position f s) ds) t, length_loaded n (take_position f s) ds);
      stand = All-append (Stands ws) (loaded n (take_position f s) ds) t
          (subst (λ (q : ℕ). Stand ws (loaded n q ds)) begins
          (loaded_stand ws n (start f o k) ds (λ j a. words_stand ws d e k j r more (omega (arith, ord.given)) (omega arith))))
          (open_stands ws d e k r (Contains_from k (open_at o) is_open));
      fewer = omega (arith, takes_below f o k more);
    }

-- where all that was offered is taken
pub none_shows : (ws : List ℕ) (d : DriverView) (e : DeviceView) → Ring ws d e → length (offers d.done) ≤ length (takes e.done)
    → (take_position d.frame e.done ≡ offer_position d.frame d.done)
    × (is_available d.frame.size (take_position d.frame e.done)
    (slice_index ws (second_word d.frame.size (take_position d.frame e.done))) ≡ false)
none_shows ws d e r none =
    let f : Frame = d.frame in let o : List DriverDone = d.done in let s : List DeviceDone = e.done in let n : ℕ = f.size in
    let pos : 0 < n = omega (arith, r.lawful.least) in
    let ord = order f o s r.places r.lists in
    let top : take_position f s ≡ offer_position f o =
    take_position_is f o s r.lists ∙ ap (sum_by (needs f.features)) (take_all (length (takes s)) (offers o) none) in (
      top,
      subst (λ (t : ℕ). is_available n t (slice_index ws (second_word n t)) ≡ false) (sym top)
          (row_ahead n 1 ws (offer_position f o) (puts_of d.doing) (second_at f o s)
          (λ x. is_available n (offer_position f o) x ≡ false) pos
          (doing_ahead d.doing f o ws r.lawful (omega (arith, ord.open_span)) r.driver_doing)
          (λ a. zero_unavailable n (offer_position f o))
          (λ q h. subst (λ (t : ℕ). is_available n t (second_at f o s q) ≡ false) h
          (old_unavailable f o s q r.lawful r.places r.lists r.short)) r.seconds),
    )

-- ---- words loaded so far

-- the first of them shows as available
available_first : (n q : ℕ) (ds : List Descriptor) (rest : List Put) (ws : List ℕ) → 0 < length ds → All FitsWord ds → 1 ≤ length ws
    → ws ≡ words_of (take (length ws) (loaded n q ds ++ rest)) → is_available n q (slice_index ws 0) ≡ true
available_first n q [] rest ws some ok h is = absurd (omega arith)
available_first n q (d ∷ ds) rest [] some ok h is = absurd (omega arith)
available_first n q (d ∷ ds) rest (w ∷ ws) some ok h is =
    let word : w ≡ avail_word n q d = ap (λ (l : List ℕ). slice_index l 0) is in
    ap (is_available n q) word ∙ avail_shows n q d (All-head FitsWord d ds ok)

pub first_word : (f : Frame) (q id : ℕ) (c : List Piece) (ws : List ℕ) → id < 65536 → IsChain c → 1 ≤ length ws
    → ws ≡ words_of (take (length ws) (reading f q id c)) → is_available f.size q (slice_index ws 0) ≡ true
first_word f q id c ws low ok h is = available_first f.size q (descriptors f id c) (table f id c) ws (descriptors_some f id c ok.0)
    (descriptors_fit f id c low ok.1 ok.3) h is

pub whole_less : (f : Frame) (q id : ℕ) (c : List Piece) (ws : List ℕ) → id < 65536 → IsChain c
    → ws ≡ words_of (take (length ws) (reading f q id c)) → length ws < length (reading f q id c) → is_whole f ws ≡ false
whole_less f q id c ws low ok is less = ap (is_whole f) is ∙ (reads f q id c (length ws) ok.0 ok.1 low ok.3).partial less

pub whole_all : (f : Frame) (q id : ℕ) (c : List Piece) (ws : List ℕ) → id < 65536 → IsChain c
    → ws ≡ words_of (take (length ws) (reading f q id c)) → length (reading f q id c) ≤ length ws
    → (is_whole f ws ≡ true) × (chain_of f ws ≡ c) × (loaded_head f ws ≡ id)
whole_all f q id c ws low ok is all =
    let l : List Put = reading f q id c in
    let e : ws ≡ words_of l = is ∙ ap words_of (take_all (length ws) l all) in
    let r = reads f q id c (length ws) ok.0 ok.1 low ok.3 in (
      ap (is_whole f) e ∙ r.whole,
      ap (chain_of f) e ∙ r.spelled,
      ap (loaded_head f) e ∙ r.is_head,
    )

pub begins : (us : List ℕ) (d : DriverView) (e : DeviceView) (ws : List ℕ) → Ring us d e
    → length (takes e.done) < length (offers d.done) → 1 ≤ length ws
    → ws ≡ words_of (take (length ws) (next_words d.frame d.done e.done)) → length ws ≤ length (next_words d.frame d.done e.done)
    → BeginsChain d.frame e.done ws
begins us d e ws r more some is most =
    let f : Frame = d.frame in let o : List DriverDone = d.done in let s : List DeviceDone = e.done in
    let k : ℕ = length (takes s) in let c : List Piece = chain o k in let h : ℕ = head f o k in let q : ℕ = take_position f s in
    let a = ahead us d e r more in
    let ok : IsChain c = a.fits.chain in
    let is_open = next_taken_open f o s r.places r.lists more in
    let ord = order f o s r.places r.lists in
    record {
      head = h;
      is_new = record {
        inside = a.inside;
        apart = λ j runs e2.
            let occ = occurs_from j (running s) runs in
            let hd = running_head f o s j r.places r.lists occ in
            let same : j ≡ k = same_head f o j k r.places (running_open f o s j r.places r.lists occ) is_open (sym hd.0 ∙ e2) in
            omega (arith, (running_below f o s j r.lists occ).0);
      };
      chain = c;
      fits = a.fits;
      control = λ on. r.commands.chains on k more;
      words = is;
      left = λ off. elim (cases_lt (length ws) (length (next_words f o s))) [
        | inl less ↦ less
        | inr all ↦ absurd (let x : false ≡ true = sym off ∙ (whole_all f q h c ws a.small ok is all).0 in cc)
      ];
      complete = λ on. elim (cases_lt (length ws) (length (next_words f o s))) [
        | inl less ↦ absurd (let x : false ≡ true = sym (whole_less f q h c ws a.small ok is less) ∙ on in cc)
        | inr all ↦ (let w = whole_all f q h c ws a.small ok is all in (omega arith, w.1, w.2))
      ];
      room = omega (arith, room_left f o s r.lists r.places more, ord.open_span, r.room);
    }
