-- Each chain whose position is not behind what was given is spelled there.
use Rattle.std.proofs.Common.{drop, false, ◌≡◌, ◌⊎◌, ℕ, ◌+◌, ◌*◌, ◌%◌, ◌<◌, ◌≤◌, List, [], ◌∷◌, length, take, slice_index, slice_index_or, Option, None, sym, ap, ◌∙◌, subst, arith, inl, inr}
use Rattle.std.specs.List.{Contains, sum_by}
use Rattle.std.proofs.lemmas.Nat.{mod_below}
use Rattle.std.proofs.lemmas.List.{take-append-le, take_all, take-append-drop, take-take}
use Rattle.std.proofs.lemmas.List.Elements.{All-nil}
use Rattle.std.proofs.lemmas.List.Sums.{sum_by-append}
use Rattle.vd_model.specs.declared.chain.Piece.{Piece}
use Rattle.vd_model.specs.Chains.{needs}
use Rattle.vd_ring.specs.declared.frame.Frame.{Frame}
use Rattle.vd_ring.specs.declared.frame.Put.{Put}
use Rattle.vd_ring.specs.declared.frame.Used.{Used}
use Rattle.vd_ring.specs.declared.driver.DriverDone.{DriverDone}
use Rattle.vd_ring.specs.declared.driver.DriverDone.TheVariants.{Offer}
use Rattle.vd_ring.specs.declared.driver.DriverView.{DriverView}
use Rattle.vd_ring.specs.declared.device.DeviceDone.{DeviceDone}
use Rattle.vd_ring.specs.declared.device.DeviceView.{DeviceView}
use Rattle.vd_ring.specs.History.{occurs, offers, takes, open_at, head, chain}
use Rattle.vd_ring.specs.Places.{Places}
use Rattle.vd_ring.specs.Lists.{Lists}
use Rattle.vd_ring.proofs.Counts.{one_above, occurs_from, Contains_from}
use Rattle.vd_ring.proofs.DeviceLists.{not_given_open}
use Rattle.vd_ring.proofs.HeldInside.{head_low}
use Rattle.vd_ring.proofs.HeldPlaces.{open_below, chain_fits}
use Rattle.vd_packed_ring.specs.PackedWords.{addr_word, second_word, Stand}
use Rattle.vd_packed_ring.specs.PackedChains.{Descriptor, blank, avail_word, descriptors, is_tabled, table, described, Spells}
use Rattle.vd_packed_ring.specs.PackedPositions.{collect_position, offer_position, give_position, start, made_at, mark_at, stands}
use Rattle.vd_packed_ring.specs.PackedRing.{Ring}
use Rattle.vd_packed_ring.proofs.Plans.{described_from, Stands}
use Rattle.vd_packed_ring.proofs.Tables.{direct_is, length_needs}
use Rattle.vd_packed_ring.proofs.Positions.{order, give_position_is, take_position_is, takes_below}
use Rattle.vd_packed_ring.proofs.Made.{made_chain, mark_past}
use Rattle.vd_packed_ring.proofs.Clear.{doing_clear}
use Rattle.vd_packed_ring.proofs.Kept.{table_stands}

-- its words stand
pub words_stand : (ws : List ℕ) (d : DriverView) (e : DeviceView) (k j : ℕ) → Ring ws d e → k < length (offers d.done)
    → give_position d.frame e.done ≤ start d.frame d.done k → j < needs d.frame.features (chain d.done k)
    → (slice_index ws (addr_word d.frame.size (start d.frame d.done k + j)) ≡
    (slice_index_or (descriptors d.frame (head d.frame d.done k) (chain d.done k)) j blank).addr)
    × (slice_index ws (second_word d.frame.size (start d.frame d.done k + j)) ≡ avail_word d.frame.size (start d.frame d.done k + j)
    (slice_index_or (descriptors d.frame (head d.frame d.done k) (chain d.done k)) j blank))
words_stand ws d e k j r more past a =
    let f : Frame = d.frame in let o : List DriverDone = d.done in let s : List DeviceDone = e.done in
    let n : ℕ = f.size in let c : List Piece = chain o k in let q : ℕ = start f o k + j in
    let ds : List Descriptor = descriptors f (head f o k) c in
    let pos : 0 < n = omega (arith, r.lawful.least) in
    let ord = order f o s r.places r.lists in
    let below : q < offer_position f o = omega (arith, takes_below f o k more) in
    let near : offer_position f o ≤ q + n = omega (arith, r.room, ord.collected) in
    let behind : collect_position f o ≤ q = omega (arith, ord.collected) in
    let made_is : made_at f o q ≡ slice_index_or ds j blank = made_chain f o k j r.lawful r.places.fits more a in
    let low : 2 * (q % n) < 2 * n = omega (arith, mod_below q n pos) in
    let even : (2 * (q % n)) % 2 ≡ 0 = omega arith in
    let plain : addr_word n q ≡ 2 * (q % n) + 0 = omega arith in
    let unmarked : mark_at f o s q ≡ None =
    mark_past (λ i. needs f.features (chain o i)) s q (omega (arith, give_position_is f o s r.lists)) in (
      r.words.drivers (addr_word n q) (inl (low, even))
          ∙ (ap (λ (i : ℕ). slice_index d.stored i) plain
          ∙ (r.addresses.kept q below near (doing_clear d.doing f o ws q 0 r.lawful r.driver_doing (omega arith) behind below)
          ∙ ap (λ (y : Descriptor). y.addr) made_is)),
      r.seconds.kept q below near (doing_clear d.doing f o ws q 1 r.lawful r.driver_doing (omega arith) behind below)
          ∙ (ap (λ (m : Option Used). stands f o q (made_at f o q) m) unmarked ∙ ap (avail_word n q) made_is),
    )

-- its descriptors stand
pub described_stands : (ws : List ℕ) (d : DriverView) (e : DeviceView) (k : ℕ) → Ring ws d e → k < length (offers d.done)
    → give_position d.frame e.done ≤ start d.frame d.done k
    → Stand ws (described d.frame.size (start d.frame d.done k) (descriptors d.frame (head d.frame d.done k) (chain d.done k)))
described_stands ws d e k r more past =
    let f : Frame = d.frame in let o : List DriverDone = d.done in let c : List Piece = chain o k in
    let ds : List Descriptor = descriptors f (head f o k) c in
    let len : length ds ≡ needs f.features c = length_needs f (head f o k) c (chain_fits f o k r.places more).chain.0 in
    described_from ws f.size (start f o k) ds (λ j a. words_stand ws d e k j r more past (omega arith))

-- and its table, as long as it is not collected
pub open_stands : (ws : List ℕ) (d : DriverView) (e : DeviceView) (k : ℕ) → Ring ws d e → Contains (open_at d.done) k
    → Stand ws (table d.frame (head d.frame d.done k) (chain d.done k))
open_stands ws d e k r here =
    let f : Frame = d.frame in let o : List DriverDone = d.done in
    let more = open_below f o k r.places (occurs_from k (open_at o) here) in
    table_stands f ws d.stored e.stored (head f o k) (chain o k) r.words (head_low f o k (omega (arith, r.lawful.least)))
    (chain_fits f o k r.places more).chain.1 (r.tables k here)

pub spells : (ws : List ℕ) (d : DriverView) (e : DeviceView) (k : ℕ) → Ring ws d e → k < length (offers d.done)
    → give_position d.frame e.done ≤ start d.frame d.done k → (Contains (open_at d.done) k ⊎ (is_tabled d.frame (chain d.done k) ≡ false))
    → Spells d.frame ws (start d.frame d.done k) (head d.frame d.done k) (chain d.done k)
spells ws d e k r more past (inl here) = record { ring = described_stands ws d e k r more past; table = open_stands ws d e k r here }
spells ws d e k r more past (inr off) = record {
  ring = described_stands ws d e k r more past;
  table = subst (λ (l : List Put). Stand ws l) (sym (direct_is d.frame (head d.frame d.done k) (chain d.done k) off).1)
      (All-nil (Stands ws));
}

-- so is each chain that is not taken
start_grows : (f : Frame) (o : List DriverDone) (j k : ℕ) → j ≤ k → start f o j ≤ start f o k
start_grows f o j k h =
    let parts : sum_by (needs f.features) (take j (take k (offers o))) + sum_by (needs f.features) (drop j (take k (offers o)))
    ≡ start f o k = sym (sum_by-append (needs f.features) (take j (take k (offers o))) (drop j (take k (offers o))))
    ∙ ap (sum_by (needs f.features)) (take-append-drop j (take k (offers o))) in
    omega (arith, parts, ap (sum_by (needs f.features)) (take-take j k (offers o) h))

pub untaken_open : (f : Frame) (o : List DriverDone) (s : List DeviceDone) (k : ℕ) → Places f o → Lists f o s → length (takes s) ≤ k
    → k < length (offers o) → 1 ≤ occurs k (open_at o)
untaken_open f o s k p l low more = not_given_open f o s k p l more (omega (arith, l.given k, one_above k (length (takes s)) low))

pub spells_untaken : (ws : List ℕ) (d : DriverView) (e : DeviceView) (k : ℕ) → Ring ws d e → length (takes e.done) ≤ k
    → k < length (offers d.done) → Spells d.frame ws (start d.frame d.done k) (head d.frame d.done k) (chain d.done k)
spells_untaken ws d e k r low more =
    let ord = order d.frame d.done e.done r.places r.lists in
    spells ws d e k r more (omega (
      arith,
      ord.given,
      take_position_is d.frame d.done e.done r.lists,
      start_grows d.frame d.done (length (takes e.done)) k low,
    ))
    (inl (Contains_from k (open_at d.done) (untaken_open d.frame d.done e.done k r.places r.lists low more)))

-- the chain offered last begins where the driver was
pub start_last : (f : Frame) (o : List DriverDone) (c : List Piece) → start f (Offer c ∷ o) (length (offers o)) ≡ offer_position f o
start_last f o c = ap (sum_by (needs f.features)) (take-append-le (length (offers o)) (offers o) (c ∷ []) (omega arith)
    ∙ take_all (length (offers o)) (offers o) (omega arith))
