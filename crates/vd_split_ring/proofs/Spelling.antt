-- Each open chain is spelled at its head, direct or by a table.
use Rattle.std.proofs.Common.{◌≡◌, ℕ, suc, List, [], ◌∷◌, ◌++◌, slice_index, slice_index_or, refl, ◌∙◌, subst, arith}
use Rattle.std.specs.List.{Contains}
use Rattle.std.proofs.lemmas.List.{length-append, get_or_append_left}
use Rattle.vd_ring.specs.declared.frame.Frame.{Frame}
use Rattle.vd_ring.specs.declared.frame.Put.{Put}
use Rattle.vd_ring.specs.declared.driver.DriverDone.{DriverDone}
use Rattle.vd_ring.specs.declared.driver.DriverView.{DriverView}
use Rattle.vd_ring.specs.declared.device.DeviceView.{DeviceView}
use Rattle.vd_ring.specs.History.{open_at, places, head, chain}
use Rattle.vd_ring.proofs.Counts.{occurs_from, occurs_at}
use Rattle.vd_ring.proofs.HeldPlaces.{places_once, places_inside, head_inside}
use Rattle.vd_split_ring.specs.SplitWords.{Spells, Stand, spelling, table, pointer}
use Rattle.vd_split_ring.specs.SplitRing.{Ring}
use Rattle.vd_split_ring.proofs.Areas.{descriptor_drivers}
use Rattle.vd_split_ring.proofs.DriverParts.{open_chain, needs_some, word_descriptor}
use Rattle.vd_split_ring.proofs.Tables.{direct_needs, spelling_direct, spelling_tabled, spelling_within}

-- both parts of a list stand
stand_left : (ws : List ℕ) (xs ys : List Put) → Stand ws (xs ++ ys) → Stand ws xs
stand_left ws xs ys all = λ k d h. subst (λ (s : Put). slice_index ws s.place ≡ s.word) (get_or_append_left xs ys d k h)
    (all k d (omega (arith, length-append xs ys)))

stand_right : (ws : List ℕ) (xs ys : List Put) → Stand ws (xs ++ ys) → Stand ws ys
stand_right ws [] ys all = all
stand_right ws (x ∷ xs) ys all = stand_right ws xs ys (λ k d h. all (suc k) d (omega arith))

-- each open chain's words stand in the ring
pub open_stands : (ws : List ℕ) (d : DriverView) (e : DeviceView) (k : ℕ) → Ring ws d e → Contains (open_at d.done) k
    → Stand ws (spelling d.frame (places d.frame d.done k) (chain d.done k))
open_stands ws d e k r here = λ i b h.
    let f : Frame = d.frame in let o : List DriverDone = d.done in
    let a = occurs_from k (open_at o) here in
    let c = open_chain f o k r.lawful r.places here in
    let w = spelling_within f (places f o k) (chain o k) c.0 c.1 i b h in
    let own = word_descriptor f (places f o k) (slice_index_or (spelling f (places f o k) (chain o k)) i b).place
    (omega (arith, c.0, needs_some f (chain o k) c.1)) (λ q n. places_inside f o k q r.places a n) w in
    r.words.drivers (slice_index_or (spelling f (places f o k) (chain o k)) i b).place
    (descriptor_drivers f (slice_index_or (spelling f (places f o k) (chain o k)) i b).place own) ∙ r.driver_words.spelled k here i b h

pub spells : (ws : List ℕ) (d : DriverView) (e : DeviceView) (k : ℕ) → Ring ws d e → Contains (open_at d.done) k
    → Spells d.frame ws (head d.frame d.done k) (chain d.done k)
spells ws d e k r here =
    let f : Frame = d.frame in let o : List DriverDone = d.done in
    let ps : List ℕ = places f o k in
    let a = occurs_from k (open_at o) here in
    let c = open_chain f o k r.lawful r.places here in
    let stand = open_stands ws d e k r here in
    record {
      direct = λ off. record {
        places = ps;
        as_many = c.0 ∙ direct_needs f (chain o k) c.1.0 off;
        begin = refl;
        differ = λ q. places_once f o k q r.places a;
        inside = λ i b h. places_inside f o k (slice_index_or ps i b) r.places a (occurs_at ps i b h);
        stand = subst (λ (l : List Put). Stand ws l) (spelling_direct f ps (chain o k) off) stand;
      };
      indirect = λ on.
          let both : Stand ws (table f (head f o k) (chain o k) ++ pointer f (head f o k) (chain o k)) =
          subst (λ (l : List Put). Stand ws l) (spelling_tabled f ps (chain o k) on) stand in
          record {
            inside = head_inside f o k r.places a;
            pointer = stand_right ws (table f (head f o k) (chain o k)) (pointer f (head f o k) (chain o k)) both;
            table = stand_left ws (table f (head f o k) (chain o k)) (pointer f (head f o k) (chain o k)) both;
          };
    }
