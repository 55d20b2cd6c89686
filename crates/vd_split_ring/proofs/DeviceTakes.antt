-- The loads of a chain's descriptors keep the ring invariant.
use Rattle.std.proofs.Common.{◌≡◌, ℕ, ◌+◌, ◌<◌, ◌≤◌, Bool, true, false, not, List, [], ◌∷◌, ◌++◌, length, take, if◌then◌else◌, slice_index, slice_index_or, refl, sym, ap, ◌∙◌, subst, arith, inl, inr}
use Rattle.std.specs.List.{All}
use Rattle.std.proofs.lemmas.Bool.{cases_lt, not-true}
use Rattle.std.proofs.lemmas.List.{length_push}
use Rattle.std.proofs.lemmas.List.Elements.{All-nil, All-cons, All-head, All-tail, All-append}
use Rattle.vd_model.specs.declared.chain.Piece.{Piece}
use Rattle.vd_model.specs.Chains.{needs}
use Rattle.vd_ring.specs.declared.frame.Frame.{Frame}
use Rattle.vd_ring.specs.declared.frame.Put.{Put}
use Rattle.vd_ring.specs.declared.driver.DriverDone.{DriverDone}
use Rattle.vd_ring.specs.declared.driver.DriverView.{DriverView}
use Rattle.vd_ring.specs.declared.device.DeviceDone.{DeviceDone}
use Rattle.vd_ring.specs.declared.device.DeviceDone.TheVariants.{Take}
use Rattle.vd_ring.specs.declared.device.DeviceNow.TheVariants.{Idle, Taking}
use Rattle.vd_ring.specs.declared.device.DeviceView.{DeviceView}
use Rattle.vd_ring.specs.Frames.{Fits, borrowed}
use Rattle.vd_ring.specs.History.{offers, takes, open_at, open_size, places, chain, occurs, first}
use Rattle.vd_ring.specs.Control.{IsControlChain}
use Rattle.vd_ring.specs.Places.{Places}
use Rattle.vd_ring.specs.laws.Signals.{moves}
use Rattle.vd_split_ring.specs.SplitWords.{IsLawful, shows, put, words_of, Stand, table, pointer, is_tabled, spelling, reading, is_whole, chain_of, cursor, command_word, ack_word}
use Rattle.vd_split_ring.specs.SplitDevice.{loaded_head, BeginsChain, device_takes, device_loads}
use Rattle.vd_split_ring.specs.SplitRing.{HasSeen, Loads, Ring, chains_out, chains_in}
use Rattle.vd_ring.proofs.Counts.{Contains_from, occurs_at, sum_same}
use Rattle.vd_ring.proofs.HeldPlaces.{chain_fits, places_once, places_inside}
use Rattle.vd_ring.proofs.DeviceLists.{next_taken_open, lists_taken, room_left}
use Rattle.vd_ring.proofs.DeviceAcks.{acks_taken}
use Rattle.vd_split_ring.proofs.Areas.{shows_more}
use Rattle.vd_split_ring.proofs.Descriptors.{words_more}
use Rattle.vd_split_ring.proofs.Direct.{borrowed_needs}
use Rattle.vd_split_ring.proofs.Tables.{is_either, spelling_tabled, spelling_direct, reading_tabled, reading_direct}
use Rattle.vd_split_ring.proofs.Reading.{Reads, reads}
use Rattle.vd_split_ring.proofs.DeviceParts.{ring_with, doing_along}
use Rattle.vd_split_ring.proofs.DeviceLooks.{seen_offered}

-- ---- the words that an offer stored, in the order in which a take loads them

left_part : {X : Type 0} (P : X → Type 0) (xs ys : List X) → All P (xs ++ ys) → All P xs
left_part P [] ys h = All-nil P
left_part P (x ∷ xs) ys h = All-cons P x xs (All-head P x (xs ++ ys) h) (left_part P xs ys (All-tail P x (xs ++ ys) h))

right_part : {X : Type 0} (P : X → Type 0) (xs ys : List X) → All P (xs ++ ys) → All P ys
right_part P [] ys h = h
right_part P (x ∷ xs) ys h = right_part P xs ys (All-tail P x (xs ++ ys) h)

reading_stands : (f : Frame) (ws ps : List ℕ) (c : List Piece) → Stand ws (spelling f ps c) → Stand ws (reading f ps c)
reading_stands f ws ps c stand = elim (is_either (is_tabled f c)) [
  | inl on ↦ (
      let both : Stand ws (table f (first ps) c ++ pointer f (first ps) c) =
      subst (λ (pl : List Put). Stand ws pl) (spelling_tabled f ps c on) stand in
      let P : Put → Type 0 = λ q. slice_index ws q.place ≡ q.word in
      subst (λ (pl : List Put). Stand ws pl) (sym (reading_tabled f ps c on))
      (All-append P (pointer f (first ps) c) (table f (first ps) c) (right_part P (table f (first ps) c) (pointer f (first ps) c) both)
      (left_part P (table f (first ps) c) (pointer f (first ps) c) both))
      )
  | inr off ↦ subst (λ (pl : List Put). Stand ws pl) (spelling_direct f ps c off ∙ sym (reading_direct f ps c off)) stand
]

-- ---- a load

-- the chain that is loaded may stand on the ring, at as many places as it needs
record Chain (f : Frame) (o : List DriverDone) (t : ℕ) : Type 0 where
  fits : Fits f (chain o t)
  as_many : length (places f o t) ≡ needs f.features (chain o t)

chain_at_place : (f : Frame) (o : List DriverDone) (t : ℕ) → IsLawful f → Places f o → t < length (offers o) → Chain f o t
chain_at_place f o t l p below = record { fits = chain_fits f o t p below; as_many = p.as_many t below ∙ borrowed_needs f (chain o t) l }

-- the take of the whole chain
takes_chain : (ws : List ℕ) (d : DriverView) (e : DeviceView) (g w : ℕ) (ss us : List ℕ)
    → Ring ws d (record e { frame = d.frame; doing = Taking (g ∷ w ∷ ss) }) → chain_of d.frame us ≡ chain d.done (length (takes e.done))
    → Ring ws d (device_takes (record e { frame = d.frame; doing = Taking (g ∷ w ∷ ss) }) g w us)
takes_chain ws d e g w ss us r spelled =
    let f : Frame = d.frame in let o : List DriverDone = d.done in let s : List DeviceDone = e.done in
    let E : DeviceView = record e { frame = d.frame; doing = Taking (g ∷ w ∷ ss) } in
    let t : ℕ = length (takes s) in
    let c : List Piece = chain o t in
    let hd : ℕ = loaded_head f t w in
    let seen : HasSeen g e.seen t = r.device_doing.0 in
    let below : t < length (offers o) = seen_offered ws d E g r seen in
    subst (λ (cs : List Piece). Ring ws d (record e {
      frame = d.frame;
      done = Take cs hd ∷ s;
      shown = not (shows g (t + 1));
      doing =
          Idle;
    })) (sym spelled)
    (ring_with ws ws d E (record e { frame = d.frame; done = Take c hd ∷ s; shown = not (shows g (t + 1)); doing = Idle }) r record {
      same = refl;
      words = r.words;
      lists = lists_taken f o s hd r.lists below r.device_doing.1.is_head;
      device_words = record { index = r.device_words.index; ids = r.device_words.ids; lens = r.device_words.lens };
      signals = r.device_signals;
      acks = acks_taken f (ack_word f) o s c hd e.stored r.acks;
      driver_doing = doing_along d.doing f o d.stored d.seen s (Take c hd ∷ s) (λ u is. is) r.driver_doing;
      device_doing = tt;
      kicks = moves (chains_out d) (chains_in E) (length (takes s ++ c ∷ [])) true r.device_armed r.kicks;
      calls = r.calls;
      armed = tt;
      driver_seen = r.driver_seen;
      driver_cut = r.driver_cut;
      device_seen = r.device_seen;
      device_shown = λ on. omega (
        arith,
        length_push (takes s) c,
        shows_more g (t + 1) e.seen seen.lane (omega (arith, seen.more)) (not-true (shows g (t + 1)) on),
      );
      rested = tt;
    })

-- one more word, not the last
loads_on : (ws : List ℕ) (d : DriverView) (e : DeviceView) (g w : ℕ) (ss us : List ℕ)
    → Ring ws d (record e { frame = d.frame; doing = Taking (g ∷ w ∷ ss) })
    → us ≡ words_of (take (length us)
    (reading d.frame (places d.frame d.done (length (takes e.done))) (chain d.done (length (takes e.done)))))
    → length us < length (reading d.frame (places d.frame d.done (length (takes e.done))) (chain d.done (length (takes e.done))))
    → Ring ws d (record e { frame = d.frame; doing = Taking (g ∷ w ∷ us) })
loads_on ws d e g w ss us r words left =
    let E : DeviceView = record e { frame = d.frame; doing = Taking (g ∷ w ∷ ss) } in
    ring_with ws ws d E (record e { frame = d.frame; doing = Taking (g ∷ w ∷ us) }) r record {
      same = refl;
      words = r.words;
      lists = r.lists;
      device_words = r.device_words;
      signals = r.device_signals;
      acks = r.acks;
      driver_doing = r.driver_doing;
      kicks = r.kicks;
      calls = r.calls;
      armed = r.device_armed;
      device_doing = (r.device_doing.0, record { is_head = r.device_doing.1.is_head; words = words; left = left });
      driver_seen = r.driver_seen;
      driver_cut = r.driver_cut;
      device_seen = r.device_seen;
      device_shown = r.device_shown;
      rested = r.rested;
    }

-- the words loaded are a chain's first words: whether they are all of them is what they say
record AreFirst (f : Frame) (o : List DriverDone) (t : ℕ) (us : List ℕ) : Type 0 where
  words : us ≡ words_of (take (length us) (reading f (places f o t) (chain o t)))
  left : is_whole f us ≡ false → length us < length (reading f (places f o t) (chain o t))
  complete : is_whole f us ≡ true → (length us ≡ length (reading f (places f o t) (chain o t))) × (chain_of f us ≡ chain o t)

are_first : (f : Frame) (o : List DriverDone) (t : ℕ) (us : List ℕ) → Chain f o t
    → us ≡ words_of (take (length us) (reading f (places f o t) (chain o t)))
    → length us ≤ length (reading f (places f o t) (chain o t)) → AreFirst f o t us
are_first f o t us c words low =
    let pl : List Put = reading f (places f o t) (chain o t) in
    let m : ℕ = length us in
    let told : Reads f (first (places f o t)) (chain o t) pl m = reads f (places f o t) (chain o t) m c.as_many c.fits.chain in
    elim (cases_lt m (length pl)) [
      | inl h ↦ (
          let no_end : is_whole f us ≡ false = ap (is_whole f) words ∙ told.partial h in
          record { words = words; left = λ off. h; complete = λ on. absurd (let both : true ≡ false = sym on ∙ no_end in cc) }
          )
      | inr h ↦ (
          let end : is_whole f us ≡ true = ap (is_whole f) words ∙ told.whole h in
          record {
            words = words;
            left = λ off. absurd (let both : true ≡ false = sym end ∙ off in cc);
            complete =
                λ on. (omega arith, ap (chain_of f) words ∙ told.spelled h);
          }
          )
    ]

loads_at : (ws : List ℕ) (d : DriverView) (e : DeviceView) (g w : ℕ) (ss us : List ℕ) (b : Bool)
    → Ring ws d (record e { frame = d.frame; doing = Taking (g ∷ w ∷ ss) })
    → AreFirst d.frame d.done (length (takes e.done)) us → is_whole d.frame us ≡ b
    → Ring ws d (if b then device_takes (record e { frame = d.frame; doing = Taking (g ∷ w ∷ ss) }) g w us else record e {
      frame =
          d.frame;
      doing = Taking (g ∷ w ∷ us);
    })
loads_at ws d e g w ss us true r are eq = takes_chain ws d e g w ss us r (are.complete eq).1
loads_at ws d e g w ss us false r are eq = loads_on ws d e g w ss us r are.words (are.left eq)

-- the chains open are no more descriptors than places
open_fits : (f : Frame) (o : List DriverDone) → IsLawful f → Places f o → open_size f o ≤ f.size
open_fits f o l p = omega (
  arith,
  p.sizes,
  sum_same (λ k. borrowed f (chain o k)) (λ k. needs f.features (chain o k)) (open_at o)
      (λ k a. borrowed_needs f (chain o k) l),
)

pub loads : (ws : List ℕ) (d : DriverView) (e : DeviceView) (g w : ℕ) (ss : List ℕ) (p : ℕ)
    → Ring ws d (record e { frame = d.frame; doing = Taking (g ∷ w ∷ ss) })
    → p ≡ cursor d.frame (loaded_head d.frame (length (takes e.done)) w) ss
    → Ring ws d (device_loads (record e { frame = d.frame; doing = Taking (g ∷ w ∷ ss) }) g w (ss ++ slice_index d.stored p ∷ []))
    × BeginsChain d.frame e.done (loaded_head d.frame (length (takes e.done)) w) (ss ++ slice_index d.stored p ∷ [])
loads ws d e g w ss p r at =
    let f : Frame = d.frame in let o : List DriverDone = d.done in let s : List DeviceDone = e.done in
    let E : DeviceView = record e { frame = d.frame; doing = Taking (g ∷ w ∷ ss) } in
    let t : ℕ = length (takes s) in let k : ℕ = length ss in
    let c : List Piece = chain o t in let ps : List ℕ = places f o t in
    let l : Loads f o t w ss = r.device_doing.1 in
    let below : t < length (offers o) = seen_offered ws d E g r r.device_doing.0 in
    let ch : Chain f o t = chain_at_place f o t r.lawful r.places below in
    let here : 1 ≤ occurs t (open_at o) = next_taken_open f o s r.places r.lists below in
    let pl : List Put = reading f ps c in
    let st : Put = slice_index_or pl k (put 0 0) in
    let place : p ≡ st.place = at ∙ ap (λ h. cursor f h ss) l.is_head ∙ ap (cursor f (first ps)) l.words
    ∙ (reads f ps c k ch.as_many ch.fits.chain).place l.left in
    let stand : Stand d.stored pl = reading_stands f d.stored ps c (r.driver_words.spelled t (Contains_from t (open_at o) here)) in
    let word : slice_index d.stored p ≡ st.word = ap (λ q. slice_index d.stored q) place ∙ stand k (put 0 0) l.left in
    let us : List ℕ = ss ++ slice_index d.stored p ∷ [] in
    let longer : length us ≡ k + 1 = length_push ss (slice_index d.stored p) in
    let more : us ≡ words_of (take (length us) pl) = ap (λ y. ss ++ y ∷ []) word ∙ words_more pl ss l.left l.words
    ∙ ap (λ n. words_of (take n pl)) (sym longer) in
    let are : AreFirst f o t us = are_first f o t us ch more (omega (arith, l.left)) in (
      loads_at ws d e g w ss us (is_whole f us) r are refl,
      record {
        chain = c;
        places = ps;
        fits = ch.fits;
        as_many = r.places.as_many t below;
        begin = sym l.is_head;
        differ = λ q. places_once f o t q r.places here;
        inside = λ i d' a. places_inside f o t (slice_index_or ps i d') r.places here (occurs_at ps i d' a);
        control = λ on. subst (λ (h : ℕ). IsControlChain (command_word f h) (ack_word f h) c) (sym l.is_head)
            (r.commands.chains on t below);
        words = are.words;
        left = are.left;
        complete = are.complete;
        room = omega (arith, room_left f o s r.lists r.places below, open_fits f o r.lawful r.places);
      },
    )
