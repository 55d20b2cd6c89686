-- The stores of an offer keep the ring invariant.
use Rattle.std.proofs.Common.{append_assoc, false, mod-eq_of_lt, ◌≡◌, ◌≢◌, ℕ, ◌+◌, ◌*◌, ◌%◌, ◌<◌, ◌≤◌, List, [], ◌∷◌, ◌++◌, length, take, slice_index, slice_index_or, slice_set, Option, Some, None, refl, sym, ap, ◌∙◌, subst, arith, inl, inr}
use Rattle.std.proofs.lemmas.Nat.{mod_below}
use Rattle.std.specs.List.{All}
use Rattle.std.proofs.lemmas.List.{length_push, get_or-set_same, get_or_default}
use Rattle.std.proofs.lemmas.List.Elements.{All-nil, All-cons, All-append}
use Rattle.vd_model.specs.declared.chain.Piece.{Piece}
use Rattle.vd_model.specs.Chains.{needs}
use Rattle.vd_ring.specs.declared.frame.Frame.{Frame}
use Rattle.vd_ring.specs.declared.frame.Put.{Put}
use Rattle.vd_ring.specs.declared.frame.Used.{Used}
use Rattle.vd_ring.specs.declared.driver.DriverDone.{DriverDone}
use Rattle.vd_ring.specs.declared.driver.DriverDone.TheVariants.{Offer}
use Rattle.vd_ring.specs.declared.driver.DriverNow.{DriverNow}
use Rattle.vd_ring.specs.declared.driver.DriverNow.TheVariants.{Idle, Offering, Checking}
use Rattle.vd_ring.specs.declared.driver.DriverView.{DriverView}
use Rattle.vd_ring.specs.declared.device.DeviceDone.{DeviceDone}
use Rattle.vd_ring.specs.declared.device.DeviceNow.{DeviceNow}
use Rattle.vd_ring.specs.declared.device.DeviceNow.TheVariants as device
use Rattle.vd_ring.specs.declared.device.DeviceView.{DeviceView}
use Rattle.vd_ring.specs.Frames.{borrowed}
use Rattle.vd_ring.specs.History.{offers, takes, gives, free, head, next_head, chain, used_at, entry}
use Rattle.vd_ring.specs.Places.{Places}
use Rattle.vd_ring.specs.Lists.{Lists}
use Rattle.vd_ring.specs.Signals.{Signals, check}
use Rattle.vd_ring.specs.laws.Signals.{moves, publishes as publishes_range}
use Rattle.vd_ring.proofs.HeldPlaces.{offer_places, chain_before}
use Rattle.vd_ring.proofs.HeldInside.{next_low}
use Rattle.vd_ring.proofs.ListSteps.{lists_offered, given_below}
use Rattle.vd_ring.proofs.ControlSteps.{head_before, commands_elsewhere, commands_offered, acks_offered}
use Rattle.vd_packed_ring.specs.PackedWords.{used_word, IsLawful, width, command_word, ack_word, driver_event, kick_at, addr_word, second_word, put, words_of, Stand}
use Rattle.vd_packed_ring.specs.PackedChains.{Descriptor, blank, avail_word, descriptors, table, described, staged, publishing, reading, staged_chain, Spells}
use Rattle.vd_packed_ring.specs.PackedPositions.{offer_position, collect_position, take_position, give_position, made_at, mark_at, stands, second_at, marks}
use Rattle.vd_packed_ring.specs.PackedDriver.{CanOffer, Begins, Publishes, plan, last_put, stores, driver_offers}
use Rattle.vd_packed_ring.specs.PackedRing.{Words, Ring, Row, IsClear, Stages, puts_of, Loads, DeviceDoing, chains_out, chains_in, entries_out, entries_in}
use Rattle.vd_packed_ring.proofs.Areas.{areas, second_low, driver_second}
use Rattle.vd_packed_ring.proofs.Plans.{IsNext, is_next, Stands, all_are, all_left, all_right, stand_other, described_stand, staged_all, within_apart, publishing_within}
use Rattle.vd_packed_ring.proofs.Rows.{turned, row_staged, row_published}
use Rattle.vd_packed_ring.proofs.Spelled.{borrowed_one}
use Rattle.vd_packed_ring.proofs.Tables.{length_needs, offer_back}
use Rattle.vd_packed_ring.proofs.Positions.{needs_some, order, free_some, offer_position_offered, collect_position_offered, give_position_is}
use Rattle.vd_packed_ring.proofs.Made.{made_before, made_new, IsMark, marks_are, marks_same, mark_past}
use Rattle.vd_packed_ring.proofs.Clear.{IsStaged, spelling_staged, spelling_before, spelling_clear, staged_apart, stored_words, staged_past, signals_elsewhere}
use Rattle.vd_packed_ring.proofs.Kept.{kept_staged, kept_past, kept_offered, table_stored}

-- ---- a store before the last

pub describes : (ws : List ℕ) (d : DriverView) (e : DeviceView) (now : DriverNow) (puts : List Put) (p x : ℕ)
    → Ring ws (record d { doing = now }) e → puts_of now ≡ puts → d.armed ≡ None
    → Signals (chains_out (record d { doing = Idle })) (chains_in e) → Stand ws puts → Begins d.frame d.done (puts ++ put p x ∷ [])
    → Ring (slice_set ws p x) (stores d p x (Offering (puts ++ put p x ∷ []))) e × (p < width d.frame)
    × (p ≢ second_word d.frame.size (offer_position d.frame d.done))
describes ws d e now puts p x r are unarmed kicks stand n =
    let f : Frame = d.frame in let o : List DriverDone = d.done in let c : List Piece = n.chain in let k : ℕ = length puts in
    let pl : List Put = plan f o c in
    let fits = n.can.fits in
    let inside : next_head f o < f.size = next_low f o (omega (arith, r.lawful.least)) in
    let m : IsNext puts (put p x) pl = is_next puts (put p x) pl n.first in
    let is_place : (slice_index_or pl k (put 0 0)).place ≡ p = sym (ap (λ (s : Put). s.place) m.is) in
    let w : IsStaged f (next_head f o) (offer_position f o) (needs f.features c) p =
    subst (λ (q : ℕ). IsStaged f (next_head f o) (offer_position f o) (needs f.features c) q) is_place
    (spelling_staged f (offer_position f o) (next_head f o) c fits.chain k (put 0 0) m.left) in
    let apart : IsClear puts p = subst (λ (l : List Put). IsClear l p) (sym m.before)
    (subst (λ (q : ℕ). IsClear (take k pl) q) is_place
    (spelling_before f (offer_position f o) (next_head f o) c k r.lawful.least fits.chain fits.size m.left)) in
    let not_first : p ≢ second_word f.size (offer_position f o) =
    subst (λ (q : ℕ). q ≢ second_word f.size (offer_position f o)) is_place
    (spelling_clear f (offer_position f o) (next_head f o) c r.lawful.least fits.chain fits.size k (put 0 0) m.left) in
    let did = stored_words f ws d.stored e.stored (next_head f o) (offer_position f o) (needs f.features c) p x r.lawful.least inside w
    r.words in
    let past = staged_past f (next_head f o) (offer_position f o) (needs f.features c) p r.lawful.least inside w in
    let low : p < width f = did.1 in
    let wide : length ws ≡ width f = r.words.wide.0 in
    let us : List ℕ = slice_set ws p x in
    let all : List Put = puts ++ put p x ∷ [] in (
      record {
        same = r.same;
        lawful = r.lawful;
        words = did.0;
        places = r.places;
        room = r.room;
        addresses = row_staged f.size 0 d.stored (offer_position f o) puts (λ q. (made_at f o q).addr) p x
            (subst (λ (l : List Put). Row f.size 0 d.stored (offer_position f o) l (λ q. (made_at f o q).addr)) are r.addresses);
        seconds = row_staged f.size 1 ws (offer_position f o) puts (second_at f o e.done) p x
            (subst (λ (l : List Put). Row f.size 1 ws (offer_position f o) l (second_at f o e.done)) are r.seconds);
        tables = kept_staged f o d.stored (offer_position f o) (needs f.features c) p x r.lawful.least r.places
            (free_some f o c r.lawful r.places fits n.can.room) w r.tables;
        lists = r.lists;
        short = r.short;
        driver_signals = signals_elsewhere f (driver_event f) (kick_at f) d.armed d.bells d.stored p x (λ a. past.0 (sym a))
            (λ a. omega (arith, areas f, past.1)) r.driver_signals;
        device_signals = r.device_signals;
        commands = commands_elsewhere f (command_word f) (ack_word f) o d.stored p x r.places (λ h i under two a. omega (arith, past.1))
            r.commands;
        acks = r.acks;
        driver_doing = record {
          begins = n;
          stand = All-append (Stands us) puts (put p x ∷ []) (stand_other ws puts p x stand apart)
              (All-cons (Stands us) (put p x) [] (get_or-set_same ws p x 0 (omega arith)) (All-nil (Stands us)));
        };
        device_doing = r.device_doing;
        kicks = kicks;
        calls = moves (entries_out e) (entries_in (record d { doing = now })) (collect_position f o) false unarmed r.calls;
        driver_armed = unarmed;
        device_armed = r.device_armed;
        driver_seen = r.driver_seen;
        device_seen = r.device_seen;
        driver_shown = r.driver_shown;
        device_shown = r.device_shown;
        rested = r.rested;
      },
      low,
      not_first,
    )

-- ---- the last store

-- what each entry given says of its chain, after an offer
given_all : (P : Used → Type 0) (s : List DeviceDone) → ((j : ℕ) → j < length (gives s) → P (used_at (gives s) j)) → All P (gives s)
given_all P s each = λ k d h. subst P (get_or_default (gives s) k (entry 0 0) d h) (each k h)

stands_same : (f : Frame) (o o2 : List DriverDone) (q : ℕ) (d : Descriptor) (m : Option Used)
    → IsMark (λ u. head f o2 u.number ≡ head f o u.number) m → stands f o2 q d m ≡ stands f o q d m
stands_same f o o2 q d None h = refl
stands_same f o o2 q d (Some u) h = ap (λ (id : ℕ). used_word f.size q id u.len) h

second_offered : (f : Frame) (o : List DriverDone) (c : List Piece) (s : List DeviceDone) (q : ℕ) → Places f o → Lists f o s
    → q < offer_position f o → second_at f (Offer c ∷ o) s q ≡ second_at f o s q
second_offered f o c s q p l h =
    let o2 : List DriverDone = Offer c ∷ o in
    let g : ℕ → ℕ = λ k. needs f.features (chain o2 k) in
    let old : ℕ → ℕ = λ k. needs f.features (chain o k) in
    let below = λ (j : ℕ) (a : j < length (gives s)). let x : (used_at (gives s) j).number < length (offers o) =
    omega (arith, given_below f o s j l a, l.some) in x in
    let sizes : marks g s ≡ marks old s =
    marks_same f g old s l.entries
    (given_all (λ u. g u.number ≡ old u.number) s
    (λ j a. ap (needs f.features) (chain_before o c (used_at (gives s) j).number (below j a)))) in
    let heads = marks_are (λ u. head f o2 u.number ≡ head f o u.number) f old s q l.entries
    (given_all (λ u. head f o2 u.number ≡ head f o u.number) s (λ j a. head_before f o c (used_at (gives s) j).number p (below j a))) in
    ap (λ (d : Descriptor). stands f o2 q d (mark_at f o2 s q)) (made_before f o c q p.fits h)
    ∙ (ap (λ (ms : List (Option Used)). stands f o2 q (made_at f o q) (slice_index_or ms q None)) sizes
    ∙ stands_same f o o2 q (made_at f o q) (mark_at f o s q) heads)

second_new : (f : Frame) (o : List DriverDone) (c : List Piece) (s : List DeviceDone) (j : ℕ) → Places f o → Lists f (Offer c ∷ o) s
    → give_position f s ≤ offer_position f o → second_at f (Offer c ∷ o) s (offer_position f o + j) ≡ avail_word f.size
    (offer_position f o + j) (slice_index_or (descriptors f (next_head f o) c) j blank)
second_new f o c s j p l le =
    let o2 : List DriverDone = Offer c ∷ o in let q : ℕ = offer_position f o + j in
    ap (λ (m : Option Used). stands f o2 q (made_at f o2 q) m)
    (mark_past (λ k. needs f.features (chain o2 k)) s q (omega (arith, give_position_is f o2 s l)))
    ∙ ap (avail_word f.size q) (made_new f o c j p.fits)

loads_offered : (f : Frame) (o : List DriverDone) (c : List Piece) (k q : ℕ) (ws : List ℕ) → Places f o → Loads f o k q ws
    → Loads f (Offer c ∷ o) k q ws
loads_offered f o c k q ws pl l =
    let hs : head f (Offer c ∷ o) k ≡ head f o k = head_before f o c k pl l.more in
    let cs : chain (Offer c ∷ o) k ≡ chain o k = chain_before o c k l.more in
    let read : reading f q (head f (Offer c ∷ o) k) (chain (Offer c ∷ o) k) ≡ reading f q (head f o k) (chain o k) =
    ap (λ (h : ℕ). reading f q h (chain (Offer c ∷ o) k)) hs ∙ ap (λ (ds : List Piece). reading f q (head f o k) ds) cs in
    record {
      more = omega (arith, l.more, length_push (offers o) c);
      words = l.words ∙ ap (λ (l : List Put). words_of (take (length ws) l)) (sym read);
      left = omega (arith, l.left, ap (λ (l : List Put). length l) read);
    }

doing_offered : (now : DeviceNow) (f : Frame) (o : List DriverDone) (c : List Piece) (s : List DeviceDone) → Places f o
    → DeviceDoing now f o s → DeviceDoing now f (Offer c ∷ o) s
doing_offered (device.Taking (w ∷ ws)) f o c s pl h = loads_offered f o c (length (takes s)) (take_position f s) (w ∷ ws) pl h
doing_offered (device.Taking []) f o c s pl h = absurd h
doing_offered (device.Giving ws) f o c s pl h = absurd h
doing_offered device.Resting f o c s pl h = h
doing_offered _ f o c s pl h = tt

-- what was staged is the chain
pub staged_is_chain : (f : Frame) (o : List DriverDone) (c : List Piece) (puts : List Put) (x : ℕ) → IsLawful f → CanOffer f o c
    → puts ≡ plan f o c → x ≡ (last_put f o c).word → staged_chain f (words_of puts) x ≡ c
staged_is_chain f o c puts x l can whole is =
    let ok = can.fits.chain in
    ap (λ (ps : List Put). staged_chain f (words_of ps) x) whole ∙ (ap (staged_chain f (words_of (plan f o c))) is
    ∙ offer_back f (offer_position f o) (next_head f o) c ok.0 ok.1 (omega (arith, next_low f o (omega (arith, l.least)), l.most)) ok.3)

-- all stores of the offer, the last included
abbrev all_puts : Frame → List DriverDone → List Piece → List Put
all_puts f o c = plan f o c ++ last_put f o c ∷ []

-- they are clear of each position out of their window
all_clear : (f : Frame) (o : List DriverDone) (c : List Piece) (r half : ℕ) → IsLawful f → CanOffer f o c
    → collect_position f o ≤ offer_position f o → half < 2 → offer_position f o ≤ r → r < offer_position f o + f.size
    → offer_position f o + needs f.features c ≤ r → IsClear (all_puts f o c) (2 * (r % f.size) + half)
all_clear f o c r half l can le two low high out =
    let P : Put → Type 0 = λ s. s.place ≢ 2 * (r % f.size) + half in
    let q : ℕ = offer_position f o in let n : ℕ = needs f.features c in
    let ds : List Descriptor = descriptors f (next_head f o) c in
    let len : length ds ≡ n = length_needs f (next_head f o) c can.fits.chain.0 in
    let fits : n ≤ f.size = can.fits.size in
    All-append P (plan f o c) (last_put f o c ∷ [])
    (all_are (λ s. IsStaged f (next_head f o) q n s.place) P (plan f o c)
    (λ s w. staged_apart f (next_head f o) q q n s.place r half l.least two (omega arith) (omega arith) low high (inr out) w)
    (spelling_staged f q (next_head f o) c can.fits.chain))
    (All-cons P (last_put f o c) [] (within_apart f.size q q (length ds) (last_put f o c).place r half (omega (arith, l.least)) two
    (omega arith) (omega arith) low high (inr (omega arith))
    (publishing_within f.size q ds (omega (arith, needs_some f c can.fits)))) (All-nil P))

-- the rows after it
rows : (f : Frame) (o : List DriverDone) (c : List Piece) (half : ℕ) (ws : List ℕ) (cur cur2 : ℕ → ℕ) → IsLawful f → CanOffer f o c
    → collect_position f o ≤ offer_position f o → half < 2 → ((q : ℕ) → q < offer_position f o → cur2 q ≡ cur q)
    → ((j : ℕ) → j < needs f.features c
    → slice_index ws (2 * ((offer_position f o + j) % f.size) + half) ≡ cur2 (offer_position f o + j))
    → Row f.size half ws (offer_position f o) (all_puts f o c) cur → Row f.size half ws (offer_position f (Offer c ∷ o)) [] cur2
rows f o c half ws cur cur2 l can le two old new r =
    let n : ℕ = f.size in let q0 : ℕ = offer_position f o in let k : ℕ = needs f.features c in
    let pos : 0 < n = omega (arith, l.least) in
    let fits : k ≤ n = can.fits.size in
    subst (λ (t : ℕ). Row n half ws t [] cur2) (sym (offer_position_offered f o c))
    (row_published n half ws q0 k (all_puts f o c) cur cur2 pos fits
    (λ q a near. subst (λ (i : ℕ). IsClear (all_puts f o c) (2 * i + half)) (turned q n)
    (all_clear f o c (q + n) half l can le two (omega arith) (omega arith) (omega arith)))
    (λ p a near. subst (λ (i : ℕ). IsClear (all_puts f o c) (2 * i + half)) (mod-eq_of_lt a)
    (all_clear f o c p half l can le two (omega arith) (omega arith) (omega arith)))
    old new r)

pub publishes : (ws : List ℕ) (d : DriverView) (e : DeviceView) (puts : List Put) (p x : ℕ)
    → Ring ws (record d { doing = Offering puts }) e → (h : Publishes d.frame d.done puts p x)
    → Ring (slice_set ws p x) (driver_offers d puts p x) e × (p ≡ second_word d.frame.size (offer_position d.frame d.done))
    × (staged_chain d.frame (words_of puts) x ≡ h.chain)
    × Spells d.frame (slice_set ws p x) (offer_position d.frame d.done) (next_head d.frame d.done) h.chain
publishes ws d e puts p x r h =
    let f : Frame = d.frame in let o : List DriverDone = d.done in let c : List Piece = h.chain in let s : List DeviceDone = e.done in
    let n : ℕ = f.size in let q0 : ℕ = offer_position f o in let id : ℕ = next_head f o in
    let ds : List Descriptor = descriptors f id c in
    let pos : 0 < n = omega (arith, r.lawful.least) in
    let fits = h.can.fits in
    let len : length ds ≡ needs f.features c = length_needs f id c fits.chain.0 in
    let ord = order f o s r.places r.lists in
    let inside : id < f.size = next_low f o pos in
    let last : put p x ≡ publishing n q0 ds = h.last in
    let place : p ≡ second_word n q0 = ap (λ (t : Put). t.place) last in
    let word : x ≡ (publishing n q0 ds).word = ap (λ (t : Put). t.word) last in
    let us : List ℕ = slice_set ws p x in
    let st : List ℕ = slice_set d.stored p x in
    let wide : length ws ≡ width f = r.words.wide.0 in
    let low : p < 2 * n = omega (arith, second_low f q0 r.lawful.least) in
    let doing : Stages f o ws puts = r.driver_doing in
    let clear : IsClear puts p = subst (λ (l : List Put). IsClear l p) (sym h.whole)
    (subst (λ (i : ℕ). IsClear (plan f o c) i) (sym place) (spelling_clear f q0 id c r.lawful.least fits.chain fits.size)) in
    let all : puts ++ put p x ∷ [] ≡ all_puts f o c = ap (λ (l : List Put). l ++ put p x ∷ []) h.whole
    ∙ ap (λ (t : Put). plan f o c ++ t ∷ []) last in
    let stood : Stand us (puts ++ put p x ∷ []) = All-append (Stands us) puts (put p x ∷ []) (stand_other ws puts p x doing.stand clear)
    (All-cons (Stands us) (put p x) [] (get_or-set_same ws p x 0 (omega (arith, areas f))) (All-nil (Stands us))) in
    let parts : Stand us (table f id c ++ (staged n q0 ds ++ publishing n q0 ds ∷ [])) =
    subst (λ (l : List Put). Stand us l) (all ∙ append_assoc (table f id c) (staged n q0 ds) (publishing n q0 ds ∷ [])) stood in
    let there : Stand us (described n q0 ds) =
    staged_all us n q0 ds (all_right (Stands us) (table f id c) (staged n q0 ds ++ publishing n q0 ds ∷ []) parts) in
    let tables : Stand us (table f id c) = all_left (Stands us) (table f id c) (staged n q0 ds ++ publishing n q0 ds ∷ []) parts in
    let words : Words f us st e.stored = subst (λ (i : ℕ). Words f (slice_set ws i x) (slice_set d.stored i x) e.stored) (sym place)
    (driver_second f ws d.stored e.stored q0 x r.lawful.least r.words) in
    let each = λ (j : ℕ) (a : j < needs f.features c). described_stand us n q0 ds j (let y : j < length ds = omega arith in y) there in
    let some : 1 ≤ needs f.features c = needs_some f c fits in
    let grown : offer_position f (Offer c ∷ o) ≡ q0 + needs f.features c = offer_position_offered f o c in
    let borrowed_le : borrowed f c ≤ length (free f o) =
    omega (arith, borrowed_one f c r.lawful, free_some f o c r.lawful r.places fits h.can.room) in
    let lists2 = lists_offered f o c s r.places r.lists in
    let is_chain : staged_chain f (words_of puts) x ≡ c = staged_is_chain f o c puts x r.lawful h.can h.whole word in
    let addr_own = λ (j : ℕ) (a : j < needs f.features c). words.drivers (addr_word n (q0 + j))
    (inl (
      let y : 2 * ((q0 + j) % n) < 2 * n = omega (arith, mod_below (q0 + j) n pos) in y,
      let y : (2 * ((q0 + j) % n)) % 2 ≡ 0 =
          omega arith in y,
    )) in
    let addr_row = rows f o c 0 st (λ q. (made_at f o q).addr) (λ q. (made_at f (Offer c ∷ o) q).addr) r.lawful h.can
    (omega (arith, ord.open_span)) (omega arith)
    (λ q a. ap (λ (y : Descriptor). y.addr) (made_before f o c q r.places.fits a))
    (λ j a. ap (λ (i : ℕ). slice_index st i) (let y : 2 * ((q0 + j) % n) + 0 ≡ addr_word n (q0 + j) = omega arith in y)
    ∙ (sym (addr_own j a) ∙ ((each j a).0 ∙ ap (λ (y : Descriptor). y.addr) (sym (made_new f o c j r.places.fits)))))
    (subst (λ (l : List Put). Row n 0 st q0 l (λ q. (made_at f o q).addr)) all
    (row_staged n 0 d.stored q0 puts (λ q. (made_at f o q).addr) p x r.addresses)) in
    let second_row = rows f o c 1 us (second_at f o s) (second_at f (Offer c ∷ o) s) r.lawful h.can (omega (arith, ord.open_span))
    (omega arith)
    (λ q a. second_offered f o c s q r.places r.lists a)
    (λ j a. (each j a).1 ∙ sym (second_new f o c s j r.places lists2 (omega (arith, ord.given, ord.taken))))
    (subst (λ (l : List Put). Row n 1 us q0 l (second_at f o s)) all (row_staged n 1 ws q0 puts (second_at f o s) p x r.seconds)) in (
      subst (λ (cs : List Piece). Ring us
          (record d { done = Offer cs ∷ o; stored = st; doing = Checking q0 (offer_position f (Offer cs ∷ o)) }) e) (sym is_chain) record {
            same = r.same;
            lawful = r.lawful;
            words = words;
            places = offer_places f o c r.places fits borrowed_le h.can.limited;
            room = omega (arith, offer_position_offered f o c, collect_position_offered f o c r.places, h.can.room);
            addresses = addr_row;
            seconds = second_row;
            tables = kept_offered f o c st r.places fits (kept_past f o d.stored p x r.places (inl (omega arith)) r.tables)
                (table_stored f us st e.stored id c words inside fits.chain.1 tables);
            lists = lists2;
            short = r.short;
            driver_signals = signals_elsewhere f (driver_event f) (kick_at f) d.armed d.bells d.stored p x (λ a. omega arith)
                (λ a. omega (arith, areas f)) r.driver_signals;
            device_signals = r.device_signals;
            commands = commands_offered f (command_word f) (ack_word f) o c st r.places fits borrowed_le h.can.control
                (commands_elsewhere f (command_word f) (ack_word f) o d.stored p x r.places (λ g i under two a. omega (arith, areas f))
                r.commands);
            acks = acks_offered f (ack_word f) o c s e.stored r.places r.lists r.acks;
            driver_doing = tt;
            device_doing = doing_offered e.doing f o c s r.places r.device_doing;
            kicks = subst (λ (n : ℕ). Signals
                (record {
                  published = offer_position f (Offer c ∷ o);
                  owed = check q0 (offer_position f (Offer c ∷ o));
                  bells = d.bells;
                  ranges = n;
                }) (chains_in e)) (sym (length_push (offers o) c))
                (publishes_range (chains_out (record d { doing = Offering puts })) (chains_in e) (offer_position f (Offer c ∷ o))
                (omega (arith, grown, some)) refl r.kicks);
            calls = moves (entries_out e) (entries_in (record d { doing = Offering puts })) (collect_position f (Offer c ∷ o)) false
                r.driver_armed r.calls;
            driver_armed = (r.driver_armed, record { some = omega (arith, grown, some); near = omega (arith, grown, fits.size) });
            device_armed = r.device_armed;
            driver_seen = r.driver_seen;
            device_seen = omega (arith, r.device_seen, offer_position_offered f o c);
            driver_shown = λ a. omega (arith, r.driver_shown a, collect_position_offered f o c r.places);
            device_shown = r.device_shown;
            rested = r.rested;
          },
      place,
      is_chain,
      record { ring = there; table = tables },
    )
