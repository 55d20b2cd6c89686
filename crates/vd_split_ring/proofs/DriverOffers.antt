-- The accesses of an offer keep the ring invariant.
use Rattle.std.proofs.Common.{◌≡◌, ℕ, ◌+◌, ◌%◌, ◌<◌, ◌≤◌, List, [], ◌∷◌, ◌++◌, length, take, None, false, slice_index_or, slice_set, refl, sym, ap, ◌∙◌, subst, arith, inl}
use Rattle.std.specs.List.{All}
use Rattle.std.proofs.lemmas.List.{length_push, get_or-set_same}
use Rattle.std.proofs.lemmas.List.Elements.{All-nil, All-cons, All-append}
use Rattle.vd_model.specs.declared.chain.Piece.{Piece}
use Rattle.vd_ring.specs.declared.frame.Frame.{Frame}
use Rattle.vd_ring.specs.declared.frame.Put.{Put}
use Rattle.vd_ring.specs.declared.driver.DriverDone.{DriverDone}
use Rattle.vd_ring.specs.declared.driver.DriverDone.TheVariants.{Offer}
use Rattle.vd_ring.specs.declared.driver.DriverNow.{DriverNow}
use Rattle.vd_ring.specs.declared.driver.DriverNow.TheVariants.{Offering, Entered, Checking}
use Rattle.vd_ring.specs.declared.driver.DriverView.{DriverView}
use Rattle.vd_ring.specs.declared.device.DeviceDone.{DeviceDone}
use Rattle.vd_ring.specs.declared.device.DeviceNow.{DeviceNow}
use Rattle.vd_ring.specs.declared.device.DeviceNow.TheVariants as device
use Rattle.vd_ring.specs.declared.device.DeviceView.{DeviceView}
use Rattle.vd_ring.specs.Frames.{borrowed}
use Rattle.vd_ring.specs.History.{offers, collects, takes, free, places, next_head, chain, first, occurs}
use Rattle.vd_ring.specs.Places.{Places}
use Rattle.vd_ring.specs.Signals.{Signals, check}
use Rattle.vd_ring.specs.laws.Signals.{moves}
use Rattle.vd_ring.specs.laws.Signals.{publishes as publishes_range}
use Rattle.vd_ring.specs.Lists.{Lists}
use Rattle.vd_ring.proofs.Counts.{occurs_parts}
use Rattle.vd_ring.proofs.HeldPlaces.{free_once, free_inside, borrowed_some, offer_places, places_before, chain_before}
use Rattle.vd_ring.proofs.ListSteps.{lists_offered, entry_is, given_below}
use Rattle.vd_ring.proofs.ControlSteps.{next_free, head_before, commands_elsewhere, commands_offered, acks_offered}
use Rattle.vd_split_ring.specs.SplitWords.{IsLawful, IsDescriptors, width, used_from, commands_from, command_word, ack_word, lane_word, with_lane, entry_lane, spelling, reading, put, words_of, staged_chain, Stand}
use Rattle.vd_split_ring.specs.SplitDriver.{CanOffer, Begins, Publishes, plan, stores, driver_offers}
use Rattle.vd_split_ring.specs.SplitDriver.{Enters as EntersNext}
use Rattle.vd_split_ring.specs.SplitRing.{Ring, DeviceWords, Stages, HasEntered, Loads, DeviceDoing, chains_out, chains_in, entries_out, entries_in}
use Rattle.vd_split_ring.proofs.Descriptors.{IsApart, Stands, stand_other}
use Rattle.vd_split_ring.proofs.Tables.{IsWord, spelling_within, spelling_differ, staged_spelling}
use Rattle.vd_split_ring.proofs.Direct.{IsNext, is_next}
use Rattle.vd_split_ring.proofs.Areas.{areas, descriptor_drivers, descriptor_low, area_no_descriptor, driver_stores, lane_same, lane_inside}
use Rattle.vd_split_ring.proofs.DriverParts.{room_borrowed, next_chain, next_free_place, needs_some, word_descriptor, spelled_past, slot_free, driver_words_described, driver_words_entered, driver_words_published, signals_descriptor, signals_lane}

-- the places that the chain gets
abbrev next_places : Frame → List DriverDone → List Piece → List ℕ
next_places f o c = take (borrowed f c) (free f o)

-- ---- the store of a word of the chain

pub describes : (ws : List ℕ) (d : DriverView) (e : DeviceView) (now : DriverNow) (puts : List Put) (p x : ℕ)
    → Ring ws (record d { doing = now }) e → d.armed ≡ None → Signals (chains_out (record d { doing = Offering [] })) (chains_in e)
    → Stand d.stored puts → Begins d.frame d.done (puts ++ put p x ∷ [])
    → Ring (slice_set ws p x) (stores d p x (Offering (puts ++ put p x ∷ []))) e × IsDescriptors d.frame p
describes ws d e now puts p x r unarmed kicks stand n =
    let f : Frame = d.frame in let o : List DriverDone = d.done in let c : List Piece = n.chain in let k : ℕ = length puts in
    let ps : List ℕ = next_places f o c in
    let pl : List Put = spelling f ps c in
    let next = next_chain f o c r.lawful n.can in
    let some : 1 ≤ length ps = omega (arith, next.0, needs_some f c next.1) in
    let are_free : (q : ℕ) → 1 ≤ occurs q ps → 1 ≤ occurs q (free f o) = λ q a. next_free_place f o c q a in
    let inside : (q : ℕ) → 1 ≤ occurs q ps → q < f.size = λ q a. free_inside f o q r.places (are_free q a) in
    let once : (q : ℕ) → occurs q ps ≤ 1 = λ q. omega (arith, free_once f o q r.places, occurs_parts q (borrowed f c) (free f o)) in
    let m : IsNext puts (put p x) pl = is_next puts (put p x) pl n.first in
    let is_place : (slice_index_or pl k (put 0 0)).place ≡ p = sym (ap (λ (s : Put). s.place) m.is) in
    let w : IsWord f ps p = subst (λ (q : ℕ). IsWord f ps q) is_place (spelling_within f ps c next.0 next.1 k (put 0 0) m.left) in
    let own : IsDescriptors f p = word_descriptor f ps p some inside w in
    let low : p < commands_from f = descriptor_low f p own in
    let wide : length d.stored ≡ width f = r.words.wide.1 in
    let apart : All (IsApart p) puts =
    subst (λ (l : List Put). All (IsApart p) l) (sym m.before)
    (subst (λ (q : ℕ). All (IsApart q) (take k pl)) is_place (spelling_differ f ps c next.0 next.1 once inside k m.left)) in
    let us : List ℕ = slice_set d.stored p x in (
      record {
        same = r.same;
        lawful = r.lawful;
        words = driver_stores f ws d.stored e.stored p x r.words (descriptor_drivers f p own);
        places = r.places;
        driver_words = driver_words_described f o d.stored ps p x r.lawful r.places r.driver_words own some are_free w;
        lists = r.lists;
        device_words = r.device_words;
        driver_signals = signals_descriptor f d.armed d.bells d.stored p x own r.driver_signals;
        device_signals = r.device_signals;
        commands = commands_elsewhere f (command_word f) (ack_word f) o d.stored p x r.places (λ h i under two e2. omega arith) r.commands;
        acks = r.acks;
        driver_doing = record {
          begins = n;
          stand = All-append (Stands us) puts (put p x ∷ []) (stand_other d.stored puts p x stand apart)
              (All-cons (Stands us) (put p x) [] (get_or-set_same d.stored p x 0 (omega (arith, areas f))) (All-nil (Stands us)));
        };
        device_doing = r.device_doing;
        driver_seen = r.driver_seen;
        driver_cut = r.driver_cut;
        device_seen = r.device_seen;
        driver_shown = r.driver_shown;
        device_shown = r.device_shown;
        kicks = kicks;
        calls = moves (entries_out e) (entries_in (record d { doing = now })) (length (collects o)) false unarmed r.calls;
        driver_armed = unarmed;
        device_armed = r.device_armed;
        rested = r.rested;
      },
      own,
    )

-- ---- the store of the ring entry

pub enters : (ws : List ℕ) (d : DriverView) (e : DeviceView) (puts : List Put) (p x : ℕ)
    → Ring ws (record d { doing = Offering puts }) e → EntersNext d.frame d.done d.stored puts p x
    → Ring (slice_set ws p x) (stores d p x (Entered puts)) e × (p < used_from d.frame)
enters ws d e puts p x r n =
    let f : Frame = d.frame in let o : List DriverDone = d.done in let c : List Piece = n.chain in
    let m : ℕ = length (offers o) in
    let j : ℕ = entry_lane f m in
    let h : ℕ = next_head f o in
    let ps : List ℕ = next_places f o c in
    let slot = slot_free f o c r.lawful r.places n.can in
    let inside : h < f.size = free_inside f o h r.places
    (next_free f o (omega (arith, borrowed_some f c n.can.fits, room_borrowed f o c r.lawful n.can))) in
    let small : h < 65536 = omega (arith, r.lawful.small) in
    let under : entry_lane f m < f.size + 2 = omega (arith, Rattle.std.proofs.lemmas.Nat.mod_below m f.size slot.1) in
    let low : lane_word f j < used_from f = lane_inside f j (omega arith) in
    let wide : length d.stored ≡ width f = r.words.wide.1 in
    let far : used_from f ≤ length d.stored = omega (arith, areas f) in
    let doing : Stages f o d.stored puts = r.driver_doing in
    let y : ℕ = with_lane f d.stored j h in
    let pl : List Put = spelling f ps c in
    let next = next_chain f o c r.lawful n.can in
    let stood : Stand (slice_set d.stored (lane_word f j) y) puts =
    subst (λ (l : List Put). Stand (slice_set d.stored (lane_word f j) y) l) (sym n.whole)
    (spelled_past f d.stored ps c (lane_word f j) y next.0 next.1 (λ q a. free_inside f o q r.places (next_free_place f o c q a))
    (area_no_descriptor f (lane_word f j) (omega arith) low)
    (subst (λ (l : List Put). Stand d.stored l) n.whole doing.stand)) in
    subst (λ (q : ℕ). Ring (slice_set ws q x) (stores d q x (Entered puts)) e × (q < used_from f)) (sym n.place)
    (subst (λ (z : ℕ). Ring (slice_set ws (lane_word f j) z) (stores d (lane_word f j) z (Entered puts)) e
    × (lane_word f j < used_from f)) (sym n.word) (
      record {
        same = r.same;
        lawful = r.lawful;
        words = driver_stores f ws d.stored e.stored (lane_word f j) y r.words (inl low);
        places = r.places;
        driver_words = driver_words_entered f o c d.stored h r.lawful r.places r.driver_words n.can small far;
        lists = r.lists;
        device_words = r.device_words;
        driver_signals = signals_lane f d.armed d.bells d.stored j h small far (omega arith) under r.driver_signals;
        device_signals = r.device_signals;
        commands = commands_elsewhere f (command_word f) (ack_word f) o d.stored (lane_word f j) y r.places
            (λ g i below two e2. omega arith) r.commands;
        acks = r.acks;
        driver_doing = record {
          chain = c;
          can = n.can;
          whole = n.whole;
          stand = stood;
          entry =
              lane_same f d.stored j h small (omega arith);
        };
        device_doing = r.device_doing;
        driver_seen = r.driver_seen;
        driver_cut = r.driver_cut;
        device_seen = r.device_seen;
        driver_shown = r.driver_shown;
        device_shown = r.device_shown;
        kicks = r.kicks;
        calls = r.calls;
        driver_armed = r.driver_armed;
        device_armed = r.device_armed;
        rested = r.rested;
      },
      low,
    ))

-- ---- the store of the index

device_words_offered : (f : Frame) (o : List DriverDone) (c : List Piece) (s : List DeviceDone) (ws : List ℕ) → Places f o → Lists f o s
    → DeviceWords f o s ws → DeviceWords f (Offer c ∷ o) s ws
device_words_offered f o c s ws pl l r = record {
  index = r.index;
  ids = λ j u low is.
      let g = entry_is f s j u l.entries is in
      let below : u.number < length (takes s) =
      subst (λ (v : Rattle.vd_ring.specs.declared.frame.Used.Used). v.number < length (takes s)) g.1 (given_below f o s j l g.0) in
      r.ids j u low is ∙ sym (head_before f o c u.number pl (omega (arith, l.some)));
  lens = r.lens;
}

loads_offered : (f : Frame) (o : List DriverDone) (c : List Piece) (k w : ℕ) (ws : List ℕ) → Places f o → k < length (offers o)
    → Loads f o k w ws → Loads f (Offer c ∷ o) k w ws
loads_offered f o c k w ws pl below l =
    let ps : places f (Offer c ∷ o) k ≡ places f o k = places_before f o c k pl below in
    let cs : chain (Offer c ∷ o) k ≡ chain o k = chain_before o c k below in
    let read : reading f (places f (Offer c ∷ o) k) (chain (Offer c ∷ o) k) ≡ reading f (places f o k) (chain o k) =
    ap (λ (qs : List ℕ). reading f qs (chain (Offer c ∷ o) k)) ps ∙ ap (λ (ds : List Piece). reading f (places f o k) ds) cs in
    record {
      is_head = l.is_head ∙ ap first (sym ps);
      words = l.words ∙ ap (λ (l : List Put). words_of (take (length ws) l)) (sym read);
      left = omega (arith, l.left, ap (λ (l : List Put). length l) read);
    }

doing_offered : (now : DeviceNow) (f : Frame) (o : List DriverDone) (c : List Piece) (s : List DeviceDone) (st : List ℕ) (seen : ℕ)
    → Places f o → seen ≤ length (offers o) → DeviceDoing now f o s st seen → DeviceDoing now f (Offer c ∷ o) s st seen
doing_offered (device.Taking (r ∷ [])) f o c s st seen pl low h = h
doing_offered (device.Taking (r ∷ w ∷ ws)) f o c s st seen pl low h =
    (h.0, loads_offered f o c (length (takes s)) w ws pl (omega (arith, h.0.more)) h.1)
doing_offered (device.Taking []) f o c s st seen pl low h = h
doing_offered (device.Giving []) f o c s st seen pl low h = h
doing_offered (device.Giving (a ∷ [])) f o c s st seen pl low h = h
doing_offered (device.Giving (a ∷ b ∷ [])) f o c s st seen pl low h = h
doing_offered (device.Giving (a ∷ b ∷ x ∷ ws)) f o c s st seen pl low h = h
doing_offered _ f o c s st seen pl low h = h

-- what was staged is the chain
pub staged_is_chain : (f : Frame) (o : List DriverDone) (c : List Piece) (puts : List Put) → IsLawful f → CanOffer f o c
    → puts ≡ plan f o c → staged_chain f (words_of puts) ≡ c
staged_is_chain f o c puts l can whole = let next = next_chain f o c l can in ap (λ (ps : List Put). staged_chain f (words_of ps)) whole
    ∙ staged_spelling f (next_places f o c) c next.0 next.1

pub publishes : (ws : List ℕ) (d : DriverView) (e : DeviceView) (puts : List Put) (p x : ℕ)
    → Ring ws (record d { doing = Entered puts }) e → Publishes d.frame d.done d.stored p x
    → Ring (slice_set ws p x) (driver_offers d puts p x) e
publishes ws d e puts p x r n =
    let f : Frame = d.frame in let o : List DriverDone = d.done in let h : HasEntered f o d.stored puts = r.driver_doing in
    let c : List Piece = h.chain in
    let wide : length d.stored ≡ width f = r.words.wide.1 in
    let far : used_from f ≤ length d.stored = omega (arith, areas f) in
    let v : ℕ = (length (offers o) + 1) % 65536 in
    let y : ℕ = with_lane f d.stored 1 v in
    let q : ℕ = lane_word f 1 in
    let low : q < used_from f = lane_inside f 1 (omega arith) in
    subst (λ (i : ℕ). Ring (slice_set ws i x) (driver_offers d puts i x) e) (sym n.place)
    (subst (λ (z : ℕ). Ring (slice_set ws q z) (driver_offers d puts q z) e) (sym n.word)
    (subst (λ (cs : List Piece). Ring (slice_set ws q y)
    (record d {
      done = Offer cs ∷ o;
      stored = slice_set d.stored q y;
      doing =
          Checking (length (offers o)) (length (offers o) + 1);
    }) e) (sym (staged_is_chain f o c puts r.lawful h.can h.whole)) record {
      same = r.same;
      lawful = r.lawful;
      words = driver_stores f ws d.stored e.stored q y r.words (inl low);
      places = offer_places f o c r.places h.can.fits (room_borrowed f o c r.lawful h.can) h.can.limited;
      driver_words = driver_words_published f o c d.stored r.places r.driver_words h.can r.lawful far
          (subst (λ (l : List Put). Stand d.stored l) h.whole h.stand) h.entry;
      lists = lists_offered f o c e.done r.places r.lists;
      device_words = device_words_offered f o c e.done e.stored r.places r.lists r.device_words;
      driver_signals = signals_lane f d.armed d.bells d.stored 1 v (omega arith) far (omega arith) (omega (arith, r.lawful.some_place))
          r.driver_signals;
      device_signals = r.device_signals;
      commands = commands_offered f (command_word f) (ack_word f) o c (slice_set d.stored q y) r.places h.can.fits
          (room_borrowed f o c r.lawful h.can) h.can.control
          (commands_elsewhere f (command_word f) (ack_word f) o d.stored q y r.places (λ g i below two e2. omega arith) r.commands);
      acks = acks_offered f (ack_word f) o c e.done e.stored r.places r.lists r.acks;
      driver_doing = tt;
      device_doing = doing_offered e.doing f o c e.done e.stored e.seen r.places r.device_seen r.device_doing;
      driver_seen = r.driver_seen;
      driver_cut = r.driver_cut;
      device_seen = omega (arith, r.device_seen, length_push (offers o) c);
      driver_shown = r.driver_shown;
      device_shown = r.device_shown;
      kicks = subst (λ (m : ℕ). Signals (record {
        published = m;
        owed = check (length (offers o)) (length (offers o) + 1);
        bells =
            d.bells;
        ranges = m;
      }) (chains_in e)) (sym (length_push (offers o) c))
          (publishes_range (chains_out (record d { doing = Entered puts })) (chains_in e) (length (offers o) + 1)
          (omega arith) refl r.kicks);
      calls = r.calls;
      driver_armed = (r.driver_armed, record { some = omega arith; near = omega (arith, r.lawful.some_place) });
      device_armed = r.device_armed;
      rested = r.rested;
    }))
