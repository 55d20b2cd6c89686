-- The device's give and rest keep the ring invariant.
use Rattle.std.proofs.lemmas.Bool.{cases_lt}
use Rattle.std.proofs.Common.{inl, inr, ◌+◌, if◌then◌else◌, Bool, true, false, slice_index, slice_index_or, ◌≡◌, ◌≢◌, ℕ, ◌*◌, ◌<◌, ◌≤◌, List, [], ◌∷◌, length, take, slice_set, Option, None, refl, sym, ap, ◌∙◌, subst, arith}
use Rattle.std.proofs.lemmas.List.{length-take-le}
use Rattle.std.proofs.lemmas.List.Elements.{All-push}
use Rattle.vd_model.specs.Chains.{needs}
use Rattle.vd_ring.specs.declared.frame.Frame.{Frame}
use Rattle.vd_ring.specs.declared.frame.Used.{Used}
use Rattle.vd_ring.specs.declared.driver.DriverDone.{DriverDone}
use Rattle.vd_ring.specs.declared.driver.DriverView.{DriverView}
use Rattle.vd_ring.specs.declared.device.DeviceDone.{DeviceDone}
use Rattle.vd_ring.specs.declared.device.DeviceDone.TheVariants.{Give, Rest}
use Rattle.vd_ring.specs.declared.device.DeviceNow.TheVariants.{Idle, Checking, Resting}
use Rattle.vd_ring.specs.declared.device.DeviceView.{DeviceView}
use Rattle.vd_ring.specs.Signals.{Signals, nothing}
use Rattle.vd_ring.specs.laws.Signals.{moves}
use Rattle.vd_ring.specs.laws.Signals.{publishes as publishes_range}
use Rattle.vd_ring.specs.Sleep.{gives_made}
use Rattle.vd_ring.specs.History.{offers, takes, gives, running, running_size, taken_head, with_head, head, chain, chain_at, given, batch, entry, IsWhole}
use Rattle.vd_ring.proofs.Counts.{occurs_from, with_head_is, sum_one}
use Rattle.vd_ring.proofs.HeldPlaces.{chain_fits}
use Rattle.vd_ring.proofs.ListSteps.{batch_one, returns_next, single_entry}
use Rattle.vd_ring.proofs.DeviceLists.{running_below, running_head, same_taken_head, lists_given, lists_rested}
use Rattle.vd_ring.proofs.DeviceAcks.{acks_given, acks_rested, acks_elsewhere}
use Rattle.vd_packed_ring.specs.PackedWords.{is_available, width, device_event, call_at, ack_word, second_word, len_of, id_of, used_word}
use Rattle.vd_packed_ring.specs.PackedPositions.{take_position, offer_position, give_position, made_at, marks, stands, second_at, later}
use Rattle.vd_packed_ring.specs.PackedDevice.{Returns, device_gives, seen_to, device_rests}
use Rattle.vd_packed_ring.specs.PackedRing.{Ring, puts_of, chains_out, chains_in, entries_out, entries_in}
use Rattle.vd_packed_ring.proofs.WordFacts.{used_id, used_len}
use Rattle.vd_packed_ring.proofs.Areas.{areas, second_low, second_inside, device_second}
use Rattle.vd_packed_ring.proofs.Rows.{row_same, row_over}
use Rattle.vd_packed_ring.proofs.Positions.{needs_some, order, give_position_is, taken_chain, gives_below, give_position_given, later_second, later_within}
use Rattle.vd_packed_ring.proofs.Made.{length_marks, mark_new, mark_old}
use Rattle.vd_packed_ring.proofs.Clear.{doing_clear, doing_other, signals_elsewhere}
use Rattle.vd_packed_ring.proofs.Ahead.{ahead, none_shows}
use Rattle.vd_packed_ring.proofs.Takes.{shows_next}
use Rattle.vd_packed_ring.proofs.DeviceParts.{ring_with}

-- what a give stores
pub record Given (ws : List ℕ) (d : DriverView) (s : List DeviceDone) (x k len : ℕ) : Type 0 where
  pub is : given d.frame s (id_of x) (len_of x) ≡ entry k len ∷ []
  pub low : taken_head s k < 65536
  pub below : give_position d.frame s < offer_position d.frame d.done
  pub some : 1 ≤ needs d.frame.features (chain d.done k)

pub given_is : (ws : List ℕ) (d : DriverView) (e : DeviceView) (p x : ℕ) → Ring ws d e → (n : Returns d.frame e.done p x)
    → Given ws d e.done x n.number n.len
given_is ws d e p x r n =
    let f : Frame = d.frame in let s : List DeviceDone = e.done in let o : List DriverDone = d.done in
    let k : ℕ = n.number in
    let runs = occurs_from k (running s) n.runs in
    let hd = running_head f o s k r.places r.lists runs in
    let low : taken_head s k < 65536 = omega (arith, hd.1, r.lawful.most) in
    let id : id_of x ≡ taken_head s k = ap id_of n.word ∙ used_id f.size (give_position f s) (taken_head s k) n.len low n.small in
    let len : len_of x ≡ n.len = ap len_of n.word ∙ used_len f.size (give_position f s) (taken_head s k) n.len n.small in
    let number : with_head (taken_head s) (running s) (id_of x) ≡ k =
    with_head_is (taken_head s) (running s) (id_of x) k (sym id) runs
    (λ j c a. same_taken_head f o s j k r.places r.lists c runs (a ∙ id)) in
    let rb = running_below f o s k r.lists runs in
    let taken : chain_at (takes s) k ≡ chain o k = taken_chain f o s k r.lists rb.0 in
    let some : 1 ≤ needs f.features (chain o k) =
    needs_some f (chain o k) (chain_fits f o k r.places (omega (arith, rb.0, r.lists.some))) in
    let ord = order f o s r.places r.lists in
    let below = gives_below f s k ord.running_span runs (omega (arith, some, ap (needs f.features) taken)) in
    record {
      is = ap (λ (i : ℕ). batch f (chain_at (takes s)) (length (gives s)) i (len_of x)) number
          ∙ (ap (λ (i : ℕ). batch f (chain_at (takes s)) (length (gives s)) k i) len
          ∙ batch_one f (chain_at (takes s)) (length (gives s)) k n.len (returns_next f (chain_at (takes s)) (length (gives s)) k n.next));
      low = low;
      below = omega (arith, below, ord.taken);
      some = some;
    }

second_given : (f : Frame) (o : List DriverDone) (s : List DeviceDone) (u : Used) (q : ℕ)
    → give_position f s ≡ length (marks (λ k. needs f.features (chain o k)) s) → q ≢ give_position f s
    → second_at f o (Give (u ∷ []) ∷ s) q ≡ second_at f o s q
second_given f o s u q e ne = ap (λ (m : Option Used). stands f o q (made_at f o q) m)
    (mark_old (λ k. needs f.features (chain o k)) s (u ∷ []) q (λ a. ne (omega arith)))

second_here : (f : Frame) (o : List DriverDone) (s : List DeviceDone) (u : Used)
    → give_position f s ≡ length (marks (λ k. needs f.features (chain o k)) s) → 1 ≤ needs f.features (chain o u.number)
    → second_at f o (Give (u ∷ []) ∷ s) (give_position f s) ≡ used_word f.size (give_position f s) (head f o u.number) u.len
second_here f o s u e some =
    ap (λ (m : Option Used). stands f o (give_position f s) (made_at f o (give_position f s)) m)
    (ap (λ (q : ℕ). slice_index_or (marks (λ k. needs f.features (chain o k)) (Give (u ∷ []) ∷ s)) q None) e
    ∙ mark_new (λ k. needs f.features (chain o k)) s u some)

pub returns : (ws : List ℕ) (d : DriverView) (e : DeviceView) (p x : ℕ) → Ring ws d (record e { frame = d.frame; doing = Idle })
    → e.armed ≡ None → Returns d.frame e.done p x
    → Ring (slice_set ws p x) d (device_gives (record e { frame = d.frame; doing = Idle }) p x) × (p < width d.frame)
returns ws d e p x r unarmed n =
    let f : Frame = d.frame in let s : List DeviceDone = e.done in let o : List DriverDone = d.done in
    let E : DeviceView = record e { frame = d.frame; doing = Idle } in
    let pos : 0 < f.size = omega (arith, r.lawful.least) in
    let k : ℕ = n.number in
    let u : Used = entry k n.len in
    let q0 : ℕ = give_position f s in let q : ℕ = second_word f.size q0 in
    let g = given_is ws d E p x r n in
    let runs = occurs_from k (running s) n.runs in
    let hd = running_head f o s k r.places r.lists runs in
    let ord = order f o s r.places r.lists in
    let s2 : List DeviceDone = Give (u ∷ []) ∷ s in
    let us : List ℕ = slice_set ws q x in
    let st : List ℕ = slice_set e.stored q x in
    let wide : length ws ≡ width f = r.words.wide.0 in
    let low : q < 2 * f.size = second_low f q0 r.lawful.least in
    let inside : q < width f = second_inside f q0 r.lawful.least in
    let at : q0 ≡ length (marks (λ j. needs f.features (chain o j)) s) =
    give_position_is f o s r.lists ∙ sym (length_marks (λ j. needs f.features (chain o j)) s) in
    let word : second_at f o s2 q0 ≡ x =
    second_here f o s u at g.some ∙ (ap (λ (h : ℕ). used_word f.size q0 h n.len) (sym hd.0) ∙ sym n.word) in
    let lists2 = lists_given f o s u r.lists runs
    (single_entry f (chain_at (takes s)) (length (gives s)) u (returns_next f (chain_at (takes s)) (length (gives s)) k n.next)) in
    let grows : give_position f s2 ≡ q0 + needs f.features (chain_at (takes s) k) = give_position_given f s u in
    let taken_some : 1 ≤ needs f.features (chain_at (takes s) k) =
    omega (arith, g.some, ap (needs f.features) (taken_chain f o s k r.lists (running_below f o s k r.lists runs).0)) in
    let within : needs f.features (chain_at (takes s) k) ≤ running_size f s =
    sum_one (λ j. needs f.features (chain_at (takes s) j)) k (running s) runs in
    subst (λ (i : ℕ). Ring (slice_set ws i x) d (device_gives E i x) × (i < width f)) (sym n.place)
    (subst (λ (vs : List Used). Ring us d
    (record E { done = Give vs ∷ s; stored = st; doing = Checking q0 (give_position f (Give vs ∷ s)) }) × (q < width f)) (sym g.is) (
      ring_with ws us d E (record E { done = s2; stored = st; doing = Checking q0 (give_position f s2) }) r record {
        same = refl;
        words = device_second f ws d.stored e.stored q0 x r.lawful.least r.words;
        seconds = row_over f.size 1 ws (offer_position f o) (puts_of d.doing) (second_at f o s) (second_at f o s2) q0 x pos
            (omega arith) g.below (omega (arith, ord.collected, r.room)) word (λ j ne. second_given f o s u j at ne) r.seconds;
        lists = lists2;
        short = All-push (λ v. v.len < 4294967296) (gives s) u r.short n.small;
        signals = signals_elsewhere f (device_event f) (call_at f) e.armed e.bells e.stored q x (λ a. omega arith)
            (λ a. omega (arith, areas f)) r.device_signals;
        acks = acks_given f (ack_word f) o s u st r.places r.lists runs
            (acks_elsewhere f (ack_word f) o s e.stored q x r.places r.lists (λ i b a. omega (arith, areas f)) r.acks);
        driver_doing = doing_other d.doing f o ws q x
            (doing_clear d.doing f o ws q0 1 r.lawful r.driver_doing (omega arith) ord.collected g.below) r.driver_doing;
        device_doing = tt;
        kicks = moves (chains_out d) (chains_in E) (take_position f s) false unarmed r.kicks;
        calls = publishes_range (entries_out E) (entries_in d) (give_position f s2) (omega (arith, grows, taken_some)) refl r.calls;
        armed = (
          unarmed,
          record {
            some = omega (arith, grows, taken_some);
            near =
                omega (arith, grows, within, ord.open_span, ord.running_span, ord.collected, ord.taken, r.room);
          },
        );
        driver_seen = omega (arith, r.driver_seen, grows);
        device_seen = r.device_seen;
        device_shown = r.device_shown;
        rested = tt;
      },
      inside,
    ))

-- ---- the rest

-- what its look shows was offered, and is past what is taken where the last look showed a chain
rest_sees : (ws : List ℕ) (d : DriverView) (e : DeviceView) (w : ℕ) → Ring ws d (record e { frame = d.frame })
    → w ≡ slice_index ws (second_word d.frame.size (take_position d.frame e.done))
    → (seen_to (record e { frame = d.frame }) w ≤ offer_position d.frame d.done)
    × (e.shown ≡ true → take_position d.frame e.done < seen_to (record e { frame = d.frame }) w)
rest_sees ws d e w r is =
    let f : Frame = d.frame in let q : ℕ = take_position f e.done in
    let E : DeviceView = record e { frame = d.frame } in
    let P : Bool → Type 0 = λ b. ((if b then q + 1 else q) ≤ offer_position f d.done) × (e.shown ≡ true → q < (if b then q + 1 else q)) in
    elim (cases_lt (length (takes e.done)) (length (offers d.done))) [
      | inl more ↦ subst P (sym (ap (is_available f.size q) is ∙ shows_next ws d E r more)) ((ahead ws d E r more).fewer, λ h. omega arith)
      | inr none ↦ (
          let no = none_shows ws d E r none in
          subst P (sym (ap (is_available f.size q) is ∙ no.1)) (
            omega (arith, no.0),
            λ h. omega (arith, r.device_shown h, r.device_seen, no.0),
          )
          )
    ]

pub rests : (ws : List ℕ) (d : DriverView) (e : DeviceView) (w : ℕ) → Ring ws d (record e { frame = d.frame; doing = Resting })
    → w ≡ slice_index ws (second_word d.frame.size (take_position d.frame e.done))
    → Ring ws d (device_rests (record e { frame = d.frame; doing = Resting }) w)
rests ws d e w r is =
    let f : Frame = d.frame in let s : List DeviceDone = e.done in let o : List DriverDone = d.done in let g : ℕ = length (gives s) in
    let E : DeviceView = record e { frame = d.frame; doing = Resting } in
    let whole : IsWhole s = r.device_doing in
    let s2 : List DeviceDone = Rest ∷ s in
    let len : length (take g (takes s)) ≡ g = length-take-le g (takes s) (omega (arith, r.lists.count)) in
    let lists2 = lists_rested f o s r.lists whole in
    let ord = order f o s r.places r.lists in
    let ord2 = order f o s2 r.places lists2 in
    let same_give_position : give_position f s2 ≡ give_position f s =
    give_position_is f o s2 lists2 ∙ sym (give_position_is f o s r.lists) in
    let none : running_size f s2 ≡ 0 = refl in
    let back : take_position f s2 ≤ take_position f s = omega (arith, ord.given, same_give_position, ord2.running_span, none) in
    let sees = rest_sees ws d E w r is in
    ring_with ws ws d E (record E { done = s2; seen = later e.seen (seen_to E w); doing = Idle }) r record {
      same = refl;
      words = r.words;
      seconds = row_same f.size 1 ws (offer_position f o) (puts_of d.doing) (second_at f o s) (second_at f o s2) (λ q a. refl) r.seconds;
      lists = lists2;
      short = r.short;
      signals = r.device_signals;
      acks = acks_rested f (ack_word f) o s e.stored r.acks;
      driver_doing = r.driver_doing;
      device_doing = tt;
      kicks = moves (chains_out d) (chains_in E) (take_position f s2) true r.device_armed r.kicks;
      calls = subst (λ (n : ℕ). Signals (record { published = n; owed = nothing; bells = e.bells; ranges = gives_made s })
          (entries_in d)) (sym same_give_position) r.calls;
      armed = tt;
      driver_seen = omega (arith, r.driver_seen, same_give_position);
      device_seen = later_within _ _ _ r.device_seen sees.0;
      device_shown = λ h. omega (arith, sees.1 h, back, later_second e.seen (seen_to E w));
      rested = (len, whole);
    }
