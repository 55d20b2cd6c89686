-- The loads of a take keep the ring invariant, and find the next chain exactly where there is one.
use Rattle.std.proofs.Common.{◌≡◌, ℕ, ◌+◌, ◌<◌, ◌≤◌, Bool, true, false, List, [], ◌∷◌, ◌++◌, length, take, if◌then◌else◌, slice_index, slice_index_or, None, refl, sym, ap, ◌∙◌, subst, arith, inl, inr}
use Rattle.std.proofs.lemmas.Bool.{cases_lt}
use Rattle.std.proofs.lemmas.List.{length_push}
use Rattle.std.proofs.lemmas.List.Sums.{sum_by_push}
use Rattle.vd_model.specs.declared.chain.Piece.{Piece}
use Rattle.vd_model.specs.Chains.{needs, IsChain}
use Rattle.vd_ring.specs.declared.frame.Frame.{Frame}
use Rattle.vd_ring.specs.declared.frame.Put.{Put}
use Rattle.vd_ring.specs.declared.driver.DriverDone.{DriverDone}
use Rattle.vd_ring.specs.declared.driver.DriverView.{DriverView}
use Rattle.vd_ring.specs.declared.device.DeviceDone.{DeviceDone}
use Rattle.vd_ring.specs.declared.device.DeviceDone.TheVariants.{Take}
use Rattle.vd_ring.specs.declared.device.DeviceNow.TheVariants.{Idle, Taking}
use Rattle.vd_ring.specs.declared.device.DeviceView.{DeviceView}
use Rattle.vd_ring.specs.Frames.{limit}
use Rattle.vd_ring.specs.Signals.{Signals, nothing}
use Rattle.vd_ring.specs.laws.Signals.{moves}
use Rattle.vd_ring.specs.Sleep.{gives_made}
use Rattle.vd_ring.specs.History.{offers, takes, head, chain}
use Rattle.vd_ring.proofs.DeviceLists.{lists_taken}
use Rattle.vd_ring.proofs.DeviceAcks.{acks_taken}
use Rattle.vd_packed_ring.specs.PackedWords.{second_word, put, words_of, is_available, Stand, ack_word}
use Rattle.vd_packed_ring.specs.PackedChains.{Descriptor, descriptors, table, loaded, loaded_head, chain_of, cursor}
use Rattle.vd_packed_ring.specs.PackedPositions.{offer_position, take_position, give_position, second_at, later}
use Rattle.vd_packed_ring.specs.PackedDevice.{ShowsSeen, BeginsChain, device_looks, device_takes, device_loads}
use Rattle.vd_packed_ring.specs.PackedRing.{puts_of, Ring, Loads, chains_out, chains_in, entries_in}
use Rattle.vd_packed_ring.proofs.Rows.{row_same}
use Rattle.vd_packed_ring.proofs.Spelled.{words_more}
use Rattle.vd_packed_ring.proofs.Tables.{descriptors_some, reads}
use Rattle.vd_packed_ring.proofs.Positions.{order, give_position_is, later_second, later_within}
use Rattle.vd_packed_ring.proofs.DeviceParts.{ring_with}
use Rattle.vd_packed_ring.proofs.Ahead.{next_words, ahead, none_shows, first_word, whole_less, whole_all, begins}

-- ---- the look

first_stands : (ws : List ℕ) (n q : ℕ) (ds : List Descriptor) (rest : List Put) → 0 < length ds → Stand ws (loaded n q ds ++ rest)
    → slice_index ws (second_word n q) ∷ [] ≡ words_of (take 1 (loaded n q ds ++ rest))
first_stands ws n q [] rest h stand = absurd (omega arith)
first_stands ws n q (d ∷ ds) rest h stand = ap (λ (x : ℕ). x ∷ []) (stand 0 (put 0 0) (omega arith))

-- the word at the next position is the first of the next chain's
pub next_word : (ws : List ℕ) (d : DriverView) (e : DeviceView) → Ring ws d e → length (takes e.done) < length (offers d.done)
    → slice_index ws (second_word d.frame.size (take_position d.frame e.done)) ∷ [] ≡ words_of (take 1 (next_words d.frame d.done e.done))
next_word ws d e r more =
    let f : Frame = d.frame in let k : ℕ = length (takes e.done) in let id : ℕ = head f d.done k in let c : List Piece = chain d.done k in
    let a = ahead ws d e r more in
    first_stands ws f.size (take_position f e.done) (descriptors f id c) (table f id c) (descriptors_some f id c a.fits.chain.0) a.stand

-- and shows as available
pub shows_next : (ws : List ℕ) (d : DriverView) (e : DeviceView) → Ring ws d e → length (takes e.done) < length (offers d.done)
    → is_available d.frame.size (take_position d.frame e.done)
    (slice_index ws (second_word d.frame.size (take_position d.frame e.done))) ≡ true
shows_next ws d e r more =
    let f : Frame = d.frame in let k : ℕ = length (takes e.done) in
    let a = ahead ws d e r more in
    first_word f (take_position f e.done) (head f d.done k) (chain d.done k)
    (slice_index ws (second_word f.size (take_position f e.done)) ∷ []) a.small a.fits.chain (omega arith) (next_word ws d e r more)

abbrev pub LookTells : DriverView → DeviceView → ℕ → Type 0
LookTells d e w =
    (is_available d.frame.size (take_position d.frame e.done) w ≡ true → (length (takes e.done) < limit d.frame)
    × BeginsChain d.frame e.done (w ∷ []))
    × ShowsSeen (record e { frame = d.frame }) w

-- what a look tells, in whatever operation
pub look_tells : (ws : List ℕ) (d : DriverView) (e : DeviceView) (w : ℕ) → Ring ws d (record e { frame = d.frame })
    → w ≡ slice_index ws (second_word d.frame.size (take_position d.frame e.done)) → LookTells d e w
look_tells ws d e w r is =
    let f : Frame = d.frame in let o : List DriverDone = d.done in let s : List DeviceDone = e.done in
    let E : DeviceView = record e { frame = d.frame } in
    elim (cases_lt (length (takes s)) (length (offers o))) [
      | inl more ↦ (
          let a = ahead ws d E r more in
          let one : w ∷ [] ≡ words_of (take 1 (next_words f o s)) = ap (λ (x : ℕ). x ∷ []) is ∙ next_word ws d E r more in
          let shows : is_available f.size (take_position f s) w ≡ true = ap (is_available f.size (take_position f s)) is
          ∙ shows_next ws d E r more in (
            λ on. (omega (arith, r.places.limited), begins ws d E (w ∷ []) r more (omega arith) one (omega (arith, a.long))),
            (λ h. shows, λ h. shows),
          )
          )
      | inr none ↦ (
          let no = none_shows ws d E r none in
          let off : is_available f.size (take_position f s) w ≡ false = ap (is_available f.size (take_position f s)) is ∙ no.1 in (
            λ on. absurd (let x : false ≡ true = sym off ∙ on in cc),
            (λ h. absurd (omega (arith, r.device_shown h, r.device_seen, no.0)), λ h. absurd (omega (arith, r.device_seen, no.0))),
          )
          )
    ]

-- a look shows a chain exactly where one offered is not taken
pub record Finds (d : DriverView) (e : DeviceView) (w : ℕ) : Type 0 where
  pub some : is_available d.frame.size (take_position d.frame e.done) w ≡ true → (length (takes e.done) < length (offers d.done))
      × (take_position d.frame e.done + 1 ≤ offer_position d.frame d.done)
  pub none : is_available d.frame.size (take_position d.frame e.done) w ≡ false
      → take_position d.frame e.done ≡ offer_position d.frame d.done

pub finds : (ws : List ℕ) (d : DriverView) (e : DeviceView) (w : ℕ) → Ring ws d (record e { frame = d.frame })
    → w ≡ slice_index ws (second_word d.frame.size (take_position d.frame e.done)) → Finds d e w
finds ws d e w r is =
    let f : Frame = d.frame in let E : DeviceView = record e { frame = d.frame } in
    elim (cases_lt (length (takes e.done)) (length (offers d.done))) [
      | inl more ↦ (
          let shows : is_available f.size (take_position f e.done) w ≡ true = ap (is_available f.size (take_position f e.done)) is
          ∙ shows_next ws d E r more in
          record { some = λ on. (more, (ahead ws d E r more).fewer); none = λ off. absurd (let x : false ≡ true = sym off ∙ shows in cc) }
          )
      | inr none ↦ (
          let no = none_shows ws d E r none in
          let hides : is_available f.size (take_position f e.done) w ≡ false = ap (is_available f.size (take_position f e.done)) is
          ∙ no.1 in
          record { some = λ on. absurd (let x : false ≡ true = sym hides ∙ on in cc); none = λ off. no.0 }
          )
    ]

looks_at : (ws : List ℕ) (d : DriverView) (e : DeviceView) (w : ℕ) (b : Bool) → Ring ws d (record e { frame = d.frame; doing = Idle })
    → e.armed ≡ None → w ≡ slice_index ws (second_word d.frame.size (take_position d.frame e.done))
    → is_available d.frame.size (take_position d.frame e.done) w ≡ b
    → Ring ws d (if b then record e {
      frame = d.frame;
      seen = later e.seen (take_position d.frame e.done + 1);
      shown = true;
      doing =
          Taking (w ∷ []);
    } else record e {
      frame = d.frame;
      seen = later e.seen (take_position d.frame e.done);
      shown = false;
      doing =
          Idle;
    })
looks_at ws d e w true r unarmed is on =
    let f : Frame = d.frame in let o : List DriverDone = d.done in let s : List DeviceDone = e.done in
    let E : DeviceView = record e { frame = d.frame; doing = Idle } in
    let more = ((finds ws d E w r is).some on).0 in
    let a = ahead ws d E r more in
    let one : w ∷ [] ≡ words_of (take 1 (next_words f o s)) = ap (λ (x : ℕ). x ∷ []) is ∙ next_word ws d E r more in
    ring_with ws ws d E (record E { seen = later e.seen (take_position f s + 1); shown = true; doing = Taking (w ∷ []) }) r record {
      same = refl;
      words = r.words;
      seconds = r.seconds;
      lists = r.lists;
      short = r.short;
      signals = r.device_signals;
      acks = r.acks;
      driver_doing = r.driver_doing;
      device_doing = record {
        more = more;
        words = one;
        left = omega (arith, a.long);
      };
      kicks = moves (chains_out d) (chains_in E) (take_position f s) false unarmed r.kicks;
      calls = r.calls;
      armed = unarmed;
      driver_seen = r.driver_seen;
      device_seen = later_within _ _ _ r.device_seen a.fewer;
      device_shown = λ h. omega (arith, later_second e.seen (take_position f s + 1));
      rested = r.rested;
    }
looks_at ws d e w false r unarmed is off =
    let f : Frame = d.frame in let s : List DeviceDone = e.done in
    let E : DeviceView = record e { frame = d.frame; doing = Idle } in
    let ord = order f d.done s r.places r.lists in
    ring_with ws ws d E (record E { seen = later e.seen (take_position f s); shown = false }) r record {
      same = refl;
      words = r.words;
      seconds = r.seconds;
      lists = r.lists;
      short = r.short;
      signals = r.device_signals;
      acks = r.acks;
      driver_doing = r.driver_doing;
      device_doing = tt;
      kicks = r.kicks;
      calls = r.calls;
      armed = tt;
      driver_seen = r.driver_seen;
      device_seen = later_within _ _ _ r.device_seen ord.taken;
      device_shown = λ h. absurd cc;
      rested = r.rested;
    }

pub looks : (ws : List ℕ) (d : DriverView) (e : DeviceView) (w : ℕ) → Ring ws d (record e { frame = d.frame; doing = Idle })
    → e.armed ≡ None → w ≡ slice_index ws (second_word d.frame.size (take_position d.frame e.done))
    → Ring ws d (device_looks (record e { frame = d.frame; doing = Idle }) w)
looks ws d e w r unarmed is = looks_at ws d e w (is_available d.frame.size (take_position d.frame e.done) w) r unarmed is refl

-- ---- a further load

pub record Loaded (ws : List ℕ) (d : DriverView) (s : List DeviceDone) (us : List ℕ) (x : ℕ) : Type 0 where
  pub more : length (takes s) < length (offers d.done)
  pub words : us ++ x ∷ [] ≡ words_of (take (length (us ++ x ∷ [])) (next_words d.frame d.done s))
  pub longer : length (us ++ x ∷ []) ≡ length us + 1
  pub most : length us + 1 ≤ length (next_words d.frame d.done s)

-- the word loaded next is the next of the chain's
loads_next : (ws : List ℕ) (d : DriverView) (e : DeviceView) (us : List ℕ) (p : ℕ) → Ring ws d e
    → Loads d.frame d.done (length (takes e.done)) (take_position d.frame e.done) us
    → p ≡ cursor d.frame (take_position d.frame e.done) us → Loaded ws d e.done us (slice_index ws p)
loads_next ws d e us p r l at =
    let f : Frame = d.frame in let o : List DriverDone = d.done in let s : List DeviceDone = e.done in
    let k : ℕ = length (takes s) in let q : ℕ = take_position f s in let R : List Put = next_words f o s in
    let a = ahead ws d e r l.more in
    let words : us ≡ words_of (take (length us) R) = l.words in
    let left : length us < length R = l.left in
    let ok = a.fits.chain in
    let place : p ≡ (slice_index_or R (length us) (put 0 0)).place =
    at ∙ (ap (cursor f q) words ∙ (reads f q (head f o k) (chain o k) (length us) ok.0 ok.1 a.small ok.3).place left) in
    let word : slice_index ws p ≡ (slice_index_or R (length us) (put 0 0)).word = ap (λ (i : ℕ). slice_index ws i) place
    ∙ a.stand (length us) (put 0 0) left in
    let longer : length (us ++ slice_index ws p ∷ []) ≡ length us + 1 = length_push us (slice_index ws p) in
    record {
      more = l.more;
      words = ap (λ (y : ℕ). us ++ y ∷ []) word ∙ (words_more R us left words ∙ ap (λ (i : ℕ). words_of (take i R)) (sym longer));
      longer = longer;
      most = omega (arith, left);
    }

take_position_taken : (f : Frame) (s : List DeviceDone) (c : List Piece) (h : ℕ) → take_position f (Take c h ∷ s) ≡ take_position f s
    + needs f.features c
take_position_taken f s c h = sum_by_push (needs f.features) (takes s) c

-- the last one
takes_last : (ws : List ℕ) (d : DriverView) (e : DeviceView) (us us2 : List ℕ)
    → Ring ws d (record e { frame = d.frame; doing = Taking us }) → length (takes e.done) < length (offers d.done)
    → chain_of d.frame us2 ≡ chain d.done (length (takes e.done))
    → loaded_head d.frame us2 ≡ head d.frame d.done (length (takes e.done))
    → Ring ws d (device_takes (record e { frame = d.frame; doing = Taking us }) us2)
takes_last ws d e us us2 r more is_chain is_head =
    let f : Frame = d.frame in let o : List DriverDone = d.done in let s : List DeviceDone = e.done in
    let k : ℕ = length (takes s) in let c : List Piece = chain o k in let h : ℕ = head f o k in
    let E : DeviceView = record e { frame = d.frame; doing = Taking us } in
    let s2 : List DeviceDone = Take c h ∷ s in
    let lists2 = lists_taken f o s h r.lists more refl in
    let same_give_position : give_position f s ≡ give_position f s2 =
    give_position_is f o s r.lists ∙ sym (give_position_is f o s2 lists2) in
    subst (λ (cs : List Piece). Ring ws d (record E { done = Take cs (loaded_head f us2) ∷ s; shown = false; doing = Idle })) (sym is_chain)
    (subst (λ (i : ℕ). Ring ws d (record E { done = Take c i ∷ s; shown = false; doing = Idle })) (sym is_head)
    (ring_with ws ws d E (record E { done = s2; shown = false; doing = Idle }) r record {
      same = refl;
      words = r.words;
      seconds = row_same f.size 1 ws (offer_position f o) (puts_of d.doing) (second_at f o s) (second_at f o s2) (λ q a. refl) r.seconds;
      lists = lists2;
      short = r.short;
      signals = r.device_signals;
      acks = acks_taken f (ack_word f) o s c h e.stored r.acks;
      driver_doing = r.driver_doing;
      device_doing = tt;
      kicks = moves (chains_out d) (chains_in E) (take_position f s2) true r.device_armed r.kicks;
      calls = subst (λ (n : ℕ). Signals (record { published = n; owed = nothing; bells = e.bells; ranges = gives_made s })
          (entries_in d)) same_give_position r.calls;
      armed = tt;
      driver_seen = omega (arith, r.driver_seen, same_give_position);
      device_seen = r.device_seen;
      device_shown = λ a. absurd cc;
      rested = tt;
    }))

pub loads : (ws : List ℕ) (d : DriverView) (e : DeviceView) (w : ℕ) (us : List ℕ) (p : ℕ)
    → Ring ws d (record e { frame = d.frame; doing = Taking (w ∷ us) }) → p ≡ cursor d.frame (take_position d.frame e.done) (w ∷ us)
    → Ring ws d (device_loads (record e { frame = d.frame; doing = Taking (w ∷ us) }) (w ∷ us ++ slice_index ws p ∷ []))
    × BeginsChain d.frame e.done (w ∷ us ++ slice_index ws p ∷ [])
loads ws d e w us p r at =
    let f : Frame = d.frame in let o : List DriverDone = d.done in let s : List DeviceDone = e.done in
    let k : ℕ = length (takes s) in let c : List Piece = chain o k in let h : ℕ = head f o k in let q : ℕ = take_position f s in
    let E : DeviceView = record e { frame = d.frame; doing = Taking (w ∷ us) } in
    let x : ℕ = slice_index ws p in
    let vs : List ℕ = w ∷ us ++ x ∷ [] in
    let l : Loads f o k q (w ∷ us) = r.device_doing in
    let n = loads_next ws d E (w ∷ us) p r l at in
    let a = ahead ws d E r l.more in
    let ok : IsChain c = a.fits.chain in
    let b = begins ws d E vs r l.more (omega (arith, n.longer)) n.words (omega (arith, n.longer, n.most)) in (
      elim (cases_lt (length vs) (length (next_words f o s))) [
        | inl less ↦ subst (λ (t : Bool). Ring ws d (if t then device_takes E vs else record E { doing = Taking vs }))
            (sym (whole_less f q h c vs a.small ok n.words less))
            (ring_with ws ws d E (record E { doing = Taking vs }) r record {
              same = refl;
              words = r.words;
              seconds = r.seconds;
              lists = r.lists;
              short = r.short;
              signals = r.device_signals;
              acks = r.acks;
              driver_doing = r.driver_doing;
              device_doing = record {
                more = l.more;
                words = n.words;
                left = less;
              };
              kicks = r.kicks;
              calls = r.calls;
              armed = r.device_armed;
              driver_seen = r.driver_seen;
              device_seen = r.device_seen;
              device_shown = r.device_shown;
              rested = r.rested;
            })
        | inr all ↦ (
            let done = whole_all f q h c vs a.small ok n.words all in
            subst (λ (t : Bool). Ring ws d (if t then device_takes E vs else record E { doing = Taking vs })) (sym done.0)
            (takes_last ws d e (w ∷ us) vs r l.more done.1 done.2)
            )
      ],
      b,
    )
