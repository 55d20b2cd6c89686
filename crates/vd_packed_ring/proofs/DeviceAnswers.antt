-- What each answer of the device means: the chain taken, the used descriptor given, when nothing is left, and a rest.
use Rattle.std.proofs.Common.{◌≡◌, ℕ, ◌+◌, ◌<◌, ◌==◌, Bool, true, false, List, [], ◌∷◌, ◌++◌, length, if◌then◌else◌, slice_index, slice_set, refl, sym, ap, ◌∙◌, subst, arith, inl, inr}
use Rattle.std.specs.List.{Contains}
use Rattle.std.proofs.lemmas.Bool.{cases_lt}
use Rattle.std.proofs.lemmas.List.{length_push, take_all, get_or_push, get_or-take, get_or-set_same}
use Rattle.vd_model.specs.declared.chain.Piece.{Piece}
use Rattle.vd_words.specs.declared.access.Access.{Access}
use Rattle.vd_words.specs.declared.access.Access.TheVariants.{Load, Store}
use Rattle.vd_words.specs.declared.access.Op.{Op}
use Rattle.vd_words.specs.declared.access.Op.TheVariants as op
use Rattle.vd_words.specs.Step.{answered, written}
use Rattle.vd_ring.specs.declared.act.DeviceAct.{DeviceAct}
use Rattle.vd_ring.specs.declared.act.DeviceAct.TheVariants as act
use Rattle.vd_ring.specs.declared.frame.Frame.{Frame}
use Rattle.vd_ring.specs.declared.frame.Used.{Used}
use Rattle.vd_ring.specs.declared.driver.DriverDone.{DriverDone}
use Rattle.vd_ring.specs.declared.driver.DriverView.{DriverView}
use Rattle.vd_ring.specs.declared.device.DeviceDone.{DeviceDone}
use Rattle.vd_ring.specs.declared.device.DeviceDone.TheVariants.{Take, Rest}
use Rattle.vd_ring.specs.declared.device.DeviceNow.{DeviceNow}
use Rattle.vd_ring.specs.declared.device.DeviceNow.TheVariants.{Idle, Taking, Checking, Ringing, Arming, Disarming, Resting}
use Rattle.vd_ring.specs.declared.device.DeviceView.{DeviceView}
use Rattle.vd_ring.specs.DeviceSteps.{Did}
use Rattle.vd_ring.specs.Batches.{IsEntry}
use Rattle.vd_ring.proofs.ListSteps.{single_entry, returns_next}
use Rattle.vd_ring.specs.History.{offers, takes, heads, running, taken_head, head, chain, chain_at, given, entry, last_used, gives}
use Rattle.vd_ring.specs.Lists.{Lists, Rested}
use Rattle.vd_packed_ring.specs.PackedWords.{width, second_word, used_word, len_of, id_of, is_available}
use Rattle.vd_packed_ring.specs.PackedChains.{is_whole, chain_of}
use Rattle.vd_packed_ring.specs.PackedPositions.{take_position, give_position}
use Rattle.vd_packed_ring.specs.PackedDevice.{DeviceNextAt, DeviceNext, Returns}
use Rattle.vd_packed_ring.specs.PackedDeviceLaws.{device_answer, device_done, IsTaken, HasLastUsed, IsGiven, EntryStands, LooksNothing, HasRested}
use Rattle.vd_packed_ring.specs.PackedRing.{Ring}
use Rattle.vd_packed_ring.proofs.Areas.{second_inside}
use Rattle.vd_packed_ring.proofs.Takes.{shows_next}
use Rattle.vd_packed_ring.proofs.Gives.{given_is}
use Rattle.vd_packed_ring.proofs.DeviceKeeping.{device_keeps}
use Rattle.vd_packed_ring.proofs.DeviceViews.{device_did}

-- ---- the chain taken

taken_of : (f : Frame) (o : List DriverDone) (s : List DeviceDone) (k h : ℕ) (c : List Piece) → k ≡ length (takes s) → Lists f o s
    → Lists f o (Take c h ∷ s) → (k < length (offers o)) × (c ≡ chain o k) × (h ≡ head f o k)
taken_of f o s k h c number l l2 =
    let longer : length (takes s ++ c ∷ []) ≡ k + 1 = length_push (takes s) c ∙ ap (λ (n : ℕ). n + 1) (sym number) in
    let below : k < length (takes s ++ c ∷ []) = omega arith in (
      omega (arith, l2.some),
      sym (get_or_push (takes s) c [] k (sym number)) ∙ ap (λ (cs : List (List Piece)). chain_at cs k) l2.taken
          ∙ get_or-take (length (takes s ++ c ∷ [])) (offers o) k [] below,
      sym (get_or_push (heads s) h 0 k (l.as_many ∙ sym number)) ∙ l2.heads k below,
    )

pub is_taken : (ws : List ℕ) (d : DriverView) (e : DeviceView) (o : Op) (a : Access) (k : ℕ) (c : List Piece) → Ring ws d e
    → DeviceNext e o a → device_answer ws e o a ≡ act.Taken k c → IsTaken ws d e o a k c
is_taken ws d e o a k c r h is =
    let did = subst (λ (x : DeviceAct). Did x e.done (device_done ws e o a)) is (device_did e o a (answered ws a)) in
    let kept : Lists d.frame d.done (device_done ws e o a) = (device_keeps ws d e o a r h).keeps.lists in
    let after = taken_of d.frame d.done e.done k did.1.0 c did.0 r.lists
    (subst (λ (t : List DeviceDone). Lists d.frame d.done t) did.1.1 kept) in
    record { number = did.0; offered = after.0; is_chain = after.1; took = did.1.1 ∙ ap (λ (g : ℕ). Take c g ∷ e.done) after.2 }

-- ---- the used descriptor

-- an answer of a look, and of a load of a chain's word, is not Given
no_give : (c : Bool) (k : ℕ) → (if c then act.Moved else act.Nothing) ≡ act.Given k → ⊥
no_give true k e = cc
no_give false k e = cc

take_no_give : (c : Bool) (j k : ℕ) (ch : List Piece) → (if c then act.Taken j ch else act.Moved) ≡ act.Given k → ⊥
take_no_give true j k ch e = cc
take_no_give false j k ch e = cc

wakes_no_give : (quiet : DeviceAct) (b c : Bool) (k : ℕ) → (quiet ≡ act.Given k → ⊥)
    → (if b then (if c then act.Awake else act.Moved) else quiet) ≡ act.Given k → ⊥
wakes_no_give quiet true true k never e = cc
wakes_no_give quiet true false k never e = cc
wakes_no_give quiet false c k never e = never e

hears_no_give : (b c : Bool) (k : ℕ) → (if b then act.Asleep else (if c then act.Awake else act.Moved)) ≡ act.Given k → ⊥
hears_no_give true c k e = cc
hears_no_give false true k e = cc
hears_no_give false false k e = cc

gives_at : (ws : List ℕ) (d : DriverView) (e : DeviceView) (p x k : ℕ) → Ring ws d (record e { frame = d.frame; doing = Idle })
    → Returns d.frame e.done p x → (last_used (given d.frame e.done (id_of x) (len_of x))).number ≡ k
    → IsGiven ws d (record e { frame = d.frame; doing = Idle }) op.Give (Store p x) k
gives_at ws d e p x k r n is =
    let f : Frame = d.frame in let s : List DeviceDone = e.done in
    let E : DeviceView = record e { frame = d.frame; doing = Idle } in
    let us : List Used = given f s (id_of x) (len_of x) in
    let g = given_is ws d E p x r n in
    let last : last_used us ≡ entry n.number n.len = ap last_used g.is in
    let number : n.number ≡ k = sym (ap (λ (u : Used). u.number) last) ∙ is in
    let wide : length ws ≡ width f = r.words.wide.0 in
    let inside : second_word f.size (give_position f s) < length ws = omega (arith, second_inside f (give_position f s) r.lawful.least) in
    let stands : EntryStands f (slice_set ws (second_word f.size (give_position f s)) x) s us =
    get_or-set_same ws (second_word f.size (give_position f s)) x 0 inside
    ∙ (n.word ∙ ap (λ (u : Used). used_word f.size (give_position f s) (taken_head s u.number) u.len) (sym last)) in
    record {
      runs = subst (λ (j : ℕ). Contains (running s) j) number n.runs;
      entries = us;
      gave = refl;
      is_entry = subst (λ (es : List Used). IsEntry f (chain_at (takes s)) (length (gives s)) es) (sym g.is)
          (single_entry f (chain_at (takes s)) (length (gives s)) (entry n.number n.len)
          (returns_next f (chain_at (takes s)) (length (gives s)) n.number n.next));
      last = is;
      stands = subst (λ (i : ℕ). EntryStands f (slice_set ws i x) s us) (sym n.place) stands;
    }

given_at : (ws : List ℕ) (d : DriverView) (e : DeviceView) (doing : DeviceNow) (o : Op) (a : Access) (k : ℕ)
    → Ring ws d (record e { frame = d.frame; doing = doing }) → DeviceNextAt doing (record e { frame = d.frame; doing = doing }) o a
    → device_answer ws (record e { frame = d.frame; doing = doing }) o a ≡ act.Given k
    → IsGiven ws d (record e { frame = d.frame; doing = doing }) o a k
given_at ws d e Idle op.Take (Load p) k r h is =
    absurd (no_give (is_available d.frame.size (take_position d.frame e.done) (slice_index ws p)) k is)
given_at ws d e (Taking (w ∷ us)) op.Take (Load p) k r h is =
    let vs : List ℕ = w ∷ us ++ slice_index ws p ∷ [] in
    absurd (take_no_give (is_whole d.frame vs) (length (takes e.done)) k (chain_of d.frame vs) is)
given_at ws d e Idle op.Give (Store p x) k r h is =
    gives_at ws d e p x k r h.1 (let number : (last_used (given d.frame e.done (id_of x) (len_of x))).number ≡ k = cc in number)
given_at ws d e (Checking old new) op.Give (Load p) k r h is = absurd cc
given_at ws d e (Ringing old new) op.Give (Store p x) k r h is = absurd cc
given_at ws d e Idle op.Arm (Store p x) k r h is = absurd cc
given_at ws d e Arming op.Arm (Load p) k r h is =
    absurd (wakes_no_give act.Armed (is_available d.frame.size (take_position d.frame e.done) (slice_index ws p))
    d.frame.features.event_idx k (λ is. cc) is)
given_at ws d e (Disarming j) op.Arm (Store p x) k r h is = absurd cc
given_at ws d e (Disarming j) op.Hear (Store p x) k r h is = absurd cc
given_at ws d e Idle op.Hear (Load p) k r h is = absurd (hears_no_give (slice_index ws p == e.heard) d.frame.features.event_idx k is)
given_at ws d e Idle op.Disarm (Store p x) k r h is = absurd cc
given_at ws d e Idle op.Disarm (Load p) k r h is = absurd cc
given_at ws d e Idle op.Rest (Store p x) k r h is = absurd cc
given_at ws d e Idle op.Rest (Load p) k r h is = absurd cc
given_at ws d e Resting op.Rest (Load p) k r h is = absurd cc
given_at ws d e Idle op.Control (Load p) k r h is = absurd cc
given_at ws d e Idle op.Control (Store p x) k r h is = absurd cc
given_at ws d e _ _ _ k r h is = absurd h

pub is_given : (ws : List ℕ) (d : DriverView) (e : DeviceView) (o : Op) (a : Access) (k : ℕ) → Ring ws d e → DeviceNext e o a
    → device_answer ws e o a ≡ act.Given k → IsGiven ws d e o a k
is_given ws d e o a k r h is =
    subst (λ (f : Frame). Ring ws d (record e { frame = f }) → DeviceNext (record e { frame = f }) o a
    → device_answer ws (record e { frame = f }) o a ≡ act.Given k → IsGiven ws d (record e { frame = f }) o a k) (sym r.same)
    (given_at ws d e e.doing o a k) r h is

pub has_last_used : (ws : List ℕ) (d : DriverView) (e : DeviceView) (o : Op) (a : Access) (k : ℕ) → Ring ws d e → DeviceNext e o a
    → device_answer ws e o a ≡ act.Given k → HasLastUsed d.frame (written ws a) (device_done ws e o a)
has_last_used ws d e o a k r h is = let g = is_given ws d e o a k r h is in
    subst (λ (t : List DeviceDone). HasLastUsed d.frame (written ws a) t) (sym g.gave) g.stands

-- ---- nothing left

other_answer : (ws : List ℕ) (d : DriverView) (e : DeviceView) (o : Op) (a : Access) → (device_answer ws e o a ≡ act.Nothing → ⊥)
    → (e.doing ≡ Idle → o ≡ op.Take → ⊥) → LooksNothing ws d e o a
other_answer ws d e o a never other = record {
  only = λ is. absurd (never is);
  says = λ is. absurd (never is);
  shown =
      λ idle take lane. absurd (other idle take);
  all = λ is. absurd (never is);
}

look_nothing : (c : Bool) → (if c then act.Moved else act.Nothing) ≡ act.Nothing → c ≡ false
look_nothing true is = absurd cc
look_nothing false is = refl

take_not_nothing : (c : Bool) (j : ℕ) (ch : List Piece) → (if c then act.Taken j ch else act.Moved) ≡ act.Nothing → ⊥
take_not_nothing true j ch is = cc
take_not_nothing false j ch is = cc

wakes_not_nothing : (quiet : DeviceAct) (b c : Bool) → (quiet ≡ act.Nothing → ⊥)
    → (if b then (if c then act.Awake else act.Moved) else quiet) ≡ act.Nothing → ⊥
wakes_not_nothing quiet true true never is = cc
wakes_not_nothing quiet true false never is = cc
wakes_not_nothing quiet false c never is = never is

hears_not_nothing : (b c : Bool) → (if b then act.Asleep else (if c then act.Awake else act.Moved)) ≡ act.Nothing → ⊥
hears_not_nothing true c is = cc
hears_not_nothing false true is = cc
hears_not_nothing false false is = cc

not_both : (c : Bool) → c ≡ false → c ≡ true → ⊥
not_both c off on = let e : false ≡ true = sym off ∙ on in absurd cc

nothing_left : (ws : List ℕ) (d : DriverView) (e : DeviceView) (p : ℕ) → Ring ws d e
    → p ≡ second_word d.frame.size (take_position d.frame e.done)
    → is_available d.frame.size (take_position d.frame e.done) (slice_index ws p) ≡ false → takes e.done ≡ offers d.done
nothing_left ws d e p r at off = elim (cases_lt (length (takes e.done)) (length (offers d.done))) [
  | inl more ↦ absurd (not_both _
      (subst (λ (q : ℕ). is_available d.frame.size (take_position d.frame e.done) (slice_index ws q) ≡ false) at off)
      (shows_next ws d e r more))
  | inr none ↦ r.lists.taken ∙ take_all (length (takes e.done)) (offers d.done) none
]

nothing_at : (ws : List ℕ) (d : DriverView) (e : DeviceView) (doing : DeviceNow) (o : Op) (a : Access)
    → Ring ws d (record e { frame = d.frame; doing = doing }) → DeviceNextAt doing (record e { frame = d.frame; doing = doing }) o a
    → LooksNothing ws d (record e { frame = d.frame; doing = doing }) o a
nothing_at ws d e Idle op.Take (Load p) r h =
    let E : DeviceView = record e { frame = d.frame; doing = Idle } in
    let b : Bool = is_available d.frame.size (take_position d.frame e.done) (slice_index ws p) in record {
      only = λ is. (refl, refl);
      says = λ is. look_nothing b is;
      shown = λ idle take off. ap (λ (c : Bool). if c then act.Moved else act.Nothing) off;
      all = λ is. nothing_left ws d E p r h.1 (look_nothing b is);
    }
nothing_at ws d e (Taking (w ∷ us)) op.Take (Load p) r h =
    let vs : List ℕ = w ∷ us ++ slice_index ws p ∷ [] in
    other_answer ws d (record e { frame = d.frame; doing = Taking (w ∷ us) }) op.Take (Load p)
    (λ is. take_not_nothing (is_whole d.frame vs) (length (takes e.done)) (chain_of d.frame vs) is) (λ idle take. cc)
nothing_at ws d e Idle op.Give (Store p x) r h = other_answer ws d (record e { frame = d.frame; doing = Idle }) op.Give (Store p x)
    (λ is. cc) (λ idle take. cc)
nothing_at ws d e (Checking old new) op.Give (Load p) r h =
    other_answer ws d (record e { frame = d.frame; doing = Checking old new }) op.Give (Load p) (λ is. cc) (λ idle take. cc)
nothing_at ws d e (Ringing old new) op.Give (Store p x) r h =
    other_answer ws d (record e { frame = d.frame; doing = Ringing old new }) op.Give (Store p x) (λ is. cc) (λ idle take. cc)
nothing_at ws d e Idle op.Arm (Store p x) r h = other_answer ws d (record e { frame = d.frame; doing = Idle }) op.Arm (Store p x)
    (λ is. cc) (λ idle take. cc)
nothing_at ws d e Arming op.Arm (Load p) r h = other_answer ws d (record e { frame = d.frame; doing = Arming }) op.Arm (Load p)
    (λ is. wakes_not_nothing act.Armed (is_available d.frame.size (take_position d.frame e.done) (slice_index ws p))
    d.frame.features.event_idx (λ is. cc) is) (λ idle take. cc)
nothing_at ws d e (Disarming j) op.Arm (Store p x) r h = other_answer ws d (record e { frame = d.frame; doing = Disarming j }) op.Arm
    (Store p x) (λ is. cc) (λ idle take. cc)
nothing_at ws d e (Disarming j) op.Hear (Store p x) r h = other_answer ws d (record e { frame = d.frame; doing = Disarming j }) op.Hear
    (Store p x) (λ is. cc) (λ idle take. cc)
nothing_at ws d e Idle op.Hear (Load p) r h = other_answer ws d (record e { frame = d.frame; doing = Idle }) op.Hear (Load p)
    (λ is. hears_not_nothing (slice_index ws p == e.heard) d.frame.features.event_idx is) (λ idle take. cc)
nothing_at ws d e Idle op.Disarm (Store p x) r h = other_answer ws d (record e { frame = d.frame; doing = Idle }) op.Disarm (Store p x)
    (λ is. cc) (λ idle take. cc)
nothing_at ws d e Idle op.Disarm (Load p) r h = other_answer ws d (record e { frame = d.frame; doing = Idle }) op.Disarm (Load p)
    (λ is. cc) (λ idle take. cc)
nothing_at ws d e Idle op.Rest (Store p x) r h = other_answer ws d (record e { frame = d.frame; doing = Idle }) op.Rest (Store p x)
    (λ is. cc) (λ idle take. cc)
nothing_at ws d e Idle op.Rest (Load p) r h = other_answer ws d (record e { frame = d.frame; doing = Idle }) op.Rest (Load p) (λ is. cc)
    (λ idle take. cc)
nothing_at ws d e Resting op.Rest (Load p) r h = other_answer ws d (record e { frame = d.frame; doing = Resting }) op.Rest (Load p)
    (λ is. cc) (λ idle take. cc)
nothing_at ws d e Idle op.Control (Load p) r h = other_answer ws d (record e { frame = d.frame; doing = Idle }) op.Control (Load p)
    (λ is. cc) (λ idle take. cc)
nothing_at ws d e Idle op.Control (Store p x) r h = other_answer ws d (record e { frame = d.frame; doing = Idle }) op.Control
    (Store p x) (λ is. cc) (λ idle take. cc)
nothing_at ws d e _ _ _ r h = absurd h

pub looks_nothing : (ws : List ℕ) (d : DriverView) (e : DeviceView) (o : Op) (a : Access) → Ring ws d e → DeviceNext e o a
    → LooksNothing ws d e o a
looks_nothing ws d e o a r h =
    subst (λ (f : Frame). Ring ws d (record e { frame = f }) → DeviceNext (record e { frame = f }) o a
    → LooksNothing ws d (record e { frame = f }) o a) (sym r.same) (nothing_at ws d e e.doing o a) r h

-- ---- rest

rested_at : (s older : List DeviceDone) → s ≡ Rest ∷ older → Rested s → HasRested s
rested_at s older is r = subst (λ (t : List DeviceDone). HasRested t) (sym is) (let both : Rested (Rest ∷ older) = subst Rested is r in
    record { none = refl; even = both.0; whole = both.1 })

pub has_rested : (ws : List ℕ) (d : DriverView) (e : DeviceView) (older : List DeviceDone) → Ring ws d e → e.done ≡ Rest ∷ older
    → HasRested e.done
has_rested ws d e older r is = rested_at e.done older is r.rested

pub rests : (ws : List ℕ) (d : DriverView) (e : DeviceView) (o : Op) (a : Access) → Ring ws d e → DeviceNext e o a
    → device_answer ws e o a ≡ act.Rested → HasRested (device_done ws e o a)
rests ws d e o a r h is = rested_at (device_done ws e o a) e.done
    (subst (λ (x : DeviceAct). Did x e.done (device_done ws e o a)) is (device_did e o a (answered ws a)))
    (device_keeps ws d e o a r h).keeps.rested
