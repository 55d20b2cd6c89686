-- What each answer of the device means: the chain taken, the used entry given, when nothing is left, and a rest.
use Rattle.std.proofs.Common.{◌≡◌, ℕ, ◌+◌, ◌%◌, ◌<◌, ◌==◌, Bool, true, false, List, [], ◌∷◌, ◌++◌, length, if◌then◌else◌, slice_index, slice_set, Some, refl, sym, ap, ◌∙◌, subst, arith, inl}
use Rattle.std.specs.List.{Contains}
use Rattle.std.proofs.lemmas.Bool.{eqb-true, eq-eqb}
use Rattle.std.proofs.lemmas.List.{length_push, get_or_push, get_or-take}
use Rattle.std.proofs.lemmas.Nat.{mod_below}
use Rattle.vd_bits.specs.Lanes.{lane16, lane32}
use Rattle.vd_model.specs.declared.chain.Piece.{Piece}
use Rattle.vd_words.specs.declared.access.Access.{Access}
use Rattle.vd_words.specs.declared.access.Access.TheVariants.{Load, Store}
use Rattle.vd_words.specs.declared.access.Op.{Op}
use Rattle.vd_words.specs.declared.access.Op.TheVariants as op
use Rattle.vd_words.specs.Step.{answered, written}
use Rattle.vd_ring.specs.declared.act.DeviceAct.{DeviceAct}
use Rattle.vd_ring.specs.declared.act.DeviceAct.TheVariants as act
use Rattle.vd_ring.specs.declared.frame.Frame.{Frame}
use Rattle.vd_ring.specs.declared.frame.Used.{Used}
use Rattle.vd_ring.specs.declared.driver.DriverDone.{DriverDone}
use Rattle.vd_ring.specs.declared.driver.DriverView.{DriverView}
use Rattle.vd_ring.specs.declared.device.DeviceDone.{DeviceDone}
use Rattle.vd_ring.specs.declared.device.DeviceDone.TheVariants.{Take, Give, Rest}
use Rattle.vd_ring.specs.declared.device.DeviceNow.{DeviceNow}
use Rattle.vd_ring.specs.declared.device.DeviceNow.TheVariants.{Idle, Taking, Giving, Checking, Ringing, Arming, Disarming, Resting}
use Rattle.vd_ring.specs.declared.device.DeviceView.{DeviceView}
use Rattle.vd_ring.specs.DeviceSteps.{Did}
use Rattle.vd_ring.specs.Batches.{IsEntry}
use Rattle.vd_ring.proofs.ListSteps.{single_entry, returns_next}
use Rattle.vd_ring.specs.History.{offers, takes, gives, heads, running, taken_head, head, chain, chain_at, given, last_used, entry}
use Rattle.vd_ring.specs.Lists.{Lists, Rested, entry_at}
use Rattle.vd_split_ring.specs.SplitWords.{used_from, id_word, len_word, shows, is_whole, chain_of}
use Rattle.vd_split_ring.specs.SplitDevice.{DeviceNextAt, DeviceNext, device_after}
use Rattle.vd_split_ring.specs.SplitRing.{Ring, Gives}
use Rattle.vd_split_ring.specs.SplitDeviceLaws.{device_answer, device_done, IsTaken, HasLastUsed, IsGiven, LooksNothing, HasRested}
use Rattle.vd_ring.proofs.Counts.{occurs_from}
use Rattle.vd_ring.proofs.DeviceLists.{running_head, entry_new}
use Rattle.vd_split_ring.proofs.DeviceLooks.{nothing_left}
use Rattle.vd_split_ring.proofs.DeviceGives.{given_is, publishes}
use Rattle.vd_split_ring.proofs.DeviceKeeping.{index_shown, device_keeps}
use Rattle.vd_split_ring.proofs.DeviceViews.{device_did}

-- ---- the chain taken

taken_of : (f : Frame) (o : List DriverDone) (s : List DeviceDone) (k h : ℕ) (c : List Piece) → k ≡ length (takes s) → Lists f o s
    → Lists f o (Take c h ∷ s) → (k < length (offers o)) × (c ≡ chain o k) × (h ≡ head f o k)
taken_of f o s k h c number l l' =
    let longer : length (takes s ++ c ∷ []) ≡ k + 1 = length_push (takes s) c ∙ ap (λ (n : ℕ). n + 1) (sym number) in
    let below : k < length (takes s ++ c ∷ []) = omega arith in (
      omega (arith, l'.some),
      sym (get_or_push (takes s) c [] k (sym number)) ∙ ap (λ (cs : List (List Piece)). chain_at cs k) l'.taken
          ∙ get_or-take (length (takes s ++ c ∷ [])) (offers o) k [] below,
      sym (get_or_push (heads s) h 0 k (l.as_many ∙ sym number)) ∙ l'.heads k below,
    )

pub is_taken : (ws : List ℕ) (d : DriverView) (e : DeviceView) (o : Op) (a : Access) (k : ℕ) (c : List Piece) → Ring ws d e
    → DeviceNext e o a → device_answer ws e o a ≡ act.Taken k c → IsTaken ws d e o a k c
is_taken ws d e o a k c r h is =
    let did = subst (λ (x : DeviceAct). Did x e.done (device_done ws e o a)) is (device_did e o a (answered ws a)) in
    let kept : Lists d.frame d.done (device_done ws e o a) = (device_keeps ws d e o a r h).keeps.lists in
    let after = taken_of d.frame d.done e.done k did.1.0 c did.0 r.lists
    (subst (λ (t : List DeviceDone). Lists d.frame d.done t) did.1.1 kept) in
    record { number = did.0; offered = after.0; is_chain = after.1; took = did.1.1 ∙ ap (λ (g : ℕ). Take c g ∷ e.done) after.2 }

-- ---- the used entry

-- an answer of a look, and of a load of a chain's word, is not Given
no_give : (c : Bool) (k : ℕ) → (if c then act.Nothing else act.Moved) ≡ act.Given k → ⊥
no_give true k e = cc
no_give false k e = cc

take_no_give : (c : Bool) (j k : ℕ) (ch : List Piece) → (if c then act.Taken j ch else act.Moved) ≡ act.Given k → ⊥
take_no_give true j k ch e = cc
take_no_give false j k ch e = cc

again_no_give : (quiet : DeviceAct) (b c : Bool) (k : ℕ) → (quiet ≡ act.Given k → ⊥)
    → (if b then quiet else (if c then act.Awake else act.Moved)) ≡ act.Given k → ⊥
again_no_give quiet true c k never e = never e
again_no_give quiet false true k never e = cc
again_no_give quiet false false k never e = cc

-- the words after the store of the index
gives_at : (ws : List ℕ) (d : DriverView) (e : DeviceView) (a b p x k : ℕ)
    → Ring ws d (record e { frame = d.frame; doing = Giving (a ∷ b ∷ []) })
    → (h : DeviceNextAt (Giving (a ∷ b ∷ [])) (record e { frame = d.frame; doing = Giving (a ∷ b ∷ []) }) op.Give (Store p x))
    → (last_used (given d.frame e.done (lane32 a 1) (lane32 b 0))).number ≡ k
    → IsGiven ws d (record e { frame = d.frame; doing = Giving (a ∷ b ∷ []) }) op.Give (Store p x) k
gives_at ws d e a b p x k r h is =
    let f : Frame = d.frame in let s : List DeviceDone = e.done in let g : ℕ = length (gives s) in
    let E : DeviceView = record e { frame = d.frame; doing = Giving (a ∷ b ∷ []) } in
    let now : Gives f s e.stored a = r.device_doing.0 in
    let us : List Used = given f s (lane32 a 1) (lane32 b 0) in
    let number : now.number ≡ k = sym (ap (λ (es : List Used). (last_used es).number) (given_is ws d E a (lane32 b 0) r now)) ∙ is in
    let runs : Contains (running s) k = subst (λ (j : ℕ). Contains (running s) j) number now.runs in
    let hd = running_head f d.done s k r.places r.lists (occurs_from k (running s) runs) in
    let slot = mod_below g f.size r.lawful.some_place in
    let after : Ring (slice_set ws p x) d (device_after E op.Give (Store p x) 0) = publishes ws d e a b p x r h in
    let at : entry_at (Give us ∷ s) g ≡ Some (last_used us) = entry_new s us g refl in
    let low = r.lists.fewer in
    record {
      runs = runs;
      entries = us;
      gave = refl;
      is_entry = subst (λ (es : List Used). IsEntry f (chain_at (takes s)) g es) (sym (given_is ws d E a (lane32 b 0) r now))
          (single_entry f (chain_at (takes s)) g (entry now.number (lane32 b 0))
          (returns_next f (chain_at (takes s)) g now.number now.next));
      last = is;
      stands = record {
        id = ap (λ (w : ℕ). lane32 w 1) (after.words.devices (id_word f g) (inl (omega arith, omega arith)))
            ∙ after.device_words.ids g (last_used us) low at ∙ ap (head f d.done) is ∙ sym hd.0 ∙ ap (taken_head s) (sym is);
        len = ap (λ (w : ℕ). lane32 w 0) (after.words.devices (len_word f g) (inl (omega arith, omega arith)))
            ∙ after.device_words.lens g (last_used us) low at;
        index = ap (λ (w : ℕ). lane16 w 1) (after.words.devices (used_from f) (inl (omega arith, omega arith))) ∙ after.device_words.index;
      };
    }

given_at : (ws : List ℕ) (d : DriverView) (e : DeviceView) (doing : DeviceNow) (o : Op) (a : Access) (k : ℕ)
    → Ring ws d (record e { frame = d.frame; doing = doing }) → DeviceNextAt doing (record e { frame = d.frame; doing = doing }) o a
    → device_answer ws (record e { frame = d.frame; doing = doing }) o a ≡ act.Given k
    → IsGiven ws d (record e { frame = d.frame; doing = doing }) o a k
given_at ws d e Idle op.Take (Load p) k r h is = absurd (no_give (shows (slice_index ws p) (length (takes e.done))) k is)
given_at ws d e (Taking (g ∷ [])) op.Take (Load p) k r h is = absurd cc
given_at ws d e (Taking (g ∷ w ∷ ss)) op.Take (Load p) k r h is =
    let us : List ℕ = ss ++ slice_index ws p ∷ [] in
    absurd (take_no_give (is_whole d.frame us) (length (takes e.done)) k (chain_of d.frame us) is)
given_at ws d e Idle op.Give (Store p x) k r h is = absurd cc
given_at ws d e (Giving (a ∷ [])) op.Give (Store p x) k r h is = absurd cc
given_at ws d e (Giving (a ∷ b ∷ [])) op.Give (Store p x) k r h is =
    gives_at ws d e a b p x k r h (let number : (last_used (given d.frame e.done (lane32 a 1) (lane32 b 0))).number ≡ k = cc in number)
given_at ws d e (Checking old new) op.Give (Load p) k r h is = absurd cc
given_at ws d e (Ringing old new) op.Give (Store p x) k r h is = absurd cc
given_at ws d e Idle op.Arm (Store p x) k r h is = absurd cc
given_at ws d e Arming op.Arm (Load p) k r h is =
    absurd (again_no_give act.Armed (shows (slice_index ws p) (length (takes e.done))) d.frame.features.event_idx k (λ is. cc) is)
given_at ws d e (Disarming j) op.Arm (Store p x) k r h is = absurd cc
given_at ws d e (Disarming j) op.Hear (Store p x) k r h is = absurd cc
given_at ws d e Idle op.Hear (Load p) k r h is =
    absurd (again_no_give act.Asleep (slice_index ws p == e.heard) d.frame.features.event_idx k (λ is. cc) is)
given_at ws d e Idle op.Disarm (Store p x) k r h is = absurd cc
given_at ws d e Idle op.Disarm (Load p) k r h is = absurd cc
given_at ws d e Idle op.Rest (Store p x) k r h is = absurd cc
given_at ws d e Idle op.Rest (Load p) k r h is = absurd cc
given_at ws d e Resting op.Rest (Load p) k r h is = absurd cc
given_at ws d e Idle op.Control (Load p) k r h is = absurd cc
given_at ws d e Idle op.Control (Store p x) k r h is = absurd cc
given_at ws d e _ _ _ k r h is = absurd h

pub is_given : (ws : List ℕ) (d : DriverView) (e : DeviceView) (o : Op) (a : Access) (k : ℕ) → Ring ws d e → DeviceNext e o a
    → device_answer ws e o a ≡ act.Given k → IsGiven ws d e o a k
is_given ws d e o a k r h is =
    subst (λ (f : Frame). Ring ws d (record e { frame = f }) → DeviceNext (record e { frame = f }) o a
    → device_answer ws (record e { frame = f }) o a ≡ act.Given k → IsGiven ws d (record e { frame = f }) o a k) (sym r.same)
    (given_at ws d e e.doing o a k) r h is

pub has_last_used : (ws : List ℕ) (d : DriverView) (e : DeviceView) (o : Op) (a : Access) (k : ℕ) → Ring ws d e → DeviceNext e o a
    → device_answer ws e o a ≡ act.Given k → HasLastUsed d.frame (written ws a) (device_done ws e o a)
has_last_used ws d e o a k r h is = let g = is_given ws d e o a k r h is in
    subst (λ (t : List DeviceDone). HasLastUsed d.frame (written ws a) t) (sym g.gave) g.stands

-- ---- nothing left

other_answer : (ws : List ℕ) (d : DriverView) (e : DeviceView) (o : Op) (a : Access) → (device_answer ws e o a ≡ act.Nothing → ⊥)
    → (e.doing ≡ Idle → o ≡ op.Take → ⊥) → LooksNothing ws d e o a
other_answer ws d e o a never other = record {
  only = λ is. absurd (never is);
  says = λ is. absurd (never is);
  shown =
      λ idle take lane. absurd (other idle take);
  all = λ is. absurd (never is);
}

look_nothing : (c : Bool) → (if c then act.Nothing else act.Moved) ≡ act.Nothing → c ≡ true
look_nothing true is = refl
look_nothing false is = absurd cc

take_not_nothing : (c : Bool) (j : ℕ) (ch : List Piece) → (if c then act.Taken j ch else act.Moved) ≡ act.Nothing → ⊥
take_not_nothing true j ch is = cc
take_not_nothing false j ch is = cc

again_not_nothing : (quiet : DeviceAct) (b c : Bool) → (quiet ≡ act.Nothing → ⊥)
    → (if b then quiet else (if c then act.Awake else act.Moved)) ≡ act.Nothing → ⊥
again_not_nothing quiet true c never e = never e
again_not_nothing quiet false true never e = cc
again_not_nothing quiet false false never e = cc

nothing_at : (ws : List ℕ) (d : DriverView) (e : DeviceView) (doing : DeviceNow) (o : Op) (a : Access)
    → Ring ws d (record e { frame = d.frame; doing = doing }) → DeviceNextAt doing (record e { frame = d.frame; doing = doing }) o a
    → LooksNothing ws d (record e { frame = d.frame; doing = doing }) o a
nothing_at ws d e Idle op.Take (Load p) r h =
    let g : ℕ = slice_index ws p in let t : ℕ = length (takes e.done) in
    let E : DeviceView = record e { frame = d.frame; doing = Idle } in record {
      only = λ is. (refl, refl);
      says = λ is. eqb-true (lane16 g 1) (t % 65536) (look_nothing (shows g t) is);
      shown = λ idle take lane. ap (λ (c : Bool). if c then act.Nothing else act.Moved) (eq-eqb (lane16 g 1) (t % 65536) lane);
      all = λ is. nothing_left ws d E g (index_shown ws d E p r h.1) r (look_nothing (shows g t) is);
    }
nothing_at ws d e (Taking (g ∷ [])) op.Take (Load p) r h =
    other_answer ws d (record e { frame = d.frame; doing = Taking (g ∷ []) }) op.Take (Load p) (λ is. cc) (λ idle take. cc)
nothing_at ws d e (Taking (g ∷ w ∷ ss)) op.Take (Load p) r h =
    let us : List ℕ = ss ++ slice_index ws p ∷ [] in
    other_answer ws d (record e { frame = d.frame; doing = Taking (g ∷ w ∷ ss) }) op.Take (Load p)
    (λ is. take_not_nothing (is_whole d.frame us) (length (takes e.done)) (chain_of d.frame us) is) (λ idle take. cc)
nothing_at ws d e Idle op.Give (Store p x) r h = other_answer ws d (record e { frame = d.frame; doing = Idle }) op.Give (Store p x)
    (λ is. cc) (λ idle take. cc)
nothing_at ws d e (Giving (a ∷ [])) op.Give (Store p x) r h =
    other_answer ws d (record e { frame = d.frame; doing = Giving (a ∷ []) }) op.Give (Store p x) (λ is. cc) (λ idle take. cc)
nothing_at ws d e (Giving (a ∷ b ∷ [])) op.Give (Store p x) r h =
    other_answer ws d (record e { frame = d.frame; doing = Giving (a ∷ b ∷ []) }) op.Give (Store p x) (λ is. cc) (λ idle take. cc)
nothing_at ws d e (Checking old new) op.Give (Load p) r h =
    other_answer ws d (record e { frame = d.frame; doing = Checking old new }) op.Give (Load p) (λ is. cc) (λ idle take. cc)
nothing_at ws d e (Ringing old new) op.Give (Store p x) r h =
    other_answer ws d (record e { frame = d.frame; doing = Ringing old new }) op.Give (Store p x) (λ is. cc) (λ idle take. cc)
nothing_at ws d e Idle op.Arm (Store p x) r h = other_answer ws d (record e { frame = d.frame; doing = Idle }) op.Arm (Store p x)
    (λ is. cc) (λ idle take. cc)
nothing_at ws d e Arming op.Arm (Load p) r h = other_answer ws d (record e { frame = d.frame; doing = Arming }) op.Arm (Load p)
    (λ is. again_not_nothing act.Armed (shows (slice_index ws p) (length (takes e.done))) d.frame.features.event_idx (λ is. cc) is)
    (λ idle take. cc)
nothing_at ws d e (Disarming j) op.Arm (Store p x) r h = other_answer ws d (record e { frame = d.frame; doing = Disarming j }) op.Arm
    (Store p x) (λ is. cc) (λ idle take. cc)
nothing_at ws d e (Disarming j) op.Hear (Store p x) r h = other_answer ws d (record e { frame = d.frame; doing = Disarming j }) op.Hear
    (Store p x) (λ is. cc) (λ idle take. cc)
nothing_at ws d e Idle op.Hear (Load p) r h = other_answer ws d (record e { frame = d.frame; doing = Idle }) op.Hear (Load p)
    (λ is. again_not_nothing act.Asleep (slice_index ws p == e.heard) d.frame.features.event_idx (λ is. cc) is) (λ idle take. cc)
nothing_at ws d e Idle op.Disarm (Store p x) r h = other_answer ws d (record e { frame = d.frame; doing = Idle }) op.Disarm (Store p x)
    (λ is. cc) (λ idle take. cc)
nothing_at ws d e Idle op.Disarm (Load p) r h = other_answer ws d (record e { frame = d.frame; doing = Idle }) op.Disarm (Load p)
    (λ is. cc) (λ idle take. cc)
nothing_at ws d e Idle op.Rest (Store p x) r h = other_answer ws d (record e { frame = d.frame; doing = Idle }) op.Rest (Store p x)
    (λ is. cc) (λ idle take. cc)
nothing_at ws d e Idle op.Rest (Load p) r h = other_answer ws d (record e { frame = d.frame; doing = Idle }) op.Rest (Load p) (λ is. cc)
    (λ idle take. cc)
nothing_at ws d e Resting op.Rest (Load p) r h = other_answer ws d (record e { frame = d.frame; doing = Resting }) op.Rest (Load p)
    (λ is. cc) (λ idle take. cc)
nothing_at ws d e Idle op.Control (Load p) r h = other_answer ws d (record e { frame = d.frame; doing = Idle }) op.Control (Load p)
    (λ is. cc) (λ idle take. cc)
nothing_at ws d e Idle op.Control (Store p x) r h = other_answer ws d (record e { frame = d.frame; doing = Idle }) op.Control
    (Store p x) (λ is. cc) (λ idle take. cc)
nothing_at ws d e _ _ _ r h = absurd h

pub looks_nothing : (ws : List ℕ) (d : DriverView) (e : DeviceView) (o : Op) (a : Access) → Ring ws d e → DeviceNext e o a
    → LooksNothing ws d e o a
looks_nothing ws d e o a r h =
    subst (λ (f : Frame). Ring ws d (record e { frame = f }) → DeviceNext (record e { frame = f }) o a
    → LooksNothing ws d (record e { frame = f }) o a) (sym r.same) (nothing_at ws d e e.doing o a) r h

-- ---- rest

rested_at : (s older : List DeviceDone) → s ≡ Rest ∷ older → Rested s → HasRested s
rested_at s older is r = subst (λ (t : List DeviceDone). HasRested t) (sym is) (let both : Rested (Rest ∷ older) = subst Rested is r in
    record { none = refl; even = both.0; whole = both.1 })

pub has_rested : (ws : List ℕ) (d : DriverView) (e : DeviceView) (older : List DeviceDone) → Ring ws d e → e.done ≡ Rest ∷ older
    → HasRested e.done
has_rested ws d e older r is = rested_at e.done older is r.rested

pub rests : (ws : List ℕ) (d : DriverView) (e : DeviceView) (o : Op) (a : Access) → Ring ws d e → DeviceNext e o a
    → device_answer ws e o a ≡ act.Rested → HasRested (device_done ws e o a)
rests ws d e o a r h is = rested_at (device_done ws e o a) e.done
    (subst (λ (x : DeviceAct). Did x e.done (device_done ws e o a)) is (device_did e o a (answered ws a)))
    (device_keeps ws d e o a r h).keeps.rested
