-- What the answers of the driver's steps say: of the chain offered, of the entry collected, when nothing is left, and of the bag.
use Rattle.std.proofs.Common.{take, None, ◌==◌, ◌≡◌, ℕ, ◌+◌, ◌<◌, ◌≤◌, Bool, true, false, List, [], ◌∷◌, ◌++◌, length, if◌then◌else◌, slice_index, refl, sym, ap, ◌∙◌, subst, inl, inr}
use Rattle.std.proofs.lemmas.Bool.{cases_lt, eq-eqb, ne_eqb}
use Rattle.std.proofs.lemmas.List.{take_all}
use Rattle.vd_model.specs.declared.chain.Piece.{Piece}
use Rattle.vd_words.specs.declared.access.Access.{Access}
use Rattle.vd_words.specs.declared.access.Access.TheVariants.{Load, Store}
use Rattle.vd_words.specs.declared.access.Op.{Op}
use Rattle.vd_words.specs.declared.access.Op.TheVariants as op
use Rattle.vd_words.specs.Step.{answered}
use Rattle.vd_ring.specs.declared.act.DriverAct.{DriverAct}
use Rattle.vd_ring.specs.declared.act.DriverAct.TheVariants as act
use Rattle.vd_ring.specs.declared.frame.Frame.{Frame}
use Rattle.vd_ring.specs.declared.frame.Put.{Put}
use Rattle.vd_ring.specs.declared.frame.Used.{Used}
use Rattle.vd_ring.specs.declared.driver.DriverDone.{DriverDone}
use Rattle.vd_ring.specs.declared.driver.DriverDone.TheVariants.{Offer, Collect}
use Rattle.vd_ring.specs.declared.driver.DriverNow.{DriverNow}
use Rattle.vd_ring.specs.declared.driver.DriverNow.TheVariants.{Idle, Offering, Checking, Ringing, Arming, Disarming}
use Rattle.vd_ring.specs.declared.driver.DriverView.{DriverView}
use Rattle.vd_ring.specs.declared.device.DeviceDone.{DeviceDone}
use Rattle.vd_ring.specs.declared.device.DeviceView.{DeviceView}
use Rattle.vd_ring.specs.Lists.{Collects}
use Rattle.vd_ring.proofs.ListSteps.{collects_next}
use Rattle.vd_ring.specs.History.{offers, collects, gives, head, entry, used_at, last_used}
use Rattle.vd_ring.specs.Bag.{State}
use Rattle.vd_ring.specs.Steps.{StandsFor, DriverBagStep}
use Rattle.vd_ring.proofs.ControlSteps.{head_new}
use Rattle.vd_ring.proofs.DriverBag.{offer_step}
use Rattle.vd_packed_ring.specs.PackedWords.{second_word, put, words_of, is_used}
use Rattle.vd_packed_ring.specs.PackedChains.{staged_chain}
use Rattle.vd_packed_ring.specs.PackedPositions.{offer_position, collect_position, later}
use Rattle.vd_packed_ring.specs.PackedDriver.{Publishes, DriverNextAt, DriverNext, driver_after_at, driver_act_at, driver_act, driver_offers, driver_collects, driver_wakes, stores, collect_act, woken_act}
use Rattle.vd_packed_ring.specs.PackedDriverLaws.{DriverBags, IsOffered, IsCollected, CollectsNothing}
use Rattle.vd_packed_ring.specs.PackedRing.{Ring, Stages}
use Rattle.vd_packed_ring.proofs.Offers.{describes, publishes}
use Rattle.vd_packed_ring.proofs.Collects.{Found, found, shows_none}

-- ---- the answers differ

abbrev offered_number : DriverAct → ℕ
offered_number (act.Offered k) = k
offered_number _ = 0

abbrev is_offered : DriverAct → Bool
is_offered (act.Offered k) = true
is_offered _ = false

abbrev is_collected : DriverAct → Bool
is_collected (act.Collected k l h) = true
is_collected _ = false

abbrev is_nothing : DriverAct → Bool
is_nothing act.Nothing = true
is_nothing _ = false

abbrev pair : DriverAct → Used
pair (act.Collected k l h) = entry k l
pair _ = entry 0 0

abbrev head_in : DriverAct → ℕ
head_in (act.Collected k l h) = h
head_in _ = 0

not_both : false ≡ true → ⊥
not_both e = absurd cc

not_offered : (x : DriverAct) (k : ℕ) → is_offered x ≡ false → x ≡ act.Offered k → ⊥
not_offered x k off is = not_both (sym off ∙ ap is_offered is)

not_collected : (x : DriverAct) (k l h : ℕ) → is_collected x ≡ false → x ≡ act.Collected k l h → ⊥
not_collected x k l h off is = not_both (sym off ∙ ap is_collected is)

not_nothing : (x : DriverAct) → is_nothing x ≡ false → x ≡ act.Nothing → ⊥
not_nothing x off is = not_both (sym off ∙ ap is_nothing is)

-- a store of an offer, by whether it is the last; a look, by whether it shows an entry
abbrev stored : DriverView → List Put → ℕ → ℕ → Bool → DriverView
stored v puts p x b = if b then driver_offers v puts p x else stores v p x (Offering (puts ++ put p x ∷ []))

abbrev store_act : ℕ → Bool → DriverAct
store_act k b = if b then act.Offered k else act.Moved

abbrev looked : DriverView → ℕ → Bool → DriverView
looked v r b = if b then driver_collects v r else record v { seen = later v.seen (collect_position v.frame v.done); shown = false }

abbrev look_act : DriverView → ℕ → Bool → DriverAct
look_act v r b = if b then collect_act v r else act.Nothing

look_not_offered : (v : DriverView) (r : ℕ) (b : Bool) → is_offered (look_act v r b) ≡ false
look_not_offered v r true = refl
look_not_offered v r false = refl

store_not_collected : (k : ℕ) (b : Bool) → is_collected (store_act k b) ≡ false
store_not_collected k true = refl
store_not_collected k false = refl

store_not_nothing : (k : ℕ) (b : Bool) → is_nothing (store_act k b) ≡ false
store_not_nothing k true = refl
store_not_nothing k false = refl

look_unused : (v : DriverView) (r : ℕ) (b : Bool) → look_act v r b ≡ act.Nothing → b ≡ false
look_unused v r true is = absurd (not_both (ap is_nothing is))
look_unused v r false is = refl

-- an answer that ends an arming or a hearing
either_not : (test : DriverAct → Bool) (b : Bool) (x y : DriverAct) → test x ≡ false → test y ≡ false → test (if b then x else y) ≡ false
either_not test true x y a c = a
either_not test false x y a c = c

again_not : (test : DriverAct → Bool) (b c : Bool) → test act.Awake ≡ false → test act.Moved ≡ false → test act.Armed ≡ false
    → test (if b then (if c then act.Awake else act.Moved) else act.Armed) ≡ false
again_not test b c x y z = either_not test b (if c then act.Awake else act.Moved) act.Armed (either_not test c act.Awake act.Moved x y) z

hear_not : (test : DriverAct → Bool) (b c : Bool) → test act.Awake ≡ false → test act.Moved ≡ false → test act.Asleep ≡ false
    → test (if b then act.Asleep else (if c then act.Awake else act.Moved)) ≡ false
hear_not test b c x y z = either_not test b act.Asleep (if c then act.Awake else act.Moved) z (either_not test c act.Awake act.Moved x y)

-- ---- Offered

offers_chain : (ws : List ℕ) (d : DriverView) (e : DeviceView) (puts : List Put) (p x : ℕ)
    → Ring ws (record d { doing = Offering puts }) e → Publishes d.frame d.done puts p x
    → IsOffered ws (record d { doing = Offering puts }) op.Offer (Store p x) (length (offers d.done))
offers_chain ws d e puts p x r h =
    let f : Frame = d.frame in let o : List DriverDone = d.done in let c : List Piece = h.chain in
    let v : DriverView = record d { doing = Offering puts } in
    let did = publishes ws d e puts p x r h in
    let last = eq-eqb p (second_word f.size (offer_position f o)) did.1 in
    let done : List DriverDone = Offer (staged_chain f (words_of puts) x) ∷ o in
    let after : (driver_after_at (Offering puts) v op.Offer (Store p x) 0).done ≡ done =
    ap (λ (b : Bool). (stored v puts p x b).done) last in
    record {
      number = refl;
      chain = c;
      can = h.can;
      offered = ap offers after ∙ ap (λ (cs : List Piece). offers o ++ cs ∷ []) did.2;
      is_head = ap (λ (t : List DriverDone). head f t (length (offers o))) after
          ∙ (ap (λ (cs : List Piece). head f (Offer cs ∷ o) (length (offers o))) did.2 ∙ head_new f o c r.places h.can.fits);
      spelled = did.3;
    }

offered_at : (ws : List ℕ) (d : DriverView) (e : DeviceView) (now : DriverNow) (op : Op) (a : Access) (k : ℕ)
    → Ring ws (record d { doing = now }) e → DriverNextAt now (record d { doing = now }) op a
    → driver_act_at now (record d { doing = now }) op a (answered ws a) ≡ act.Offered k → IsOffered ws (record d { doing = now }) op a k
offered_at ws d e (Offering puts) op.Offer (Store p x) k r (inl h) is =
    let doing : Stages d.frame d.done ws puts = r.driver_doing in
    let did = describes ws d e (Offering puts) puts p x r refl r.driver_armed r.kicks doing.stand h in
    absurd (not_offered act.Moved k refl
    (sym (ap (store_act (length (offers d.done))) (ne_eqb p (second_word d.frame.size (offer_position d.frame d.done)) did.2)) ∙ is))
offered_at ws d e (Offering puts) op.Offer (Store p x) k r (inr h) is =
    let last = eq-eqb p (second_word d.frame.size (offer_position d.frame d.done)) (publishes ws d e puts p x r h).1 in
    let number : length (offers d.done) ≡ k = ap offered_number (sym (ap (store_act (length (offers d.done))) last) ∙ is) in
    subst (λ (j : ℕ). IsOffered ws (record d { doing = Offering puts }) op.Offer (Store p x) j) number (offers_chain ws d e puts p x r h)
offered_at ws d e Idle op.Collect (Load p) k r h is =
    absurd (not_offered _ k (look_not_offered (record d { doing = Idle }) (slice_index ws p)
    (is_used d.frame.size (collect_position d.frame d.done) (slice_index ws p))) is)
offered_at ws d e Arming op.Arm (Load p) k r h is =
    absurd (not_offered _ k (again_not is_offered (is_used d.frame.size (collect_position d.frame d.done) (slice_index ws p))
    d.frame.features.event_idx refl refl refl) is)
offered_at ws d e Idle op.Hear (Load p) k r h is =
    absurd (not_offered _ k (hear_not is_offered (slice_index ws p == d.heard) d.frame.features.event_idx refl refl refl) is)
offered_at ws d e (Disarming o) op.Arm (Store p x) k r h is = absurd (not_offered _ k refl is)
offered_at ws d e (Disarming o) op.Hear (Store p x) k r h is = absurd (not_offered _ k refl is)
offered_at ws d e Idle op.Disarm (Store p x) k r h is = absurd (not_offered _ k refl is)
offered_at ws d e Idle op.Disarm (Load p) k r h is = absurd (not_offered _ k refl is)
offered_at ws d e _ _ _ k r h is = absurd (not_offered act.Moved k refl is)

pub driver_offered : (ws : List ℕ) (d : DriverView) (e : DeviceView) (op : Op) (a : Access) (k : ℕ) → Ring ws d e → DriverNext d op a
    → driver_act d op a (answered ws a) ≡ act.Offered k → IsOffered ws d op a k
driver_offered ws d e op a k r h is = offered_at ws d e d.doing op a k r h is

-- ---- Collected

collects_entry : (ws : List ℕ) (d : DriverView) (e : DeviceView) (p k l h : ℕ) → Ring ws (record d { doing = Idle }) e
    → p ≡ second_word d.frame.size (collect_position d.frame d.done)
    → driver_act_at Idle (record d { doing = Idle }) op.Collect (Load p) (slice_index ws p) ≡ act.Collected k l h
    → length (collects d.done) < length (gives e.done) → IsCollected ws (record d { doing = Idle }) e op.Collect (Load p) k l h
collects_entry ws d e p k l h r at is more =
    let f : Frame = d.frame in let o : List DriverDone = d.done in let s : List DeviceDone = e.done in
    let v : DriverView = record d { doing = Idle } in
    let u : Used = used_at (gives s) (length (collects o)) in
    let w : ℕ = slice_index ws p in
    let n : Found f o s w = subst (λ (q : ℕ). Found f o s (slice_index ws q)) (sym at)
    (found ws (record d { doing = Idle }) e refl r more) in
    let answer : collect_act v w ≡ act.Collected k l h = sym (ap (look_act v w) n.shows) ∙ is in
    let same : u ≡ entry k l = sym (ap last_used n.is) ∙ ap pair answer in
    let done : (driver_after_at Idle v op.Collect (Load p) w).done ≡ (driver_collects v w).done =
    ap (λ (b : Bool). (looked v w b).done) n.shows in
    record {
      did = subst (λ (z : Used). Collects f o s (driver_after_at Idle v op.Collect (Load p) w).done z.number z.len) same
          (collects_next f o s u (driver_after_at Idle v op.Collect (Load p) w).done r.lists more refl
          (done ∙ ap (λ (us : List Used). Collect us ∷ o) n.is));
      is_head = sym (ap head_in answer) ∙ (n.is_id ∙ ap (λ (z : Used). head f o z.number) same);
    }

collected_at : (ws : List ℕ) (d : DriverView) (e : DeviceView) (now : DriverNow) (op : Op) (a : Access) (k l h : ℕ)
    → Ring ws (record d { doing = now }) e → DriverNextAt now (record d { doing = now }) op a
    → driver_act_at now (record d { doing = now }) op a (answered ws a) ≡ act.Collected k l h
    → IsCollected ws (record d { doing = now }) e op a k l h
collected_at ws d e Idle op.Collect (Load p) k l h r n is = elim (cases_lt (length (collects d.done)) (length (gives e.done))) [
  | inl more ↦ collects_entry ws d e p k l h r n.1 is more
  | inr none ↦ absurd (not_collected act.Nothing k l h refl
      (sym (ap (look_act (record d { doing = Idle }) (slice_index ws p))
      (subst (λ (q : ℕ). is_used d.frame.size (collect_position d.frame d.done) (slice_index ws q) ≡ false) (sym n.1)
      (shows_none ws (record d { doing = Idle }) e refl r none))) ∙ is))
]
collected_at ws d e (Offering puts) op.Offer (Store p x) k l h r n is =
    absurd (not_collected _ k l h (store_not_collected (length (offers d.done))
    (p == (second_word d.frame.size (offer_position d.frame d.done)))) is)
collected_at ws d e Arming op.Arm (Load p) k l h r n is =
    absurd (not_collected _ k l h (again_not is_collected (is_used d.frame.size (collect_position d.frame d.done) (slice_index ws p))
    d.frame.features.event_idx refl refl refl) is)
collected_at ws d e Idle op.Hear (Load p) k l h r n is =
    absurd (not_collected _ k l h (hear_not is_collected (slice_index ws p == d.heard) d.frame.features.event_idx refl refl refl) is)
collected_at ws d e (Disarming o) op.Arm (Store p x) k l h r n is = absurd (not_collected _ k l h refl is)
collected_at ws d e (Disarming o) op.Hear (Store p x) k l h r n is = absurd (not_collected _ k l h refl is)
collected_at ws d e Idle op.Disarm (Store p x) k l h r n is = absurd (not_collected _ k l h refl is)
collected_at ws d e Idle op.Disarm (Load p) k l h r n is = absurd (not_collected _ k l h refl is)
collected_at ws d e _ _ _ k l h r n is = absurd (not_collected act.Moved k l h refl is)

pub driver_collected : (ws : List ℕ) (d : DriverView) (e : DeviceView) (op : Op) (a : Access) (k l h : ℕ) → Ring ws d e
    → DriverNext d op a → driver_act d op a (answered ws a) ≡ act.Collected k l h → IsCollected ws d e op a k l h
driver_collected ws d e op a k l h r n is = collected_at ws d e d.doing op a k l h r n is

-- ---- Nothing

other_answer : (ws : List ℕ) (d : DriverView) (e : DeviceView) (o : Op) (a : Access)
    → (driver_act d o a (answered ws a) ≡ act.Nothing → ⊥) → (d.doing ≡ Idle → o ≡ op.Collect → ⊥) → CollectsNothing ws d e o a
other_answer ws d e o a never other = record {
  only = λ is. absurd (never is);
  says = λ is. absurd (never is);
  shown =
      λ idle collect word. absurd (other idle collect);
  all = λ is. absurd (never is);
}

all_collected : (o : List DriverDone) (s : List DeviceDone) → collects o ≡ take (length (collects o)) (gives s)
    → length (gives s) ≤ length (collects o) → collects o ≡ gives s
all_collected o s is none = is ∙ take_all (length (collects o)) (gives s) none

nothing_at : (ws : List ℕ) (d : DriverView) (e : DeviceView) (now : DriverNow) (o : Op) (a : Access)
    → Ring ws (record d { doing = now }) e → DriverNextAt now (record d { doing = now }) o a
    → CollectsNothing ws (record d { doing = now }) e o a
nothing_at ws d e Idle op.Collect (Load p) r h =
    let v : DriverView = record d { doing = Idle } in let w : ℕ = slice_index ws p in let b : Bool =
    is_used d.frame.size (collect_position d.frame d.done) w in record {
      only = λ is. (refl, refl);
      says = λ is. look_unused v w b is;
      shown = λ idle collect word. ap (look_act v w) word;
      all = λ is. elim (cases_lt (length (collects d.done)) (length (gives e.done))) [
        | inl more ↦ absurd (not_both (sym (look_unused v w b is)
            ∙ subst (λ (q : ℕ). is_used d.frame.size (collect_position d.frame d.done) (slice_index ws q) ≡ true) (sym h.1)
            (found ws (record d { doing = Idle }) e refl r more).shows))
        | inr none ↦ all_collected d.done e.done r.lists.collected none
      ];
    }
nothing_at ws d e (Offering puts) op.Offer (Store p x) r h = other_answer ws (record d { doing = Offering puts }) e op.Offer (Store p x)
    (λ is. not_nothing _ (store_not_nothing (length (offers d.done)) (p == (second_word d.frame.size (offer_position d.frame d.done))))
    is) (λ idle collect. cc)
nothing_at ws d e Idle op.Offer (Store p x) r h = other_answer ws (record d { doing = Idle }) e op.Offer (Store p x) (λ is. cc)
    (λ idle collect. cc)
nothing_at ws d e Idle op.Control (Store p x) r h = other_answer ws (record d { doing = Idle }) e op.Control (Store p x) (λ is. cc)
    (λ idle collect. cc)
nothing_at ws d e Idle op.Control (Load p) r h = other_answer ws (record d { doing = Idle }) e op.Control (Load p) (λ is. cc)
    (λ idle collect. cc)
nothing_at ws d e (Checking old new) op.Offer (Load p) r h = other_answer ws (record d { doing = Checking old new }) e op.Offer (Load p)
    (λ is. cc) (λ idle collect. cc)
nothing_at ws d e (Ringing old new) op.Offer (Store p x) r h =
    other_answer ws (record d { doing = Ringing old new }) e op.Offer (Store p x) (λ is. cc) (λ idle collect. cc)
nothing_at ws d e Idle op.Arm (Store p x) r h = other_answer ws (record d { doing = Idle }) e op.Arm (Store p x) (λ is. cc)
    (λ idle collect. cc)
nothing_at ws d e (Disarming o) op.Arm (Store p x) r h =
    other_answer ws (record d { doing = Disarming o }) e op.Arm (Store p x) (λ is. cc) (λ idle collect. cc)
nothing_at ws d e (Disarming o) op.Hear (Store p x) r h =
    other_answer ws (record d { doing = Disarming o }) e op.Hear (Store p x) (λ is. cc) (λ idle collect. cc)
nothing_at ws d e Idle op.Disarm (Store p x) r h = other_answer ws (record d { doing = Idle }) e op.Disarm (Store p x) (λ is. cc)
    (λ idle collect. cc)
nothing_at ws d e Idle op.Disarm (Load p) r h = other_answer ws (record d { doing = Idle }) e op.Disarm (Load p) (λ is. cc)
    (λ idle collect. cc)
nothing_at ws d e Arming op.Arm (Load p) r h =
    other_answer ws (record d { doing = Arming }) e op.Arm (Load p)
    (λ is. not_nothing _ (again_not is_nothing (is_used d.frame.size (collect_position d.frame d.done) (slice_index ws p))
    d.frame.features.event_idx refl refl refl) is) (λ idle collect. cc)
nothing_at ws d e Idle op.Hear (Load p) r h =
    other_answer ws (record d { doing = Idle }) e op.Hear (Load p)
    (λ is. not_nothing _ (hear_not is_nothing (slice_index ws p == d.heard) d.frame.features.event_idx refl refl refl) is)
    (λ idle collect. cc)
nothing_at ws d e _ _ _ r h = absurd h

pub driver_nothing : (ws : List ℕ) (d : DriverView) (e : DeviceView) (o : Op) (a : Access) → Ring ws d e → DriverNext d o a
    → CollectsNothing ws d e o a
driver_nothing ws d e o a r h = nothing_at ws d e d.doing o a r h

-- ---- the bag

woken_bag : (c : Bool) (b : List State) → DriverBagStep (if c then act.Awake else act.Moved) b b
woken_bag true b = refl
woken_bag false b = refl

either_bag : (e : DeviceView) (b : List State) (o : List DriverDone) (t : Bool) (v w : DriverView) (x y : DriverAct)
    → DriverBagStep x b b → DriverBagStep y b b → v.done ≡ o → w.done ≡ o → StandsFor o e.done b
    → DriverBagStep (if t then x else y) b b × StandsFor (if t then v else w).done e.done b
either_bag e b o true v w x y p q is other st = (p, subst (λ (l : List DriverDone). StandsFor l e.done b) (sym is) st)
either_bag e b o false v w x y p q is other st = (q, subst (λ (l : List DriverDone). StandsFor l e.done b) (sym other) st)

look_bag : (v : DriverView) (e : DeviceView) (r : ℕ) (t : Bool) (b : List State) → StandsFor v.done e.done b
    → (b2 : List State) × DriverBagStep (look_act v r t) b b2 × StandsFor (looked v r t).done e.done b2
look_bag v e r true b st = (b, refl, st)
look_bag v e r false b st = (b, refl, st)

store_bag : (ws : List ℕ) (v : DriverView) (e : DeviceView) (puts : List Put) (p x : ℕ) (t : Bool) (b : List State) → Ring ws v e
    → StandsFor v.done e.done b → (b2 : List State) × DriverBagStep (store_act (length (offers v.done)) t) b b2
    × StandsFor (stored v puts p x t).done e.done b2
store_bag ws v e puts p x true b r st = offer_step v.frame v.done e.done (staged_chain v.frame (words_of puts) x) b r.lists st
store_bag ws v e puts p x false b r st = (b, refl, st)

bags_at : (ws : List ℕ) (d : DriverView) (e : DeviceView) (now : DriverNow) (op : Op) (a : Access) (b : List State)
    → Ring ws (record d { doing = now }) e → DriverNextAt now (record d { doing = now }) op a → StandsFor d.done e.done b
    → DriverBags ws (record d { doing = now }) e op a b
bags_at ws d e (Offering puts) op.Offer (Store p x) b r h st =
    let did = store_bag ws (record d { doing = Offering puts }) e puts p x
    (p == (second_word d.frame.size (offer_position d.frame d.done))) b r st in
    record { bag = did.0; step = did.1; stands = did.2 }
bags_at ws d e Idle op.Collect (Load p) b r h st =
    let did = look_bag (record d { doing = Idle }) e (slice_index ws p)
    (is_used d.frame.size (collect_position d.frame d.done) (slice_index ws p)) b st in
    record { bag = did.0; step = did.1; stands = did.2 }
bags_at ws d e Idle op.Offer (Store p x) b r h st = record { bag = b; step = refl; stands = st }
bags_at ws d e Idle op.Control (Store p x) b r h st = record { bag = b; step = refl; stands = st }
bags_at ws d e Idle op.Control (Load p) b r h st = record { bag = b; step = refl; stands = st }
bags_at ws d e (Checking old new) op.Offer (Load p) b r h st = record { bag = b; step = refl; stands = st }
bags_at ws d e (Ringing old new) op.Offer (Store p x) b r h st = record { bag = b; step = refl; stands = st }
bags_at ws d e Idle op.Arm (Store p x) b r h st = record { bag = b; step = refl; stands = st }
bags_at ws d e (Disarming o) op.Arm (Store p x) b r h st = record { bag = b; step = refl; stands = st }
bags_at ws d e (Disarming o) op.Hear (Store p x) b r h st = record { bag = b; step = refl; stands = st }
bags_at ws d e Idle op.Disarm (Store p x) b r h st = record { bag = b; step = refl; stands = st }
bags_at ws d e Idle op.Disarm (Load p) b r h st = record { bag = b; step = refl; stands = st }
bags_at ws d e Arming op.Arm (Load p) b r h st =
    let q : ℕ = collect_position d.frame d.done in
    let woken = woken_bag d.frame.features.event_idx b in
    let did = either_bag e b d.done (is_used d.frame.size q (slice_index ws p))
    (record d { seen = later d.seen (q + 1); shown = true; armed = None; doing = driver_wakes d.frame op.Arm })
    (record d { seen = later d.seen q; shown = false; doing = Idle }) (woken_act d.frame) act.Armed woken refl refl refl st in
    record { bag = b; step = did.0; stands = did.1 }
bags_at ws d e Idle op.Hear (Load p) b r h st =
    let g : ℕ = slice_index ws p in
    let woken = woken_bag d.frame.features.event_idx b in
    let did = either_bag e b d.done (g == d.heard) (record d { doing = Idle })
    (record d { heard = g; armed = None; doing = driver_wakes d.frame op.Hear }) act.Asleep (woken_act d.frame) refl woken refl refl
    st in
    record { bag = b; step = did.0; stands = did.1 }
bags_at ws d e _ _ _ b r h st = absurd h

pub driver_bags : (ws : List ℕ) (d : DriverView) (e : DeviceView) (op : Op) (a : Access) (b : List State) → Ring ws d e
    → DriverNext d op a → StandsFor d.done e.done b → DriverBags ws d e op a b
driver_bags ws d e op a b r h st = bags_at ws d e d.doing op a b r h st
