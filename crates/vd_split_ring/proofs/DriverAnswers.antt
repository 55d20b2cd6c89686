-- What the answers of the driver's steps say: of the chain offered, of the entry collected, and of the bag.
use Rattle.std.proofs.Common.{◌≡◌, ℕ, ◌%◌, ◌==◌, Bool, true, false, None, List, [], ◌∷◌, ◌++◌, length, take, if◌then◌else◌, slice_index, slice_set, refl, sym, ap, ◌∙◌, subst, arith}
use Rattle.std.specs.List.{Contains}
use Rattle.std.proofs.lemmas.Bool.{eq-eqb, eqb-true}
use Rattle.std.proofs.lemmas.Nat.{mod_below}
use Rattle.std.proofs.lemmas.List.{take_all}
use Rattle.vd_bits.specs.Lanes.{lane16, lane32}
use Rattle.vd_model.specs.declared.chain.Piece.{Piece}
use Rattle.vd_words.specs.declared.access.Access.{Access}
use Rattle.vd_words.specs.declared.access.Access.TheVariants.{Load, Store}
use Rattle.vd_words.specs.declared.access.Op.{Op}
use Rattle.vd_words.specs.declared.access.Op.TheVariants as op
use Rattle.vd_words.specs.Step.{answered}
use Rattle.vd_ring.specs.declared.act.DriverAct.{DriverAct}
use Rattle.vd_ring.specs.declared.act.DriverAct.TheVariants as act
use Rattle.vd_ring.specs.declared.frame.Frame.{Frame}
use Rattle.vd_ring.specs.declared.frame.Put.{Put}
use Rattle.vd_ring.specs.declared.frame.Used.{Used}
use Rattle.vd_ring.specs.declared.driver.DriverDone.{DriverDone}
use Rattle.vd_ring.specs.declared.driver.DriverDone.TheVariants.{Offer, Collect}
use Rattle.vd_ring.specs.declared.driver.DriverNow.{DriverNow}
use Rattle.vd_ring.specs.declared.driver.DriverNow.TheVariants.{Idle, Offering, Entered, Collecting, Checking, Ringing, Arming, Disarming}
use Rattle.vd_ring.specs.declared.driver.DriverView.{DriverView}
use Rattle.vd_ring.specs.declared.device.DeviceDone.{DeviceDone}
use Rattle.vd_ring.specs.declared.device.DeviceView.{DeviceView}
use Rattle.vd_ring.specs.Lists.{Collects}
use Rattle.vd_ring.proofs.ListSteps.{collects_next}
use Rattle.vd_ring.specs.History.{offers, collects, gives, open_at, head, next_head, chain, entry, used_at, last_used, collected}
use Rattle.vd_ring.specs.Bag.{State}
use Rattle.vd_ring.specs.Steps.{StandsFor}
use Rattle.vd_ring.proofs.Counts.{Contains_from, occurs_push, one_same}
use Rattle.vd_ring.proofs.HeldPlaces.{chain_new}
use Rattle.vd_ring.proofs.ControlSteps.{head_new}
use Rattle.vd_ring.proofs.DriverBag.{offer_step}
use Rattle.vd_split_ring.specs.SplitWords.{Spells, len_word, used_len, shows, shown_from, words_of, staged_chain}
use Rattle.vd_split_ring.specs.SplitDriver.{Publishes, driver_wakes, DriverNextAt, DriverNext, driver_act_at, driver_act, driver_offers, NamesOpen}
use Rattle.vd_split_ring.specs.SplitRing.{Ring, HasEntered}
use Rattle.vd_split_ring.specs.SplitDriverLaws.{DriverBags, IsOffered, IsCollected, CollectsNothing}
use Rattle.vd_split_ring.proofs.DriverOffers.{publishes, staged_is_chain}
use Rattle.vd_split_ring.proofs.DriverCollects.{collected_is, collects_last}
use Rattle.vd_split_ring.proofs.DriverKeeps.{used_word}
use Rattle.vd_split_ring.proofs.Agreement.{looks_show}
use Rattle.vd_split_ring.proofs.Spelling.{spells}

-- ---- the answers differ

abbrev offered_number : DriverAct → ℕ
offered_number (act.Offered k) = k
offered_number _ = 0

abbrev is_offered : DriverAct → Bool
is_offered (act.Offered k) = true
is_offered _ = false

abbrev is_collected : DriverAct → Bool
is_collected (act.Collected k l h) = true
is_collected _ = false

abbrev pair : DriverAct → Used
pair (act.Collected k l h) = entry k l
pair _ = entry 0 0

abbrev head_in : DriverAct → ℕ
head_in (act.Collected k l h) = h
head_in _ = 0

not_both : false ≡ true → ⊥
not_both e = absurd cc

not_offered : (x : DriverAct) (k : ℕ) → is_offered x ≡ false → x ≡ act.Offered k → ⊥
not_offered x k off is = not_both (sym off ∙ ap is_offered is)

not_collected : (x : DriverAct) (k l h : ℕ) → is_collected x ≡ false → x ≡ act.Collected k l h → ⊥
not_collected x k l h off is = not_both (sym off ∙ ap is_collected is)

look_not_offered : (b : Bool) → is_offered (if b then act.Nothing else act.Moved) ≡ false
look_not_offered true = refl
look_not_offered false = refl

look_not_collected : (b : Bool) → is_collected (if b then act.Nothing else act.Moved) ≡ false
look_not_collected true = refl
look_not_collected false = refl

-- the answer of an arming's second look, or of a hearing
again_not : (P : DriverAct → Bool) (quiet : DriverAct) (b c : Bool) → P quiet ≡ false → P act.Awake ≡ false → P act.Moved ≡ false
    → P (if b then quiet else (if c then act.Awake else act.Moved)) ≡ false
again_not P quiet true c x y z = x
again_not P quiet false true x y z = y
again_not P quiet false false x y z = z

-- ---- Offered

offers_chain : (ws : List ℕ) (d : DriverView) (e : DeviceView) (puts : List Put) (p x : ℕ)
    → Ring ws (record d { doing = Entered puts }) e → Publishes d.frame d.done d.stored p x
    → IsOffered ws (record d { doing = Entered puts }) op.Offer (Store p x) (length (offers d.done))
offers_chain ws d e puts p x r n =
    let f : Frame = d.frame in let o : List DriverDone = d.done in
    let m : ℕ = length (offers o) in
    let h : HasEntered f o d.stored puts = r.driver_doing in
    let c : List Piece = h.chain in
    let is : staged_chain f (words_of puts) ≡ c = staged_is_chain f o c puts r.lawful h.can h.whole in
    let after = publishes ws d e puts p x r n in
    let here : Contains (open_at (Offer (staged_chain f (words_of puts)) ∷ o)) m =
    Contains_from m (open_at o ++ m ∷ []) (omega (arith, occurs_push m (open_at o) m, one_same m m refl)) in
    let at : head f (Offer (staged_chain f (words_of puts)) ∷ o) m ≡ next_head f o =
    ap (λ (cs : List Piece). head f (Offer cs ∷ o) m) is ∙ head_new f o c r.places h.can.fits in
    let spelled : Spells f (slice_set ws p x) (head f (Offer (staged_chain f (words_of puts)) ∷ o) m)
    (chain (Offer (staged_chain f (words_of puts)) ∷ o) m) =
    spells (slice_set ws p x) (driver_offers d puts p x) e m after here in
    record {
      number = refl;
      chain = c;
      can = h.can;
      offered = ap (λ (cs : List Piece). offers o ++ cs ∷ []) is;
      is_head = at;
      spelled = subst (λ (g : ℕ). Spells f (slice_set ws p x) g c) at
          (subst (λ (cs : List Piece). Spells f (slice_set ws p x) (head f (Offer (staged_chain f (words_of puts)) ∷ o) m) cs)
          (chain_new o (staged_chain f (words_of puts)) ∙ is) spelled);
    }

offered_at : (ws : List ℕ) (d : DriverView) (e : DeviceView) (now : DriverNow) (op : Op) (a : Access) (k : ℕ)
    → Ring ws (record d { doing = now }) e → DriverNextAt now (record d { doing = now }) op a
    → driver_act_at now (record d { doing = now }) op a (answered ws a) ≡ act.Offered k → IsOffered ws (record d { doing = now }) op a k
offered_at ws d e (Entered puts) op.Offer (Store p x) k r h is =
    subst (λ (j : ℕ). IsOffered ws (record d { doing = Entered puts }) op.Offer (Store p x) j) (ap offered_number is)
    (offers_chain ws d e puts p x r h)
offered_at ws d e Idle op.Collect (Load p) k r h is =
    absurd (not_offered _ k (look_not_offered (shows (slice_index ws p) (length (collects d.done)))) is)
offered_at ws d e (Collecting (g ∷ w ∷ [])) op.Collect (Load p) k r h is = absurd (not_offered _ k refl is)
offered_at ws d e Arming op.Arm (Load p) k r h is =
    absurd (not_offered _ k (again_not is_offered act.Armed (shows (slice_index ws p) (length (collects d.done)))
    d.frame.features.event_idx refl refl refl) is)
offered_at ws d e Idle op.Hear (Load p) k r h is =
    absurd (not_offered _ k (again_not is_offered act.Asleep (slice_index ws p == d.heard) d.frame.features.event_idx refl refl refl) is)
offered_at ws d e (Disarming o) op.Arm (Store p x) k r h is = absurd (not_offered _ k refl is)
offered_at ws d e (Disarming o) op.Hear (Store p x) k r h is = absurd (not_offered _ k refl is)
offered_at ws d e Idle op.Disarm (Store p x) k r h is = absurd (not_offered _ k refl is)
offered_at ws d e Idle op.Disarm (Load p) k r h is = absurd (not_offered _ k refl is)
offered_at ws d e _ _ _ k r h is = absurd (not_offered act.Moved k refl is)

pub driver_offered : (ws : List ℕ) (d : DriverView) (e : DeviceView) (op : Op) (a : Access) (k : ℕ) → Ring ws d e → DriverNext d op a
    → driver_act d op a (answered ws a) ≡ act.Offered k → IsOffered ws d op a k
driver_offered ws d e op a k r h is = offered_at ws d e d.doing op a k r h is

-- ---- Collected

collects_entry : (ws : List ℕ) (d : DriverView) (e : DeviceView) (g w p : ℕ) → Ring ws (record d { doing = Collecting (g ∷ w ∷ []) }) e
    → p ≡ len_word d.frame (length (collects d.done))
    → let us = collected d.frame d.done (lane32 w 1) (lane32 (slice_index ws p) 0) in
    IsCollected ws (record d { doing = Collecting (g ∷ w ∷ []) }) e op.Collect (Load p) (last_used us).number (last_used us).len
    (lane32 w 1)
collects_entry ws d e g w p r at =
    let f : Frame = d.frame in let o : List DriverDone = d.done in let s : List DeviceDone = e.done in
    let v : DriverView = record d { doing = Collecting (g ∷ w ∷ []) } in
    let m : ℕ = length (collects o) in
    let u : Used = used_at (gives s) m in
    let slot = mod_below m f.size r.lawful.some_place in
    let len : lane32 (slice_index ws p) 0 ≡ used_len f e.stored m =
    ap (λ y. lane32 y 0) (used_word ws v e p r (omega arith) (omega arith) ∙ ap (λ q. slice_index e.stored q) at) in
    let c = collected_is ws d e g w (slice_index ws p) r len in
    let us : List Used = collected f o (lane32 w 1) (lane32 (slice_index ws p) 0) in
    let last : last_used us ≡ u = ap last_used c.0 in
    let n : NamesOpen f o (lane32 w 1) = (collects_last ws d e g w (slice_index ws p) r len).1 in
    record {
      did = subst (λ (z : Used). Collects f o s (Collect us ∷ o) z.number z.len) (sym last)
          (collects_next f o s u (Collect us ∷ o) r.lists c.1 refl (ap (λ (vs : List Used). Collect vs ∷ o) c.0));
      is_head = r.driver_doing.1.is_id ∙ ap (λ (z : Used). head f o z.number)
          (sym (Rattle.vd_ring.proofs.ListSteps.entry_is f s m r.driver_doing.1.used r.lists.entries r.driver_doing.1.begins).1 ∙ sym last);
    }

collected_at : (ws : List ℕ) (d : DriverView) (e : DeviceView) (now : DriverNow) (op : Op) (a : Access) (k l h : ℕ)
    → Ring ws (record d { doing = now }) e → DriverNextAt now (record d { doing = now }) op a
    → driver_act_at now (record d { doing = now }) op a (answered ws a) ≡ act.Collected k l h
    → IsCollected ws (record d { doing = now }) e op a k l h
collected_at ws d e (Collecting (g ∷ w ∷ [])) op.Collect (Load p) k l h r n is =
    subst (λ (u : Used). IsCollected ws (record d { doing = Collecting (g ∷ w ∷ []) }) e op.Collect (Load p) u.number u.len h) (ap pair is)
    (subst (λ (y : ℕ). IsCollected ws (record d { doing = Collecting (g ∷ w ∷ []) }) e op.Collect (Load p)
    (last_used (collected d.frame d.done (lane32 w 1) (lane32 (slice_index ws p) 0))).number
    (last_used (collected d.frame d.done (lane32 w 1) (lane32 (slice_index ws p) 0))).len y) (ap head_in is)
    (collects_entry ws d e g w p r n))
collected_at ws d e Idle op.Collect (Load p) k l h r n is =
    absurd (not_collected _ k l h (look_not_collected (shows (slice_index ws p) (length (collects d.done)))) is)
collected_at ws d e (Entered puts) op.Offer (Store p x) k l h r n is = absurd (not_collected _ k l h refl is)
collected_at ws d e Arming op.Arm (Load p) k l h r n is =
    absurd (not_collected _ k l h (again_not is_collected act.Armed (shows (slice_index ws p) (length (collects d.done)))
    d.frame.features.event_idx refl refl refl) is)
collected_at ws d e Idle op.Hear (Load p) k l h r n is =
    absurd (not_collected _ k l h (again_not is_collected act.Asleep (slice_index ws p == d.heard) d.frame.features.event_idx refl refl
    refl) is)
collected_at ws d e (Disarming o) op.Arm (Store p x) k l h r n is = absurd (not_collected _ k l h refl is)
collected_at ws d e (Disarming o) op.Hear (Store p x) k l h r n is = absurd (not_collected _ k l h refl is)
collected_at ws d e Idle op.Disarm (Store p x) k l h r n is = absurd (not_collected _ k l h refl is)
collected_at ws d e Idle op.Disarm (Load p) k l h r n is = absurd (not_collected _ k l h refl is)
collected_at ws d e _ _ _ k l h r n is = absurd (not_collected act.Moved k l h refl is)

pub driver_collected : (ws : List ℕ) (d : DriverView) (e : DeviceView) (op : Op) (a : Access) (k l h : ℕ) → Ring ws d e
    → DriverNext d op a → driver_act d op a (answered ws a) ≡ act.Collected k l h → IsCollected ws d e op a k l h
driver_collected ws d e op a k l h r n is = collected_at ws d e d.doing op a k l h r n is

-- ---- Nothing

abbrev is_nothing : DriverAct → Bool
is_nothing act.Nothing = true
is_nothing _ = false

look_shows : (b : Bool) → (if b then act.Nothing else act.Moved) ≡ act.Nothing → b ≡ true
look_shows true is = refl
look_shows false is = absurd (not_both (ap is_nothing is))

all_collected : (o : List DriverDone) (s : List DeviceDone) → collects o ≡ take (length (collects o)) (gives s)
    → length (gives s) ≡ length (collects o) → collects o ≡ gives s
all_collected o s is len = is ∙ take_all (length (collects o)) (gives s) (omega arith)

other_answer : (ws : List ℕ) (d : DriverView) (e : DeviceView) (o : Op) (a : Access)
    → (driver_act d o a (answered ws a) ≡ act.Nothing → ⊥) → (d.doing ≡ Idle → o ≡ op.Collect → ⊥) → CollectsNothing ws d e o a
other_answer ws d e o a never other = record {
  only = λ is. absurd (never is);
  says = λ is. absurd (never is);
  shown =
      λ idle collect lane. absurd (other idle collect);
  all = λ is. absurd (never is);
}

nothing_at : (ws : List ℕ) (d : DriverView) (e : DeviceView) (now : DriverNow) (op : Op) (a : Access)
    → Ring ws (record d { doing = now }) e → DriverNextAt now (record d { doing = now }) op a
    → CollectsNothing ws (record d { doing = now }) e op a
nothing_at ws d e Idle op.Collect (Load p) r h =
    let g : ℕ = slice_index ws p in let m : ℕ = length (collects d.done) in
    let on : (if shows g m then act.Nothing else act.Moved) ≡ act.Nothing → shows g m ≡ true = λ is. look_shows (shows g m) is in
    record {
      only = λ is. (refl, refl);
      says = λ is. eqb-true (lane16 g 1) (m % 65536) (on is);
      shown = λ idle collect lane. ap (λ (b : Bool). if b then act.Nothing else act.Moved) (eq-eqb (lane16 g 1) (m % 65536) lane);
      all = λ is. all_collected d.done e.done r.lists.collected
          ((looks_show ws (record d { doing = Idle }) e r).driver.0 (ap (λ (q : ℕ). shows (slice_index ws q) m) (sym h.1) ∙ on is));
    }
nothing_at ws d e Idle op.Offer (Store p x) r h = other_answer ws (record d { doing = Idle }) e op.Offer (Store p x) (λ is. cc)
    (λ idle collect. cc)
nothing_at ws d e (Offering puts) op.Offer (Store p x) r h = other_answer ws (record d { doing = Offering puts }) e op.Offer (Store p x)
    (λ is. cc) (λ idle collect. cc)
nothing_at ws d e (Entered puts) op.Offer (Store p x) r h = other_answer ws (record d { doing = Entered puts }) e op.Offer (Store p x)
    (λ is. cc) (λ idle collect. cc)
nothing_at ws d e (Collecting (g ∷ [])) op.Collect (Load p) r h =
    other_answer ws (record d { doing = Collecting (g ∷ []) }) e op.Collect (Load p) (λ is. cc) (λ idle collect. cc)
nothing_at ws d e (Collecting (g ∷ w ∷ [])) op.Collect (Load p) r h =
    other_answer ws (record d { doing = Collecting (g ∷ w ∷ []) }) e op.Collect (Load p) (λ is. cc) (λ idle collect. cc)
nothing_at ws d e Idle op.Control (Store p x) r h = other_answer ws (record d { doing = Idle }) e op.Control (Store p x) (λ is. cc)
    (λ idle collect. cc)
nothing_at ws d e Idle op.Control (Load p) r h = other_answer ws (record d { doing = Idle }) e op.Control (Load p) (λ is. cc)
    (λ idle collect. cc)
nothing_at ws d e (Checking old new) op.Offer (Load p) r h = other_answer ws (record d { doing = Checking old new }) e op.Offer (Load p)
    (λ is. cc) (λ idle collect. cc)
nothing_at ws d e (Ringing old new) op.Offer (Store p x) r h =
    other_answer ws (record d { doing = Ringing old new }) e op.Offer (Store p x) (λ is. cc) (λ idle collect. cc)
nothing_at ws d e Idle op.Arm (Store p x) r h = other_answer ws (record d { doing = Idle }) e op.Arm (Store p x) (λ is. cc)
    (λ idle collect. cc)
nothing_at ws d e Arming op.Arm (Load p) r h =
    other_answer ws (record d { doing = Arming }) e op.Arm (Load p)
    (λ is. not_both (sym (again_not is_nothing act.Armed (shows (slice_index ws p) (length (collects d.done)))
    d.frame.features.event_idx refl refl refl) ∙ ap is_nothing is)) (λ idle collect. cc)
nothing_at ws d e (Disarming o) op.Arm (Store p x) r h =
    other_answer ws (record d { doing = Disarming o }) e op.Arm (Store p x) (λ is. cc) (λ idle collect. cc)
nothing_at ws d e (Disarming o) op.Hear (Store p x) r h =
    other_answer ws (record d { doing = Disarming o }) e op.Hear (Store p x) (λ is. cc) (λ idle collect. cc)
nothing_at ws d e Idle op.Hear (Load p) r h =
    other_answer ws (record d { doing = Idle }) e op.Hear (Load p)
    (λ is. not_both (sym (again_not is_nothing act.Asleep (slice_index ws p == d.heard) d.frame.features.event_idx refl refl refl)
    ∙ ap is_nothing is)) (λ idle collect. cc)
nothing_at ws d e Idle op.Disarm (Store p x) r h = other_answer ws (record d { doing = Idle }) e op.Disarm (Store p x) (λ is. cc)
    (λ idle collect. cc)
nothing_at ws d e Idle op.Disarm (Load p) r h = other_answer ws (record d { doing = Idle }) e op.Disarm (Load p) (λ is. cc)
    (λ idle collect. cc)
nothing_at ws d e _ _ _ r h = absurd h

pub collects_nothing : (ws : List ℕ) (d : DriverView) (e : DeviceView) (op : Op) (a : Access) → Ring ws d e → DriverNext d op a
    → CollectsNothing ws d e op a
collects_nothing ws d e op a r h = nothing_at ws d e d.doing op a r h

pub driver_nothing : (ws : List ℕ) (d : DriverView) (e : DeviceView) (op : Op) (a : Access) → Ring ws d e → DriverNext d op a
    → driver_act d op a (answered ws a) ≡ act.Nothing → collects d.done ≡ gives e.done
driver_nothing ws d e op a r h is = (collects_nothing ws d e op a r h).all is

-- ---- the bag

bag_look : (d : DriverView) (e : DeviceView) (r : ℕ) (t : Bool) (b : List State) → StandsFor d.done e.done b
    → (b2 : List State) × Rattle.vd_ring.specs.Steps.DriverBagStep (if t then act.Nothing else act.Moved) b b2
    × StandsFor (if t then record d {
      doing = Idle;
      seen = shown_from r (length (collects d.done));
      shown =
          false;
    } else record d { seen = shown_from r (length (collects d.done)); shown = true; doing = Collecting (r ∷ []) }).done e.done b2
bag_look d e r true b st = (b, refl, st)
bag_look d e r false b st = (b, refl, st)

bag_again : (d : DriverView) (e : DeviceView) (v w : DriverView) (quiet : DriverAct) (t c : Bool) (b : List State)
    → Rattle.vd_ring.specs.Steps.DriverBagStep quiet b b → v.done ≡ d.done → w.done ≡ d.done → StandsFor d.done e.done b
    → Rattle.vd_ring.specs.Steps.DriverBagStep (if t then quiet else (if c then act.Awake else act.Moved)) b b
    × StandsFor (if t then v else w).done e.done b
bag_again d e v w quiet true c b is x y st = (is, subst (λ (o : List DriverDone). StandsFor o e.done b) (sym x) st)
bag_again d e v w quiet false true b is x y st = (refl, subst (λ (o : List DriverDone). StandsFor o e.done b) (sym y) st)
bag_again d e v w quiet false false b is x y st = (refl, subst (λ (o : List DriverDone). StandsFor o e.done b) (sym y) st)

bags_at : (ws : List ℕ) (d : DriverView) (e : DeviceView) (now : DriverNow) (op : Op) (a : Access) (b : List State)
    → Ring ws (record d { doing = now }) e → DriverNextAt now (record d { doing = now }) op a → StandsFor d.done e.done b
    → DriverBags ws (record d { doing = now }) e op a b
bags_at ws d e (Entered puts) op.Offer (Store p x) b r h st =
    let did = offer_step d.frame d.done e.done (staged_chain d.frame (words_of puts)) b r.lists st in
    record { bag = did.0; step = did.1; stands = did.2 }
bags_at ws d e Idle op.Collect (Load p) b r h st =
    let did = bag_look d e (slice_index ws p) (shows (slice_index ws p) (length (collects d.done))) b st in
    record { bag = did.0; step = did.1; stands = did.2 }
bags_at ws d e Idle op.Offer (Store p x) b r h st = record { bag = b; step = refl; stands = st }
bags_at ws d e (Offering puts) op.Offer (Store p x) b r h st = record { bag = b; step = refl; stands = st }
bags_at ws d e (Collecting (g ∷ [])) op.Collect (Load p) b r h st = record { bag = b; step = refl; stands = st }
bags_at ws d e (Collecting (g ∷ w ∷ [])) op.Collect (Load p) b r h st = record { bag = b; step = refl; stands = st }
bags_at ws d e Idle op.Control (Store p x) b r h st = record { bag = b; step = refl; stands = st }
bags_at ws d e Idle op.Control (Load p) b r h st = record { bag = b; step = refl; stands = st }
bags_at ws d e (Checking old new) op.Offer (Load p) b r h st = record { bag = b; step = refl; stands = st }
bags_at ws d e (Ringing old new) op.Offer (Store p x) b r h st = record { bag = b; step = refl; stands = st }
bags_at ws d e Idle op.Arm (Store p x) b r h st = record { bag = b; step = refl; stands = st }
bags_at ws d e Arming op.Arm (Load p) b r h st =
    let m : ℕ = length (collects d.done) in let g : ℕ = slice_index ws p in
    let did = bag_again d e (record d { seen = shown_from g m; shown = false; doing = Idle })
    (record d { seen = shown_from g m; shown = true; armed = None; doing = driver_wakes d.frame op.Arm }) act.Armed
    (shows g m) d.frame.features.event_idx b refl refl refl st in
    record { bag = b; step = did.0; stands = did.1 }
bags_at ws d e (Disarming o) op.Arm (Store p x) b r h st = record { bag = b; step = refl; stands = st }
bags_at ws d e (Disarming o) op.Hear (Store p x) b r h st = record { bag = b; step = refl; stands = st }
bags_at ws d e Idle op.Hear (Load p) b r h st =
    let g : ℕ = slice_index ws p in
    let did = bag_again d e (record d { doing = Idle }) (record d { heard = g; armed = None; doing = driver_wakes d.frame op.Hear })
    act.Asleep (g == d.heard) d.frame.features.event_idx b refl refl refl st in
    record { bag = b; step = did.0; stands = did.1 }
bags_at ws d e Idle op.Disarm (Store p x) b r h st = record { bag = b; step = refl; stands = st }
bags_at ws d e Idle op.Disarm (Load p) b r h st = record { bag = b; step = refl; stands = st }
bags_at ws d e _ _ _ b r h st = absurd h

pub driver_bags : (ws : List ℕ) (d : DriverView) (e : DeviceView) (op : Op) (a : Access) (b : List State) → Ring ws d e
    → DriverNext d op a → StandsFor d.done e.done b → DriverBags ws d e op a b
driver_bags ws d e op a b r h st = bags_at ws d e d.doing op a b r h st
