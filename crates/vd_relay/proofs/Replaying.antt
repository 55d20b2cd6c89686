-- A replay's access of an operation of its shadow end, by the answer.
use Rattle.std.proofs.Common.{◌≡◌, ◌≢◌, ◌↔◌, ℕ, ◌+◌, ◌*◌, ◌<◌, ◌≤◌, Bool, true, false, Some, None, List, [], ◌∷◌, length, if◌then◌else◌, refl, sym, ◌∙◌, ap, subst, arith, inl, inr}
use Rattle.std.specs.Prelude.{slice_get}
use Rattle.std.proofs.Math.ListN.{length-append}
use Rattle.vd_model.specs.declared.chain.Piece.{Piece}
use Rattle.vd_model.specs.Chains.{readable}
use Rattle.vd_words.specs.declared.access.Op.{Op}
use Rattle.vd_words.specs.declared.access.Op.TheVariants as op
use Rattle.vd_words.specs.declared.access.Access.{Access}
use Rattle.vd_words.specs.Model.{PortModel}
use Rattle.vd_words.specs.Own.{IsOwn}
use Rattle.vd_ring.specs.declared.act.DriverAct.{DriverAct}
use Rattle.vd_ring.specs.declared.act.DriverAct.TheVariants as act
use Rattle.vd_ring.specs.declared.frame.Frame.{Frame}
use Rattle.vd_ring.specs.declared.driver.DriverDone.{DriverDone}
use Rattle.vd_ring.specs.declared.driver.DriverDone.TheVariants.{Offer, Collect}
use Rattle.vd_ring.specs.declared.driver.DriverNow.TheVariants as now
use Rattle.vd_ring.specs.declared.driver.DriverView.{DriverView}
use Rattle.vd_ring.specs.History.{entry, offers, collects, open_at, head, occurs}
use Rattle.vd_ring.specs.Sleep.{driver_woken}
use Rattle.vd_ring.proofs.Counts.{occurs_from}
use Rattle.vd_ring.proofs.HeldPlaces.{head_inside}
use Rattle.vd_layout.proofs.OnePair.{CollectedOne, says_collected}
use Rattle.vd_layout.specs.Begun.{DriverOp, DriverPublished, IsDriverOp}
use Rattle.vd_layout.specs.Driver.{DriverModel, IsLawfulDriver, IsDriverStep}
use Rattle.vd_layout.specs.Layout.{LayoutModel}
use Rattle.vd_control.specs.declared.command.Command.{Command}
use Rattle.vd_control.specs.Commands.{spelled}
use Rattle.vd_control.specs.Settings.{replay}
use Rattle.vd_relay.specs.declared.counts.Turn.{Turn}
use Rattle.vd_relay.specs.declared.counts.Turn.TheVariants.{Worked, Handled, Slept, Again}
use Rattle.vd_relay.specs.declared.stage.Stage.TheVariants as stage
use Rattle.vd_relay.specs.declared.replay.Replay.{Replay}
use Rattle.vd_relay.specs.declared.replay.ReplayStage.{ReplayStage}
use Rattle.vd_relay.specs.declared.replay.ReplayStage.TheVariants.{Offering, Collecting, Loading, Arming, Hearing, Disarming, Left}
use Rattle.vd_relay.specs.Pace.{counted, handled, woke, shadow_handled, shadow_owes, collect_owes, collecting_owes}
use Rattle.vd_relay.specs.Stages.{ShadowIs, ShadowArmed, ShadowHears, ShadowShown}
use Rattle.vd_relay.specs.Replays.{is_control, as_stage, replay_owes, IsShadowRing, IsAt, OffersIt, Replays, ReplayHolds, ReplayTurn}
use Rattle.vd_relay.proofs.ShadowActs.{says_acts}
use Rattle.vd_relay.proofs.ShadowGoing.{went, collect_most}
use Rattle.vd_relay.proofs.ShadowTurns.{not_woken}
use Rattle.vd_relay.proofs.Hearings.{shadow_heard, shadow_goes_on}
use Rattle.vd_relay.proofs.Turns.{worked_only, handled_only}
use Rattle.vd_relay.proofs.DriverGoing.{going}
use Rattle.vd_relay.proofs.ReplayStages.{owes_at, at_offering, at_collecting, at_hearing, hand_of, offers_own, offer_goes}
use Rattle.vd_relay.proofs.ReplayChains.{Sent, moved_to, carried_offered, awaits_offered, is_number, between_collected, carried_collected}

abbrev pub to_stage : Replay → ReplayStage → Replay
to_stage r st = record {
  settings = r.settings;
  count = r.count;
  next = r.next;
  stage = st;
  winding = r.winding;
  target = r.target;
}

pub most_few : (w : Bool) → (if w then 4 else 48) ≤ 48
most_few true = omega arith
most_few false = omega arith

pub same_grown : (o o' : List DriverDone) → o' ≡ o → length (offers o') + length (collects o') ≡ length (offers o) + length (collects o) + 0
same_grown o o' is = omega (
  arith,
  ap (λ (y : List DriverDone). length (offers y)) is,
  ap (λ (y : List DriverDone). length (collects y)) is,
)

offer_grown : (c : List Piece) (o o' : List DriverDone) → o' ≡ Offer c ∷ o
    → length (offers o') + length (collects o') ≡ length (offers o) + length (collects o) + 1
offer_grown c o o' is = omega (
  arith,
  ap (λ (y : List DriverDone). length (offers y)) is,
  length-append (offers o) (c ∷ []),
  ap (λ (y : List DriverDone). length (collects y)) is,
)

collect_grown : (k l : ℕ) (o o' : List DriverDone) → o' ≡ Collect (entry k l ∷ []) ∷ o
    → length (offers o') + length (collects o') ≡ length (offers o) + length (collects o) + 1
collect_grown k l o o' is = omega (
  arith,
  ap (λ (y : List DriverDone). length (offers y)) is,
  length-append (collects o) (entry k l ∷ []),
  ap (λ (y : List DriverDone). length (collects y)) is,
)

module _ {Q D : Type 0} (port : PortModel Q) (l : LayoutModel) (d : DriverModel D) (ldr : IsLawfulDriver d) (p q : Q) (r : Replay) (x y : D)
    (v : DriverView) (b : D) (h : Replays l d r y v) (less : replay_owes d r.winding r.stage y v ≤ replay_owes d r.winding r.stage x v)
  where
    pub made : (answer : DriverAct) (s : IsDriverStep port d p q v y b answer) (r' : Replay) (t : Turn)
        → ReplayHolds l d r' b (d.side.after v s.op s.access s.got)
        → (t ≡ Slept → (r.winding ≡ false) × (r'.stage ≡ Hearing) × (d.begun b ≡ DriverOp.idle)) → handled t ≡ shadow_handled answer
        → length (offers (d.side.after v s.op s.access s.got).done) + length (collects (d.side.after v s.op s.access s.got).done)
        ≡ length (offers v.done) + length (collects v.done) + handled t
        → (t ≡ Slept) ↔ (answer ≡ act.Asleep) → (t ≡ Again) ↔ ((answer ≡ act.Nothing) × (r.winding ≡ true))
        → (t ≡ Again → length (collects v.done) < length (replay r.settings)) → woke t ≡ driver_woken s.op answer
        → replay_owes d r'.winding r'.stage b (d.side.after v s.op s.access s.got) + counted t ≤ replay_owes d r.winding r.stage y v + 64 *
        (handled t + woke t)
        → ReplayTurn port l d p q r r' x b v t
    made answer s r' t holds awake counts grown sleeps agains waits wakes paid = record {
      op = s.op;
      access = s.access;
      got = s.got;
      was_next = s.was_next;
      moved = s.moved;
      holds = holds;
      acts = says_acts answer (d.begun y) (d.begun b) v.frame v.done (d.side.after v s.op s.access s.got).done s.says;
      handled = counts ∙ ap shadow_handled s.is_answer;
      awake = awake;
      grown = grown;
      slept = subst (λ z. (t ≡ Slept) ↔ (z ≡ act.Asleep)) s.is_answer sleeps;
      again = subst (λ z. (t ≡ Again) ↔ ((z ≡ act.Nothing) × (r.winding ≡ true))) s.is_answer agains;
      waits = waits;
      woke = wakes ∙ ap (driver_woken s.op) s.is_answer;
      paid = omega (arith, paid, less);
    }

    pub once : (answer : DriverAct) (t : Turn) → answer ≢ act.Nothing → t ≢ Again
        → (t ≡ Again) ↔ ((answer ≡ act.Nothing) × (r.winding ≡ true))
    once answer t n m = ((λ z. absurd (m z)), λ z. absurd (n z.0))

    ring_after : (o : Op) (a : Access) (g : ℕ) → IsShadowRing l (d.side.after v o a g).frame
    ring_after o a g = subst (λ (f : Frame). IsShadowRing l f) (sym (ldr.framed v o a g)) h.ring

    -- an idle end hears nothing
    deaf : (r' : Replay) (u : DriverView) → (r'.stage ≡ Hearing → r'.winding ≡ false) → d.begun b ≡ DriverOp.idle → Replays l d r' b u
        → ReplayHolds l d r' b u
    deaf r' u hearing idle k = record {
      replays = k;
      hears = λ hears x. cc (hears, idle);
      leaves = λ on at x. cc (on, hearing at);
    }

    -- an operation has ended
    pub settled : (answer : DriverAct) (s : IsDriverStep port d p q v y b answer) (st : ReplayStage) (o' : List DriverDone)
        → (d.side.after v s.op s.access s.got).done ≡ o' → Sent st (replay r.settings) r.next v.frame o' → d.begun b ≡ DriverOp.idle
        → ShadowIs (as_stage st) DriverOp.idle
        → ShadowArmed (as_stage st) DriverOp.idle (d.side.after v s.op s.access s.got).doing (d.side.after v s.op s.access s.got).armed
        → (st ≡ Disarming → r.winding ≡ true) → (st ≡ Hearing → r.winding ≡ false) → st ≢ Left
        → ReplayHolds l d (to_stage r st) b (d.side.after v s.op s.access s.got)
    settled answer s st o' done sent idle is armed disarms hearing stays =
        let v' : DriverView = d.side.after v s.op s.access s.got in
        let k = moved_to st (replay r.settings) r.next v.frame v'.frame o' v'.done (ldr.framed v s.op s.access s.got) done sent in
        deaf (to_stage r st) v' hearing idle (record {
          drives = s.now_stands;
          ring = ring_after s.op s.access s.got;
          pairs = h.pairs;
          counted = h.counted;
          few = h.few;
          at = k.0;
          carried = k.1;
          acked = k.2;
          op = subst (λ o. ShadowIs (as_stage st) o) (sym idle) is;
          offer = subst (λ o. OffersIt o (replay r.settings) r.next) (sym idle) tt;
          armed = subst (λ o. ShadowArmed (as_stage st) o v'.doing v'.armed) (sym idle) armed;
          shown = subst (λ o. ShadowShown o v'.doing v'.shown (d.left b)) (sym idle) tt;
          disarms = disarms;
          left = λ z. absurd (stays z);
        })

    pub owes_idle : (st : ReplayStage) (u : DriverView) → is_control st ≡ false → d.begun b ≡ DriverOp.idle
        → replay_owes d r.winding st b u ≡ shadow_owes r.winding (as_stage st) DriverOp.idle u.doing false u.shown (d.left b)
    owes_idle st u off idle = owes_at d r.winding st b u off ∙ ap (λ o. shadow_owes r.winding (as_stage st) o u.doing false u.shown
        (d.left b)) idle

    -- ---- an access that ends no operation

    -- the end that hears is in its disarming store then
    hears_on : (s : IsDriverStep port d p q v y b act.Moved) → d.begun b ≡ DriverOp.hear
        → (d.side.after v s.op s.access s.got).doing ≡ now.Idle → ⊥
    hears_on s is idle =
        let heard = shadow_heard (d.begun y) (d.begun b) s.says.0 is in
        let of : s.op ≡ op.Hear = subst (λ o. IsDriverOp o s.op) heard s.of_it in
        let at : r.stage ≡ Hearing = at_hearing r.stage (subst (λ o. ShadowIs (as_stage r.stage) o) heard h.op) in
        let armed : ShadowHears DriverOp.hear v.doing v.armed = subst (λ o. ShadowHears o v.doing v.armed) heard
        (subst (λ (z : ReplayStage). ShadowArmed (as_stage z) (d.begun y) v.doing v.armed) at h.armed) in
        elim armed [
          | inl z ↦ cc (idle, (going port d ldr p q y v b s).heard of z.0)
          | inr z ↦ (going port d ldr p q y v b s).busy (z ∙ ap now.Disarming (sym of))
        ]

    hears_still : (s : IsDriverStep port d p q v y b act.Moved) → r.stage ≡ Hearing → d.begun b ≡ DriverOp.idle → ⊥
    hears_still s at idle = shadow_goes_on (d.begun y) (d.begun b) s.op
        (subst (λ (z : ReplayStage). ShadowIs (as_stage z) (d.begun y)) at h.op) s.of_it s.says.0 idle

    pub moved_on : is_control r.stage ≡ false → IsDriverStep port d p q v y b act.Moved → ReplayTurn port l d p q r r x b v Worked
    moved_on off s =
        let v' : DriverView = d.side.after v s.op s.access s.got in
        let done : v'.done ≡ v.done = s.says.1 in
        let g = went r.winding (hand_of (d.begun y)) s.op v v' false (d.left y) (d.left b) (as_stage r.stage) (d.begun y)
        (d.begun b) h.op s.of_it
        h.armed (offers_own (d.begun y)) h.shown s.says.0 s.left (going port d ldr p q y v b s) in
        let k = moved_to r.stage (replay r.settings) r.next v.frame v'.frame v.done v'.done (ldr.framed v s.op s.access s.got) done
        (h.at, h.carried, h.acked) in
        made act.Moved s r Worked (record {
          replays = record {
            drives = s.now_stands;
            ring = ring_after s.op s.access s.got;
            pairs = h.pairs;
            counted = h.counted;
            few = h.few;
            at = k.0;
            carried = k.1;
            acked = k.2;
            op = g.is;
            offer = offer_goes (d.begun y) (d.begun b) (replay r.settings) r.next s.says.0 h.offer;
            armed = g.armed;
            shown = g.shown;
            disarms = h.disarms;
            left = λ z. absurd (cc (off, ap is_control z));
          };
          hears = hears_on s;
          leaves = λ on at idle. hears_still s at idle;
        }) (λ z. absurd (cc z)) refl (same_grown v.done v'.done done) (worked_only act.Moved (λ z. cc z))
        (once act.Moved Worked (λ z. cc z) (λ z. cc z))
        (λ z. absurd (cc z)) (not_woken s.op act.Moved (λ z. cc z))
        (omega (arith, g.paid, owes_at d r.winding r.stage b v' off, owes_at d r.winding r.stage y v off))

    -- ---- an offer

    published_is : (o : DriverOp) → DriverPublished o → (ShadowIs (stage.Collecting false) o) × (OffersIt o (replay r.settings) r.next)
        × ((u : _) (g : Bool) (n : ℕ) → ShadowShown o u g n)
    published_is o (inl i) = subst (λ z. (ShadowIs (stage.Collecting false) z) × (OffersIt z (replay r.settings) r.next)
        × ((u : _) (g : Bool) (n : ℕ) → ShadowShown z u g n)) (sym i) (tt, tt, λ u g n. tt)
    published_is o (inr i) = subst (λ z. (ShadowIs (stage.Collecting false) z) × (OffersIt z (replay r.settings) r.next)
        × ((u : _) (g : Bool) (n : ℕ) → ShadowShown z u g n)) (sym i) (tt, tt, λ u g n. tt)

    published_owes : (o : DriverOp) (u : DriverView) (n : ℕ) → DriverPublished o
        → shadow_owes r.winding (stage.Collecting false) o u.doing false u.shown n ≤ n + 48
    published_owes o u n (inl i) = omega (
      arith,
      ap (λ z. shadow_owes r.winding (stage.Collecting false) z u.doing false u.shown n) i,
      collect_most r.winding false u.shown,
      most_few r.winding,
    )
    published_owes o u n (inr i) = omega (
      arith,
      ap (λ z. shadow_owes r.winding (stage.Collecting false) z u.doing false u.shown n) i,
      most_few r.winding,
    )

    pub offered : (k : ℕ) → IsDriverStep port d p q v y b (act.Offered k) → ReplayTurn port l d p q r (to_stage r Collecting) x b v Handled
    offered k s =
        let v' : DriverView = d.side.after v s.op s.access s.got in
        let c : List Piece = s.says.0 in
        let cs = replay r.settings in
        let e : r.stage ≡ Offering = at_offering c r.stage (subst (λ o. ShadowIs (as_stage r.stage) o) s.says.1 h.op) in
        let of : s.op ≡ op.Offer = subst (λ o. IsDriverOp o s.op) s.says.1 s.of_it in
        let at : IsAt Offering cs r.next v.frame v.done = subst (λ (z : ReplayStage). IsAt z cs r.next v.frame v.done) e h.at in
        let unarmed : v.armed ≡ None = subst (λ (z : ReplayStage). ShadowArmed (as_stage z) (d.begun y) v.doing v.armed) e h.armed in
        let its : (a : Command) → slice_get cs r.next ≡ Some a → readable c ≡ length (spelled a) =
        subst (λ o. OffersIt o cs r.next) s.says.1 h.offer in
        let sent : Sent Collecting cs r.next v.frame (Offer c ∷ v.done) = (
          (at.0, awaits_offered v.done c r.next at.1),
          carried_offered cs v.frame v.done c r.next at.1.offered h.carried at.2 at.3 its,
          h.acked,
        ) in
        let m = moved_to Collecting cs r.next v.frame v'.frame (Offer c ∷ v.done) v'.done (ldr.framed v s.op s.access s.got) s.says.4 sent in
        let i = published_is (d.begun b) s.says.2 in
        made (act.Offered k) s (to_stage r Collecting) Handled (record {
          replays = record {
            drives = s.now_stands;
            ring = ring_after s.op s.access s.got;
            pairs = h.pairs;
            counted = h.counted;
            few = h.few;
            at = m.0;
            carried = m.1;
            acked = m.2;
            op = i.0;
            offer = i.1;
            armed = ldr.stays_unarmed v s.op s.access s.got (λ z. cc (of, z)) unarmed;
            shown = i.2 v'.doing v'.shown (d.left b);
            disarms = λ z. absurd (cc z);
            left = λ z. absurd (cc z);
          };
          hears = λ hears z. elim s.says.2 [ inl e ↦ cc (e, hears) | inr e ↦ cc (e, hears) ];
          leaves = λ on z. absurd (cc z);
        }) (λ z. absurd (cc z)) refl (offer_grown c v.done v'.done s.says.4) (handled_only (act.Offered k) (λ z. cc z))
        (once (act.Offered k) Handled (λ z. cc z)
        (λ z. cc z)) (λ z. absurd (cc z)) (not_woken s.op (act.Offered k) (λ z. cc z))
        (omega (
          arith,
          s.left,
          published_owes (d.begun b) v' (d.left b) s.says.2,
          ap (λ (z : ReplayStage). replay_owes d r.winding z y v) e,
          ap (λ o. shadow_owes r.winding (stage.Offering 0 0) o v.doing false v.shown (d.left y)) s.says.1,
        ))

    -- ---- a collect

    pub collected : (k n m : ℕ) → IsDriverStep port d p q v y b (act.Collected k n m)
        → ReplayTurn port l d p q r (to_stage r (Loading m)) x b v Handled
    collected k n m s =
        let v' : DriverView = d.side.after v s.op s.access s.got in
        let cs = replay r.settings in
        let one : CollectedOne k n m (d.begun y) (d.begun b) v.frame v.done v'.done =
        says_collected k n m (d.begun y) (d.begun b) v.frame v.done v'.done s.says in
        let e : r.stage ≡ Collecting = at_collecting r.stage (subst (λ o. ShadowIs (as_stage r.stage) o) one.begun h.op) in
        let of : s.op ≡ op.Collect = subst (λ o. IsDriverOp o s.op) one.begun s.of_it in
        let at : IsAt Collecting cs r.next v.frame v.done = subst (λ (z : ReplayStage). IsAt z cs r.next v.frame v.done) e h.at in
        let unarmed : v.armed ≡ None = subst (λ (z : ReplayStage). ShadowArmed (as_stage z) (d.begun y) v.doing v.armed) e h.armed in
        let some : 1 ≤ occurs k (open_at v.done) = occurs_from k (open_at v.done) one.was_open in
        let is : r.next ≡ k = is_number v.done r.next k at.1.one some in
        let inside : m < v.frame.size = omega (arith, one.is_head, head_inside v.frame v.done k (ldr.places y v h.drives) some) in
        let sent : Sent (Loading m) cs r.next v.frame (Collect (entry k n ∷ []) ∷ v.done) = (
          (
            at.0,
            between_collected v.done r.next k n at.1 is,
            ap (λ (j : ℕ). Some j) (sym is),
            one.is_head ∙ ap (λ (j : ℕ). head v.frame v.done j) (sym is),
            inside,
          ),
          carried_collected cs v.frame v.done k n h.carried,
          h.acked,
        ) in
        made (act.Collected k n m) s (to_stage r (Loading m)) Handled
        (settled (act.Collected k n m) s (Loading m) (Collect (entry k n ∷ []) ∷ v.done) one.done sent one.idle tt
        (ldr.stays_unarmed v s.op s.access s.got (λ z. cc (of, z)) unarmed) (λ z. absurd (cc z)) (λ z. absurd (cc z)) (λ z. cc z))
        (λ z. absurd (cc z)) refl
        (collect_grown k n v.done v'.done one.done) (handled_only (act.Collected k n m) (λ z. cc z))
        (once (act.Collected k n m) Handled (λ z. cc z) (λ z. cc z))
        (λ z. absurd (cc z)) (not_woken s.op (act.Collected k n m) (λ z. cc z)) (omega arith)

    -- ---- a collect that shows nothing

    unshown : (s : IsDriverStep port d p q v y b act.Nothing) → (z : Bool) → v.shown ≡ z → IsOwn port d.side p v → z ≡ false
    unshown s false is own = refl
    unshown s true is own =
        let n = (ldr.looks.nothing v s.op s.access s.got s.was_next).0 (sym s.is_answer) in
        let t : d.shows v s.got ≡ true = ldr.stays.again v s.op s.access s.got s.was_next
        (own.told s.op s.access s.was_next s.got q s.moved) (inl (n.0, n.1)) is in
        absurd (cc (t, n.2))

    look_owes : (s : IsDriverStep port d p q v y b act.Nothing) → r.stage ≡ Collecting → IsOwn port d.side p v
        → replay_owes d r.winding r.stage y v ≡ collect_owes r.winding false false
    look_owes s e own = ap (λ (z : ReplayStage). replay_owes d r.winding z y v) e
        ∙ ap (λ o. shadow_owes r.winding (stage.Collecting false) o v.doing false v.shown (d.left y)) s.says.0
        ∙ ap (λ z. collecting_owes r.winding false z (d.left y)) (unshown s v.shown refl own)

    pub found_none : r.winding ≡ false → IsOwn port d.side p v → IsDriverStep port d p q v y b act.Nothing
        → ReplayTurn port l d p q r (to_stage r Arming) x b v Worked
    found_none off own s =
        let v' : DriverView = d.side.after v s.op s.access s.got in
        let cs = replay r.settings in
        let e : r.stage ≡ Collecting = at_collecting r.stage (subst (λ o. ShadowIs (as_stage r.stage) o) s.says.0 h.op) in
        let of : s.op ≡ op.Collect = subst (λ o. IsDriverOp o s.op) s.says.0 s.of_it in
        let at : IsAt Collecting cs r.next v.frame v.done = subst (λ (z : ReplayStage). IsAt z cs r.next v.frame v.done) e h.at in
        let unarmed : v.armed ≡ None = subst (λ (z : ReplayStage). ShadowArmed (as_stage z) (d.begun y) v.doing v.armed) e h.armed in
        made act.Nothing s (to_stage r Arming) Worked
        (settled act.Nothing s Arming v.done s.says.2 (at, h.carried, h.acked) s.says.1 tt
        (ldr.stays_unarmed v s.op s.access s.got (λ z. cc (of, z)) unarmed) (λ z. absurd (cc z)) (λ z. absurd (cc z)) (λ z. cc z))
        (λ z. absurd (cc z)) refl
        (same_grown v.done v'.done s.says.2) (worked_only act.Nothing (λ z. cc z))
        ((λ z. absurd (cc z)), λ z. absurd (cc (off, z.1))) (λ z. absurd (cc z)) (not_woken s.op act.Nothing (λ z. cc z))
        (omega (
          arith,
          owes_idle Arming v' refl s.says.1,
          ap {B = ℕ} (λ (z : Bool). if z then 6 else 42) off,
          look_owes s e own,
          ap (λ z. collect_owes z false false) off,
        ))

    -- in a wind-up it looks again
    pub found_again : r.winding ≡ true → IsOwn port d.side p v → IsDriverStep port d p q v y b act.Nothing
        → ReplayTurn port l d p q r (to_stage r Collecting) x b v Again
    found_again on own s =
        let v' : DriverView = d.side.after v s.op s.access s.got in
        let cs = replay r.settings in
        let e : r.stage ≡ Collecting = at_collecting r.stage (subst (λ o. ShadowIs (as_stage r.stage) o) s.says.0 h.op) in
        let of : s.op ≡ op.Collect = subst (λ o. IsDriverOp o s.op) s.says.0 s.of_it in
        let at : IsAt Collecting cs r.next v.frame v.done = subst (λ (z : ReplayStage). IsAt z cs r.next v.frame v.done) e h.at in
        let unarmed : v.armed ≡ None = subst (λ (z : ReplayStage). ShadowArmed (as_stage z) (d.begun y) v.doing v.armed) e h.armed in
        made act.Nothing s (to_stage r Collecting) Again
        (settled act.Nothing s Collecting v.done s.says.2 (at, h.carried, h.acked) s.says.1 tt
        (ldr.stays_unarmed v s.op s.access s.got (λ z. cc (of, z)) unarmed) (λ z. absurd (cc z)) (λ z. absurd (cc z)) (λ z. cc z))
        (λ z. absurd (cc z)) refl
        (same_grown v.done v'.done s.says.2) ((λ z. absurd (cc z)), λ z. absurd (cc z)) ((λ z. (refl, on)), λ z. refl)
        (λ z. omega (arith, at.0, at.1.collected)) (not_woken s.op act.Nothing (λ z. cc z))
        (omega (
          arith,
          owes_idle Collecting v' refl s.says.1,
          ap (λ z. collect_owes z false v'.shown) on,
          look_owes s e own,
          ap (λ z. collect_owes z false false) on,
        ))
