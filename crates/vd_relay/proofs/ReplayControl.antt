-- A replay's accesses of command and ack words.
use Rattle.std.proofs.Common.{◌≡◌, ◌≢◌, ℕ, ◌+◌, ◌<◌, ◌≤◌, Bool, true, false, Some, None, List, [], ◌∷◌, length, refl, sym, ◌∙◌, ap, subst, arith, if◌then◌else◌}
use Rattle.std.specs.Prelude.{slice_get, slice_set}
use Rattle.std.specs.List.{sum_by}
use Rattle.std.proofs.lemmas.Bool.{le-ltb}
use Rattle.vd_model.specs.declared.features.Features.{Features}
use Rattle.vd_model.specs.Chains.{IsChain, needs, readable, total}
use Rattle.vd_words.specs.declared.access.Access.{Access}
use Rattle.vd_words.specs.declared.access.Access.TheVariants.{Load, Store}
use Rattle.vd_words.specs.declared.access.Op.TheVariants as op
use Rattle.vd_words.specs.Model.{PortModel}
use Rattle.vd_ring.specs.declared.frame.Frame.{Frame}
use Rattle.vd_ring.specs.declared.driver.DriverDone.{DriverDone}
use Rattle.vd_ring.specs.declared.driver.DriverDone.TheVariants.{StoreCommand, LoadAck}
use Rattle.vd_ring.specs.declared.driver.DriverView.{DriverView}
use Rattle.vd_ring.specs.Frames.{AreInBounds, borrowed, limit}
use Rattle.vd_ring.specs.History.{offers, collects, open_size, chain, next_head}
use Rattle.vd_ring.proofs.ListSteps.{some_same}
use Rattle.vd_ring.specs.Control.{LoadsAck}
use Rattle.vd_layout.specs.Begun.{DriverOp}
use Rattle.vd_layout.specs.Driver.{DriverModel, IsLawfulDriver, MayOffer}
use Rattle.vd_layout.specs.Device.{DeviceModel}
use Rattle.vd_layout.specs.Layout.{LayoutModel, IsLawfulLayout}
use Rattle.vd_control.specs.declared.command.Command.{Command}
use Rattle.vd_control.specs.Commands.{spelled}
use Rattle.vd_control.specs.declared.settings.Settings.{Settings}
use Rattle.vd_control.specs.Settings.{HasPairs, replay}
use Rattle.vd_commands.specs.Words.{command_word}
use Rattle.vd_relay.specs.declared.counts.Turn.TheVariants.{Worked}
use Rattle.vd_relay.specs.declared.stage.Stage.TheVariants as stage
use Rattle.vd_relay.specs.declared.replay.Replay.{Replay}
use Rattle.vd_relay.specs.declared.replay.ReplayStage.{ReplayStage}
use Rattle.vd_relay.specs.declared.replay.ReplayStage.TheVariants.{First, Second, Offering, Loading, Hearing, Disarming, Done, Left}
use Rattle.vd_relay.specs.Pace.{shadow_handled, shadow_owes}
use Rattle.vd_relay.specs.Stages.{ShadowIs, ShadowArmed, ShadowShown}
use Rattle.vd_relay.specs.Replays.{as_stage, replay_owes, after_ack, control_chain, IsShadowRing, IsFreshShadow, HasNext, AreCarried, AreAcked, IsBetween, IsAt, OffersIt, Replays, ReplayHolds, ReplayTurn}
use Rattle.vd_relay.proofs.ShadowActs.{shadow_word_acts}
use Rattle.vd_relay.proofs.Ops.{shadow_idle}
use Rattle.vd_relay.proofs.ReplayStages.{next_by}
use Rattle.vd_relay.proofs.ReplayChains.{stored_here, stored_other, acked_loaded, carried_stored, between_stored, carried_loaded, between_loaded}
use Rattle.vd_relay.proofs.ReplayWords.{is_idle, stores, may_store}
use Rattle.vd_relay.proofs.Replaying.{to_stage}

-- where a command more was acknowledged
abbrev pub to_next : Replay → ReplayStage → Replay
to_next r st = record {
  settings = r.settings;
  count = r.count;
  next = r.next + 1;
  stage = st;
  winding = r.winding;
  target = r.target;
}

shadow_limit : (g : Frame) → 16 ≤ g.ring → limit g ≡ 4294967295
shadow_limit g high = ap {B = ℕ} (λ (b : Bool). if b then 4000000000 else 4294967295) (le-ltb g.ring 16 high)

needs_two : (f : Features) (a b len : ℕ) → needs f (control_chain a b len) ≤ 2
needs_two f a b len = few f.indirect
  where
    few : (y : Bool) → (if y then 1 else 2) ≤ 2
    few true = omega arith
    few false = omega arith

total_control : (a b len : ℕ) → total (control_chain a b len) ≡ len + 1
total_control a b len = omega arith

readable_control : (a b len : ℕ) → readable (control_chain a b len) ≡ len
readable_control a b len = omega arith

-- the word that is stored is the command's
pub word_of : (r : Replay) (half : ℕ) (b a : Command) (items bytes : List ℕ) (w : ℕ) → slice_get (replay r.settings) r.next ≡ Some b
    → slice_get (replay r.settings) r.next ≡ Some a → items ≡ spelled b → bytes ≡ items → w ≡ command_word bytes half
    → w ≡ command_word (spelled a) half
word_of r half b a items bytes w at here spells slice words = words ∙ ap (λ (z : List ℕ). command_word z half) (slice ∙ spells)
    ∙ ap (λ (z : Command). command_word (spelled z) half) (some_same b a (sym at ∙ here))

-- and so many bytes
pub count_of : (r : Replay) (b a : Command) (len : ℕ) → slice_get (replay r.settings) r.next ≡ Some b
    → slice_get (replay r.settings) r.next ≡ Some a → len ≡ length (spelled b) → len ≡ length (spelled a)
count_of r b a len at here is = is ∙ ap (λ (z : Command). length (spelled z)) (some_same b a (sym at ∙ here))

module _ {Q D E : Type 0} (port : PortModel Q) (l : LayoutModel) (d : DriverModel D) (e : DeviceModel E) (lay : IsLawfulLayout d e l)
    (p q : Q) (r : Replay) (x : D) (v : DriverView) (h : Replays l d r x v) where
  room_at : IsBetween v.done r.next → d.begun x ≡ DriverOp.idle → HasNext l d x v
  room_at b idle = record {
    drives = h.drives;
    ring = h.ring;
    idle = idle;
    room = omega (
      arith,
      (lay.driver_end.places x v h.drives).sizes,
      ap (λ (ks : List ℕ). sum_by (λ k. borrowed v.frame (chain v.done k)) ks) b.none,
      (lay.sizes v.frame.size h.ring.size).0,
    );
  }

  idle_at : (st : ReplayStage) → r.stage ≡ st → as_stage st ≡ stage.Giving → d.begun x ≡ DriverOp.idle
  idle_at st is giving = shadow_idle stage.Giving (d.begun x) refl (subst (λ z. ShadowIs z (d.begun x)) giving
      (subst (λ (z : ReplayStage). ShadowIs (as_stage z) (d.begun x)) is h.op))

  pub at_stage : (st : ReplayStage) → r.stage ≡ st → IsAt st (replay r.settings) r.next v.frame v.done
  at_stage st is = subst (λ (z : ReplayStage). IsAt z (replay r.settings) r.next v.frame v.done) is h.at

  unarmed_at : (st : ReplayStage) → r.stage ≡ st → as_stage st ≡ stage.Giving → v.armed ≡ None
  unarmed_at st is giving = subst (λ z. ShadowArmed z (d.begun x) v.doing v.armed) giving
      (subst (λ (z : ReplayStage). ShadowArmed (as_stage z) (d.begun x) v.doing v.armed) is h.armed)

  pub next_first : r.stage ≡ First → HasNext l d x v
  next_first is = room_at (at_stage First is).1 (idle_at First is refl)

  pub next_second : r.stage ≡ Second → HasNext l d x v
  next_second is = room_at (at_stage Second is).1 (idle_at Second is refl)

  -- an access of a word is no operation's
  control_turn : (r' : Replay) (x' : D) (a : Access) (got : ℕ) (u : DriverView) → d.side.next v op.Control a
      → port.moves p op.Control a got q
      → d.side.after v op.Control a got ≡ u → length (offers u.done) ≡ length (offers v.done)
      → length (collects u.done) ≡ length (collects v.done) → Replays l d r' x' u → (d.begun x' ≡ DriverOp.hear → ⊥) → r'.stage ≢ Hearing
      → replay_owes d r'.winding r'.stage x' u + 1 ≤ replay_owes d r.winding r.stage x v → ReplayTurn port l d p q r r' x x' v Worked
  control_turn r' x' a got u next moved is offered collected replays deaf calm paid = record {
    op = op.Control;
    access = a;
    got = got;
    was_next = next;
    moved = moved;
    holds = subst (λ (z : DriverView). ReplayHolds l d r' x' z) (sym is) (record {
      replays = replays;
      hears = λ hears z. deaf hears;
      leaves = λ on at z. calm at;
    });
    acts = shadow_word_acts d lay.driver_end v a got next;
    handled = ap shadow_handled (sym (lay.driver_end.control_moves v a got next));
    awake = λ z. absurd (cc z);
    grown = omega (
      arith,
      ap (λ (z : DriverView). length (offers z.done)) is,
      ap (λ (z : DriverView). length (collects z.done)) is,
      offered,
      collected,
    );
    slept = ((λ z. absurd (cc z)), λ z. absurd (cc ((lay.driver_end.looks.asleep v op.Control a got next).0 z).0));
    waits = λ z. absurd (cc z);
    again = (
      (λ z. absurd (cc z)),
      λ z. absurd (cc ((lay.driver_end.looks.nothing v op.Control a got next).0 z.0).0),
    );
    woke = refl;
    paid = omega (arith, paid, ap (λ (z : DriverView). replay_owes d r'.winding r'.stage x' z) is);
  }

  -- ---- the first word

  pub store_first : (place w got : ℕ) → r.stage ≡ First → place ≡ d.words.command v.frame (next_head v.frame v.done)
      → ((a : Command) → slice_get (replay r.settings) r.next ≡ Some a → w ≡ command_word (spelled a) 0)
      → port.moves p op.Control (Store place w) got q → ReplayTurn port l d p q r (to_stage r Second) x x v Worked
  store_first place w got is placed worded moved =
      let cs = replay r.settings in
      let n = next_first is in
      let here : place ≡ d.words.command v.frame (next_head v.frame v.done) + 0 = omega (arith, placed) in
      let k = stores l d e lay x v n 0 place (omega arith) here in
      let next = may_store l d e lay x v n 0 place w (omega arith) here in
      let after = lay.driver_end.controls.stored v place w got (is_idle l d e lay x v n) k in
      let stands = lay.driver_end.control x v (Store place w) got h.drives next in
      let at = at_stage First is in
      let u : DriverView = record v { done = StoreCommand (next_head v.frame v.done) 0 w ∷ v.done; stored = slice_set v.stored place w } in
      control_turn (to_stage r Second) x (Store place w) got u next moved after refl refl (record {
        drives = subst (λ (z : DriverView). d.stands x z) after stands;
        ring = h.ring;
        pairs = h.pairs;
        counted = h.counted;
        few = h.few;
        at = (
          at.0,
          between_stored v.done r.next (next_head v.frame v.done) 0 w at.1,
          λ a got_a. stored_here v.done (next_head v.frame v.done) 0 w ∙ worded a got_a,
        );
        carried = carried_stored cs v.frame v.done (next_head v.frame v.done) 0 w h.carried;
        acked = h.acked;
        op = subst (λ o. ShadowIs stage.Giving o) (sym n.idle) tt;
        offer = h.offer;
        armed = unarmed_at First is refl;
        shown = h.shown;
        disarms = λ z. absurd (cc z);
        left = λ z. absurd (cc z);
      }) (λ z. cc (z, n.idle)) (λ z. cc z) (omega (arith, ap (λ (z : ReplayStage). replay_owes d r.winding z x v) is))

  -- ---- the second, and the offer

  -- a control chain of the next head may be offered
  pub may_offer : (u : DriverView) (len : ℕ) → IsShadowRing l u.frame → IsBetween u.done r.next → r.next < length (replay r.settings)
      → 3 ≤ len → len ≤ 10
      → IsChain (control_chain (d.words.command u.frame (next_head u.frame u.done)) (d.words.ack u.frame (next_head u.frame u.done)) len)
      → MayOffer d.words u
      (control_chain (d.words.command u.frame (next_head u.frame u.done)) (d.words.ack u.frame (next_head u.frame u.done)) len)
  may_offer u len ring between below least most chained =
      let a : ℕ = d.words.command u.frame (next_head u.frame u.done) in
      let b : ℕ = d.words.ack u.frame (next_head u.frame u.done) in
      let size : 2 ≤ u.frame.size = (lay.sizes u.frame.size ring.size).0 in
      let none_open : open_size u.frame u.done ≡ 0 =
      ap (λ (ks : List ℕ). sum_by (λ k. needs u.frame.features (chain u.done k)) ks) between.none in
      record {
        fits = record {
          chain = chained;
          size = omega (arith, needs_two u.frame.features a b len, size);
          length = omega (arith, total_control a b len, most);
          bounds = subst (λ z. AreInBounds z (control_chain a b len)) (sym ring.bounds) tt;
        };
        room = omega (arith, none_open, needs_two u.frame.features a b len, size);
        limited = omega (arith, between.offered, below, h.counted, h.few, shadow_limit u.frame ring.number);
        control = λ on. record { len = len; least = least; most = most; is = refl };
      }

  pub may_offer_here : (len : ℕ) → r.stage ≡ Second → 3 ≤ len → len ≤ 10
      → IsChain (control_chain (d.words.command v.frame (next_head v.frame v.done)) (d.words.ack v.frame (next_head v.frame v.done)) len)
      → MayOffer d.words v
      (control_chain (d.words.command v.frame (next_head v.frame v.done)) (d.words.ack v.frame (next_head v.frame v.done)) len)
  may_offer_here len is least most chained =
      let at = at_stage Second is in may_offer v len h.ring at.1 at.0 least most chained

  pub store_second : (place w got len : ℕ) (x' : D) → r.stage ≡ Second
      → place ≡ d.words.command v.frame (next_head v.frame v.done) + 1
      → ((a : Command) → slice_get (replay r.settings) r.next ≡ Some a → w ≡ command_word (spelled a) 1)
      → port.moves p op.Control (Store place w) got q → 3 ≤ len → len ≤ 10
      → ((a : Command) → slice_get (replay r.settings) r.next ≡ Some a → len ≡ length (spelled a))
      → IsChain (control_chain (d.words.command v.frame (next_head v.frame v.done)) (d.words.ack v.frame (next_head v.frame v.done)) len)
      → d.begun x' ≡ DriverOp.offer
      (control_chain (d.words.command v.frame (next_head v.frame v.done)) (d.words.ack v.frame (next_head v.frame v.done)) len)
      → ((u : DriverView) → d.stands x u → MayOffer d.words u
      (control_chain (d.words.command v.frame (next_head v.frame v.done)) (d.words.ack v.frame (next_head v.frame v.done)) len)
      → d.stands x' u)
      → d.left x' ≤ 38 → ReplayTurn port l d p q r (to_stage r Offering) x x' v Worked
  store_second place w got len x' is placed worded moved least most sized chained begun offers few =
      let cs = replay r.settings in
      let n = next_second is in
      let k = stores l d e lay x v n 1 place (omega arith) placed in
      let next = may_store l d e lay x v n 1 place w (omega arith) placed in
      let after = lay.driver_end.controls.stored v place w got (is_idle l d e lay x v n) k in
      let at = at_stage Second is in
      let q0 : ℕ = next_head v.frame v.done in
      let u : DriverView = record v { done = StoreCommand q0 1 w ∷ v.done; stored = slice_set v.stored place w } in
      let stands : d.stands x u = subst (λ (z : DriverView). d.stands x z) after
      (lay.driver_end.control x v (Store place w) got h.drives next) in
      let between = between_stored v.done r.next q0 1 w at.1 in
      control_turn (to_stage r Offering) x' (Store place w) got u next moved after refl refl (record {
        drives = offers u stands (may_offer u len h.ring between at.0 least most chained);
        ring = h.ring;
        pairs = h.pairs;
        counted = h.counted;
        few = h.few;
        at = (
          at.0,
          between,
          λ a got_a. stored_other v.done q0 w ∙ at.2 a got_a,
          λ a got_a. stored_here v.done q0 1 w ∙ worded a got_a,
        );
        carried = carried_stored cs v.frame v.done q0 1 w h.carried;
        acked = h.acked;
        op = subst (λ o. ShadowIs (stage.Offering 0 0) o) (sym begun) tt;
        offer = subst (λ o. OffersIt o cs r.next) (sym begun) (λ a got_a. readable_control (d.words.command v.frame q0)
            (d.words.ack v.frame q0) len ∙ sized a got_a);
        armed = unarmed_at Second is refl;
        shown = subst (λ o. ShadowShown o v.doing v.shown (d.left x')) (sym begun) tt;
        disarms = λ z. absurd (cc z);
        left = λ z. absurd (cc z);
      }) (λ z. cc (z, begun)) (λ z. cc z) (omega (
        arith,
        few,
        ap (λ (z : ReplayStage). replay_owes d r.winding z x v) is,
        ap (λ o. shadow_owes r.winding (stage.Offering 0 0) o v.doing false v.shown (d.left x')) begun,
      ))

  -- ---- the ack

  abbrev pub loads : (hd place : ℕ) → r.stage ≡ Loading hd → place ≡ d.words.ack v.frame hd
      → LoadsAck v.frame (d.words.ack v.frame) v.done place
  loads hd place is placed =
      let at = at_stage (Loading hd) is in
      record { control = h.ring.control; number = r.next; last = at.2; place = placed ∙ ap (d.words.ack v.frame) at.3 }

  pub may_load : (hd place : ℕ) → r.stage ≡ Loading hd → place ≡ d.words.ack v.frame hd → d.side.next v op.Control (Load place)
  may_load hd place is placed = (lay.driver_end.controls.loads v place).1
      (lay.driver_end.at_rest x v h.drives (idle_at (Loading hd) is refl), loads hd place is placed)

  pub head_below : (hd n : ℕ) → r.stage ≡ Loading hd → n ≡ d.size x → hd < n
  head_below hd n is sized = omega (arith, (at_stage (Loading hd) is).4, sized, (lay.driver_end.sized x v h.drives).0)

  loaded : (st : ReplayStage) (hd place got : ℕ) → r.stage ≡ Loading hd → place ≡ d.words.ack v.frame hd
      → port.moves p op.Control (Load place) got q → as_stage st ≡ stage.Giving → st ≢ Disarming → st ≢ Hearing → st ≢ Left
      → IsAt st (replay r.settings) (r.next + 1) v.frame (LoadAck r.next got ∷ v.done)
      → ((u : DriverView) → replay_owes d r.winding st x u ≤ 47) → ReplayTurn port l d p q r (to_next r st) x x v Worked
  loaded st hd place got is placed moved giving none calm stays at owed =
      let cs = replay r.settings in
      let k = loads hd place is placed in
      let idle = idle_at (Loading hd) is refl in
      let next = may_load hd place is placed in
      let after = lay.driver_end.controls.loaded v place got (lay.driver_end.at_rest x v h.drives idle) k in
      let u : DriverView = record v { done = LoadAck r.next got ∷ v.done } in
      control_turn (to_next r st) x (Load place) got u next moved after refl refl (record {
        drives = subst (λ (z : DriverView). d.stands x z) after (lay.driver_end.control x v (Load place) got h.drives next);
        ring = h.ring;
        pairs = h.pairs;
        counted = h.counted;
        few = h.few;
        at = at;
        carried = carried_loaded cs v.frame v.done r.next got h.carried;
        acked = acked_loaded r.next got v.done h.acked;
        op = subst (λ z. ShadowIs z (d.begun x)) (sym giving) (subst (λ o. ShadowIs stage.Giving o) (sym idle) tt);
        offer = subst (λ o. OffersIt o cs (r.next + 1)) (sym idle) tt;
        armed = subst (λ z. ShadowArmed z (d.begun x) v.doing v.armed) (sym giving) (unarmed_at (Loading hd) is refl);
        shown = h.shown;
        disarms = λ z. absurd (none z);
        left = λ z. absurd (stays z);
      }) (λ z. cc (z, idle)) calm (omega (arith, owed u, ap (λ (z : ReplayStage). replay_owes d r.winding z x v) is))

  pub load : (hd place got : ℕ) → r.stage ≡ Loading hd → place ≡ d.words.ack v.frame hd → port.moves p op.Control (Load place) got q
      → ReplayTurn port l d p q r (to_next r (after_ack (r.next + 1) r.count)) x x v Worked
  load hd place got is placed moved =
      let at = at_stage (Loading hd) is in
      let between = between_loaded v.done (r.next + 1) r.next got at.1 in
      next_by (λ (z : ReplayStage). ReplayTurn port l d p q r (to_next r z) x x v Worked) (r.next + 1) r.count
      (λ more. loaded First hd place got is placed moved refl (λ z. cc z) (λ z. cc z) (λ z. cc z)
      (omega (arith, more, h.counted), between) (λ u. omega arith))
      (λ last. loaded Done hd place got is placed moved refl (λ z. cc z) (λ z. cc z) (λ z. cc z)
      (omega (arith, last, at.0, h.counted), between) (λ u. omega arith))

-- ---- the begin

abbrev pub opened_at : Settings → ℕ → ReplayStage → Replay
opened_at s count st = record { settings = s; count = count; next = 0; stage = st; winding = false; target = 0 }

pub opened : {D : Type 0} (l : LayoutModel) (d : DriverModel D) (ldr : IsLawfulDriver d) (x : D) (v : DriverView) (s : Settings) (count : ℕ)
    → HasPairs s → count ≡ length (replay s) → count ≤ 4105 → IsFreshShadow l d x v
    → ReplayHolds l d (opened_at s count (after_ack 0 count)) x v
opened l d ldr x v s count pairs counted few h = next_by
    (λ (z : ReplayStage). ReplayHolds l d (opened_at s count z) x v) 0 count
    (λ more. at First refl (λ z. cc z) (λ z. cc z)
    (subst (λ (o : List DriverDone). IsAt First (replay s) 0 v.frame o) (sym h.unused) (omega (arith, more, counted), none)))
    (λ last. at Done refl (λ z. cc z) (λ z. cc z)
    (subst (λ (o : List DriverDone). IsAt Done (replay s) 0 v.frame o) (sym h.unused) (omega (arith, last, counted), none)))
  where
    none : IsBetween [] 0
    none = record { offered = refl; collected = refl; none = refl }

    nothing : AreCarried (replay s) v.frame []
    nothing = λ k b below is. absurd (omega (arith, below))

    at : (st : ReplayStage) → as_stage st ≡ stage.Giving → st ≢ Disarming → st ≢ Left → IsAt st (replay s) 0 v.frame v.done
        → ReplayHolds l d (opened_at s count st) x v
    at st giving never stays is = record {
      replays = record {
        drives = h.drives;
        ring = h.ring;
        pairs = pairs;
        counted = counted;
        few = few;
        at = is;
        carried = subst (λ (o : List DriverDone). AreCarried (replay s) v.frame o) (sym h.unused) nothing;
        acked = subst (λ (o : List DriverDone). AreAcked 0 o) (sym h.unused)
            (λ k. ((λ some. absurd (cc some)), λ below. absurd (omega (arith, below))));
        op = subst (λ z. ShadowIs z (d.begun x)) (sym giving) (subst (λ o. ShadowIs stage.Giving o) (sym h.idle) tt);
        offer = subst (λ o. OffersIt o (replay s) 0) (sym h.idle) tt;
        armed = subst (λ z. ShadowArmed z (d.begun x) v.doing v.armed) (sym giving) (ldr.unarmed x v h.drives h.unarmed);
        shown = subst (λ o. ShadowShown o v.doing v.shown (d.left x)) (sym h.idle) tt;
        disarms = λ z. absurd (never z);
        left = λ z. absurd (stays z);
      };
      hears = λ hears z. cc (hears, h.idle);
      leaves = λ on. absurd (cc on);
    }
