-- What an offer and a collect leave of a model guest.
use Rattle.std.proofs.Common.{◌≡◌, ◌≢◌, ◌⊎◌, ◌↔◌, ℕ, ◌+◌, ◌<◌, ◌==◌, Bool, true, false, Option, Some, List, [], ◌∷◌, ◌++◌, length, map, drop, refl, sym, ◌∙◌, ap, subst, arith, inl, inr}
use Rattle.std.specs.List.{All}
use Rattle.std.proofs.lemmas.List.{length_push, length-take-le, length-map, map_push}
use Rattle.vd_model.specs.declared.chain.Piece.{Piece}
use Rattle.vd_model.specs.declared.record.Return.{Return}
use Rattle.vd_model.specs.declared.record.Script.{Script}
use Rattle.vd_words.specs.Model.{PortModel}
use Rattle.vd_ring.specs.declared.act.DriverAct.TheVariants as act
use Rattle.vd_ring.specs.declared.driver.DriverDone.{DriverDone}
use Rattle.vd_ring.specs.declared.driver.DriverDone.TheVariants.{Offer, Collect}
use Rattle.vd_ring.specs.declared.driver.DriverView.{DriverView}
use Rattle.vd_ring.specs.declared.frame.Frame.{Frame}
use Rattle.vd_ring.specs.Frames.{Fits}
use Rattle.vd_ring.specs.History.{entry, offers, collects, open_at}
use Rattle.vd_ring.specs.Sleep.{driver_woken}
use Rattle.vd_ring.proofs.Counts.{occurs_from, length_without}
use Rattle.vd_layout.proofs.OnePair.{says_collected}
use Rattle.vd_layout.specs.Begun.{DriverOp, DriverPublished}
use Rattle.vd_layout.specs.Driver.{DriverModel, IsDriverStep, IsLawfulDriver}
use Rattle.vd_bus.specs.Guest.{as_return}
use Rattle.vd_bus.specs.Scripts.{chains}
use Rattle.vd_models.specs.declared.counts.Turn.TheVariants.{Worked, Slept}
use Rattle.vd_models.specs.declared.cursor.Cursor.{Cursor}
use Rattle.vd_models.specs.declared.driving.GuestStage.{GuestStage}
use Rattle.vd_models.specs.declared.driving.GuestStage.TheVariants as stage
use Rattle.vd_models.specs.Cursors.{left_at, next_at, IsSettled}
use Rattle.vd_models.specs.GuestStages.{BegunIs, OpIs, is_done, owes, offered_stage, collected_stage}
use Rattle.vd_models.specs.Pending.{HandIs, IsNoOffer}
use Rattle.vd_models.specs.Driving.{Driven, DriveOpens, IsDriveTurn, HasOffered, next_of, scripted}
use Rattle.vd_models.specs.declared.pending.Pending.{Pending}
use Rattle.vd_models.specs.declared.pending.Pending.TheVariants as hand
use Rattle.vd_layout.specs.Control.{ControlWords}
use Rattle.vd_layout.specs.Layout.{LayoutModel}
use Rattle.vd_models.proofs.GuestGoing.{at_offer, at_collect, unarming, armed_none, idle_small, published_owes, published_op, published_not}
use Rattle.vd_models.proofs.Lists.{prefix_same, prefix_push}
use Rattle.vd_models.proofs.Scripts.{next_left}
use Rattle.vd_models.proofs.Drives.{not_woken, no_sleep, live_less, less_live, done_is, still_free, all_back, owes_free}
use Rattle.vd_models.proofs.Offering.{next_chain, used_small}
use Rattle.vd_models.specs.laws.Scripted.{commands_or, next_is_chain, scripted_chains, scripted_commands}
use Rattle.vd_models.proofs.Begins.{free_of_chains}

abbrev pub put : {D : Type 0} → D → Script → Cursor → ℕ → List Return → GuestStage → Pending → Driven D
put e s a o r st h = record { end = e; script = s; at = a; offered = o; returned = r; stage = st; hand = h }

-- ---- an offer

pub offered_begun : (turns : Bool) (z : DriverOp) (next : Option (List Piece)) (f : Frame) (os : List DriverDone) → DriverPublished z
    → BegunIs (offered_stage turns) z next f os
offered_begun true z next f os (inl e) = subst (λ i. BegunIs stage.Collecting i next f os) (sym e) tt
offered_begun true z next f os (inr e) = subst (λ i. BegunIs stage.Collecting i next f os) (sym e) tt
offered_begun false z next f os (inl e) = subst (λ i. BegunIs stage.Offering i next f os) (sym e) tt
offered_begun false z next f os (inr e) = subst (λ i. BegunIs stage.Offering i next f os) (sym e) tt

pub offered_live : (turns : Bool) → (is_done (offered_stage turns) ≡ false) × (offered_stage turns ≢ stage.Hearing)
offered_live true = (refl, λ z. cc z)
offered_live false = (refl, λ z. cc z)

pub collected_begun : {A : Type 0} (t : Bool) (st : GuestStage) (next : Option (List Piece)) (f : Frame) (os : List DriverDone)
    → (((st ≡ stage.Offering) × A) ⊎ (st ≡ stage.Collecting)) → BegunIs (collected_stage t st) DriverOp.idle next f os
collected_begun true st next f os h = tt
collected_begun false st next f os (inl h) = subst (λ (z : GuestStage). BegunIs z DriverOp.idle next f os) (sym h.0) tt
collected_begun false st next f os (inr h) = subst (λ (z : GuestStage). BegunIs z DriverOp.idle next f os) (sym h) tt

pub collected_awake : (t : Bool) (st : GuestStage) → st ≢ stage.Hearing → collected_stage t st ≢ stage.Hearing
collected_awake true st h = λ z. cc z
collected_awake false st h = h

-- the offer of a chain without a command's words in hand is of a script of chains
chains_at : (words : ControlWords) (s : Script) (rs : List Return) (f : Frame) (o : List DriverDone) (st : GuestStage) (b : DriverOp)
    (c : List Piece) (h : Pending) → b ≡ DriverOp.offer c → h ≢ hand.Both → HandIs words s rs f o st b h → s.commands ≡ []
chains_at words s rs f o st b c hand.Free is other h = commands_or s (λ none. none)
    (λ some. absurd (subst (λ z. IsNoOffer z) is (h.1 some)))
chains_at words s rs f o st b c hand.First is other h = absurd (cc (is, h.1))
chains_at words s rs f o st b c hand.Both is other h = absurd (other refl)
chains_at words s rs f o st b c (hand.Ack n k g) is other h = absurd (cc (is, h.1))

pub no_offer_published : (b : DriverOp) → DriverPublished b → IsNoOffer b
no_offer_published b (inl e) = subst (λ z. IsNoOffer z) (sym e) tt
no_offer_published b (inr e) = subst (λ z. IsNoOffer z) (sym e) tt

module _ {P D : Type 0} {port : PortModel P} {d : DriverModel D} {l : LayoutModel} (law : IsLawfulDriver d) (from : Driven D) {p q : P}
    {v : DriverView} {y : D} where
  pub offered_at : (at' : Cursor) (k : ℕ) (turns : Bool) → from.hand ≢ hand.Both → DriveOpens d l from v
      → IsDriverStep port d p q v from.end y (act.Offered k)
      → left_at from.script.runs at' ≡ left_at from.script.runs (record { run = from.at.run; used = from.at.used + 1 })
      → IsSettled from.script.runs at'
      → IsDriveTurn port d l p q v from (put y from.script at' (from.offered + 1) from.returned (offered_stage turns) from.hand) Worked
  offered_at at' k turns other opens h left settled =
      let x = opens.drives in
      let c : List Piece = h.says.0 in
      let v' : DriverView = d.side.after v h.op h.access h.got in
      let framed : v'.frame ≡ v.frame = law.framed v h.op h.access h.got in
      let done : v'.done ≡ Offer c ∷ v.done = h.says.4 in
      let none = chains_at d.words from.script from.returned v.frame v.done from.stage
      (d.begun from.end) c from.hand h.says.1 other x.held in
      let free = free_of_chains d.words from.script from.returned v.frame v.done from.stage (d.begun from.end) from.hand none x.held in
      let back = all_back d.words from.script from.returned v.frame v.done from.stage (d.begun from.end) from.hand free x.held in
      let z : HasOffered from.script from.at from.offered from.returned v.frame v.done = x.chained none in
      let many : scripted from.script ≡ length (chains from.script) = scripted_chains from.script none in
      let at = at_offer (next_of d.words from.script from.at v.frame v.done) v.frame v.done c from.stage (subst
      (λ z. BegunIs from.stage z (next_of d.words from.script from.at v.frame v.done) v.frame v.done) h.says.1 x.begun) in
      let t : next_at from.script.runs from.at ≡ Some c = sym (next_is_chain d.words from.script from.at v.frame v.done none) ∙ at.1 in
      let u = unarming from.stage (d.begun from.end) v.doing
      (next_of d.words from.script from.at v.frame v.done) v.frame v.done h.op v.armed (λ z. cc
      (z, h.says.1)) (λ z. cc
      (z, h.says.1)) x.begun h.of_it x.armed in
      let nx = next_chain from.script from.at from.offered c x.settled z.left t in
      let tail : c ∷ left_at from.script.runs (record { run = from.at.run; used = from.at.used + 1 }) ≡ c ∷ drop (from.offered + 1)
      (chains from.script) = sym
      (next_left from.script.runs from.at c x.settled t) ∙ z.left ∙ nx.left in
      let rest : left_at from.script.runs (record { run = from.at.run; used = from.at.used + 1 }) ≡ drop (from.offered + 1)
      (chains from.script) = cc in
      let offs : offers v'.done ≡ offers v.done ++ c ∷ [] = ap offers done in
      let opn : open_at v'.done ≡ open_at v.done ++ length (offers v.done) ∷ [] = ap open_at done in
      let live = offered_live turns in
      record {
        op = h.op;
        access = h.access;
        got = h.got;
        was_next = h.was_next;
        moved = h.moved;
        drives = record {
          stands = h.now_stands;
          settled = settled;
          chained = λ e. record {
            left = left ∙ rest;
            offers = offs ∙ ap (λ z. z ++ c ∷ []) z.offers ∙ sym nx.taken;
            some = omega (arith, nx.more);
            returned = z.returned ∙ ap (map as_return) (sym (ap collects done));
            fits = subst (λ (f : Frame). All (Fits f) (chains from.script)) (sym framed) z.fits;
            control = λ some. ap (λ (f : Frame). f.control) framed ∙ z.control some;
          };
          sent = λ some. absurd (some none);
          held = still_free d.words from.script from.returned v'.frame v'.done (offered_stage turns) (d.begun y) from.hand free
              (back ∙ sym (ap (λ (z : List DriverDone). length (collects z)) done)) (λ some. absurd (some none));
          count = omega (
            arith,
            x.count,
            ap length offs,
            ap length opn,
            length_push (offers v.done) c,
            length_push (open_at v.done)
                (length (offers v.done)),
            ap (λ (z : List DriverDone). length (collects z)) done,
          );
          begun = offered_begun turns (d.begun y) (next_of d.words from.script at' v'.frame v'.done) v'.frame v'.done h.says.2;
          done = less_live (offered_stage turns) (length from.returned) (scripted from.script) live.0 (live_less from.stage
              (length from.returned)
              (scripted from.script) opens.live x.done);
          armed = armed_none (offered_stage turns) (d.begun y) v'.doing v'.armed live.1 (published_not (d.begun y) h.says.2)
              (law.stays_unarmed v h.op h.access h.got u.other u.none);
          op = published_op (d.begun y) v'.doing v'.shown (d.left y) h.says.2;
          few = x.few;
        };
        grows = record {
          offers = prefix_push (offers v.done) (offers v'.done) c offs;
          collects = prefix_same (collects v.done)
              (collects v'.done) (ap collects done);
        };
        acts = inr (Offer c, done);
        looked = subst (λ z. (Worked ≡ Slept) ↔ (z ≡ act.Asleep)) h.is_answer (no_sleep (act.Offered k) (λ z. cc z));
        slept = λ z. live.0;
        woken = not_woken h.op (act.Offered k) (λ z. cc z) ∙ ap (driver_woken h.op) h.is_answer;
        paid = omega (
          arith,
          h.left,
          published_owes (offered_stage turns) (d.begun y) v'.doing v'.shown (d.left y) h.says.2,
          owes_free from.hand (d.begun y) (d.left y) (owes (offered_stage turns) (d.begun y) v'.doing v'.shown (d.left y)) free,
          owes_free from.hand (d.begun from.end) (d.left from.end)
              (owes from.stage (d.begun from.end) v.doing v.shown (d.left from.end)) free,
          ap
              (λ z. owes from.stage z v.doing v.shown (d.left from.end)) h.says.1,
        );
      }

  -- the place in a run fits
  pub used_fits : (k : ℕ) → from.hand ≢ hand.Both → DriveOpens d l from v → IsDriverStep port d p q v from.end y (act.Offered k)
      → from.at.used + 1 < 4294967296
  used_fits k other opens h =
      let x = opens.drives in
      let c : List Piece = h.says.0 in
      let none = chains_at d.words from.script from.returned v.frame v.done from.stage
      (d.begun from.end) c from.hand h.says.1 other x.held in
      let t = at_offer (next_of d.words from.script from.at v.frame v.done) v.frame v.done c from.stage (subst
      (λ z. BegunIs from.stage z (next_of d.words from.script from.at v.frame v.done) v.frame v.done) h.says.1 x.begun) in
      let is : next_at from.script.runs from.at ≡ Some c = sym (next_is_chain d.words from.script from.at v.frame v.done none) ∙ t.1 in
      omega (arith, used_small from.script.runs from.at c x.settled is, x.few, scripted_chains from.script none)

  pub collected_at : (r' : List Return) (k len hd : ℕ) (t : Bool) → from.script.commands ≡ [] → DriveOpens d l from v
      → IsDriverStep port d p q v from.end y (act.Collected k len hd)
      → r' ≡ from.returned ++ record { number = k; len = len; ack = 0 } ∷ [] → t ≡ (length r' == scripted from.script)
      → IsDriveTurn port d l p q v from (put y from.script from.at from.offered r' (collected_stage t from.stage) from.hand) Worked
  collected_at r' k len hd t none opens h is_back is_done =
      let x = opens.drives in
      let z : HasOffered from.script from.at from.offered from.returned v.frame v.done = x.chained none in
      let free = free_of_chains d.words from.script from.returned v.frame v.done from.stage (d.begun from.end) from.hand none x.held in
      let v' : DriverView = d.side.after v h.op h.access h.got in
      let framed : v'.frame ≡ v.frame = law.framed v h.op h.access h.got in
      let said = says_collected k len hd (d.begun from.end) (d.begun y) v.frame v.done v'.done h.says in
      let done : v'.done ≡ Collect (entry k len ∷ []) ∷ v.done = said.done in
      let cols : collects v'.done ≡ collects v.done ++ entry k len ∷ [] = ap collects done in
      let shorter = length_without k (open_at v.done) (occurs_from k (open_at v.done) said.was_open) in
      let back : length from.returned ≡ length (collects v.done) = ap length z.returned ∙ length-map (collects v.done) as_return in
      let more : length r' ≡ length from.returned + 1 = ap length is_back ∙ length_push from.returned
      (record { number = k; len = len; ack = 0 }) in
      let many : length (offers v.done) ≡ from.offered = ap length z.offers ∙ length-take-le from.offered (chains from.script) z.some in
      let u = unarming from.stage (d.begun from.end) v.doing
      (next_of d.words from.script from.at v.frame v.done) v.frame v.done h.op v.armed (λ z. cc
      (z, said.begun)) (λ z. cc
      (z, said.begun)) x.begun h.of_it x.armed in
      let c = at_collect (next_of d.words from.script from.at v.frame v.done) v.frame v.done from.stage (subst
      (λ z. BegunIs from.stage z (next_of d.words from.script from.at v.frame v.done) v.frame v.done) said.begun x.begun) in
      record {
        op = h.op;
        access = h.access;
        got = h.got;
        was_next = h.was_next;
        moved = h.moved;
        drives = record {
          stands = h.now_stands;
          settled = x.settled;
          chained = λ e. record {
            left = z.left;
            offers = ap offers done ∙ z.offers;
            some = z.some;
            returned = is_back ∙ ap (λ z. z ++ record { number = k; len = len; ack = 0 } ∷ []) z.returned ∙ sym
                (map_push as_return (collects v.done) (entry k len)) ∙ ap (map as_return) (sym cols);
            fits = subst (λ (f : Frame). All (Fits f) (chains from.script)) (sym framed) z.fits;
            control = λ some. ap (λ (f : Frame). f.control) framed ∙ z.control some;
          };
          sent = λ some. absurd (some none);
          held = still_free d.words from.script r' v'.frame v'.done (collected_stage t from.stage) (d.begun y) from.hand free
              (omega (arith, more, back, ap length cols, length_push (collects v.done) (entry k len))) (λ some. absurd (some none));
          count = omega (
            arith,
            x.count,
            shorter,
            ap length cols,
            length_push (collects v.done) (entry k len),
            ap
                (λ (z : List DriverDone). length (offers z)) done,
            ap (λ (z : List DriverDone). length (open_at z)) done,
          );
          begun = subst (λ z. BegunIs (collected_stage t from.stage) z
              (next_of d.words from.script from.at v'.frame v'.done) v'.frame v'.done)
              (sym said.idle) (collected_begun t from.stage
              (next_of d.words from.script from.at v'.frame v'.done) v'.frame v'.done c);
          done = done_is t from.stage (length r') (scripted from.script) is_done opens.live (omega
              (arith, x.count, shorter, z.some, back, many, more, scripted_chains from.script none));
          armed = armed_none (collected_stage t from.stage) (d.begun y) v'.doing v'.armed (collected_awake t from.stage u.awake) (λ z. cc
              (z, said.idle))
              (law.stays_unarmed v h.op h.access h.got u.other u.none);
          op = subst (λ z. OpIs z v'.doing v'.shown (d.left y)) (sym said.idle) tt;
          few = x.few;
        };
        grows = record {
          offers = prefix_same (offers v.done) (offers v'.done) (ap offers done);
          collects = prefix_push (collects v.done)
              (collects v'.done) (entry k len) cols;
        };
        acts = inr (Collect (entry k len ∷ []), done);
        looked = subst (λ z. (Worked ≡ Slept) ↔ (z ≡ act.Asleep)) h.is_answer (no_sleep (act.Collected k len hd) (λ z. cc z));
        slept = λ z. absurd (cc z);
        woken = not_woken h.op (act.Collected k len hd) (λ z. cc z) ∙ ap (driver_woken h.op) h.is_answer;
        paid = omega (
          arith,
          more,
          idle_small (collected_stage t from.stage) v'.shown,
          owes_free from.hand (d.begun y) (d.left y) (owes (collected_stage t from.stage) (d.begun y) v'.doing v'.shown (d.left y)) free,
          ap
              (λ z. owes (collected_stage t from.stage) z v'.doing v'.shown (d.left y)) said.idle,
        );
      }

-- there is room for what came back
pub can_keep : {D : Type 0} {d : DriverModel D} {l : LayoutModel} {x : Driven D} {v : DriverView} → DriveOpens d l x v
    → length x.returned < scripted x.script
can_keep {x = x} opens = live_less x.stage (length x.returned) (scripted x.script) opens.live opens.drives.done

-- the count of chains or commands fits
pub count_fits : {D : Type 0} {d : DriverModel D} {l : LayoutModel} {x : Driven D} {v : DriverView} → DriveOpens d l x v
    → x.offered + 1 < 4294967296
count_fits {x = x} opens =
    let y = opens.drives in
    commands_or x.script (λ none. omega (arith, (y.chained none).some, y.few, scripted_chains x.script none))
    (λ some. omega (arith, (y.sent some).offered, (y.sent some).sent.some, y.few, scripted_commands x.script some))
