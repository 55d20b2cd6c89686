-- What each access of a model guest's commands leaves: the stores of a command's words, its offer, its collect, and the load of its ack.
use Rattle.std.proofs.Common.{◌≡◌, ◌≢◌, ◌⊎◌, ◌↔◌, ◌==◌, ◌%◌, ℕ, ◌*◌, ◌+◌, ◌<◌, ◌≤◌, Bool, true, false, Option, Some, None, List, [], ◌∷◌, ◌++◌, length, slice_get, refl, sym, ◌∙◌, ap, subst, arith, inl, inr}
use Rattle.std.specs.Option.{option_map}
use Rattle.std.proofs.lemmas.List.{length_push, length-map}
use Rattle.vd_model.specs.declared.chain.Piece.{Piece}
use Rattle.vd_model.specs.declared.record.Return.{Return}
use Rattle.vd_model.specs.declared.record.Script.{Script}
use Rattle.vd_words.specs.declared.access.Access.{Access}
use Rattle.vd_words.specs.declared.access.Access.TheVariants.{Load, Store}
use Rattle.vd_words.specs.declared.access.Op.TheVariants as op
use Rattle.vd_words.specs.Model.{PortModel}
use Rattle.vd_ring.specs.declared.act.DriverAct.TheVariants as act
use Rattle.vd_ring.specs.declared.driver.DriverDone.{DriverDone}
use Rattle.vd_ring.specs.declared.driver.DriverDone.TheVariants.{Offer, Collect, StoreCommand, LoadAck}
use Rattle.vd_ring.specs.declared.driver.DriverNow.TheVariants as now
use Rattle.vd_ring.specs.declared.driver.DriverView.{DriverView}
use Rattle.vd_ring.specs.declared.frame.Frame.{Frame}
use Rattle.vd_ring.specs.Control.{StoresCommand, LoadsAck}
use Rattle.vd_ring.specs.History.{entry, offers, collects, open_at, next_head, head}
use Rattle.vd_ring.specs.Places.{Places}
use Rattle.vd_ring.specs.Sleep.{driver_woken}
use Rattle.vd_layout.proofs.OnePair.{says_collected}
use Rattle.vd_layout.specs.Begun.{DriverOp, DriverPublished}
use Rattle.vd_layout.specs.Control.{ControlWords}
use Rattle.vd_layout.specs.Driver.{DriverModel, IsDriverStep, IsLawfulDriver}
use Rattle.vd_layout.specs.Layout.{LayoutModel}
use Rattle.vd_commands.specs.Words.{command_word}
use Rattle.vd_bus.specs.GuestCommands.{command_chain, HasCommands, HasSent, AreAcked}
use Rattle.vd_models.specs.declared.counts.Turn.TheVariants.{Worked, Slept}
use Rattle.vd_models.specs.declared.driving.GuestStage.{GuestStage}
use Rattle.vd_models.specs.declared.driving.GuestStage.TheVariants as stage
use Rattle.vd_models.specs.declared.pending.Pending.{Pending}
use Rattle.vd_models.specs.declared.pending.Pending.TheVariants as hand
use Rattle.vd_models.specs.GuestStages.{BegunIs, ArmedIs, OpIs, is_done, idle_owes, collect_owes, owes, offered_stage, collected_stage}
use Rattle.vd_models.specs.Pending.{HandIs, IsInHand, IsNoOffer, IsOffering, IsTurnToCollect, hand_owes, offer_owes}
use Rattle.vd_models.specs.Driving.{Driven, Drives, DriveOpens, IsDriveTurn, IsSent, command_next, next_of, owes_at, scripted}
use Rattle.vd_models.proofs.GuestGoing.{at_offer, at_collect, unarming, armed_none, idle_small, collect_small, published_owes, published_op, published_not}
use Rattle.vd_models.proofs.Lists.{prefix_same, prefix_push}
use Rattle.vd_models.proofs.Drives.{not_woken, no_sleep, live_less, less_live, done_is, free_at, all_back, owes_free}
use Rattle.vd_models.specs.laws.Scripted.{next_is_command, scripted_commands}
use Rattle.vd_models.proofs.GuestPassing.{put, offered_begun, offered_live, collected_begun, collected_awake, no_offer_published}
use Rattle.vd_models.proofs.Sends.{sent_stored, sent_loaded, sent_collected, sent_offered, acked_stored, acked_offered, acked_collected, acked_loaded, hand_first, hand_both, used_last}

first_owed : (shown : Bool) → 40 ≤ idle_owes stage.Offering shown
first_owed true = omega arith
first_owed false = omega arith

turns_to : (st : GuestStage) → IsTurnToCollect st → ((st ≡ stage.Offering) × Unit {0}) ⊎ (st ≡ stage.Collecting)
turns_to stage.Offering h = inl (refl, tt)
turns_to stage.Collecting h = inr refl
turns_to stage.Arming h = absurd h
turns_to stage.Hearing h = absurd h
turns_to stage.Done h = absurd h

turn_of : {A : Type 0} (st : GuestStage) → (((st ≡ stage.Offering) × A) ⊎ (st ≡ stage.Collecting)) → IsTurnToCollect st
turn_of st (inl h) = subst (λ (z : GuestStage). IsTurnToCollect z) (sym h.0) tt
turn_of st (inr h) = subst (λ (z : GuestStage). IsTurnToCollect z) (sym h) tt

turn_awake : (st : GuestStage) → IsTurnToCollect st → st ≢ stage.Hearing
turn_awake st h e = subst (λ (z : GuestStage). IsTurnToCollect z) e h

turn_unarmed : (st : GuestStage) (b : DriverOp) (d : Rattle.vd_ring.specs.declared.driver.DriverNow.DriverNow) (a : Option ℕ)
    → IsTurnToCollect st → ArmedIs st b d a → a ≡ None
turn_unarmed stage.Offering b d a h x = x
turn_unarmed stage.Collecting b d a h x = x
turn_unarmed stage.Arming b d a h x = absurd h
turn_unarmed stage.Hearing b d a h x = absurd h
turn_unarmed stage.Done b d a h x = absurd h

owed_free : {D : Type 0} (d : DriverModel D) (x : Driven D) (v : DriverView) → x.hand ≡ hand.Free → d.begun x.end ≡ DriverOp.idle
    → x.stage ≡ stage.Offering → 40 ≤ owes_at d x v
owed_free d x v free idle offering = omega (
  arith,
  first_owed v.shown,
  owes_free x.hand (d.begun x.end) (d.left x.end) (owes x.stage (d.begun x.end) v.doing v.shown (d.left x.end)) free,
  ap (λ b. owes x.stage b v.doing v.shown (d.left x.end)) idle,
  ap (λ (st : GuestStage). idle_owes st v.shown) offering,
)

module _ {P D : Type 0} {port : PortModel P} {d : DriverModel D} {l : LayoutModel} (law : IsLawfulDriver d) (from : Driven D) {p q : P}
    {v : DriverView} where
  module _ (opens : DriveOpens d l from v) (a : Access) (r : ℕ) (next : d.side.next v op.Control a) (moved : port.moves p op.Control a r q)
      (idle : d.begun from.end ≡ DriverOp.idle) where
    -- a control access that left the view z, by which one more act is known
    control_turn : (z : DriverView) (b : DriverDone) → d.side.after v op.Control a r ≡ z → z.done ≡ b ∷ v.done
        → offers z.done ≡ offers v.done → collects z.done ≡ collects v.done
        → (st' : GuestStage) (rs' : List Return) (h' : Pending)
        → (d.stands from.end z → Drives d l (put from.end from.script from.at from.offered rs' st' h') z)
        → owes_at d (put from.end from.script from.at from.offered rs' st' h') z + 1 + 64 * length from.returned
        ≤ owes_at d from v + 64 * length rs'
        → IsDriveTurn port d l p q v from (put from.end from.script from.at from.offered rs' st' h') Worked
    control_turn z b is done same_offers same_collects st' rs' h' drives paid =
        let y : Driven D = put from.end from.script from.at from.offered rs' st' h' in
        let stands : d.stands from.end z = subst (λ (u : DriverView). d.stands from.end u) is
        (law.control from.end v a r opens.drives.stands next) in
        let after : DriverView = d.side.after v op.Control a r in
        let dones : after.done ≡ z.done = ap (λ (u : DriverView). u.done) is in
        record {
          op = op.Control;
          access = a;
          got = r;
          was_next = next;
          moved = moved;
          drives = subst (λ (u : DriverView). Drives d l y u) (sym is) (drives stands);
          grows = record {
            offers = prefix_same (offers v.done) (offers after.done) (ap offers dones ∙ same_offers);
            collects = prefix_same (collects v.done) (collects after.done) (ap collects dones ∙ same_collects);
          };
          acts = inr (b, dones ∙ done);
          looked = (
            (λ e. absurd (cc e)),
            λ e. absurd (cc ((law.looks.asleep v op.Control a r next).0 e).0),
          );
          slept = λ e. absurd (cc e);
          woken = refl;
          paid = omega (arith, paid, ap (λ (u : DriverView). owes_at d y u) is);
        }

  -- a store of a word of the next command
  stored : (opens : DriveOpens d l from v) (n : ℕ) (x r place : ℕ) → d.begun from.end ≡ DriverOp.idle → from.stage ≡ stage.Offering
      → HasCommands from.script → length from.returned ≡ length (collects v.done)
      → (s : StoresCommand v.frame (d.words.command v.frame) v.done place) → port.moves p op.Control (Store place x) r q → (h' : Pending)
      → HandIs d.words from.script from.returned v.frame (StoreCommand (next_head v.frame v.done) s.half x ∷ v.done) from.stage
      (d.begun from.end) h'
      → ((b : DriverOp) → b ≡ DriverOp.idle → (k m : ℕ) → hand_owes h' b k m ≡ n) → n + 1 ≤ owes_at d from v
      → IsDriveTurn port d l p q v from (put from.end from.script from.at from.offered from.returned from.stage h') Worked
  stored opens n x r place idle offering some back s moved h' held owed paid =
      let y = opens.drives in
      let rests : v.doing ≡ now.Idle = law.at_rest from.end v y.stands idle in
      let g : ℕ = next_head v.frame v.done in
      let o : List DriverDone = StoreCommand g s.half x ∷ v.done in
      let z : DriverView = record v {
        done = StoreCommand (next_head v.frame v.done) s.half x ∷ v.done;
        stored = Rattle.std.proofs.Common.slice_set v.stored place x;
      } in
      let is : d.side.after v op.Control (Store place x) r ≡ z = law.controls.stored v place x r rests s in
      let c : IsSent d.words l from.script from.offered from.returned v.frame v.done = y.sent some in
      control_turn opens (Store place x) r ((law.controls.stores v place x).1 (rests, s)) moved idle z
      (StoreCommand g s.half x) is refl refl
      refl from.stage from.returned h'
      (λ stands. record {
        stands = stands;
        settled = y.settled;
        chained = λ none. absurd (some none);
        sent = λ e. record {
          sent = sent_stored d.words from.script v.frame v.done g s.half x c.sent;
          acked = acked_stored v.done from.returned g s.half x c.acked;
          offered = c.offered;
          ring = c.ring;
          plain = c.plain;
        };
        held = held;
        count = y.count;
        begun = subst (λ (st : GuestStage). BegunIs st (d.begun from.end) (next_of d.words from.script from.at v.frame o) v.frame o)
            (sym offering) (subst (λ b. BegunIs stage.Offering b (next_of d.words from.script from.at v.frame o) v.frame o) (sym idle) tt);
        done = y.done;
        armed = y.armed;
        op = y.op;
        few = y.few;
      })
      (omega (
        arith,
        paid,
        owed (d.begun from.end) idle (d.left from.end) (owes from.stage (d.begun from.end) v.doing v.shown (d.left from.end)),
      ))

  -- the store of the first word
  pub first_at : (opens : DriveOpens d l from v) (x r place : ℕ) → d.begun from.end ≡ DriverOp.idle → from.stage ≡ stage.Offering
      → from.hand ≡ hand.Free → HasCommands from.script
      → (h : IsInHand d.words from.script v.frame v.done 0) → x ≡ command_word h.bytes 0
      → (s : StoresCommand v.frame (d.words.command v.frame) v.done place) → s.half ≡ 0
      → port.moves p op.Control (Store place x) r q
      → IsDriveTurn port d l p q v from (put from.end from.script from.at from.offered from.returned from.stage hand.First) Worked
  first_at opens x r place idle offering free some h word s zero moved =
      let back = all_back d.words from.script from.returned v.frame v.done from.stage (d.begun from.end) from.hand free opens.drives.held in
      stored opens 39 x r place idle offering some back s moved hand.First (
        record {
          some = some;
          back = back;
          stage = offering;
          held = subst (λ i. IsInHand d.words from.script v.frame (StoreCommand (next_head v.frame v.done) i x ∷ v.done) 1) (sym zero)
              (hand_first d.words from.script v.frame v.done x h word);
        },
        idle,
      )
      (λ b e k m. refl) (owed_free d from v free idle offering)

  -- and of the second
  pub second_at : (opens : DriveOpens d l from v) (x r place : ℕ) → from.hand ≡ hand.First
      → (h : IsInHand d.words from.script v.frame v.done 1) → x ≡ command_word h.bytes 1
      → (s : StoresCommand v.frame (d.words.command v.frame) v.done place) → s.half ≡ 1
      → port.moves p op.Control (Store place x) r q
      → IsDriveTurn port d l p q v from (put from.end from.script from.at from.offered from.returned from.stage hand.Both) Worked
  second_at opens x r place first h word s one moved =
      let held = subst (λ (z : Pending). HandIs d.words from.script from.returned v.frame v.done from.stage (d.begun from.end) z) first
      opens.drives.held in
      stored opens 38 x r place held.1 held.0.stage held.0.some held.0.back s moved hand.Both (
        record {
          some = held.0.some;
          back = held.0.back;
          stage = held.0.stage;
          held = subst (λ i. IsInHand d.words from.script v.frame (StoreCommand (next_head v.frame v.done) i x ∷ v.done) 2) (sym one)
              (hand_both d.words from.script v.frame v.done x h word);
        },
        subst (λ b. IsOffering b) (sym held.1) tt,
      )
      (λ b e k m. ap (λ z. offer_owes z k) e)
      (omega (
        arith,
        ap (λ (z : Pending). hand_owes z (d.begun from.end) (d.left from.end)
            (owes from.stage (d.begun from.end) v.doing v.shown (d.left from.end))) first,
      ))

  -- the load of an ack
  pub acked_at : (opens : DriveOpens d l from v) (n k h r place : ℕ) (t : Bool) → from.hand ≡ hand.Ack n k h
      → place ≡ d.words.ack v.frame h → (rs' : List Return)
      → rs' ≡ from.returned ++ record { number = n; len = k; ack = r % 256 } ∷ [] → t ≡ (length rs' == scripted from.script)
      → port.moves p op.Control (Load place) r q
      → IsDriveTurn port d l p q v from (put from.end from.script from.at from.offered rs' (collected_stage t from.stage) hand.Free) Worked
  acked_at opens n k h r place t ack at rs' back all moved =
      let y = opens.drives in
      let held = subst (λ (z : Pending). HandIs d.words from.script from.returned v.frame v.done from.stage
      (d.begun from.end) z) ack y.held in
      let x = held.0 in
      let idle = held.1 in
      let rests : v.doing ≡ now.Idle = law.at_rest from.end v y.stands idle in
      let c : IsSent d.words l from.script from.offered from.returned v.frame v.done = y.sent x.some in
      let places = law.places from.end v y.stands in
      let s : LoadsAck v.frame (d.words.ack v.frame) v.done place = record {
        control = c.ring.control;
        number = n;
        last = x.last;
        place = at ∙ ap (d.words.ack v.frame) x.is_head;
      } in
      let o : List DriverDone = LoadAck n r ∷ v.done in
      let z : DriverView = record v { done = LoadAck n r ∷ v.done } in
      let is : d.side.after v op.Control (Load place) r ≡ z = law.controls.loaded v place r rests s in
      let more : length rs' ≡ length from.returned + 1 = ap length back ∙ length_push from.returned
      (record { number = n; len = k; ack = r % 256 }) in
      let many : scripted from.script ≡ length from.script.commands = scripted_commands from.script x.some in
      let st : GuestStage = collected_stage t from.stage in
      let none : v.armed ≡ None = turn_unarmed from.stage (d.begun from.end) v.doing v.armed x.stage y.armed in
      control_turn opens (Load place) r ((law.controls.loads v place).1 (rests, s)) moved idle z (LoadAck n r) is refl refl refl
      st rs' hand.Free
      (λ stands. record {
        stands = stands;
        settled = y.settled;
        chained = λ none. absurd (x.some none);
        sent = λ e. record {
          sent = sent_loaded d.words from.script v.frame v.done n r c.sent;
          acked = subst (λ (rs : List Return). AreAcked o rs) (sym back)
              (acked_loaded v.frame v.done from.returned n k r places x.is x.more c.acked);
          offered = c.offered;
          ring = c.ring;
          plain = c.plain;
        };
        held = (omega (arith, more, x.more), λ e. subst (λ b. IsNoOffer b) (sym idle) tt);
        count = y.count;
        begun = subst (λ b. BegunIs st b (next_of d.words from.script from.at v.frame o) v.frame o) (sym idle)
            (collected_begun t from.stage (next_of d.words from.script from.at v.frame o) v.frame o (turns_to from.stage x.stage));
        done = done_is t from.stage (length rs') (scripted from.script) all opens.live
            (omega (arith, more, x.more, y.count, c.sent.some, many));
        armed = armed_none st (d.begun from.end) v.doing v.armed (collected_awake t from.stage (turn_awake from.stage x.stage))
            (λ e. cc (e, idle)) none;
        op = subst (λ b. OpIs b v.doing v.shown (d.left from.end)) (sym idle) tt;
        few = y.few;
      })
      (omega (
        arith,
        more,
        idle_small st v.shown,
        ap (λ b. owes st b v.doing v.shown (d.left from.end)) idle,
        ap (λ (z : Pending). hand_owes z (d.begun from.end) (d.left from.end)
            (owes from.stage (d.begun from.end) v.doing v.shown (d.left from.end))) ack,
      ))

  module _ {y : D} where
    -- the offer
    pub sent_at : (k : ℕ) (turns : Bool) → from.hand ≡ hand.Both → DriveOpens d l from v
        → IsDriverStep port d p q v from.end y (act.Offered k)
        → IsDriveTurn port d l p q v from (put y from.script from.at (from.offered + 1) from.returned
        (offered_stage turns) hand.Free) Worked
    sent_at k turns both opens h =
        let x = opens.drives in
        let c : List Piece = h.says.0 in
        let v' : DriverView = d.side.after v h.op h.access h.got in
        let framed : v'.frame ≡ v.frame = law.framed v h.op h.access h.got in
        let done : v'.done ≡ Offer c ∷ v.done = h.says.4 in
        let held = subst (λ (z : Pending). HandIs d.words from.script from.returned v.frame v.done from.stage (d.begun from.end) z) both
        x.held in
        let some = held.0.some in
        let s : IsSent d.words l from.script from.offered from.returned v.frame v.done = x.sent some in
        let next = next_of d.words from.script from.at v.frame v.done in
        let t = at_offer next v.frame v.done c from.stage (subst (λ z. BegunIs from.stage z next v.frame v.done) h.says.1 x.begun) in
        let u = unarming from.stage (d.begun from.end) v.doing next v.frame v.done h.op v.armed (λ z. cc (z, h.says.1))
        (λ z. cc (z, h.says.1)) x.begun h.of_it x.armed in
        let is : c ≡ command_chain d.words v.frame (next_head v.frame v.done) held.0.held.bytes = same_chain
        (command_chain d.words v.frame (next_head v.frame v.done) held.0.held.bytes) c
        (ap (option_map (command_chain d.words v.frame (next_head v.frame v.done))) (sym held.0.held.next)
        ∙ sym (next_is_command d.words from.script from.at v.frame v.done some) ∙ t.1) in
        let places = law.places from.end v x.stands in
        let offs : offers v'.done ≡ offers v.done ++ c ∷ [] = ap offers done in
        let live = offered_live turns in
        let on : (Q : Frame → List DriverDone → Type 0) → Q v.frame (Offer c ∷ v.done) → Q v'.frame v'.done =
        λ Q z. subst (λ (f : Frame). Q f v'.done) (sym framed) (subst (λ (o : List DriverDone). Q v.frame o) (sym done) z) in
        record {
          op = h.op;
          access = h.access;
          got = h.got;
          was_next = h.was_next;
          moved = h.moved;
          drives = record {
            stands = h.now_stands;
            settled = x.settled;
            chained = λ none. absurd (some none);
            sent = λ e. on (λ f o. IsSent d.words l from.script (from.offered + 1) from.returned f o) (record {
              sent = sent_offered d.words from.script v.frame v.done c places h.says.5.fits held.0.held is s.sent;
              acked = acked_offered v.done from.returned c s.acked;
              offered = omega (arith, s.offered, length_push (offers v.done) c);
              ring = s.ring;
              plain = s.plain;
            });
            held = (
              held.0.back ∙ sym (ap (λ (z : List DriverDone). length (collects z)) done),
              λ e. no_offer_published
                  (d.begun y) h.says.2,
            );
            count = (law.places y v' h.now_stands).count;
            begun = offered_begun turns (d.begun y) (next_of d.words from.script from.at v'.frame v'.done) v'.frame v'.done h.says.2;
            done = less_live (offered_stage turns) (length from.returned) (scripted from.script) live.0 (live_less from.stage
                (length from.returned) (scripted from.script) opens.live x.done);
            armed = armed_none (offered_stage turns) (d.begun y) v'.doing v'.armed live.1 (published_not (d.begun y) h.says.2)
                (law.stays_unarmed v h.op h.access h.got u.other u.none);
            op = published_op (d.begun y) v'.doing v'.shown (d.left y) h.says.2;
            few = x.few;
          };
          grows = record {
            offers = prefix_push (offers v.done) (offers v'.done) c offs;
            collects = prefix_same (collects v.done) (collects v'.done) (ap collects done);
          };
          acts = inr (Offer c, done);
          looked = subst (λ z. (Worked ≡ Slept) ↔ (z ≡ act.Asleep)) h.is_answer (no_sleep (act.Offered k) (λ z. cc z));
          slept = λ z. live.0;
          woken = not_woken h.op (act.Offered k) (λ z. cc z) ∙ ap (driver_woken h.op) h.is_answer;
          paid = omega (
            arith,
            h.left,
            published_owes (offered_stage turns) (d.begun y) v'.doing v'.shown (d.left y) h.says.2,
            ap (λ (z : Pending). hand_owes z (d.begun from.end) (d.left from.end)
                (owes from.stage (d.begun from.end) v.doing v.shown (d.left from.end))) both,
            ap (λ z. offer_owes z (d.left from.end)) h.says.1,
          );
        }
      where
        same_chain : (a b : List Piece) → ◌≡◌ {A = Option (List Piece)} (Some a) (Some b) → b ≡ a
        same_chain a b e = cc e

    -- the collect
    pub received_at : (k len hd : ℕ) → HasCommands from.script → DriveOpens d l from v
        → IsDriverStep port d p q v from.end y (act.Collected k len hd)
        → IsDriveTurn port d l p q v from (put y from.script from.at from.offered from.returned from.stage (hand.Ack k len hd)) Worked
    received_at k len hd some opens h =
        let x = opens.drives in
        let v' : DriverView = d.side.after v h.op h.access h.got in
        let framed : v'.frame ≡ v.frame = law.framed v h.op h.access h.got in
        let said = says_collected k len hd (d.begun from.end) (d.begun y) v.frame v.done v'.done h.says in
        let done : v'.done ≡ Collect (entry k len ∷ []) ∷ v.done = said.done in
        let next = next_of d.words from.script from.at v.frame v.done in
        let free = free_at d.words from.script from.returned v.frame v.done from.stage DriverOp.collect from.hand (λ z. cc z) tt
        (subst (λ z. HandIs d.words from.script from.returned v.frame v.done from.stage z from.hand) said.begun x.held) in
        let back = all_back d.words from.script from.returned v.frame v.done from.stage (d.begun from.end) from.hand free x.held in
        let s : IsSent d.words l from.script from.offered from.returned v.frame v.done = x.sent some in
        let u = unarming from.stage (d.begun from.end) v.doing next v.frame v.done h.op v.armed (λ z. cc (z, said.begun))
        (λ z. cc (z, said.begun)) x.begun h.of_it x.armed in
        let c = at_collect next v.frame v.done from.stage (subst (λ z. BegunIs from.stage z next v.frame v.done) said.begun x.begun) in
        let cols : collects v'.done ≡ collects v.done ++ entry k len ∷ [] = ap collects done in
        let few : d.left from.end ≤ 3 = (subst (λ b. OpIs b v.doing v.shown (d.left from.end)) said.begun x.op).1 in
        let o : List DriverDone = Collect (entry k len ∷ []) ∷ v.done in
        let on : (Q : Frame → List DriverDone → Type 0) → Q v.frame o → Q v'.frame v'.done =
        λ Q z. subst (λ (f : Frame). Q f v'.done) (sym framed) (subst (λ (o : List DriverDone). Q v.frame o) (sym done) z) in
        record {
          op = h.op;
          access = h.access;
          got = h.got;
          was_next = h.was_next;
          moved = h.moved;
          drives = record {
            stands = h.now_stands;
            settled = x.settled;
            chained = λ none. absurd (some none);
            sent = λ e. on (λ f o. IsSent d.words l from.script from.offered from.returned f o) (record {
              sent = sent_collected d.words from.script v.frame v.done (entry k len) s.sent;
              acked = acked_collected v.done from.returned (entry k len) back s.acked;
              offered = s.offered;
              ring = s.ring;
              plain = s.plain;
            });
            held = on (λ f o. HandIs d.words from.script from.returned f o from.stage (d.begun y) (hand.Ack k len hd)) (
              record {
                some = some;
                stage = turn_of from.stage c;
                last = refl;
                is = used_last (collects v.done) (entry k len) (length from.returned) back;
                more = omega (arith, length_push (collects v.done) (entry k len), back);
                is_head = said.is_head;
              },
              said.idle,
            );
            count = (law.places y v' h.now_stands).count;
            begun = subst (λ z. BegunIs from.stage z (next_of d.words from.script from.at v'.frame v'.done) v'.frame v'.done)
                (sym said.idle)
                (collected_begun false from.stage (next_of d.words from.script from.at v'.frame v'.done) v'.frame v'.done c);
            done = x.done;
            armed = armed_none from.stage (d.begun y) v'.doing v'.armed u.awake (λ z. cc (z, said.idle))
                (law.stays_unarmed v h.op h.access h.got u.other u.none);
            op = subst (λ z. OpIs z v'.doing v'.shown (d.left y)) (sym said.idle) tt;
            few = x.few;
          };
          grows = record {
            offers = prefix_same (offers v.done) (offers v'.done) (ap offers done);
            collects = prefix_push (collects v.done) (collects v'.done) (entry k len) cols;
          };
          acts = inr (Collect (entry k len ∷ []), done);
          looked = subst (λ z. (Worked ≡ Slept) ↔ (z ≡ act.Asleep)) h.is_answer (no_sleep (act.Collected k len hd) (λ z. cc z));
          slept = λ z. opens.live;
          woken = not_woken h.op (act.Collected k len hd) (λ z. cc z) ∙ ap (driver_woken h.op) h.is_answer;
          paid = omega (
            arith,
            h.left,
            collect_small from.stage v.shown (d.left from.end) few,
            owes_free from.hand (d.begun from.end) (d.left from.end)
                (owes from.stage (d.begun from.end) v.doing v.shown (d.left from.end)) free,
            ap (λ z. owes from.stage z v.doing v.shown (d.left from.end)) said.begun,
          );
        }
