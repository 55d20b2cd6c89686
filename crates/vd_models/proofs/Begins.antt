-- What the begin of an operation leaves of a model guest.
use Rattle.std.proofs.Common.{◌≡◌, ◌≢◌, ◌⊎◌, ℕ, ◌+◌, ◌<◌, ◌≤◌, Bool, true, false, Option, Some, None, List, [], length, slice_get, refl, sym, ◌∙◌, ap, subst, arith, inl, inr}
use Rattle.std.specs.Option.{option_map}
use Rattle.vd_model.specs.declared.chain.Piece.{Piece}
use Rattle.vd_model.specs.declared.record.Return.{Return}
use Rattle.vd_model.specs.declared.record.Script.{Script}
use Rattle.vd_words.specs.declared.access.Op.TheVariants as op
use Rattle.vd_ring.specs.declared.driver.DriverDone.{DriverDone}
use Rattle.vd_ring.specs.declared.driver.DriverNow.{DriverNow}
use Rattle.vd_ring.specs.declared.driver.DriverNow.TheVariants as now
use Rattle.vd_ring.specs.declared.driver.DriverView.{DriverView}
use Rattle.vd_ring.specs.declared.frame.Frame.{Frame}
use Rattle.vd_ring.specs.History.{offers, collects, next_head}
use Rattle.vd_layout.specs.Begun.{DriverOp}
use Rattle.vd_layout.specs.Control.{ControlWords}
use Rattle.vd_layout.specs.Driver.{DriverModel, IsLawfulDriver, HasRoom}
use Rattle.vd_layout.specs.Layout.{LayoutModel}
use Rattle.vd_bus.specs.GuestCommands.{commands, command_chain, HasCommands, CannotSend}
use Rattle.vd_models.specs.declared.driving.GuestStage.{GuestStage}
use Rattle.vd_models.specs.declared.driving.GuestStage.TheVariants as stage
use Rattle.vd_models.specs.declared.pending.Pending.{Pending}
use Rattle.vd_models.specs.declared.pending.Pending.TheVariants as hand
use Rattle.vd_models.specs.Cursors.{next_at}
use Rattle.vd_models.specs.GuestStages.{BegunIs, ArmedIs, OpIs, IsStuck, idle_owes, collect_owes, hear_owes, owes}
use Rattle.vd_models.specs.Pending.{HandIs, IsNoOffer, IsOffering, hand_owes, offer_owes}
use Rattle.vd_models.specs.Driving.{Driven, Drives, DriveOpens, BeginsDrive, command_next, next_of, owes_at}
use Rattle.vd_models.specs.Sending.{IsDue, DueIs}
use Rattle.vd_models.proofs.Drives.{to, still_free, all_back, owes_free}
use Rattle.vd_models.proofs.Offering.{begins, offer_small}
use Rattle.vd_models.specs.laws.Scripted.{next_is_chain}

-- a script of chains has nothing in hand
pub free_of_chains : (words : ControlWords) (s : Script) (rs : List Return) (f : Frame) (o : List DriverDone) (st : GuestStage)
    (b : DriverOp) (h : Pending) → s.commands ≡ [] → HandIs words s rs f o st b h → h ≡ hand.Free
free_of_chains words s rs f o st b hand.Free none h = refl
free_of_chains words s rs f o st b hand.First none h = absurd (h.0.some none)
free_of_chains words s rs f o st b hand.Both none h = absurd (h.0.some none)
free_of_chains words s rs f o st b (hand.Ack n k g) none h = absurd (h.0.some none)

-- where no access of a command or ack word comes next, and both words of the next command aren't in hand, nothing is
pub free_now : {D : Type 0} (d : DriverModel D) (x : Driven D) (v : DriverView) (h : Pending) → DueIs d x v h None → h ≢ hand.Both
    → h ≡ hand.Free
free_now d x v hand.Free due other = refl
free_now d x v hand.First due other = absurd due
free_now d x v hand.Both due other = absurd (other refl)
free_now d x v (hand.Ack n k g) due other = absurd due

pub both_offers : (words : ControlWords) (s : Script) (rs : List Return) (f : Frame) (o : List DriverDone) (st : GuestStage)
    (b : DriverOp) (h : Pending) → st ≢ stage.Offering → HandIs words s rs f o st b h → h ≢ hand.Both
both_offers words s rs f o st b hand.Free other h e = cc e
both_offers words s rs f o st b hand.First other h e = cc e
both_offers words s rs f o st b hand.Both other h e = other h.0.stage
both_offers words s rs f o st b (hand.Ack n k g) other h e = cc e

collect_less : (shown : Bool) (left : ℕ) → left ≤ 3 → collect_owes stage.Offering shown left ≤ idle_owes stage.Offering shown
collect_less true left few = omega arith
collect_less false left few = omega arith

turn_less : (shown : Bool) (left : ℕ) → left ≤ 3 → collect_owes stage.Collecting shown left ≤ idle_owes stage.Collecting shown
turn_less true left few = omega arith
turn_less false left few = omega arith

-- no command can be sent
stuck_of : (words : ControlWords) (s : Script) (f : Frame) (o : List DriverDone) (next : Option (List ℕ))
    → slice_get (commands s) (length (offers o)) ≡ next → CannotSend words s f o
    → IsStuck (option_map (command_chain words f (next_head f o)) next) f o
stuck_of words s f o None is cannot = tt
stuck_of words s f o (Some bytes) is cannot = cannot bytes is

pub stuck_command : (words : ControlWords) (s : Script) (f : Frame) (o : List DriverDone) → CannotSend words s f o
    → IsStuck (command_next words s f o) f o
stuck_command words s f o cannot = stuck_of words s f o (slice_get (commands s) (length (offers o))) refl cannot

-- no chain is left, or it has no room
pub stuck_chain : (next : Option (List Piece)) (f : Frame) (o : List DriverDone)
    → ((c : List Piece) → next ≡ Some c → HasRoom f o c → ⊥) → IsStuck next f o
stuck_chain None f o cannot = tt
stuck_chain (Some c) f o cannot = cannot c refl

module _ {D : Type 0} (d : DriverModel D) (l : LayoutModel) (law : IsLawfulDriver d) (x : Driven D) (e : D) (v : DriverView)
    (h : DriveOpens d l x v) (idle : d.begun x.end ≡ DriverOp.idle) where
  rests : v.doing ≡ now.Idle
  rests = law.at_rest x.end v h.drives.stands idle

  idle_owed : x.hand ≡ hand.Free → owes_at d x v ≡ idle_owes x.stage v.shown
  idle_owed free = owes_free x.hand (d.begun x.end) (d.left x.end) (owes x.stage (d.begun x.end) v.doing v.shown (d.left x.end)) free
      ∙ ap (λ o. owes x.stage o v.doing v.shown (d.left x.end)) idle

  owed_by : (b : DriverOp) → x.hand ≡ hand.Free → d.begun e ≡ b → owes_at d (to x e x.stage) v ≡ owes x.stage b v.doing v.shown (d.left e)
  owed_by b free is = owes_free x.hand (d.begun e) (d.left e) (owes x.stage (d.begun e) v.doing v.shown (d.left e)) free
      ∙ ap (λ o. owes x.stage o v.doing v.shown (d.left e)) is

  armed_idle : (st : GuestStage) → x.stage ≡ st → ArmedIs st DriverOp.idle v.doing v.armed
  armed_idle st is = subst (λ o. ArmedIs st o v.doing v.armed) idle (subst
      (λ (z : GuestStage). ArmedIs z (d.begun x.end) v.doing v.armed) is h.drives.armed)

  begun_idle : (st : GuestStage) → x.stage ≡ st
      → BegunIs st DriverOp.idle (next_of d.words x.script x.at v.frame v.done) v.frame v.done
  begun_idle st is = subst (λ o. BegunIs st o (next_of d.words x.script x.at v.frame v.done) v.frame v.done) idle (subst
      (λ (z : GuestStage). BegunIs z (d.begun x.end) (next_of d.words x.script x.at v.frame v.done) v.frame v.done) is h.drives.begun)

  -- with nothing in hand
  with_free : (st : GuestStage) (b : DriverOp) → x.stage ≡ st → x.hand ≡ hand.Free → d.begun e ≡ b → d.stands e v
      → (HasCommands x.script → IsNoOffer b) → BegunIs st b (next_of d.words x.script x.at v.frame v.done) v.frame v.done
      → ArmedIs st b v.doing v.armed → OpIs b v.doing v.shown (d.left e)
      → owes st b v.doing v.shown (d.left e) ≤ idle_owes st v.shown → BeginsDrive d l v x (to x e x.stage)
  with_free st b is free begun stands other goes armed op less =
      begins d l x e v h stands
      (still_free d.words x.script x.returned v.frame v.done x.stage (d.begun e) x.hand free
      (all_back d.words x.script x.returned v.frame v.done x.stage (d.begun x.end) x.hand free h.drives.held)
      (λ some. subst (λ z. IsNoOffer z) (sym begun) (other some)))
      (subst (λ (z : GuestStage). BegunIs z (d.begun e) (next_of d.words x.script x.at v.frame v.done) v.frame v.done) (sym is) (subst
      (λ o. BegunIs st o (next_of d.words x.script x.at v.frame v.done) v.frame v.done) (sym begun) goes))
      (subst (λ (z : GuestStage). ArmedIs z (d.begun e) v.doing v.armed) (sym is) (subst (λ o. ArmedIs st o v.doing v.armed)
      (sym begun) armed))
      (subst (λ o. OpIs o v.doing v.shown (d.left e)) (sym begun) op)
      (omega (
        arith,
        less,
        idle_owed free,
        owed_by b free begun,
        ap (λ (z : GuestStage). idle_owes z v.shown) is,
        ap (λ (z : GuestStage). owes z b v.doing v.shown (d.left e)) is,
      ))

  pub begins_chain : (c : List Piece) → x.stage ≡ stage.Offering → x.script.commands ≡ [] → next_at x.script.runs x.at ≡ Some c
      → d.begun e ≡ DriverOp.offer c → d.stands e v → d.left e ≤ 38 → BeginsDrive d l v x (to x e x.stage)
  begins_chain c is none next begun stands few =
      with_free stage.Offering (DriverOp.offer c) is
      (free_of_chains d.words x.script x.returned v.frame v.done x.stage (d.begun x.end) x.hand none h.drives.held)
      begun stands (λ some. absurd (some none)) (next_is_chain d.words x.script x.at v.frame v.done none ∙ next)
      (armed_idle stage.Offering is) tt (omega (arith, few, offer_small v.shown))

  pub begins_collect : x.stage ≡ stage.Offering → x.hand ≡ hand.Free
      → IsStuck (next_of d.words x.script x.at v.frame v.done) v.frame v.done
      → d.begun e ≡ DriverOp.collect → d.stands e v → d.left e ≤ 3 → BeginsDrive d l v x (to x e x.stage)
  begins_collect is free stuck begun stands few =
      with_free stage.Offering DriverOp.collect is free begun stands (λ some. tt) stuck (armed_idle stage.Offering is)
      (inl rests, few) (collect_less v.shown (d.left e) few)

  pub begins_turn : x.stage ≡ stage.Collecting → IsDue d x v None → d.begun e ≡ DriverOp.collect → d.stands e v → d.left e ≤ 3
      → BeginsDrive d l v x (to x e x.stage)
  begins_turn is due begun stands few =
      with_free stage.Collecting DriverOp.collect is (free_now d x v x.hand due (both_offers d.words x.script x.returned v.frame v.done
      x.stage (d.begun x.end) x.hand (λ z. cc (z, is)) h.drives.held)) begun stands (λ some. tt) tt (armed_idle stage.Collecting is)
      (inl rests, few) (turn_less v.shown (d.left e) few)

  pub begins_arm : x.stage ≡ stage.Arming → IsDue d x v None → d.begun e ≡ DriverOp.arm → d.stands e v → d.left e ≤ 3
      → BeginsDrive d l v x (to x e x.stage)
  begins_arm is due begun stands few =
      with_free stage.Arming DriverOp.arm is (free_now d x v x.hand due (both_offers d.words x.script x.returned v.frame v.done
      x.stage (d.begun x.end) x.hand (λ z. cc (z, is)) h.drives.held)) begun stands (λ some. tt) (begun_idle stage.Arming is)
      (inl rests) (λ z. absurd (cc (z, rests))) (omega (arith, few))

  pub begins_hear : x.stage ≡ stage.Hearing → IsDue d x v None → d.begun e ≡ DriverOp.hear → d.stands e v
      → BeginsDrive d l v x (to x e x.stage)
  begins_hear is due begun stands =
      let a = armed_idle stage.Hearing is in
      with_free stage.Hearing DriverOp.hear is (free_now d x v x.hand due (both_offers d.words x.script x.returned v.frame v.done
      x.stage (d.begun x.end) x.hand (λ z. cc (z, is)) h.drives.held)) begun stands (λ some. tt) (begun_idle stage.Hearing is)
      (inl (rests, a.0, a.1)) tt (omega (arith, ap hear_owes rests))

  pub begins_command : (c : List Piece) → x.hand ≡ hand.Both → next_of d.words x.script x.at v.frame v.done ≡ Some c
      → d.begun e ≡ DriverOp.offer c → d.stands e v → d.left e ≤ 38 → BeginsDrive d l v x (to x e x.stage)
  begins_command c both next begun stands few =
      let held = subst (λ (z : Pending). HandIs d.words x.script x.returned v.frame v.done x.stage (d.begun x.end) z) both h.drives.held in
      let is = held.0.stage in
      begins d l x e v h stands
      (subst (λ (z : Pending). HandIs d.words x.script x.returned v.frame v.done x.stage (d.begun e) z) (sym both)
      (held.0, subst (λ z. IsOffering z) (sym begun) tt))
      (subst (λ (z : GuestStage). BegunIs z (d.begun e) (next_of d.words x.script x.at v.frame v.done) v.frame v.done) (sym is) (subst
      (λ o. BegunIs stage.Offering o (next_of d.words x.script x.at v.frame v.done) v.frame v.done) (sym begun) next))
      (subst (λ (z : GuestStage). ArmedIs z (d.begun e) v.doing v.armed) (sym is) (subst
      (λ o. ArmedIs stage.Offering o v.doing v.armed) (sym begun) (armed_idle stage.Offering is)))
      (subst (λ o. OpIs o v.doing v.shown (d.left e)) (sym begun) tt)
      (omega (
        arith,
        few,
        ap (λ (z : Pending). hand_owes z (d.begun e) (d.left e) (owes x.stage (d.begun e) v.doing v.shown (d.left e))) both,
        ap (λ (z : Pending). hand_owes z (d.begun x.end) (d.left x.end) (owes x.stage (d.begun x.end) v.doing v.shown (d.left x.end))) both,
        ap (λ o. offer_owes o (d.left e)) begun,
        ap (λ o. offer_owes o (d.left x.end)) idle,
      ))

-- an operation that is in progress goes on
pub begun_on : {D : Type 0} (d : DriverModel D) (l : LayoutModel) (x : Driven D) (v : DriverView) → DriveOpens d l x v
    → BeginsDrive d l v x x
begun_on d l x v h = record { opens = h; owes = omega arith }
