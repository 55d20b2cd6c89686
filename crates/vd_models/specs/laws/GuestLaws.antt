-- A model guest's laws.
use Rattle.std.specs.Prelude.{◌≡◌, ◌↔◌, ℕ, zero, suc, ◌+◌, true, Option, Some, None, IsSome, List, [], ◌∷◌, ◌++◌, length, map, drop, slice_get}
use Rattle.std.specs.Option.{option_map}
use Rattle.std.proofs.Common.{refl, sym, ◌∙◌, ap, subst, arith}
use Rattle.std.proofs.lemmas.List.{take-append-drop, length-take-le, length-map, take_all}
use mathlib.Core.List.{IsPrefix}
use Rattle.vd_model.specs.declared.chain.Piece.{Piece}
use Rattle.vd_model.specs.declared.record.Return.{Return}
use Rattle.vd_model.specs.declared.record.Script.{Script}
use Rattle.vd_ring.specs.declared.driver.DriverDone.{DriverDone}
use Rattle.vd_ring.specs.declared.driver.DriverNow.{DriverNow}
use Rattle.vd_ring.specs.declared.driver.DriverView.{DriverView}
use Rattle.vd_ring.specs.declared.frame.Frame.{Frame}
use Rattle.vd_ring.specs.History.{offers, collects, next_head}
use Rattle.vd_layout.specs.Begun.{DriverOp}
use Rattle.vd_layout.specs.Control.{ControlWords}
use Rattle.vd_layout.specs.Driver.{DriverModel, HasRoom, IsLawfulDriver}
use Rattle.vd_layout.specs.Layout.{LayoutModel}
use Rattle.vd_bus.specs.Guest.{as_return, HasDrivenAll, CannotOffer}
use Rattle.vd_bus.specs.GuestCommands.{commands, command_chain, HasCommands, HasSent, AreAcked, HasSentAll, CannotSend}
use Rattle.vd_bus.specs.Pace.{KeepsPace}
use Rattle.vd_bus.specs.Scripts.{chains}
use Rattle.vd_models.specs.declared.counts.Counts.{Counts}
use Rattle.vd_models.specs.declared.driving.Booted.{Booted}
use Rattle.vd_models.specs.declared.driving.Loaded.{Loaded}
use Rattle.vd_models.specs.declared.driving.GuestPhase.{GuestPhase}
use Rattle.vd_models.specs.declared.driving.GuestPhase.TheVariants as phase
use Rattle.vd_models.specs.declared.driving.GuestStage.{GuestStage}
use Rattle.vd_models.specs.declared.driving.GuestStage.TheVariants as stage
use Rattle.vd_models.specs.declared.pending.Pending.{Pending}
use Rattle.vd_models.specs.declared.pending.Pending.TheVariants as hand
use Rattle.vd_models.specs.GuestStages.{BegunIs, DoneIs, ArmedIs, IsStuck, is_done}
use Rattle.vd_models.specs.Pending.{HandIs}
use Rattle.vd_models.specs.Driving.{GuestHolds, IsBooted, Paces, command_next, next_of, scripted, loaded_of, script_of, offered_of, returned_of, is_done_of}
use Rattle.vd_models.specs.laws.Scripted.{commands_or, scripted_chains, scripted_commands, next_is_chain, next_is_command}

pub unloaded_law : (x : Option Loaded) → script_of x ≡ None → (offered_of x ≡ 0) × (returned_of x ≡ [])
unloaded_law None h = (refl, refl)
unloaded_law (Some x) h = absurd (cc)

pub pace_law : (x : Option Loaded) (c : Counts) → Paces x c
    → KeepsPace c.accesses c.heard (offered_of x + length (returned_of x) + c.heard + 1)
pace_law x c h few fewer = omega (arith, h few fewer)

same_script : (x y : Script) → ◌≡◌ {A = Option Script} (Some x) (Some y) → x ≡ y
same_script x y e = cc

done_all : (st : GuestStage) (n m : ℕ) → is_done st ≡ true → DoneIs st n m → n ≡ m
done_all stage.Done n m e h = h
done_all stage.Offering n m e h = absurd (cc)
done_all stage.Collecting n m e h = absurd (cc)
done_all stage.Arming n m e h = absurd (cc)
done_all stage.Hearing n m e h = absurd (cc)

all_done : (st : GuestStage) (n m : ℕ) → n ≡ m → DoneIs st n m → is_done st ≡ true
all_done stage.Done n m e h = refl
all_done stage.Offering n m e h = absurd (omega (arith, h))
all_done stage.Collecting n m e h = absurd (omega (arith, h))
all_done stage.Arming n m e h = absurd (omega (arith, h))
all_done stage.Hearing n m e h = absurd (omega (arith, h))

done_idle : (st : GuestStage) (b : DriverOp) (next : Option (List Piece)) (f : Frame) (o : List DriverDone) → is_done st ≡ true
    → BegunIs st b next f o → b ≡ DriverOp.idle
done_idle stage.Done DriverOp.idle next f o e h = refl
done_idle stage.Done DriverOp.signal next f o e h = absurd h
done_idle stage.Done (DriverOp.offer c) next f o e h = absurd h
done_idle stage.Done DriverOp.collect next f o e h = absurd h
done_idle stage.Done DriverOp.arm next f o e h = absurd h
done_idle stage.Done DriverOp.hear next f o e h = absurd h
done_idle stage.Done DriverOp.disarm next f o e h = absurd h
done_idle stage.Offering b next f o e h = absurd (cc)
done_idle stage.Collecting b next f o e h = absurd (cc)
done_idle stage.Arming b next f o e h = absurd (cc)
done_idle stage.Hearing b next f o e h = absurd (cc)

-- where it is armed it arms or hears, and can't offer
arms : (st : GuestStage) (b : DriverOp) (d : DriverNow) (next : Option (List Piece)) (f : Frame) (o : List DriverDone) (t : ℕ)
    (armed : Option ℕ) → armed ≡ Some t → ArmedIs st b d armed → BegunIs st b next f o
    → IsStuck next f o
arms stage.Hearing DriverOp.idle d next f o t armed is a h = h
arms stage.Hearing DriverOp.hear d next f o t armed is a h = h
arms stage.Hearing DriverOp.signal d next f o t armed is a h = absurd h
arms stage.Hearing (DriverOp.offer c) d next f o t armed is a h = absurd h
arms stage.Hearing DriverOp.collect d next f o t armed is a h = absurd h
arms stage.Hearing DriverOp.arm d next f o t armed is a h = absurd h
arms stage.Hearing DriverOp.disarm d next f o t armed is a h = absurd h
arms stage.Arming DriverOp.idle d next f o t armed is a h = h
arms stage.Arming DriverOp.arm d next f o t armed is a h = h
arms stage.Arming DriverOp.hear d next f o t armed is a h = absurd h
arms stage.Arming DriverOp.signal d next f o t armed is a h = absurd h
arms stage.Arming (DriverOp.offer c) d next f o t armed is a h = absurd h
arms stage.Arming DriverOp.collect d next f o t armed is a h = absurd h
arms stage.Arming DriverOp.disarm d next f o t armed is a h = absurd h
arms stage.Offering b d next f o t armed is a h = absurd (cc (is, a))
arms stage.Collecting b d next f o t armed is a h = absurd (cc (is, a))
arms stage.Done b d next f o t armed is a h = absurd (cc (is, a))

get_drop : (n : ℕ) (xs : List (List Piece)) → slice_get (drop n xs) 0 ≡ slice_get xs n
get_drop zero xs = refl
get_drop (suc n) [] = refl
get_drop (suc n) (x ∷ xs) = get_drop n xs

-- with an ack to be loaded it isn't done
done_held : (words : ControlWords) (s : Script) (rs : List Return) (f : Frame) (o : List DriverDone) (st : GuestStage) (b : DriverOp)
    (h : Pending) → is_done st ≡ true → HandIs words s rs f o st b h → length rs ≡ length (collects o)
done_held words s rs f o st b hand.Free e h = h.0
done_held words s rs f o st b hand.First e h = h.0.back
done_held words s rs f o st b hand.Both e h = h.0.back
done_held words s rs f o stage.Done b (hand.Ack n k g) e h = absurd h.0.stage
done_held words s rs f o stage.Offering b (hand.Ack n k g) e h = absurd (cc e)
done_held words s rs f o stage.Collecting b (hand.Ack n k g) e h = absurd (cc e)
done_held words s rs f o stage.Arming b (hand.Ack n k g) e h = absurd (cc e)
done_held words s rs f o stage.Hearing b (hand.Ack n k g) e h = absurd (cc e)

-- and where it is armed it has none to be loaded
armed_held : (words : ControlWords) (s : Script) (rs : List Return) (f : Frame) (o : List DriverDone) (st : GuestStage) (b : DriverOp)
    (h : Pending) (d : DriverNow) (t : ℕ) (armed : Option ℕ) → armed ≡ Some t → ArmedIs st b d armed → HandIs words s rs f o st b h
    → length rs ≡ length (collects o)
armed_held words s rs f o st b hand.Free d t armed is a h = h.0
armed_held words s rs f o st b hand.First d t armed is a h = h.0.back
armed_held words s rs f o st b hand.Both d t armed is a h = h.0.back
armed_held words s rs f o stage.Offering b (hand.Ack n k g) d t armed is a h = absurd (cc (is, a))
armed_held words s rs f o stage.Collecting b (hand.Ack n k g) d t armed is a h = absurd (cc (is, a))
armed_held words s rs f o stage.Arming b (hand.Ack n k g) d t armed is a h = absurd h.0.stage
armed_held words s rs f o stage.Hearing b (hand.Ack n k g) d t armed is a h = absurd h.0.stage
armed_held words s rs f o stage.Done b (hand.Ack n k g) d t armed is a h = absurd h.0.stage

stuck_next : (words : ControlWords) (f : Frame) (o : List DriverDone) (next : Option (List ℕ)) (bytes : List ℕ) → next ≡ Some bytes
    → IsStuck (option_map (command_chain words f (next_head f o)) next) f o
    → HasRoom f o (command_chain words f (next_head f o) bytes) → ⊥
stuck_next words f o next bytes is stuck room =
    let h : IsStuck (Some (command_chain words f (next_head f o) bytes)) f o =
    subst (λ z. IsStuck (option_map (command_chain words f (next_head f o)) z) f o) is stuck in
    h room

module _ {D : Type 0} (d : DriverModel D) (l : LayoutModel) where
  many : (b : Booted D) (c : Counts) (v : DriverView) → IsBooted d l b c v → length (offers v.done) ≡ b.loaded.offered
  many b c v h = commands_or b.loaded.script
      (λ none. ap length (h.drives.chained none).offers ∙ length-take-le b.loaded.offered (chains b.loaded.script)
      (h.drives.chained none).some)
      (λ some. sym (h.drives.sent some).offered)

  offers_of : (b : Booted D) (c : Counts) (v : DriverView) (s : Script) → IsBooted d l b c v → b.loaded.script ≡ s → s.commands ≡ []
      → IsPrefix (offers v.done) (chains s)
  offers_of b c v s h is none =
      let y : Loaded = b.loaded in
      let x = h.drives.chained (ap (λ (z : Script). z.commands) is ∙ none) in
      subst (λ (z : Script). IsPrefix (offers v.done) (chains z)) is (
        drop y.offered (chains y.script),
        ap (λ us. us ++ drop y.offered (chains y.script)) x.offers ∙ take-append-drop y.offered
            (chains y.script),
      )

  all_of : (law : IsLawfulDriver d) (b : Booted D) (c : Counts) (v : DriverView) (s : Script) → IsBooted d l b c v → b.loaded.script ≡ s
      → s.commands ≡ [] → is_done b.loaded.stage ≡ true → HasDrivenAll s v
  all_of law b c v s h is none done =
      let y : Loaded = b.loaded in
      let empty : y.script.commands ≡ [] = ap (λ (z : Script). z.commands) is ∙ none in
      let x = h.drives.chained empty in
      let all : length y.returned.items ≡ length (chains y.script) = done_all y.stage (length y.returned.items) (scripted y.script)
      done h.drives.done ∙ scripted_chains y.script empty in
      let back : length y.returned.items ≡ length (collects v.done) = ap length x.returned ∙ length-map
      (collects v.done) as_return in
      let whole : offers v.done ≡ chains y.script = x.offers ∙ take_all y.offered (chains y.script)
      (omega (arith, h.drives.count, many b c v h, all, back)) in
      let idle = done_idle y.stage (d.begun b.end) (next_of d.words y.script y.at v.frame v.done) v.frame v.done done h.drives.begun in
      subst (λ (z : Script). HasDrivenAll z v) is (record {
        offers = whole;
        collects = sym back ∙ all;
        idle = law.at_rest b.end v h.drives.stands idle;
      })

  finished_of : (b : Booted D) (c : Counts) (v : DriverView) (s : Script) → IsBooted d l b c v → b.loaded.script ≡ s → s.commands ≡ []
      → HasDrivenAll s v → is_done b.loaded.stage ≡ true
  finished_of b c v s h is none all =
      let y : Loaded = b.loaded in
      let empty : y.script.commands ≡ [] = ap (λ (z : Script). z.commands) is ∙ none in
      let back : length y.returned.items ≡ length (collects v.done) = ap length (h.drives.chained empty).returned ∙ length-map
      (collects v.done) as_return in
      let these : length (chains y.script) ≡ length (chains s) = ap (λ (z : Script). length (chains z)) is in
      all_done y.stage (length y.returned.items) (scripted y.script)
      (back ∙ all.collects ∙ sym these ∙ sym (scripted_chains y.script empty)) h.drives.done

  stuck_at : (b : Booted D) (c : Counts) (v : DriverView) (t : ℕ) → IsBooted d l b c v → v.armed ≡ Some t
      → IsStuck (next_of d.words b.loaded.script b.loaded.at v.frame v.done) v.frame v.done
  stuck_at b c v t h some =
      let y : Loaded = b.loaded in
      arms y.stage (d.begun b.end) v.doing (next_of d.words y.script y.at v.frame v.done) v.frame v.done t v.armed some h.drives.armed
      h.drives.begun

  stuck_of : (b : Booted D) (c : Counts) (v : DriverView) (s : Script) (t : ℕ) → IsBooted d l b c v → b.loaded.script ≡ s
      → s.commands ≡ [] → v.armed ≡ Some t → CannotOffer s v
  stuck_of b c v s t h is empty some p get room =
      let y : Loaded = b.loaded in
      let none : y.script.commands ≡ [] = ap (λ (z : Script). z.commands) is ∙ empty in
      let stuck = stuck_at b c v t h some in
      let next : next_of d.words y.script y.at v.frame v.done ≡ Some p = next_is_chain d.words y.script y.at v.frame v.done none
      ∙ ap (λ cs. slice_get cs 0) (h.drives.chained none).left ∙ get_drop y.offered (chains y.script)
      ∙ ap (slice_get (chains y.script)) (sym (many b c v h))
      ∙ ap (λ (z : Script). slice_get (chains z) (length (offers v.done))) is ∙ get in
      let none : IsStuck (Some p) v.frame v.done = subst (λ z. IsStuck z v.frame v.done) next stuck in
      none room

  -- ---- of commands

  some_of : (b : Booted D) (s : Script) → b.loaded.script ≡ s → HasCommands s → HasCommands b.loaded.script
  some_of b s is some none = some (sym (ap (λ (z : Script). z.commands) is) ∙ none)

  sent_all_of : (law : IsLawfulDriver d) (b : Booted D) (c : Counts) (v : DriverView) (s : Script) → IsBooted d l b c v
      → b.loaded.script ≡ s → HasCommands s → is_done b.loaded.stage ≡ true → HasSentAll s v b.loaded.returned.items
  sent_all_of law b c v s h is some done =
      let y : Loaded = b.loaded in
      let full = some_of b s is some in
      let x = h.drives.sent full in
      let all : length y.returned.items ≡ length y.script.commands = done_all y.stage (length y.returned.items) (scripted y.script)
      done h.drives.done ∙ scripted_commands y.script full in
      let back = done_held d.words y.script y.returned.items v.frame v.done y.stage (d.begun b.end) y.hand done h.drives.held in
      let idle = done_idle y.stage (d.begun b.end) (next_of d.words y.script y.at v.frame v.done) v.frame v.done done h.drives.begun in
      subst (λ (z : Script). HasSentAll z v y.returned.items) is (record {
        offers = omega (arith, h.drives.count, x.sent.some, all, back);
        collects = sym back ∙ all;
        returned = all;
        idle = law.at_rest b.end v h.drives.stands idle;
      })

  sent_done : (b : Booted D) (c : Counts) (v : DriverView) (s : Script) → IsBooted d l b c v → b.loaded.script ≡ s → HasCommands s
      → HasSentAll s v b.loaded.returned.items → is_done b.loaded.stage ≡ true
  sent_done b c v s h is some all =
      let y : Loaded = b.loaded in
      let full = some_of b s is some in
      all_done y.stage (length y.returned.items) (scripted y.script)
      (all.returned ∙ sym (ap (λ (z : Script). length z.commands) is) ∙ sym (scripted_commands y.script full)) h.drives.done

  cannot_of : (b : Booted D) (c : Counts) (v : DriverView) (s : Script) (t : ℕ) → IsBooted d l b c v → b.loaded.script ≡ s
      → HasCommands s → v.armed ≡ Some t → CannotSend d.words s v.frame v.done
  cannot_of b c v s t h is some armed =
      let y : Loaded = b.loaded in
      let full = some_of b s is some in
      let stuck : IsStuck (command_next d.words y.script v.frame v.done) v.frame v.done =
      subst (λ z. IsStuck z v.frame v.done) (next_is_command d.words y.script y.at v.frame v.done full) (stuck_at b c v t h armed) in
      subst (λ (z : Script). CannotSend d.words z v.frame v.done) is (λ bytes get room.
      stuck_next d.words v.frame v.done (slice_get (commands y.script) (length (offers v.done))) bytes get stuck room)

  -- ---- what the laws say of a guest that was booted they say of each that holds a view

  held : (p : GuestPhase D) (c : Counts) (v : DriverView) (Q : GuestPhase D → Type 0) → GuestHolds d l p c v
      → ((b : Booted D) → IsBooted d l b c v → Q (phase.Booted b)) → Q p
  held phase.Unloaded c v Q h f = absurd h
  held (phase.Loaded x) c v Q h f = absurd h
  held (phase.Booted b) c v Q h f = f b h
  held (phase.Halted x) c v Q h f = absurd h

  pub held_law : (p : GuestPhase D) (c : Counts) (v : DriverView) → GuestHolds d l p c v → IsSome (script_of (loaded_of p))
  held_law p c v h = held p c v (λ z. IsSome (script_of (loaded_of z))) h (λ b x. refl)

  pub offered_law : (p : GuestPhase D) (c : Counts) (v : DriverView) → GuestHolds d l p c v → offered_of (loaded_of p) ≡ length
      (offers v.done)
  offered_law p c v h = held p c v (λ z. offered_of (loaded_of z) ≡ length (offers v.done)) h (λ b x. sym (many b c v x))

  pub offers_law : (p : GuestPhase D) (c : Counts) (v : DriverView) (s : Script) → GuestHolds d l p c v
      → script_of (loaded_of p) ≡ Some s → s.commands ≡ [] → IsPrefix (offers v.done) (chains s)
  offers_law p c v s h is none = held p c v (λ z. script_of (loaded_of z) ≡ Some s → IsPrefix (offers v.done) (chains s)) h
      (λ b x is. offers_of b c v s x (same_script b.loaded.script s is) none) is

  pub returned_law : (p : GuestPhase D) (c : Counts) (v : DriverView) (s : Script) → GuestHolds d l p c v
      → script_of (loaded_of p) ≡ Some s → s.commands ≡ [] → returned_of (loaded_of p) ≡ map as_return (collects v.done)
  returned_law p c v s h is none = held p c v
      (λ z. script_of (loaded_of z) ≡ Some s → returned_of (loaded_of z) ≡ map as_return (collects v.done)) h
      (λ b x is. (x.drives.chained (ap (λ (z : Script). z.commands) (same_script b.loaded.script s is) ∙ none)).returned) is

  pub done_law : (law : IsLawfulDriver d) (p : GuestPhase D) (c : Counts) (v : DriverView) (s : Script) → GuestHolds d l p c v
      → script_of (loaded_of p) ≡ Some s → s.commands ≡ [] → is_done_of (loaded_of p) ≡ true → HasDrivenAll s v
  done_law law p c v s h is none = held p c v
      (λ z. script_of (loaded_of z) ≡ Some s → is_done_of (loaded_of z) ≡ true → HasDrivenAll s v) h
      (λ b x is e. all_of law b c v s x (same_script b.loaded.script s is) none e) is

  pub finishes_law : (p : GuestPhase D) (c : Counts) (v : DriverView) (s : Script) → GuestHolds d l p c v
      → script_of (loaded_of p) ≡ Some s → s.commands ≡ [] → HasDrivenAll s v → is_done_of (loaded_of p) ≡ true
  finishes_law p c v s h is none = held p c v
      (λ z. script_of (loaded_of z) ≡ Some s → HasDrivenAll s v → is_done_of (loaded_of z) ≡ true) h
      (λ b x is all. finished_of b c v s x (same_script b.loaded.script s is) none all) is

  pub armed_law : (p : GuestPhase D) (c : Counts) (v : DriverView) (s : Script) (t : ℕ) → GuestHolds d l p c v
      → script_of (loaded_of p) ≡ Some s → s.commands ≡ [] → v.armed ≡ Some t → CannotOffer s v
  armed_law p c v s t h is none = held p c v (λ z. script_of (loaded_of z) ≡ Some s → v.armed ≡ Some t → CannotOffer s v) h
      (λ b x is some. stuck_of b c v s t x (same_script b.loaded.script s is) none some) is

  pub sent_law : (p : GuestPhase D) (c : Counts) (v : DriverView) (s : Script) → GuestHolds d l p c v → script_of (loaded_of p) ≡ Some s
      → HasCommands s → HasSent d.words s v.frame v.done
  sent_law p c v s h is some = held p c v (λ z. script_of (loaded_of z) ≡ Some s → HasSent d.words s v.frame v.done) h
      (λ b x is. subst (λ (z : Script). HasSent d.words z v.frame v.done) (same_script b.loaded.script s is)
      (x.drives.sent (some_of b s (same_script b.loaded.script s is) some)).sent) is

  pub acked_law : (p : GuestPhase D) (c : Counts) (v : DriverView) (s : Script) → GuestHolds d l p c v → script_of (loaded_of p) ≡ Some s
      → HasCommands s → AreAcked v.done (returned_of (loaded_of p))
  acked_law p c v s h is some = held p c v (λ z. script_of (loaded_of z) ≡ Some s → AreAcked v.done (returned_of (loaded_of z))) h
      (λ b x is. (x.drives.sent (some_of b s (same_script b.loaded.script s is) some)).acked) is

  pub sent_all_law : (law : IsLawfulDriver d) (p : GuestPhase D) (c : Counts) (v : DriverView) (s : Script) → GuestHolds d l p c v
      → script_of (loaded_of p) ≡ Some s → HasCommands s
      → (is_done_of (loaded_of p) ≡ true) ↔ HasSentAll s v (returned_of (loaded_of p))
  sent_all_law law p c v s h is some = held p c v
      (λ z. script_of (loaded_of z) ≡ Some s → (is_done_of (loaded_of z) ≡ true) ↔ HasSentAll s v (returned_of (loaded_of z))) h
      (λ b x is. (
        (λ e. sent_all_of law b c v s x (same_script b.loaded.script s is) some e),
        λ all. sent_done b c v s x (same_script b.loaded.script s is) some all,
      )) is

  pub sleeps_law : (p : GuestPhase D) (c : Counts) (v : DriverView) (s : Script) (t : ℕ) → GuestHolds d l p c v
      → script_of (loaded_of p) ≡ Some s → HasCommands s → v.armed ≡ Some t → CannotSend d.words s v.frame v.done
  sleeps_law p c v s t h is some = held p c v
      (λ z. script_of (loaded_of z) ≡ Some s → v.armed ≡ Some t → CannotSend d.words s v.frame v.done) h
      (λ b x is armed. cannot_of b c v s t x (same_script b.loaded.script s is) some armed) is

  pub listed_law : (p : GuestPhase D) (c : Counts) (v : DriverView) (s : Script) (t : ℕ) → GuestHolds d l p c v
      → script_of (loaded_of p) ≡ Some s → HasCommands s → v.armed ≡ Some t
      → length (returned_of (loaded_of p)) ≡ length (collects v.done)
  listed_law p c v s t h is some = held p c v
      (λ z. script_of (loaded_of z) ≡ Some s → v.armed ≡ Some t → length (returned_of (loaded_of z)) ≡ length (collects v.done)) h
      (λ b x is armed. armed_held d.words b.loaded.script b.loaded.returned.items v.frame v.done b.loaded.stage (d.begun b.end)
      b.loaded.hand v.doing t v.armed armed x.drives.armed x.drives.held) is
