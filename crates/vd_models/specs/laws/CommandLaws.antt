-- What a model device of the control queue holds is what such a device owes.
use Rattle.std.specs.Prelude.{◌≡◌, ℕ, ◌+◌, ◌-◌, ◌<◌, ◌≤◌, Bool, true, List, [], ◌∷◌, ◌++◌, length, map, drop, take}
use Rattle.std.specs.List.{All}
use Rattle.std.proofs.Common.{refl, sym, ◌∙◌, ap, subst, arith, inl, inr}
use Rattle.std.proofs.lemmas.List.{drop-append-le, drop-map, map-append, length-map, length-append}
use Rattle.std.proofs.lemmas.List.Elements.{All-weaker}
use mathlib.Core.List.{IsPrefix}
use Rattle.vd_model.specs.declared.chain.Piece.{Piece}
use Rattle.vd_model.specs.declared.record.Begun.{Begun}
use Rattle.vd_ring.specs.declared.device.DeviceDone.{DeviceDone}
use Rattle.vd_ring.specs.declared.device.DeviceView.{DeviceView}
use Rattle.vd_ring.specs.declared.frame.Frame.{Frame}
use Rattle.vd_ring.specs.declared.frame.Used.{Used}
use Rattle.vd_ring.specs.History.{takes, gives}
use Rattle.vd_layout.specs.Begun.{DeviceOp}
use Rattle.vd_layout.specs.Control.{ControlWords}
use Rattle.vd_layout.specs.Device.{DeviceModel}
use Rattle.vd_control.specs.declared.settings.Settings.{Settings}
use Rattle.vd_bus.specs.declared.device.Attached.{Attached}
use Rattle.vd_bus.specs.Device.{IsServing, IsCommanded, chains_of}
use Rattle.vd_bus.specs.DeviceCommands.{IsWaiting, IsAnswered, set_since}
use Rattle.vd_bus.specs.Entries.{Reserved}
use Rattle.vd_models.specs.declared.hand.Hand.{Hand}
use Rattle.vd_models.specs.declared.hand.Hand.TheVariants.{Free, Taken, Loaded, Executed}
use Rattle.vd_models.specs.declared.serving.Session.{Session}
use Rattle.vd_models.specs.declared.serving.Stage.{Stage}
use Rattle.vd_models.specs.declared.serving.Stage.TheVariants as stage
use Rattle.vd_models.specs.Commanding.{Commands, HandAt}
use Rattle.vd_models.specs.Hands.{plain, waiting, seen, IsClosed, HandIs, Executes, next_number}
use Rattle.vd_models.specs.Stages.{is_done}

pub waits_one : (hand : Hand) → length (waiting hand) ≤ 1
waits_one Free = omega arith
waits_one (Taken c) = omega arith
waits_one (Loaded c x) = omega arith
waits_one (Executed p a) = omega arith

pub seen_length : (bs : List Begun) (hand : Hand) → length (seen bs hand) ≡ length bs + length (waiting hand)
seen_length bs hand = omega (arith, length-append (map plain bs) (waiting hand), length-map bs plain)

plain_chains : (bs : List Begun) → chains_of (map plain bs) ≡ chains_of bs
plain_chains [] = refl
plain_chains (b ∷ bs) = ap (λ (cs : List (List Piece)). b.chain ∷ cs) (plain_chains bs)

-- the chains begun are the first of those taken
first_chains : (bs : List Begun) (by : Attached) (hand : Hand) (s : List DeviceDone) → by.at ≤ length bs → IsServing (seen bs hand) by s
    → IsPrefix (chains_of (drop by.at bs)) (drop by.from (takes s))
first_chains bs by hand s after v = (
  chains_of (waiting hand),
  sym (
      sym v.chains ∙ ap chains_of (drop-append-le by.at (map plain bs) (waiting hand) (omega (arith, after, length-map bs plain)))
      ∙ map-append (λ (b : Begun). b.chain) (drop by.at (map plain bs)) (waiting hand)
      ∙ ap (λ (cs : List (List Piece)). cs ++ chains_of (waiting hand)) (ap chains_of (drop-map plain by.at bs) ∙ plain_chains
      (drop by.at bs))
      ),
)

hand_waits : (words : ControlWords) (f : Frame) (hand : Hand) (bs : List Begun) (by : Attached) (s : List DeviceDone) (k : ℕ)
    → HandIs words f hand bs by s → 1 ≤ length (waiting hand) → k ≡ next_number bs by → IsWaiting s k
hand_waits words f Free bs by s k h some is = absurd (omega arith)
hand_waits words f (Taken c) bs by s k h some is = subst (IsWaiting s) (sym is) (inl h.1)
hand_waits words f (Loaded c x) bs by s k h some is = subst (IsWaiting s) (sym is) (inr (x, h.1))
hand_waits words f (Executed p a) bs by s k h some is = absurd (omega arith)

pub commanded : {E : Type 0} (e : DeviceModel E) (s : Session E) (hand : Hand) (begun : Reserved Begun) (w : DeviceView)
    (at_attach now : Settings) → Commands e s hand begun w → now ≡ set_since s.by.at begun.items at_attach
    → IsCommanded begun.items s.by at_attach now w.done
commanded e s hand begun w at_attach now c set =
    let v = c.serves.serving in
    let long = seen_length begun.items hand in
    let few = waits_one hand in
    record {
      after = c.executes.after;
      before = v.before;
      few = omega (arith, v.few, long);
      chains = first_chains begun.items s.by hand w.done c.executes.after v;
      in_hand = omega (arith, v.as_many, long, few);
      each = c.executes.each;
      waits = λ k below late. hand_waits e.words w.frame hand begun.items s.by w.done k c.executes.in_hand
          (omega (arith, v.as_many, long, below, late))
          (omega (arith, v.as_many, long, few, below, late, c.executes.after));
      settings = set;
      given = All-weaker (IsClosed begun.items s.by w.done) (IsAnswered begun.items s.by.at s.by.from w.done) (λ u h. h.answered)
          (drop s.by.from (gives w.done)) c.executes.given;
    }

-- where it is done no command is in hand
pub done_free : (hand : Hand) (st : Stage) (b : DeviceOp) → HandAt hand st b → is_done st ≡ true → length (waiting hand) ≡ 0
done_free Free st b h d = refl
done_free (Executed p a) st b h d = refl
done_free (Taken c) st b h d = absurd (cc (ap is_done h.0, d))
done_free (Loaded c x) st b h d = absurd (cc (ap is_done h.0, d))
