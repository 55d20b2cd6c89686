-- A step of a relay over two plain ports in memory is one of the words that they are onto.
use Rattle.std.proofs.Common.{◌≡◌, ℕ, ap, sym, subst, ◌∙◌, inl, inr}
use Rattle.vd_words.specs.declared.access.Access.{Access}
use Rattle.vd_words.specs.declared.access.Op.{Op}
use Rattle.vd_words.specs.Model.{PortModel}
use Rattle.vd_words.specs.Plain.{RingWords}
use Rattle.vd_words.specs.Step.{PlainMoves}
use Rattle.vd_ring.specs.declared.device.DeviceView.{DeviceView}
use Rattle.vd_ring.specs.declared.driver.DriverView.{DriverView}
use Rattle.vd_layout.specs.declared.moves.Move.{Move}
use Rattle.vd_layout.specs.Driver.{DriverModel}
use Rattle.vd_layout.specs.Device.{DeviceModel}
use Rattle.vd_layout.specs.Layout.{LayoutModel}
use Rattle.vd_relay.specs.declared.counts.Counts.{Counts}
use Rattle.vd_relay.specs.declared.state.State.{State}
use Rattle.vd_relay.specs.Moving.{Holds, IsRelayStep, OnGuest, OnShadow}
use Rattle.vd_relay.specs.Tie.{Start}
use Rattle.vd_relayed.specs.Bridges.{Parts}
use Rattle.vd_relayed.specs.Ports.{RelayOn}
use Rattle.vd_relayed.specs.Steps.{on_words, RelaySteps}

module _ {P : Type 0} (port : PortModel P) (at : P → RingWords)
    (told : (p : P) (op : Op) (a : Access) (r : ℕ) (q : P) → port.moves p op a r q → PlainMoves (at p) a r (at q)) where
  moved_on : (p q : P) (ws us : RingWords) (op : Op) (a : Access) (r : ℕ) → at p ≡ ws → at q ≡ us → port.moves p op a r q
      → PlainMoves ws a r us
  moved_on p q ws us op a r from to moved =
      subst (λ (s : RingWords). PlainMoves s a r us) from (subst (λ (t : RingWords). PlainMoves (at p) a r t) to (told p op a r q moved))

  on_guest : {E D : Type 0} (e : DeviceModel E) (d : DriverModel D) (z : Start) (p q : P) (ws us : RingWords) (r r' : State E D)
      (c c' : Counts) (w : DeviceView) (v : DriverView) (said : Move) → at p ≡ ws → at q ≡ us
      → OnGuest port e d z p q r r' c c' w v said → OnGuest on_words e d z ws us r r' c c' w v said
  on_guest e d z p q ws us r r' c c' w v said from to s = record {
    op = s.op;
    access = s.access;
    got = s.got;
    was_next = s.was_next;
    moved = moved_on p q ws us s.op s.access s.got from to s.moved;
    holds = s.holds;
    acts = s.acts;
    bag = s.bag;
    grown = s.grown;
    looked = s.looked;
    look = s.look;
    slept = s.slept;
    asleep = s.asleep;
    counts = s.counts;
  }

  on_shadow : {E D : Type 0} (e : DeviceModel E) (d : DriverModel D) (z : Start) (p q : P) (ws us : RingWords) (r r' : State E D)
      (c c' : Counts) (w : DeviceView) (v : DriverView) (said : Move) → at p ≡ ws → at q ≡ us
      → OnShadow port e d z p q r r' c c' w v said → OnShadow on_words e d z ws us r r' c c' w v said
  on_shadow e d z p q ws us r r' c c' w v said from to s = record {
    op = s.op;
    access = s.access;
    got = s.got;
    was_next = s.was_next;
    moved = moved_on p q ws us s.op s.access s.got from to s.moved;
    holds = s.holds;
    acts = s.acts;
    grown = s.grown;
    looked = s.looked;
    look = s.look;
    free = s.free;
    left_out = s.left_out;
    uncounted = s.uncounted;
    counts = s.counts;
  }

  relay_step : {E D : Type 0} (e : DeviceModel E) (d : DriverModel D) (z : Start) (p p' q q' : P) (ws ws' us us' : RingWords)
      (w : DeviceView) (v : DriverView) (r r' : State E D) (c c' : Counts) (said : Move) → at p ≡ ws → at p' ≡ ws' → at q ≡ us → at q' ≡ us'
      → IsRelayStep port port e d z p p' q q' w v r r' c c' said → IsRelayStep on_words on_words e d z ws ws' us us' w v r r' c c' said
  relay_step e d z p p' q q' ws ws' us us' w v r r' c c' said from to other_from other_to s = record {
    made = elim s.made [
      | inl x ↦ inl (sym other_to ∙ ap at x.0 ∙ other_from, on_guest e d z p p' ws ws' r r' c c' w v said from to x.1)
      | inr x ↦ inr (sym to ∙ ap at x.0 ∙ from, on_shadow e d z q q' us us' r r' c c' w v said other_from other_to x.1)
    ];
    kept = s.kept;
    quiet = s.quiet;
    finished = s.finished;
    still = s.still;
    pace = s.pace;
  }

  pub relay_steps : {D E G V : Type 0} (d : DriverModel D) (e : DeviceModel E) (l : LayoutModel) (a b b' : Parts E D G V) (said : Move)
      (p p' q q' : P) → a ≡ b → at p ≡ a.words → at p' ≡ b'.words → at q ≡ a.shadow → at q' ≡ b'.shadow
      → ((z : Start) (v : DriverView) (w : DeviceView) (sv : DriverView) (sw : DeviceView) → l.ring a.words.words v w
      → l.ring a.shadow.words sv sw → Holds e d z a.state a.counts w sv → a.map ≡ z.map
      → RelayOn port port e d l z p p' q q' v w sv sw a.state b'.state a.counts b'.counts said)
      → RelaySteps d e l b b' said
  relay_steps d e l a b b' said p p' q q' is from to other_from other_to on = subst (λ x. RelaySteps d e l x b' said) is
      (λ z v w sv sw ring shadow_ring holds map.
      relay_step e d z p p' q q' a.words b'.words a.shadow b'.shadow w sv a.state b'.state a.counts b'.counts said from to
      other_from other_to (on z v w sv sw ring shadow_ring holds map).made)
