-- An access of a command or ack word is a step of a relay of a control queue.
use Rattle.std.proofs.Common.{◌≡◌, ℕ, ◌+◌, ◌*◌, ◌≤◌, Bool, false, Option, List, length, if◌then◌else◌, sym, ◌∙◌, ap, subst, arith, inl, inr}
use Rattle.vd_words.specs.declared.access.Access.{Access}
use Rattle.vd_words.specs.declared.access.Access.TheVariants.{Load, Store}
use Rattle.vd_words.specs.declared.access.Op.TheVariants.{Control}
use Rattle.vd_words.specs.Model.{PortModel}
use Rattle.vd_model.specs.declared.chain.Piece.{Piece}
use Rattle.vd_ring.specs.declared.frame.Used.{Used}
use Rattle.vd_ring.specs.declared.device.DeviceDone.TheVariants.{LoadCommand, StoreAck}
use Rattle.vd_ring.specs.declared.device.DeviceView.{DeviceView}
use Rattle.vd_ring.specs.declared.driver.DriverView.{DriverView}
use Rattle.vd_ring.specs.History.{offers, collects, takes, gives, taken_head}
use Rattle.vd_ring.specs.Sleep.{driver_woken, device_woken}
use Rattle.vd_layout.specs.Driver.{DriverModel, IsLawfulDriver}
use Rattle.vd_layout.specs.Device.{DeviceModel, IsLawfulDevice}
use Rattle.vd_layout.specs.Layout.{LayoutModel}
use Rattle.vd_layout.specs.declared.moves.Move.TheVariants as move
use Rattle.vd_control.specs.declared.settings.Settings.{Settings}
use Rattle.vd_table.specs.declared.Command.{Command}
use Rattle.vd_relay.specs.declared.commander.Commander.{Commander}
use Rattle.vd_relay.specs.declared.counts.Counts.{Counts}
use Rattle.vd_relay.specs.declared.counts.Turn.TheVariants.{Worked}
use Rattle.vd_relay.specs.declared.state.State.{State}
use Rattle.vd_relay.specs.Acts.{AddsOneAct}
use Rattle.vd_relay.specs.Pace.{raised, guest_handled, shadow_handled}
use Rattle.vd_relay.specs.Stages.{is_rested}
use Rattle.vd_relay.specs.Relay.{owes}
use Rattle.vd_relay.specs.Controls.{OnGuestWord, OnShadowWord}
use Rattle.vd_relay.specs.Commanding.{Takeover}
use Rattle.vd_relay.specs.Underway.{Commanding, due, owed}
use Rattle.vd_relay.specs.CommandSteps.{CommandHolds, OnGuestCommand, OnShadowCommand}
use Rattle.vd_relay.proofs.ShadowActs.{shadow_word_acts}
use Rattle.vd_relay.proofs.Steps.{Noted, paces}
use Rattle.vd_relay.proofs.CommandTold.{still_due}
use Rattle.vd_relay.proofs.CommandPlain.{pace_part}

-- it takes, gives, offers and collects nothing
guest_word : {E : Type 0} (e : DeviceModel E) → IsLawfulDevice e → (a : E) (w : DeviceView) (x : Access) (got : ℕ) → e.stands a w
    → e.side.next w Control x → (takes (e.side.after w Control x got).done ≡ takes w.done)
    × (gives (e.side.after w Control x got).done ≡ gives w.done)
guest_word e law a w (Load p) got serves next =
    let n = (law.controls.loads w p).0 next in
    let is = law.controls.loaded w p got n.0 n.1 ((law.runs a w serves).apart n.1.number n.1.runs) in
    (ap (λ (y : DeviceView). takes y.done) is, ap (λ (y : DeviceView). gives y.done) is)
guest_word e law a w (Store p x) got serves next =
    let n = (law.controls.stores w p x).0 next in
    let is = law.controls.stored w p x got n.0 n.1 in
    (ap (λ (y : DeviceView). takes y.done) is, ap (λ (y : DeviceView). gives y.done) is)

guest_word_acts : {E : Type 0} (e : DeviceModel E) → IsLawfulDevice e → (a : E) (w : DeviceView) (x : Access) (got : ℕ)
    → e.stands a w → e.side.next w Control x → AddsOneAct w.done (e.side.after w Control x got).done
guest_word_acts e law a w (Load p) got serves next =
    let n = (law.controls.loads w p).0 next in
    let is = law.controls.loaded w p got n.0 n.1 ((law.runs a w serves).apart n.1.number n.1.runs) in
    inr (LoadCommand n.1.number n.1.half got, ap (λ (y : DeviceView). y.done) is)
guest_word_acts e law a w (Store p x) got serves next =
    let n = (law.controls.stores w p x).0 next in
    let is = law.controls.stored w p x got n.0 n.1 in
    inr (StoreAck (taken_head w.done n.1.number) x, ap (λ (y : DeviceView). y.done) is)

shadow_word : {D : Type 0} (d : DriverModel D) → IsLawfulDriver d → (v : DriverView) (x : Access) (got : ℕ)
    → d.side.next v Control x → (offers (d.side.after v Control x got).done ≡ offers v.done)
    × (collects (d.side.after v Control x got).done ≡ collects v.done)
shadow_word d law v (Load p) got next =
    let n = (law.controls.loads v p).0 next in
    let is = law.controls.loaded v p got n.0 n.1 in
    (ap (λ (y : DriverView). offers y.done) is, ap (λ (y : DriverView). collects y.done) is)
shadow_word d law v (Store p x) got next =
    let n = (law.controls.stores v p x).0 next in
    let is = law.controls.stored v p x got n.0 n.1 in
    (ap (λ (y : DriverView). offers y.done) is, ap (λ (y : DriverView). collects y.done) is)

-- one access is paid for by what was due
paid_one : (i j : ℕ) → i + 1 ≡ j → i + 1 ≤ j + 64 * (0 + 0)
paid_one i j is = omega (arith, is)

module _ {P E D : Type 0} (port : PortModel P) (l : LayoutModel) (e : DeviceModel E) (d : DriverModel D) (z : Takeover) (p q : P)
    (r : State E D) (x x' : Commander) (s s' : Settings) (c c' : Counts) (w : DeviceView) (v : DriverView)
    (h : CommandHolds l e d z r x s c w v) (live : is_rested r.stage ≡ false) (some : 1 ≤ due x.hand) (n : Noted c c' Worked) where
  pub on_guest_word : IsLawfulDevice e → x'.commands ≡ x.commands → s' ≡ s → OnGuestWord port l e d z p q r x.hand x'.hand x.commands s w v
      → OnGuestCommand port l e d z p q r r x x' s' c c' w v move.Worked
  on_guest_word law same is o =
      let w' : DeviceView = e.side.after w Control o.access o.got in
      let moves = law.control_moves w o.access o.got o.was_next in
      let stays = guest_word e law r.guest w o.access o.got h.commands.stands.serves o.was_next in
      let pace = paces c c' Worked (owed e d r x.hand w v) (owed e d r x'.hand w' v) n.accesses n.handled n.heard
      (paid_one (owed e d r x'.hand w' v) (owed e d r x.hand w v) o.paid) h.pace in
      let still = still_due x.hand w v some h.commands.still in (
        record {
          op = Control;
          access = o.access;
          got = o.got;
          was_next = o.was_next;
          moved = o.moved;
          holds = record {
            stands = o.commands.stands;
            pace = pace_part c' (due x'.hand) (owes e d r w' v) pace;
            hears_guest = λ i idle. h.hears_guest i still.0;
            hears_shadow = h.hears_shadow;
            leaves = h.leaves;
          };
          acts = guest_word_acts e law r.guest w o.access o.got h.commands.stands.serves o.was_next;
          bag = inl stays.1;
          grown = omega (
            arith,
            ap guest_handled moves,
            ap (λ (y : List (List Piece)). length y) stays.0,
            ap (λ (y : List Used). length y) stays.1,
            ap {B = ℕ} (λ (y : Bool). if y then length (takes w.done) else length (takes w'.done)) live,
          );
          looked = ((λ i. absurd (cc i)), λ i. absurd (cc (i, moves)));
          look = λ i. absurd (cc i);
          slept = false;
          asleep = ((λ i. absurd (cc i)), λ i. absurd (cc i));
          counts = record {
            accesses = n.accesses;
            handled = n.handled ∙ ap (λ k. raised k c.handled) (sym (ap guest_handled moves));
            heard = n.heard ∙ ap (λ k. raised k c.heard) (sym (ap (device_woken Control) moves));
          };
        },
        record {
          commands = subst (λ (y : Settings). Commanding l e d z r x'.hand x'.commands y w' v) (sym is)
              (subst (λ (y : List (Option Command)).
              Commanding l e d z r x'.hand y s w' v) (sym same) o.commands);
          pace = pace;
          hears_guest = λ i idle. h.hears_guest i still.0;
          hears_shadow = h.hears_shadow;
          leaves = h.leaves;
        },
      )

  pub on_shadow_word : IsLawfulDriver d → OnShadowWord port l e d z p q r x.hand x'.hand x.commands x'.commands s s' w v
      → OnShadowCommand port l e d z p q r r x x' s' c c' w v move.Worked
  on_shadow_word law o =
      let v' : DriverView = d.side.after v Control o.access o.got in
      let moves = law.control_moves v o.access o.got o.was_next in
      let stays = shadow_word d law v o.access o.got o.was_next in
      let pace = paces c c' Worked (owed e d r x.hand w v) (owed e d r x'.hand w v') n.accesses n.handled n.heard
      (paid_one (owed e d r x'.hand w v') (owed e d r x.hand w v) o.paid) h.pace in
      let still = still_due x.hand w v some h.commands.still in (
        record {
          op = Control;
          access = o.access;
          got = o.got;
          was_next = o.was_next;
          moved = o.moved;
          holds = record {
            stands = o.commands.stands;
            pace = pace_part c' (due x'.hand) (owes e d r w v') pace;
            hears_guest = h.hears_guest;
            hears_shadow = λ i idle. h.hears_shadow i still.1;
            leaves = h.leaves;
          };
          acts = shadow_word_acts d law v o.access o.got o.was_next;
          grown = omega (
            arith,
            ap shadow_handled moves,
            ap (λ (y : List (List Piece)). length y) stays.0,
            ap (λ (y : List Used). length y) stays.1,
          );
          looked = ((λ i. absurd (cc i)), λ i. absurd (cc (i, moves)));
          look = λ i. absurd (cc i);
          free = λ i. absurd (cc (i, moves));
          left_out = false;
          uncounted = (
            (λ i. absurd (cc i)),
            λ i. elim i [ inl a ↦ absurd (cc a) | inr b ↦ absurd (cc (b.0, moves)) ],
          );
          counts = record {
            accesses = n.accesses;
            handled = n.handled ∙ ap (λ k. raised k c.handled) (sym (ap shadow_handled moves));
            heard = n.heard ∙ ap (λ k. raised k c.heard) (sym (ap (driver_woken Control) moves));
          };
        },
        record {
          commands = o.commands;
          pace = pace;
          hears_guest = h.hears_guest;
          hears_shadow = λ i idle. h.hears_shadow i still.1;
          leaves = h.leaves;
        },
      )
