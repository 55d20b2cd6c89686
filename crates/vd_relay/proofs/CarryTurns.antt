-- One access of a command or ack word, by what is in hand.
use Rattle.std.proofs.Common.{◌≡◌, ℕ, ◌+◌, false, Option, List, ◌∷◌, slice_set, refl, sym, ap, subst, arith}
use Rattle.vd_words.specs.declared.access.Access.{Access}
use Rattle.vd_words.specs.declared.access.Access.TheVariants.{Load, Store}
use Rattle.vd_words.specs.declared.access.Op.TheVariants.{Control}
use Rattle.vd_words.specs.Model.{PortModel}
use Rattle.vd_ring.specs.declared.device.DeviceDone.TheVariants.{LoadCommand, StoreAck}
use Rattle.vd_ring.specs.declared.device.DeviceView.{DeviceView}
use Rattle.vd_ring.specs.declared.driver.DriverDone.TheVariants.{StoreCommand, LoadAck}
use Rattle.vd_ring.specs.declared.driver.DriverView.{DriverView}
use Rattle.vd_ring.specs.History.{next_head, taken_head}
use Rattle.vd_layout.specs.Driver.{DriverModel, IsLawfulDriver}
use Rattle.vd_layout.specs.Device.{DeviceModel, IsLawfulDevice}
use Rattle.vd_layout.specs.Layout.{LayoutModel}
use Rattle.vd_control.specs.declared.settings.Settings.{Settings}
use Rattle.vd_table.specs.declared.Command.{Command}
use Rattle.vd_relay.specs.declared.carry.Carry.{Carry}
use Rattle.vd_relay.specs.declared.carry.Carry.TheVariants as carry
use Rattle.vd_relay.specs.declared.carry.Found.{Found}
use Rattle.vd_relay.specs.declared.state.State.{State}
use Rattle.vd_relay.specs.Tie.{guests}
use Rattle.vd_relay.specs.Relay.{owes}
use Rattle.vd_relay.specs.Accesses.{LoadsWord, StoresAckWord, StoresWord, LoadsAckWord}
use Rattle.vd_relay.specs.Settling.{acknowledged, AreMarked}
use Rattle.vd_relay.specs.Commanding.{Takeover, carries}
use Rattle.vd_relay.specs.Underway.{Commanding, due}
use Rattle.vd_relay.specs.Controls.{OnGuestWord, OnShadowWord}
use Rattle.vd_relay.proofs.CarryWords.{first_loaded, second_loaded, first_stored, second_stored}
use Rattle.vd_relay.proofs.CarryAcks.{ack_loaded, ack_stored}

module _ {P E D : Type 0} (port : PortModel P) (l : LayoutModel) (e : DeviceModel E) (d : DriverModel D) (z : Takeover) (p q : P)
    (r : State E D) (t : List (Option Command)) (s : Settings) (w : DeviceView) (v : DriverView) where
  -- the view after it is this one
  on_guest_word : (hand hand' : Carry) (a : Access) (got : ℕ) (u : DeviceView) → e.side.next w Control a → port.moves p Control a got q
      → e.side.after w Control a got ≡ u → Commanding l e d z r hand' t s u v → due hand' + 1 ≡ due hand
      → owes e d r u v ≡ owes e d r w v → OnGuestWord port l e d z p q r hand hand' t s w v
  on_guest_word hand hand' a got u next moved is c pays same = record {
    access = a;
    got = got;
    was_next = next;
    moved = moved;
    commands = subst (λ (y : DeviceView). Commanding l e d z r hand' t s y v) (sym is) c;
    paid = omega (arith, pays, same, ap (λ (y : DeviceView). owes e d r y v) is);
  }

  pub on_first : IsLawfulDriver d → (f : Found) (x : ℕ) → Commanding l e d z r (carry.First f) t s w v
      → LoadsWord port e p q r.guest w f.number 0 f.place x → OnGuestWord port l e d z p q r (carry.First f) (carry.Second f x) t s w v
  on_first law f x h a =
      let u : DeviceView = record w { done = LoadCommand f.number 0 x ∷ w.done } in
      on_guest_word (carry.First f) (carry.Second f x) (Load f.place) x u a.was_next a.moved a.after
      (first_loaded l e d z r t s w v law f x h (subst (λ (y : DeviceView). e.stands r.guest y) a.after a.stands)) refl refl

  pub on_second : IsLawfulDriver d → (f : Found) (c : Command) (place y x : ℕ) → c.number ≡ f.number → c.ack_place ≡ f.ack_place
      → c.count ≡ f.count → c.first ≡ y → c.second ≡ x → c.late ≡ false → Commanding l e d z r (carry.Second f y) t s w v → LoadsWord port e p q r.guest w f.number 1 place x
      → OnGuestWord port l e d z p q r (carry.Second f y) (carry.StoreFirst c) t s w v
  on_second law f c place y x number ack count first second early h a =
      let u : DeviceView = record w { done = LoadCommand f.number 1 x ∷ w.done } in
      on_guest_word (carry.Second f y) (carry.StoreFirst c) (Load place) x u a.was_next a.moved a.after
      (second_loaded l e d z r t s w v law f c y x number ack count first second early h
      (subst (λ (y : DeviceView). e.stands r.guest y) a.after a.stands)) refl refl

  pub on_store_ack : (place x : ℕ) → (h : Commanding l e d z r (carry.StoreAck place x) t s w v)
      → StoresAckWord port e p q r.guest w (guests (carries z) h.in_hand.0) place x
      → OnGuestWord port l e d z p q r (carry.StoreAck place x) carry.None t s w v
  on_store_ack place x h a =
      let u : DeviceView = record w {
        done = StoreAck (taken_head w.done (guests (carries z) h.in_hand.0)) x ∷ w.done;
        stored = slice_set w.stored place x;
      } in
      on_guest_word (carry.StoreAck place x) carry.None (Store place x) a.got u a.was_next a.moved a.after
      (ack_stored l e d z r t s w v place x h (subst (λ (y : DeviceView). e.stands r.guest y) a.after a.stands)) refl refl

module _ {Q E D : Type 0} (port : PortModel Q) (l : LayoutModel) (e : DeviceModel E) (d : DriverModel D) (z : Takeover) (p q : Q)
    (r : State E D) (t : List (Option Command)) (s : Settings) (w : DeviceView) (v : DriverView) where
  on_shadow_word : (hand hand' : Carry) (t' : List (Option Command)) (s' : Settings) (a : Access) (got : ℕ) (u : DriverView) → d.side.next v Control a
      → port.moves p Control a got q
      → d.side.after v Control a got ≡ u → Commanding l e d z r hand' t' s' w u → due hand' + 1 ≡ due hand
      → owes e d r w u ≡ owes e d r w v → OnShadowWord port l e d z p q r hand hand' t t' s s' w v
  on_shadow_word hand hand' t' s' a got u next moved is c pays same = record {
    access = a;
    got = got;
    was_next = next;
    moved = moved;
    commands = subst (λ (y : DriverView). Commanding l e d z r hand' t' s' w y) (sym is) c;
    paid = omega (arith, pays, same, ap (λ (y : DriverView). owes e d r w y) is);
  }

  pub on_store_first : (c : Command) (place : ℕ) → Commanding l e d z r (carry.StoreFirst c) t s w v
      → StoresWord port d p q r.shadow v 0 place c.first
      → OnShadowWord port l e d z p q r (carry.StoreFirst c) (carry.StoreSecond c) t t s s w v
  on_store_first c place h a =
      let u : DriverView = record v {
        done = StoreCommand (next_head v.frame v.done) 0 c.first ∷ v.done;
        stored = slice_set v.stored place c.first;
      } in
      on_shadow_word (carry.StoreFirst c) (carry.StoreSecond c) t s (Store place c.first) a.got u a.was_next a.moved a.after
      (first_stored l e d z r t s w v c place h (subst (λ (y : DriverView). d.stands r.shadow y) a.after a.stands)) refl refl

  pub on_store_second : (c : Command) (place : ℕ) → Commanding l e d z r (carry.StoreSecond c) t s w v
      → StoresWord port d p q r.shadow v 1 place c.second
      → OnShadowWord port l e d z p q r (carry.StoreSecond c) (carry.Offer c) t t s s w v
  on_store_second c place h a =
      let u : DriverView = record v {
        done = StoreCommand (next_head v.frame v.done) 1 c.second ∷ v.done;
        stored = slice_set v.stored place c.second;
      } in
      on_shadow_word (carry.StoreSecond c) (carry.Offer c) t s (Store place c.second) a.got u a.was_next a.moved a.after
      (second_stored l e d z r t s w v c place h (subst (λ (y : DriverView). d.stands r.shadow y) a.after a.stands)) refl refl

  pub on_load_ack : IsLawfulDevice e → IsLawfulDriver d → (x : ℕ) (c : Command) (y : ℕ) (t' : List (Option Command)) (s' : Settings)
      → AreMarked c y t t' → s' ≡ acknowledged s c y
      → (h : Commanding l e d z r (carry.LoadAck x c) t s w v) → LoadsAckWord port d p q r.shadow v h.in_hand.0 x y
      → OnShadowWord port l e d z p q r (carry.LoadAck x c) (carry.StoreAck c.ack_place y) t t' s s' w v
  on_load_ack law ldr x c y t' s' marks is h a =
      let u : DriverView = record v { done = LoadAck h.in_hand.0 y ∷ v.done } in
      on_shadow_word (carry.LoadAck x c) (carry.StoreAck c.ack_place y) t' s' (Load (d.words.ack v.frame x)) y u a.was_next a.moved a.after
      (ack_loaded l e d z r t s w v law ldr x c y t' s' marks is h (subst (λ (y : DriverView). d.stands r.shadow y) a.after a.stands)) refl refl
