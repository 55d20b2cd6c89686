-- The accesses of command and ack words of a relay are next, and leave its ends standing.
use Rattle.std.proofs.Common.{◌≡◌, ℕ, ◌+◌, ◌<◌, refl, ap, subst, arith}
use Rattle.vd_words.specs.declared.access.Access.TheVariants.{Load, Store}
use Rattle.vd_words.specs.declared.access.Op.TheVariants.{Control}
use Rattle.vd_words.specs.Model.{PortModel}
use Rattle.vd_ring.specs.declared.device.DeviceView.{DeviceView}
use Rattle.vd_ring.specs.declared.driver.DriverNow.TheVariants as driver
use Rattle.vd_ring.specs.declared.driver.DriverView.{DriverView}
use Rattle.vd_ring.specs.History.{next_head}
use Rattle.vd_ring.specs.Control.{LoadsCommand, StoresAck, StoresCommand, LoadsAck}
use Rattle.vd_ring.proofs.HeldPlaces.{free_inside}
use Rattle.vd_ring.proofs.ControlSteps.{next_free}
use Rattle.vd_layout.specs.Driver.{DriverModel}
use Rattle.vd_layout.specs.Device.{DeviceModel, IsLawfulDevice}
use Rattle.vd_layout.specs.Layout.{LayoutModel, IsLawfulLayout}
use Rattle.vd_relay.specs.Accesses.{FindsCommand, FindsAck, LoadsWord, StoresAckWord, HasFree, FindsNext, StoresWord, HasCollected, LoadsAckWord}

module _ {P E : Type 0} (port : PortModel P) (e : DeviceModel E) (law : IsLawfulDevice e) (p q : P) (x : E) (w : DeviceView) where
  abbrev pub commands : (number half place : ℕ) → FindsCommand e x w number half place
      → LoadsCommand w.frame (e.words.command w.frame) w.done place
  commands number half place h = record {
    control = h.has.control;
    number = number;
    runs = h.has.runs;
    inside = (law.runs x w h.has.serves).inside number h.has.runs;
    half = half;
    two = h.two;
    place = h.placed;
  }

  pub may_load_command : (number half place : ℕ) → FindsCommand e x w number half place → e.side.next w Control (Load place)
  may_load_command number half place h =
      (law.controls.loads w place).1 (h.has.still, commands number half place h)

  pub loads_command : (number half place got : ℕ) → FindsCommand e x w number half place → port.moves p Control (Load place) got q
      → LoadsWord port e p q x w number half place got
  loads_command number half place got h moved =
      let next = may_load_command number half place h in
      record {
        was_next = next;
        moved = moved;
        after = law.controls.loaded w place got h.has.still (commands number half place h)
            ((law.runs x w h.has.serves).apart number h.has.runs);
        stands = law.control x w (Load place) got h.has.serves next;
      }

  abbrev pub acks : (number place : ℕ) → FindsAck e x w number place → StoresAck w.frame (e.words.ack w.frame) w.done place
  acks number place h = record {
    control = h.has.control;
    number = number;
    runs = h.has.runs;
    inside = (law.runs x w h.has.serves).inside number h.has.runs;
    place = h.placed;
  }

  pub may_store_ack : (number place ack : ℕ) → FindsAck e x w number place → e.side.next w Control (Store place ack)
  may_store_ack number place ack h = (law.controls.stores w place ack).1 (h.has.still, acks number place h)

  pub stores_ack : (number place ack got : ℕ) → FindsAck e x w number place → port.moves p Control (Store place ack) got q
      → StoresAckWord port e p q x w number place ack
  stores_ack number place ack got h moved =
      let next = may_store_ack number place ack h in
      record {
        got = got;
        was_next = next;
        moved = moved;
        after = law.controls.stored w place ack got h.has.still (acks number place h);
        stands = law.control x w (Store place ack) got h.has.serves next;
      }

module _ {D E : Type 0} (l : LayoutModel) (d : DriverModel D) (e : DeviceModel E) (lay : IsLawfulLayout d e l) (x : D)
    (v : DriverView) where
  -- the next head is one of the ring, and the places of its command words have 32 bits
  pub free_below : (n k : ℕ) → HasFree l d x v → n ≡ d.size x → k ≡ next_head v.frame v.done → k < n
  free_below n k h sized is = omega (
    arith,
    sized,
    (lay.driver_end.sized x v h.drives).0,
    is,
    free_inside v.frame v.done (next_head v.frame v.done) (lay.driver_end.places x v h.drives) (next_free v.frame v.done h.room),
  )

  abbrev pub next_word : (half place : ℕ) → FindsNext l d x v half place
      → StoresCommand v.frame (d.words.command v.frame) v.done place
  next_word half place h =
      record { control = h.has.ring.control; room = h.has.room; half = half; two = h.two; place = h.placed }

  pub may_store_command : (half place word : ℕ) → FindsNext l d x v half place → d.side.next v Control (Store place word)
  may_store_command half place word h = (lay.driver_end.controls.stores v place word).1 (h.still, next_word half place h)

  pub next_narrow : HasFree l d x v → v.doing ≡ driver.Idle → d.words.command v.frame (next_head v.frame v.done) + 1 < 4294967296
  next_narrow h still =
      let framed = lay.driver_framed x v h.drives in
      let q : ℕ = d.words.command v.frame (next_head v.frame v.done) + 1 in
      omega (
        arith,
        lay.narrow v.frame framed,
        lay.driver_low v Control (Store q 0) framed (may_store_command 1 q 0
            (record { has = h; still = still; two = omega arith; placed = refl })),
      )

module _ {Q D E : Type 0} (port : PortModel Q) (l : LayoutModel) (d : DriverModel D) (e : DeviceModel E) (lay : IsLawfulLayout d e l)
    (p q : Q) (x : D) (v : DriverView) where
  pub stores_command : (half place word got : ℕ) → FindsNext l d x v half place → port.moves p Control (Store place word) got q
      → StoresWord port d p q x v half place word
  stores_command half place word got h moved =
      let next = may_store_command l d e lay x v half place word h in
      record {
        got = got;
        was_next = next;
        moved = moved;
        after = lay.driver_end.controls.stored v place word got h.still (next_word l d e lay x v half place h);
        stands = lay.driver_end.control x v (Store place word) got h.has.drives next;
      }

  abbrev pub collected_ack : (k h : ℕ) → HasCollected l d x v k h → LoadsAck v.frame (d.words.ack v.frame) v.done (d.words.ack v.frame h)
  collected_ack k h c = record { control = c.ring.control; number = k; last = c.last; place = ap (d.words.ack v.frame) c.is_head }

  pub may_load_ack : (k h : ℕ) → HasCollected l d x v k h → d.side.next v Control (Load (d.words.ack v.frame h))
  may_load_ack k h c = (lay.driver_end.controls.loads v (d.words.ack v.frame h)).1
      (c.still, collected_ack k h c)

  pub loads_ack : (k h place got : ℕ) → HasCollected l d x v k h → place ≡ d.words.ack v.frame h
      → port.moves p Control (Load place) got q → LoadsAckWord port d p q x v k h got
  loads_ack k h place got c is moved =
      let next = may_load_ack k h c in
      record {
        was_next = next;
        moved = subst (λ (z : ℕ). port.moves p Control (Load z) got q) is moved;
        after = lay.driver_end.controls.loaded v (d.words.ack v.frame h) got c.still (collected_ack k h c);
        stands = lay.driver_end.control x v (Load (d.words.ack v.frame h)) got c.drives next;
      }
