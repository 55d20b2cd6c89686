-- Where the words of the command in hand stand.
use Rattle.std.proofs.Common.{◌≡◌, ℕ, ◌+◌, ◌<◌, Option, List, arith, refl}
use Rattle.vd_words.specs.declared.access.Access.TheVariants.{Load}
use Rattle.vd_words.specs.declared.access.Op.TheVariants.{Control}
use Rattle.vd_words.specs.Model.{PortModel}
use Rattle.vd_ring.specs.declared.device.DeviceView.{DeviceView}
use Rattle.vd_ring.specs.declared.driver.DriverNow.TheVariants as driver
use Rattle.vd_ring.specs.declared.driver.DriverView.{DriverView}
use Rattle.vd_ring.specs.History.{next_head}
use Rattle.vd_layout.specs.Driver.{DriverModel}
use Rattle.vd_layout.specs.Device.{DeviceModel}
use Rattle.vd_layout.specs.Layout.{LayoutModel, IsLawfulLayout}
use Rattle.vd_control.specs.declared.settings.Settings.{Settings}
use Rattle.vd_table.specs.declared.Command.{Command}
use Rattle.vd_relay.specs.declared.carry.Carry.TheVariants as carry
use Rattle.vd_relay.specs.declared.carry.Found.{Found}
use Rattle.vd_relay.specs.declared.state.State.{State}
use Rattle.vd_relay.specs.Tie.{guests}
use Rattle.vd_relay.specs.Accesses.{FindsCommand, FindsAck, HasFree, FindsNext, HasCollected}
use Rattle.vd_relay.specs.Commanding.{Takeover, carries}
use Rattle.vd_relay.specs.Underway.{Commanding}
use Rattle.vd_relay.proofs.ControlAccesses.{may_load_command}

module _ {E D : Type 0} (l : LayoutModel) (e : DeviceModel E) (d : DriverModel D) (z : Takeover) (r : State E D)
    (t : List (Option Command)) (s : Settings) (w : DeviceView) (v : DriverView) where
  pub finds_first : (f : Found) → Commanding l e d z r (carry.First f) t s w v → FindsCommand e r.guest w f.number 0 f.place
  finds_first f h = record {
    has = record { serves = h.stands.serves; still = h.still.0; control = h.stands.paired.guest_control; runs = h.in_hand.0.runs };
    two = omega arith;
    placed = omega (arith, h.in_hand.1.place);
  }

  pub finds_second : (f : Found) (x p : ℕ) → p ≡ f.place + 1 → Commanding l e d z r (carry.Second f x) t s w v
      → FindsCommand e r.guest w f.number 1 p
  finds_second f x p is h = record {
    has = record { serves = h.stands.serves; still = h.still.0; control = h.stands.paired.guest_control; runs = h.in_hand.0.runs };
    two = omega arith;
    placed = omega (arith, is, h.in_hand.1.place);
  }

  pub first_free : (c : Command) → Commanding l e d z r (carry.StoreFirst c) t s w v → HasFree l d r.shadow v
  first_free c h = record { drives = h.stands.drives; ring = h.ring; room = h.in_hand.taken.room }

  pub second_free : (c : Command) → Commanding l e d z r (carry.StoreSecond c) t s w v → HasFree l d r.shadow v
  second_free c h = record { drives = h.stands.drives; ring = h.ring; room = h.in_hand.0.taken.room }

  pub has_collected : (head : ℕ) (c : Command) (h : Commanding l e d z r (carry.LoadAck head c) t s w v)
      → HasCollected l d r.shadow v h.in_hand.0 head
  has_collected head c h = record {
    drives = h.stands.drives;
    ring = h.ring;
    still = h.still.1;
    last = h.in_hand.2;
    is_head = h.in_hand.3;
    inside = h.in_hand.4;
  }

  pub finds_ack : (p x : ℕ) (h : Commanding l e d z r (carry.StoreAck p x) t s w v)
      → FindsAck e r.guest w (guests (carries z) h.in_hand.0) p
  finds_ack p x h = record {
    has = record { serves = h.stands.serves; still = h.still.0; control = h.stands.paired.guest_control; runs = h.in_hand.1.back.runs };
    placed = h.in_hand.2;
  }

  -- the place of a second command word has 32 bits
  pub second_narrow : {P : Type 0} (port : PortModel P) (a : P) → IsLawfulLayout d e l → (f : Found) (x : ℕ) → Commanding l e d z r (carry.Second f x) t s w v
      → f.place + 1 < 4294967296
  second_narrow port a lay f x h =
      let framed = lay.device_framed r.guest w h.stands.serves in
      let p : ℕ = f.place + 1 in
      omega (
        arith,
        lay.narrow w.frame framed,
        lay.device_low w Control (Load p) framed
            (may_load_command port e lay.device_end a a r.guest w f.number 1 p (finds_second f x p refl h)),
      )

pub finds_next : {D : Type 0} (l : LayoutModel) (d : DriverModel D) (x : D) (v : DriverView) (half p : ℕ) → half < 2
    → p ≡ d.words.command v.frame (next_head v.frame v.done) + half → HasFree l d x v → v.doing ≡ driver.Idle → FindsNext l d x v half p
finds_next l d x v half p two is h still = record { has = h; still = still; two = two; placed = is }
