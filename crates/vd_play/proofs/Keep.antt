-- What single accesses keep of a lane.
use Rattle.std.proofs.Common.{◌≡◌, ℕ, ◌≤◌, Some, List, length, drop, take, sym, ◌∙◌, ap, subst, arith}
use Rattle.std.specs.List.{All}
use mathlib.Core.List.{IsPrefix}
use Rattle.vd_model.specs.declared.record.Begun.{Begun}
use Rattle.vd_words.specs.Plain.{RingWords}
use Rattle.vd_ring.specs.declared.driver.DriverView.{DriverView}
use Rattle.vd_ring.specs.declared.device.DeviceView.{DeviceView}
use Rattle.vd_ring.specs.History.{offers, takes, gives}
use Rattle.vd_layout.specs.Device.{IsStill}
use Rattle.vd_bus.specs.declared.device.Attached.{Attached}
use Rattle.vd_bus.specs.Device.{IsServing, IsServed, IsBegun, IsJournalled, chains_of, lens_of}
use Rattle.vd_bus.specs.Orders.{IsData}
use Rattle.vd_machine.specs.File.{Plan}
use Rattle.vd_play.specs.Before.{begun_at}
use Rattle.vd_play.specs.Journal.{queue_script, queue_chains, guest_frame, base_at}
use Rattle.vd_play.specs.Lane.{IsDriven, Account, IsReserved, HasGiven, IsKept}
use Rattle.vd_play.specs.Setting.{Setting, IsLawful}
use Rattle.vd_turns.specs.Turns.{GuestRun, DeviceRun}
use Rattle.vd_play.proofs.Lists.{prefix_at, prefix_through, prefix_take, same_front, length_le, begun_joined, given_joined}

module _ {D E G X C : Type 0} (s : Setting D E G X C) (law : IsLawful s) (plan : Plan) (q : ℕ) where
  -- after some steps of the guest
  pub driven_guest : (made : ℕ) (words words' : RingWords) (guest guest' : G) (v : DriverView) (w : DeviceView)
      → words'.ring ≡ words.ring → IsDriven s plan q words guest v w
      → (r : GuestRun s.layout s.guest words'.words v w guest guest' made) → IsDriven s plan q words' guest' r.view w
  driven_guest made words words' guest guest' v w same k r = record {
    queue = k.queue;
    numbered = same ∙ k.numbered;
    ring = r.ring;
    part = record {
      script = r.script ∙ k.part.script;
      holds = r.holds;
      framed = sym (law.layout.wide words'.words r.view w r.ring).1 ∙ (law.layout.wide words.words v w k.ring).1 ∙ k.part.framed;
    };
  }

  -- after some steps of the other side
  pub driven_device : (words words' : RingWords) (guest : G) (v : DriverView) (w w' : DeviceView) → words'.ring ≡ words.ring
      → s.layout.ring words'.words v w' → IsDriven s plan q words guest v w → IsDriven s plan q words' guest v w'
  driven_device words words' guest v w w' same ring k = record { queue = k.queue; numbered = same ∙ k.numbered; ring = ring; part = k.part }

  pub kept_guest : (k made : ℕ) (words words' : RingWords) (guest guest' : G) (device : X) (v : DriverView) (w : DeviceView)
      → words'.ring ≡ words.ring → IsKept s plan q k words guest device v w
      → (r : GuestRun s.layout s.guest words'.words v w guest guest' made) → IsKept s plan q k words' guest' device r.view w
  kept_guest k made words words' guest guest' device v w same c r = record {
    driven = driven_guest made words words' guest guest' v w same c.driven r;
    account = c.account;
    given = c.given;
    reserved = c.reserved;
  }

  -- more was begun behind what the account has
  pub account_grows : (k at : ℕ) (begun begun' : List Begun) → Account plan q k begun → IsPrefix begun begun' → at ≤ length begun
      → All IsBegun (drop at begun') → Account plan q k begun'
  account_grows k at begun begun' a grows le new = record {
    before = ap chains_of (same_front (begun_at plan q k) begun begun' grows a.many) ∙ a.before;
    many = omega (arith, a.many, length_le begun begun' grows);
    each = begun_joined begun begun' at grows le a.each new;
  }

  -- after some steps of the device, on any ring
  pub reserved_device : (device device' : X) → IsReserved s plan q device → IsServed s.party device device' → IsReserved s plan q device'
  reserved_device device device' c served = record {
    window = served.window ∙ c.window;
    room = omega (arith, c.room, served.room.1);
  }

  -- what was given since the attach is in the journal
  given_device : (device device' : X) (w w' : DeviceView) (by : Attached) → by.from ≡ by.at
      → IsServing (s.party.begun device) by w.done → IsPrefix (s.party.begun device) (s.party.begun device')
      → IsPrefix (gives w.done) (gives w'.done) → IsServing (s.party.begun device') by w'.done
      → All (HasGiven (lens_of (s.party.begun device))) (gives w.done)
      → All (HasGiven (lens_of (s.party.begun device'))) (gives w'.done)
  given_device device device' w w' by from old grows more new given =
      let now : All (IsJournalled (s.party.begun device') by.at by.at) (drop by.at (gives w'.done)) =
      subst (λ n. All (IsJournalled (s.party.begun device') by.at n) (drop n (gives w'.done))) from new.given in
      given_joined (s.party.begun device) (s.party.begun device') (gives w.done) (gives w'.done) by.at grows more
      (omega (arith, old.before, from)) given now

  pub kept_device : (k made : ℕ) (words words' : RingWords) (guest : G) (device device' : X) (v : DriverView) (w : DeviceView)
      (by : Attached) → words'.ring ≡ words.ring → s.party.holds device w → s.party.attached device ≡ Some by → IsData by.queue
      → by.from ≡ by.at
      → IsKept s plan q k words guest device v w → (r : DeviceRun s.layout s.party words'.words v w device device' made)
      → IsKept s plan q k words' guest device' v r.view
  kept_device k made words words' guest device device' v w by same holds is for from c r =
      let old : IsServing (s.party.begun device) by w.done = law.party.serves device w by holds is for in
      let new : IsServing (s.party.begun device') by r.view.done =
      law.party.serves device' r.view by r.holds (r.served.attached ∙ is) for in
      record {
        driven = driven_device words words' guest v w r.view same r.ring c.driven;
        account = account_grows k by.at (s.party.begun device) (s.party.begun device') c.account r.served.grows old.after new.each;
        given = given_device device device' w r.view by from old r.served.grows r.grows.gives new c.given;
        reserved = reserved_device device device' c.reserved r.served;
      }

  -- after the device's attach or suspension
  pub kept_still : (k : ℕ) (words : RingWords) (guest : G) (device device' : X) (v : DriverView) (w : DeviceView)
      → s.party.begun device' ≡ s.party.begun device → s.party.window device' ≡ s.party.window device
      → s.party.chain_room device ≤ s.party.chain_room device'
      → IsKept s plan q k words guest device v w → IsKept s plan q k words guest device' v w
  kept_still k words guest device device' v w same window room c = record {
    driven = c.driven;
    account = subst (λ (bs : List Begun). Account plan q k bs) (sym same) c.account;
    given = subst (λ (bs : List Begun). All (HasGiven (lens_of bs)) (gives w.done)) (sym same) c.given;
    reserved = record { window = window ∙ c.reserved.window; room = omega (arith, c.reserved.room, room, ap length same) };
  }

  pub prefix_of : (words : RingWords) (guest : G) (v : DriverView) (w : DeviceView) → IsDriven s plan q words guest v w
      → IsPrefix (takes w.done) (queue_chains plan q)
  prefix_of words guest v w k = prefix_through (takes w.done) (offers v.done) (queue_chains plan q)
      (prefix_take (takes w.done) (offers v.done) (length (takes w.done)) (law.layout.lists words.words v w k.ring).taken)
      (law.guest.offers guest v (queue_script plan q) k.part.holds k.part.script k.queue.plain)

  pub taken_of : (words : RingWords) (guest : G) (v : DriverView) (w : DeviceView) (n : ℕ) → IsDriven s plan q words guest v w
      → length (takes w.done) ≡ n → takes w.done ≡ take n (queue_chains plan q)
  taken_of words guest v w n k is = prefix_at (takes w.done) (queue_chains plan q) n (prefix_of words guest v w k) is

  -- while a device serves the ring from where it began, it has begun all chains that were taken
  pub begun_of : (begun : List Begun) (by : Attached) (w : DeviceView) → by.from ≡ by.at → IsServing begun by w.done
      → length begun ≡ length (takes w.done)
  begun_of begun by w from serves = omega (arith, from, serves.as_many)

  -- a still end's base is that of the chains taken
  pub base_of : (words : RingWords) (end : E) (guest : G) (v : DriverView) (w : DeviceView) (n : ℕ) → IsDriven s plan q words guest v w
      → s.device.stands end w → IsStill s.device end → length (takes w.done) ≡ n
      → record { 0 = s.device.base end } ≡ base_at s.device s.layout plan q n
  base_of words end guest v w n k stands still is =
      let framed : w.frame ≡ guest_frame s.layout plan q = (law.layout.wide words.words v w k.ring).1 ∙ k.part.framed in
      ap (λ b. record { 0 = b }) (law.layout.device_end.based end w stands still ∙ ap (λ f. s.device.base_of f (takes w.done)) framed
      ∙ ap (λ cs. s.device.base_of (guest_frame s.layout plan q) cs) (taken_of words guest v w n k is))
