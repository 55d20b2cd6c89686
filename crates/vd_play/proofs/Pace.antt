-- The pace of a lane's parties, by the bells that its ring has.
use Rattle.std.proofs.Common.{◌≡◌, ℕ, ◌+◌, ◌*◌, ◌≤◌, Some, List, [], ◌∷◌, ◌++◌, length, ◌∙◌, ap, arith}
use Rattle.std.proofs.Math.Nat.{mul-le-mul_left}
use Rattle.std.proofs.lemmas.List.{length-map}
use Rattle.vd_words.specs.Plain.{RingWords}
use Rattle.vd_ring.specs.declared.driver.DriverView.{DriverView}
use Rattle.vd_ring.specs.declared.device.DeviceView.{DeviceView}
use Rattle.vd_ring.specs.History.{offers, collects, gives}
use Rattle.vd_ring.specs.Lists.{Lists}
use Rattle.vd_ring.specs.Sleep.{RingSignals, driver_hearings, device_hearings}
use Rattle.vd_ring.proofs.Quiet.{few_gives}
use Rattle.vd_bus.specs.declared.device.Attached.{Attached}
use Rattle.vd_bus.specs.declared.event.Event.{Event}
use Rattle.vd_bus.specs.declared.event.Event.TheVariants.{Attach, Suspend, Reset}
use Rattle.vd_bus.specs.Device.{IsServing}
use Rattle.vd_bus.specs.Guest.{as_return}
use Rattle.vd_bus.specs.Orders.{IsData}
use Rattle.vd_bus.specs.Pace.{attaches}
use Rattle.vd_machine.specs.File.{Plan}
use Rattle.vd_play.specs.Journal.{queue_script, queue_chains, queue_epochs}
use Rattle.vd_play.specs.Lane.{IsDriven, IsQueue}
use Rattle.vd_play.specs.Progress.{guest_bound, device_bound, bells_before}
use Rattle.vd_play.specs.Rings.{shadows_before}
use Rattle.vd_play.specs.Setting.{Setting, IsLawful}
use Rattle.vd_turns.specs.Turns.{GuestRun, DeviceRun}
use Rattle.vd_layout.specs.Layout.{LayoutModel}
use Rattle.vd_play.proofs.Bounds.{begun_low}
use Rattle.vd_play.proofs.Quiet.{offers_le}
use Rattle.vd_play.proofs.Rings.{shadows_before_low}

pub attaches_more : (es fs : List Event) → attaches (es ++ fs) ≡ attaches es + attaches fs
attaches_more [] fs = omega arith
attaches_more (Attach at ring base mode settings map ∷ es) fs = omega (arith, attaches_more es fs)
attaches_more (Suspend at base ∷ es) fs = attaches_more es fs
attaches_more (Reset at ∷ es) fs = attaches_more es fs

module _ {D E G X C : Type 0} (s : Setting D E G X C) (law : IsLawful s) (plan : Plan) (q : ℕ) where
  pub record GuestPaced (guest guest' : G) (made : ℕ) (v : DriverView) : Type 0 where
    pub heard : s.guest.heard guest' ≤ driver_hearings v
    pub low : s.guest.accesses guest' ≤ guest_bound (length (queue_chains plan q))
    pub counted : s.guest.accesses guest' ≡ s.guest.accesses guest + made

  -- a guest after some steps
  pub guest_paced : (made : ℕ) (words' : RingWords) (guest guest' : G) (v : DriverView) (w : DeviceView)
      → s.guest.heard guest ≤ driver_hearings v → s.guest.accesses guest ≤ guest_bound (length (queue_chains plan q))
      → (r : GuestRun s.layout s.guest words'.words v w guest guest' made) → IsDriven s plan q words' guest' r.view w → made ≤ 4
      → GuestPaced guest guest' made r.view
  guest_paced made words' guest guest' v w before low r k few =
      let n : ℕ = length (queue_chains plan q) in
      let signals : RingSignals r.view w = law.layout.signals words'.words r.view w r.ring in
      let lists : Lists r.view.frame r.view.done w.done = law.layout.lists words'.words r.view w r.ring in
      let offered : s.guest.offered guest' ≡ length (offers r.view.done) = law.guest.offered guest' r.view r.holds in
      let most : length (offers r.view.done) ≤ n = offers_le s law plan q words' guest' r.view w k in
      let returned : length (s.guest.returned guest') ≡ length (collects r.view.done) =
      ap length (law.guest.returned guest' r.view (queue_script plan q) r.holds k.part.script k.queue.plain)
      ∙ length-map (collects r.view.done) as_return in
      let counted : s.guest.accesses guest' ≡ s.guest.accesses guest + made = r.accesses (omega (arith, low, k.queue.few)) in
      let heard : s.guest.heard guest' ≤ driver_hearings r.view = omega (arith, r.heard, before) in
      let bells : r.view.heard ≤ length (gives w.done) =
      omega (arith, signals.calls.heard, signals.calls.bells, few_gives r.view.frame w.done lists.entries) in
      let pace : s.guest.accesses guest' ≤ 64 * (s.guest.offered guest' + length (s.guest.returned guest') + s.guest.heard guest' + 1) =
      law.guest.pace guest' (omega (arith, low, k.queue.few, counted))
      (omega (arith, heard, bells, lists.some, lists.count, most, k.queue.few)) in
      record {
        heard = heard;
        low = omega (arith, pace, offered, returned, heard, bells, lists.some, lists.count, lists.fewer, most);
        counted = counted;
      }

  -- bells that a device hears are stored for chains that were offered
  pub device_bells : (words : List ℕ) (v : DriverView) (w : DeviceView) → s.layout.ring words v w → w.heard ≤ length (offers v.done)
  device_bells words v w ring = let signals : RingSignals v w = law.layout.signals words v w ring in
      omega (arith, signals.kicks.heard, signals.kicks.bells)

  pub record DevicePaced (n : ℕ) (device device' : X) (made : ℕ) : Type 0 where
    pub low : s.party.accesses device' ≤ device_bound n (s.party.heard device') (attaches (s.party.events device'))
    pub counted : s.party.accesses device' ≡ s.party.accesses device + made

  -- a device after some steps, on any ring
  pub device_paced : (n made : ℕ) (words' : List ℕ) (device device' : X) (v : DriverView) (w : DeviceView) (by : Attached)
      → s.party.accesses device ≤ device_bound n (s.party.heard device) (attaches (s.party.events device))
      → (r : DeviceRun s.layout s.party words' v w device device' made) → made ≤ 4 → s.party.attached device ≡ Some by → IsData by.queue
      → by.at + by.count ≤ n → n ≤ 200000 → length (offers v.done) ≤ 300000 → s.party.heard device ≤ 8000000
      → attaches (s.party.events device) ≤ 200 → DevicePaced n device device' made
  device_paced n made words' device device' v w by low r few is for within short offered hears times =
      let lists : Lists v.frame v.done r.view.done = law.layout.lists words' v r.view r.ring in
      let is' = r.served.attached ∙ is in
      let serves : IsServing (s.party.begun device') by r.view.done = law.party.serves device' r.view by r.holds is' for in
      let bells : r.view.heard ≤ length (offers v.done) = device_bells words' v r.view r.ring in
      let counted : s.party.accesses device' ≡ s.party.accesses device + made = r.accesses (omega (arith, low, short, hears, times)) in
      let pace = law.party.pace device' r.view by r.holds is' (omega (arith, counted, low, short, hears, times))
      (omega (arith, r.heard, hears, bells, offered)) in
      record {
        low = omega (arith, pace, serves.as_many, serves.before, serves.few, lists.count, within);
        counted = counted;
      }

-- the bells that were stored before are bounded
pub bells_low : (l : LayoutModel) (plan : Plan) (q k : ℕ) → IsQueue l plan q → k ≤ 18 → k ≤ length (queue_epochs plan q)
    → bells_before plan q k ≤ 2 * length (queue_chains plan q) + plan.size * 18
bells_low l plan q k queue few within =
    let shadows : shadows_before plan k ≤ 18 = omega (arith, shadows_before_low plan k, few) in omega (
      arith,
      begun_low (length (queue_chains plan q)) (queue_epochs plan q) k queue.chained within,
      mul-le-mul_left plan.size shadows,
    )

pub hears_low : (l : LayoutModel) (plan : Plan) (q k heard relays : ℕ) (v : DriverView) (w : DeviceView) → IsQueue l plan q → k ≤ 18
    → k ≤ length (queue_epochs plan q) → w.heard ≤ length (offers v.done) → length (offers v.done) ≤ length (queue_chains plan q)
    → heard + relays ≤ device_hearings w + bells_before plan q k → heard ≤ 8000000
hears_low l plan q k heard relays v w queue few within bells offered h = omega (
  arith,
  h,
  bells_low l plan q k queue few within,
  bells,
  offered,
  queue.few,
  queue.sized,
)
