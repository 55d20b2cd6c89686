-- A quiet lane: where each live party sleeps without a signal, no device is live, and after the last chain no guest is.
use Rattle.std.proofs.Common.{◌≡◌, ◌⊎◌, inl, inr, ℕ, ◌+◌, ◌<◌, ◌≤◌, Some, List, [], ◌∷◌, length, refl, sym, ap, subst, arith}
use Rattle.std.specs.List.{sum_by}
use Rattle.std.proofs.lemmas.Option.{get_or_from_slice_get}
use Rattle.vd_model.specs.declared.chain.Piece.{Piece}
use Rattle.vd_model.specs.Chains.{needs}
use Rattle.vd_words.specs.Plain.{RingWords}
use Rattle.vd_ring.specs.declared.frame.Frame.{Frame}
use Rattle.vd_ring.specs.declared.driver.DriverDone.{DriverDone}
use Rattle.vd_ring.specs.declared.driver.DriverView.{DriverView}
use Rattle.vd_ring.specs.declared.device.DeviceView.{DeviceView}
use Rattle.vd_ring.specs.Frames.{Fits}
use Rattle.vd_ring.specs.History.{offers, collects, takes, gives, open_at, chain}
use Rattle.vd_ring.specs.Signals.{nothing}
use Rattle.vd_ring.specs.Sleep.{DriverWaits, DeviceWaits, driver_owed, device_owed}
use Rattle.vd_ring.proofs.Quiet.{quiet_device, quiet_driver}
use Rattle.vd_layout.specs.Driver.{HasRoom}
use Rattle.vd_bus.specs.declared.device.Attached.{Attached}
use Rattle.vd_bus.specs.Device.{IsServing}
use Rattle.vd_bus.specs.Orders.{IsData}
use Rattle.vd_machine.specs.File.{Plan}
use Rattle.vd_play.specs.Journal.{queue_script, queue_chains, guest_frame}
use Rattle.vd_play.specs.Lane.{IsDriven}
use Rattle.vd_play.specs.Setting.{Setting, IsLawful}
use Rattle.vd_play.proofs.Bounds.{at_index}
use Rattle.vd_play.proofs.Lists.{length_le}

-- a ring on which no chain is open has room for each chain that fits it
pub empty_room : (f : Frame) (o : List DriverDone) (c : List Piece) (ks : List ℕ) → open_at o ≡ ks → length ks ≡ 0
    → needs f.features c ≤ f.size → HasRoom f o c
empty_room f o c [] is none fits = subst (λ (js : List ℕ). sum_by (λ k. needs f.features (chain o k)) js + needs f.features c ≤ f.size)
    (sym is) (omega arith)
empty_room f o c (k ∷ ks) is none fits = absurd (omega arith)

module _ {D E G X C : Type 0} (s : Setting D E G X C) (law : IsLawful s) (plan : Plan) (q : ℕ) (words : RingWords) (guest : G)
    (v : DriverView) (w : DeviceView) (k : IsDriven s plan q words guest v w) where
  pub offers_le : length (offers v.done) ≤ length (queue_chains plan q)
  offers_le = length_le (offers v.done) (queue_chains plan q)
      (law.guest.offers guest v (queue_script plan q) k.part.holds k.part.script k.queue.plain)

  -- a guest that is done or sleeps has checked all that it published
  guest_idle : s.guest.is_done guest ⊎ DriverWaits v w → driver_owed v.doing ≡ nothing
  guest_idle (inl done) = ap driver_owed (law.guest.done guest v (queue_script plan q) k.part.holds k.part.script k.queue.plain done).idle
  guest_idle (inr waits) = ap driver_owed waits.idle

  -- what lies before a side that waits, where the other side owes nothing
  pub taken_all : s.guest.is_done guest ⊎ DriverWaits v w → DeviceWaits v w → takes w.done ≡ offers v.done
  taken_all still sleeps = quiet_device v w (law.layout.places words.words v w k.ring) (law.layout.lists words.words v w k.ring)
      (law.layout.signals words.words v w k.ring) sleeps (guest_idle still)

  pub collected_all : DriverWaits v w → device_owed w.doing ≡ nothing → collects v.done ≡ gives w.done
  collected_all waits none = quiet_driver v w (law.layout.places words.words v w k.ring) (law.layout.lists words.words v w k.ring)
      (law.layout.signals words.words v w k.ring) waits none

  -- a guest isn't done, nor does it sleep, while all that it offered was given, and more is left
  pub no_rest : s.guest.is_done guest ⊎ DriverWaits v w → device_owed w.doing ≡ nothing → length (offers v.done) ≡ length (gives w.done)
      → length (offers v.done) < length (queue_chains plan q) → ⊥
  no_rest (inl done) none all more = let whole =
      law.guest.done guest v (queue_script plan q) k.part.holds k.part.script k.queue.plain done in
      absurd (omega (arith, ap length whole.offers))
  no_rest (inr waits) none all more =
      let cs : List (List Piece) = queue_chains plan q in
      let collected : collects v.done ≡ gives w.done = collected_all waits none in
      let empty : length (open_at v.done) ≡ 0 = omega (arith, ap length collected, (law.layout.places words.words v w k.ring).count) in
      let c = at_index cs (length (offers v.done)) more in
      let fits : Fits (guest_frame s.layout plan q) c.0 =
      subst (Fits (guest_frame s.layout plan q)) (get_or_from_slice_get cs (length (offers v.done)) c.0 c.0 c.1)
      (k.queue.fits (length (offers v.done)) c.0 more) in
      let here : Fits v.frame c.0 = subst (λ (f : Frame). Fits f c.0) (sym k.part.framed) fits in
      law.guest.armed guest v (queue_script plan q) waits.at k.part.holds k.part.script k.queue.plain waits.armed c.0 c.1
      (empty_room v.frame v.done c.0 (open_at v.done) refl empty here.size)

  -- once all chains were given a guest that sleeps is done
  pub all_back : device_owed w.doing ≡ nothing → length (takes w.done) ≡ length (gives w.done)
      → length (queue_chains plan q) ≤ length (takes w.done) → s.guest.is_done guest ⊎ DriverWaits v w → s.guest.is_done guest
  all_back none even all (inl done) = done
  all_back none even all (inr waits) =
      let collected = collected_all waits none in
      let lists = law.layout.lists words.words v w k.ring in
      let offered : length (offers v.done) ≡ length (queue_chains plan q) = omega (arith, all, lists.some, offers_le) in
      law.guest.finishes guest v (queue_script plan q) k.part.holds k.part.script k.queue.plain record {
        offers = Rattle.vd_play.proofs.Lists.prefix_whole (offers v.done) (queue_chains plan q)
            (law.guest.offers guest v (queue_script plan q) k.part.holds k.part.script k.queue.plain) offered;
        collects = omega (arith, ap length collected, even, all, lists.some, offers_le);
        idle = waits.idle;
      }

-- not both sleep while the device has chains to begin
pub no_quiet : {D E G X C : Type 0} (s : Setting D E G X C) (law : IsLawful s) (plan : Plan) (q : ℕ) (words : RingWords) (guest : G)
    (device : X) (v : DriverView) (w : DeviceView) (by : Attached) → IsDriven s plan q words guest v w → s.party.holds device w
    → s.party.attached device ≡ Some by → IsData by.queue → by.from ≡ by.at
    → by.at + by.count ≤ length (queue_chains plan q) → s.guest.is_done guest ⊎ DriverWaits v w → DeviceWaits v w → ⊥
no_quiet s law plan q words guest device v w by k holds is for from low still sleeps =
    let few = law.party.armed device w by holds is sleeps.at sleeps.armed in
    let taken : takes w.done ≡ offers v.done = taken_all s law plan q words guest v w k still sleeps in
    let serves : IsServing (s.party.begun device) by w.done = law.party.serves device w by holds is for in
    no_rest s law plan q words guest v w k still (ap device_owed sleeps.idle)
    (omega (arith, ap length taken, ap length few.0, (law.layout.lists words.words v w k.ring).count))
    (omega (arith, ap length taken, serves.as_many, from, few.1))
