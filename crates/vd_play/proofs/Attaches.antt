-- At an epoch's begin the lanes' devices are attached one after the other.
use Rattle.std.proofs.Common.{◌≡◌, ℕ, ◌+◌, ◌-◌, ◌<◌, ◌≤◌, true, Option, Some, None, List, length, set, slice_get, refl, sym, subst, arith}
use Rattle.std.specs.Vec.{with_item}
use Rattle.std.proofs.lemmas.Option.{slice_get_within}
use Rattle.vd_model.specs.declared.base.Mode.TheVariants.{Pass, Shadow}
use Rattle.vd_bus.specs.Bus.{BusState, vring_of}
use Rattle.vd_bus.specs.BusRings.{terms}
use Rattle.vd_bus.specs.Device.{IsAttach, IsRefused, control_settings}
use Rattle.vd_bus.specs.Orders.{Terms}
use Rattle.vd_machine.specs.File.{Plan}
use Rattle.vd_play.specs.declared.bench.Bench.{Bench}
use Rattle.vd_play.specs.declared.floor.Lane.{Lane}
use Rattle.vd_play.specs.Attaching.{IsSameLane, CanShadow, HasShadowed, removed_last}
use Rattle.vd_play.specs.Before.{begun_at, resets}
use Rattle.vd_play.specs.Commands.{settings_at}
use Rattle.vd_play.specs.Each.{EachLane, Stage, HasLanes}
use Rattle.vd_play.specs.Epochs.{mode_at}
use Rattle.vd_play.specs.Journal.{queue_epochs}
use Rattle.vd_play.specs.Orders.{pass_order, shadow_order, CanAttach}
use Rattle.vd_play.specs.Played.{IsCut, KeepsBench, HasNoFault}
use Rattle.vd_play.specs.Progress.{Stopped, InEpoch, all_made}
use Rattle.vd_play.specs.Renewing.{Renewed, AllRenewed}
use Rattle.vd_play.specs.Setting.{Setting, IsLawful}
use Rattle.vd_play.specs.Setup.{serving, HasBase, IsReady}
use Rattle.vd_play.proofs.Begin.{asks}
use Rattle.vd_play.proofs.Begins.{lane_passes, can_shadow, lane_shadows}
use Rattle.vd_play.proofs.Benches.{keeps_none, keeps_device, faults_set, lanes_kept}
use Rattle.vd_play.proofs.Cut.{cut_bench}
use Rattle.vd_play.proofs.Each.{stage_start, stage_read, stage_device}
use Rattle.vd_play.proofs.Renewals.{Renews, renews_stopped}
use Rattle.vd_play.proofs.Setups.{base_kept, ordered_is, ordered_shadow, ready_next}
use Rattle.vd_play.proofs.Sums.{sum_set}

-- the lanes below i have begun epoch k, and the others are still before it; no device has refused so far, and nothing else has changed
pub record HasAttached {L D E G X C : Type 0} (s : Setting D E G X C) (plan : Plan) (k : ℕ) (lanes0 : List (Lane L D E))
    (bench0 : Bench G X) (i : ℕ) (lanes : List (Lane L D E)) (bench : Bench G X) (b : BusState) : Type 0 where
  pub parties : HasLanes (length plan.queues) bench
  pub keeps : KeepsBench s.party (length plan.queues) bench0 bench
  pub faults : HasNoFault s.party bench0 bench
  pub each : EachLane (Stage i (λ q a b x. InEpoch s plan q true k 0 a b x) (λ q a b x. Renewed s plan q k a b x)) lanes
      bench.guests.items bench.devices.items
  pub ready : IsReady s.device s.layout.fresh_base plan (mode_at plan k) k lanes b
  pub counted : all_made s lanes bench ≡ all_made s lanes0 bench0

pub attached_none : {L D E G X C : Type 0} (s : Setting D E G X C) (plan : Plan) (k : ℕ) (lanes : List (Lane L D E)) (bench : Bench G X)
    (b : BusState) → HasLanes (length plan.queues) bench → AllRenewed s plan k lanes bench
    → IsReady s.device s.layout.fresh_base plan (mode_at plan k) k lanes b → HasAttached s plan k lanes bench 0 lanes bench b
attached_none s plan k lanes bench b parties stopped ready = record {
  parties = parties;
  keeps = keeps_none s.party (length plan.queues) bench;
  faults = refl;
  each = stage_start _ _ lanes bench.guests.items bench.devices.items stopped;
  ready = ready;
  counted = refl;
}

-- lane i is next, with its device, which has begun so many chains; the epoch ends at the chain `stop`
pub record IsNext {L D E G X C : Type 0} (s : Setting D E G X C) (plan : Plan) (k : ℕ) (lanes0 : List (Lane L D E)) (bench0 : Bench G X)
    (i : ℕ) (lanes : List (Lane L D E)) (bench : Bench G X) (b : BusState) (device : X) (stop begun : ℕ) : Type 0 where
  pub so_far : HasAttached s plan k lanes0 bench0 i lanes bench b
  pub low : i < length plan.queues
  pub epoch : k < length plan.switches + 2
  pub guest : G
  pub at_guest : slice_get bench.guests.items i ≡ Some guest
  pub at_device : slice_get bench.devices.items i ≡ Some device
  pub to : (stop ≡ begun_at plan i (k + 1)) × (k < length (queue_epochs plan i))
  pub many : length (s.party.begun device) ≡ begun

module _ {L D E G X C : Type 0} {s : Setting D E G X C} (law : IsLawful s) {plan : Plan} {k : ℕ} {lanes0 : List (Lane L D E)}
    {bench0 : Bench G X} {i : ℕ} {lanes : List (Lane L D E)} {bench : Bench G X} {b : BusState} {device : X} {stop begun : ℕ}
    (p : IsNext s plan k lanes0 bench0 i lanes bench b device stop begun) where
  there : i < length bench.guests.items
  there = slice_get_within bench.guests.items i p.guest p.at_guest

  -- the device is written
  pub keeps_written : (device' : X) → s.party.carried device' ≡ s.party.carried device → KeepsBench s.party (length plan.queues) bench0
      (record { guests = bench.guests; devices = with_item bench.devices i device' })
  keeps_written device' =
      keeps_device s.party (length plan.queues) bench0 bench i device device' p.low there p.so_far.keeps p.at_device

  module _ (lane : Lane L D E) (at : slice_get lanes i ≡ Some lane) where
    renewed : Renewed s plan i k lane p.guest device
    renewed = stage_read (λ q a b x. InEpoch s plan q true k 0 a b x) (λ q a b x. Renewed s plan q k a b x) i lanes bench.guests.items
        bench.devices.items lane p.guest device p.so_far.each at p.at_guest p.at_device

    is_still : Stopped s plan i k lane p.guest renewed.before
    is_still = renewed.stopped

    anew : Renews s.party (resets plan i k) renewed.before device
    anew = renews_stopped s plan i k lane p.guest device renewed

    -- ---- before the attach

    pub can_attach : (begun ≤ stop) × CanAttach s.device s.party i (stop - begun) lane.still device
    can_attach = subst (λ (n : ℕ). (n ≤ stop) × CanAttach s.device s.party i (stop - n) lane.still device) p.many
        (asks s law plan i k stop lane.words lane.still lane.relaying lane.relayed p.guest renewed.before device p.to.0 p.to.1 is_still.held
        anew)

    pub has_base : mode_at plan k ≡ Pass → HasBase s.device lane.still (vring_of (serving b i) i)
    has_base mode = base_kept s.device s.layout.fresh_base plan (mode_at plan k) k lanes b p.so_far.ready i p.low mode lane at

    order_is : mode_at plan k ≡ Shadow → terms (serving b i) i (stop - begun) ≡ shadow_order s.layout plan k i (stop - begun)
    order_is mode = ordered_shadow s.device s.layout.fresh_base plan (mode_at plan k) k lanes b p.so_far.ready i p.low s.layout refl mode
        (stop - begun) lane at

    pub can_relay : mode_at plan k ≡ Shadow
        → CanShadow s.driver s.device s.layout (terms (serving b i) i (stop - begun)) lane.still lane.kits.items
    can_relay mode = subst (λ (t : Terms). CanShadow s.driver s.device s.layout t lane.still lane.kits.items) (sym (order_is mode))
        (can_shadow s law plan i k (stop - begun) lane p.guest renewed.before p.epoch mode is_still)

    module _ (lane' : Lane L D E) (device' : X) where
      -- ---- a refusal

      pub is_cut : IsRefused s.party device device'
          → EachLane (λ q a b x. IsCut s plan q b x) (set lanes i lane') bench.guests.items (set bench.devices.items i device')
      is_cut = cut_bench s law plan k i lanes bench lane lane' device device' p.epoch there p.so_far.each at p.at_device

      -- ---- an attach

      -- the lane has begun the epoch without a step
      abbrev HasBegun : Type 0
      HasBegun = InEpoch s plan i true k 0 lane' p.guest device' × (s.party.accesses device' ≡ s.party.accesses device)

      pub begins_pass : (control : Option X) → control_settings s.party.settings control ≡ settings_at plan k → mode_at plan k ≡ Pass
          → IsSameLane lane lane' × (lane'.relaying ≡ lane.relaying) × (lane'.kits ≡ lane.kits)
          → (lane'.still ≡ None) × ((end : E) → lane.still ≡ Some end
          → IsAttach s.device s.party (terms (serving b i) i (stop - begun)) control end device device') → HasBegun
      begins_pass control set mode same ok =
          lane_passes s law plan i k control set stop lane lane' p.guest renewed.before device device' p.to.0 p.to.1 mode same ok.0
          (λ end is. subst (λ (n : ℕ). IsAttach s.device s.party (pass_order s.device plan i (stop - n) end) control end device device')
          (sym p.many) (subst (λ (t : Terms). IsAttach s.device s.party t control end device device')
          (ordered_is s.device s.layout.fresh_base plan (mode_at plan k) k lanes b p.so_far.ready i p.low mode (stop - begun) lane end at
          is) (ok.1 end is))) is_still anew

      pub begins_shadow : (control : Option X) → control_settings s.party.settings control ≡ settings_at plan k → mode_at plan k ≡ Shadow
          → IsSameLane lane lane' × (lane'.kits.items ≡ removed_last lane.kits.items)
          → (lane'.still ≡ None)
          × HasShadowed s.driver s.device s.party (terms (serving b i) i (stop - begun)) control lane lane' device device' → HasBegun
      begins_shadow control set mode same ok =
          lane_shadows s law plan i k control set stop lane lane' p.guest renewed.before device device' p.to.0 p.to.1 p.epoch mode same ok.0
          (subst (λ (n : ℕ). HasShadowed s.driver s.device s.party (shadow_order s.layout plan k i (stop - n)) control lane lane' device
          device')
          (sym p.many)
          (subst (λ (t : Terms). HasShadowed s.driver s.device s.party t control lane lane' device device') (order_is mode) ok.1)) is_still
          anew

      pub attached_more : HasBegun → IsSameLane lane lane' → lane'.still ≡ None → s.party.carried device' ≡ s.party.carried device
          → s.party.faults device' ≡ s.party.faults device → (b' : BusState) → b' ≡ serving b i
          → HasAttached s plan k lanes0 bench0 (i + 1) (set lanes i lane')
          (record { guests = bench.guests; devices = with_item bench.devices i device' }) b'
      attached_more began same none carried unfailed b' served =
          let n : ℕ = length plan.queues in
          let new : Bench G X = record { guests = bench.guests; devices = with_item bench.devices i device' } in
          record {
            parties = lanes_kept s.party n bench new n
                (keeps_device s.party n bench bench i device device' p.low there (keeps_none s.party n bench) p.at_device carried)
                p.so_far.parties;
            keeps = keeps_written device' carried;
            faults = faults_set s.party bench0 bench new i device device' p.so_far.faults refl p.at_device unfailed;
            each = stage_device (λ q a b x. InEpoch s plan q true k 0 a b x) (λ q a b x. Renewed s plan q k a b x) i lanes
                bench.guests.items bench.devices.items lane' p.guest device' p.at_guest p.so_far.each began.0;
            ready = subst (λ (z : BusState). IsReady s.device s.layout.fresh_base plan (mode_at plan k) k (set lanes i lane') z)
                (sym served)
                (ready_next s.device s.layout.fresh_base plan (mode_at plan k) k lanes b p.so_far.ready i p.low lane' (λ _. none));
            counted = omega (
              arith,
              p.so_far.counted,
              began.1,
              same.1,
              sum_set s.party.accesses bench.devices.items i device device' p.at_device,
              sum_set (λ (z : Lane L D E). z.relayed) lanes i lane lane' at,
            );
          }
