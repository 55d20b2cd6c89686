-- Each lane begins an epoch once its device is attached.
use Rattle.std.proofs.Common.{◌≡◌, ℕ, ◌+◌, ◌-◌, ◌<◌, Option, Some, None, IsSomeAnd, true, false, length, refl, sym, ◌∙◌, ap, subst, arith}
use Rattle.vd_model.specs.declared.base.Mode.TheVariants.{Pass, Shadow}
use Rattle.vd_words.specs.Plain.{RingWords}
use Rattle.vd_ring.specs.declared.device.DeviceView.{DeviceView}
use Rattle.vd_ring.specs.declared.frame.Frame.{Frame}
use Rattle.vd_bus.specs.Device.{IsAttach, control_settings}
use Rattle.vd_machine.specs.File.{Plan}
use Rattle.vd_switch.specs.Stills.{Shadows, IsNew}
use Rattle.vd_play.specs.declared.floor.Lane.{Lane}
use Rattle.vd_play.specs.declared.floor.Relaying.{Relaying}
use Rattle.vd_play.specs.declared.floor.ShadowRing.{ShadowRing}
use Rattle.vd_play.specs.Attaching.{IsSameLane, CanShadow, HasShadowed, removed_last}
use Rattle.vd_play.specs.Before.{begun_at, resets}
use Rattle.vd_play.specs.Commands.{settings_at}
use Rattle.vd_play.specs.Epochs.{mode_at}
use Rattle.vd_play.specs.Journal.{queue_epochs, guest_frame}
use Rattle.vd_play.specs.Kits.{IsShadowRing, HasKits}
use Rattle.vd_play.specs.Orders.{pass_order, shadow_order}
use Rattle.vd_play.specs.Progress.{IsStopped, IsShadowing, RelayingBy, StoppedWith, InEpochWith, IsPlain, Stopped, InEpoch}
use Rattle.vd_play.specs.Setting.{Setting, IsLawful}
use Rattle.vd_play.proofs.Begin.{pass_begins}
use Rattle.vd_play.proofs.KitsTaken.{kits_pass, some_kit, kit_is, next_kit, kits_shadow}
use Rattle.vd_play.proofs.Lists.{some_same}
use Rattle.vd_play.proofs.Renewals.{Renews}
use Rattle.vd_play.proofs.ShadowLanes.{plain_stopped}
use Rattle.vd_play.proofs.ShadowBegin.{shadow_starts}

guest_framed : {D E G X C : Type 0} (s : Setting D E G X C) (law : IsLawful s) (plan : Plan) (q k : ℕ) (words : RingWords) (end : E)
    (relayed : ℕ) (guest : G) (device : X) → (p : IsStopped s plan q k 0 words end relayed guest device)
    → p.device_view.frame ≡ guest_frame s.layout plan q
guest_framed s law plan q k words end relayed guest device p =
    (law.layout.wide words.words p.view p.device_view p.kept.driven.ring).1 ∙ p.kept.driven.part.framed

module _ {L D E G X C : Type 0} (s : Setting D E G X C) (law : IsLawful s) (plan : Plan) (q k : ℕ) where
  -- in the mode pass
  pub lane_passes : (control : Option X) → control_settings s.party.settings control ≡ settings_at plan k
      → (to : ℕ) (a b : Lane L D E) (guest : G) (device device1 device' : X) → to ≡ begun_at plan q (k + 1)
      → k < length (queue_epochs plan q) → mode_at plan k ≡ Pass
      → IsSameLane a b × (b.relaying ≡ a.relaying) × (b.kits ≡ a.kits) → b.still ≡ None
      → ((end : E) → a.still ≡ Some end
      → IsAttach s.device s.party (pass_order s.device plan q (to - length (s.party.begun device1)) end) control end device1 device')
      → Stopped s plan q k a guest device → Renews s.party (resets plan q k) device device1
      → InEpoch s plan q true k 0 b guest device' × (s.party.accesses device' ≡ s.party.accesses device1)
  lane_passes control set to a b guest device device1 device' is more mode same none at p n =
      let began = pass_begins s law plan q k control set to a.words b.words a.still b.still a.relaying b.relaying a.relayed b.relayed guest
      device
      device1 device' is more mode same.0 none same.1 at p.held n in (
        record {
          held = began.0;
          kits = subst (λ z. HasKits s.driver s.device s.layout plan q (k + 1) z.items) (sym same.2)
              (kits_pass s.driver s.device s.layout plan q k a.kits.items p.kits mode);
          plain = subst (λ (z : Option (Relaying L D E)). IsPlain z) (sym same.1)
              (plain_stopped s plan q k a.words a.still a.relaying a.relayed guest device p.held);
        },
        began.1,
      )

  -- ---- in the mode shadow

  pub still_stands : (words : RingWords) (still : Option E) (relaying : Option (Relaying L D E)) (relayed : ℕ) (guest : G) (device : X)
      → StoppedWith s plan q k words still relaying relayed guest device
      → IsSomeAnd still (λ end. (w : DeviceView) × s.device.stands end w × (false ≡ w.frame.control))
  still_stands words None relaying relayed guest device p = absurd p
  still_stands words (Some end) (Some x) relayed guest device p = absurd p
  still_stands words (Some end) None relayed guest device p = (
    p.device_view,
    p.rests.stands,
    sym
        (ap (λ (f : Frame). f.control) (guest_framed s law plan q k words end relayed guest device p)),
  )

  pub still_framed : (words : RingWords) (still : Option E) (relaying : Option (Relaying L D E)) (relayed : ℕ) (guest : G) (device : X)
      → StoppedWith s plan q k words still relaying relayed guest device → (end : E) (w : DeviceView) → still ≡ Some end
      → s.device.stands end w → (w.frame.size ≡ plan.size) × (w.frame.features ≡ plan.features)
  still_framed words None relaying relayed guest device p end w is stands = absurd p
  still_framed words (Some own) (Some x) relayed guest device p end w is stands = absurd p
  still_framed words (Some own) None relayed guest device p end w is stands =
      let mine = law.layout.device_end.sized own p.device_view p.rests.stands in
      let here = law.layout.device_end.sized own w
      (subst (λ (z : E). s.device.stands z w) (sym (some_same own end (Some own) refl is)) stands) in
      let framed = guest_framed s law plan q k words own relayed guest device p in (
        sym here.0 ∙ mine.0 ∙ ap (λ (f : Frame). f.size) framed,
        sym here.1 ∙ mine.1 ∙ ap (λ (f : Frame). f.features) framed,
      )

  pub can_shadow : (count : ℕ) (a : Lane L D E) (guest : G) (device : X) → k < length plan.switches + 2 → mode_at plan k ≡ Shadow
      → Stopped s plan q k a guest device
      → CanShadow s.driver s.device s.layout (shadow_order s.layout plan k q count) a.still a.kits.items
  can_shadow count a guest device less mode p =
      let next = next_kit s.driver s.device s.layout plan q k a.kits.items p.kits less mode in
      record {
        ring = next.0;
        next = next.1;
        some = some_kit s.driver s.device s.layout plan q k a.kits.items p.kits less mode;
        kit = (kit_is s.driver s.device s.layout plan q k a.kits.items p.kits less mode next.0 next.1).kit;
        stands = still_stands a.words a.still a.relaying a.relayed guest device p.held;
        framed = still_framed a.words a.still a.relaying a.relayed guest device p.held;
        shadow = omega arith;
        base = refl;
      }

  held_shadows : (control : Option X) → control_settings s.party.settings control ≡ settings_at plan k
      → (to : ℕ) (words words' : RingWords) (still still' : Option E) (relaying relaying' : Option (Relaying L D E))
      (relayed relayed' : ℕ) (guest : G) (device device1 device' : X) (end : E) (ring : ShadowRing L D E) (x : Relaying L D E)
      → to ≡ begun_at plan q (k + 1) → k < length (queue_epochs plan q) → mode_at plan k ≡ Shadow
      → (words' ≡ words) × (relayed' ≡ relayed) → still' ≡ None → relaying' ≡ Some x → still ≡ Some end → x.words ≡ ring.words
      → Shadows s.device s.driver end ring.kit.driver ring.kit.table.origins x.lane.relay.state x.lane.relay.counts
      → IsNew x.lane.relay.state x.lane.relay.counts
      → IsAttach s.device s.party (shadow_order s.layout plan k q (to - length (s.party.begun device1))) control ring.kit.device device1
      device'
      → IsShadowRing s.driver s.device s.layout plan q k ring
      → StoppedWith s plan q k words still relaying relayed guest device → Renews s.party (resets plan q k) device device1
      → InEpochWith s plan q true k 0 words' still' relaying' relayed' guest device'
  held_shadows control set to words words' None still' relaying relaying' relayed relayed' guest device device1 device' end ring x is more
      mode same
      none
      has was own shadows fresh a kit p n = absurd p
  held_shadows control set to words words' (Some old) still' (Some y) relaying' relayed relayed' guest device device1 device' end ring x is
      more mode
      same none has was own shadows fresh a kit p n = absurd p
  held_shadows control set to words words' (Some old) still' None relaying' relayed relayed' guest device device1 device' end ring x is
      more mode
      same none has was own shadows fresh a kit p n =
      let r = x.lane.relay.state in
      let c = x.lane.relay.counts in
      let stopped : IsStopped s plan q k 0 words end relayed guest device = subst
      (λ (z : E). IsStopped s plan q k 0 words z relayed guest device) (some_same old end (Some old) refl was) p in
      let begun : IsShadowing s plan q k 0 words x.words.words r c relayed guest device' = subst
      (λ (z : RingWords). IsShadowing s plan q k 0 words z.words r c relayed guest device') (sym own)
      (shadow_starts s law plan q k to words end relayed guest device device1 device' ring r c control set is more mode stopped n kit
      shadows fresh
      a) in
      rw (same.0, none, has, same.1)
      (subst (λ b. RelayingBy b s plan q k 0 words x.words.words r c relayed guest device') (sym fresh.winding) begun)

  pub lane_shadows : (control : Option X) → control_settings s.party.settings control ≡ settings_at plan k
      → (to : ℕ) (a b : Lane L D E) (guest : G) (device device1 device' : X) → to ≡ begun_at plan q (k + 1)
      → k < length (queue_epochs plan q) → k < length plan.switches + 2 → mode_at plan k ≡ Shadow
      → IsSameLane a b × (b.kits.items ≡ removed_last a.kits.items) → b.still ≡ None
      → HasShadowed s.driver s.device s.party (shadow_order s.layout plan k q (to - length (s.party.begun device1))) control a b device1
      device'
      → Stopped s plan q k a guest device → Renews s.party (resets plan q k) device device1
      → InEpoch s plan q true k 0 b guest device' × (s.party.accesses device' ≡ s.party.accesses device1)
  lane_shadows control set to a b guest device device1 device' is more less mode same none h p n = (
    record {
      held = held_shadows control set to a.words b.words a.still b.still a.relaying b.relaying a.relayed b.relayed guest device device1
          device' h.end
          h.ring h.lane is more mode same.0 none h.is h.was h.words h.relays h.fresh h.attached
          (kit_is s.driver s.device s.layout plan q k a.kits.items p.kits less mode h.ring h.next) p.held n;
      kits = subst (HasKits s.driver s.device s.layout plan q (k + 1)) (sym same.1)
          (kits_shadow s.driver s.device s.layout plan q k a.kits.items p.kits less mode);
      plain = subst (λ (z : Option (Relaying L D E)). IsPlain z) (sym h.is) h.plain;
    },
    h.attached.noted.counts.0,
  )
