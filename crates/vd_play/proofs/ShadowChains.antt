-- What the device of a shadow ring has begun once its epoch's chains are begun, and what the epoch orders of it.
use Rattle.std.proofs.Common.{◌≡◌, ℕ, ◌+◌, ◌-◌, ◌*◌, List, [], ◌∷◌, ◌++◌, length, map, drop, refl, ◌∙◌, ap, arith}
use Rattle.std.proofs.lemmas.List.{take_all}
use Rattle.vd_model.specs.declared.base.Mode.TheVariants.{Shadow}
use Rattle.vd_model.specs.declared.chain.Piece.{Piece}
use Rattle.vd_model.specs.declared.record.Begun.{Begun}
use Rattle.vd_model.specs.Moved.{moved}
use Rattle.vd_words.specs.Plain.{RingWords}
use Rattle.vd_ring.specs.declared.driver.DriverView.{DriverView}
use Rattle.vd_ring.specs.declared.device.DeviceView.{DeviceView}
use Rattle.vd_layout.specs.Device.{DeviceModel}
use Rattle.vd_layout.specs.Layout.{LayoutModel}
use Rattle.vd_bus.specs.declared.device.Attached.{Attached}
use Rattle.vd_bus.specs.declared.event.Event.{Event}
use Rattle.vd_bus.specs.declared.event.Event.TheVariants.{Suspend}
use Rattle.vd_bus.specs.Device.{chains_of}
use Rattle.vd_relay.specs.declared.counts.Counts.{Counts}
use Rattle.vd_relay.specs.declared.state.State.{State}
use Rattle.vd_machine.specs.File.{Plan}
use Rattle.vd_play.specs.Before.{begun_at, resets}
use Rattle.vd_play.specs.Epochs.{Epoch, renewed_at}
use Rattle.vd_play.specs.Journal.{queue_chains, queue_epochs, own_chains, epoch_chains, epoch_events, epoch_attach, epoch_suspend, shadow_map, shadow_frame}
use Rattle.vd_play.specs.Orders.{shadow_attach}
use Rattle.vd_play.specs.Setting.{Setting, IsLawful}
use Rattle.vd_play.specs.Shadowed.{IsRelayed}
use Rattle.vd_play.proofs.Bounds.{Bounded}
use Rattle.vd_play.proofs.Moves.{epoch_length}
use Rattle.vd_play.proofs.Passed.{events_split}
use Rattle.vd_play.proofs.ShadowCut.{shadow_chains}

-- ---- an epoch of the mode shadow

-- the device is suspended on the shadow ring of epoch k, which has the epoch's chains then
abbrev pub shadow_suspend : {E : Type 0} → DeviceModel E → LayoutModel → Plan → ℕ → ℕ → Epoch → Event
shadow_suspend e l plan q k ep = Suspend ep.end
    (record { 0 = e.base_of (shadow_frame l plan (16 * (k + 1) + q)) (map (moved (shadow_map plan)) (own_chains plan q ep)) })

attach_is : {E : Type 0} (e : DeviceModel E) (l : LayoutModel) (plan : Plan) (q k : ℕ) (ep : Epoch) → ep.mode ≡ Shadow → ep.number ≡ k
    → epoch_attach e l plan q ep ≡ shadow_attach l plan q k ep.first
attach_is e l plan q k ep m n = rw (m, n) refl

suspend_is : {E : Type 0} (e : DeviceModel E) (l : LayoutModel) (plan : Plan) (q k : ℕ) (ep : Epoch) → ep.mode ≡ Shadow → ep.number ≡ k
    → epoch_suspend e l plan q ep ≡ shadow_suspend e l plan q k ep
suspend_is e l plan q k ep m n = rw (m, n) refl

pub shadow_events : {E : Type 0} (e : DeviceModel E) (l : LayoutModel) (plan : Plan) (q k : ℕ) (ep : Epoch) → ep.mode ≡ Shadow
    → ep.renewed ≡ renewed_at plan k → ep.number ≡ k → ep.first ≡ begun_at plan q k → epoch_events e l plan q ep ≡ resets plan q k
    ++ shadow_attach l plan q k (begun_at plan q k) ∷ shadow_suspend e l plan q k ep ∷ []
shadow_events e l plan q k ep m r n first =
    let front : List Event = resets plan q k in
    let attach : Event = shadow_attach l plan q k (begun_at plan q k) in
    events_split e l plan q k ep r first
    ∙ ap (λ (x : Event). front ++ x ∷ epoch_suspend e l plan q ep ∷ []) (attach_is e l plan q k ep m n
    ∙ ap (shadow_attach l plan q k) first)
    ∙ ap (λ (x : Event). front ++ attach ∷ x ∷ []) (suspend_is e l plan q k ep m n)

-- ---- its chains

module _ {D E G X C : Type 0} (s : Setting D E G X C) (law : IsLawful s) (plan : Plan) (q k : ℕ) (words : RingWords)
    (shadow_words : List ℕ) (r : State E D) (c : Counts) (guest : G) (device : X) (by : Attached) (v : DriverView) (w : DeviceView)
    (sv : DriverView) (sw : DeviceView) (p : IsRelayed s plan q k words shadow_words r c guest device by v w sv sw) where
  -- the chains begun since the attach are the epoch's, where all of them are begun
  pub begun_chains : length (s.party.begun device) ≡ begun_at plan q (k + 1)
      → (b : Bounded (length (queue_chains plan q)) (queue_epochs plan q) k)
      → chains_of (drop by.at (s.party.begun device)) ≡ epoch_chains plan q b.epoch
  begun_chains every b =
      let begun : List Begun = s.party.begun device in
      let own : List (List Piece) = epoch_chains plan q b.epoch in
      let long : length own ≡ b.epoch.end - b.epoch.first = epoch_length plan q b.epoch (omega (arith, b.end, b.low)) in
      ap (λ j. chains_of (drop j begun)) p.took_over.2
      ∙ shadow_chains s law plan q k words shadow_words r c guest device by v w sv sw p b.epoch b.is
      ∙ take_all (length begun - begun_at plan q k) own (omega (arith, every, long, b.first, b.end))
