-- What an epoch orders, and what an epoch of the mode pass does.
use Rattle.std.proofs.Common.{◌≡◌, ℕ, ◌+◌, Bool, List, [], ◌∷◌, ◌++◌, if◌then◌else◌, refl, ◌∙◌, ap}
use Rattle.std.proofs.lemmas.List.{append_assoc}
use Rattle.vd_model.specs.declared.base.Mode.TheVariants.{Pass}
use Rattle.vd_layout.specs.Device.{DeviceModel}
use Rattle.vd_layout.specs.Layout.{LayoutModel}
use Rattle.vd_bus.specs.declared.event.Event.{Event}
use Rattle.vd_bus.specs.declared.event.Event.TheVariants.{Reset}
use Rattle.vd_machine.specs.File.{Plan}
use Rattle.vd_play.specs.Before.{begun_at, resets}
use Rattle.vd_play.specs.Epochs.{Epoch, renewed_at}
use Rattle.vd_play.specs.Journal.{own_chains, epoch_chains, epoch_events, epoch_attach, epoch_suspend, attach_event, suspend_event}

-- one event more behind those up to an attach
pub two_events : (es es' old front : List Event) (a b b' : Event) → es ≡ old ++ (front ++ a ∷ []) → es' ≡ es ++ b ∷ [] → b ≡ b'
    → es' ≡ old ++ (front ++ a ∷ b' ∷ [])
two_events es es' old front a b b' first second same =
    second ∙ ap (λ zs. zs ++ b ∷ []) first ∙ append_assoc old (front ++ a ∷ []) (b ∷ [])
    ∙ ap (λ zs. old ++ zs) (append_assoc front (a ∷ []) (b ∷ [])) ∙ ap (λ z. old ++ (front ++ a ∷ z ∷ [])) same

module _ {E : Type 0} (e : DeviceModel E) (l : LayoutModel) (plan : Plan) (q k : ℕ) (ep : Epoch) (renewed : ep.renewed ≡ renewed_at plan k)
    (first : ep.first ≡ begun_at plan q k) where
  pub events_split : epoch_events e l plan q ep ≡ resets plan q k ++ epoch_attach e l plan q ep ∷ epoch_suspend e l plan q ep ∷ []
  events_split =
      let rest : List Event = epoch_attach e l plan q ep ∷ epoch_suspend e l plan q ep ∷ [] in
      ap (λ (b : Bool). (if b then Reset ep.first ∷ [] else []) ++ rest) renewed
      ∙ ap (λ (n : ℕ). (if renewed_at plan k then Reset n ∷ [] else []) ++ rest) first

  pass_attach : ep.mode ≡ Pass → ep.number ≡ k → epoch_attach e l plan q ep ≡ attach_event e l plan q k ep.first
  pass_attach m n = rw (m, n) refl

  pass_suspend : ep.mode ≡ Pass → epoch_suspend e l plan q ep ≡ suspend_event e l plan q ep.end
  pass_suspend m = rw m refl

  pub pass_events : ep.mode ≡ Pass → ep.number ≡ k → ep.end ≡ begun_at plan q (k + 1) → epoch_events e l plan q ep ≡ resets plan q k
      ++ attach_event e l plan q k (begun_at plan q k) ∷ suspend_event e l plan q (begun_at plan q (k + 1)) ∷ []
  pass_events m n end =
      let front : List Event = resets plan q k in
      let attach : Event = attach_event e l plan q k (begun_at plan q k) in
      events_split
      ∙ ap (λ (x : Event). front ++ x ∷ epoch_suspend e l plan q ep ∷ []) (pass_attach m n ∙ ap (attach_event e l plan q k) first)
      ∙ ap (λ (x : Event). front ++ attach ∷ x ∷ []) (pass_suspend m ∙ ap (suspend_event e l plan q) end)

pub pass_chains : (plan : Plan) (q : ℕ) (ep : Epoch) → ep.mode ≡ Pass → epoch_chains plan q ep ≡ own_chains plan q ep
pass_chains plan q ep m = rw m refl
