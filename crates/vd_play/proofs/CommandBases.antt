-- What the control queue's device has journalled in the course of a play begins what the machine orders, by the bases of the shadow rings
-- that have come to their end, and any that the others may have.
use Rattle.std.proofs.Common.{◌≡◌, inl, inr, ℕ, ◌+◌, ◌<◌, ◌≤◌, nat_lt, Bool, true, false, if◌then◌else◌, Option, Some, List, [], ◌∷◌, ◌++◌, length, take, replicate, slice_get, refl, sym, ◌∙◌, ap, subst, arith}
use Rattle.std.specs.Option.{option_map_or}
use Rattle.std.proofs.lemmas.Bool.{cases_lt, lt-ltb, le-ltb}
use Rattle.std.proofs.lemmas.List.{append-nil, append_assoc, length-replicate, length-take}
use Rattle.std.proofs.lemmas.List.Elements.{All-replicate}
use Rattle.std.proofs.lemmas.Option.{slice_get_within}
use mathlib.Core.List.{IsPrefix}
use Rattle.vd_model.specs.declared.base.Base.{Base}
use Rattle.vd_model.specs.declared.base.Mode.{Mode}
use Rattle.vd_model.specs.declared.base.Mode.TheVariants.{Shadow}
use Rattle.vd_model.specs.declared.chain.Piece.{Piece}
use Rattle.vd_layout.specs.Device.{DeviceModel}
use Rattle.vd_layout.specs.Layout.{LayoutModel}
use Rattle.vd_control.specs.Settings.{default}
use Rattle.vd_bus.specs.declared.event.Event.{Event}
use Rattle.vd_bus.specs.declared.event.Event.TheVariants.{Attach, Suspend, Reset}
use Rattle.vd_switch.proofs.Controlling.{taken_whole}
use Rattle.vd_machine.specs.File.{Plan}
use Rattle.vd_play.specs.CommandLane.{AreBasesBefore, command_events_before, command_resets, command_attached}
use Rattle.vd_play.specs.Commands.{control_epochs}
use Rattle.vd_play.specs.ControlJournal.{epoch_commands, journalled_at, command_attach, command_suspend, command_events, control_events, IsControlChain, IsCommandBase, AreCommandBases}
use Rattle.vd_play.specs.ControlRings.{control_ring, control_shadow_frame}
use Rattle.vd_play.specs.Epochs.{Epoch, AreNumbered, mode_at}
use Rattle.vd_play.specs.Journal.{map_in}
use Rattle.vd_play.proofs.Bounds.{flat_more}
use Rattle.vd_play.proofs.CommandEvents.{flat_same}
use Rattle.vd_play.proofs.Lists.{prefix_through}
use Rattle.vd_play.proofs.Rooms.{front_of}

-- ---- bases

-- the shortest control chain
shortest : List Piece
shortest = record { addr = 0; len = 3; write = false } ∷ record { addr = 0; len = 1; write = true } ∷ []

is_control : IsControlChain shortest
unfolding shortest
is_control = record {
  command = record { addr = 0; len = 3; write = false };
  ack = record { addr = 0; len = 1; write = true };
  is = refl;
  reads = (refl, omega arith, omega arith);
  writes = (refl, refl);
}

-- how many commands epoch j has
abbrev many_in : Plan → ℕ → ℕ
many_in plan j = option_map_or (λ (ep : Epoch). length (epoch_commands plan ep)) (slice_get (control_epochs plan) j) 0

-- the base of its shadow ring, had it such chains alone
abbrev any_base : {E : Type 0} → DeviceModel E → LayoutModel → Plan → ℕ → Base
any_base e l plan j = record { 0 = e.base_of (control_shadow_frame l plan j) (replicate (many_in plan j) shortest) }

-- before epoch k as before
abbrev all_bases : {E : Type 0} → DeviceModel E → LayoutModel → Plan → ℕ → (ℕ → Base) → ℕ → Base
all_bases e l plan k bases j = if nat_lt j k then bases j else any_base e l plan j

module _ {E : Type 0} (e : DeviceModel E) (l : LayoutModel) (plan : Plan) (k : ℕ) (bases : ℕ → Base) where
  base_early : (j : ℕ) → j < k → all_bases e l plan k bases j ≡ bases j
  base_early j low = ap (λ (b : Bool). if b then bases j else any_base e l plan j) (lt-ltb j k low)

  base_late : (j : ℕ) → k ≤ j → all_bases e l plan k bases j ≡ any_base e l plan j
  base_late j high = ap (λ (b : Bool). if b then bases j else any_base e l plan j) (le-ltb j k high)

  all_based : AreBasesBefore e l plan k bases → AreCommandBases e l plan (all_bases e l plan k bases)
  all_based before j ep at =
      let n : ℕ = length (epoch_commands plan ep) in
      let many : many_in plan j ≡ n =
      ap (λ (o : Option Epoch). option_map_or (λ (z : Epoch). length (epoch_commands plan z)) o 0) at in
      let any : IsCommandBase e l plan j n (any_base e l plan j) = record {
        chains = replicate (many_in plan j) shortest;
        many = length-replicate (many_in plan j) shortest ∙ many;
        each = All-replicate IsControlChain (many_in plan j) shortest is_control;
        is = refl;
      } in
      elim (cases_lt j k) [
        | inl low ↦ subst (IsCommandBase e l plan j n) (sym (base_early j low)) (before j ep low at)
        | inr high ↦ subst (IsCommandBase e l plan j n) (sym (base_late j high)) any
      ]

  -- the events before epoch k are the same
  events_same : AreNumbered plan (control_epochs plan)
      → command_events_before l plan (all_bases e l plan k bases) k ≡ command_events_before l plan bases k
  events_same numbered =
      flat_same (command_events l plan (all_bases e l plan k bases)) (command_events l plan bases) (take k (control_epochs plan))
      (λ i ep at.
      let es : List Epoch = control_epochs plan in
      let low : i < k = omega (arith, slice_get_within (take k es) i ep at, length-take k es) in
      let number : ep.number ≡ i = (numbered.at i ep (taken_whole k i es ep at)).0 in
      ap (λ (x : Base). (if ep.renewed then Reset (journalled_at plan ep.number) ∷ [] else [])
      ++ command_attach l plan ep ∷ Suspend (journalled_at plan (ep.number + 1)) x ∷ [])
      (base_early ep.number (omega (arith, number, low))))

-- an epoch's events are its reset and its attach, and its suspension
epoch_parts : (l : LayoutModel) (plan : Plan) (bases : ℕ → Base) (k : ℕ) (ep : Epoch) → AreNumbered plan (control_epochs plan)
    → slice_get (control_epochs plan) k ≡ Some ep
    → command_events l plan bases ep ≡ command_attached l plan k ++ command_suspend plan bases ep ∷ []
epoch_parts l plan bases k ep numbered is =
    let at = numbered.at k ep is in
    let last : Event = command_suspend plan bases ep in
    let attach : ℕ → Mode → Event = λ n m.
    Attach (journalled_at plan n) (control_ring n) (record { 0 = l.fresh_base }) Shadow default (map_in plan m) in
    ap (λ (n : ℕ). (if ep.renewed then Reset (journalled_at plan n) ∷ [] else []) ++ attach n ep.mode ∷ last ∷ []) at.0
    ∙ ap (λ (m : Mode). (if ep.renewed then Reset (journalled_at plan k) ∷ [] else []) ++ attach k m ∷ last ∷ []) at.1
    ∙ ap (λ (r : Bool). (if r then Reset (journalled_at plan k) ∷ [] else []) ++ attach k (mode_at plan k) ∷ last ∷ []) at.2
    ∙ sym (append_assoc (command_resets plan k) (attach k (mode_at plan k) ∷ []) (last ∷ []))

-- ---- the beginning of the journal

-- by some bases these events begin those that the machine orders
pub record BeginControlEvents {E : Type 0} (e : DeviceModel E) (l : LayoutModel) (plan : Plan) (events : List Event) : Type 0 where
  pub bases : ℕ → Base
  pub based : AreCommandBases e l plan bases
  pub begins : IsPrefix events (control_events l plan bases)

module _ {E : Type 0} (e : DeviceModel E) (l : LayoutModel) (plan : Plan) (numbered : AreNumbered plan (control_epochs plan)) (k : ℕ)
    (events : List Event) (bases : ℕ → Base) (based : AreBasesBefore e l plan k bases) where
  -- those of the epochs before k
  pub begin_before : events ≡ command_events_before l plan bases k ++ [] → BeginControlEvents e l plan events
  begin_before are =
      let bs : ℕ → Base = all_bases e l plan k bases in
      let here : events ≡ command_events_before l plan bs k =
      are ∙ append-nil (command_events_before l plan bases k) ∙ sym (events_same e l plan k bases numbered) in
      record {
        bases = bs;
        based = all_based e l plan k bases based;
        begins = subst (λ (zs : List Event). IsPrefix zs (control_events l plan bs)) (sym here)
            (front_of (command_events l plan bs) (control_epochs plan) k);
      }

  -- and the first ones of epoch k's, its suspension not among them
  pub begin_within : (ep : Epoch) (more rest : List Event) → slice_get (control_epochs plan) k ≡ Some ep
      → more ++ rest ≡ command_attached l plan k → events ≡ command_events_before l plan bases k ++ more
      → BeginControlEvents e l plan events
  begin_within ep more rest is parts are =
      let bs : ℕ → Base = all_bases e l plan k bases in
      let f : Epoch → List Event = command_events l plan bs in
      let old : List Event = command_events_before l plan bs k in
      let last : List Event = command_suspend plan bs ep ∷ [] in
      let here : events ≡ old ++ more = are ∙ ap (λ (zs : List Event). zs ++ more) (sym (events_same e l plan k bases numbered)) in
      let epoch : f ep ≡ more ++ (rest ++ last) =
      epoch_parts l plan bs k ep numbered is ∙ ap (λ (zs : List Event). zs ++ last) (sym parts)
      ∙ append_assoc more rest last in
      let all : (old ++ more) ++ (rest ++ last) ≡ command_events_before l plan bs (k + 1) =
      append_assoc old more (rest ++ last) ∙ ap (λ (zs : List Event). old ++ zs) (sym epoch)
      ∙ sym (flat_more f (control_epochs plan) k ep is) in
      record {
        bases = bs;
        based = all_based e l plan k bases based;
        begins = subst (λ (zs : List Event). IsPrefix zs (control_events l plan bs)) (sym here)
            (prefix_through (old ++ more) (command_events_before l plan bs (k + 1)) (control_events l plan bs)
            (rest ++ last, all) (front_of f (control_epochs plan) (k + 1)));
      }
