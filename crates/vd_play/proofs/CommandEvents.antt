-- The events of the control queue's device as an epoch ends: its suspension stands behind those before, by the base that the shadow ring
-- has then.
use Rattle.std.proofs.Common.{◌≡◌, inl, inr, ℕ, zero, suc, ◌+◌, ◌<◌, ◌*◌, ◌==◌, Bool, true, false, cond, if◌then◌else◌, Some, List, [], ◌∷◌, ◌++◌, length, take, flat_map, slice_get, slice_index_or, refl, sym, ◌∙◌, ap, subst, arith}
use Rattle.std.specs.List.{All}
use Rattle.std.proofs.lemmas.List.{append-nil, append_assoc, length-take, get_or-take}
use Rattle.std.proofs.lemmas.Bool.{cases_lt, eq-eqb, ne_eqb}
use Rattle.std.proofs.lemmas.Option.{slice_get_within}
use Rattle.vd_model.specs.declared.base.Base.{Base}
use Rattle.vd_model.specs.declared.base.Mode.{Mode}
use Rattle.vd_model.specs.declared.base.Mode.TheVariants.{Shadow}
use Rattle.vd_model.specs.declared.chain.Piece.{Piece}
use Rattle.vd_ring.specs.declared.driver.DriverView.{DriverView}
use Rattle.vd_ring.specs.declared.device.DeviceView.{DeviceView}
use Rattle.vd_ring.specs.History.{offers, takes, chain, chain_at, head}
use Rattle.vd_ring.specs.Control as ring
use Rattle.vd_layout.specs.Driver.{DriverModel}
use Rattle.vd_layout.specs.Device.{DeviceModel}
use Rattle.vd_layout.specs.Layout.{LayoutModel, IsLawfulLayout}
use Rattle.vd_control.specs.Settings.{default}
use Rattle.vd_bus.specs.declared.event.Event.{Event}
use Rattle.vd_bus.specs.declared.event.Event.TheVariants.{Attach, Suspend, Reset}
use Rattle.vd_switch.proofs.Controlling.{taken_whole}
use Rattle.vd_machine.specs.File.{Plan}
use Rattle.vd_play.specs.CommandLane.{AreCommandEvents, command_events_before, command_attached}
use Rattle.vd_play.specs.Commands.{control_epochs}
use Rattle.vd_play.specs.ControlJournal.{epoch_commands, journalled_at, command_attach, command_events, IsControlChain, IsCommandBase}
use Rattle.vd_play.specs.ControlRings.{control_ring}
use Rattle.vd_play.specs.Epochs.{Epoch, AreNumbered, mode_at, renewed_at}
use Rattle.vd_play.specs.Journal.{map_in}
use Rattle.vd_play.specs.Setting.{Setting}
use Rattle.vd_play.proofs.Bounds.{flat_more}
use Rattle.vd_play.proofs.Lists.{some_same}

-- ---- bases

-- as before, and this one for epoch k
abbrev pub with_base : (ℕ → Base) → ℕ → Base → ℕ → Base
with_base bases k b j = cond (j == k) b (bases j)

base_here : (bases : ℕ → Base) (k : ℕ) (b : Base) → with_base bases k b k ≡ b
base_here bases k b = ap (λ (x : Bool). cond x b (bases k)) (eq-eqb k k refl)

base_other : (bases : ℕ → Base) (k : ℕ) (b : Base) (j : ℕ) → j < k → with_base bases k b j ≡ bases j
base_other bases k b j low = ap (λ (x : Bool). cond x b (bases j)) (ne_eqb j k (λ e. absurd (omega (arith, e, low))))

pub flat_same : {A B : Type 0} (f g : A → List B) (xs : List A) → ((i : ℕ) (x : A) → slice_get xs i ≡ Some x → f x ≡ g x)
    → flat_map f xs ≡ flat_map g xs
flat_same f g [] h = refl
flat_same f g (x ∷ xs) h = ap (λ ys. ys ++ flat_map f xs) (h 0 x refl)
    ∙ ap (λ ys. g x ++ ys) (flat_same f g xs (λ i y at. h (suc i) y at))

module _ (l : LayoutModel) (plan : Plan) (numbered : AreNumbered plan (control_epochs plan)) (bases : ℕ → Base) (k : ℕ) (b : Base) where
  -- the events before epoch k are the same
  pub before_same : command_events_before l plan (with_base bases k b) k ≡ command_events_before l plan bases k
  before_same = flat_same (command_events l plan (with_base bases k b)) (command_events l plan bases) (take k (control_epochs plan))
      (λ i ep at.
      let es : List Epoch = control_epochs plan in
      let is : slice_get es i ≡ Some ep = taken_whole k i es ep at in
      let low : i < k = omega (arith, slice_get_within (take k es) i ep at, length-take k es) in
      let number : ep.number ≡ i = (numbered.at i ep is).0 in
      let same : with_base bases k b ep.number ≡ bases ep.number = base_other bases k b ep.number (omega (arith, number, low)) in
      ap (λ (x : Base). (if ep.renewed then Reset (journalled_at plan ep.number) ∷ [] else [])
      ++ command_attach l plan ep ∷ Suspend (journalled_at plan (ep.number + 1)) x ∷ []) same)

  -- those of epoch k
  pub epoch_is : (ep : Epoch) → slice_get (control_epochs plan) k ≡ Some ep
      → command_events l plan (with_base bases k b) ep ≡ command_attached l plan k ++ Suspend (journalled_at plan (k + 1)) b ∷ []
  epoch_is ep is =
      let at = numbered.at k ep is in
      let attach : ℕ → Mode → Event = λ n m.
      Attach (journalled_at plan n) (control_ring n) (record { 0 = l.fresh_base }) Shadow default (map_in plan m) in
      ap (λ (n : ℕ). (if ep.renewed then Reset (journalled_at plan n) ∷ [] else [])
      ++ attach n ep.mode ∷ Suspend (journalled_at plan (n + 1)) (with_base bases k b n) ∷ []) at.0
      ∙ ap (λ (m : Mode). (if ep.renewed then Reset (journalled_at plan k) ∷ [] else [])
      ++ attach k m ∷ Suspend (journalled_at plan (k + 1)) (with_base bases k b k) ∷ []) at.1
      ∙ ap (λ (r : Bool). (if r then Reset (journalled_at plan k) ∷ [] else [])
      ++ attach k (mode_at plan k) ∷ Suspend (journalled_at plan (k + 1)) (with_base bases k b k) ∷ []) at.2
      ∙ ap (λ (x : Base). (if renewed_at plan k then Reset (journalled_at plan k) ∷ [] else [])
      ++ attach k (mode_at plan k) ∷ Suspend (journalled_at plan (k + 1)) x ∷ []) (base_here bases k b)
      ∙ sym (append_assoc (if renewed_at plan k then Reset (journalled_at plan k) ∷ [] else []) (attach k (mode_at plan k) ∷ [])
      (Suspend (journalled_at plan (k + 1)) b ∷ []))

-- ---- the chains of a shadow ring

-- each is a control chain
module _ {E D : Type 0} (e : DeviceModel E) (d : DriverModel D) (l : LayoutModel) (law : IsLawfulLayout d e l) (words : List ℕ)
    (v : DriverView) (w : DeviceView) (on : l.ring words v w) (control : v.frame.control ≡ true) where
  is_control : (a b : ℕ) (c : List Piece) → ring.IsControlChain a b c → IsControlChain c
  is_control a b c h = record {
    command = record { addr = 8 * a; len = h.len; write = false };
    ack = record { addr = 8 * b; len = 1; write = true };
    is = h.is;
    reads = (refl, h.least, h.most);
    writes = (refl, refl);
  }

  pub taken_controls : All IsControlChain (takes w.done)
  taken_controls i c low =
      let lists = law.lists words v w on in
      let n : ℕ = length (takes w.done) in
      let offered : i < length (offers v.done) = omega (arith, low, lists.some) in
      let same : chain_at (takes w.done) i ≡ chain v.done i =
      ap (λ (cs : List (List Piece)). chain_at cs i) lists.taken ∙ get_or-take n (offers v.done) i [] low in
      let here : IsControlChain (chain_at (takes w.done) i) =
      subst IsControlChain (sym same) (is_control (l.words.command v.frame (head v.frame v.done i)) (l.words.ack v.frame
      (head v.frame v.done i)) (chain v.done i) ((law.controls words v w on).commands.chains control i offered)) in
      subst IsControlChain (inside (takes w.done) i [] c low) here
    where
      inside : (xs : List (List Piece)) (j : ℕ) (x y : List Piece) → j < length xs
          → slice_index_or xs j x ≡ slice_index_or xs j y
      inside [] j x y less = absurd (omega (arith, less))
      inside (z ∷ zs) zero x y less = refl
      inside (z ∷ zs) (suc j) x y less = inside zs j x y (omega (arith, less))

-- ---- the suspension

module _ {D E G X C : Type 0} (s : Setting D E G X C) (plan : Plan) (numbered : AreNumbered plan (control_epochs plan)) (k : ℕ) (ep : Epoch)
    (is : slice_get (control_epochs plan) k ≡ Some ep) where
  pub suspended : (device device' : X) (b : Base) → AreCommandEvents s plan k device (command_attached s.layout plan k)
      → s.party.events device' ≡ s.party.events device ++ Suspend (journalled_at plan (k + 1)) b ∷ []
      → IsCommandBase s.device s.layout plan k (length (epoch_commands plan ep)) b → AreCommandEvents s plan (k + 1) device' []
  suspended device device' b p noted base =
      let bases : ℕ → Base = with_base p.bases k b in
      let before : List Event = command_events_before s.layout plan p.bases k in
      let more : command_events_before s.layout plan bases (k + 1) ≡ command_events_before s.layout plan bases k
      ++ command_events s.layout plan bases ep = flat_more (command_events s.layout plan bases) (control_epochs plan) k ep is in
      let last : List Event = Suspend (journalled_at plan (k + 1)) b ∷ [] in
      record {
        bases = bases;
        based = λ j ep' low at. elim (cases_lt j k) [
          | inl less ↦ subst (IsCommandBase s.device s.layout plan j (length (epoch_commands plan ep'))) (sym (base_other p.bases k b j less))
              (p.based j ep' less at)
          | inr past ↦ (
              let here : j ≡ k = omega (arith, past, low) in
              let same : ep ≡ ep' = some_same ep ep' (slice_get (control_epochs plan) k) is
              (ap (λ (i : ℕ). slice_get (control_epochs plan) i) (sym here) ∙ at) in
              subst (λ (i : ℕ). IsCommandBase s.device s.layout plan i (length (epoch_commands plan ep')) (bases i)) (sym here)
              (subst (λ (x : Base). IsCommandBase s.device s.layout plan k (length (epoch_commands plan ep')) x)
              (sym (base_here p.bases k b))
              (subst (λ (x : Epoch). IsCommandBase s.device s.layout plan k (length (epoch_commands plan x)) b) same base))
              )
        ];
        events = noted ∙ ap (λ (es : List Event). es ++ last) p.events ∙ append_assoc before (command_attached s.layout plan k) last
            ∙ ap (λ (es : List Event). before ++ es) (sym (epoch_is s.layout plan numbered p.bases k b ep is))
            ∙ ap (λ (es : List Event). es ++ command_events s.layout plan bases ep)
            (sym (before_same s.layout plan numbered p.bases k b))
            ∙ sym more ∙ sym (append-nil (command_events_before s.layout plan bases (k + 1)));
      }
