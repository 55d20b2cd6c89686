-- A replay that is over, where as much is collected on the shadow ring as was offered.
use Rattle.std.proofs.Common.{◌≡◌, ◌⊎◌, ℕ, ◌+◌, ◌≤◌, true, List, length, ap, refl, ◌∙◌, subst, arith, inl, inr}
use Rattle.vd_ring.specs.declared.driver.DriverDone.{DriverDone}
use Rattle.vd_ring.specs.declared.driver.DriverView.{DriverView}
use Rattle.vd_ring.specs.declared.frame.Frame.{Frame}
use Rattle.vd_ring.specs.History.{offers, collects}
use Rattle.vd_layout.specs.Driver.{DriverModel, IsLawfulDriver}
use Rattle.vd_layout.specs.Device.{DeviceModel, IsLawfulDevice}
use Rattle.vd_layout.specs.Layout.{LayoutModel}
use Rattle.vd_control.specs.declared.command.Command.{Command}
use Rattle.vd_control.specs.declared.settings.Settings.{Settings}
use Rattle.vd_control.specs.Settings.{replay}
use Rattle.vd_relay.specs.declared.replay.Replay.{Replay}
use Rattle.vd_relay.specs.declared.replay.ReplayStage.{ReplayStage}
use Rattle.vd_relay.specs.declared.replay.ReplayStage.TheVariants.{First, Second, Offering, Collecting, Loading, Arming, Hearing, Disarming, Done, Left}
use Rattle.vd_relay.specs.Modes.{Opening, IsOver, again}
use Rattle.vd_relay.specs.Replays.{Replays, IsAt, IsBetween, is_over}
use Rattle.vd_relay.proofs.ReplayEnds.{over_between, over_even}

-- at most one chain is open
one_open : (st : ReplayStage) (cs : List Command) (n : ℕ) (g : Frame) (o : List DriverDone) → IsAt st cs n g o
    → length (offers o) ≤ length (collects o) + 1
one_open First cs n g o p = omega (arith, p.1.offered, p.1.collected)
one_open Second cs n g o p = omega (arith, p.1.offered, p.1.collected)
one_open Offering cs n g o p = omega (arith, p.1.offered, p.1.collected)
one_open Collecting cs n g o p = omega (arith, p.1.offered, p.1.collected)
one_open (Loading h) cs n g o p = omega (arith, p.1.offered, p.1.collected)
one_open Arming cs n g o p = omega (arith, p.1.offered, p.1.collected)
one_open Hearing cs n g o p = omega (arith, p.1.offered, p.1.collected)
one_open Disarming cs n g o p = omega (arith, p.1.offered, p.1.collected)
one_open Done cs n g o p = omega (arith, p.1.offered, p.1.collected)
one_open Left cs n g o p = elim p.1 [
  | inl b ↦ omega (arith, b.offered, b.collected)
  | inr a ↦ omega (arith, a.offered, a.collected)
]

module _ {E D : Type 0} (l : LayoutModel) (e : DeviceModel E) (d : DriverModel D) (law : IsLawfulDevice e) (ldr : IsLawfulDriver d)
    (y : Replay) (x : D) (v : DriverView) (h : Replays l d y x v) where
  by_stage : (z : Opening) (st : ReplayStage) → y.settings ≡ again z → y.stage ≡ st → is_over st ≡ true → IsBetween v.done y.next
      → IsOver z y v
  by_stage z Done same is over between =
      inl ((subst (λ (s : ReplayStage). IsAt s (replay y.settings) y.next v.frame v.done) is h.at).0
      ∙ ap (λ (s : Settings). length (replay s)) same)
  by_stage z Left same is over between = inr ((h.left is).0, between)
  by_stage z First same is over between = absurd (cc over)
  by_stage z Second same is over between = absurd (cc over)
  by_stage z Offering same is over between = absurd (cc over)
  by_stage z Collecting same is over between = absurd (cc over)
  by_stage z (Loading n) same is over between = absurd (cc over)
  by_stage z Arming same is over between = absurd (cc over)
  by_stage z Hearing same is over between = absurd (cc over)
  by_stage z Disarming same is over between = absurd (cc over)

  pub over_now : (z : Opening) → y.settings ≡ again z → is_over y.stage ≡ true → length (offers v.done) ≡ length (collects v.done)
      → IsOver z y v
  over_now z same over even =
      by_stage z y.stage same refl over (over_between l e d law ldr y x v h over (over_even l e d law ldr y x v h over even))

  pub few_open : length (offers v.done) ≤ length (collects v.done) + 1
  few_open = one_open y.stage (replay y.settings) y.next v.frame v.done h.at
