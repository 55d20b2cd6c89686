-- A turn of a guest of the control queue keeps the lane.
use Rattle.std.proofs.Common.{◌≡◌, ℕ, ◌<◌, ◌≤◌, Some, List, [], length, take, sym, ◌∙◌, ap, arith, inl, inr}
use Rattle.std.proofs.lemmas.List.{length-append, take-take}
use Rattle.vd_model.specs.declared.record.Begun.{Begun}
use Rattle.vd_model.specs.declared.record.Script.{Script}
use Rattle.vd_model.specs.declared.chain.Piece.{Piece}
use Rattle.vd_ring.specs.declared.driver.DriverView.{DriverView}
use Rattle.vd_ring.specs.declared.device.DeviceView.{DeviceView}
use Rattle.vd_ring.specs.declared.frame.Frame.{Frame}
use Rattle.vd_ring.specs.History.{offers}
use Rattle.vd_layout.specs.Driver.{DriverModel}
use Rattle.vd_layout.specs.Device.{DeviceModel}
use Rattle.vd_layout.specs.Layout.{LayoutModel, IsLawfulLayout}
use Rattle.vd_bus.specs.Guest.{GuestParty, IsLawfulGuestParty}
use Rattle.vd_bus.specs.GuestCommands.{HasSent, commands}
use Rattle.vd_control.specs.declared.settings.Settings.{Settings}
use Rattle.vd_commands.specs.Words.{ack_byte}
use Rattle.vd_relay.specs.declared.control.Control.{Control}
use Rattle.vd_relay.specs.declared.counts.Counts.{Counts}
use Rattle.vd_relay.specs.declared.state.State.{State}
use Rattle.vd_switch.specs.CommandLanes.{AreAnsweredTo, guest_commands}
use Rattle.vd_switch.specs.Controlling.{ControlStart, IsControlling, start_of}
use Rattle.vd_switch.proofs.CommandKept.{AreLinked}
use Rattle.vd_switch.proofs.CommandLanes.{replay_links, command_links}
use Rattle.vd_switch.proofs.Controlling.{is_carrying, carrying, replaying}
use Rattle.vd_turns.specs.Turns.{GuestRun}
use Rattle.vd_control_lane.specs.Scripts.{AreSendable}
use Rattle.vd_control_lane.proofs.Sent.{carried, script_sent}

module _ {E D G : Type 0} (l : LayoutModel) (e : DeviceModel E) (d : DriverModel D) (law : IsLawfulLayout d e l) (m : GuestParty G)
    (mlaw : IsLawfulGuestParty d m) (x : ControlStart) (r : State E D) (k : Control) (s : Settings) (c : Counts) (begun : List Begun)
    (now : Settings) (words words' shadow_words : List ℕ) (v : DriverView) (w : DeviceView) (sv : DriverView) (sw : DeviceView)
    (script : Script) (y z : G) (made : ℕ) (h : IsControlling l e d x r k s c begun now words shadow_words v w sv sw)
    (holds : m.holds y v) (has : m.script y ≡ Some script)
    (sends : (g : G) (u : DriverView) → m.holds g u → m.script g ≡ Some script → HasSent d.words script u.frame u.done)
    (can : AreSendable (commands script))
    (t : GuestRun l m words' v w y z made) where
  abbrev pub n : ℕ
  n = length x.opening.gives

  links : AreLinked (start_of x k) v w sv sw
  links = elim (is_carrying k.mode) [
    | inl is ↦ command_links e d l law (start_of x k) r k.commander.commands s begun now words shadow_words v w sv sw
        (carrying l e d x r k s c begun now words shadow_words v w sv sw h is)
    | inr never ↦ replay_links e d l law (start_of x k) begun now words shadow_words v w sv sw
        (replaying l e d x r k s c begun now words shadow_words v w sv sw h never)
  ]

  early : n ≤ length (offers v.done)
  early = links.some

  more : length (offers v.done) ≤ length (offers t.view.done)
  more = omega (
    arith,
    ap (λ (cs : List (List Piece)). length cs) t.grows.offers.1,
    length-append (offers v.done) t.grows.offers.0,
  )

  was : HasSent d.words script v.frame v.done
  was = sends y v holds has

  is : HasSent d.words script t.view.frame t.view.done
  is = sends z t.view t.holds (t.script ∙ has)

  -- the first commands are the script's, as they were
  stay : take n (guest_commands t.view) ≡ take n (guest_commands v)
  stay =
      ap (take n) (script_sent d.words script t.view is can)
      ∙ take-take n (length (offers t.view.done)) (commands script) (omega (arith, early, more))
      ∙ sym (ap (take n) (script_sent d.words script v was can) ∙ take-take n (length (offers v.done)) (commands script) early)

  frame : t.view.frame ≡ v.frame
  frame = sym (law.wide words' t.view w t.ring).1 ∙ (law.wide words v w h.parts.ring).1

  pub guest_keeps : IsControlling l e d x r k s c begun now words' shadow_words t.view w sv sw
  guest_keeps = record {
    holds = h.holds;
    parts = record {
      ring = t.ring;
      shadow_ring = h.parts.shadow_ring;
      control = (ap (λ (f : Frame). f.control) frame ∙ h.parts.control.0, h.parts.control.1);
      commanded = h.parts.commanded;
      from_first = h.parts.from_first;
      counted = h.parts.counted;
      are_spelled = h.parts.are_spelled;
      begun_before = record {
        chains = h.parts.begun_before.chains ∙ sym stay;
        inside = h.parts.begun_before.inside;
        lens = h.parts.begun_before.lens;
      };
      ones = h.parts.ones;
    };
    even = h.even;
    are_spelled = h.are_spelled;
    carried = h.carried;
    winds = h.winds;
    over = h.over;
  }

  pub answers_stay : AreAnsweredTo n v w → AreAnsweredTo n t.view w
  answers_stay right i low =
      let below : i < length (offers v.done) = omega (arith, low, early) in
      right i low
      ∙ ap ack_byte (carried d.words script v was can i [] below
      ∙ sym (carried d.words script t.view is can i [] (omega (arith, below, more))))
