-- A control lane begins, comes to carry, and begins to wind up.
use Rattle.std.proofs.Common.{◌≡◌, ℕ, true, false, Option, Some, List, [], ◌∷◌, ◌++◌, length, take, drop, slice_get, refl, sym, ◌∙◌, ap, subst, arith}
use Rattle.std.specs.List.{All}
use Rattle.std.proofs.lemmas.Option.{slice_get_within}
use Rattle.vd_model.specs.declared.record.Begun.{Begun}
use Rattle.vd_ring.specs.declared.driver.DriverDone.{DriverDone}
use Rattle.vd_ring.specs.declared.driver.DriverView.{DriverView}
use Rattle.vd_ring.specs.declared.device.DeviceDone.{DeviceDone}
use Rattle.vd_ring.specs.declared.device.DeviceView.{DeviceView}
use Rattle.vd_ring.specs.History.{offers, takes, gives}
use Rattle.vd_layout.specs.Driver.{DriverModel}
use Rattle.vd_layout.specs.Device.{DeviceModel}
use Rattle.vd_layout.specs.Layout.{LayoutModel}
use Rattle.vd_bus.specs.Device.{IsCommanded, chains_of}
use Rattle.vd_bus.specs.DeviceCommands.{IsAnswered, commands_of}
use Rattle.vd_control.specs.declared.settings.Settings.{Settings}
use Rattle.vd_control.specs.Commands.{spelled}
use Rattle.vd_commands.specs.Words.{set_by}
use Rattle.vd_table.specs.declared.Command as kept
use Rattle.vd_relay.specs.declared.state.State.{State}
use Rattle.vd_relay.specs.Commanding.{carries, AreCarried}
use Rattle.vd_relay.specs.Relay.{Stands}
use Rattle.vd_switch.specs.Account.{IsBegunBefore}
use Rattle.vd_switch.specs.ShadowingLanes.{IsWinding}
use Rattle.vd_switch.specs.CommandLanes.{CommandStart, IsReplaying, IsCommandLane, IsSpelled, before, guest_commands}
use Rattle.vd_switch.proofs.CommandKept.{ones}

-- ---- the beginning

dropped_all : (bs : List Begun) → drop (length bs) bs ≡ []
dropped_all [] = refl
dropped_all (b ∷ bs) = dropped_all bs

-- a device that is just attached has begun nothing
begins : (begun : List Begun) (y : CommandStart) (s : List DeviceDone) → y.by.at ≡ length begun → y.by.from ≡ 0 → s ≡ []
    → IsCommanded begun y.by y.settings y.settings s
begins begun y s at from fresh =
    let none : drop y.by.at begun ≡ [] = ap (λ (n : ℕ). drop n begun) at ∙ dropped_all begun in
    subst (λ (x : List DeviceDone). IsCommanded begun y.by y.settings y.settings x) (sym fresh) record {
      after = omega (arith, at);
      before = omega (arith, from);
      few = omega (arith, at);
      chains = (drop y.by.from (takes []), ap (λ (bs : List Begun). chains_of bs ++ drop y.by.from (takes [])) none);
      in_hand = omega (arith, at, from);
      each = λ i b is. absurd (nothing i b (ap (λ (bs : List Begun). slice_get bs i) (sym none) ∙ is));
      waits = λ k low past. absurd (omega arith);
      settings = sym (ap (λ (bs : List Begun). set_by y.settings (commands_of bs)) none);
      given = subst (λ (n : ℕ). All (IsAnswered begun y.by.at n []) (drop n (gives []))) (sym from) (λ k x low. absurd (omega arith));
    }
  where
    nothing : (i : ℕ) (b : Begun) → slice_get [] i ≡ Some b → ⊥
    nothing i b is = cc

pub starts : (l : LayoutModel) (y : CommandStart) (begun : List Begun) (words shadow_words : List ℕ) (v : DriverView) (w : DeviceView)
    (sv : DriverView) (sw : DeviceView) → l.ring words v w → l.ring shadow_words sv sw → v.frame.control ≡ true → sv.frame.control ≡ true
    → takes w.done ≡ y.from.takes → gives w.done ≡ y.from.gives → length y.from.takes ≡ length y.from.gives → sv.done ≡ [] → sw.done ≡ []
    → y.by.at ≡ length begun → y.by.from ≡ 0 → y.from.replayed ≡ length y.replays → All IsSpelled y.replays
    → IsBegunBefore y.old (take (before y) (guest_commands v)) y.from.gives → All (λ x. x.1 ≡ 1) y.old
    → IsReplaying l y begun y.settings words shadow_words v w sv sw
starts l y begun words shadow_words v w sv sw ring shadow_ring control shadow_control same_takes same_gives even fresh device_fresh at from
    counted spelled old ones = record {
      parts = record {
        ring = ring;
        shadow_ring = shadow_ring;
        control = (control, shadow_control);
        commanded = begins begun y sw.done at from device_fresh;
        from_first = from;
        counted = counted;
        are_spelled = spelled;
        begun_before = old;
        ones = ones;
      };
      same_takes = same_takes;
      same_gives = same_gives;
      even = even;
      few = omega (arith, none);
      replayed = λ k c low. absurd (omega (arith, low, none));
    }
  where
    none : length (offers sv.done) ≡ 0
    none = ap (λ (o : List DriverDone). length (offers o)) fresh

-- ---- the relay goes on to carry

pub goes_on : {E D : Type 0} (e : DeviceModel E) (d : DriverModel D) (l : LayoutModel) (y : CommandStart) (r : State E D)
    (table : List (Option kept.Command)) (settings : Settings) (begun : List Begun) (now : Settings) (words shadow_words : List ℕ)
    (v : DriverView) (w : DeviceView) (sv : DriverView) (sw : DeviceView) → IsReplaying l y begun now words shadow_words v w sv sw
    → (s : Stands e d (carries y.from) r w sv) → AreCarried y.from table settings (e.words.ack w.frame) s.acts sv.frame sv.done
    → r.winding ≡ false → IsCommandLane e d l y r table settings begun now words shadow_words v w sv sw
goes_on e d l y r table settings begun now words shadow_words v w sv sw h s carried off = record {
  parts = h.parts;
  relays = s;
  carried = carried;
  replayed = λ k c at. h.replayed k c (omega (arith, slice_get_within y.replays k c at, h.parts.counted, s.tied.follows.offered)) at;
  winds = λ on. let no_winding : true ≡ false = sym on ∙ off in absurd (cc);
}

-- it begins to wind up once the device of the shadow ring is done
pub winds_up : {E D : Type 0} (e : DeviceModel E) (d : DriverModel D) (l : LayoutModel) (y : CommandStart) (r r' : State E D)
    (table : List (Option kept.Command)) (settings : Settings) (begun : List Begun) (now : Settings) (words shadow_words : List ℕ)
    (v : DriverView) (w : DeviceView) (sv : DriverView) (sw : DeviceView)
    → IsCommandLane e d l y r table settings begun now words shadow_words v w sv sw
    → (s : Stands e d (carries y.from) r' w sv) → AreCarried y.from table settings (e.words.ack w.frame) s.acts sv.frame sv.done
    → IsWinding r' sw → IsCommandLane e d l y r' table settings begun now words shadow_words v w sv sw
winds_up e d l y r r' table settings begun now words shadow_words v w sv sw h s carried winding = record {
  parts = h.parts;
  relays = s;
  carried = carried;
  replayed = h.replayed;
  winds = λ on. winding;
}
