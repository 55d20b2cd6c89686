-- One access of a party of a control lane, and what a stop leaves. A lane is told by what it is of the words after the access: one whose
-- relay replays, or one whose relay carries.
use Rattle.std.specs.Prelude.{◌≡◌, ◌⊎◌, ◌↔◌, ℕ, ◌+◌, ◌<◌, ◌≤◌, true, List, ◌∷◌, length, take, Option}
use Rattle.std.specs.List.{All}
use Rattle.vd_model.specs.declared.record.Begun.{Begun}
use Rattle.vd_words.specs.declared.access.Access.{Access}
use Rattle.vd_words.specs.declared.access.Op.{Op}
use Rattle.vd_words.specs.Model.{PortModel}
use Rattle.vd_ring.specs.declared.driver.DriverView.{DriverView}
use Rattle.vd_ring.specs.declared.device.DeviceDone.{DeviceDone}
use Rattle.vd_ring.specs.declared.device.DeviceDone.TheVariants.{LoadCommand}
use Rattle.vd_ring.specs.declared.device.DeviceView.{DeviceView}
use Rattle.vd_ring.specs.Account.{Lawful}
use Rattle.vd_ring.specs.History.{offers, takes, gives, IsWhole}
use Rattle.vd_layout.specs.declared.moves.Move.{Move}
use Rattle.vd_layout.specs.Driver.{DriverModel}
use Rattle.vd_layout.specs.Device.{DeviceModel}
use Rattle.vd_layout.specs.Layout.{LayoutModel}
use Rattle.vd_bus.specs.Acts.{IsOneActMore}
use Rattle.vd_control.specs.declared.settings.Settings.{Settings}
use Rattle.vd_table.specs.declared.Command as kept
use Rattle.vd_relay.specs.declared.carry.Carry.{Carry}
use Rattle.vd_relay.specs.declared.counts.Counts.{Counts}
use Rattle.vd_relay.specs.declared.state.State.{State}
use Rattle.vd_relay.specs.Commanding.{Takeover, carries}
use Rattle.vd_relay.specs.Relay.{IsKept, OnGuest, OnShadow}
use Rattle.vd_relay.specs.Underway.{Commanding}
use Rattle.vd_switch.specs.Account.{IsBegunBefore}
use Rattle.vd_switch.specs.CommandLanes.{CommandStart, IsCommandLane, AreAnsweredTo, before, guest_commands, lane_commands, command_account}
use Rattle.vd_switch.specs.LaneBag.{MayOfferOne, MayBeginOne, MayEndOne}

-- ---- the device of the shadow ring

-- the second command word was loaded of a chain taken that carries a command of the guest's: of none that was replayed
abbrev pub LoadsSecond : ℕ → List DeviceDone → List DeviceDone → Type 0
LoadsSecond replayed s s' = (k : ℕ) × (x : ℕ) × (replayed ≤ k) × (k < length (takes s)) × (s' ≡ LoadCommand k 1 x ∷ s)

-- one of the guest's commands is begun, exactly where its second command word was loaded, or none
pub record DeviceCommanded {Q : Type 0} (q : PortModel Q) (y : CommandStart) (Lane : List ℕ → Type 0) (old begun : List Begun) (b : Q)
    (v : DriverView) (w : DeviceView) (old_view sw : DeviceView) : Type 0 where
  pub shadow_words : List ℕ
  pub plain : q.plain b shadow_words
  pub lane : Lane shadow_words
  pub began : MayBeginOne (length (offers v.done)) (length (lane_commands y old)) (gives w.done) (length (lane_commands y begun))
  pub exact : (length (lane_commands y begun) ≡ length (lane_commands y old) + 1)
      ↔ LoadsSecond y.from.replayed old_view.done sw.done

-- ---- the guest

-- one command is offered, or none; what was answered before is so still
pub record GuestCommanded {P : Type 0} (p : PortModel P) (y : CommandStart) (Lane : List ℕ → Type 0) (begun : List Begun) (a : P)
    (old_view v : DriverView) (w : DeviceView) : Type 0 where
  pub words : List ℕ
  pub plain : p.plain a words
  pub lane : Lane words
  pub offered : MayOfferOne (length (offers old_view.done)) (length (lane_commands y begun)) (gives w.done) (length (offers v.done))
  pub answers : AreAnsweredTo (before y) old_view w → AreAnsweredTo (before y) v w

-- ---- the relay

-- one access while it replays, on the port of the words that it changed: no step of the lane's bag
pub record ReplayCommanded {P : Type 0} (p : PortModel P) (Lane : List ℕ → Type 0) (a : P) : Type 0 where
  pub words : List ℕ
  pub plain : p.plain a words
  pub lane : Lane words

-- one access by which it carries, on one of the two ports: what it has carried stands after it
pub record IsCarryingStep {P Q E D : Type 0} (p : PortModel P) (q : PortModel Q) (l : LayoutModel) (e : DeviceModel E) (d : DriverModel D)
    (z : Takeover) (a a' : P) (b b' : Q) (w : DeviceView) (v : DriverView) (r r' : State E D) (hand : Carry)
    (table : List (Option kept.Command)) (settings : Settings) (c c' : Counts) (said : Move) : Type 0 where
  pub made : ((b' ≡ b) × (t : OnGuest p e d (carries z) a a' r r' c c' w v said)
      × Commanding l e d z r' hand table settings (e.side.after w t.op t.access t.got) v)
      ⊎ ((a' ≡ a) × (t : OnShadow q e d (carries z) b b' r r' c c' w v said)
      × Commanding l e d z r' hand table settings w (d.side.after v t.op t.access t.got))
  pub kept : IsKept r r'

-- one chain has ended, or none. What was answered before is so still, if no more than one act was added on the guest's ring
pub record RelayCommanded {P Q E D : Type 0} (p : PortModel P) (q : PortModel Q) (e : DeviceModel E) (d : DriverModel D) (l : LayoutModel)
    (y : CommandStart) (r : State E D) (table : List (Option kept.Command)) (settings : Settings) (begun : List Begun) (now : Settings)
    (a : P) (b : Q) (v : DriverView) (old_view sw : DeviceView) : Type 0 where
  pub words : List ℕ
  pub shadow_words : List ℕ
  pub view : DeviceView
  pub shadow_view : DriverView
  pub plain : p.plain a words
  pub shadow_plain : q.plain b shadow_words
  -- the view of the guest's ring is as it was, or the one after an access that was next
  pub seen : (view ≡ old_view) ⊎ ((op : Op) × (access : Access) × (got : ℕ) × e.side.next old_view op access
      × (view ≡ e.side.after old_view op access got))
  pub lane : IsCommandLane e d l y r table settings begun now words shadow_words v view shadow_view sw
  pub gave : MayEndOne (length (offers v.done)) (length (lane_commands y begun)) (gives old_view.done) (gives view.done)
  pub answers : IsOneActMore old_view.done view.done → AreAnsweredTo (before y) v old_view → AreAnsweredTo (before y) v view

-- ---- a stop

-- the guest's end rests, and each command begun was given back once with its length. Those taken and not begun are offered still; the
-- guest's base is that of the chains begun, and with these commands the next epoch begins
pub record LeavesCommands {E : Type 0} (e : DeviceModel E) (end : E) (begun : List (List ℕ × ℕ)) (v : DriverView) (w : DeviceView)
    : Type 0 where
  pub rests : e.resting end ≡ true
  pub lawful : Lawful (command_account v begun w)
  pub even : length (gives w.done) ≡ length begun
  pub taken : length (takes w.done) ≡ length begun
  pub whole : IsWhole w.done
  pub base : e.base end ≡ e.base_of w.frame (takes w.done)
  pub next : IsBegunBefore begun (take (length (gives w.done)) (guest_commands v)) (gives w.done)
  pub ones : All (λ x. x.1 ≡ 1) begun
