-- A lane whose relay sleeps.
use Rattle.std.specs.Prelude.{◌≡◌, ℕ, ◌+◌, Some, length}
use Rattle.vd_ring.specs.declared.driver.DriverView.{DriverView}
use Rattle.vd_ring.specs.declared.driver.DriverNow.TheVariants as driver
use Rattle.vd_ring.specs.declared.device.DeviceView.{DeviceView}
use Rattle.vd_ring.specs.declared.device.DeviceNow.TheVariants as device
use Rattle.vd_ring.specs.History.{offers, collects, takes, gives}
use Rattle.vd_ring.specs.Sleep.{DriverWaits}
use Rattle.vd_relay.specs.Commanding.{Takeover}
use Rattle.vd_relay.specs.Tie.{Course, Start, moves, since}
use Rattle.vd_relay.specs.Ways.{sent, came}

-- both its ends are idle and armed; each chain that it has taken is offered on the shadow ring, and each entry that it has collected
-- there is given: nothing lies with the relay
pub record SleepsOn (z : Course) (w : DeviceView) (sv : DriverView) : Type 0 where
  pub guest_idle : w.doing ≡ device.Idle
  pub shadow_idle : sv.doing ≡ driver.Idle
  pub guest_armed : (t : ℕ) × (w.armed ≡ Some t)
  pub shadow_armed : (t : ℕ) × (sv.armed ≡ Some t)
  pub offered : length (takes w.done) ≡ length z.gives + length (sent z.way sv.done)
  pub given : length (gives w.done) ≡ length z.gives + length (came z.way sv.done)

-- on a data queue
abbrev pub Sleeps : Start → DeviceView → DriverView → Type 0
Sleeps z w sv = SleepsOn (moves z) w sv

-- ---- nothing lies before any of a shadowing lane's parties

-- all that the guest offered is taken and stands on the shadow ring, all of that is begun, and all that the device gave is given back; and
-- where the guest sleeps without a signal too, it has collected all of it
pub record IsAtRest (z : Start) (v : DriverView) (w : DeviceView) (sv : DriverView) (sw : DeviceView) : Type 0 where
  pub taken : takes w.done ≡ offers v.done
  pub begun : takes sw.done ≡ offers sv.done
  pub finished : collects sv.done ≡ gives sw.done
  pub all_begun : length (offers v.done) ≡ since z + length (takes sw.done)
  pub all_given : length (gives w.done) ≡ since z + length (gives sw.done)
  pub collected : DriverWaits v w → collects v.done ≡ gives w.done

-- and of a control lane whose relay carries, after what was replayed
pub record IsControlAtRest (y : Takeover) (v : DriverView) (w : DeviceView) (sv : DriverView) (sw : DeviceView) : Type 0 where
  pub taken : takes w.done ≡ offers v.done
  pub begun : takes sw.done ≡ offers sv.done
  pub finished : collects sv.done ≡ gives sw.done
  pub all_begun : length (offers v.done) + y.replayed ≡ length y.gives + length (takes sw.done)
  pub all_given : length (gives w.done) + y.replayed ≡ length y.gives + length (gives sw.done)
  pub collected : DriverWaits v w → collects v.done ≡ gives w.done
