-- What one step of the device's end owes in a view.
use Rattle.std.proofs.Common.{◌≡◌, ℕ, ◌+◌, ◌<◌, ◌≤◌, length, arith}
use Rattle.std.proofs.lemmas.Nat.{mod_below}
use Rattle.vd_words.specs.declared.access.Access.{Access}
use Rattle.vd_words.specs.declared.access.Op.{Op}
use Rattle.vd_words.specs.Model.{PortModel}
use Rattle.vd_ring.specs.declared.act.DeviceAct.{DeviceAct}
use Rattle.vd_ring.specs.declared.device.DeviceView.{DeviceView}
use Rattle.vd_ring.specs.History.{gives}
use Rattle.vd_split_ring.specs.SplitDevice.{DeviceNext, device_after, device_act}
use Rattle.vd_layout.specs.Begun.{IsDeviceOp}
use Rattle.vd_layout.specs.Device.{DeviceSays, IsDeviceStep, is_rested}
use Rattle.vd_split.specs.declared.device.SplitDevice.{SplitDevice}
use Rattle.vd_split.specs.DriverEnd.{split_words}
use Rattle.vd_split.specs.DeviceEnd.{DeviceStands, device_begun, device_left, is_resting, split_device}

-- what one step of the end owes in a view
pub record Goes (e e' : SplitDevice) (v : DeviceView) (o : Op) (a : Access) (r : ℕ) (answer : DeviceAct) : Type 0 where
  pub next : DeviceNext v o a
  pub of_it : IsDeviceOp (device_begun e.doing) o
  pub stands : DeviceStands e' (device_after v o a r)
  pub is : answer ≡ device_act v o a r
  pub left : device_left e'.doing (length e'.pieces.items) < device_left e.doing (length e.pieces.items)
  pub says : DeviceSays split_words answer (device_begun e.doing) (device_begun e'.doing) v.frame v.done (device_after v o a r).done
  pub rests : is_resting e'.doing ≡ is_rested answer

pub made : {P : Type 0} (port : PortModel P) (p q : P) (e e' : SplitDevice) (v : DeviceView) (o : Op) (a : Access) (r : ℕ)
    (answer : DeviceAct) → Goes e e' v o a r answer → port.moves p o a r q → IsDeviceStep port split_device p q v e e' answer
made port p q e e' v o a r answer go moved = record {
  op = o;
  access = a;
  got = r;
  was_next = go.next;
  moved = moved;
  now_stands =
      go.stands;
  is_answer = go.is;
  of_it = go.of_it;
  left = go.left;
  says = go.says;
  rests = go.rests;
}

pub used_below : (e : SplitDevice) (v : DeviceView) → DeviceStands e v → (e.used < e.size) × (e.size ≤ 32768)
    × (e.used + 1 < length e.area.items) × (0 < e.size)
used_below e v st =
    let m = mod_below (length (gives v.done)) v.frame.size st.made.lawful.some_place in (
      omega (arith, st.counts.used_at, st.made.sized),
      omega (arith, st.made.sized, st.made.lawful.small),
      omega (arith, st.counts.used_at, st.area.as_many),
      omega (arith, st.made.sized, st.made.lawful.some_place),
    )
