-- A lane in a shadow epoch: the parts that its parties promise, each of its own views, and what follows from them and the two rings.
use Rattle.std.specs.Prelude.{◌≡◌, ℕ, ◌+◌, ◌<◌, true, false, Some, List, ◌++◌, length, map, take, drop}
use mathlib.Core.List.{IsPrefix}
use Rattle.vd_model.specs.declared.chain.Piece.{Piece}
use Rattle.vd_model.specs.declared.map.Mapping.{Mapping}
use Rattle.vd_model.specs.declared.record.Begun.{Begun}
use Rattle.vd_model.specs.Maps.{to, back}
use Rattle.vd_ring.specs.declared.driver.DriverView.{DriverView}
use Rattle.vd_ring.specs.declared.device.DeviceView.{DeviceView}
use Rattle.vd_ring.specs.History.{offers, collects, takes, gives, chain, IsWhole}
use Rattle.vd_ring.specs.Account.{Lawful}
use Rattle.vd_layout.specs.Driver.{DriverModel}
use Rattle.vd_layout.specs.Device.{DeviceModel}
use Rattle.vd_layout.specs.Layout.{LayoutModel}
use Rattle.vd_bus.specs.declared.device.Attached.{Attached}
use Rattle.vd_bus.specs.Device.{IsServing}
use Rattle.vd_model.specs.Moved.{moved, moved_back}
use Rattle.vd_relay.specs.Tie.{Start, HoldsOpen, shift, since}
use Rattle.vd_relay.specs.declared.state.State.{State}
use Rattle.vd_relay.specs.Moving.{Stands}
use Rattle.vd_relay.specs.Stages.{is_rested}
use Rattle.vd_switch.specs.Account.{IsBegunBefore, lane_account}

-- ---- the parts

-- by the map a range of guest addresses comes back from its iova
abbrev pub IsUndone : List Mapping → Type 0
IsUndone ms = (addr len iova : ℕ) → 0 < len → to ms addr len ≡ Some iova → back ms iova len ≡ Some addr

-- once the relay winds up, the device of the shadow ring has given all that it took, and the relay was told how many
pub record IsWinding {E D : Type 0} (r : State E D) (sw : DeviceView) : Type 0 where
  pub target : r.target ≡ length (gives sw.done)
  pub even : length (takes sw.done) ≡ length (gives sw.done)
  pub whole : IsWhole sw.done

-- the parts of a shadowing lane: the two rings, the relay's ends and tie, and what the device of the shadow ring has journalled
pub record IsShadowing {E D : Type 0} (e : DeviceModel E) (d : DriverModel D) (l : LayoutModel) (z : Start) (old : List (List Piece × ℕ))
    (r : State E D) (begun : List Begun) (by : Attached) (words shadow_words : List ℕ) (v : DriverView) (w : DeviceView) (sv : DriverView)
    (sw : DeviceView) : Type 0 where
  pub ring : l.ring words v w
  pub shadow_ring : l.ring shadow_words sv sw
  pub relays : Stands e d z r w sv
  pub serves : IsServing begun by sw.done
  pub from : by.from ≡ 0
  pub winds : r.winding ≡ true → IsWinding r sw
  pub before : IsBegunBefore old z.takes z.gives
  pub undone : IsUndone z.map

-- ---- the account

abbrev pub begun_back : List Mapping → Begun → List Piece × ℕ
begun_back ms b = (moved_back ms b.chain, b.len)

-- the chains begun in the lane: those before, and those of the device of the shadow ring at their guest addresses
abbrev pub lane_begun : Start → List (List Piece × ℕ) → List Begun → Attached → List (List Piece × ℕ)
lane_begun z old begun by = old ++ map (begun_back z.map) (drop by.at begun)

-- ---- what follows

-- a lane is kept while it is shadowing
pub record KeepsShadowing {E D : Type 0} (z : Start) (old : List (List Piece × ℕ)) (r : State E D) (begun : List Begun) (by : Attached)
    (v : DriverView) (w : DeviceView) (sv : DriverView) (sw : DeviceView) : Type 0 where
  pub lawful : Lawful (lane_account v.done (lane_begun z old begun by) w.done)
  -- the chains begun are a prefix of those taken from the guest's ring
  pub chains : map (λ x. x.0) (lane_begun z old begun by) ≡ take (length (lane_begun z old begun by)) (takes w.done)
  -- past those before, they are those taken from the shadow ring, at their guest addresses
  pub past : map (λ x. x.0) (drop (since z) (lane_begun z old begun by)) ≡ map (moved_back z.map) (takes sw.done)
  -- while the guest's end doesn't rest, each chain offered on the shadow ring is one taken from the guest's ring, moved
  pub offered : is_rested r.stage ≡ false → (i : ℕ) → i < length (offers sv.done) → (since z + i < length (takes w.done))
      × (chain sv.done i ≡ moved z.map (chain v.done (since z + i)))
  -- what was given past those before is, with its lengths, a prefix of what was collected from the shadow ring
  pub given : IsPrefix (drop (since z) (gives w.done)) (map (shift (since z)) (collects sv.done))
  pub table : HoldsOpen r.table (λ k. since z + k) sv.frame sv.done
