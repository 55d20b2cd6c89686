-- The command and ack words of a ring whose sides stored what their views say.
use Rattle.std.proofs.Common.{◌≡◌, ℕ, ◌+◌, ◌<◌, true, List, slice_index, ◌∙◌}
use Rattle.vd_ring.specs.declared.frame.Frame.{Frame}
use Rattle.vd_ring.specs.declared.driver.DriverDone.{DriverDone}
use Rattle.vd_ring.specs.declared.device.DeviceDone.{DeviceDone}
use Rattle.vd_ring.specs.History.{gives, head, used_at}
use Rattle.vd_ring.specs.Control.{Commands, Acks}
use Rattle.vd_ring.specs.ControlLaws.{ControlStands}
use Rattle.vd_ring.specs.Places.{Places}
use Rattle.vd_ring.specs.Lists.{Lists}
use Rattle.vd_ring.proofs.Counts.{occurs_from}
use Rattle.vd_ring.proofs.DeviceLists.{running_head, same_taken_head}
use Rattle.vd_ring.proofs.HeldInside.{head_low}

pub control_stands : (f : Frame) (command ack : Frame → ℕ → ℕ) (o : List DriverDone) (s : List DeviceDone) (ws driven served : List ℕ)
    → 0 < f.size → Places f o → Lists f o s
    → (f.control ≡ true → (h i : ℕ) → h < f.size → i < 2 → slice_index ws (command f h + i) ≡ slice_index driven (command f h + i))
    → (f.control ≡ true → (h : ℕ) → h < f.size → slice_index ws (ack f h) ≡ slice_index served (ack f h))
    → Commands f (command f) (ack f) o driven → Acks f (ack f) o s served → ControlStands f command ack o s ws
control_stands f command ack o s ws driven served some p l as_driven as_served c a = record {
  inside = λ k runs. (running_head f o s k p l (occurs_from k _ runs)).1;
  apart = λ k runs j here same. same_taken_head f o s j k p l (occurs_from j _ here) (occurs_from k _ runs) same;
  commands = record {
    chains = c.chains;
    last = λ on h i low two. as_driven on h i low two ∙ c.last on h i low two;
    stand = λ on k i here two. as_driven on (head f o k) i (head_low f o k some) two ∙ c.stand on k i here two;
  };
  acks = record {
    last = λ on h low. as_served on h low ∙ a.last on h low;
    stand = λ on j low high. as_served on (head f o (used_at (gives s) j).number) (head_low f o (used_at (gives s) j).number some)
        ∙ a.stand on j low high;
    collected = λ on k last. as_served on (head f o k) (head_low f o k some) ∙ a.collected on k last;
    commands_agree = a.commands_agree;
    acks_agree = a.acks_agree;
  };
}
