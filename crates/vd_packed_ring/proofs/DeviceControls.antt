-- The device's accesses of command and ack words keep the ring invariant.
use Rattle.std.proofs.Common.{◌≡◌, ℕ, ◌+◌, ◌-◌, ◌*◌, ◌/◌, ◌%◌, ◌<◌, ◌≤◌, List, ◌∷◌, length, slice_index, slice_set, refl, sym, ap, ◌∙◌, subst, arith}
use Rattle.vd_ring.specs.declared.frame.Frame.{Frame}
use Rattle.vd_ring.specs.declared.driver.DriverDone.{DriverDone}
use Rattle.vd_ring.specs.declared.driver.DriverView.{DriverView}
use Rattle.vd_ring.specs.declared.device.DeviceDone.{DeviceDone}
use Rattle.vd_ring.specs.declared.device.DeviceDone.TheVariants.{StoreAck, LoadCommand}
use Rattle.vd_ring.specs.declared.device.DeviceNow.TheVariants.{Idle}
use Rattle.vd_ring.specs.declared.device.DeviceView.{DeviceView}
use Rattle.vd_ring.specs.History.{offers, running, open_at, taken_head, with_head}
use Rattle.vd_ring.specs.Control.{LoadsCommand, StoresAck, command_of}
use Rattle.vd_ring.proofs.Counts.{occurs_from, Contains_from, with_head_is}
use Rattle.vd_ring.proofs.DeviceLists.{running_below, running_open, running_head, same_taken_head, lists_commanded, lists_acked}
use Rattle.vd_ring.proofs.DeviceAcks.{acks_commanded, acks_acked}
use Rattle.vd_packed_ring.specs.PackedWords.{IsDevices, width, device_event, call_at, commands_from, acks_from, command_word, ack_word}
use Rattle.vd_packed_ring.specs.PackedPositions.{offer_position, second_at}
use Rattle.vd_packed_ring.specs.PackedDevice.{device_commands, device_acks}
use Rattle.vd_packed_ring.specs.PackedRing.{Ring, puts_of}
use Rattle.vd_packed_ring.proofs.Areas.{areas, device_stores, command_drivers, ack_devices, acks_follow}
use Rattle.vd_packed_ring.proofs.Rows.{row_same, row_elsewhere}
use Rattle.vd_packed_ring.proofs.Clear.{doing_past, doing_other, signals_elsewhere}
use Rattle.vd_packed_ring.proofs.DeviceParts.{ring_with}

-- a load of a command word
pub commands : (ws : List ℕ) (d : DriverView) (e : DeviceView) (p : ℕ) → Ring ws d (record e { frame = d.frame; doing = Idle })
    → LoadsCommand d.frame (command_word d.frame) e.done p
    → Ring ws d (device_commands (record e { frame = d.frame; doing = Idle }) p (slice_index ws p)) × (p < width d.frame)
commands ws d e p r n =
    let f : Frame = d.frame in let s : List DeviceDone = e.done in let o : List DriverDone = d.done in
    let E : DeviceView = record e { frame = d.frame; doing = Idle } in
    let k : ℕ = n.number in let i : ℕ = n.half in let two : i < 2 = n.two in
    let runs = occurs_from k (running s) n.runs in
    let hd = running_head f o s k r.places r.lists runs in
    let h : ℕ = taken_head s k in
    let is_open = running_open f o s k r.places r.lists runs in
    let at : p ≡ commands_from f + 2 * h + i = n.place in
    let number : with_head (taken_head s) (running s) ((p - commands_from f) / 2) ≡ k =
    let half : (p - commands_from f) / 2 ≡ h = omega arith in
    ap (with_head (taken_head s) (running s)) half ∙ with_head_is (taken_head s) (running s) h k refl runs
    (λ j c a. same_taken_head f o s j k r.places r.lists c runs a) in
    let side : (p - commands_from f) % 2 ≡ i = omega arith in
    let word : slice_index ws p ≡ command_of f o k i =
    ap (λ (q : ℕ). slice_index ws q) n.place ∙ r.words.drivers (command_word f h + i) (command_drivers f h i n.control hd.1 two)
    ∙ ap (λ (g : ℕ). slice_index d.stored (command_word f g + i)) hd.0
    ∙ r.commands.stand n.control k i (Contains_from k (open_at o) is_open) two in
    let x : ℕ = slice_index ws p in
    let below : k < length (offers o) = omega (arith, r.lists.some, running_below f o s k r.lists runs) in (
      subst (λ (j : ℕ). Ring ws d (record E { done = LoadCommand j ((p - commands_from f) % 2) x ∷ s })) (sym number)
          (subst (λ (j : ℕ). Ring ws d (record E { done = LoadCommand k j x ∷ s })) (sym side)
          (ring_with ws ws d E (record E { done = LoadCommand k i x ∷ s }) r record {
            same = refl;
            words = r.words;
            seconds = row_same f.size 1 ws (offer_position f o) (puts_of d.doing) (second_at f o s)
                (second_at f o (LoadCommand k i x ∷ s)) (λ q a. refl) r.seconds;
            lists = lists_commanded f o s k i x r.lists;
            short = r.short;
            signals = r.device_signals;
            acks = acks_commanded f (ack_word f) o s k i x e.stored below word r.acks;
            driver_doing = r.driver_doing;
            device_doing = tt;
            kicks = r.kicks;
            calls = r.calls;
            armed = tt;
            driver_seen = r.driver_seen;
            device_seen = r.device_seen;
            device_shown = r.device_shown;
            rested = tt;
          })),
      omega (arith, areas f, acks_follow f n.control, hd.1),
    )

-- a store of an ack word
pub acks : (ws : List ℕ) (d : DriverView) (e : DeviceView) (p x : ℕ) → Ring ws d (record e { frame = d.frame; doing = Idle })
    → StoresAck d.frame (ack_word d.frame) e.done p
    → Ring (slice_set ws p x) d (device_acks (record e { frame = d.frame; doing = Idle }) p x) × (p < width d.frame)
acks ws d e p x r n =
    let f : Frame = d.frame in let s : List DeviceDone = e.done in let o : List DriverDone = d.done in
    let E : DeviceView = record e { frame = d.frame; doing = Idle } in
    let pos : 0 < f.size = omega (arith, r.lawful.least) in
    let k : ℕ = n.number in
    let runs = occurs_from k (running s) n.runs in
    let hd = running_head f o s k r.places r.lists runs in
    let h : ℕ = taken_head s k in
    let q : ℕ = ack_word f h in
    let wide : length e.stored ≡ width f = r.words.wide.2 in
    let own : IsDevices f q = ack_devices f h n.control hd.1 in
    let inside : q < length e.stored = omega (arith, areas f, acks_follow f n.control, hd.1) in
    let past : 2 * f.size + 2 ≤ q = omega (arith, areas f) in
    let is : q - acks_from f ≡ h = omega arith in
    let st : List ℕ = slice_set e.stored q x in
    let s2 : List DeviceDone = StoreAck h x ∷ s in
    subst (λ (i : ℕ). Ring (slice_set ws i x) d (device_acks E i x) × (i < width f)) (sym n.place) (
      subst (λ (i : ℕ). Ring (slice_set ws q x) d (record E { done = StoreAck i x ∷ s; stored = st })) (sym is)
          (ring_with ws (slice_set ws q x) d E (record E { done = s2; stored = st }) r record {
            same = refl;
            words = device_stores f ws d.stored e.stored q x r.words own;
            seconds = row_same f.size 1 (slice_set ws q x) (offer_position f o) (puts_of d.doing) (second_at f o s) (second_at f o s2)
                (λ j a. refl) (row_elsewhere f.size 1 ws (offer_position f o) (puts_of d.doing) (second_at f o s) q x pos
                (λ j a b. omega arith) r.seconds);
            lists = lists_acked f o s h x r.lists;
            short = r.short;
            signals = signals_elsewhere f (device_event f) (call_at f) e.armed e.bells e.stored q x (λ a. omega arith)
                (λ a. omega (arith, areas f, acks_follow f n.control, hd.1)) r.device_signals;
            acks = acks_acked f (ack_word f) o s e.stored k x r.places r.lists (λ g i a. let same : g ≡ i = omega arith in
                same) runs inside r.acks;
            driver_doing = doing_other d.doing f o ws q x (doing_past d.doing f o ws q r.lawful r.driver_doing own) r.driver_doing;
            device_doing = tt;
            kicks = r.kicks;
            calls = r.calls;
            armed = tt;
            driver_seen = r.driver_seen;
            device_seen = r.device_seen;
            device_shown = r.device_shown;
            rested = tt;
          }),
      omega (arith, inside),
    )
