-- A fresh ring meets the ring invariant.
use Rattle.std.proofs.Common.{◌≡◌, ℕ, ◌+◌, ◌*◌, ◌<◌, length, replicate, slice_index, refl, sym, arith, inl}
use Rattle.std.proofs.lemmas.List.{length-replicate, get_or-replicate}
use Rattle.std.proofs.lemmas.List.Elements.{All-nil}
use Rattle.vd_ring.specs.declared.frame.Frame.{Frame}
use Rattle.vd_ring.specs.Frames.{Fits}
use Rattle.vd_ring.specs.laws.Signals.{opens as signals_open}
use Rattle.vd_ring.proofs.Counts.{one_above, length_upto, occurs_upto}
use Rattle.vd_packed_ring.specs.PackedWords.{IsLawful, width, kick_at, call_at, command_word, ack_word, driver_event, device_event}
use Rattle.vd_packed_ring.specs.PackedLaws.{IsFresh}
use Rattle.vd_packed_ring.proofs.Areas.{areas, drivers_inside, devices_inside, command_drivers, ack_devices}

zeros : (n i : ℕ) → i < n → slice_index (replicate {A = ℕ} n 0) i ≡ 0
zeros n i h = get_or-replicate n i 0 0 h

pub opens : (f : Frame) → IsLawful f → IsFresh f
opens f l =
    let n : ℕ = width f in
    let len : length (replicate {A = ℕ} n 0) ≡ n = length-replicate n 0 in
    record {
      same = refl;
      lawful = l;
      words = record { wide = (len, len, len); drivers = λ i h. refl; devices = λ i h. refl };
      places = record {
        once = λ p. omega (arith, occurs_upto p f.size);
        sizes = omega (arith, length_upto f.size);
        as_many = λ k h. absurd (omega arith);
        listed = refl;
        is_open = λ k. sym (one_above k 0 (omega arith));
        count = refl;
        fits = All-nil (Fits f);
        limited = omega arith;
      };
      room = omega arith;
      addresses = record { kept = λ q a c x. absurd (omega arith); fresh = λ p a c x. zeros n (2 * p + 0) (omega (arith, areas f)) };
      seconds = record { kept = λ q a c x. absurd (omega arith); fresh = λ p a c x. zeros n (2 * p + 1) (omega (arith, areas f)) };
      tables = λ k a. absurd (omega arith);
      lists = record {
        taken = refl;
        some = omega arith;
        as_many = refl;
        heads = λ k a. absurd (omega arith);
        ever = tt;
        given = λ k. sym (one_above k 0 (omega arith));
        count = refl;
        entries = tt;
        collected = refl;
        fewer = omega arith;
        cut = λ h. absurd (omega arith);
        in_order = λ on j a. absurd (omega arith);
      };
      short = All-nil (λ u. u.len < 4294967296);
      driver_signals = record {
        flags = λ off. inl (zeros n (driver_event f) (omega (arith, areas f)));
        names =
            λ on. inl (zeros n (driver_event f) (omega (arith, areas f)));
        enable = λ s a off. absurd cc;
        event = λ s a on. absurd cc;
        bell = zeros n (kick_at f) (omega arith);
      };
      device_signals = record {
        flags = λ off. inl (zeros n (device_event f) (omega (arith, areas f)));
        names =
            λ on. inl (zeros n (device_event f) (omega (arith, areas f)));
        enable = λ s a off. absurd cc;
        event = λ s a on. absurd cc;
        bell = zeros n (call_at f) (omega arith);
      };
      commands = record {
        chains = λ on k a. absurd (omega arith);
        last = λ on h i low two. zeros n (command_word f h + i)
            (drivers_inside f (command_word f h + i) (command_drivers f h i on low two));
        stand = λ on k i a two. absurd (omega arith);
      };
      acks = record {
        last = λ on h low. zeros n (ack_word f h) (devices_inside f (ack_word f h) (ack_devices f h on low));
        stand = λ on j low high. absurd (omega arith);
        collected = λ on k is. absurd cc;
        commands_agree = tt;
        acks_agree = tt;
      };
      driver_doing = tt;
      device_doing = tt;
      kicks = signals_open;
      calls = signals_open;
      driver_armed = tt;
      device_armed = tt;
      driver_seen = omega arith;
      device_seen = omega arith;
      driver_shown = λ h. absurd cc;
      device_shown = λ h. absurd cc;
      rested = tt;
    }
