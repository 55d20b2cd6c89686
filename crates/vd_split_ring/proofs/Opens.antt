-- A fresh ring meets the ring invariant.
use Rattle.std.proofs.Common.{◌%◌, ◌≡◌, ℕ, ◌+◌, ◌<◌, length, replicate, slice_index, refl, sym, ap, arith, zero, suc, ◌∙◌}
use Rattle.std.proofs.lemmas.List.{length-replicate, get_or-replicate}
use Rattle.std.proofs.lemmas.List.Elements.{All-nil}
use Rattle.vd_bits.specs.Lanes.{lane16}
use Rattle.vd_ring.specs.declared.frame.Frame.{Frame}
use Rattle.vd_ring.specs.Frames.{Fits}
use Rattle.vd_ring.specs.laws.Signals.{opens as signals_open}
use Rattle.vd_ring.proofs.Counts.{one_above, length_upto, occurs_upto}
use Rattle.vd_split_ring.specs.SplitWords.{IsLawful, width, used_from, kick_at, call_at, command_word, ack_word, lane_word, event_lane}
use Rattle.vd_split_ring.specs.SplitLaws.{IsFresh}
use Rattle.vd_split_ring.proofs.Areas.{areas, lane_inside, drivers_inside, devices_inside, command_drivers, ack_devices}

zeros : (n i : ℕ) → i < n → slice_index (replicate {A = ℕ} n 0) i ≡ 0
zeros n i h = get_or-replicate n i 0 0 h

zero_lane : (i : ℕ) → lane16 0 i ≡ 0
zero_lane zero = refl
zero_lane (suc zero) = refl
zero_lane (suc (suc zero)) = refl
zero_lane (suc (suc (suc i))) = refl

pub opens : (f : Frame) → IsLawful f → IsFresh f
opens f l =
    let n : ℕ = width f in
    let len : length (replicate {A = ℕ} n 0) ≡ n = length-replicate n 0 in
    let lane = λ (p i : ℕ) (h : p < n). ap (λ w. lane16 w i) (zeros n p h) in
    record {
      same = refl;
      lawful = l;
      words = record { wide = (len, len, len); drivers = λ i h. refl; devices = λ i h. refl };
      places = record {
        once = λ p. omega (arith, occurs_upto p f.size);
        sizes = omega (arith, length_upto f.size);
        as_many = λ k h. absurd (omega arith);
        listed = refl;
        is_open = λ k. sym (one_above k 0 (omega arith));
        count = refl;
        fits = All-nil (Fits f);
        limited = omega arith;
      };
      driver_words = record {
        index = lane (lane_word f 1) 1 (omega (arith, areas f, lane_inside f 1 (omega arith)));
        entries = λ k a c. absurd (omega arith);
        spelled = λ k a. absurd (omega arith);
      };
      lists = record {
        taken = refl;
        some = omega arith;
        as_many = refl;
        heads = λ k a. absurd (omega arith);
        ever = tt;
        given = λ k. sym (one_above k 0 (omega arith));
        count = refl;
        entries = tt;
        collected = refl;
        fewer = omega arith;
        cut = λ h. absurd (omega arith);
        in_order = λ on j a. absurd (omega arith);
      };
      device_words = record {
        index = lane (used_from f) 1 (omega (arith, areas f));
        ids = λ j u low is. absurd cc;
        lens = λ j u low is. absurd cc;
      };
      driver_signals = record {
        no_flags = λ on. lane (lane_word f 0) 0 (omega (arith, areas f, lane_inside f 0 (omega arith)));
        no_event = λ off. lane (lane_word f (event_lane f)) (event_lane f % 4)
            (omega (arith, areas f, lane_inside f (event_lane f) (omega arith))) ∙ zero_lane (event_lane f % 4);
        bit = omega (arith, lane (lane_word f 0) 0 (omega (arith, areas f, lane_inside f 0 (omega arith))));
        flags = λ s a off. lane (lane_word f 0) 0 (omega (arith, areas f, lane_inside f 0 (omega arith)));
        event = λ s a on. absurd cc;
        bell = zeros n (kick_at f) (omega arith);
      };
      device_signals = record {
        no_flags = λ on. lane (used_from f) 0 (omega (arith, areas f));
        no_event = λ off. lane (used_from f + f.size) 2 (omega (arith, areas f));
        bit = omega (arith, lane (used_from f) 0 (omega (arith, areas f)));
        flags = λ s a off. lane (used_from f) 0 (omega (arith, areas f));
        event = λ s a on. absurd cc;
        bell = zeros n (call_at f) (omega arith);
      };
      commands = record {
        chains = λ on k a. absurd (omega arith);
        last = λ on h i low two. zeros n (command_word f h + i)
            (drivers_inside f (command_word f h + i) (command_drivers f h i on low two));
        stand = λ on k i a two. absurd (omega arith);
      };
      acks = record {
        last = λ on h low. zeros n (ack_word f h) (devices_inside f (ack_word f h) (ack_devices f h on low));
        stand = λ on j low high. absurd (omega arith);
        collected = λ on k is. absurd cc;
        commands_agree = tt;
        acks_agree = tt;
      };
      driver_doing = tt;
      device_doing = tt;
      kicks = signals_open;
      calls = signals_open;
      driver_armed = tt;
      device_armed = tt;
      driver_seen = omega arith;
      driver_cut = λ h. absurd (omega arith);
      device_seen = omega arith;
      driver_shown = λ h. absurd cc;
      device_shown = λ h. absurd cc;
      rested = tt;
    }
