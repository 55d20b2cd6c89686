-- The lists of the two sides agree, and what the two looks show.
use Rattle.std.proofs.Common.{◌≡◌, ℕ, ◌%◌, ◌<◌, List, length, take, nat_lt, slice_index, sym, ap, ◌∙◌, arith, inl}
use Rattle.std.proofs.lemmas.Bool.{eq-eqb}
use Rattle.std.proofs.lemmas.List.{get_or-take}
use Rattle.vd_bits.specs.Lanes.{lane16}
use Rattle.vd_model.specs.Chains.{needs}
use Rattle.vd_ring.specs.declared.frame.Frame.{Frame}
use Rattle.vd_ring.specs.declared.frame.Used.{Used}
use Rattle.vd_ring.specs.declared.driver.DriverDone.{DriverDone}
use Rattle.vd_ring.specs.declared.driver.DriverView.{DriverView}
use Rattle.vd_ring.specs.declared.device.DeviceDone.{DeviceDone}
use Rattle.vd_ring.specs.declared.device.DeviceView.{DeviceView}
use Rattle.vd_ring.specs.Account.{Accounts}
use Rattle.vd_ring.specs.Frames.{borrowed}
use Rattle.vd_ring.specs.History.{offers, collects, takes, gives, open_at, chain, used_at, entry}
use Rattle.vd_ring.proofs.Accounting.{ordered, accounts}
use Rattle.vd_ring.proofs.Counts.{one_small, sum_same}
use Rattle.vd_ring.proofs.ListSteps.{given_below, given_within}
use Rattle.vd_split_ring.specs.SplitWords.{used_from, lane_word}
use Rattle.vd_split_ring.specs.SplitRing.{Ring}
use Rattle.vd_split_ring.specs.SplitLaws.{Agree, LooksShow}
use Rattle.vd_split_ring.proofs.Areas.{lane_inside, shows_same}
use Rattle.vd_split_ring.proofs.Direct.{borrowed_needs}

collected_at : (o : List DriverDone) (gs : List Used) (j : ℕ) → collects o ≡ take (length (collects o)) gs → j < length (collects o)
    → used_at (collects o) j ≡ used_at gs j
collected_at o gs j is h = ap (λ (us : List Used). used_at us j) is ∙ get_or-take (length (collects o)) gs j (entry 0 0) h

pub agree : (ws : List ℕ) (d : DriverView) (e : DeviceView) → Ring ws d e → Agree d.frame d.done e.done
agree ws d e r =
    let f : Frame = d.frame in let o : List DriverDone = d.done in let s : List DeviceDone = e.done in
    let l = r.lists in
    record {
      taken = l.taken;
      collected = l.collected;
      differ = λ k. omega (arith, l.given k, one_small (nat_lt k (length (takes s))));
      below = λ j h. given_below f o s j l h;
      counts = (l.fewer, omega (arith, l.count), l.some);
      few = (given_within f o s r.places l).1;
      room = omega (
        arith,
        r.places.sizes,
        sum_same (λ k. needs f.features (chain o k)) (λ k. borrowed f (chain o k)) (open_at o)
            (λ k a. sym (borrowed_needs f (chain o k) r.lawful)),
      );
      given_ordered = λ on. ordered (gives s) (l.in_order on);
      collected_ordered = λ on. ordered (collects o) (λ j h. ap (λ (u : Used). u.number) (collected_at o (gives s) j l.collected h)
          ∙ l.in_order on j (omega (arith, l.fewer)));
    }

pub looks_show : (ws : List ℕ) (d : DriverView) (e : DeviceView) → Ring ws d e → LooksShow ws d e
looks_show ws d e r =
    let f : Frame = d.frame in let o : List DriverDone = d.done in let s : List DeviceDone = e.done in
    let near = given_within f o s r.places r.lists in
    let small = r.lawful.small in
    let used : lane16 (slice_index ws (used_from f)) 1 ≡ length (gives s) % 65536 =
    ap (λ y. lane16 y 1) (r.words.devices (used_from f) (inl (omega arith, omega arith))) ∙ r.device_words.index in
    let avail : lane16 (slice_index ws (lane_word f 1)) 1 ≡ length (offers o) % 65536 =
    ap (λ y. lane16 y 1) (r.words.drivers (lane_word f 1) (inl (lane_inside f 1 (omega arith)))) ∙ r.driver_words.index in
    record {
      driver = (
        λ on. shows_same (slice_index ws (used_from f)) (length (collects o)) (length (gives s)) used r.lists.fewer
            (omega (arith, near)) on,
        λ same. eq-eqb (lane16 (slice_index ws (used_from f)) 1) (length (collects o) % 65536) (used ∙ ap (λ n. n % 65536) same),
      );
      device = (
        λ on. shows_same (slice_index ws (lane_word f 1)) (length (takes s)) (length (offers o)) avail r.lists.some
            (omega (arith, near, r.lists.count, r.lists.fewer)) on,
        λ same. eq-eqb (lane16 (slice_index ws (lane_word f 1)) 1) (length (takes s) % 65536) (avail ∙ ap (λ n. n % 65536) same),
      );
    }

-- the account of the ring
pub account : (ws : List ℕ) (d : DriverView) (e : DeviceView) → Ring ws d e → Accounts d.frame.features.in_order d.done e.done
account ws d e r = accounts d.frame d.done e.done r.lists
