-- The lists and positions of the two sides agree; what the two looks show; where each side stores.
use Rattle.std.proofs.Common.{◌↔◌, ◌≡◌, ℕ, ◌+◌, ◌*◌, ◌%◌, ◌<◌, ◌≤◌, Bool, true, false, List, [], ◌∷◌, ◌++◌, length, take, nat_lt, slice_index, slice_index_or, refl, sym, ap, ◌∙◌, subst, arith, inl, inr}
use Rattle.std.proofs.lemmas.Bool.{cases_lt}
use Rattle.std.proofs.lemmas.List.{length_push, get_or_push, get_or-take}
use Rattle.vd_model.specs.Chains.{needs}
use Rattle.vd_words.specs.declared.access.Access.TheVariants.{Store}
use Rattle.vd_words.specs.declared.access.Op.TheVariants as op
use Rattle.vd_ring.specs.declared.frame.Frame.{Frame}
use Rattle.vd_ring.specs.declared.frame.Put.{Put}
use Rattle.vd_ring.specs.declared.frame.Used.{Used}
use Rattle.vd_ring.specs.declared.driver.DriverDone.{DriverDone}
use Rattle.vd_ring.specs.declared.driver.DriverNow.{DriverNow}
use Rattle.vd_ring.specs.declared.driver.DriverNow.TheVariants as driver
use Rattle.vd_ring.specs.declared.driver.DriverView.{DriverView}
use Rattle.vd_ring.specs.declared.device.DeviceDone.{DeviceDone}
use Rattle.vd_ring.specs.declared.device.DeviceNow.{DeviceNow}
use Rattle.vd_ring.specs.declared.device.DeviceNow.TheVariants as device
use Rattle.vd_ring.specs.declared.device.DeviceView.{DeviceView}
use Rattle.vd_ring.specs.Account.{Accounts}
use Rattle.vd_ring.specs.History.{offers, collects, takes, gives, next_head, chain, used_at, entry, running}
use Rattle.vd_ring.proofs.Accounting.{ordered, accounts}
use Rattle.vd_ring.proofs.Counts.{one_small, occurs_from}
use Rattle.vd_ring.proofs.HeldPlaces.{chain_fits}
use Rattle.vd_ring.proofs.ListSteps.{given_below, given_within}
use Rattle.vd_ring.proofs.DeviceLists.{running_below}
use Rattle.vd_packed_ring.specs.PackedWords.{IsLawful, kick_at, call_at, second_word, is_used, put}
use Rattle.vd_packed_ring.specs.PackedSignals.{StoresBell}
use Rattle.vd_packed_ring.specs.PackedPositions.{offer_position, collect_position}
use Rattle.vd_packed_ring.specs.PackedDriver.{Begins, Publishes, DriverNextAt, DriverNext}
use Rattle.vd_packed_ring.specs.PackedDevice.{Returns, DeviceNextAt, DeviceNext}
use Rattle.vd_packed_ring.specs.PackedDriverLaws.{StoresAhead}
use Rattle.vd_packed_ring.specs.PackedLaws.{Counts, Agree, LooksShow, GivesBehind}
use Rattle.vd_packed_ring.specs.PackedRing.{Ring, puts_of}
use Rattle.vd_packed_ring.proofs.Areas.{areas, places_differ}
use Rattle.vd_packed_ring.proofs.Positions.{needs_some, order, taken_chain, device_span, gives_below}
use Rattle.vd_packed_ring.proofs.Clear.{IsStaged, stored_all}
use Rattle.vd_packed_ring.proofs.Collects.{shows_none, found}
use Rattle.vd_packed_ring.proofs.Ahead.{none_shows}
use Rattle.vd_packed_ring.proofs.Takes.{shows_next}

collected_at : (o : List DriverDone) (gs : List Used) (j : ℕ) → collects o ≡ take (length (collects o)) gs → j < length (collects o)
    → used_at (collects o) j ≡ used_at gs j
collected_at o gs j is h = ap (λ (us : List Used). used_at us j) is ∙ get_or-take (length (collects o)) gs j (entry 0 0) h

pub agree : (ws : List ℕ) (d : DriverView) (e : DeviceView) → Ring ws d e → Agree d.frame d.done e.done
agree ws d e r =
    let f : Frame = d.frame in let o : List DriverDone = d.done in let s : List DeviceDone = e.done in
    let l = r.lists in
    let ord = order f o s r.places l in
    record {
      taken = l.taken;
      collected = l.collected;
      differ = λ k. omega (arith, l.given k, one_small (nat_lt k (length (takes s))));
      below = λ j h. given_below f o s j l h;
      counts = (l.fewer, omega (arith, l.count), l.some);
      positions = (ord.collected, ord.given, ord.taken);
      few = (given_within f o s r.places l).1;
      room = omega (arith, ord.open_span, r.room);
      span = r.room;
      given_ordered = λ on. ordered (gives s) (l.in_order on);
      collected_ordered = λ on. ordered (collects o) (λ j h. ap (λ (u : Used). u.number) (collected_at o (gives s) j l.collected h)
          ∙ l.in_order on j (omega (arith, l.fewer)));
      device_counts = record {
        once = l.given;
        some = λ k a.
            let rb = running_below f o s k l (occurs_from k (running s) a) in
            omega (
              arith,
              ap (needs f.features) (taken_chain f o s k l rb.0),
              needs_some f (chain o k) (chain_fits f o k r.places (omega (arith, rb.0, l.some))),
            );
      };
    }

not_both : (b : Bool) → b ≡ false → b ≡ true → ⊥
not_both b off on = let e : false ≡ true = sym off ∙ on in absurd cc

driver_shows : (ws : List ℕ) (d : DriverView) (e : DeviceView) → puts_of d.doing ≡ [] → Ring ws d e
    → (is_used d.frame.size (collect_position d.frame d.done)
    (slice_index ws (second_word d.frame.size (collect_position d.frame d.done))) ≡ true) ↔
    (length (collects d.done) < length (gives e.done))
driver_shows ws d e clear r = (
  λ on. elim (cases_lt (length (collects d.done)) (length (gives e.done)))
      [ inl h ↦ h | inr h ↦ absurd (not_both _ (shows_none ws d e clear r h) on) ],
  λ more. (found ws d e clear r more).shows,
)

pub looks_show : (ws : List ℕ) (d : DriverView) (e : DeviceView) → Ring ws d e → LooksShow ws d e
looks_show ws d e r = record {
  driver = λ clear. driver_shows ws d e clear r;
  device = (
    λ on. elim (cases_lt (length (takes e.done)) (length (offers d.done)))
        [ inl h ↦ h | inr h ↦ absurd (not_both _ (none_shows ws d e r h).1 on) ],
    λ more. shows_next ws d e r more,
  );
}

-- ---- where each side stores, from its own view

pub stored_at : (f : Frame) (o : List DriverDone) (puts : List Put) (p x : ℕ) → (n : Begins f o (puts ++ put p x ∷ []))
    → IsStaged f (next_head f o) (offer_position f o) (needs f.features n.chain) p
stored_at f o puts p x n =
    let all : List Put = puts ++ put p x ∷ [] in
    let at : (slice_index_or all (length puts) (put 0 0)).place ≡ p =
    ap (λ (s : Put). s.place) (get_or_push puts (put p x) (put 0 0) (length puts) refl) in
    subst (λ (i : ℕ). IsStaged f (next_head f o) (offer_position f o) (needs f.features n.chain) i) at
    (stored_all f o n.chain all n.can.fits.chain n.first (length puts) (put 0 0) (omega (arith, length_push puts (put p x))))

stored_last : (f : Frame) (o : List DriverDone) (puts : List Put) (p x : ℕ) → Begins f o (puts ++ put p x ∷ []) → p < 2 * f.size
    → StoresAhead f o p
stored_last f o puts p x n low = elim (stored_at f o puts p x n) [
  | inl t ↦ absurd (omega (arith, t.low))
  | inr w ↦ record {
    position = w.position;
    place = elim w.place [ inl a ↦ inl a | inr a ↦ inr a.0 ];
    least = w.least;
    most = omega (arith, w.most, n.can.room);
  }
]

pub last_ahead : (f : Frame) (o : List DriverDone) (puts : List Put) (p x : ℕ) → Publishes f o puts p x → StoresAhead f o p
last_ahead f o puts p x n = record {
  position = offer_position f o;
  place = inr (ap (λ (s : Put). s.place) n.last);
  least = omega arith;
  most = omega (arith, n.can.room, needs_some f n.chain n.can.fits);
}

ahead_at : (d : DriverView) (now : DriverNow) (p x : ℕ) → IsLawful d.frame
    → DriverNextAt now (record d { doing = now }) op.Offer (Store p x) → p < 2 * d.frame.size → StoresAhead d.frame d.done p
ahead_at d driver.Idle p x l h low = stored_last d.frame d.done [] p x h.1 low
ahead_at d (driver.Offering puts) p x l (inl h) low = stored_last d.frame d.done puts p x h low
ahead_at d (driver.Offering puts) p x l (inr h) low = last_ahead d.frame d.done puts p x h
ahead_at d (driver.Ringing old new) p x l h low = let n : StoresBell (kick_at d.frame) d.bells p x = h in
    absurd (omega (arith, n.place, areas d.frame))
ahead_at d _ p x l h low = absurd h

-- the driver stores descriptors at positions from its own on, below that of what it collected and the size
pub stores_ahead : (d : DriverView) (p x : ℕ) → IsLawful d.frame → DriverNext d op.Offer (Store p x) → p < 2 * d.frame.size
    → StoresAhead d.frame d.done p
stores_ahead d p x l h low = ahead_at d d.doing p x l h low

behind_at : (e : DeviceView) (now : DeviceNow) (p x : ℕ) → Counts e.frame e.done
    → DeviceNextAt now (record e { doing = now }) op.Give (Store p x) → p < 2 * e.frame.size → GivesBehind e.frame e.done p
behind_at e device.Idle p x c h low =
    let n : Returns e.frame e.done p x = h.1 in record {
      place = n.place;
      below = gives_below e.frame e.done n.number (device_span e.frame e.done c.once) (occurs_from n.number (running e.done) n.runs)
          (c.some n.number n.runs);
    }
behind_at e (device.Taking []) p x c h low = absurd h
behind_at e (device.Taking (w ∷ ws)) p x c h low = absurd h
behind_at e (device.Ringing old new) p x c h low = let n : StoresBell (call_at e.frame) e.bells p x = h in
    absurd (omega (arith, n.place, areas e.frame))
behind_at e _ p x c h low = absurd h

-- the device stores descriptors at its own position, which is below that of what it took
pub gives_behind : (e : DeviceView) (p x : ℕ) → Counts e.frame e.done → DeviceNext e op.Give (Store p x) → p < 2 * e.frame.size
    → GivesBehind e.frame e.done p
gives_behind e p x c h low = behind_at e e.doing p x c h low

-- of the positions that the driver stores, none is past a position from what it collected on with the same place
pub greatest : (n low u p : ℕ) → 0 < n → low ≤ u → p < low + n → p % n ≡ u % n → p ≤ u
greatest n low u p pos a b same = elim (cases_lt u p) [ inl h ↦ absurd (places_differ n u p pos h (omega arith) (sym same)) | inr h ↦ h ]

-- the account of the ring
pub account : (ws : List ℕ) (d : DriverView) (e : DeviceView) → Ring ws d e → Accounts d.frame.features.in_order d.done e.done
account ws d e r = accounts d.frame d.done e.done r.lists
