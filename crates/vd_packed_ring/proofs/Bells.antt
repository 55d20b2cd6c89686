-- What an event word and a bell that stand in the ring's words say.
use Rattle.std.proofs.Common.{◌≡◌, ◌≢◌, ℕ, ◌+◌, ◌*◌, ◌/◌, ◌%◌, ◌<◌, ◌≤◌, Bool, true, false, Option, Some, None, List, length, if◌then◌else◌, nat_lt, slice_index, slice_set, refl, sym, ap, ◌∙◌, subst, arith, inl, inr}
use Rattle.std.proofs.lemmas.Bool.Decides.{nat_tests}
use Rattle.std.proofs.lemmas.List.{get_or-set_same, get_or-set_other}
use Rattle.std.proofs.lemmas.Nat.{mod_below}
use Rattle.vd_bits.specs.Lanes.{is_even}
use Rattle.vd_event.specs.Words.{arm_word}
use Rattle.vd_event.specs.Rings.{wants}
use Rattle.vd_event.specs.declared.rule.EventRule.TheVariants.{Packed}
use Rattle.vd_event.proofs.SignalLaws.{rings_armed, rings_on}
use Rattle.vd_ring.specs.declared.frame.Frame.{Frame}
use Rattle.vd_ring.specs.declared.driver.DriverView.{DriverView}
use Rattle.vd_ring.specs.declared.device.DeviceView.{DeviceView}
use Rattle.vd_ring.specs.Frames.{limit}
use Rattle.vd_ring.specs.History.{offers}
use Rattle.vd_ring.specs.Sleep.{gives_made}
use Rattle.vd_ring.proofs.Quiet.{few_gives}
use Rattle.vd_packed_ring.specs.PackedWords.{IsLawful, kick_at, call_at, event_word}
use Rattle.vd_packed_ring.specs.PackedSignals.{armed_value, disabled, bell_word, asks, IsRange}
use Rattle.vd_packed_ring.specs.PackedRing.{Ring, SideSignals}

-- ---- the event word

wrapped : (m : ℕ) (b : Bool) → is_even m ≡ b → (if b then 32768 else 0) ≡ 32768 * ((m + 1) % 2)
wrapped m true is = let even : m % 2 ≡ 0 = grind (arith, nat_tests) in omega arith
wrapped m false is = let odd : m % 2 ≡ 1 = grind (arith, nat_tests) in omega arith

-- it is that of vd_event's rule
pub arm_word_is : (n q : ℕ) → arm_word (Packed n) q ≡ event_word n q
arm_word_is n q = omega (arith, wrapped (q / n) (is_even (q / n)) refl)

pub event_small : (n q : ℕ) → 0 < n → n ≤ 32768 → event_word n q < 4294967296
event_small n q pos small = omega (arith, mod_below q n pos)

asks_at : (f : Frame) (old new s : ℕ) (b : Bool) → IsLawful f → IsRange f old new → old ≤ s → s < new
    → wants (Packed f.size) old new ((if b then event_word f.size s else 0) % 4294967296) ≡ true
asks_at f old new s true l r low high =
    let word : arm_word (Packed f.size) s ≡ event_word f.size s % 4294967296 =
    omega (arith, arm_word_is f.size s, event_small f.size s (omega (arith, l.least)) l.most) in
    subst (λ (w : ℕ). wants (Packed f.size) old new w ≡ true) word
    (rings_armed (Packed f.size) old new s (omega (arith, l.least), l.most) (omega (arith, r.near)) low high)
asks_at f old new s false l r low high = rings_on (Packed f.size) old new 0 refl

-- the event word of a side that waits for a position of the range asks for a signal
pub asks_armed : (f : Frame) (old new s word : ℕ) → IsLawful f → IsRange f old new → old ≤ s → s < new → word ≡ armed_value f s
    → asks f old new word ≡ true
asks_armed f old new s word l r low high is = ap (asks f old new) is ∙ asks_at f old new s f.features.event_idx l r low high

-- where a side is armed its event word is that of its position
pub armed_word : (f : Frame) (event_at bell_at : ℕ) (armed : Option ℕ) (bells s : ℕ) (stored : List ℕ)
    → SideSignals f event_at bell_at armed bells stored → armed ≡ Some s → slice_index stored event_at ≡ armed_value f s
armed_word f event_at bell_at armed bells s stored g is = at f.features.event_idx refl
  where
    at : (b : Bool) → f.features.event_idx ≡ b → slice_index stored event_at ≡ (if b then event_word f.size s else 0)
    at true on = g.event s is on
    at false off = g.enable s is off

-- ---- stores of an event word and of a bell

both : (b : Bool) → b ≡ true → b ≡ false → ⊥
both b on off = let e : true ≡ false = sym on ∙ off in cc

some_is : (a b : ℕ) → Some a ≡ Some b → a ≡ b
some_is a b e = cc

pub signals_armed : (f : Frame) (event_at bell_at : ℕ) (armed : Option ℕ) (bells s : ℕ) (stored : List ℕ) → event_at < length stored
    → bell_at ≢ event_at → SideSignals f event_at bell_at armed bells stored
    → SideSignals f event_at bell_at (Some s) bells (slice_set stored event_at (armed_value f s))
signals_armed f event_at bell_at armed bells s stored inside apart g =
    let word : slice_index (slice_set stored event_at (armed_value f s)) event_at ≡ armed_value f s =
    get_or-set_same stored event_at (armed_value f s) 0 inside in record {
      flags = λ off. inl (word ∙ ap (λ (b : Bool). if b then event_word f.size s else 0) off);
      names = λ on. inr (s, word ∙ ap (λ (b : Bool). if b then event_word f.size s else 0) on);
      enable = λ q is off. word ∙ ap (λ (b : Bool). if b then event_word f.size s else 0) off;
      event = λ q is on. word ∙ (ap (λ (b : Bool). if b then event_word f.size s else 0) on ∙ ap (event_word f.size) (some_is s q is));
      bell = get_or-set_other stored event_at bell_at (armed_value f s) 0 apart ∙ g.bell;
    }

pub signals_disarmed : (f : Frame) (event_at bell_at : ℕ) (armed : Option ℕ) (bells : ℕ) (stored : List ℕ)
    → f.features.event_idx ≡ false → event_at < length stored → bell_at ≢ event_at → SideSignals f event_at bell_at armed bells stored
    → SideSignals f event_at bell_at None bells (slice_set stored event_at disabled)
signals_disarmed f event_at bell_at armed bells stored off inside apart g = record {
  flags = λ e. inr (get_or-set_same stored event_at disabled 0 inside);
  names = λ on. absurd (both f.features.event_idx on off);
  enable = λ q is e. absurd cc;
  event = λ q is on. absurd cc;
  bell = get_or-set_other stored event_at bell_at disabled 0 apart ∙ g.bell;
}

-- it is no longer armed, without a store
pub signals_awake : (f : Frame) (event_at bell_at : ℕ) (armed : Option ℕ) (bells : ℕ) (stored : List ℕ)
    → SideSignals f event_at bell_at armed bells stored → SideSignals f event_at bell_at None bells stored
signals_awake f event_at bell_at armed bells stored g =
    record { flags = g.flags; names = g.names; enable = λ q is off. absurd cc; event = λ q is on. absurd cc; bell = g.bell }

pub signals_rung : (f : Frame) (event_at bell_at : ℕ) (armed : Option ℕ) (bells n : ℕ) (stored : List ℕ) → bell_at < length stored
    → event_at ≢ bell_at → SideSignals f event_at bell_at armed bells stored
    → SideSignals f event_at bell_at armed n (slice_set stored bell_at (bell_word n))
signals_rung f event_at bell_at armed bells n stored inside apart g =
    let word : slice_index (slice_set stored bell_at (bell_word n)) event_at ≡ slice_index stored event_at =
    get_or-set_other stored bell_at event_at (bell_word n) 0 apart in record {
      flags = λ off. elim (g.flags off) [ inl h ↦ inl (word ∙ h) | inr h ↦ inr (word ∙ h) ];
      names = λ on. elim (g.names on) [ inl h ↦ inl (word ∙ h) | inr h ↦ inr (h.0, word ∙ h.1) ];
      enable = λ q is off. word ∙ g.enable q is off;
      event = λ q is on. word ∙ g.event q is on;
      bell = get_or-set_same stored bell_at (bell_word n) 0 inside;
    }

-- ---- bells: there are far fewer than 2^64

pub limit_low : (f : Frame) → limit f ≤ 4294967295
limit_low f = at (nat_lt f.ring 16)
  where
    at : (b : Bool) → (if b then 4000000000 else 4294967295) ≤ 4294967295
    at true = omega arith
    at false = omega arith

-- the bell that stands is the number of bells stored
pub call_stands : (ws : List ℕ) (d : DriverView) (e : DeviceView) → Ring ws d e → slice_index ws (call_at d.frame) ≡ e.bells
call_stands ws d e r =
    let word : slice_index ws (call_at d.frame) ≡ e.bells % 18446744073709551616 = r.words.devices (call_at d.frame) (inr (inr refl))
    ∙ r.device_signals.bell in
    let few : e.bells ≤ gives_made e.done = omega (arith, r.calls.bells) in
    omega (arith, word, few, few_gives d.frame e.done r.lists.entries, r.lists.count, r.lists.some, r.places.limited, limit_low d.frame)

pub kick_stands : (ws : List ℕ) (d : DriverView) (e : DeviceView) → Ring ws d e → slice_index ws (kick_at d.frame) ≡ d.bells
kick_stands ws d e r =
    let word : slice_index ws (kick_at d.frame) ≡ d.bells % 18446744073709551616 =
    r.words.drivers (kick_at d.frame) (inr (inr (inr refl))) ∙ r.driver_signals.bell in
    let few : d.bells ≤ length (offers d.done) = omega (arith, r.kicks.bells) in
    omega (arith, word, few, r.places.limited, limit_low d.frame)
