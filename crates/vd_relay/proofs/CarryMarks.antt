-- What the load of an ack leaves of what was carried: the settings, and which of the other commands are late.
use Rattle.std.proofs.Common.{◌≡◌, ℕ, ◌≤◌, ◌&&◌, ◌||◌, nat_lt, not, Bool, true, false, Some, None, IsSome, Option, List, [], ◌∷◌, if◌then◌else◌, refl, sym, ◌∙◌, ap, subst, arith, inl, inr}
use Rattle.std.proofs.lemmas.Bool.{cases_eq, cases_lt, lt-ltb, le-ltb, ne_eqb}
use Rattle.vd_ring.specs.declared.frame.Frame.{Frame}
use Rattle.vd_ring.specs.declared.driver.DriverDone.{DriverDone}
use Rattle.vd_ring.specs.declared.driver.DriverDone.TheVariants.{LoadAck}
use Rattle.vd_ring.specs.declared.device.DeviceDone.{DeviceDone}
use Rattle.vd_ring.specs.History.{open_at, head, gives, numbers, occurs}
use Rattle.vd_ring.specs.Control.{command_of}
use Rattle.vd_control.specs.declared.command.Command.{Command as Said}
use Rattle.vd_control.specs.declared.settings.Settings.{Settings}
use Rattle.vd_control.specs.Commands.{command}
use Rattle.vd_commands.specs.Words.{word_bytes, set_by}
use Rattle.vd_table.specs.declared.Command.{Command}
use Rattle.vd_table.specs.Rows.{row}
use Rattle.vd_relay.specs.Tie.{guests}
use Rattle.vd_relay.specs.Settling.{IsUnsettled, AreMarked, AreFew, acknowledged, are_same, bytes_of, is_late, is_ok, kept_bytes, marked, set_same, settled}
use Rattle.vd_relay.specs.Commanding.{Takeover, carries, IsCarried, IsLoaded, IsPassed, KeepsOpen, AreCarried}
use Rattle.vd_relay.proofs.CarryTies.{words_same}
use Rattle.vd_relay.proofs.Marking.{or_false}
use Rattle.vd_relay.proofs.SettledChains.{acknowledged_other, settled_more, late_more}

-- the bytes kept of a command are those that its chain carries
kept_are : (at_ack : ℕ → ℕ) (s : List DeviceDone) (number : ℕ) (g : Frame) (o : List DriverDone) (k : ℕ) (c : Command)
    → IsPassed s number g o k → IsLoaded at_ack s number c → kept_bytes c ≡ bytes_of g o k
kept_are at_ack s number g o k c p loaded =
    let same = words_same _ _ _ _ _ p.words loaded.words in
    sym (ap (λ (n : ℕ). word_bytes n (command_of g o k 0) (command_of g o k 1)) (p.bytes ∙ sym loaded.bytes)
    ∙ ap (λ (n : ℕ). word_bytes c.count n (command_of g o k 1)) same.0
    ∙ ap (λ (n : ℕ). word_bytes c.count c.first n) same.1)

-- the commands that are kept have at most 10 bytes
few_there : (x : Option Command) (c y : Command) → x ≡ Some c → x ≡ Some y → c.count ≤ 10 → y.count ≤ 10
few_there (Some x) c y a b few = subst (λ (u : Command). u.count ≤ 10) (let e : c ≡ y = cc (sym a ∙ b) in e) few
few_there None c y a b few = absurd (cc a)

some_there : (x : Option Command) (c : Command) → x ≡ Some c → IsSome x
some_there (Some x) c is = refl
some_there None c is = absurd (cc is)

pub rows_few : (number : ℕ → ℕ) (table : List (Option Command)) (at_ack : ℕ → ℕ) (s : List DeviceDone) (g : Frame) (o : List DriverDone)
    → KeepsOpen table number at_ack s g o → AreFew table
rows_few number table at_ack s g o t h x at =
    let k = t.only h (some_there (row table h) x at) in
    let was = t.stored k.0 k.1 in
    few_there (row table h) was.0 x (ap (row table) (sym k.2) ∙ was.1) at was.2.few

-- ---- one row

abbrev with_late : Command → Bool → Command
with_late x late = record x { late = late }

row_marked : (ok : Bool) (number : ℕ) (c : Option Said) (x : Command) → (if ok then marked number c (Some x) else Some x)
    ≡ Some (with_late x (x.late || (ok && (nat_lt x.number number && are_same (command (kept_bytes x)) c))))
row_marked true number c x = refl
row_marked false number c x = sym (ap (λ (b : Bool). Some (with_late x b)) (or_false x.late))

some_before : (ok : Bool) (number : ℕ) (c : Option Said) (r : Option Command) → IsSome (if ok then marked number c r else r) → IsSome r
some_before true number c None some = some
some_before true number c (Some x) some = refl
some_before false number c r some = some

-- ---- all of them

-- the ack of chain n is loaded, for which c was kept
module _ (z : Takeover) (table table' : List (Option Command)) (settings after : Settings) (at_ack : ℕ → ℕ) (s : List DeviceDone)
    (g : Frame) (o : List DriverDone) (h : AreCarried z table settings at_ack s g o) (n ack : ℕ) (c : Command) (own : IsCarried z o n)
    (loaded : IsLoaded at_ack s (guests (carries z) n) c) (fresh : IsUnsettled g o n c) (marks : AreMarked c ack table table') where
  bytes_same : kept_bytes c ≡ bytes_of g o n
  bytes_same = kept_are at_ack s (guests (carries z) n) g o n c (h.passed n own) loaded

  module _ (k : ℕ) (x : Command) (mine : IsCarried z o k) (there : IsLoaded at_ack s (guests (carries z) k) x)
      (waits : IsUnsettled g o k x) where
    earlier : nat_lt x.number c.number ≡ nat_lt k n
    earlier = elim (cases_lt k n) [
      | inl low ↦ lt-ltb x.number c.number (omega (arith, there.numbered, loaded.numbered, low, mine.not_replayed)) ∙ sym (lt-ltb k n low)
      | inr high ↦ le-ltb x.number c.number (omega (arith, there.numbered, loaded.numbered, high, own.not_replayed)) ∙ sym (le-ltb k n high)
    ]

    late_then : (x.late || (is_ok ack && (nat_lt x.number c.number && set_same (kept_bytes x) (kept_bytes c))))
        ≡ is_late g (LoadAck n ack ∷ o) k
    late_then =
        ap (λ (b : Bool). b || (is_ok ack && (nat_lt x.number c.number && set_same (kept_bytes x) (kept_bytes c)))) waits.late
        ∙ ap (λ (b : Bool). is_late g o k || (is_ok ack && (b && set_same (kept_bytes x) (kept_bytes c)))) earlier
        ∙ ap (λ (b : List ℕ). is_late g o k || (is_ok ack && (nat_lt k n && set_same b (kept_bytes c))))
        (kept_are at_ack s (guests (carries z) k) g o k x (h.passed k mine) there)
        ∙ ap (λ (b : List ℕ). is_late g o k || (is_ok ack && (nat_lt k n && set_same (bytes_of g o k) b))) bytes_same
        ∙ sym (late_more g o n ack own.offered fresh.none k)

  keeps_answered : ((k : ℕ) → 1 ≤ occurs k (open_at o) → IsCarried z o k) → occurs n (open_at o) ≡ 0
      → KeepsOpen table' (guests (carries z)) at_ack s g (LoadAck n ack ∷ o)
  keeps_answered all closed = record {
    sized = marks.sized ∙ h.keeps.sized;
    stored = λ k some.
        let was = h.keeps.stored k some in
        let x : Command = was.0 in
        let now : Bool = x.late || (is_ok ack && (nat_lt x.number c.number && set_same (kept_bytes x) (kept_bytes c))) in (
          with_late x now,
          marks.rows (head g o k)
              ∙ ap (λ (r : Option Command). if is_ok ack then marked c.number (command (kept_bytes c)) r else r) was.1
              ∙ row_marked (is_ok ack) c.number (command (kept_bytes c)) x,
          record { numbered = was.2.numbered; ack = was.2.ack; bytes = was.2.bytes; few = was.2.few; words = was.2.words },
          record {
            none = acknowledged_other o n k ack (λ e. absurd (omega (arith, some, closed, ap (λ (j : ℕ). occurs j (open_at o)) e)))
                ∙ was.3.none;
            late = late_then k x (all k some) was.2 was.3;
          },
        );
    only = λ q some. h.keeps.only q (some_before (is_ok ack) c.number (command (kept_bytes c)) (row table q)
        (subst (λ (r : Option Command). IsSome r) (marks.rows q) some));
  }

  settled_then : after ≡ acknowledged settings c ack → after ≡ settled z.settings z.replayed g (LoadAck n ack ∷ o)
  settled_then is =
      is ∙ ap (λ (b : Bool). if is_ok ack && not b then set_by settings (kept_bytes c ∷ []) else settings) fresh.late
      ∙ ap (λ (b : List ℕ). if is_ok ack && not (is_late g o n) then set_by settings (b ∷ []) else settings) bytes_same
      ∙ ap (λ (x : Settings). if is_ok ack && not (is_late g o n) then set_by x (bytes_of g o n ∷ []) else x) h.settled
      ∙ sym (settled_more g o n ack own.offered fresh.none z.settings z.replayed own.not_replayed)

  pub carried_answered : after ≡ acknowledged settings c ack → (1 ≤ occurs (guests (carries z) n) (numbers (gives s)) → ⊥)
      → ((k : ℕ) → 1 ≤ occurs k (open_at o) → IsCarried z o k) → occurs n (open_at o) ≡ 0
      → AreCarried z table' after at_ack s g (LoadAck n ack ∷ o)
  carried_answered is none all closed = record {
    passed = λ k m.
        let p = h.passed k (record { not_replayed = m.not_replayed; offered = m.offered }) in
        record { bytes = p.bytes; words = p.words };
    answered = λ k m given. elim (cases_eq n k) [
      | inl e ↦ absurd (none (subst (λ (j : ℕ). 1 ≤ occurs (guests (carries z) j) (numbers (gives s))) (sym e) given))
      | inr ne ↦ rw (ne_eqb n k ne) (h.answered k (record { not_replayed = m.not_replayed; offered = m.offered }) given)
    ];
    keeps = keeps_answered all closed;
    settled = settled_then is;
  }
