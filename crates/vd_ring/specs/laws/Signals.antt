-- Lemmas: bells: what always holds between a side that publishes and the side that waits for it. A ring has this twice, once for the chains
-- offered and once for the entries given.
use Rattle.std.proofs.Common.{◌≡◌, ◌⊎◌, inl, inr, ℕ, ◌+◌, ◌<◌, ◌≤◌, Bool, true, false, Some, None, subst, arith}
use Rattle.vd_ring.specs.Signals.{nothing, check, bell, Owes, owing, Publisher, Listener, Signals}

-- ---- the steps of the publisher, which owes nothing when it publishes

pub publishes : (p : Publisher) (l : Listener) (new : ℕ) → p.published < new → p.owed ≡ nothing → Signals p l
    → Signals (record { published = new; owed = check p.published new; bells = p.bells; ranges = p.ranges + 1 }) l
publishes p l new more none s = record {
  own = s.own;
  heard = s.heard;
  bells = omega (arith, s.bells);
  range = λ old end is. cc;
  sleeps = λ at idle armed heard. elim (s.sleeps at idle armed heard) [
    | inl low ↦ split at low
    | inr owes ↦ absurd (subst (λ o. Owes o at) none owes)
  ];
}
  where
    split : (at : ℕ) → p.published ≤ at → (new ≤ at) ⊎ ((p.published ≤ at) × (at < new))
    split at low = grind (arith)

-- the check said Quiet: no position of the range is one for which the listener waits
pub quiets : (p : Publisher) (l : Listener) (old new : ℕ) → p.owed ≡ check old new
    → ((s : ℕ) → l.armed ≡ Some s → old ≤ s → s < new → ⊥) → Signals p l → Signals (record p { owed = nothing }) l
quiets p l old new is none s = record {
  own = s.own;
  heard = s.heard;
  bells = omega (arith, s.bells);
  range = λ old end is. cc;
  sleeps = λ at idle armed heard. elim (s.sleeps at idle armed heard) [
    | inl low ↦ inl low
    | inr owes ↦ (let o : Owes (check old new) at = subst (λ o. Owes o at) is owes in absurd (none at armed o.0 o.1))
  ];
}

-- it said Ring
pub rings : (p : Publisher) (l : Listener) (old new : ℕ) → p.owed ≡ check old new → Signals p l
    → Signals (record p { owed = bell old new }) l
rings p l old new is s = record {
  own = s.own;
  heard = s.heard;
  bells = subst (λ o. p.bells + owing o ≤ p.ranges) is s.bells;
  range = λ old end is. cc;
  sleeps = λ at idle armed heard. elim (s.sleeps at idle armed heard) [
    | inl low ↦ inl low
    | inr owes ↦ (let o : Owes (check old new) at = subst (λ o. Owes o at) is owes in inr o)
  ];
}

-- the bell is stored
pub rung : (p : Publisher) (l : Listener) (old new : ℕ) → p.owed ≡ bell old new → Signals p l
    → Signals (record p { owed = nothing; bells = p.bells + 1 }) l
rung p l old new is s =
    let more : p.bells + 1 ≤ p.ranges = subst (λ o. p.bells + owing o ≤ p.ranges) is s.bells in record {
      own = s.own;
      heard = omega (arith, s.heard);
      bells = omega arith;
      range = λ old end is. cc;
      sleeps = λ at idle armed heard. absurd (omega (arith, s.heard));
    }

-- ---- the steps of the listener

-- any operation but that of a sleeper: it isn't armed, and comes to any position
pub moves : (p : Publisher) (l : Listener) (at : ℕ) (idle : Bool) → l.armed ≡ None → Signals p l
    → Signals p (record l { at = at; idle = idle })
moves p l at idle none s = record {
  own = λ s is. cc;
  heard = s.heard;
  bells = s.bells;
  range = s.range;
  sleeps = λ s idle armed heard. cc;
}

-- it stores its event word, and its look is next
pub arms : (p : Publisher) (l : Listener) → Signals p l → Signals p (record l { armed = Some l.at; idle = false })
arms p l s = record {
  own = λ s is. cc;
  heard = s.heard;
  bells = s.bells;
  range = s.range;
  sleeps = λ s idle armed heard. cc;
}

-- the look showed nothing
pub armed : (p : Publisher) (l : Listener) → p.published ≤ l.at → Signals p l → Signals p (record l { idle = true })
armed p l none s = record {
  own = s.own;
  heard = s.heard;
  bells = s.bells;
  range = s.range;
  sleeps = λ at idle armed heard. inl (omega (arith, s.own at armed));
}

-- it wakes: a look showed more, it is disarmed, or it rests
pub wakes : (p : Publisher) (l : Listener) (idle : Bool) → Signals p l → Signals p (record l { armed = None; idle = idle })
wakes p l idle s = record {
  own = λ s is. cc;
  heard = s.heard;
  bells = s.bells;
  range = s.range;
  sleeps = λ s idle armed heard. cc;
}

-- it hears a bell
pub hears : (p : Publisher) (l : Listener) (idle : Bool) → Signals p l → Signals p (record l { armed = None; idle = idle; heard = p.bells })
hears p l idle s = record {
  own = λ s is. cc;
  heard = omega arith;
  bells = s.bells;
  range = s.range;
  sleeps = λ s idle armed heard. cc;
}

-- ---- a fresh ring, and a quiet one

pub opens : Signals (record { published = 0; owed = nothing; bells = 0; ranges = 0 })
    (record { at = 0; idle = true; armed = None; heard = 0 })
opens = record {
  own = λ s is. cc;
  heard = omega arith;
  bells = omega arith;
  range = λ old end is. cc;
  sleeps = λ s idle armed heard. cc;
}

-- before a sleeper without a signal lies nothing, where the other side has checked all that it published
pub none_before : (p : Publisher) (l : Listener) (s : ℕ) → l.idle ≡ true → l.armed ≡ Some s → l.heard ≡ p.bells → p.owed ≡ nothing
    → Signals p l → p.published ≤ l.at
none_before p l s idle armed heard none h = elim (h.sleeps s idle armed heard) [
  | inl low ↦ omega (arith, h.own s armed)
  | inr owes ↦ absurd (subst (λ o. Owes o s) none owes)
]
