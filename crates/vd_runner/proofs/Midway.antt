-- A text that is put part by part: the sink holds a front of it, and the rest is still to come.
use Rattle.std.proofs.Common.{◌≡◌, ℕ, List, [], ◌++◌, Option, Some, None, refl, ap, sym, ◌∙◌, append_assoc, append-nil}
use Rattle.std.specs.Io.KnownBytes.{Appends}
use Rattle.vd_stream.specs.Sinks.{AppendsFront}

pub record Midway (old now : Option (List ℕ)) (whole rest : List ℕ) : Type 0 where
  pub front : List ℕ
  pub parts : whole ≡ front ++ rest
  pub held : Appends old now front

pub appends_none : (o : Option (List ℕ)) → Appends o o []
appends_none None = tt
appends_none (Some xs) = sym (append-nil xs)

pub appends_both : (a b c : Option (List ℕ)) (xs ys : List ℕ) → Appends a b xs → Appends b c ys → Appends a c (xs ++ ys)
appends_both None b c xs ys h i = tt
appends_both (Some s) None c xs ys h i = absurd h
appends_both (Some s) (Some t) None xs ys h i = absurd i
appends_both (Some s) (Some t) (Some u) xs ys h i = i ∙ ap (λ r. r ++ ys) h ∙ append_assoc s xs ys

-- nothing was put yet
pub begin : (o : Option (List ℕ)) (whole : List ℕ) → Midway o o whole whole
begin o whole = record { front = []; parts = refl; held = appends_none o }

-- the next part was put
pub go_on : (a b c : Option (List ℕ)) (whole part rest : List ℕ) → Midway a b whole (part ++ rest) → Appends b c part
    → Midway a c whole rest
go_on a b c whole part rest m h = record {
  front = m.front ++ part;
  parts = m.parts ∙ sym (append_assoc m.front part rest);
  held = appends_both a b c m.front part m.held h;
}

-- all was put
pub done : (a b : Option (List ℕ)) (whole : List ℕ) → Midway a b whole [] → Appends a b whole
done a b whole m = rw (m.parts, append-nil) m.held

pub done_last : (a b c : Option (List ℕ)) (whole part : List ℕ) → Midway a b whole part → Appends b c part → Appends a c whole
done_last a b c whole part m h = rw m.parts (appends_both a b c m.front part m.held h)

-- a front of the next part was put
pub broken_off : (a b c : Option (List ℕ)) (whole part rest : List ℕ) → Midway a b whole (part ++ rest) → AppendsFront b c part
    → AppendsFront a c whole
broken_off a b c whole part rest m h = record {
  front = m.front ++ h.front;
  rest = h.rest ++ rest;
  parts = m.parts ∙ ap (λ p. m.front ++ (p ++ rest)) h.parts ∙ ap (λ r. m.front ++ r) (append_assoc h.front h.rest rest)
      ∙ sym (append_assoc m.front h.front (h.rest ++ rest));
  held = appends_both a b c m.front h.front m.held h.held;
}

pub broken_off_last : (a b c : Option (List ℕ)) (whole part : List ℕ) → Midway a b whole part → AppendsFront b c part
    → AppendsFront a c whole
broken_off_last a b c whole part m h =
    broken_off a b c whole part [] (record {
      front = m.front;
      parts = m.parts ∙ ap (λ r. m.front ++ r) (sym (append-nil part));
      held =
          m.held;
    }) h
