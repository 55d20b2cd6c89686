-- What each act on a control ring leaves of the commands that a model device has executed and answered.
use Rattle.std.proofs.Common.{◌≡◌, ◌≢◌, ◌⊎◌, ℕ, zero, suc, ◌+◌, ◌-◌, ◌*◌, ◌/◌, ◌<◌, ◌≤◌, ◌==◌, ◌&&◌, Bool, true, false, Some, None, Option, List, [], ◌∷◌, ◌++◌, length, map, drop, slice_get, slice_index, nat_lt, if◌then◌else◌, refl, sym, ◌∙◌, ap, subst, arith, inl, inr}
use Rattle.std.specs.List.{All}
use Rattle.std.proofs.lemmas.Bool.{cases_eq, cases_lt, eq-eqb, ne_eqb, lt-ltb}
use Rattle.std.proofs.lemmas.List.{length_push, length-drop, drop_all, drop-append-le, get_or_push}
use Rattle.std.proofs.lemmas.List.Elements.{All-nil, All-push, All-weaker}
use Rattle.std.proofs.lemmas.Option.{slice_get_within}
use Rattle.vd_model.specs.declared.chain.Piece.{Piece}
use Rattle.vd_model.specs.declared.record.Begun.{Begun}
use Rattle.vd_model.specs.Chains.{readable}
use Rattle.vd_ring.specs.declared.device.DeviceDone.{DeviceDone}
use Rattle.vd_ring.specs.declared.device.DeviceDone.TheVariants.{Take, Give, Rest, StoreAck, LoadCommand}
use Rattle.vd_ring.specs.declared.frame.Frame.{Frame}
use Rattle.vd_ring.specs.declared.frame.Used.{Used}
use Rattle.vd_ring.specs.History.{entry, takes, gives, heads, running, taken_head, numbers, occurs, without}
use Rattle.vd_ring.specs.Control.{IsControlChain, ack_of, last_ack}
use Rattle.vd_ring.proofs.Counts.{one, one_same, one_other, occurs_push, occurs_without}
use Rattle.vd_ring.proofs.ListSteps.{some_same}
use Rattle.vd_layout.specs.Control.{ControlWords}
use Rattle.vd_commands.specs.Loads.{loaded, command_loads}
use Rattle.vd_commands.specs.Words.{word_bytes, ack_byte}
use Rattle.vd_bus.specs.declared.device.Attached.{Attached}
use Rattle.vd_bus.specs.DeviceCommands.{IsExecuted, IsAnswered, ack_store}
use Rattle.vd_models.specs.declared.hand.Hand.TheVariants.{Free, Taken, Loaded, Executed}
use Rattle.vd_models.specs.Holding.{given_len}
use Rattle.vd_models.specs.Hands.{IsNew, IsOwed, IsReady, IsClosed, Executes, executed_of, command_len, command_place, ack_place, next_number}

-- ---- lists

get_more : {A : Type 0} (xs ys : List A) (k : ℕ) (x : A) → slice_get xs k ≡ Some x → slice_get (xs ++ ys) k ≡ Some x
get_more [] ys k x h = absurd (cc)
get_more (y ∷ xs) ys zero x h = h
get_more (y ∷ xs) ys (suc k) x h = get_more xs ys k x h

get_last : {A : Type 0} (xs : List A) (x : A) → slice_get (xs ++ x ∷ []) (length xs) ≡ Some x
get_last [] x = refl
get_last (y ∷ xs) x = get_last xs x

get_push : {A : Type 0} (xs : List A) (y : A) (k : ℕ) (x : A) → slice_get (xs ++ y ∷ []) k ≡ Some x
    → (slice_get xs k ≡ Some x) ⊎ ((k ≡ length xs) × (y ≡ x))
get_push [] y zero x h = inr (refl, some_same y x h)
get_push [] y (suc k) x h = absurd (cc)
get_push (z ∷ xs) y zero x h = inl h
get_push (z ∷ xs) y (suc k) x h = elim (get_push xs y k x h) [ inl a ↦ inl a | inr a ↦ inr (ap suc a.0, a.1) ]

some_index : {A : Type 0} (n : ℕ) (xs : List A) (k : ℕ) (x : A) → slice_get (drop n xs) k ≡ Some x → k + n < length xs
some_index n xs k x h = omega (arith, slice_get_within (drop n xs) k x h, length-drop n xs)

head_last : (hs : List ℕ) (h k : ℕ) → length hs ≡ k → slice_index (hs ++ h ∷ []) k ≡ h
head_last hs h k is = get_or_push hs h 0 k is

-- ---- a control chain

control_readable : (a b : ℕ) (c : List Piece) → IsControlChain a b c → readable c ≡ command_len c
control_readable a b c h = subst (λ (z : List Piece). readable z ≡ command_len z) (sym h.is) (omega arith)

pub control_given_len : (a b : ℕ) (c : List Piece) → IsControlChain a b c → given_len c ≡ 1
control_given_len a b c h = subst (λ (z : List Piece). given_len z ≡ 1) (sym h.is) (omega (arith, h.least))

eighth : (n : ℕ) → (8 * n) / 8 ≡ n
eighth n = omega arith

pub control_command : (a b : ℕ) (c : List Piece) → IsControlChain a b c → command_place c ≡ a
control_command a b c h = subst (λ (z : List Piece). command_place z ≡ a) (sym h.is) (eighth a)

pub control_ack : (a b : ℕ) (c : List Piece) → IsControlChain a b c → ack_place c ≡ b
control_ack a b c h = subst (λ (z : List Piece). ack_place z ≡ b) (sym h.is) (eighth b)

-- ---- what was executed stays so

module _ (words : ControlWords) (f : Frame) (by : Attached) (bs : List Begun) (s : List DeviceDone) where
  taken_executed : (c : List Piece) (h k : ℕ) (b : Begun) → k < length (takes s) → IsExecuted s k b → IsExecuted (Take c h ∷ s) k b
  taken_executed c h k b low x = record {
    first = x.first;
    second = x.second;
    are_loaded = rw (ne_eqb (length (takes s)) k (λ e. omega arith)) x.are_loaded;
    bytes = x.bytes;
    one = x.one;
  }

  loaded_executed : (l half x k : ℕ) (b : Begun) → k < l → IsExecuted s k b → IsExecuted (LoadCommand l half x ∷ s) k b
  loaded_executed l half x k b low e = record {
    first = e.first;
    second = e.second;
    are_loaded = rw (ne_eqb l k (λ z. omega arith)) e.are_loaded;
    bytes = e.bytes;
    one = e.one;
  }

  given_executed : (us : List Used) (k : ℕ) (b : Begun) → IsExecuted s k b → IsExecuted (Give us ∷ s) k b
  given_executed us k b x = record { first = x.first; second = x.second; are_loaded = x.are_loaded; bytes = x.bytes; one = x.one }

  rested_executed : (k : ℕ) (b : Begun) → IsExecuted s k b → IsExecuted (Rest ∷ s) k b
  rested_executed k b x = record { first = x.first; second = x.second; are_loaded = x.are_loaded; bytes = x.bytes; one = x.one }

  stored_executed : (h y k : ℕ) (b : Begun) → IsExecuted s k b → IsExecuted (StoreAck h y ∷ s) k b
  stored_executed h y k b x = record { first = x.first; second = x.second; are_loaded = x.are_loaded; bytes = x.bytes; one = x.one }

  -- ---- what was answered stays so

  taken_closed : (c : List Piece) (h : ℕ) (u : Used) → IsClosed bs by s u → IsClosed bs by (Take c h ∷ s) u
  taken_closed c h u x =
      let ne : length (takes s) ≢ u.number = λ e. omega (arith, x.taken) in
      record {
        answered = record {
          since = x.answered.since;
          chain = x.answered.chain;
          is = x.answered.is;
          len = x.answered.len;
          stored = rw (ne_eqb (length (takes s)) u.number ne) x.answered.stored;
          stands = x.answered.stands;
        };
        taken = omega (arith, x.taken, length_push (takes s) c);
        over = omega (arith, x.over, occurs_push u.number (running s) (length (takes s)), one_other (length (takes s)) u.number ne);
      }

  loaded_closed : (l half y : ℕ) (u : Used) → IsClosed bs by s u → IsClosed bs by (LoadCommand l half y ∷ s) u
  loaded_closed l half y u x = record {
    answered = record {
      since = x.answered.since;
      chain = x.answered.chain;
      is = x.answered.is;
      len = x.answered.len;
      stored = x.answered.stored;
      stands = x.answered.stands;
    };
    taken = x.taken;
    over = x.over;
  }

  stored_closed : (h y : ℕ) (u : Used) → IsClosed bs by s u → IsClosed bs by (StoreAck h y ∷ s) u
  stored_closed h y u x = record {
    answered = record {
      since = x.answered.since;
      chain = x.answered.chain;
      is = x.answered.is;
      len = x.answered.len;
      stored = rw x.over x.answered.stored;
      stands = x.answered.stands;
    };
    taken = x.taken;
    over = x.over;
  }

  rested_closed : takes (Rest ∷ s) ≡ takes s → (u : Used) → IsClosed bs by s u → IsClosed bs by (Rest ∷ s) u
  rested_closed same u x = record {
    answered = record {
      since = x.answered.since;
      chain = x.answered.chain;
      is = x.answered.is;
      len = x.answered.len;
      stored = x.answered.stored;
      stands = x.answered.stands;
    };
    taken = omega (arith, x.taken, ap length same);
    over = refl;
  }

  more_closed : (b : Begun) (u : Used) → IsClosed bs by s u → IsClosed (bs ++ b ∷ []) by s u
  more_closed b u x = record {
    answered = record {
      since = x.answered.since;
      chain = x.answered.chain;
      is = get_more bs (b ∷ []) (u.number - by.from + by.at) x.answered.chain x.answered.is;
      len = x.answered.len;
      stored = x.answered.stored;
      stands = x.answered.stands;
    };
    taken = x.taken;
    over = x.over;
  }

  given_closed : (k n : ℕ) (u : Used) → 1 ≤ occurs k (running s) → IsClosed bs by s u → IsClosed bs by (Give (entry k n ∷ []) ∷ s) u
  given_closed k n u runs x =
      let ne : k ≢ u.number = λ e. omega (arith, runs, x.over, ap (λ j. occurs j (running s)) e) in
      record {
        answered = record {
          since = x.answered.since;
          chain = x.answered.chain;
          is = x.answered.is;
          len = x.answered.len;
          stored = x.answered.stored;
          stands = rw (ne_eqb k u.number ne) x.answered.stands;
        };
        taken = x.taken;
        over = omega (arith, x.over, occurs_without u.number k (running s) runs);
      }

  now_closed : (k n : ℕ) → 1 ≤ occurs k (running s) → occurs k (running s) ≤ 1 → k < length (takes s) → (r : IsReady bs by s k)
      → n ≡ r.chain.len → IsClosed bs by (Give (entry k n ∷ []) ∷ s) (entry k n)
  now_closed k n runs once low r is = record {
    answered = record {
      since = r.since;
      chain = r.chain;
      is = r.is;
      len = is;
      stored = r.stored;
      stands = rw (eq-eqb k k refl) r.stands;
    };
    taken = low;
    over = omega (arith, once, occurs_without k k (running s) runs, one_same k k refl);
  }

  -- ---- the acts

  pub executes_taken : (c : List Piece) (h : ℕ) → length (takes s) + by.at ≡ length bs + by.from → length (heads s) ≡ length (takes s)
      → running s ≡ [] → IsControlChain (words.command f h) (words.ack f h) c → Executes words f Free by bs s
      → Executes words f (Taken c) by bs (Take c h ∷ s)
  executes_taken c h many as_many none is x =
      let t : ℕ = length (takes s) in
      let k : ℕ = next_number bs by in
      let same : t ≡ k = omega (arith, x.after) in
      let head : taken_head (Take c h ∷ s) k ≡ h = head_last (heads s) h k (omega (arith, as_many)) in
      record {
        after = x.after;
        each = λ i b at. taken_executed c h (by.from + i) b (omega (arith, some_index by.at bs i b at)) (x.each i b at);
        given = All-weaker (IsClosed bs by s) (IsClosed bs by (Take c h ∷ s)) (taken_closed c h) (drop by.from (gives s)) x.given;
        in_hand = (
          record {
            runs = ap (λ ks. ks ++ t ∷ []) none ∙ ap (λ j. j ∷ []) same;
            last = omega (arith, length_push (takes s) c);
            chain = subst (λ j. IsControlChain (words.command f j) (words.ack f j) c) (sym head) is;
          },
          rw (eq-eqb t k same) refl,
        );
      }

  new_loaded : (c : List Piece) (k half y : ℕ) → IsNew words f c k s → IsNew words f c k (LoadCommand k half y ∷ s)
  new_loaded c k half y n = record { runs = n.runs; last = n.last; chain = n.chain }

  pub executes_loaded : (c : List Piece) (y : ℕ) → Executes words f (Taken c) by bs s
      → Executes words f (Loaded c y) by bs (LoadCommand (next_number bs by) 0 y ∷ s)
  executes_loaded c y x =
      let k : ℕ = next_number bs by in
      record {
        after = x.after;
        each = λ i b at. loaded_executed k 0 y (by.from + i) b (omega (arith, some_index by.at bs i b at)) (x.each i b at);
        given = All-weaker (IsClosed bs by s) (IsClosed bs by (LoadCommand k 0 y ∷ s)) (loaded_closed k 0 y) (drop by.from
            (gives s)) x.given;
        in_hand = (new_loaded c k 0 y x.in_hand.0, rw (eq-eqb k k refl) (ap (λ ls. loaded 0 y ∷ ls) x.in_hand.1));
      }

  pub executes_second : (c : List Piece) (first y : ℕ) → Executes words f (Loaded c first) by bs s
      → Executes words f (Executed (ack_place c) (ack_byte (executed_of c first y).bytes.items)) by (bs ++ executed_of c first y ∷ [])
      (LoadCommand (next_number bs by) 1 y ∷ s)
  executes_second c first y x =
      let k : ℕ = next_number bs by in
      let s' : List DeviceDone = LoadCommand k 1 y ∷ s in
      let e : Begun = executed_of c first y in
      let n = x.in_hand.0 in
      let here : IsExecuted s' k e = record {
        first = first;
        second = y;
        are_loaded = rw (eq-eqb k k refl) (ap (λ ls. loaded 1 y ∷ ls) x.in_hand.1);
        bytes = ap (λ j. word_bytes j first y) (sym (control_readable _ _ c n.chain));
        one = refl;
      } in
      let more : drop by.at (bs ++ e ∷ []) ≡ drop by.at bs ++ e ∷ [] = drop-append-le by.at bs (e ∷ []) x.after in
      record {
        after = omega (arith, x.after, length_push bs e);
        each = λ i b at. elim (get_push (drop by.at bs) e i b (sym (ap (λ (zs : List Begun). slice_get zs i) more) ∙ at)) [
          | inl a ↦ loaded_executed k 1 y (by.from + i) b (omega (arith, some_index by.at bs i b a)) (x.each i b a)
          | inr a ↦ subst (λ (z : Begun). IsExecuted s' (by.from + i) z) a.1 (subst (λ j. IsExecuted s' j e)
              (omega (arith, a.0, length-drop by.at bs, x.after)) here)
        ];
        given = All-weaker (IsClosed bs by s) (IsClosed (bs ++ e ∷ []) by s')
            (λ u h. later e u (loaded_closed k 1 y u h)) (drop by.from (gives s)) x.given;
        in_hand = record {
          number = k;
          runs = n.runs;
          chain = e;
          since = omega arith;
          is = ap (slice_get (bs ++ e ∷ [])) (omega (arith, x.after)) ∙ get_last bs e;
          ack = refl;
          place = control_ack _ _ c n.chain;
        };
      }
    where
      later : (b : Begun) (u : Used) → IsClosed bs by (LoadCommand (next_number bs by) 1 y ∷ s) u
          → IsClosed (bs ++ b ∷ []) by (LoadCommand (next_number bs by) 1 y ∷ s) u
      later b u h = record {
        answered = record {
          since = h.answered.since;
          chain = h.answered.chain;
          is = get_more bs (b ∷ []) (u.number - by.from + by.at) h.answered.chain h.answered.is;
          len = h.answered.len;
          stored = h.answered.stored;
          stands = h.answered.stands;
        };
        taken = h.taken;
        over = h.over;
      }

  pub executes_stored : (place ack : ℕ) (x : Executes words f (Executed place ack) by bs s)
      → Executes words f Free by bs (StoreAck (taken_head s x.in_hand.number) ack ∷ s)
  executes_stored place ack x =
      let o = x.in_hand in
      let k : ℕ = o.number in
      let s' : List DeviceDone = StoreAck (taken_head s k) ack ∷ s in
      record {
        after = x.after;
        each = λ i b at. stored_executed (taken_head s k) ack (by.from + i) b (x.each i b at);
        given = All-weaker (IsClosed bs by s) (IsClosed bs by s') (stored_closed (taken_head s k) ack) (drop by.from (gives s)) x.given;
        in_hand = λ j some.
            let same : k ≡ j = elim (cases_eq k j) [
              | inl a ↦ a
              | inr ne ↦ absurd (omega (arith, some, ap (occurs j) o.runs, one_other k j ne))
            ] in
            subst (IsReady bs by s') same record {
              chain = o.chain;
              since = o.since;
              is = o.is;
              stored = rw (lt-ltb 0 (occurs k (running s)) (omega (arith, ap (occurs k) o.runs, one_same k k refl)))
                  (rw (eq-eqb (taken_head s k) (taken_head s k) refl) (ap Some o.ack));
              stands = rw (eq-eqb (taken_head s k) (taken_head s k) refl) o.ack;
            };
      }

  pub executes_given : (k n : ℕ) → by.from ≤ length (gives s) → 1 ≤ occurs k (running s) → occurs k (running s) ≤ 1
      → k < length (takes s)
      → slice_get (map (λ (b : Begun). b.len) bs) (k - by.from + by.at) ≡ Some n → Executes words f Free by bs s
      → Executes words f Free by bs (Give (entry k n ∷ []) ∷ s)
  executes_given k n low runs once below len x =
      let s' : List DeviceDone = Give (entry k n ∷ []) ∷ s in
      let r = x.in_hand k runs in
      record {
        after = x.after;
        each = λ i b at. given_executed (entry k n ∷ []) (by.from + i) b (x.each i b at);
        given = subst (λ (us : List Used). All (IsClosed bs by s') us) (sym (drop-append-le by.from (gives s) (entry k n ∷ []) low))
            (All-push (IsClosed bs by s') (drop by.from (gives s)) (entry k n)
            (All-weaker (IsClosed bs by s) (IsClosed bs by s') (λ u. given_closed k n u runs) (drop by.from (gives s)) x.given)
            (now_closed k n runs once below r (some_same n r.chain.len (sym len ∙ get_len bs (k - by.from + by.at) r.chain r.is))));
        in_hand = λ j some.
            let old = x.in_hand j (omega (arith, some, occurs_without j k (running s) runs)) in
            record { chain = old.chain; since = old.since; is = old.is; stored = old.stored; stands = old.stands };
      }
    where
      get_len : (xs : List Begun) (i : ℕ) (b : Begun) → slice_get xs i ≡ Some b → slice_get (map (λ (z : Begun). z.len) xs) i ≡ Some b.len
      get_len [] i b h = absurd (cc)
      get_len (z ∷ xs) zero b h = ap (λ (y : Begun). Some y.len) (some_same z b h)
      get_len (z ∷ xs) (suc i) b h = get_len xs i b h

  pub executes_rested : takes (Rest ∷ s) ≡ takes s → Executes words f Free by bs s → Executes words f Free by bs (Rest ∷ s)
  executes_rested same x = record {
    after = x.after;
    each = λ i b at. rested_executed (by.from + i) b (x.each i b at);
    given = All-weaker (IsClosed bs by s) (IsClosed bs by (Rest ∷ s)) (rested_closed same) (drop by.from (gives s)) x.given;
    in_hand = λ k some. absurd (omega arith);
  }

  pub executes_none : by.at ≡ length bs → by.from ≡ length (gives s) → running s ≡ [] → Executes words f Free by bs s
  executes_none at from none = record {
    after = omega arith;
    each = λ i b is. absurd (omega (arith, some_index by.at bs i b is));
    given = subst (λ (us : List Used). All (IsClosed bs by s) us) (sym (drop_all by.from (gives s) (omega arith))) (All-nil
        (IsClosed bs by s));
    in_hand = λ k some. absurd (omega (arith, ap (occurs k) none));
  }
