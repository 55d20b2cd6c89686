-- The commands begun before an epoch, and the first ones of an epoch's list.
use Rattle.std.proofs.Common.{◌≡◌, ◌⊎◌, inl, inr, ℕ, ◌+◌, ◌-◌, ◌≤◌, List, ◌++◌, length, take, sym, ◌∙◌, ap, subst, arith, length-append}
use Rattle.std.proofs.Math.Seq.{take-append-add, take-length}
use Rattle.std.proofs.lemmas.Bool.{cases_lt}
use Rattle.std.proofs.lemmas.List.{append-nil, length-take-le, take_all, take-take, take-append-le}
use Rattle.vd_model.specs.declared.record.Begun.{Begun}
use Rattle.vd_layout.specs.Layout.{LayoutModel}
use Rattle.vd_machine.specs.File.{Plan}
use Rattle.vd_play.specs.Commands.{control_epochs, sent_at, own_commands, replayed_commands}
use Rattle.vd_play.specs.CommandLane.{IsCommandQueue}
use Rattle.vd_play.specs.CommandsPlayed.{bytes_of, AreBegunUpTo}
use Rattle.vd_play.specs.ControlJournal.{epoch_commands, commands_before}
use Rattle.vd_play.proofs.CommandBounds.{IsEpochOf, epoch_of}

-- ---- the first of a list replayed, and of what follows it

-- m of the first n of the list and what follows; these are all of it, or m is no more
pub few_replayed : {A : Type 0} (m n : ℕ) (rep rest : List A) → n ≤ length rep → (n ≡ length rep) ⊎ (m ≤ n)
    → take m (take n rep ++ rest) ≡ take m (rep ++ rest)
few_replayed m n rep rest low h = elim h [
  | inl all ↦ ap (λ zs. take m (zs ++ rest)) (take_all n rep (omega (arith, all)))
  | inr few ↦ (
      let long : length (take n rep) ≡ n = length-take-le n rep low in
      take-append-le m (take n rep) rest (omega (arith, long, few)) ∙ take-take m n rep few
      ∙ sym (take-append-le m rep rest (omega (arith, few, low)))
      )
]

-- where what follows is the same as far as it is needed
pub same_behind : {A : Type 0} (m : ℕ) (rep xs ys : List A) → ((i : ℕ) → length rep + i ≡ m → take i xs ≡ take i ys)
    → take m (rep ++ xs) ≡ take m (rep ++ ys)
same_behind m rep xs ys h = elim (cases_lt m (length rep)) [
  | inl low ↦ take-append-le m rep xs (omega (arith, low)) ∙ sym (take-append-le m rep ys (omega (arith, low)))
  | inr high ↦ (
      let i : ℕ = m - length rep in
      let is : length rep + i ≡ m = omega (arith, high) in
      ap (λ (j : ℕ). take j (rep ++ xs)) (sym is) ∙ take-append-add rep xs i ∙ ap (λ zs. rep ++ zs) (h i is)
      ∙ sym (ap (λ (j : ℕ). take j (rep ++ ys)) (sym is) ∙ take-append-add rep ys i)
      )
]

-- ---- between two epochs

whole_behind : (xs ys : List (List ℕ)) → xs ++ ys ≡ xs ++ take (length ys) ys
whole_behind xs ys = ap (λ zs. xs ++ zs) (sym (take-length ys))

module _ (l : LayoutModel) (plan : Plan) (q : IsCommandQueue l plan) where
  -- all commands of the epochs up to epoch j and of this
  begun_whole : (j : ℕ) (begun : List Begun) (ep : IsEpochOf l plan q j) → bytes_of begun ≡ commands_before plan (j + 1)
      → AreBegunUpTo plan begun (sent_at plan (j + 1))
  begun_whole j begun ep are = record {
    k = j;
    epoch = ep.bound.epoch;
    is = ep.bound.is;
    within = length (epoch_commands plan ep.bound.epoch);
    commands = are ∙ ep.begun ∙ whole_behind (commands_before plan j) (epoch_commands plan ep.bound.epoch);
    inside = omega arith;
    sent = omega (
      arith,
      ep.sent,
      length-append (replayed_commands plan ep.bound.epoch) (own_commands plan ep.bound.epoch),
    );
  }

  -- all commands of the epochs before k, where there is an epoch
  pub begun_before : (k : ℕ) (begun : List Begun) → k ≤ length (control_epochs plan) → 1 ≤ length (control_epochs plan)
      → bytes_of begun ≡ commands_before plan k → AreBegunUpTo plan begun (sent_at plan k)
  begun_before k begun within some are = elim (cases_lt k (length (control_epochs plan))) [
    | inl low ↦ (
        let ep = epoch_of l plan q k low in record {
          k = k;
          epoch = ep.bound.epoch;
          is = ep.bound.is;
          within = 0;
          commands = are ∙ sym (append-nil (commands_before plan k));
          inside = omega arith;
          sent = omega arith;
        }
        )
    | inr high ↦ (
        let next : k - 1 + 1 ≡ k = omega (arith, high, some) in
        subst (λ (i : ℕ). AreBegunUpTo plan begun (sent_at plan i)) next (begun_whole (k - 1) begun
        (epoch_of l plan q (k - 1) (omega (arith, within, high, some))) (are ∙ ap (commands_before plan) (sym next)))
        )
  ]
