-- How many commands a machine has, and where each epoch of the control queue begins and ends.
use Rattle.std.proofs.Common.{◌≡◌, ℕ, suc, ◌+◌, ◌*◌, ◌<◌, ◌≤◌, List, [], ◌∷◌, ◌++◌, length, flat_map, length-append, ap, arith}
use Rattle.vd_layout.specs.Layout.{LayoutModel}
use Rattle.vd_machine.specs.File.{Plan}
use Rattle.vd_play.specs.AllWork.{replayed_count, command_work}
use Rattle.vd_play.specs.CommandLane.{IsCommandQueue}
use Rattle.vd_play.specs.Commands.{control_commands, control_epochs, sent_at, own_commands, replayed_commands}
use Rattle.vd_play.specs.ControlJournal.{epoch_commands, commands_before, journalled_at, journal_commands}
use Rattle.vd_play.specs.Epochs.{Epoch}
use Rattle.vd_play.proofs.Bounds.{Bounded, bounded, flat_more}
use Rattle.vd_play.proofs.ControlEpochs.{replayed_few, own_length, journal_chained}
use Rattle.vd_play.proofs.Lists.{length_le}
use Rattle.vd_play.proofs.Rooms.{front_of}

-- what each gives has at most so many
few_each : {A B : Type 0} (f : A → List B) (most : ℕ) → ((x : A) → length (f x) ≤ most) → (xs : List A)
    → length (flat_map f xs) ≤ most * length xs
few_each f most each [] = omega arith
few_each f most each (x ∷ xs) =
    omega (arith, length-append (f x) (flat_map f xs), each x, few_each f most each xs, more most (length xs))
  where
    more : (a b : ℕ) → a * suc b ≡ a + a * b
    more a b = omega arith

module _ (l : LayoutModel) (plan : Plan) (q : IsCommandQueue l plan) where
  pub replays_few : replayed_count plan ≤ 73890
  replays_few = omega (
    arith,
    few_each (replayed_commands plan) 4105 (replayed_few plan) (control_epochs plan),
    q.epochs,
  )

  pub work_few : command_work plan ≤ 77986
  work_few = omega (arith, replays_few, q.few)

  -- what is begun before epoch k, and in it
  pub record IsEpochOf (k : ℕ) : Type 0 where
    pub bound : Bounded (length (control_commands plan)) (control_epochs plan) k
    pub sent : length (own_commands plan bound.epoch) + sent_at plan k ≡ sent_at plan (k + 1)
    pub many : journalled_at plan k + length (replayed_commands plan bound.epoch) + length (own_commands plan bound.epoch)
        ≡ journalled_at plan (k + 1)
    pub low : journalled_at plan (k + 1) ≤ command_work plan
    pub begun : commands_before plan (k + 1) ≡ commands_before plan k ++ epoch_commands plan bound.epoch

  pub epoch_of : (k : ℕ) → k < length (control_epochs plan) → IsEpochOf k
  epoch_of k within =
      let es : List Epoch = control_epochs plan in
      let b = bounded (length (control_commands plan)) es k q.chained within in
      let more : commands_before plan (k + 1) ≡ commands_before plan k ++ epoch_commands plan b.epoch =
      flat_more (epoch_commands plan) es k b.epoch b.is in
      record {
        bound = b;
        sent = own_length plan k b;
        many = omega (
          arith,
          ap length more,
          length-append (commands_before plan k) (epoch_commands plan b.epoch),
          length-append (replayed_commands plan b.epoch) (own_commands plan b.epoch),
        );
        low = omega (
          arith,
          length_le (commands_before plan (k + 1)) (journal_commands plan) (front_of (epoch_commands plan) es (k + 1)),
          journal_chained plan q.chained,
        );
        begun = more;
      }

  -- no more were begun before epoch k than there are
  pub before_low : (k : ℕ) → journalled_at plan k ≤ command_work plan
  before_low k = omega (
    arith,
    length_le (commands_before plan k) (journal_commands plan) (front_of (epoch_commands plan) (control_epochs plan) k),
    journal_chained plan q.chained,
  )
