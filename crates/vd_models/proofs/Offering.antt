-- The next chain of a script, and the begin of its offer.
use Rattle.std.proofs.Common.{◌≡◌, ℕ, zero, suc, ◌+◌, ◌-◌, ◌<◌, ◌≤◌, Bool, true, false, Option, Some, None, List, [], ◌∷◌, ◌++◌, length, take, drop, slice_get, slice_index_or, refl, sym, ◌∙◌, ap, subst, arith}
use Rattle.std.proofs.lemmas.List.{length-drop, length-take-le, drop_more, take_more}
use Rattle.std.proofs.lemmas.List.Sums.{sum_by-cons}
use Rattle.vd_model.specs.declared.chain.Piece.{Piece}
use Rattle.vd_model.specs.declared.record.Run.{Run}
use Rattle.vd_model.specs.declared.record.Script.{Script}
use Rattle.vd_ring.specs.declared.driver.DriverView.{DriverView}
use Rattle.vd_ring.specs.declared.frame.Frame.{Frame}
use Rattle.vd_ring.specs.Frames.{Fits, limit}
use Rattle.vd_ring.specs.declared.driver.DriverDone.{DriverDone}
use Rattle.vd_layout.specs.Control.{ControlWords}
use Rattle.vd_layout.specs.Driver.{DriverModel, HasRoom, MayOffer}
use Rattle.vd_layout.specs.Layout.{LayoutModel}
use Rattle.vd_bus.specs.GuestCommands.{HasCommands}
use Rattle.vd_bus.specs.Scripts.{chains, run_chains, run_count}
use Rattle.vd_models.specs.declared.cursor.Cursor.{Cursor}
use Rattle.vd_models.specs.declared.driving.GuestStage.{GuestStage}
use Rattle.vd_models.specs.declared.driving.GuestStage.TheVariants as stage
use Rattle.vd_models.specs.Cursors.{left_at, left_of, next_at, IsSettled, HasFirst}
use Rattle.vd_models.specs.GuestStages.{BegunIs, ArmedIs, OpIs, is_done, idle_owes}
use Rattle.vd_models.specs.Pending.{HandIs, IsTurnToOffer}
use Rattle.vd_models.specs.Driving.{Driven, Drives, DriveOpens, BeginsDrive, by_commands, command_next, next_of, owes_at, scripted}
use Rattle.vd_models.proofs.Scripts.{next_left, chains_count}
use Rattle.vd_models.proofs.Drives.{to}
use Rattle.vd_models.specs.laws.Scripted.{commands_or, scripted_chains}

count_drop : (runs : List Run) (n : ℕ) → run_count (drop n runs) ≤ run_count runs
count_drop runs zero = omega arith
count_drop [] (suc n) = omega arith
count_drop (r ∷ rs) (suc n) = omega (arith, count_drop rs n, sum_by-cons (λ (x : Run). x.count) r rs)

used_at : (rs : List Run) (used : ℕ) (c : List Piece) → HasFirst rs used → slice_get (left_of rs used) 0 ≡ Some c → used < run_count rs
used_at [] used c h is = absurd (cc)
used_at (r ∷ rs) used c h is = omega (arith, sum_by-cons (λ (x : Run). x.count) r rs)

pub used_small : (runs : List Run) (at : Cursor) (c : List Piece) → IsSettled runs at → next_at runs at ≡ Some c
    → at.used < length (run_chains runs)
used_small runs at c h is = omega (arith, used_at (drop at.run runs) at.used c h is, count_drop runs at.run, chains_count runs)

-- the next chain is the one after those offered
pub record NextIs (cs : List (List Piece)) (offered : ℕ) (c : List Piece) : Type 0 where
  pub more : offered < length cs
  pub is : slice_index_or cs offered c ≡ c
  pub taken : take (offered + 1) cs ≡ take offered cs ++ c ∷ []
  pub left : drop offered cs ≡ c ∷ drop (offered + 1) cs

pub next_chain : (s : Script) (at : Cursor) (offered : ℕ) (c : List Piece) → IsSettled s.runs at
    → left_at s.runs at ≡ drop offered (chains s) → next_at s.runs at ≡ Some c → NextIs (chains s) offered c
next_chain s at offered c settled left is =
    let split : drop offered (chains s) ≡ c ∷ left_at s.runs (record { run = at.run; used = at.used + 1 }) = sym left
    ∙ next_left s.runs at c settled is in
    let more : offered < length (chains s) = omega (arith, ap length split, length-drop offered (chains s)) in
    let here : slice_index_or (chains s) offered c ∷ drop (offered + 1) (chains s) ≡ c ∷ left_at s.runs
    (record { run = at.run; used = at.used + 1 }) = sym (drop_more (chains s) offered c more) ∙ split in
    let same : slice_index_or (chains s) offered c ≡ c = cc in
    record {
      more = more;
      is = same;
      taken = take_more (chains s) offered c more ∙ ap (λ x. take offered (chains s) ++ x ∷ []) same;
      left = drop_more (chains s) offered c more ∙ ap (λ x. x ∷ drop (offered + 1) (chains s)) same;
    }

pub limit_least : (f : Frame) → 4000000000 ≤ limit f
limit_least f = at (Rattle.std.proofs.Common.nat_lt f.ring 16)
  where
    at : (b : Bool) → 4000000000 ≤ (Rattle.std.specs.Prelude.if◌then◌else◌ b 4000000000 4294967295)
    at true = omega arith
    at false = omega arith

pub some_runs : (s : Script) (at : Cursor) (c : List Piece) → next_at s.runs at ≡ Some c → s.runs ≡ [] → ⊥
some_runs s at c is none = absurd (let gone : next_at s.runs at ≡ None = ap
    (λ (rs : List Run). slice_get (left_of (drop at.run rs) at.used) 0) none ∙ empty at.run in cc)
  where
    empty : (n : ℕ) → slice_get (left_of (drop n []) at.used) 0 ≡ None
    empty zero = refl
    empty (suc n) = refl

module _ {D : Type 0} (d : DriverModel D) (l : LayoutModel) where
  pub may_offer : (x : Driven D) (v : DriverView) (c : List Piece) → Drives d l x v → x.script.commands ≡ []
      → next_at x.script.runs x.at ≡ Some c → HasRoom v.frame v.done c → MayOffer d.words v c
  may_offer x v c h none is room =
      let y = h.chained none in
      let n = next_chain x.script x.at x.offered c h.settled y.left is in
      record {
        fits = subst (λ (z : List Piece). Fits v.frame z) n.is (y.fits x.offered c n.more);
        room = room;
        limited = omega (
          arith,
          ap length y.offers,
          length-take-le x.offered (chains x.script) y.some,
          n.more,
          h.few,
          scripted_chains x.script none,
          limit_least v.frame,
        );
        control = λ t. absurd (let no : v.frame.control ≡ false = y.control (some_runs x.script x.at c is) in cc);
      }

pub offer_small : (shown : Bool) → 38 ≤ idle_owes stage.Offering shown
offer_small true = omega arith
offer_small false = omega arith

-- a script with a next chain is one of chains
pub chains_by : {D : Type 0} (d : DriverModel D) (l : LayoutModel) (x : Driven D) (v : DriverView) (c : List Piece) → DriveOpens d l x v
    → next_at x.script.runs x.at ≡ Some c → x.script.commands ≡ []
chains_by d l x v c opens next = commands_or x.script (λ none. none)
    (λ some. absurd (some_runs x.script x.at c next (opens.drives.sent some).plain))

-- the stage at which a guest offers, where it isn't done
pub offers_at : (st : GuestStage) → IsTurnToOffer st → is_done st ≡ false → st ≡ stage.Offering
offers_at stage.Offering turn live = refl
offers_at stage.Collecting turn live = absurd turn
offers_at stage.Arming turn live = absurd turn
offers_at stage.Hearing turn live = absurd turn
offers_at stage.Done turn live = absurd (cc live)

-- an operation is begun, at a stage that goes with it
pub begins : {D : Type 0} (d : DriverModel D) (l : LayoutModel) (x : Driven D) (e : D) (v : DriverView) → DriveOpens d l x v
    → d.stands e v
    → HandIs d.words x.script x.returned v.frame v.done x.stage (d.begun e) x.hand
    → BegunIs x.stage (d.begun e) (next_of d.words x.script x.at v.frame v.done) v.frame v.done
    → ArmedIs x.stage (d.begun e) v.doing v.armed → OpIs (d.begun e) v.doing v.shown (d.left e)
    → owes_at d (to x e x.stage) v ≤ owes_at d x v → BeginsDrive d l v x (to x e x.stage)
begins d l x e v h stands held begun armed op owes =
    let y = h.drives in
    record {
      opens = record {
        drives = record {
          stands = stands;
          settled = y.settled;
          chained = y.chained;
          sent = y.sent;
          held = held;
          count = y.count;
          begun = begun;
          done = y.done;
          armed = armed;
          op = op;
          few = y.few;
        };
        live = h.live;
      };
      owes = owes;
    }
