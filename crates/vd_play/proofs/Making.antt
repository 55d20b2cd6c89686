-- A lane that was just made is still.
use Rattle.std.proofs.Common.{◌≡◌, ℕ, ◌+◌, ◌*◌, ◌<◌, ◌≤◌, true, false, Some, List, [], ◌∷◌, length, replicate, slice_index_or, refl, sym, ◌∙◌, ap, subst, arith, inr}
use Rattle.std.specs.List.{All}
use Rattle.std.proofs.lemmas.List.Elements.{All-nil, All-head, All-tail, All-append, All-replicate}
use Rattle.vd_model.specs.Chains.{IsChain}
use Rattle.vd_model.specs.declared.record.Run.{Run}
use Rattle.vd_model.specs.declared.record.Script.{Script}
use Rattle.vd_words.specs.Plain.{RingWords}
use Rattle.vd_ring.specs.declared.frame.Frame.{Frame}
use Rattle.vd_ring.specs.declared.driver.DriverView.{DriverView}
use Rattle.vd_ring.specs.declared.device.DeviceView.{DeviceView}
use Rattle.vd_ring.specs.Fresh.{fresh_driver, fresh_device}
use Rattle.vd_ring.specs.Frames.{Fits}
use Rattle.vd_layout.specs.Layout.{LayoutModel, IsMadeWith, CanMake, IsFresh}
use Rattle.vd_bus.specs.Device.{IsUnchanged, IsBegun, lens_of}
use Rattle.vd_bus.specs.Guest.{IsBoot, CanBoot}
use Rattle.vd_bus.specs.Scripts.{run_chains}
use Rattle.vd_machine.specs.File.{Plan}
use Rattle.vd_machine.specs.Queues.{script, most_pieces, are_scripts, all_lie, few}
use Rattle.vd_machine.specs.Rings.{is_lawful_size}
use Rattle.vd_machine.specs.Switches.{are_switches}
use Rattle.vd_play.proofs.InMap.{chain_in_map}
use Rattle.vd_machine.proofs.Facts.{size_bounds, few_queues, queue_is_short, queue_has_no_commands, run_at, needs_within}
use Rattle.vd_play.specs.Journal.{queue_script, queue_chains, guest_frame, tree_map}
use Rattle.vd_play.specs.Lane.{IsQueue, Account, HasGiven}
use Rattle.vd_play.specs.Prepared.{IsEmptyGuest, IsEmptyDevice}
use Rattle.vd_play.specs.Progress.{IsStopped}
use Rattle.vd_play.specs.Renewing.{renewals}
use Rattle.vd_play.specs.Setting.{Setting, IsLawful}
use Rattle.vd_play.specs.Switching.{IsSwitched}
use Rattle.vd_play.specs.Tree.{IsTreeOf}
use Rattle.vd_bus.specs.Pace.{attaches}
use Rattle.vd_play.proofs.Bounds.{chains_count}
use Rattle.vd_play.proofs.Chained.{chained, few_epochs, numbered, switched_is}
use Rattle.vd_play.proofs.Rooms.{journal_length}

-- the rules that a machine keeps, as far as a queue needs them
pub record Keeps (plan : Plan) : Type 0 where
  pub sized : is_lawful_size plan.packed plan.size ≡ true
  pub fitted : are_scripts (most_pieces plan.features plan.size) plan.queues ≡ true
  pub inside : all_lie plan.regions plan.queues ≡ true
  pub counted : few plan.queues ≡ true
  pub switched : are_switches plan.switches ≡ true

no_items : {A : Type 0} (xs : List A) → length xs ≡ 0 → xs ≡ []
no_items [] h = refl
no_items (x ∷ xs) h = absurd (omega arith)

runs_fit : (f : Frame) (rs : List Run) → All (λ (r : Run). Fits f r.chain) rs → All (Fits f) (run_chains rs)
runs_fit f [] h = All-nil (Fits f)
runs_fit f (r ∷ rs) h = All-append (Fits f) (replicate r.count r.chain) (run_chains rs)
    (All-replicate (Fits f) r.count r.chain (All-head (λ (x : Run). Fits f x.chain) r rs h))
    (runs_fit f rs (All-tail (λ (x : Run). Fits f x.chain) r rs h))

pub queue_is : (l : LayoutModel) (plan : Plan) (q : ℕ) → Keeps plan → CanMake l plan.size plan.features → IsTreeOf plan (tree_map plan)
    → q < length plan.queues → All (λ (r : Run). IsChain r.chain) (queue_script plan q).runs → IsQueue l plan q
queue_is l plan q k can laid below are =
    let f : Frame = guest_frame l plan q in
    let d : Script = script [] in
    let n : ℕ = length (queue_chains plan q) in
    let switched : IsSwitched plan = switched_is plan k.switched in
    let sized = size_bounds plan.packed plan.size k.sized in
    record {
      low = omega (arith, few_queues plan.queues k.counted, below);
      plain = no_items (queue_script plan q).commands
          (queue_has_no_commands (most_pieces plan.features plan.size) plan.queues d q k.fitted below);
      sized = (sized.0, omega (arith, sized.1));
      made = can;
      epochs = few_epochs plan n switched;
      few = omega (arith, chains_count (queue_script plan q).runs, queue_is_short plan.queues d q k.counted below);
      chained = chained plan n switched;
      numbered = numbered plan n;
      tree = laid;
      fits = runs_fit f (queue_script plan q).runs (λ j e within.
          let r = run_at (most_pieces plan.features plan.size) plan.regions plan.queues d e q j k.fitted k.inside below within in record {
            chain = are j e within;
            size = needs_within plan.features plan.packed plan.size (slice_index_or (queue_script plan q).runs j e).chain k.sized r.within;
            length = r.bytes;
            bounds = chain_in_map plan.regions (slice_index_or (queue_script plan q).runs j e).chain r.some r.inside;
          });
    }

module _ {D E G X C : Type 0} (s : Setting D E G X C) (law : IsLawful s) (plan : Plan) (q : ℕ) where
  pub made : (words : RingWords) (driver : D) (end : E) (guest guest1 guest2 : G) (device device' : X) → IsQueue s.layout plan q
      → CanMake s.layout plan.size plan.features → words.ring ≡ q → words.words ≡ replicate (s.layout.width (guest_frame s.layout plan q)) 0
      → IsFresh s.driver s.device s.layout plan.size plan.features false driver end → IsEmptyGuest s.guest guest
      → s.guest.script guest1 ≡ Some (queue_script plan q) → (s.guest.accesses guest1 ≡ s.guest.accesses guest)
      × (s.guest.heard guest1 ≡ s.guest.heard guest) → IsBoot s.driver s.layout s.guest driver guest1 guest2
      → IsEmptyDevice s.party device → IsUnchanged s.party device device' → s.party.window device' ≡ plan.window
      → 2 * (length plan.switches + 2) + renewals plan.switches ≤ s.party.event_room device'
      → length (queue_chains plan q) ≤ s.party.chain_room device'
      → IsStopped s plan q 0 0 words end 0 guest2 device'
  made words driver end guest guest1 guest2 device device' queue can number is fresh idle script counts boot empty same window events room =
      let f : Frame = guest_frame s.layout plan q in
      let v : DriverView = fresh_driver f (s.layout.width f) in
      let w : DeviceView = fresh_device f (s.layout.width f) in
      let with : IsMadeWith s.layout plan.size plan.features false f =
      record { packed = refl; size = refl; features = refl; control = refl } in
      let none : s.party.begun device' ≡ [] = same.begun ∙ empty.begun in
      let boots : CanBoot s.layout (queue_script plan q) v = record {
        fresh = refl;
        unarmed = refl;
        fits = queue.fits;
        other = λ h. refl;
        sends = λ h. absurd (h queue.plain);
      } in
      let account : Account plan q 0 [] = record { before = refl; many = omega arith; each = All-nil IsBegun } in
      let times : attaches (s.party.events device') ≡ 0 = ap attaches (same.events ∙ empty.events) in
      record {
        view = v;
        device_view = w;
        kept = record {
          driven = record {
            queue = queue;
            numbered = number;
            ring = subst (λ ws. s.layout.ring ws v w) (sym is) (law.layout.opens plan.size plan.features false f can with);
            part = record {
              script = boot.script ∙ script;
              holds =
                  boot.holds v (queue_script plan q) script (fresh.drives f with) boots;
              framed = refl;
            };
          };
          account = subst (Account plan q 0) (sym none) account;
          given = All-nil (HasGiven (lens_of (s.party.begun device')));
          reserved = record { window = window; room = omega (arith, room) };
        };
        rests = record {
          stands = fresh.serves f with;
          still = inr fresh.unused;
          free = same.attached ∙ empty.free;
          taken = refl;
          begun = ap length none;
          events = same.events ∙ empty.events;
          room = omega (arith, events, journal_length s.device s.layout plan q);
        };
        paced = record {
          guest_heard = omega (arith, boot.counts.1, counts.1, idle.idle.1);
          guest_low = omega (arith, boot.counts.0, counts.0, idle.idle.0);
          device_low = omega (arith, same.counts.0, empty.idle.0);
          times = omega (arith, times);
        };
        heard = record {
          relays = 0;
          heard = omega (arith, same.counts.1, empty.idle.1);
          low = omega arith;
        };
        early = omega arith;
        late = λ every. inr (omega arith);
      }
