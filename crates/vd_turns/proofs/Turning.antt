-- Steps and turns on plain words.
use Rattle.std.proofs.Common.{◌≡◌, inl, inr, ℕ, ◌+◌, ◌≤◌, List, [], ◌++◌, length, refl, sym, ◌∙◌, ap, subst, arith}
use Rattle.std.proofs.lemmas.List.{append-nil, append_assoc}
use Rattle.std.proofs.Math.ListN.{length-append}
use Rattle.vd_words.specs.Model.{PortModel, IsLawfulPort}
use Rattle.vd_words.specs.Step.{answered, written}
use Rattle.vd_ring.specs.declared.act.DriverAct.TheVariants as driver_act
use Rattle.vd_ring.specs.declared.act.DeviceAct.TheVariants as device_act
use Rattle.vd_ring.specs.declared.driver.DriverView.{DriverView}
use Rattle.vd_ring.specs.declared.device.DeviceView.{DeviceView}
use Rattle.vd_ring.specs.Sleep.{DriverWaits, DeviceWaits, driver_hearings, device_hearings, driver_woken, device_woken}
use Rattle.vd_layout.specs.declared.moves.Move.{Move}
use Rattle.vd_layout.specs.declared.moves.Move.TheVariants as move
use Rattle.vd_layout.specs.Driver.{DriverModel}
use Rattle.vd_layout.specs.Device.{DeviceModel}
use Rattle.vd_layout.specs.Layout.{LayoutModel, IsLawfulLayout}
use Rattle.vd_layout.specs.laws.Plain.{plain_step}
use mathlib.Core.List.{IsPrefix}
use Rattle.vd_ring.specs.History.{offers, collects, takes, gives}
use Rattle.vd_bus.specs.Device.{DeviceParty, IsServed, HasServed, IsDeviceAccess}
use Rattle.vd_bus.specs.Guest.{GuestParty, HasDriven, IsGuestAccess}
use Rattle.vd_bus.specs.laws.Settings.{set_none, set_through}
use Rattle.vd_bus.specs.Pace.{last_count, raised, worked}
use Rattle.vd_turns.specs.Turns.{GuestOn, GuestStepped, GuestRun, GuestWay, GuestTurn, DeviceOn, DeviceStepped, DeviceRun, DeviceWay, DeviceTurn}

pub raised_low : (k n m h h' : ℕ) → m ≡ raised k n → h + k ≤ h' → m + h ≤ n + h'
raised_low k n m h h' is le = omega arith

pub worked_one : (a : Move) → (a ≡ move.Looked → ⊥) → worked a ≡ 1
worked_one move.Looked n = absurd (n refl)
worked_one move.Worked n = refl
worked_one move.Finished n = refl

pub one_more : (a b c made j : ℕ) → (a + made ≤ last_count → b ≡ a + made) → c ≡ raised j b → j ≡ 1 → a + (made + 1) ≤ last_count
    → c ≡ a + (made + 1)
one_more a b c made j before is one le = let e : b ≡ a + made = before (omega arith) in omega arith

pub no_more : (a b c made j : ℕ) → (a + made ≤ last_count → b ≡ a + made) → c ≡ raised j b → j ≡ 0 → a + made ≤ last_count → c ≡ a + made
no_more a b c made j before is none le = let e : b ≡ a + made = before le in omega arith

module _ {P D E G : Type 0} (port : PortModel P) (law : IsLawfulPort port) (d : DriverModel D) (e : DeviceModel E) (l : LayoutModel)
    (g : GuestParty G) (lay : IsLawfulLayout d e l) where
  pub guest_on : (p q : P) (ws : List ℕ) (v : DriverView) (w : DeviceView) (x y : G) (answer : Move) → port.plain p ws → l.ring ws v w
      → IsGuestAccess port d g p q v x y answer → GuestOn port l g p q v w x y answer
  guest_on p q ws v w x y answer plain ring a =
      let s = plain_step port law d.side (λ us z. l.ring us z w) p q ws v a.op a.access a.got
      (lay.driver_keeps ws v w a.op a.access ring a.was_next) plain a.moved in
      let hears : driver_hearings v + driver_woken a.op (d.act v a.op a.access (answered ws a.access)) ≤ driver_hearings
      (d.side.after v a.op a.access (answered ws a.access)) = lay.driver_hears ws v w a.op a.access ring a.was_next in
      let heard : driver_hearings v + driver_woken a.op (d.act v a.op a.access a.got) ≤ driver_hearings
      (d.side.after v a.op a.access a.got) =
      subst (λ (r : ℕ). driver_hearings v + driver_woken a.op (d.act v a.op a.access r) ≤ driver_hearings
      (d.side.after v a.op a.access r)) (sym s.answer) hears in
      record {
        words = written ws a.access;
        plain = s.plain;
        same = s.same;
        stepped = record {
          view = d.side.after v a.op a.access a.got;
          ring = s.meets;
          holds = a.holds;
          script = a.script;
          grows = a.grows;
          finished = a.finished;
          looked = λ is.
              let asleep : d.act v a.op a.access (answered ws a.access) ≡ driver_act.Asleep =
              ap (λ (r : ℕ). d.act v a.op a.access r) (sym s.answer) ∙ a.looked.0 is in
              let quiet = lay.driver_asleep ws v w a.op a.access ring a.was_next asleep in
              (ap (λ (r : ℕ). d.side.after v a.op a.access r) s.answer ∙ quiet.0, quiet.1);
          accesses = a.accesses;
          heard = raised_low (driver_woken a.op (d.act v a.op a.access a.got)) (g.heard x) (g.heard y) (driver_hearings v) _ a.heard heard;
        };
      }

module _ {P D E X C : Type 0} (port : PortModel P) (law : IsLawfulPort port) (d : DriverModel D) (e : DeviceModel E) (l : LayoutModel)
    (m : DeviceParty X C) (lay : IsLawfulLayout d e l) where
  pub device_on : (p q : P) (ws : List ℕ) (v : DriverView) (w : DeviceView) (x y : X) (answer : Move) → port.plain p ws → l.ring ws v w
      → IsDeviceAccess port e m p q w x y answer → DeviceOn port l m p q v w x y answer
  device_on p q ws v w x y answer plain ring a =
      let s = plain_step port law e.side (λ us z. l.ring us v z) p q ws w a.op a.access a.got
      (lay.device_keeps ws v w a.op a.access ring a.was_next) plain a.moved in
      let hears : device_hearings w + device_woken a.op (e.act w a.op a.access (answered ws a.access)) ≤ device_hearings
      (e.side.after w a.op a.access (answered ws a.access)) = lay.device_hears ws v w a.op a.access ring a.was_next in
      let heard : device_hearings w + device_woken a.op (e.act w a.op a.access a.got) ≤ device_hearings
      (e.side.after w a.op a.access a.got) =
      subst (λ (r : ℕ). device_hearings w + device_woken a.op (e.act w a.op a.access r) ≤ device_hearings
      (e.side.after w a.op a.access r)) (sym s.answer) hears in
      record {
        words = written ws a.access;
        plain = s.plain;
        same = s.same;
        stepped = record {
          view = e.side.after w a.op a.access a.got;
          ring = s.meets;
          holds = a.holds;
          served = a.served;
          grows = a.grows;
          finished = a.finished;
          looked = λ is.
              let asleep : e.act w a.op a.access (answered ws a.access) ≡ device_act.Asleep =
              ap (λ (r : ℕ). e.act w a.op a.access r) (sym s.answer) ∙ a.looked.0 is in
              let quiet = lay.device_asleep ws v w a.op a.access ring a.was_next asleep in
              (ap (λ (r : ℕ). e.side.after w a.op a.access r) s.answer ∙ quiet.0, quiet.1);
          accesses = a.accesses;
          heard = raised_low (device_woken a.op (e.act w a.op a.access a.got)) (m.heard x) (m.heard y) (device_hearings w) _ a.heard heard;
        };
      }

-- on other words that are the same
pub guest_same : {G : Type 0} (l : LayoutModel) (g : GuestParty G) (ws us : List ℕ) (v : DriverView) (w : DeviceView) (x y : G)
    (answer : Move) → us ≡ ws → GuestStepped l g ws v w x y answer → GuestStepped l g us v w x y answer
guest_same l g ws us v w x y answer is s = subst (λ (zs : List ℕ). GuestStepped l g zs v w x y answer) (sym is) s

pub device_same : {X C : Type 0} (l : LayoutModel) (m : DeviceParty X C) (ws us : List ℕ) (v : DriverView) (w : DeviceView) (x y : X)
    (answer : Move) → us ≡ ws → DeviceStepped l m ws v w x y answer → DeviceStepped l m us v w x y answer
device_same l m ws us v w x y answer is s = subst (λ (zs : List ℕ). DeviceStepped l m zs v w x y answer) (sym is) s

-- ---- a turn, step by step

prefix_same : {A : Type 0} (xs : List A) → IsPrefix xs xs
prefix_same xs = ([], append-nil xs)

prefix_low : {A : Type 0} (xs ys : List A) → IsPrefix xs ys → length xs ≤ length ys
prefix_low {A = A} xs ys p = subst (λ (z : List A). length xs ≤ length z) p.1 (omega (arith, length-append xs p.0))

prefix_through : {A : Type 0} (xs ys zs : List A) → IsPrefix xs ys → IsPrefix ys zs → IsPrefix xs zs
prefix_through xs ys zs p q = (p.0 ++ q.0, sym (append_assoc xs p.0 q.0) ∙ ap (λ us. us ++ q.0) p.1 ∙ q.1)

driven_on : (u v w : DriverView) → HasDriven u v → HasDriven v w → HasDriven u w
driven_on u v w a b = record {
  offers = prefix_through (offers u.done) (offers v.done) (offers w.done) a.offers b.offers;
  collects =
      prefix_through (collects u.done) (collects v.done) (collects w.done) a.collects b.collects;
}

has_served_on : (u v w : DeviceView) → HasServed u v → HasServed v w → HasServed u w
has_served_on u v w a b = record {
  takes = prefix_through (takes u.done) (takes v.done) (takes w.done) a.takes b.takes;
  gives =
      prefix_through (gives u.done) (gives v.done) (gives w.done) a.gives b.gives;
}

module _ {G : Type 0} (l : LayoutModel) (g : GuestParty G) (w : DeviceView) where
  pub guest_starts : (words : List ℕ) (v : DriverView) (x : G) → l.ring words v w → g.holds x v → GuestWay l g words v w x x 0
  guest_starts words v x ring holds = record {
    run = record {
      view = v;
      ring = ring;
      holds = holds;
      script = refl;
      grows =
          record { offers = prefix_same (offers v.done); collects = prefix_same (collects v.done) };
      accesses = λ le. omega arith;
      heard =
          omega arith;
    };
    start = λ none. (refl, refl);
  }

  -- one step more
  guest_runs : (words words' : List ℕ) (v : DriverView) (x y z : G) (made : ℕ) → (r : GuestRun l g words v w x y made) → (answer : Move)
      → worked answer ≡ 1 → GuestStepped l g words' r.view w y z answer → GuestRun l g words' v w x z (made + 1)
  guest_runs words words' v x y z made r answer is s = record {
    view = s.view;
    ring = s.ring;
    holds = s.holds;
    script = s.script ∙ r.script;
    grows = driven_on v r.view s.view r.grows s.grows;
    accesses = λ le. one_more (g.accesses x) (g.accesses y) (g.accesses z) made (worked answer) r.accesses s.accesses is le;
    heard = omega (arith, s.heard, r.heard);
  }

  pub guest_goes : (words words' : List ℕ) (v : DriverView) (x y z : G) (made : ℕ) (answer : Move)
      → (r : GuestWay l g words v w x y made) → (answer ≡ move.Looked → ⊥) → GuestStepped l g words' r.run.view w y z answer
      → GuestWay l g words' v w x z (made + 1)
  guest_goes words words' v x y z made answer r work s =
      record { run = guest_runs words words' v x y z made r.run answer (worked_one answer work) s; start = λ none. absurd (omega arith) }

  -- a look
  pub guest_looks : (words words' : List ℕ) (v : DriverView) (x y z : G) (made : ℕ) (answer : Move) → (g.is_done x → ⊥)
      → (r : GuestWay l g words v w x y made) → answer ≡ move.Looked → GuestStepped l g words' r.run.view w y z answer
      → GuestTurn l g words' v w x z made
  guest_looks words words' v x y z made answer live r is s =
      let quiet = s.looked is in
      let none : worked answer ≡ 0 = ap worked is in
      let run : GuestRun l g words' v w x z made = record {
        view = s.view;
        ring = s.ring;
        holds = s.holds;
        script = s.script ∙ r.run.script;
        grows = driven_on v r.run.view s.view r.run.grows s.grows;
        accesses = λ le. no_more (g.accesses x) (g.accesses y) (g.accesses z) made (worked answer) r.run.accesses s.accesses none le;
        heard = omega (arith, s.heard, r.run.heard);
      } in
      record {
        run = run;
        quiet = λ zero. (
          quiet.0 ∙ (r.start zero).0,
          inr (subst (λ (u : DriverView). DriverWaits u w) (sym quiet.0) quiet.1),
        );
        over = λ done. absurd (live done);
      }

  pub guest_over : (words : List ℕ) (v : DriverView) (x y : G) (made : ℕ) → GuestWay l g words v w x y made → g.is_done y
      → GuestTurn l g words v w x y made
  guest_over words v x y made r done = record { run = r.run; quiet = λ none. ((r.start none).0, inl done); over = λ before. done }

  -- the step after which it is done
  pub guest_ends : (words words' : List ℕ) (v : DriverView) (x y z : G) (made : ℕ) (answer : Move)
      → (r : GuestWay l g words v w x y made) → answer ≡ move.Finished → GuestStepped l g words' r.run.view w y z answer
      → GuestTurn l g words' v w x z (made + 1)
  guest_ends words words' v x y z made answer r is s = record {
    run = guest_runs words words' v x y z made r.run answer (ap worked is) s;
    quiet = λ none. absurd (omega arith);
    over = λ before. s.finished.0 is;
  }

  pub guest_spent : (words : List ℕ) (v : DriverView) (x y : G) (made : ℕ) → (g.is_done x → ⊥) → GuestWay l g words v w x y made
      → 1 ≤ made → GuestTurn l g words v w x y made
  guest_spent words v x y made live r some = record { run = r.run; quiet = λ none. absurd (omega arith); over = λ done. absurd (live done) }

module _ {X C : Type 0} (l : LayoutModel) (m : DeviceParty X C) (v : DriverView) where
  served_same : (x : X) → IsServed m x x
  served_same x = record {
    events = refl;
    grows = prefix_same (m.begun x);
    settings = λ by is for. refl;
    set = λ by is for. set_none (m.begun x) (m.settings x);
    attached_with = refl;
    faults = refl;
    window = refl;
    carried = refl;
    attached = refl;
    room = (omega arith, omega arith);
  }

  served_on : (x y z : X) → IsServed m x y → IsServed m y z → IsServed m x z
  served_on x y z a b = record {
    events = b.events ∙ a.events;
    grows = prefix_through (m.begun x) (m.begun y) (m.begun z) a.grows b.grows;
    settings = λ by is for. b.settings by (a.attached ∙ is) for ∙ a.settings by is for;
    set = λ by is for. set_through (length (m.begun x)) (m.begun y) (m.begun z) (m.settings x) (m.settings y) (m.settings z)
        (prefix_low (m.begun x) (m.begun y) a.grows) b.grows (a.set by is for) (b.set by (a.attached ∙ is) for);
    attached_with = b.attached_with ∙ a.attached_with;
    faults = b.faults ∙ a.faults;
    window = b.window ∙ a.window;
    carried = b.carried ∙ a.carried;
    attached = b.attached ∙ a.attached;
    room = (omega (arith, a.room.0, b.room.0), omega (arith, a.room.1, b.room.1));
  }

  pub device_starts : (words : List ℕ) (w : DeviceView) (x : X) → l.ring words v w → m.holds x w → DeviceWay l m words v w x x 0
  device_starts words w x ring holds = record {
    run = record {
      view = w;
      ring = ring;
      holds = holds;
      served = served_same x;
      grows =
          record { takes = prefix_same (takes w.done); gives = prefix_same (gives w.done) };
      accesses = λ le. omega arith;
      heard =
          omega arith;
    };
    start = λ none. (refl, refl);
  }

  device_runs : (words words' : List ℕ) (w : DeviceView) (x y z : X) (made : ℕ) → (r : DeviceRun l m words v w x y made)
      → (answer : Move) → worked answer ≡ 1 → DeviceStepped l m words' v r.view y z answer → DeviceRun l m words' v w x z (made + 1)
  device_runs words words' w x y z made r answer is s = record {
    view = s.view;
    ring = s.ring;
    holds = s.holds;
    served = served_on x y z r.served s.served;
    grows = has_served_on w r.view s.view r.grows s.grows;
    accesses = λ le. one_more (m.accesses x) (m.accesses y) (m.accesses z) made (worked answer) r.accesses s.accesses is le;
    heard = omega (arith, s.heard, r.heard);
  }

  pub device_goes : (words words' : List ℕ) (w : DeviceView) (x y z : X) (made : ℕ) (answer : Move)
      → (r : DeviceWay l m words v w x y made) → (answer ≡ move.Looked → ⊥) → DeviceStepped l m words' v r.run.view y z answer
      → DeviceWay l m words' v w x z (made + 1)
  device_goes words words' w x y z made answer r work s =
      record { run = device_runs words words' w x y z made r.run answer (worked_one answer work) s; start = λ none. absurd (omega arith) }

  pub device_looks : (words words' : List ℕ) (w : DeviceView) (x y z : X) (made : ℕ) (answer : Move)
      → (r : DeviceWay l m words v w x y made) → answer ≡ move.Looked → DeviceStepped l m words' v r.run.view y z answer
      → DeviceTurn l m words' v w x z made
  device_looks words words' w x y z made answer r is s =
      let quiet = s.looked is in
      let none : worked answer ≡ 0 = ap worked is in
      let run : DeviceRun l m words' v w x z made = record {
        view = s.view;
        ring = s.ring;
        holds = s.holds;
        served = served_on x y z r.run.served s.served;
        grows = has_served_on w r.run.view s.view r.run.grows s.grows;
        accesses = λ le. no_more (m.accesses x) (m.accesses y) (m.accesses z) made (worked answer) r.run.accesses s.accesses none le;
        heard = omega (arith, s.heard, r.run.heard);
      } in
      record { run = run; quiet = λ zero. (quiet.0 ∙ (r.start zero).0, subst (λ (u : DeviceView). DeviceWaits v u) (sym quiet.0) quiet.1) }

  -- the step after which it is done
  pub device_ends : (words words' : List ℕ) (w : DeviceView) (x y z : X) (made : ℕ) (answer : Move)
      → (r : DeviceWay l m words v w x y made) → answer ≡ move.Finished → DeviceStepped l m words' v r.run.view y z answer
      → DeviceTurn l m words' v w x z (made + 1)
  device_ends words words' w x y z made answer r is s =
      record { run = device_runs words words' w x y z made r.run answer (ap worked is) s; quiet = λ none. absurd (omega arith) }

  -- a live device is done only after a step
  pub device_over : (words : List ℕ) (w : DeviceView) (x y : X) (made : ℕ) → (m.is_done x → ⊥) → DeviceWay l m words v w x y made
      → m.is_done y → DeviceTurn l m words v w x y made
  device_over words w x y made live r done =
      record { run = r.run; quiet = λ none. absurd (live (subst (λ (z : X). m.is_done z) (r.start none).1 done)) }

  pub device_spent : (words : List ℕ) (w : DeviceView) (x y : X) (made : ℕ) → DeviceWay l m words v w x y made → 1 ≤ made
      → DeviceTurn l m words v w x y made
  device_spent words w x y made r some = record { run = r.run; quiet = λ none. absurd (omega arith) }
