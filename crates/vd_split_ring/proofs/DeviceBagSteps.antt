-- What each answer of the device does to the bag of the ring's chains.
use Rattle.std.proofs.Common.{◌≡◌, ℕ, ◌==◌, Bool, true, false, None, List, [], ◌∷◌, ◌++◌, length, if◌then◌else◌, slice_index, refl, sym, ◌∙◌, subst, arith}
use Rattle.vd_bits.specs.Lanes.{lane32}
use Rattle.vd_model.specs.declared.chain.Piece.{Piece}
use Rattle.vd_words.specs.declared.access.Access.{Access}
use Rattle.vd_words.specs.declared.access.Access.TheVariants.{Load, Store}
use Rattle.vd_words.specs.declared.access.Op.{Op}
use Rattle.vd_words.specs.declared.access.Op.TheVariants as op
use Rattle.vd_ring.specs.declared.act.DeviceAct.{DeviceAct}
use Rattle.vd_ring.specs.declared.act.DeviceAct.TheVariants as act
use Rattle.vd_ring.specs.declared.frame.Frame.{Frame}
use Rattle.vd_ring.specs.declared.frame.Used.{Used}
use Rattle.vd_ring.specs.declared.driver.DriverDone.{DriverDone}
use Rattle.vd_ring.specs.declared.driver.DriverView.{DriverView}
use Rattle.vd_ring.specs.declared.device.DeviceDone.{DeviceDone}
use Rattle.vd_ring.specs.declared.device.DeviceDone.TheVariants.{Give}
use Rattle.vd_ring.specs.declared.device.DeviceNow.{DeviceNow}
use Rattle.vd_ring.specs.declared.device.DeviceNow.TheVariants.{Idle, Taking, Giving, Checking, Ringing, Arming, Disarming, Resting}
use Rattle.vd_ring.specs.declared.device.DeviceView.{DeviceView}
use Rattle.vd_ring.specs.Bag.{State, Stands}
use Rattle.vd_ring.specs.History.{offers, takes, gives, running, given, entry, last_used}
use Rattle.vd_ring.specs.Steps.{StandsFor, DeviceBagStep}
use Rattle.vd_split_ring.specs.SplitWords.{shows, shown_from, is_whole, chain_of}
use Rattle.vd_split_ring.specs.SplitDevice.{DeviceNextAt, DeviceNext, device_takes, loaded_head, device_wakes}
use Rattle.vd_split_ring.specs.SplitRing.{Ring, Gives, HasSeen}
use Rattle.vd_split_ring.specs.SplitDeviceLaws.{device_answer, device_done, DeviceBags}
use Rattle.vd_ring.proofs.Counts.{occurs_from}
use Rattle.vd_ring.proofs.DeviceBag.{begin_step, end_step, take_back_step}
use Rattle.vd_ring.proofs.DeviceLists.{lists_rested}
use Rattle.vd_split_ring.proofs.DeviceGives.{given_is}

-- a bag after a step, from the acts alone
record Moves (answer : DeviceAct) (in_order : Bool) (o : List DriverDone) (s t : List DeviceDone) (b : List State) : Type 0 where
  entries : List Used
  gave : (k : ℕ) → answer ≡ act.Given k → t ≡ Give entries ∷ s
  bag : List State
  step : DeviceBagStep in_order entries answer b bag
  stands : StandsFor o t bag

looks_bag : (in_order : Bool) (o : List DriverDone) (s : List DeviceDone) (v w : DeviceView) (b : List State) (c : Bool) → v.done ≡ s
    → w.done ≡ s → StandsFor o s b
    → Moves (if c then act.Nothing else act.Moved) in_order o s (if c then v else w).done b
looks_bag in_order o s v w b true is also st = record {
  entries = [];
  gave = λ k e. absurd cc;
  bag = b;
  step = refl;
  stands =
      subst (λ (t : List DeviceDone). StandsFor o t b) (sym is) st;
}
looks_bag in_order o s v w b false is also st = record {
  entries = [];
  gave = λ k e. absurd cc;
  bag = b;
  step = refl;
  stands =
      subst (λ (t : List DeviceDone). StandsFor o t b) (sym also) st;
}

loads_bag : (ws : List ℕ) (d : DriverView) (e : DeviceView) (g w : ℕ) (ss us : List ℕ) (b : List State) (c : Bool)
    → Ring ws d (record e { frame = d.frame; doing = Taking (g ∷ w ∷ ss) }) → StandsFor d.done e.done b
    → Moves (if c then act.Taken (length (takes e.done)) (chain_of d.frame us) else act.Moved) d.frame.features.in_order d.done e.done
    (if c then device_takes (record e { frame = d.frame; doing = Taking (g ∷ w ∷ ss) }) g w us else record e {
      frame = d.frame;
      doing =
          Taking (g ∷ w ∷ us);
    }).done b
loads_bag ws d e g w ss us b true r st =
    let seen : HasSeen g e.seen (length (takes e.done)) = r.device_doing.0 in
    let begun = begin_step d.frame d.done e.done (chain_of d.frame us) (loaded_head d.frame (length (takes e.done)) w) b r.lists
    (omega (arith, seen.more, r.device_seen)) st in
    record { entries = []; gave = λ k is. absurd cc; bag = begun.0; step = begun.1; stands = begun.2 }
loads_bag ws d e g w ss us b false r st = record { entries = []; gave = λ k is. absurd cc; bag = b; step = refl; stands = st }

gives_bag : (ws : List ℕ) (d : DriverView) (e : DeviceView) (a b : ℕ) (bag : List State)
    → Ring ws d (record e { frame = d.frame; doing = Giving (a ∷ b ∷ []) }) → StandsFor d.done e.done bag
    → let us = given d.frame e.done (lane32 a 1) (lane32 b 0) in
    Moves (act.Given (last_used us).number) d.frame.features.in_order d.done e.done (Give us ∷ e.done) bag
gives_bag ws d e a b bag r st =
    let f : Frame = d.frame in let s : List DeviceDone = e.done in let o : List DriverDone = d.done in
    let E : DeviceView = record e { frame = d.frame; doing = Giving (a ∷ b ∷ []) } in
    let now : Gives f s e.stored a = r.device_doing.0 in
    let u : Used = entry now.number (lane32 b 0) in
    let ended = end_step f o s u bag r.lists (occurs_from now.number (running s) now.runs) st in
    subst (λ (us : List Used). Moves (act.Given (last_used us).number) f.features.in_order o s (Give us ∷ s) bag)
    (sym (given_is ws d E a (lane32 b 0) r now))
    record { entries = u ∷ []; gave = λ k is. refl; bag = ended.0; step = (refl, ended.1); stands = ended.2 }

-- an access that takes and gives nothing
still : (ws : List ℕ) (d : DriverView) (e : DeviceView) (o : Op) (a : Access) (b : List State)
    → gives (device_done ws e o a) ≡ gives e.done → takes (device_done ws e o a) ≡ takes e.done → device_answer ws e o a ≡ act.Moved
    → StandsFor d.done e.done b → DeviceBags ws d e o a b
still ws d e o a b same also is st = record {
  entries = [];
  gave = λ k give. absurd (let both : act.Moved ≡ act.Given k = sym is ∙ give in cc);
  bag = b;
  step = subst (λ (x : DeviceAct). DeviceBagStep d.frame.features.in_order [] x b b) (sym is) refl;
  stands = subst (λ (us : List Used). Stands (length (offers d.done)) (length (takes (device_done ws e o a))) us b) (sym same)
      (subst (λ (cs : List (List Piece)). Stands (length (offers d.done)) (length cs) (gives e.done) b) (sym also) st);
}

-- an access that wakes
wakes_bag : (ws : List ℕ) (d : DriverView) (e : DeviceView) (o : Op) (a : Access) (b : List State)
    → gives (device_done ws e o a) ≡ gives e.done → takes (device_done ws e o a) ≡ takes e.done → device_answer ws e o a ≡ act.Awake
    → StandsFor d.done e.done b → DeviceBags ws d e o a b
wakes_bag ws d e o a b same also is st = record {
  entries = [];
  gave = λ k give. absurd (let both : act.Awake ≡ act.Given k = sym is ∙ give in cc);
  bag = b;
  step = subst (λ (x : DeviceAct). DeviceBagStep d.frame.features.in_order [] x b b) (sym is) refl;
  stands = subst (λ (us : List Used). Stands (length (offers d.done)) (length (takes (device_done ws e o a))) us b) (sym same)
      (subst (λ (cs : List (List Piece)). Stands (length (offers d.done)) (length cs) (gives e.done) b) (sym also) st);
}

again_bag : (in_order : Bool) (o : List DriverDone) (s : List DeviceDone) (v w : DeviceView) (quiet : DeviceAct) (b : List State)
    (t c : Bool) → ((k : ℕ) → quiet ≡ act.Given k → ⊥) → DeviceBagStep in_order [] quiet b b → v.done ≡ s → w.done ≡ s → StandsFor o s b
    → Moves (if t then quiet else (if c then act.Awake else act.Moved)) in_order o s (if t then v else w).done b
again_bag in_order o s v w quiet b true c never step is also st =
    record {
      entries = [];
      gave = λ k e. absurd (never k e);
      bag = b;
      step = step;
      stands =
          subst (λ (t : List DeviceDone). StandsFor o t b) (sym is) st;
    }
again_bag in_order o s v w quiet b false true never step is also st =
    record {
      entries = [];
      gave = λ k e. absurd cc;
      bag = b;
      step = refl;
      stands =
          subst (λ (t : List DeviceDone). StandsFor o t b) (sym also) st;
    }
again_bag in_order o s v w quiet b false false never step is also st =
    record {
      entries = [];
      gave = λ k e. absurd cc;
      bag = b;
      step = refl;
      stands =
          subst (λ (t : List DeviceDone). StandsFor o t b) (sym also) st;
    }

bag_at : (ws : List ℕ) (d : DriverView) (e : DeviceView) (doing : DeviceNow) (o : Op) (a : Access) (b : List State)
    → Ring ws d (record e { frame = d.frame; doing = doing }) → DeviceNextAt doing (record e { frame = d.frame; doing = doing }) o a
    → StandsFor d.done e.done b → DeviceBags ws d (record e { frame = d.frame; doing = doing }) o a b
bag_at ws d e Idle op.Take (Load p) b r h st =
    let g : ℕ = slice_index ws p in let t : ℕ = length (takes e.done) in
    let E : DeviceView = record e { frame = d.frame; doing = Idle } in
    let m = looks_bag d.frame.features.in_order d.done e.done (record E { seen = shown_from g t; shown = false })
    (record E { seen = shown_from g t; shown = true; doing = Taking (g ∷ []) }) b (shows g t) refl refl st in
    record { entries = m.entries; gave = m.gave; bag = m.bag; step = m.step; stands = m.stands }
bag_at ws d e (Taking (g ∷ [])) op.Take (Load p) b r h st = still ws d (record e { frame = d.frame; doing = Taking (g ∷ []) }) op.Take
    (Load p) b refl refl refl st
bag_at ws d e (Taking (g ∷ w ∷ ss)) op.Take (Load p) b r h st =
    let us : List ℕ = ss ++ slice_index ws p ∷ [] in
    let m = loads_bag ws d e g w ss us b (is_whole d.frame us) r st in
    record { entries = m.entries; gave = m.gave; bag = m.bag; step = m.step; stands = m.stands }
bag_at ws d e Idle op.Give (Store p x) b r h st =
    still ws d (record e { frame = d.frame; doing = Idle }) op.Give (Store p x) b refl refl refl st
bag_at ws d e (Giving (a ∷ [])) op.Give (Store p x) b r h st =
    still ws d (record e { frame = d.frame; doing = Giving (a ∷ []) }) op.Give (Store p x) b refl refl refl st
bag_at ws d e (Giving (a ∷ c ∷ [])) op.Give (Store p x) b r h st =
    let m = gives_bag ws d e a c b r st in record { entries = m.entries; gave = m.gave; bag = m.bag; step = m.step; stands = m.stands }
bag_at ws d e (Checking old new) op.Give (Load p) b r h st = still ws d (record e { frame = d.frame; doing = Checking old new }) op.Give
    (Load p) b refl refl refl st
bag_at ws d e (Ringing old new) op.Give (Store p x) b r h st =
    still ws d (record e { frame = d.frame; doing = Ringing old new }) op.Give (Store p x) b refl refl refl st
bag_at ws d e Idle op.Arm (Store p x) b r h st =
    still ws d (record e { frame = d.frame; doing = Idle }) op.Arm (Store p x) b refl refl refl st
bag_at ws d e Arming op.Arm (Load p) b r h st =
    let g : ℕ = slice_index ws p in let t : ℕ = length (takes e.done) in
    let E : DeviceView = record e { frame = d.frame; doing = Arming } in
    let m = again_bag d.frame.features.in_order d.done e.done (record E { seen = shown_from g t; shown = false; doing = Idle })
    (record E { seen = shown_from g t; shown = true; armed = None; doing = device_wakes d.frame op.Arm }) act.Armed b
    (shows g t) d.frame.features.event_idx (λ k is. absurd cc) refl refl refl st in
    record { entries = m.entries; gave = m.gave; bag = m.bag; step = m.step; stands = m.stands }
bag_at ws d e (Disarming k) op.Arm (Store p x) b r h st = wakes_bag ws d (record e { frame = d.frame; doing = Disarming k }) op.Arm
    (Store p x) b refl refl refl st
bag_at ws d e (Disarming k) op.Hear (Store p x) b r h st = wakes_bag ws d (record e { frame = d.frame; doing = Disarming k }) op.Hear
    (Store p x) b refl refl refl st
bag_at ws d e Idle op.Hear (Load p) b r h st =
    let g : ℕ = slice_index ws p in
    let E : DeviceView = record e { frame = d.frame; doing = Idle } in
    let m = again_bag d.frame.features.in_order d.done e.done E
    (record E { heard = g; armed = None; doing = device_wakes d.frame op.Hear }) act.Asleep b
    (g == e.heard) d.frame.features.event_idx (λ k is. absurd cc) refl refl refl st in
    record { entries = m.entries; gave = m.gave; bag = m.bag; step = m.step; stands = m.stands }
bag_at ws d e Idle op.Disarm (Store p x) b r h st =
    wakes_bag ws d (record e { frame = d.frame; doing = Idle }) op.Disarm (Store p x) b refl refl refl st
bag_at ws d e Idle op.Disarm (Load p) b r h st =
    wakes_bag ws d (record e { frame = d.frame; doing = Idle }) op.Disarm (Load p) b refl refl refl st
bag_at ws d e Idle op.Rest (Store p x) b r h st =
    still ws d (record e { frame = d.frame; doing = Idle }) op.Rest (Store p x) b refl refl refl st
bag_at ws d e Idle op.Rest (Load p) b r h st = still ws d (record e { frame = d.frame; doing = Idle }) op.Rest (Load p) b refl refl refl st
bag_at ws d e Resting op.Rest (Load p) b r h st =
    let whole : Rattle.vd_ring.specs.History.IsWhole e.done = r.device_doing in
    let back = take_back_step d.frame d.done e.done b r.lists (lists_rested d.frame d.done e.done r.lists whole) whole st in
    record { entries = []; gave = λ k is. absurd cc; bag = back.0; step = back.1; stands = back.2 }
bag_at ws d e Idle op.Control (Load p) b r h st =
    still ws d (record e { frame = d.frame; doing = Idle }) op.Control (Load p) b refl refl refl st
bag_at ws d e Idle op.Control (Store p x) b r h st =
    still ws d (record e { frame = d.frame; doing = Idle }) op.Control (Store p x) b refl refl refl st
bag_at ws d e _ _ _ b r h st = absurd h

pub bags : (ws : List ℕ) (d : DriverView) (e : DeviceView) (o : Op) (a : Access) (b : List State) → Ring ws d e → DeviceNext e o a
    → StandsFor d.done e.done b → DeviceBags ws d e o a b
bags ws d e o a b r h st =
    subst (λ (f : Frame). Ring ws d (record e { frame = f }) → DeviceNext (record e { frame = f }) o a
    → DeviceBags ws d (record e { frame = f }) o a b) (sym r.same) (λ ring next. bag_at ws d e e.doing o a b ring next st) r h
