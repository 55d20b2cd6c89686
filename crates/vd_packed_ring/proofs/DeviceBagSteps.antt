-- What each answer of the device does to the bag of the ring's chains.
use Rattle.std.proofs.Common.{◌≡◌, ℕ, ◌==◌, Bool, true, false, List, [], ◌∷◌, ◌++◌, length, if◌then◌else◌, slice_index, refl, sym, ◌∙◌, subst}
use Rattle.vd_model.specs.declared.chain.Piece.{Piece}
use Rattle.vd_words.specs.declared.access.Access.{Access}
use Rattle.vd_words.specs.declared.access.Access.TheVariants.{Load, Store}
use Rattle.vd_words.specs.declared.access.Op.{Op}
use Rattle.vd_words.specs.declared.access.Op.TheVariants as op
use Rattle.vd_ring.specs.declared.act.DeviceAct.{DeviceAct}
use Rattle.vd_ring.specs.declared.act.DeviceAct.TheVariants as act
use Rattle.vd_ring.specs.declared.frame.Frame.{Frame}
use Rattle.vd_ring.specs.declared.frame.Used.{Used}
use Rattle.vd_ring.specs.declared.driver.DriverDone.{DriverDone}
use Rattle.vd_ring.specs.declared.driver.DriverView.{DriverView}
use Rattle.vd_ring.specs.declared.device.DeviceDone.{DeviceDone}
use Rattle.vd_ring.specs.declared.device.DeviceDone.TheVariants.{Give}
use Rattle.vd_ring.specs.declared.device.DeviceNow.{DeviceNow}
use Rattle.vd_ring.specs.declared.device.DeviceNow.TheVariants.{Idle, Taking, Checking, Ringing, Arming, Disarming, Resting}
use Rattle.vd_ring.specs.declared.device.DeviceView.{DeviceView}
use Rattle.vd_ring.specs.Bag.{State, Stands}
use Rattle.vd_ring.specs.History.{offers, takes, gives, running, given, entry, last_used, IsWhole}
use Rattle.vd_ring.specs.Steps.{StandsFor, DeviceBagStep}
use Rattle.vd_ring.proofs.Counts.{occurs_from}
use Rattle.vd_ring.proofs.DeviceBag.{begin_step, end_step, take_back_step}
use Rattle.vd_ring.proofs.DeviceLists.{lists_rested}
use Rattle.vd_packed_ring.specs.PackedWords.{len_of, id_of, is_available}
use Rattle.vd_packed_ring.specs.PackedChains.{loaded_head, is_whole, chain_of}
use Rattle.vd_packed_ring.specs.PackedPositions.{take_position}
use Rattle.vd_packed_ring.specs.PackedDevice.{DeviceNextAt, DeviceNext, device_takes, Returns}
use Rattle.vd_packed_ring.specs.PackedDeviceLaws.{device_answer, device_done, DeviceBags}
use Rattle.vd_packed_ring.specs.PackedRing.{Ring, Loads}
use Rattle.vd_packed_ring.proofs.Gives.{given_is}
use Rattle.vd_packed_ring.proofs.DeviceViews.{saw, saw_none, saw_again, sleeps, heard}

-- a bag after a step, from the acts alone
record Moves (answer : DeviceAct) (in_order : Bool) (o : List DriverDone) (s t : List DeviceDone) (b : List State) : Type 0 where
  entries : List Used
  gave : (k : ℕ) → answer ≡ act.Given k → t ≡ Give entries ∷ s
  bag : List State
  step : DeviceBagStep in_order entries answer b bag
  stands : StandsFor o t bag

looks_bag : (in_order : Bool) (o : List DriverDone) (s : List DeviceDone) (v w : DeviceView) (b : List State) (c : Bool) → v.done ≡ s
    → w.done ≡ s → StandsFor o s b
    → Moves (if c then act.Moved else act.Nothing) in_order o s (if c then v else w).done b
looks_bag in_order o s v w b true is also st = record {
  entries = [];
  gave = λ k e. absurd cc;
  bag = b;
  step = refl;
  stands =
      subst (λ (t : List DeviceDone). StandsFor o t b) (sym is) st;
}
looks_bag in_order o s v w b false is also st = record {
  entries = [];
  gave = λ k e. absurd cc;
  bag = b;
  step = refl;
  stands =
      subst (λ (t : List DeviceDone). StandsFor o t b) (sym also) st;
}

loads_bag : (ws : List ℕ) (d : DriverView) (e : DeviceView) (us : List ℕ) (b : List State) (c : Bool) → Ring ws d e
    → Loads d.frame d.done (length (takes e.done)) (take_position d.frame e.done) us → (vs : List ℕ) → StandsFor d.done e.done b
    → Moves (if c then act.Taken (length (takes e.done)) (chain_of e.frame vs) else act.Moved) d.frame.features.in_order d.done e.done
    (if c then device_takes e vs else record e { doing = Taking vs }).done b
loads_bag ws d e us b true r l vs st =
    let begun = begin_step d.frame d.done e.done (chain_of e.frame vs) (loaded_head e.frame vs) b r.lists l.more st in
    record { entries = []; gave = λ k is. absurd cc; bag = begun.0; step = begun.1; stands = begun.2 }
loads_bag ws d e us b false r l vs st = record { entries = []; gave = λ k is. absurd cc; bag = b; step = refl; stands = st }

gives_bag : (ws : List ℕ) (d : DriverView) (e : DeviceView) (p x : ℕ) (bag : List State) → Ring ws d e → Returns d.frame e.done p x
    → StandsFor d.done e.done bag
    → let us = given d.frame e.done (id_of x) (len_of x) in
    Moves (act.Given (last_used us).number) d.frame.features.in_order d.done e.done (Give us ∷ e.done) bag
gives_bag ws d e p x bag r n st =
    let f : Frame = d.frame in let s : List DeviceDone = e.done in let o : List DriverDone = d.done in
    let u : Used = entry n.number n.len in
    let ended = end_step f o s u bag r.lists (occurs_from n.number (running s) n.runs) st in
    subst (λ (us : List Used). Moves (act.Given (last_used us).number) f.features.in_order o s (Give us ∷ s) bag)
    (sym (given_is ws d e p x r n).is)
    record { entries = u ∷ []; gave = λ k is. refl; bag = ended.0; step = (refl, ended.1); stands = ended.2 }

-- an access that takes and gives nothing
still : (ws : List ℕ) (d : DriverView) (e : DeviceView) (o : Op) (a : Access) (b : List State)
    → gives (device_done ws e o a) ≡ gives e.done → takes (device_done ws e o a) ≡ takes e.done → device_answer ws e o a ≡ act.Moved
    → StandsFor d.done e.done b → DeviceBags ws d e o a b
still ws d e o a b same also is st = record {
  entries = [];
  gave = λ k give. absurd (let both : act.Moved ≡ act.Given k = sym is ∙ give in cc);
  bag = b;
  step = subst (λ (x : DeviceAct). DeviceBagStep d.frame.features.in_order [] x b b) (sym is) refl;
  stands = subst (λ (us : List Used). Stands (length (offers d.done)) (length (takes (device_done ws e o a))) us b) (sym same)
      (subst (λ (cs : List (List Piece)). Stands (length (offers d.done)) (length cs) (gives e.done) b) (sym also) st);
}

-- an access that wakes
awake : (ws : List ℕ) (d : DriverView) (e : DeviceView) (o : Op) (a : Access) (b : List State)
    → gives (device_done ws e o a) ≡ gives e.done → takes (device_done ws e o a) ≡ takes e.done → device_answer ws e o a ≡ act.Awake
    → StandsFor d.done e.done b → DeviceBags ws d e o a b
awake ws d e o a b same also is st = record {
  entries = [];
  gave = λ k give. absurd (let both : act.Awake ≡ act.Given k = sym is ∙ give in cc);
  bag = b;
  step = subst (λ (x : DeviceAct). DeviceBagStep d.frame.features.in_order [] x b b) (sym is) refl;
  stands = subst (λ (us : List Used). Stands (length (offers d.done)) (length (takes (device_done ws e o a))) us b) (sym same)
      (subst (λ (cs : List (List Piece)). Stands (length (offers d.done)) (length cs) (gives e.done) b) (sym also) st);
}

-- a look of an arming, and a hearing
wakes_bag : (in_order : Bool) (o : List DriverDone) (s : List DeviceDone) (v w : DeviceView) (quiet : DeviceAct) (b : List State)
    (t c : Bool) → ((k : ℕ) → quiet ≡ act.Given k → ⊥) → DeviceBagStep in_order [] quiet b b → v.done ≡ s → w.done ≡ s → StandsFor o s b
    → Moves (if t then (if c then act.Awake else act.Moved) else quiet) in_order o s (if t then v else w).done b
wakes_bag in_order o s v w quiet b true true never step is also st =
    record {
      entries = [];
      gave = λ k e. absurd cc;
      bag = b;
      step = refl;
      stands =
          subst (λ (t : List DeviceDone). StandsFor o t b) (sym is) st;
    }
wakes_bag in_order o s v w quiet b true false never step is also st =
    record {
      entries = [];
      gave = λ k e. absurd cc;
      bag = b;
      step = refl;
      stands =
          subst (λ (t : List DeviceDone). StandsFor o t b) (sym is) st;
    }
wakes_bag in_order o s v w quiet b false c never step is also st =
    record {
      entries = [];
      gave = λ k e. absurd (never k e);
      bag = b;
      step = step;
      stands =
          subst (λ (t : List DeviceDone). StandsFor o t b) (sym also) st;
    }

hears_bag : (in_order : Bool) (o : List DriverDone) (s : List DeviceDone) (v w : DeviceView) (b : List State) (t c : Bool) → v.done ≡ s
    → w.done ≡ s → StandsFor o s b → Moves (if t then act.Asleep else (if c then act.Awake else act.Moved)) in_order o s
    (if t then v else w).done b
hears_bag in_order o s v w b true c is also st = record {
  entries = [];
  gave = λ k e. absurd cc;
  bag = b;
  step = refl;
  stands =
      subst (λ (t : List DeviceDone). StandsFor o t b) (sym is) st;
}
hears_bag in_order o s v w b false true is also st = record {
  entries = [];
  gave = λ k e. absurd cc;
  bag = b;
  step = refl;
  stands =
      subst (λ (t : List DeviceDone). StandsFor o t b) (sym also) st;
}
hears_bag in_order o s v w b false false is also st = record {
  entries = [];
  gave = λ k e. absurd cc;
  bag = b;
  step = refl;
  stands =
      subst (λ (t : List DeviceDone). StandsFor o t b) (sym also) st;
}

bag_at : (ws : List ℕ) (d : DriverView) (e : DeviceView) (doing : DeviceNow) (o : Op) (a : Access) (b : List State)
    → Ring ws d (record e { frame = d.frame; doing = doing }) → DeviceNextAt doing (record e { frame = d.frame; doing = doing }) o a
    → StandsFor d.done e.done b → DeviceBags ws d (record e { frame = d.frame; doing = doing }) o a b
bag_at ws d e Idle op.Take (Load p) b r h st =
    let g : ℕ = slice_index ws p in
    let E : DeviceView = record e { frame = d.frame; doing = Idle } in
    let m = looks_bag d.frame.features.in_order d.done e.done (saw E g) (saw_none E) b
    (is_available d.frame.size (take_position d.frame e.done) g) refl refl st in
    record { entries = m.entries; gave = m.gave; bag = m.bag; step = m.step; stands = m.stands }
bag_at ws d e (Taking (w ∷ us)) op.Take (Load p) b r h st =
    let vs : List ℕ = w ∷ us ++ slice_index ws p ∷ [] in
    let m = loads_bag ws d (record e { frame = d.frame; doing = Taking (w ∷ us) }) (w ∷ us) b (is_whole d.frame vs) r r.device_doing vs
    st in
    record { entries = m.entries; gave = m.gave; bag = m.bag; step = m.step; stands = m.stands }
bag_at ws d e Idle op.Give (Store p x) b r h st =
    let m = gives_bag ws d (record e { frame = d.frame; doing = Idle }) p x b r h.1 st in
    record { entries = m.entries; gave = m.gave; bag = m.bag; step = m.step; stands = m.stands }
bag_at ws d e (Checking old new) op.Give (Load p) b r h st = still ws d (record e { frame = d.frame; doing = Checking old new }) op.Give
    (Load p) b refl refl refl st
bag_at ws d e (Ringing old new) op.Give (Store p x) b r h st =
    still ws d (record e { frame = d.frame; doing = Ringing old new }) op.Give (Store p x) b refl refl refl st
bag_at ws d e Idle op.Arm (Store p x) b r h st =
    still ws d (record e { frame = d.frame; doing = Idle }) op.Arm (Store p x) b refl refl refl st
bag_at ws d e Arming op.Arm (Load p) b r h st =
    let E : DeviceView = record e { frame = d.frame; doing = Arming } in
    let m = wakes_bag d.frame.features.in_order d.done e.done (saw_again E) (sleeps E) act.Armed b
    (is_available d.frame.size (take_position d.frame e.done) (slice_index ws p)) d.frame.features.event_idx
    (λ k is. absurd cc) refl refl refl st in
    record { entries = m.entries; gave = m.gave; bag = m.bag; step = m.step; stands = m.stands }
bag_at ws d e (Disarming k) op.Arm (Store p x) b r h st =
    awake ws d (record e { frame = d.frame; doing = Disarming k }) op.Arm (Store p x) b refl refl refl st
bag_at ws d e (Disarming k) op.Hear (Store p x) b r h st =
    awake ws d (record e { frame = d.frame; doing = Disarming k }) op.Hear (Store p x) b refl refl refl st
bag_at ws d e Idle op.Hear (Load p) b r h st =
    let g : ℕ = slice_index ws p in
    let E : DeviceView = record e { frame = d.frame; doing = Idle } in
    let m = hears_bag d.frame.features.in_order d.done e.done E (heard E g) b (g == e.heard) d.frame.features.event_idx refl refl st in
    record { entries = m.entries; gave = m.gave; bag = m.bag; step = m.step; stands = m.stands }
bag_at ws d e Idle op.Disarm (Store p x) b r h st =
    awake ws d (record e { frame = d.frame; doing = Idle }) op.Disarm (Store p x) b refl refl refl st
bag_at ws d e Idle op.Disarm (Load p) b r h st =
    awake ws d (record e { frame = d.frame; doing = Idle }) op.Disarm (Load p) b refl refl refl st
bag_at ws d e Idle op.Rest (Store p x) b r h st =
    still ws d (record e { frame = d.frame; doing = Idle }) op.Rest (Store p x) b refl refl refl st
bag_at ws d e Idle op.Rest (Load p) b r h st = still ws d (record e { frame = d.frame; doing = Idle }) op.Rest (Load p) b refl refl refl st
bag_at ws d e Resting op.Rest (Load p) b r h st =
    let whole : IsWhole e.done = r.device_doing in
    let back = take_back_step d.frame d.done e.done b r.lists (lists_rested d.frame d.done e.done r.lists whole) whole st in
    record { entries = []; gave = λ k is. absurd cc; bag = back.0; step = back.1; stands = back.2 }
bag_at ws d e Idle op.Control (Load p) b r h st =
    still ws d (record e { frame = d.frame; doing = Idle }) op.Control (Load p) b refl refl refl st
bag_at ws d e Idle op.Control (Store p x) b r h st =
    still ws d (record e { frame = d.frame; doing = Idle }) op.Control (Store p x) b refl refl refl st
bag_at ws d e _ _ _ b r h st = absurd h

pub bags : (ws : List ℕ) (d : DriverView) (e : DeviceView) (o : Op) (a : Access) (b : List State) → Ring ws d e → DeviceNext e o a
    → StandsFor d.done e.done b → DeviceBags ws d e o a b
bags ws d e o a b r h st =
    subst (λ (f : Frame). Ring ws d (record e { frame = f }) → DeviceNext (record e { frame = f }) o a
    → DeviceBags ws d (record e { frame = f }) o a b) (sym r.same) (λ ring next. bag_at ws d e e.doing o a b ring next st) r h
