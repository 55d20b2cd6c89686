-- A new relay, and a relay that begins to wind up.
use Rattle.std.proofs.Common.{◌≡◌, ℕ, zero, suc, ◌≤◌, Bool, true, false, Option, None, List, [], ◌++◌, length, map, replicate, if◌then◌else◌, refl, sym, ◌∙◌, ap, subst, arith}
use Rattle.std.proofs.lemmas.List.{append-nil, length-replicate, nil_from_length}
use Rattle.vd_model.specs.declared.chain.Piece.{Piece}
use Rattle.vd_model.specs.declared.map.Mapping.{Mapping}
use Rattle.vd_ring.specs.declared.frame.Frame.{Frame}
use Rattle.vd_ring.specs.declared.frame.Used.{Used}
use Rattle.vd_ring.specs.declared.driver.DriverDone.{DriverDone}
use Rattle.vd_ring.specs.declared.driver.DriverNow.{DriverNow}
use Rattle.vd_ring.specs.declared.driver.DriverNow.TheVariants as shadow_now
use Rattle.vd_ring.specs.declared.driver.DriverView.{DriverView}
use Rattle.vd_ring.specs.declared.device.DeviceDone.{DeviceDone}
use Rattle.vd_ring.specs.declared.device.DeviceNow.{DeviceNow}
use Rattle.vd_ring.specs.declared.device.DeviceNow.TheVariants as guest_now
use Rattle.vd_ring.specs.declared.device.DeviceView.{DeviceView}
use Rattle.vd_ring.specs.History.{offers, collects, open_at, takes, gives, running, occurs}
use Rattle.vd_layout.specs.Begun.{DriverOp, DeviceOp}
use Rattle.vd_layout.specs.Driver.{DriverModel, IsLawfulDriver}
use Rattle.vd_layout.specs.Device.{DeviceModel, IsLawfulDevice}
use Rattle.vd_table.specs.declared.Origin.{Origin}
use Rattle.vd_table.specs.Rows.{row}
use Rattle.vd_relay.specs.declared.counts.Counts.{Counts}
use Rattle.vd_relay.specs.declared.stage.Stage.{Stage}
use Rattle.vd_relay.specs.declared.stage.Stage.TheVariants as stage
use Rattle.vd_relay.specs.declared.state.State.{State}
use Rattle.vd_relay.specs.Pace.{guest_owes, shadow_owes, idle_owes, take_owes, collect_owes, guest_hears, shadow_hears, hear_owes, KeepsPace}
use Rattle.vd_relay.specs.Stages.{is_rested, is_shadow, is_hearing, InHand, EndsIs, BackIs}
use Rattle.vd_relay.specs.Tie.{Course, IsTied}
use Rattle.vd_relay.specs.Ways.{Way, moving, sent, came, numbered_by, shift_by, Follows}
use Rattle.vd_relay.specs.Moving.{IsOpen}
use Rattle.vd_relay.specs.Relay.{Stands, Holds, IsRoused, Begins, HandsBack, owes, start}
use Rattle.vd_relay.proofs.Ways.{matches_none}
use Rattle.vd_relay.proofs.Origins.{is_none}
use Rattle.vd_relay.proofs.Calm.{Free, FewInHand, at_stage, hand_to, settled, freed, owes_idle, stands_roused, winding_small, roused_live, roused_deaf}

row_none : (n h : ℕ) → row {T = Origin} (replicate n None) h ≡ None
row_none zero h = refl
row_none (suc n) zero = refl
row_none (suc n) (suc h) = row_none n h

tied_new : (s : List DeviceDone) (way : Way) (g : Frame) (o : List DriverDone) (t : List (Option Origin)) → running s ≡ []
    → length (takes s) ≡ length (gives s) → open_at o ≡ [] → sent way o ≡ [] → came way o ≡ [] → Follows way o → t ≡ replicate g.size None
    → IsTied (record { takes = takes s; gives = gives s; way = way }) t [] [] s g o
tied_new s way g o t none even none_open none_sent none_came follows empty = record {
  past = [];
  got = [];
  takes = sym (append-nil (takes s));
  gives = sym (append-nil (gives s));
  even = even;
  offered = matches_none way (sent way o ++ []) (append-nil (sent way o) ∙ none_sent);
  given = ap (λ (us : List Used). map (shift_by way (length (gives s))) us) none_came;
  runs = none ∙ sym (ap (λ (ks : List ℕ). map (numbered_by way (length (gives s))) ks) (append-nil (open_at o) ∙ none_open));
  holds = record {
    sized = ap (λ (x : List (Option Origin)). length x) empty ∙ length-replicate g.size None;
    stored = λ k some. absurd (omega (arith, some, ap (λ (ks : List ℕ). occurs k ks) none_open));
    only = λ h some. absurd (is_none (row t h) some (ap (λ (x : List (Option Origin)). row x h) empty ∙ row_none g.size h));
  };
  follows = follows;
}

module _ {E D : Type 0} (e : DeviceModel E) (d : DriverModel D) (law : IsLawfulDevice e) (ldr : IsLawfulDriver d) where
  few_none : (y : Bool) → FewInHand y []
  few_none false = refl
  few_none true = omega arith

  pub small : (winding g s : Bool) → take_owes winding g s ≤ take_owes winding false false
  small true g s = omega arith
  small false true s = omega arith
  small false false true = omega arith
  small false false false = omega arith

  -- a relay that begins to carry, in its wind-up too, with counts that leave what is owed before a take
  pub begun_at : (winding : Bool) (target : ℕ) (n : Counts) (a : E) (c : D) (t : List (Option Origin)) (way : Way) (w : DeviceView)
      (v : DriverView) → KeepsPace n (take_owes winding false false) → e.begun a ≡ DeviceOp.idle
      → e.resting a ≡ false → e.armed a ≡ false → d.begun c ≡ DriverOp.idle → d.armed c ≡ false → Begins e d way a c t w v
      → Holds e d (start way w) (record { guest = a; shadow = c; table = t; stage = stage.Taking; winding = winding; target = target }) n w v
  begun_at winding target n a c t way w v pace idle awake unarmed free apart o =
      let r : State E D = record { guest = a; shadow = c; table = t; stage = stage.Taking; winding = winding; target = target } in
      let none : running w.done ≡ [] = nil_from_length (running w.done) (omega (arith, o.outstanding, (law.runs a w o.serves).count)) in
      let f : Free e d (start way w) r w v = record {
        serves = o.serves;
        drives = o.drives;
        paired = o.paired;
        awake = awake;
        hand = [];
        tied = tied_new w.done way v.frame v.done t none o.outstanding o.none_open o.none_sent o.none_came o.follows o.empty;
        few = few_none winding;
        guest_idle = idle;
        shadow_idle = free;
      } in
      record {
        stands = settled e d law ldr (start way w) r w v stage.Taking refl f tt (law.not_armed a w o.serves unarmed)
            (ldr.unarmed c v o.drives apart);
        pace = λ i j k. omega (
          arith,
          owes_idle e d law ldr (start way w) r w v stage.Taking f,
          small winding w.shown v.shown,
          pace i j k,
        );
        hears_guest = λ hears x. cc (hears, idle);
        hears_shadow = λ hears x. cc (hears, free);
        leaves = λ on at. absurd (cc at);
      }

  -- a relay that begins with it
  pub begun : (a : E) (c : D) (t : List (Option Origin)) (way : Way) (w : DeviceView) (v : DriverView) → e.begun a ≡ DeviceOp.idle
      → e.resting a ≡ false → e.armed a ≡ false → d.begun c ≡ DriverOp.idle → d.armed c ≡ false → Begins e d way a c t w v
      → Holds e d (start way w) (record { guest = a; shadow = c; table = t; stage = stage.Taking; winding = false; target = 0 })
      (record { accesses = 0; handled = 0; heard = 0 }) w v
  begun a c t way w v idle awake unarmed free apart o = begun_at false 0 (record { accesses = 0; handled = 0; heard = 0 }) a c t way w v
      (λ i j k. omega arith) idle awake unarmed free apart o

  -- a new relay of a data queue
  pub opened : (a : E) (c : D) (t : List (Option Origin)) (ms : List Mapping) (w : DeviceView) (v : DriverView) → e.begun a ≡ DeviceOp.idle
      → e.resting a ≡ false → e.armed a ≡ false → d.begun c ≡ DriverOp.idle → d.armed c ≡ false → IsOpen e d ms a c t w v
      → Holds e d (start (moving ms) w) (record { guest = a; shadow = c; table = t; stage = stage.Taking; winding = false; target = 0 })
      (record { accesses = 0; handled = 0; heard = 0 }) w v
  opened a c t ms w v idle awake unarmed free apart o = begun a c t (moving ms) w v idle awake unarmed free apart (record {
    serves = o.serves;
    drives = o.drives;
    paired = o.paired;
    outstanding = o.outstanding;
    none_open = ap open_at o.fresh;
    none_sent = ap offers o.fresh;
    none_came = ap collects o.fresh;
    follows = tt;
    empty = o.empty;
  })

  -- ---- the begin of a wind-up

  wound_hand : (st : Stage) (hand : List (List Piece)) → InHand st false hand → InHand st true hand
  wound_hand (stage.Offering n h) hand i = tt
  wound_hand stage.Taking hand i = omega (arith, ap (λ (cs : List (List Piece)). length cs) i)
  wound_hand (stage.Collecting n) hand i = omega (arith, ap (λ (cs : List (List Piece)). length cs) i)
  wound_hand stage.Giving hand i = omega (arith, ap (λ (cs : List (List Piece)). length cs) i)
  wound_hand stage.ArmingGuest hand i = omega (arith, ap (λ (cs : List (List Piece)). length cs) i)
  wound_hand stage.ArmingShadow hand i = omega (arith, ap (λ (cs : List (List Piece)). length cs) i)
  wound_hand stage.HearingGuest hand i = omega (arith, ap (λ (cs : List (List Piece)). length cs) i)
  wound_hand stage.HearingShadow hand i = omega (arith, ap (λ (cs : List (List Piece)). length cs) i)
  wound_hand stage.DisarmingGuest hand i = omega (arith, ap (λ (cs : List (List Piece)). length cs) i)
  wound_hand stage.DisarmingShadow hand i = omega (arith, ap (λ (cs : List (List Piece)). length cs) i)
  wound_hand stage.Resting hand i = omega (arith, ap (λ (cs : List (List Piece)). length cs) i)
  wound_hand stage.Rested hand i = omega (arith, ap (λ (cs : List (List Piece)). length cs) i)

  wound_ends : (st : Stage) (target given : ℕ) (s : List DeviceDone) (o : List DriverDone) → EndsIs st false target s o
      → EndsIs st true given s o
  wound_ends (stage.Offering n h) target given s o i = tt
  wound_ends stage.Taking target given s o i = tt
  wound_ends (stage.Collecting n) target given s o i = tt
  wound_ends stage.Giving target given s o i = tt
  wound_ends stage.ArmingGuest target given s o i = tt
  wound_ends stage.ArmingShadow target given s o i = tt
  wound_ends stage.HearingGuest target given s o i = tt
  wound_ends stage.HearingShadow target given s o i = tt
  wound_ends stage.DisarmingGuest target given s o i = tt
  wound_ends stage.DisarmingShadow target given s o i = tt
  wound_ends stage.Resting target given s o i = absurd (cc i.0)
  wound_ends stage.Rested target given s o i = absurd (cc i.0)

  take_less : (g s : Bool) → take_owes true g s ≤ take_owes false g s
  take_less true s = omega arith
  take_less false true = omega arith
  take_less false false = omega arith

  collect_less : (none s : Bool) → collect_owes true none s ≤ collect_owes false none s
  collect_less none true = omega arith
  collect_less true false = omega arith
  collect_less false false = omega arith

  idle_less : (st : Stage) (g s : Bool) → idle_owes true st g s ≤ idle_owes false st g s
  idle_less stage.Taking g s = take_less g s
  idle_less (stage.Offering n h) g s = omega arith
  idle_less (stage.Collecting none) g s = collect_less none s
  idle_less stage.Giving g s = omega arith
  idle_less stage.ArmingGuest g s = omega arith
  idle_less stage.ArmingShadow g s = omega arith
  idle_less stage.HearingGuest g s = omega arith
  idle_less stage.HearingShadow g s = omega arith
  idle_less stage.DisarmingGuest g s = omega (arith, take_less g s)
  idle_less stage.DisarmingShadow g s = omega (arith, take_less g s)
  idle_less stage.Resting g s = omega arith
  idle_less stage.Rested g s = omega arith

  guest_hears_less : (x : DeviceNow) → guest_hears true x ≤ guest_hears false x
  guest_hears_less guest_now.Idle = omega arith
  guest_hears_less (guest_now.Taking ws) = omega arith
  guest_hears_less (guest_now.Giving ws) = omega arith
  guest_hears_less (guest_now.Checking i j) = omega arith
  guest_hears_less (guest_now.Ringing i j) = omega arith
  guest_hears_less guest_now.Arming = omega arith
  guest_hears_less (guest_now.Disarming o) = omega arith
  guest_hears_less guest_now.Resting = omega arith

  shadow_hears_less : (x : DriverNow) → shadow_hears true x ≤ shadow_hears false x
  shadow_hears_less shadow_now.Idle = omega arith
  shadow_hears_less (shadow_now.Offering ps) = omega arith
  shadow_hears_less (shadow_now.Entered ps) = omega arith
  shadow_hears_less (shadow_now.Collecting ws) = omega arith
  shadow_hears_less (shadow_now.Checking i j) = omega arith
  shadow_hears_less (shadow_now.Ringing i j) = omega arith
  shadow_hears_less shadow_now.Arming = omega arith
  shadow_hears_less (shadow_now.Disarming o) = omega arith

  guest_less : (st : Stage) (o : DeviceOp) (x : DeviceNow) (g s : Bool) (left : ℕ)
      → guest_owes true st o x g s left ≤ guest_owes false st o x g s left
  guest_less st DeviceOp.idle x g s left = idle_less st g s
  guest_less st DeviceOp.disarm x g s left = idle_less st g s
  guest_less st DeviceOp.take x true s left = omega arith
  guest_less st DeviceOp.take x false true left = omega arith
  guest_less st DeviceOp.take x false false left = omega arith
  guest_less st DeviceOp.signal x g s left = omega arith
  guest_less st DeviceOp.arm x g s left = omega arith
  guest_less st DeviceOp.hear x g s left = guest_hears_less x
  guest_less st (DeviceOp.give k n) x g s left = omega arith
  guest_less st DeviceOp.rest x g s left = omega arith

  collecting_less : (none s : Bool) (left : ℕ) → Rattle.vd_relay.specs.Pace.collecting_owes true none s left
      ≤ Rattle.vd_relay.specs.Pace.collecting_owes false none s left
  collecting_less none true left = omega arith
  collecting_less true false left = omega arith
  collecting_less false false left = omega arith

  collect_at : (st : Stage) (x : DriverNow) (g s : Bool) (left : ℕ) → shadow_owes true st DriverOp.collect x g s left
      ≤ shadow_owes false st DriverOp.collect x g s left
  collect_at (stage.Collecting none) x g s left = collecting_less none s left
  collect_at stage.Taking x g s left = omega arith
  collect_at (stage.Offering n h) x g s left = omega arith
  collect_at stage.Giving x g s left = omega arith
  collect_at stage.ArmingGuest x g s left = omega arith
  collect_at stage.ArmingShadow x g s left = omega arith
  collect_at stage.HearingGuest x g s left = omega arith
  collect_at stage.HearingShadow x g s left = omega arith
  collect_at stage.DisarmingGuest x g s left = omega arith
  collect_at stage.DisarmingShadow x g s left = omega arith
  collect_at stage.Resting x g s left = omega arith
  collect_at stage.Rested x g s left = omega arith

  shadow_less : (st : Stage) (o : DriverOp) (x : DriverNow) (g s : Bool) (left : ℕ)
      → shadow_owes true st o x g s left ≤ shadow_owes false st o x g s left
  shadow_less st DriverOp.idle x g s left = idle_less st g s
  shadow_less st DriverOp.disarm x g s left = idle_less st g s
  shadow_less st DriverOp.collect x g s left = collect_at st x g s left
  shadow_less st DriverOp.signal x g s left = omega arith
  shadow_less st DriverOp.arm x g s left = omega arith
  shadow_less st DriverOp.hear x g s left = shadow_hears_less x
  shadow_less st (DriverOp.offer c) x g s left = omega arith

  side_less : (y : Bool) (i j k l : ℕ) → i ≤ j → k ≤ l → (if y then i else k) ≤ (if y then j else l)
  side_less true i j k l a b = a
  side_less false i j k l a b = b

  abbrev pub winding_to : State E D → ℕ → State E D
  winding_to r given = record {
    guest = r.guest;
    shadow = r.shadow;
    table = r.table;
    stage = r.stage;
    winding = true;
    target = given;
  }

  pub wound : (z : Course) (r : State E D) (given : ℕ) (w : DeviceView) (v : DriverView) → r.winding ≡ false → Stands e d z r w v
      → Stands e d z (winding_to r given) w v
  wound z r given w v off h = record {
    serves = h.serves;
    drives = h.drives;
    paired = h.paired;
    rests = h.rests;
    acts = h.acts;
    before = h.before;
    hand = h.hand;
    back = h.back;
    tied = h.tied;
    guest = h.guest;
    shadow = h.shadow;
    takes = h.takes;
    offers = h.offers;
    in_hand = wound_hand r.stage h.hand (subst (λ (y : Bool). InHand r.stage y h.hand) off h.in_hand);
    offer = h.offer;
    to_give = h.to_give;
    ends = wound_ends r.stage r.target given h.acts v.done (subst (λ (y : Bool). EndsIs r.stage y r.target h.acts v.done) off h.ends);
    guest_armed = h.guest_armed;
    shadow_armed = h.shadow_armed;
    guest_shown = h.guest_shown;
    shadow_shown = h.shadow_shown;
  }

  pub wound_owes : (r : State E D) (given : ℕ) (w : DeviceView) (v : DriverView) → r.winding ≡ false
      → owes e d (winding_to r given) w v ≤ owes e d r w v
  wound_owes r given w v off = omega (
    arith,
    side_less (is_shadow r.stage) _ _ _ _
        (shadow_less r.stage (d.begun r.shadow) v.doing w.shown v.shown (d.left r.shadow))
        (guest_less r.stage (e.begun r.guest) w.doing w.shown v.shown (e.left r.guest)),
    ap {B = ℕ} (λ (y : Bool). if is_shadow r.stage then shadow_owes y r.stage (d.begun r.shadow) v.doing w.shown v.shown (d.left r.shadow)
        else guest_owes y r.stage (e.begun r.guest) w.doing w.shown v.shown (e.left r.guest)) off,
  )

  pub pace_to : (c : Counts) (i j : ℕ) → i ≤ j → KeepsPace c j → KeepsPace c i
  pace_to c i j less pace = λ a b q. omega (arith, less, pace a b q)

  pub wound_holds : (z : Course) (r : State E D) (c : Counts) (given : ℕ) (w : DeviceView) (v : DriverView) → r.winding ≡ false
      → (is_hearing r.stage ≡ true → e.begun r.guest ≡ DeviceOp.idle → d.begun r.shadow ≡ DriverOp.idle → ⊥) → Holds e d z r c w v
      → Holds e d z (winding_to r given) c w v
  wound_holds z r c given w v off leaves h = record {
    stands = wound z r given w v off h.stands;
    pace = pace_to c (owes e d (winding_to r given) w v) (owes e d r w v) (wound_owes r given w v off) h.pace;
    hears_guest = h.hears_guest;
    hears_shadow = h.hears_shadow;
    leaves = λ on. leaves;
  }

  hearing_calm : (st : Stage) → is_hearing st ≡ true → Rattle.vd_relay.proofs.Calm.is_calm st ≡ true
  hearing_calm stage.HearingGuest i = refl
  hearing_calm stage.HearingShadow i = refl
  hearing_calm stage.Taking i = absurd (cc i)
  hearing_calm (stage.Offering n h) i = absurd (cc i)
  hearing_calm (stage.Collecting n) i = absurd (cc i)
  hearing_calm stage.Giving i = absurd (cc i)
  hearing_calm stage.ArmingGuest i = absurd (cc i)
  hearing_calm stage.ArmingShadow i = absurd (cc i)
  hearing_calm stage.DisarmingGuest i = absurd (cc i)
  hearing_calm stage.DisarmingShadow i = absurd (cc i)
  hearing_calm stage.Resting i = absurd (cc i)
  hearing_calm stage.Rested i = absurd (cc i)

  hearing_owes : (st : Stage) (g s : Bool) → is_hearing st ≡ true → idle_owes false st g s ≡ 7
  hearing_owes stage.HearingGuest g s i = refl
  hearing_owes stage.HearingShadow g s i = refl
  hearing_owes stage.Taking g s i = absurd (cc i)
  hearing_owes (stage.Offering n h) g s i = absurd (cc i)
  hearing_owes (stage.Collecting n) g s i = absurd (cc i)
  hearing_owes stage.Giving g s i = absurd (cc i)
  hearing_owes stage.ArmingGuest g s i = absurd (cc i)
  hearing_owes stage.ArmingShadow g s i = absurd (cc i)
  hearing_owes stage.DisarmingGuest g s i = absurd (cc i)
  hearing_owes stage.DisarmingShadow g s i = absurd (cc i)
  hearing_owes stage.Resting g s i = absurd (cc i)
  hearing_owes stage.Rested g s i = absurd (cc i)

  -- a sleeper is roused
  pub wound_awake : (z : Course) (r : State E D) (c : Counts) (given : ℕ) (st : Stage) (w : DeviceView) (v : DriverView) → r.winding ≡ false
      → is_hearing r.stage ≡ true → e.begun r.guest ≡ DeviceOp.idle → d.begun r.shadow ≡ DriverOp.idle
      → IsRoused e d (winding_to r given) w v st → Holds e d z r c w v → Holds e d z (at_stage (winding_to r given) st) c w v
  wound_awake z r c given st w v off hears gi si a h =
      let u = winding_to r given in
      let calm = hearing_calm r.stage hears in
      let f = freed e d law ldr z u w v (wound z r given w v off h.stands) calm gi si in
      let f0 = freed e d law ldr z r w v h.stands calm gi si in
      record {
        stands = stands_roused e d law ldr z u w v st f a;
        pace = pace_to c (owes e d (at_stage u st) w v) (owes e d r w v) (omega (
          arith,
          owes_idle e d law ldr z u w v st f,
          owes_idle e d law ldr z r w v r.stage f0,
          ap (λ (x : Stage). idle_owes true x w.shown v.shown) a.is,
          winding_small (e.armed r.guest) (d.armed r.shadow) a.finished w.shown v.shown,
          ap (λ y. idle_owes y r.stage w.shown v.shown) off,
          hearing_owes r.stage w.shown v.shown hears,
        )) h.pace;
        hears_guest = h.hears_guest;
        hears_shadow = h.hears_shadow;
        leaves = λ on at. absurd (roused_deaf (e.armed r.guest) (d.armed r.shadow) true a.finished (sym (ap is_hearing a.is) ∙ at));
      }

  -- ---- the end

  rested_at : (st : Stage) → is_rested st ≡ true → st ≡ stage.Rested
  rested_at stage.Rested i = refl
  rested_at stage.HearingGuest i = absurd (cc i)
  rested_at stage.HearingShadow i = absurd (cc i)
  rested_at stage.Taking i = absurd (cc i)
  rested_at (stage.Offering n h) i = absurd (cc i)
  rested_at (stage.Collecting n) i = absurd (cc i)
  rested_at stage.Giving i = absurd (cc i)
  rested_at stage.ArmingGuest i = absurd (cc i)
  rested_at stage.ArmingShadow i = absurd (cc i)
  rested_at stage.DisarmingGuest i = absurd (cc i)
  rested_at stage.DisarmingShadow i = absurd (cc i)
  rested_at stage.Resting i = absurd (cc i)

  pub handed_back : (z : Course) (r : State E D) (w : DeviceView) (v : DriverView) → is_rested r.stage ≡ true → Stands e d z r w v
      → HandsBack e d z r.guest r.shadow r.target w v
  handed_back z r w v rests h =
      let is = rested_at r.stage rests in
      let u : Stands e d z (at_stage r stage.Rested) w v = subst (λ (x : Stage). Stands e d z (at_stage r x) w v) is h in
      let idle = Rattle.vd_relay.proofs.Ops.guest_rested (e.begun r.guest) u.guest in
      let back : u.back ≡ [] = subst (λ o. BackIs o u.back) idle u.to_give in
      let same : gives w.done ≡ gives u.acts = ap gives u.before in
      record {
        serves = u.serves;
        drives = u.drives;
        rests = u.rests;
        given = same ∙ u.tied.gives ∙ ap (λ (us : List Used). z.gives ++ us) (sym (append-nil u.tied.got)
            ∙ ap (λ (us : List Used). u.tied.got ++ us) (sym back) ∙ sym u.tied.given);
        collected = u.ends.1;
      }
