-- What a load of a command word and a store of an ack word come to.
use Rattle.std.proofs.Common.{◌≡◌, ◌≢◌, ◌↔◌, ℕ, ◌+◌, ◌-◌, ◌*◌, ◌<◌, ◌≤◌, Bool, true, false, List, [], ◌∷◌, ◌++◌, length, map, slice_set, refl, sym, ◌∙◌, ap, subst, arith, inl, inr}
use Rattle.std.specs.List.{Contains}
use mathlib.Core.List.{IsPrefix}
use Rattle.std.proofs.lemmas.List.{map_push, append-nil, length_push}
use Rattle.vd_model.specs.declared.chain.Piece.{Piece}
use Rattle.vd_model.specs.declared.record.Begun.{Begun}
use Rattle.vd_words.specs.declared.access.Access.{Access}
use Rattle.vd_words.specs.declared.access.Access.TheVariants.{Load, Store}
use Rattle.vd_words.specs.declared.access.Op.{Op}
use Rattle.vd_words.specs.declared.access.Op.TheVariants.{Control}
use Rattle.vd_words.specs.Model.{PortModel}
use Rattle.vd_ring.specs.declared.act.DeviceAct.TheVariants as act
use Rattle.vd_ring.specs.declared.device.DeviceDone.{DeviceDone}
use Rattle.vd_ring.specs.declared.device.DeviceDone.TheVariants.{StoreAck, LoadCommand}
use Rattle.vd_ring.specs.declared.device.DeviceNow.TheVariants as now
use Rattle.vd_ring.specs.declared.device.DeviceView.{DeviceView}
use Rattle.vd_ring.specs.declared.frame.Frame.{Frame}
use Rattle.vd_ring.specs.Control.{IsControlChain, LoadsCommand, StoresAck}
use Rattle.vd_ring.specs.History.{takes, gives, running, taken_head}
use Rattle.vd_layout.specs.Begun.{DeviceOp}
use Rattle.vd_layout.specs.Device.{DeviceModel, IsLawfulDevice}
use Rattle.vd_layout.specs.Driver.{DriverModel}
use Rattle.vd_layout.specs.Layout.{LayoutModel, IsLawfulLayout}
use Rattle.vd_commands.specs.Words.{ack_byte}
use Rattle.vd_bus.specs.Entries.{Reserved}
use Rattle.vd_models.specs.declared.counts.Turn.TheVariants.{Worked, Slept}
use Rattle.vd_models.specs.declared.hand.Hand.{Hand}
use Rattle.vd_models.specs.declared.hand.Hand.TheVariants.{Free, Taken, Loaded, Executed}
use Rattle.vd_models.specs.declared.serving.Session.{Session}
use Rattle.vd_models.specs.declared.serving.Stage.{Stage}
use Rattle.vd_models.specs.declared.serving.Stage.TheVariants as stage
use Rattle.vd_models.specs.Commanding.{seen_begun, seen_state, HandAt, Commands, OpensCommands, command_owes, IsCommandTurn}
use Rattle.vd_models.specs.Hands.{plain, waiting, seen, Executes, HandIs, IsNew, IsOwed, IsCommandChain, command_place, ack_place, executed_of, next_number}
use Rattle.vd_models.specs.Holding.{begun_of, given_len}
use Rattle.vd_models.specs.Serving.{Serves, owes_at}
use Rattle.vd_models.specs.Stages.{idle_owes, owes, is_done}
use Rattle.vd_models.proofs.Controlling.{IsQuiet, serves_roomy, serves_same}
use Rattle.vd_models.proofs.Executing.{control_command, control_ack, control_given_len, executes_loaded, executes_second, executes_stored}
use Rattle.vd_models.proofs.Lists.{prefix_same, prefix_push}
use Rattle.vd_models.proofs.Turns.{not_woken, no_sleep}

-- where the session is while a command is in hand
busy : (hand : Hand) (st : Stage) (b : DeviceOp) → HandAt hand st b → (hand ≡ Free → ⊥) → (st ≡ stage.Giving) × (b ≡ DeviceOp.idle)
busy Free st b h some = absurd (some refl)
busy (Taken c) st b h some = h
busy (Loaded c x) st b h some = h
busy (Executed p a) st b h some = h

giving_owes : {E : Type 0} (e : DeviceModel E) (s : Session E) (hand : Hand) (begun : Reserved Begun) (w : DeviceView)
    → s.stage ≡ stage.Giving → e.begun s.end ≡ DeviceOp.idle → owes_at e (seen_state s hand begun) w ≡ 5
giving_owes e s hand begun w st idle = ap (λ z. owes z (e.begun s.end) w.doing w.shown (e.left s.end)) st
    ∙ ap (λ o. owes stage.Giving o w.doing w.shown (e.left s.end)) idle

module _ {E : Type 0} {e : DeviceModel E} (law : IsLawfulDevice e) (from : Session E) {w : DeviceView} where
  -- the chain in hand runs, at a head of the ring
  abbrev loads_next : (hand : Hand) (begun : Reserved Begun) (c : List Piece) (k half : ℕ) → OpensCommands e from hand begun w
      → IsNew e.words w.frame c k w.done → half < 2 → LoadsCommand w.frame (e.words.command w.frame) w.done (command_place c + half)
  loads_next hand begun c k half opens new two =
      let runs : Contains (running w.done) k = subst (λ ks. Contains ks k) (sym new.runs) (0, omega arith, refl) in
      record {
        control = opens.commands.control;
        number = k;
        runs = runs;
        inside = (law.runs from.end w opens.commands.serves.stands).inside k runs;
        half = half;
        two = two;
        place = ap (λ n. n + half) (control_command _ _ c new.chain);
      }

  resting : (hand : Hand) (begun : Reserved Begun) → OpensCommands e from hand begun w → (hand ≡ Free → ⊥) → w.doing ≡ now.Idle
  resting hand begun opens some = law.at_rest from.end w opens.commands.serves.stands
      (busy hand from.stage (e.begun from.end) opens.commands.at some).1

  pub first_next : (begun : Reserved Begun) (c : List Piece) → OpensCommands e from (Taken c) begun w
      → e.side.next w Control (Load (command_place c))
  first_next begun c opens = (law.controls.loads w (command_place c)).1 (
    resting (Taken c) begun opens (λ z. cc z),
    subst (λ j. LoadsCommand w.frame (e.words.command w.frame) w.done j) (omega arith)
        (loads_next (Taken c) begun c (next_number begun.items from.by) 0 opens opens.commands.executes.in_hand.0 (omega arith)),
  )

  pub second_next : (begun : Reserved Begun) (c : List Piece) (x : ℕ) → OpensCommands e from (Loaded c x) begun w
      → e.side.next w Control (Load (command_place c + 1))
  second_next begun c x opens = (law.controls.loads w (command_place c + 1)).1 (
    resting (Loaded c x) begun opens (λ z. cc z),
    loads_next (Loaded c x) begun c (next_number begun.items from.by) 1 opens opens.commands.executes.in_hand.0 (omega arith),
  )

  abbrev owed_stores : (begun : Reserved Begun) (place ack : ℕ) → OpensCommands e from (Executed place ack) begun w
      → StoresAck w.frame (e.words.ack w.frame) w.done place
  owed_stores begun place ack opens =
      let o = opens.commands.executes.in_hand in
      let runs : Contains (running w.done) o.number = subst (λ ks. Contains ks o.number) (sym o.runs) (0, omega arith, refl) in
      record {
        control = opens.commands.control;
        number = o.number;
        runs = runs;
        inside = (law.runs from.end w opens.commands.serves.stands).inside o.number runs;
        place = o.place;
      }

  pub ack_next : (begun : Reserved Begun) (place ack : ℕ) → OpensCommands e from (Executed place ack) begun w
      → e.side.next w Control (Store place ack)
  ack_next begun place ack opens = (law.controls.stores w place ack).1 (
    resting (Executed place ack) begun opens (λ z. cc z),
    owed_stores begun place ack opens,
  )

  load_after : (hand : Hand) (begun : Reserved Begun) (c : List Piece) (k half got : ℕ) (opens : OpensCommands e from hand begun w)
      → (hand ≡ Free → ⊥) → IsNew e.words w.frame c k w.done → (two : half < 2)
      → e.side.after w Control (Load (command_place c + half)) got ≡ record w { done = LoadCommand k half got ∷ w.done }
  load_after hand begun c k half got opens some new two =
      let n = loads_next hand begun c k half opens new two in
      law.controls.loaded w (command_place c + half) got (resting hand begun opens some) n
      ((law.runs from.end w opens.commands.serves.stands).apart k n.runs)

module _ {P E : Type 0} {port : PortModel P} {e : DeviceModel E} (law : IsLawfulDevice e)
    (from : Session E) {p q : P} {w : DeviceView} where
  -- a control access of the holder, after which the end is as it was
  controlled : (hand hand' : Hand) (begun begun' : Reserved Begun) → OpensCommands e from hand begun w → (hand ≡ Free → ⊥)
      → (a : Access) (got : ℕ) (d : DeviceDone) → e.side.next w Control a → port.moves p Control a got q
      → (e.side.after w Control a got).done ≡ d ∷ w.done → (e.side.after w Control a got).armed ≡ w.armed
      → IsQuiet w.done (d ∷ w.done)
      → seen begun'.items hand' ≡ seen begun.items hand
      → begun.room - length (waiting hand) ≤ begun'.room - length (waiting hand')
      → Executes e.words w.frame hand' from.by begun'.items (d ∷ w.done)
      → HandAt hand' from.stage (e.begun from.end) → length (waiting hand') ≤ begun'.room
      → IsPrefix begun.items begun'.items → begun.room + length begun.items ≤ begun'.room + length begun'.items
      → (owed : owes_at e (seen_state from hand' begun') (e.side.after w Control a got) ≡ 5
      → command_owes e from hand' begun' (e.side.after w Control a got) + 1 + 64 * length begun.items
      ≤ command_owes e from hand begun w + 64 * length begun'.items)
      → IsCommandTurn port e p q w from from hand hand' begun begun' Worked
  controlled hand hand' begun begun' opens some a got d next moved done armed quiet same room executes at roomy grows rooms paid =
      let w' : DeviceView = e.side.after w Control a got in
      let v = opens.commands.serves in
      let b = busy hand from.stage (e.begun from.end) opens.commands.at some in
      let framed : w'.frame ≡ w.frame = law.framed w Control a got in
      let quiet' : IsQuiet w.done w'.done = subst (λ (z : List DeviceDone). IsQuiet w.done z) (sym done) quiet in
      let is : e.act w Control a got ≡ act.Moved = law.control_moves w a got next in
      record {
        op = Control;
        access = a;
        got = got;
        was_next = next;
        moved = moved;
        commands = record {
          serves = serves_same e (seen_state from hand' begun') w w' b.0 b.1
              (law.control from.end w a got v.stands next) framed armed quiet'
              (serves_roomy e (seen_state from hand begun) (seen_begun begun' hand') w same room v);
          control = ap (λ (f : Frame). f.control) framed ∙ opens.commands.control;
          alone = opens.commands.alone;
          executes = subst (λ (f : Frame). Executes e.words f hand' from.by begun'.items w'.done) (sym framed)
              (subst (λ (z : List DeviceDone). Executes e.words w.frame hand' from.by begun'.items z) (sym done) executes);
          at = at;
          room = roomy;
        };
        grows = record {
          takes = prefix_same (takes w.done) (takes w'.done) quiet'.takes;
          gives = prefix_same (gives w.done) (gives w'.done) quiet'.gives;
        };
        acts = inr (d, done);
        begun = grows;
        room = rooms;
        capacity = refl;
        looked = subst (λ z. (Worked ≡ Slept) ↔ (z ≡ act.Asleep)) (sym is) (no_sleep act.Moved (λ z. cc z));
        slept = λ z. absurd (cc z);
        woken = not_woken Control act.Moved (λ z. cc z) ∙ ap (Rattle.vd_ring.specs.Sleep.device_woken Control) (sym is);
        rested = λ z. absurd (cc (is, z));
        paid = omega (arith, paid (giving_owes e from hand' begun' w' b.0 b.1), ap length quiet'.gives);
      }

  pub first_loaded : (begun : Reserved Begun) (c : List Piece) (got : ℕ) → (opens : OpensCommands e from (Taken c) begun w)
      → port.moves p Control (Load (command_place c)) got q
      → IsCommandTurn port e p q w from from (Taken c) (Loaded c got) begun begun Worked
  first_loaded begun c got opens moved =
      let new = opens.commands.executes.in_hand.0 in
      let k : ℕ = next_number begun.items from.by in
      let zero : command_place c + 0 ≡ command_place c = omega arith in
      let is : e.side.after w Control (Load (command_place c)) got ≡ record w { done = LoadCommand k 0 got ∷ w.done } =
      subst (λ j. e.side.after w Control (Load j) got ≡ record w { done = LoadCommand k 0 got ∷ w.done }) zero
      (load_after law from (Taken c) begun c k 0 got opens (λ z. cc z) new (omega arith)) in
      controlled (Taken c) (Loaded c got) begun begun opens (λ z. cc z) (Load (command_place c)) got (LoadCommand k 0 got)
      (first_next law from begun c opens) moved (ap (λ (z : DeviceView). z.done) is) (ap (λ (z : DeviceView). z.armed) is)
      record { takes = refl; gives = refl; running = refl } refl (omega arith)
      (executes_loaded e.words w.frame from.by begun.items w.done c got opens.commands.executes) opens.commands.at opens.commands.room
      (prefix_same begun.items begun.items refl) (omega arith) (λ owed. omega arith)

  pub second_loaded : (begun begun' : Reserved Begun) (c : List Piece) (first got : ℕ)
      → (opens : OpensCommands e from (Loaded c first) begun w) → port.moves p Control (Load (command_place c + 1)) got q
      → begun'.items ≡ begun.items ++ executed_of c first got ∷ [] → begun.room ≤ begun'.room + 1
      → IsCommandTurn port e p q w from from (Loaded c first)
      (Executed (ack_place c) (ack_byte (executed_of c first got).bytes.items)) begun begun' Worked
  second_loaded begun begun' c first got opens moved is_begun room =
      let new = opens.commands.executes.in_hand.0 in
      let k : ℕ = next_number begun.items from.by in
      let x : Begun = executed_of c first got in
      let hand' : Hand = Executed (ack_place c) (ack_byte x.bytes.items) in
      let is = load_after law from (Loaded c first) begun c k 1 got opens (λ z. cc z) new (omega arith) in
      let one : plain x ≡ begun_of c = ap (λ n. record { chain = c; len = n; bytes = record { items = [] } })
      (sym (control_given_len _ _ c new.chain)) in
      let same : seen begun'.items hand' ≡ seen begun.items (Loaded c first) = append-nil (map plain begun'.items) ∙ ap (map plain) is_begun
      ∙ map_push plain begun.items x ∙ ap (λ (z : Begun). map plain begun.items ++ z ∷ []) one in
      controlled (Loaded c first) hand' begun begun' opens (λ z. cc z) (Load (command_place c + 1)) got (LoadCommand k 1 got)
      (second_next law from begun c first opens) moved (ap (λ (z : DeviceView). z.done) is) (ap (λ (z : DeviceView). z.armed) is)
      record { takes = refl; gives = refl; running = refl } same (omega (arith, room))
      (subst (λ (bs : List Begun). Executes e.words w.frame hand' from.by bs (LoadCommand k 1 got ∷ w.done)) (sym is_begun)
      (executes_second e.words w.frame from.by begun.items w.done c first got opens.commands.executes)) opens.commands.at (omega arith)
      (prefix_push begun.items begun'.items x is_begun) (omega (arith, room, ap length is_begun, length_push begun.items x))
      (λ owed. omega (arith, ap length is_begun, length_push begun.items x))

  pub ack_stored : (begun : Reserved Begun) (place ack got : ℕ) → (opens : OpensCommands e from (Executed place ack) begun w)
      → port.moves p Control (Store place ack) got q
      → IsCommandTurn port e p q w from from (Executed place ack) Free begun begun Worked
  ack_stored begun place ack got opens moved =
      let o = opens.commands.executes.in_hand in
      let d : DeviceDone = StoreAck (taken_head w.done o.number) ack in
      let is = law.controls.stored w place ack got (resting law from (Executed place ack) begun opens (λ z. cc z))
      (owed_stores law from begun place ack opens) in
      controlled (Executed place ack) Free begun begun opens (λ z. cc z) (Store place ack) got d
      (ack_next law from begun place ack opens) moved (ap (λ (z : DeviceView). z.done) is) (ap (λ (z : DeviceView). z.armed) is)
      record { takes = refl; gives = refl; running = refl } refl (omega arith)
      (executes_stored e.words w.frame from.by begun.items w.done place ack opens.commands.executes) tt (omega arith)
      (prefix_same begun.items begun.items refl) (omega arith) (λ owed. omega (arith, owed))

-- the words of a chain in hand have places of 32 bits
pub is_command_chain : {D E : Type 0} (d : DriverModel D) (e : DeviceModel E) (l : LayoutModel) (law : IsLawfulLayout d e l) (end : E)
    (w : DeviceView) (c : List Piece) (k : ℕ) → e.stands end w → w.doing ≡ now.Idle → w.frame.control ≡ true
    → IsNew e.words w.frame c k w.done → IsCommandChain c
is_command_chain d e l law end w c k stands idle control new =
    let runs : Contains (running w.done) k = subst (λ ks. Contains ks k) (sym new.runs) (0, omega arith, refl) in
    let inside = (law.device_end.runs end w stands).inside k runs in
    let command : ℕ = e.words.command w.frame (taken_head w.done k) in
    let ack : ℕ = e.words.ack w.frame (taken_head w.done k) in
    let lawful = law.device_framed end w stands in
    let narrow = law.narrow w.frame lawful in
    record {
      command = command;
      ack = ack;
      is = new.chain;
      low = (
        omega (
          arith,
          narrow,
          law.device_low w Control (Load (command + 1)) lawful ((law.device_end.controls.loads w (command + 1)).1 (
            idle,
            record { control = control; number = k; runs = runs; inside = inside; half = 1; two = omega arith; place = refl },
          )),
        ),
        omega (
          arith,
          narrow,
          law.device_low w Control (Store ack 0) lawful ((law.device_end.controls.stores w ack 0).1 (
            idle,
            record { control = control; number = k; runs = runs; inside = inside; place = refl },
          )),
        ),
      );
    }

pub taken_command_chain : {D E : Type 0} (d : DriverModel D) (e : DeviceModel E) (l : LayoutModel) (law : IsLawfulLayout d e l)
    (s : Session E) (begun : Reserved Begun) (w : DeviceView) (c : List Piece) → OpensCommands e s (Taken c) begun w → IsCommandChain c
taken_command_chain d e l law s begun w c o = is_command_chain d e l law s.end w c (next_number begun.items s.by) o.commands.serves.stands
    (law.device_end.at_rest s.end w o.commands.serves.stands o.commands.at.1) o.commands.control o.commands.executes.in_hand.0

pub loaded_command_chain : {D E : Type 0} (d : DriverModel D) (e : DeviceModel E) (l : LayoutModel) (law : IsLawfulLayout d e l)
    (s : Session E) (begun : Reserved Begun) (w : DeviceView) (c : List Piece) (x : ℕ) → OpensCommands e s (Loaded c x) begun w
    → IsCommandChain c
loaded_command_chain d e l law s begun w c x o = is_command_chain d e l law s.end w c (next_number begun.items s.by)
    o.commands.serves.stands (law.device_end.at_rest s.end w o.commands.serves.stands o.commands.at.1) o.commands.control
    o.commands.executes.in_hand.0
