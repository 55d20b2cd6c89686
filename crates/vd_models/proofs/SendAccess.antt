-- When an access of a command or ack word is next, and what it leaves of a model guest.
use Rattle.std.proofs.Common.{◌≡◌, ◌≢◌, ◌==◌, ◌%◌, ℕ, ◌+◌, ◌*◌, ◌<◌, ◌≤◌, Bool, true, false, Option, Some, None, List, [], ◌∷◌, ◌++◌, length, map, slice_get, if◌then◌else◌, refl, sym, ◌∙◌, ap, subst, arith, rules}
use Rattle.std.specs.Option.{option_map}
use Rattle.std.proofs.lemmas.List.{length-map}
use Rattle.std.proofs.lemmas.List.Sums.{sum_by-cons}
use Rattle.std.proofs.lemmas.Option.{slice_get_within, get_or_from_slice_get, slice_get-map}
use Rattle.arrayvec.specs.ArrayVec.{ArrayVec}
use Rattle.vd_model.specs.declared.chain.Piece.{Piece}
use Rattle.vd_model.specs.declared.features.Features.{Features}
use Rattle.vd_model.specs.declared.record.Return.{Return}
use Rattle.vd_model.specs.declared.record.Script.{Script}
use Rattle.vd_model.specs.Chains.{IsChain, needs, total}
use Rattle.vd_words.specs.declared.access.Access.{Access}
use Rattle.vd_words.specs.declared.access.Access.TheVariants.{Load, Store}
use Rattle.vd_words.specs.declared.access.Op.TheVariants as op
use Rattle.vd_words.specs.Model.{PortModel}
use Rattle.vd_ring.specs.declared.driver.DriverDone.{DriverDone}
use Rattle.vd_ring.specs.declared.driver.DriverNow.TheVariants as now
use Rattle.vd_ring.specs.declared.driver.DriverView.{DriverView}
use Rattle.vd_ring.specs.declared.frame.Frame.{Frame}
use Rattle.vd_ring.specs.Control.{StoresCommand, LoadsAck, IsControlChain}
use Rattle.vd_ring.specs.Frames.{Fits, AreInBounds, limit}
use Rattle.vd_ring.specs.History.{free, head, next_head, offers, open_size}
use Rattle.vd_ring.specs.Places.{Places}
use Rattle.vd_ring.proofs.HeldInside.{head_low}
use Rattle.vd_ring.proofs.HeldPlaces.{borrowed_some}
use Rattle.vd_ring.proofs.Rooms.{room_free}
use Rattle.vd_layout.specs.Begun.{DriverOp}
use Rattle.vd_layout.specs.Control.{ControlWords}
use Rattle.vd_layout.specs.Device.{DeviceModel}
use Rattle.vd_layout.specs.Driver.{DriverModel, HasRoom, IsLawfulDriver, MayOffer}
use Rattle.vd_layout.specs.Layout.{LayoutModel, IsLawfulLayout}
use Rattle.vd_commands.specs.Words.{command_word}
use Rattle.vd_bus.specs.GuestCommands.{commands, control_chain, command_chain, HasCommands, CannotSend, CanSend, IsCommandLength}
use Rattle.vd_models.specs.declared.counts.Turn.TheVariants.{Worked}
use Rattle.vd_models.specs.declared.pending.Pending.{Pending}
use Rattle.vd_models.specs.declared.pending.Pending.TheVariants as hand
use Rattle.vd_models.specs.GuestStages.{collected_stage}
use Rattle.vd_models.specs.Pending.{HandIs, IsInHand}
use Rattle.vd_models.specs.Sent.{HasPlaces, IsReady, chain_is, next_store}
use Rattle.vd_models.specs.declared.driving.GuestStage.TheVariants as stage
use Rattle.vd_models.specs.Driving.{Driven, Drives, DriveOpens, IsDriveTurn, IsSent, command_next, next_of, scripted}
use Rattle.vd_models.specs.Sending.{StoresFirst, StoresSecond, DueIs}
use Rattle.vd_models.specs.laws.Scripted.{next_is_command, scripted_commands}
use Rattle.vd_models.proofs.Offering.{limit_least}
use Rattle.vd_models.proofs.GuestPassing.{put}
use Rattle.vd_models.proofs.SendTurns.{first_at, second_at, acked_at}

same_bytes : (a b : List ℕ) → ◌≡◌ {A = Option (List ℕ)} (Some a) (Some b) → a ≡ b
same_bytes a b e = cc e

-- a script with a next command has commands
pub has_some : (s : Script) (n : ℕ) (bytes : List ℕ) → slice_get (commands s) n ≡ Some bytes → HasCommands s
has_some s n bytes is none = absurd (omega (
  arith,
  slice_get_within (commands s) n bytes is,
  length-map s.commands (λ b. b.items),
  ap length none,
))

-- each has 3 to 10 bytes
pub length_of : (l : LayoutModel) (s : Script) (f : Frame) (n : ℕ) (bytes : List ℕ) → CanSend l s f → slice_get (commands s) n ≡ Some bytes
    → IsCommandLength (length bytes)
length_of l s f n bytes can is = subst (λ (b : List ℕ). IsCommandLength (length b))
    (get_or_from_slice_get (commands s) n bytes [] is) (can.lengths n [] (slice_get_within (commands s) n bytes is))

-- a control chain without its addresses fits where it has room
pub bare_is_chain : (a b n : ℕ) → 8 * a < 18446744073709551616 → 8 * b < 18446744073709551616 → n ≤ 10 → IsChain (control_chain a b n)
bare_is_chain a b n low_a low_b few = search rules

two_total : (a b n : ℕ) → total (control_chain a b n) ≡ n + 1
two_total a b n = omega (
  arith,
  sum_by-cons (λ (p : Piece). p.len) (record { addr = 8 * a; len = n; write = false })
      (record { addr = 8 * b; len = 1; write = true } ∷ []),
  sum_by-cons (λ (p : Piece). p.len) (record { addr = 8 * b; len = 1; write = true }) [],
)

pub chain_fits : (f : Frame) (o : List DriverDone) (a b n : ℕ) → IsChain (control_chain a b n) → n ≤ 10 → f.bounds ≡ None
    → HasRoom f o (control_chain a b n) → Fits f (control_chain a b n)
chain_fits f o a b n is few none room = record {
  chain = is;
  size = omega (arith, room);
  length = omega (arith, few, two_total a b n);
  bounds = subst (λ z. AreInBounds z (control_chain a b n)) (sym none) tt;
}

-- there is a free place
pub some_free : (f : Frame) (o : List DriverDone) (a b n : ℕ) → Places f o → f.bounds ≡ None → n ≤ 10
    → HasRoom f o (control_chain a b n) → 1 ≤ length (free f o)
some_free f o a b n places none few room =
    let bare = control_chain 0 0 n in
    let fits : Fits f bare = chain_fits f o 0 0 n (bare_is_chain 0 0 n (omega arith) (omega arith) few) few none room in
    omega (arith, room_free f o bare places fits room, borrowed_some f bare fits)

module _ {D E : Type 0} (d : DriverModel D) (e : DeviceModel E) (l : LayoutModel) (lay : IsLawfulLayout d e l) (x : Driven D)
    (v : DriverView) (opens : DriveOpens d l x v) where
  law : IsLawfulDriver d
  law = lay.driver_end

  -- what is known of a script with a next command
  sent_by : (n : ℕ) (bytes : List ℕ) → slice_get (commands x.script) n ≡ Some bytes
      → IsSent d.words l x.script x.offered x.returned v.frame v.done
  sent_by n bytes is = opens.drives.sent (has_some x.script n bytes is)

  pub next_length : (n : ℕ) (bytes : List ℕ) → slice_get (commands x.script) n ≡ Some bytes → IsCommandLength (length bytes)
  next_length n bytes is = length_of l x.script v.frame n bytes (sent_by n bytes is).ring is

  pub free_by : (n : ℕ) → (h : IsInHand d.words x.script v.frame v.done n) → 1 ≤ length (free v.frame v.done)
  free_by n h =
      let c = (sent_by (length (offers v.done)) h.bytes h.next).ring in
      some_free v.frame v.done (d.words.command v.frame (next_head v.frame v.done)) (d.words.ack v.frame (next_head v.frame v.done))
      (length h.bytes) (law.places x.end v opens.drives.stands) c.free (next_length (length (offers v.done)) h.bytes h.next).1 h.room

  pub stores_at : (n half place : ℕ) → (h : IsInHand d.words x.script v.frame v.done n) → half < 2
      → place ≡ d.words.command v.frame (next_head v.frame v.done) + half → StoresCommand v.frame (d.words.command v.frame) v.done place
  stores_at n half place h two is = record {
    control = (sent_by (length (offers v.done)) h.bytes h.next).ring.control;
    room = free_by n h;
    half = half;
    two = two;
    place = is;
  }

  pub ready_by : (n : ℕ) → (h : IsInHand d.words x.script v.frame v.done n) → d.begun x.end ≡ DriverOp.idle → IsReady d l x.end v
  ready_by n h idle =
      let c = (sent_by (length (offers v.done)) h.bytes h.next).ring in
      record {
        stands = opens.drives.stands;
        control = c.control;
        sized = c.sized;
        idle = law.at_rest x.end v opens.drives.stands idle;
        some = free_by n h;
      }

  held_as : (h : Pending) → x.hand ≡ h → HandIs d.words x.script x.returned v.frame v.done x.stage (d.begun x.end) h
  held_as h is = subst (λ (z : Pending). HandIs d.words x.script x.returned v.frame v.done x.stage (d.begun x.end) z) is opens.drives.held

  some_place : l.lawful_size v.frame.size ≡ true → 0 < v.frame.size
  some_place sized = omega (arith, (lay.sizes v.frame.size sized).0)

  -- where an ack stands
  pub acks_at : (n k h : ℕ) → x.hand ≡ hand.Ack n k h → HasPlaces d l x.end h v
  acks_at n k h is =
      let y = held_as (hand.Ack n k h) is in
      let c = (opens.drives.sent y.0.some).ring in
      record {
        stands = opens.drives.stands;
        control = c.control;
        sized = c.sized;
        inside = subst (λ (z : ℕ). z < v.frame.size) (sym y.0.is_head) (head_low v.frame v.done n (some_place c.sized));
      }

  -- the access is next
  pub due_next : (h : Pending) (a : Access) → x.hand ≡ h → DueIs d x v h (Some a) → d.side.next v op.Control a
  due_next hand.Free a is due = subst (λ z. d.side.next v op.Control z) (sym due.is) ((law.controls.stores v
      (d.words.command v.frame (next_head v.frame v.done)) (command_word due.held.bytes 0)).1 (
        law.at_rest x.end v opens.drives.stands due.idle,
        stores_at 0 0 (d.words.command v.frame (next_head v.frame v.done)) due.held
            (omega arith) (omega arith),
      ))
  due_next hand.First a is due = subst (λ z. d.side.next v op.Control z) (sym due.is) ((law.controls.stores v
      (d.words.command v.frame (next_head v.frame v.done) + 1) (command_word due.held.bytes 1)).1 (
        law.at_rest x.end v opens.drives.stands (held_as hand.First is).1,
        stores_at 1 1 (d.words.command v.frame (next_head v.frame v.done) + 1) due.held (omega arith) refl,
      ))
  due_next hand.Both a is due = absurd due
  due_next (hand.Ack n k h) a is due =
      let y = held_as (hand.Ack n k h) is in
      let s : LoadsAck v.frame (d.words.ack v.frame) v.done (d.words.ack v.frame h) = record {
        control = (opens.drives.sent y.0.some).ring.control;
        number = n;
        last = y.0.last;
        place = ap (d.words.ack v.frame) y.0.is_head;
      } in
      subst (λ z. d.side.next v op.Control z) (sym due) ((law.controls.loads v (d.words.ack v.frame h)).1
      (law.at_rest x.end v opens.drives.stands y.1, s))

  -- the words of the next head have places of 32 bits
  pub narrow_at : (n half y : ℕ) → (h : IsInHand d.words x.script v.frame v.done n) → half < 2 → d.begun x.end ≡ DriverOp.idle
      → d.words.command v.frame (next_head v.frame v.done) + half < 4294967296
  narrow_at n half y h two idle =
      let place : ℕ = d.words.command v.frame (next_head v.frame v.done) + half in
      let lawful = lay.driver_framed x.end v opens.drives.stands in
      omega (
        arith,
        lay.narrow v.frame lawful,
        lay.driver_low v op.Control (Store place y) lawful ((law.controls.stores v place y).1
            (law.at_rest x.end v opens.drives.stands idle, stores_at n half place h two refl)),
      )

  -- the chain of the next command may be offered
  pub may_send : (c : List Piece) → (h : IsInHand d.words x.script v.frame v.done 2) → IsChain c
      → c ≡ command_chain d.words v.frame (next_head v.frame v.done) h.bytes → MayOffer d.words v c
  may_send c h is same =
      let s = sent_by (length (offers v.done)) h.bytes h.next in
      let few = next_length (length (offers v.done)) h.bytes h.next in
      let a : ℕ = d.words.command v.frame (next_head v.frame v.done) in
      let b : ℕ = d.words.ack v.frame (next_head v.frame v.done) in
      let whole = command_chain d.words v.frame (next_head v.frame v.done) h.bytes in
      subst (λ (z : List Piece). MayOffer d.words v z) (sym same) (record {
        fits = chain_fits v.frame v.done a b (length h.bytes) (subst (λ (z : List Piece). IsChain z) same is) few.1 s.ring.free h.room;
        room = h.room;
        limited = omega (
          arith,
          slice_get_within (commands x.script) (length (offers v.done)) h.bytes h.next,
          length-map x.script.commands (λ b. b.items),
          scripted_commands x.script (has_some x.script (length (offers v.done)) h.bytes h.next),
          opens.drives.few,
          limit_least v.frame,
        );
        control = λ on. record { len = length h.bytes; least = few.0; most = few.1; is = refl };
      })

  pub next_sent : (n : ℕ) → (h : IsInHand d.words x.script v.frame v.done n)
      → next_of d.words x.script x.at v.frame v.done ≡ Some (command_chain d.words v.frame (next_head v.frame v.done) h.bytes)
  next_sent n h = next_is_command d.words x.script x.at v.frame v.done (has_some x.script (length (offers v.done)) h.bytes h.next)
      ∙ ap (option_map (command_chain d.words v.frame (next_head v.frame v.done))) h.next

  -- the next command, as the code has it
  pub bytes_are : (b : ArrayVec ℕ) (bytes : List ℕ) → Some b ≡ slice_get x.script.commands x.offered
      → slice_get (commands x.script) (length (offers v.done)) ≡ Some bytes → b.items ≡ bytes
  bytes_are b bytes is next =
      let at = (sent_by (length (offers v.done)) bytes next).offered in
      same_bytes b.items bytes (ap (option_map (λ z. z.items)) is
      ∙ sym (slice_get-map (λ z. z.items) x.script.commands x.offered)
      ∙ ap (slice_get (commands x.script)) at ∙ next)

  pub next_bytes : (b : ArrayVec ℕ) → Some b ≡ slice_get x.script.commands x.offered
      → slice_get (commands x.script) (length (offers v.done)) ≡ Some b.items
  next_bytes b is =
      let here : slice_get (commands x.script) x.offered ≡ Some b.items =
      slice_get-map (λ z. z.items) x.script.commands x.offered ∙ ap (option_map (λ z. z.items)) (sym is) in
      let at = (sent_by x.offered b.items here).offered in
      ap (slice_get (commands x.script)) (sym at) ∙ here

  -- with both words in hand
  pub held_both : x.hand ≡ hand.Both → IsInHand d.words x.script v.frame v.done 2
  held_both is = (held_as hand.Both is).0.held

  pub chain_both : (is : x.hand ≡ hand.Both) (b : ArrayVec ℕ) (n : ℕ) (c : List Piece) → Some b ≡ slice_get x.script.commands x.offered
      → n ≡ length b.items → chain_is d v n c → c ≡ command_chain d.words v.frame (next_head v.frame v.done) (held_both is).bytes
  chain_both is b n c next len chain =
      let h = held_both is in
      chain ∙ ap (control_chain (d.words.command v.frame (next_head v.frame v.done)) (d.words.ack v.frame (next_head v.frame v.done)))
      (len ∙ ap length (bytes_are b h.bytes next h.next))

  pub begun_both : x.hand ≡ hand.Both → d.begun x.end ≡ DriverOp.idle → IsReady d l x.end v
  begun_both is idle = ready_by 2 (held_both is) idle

  -- with the first word in hand
  pub held_first : x.hand ≡ hand.First → IsInHand d.words x.script v.frame v.done 1
  held_first is = (held_as hand.First is).0.held

  pub begun_first : x.hand ≡ hand.First → IsReady d l x.end v
  begun_first is = ready_by 1 (held_first is) (held_as hand.First is).1

  pub stores_second : (is : x.hand ≡ hand.First) (b : ArrayVec ℕ) (a : Access) → Some b ≡ slice_get x.script.commands x.offered
      → a ≡ next_store d v b.items true → StoresSecond d x v a
  stores_second is b a next at =
      let h = held_first is in
      record { held = h; is = at ∙ ap (λ z. next_store d v z true) (bytes_are b h.bytes next h.next) }

  -- with nothing in hand
  pub held_none : (b : ArrayVec ℕ) → Some b ≡ slice_get x.script.commands x.offered → (n : ℕ) → n ≡ length b.items
      → HasRoom v.frame v.done (control_chain 0 0 n) → IsInHand d.words x.script v.frame v.done 0
  held_none b next n len room = record {
    bytes = b.items;
    next = next_bytes b next;
    room = subst (λ m. HasRoom v.frame v.done (control_chain 0 0 m)) len room;
    stored = λ half low. absurd (omega (arith, low));
  }

  pub stores_first : (b : ArrayVec ℕ) (a : Access) → (next : Some b ≡ slice_get x.script.commands x.offered) (n : ℕ)
      (len : n ≡ length b.items) (room : HasRoom v.frame v.done (control_chain 0 0 n)) → d.begun x.end ≡ DriverOp.idle
      → x.stage ≡ stage.Offering → a ≡ next_store d v b.items false → StoresFirst d x v a
  stores_first b a next n len room idle offering at = record {
    idle = idle;
    stage = offering;
    held = record {
      bytes = b.items;
      next = next_bytes b next;
      room = subst (λ m. HasRoom v.frame v.done (control_chain 0 0 m)) len room;
      stored = λ half low. absurd (omega (arith, low));
    };
    is = at;
  }

  -- no command is left, or it has no room
  pub cannot_none : None ≡ slice_get x.script.commands x.offered → CannotSend d.words x.script v.frame v.done
  cannot_none is bytes next room =
      let at = (sent_by (length (offers v.done)) bytes next).offered in
      let none : slice_get (commands x.script) (length (offers v.done)) ≡ None = ap (slice_get (commands x.script)) (sym at)
      ∙ slice_get-map (λ z. z.items) x.script.commands x.offered ∙ ap (option_map (λ z. z.items)) (sym is) in
      absurd (cc (none, next))

  pub cannot_room : (b : ArrayVec ℕ) → Some b ≡ slice_get x.script.commands x.offered → (n : ℕ) → n ≡ length b.items
      → (HasRoom v.frame v.done (control_chain 0 0 n) → ⊥) → CannotSend d.words x.script v.frame v.done
  cannot_room b is n len full bytes next room =
      full (subst (λ m. HasRoom v.frame v.done (control_chain 0 0 m)) (sym (len ∙ ap length (bytes_are b bytes is next))) room)

-- ---- the turns

on_access : {P : Type 0} (port : PortModel P) {p q : P} (a b : Access) (r : ℕ) → port.moves p op.Control a r q → a ≡ b
    → port.moves p op.Control b r q
on_access port {p} {q} a b r moved is = subst (λ z. port.moves p op.Control z r q) is moved

module _ {P D E : Type 0} {port : PortModel P} (d : DriverModel D) (e : DeviceModel E) (l : LayoutModel) (lay : IsLawfulLayout d e l)
    (x : Driven D) {p q : P} (v : DriverView) (opens : DriveOpens d l x v) (a : Access) (r : ℕ)
    (moved : port.moves p op.Control a r q) where
  pub first_turn : x.hand ≡ hand.Free → StoresFirst d x v a
      → IsDriveTurn port d l p q v x (put x.end x.script x.at x.offered x.returned x.stage hand.First) Worked
  first_turn free s =
      let place : ℕ = d.words.command v.frame (next_head v.frame v.done) in
      let word : ℕ = command_word s.held.bytes 0 in
      let t : StoresCommand v.frame (d.words.command v.frame) v.done place = record {
        control = (sent_by d e l lay x v opens (length (offers v.done)) s.held.bytes s.held.next).ring.control;
        room = free_by d e l lay x v opens 0 s.held;
        half = 0;
        two = omega arith;
        place = omega arith;
      } in
      first_at lay.driver_end x opens word r place s.idle s.stage free
      (has_some x.script (length (offers v.done)) s.held.bytes s.held.next) s.held refl t refl
      (on_access port a (Store place word) r moved s.is)

  pub second_turn : x.hand ≡ hand.First → StoresSecond d x v a
      → IsDriveTurn port d l p q v x (put x.end x.script x.at x.offered x.returned x.stage hand.Both) Worked
  second_turn first s =
      let place : ℕ = d.words.command v.frame (next_head v.frame v.done) + 1 in
      let word : ℕ = command_word s.held.bytes 1 in
      let t : StoresCommand v.frame (d.words.command v.frame) v.done place = record {
        control = (sent_by d e l lay x v opens (length (offers v.done)) s.held.bytes s.held.next).ring.control;
        room = free_by d e l lay x v opens 1 s.held;
        half = 1;
        two = omega arith;
        place = refl;
      } in
      second_at lay.driver_end x opens word r place first s.held refl t refl (on_access port a (Store place word) r moved s.is)

  pub acked_turn : (n k h : ℕ) (t : Bool) → x.hand ≡ hand.Ack n k h → a ≡ Load (d.words.ack v.frame h) → (rs' : List Return)
      → rs' ≡ x.returned ++ record { number = n; len = k; ack = r % 256 } ∷ [] → t ≡ (length rs' == scripted x.script)
      → IsDriveTurn port d l p q v x (put x.end x.script x.at x.offered rs' (collected_stage t x.stage) hand.Free) Worked
  acked_turn n k h t ack is rs' back all = acked_at lay.driver_end x opens n k h r (d.words.ack v.frame h) t ack refl rs' back all
      (on_access port a (Load (d.words.ack v.frame h)) r moved is)
