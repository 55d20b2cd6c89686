-- What the turns of guest, relay and device keep of a lane in a shadow epoch.
use Rattle.std.proofs.Common.{◌≡◌, ℕ, ◌≤◌, false, Some, List, length, map, take, sym, ◌∙◌, ap, arith}
use Rattle.std.proofs.lemmas.Bool.{false≢true}
use Rattle.std.proofs.lemmas.List.{take-map, take-append-le}
use mathlib.Core.List.{IsPrefix}
use Rattle.vd_model.specs.declared.record.Begun.{Begun}
use Rattle.vd_words.specs.Plain.{RingWords}
use Rattle.vd_ring.specs.declared.driver.DriverView.{DriverView}
use Rattle.vd_ring.specs.declared.device.DeviceView.{DeviceView}
use Rattle.vd_bus.specs.declared.device.Attached.{Attached}
use Rattle.vd_bus.specs.Device.{IsServing, chains_of, lens_of}
use Rattle.vd_bus.specs.Orders.{IsData}
use Rattle.vd_relay.specs.declared.counts.Counts.{Counts}
use Rattle.vd_relay.specs.declared.state.State.{State}
use Rattle.vd_machine.specs.File.{Plan}
use Rattle.vd_play.specs.Before.{begun_at}
use Rattle.vd_play.specs.Setting.{Setting, IsLawful}
use Rattle.vd_play.specs.Shadowed.{IsRelayed}
use Rattle.vd_turns.specs.RelayTurns.{RelayRun}
use Rattle.vd_turns.specs.Turns.{GuestRun, DeviceRun}
use Rattle.vd_play.proofs.Keep.{driven_guest, driven_device}
use Rattle.vd_play.proofs.Lists.{begun_joined, length_le}

-- the first ones of a list that has grown
front_same : (n : ℕ) (bs bs' : List Begun) → IsPrefix bs bs' → n ≤ length bs → take n bs' ≡ take n bs
front_same n bs bs' p le = ap (λ zs. take n zs) (sym p.1) ∙ take-append-le n bs p.0 le

pub chains_front : (n : ℕ) (bs bs' : List Begun) → IsPrefix bs bs' → n ≤ length bs
    → chains_of (take n bs') ≡ chains_of (take n bs)
chains_front n bs bs' p le = ap chains_of (front_same n bs bs' p le)

pub lens_front : (n : ℕ) (bs bs' : List Begun) → IsPrefix bs bs' → n ≤ length bs → take n (lens_of bs') ≡ take n (lens_of bs)
lens_front n bs bs' p le =
    let f : Begun → ℕ = λ b. b.len in
    take-map f n bs' ∙ ap (λ zs. map f zs) (front_same n bs bs' p le) ∙ sym (take-map f n bs)

module _ {D E G X C : Type 0} (s : Setting D E G X C) (law : IsLawful s) (plan : Plan) (q k made : ℕ) where
  abbrev pub keeps_guest : (words words' : RingWords) (shadow_words : List ℕ) (r : State E D) (c : Counts) (guest guest' : G) (device : X)
      (by : Attached) (v : DriverView) (w : DeviceView) (sv : DriverView) (sw : DeviceView) → words'.ring ≡ words.ring
      → IsRelayed s plan q k words shadow_words r c guest device by v w sv sw
      → (t : GuestRun s.layout s.guest words'.words v w guest guest' made)
      → IsRelayed s plan q k words' shadow_words r c guest' device by t.view w sv sw
  keeps_guest words words' shadow_words r c guest guest' device by v w sv sw same p t = record {
    epoch = p.epoch;
    mode = p.mode;
    driven = driven_guest s law plan q made words words' guest guest' v w same p.driven t;
    account = p.account;
    reserved = p.reserved;
    framed = p.framed;
    start = p.start;
    old = p.old;
    lane = record {
      ring = t.ring;
      shadow_ring = p.lane.shadow_ring;
      relays = p.lane.relays;
      serves = p.lane.serves;
      from = p.lane.from;
      winds = p.lane.winds;
      before = p.lane.before;
      undone = p.lane.undone;
    };
    holds = p.holds;
    moves = p.moves;
    took_over = p.took_over;
    lens = p.lens;
    to = p.to;
  }

  pub keeps_relay : (words words' : RingWords) (shadow_words shadow_words' : List ℕ) (r r' : State E D) (c c' : Counts) (guest : G)
      (device : X) (by : Attached) (v : DriverView) (w : DeviceView) (sv : DriverView) (sw : DeviceView) → words'.ring ≡ words.ring
      → (p : IsRelayed s plan q k words shadow_words r c guest device by v w sv sw)
      → (u : RelayRun s.layout s.device s.driver p.start p.old (s.party.begun device) by words'.words shadow_words' v w sv sw r r' c c'
      made)
      → IsRelayed s plan q k words' shadow_words' r' c' guest device by v u.view u.shadow_view sw
  keeps_relay words words' shadow_words shadow_words' r r' c c' guest device by v w sv sw same p u = record {
    epoch = p.epoch;
    mode = p.mode;
    driven = driven_device s law plan q words words' guest v w u.view same u.lane.ring p.driven;
    account = p.account;
    reserved = p.reserved;
    framed = sym (law.layout.wide shadow_words' u.shadow_view sw u.lane.shadow_ring).1
        ∙ (law.layout.wide shadow_words sv sw p.lane.shadow_ring).1 ∙ p.framed;
    start = p.start;
    old = p.old;
    lane = u.lane;
    holds = u.holds;
    moves = p.moves;
    took_over = p.took_over;
    lens = p.lens;
    to = p.to;
  }

  -- while the relay doesn't wind up
  pub keeps_device : (words : RingWords) (shadow_words shadow_words' : List ℕ) (r : State E D) (c : Counts) (guest : G)
      (device device' : X) (by : Attached) (v : DriverView) (w : DeviceView) (sv : DriverView) (sw : DeviceView) → r.winding ≡ false
      → s.party.attached device ≡ Some by → IsData by.queue
      → IsRelayed s plan q k words shadow_words r c guest device by v w sv sw
      → (x : DeviceRun s.layout s.party shadow_words' sv sw device device' made)
      → IsRelayed s plan q k words shadow_words' r c guest device' by v w sv x.view
  keeps_device words shadow_words shadow_words' r c guest device device' by v w sv sw off is for p x =
      let n : ℕ = begun_at plan q k in
      let old : List Begun = s.party.begun device in
      let new : List Begun = s.party.begun device' in
      let serves : IsServing new by x.view.done = law.party.serves device' x.view by x.holds (x.served.attached ∙ is) for in
      record {
        epoch = p.epoch;
        mode = p.mode;
        driven = p.driven;
        account = record {
          before = chains_front n old new x.served.grows p.account.many ∙ p.account.before;
          many = omega (arith, p.account.many, length_le old new x.served.grows);
          each = begun_joined old new by.at x.served.grows p.lane.serves.after p.account.each serves.each;
        };
        reserved = record {
          window = x.served.window ∙ p.reserved.window;
          room = omega (arith, p.reserved.room, x.served.room.1);
        };
        framed = p.framed;
        start = p.start;
        old = p.old;
        lane = record {
          ring = p.lane.ring;
          shadow_ring = x.ring;
          relays = p.lane.relays;
          serves = serves;
          from = p.lane.from;
          winds = λ on. absurd (false≢true (sym off ∙ on));
          before = p.lane.before;
          undone = p.lane.undone;
        };
        holds = p.holds;
        moves = p.moves;
        took_over = p.took_over;
        lens = p.lens ∙ sym (lens_front n old new x.served.grows p.account.many);
        to = p.to;
      }
