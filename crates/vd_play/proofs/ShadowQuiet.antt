-- A quiet lane of the mode shadow: not all parties sleep for two rounds while the device has chains to begin.
use Rattle.std.proofs.Common.{◌≡◌, ◌⊎◌, inl, inr, ℕ, Bool, true, false, Some, List, [], length, ap, subst, arith}
use Rattle.vd_model.specs.declared.chain.Piece.{Piece}
use Rattle.vd_words.specs.Plain.{RingWords}
use Rattle.vd_ring.specs.declared.driver.DriverView.{DriverView}
use Rattle.vd_ring.specs.declared.device.DeviceDone.{DeviceDone}
use Rattle.vd_ring.specs.declared.device.DeviceView.{DeviceView}
use Rattle.vd_ring.specs.declared.frame.Used.{Used}
use Rattle.vd_ring.specs.History.{takes, gives}
use Rattle.vd_ring.specs.Lists.{Lists}
use Rattle.vd_ring.specs.Signals.{nothing}
use Rattle.vd_ring.specs.Sleep.{DriverWaits, DeviceWaits, driver_owed, device_owed}
use Rattle.vd_layout.specs.Begun.{DeviceOp}
use Rattle.vd_layout.specs.Driver.{DriverModel}
use Rattle.vd_layout.specs.Device.{DeviceModel}
use Rattle.vd_bus.specs.declared.device.Attached.{Attached}
use Rattle.vd_relay.specs.declared.counts.Counts.{Counts}
use Rattle.vd_relay.specs.declared.stage.Stage.{Stage}
use Rattle.vd_relay.specs.declared.stage.Stage.TheVariants as stage
use Rattle.vd_relay.specs.declared.state.State.{State}
use Rattle.vd_relay.specs.Moving.{Stands}
use Rattle.vd_relay.specs.Stages.{is_hearing, BeforeRest, InHand, BackIs}
use Rattle.vd_relay.specs.Tie.{Start, moves}
use Rattle.vd_relay.proofs.Ties.{taken_count, given_count}
use Rattle.vd_switch.specs.Sleeping.{Sleeps}
use Rattle.vd_switch.proofs.AtRest.{at_rest}
use Rattle.vd_machine.specs.File.{Plan}
use Rattle.vd_play.specs.Journal.{queue_script}
use Rattle.vd_play.specs.Lane.{IsDriven}
use Rattle.vd_play.specs.Setting.{Setting, IsLawful}
use Rattle.vd_play.specs.Shadowed.{IsRelayed}
use Rattle.vd_turns.specs.RelayTurns.{HalfWaits, Alternates}
use Rattle.vd_play.proofs.Quiet.{no_rest}
use Rattle.vd_play.proofs.ShadowPace.{bounds_of}

-- the look that follows another is a hearing
hears_next : (from to : Stage) → Alternates from to → is_hearing to ≡ true
hears_next stage.HearingGuest to h = ap is_hearing h
hears_next stage.HearingShadow to h = ap is_hearing h
hears_next stage.Taking to h = absurd h
hears_next (stage.Offering k p) to h = absurd h
hears_next (stage.Collecting none) to h = absurd h
hears_next stage.Giving to h = absurd h
hears_next stage.ArmingGuest to h = absurd h
hears_next stage.ArmingShadow to h = absurd h
hears_next stage.DisarmingGuest to h = absurd h
hears_next stage.DisarmingShadow to h = absurd h
hears_next stage.Resting to h = absurd h
hears_next stage.Rested to h = absurd h

-- two looks in a row, one at each bell
pub both_ends : (from to : Stage) (v : DriverView) (w : DeviceView) (sv : DriverView) (sw : DeviceView) → Alternates from to
    → HalfWaits from v w sv sw → HalfWaits to v w sv sw → DeviceWaits v w × DriverWaits sv sw
both_ends stage.HearingGuest to v w sv sw next before now = (subst (λ (t : Stage). HalfWaits t v w sv sw) next now, before)
both_ends stage.HearingShadow to v w sv sw next before now = (before, subst (λ (t : Stage). HalfWaits t v w sv sw) next now)
both_ends stage.Taking to v w sv sw next before now = absurd next
both_ends (stage.Offering k p) to v w sv sw next before now = absurd next
both_ends (stage.Collecting none) to v w sv sw next before now = absurd next
both_ends stage.Giving to v w sv sw next before now = absurd next
both_ends stage.ArmingGuest to v w sv sw next before now = absurd next
both_ends stage.ArmingShadow to v w sv sw next before now = absurd next
both_ends stage.DisarmingGuest to v w sv sw next before now = absurd next
both_ends stage.DisarmingShadow to v w sv sw next before now = absurd next
both_ends stage.Resting to v w sv sw next before now = absurd next
both_ends stage.Rested to v w sv sw next before now = absurd next

-- a relay that hears has nothing in hand
hears_empty : (st : Stage) (hand : List (List Piece)) (acts done : List DeviceDone) → is_hearing st ≡ true → InHand st false hand
    → BeforeRest st acts done → (hand ≡ []) × (done ≡ acts)
hears_empty stage.HearingGuest hand acts done is none same = (none, same)
hears_empty stage.HearingShadow hand acts done is none same = (none, same)
hears_empty stage.Taking hand acts done is none same = absurd (cc is)
hears_empty (stage.Offering k p) hand acts done is none same = absurd (cc is)
hears_empty (stage.Collecting n) hand acts done is none same = absurd (cc is)
hears_empty stage.Giving hand acts done is none same = absurd (cc is)
hears_empty stage.ArmingGuest hand acts done is none same = absurd (cc is)
hears_empty stage.ArmingShadow hand acts done is none same = absurd (cc is)
hears_empty stage.DisarmingGuest hand acts done is none same = absurd (cc is)
hears_empty stage.DisarmingShadow hand acts done is none same = absurd (cc is)
hears_empty stage.Resting hand acts done is none same = absurd (cc is)
hears_empty stage.Rested hand acts done is none same = absurd (cc is)

-- a relay of which both ends wait sleeps
sleeps_both : {E D : Type 0} (e : DeviceModel E) (d : DriverModel D) (z : Start) (r : State E D) (v : DriverView) (w : DeviceView)
    (sv : DriverView) (sw : DeviceView) → Stands e d z r w sv → is_hearing r.stage ≡ true → r.winding ≡ false
    → e.begun r.guest ≡ DeviceOp.idle → DeviceWaits v w → DriverWaits sv sw → Sleeps z w sv
sleeps_both e d z r v w sv sw h hearing off idle guest shadow =
    let back : h.back ≡ [] = subst (λ (a : DeviceOp). BackIs a h.back) idle h.to_give in
    let empty = hears_empty r.stage h.hand h.acts w.done hearing (subst (λ (b : Bool). InHand r.stage b h.hand) off h.in_hand) h.before in
    record {
      guest_idle = guest.idle;
      shadow_idle = shadow.idle;
      guest_armed = (guest.at, guest.armed);
      shadow_armed = (shadow.at, shadow.armed);
      offered = omega (
        arith,
        taken_count (moves z) r.table h.acts sv.frame sv.done h.hand h.back h.tied,
        ap (λ (s : List DeviceDone). length (takes s)) empty.1,
        ap (λ (cs : List (List Piece)). length cs) empty.0,
      );
      given = omega (
        arith,
        given_count (moves z) r.table h.acts sv.frame sv.done h.hand h.back h.tied,
        ap (λ (s : List DeviceDone). length (gives s)) empty.1,
        ap (λ (us : List Used). length us) back,
      );
    }

module _ {D E G X C : Type 0} (s : Setting D E G X C) (law : IsLawful s) (plan : Plan) (q k : ℕ) where
  -- a guest that is done or sleeps owes nothing
  owes_none : (words : RingWords) (guest : G) (v : DriverView) (w : DeviceView) → IsDriven s plan q words guest v w
      → s.guest.is_done guest ⊎ DriverWaits v w → driver_owed v.doing ≡ nothing
  owes_none words guest v w p (inl done) =
      ap driver_owed (law.guest.done guest v (queue_script plan q) p.part.holds p.part.script p.queue.plain done).idle
  owes_none words guest v w p (inr waits) = ap driver_owed waits.idle

  -- where all parties sleep without a signal, the device has no chain to begin
  pub no_sleep : (words : RingWords) (shadow_words : List ℕ) (r : State E D) (c : Counts) (guest : G) (device : X) (by : Attached)
      (v : DriverView) (w : DeviceView) (sv : DriverView) (sw : DeviceView) (from : Stage)
      → IsRelayed s plan q k words shadow_words r c guest device by v w sv sw → s.party.holds device sw
      → s.party.attached device ≡ Some by → Alternates from r.stage → r.winding ≡ false → s.device.begun r.guest ≡ DeviceOp.idle
      → s.guest.is_done guest ⊎ DriverWaits v w → DeviceWaits v w × DriverWaits sv sw → DeviceWaits sv sw → ⊥
  no_sleep words shadow_words r c guest device by v w sv sw from p holds is next off idle still ends waits =
      let few = law.party.armed device sw by holds is waits.at waits.armed in
      let sleeps = sleeps_both s.device s.driver p.start r v w sv sw p.lane.relays (hears_next from r.stage next) off idle ends.0 ends.1 in
      let rest = at_rest s.device s.driver s.layout law.layout p.start words.words shadow_words v w sv sw p.lane.ring p.lane.shadow_ring
      sleeps (owes_none words guest v w p.driven still) ends.0 ends.1 waits in
      let inner : Lists sv.frame sv.done sw.done = law.layout.lists shadow_words sv sw p.lane.shadow_ring in
      let b = bounds_of s law plan q k words shadow_words r c guest device by v w sv sw p in
      let even : length (takes sw.done) ≡ length (gives sw.done) = omega (arith, inner.count, ap length few.0) in
      no_rest s law plan q words guest v w p.driven still (ap device_owed ends.0.idle)
      (omega (arith, rest.all_begun, rest.all_given, even))
      (omega (arith, rest.all_begun, p.took_over.0, b.at, b.begun, few.1, p.to, b.low))
