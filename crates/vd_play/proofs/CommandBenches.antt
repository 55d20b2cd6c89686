-- The control queue's parties stand on the bench behind those of the data queues: what is written of the one leaves the other.
use Rattle.std.proofs.Common.{◌≡◌, ℕ, ◌+◌, ◌<◌, ◌≤◌, Bool, List, Some, length, set, slice_get, sym, ap, subst, ◌∙◌, arith}
use Rattle.std.proofs.lemmas.Option.{slice_get_within}
use Rattle.vd_layout.specs.declared.device.DeviceEnd as device_end
use Rattle.vd_layout.specs.declared.driver.DriverEnd as driver_end
use Rattle.vd_layout.specs.declared.layout.Layout as layout
use Rattle.std.specs.List.{sum_by}
use Rattle.vd_machine.specs.File.{Plan}
use Rattle.vd_play.specs.declared.bench.Bench.{Bench}
use Rattle.vd_play.specs.declared.command_lane.CommandLane.{CommandLane}
use Rattle.vd_play.specs.declared.floor.Lane.{Lane}
use Rattle.vd_play.specs.CommandEpochs.{CommandsIn, made_of_all}
use Rattle.vd_play.specs.CommandProgress.{Next, InCommandRound}
use Rattle.vd_play.specs.Each.{EachLane}
use Rattle.vd_play.specs.Played.{KeepsBench}
use Rattle.vd_play.specs.Progress.{steps}
use Rattle.vd_play.specs.Setting.{Setting}
use Rattle.vd_play.proofs.Each.{get_set_same, get_set_other}
use Rattle.vd_play.proofs.Lists.{some_same}
use Rattle.vd_play.proofs.Sums.{sum_set}

-- ---- the data queues' lanes

-- a party behind those of the lanes is written
pub each_guest_beyond : {A B C : Type 0} (P : ℕ → A → B → C → Type 0) (ls : List A) (bs : List B) (xs : List C) (i : ℕ) (g : B)
    → length ls ≤ i → EachLane P ls bs xs → EachLane P ls (set bs i g) xs
each_guest_beyond P ls bs xs i g le e = record {
  at = λ q l b x hl hb hx. e.at q l b x hl
      (sym (get_set_other bs i q g (λ same. absurd (omega (arith, same, slice_get_within ls q l hl, le)))) ∙ hb) hx;
}

pub each_device_beyond : {A B C : Type 0} (P : ℕ → A → B → C → Type 0) (ls : List A) (bs : List B) (xs : List C) (i : ℕ) (y : C)
    → length ls ≤ i → EachLane P ls bs xs → EachLane P ls bs (set xs i y)
each_device_beyond P ls bs xs i y le e = record {
  at = λ q l b x hl hb hx. e.at q l b x hl hb
      (sym (get_set_other xs i q y (λ same. absurd (omega (arith, same, slice_get_within ls q l hl, le)))) ∙ hx);
}

pub each_beyond : {A B C : Type 0} (P : ℕ → A → B → C → Type 0) (ls : List A) (bs : List B) (xs : List C) (i : ℕ) (g : B) (y : C)
    → length ls ≤ i → EachLane P ls bs xs → EachLane P ls (set bs i g) (set xs i y)
each_beyond P ls bs xs i g y le e =
    each_device_beyond P ls (set bs i g) xs i y le (each_guest_beyond P ls bs xs i g le e)

-- ---- the control queue's lane

module _ {L D E G X C : Type 0} {a : layout.Ghosts L D E} {b : driver_end.Ghosts D} {c : device_end.Ghosts E} (s : Setting D E G X C)
    (plan : Plan) (next : Next) (on : Bool) (k n place : ℕ) (lane : CommandLane L D E a b c) where
  -- the parties before are written
  pub commands_kept : (old new : Bench G X) → KeepsBench s.party place old new → CommandsIn s plan next on k n place lane old
      → CommandsIn s plan next on k n place lane new
  commands_kept old new keeps p = λ guest device hg hx.
      p guest device (sym (keeps.other_guests place (omega arith)) ∙ hg) (sym (keeps.other_devices place (omega arith)) ∙ hx)

  pub round_more : (n' : ℕ) (bench : Bench G X) → n' ≡ n → CommandsIn s plan next on k n place lane bench
      → CommandsIn s plan next on k n' place lane bench
  round_more n' bench same p = subst (λ (i : ℕ). CommandsIn s plan next on k i place lane bench) (sym same) p

  -- its own are written
  pub commands_set : (gs : List G) (xs : List X) (bench : Bench G X) (guest : G) (device : X) → place < length gs → place < length xs
      → bench.guests.items ≡ set gs place guest → bench.devices.items ≡ set xs place device
      → InCommandRound s plan next on k n lane guest device → CommandsIn s plan next on k n place lane bench
  commands_set gs xs bench guest device low lows sg sx p = λ guest' device' hg hx.
      let eg : guest ≡ guest' = some_same guest guest' (slice_get bench.guests.items place)
      (ap (λ (zs : List G). slice_get zs place) sg ∙ get_set_same gs place guest low) hg in
      let ex : device ≡ device' = some_same device device' (slice_get bench.devices.items place)
      (ap (λ (zs : List X). slice_get zs place) sx ∙ get_set_same xs place device lows) hx in
      subst (λ (z : G). InCommandRound s plan next on k n lane z device') eg
      (subst (λ (z : X). InCommandRound s plan next on k n lane guest z) ex p)

-- the control queue's parties, and how many steps they have made
module _ {L D E G X C : Type 0} {a : layout.Ghosts L D E} {b : driver_end.Ghosts D} {c : device_end.Ghosts E} (s : Setting D E G X C)
    (place : ℕ) (lanes : List (Lane L D E)) (lane lane' : CommandLane L D E a b c) (old new : Bench G X) (guest guest' : G)
    (device device' : X) (made : ℕ) where
  pub made_set : slice_get old.guests.items place ≡ Some guest → slice_get old.devices.items place ≡ Some device
      → new.guests.items ≡ set old.guests.items place guest' → new.devices.items ≡ set old.devices.items place device'
      → steps s lane'.relayed guest' device' ≡ steps s lane.relayed guest device + made
      → made_of_all s lanes lane' new ≡ made_of_all s lanes lane old + made
  made_set hg hx sg sx more = omega (
    arith,
    more,
    sum_set s.guest.accesses old.guests.items place guest guest' hg,
    sum_set s.party.accesses old.devices.items place device device' hx,
    ap (sum_by s.guest.accesses) sg,
    ap (sum_by s.party.accesses) sx,
  )
