-- What was loaded of a chain's command and ack words is what the other side stored for it.
use Rattle.std.proofs.Common.{◌≡◌, ℕ, Bool, List, [], ◌∷◌, length, Some, if◌then◌else◌, sym, ap, ◌∙◌, subst, arith, inl, inr}
use Rattle.std.specs.List.{All}
use Rattle.std.proofs.lemmas.List.Elements.{All-nil, All-cons}
use Rattle.std.proofs.lemmas.Bool.{cases_eq, eq-eqb, ne_eqb}
use Rattle.vd_ring.specs.declared.frame.Frame.{Frame}
use Rattle.vd_ring.specs.declared.driver.DriverDone.{DriverDone}
use Rattle.vd_ring.specs.declared.driver.DriverDone.TheVariants.{Offer, Collect, StoreCommand, LoadAck}
use Rattle.vd_ring.specs.declared.device.DeviceDone.{DeviceDone}
use Rattle.vd_ring.specs.declared.device.DeviceDone.TheVariants.{Take, Give, Rest, StoreAck, LoadCommand}
use Rattle.vd_ring.specs.History.{takes}
use Rattle.vd_ring.specs.Control.{command_of, ack_of, CommandsAgree, AcksAgree}
use Rattle.vd_ring.proofs.ListSteps.{some_same}
use Rattle.vd_commands.specs.Loads.{loaded, command_loads, AreLoaded, ack_load}

-- each load of a command word of chain k is of what the driver stored for it
pub loads_agree : (f : Frame) (o : List DriverDone) (s : List DeviceDone) (k : ℕ) → CommandsAgree f o s
    → All (λ l. l.word ≡ command_of f o k l.half) (command_loads s k)
loads_agree f o [] k agree = All-nil (λ l. l.word ≡ command_of f o k l.half)
loads_agree f o (Take c h ∷ s) k agree = elim (cases_eq (length (takes s)) k) [
  | inl e ↦ rw (eq-eqb (length (takes s)) k e) (All-nil (λ l. l.word ≡ command_of f o k l.half))
  | inr ne ↦ rw (ne_eqb (length (takes s)) k ne) (loads_agree f o s k agree)
]
loads_agree f o (Give us ∷ s) k agree = loads_agree f o s k agree
loads_agree f o (Rest ∷ s) k agree = loads_agree f o s k agree
loads_agree f o (StoreAck h x ∷ s) k agree = loads_agree f o s k agree
loads_agree f o (LoadCommand l half x ∷ s) k agree = elim (cases_eq l k) [
  | inl e ↦ rw (eq-eqb l k e) (All-cons (λ l. l.word ≡ command_of f o k l.half) (loaded half x) (command_loads s k)
      (agree.1 ∙ ap (λ (j : ℕ). command_of f o j half) e) (loads_agree f o s k agree.2))
  | inr ne ↦ rw (ne_eqb l k ne) (loads_agree f o s k agree.2)
]

-- where both words of chain k were loaded, they are the two that the driver stored for it
pub loaded_agree : (f : Frame) (o : List DriverDone) (s : List DeviceDone) (k first second : ℕ) → CommandsAgree f o s
    → AreLoaded (command_loads s k) first second → (first ≡ command_of f o k 0) × (second ≡ command_of f o k 1)
loaded_agree f o s k first second agree are =
    let all : All (λ l. l.word ≡ command_of f o k l.half) (loaded 1 second ∷ loaded 0 first ∷ []) =
    subst (All (λ l. l.word ≡ command_of f o k l.half)) are (loads_agree f o s k agree) in
    (all 1 (loaded 0 0) (omega arith), all 0 (loaded 0 0) (omega arith))

-- the ack word that was loaded last for chain k is the one that the device stored for it
pub load_agrees : (o : List DriverDone) (s : List DeviceDone) (k x : ℕ) → AcksAgree o s → ack_load o k ≡ Some x → x ≡ ack_of s k
load_agrees [] s k x agree is = absurd cc
load_agrees (Offer c ∷ o) s k x agree is = load_agrees o s k x agree is
load_agrees (Collect us ∷ o) s k x agree is = load_agrees o s k x agree is
load_agrees (StoreCommand h i y ∷ o) s k x agree is = load_agrees o s k x agree is
load_agrees (LoadAck l y ∷ o) s k x agree is = elim (cases_eq l k) [
  | inl e ↦ (let same : y ≡ x = some_same y x (subst (λ (b : Bool). (if b then Some y else ack_load o k) ≡ Some x) (eq-eqb l k e) is) in
      sym same ∙ agree.1 ∙ ap (ack_of s) e)
  | inr ne ↦ load_agrees o s k x agree.2 (subst (λ (b : Bool). (if b then Some y else ack_load o k) ≡ Some x) (ne_eqb l k ne) is)
]
