-- What an access on the guest's ring by which no command is carried leaves of a relay of a control queue.
use Rattle.std.proofs.Common.{◌≡◌, ℕ, ◌+◌, ◌<◌, ◌≤◌, false, Some, Option, List, [], ◌∷◌, ◌++◌, length, nat_lt, if◌then◌else◌, refl, sym, ◌∙◌, ap, subst, arith, inl, inr}
use Rattle.std.specs.List.{Contains}
use Rattle.std.proofs.lemmas.Bool.{cases_eq, cases_lt}
use Rattle.std.proofs.lemmas.List.{append_cancel_left, append_assoc, append-nil}
use Rattle.std.proofs.Math.ListN.{length-drop}
use Rattle.vd_model.specs.declared.chain.Piece.{Piece}
use Rattle.vd_ring.specs.declared.frame.Frame.{Frame}
use Rattle.vd_ring.specs.declared.frame.Used.{Used}
use Rattle.vd_ring.specs.declared.device.DeviceDone.{DeviceDone}
use Rattle.vd_ring.specs.declared.device.DeviceDone.TheVariants.{Take, Give, Rest}
use Rattle.vd_ring.specs.declared.device.DeviceView.{DeviceView}
use Rattle.vd_ring.specs.declared.driver.DriverView.{DriverView}
use Rattle.vd_ring.specs.History.{entry, offers, heads, takes, gives, running, taken_head, numbers, occurs}
use Rattle.vd_ring.specs.Control.{last_ack}
use Rattle.vd_ring.proofs.Counts.{one_above, one_other, occurs_from, occurs_push, Contains_from}
use Rattle.vd_layout.specs.Begun.{DeviceOp}
use Rattle.vd_layout.specs.Driver.{DriverModel}
use Rattle.vd_layout.specs.Device.{DeviceModel}
use Rattle.vd_layout.specs.Layout.{LayoutModel, IsLawfulLayout}
use Rattle.vd_control.specs.declared.settings.Settings.{Settings}
use Rattle.vd_commands.specs.Loads.{ack_load}
use Rattle.vd_table.specs.declared.Command.{Command}
use Rattle.vd_relay.specs.declared.carry.Carry.TheVariants as carry
use Rattle.vd_relay.specs.declared.stage.Stage.{Stage}
use Rattle.vd_relay.specs.declared.stage.Stage.TheVariants as stage
use Rattle.vd_relay.specs.declared.state.State.{State}
use Rattle.vd_relay.specs.Stages.{BackIs, BeforeRest, GuestIs, is_rested, is_offering}
use Rattle.vd_relay.specs.Tie.{guests}
use Rattle.vd_relay.specs.Relay.{Stands}
use Rattle.vd_relay.specs.Commanding.{Takeover, carries, IsCarried, AreCarried}
use Rattle.vd_relay.specs.Underway.{AckStands, Commanding}
use Rattle.vd_relay.proofs.Ops.{at_give}
use Rattle.vd_relay.proofs.Ties.{taken_count}
use Rattle.vd_relay.proofs.CarryTakes.{head_taken, carried_taken, carried_given}
use Rattle.vd_relay.proofs.CarryWords.{all_carried}
use Rattle.vd_relay.proofs.CarryHanded.{live_acts}

-- chains of the guest's ring stand for different ones of the shadow ring
guests_once : (z : Takeover) (j k : ℕ) → z.replayed ≤ j → z.replayed ≤ k → guests (carries z) j ≡ guests (carries z) k → j ≡ k
guests_once z j k a b is = omega (arith, is)

-- only a give that is begun has something to give back
back_none : (op : DeviceOp) (u : Used) (us : List Used) → BackIs op (u ∷ us) → (k : ℕ) × (n : ℕ) × (op ≡ DeviceOp.give k n)
    × (u ∷ us ≡ entry k n ∷ [])
back_none (DeviceOp.give k n) u us b = (k, n, refl, b)
back_none DeviceOp.idle u us b = absurd (cc b)
back_none DeviceOp.take u us b = absurd (cc b)
back_none DeviceOp.rest u us b = absurd (cc b)
back_none DeviceOp.arm u us b = absurd (cc b)
back_none DeviceOp.hear u us b = absurd (cc b)
back_none DeviceOp.disarm u us b = absurd (cc b)
back_none DeviceOp.signal u us b = absurd (cc b)

abbrev number_of : List Used → ℕ
number_of [] = 0
number_of (u ∷ us) = u.number

same_entry : (i j k n : ℕ) → entry i k ∷ [] ≡ entry j n ∷ [] → i ≡ j
same_entry i j k n is = ap number_of is

-- a chain that runs was taken
running_below : (s : List DeviceDone) (j : ℕ) → occurs j (running s) + occurs j (numbers (gives s))
    ≡ (if nat_lt j (length (takes s)) then 1 else 0) → 1 ≤ occurs j (running s) → j < length (takes s)
running_below s j each some = elim (cases_lt j (length (takes s))) [
  | inl low ↦ low
  | inr high ↦ absurd (omega (arith, each, some, one_above j (length (takes s)) high))
]

module _ {E D : Type 0} (l : LayoutModel) (e : DeviceModel E) (d : DriverModel D) (lay : IsLawfulLayout d e l) (z : Takeover)
    (r r' : State E D) (w w' : DeviceView) (v : DriverView) (h : Stands e d (carries z) r w v) (stands : Stands e d (carries z) r' w' v)
  where
    -- what is to be given back changes by what is given
    pub back_on : (us : List Used) → gives stands.acts ≡ gives h.acts ++ us → h.back ≡ us ++ stands.back
    back_on us is =
        let got : stands.tied.got ≡ h.tied.got ++ us = append_cancel_left z.gives stands.tied.got (h.tied.got ++ us)
        (sym stands.tied.gives ∙ is ∙ ap (λ (x : List Used). x ++ us) h.tied.gives ∙ append_assoc z.gives h.tied.got us) in
        append_cancel_left h.tied.got h.back (us ++ stands.back)
        (sym h.tied.given ∙ stands.tied.given ∙ ap (λ (x : List Used). x ++ stands.back) got
        ∙ append_assoc h.tied.got us stands.back)

    -- a give that is in progress was begun before
    pub begun_on : (k n : ℕ) → h.back ≡ stands.back → e.begun r'.guest ≡ DeviceOp.give k n
        → (m : ℕ) × (e.begun r.guest ≡ DeviceOp.give k m)
    begun_on k n same begun =
        let now : stands.back ≡ entry k n ∷ [] = subst (λ (o : DeviceOp). BackIs o stands.back) begun stands.to_give in
        let was = back_none (e.begun r.guest) (entry k n) [] (subst (λ (x : List Used). BackIs (e.begun r.guest) x) (same ∙ now) h.to_give)
        in
        (was.1, was.2 ∙ ap (λ (j : ℕ). DeviceOp.give j was.1) (sym (same_entry k was.0 n was.1 was.3)))

    -- so its ack stands, where it stood
    pub ack_on : (op : DeviceOp) → e.begun r'.guest ≡ op → h.back ≡ stands.back
        → ((j : ℕ) → Contains (running w.done) j → Contains (running w'.done) j)
        → ((j : ℕ) → Contains (running w.done) j
        → last_ack w'.done (taken_head w'.done j) ≡ last_ack w.done (taken_head w.done j))
        → AckStands e d z r w v (e.begun r.guest) → AckStands e d z r' w' v op
    ack_on (DeviceOp.give k n) begun same runs acks a =
        let was = begun_on k n same begun in
        let old = subst (λ (o : DeviceOp). AckStands e d z r w v o) was.1 a in
        let back = old.2.back in (
          old.0,
          old.1,
          record {
            back = record {
              stage = at_give k n r'.stage (subst (λ (o : DeviceOp). GuestIs r'.stage o) begun stands.guest);
              len = n;
              begun = begun ∙ ap (λ (j : ℕ). DeviceOp.give j n) old.1;
              carried = back.carried;
              runs = runs (guests (carries z) old.0) back.runs;
            };
            ack = old.2.ack ∙ ap (λ (x : ℕ). Some x) (sym (acks k (subst (λ (j : ℕ). Contains (running w.done) j) (sym old.1) back.runs)));
          },
        )
    ack_on DeviceOp.idle begun same runs acks a = tt
    ack_on DeviceOp.take begun same runs acks a = tt
    ack_on DeviceOp.rest begun same runs acks a = tt
    ack_on DeviceOp.arm begun same runs acks a = tt
    ack_on DeviceOp.hear begun same runs acks a = tt
    ack_on DeviceOp.disarm begun same runs acks a = tt
    ack_on DeviceOp.signal begun same runs acks a = tt

    -- each command on the shadow ring was taken
    pub all_below : (j : ℕ) → IsCarried z v.done j → guests (carries z) j < length (takes h.acts)
    all_below j c = omega (
      arith,
      taken_count (carries z) r.table h.acts v.frame v.done h.hand h.back h.tied,
      length-drop z.replayed (offers v.done),
      c.not_replayed,
      c.offered,
    )

    -- of the command that is given the ack stands that was loaded for it
    pub acked_now : (k n : ℕ) → e.begun r.guest ≡ DeviceOp.give k n → AckStands e d z r w v (e.begun r.guest) → (j : ℕ)
        → IsCarried z v.done j → guests (carries z) j ≡ k
        → ack_load v.done j ≡ Some (last_ack w.done (taken_head w.done (guests (carries z) j)))
    acked_now k n begun a j c is =
        let old = subst (λ (o : DeviceOp). AckStands e d z r w v o) begun a in
        let same : old.0 ≡ j = guests_once z old.0 j old.2.back.carried.not_replayed c.not_replayed (sym old.1 ∙ sym is) in
        subst (λ (i : ℕ). ack_load v.done i ≡ Some (last_ack w.done (taken_head w.done (guests (carries z) j)))) same
        (old.2.ack ∙ ap (λ (i : ℕ). Some (last_ack w.done (taken_head w.done i))) (sym is))

module _ {E D : Type 0} (l : LayoutModel) (e : DeviceModel E) (d : DriverModel D) (lay : IsLawfulLayout d e l) (z : Takeover)
    (r r' : State E D) (t : List (Option Command)) (settings : Settings) (w w' : DeviceView) (v : DriverView)
    (h : Commanding l e d z r carry.None t settings w v) (stands : Stands e d (carries z) r' w' v) (live : is_rested r.stage ≡ false)
    (frame : w'.frame ≡ w.frame) (none : is_offering r'.stage ≡ false) where
  acts_were : w.done ≡ h.stands.acts
  acts_were = live_acts r.stage h.stands.acts w.done live h.stands.before

  -- it stands so, if what was carried is still tied and the ack of what is given stands
  finish : AreCarried z t settings (e.words.ack w.frame) stands.acts v.frame v.done → AckStands e d z r' w' v (e.begun r'.guest)
      → Commanding l e d z r' carry.None t settings w' v
  finish c a = record {
    stands = stands;
    ring = h.ring;
    carried = subst (λ (f : Frame). AreCarried z t settings (e.words.ack f) stands.acts v.frame v.done) (sym frame) c;
    in_hand = (none, a);
    still = tt;
  }

  -- nothing was taken or given
  pub kept_same : w'.done ≡ w.done → is_rested r'.stage ≡ false → Commanding l e d z r' carry.None t settings w' v
  kept_same same awake =
      let now : stands.acts ≡ h.stands.acts
      = sym (live_acts r'.stage stands.acts w'.done awake stands.before) ∙ same ∙ acts_were in
      let back = back_on l e d lay z r r' w w' v h.stands stands [] (ap (λ (x : List DeviceDone). gives x) now
      ∙ sym (append-nil (gives h.stands.acts))) in
      finish (subst (λ (x : List DeviceDone). AreCarried z t settings (e.words.ack w.frame) x v.frame v.done) (sym now) h.carried)
      (ack_on l e d lay z r r' w w' v h.stands stands (e.begun r'.guest) refl back
      (λ j there. subst (λ (x : List DeviceDone). Contains (running x) j) (sym same) there)
      (λ j there. ap (λ (x : List DeviceDone). last_ack x (taken_head x j)) same) h.in_hand.1)

  -- a chain was taken and is not carried: in a wind-up
  pub kept_taken : (c : List Piece) (q : ℕ) → w'.done ≡ Take c q ∷ w.done → is_rested r'.stage ≡ false
      → Commanding l e d z r' carry.None t settings w' v
  kept_taken c q more awake =
      let even = (lay.device_end.runs r.guest w h.stands.serves).as_many in
      let now : stands.acts ≡ Take c q ∷ h.stands.acts
      = sym (live_acts r'.stage stands.acts w'.done awake stands.before) ∙ more ∙ ap (λ (x : List DeviceDone). Take c q ∷ x) acts_were in
      let back = back_on l e d lay z r r' w w' v h.stands stands [] (ap (λ (x : List DeviceDone). gives x) now
      ∙ sym (append-nil (gives h.stands.acts))) in
      let below : (j : ℕ) → Contains (running w.done) j → j < length (takes w.done) = λ j there.
      running_below w.done j ((lay.device_end.runs r.guest w h.stands.serves).each j) (occurs_from j (running w.done) there) in
      finish (subst (λ (x : List DeviceDone). AreCarried z t settings (e.words.ack w.frame) x v.frame v.done) (sym now)
      (carried_taken z t settings (e.words.ack w.frame) h.stands.acts v.frame v.done c q
      (subst (λ (x : List DeviceDone). length (heads x) ≡ length (takes x)) acts_were even)
      (all_below l e d lay z r r' w w' v h.stands stands) (all_carried l e d z r t settings lay.driver_end w v h.stands) h.carried))
      (ack_on l e d lay z r r' w w' v h.stands stands (e.begun r'.guest) refl back
      (λ j there. subst (λ (x : List DeviceDone). Contains (running x) j) (sym more) (Contains_from j (running (Take c q ∷ w.done))
      (omega (arith, occurs_push j (running w.done) (length (takes w.done)), occurs_from j (running w.done) there))))
      (λ j there. ap (λ (x : List DeviceDone). last_ack x (taken_head x j)) more
      ∙ ap (λ (i : ℕ). last_ack w.done i) (head_taken w.done c q j even (below j there))) h.in_hand.1)

  -- a command was given back
  pub kept_given : (k n : ℕ) → e.begun r.guest ≡ DeviceOp.give k n → w'.done ≡ Give (entry k n ∷ []) ∷ w.done
      → is_rested r'.stage ≡ false → Commanding l e d z r' carry.None t settings w' v
  kept_given k n begun more awake =
      let now : stands.acts ≡ Give (entry k n ∷ []) ∷ h.stands.acts
      = sym (live_acts r'.stage stands.acts w'.done awake stands.before) ∙ more
      ∙ ap (λ (x : List DeviceDone). Give (entry k n ∷ []) ∷ x) acts_were in
      let back = back_on l e d lay z r r' w w' v h.stands stands (entry k n ∷ []) (ap (λ (x : List DeviceDone). gives x) now) in
      let was : h.stands.back ≡ entry k n ∷ [] = subst (λ (o : DeviceOp). BackIs o h.stands.back) begun h.stands.to_give in
      let gone : stands.back ≡ [] = sym (append_cancel_left (entry k n ∷ []) [] stands.back (sym was ∙ back)) in
      finish (subst (λ (x : List DeviceDone). AreCarried z t settings (e.words.ack w.frame) x v.frame v.done) (sym now)
      (carried_given z t settings (e.words.ack w.frame) h.stands.acts v.frame v.done (entry k n ∷ [])
      (λ j c some. subst (λ (x : List DeviceDone). ack_load v.done j ≡ Some (last_ack x (taken_head x (guests (carries z) j)))) acts_were
      (acked_now l e d lay z r r' w w' v h.stands stands k n begun h.in_hand.1 j c (only_one k (guests (carries z) j) some)))
      h.carried)) (no_ack (e.begun r'.guest) (subst (λ (x : List Used). BackIs (e.begun r'.guest) x) gone stands.to_give))
    where
      only_one : (i j : ℕ) → 1 ≤ occurs j (i ∷ []) → j ≡ i
      only_one i j some = elim (cases_eq i j) [
        | inl same ↦ sym same
        | inr ne ↦ absurd (omega (arith, some, one_other i j ne))
      ]

      no_ack : (op : DeviceOp) → BackIs op [] → AckStands e d z r' w' v op
      no_ack (DeviceOp.give i j) b = absurd (cc b)
      no_ack DeviceOp.idle b = tt
      no_ack DeviceOp.take b = tt
      no_ack DeviceOp.rest b = tt
      no_ack DeviceOp.arm b = tt
      no_ack DeviceOp.hear b = tt
      no_ack DeviceOp.disarm b = tt
      no_ack DeviceOp.signal b = tt

  -- the guest's end rests
  pub kept_rested : w'.done ≡ Rest ∷ w.done → r'.stage ≡ stage.Rested → e.begun r'.guest ≡ DeviceOp.idle
      → Commanding l e d z r' carry.None t settings w' v
  kept_rested more at idle =
      let before : w'.done ≡ Rest ∷ stands.acts = subst (λ (x : Stage). BeforeRest x stands.acts w'.done) at stands.before in
      let now : stands.acts ≡ h.stands.acts = rest_of (sym before ∙ more) ∙ acts_were in
      finish (subst (λ (x : List DeviceDone). AreCarried z t settings (e.words.ack w.frame) x v.frame v.done) (sym now) h.carried)
      (subst (λ (o : DeviceOp). AckStands e d z r' w' v o) (sym idle) tt)
    where
      tail : List DeviceDone → List DeviceDone
      tail [] = []
      tail (a ∷ s) = s

      rest_of : {a b : List DeviceDone} → Rest ∷ a ≡ Rest ∷ b → a ≡ b
      rest_of is = ap tail is
