-- The loads of a ring entry and of a descriptor's address are steps of the device's end, as each load after which a chain goes on.
use Rattle.std.proofs.Common.{◌≡◌, ℕ, ◌+◌, ◌-◌, ◌*◌, ◌/◌, ◌%◌, ◌<◌, Bool, false, List, [], ◌∷◌, ◌++◌, length, if◌then◌else◌, refl, sym, ap, ◌∙◌, subst, arith, inl}
use Rattle.std.proofs.lemmas.List.{append-nil}
use Rattle.vd_bits.specs.Lanes.{lane16}
use Rattle.vd_model.specs.declared.chain.Piece.{Piece}
use Rattle.vd_words.specs.declared.access.Access.TheVariants.{Load}
use Rattle.vd_words.specs.declared.access.Op.TheVariants as op
use Rattle.vd_ring.specs.declared.act.DeviceAct.TheVariants as act
use Rattle.vd_ring.specs.declared.frame.Frame.{Frame}
use Rattle.vd_ring.specs.declared.device.DeviceDone.{DeviceDone}
use Rattle.vd_ring.specs.declared.device.DeviceNow.TheVariants as now
use Rattle.vd_ring.specs.declared.device.DeviceView.{DeviceView}
use Rattle.vd_ring.specs.History.{takes}
use Rattle.vd_split_ring.specs.SplitWords.{lane_word, entry_lane, has_table, is_whole, chain_of, cursor, linked}
use Rattle.vd_split_ring.specs.SplitDevice.{DeviceNextAt, DeviceNext, DeviceTells, DeviceTellsAt, device_after, device_after_at, device_takes, device_act_at, loaded_head, IsNewHead}
use Rattle.vd_split_ring.proofs.Descriptors.{not_whole_odd}
use Rattle.vd_split_ring.proofs.Reading.{cursor_off, whole_off, plain_odd}
use Rattle.vd_layout.specs.Begun.{IsDeviceOp, DeviceOp}
use Rattle.vd_layout.specs.Device.{DeviceSays}
use Rattle.vd_split.specs.declared.device.SplitDevice.{SplitDevice}
use Rattle.vd_split.specs.declared.device.DeviceStep.{DeviceStep}
use Rattle.vd_split.specs.declared.device.DeviceStep.TheVariants as step
use Rattle.vd_split.specs.DriverEnd.{split_words}
use Rattle.vd_split.specs.DeviceEnd.{DeviceStepArmed, device_owes, is_resting, DeviceStands, DeviceStepStands, device_begun, device_left}
use Rattle.vd_split.specs.laws.DeviceSteps.{Goes}

-- ---- the load of the ring entry

pub entry_goes : (e e2 : SplitDevice) (v : DeviceView) (r w head : ℕ) → e.doing ≡ step.Entry r → DeviceStands e v → e2.pieces.items ≡ []
    → head ≡ lane16 w ((e.entry + 2) % 4)
    → DeviceNext v op.Take (Load (2 * e.size + (e.entry + 2) / 4))
    × (DeviceTells v op.Take (Load (2 * e.size + (e.entry + 2) / 4)) w
    → Goes e (record e { pieces = e2.pieces; doing = step.Address r head head }) v op.Take (Load (2 * e.size + (e.entry + 2) / 4)) w
    act.Moved)
entry_goes e e2 v r w head is st none found =
    let f : Frame = v.frame in let s : List DeviceDone = v.done in
    let n : DeviceStepStands (step.Entry r) e.pieces.items e.addr f s v.doing =
    subst (λ t. DeviceStepStands t e.pieces.items e.addr f s v.doing) is st.doing in
    let p : ℕ = 2 * e.size + (e.entry + 2) / 4 in
    let lane : e.entry + 2 ≡ entry_lane f (length (takes s)) = ap (λ k. k + 2) st.counts.entry_at in
    let at : p ≡ lane_word f (entry_lane f (length (takes s))) = ap (λ k. 2 * k + (e.entry + 2) / 4) st.made.sized
    ∙ ap (λ k. 2 * f.size + k / 4) lane in
    let is_head : head ≡ loaded_head f (length (takes s)) w = found ∙ ap (λ k. lane16 w (k % 4)) lane in
    let next : DeviceNext v op.Take (Load p) = subst (λ t. DeviceNextAt t v op.Take (Load p)) (sym n.0) at in
    let e' : SplitDevice = record e { pieces = e2.pieces; doing = step.Address r head head } in
    let is_after = ap (λ t. device_after_at t v op.Take (Load p) w) n.0 in (
      next,
      λ told.
          let new : IsNewHead f s (loaded_head f (length (takes s)) w) = subst (λ t. DeviceTellsAt t v op.Take (Load p) w) n.0 told.1 in
          let new_head : IsNewHead f s head = subst (λ k. IsNewHead f s k) (sym is_head) new in record {
            next = next;
            stands = subst (λ t. DeviceStands e' t) (sym is_after) record {
              made = st.made;
              counts = st.counts;
              holds = st.holds;
              area = st.area;
              wide = st.wide;
              shown = st.shown;
              kick = st.kick;
              signals = record {
                is_armed = st.signals.is_armed;
                hears = st.signals.hears;
                rings = st.signals.rings;
                few =
                    omega (arith, st.signals.few);
                awake = subst (λ t. DeviceStepArmed t e.armed) is st.signals.awake;
              };
              doing = record {
                word = w;
                words = [];
                is = refl;
                loaded = record {
                  is_head = sym is_head;
                  new = new_head;
                  limited = n.1;
                  spelled = sym none;
                  even =
                      ap (λ (l : List Piece). 2 * length l) (sym none);
                  plain = refl;
                  at = refl;
                  low = new_head.inside;
                };
              };
            };
            is = sym (ap (λ t. device_act_at t v op.Take (Load p) w) n.0);
            of_it = subst (λ t. IsDeviceOp (device_begun t) op.Take) (sym is) refl;
            left = subst (λ t. 2 * (16 - length e2.pieces.items) + 2 < device_left t (length e.pieces.items)) (sym is)
                (omega (arith, ap (λ (l : List Piece). length l) none));
            says = subst (λ t. DeviceSays split_words act.Moved (device_begun t) DeviceOp.take f s
                (device_after v op.Take (Load p) w).done) (sym is) (refl, ap (λ (y : DeviceView). y.done) is_after);
            rests = refl;
          },
    )

-- ---- a load after the entry's

-- the end is in a take that has loaded these words
pub record IsLoading (e : SplitDevice) (v : DeviceView) (r w : ℕ) (us : List ℕ) : Type 0 where
  pub was : v.doing ≡ now.Taking (r ∷ w ∷ us)
  pub off : e.armed ≡ false
  pub begun : device_begun e.doing ≡ DeviceOp.take

-- the step t follows, with these pieces and this address, when the words us are loaded
pub record Onward (e e2 : SplitDevice) (v : DeviceView) (r w a : ℕ) (us : List ℕ) (t : DeviceStep) : Type 0 where
  pub stands : DeviceStepStands t e2.pieces.items a v.frame v.done (now.Taking (r ∷ w ∷ us))
  pub awake : e.armed ≡ false → DeviceStepArmed t e.armed
  pub owes : device_owes t ≡ 0
  pub begun : device_begun t ≡ DeviceOp.take
  pub left : device_left t (length e2.pieces.items) < device_left e.doing (length e.pieces.items)
  pub rests : is_resting t ≡ false

-- where the chain isn't whole yet, the loads go on
pub onward : (e e2 : SplitDevice) (v : DeviceView) (r w p x a : ℕ) (us : List ℕ) (t : DeviceStep) → DeviceStands e v
    → IsLoading e v r w us → DeviceNext v op.Take (Load p) → is_whole v.frame (us ++ x ∷ []) ≡ false → Onward e e2 v r w a (us ++ x ∷ []) t
    → Goes e (record e { pieces = e2.pieces; addr = a; doing = t }) v op.Take (Load p) x act.Moved
onward e e2 v r w p x a us t st in_take next more fol =
    let f : Frame = v.frame in let s : List DeviceDone = v.done in
    let all : List ℕ = us ++ x ∷ [] in
    let is_after : device_after v op.Take (Load p) x ≡ record v { doing = now.Taking (r ∷ w ∷ all) } =
    ap (λ d. device_after_at d v op.Take (Load p) x) in_take.was
    ∙ ap (λ (b : Bool). if b then device_takes v r w all else record v { doing = now.Taking (r ∷ w ∷ all) }) more in
    record {
      next = next;
      of_it = subst (λ b. IsDeviceOp b op.Take) (sym in_take.begun) refl;
      stands = subst (λ u. DeviceStands (record e { pieces = e2.pieces; addr = a; doing = t }) u) (sym is_after) record {
        made = st.made;
        counts = st.counts;
        holds = st.holds;
        area = st.area;
        wide = st.wide;
        shown = st.shown;
        kick = st.kick;
        signals = record {
          is_armed = st.signals.is_armed;
          hears = st.signals.hears;
          rings = st.signals.rings;
          few =
              omega (arith, st.signals.few, fol.owes);
          awake = fol.awake in_take.off;
        };
        doing = fol.stands;
      };
      is = sym (ap (λ d. device_act_at d v op.Take (Load p) x) in_take.was
          ∙ ap (λ (b : Bool). if b then act.Taken (length (takes s)) (chain_of f all) else act.Moved) more);
      left = fol.left;
      says = subst (λ b. DeviceSays split_words act.Moved b (device_begun t) f s (device_after v op.Take (Load p) x).done)
          (sym in_take.begun) (fol.begun, ap (λ (y : DeviceView). y.done) is_after);
      rests = fol.rests;
    }

-- ---- the load of a descriptor's address

pub address_goes : (e : SplitDevice) (v : DeviceView) (r h p x : ℕ) → e.doing ≡ step.Address r h p → DeviceStands e v
    → Goes e (record e { addr = x; doing = step.Second r h p }) v op.Take (Load (2 * p)) x act.Moved
address_goes e v r h p x is st =
    let f : Frame = v.frame in let s : List DeviceDone = v.done in
    let n : DeviceStepStands (step.Address r h p) e.pieces.items e.addr f s v.doing =
    subst (λ t. DeviceStepStands t e.pieces.items e.addr f s v.doing) is st.doing in
    let w : ℕ = n.word in let ws : List ℕ = n.words in let l = n.loaded in
    let off : e.armed ≡ false = subst (λ t. DeviceStepArmed t e.armed) is st.signals.awake in
    let was : v.doing ≡ now.Taking (r ∷ w ∷ ws) = n.is ∙ ap (λ (us : List ℕ). now.Taking (r ∷ w ∷ us)) (append-nil ws) in
    let plain : has_table f (ws ++ x ∷ []) ≡ false = plain_odd f ws x (length e.pieces.items) l.even l.plain in
    let more : is_whole f (ws ++ x ∷ []) ≡ false = whole_off f (ws ++ x ∷ []) plain ∙ not_whole_odd ws x (length e.pieces.items) l.even in
    let here : 2 * p ≡ cursor f (loaded_head f (length (takes s)) w) ws =
    sym (cursor_off f (loaded_head f (length (takes s)) w) ws l.plain ∙ ap (λ k. linked k ws) l.is_head ∙ l.at) in
    onward e e v r w (2 * p) x x ws (step.Second r h p) st (record { was = was; off = off; begun = ap device_begun is })
    (subst (λ t. DeviceNextAt t v op.Take (Load (2 * p))) (sym was) record { place = here; inside = inl (omega (arith, l.low)) })
    more record {
      stands = record { word = w; words = ws; is = refl; loaded = l };
      awake = λ z. z;
      owes = refl;
      begun = refl;
      left = subst (λ t. 2 * (16 - length e.pieces.items) + 1 < device_left t (length e.pieces.items)) (sym is) (omega arith);
      rests = refl;
    }
