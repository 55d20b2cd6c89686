-- The look of a take: it is next in a view that the end stands for, and the end stands for the view after it.
use Rattle.std.proofs.Common.{◌≡◌, ℕ, ◌+◌, ◌-◌, ◌*◌, ◌<◌, Bool, true, false, List, [], ◌∷◌, length, if◌then◌else◌, refl, sym, ap, ◌∙◌, subst, arith}
use Rattle.vd_model.specs.declared.chain.Piece.{Piece}
use Rattle.vd_words.specs.declared.access.Access.TheVariants.{Load}
use Rattle.vd_words.specs.declared.access.Op.TheVariants as op
use Rattle.vd_ring.specs.declared.act.DeviceAct.TheVariants as act
use Rattle.vd_ring.specs.declared.frame.Frame.{Frame}
use Rattle.vd_ring.specs.declared.device.DeviceDone.{DeviceDone}
use Rattle.vd_ring.specs.declared.device.DeviceNow.TheVariants as now
use Rattle.vd_ring.specs.declared.device.DeviceView.{DeviceView}
use Rattle.vd_packed_ring.specs.PackedWords.{is_available}
use Rattle.vd_packed_ring.specs.PackedPositions.{take_position, later}
use Rattle.vd_packed_ring.specs.PackedDevice.{DeviceNextAt, DeviceNext, DeviceTells, DeviceTellsAt, device_after, device_after_at, device_act_at}
use Rattle.vd_layout.specs.Begun.{DeviceOp, IsDeviceOp}
use Rattle.vd_layout.specs.Device.{DeviceSays}
use Rattle.vd_packed.specs.declared.device.PackedDevice.{PackedDevice}
use Rattle.vd_packed.specs.declared.device.DeviceStep.TheVariants as step
use Rattle.vd_layout.specs.declared.device.Told.{Told}
use Rattle.vd_layout.specs.declared.device.Told.TheVariants as told
use Rattle.vd_layout.specs.Telling.{act_of}
use Rattle.vd_packed.specs.DriverEnd.{packed_words}
use Rattle.vd_packed.specs.DeviceEnd.{DeviceStands, DeviceStepStands, device_begun, device_left}
use Rattle.vd_packed.specs.laws.DeviceEnd.{not_armed}
use Rattle.vd_packed.specs.laws.DeviceGiving.{Goes, at_step}
use Rattle.vd_packed.specs.Loaded.{HasSeen}
use Rattle.vd_packed.specs.laws.Places.{second_at, same_at, shows_available_at}
use Rattle.vd_packed.specs.Seconds.{shows_available}

pub look_next : (e : PackedDevice) (v : DeviceView) → e.doing ≡ step.Look → DeviceStands e v
    → (v.doing ≡ now.Idle) × DeviceNext v op.Take (Load (2 * e.next.place + 1))
look_next e v is st =
    let n : DeviceStepStands step.Look e.pieces.items e.second e.at v.frame v.done v.doing =
    subst (λ t. DeviceStepStands t e.pieces.items e.second e.at v.frame v.done v.doing) is st.doing in (
      n,
      subst (λ t. DeviceNextAt t v op.Take (Load (2 * e.next.place + 1))) (sym n) (
        not_armed e v st (at_step e v step.Look is st).1,
        second_at e.next v.frame.size (take_position v.frame v.done) st.counts.next_at,
      ),
    )

pub nothing_goes : (e : PackedDevice) (v : DeviceView) (w : ℕ) → e.doing ≡ step.Look → DeviceStands e v
    → shows_available e.next.wrap w ≡ false → Goes e (record e { doing = step.Idle }) v op.Take (Load (2 * e.next.place + 1)) w act.Nothing
nothing_goes e v w is st off =
    let f : Frame = v.frame in let s : List DeviceDone = v.done in
    let p : ℕ = 2 * e.next.place + 1 in
    let n = look_next e v is st in
    let none : is_available f.size (take_position f s) w ≡ false =
    sym (shows_available_at e.next f.size (take_position f s) w st.counts.next_at) ∙ off in
    let e' : PackedDevice = record e { doing = step.Idle } in
    let v2 : DeviceView = record v { seen = later v.seen (take_position f s); shown = false } in
    let is_after : device_after v op.Take (Load p) w ≡ v2 = ap (λ t. device_after_at t v op.Take (Load p) w) n.0
    ∙ ap (λ (b : Bool). if b then record v {
      seen = later v.seen (take_position f s + 1);
      shown = true;
      doing =
          now.Taking (w ∷ []);
    } else v2) none in
    let u = at_step e v step.Look is st in
    record {
      of_it = subst (λ t. IsDeviceOp (device_begun t) op.Take) (sym is) refl;
      next = n.1;
      stands = subst (λ t. DeviceStands e' t) (sym is_after) record {
        made = st.made;
        counts = st.counts;
        holds = st.holds;
        kick = st.kick;
        signals = record { is_armed = st.signals.is_armed; hears = st.signals.hears; rings = st.signals.rings; few = u.2; awake = tt };
        doing = n.0;
      };
      is = sym (ap (λ t. device_act_at t v op.Take (Load p) w) n.0 ∙ ap (λ (b : Bool). if b then act.Moved else act.Nothing) none);
      left = subst (λ t. 0 < device_left t (length e.pieces.items)) (sym is) (let z : 0 < 36 = omega arith in z);
      says = subst (λ t. DeviceSays packed_words act.Nothing (device_begun t) DeviceOp.idle f s
          (device_after v op.Take (Load p) w).done) (sym is) (refl, refl, ap (λ (y : DeviceView). y.done) is_after);
      rests = refl;
    }

look_goes : (e e2 : PackedDevice) (v : DeviceView) (w : ℕ) → e.doing ≡ step.Look → DeviceStands e v
    → shows_available e.next.wrap w ≡ true → e2.pieces.items ≡ [] → DeviceTells v op.Take (Load (2 * e.next.place + 1)) w
    → Goes e (record e { pieces = e2.pieces; second = w; at = e.next; doing = step.Address }) v op.Take
    (Load (2 * e.next.place + 1)) w act.Moved
look_goes e e2 v w is st on empty told =
    let f : Frame = v.frame in let s : List DeviceDone = v.done in
    let p : ℕ = 2 * e.next.place + 1 in
    let n = look_next e v is st in
    let shows : is_available f.size (take_position f s) w ≡ true =
    sym (shows_available_at e.next f.size (take_position f s) w st.counts.next_at) ∙ on in
    let t : DeviceTellsAt now.Idle v op.Take (Load p) w = subst (λ d. DeviceTellsAt d v op.Take (Load p) w) n.0 told.1 in
    let tells = t.0 shows in
    let e' : PackedDevice = record e { pieces = e2.pieces; second = w; at = e.next; doing = step.Address } in
    let v2 : DeviceView = record v { seen = later v.seen (take_position f s + 1); shown = true; doing = now.Taking (w ∷ []) } in
    let is_after : device_after v op.Take (Load p) w ≡ v2 = ap (λ t. device_after_at t v op.Take (Load p) w) n.0
    ∙ ap (λ (b : Bool). if b then v2 else record v { seen = later v.seen (take_position f s); shown = false }) shows in
    let u = at_step e v step.Look is st in
    record {
      of_it = subst (λ t. IsDeviceOp (device_begun t) op.Take) (sym is) refl;
      next = n.1;
      stands = subst (λ t. DeviceStands e' t) (sym is_after) record {
        made = st.made;
        counts = st.counts;
        holds = st.holds;
        kick = st.kick;
        signals = record { is_armed = st.signals.is_armed; hears = st.signals.hears; rings = st.signals.rings; few = u.2; awake = u.1 };
        doing = record {
          word = w;
          words = [];
          whole = [];
          is = refl;
          parts = refl;
          direct = refl;
          limited = tells.0;
          spelled = sym empty;
          even = ap (λ (l : List Piece). 2 * length l) (sym empty);
          here = same_at e.next f.size (take_position f s) (take_position f s + length e2.pieces.items)
              (omega (arith, ap (λ (l : List Piece). length l) empty)) st.counts.next_at;
        };
      };
      is = sym (ap (λ t. device_act_at t v op.Take (Load p) w) n.0 ∙ ap (λ (b : Bool). if b then act.Moved else act.Nothing) shows);
      left = subst (λ t. 2 * (16 - length e2.pieces.items) + 3 < device_left t (length e.pieces.items)) (sym is)
          (omega (arith, ap (λ (l : List Piece). length l) empty));
      says = subst (λ t. DeviceSays packed_words act.Moved (device_begun t) DeviceOp.take f s (device_after v op.Take (Load p) w).done)
          (sym is) (refl, ap (λ (y : DeviceView). y.done) is_after);
      rests = refl;
    }

pub seen_goes : (e e' : PackedDevice) (v : DeviceView) (w : ℕ) → e.doing ≡ step.Look → DeviceStands e v
    → shows_available e.next.wrap w ≡ true → HasSeen w e e' → DeviceTells v op.Take (Load (2 * e.next.place + 1)) w
    → Goes e e' v op.Take (Load (2 * e.next.place + 1)) w act.Moved
seen_goes e e' v w is st on h told = subst (λ (g : PackedDevice). Goes e g v op.Take (Load (2 * e.next.place + 1)) w act.Moved)
    (sym h.kept) (look_goes e e' v w is st on h.empty told)

-- the end after the look's word was taken in
pub saw_goes : (e e' : PackedDevice) (v : DeviceView) (w : ℕ) (t : Told) → e.doing ≡ step.Look → DeviceStands e v
    → (shows_available e.next.wrap w ≡ false → (t ≡ told.Nothing) × (e' ≡ record e { doing = step.Idle }))
    → (shows_available e.next.wrap w ≡ true → (t ≡ told.Moved) × HasSeen w e e')
    → DeviceTells v op.Take (Load (2 * e.next.place + 1)) w → Goes e e' v op.Take (Load (2 * e.next.place + 1)) w (act_of t e'.pieces.items)
saw_goes e e' v w t is st nothing seen tells = by_word (shows_available e.next.wrap w) refl
  where
    by_word : (b : Bool) → shows_available e.next.wrap w ≡ b
        → Goes e e' v op.Take (Load (2 * e.next.place + 1)) w (act_of t e'.pieces.items)
    by_word false eq = subst (λ u. Goes e e' v op.Take (Load (2 * e.next.place + 1)) w (act_of u e'.pieces.items)) (sym (nothing eq).0)
        (subst (λ (g : PackedDevice). Goes e g v op.Take (Load (2 * e.next.place + 1)) w act.Nothing) (sym (nothing eq).1)
        (nothing_goes e v w is st eq))
    by_word true eq = subst (λ u. Goes e e' v op.Take (Load (2 * e.next.place + 1)) w (act_of u e'.pieces.items)) (sym (seen eq).0)
        (seen_goes e e' v w is st eq (seen eq).1 tells)
