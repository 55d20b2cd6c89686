-- The loads of a chain's table: each is next in a view that the end stands for, and the end stands for the view after it.
use Rattle.std.proofs.Common.{◌≡◌, ℕ, ◌+◌, ◌-◌, ◌*◌, ◌/◌, ◌<◌, ◌≤◌, ◌==◌, ◌&&◌, Bool, true, false, List, [], ◌∷◌, ◌++◌, length, if◌then◌else◌, refl, sym, ap, ◌∙◌, subst, arith, inl, inr}
use Rattle.std.proofs.lemmas.Bool.{cases_lt, eq-eqb, ne_eqb, eqb-true}
use Rattle.std.proofs.lemmas.List.{length_push, length-append, append-nil, append_assoc}
use Rattle.vd_model.specs.declared.chain.Piece.{Piece}
use Rattle.vd_model.specs.Chains.{IsChain}
use Rattle.vd_words.specs.declared.access.Access.TheVariants.{Load}
use Rattle.vd_words.specs.declared.access.Op.TheVariants as op
use Rattle.vd_ring.specs.declared.act.DeviceAct.TheVariants as act
use Rattle.vd_ring.specs.declared.frame.Frame.{Frame}
use Rattle.vd_ring.specs.declared.device.DeviceDone.{DeviceDone}
use Rattle.vd_ring.specs.declared.device.DeviceNow.{DeviceNow}
use Rattle.vd_ring.specs.declared.device.DeviceNow.TheVariants as now
use Rattle.vd_ring.specs.declared.device.DeviceView.{DeviceView}
use Rattle.vd_ring.specs.Frames.{limit}
use Rattle.vd_ring.specs.History.{takes}
use Rattle.vd_packed_ring.specs.PackedWords.{tables_from, commands_from, table_of, id_of, len_of, names_table}
use Rattle.vd_packed_ring.specs.PackedChains.{piece_of, pieces_of, pieces_in, ends, following, named_words, is_tabled, is_whole, chain_of, cursor}
use Rattle.vd_packed_ring.specs.PackedPositions.{take_position}
use Rattle.vd_packed_ring.specs.PackedDevice.{LoadsChain, DeviceNextAt, DeviceNext, DeviceTells, DeviceTellsAt, BeginsChain, device_after, device_after_at, device_act_at}
use Rattle.vd_layout.specs.Begun.{DeviceOp, IsDeviceOp}
use Rattle.vd_layout.specs.Device.{DeviceSays}
use Rattle.vd_packed.specs.declared.device.PackedDevice.{PackedDevice}
use Rattle.vd_packed.specs.declared.device.DeviceStep.TheVariants as step
use Rattle.vd_layout.specs.declared.device.Told.{Told}
use Rattle.vd_packed.specs.declared.ring_position.RingPosition.{RingPosition}
use Rattle.vd_layout.specs.declared.device.Told.TheVariants as told
use Rattle.vd_layout.specs.Telling.{act_of}
use Rattle.vd_packed.specs.DriverEnd.{packed_words}
use Rattle.vd_packed.specs.DeviceEnd.{IsTaking, IsTabling, DeviceStands, device_begun, device_left}
use Rattle.vd_packed.specs.laws.DeviceGiving.{Goes, at_step}
use Rattle.vd_packed.specs.laws.DeviceTaken.{takes_last, may_count}
use Rattle.vd_packed.specs.laws.DeviceTaking.{loads_on, acts_on, names_in, address_next}
use Rattle.vd_packed.specs.Loaded.{HasPiece, HasTaken, MayTake, names_its_table}
use Rattle.vd_packed.specs.laws.Places.{same_at, forward_at}
use Rattle.vd_packed.specs.RingPositions.{IsAt, forward}
use Rattle.vd_packed.specs.Tabled.{table_place}
use Rattle.vd_packed.specs.laws.Tabling.{tabled_needs}
use Rattle.vd_packed.specs.laws.ToldTables.{Told as ToldTable, told_tabled}

-- ---- words that begin with a table's descriptor

-- the words are a whole chain's where they are as many as it names
pub whole_tabled : (f : Frame) (w a : ℕ) (ws : List ℕ) → (f.features.indirect && names_table w) ≡ true
    → is_whole f (w ∷ a ∷ ws) ≡ (length (w ∷ a ∷ ws) == 2 + named_words w)
whole_tabled f w a ws has = ap (λ (b : Bool). if b then length (w ∷ a ∷ ws) == 2 + named_words w else ends (w ∷ a ∷ ws)) has

chain_tabled : (f : Frame) (w a : ℕ) (ws : List ℕ) → (f.features.indirect && names_table w) ≡ true → chain_of f (w ∷ a ∷ ws) ≡ pieces_of ws
chain_tabled f w a ws has = ap (λ (b : Bool). if b then pieces_of ws else pieces_in (w ∷ a ∷ ws)) has

cursor_tabled : (f : Frame) (q w a : ℕ) (ws : List ℕ) → (f.features.indirect && names_table w) ≡ true
    → cursor f q (w ∷ a ∷ ws) ≡ table_of f (id_of w) + (length (w ∷ a ∷ ws) - 2)
cursor_tabled f q w a ws has =
    ap (λ (b : Bool). if b then table_of f (id_of w) + (length (w ∷ a ∷ ws) - 2) else following f.size q (w ∷ a ∷ ws)) has

-- two words more are a piece more
pieces_more : (ws : List ℕ) (a w i : ℕ) → length ws ≡ 2 * i → pieces_of (ws ++ a ∷ w ∷ []) ≡ pieces_of ws ++ piece_of a w ∷ []
pieces_more [] a w i e = refl
pieces_more (u ∷ []) a w i e = absurd (omega arith)
pieces_more (u ∷ v ∷ ws) a w i e = ap (λ (ps : List Piece). piece_of u v ∷ ps) (pieces_more ws a w (i - 1) (omega arith))

feature_on : (b : Bool) (t : Bool) → (b && t) ≡ true → b ≡ true
feature_on true t h = refl
feature_on false t h = absurd (let e : false ≡ true = h in cc)

-- ---- where the next word stands

-- the place of a word of the table, by how many of its words are loaded
place_next : (f : Frame) (q : ℕ) (s : List DeviceDone) (ps : List Piece) (second size : ℕ) (ring_position : RingPosition)
    (more : List ℕ) (d : DeviceNow) → size ≡ f.size → length more ≤ 1 → (t : IsTabling f s ps second ring_position more d)
    → LoadsChain f q (second ∷ t.addr ∷ t.words) (table_place size (id_of second) + 2 * length ps + length more)
place_next f q s ps second size ring_position more d sized one t =
    let on : f.features.indirect ≡ true = feature_on f.features.indirect (names_table second) t.has in
    let last : commands_from f ≡ tables_from f + 32 * f.size = ap (λ (b : Bool). tables_from f + (if b then 32 * f.size else 0)) on in
    let many : length t.words ≡ 2 * length ps + length more = ap (λ (us : List ℕ). length us) t.parts
    ∙ omega (arith, length-append t.whole more, t.even) in
    let p : ℕ = table_place size (id_of second) + 2 * length ps + length more in
    let low : tables_from f ≤ p = omega (arith, sized) in
    let high : p < commands_from f = omega (arith, sized, last, t.inside, t.left, t.few) in
    record { place = omega (arith, many, sized) ∙ sym (cursor_tabled f q second t.addr t.words t.has); inside = inr (low, high) }

-- ---- the load of an address of the table

abbrev pub addr_place : PackedDevice → ℕ
addr_place e = table_place e.size (id_of e.second) + 2 * length e.pieces.items

pub address_at : (e : PackedDevice) (v : DeviceView) → e.doing ≡ step.TableAddress → DeviceStands e v
    → DeviceNext v op.Take (Load (addr_place e)) × (id_of e.second < e.size) × (e.size ≤ 32768) × (length e.pieces.items ≤ 16)
address_at e v is st =
    let n : IsTabling v.frame v.done e.pieces.items e.second e.at [] v.doing = (at_step e v step.TableAddress is st).0 in
    let next = place_next v.frame (take_position v.frame v.done) v.done e.pieces.items e.second e.size e.at [] v.doing st.made.sized
    (omega arith) n in
    let same : addr_place e + 0 ≡ addr_place e = omega arith in (
      subst (λ p. DeviceNext v op.Take (Load p)) same (subst (λ d. DeviceNextAt d v op.Take (Load (addr_place e + 0))) (sym n.is) next),
      omega (arith, n.inside, st.made.sized),
      omega (arith, st.made.sized, st.made.lawful.most),
      omega (arith, n.left, n.few),
    )

pub table_address_goes : (e : PackedDevice) (v : DeviceView) (x : ℕ) → e.doing ≡ step.TableAddress → DeviceStands e v
    → Goes e (record e { doing = step.TableSecond x }) v op.Take (Load (addr_place e)) x act.Moved
table_address_goes e v x is st =
    let f : Frame = v.frame in let s : List DeviceDone = v.done in
    let n : IsTabling f s e.pieces.items e.second e.at [] v.doing = (at_step e v step.TableAddress is st).0 in
    let w : ℕ = e.second in let ws : List ℕ = n.addr ∷ n.words in
    let p : ℕ = addr_place e in
    let split : n.words ≡ n.whole = n.parts ∙ append-nil n.whole in
    let many : length (w ∷ ws ++ x ∷ []) ≡ 2 + 2 * length e.pieces.items + 1 =
    omega (arith, length-append n.words (x ∷ []), ap (λ (us : List ℕ). length us) split, n.even) in
    let more : is_whole f (w ∷ ws ++ x ∷ []) ≡ false = whole_tabled f w n.addr (n.words ++ x ∷ []) n.has
    ∙ ne_eqb _ _ (λ z. omega (arith, many, z)) in
    let is_after = ap (λ t. device_after_at t v op.Take (Load p) x) n.is ∙ loads_on v w p x ws more in
    let e' : PackedDevice = record e { doing = step.TableSecond x } in
    let u = at_step e v step.TableAddress is st in
    record {
      of_it = subst (λ t. IsDeviceOp (device_begun t) op.Take) (sym is) refl;
      next = (address_at e v is st).0;
      stands = subst (λ t. DeviceStands e' t) (sym is_after) record {
        made = st.made;
        counts = st.counts;
        holds = st.holds;
        kick = st.kick;
        signals = record { is_armed = st.signals.is_armed; hears = st.signals.hears; rings = st.signals.rings; few = u.2; awake = u.1 };
        doing = record {
          addr = n.addr;
          words = n.words ++ x ∷ [];
          whole = n.whole;
          is = refl;
          parts = ap (λ (us : List ℕ). us ++ x ∷ []) split;
          has = n.has;
          limited = n.limited;
          spelled = n.spelled;
          even = n.even;
          here = n.here;
          inside = n.inside;
          left = n.left;
          few = n.few;
        };
      };
      is = sym (ap (λ t. device_act_at t v op.Take (Load p) x) n.is ∙ acts_on v w p x ws more);
      left = subst (λ t. 2 * (16 - length e.pieces.items) + 1 < device_left t (length e.pieces.items)) (sym is) (omega arith);
      says = subst (λ t. DeviceSays packed_words act.Moved (device_begun t) DeviceOp.take f s (device_after v op.Take (Load p) x).done)
          (sym is) (refl, ap (λ (y : DeviceView). y.done) is_after);
      rests = refl;
    }

-- ---- the load of a second word of the table

pub second_at : (e : PackedDevice) (v : DeviceView) (a : ℕ) → e.doing ≡ step.TableSecond a → DeviceStands e v
    → DeviceNext v op.Take (Load (addr_place e + 1)) × (id_of e.second < e.size) × (e.size ≤ 32768) × (length e.pieces.items < 16)
second_at e v a is st =
    let n : IsTabling v.frame v.done e.pieces.items e.second e.at (a ∷ []) v.doing = (at_step e v (step.TableSecond a) is st).0 in
    let next = place_next v.frame (take_position v.frame v.done) v.done e.pieces.items e.second e.size e.at
    (a ∷ []) v.doing st.made.sized (omega arith) n in (
      subst (λ d. DeviceNextAt d v op.Take (Load (addr_place e + 1))) (sym n.is) next,
      omega (arith, n.inside, st.made.sized),
      omega (arith, st.made.sized, st.made.lawful.most),
      omega (arith, n.left, n.few),
    )

-- what the loads so far tell of the chain
pub record Tabled (e : PackedDevice) (v : DeviceView) (a x : ℕ) : Type 0 where
  pub had : IsTabling v.frame v.done e.pieces.items e.second e.at (a ∷ []) v.doing
  pub words : had.words ++ x ∷ [] ≡ had.whole ++ a ∷ x ∷ []
  pub told : BeginsChain v.frame v.done (e.second ∷ had.addr ∷ had.words ++ x ∷ [])
  pub many : length (e.second ∷ had.addr ∷ had.words ++ x ∷ []) ≡ 2 + 2 * (length e.pieces.items + 1)

pub tabled_of : (e : PackedDevice) (v : DeviceView) (a x : ℕ) → e.doing ≡ step.TableSecond a → DeviceStands e v
    → DeviceTells v op.Take (Load (addr_place e + 1)) x → Tabled e v a x
tabled_of e v a x is st told =
    let n : IsTabling v.frame v.done e.pieces.items e.second e.at (a ∷ []) v.doing = (at_step e v (step.TableSecond a) is st).0 in
    let words : n.words ++ x ∷ [] ≡ n.whole ++ a ∷ x ∷ [] = ap (λ (us : List ℕ). us ++ x ∷ []) n.parts
    ∙ append_assoc n.whole (a ∷ []) (x ∷ []) in
    record {
      had = n;
      words = words;
      told = subst (λ t. DeviceTellsAt t v op.Take (Load (addr_place e + 1)) x) n.is told.1;
      many = omega (arith, ap (λ (us : List ℕ). length us) words, length-append n.whole (a ∷ x ∷ []), n.even);
    }

spelled_more : (e : PackedDevice) (v : DeviceView) (a x : ℕ) → (l : Tabled e v a x) → pieces_of (l.had.words ++ x ∷ []) ≡ e.pieces.items
    ++ piece_of a x ∷ []
spelled_more e v a x l = ap pieces_of l.words
    ∙ (pieces_more l.had.whole a x (length e.pieces.items) l.had.even ∙ ap (λ (ps : List Piece). ps ++ piece_of a x ∷ []) l.had.spelled)

piece_goes : (e e' : PackedDevice) (v : DeviceView) (a x : ℕ) → Tabled e v a x → DeviceStands e v → e.doing ≡ step.TableSecond a
    → length e.pieces.items + 1 < len_of e.second / 16 → HasPiece (piece_of a x) e e'
    → Goes e e' v op.Take (Load (addr_place e + 1)) x act.Moved
piece_goes e e2 v a x l st is below h =
    let f : Frame = v.frame in let n = l.had in let w : ℕ = e.second in let ws : List ℕ = n.addr ∷ n.words in
    let p : ℕ = addr_place e + 1 in
    let more : is_whole f (w ∷ ws ++ x ∷ []) ≡ false = whole_tabled f w n.addr (n.words ++ x ∷ []) n.has
    ∙ ne_eqb _ _ (λ z. omega (arith, l.many, z)) in
    let is_after = ap (λ t. device_after_at t v op.Take (Load p) x) n.is ∙ loads_on v w p x ws more in
    let e' : PackedDevice = record e { pieces = e2.pieces; doing = step.TableAddress } in
    let longer : length e2.pieces.items ≡ length e.pieces.items + 1 = ap (λ (ps : List Piece). length ps) h.pushed
    ∙ length_push e.pieces.items (piece_of a x) in
    let u = at_step e v (step.TableSecond a) is st in
    subst (λ (g : PackedDevice). Goes e g v op.Take (Load p) x act.Moved) (sym h.kept) record {
      of_it = subst (λ t. IsDeviceOp (device_begun t) op.Take) (sym is) refl;
      next = (second_at e v a is st).0;
      stands = subst (λ t. DeviceStands e' t) (sym is_after) record {
        made = st.made;
        counts = st.counts;
        holds = st.holds;
        kick = st.kick;
        signals = record { is_armed = st.signals.is_armed; hears = st.signals.hears; rings = st.signals.rings; few = u.2; awake = u.1 };
        doing = record {
          addr = n.addr;
          words = n.words ++ x ∷ [];
          whole = n.words ++ x ∷ [];
          is = refl;
          parts = sym (append-nil (n.words ++ x ∷ []));
          has = n.has;
          limited = n.limited;
          spelled = spelled_more e v a x l ∙ sym h.pushed;
          even = omega (arith, l.many, longer);
          here = n.here;
          inside = n.inside;
          left = omega (arith, longer);
          few = n.few;
        };
      };
      is = sym (ap (λ t. device_act_at t v op.Take (Load p) x) n.is ∙ acts_on v w p x ws more);
      left = subst (λ t. 2 * (16 - length e2.pieces.items) + 2 < device_left t (length e.pieces.items)) (sym is)
          (omega (arith, longer, n.left, n.few));
      says = subst (λ t. DeviceSays packed_words act.Moved (device_begun t) DeviceOp.take f v.done
          (device_after v op.Take (Load p) x).done) (sym is) (refl, ap (λ (y : DeviceView). y.done) is_after);
      rests = refl;
    }

-- ---- the last

-- the words are a whole chain's
all_loaded : (e : PackedDevice) (v : DeviceView) (a x : ℕ) → (l : Tabled e v a x) → len_of e.second / 16 ≤ length e.pieces.items + 1
    → is_whole v.frame (e.second ∷ l.had.addr ∷ l.had.words ++ x ∷ []) ≡ true
all_loaded e v a x l last = whole_tabled v.frame e.second l.had.addr (l.had.words ++ x ∷ []) l.had.has
    ∙ eq-eqb _ _ (omega (arith, l.many, l.had.left))

tells : (e : PackedDevice) (v : DeviceView) (a x : ℕ) → DeviceStands e v → (l : Tabled e v a x)
    → ToldTable v.frame v.done e.second (e.second ∷ l.had.addr ∷ l.had.words ++ x ∷ []) l.told
tells e v a x st l = told_tabled v.frame v.done e.second l.had.addr (l.had.words ++ x ∷ []) st.made.lawful l.told l.had.has

last_chain : (e e' : PackedDevice) (v : DeviceView) (a x : ℕ) → (l : Tabled e v a x) → len_of e.second / 16 ≤ length e.pieces.items + 1
    → e'.pieces.items ≡ e.pieces.items ++ piece_of a x ∷ [] → e'.pieces.items ≡ l.told.chain
last_chain e e' v a x l last pushed =
    pushed ∙ (sym (spelled_more e v a x l) ∙ (sym (chain_tabled v.frame e.second l.had.addr (l.had.words ++ x ∷ []) l.had.has)
    ∙ (l.told.complete (all_loaded e v a x l last)).1))

table_last : (e e' : PackedDevice) (v : DeviceView) (a x : ℕ) → (l : Tabled e v a x) → DeviceStands e v → e.doing ≡ step.TableSecond a
    → len_of e.second / 16 ≤ length e.pieces.items + 1 → HasTaken (piece_of a x) e.at 1 e e'
    → Goes e e' v op.Take (Load (addr_place e + 1)) x (act.Taken e.taken e'.pieces.items)
table_last e e' v a x l st is last h =
    let is_told : e'.pieces.items ≡ l.told.chain = last_chain e e' v a x l last h.pushed in
    let t = tells e v a x st l in
    let on = subst (λ (c : List Piece). is_tabled v.frame c ≡ true) (sym is_told) t.tabled in
    let some : 0 < length e'.pieces.items = omega (arith, ap (λ (c : List Piece). length c) is_told, t.some) in
    let u = at_step e v (step.TableSecond a) is st in
    subst (λ (g : PackedDevice). Goes e g v op.Take (Load (addr_place e + 1)) x (act.Taken e.taken e'.pieces.items)) (sym h.kept)
    (takes_last e e' v (addr_place e + 1) (id_of e.second) x 1 e.second (l.had.addr ∷ l.had.words) e.at e'.pieces.items st l.had.is
    (second_at e v a is st).0
    (ap device_begun is) (u.1, u.2) (subst (λ d. 0 < device_left d (length e.pieces.items)) (sym is) (omega arith)) l.told
    (all_loaded e v a x l last) l.had.limited is_told (sym t.is_head)
    (sym (tabled_needs v.frame e'.pieces.items some on)) l.had.here (omega (arith, h.guesses, st.holds.guessed)))

-- the end after a second word was taken in
pub table_second_goes : (e e' : PackedDevice) (v : DeviceView) (a x : ℕ) (t : Told) → Tabled e v a x → DeviceStands e v
    → e.doing ≡ step.TableSecond a
    → (length e.pieces.items + 1 < len_of e.second / 16 → (t ≡ told.Moved) × HasPiece (piece_of a x) e e')
    → (len_of e.second / 16 ≤ length e.pieces.items + 1 → (t ≡ told.Taken e.taken) × HasTaken (piece_of a x) e.at 1 e e')
    → Goes e e' v op.Take (Load (addr_place e + 1)) x (act_of t e'.pieces.items)
table_second_goes e e' v a x t l st is more whole = elim (cases_lt (length e.pieces.items + 1) (len_of e.second / 16)) [
  | inl h ↦ subst (λ u. Goes e e' v op.Take (Load (addr_place e + 1)) x (act_of u e'.pieces.items)) (sym (more h).0)
      (piece_goes e e' v a x l st is h (more h).1)
  | inr h ↦ subst (λ u. Goes e e' v op.Take (Load (addr_place e + 1)) x (act_of u e'.pieces.items)) (sym (whole h).0)
      (table_last e e' v a x l st is h (whole h).1)
]

-- where it is taken it is a chain
pub tabled_chain : (e e' : PackedDevice) (v : DeviceView) (a x k : ℕ) (t : Told) → Tabled e v a x → DeviceStands e v
    → (length e.pieces.items + 1 < len_of e.second / 16 → (t ≡ told.Moved) × HasPiece (piece_of a x) e e')
    → (len_of e.second / 16 ≤ length e.pieces.items + 1 → (t ≡ told.Taken e.taken) × HasTaken (piece_of a x) e.at 1 e e')
    → t ≡ told.Taken k → IsChain e'.pieces.items
tabled_chain e e' v a x k t l st more whole is = elim (cases_lt (length e.pieces.items + 1) (len_of e.second / 16)) [
  | inl h ↦ absurd (cc ((more h).0, is))
  | inr h ↦ subst IsChain (sym (last_chain e e' v a x l h (whole h).1.pushed)) l.told.fits.chain
]

pub may_take_tabled : (e : PackedDevice) (v : DeviceView) (a x : ℕ) → Tabled e v a x → DeviceStands e v → MayTake e (id_of e.second)
may_take_tabled e v a x l st = may_count e v (id_of e.second) st l.had.inside l.had.limited

-- ---- the load of the address that names a table

both_on : (a b c : Bool) → ((a && b) && c) ≡ true → (b ≡ true) × ((a && c) ≡ true)
both_on true true true h = (refl, refl)
both_on true true false h = absurd (let e : false ≡ true = h in cc)
both_on true false c h = absurd (let e : false ≡ true = h in cc)
both_on false b c h = absurd (let e : false ≡ true = h in cc)

none_whole : (whole : List ℕ) (ps : List Piece) → length whole ≡ 2 * length ps → length ps ≡ 0 → whole ≡ []
none_whole [] ps e h = refl
none_whole (u ∷ us) ps e h = absurd (omega arith)

-- the first second word is the one loaded, and no more was loaded
pub record First (e : PackedDevice) (v : DeviceView) : Type 0 where
  pub is : v.doing ≡ now.Taking (e.second ∷ [])
  pub none : length e.pieces.items ≡ 0
  pub empty : e.pieces.items ≡ []
  pub has : (v.frame.features.indirect && names_table e.second) ≡ true
  pub limited : length (takes v.done) < limit v.frame
  pub here : IsAt e.at v.frame.size (take_position v.frame v.done + 0)

pub first_of : (e : PackedDevice) (v : DeviceView) → e.doing ≡ step.Address → DeviceStands e v → names_its_table e ≡ true → First e v
first_of e v is st on =
    let n : IsTaking v.frame v.done e.pieces.items e.at (e.second ∷ []) v.doing = (at_step e v step.Address is st).0 in
    let both = both_on v.frame.features.indirect (length e.pieces.items == 0) (names_table e.second) (names_in true e v st on) in
    let none : length e.pieces.items ≡ 0 = eqb-true (length e.pieces.items) 0 both.0 in
    let whole : n.whole ≡ [] = none_whole n.whole e.pieces.items n.even none in
    let words : n.word ∷ n.words ≡ e.second ∷ [] = n.parts ∙ ap (λ (us : List ℕ). us ++ e.second ∷ []) whole in
    record {
      is = n.is ∙ taking words;
      none = none;
      empty = sym n.spelled ∙ ap pieces_in whole;
      has = both.1;
      limited = n.limited;
      here = same_at e.at v.frame.size (take_position v.frame v.done + length e.pieces.items) (take_position v.frame v.done + 0)
          (omega (arith, none)) n.here;
    }
  where
    taking : {us vs : List ℕ} → us ≡ vs → now.Taking us ≡ now.Taking vs
    taking e = ap now.Taking e

pub pointer_goes : (e : PackedDevice) (v : DeviceView) (x : ℕ) → e.doing ≡ step.Address → DeviceStands e v → names_its_table e ≡ true
    → DeviceTells v op.Take (Load (2 * e.at.place)) x
    → Goes e (record e { at = forward e.at 1 e.size; doing = step.TableAddress }) v op.Take (Load (2 * e.at.place)) x act.Moved
pointer_goes e v x is st on tell =
    let f : Frame = v.frame in let s : List DeviceDone = v.done in let w : ℕ = e.second in
    let n = first_of e v is st on in
    let p : ℕ = 2 * e.at.place in
    let told : BeginsChain f s (w ∷ x ∷ []) = subst (λ t. DeviceTellsAt t v op.Take (Load p) x) n.is tell.1 in
    let t = told_tabled f s w x [] st.made.lawful told n.has in
    let few = told.fits.chain.1 in
    let more : is_whole f (w ∷ x ∷ []) ≡ false = whole_tabled f w x [] n.has ∙ ne_eqb _ _ (λ z. omega (arith, z, t.places, t.some)) in
    let is_after = ap (λ d. device_after_at d v op.Take (Load p) x) n.is ∙ loads_on v w p x [] more in
    let e' : PackedDevice = record e { at = forward e.at 1 e.size; doing = step.TableAddress } in
    let u = at_step e v step.Address is st in
    let ring_position : IsAt (forward e.at 1 e.size) f.size (take_position f s + 1) =
    same_at (forward e.at 1 e.size) f.size (take_position f s + 0 + 1) (take_position f s + 1) (omega arith)
    (subst (λ (m : ℕ). IsAt (forward e.at 1 m) f.size (take_position f s + 0 + 1)) (sym st.made.sized)
    (forward_at e.at f.size (take_position f s + 0) 1 (omega (arith, st.made.lawful.least)) (omega (arith, st.made.lawful.least))
    n.here)) in
    record {
      of_it = subst (λ d. IsDeviceOp (device_begun d) op.Take) (sym is) refl;
      next = (address_next e v is st).0;
      stands = subst (λ z. DeviceStands e' z) (sym is_after) record {
        made = st.made;
        counts = st.counts;
        holds = st.holds;
        kick = st.kick;
        signals = record { is_armed = st.signals.is_armed; hears = st.signals.hears; rings = st.signals.rings; few = u.2; awake = u.1 };
        doing = record {
          addr = x;
          words = [];
          whole = [];
          is = refl;
          parts = refl;
          has = n.has;
          limited = n.limited;
          spelled = sym n.empty;
          even = omega (arith, n.none);
          here = ring_position;
          inside = t.inside;
          left = omega (arith, n.none, t.places, t.some);
          few = omega (arith, t.places);
        };
      };
      is = sym (ap (λ d. device_act_at d v op.Take (Load p) x) n.is ∙ acts_on v w p x [] more);
      left = subst (λ d. 2 * (16 - length e.pieces.items) + 2 < device_left d (length e.pieces.items)) (sym is) (omega arith);
      says = subst (λ d. DeviceSays packed_words act.Moved (device_begun d) DeviceOp.take f s (device_after v op.Take (Load p) x).done)
          (sym is) (refl, ap (λ (y : DeviceView). y.done) is_after);
      rests = refl;
    }
