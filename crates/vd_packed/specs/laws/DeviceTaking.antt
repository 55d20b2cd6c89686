-- The loads of a take after its look: each is next in a view that the end stands for, and the end stands for the view after it.
use Rattle.std.proofs.Common.{◌≡◌, ℕ, ◌+◌, ◌-◌, ◌*◌, ◌<◌, ◌≤◌, ◌==◌, ◌&&◌, Bool, true, false, not, List, [], ◌∷◌, ◌++◌, length, drop, slice_index, if◌then◌else◌, refl, sym, ap, ◌∙◌, subst, arith, inl}
use Rattle.std.proofs.lemmas.List.{length_push, length-append, append-nil, append_assoc}
use Rattle.vd_model.specs.declared.chain.Piece.{Piece}
use Rattle.vd_model.specs.declared.features.Features.{Features}
use Rattle.vd_words.specs.declared.access.Access.TheVariants.{Load}
use Rattle.vd_words.specs.declared.access.Op.TheVariants as op
use Rattle.vd_ring.specs.declared.act.DeviceAct.TheVariants as act
use Rattle.vd_ring.specs.declared.frame.Frame.{Frame}
use Rattle.vd_ring.specs.declared.device.DeviceDone.{DeviceDone}
use Rattle.vd_ring.specs.declared.device.DeviceNow.TheVariants as now
use Rattle.vd_ring.specs.declared.device.DeviceView.{DeviceView}
use Rattle.vd_ring.specs.History.{takes}
use Rattle.vd_packed_ring.specs.PackedWords.{table_of, addr_word, second_word, goes_on, names_table}
use Rattle.vd_packed_ring.specs.PackedChains.{reading, piece_of, pieces_of, pieces_in, ends, following, has_table, named_words, first_id, last_id, is_tabled, is_whole, chain_of, cursor, loaded_head}
use Rattle.vd_packed_ring.specs.PackedPositions.{take_position}
use Rattle.vd_packed_ring.specs.PackedDevice.{DeviceNextAt, DeviceNext, DeviceTells, DeviceTellsAt, BeginsChain, device_after, device_after_at, device_takes, device_act_at}
use Rattle.vd_packed_ring.proofs.Areas.{second_low}
use Rattle.vd_layout.specs.Begun.{DeviceOp, IsDeviceOp}
use Rattle.vd_layout.specs.Device.{DeviceSays}
use Rattle.vd_packed.specs.declared.device.PackedDevice.{PackedDevice}
use Rattle.vd_packed.specs.declared.device.DeviceStep.TheVariants as step
use Rattle.vd_packed.specs.DriverEnd.{packed_words}
use Rattle.vd_packed.specs.DeviceEnd.{IsTaking, DeviceStands, DeviceStepStands, device_begun, device_left}
use Rattle.vd_packed.specs.laws.DeviceGiving.{Goes, at_step}
use Rattle.vd_packed.specs.laws.Places.{ring_position_below, second_at, same_at, forward_at}
use Rattle.vd_packed.specs.RingPositions.{IsAt, forward}
use Rattle.vd_packed.specs.Loaded.{HasMore, names_its_table}
use Rattle.vd_packed.specs.laws.ToldTables.{told_direct, two_each, direct_more, direct_address}
use Rattle.vd_packed.specs.laws.Loads.{following_even, following_odd, ends_odd, ends_last, pieces_last}

-- ---- words without a table

cursor_direct : (f : Frame) (q : ℕ) (ws : List ℕ) → has_table f ws ≡ false → cursor f q ws ≡ following f.size q ws
cursor_direct f q ws off = ap (λ (b : Bool). if b then table_of f (first_id ws) + (length ws - 2) else following f.size q ws) off

pub whole_direct : (f : Frame) (ws : List ℕ) → has_table f ws ≡ false → is_whole f ws ≡ ends ws
whole_direct f ws off = ap (λ (b : Bool). if b then length ws == 2 + named_words (slice_index ws 0) else ends ws) off

pub chain_direct : (f : Frame) (ws : List ℕ) → has_table f ws ≡ false → chain_of f ws ≡ pieces_in ws
chain_direct f ws off = ap (λ (b : Bool). if b then pieces_of (drop 2 ws) else pieces_in ws) off

pub head_direct : (f : Frame) (ws : List ℕ) → has_table f ws ≡ false → loaded_head f ws ≡ last_id ws
head_direct f ws off = ap (λ (b : Bool). if b then first_id ws else last_id ws) off

-- what the end tests is so of the ring's frame
pub names_in : (b : Bool) (e : PackedDevice) (v : DeviceView) → DeviceStands e v → names_its_table e ≡ b
    → ((v.frame.features.indirect && (length e.pieces.items == 0)) && names_table e.second) ≡ b
names_in b e v st is = ap (λ (x : Features). (x.indirect && (length e.pieces.items == 0)) && names_table e.second)
    (sym st.made.featured) ∙ is

-- ---- where the chain isn't whole yet, the loads go on

pub loads_on : (v : DeviceView) (w p x : ℕ) (ws : List ℕ) → is_whole v.frame (w ∷ ws ++ x ∷ []) ≡ false
    → device_after_at (now.Taking (w ∷ ws)) v op.Take (Load p) x ≡ record v { doing = now.Taking (w ∷ ws ++ x ∷ []) }
loads_on v w p x ws more = ap (λ b. if b then device_takes v (w ∷ ws ++ x ∷ []) else record v { doing = now.Taking (w ∷ ws ++ x ∷ []) })
    more

pub acts_on : (v : DeviceView) (w p x : ℕ) (ws : List ℕ) → is_whole v.frame (w ∷ ws ++ x ∷ []) ≡ false
    → device_act_at (now.Taking (w ∷ ws)) v op.Take (Load p) x ≡ act.Moved
acts_on v w p x ws more = ap (λ b. if b then act.Taken (length (takes v.done)) (chain_of v.frame (w ∷ ws ++ x ∷ [])) else act.Moved) more

-- ---- the load of a further second word

pub second_goes : (e : PackedDevice) (v : DeviceView) (x : ℕ) → e.doing ≡ step.Second → DeviceStands e v
    → Goes e (record e { second = x; doing = step.Address }) v op.Take (Load (2 * e.at.place + 1)) x act.Moved
second_goes e v x is st =
    let f : Frame = v.frame in let s : List DeviceDone = v.done in
    let n : DeviceStepStands step.Second e.pieces.items e.second e.at f s v.doing =
    subst (λ t. DeviceStepStands t e.pieces.items e.second e.at f s v.doing) is st.doing in
    let w : ℕ = n.word in let ws : List ℕ = n.words in let i : ℕ = length e.pieces.items in let q : ℕ = take_position f s in
    let p : ℕ = 2 * e.at.place + 1 in
    let split : w ∷ ws ≡ n.whole = n.parts ∙ append-nil n.whole in
    let even : length (w ∷ ws) ≡ 2 * i = ap (λ (us : List ℕ). length us) split ∙ n.even in
    let place : p ≡ second_word f.size (q + i) = second_at e.at f.size (q + i) n.here in
    let here : p ≡ cursor f q (w ∷ ws) = place ∙ sym (cursor_direct f q (w ∷ ws) n.direct ∙ following_even f.size q (w ∷ ws) i even) in
    let direct = direct_more f w x i ws even n.direct in
    let more : is_whole f (w ∷ ws ++ x ∷ []) ≡ false = whole_direct f (w ∷ ws ++ x ∷ []) direct ∙ ends_odd (w ∷ ws) x i even in
    let is_after = ap (λ t. device_after_at t v op.Take (Load p) x) n.is ∙ loads_on v w p x ws more in
    let e' : PackedDevice = record e { second = x; doing = step.Address } in
    let u = at_step e v step.Second is st in
    record {
      of_it = subst (λ t. IsDeviceOp (device_begun t) op.Take) (sym is) refl;
      next = subst (λ t. DeviceNextAt t v op.Take (Load p)) (sym n.is) record {
        place = here;
        inside =
            inl (omega (arith, place, second_low f (q + i) st.made.lawful.least));
      };
      stands = subst (λ t. DeviceStands e' t) (sym is_after) record {
        made = st.made;
        counts = st.counts;
        holds = st.holds;
        kick = st.kick;
        signals = record { is_armed = st.signals.is_armed; hears = st.signals.hears; rings = st.signals.rings; few = u.2; awake = u.1 };
        doing = record {
          word = w;
          words = ws ++ x ∷ [];
          whole = n.whole;
          is = refl;
          parts = ap (λ (us : List ℕ). us ++ x ∷ []) split;
          direct = direct;
          limited = n.limited;
          spelled = n.spelled;
          even = n.even;
          here = n.here;
        };
      };
      is = sym (ap (λ t. device_act_at t v op.Take (Load p) x) n.is ∙ acts_on v w p x ws more);
      left = subst (λ t. 2 * (16 - i) + 3 < device_left t i) (sym is) (omega arith);
      says = subst (λ t. DeviceSays packed_words act.Moved (device_begun t) DeviceOp.take f s (device_after v op.Take (Load p) x).done)
          (sym is) (refl, ap (λ (y : DeviceView). y.done) is_after);
      rests = refl;
    }

-- ---- the load of an address

pub address_next : (e : PackedDevice) (v : DeviceView) → e.doing ≡ step.Address → DeviceStands e v
    → DeviceNext v op.Take (Load (2 * e.at.place)) × (e.at.place < e.size) × (e.size ≤ 32768)
address_next e v is st =
    let f : Frame = v.frame in let s : List DeviceDone = v.done in
    let n : DeviceStepStands step.Address e.pieces.items e.second e.at f s v.doing =
    subst (λ t. DeviceStepStands t e.pieces.items e.second e.at f s v.doing) is st.doing in
    let w : ℕ = n.word in let ws : List ℕ = n.words in let i : ℕ = length e.pieces.items in let q : ℕ = take_position f s in
    let place : 2 * e.at.place ≡ addr_word f.size (q + i) = ap (λ (k : ℕ). 2 * k) n.here.place in
    let here : 2 * e.at.place ≡ cursor f q (w ∷ ws) =
    place ∙ sym (cursor_direct f q (w ∷ ws) n.direct
    ∙ (ap (following f.size q) n.parts ∙ following_odd f.size q n.whole e.second i n.even)) in
    let below = ring_position_below e.at f.size (q + i) (omega (arith, st.made.lawful.least)) n.here in (
      subst (λ t. DeviceNextAt t v op.Take (Load (2 * e.at.place))) (sym n.is) record {
        place = here;
        inside =
            inl (omega (arith, below));
      },
      omega (arith, below, st.made.sized),
      omega (arith, st.made.sized, st.made.lawful.most),
    )

-- what the loads so far tell of the chain
pub record Loaded (e : PackedDevice) (v : DeviceView) (x : ℕ) : Type 0 where
  pub had : IsTaking v.frame v.done e.pieces.items e.at (e.second ∷ []) v.doing
  pub words : had.word ∷ had.words ++ x ∷ [] ≡ had.whole ++ e.second ∷ x ∷ []
  pub direct : has_table v.frame (had.word ∷ had.words ++ x ∷ []) ≡ false
  pub told : BeginsChain v.frame v.done (had.word ∷ had.words ++ x ∷ [])

pub loaded_of : (e : PackedDevice) (v : DeviceView) (x : ℕ) → e.doing ≡ step.Address → DeviceStands e v → names_its_table e ≡ false
    → DeviceTells v op.Take (Load (2 * e.at.place)) x → Loaded e v x
loaded_of e v x is st off told =
    let n : DeviceStepStands step.Address e.pieces.items e.second e.at v.frame v.done v.doing =
    subst (λ t. DeviceStepStands t e.pieces.items e.second e.at v.frame v.done v.doing) is st.doing in
    record {
      had = n;
      words = ap (λ (us : List ℕ). us ++ x ∷ []) n.parts ∙ append_assoc n.whole (e.second ∷ []) (x ∷ []);
      direct =
          direct_address v.frame e.second x e.pieces.items n.whole (n.word ∷ n.words) n.parts n.even n.direct (names_in false e v st off);
      told = subst (λ t. DeviceTellsAt t v op.Take (Load (2 * e.at.place)) x) n.is told.1;
    }

pub is_ended : (e : PackedDevice) (v : DeviceView) (x : ℕ) → DeviceStands e v → (l : Loaded e v x)
    → is_whole v.frame (l.had.word ∷ l.had.words ++ x ∷ []) ≡ not (goes_on e.second)
is_ended e v x st l = whole_direct v.frame (l.had.word ∷ l.had.words ++ x ∷ []) l.direct
    ∙ (ap ends l.words ∙ ends_last l.had.whole e.second x (length e.pieces.items) l.had.even)

pub loaded_length : (e : PackedDevice) (v : DeviceView) (x : ℕ) → (l : Loaded e v x)
    → length (l.had.word ∷ l.had.words ++ x ∷ []) ≡ 2 * (length e.pieces.items + 1)
loaded_length e v x l = ap (λ (us : List ℕ). length us) l.words ∙ omega (arith, length-append l.had.whole (e.second ∷ x ∷ []), l.had.even)

-- the chain has no table
pub is_direct : (e : PackedDevice) (v : DeviceView) (x : ℕ) → DeviceStands e v → (l : Loaded e v x) → is_tabled v.frame l.told.chain ≡ false
is_direct e v x st l = told_direct v.frame v.done (l.had.word ∷ l.had.words ++ x ∷ []) st.made.lawful l.told
    (omega (arith, loaded_length e v x l)) l.direct

pub few_pieces : (e : PackedDevice) (v : DeviceView) (x : ℕ) → DeviceStands e v → Loaded e v x → length e.pieces.items < 16
few_pieces e v x st l = omega (
  arith,
  loaded_length e v x l,
  at_most (is_whole v.frame (l.had.word ∷ l.had.words ++ x ∷ [])) refl,
  two_each v.frame (take_position v.frame v.done) l.told.head l.told.chain (is_direct e v x st l),
  l.told.fits.chain.1,
)
  where
    at_most : (b : Bool) → is_whole v.frame (l.had.word ∷ l.had.words ++ x ∷ []) ≡ b
        → length (l.had.word ∷ l.had.words ++ x ∷ []) ≤ length (reading v.frame (take_position v.frame v.done) l.told.head l.told.chain)
    at_most true eq = omega (arith, (l.told.complete eq).0)
    at_most false eq = omega (arith, l.told.left eq)

pub spelled_more : (e : PackedDevice) (v : DeviceView) (x : ℕ) → (l : Loaded e v x)
    → pieces_in (l.had.word ∷ l.had.words ++ x ∷ []) ≡ e.pieces.items ++ piece_of x e.second ∷ []
spelled_more e v x l = ap pieces_in l.words
    ∙ (pieces_last l.had.whole e.second x (length e.pieces.items) l.had.even
    ∙ ap (λ (ps : List Piece). ps ++ piece_of x e.second ∷ []) l.had.spelled)

-- the ring_position after it
pub ring_position_more : (e : PackedDevice) (v : DeviceView) (x : ℕ) → DeviceStands e v → (l : Loaded e v x)
    → IsAt (forward e.at 1 e.size) v.frame.size (take_position v.frame v.done + (length e.pieces.items + 1))
ring_position_more e v x st l =
    let f : Frame = v.frame in let q : ℕ = take_position f v.done + length e.pieces.items in
    same_at (forward e.at 1 e.size) f.size (q + 1) (take_position f v.done + (length e.pieces.items + 1)) (omega arith)
    (subst (λ (m : ℕ). IsAt (forward e.at 1 m) f.size (q + 1)) (sym st.made.sized)
    (forward_at e.at f.size q 1 (omega (arith, st.made.lawful.least)) (omega (arith, st.made.lawful.least)) l.had.here))

address_more : (e e2 : PackedDevice) (v : DeviceView) (x : ℕ) → Loaded e v x → DeviceStands e v → e.doing ≡ step.Address
    → goes_on e.second ≡ true → e2.pieces.items ≡ e.pieces.items ++ piece_of x e.second ∷ []
    → Goes e (record e { pieces = e2.pieces; at = forward e.at 1 e.size; doing = step.Second }) v op.Take
    (Load (2 * e.at.place)) x act.Moved
address_more e e2 v x l st is on pushed =
    let f : Frame = v.frame in let n = l.had in let w : ℕ = n.word in let ws : List ℕ = n.words in
    let p : ℕ = 2 * e.at.place in
    let more : is_whole f (w ∷ ws ++ x ∷ []) ≡ false = is_ended e v x st l ∙ ap not on in
    let is_after = ap (λ t. device_after_at t v op.Take (Load p) x) n.is ∙ loads_on v w p x ws more in
    let e' : PackedDevice = record e { pieces = e2.pieces; at = forward e.at 1 e.size; doing = step.Second } in
    let few = few_pieces e v x st l in
    let longer : length e2.pieces.items ≡ length e.pieces.items + 1 = ap (λ (ps : List Piece). length ps) pushed
    ∙ length_push e.pieces.items (piece_of x e.second) in
    let u = at_step e v step.Address is st in
    record {
      of_it = subst (λ t. IsDeviceOp (device_begun t) op.Take) (sym is) refl;
      next = (address_next e v is st).0;
      stands = subst (λ t. DeviceStands e' t) (sym is_after) record {
        made = st.made;
        counts = st.counts;
        holds = st.holds;
        kick = st.kick;
        signals = record { is_armed = st.signals.is_armed; hears = st.signals.hears; rings = st.signals.rings; few = u.2; awake = u.1 };
        doing = record {
          word = w;
          words = ws ++ x ∷ [];
          whole = w ∷ ws ++ x ∷ [];
          is = refl;
          parts = sym (append-nil (w ∷ ws ++ x ∷ []));
          direct = l.direct;
          limited = n.limited;
          spelled = spelled_more e v x l ∙ sym pushed;
          even = omega (arith, loaded_length e v x l, longer);
          here = same_at (forward e.at 1 e.size) f.size (take_position f v.done + (length e.pieces.items + 1))
              (take_position f v.done + length e2.pieces.items) (omega (arith, longer)) (ring_position_more e v x st l);
        };
      };
      is = sym (ap (λ t. device_act_at t v op.Take (Load p) x) n.is ∙ acts_on v w p x ws more);
      left = subst (λ t. 2 * (16 - length e2.pieces.items) + 4 < device_left t (length e.pieces.items)) (sym is) (omega arith);
      says = subst (λ t. DeviceSays packed_words act.Moved (device_begun t) DeviceOp.take f v.done
          (device_after v op.Take (Load p) x).done) (sym is) (refl, ap (λ (y : DeviceView). y.done) is_after);
      rests = refl;
    }

pub more_goes : (e e' : PackedDevice) (v : DeviceView) (x : ℕ) → Loaded e v x → DeviceStands e v → e.doing ≡ step.Address
    → goes_on e.second ≡ true → HasMore x e e' → Goes e e' v op.Take (Load (2 * e.at.place)) x act.Moved
more_goes e e' v x l st is on h = subst (λ (g : PackedDevice). Goes e g v op.Take (Load (2 * e.at.place)) x act.Moved) (sym h.kept)
    (address_more e e' v x l st is on h.pushed)

-- else the pieces are a chain that fits
pub whole_chain : (e : PackedDevice) (v : DeviceView) (x : ℕ) → goes_on e.second ≡ false → DeviceStands e v → (l : Loaded e v x)
    → e.pieces.items ++ piece_of x e.second ∷ [] ≡ l.told.chain
whole_chain e v x off st l =
    let ws : List ℕ = l.had.word ∷ l.had.words ++ x ∷ [] in
    sym (spelled_more e v x l) ∙ (sym (chain_direct v.frame ws l.direct) ∙ (l.told.complete (is_ended e v x st l ∙ ap not off)).1)
