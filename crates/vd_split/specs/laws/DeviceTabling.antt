-- The steps of a take by a table, after the head's descriptor: each is next in a view that the end stands for, and the end stands for the
-- view after it.
use Rattle.std.proofs.Common.{◌≡◌, ◌≢◌, ℕ, ◌+◌, ◌-◌, ◌*◌, ◌<◌, ◌≤◌, Bool, true, false, not, ◌&&◌, ◌==◌, List, [], ◌∷◌, ◌++◌, length, drop, Some, if◌then◌else◌, refl, sym, ap, ◌∙◌, subst, arith, inr}
use Rattle.std.specs.Vec.{with_item}
use Rattle.std.proofs.lemmas.Bool.{eq-eqb, ne_eqb}
use Rattle.std.proofs.lemmas.List.{length_push, append-nil}
use Rattle.vd_model.specs.declared.chain.Piece.{Piece}
use Rattle.vd_words.specs.declared.access.Access.TheVariants.{Load}
use Rattle.vd_words.specs.declared.access.Op.TheVariants as op
use Rattle.vd_ring.specs.declared.act.DeviceAct.TheVariants as act
use Rattle.vd_ring.specs.declared.frame.Frame.{Frame}
use Rattle.vd_ring.specs.declared.device.DeviceDone.{DeviceDone}
use Rattle.vd_ring.specs.declared.device.DeviceNow.TheVariants as now
use Rattle.vd_ring.specs.declared.device.DeviceView.{DeviceView}
use Rattle.vd_ring.specs.History.{takes}
use Rattle.vd_split_ring.specs.SplitWords.{table_of, pieces_of, piece_of, names_table, named_words, has_table, ends, is_whole, chain_of, cursor, linked, shows}
use Rattle.vd_split_ring.specs.SplitDevice.{DeviceNextAt, DeviceNext, DeviceTells, DeviceTellsAt, loaded_head, BeginsChain}
use Rattle.vd_split_ring.proofs.Areas.{tables_follow}
use Rattle.vd_split_ring.proofs.Descriptors.{pieces_last}
use Rattle.vd_split.specs.declared.device.SplitDevice.{SplitDevice}
use Rattle.vd_split.specs.declared.device.DeviceStep.TheVariants as step
use Rattle.vd_split.specs.DeviceEnd.{DeviceStepArmed, HasTable, DeviceStands, DeviceStepStands, device_begun, device_left}
use Rattle.vd_split.specs.laws.DeviceSteps.{Goes}
use Rattle.vd_split.specs.laws.DeviceTaking.{IsLoading, onward}
use Rattle.vd_split.specs.laws.DeviceTaken.{takes_whole}
use Rattle.vd_split.specs.Parts.{next_place, table_place}

-- ---- words after a descriptor that names a table

has_named : (f : Frame) (a x : ℕ) (us : List ℕ) → f.features.indirect ≡ true → names_table x ≡ true → has_table f (a ∷ x ∷ us) ≡ true
has_named f a x us on names = ap (λ (b : Bool). b && names_table x) on ∙ names

cursor_named : (f : Frame) (h a x : ℕ) (us : List ℕ) → f.features.indirect ≡ true → names_table x ≡ true
    → cursor f h (a ∷ x ∷ us) ≡ table_of f h + length us
cursor_named f h a x us on names =
    let less : length (a ∷ x ∷ us) - 2 ≡ length us = omega arith in
    ap (λ (b : Bool). if b then table_of f h + (length (a ∷ x ∷ us) - 2) else linked h (a ∷ x ∷ us)) (has_named f a x us on names)
    ∙ ap (λ n. table_of f h + n) less

whole_named : (f : Frame) (a x : ℕ) (us : List ℕ) → f.features.indirect ≡ true → names_table x ≡ true
    → is_whole f (a ∷ x ∷ us) ≡ (length (a ∷ x ∷ us) == 2 + named_words x)
whole_named f a x us on names = ap (λ (b : Bool). if b then length (a ∷ x ∷ us) == 2 + named_words x else ends (a ∷ x ∷ us))
    (has_named f a x us on names)

chain_named : (f : Frame) (a x : ℕ) (us : List ℕ) → f.features.indirect ≡ true → names_table x ≡ true
    → chain_of f (a ∷ x ∷ us) ≡ pieces_of us
chain_named f a x us on names = ap (λ (b : Bool). if b then pieces_of (drop 2 (a ∷ x ∷ us)) else pieces_of (a ∷ x ∷ us))
    (has_named f a x us on names)

-- ---- where the next word of the table stands

-- it is the next of its chain's, and one of the ring's
table_next : (v : DeviceView) (size r w h m a x p : ℕ) (ps : List Piece) (ws us : List ℕ) → size ≡ v.frame.size
    → v.doing ≡ now.Taking (r ∷ w ∷ a ∷ x ∷ us) → HasTable v.frame v.done ps w h m x ws → length us ≤ length ws + 1
    → p ≡ table_place size h + length us → DeviceNext v op.Take (Load p)
table_next v size r w h m a x p ps ws us sized was l low here =
    let f : Frame = v.frame in
    let head : ℕ = loaded_head f (length (takes v.done)) w in
    let at : p ≡ table_of f h + length us = here ∙ ap (λ n. table_place n h + length us) sized in
    subst (λ d. DeviceNextAt d v op.Take (Load p)) (sym was) record {
      place = at ∙ sym (cursor_named f head a x us l.on l.names ∙ ap (λ k. table_of f k + length us) l.is_head);
      inside = inr (omega (arith, at), omega (arith, at, l.new.inside, l.even, l.left, l.few, low, tables_follow f l.on));
    }

-- ---- the load of a place's address

pub table_address_goes : (e : SplitDevice) (v : DeviceView) (r h m p x : ℕ) → e.doing ≡ step.TableAddress r h m → DeviceStands e v
    → p ≡ table_place e.size h + 2 * length e.pieces.items → Goes e (record e { addr = x; doing = step.TableSecond r h m }) v op.Take
    (Load p) x act.Moved
table_address_goes e v r h m p x is st here =
    let f : Frame = v.frame in let s : List DeviceDone = v.done in
    let n : DeviceStepStands (step.TableAddress r h m) e.pieces.items e.addr f s v.doing =
    subst (λ t. DeviceStepStands t e.pieces.items e.addr f s v.doing) is st.doing in
    let w : ℕ = n.word in let ws : List ℕ = n.words in let l = n.loaded in
    let off : e.armed ≡ false = subst (λ t. DeviceStepArmed t e.armed) is st.signals.awake in
    let was : v.doing ≡ now.Taking (r ∷ w ∷ n.addr ∷ n.second ∷ ws) =
    n.is ∙ ap (λ (us : List ℕ). now.Taking (r ∷ w ∷ n.addr ∷ n.second ∷ us)) (append-nil ws) in
    let longer : length (ws ++ x ∷ []) ≡ length ws + 1 = length_push ws x in
    let more : is_whole f (n.addr ∷ n.second ∷ (ws ++ x ∷ [])) ≡ false =
    whole_named f n.addr n.second (ws ++ x ∷ []) l.on l.names ∙ ne_eqb (length (n.addr ∷ n.second ∷ (ws ++ x ∷ [])))
    (2 + named_words n.second) (λ z. omega (arith, z, longer, l.even, l.many)) in
    let next : DeviceNext v op.Take (Load p) = table_next v e.size r w h m n.addr n.second p e.pieces.items ws ws st.made.sized was l
    (omega arith) (here ∙ ap (λ k. table_place e.size h + k) (sym l.even)) in
    onward e e v r w p x x (n.addr ∷ n.second ∷ ws) (step.TableSecond r h m) st
    (record { was = was; off = off; begun = ap device_begun is }) next more record {
      stands = record { word = w; addr = n.addr; second = n.second; words = ws; is = refl; loaded = l };
      awake = λ z. z;
      owes = refl;
      begun = refl;
      left = subst (λ t. 2 * (15 - length e.pieces.items) + 1 < device_left t (length e.pieces.items)) (sym is) (omega arith);
      rests = refl;
    }

-- ---- the load of its second word

pub table_second_next : (e : SplitDevice) (v : DeviceView) (r h m p : ℕ) → e.doing ≡ step.TableSecond r h m → DeviceStands e v
    → p ≡ table_place e.size h + 2 * length e.pieces.items + 1 → DeviceNext v op.Take (Load p)
table_second_next e v r h m p is st here =
    let f : Frame = v.frame in let s : List DeviceDone = v.done in
    let n : DeviceStepStands (step.TableSecond r h m) e.pieces.items e.addr f s v.doing =
    subst (λ t. DeviceStepStands t e.pieces.items e.addr f s v.doing) is st.doing in
    let l = n.loaded in
    let longer : length (n.words ++ e.addr ∷ []) ≡ length n.words + 1 = length_push n.words e.addr in
    table_next v e.size r n.word h m n.addr n.second p e.pieces.items n.words (n.words ++ e.addr ∷ []) st.made.sized n.is l
    (omega arith) (omega (arith, here, longer, l.even))

-- what the loads so far tell of the chain
pub record LoadedTable (e : SplitDevice) (v : DeviceView) (r h m x : ℕ) : Type 0 where
  pub word : ℕ
  pub addr : ℕ
  pub second : ℕ
  pub words : List ℕ
  pub was : v.doing ≡ now.Taking (r ∷ word ∷ addr ∷ second ∷ (words ++ e.addr ∷ []))
  pub had : HasTable v.frame v.done e.pieces.items word h m second words
  pub told : BeginsChain v.frame v.done h (addr ∷ second ∷ ((words ++ e.addr ∷ []) ++ x ∷ []))

pub loaded_table : (e : SplitDevice) (v : DeviceView) (r h m p x : ℕ) → e.doing ≡ step.TableSecond r h m → DeviceStands e v
    → DeviceTells v op.Take (Load p) x → LoadedTable e v r h m x
loaded_table e v r h m p x is st told =
    let n : DeviceStepStands (step.TableSecond r h m) e.pieces.items e.addr v.frame v.done v.doing =
    subst (λ t. DeviceStepStands t e.pieces.items e.addr v.frame v.done v.doing) is st.doing in
    record {
      word = n.word;
      addr = n.addr;
      second = n.second;
      words = n.words;
      was = n.is;
      had = n.loaded;
      told = subst (λ k. BeginsChain v.frame v.done k (n.addr ∷ n.second ∷ ((n.words ++ e.addr ∷ []) ++ x ∷ []))) n.loaded.is_head
          (subst (λ t. DeviceTellsAt t v op.Take (Load p) x) n.is told.1);
    }

table_length : (e : SplitDevice) (v : DeviceView) (r h m x : ℕ) → (l : LoadedTable e v r h m x)
    → length ((l.words ++ e.addr ∷ []) ++ x ∷ []) ≡ 2 * (length e.pieces.items + 1)
table_length e v r h m x l = omega (arith, length_push (l.words ++ e.addr ∷ []) x, length_push l.words e.addr, l.had.even)

table_spelled : (e : SplitDevice) (v : DeviceView) (r h m x : ℕ) → (l : LoadedTable e v r h m x)
    → pieces_of ((l.words ++ e.addr ∷ []) ++ x ∷ []) ≡ e.pieces.items ++ piece_of e.addr x ∷ []
table_spelled e v r h m x l = pieces_last l.words e.addr x (length e.pieces.items) l.had.even
    ∙ ap (λ (ps : List Piece). ps ++ piece_of e.addr x ∷ []) l.had.spelled

-- the chain is whole with the table's last piece
table_ended : (e : SplitDevice) (v : DeviceView) (r h m x : ℕ) → (l : LoadedTable e v r h m x)
    → is_whole v.frame (l.addr ∷ l.second ∷ ((l.words ++ e.addr ∷ []) ++ x ∷ [])) ≡
    (length (l.addr ∷ l.second ∷ ((l.words ++ e.addr ∷ []) ++ x ∷ [])) == 2 + named_words l.second)
table_ended e v r h m x l = whole_named v.frame l.addr l.second ((l.words ++ e.addr ∷ []) ++ x ∷ []) l.had.on l.had.names

pub table_few : (e : SplitDevice) (v : DeviceView) (r h m x : ℕ) → LoadedTable e v r h m x → length e.pieces.items < 16
table_few e v r h m x l = omega (arith, l.had.left, l.had.few)

table_loads : (e : SplitDevice) (v : DeviceView) (r h m x : ℕ) → (l : LoadedTable e v r h m x) → DeviceStands e v
    → e.doing ≡ step.TableSecond r h m → IsLoading e v r l.word (l.addr ∷ l.second ∷ (l.words ++ e.addr ∷ []))
table_loads e v r h m x l st is = record {
  was = l.was;
  off = subst (λ t. DeviceStepArmed t e.armed) is st.signals.awake;
  begun =
      ap device_begun is;
}

pub table_more : (e e2 : SplitDevice) (v : DeviceView) (r h m p x : ℕ) → LoadedTable e v r h m x → DeviceStands e v
    → DeviceNext v op.Take (Load p) → length e.pieces.items + 1 ≢ m → e2.pieces.items ≡ e.pieces.items ++ piece_of e.addr x ∷ []
    → e.doing ≡ step.TableSecond r h m
    → Goes e (record e { pieces = e2.pieces; doing = step.TableAddress r h m }) v op.Take (Load p) x act.Moved
table_more e e2 v r h m p x l st next on pushed is =
    let us : List ℕ = (l.words ++ e.addr ∷ []) ++ x ∷ [] in
    let long = table_length e v r h m x l in
    let longer : length e2.pieces.items ≡ length e.pieces.items + 1 = ap (λ (ps : List Piece). length ps) pushed
    ∙ length_push e.pieces.items (piece_of e.addr x) in
    let more : is_whole v.frame (l.addr ∷ l.second ∷ us) ≡ false =
    table_ended e v r h m x l ∙ ne_eqb (length (l.addr ∷ l.second ∷ us)) (2 + named_words l.second)
    (λ z. on (omega (arith, z, long, l.had.many))) in
    let left : length e.pieces.items + 1 < m = omega (arith, on, l.had.left) in
    onward e e2 v r l.word p x e.addr (l.addr ∷ l.second ∷ (l.words ++ e.addr ∷ [])) (step.TableAddress r h m) st
    (table_loads e v r h m x l st is) next more record {
      stands = record {
        word = l.word;
        addr = l.addr;
        second = l.second;
        words = us;
        is = ap (λ (ws : List ℕ). now.Taking (r ∷ l.word ∷ l.addr ∷ l.second ∷ ws)) (sym (append-nil us));
        loaded = record {
          is_head = l.had.is_head;
          new = l.had.new;
          limited = l.had.limited;
          on = l.had.on;
          names = l.had.names;
          many = l.had.many;
          few = l.had.few;
          spelled = table_spelled e v r h m x l ∙ sym pushed;
          even = omega (arith, long, longer);
          left = omega (arith, left, longer);
        };
      };
      awake = λ z. z;
      owes = refl;
      begun = refl;
      left = subst (λ t. 2 * (15 - length e2.pieces.items) + 2 < device_left t (length e.pieces.items)) (sym is)
          (omega (arith, longer, left, l.had.few));
      rests = refl;
    }

pub table_whole : (e : SplitDevice) (v : DeviceView) (r h m x : ℕ) → (l : LoadedTable e v r h m x) → length e.pieces.items + 1 ≡ m
    → is_whole v.frame (l.addr ∷ l.second ∷ ((l.words ++ e.addr ∷ []) ++ x ∷ [])) ≡ true
table_whole e v r h m x l at_last =
    table_ended e v r h m x l ∙ eq-eqb (length (l.addr ∷ l.second ∷ ((l.words ++ e.addr ∷ []) ++ x ∷ []))) (2 + named_words l.second)
    (omega (arith, table_length e v r h m x l, l.had.many, at_last))

table_chain : (e : SplitDevice) (v : DeviceView) (r h m x : ℕ) → (l : LoadedTable e v r h m x)
    → chain_of v.frame (l.addr ∷ l.second ∷ ((l.words ++ e.addr ∷ []) ++ x ∷ [])) ≡ e.pieces.items ++ piece_of e.addr x ∷ []
table_chain e v r h m x l = chain_named v.frame l.addr l.second ((l.words ++ e.addr ∷ []) ++ x ∷ []) l.had.on l.had.names
    ∙ table_spelled e v r h m x l

-- the pieces are a chain that fits
pub tabled_chain : (e : SplitDevice) (v : DeviceView) (r h m x : ℕ) → (l : LoadedTable e v r h m x) → length e.pieces.items + 1 ≡ m
    → e.pieces.items ++ piece_of e.addr x ∷ [] ≡ l.told.chain
tabled_chain e v r h m x l at_last = sym (table_chain e v r h m x l) ∙ (l.told.complete (table_whole e v r h m x l at_last)).1

pub table_last : (e e2 : SplitDevice) (v : DeviceView) (r h m p x : ℕ) (cs : List Piece) → LoadedTable e v r h m x → DeviceStands e v
    → DeviceNext v op.Take (Load p) → length e.pieces.items + 1 ≡ m → e.doing ≡ step.TableSecond r h m
    → cs ≡ e.pieces.items ++ piece_of e.addr x ∷ [] → length e2.guesses.items ≡ length e.guesses.items
    → Goes e (record e {
      taken = e.taken + 1;
      entry = next_place e.entry e.size;
      running = with_item e.running h (Some e.taken);
      guesses = e2.guesses;
      shown = not (shows r (e.taken + 1));
      pieces = e2.pieces;
      doing = step.Idle;
    }) v op.Take (Load p) x
    (act.Taken e.taken cs)
table_last e e2 v r h m p x cs l st next at_last is spelled guesses =
    takes_whole e e2 v r l.word h p x (l.addr ∷ l.second ∷ (l.words ++ e.addr ∷ [])) cs st
    (table_loads e v r h m x l st is) l.had.is_head l.had.limited l.had.new l.told next (table_whole e v r h m x l at_last)
    (table_chain e v r h m x l ∙ sym spelled) (subst (λ t. 0 < device_left t (length e.pieces.items)) (sym is) (omega arith)) guesses
