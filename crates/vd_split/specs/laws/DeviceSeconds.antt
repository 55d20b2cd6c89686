-- The load of a descriptor's second word is a step of the device's end: the chain goes on, ends, or stands in a table.
use Rattle.std.proofs.Common.{◌≡◌, ℕ, ◌+◌, ◌-◌, ◌*◌, ◌/◌, ◌%◌, ◌<◌, Bool, true, false, not, ◌&&◌, ◌==◌, List, [], ◌∷◌, ◌++◌, length, take, Some, if◌then◌else◌, refl, sym, ap, ◌∙◌, subst, arith, inl}
use Rattle.std.specs.Vec.{with_item}
use Rattle.std.proofs.lemmas.Bool.{ne_eqb}
use Rattle.std.proofs.lemmas.List.{length_push, append-nil}
use Rattle.vd_model.specs.declared.chain.Piece.{Piece}
use Rattle.vd_words.specs.declared.access.Access.TheVariants.{Load}
use Rattle.vd_words.specs.declared.access.Op.TheVariants as op
use Rattle.vd_ring.specs.declared.act.DeviceAct.TheVariants as act
use Rattle.vd_ring.specs.declared.frame.Frame.{Frame}
use Rattle.vd_ring.specs.declared.device.DeviceDone.{DeviceDone}
use Rattle.vd_ring.specs.declared.device.DeviceNow.TheVariants as now
use Rattle.vd_ring.specs.declared.device.DeviceView.{DeviceView}
use Rattle.vd_ring.specs.History.{takes}
use Rattle.vd_split_ring.specs.SplitWords.{words_of, pieces_of, piece_of, goes_on, next_of, names_table, named_words, is_tabled, ends, is_whole, cursor, linked, reading, shows}
use Rattle.vd_split_ring.specs.SplitDevice.{DeviceNextAt, DeviceNext, loaded_head}
use Rattle.vd_split_ring.proofs.Descriptors.{linked_odd, linked_last}
use Rattle.vd_split_ring.proofs.Reading.{pointer_second, its_words, cursor_off, plain_odd, told_tabled, told_second, names_first}
use Rattle.vd_split_ring.proofs.Tables.{both_true}
use Rattle.vd_split.specs.declared.device.SplitDevice.{SplitDevice}
use Rattle.vd_split.specs.declared.device.DeviceStep.TheVariants as step
use Rattle.vd_split.specs.DeviceEnd.{DeviceStepArmed, DeviceStands, DeviceStepStands, device_begun, device_left}
use Rattle.vd_split.specs.laws.DeviceSteps.{Goes}
use Rattle.vd_split.specs.Parts.{next_place}
use Rattle.vd_split.specs.laws.DeviceTaking.{IsLoading, onward}
use Rattle.vd_split.specs.laws.DeviceLoaded.{Loaded, told_low, loaded_length, told_many, spelled_more, IsDirect, few_pieces, next_inside, whole_spelled}
use Rattle.vd_split.specs.laws.DeviceTaken.{takes_whole}

-- ---- the load of a second word

pub second_next : (e : SplitDevice) (v : DeviceView) (r h p : ℕ) → e.doing ≡ step.Second r h p → DeviceStands e v
    → DeviceNext v op.Take (Load (2 * p + 1))
second_next e v r h p is st =
    let f : Frame = v.frame in let s : List DeviceDone = v.done in
    let n : DeviceStepStands (step.Second r h p) e.pieces.items e.addr f s v.doing =
    subst (λ t. DeviceStepStands t e.pieces.items e.addr f s v.doing) is st.doing in
    let w : ℕ = n.word in let ws : List ℕ = n.words in let l = n.loaded in
    let here : 2 * p + 1 ≡ cursor f (loaded_head f (length (takes s)) w) (ws ++ e.addr ∷ []) =
    sym (cursor_off f (loaded_head f (length (takes s)) w) (ws ++ e.addr ∷ [])
    (plain_odd f ws e.addr (length e.pieces.items) l.even l.plain) ∙ ap (λ k. linked k (ws ++ e.addr ∷ [])) l.is_head
    ∙ linked_odd h ws e.addr p (length e.pieces.items) l.even l.at) in
    subst (λ t. DeviceNextAt t v op.Take (Load (2 * p + 1))) (sym n.is) record { place = here; inside = inl (omega (arith, l.low)) }

second_loads : (e : SplitDevice) (v : DeviceView) (r h p x : ℕ) → (l : Loaded e v r h p x) → DeviceStands e v
    → e.doing ≡ step.Second r h p → IsLoading e v r l.word (l.words ++ e.addr ∷ [])
second_loads e v r h p x l st is = record {
  was = l.was;
  off = subst (λ t. DeviceStepArmed t e.armed) is st.signals.awake;
  begun =
      ap device_begun is;
}

pub second_more : (e e2 : SplitDevice) (v : DeviceView) (r h p x : ℕ) → (l : Loaded e v r h p x) → IsDirect e v r h p x l
    → DeviceStands e v → DeviceNext v op.Take (Load (2 * p + 1)) → goes_on x ≡ true
    → e2.pieces.items ≡ e.pieces.items ++ piece_of e.addr x ∷ [] → e.doing ≡ step.Second r h p
    → Goes e (record e { pieces = e2.pieces; doing = step.Address r h (next_of x) }) v op.Take (Load (2 * p + 1)) x act.Moved
second_more e e2 v r h p x l d st next on pushed is =
    let ws : List ℕ = (l.words ++ e.addr ∷ []) ++ x ∷ [] in
    let few = few_pieces e v r h p x l d in
    let longer : length e2.pieces.items ≡ length e.pieces.items + 1 = ap (λ (ps : List Piece). length ps) pushed
    ∙ length_push e.pieces.items (piece_of e.addr x) in
    onward e e2 v r l.word (2 * p + 1) x e.addr (l.words ++ e.addr ∷ []) (step.Address r h (next_of x)) st
    (second_loads e v r h p x l st is) next (d.ended ∙ ap not on) record {
      stands = record {
        word = l.word;
        words = ws;
        is = ap (λ (us : List ℕ). now.Taking (r ∷ l.word ∷ us)) (sym (append-nil ws));
        loaded = record {
          is_head = l.had.is_head;
          new = l.had.new;
          limited = l.had.limited;
          spelled = spelled_more e v r h p x l ∙ sym pushed;
          even = omega (arith, loaded_length e v r h p x l);
          plain = d.plain;
          at = linked_last h l.words e.addr x (length e.pieces.items) l.had.even;
          low = next_inside e v r h p x on l d;
        };
      };
      awake = λ z. z;
      owes = refl;
      begun = refl;
      left = subst (λ t. 2 * (16 - length e2.pieces.items) + 2 < device_left t (length e.pieces.items)) (sym is) (omega arith);
      rests = refl;
    }

pub second_last : (e e2 : SplitDevice) (v : DeviceView) (r h p x : ℕ) (cs : List Piece) → (l : Loaded e v r h p x)
    → IsDirect e v r h p x l → DeviceStands e v → DeviceNext v op.Take (Load (2 * p + 1)) → goes_on x ≡ false → e.doing ≡ step.Second r h p
    → cs ≡ e.pieces.items ++ piece_of e.addr x ∷ [] → length e2.guesses.items ≡ length e.guesses.items
    → Goes e (record e {
      taken = e.taken + 1;
      entry = next_place e.entry e.size;
      running = with_item e.running h (Some e.taken);
      guesses = e2.guesses;
      shown = not (shows r (e.taken + 1));
      pieces = e2.pieces;
      doing = step.Idle;
    }) v op.Take
    (Load (2 * p + 1)) x (act.Taken e.taken cs)
second_last e e2 v r h p x cs l d st next off is spelled guesses =
    takes_whole e e2 v r l.word h (2 * p + 1) x (l.words ++ e.addr ∷ []) cs st (second_loads e v r h p x l st is) l.had.is_head
    l.had.limited l.had.new l.told next (d.ended ∙ ap not off) (whole_spelled e v r h p x l d ∙ sym spelled)
    (subst (λ t. 0 < device_left t (length e.pieces.items)) (sym is) (omega arith)) guesses

-- ---- the descriptor names a table

pub second_table : (e : SplitDevice) (v : DeviceView) (r h p x m : ℕ) → Loaded e v r h p x → DeviceStands e v
    → DeviceNext v op.Take (Load (2 * p + 1)) → v.frame.features.indirect && names_table x ≡ true → m ≡ (x % 4294967296) / 16
    → e.doing ≡ step.Second r h p
    → Goes e (record e { doing = step.TableAddress r h m }) v op.Take (Load (2 * p + 1)) x act.Moved
second_table e v r h p x m l st next named count is =
    let f : Frame = v.frame in let c : List Piece = l.told.chain in let ps : List ℕ = l.told.places in
    let both = both_true f.features.indirect (names_table x) named in
    let all : List ℕ = (l.words ++ e.addr ∷ []) ++ x ∷ [] in
    let many = told_many e v r h p x st l in
    let none : l.words ≡ [] = names_first f l.words ps c e.addr x (length e.pieces.items) l.had.even l.had.plain many l.told.fits.chain
    both.0 l.told.words (told_low f v.done h all (is_whole f all) l.told refl) in
    let two : all ≡ e.addr ∷ x ∷ [] = ap (λ (us : List ℕ). (us ++ e.addr ∷ []) ++ x ∷ []) none in
    let words : e.addr ∷ x ∷ [] ≡ words_of (take 2 (reading f ps c)) =
    sym two ∙ l.told.words ∙ ap (λ (us : List ℕ). words_of (take (length us) (reading f ps c))) two in
    let on : is_tabled f c ≡ true = told_tabled f (e.addr ∷ x ∷ []) ps c many l.told.fits.chain named words in
    let second : x ≡ pointer_second c = told_second f ps c e.addr x on words in
    let counted : named_words x ≡ 2 * length c = ap named_words second ∙ its_words c l.told.fits.chain.1 in
    let is_many : m ≡ length c = omega (arith, count, counted) in
    let more : is_whole f (e.addr ∷ x ∷ []) ≡ false =
    ap (λ (b : Bool). if b then 2 == 2 + named_words x else ends (e.addr ∷ x ∷ [])) named
    ∙ ne_eqb 2 (2 + named_words x) (λ z. omega (arith, z, counted, l.told.fits.chain.0)) in
    let empty : e.pieces.items ≡ [] = sym l.had.spelled ∙ ap pieces_of none in
    let short : length e.pieces.items ≡ 0 = ap (λ (qs : List Piece). length qs) empty in
    onward e e v r l.word (2 * p + 1) x e.addr (l.words ++ e.addr ∷ []) (step.TableAddress r h m) st
    (second_loads e v r h p x l st is) next (ap (is_whole f) two ∙ more) record {
      stands = record {
        word = l.word;
        addr = e.addr;
        second = x;
        words = [];
        is = ap (λ (us : List ℕ). now.Taking (r ∷ l.word ∷ us)) two;
        loaded = record {
          is_head = l.had.is_head;
          new = l.had.new;
          limited = l.had.limited;
          on = both.0;
          names = both.1;
          many = counted ∙ ap (λ n. 2 * n) (sym is_many);
          few = omega (arith, is_many, l.told.fits.chain.1);
          spelled = sym empty;
          even = omega arith;
          left = omega (arith, is_many, short, l.told.fits.chain.0);
        };
      };
      awake = λ z. z;
      owes = refl;
      begun = refl;
      left = subst (λ t. 2 * (15 - length e.pieces.items) + 2 < device_left t (length e.pieces.items)) (sym is) (omega arith);
      rests = refl;
    }
