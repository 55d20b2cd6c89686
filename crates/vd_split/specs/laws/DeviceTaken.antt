-- The load that makes a chain whole takes it, and the chain runs at its head.
use Rattle.std.proofs.Common.{◌≡◌, ◌≢◌, ℕ, ◌+◌, ◌%◌, ◌<◌, ◌≤◌, Bool, true, not, List, [], ◌∷◌, ◌++◌, length, Option, Some, None, if◌then◌else◌, nat_lt, slice_index, slice_set, refl, sym, ap, ◌∙◌, subst, arith, inl, inr}
use Rattle.std.specs.Vec.{with_item}
use Rattle.std.proofs.lemmas.Bool.{cases_lt, cases_eq}
use Rattle.std.proofs.lemmas.List.{length_push, length-set, get_or_append_left, get_or_push, get_or-set_same, get_or-set_other}
use Rattle.vd_model.specs.declared.chain.Piece.{Piece}
use Rattle.vd_words.specs.declared.access.Access.TheVariants.{Load}
use Rattle.vd_words.specs.declared.access.Op.TheVariants as op
use Rattle.vd_ring.specs.declared.act.DeviceAct.TheVariants as act
use Rattle.vd_ring.specs.declared.frame.Frame.{Frame}
use Rattle.vd_ring.specs.declared.device.DeviceDone.{DeviceDone}
use Rattle.vd_ring.specs.declared.device.DeviceDone.TheVariants.{Take}
use Rattle.vd_ring.specs.declared.device.DeviceNow.TheVariants as now
use Rattle.vd_ring.specs.declared.device.DeviceView.{DeviceView}
use Rattle.vd_ring.specs.Frames.{limit}
use Rattle.vd_ring.specs.History.{takes, heads, running, taken_head, occurs}
use Rattle.vd_ring.proofs.Counts.{one, one_same, one_other, one_more, one_above, occurs_push, Contains_from}
use Rattle.vd_split_ring.specs.SplitWords.{is_whole, chain_of, shows}
use Rattle.vd_split_ring.specs.SplitDevice.{DeviceNext, device_after, device_after_at, device_takes, device_act_at, loaded_head, IsNewHead, BeginsChain}
use Rattle.vd_layout.specs.Begun.{IsDeviceOp, DeviceOp}
use Rattle.vd_layout.specs.Device.{DeviceSays, IsTaken}
use Rattle.vd_split.specs.declared.device.SplitDevice.{SplitDevice}
use Rattle.vd_split.specs.declared.device.DeviceStep.TheVariants as step
use Rattle.vd_split.specs.DriverEnd.{split_words}
use Rattle.vd_split.specs.DeviceEnd.{HoldsRunning, number_at, DeviceStands, device_left}
use Rattle.vd_split.specs.laws.DeviceEnd.{not_armed}
use Rattle.vd_split.specs.laws.DeviceSteps.{Goes}
use Rattle.vd_split.specs.Parts.{next_place}
use Rattle.vd_split.specs.laws.Plans.{next_mod}
use Rattle.vd_split.specs.laws.DeviceTaking.{IsLoading}

-- ---- a chain that is taken

-- runs at its head
pub holds_more : (table : List (Option ℕ)) (guesses guesses' h : ℕ) (f : Frame) (s : List DeviceDone) (c : List Piece)
    → HoldsRunning table guesses f s → IsNewHead f s h → guesses' ≡ guesses
    → HoldsRunning (slice_set table h (Some (length (takes s)))) guesses' f (Take c h ∷ s)
holds_more table guesses guesses' h f s c held new same = record {
  once = record {
    each = λ k. omega (arith, held.once.each k, occurs_push k (running s) t, one_more k t, ap (λ n. one (nat_lt k n)) longer);
    count = omega (arith, held.once.count, longer, length_push (running s) t);
    as_many = omega (arith, length_push (heads s) h, longer, held.once.as_many);
  };
  places = length-set table h (Some t) ∙ held.places;
  guessed = same ∙ held.guessed;
  kept = λ k a. elim (cases_eq k t) [
    | inl e ↦ ap (number_at (slice_set table h (Some t))) (ap (slice_index (heads s ++ h ∷ [])) e ∙ new_head) ∙ here ∙ ap Some (sym e)
    | inr ne ↦ (
        let old = old_runs k ne a in
        ap (number_at (slice_set table h (Some t))) (old_head k (below k old)) ∙ get_or-set_other table h (taken_head s k) (Some t) None
        (new.apart k (Contains_from k (running s) old)) ∙ held.kept k old
        )
  ];
  named = λ i k there. elim (cases_eq i h) [
    | inl e ↦ (
        let is : t ≡ k = some_same t k (sym here ∙ ap (number_at (slice_set table h (Some t))) (sym e) ∙ there) in
        (omega (arith, occurs_push k (running s) t, one_same t k is), ap (slice_index (heads s ++ h ∷ [])) (sym is) ∙ new_head ∙ sym e)
        )
    | inr ne ↦ (
        let was = held.named i k (sym (get_or-set_other table h i (Some t) None ne) ∙ there) in
        (omega (arith, was.0, occurs_push k (running s) t), old_head k (below k was.0) ∙ was.1)
        )
  ];
}
  where
    t : ℕ
    t = length (takes s)

    longer : length (takes s ++ c ∷ []) ≡ length (takes s) + 1
    longer = length_push (takes s) c

    some_same : (j k : ℕ) → Some j ≡ Some k → j ≡ k
    some_same j k e = cc

    here : number_at (slice_set table h (Some (length (takes s)))) h ≡ Some (length (takes s))
    here = get_or-set_same table h (Some (length (takes s))) None (omega (arith, new.inside, held.places))

    below : (k : ℕ) → 1 ≤ occurs k (running s) → k < length (takes s)
    below k a = elim (cases_lt k (length (takes s)))
        [ inl b ↦ b | inr b ↦ absurd (omega (arith, held.once.each k, one_above k (length (takes s)) b)) ]

    old_head : (k : ℕ) → k < length (takes s) → slice_index (heads s ++ h ∷ []) k ≡ taken_head s k
    old_head k a = get_or_append_left (heads s) (h ∷ []) 0 k (omega (arith, held.once.as_many))

    new_head : slice_index (heads s ++ h ∷ []) (length (takes s)) ≡ h
    new_head = get_or_push (heads s) h 0 (length (takes s)) held.once.as_many

    old_runs : (k : ℕ) → k ≢ length (takes s) → 1 ≤ occurs k (running s ++ length (takes s) ∷ []) → 1 ≤ occurs k (running s)
    old_runs k ne a = omega (arith, a, occurs_push k (running s) (length (takes s)), one_other (length (takes s)) k (λ e. ne (sym e)))

-- the take of the whole chain, by its last load
pub takes_whole : (e e2 : SplitDevice) (v : DeviceView) (r w h p x : ℕ) (us : List ℕ) (cs : List Piece) → DeviceStands e v
    → IsLoading e v r w us → loaded_head v.frame (length (takes v.done)) w ≡ h → length (takes v.done) < limit v.frame
    → IsNewHead v.frame v.done h
    → BeginsChain v.frame v.done h (us ++ x ∷ []) → DeviceNext v op.Take (Load p) → is_whole v.frame (us ++ x ∷ []) ≡ true
    → chain_of v.frame (us ++ x ∷ []) ≡ cs → 0 < device_left e.doing (length e.pieces.items)
    → length e2.guesses.items ≡ length e.guesses.items
    → Goes e (record e {
      taken = e.taken + 1;
      entry = next_place e.entry e.size;
      running = with_item e.running h (Some e.taken);
      guesses = e2.guesses;
      shown = not (shows r (e.taken + 1));
      pieces = e2.pieces;
      doing = step.Idle;
    }) v op.Take (Load p) x
    (act.Taken e.taken cs)
takes_whole e e2 v r w h p x us cs st in_take is_head limited new told next end is_chain left guesses =
    let f : Frame = v.frame in let s : List DeviceDone = v.done in let t : ℕ = length (takes s) in
    let ws : List ℕ = us ++ x ∷ [] in
    let is_told : cs ≡ told.chain = sym is_chain ∙ (told.complete end).1 in
    let longer = length_push (takes s) cs in
    let w' : DeviceView = record v { done = Take cs h ∷ s; shown = not (shows r (t + 1)); doing = now.Idle } in
    let is_after : device_after v op.Take (Load p) x ≡ w' =
    ap (λ u. device_after_at u v op.Take (Load p) x) in_take.was
    ∙ ap (λ b. if b then device_takes v r w ws else record v { doing = now.Taking (r ∷ w ∷ ws) }) end
    ∙ ap (λ (c : List Piece). record v { done = Take c (loaded_head f t w) ∷ s; shown = not (shows r (t + 1)); doing = now.Idle })
    is_chain ∙ ap (λ k. record v { done = Take cs k ∷ s; shown = not (shows r (t + 1)); doing = now.Idle }) is_head in
    let e' : SplitDevice = record e {
      taken = e.taken + 1;
      entry = next_place e.entry e.size;
      running =
          with_item e.running h (Some e.taken);
      guesses = e2.guesses;
      shown = not (shows r (e.taken + 1));
      pieces = e2.pieces;
      doing =
          step.Idle;
    } in
    record {
      next = next;
      of_it = subst (λ b. IsDeviceOp b op.Take) (sym in_take.begun) refl;
      stands = subst (λ u. DeviceStands e' u) (sym is_after) record {
        made = st.made;
        counts = record {
          takes = omega (arith, st.counts.takes, longer);
          gives = st.counts.gives;
          entry_at = ap (λ k. next_place k e.size) st.counts.entry_at ∙ ap (λ k. next_place (t % f.size) k) st.made.sized
              ∙ next_mod t f.size st.made.lawful.some_place ∙ ap (λ k. k % f.size) (sym longer);
          used_at = st.counts.used_at;
        };
        holds = subst (λ k. HoldsRunning (slice_set e.running.items h (Some k)) (length e2.guesses.items) f (Take cs h ∷ s))
            (sym st.counts.takes) (holds_more e.running.items (length e.guesses.items) (length e2.guesses.items) h f s cs st.holds new
            guesses);
        area = st.area;
        wide = st.wide;
        shown = ap (λ k. not (shows r (k + 1))) st.counts.takes;
        kick = st.kick;
        signals = record {
          is_armed = not_armed e v st in_take.off
              ∙ sym (ap (λ (b : Bool). if b then Some (length (takes (Take cs h ∷ s))) else None) in_take.off);
          hears = st.signals.hears;
          rings = st.signals.rings;
          few = omega (arith, st.signals.few);
          awake = tt;
        };
        doing = refl;
      };
      is = ap (λ k. act.Taken k cs) st.counts.takes ∙ ap (act.Taken t) (sym is_chain)
          ∙ sym (ap (λ u. device_act_at u v op.Take (Load p) x) in_take.was
          ∙ ap (λ b. if b then act.Taken t (chain_of f ws) else act.Moved) end);
      left = left;
      says = subst (λ b. DeviceSays split_words (act.Taken e.taken cs) b DeviceOp.idle f s (device_after v op.Take (Load p) x).done)
          (sym in_take.begun) (
            h,
            refl,
            refl,
            st.counts.takes,
            ap (λ (y : DeviceView). y.done) is_after,
            subst (λ (c : List Piece). IsTaken split_words f s c h) (sym is_told) record {
              fits = told.fits;
              limited = limited;
              room =
                  told.room;
              inside = new.inside;
              apart = new.apart;
              control = told.control;
            },
          );
      rests = refl;
    }
