-- What a lane with a relay has begun and given.
use Rattle.std.proofs.Common.{◌≡◌, ℕ, ◌-◌, ◌<◌, ◌≤◌, Some, List, [], ◌∷◌, ◌++◌, length, map, take, drop, slice_get, zero, suc, refl, sym, ◌∙◌, ap, subst, arith}
use Rattle.std.specs.List.{All}
use Rattle.std.proofs.lemmas.List.{map-append, length-map, length-drop, drop-map, take-append-drop, get_or_default, get_or-map}
use Rattle.std.proofs.lemmas.Option.{slice_get-get_or}
use mathlib.Core.List.{IsPrefix}
use Rattle.vd_model.specs.declared.chain.Piece.{Piece}
use Rattle.vd_model.specs.declared.map.Mapping.{Mapping}
use Rattle.vd_model.specs.declared.record.Begun.{Begun}
use Rattle.vd_model.specs.Moved.{moved}
use Rattle.vd_words.specs.Plain.{RingWords}
use Rattle.vd_ring.specs.declared.driver.DriverView.{DriverView}
use Rattle.vd_ring.specs.declared.device.DeviceView.{DeviceView}
use Rattle.vd_ring.specs.declared.frame.Used.{Used}
use Rattle.vd_ring.specs.History.{takes, gives, used_at, entry}
use Rattle.vd_bus.specs.declared.device.Attached.{Attached}
use Rattle.vd_bus.specs.Device.{chains_of, lens_of}
use Rattle.vd_relay.specs.declared.counts.Counts.{Counts}
use Rattle.vd_relay.specs.declared.state.State.{State}
use Rattle.vd_relay.specs.Tie.{since}
use Rattle.vd_switch.specs.ShadowingLanes.{KeepsShadowing, lane_begun, begun_back}
use Rattle.vd_switch.proofs.ShadowingLanes as switch
use Rattle.vd_machine.specs.File.{Plan}
use Rattle.vd_play.specs.Before.{begun_at, chains_within}
use Rattle.vd_play.specs.Epochs.{Epoch}
use Rattle.vd_play.specs.Journal.{queue_chains, queue_epochs, epoch_chains, journal_chains, tree_map}
use Rattle.vd_play.specs.Lane.{HasGiven}
use Rattle.vd_play.specs.Setting.{Setting, IsLawful}
use Rattle.vd_play.specs.Shadowed.{IsRelayed}
use Rattle.vd_play.proofs.Bounds.{bounded}
use Rattle.vd_play.proofs.Keep.{prefix_of}
use Rattle.vd_play.proofs.Lists.{some_same, prefix_take, prefix_through}
use Rattle.vd_play.proofs.Moves.{within_prefix}
use Rattle.vd_play.proofs.Parts.{drop_prefix, own_part, shadow_part, begun_within}

-- a list that has so many in front
take_low : {A : Type 0} (n : ℕ) (xs : List A) → length (take n xs) ≡ n → n ≤ length xs
take_low zero xs h = omega arith
take_low (suc n) [] h = absurd (omega arith)
take_low (suc n) (x ∷ xs) h = omega (arith, take_low n xs (omega (arith, h)))

back_lens : (ms : List Mapping) (bs : List Begun) → map (λ (x : List Piece × ℕ). x.1) (map (begun_back ms) bs) ≡ lens_of bs
back_lens ms [] = refl
back_lens ms (b ∷ bs) = ap (λ ks. b.len ∷ ks) (back_lens ms bs)

module _ {D E G X C : Type 0} (s : Setting D E G X C) (law : IsLawful s) (plan : Plan) (q k : ℕ) (words : RingWords)
    (shadow_words : List ℕ) (r : State E D) (c : Counts) (guest : G) (device : X) (by : Attached) (v : DriverView) (w : DeviceView)
    (sv : DriverView) (sw : DeviceView) (p : IsRelayed s plan q k words shadow_words r c guest device by v w sv sw) where
  abbrev begun : List Begun
  begun = s.party.begun device

  abbrev all : List (List Piece × ℕ)
  all = lane_begun p.start p.old begun by

  pub lane_kept : KeepsShadowing p.start p.old r begun by v w sv sw
  lane_kept = switch.keeps s.device s.driver s.layout law.layout p.start p.old r begun by words.words shadow_words v w sv sw p.lane

  -- the lane's account has the journal's lengths
  pub lane_lens : map (λ (x : List Piece × ℕ). x.1) all ≡ lens_of begun
  lane_lens =
      let n : ℕ = begun_at plan q k in
      let len : Begun → ℕ = λ b. b.len in
      let ms : List Mapping = p.start.map in
      map-append (λ (x : List Piece × ℕ). x.1) p.old (map (begun_back ms) (drop by.at begun))
      ∙ ap (λ ks. ks ++ map (λ (x : List Piece × ℕ). x.1) (map (begun_back ms) (drop by.at begun))) p.lens
      ∙ ap (λ ks. take n (lens_of begun) ++ ks) (back_lens ms (drop by.at begun) ∙ sym (drop-map len by.at begun)
      ∙ ap (λ j. drop j (lens_of begun)) p.took_over.2)
      ∙ take-append-drop n (lens_of begun)

  -- what was given on the guest's ring has the length that the journal has for it
  pub given_shadowing : All (HasGiven (lens_of begun)) (gives w.done)
  given_shadowing j d below =
      let u : Used = used_at (gives w.done) j in
      let none : List Piece × ℕ = ([], 0) in
      let second : List Piece × ℕ → ℕ = λ x. x.1 in
      let inside : u.number < length all = lane_kept.lawful.inside j below in
      let here : slice_get (lens_of begun) u.number ≡ Some u.len =
      ap (λ ks. slice_get ks u.number) (sym lane_lens)
      ∙ slice_get-get_or (map second all) u.number 0 (omega (arith, inside, length-map all second))
      ∙ ap Some (get_or-map second all u.number none 0 inside ∙ lane_kept.lawful.lengths j none below) in
      subst (HasGiven (lens_of begun)) (get_or_default (gives w.done) j (entry 0 0) d below) here

  -- ---- the chains

  -- what the relay took over was taken
  taken_over : since p.start ≤ length (takes w.done)
  taken_over =
      let count = switch.begun_count s.device s.driver s.layout law.layout p.start p.old r begun by words.words shadow_words v w sv sw
      p.lane in
      let first : List Piece × ℕ → List Piece = λ x. x.0 in
      let low : length all ≤ length (takes w.done) = take_low (length all) (takes w.done)
      (ap length (sym lane_kept.chains) ∙ length-map all first) in
      omega (arith, count, low)

  -- what the device has begun since its attach: the first ones of the epoch's chains
  pub shadow_chains : (ep : Epoch) → slice_get (queue_epochs plan q) k ≡ Some ep
      → chains_of (drop (begun_at plan q k) begun) ≡ take (length begun - begun_at plan q k) (epoch_chains plan q ep)
  shadow_chains ep is =
      let n : ℕ = begun_at plan q k in
      let b = p.driven.queue.chained.at k ep is in
      let mode = (p.driven.queue.numbered.at k ep is).1 ∙ p.mode in
      let xs : List (List Piece) = take (length (takes sw.done)) (drop (since p.start) (takes w.done)) in
      let journal : chains_of (drop by.at begun) ≡ map (moved p.start.map) xs =
      switch.journal s.device s.driver s.layout law.layout p.start p.old r begun by words.words shadow_words v w sv sw p.lane in
      let here : chains_of (drop n begun) ≡ map (moved (tree_map plan)) xs =
      ap (λ j. chains_of (drop j begun)) (sym p.took_over.2) ∙ journal ∙ ap (λ ms. map (moved ms) xs) p.moves in
      let many : length xs ≡ length begun - n = sym (length-map xs (moved (tree_map plan))) ∙ ap length (sym here)
      ∙ length-map (drop n begun) (λ (z : Begun). z.chain) ∙ length-drop n begun in
      let taken : IsPrefix (drop (since p.start) (takes w.done)) (drop (since p.start) (queue_chains plan q)) =
      drop_prefix (since p.start) (takes w.done) (queue_chains plan q) (prefix_of s law plan q words guest v w p.driven) taken_over in
      let front : IsPrefix xs (drop (since p.start) (queue_chains plan q)) = prefix_through xs (drop (since p.start) (takes w.done))
      (drop (since p.start) (queue_chains plan q))
      (prefix_take xs (drop (since p.start) (takes w.done)) (length (takes sw.done)) refl) taken in
      let next = bounded (length (queue_chains plan q)) (queue_epochs plan q) k p.driven.queue.chained p.epoch in
      let same : next.epoch ≡ ep = some_same next.epoch ep (slice_get (queue_epochs plan q) k) next.is is in
      let own = own_part plan q (since p.start) ep xs (p.took_over.0 ∙ sym b.0) front
      (omega (arith, many, p.lane.serves.few, p.took_over.2, p.to, b.0, next.end, ap (λ (z : Epoch). z.end) same)) in
      here ∙ ap (map (moved (tree_map plan))) own ∙ shadow_part s.layout plan q (length xs) ep mode p.driven.queue.tree p.driven.queue.fits
      ∙ ap (λ j. take j (epoch_chains plan q ep)) many

  pub shadow_within : (ep : Epoch) → slice_get (queue_epochs plan q) k ≡ Some ep
      → chains_of begun ≡ chains_within plan q k ep (length begun - begun_at plan q k)
  shadow_within ep is = begun_within plan q k (begun_at plan q k) (length begun - begun_at plan q k) ep begun p.account.before
      (shadow_chains ep is)

  pub shadow_prefix : IsPrefix (chains_of begun) (journal_chains plan q)
  shadow_prefix =
      let b = bounded (length (queue_chains plan q)) (queue_epochs plan q) k p.driven.queue.chained p.epoch in
      subst (λ zs. IsPrefix zs (journal_chains plan q)) (sym (shadow_within b.epoch b.is))
      (within_prefix plan q k (length begun - begun_at plan q k) b.epoch b.is)
