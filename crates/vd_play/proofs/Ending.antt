-- What a still lane is after the last epoch, once its guest is done.
use Rattle.std.proofs.Common.{◌≡◌, ℕ, ◌+◌, Option, Some, None, false, List, length, map, take, flat_map, sym, ◌∙◌, ap, subst, arith}
use Rattle.std.proofs.Math.Seq.{take-length}
use Rattle.std.proofs.lemmas.List.{length-map, take_all}
use Rattle.vd_model.specs.declared.record.Begun.{Begun}
use Rattle.vd_words.specs.Plain.{RingWords}
use Rattle.vd_ring.specs.declared.frame.Frame.{Frame}
use Rattle.vd_ring.specs.History.{collects, takes, gives}
use Rattle.vd_ring.specs.Lists.{Lists}
use Rattle.vd_bus.specs.Device.{chains_of, lens_of}
use Rattle.vd_bus.specs.Guest.{IsHalt, as_return}
use Rattle.vd_machine.specs.File.{Plan}
use Rattle.vd_play.specs.declared.floor.Relaying.{Relaying}
use Rattle.vd_play.specs.Journal.{queue_script, queue_chains, queue_epochs, epoch_events, IsReturned}
use Rattle.vd_play.specs.Before.{events_before, chains_before, begun_at}
use Rattle.vd_play.specs.Played.{IsPlayed}
use Rattle.vd_play.specs.Progress.{IsStopped, InEpochWith}
use Rattle.vd_play.specs.Setting.{Setting, IsLawful}
use Rattle.vd_play.proofs.Lists.{prefix_take, prefix_whole}
use Rattle.vd_play.proofs.Moves.{before_all}
use Rattle.vd_play.proofs.Returns.{all_returned}

module _ {D E G X C : Type 0} (s : Setting D E G X C) (law : IsLawful s) (plan : Plan) (q : ℕ) where
  -- once its guest is halted, the queue is played
  pub ends : (k r : ℕ) (words : RingWords) (end : E) (relayed : ℕ) (guest guest' : G) (device : X) (driver : D)
      → length (queue_epochs plan q) ≡ k → s.guest.is_done guest → IsHalt s.driver s.guest guest guest' driver
      → IsStopped s plan q k r words end relayed guest device → IsPlayed s plan q guest' device
  ends k r words end relayed guest guest' device driver last done h p =
      let v = p.view in
      let w = p.device_view in
      let d = p.kept.driven in
      let f : Frame = v.frame in
      let bs : List Begun = s.party.begun device in
      let lists : Lists f v.done w.done = law.layout.lists words.words v w d.ring in
      let all = law.guest.done guest v (queue_script plan q) d.part.holds d.part.script d.queue.plain done in
      let even : length (takes w.done) ≡ length (gives w.done) = (law.layout.device_end.whole end w p.rests.stands p.rests.still).1 in
      let taken : length (takes w.done) ≡ length (queue_chains plan q) = p.rests.taken ∙ ap (begun_at plan q) (sym last)
      ∙ d.queue.chained.whole in
      let whole : collects v.done ≡ gives w.done =
      prefix_whole (collects v.done) (gives w.done)
      (prefix_take (collects v.done) (gives w.done) (length (collects v.done)) lists.collected)
      (omega (arith, all.collects, even, taken)) in
      let list : s.guest.returned guest' ≡ map as_return (gives w.done) =
      h.returned ∙ law.guest.returned guest v (queue_script plan q) d.part.holds d.part.script d.queue.plain
      ∙ ap (map as_return) whole in
      let lens : length (lens_of bs) ≡ length (gives w.done) = length-map bs (λ b. b.len)
      ∙ p.rests.begun ∙ sym p.rests.taken ∙ even in
      let front : take (begun_at plan q k) bs ≡ bs = take_all (begun_at plan q k) bs (omega (arith, p.rests.begun)) in
      record {
        journal = record {
          events = p.rests.events ∙ ap (events_before s.device s.layout plan q) (sym last)
              ∙ ap (flat_map (epoch_events s.device s.layout plan q)) (take-length (queue_epochs plan q));
          chains = ap chains_of (sym front) ∙ p.kept.account.before ∙ ap (chains_before plan q) (sym last) ∙ before_all plan q;
          each = p.kept.account.each;
        };
        free = p.rests.free;
        script = h.script ∙ d.part.script;
        offered = h.offered ∙ law.guest.offered guest v d.part.holds ∙ ap length all.offers;
        returned = subst (λ (z : Frame). IsReturned z.features.in_order (lens_of bs) (s.guest.returned guest'))
            d.part.framed (all_returned f v.done w.done (lens_of bs) (s.guest.returned guest') lists even lens p.kept.given list);
        halted = h.free;
      }

module _ {L D E G X C : Type 0} (s : Setting D E G X C) (law : IsLawful s) (plan : Plan) (q : ℕ) where
  pub halts : (k r : ℕ) (words : RingWords) (still : Option E) (relaying : Option (Relaying L D E)) (relayed : ℕ) (guest guest' : G)
      (device : X) (driver : D) → length (queue_epochs plan q) ≡ k + 1 → s.guest.is_done guest
      → IsHalt s.driver s.guest guest guest' driver → InEpochWith s plan q false k r words still relaying relayed guest device
      → IsPlayed s plan q guest' device
  halts k r words None None relayed guest guest' device driver last done h p = absurd p
  halts k r words None (Some x) relayed guest guest' device driver last done h p = absurd p
  halts k r words (Some end) (Some x) relayed guest guest' device driver last done h p = absurd p
  halts k r words (Some end) None relayed guest guest' device driver last done h p =
      ends s law plan q (k + 1) r words end relayed guest guest' device driver last done h p
