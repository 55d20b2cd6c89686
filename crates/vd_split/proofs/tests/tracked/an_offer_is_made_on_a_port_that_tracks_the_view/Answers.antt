use Rattle.std.proofs.Common.{rules, ◌∙◌, refl, ap, replicate}
use Rattle.vd_split.specs.declared.tests.tracked.Tracked.{Tracked}
use Rattle.vd_layout.specs.Layout.{CanMake}
use Rattle.vd_split.specs.laws.SplitLayout.{split_layout}
use Rattle.vd_split.specs.Tracked.{plain_features, start_driver, start_frame}
use Rattle.vd_split.specs.laws.Tracked.{made, may_start, tracks_start, own_tracked}
use Rattle.vd_split.proofs.tests.tracked.an_offer_is_made_on_a_port_that_tracks_the_view.Goals as goal

pub begin_offer-requires-clause-may : goal.begin_offer-requires-clause-may
begin_offer-requires-clause-may g c = (
  start_driver 4,
  c.in_ok-driver.ensures.drives (start_frame 4) (made 4),
  may_start 4 _ c.new-chain.result c.new-chain.ensures c.pieces.ensures.lawful (search rules) (search rules),
)

pub finish_driver-requires-clause-own : goal.finish_driver-requires-clause-own
finish_driver-requires-clause-own g c =
    let can : CanMake split_layout 4 plain_features = record { lawful = refl } in (
      start_driver 4,
      c.begin_offer.ensures.stands (start_driver 4) (c.in_ok-driver.ensures.drives (start_frame 4) (made 4))
          (may_start 4 _ c.new-chain.result c.new-chain.ensures c.pieces.ensures.lawful (search rules) (search rules)),
      own_tracked _ (λ (p : Tracked). p.size) (λ (p : Tracked). p.words.words) (λ (p : Tracked). p.log.items) (λ p op a m. m)
          (λ p q op a r m. m.1) _ (start_driver 4)
          (tracks_start 4 c.in_ok-words.words.words c.new-2.result.items can
          (c.in_ok-words.ensures.1 ∙ ap (λ n. replicate n 0) (c.words-count.ensures (start_frame 4) (made 4))) c.new-2.ensures),
    )

pub next_head-requires : goal.next_head-requires
next_head-requires g c = (start_driver 4, c.in_ok-driver.ensures.drives (start_frame 4) (made 4), search rules)
