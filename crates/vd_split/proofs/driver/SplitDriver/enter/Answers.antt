use Rattle.std.proofs.Common.{◌≡◌, ℕ, ◌+◌, ◌/◌, ◌%◌, ◌*◌, slice_index, ap, ◌∙◌, arith}
use Rattle.std.proofs.lemmas.List.{get_or_read}
use Rattle.std.specs.Vec.{with_item}
use Rattle.vd_bits.specs.Lanes.{set_lane16}
use Rattle.vd_words.specs.declared.access.Access.TheVariants.{Store}
use Rattle.vd_words.specs.declared.access.Op.TheVariants as op
use Rattle.vd_ring.specs.declared.act.DriverAct.TheVariants as act
use Rattle.vd_split.specs.declared.driver.SplitDriver.{SplitDriver}
use Rattle.vd_split.specs.declared.driver.DriverStep.TheVariants as step
use Rattle.vd_split.specs.laws.DriverSteps.{made}
use Rattle.vd_split.specs.laws.DriverPublishing.{enter_goes, head_small, entry_below}
use Rattle.vd_split.proofs.driver.SplitDriver.enter.Goals as goal

-- the word, from what the body read
word_of : (e : SplitDriver) (x old h : ℕ) → x ≡ set_lane16 old ((e.entry + 2) % 4) h
    → old ≡ slice_index e.area.items ((e.entry + 2) / 4) → h ≡ slice_index e.free.items 0
    → x ≡ set_lane16 (slice_index e.area.items ((e.entry + 2) / 4)) ((e.entry + 2) % 4) (slice_index e.free.items 0)
word_of e x old h a b c = a ∙ ap (λ w. set_lane16 w ((e.entry + 2) % 4) h) b
    ∙ ap (λ k. set_lane16 (slice_index e.area.items ((e.entry + 2) / 4)) ((e.entry + 2) % 4) k) c

pub overflow_cast-head : goal.overflow_cast-head
overflow_cast-head g c = omega (
  arith,
  (head_small c.args.self.now c.requires.own.0 c.requires.now c.requires.own.1).1,
  c.place_at-head.ensures,
)

pub access-requires : goal.access-requires
access-requires g c =
    let e : SplitDriver = c.args.self.now in let x : ℕ = c.set_lane_at-word.result in
    c.requires.own.2.may op.Offer (Store (2 * e.size + (e.entry + 2) / 4) x)
    (enter_goes e c.requires.own.0 0 x c.requires.now c.requires.own.1
    (word_of e x c.index.result.now c.place_at-head.result c.set_lane_at-word.ensures
    (get_or_read e.area.items ((e.entry + 2) / 4) c.index.result.now (entry_below e c.requires.own.0 c.requires.own.1).0
    c.index.ensures 0) c.place_at-head.ensures)).next

pub returns : goal.returns
returns g c = λ v st own.
    let e : SplitDriver = c.args.self.now in let x : ℕ = c.set_lane_at-word.result in
    let go = enter_goes e v c.access.result x c.requires.now st
    (word_of e x c.index.result.now c.place_at-head.result c.set_lane_at-word.ensures
    (get_or_read e.area.items ((e.entry + 2) / 4) c.index.result.now (entry_below e v st).0 c.index.ensures 0)
    c.place_at-head.ensures) in
    made g.P.Port.port c.args.port.now c.access.new.self e
    (record e { area = with_item e.area ((e.entry + 2) / 4) x; doing = step.Publish }) v op.Offer
    (Store (2 * e.size + (e.entry + 2) / 4) x) c.access.result act.Moved go c.access.ensures
