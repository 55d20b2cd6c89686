use Rattle.std.proofs.Common.{ℕ, false, true, refl, rules}
use Rattle.vd_model.specs.declared.features.Features.{Features}
use Rattle.vd_ring.specs.declared.frame.Frame.{Frame}
use Rattle.vd_ring.specs.Fresh.{fresh_driver}
use Rattle.vd_layout.specs.Layout.{IsMadeWith}
use Rattle.vd_packed.specs.laws.PackedLayout.{packed_layout}
use Rattle.vd_packed.proofs.tests.rows.ends_of_a_fresh_ring.Goals as goal

plain : Features
plain = record { indirect = false; event_idx = false; in_order = false }

fresh : Frame
unfolding plain
fresh = record { ring = 0; packed = true; size = 3; features = plain; control = true; bounds = Rattle.std.proofs.Common.None }

made : IsMadeWith packed_layout 3 plain true fresh
unfolding plain fresh
made = record { packed = refl; size = refl; features = refl; control = refl }

pub next_head-requires : goal.next_head-requires
unfolding plain fresh
next_head-requires g c = (fresh_driver fresh (packed_layout.width fresh), c.in_ok-driver.ensures.drives fresh made, search rules)
