use Rattle.std.proofs.Common.{◌≡◌, ◌++◌, drop, map}
use Rattle.vd_machine.specs.Canon.{more_items, region_text}
use Rattle.vd_machine.proofs.listing.print_more_regions.Given as goal

abbrev pub invariant-loop-region : goal.invariant-loop-region
invariant-loop-region l =
    l.out.items ++ more_items (map region_text (drop l.region-index l.regions)) ≡ l.fn.out.items ++ more_items (map region_text l.regions)
