-- `good_region`: its list in range. Assumes nothing.
use Rattle.tables.specs.Layout.{blocks_in}
use Rattle.ranges.specs.Entry.{good_region}
use Rattle.ranges.proofs.good_region.Goals as goal

pub returns : goal.returns
unfolding good_region blocks_in
returns c =
    rw (
      c.good_list.ensures,
      c.blocks_span.ensures,
      c.counts.ensures,
    )
