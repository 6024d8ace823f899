-- `good_block`: its lists in range. Assumes nothing.
use Rattle.ranges.proofs.Tests.{block_tests}
use Rattle.ranges.proofs.good_block.Goals as goal

pub returns : goal.returns
returns c =
    rw (
      c.good_list-2.ensures,
      c.operations_span.ensures,
      c.counts-2.ensures,
      c.good_list.ensures,
      c.arguments_span.ensures,
      c.counts.ensures,
    ) (block_tests c.args.x.now c.args.id)
