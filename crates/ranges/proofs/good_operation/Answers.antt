-- `good_operation`: its opcode, its lists and its attributes in range. Assumes nothing.
use Rattle.ranges.proofs.Tests.{operation_tests}
use Rattle.ranges.proofs.good_operation.Goals as goal

pub returns : goal.returns
returns c =
    rw (
      c.fits.ensures,
      c.good_list-3.ensures,
      c.regions_span.ensures,
      c.good_list-2.ensures,
      c.operands_span.ensures,
      c.good_list.ensures,
      c.result_types_span.ensures,
      c.opcode.ensures,
      c.attributes_span-attributes.ensures,
      c.counts-n.ensures,
    ) (operation_tests c.args.x.now c.args.id)
