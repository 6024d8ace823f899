-- `good_attribute`: its name, its numbers and how wide they are. Assumes nothing.
use Rattle.names.specs.Names.{names}
use Rattle.ranges.specs.Entry.{good_attribute}
use Rattle.ranges.proofs.good_attribute.Goals as goal

pub returns : goal.returns
unfolding good_attribute names
returns c =
    rw (
      c.good_numbers.ensures,
      c.attribute_numbers.ensures,
      c.attribute_absent.ensures,
      c.attribute_form.ensures,
      c.is_within.ensures,
      c.attribute_name.ensures,
      c.attribute_numbers_span-span.ensures,
    )
