-- `good_type`: every column in its range. Assumes nothing.
use Rattle.ranges.specs.Entry.{good_type}
use Rattle.ranges.proofs.good_type.Goals as goal

pub returns : goal.returns
unfolding good_type
returns c =
    rw (
      c.all_signed32.ensures,
      c.type_dims.ensures,
      c.type_rank.ensures,
      c.is_signed32.ensures,
      c.type_sparse.ensures,
      c.type_padded.ensures,
      c.type_pointer.ensures,
      c.type_kind.ensures,
      c.type_form-form.ensures,
    )
