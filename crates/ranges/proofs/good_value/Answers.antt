-- `good_value`: a type that there is, a flag and a claim. Assumes nothing.
use Rattle.ranges.specs.Entry.{good_value}
use Rattle.ranges.proofs.good_value.Goals as goal

pub returns : goal.returns
unfolding good_value
returns c =
    rw (
      c.value_type.ensures,
      c.counts.ensures,
      c.claim_flag.ensures,
      c.good_claim.ensures,
      c.claim.ensures,
    )
