-- `power_of_two` meets its contract: the powers of two are the numbers with one bit set.
use mathlib.Core.Path.{◌∙◌}
use Rattle.arith.proofs.Laws.{one_bit}
use Rattle.arith.proofs.power_of_two.Goals as goal

pub returns : goal.returns
returns c = c.is_power_of_two.ensures ∙ one_bit c.args.x c.ranges.x.fits
