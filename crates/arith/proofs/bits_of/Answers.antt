-- `bits_of` meets its contract: it is how the language writes the bits.
use mathlib.Core.Path.{sym, ◌∙◌}
use mir.Facts.{to_z-of_z}
use Rattle.arith.proofs.Laws.{bits_is}
use Rattle.arith.proofs.bits_of.Goals as goal

pub returns : goal.returns
returns c =
    simp (to_z-of_z c.ranges.z) at c.cast_unsigned.ensures ∙ sym (bits_is c.args.z)
