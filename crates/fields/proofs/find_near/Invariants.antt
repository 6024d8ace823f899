-- `find_near` meets its contract: a byte that was passed is not the one, so the end is the same from the next place.
use mathlib.Core.Path.{◌≡◌}
use Rattle.fields.specs.Cut.{end_from}
use Rattle.fields.proofs.find_near.Given as goal

abbrev pub invariant-loop-i : goal.invariant-loop-i
invariant-loop-i z =
    end_from z.byte z.i z.s ≡ end_from z.byte z.start z.s
