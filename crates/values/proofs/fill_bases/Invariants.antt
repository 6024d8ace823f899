-- `fill_bases`: the sum so far is the next base, and those before stand. Assumes nothing.
use mathlib.Core.Path.{◌≡◌}
use Rattle.values.specs.Claims.{base_of, fill_below}
use Rattle.values.proofs.fill_bases.Given as goal

abbrev pub invariant-loop-i : goal.invariant-loop-i
invariant-loop-i z = (z.sum ≡ base_of z.x z.i) × (z.bases ≡ fill_below (base_of z.x) z.i z.initial.bases)
