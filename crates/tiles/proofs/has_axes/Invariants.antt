-- `has_axes` meets its contract: every axis before this one is there.
use mathlib.Core.Path.{◌≡◌}
use mathlib.Core.Bool.{true}
use Rattle.tiles.specs.Rules.{has_axes}
use Rattle.tiles.proofs.has_axes.Given as goal

abbrev pub invariant-loop-axis : goal.invariant-loop-axis
invariant-loop-axis l = has_axes l.entries l.axis-counter ≡ true
