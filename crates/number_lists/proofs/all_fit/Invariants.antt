-- `all_fit` meets its contract. The loop's invariant: whether the lists still to be looked at fit is whether all do.
use mathlib.Core.Path.{◌≡◌}
use lib.ListN.{drop}
use Rattle.number_lists.specs.Lists.{all_fit}
use Rattle.number_lists.proofs.all_fit.Given as goal

abbrev pub invariant-loop-i : goal.invariant-loop-i
invariant-loop-i z = all_fit z.o z.b z.r (drop z.i z.f) z.l z.n (drop z.i z.lengths) z.left ≡ all_fit z.o z.b z.r z.f z.l z.n z.lengths z.numbers
