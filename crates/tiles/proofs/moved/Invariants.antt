-- `moved` meets its contract: every dim before this one is moved as its entry says, so the rest of the entries decides.
use mathlib.Core.Path.{◌≡◌}
use lib.ListN.{drop}
use Rattle.tiles.specs.Rules.{moved_from}
use Rattle.tiles.proofs.moved.Given as goal

abbrev pub invariant-loop-i : goal.invariant-loop-i
invariant-loop-i l =
    moved_from l.src l.dst 0 l.entries ≡ moved_from l.src l.dst l.i (drop l.i l.entries)
