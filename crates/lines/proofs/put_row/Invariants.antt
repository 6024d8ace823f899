-- `put_row` meets its contract: the cells that are left, written after those that are, are the whole row.
use Prim.Native.Nat.{◌+◌}
use mathlib.Core.Path.{◌≡◌}
use lib.ListN.{drop}
use lib.Seq.{sets}
use Rattle.lines.proofs.put_row.Given as goal

abbrev pub invariant-loop-i : goal.invariant-loop-i
invariant-loop-i g z =
    sets z.table (z.at + z.i) (drop z.i z.row) ≡ sets z.initial.table z.at z.row
