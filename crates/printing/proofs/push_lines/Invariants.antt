-- `push_lines` meets its contract. The loop's invariant: the lines still to be laid, from here, give all of them from the start.
use Prim.Native.Nat.{◌≤◌}
use mathlib.Core.Path.{◌≡◌}
use lib.ListN.{length, drop}
use Rattle.printing.specs.Laid.{state, laid}
use Rattle.printing.specs.Lines.{lines}
use Rattle.printing.proofs.push_lines.Given as goal

abbrev pub invariant-loop-i : goal.invariant-loop-i
invariant-loop-i z =
    (length z.out ≡ length z.initial.out)
    × (z.i ≤ length z.lengths)
    × (laid (lines z.letter z.outer z.width z.i (drop z.i z.lengths) z.left) (state z.next z.out) ≡ laid (lines z.letter z.outer z.width 0 z.lengths z.list) (state z.at z.initial.out))
