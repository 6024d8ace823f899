-- `push_list` meets its contract. The loop's invariant: what is still to be laid, from here, gives what was to be laid after the first entry.
use Prim.Native.Nat.{◌-◌, ◌≤◌}
use mathlib.Core.Path.{◌≡◌}
use lib.ListN.{length, drop}
use Rattle.printing.specs.Laid.{state, laid}
use Rattle.printing.specs.Lines.{others}
use Rattle.printing.proofs.push_list.Given as goal

abbrev pub invariant-loop-i : goal.invariant-loop-i
invariant-loop-i z =
    (length z.out ≡ length z.initial.out)
    × (z.i ≤ length z.list)
    × (laid (others z.outer z.i (drop z.i z.list)) (state z.next z.out) ≡ laid (others z.outer 1 (drop 1 z.list)) (state z.initial.next z.initial.out))
