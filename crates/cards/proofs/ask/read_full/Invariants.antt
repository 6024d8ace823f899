-- `read_full` is safe and ends: what is read never passes the text's end.
use Prim.Native.Nat.{◌-◌, ◌≤◌}
use lib.ListN.{length}
use Rattle.cards.proofs.ask.read_full.Given as goal

abbrev pub invariant-loop-done : goal.invariant-loop-done
invariant-loop-done z = z.done ≤ length z.text

abbrev pub decreases-loop-done : goal.decreases-loop-done
decreases-loop-done z = length z.text - z.done
