-- `read_to_end` is safe and ends: each turn reads at least a byte, and never past the text's end.
use Prim.Native.Nat.{◌-◌, ◌≤◌}
use lib.ListN.{length}
use Rattle.lavrindes.proofs.files.read_to_end.Given as goal

abbrev pub invariant-loop-done : goal.invariant-loop-done
invariant-loop-done g z = z.done ≤ length z.text

abbrev pub decreases-loop-done : goal.decreases-loop-done
decreases-loop-done g z = length z.text - z.done
