-- `read_lines` meets its contract: the lines from the cursor on, after what the lent lists hold, give what the whole text gives.
use Prim.Native.Nat.{◌+◌, ◌-◌, ◌≤◌}
use mathlib.Core.Path.{◌≡◌}
use lib.ListN.{length, take, drop}
use Rattle.fields.specs.Cut.{split}
use Rattle.number_text.specs.Text.{state, lines_of, over, fresh}
use Rattle.number_text.proofs.read_lines.Given as goal

abbrev pub invariant-loop-so_far : goal.invariant-loop-so_far
invariant-loop-so_far z =
    (z.p ≤ length z.text) × (z.line ≤ z.p + 1) × (z.so_far.count ≤ 8192) × (z.so_far.functions ≤ 64) × (length z.numbers ≡ length z.initial.numbers) × (length z.lengths ≡ length z.initial.lengths)
    × (over (take z.so_far.count z.numbers) z.initial.numbers ≡ z.numbers) × (over (take z.so_far.functions z.lengths) z.initial.lengths ≡ z.lengths)
    × (lines_of (state z.line z.p (take z.so_far.count z.numbers) (take z.so_far.functions z.lengths)) (split 10 (drop z.p z.text)) ≡ lines_of fresh (split 10 z.text))

abbrev pub decreases-loop-so_far : goal.decreases-loop-so_far
decreases-loop-so_far z = length z.text - z.p
