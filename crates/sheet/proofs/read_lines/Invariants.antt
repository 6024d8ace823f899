-- `read_lines` meets its contract: the lines from the cursor on, after those before it, give what the whole text gives.
use Prim.Native.Nat.{◌+◌, ◌-◌, ◌≤◌}
use mathlib.Core.Path.{◌≡◌}
use lib.ListN.{length, drop}
use Rattle.fields.specs.Cut.{split}
use Rattle.std.specs.Prelude.{Ok}
use Rattle.sheet.specs.Line.{kind_of, key_of}
use Rattle.sheet.specs.Sheet.{state, lines_of, fresh}
use Rattle.sheet.proofs.read_lines.Given as goal

abbrev pub invariant-loop-last : goal.invariant-loop-last
invariant-loop-last z =
    (z.p ≤ length z.text) × (z.line ≤ z.p + 1) × (length z.sheet ≡ length z.initial.sheet)
    × (lines_of (state (kind_of z.last) (key_of z.last) z.line z.p z.sheet (Ok tt)) (split 10 (drop z.p z.text)) ≡ lines_of (fresh z.initial.sheet) (split 10 z.text))

abbrev pub decreases-loop-last : goal.decreases-loop-last
decreases-loop-last z = length z.text - z.p
