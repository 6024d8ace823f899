-- `Cursor::new`: field 2 starts after the first tab.
use native.Mathlib.Omega.{arith}
use Rattle.lines.proofs.Moving.{end_few, starts_next, start_first}
use Rattle.lines.proofs.Cursor.new.Goals as goal

pub overflow_add-result : goal.overflow_add-result
overflow_add-result c =
    omega (arith, end_few 9 0 c.args.line.now, c.find.ensures)

pub invariant_of-result : goal.invariant_of-result
invariant_of-result c =
    record { stands = starts_next c.args.line.now 0 0 (start_first c.args.line.now) c.find.result c.find.ensures }
