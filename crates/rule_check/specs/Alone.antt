-- The operation rules called alone: "Each part called alone asks 1 to 4 first (16 before, if lent the target)." The sheet is table 8.
use Rattle.std.specs.Prelude.{ℕ, List}
use Rattle.tables.specs.Tables.{Tables}
use Rattle.tables.specs.Answer.{and_then, Answer}
use Rattle.tables.specs.declared.Target.{Target}
use Rattle.walk.specs.Order.{order}
use Rattle.table_checks.specs.Checks.{target_check, sheet_checks}
use Rattle.rules.specs.Operation.{rules}

unfoldable pub rules_alone : Target → List ℕ → Tables → Answer
rules_alone g sheet x = and_then (target_check g) (and_then (sheet_checks sheet x) (rules g.version sheet x (order x)))
