-- Version and architecture called alone: "Each part called alone asks 1 to 4 first (16 before, if lent the target)."
use Rattle.tables.specs.Tables.{Tables}
use Rattle.tables.specs.Answer.{and_then, Answer}
use Rattle.tables.specs.declared.Target.{Target}
use Rattle.walk.specs.Order.{order}
use Rattle.table_checks.specs.Checks.{target_check, table_checks}
use Rattle.capabilities.specs.Ask.{capabilities}

unfoldable pub capabilities_alone : Target → Tables → Answer
capabilities_alone g x = and_then (target_check g) (and_then (table_checks x) (capabilities g x (order x)))
