-- Code 5 called alone: "Each part called alone asks 1 to 4 first".
use Rattle.tables.specs.Tables.{Tables}
use Rattle.tables.specs.Answer.{and_then, Answer}
use Rattle.table_checks.specs.Checks.{table_checks}
use Rattle.nesting.specs.Dominance.{dominance}

unfoldable pub dominance_alone : Tables → Answer
dominance_alone x = and_then (table_checks x) (dominance x)
