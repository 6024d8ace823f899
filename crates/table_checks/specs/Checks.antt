-- The table checks in turn. "The full check over tables asks 16, 1, 2, 3, 4 in turn"; "Each part called alone asks 1 to 4 first (16
-- before, if lent the target)."
use Rattle.std.specs.Prelude.{Bool, true, false, ◌&&◌, ◌||◌, cond, List, ℕ, eqb, Option, Some, None, Ok, Err}
use Rattle.requirements.specs.Target.{target_feature}
use Rattle.tables.specs.Tables.{Tables}
use Rattle.tables.specs.Answer.{and_then, Answer}
use Rattle.tables.specs.declared.Target.{Target}
use Rattle.tables.specs.declared.Refusal.TheVariants.{NoTarget}
use Rattle.ranges.specs.Range.{table_ranges, sheet_range}
use Rattle.listed.specs.Twice.{listed_twice}
use Rattle.walk.specs.Depth.{too_deep}
use Rattle.values.specs.Twice.{values_twice}

-- 16: "version not 13.2, 13.3, 13.4 or sm not in `TARGETS` | 0, 0"
abbrev pub is_target : Option ℕ → Bool
is_target (Some f) = true
is_target None = false

unfoldable pub is_version : ℕ → Bool
is_version minor = eqb minor 2 || eqb minor 3 || eqb minor 4

abbrev pub good_target : Target → Bool
good_target g = is_version g.version && is_target (target_feature g.sm)

unfoldable pub target_check : Target → Answer
target_check g = cond (good_target g) (Ok tt) (Err NoTarget)

-- 2, 3 and 4
abbrev pub after_ranges : Tables → Answer
after_ranges x = and_then (listed_twice x) (and_then (too_deep x) (values_twice x))

-- 1 over the tables, then 2, 3 and 4
unfoldable pub table_checks : Tables → Answer
table_checks x = and_then (table_ranges x) (after_ranges x)

-- the same with a sheet, which is table 8 of code 1
unfoldable pub sheet_checks : List ℕ → Tables → Answer
sheet_checks sheet x = and_then (table_ranges x) (and_then (sheet_range sheet) (after_ranges x))
