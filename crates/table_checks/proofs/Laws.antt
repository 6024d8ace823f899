-- What accepted tables have, for the parts above: codes 1, 2, 3 and 4 each passed, with a sheet or without. Assumes nothing.
use Prim.Native.Nat.{ℕ}
use native.Mathlib.Omega.{arith}
use mathlib.Core.Path.{◌≡◌}
use mathlib.Core.List.{List}
use Rattle.tables.specs.Tables.{Tables}
use Rattle.tables.specs.Answer.{and_then, Answer}
use Rattle.std.specs.Prelude.{Ok, Err}
use Rattle.tables.proofs.Each.{both_accept}
use Rattle.ranges.specs.Range.{table_ranges, sheet_range}
use Rattle.ranges.specs.Ranged.{Ranged}
use Rattle.ranges.proofs.Laws.{ranged}
use Rattle.listed.specs.Twice.{listed_twice}
use Rattle.listed.specs.Once.{Once}
use Rattle.listed.proofs.Laws.{once}
use Rattle.walk.specs.Depth.{too_deep}
use Rattle.values.specs.Twice.{values_twice}
use Rattle.values.specs.Single.{Single}
use Rattle.values.proofs.Laws.{single}
use Rattle.table_checks.specs.Checks.{after_ranges, table_checks, sheet_checks}

-- of three in turn, all accept: so do the first and the last
outer : (p q r : Answer) → and_then p (and_then q r) ≡ Ok tt → and_then p r ≡ Ok tt
outer (Ok _) (Ok _) r e = e
outer (Ok _) (Err why) r e = absurd (let z : ◌≡◌ {A = ℕ} 0 1 = cc in omega arith)
outer (Err why) q r e = e

pub tables_pass : (sheet : List ℕ) (x : Tables) → sheet_checks sheet x ≡ Ok tt → table_checks x ≡ Ok tt
unfolding sheet_checks table_checks
tables_pass sheet x e = outer (table_ranges x) (sheet_range sheet) (after_ranges x) e

module _ (x : Tables) (e : table_checks x ≡ Ok tt) where
  passed : (table_ranges x ≡ Ok tt) × (after_ranges x ≡ Ok tt)
  unfolding table_checks
  passed = both_accept (table_ranges x) (after_ranges x) e

  -- code 1
  pub passes_1 : Ranged x
  passes_1 = ranged x passed.0

  -- code 2
  pub passes_2 : Once x
  passes_2 = once x (both_accept (listed_twice x) _ passed.1).0

  -- code 3
  pub passes_3 : too_deep x ≡ Ok tt
  passes_3 = (both_accept (too_deep x) (values_twice x) (both_accept (listed_twice x) _ passed.1).1).0

  -- code 4
  pub passes_4 : Single x
  passes_4 = single x (both_accept (too_deep x) (values_twice x) (both_accept (listed_twice x) _ passed.1).1).1
