-- What the theorems on places and numbers ask of tables, from the table checks' answer. Assumes nothing.
use Prim.Native.Nat.{ℕ, ◌≤◌}
use native.Mathlib.Omega.{arith}
use mathlib.Core.Path.{◌≡◌}
use mathlib.Core.Logic.{⊎_elim}
use Rattle.cells.specs.Lists.{below, count}
use Rattle.cells.proofs.Rows.{lt_or_ge}
use Rattle.tables.specs.Tables.{Tables, arguments}
use Rattle.std.specs.Prelude.{Ok}
use Rattle.table_checks.specs.Checks.{table_checks}
use Rattle.table_checks.proofs.Laws.{passes_1, passes_4}
use Rattle.table_checks.proofs.Reach.{operations_once, blocks_once, regions_once, flat_past}
use Rattle.nesting.specs.Passed.{Apart, Single, all_arguments}

module _ (x : Tables) (e : table_checks x ≡ Ok tt) where
  -- codes 1 and 2
  pub apart : Apart x
  apart = record { operations = operations_once x e; blocks = blocks_once x e; regions = regions_once x e }

  no_argument : (v : ℕ) → x.counts.values ≤ v → count v (all_arguments x) ≡ 0
  no_argument v g = flat_past v x.counts.values g (arguments x) (passes_1 x e).arguments_below (below x.counts.blocks)

  -- codes 1 and 4
  pub single : Single x
  single = record {
    in_range = λ v h. ⊎_elim (λ l. l) (λ g. absurd (omega (arith, no_argument v g))) (lt_or_ge v x.counts.values);
    listed_once = (passes_4 x e).arguments;
    not_both = (passes_4 x e).results;
    one_claim = (passes_4 x e).claims;
  }
