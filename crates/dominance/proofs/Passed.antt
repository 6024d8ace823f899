-- What accepted tables give the walk: the stack takes up all that becomes live as it stands. Assumes nothing.
use Prim.Native.Nat.{ℕ, ◌≤◌}
use native.Mathlib.Omega.{arith}
use mathlib.Core.Path.{◌≡◌}
use mathlib.Core.Logic.{⊎_elim}
use Rattle.cells.specs.Lists.{below, count}
use Rattle.cells.proofs.Rows.{lt_or_ge}
use Rattle.tables.specs.Sizes.{max_values}
use Rattle.tables.specs.Tables.{Tables, arguments}
use Rattle.std.specs.Prelude.{Ok, Err}
use Rattle.tables.specs.declared.Refusal.{Refusal}
use Rattle.table_checks.specs.Checks.{table_checks}
use Rattle.table_checks.proofs.Laws.{passes_1, passes_4}
use Rattle.table_checks.proofs.Reach.{operations_once, blocks_once, regions_once, flat_past}
use Rattle.nesting.specs.Passed.{Apart, Single, all_arguments}
use Rattle.nesting.specs.Dominance.{dominance}
use Rattle.nesting.proofs.Theorems.{stack_dominance}
use Rattle.scope.specs.Stack.{see_all}
use Rattle.scope.proofs.Laws.{grows}
use Rattle.dominance.specs.Alone.{dominance_alone}
use Rattle.dominance.specs.Walk.{whole_judged}

module _ (x : Tables) (e : table_checks x ≡ Ok tt) where
  -- the largest stack has a place for each value
  pub values_fit : x.counts.values ≤ max_values
  values_fit = (passes_1 x e).values_fit

  -- codes 1 and 2
  apart : Apart x
  apart = record { operations = operations_once x e; blocks = blocks_once x e; regions = regions_once x e }

  no_argument : (v : ℕ) → x.counts.values ≤ v → count v (all_arguments x) ≡ 0
  no_argument v g = flat_past v x.counts.values g (arguments x) (passes_1 x e).arguments_below (below x.counts.blocks)

  -- codes 1 and 4
  single : Single x
  single = record {
    in_range = λ v h. ⊎_elim (λ l. l) (λ g. absurd (omega (arith, no_argument v g))) (lt_or_ge v x.counts.values);
    listed_once = (passes_4 x e).arguments;
    not_both = (passes_4 x e).results;
    one_claim = (passes_4 x e).claims;
  }

  pub walk_is : whole_judged x ≡ dominance x
  walk_is = stack_dominance x apart single (see_all x.counts.values) (grows x.counts.values)

-- ---- called alone

pub alone_goes : (x : Tables) → table_checks x ≡ Ok tt → dominance x ≡ dominance_alone x
unfolding dominance_alone
alone_goes x e = rw e

pub alone_stops : (x : Tables) {why : Refusal} → table_checks x ≡ Err why → Err why ≡ dominance_alone x
unfolding dominance_alone
alone_stops x e = rw e
