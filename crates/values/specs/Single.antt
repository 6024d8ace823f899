-- What code 4 hands over where it passes: each value has at most one place, and each declared result at most one value.
use Rattle.std.specs.Prelude.{ℕ, ◌<◌, ◌≤◌, ◌≡◌, true, Some}
use Rattle.cells.specs.Lists.{count}
use Rattle.tables.specs.Tables.{Tables, claim, declared}
use Rattle.values.specs.Twice.{all_arguments}

pub record Single (x : Tables) : Type 0 where
  -- a value stands at most once among all arguments
  pub arguments : (v : ℕ) → v < x.counts.values → count v (all_arguments x) ≤ 1
  -- a declared result is no argument
  pub results : (v i k : ℕ) → v < x.counts.values → claim x v ≡ Some (record { operation = i; index = k }) → declared x i k ≡ true
      → count v (all_arguments x) ≡ 0
  -- no two values claim the same declared result
  pub claims : (v w i k : ℕ) → v < x.counts.values → w < x.counts.values
      → claim x v ≡ Some (record { operation = i; index = k }) → claim x w ≡ Some (record { operation = i; index = k })
      → declared x i k ≡ true → v ≡ w
