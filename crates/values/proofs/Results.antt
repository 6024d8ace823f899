-- The declared results stand one after the other, operation by operation, and no two of them at one place. Assumes nothing.
use Prim.Native.Nat.{ℕ, zero, suc, ◌+◌, ◌-◌, ◌≤◌, ◌<◌}
use native.Mathlib.Omega.{arith}
use mathlib.Core.Path.{◌≡◌}
use mathlib.Core.Logic.{⊎_elim}
use lib.ListN.{length}
use borrow.Author.Tests.{le-ltb}
use Rattle.cells.proofs.Rows.{lt_or_ge}
use Rattle.tables.specs.Layout.{result_types_in, result_types_span_in}
use Rattle.tables.specs.Tables.{Tables, result_types}
use Rattle.values.specs.Results.{sum_below, declared_in}

sum_up : (f : ℕ → ℕ) (i d : ℕ) → sum_below f i ≤ sum_below f (i + d)
sum_up f i zero = let e : i + 0 ≡ i = omega arith in rw e (omega arith)
sum_up f i (suc d) = let e : i + suc d ≡ suc (i + d) = omega arith in rw e (omega (arith, sum_up f i d))

module _ (x : Tables) where
  pub declared_up : (i j : ℕ) → i ≤ j → declared_in x i ≤ declared_in x j
  declared_up i j h = let e : j ≡ i + (j - i) = omega arith in rw e (sum_up (λ k. length (result_types x k)) i (j - i))

  -- before those of every later operation
  pub result_before : (i k j : ℕ) → k < length (result_types x i) → i < j → declared_in x i + k < declared_in x j
  result_before i k j h g = omega (arith, declared_up (suc i) j (omega arith))

  pub result_apart : (i k i' k' : ℕ) → k < length (result_types x i) → k' < length (result_types x i')
      → declared_in x i + k ≡ declared_in x i' + k' → i ≡ i'
  result_apart i k i' k' h h' e =
      ⊎_elim
      (λ g. absurd (omega (arith, result_before i k i' h g)))
      (λ g. ⊎_elim
      (λ g'. absurd (omega (arith, result_before i' k' i h' g')))
      (λ g'. omega arith)
      (lt_or_ge i' i))
      (lt_or_ge i i')

  -- only operations that count declare results
  pub result_counted : (i k : ℕ) → k < length (result_types x i) → i < x.counts.operations
  unfolding result_types_in result_types_span_in
  result_counted i k h =
      ⊎_elim
      (λ g. g)
      (λ g. absurd (let e = rw (le-ltb i x.counts.operations g) at h in omega arith))
      (lt_or_ge i x.counts.operations)
