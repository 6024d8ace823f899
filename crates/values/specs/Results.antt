-- How many results are declared.
use Rattle.std.specs.Prelude.{ℕ, zero, suc, ◌+◌, length}
use Rattle.tables.specs.Tables.{Tables, result_types}

-- the sum of f over the numbers below n
abbrev pub sum_below : (ℕ → ℕ) → ℕ → ℕ
sum_below f zero = 0
sum_below f (suc n) = sum_below f n + f n

-- how many results the operations below i declare
abbrev pub declared_in : Tables → ℕ → ℕ
declared_in x i = sum_below (λ j. length (result_types x j)) i
