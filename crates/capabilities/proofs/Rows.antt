-- Answers in turn along rows that stand next to each other: one of them at a time. Assumes nothing.
use Prim.Native.Nat.{ℕ, zero, suc, ◌+◌, ◌-◌, ◌≤◌, ◌<◌}
use native.Mathlib.Numerals.{add-one, sub-one}
use native.Mathlib.Omega.{arith}
use mathlib.Core.Path.{◌≡◌, refl}
use Rattle.cells.specs.Lists.{from}
use Rattle.std.specs.Prelude.{Ok}
use Rattle.tables.specs.Answer.{Answer, and_then, each}

module _ (f : ℕ → Answer) (k : ℕ) where
  pub each_row : (left : ℕ) → 0 < left → each f (from k left) ≡ and_then (f k) (each f (from (k + 1) (left - 1)))
  each_row zero h = absurd (omega arith)
  each_row (suc left) h = rw (add-one, sub-one)

  pub each_end : (left : ℕ) → left ≤ 0 → each f (from k left) ≡ Ok tt
  each_end zero h = refl
  each_end (suc left) h = absurd (omega arith)
