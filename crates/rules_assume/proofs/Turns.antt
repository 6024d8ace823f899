-- Attributes asked in turn: one of them at a time. Assumes nothing.
use Prim.Native.Nat.{ℕ, suc, ◌+◌, ◌-◌, ◌≤◌, ◌<◌}
use native.Mathlib.Numerals.{add-one}
use native.Mathlib.Omega.{arith}
use mathlib.Core.Path.{◌≡◌}
use Rattle.std.specs.Prelude.{Ok}
use Rattle.cells.specs.Lists.{from}
use Rattle.lookups.specs.Verdict.{Verdict, or_else}
use Rattle.rules_assume.specs.Assume.{in_turn}

module _ (rule : ℕ → Verdict) (k end : ℕ) where
  pub turn : k < end → in_turn rule (from k (end - k)) ≡ or_else (rule k) (in_turn rule (from (k + 1) (end - (k + 1))))
  turn h = let e : end - k ≡ suc (end - (k + 1)) = omega arith in rw (e, add-one)

  pub turns_end : end ≤ k → in_turn rule (from k (end - k)) ≡ Ok tt
  turns_end h = let e : end - k ≡ 0 = omega arith in rw e
