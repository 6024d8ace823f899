-- The indices of a view, one axis at a time. Assumes nothing.
use Prim.Native.Nat.{ℕ, suc, ◌+◌, ◌-◌, ◌≤◌, ◌<◌}
use native.Mathlib.Numerals.{add-one}
use native.Mathlib.Omega.{arith}
use mathlib.Core.Path.{◌≡◌}
use mathlib.Core.Bool.{Bool}
use Rattle.std.specs.Prelude.{Option, Ok}
use Rattle.cells.specs.Lists.{from}
use Rattle.tiles.specs.declared.Tile.{Tile}
use Rattle.lookups.specs.Verdict.{or_else}
use Rattle.rules_view.specs.View.{index_rule, element_after, indices_from}

module _ (index : ℕ → Tile) (view : Tile) (sparse : ℕ → Bool) (k end : ℕ) (element : Option ℕ) where
  pub turn : k < end → indices_from index view sparse (from k (end - k)) element ≡ or_else (index_rule (index k) view k (sparse k) element) (indices_from index view sparse (from (k + 1) (end - (k + 1))) (element_after (index k) (sparse k) element))
  turn h = let e : end - k ≡ suc (end - (k + 1)) = omega arith in rw (e, add-one)

  pub turns_end : end ≤ k → indices_from index view sparse (from k (end - k)) element ≡ Ok tt
  turns_end h = let e : end - k ≡ 0 = omega arith in rw e
