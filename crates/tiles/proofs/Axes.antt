-- The entries of a permutation, one at a time: an axis among them, every axis, and the dims they move.
use mathlib.Core.Path.{◌≡◌, refl, ap}
use mathlib.Core.Bool.{Bool, true, false, ◌&&◌, ◌||◌}
use mathlib.Core.List.{List, [], ◌∷◌}
use mathlib.Core.Logic.{⊎_elim}
use Prim.Native.Nat.{ℕ, zero, suc, ◌+◌, ◌<◌, ◌≤◌}
use native.Mathlib.Nat.{eq-or-lt_of_le}
use native.Mathlib.Numerals.{add-one}
use native.Mathlib.Omega.{arith}
use lib.Dec.{eqb}
use lib.ListN.{length, drop, get_or, drop_of_length-le}
use lib.Seq.{drop-cons}
use Rattle.std.specs.List.{list_any}
use Rattle.cells.specs.Lists.{mem}
use Rattle.tiles.specs.Shape.{same_dim}
use Rattle.tiles.specs.Rules.{has_axes, moved_from}
use Rattle.tiles.specs.declared.Tile.{Tile}

-- an axis is among the entries: the library's test
pub mem_is : (k : ℕ) (p : List ℕ) → mem k p ≡ list_any (λ y. eqb y k) p
mem_is k [] = refl
mem_is k (y ∷ ys) = ap (λ (b : Bool). eqb y k || b) (mem_is k ys)

module _ (p : List ℕ) where
  pub axes_none : has_axes p 0 ≡ true
  unfolding has_axes
  axes_none = refl

  pub axes_more : (n : ℕ) → has_axes p (n + 1) ≡ (mem n p && has_axes p n)
  unfolding has_axes
  axes_more n = rw add-one

  -- one that is missing decides
  pub axes_not : (k n : ℕ) → mem k p ≡ false → k < n → has_axes p n ≡ false
  unfolding has_axes
  axes_not k zero e h = absurd (omega arith)
  axes_not k (suc n) e h =
      let b : k ≤ n = omega arith in
      ⊎_elim
      (λ q. rw (← q, e))
      (λ q. rw (axes_not k n e q) (and_false (mem n p)))
      (eq-or-lt_of_le b)
    where
      and_false : (b : Bool) → (b && false) ≡ false
      and_false true = refl
      and_false false = refl

module _ (p : List ℕ) (i : ℕ) (src dst : Tile) where
  pub moved_more : i < length p → moved_from src dst i (drop i p) ≡ (same_dim dst i src (get_or p i 0) && moved_from src dst (i + 1) (drop (i + 1) p))
  unfolding moved_from
  moved_more h = rw (add-one, drop-cons p i 0 h)

  pub moved_end : length p ≤ i → moved_from src dst i (drop i p) ≡ true
  unfolding moved_from
  moved_end h = rw (drop_of_length-le p {i = i} h)
