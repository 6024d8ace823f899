-- The group sizes of an axis: an axis that is there, one that is not, and the sizes of all axes.
use mathlib.Core.Path.{◌≡◌, refl}
use mathlib.Core.Bool.{Bool, true, false, cond, ◌||◌}
use Prim.Native.Nat.{ℕ, suc, ◌-◌, ◌^◌, ◌≤◌, ◌<◌}
use native.Mathlib.Omega.{arith}
use lib.IntN.{ℤ, pos, negsuc}
use lib.Dec.{ltb}
use borrow.Author.Tests.{lt-ltb, le-ltb, le-leb, lt-leb}
use Rattle.arith.specs.Signed.{signed_of}
use Rattle.tiles.specs.Tile.{rank_of, dim_of}
use Rattle.tiles.specs.Rules.{outside_dim, is_group_outside}
use Rattle.tiles.specs.declared.Tile.{Tile}

or_true : (b : Bool) → (b || true) ≡ true
or_true true = refl
or_true false = refl

module _ (t : Tile) (every : ℤ) (along : ℕ) where
  -- a negative axis has bits above every rank
  pub no_axis : rank_of t ≤ along → is_group_outside t every (signed_of along) ≡ true
  unfolding is_group_outside signed_of
  no_axis h = by (ltb along (2 ^ 63))
    where
      by : (b : Bool) → is_group_outside t every (cond b (pos along) (negsuc (2 ^ 64 - suc along))) ≡ true
      by true = rw (le-leb (rank_of t) along h, or_true)
      by false = refl

  pub of_axis : along < rank_of t → rank_of t ≤ 8 → is_group_outside t every (signed_of along) ≡ outside_dim every (dim_of t along)
  unfolding is_group_outside signed_of
  of_axis h m = rw (lt-ltb along (2 ^ 63) (omega arith)) (rw (le-ltb along 0 (omega arith), lt-leb (rank_of t) along h))
