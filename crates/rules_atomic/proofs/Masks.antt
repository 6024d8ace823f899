-- The operands that may be masks: some of them is wrong. Assumes nothing.
use Prim.Native.Nat.{ℕ}
use mathlib.Core.Path.{◌≡◌, refl}
use mathlib.Core.List.{List, [], ◌∷◌}
use Rattle.std.specs.List.{list_any}
use Rattle.tables.specs.Layout.{value_type_in}
use Rattle.tables.specs.declared.Counts.{Counts}
use Rattle.tiles.specs.Tile.{tile_in}
use Rattle.tiles.specs.Rules.{is_wrong_mask}
use Rattle.tiles.specs.declared.Tile.{Tile}
use Rattle.rules_atomic.specs.Arm.{any_wrong_mask}

pub wrong_masks : (t v sheet : List ℕ) (n : Counts) (val : Tile) (xs : List ℕ)
    → any_wrong_mask t v sheet n val xs ≡ list_any (λ x. is_wrong_mask (tile_in t sheet n (value_type_in v n x)) val) xs
unfolding any_wrong_mask
wrong_masks t v sheet n val [] = refl
wrong_masks t v sheet n val (x ∷ xs) = rw (wrong_masks t v sheet n val xs)
