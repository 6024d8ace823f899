-- What the rules ask of the shapes of two tiles, pair of dims by pair of dims.
use Rattle.std.specs.Prelude.{ℕ, Bool, true, false, not, cond, ◌&&◌, ◌||◌, List, [], ◌∷◌, eqb, ℤ, pos, negsuc}
use Rattle.std.specs.Int.Signed.{lt_z, le_z, quot_z, rem_z}
use Rattle.arith.specs.Product.{product_of}
use Rattle.std.specs.Prelude.{Option, Some, None, is_none}
use Rattle.tiles.specs.Tile.{dims_of, rank_of, dim_of, same_element}
use Rattle.tiles.specs.declared.Tile.{Tile}

-- equality of signed numbers
unfoldable pub eq_z : ℤ → ℤ → Bool
eq_z (pos a) (pos b) = eqb a b
eq_z (pos a) (negsuc b) = false
eq_z (negsuc a) (pos b) = false
eq_z (negsuc a) (negsuc b) = eqb a b

-- p holds of some pair, and of all pairs; as the Rust zips, up to the shorter
unfoldable pub any_pair : (ℤ → ℤ → Bool) → List ℤ → List ℤ → Bool
any_pair p [] ys = false
any_pair p (x ∷ xs) [] = false
any_pair p (x ∷ xs) (y ∷ ys) = p x y || any_pair p xs ys

unfoldable pub all_pairs : (ℤ → ℤ → Bool) → List ℤ → List ℤ → Bool
all_pairs p [] ys = true
all_pairs p (x ∷ xs) [] = true
all_pairs p (x ∷ xs) (y ∷ ys) = p x y && all_pairs p xs ys

-- dim i of a is dim j of b
unfoldable pub same_dim : Tile → ℕ → Tile → ℕ → Bool
same_dim a i b j = eq_z (dim_of a i) (dim_of b j)

unfoldable pub same_rank : Tile → Tile → Bool
same_rank a b = eqb (rank_of a) (rank_of b)

-- the same shape: as many dims, and the same
unfoldable pub same_shape : Tile → Tile → Bool
same_shape a b = same_rank a b && all_pairs eq_z (dims_of a) (dims_of b)

-- "Tiles are equal in form, kind and dims"
unfoldable pub same_tile : Tile → Tile → Bool
same_tile a b = same_element a b && same_shape a b

-- s is not above 0, or leaves a rest of l: "signed remainders in tile extents"
unfoldable pub undivided_by : ℤ → ℤ → Bool
undivided_by s l = le_z s (pos 0) || not (eq_z (rem_z l s) (pos 0))

-- some dim of the small tile does not divide that of the large one
unfoldable pub is_uneven : Tile → Tile → Bool
is_uneven small large = any_pair undivided_by (dims_of small) (dims_of large)

-- a broadcast takes a dim to the same one, and 1 to any
unfoldable pub stretches_to : ℤ → ℤ → Bool
stretches_to a b = eq_z a b || eq_z a (pos 1)

unfoldable pub is_stretched : Tile → Tile → Bool
is_stretched src dst = all_pairs stretches_to (dims_of src) (dims_of dst)

-- how often s goes into l, for an s above 0; 0 for any other
unfoldable pub quotient_of : ℤ → ℤ → ℤ
quotient_of l s = cond (lt_z (pos 0) s) (quot_z l s) (pos 0)

-- ---- how many elements

-- the product of the dims, from the left
unfoldable pub count_of : Tile → Option ℤ
count_of t = product_of (dims_of t)

-- it is outside i64
abbrev pub has_left : Option ℤ → Bool
has_left p = is_none p

-- two products that are i64s, and the same
abbrev pub same_product : Option ℤ → Option ℤ → Bool
same_product (Some p) (Some q) = eq_z p q
same_product (Some p) None = false
same_product None q = false
