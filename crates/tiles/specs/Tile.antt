-- A tile, as the rules see a type: its form, its kind, and its shape. "a shape is a rank and eight dims held together".
use Rattle.std.specs.Prelude.{ℕ, ◌*◌, min, Bool, true, false, not, cond, ◌&&◌, ◌||◌, List, [], ◌++◌, map, eqb, leb, ltb, ℤ, pos, length, get_or, take, drop, replicate}
use Rattle.std.proofs.Math.Option.{Option, some, none}
use Rattle.arith.specs.Signed.{signed_of}
use Rattle.tables.specs.Layout.{form_in, pointer_in}
use Rattle.tables.specs.Sheet.{tile_through_in}
use Rattle.tables.specs.Tables.{Tables}
use Rattle.tables.specs.declared.Counts.{Counts}
use Rattle.tiles.specs.Kind.{is_integer}
use Rattle.tiles.specs.declared.Tile.{Tile}

-- ---- read off the tables

-- no tile: form 0, and all else 0
unfoldable pub no_tile : Tile
no_tile = record { form = 0; kind = 0; rank = 0; dims = replicate 8 (pos 0) }

-- the first eight of the numbers with these bits, with 0 after them up to eight
unfoldable pub eight_of : List ℕ → List ℤ
eight_of bits = take 8 (map signed_of bits ++ replicate 8 (pos 0))

-- the cells of a type, as far as they go; none of an id that is no type
unfoldable pub cells_of : List ℕ → Counts → ℕ → List ℕ
cells_of t n id = take (cond (ltb id n.types) 16 0) (drop (id * 16) t)

-- the kind, rank and eight dims of a type's cells, as a tile of this form: column 1 is the kind, 5 the rank, 8 to 15 the dims; no more dims
-- count than the rank says, and than there are
unfoldable pub row_tile : ℕ → List ℕ → Tile
row_tile form row = record {
  form = form;
  kind = get_or row 1 0;
  rank = length (take (min (get_or row 5 0) 8) (drop 8 row));
  dims = eight_of (drop 8 row);
}

-- the tile that a type's own cells are; no cells, no tile
abbrev pub tile_row : List ℕ → Tile
tile_row row = row_tile (get_or row 0 0) row

-- The cells of a type that is a tile, none of any other. "Forms of `T`: .. 1 tile, 2 pointer tile"; where the sheet says that no tile is seen
-- through a pointer attribute, "a type with a pointer attribute is no tile."
unfoldable pub seen_in : List ℕ → List ℕ → Counts → ℕ → List ℕ
seen_in t sheet n id =
    cond ((eqb (form_in t n id) 1 || eqb (form_in t n id) 2) && (eqb (pointer_in t n id) 0 || tile_through_in sheet))
    (cells_of t n id)
    []

-- the tile that a type is
unfoldable pub tile_in : List ℕ → List ℕ → Counts → ℕ → Tile
tile_in t sheet n id = tile_row (seen_in t sheet n id)

abbrev pub tile_of : Tables → List ℕ → ℕ → Tile
tile_of x sheet id = tile_in x.t sheet x.counts id

-- The tile that a view takes and gives: "4 partition, 5 strided, 6 gather/scatter", through any pointer attribute. "A view's kind is its
-- tensor's".
unfoldable pub view_in : List ℕ → Counts → ℕ → Tile
view_in t n id = cond (leb 4 (form_in t n id) && leb (form_in t n id) 6) (row_tile 1 (cells_of t n id)) no_tile

abbrev pub view_of : Tables → ℕ → Tile
view_of x id = view_in x.t x.counts id

-- ---- its shape

-- the dims that count: the Rust's shape
unfoldable pub dims_of : Tile → List ℤ
dims_of t = take t.rank t.dims

-- how many they are: the shape's length
unfoldable pub rank_of : Tile → ℕ
rank_of t = length (dims_of t)

-- dim i, 0 past the rank
unfoldable pub dim_of : Tile → ℕ → ℤ
dim_of t i = get_or (dims_of t) i (pos 0)

-- ---- its element

unfoldable pub is_tile : Tile → Bool
is_tile t = not (eqb t.form 0)

unfoldable pub is_number : Tile → Bool
is_number t = eqb t.form 1

unfoldable pub is_pointer : Tile → Bool
is_pointer t = eqb t.form 2

-- the kind of a tile of numbers, none of any other: the Rust's `scalar`
unfoldable pub scalar_of : Tile → Option ℕ
scalar_of t = cond (is_number t) (some t.kind) none

-- equality of kinds that may be absent
abbrev pub same_option : Option ℕ → Option ℕ → Bool
same_option none none = true
same_option none (some y) = false
same_option (some x) none = false
same_option (some x) (some y) = eqb x y

-- it has a scalar, which is this kind
unfoldable pub has_kind : Tile → ℕ → Bool
has_kind t kind = same_option (scalar_of t) (some kind)

-- the same scalar, or none in both: so the MMA arm compares lhs and rhs
unfoldable pub same_scalar : Tile → Tile → Bool
same_scalar a b = same_option (scalar_of a) (scalar_of b)

-- the same element type: numbers or pointers, and of which kind
unfoldable pub same_element : Tile → Tile → Bool
same_element a b = eqb a.form b.form && eqb a.kind b.kind

-- the pointers of p are to numbers of v's kind, as the atomics ask
unfoldable pub points_to : Tile → Tile → Bool
points_to p v = is_pointer p && has_kind v p.kind

-- a tile of integers, as bounded and the indices of views ask
unfoldable pub is_integers : Tile → Bool
is_integers t = is_number t && is_integer t.kind

-- a tile whose scalar is an integer or absent, as div_by and same_elements ask
unfoldable pub is_integers_or_pointers : Tile → Bool
is_integers_or_pointers t = is_tile t && (not (is_number t) || is_integer t.kind)
