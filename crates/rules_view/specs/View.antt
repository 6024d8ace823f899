-- The arm of LoadViewTko, StoreViewTko and AtomicRedViewTko. `id` is the view's type, `view` the tile that it takes and gives, and `value`
-- the tile that is loaded or stored.
use Rattle.std.specs.Prelude.{ℕ, ◌+◌, ◌/◌, ◌%◌, ◌^◌, Bool, not, cond, ◌&&◌, ◌||◌, List, [], ◌∷◌, eqb, ltb, leb, Option, Some, None, Ok, Err}
use Rattle.cells.specs.Lists.{below}
use Rattle.names.specs.Names.{mode, memory_ordering_semantics, memory_scope}
use Rattle.tables.specs.Layout.{opcode_in, form_in, padded_in, sparse_in}
use Rattle.tables.specs.Sheet.{mode_mask_in}
use Rattle.tables.specs.Tables.{Tables}
use Rattle.tables.specs.declared.Counts.{Counts}
use Rattle.tiles.specs.Tile.{view_in, rank_of, is_tile, has_kind, is_integers}
use Rattle.tiles.specs.Shape.{same_shape}
use Rattle.tiles.specs.Rules.{is_axis_index}
use Rattle.tiles.specs.declared.Tile.{Tile}
use Rattle.lookups.specs.Lookup.{integer_in, segment_in, is_absent, is_some, number_or}
use Rattle.lookups.specs.Typed.{operand_type_in, operand_tile_in, result_tile_in}
use Rattle.lookups.specs.Verdict.{Verdict, fail_if, or_else}
use Rattle.lookups.specs.declared.Fault.TheVariants.{Broken}

-- "Opcodes are positions 0 to 104 in `OPCODES`"
abbrev pub load_view : ℕ
load_view = 44

abbrev pub store_view : ℕ
store_view = 84

abbrev pub atomic_red_view : ℕ
atomic_red_view = 99

-- ---- where things stand, by the opcode

-- the operand that is the view: `usize::from(op.opcode == StoreViewTko)`
unfoldable pub view_place : ℕ → ℕ
view_place opcode = cond (eqb opcode store_view) 1 0

-- the operand that is the first index
unfoldable pub index_start : ℕ → ℕ
index_start opcode = cond (eqb opcode store_view) 2 1

-- the segment that counts the indices
unfoldable pub segment_place : ℕ → ℕ
segment_place opcode = cond (eqb opcode load_view || eqb opcode atomic_red_view) 1 2

-- ---- the tests

-- reason 4: another shape, or another element type
unfoldable pub is_other_tile : Tile → Tile → Bool
is_other_tile value view = not (same_shape value view) || not (has_kind value view.kind)

-- the sheet's "per atomic mode 0 to 15 a mask of 16 element kinds" has this kind
unfoldable pub takes_kind : List ℕ → ℕ → ℕ → Bool
takes_kind sheet kind mode = ltb kind 16 && eqb (mode_mask_in sheet mode / 2 ^ kind % 2) 1

-- ---- the indices

-- a dense index was seen before, of another kind
unfoldable pub is_other_kind : Option ℕ → ℕ → Bool
is_other_kind element kind = is_some (λ k. not (eqb k kind)) element

-- what the index of an axis has to be; `element` is the kind of the dense indices so far
unfoldable pub index_rule : Tile → Tile → ℕ → Bool → Option ℕ → Verdict
index_rule index view axis sparse element =
    fail_if (not (is_tile index)) 8
    (fail_if (not (is_integers index)) 9
    (cond sparse
    (fail_if (not (is_axis_index index view axis)) 10 (Ok tt))
    (fail_if (not (eqb (rank_of index) 0)) 11
    (fail_if (is_other_kind element index.kind) 12
    (Ok tt)))))

-- the kind of the dense indices, once this one is seen
unfoldable pub element_after : Tile → Bool → Option ℕ → Option ℕ
element_after index sparse element = cond sparse element (Some index.kind)

-- the indices of these axes, in turn: the first answer that does not hold
abbrev pub indices_from : (ℕ → Tile) → Tile → (ℕ → Bool) → List ℕ → Option ℕ → Verdict
indices_from index view sparse [] element = Ok tt
indices_from index view sparse (k ∷ ks) element =
    or_else (index_rule (index k) view k (sparse k) element)
    (indices_from index view sparse ks (element_after (index k) (sparse k) element))

-- ---- the arm

-- "the sparse axis on 6 only, where it always stands and -1 fits no axis"
unfoldable pub is_sparse_axis : List ℕ → Counts → ℕ → ℕ → Bool
is_sparse_axis t n id axis = eqb (form_in t n id) 6 && eqb (sparse_in t n id) axis

module _ (t v o l sheet : List ℕ) (n : Counts) (i : ℕ) where
  -- the tile that is loaded, reduced into the view, or stored
  unfoldable pub value_in : ℕ → Tile → Tile
  value_in opcode view =
      cond (eqb opcode load_view) (result_tile_in t o l sheet n i)
      (cond (eqb opcode atomic_red_view) (operand_tile_in t v o l sheet n i (1 + rank_of view))
      (operand_tile_in t v o l sheet n i 0))

  unfoldable pub indices_rule : ℕ → ℕ → Tile → Verdict
  indices_rule opcode id view =
      indices_from (λ k. operand_tile_in t v o l sheet n i (index_start opcode + k)) view (is_sparse_axis t n id) (below (rank_of view)) None

-- reason 5: a sparse view, which form 6 always is, a padded one, or an exchange, which is mode 9
unfoldable pub is_no_reduction : List ℕ → List ℕ → List ℕ → List ℕ → Counts → ℕ → ℕ → ℕ → Bool
is_no_reduction t o a l n i opcode id =
    eqb opcode atomic_red_view
    && (eqb (form_in t n id) 6 || not (eqb (padded_in t n id) 0) || is_some (λ m. eqb m 9) (integer_in o a l n i mode))

module _ (o a l : List ℕ) where
  -- reason 6: "A mode absent or outside 0 to 15 is invalid."
  unfoldable pub is_mode_wrong : List ℕ → Counts → ℕ → ℕ → ℕ → Bool
  is_mode_wrong sheet n i opcode kind =
      eqb opcode atomic_red_view && not (is_some (takes_kind sheet kind) (integer_in o a l n i mode))

  -- reason 7: not one index for each dim
  unfoldable pub is_count_wrong : Counts → ℕ → ℕ → Tile → Bool
  is_count_wrong n i opcode view = not (is_some (λ s. eqb s (rank_of view)) (segment_in o a l n i (segment_place opcode)))

  -- reason 13: an ordering or a scope that does not go with the operation, or with each other; no ordering stands for 0
  unfoldable pub is_order_wrong : Counts → ℕ → ℕ → Bool
  is_order_wrong n i opcode =
      let order = number_or 0 (integer_in o a l n i memory_ordering_semantics) in
      let scope = integer_in o a l n i memory_scope in
      (eqb opcode load_view && not (leb order 2))
      || (not (eqb opcode load_view) && not (eqb order 0 || eqb order 1 || eqb order 3))
      || (eqb opcode atomic_red_view && (not (eqb order 1) || not (is_some (λ s. leb s 1) scope)))
      || (eqb order 0 && not (is_absent scope))
      || (not (eqb order 0) && not (is_some (λ s. leb s 2) scope))

module _ (t v o a l sheet : List ℕ) (n : Counts) (i : ℕ) where
  -- the arm past reason 1, line by line
  unfoldable pub view_by : ℕ → ℕ → Tile → Tile → Verdict
  view_by opcode id view value =
      fail_if (not (is_tile view)) 2  -- no partition, strided or gather/scatter view
      (fail_if (not (is_tile value)) 3  -- no value
      (fail_if (is_other_tile value view) 4
      (fail_if (is_no_reduction t o a l n i opcode id) 5
      (fail_if (is_mode_wrong o a l sheet n i opcode view.kind) 6
      (fail_if (is_count_wrong o a l n i opcode view) 7
      (or_else (indices_rule t v o l sheet n i opcode id view)  -- 8 to 12, axis by axis
      (fail_if (is_order_wrong o a l n i opcode) 13
      (Ok tt))))))))

  -- the arm, on the view's type
  unfoldable pub view_rule : ℕ → ℕ → Verdict
  view_rule opcode id =
      let view = view_in t n id in
      view_by opcode id view (value_in t v o l sheet n i opcode view)

  -- there is a view operand, or reason 1
  abbrev pub view_or : ℕ → Option ℕ → Verdict
  view_or opcode (Some id) = view_rule opcode id
  view_or opcode None = Err (Broken 1)

  unfoldable pub view_arm_in : Verdict
  view_arm_in = let opcode = opcode_in o n i in view_or opcode (operand_type_in v o l n i (view_place opcode))

abbrev pub view_arm : List ℕ → Tables → ℕ → Verdict
view_arm sheet x i = view_arm_in x.t x.v x.o x.a x.l sheet x.counts i
