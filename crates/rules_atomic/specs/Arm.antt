-- The arm of `AtomicRMW | AtomicCAS` in verify_target.rs, line by line. An integer attribute is its 64 bits, so that a negative one is in
-- none of the ranges.
use Rattle.std.specs.Prelude.{ℕ, ◌/◌, ◌%◌, ◌^◌, Bool, false, not, cond, ◌&&◌, ◌||◌, List, [], ◌∷◌, eqb, ltb, leb, drop, Option, Ok}
use Rattle.names.specs.Names.{mode, memory_ordering_semantics, memory_scope}
use Rattle.tables.specs.Layout.{opcode_in, operands_in, value_type_in}
use Rattle.tables.specs.Sheet.{mode_mask_in}
use Rattle.tables.specs.Tables.{Tables}
use Rattle.tables.specs.declared.Counts.{Counts}
use Rattle.tiles.specs.Tile.{tile_in, is_tile, is_number}
use Rattle.tiles.specs.Shape.{same_tile}
use Rattle.tiles.specs.Rules.{atomic_differs, is_word, is_wrong_mask}
use Rattle.tiles.specs.declared.Tile.{Tile}
use Rattle.lookups.specs.Lookup.{integer_in, is_some}
use Rattle.lookups.specs.Typed.{operand_tile_in, result_tile_in}
use Rattle.lookups.specs.Verdict.{Verdict, fail_if}

-- "Opcodes are positions 0 to 104 in `OPCODES`"; the arm's other is 8, AtomicRMW
abbrev pub atomic_cas : ℕ
atomic_cas = 7

unfoldable pub is_swap : List ℕ → Counts → ℕ → Bool
is_swap o n i = eqb (opcode_in o n i) atomic_cas

-- "per atomic mode 0 to 15 a mask of 16 element kinds": bit k is for kind k
unfoldable pub takes_kind : List ℕ → ℕ → ℕ → Bool
takes_kind sheet kind m = ltb kind 16 && eqb (mode_mask_in sheet m / 2 ^ kind % 2) 1

-- `atomic_mode_valid`: "A mode absent or outside 0 to 15 is invalid."
unfoldable pub is_mode : List ℕ → ℕ → Option ℕ → Bool
is_mode sheet kind found = is_some (takes_kind sheet kind) found

-- there is a number, from low to high
unfoldable pub is_between : ℕ → ℕ → Option ℕ → Bool
is_between low high found = is_some (λ m. leb low m && leb m high) found

-- a swap whose operand 2 is not as the value, or whose elements are not of 32 or 64 bits
unfoldable pub is_bad_swap : List ℕ → List ℕ → List ℕ → List ℕ → List ℕ → Counts → ℕ → Tile → Bool
is_bad_swap t v o l sheet n i val =
    is_swap o n i && (not (same_tile (operand_tile_in t v o l sheet n i 2) val) || not (is_word sheet val.kind))

-- no swap, and no mode for the element
unfoldable pub is_bad_mode : List ℕ → List ℕ → List ℕ → List ℕ → Counts → ℕ → Tile → Bool
is_bad_mode o a l sheet n i val = not (is_swap o n i) && not (is_mode sheet val.kind (integer_in o a l n i mode))

-- relaxed, acquire, release and acq_rel are 1 to 4; a scope is 0 to 2
unfoldable pub is_bad_order : List ℕ → List ℕ → List ℕ → Counts → ℕ → Bool
is_bad_order o a l n i =
    not (is_between 1 4 (integer_in o a l n i memory_ordering_semantics)) || not (is_between 0 2 (integer_in o a l n i memory_scope))

-- some of these operands is a tile that is no mask for the value
unfoldable pub any_wrong_mask : List ℕ → List ℕ → List ℕ → Counts → Tile → List ℕ → Bool
any_wrong_mask t v sheet n val [] = false
any_wrong_mask t v sheet n val (x ∷ xs) =
    is_wrong_mask (tile_in t sheet n (value_type_in v n x)) val || any_wrong_mask t v sheet n val xs

-- the first operand that may be a mask
unfoldable pub mask_start : List ℕ → Counts → ℕ → ℕ
mask_start o n i = cond (is_swap o n i) 3 2

-- from there on
unfoldable pub is_bad_mask : List ℕ → List ℕ → List ℕ → List ℕ → List ℕ → Counts → ℕ → Tile → Bool
is_bad_mask t v o l sheet n i val = any_wrong_mask t v sheet n val (drop (mask_start o n i) (operands_in o l n i))

-- the arm, on the tiles of the pointer, the value and the result
unfoldable pub atomic_by : List ℕ → List ℕ → List ℕ → List ℕ → List ℕ → List ℕ → Counts → ℕ → Tile → Tile → Tile → Verdict
atomic_by t v o a l sheet n i ptr val result =
    fail_if (not (is_tile ptr)) 1  -- no pointer
    (fail_if (not (is_tile val)) 2  -- no value
    (fail_if (not (is_number val)) 3  -- a value of pointers
    (fail_if (atomic_differs ptr val result) 4
    (fail_if (is_bad_swap t v o l sheet n i val) 5
    (fail_if (is_bad_mode o a l sheet n i val) 6
    (fail_if (is_bad_order o a l n i) 7
    (fail_if (is_bad_mask t v o l sheet n i val) 8
    (Ok tt))))))))

-- the pointer is operand 0, the value operand 1
unfoldable pub atomic_in : List ℕ → List ℕ → List ℕ → List ℕ → List ℕ → List ℕ → Counts → ℕ → Verdict
atomic_in t v o a l sheet n i =
    atomic_by t v o a l sheet n i
    (operand_tile_in t v o l sheet n i 0)
    (operand_tile_in t v o l sheet n i 1)
    (result_tile_in t o l sheet n i)

abbrev pub atomic_arm : List ℕ → Tables → ℕ → Verdict
atomic_arm sheet x i = atomic_in x.t x.v x.o x.a x.l sheet x.counts i
