-- The arms of the views that are made and of Alloca.
use Rattle.std.specs.Prelude.{ℕ, Bool, not, ◌||◌, List, eqb, pos, Option, Some, None, Ok}
use Rattle.std.specs.Int.Signed.{lt_z, le_z}
use Rattle.arith.specs.Signed.{signed_of}
use Rattle.arith.specs.Power.{is_power_of_two}
use Rattle.names.specs.Names.{num_elem, alignment}
use Rattle.tables.specs.Layout.{pointer_in}
use Rattle.tables.specs.Sheet.{byte_width_in}
use Rattle.tables.specs.Tables.{Tables}
use Rattle.tables.specs.declared.Counts.{Counts}
use Rattle.tiles.specs.Tile.{is_pointer}
use Rattle.lookups.specs.Lookup.{integer_of, is_absent, number_or}
use Rattle.lookups.specs.Typed.{operand_type, result_type, result_tile}
use Rattle.lookups.specs.Verdict.{Verdict, fail_if}

-- the pointer attribute of a type; "pointer attribute or 0"
abbrev pub pointer_by : List ℕ → Counts → Option ℕ → ℕ
pointer_by t n (Some id) = pointer_in t n id
pointer_by t n None = 0

-- 48 MakePartitionView, 49 MakeTensorView, 97 MakeGatherScatterView, 98 MakeStridedView: presence and value of the attribute are kept
unfoldable pub make_view : Tables → ℕ → Verdict
make_view x i =
    let pointer = pointer_by x.t x.counts in
    fail_if (not (eqb (pointer (operand_type x i 0)) (pointer (result_type x i)))) 1 (Ok tt)

-- a number below 0, from its bits
unfoldable pub is_negative : ℕ → Bool
is_negative bits = lt_z (signed_of bits) (pos 0)

-- an alignment that is not above 0, no power of two or below the element's own size
unfoldable pub is_misaligned : ℕ → ℕ → Bool
is_misaligned bits natural = le_z (signed_of bits) (pos 0) || not (is_power_of_two bits) || lt_z (signed_of bits) (pos natural)

-- 95 Alloca: no alignment is 0, which is misaligned
unfoldable pub alloca : List ℕ → Tables → ℕ → Verdict
alloca sheet x i =
    let count = integer_of x i num_elem in
    let aligned = number_or 0 (integer_of x i alignment) in
    let result = result_tile sheet x i in
    fail_if (is_absent count) 1
    (fail_if (not (is_pointer result)) 2
    (fail_if (is_negative (number_or 0 count)) 3
    (fail_if (is_misaligned aligned (byte_width_in sheet result.kind)) 4
    (Ok tt))))
