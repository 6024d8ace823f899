-- Case M read back, and what is refused of its numbers, by computation. Assumes nothing.
use Prim.Native.Nat.{ℕ, ◌+◌}
use mathlib.Core.Path.{◌≡◌, refl}
use mathlib.Core.List.{List, [], ◌∷◌, ◌++◌}
use lib.ListN.{replicate}
use Rattle.tables.specs.Layout.{result_types_span_in, operands_span_in, regions_span_in, regions_in, arguments_span_in, operations_span_in, operations_in, blocks_span_in, blocks_in, functions_in}
use Rattle.tables.specs.Tables.{Tables, nest}
use Rattle.std.specs.Prelude.{Ok, Err}
use Rattle.tables.specs.declared.Refusal.TheVariants.{OutOfRange, TooShort, NotReadable}
use Rattle.ranges.specs.Entry.{good_region}
use Rattle.ranges.specs.Range.{first_bad}
use Rattle.listed.specs.Twice.{lowest_twice, listed_twice}
use Rattle.walk.specs.Depth.{operation_depth, block_depth, region_depth, too_deep}
use Rattle.nesting.specs.Shape.{operation_visits, block_visits, region_visits, entry_visits, entries_visits}
use Rattle.nesting.specs.Live.{placed}
use Rattle.nesting.specs.ReadBack.{uses, read_back}
use Rattle.nesting_check.specs.Checks.{nested_operation, nested_block, nesting_ranges, nesting_checks}
use Rattle.read_back.specs.Alone.{spanned, outcome, read_back_alone}

-- the row of an operation whose lists stand from s on: so many result types, operands and regions
abbrev row : ℕ → ℕ → ℕ → ℕ → List ℕ
row s types operands regions = 0 ∷ s ∷ types ∷ (s + types) ∷ operands ∷ (s + types + operands) ∷ regions ∷ replicate 9 0

-- case M: the ids of values and types are not looked at, so the lists that hold them are all zero; its last region's block is `last`
m : ℕ → Tables
m last =
    nest
    (row 0 0 0 1 ++ (row 1 1 2 0 ++ (row 4 0 1 1 ++ (row 6 1 2 0 ++ row 9 0 1 0))))
    (10 ∷ 2 ∷ 12 ∷ 3 ∷ 15 ∷ 0 ∷ 15 ∷ 1 ∷ [])
    (16 ∷ 1 ∷ 17 ∷ 1 ∷ [])
    (0 ∷ [])
    (0 ∷ 0 ∷ 0 ∷ 0 ∷ 0 ∷ 1 ∷ 0 ∷ 0 ∷ 0 ∷ 0 ∷ 0 ∷ 0 ∷ 1 ∷ 2 ∷ 4 ∷ 3 ∷ 0 ∷ last ∷ [])
    (record { types = 0; values = 0; operations = 5; attributes = 0; blocks = 2; regions = 2; functions = 1 })

-- "0,1,2,2,0,2" names both arguments, the first result and, inside, these again, and entries past the places stay; a list of the wrong
-- length; number 3 at the second operand of operation 3, which sees three places; a place takes three entries; region 1 lists a block that
-- there is not
cards :
    (read_back_alone (m 1) (0 ∷ 1 ∷ 2 ∷ 2 ∷ 0 ∷ 2 ∷ []) (replicate 19 9)
    ≡ outcome (Ok tt) (0 ∷ 0 ∷ 0 ∷ 0 ∷ 0 ∷ 1 ∷ 1 ∷ 1 ∷ 0 ∷ 1 ∷ 1 ∷ 0 ∷ 0 ∷ 0 ∷ 0 ∷ 1 ∷ 1 ∷ 0 ∷ 9 ∷ []))
    × (read_back_alone (m 1) (0 ∷ 1 ∷ 2 ∷ 2 ∷ 9 ∷ []) [] ≡ outcome (Err (NotReadable 0 0)) [])
    × (read_back_alone (m 1) (0 ∷ 1 ∷ 2 ∷ 2 ∷ 3 ∷ 2 ∷ []) [] ≡ outcome (Err (NotReadable 3 2)) [])
    × (read_back_alone (m 1) (0 ∷ 1 ∷ 2 ∷ 2 ∷ 0 ∷ 2 ∷ []) (replicate 17 9) ≡ outcome (Err (TooShort 18)) (replicate 17 9))
    × (read_back_alone (m 2) (0 ∷ []) [] ≡ outcome (Err (OutOfRange 6 1)) [])
unfolding m read_back_alone read_back uses spanned placed entries_visits entry_visits region_visits block_visits operation_visits nesting_checks
    nesting_ranges nested_operation nested_block good_region first_bad listed_twice lowest_twice too_deep operation_depth block_depth region_depth
    functions_in blocks_in blocks_span_in operations_in operations_span_in arguments_span_in regions_in regions_span_in operands_span_in result_types_span_in
cards = (refl, refl, refl, refl, refl)
