-- What reading back asks of the tables first: "it makes the checks of 1 for operations, blocks, regions and functions (not value or type
-- ids, opcodes, attributes), then 2 and 3".
use Rattle.std.specs.Prelude.{ℕ, ◌+◌, Bool, ◌&&◌, ltb, get_or}
use Rattle.tables.specs.Sizes.{max_operations, max_blocks, max_regions, max_functions, operation_table, block_table, region_table, function_table}
use Rattle.tables.specs.Tables.{Tables, functions, regions, operations, regions_span, operations_span}
use Rattle.tables.specs.Answer.{and_then, Answer}
use Rattle.ranges.specs.Entry.{all_below, within, good_region}
use Rattle.ranges.specs.Range.{sum, listed_by_operation, listed_by_block, listed_by_region, room_at, first_bad}
use Rattle.listed.specs.Twice.{listed_twice}
use Rattle.walk.specs.Depth.{too_deep}

-- an operation's regions, and a block's operations
unfoldable pub nested_operation : Tables → ℕ → Bool
nested_operation x i = within x (regions_span x i) && all_below x.counts.regions (regions x i)

unfoldable pub nested_block : Tables → ℕ → Bool
nested_block x j = within x (operations_span x j) && all_below x.counts.operations (operations x j)

-- "list entries 8,192 in all": how many stand up to the end of O, and up to the end of B
abbrev pub up_to_operations : Tables → ℕ
up_to_operations x = sum (listed_by_operation x) x.counts.operations

abbrev pub up_to_blocks : Tables → ℕ
up_to_blocks x = up_to_operations x + sum (listed_by_block x) x.counts.blocks

-- 1
unfoldable pub nesting_ranges : Tables → Answer
nesting_ranges x =
    and_then (first_bad operation_table max_operations 16 x.o x.counts.operations
    (λ i. nested_operation x i && room_at 0 (listed_by_operation x) i))
    (and_then (first_bad block_table max_blocks 4 x.b x.counts.blocks
    (λ j. nested_block x j && room_at (up_to_operations x) (listed_by_block x) j))
    (and_then (first_bad region_table max_regions 2 x.r x.counts.regions
    (λ k. good_region x k && room_at (up_to_blocks x) (listed_by_region x) k))
    (first_bad function_table max_functions 1 x.f x.counts.functions
    (λ p. ltb (get_or (functions x) p 0) x.counts.operations))))

-- 1, then 2 and 3
unfoldable pub nesting_checks : Tables → Answer
nesting_checks x = and_then (nesting_ranges x) (and_then (listed_twice x) (too_deep x))
