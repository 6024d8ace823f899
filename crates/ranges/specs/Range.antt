-- Code 1: "a size exceeded, an id out of range | table number, entry". "Tables are numbered from 1 in the order T, V, O, A, B, R, F,
-- with the sheet as 8; code 1 goes to the first table, then the first entry. Unattached entries are range-checked".
use Rattle.std.specs.Prelude as std
use Rattle.std.specs.Prelude.{ℕ, zero, suc, ◌+◌, ◌*◌, ◌^◌, Bool, true, ◌&&◌, not, cond, List, length, get_or, ltb, leb, Some, None, Ok, Err}
use Rattle.std.proofs.Math.Option.{Option, some, none}
use Rattle.cells.specs.Lists.{below, find}
use Rattle.tables.specs.Sizes.{max_types, max_values, max_operations, max_attributes, max_blocks, max_regions, max_functions, max_entries, opcodes, kinds, modes, type_table, value_table, operation_table, attribute_table, block_table, region_table, function_table, sheet_table}
use Rattle.tables.specs.Tables.{Tables, functions, result_types_span, operands_span, regions_span, numbers_span, arguments_span, operations_span, blocks_span}
use Rattle.tables.specs.Sheet.{fixed_flag_in, fixed_count_in, mode_mask_in, contained_mask_in, byte_width_in, tile_flag_in}
use Rattle.tables.specs.Answer.{and_then, Answer}
use Rattle.tables.specs.declared.Refusal.TheVariants.{OutOfRange}
use Rattle.ranges.specs.Entry.{all, good_type, good_value, good_operation, good_attribute, good_block, good_region}

-- ---- "list entries 8,192 in all": the lengths of the lists, entry by entry, over O, A, B and R in this order

abbrev pub sum : (ℕ → ℕ) → ℕ → ℕ
sum f zero = 0
sum f (suc n) = sum f n + f n

abbrev pub listed_by_operation : Tables → ℕ → ℕ
listed_by_operation x i = (result_types_span x i).len + (operands_span x i).len + (regions_span x i).len

abbrev pub listed_by_attribute : Tables → ℕ → ℕ
listed_by_attribute x k = (numbers_span x k).len

abbrev pub listed_by_block : Tables → ℕ → ℕ
listed_by_block x j = (arguments_span x j).len + (operations_span x j).len

abbrev pub listed_by_region : Tables → ℕ → ℕ
listed_by_region x k = (blocks_span x k).len

-- how many list entries stand before each table's own
abbrev pub before_attributes : Tables → ℕ
before_attributes x = sum (listed_by_operation x) x.counts.operations

abbrev pub before_blocks : Tables → ℕ
before_blocks x = before_attributes x + sum (listed_by_attribute x) x.counts.attributes

abbrev pub before_regions : Tables → ℕ
before_regions x = before_blocks x + sum (listed_by_block x) x.counts.blocks

-- up to entry i and with it, no more than there may be
abbrev pub room_at : ℕ → (ℕ → ℕ) → ℕ → Bool
room_at before f i = leb (before + sum f (suc i)) max_entries

-- ---- the first entry that is past the size, not whole in the lent slice, or not good

abbrev pub stands : ℕ → ℕ → List ℕ → ℕ → Bool
stands size width cells i = ltb i size && leb (suc i * width) (length cells)

abbrev pub refused : ℕ → Option ℕ → Answer
refused table none = Ok tt
refused table (some i) = Err (OutOfRange table i)

unfoldable pub first_bad : ℕ → ℕ → ℕ → List ℕ → ℕ → (ℕ → Bool) → Answer
first_bad table size width cells n good = refused table (find (λ i. not (stands size width cells i && good i)) (below n))

unfoldable pub table_ranges : Tables → Answer
table_ranges x =
    and_then (first_bad type_table max_types 16 x.t x.counts.types (good_type x))
    (and_then (first_bad value_table max_values 4 x.v x.counts.values (good_value x))
    (and_then (first_bad operation_table max_operations 16 x.o x.counts.operations
    (λ i. good_operation x i && room_at 0 (listed_by_operation x) i))
    (and_then (first_bad attribute_table max_attributes 8 x.a x.counts.attributes
    (λ k. good_attribute x k && room_at (before_attributes x) (listed_by_attribute x) k))
    (and_then (first_bad block_table max_blocks 4 x.b x.counts.blocks
    (λ j. good_block x j && room_at (before_blocks x) (listed_by_block x) j))
    (and_then (first_bad region_table max_regions 2 x.r x.counts.regions
    (λ k. good_region x k && room_at (before_regions x) (listed_by_region x) k))
    (first_bad function_table max_functions 1 x.f x.counts.functions
    (λ p. ltb (get_or (functions x) p 0) x.counts.operations)))))))

-- ---- the sheet: "Widths are 0 to 8 bytes and counts 0 to 8,192; otherwise code 1 with 8, 0."

abbrev pub sheet_cells : ℕ
sheet_cells = 320

abbrev pub good_count : std.Option ℕ → Bool
good_count None = true
good_count (Some n) = leb n 8192

unfoldable pub good_sheet : List ℕ → Bool
good_sheet s =
    leb sheet_cells (length s)
    && all (λ op. ltb (fixed_flag_in s op) 2 && good_count (fixed_count_in s op)) (below opcodes)
    && all (λ m. ltb (mode_mask_in s m) (2 ^ 16)) (below modes)
    && all (λ k. ltb (contained_mask_in s k) (2 ^ 16) && leb (byte_width_in s k) 8) (below kinds)
    && ltb (tile_flag_in s) 2

unfoldable pub sheet_range : List ℕ → Answer
sheet_range s = cond (good_sheet s) (Ok tt) (Err (OutOfRange sheet_table 0))
