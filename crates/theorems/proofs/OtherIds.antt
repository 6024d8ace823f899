-- Case M numbered, and its list read over tables with the same nesting and counts and nothing else of it: the lists stand elsewhere, and
-- where M has ids of values and types there stand others, in one place for all. So the premise of `reading_finds_the_places` can be met.
-- Assumes nothing.
use Prim.Native.Nat.{ℕ, zero, suc, ◌+◌, ◌≤◌, ◌<◌}
use native.Mathlib.Omega.{arith}
use mathlib.Core.Path.{◌≡◌, refl, ap, sym, ◌∙◌}
use mathlib.Core.Logic.{⊎_elim}
use mathlib.Core.List.{List, [], ◌∷◌, ◌++◌, map}
use lib.ListN.{length, take, replicate}
use borrow.Author.Tests.{le-ltb}
use Rattle.cells.specs.Lists.{from, below}
use Rattle.cells.proofs.Rows.{lt_or_ge}
use Rattle.tables.specs.Layout.{opcode_in, result_types_span_in, result_types_in, operands_span_in, operands_in, regions_span_in, regions_in, attributes_span_in, arguments_span_in, arguments_in, operations_span_in, operations_in, blocks_span_in, blocks_in, functions_in, value_type_in, claim_flag_in, claim_in, form_in, kind_in, pointer_in, padded_in, sparse_in, rank_in, dims_in}
use Rattle.tables.specs.Sheet.{fixed_flag_in, fixed_count_in, mode_mask_in, contained_mask_in, byte_width_in, tile_flag_in}
use Rattle.tables.specs.Tables.{Tables, lent, nest, regions, blocks, operations, arguments, result_types, operands, arguments_span, result_types_span, operands_span}
use Rattle.tables.specs.Value.{value_of}
use Rattle.tables.specs.Place.{defining_place}
use Rattle.tables.specs.Answer.{Answer}
use Rattle.std.specs.Prelude.{Ok}
use Rattle.ranges.specs.Entry.{good_type, good_value, good_operation, good_attribute, good_block, good_region}
use Rattle.ranges.specs.Range.{first_bad, table_ranges, good_sheet, sheet_range}
use Rattle.listed.specs.Twice.{lowest_twice, listed_twice}
use Rattle.walk.specs.Depth.{operation_depth, block_depth, region_depth, too_deep}
use Rattle.values.specs.Twice.{defined_twice, values_twice}
use Rattle.table_checks.specs.Checks.{sheet_checks}
use Rattle.nesting.specs.Shape.{operation_visits, block_visits, region_visits, entry_visits, entries_visits}
use Rattle.nesting.specs.Live.{nesting_of, placed, value_at}
use Rattle.nesting.specs.Numbering.{fine, numbers_at, numbering}
use Rattle.nesting.specs.ReadBack.{uses, operand_places}
use Rattle.nesting.proofs.Past.{regions_past, blocks_past, operations_past, arguments_past, results_past, operands_past}
use Rattle.numbering.specs.Alone.{Outcome, outcome, size, numbering_alone}
use Rattle.nesting_check.specs.Checks.{nested_operation, nested_block, nesting_ranges}
use Rattle.read_back.specs.Alone.{spanned, written, outcome as reads, after_checks as after_read, read_back_alone}
use Rattle.theorems.proofs.Seen.{seen}
use Rattle.theorems.proofs.Program.{reading_finds_the_places}

-- the row of an operation: where its lists stand and how long they are, in the order result types, operands, regions
abbrev row : ℕ → ℕ → ℕ → ℕ → ℕ → ℕ → ℕ → List ℕ
row code t types v operands k regions = code ∷ t ∷ types ∷ v ∷ operands ∷ k ∷ regions ∷ replicate 9 0

-- case M
pub m : Tables
m =
    lent
    (1 ∷ 4 ∷ 0 ∷ 0 ∷ 18446744073709551615 ∷ replicate 11 0)
    (0 ∷ 0 ∷ 0 ∷ 0 ∷ 0 ∷ 0 ∷ 0 ∷ 0 ∷ 0 ∷ 1 ∷ 1 ∷ 0 ∷ 0 ∷ 1 ∷ 3 ∷ 0 ∷ [])
    (row 22 0 0 0 0 0 1 ++ (row 3 1 1 2 2 4 0 ++ (row 38 4 0 4 1 5 1 ++ (row 3 6 1 7 2 9 0 ++ row 74 9 0 9 1 10 0))))
    []
    (10 ∷ 2 ∷ 12 ∷ 3 ∷ 15 ∷ 0 ∷ 15 ∷ 1 ∷ [])
    (16 ∷ 1 ∷ 17 ∷ 1 ∷ [])
    (0 ∷ [])
    (0 ∷ 0 ∷ 0 ∷ 1 ∷ 2 ∷ 1 ∷ 0 ∷ 2 ∷ 0 ∷ 2 ∷ 0 ∷ 1 ∷ 1 ∷ 2 ∷ 4 ∷ 3 ∷ 0 ∷ 1 ∷ [])
    (record { types = 1; values = 4; operations = 5; attributes = 0; blocks = 2; regions = 2; functions = 1 })

-- the same nesting elsewhere: operations, blocks and regions first, then two entries that are no id of M; opcodes that there are not,
-- no values and types, and an operation more, which nothing lists
pub other : Tables
other =
    nest
    (row 999 8 0 8 0 6 1 ++ (row 999 8 1 8 2 0 0 ++ (row 999 8 0 8 1 7 1 ++ (row 999 9 1 8 2 0 0 ++ (row 999 8 0 9 1 0 0 ++ row 999 0 0 0 0 0 0)))))
    (8 ∷ 2 ∷ 0 ∷ 3 ∷ 8 ∷ 0 ∷ 3 ∷ 1 ∷ [])
    (4 ∷ 1 ∷ 5 ∷ 1 ∷ [])
    (0 ∷ [])
    (1 ∷ 2 ∷ 4 ∷ 3 ∷ 0 ∷ 1 ∷ 0 ∷ 1 ∷ 777 ∷ 888 ∷ [])
    (record { types = 0; values = 0; operations = 6; attributes = 0; blocks = 2; regions = 2; functions = 1 })

-- ---- the premise, row by row as far as rows count

from_rows : {A : Type 0} (f g : ℕ → A) (s n : ℕ) → map f (from s n) ≡ map g (from s n) → (i : ℕ) → s ≤ i → i < s + n → f i ≡ g i
from_rows f g s zero e i l h = absurd (omega arith)
from_rows f g s (suc n) e i l h =
    let now : f s ≡ g s = cc in
    let rest : map f (from (suc s) n) ≡ map g (from (suc s) n) = cc in
    ⊎_elim (λ k. from_rows f g (suc s) n rest i k (omega arith)) (λ k. let q : s ≡ i = omega arith in ap f (sym q) ∙ now ∙ ap g q) (lt_or_ge s i)

-- rows from n on are z on both sides
rows : {A : Type 0} (f g : ℕ → A) (n : ℕ) (z : A) → ((i : ℕ) → n ≤ i → f i ≡ z) → ((i : ℕ) → n ≤ i → g i ≡ z) → map f (below n) ≡ map g (below n) → (i : ℕ) → f i ≡ g i
rows f g n z p q e i = ⊎_elim (λ h. from_rows f g 0 n e i (omega arith) (omega arith)) (λ h. p i h ∙ sym (q i h)) (lt_or_ge i n)

met : spanned other ≡ nesting_of m
unfolding m other functions_in regions_in regions_span_in blocks_in blocks_span_in operations_in operations_span_in arguments_in arguments_span_in
    result_types_in result_types_span_in operands_in operands_span_in
met =
    seen m other refl
    (rows (regions other) (regions m) 6 [] (regions_past other) (λ i h. regions_past m i (omega arith)) refl)
    (rows (blocks other) (blocks m) 2 [] (blocks_past other) (blocks_past m) refl)
    (rows (operations other) (operations m) 2 [] (operations_past other) (operations_past m) refl)
    (rows (λ j. (arguments_span other j).len) (λ j. length (arguments m j)) 2 0 (λ j h. rw (le-ltb j 2 h)) (λ j h. ap length (arguments_past m j h)) refl)
    (rows (λ i. (result_types_span other i).len) (λ i. length (result_types m i)) 6 0 (λ i h. rw (le-ltb i 6 h)) (λ i h. ap length (results_past m i (omega arith))) refl)
    (rows (λ i. (operands_span other i).len) (λ i. length (operands m i)) 6 0 (λ i h. rw (le-ltb i 6 h)) (λ i h. ap length (operands_past m i (omega arith))) refl)

-- `sheet|1`, and lists that hold nines and eights
pub after : Outcome
after = numbering_alone (replicate 320 0) m (replicate 7 9) (replicate 2 8)

numbered : after ≡ outcome (Ok 6) (0 ∷ 1 ∷ 2 ∷ 2 ∷ 0 ∷ 2 ∷ 9 ∷ []) (6 ∷ 8 ∷ [])
unfolding m after numbering_alone sheet_checks table_ranges sheet_range good_sheet listed_twice lowest_twice too_deep operation_depth block_depth
    region_depth values_twice defined_twice first_bad good_type good_value good_operation good_attribute good_block good_region numbering numbers_at size
    entries_visits entry_visits region_visits block_visits operation_visits placed nesting_of value_at value_of opcode_in result_types_span_in result_types_in
    operands_span_in operands_in regions_span_in regions_in attributes_span_in arguments_span_in arguments_in operations_span_in operations_in blocks_span_in
    blocks_in functions_in value_type_in claim_flag_in claim_in form_in kind_in pointer_in padded_in sparse_in rank_in dims_in fixed_count_in fixed_flag_in
    mode_mask_in contained_mask_in byte_width_in tile_flag_in
numbered = refl

ranged : nesting_ranges other ≡ Ok tt
unfolding other nesting_ranges first_bad nested_operation nested_block good_region functions_in regions_in regions_span_in blocks_in blocks_span_in operations_in
    operations_span_in arguments_span_in result_types_span_in operands_span_in
ranged = refl

-- the places of M, read off its tables: both arguments of block 0, result 0 of operation 1, and inside, these again
its_places : written (fine (operand_places m)) (replicate 19 9) ≡ reads (Ok tt) (0 ∷ 0 ∷ 0 ∷ 0 ∷ 0 ∷ 1 ∷ 1 ∷ 1 ∷ 0 ∷ 1 ∷ 1 ∷ 0 ∷ 0 ∷ 0 ∷ 0 ∷ 1 ∷ 1 ∷ 0 ∷ 9 ∷ [])
unfolding m operand_places uses defining_place entries_visits entry_visits region_visits block_visits operation_visits placed nesting_of result_types_span_in
    result_types_in operands_span_in operands_in regions_span_in regions_in arguments_span_in arguments_in operations_span_in operations_in blocks_span_in blocks_in
    functions_in claim_flag_in claim_in
its_places = refl

-- and these are found in the other tables, by the list as it was written
pub found_elsewhere : read_back_alone other (take 6 after.numbers) (replicate 19 9)
    ≡ reads (Ok tt) (0 ∷ 0 ∷ 0 ∷ 0 ∷ 0 ∷ 1 ∷ 1 ∷ 1 ∷ 0 ∷ 1 ∷ 1 ∷ 0 ∷ 0 ∷ 0 ∷ 0 ∷ 1 ∷ 1 ∷ 0 ∷ 9 ∷ [])
unfolding after
found_elsewhere =
    reading_finds_the_places (replicate 320 0) m other (replicate 7 9) (replicate 2 8) (replicate 19 9) 6
    (ap (λ (o : Outcome). o.answer) numbered) met
    ∙ ap (λ (a : Answer). after_read a (written (fine (operand_places m)) (replicate 19 9)) (replicate 19 9)) ranged ∙ its_places
