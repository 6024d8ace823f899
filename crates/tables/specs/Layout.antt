-- Where things stand in the lent slices. This is the only file of definitions that speaks of rows and columns.
-- A row has a fixed number of cells; entries past the count read as 0 and as the empty list.
--
--   T  16 cells   form, kind, pointer attribute, padded, sparse axis, rank, two free, eight dims
--   V   4 cells   type, 1 where it claims a result, the operation, the result's index
--   O  16 cells   opcode; start and length of result types, of operands, of regions, of attributes (rows of A); seven free
--   A   8 cells   name, form; start and length of its numbers; which of them are absent, bit k for number k; three free
--   B   4 cells   start and length of arguments, of operations
--   R   2 cells   start and length of blocks
--   F   1 cell    operation
use Rattle.std.specs.Prelude.{ℕ, ◌-◌, min, cond, List, ltb, eqb, take, Option, Some, None}
use Rattle.cells.specs.Cell.{cell, span_at, entries_of, part_at}
use Rattle.cells.specs.declared.Span.{Span}
use Rattle.tables.specs.Sizes.{max_rank}
use Rattle.tables.specs.declared.Counts.{Counts}
use Rattle.tables.specs.declared.Claim.{Claim}

-- a cell of an entry that counts, 0 of any other; `n` entries in rows of `w` cells
abbrev pub counted_cell : ℕ → ℕ → List ℕ → ℕ → ℕ → ℕ
counted_cell n w xs i j = cond (ltb i n) (cell w xs i j) 0

-- the span of a list of an entry that counts, an empty one of any other
abbrev pub counted_span : ℕ → ℕ → List ℕ → ℕ → ℕ → Span
counted_span n w xs i j = cond (ltb i n) (span_at w xs i j) (record { start = 0; len = 0 })

-- ---- of an operation

unfoldable pub opcode_in : List ℕ → Counts → ℕ → ℕ
opcode_in o n i = counted_cell n.operations 16 o i 0

unfoldable pub result_types_span_in : List ℕ → Counts → ℕ → Span
result_types_span_in o n i = counted_span n.operations 16 o i 1

unfoldable pub result_types_in : List ℕ → List ℕ → Counts → ℕ → List ℕ
result_types_in o l n i = entries_of l (result_types_span_in o n i)

unfoldable pub operands_span_in : List ℕ → Counts → ℕ → Span
operands_span_in o n i = counted_span n.operations 16 o i 3

unfoldable pub operands_in : List ℕ → List ℕ → Counts → ℕ → List ℕ
operands_in o l n i = entries_of l (operands_span_in o n i)

unfoldable pub regions_span_in : List ℕ → Counts → ℕ → Span
regions_span_in o n i = counted_span n.operations 16 o i 5

unfoldable pub regions_in : List ℕ → List ℕ → Counts → ℕ → List ℕ
regions_in o l n i = entries_of l (regions_span_in o n i)

-- its attributes stand next to each other in A: the first and how many; the same, as far as the attributes go
unfoldable pub attributes_span_in : List ℕ → Counts → ℕ → Span
attributes_span_in o n i = counted_span n.operations 16 o i 7

unfoldable pub attributes_in : List ℕ → Counts → ℕ → Span
attributes_in o n i =
    let s = attributes_span_in o n i in
    record { start = s.start; len = min s.len (n.attributes - s.start) }

-- ---- of a block

unfoldable pub arguments_span_in : List ℕ → Counts → ℕ → Span
arguments_span_in b n j = counted_span n.blocks 4 b j 0

unfoldable pub arguments_in : List ℕ → List ℕ → Counts → ℕ → List ℕ
arguments_in b l n j = entries_of l (arguments_span_in b n j)

unfoldable pub operations_span_in : List ℕ → Counts → ℕ → Span
operations_span_in b n j = counted_span n.blocks 4 b j 2

unfoldable pub operations_in : List ℕ → List ℕ → Counts → ℕ → List ℕ
operations_in b l n j = entries_of l (operations_span_in b n j)

-- ---- of a region

unfoldable pub blocks_span_in : List ℕ → Counts → ℕ → Span
blocks_span_in r n k = counted_span n.regions 2 r k 0

unfoldable pub blocks_in : List ℕ → List ℕ → Counts → ℕ → List ℕ
blocks_in r l n k = entries_of l (blocks_span_in r n k)

-- ---- the functions' operations

unfoldable pub functions_in : List ℕ → Counts → List ℕ
functions_in f n = take n.functions f

-- ---- of a value

unfoldable pub value_type_in : List ℕ → Counts → ℕ → ℕ
value_type_in v n i = counted_cell n.values 4 v i 0

unfoldable pub claim_flag_in : List ℕ → Counts → ℕ → ℕ
claim_flag_in v n i = counted_cell n.values 4 v i 1

unfoldable pub claim_in : List ℕ → Counts → ℕ → Option Claim
claim_in v n i =
    cond (eqb (claim_flag_in v n i) 1)
    (Some (record { operation = counted_cell n.values 4 v i 2; index = counted_cell n.values 4 v i 3 }))
    None

-- ---- of a type

unfoldable pub form_in : List ℕ → Counts → ℕ → ℕ
form_in t n i = counted_cell n.types 16 t i 0

unfoldable pub kind_in : List ℕ → Counts → ℕ → ℕ
kind_in t n i = counted_cell n.types 16 t i 1

-- a token's other columns mean nothing: its pointer attribute counts as absent
unfoldable pub pointer_in : List ℕ → Counts → ℕ → ℕ
pointer_in t n i = cond (eqb (form_in t n i) 0) 0 (counted_cell n.types 16 t i 2)

unfoldable pub padded_in : List ℕ → Counts → ℕ → ℕ
padded_in t n i = counted_cell n.types 16 t i 3

unfoldable pub sparse_in : List ℕ → Counts → ℕ → ℕ
sparse_in t n i = counted_cell n.types 16 t i 4

unfoldable pub rank_in : List ℕ → Counts → ℕ → ℕ
rank_in t n i = counted_cell n.types 16 t i 5

-- as many dims as the rank says, and no more than eight, each as 64 bits
unfoldable pub dims_in : List ℕ → Counts → ℕ → List ℕ
dims_in t n i = part_at 16 t i 8 (min (rank_in t n i) max_rank)

-- ---- of an attribute

unfoldable pub name_in : List ℕ → Counts → ℕ → ℕ
name_in a n k = counted_cell n.attributes 8 a k 0

unfoldable pub attribute_form_in : List ℕ → Counts → ℕ → ℕ
attribute_form_in a n k = counted_cell n.attributes 8 a k 1

unfoldable pub numbers_span_in : List ℕ → Counts → ℕ → Span
numbers_span_in a n k = counted_span n.attributes 8 a k 2

unfoldable pub numbers_in : List ℕ → List ℕ → Counts → ℕ → List ℕ
numbers_in a l n k = entries_of l (numbers_span_in a n k)

unfoldable pub absent_in : List ℕ → Counts → ℕ → ℕ
absent_in a n k = counted_cell n.attributes 8 a k 4
