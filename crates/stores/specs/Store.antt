-- One line stored as entry n: the list entries in use after it, its bad field, or no room for it.
use Rattle.std.specs.Prelude.{ℕ, ◌+◌, ◌*◌, ◌%◌, ◌^◌, ◌&&◌, cond, List, ◌++◌, ltb, leb, length, get_or, set, Result, Ok, Err}
use Rattle.std.proofs.lemmas.List.Edits.{sets}
use Rattle.tables.specs.Sizes.{max_types, max_values, max_operations, max_attributes, max_blocks, max_regions, max_functions, max_entries, max_rank}
use Rattle.lines.specs.Field.{Read, says, bad}
use Rattle.lines.specs.Line.{TypeRow, ValueRow, OperationRow, AttributeRow, BlockRow, operation_line, attribute_line, block_line, region_line}
use Rattle.lines.specs.Into.{Left, left}
use Rattle.lines.specs.Answer.{operation_numbers, attribute_numbers, block_numbers, region_numbers}
use Rattle.stores.specs.Rows.{type_cells, value_cells, operation_cells, attribute_cells, block_cells, region_cells}
use Rattle.stores.specs.declared.Unstored.{Unstored}
use Rattle.stores.specs.declared.Unstored.TheVariants.{Bad, Full}

-- in one table
unfoldable pub type_store : ℕ → ℕ → Read TypeRow → List ℕ → Left (Result ℕ Unstored)
type_store at n (bad k) t = left (Err (Bad k)) t
type_store at n (says w) t =
    cond (ltb n max_types && leb (length w.dims) max_rank) (left (Ok at) (sets t (n * 16) (type_cells w))) (left (Err Full) t)

unfoldable pub value_store : ℕ → ℕ → Read ValueRow → List ℕ → Left (Result ℕ Unstored)
value_store at n (bad k) v = left (Err (Bad k)) v
value_store at n (says w) v = cond (ltb n max_values) (left (Ok at) (sets v (n * 4) (value_cells w))) (left (Err Full) v)

unfoldable pub function_store : ℕ → ℕ → Read ℕ → List ℕ → Left (Result ℕ Unstored)
function_store at n (bad k) f = left (Err (Bad k)) f
function_store at n (says i) f = cond (ltb n max_functions) (left (Ok at) (set f n i)) (left (Err Full) f)

-- in a table and the list entries, which hold the numbers read whether the line is taken or not
pub record Both : Type 0 where
  pub answer : Result ℕ Unstored
  pub table : List ℕ
  pub entries : List ℕ

abbrev pub both : Result ℕ Unstored → List ℕ → List ℕ → Both
both r t l = record { answer = r; table = t; entries = l }

-- a line whose row goes to a table of `size` entries with `more` list entries from `at` on
abbrev pub with_lists : ℕ → ℕ → ℕ → ℕ → List ℕ → List ℕ → List ℕ → Both
with_lists size at n more new t l = cond (ltb n size && leb (at + more) max_entries) (both (Ok (at + more)) new l) (both (Err Full) t l)

abbrev pub operation_row : ℕ → ℕ → ℕ → Read OperationRow → List ℕ → List ℕ → Both
operation_row at n first (bad k) o l = both (Err (Bad k)) o l
operation_row at n first (says w) o l =
    with_lists max_operations at n (length (w.results ++ w.operands ++ w.regions)) (sets o (n * 16) (operation_cells at (first % 2 ^ 32) w)) o l

unfoldable pub operation_store : ℕ → ℕ → ℕ → List (List ℕ) → List ℕ → List ℕ → Both
operation_store at n first fs o l = operation_row at n first (operation_line fs) o (sets l at (operation_numbers fs))

abbrev pub attribute_row : ℕ → ℕ → Read AttributeRow → List ℕ → List ℕ → Both
attribute_row at n (bad k) a l = both (Err (Bad k)) a l
attribute_row at n (says w) a l = with_lists max_attributes at n (length w.numbers) (sets a (n * 8) (attribute_cells at w)) a l

unfoldable pub attribute_store : ℕ → ℕ → List (List ℕ) → List ℕ → List ℕ → Both
attribute_store at n fs a l = attribute_row at n (attribute_line fs) a (sets l at (attribute_numbers fs))

abbrev pub block_row : ℕ → ℕ → Read BlockRow → List ℕ → List ℕ → Both
block_row at n (bad k) b l = both (Err (Bad k)) b l
block_row at n (says w) b l = with_lists max_blocks at n (length (w.arguments ++ w.operations)) (sets b (n * 4) (block_cells at w)) b l

unfoldable pub block_store : ℕ → ℕ → List (List ℕ) → List ℕ → List ℕ → Both
block_store at n fs b l = block_row at n (block_line fs) b (sets l at (block_numbers fs))

abbrev pub region_row : ℕ → ℕ → Read (List ℕ) → List ℕ → List ℕ → Both
region_row at n (bad k) r l = both (Err (Bad k)) r l
region_row at n (says blocks) r l = with_lists max_regions at n (length blocks) (sets r (n * 2) (region_cells at blocks)) r l

unfoldable pub region_store : ℕ → ℕ → List (List ℕ) → List ℕ → List ℕ → Both
region_store at n fs r l = region_row at n (region_line fs) r (sets l at (region_numbers fs))

-- ---- one attribute more: its operation counts it. A cell keeps 32 bits, which no text passes (law `one_more` of crate `module_text`)

abbrev pub one_attribute_more : List ℕ → ℕ → List ℕ
one_attribute_more o k = set o k ((get_or o k 0 + 1) % 2 ^ 32)
