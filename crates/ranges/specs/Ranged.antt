-- What tables that pass code 1 have: the ids that they list name entries, the lists are whole, and no size is exceeded.
use Rattle.std.specs.Prelude.{ℕ, ◌+◌, ◌≤◌, ◌<◌, ◌≡◌, List, length, get_or, Some}
use Rattle.tables.specs.Sizes.{max_types, max_values, max_operations, max_attributes, max_blocks, max_regions, max_functions, max_entries, opcodes}
use Rattle.tables.specs.Tables.{Tables, functions, opcode, result_types, operands, regions, arguments, operations, blocks, value_type, claim, attribute_numbers, result_types_span, operands_span, regions_span, attributes_span, numbers_span, arguments_span, operations_span, blocks_span}
use Rattle.ranges.specs.Range.{sum, listed_by_region, before_regions}

-- every entry of a list is below n
abbrev pub Below : List ℕ → ℕ → Type 0
Below xs n = (k : ℕ) → k < length xs → get_or xs k 0 < n

-- a row past its count reads as empty lists, so what is said of lists is said of every row
pub record Ranged (x : Tables) : Type 0 where
  -- no count passes its table's size
  pub types_fit : x.counts.types ≤ max_types
  pub values_fit : x.counts.values ≤ max_values
  pub operations_fit : x.counts.operations ≤ max_operations
  pub attributes_fit : x.counts.attributes ≤ max_attributes
  pub blocks_fit : x.counts.blocks ≤ max_blocks
  pub regions_fit : x.counts.regions ≤ max_regions
  pub functions_fit : x.counts.functions ≤ max_functions
  -- a value's type is one of the types, and what it claims is a result of one of the operations
  pub value_types : (v : ℕ) → v < x.counts.values → value_type x v < x.counts.types
  pub claims : (v i k : ℕ) → claim x v ≡ Some (record { operation = i; index = k }) → i < x.counts.operations
  -- an opcode is one of the paper's
  pub opcodes_known : (i : ℕ) → i < x.counts.operations → opcode x i < opcodes
  -- every id of a list names an entry of its table
  pub result_types_below : (i : ℕ) → Below (result_types x i) x.counts.types
  pub operands_below : (i : ℕ) → Below (operands x i) x.counts.values
  pub regions_below : (i : ℕ) → Below (regions x i) x.counts.regions
  pub arguments_below : (j : ℕ) → Below (arguments x j) x.counts.values
  pub operations_below : (j : ℕ) → Below (operations x j) x.counts.operations
  pub blocks_below : (k : ℕ) → Below (blocks x k) x.counts.blocks
  pub functions_below : Below (functions x) x.counts.operations
  -- every list is as long as its span says: none runs past the list entries
  pub result_types_whole : (i : ℕ) → length (result_types x i) ≡ (result_types_span x i).len
  pub operands_whole : (i : ℕ) → length (operands x i) ≡ (operands_span x i).len
  pub regions_whole : (i : ℕ) → length (regions x i) ≡ (regions_span x i).len
  pub numbers_whole : (k : ℕ) → length (attribute_numbers x k) ≡ (numbers_span x k).len
  pub arguments_whole : (j : ℕ) → length (arguments x j) ≡ (arguments_span x j).len
  pub operations_whole : (j : ℕ) → length (operations x j) ≡ (operations_span x j).len
  pub blocks_whole : (k : ℕ) → length (blocks x k) ≡ (blocks_span x k).len
  pub functions_whole : length (functions x) ≡ x.counts.functions
  -- an operation's attributes are rows of A that count
  pub attributes_within : (i : ℕ) → (attributes_span x i).start + (attributes_span x i).len ≤ x.counts.attributes
  -- "list entries 8,192 in all"
  pub entries_fit : before_regions x + sum (listed_by_region x) x.counts.regions ≤ max_entries
