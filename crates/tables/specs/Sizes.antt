-- The paper's "Sizes", and the tables' numbers in code 1.
use Rattle.std.specs.Prelude.{ℕ, min}
use Rattle.tables.specs.declared.Counts.{Counts}

-- "Values 4,096; operations 2,048; blocks and regions 512 each; types 1,024; functions 64; attributes 4,096; list entries 8,192 in all;
-- rank 8; block depth 32; text 65,536 bytes."
abbrev pub max_values : ℕ
max_values = 4096

abbrev pub max_operations : ℕ
max_operations = 2048

abbrev pub max_blocks : ℕ
max_blocks = 512

abbrev pub max_regions : ℕ
max_regions = 512

abbrev pub max_types : ℕ
max_types = 1024

abbrev pub max_functions : ℕ
max_functions = 64

abbrev pub max_attributes : ℕ
max_attributes = 4096

abbrev pub max_entries : ℕ
max_entries = 8192

abbrev pub max_rank : ℕ
max_rank = 8

abbrev pub max_depth : ℕ
max_depth = 32

abbrev pub max_text : ℕ
max_text = 65536

-- "Tables are numbered from 1 in the order T, V, O, A, B, R, F, with the sheet as 8"
abbrev pub type_table : ℕ
type_table = 1

abbrev pub value_table : ℕ
value_table = 2

abbrev pub operation_table : ℕ
operation_table = 3

abbrev pub attribute_table : ℕ
attribute_table = 4

abbrev pub block_table : ℕ
block_table = 5

abbrev pub region_table : ℕ
region_table = 6

abbrev pub function_table : ℕ
function_table = 7

abbrev pub sheet_table : ℕ
sheet_table = 8

-- "Opcodes are positions 0 to 104"; "Kinds, 0 to 15"; forms of `T` 0 to 6; 13 names, and 0 for any other; nine attribute forms; modes 0 to 15
abbrev pub opcodes : ℕ
opcodes = 105

abbrev pub kinds : ℕ
kinds = 16

abbrev pub type_forms : ℕ
type_forms = 7

abbrev pub modes : ℕ
modes = 16

-- counts that no size is passed by: what the checks after code 1 look at, and all there is where code 1 passes
abbrev pub cut_counts : Counts → Counts
cut_counts n = record {
  types = min n.types max_types;
  values = min n.values max_values;
  operations = min n.operations max_operations;
  attributes = min n.attributes max_attributes;
  blocks = min n.blocks max_blocks;
  regions = min n.regions max_regions;
  functions = min n.functions max_functions;
}
