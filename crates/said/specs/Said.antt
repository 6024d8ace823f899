-- What the lines of a text say, kind by kind, beside what the tables hold of each entry. What one line says is lines/specs/Line.
use Rattle.std.specs.Prelude.{ℕ, ◌+◌, ◌<◌, Bool, cond, List, [], ◌∷◌, map, ◌≡◌, eqb, length, get_or, Option, Some, None}
use Prim.Native.String.{String}
use Rattle.fields.specs.Cut.{split, nth}
use Rattle.names.specs.Names.{bytes, equal}
use Rattle.tables.specs.Tables.{Tables, functions, regions, blocks, operations, opcode, result_types, operands, attributes, arguments, value_type, claim, type_form, type_kind, type_pointer, type_padded, type_sparse, type_rank, type_dims, attribute_name, attribute_form, attribute_numbers, attribute_absent}
use Rattle.tables.specs.declared.Claim.{Claim}
use Rattle.lines.specs.Field.{Read, says, bad}
use Rattle.lines.specs.Line.{HeaderRow, TypeRow, ValueRow, OperationRow, AttributeRow, BlockRow, header_line, type_line, value_line, operation_line, attribute_line, block_line, region_line, function_line}
use Rattle.house.specs.State.{State}

-- ---- the lines of a text, each cut at its tabs; what follows the last LF is none

unfoldable pub cut_lines : List (List ℕ) → List (List (List ℕ))
cut_lines [] = []
cut_lines (l ∷ []) = []
cut_lines (l ∷ m ∷ ls) = split 9 l ∷ cut_lines (m ∷ ls)

abbrev pub lines_in : List ℕ → List (List (List ℕ))
lines_in text = cut_lines (split 10 text)

-- those with a tag, in order
abbrev pub has_tag : List ℕ → List (List ℕ) → Bool
has_tag tag fs = equal (nth 0 fs) tag

unfoldable pub with_tag : List ℕ → List (List (List ℕ)) → List (List (List ℕ))
with_tag tag [] = []
with_tag tag (fs ∷ rest) = cond (has_tag tag fs) (fs ∷ with_tag tag rest) (with_tag tag rest)

abbrev pub lines_with : String → List ℕ → List (List (List ℕ))
lines_with tag text = with_tag (bytes tag) (lines_in text)

-- "`O` .., each followed by its `A` lines": the `A` lines that come first; and for each `O` line those that come right after it
unfoldable pub attributes_first : List (List (List ℕ)) → List (List (List ℕ))
attributes_first [] = []
attributes_first (fs ∷ rest) = cond (has_tag (bytes "A") fs) (fs ∷ attributes_first rest) []

unfoldable pub attributes_after : List (List (List ℕ)) → List (List (List (List ℕ)))
attributes_after [] = []
attributes_after (fs ∷ rest) = cond (has_tag (bytes "O") fs) (attributes_first rest ∷ attributes_after rest) (attributes_after rest)

-- ---- a table of n entries holds what these lines say: there are n, and line i says entry i ("Ids follow order of appearance")

pub record Holds {A : Type 0} (say : List (List ℕ) → Read A) (lines : List (List (List ℕ))) (entry : ℕ → A) (n : ℕ) : Type 0 where
  pub count : length lines ≡ n
  pub each : (i : ℕ) → i < n → say (get_or lines i []) ≡ says (entry i)

-- ---- an entry as the tables hold it, field by field

abbrev pub header_at : State → HeaderRow
header_at s = record { version = s.version; sm = s.sm }

abbrev pub type_at : Tables → ℕ → TypeRow
type_at x i = record {
  form = type_form x i;
  kind = type_kind x i;
  pointer = type_pointer x i;
  padded = type_padded x i;
  sparse = type_sparse x i;
  dims = type_dims x i;
}

abbrev pub operation_at : Tables → ℕ → OperationRow
operation_at x i = record { opcode = opcode x i; results = result_types x i; operands = operands x i; regions = regions x i }

abbrev pub attribute_at : Tables → ℕ → AttributeRow
attribute_at x k = record {
  name = attribute_name x k;
  form = attribute_form x k;
  numbers = attribute_numbers x k;
  missing = attribute_absent x k;
}

abbrev pub block_at : Tables → ℕ → BlockRow
block_at x j = record { arguments = arguments x j; operations = operations x j }

abbrev pub function_at : Tables → ℕ → ℕ
function_at x p = get_or (functions x) p 0

-- a value: its type and its owner
pub record Value : Type 0 where
  pub type_id : ℕ
  pub owner : Option Claim

abbrev pub value_at : Tables → ℕ → Value
value_at x v = record { type_id = value_type x v; owner = claim x v }

-- ---- what a line says, where the tables tell it in other words

abbrev pub meaning : {A B : Type 0} → (A → B) → Read A → Read B
meaning f (says w) = says (f w)
meaning f (bad k) = bad k

-- "0 token (no kind, other columns mean nothing)": a token has no pointer attribute, whatever its column says
abbrev pub meant_type : TypeRow → TypeRow
meant_type w = record {
  form = w.form;
  kind = w.kind;
  pointer = cond (eqb w.form 0) 0 w.pointer;
  padded = w.padded;
  sparse = w.sparse;
  dims = w.dims;
}

abbrev pub type_said : List (List ℕ) → Read TypeRow
type_said fs = meaning meant_type (type_line fs)

-- "operation and result or two empty fields"
abbrev pub meant_value : ValueRow → Value
meant_value w = record { type_id = w.type; owner = cond (eqb w.claims 1) (Some (record { operation = w.operation; index = w.index })) None }

abbrev pub value_said : List (List ℕ) → Read Value
value_said fs = meaning meant_value (value_line fs)

-- ---- all of it, of a text and the state that its reading ends in

pub record TablesHold (text : List ℕ) (s : State) : Type 0 where
  -- one header: version, sm
  pub header_held : Holds header_line (lines_with "tile" text) (λ _. header_at s) 1
  -- form, kind, pointer attribute, padded, sparse axis, dims
  pub types_held : Holds type_said (lines_with "T" text) (type_at s.tables) s.tables.counts.types
  pub ranks_held : (i : ℕ) → i < s.tables.counts.types → type_rank s.tables i ≡ length (type_dims s.tables i)
  -- type, and the operation and result that own the value, or none
  pub values_held : Holds value_said (lines_with "V" text) (value_at s.tables) s.tables.counts.values
  -- opcode, result types, operands, regions
  pub operations_held : Holds operation_line (lines_with "O" text) (operation_at s.tables) s.tables.counts.operations
  -- name, form, numbers, and which of them are absent
  pub attributes_held : Holds attribute_line (lines_with "A" text) (attribute_at s.tables) s.tables.counts.attributes
  -- the attributes of operation i, by id and in order, are the `A` lines that come right after `O` line i
  pub own_attributes : (i : ℕ) → i < s.tables.counts.operations
      → map (λ k. get_or (lines_with "A" text) k []) (attributes s.tables i) ≡ get_or (attributes_after (lines_in text)) i []
  -- arguments, operations
  pub blocks_held : Holds block_line (lines_with "B" text) (block_at s.tables) s.tables.counts.blocks
  -- blocks
  pub regions_held : Holds region_line (lines_with "R" text) (blocks s.tables) s.tables.counts.regions
  -- operation
  pub functions_held : Holds function_line (lines_with "F" text) (function_at s.tables) s.tables.counts.functions
  pub functions_listed : length (functions s.tables) ≡ s.tables.counts.functions
  -- and the text has no other line
  pub no_other_line :
      length (lines_in text)
      ≡ 1 + s.tables.counts.types + s.tables.counts.values + s.tables.counts.operations + s.tables.counts.attributes
      + s.tables.counts.blocks + s.tables.counts.regions + s.tables.counts.functions
