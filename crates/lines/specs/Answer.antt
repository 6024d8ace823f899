-- What the functions answer of a line: its row, with the length for each list, or its leftmost bad field; and what the lists of a line
-- leave in the lent list entries.
use Rattle.std.specs.Prelude.{ℕ, cond, List, [], ◌∷◌, ◌++◌, eqb, ltb, length, take, replicate, Option, Some, None, Result, Ok, Err}
use Rattle.std.specs.Option.{option_map}
use Rattle.std.proofs.lemmas.List.Edits.{sets}
use Rattle.fields.specs.Cut.{split, nth}
use Rattle.names.specs.Names.{integer_form, bool_form, integers_form, bools_form, permutation_form, divisor_form, sizes_form, endpoints_form}
use Rattle.lines.specs.Field.{Read, says, bad, one_of, id32, integer32, integer64, list_of, Maybe}
use Rattle.lines.specs.Line.{HeaderRow, TypeRow, ValueRow, OperationRow, AttributeRow, BlockRow, Numbers, value_in, missing_bit, is_wrong, whole, single, three, two, numbers_of, form_of, operation_line, attribute_line, block_line, region_line}
use Rattle.lines.specs.Into.{good_of, Left, left}
use Rattle.lines.specs.declared.Width.{Width}
use Rattle.lines.specs.declared.Width.TheVariants.{Signed}
use Rattle.lines.specs.declared.BadField.{BadField}
use Rattle.lines.specs.declared.HeaderLine.{HeaderLine}
use Rattle.lines.specs.declared.TypeLine.{TypeLine}
use Rattle.tables.specs.declared.Claim.{Claim}
use Rattle.lines.specs.declared.ValueLine.{ValueLine}
use Rattle.lines.specs.declared.OperationLine.{OperationLine}
use Rattle.lines.specs.declared.AttributeLine.{AttributeLine}
use Rattle.lines.specs.declared.BlockLine.{BlockLine}
use Rattle.lines.specs.declared.Filled.{Filled}
use Rattle.lines.specs.declared.Slot.{Slot}

abbrev pub bad_field : ℕ → BadField
bad_field k = record { field = k }

-- a row, or the leftmost bad field
abbrev pub answered : {A B : Type 0} → (A → B) → Read A → Result B BadField
answered f (bad k) = Err (bad_field k)
answered f (says w) = Ok (f w)

abbrev pub header_line_of : HeaderRow → HeaderLine
header_line_of w = record { version = w.version; sm = w.sm }

abbrev pub header_of : Read HeaderRow → Result HeaderLine BadField
header_of = answered header_line_of

-- the first eight dims, the places after them 0
abbrev pub eight : List ℕ → List ℕ
eight dims = take 8 (dims ++ replicate 8 0)

abbrev pub type_line_of : TypeRow → TypeLine
type_line_of w =
    record {
      form = w.form;
      kind = w.kind;
      pointer = w.pointer;
      padded = w.padded;
      sparse = w.sparse;
      rank = length w.dims;
      dims = eight w.dims;
    }

abbrev pub type_of : Read TypeRow → Result TypeLine BadField
type_of = answered type_line_of

-- "dims of forms 4 to 6" have 32 bits
abbrev pub dim_width : ℕ → Width
dim_width form = cond (ltb form 4) (Signed 0x8000_0000_0000_0000) (Signed 0x8000_0000)

-- the operation and the result claimed, where one is claimed
abbrev pub claim_of : ValueRow → Option Claim
claim_of w = cond (eqb w.claims 0) None (Some (record { operation = w.operation; index = w.index }))

abbrev pub value_line_of : ValueRow → ValueLine
value_line_of w = record { type_id = w.type; claim = claim_of w }

abbrev pub value_of : Read ValueRow → Result ValueLine BadField
value_of = answered value_line_of

abbrev pub function_of : Read ℕ → Result ℕ BadField
function_of = answered (λ operation. operation)

-- ---- lines with lists: their numbers stand in the entries, one list after the other

-- the lists of a line: the next one is read only where the one before has no bad item
abbrev pub if_read : Option (List ℕ) → List ℕ → List ℕ
if_read None ys = []
if_read (Some xs) ys = ys

abbrev pub good_lists : (List ℕ → Option ℕ) → List (List ℕ) → List ℕ
good_lists f [] = []
good_lists f (p ∷ ps) = good_of f p ++ if_read (list_of f p) (good_lists f ps)

abbrev pub operation_line_of : OperationRow → OperationLine
operation_line_of w = record { opcode = w.opcode; results = length w.results; operands = length w.operands; regions = length w.regions }

abbrev pub operation_of : Read OperationRow → Result OperationLine BadField
operation_of = answered operation_line_of

-- nothing is written after a bad opcode
abbrev pub if_number : Option ℕ → List ℕ → List ℕ
if_number None xs = []
if_number (Some n) xs = xs

unfoldable pub operation_numbers : List (List ℕ) → List ℕ
operation_numbers fs = if_number (one_of 105 (nth 1 fs)) (good_lists id32 (nth 2 fs ∷ nth 3 fs ∷ nth 4 fs ∷ []))

unfoldable pub operation_into : ℕ → List (List ℕ) → List ℕ → Left (Result OperationLine BadField)
operation_into at fs l = left (operation_of (operation_line fs)) (sets l at (operation_numbers fs))

abbrev pub block_line_of : BlockRow → BlockLine
block_line_of w = record { arguments = length w.arguments; operations = length w.operations }

abbrev pub block_of : Read BlockRow → Result BlockLine BadField
block_of = answered block_line_of

unfoldable pub block_numbers : List (List ℕ) → List ℕ
block_numbers fs = good_lists id32 (nth 1 fs ∷ nth 2 fs ∷ [])

unfoldable pub block_into : ℕ → List (List ℕ) → List ℕ → Left (Result BlockLine BadField)
block_into at fs l = left (block_of (block_line fs)) (sets l at (block_numbers fs))

abbrev pub region_of : Read (List ℕ) → Result ℕ BadField
region_of = answered length

unfoldable pub region_numbers : List (List ℕ) → List ℕ
region_numbers fs = good_of id32 (nth 1 fs)

unfoldable pub region_into : ℕ → List (List ℕ) → List ℕ → Left (Result ℕ BadField)
region_into at fs l = left (region_of (region_line fs)) (sets l at (region_numbers fs))

-- ---- `A`: its numbers stand in the entries, an absent one as 0

-- the form of a letter that names one
abbrev pub form_in : List ℕ → Option ℕ
form_in s = cond (ltb (form_of s) 9) (Some (form_of s)) None

-- a number that may be absent, where it is not wrong: its value, and its bit where it is absent
abbrev pub slot_of : ℕ → Maybe → Option Slot
slot_of bit m = cond (is_wrong m) None (Some (record { value = value_in m; missing = missing_bit bit m }))

abbrev pub filled_of : Option Numbers → Option Filled
filled_of = option_map (λ n. record { count = length n.held; missing = n.missing })

abbrev pub held_in : Option Numbers → List ℕ
held_in None = []
held_in (Some n) = n.held

-- all numbers are written, or none
unfoldable pub held_into : ℕ → Option Numbers → List ℕ → Left (Option Filled)
held_into at o l = left (filled_of o) (sets l at (held_in o))

-- a list is written up to its first bad item
unfoldable pub whole_into : (List ℕ → Option ℕ) → ℕ → List ℕ → List ℕ → Left (Option Filled)
whole_into f at s l = left (filled_of (whole (list_of f s))) (sets l at (good_of f s))

unfoldable pub numbers_written : ℕ → List ℕ → List ℕ
numbers_written form s =
    cond (eqb form integer_form) (held_in (single (integer64 s)))
    (cond (eqb form bool_form) (held_in (single (one_of 2 s)))
    (cond (eqb form integers_form) (good_of integer64 s)
    (cond (eqb form bools_form) (good_of (one_of 2) s)
    (cond (eqb form permutation_form) (good_of integer32 s)
    (cond (eqb form divisor_form) (held_in (three (split 44 s)))
    (cond (eqb form sizes_form) (good_of integer64 s)
    (cond (eqb form endpoints_form) (held_in (two (split 44 s)))
    [])))))))

unfoldable pub numbers_into : ℕ → ℕ → List ℕ → List ℕ → Left (Option Filled)
numbers_into form at s l = left (filled_of (numbers_of form s)) (sets l at (numbers_written form s))

abbrev pub attribute_line_of : AttributeRow → AttributeLine
attribute_line_of w = record { name = w.name; form = w.form; count = length w.numbers; missing = w.missing }

abbrev pub attribute_of : Read AttributeRow → Result AttributeLine BadField
attribute_of = answered attribute_line_of

-- nothing is written after an empty name or an unknown form
abbrev pub if_named : List ℕ → List ℕ → List ℕ
if_named [] xs = []
if_named (b ∷ bs) xs = xs

unfoldable pub attribute_numbers : List (List ℕ) → List ℕ
attribute_numbers fs = if_named (nth 1 fs) (cond (ltb (form_of (nth 2 fs)) 9) (numbers_written (form_of (nth 2 fs)) (nth 3 fs)) [])

unfoldable pub attribute_into : ℕ → List (List ℕ) → List ℕ → Left (Result AttributeLine BadField)
attribute_into at fs l = left (attribute_of (attribute_line fs)) (sets l at (attribute_numbers fs))
