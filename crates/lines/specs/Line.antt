-- What a line of each kind says, field by field: the paper's "House text".
use Rattle.std.specs.Prelude.{ℕ, ◌+◌, Bool, cond, List, [], ◌∷◌, eqb, ltb, length, Option, Some, None}
use Rattle.fields.specs.Cut.{split, nth}
use Rattle.names.specs.Names.{bytes, equal, number_of, integer_form, bool_form, integers_form, bools_form, permutation_form, divisor_form, sizes_form, endpoints_form, other_form}
use Rattle.lines.specs.Field.{Read, says, bad, number, list, one_of, id32, unsigned64, integer32, integer64, only, list_of, Maybe, here, absent, wrong, or_absent}

-- "header `tile`, form number 1, minor version (4 is 13.4), sm"; any signed 64 reads, 16 judges it
pub record HeaderRow : Type 0 where
  pub version : ℕ
  pub sm : ℕ

unfoldable pub header_line : List (List ℕ) → Read HeaderRow
header_line fs =
    number 2 (only 1 (integer64 (nth 1 fs)))
    (λ _. number 3 (integer64 (nth 2 fs))
    (λ version. number 4 (integer64 (nth 3 fs))
    (λ sm. says (record { version = version; sm = sm }))))

-- "`T` form, kind, pointer attribute or 0, padded 0/1, sparse axis or -1, dims"
pub record TypeRow : Type 0 where
  pub form : ℕ
  pub kind : ℕ
  pub pointer : ℕ
  pub padded : ℕ
  pub sparse : ℕ
  pub dims : List ℕ

abbrev pub dim_of : ℕ → List ℕ → Option ℕ
dim_of form s = cond (ltb form 4) (integer64 s) (integer32 s)

unfoldable pub type_line : List (List ℕ) → Read TypeRow
type_line fs =
    number 2 (one_of 7 (nth 1 fs))
    (λ form. number 3 (one_of 16 (nth 2 fs))
    (λ kind. number 4 (id32 (nth 3 fs))
    (λ pointer. number 5 (one_of 2 (nth 4 fs))
    (λ padded. number 6 (integer32 (nth 5 fs))
    (λ sparse. list 7 (list_of (dim_of form) (nth 6 fs))
    (λ dims. says (record { form = form; kind = kind; pointer = pointer; padded = padded; sparse = sparse; dims = dims })))))))

-- "`V` type, operation and result or two empty fields (one empty alone is the bad one)"
pub record ValueRow : Type 0 where
  pub type : ℕ
  pub claims : ℕ
  pub operation : ℕ
  pub index : ℕ

abbrev pub value_row_of : ℕ → ℕ → ℕ → ℕ → ValueRow
value_row_of ty c i k = record { type = ty; claims = c; operation = i; index = k }

abbrev pub owner : ℕ → List ℕ → List ℕ → Read ValueRow
owner ty [] [] = says (value_row_of ty 0 0 0)
owner ty [] (b ∷ bs) = bad 3
owner ty (b ∷ bs) s = number 3 (id32 (b ∷ bs)) (λ i. number 4 (integer64 s) (λ k. says (value_row_of ty 1 i k)))

unfoldable pub value_line : List (List ℕ) → Read ValueRow
value_line fs = number 2 (id32 (nth 1 fs)) (λ ty. owner ty (nth 2 fs) (nth 3 fs))

-- "`O` opcode, result types, operands, regions"
pub record OperationRow : Type 0 where
  pub opcode : ℕ
  pub results : List ℕ
  pub operands : List ℕ
  pub regions : List ℕ

unfoldable pub operation_line : List (List ℕ) → Read OperationRow
operation_line fs =
    number 2 (one_of 105 (nth 1 fs))
    (λ opcode. list 3 (list_of id32 (nth 2 fs))
    (λ results. list 4 (list_of id32 (nth 3 fs))
    (λ operands. list 5 (list_of id32 (nth 4 fs))
    (λ regions. says (record { opcode = opcode; results = results; operands = operands; regions = regions })))))

-- "`A` lines (name, form, list)"; "`i` integer, `b` bool, `a` integers, `z` bools, `p` permutation, `d` divisor, every, along (empty when
-- absent), `s` sizes, `r` two endpoints (likewise), `x` other with an empty list". Bit k of `missing` says that number k is absent.
pub record AttributeRow : Type 0 where
  pub name : ℕ
  pub form : ℕ
  pub numbers : List ℕ
  pub missing : ℕ

pub record Numbers : Type 0 where
  pub held : List ℕ
  pub missing : ℕ

abbrev pub held : List ℕ → Numbers
held xs = record { held = xs; missing = 0 }

abbrev pub whole : Option (List ℕ) → Option Numbers
whole None = None
whole (Some xs) = Some (held xs)

abbrev pub single : Option ℕ → Option Numbers
single None = None
single (Some n) = Some (held (n ∷ []))

abbrev pub value_in : Maybe → ℕ
value_in (here n) = n
value_in absent = 0
value_in wrong = 0

abbrev pub missing_bit : ℕ → Maybe → ℕ
missing_bit b (here n) = 0
missing_bit b absent = b
missing_bit b wrong = 0

abbrev pub is_wrong : Maybe → Bool
is_wrong (here n) = Bool.false
is_wrong absent = Bool.false
is_wrong wrong = Bool.true

abbrev pub divisor_numbers : Option ℕ → Maybe → Maybe → Option Numbers
divisor_numbers None every along = None
divisor_numbers (Some d) every along =
    cond (is_wrong every) None
    (cond (is_wrong along) None
    (Some (record { held = d ∷ value_in every ∷ value_in along ∷ []; missing = missing_bit 2 every + missing_bit 4 along })))

abbrev pub endpoint_numbers : Maybe → Maybe → Option Numbers
endpoint_numbers low high =
    cond (is_wrong low) None
    (cond (is_wrong high) None
    (Some (record { held = value_in low ∷ value_in high ∷ []; missing = missing_bit 1 low + missing_bit 2 high })))

abbrev pub three : List (List ℕ) → Option Numbers
three ss =
    cond (eqb (length ss) 3) (divisor_numbers (unsigned64 (nth 0 ss)) (or_absent integer64 (nth 1 ss)) (or_absent integer64 (nth 2 ss))) None

abbrev pub two : List (List ℕ) → Option Numbers
two ss = cond (eqb (length ss) 2) (endpoint_numbers (or_absent integer64 (nth 0 ss)) (or_absent integer64 (nth 1 ss))) None

abbrev pub nothing : List ℕ → Option Numbers
nothing [] = Some (held [])
nothing (b ∷ bs) = None

-- the list of a form
unfoldable pub numbers_of : ℕ → List ℕ → Option Numbers
numbers_of form s =
    cond (eqb form integer_form) (single (integer64 s))
    (cond (eqb form bool_form) (single (one_of 2 s))
    (cond (eqb form integers_form) (whole (list_of integer64 s))
    (cond (eqb form bools_form) (whole (list_of (one_of 2) s))
    (cond (eqb form permutation_form) (whole (list_of integer32 s))
    (cond (eqb form divisor_form) (three (split 44 s))
    (cond (eqb form sizes_form) (whole (list_of integer64 s))
    (cond (eqb form endpoints_form) (two (split 44 s))
    (nothing s))))))))

-- the form of a letter, 9 for any other field
abbrev pub form_of : List ℕ → ℕ
form_of s =
    cond (equal s (bytes "i")) integer_form
    (cond (equal s (bytes "b")) bool_form
    (cond (equal s (bytes "a")) integers_form
    (cond (equal s (bytes "z")) bools_form
    (cond (equal s (bytes "p")) permutation_form
    (cond (equal s (bytes "d")) divisor_form
    (cond (equal s (bytes "s")) sizes_form
    (cond (equal s (bytes "r")) endpoints_form
    (cond (equal s (bytes "x")) other_form 9))))))))

abbrev pub with_numbers : ℕ → ℕ → Option Numbers → Read AttributeRow
with_numbers name form None = bad 4
with_numbers name form (Some n) = says (record { name = name; form = form; numbers = n.held; missing = n.missing })

-- "Names are nonempty bytes"
abbrev pub named : List ℕ → Read AttributeRow → Read AttributeRow
named [] rest = bad 2
named (b ∷ bs) rest = rest

unfoldable pub attribute_line : List (List ℕ) → Read AttributeRow
attribute_line fs =
    named (nth 1 fs)
    (cond (ltb (form_of (nth 2 fs)) 9)
    (with_numbers (number_of (nth 1 fs)) (form_of (nth 2 fs)) (numbers_of (form_of (nth 2 fs)) (nth 3 fs)))
    (bad 3))

-- "`B` arguments, operations; `R` blocks; `F` operation"
pub record BlockRow : Type 0 where
  pub arguments : List ℕ
  pub operations : List ℕ

unfoldable pub block_line : List (List ℕ) → Read BlockRow
block_line fs =
    list 2 (list_of id32 (nth 1 fs))
    (λ arguments. list 3 (list_of id32 (nth 2 fs))
    (λ operations. says (record { arguments = arguments; operations = operations })))

unfoldable pub region_line : List (List ℕ) → Read (List ℕ)
region_line fs = list 2 (list_of id32 (nth 1 fs)) says

unfoldable pub function_line : List (List ℕ) → Read ℕ
function_line fs = number 2 (id32 (nth 1 fs)) says
