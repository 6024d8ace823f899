-- The names that a rule looks up, with their numbers, and the numbers of the attribute forms.
-- Paper: "Names are nonempty bytes; tables keep a number for each name a rule looks up and 0 for any other."
use Rattle.std.specs.Prelude.{ℕ, suc, List, [], ◌∷◌, Bool, true, false, ◌&&◌, cond, eqb}
use Prim.Native.Char.{code}
use Prim.Native.String.{String, [] as []ˢ, ◌∷◌ as ◌∷ˢ◌}

-- two lists of bytes are equal
abbrev pub equal : List ℕ → List ℕ → Bool
equal [] [] = true
equal [] (y ∷ ys) = false
equal (x ∷ xs) [] = false
equal (x ∷ xs) (y ∷ ys) = eqb x y && equal xs ys

-- the bytes of a text of ASCII characters
abbrev pub bytes : String → List ℕ
bytes []ˢ = []
bytes (c ∷ˢ s) = code c ∷ bytes s

-- the names, in the order of their numbers
unfoldable pub names : List (List ℕ)
names =
    bytes "rounding_mode" ∷  -- 1
    bytes "saturating" ∷  -- 2
    bytes "inbounds" ∷  -- 3
    bytes "fast_acc" ∷  -- 4
    bytes "producer" ∷  -- 5
    bytes "permutation" ∷  -- 6
    bytes "mode" ∷  -- 7
    bytes "memory_ordering_semantics" ∷  -- 8
    bytes "memory_scope" ∷  -- 9
    bytes "num_elem" ∷  -- 10
    bytes "alignment" ∷  -- 11
    bytes "operandSegmentSizes" ∷  -- 12
    bytes "flush_to_zero" ∷  -- 13
    []

-- the number of the first of the names that has these bytes, the names counted from `from`; 0 where there is none
abbrev pub number_from : ℕ → List (List ℕ) → List ℕ → ℕ
number_from from [] name = 0
number_from from (n ∷ ns) name = cond (equal name n) from (number_from (suc from) ns name)

-- a name's number, counted from 1
unfoldable pub number_of : List ℕ → ℕ
number_of name = number_from 1 names name

-- the names' numbers: the first five are looked up by the requirements, the others and `rounding_mode` by the operation rules
abbrev pub rounding_mode : ℕ
rounding_mode = 1

abbrev pub saturating : ℕ
saturating = 2

abbrev pub inbounds : ℕ
inbounds = 3

abbrev pub fast_acc : ℕ
fast_acc = 4

abbrev pub producer : ℕ
producer = 5

abbrev pub permutation : ℕ
permutation = 6

abbrev pub mode : ℕ
mode = 7

abbrev pub memory_ordering_semantics : ℕ
memory_ordering_semantics = 8

abbrev pub memory_scope : ℕ
memory_scope = 9

abbrev pub num_elem : ℕ
num_elem = 10

abbrev pub alignment : ℕ
alignment = 11

abbrev pub operand_segment_sizes : ℕ
operand_segment_sizes = 12

abbrev pub flush_to_zero : ℕ
flush_to_zero = 13

-- the attribute forms: `i` integer, `b` bool, `a` integers, `z` bools, `p` permutation, `d` divisor, `s` sizes, `r` endpoints, `x` other
abbrev pub integer_form : ℕ
integer_form = 0

abbrev pub bool_form : ℕ
bool_form = 1

abbrev pub integers_form : ℕ
integers_form = 2

abbrev pub bools_form : ℕ
bools_form = 3

abbrev pub permutation_form : ℕ
permutation_form = 4

abbrev pub divisor_form : ℕ
divisor_form = 5

abbrev pub sizes_form : ℕ
sizes_form = 6

abbrev pub endpoints_form : ℕ
endpoints_form = 7

abbrev pub other_form : ℕ
other_form = 8
