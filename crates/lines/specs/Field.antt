-- The fields of a line, and how a line is judged: by its leftmost bad field. Fields are counted from 1; the tag is field 1.
-- "fields parted by tabs; lists by commas; decimal numbers without leading zeros; minus only before a nonzero number."
use Rattle.std.specs.Prelude.{ℕ, ◌-◌, ◌^◌, cond, List, [], ◌∷◌, eqb, Option, Some, None}
use Rattle.fields.specs.Number.{unsigned_of, signed_of}
use Rattle.fields.specs.Cut.{split}

-- what a line says, or its leftmost bad field
pub data Read (A : Type 0) : Type 0 where
  says : A → Read A
  bad : ℕ → Read A

-- field k holds one number; then the rest of the line
abbrev pub number : {A : Type 0} → ℕ → Option ℕ → (ℕ → Read A) → Read A
number k (Some n) rest = rest n
number k None rest = bad k

-- field k holds a list
abbrev pub list : {A : Type 0} → ℕ → Option (List ℕ) → (List ℕ → Read A) → Read A
list k (Some xs) rest = rest xs
list k None rest = bad k

-- "unsigned: masks 16, ids and pointer attributes 32, divisors 64; Signed 32 bits: permutations, sparse axes, dims of forms 4 to 6;
-- signed 64: the rest"; a form, kind, opcode or flag is one of n
abbrev pub one_of : ℕ → List ℕ → Option ℕ
one_of n s = unsigned_of (n - 1) s

abbrev pub id32 : List ℕ → Option ℕ
id32 s = unsigned_of (2 ^ 32 - 1) s

abbrev pub unsigned64 : List ℕ → Option ℕ
unsigned64 s = unsigned_of (2 ^ 64 - 1) s

abbrev pub integer32 : List ℕ → Option ℕ
integer32 s = signed_of (2 ^ 31) s

abbrev pub integer64 : List ℕ → Option ℕ
integer64 s = signed_of (2 ^ 63) s

-- a number that has to be n
abbrev pub only : ℕ → Option ℕ → Option ℕ
only n None = None
only n (Some m) = cond (eqb m n) (Some m) None

-- every item is a number of its width
abbrev pub ahead : Option ℕ → Option (List ℕ) → Option (List ℕ)
ahead None xs = None
ahead (Some n) None = None
ahead (Some n) (Some xs) = Some (n ∷ xs)

abbrev pub items : (List ℕ → Option ℕ) → List (List ℕ) → Option (List ℕ)
items f [] = Some []
items f (s ∷ ss) = ahead (f s) (items f ss)

-- an empty field is the empty list; `1,` `,1` `1,,2` are bad, since an empty item is no number
unfoldable pub list_of : (List ℕ → Option ℕ) → List ℕ → Option (List ℕ)
list_of f [] = Some []
list_of f (b ∷ bs) = items f (split 44 (b ∷ bs))

-- a number that may be absent: an empty item
pub data Maybe : Type 0 where
  here : ℕ → Maybe
  absent : Maybe
  wrong : Maybe

abbrev pub or_absent : (List ℕ → Option ℕ) → List ℕ → Maybe
or_absent f [] = absent
or_absent f (b ∷ bs) = read (f (b ∷ bs))
  where
    read : Option ℕ → Maybe
    read (Some n) = here n
    read None = wrong
