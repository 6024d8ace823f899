-- What a list field leaves in the lent list entries: its numbers, one after the other, up to the first bad item.
use Rattle.std.specs.Prelude.{ℕ, List, [], ◌∷◌, length, Option, Some, None}
use Rattle.std.proofs.lemmas.List.Edits.{sets}
use Rattle.fields.specs.Number.{unsigned_of, signed_of}
use Rattle.fields.specs.Cut.{split}
use Rattle.lines.specs.declared.Width.{Width}
use Rattle.lines.specs.declared.Width.TheVariants.{Unsigned, Signed}
use Rattle.lines.specs.Field.{list_of}

-- a number of a width: 0 to a bound, or as many below 0 as above
abbrev pub number_in : Width → List ℕ → Option ℕ
number_in (Unsigned max) s = unsigned_of max s
number_in (Signed half) s = signed_of half s

-- the numbers before the first bad item
abbrev pub onto : Option ℕ → List ℕ → List ℕ
onto None xs = []
onto (Some n) xs = n ∷ xs

abbrev pub good_items : (List ℕ → Option ℕ) → List (List ℕ) → List ℕ
good_items f [] = []
good_items f (s ∷ ss) = onto (f s) (good_items f ss)

-- of a list field; an empty one has none. Where `list_of` reads the list, these are its numbers.
unfoldable pub good_of : (List ℕ → Option ℕ) → List ℕ → List ℕ
good_of f [] = []
good_of f (b ∷ bs) = good_items f (split 44 (b ∷ bs))

abbrev pub count_of : Option (List ℕ) → Option ℕ
count_of None = None
count_of (Some xs) = Some (length xs)

-- an answer, and the list entries as they are left
pub record Left (A : Type 0) : Type 0 where
  pub answer : A
  pub entries : List ℕ

abbrev pub left : {A : Type 0} → A → List ℕ → Left A
left a l = record { answer = a; entries = l }

-- a list read from a field into the entries from `at` on
unfoldable pub list_into : (List ℕ → Option ℕ) → ℕ → List ℕ → List ℕ → Left (Option ℕ)
list_into f at s l = left (count_of (list_of f s)) (sets l at (good_of f s))
