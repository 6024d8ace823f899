-- The parts of a text. Paper: "Lines end with LF; fields parted by tabs (shown as `|`); lists by commas": the bytes 10, 9, 44.
use Rattle.std.specs.Prelude.{ℕ, zero, suc, ◌+◌, min, cond, List, [], ◌∷◌, eqb, length, drop}

-- what stands before the first b, or all
unfoldable pub until : ℕ → List ℕ → List ℕ
until b [] = []
until b (x ∷ xs) = cond (eqb x b) [] (x ∷ until b xs)

-- the first place from p on where b stands, or the length: where the part that starts at p ends
unfoldable pub end_from : ℕ → ℕ → List ℕ → ℕ
end_from b p s = min p (length s) + length (until b (drop p s))

-- x in front of the first part
unfoldable pub on_first : ℕ → List (List ℕ) → List (List ℕ)
on_first x [] = (x ∷ []) ∷ []
on_first x (p ∷ ps) = (x ∷ p) ∷ ps

-- the parts between the b's, one more than there are b's: `split 10` lines, `split 9` fields, `split 44` the items of a list
unfoldable pub split : ℕ → List ℕ → List (List ℕ)
split b [] = [] ∷ []
split b (x ∷ xs) = cond (eqb x b) ([] ∷ split b xs) (on_first x (split b xs))

-- part k, counted from 0, or an empty one
unfoldable pub nth : ℕ → List (List ℕ) → List ℕ
nth k [] = []
nth zero (p ∷ ps) = p
nth (suc k) (p ∷ ps) = nth k ps
