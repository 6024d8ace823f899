-- Lists of ids and numbers, as the definitions speak of them.
use Rattle.std.specs.Prelude.{ℕ, zero, suc, ◌+◌, Bool, false, ◌||◌, cond, List, [], ◌∷◌, ◌++◌, eqb}
use Rattle.std.proofs.Math.Option.{Option, some, none}

-- n numbers from s on, and the numbers below n
abbrev pub from : ℕ → ℕ → List ℕ
from s zero = []
from s (suc n) = s ∷ from (suc s) n

abbrev pub below : ℕ → List ℕ
below n = from 0 n

-- what f gives of each entry, in order, in one list
abbrev pub flat : {A B : Type 0} → (A → List B) → List A → List B
flat f [] = []
flat f (x ∷ xs) = f x ++ flat f xs

-- x stands in a list
abbrev pub mem : ℕ → List ℕ → Bool
mem x [] = false
mem x (y ∷ ys) = eqb y x || mem x ys

-- how often x stands in a list
abbrev pub count : ℕ → List ℕ → ℕ
count x [] = 0
count x (y ∷ ys) = cond (eqb y x) 1 0 + count x ys

-- the first entry with a property
abbrev pub find : (ℕ → Bool) → List ℕ → Option ℕ
find p [] = none
find p (x ∷ xs) = cond (p x) (some x) (find p xs)
