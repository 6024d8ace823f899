-- Products that have to stay in an i64.
use Rattle.std.specs.Prelude.{cond, List, [], ◌∷◌, ℤ, pos, ◌*ℤ◌, Option, Some, None}
use Rattle.arith.specs.Signed.{fits_width}

-- z, where that is an i64: a number that fits 64 bits.
unfoldable pub held : ℤ → Option ℤ
held z = cond (fits_width 64 z) (Some z) None

-- The product of two numbers.
unfoldable pub times_of : ℤ → ℤ → Option ℤ
times_of a b = held (a *ℤ b)

-- What is done with a product that is an i64; one that has left stays so.
abbrev pub and_then : Option ℤ → (ℤ → Option ℤ) → Option ℤ
and_then (Some p) k = k p
and_then None k = None

-- a times the numbers of the list, from the left: once a partial product is outside i64 no later 0 brings it back.
unfoldable pub times_all : ℤ → List ℤ → Option ℤ
times_all a [] = Some a
times_all a (d ∷ ds) = and_then (times_of a d) (λ p. times_all p ds)

-- The product, from 1. Paper: "both products are taken from the left"; "a partial product outside i64 is code 12".
unfoldable pub product_of : List ℤ → Option ℤ
product_of ds = times_all (pos 1) ds
