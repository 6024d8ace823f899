-- A number that is a whole part of a text, taken at the place where the part starts, and the place where the next part starts.
use Rattle.std.specs.Prelude.{ℕ, ◌+◌, List, drop, Option, Some, None}
use Rattle.fields.specs.Cut.{until, end_from}
use Rattle.fields.specs.Number.{unsigned_of, signed_of}
use Rattle.fields.specs.declared.Taken.{Taken}

-- the part of s that starts at p and ends before the first b
abbrev pub part_from : ℕ → ℕ → List ℕ → List ℕ
part_from b p s = until b (drop p s)

abbrev pub took : ℕ → ℕ → Option Taken
took n next = Some (record { number = n; next = next })

-- with the place after the b that ends the part
abbrev pub taken : Option ℕ → ℕ → Option Taken
taken None next = None
taken (Some n) next = took n next

unfoldable pub unsigned_from : ℕ → ℕ → ℕ → List ℕ → Option Taken
unsigned_from b max p s = taken (unsigned_of max (part_from b p s)) (end_from b p s + 1)

unfoldable pub signed_from : ℕ → ℕ → ℕ → List ℕ → Option Taken
signed_from b half p s = taken (signed_of half (part_from b p s)) (end_from b p s + 1)
