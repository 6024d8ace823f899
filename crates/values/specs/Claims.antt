-- What the code keeps to find the value of a declared result in one step: where the results of each operation start among all of them,
-- and a cell for each of them.
use Rattle.std.specs.Prelude as std
use Rattle.std.specs.Prelude.{ℕ, zero, suc, ◌+◌, min, ◌≡◌, Bool, cond, not, ◌&&◌, ◌||◌, List, [], ◌∷◌, ltb, eqb, get_or, set, replicate, Some, None}
use Rattle.std.proofs.Math.Option.{Option, some, none}
use Rattle.cells.specs.Lists.{below, find}
use Rattle.tables.specs.Sizes.{max_operations, max_entries}
use Rattle.tables.specs.Tables.{Tables, claim, declared}
use Rattle.tables.specs.declared.Claim.{Claim}
use Rattle.values.specs.Results.{declared_in}

-- where the results of operation i start; more than there may be count as one too many
abbrev pub base_of : Tables → ℕ → ℕ
base_of x i = min (declared_in x i) (max_entries + 1)

-- f at each of the first n entries
abbrev pub fill_below : (ℕ → ℕ) → ℕ → List ℕ → List ℕ
fill_below f zero xs = xs
fill_below f (suc n) xs = set (fill_below f n xs) n (f n)

abbrev pub bases_after : Tables → List ℕ → List ℕ
bases_after x bases = fill_below (base_of x) x.counts.operations bases

-- a number at the cell of the declared result that is claimed
unfoldable pub put_claim : (ℕ → ℕ → Bool) → List ℕ → ℕ → std.Option Claim → List ℕ → List ℕ
put_claim is_declared bases number None cells = cells
put_claim is_declared bases number (Some c) cells =
    cond (is_declared c.operation c.index) (set cells (get_or bases c.operation 0 + c.index) number) cells

-- every value's number, which is one more than the value, from the last value to the first: the lowest that claims a result stays
abbrev pub claims_by : (ℕ → List ℕ → List ℕ) → List ℕ → List ℕ → List ℕ
claims_by put [] cells = cells
claims_by put (v ∷ vs) cells = put v (claims_by put vs cells)

abbrev pub claims_after : Tables → List ℕ → List ℕ → List ℕ
claims_after x bases cells = claims_by (λ v. put_claim (declared x) bases (v + 1) (claim x v)) (below x.counts.values) cells

-- what then stands in a cell: the number of the value, 0 where there is none
abbrev pub number_of : Option ℕ → ℕ
number_of none = 0
number_of (some v) = v + 1

-- the value whose number stands in a cell
abbrev pub value_in : ℕ → std.Option ℕ
value_in zero = None
value_in (suc v) = Some v

-- cells of full length that hold nothing yet
abbrev pub Zeros : List ℕ → List ℕ → Type 0
Zeros bases cells = (bases ≡ replicate max_operations 0) × (cells ≡ replicate max_entries 0)

-- the cells as they are filled from zeros
abbrev pub Filled : Tables → List ℕ → List ℕ → Type 0
Filled x bases cells = (bases ≡ bases_after x (replicate max_operations 0)) × (cells ≡ claims_after x bases (replicate max_entries 0))

-- a value's number is not the one in the cell of the declared result that it claims, or it is listed besides, or listed twice
unfoldable pub seen_twice : (ℕ → ℕ → Bool) → List ℕ → List ℕ → ℕ → ℕ → std.Option Claim → Bool
seen_twice is_declared bases cells times number None = ltb 1 times
seen_twice is_declared bases cells times number (Some c) =
    ltb 1 times
    || (is_declared c.operation c.index && (ltb 0 times || not (eqb (get_or cells (get_or bases c.operation 0 + c.index) 0) number)))

unfoldable pub lowest_seen : Tables → List ℕ → List ℕ → List ℕ → Option ℕ
lowest_seen x marks bases cells =
    find (λ v. seen_twice (declared x) bases cells (get_or marks v 0) (v + 1) (claim x v)) (below x.counts.values)
