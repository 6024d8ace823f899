-- Code 2 on small tables, by computation: operation 0 is the function and has region 0, which has block 0. Assumes nothing.
use Prim.Native.Nat.{ℕ}
use mathlib.Core.Path.{◌≡◌, refl}
use mathlib.Core.List.{List, [], ◌∷◌, ◌++◌}
use Rattle.tables.specs.Layout.{functions_in, operations_in, operations_span_in, blocks_in, blocks_span_in, regions_in, regions_span_in}
use Rattle.tables.specs.Tables.{nest, cut}
use Rattle.tables.specs.Answer.{Answer}
use Rattle.std.specs.Prelude.{Ok, Err}
use Rattle.tables.specs.declared.Refusal.TheVariants.{ListedTwice}
use Rattle.listed.specs.Twice.{lowest_twice, listed_twice}

-- an operation's row, by where its regions start and how many there are
abbrev row : ℕ → ℕ → List ℕ
row s n = 0 ∷ 0 ∷ 0 ∷ 0 ∷ 0 ∷ s ∷ n ∷ 0 ∷ 0 ∷ 0 ∷ 0 ∷ 0 ∷ 0 ∷ 0 ∷ 0 ∷ 0 ∷ []

-- operation 0 has r regions, region 0 has b blocks, block 0 has operations i and j
abbrev answer : ℕ → ℕ → ℕ → ℕ → Answer
answer r b i j =
    listed_twice
    (cut
    (nest
    (row 0 r ++ row 0 0 ++ row 0 0)
    (0 ∷ 0 ∷ 4 ∷ 2 ∷ [])
    (2 ∷ b ∷ [])
    (0 ∷ [])
    (0 ∷ 0 ∷ 0 ∷ 0 ∷ i ∷ j ∷ [])
    (record { types = 0; values = 0; operations = 3; attributes = 0; blocks = 1; regions = 1; functions = 1 })))

fine : answer 1 1 1 2 ≡ Ok tt
unfolding listed_twice lowest_twice functions_in operations_in operations_span_in blocks_in blocks_span_in regions_in regions_span_in
fine = refl

-- an operation twice in one list; the function inside a block; a block twice; a region twice
operation_twice : answer 2 2 1 1 ≡ Err (ListedTwice 1 0)
unfolding listed_twice lowest_twice functions_in operations_in operations_span_in blocks_in blocks_span_in regions_in regions_span_in
operation_twice = refl

function_inside : answer 1 1 2 0 ≡ Err (ListedTwice 0 0)
unfolding listed_twice lowest_twice functions_in operations_in operations_span_in blocks_in blocks_span_in regions_in regions_span_in
function_inside = refl

block_twice : answer 2 2 1 2 ≡ Err (ListedTwice 0 1)
unfolding listed_twice lowest_twice functions_in operations_in operations_span_in blocks_in blocks_span_in regions_in regions_span_in
block_twice = refl

region_twice : answer 2 1 1 2 ≡ Err (ListedTwice 0 2)
unfolding listed_twice lowest_twice functions_in operations_in operations_span_in blocks_in blocks_span_in regions_in regions_span_in
region_twice = refl
