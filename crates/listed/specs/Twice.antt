-- Code 2: "an operation, block, region or function is listed twice, in one list or two; a function stands inside a block | lowest such
-- id, operations before blocks before regions; 0, 1, 2". Lists of unattached entries count too.
use Rattle.std.specs.Prelude.{ℕ, List, ◌++◌, ltb, Ok, Err}
use Rattle.std.proofs.Math.Option.{Option, some, none}
use Rattle.cells.specs.Lists.{below, flat, count, find}
use Rattle.tables.specs.Tables.{Tables, functions, regions, blocks, operations}
use Rattle.tables.specs.Answer.{and_then, Answer}
use Rattle.tables.specs.declared.Refusal.TheVariants.{ListedTwice}

-- what is listed in all: operations by functions and blocks, blocks by regions, regions by operations
abbrev pub listed_operations : Tables → List ℕ
listed_operations x = functions x ++ flat (operations x) (below x.counts.blocks)

abbrev pub listed_blocks : Tables → List ℕ
listed_blocks x = flat (blocks x) (below x.counts.regions)

abbrev pub listed_regions : Tables → List ℕ
listed_regions x = flat (regions x) (below x.counts.operations)

-- the lowest of n ids that a list has more than once
unfoldable pub lowest_twice : List ℕ → ℕ → Option ℕ
lowest_twice xs n = find (λ i. ltb 1 (count i xs)) (below n)

abbrev pub refused : ℕ → Option ℕ → Answer
refused list none = Ok tt
refused list (some i) = Err (ListedTwice i list)

unfoldable pub listed_twice : Tables → Answer
listed_twice x =
    and_then (refused 0 (lowest_twice (listed_operations x) x.counts.operations))
    (and_then (refused 1 (lowest_twice (listed_blocks x) x.counts.blocks))
    (refused 2 (lowest_twice (listed_regions x) x.counts.regions)))
