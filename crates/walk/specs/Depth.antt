-- Code 3: "depth 33 reached from a function | the first operation that opens it, 0". "Depth counts a function's blocks as 1." A block
-- opens a depth, a region without blocks does not.
use Rattle.std.specs.Prelude.{ℕ, zero, suc, List, [], ◌∷◌, Ok, Err}
use Rattle.tables.specs.Sizes.{max_depth}
use Rattle.tables.specs.Tables.{Tables, functions, regions, blocks, operations}
use Rattle.tables.specs.Answer.{each, Answer}
use Rattle.tables.specs.declared.Refusal.TheVariants.{TooDeep}

-- operation i opens a block, where there is one
abbrev pub opens : ℕ → List ℕ → Answer
opens i [] = Ok tt
opens i (j ∷ js) = Err (TooDeep i)

-- the regions of operation i, each judged by `inner`
unfoldable pub operation_depth : (ℕ → ℕ → Answer) → Tables → ℕ → Answer
operation_depth inner x i = each (inner i) (regions x i)

unfoldable pub block_depth : (ℕ → ℕ → Answer) → Tables → ℕ → Answer
block_depth inner x j = each (operation_depth inner x) (operations x j)

-- region k of operation i, where d more blocks may stand inside each other
unfoldable pub region_depth : ℕ → Tables → ℕ → ℕ → Answer
region_depth zero x i k = opens i (blocks x k)
region_depth (suc d) x i k = each (block_depth (region_depth d x) x) (blocks x k)

unfoldable pub too_deep : Tables → Answer
too_deep x = each (operation_depth (region_depth max_depth x) x) (functions x)
