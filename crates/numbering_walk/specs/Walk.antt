-- The walk as the code makes it, on the stack of live values: what each visit numbers, what it writes, and what is live after it.
use Rattle.std.specs.Prelude.{ℕ, ◌+◌, ◌-◌, ◌<◌, ◌≡◌, List, [], length, get_or, Result, Ok, Err}
use Rattle.tables.specs.Sizes.{max_depth}
use Rattle.tables.specs.Sheet.{fixed_count_in}
use Rattle.tables.specs.Tables.{Tables, regions, blocks, opcode, operands, result_types}
use Rattle.tables.specs.Value.{value_of}
use Rattle.tables.specs.Answer.{Answer}
use Rattle.values.specs.Claims.{number_of}
use Rattle.walk.specs.Written.{Filled, filled, push_all}
use Rattle.nesting.specs.Live.{result_values, valued}
use Rattle.nesting.specs.Numbering.{Listing, fine, refused, join, counted, values_there}
use Rattle.nesting.specs.Direct.{look_up, numbers_among}
use Rattle.nesting.specs.Ask.{listings, all, of_first, fold_operation, fold_block, fold_region}
use Rattle.scope.specs.Stack.{see_all, Shows}
use Rattle.tables.specs.declared.Refusal.{Refusal}
use Rattle.numbering_walk.specs.declared.Walked.{Walked}

-- what the cells hold of each declared result: one more than its value, or 0
abbrev pub Tells : Tables → List ℕ → List ℕ → Type 0
Tells x bases claims = (i k : ℕ) → k < length (result_types x i) → get_or claims (get_or bases i 0 + k) 0 ≡ number_of (value_of x i k)

-- ---- what an operation is asked

abbrev pub compared : List ℕ → Tables → ℕ → Listing ℕ
compared sheet x i = counted (fixed_count_in sheet (opcode x i)) i (length (result_types x i))

-- "operands are looked up (8), the count is compared (6), results take the next numbers (7 where one is missing)"
unfoldable pub asked : List ℕ → Tables → ℕ → List ℕ → Listing ℕ
asked sheet x i live = join (look_up live i 0 (operands x i)) (join (compared sheet x i) (values_there x i))

-- ---- what each visit numbers, no deeper than d blocks

abbrev pub region_numbered : List ℕ → Tables → ℕ → List ℕ → ℕ → Listing ℕ
region_numbered sheet x d live k = fold_region listings (see_all x.counts.values) (numbers_among sheet x) (valued x) d live k

abbrev pub block_numbered : List ℕ → Tables → ℕ → List ℕ → ℕ → Listing ℕ
block_numbered sheet x d live j =
    fold_block listings (see_all x.counts.values) (numbers_among sheet x) (valued x) (region_numbered sheet x d) live j

abbrev pub operation_numbered : List ℕ → Tables → ℕ → List ℕ → ℕ → Listing ℕ
operation_numbered sheet x d live i =
    fold_operation listings (see_all x.counts.values) (numbers_among sheet x) (valued x) (region_numbered sheet x d) live i

abbrev pub regions_numbered : List ℕ → Tables → ℕ → List ℕ → List ℕ → Listing ℕ
regions_numbered sheet x d live ks = all listings (region_numbered sheet x d live) ks

-- "The entry walk of a function is the first block of its first region": it is at depth 1, and nothing is live where it begins
abbrev pub function_numbered : List ℕ → Tables → ℕ → Listing ℕ
function_numbered sheet x f = of_first listings (λ k. of_first listings (block_numbered sheet x (max_depth - 1) []) (blocks x k)) (regions x f)

-- ---- what a visit leaves

-- an operation's results are live after it; a block's and a region's values are not
abbrev pub after : Tables → List ℕ → ℕ → List ℕ
after x live i = see_all x.counts.values live (result_values x i)

-- a test that writes nothing
abbrev pub judged : Answer → Listing ℕ
judged (Ok _) = fine []
judged (Err r) = refused r

-- a visit hands back where the walk stands, or refuses
abbrev pub Visited : Type 0
Visited = Result Walked Refusal

abbrev pub told : Visited → List ℕ → Listing ℕ
told (Ok w) zs = fine zs
told (Err r) zs = refused r

-- a scope that is handed back stands at depth d
abbrev pub Level : Visited → ℕ → Type 0
Level (Ok w) d = w.scope.depth ≡ d
Level (Err r) d = Unit

-- its stack shows what is live
abbrev pub Stands : Visited → ℕ → List ℕ → List ℕ → List ℕ → Type 0
Stands (Ok w) nv dense sparse live = Shows nv dense sparse w.scope.next live
Stands (Err r) nv dense sparse live = Unit

-- and so many numbers are written
abbrev pub Reached : Visited → List ℕ → Filled → Type 0
Reached (Ok w) held p = filled held w.done ≡ p
Reached (Err r) held p = Unit

-- a visit that began at p numbers a, and where that is fine its list is written and `live` is live after it
pub record Went (w : Visited) (nv : ℕ) (dense sparse live held : List ℕ) (p : Filled) (a : Listing ℕ) : Type 0 where
  pub list : List ℕ
  pub answer : told w list ≡ a
  pub stands : Stands w nv dense sparse live
  pub wrote : Reached w held (push_all p list)
