-- The walk as the code makes it, on the stack of live values: what each visit answers, and what is live after it.
use Rattle.std.specs.Prelude.{ℕ, ◌+◌, ◌<◌, ◌≡◌, List, [], length, get_or, Result, Ok, Err}
use Rattle.tables.specs.Sizes.{max_depth}
use Rattle.tables.specs.Tables.{Tables, regions, result_types}
use Rattle.tables.specs.Value.{value_of}
use Rattle.tables.specs.Answer.{Answer}
use Rattle.values.specs.Claims.{number_of}
use Rattle.nesting.specs.Live.{result_values, valued}
use Rattle.nesting.specs.Dominance.{judged}
use Rattle.nesting.specs.Ask.{answers, all, fold_operation, fold_block, fold_region, fold_whole}
use Rattle.scope.specs.Stack.{see_all, Holds}
use Rattle.scope.specs.declared.Live.{Live}
use Rattle.scope.specs.declared.Scope.{Scope}
use Rattle.tables.specs.declared.Refusal.{Refusal}

-- what the cells hold of each declared result: one more than its value, or 0
abbrev pub Tells : Tables → List ℕ → List ℕ → Type 0
Tells x bases claims = (i k : ℕ) → k < length (result_types x i) → get_or claims (get_or bases i 0 + k) 0 ≡ number_of (value_of x i k)

-- ---- what each visit answers, no deeper than d blocks

abbrev pub region_judged : Tables → ℕ → List ℕ → ℕ → Answer
region_judged x d live k = fold_region answers (see_all x.counts.values) (judged x) (valued x) d live k

abbrev pub block_judged : Tables → ℕ → List ℕ → ℕ → Answer
block_judged x d live j = fold_block answers (see_all x.counts.values) (judged x) (valued x) (region_judged x d) live j

abbrev pub operation_judged : Tables → ℕ → List ℕ → ℕ → Answer
operation_judged x d live i = fold_operation answers (see_all x.counts.values) (judged x) (valued x) (region_judged x d) live i

abbrev pub regions_judged : Tables → ℕ → List ℕ → List ℕ → Answer
regions_judged x d live ks = all answers (region_judged x d live) ks

-- "the function operation excluded": its operands are not asked, and nothing is live where its regions begin
abbrev pub function_judged : Tables → ℕ → Answer
function_judged x f = regions_judged x max_depth [] (regions x f)

-- the whole walk, function after function
abbrev pub whole_judged : Tables → Answer
whole_judged x = fold_whole answers (see_all x.counts.values) (judged x) (valued x)

-- ---- what is live after a visit

-- an operation's results are live after it; a block's and a region's values are not
abbrev pub after : Tables → List ℕ → ℕ → List ℕ
after x live i = see_all x.counts.values live (result_values x i)

-- a visit hands back a scope, or refuses
abbrev pub Visited : Type 0
Visited = Result Scope Refusal

abbrev pub told : Visited → Answer
told (Ok s) = Ok tt
told (Err r) = Err r

-- a scope that is handed back stands at depth d
abbrev pub Level : Visited → ℕ → Type 0
Level (Ok s) d = s.depth ≡ d
Level (Err r) d = Unit

-- and its stack shows what is live
abbrev pub Stands : Visited → ℕ → {N : ℕ} → Live N → List ℕ → Type 0
Stands (Ok s) nv stack live = Holds nv stack s.next live
Stands (Err r) nv stack live = Unit

-- a visit answers a, and where that is fine `live` is live after it
pub record Went (w : Visited) (nv : ℕ) {N : ℕ} (stack : Live N) (live : List ℕ) (a : Answer) : Type 0 where
  pub answer : told w ≡ a
  pub stands : Stands w nv stack live
