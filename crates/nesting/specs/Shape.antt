-- The one walk of the bench: each operation in order, outer before inner, with what is live where it stands.
-- "Functions, regions, blocks and operations go in list order." "When a nested block ends, its numbers are free again": what is live is
-- an argument of the walk, so nothing has to be taken back.
use Rattle.std.specs.Prelude.{ℕ, zero, suc, ◌-◌, List, [], ◌∷◌, ◌++◌}
use Rattle.cells.specs.Lists.{flat}
use Rattle.tables.specs.Sizes.{max_depth}

-- the nesting, and what becomes live: a block's arguments in the block, an operation's results after it and in its own regions
pub record Shape (A : Type 0) : Type 0 where
  pub functions : List ℕ
  pub regions : ℕ → List ℕ
  pub blocks : ℕ → List ℕ
  pub operations : ℕ → List ℕ
  pub arguments : ℕ → List A
  pub results : ℕ → List A
  pub inner : ℕ → List A

-- an operation, and what is live where it stands, the first to become live first
pub record Visit (A : Type 0) : Type 0 where
  pub op : ℕ
  pub live : List A

abbrev pub visit : {A : Type 0} → ℕ → List A → Visit A
visit i live = record { op = i; live = live }

-- operation i, then its regions, each walked by `inside`
unfoldable pub operation_visits : {A : Type 0} → (List A → ℕ → List (Visit A)) → Shape A → List A → ℕ → List (Visit A)
operation_visits inside s live i = visit i live ∷ flat (inside (live ++ s.inner i)) (s.regions i)

-- operations in order, each with the results of those before it
abbrev pub operations_visits : {A : Type 0} → (List A → ℕ → List (Visit A)) → Shape A → List A → List ℕ → List (Visit A)
operations_visits inside s live [] = []
operations_visits inside s live (i ∷ is) = operation_visits inside s live i ++ operations_visits inside s (live ++ s.results i) is

unfoldable pub block_visits : {A : Type 0} → (List A → ℕ → List (Visit A)) → Shape A → List A → ℕ → List (Visit A)
block_visits inside s live j = operations_visits inside s (live ++ s.arguments j) (s.operations j)

-- region k, no deeper than d blocks
unfoldable pub region_visits : {A : Type 0} → ℕ → Shape A → List A → ℕ → List (Visit A)
region_visits zero s live k = []
region_visits (suc d) s live k = flat (block_visits (region_visits d s) s live) (s.blocks k)

-- every function whole: nothing is live where its regions begin, and the function operation itself is not visited
unfoldable pub whole_visits : {A : Type 0} → Shape A → List (Visit A)
whole_visits s = flat (λ f. flat (region_visits max_depth s []) (s.regions f)) s.functions

abbrev pub first : {A B : Type 0} → (A → List B) → List A → List B
first f [] = []
first f (x ∷ xs) = f x

-- "The entry walk of a function is the first block of its first region, with everything nested inside. No region or block: empty list."
unfoldable pub entry_visits : {A : Type 0} → Shape A → ℕ → List (Visit A)
entry_visits s f = first (λ k. first (block_visits (region_visits (max_depth - 1) s) s []) (s.blocks k)) (s.regions f)

-- "Each function starts afresh"; "function after function"
unfoldable pub entries_visits : {A : Type 0} → Shape A → List (Visit A)
entries_visits s = flat (entry_visits s) s.functions
