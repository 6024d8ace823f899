-- What codes 1, 2 and 4 hand over where they pass. The theorems on live values and on numbers ask for these alone.
use Rattle.std.specs.Prelude.{ℕ, ◌<◌, ◌≤◌, ◌≡◌, true, List, ◌++◌, Option, Some}
use Rattle.cells.specs.Lists.{below, flat, count}
use Rattle.tables.specs.Tables.{Tables, functions, regions, blocks, operations, arguments, claim, declared}
use Rattle.tables.specs.declared.Claim.{Claim}

-- a value's claim to be result k of operation i
abbrev pub claims : ℕ → ℕ → Option Claim
claims i k = Some (record { operation = i; index = k })

-- "an operation, block, region or function is listed twice, in one list or two; a function stands inside a block": none is
pub record Apart (x : Tables) : Type 0 where
  pub operations : (i : ℕ) → count i (functions x ++ flat (operations x) (below x.counts.blocks)) ≤ 1
  pub blocks : (j : ℕ) → count j (flat (blocks x) (below x.counts.regions)) ≤ 1
  pub regions : (k : ℕ) → count k (flat (regions x) (below x.counts.operations)) ≤ 1

-- the arguments of all blocks
abbrev pub all_arguments : Tables → List ℕ
all_arguments x = flat (arguments x) (below x.counts.blocks)

-- an argument is a value; "a value is listed as argument twice, or listed and a declared result, or claims one that a lower id claims":
-- none is
pub record Single (x : Tables) : Type 0 where
  pub in_range : (v : ℕ) → 1 ≤ count v (all_arguments x) → v < x.counts.values
  pub listed_once : (v : ℕ) → v < x.counts.values → count v (all_arguments x) ≤ 1
  pub not_both : (v i k : ℕ) → v < x.counts.values → claim x v ≡ claims i k → declared x i k ≡ true → count v (all_arguments x) ≡ 0
  pub one_claim : (v w i k : ℕ) → v < x.counts.values → w < x.counts.values → claim x v ≡ claims i k → claim x w ≡ claims i k
      → declared x i k ≡ true → v ≡ w
