-- The functions one after the other: what their entry walks number, the room it takes, and what is told of it.
use Rattle.std.specs.Prelude.{ℕ, ◌≤◌, ◌≡◌, List, length, Ok, Err}
use Rattle.tables.specs.Tables.{Tables, functions}
use Rattle.walk.specs.Total.{total}
use Rattle.nesting.specs.Live.{valued}
use Rattle.nesting.specs.Numbering.{Listing, refused}
use Rattle.nesting.specs.Direct.{numbers_among}
use Rattle.nesting.specs.Ask.{listings, fold_entries}
use Rattle.scope.specs.Stack.{see_all}
use Rattle.numbering.specs.Alone.{Numbered, size, outcome, filled_by}

-- function after function
abbrev pub entries_numbered : List ℕ → Tables → Listing ℕ
entries_numbered sheet x = fold_entries listings (see_all x.counts.values) (numbers_among sheet x) (valued x)

-- the stack has an entry for each value, and the lists have room for all numbers and all functions
pub record Room (x : Tables) (d s numbers lengths : List ℕ) : Type 0 where
  pub dense : x.counts.values ≤ length d
  pub sparse : x.counts.values ≤ length s
  pub all : total (size x) (functions x) ≤ length numbers
  pub each : length (functions x) ≤ length lengths

-- the refusal, or the numbers and the lengths in the lists
abbrev pub Told : Numbered → Listing ℕ → List ℕ → List ℕ → List ℕ → List ℕ → List ℕ → Type 0
Told (Err r) a ns numbers lengths numbers₀ lengths₀ = refused r ≡ a
Told (Ok m) a ns numbers lengths numbers₀ lengths₀ = outcome (Ok m) numbers lengths ≡ filled_by a ns numbers₀ lengths₀
