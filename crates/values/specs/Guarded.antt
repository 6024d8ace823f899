-- The answer on tables of any lengths. Where code 1 passed, no more results are declared than there may be list entries, and it is code 4's.
use Rattle.std.specs.Prelude.{ℕ, ◌≤◌, ◌≡◌, List, cond, leb, Ok}
use Rattle.tables.specs.Sizes.{max_entries}
use Rattle.tables.specs.Tables.{Tables}
use Rattle.tables.specs.Answer.{Answer}
use Rattle.values.specs.Results.{declared_in}
use Rattle.values.specs.Claims.{Zeros, Filled}
use Rattle.values.specs.Twice.{values_twice}

abbrev pub guarded_twice : Tables → Answer
guarded_twice x = cond (leb (declared_in x x.counts.operations) max_entries) (values_twice x) (Ok tt)

-- the answer, whatever the cells `bases₀` and `cells₀` hold; cells that held nothing keep the claims, where no more results are declared than
-- there may be list entries
abbrev pub Claimed : Answer → Tables → List ℕ → List ℕ → List ℕ → List ℕ → Type 0
Claimed r x bases₀ cells₀ bases cells =
    (r ≡ guarded_twice x) × (Zeros bases₀ cells₀ → declared_in x x.counts.operations ≤ max_entries → Filled x bases cells)
