-- What the checks hand on: the answer, and where nothing is refused the reachable operations in walk order and the value of each declared
-- result.
use Rattle.std.specs.Prelude.{ℕ, ◌≤◌, ◌≡◌, List, Result, Ok, Err}
use Rattle.tables.specs.Sizes.{max_entries}
use Rattle.tables.specs.Tables.{Tables, cut}
use Rattle.tables.specs.Answer.{and_then, Answer}
use Rattle.tables.specs.declared.Refusal.{Refusal}
use Rattle.listed.specs.Twice.{listed_twice}
use Rattle.walk.specs.Depth.{too_deep}
use Rattle.walk.specs.Written.{filled, walked}
use Rattle.values.specs.Results.{declared_in}
use Rattle.values.specs.Claims.{Zeros, Filled}
use Rattle.values.specs.Guarded.{guarded_twice}

abbrev pub answer_of : Result ℕ Refusal → Answer
answer_of (Ok m) = Ok tt
answer_of (Err r) = Err r

-- how many operations were written
abbrev pub wrote : Result ℕ Refusal → ℕ
wrote (Ok m) = m
wrote (Err r) = 0

-- the answer is a; the list, `before` at entry, holds xs from the front where a accepts, and is all zero where it refuses
pub record Settles (w : Result ℕ Refusal) (after before : List ℕ) (a : Answer) (xs : List ℕ) : Type 0 where
  pub answer : answer_of w ≡ a
  pub list : filled after (wrote w) ≡ walked a before xs

-- codes 2, 3 and 4 as the code asks them, on counts cut at the sizes; where code 1 passes these are the codes themselves
abbrev pub after_cut : Tables → Answer
after_cut x = and_then (listed_twice (cut x)) (and_then (too_deep x) (guarded_twice (cut x)))

-- where a accepts, cells that held nothing, `bases₀` and `cells₀` at entry, hold the claims of x
abbrev pub Hands : Answer → Tables → List ℕ → List ℕ → List ℕ → List ℕ → Type 0
Hands a x bases₀ cells₀ bases cells = a ≡ Ok tt → Zeros bases₀ cells₀ → Filled x bases cells

-- the same after code 1, on counts cut at the sizes
abbrev pub HandsCut : Tables → List ℕ → List ℕ → List ℕ → List ℕ → Type 0
HandsCut x bases₀ cells₀ bases cells =
    after_cut x ≡ Ok tt → Zeros bases₀ cells₀ → declared_in (cut x) (cut x).counts.operations ≤ max_entries → Filled (cut x) bases cells
