-- The check that runs all. "The full check over tables asks 16, 1, 2, 3, 4 in turn; then all of dominance, of numbering, of requirements, of
-- operation rules; 13 last."
use Rattle.std.specs.Prelude.{ℕ, List, Ok, Err}
use Rattle.tables.specs.Tables.{Tables}
use Rattle.tables.specs.Answer.{and_then, Answer}
use Rattle.tables.specs.declared.Target.{Target}
use Rattle.walk.specs.Order.{order}
use Rattle.table_checks.specs.Checks.{target_check, sheet_checks}
use Rattle.nesting.specs.Dominance.{dominance}
use Rattle.nesting.specs.Numbering.{Listing, fine, refused, numbering}
use Rattle.numbering.specs.Alone.{Outcome, sizes, handed, after_checks}
use Rattle.capabilities.specs.Ask.{capabilities}
use Rattle.rules.specs.Operation.{rules}

-- numbering's own refusal, where it has one
abbrev pub refusal_of : Listing ℕ → Answer
refusal_of (fine zs) = Ok tt
refusal_of (refused r) = Err r

-- the parts after the table checks, in turn
unfoldable pub parts : Target → List ℕ → Tables → Answer
parts g sheet x =
    and_then (dominance x)
    (and_then (refusal_of (numbering sheet x))
    (and_then (capabilities g x (order x))
    (rules g.version sheet x (order x))))

unfoldable pub refusals : Target → List ℕ → Tables → Answer
refusals g sheet x = and_then (target_check g) (and_then (sheet_checks sheet x) (parts g sheet x))

-- the first refusal, which changes no lent byte; else 13, or the numbers and the lengths in the lent lists
unfoldable pub full_check : Target → List ℕ → Tables → List ℕ → List ℕ → Outcome
full_check g sheet x numbers lengths =
    after_checks (refusals g sheet x) (handed (numbering sheet x) (sizes x) numbers lengths) numbers lengths
