-- Numbering over tables: the answer, and what the two lent lists hold at exit. "Each part called alone asks 1 to 4 first"; "13 last".
use Rattle.std.specs.Prelude.{ℕ, cond, List, ◌++◌, map, leb, length, drop, replicate, Result, Ok, Err}
use Rattle.cells.specs.Lists.{flat}
use Rattle.tables.specs.Tables.{Tables, functions, operands}
use Rattle.tables.specs.declared.Place.{Place}
use Rattle.tables.specs.Answer.{Answer}
use Rattle.tables.specs.declared.Refusal.{Refusal}
use Rattle.tables.specs.declared.Refusal.TheVariants.{TooShort}
use Rattle.table_checks.specs.Checks.{sheet_checks}
use Rattle.nesting.specs.Shape.{Visit, entry_visits}
use Rattle.nesting.specs.Live.{nesting_of, placed}
use Rattle.nesting.specs.Numbering.{Listing, fine, refused, numbering}

-- "The list is operand numbers in walk order": a function has one for each operand of its entry walk
unfoldable pub size : Tables → ℕ → ℕ
size x f = length (flat (λ (u : Visit Place). operands x u.op) (entry_visits (placed (nesting_of x)) f))

-- "function after function"
abbrev pub sizes : Tables → List ℕ
sizes x = map (size x) (functions x)

-- how many numbers are written, or the first refusal
abbrev pub Numbered : Type 0
Numbered = Result ℕ Refusal

-- the answer, and what the lists of numbers and of lengths hold at exit
pub record Outcome : Type 0 where
  pub answer : Numbered
  pub numbers : List ℕ
  pub lengths : List ℕ

abbrev pub outcome : Numbered → List ℕ → List ℕ → Outcome
outcome a numbers lengths = record { answer = a; numbers = numbers; lengths = lengths }

-- "lent entries past it keep what they held"
abbrev pub over : List ℕ → List ℕ → List ℕ
over zs held = zs ++ drop (length zs) held

-- "a lent buffer is too short | 0, entries needed": first that of the numbers, then that of the lengths
abbrev pub handed_over : List ℕ → List ℕ → List ℕ → List ℕ → Outcome
handed_over zs ns numbers lengths =
    cond (leb (length zs) (length numbers))
    (cond (leb (length ns) (length lengths))
    (outcome (Ok (length zs)) (over zs numbers) (over ns lengths))
    (outcome (Err (TooShort (length ns))) numbers lengths))
    (outcome (Err (TooShort (length zs))) numbers lengths)

-- a refusal changes nothing
abbrev pub handed : Listing ℕ → List ℕ → List ℕ → List ℕ → Outcome
handed (fine zs) ns numbers lengths = handed_over zs ns numbers lengths
handed (refused r) ns numbers lengths = outcome (Err r) numbers lengths

-- the first refusal of the checks, or what comes after them
abbrev pub after_checks : Answer → Outcome → List ℕ → List ℕ → Outcome
after_checks (Ok _) rest numbers lengths = rest
after_checks (Err r) rest numbers lengths = outcome (Err r) numbers lengths

unfoldable pub numbering_alone : List ℕ → Tables → List ℕ → List ℕ → Outcome
numbering_alone sheet x numbers lengths =
    after_checks (sheet_checks sheet x) (handed (numbering sheet x) (sizes x) numbers lengths) numbers lengths

-- for a caller that has asked 1 to 4 and lends room for any list: a refusal leaves both all zero
abbrev pub filled_by : Listing ℕ → List ℕ → List ℕ → List ℕ → Outcome
filled_by (fine zs) ns numbers lengths = outcome (Ok (length zs)) (over zs numbers) (over ns lengths)
filled_by (refused r) ns numbers lengths = outcome (Err r) (replicate (length numbers) 0) (replicate (length lengths) 0)
