-- Reading back over tables: the answer, and what the lent list holds. "Reading back uses nesting and counts only"; "Else three numbers
-- per operand, for the place with its number there: 0 (block) or 1 (operation), its id, the index"; "13 comes last".
use Rattle.std.specs.Prelude.{ℕ, cond, List, [], ◌∷◌, ◌++◌, leb, length, drop, Ok, Err}
use Rattle.cells.specs.Lists.{flat}
use Rattle.tables.specs.Tables.{Tables, functions, regions, blocks, operations, arguments_span, result_types_span, operands_span}
use Rattle.tables.specs.declared.Place.{Place}
use Rattle.tables.specs.declared.Place.TheVariants.{Argument, Result, Nowhere}
use Rattle.tables.specs.Answer.{Answer}
use Rattle.tables.specs.declared.Refusal.TheVariants.{TooShort}
use Rattle.nesting.specs.Live.{Nesting}
use Rattle.nesting.specs.Numbering.{Listing, fine, refused}
use Rattle.nesting.specs.ReadBack.{read_back}
use Rattle.nesting_check.specs.Checks.{nesting_checks}

-- the nesting as the tables say it, with the lengths of arguments, results and operands and never an entry of them; where all of code 1
-- passes this is the nesting that numbering walks
unfoldable pub spanned : Tables → Nesting
spanned x = record {
  functions = functions x;
  regions = regions x;
  blocks = blocks x;
  operations = operations x;
  arguments = λ j. (arguments_span x j).len;
  results = λ i. (result_types_span x i).len;
  operands = λ i. (operands_span x i).len;
}

-- a place in numbers; what is live always has one
abbrev pub kind_of : Place → ℕ
kind_of (Argument j k) = 0
kind_of (Result i k) = 1
kind_of Nowhere = 2

abbrev pub id_of : Place → ℕ
id_of (Argument j k) = j
id_of (Result i k) = i
id_of Nowhere = 0

abbrev pub index_of : Place → ℕ
index_of (Argument j k) = k
index_of (Result i k) = k
index_of Nowhere = 0

abbrev pub three_of : Place → List ℕ
three_of p = kind_of p ∷ id_of p ∷ index_of p ∷ []

-- the answer, and what the lent list holds at exit
pub record Outcome : Type 0 where
  pub answer : Answer
  pub list : List ℕ

abbrev pub outcome : Answer → List ℕ → Outcome
outcome a list = record { answer = a; list = list }

-- a refusal changes nothing; what is written starts at entry 0, and entries past it keep what they held
abbrev pub written : Listing Place → List ℕ → Outcome
written (refused r) held = outcome (Err r) held
written (fine ps) held =
    let zs = flat three_of ps in
    cond (leb (length zs) (length held)) (outcome (Ok tt) (zs ++ drop (length zs) held)) (outcome (Err (TooShort (length zs))) held)

-- the first refusal of the checks, or what comes after them
abbrev pub after_checks : Answer → Outcome → List ℕ → Outcome
after_checks (Ok _) rest held = rest
after_checks (Err r) rest held = outcome (Err r) held

unfoldable pub read_back_alone : Tables → List ℕ → List ℕ → Outcome
read_back_alone x numbers held = after_checks (nesting_checks x) (written (read_back (spanned x) numbers) held) held
