-- Number lists, one a function, read back. Paper: "A list of the wrong length is 14 with 0, 0. Else the first number not below the count live
-- at its place is 14 with the operation and operand plus 1." Here each function's list has its length before any number is judged.
use Rattle.std.specs.Prelude.{ℕ, Bool, true, false, cond, List, [], ◌∷◌, eqb, length, take, drop, Ok, Err}
use Rattle.tables.specs.Tables.{nest}
use Rattle.tables.specs.Answer.{numbers_of, Answer}
use Rattle.tables.specs.declared.Counts.{Counts}
use Rattle.tables.specs.declared.Refusal.TheVariants.{NotReadable}
use Rattle.nesting_check.specs.Checks.{nesting_checks}
use Rattle.read_back.specs.Alone.{Outcome, outcome, after_checks, read_back_alone}
use Rattle.read_back.specs.Stage.{judged_all}

-- a list of the wrong length is refused with no place: an operand's place is counted from 1
abbrev pub is_wrong : Answer → Bool
is_wrong (Ok _) = false
is_wrong (Err why) = eqb (numbers_of why).detail 0

-- the same counts, of one function
abbrev pub one_of : Counts → Counts
one_of n = record {
  types = n.types;
  values = n.values;
  operations = n.operations;
  attributes = n.attributes;
  blocks = n.blocks;
  regions = n.regions;
  functions = 1;
}

-- the first function of f, read back alone, has a list of its length
unfoldable pub fits : List ℕ → List ℕ → List ℕ → List ℕ → List ℕ → Counts → List ℕ → Bool
fits o b r f l n numbers = cond (is_wrong (judged_all (nest o b r f l (one_of n)) numbers (0 ∷ [])).answer) false true

-- so does each, the numbers being parted by the lengths
unfoldable pub all_fit : List ℕ → List ℕ → List ℕ → List ℕ → List ℕ → Counts → List ℕ → List ℕ → Bool
all_fit o b r [] l n lengths numbers = true
all_fit o b r (f ∷ fs) l n [] numbers = true
all_fit o b r (f ∷ fs) l n (c ∷ cs) numbers =
    cond (fits o b r (f ∷ fs) l n (take c numbers)) (all_fit o b r fs l n cs (drop c numbers)) false

-- a list for each function
abbrev pub parted : List ℕ → List ℕ → List ℕ → List ℕ → List ℕ → Counts → List ℕ → List ℕ → Bool
parted o b r f l n numbers lengths = cond (eqb n.functions (length lengths)) (all_fit o b r f l n lengths numbers) false

-- the checks of reading back, then the lengths, then what reading back says
unfoldable pub read_lists : List ℕ → List ℕ → List ℕ → List ℕ → List ℕ → Counts → List ℕ → List ℕ → List ℕ → Outcome
read_lists o b r f l n numbers lengths held =
    let x = nest o b r f l n in
    after_checks (nesting_checks x) (cond (parted o b r f l n numbers lengths) (read_back_alone x numbers held) (outcome (Err (NotReadable 0 0)) held)) held
