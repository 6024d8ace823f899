-- The answers, and the paper's three numbers for each refusal: the table "Codes", row by row.
use Rattle.std.specs.Prelude.{ℕ, List, [], ◌∷◌, Result, Ok, Err, ⊤}
use Rattle.tables.specs.declared.Refusal.{Refusal}
use Rattle.tables.specs.declared.Refusal.TheVariants.{OutOfRange, ListedTwice, TooDeep, DefinedTwice, NotVisible, ResultCount, NoValue, NoNumber, VersionLow, ArchitectureNot, RuleBroken, ProductLeaves, TooShort, NotReadable, NotInForm, NoTarget}
use Rattle.tables.specs.declared.Numbers.{Numbers}

-- accepted, or the first refusal
abbrev pub Answer : Type 0
Answer = Result ⊤ Refusal

abbrev pub three : ℕ → ℕ → ℕ → Numbers
three c i d = record { code = c; id = i; detail = d }

-- code, id, detail
abbrev pub numbers_of : Refusal → Numbers
numbers_of (OutOfRange table entry) = three 1 table entry
numbers_of (ListedTwice id list) = three 2 id list
numbers_of (TooDeep operation) = three 3 operation 0
numbers_of (DefinedTwice value) = three 4 value 0
numbers_of (NotVisible operation operand) = three 5 operation operand
numbers_of (ResultCount operation count) = three 6 operation count
numbers_of (NoValue operation result) = three 7 operation result
numbers_of (NoNumber operation operand) = three 8 operation operand
numbers_of (VersionLow operation feature) = three 9 operation feature
numbers_of (ArchitectureNot operation feature) = three 10 operation feature
numbers_of (RuleBroken operation reason) = three 11 operation reason
numbers_of (ProductLeaves operation) = three 12 operation 0
numbers_of (TooShort needed) = three 13 0 needed
numbers_of (NotReadable operation place) = three 14 operation place
numbers_of (NotInForm line field) = three 15 line field
numbers_of NoTarget = three 16 0 0

-- the first refusal of two answers
abbrev pub and_then : Answer → Answer → Answer
and_then (Ok _) b = b
and_then (Err r) b = Err r

-- the first refusal along a list
abbrev pub each : {A : Type 0} → (A → Answer) → List A → Answer
each f [] = Ok tt
each f (x ∷ xs) = and_then (f x) (each f xs)
