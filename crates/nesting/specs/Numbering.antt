-- Numbering: "Arguments take the next numbers, then per operation: operands are looked up (8), the count is compared (6), results take the
-- next numbers (7 where one is missing), then each nested block is walked. When a nested block ends, its numbers are free again. The list
-- is operand numbers in walk order, function after function". A number is a position among the live places.
use Rattle.std.specs.Prelude as std
use Rattle.std.specs.Prelude.{ℕ, suc, Bool, false, cond, List, [], ◌∷◌, ◌++◌, length, eqb, Some, None}
use Rattle.std.proofs.Math.Option.{Option, some, none}
use Rattle.cells.specs.Lists.{below}
use Rattle.tables.specs.Tables.{Tables, opcode, operands, result_types}
use Rattle.tables.specs.Sheet.{fixed_count_in}
use Rattle.tables.specs.declared.Place.{Place}
use Rattle.tables.specs.declared.Place.TheVariants.{Result}
use Rattle.tables.specs.declared.Refusal.{Refusal}
use Rattle.tables.specs.declared.Refusal.TheVariants.{NoNumber, ResultCount, NoValue}
use Rattle.nesting.specs.Shape.{Visit, entries_visits}
use Rattle.nesting.specs.Live.{nesting_of, placed, value_at}

-- a list, or the first refusal
pub data Listing (A : Type 0) : Type 0 where
  fine : List A → Listing A
  refused : Refusal → Listing A

abbrev pub join : {A : Type 0} → Listing A → Listing A → Listing A
join (refused r) b = refused r
join (fine xs) (refused r) = refused r
join (fine xs) (fine ys) = fine (xs ++ ys)

abbrev pub collect : {X A : Type 0} → (X → Listing A) → List X → Listing A
collect f [] = fine []
collect f (x ∷ xs) = join (f x) (collect f xs)

abbrev pub found : {A : Type 0} → Option A → Refusal → Listing A
found (some x) r = fine (x ∷ [])
found none r = refused r

-- nothing to write, where there is one
abbrev pub there : {A : Type 0} → Option A → Refusal → Listing ℕ
there (some x) r = fine []
there none r = refused r

abbrev pub is : ℕ → Option ℕ → Bool
is v none = false
is v (some w) = eqb w v

abbrev pub next : Option ℕ → Option ℕ
next none = none
next (some n) = some (suc n)

-- the number of v: the position of the first live place that has it
abbrev pub number : Tables → ℕ → List Place → Option ℕ
number x v [] = none
number x v (p ∷ ps) = cond (is v (value_at x p)) (some 0) (next (number x v ps))

-- "an operand has no number yet | operation, operand": the operands of operation i, from place k on
abbrev pub look : Tables → List Place → ℕ → ℕ → List ℕ → Listing ℕ
look x live i k [] = fine []
look x live i k (v ∷ vs) = join (found (number x v live) (NoNumber i k)) (look x live i (suc k) vs)

-- "result count differs from the sheet's | operation, its count"
abbrev pub counted : std.Option ℕ → ℕ → ℕ → Listing ℕ
counted None i n = fine []
counted (Some m) i n = cond (eqb m n) (fine []) (refused (ResultCount i n))

-- "a declared result has no value | operation, result"
abbrev pub values_there : Tables → ℕ → Listing ℕ
values_there x i = collect (λ k. there (value_at x (Result i k)) (NoValue i k)) (below (length (result_types x i)))

unfoldable pub numbers_at : List ℕ → Tables → Visit Place → Listing ℕ
numbers_at sheet x u =
    join (look x u.live u.op 0 (operands x u.op))
    (join (counted (fixed_count_in sheet (opcode x u.op)) u.op (length (result_types x u.op)))
    (values_there x u.op))

unfoldable pub numbering : List ℕ → Tables → Listing ℕ
numbering sheet x = collect (numbers_at sheet x) (entries_visits (placed (nesting_of x)))
