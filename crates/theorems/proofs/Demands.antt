-- The paper's demands on numbers and visibility, of all tables that pass the checks. Assumes nothing.
use Prim.Native.Nat.{ℕ}
use mathlib.Core.Path.{◌≡◌, ap, ◌∙◌}
use mathlib.Core.List.{List}
use Rattle.tables.specs.Tables.{Tables}
use Rattle.std.specs.Prelude.{Ok}
use Rattle.table_checks.specs.Checks.{table_checks}
use Rattle.nesting.specs.Live.{Nesting, nesting_of}
use Rattle.nesting.specs.Dominance.{dominance}
use Rattle.nesting.specs.Sentence.{sentence}
use Rattle.nesting.specs.Numbering.{fine, numbering}
use Rattle.nesting.specs.ReadBack.{read_back, operand_places}
use Rattle.nesting.proofs.Theorems as nesting
use Rattle.theorems.proofs.Passed.{single}

-- Demand 2: "Written numbers read back to the defining places."
pub written_numbers_read_back : (sheet : List ℕ) (x : Tables) → table_checks x ≡ Ok tt → (zs : List ℕ) → numbering sheet x ≡ fine zs
    → read_back (nesting_of x) zs ≡ fine (operand_places x)
written_numbers_read_back sheet x e = nesting.reads_back sheet x (single x e)

-- Demand 3: "Take two sets of tables with the same nesting and the same counts of arguments, results and operands, both passing the table
-- and numbering checks. If they give the same number list, each operand has the same defining place in both." Tables whose entries that
-- count list the same are such (`alike` of crate `nesting`); what the entries leave in lent memory is Program's.
pub same_list_same_places : (s s' : List ℕ) (x y : Tables) → table_checks x ≡ Ok tt → table_checks y ≡ Ok tt → nesting_of x ≡ nesting_of y
    → (zs : List ℕ) → numbering s x ≡ fine zs → numbering s' y ≡ fine zs → operand_places x ≡ operand_places y
same_list_same_places s s' x y e e' = nesting.same_list_same_places s s' x y (single x e) (single y e')

-- "Whoever reads a list sees only nesting, counts and numbers, never value ids, and finds exactly that place for each operand."
pub reader_finds_the_places : (sheet : List ℕ) (x y : Tables) → table_checks x ≡ Ok tt → nesting_of y ≡ nesting_of x → (zs : List ℕ)
    → numbering sheet x ≡ fine zs → read_back (nesting_of y) zs ≡ fine (operand_places x)
reader_finds_the_places sheet x y e n zs q = ap (λ (m : Nesting). read_back m zs) n ∙ nesting.reads_back sheet x (single x e) zs q

-- The walk with its growing set is the paper's sentence on visibility, on all tables.
pub walk_is_the_sentence : (x : Tables) → dominance x ≡ sentence x
walk_is_the_sentence = nesting.walk_is_the_sentence
