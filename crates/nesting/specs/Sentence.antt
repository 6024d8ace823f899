-- Dominance as the paper says it, read off the nesting alone: "An operand is visible exactly when it is an argument of a block around the
-- use, or a declared result of an operation that is earlier in the same or an enclosing block or that encloses the use, the function
-- operation excluded."
use Rattle.std.specs.Prelude.{ℕ, zero, suc, Bool, false, ◌||◌, cond, List, [], ◌∷◌, ◌++◌, Ok, Err}
use Rattle.cells.specs.Lists.{flat, mem}
use Rattle.tables.specs.Sizes.{max_depth}
use Rattle.tables.specs.Tables.{Tables, functions, regions, blocks, operations, arguments, operands}
use Rattle.tables.specs.Answer.{each, Answer}
use Rattle.tables.specs.declared.Refusal.TheVariants.{NotVisible}
use Rattle.nesting.specs.Live.{result_values}

-- where an operation stands:
--   func f           it is the function operation f
--   under p j es i   it is operation i, in block j of a region of the operation at p, after the operations es of that block
pub data Stand : Type 0 where
  func : ℕ → Stand
  under : Stand → ℕ → List ℕ → ℕ → Stand

-- the blocks around the operation
abbrev pub around : Stand → List ℕ
around (func f) = []
around (under p j es i) = j ∷ around p

-- the operations earlier in the same or an enclosing block
abbrev pub earlier : Stand → List ℕ
earlier (func f) = []
earlier (under p j es i) = es ++ earlier p

-- the operation itself and those that enclose it, the function operation excluded
abbrev pub outward : Stand → List ℕ
outward (func f) = []
outward (under p j es i) = i ∷ outward p

-- the operations that enclose it, the function operation excluded
abbrev pub enclosing : Stand → List ℕ
enclosing (func f) = []
enclosing (under p j es i) = outward p

-- v is in the list that f gives of one of the ids
abbrev pub mem_of : (ℕ → List ℕ) → ℕ → List ℕ → Bool
mem_of f v [] = false
mem_of f v (i ∷ is) = mem v (f i) || mem_of f v is

-- the paper's sentence, of a use at p
unfoldable pub visible : Tables → Stand → ℕ → Bool
visible x p v =
    mem_of (arguments x) v (around p)  -- an argument of a block around the use
    || mem_of (result_values x) v (earlier p)  -- a declared result of an operation earlier in the same or an enclosing block
    || mem_of (result_values x) v (enclosing p)  -- or of one that encloses the use, the function operation excluded

-- ---- every reachable operation, in walk order

abbrev pub from_operation : (Stand → ℕ → List Stand) → Tables → Stand → ℕ → List Stand
from_operation inside x p i = p ∷ flat (inside p) (regions x i)

abbrev pub from_operations : (Stand → ℕ → List Stand) → Tables → Stand → ℕ → List ℕ → List ℕ → List Stand
from_operations inside x p j es [] = []
from_operations inside x p j es (i ∷ is) =
    from_operation inside x (under p j es i) i ++ from_operations inside x p j (es ++ (i ∷ [])) is

abbrev pub from_block : (Stand → ℕ → List Stand) → Tables → Stand → ℕ → List Stand
from_block inside x p j = from_operations inside x p j [] (operations x j)

-- region k of the operation at p, no deeper than d blocks
unfoldable pub from_region : ℕ → Tables → Stand → ℕ → List Stand
from_region zero x p k = []
from_region (suc d) x p k = flat (from_block (from_region d x) x p) (blocks x k)

unfoldable pub stands : Tables → List Stand
stands x = flat (λ f. from_operation (from_region max_depth x) x (func f) f) (functions x)

-- ---- the first operand in walk order that is not visible; the function operation's own operands are not asked

abbrev pub first_hidden : (ℕ → Bool) → ℕ → ℕ → List ℕ → Answer
first_hidden sees i k [] = Ok tt
first_hidden sees i k (v ∷ vs) = cond (sees v) (first_hidden sees i (suc k) vs) (Err (NotVisible i k))

abbrev pub judged_at : Tables → Stand → Answer
judged_at x (func f) = Ok tt
judged_at x (under p j es i) = first_hidden (visible x (under p j es i)) i 0 (operands x i)

unfoldable pub sentence : Tables → Answer
sentence x = each (judged_at x) (stands x)
