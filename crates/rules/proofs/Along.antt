-- The operations in the order of their table: any order accepts where this one does. Assumes nothing.
use Prim.Native.Nat.{ℕ, zero, suc, ◌+◌, ◌-◌, ◌≤◌, ◌<◌}
use native.Mathlib.Omega.{arith}
use mathlib.Core.Path.{◌≡◌, refl, ap, subst, ◌∙◌}
use mathlib.Core.Bool.{Bool, true, false, cond}
use mathlib.Core.List.{List, [], ◌∷◌}
use mathlib.Core.Logic.{⊎_elim}
use lib.Dec.{eqb}
use lib.ListN.{length, get_or, drop}
use borrow.Author.Tests.{eqb-true, eqb-false, le-ltb}
use Rattle.cells.specs.Lists.{from, below}
use Rattle.cells.proofs.Parts.{left_step, left_end, from_length, from_at}
use Rattle.cells.proofs.Rows.{lt_or_ge}
use Rattle.tables.specs.Answer.{and_then, each, Answer}
use Rattle.tables.specs.Layout.{opcode_in, attributes_in, attributes_span_in}
use Rattle.tables.specs.Tables.{Tables}
use Rattle.std.specs.Prelude.{Ok}
use Rattle.tables.proofs.Each.{both_accept, then_accepts}
use Rattle.lookups.specs.Lookup.{entry_in, flushes_in}
use Rattle.lookups.specs.Verdict.{fail_if}
use Rattle.rules_small.specs.Rounding.{flushed}
use Rattle.rules.specs.Operation.{arm_of, arm_rule, judged, verify_operation, rules}

-- asked along a list from entry k on
module _ (f : ℕ → Answer) (k : ℕ) where
  pub entries_step : (xs : List ℕ) → k < length xs → each f (drop k xs) ≡ and_then (f (get_or xs k 0)) (each f (drop (k + 1) xs))
  entries_step xs h = ap (each f) (left_step xs k 0 h)

  pub entries_end : (xs : List ℕ) → length xs ≤ k → each f (drop k xs) ≡ Ok tt
  entries_end xs h = ap (each f) (left_end xs k 0 h)

-- the same along the table's order or the one given
module _ (f : ℕ → Answer) where
  pub along_step : (straight : Bool) (order : List ℕ) (k : ℕ) → k < length order
      → each f (drop k (cond straight (below (length order)) order))
      ≡ and_then (f (cond straight k (get_or order k 0))) (each f (drop (k + 1) (cond straight (below (length order)) order)))
  along_step true order k h =
      entries_step f k (below (length order)) (omega (arith, h, from_length 0 (length order)))
      ∙ ap (λ (i : ℕ). and_then (f i) (each f (drop (k + 1) (below (length order))))) (from_at 0 (length order) k h ∙ omega arith)
  along_step false order k h = entries_step f k order h

  pub along_end : (straight : Bool) (order : List ℕ) (k : ℕ) → length order ≤ k → each f (drop k (cond straight (below (length order)) order)) ≡ Ok tt
  along_end true order k h = entries_end f k (below (length order)) (omega (arith, h, from_length 0 (length order)))
  along_end false order k h = entries_end f k order h

-- an operation with no attribute has none that flushes
pub unflushed : (sheet : List ℕ) (x : Tables) (i : ℕ) → (attributes_in x.o x.counts i).len ≡ 0 → judged i (flushed sheet x i) ≡ Ok tt
unfolding flushed flushes_in entry_in fail_if
unflushed sheet x i e = rw e

-- accepted of each number in a row
each_in : (f : ℕ → Answer) (s n i : ℕ) → each f (from s n) ≡ Ok tt → s ≤ i → i < s + n → f i ≡ Ok tt
each_in f s zero i e p q = absurd (omega arith)
each_in f s (suc n) i e p q =
    let both = both_accept (f s) (each f (from (suc s) n)) e in
    near (eqb s i) refl both.0 (each_in f (suc s) n i both.1)
  where
    near : (u : Bool) → eqb s i ≡ u → f s ≡ Ok tt → (suc s ≤ i → i < suc s + n → f i ≡ Ok tt) → f i ≡ Ok tt
    near true u here more = subst (λ (j : ℕ). f j ≡ Ok tt) (eqb-true s i u) here
    near false u here more = let d : s ≡ i → ⊥ = eqb-false s i u in more (omega (arith, d)) (omega arith)

each_accepted : (f : ℕ → Answer) → ((i : ℕ) → f i ≡ Ok tt) → (xs : List ℕ) → each f xs ≡ Ok tt
each_accepted f h [] = refl
each_accepted f h (x ∷ xs) = then_accepts (h x) (each_accepted f h xs)

module _ (version : ℕ) (sheet : List ℕ) (x : Tables) where
  -- an operation that there is not has no opcode of an arm, and no attribute
  module _ (i : ℕ) (h : x.counts.operations ≤ i) where
    no_code : opcode_in x.o x.counts i ≡ 0
    unfolding opcode_in
    no_code = rw (le-ltb i x.counts.operations h)

    no_attribute : (attributes_in x.o x.counts i).len ≡ 0
    unfolding attributes_in attributes_span_in
    no_attribute = rw (le-ltb i x.counts.operations h) (omega arith)

    arm : judged i (arm_rule version sheet x i (arm_of (opcode_in x.o x.counts i))) ≡ Ok tt
    unfolding arm_of arm_rule
    arm = rw no_code

    closing : judged i (flushed sheet x i) ≡ Ok tt
    closing = unflushed sheet x i no_attribute

    unknown : verify_operation version sheet x i ≡ Ok tt
    unfolding verify_operation
    unknown = then_accepts arm closing

  pub in_any_order : (order : List ℕ) → x.counts.operations ≤ length order
      → rules version sheet x (below (length order)) ≡ Ok tt → rules version sheet x order ≡ Ok tt
  unfolding rules
  in_any_order order h e =
      each_accepted (verify_operation version sheet x)
      (λ i. ⊎_elim (λ p. each_in (verify_operation version sheet x) 0 (length order) i e (omega arith) (omega arith)) (unknown i)
      (lt_or_ge i x.counts.operations))
      order
