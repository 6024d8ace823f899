-- The walk comes to the paper's stands, in order, and what is live at each is what the paper's sentence says. Assumes nothing.
use Prim.Native.Nat.{ℕ, zero, suc}
use mathlib.Core.Path.{◌≡◌, refl, ap, sym, ◌∙◌}
use mathlib.Core.Bool.{Bool, true, false, ◌||◌}
use mathlib.Core.List.{List, [], ◌∷◌, ◌++◌, append_assoc, append-nil}
use Rattle.cells.specs.Lists.{flat, mem}
use Rattle.tables.specs.Sizes.{max_depth}
use Rattle.tables.specs.Tables.{Tables, functions, regions, blocks, operations, arguments, operands}
use Rattle.tables.specs.Answer.{and_then, each, Answer}
use Rattle.std.specs.Prelude.{Ok, Err}
use Rattle.nesting.specs.Shape.{Visit, visit, operation_visits, operations_visits, block_visits, region_visits, whole_visits}
use Rattle.nesting.specs.Live.{result_values, valued}
use Rattle.nesting.specs.Dominance.{judge, judged, dominance}
use Rattle.nesting.specs.Sentence.{Stand, func, under, around, earlier, outward, mem_of, visible, from_operation, from_operations, from_block, from_region, stands, first_hidden, judged_at, sentence}
use Rattle.nesting.specs.Ask.{answers, all}
use Rattle.nesting.proofs.Lists.{flat_append, flat_same, flat_flat, flat_snoc, mem_append}
use Rattle.nesting.proofs.Answers.{answers_lawful, all_each, all_flat}

-- ---- what is live at a stand

module _ (x : Tables) where
  -- in block j, after the operations es, where `live` was live around the block
  abbrev pub inside_block : List ℕ → ℕ → List ℕ → List ℕ
  inside_block live j es = (live ++ arguments x j) ++ flat (result_values x) es

  -- in the regions of the operation at a stand
  abbrev pub within : Stand → List ℕ
  within (func f) = []
  within (under p j es i) = inside_block (within p) j es ++ result_values x i

  abbrev pub live_at : Stand → List ℕ
  live_at (func f) = []
  live_at (under p j es i) = inside_block (within p) j es

  -- the visit at a stand; the function operation is not visited
  abbrev pub visit_at : Stand → List (Visit ℕ)
  visit_at (func f) = []
  visit_at (under p j es i) = visit i (inside_block (within p) j es) ∷ []

  after_one : (live : List ℕ) (j : ℕ) (es : List ℕ) (i : ℕ)
      → inside_block live j es ++ result_values x i ≡ inside_block live j (es ++ (i ∷ []))
  after_one live j es i =
      append_assoc (live ++ arguments x j) (flat (result_values x) es) (result_values x i)
      ∙ ap (λ (r : List ℕ). (live ++ arguments x j) ++ r) (sym (flat_snoc (result_values x) es i))

  -- `inside` visits in a region what `from` says stands there
  module _ (inside : List ℕ → ℕ → List (Visit ℕ)) (from : Stand → ℕ → List Stand)
      (ih : (p : Stand) (k : ℕ) → inside (within p) k ≡ flat visit_at (from p k)) where
    regions_visits : (p : Stand) (ks : List ℕ) → flat (inside (within p)) ks ≡ flat visit_at (flat (from p) ks)
    regions_visits p ks = flat_same (inside (within p)) (λ k. flat visit_at (from p k)) (ih p) ks ∙ sym (flat_flat visit_at (from p) ks)

    operation_visits_lem : (p : Stand) (j : ℕ) (es : List ℕ) (i : ℕ)
        → operation_visits inside (valued x) (inside_block (within p) j es) i ≡ flat visit_at (from_operation from x (under p j es i) i)
    unfolding operation_visits valued
    operation_visits_lem p j es i =
        ap (λ (r : List (Visit ℕ)). visit i (inside_block (within p) j es) ∷ r) (regions_visits (under p j es i) (regions x i))

    operations_visits_lem : (p : Stand) (j : ℕ) (es is : List ℕ)
        → operations_visits inside (valued x) (inside_block (within p) j es) is ≡ flat visit_at (from_operations from x p j es is)
    unfolding valued
    operations_visits_lem p j es [] = refl
    operations_visits_lem p j es (i ∷ is) =
        let one = from_operation from x (under p j es i) i in
        let rest = operations_visits inside (valued x) in
        ap (λ (r : List (Visit ℕ)). r ++ rest (inside_block (within p) j es ++ result_values x i) is) (operation_visits_lem p j es i)
        ∙ ap (λ (live : List ℕ). flat visit_at one ++ rest live is) (after_one (within p) j es i)
        ∙ ap (λ (r : List (Visit ℕ)). flat visit_at one ++ r) (operations_visits_lem p j (es ++ (i ∷ [])) is)
        ∙ sym (flat_append visit_at one (from_operations from x p j (es ++ (i ∷ [])) is))

    block_visits_lem : (p : Stand) (j : ℕ) → block_visits inside (valued x) (within p) j ≡ flat visit_at (from_block from x p j)
    unfolding block_visits valued
    block_visits_lem p j =
        ap (λ (live : List ℕ). operations_visits inside (valued x) live (operations x j)) (sym (append-nil (within p ++ arguments x j)))
        ∙ operations_visits_lem p j [] (operations x j)

  region_visits_lem : (d : ℕ) (p : Stand) (k : ℕ) → region_visits d (valued x) (within p) k ≡ flat visit_at (from_region d x p k)
  unfolding region_visits from_region valued
  region_visits_lem zero p k = refl
  region_visits_lem (suc d) p k =
      flat_same (block_visits (region_visits d (valued x)) (valued x) (within p)) (λ j. flat visit_at (from_block (from_region d x) x p j))
      (block_visits_lem (region_visits d (valued x)) (from_region d x) (region_visits_lem d) p) (blocks x k)
      ∙ sym (flat_flat visit_at (from_block (from_region d x) x p) (blocks x k))

  -- the walk comes to the stands in order, with what is live there
  pub whole_stands : whole_visits (valued x) ≡ flat visit_at (stands x)
  unfolding whole_visits stands valued
  whole_stands =
      flat_same (λ f. flat (region_visits max_depth (valued x) []) (regions x f)) (λ f. flat visit_at (from_operation (from_region max_depth x) x (func f) f))
      (λ f. regions_visits (region_visits max_depth (valued x)) (from_region max_depth x) (region_visits_lem max_depth) (func f) (regions x f)) (functions x)
      ∙ sym (flat_flat visit_at (λ f. from_operation (from_region max_depth x) x (func f) f) (functions x))

-- ---- it is what the sentence says

mem_of_append : (f : ℕ → List ℕ) (v : ℕ) (is js : List ℕ) → mem_of f v (is ++ js) ≡ mem_of f v is || mem_of f v js
mem_of_append f v [] js = refl
mem_of_append f v (i ∷ is) js = rw (mem_of_append f v is js) (assoc (mem v (f i)) (mem_of f v is) (mem_of f v js))
  where
    assoc : (a b c : Bool) → a || (b || c) ≡ (a || b) || c
    assoc true b c = refl
    assoc false b c = refl

mem_flat : (f : ℕ → List ℕ) (v : ℕ) (is : List ℕ) → mem v (flat f is) ≡ mem_of f v is
mem_flat f v [] = refl
mem_flat f v (i ∷ is) = mem_append v (f i) (flat f is) ∙ ap (λ (b : Bool). mem v (f i) || b) (mem_flat f v is)

-- arguments a and earlier results r join what was visible around the block
arrange : (x y z a r : Bool) → ((x || y || z) || a) || r ≡ (a || x) || (r || y) || z
arrange true y z true r = refl
arrange true y z false r = refl
arrange false true z true r = refl
arrange false true z false true = refl
arrange false true z false false = refl
arrange false false true true r = refl
arrange false false true false true = refl
arrange false false true false false = refl
arrange false false false true r = refl
arrange false false false false true = refl
arrange false false false false false = refl

-- an operation's own results o join them in its regions
arrange_own : (y z o : Bool) → (y || z) || o ≡ y || (o || z)
arrange_own true z o = refl
arrange_own false true true = refl
arrange_own false true false = refl
arrange_own false false true = refl
arrange_own false false false = refl

module _ (x : Tables) (v : ℕ) where
  -- the sentence, of three lists
  abbrev said : List ℕ → List ℕ → List ℕ → Bool
  said bs es os = mem_of (arguments x) v bs || mem_of (result_values x) v es || mem_of (result_values x) v os

  mem_block : (live bs es os : List ℕ) → mem v live ≡ said bs es os → (j : ℕ) (xs : List ℕ)
      → mem v (inside_block x live j xs) ≡ said (j ∷ bs) (xs ++ es) os
  mem_block live bs es os h j xs =
      mem_append v (live ++ arguments x j) (flat (result_values x) xs)
      ∙ rw (mem_append v live (arguments x j), mem_flat (result_values x) v xs, h, mem_of_append (result_values x) v xs es)
      (arrange (mem_of (arguments x) v bs) (mem_of (result_values x) v es) (mem_of (result_values x) v os)
      (mem v (arguments x j)) (mem_of (result_values x) v xs))

  mem_within : (p : Stand) → mem v (within x p) ≡ said (around p) (earlier p) (outward p)
  mem_within (func f) = refl
  mem_within (under p j es i) =
      mem_append v (inside_block x (within x p) j es) (result_values x i)
      ∙ ap (λ (b : Bool). b || mem v (result_values x i)) (mem_block (within x p) (around p) (earlier p) (outward p) (mem_within p) j es)
      ∙ arrange_own (mem_of (arguments x) v (j ∷ around p) || mem_of (result_values x) v (es ++ earlier p))
      (mem_of (result_values x) v (outward p)) (mem v (result_values x i))

  -- a value is live at a stand exactly when the sentence says that it is visible there
  pub live_visible : (p : Stand) → mem v (live_at x p) ≡ visible x p v
  unfolding visible
  live_visible (func f) = refl
  live_visible (under p j es i) = mem_block (within x p) (around p) (earlier p) (outward p) (mem_within p) j es

judge_same : (live : List ℕ) (sees : ℕ → Bool) → ((v : ℕ) → mem v live ≡ sees v) → (i k : ℕ) (vs : List ℕ)
    → judge live i k vs ≡ first_hidden sees i k vs
judge_same live sees h i k [] = refl
judge_same live sees h i k (v ∷ vs) = rw (h v, judge_same live sees h i (suc k) vs)

then_accepted : (a : Answer) → and_then a (Ok tt) ≡ a
then_accepted (Ok _) = refl
then_accepted (Err r) = refl

module _ (x : Tables) where
  judged_stand : (p : Stand) → all answers (judged x) (visit_at x p) ≡ judged_at x p
  judged_stand (func f) = refl
  judged_stand (under p j es i) =
      then_accepted (judge (live_at x (under p j es i)) i 0 (operands x i))
      ∙ judge_same (live_at x (under p j es i)) (visible x (under p j es i)) (λ v. live_visible x v (under p j es i)) i 0 (operands x i)

  pub walk_sentence : dominance x ≡ sentence x
  unfolding dominance sentence
  walk_sentence =
      ap (each (judged x)) (whole_stands x)
      ∙ sym (all_each (judged x) (flat (visit_at x) (stands x)))
      ∙ all_flat answers answers_lawful (judged x) (visit_at x) (judged_at x) judged_stand (stands x)
      ∙ all_each (judged_at x) (stands x)
