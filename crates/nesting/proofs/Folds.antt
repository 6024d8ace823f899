-- Asked on the way or one visit after the other, the answer is the same, for every way of joining answers. Assumes nothing.
use Prim.Native.Nat.{ℕ, zero, suc, ◌-◌}
use mathlib.Core.Path.{◌≡◌, refl, sym, ◌∙◌}
use mathlib.Core.List.{List, [], ◌∷◌, ◌++◌}
use Rattle.cells.specs.Lists.{flat}
use Rattle.tables.specs.Sizes.{max_depth}
use Rattle.tables.specs.Tables.{Tables}
use Rattle.nesting.specs.Shape.{Shape, Visit, operation_visits, operations_visits, block_visits, region_visits, whole_visits, first, entry_visits, entries_visits}
use Rattle.nesting.specs.Live.{valued, nesting_of, placed}
use Rattle.nesting.specs.Dominance.{judged, dominance}
use Rattle.nesting.specs.Numbering.{numbers_at, numbering}
use Rattle.nesting.specs.Ask.{Way, answers, listings, all, of_first, fold_operation, fold_operations, fold_block, fold_region, fold_whole, fold_entry, fold_entries}
use Rattle.nesting.proofs.Answers.{Lawful, answers_lawful, listings_lawful, all_each, all_collect, all_append, all_flat, all_first}

module _ {A B : Type 0} (w : Way B) (l : Lawful w) (ask : Visit A → B) (s : Shape A) where
  -- `h` asks in a region all that `g` visits there
  module _ (g : List A → ℕ → List (Visit A)) (h : List A → ℕ → B) (e : (live : List A) (k : ℕ) → all w ask (g live k) ≡ h live k) where
    fold_operation_lem : (live : List A) (i : ℕ) → all w ask (operation_visits g s live i) ≡ fold_operation w ◌++◌ ask s h live i
    unfolding operation_visits fold_operation
    fold_operation_lem live i = rw (all_flat w l ask (g (live ++ s.inner i)) (h (live ++ s.inner i)) (e (live ++ s.inner i)) (s.regions i))

    fold_operations_lem : (live : List A) (is : List ℕ) → all w ask (operations_visits g s live is) ≡ fold_operations w ◌++◌ ask s h live is
    fold_operations_lem live [] = refl
    fold_operations_lem live (i ∷ is) =
        all_append w l ask (operation_visits g s live i) (operations_visits g s (live ++ s.results i) is)
        ∙ rw (fold_operation_lem live i, fold_operations_lem (live ++ s.results i) is)

    fold_block_lem : (live : List A) (j : ℕ) → all w ask (block_visits g s live j) ≡ fold_block w ◌++◌ ask s h live j
    unfolding block_visits fold_block
    fold_block_lem live j = fold_operations_lem (live ++ s.arguments j) (s.operations j)

  pub fold_region_lem : (d : ℕ) (live : List A) (k : ℕ) → all w ask (region_visits d s live k) ≡ fold_region w ◌++◌ ask s d live k
  unfolding region_visits fold_region
  fold_region_lem zero live k = refl
  fold_region_lem (suc d) live k =
      all_flat w l ask (block_visits (region_visits d s) s live) (fold_block w ◌++◌ ask s (fold_region w ◌++◌ ask s d) live)
      (fold_block_lem (region_visits d s) (fold_region w ◌++◌ ask s d) (fold_region_lem d) live) (s.blocks k)

  pub fold_whole_lem : all w ask (whole_visits s) ≡ fold_whole w ◌++◌ ask s
  unfolding whole_visits fold_whole
  fold_whole_lem =
      all_flat w l ask (λ f. flat (region_visits max_depth s []) (s.regions f)) (λ f. all w (fold_region w ◌++◌ ask s max_depth []) (s.regions f))
      (λ f. all_flat w l ask (region_visits max_depth s []) (fold_region w ◌++◌ ask s max_depth []) (fold_region_lem max_depth []) (s.regions f)) s.functions

  fold_entry_lem : (f : ℕ) → all w ask (entry_visits s f) ≡ fold_entry w ◌++◌ ask s f
  unfolding entry_visits fold_entry
  fold_entry_lem f =
      all_first w l ask (λ k. first (block_visits (region_visits (max_depth - 1) s) s []) (s.blocks k))
      (λ k. of_first w (fold_block w ◌++◌ ask s (fold_region w ◌++◌ ask s (max_depth - 1)) []) (s.blocks k))
      (λ k. all_first w l ask (block_visits (region_visits (max_depth - 1) s) s []) (fold_block w ◌++◌ ask s (fold_region w ◌++◌ ask s (max_depth - 1)) [])
      (fold_block_lem (region_visits (max_depth - 1) s) (fold_region w ◌++◌ ask s (max_depth - 1)) (fold_region_lem (max_depth - 1)) []) (s.blocks k)) (s.regions f)

  pub fold_entries_lem : all w ask (entries_visits s) ≡ fold_entries w ◌++◌ ask s
  unfolding entries_visits fold_entries
  fold_entries_lem = all_flat w l ask (entry_visits s) (fold_entry w ◌++◌ ask s) fold_entry_lem s.functions

pub dominance_fold : (x : Tables) → dominance x ≡ fold_whole answers ◌++◌ (judged x) (valued x)
unfolding dominance
dominance_fold x = sym (all_each (judged x) (whole_visits (valued x))) ∙ fold_whole_lem answers answers_lawful (judged x) (valued x)

pub numbering_fold : (sheet : List ℕ) (x : Tables) → numbering sheet x ≡ fold_entries listings ◌++◌ (numbers_at sheet x) (placed (nesting_of x))
unfolding numbering
numbering_fold sheet x =
    sym (all_collect (numbers_at sheet x) (entries_visits (placed (nesting_of x))))
    ∙ fold_entries_lem listings listings_lawful (numbers_at sheet x) (placed (nesting_of x))
