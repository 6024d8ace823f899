-- Where all that becomes live fits, a stack that takes up what fits walks as plain concatenation does. Assumes nothing.
use Prim.Native.Nat.{ℕ, zero, suc, ◌-◌}
use mathlib.Core.Path.{◌≡◌, refl, ap, ◌∙◌}
use mathlib.Core.List.{List, [], ◌∷◌, ◌++◌}
use Rattle.cells.specs.Lists.{flat}
use Rattle.tables.specs.Sizes.{max_depth}
use Rattle.nesting.specs.In.{In, here, later}
use Rattle.nesting.specs.Shape.{Shape, Visit, visit, operation_visits, operations_visits, block_visits, region_visits, whole_visits, first, entry_visits, entries_visits}
use Rattle.nesting.specs.Fits.{FitsAt}
use Rattle.nesting.specs.Ask.{Way, all, of_first, fold_operation, fold_operations, fold_block, fold_region, fold_whole, fold_entry, fold_entries}
use Rattle.nesting.proofs.Lists.{in_left, in_right, in_flat}
use Rattle.nesting.proofs.Answers.{all_agree}

module _ {A B : Type 0} (fits : List A → Type 0) (grow : List A → List A → List A)
    (plain : (live more : List A) → fits (live ++ more) → grow live more ≡ live ++ more) (w : Way B) (ask : Visit A → B) (s : Shape A) where
  -- all visits fit
  abbrev AllFit : List (Visit A) → Type 0
  AllFit us = (u : Visit A) → In u us → FitsAt fits s u

  -- `inside` and `inside'` agree on a region where all that `g` visits there fits
  module _ (g : List A → ℕ → List (Visit A)) (inside inside' : List A → ℕ → B)
      (ih : (live : List A) (k : ℕ) → AllFit (g live k) → inside live k ≡ inside' live k) where
    at_first : (live : List A) (i : ℕ) → AllFit (operation_visits g s live i) → FitsAt fits s (visit i live)
    unfolding operation_visits
    at_first live i h = h (visit i live) here

    operation_grown : (live : List A) (i : ℕ) → AllFit (operation_visits g s live i)
        → fold_operation w grow ask s inside live i ≡ fold_operation w ◌++◌ ask s inside' live i
    unfolding operation_visits fold_operation
    operation_grown live i h =
        let more = live ++ s.inner i in
        ap (λ (l : List A). w.both (ask (visit i live)) (all w (inside l) (s.regions i))) (plain live (s.inner i) (h (visit i live) here).inner)
        ∙ ap (w.both (ask (visit i live)))
        (all_agree w (inside more) (inside' more) (s.regions i) (λ k m. ih more k (λ u q. h u (later (in_flat (g more) m q)))))

    operations_grown : (live : List A) (is : List ℕ) → AllFit (operations_visits g s live is)
        → fold_operations w grow ask s inside live is ≡ fold_operations w ◌++◌ ask s inside' live is
    operations_grown live [] h = refl
    operations_grown live (i ∷ is) h =
        let rest = operations_visits g s (live ++ s.results i) is in
        let one : AllFit (operation_visits g s live i) = λ u m. h u (in_left rest m) in
        ap (λ (b : B). w.both b (fold_operations w grow ask s inside (grow live (s.results i)) is)) (operation_grown live i one)
        ∙ ap (λ (l : List A). w.both (fold_operation w ◌++◌ ask s inside' live i) (fold_operations w grow ask s inside l is))
        (plain live (s.results i) (at_first live i one).results)
        ∙ ap (w.both (fold_operation w ◌++◌ ask s inside' live i))
        (operations_grown (live ++ s.results i) is (λ u m. h u (in_right (operation_visits g s live i) m)))

    -- a block without operations asks nothing, so it does not matter what its arguments would do
    entered : (live more : List A) (is : List ℕ) → AllFit (operations_visits g s (live ++ more) is)
        → fold_operations w grow ask s inside (grow live more) is ≡ fold_operations w ◌++◌ ask s inside' (live ++ more) is
    entered live more [] h = refl
    entered live more (i ∷ is) h =
        let rest = operations_visits g s ((live ++ more) ++ s.results i) is in
        ap (λ (l : List A). fold_operations w grow ask s inside l (i ∷ is))
        (plain live more (at_first (live ++ more) i (λ u m. h u (in_left rest m))).live)
        ∙ operations_grown (live ++ more) (i ∷ is) h

    block_grown : (live : List A) (j : ℕ) → AllFit (block_visits g s live j)
        → fold_block w grow ask s inside live j ≡ fold_block w ◌++◌ ask s inside' live j
    unfolding block_visits fold_block
    block_grown live j h = entered live (s.arguments j) (s.operations j) h

  region_grown : (d : ℕ) (live : List A) (k : ℕ) → AllFit (region_visits d s live k)
      → fold_region w grow ask s d live k ≡ fold_region w ◌++◌ ask s d live k
  unfolding region_visits fold_region
  region_grown zero live k h = refl
  region_grown (suc d) live k h =
      let inside = fold_region w grow ask s d in
      let inside' = fold_region w ◌++◌ ask s d in
      all_agree w (fold_block w grow ask s inside live) (fold_block w ◌++◌ ask s inside' live) (s.blocks k)
      (λ j m. block_grown (region_visits d s) inside inside' (region_grown d) live j
      (λ u q. h u (in_flat (block_visits (region_visits d s) s live) m q)))

  pub whole_grown : AllFit (whole_visits s) → fold_whole w grow ask s ≡ fold_whole w ◌++◌ ask s
  unfolding whole_visits fold_whole
  whole_grown h =
      all_agree w (λ f. all w (fold_region w grow ask s max_depth []) (s.regions f))
      (λ f. all w (fold_region w ◌++◌ ask s max_depth []) (s.regions f)) s.functions
      (λ f m. all_agree w (fold_region w grow ask s max_depth []) (fold_region w ◌++◌ ask s max_depth []) (s.regions f)
      (λ k n. region_grown max_depth [] k (λ u q. h u (in_flat (λ f. flat (region_visits max_depth s []) (s.regions f)) m (in_flat (region_visits max_depth s []) n q)))))

  -- the entry walk of a function
  abbrev one : ℕ → List (Visit A)
  one j = block_visits (region_visits (max_depth - 1) s) s [] j

  first_block : (js : List ℕ) → AllFit (first one js)
      → of_first w (fold_block w grow ask s (fold_region w grow ask s (max_depth - 1)) []) js ≡ of_first w (fold_block w ◌++◌ ask s (fold_region w ◌++◌ ask s (max_depth - 1)) []) js
  first_block [] h = refl
  first_block (j ∷ js) h = block_grown (region_visits (max_depth - 1) s) (fold_region w grow ask s (max_depth - 1)) (fold_region w ◌++◌ ask s (max_depth - 1)) (region_grown (max_depth - 1)) [] j h

  first_region : (ks : List ℕ) → AllFit (first (λ k. first one (s.blocks k)) ks)
      → of_first w (λ k. of_first w (fold_block w grow ask s (fold_region w grow ask s (max_depth - 1)) []) (s.blocks k)) ks
      ≡ of_first w (λ k. of_first w (fold_block w ◌++◌ ask s (fold_region w ◌++◌ ask s (max_depth - 1)) []) (s.blocks k)) ks
  first_region [] h = refl
  first_region (k ∷ ks) h = first_block (s.blocks k) h

  pub entries_grown : AllFit (entries_visits s) → fold_entries w grow ask s ≡ fold_entries w ◌++◌ ask s
  unfolding entries_visits entry_visits fold_entries fold_entry
  entries_grown h =
      all_agree w (fold_entry w grow ask s) (fold_entry w ◌++◌ ask s) s.functions
      (λ f m. first_region (s.regions f) (λ u q. h u (in_flat (entry_visits s) m q)))
