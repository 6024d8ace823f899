-- The checks after code 1 read only some of the tables, and on cut counts what they read on the whole ones where code 1 passes.
-- Assumes nothing.
use Prim.Native.Nat.{ℕ, zero, suc, ◌≤◌}
use native.Mathlib.Omega.{arith}
use mathlib.Core.Path.{◌≡◌, refl, sym, subst, ap, ◌∙◌}
use mathlib.Core.List.{List, []}
use mathlib.Core.Bool.{cond}
use lib.Dec.{leb}
use lib.ListN.{length}
use Rattle.tables.specs.Sizes.{max_entries}
use Rattle.tables.specs.Tables.{Tables, lent, nest, cut, result_types}
use Rattle.tables.specs.Answer.{and_then, Answer}
use Rattle.tables.specs.declared.Counts.{Counts}
use Rattle.std.specs.Prelude.{Ok, Err}
use Rattle.ranges.specs.Range.{sum, listed_by_operation, table_ranges, sheet_range}
use Rattle.ranges.specs.Ranged.{Ranged}
use Rattle.ranges.proofs.Laws.{ranged, cut_is}
use Rattle.listed.specs.Twice.{listed_twice}
use Rattle.walk.specs.Depth.{operation_depth, block_depth, region_depth, too_deep}
use Rattle.walk.specs.Order.{operation_order, block_order, region_order, order_to, order}
use Rattle.values.specs.Results.{sum_below, declared_in}
use Rattle.values.specs.Claims.{Zeros, Filled}
use Rattle.values.specs.Guarded.{guarded_twice}
use Rattle.values.proofs.Laws.{guard_holds, bare_twice}
use Rattle.table_checks.specs.Checks.{after_ranges, table_checks, sheet_checks}
use Rattle.table_checks.specs.Checked.{after_cut, HandsCut}

module _ (t v o a b r f l : List ℕ) (n : Counts) where
  pub listed_bare : listed_twice (cut (nest o b r f l n)) ≡ listed_twice (cut (lent t v o a b r f l n))
  unfolding listed_twice
  listed_bare = refl

  pub depth_bare : too_deep (nest o b r f l n) ≡ too_deep (lent t v o a b r f l n)
  unfolding too_deep operation_depth block_depth region_depth
  depth_bare = refl

  pub order_bare : order (nest o b r f l n) ≡ order (lent t v o a b r f l n)
  unfolding order_to operation_order block_order region_order
  order_bare = refl

  pub values_bare : guarded_twice (cut (lent [] v o [] b [] [] l n)) ≡ guarded_twice (cut (lent t v o a b r f l n))
  values_bare =
      let y = cut (lent t v o a b r f l n) in
      ap (λ (q : Answer). cond (leb (declared_in y y.counts.operations) max_entries) q (Ok tt)) (bare_twice y)

-- no more results are declared than lists have entries
sum_less : (f g : ℕ → ℕ) → ((i : ℕ) → f i ≤ g i) → (n : ℕ) → sum_below f n ≤ sum g n
sum_less f g h zero = omega arith
sum_less f g h (suc n) = omega (arith, sum_less f g h n, h n)

pub few_results : (x : Tables) → Ranged x → declared_in x x.counts.operations ≤ max_entries
few_results x h =
    let s = sum_less (λ j. length (result_types x j)) (listed_by_operation x)
    (λ i. let e = h.result_types_whole i in omega (arith, e)) x.counts.operations in
    omega (arith, s, h.entries_fit)

pub after_is : (x : Tables) → table_ranges x ≡ Ok tt → after_cut x ≡ after_ranges x
after_is x e =
    let h = ranged x e in
    let c = cut_is x h in
    ap (λ (y : Tables). and_then (listed_twice y) (and_then (too_deep x) (guarded_twice y))) c
    ∙ ap (λ (q : Answer). and_then (listed_twice x) (and_then (too_deep x) q)) (guard_holds x (few_results x h))

-- the cells as they were filled on the cut counts are those of the whole ones
pub filled_is : (x : Tables) → table_ranges x ≡ Ok tt → (bases cells : List ℕ)
    → (declared_in (cut x) (cut x).counts.operations ≤ max_entries → Filled (cut x) bases cells) → Filled x bases cells
filled_is x e bases cells h =
    let r = ranged x e in
    let c = cut_is x r in
    subst (λ (y : Tables). Filled y bases cells) c
    (h (subst (λ (y : Tables). declared_in y y.counts.operations ≤ max_entries) (sym c) (few_results x r)))

-- ---- code 1, and after it the rest on cut counts, is the checks in turn

module _ (x : Tables) where
  pub checks_are : (a : Answer) → a ≡ table_ranges x → and_then a (after_cut x) ≡ table_checks x
  unfolding table_checks
  checks_are a e = ap (λ (b : Answer). and_then b (after_cut x)) e ∙ by_cases (table_ranges x) refl
    where
      by_cases : (t : Answer) → table_ranges x ≡ t → and_then t (after_cut x) ≡ and_then t (after_ranges x)
      by_cases (Ok _) f = after_is x f
      by_cases (Err r) f = refl

  pub sheet_checks_are : (sheet : List ℕ) (a : Answer) → a ≡ and_then (table_ranges x) (sheet_range sheet)
      → and_then a (after_cut x) ≡ sheet_checks sheet x
  unfolding sheet_checks
  sheet_checks_are sheet a e = ap (λ (b : Answer). and_then b (after_cut x)) e ∙ by_cases (table_ranges x) (sheet_range sheet) refl
    where
      by_cases : (t s : Answer) → table_ranges x ≡ t → and_then (and_then t s) (after_cut x) ≡ and_then t (and_then s (after_ranges x))
      by_cases (Ok _) (Ok _) f = after_is x f
      by_cases (Ok _) (Err r) f = refl
      by_cases (Err r) s f = refl

  -- and where all accept, the cells are filled
  pub hands : table_ranges x ≡ Ok tt → after_ranges x ≡ Ok tt → {bases₀ cells₀ bases cells : List ℕ} → HandsCut x bases₀ cells₀ bases cells
      → Zeros bases₀ cells₀ → Filled x bases cells
  hands e k h z = filled_is x e _ _ (h (after_is x e ∙ k) z)
