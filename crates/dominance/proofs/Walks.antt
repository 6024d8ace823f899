-- The walk: a loop that visits ids one by one while what is live grows, and what the definitions say of the lists that the code read.
-- Assumes nothing.
use Prim.Native.Nat.{ℕ, suc, ◌+◌, ◌-◌, ◌<◌, ◌≤◌}
use native.Mathlib.Omega.{arith}
use mathlib.Core.Path.{◌≡◌, refl, sym, ap, ◌∙◌, subst}
use mathlib.Core.List.{List, [], ◌∷◌}
use lib.ListN.{length, get_or, drop}
use Rattle.cells.proofs.Parts.{left_step, left_end}
use Rattle.tables.specs.Tables.{Tables, lent, functions, regions, blocks, operations, arguments}
use Rattle.tables.specs.Answer.{and_then, Answer}
use Rattle.std.specs.Prelude.{Ok, Err}
use Rattle.tables.specs.declared.Refusal.{Refusal}
use Rattle.nesting.specs.Shape.{visit}
use Rattle.nesting.specs.Live.{valued, result_values}
use Rattle.nesting.specs.Dominance.{judged}
use Rattle.nesting.specs.Ask.{answers, all, fold_operation, fold_operations, fold_block, fold_region, fold_whole}
use Rattle.scope.specs.Stack.{see_all, Holds}
use Rattle.scope.specs.declared.Live.{Live}
use Rattle.scope.specs.declared.Scope.{Scope}
use Rattle.scope.proofs.Laws.{Begins, begins_same, begins_on, begins_all, holds_back}
use Rattle.dominance.specs.Walk.{Tells, Visited, Level, Stands, Went, told, after, region_judged, block_judged, operation_judged, regions_judged, function_judged, whole_judged}

-- the tables that the walk reads, with any types, values and attributes beside them
abbrev pub beside : Tables → List ℕ → List ℕ → List ℕ → Tables
beside x t v a = lent t v x.o a x.b x.r x.f x.l x.counts

-- ---- ids visited one by one: f judges each, and g is what is live after it

abbrev pub fold_ids : (List ℕ → ℕ → Answer) → (List ℕ → ℕ → List ℕ) → List ℕ → List ℕ → Answer
fold_ids f g live [] = Ok tt
fold_ids f g live (x ∷ xs) = and_then (f live x) (fold_ids f g (g live x) xs)

abbrev pub grown : (List ℕ → ℕ → List ℕ) → List ℕ → List ℕ → List ℕ
grown g live [] = live
grown g live (x ∷ xs) = grown g (g live x) xs

-- a region and a block leave what is live as it was
abbrev pub same : Tables → List ℕ → ℕ → List ℕ
same x live k = live

-- i of the ids xs are visited: something is live now that the rest is visited with as all are with `live`
pub record Going (f : ℕ → List ℕ → ℕ → Answer) (depth : ℕ) (g : List ℕ → ℕ → List ℕ) (xs live : List ℕ) (nv : ℕ) {N : ℕ} (stack : Live N) (next i : ℕ) : Type 0 where
  pub now_live : List ℕ
  pub stands : Holds nv stack next now_live
  pub said : fold_ids (f depth) g now_live (drop i xs) ≡ fold_ids (f depth) g live xs
  pub leads : grown g now_live (drop i xs) ≡ grown g live xs

-- what each loop keeps
pub record Loop (x : Tables) (bases claims : List ℕ) (f : Tables → ℕ → List ℕ → ℕ → Answer) (g : Tables → List ℕ → ℕ → List ℕ) (xs : List ℕ) {N : ℕ}
    (stack₀ : Live N) (from : Scope) (stack : Live N) (to : Scope) (i : ℕ) : Type 0 where
  pub depth : to.depth ≡ from.depth
  pub going : (t v a : List ℕ) → Tells (beside x t v a) bases claims → (live : List ℕ) → Holds x.counts.values stack₀ from.next live
      → Going (f (beside x t v a)) from.depth (g (beside x t v a)) xs live x.counts.values stack to.next i

pub loop_start : {x : Tables} {bases claims : List ℕ} {f : Tables → ℕ → List ℕ → ℕ → Answer} {g : Tables → List ℕ → ℕ → List ℕ} {xs : List ℕ} {N : ℕ} {stack : Live N}
    {from : Scope} → Loop x bases claims f g xs stack from stack from 0
loop_start = record {
  depth = refl;
  going = λ t v a tells live h. record { now_live = live; stands = h; said = refl; leads = refl };
}

pub level_is : {w : Visited} {u : Scope} {d : ℕ} → Level w d → w ≡ Ok u → u.depth ≡ d
level_is {d = d} h e = subst (λ (z : Visited). Level z d) e h

pub stands_is : {w : Visited} {u : Scope} {nv N : ℕ} {stack : Live N} {live : List ℕ} {a : Answer} → Went w nv stack live a → w ≡ Ok u → Holds nv stack u.next live
stands_is {nv = nv} {stack = stack} {live = live} v e = subst (λ (z : Visited). Stands z nv stack live) e v.stands

module _ {f : ℕ → List ℕ → ℕ → Answer} {depth : ℕ} {g : List ℕ → ℕ → List ℕ} {xs live : List ℕ} {nv N : ℕ} {stack : Live N} {next i : ℕ}
    (inv : Going f depth g xs live nv stack next i) where
  pub going_said : length xs ≤ i → Ok tt ≡ fold_ids (f depth) g live xs
  going_said h = rw (left_end xs i 0 h) at inv.said

  pub going_live : length xs ≤ i → Holds nv stack next (grown g live xs)
  going_live h = let q : inv.now_live ≡ grown g live xs = rw (left_end xs i 0 h) at inv.leads in rw q at inv.stands

  -- a turn: the visit of the id at i
  module _ {w : Visited} {stack' : Live N} {depth' : ℕ} (h : i < length xs) (e : depth' ≡ depth)
      (v : Went w nv stack' (g inv.now_live (get_or xs i 0)) (f depth' inv.now_live (get_or xs i 0))) where
    here : told w ≡ f depth inv.now_live (get_or xs i 0)
    here = v.answer ∙ ap (λ (z : ℕ). f z inv.now_live (get_or xs i 0)) e

    pub going_stop : {why : Refusal} → w ≡ Err why → Err why ≡ fold_ids (f depth) g live xs
    going_stop {why} q =
        let z : f depth inv.now_live (get_or xs i 0) ≡ Err why = sym here ∙ ap told q in
        rw (left_step xs i 0 h, z) at inv.said

    pub going_more : {u : Scope} → w ≡ Ok u → Going f depth g xs live nv stack' u.next (i + 1)
    going_more q =
        let z : f depth inv.now_live (get_or xs i 0) ≡ (Ok tt) = sym here ∙ ap told q in
        record {
          now_live = g inv.now_live (get_or xs i 0);
          stands = stands_is v q;
          said = rw (left_step xs i 0 h, z) at inv.said;
          leads = rw (left_step xs i 0 h) at inv.leads;
        }

-- a refusal, with any arrays
pub stopped : {why : Refusal} {nv N : ℕ} {stack : Live N} {live : List ℕ} {a : Answer} → Err why ≡ a → Went (Err why) nv stack live a
stopped e = record { answer = e; stands = tt }

-- ---- the lists as the definitions have them

all_is : (f : List ℕ → ℕ → Answer) (x : Tables) (live xs : List ℕ) → fold_ids f (same x) live xs ≡ all answers (f live) xs
all_is f x live [] = refl
all_is f x live (k ∷ ks) = ap (and_then (f live k)) (all_is f x live ks)

pub grown_same : (x : Tables) (live xs : List ℕ) → grown (same x) live xs ≡ live
grown_same x live [] = refl
grown_same x live (k ∷ ks) = grown_same x live ks

pub begins_after : (x : Tables) (live xs : List ℕ) → Begins live (grown (after x) live xs)
begins_after x live [] = begins_same live
begins_after x live (i ∷ is) = begins_on (begins_all x.counts.values live (result_values x i)) (begins_after x (after x live i) is)

operations_is : (x : Tables) (d : ℕ) (live is : List ℕ)
    → fold_ids (operation_judged x d) (after x) live is ≡ fold_operations answers (see_all x.counts.values) (judged x) (valued x) (region_judged x d) live is
unfolding valued
operations_is x d live [] = refl
operations_is x d live (i ∷ is) = ap (and_then (operation_judged x d live i)) (operations_is x d (after x live i) is)

module _ (x : Tables) (d : ℕ) (live : List ℕ) where
  pub regions_are : (ks : List ℕ) → fold_ids (region_judged x d) (same x) live ks ≡ regions_judged x d live ks
  regions_are ks = all_is (region_judged x d) x live ks

  pub block_is : {d₀ : ℕ} {args is : List ℕ} (j : ℕ) → d₀ ≡ d → args ≡ arguments x j → is ≡ operations x j
      → fold_ids (operation_judged x d₀) (after x) (see_all x.counts.values live args) is ≡ block_judged x d live j
  unfolding fold_block valued
  block_is j e ea ei = rw (e, ea, ei) (operations_is x d (see_all x.counts.values live (arguments x j)) (operations x j))

  pub region_is : {d₀ : ℕ} {js : List ℕ} (k : ℕ) → (d ≡ 0 → ⊥) → d₀ ≡ d - 1 → js ≡ blocks x k
      → fold_ids (block_judged x d₀) (same x) live js ≡ region_judged x d live k
  unfolding fold_region valued
  region_is k h e ej =
      let q : suc (d - 1) ≡ d = omega (arith, h) in
      rw (e, ej) (all_is (block_judged x (d - 1)) x live (blocks x k)) ∙ ap (λ (z : ℕ). region_judged x z live k) q

  pub region_none : (k : ℕ) → d ≡ 0 → Ok tt ≡ region_judged x d live k
  unfolding fold_region
  region_none k e = rw e

  module _ (i : ℕ) {w : Visited} {nv N : ℕ} {stack : Live N} {l₁ : List ℕ} (v : Went w nv stack l₁ (judged x (visit i live))) where
    pub operation_stops : {why : Refusal} → w ≡ Err why → Err why ≡ operation_judged x d live i
    unfolding fold_operation
    operation_stops {why} e =
        let q : judged x (visit i live) ≡ Err why = sym v.answer ∙ ap told e in
        rw q

    pub operation_goes : {u : Scope} {ks : List ℕ} → w ≡ Ok u → u.depth ≡ d → ks ≡ regions x i
        → regions_judged x u.depth (after x live i) ks ≡ operation_judged x d live i
    unfolding fold_operation valued
    operation_goes e ed ek =
        let q : judged x (visit i live) ≡ (Ok tt) = sym v.answer ∙ ap told e in
        rw (q, ed, ek)

-- ---- rolled back

pub back_to : {u scope : Scope} {nv n N : ℕ} {stack stack₀ : Live N} {live live₀ : List ℕ} → u ≡ scope → Holds nv stack n live → Begins live₀ live
    → Holds nv stack₀ scope.next live₀ → Holds nv stack u.next live₀
back_to {nv = nv} {stack = stack} {live₀ = live₀} e h p g = subst (λ (z : Scope). Holds nv stack z.next live₀) (sym e) (holds_back h p g)

-- ---- the functions, i of them passed

module _ (f : ℕ → Answer) (xs : List ℕ) (i : ℕ) (a : Answer) (inv : all answers f (drop i xs) ≡ a) where
  pub all_more : i < length xs → f (get_or xs i 0) ≡ Ok tt → all answers f (drop (i + 1) xs) ≡ a
  all_more h e = rw (left_step xs i 0 h, e) at inv

  pub all_stop : {why : Refusal} → i < length xs → f (get_or xs i 0) ≡ Err why → Err why ≡ a
  all_stop h e = rw (left_step xs i 0 h, e) at inv

  pub all_end : length xs ≤ i → Ok tt ≡ a
  all_end h = rw (left_end xs i 0 h) at inv

pub whole_is : (x : Tables) → all answers (function_judged x) (functions x) ≡ whole_judged x
unfolding fold_whole valued
whole_is x = refl
