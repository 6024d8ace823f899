-- A loop over ids that are judged and written one by one, and what the definitions say of the list that the code read. Assumes nothing.
use Prim.Native.Nat.{ℕ, suc, ◌+◌, ◌-◌, ◌<◌, ◌≤◌, min}
use native.Mathlib.Omega.{arith}
use mathlib.Core.Path.{◌≡◌, refl, ap, sym, ◌∙◌, subst}
use mathlib.Core.List.{List, [], ◌∷◌}
use lib.ListN.{length, get_or, drop, length-take}
use Rattle.cells.specs.Lists.{flat}
use Rattle.cells.specs.declared.Span.{Span}
use Rattle.cells.proofs.Parts.{left_step, left_end}
use Rattle.tables.specs.Tables.{Tables, regions, regions_span, blocks, operations}
use Rattle.tables.specs.Layout.{regions_in, functions_in}
use Rattle.tables.specs.declared.Counts.{Counts}
use Rattle.tables.specs.Answer.{each, Answer}
use Rattle.std.specs.Prelude.{Result, Ok, Err}
use Rattle.tables.specs.declared.Refusal.{Refusal}
use Rattle.tables.specs.declared.Refusal.TheVariants.{TooDeep}
use Rattle.walk.specs.Order.{operation_order, block_order, region_order}
use Rattle.walk.specs.Depth.{opens, operation_depth, block_depth, region_depth}
use Rattle.walk.specs.Written.{Filled, filled, push, push_all, Reached, Visited, told}
use Rattle.walk.proofs.Filling.{push_all_append}

-- what a loop over the ids xs keeps: f judges each, g is what each writes, and i are done
pub record Going (f : ℕ → Answer) (g : ℕ → List ℕ) (xs out₀ : List ℕ) (used : ℕ) (out : List ℕ) (next i : ℕ) : Type 0 where
  pub said : each f (drop i xs) ≡ each f xs
  pub wrote : push_all (filled out next) (flat g (drop i xs)) ≡ push_all (filled out₀ used) (flat g xs)

module _ {f : ℕ → Answer} {g : ℕ → List ℕ} {xs out₀ : List ℕ} {used : ℕ} {out : List ℕ} {next i : ℕ} (inv : Going f g xs out₀ used out next i) where
  pub going_end : length xs ≤ i → Visited (Ok next) out (filled out₀ used) (each f xs) (flat g xs)
  going_end h = record {
    answer = rw (left_end xs i 0 h) at inv.said;
    reached = rw (left_end xs i 0 h) at inv.wrote;
  }

  -- a turn: the visit of the id at i
  module _ {w : Result ℕ Refusal} {out' : List ℕ} (h : i < length xs) (v : Visited w out' (filled out next) (f (get_or xs i 0)) (g (get_or xs i 0))) where
    pub going_deep : {r : Refusal} {w' : Result ℕ Refusal} {out'' : List ℕ} → w ≡ Err r → w' ≡ Err r
        → Visited w' out'' (filled out₀ used) (each f xs) (flat g xs)
    going_deep {r} e e' =
        let q : f (get_or xs i 0) ≡ Err r = sym v.answer ∙ ap told e in
        rw e' (record { answer = rw (left_step xs i 0 h, q) at inv.said; reached = tt })

    pub going_more : {m : ℕ} → w ≡ Ok m → Going f g xs out₀ used out' m (i + 1)
    going_more {m} e =
        let q : f (get_or xs i 0) ≡ (Ok tt) = sym v.answer ∙ ap told e in
        let u : filled out' m ≡ push_all (filled out next) (g (get_or xs i 0)) =
        subst (λ (z : Result ℕ Refusal). Reached z out' (push_all (filled out next) (g (get_or xs i 0)))) e v.reached in
        record {
          said = rw (left_step xs i 0 h, q) at inv.said;
          wrote =
              ap (λ (p : Filled). push_all p (flat g (drop (i + 1) xs))) u
              ∙ sym (push_all_append (filled out next) (g (get_or xs i 0)) (flat g (drop (i + 1) xs)))
              ∙ (rw (left_step xs i 0 h) at inv.wrote);
        }

-- where two ways of visiting an id meet, what is held and the next place are known by equations
pub going_at : {f : ℕ → Answer} {g : ℕ → List ℕ} {xs out₀ out out' : List ℕ} {used next next' i : ℕ} → out ≡ out' → next ≡ next'
    → Going f g xs out₀ used out' next' i → Going f g xs out₀ used out next i
going_at a b v = rw (a, b) v

-- the list xs that was read is the one that the definition speaks of
module _ (x : Tables) (d id : ℕ) {xs : List ℕ} {w : Result ℕ Refusal} {out : List ℕ} {p : Filled} where
  pub block_visited : xs ≡ operations x id
      → Visited w out p (each (operation_depth (region_depth d x) x) xs) (flat (operation_order (region_order d x) x) xs)
      → Visited w out p (block_depth (region_depth d x) x id) (block_order (region_order d x) x id)
  unfolding block_depth block_order
  block_visited e v = rw e at v

  pub operation_visited : {q : Filled} → q ≡ push p id → xs ≡ regions x id
      → Visited w out q (each (region_depth d x id) xs) (flat (region_order d x) xs)
      → Visited w out p (operation_depth (region_depth d x) x id) (operation_order (region_order d x) x id)
  unfolding operation_depth operation_order
  operation_visited h e v = let u = rw (h, e) at v in record { answer = u.answer; reached = u.reached }

  pub region_visited : (owner : ℕ) → (d ≡ 0 → ⊥) → xs ≡ blocks x id
      → Visited w out p (each (block_depth (region_depth (d - 1) x) x) xs) (flat (block_order (region_order (d - 1) x) x) xs)
      → Visited w out p (region_depth d x owner id) (region_order d x id)
  unfolding region_depth region_order
  region_visited owner h e v =
      let s : suc (d - 1) ≡ d = omega (arith, h) in
      subst (λ (z : ℕ). Visited w out p (region_depth z x owner id) (region_order z x id)) s (rw e at v)

-- an operation whose span of regions is empty: its id is all that is written
pub leaf_visited : (x : Tables) (d id : ℕ) {s : Span} {out : List ℕ} {m : ℕ} {p : Filled} → filled out m ≡ push p id → s ≡ regions_span x id → s.len ≡ 0
    → Visited (Ok m) out p (operation_depth (region_depth d x) x id) (operation_order (region_order d x) x id)
unfolding regions_in
leaf_visited x d id h e z =
    let r : [] ≡ regions x id = rw (← e, z) in
    operation_visited x d id h r (record { answer = refl; reached = refl })

-- no depth is left: a region without blocks passes, and any other is refused
module _ (x : Tables) (d owner id : ℕ) {xs : List ℕ} (z : d ≡ 0) (e : xs ≡ blocks x id) where
  pub region_passed : (out : List ℕ) (used : ℕ) → length xs ≡ 0 → Visited (Ok used) out (filled out used) (region_depth d x owner id) (region_order d x id)
  unfolding region_depth region_order
  region_passed out used h =
      let q : blocks x id ≡ [] = sym e ∙ left_end xs 0 0 (omega arith) in
      record { answer = rw (z, q); reached = rw z }

  opens_some : (js : List ℕ) → (length js ≡ 0 → ⊥) → Err (TooDeep owner) ≡ opens owner js
  opens_some [] h = absurd (h refl)
  opens_some (j ∷ js) h = refl

  pub region_refused : {out : List ℕ} {p : Filled} → (length xs ≡ 0 → ⊥) → Visited (Err (TooDeep owner)) out p (region_depth d x owner id) (region_order d x id)
  unfolding region_depth
  region_refused h = record { answer = rw z (opens_some (blocks x id) (λ q. h (ap length e ∙ q))); reached = tt }

-- as many functions as count and are there
pub functions_counted : (f : List ℕ) (n : Counts) → length (functions_in f n) ≡ min n.functions (length f)
unfolding functions_in
functions_counted f n = length-take n.functions f
