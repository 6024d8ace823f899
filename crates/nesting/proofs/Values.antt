-- Numbering over live values is numbering over live places: up to the first refusal no result is missing. Assumes nothing.
use Prim.Native.Nat.{ℕ, zero, suc, ◌+◌, ◌-◌}
use native.Mathlib.Omega.{arith}
use mathlib.Core.Path.{◌≡◌, refl, ap, sym, ◌∙◌}
use mathlib.Core.Bool.{Bool, true, false, cond}
use mathlib.Core.Option.{Option, some, none}
use mathlib.Core.List.{List, [], ◌∷◌, ◌++◌, map}
use lib.ListN.{length}
use lib.Dec.{eqb}
use Rattle.cells.specs.Lists.{from, below, flat}
use Rattle.tables.specs.Sizes.{max_depth}
use Rattle.tables.specs.Tables.{Tables, regions, blocks, operations, functions, arguments, opcode, operands, result_types}
use Rattle.tables.specs.Sheet.{fixed_count_in}
use Rattle.tables.specs.Place.{position_from}
use Rattle.tables.specs.Value.{value_of}
use Rattle.tables.specs.declared.Place.{Place}
use Rattle.tables.specs.declared.Place.TheVariants.{Argument, Result}
use Rattle.tables.specs.declared.Refusal.{Refusal}
use Rattle.tables.specs.declared.Refusal.TheVariants.{NoValue}
use Rattle.nesting.specs.Shape.{Shape, visit}
use Rattle.nesting.specs.Live.{to_list, result_values, valued, nesting_of, placed, nth, value_at}
use Rattle.nesting.specs.Numbering.{Listing, fine, refused, join, collect, there, next, number, look, counted, values_there, numbers_at, numbering}
use Rattle.nesting.specs.Ask.{listings, all, of_first, fold_operation, fold_operations, fold_block, fold_region, fold_entry, fold_entries}
use Rattle.nesting.specs.Direct.{look_up, numbers_among, direct}
use Rattle.nesting.proofs.Lists.{map_append, map_map}
use Rattle.nesting.proofs.Answers.{listings_lawful, all_same, join_fine}
use Rattle.nesting.proofs.Folds.{numbering_fold}

-- reading a list by position gives the list
read_out : {A : Type 0} (f : ℕ → Option A) (xs : List A) (s : ℕ) → ((k : ℕ) → f (s + k) ≡ nth xs k)
    → map f (from s (length xs)) ≡ map some xs
read_out f [] s h = refl
read_out f (x ∷ xs) s h =
    let a : f s ≡ some x = (let e : s + 0 ≡ s = omega arith in ap f (sym e) ∙ h 0) in
    rw (a, read_out f xs (suc s) (λ k. let e : suc s + k ≡ s + suc k = omega arith in ap f e ∙ h (suc k)))

pub arguments_values : (x : Tables) (j : ℕ) → map (value_at x) (map (Argument j) (below (length (arguments x j)))) ≡ map some (arguments x j)
unfolding value_at
arguments_values x j =
    map_map (value_at x) (Argument j) (below (length (arguments x j)))
    ∙ read_out (λ (k : ℕ). value_at x (Argument j k)) (arguments x j) 0 (λ k. let e : 0 + k ≡ k = omega arith in rw e)

position_next : (v s : ℕ) (xs : List ℕ) → position_from (suc s) v xs ≡ next (position_from s v xs)
position_next v s [] = refl
position_next v s (x ∷ xs) = go (eqb x v) (position_next v (suc s) xs)
  where
    go : (b : Bool) → position_from (suc (suc s)) v xs ≡ next (position_from (suc s) v xs)
        → cond b (some (suc s)) (position_from (suc (suc s)) v xs) ≡ next (cond b (some s) (position_from (suc s) v xs))
    go true h = refl
    go false h = h

module _ (x : Tables) where
  -- every live place has a value, and these are the live values
  abbrev Held : List Place → List ℕ → Type 0
  Held ps vs = map (value_at x) ps ≡ map some vs

  held_append : (ps qs : List Place) (vs ws : List ℕ) → Held ps vs → Held qs ws → Held (ps ++ qs) (vs ++ ws)
  held_append ps qs vs ws e f = map_append (value_at x) ps qs ∙ rw (e, f) (sym (map_append some vs ws))

  number_held : (v : ℕ) (ps : List Place) (vs : List ℕ) → Held ps vs → number x v ps ≡ position_from 0 v vs
  number_held v [] [] e = refl
  number_held v [] (w ∷ vs) e = let z : ◌≡◌ {A = ℕ} 0 1 = cc in absurd (omega arith)
  number_held v (p ∷ ps) [] e = let z : ◌≡◌ {A = ℕ} 0 1 = cc in absurd (omega arith)
  number_held v (p ∷ ps) (w ∷ vs) e =
      let a : value_at x p ≡ some w = cc in
      let b : Held ps vs = cc in
      rw (a, number_held v ps vs b, position_next v 0 vs)

  look_held : (ps : List Place) (vs : List ℕ) → Held ps vs → (i k : ℕ) (ws : List ℕ) → look x ps i k ws ≡ look_up vs i k ws
  look_held ps vs e i k [] = refl
  look_held ps vs e i k (w ∷ ws) = rw (number_held w ps vs e, look_held ps vs e i (suc k) ws)

  results_listed : (i : ℕ) (ks : List ℕ) (zs : List ℕ) → collect (λ k. there (value_at x (Result i k)) (NoValue i k)) ks ≡ fine zs
      → map (value_at x) (map (Result i) ks) ≡ map some (flat (λ k. to_list (value_of x i k)) ks)
  unfolding value_at
  results_listed i [] zs e = refl
  results_listed i (k ∷ ks) zs e =
      let q = join_fine (there (value_of x i k) (NoValue i k)) (collect (λ k. there (value_of x i k) (NoValue i k)) ks) zs e in
      go (value_of x i k) q.xs q.left (results_listed i ks q.ys q.right)
    where
      go : (o : Option ℕ) (xs : List ℕ) → there o (NoValue i k) ≡ fine xs
          → map (value_at x) (map (Result i) ks) ≡ map some (flat (λ k. to_list (value_of x i k)) ks)
          → o ∷ map (value_at x) (map (Result i) ks) ≡ map some (to_list o ++ flat (λ k. to_list (value_of x i k)) ks)
      go none xs f h = let z : ◌≡◌ {A = ℕ} 0 1 = cc in absurd (omega arith)
      go (some v) xs f h = rw h

  results_held : (i : ℕ) (zs : List ℕ) → values_there x i ≡ fine zs → Held ((placed (nesting_of x)).results i) (result_values x i)
  unfolding placed nesting_of result_values
  results_held i zs e = results_listed i (below (length (result_types x i))) zs e

  arguments_held : (j : ℕ) → Held ((placed (nesting_of x)).arguments j) (arguments x j)
  unfolding placed nesting_of
  arguments_held j = arguments_values x j

-- a refusal at the end of what an operation is asked stops the walk
stops : (a b c d : Listing ℕ) (r : Refusal) → join (join a (join b (refused r))) c ≡ join (join a (join b (refused r))) d
stops (refused q) b c d r = refl
stops (fine xs) (refused q) c d r = refl
stops (fine xs) (fine ys) c d r = refl

module _ (sheet : List ℕ) (x : Tables) where
  visit_held : (ps : List Place) (vs : List ℕ) → Held x ps vs → (i : ℕ) → numbers_at sheet x (visit i ps) ≡ numbers_among sheet x (visit i vs)
  unfolding numbers_at numbers_among
  visit_held ps vs e i = rw (look_held x ps vs e i 0 (operands x i))

  -- where a result is missing nothing that follows counts
  visit_stops : (vs : List ℕ) (i : ℕ) (r : Refusal) → values_there x i ≡ refused r → (c d : Listing ℕ)
      → join (numbers_among sheet x (visit i vs)) c ≡ join (numbers_among sheet x (visit i vs)) d
  unfolding numbers_among
  visit_stops vs i r e c d =
      rw e (stops (look_up vs i 0 (operands x i)) (counted (fixed_count_in sheet (opcode x i)) i (length (result_types x i))) c d r)

  -- the two walks; what operation i brings as places
  abbrev over_places : Shape Place
  over_places = placed (nesting_of x)

  abbrev own : ℕ → List Place
  own i = over_places.results i

  module _ (inside : List Place → ℕ → Listing ℕ) (inside' : List ℕ → ℕ → Listing ℕ)
      (ih : (ps : List Place) (vs : List ℕ) → Held x ps vs → (k : ℕ) → inside ps k ≡ inside' vs k) where
    operations_held : (ps : List Place) (vs : List ℕ) → Held x ps vs → (is : List ℕ)
        → fold_operations listings ◌++◌ (numbers_at sheet x) over_places inside ps is
        ≡ fold_operations listings ◌++◌ (numbers_among sheet x) (valued x) inside' vs is
    unfolding fold_operation placed nesting_of valued
    operations_held ps vs e [] = refl
    operations_held ps vs e (i ∷ is) =
        listings_lawful.assoc (numbers_at sheet x (visit i ps)) inner rest
        ∙ ap (λ (a : Listing ℕ). join a (join inner rest)) (visit_held ps vs e i)
        ∙ go (values_there x i) refl (λ f. operations_held (ps ++ own i) (vs ++ result_values x i) f is)
        ∙ sym (listings_lawful.assoc (numbers_among sheet x (visit i vs)) inner' rest')
      where
        inner : Listing ℕ
        inner = all listings (inside (ps ++ own i)) (regions x i)

        rest : Listing ℕ
        rest = fold_operations listings ◌++◌ (numbers_at sheet x) over_places inside (ps ++ own i) is

        inner' : Listing ℕ
        inner' = all listings (inside' (vs ++ result_values x i)) (regions x i)

        rest' : Listing ℕ
        rest' = fold_operations listings ◌++◌ (numbers_among sheet x) (valued x) inside' (vs ++ result_values x i) is

        go : (a : Listing ℕ) → values_there x i ≡ a → (Held x (ps ++ own i) (vs ++ result_values x i) → rest ≡ rest')
            → join (numbers_among sheet x (visit i vs)) (join inner rest) ≡ join (numbers_among sheet x (visit i vs)) (join inner' rest')
        go (refused r) q h = visit_stops vs i r q (join inner rest) (join inner' rest')
        go (fine zs) q h =
            let f = held_append x ps (own i) vs (result_values x i) e (results_held x i zs q) in
            let b : inner ≡ inner' =
            all_same listings (inside (ps ++ own i)) (inside' (vs ++ result_values x i)) (ih (ps ++ own i) (vs ++ result_values x i) f) (regions x i) in
            ap (join (numbers_among sheet x (visit i vs))) (ap (λ (a : Listing ℕ). join a rest) b ∙ ap (join inner') (h f))

    block_held : (ps : List Place) (vs : List ℕ) → Held x ps vs → (j : ℕ)
        → fold_block listings ◌++◌ (numbers_at sheet x) over_places inside ps j ≡ fold_block listings ◌++◌ (numbers_among sheet x) (valued x) inside' vs j
    unfolding fold_block placed nesting_of valued
    block_held ps vs e j =
        operations_held (ps ++ over_places.arguments j) (vs ++ arguments x j)
        (held_append x ps (over_places.arguments j) vs (arguments x j) e (arguments_held x j)) (operations x j)

  region_held : (d : ℕ) (ps : List Place) (vs : List ℕ) → Held x ps vs → (k : ℕ)
      → fold_region listings ◌++◌ (numbers_at sheet x) over_places d ps k ≡ fold_region listings ◌++◌ (numbers_among sheet x) (valued x) d vs k
  unfolding fold_region placed nesting_of valued
  region_held zero ps vs e k = refl
  region_held (suc d) ps vs e k =
      let inside = fold_region listings ◌++◌ (numbers_at sheet x) over_places d in
      let inside' = fold_region listings ◌++◌ (numbers_among sheet x) (valued x) d in
      all_same listings (fold_block listings ◌++◌ (numbers_at sheet x) over_places inside ps)
      (fold_block listings ◌++◌ (numbers_among sheet x) (valued x) inside' vs)
      (block_held inside inside' (region_held d) ps vs e) (blocks x k)

  first_same : (f g : ℕ → Listing ℕ) → ((k : ℕ) → f k ≡ g k) → (ks : List ℕ) → of_first listings f ks ≡ of_first listings g ks
  first_same f g h [] = refl
  first_same f g h (k ∷ ks) = h k

  entry_held : (f : ℕ) → fold_entry listings ◌++◌ (numbers_at sheet x) over_places f ≡ fold_entry listings ◌++◌ (numbers_among sheet x) (valued x) f
  unfolding fold_entry placed nesting_of valued
  entry_held f =
      let inside = fold_region listings ◌++◌ (numbers_at sheet x) over_places (max_depth - 1) in
      let inside' = fold_region listings ◌++◌ (numbers_among sheet x) (valued x) (max_depth - 1) in
      let one = fold_block listings ◌++◌ (numbers_at sheet x) over_places inside [] in
      let one' = fold_block listings ◌++◌ (numbers_among sheet x) (valued x) inside' [] in
      first_same (λ k. of_first listings one (blocks x k)) (λ k. of_first listings one' (blocks x k))
      (λ k. first_same one one' (block_held inside inside' (region_held (max_depth - 1)) [] [] refl) (blocks x k)) (regions x f)

  pub direct_numbers : direct sheet x ≡ numbering sheet x
  unfolding direct fold_entries placed nesting_of valued
  direct_numbers =
      let one = fold_entry listings ◌++◌ (numbers_at sheet x) over_places in
      let one' = fold_entry listings ◌++◌ (numbers_among sheet x) (valued x) in
      sym (numbering_fold sheet x ∙ all_same listings one one' entry_held (functions x))
