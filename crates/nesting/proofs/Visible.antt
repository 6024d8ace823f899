-- A value has a number at a visit of an entry walk exactly when it is visible there. Assumes nothing.
use Prim.Native.Nat.{ℕ, ◌≤◌}
use mathlib.Core.Path.{◌≡◌, refl, ap, sym, ◌∙◌, subst}
use mathlib.Core.Bool.{Bool, true, false, ◌||◌, cond}
use mathlib.Core.Option.{Option, some, none}
use mathlib.Core.List.{List, [], ◌∷◌, ◌++◌, map}
use lib.ListN.{length}
use lib.Dec.{eqb}
use Rattle.cells.specs.Lists.{below, flat, count, mem}
use Rattle.tables.specs.Tables.{Tables, arguments, result_types}
use Rattle.tables.specs.declared.Place.{Place}
use Rattle.tables.specs.declared.Place.TheVariants.{Argument, Result}
use Rattle.nesting.specs.In.{In, here, later}
use Rattle.nesting.specs.Shape.{Visit, visit, whole_visits, entries_visits}
use Rattle.nesting.specs.Live.{to_list, result_values, valued, nesting_of, placed, value_at, values_at}
use Rattle.nesting.specs.Numbering.{is, next, number}
use Rattle.nesting.specs.Sentence.{Stand, func, under, stands}
use Rattle.nesting.specs.Means.{given, Numbered}
use Rattle.nesting.specs.Passed.{Apart, Single}
use Rattle.nesting.proofs.Lists.{in_none, in_single, flat_append, flat_map, from_flat}
use Rattle.nesting.proofs.Walked.{entry_in}
use Rattle.nesting.proofs.Stands.{visit_at, live_at, whole_stands, live_visible}
use Rattle.nesting.proofs.Values.{arguments_values}
use Rattle.nesting.proofs.Distinct.{distinct_count}
use Rattle.nesting.proofs.Live.{live_distinct}
use Rattle.nesting.proofs.Carry.{carry, Carries, whole_carry}

-- ---- the walk over values is the walk over places, read by their values

flat_some : (vs : List ℕ) → flat to_list (map some vs) ≡ vs
flat_some [] = refl
flat_some (v ∷ vs) = ap (λ (r : List ℕ). v ∷ r) (flat_some vs)

arguments_at : (x : Tables) (j : ℕ) → arguments x j ≡ values_at x (map (Argument j) (below (length (arguments x j))))
arguments_at x j =
    sym (flat_some (arguments x j))
    ∙ ap (flat to_list) (sym (arguments_values x j))
    ∙ flat_map to_list (value_at x) (map (Argument j) (below (length (arguments x j))))

results_at : (x : Tables) (i : ℕ) → result_values x i ≡ values_at x (map (Result i) (below (length (result_types x i))))
unfolding result_values value_at
results_at x i = sym (flat_map (λ p. to_list (value_at x p)) (Result i) (below (length (result_types x i))))

values_carry : (x : Tables) → Carries (values_at x) (placed (nesting_of x)) (valued x)
unfolding placed nesting_of valued
values_carry x = record {
  nil = refl;
  append = flat_append (λ p. to_list (value_at x p));
  functions = refl;
  regions = λ i. refl;
  blocks = λ k. refl;
  operations = λ j. refl;
  arguments = arguments_at x;
  results = results_at x;
  inner = results_at x;
}

whole_values : (x : Tables) → whole_visits (valued x) ≡ map (carry (values_at x)) (whole_visits (placed (nesting_of x)))
whole_values x = whole_carry (values_at x) (placed (nesting_of x)) (valued x) (values_carry x)

in_carry : {A B : Type 0} (f : A → B) {y : A} {xs : List A} → In y xs → In (f y) (map f xs)
in_carry f here = here
in_carry f (later h) = later (in_carry f h)

-- a visit of an entry walk over places is a visit of the whole walk over values
entry_values : (x : Tables) (u : Visit Place) → In u (entries_visits (placed (nesting_of x)))
    → In (carry (values_at x) u) (whole_visits (valued x))
entry_values x u h =
    subst (In (carry (values_at x) u)) (sym (whole_values x)) (in_carry (carry (values_at x)) (entry_in (placed (nesting_of x)) u h))

pub entry_once : (x : Tables) → Apart x → Single x → (u : Visit Place) → In u (entries_visits (placed (nesting_of x))) → (v : ℕ)
    → count v (values_at x u.live) ≤ 1
entry_once x a g u h = distinct_count (live_distinct x g a (carry (values_at x) u) (entry_values x u h))

-- ---- a value among those at the live places has a number

given_next : (o : Option ℕ) → given o ≡ given (next o)
given_next none = refl
given_next (some n) = refl

mem_given : (x : Tables) (v : ℕ) (ps : List Place) → mem v (values_at x ps) ≡ given (number x v ps)
mem_given x v [] = refl
mem_given x v (p ∷ ps) = go (value_at x p) (mem_given x v ps)
  where
    pass : (b c : Bool) (o : Option ℕ) → c ≡ given o → b || c ≡ given (cond b (some 0) (next o))
    pass true c o e = refl
    pass false c o e = e ∙ given_next o

    go : (o : Option ℕ) → mem v (values_at x ps) ≡ given (number x v ps)
        → mem v (to_list o ++ values_at x ps) ≡ given (cond (is v o) (some 0) (next (number x v ps)))
    go none e = e ∙ given_next (number x v ps)
    go (some w) e = pass (eqb w v) (mem v (values_at x ps)) (number x v ps) e

module _ (x : Tables) (u : Visit Place) where
  at_stand : (p : Stand) → In p (stands x) → In (carry (values_at x) u) (visit_at x p) → Numbered x u
  at_stand (func f) m h = in_none h
  at_stand (under p j es i) m h =
      let e : carry (values_at x) u ≡ visit i (live_at x (under p j es i)) = in_single h in
      let o : u.op ≡ i = ap (λ (w : Visit ℕ). w.op) e in
      let l : values_at x u.live ≡ live_at x (under p j es i) = ap (λ (w : Visit ℕ). w.live) e in
      record {
        stand = under p j es i;
        reached = m;
        is_operation = sym o;
        operands_are = rw o;
        exactly = λ v. sym (live_visible x v (under p j es i)) ∙ ap (mem v) (sym l) ∙ mem_given x v u.live;
      }

  pub numbered : In u (entries_visits (placed (nesting_of x))) → Numbered x u
  numbered h =
      let f = from_flat (visit_at x) (stands x) (subst (In (carry (values_at x) u)) (whole_stands x) (entry_values x u h)) in
      at_stand f.parent f.listed f.holds
