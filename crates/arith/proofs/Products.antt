-- The product of two numbers, as the library checks it; and a product along a list, step by step.
use mathlib.Core.Path.{◌≡◌, refl, sym, ap, ◌∙◌}
use mathlib.Core.Bool.{Bool, true, false, cond, false≢true}
use mathlib.Core.List.{List, [], ◌∷◌, ◌++◌}
use Prim.Native.Nat.{ℕ, ◌+◌, ◌≤◌, ◌<◌}
use native.Mathlib.Numerals.{add-one}
use lib.IntN.{ℤ, pos}
use lib.ListN.{length, drop, get_or, drop_of_length-le}
use lib.Seq.{drop-cons}
use mir.Syntax.{w64}
use mir.Val.{SFits}
use Rattle.std.specs.Prelude.{Option, Some, None, SomeIff}
use Rattle.arith.specs.Signed.{fits_width}
use Rattle.arith.specs.Product.{held, times_of, and_then, times_all}
use Rattle.arith.proofs.Widths.{i64_fits, fits_i64}

-- ---- two numbers

-- what a checked product answers is what is held
pub held_is : (r : Option ℤ) (z : ℤ) → SomeIff r (SFits w64 z) z → r ≡ held z
unfolding held
held_is r z h = by r (fits_width 64 z) refl h
  where
    by : (r : Option ℤ) (t : Bool) → fits_width 64 z ≡ t → SomeIff r (SFits w64 z) z → r ≡ cond t (Some z) None
    by None true e h = absurd (h (record { sfits = fits_i64 z e }))
    by None false e h = refl
    by (Some x) true e h = ap Some h.1
    by (Some x) false e h = absurd (false≢true (sym e ∙ i64_fits z h.0.sfits))

-- ---- a list

module _ (xs : List ℤ) (i : ℕ) (a : ℤ) where
  all_step : i < length xs → times_all a (drop i xs) ≡ and_then (times_of a (get_or xs i (pos 0))) (λ p. times_all p (drop (i + 1) xs))
  unfolding times_all
  all_step h = rw (add-one, drop-cons xs i (pos 0) h)

  -- by what the product with the next number is
  pub all_left : {r : Option ℤ} → i < length xs → r ≡ times_of a (get_or xs i (pos 0)) → r ≡ None → times_all a (drop i xs) ≡ None
  all_left h e n = all_step h ∙ rw (sym e ∙ n)

  pub all_next : {r : Option ℤ} {p : ℤ} → i < length xs → r ≡ times_of a (get_or xs i (pos 0)) → r ≡ Some p
      → times_all a (drop i xs) ≡ times_all p (drop (i + 1) xs)
  all_next h e s = all_step h ∙ rw (sym e ∙ s)

  pub all_end : length xs ≤ i → times_all a (drop i xs) ≡ Some a
  unfolding times_all
  all_end h = rw (drop_of_length-le xs {i = i} h)

after : (t : Option ℤ) (ds ys : List ℤ) → ((p : ℤ) → times_all p (ds ++ ys) ≡ and_then (times_all p ds) (λ q. times_all q ys))
    → and_then t (λ p. times_all p (ds ++ ys)) ≡ and_then (and_then t (λ p. times_all p ds)) (λ q. times_all q ys)
after (Some p) ds ys h = h p
after None ds ys h = refl

-- two lists, one after the other
pub all_append : (a : ℤ) (xs ys : List ℤ) → times_all a (xs ++ ys) ≡ and_then (times_all a xs) (λ p. times_all p ys)
unfolding times_all
all_append a [] ys = refl
all_append a (d ∷ ds) ys = after (times_of a d) ds ys (λ p. all_append p ds ys)
