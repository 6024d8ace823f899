-- Distinct numbers below n are at most n, and what is live is such a list of values. Assumes nothing.
use Prim.Native.Nat.{ℕ, zero, suc, ◌+◌, ◌<◌, ◌≤◌}
use native.Mathlib.Omega.{arith}
use mathlib.Core.Path.{◌≡◌, refl}
use mathlib.Core.Bool.{Bool, true, false, cond}
use mathlib.Core.List.{List, [], ◌∷◌, ◌++◌}
use lib.ListN.{length}
use lib.Dec.{eqb}
use borrow.Author.Tests.{ne_eqb, eqb-true, eqb-false}
use Rattle.cells.specs.Lists.{count}
use Rattle.tables.specs.Tables.{Tables, arguments}
use Rattle.nesting.specs.In.{In, here, later}
use Rattle.nesting.specs.Shape.{Visit, whole_visits}
use Rattle.nesting.specs.Live.{result_values, valued}
use Rattle.nesting.specs.Passed.{Apart, Single}
use Rattle.nesting.specs.Fits.{Fits, FitsAt}
use Rattle.nesting.proofs.Lists.{in_flat, in_below}
use Rattle.nesting.proofs.Counts.{count_in}
use Rattle.nesting.proofs.Places.{block_in, value_of_lem}
use Rattle.nesting.proofs.Walked.{All, all_append, Brings, whole_all}
use Rattle.nesting.proofs.Distinct.{distinct_count}
use Rattle.nesting.proofs.Live.{result_of, after_distinct, live_distinct}

-- f 0 and so on up to f (n - 1)
abbrev sum_to : ℕ → (ℕ → ℕ) → ℕ
sum_to zero f = 0
sum_to (suc n) f = sum_to n f + f n

abbrev hit : ℕ → ℕ → ℕ
hit v k = cond (eqb v k) 1 0

sum_none : (n : ℕ) → sum_to n (λ k. count k []) ≡ 0
sum_none zero = refl
sum_none (suc n) = omega (arith, sum_none n)

sum_add : (n : ℕ) (f g : ℕ → ℕ) → sum_to n (λ k. f k + g k) ≡ sum_to n f + sum_to n g
sum_add zero f g = refl
sum_add (suc n) f g = omega (arith, sum_add n f g)

sum_most : (n : ℕ) (f : ℕ → ℕ) → ((k : ℕ) → f k ≤ 1) → sum_to n f ≤ n
sum_most zero f h = omega arith
sum_most (suc n) f h = omega (arith, sum_most n f h, h n)

hit_past : (v n : ℕ) → n ≤ v → sum_to n (hit v) ≡ 0
hit_past v zero h = refl
hit_past v (suc n) h = rw (ne_eqb v n (λ e. omega arith)) (omega (arith, hit_past v n (omega arith)))

hit_once : (v n : ℕ) → v < n → sum_to n (hit v) ≡ 1
hit_once v zero h = absurd (omega arith)
hit_once v (suc n) h = go (eqb v n) refl (hit_once v n)
  where
    go : (b : Bool) → eqb v n ≡ b → (v < n → sum_to n (hit v) ≡ 1) → sum_to n (hit v) + cond (eqb v n) 1 0 ≡ 1
    go true e r = rw e (omega (arith, hit_past v n (omega (arith, eqb-true v n e))))
    go false e r = rw e (omega (arith, r (omega (arith, eqb-false v n e))))

length_sum : (m : ℕ) (xs : List ℕ) → All (λ v. v < m) xs → length xs ≡ sum_to m (λ k. count k xs)
length_sum m [] h = omega (arith, sum_none m)
length_sum m (v ∷ xs) h =
    let r = length_sum m xs (λ w i. h w (later i)) in
    omega (arith, sum_add m (hit v) (λ k. count k xs), hit_once v m (h v here))

pub few : (n : ℕ) (vs : List ℕ) → Fits n vs → length vs ≤ n
few n vs f = omega (arith, length_sum n vs f.values, sum_most n (λ k. count k vs) f.once)

-- all that becomes live is a value
brings_values : (x : Tables) → Single x → Brings (λ v. v < x.counts.values) (valued x)
unfolding valued
brings_values x g = record {
  arguments = λ j v m. g.in_range v (count_in (in_flat (arguments x) (in_below x.counts.blocks j (block_in x j v m)) m));
  results = result;
  inner = result;
}
  where
    result : (i v : ℕ) → In v (result_values x i) → v < x.counts.values
    result i v m = let r = result_of x i v m in (value_of_lem x i r.index v r.value).1

pub fits_at : (x : Tables) → Apart x → Single x → (u : Visit ℕ) → In u (whole_visits (valued x)) → FitsAt (Fits x.counts.values) (valued x) u
unfolding valued
fits_at x a g u h = record { live = record { once = distinct_count (live_distinct x g a u h); values = live }; results = grown; inner = grown }
  where
    live : All (λ v. v < x.counts.values) u.live
    live = whole_all (λ v. v < x.counts.values) (valued x) (brings_values x g) u h

    grown : Fits x.counts.values (u.live ++ result_values x u.op)
    grown = record {
      once = distinct_count (after_distinct x g a u h);
      values = all_append (λ v. v < x.counts.values) u.live (result_values x u.op) live ((brings_values x g).results u.op);
    }
