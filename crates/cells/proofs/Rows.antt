-- Cells in rows of a fixed width: an index past the end is as good as the length, two cells of different rows or columns stand apart,
-- and a write leaves every other cell as it was. Over the width. Assumes nothing.
use mathlib.Core.Path.{◌≡◌, refl, sym, ap, ◌∙◌}
use mathlib.Core.List.{List}
use mathlib.Core.Logic.{◌⊎◌, inl, inr, ⊎_elim}
use mathlib.Core.Bool.{Bool, true, false, ◌&&◌, and-eq-true_iff}
use Prim.Native.Nat.{ℕ, suc, ◌+◌, ◌-◌, ◌*◌, ◌/◌, ◌%◌, ◌≤◌, ◌<◌, min}
use native.Mathlib.Nat.{div-lt_iff_lt-mul, le-div_iff_mul-le, suc-mul}
use native.Mathlib.Omega.{arith}
use lib.Arith.{digits_div, digits_mod}
use lib.Dec.{ltb, leb}
use lib.ListN.{length, get_or, set, drop, get_or-eq_default, drop_of_length-le}
use lib.Seq.{get_or-set_same, get_or-set_other, set_out}
use borrow.Author.Tests.{ltb-true, ltb-false, leb-true}
use Rattle.cells.specs.Cell.{cell, put_cell}

-- a number is below another, or not
pub lt_or_ge : (a b : ℕ) → (a < b) ⊎ (b ≤ a)
lt_or_ge a b = by_test (ltb a b) refl
  where
    by_test : (t : Bool) → ltb a b ≡ t → (a < b) ⊎ (b ≤ a)
    by_test true e = inl (ltb-true a b e)
    by_test false e = inr (ltb-false a b e)

-- row i of w cells, among n cells
module _ (n : ℕ) {w i : ℕ} (p : 0 < w) where
  pub row_past : n / w < i → n < i * w
  row_past h = (div-lt_iff_lt-mul p).0 h

  pub row_within : i ≤ n / w → i * w ≤ n
  row_within h = (le-div_iff_mul-le p).0 h

  pub row_whole : i < n / w → i * w + w ≤ n
  row_whole h = let e : suc i * w ≤ n = (le-div_iff_mul-le p).0 h in let m = suc-mul i w in omega arith

-- c cells from column j on, in a row that stands whole
pub cells_whole : (n w i j c : ℕ) → (ltb j w && (leb c (w - j) && ltb i (n / w))) ≡ true → (j < w) × (i * w + j + c ≤ n)
cells_whole n w i j c e =
    let h = (and-eq-true_iff (ltb j w) (leb c (w - j) && ltb i (n / w))).0 e in
    let k = (and-eq-true_iff (leb c (w - j)) (ltb i (n / w))).0 h.1 in
    let below : j < w = ltb-true j w h.0 in
    let room : c ≤ w - j = leb-true c (w - j) k.0 in
    let whole : i * w + w ≤ n = row_whole n {w = w} {i = i} (omega arith) (ltb-true i (n / w) k.1) in
    (below, omega arith)

-- an index cut at the length reads and writes the same
module _ (xs : List ℕ) (k : ℕ) where
  pub at_min : get_or xs (min k (length xs)) 0 ≡ get_or xs k 0
  at_min = ⊎_elim
      (λ h. let e : min k (length xs) ≡ k = omega arith in ap (λ (j : ℕ). get_or xs j 0) e)
      (λ h. let e : min k (length xs) ≡ length xs = omega arith in
      ap (λ (j : ℕ). get_or xs j 0) e ∙ get_or-eq_default xs 0 (omega arith) ∙ sym (get_or-eq_default xs 0 h))
      (lt_or_ge k (length xs))

  pub put_min : (x : ℕ) → set xs (min k (length xs)) x ≡ set xs k x
  put_min x = ⊎_elim
      (λ h. let e : min k (length xs) ≡ k = omega arith in ap (λ (j : ℕ). set xs j x) e)
      (λ h. let e : min k (length xs) ≡ length xs = omega arith in
      ap (λ (j : ℕ). set xs j x) e ∙ set_out xs (length xs) x (omega arith) ∙ sym (set_out xs k x h))
      (lt_or_ge k (length xs))

  pub drop_min : drop (min k (length xs)) xs ≡ drop k xs
  drop_min = ⊎_elim
      (λ h. let e : min k (length xs) ≡ k = omega arith in ap (λ (j : ℕ). drop j xs) e)
      (λ h. let e : min k (length xs) ≡ length xs = omega arith in
      ap (λ (j : ℕ). drop j xs) e ∙ drop_of_length-le xs {i = length xs} (omega arith) ∙ sym (drop_of_length-le xs h))
      (lt_or_ge k (length xs))

-- one place is one row and one column
module _ (w i j i' j' : ℕ) (h : j < w) (h' : j' < w) (e : i * w + j ≡ i' * w + j') where
  pub same_row : i ≡ i'
  same_row = sym (digits_div i h) ∙ ap (λ (k : ℕ). k / w) e ∙ digits_div i' h'

  pub same_column : j ≡ j'
  same_column = sym (digits_mod i h) ∙ ap (λ (k : ℕ). k % w) e ∙ digits_mod i' h'

-- what a write at row i, column j leaves
module _ (w : ℕ) (xs : List ℕ) (i j x : ℕ) where
  pub put_here : i * w + j < length xs → cell w (put_cell w xs i j x) i j ≡ x
  put_here h = get_or-set_same xs (i * w + j) x 0 h

  module _ (i' j' : ℕ) (h : j < w) (h' : j' < w) where
    pub other_row : (i' ≡ i → ⊥) → cell w (put_cell w xs i j x) i' j' ≡ cell w xs i' j'
    other_row f = get_or-set_other xs (i * w + j) (i' * w + j') x 0 (λ e. f (same_row w i' j' i j h' h e))

    pub other_column : (j' ≡ j → ⊥) → cell w (put_cell w xs i j x) i' j' ≡ cell w xs i' j'
    other_column f = get_or-set_other xs (i * w + j) (i' * w + j') x 0 (λ e. f (same_column w i' j' i j h' h e))
