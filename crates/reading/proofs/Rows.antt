-- Rows of a table: what is written as row n leaves the rows before it, and is row n. Over the width and the property. Assumes nothing.
use Prim.Native.Nat.{ℕ, zero, suc, ◌+◌, ◌*◌, ◌≤◌, ◌<◌}
use mathlib.Core.Path.{◌≡◌, refl, sym, ◌∙◌, ap, subst}
use mathlib.Core.List.{List, [], ◌∷◌, ◌++◌, append_assoc}
use mathlib.Core.Bool.{Bool, true, cond}
use mathlib.Core.Logic.{⊎_elim}
use native.Mathlib.Nat.{le_refl, mul-le-mul_right}
use native.Mathlib.Omega.{arith}
use borrow.Author.Tests.{lt-ltb, le-leb}
use lib.ListN.{length, get_or, set, take, drop}
use lib.Seq.{sets, length-sets, sets-eq, drop_at, take-append_seam, length-take-le, get_or-take, get_or-drop}
use Rattle.cells.specs.Cell.{cell, span_at}
use Rattle.cells.proofs.Parts.{entries_behind}
use Rattle.cells.proofs.Rows.{lt_or_ge}
use Rattle.tables.specs.Layout.{counted_cell, counted_span}
use Rattle.ranges.specs.Range.{sum, stands}

-- row i of a table in rows of w cells, and a property of every row that counts
abbrev pub row : ℕ → List ℕ → ℕ → List ℕ
row w xs i = take w (drop (i * w) xs)

abbrev pub Rows : ℕ → (List ℕ → Type 0) → List ℕ → ℕ → Type 0
Rows w P xs n = (i : ℕ) → i < n → P (row w xs i)

-- what the rows list together
abbrev pub total : ℕ → (List ℕ → ℕ) → List ℕ → ℕ → ℕ
total w g xs n = sum (λ i. g (row w xs i)) n

-- ---- a run of cells, written behind and written here

pub part_kept : (new xs : List ℕ) (at start len : ℕ) → start + len ≤ at → take len (drop start (sets xs at new)) ≡ take len (drop start xs)
part_kept [] xs at start len h = refl
part_kept (a ∷ new) xs at start len h =
    part_kept new (set xs at a) (suc at) start len (omega arith) ∙ entries_behind xs (record { start = start; len = len }) at a h

pub part_new : (new xs : List ℕ) (at : ℕ) → at + length new ≤ length xs → take (length new) (drop at (sets xs at new)) ≡ new
part_new new xs at h =
    ap (λ (l : List ℕ). take (length new) (drop at l)) (sets-eq new xs at h ∙ append_assoc (take at xs) new (drop (at + length new) xs))
    ∙ ap (take (length new)) (drop_at (take at xs) (new ++ drop (at + length new) xs) at (length-take-le at xs (omega arith)))
    ∙ take-append_seam new (drop (at + length new) xs)

-- ---- sums

pub sum_same : (f g : ℕ → ℕ) (n : ℕ) → ((i : ℕ) → i < n → f i ≡ g i) → sum f n ≡ sum g n
sum_same f g zero h = refl
sum_same f g (suc n) h = rw (sum_same f g n (λ i l. h i (omega arith)), h n (omega arith))

pub sum_rises : (f : ℕ → ℕ) (n i : ℕ) → i ≤ n → sum f i ≤ sum f n
sum_rises f zero i h = let e : i ≡ 0 = omega arith in rw e (omega arith)
sum_rises f (suc n) i h = ⊎_elim
    (λ l. omega (arith, sum_rises f n i (omega arith)))
    (λ (l : suc n ≤ i). let e : i ≡ suc n = omega arith in rw e (le_refl (sum f (suc n))))
    (lt_or_ge i (suc n))

-- ---- row n

module _ (w : ℕ) (xs : List ℕ) where
  pub row_at : (i j : ℕ) → j < w → get_or (row w xs i) j 0 ≡ cell w xs i j
  row_at i j h = get_or-take w (drop (i * w) xs) j 0 h ∙ get_or-drop (i * w) xs j 0

  -- what the layout reads of a row that counts
  module _ (n i : ℕ) (h : i < n) (j : ℕ) where
    pub cell_is : j < w → counted_cell n w xs i j ≡ get_or (row w xs i) j 0
    cell_is l = ap (λ (t : Bool). cond t (cell w xs i j) 0) (lt-ltb i n h) ∙ sym (row_at i j l)

    pub span_is : j + 1 < w → counted_span n w xs i j ≡ record { start = get_or (row w xs i) j 0; len = get_or (row w xs i) (j + 1) 0 }
    span_is l =
        ap (λ (t : Bool). cond t (span_at w xs i j) (record { start = 0; len = 0 })) (lt-ltb i n h)
        ∙ rw (row_at i j (omega arith), row_at i (j + 1) l)

  module _ (new : List ℕ) (n : ℕ) where
    pub row_old : (i : ℕ) → i < n → row w (sets xs (n * w) new) i ≡ row w xs i
    row_old i h = part_kept new xs (n * w) (i * w) w (omega (arith, mul-le-mul_right w h))

    module _ (e : length new ≡ w) (h : suc n * w ≤ length xs) where
      pub row_new : row w (sets xs (n * w) new) n ≡ new
      row_new = ap (λ (k : ℕ). take k (drop (n * w) (sets xs (n * w) new))) (sym e) ∙ part_new new xs (n * w) (omega arith)

      pub rows_more : (P : List ℕ → Type 0) → Rows w P xs n → P new → Rows w P (sets xs (n * w) new) (suc n)
      rows_more P f p i l = ⊎_elim
          (λ k. subst P (sym (row_old i k)) (f i k))
          (λ k. let m : n ≡ i = omega arith in subst (λ (j : ℕ). P (row w (sets xs (n * w) new) j)) m (subst P (sym row_new) p))
          (lt_or_ge i n)

      pub total_more : (g : List ℕ → ℕ) → total w g (sets xs (n * w) new) (suc n) ≡ total w g xs n + g new
      total_more g = rw (sum_same (λ i. g (row w (sets xs (n * w) new) i)) (λ i. g (row w xs i)) n (λ i l. ap g (row_old i l)), row_new)

-- ---- a table: no more rows than its size, full size in its slice, and a property of its rows

pub record Table (w size : ℕ) (P : List ℕ → Type 0) (xs : List ℕ) (n : ℕ) : Type 0 where
  pub fits : n ≤ size
  pub long : size * w ≤ length xs
  pub rows : Rows w P xs n

module _ (w size : ℕ) (P : List ℕ → Type 0) (xs : List ℕ) (n : ℕ) (t : Table w size P xs n) where
  pub row_room : n < size → suc n * w ≤ length xs
  row_room l = omega (arith, mul-le-mul_right w l, t.long)

  pub table_more : (new : List ℕ) → length new ≡ w → n < size → P new → Table w size P (sets xs (n * w) new) (suc n)
  table_more new e l p = record {
    fits = l;
    long = rw (length-sets xs (n * w) new) t.long;
    rows = rows_more w xs new n e (row_room l) P t.rows p;
  }

  pub table_later : (Q : List ℕ → Type 0) → ((r : List ℕ) → P r → Q r) → Table w size Q xs n
  table_later Q f = record { fits = t.fits; long = t.long; rows = λ i h. f (row w xs i) (t.rows i h) }

  pub table_stands : (i : ℕ) → i < n → stands size w xs i ≡ true
  table_stands i h =
      rw (
        lt-ltb i size (omega (arith, t.fits)),
        le-leb (suc i * w) (length xs) (omega (arith, t.long, mul-le-mul_right w h, mul-le-mul_right w t.fits)),
      )
