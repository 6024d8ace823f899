-- Rows of O: the opcode, where the lists stand, and the attributes, of which an `A` line adds one. Assumes nothing.
use Prim.Native.Nat.{ℕ, zero, suc, ◌+◌, ◌*◌, ◌%◌, ◌^◌, ◌≤◌, ◌<◌}
use mathlib.Core.Bool.{true}
use mathlib.Core.Path.{◌≡◌, sym, ◌∙◌, ap}
use mathlib.Core.List.{List, [], ◌∷◌, ◌++◌}
use mathlib.Core.Logic.{⊎_elim}
use native.Mathlib.Nat.{mod-le}
use native.Mathlib.Omega.{arith}
use lib.ListN.{length, get_or, set, length-append, length-set}
use borrow.Author.Tests.{le-leb}
use Rattle.cells.proofs.Rows.{lt_or_ge, other_row, other_column}
use Rattle.tables.specs.Layout.{opcode_in, result_types_span_in, operands_span_in, regions_span_in, attributes_span_in}
use Rattle.tables.specs.Tables.{Tables, opcode, result_types_span, operands_span, regions_span, attributes_span}
use Rattle.lines.specs.Line.{OperationRow}
use Rattle.stores.specs.Rows.{operation_cells}
use Rattle.stores.specs.Store.{one_attribute_more}
use Rattle.ranges.specs.Entry.{within}
use Rattle.ranges.specs.Range.{listed_by_operation}
use Rattle.reading.proofs.Rows.{row, Table, total, row_at, cell_is, span_is, sum_same}

-- e list entries and n attributes so far
pub record OperationHeld (e n : ℕ) (r : List ℕ) : Type 0 where
  pub opcode : get_or r 0 0 < 105
  pub results : get_or r 1 0 + get_or r 2 0 ≤ e
  pub operands : get_or r 3 0 + get_or r 4 0 ≤ e
  pub regions : get_or r 5 0 + get_or r 6 0 ≤ e
  pub attributes : get_or r 7 0 + get_or r 8 0 ≤ n

abbrev pub by_operation : List ℕ → ℕ
by_operation r = get_or r 2 0 + get_or r 4 0 + get_or r 6 0

pub operation_row_lem : (e n : ℕ) (w : OperationRow) → w.opcode < 105 → OperationHeld (e + length (w.results ++ w.operands ++ w.regions)) n (operation_cells e n w)
operation_row_lem e n w h =
    let k : length (w.results ++ w.operands ++ w.regions) ≡ length w.results + length w.operands + length w.regions
    = length-append (w.results ++ w.operands) w.regions ∙ ap (λ (m : ℕ). m + length w.regions) (length-append w.results w.operands) in
    record { opcode = h; results = omega arith; operands = omega arith; regions = omega arith; attributes = omega arith }

pub operation_later : (e e' n : ℕ) → e ≤ e' → (r : List ℕ) → OperationHeld e n r → OperationHeld e' n r
operation_later e e' n l r h =
    record { opcode = h.opcode; results = omega (arith, h.results); operands = omega (arith, h.operands); regions = omega (arith, h.regions); attributes = h.attributes }

-- ---- one attribute more, of operation i

set_le : (o : List ℕ) (k v : ℕ) → get_or (set o k v) k 0 ≤ v
set_le [] k v = omega arith
set_le (x ∷ xs) zero v = omega arith
set_le (x ∷ xs) (suc k) v = set_le xs k v

module _ (o : List ℕ) (m : ℕ) where
  abbrev more : List ℕ
  more = one_attribute_more o (m * 16 + 8)

  pub kept : (i j : ℕ) → j < 16 → (j ≡ 8 → ⊥) → get_or (row 16 more i) j 0 ≡ get_or (row 16 o i) j 0
  kept i j l d =
      row_at 16 more i j l ∙ other_column 16 o m 8 ((get_or o (m * 16 + 8) 0 + 1) % 2 ^ 32) i j (omega arith) l d
      ∙ sym (row_at 16 o i j l)

  one_up : (i : ℕ) → get_or (row 16 more i) 8 0 ≤ get_or (row 16 o i) 8 0 + 1
  one_up i = ⊎_elim
      (λ h. apart (λ e. omega arith))
      (λ h. ⊎_elim (λ k. apart (λ e. omega arith)) (λ k. same (omega arith)) (lt_or_ge m i))
      (lt_or_ge i m)
    where
      apart : (i ≡ m → ⊥) → get_or (row 16 more i) 8 0 ≤ get_or (row 16 o i) 8 0 + 1
      apart d =
          let e = row_at 16 more i 8 (omega arith) ∙ other_row 16 o m 8 ((get_or o (m * 16 + 8) 0 + 1) % 2 ^ 32) i 8 (omega arith) (omega arith) d ∙ sym (row_at 16 o i 8 (omega arith)) in
          omega arith

      same : i ≡ m → get_or (row 16 more i) 8 0 ≤ get_or (row 16 o i) 8 0 + 1
      same e = rw (row_at 16 more i 8 (omega arith), row_at 16 o i 8 (omega arith), e)
          (let a = set_le o (m * 16 + 8) ((get_or o (m * 16 + 8) 0 + 1) % 2 ^ 32) in
          let b = mod-le (get_or o (m * 16 + 8) 0 + 1) (2 ^ 32) in
          omega arith)

  pub one_more_row : (e n i : ℕ) → OperationHeld e n (row 16 o i) → OperationHeld e (suc n) (row 16 more i)
  one_more_row e n i h = record {
    opcode = rw (kept i 0 (omega arith) (λ d. omega arith)) h.opcode;
    results = rw (kept i 1 (omega arith) (λ d. omega arith), kept i 2 (omega arith) (λ d. omega arith)) h.results;
    operands = rw (kept i 3 (omega arith) (λ d. omega arith), kept i 4 (omega arith) (λ d. omega arith)) h.operands;
    regions = rw (kept i 5 (omega arith) (λ d. omega arith), kept i 6 (omega arith) (λ d. omega arith)) h.regions;
    attributes = rw (kept i 7 (omega arith) (λ d. omega arith)) (omega (arith, one_up i, h.attributes));
  }

  pub one_more_total : (n : ℕ) → total 16 by_operation more n ≡ total 16 by_operation o n
  one_more_total n =
      sum_same (λ i. by_operation (row 16 more i)) (λ i. by_operation (row 16 o i)) n
      (λ i h. rw (kept i 2 (omega arith) (λ d. omega arith), kept i 4 (omega arith) (λ d. omega arith), kept i 6 (omega arith) (λ d. omega arith)))

  pub one_more_table : (e n size k : ℕ) → Table 16 size (OperationHeld e n) o k → Table 16 size (OperationHeld e (suc n)) more k
  one_more_table e n size k t = record {
    fits = t.fits;
    long = rw (length-set o (m * 16 + 8) ((get_or o (m * 16 + 8) 0 + 1) % 2 ^ 32)) t.long;
    rows = λ i h. one_more_row e n i (t.rows i h);
  }

-- ---- such a row is a good entry but for its ids

module _ (x : Tables) (e : ℕ) (k : e ≤ length x.l) (i : ℕ) (h : i < x.counts.operations) (r : OperationHeld e x.counts.attributes (row 16 x.o i)) where
  pub opcode_good : opcode x i < 105
  unfolding opcode_in
  opcode_good = rw (cell_is 16 x.o x.counts.operations i h 0 (omega arith)) r.opcode

  pub result_types_good : within x (result_types_span x i) ≡ true
  unfolding result_types_span_in
  result_types_good =
      rw (span_is 16 x.o x.counts.operations i h 1 (omega arith))
      (le-leb (get_or (row 16 x.o i) 1 0 + get_or (row 16 x.o i) 2 0) (length x.l) (omega (arith, r.results)))

  pub operands_good : within x (operands_span x i) ≡ true
  unfolding operands_span_in
  operands_good =
      rw (span_is 16 x.o x.counts.operations i h 3 (omega arith))
      (le-leb (get_or (row 16 x.o i) 3 0 + get_or (row 16 x.o i) 4 0) (length x.l) (omega (arith, r.operands)))

  pub regions_good : within x (regions_span x i) ≡ true
  unfolding regions_span_in
  regions_good =
      rw (span_is 16 x.o x.counts.operations i h 5 (omega arith))
      (le-leb (get_or (row 16 x.o i) 5 0 + get_or (row 16 x.o i) 6 0) (length x.l) (omega (arith, r.regions)))

  pub attributes_good : (attributes_span x i).start + (attributes_span x i).len ≤ x.counts.attributes
  unfolding attributes_span_in
  attributes_good = rw (span_is 16 x.o x.counts.operations i h 7 (omega arith)) r.attributes

pub operation_listed : (x : Tables) (i : ℕ) → i < x.counts.operations → listed_by_operation x i ≡ by_operation (row 16 x.o i)
unfolding result_types_span_in operands_span_in regions_span_in
operation_listed x i h =
    rw (
      span_is 16 x.o x.counts.operations i h 1 (omega arith),
      span_is 16 x.o x.counts.operations i h 3 (omega arith),
      span_is 16 x.o x.counts.operations i h 5 (omega arith),
    )
