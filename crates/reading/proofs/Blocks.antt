-- Rows of B and R: where their lists stand. Assumes nothing.
use Prim.Native.Nat.{ℕ, ◌+◌, ◌≤◌, ◌<◌}
use mathlib.Core.Bool.{true}
use mathlib.Core.Path.{◌≡◌, ap}
use mathlib.Core.List.{List, ◌++◌}
use native.Mathlib.Omega.{arith}
use lib.ListN.{length, get_or, length-append}
use borrow.Author.Tests.{le-leb}
use Rattle.cells.specs.declared.Span.{Span}
use Rattle.tables.specs.Layout.{arguments_span_in, operations_span_in, blocks_span_in}
use Rattle.tables.specs.Tables.{Tables, arguments_span, operations_span, blocks_span}
use Rattle.lines.specs.Line.{BlockRow}
use Rattle.stores.specs.Rows.{block_cells, region_cells}
use Rattle.ranges.specs.Entry.{within}
use Rattle.ranges.specs.Range.{listed_by_block, listed_by_region}
use Rattle.reading.proofs.Rows.{row, span_is}

-- e list entries so far
pub record BlockHeld (e : ℕ) (r : List ℕ) : Type 0 where
  pub arguments : get_or r 0 0 + get_or r 1 0 ≤ e
  pub operations : get_or r 2 0 + get_or r 3 0 ≤ e

abbrev pub by_block : List ℕ → ℕ
by_block r = get_or r 1 0 + get_or r 3 0

pub block_row : (e : ℕ) (w : BlockRow) → BlockHeld (e + length (w.arguments ++ w.operations)) (block_cells e w)
block_row e w = let k = length-append w.arguments w.operations in record { arguments = omega arith; operations = omega arith }

pub block_later : (e e' : ℕ) → e ≤ e' → (r : List ℕ) → BlockHeld e r → BlockHeld e' r
block_later e e' l r h = record { arguments = omega (arith, h.arguments); operations = omega (arith, h.operations) }

pub record RegionHeld (e : ℕ) (r : List ℕ) : Type 0 where
  pub blocks : get_or r 0 0 + get_or r 1 0 ≤ e

abbrev pub by_region : List ℕ → ℕ
by_region r = get_or r 1 0

pub region_row_lem : (e : ℕ) (blocks : List ℕ) → RegionHeld (e + length blocks) (region_cells e blocks)
region_row_lem e blocks = record { blocks = omega arith }

pub region_later : (e e' : ℕ) → e ≤ e' → (r : List ℕ) → RegionHeld e r → RegionHeld e' r
region_later e e' l r h = record { blocks = omega (arith, h.blocks) }

-- ---- such a row is a good entry but for its ids

module _ (x : Tables) (e : ℕ) (k : e ≤ length x.l) (j : ℕ) (h : j < x.counts.blocks) (r : BlockHeld e (row 4 x.b j)) where
  pub arguments_good : within x (arguments_span x j) ≡ true
  unfolding arguments_span_in
  arguments_good =
      rw (span_is 4 x.b x.counts.blocks j h 0 (omega arith))
      (le-leb (get_or (row 4 x.b j) 0 0 + get_or (row 4 x.b j) 1 0) (length x.l) (omega (arith, r.arguments)))

  pub operations_good : within x (operations_span x j) ≡ true
  unfolding operations_span_in
  operations_good =
      rw (span_is 4 x.b x.counts.blocks j h 2 (omega arith))
      (le-leb (get_or (row 4 x.b j) 2 0 + get_or (row 4 x.b j) 3 0) (length x.l) (omega (arith, r.operations)))

pub block_listed : (x : Tables) (j : ℕ) → j < x.counts.blocks → listed_by_block x j ≡ by_block (row 4 x.b j)
unfolding arguments_span_in operations_span_in
block_listed x j h =
    rw (span_is 4 x.b x.counts.blocks j h 0 (omega arith), span_is 4 x.b x.counts.blocks j h 2 (omega arith))

module _ (x : Tables) (k : ℕ) (h : k < x.counts.regions) where
  pub blocks_good : (e : ℕ) → e ≤ length x.l → RegionHeld e (row 2 x.r k) → within x (blocks_span x k) ≡ true
  unfolding blocks_span_in
  blocks_good e l r =
      rw (span_is 2 x.r x.counts.regions k h 0 (omega arith))
      (le-leb (get_or (row 2 x.r k) 0 0 + get_or (row 2 x.r k) 1 0) (length x.l) (omega (arith, r.blocks)))

  pub region_listed : listed_by_region x k ≡ by_region (row 2 x.r k)
  unfolding blocks_span_in
  region_listed = ap (λ (s : Span). s.len) (span_is 2 x.r x.counts.regions k h 0 (omega arith))
