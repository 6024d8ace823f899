-- The operands that Insert and Extract take for indices: whether they are as many as the dims, and then each of them. Assumes nothing.
use Prim.Native.Nat.{ℕ, zero, suc, ◌+◌, ◌<◌, ◌≤◌}
use native.Mathlib.Omega.{arith}
use mathlib.Core.Path.{◌≡◌}
use mathlib.Core.Bool.{Bool, true, not}
use mathlib.Core.List.{List}
use lib.ListN.{length, drop, get_or, drop_of_length-le}
use lib.Seq.{drop-cons}
use borrow.Author.Tests.{eq-eqb, ne_eqb, lt-ltb}
use Rattle.std.specs.List.{list_any}
use Rattle.cells.specs.Lists.{from}
use Rattle.tables.specs.Layout.{operands_in, value_type_in}
use Rattle.tables.specs.declared.Counts.{Counts}
use Rattle.tiles.specs.Tile.{tile_in}
use Rattle.tiles.specs.Rules.{is_index}
use Rattle.lookups.specs.Typed.{operand_type_in, operand_tile_in}
use Rattle.rules_matrix.specs.Part.{any, is_no_index, indices_differ}

module _ (t v o l sheet : List ℕ) (n : Counts) (i : ℕ) where
  -- the value is no single I32
  abbrev other : ℕ → Bool
  other x = not (is_index (tile_in t sheet n (value_type_in v n x)))

  -- operand k is the value at its place
  operand_is : (k : ℕ) → k < length (operands_in o l n i) → is_no_index t v o l sheet n i k ≡ other (get_or (operands_in o l n i) k 0)
  unfolding is_no_index operand_tile_in operand_type_in
  operand_is k h = rw (lt-ltb k (length (operands_in o l n i)) h)

  each : (offset rank : ℕ) → length (operands_in o l n i) ≡ offset + rank
      → list_any other (drop offset (operands_in o l n i)) ≡ any (is_no_index t v o l sheet n i) (from offset rank)
  each offset zero e = rw (drop_of_length-le (operands_in o l n i) (let h : length (operands_in o l n i) ≤ offset = omega (arith, e) in h))
  each offset (suc rank) e =
      let h : offset < length (operands_in o l n i) = omega (arith, e) in
      rw (drop-cons (operands_in o l n i) offset 0 h, operand_is offset h, each (suc offset) rank (omega (arith, e)))

  module _ (offset rank : ℕ) where
    pub other_count : (length (operands_in o l n i) ≡ offset + rank → ⊥) → indices_differ t v o l sheet n i offset rank ≡ true
    unfolding indices_differ
    other_count h = rw (ne_eqb (length (operands_in o l n i)) (offset + rank) h)

    pub same_count : length (operands_in o l n i) ≡ offset + rank
        → indices_differ t v o l sheet n i offset rank ≡ list_any other (drop offset (operands_in o l n i))
    unfolding indices_differ
    same_count e = rw (eq-eqb (length (operands_in o l n i)) (offset + rank) e) (rw (each offset rank e))
