-- What every line that is taken keeps of the tables: rows written before it stay, and its own are as its line says. Assumes nothing.
use Prim.Native.Nat.{ℕ, suc, ◌+◌, ◌-◌, ◌*◌, ◌≤◌, ◌<◌}
use mathlib.Core.Path.{◌≡◌, refl, sym, ◌∙◌, ap, subst}
use mathlib.Core.List.{List, ◌++◌}
use native.Mathlib.Nat.{add-zero}
use native.Mathlib.Omega.{arith}
use lib.ListN.{length, set, length-set, length-append}
use lib.Seq.{sets, length-sets}
use Rattle.tables.specs.Tables.{Tables, lent}
use Rattle.tables.specs.declared.Counts.{Counts}
use Rattle.lines.specs.Line.{TypeRow, ValueRow, OperationRow, AttributeRow, BlockRow}
use Rattle.stores.specs.Rows.{type_cells, value_cells, operation_cells, attribute_cells, block_cells, region_cells}
use Rattle.stores.specs.Store.{one_attribute_more}
use Rattle.house.specs.House.{counts}
use Rattle.reading.proofs.Rows.{Table, total, total_more, row_room, table_more, table_later}
use Rattle.reading.proofs.Said.{TypeSaid, AttributeSaid}
use Rattle.reading.proofs.Types.{TypeHeld, type_width, type_row}
use Rattle.reading.proofs.Values.{ValueHeld}
use Rattle.reading.proofs.Operations.{OperationHeld, by_operation, operation_row_lem, operation_later, one_more_table, one_more_total}
use Rattle.reading.proofs.Attributes.{AttributeHeld, by_attribute, attribute_row_lem, attribute_later}
use Rattle.reading.proofs.Blocks.{BlockHeld, by_block, block_row, block_later, RegionHeld, by_region, region_row_lem, region_later}

-- e list entries in use
pub record Held (e : ℕ) (x : Tables) : Type 0 where
  pub t : Table 16 1024 TypeHeld x.t x.counts.types
  pub v : Table 4 4096 ValueHeld x.v x.counts.values
  pub o : Table 16 2048 (OperationHeld e x.counts.attributes) x.o x.counts.operations
  pub a : Table 8 4096 (AttributeHeld x.l e) x.a x.counts.attributes
  pub b : Table 4 512 (BlockHeld e) x.b x.counts.blocks
  pub r : Table 2 512 (RegionHeld e) x.r x.counts.regions
  pub f : Table 1 64 (λ _. Unit {0}) x.f x.counts.functions
  pub l : 8192 ≤ length x.l
  pub fits : e ≤ 8192
  pub listed :
      total 16 by_operation x.o x.counts.operations + total 8 by_attribute x.a x.counts.attributes
      + total 4 by_block x.b x.counts.blocks + total 2 by_region x.r x.counts.regions ≤ e

module _ (e : ℕ) (x : Tables) (h : Held e x) where
  abbrev n : Counts
  n = x.counts

  -- a line that adds no list entries
  pub none_added : Held (e + 0) x
  none_added = subst (λ (k : ℕ). Held k x) (sym (add-zero e)) h

  pub type_held : (w : TypeRow) → TypeSaid w → n.types < 1024 → length w.dims ≤ 8
      → Held e
      (lent (sets x.t (n.types * 16) (type_cells w)) x.v x.o x.a x.b x.r x.f x.l
      (counts (suc n.types) n.values n.operations n.attributes n.blocks n.regions n.functions))
  type_held w s k d = record {
    t = table_more 16 1024 TypeHeld x.t n.types h.t (type_cells w) (type_width w d) k (type_row w d s);
    v = h.v;
    o = h.o;
    a = h.a;
    b = h.b;
    r = h.r;
    f = h.f;
    l = h.l;
    fits = h.fits;
    listed = h.listed;
  }

  pub value_held : (w : ValueRow) → w.claims < 2 → n.values < 4096
      → Held e
      (lent x.t (sets x.v (n.values * 4) (value_cells w)) x.o x.a x.b x.r x.f x.l
      (counts n.types (suc n.values) n.operations n.attributes n.blocks n.regions n.functions))
  value_held w s k = record {
    t = h.t;
    v = table_more 4 4096 ValueHeld x.v n.values h.v (value_cells w) refl k s;
    o = h.o;
    a = h.a;
    b = h.b;
    r = h.r;
    f = h.f;
    l = h.l;
    fits = h.fits;
    listed = h.listed;
  }

  pub function_held : (i : ℕ) → n.functions < 64
      → Held e
      (lent x.t x.v x.o x.a x.b x.r (set x.f n.functions i) x.l
      (counts n.types n.values n.operations n.attributes n.blocks n.regions (suc n.functions)))
  function_held i k = record {
    t = h.t;
    v = h.v;
    o = h.o;
    a = h.a;
    b = h.b;
    r = h.r;
    f = record { fits = k; long = rw (length-set x.f n.functions i) h.f.long; rows = λ _ _. tt };
    l = h.l;
    fits = h.fits;
    listed = h.listed;
  }

  -- a line that adds list entries: those before it stay
  module _ (new : List ℕ) (k : e + length new ≤ 8192) where
    later_o : Table 16 2048 (OperationHeld (e + length new) n.attributes) x.o n.operations
    later_o =
        table_later 16 2048 (OperationHeld e n.attributes) x.o n.operations h.o (OperationHeld (e + length new) n.attributes)
        (operation_later e (e + length new) n.attributes (omega arith))

    later_a : Table 8 4096 (AttributeHeld (sets x.l e new) (e + length new)) x.a n.attributes
    later_a =
        table_later 8 4096 (AttributeHeld x.l e) x.a n.attributes h.a (AttributeHeld (sets x.l e new) (e + length new))
        (attribute_later x.l new e (e + length new) (omega arith))

    later_b : Table 4 512 (BlockHeld (e + length new)) x.b n.blocks
    later_b = table_later 4 512 (BlockHeld e) x.b n.blocks h.b (BlockHeld (e + length new)) (block_later e (e + length new) (omega arith))

    later_r : Table 2 512 (RegionHeld (e + length new)) x.r n.regions
    later_r = table_later 2 512 (RegionHeld e) x.r n.regions h.r (RegionHeld (e + length new)) (region_later e (e + length new) (omega arith))

    later_l : 8192 ≤ length (sets x.l e new)
    later_l = rw (length-sets x.l e new) h.l

  pub operation_held : (w : OperationRow) → w.opcode < 105 → n.operations < 2048 → e + length (w.results ++ w.operands ++ w.regions) ≤ 8192
      → Held (e + length (w.results ++ w.operands ++ w.regions))
      (lent x.t x.v (sets x.o (n.operations * 16) (operation_cells e n.attributes w)) x.a x.b x.r x.f
      (sets x.l e (w.results ++ w.operands ++ w.regions))
      (counts n.types n.values (suc n.operations) n.attributes n.blocks n.regions n.functions))
  operation_held w s k m =
      let new = w.results ++ w.operands ++ w.regions in
      record {
        t = h.t;
        v = h.v;
        o =
            table_more 16 2048 (OperationHeld (e + length new) n.attributes) x.o n.operations (later_o new m)
            (operation_cells e n.attributes w) refl k (operation_row_lem e n.attributes w s);
        a = later_a new m;
        b = later_b new m;
        r = later_r new m;
        f = h.f;
        l = later_l new m;
        fits = m;
        listed =
            let more =
            total_more 16 x.o (operation_cells e n.attributes w) n.operations refl
            (row_room 16 2048 (OperationHeld e n.attributes) x.o n.operations h.o k) by_operation in
            let len : length (w.results ++ w.operands ++ w.regions) ≡ length w.results + length w.operands + length w.regions
            = length-append (w.results ++ w.operands) w.regions ∙ ap (λ (m : ℕ). m + length w.regions) (length-append w.results w.operands) in
            omega (arith, h.listed, more, len);
      }

  pub attribute_held : (w : AttributeRow) → AttributeSaid w → n.attributes < 4096 → e + length w.numbers ≤ 8192
      → Held (e + length w.numbers)
      (lent x.t x.v (one_attribute_more x.o ((n.operations - 1) * 16 + 8)) (sets x.a (n.attributes * 8) (attribute_cells e w)) x.b x.r x.f
      (sets x.l e w.numbers)
      (counts n.types n.values n.operations (suc n.attributes) n.blocks n.regions n.functions))
  attribute_held w s k m = record {
    t = h.t;
    v = h.v;
    o = one_more_table x.o (n.operations - 1) (e + length w.numbers) n.attributes 2048 n.operations (later_o w.numbers m);
    a =
        table_more 8 4096 (AttributeHeld (sets x.l e w.numbers) (e + length w.numbers)) x.a n.attributes (later_a w.numbers m)
        (attribute_cells e w) refl k (attribute_row_lem x.l e w (omega (arith, h.l)) s);
    b = later_b w.numbers m;
    r = later_r w.numbers m;
    f = h.f;
    l = later_l w.numbers m;
    fits = m;
    listed =
        let same = one_more_total x.o (n.operations - 1) n.operations in
        let more =
        total_more 8 x.a (attribute_cells e w) n.attributes refl
        (row_room 8 4096 (AttributeHeld x.l e) x.a n.attributes h.a k) by_attribute in
        omega (arith, h.listed, same, more);
  }

  pub block_held : (w : BlockRow) → n.blocks < 512 → e + length (w.arguments ++ w.operations) ≤ 8192
      → Held (e + length (w.arguments ++ w.operations))
      (lent x.t x.v x.o x.a (sets x.b (n.blocks * 4) (block_cells e w)) x.r x.f (sets x.l e (w.arguments ++ w.operations))
      (counts n.types n.values n.operations n.attributes (suc n.blocks) n.regions n.functions))
  block_held w k m =
      let new = w.arguments ++ w.operations in
      record {
        t = h.t;
        v = h.v;
        o = later_o new m;
        a = later_a new m;
        b =
            table_more 4 512 (BlockHeld (e + length new)) x.b n.blocks (later_b new m) (block_cells e w) refl k (block_row e w);
        r = later_r new m;
        f = h.f;
        l = later_l new m;
        fits = m;
        listed =
            let more =
            total_more 4 x.b (block_cells e w) n.blocks refl (row_room 4 512 (BlockHeld e) x.b n.blocks h.b k) by_block in
            let len = length-append w.arguments w.operations in
            omega (arith, h.listed, more, len);
      }

  pub region_held : (blocks : List ℕ) → n.regions < 512 → e + length blocks ≤ 8192
      → Held (e + length blocks)
      (lent x.t x.v x.o x.a x.b (sets x.r (n.regions * 2) (region_cells e blocks)) x.f (sets x.l e blocks)
      (counts n.types n.values n.operations n.attributes n.blocks (suc n.regions) n.functions))
  region_held blocks k m = record {
    t = h.t;
    v = h.v;
    o = later_o blocks m;
    a = later_a blocks m;
    b = later_b blocks m;
    r =
        table_more 2 512 (RegionHeld (e + length blocks)) x.r n.regions (later_r blocks m) (region_cells e blocks) refl k
        (region_row_lem e blocks);
    f = h.f;
    l = later_l blocks m;
    fits = m;
    listed =
        let more =
        total_more 2 x.r (region_cells e blocks) n.regions refl (row_room 2 512 (RegionHeld e) x.r n.regions h.r k) by_region in
        omega (arith, h.listed, more);
  }
