-- What the lines keep is what code 1 asks of each entry, but for its ids. Assumes nothing.
use Prim.Native.Nat.{ℕ, ◌+◌, ◌≤◌}
use native.Mathlib.Omega.{arith}
use lib.ListN.{length}
use Rattle.tables.specs.Tables.{Tables}
use Rattle.ranges.specs.Range.{sum, listed_by_operation, listed_by_attribute, listed_by_block, listed_by_region, before_regions}
use Rattle.reading.specs.Formed.{Formed}
use Rattle.reading.proofs.Rows.{row, sum_same, table_stands}
use Rattle.reading.proofs.Types.{TypeHeld, type_good}
use Rattle.reading.proofs.Values.{ValueHeld, flag_good}
use Rattle.reading.proofs.Operations.{OperationHeld, by_operation, opcode_good, result_types_good, operands_good, regions_good, attributes_good, operation_listed}
use Rattle.reading.proofs.Attributes.{AttributeHeld, by_attribute, attribute_good, attribute_listed}
use Rattle.reading.proofs.Blocks.{BlockHeld, by_block, RegionHeld, by_region, arguments_good, operations_good, block_listed, blocks_good, region_listed}
use Rattle.reading.proofs.Held.{Held}

module _ (e : ℕ) (x : Tables) (h : Held e x) where
  within_l : e ≤ length x.l
  within_l = omega (arith, h.l, h.fits)

  entries_held : before_regions x + sum (listed_by_region x) x.counts.regions ≤ 8192
  entries_held =
      let o = sum_same (listed_by_operation x) (λ i. by_operation (row 16 x.o i)) x.counts.operations (operation_listed x) in
      let a = sum_same (listed_by_attribute x) (λ k. by_attribute (row 8 x.a k)) x.counts.attributes (attribute_listed x) in
      let b = sum_same (listed_by_block x) (λ j. by_block (row 4 x.b j)) x.counts.blocks (block_listed x) in
      let r = sum_same (listed_by_region x) (λ k. by_region (row 2 x.r k)) x.counts.regions (region_listed x) in
      omega (arith, h.listed, h.fits, o, a, b, r)

  pub formed : Formed x
  formed = record {
    types_stand = table_stands 16 1024 TypeHeld x.t x.counts.types h.t;
    values_stand = table_stands 4 4096 ValueHeld x.v x.counts.values h.v;
    operations_stand = table_stands 16 2048 (OperationHeld e x.counts.attributes) x.o x.counts.operations h.o;
    attributes_stand = table_stands 8 4096 (AttributeHeld x.l e) x.a x.counts.attributes h.a;
    blocks_stand = table_stands 4 512 (BlockHeld e) x.b x.counts.blocks h.b;
    regions_stand = table_stands 2 512 (RegionHeld e) x.r x.counts.regions h.r;
    functions_stand = table_stands 1 64 (λ _. Unit {0}) x.f x.counts.functions h.f;
    types_good = λ i k. type_good x i k (h.t.rows i k);
    flags_good = λ v k. omega (arith, flag_good x v k (h.v.rows v k));
    opcodes_known = λ i k. opcode_good x e within_l i k (h.o.rows i k);
    attributes_good = λ i k. attribute_good x i k e within_l (h.a.rows i k);
    result_types_within = λ i k. result_types_good x e within_l i k (h.o.rows i k);
    operands_within = λ i k. operands_good x e within_l i k (h.o.rows i k);
    regions_within = λ i k. regions_good x e within_l i k (h.o.rows i k);
    arguments_within = λ j k. arguments_good x e within_l j k (h.b.rows j k);
    operations_within = λ j k. operations_good x e within_l j k (h.b.rows j k);
    blocks_within = λ j k. blocks_good x j k e within_l (h.r.rows j k);
    attributes_within = λ i k. omega (arith, attributes_good x e within_l i k (h.o.rows i k));
    entries_fit = omega (arith, entries_held);
  }
