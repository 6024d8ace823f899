-- Tests as the code makes them and as the definitions have them, and what a claim is judged by. Assumes nothing.
use mathlib.Core.Path.{◌≡◌, refl, ap}
use mathlib.Core.Bool.{◌&&◌, and_assoc}
use Prim.Native.Nat.{ℕ, ◌+◌}
use lib.Dec.{ltb, leb}
use Rattle.std.specs.Prelude.{Option, Some, None}
use Rattle.tables.specs.Layout.{result_types_in, operands_in, regions_in, arguments_in, operations_in}
use Rattle.tables.specs.Sizes.{opcodes}
use Rattle.tables.specs.Tables.{Tables, opcode, result_types_span, operands_span, regions_span, attributes_span, arguments_span, operations_span}
use Rattle.tables.specs.declared.Claim.{Claim}
use Rattle.ranges.specs.Entry.{good_claim, good_operation, good_block}
use Rattle.ranges.specs.Part.{good_list}

-- a claim is judged by the number of operations alone
pub claim_same : (x y : Tables) → x.counts.operations ≡ y.counts.operations → (c : Option Claim) → good_claim x c ≡ good_claim y c
claim_same x y e None = refl
claim_same x y e (Some c) = ap (ltb c.operation) e

-- lists judged one by one, each whole and then in range
pub block_tests : (x : Tables) (j : ℕ)
    → (good_list x.l (arguments_span x j) x.counts.values && good_list x.l (operations_span x j) x.counts.operations) ≡ good_block x j
unfolding good_block arguments_in operations_in
block_tests x j = simp and_assoc

pub operation_tests : (x : Tables) (i : ℕ)
    → (ltb (opcode x i) opcodes
    && good_list x.l (result_types_span x i) x.counts.types
    && good_list x.l (operands_span x i) x.counts.values
    && good_list x.l (regions_span x i) x.counts.regions
    && leb ((attributes_span x i).start + (attributes_span x i).len) x.counts.attributes)
    ≡ good_operation x i
unfolding good_operation result_types_in operands_in regions_in
operation_tests x i = simp and_assoc
