-- The operation rules (codes 11 and 12): "As in source document 000, arm by arm, same walk." `verify_operation` of verify_target.rs: the
-- match on the opcode, `arm_of` its left sides and `arm_rule` its right sides, and then the closing rule. "11 | an operation rule is broken |
-- operation, reason", "12 | a shape product leaves i64 | operation, 0".
use Rattle.std.specs.Prelude.{ℕ, cond, List, [], ◌∷◌, Ok, Err}
use Rattle.cells.specs.Lists.{mem}
use Rattle.tables.specs.Tables.{Tables, opcode}
use Rattle.tables.specs.Answer.{and_then, each, Answer}
use Rattle.tables.specs.declared.Refusal.TheVariants.{RuleBroken, ProductLeaves}
use Rattle.rules_shape.specs.Arm.{shape_arm}
use Rattle.rules_atomic.specs.Arm.{atomic_arm}
use Rattle.rules_assume.specs.Assume.{assume_arm}
use Rattle.rules_small.specs.Memory.{make_view as make_view_arm, alloca as alloca_arm}
use Rattle.rules_small.specs.Power.{f_pow_i as f_pow_iarm}
use Rattle.rules_matrix.specs.Mma.{mma_arm}
use Rattle.rules_matrix.specs.Part.{part_arm}
use Rattle.rules_small.specs.Rounding.{f_to_i as f_to_iarm, f_to_f as f_to_farm, add_f as add_farm, exp as exp_arm, flushed}
use Rattle.rules_small.specs.Token.{tokens as tokens_arm}
use Rattle.rules_view.specs.View.{view_arm}
use Rattle.rules.specs.Opcode.{bitcast, reshape, broadcast, permute, pack, unpack, atomic_rmw, atomic_cas, assume, make_tensor_view, make_partition_view, make_gather_scatter_view, make_strided_view, alloca, f_pow_i, mma_f, mma_i, mma_fscaled, insert, extract, f_to_i, f_to_f, add_f, sub_f, mul_f, fma, exp, tan_h, gdc_launch_dependents_tko, gdc_wait_tko, memory_fence_alias_tko, load_view, store_view, atomic_red_view}
use Rattle.lookups.specs.Verdict.{Verdict}
use Rattle.lookups.specs.declared.Fault.TheVariants.{Broken, Leaves}

-- the arms of the match on the opcode, in its order; the last is that of an opcode with no rule of its own
pub data Arm : Type 0 where
  Shape Atomic Assumed MakeView Allocation Power Mma Part ToInteger ToFloat Sum Exponential Token View Free : Arm

-- which opcodes share an arm, in the Rust's order; an opcode with no rule of its own is free
unfoldable pub arm_of : ℕ → Arm
arm_of code =
    cond (mem code (bitcast ∷ reshape ∷ broadcast ∷ permute ∷ pack ∷ unpack ∷ [])) Shape
    (cond (mem code (atomic_rmw ∷ atomic_cas ∷ [])) Atomic
    (cond (mem code (assume ∷ [])) Assumed
    (cond (mem code (make_tensor_view ∷ make_partition_view ∷ make_gather_scatter_view ∷ make_strided_view ∷ [])) MakeView
    (cond (mem code (alloca ∷ [])) Allocation
    (cond (mem code (f_pow_i ∷ [])) Power
    (cond (mem code (mma_f ∷ mma_i ∷ mma_fscaled ∷ [])) Mma
    (cond (mem code (insert ∷ extract ∷ [])) Part
    (cond (mem code (f_to_i ∷ [])) ToInteger
    (cond (mem code (f_to_f ∷ [])) ToFloat
    (cond (mem code (add_f ∷ sub_f ∷ mul_f ∷ fma ∷ [])) Sum
    (cond (mem code (exp ∷ tan_h ∷ [])) Exponential
    (cond (mem code (gdc_launch_dependents_tko ∷ gdc_wait_tko ∷ memory_fence_alias_tko ∷ [])) Token
    (cond (mem code (load_view ∷ store_view ∷ atomic_red_view ∷ [])) View
    Free)))))))))))))

-- what an arm asks of operation i; the version is the target's minor one
unfoldable pub arm_rule : ℕ → List ℕ → Tables → ℕ → Arm → Verdict
arm_rule version sheet x i Shape = shape_arm sheet x i
arm_rule version sheet x i Atomic = atomic_arm sheet x i
arm_rule version sheet x i Assumed = assume_arm sheet x i
arm_rule version sheet x i MakeView = make_view_arm x i
arm_rule version sheet x i Allocation = alloca_arm sheet x i
arm_rule version sheet x i Power = f_pow_iarm sheet x i
arm_rule version sheet x i Mma = mma_arm sheet x i
arm_rule version sheet x i Part = part_arm sheet x i
arm_rule version sheet x i ToInteger = f_to_iarm x i
arm_rule version sheet x i ToFloat = f_to_farm version sheet x i
arm_rule version sheet x i Sum = add_farm x i
arm_rule version sheet x i Exponential = exp_arm sheet x i
arm_rule version sheet x i Token = tokens_arm x i
arm_rule version sheet x i View = view_arm sheet x i
arm_rule version sheet x i Free = Ok tt

-- 11 with the reason, 12 with 0
abbrev pub judged : ℕ → Verdict → Answer
judged i (Ok tt) = Ok tt
judged i (Err (Broken reason)) = Err (RuleBroken i reason)
judged i (Err Leaves) = Err (ProductLeaves i)

-- the arm; "the closing flush_to_zero rule is 99"
unfoldable pub verify_operation : ℕ → List ℕ → Tables → ℕ → Answer
verify_operation version sheet x i =
    and_then (judged i (arm_rule version sheet x i (arm_of (opcode x i))))
    (judged i (flushed sheet x i))

-- the operations given in walk order: the first refusal
unfoldable pub rules : ℕ → List ℕ → Tables → List ℕ → Answer
rules version sheet x order = each (verify_operation version sheet x) order
