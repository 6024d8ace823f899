-- Version and architecture (codes 9 and 10): "A requirement asks version first, then architecture. The target's own comes first (id 0), then
-- every reachable operation, outer before inner, the function operation included: opcode, attributes in order, element kinds of operands,
-- then of results." "version too low; architecture not met | operation, feature".
use Rattle.std.specs.Prelude.{ℕ, cond, List, eqb, Option, Some, None, Result, Ok, Err, ⊤}
use Rattle.tables.specs.Tables.{Tables, opcode, operands, result_types, attributes, value_type, type_form, type_kind, attribute_name, attribute_form, attribute_numbers}
use Rattle.tables.specs.Answer.{and_then, each, Answer}
use Rattle.tables.specs.declared.Target.{Target}
use Rattle.tables.specs.declared.Refusal.TheVariants.{VersionLow, ArchitectureNot}
use Rattle.requirements.specs.Feature.{requirement_of}
use Rattle.requirements.specs.Met.{met_by}
use Rattle.requirements.specs.Target.{target_feature}
use Rattle.requirements.specs.Opcode.{opcode_feature}
use Rattle.requirements.specs.Kind.{kind_feature}
use Rattle.requirements.specs.Attribute.{attribute_feature}
use Rattle.requirements.specs.declared.Unmet.{Unmet}
use Rattle.requirements.specs.declared.Unmet.TheVariants as unmet

-- what operation i's feature f says
abbrev pub answered : ℕ → ℕ → Result ⊤ Unmet → Answer
answered i f (Ok tt) = Ok tt
answered i f (Err unmet.VersionLow) = Err (VersionLow i f)
answered i f (Err unmet.ArchitectureNot) = Err (ArchitectureNot i f)

unfoldable pub ask : Target → ℕ → Option ℕ → Answer
ask g i None = Ok tt
ask g i (Some f) = answered i f (met_by (requirement_of f) g.version g.sm)

-- "A view's kind is its tensor's, a pointer tile's is its pointee's, pointer attribute or not. Each kind is judged on its own."; a token has none
unfoldable pub kind_asked : Tables → ℕ → Option ℕ
kind_asked x ty = cond (eqb (type_form x ty) 0) None (kind_feature (type_kind x ty))

unfoldable pub attribute_asked : Tables → ℕ → ℕ → Option ℕ
attribute_asked x i k = attribute_feature (opcode x i) (attribute_name x k) (attribute_form x k) (attribute_numbers x k)

unfoldable pub operation_asks : Target → Tables → ℕ → Answer
operation_asks g x i =
    and_then (ask g i (opcode_feature (opcode x i)))
    (and_then (each (λ k. ask g i (attribute_asked x i k)) (attributes x i))
    (and_then (each (λ v. ask g i (kind_asked x (value_type x v))) (operands x i))
    (each (λ ty. ask g i (kind_asked x ty)) (result_types x i))))

-- the target's own, then the operations given in walk order
unfoldable pub capabilities : Target → Tables → List ℕ → Answer
capabilities g x order = and_then (ask g 0 (target_feature g.sm)) (each (operation_asks g x) order)
