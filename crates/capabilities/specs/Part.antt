-- The questions that an operation is asked: the parts of `operation_asks`.
use Rattle.std.specs.Prelude.{ℕ, ◌≡◌, List, Bool, true, false, get_or, Ok}
use Rattle.tables.specs.Tables.{Tables, value_type}
use Rattle.tables.specs.Answer.{Answer}
use Rattle.tables.specs.declared.Target.{Target}
use Rattle.requirements.specs.Kind.{kind_feature}
use Rattle.capabilities.specs.Ask.{ask, kind_asked, attribute_asked}

-- attribute k, operand v and a result of type ty, of operation i
abbrev pub attribute_asks : Target → Tables → ℕ → ℕ → Answer
attribute_asks g x i = λ k. ask g i (attribute_asked x i k)

abbrev pub operand_asks : Target → Tables → ℕ → ℕ → Answer
operand_asks g x i = λ v. ask g i (kind_asked x (value_type x v))

abbrev pub result_asks : Target → Tables → ℕ → ℕ → Answer
result_asks g x i = λ ty. ask g i (kind_asked x ty)

-- what is marked of the kinds, once for a target: it has the feature of each kind that is marked
abbrev pub Knows : Target → List Bool → Type 0
Knows g kinds = (k i : ℕ) → get_or kinds k false ≡ true → ask g i (kind_feature k) ≡ Ok tt
