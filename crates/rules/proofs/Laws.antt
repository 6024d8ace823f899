-- An operation's rules read types, values, operations, attributes, list entries and the sheet alone. Assumes nothing.
use Prim.Native.Nat.{ℕ}
use mathlib.Core.Path.{◌≡◌, refl, ap}
use mathlib.Core.List.{List, []}
use Rattle.tables.specs.Answer.{and_then}
use Rattle.tables.specs.Tables.{Tables, lent, opcode}
use Rattle.rules_small.specs.Memory.{make_view, alloca}
use Rattle.rules_small.specs.Power.{f_pow_i}
use Rattle.rules_small.specs.Rounding.{f_to_i, f_to_f, add_f, exp, flushed}
use Rattle.rules_small.specs.Token.{tokens}
use Rattle.rules.specs.Operation.{arm_of, arm_rule, judged, verify_operation, Arm, Shape, Atomic, Assumed, MakeView, Allocation, Power, Mma, Part, ToInteger, ToFloat, Sum, Exponential, Token, View, Free}
use Rattle.lookups.specs.Verdict.{Verdict}

-- the tables that a rule reads
abbrev pub bare : Tables → Tables
bare x = lent x.t x.v x.o x.a [] [] [] x.l x.counts

module _ (version : ℕ) (sheet : List ℕ) (x : Tables) where
  arm_bare : (i : ℕ) (arm : Arm) → arm_rule version sheet (bare x) i arm ≡ arm_rule version sheet x i arm
  unfolding arm_rule make_view alloca f_pow_i f_to_i f_to_f add_f exp tokens
  arm_bare i Shape = refl
  arm_bare i Atomic = refl
  arm_bare i Assumed = refl
  arm_bare i MakeView = refl
  arm_bare i Allocation = refl
  arm_bare i Power = refl
  arm_bare i Mma = refl
  arm_bare i Part = refl
  arm_bare i ToInteger = refl
  arm_bare i ToFloat = refl
  arm_bare i Sum = refl
  arm_bare i Exponential = refl
  arm_bare i Token = refl
  arm_bare i View = refl
  arm_bare i Free = refl

  pub operation_bare : (i : ℕ) → verify_operation version sheet (bare x) i ≡ verify_operation version sheet x i
  unfolding verify_operation flushed
  operation_bare i = ap (λ (r : Verdict). and_then (judged i r) (judged i (flushed sheet x i))) (arm_bare i (arm_of (opcode x i)))
