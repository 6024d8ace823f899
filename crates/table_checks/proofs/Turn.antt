-- Checks in turn, with the list that is handed on. Assumes nothing.
use Prim.Native.Nat.{ℕ}
use mathlib.Core.Path.{◌≡◌}
use mathlib.Core.List.{List}
use Rattle.tables.specs.Answer.{and_then, Answer}
use Rattle.std.specs.Prelude.{Result, Ok, Err}
use Rattle.tables.specs.declared.Refusal.{Refusal}
use Rattle.table_checks.specs.Checked.{Settles}

-- the same answer and the same list under other names
pub settles_as : {w : Result ℕ Refusal} {after before : List ℕ} {a b : Answer} {xs : List ℕ} → a ≡ b → Settles w after before a xs → Settles w after before b xs
settles_as e h = rw (← e) h

-- the first of two answers refuses, or accepts
module _ (got first rest : Answer) (e : got ≡ first) where
  pub stops : {why : Refusal} → got ≡ Err why → and_then first rest ≡ Err why
  stops q = rw (← e, q)

  pub passes : got ≡ Ok tt → and_then first rest ≡ rest
  passes q = rw (← e, q)
