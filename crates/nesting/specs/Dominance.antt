-- Dominance as `module.rs` walks it: a set of visible values that grows over functions, regions, blocks and operations.
use Rattle.std.specs.Prelude.{ℕ, suc, cond, List, [], ◌∷◌, Ok, Err}
use Rattle.cells.specs.Lists.{mem}
use Rattle.tables.specs.Tables.{Tables, operands}
use Rattle.tables.specs.Answer.{each, Answer}
use Rattle.tables.specs.declared.Refusal.TheVariants.{NotVisible}
use Rattle.nesting.specs.Shape.{Visit, whole_visits}
use Rattle.nesting.specs.Live.{valued}

-- of the operands of operation i, from place k on, the first that is not live: "an operand is not visible | operation, operand"
abbrev pub judge : List ℕ → ℕ → ℕ → List ℕ → Answer
judge live i k [] = Ok tt
judge live i k (v ∷ vs) = cond (mem v live) (judge live i (suc k) vs) (Err (NotVisible i k))

abbrev pub judged : Tables → Visit ℕ → Answer
judged x u = judge u.live u.op 0 (operands x u.op)

unfoldable pub dominance : Tables → Answer
dominance x = each (judged x) (whole_visits (valued x))
