-- Numbering with the live values themselves at hand, as dominance has them: the number of an operand is its position among them.
use Rattle.std.specs.Prelude.{ℕ, suc, List, [], ◌∷◌, ◌++◌, length}
use Rattle.tables.specs.Tables.{Tables, opcode, operands, result_types}
use Rattle.tables.specs.Sheet.{fixed_count_in}
use Rattle.tables.specs.Place.{position_from}
use Rattle.tables.specs.declared.Refusal.TheVariants.{NoNumber}
use Rattle.nesting.specs.Shape.{Visit}
use Rattle.nesting.specs.Live.{valued}
use Rattle.nesting.specs.Numbering.{Listing, fine, join, found, counted, values_there}
use Rattle.nesting.specs.Ask.{listings, fold_entries}

-- the operands of operation i, from place k on
abbrev pub look_up : List ℕ → ℕ → ℕ → List ℕ → Listing ℕ
look_up live i k [] = fine []
look_up live i k (v ∷ vs) = join (found (position_from 0 v live) (NoNumber i k)) (look_up live i (suc k) vs)

unfoldable pub numbers_among : List ℕ → Tables → Visit ℕ → Listing ℕ
numbers_among sheet x u =
    join (look_up u.live u.op 0 (operands x u.op))
    (join (counted (fixed_count_in sheet (opcode x u.op)) u.op (length (result_types x u.op)))
    (values_there x u.op))

unfoldable pub direct : List ℕ → Tables → Listing ℕ
direct sheet x = fold_entries listings ◌++◌ (numbers_among sheet x) (valued x)
