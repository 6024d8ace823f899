-- Rows as they stand in the slices (tables/specs/Layout.antt).
use Rattle.std.specs.Prelude.{ℕ, ◌+◌, List, [], ◌∷◌, ◌++◌, length, replicate, take}
use Rattle.lines.specs.Line.{TypeRow, ValueRow, OperationRow, AttributeRow, BlockRow}

abbrev pub padded : ℕ → List ℕ → List ℕ
padded n xs = take n (xs ++ replicate n 0)

abbrev pub type_cells : TypeRow → List ℕ
type_cells w = w.form ∷ w.kind ∷ w.pointer ∷ w.padded ∷ w.sparse ∷ length w.dims ∷ 0 ∷ 0 ∷ padded 8 w.dims

abbrev pub value_cells : ValueRow → List ℕ
value_cells w = w.type ∷ w.claims ∷ w.operation ∷ w.index ∷ []

-- its lists stand one after the other from `at` on, its attributes are to follow from `first` on
abbrev pub operation_cells : ℕ → ℕ → OperationRow → List ℕ
operation_cells at first w =
    w.opcode ∷ at ∷ length w.results ∷ (at + length w.results) ∷ length w.operands
    ∷ (at + length w.results + length w.operands) ∷ length w.regions ∷ first ∷ 0 ∷ replicate 7 0

abbrev pub attribute_cells : ℕ → AttributeRow → List ℕ
attribute_cells at w = w.name ∷ w.form ∷ at ∷ length w.numbers ∷ w.missing ∷ 0 ∷ 0 ∷ 0 ∷ []

abbrev pub block_cells : ℕ → BlockRow → List ℕ
block_cells at w = at ∷ length w.arguments ∷ (at + length w.arguments) ∷ length w.operations ∷ []

abbrev pub region_cells : ℕ → List ℕ → List ℕ
region_cells at blocks = at ∷ length blocks ∷ []
