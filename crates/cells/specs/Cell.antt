-- What a lent table holds: cells in rows of a fixed width, and lists that stand as spans of one table of entries.
-- A table is the list of its cells; a cell past its end reads as 0 and is never written.
use Rattle.std.specs.Prelude.{ℕ, ◌+◌, ◌*◌, List, ◌++◌, length, get_or, set, take, drop}
use Rattle.cells.specs.declared.Span.{Span}

-- the cell of row i and column j, in rows of w cells
abbrev pub cell : ℕ → List ℕ → ℕ → ℕ → ℕ
cell w xs i j = get_or xs (i * w + j) 0

-- x at that cell
abbrev pub put_cell : ℕ → List ℕ → ℕ → ℕ → ℕ → List ℕ
put_cell w xs i j x = set xs (i * w + j) x

-- a list's span stands in two columns: where its entries start, and how many there are
abbrev pub span_at : ℕ → List ℕ → ℕ → ℕ → Span
span_at w xs i j = record { start = cell w xs i j; len = cell w xs i (j + 1) }

-- the entries of a span, as far as the table of entries goes
abbrev pub entries_of : List ℕ → Span → List ℕ
entries_of l s = take s.len (drop s.start l)

-- the n entries from the cell of row i and column j on, as far as the table goes
abbrev pub part_at : ℕ → List ℕ → ℕ → ℕ → ℕ → List ℕ
part_at w xs i j n = take n (drop (i * w + j) xs)

-- as many entries as both have, from the front; the rest of the target stays
abbrev pub copied : {A : Type 0} → List A → List A → List A
copied from to = take (length to) from ++ drop (length from) to
