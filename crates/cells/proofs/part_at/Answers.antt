-- `part_at`: the entries from a cell on, as far as the table goes, for every row. Assumes nothing.
use Prim.Native.Nat.{◌+◌, ◌*◌, ◌≤◌}
use mathlib.Core.Path.{sym, ◌∙◌}
use lib.ListN.{length}
use Rattle.cells.proofs.Rows.{cells_whole}
use Rattle.cells.proofs.part_at.Goals as goal

pub slice_bounds-result-end : goal.slice_bounds-result-end
slice_bounds-result-end c =
    let within : let a = c.args in a.row * a.width + a.column + a.len ≤ length a.s.now = let a = c.args in
    (cells_whole (length a.s.now) a.width a.row a.column a.len (sym c.is_whole.ensures ∙ c.if-is_whole.true)).1 in
    within
