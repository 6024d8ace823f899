-- `cell` in a whole row reads the cell itself. Assumes nothing.
use mathlib.Core.Path.{sym, ap, ◌∙◌}
use Prim.Native.Nat.{◌+◌, ◌*◌, ◌<◌}
use native.Mathlib.Omega.{arith}
use lib.ListN.{length}
use Rattle.cells.proofs.Parts.{get_or_within}
use Rattle.cells.proofs.Rows.{cells_whole}
use Rattle.cells.proofs.cell.Goals as goal

pub returns-then-is_whole : goal.returns-then-is_whole
returns-then-is_whole g c =
    let a = c.args in
    let within = (cells_whole (length a.s.now) a.width a.row a.column 1 (sym c.is_whole.ensures ∙ c.if-is_whole.true)).1 in
    c.widen.ensures ∙ ap g.T.Word.number (c.index-s-row.is ∙ get_or_within a.s.now _ _ _ (omega (arith, within)))
