-- `read_lines` meets its contract: the lines from the cursor on, after those before it, give what the whole text gives.
use native.Mathlib.Omega.{arith}
use mathlib.Core.Path.{◌∙◌, ap}
use Rattle.fields.proofs.Parts.{end_ge}
use Rattle.sheet.specs.Line.{kind_of, key_of, row_of, told}
use Rattle.sheet.specs.Sheet.{ended}
use Rattle.sheet.proofs.Whole.{at_end, at_far, at_bad, at_row}
use Rattle.sheet.proofs.read_lines.Goals as goal

pub returns-then-text-e : goal.returns-then-text-e
returns-then-text-e c =
    let l = c.loop-last in
    at_end (kind_of l.last) (key_of l.last) l.line l.p _ l.sheet c.args.text.now (omega arith) c.find-e.ensures c.if-text-e.true _ c.last_line.ensures
    ∙ ap ended l.invariant.3

pub returns-then-e-ge-MAX_TEXT : goal.returns-then-e-ge-MAX_TEXT
returns-then-e-ge-MAX_TEXT c =
    let l = c.loop-last in
    at_far (kind_of l.last) (key_of l.last) l.line l.p _ l.sheet c.args.text.now (omega arith) c.find-e.ensures c.if-text-e.false (omega arith)
    ∙ ap ended l.invariant.3

pub returns-in-Err : goal.returns-in-Err
returns-in-Err c =
    let l = c.loop-last in
    at_bad (kind_of l.last) (key_of l.last) l.line l.p _ l.sheet c.args.text.now (omega arith) c.find-e.ensures c.if-text-e.false (omega arith) _ c.between.ensures
    _ _ c.take_line.ensures _ (ap told c.in-Err.is)
    ∙ ap ended l.invariant.3

pub loop-last-smaller : goal.loop-last-smaller
loop-last-smaller c =
    omega (arith, end_ge 10 c.loop-last.p _ c.args.text.now (omega arith) c.find-e.ensures)

pub loop-last-preserved : goal.loop-last-preserved
loop-last-preserved c =
    let l = c.loop-last in
    let ge = end_ge 10 l.p _ c.args.text.now (omega arith) c.find-e.ensures in
    let kept = at_row (kind_of l.last) (key_of l.last) l.line l.p _ l.sheet c.args.text.now (omega arith) c.find-e.ensures c.if-text-e.false (omega arith) _ c.between.ensures _ _ c.take_line.ensures (row_of c.in-Ok.row) (ap told c.in-Ok.is) in
    (omega arith, omega arith, omega arith, kept ∙ l.invariant.3)
