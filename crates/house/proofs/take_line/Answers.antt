-- `take_line` meets its contract.
use mathlib.Core.Path.{◌∙◌}
use Rattle.tables.specs.Tables.{lent}
use Rattle.house.specs.House.{no_counts}
use Rattle.house.proofs.Take.{line_kept, line_onward}
use Rattle.house.proofs.take_line.Goals as goal

pub returns-in-Err : goal.returns-in-Err
returns-in-Err c =
    let p = c.args in
    line_kept p.s (lent p.t.now p.v.now p.o.now p.a.now p.b.now p.r.now p.f.now p.l.now no_counts) p.line.now _ c.in-Err.is

pub returns-in-Ok : goal.returns-in-Ok
returns-in-Ok c =
    let p = c.args in
    c.settle.ensures ∙ c.next_reading-next.ensures ∙ line_onward p.s (lent p.t.now p.v.now p.o.now p.a.now p.b.now p.r.now p.f.now p.l.now no_counts) p.line.now c.in-Ok.is
