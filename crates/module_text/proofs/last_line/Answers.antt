-- `last_line` meets its contract.
use mathlib.Core.Path.{◌∙◌, ap}
use Rattle.tables.specs.Tables.{lent}
use Rattle.house.specs.House.{no_counts}
use Rattle.house.specs.Step.{state_of, settled}
use Rattle.house.specs.declared.Reading.{Reading}
use Rattle.module_text.proofs.Ways.{last_kept, last_settled}
use Rattle.module_text.proofs.last_line.Goals as goal

pub returns-in-Err : goal.returns-in-Err
returns-in-Err c =
    let p = c.args in
    last_kept p.s (lent p.t.now p.v.now p.o.now p.a.now p.b.now p.r.now p.f.now p.l.now no_counts) p.left _ c.in-Err.is

pub returns-in-Ok : goal.returns-in-Ok
returns-in-Ok c =
    let p = c.args in
    let x = lent p.t.now p.v.now p.o.now p.a.now p.b.now p.r.now p.f.now p.l.now no_counts in
    c.settle.ensures ∙ ap (λ (y : Reading). settled (state_of y x)) c.last_reading.ensures ∙ last_settled p.s x p.left c.in-Ok.is
