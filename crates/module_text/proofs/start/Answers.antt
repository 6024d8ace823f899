-- `start` meets its contract.
use mathlib.Core.Path.{◌∙◌, ap}
use Rattle.tables.specs.Tables.{lent}
use Rattle.tables.specs.Answer.{Answer}
use Rattle.house.specs.House.{no_counts}
use Rattle.house.specs.Step.{state_of, settled}
use Rattle.house.specs.declared.Reading.{Reading}
use Rattle.module_text.specs.Whole.{fresh, started}
use Rattle.module_text.proofs.Ways.{first_settled}
use Rattle.module_text.proofs.start.Goals as goal

pub returns : goal.returns
returns c =
    let p = c.args in
    let x = lent p.t.now p.v.now p.o.now p.a.now p.b.now p.r.now p.f.now p.l.now no_counts in
    c.settle.ensures ∙ ap (λ (y : Reading). settled (state_of y x)) c.first_reading.ensures ∙ first_settled c.room-answer.result x
    ∙ ap (λ (y : Answer). started y (fresh x)) c.room-answer.ensures
