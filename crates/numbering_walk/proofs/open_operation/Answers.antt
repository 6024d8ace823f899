-- `open_operation`: an operation's operands, its count, then its results. Assumes nothing.
use mathlib.Core.Path.{sym, ap, ◌∙◌}
use Rattle.std.proofs.lemmas.Result.{err_from_is_err_and}
use Rattle.tables.specs.Tables.{Tables, lent}
use Rattle.numbering_walk.specs.Walk.{judged}
use Rattle.numbering_walk.proofs.Walks.{stopped, stands_is}
use Rattle.numbering_walk.proofs.Operation.{open_stops, count_stops, open_goes}
use Rattle.numbering_walk.proofs.open_operation.Goals as goal

pub returns-in_err-looked-clause-went : goal.returns-in_err-looked-clause-went
returns-in_err-looked-clause-went c = λ t v a b r f tells live h.
    let y : Tables = lent t v c.args.x.now.o a b r f c.args.x.now.l c.args.x.now.counts in
    let p = err_from_is_err_and c.from_residual.result c.from_residual.ensures.1 in
    rw (p.1, p.2)
    (stopped (open_stops c.args.sheet.now y c.args.id live c.operands.ensures (c.look_up.ensures.by_index _ live h) c.in_err-looked.was))

pub returns-in_err-check_count-clause-went : goal.returns-in_err-check_count-clause-went
returns-in_err-check_count-clause-went c = λ t v a b r f tells live h.
    let y : Tables = lent t v c.args.x.now.o a b r f c.args.x.now.l c.args.x.now.counts in
    let p = err_from_is_err_and c.from_residual-in_err-check_count.result c.from_residual-in_err-check_count.ensures.1 in
    rw (p.1, p.2)
    (stopped
    (count_stops c.args.sheet.now y c.args.id live c.operands.ensures (c.look_up.ensures.by_index _ live h) c.in_ok-looked.was
    (ap judged (sym c.in_err-check_count.was) ∙ c.check_count.ensures)))

pub returns-clause-went : goal.returns-clause-went
returns-clause-went c = λ t v a b r f tells live h.
    let y : Tables = lent t v c.args.x.now.o a b r f c.args.x.now.l c.args.x.now.counts in
    let looked = c.look_up.ensures.by_index _ live h in
    open_goes c.args.sheet.now y c.args.id live c.operands.ensures looked c.in_ok-looked.was
    (ap judged (sym c.in_ok-check_count.was) ∙ c.check_count.ensures)
    (c.add_results.ensures.went t v a b r f _ tells live (stands_is looked c.in_ok-looked.was))
