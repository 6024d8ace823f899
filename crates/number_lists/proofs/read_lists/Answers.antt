-- `read_lists` meets its contract.
use mathlib.Core.Path.{sym, ap, ◌∙◌}
use Rattle.std.proofs.lemmas.Result.{err_from_is_err_and}
use Rattle.nesting_check.specs.Checks.{nesting_checks}
use Rattle.number_lists.proofs.Laws.{checks_stop, lengths_stop, all_read}
use Rattle.number_lists.proofs.read_lists.Goals as goal

pub returns-in_err-check_nesting : goal.returns-in_err-check_nesting
returns-in_err-check_nesting c =
    let a = c.args in
    let p = err_from_is_err_and c.from_residual.result c.from_residual.ensures.1 in
    rw (p.1, p.2)
    (checks_stop a.o.now a.b.now a.r.now a.f.now a.l.now a.n a.numbers.now a.lengths.now a.places.now _
    (c.check_nesting.ensures ∙ ap nesting_checks c.nest-x.ensures) c.in_err-check_nesting.was)

pub returns-then-not-lists_fit : goal.returns-then-not-lists_fit
returns-then-not-lists_fit c =
    let a = c.args in
    lengths_stop a.o.now a.b.now a.r.now a.f.now a.l.now a.n a.numbers.now a.lengths.now a.places.now _
    (c.check_nesting.ensures ∙ ap nesting_checks c.nest-x.ensures) c.in_ok-check_nesting.was
    (sym c.lists_fit.ensures ∙ c.if-not-lists_fit.true)

pub returns : goal.returns
returns c =
    let a = c.args in
    c.read_back.ensures
    ∙ all_read a.o.now a.b.now a.r.now a.f.now a.l.now a.n a.numbers.now a.lengths.now a.places.now _
    (c.check_nesting.ensures ∙ ap nesting_checks c.nest-x.ensures) c.in_ok-check_nesting.was
    (sym c.lists_fit.ensures ∙ c.if-not-lists_fit.false)
