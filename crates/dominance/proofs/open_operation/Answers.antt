-- `open_operation`: an operation's operands, then its results. Assumes nothing.
use mathlib.Core.Path.{sym, ap, ◌∙◌}
use Rattle.std.proofs.lemmas.Result.{err_from_is_err_and}
use Rattle.nesting.specs.Dominance.{judge}
use Rattle.dominance.proofs.Walks.{stopped}
use Rattle.dominance.proofs.open_operation.Goals as goal

pub returns-in_err-judge_operands-clause-went : goal.returns-in_err-judge_operands-clause-went
returns-in_err-judge_operands-clause-went g c = λ t v a tells live h.
    let p = err_from_is_err_and c.from_residual.result c.from_residual.ensures.1 in
    rw (p.1, p.2)
    (stopped (sym c.in_err-judge_operands.was ∙ c.judge_operands.ensures _ live h.shown ∙ ap (judge live c.args.id 0) c.operands.ensures))

pub returns-clause-went : goal.returns-clause-went
returns-clause-went g c = λ t v a tells live h. record {
  answer = sym c.in_ok-judge_operands.was ∙ c.judge_operands.ensures _ live h.shown ∙ ap (judge live c.args.id 0) c.operands.ensures;
  stands = c.add_results.ensures.shows t v a tells live h;
}
