-- `visit_functions`: the functions in order, each on an empty stack. Assumes nothing.
use Prim.Native.Nat.{ℕ}
use native.Mathlib.Omega.{arith}
use mathlib.Core.Path.{sym, ap, ◌∙◌}
use mathlib.Core.List.{List, []}
use lib.ListN.{length, get_or}
use Rattle.std.proofs.lemmas.Result.{err_from_is_err_and}
use Rattle.tables.specs.Tables.{functions}
use Rattle.scope.proofs.Laws.{begins_same, holds_back}
use Rattle.dominance.specs.Walk.{told, function_judged}
use Rattle.dominance.proofs.Walks.{beside, stands_is, all_more, all_stop, all_end, whole_is}
use Rattle.dominance.proofs.visit_functions.Goals as goal

pub returns-in_err-visit_function : goal.returns-in_err-visit_function
returns-in_err-visit_function g c = λ t v a tells h.
    let x = beside c.args.x.now t v a in
    let at = c.loop-id.invariant t v a tells h in
    let went = c.visit_function.ensures t v a tells at.0 in
    let id = c.from.ensures ∙ ap (λ (xs : List ℕ). get_or xs c.loop-id.id-index 0) c.functions-id-items.ensures in
    let p = err_from_is_err_and c.from_residual.result c.from_residual.ensures.1 in
    rw (p.1, p.2)
    (all_stop (function_judged x) (functions x) c.loop-id.id-index _ at.1 (omega (arith, c.loop-id-test.true, ap length c.functions-id-items.ensures))
    (ap (function_judged x) (sym id) ∙ sym went.answer ∙ ap told c.in_err-visit_function.was)
    ∙ whole_is x)

pub loop-id-preserved : goal.loop-id-preserved
loop-id-preserved g c = λ t v a tells h.
    let x = beside c.args.x.now t v a in
    let at = c.loop-id.invariant t v a tells h in
    let went = c.visit_function.ensures t v a tells at.0 in
    let id = c.from.ensures ∙ ap (λ (xs : List ℕ). get_or xs c.loop-id.id-index 0) c.functions-id-items.ensures in (
      holds_back (stands_is went c.in_ok-visit_function.was) (begins_same []) h,
      all_more (function_judged x) (functions x) c.loop-id.id-index _ at.1 (omega (arith, c.loop-id-test.true, ap length c.functions-id-items.ensures))
          (ap (function_judged x) (sym id) ∙ sym went.answer ∙ ap told c.in_ok-visit_function.was),
    )

pub returns : goal.returns
returns g c = λ t v a tells h.
    let x = beside c.args.x.now t v a in
    all_end (function_judged x) (functions x) c.loop-id.id-index _ (c.loop-id.invariant t v a tells h).1 (omega (arith, c.loop-id-test.false, ap length c.functions-id-items.ensures))
    ∙ whole_is x
