-- `add_results`: the values of an operation's declared results, one by one. Assumes nothing.
use Prim.Native.Nat.{◌<◌}
use native.Mathlib.Omega.{arith}
use mathlib.Core.Path.{sym, ap, ◌∙◌}
use lib.ListN.{length}
use Rattle.tables.specs.Tables.{result_types}
use Rattle.tables.specs.Value.{value_of}
use Rattle.nesting.specs.Live.{result_values}
use Rattle.dominance.proofs.Operation.{taking_one, taking_skip, taking_end, told_none, told_some}
use Rattle.dominance.proofs.Walks.{beside}
use Rattle.dominance.proofs.add_results.Goals as goal
use Rattle.dominance.proofs.add_results.Goals.{in-Some, in_default}

pub loop-k-preserved : goal.loop-k-preserved
loop-k-preserved g c =
    let x = c.args.x.now in
    let lp = c.loop-k in
    let k : lp.k < length (result_types x c.args.id) = omega (arith, c.loop-k-test.true, ap length c.result_types.ensures) in
    elim c.match-value_at.branch [
      | in-Some w ↦ rw (w.s-is, w.stack-is) (
        w.add-s.ensures.depth_value ∙ lp.invariant.0,
        λ t v a tells live h.
            let got = lp.invariant.1 t v a tells live h in
            taking_one got k (told_some _ (value_of (beside x t v a) c.args.id lp.k) (sym c.value_at.ensures ∙ w.in-Some.is) (tells c.args.id lp.k k)) (w.add-s.ensures.by_index _ got.now_live got.stands),
      )
      | in_default w ↦ rw (w.s-is, w.stack-is) (
        lp.invariant.0,
        λ t v a tells live h.
            let got = lp.invariant.1 t v a tells live h in
            taking_skip got k (told_none _ (value_of (beside x t v a) c.args.id lp.k) (sym c.value_at.ensures ∙ w.in_default.is) (tells c.args.id lp.k k)),
      )
    ]

pub returns-clause-shows : goal.returns-clause-shows
unfolding result_values
returns-clause-shows g c = λ t v a tells live h. taking_end (c.loop-k.invariant.1 t v a tells live h) (omega (arith, c.loop-k-test.false, ap length c.result_types.ensures))
