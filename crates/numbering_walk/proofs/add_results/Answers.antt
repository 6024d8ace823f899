-- `add_results`: the values of an operation's declared results, one by one, up to the first that is missing. Assumes nothing.
use Prim.Native.Nat.{ℕ, ◌<◌}
use native.Mathlib.Omega.{arith}
use mathlib.Core.Path.{sym, ap, ◌∙◌}
use lib.ListN.{length}
use Rattle.tables.specs.Tables.{Tables, lent, result_types}
use Rattle.tables.specs.Value.{value_of}
use Rattle.tables.specs.declared.Counts.{Counts}
use Rattle.scope.specs.Stack.{see}
use Rattle.nesting.specs.Live.{result_values, value_at}
use Rattle.numbering_walk.proofs.Walks.{stopped, by_count}
use Rattle.numbering_walk.proofs.Operation.{taking_more, taking_stop, taking_end, told_none, told_some, there_is}
use Rattle.numbering_walk.proofs.add_results.Goals as goal

pub returns-in_default-clause-went : goal.returns-in_default-clause-went
returns-in_default-clause-went c =
    let lp = c.loop-k in
    let k : lp.k < length (result_types c.args.x.now c.args.id) = omega (arith, c.loop-k-test.true, ap length c.result_types.ensures) in
    λ t v a b r f held tells live h.
    let y : Tables = lent t v c.args.x.now.o a b r f c.args.x.now.l c.args.x.now.counts in
    let missing = told_none _ (value_of y c.args.id lp.k) (sym c.value_at.ensures ∙ c.in_default.is) (tells c.args.id lp.k k) in
    stopped (taking_stop (lp.invariant.1 t v a b r f tells live h) k missing ∙ there_is y c.args.id)

pub loop-k-preserved : goal.loop-k-preserved
loop-k-preserved c =
    let lp = c.loop-k in
    let k : lp.k < length (result_types c.args.x.now c.args.id) = omega (arith, c.loop-k-test.true, ap length c.result_types.ensures) in (
      c.add-s.ensures.depth_value ∙ lp.invariant.0,
      λ t v a b r f tells live h.
          let y : Tables = lent t v c.args.x.now.o a b r f c.args.x.now.l c.args.x.now.counts in
          let got = lp.invariant.1 t v a b r f tells live h in
          let value = told_some _ (value_of y c.args.id lp.k) (sym c.value_at.ensures ∙ c.in-Some.is) (tells c.args.id lp.k k) in
          taking_more got k value (by_count (λ (m : ℕ). see m got.now_live c.in-Some.value) (ap (λ (n : Counts). n.values) c.counts.ensures) (c.add-s.ensures.by_index got.now_live) got.stands),
    )

pub returns-clause-went : goal.returns-clause-went
unfolding result_values value_at
returns-clause-went c = λ t v a b r f held tells live h.
    taking_end {u = c.loop-k.s} (c.loop-k.invariant.1 t v a b r f tells live h) {held = held} {done = c.args.from.done}
    (omega (arith, c.loop-k-test.false, ap length c.result_types.ensures))
