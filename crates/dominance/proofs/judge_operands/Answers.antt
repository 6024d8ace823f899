-- `judge_operands`: the first operand that is not live. Assumes nothing.
use mathlib.Core.Path.{sym, ◌∙◌}
use Rattle.dominance.proofs.Operation.{judge_more, judge_hidden, judge_end}
use Rattle.dominance.proofs.judge_operands.Goals as goal

pub returns-then-not-is_live : goal.returns-then-not-is_live
returns-then-not-is_live g c = λ nv live s.
    judge_hidden live _ _ _ _ (c.loop-k.invariant nv live s) c.loop-k-test.true
    (sym (c.is_live.ensures nv live s) ∙ c.if-not-is_live.true)

pub loop-k-preserved : goal.loop-k-preserved
loop-k-preserved g c = λ nv live s.
    judge_more live _ _ _ _ (c.loop-k.invariant nv live s) c.loop-k-test.true
    (sym (c.is_live.ensures nv live s) ∙ c.if-not-is_live.false)

pub returns : goal.returns
returns g c = λ nv live s. judge_end live _ _ _ _ (c.loop-k.invariant nv live s) c.loop-k-test.false
