-- `push_list` meets its contract. The loop's invariant: what is still to be laid, from here, gives what was to be laid after the first entry.
use native.Mathlib.Omega.{arith}
use Prim.Native.Nat.{ℕ, ◌+◌}
use mathlib.Core.Path.{sym, ap, ◌∙◌}
use mathlib.Core.List.{List}
use lib.ListN.{drop, get_or}
use Rattle.printing.specs.Laid.{state, pushed, laid}
use Rattle.printing.specs.Lines.{decimal, others}
use Rattle.printing.proofs.Laws.{parted_none, parted_first, others_step, others_end}
use Rattle.printing.proofs.push_list.Goals as goal

pub returns-then-is_empty : goal.returns-then-is_empty
unfolding laid
returns-then-is_empty c =
    let a = c.args in
    sym (ap (λ (l : List ℕ). laid l (state a.at a.out.now)) (parted_none a.outer a.list.now (grind arith)))

pub loop-i-preserved : goal.loop-i-preserved
loop-i-preserved c =
    let a = c.args in
    let lp = c.loop-i in
    let s = state lp.next lp.out in
    let x = get_or a.list.now lp.i 0 in (
      c.push_marked-next.auto.out ∙ lp.invariant.0,
      omega arith,
      ap (laid (others a.outer (lp.i + 1) (drop (lp.i + 1) a.list.now)))
          (c.push_marked-next.ensures ∙ ap (λ (m : ℕ). laid (decimal x) (pushed s m)) c.mark_at.ensures)
          ∙ sym (others_step a.outer lp.i a.list.now s c.loop-i-test.true)
          ∙ lp.invariant.2,
    )

pub returns : goal.returns
returns c =
    let a = c.args in
    let lp = c.loop-i in
    sym (others_end a.outer lp.i a.list.now (state lp.next lp.out) c.loop-i-test.false)
    ∙ lp.invariant.2
    ∙ ap (laid (others a.outer 1 (drop 1 a.list.now))) c.push_number-next.ensures
    ∙ sym (parted_first a.outer a.list.now (state a.at a.out.now) (omega arith))
