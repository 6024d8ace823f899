-- `push_lines` meets its contract. The loop's invariant: the lines still to be laid, from here, give all of them from the start.
use native.Mathlib.Omega.{arith}
use Prim.Native.Nat.{ℕ, ◌+◌}
use mathlib.Core.List.{List}
use mathlib.Core.Path.{sym, ap, ◌∙◌}
use lib.ListN.{drop}
use Rattle.printing.specs.Laid.{state, laid}
use Rattle.printing.specs.Lines.{line, lines}
use Rattle.printing.proofs.Laws.{lines_step, lines_end}
use Rattle.printing.proofs.push_lines.Goals as goal

pub loop-i-preserved : goal.loop-i-preserved
loop-i-preserved c =
    let a = c.args in
    let lp = c.loop-i in
    let m = c.place-cells.result in
    let s = state lp.next lp.out in (
      c.push_line-next.auto.out ∙ lp.invariant.0,
      omega arith,
      ap (λ (xs : List ℕ). laid (lines a.letter a.outer a.width (lp.i + 1) (drop (lp.i + 1) a.lengths.now) xs) (state c.push_line-next.result c.push_line-next.new.out)) c.split_at.ensures.back
          ∙ ap (laid (lines a.letter a.outer a.width (lp.i + 1) (drop (lp.i + 1) a.lengths.now) (drop m lp.left.now)))
          (c.push_line-next.ensures ∙ ap (λ (xs : List ℕ). laid (line a.letter a.outer lp.i xs) s) c.split_at.ensures.front)
          ∙ sym (lines_step a.letter a.outer a.width lp.i m a.lengths.now lp.left.now s c.loop-i-test.true c.place-cells.ensures)
          ∙ lp.invariant.2,
    )

pub returns : goal.returns
returns c =
    let a = c.args in
    let lp = c.loop-i in
    sym (lines_end a.letter a.outer a.width lp.i a.lengths.now lp.left.now (state lp.next lp.out) (omega arith))
    ∙ lp.invariant.2
