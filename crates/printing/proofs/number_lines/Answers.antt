-- `number_lines` meets its contract: the lines after `ok`.
use mathlib.Core.Path.{◌≡◌, sym, ap, ◌∙◌}
use Rattle.printing.specs.Laid.{state, laid}
use Rattle.printing.specs.Lines.{ok_line, lines, number_lines}
use Rattle.printing.proofs.Laws.{laid_append, counted}
use Rattle.printing.proofs.number_lines.Goals as goal

pub returns : goal.returns
unfolding number_lines
returns c =
    let a = c.args in
    let t = lines 110 44 1 0 a.lengths.now a.numbers.now in
    let e : state c.push_lines.result c.push_lines.new.out ≡ laid (number_lines a.numbers.now a.lengths.now) (state 0 a.out.now) =
    c.push_lines.ensures ∙ ap (laid t) c.push_ok-next.ensures ∙ sym (laid_append ok_line t (state 0 a.out.now)) in
    record { laid = e; room = counted (number_lines a.numbers.now a.lengths.now) c.push_lines.result c.push_lines.new.out a.out.now e }
