-- `place_lines` meets its contract: the lines after `ok`.
use mathlib.Core.Path.{◌≡◌, sym, ap, ◌∙◌}
use Rattle.printing.specs.Laid.{state, laid}
use Rattle.printing.specs.Lines.{ok_line, lines, place_lines}
use Rattle.printing.proofs.Laws.{laid_append, counted}
use Rattle.printing.proofs.place_lines.Goals as goal

pub returns : goal.returns
unfolding place_lines
returns c =
    let a = c.args in
    let t = lines 112 59 3 0 a.lengths.now a.places.now in
    let e : state c.push_lines.result c.push_lines.new.out ≡ laid (place_lines a.places.now a.lengths.now) (state 0 a.out.now) =
    c.push_lines.ensures ∙ ap (laid t) c.push_ok-next.ensures ∙ sym (laid_append ok_line t (state 0 a.out.now)) in
    record { laid = e; room = counted (place_lines a.places.now a.lengths.now) c.push_lines.result c.push_lines.new.out a.out.now e }
