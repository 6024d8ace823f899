-- `list_line` meets its contract where its list is read.
use native.Mathlib.Omega.{arith}
use mathlib.Core.Path.{◌∙◌, ap}
use Rattle.number_text.specs.Line.{kept}
use Rattle.number_text.proofs.Ways.{list_row}
use Rattle.number_text.proofs.list_line.Goals as goal

pub returns : goal.returns
returns c =
    let row = list_row c.args.so_far.functions c.args.so_far.count _ c.args.numbers.now _ _ _ (omega arith) (cc) c.part-list.ensures c.list_into.ensures in
    ap (λ r. kept r c.list_into.new.l) c.ok_or.ensures.value ∙ row
