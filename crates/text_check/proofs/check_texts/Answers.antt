-- `check_texts`: the sheet, the module, and the check of what was read. Assumes nothing.
use Rattle.std.proofs.Common.{rules, ◌≡◌}
use mathlib.Core.Path.{◌∙◌}
use Rattle.std.specs.Prelude.{Err}
use Rattle.tables.specs.Tables.{lent}
use Rattle.house.specs.House.{no_counts}
use Rattle.text_check.proofs.Ways.{sheet_stops, both_read, read_stops, read_asked}
use Rattle.text_check.proofs.check_texts.Goals as goal

pub returns-in_err-read_sheet : goal.returns-in_err-read_sheet
returns-in_err-read_sheet c =
    let p = c.args in
    let x = lent p.t.now p.v.now p.o.now p.a.now p.b.now p.r.now p.f.now p.l.now no_counts in
    let r : c.from_residual.result ≡ Err c.in_err-read_sheet.field-0.0 = search rules in
    rw r (sheet_stops p.sheet_text.now p.text.now x p.sheet.now p.numbers.now p.lengths.now c.read_sheet.ensures.said c.read_sheet.ensures.entries c.in_err-read_sheet.was)

pub returns-in_err-answer : goal.returns-in_err-answer
returns-in_err-answer c =
    let p = c.args in
    let x = lent p.t.now p.v.now p.o.now p.a.now p.b.now p.r.now p.f.now p.l.now no_counts in
    let r : c.from_residual-in_err-answer.result ≡ Err c.in_err-answer.field-0.0 = search rules in
    rw r (both_read p.sheet_text.now p.text.now x p.sheet.now p.numbers.now p.lengths.now c.read_sheet.ensures.said c.read_sheet.ensures.entries
    c.in_ok-read_sheet.was c.read_module-s.ensures (read_stops _ _ _ _ c.in_err-answer.was))

pub returns : goal.returns
returns c =
    let p = c.args in
    let x = lent p.t.now p.v.now p.o.now p.a.now p.b.now p.r.now p.f.now p.l.now no_counts in
    both_read p.sheet_text.now p.text.now x p.sheet.now p.numbers.now p.lengths.now c.read_sheet.ensures.said c.read_sheet.ensures.entries
    c.in_ok-read_sheet.was c.read_module-s.ensures ((rw c.new-x.ensures at c.check.ensures) ∙ read_asked _ _ _ _ c.in_ok-answer.was)
