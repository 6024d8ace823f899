-- `check`: 16, then 1 to 4 with the sheet, then the parts. Assumes nothing.
use Rattle.std.proofs.Common.{rules, ◌≡◌}
use native.Mathlib.Omega.{arith}
use mathlib.Core.Path.{refl, sym, ◌∙◌}
use Rattle.std.specs.Prelude.{Err}
use Rattle.table_checks.proofs.Laws.{tables_pass}
use Rattle.table_checks.proofs.Handed.{refused_is, fine_is}
use Rattle.rule_check.proofs.Handed.{sheet_order}
use Rattle.full_check.proofs.Parts.{target_stops, checks_stop, checks_pass}
use Rattle.full_check.proofs.check.Goals as goal

pub returns-in_err-check_target : goal.returns-in_err-check_target
returns-in_err-check_target c =
    let p = c.args in
    let r : c.from_residual.result ≡ Err c.in_err-check_target.field-0.0 = search rules in
    rw r (target_stops p.g p.sheet.now p.x.now p.numbers.now p.lengths.now (sym c.check_target.ensures ∙ c.in_err-check_target.was))

pub returns-in_err-count : goal.returns-in_err-count
returns-in_err-count c =
    let p = c.args in
    let t = sym c.check_target.ensures ∙ c.in_ok-check_target.was in
    let r : c.from_residual-in_err-count.result ≡ Err c.in_err-count.field-0.0 = search rules in
    rw r (checks_stop p.g p.sheet.now p.x.now p.numbers.now p.lengths.now t (refused_is _ _ c.in_err-count.was c.check_with_sheet.ensures.0))

pub returns : goal.returns
returns c =
    let p = c.args in
    let x = p.x.now in
    let t = sym c.check_target.ensures ∙ c.in_ok-check_target.was in
    let h = c.check_with_sheet.ensures in
    let e = c.in_ok-count.was in
    let passed = fine_is _ _ e h.0 in
    let order = c.entries-order.ensures ∙ sheet_order p.sheet.now x _ _ e h.0 (omega arith) in
    c.after_checks.ensures (tables_pass p.sheet.now x passed) order (h.1 passed (refl, refl))
    ∙ checks_pass p.g p.sheet.now x p.numbers.now p.lengths.now t passed
