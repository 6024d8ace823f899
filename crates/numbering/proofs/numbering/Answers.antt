-- `numbering`: codes 1 to 4, then the walk over the claims that they found, into lists of its own, then 13 and the lent lists. Assumes nothing.
use Prim.Native.Nat.{ℕ}
use native.Mathlib.Omega.{arith}
use mathlib.Core.Path.{refl, sym, ap, ◌∙◌}
use lib.ListN.{length-replicate}
use Rattle.std.proofs.lemmas.Result.{err_from_is_err_and}
use Rattle.tables.specs.Sizes.{max_entries, max_functions}
use Rattle.tables.specs.declared.Counts.{Counts}
use Rattle.nesting.specs.Numbering.{numbering}
use Rattle.table_checks.proofs.Laws.{tables_pass}
use Rattle.table_checks.proofs.Handed.{refused_is, fine_is}
use Rattle.numbering.specs.Alone.{sizes}
use Rattle.numbering.proofs.Passed.{sizes_long, alone_goes, alone_stops, refusal_handed, list_handed}
use Rattle.numbering.proofs.numbering.Goals as goal

pub returns-in_err-check_with_sheet : goal.returns-in_err-check_with_sheet
returns-in_err-check_with_sheet c =
    let a = c.args in
    let p = err_from_is_err_and c.from_residual.result c.from_residual.ensures.1 in
    rw (p.1, p.2) (alone_stops a.sheet.now a.x.now a.numbers.now a.lengths.now (refused_is _ _ c.in_err-check_with_sheet.was c.check_with_sheet.ensures.0))

pub returns-in_err-count : goal.returns-in_err-count
returns-in_err-count c =
    let a = c.args in
    let x = a.x.now in
    let h = c.check_with_sheet.ensures in
    let passed = fine_is _ _ c.in_ok-check_with_sheet.was h.0 in
    let filled =
    c.after_checks.ensures x.t x.v x.a (tables_pass a.sheet.now x passed) (h.1 passed (refl, refl)) (omega (arith, length-replicate {A = ℕ} max_entries 0))
    (omega (arith, length-replicate {A = ℕ} max_functions 0)) in
    let p = err_from_is_err_and c.from_residual-in_err-count.result c.from_residual-in_err-count.ensures.1 in
    rw (p.1, p.2)
    (refusal_handed (numbering a.sheet.now x) (sizes x) _ _ _ _ a.numbers.now a.lengths.now filled c.in_err-count.was
    ∙ alone_goes a.sheet.now x a.numbers.now a.lengths.now passed)

pub returns : goal.returns
returns c =
    let a = c.args in
    let x = a.x.now in
    let h = c.check_with_sheet.ensures in
    let passed = fine_is _ _ c.in_ok-check_with_sheet.was h.0 in
    let filled =
    c.after_checks.ensures x.t x.v x.a (tables_pass a.sheet.now x passed) (h.1 passed (refl, refl)) (omega (arith, length-replicate {A = ℕ} max_entries 0))
    (omega (arith, length-replicate {A = ℕ} max_functions 0)) in
    list_handed (numbering a.sheet.now x) (sizes x) _ _ _ _ a.numbers.now a.lengths.now filled c.in_ok-count.was (sizes_long x (tables_pass a.sheet.now x passed) ∙ sym (ap (λ (n : Counts). n.functions) c.counts.ensures))
    c.hand_over.ensures
    ∙ alone_goes a.sheet.now x a.numbers.now a.lengths.now passed
