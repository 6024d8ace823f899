-- `dominance`: codes 1 to 4, then the walk over the claims that they found. Assumes nothing.
use mathlib.Core.Path.{refl, ◌∙◌}
use Rattle.std.proofs.lemmas.Result.{err_from_is_err_and}
use Rattle.table_checks.proofs.Handed.{refused_is, fine_is}
use Rattle.dominance.proofs.Passed.{alone_goes, alone_stops}
use Rattle.dominance.proofs.dominance.Goals as goal

pub returns-in_err-check_tables : goal.returns-in_err-check_tables
returns-in_err-check_tables c =
    let p = err_from_is_err_and c.from_residual.result c.from_residual.ensures.1 in
    rw (p.1, p.2) (alone_stops c.args.x.now (refused_is _ _ c.in_err-check_tables.was c.check_tables.ensures.0))

pub returns : goal.returns
returns c =
    let x = c.args.x.now in
    let h = c.check_tables.ensures in
    let passed = fine_is _ _ c.in_ok-check_tables.was h.0 in
    c.after_checks.ensures x.t x.v x.a passed (h.1 passed (refl, refl)) ∙ alone_goes x passed
