-- `after_checks`: the walk; a refusal clears both lists. Assumes nothing.
use Prim.Native.Nat.{ℕ}
use mathlib.Core.Path.{sym, ap, ◌∙◌}
use lib.ListN.{replicate}
use Rattle.tables.specs.Tables.{Tables, lent}
use Rattle.numbering.specs.Alone.{sizes}
use Rattle.numbering.proofs.Passed.{walk_is, told_kept, told_cleared}
use Rattle.numbering.proofs.after_checks.Goals as goal

pub returns-then-is_err : goal.returns-then-is_err
returns-then-is_err c = λ t v a passed filled hn hl.
    let y : Tables = lent t v c.args.x.now.o a c.args.x.now.b c.args.x.now.r c.args.x.now.f c.args.x.now.l c.args.x.now.counts in
    told_cleared (sizes y) _ _ c.args.numbers.now c.args.lengths.now c.visit_all-numbered.result
    (c.visit_all-numbered.ensures t v a passed filled hn hl) (sym c.is_err.ensures.value ∙ c.if-is_err.true) (walk_is y passed c.args.sheet.now)
    (c.clear.ensures ∙ ap (λ (k : ℕ). replicate k 0) c.visit_all-numbered.auto.numbers)
    (c.clear-then-is_err.ensures ∙ ap (λ (k : ℕ). replicate k 0) c.visit_all-numbered.auto.lengths)

pub returns-else-is_err : goal.returns-else-is_err
returns-else-is_err c = λ t v a passed filled hn hl.
    let y : Tables = lent t v c.args.x.now.o a c.args.x.now.b c.args.x.now.r c.args.x.now.f c.args.x.now.l c.args.x.now.counts in
    told_kept (sizes y) _ _ c.args.numbers.now c.args.lengths.now c.visit_all-numbered.result
    (c.visit_all-numbered.ensures t v a passed filled hn hl) (sym c.is_err.ensures.value ∙ c.if-is_err.false) (walk_is y passed c.args.sheet.now)
