-- `check_alone`: 16, then 1 to 4, then the operations in walk order. Assumes nothing.
use Rattle.std.proofs.Common.{rules, ◌≡◌}
use native.Mathlib.Omega.{arith}
use mathlib.Core.Path.{sym, ap, ◌∙◌}
use Rattle.std.specs.Prelude.{Err}
use Rattle.tables.specs.Answer.{and_then, Answer}
use Rattle.walk.specs.Order.{order}
use Rattle.table_checks.specs.Checks.{target_check, table_checks}
use Rattle.table_checks.proofs.Handed.{refused_is, fine_is, order_is}
use Rattle.capabilities.specs.Ask.{capabilities}
use Rattle.capability_check.specs.Alone.{capabilities_alone}
use Rattle.capability_check.proofs.check_alone.Goals as goal

pub returns-in_err-check_target : goal.returns-in_err-check_target
unfolding capabilities_alone
returns-in_err-check_target c =
    let r : c.from_residual.result ≡ Err c.in_err-check_target.field-0.0 = search rules in
    let t = sym c.check_target.ensures ∙ c.in_err-check_target.was in
    rw (r, t)

pub returns-in_err-count : goal.returns-in_err-count
unfolding capabilities_alone
returns-in_err-count c =
    let r : c.from_residual-in_err-count.result ≡ Err c.in_err-count.field-0.0 = search rules in
    let t = sym c.check_target.ensures ∙ c.in_ok-check_target.was in
    let k = refused_is _ _ c.in_err-count.was c.check_tables.ensures.0 in
    rw (r, t, k)

pub returns : goal.returns
unfolding capabilities_alone
returns c =
    let x = c.args.x.now in
    let t = sym c.check_target.ensures ∙ c.in_ok-check_target.was in
    let h = c.check_tables.ensures.0 in
    let e = c.in_ok-count.was in
    let k = fine_is _ _ e h in
    let list = c.entries-order.ensures ∙ order_is x _ _ e h (omega arith) in
    rw (t, k) (c.check_capabilities.ensures ∙ ap (capabilities c.args.g x) list)
