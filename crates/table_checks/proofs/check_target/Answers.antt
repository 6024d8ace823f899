-- `check_target`: the version first, then the sm. Assumes nothing.
use mathlib.Core.Path.{sym, ◌∙◌}
use Rattle.table_checks.specs.Checks.{target_check}
use Rattle.table_checks.proofs.check_target.Goals as goal

pub returns-then-not-is_version : goal.returns-then-not-is_version
unfolding target_check
returns-then-not-is_version c =
    rw (sym c.is_version.ensures ∙ c.if-not-is_version.true)

pub returns-in-Some : goal.returns-in-Some
unfolding target_check
returns-in-Some c =
    rw (sym c.is_version.ensures ∙ c.if-not-is_version.false, sym c.target_requirement.ensures ∙ c.in-Some.is)

pub returns-in-None : goal.returns-in-None
unfolding target_check
returns-in-None c =
    rw (sym c.is_version.ensures ∙ c.if-not-is_version.false, sym c.target_requirement.ensures ∙ c.in-None.is)
