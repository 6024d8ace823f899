-- The checks of the nesting in turn, and what the nesting has where they accept. Assumes nothing.
use Prim.Native.Nat.{ℕ}
use mathlib.Core.Path.{◌≡◌, ap, sym, ◌∙◌}
use Rattle.tables.specs.Tables.{Tables, cut}
use Rattle.tables.specs.Answer.{and_then, Answer}
use Rattle.std.specs.Prelude.{Result, Ok, Err}
use Rattle.tables.specs.declared.Refusal.{Refusal}
use Rattle.listed.specs.Twice.{listed_twice}
use Rattle.listed.specs.Once.{Once}
use Rattle.tables.proofs.Each.{ends, goes_on, both_accept}
use Rattle.listed.proofs.Laws.{once}
use Rattle.walk.specs.Depth.{too_deep}
use Rattle.walk.specs.Written.{told}
use Rattle.nesting_check.specs.Checks.{nesting_ranges, nesting_checks}
use Rattle.nesting_check.proofs.Ranged.{Nested, nested, cut_same}

-- code 2 looks at counts cut at the sizes: at all there is
pub listed_same : (x : Tables) → nesting_ranges x ≡ Ok tt → listed_twice (cut x) ≡ listed_twice x
listed_same x e = cut_same x (nested x e)

-- what codes 1 and 2 hand over
pub passed : (x : Tables) → nesting_checks x ≡ Ok tt → Nested x × Once x
unfolding nesting_checks
passed x e =
    let p = both_accept (nesting_ranges x) (and_then (listed_twice x) (too_deep x)) e in
    let q = both_accept (listed_twice x) (too_deep x) p.1 in
    (nested x p.0, once x q.0)
