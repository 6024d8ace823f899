-- `fill_claims`: the claims of the values from the last on, down to the first. Assumes nothing.
use Prim.Native.Nat.{ℕ, ◌+◌}
use mathlib.Core.Path.{◌≡◌}
use mathlib.Core.List.{List}
use Rattle.tables.specs.Tables.{Tables, declared, claim}
use Rattle.listed.proofs.Find.{later}
use Rattle.values.specs.Claims.{put_claim, claims_by}
use Rattle.values.proofs.fill_claims.Given as goal

-- what is done for one value
abbrev pub put : Tables → List ℕ → ℕ → List ℕ → List ℕ
put x bases v = put_claim (declared x) bases (v + 1) (claim x v)

abbrev pub invariant-loop-value : goal.invariant-loop-value
invariant-loop-value z = z.claims ≡ claims_by (put z.x z.bases) (later z.x.counts.values z.value) z.initial.claims
