-- Which value is a declared result: the lowest that claims it. Where code 4 passes there is no second one.
use Rattle.std.specs.Prelude as std
use Rattle.std.specs.Prelude.{ℕ, Bool, false, ◌&&◌, eqb, Some, None}
use Rattle.std.proofs.Math.Option.{Option}
use Rattle.cells.specs.Lists.{below, find}
use Rattle.tables.specs.Tables.{Tables, claim}
use Rattle.tables.specs.declared.Claim.{Claim}

-- a claim is that of result k of operation i
abbrev pub is_claim : ℕ → ℕ → std.Option Claim → Bool
is_claim i k None = false
is_claim i k (Some c) = eqb c.operation i && eqb c.index k

unfoldable pub value_of : Tables → ℕ → ℕ → Option ℕ
value_of x i k = find (λ v. is_claim i k (claim x v)) (below x.counts.values)
