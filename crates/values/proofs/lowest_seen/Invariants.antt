-- `lowest_seen`: a search along the values. Assumes nothing.
use Prim.Native.Nat.{ℕ, ◌+◌}
use mathlib.Core.Path.{◌≡◌}
use mathlib.Core.Bool.{Bool}
use mathlib.Core.List.{List}
use lib.ListN.{get_or}
use Rattle.cells.specs.Lists.{find}
use Rattle.tables.specs.Tables.{Tables, declared, claim}
use Rattle.listed.proofs.Find.{later}
use Rattle.values.specs.Claims.{seen_twice, lowest_seen}
use Rattle.values.proofs.lowest_seen.Given as goal

-- what is asked of one value
abbrev pub seen : Tables → List ℕ → List ℕ → List ℕ → ℕ → Bool
seen x marks bases claims v = seen_twice (declared x) bases claims (get_or marks v 0) (v + 1) (claim x v)

abbrev pub invariant-loop-value : goal.invariant-loop-value
invariant-loop-value z =
    find (seen z.x z.marks z.claims.bases.now z.claims.claims.now) (later z.x.counts.values z.value)
    ≡ lowest_seen z.x z.marks z.claims.bases.now z.claims.claims.now
