-- What a stack of live values takes up as it stands.
use Rattle.std.specs.Prelude.{ℕ, ◌<◌, ◌≤◌, List, ◌++◌}
use Rattle.cells.specs.Lists.{count}
use Rattle.nesting.specs.In.{In}
use Rattle.nesting.specs.Shape.{Shape, Visit}

-- ids below n, none of them twice
pub record Fits (n : ℕ) (vs : List ℕ) : Type 0 where
  pub once : (v : ℕ) → count v vs ≤ 1
  pub values : (v : ℕ) → In v vs → v < n

-- what is live at a visit fits, and what becomes live by its operation
pub record FitsAt {A : Type 0} (fits : List A → Type 0) (s : Shape A) (u : Visit A) : Type 0 where
  pub live : fits u.live
  pub results : fits (u.live ++ s.results u.op)
  pub inner : fits (u.live ++ s.inner u.op)
