-- Where the fields of a line start.
use Rattle.std.specs.Prelude.{ℕ, zero, suc, ◌+◌, List}
use Rattle.fields.specs.Cut.{end_from}

-- field k, counted from 0, starts after the tab that ends the one before
unfoldable pub field_start : ℕ → List ℕ → ℕ
field_start zero s = 0
field_start (suc k) s = end_from 9 (field_start k s) s + 1
